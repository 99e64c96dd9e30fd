-- The lines of a verdict have room in a text: of a run of 126 bytes there are at most 63 lines, of at most 8 bytes each.
use mathlib.Core.Path.{◌≡◌}
use mathlib.Core.Bool.{Bool, true, false, cond}
use mathlib.Core.List.{List, [], ◌∷◌}
use Prim.Native.Nat.{ℕ, suc, ◌+◌, ◌*◌, ◌≤◌, ◌<◌}
use native.Mathlib.Omega.{arith}
use lib.Dec.{eqb}
use lib.ListN.{length, get_or, length-append}
use Rattle.text.specs.Decimal.{decimal}
use Rattle.text.specs.Lines.{numbered, refused}
use Rattle.text.proofs.Decimals.{decimal_of_byte}
use Rattle.text.proofs.Ends.{numbered_length, numbered_short}
use Rattle.state.specs.declared.Entry.{Entry}
use Rattle.judge.specs.Shown.{shown_entries}
use Rattle.std.specs.Prelude.{Result, Ok, Err}
use Rattle.judge.specs.declared.Judgement.{Judgement}
use Rattle.judge.specs.declared.Judgement.TheVariants.{Consistent, Violated}
use Rattle.report.specs.Lines.{entry_lines, run_lines, told_lines, violated}

entry_length : (leaf outcome : ℕ) → leaf < 256 → outcome < 256 → length (numbered (decimal leaf) outcome) ≤ 8
entry_length leaf outcome h k = omega (arith, numbered_length (decimal leaf) outcome, decimal_of_byte leaf (omega arith), decimal_of_byte outcome (omega arith))

-- every element is a byte
abbrev pub Bytes : List ℕ → Type 0
Bytes l = (k : ℕ) → k < length l → get_or l k 0 < 256

one_more : (stop : Bool) (leaf outcome m : ℕ) (es : List Entry) → leaf < 256 → outcome < 256 → length (entry_lines es) ≤ m
    → length (entry_lines (cond stop [] (record { leaf = leaf; outcome = outcome } ∷ es))) ≤ 8 + m
unfolding entry_lines
one_more true leaf outcome m es h k l = omega arith
one_more false leaf outcome m es h k l = rw (length-append (numbered (decimal leaf) outcome) (entry_lines es)) (omega (arith, entry_length leaf outcome h k))

run_length : (run : List ℕ) → Bytes run → length (run_lines run) ≤ 4 * length run
unfolding shown_entries entry_lines
run_length [] h = omega arith
run_length (a ∷ []) h = omega arith
run_length (a ∷ b ∷ run) h =
    let rest = run_length run (λ k l. h (suc (suc k)) (omega arith)) in
    let all = one_more (eqb b 0) a b (4 * length run) (shown_entries run) (h 0 (omega arith)) (h 1 (omega arith)) rest in
    omega arith

pub verdict_length : (v : Result Judgement ℕ) (run : List ℕ) → length run ≡ 126 → Bytes run → length (told_lines v run) ≤ 640
verdict_length (Ok Consistent) run e h = omega arith
verdict_length (Ok (Violated set)) run e h = rw (length-append (numbered violated set) (run_lines run)) (omega (arith, numbered_short violated set (omega arith), run_length run h))
verdict_length (Err n) run e h = omega (arith, numbered_short refused n (omega arith))
