-- A plan's place says its verdict and its run: the heading's four bytes are read back, and the record bytes follow them.
use mathlib.Core.Path.{◌≡◌, refl, sym, ap, ◌∙◌}
use mathlib.Core.List.{List, ◌++◌}
use Prim.Native.Nat.{ℕ, ◌≤◌}
use native.Mathlib.Omega.{arith}
use lib.ListN.{length, take, length-append}
use lib.Seq.{drop_at, take_all}
use borrow.Author.Tests.{le-ltb}
use Rattle.std.specs.Prelude.{Ok, Err}
use Rattle.judge.specs.Verdict.{Answer, record_size, told}
use Rattle.judge.specs.Shown.{shown_entries}
use Rattle.judge.specs.declared.Judgement.TheVariants.{Consistent, Violated}
use Rattle.judge.proofs.Numbers.{number_small}
use Rattle.place.specs.Place.{place_size, heading_of, Placed}
use Rattle.place.proofs.Places.{heading_long, placed_long}
use Rattle.sheet.specs.Said.{judgement_in, run_in, said_by, PlaceSays}

verdict_back : (v : Answer) (n : ℕ) (shown : List ℕ) → judgement_in (heading_of v n ++ shown) ≡ told v
verdict_back (Ok Consistent) n shown = refl
verdict_back (Ok (Violated set)) n shown = ap (λ (x : ℕ). Ok (Violated x)) (omega arith)
verdict_back (Err r) n shown = ap Err (omega (arith, number_small r))

run_back : (v : Answer) (n : ℕ) (shown : List ℕ) → length shown ≤ record_size → run_in (heading_of v n ++ shown) ≡ shown
run_back v n shown h = ap (take record_size) (drop_at (heading_of v n) shown 4 (heading_long v n)) ∙ take_all record_size shown h

pub place_says : PlaceSays
place_says f p x =
    let n = length (shown_entries x.shown) in
    let long = ap length (sym x.is) ∙ placed_long f p x in
    let both = length-append (heading_of x.verdict n) x.shown in
    let first = heading_long x.verdict n in
    (ap judgement_in x.is ∙ verdict_back x.verdict n x.shown, ap run_in x.is ∙ run_back x.verdict n x.shown (omega arith))

-- it has all its bytes
pub whole : (f p : List ℕ) → Placed f p → (text : List ℕ → List ℕ) → said_by text p ≡ text p
whole f p x text = let long = placed_long f p x in rw (le-ltb (length p) place_size (omega arith))
