-- The work area after a plan was judged: what the fill left alone past the summaries, and what is cleared.
use mathlib.Core.Path.{◌≡◌, sym, ap, ap₂, ◌∙◌}
use mathlib.Core.List.{List, ◌++◌}
use Prim.Native.Nat.{ℕ, ◌+◌, ◌-◌, ◌*◌, ◌≤◌}
use native.Mathlib.Omega.{arith}
use lib.ListN.{length, get_or, take, drop, replicate, length-drop}
use lib.Seq.{get_or-drop, ext_get_or, length-take-le}
use Rattle.area.specs.Area.{summary_size}
use Rattle.sets.specs.Places.{most_places}
use Rattle.judge.specs.Verdict.{work_size}

-- past the summaries nothing has changed
pub kept_past : (places : ℕ) → places ≤ most_places → (old new : List ℕ) → length new ≡ length old → ((k : ℕ) → summary_size * places ≤ k → get_or new k 0 ≡ get_or old k 0)
    → drop work_size new ≡ drop work_size old
kept_past places few old new long kept =
    ext_get_or 0 (drop work_size new) (drop work_size old) (length-drop work_size new ∙ ap (λ (n : ℕ). n - work_size) long ∙ sym (length-drop work_size old))
    (λ i h. get_or-drop work_size new i 0 ∙ kept (work_size + i) (omega arith) ∙ sym (get_or-drop work_size old i 0))

-- the first n bytes of an area, filled with zeros
pub all_zeros : (n : ℕ) (area zeros : List ℕ) → n ≤ length area → zeros ≡ replicate (length (take n area)) 0 → zeros ≡ replicate n 0
all_zeros n area zeros h e = e ∙ ap (λ (k : ℕ). replicate k 0) (length-take-le n area h)

-- and what stands after them
pub zeros_first : (n : ℕ) (area old zeros : List ℕ) → zeros ≡ replicate n 0 → area ≡ old → zeros ++ drop n area ≡ replicate n 0 ++ drop n old
zeros_first n area old zeros e f = ap₂ (λ (x y : List ℕ). x ++ drop n y) e f
