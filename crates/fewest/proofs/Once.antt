-- No leaf both finishes and fails in a run: two entries of it would be two occurrences.
use mathlib.Core.Path.{◌≡◌, sym, ◌∙◌, ap}
use mathlib.Core.List.Memᴰ
use mathlib.Core.List.{[], ◌∷◌, append-nil}
use Prim.Native.Nat.{ℕ, ◌+◌, ◌≤◌}
use native.Mathlib.Omega.{arith}
use borrow.Author.Tests.{eq-eqb}
use Rattle.process.specs.Process.{Status, ok, fail, Process, entry, Run}
use Rattle.process.specs.Figure2.{Complete}
use Rattle.process.specs.Leaves.{AsWritten, Distinct}
use Rattle.process.specs.Depth.{most_undos, Shallow}
use Rattle.runs.specs.Beginnings.{occurrences}
use Rattle.runs.proofs.Beginnings.{beginnings}
use Rattle.reorder.specs.Entries.{Occurs, failures}
use Rattle.reorder.proofs.Leaves.{leaf_of}

-- an entry counts
here : {n m : ℕ} {s t : Status} (r : Run) → entry n s ≡ entry m t → occurrences n (entry m t ∷ r) ≡ 1 + occurrences n r
here {n} {m} r e = rw (eq-eqb n m (ap leaf_of e))

once : {n : ℕ} {s : Status} (r : Run) → Occurs (entry n s) r → 1 ≤ occurrences n r
once {n = n} {s = s} [] o = elim o [ ]
once (entry m t ∷ r) (Memᴰ.head e) = omega (arith, here r e)
once (entry m t ∷ r) (Memᴰ.tail o) = omega (arith, once r o)

-- and two outcomes count twice
twice : {n : ℕ} (r : Run) → Occurs (entry n ok) r → Occurs (entry n fail) r → 2 ≤ occurrences n r
twice {n = n} [] o _ = elim o [ ]
twice (entry m t ∷ r) (Memᴰ.head e) (Memᴰ.head f) = let z : ◌≡◌ {A = ℕ} 0 1 = ap (λ x. failures (x ∷ [])) (e ∙ sym f) in absurd (omega arith)
twice (entry m t ∷ r) (Memᴰ.head e) (Memᴰ.tail f) = omega (arith, here r e, once r f)
twice (entry m t ∷ r) (Memᴰ.tail e) (Memᴰ.head f) = omega (arith, here r f, once r e)
twice (entry m t ∷ r) (Memᴰ.tail e) (Memᴰ.tail f) = omega (arith, twice r e f)

pub one_outcome : (P : Process) → AsWritten P → Distinct P → Shallow P → {r : Run} {s : Status} → Complete P r s → (n : ℕ) → Occurs (entry n ok) r → Occurs (entry n fail) r → ⊥
one_outcome P w d h {r} {s} c n a b = omega (arith, (beginnings most_undos P w d h).once r ([], s, rw (append-nil r) c) n, twice r a b)
