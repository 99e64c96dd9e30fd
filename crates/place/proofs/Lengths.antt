-- A file of any length gets what its beginning gets. One that is longer than the largest plan file is refused, and by the number of its beginning (Demand 1).
use mathlib.Core.Path.{◌≡◌, refl, sym, ap, subst, ◌∙◌}
use mathlib.Core.Bool.{Bool, true, false}
use mathlib.Core.List.{List}
use Prim.Native.Nat.{ℕ, ◌≤◌, ◌<◌}
use native.Mathlib.Omega.{arith}
use lib.Dec.{leb}
use lib.ListN.{length, take}
use lib.Seq.{take_all, length-take-le}
use borrow.Author.Tests.{leb-true, leb-false}
use Rattle.plan.specs.PlanFile.{most_bytes}
use Rattle.plan.specs.Reading.{read_of}
use Rattle.plan.specs.declared.Fault.{Fault}
use Rattle.plan.specs.declared.Layout.{Layout}
use Rattle.std.specs.Prelude.{Result, Ok, Err}
use Rattle.plan.proofs.Demand1.{demand1}
use Rattle.judge.specs.Verdict.{Answer, work_size, record_size}
use Rattle.judge.specs.Record.{record_for}
use Rattle.judge.specs.declared.Refusal.TheVariants.{Plan}
use Rattle.judge.proofs.Demand3.{refused_file}
use Rattle.place.specs.Place.{place_of, zero_record, Placed, place_for, AnyLength}
use Rattle.place.proofs.Places.{one_place, place_for_lem}

-- a refused file's place has its number, and nothing else of it
refused_place : (f : List ℕ) (why : Fault) → read_of f ≡ Err why → place_for f ≡ place_of (Err (Plan why)) zero_record
refused_place f why e = ap (λ (v : Answer). place_of v (record_for f v zero_record)) (refused_file f work_size record_size (omega arith) (omega arith) why e)

module _ (f : List ℕ) (n : ℕ) (h : most_bytes < n) where
  long_place : n ≤ length f → (r : Result Layout Fault) → read_of (take n f) ≡ r → place_for (take n f) ≡ place_for f
  long_place k (Ok l) e = absurd (omega (arith, demand1.most (take n f) l e, length-take-le n f k))
  long_place k (Err why) e = refused_place (take n f) why e ∙ sym (refused_place f why (sym (demand1.beginning f n h k) ∙ e))

  same_place : (b : Bool) → leb n (length f) ≡ b → place_for (take n f) ≡ place_for f
  same_place true e = long_place (leb-true n (length f) e) (read_of (take n f)) refl
  same_place false e = ap place_for (take_all n f (omega (arith, leb-false n (length f) e)))

pub any_length : AnyLength
any_length f p n h x = subst (λ (q : List ℕ). Placed f q) (sym (one_place (take n f) p (place_for (take n f)) x (place_for_lem (take n f)) ∙ same_place f n h (leb n (length f)) refl)) (place_for_lem f)
