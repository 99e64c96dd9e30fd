-- An entry may come, by the table of a run that begins, exactly where it continues that run: the theorem on beginnings, carried to the
-- plan's bytes.
use mathlib.Core.Path.{◌≡◌, refl, sym, ap, ◌∙◌}
use mathlib.Core.Bool.{Bool, true, false, not, cond, true≢false}
use mathlib.Core.List.{List, [], ◌∷◌, ◌++◌}
use mathlib.Core.Logic.{◌↔◌}
use Prim.Native.Nat.{ℕ, ◌/◌, ◌%◌, ◌^◌, ◌<◌}
use lib.Dec.{eqb}
use borrow.Author.Tests.{eqb-true, eq-eqb, ltb-true, lt-ltb}
use Rattle.blocks.proofs.Bounded.{both_true}
use Rattle.process.specs.Process.{Status, ok, fail, Kind, permits, Permits, Process, entry, Run}
use Rattle.process.specs.Depth.{most_undos}
use Rattle.nodes.specs.Nodes.{count, form}
use Rattle.plan.specs.PlanFile.{Runnable}
use Rattle.plan.specs.Tree.{type_kind, leaf_kind, process_of}
use Rattle.plan.proofs.Tree.{some_leaf, drawn}
use Rattle.runs.specs.Beginnings.{Begins, Beginnings}
use Rattle.runs.specs.Cells.{told_next}
use Rattle.runs.specs.declared.Told.{Told}
use Rattle.runs.proofs.Beginnings.{beginnings}
use Rattle.state.specs.State.{told_by, leaf_type, type_permits, is_next, leaf_permits, may_come}
use Rattle.state.proofs.LeafTypes.{type_finishes, type_fails, kind_type}
use Rattle.job.specs.Offer.{status_number}
use Rattle.job.proofs.Outcomes.{Stands, told_of}

-- what a type permits, as a kind and as a number
permits_type : (t : ℕ) (s : Status) → permits (type_kind t) s ≡ type_permits t (status_number s)
permits_type t ok = type_finishes t
permits_type t fail = type_fails t

-- only 1 and 2 are outcomes
outcome_status : (t outcome : ℕ) → type_permits t outcome ≡ true → (s : Status) × (outcome ≡ status_number s)
outcome_status t outcome h = go (eqb outcome 1) (eqb outcome 2) refl refl h
  where
    go : (one two : Bool) → eqb outcome 1 ≡ one → eqb outcome 2 ≡ two → cond one (not (eqb t 2)) (cond two (not (eqb t 1)) false) ≡ true → (s : Status) × (outcome ≡ status_number s)
    go true two e f h = (ok, eqb-true outcome 1 e)
    go false true e f h = (fail, eqb-true outcome 2 f)
    go false false e f h = absurd (true≢false (sym h))

module _ (types b : List ℕ) (r : Runnable types b) where
  abbrev P : Process
  P = process_of types b

  pub told_begins : Beginnings most_undos P
  told_begins = let d = drawn types b r in beginnings most_undos P d.written d.distinct d.shallow

  -- what may follow a run is an entry of a leaf of the plan, with a status that it permits
  pub record OfLeaf (n : ℕ) (s : Status) : Type 0 where
    pub present : n < count b
    pub plain : form b n < 3
    pub permitted : Permits (leaf_kind types b n) s

  pub next_leaf : (w : Run) (n : ℕ) (s : Status) → Begins P (w ++ (entry n s ∷ [])) → OfLeaf n s
  next_leaf w n s z =
      let (m, c, f, (same, may)) = (some_leaf types b r (λ m k. (n ≡ m) × Permits k s)).0 ((told_begins.next w (told_begins.cut w (entry n s ∷ []) z) n s).0 z).1 in
      rw same (record { present = c; plain = f; permitted = may })

  module _ (w : Run) (table : List ℕ) (stands : Stands w table) (begun : Begins P w) where
    next_is : (told_by b table).next ≡ told_next most_undos P w
    next_is = ap (λ (t : Told). t.next) (told_of types b r w table stands)

    pub comes : (n outcome : ℕ) → (may_come types b table n outcome ≡ true) ↔ ((s : Status) × (outcome ≡ status_number s) × Begins P (w ++ (entry n s ∷ [])))
    unfolding may_come leaf_permits
    comes n outcome = (to, from)
      where
        to : may_come types b table n outcome ≡ true → (s : Status) × (outcome ≡ status_number s) × Begins P (w ++ (entry n s ∷ []))
        to h =
            let (p, x) = both_true _ _ h in
            let (c, q) = both_true _ _ p in
            let (f, t) = both_true _ _ q in
            let (s, e) = outcome_status (leaf_type types b n) outcome t in
            let small = ltb-true (form b n) 3 f in
            let may : Permits (leaf_kind types b n) s = ap (λ (k : Kind). permits k s) (kind_type types b n small) ∙ permits_type (leaf_type types b n) s ∙ ap (type_permits (leaf_type types b n)) (sym e) ∙ t in
            (s, e, (told_begins.next w begun n s).1 (rw next_is at (eqb-true ((told_by b table).next / 2 ^ n % 2) 1 x), (some_leaf types b r (λ m k. (n ≡ m) × Permits k s)).1 (n, ltb-true n (count b) c, small, (refl, may))))

        from : ((s : Status) × (outcome ≡ status_number s) × Begins P (w ++ (entry n s ∷ []))) → may_come types b table n outcome ≡ true
        from (s, e, z) =
            let x = next_leaf w n s z in
            let type : type_permits (leaf_type types b n) outcome ≡ true =
            rw e (sym (permits_type (leaf_type types b n) s) ∙ ap (λ (k : Kind). permits k s) (sym (kind_type types b n x.plain)) ∙ x.permitted) in
            let bit : is_next (told_by b table).next n ≡ true = rw next_is (eq-eqb _ _ ((told_begins.next w begun n s).0 z).0) in
            rw (lt-ltb n (count b) x.present, lt-ltb (form b n) 3 x.plain, type, bit)
