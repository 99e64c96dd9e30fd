-- The fold over the nodes of a plan is the fold over its process; a composite's costs by its form's number are those by its form.
use mathlib.Core.Path.{◌≡◌, refl, sym}
use mathlib.Core.Bool.{Bool, true, false, cond}
use mathlib.Core.List.{List, []}
use Prim.Native.Nat.{ℕ, suc, ◌<◌}
use lib.Dec.{ltb}
use borrow.Author.Tests.{ltb-false}
use Rattle.process.specs.Forms.{form_number, form_of}
use Rattle.outcomes.specs.ThreeLevels.{cell3}
use Rattle.nodes.specs.Nodes.{count, form}
use Rattle.nodes.specs.Fold.{fold_at}
use Rattle.nodes.proofs.Fold.{fold_map}
use Rattle.plan.specs.PlanFile.{RunnableWithin}
use Rattle.plan.specs.Tree.{leaf_of, composite_of, process_at}
use Rattle.summary.proofs.Exact.{same_number}
use Rattle.fewest.specs.declared.Costs.{Costs}
use Rattle.fewest.specs.Wishes.{Wish}
use Rattle.fewest.specs.Costs.{node_costs, costs_of}

-- what stands past the end of an array of costs
abbrev pub blank : Costs
blank = record { by = [] }

module _ (may : ℕ → Wish) (types b : List ℕ) where
  abbrev pub leaf_costs_at : ℕ → Costs
  leaf_costs_at i = costs_of may (leaf_of types b i)

  abbrev pub node_costs_at : ℕ → Costs → Costs → Costs
  node_costs_at i x y = node_costs (cell3 (form_number (form_of (form b i)))) x y 15

  pub folded : (i : ℕ) → fold_at leaf_costs_at node_costs_at b i ≡ costs_of may (process_at types b i)
  folded i = sym (fold_map (costs_of may) (leaf_of types b) (composite_of b) leaf_costs_at node_costs_at b (λ i. refl) (λ i P Q. refl) (suc i) i)

  pub by_form : {action_limit : ℕ} → RunnableWithin action_limit types b → (i : ℕ) → i < count b → (x y : Costs)
      → cond (ltb (form b i) 3) (leaf_costs_at i) (node_costs (cell3 (form b i)) x y 15) ≡ cond (ltb (form b i) 3) (leaf_costs_at i) (node_costs_at i x y)
  by_form r i c x y = go (ltb (form b i) 3) refl
    where
      go : (t : Bool) → ltb (form b i) 3 ≡ t → cond t (leaf_costs_at i) (node_costs (cell3 (form b i)) x y 15) ≡ cond t (leaf_costs_at i) (node_costs_at i x y)
      go true h = refl
      go false h = rw (same_number (form b i) (ltb-false _ _ h) (r.nodes_hold.keep i c).known)
