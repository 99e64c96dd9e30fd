-- The test of a `Process` holds exactly where its types and nodes can be run; and what can be run within a limit can within a greater one.
use mathlib.Core.Path.{◌≡◌}
use mathlib.Core.Bool.{true}
use mathlib.Core.List.{List}
use Prim.Native.Nat.{ℕ, ◌≤◌}
use native.Mathlib.Omega.{arith}
use lib.ListN.{length}
use borrow.Author.Tests.{leb-true, le-leb}
use Rattle.blocks.proofs.Bounded.{both_hold}
use Rattle.bodies.proofs.TypesPairs.{types_say}
use Rattle.nodes.proofs.Forms.{forms_say, descending}
use Rattle.nodes.proofs.Named.{named_say}
use Rattle.nodes.proofs.Depth.{nested_say}
use Rattle.plan.specs.PlanFile.{RunnableWithin}
use Rattle.plan.specs.Process.{runnable_within}

module _ {limit : ℕ} {types nodes : List ℕ} where
  pub runnable_of : runnable_within limit types nodes ≡ true → RunnableWithin limit types nodes
  unfolding runnable_within
  runnable_of h =
      let (h6, shallow) = both_hold _ _ h in
      let (h5, once) = both_hold _ _ h6 in
      let (h4, keep) = both_hold _ _ h5 in
      let (h3, few) = both_hold _ _ h4 in
      let (h2, some) = both_hold _ _ h3 in
      let (low, hold) = both_hold _ _ h2 in
      record {
        types_few = leb-true _ _ low;
        types_hold = (types_say types).0 hold;
        nodes_some = leb-true _ _ some;
        nodes_few = leb-true _ _ few;
        nodes_hold = record {
          keep = (forms_say (length types) nodes).0 keep;
          once = (named_say nodes).0 once;
          shallow = (nested_say nodes (descending (length types) nodes keep)).0 shallow;
        };
      }

  pub runnable_test : RunnableWithin limit types nodes → runnable_within limit types nodes ≡ true
  unfolding runnable_within
  runnable_test r =
      let keep = (forms_say (length types) nodes).1 r.nodes_hold.keep in
      simp (
        le-leb _ _ r.types_few,
        (types_say types).1 r.types_hold,
        le-leb _ _ r.nodes_some,
        le-leb _ _ r.nodes_few,
        keep,
        (named_say nodes).1 r.nodes_hold.once,
        (nested_say nodes (descending (length types) nodes keep)).1 r.nodes_hold.shallow,
      )

pub runnable_more : (limit more : ℕ) (types nodes : List ℕ) → limit ≤ more → runnable_within limit types nodes ≡ true → runnable_within more types nodes ≡ true
runnable_more limit more types nodes h t =
    let r = runnable_of t in
    runnable_test (record {
      types_few = omega (arith, r.types_few);
      types_hold = r.types_hold;
      nodes_some = r.nodes_some;
      nodes_few = r.nodes_few;
      nodes_hold = r.nodes_hold;
    })

-- how many nodes there are, in words that a tactic takes as they are
pub few_nodes : (limit : ℕ) (types nodes : List ℕ) → runnable_within limit types nodes ≡ true → length nodes ≤ 189
few_nodes limit types nodes h = (runnable_of h).nodes_few

pub some_nodes : (limit : ℕ) (types nodes : List ℕ) → runnable_within limit types nodes ≡ true → 3 ≤ length nodes
some_nodes limit types nodes h = (runnable_of h).nodes_some
