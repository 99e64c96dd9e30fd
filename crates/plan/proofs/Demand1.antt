-- Demand 1 for plan files, put together from its parts.
use mathlib.Core.Path.{◌≡◌}
use mathlib.Core.List.{List}
use Rattle.std.specs.Prelude.{Ok}
use Prim.Native.Nat.{ℕ}
use native.Mathlib.Omega.{arith}
use Rattle.process.specs.Depth.{most_undos}
use Rattle.bodies.proofs.Most.{no_fourth, most_pairs_lem}
use Rattle.plan.specs.Reading.{bytes_of, read_of}
use Rattle.plan.specs.Demand1.{InARow, Demand1}
use Rattle.plan.specs.PlanFile.{most_actions, most_pairs, Runnable}
use Rattle.plan.specs.declared.Layout.{Layout}
use Rattle.plan.proofs.Lengths.{at_most}
use Rattle.plan.proofs.Accepted.{Laid, accepted_laid, most_bytes}
use Rattle.plan.proofs.Exactly.{accepted_exactly, refused_exactly, accepted_holds}
use Rattle.plan.proofs.Prefix.{beginning_decides}
use Rattle.plan.proofs.InBlocks.{in_blocks}
use Rattle.plan.proofs.Tree.{levels_say, drawn}
use Rattle.plan.proofs.Largest.{largest, largest_file, largest_long}

laid : (s : List ℕ) (l : Layout) → read_of s ≡ Ok l → Laid most_actions most_pairs s l
laid s l h = accepted_laid most_actions most_pairs s l h

in_a_row : (s : List ℕ) (l : Layout) → Laid most_actions most_pairs s l → InARow s l
in_a_row s l b = record { types = b.types.start; pairs = b.pairs.start; nodes = b.nodes.start; rule = b.rule.start; end = b.end }

-- what running an accepted plan rests on
pub runnable : (s : List ℕ) (l : Layout) → read_of s ≡ Ok l → Runnable (bytes_of s l.types) (bytes_of s l.nodes)
runnable s l h =
    let b = accepted_holds most_actions most_pairs (omega arith) s l h in
    record {
      types_few = omega (arith, at_most b.types_hold.size);
      types_hold = b.types_hold.holds;
      nodes_some = omega (arith, b.nodes_hold.size.whole, b.nodes_hold.size.enough);
      nodes_few = omega (arith, at_most b.nodes_hold.size);
      nodes_hold = b.nodes_hold.holds;
    }

pub demand1 : Demand1
demand1 = record {
  accepts = λ s bytes. accepted_exactly most_actions most_pairs (omega arith) s bytes;
  refuses = λ s bytes n. refused_exactly most_actions most_pairs (omega arith) s bytes n;
  accepts_within = λ action_limit pair_limit few s bytes. accepted_exactly action_limit pair_limit few s bytes;
  refuses_within = λ action_limit pair_limit few s bytes n. refused_exactly action_limit pair_limit few s bytes n;
  no_fourth = λ actions pairs legal. no_fourth actions pairs legal;
  most_pairs_lem = λ action_limit actions pairs five few legal. most_pairs_lem actions pairs legal action_limit five few;
  levels = λ actions types nodes forms once some. levels_say most_undos types nodes (λ i c f. (forms i c).parts f) once some;
  flat = λ actions types nodes forms once some. levels_say 1 types nodes (λ i c f. (forms i c).parts f) once some;
  blocks = in_blocks;
  holds = λ s l h. accepted_holds most_actions most_pairs (omega arith) s l h;
  most = λ s l h. most_bytes most_actions most_pairs s l (laid s l h);
  largest = (largest, largest_file, largest_long);
  row = λ s l h. in_a_row s l (laid s l h);
  tree = λ s l h. drawn (bytes_of s l.types) (bytes_of s l.nodes) (runnable s l h);
  beginning = λ s n h k. beginning_decides most_actions most_pairs s n k (omega arith);
}
