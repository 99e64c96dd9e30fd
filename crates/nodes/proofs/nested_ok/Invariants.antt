-- `nodes::nested_ok` meets its contract: the table of the nodes passed is filled, and none of them is too deep.
use Rattle.nodes.proofs.Nested.{Kept}
use Rattle.nodes.proofs.nested_ok.Given as goal

abbrev pub invariant-loop-i : goal.invariant-loop-i
invariant-loop-i l = Kept l.b 63 l.i l.depths
