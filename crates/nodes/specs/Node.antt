-- Node i of a node list: what the code reads of it.
use Rattle.std.specs.Prelude.{List, ℕ}
use Rattle.nodes.specs.Nodes.{form, left, right}
use Rattle.nodes.specs.declared.Node.{Node}

abbrev pub node_at : List ℕ → ℕ → Node
node_at b i = record { form = form b i; left = left b i; right = right b i }
