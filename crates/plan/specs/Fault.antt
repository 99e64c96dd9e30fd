-- Document 01's numbers for why a file is turned away.
use Rattle.std.specs.Prelude.{ℕ}
use Rattle.nodes.specs.NodeTests as nodes
use Rattle.plan.specs.declared.Fault.{Fault}
use Rattle.plan.specs.declared.Fault.TheVariants.{Cut, Kind, Length, Types, Pairs, Nodes, Rule}

abbrev pub number : Fault → ℕ
number Cut = 1
number Kind = 2
number Length = 3
number Types = 4
number Pairs = 5
number (Nodes f) = nodes.number f
number Rule = 9
