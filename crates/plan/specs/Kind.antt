-- The kinds of a plan file's blocks: "A file is exactly four blocks, kinds 1, 2, 3, 4 in that order."
use Rattle.std.specs.Prelude.{ℕ}
use Rattle.plan.specs.declared.Kind.{Kind}
use Rattle.plan.specs.declared.Kind.TheVariants.{Types, Pairs, Nodes, Rule}

abbrev pub number : Kind → ℕ
number Types = 1
number Pairs = 2
number Nodes = 3
number Rule = 4
