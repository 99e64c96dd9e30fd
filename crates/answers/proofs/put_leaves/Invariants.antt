-- What is left of the leaves, put into the text so far, gives what all of them give.
use Rattle.std.proofs.Common.{◌≡◌, ◌-◌}
use Rattle.text.specs.Text.{appended}
use Rattle.text.specs.Lines.{each}
use Rattle.answers.specs.Lines.{leaf_text}
use Rattle.answers.proofs.put_leaves.Given as goal

abbrev pub invariant-loop-leaf : goal.invariant-loop-leaf
invariant-loop-leaf l = appended l.initial.t (each (leaf_text l.next) 0 64) ≡ appended l.t (each (leaf_text l.next) l.leaf (64 - l.leaf))
