-- What is left of the bytes, put into the text so far, gives what all of them give to the first.
use Rattle.std.proofs.Common.{◌≡◌, drop}
use Rattle.text.specs.Text.{appended}
use Rattle.text.proofs.Text.put.Given as goal

abbrev pub invariant-loop-b : goal.invariant-loop-b
invariant-loop-b l = appended l.initial.self l.s ≡ appended l.self (drop l.b-index l.s)
