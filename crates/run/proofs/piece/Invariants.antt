-- What is left of the bytes does to the session so far what all of them do to the first.
use Rattle.std.proofs.Common.{◌≡◌, drop}
use Rattle.session.specs.Session.{heard_all}
use Rattle.run.proofs.piece.Given as goal

abbrev pub invariant-loop-b : goal.invariant-loop-b
invariant-loop-b l = heard_all l.initial.session l.bytes ≡ heard_all l.session (drop l.b-index l.bytes)
