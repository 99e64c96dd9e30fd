-- `recognizer::count_of` meets its contract.
use Prim.Native.Nat.{◌-◌}
use lib.ListN.{length}
use Rattle.recognizer.proofs.Along.{Passing}
use Rattle.recognizer.proofs.count_of.Given as goal

abbrev pub invariant-loop-pass : goal.invariant-loop-pass
invariant-loop-pass l = Passing l.text l.pass l.at

abbrev pub decreases-loop-pass : goal.decreases-loop-pass
decreases-loop-pass l = length l.text - l.at
