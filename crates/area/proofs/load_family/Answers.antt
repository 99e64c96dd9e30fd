-- `area::load_family` meets its contract: the words passed are read.
use Rattle.area.proofs.Areas.{words_equal}
use native.Mathlib.Omega.{arith}
use Rattle.area.proofs.load_family.Goals as goal

pub returns : goal.returns
returns c = words_equal c.loop-i.f c.args.area.now c.args.at c.loop-i.invariant.long (λ k h. c.loop-i.invariant.words k (omega arith))
