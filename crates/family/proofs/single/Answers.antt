-- `family::single` meets its contract: the bit of s stored in the empty family.
use Rattle.family.proofs.Words.{single_word}
use native.Mathlib.Omega.{arith}
use Rattle.family.proofs.single.Goals as goal

pub returns-then-s-lt1024 : goal.returns-then-s-lt1024
returns-then-s-lt1024 c = single_word _ (omega arith) c.empty-r.ensures _ c.if-s-lt1024.true
