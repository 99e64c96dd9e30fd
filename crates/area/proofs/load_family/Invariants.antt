-- `area::load_family` meets its contract: the words passed are read.
use mathlib.Core.Path.{◌≡◌}
use Prim.Native.Nat.{ℕ, ◌+◌, ◌*◌, ◌<◌}
use lib.ListN.{length, get_or}
use Rattle.area.specs.Area.{word_at}
use Rattle.area.proofs.load_family.Given as goal

abbrev pub invariant-loop-i : goal.invariant-loop-i
invariant-loop-i l = record { long : length l.f ≡ 16; words : (k : ℕ) → k < l.i → get_or l.f k 0 ≡ word_at l.area (l.at + k * 8) }
