-- `undos::fill` meets its contract: each mask has the undos of the pairs passed.
use Rattle.std.proofs.Common.{◌≡◌, ℕ, ◌<◌, length, get_or}
use Rattle.undos.specs.Masks.{undos_in}
use Rattle.undos.proofs.fill.Given as goal

abbrev pub invariant-loop-i : goal.invariant-loop-i
invariant-loop-i l = (length l.masks ≡ 256) × ((a : ℕ) → a < 256 → get_or l.masks a 0 ≡ undos_in l.i l.pairs a)
