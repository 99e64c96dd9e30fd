-- `family::add` meets its contract: each word passed is the union of the two.
use mathlib.Core.Path.{◌≡◌}
use Prim.Native.Nat.{ℕ, ◌<◌, ◌≤◌}
use lib.Bits.{bit_or}
use lib.ListN.{length, get_or}
use Rattle.family.proofs.add.Given as goal

abbrev pub invariant-loop-i : goal.invariant-loop-i
invariant-loop-i l = record {
  long : length l.to ≡ 16;
  done : (k : ℕ) → k < l.i → get_or l.to k 0 ≡ bit_or (get_or l.initial.to k 0) (get_or l.f k 0);
  rest : (k : ℕ) → l.i ≤ k → get_or l.to k 0 ≡ get_or l.initial.to k 0;
}
