-- `comparison::compared` meets its contract. The invariant: what is left to compare, from where it stands, comes to what the whole comes to;
-- and the counts stay within the number of vectors.
use mathlib.Core.Path.{◌≡◌}
use mathlib.Core.Bool.{true}
use Prim.Native.Nat.{◌-◌, ◌≤◌}
use Rattle.comparison.specs.Data.{fresh, compared_from}
use Rattle.comparison.proofs.compared.Given as goal

abbrev pub invariant-vectors : goal.invariant-vectors
invariant-vectors l = record {
  whole : l.c.whole ≡ true;
  agree : l.c.agree ≤ l.c.vectors;
  few : l.c.vectors ≤ l.counter;
  same : compared_from l.end l.group l.s 4 fresh ≡ compared_from (l.end - l.counter) l.group l.s l.at l.c;
}
