-- `sheet::names::clean` meets its contract. The invariant: the bytes that are passed are clean, and the others as they were.
use mathlib.Core.Path.{◌≡◌}
use mathlib.Core.List.{◌++◌, map}
use lib.ListN.{take, drop}
use Rattle.sheet.specs.Row.{clean_byte}
use Rattle.sheet.proofs.names.clean.Given as goal

abbrev pub invariant-loop-b : goal.invariant-loop-b
invariant-loop-b l = l.name ≡ map clean_byte (take l.b-index l.initial.name) ++ drop l.b-index l.initial.name
