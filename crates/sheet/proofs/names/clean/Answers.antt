-- `sheet::names::clean` meets its contract: a byte more is clean.
use native.Mathlib.Omega.{arith}
use Rattle.std.proofs.lemmas.Grind.{common_steps}
use Rattle.std.proofs.lemmas.List.Edits.{map_over_more}
use Rattle.sheet.specs.Row.{clean_byte}
use Rattle.sheet.proofs.names.clean.Goals as goal

pub loop-b-preserved : goal.loop-b-preserved
loop-b-preserved c = grind (arith, common_steps, map_over_more clean_byte)
