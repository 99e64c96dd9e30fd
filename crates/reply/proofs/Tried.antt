-- The inputs that were tried: the grammar has their texts among its examples, and the lines are computed.
use mathlib.Core.Path.{ap}
use mathlib.Core.List.{[], ◌∷◌}
use native.Mathlib.Omega.{arith}
use Rattle.text.specs.Decimal.{digits}
use Rattle.text.specs.Lines.{each}
use Rattle.text.specs.Text.{ascii}
use Rattle.grammar.proofs.Examples.{examples}
use Rattle.formula.specs.declared.Turned.{Turned}
use Rattle.formula.proofs.Turning.{outside_14, fits}
use Rattle.reply.specs.Line.{line_for}
use Rattle.std.proofs.Common.{Result}
use Rattle.text.specs.declared.Text.{Text}
use Rattle.reply.specs.Tried.{said, TriedInputs}

abbrev told : Turned → Result Text Text
told q = said (line_for q)

pub tried_inputs : TriedInputs
unfolding each digits
tried_inputs = record {
  request = ap told (fits (ascii "not a or (b and c)") (0 ∷ 0x80 ∷ 1 ∷ 2 ∷ 0x81 ∷ 0x82 ∷ []) examples.request (omega arith));
  swallowed = ap told (fits (ascii "not d or b") (3 ∷ 0x80 ∷ 1 ∷ 0x82 ∷ []) examples.swallowed (omega arith));
  nota = ap told (outside_14 (ascii "nota") examples.nota);
  two_newlines = ap told (outside_14 (ascii "a\n") examples.newline);
}
