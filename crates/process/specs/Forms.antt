-- Document 01's numbers of the composite forms: 3 sequence, 4 parallel, 5 choice, 6 compensation, 7 handler.
use Rattle.std.specs.Prelude.{cond, ℕ, eqb}
use Rattle.process.specs.Process.{Form, sequence, parallel, choice, compensation, handler}

abbrev pub form_number : Form → ℕ
form_number sequence = 3
form_number parallel = 4
form_number choice = 5
form_number compensation = 6
form_number handler = 7

-- And back, for 3 to 7. Any other number is taken for a handler's.
abbrev pub form_of : ℕ → Form
form_of number = cond (eqb number 3) sequence (cond (eqb number 4) parallel (cond (eqb number 5) choice (cond (eqb number 6) compensation handler)))
