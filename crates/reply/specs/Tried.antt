-- Inputs, and what the program says to them. The proof is `tried_inputs`.
use Rattle.std.specs.Prelude.{◌≡◌, Result, Ok, List, ℕ}
use Rattle.text.specs.Text.{ascii, text_of}
use Rattle.reply.specs.Reply.{reply_to}
use Rattle.text.specs.declared.Text.{Text}

-- a line is said
abbrev pub said : List ℕ → Result Text Text
said l = Ok (text_of l)

pub record TriedInputs : Type 0 where
  pub request : reply_to (ascii "not a or (b and c)") ≡ said (ascii "00 80 01 02 81 82\n")
  -- the rule of the plan of that day, with a newline after it
  pub swallowed : reply_to (ascii "not d or b\n") ≡ said (ascii "03 80 01 82\n")
  pub nota : reply_to (ascii "nota") ≡ said (ascii "refused 14\n")
  -- only one newline is no part of the text
  pub two_newlines : reply_to (ascii "a\n\n") ≡ said (ascii "refused 14\n")
