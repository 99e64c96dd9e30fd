-- `sheet::form::form_asked` meets its contract: a word that is read byte by byte is that word.
use native.Mathlib.Omega.{arith}
use borrow.Author.Rules.{rules}
use Rattle.text.specs.Text.{ascii}
use Rattle.std.proofs.lemmas.Slice.Eq.{text_from_reads}
use Rattle.sheet.proofs.form.form_asked.Goals as goal

pub returns-in-45-2 : goal.returns-in-45-2
returns-in-45-2 c = let e = text_from_reads c.args.word.now (ascii "--rows") (omega arith) (search rules) in rw e

pub returns-in-45 : goal.returns-in-45
returns-in-45 c = let e = text_from_reads c.args.word.now (ascii "--table") (omega arith) (search rules) in rw e
