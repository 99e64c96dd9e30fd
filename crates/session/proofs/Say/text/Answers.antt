-- `Say::text` meets its contract: what is said has room in a text.
use mathlib.Core.List.{[]}
use native.Mathlib.Omega.{arith}
use Rattle.text.specs.Text.{appended}
use Rattle.text.proofs.Ends.{put_alone}
use Rattle.text.proofs.Texts.{appended_empty}
use Rattle.session.proofs.Say.text.Goals as goal

pub returns-in-Nothing : goal.returns-in-Nothing
unfolding appended
returns-in-Nothing c = rw (c.in-Nothing.is, c.new.ensures) (appended_empty [] (omega arith))

pub returns-in-NotAnEntry : goal.returns-in-NotAnEntry
returns-in-NotAnEntry c = rw c.in-NotAnEntry.is (put_alone _ c.put.ensures c.new-t.ensures (omega arith))
