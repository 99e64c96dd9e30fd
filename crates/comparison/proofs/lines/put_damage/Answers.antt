-- `comparison::lines::put_damage` meets its contract, by what each part that is put says.
use Rattle.text.proofs.Texts.{appended_both}
use Rattle.comparison.specs.Lines.{damage_line}
use Rattle.comparison.proofs.lines.put_damage.Goals as goal

pub returns : goal.returns
unfolding damage_line
returns c = rw (c.put.ensures, c.put_title.ensures, appended_both)
