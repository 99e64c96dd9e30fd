-- `comparison::lines::put_difference` meets its contract, by what each part that is put says.
use Rattle.comparison.specs.Data.{name_at}
use Rattle.comparison.proofs.Texts.{difference_put}
use Rattle.comparison.proofs.lines.put_difference.Goals as goal

pub returns : goal.returns
returns c = cc (difference_put c.args.t.now c.args.group (name_at c.args.s.now c.args.d.at) c.args.d)
