-- The files end inside their area (`inside`).
use Rattle.handed.proofs.HandIn.{hands_in}
use Rattle.handin.proofs.gather_file.Goals as goal

pub returns : goal.returns
returns c = rw (c.append.ensures.value, c.append.ensures.input_after) (hands_in.inside c.args.files.now c.args.done _ c.requires)
