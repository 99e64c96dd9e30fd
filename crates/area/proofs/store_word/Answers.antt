-- `area::store_word` meets its contract: the eight bytes of the word are put in (`word_written`).
use Rattle.area.proofs.Areas.{word_written}
use borrow.Author.Rules.{rules}
use mir.Val.{Fits}
use mir.Syntax.{w64}
use Rattle.area.proofs.store_word.Goals as goal

pub returns : goal.returns
returns c =
    let fits : Fits w64 c.args.w = search rules in
    rw (c.copy_from_slice.ensures.after, c.to_le_bytes.ensures) (word_written c.args.area.now c.args.at c.args.w c.requires fits.fits)
