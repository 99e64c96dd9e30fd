-- `reply::reply_to` meets its contract where the text is too long.
use native.Mathlib.Omega.{arith}
use borrow.Author.Tests.{lt-ltb}
use Rattle.text.proofs.Ends.{put_alone}
use Rattle.reply.specs.Reply.{longest, typed_length, too_long_line}
use Rattle.reply.proofs.Replies.{typed_length_lem}
use Rattle.reply.proofs.reply_to.Goals as goal

pub returns-then-text-gt-LONGEST : goal.returns-then-text-gt-LONGEST
returns-then-text-gt-LONGEST c =
    let h = rw (c.typed_in-text.ensures, typed_length_lem c.args.input.now) at c.if-text-gt-LONGEST.true in
    rw (lt-ltb longest (typed_length c.args.input.now) h, put_alone too_long_line c.put.ensures c.new-line.ensures (omega arith))
