-- `handed::count_files` meets its contract. The invariant: the files of the input are n, and then those from the cursor on (`Counting`).
use native.Mathlib.Omega.{arith}
use Rattle.handed.proofs.Files.{counting_more, too_many, cut_there, all_counted}
use Rattle.handed.proofs.count_files.Goals as goal

pub returns-then-n-eq-FILES : goal.returns-then-n-eq-FILES
returns-then-n-eq-FILES c =
    let at = c.loop-at in
    too_many c.args.input.now at.at at.n at.invariant (omega arith) (omega arith)

pub returns-in_err-at : goal.returns-in_err-at
returns-in_err-at c =
    let at = c.loop-at in
    rw c.from_residual.ensures (cut_there c.args.input.now at.at at.n at.invariant (omega arith) c.in_err-at.ensures)

pub loop-at-preserved : goal.loop-at-preserved
loop-at-preserved c =
    let at = c.loop-at in
    counting_more c.args.input.now at.at at.n at.invariant c.in_ok-at.at c.in_ok-at.ensures (omega (arith, at.invariant.few))

pub returns : goal.returns
returns c = all_counted c.args.input.now c.loop-at.at c.loop-at.n c.loop-at.invariant (omega arith)
