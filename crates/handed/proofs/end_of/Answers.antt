-- `handed::end_of` meets its contract: the two tests are that length and file are there.
use mathlib.Core.Path.{ap}
use Prim.Native.Nat.{◌+◌}
use native.Mathlib.Omega.{arith}
use Rattle.handed.proofs.Files.{cut_length, cut_file, ends_there}
use Rattle.handed.proofs.end_of.Goals as goal

pub returns-then-left-lt2 : goal.returns-then-left-lt2
returns-then-left-lt2 c =
    let a = c.args in
    cut_length a.input.now a.at (omega arith) (omega arith)

pub returns-then-left-len : goal.returns-then-left-len
returns-then-left-len c =
    let a = c.args in
    cut_file a.input.now a.at (omega arith) (omega (arith, c.number_at-len.ensures.0))

pub returns : goal.returns
returns c =
    let a = c.args in
    ends_there a.input.now a.at _ (ap (λ n. a.at + 2 + n) c.number_at-len.ensures.0) (omega arith)
