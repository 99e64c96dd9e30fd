-- What stands in a vector for a runner's answer is what document 01's numbers and values for it are: the answer with the number in the place of the
-- refusal has the same three.
use mathlib.Core.Path.{◌≡◌, refl}
use Rattle.std.specs.Prelude.{Ok, Err}
use Rattle.std.proofs.Math.Option
use Rattle.job.specs.Job.{Answer}
use Rattle.job.specs.Numbers.{number_of, next_of, end_of, numbered}
use Rattle.fields.specs.Answer.{number_in, next_in, end_in}

pub same_number : (a : Answer) → number_in (numbered a) ≡ Option.get_or (number_of a) 0
same_number (Ok t) = refl
same_number (Err r) = refl

pub same_next : (a : Answer) → next_in (numbered a) ≡ next_of a
same_next (Ok t) = refl
same_next (Err r) = refl

pub same_end : (a : Answer) → end_in (numbered a) ≡ end_of a
same_end (Ok t) = refl
same_end (Err r) = refl
