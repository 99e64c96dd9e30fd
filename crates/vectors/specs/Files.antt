-- What a vector of the group `files` comes to: the number that it expects is held against document 01's number for its file.
use Rattle.std.specs.Prelude.{cond, List, ℕ, eqb, length, get_or, drop}
use Rattle.std.proofs.Math.Option
use Rattle.plan.specs.Reading.{read_of, number_of}
use Rattle.vectors.specs.Outcome.{held_against}
use Rattle.vectors.specs.declared.outcome.Outcome.{Outcome}
use Rattle.vectors.specs.declared.outcome.Outcome.TheVariants.{Damaged}

-- The body's first byte is the number expected, 0 for none, the others are the file.
abbrev pub files_outcome : List ℕ → Outcome
files_outcome body = cond (eqb (length body) 0) Damaged (held_against (get_or body 0 0) (Option.get_or (number_of (read_of (drop 1 body))) 0))
