-- A data file of vectors: "the number of its vectors, then the vectors. A vector is the length of its name, the length of its body, the
-- name, and the body. These numbers have four bytes each, the lowest first." What comparing all of its vectors comes to, for every list
-- of bytes: an agreement counts only where what was found in the body of a vector is what it expects.
use Rattle.std.specs.Prelude.{Bool, true, false, cond, List, [], ℕ, zero, suc, ◌+◌, leb, eqb, length, take, drop, Option, None, Some}
use Rattle.std.specs.Option.{option_or}
use Rattle.fields.specs.Number.{four_at}
use Rattle.vectors.specs.Groups.{outcome_in}
use Rattle.vectors.specs.declared.Group.{Group}
use Rattle.vectors.specs.declared.outcome.Outcome.{Outcome}
use Rattle.vectors.specs.declared.outcome.Outcome.TheVariants.{Agrees, Differs, Damaged}
use Rattle.comparison.specs.declared.Difference.{Difference}
use Rattle.comparison.specs.declared.Comparison.{Comparison}

-- the vector at `at`: how long its name is, where its body starts and how long it is, and where the vector ends
abbrev pub name_length : List ℕ → ℕ → ℕ
name_length s at = four_at s at

abbrev pub body_start : List ℕ → ℕ → ℕ
body_start s at = at + 8 + name_length s at

abbrev pub body_length : List ℕ → ℕ → ℕ
body_length s at = four_at s (at + 4)

abbrev pub vector_end : List ℕ → ℕ → ℕ
vector_end s at = body_start s at + body_length s at

-- its name is there, with at most 64 bytes
unfoldable pub is_named : List ℕ → ℕ → Bool
is_named s at = cond (leb (name_length s at) 64) (leb (body_start s at) (length s)) false

-- its body is there too
unfoldable pub is_whole : List ℕ → ℕ → Bool
is_whole s at = cond (is_named s at) (leb (vector_end s at) (length s)) false

-- where its body starts, and where it starts and ends, where that is there
abbrev pub start_at : List ℕ → ℕ → Option ℕ
start_at s at = cond (is_named s at) (Some (body_start s at)) None

abbrev pub body_at : List ℕ → ℕ → Option (ℕ × ℕ)
body_at s at = cond (is_whole s at) (Some (body_start s at, vector_end s at)) None

unfoldable pub name_at : List ℕ → ℕ → List ℕ
name_at s at = cond (is_named s at) (take (name_length s at) (drop (at + 8) s)) []

-- what it comes to
unfoldable pub outcome_at : Group → List ℕ → ℕ → Outcome
outcome_at group s at = cond (is_whole s at) (outcome_in group (take (body_length s at) (drop (body_start s at) s))) Damaged

-- nothing has been compared
abbrev pub fresh : Comparison
fresh = record { vectors = 0; agree = 0; whole = true; first = None }

-- the data file does not have all that it says, or more
abbrev pub damaged : Comparison → Comparison
damaged c = record { vectors = c.vectors; agree = c.agree; whole = false; first = c.first }

-- one vector more, which stands at `at`; the first difference stays
abbrev pub counted : Comparison → ℕ → Outcome → Comparison
counted c at Agrees = record { vectors = c.vectors + 1; agree = c.agree + 1; whole = c.whole; first = c.first }
counted c at (Differs expected found) = record {
  vectors = c.vectors + 1;
  agree = c.agree;
  whole = c.whole;
  first = option_or c.first (Some (record { number = c.vectors + 1; at = at; expected = expected; found = found }));
}
counted c at Damaged = damaged c

abbrev pub after : Group → List ℕ → ℕ → Comparison → Comparison
after group s at c = counted c at (outcome_at group s at)

-- k vectors from `at` on, up to the first that is not whole; nothing may come after them
unfoldable pub compared_from : ℕ → Group → List ℕ → ℕ → Comparison → Comparison
compared_from zero group s at c = cond (eqb at (length s)) c (damaged c)
compared_from (suc k) group s at c =
    cond (after group s at c).whole (compared_from k group s (vector_end s at) (after group s at c)) (after group s at c)

-- all the vectors of a data file
unfoldable pub compared_of : Group → List ℕ → Comparison
compared_of group s = cond (leb 4 (length s)) (compared_from (four_at s 0) group s 4 fresh) (damaged fresh)
