-- What the readers of the code promise.
use Rattle.std.specs.Prelude.{◌≡◌, List, [], ◌∷◌, ◌++◌, ℕ, ◌+◌, ◌-◌, ◌≤◌, ◌<◌, length, drop, replicate}
use Rattle.grammar.specs.Token.{Token}
use Rattle.grammar.specs.Spelling.{Spells}
use Rattle.grammar.specs.Readings.{Reader, Reads}
use Rattle.formula.specs.Answer.{room}
use Rattle.formula.specs.declared.Reading.{Reading}

-- The postfix bytes so far are p, and the places after them are 0.
pub record Holds (r : Reading) (p : List ℕ) : Type 0 where
  pub counted : r.len ≡ length p
  pub written : r.bytes ≡ p ++ replicate (room - length p) 0

-- At another place, with the same bytes.
pub record Moved (from : Reading) (at : ℕ) (r : Reading) : Type 0 where
  pub place : r.at ≡ at
  pub holds : (p : List ℕ) → Holds from p → Holds r p

-- A byte more.
pub record Pushed (from : Reading) (b : ℕ) (r : Reading) : Type 0 where
  pub stays : r.at ≡ from.at
  pub holds : (p : List ℕ) → Holds from p → length p < room → Holds r (p ++ (b ∷ []))

-- What a reader has done: where a part of its level stands at the place `from.at`, with room for its postfix bytes, they are
-- written behind those so far, and the place is the one behind the part.
pub record After (text : List ℕ) (from : Reading) (r : Reading) (p : List ℕ) (rest : List Token) : Type 0 where
  pub left : Spells (drop r.at text) rest
  pub holds : (before : List ℕ) → Holds from before → length before + length p ≤ room → Holds r (before ++ p)

pub record Took (l : Reader) (text : List ℕ) (depth : ℕ) (from r : Reading) : Type 0 where
  pub forward : from.at ≤ r.at
  pub part : (ts rest : List Token) (p : List ℕ) → Spells (drop from.at text) ts → Reads l depth ts p rest → After text from r p rest
