-- What is promised of a rule's value, and of a literal's: that the bytes are evaluated as document 01's "Normalised rule" has it, and an action with
-- several undos as document 02's N3 has it.
-- The proof is `laws`.
use Rattle.std.specs.Prelude.{◌≡◌, Bool, true, false, not, ◌&&◌, ◌||◌, List, [], ◌∷◌, ℕ, ◌≤◌, ◌<◌, length}
use Rattle.blocks.specs.Bounded.{total, one}
use Rattle.bodies.specs.Pairs.{Pairs, pair_count, first, second}
use Rattle.bodies.specs.Rule.{Rule}
use Rattle.meaning.specs.declared.Value.{Value}
use Rattle.meaning.specs.Literal.{finished, undone_by, undos_finished, literal}
use Rattle.meaning.specs.Meaning.{meaning}
use Rattle.meaning.specs.Value.{neither, values, satisfies}

-- Document 01: "For action a with undo u: positive is "a and not u"; negative is "neither, or both"."
abbrev pub paired : Bool → Bool → Value
paired a u = record { positive = a && not u; negative = (not a && not u) || (a && u) }

-- "Without a pair, plain presence and absence."
abbrev pub plain : Bool → Value
plain a = record { positive = a; negative = not a }

-- the positive value alone, the negative alone
abbrev pub so : Value
so = plain true

abbrev pub not_so : Value
not_so = plain false

-- no undo of the action is finished
abbrev pub NoneUndone : List ℕ → ℕ → ℕ → Type 0
NoneUndone pairs set a = (i : ℕ) → i < pair_count pairs → first pairs i ≡ a → finished set (second pairs i) ≡ false

-- the undo of pair i is finished, and that of no other pair of its action
pub record OnlyUndone (pairs : List ℕ) (set i : ℕ) : Type 0 where
  pub this : finished set (second pairs i) ≡ true
  pub others : (j : ℕ) → j < pair_count pairs → first pairs j ≡ first pairs i → (j ≡ i → ⊥) → finished set (second pairs j) ≡ false

-- pairs i and j are of one action, their undos are two, and both are finished
pub record TwiceUndone (pairs : List ℕ) (set i j : ℕ) : Type 0 where
  pub same : first pairs j ≡ first pairs i
  pub two : second pairs j ≡ second pairs i → ⊥
  pub this : finished set (second pairs i) ≡ true
  pub other : finished set (second pairs j) ≡ true

pub record Laws (pairs : List ℕ) (set : ℕ) : Type 0 where
  -- where no pair stands twice, the undos finished are counted by their pairs
  pub counted : (actions a : ℕ) → Pairs actions pairs
      → undos_finished pairs set a ≡ total (pair_count pairs) (λ i. one (undone_by pairs set a i))
  -- an action that is first in no pair
  pub without_undo : (a : ℕ) → ((i : ℕ) → i < pair_count pairs → first pairs i ≡ a → ⊥)
      → literal pairs set a ≡ plain (finished set a)
  -- an action that is first in one pair only: "with one pair it is as before", by document 01's sentence
  pub with_undo_lem : (i : ℕ) → i < pair_count pairs → ((j : ℕ) → j < pair_count pairs → first pairs j ≡ first pairs i → j ≡ i)
      → literal pairs set (first pairs i) ≡ paired (finished set (first pairs i)) (finished set (second pairs i))
  -- positive: "finished, and none of its undos"
  pub done : (a : ℕ) → finished set a ≡ true → NoneUndone pairs set a → literal pairs set a ≡ so
  -- negative: "not finished and none"
  pub not_done : (a : ℕ) → finished set a ≡ false → NoneUndone pairs set a → literal pairs set a ≡ not_so
  -- or "finished and exactly one"
  pub undone : (i : ℕ) → i < pair_count pairs → finished set (first pairs i) ≡ true → OnlyUndone pairs set i
      → literal pairs set (first pairs i) ≡ not_so
  -- with two of its undos finished both values are false
  pub undone_twice : (i j : ℕ) → i < pair_count pairs → j < pair_count pairs → TwiceUndone pairs set i j
      → literal pairs set (first pairs i) ≡ neither
  -- and so they are with an undo finished and the action not: document 01's "With u finished and a not, both values of a are false."
  pub undo_alone : (i : ℕ) → i < pair_count pairs → finished set (second pairs i) ≡ true → finished set (first pairs i) ≡ false
      → literal pairs set (first pairs i) ≡ neither
  -- "Exactly one value remains": that of the rule's one part.
  pub one_part : {actions : ℕ} {rule : List ℕ} (r : Rule actions rule) → actions ≤ 128 → length rule ≤ 127
      → values pairs set [] rule ≡ meaning pairs set r ∷ []
  -- "A set satisfies the rule where the positive value of the one part that remains is true for it."
  pub satisfied : {actions : ℕ} {rule : List ℕ} (r : Rule actions rule) → actions ≤ 128 → length rule ≤ 127
      → satisfies rule pairs set ≡ (meaning pairs set r).positive
  -- Where there are no pairs, the negative value of a rule is the opposite of its positive one.
  pub without_pairs : {actions : ℕ} {rule : List ℕ} (r : Rule actions rule) → pair_count pairs ≡ 0
      → (meaning pairs set r).negative ≡ not (meaning pairs set r).positive

-- They hold whatever the pairs and the set.
abbrev pub RuleLaws : Type 0
RuleLaws = (pairs : List ℕ) (set : ℕ) → Laws pairs set
