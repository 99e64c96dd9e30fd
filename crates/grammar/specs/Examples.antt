-- Texts and what they become, and texts that are no rules. The proof is `examples`.
use Rattle.std.specs.Prelude.{List, [], ◌∷◌, ◌++◌, ℕ, replicate}
use Rattle.text.specs.Text.{ascii}
use Rattle.grammar.specs.Typed.{Typed}

abbrev pub Outside : List ℕ → Type 0
Outside text = (p : List ℕ) → Typed text p → ⊥

-- a in so many brackets
abbrev pub bracketed : ℕ → List ℕ
bracketed n = replicate n 40 ++ (97 ∷ replicate n 41)

pub record Examples : Type 0 where
  pub request : Typed (ascii "not a or (b and c)") (0 ∷ 0x80 ∷ 1 ∷ 2 ∷ 0x81 ∷ 0x82 ∷ [])
  -- "not filed, or stored": the rule of the plan that passed a check of its forward steps only
  pub swallowed : Typed (ascii "not d or b") (3 ∷ 0x80 ∷ 1 ∷ 0x82 ∷ [])
  -- "Not binds tightest, then and, or, implies"
  pub not_and : Typed (ascii "not a and b") (0 ∷ 0x80 ∷ 1 ∷ 0x81 ∷ [])
  pub and_or : Typed (ascii "a and b or c") (0 ∷ 1 ∷ 0x81 ∷ 2 ∷ 0x82 ∷ [])
  pub or_and : Typed (ascii "a or b and c") (0 ∷ 1 ∷ 2 ∷ 0x81 ∷ 0x82 ∷ [])
  pub or_implies_or : Typed (ascii "a or b implies c or d") (0 ∷ 1 ∷ 0x82 ∷ 0x80 ∷ 2 ∷ 3 ∷ 0x82 ∷ 0x82 ∷ [])
  -- "and and or group to the left, implies to the right"
  pub and_and : Typed (ascii "a and b and c") (0 ∷ 1 ∷ 0x81 ∷ 2 ∷ 0x81 ∷ [])
  pub or_or : Typed (ascii "a or b or c") (0 ∷ 1 ∷ 0x82 ∷ 2 ∷ 0x82 ∷ [])
  pub implies_implies : Typed (ascii "a implies b implies c") (0 ∷ 0x80 ∷ 1 ∷ 0x80 ∷ 2 ∷ 0x82 ∷ 0x82 ∷ [])
  -- "neighbouring letters and words have a blank or bracket between them"
  pub not_bracket : Typed (ascii "not(a)") (0 ∷ 0x80 ∷ [])
  pub and_bracket : Typed (ascii " a and(j) ") (0 ∷ 9 ∷ 0x81 ∷ [])
  pub nota : Outside (ascii "nota")
  pub two_letters : Outside (ascii "a b")
  -- "blanks (byte 32)"
  pub newline : Outside (ascii "a\n")
  -- "Actions are the letters a to j", "all lower case"
  pub letter_k : Outside (ascii "k")
  pub capital : Outside (ascii "A")
  -- "17 open at once are too deep"
  pub sixteen : Typed (bracketed 16) (0 ∷ [])
  pub seventeen : Outside (bracketed 17)
  -- nothing, and parts that are missing
  pub nothing : Outside []
  pub no_operand : Outside (ascii "a and")
  pub no_closing : Outside (ascii "(a")
  pub no_opening : Outside (ascii "a)")
