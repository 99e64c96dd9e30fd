-- Rules of document 01's "Plans to try" at their plans' sets, and an action with three undos at every set: which sets satisfy the rule.
use Rattle.std.specs.Prelude.{◌≡◌, Bool, true, false, List, [], ◌∷◌, map, ℕ}
use Rattle.meaning.specs.Value.{satisfies}

-- for each of the sets, whether it satisfies the rule
abbrev pub judged : List ℕ → List ℕ → List ℕ → List Bool
judged rule pairs sets = map (λ set. satisfies rule pairs set) sets

-- every set of four actions
abbrev pub all_of_four : List ℕ
all_of_four = 0 ∷ 1 ∷ 2 ∷ 3 ∷ 4 ∷ 5 ∷ 6 ∷ 7 ∷ 8 ∷ 9 ∷ 10 ∷ 11 ∷ 12 ∷ 13 ∷ 14 ∷ 15 ∷ []

pub record TriedRules : Type 0 where
  -- P1, pair (0,1), "0 and 2, or neither": its sets satisfy it; 1, 2, 4 and 7 would not
  pub p1 : judged (0 ∷ 2 ∷ 0x81 ∷ 0 ∷ 0x80 ∷ 2 ∷ 0x80 ∷ 0x81 ∷ 0x82 ∷ []) (0 ∷ 1 ∷ []) (0 ∷ 3 ∷ 5 ∷ 1 ∷ 2 ∷ 4 ∷ 7 ∷ [])
      ≡ true ∷ true ∷ true ∷ false ∷ false ∷ false ∷ false ∷ []
  -- P2, no pairs, "not 1, or 0": 2 breaks it
  pub p2 : judged (1 ∷ 0x80 ∷ 0 ∷ 0x82 ∷ []) [] (0 ∷ 1 ∷ 2 ∷ 3 ∷ []) ≡ true ∷ true ∷ false ∷ true ∷ []
  -- P7, pair (a,u), "a or not a": the set 2, of u alone, breaks it
  pub p7 : judged (0 ∷ 0 ∷ 0x80 ∷ 0x82 ∷ []) (0 ∷ 1 ∷ []) (0 ∷ 1 ∷ 2 ∷ 3 ∷ []) ≡ true ∷ true ∷ false ∷ true ∷ []
  -- N3, pairs (a,1), (a,2), (a,3) of a = 0: "a" at a alone; "not a" at no action and at a with one undo; "a or not a" at these, and so at no
  -- set with two undos, nor with an undo and not a
  pub three : judged (0 ∷ []) (0 ∷ 1 ∷ 0 ∷ 2 ∷ 0 ∷ 3 ∷ []) all_of_four
      ≡ false ∷ true ∷ false ∷ false ∷ false ∷ false ∷ false ∷ false ∷ false ∷ false ∷ false ∷ false ∷ false ∷ false ∷ false ∷ false ∷ []
  pub three_not : judged (0 ∷ 0x80 ∷ []) (0 ∷ 1 ∷ 0 ∷ 2 ∷ 0 ∷ 3 ∷ []) all_of_four
      ≡ true ∷ false ∷ false ∷ true ∷ false ∷ true ∷ false ∷ false ∷ false ∷ true ∷ false ∷ false ∷ false ∷ false ∷ false ∷ false ∷ []
  pub three_or : judged (0 ∷ 0 ∷ 0x80 ∷ 0x82 ∷ []) (0 ∷ 1 ∷ 0 ∷ 2 ∷ 0 ∷ 3 ∷ []) all_of_four
      ≡ true ∷ true ∷ false ∷ true ∷ false ∷ true ∷ false ∷ false ∷ false ∷ true ∷ false ∷ false ∷ false ∷ false ∷ false ∷ false ∷ []
