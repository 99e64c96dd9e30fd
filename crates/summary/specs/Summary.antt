-- A node's summary, document 01's "for each node and each of the .. codes above 0" a family of action sets, over the codes of three levels, and what a leaf's is. The eleven
-- codes above 0 that are settled have families; the codes 5, 8 and 12 are no part of a complete run, and have no sets.
use Rattle.std.specs.Prelude.{◌≡◌, Bool, true, List, [], ◌∷◌, ℕ, ◌<◌, get_or, set, replicate}
use Rattle.family.specs.Family.{In}
use Rattle.outcomes.specs.Families.{LeafSet}
use Rattle.outcomes.specs.ThreeLevels.{three_levels}
use Rattle.summary.specs.declared.Summary.{Summary}

-- The family of the empty set alone, and the family with no set.
abbrev pub empty_set : List ℕ
empty_set = set (replicate 16 0) 0 1

abbrev pub no_sets : List ℕ
no_sets = replicate 16 0

-- The summary without sets.
abbrev pub no_summary : Summary
no_summary = record {
  s1 = no_sets;
  s2 = no_sets;
  s3 = no_sets;
  s4 = no_sets;
  s6 = no_sets;
  s7 = no_sets;
  s9 = no_sets;
  s10 = no_sets;
  s11 = no_sets;
  s13 = no_sets;
  s14 = no_sets;
}

-- The families by their codes: "Code 0 has the empty set only".
abbrev pub families : Summary → List (List ℕ)
families s = empty_set ∷ s.s1 ∷ s.s2 ∷ s.s3 ∷ s.s4 ∷ no_sets ∷ s.s6 ∷ s.s7 ∷ no_sets ∷ s.s9 ∷ s.s10 ∷ s.s11 ∷ no_sets ∷ s.s13 ∷ s.s14 ∷ []

-- The family of a code; above 14 there is none.
abbrev pub family_of : Summary → ℕ → List ℕ
family_of s code = get_or (families s) code []

-- r has the set alone where it may be so, and else no set.
pub record Only (set : ℕ) (may : Bool) (r : List ℕ) : Type 0 where
  pub sound : (t : ℕ) → In r t → (may ≡ true) × (t ≡ set)
  pub complete : may ≡ true → set < 1024 → In r set

-- The summary has the action sets that the chart of three levels gives a leaf (a skip's own set is the empty one), and no others.
pub record LeafSummary (set : ℕ) (finishes fails : Bool) (s : Summary) : Type 0 where
  pub sound : (code t : ℕ) → In (family_of s code) t → LeafSet three_levels 0 set finishes fails code t
  pub complete : (code t : ℕ) → t < 1024 → LeafSet three_levels 0 set finishes fails code t → In (family_of s code) t
