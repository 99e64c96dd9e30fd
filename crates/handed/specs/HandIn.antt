-- A file put after those that an input holds already: its length in two bytes, and then its bytes.
use Rattle.std.specs.Prelude.{◌≡◌, Bool, true, false, cond, List, [], ◌∷◌, ◌++◌, ℕ, ◌+◌, ◌≤◌, ltb, length, take}
use Rattle.blocks.specs.Area.{fits, placed}
use Rattle.blocks.specs.Block.{two}
use Rattle.handed.specs.Files.{handed}

-- A file as it is handed in.
abbrev pub file_bytes : List ℕ → List ℕ
file_bytes f = two (length f) ++ f

-- Whether it can be: its length has two bytes, and all of it has room from `at` on.
abbrev pub room_for : List ℕ → ℕ → List ℕ → Bool
room_for input at f = cond (ltb (length f) 65536) (fits input at (length (file_bytes f))) false

-- The input after it, and where the next file goes; both as they were where it cannot be.
unfoldable pub input_with : List ℕ → ℕ → List ℕ → List ℕ
input_with input at f = cond (room_for input at f) (placed input at (file_bytes f)) input

unfoldable pub end_with : List ℕ → ℕ → List ℕ → ℕ
end_with input at f = cond (room_for input at f) (at + length (file_bytes f)) at

pub record HandsIn : Type 0 where
  -- one file more is its bytes more
  pub one_more : (fs : List (List ℕ)) (f : List ℕ) → handed (fs ++ (f ∷ [])) ≡ handed fs ++ file_bytes f
  -- which is what is put after the input so far; so an input that is some files handed in is these and one more
  pub puts : (input : List ℕ) (at : ℕ) (f : List ℕ) → room_for input at f ≡ true → take (end_with input at f) (input_with input at f) ≡ take at input ++ file_bytes f
  pub grows : (input : List ℕ) (at : ℕ) (f : List ℕ) (fs : List (List ℕ)) → take at input ≡ handed fs → room_for input at f ≡ true
      → take (end_with input at f) (input_with input at f) ≡ handed (fs ++ (f ∷ []))
  -- else nothing changes
  pub stays : (input : List ℕ) (at : ℕ) (f : List ℕ) → room_for input at f ≡ false → (input_with input at f ≡ input) × (end_with input at f ≡ at)
  -- the end stays inside the input, which keeps its length
  pub inside : (input : List ℕ) (at : ℕ) (f : List ℕ) → at ≤ length input → end_with input at f ≤ length (input_with input at f)
  pub long : (input : List ℕ) (at : ℕ) (f : List ℕ) → length (input_with input at f) ≡ length input
