-- What the two functions that count the files of an input find: only their contracts cite it, and that of the call which counts them.
use Rattle.std.specs.Prelude.{◌≡◌, Option, Some, None, List, ℕ, ◌+◌, ◌-◌, ◌≤◌, length, take, drop}
use Rattle.handed.specs.Files.{Ahead, Class}

-- The bytes of the file at a cursor that ends at `end`.
abbrev pub file_at : List ℕ → ℕ → ℕ → List ℕ
file_at s at end = take (end - (at + 2)) (drop (at + 2) s)

pub record Ends (s : List ℕ) (at end : ℕ) : Type 0 where
  pub more : at + 2 ≤ end
  pub within : end ≤ length s
  pub ahead : Ahead (drop at s) (file_at s at end) (drop end s)

-- What stands at a cursor: a file after its length, or none.
abbrev pub NextAt : List ℕ → ℕ → Option ℕ → Type 0
NextAt s at (Some end) = Ends s at end
NextAt s at None = (f rest : List ℕ) → Ahead (drop at s) f rest → ⊥

-- How many files a class has, or that the input is none.
pub record Counted (s : List ℕ) (n : ℕ) : Type 0 where
  pub files : List (List ℕ)
  pub class : Class s files
  pub count : n ≡ length files

abbrev pub CountOf : List ℕ → Option ℕ → Type 0
CountOf s (Some n) = Counted s n
CountOf s None = (files : List (List ℕ)) → Class s files → ⊥
