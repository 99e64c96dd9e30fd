-- What the function that fills the places finds and leaves: only its contract cites this.
use Rattle.std.specs.Prelude.{◌≡◌, List, ◌++◌, ℕ, ◌*◌, ◌≤◌, length, drop}
use Rattle.handed.specs.Files.{Holds}
use Rattle.place.specs.Place.{place_size, Places, joined}

-- What the places are to be filled with: an input, and room for each of its files.
pub record Ready (s answers : List ℕ) : Type 0 where
  pub files : List (List ℕ)
  pub holds : Holds s files
  pub room : place_size * length files ≤ length answers

pub record PlacesAfter (s old new : List ℕ) : Type 0 where
  pub files : List (List ℕ)
  pub holds : Holds s files
  pub places : List (List ℕ)
  pub placed : Places files places
  pub is : new ≡ joined places ++ drop (place_size * length files) old
