-- What is promised of a class handed in together (N8), of every outcome that the contract of `verdicts` admits; of one input there is one.
use Rattle.std.specs.Prelude.{◌≡◌, ◌↔◌, List, [], ◌∷◌, ◌++◌, ℕ, ◌*◌, ◌≤◌, ◌<◌, length, take, drop, Ok}
use Rattle.std.proofs.Math.Option.{some}
use Rattle.plan.specs.Reading.{read_of}
use Rattle.plan.specs.declared.Layout.{Layout}
use Rattle.judge.specs.Verdict.{work_size, record_size, verdict_of}
use Rattle.judge.specs.Judged.{cleared_work}
use Rattle.judge.specs.Demand3.{PlanRule, Says}
use Rattle.handed.specs.Files.{Holds, OneList, HandedHolds, most_files, Class}
use Rattle.place.specs.Place.{place_size, Placed, AsAlone, BytesAre, OnePlace, SomePlace, PlaceLong, AnyLength}
use Rattle.class.specs.Outcome.{Answer, number_of, Outcome, OneOutcome, CodesApart}
use Rattle.class.specs.Computed.{SomeOutcome}

-- the 130 bytes of the answer area that are the place of the plan after so many others
abbrev pub place_in : List ℕ → ℕ → List ℕ
place_in new others = take place_size (drop (place_size * others) new)

pub record Promised (s work work' old new : List ℕ) (a : Answer) : Type 0 where
  -- "Each place equals what that plan gets on its own; a refused plan does not stop the next": whatever the files before and after it are
  pub each : (n : ℕ) → a ≡ Ok n → (before after : List (List ℕ)) (f : List ℕ) → Holds s (before ++ f ∷ after) → Placed f (place_in new (length before))
  pub all : (n : ℕ) → a ≡ Ok n → (files : List (List ℕ)) → Holds s files → length files ≡ n
  -- "the first 65,536 work bytes end 0, .. and beyond these and the places no byte changes"
  pub works : (n : ℕ) → a ≡ Ok n → work' ≡ cleared_work work
  pub beyond : (n : ℕ) → a ≡ Ok n → drop (place_size * n) new ≡ drop (place_size * n) old
  pub long : length new ≡ length old
  -- "also for a class of none"; "a class of none fills no place"
  pub nobody : s ≡ [] → work_size ≤ length work → (a ≡ Ok 0) × (work' ≡ cleared_work work) × (new ≡ old)
  -- 10, 19, 20, each exactly on its condition; a call that is refused changes nothing
  pub ten : (number_of a ≡ some 10) ↔ (length work < work_size)
  pub nineteen : (number_of a ≡ some 19) ↔ ((work_size ≤ length work) × ((files : List (List ℕ)) → Class s files → ⊥))
  -- a seventeenth is 19 whether or not it is cut: whatever stands after sixteen files
  pub seventeenth : (first more : List ℕ) (files : List (List ℕ)) → s ≡ first ++ more → Holds first files → length files ≡ most_files → 0 < length more → work_size ≤ length work → number_of a ≡ some 19
  pub twenty : (number_of a ≡ some 20) ↔ ((work_size ≤ length work) × ((files : List (List ℕ)) × Class s files × (length old < place_size * length files)))
  pub filled : (n : ℕ) → (a ≡ Ok n) ↔ ((work_size ≤ length work) × ((files : List (List ℕ)) × Class s files × (place_size * length files ≤ length old) × (n ≡ length files)))
  pub unchanged : (n : ℕ) → number_of a ≡ some n → (work' ≡ work) × (new ≡ old)

pub record ClassPromises : Type 0 where
  pub one_list : OneList
  pub handed_holds : HandedHolds
  pub one_outcome : OneOutcome
  pub some_outcome : SomeOutcome
  pub promised : (s work work' old new : List ℕ) (a : Answer) → Outcome s work work' old new a → Promised s work work' old new a
  pub codes_apart : CodesApart
  -- a place, on its own
  pub one_place : OnePlace
  pub some_place : SomePlace
  pub place_long : PlaceLong
  pub as_alone : AsAlone
  pub any_length : AnyLength
  pub bytes_are : BytesAre
  pub by_verdict : (f place : List ℕ) (x : Placed f place) (work records : ℕ) → work_size ≤ work → record_size ≤ records → x.verdict ≡ verdict_of f work records
  -- and Demand 3 holds of it, with its record bytes
  pub says : (f place : List ℕ) (x : Placed f place) (l : Layout) → read_of f ≡ Ok l → (rule : PlanRule f l) → Says f l rule (drop 4 place) x.verdict
