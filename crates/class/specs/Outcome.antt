-- What the call makes of its answer and of the two lent areas, on every input.
use Rattle.std.specs.Prelude.{◌≡◌, List, ◌++◌, ℕ, ◌+◌, ◌*◌, ◌%◌, ◌≤◌, ◌<◌, length, drop, Result, Ok, Err}
use Rattle.std.proofs.Math.Option.{Option, none, some}
use Rattle.judge.specs.Verdict.{work_size}
use Rattle.judge.specs.Judged.{cleared_work}
use Rattle.handed.specs.Files.{Class}
use Rattle.place.specs.Place.{place_size, Places, joined}
use Rattle.class.specs.declared.Refusal.{Refusal}
use Rattle.class.specs.declared.Refusal.TheVariants.{WorkArea, Files, AnswerArea}

-- Why a call is refused has a number;
abbrev pub number : Refusal → ℕ
number WorkArea = 10
number Files = 19
number AnswerArea = 20

-- and the answer is how many places are filled, or why none is.
abbrev pub Answer : Type 0
Answer = Result ℕ Refusal

abbrev pub number_of : Answer → Option ℕ
number_of (Ok count) = none
number_of (Err r) = some (number r)

-- "Checks: 10 first, then 19 for a cut length or file or more than 16, then 20 for an answer area too short; these refuse the whole call."
pub data RefusedBy (s : List ℕ) (work room : ℕ) : Refusal → Type 0 where
  no_work : work < work_size → RefusedBy s work room WorkArea
  no_class : work_size ≤ work → ((files : List (List ℕ)) → Class s files → ⊥) → RefusedBy s work room Files
  no_room : work_size ≤ work → (files : List (List ℕ)) → Class s files → room < place_size * length files → RefusedBy s work room AnswerArea

pub record Unchanged (s work work' old new : List ℕ) (r : Refusal) : Type 0 where
  pub why : RefusedBy s (length work) (length old) r
  pub works : work' ≡ work
  pub answers : new ≡ old

-- Else each plan has its place, "the first 65,536 work bytes end 0, also for a class of none or of refused plans only, and beyond these and the
-- places no byte changes".
pub record AllFilled (s work work' old new : List ℕ) (count : ℕ) : Type 0 where
  pub files : List (List ℕ)
  pub class : Class s files
  pub counted : count ≡ length files
  pub enough : work_size ≤ length work
  pub room : place_size * length files ≤ length old
  pub places : List (List ℕ)
  pub placed : Places files places
  pub works : work' ≡ cleared_work work
  pub answers : new ≡ joined places ++ drop (place_size * length files) old

abbrev pub Outcome : List ℕ → List ℕ → List ℕ → List ℕ → List ℕ → Answer → Type 0
Outcome s work work' old new (Ok count) = AllFilled s work work' old new count
Outcome s work work' old new (Err r) = Unchanged s work work' old new r

-- On one input there is one outcome at most. The proof is `one_outcome`; that there is one is `SomeOutcome` (Computed.antt).
pub record Same (a b : Answer) (work work' new new' : List ℕ) : Type 0 where
  pub answers : a ≡ b
  pub works : work ≡ work'
  pub areas : new ≡ new'

abbrev pub OneOutcome : Type 0
OneOutcome = (s work work' work'' old new new' : List ℕ) (a b : Answer) → Outcome s work work' old new a → Outcome s work work'' old new' b → Same a b work' work'' new new'

-- An answer with the number in the place of the refusal.
abbrev pub told : Answer → Result ℕ ℕ
told (Ok count) = Ok count
told (Err r) = Err (number r)

-- One number for each answer, for callers that have no enum. A count is at most 16; the remainder makes the definition total. It is said of any
-- number in the place of a refusal's,
abbrev pub code_told : Result ℕ ℕ → ℕ
code_told (Ok count) = count % 65536
code_told (Err n) = 131072 + n

-- and so of an answer, whose refusal has its own.
abbrev pub code_of : Answer → ℕ
code_of a = code_told (told a)

-- The answer to some call.
pub record IsAnswer (a : Answer) : Type 0 where
  pub input : List ℕ
  pub work : List ℕ
  pub after : List ℕ
  pub old : List ℕ
  pub new : List ℕ
  pub outcome : Outcome input work after old new a

-- Two answers with one code are one. The proof is `codes_apart`.
abbrev pub CodesApart : Type 0
CodesApart = (a b : Answer) → IsAnswer a → IsAnswer b → code_of a ≡ code_of b → a ≡ b
