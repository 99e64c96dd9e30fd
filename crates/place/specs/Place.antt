-- A place of the answer area: 130 bytes for one plan, by the contract of the single verdict on it (`Judged`), which leaves one answer.
use Rattle.std.specs.Prelude.{◌≡◌, List, [], ◌∷◌, ◌++◌, ℕ, ◌≤◌, ◌<◌, length, take, drop, replicate, Ok, Err}
use Rattle.blocks.specs.Block.{two}
use Rattle.process.specs.Process.{Run}
use Rattle.plan.specs.PlanFile.{most_bytes}
use Rattle.plan.specs.Reading.{read_of}
use Rattle.plan.specs.declared.Layout.{Layout}
use Rattle.plainest.specs.Bytes.{record_bytes}
use Rattle.judge.specs.Verdict.{Answer, work_size, record_size, number, verdict_of}
use Rattle.judge.specs.Shown.{shown_entries, PlainestOf}
use Rattle.judge.specs.Judged.{Judged}
use Rattle.judge.specs.Record.{record_for}
use Rattle.judge.specs.declared.Judgement.TheVariants.{Consistent, Violated}

abbrev pub place_size : ℕ
place_size = 130

-- "a byte (0 consistent, 1 violated, 2 refused), two bytes of set or refusal number, a byte counting entries"
abbrev pub heading_of : Answer → ℕ → List ℕ
heading_of (Ok Consistent) entries = 0 ∷ 0 ∷ 0 ∷ entries ∷ []
heading_of (Ok (Violated set)) entries = 1 ∷ (two set ++ (entries ∷ []))
heading_of (Err r) entries = 2 ∷ (two (number r) ++ (entries ∷ []))

-- These, "and the 126 record bytes".
abbrev pub place_of : Answer → List ℕ → List ℕ
place_of v shown = heading_of v (length (shown_entries shown)) ++ shown

abbrev pub zero_work : List ℕ
zero_work = replicate work_size 0

abbrev pub zero_record : List ℕ
zero_record = replicate record_size 0

-- The place of a plan: the single verdict on it, alone, in areas of just their size that are full of zeros.
pub record Placed (f place : List ℕ) : Type 0 where
  pub verdict : Answer
  pub shown : List ℕ
  pub alone : Judged f zero_work zero_work zero_record shown verdict
  pub is : place ≡ place_of verdict shown

-- What it shows of a run: the record bytes after a verdict, and none after a refusal, which leaves them as they were.
abbrev pub record_shown : Answer → List ℕ → List ℕ
record_shown (Ok j) new = take record_size new
record_shown (Err r) new = zero_record

-- So it is what the plan gets on its own, in any areas that are large enough. The proof is `as_alone`.
abbrev pub AsAlone : Type 0
AsAlone = (f place : List ℕ) → Placed f place → (work work' old new : List ℕ) (v : Answer) → Judged f work work' old new v → work_size ≤ length work → record_size ≤ length old
    → place ≡ place_of v (record_shown v new)

-- Byte by byte, "all unused bytes zero": the run that is shown, where there is one.
pub record Shows (f : List ℕ) (set : ℕ) (place : List ℕ) : Type 0 where
  pub layout : Layout
  pub accepted : read_of f ≡ Ok layout
  pub run : Run
  pub plainest : PlainestOf f layout set run
  pub is : place ≡ 1 ∷ (two set ++ (length run ∷ record_bytes run))

abbrev pub ByteByByte : List ℕ → Answer → List ℕ → Type 0
ByteByByte f (Ok Consistent) place = place ≡ replicate place_size 0
ByteByByte f (Ok (Violated set)) place = Shows f set place
ByteByByte f (Err r) place = place ≡ 2 ∷ (two (number r) ++ replicate 127 0)

-- The proof is `bytes_are`.
abbrev pub BytesAre : Type 0
BytesAre = (f place : List ℕ) (x : Placed f place) → ByteByByte f x.verdict place

-- The place as it is computed, for callers that hold it against bytes of their own.
abbrev pub place_for : List ℕ → List ℕ
place_for f = place_of (verdict_of f work_size record_size) (record_for f (verdict_of f work_size record_size) zero_record)

-- A plan has one place, and its 130 bytes. The proofs are `one_place`, `some_place` and `placed_long`.
abbrev pub OnePlace : Type 0
OnePlace = (f p q : List ℕ) → Placed f p → Placed f q → p ≡ q

abbrev pub SomePlace : Type 0
SomePlace = (f : List ℕ) → (p : List ℕ) × Placed f p

abbrev pub PlaceLong : Type 0
PlaceLong = (f p : List ℕ) → Placed f p → length p ≡ place_size

-- A file of any length gets what its beginning gets, where that is longer than the largest plan file: so a caller need not read more, nor hand in more than two
-- bytes of length can say. The proof is `any_length`.
abbrev pub AnyLength : Type 0
AnyLength = (f p : List ℕ) (n : ℕ) → most_bytes < n → Placed (take n f) p → Placed f p

-- The places of a list of files: each is its own file's.
pub data Places : List (List ℕ) → List (List ℕ) → Type 0 where
  none : Places [] []
  place : {f p : List ℕ} {fs ps : List (List ℕ)} → Placed f p → Places fs ps → Places (f ∷ fs) (p ∷ ps)

-- One after the other.
abbrev pub joined : List (List ℕ) → List ℕ
joined [] = []
joined (p ∷ ps) = p ++ joined ps

-- The place at the start of an area is written, and later bytes are untouched.
pub record PlaceAfter (f old new : List ℕ) : Type 0 where
  pub bytes : List ℕ
  pub placed : Placed f bytes
  pub is : new ≡ bytes ++ drop place_size old
