-- When two jobs are the same, and the job that an answer leaves: as it was, and where the entry was taken with that entry more and its minute.
use Rattle.std.specs.Prelude.{Bool, true, false, cond, ◌&&◌, List, ◌↔◌, ◌≡◌, ℕ, ltb, eqb, length, get_or}
use Rattle.std.specs.Bool.{beq}
use Rattle.blocks.specs.Bounded.{every}
use Rattle.state.specs.declared.Entry.{Entry}
use Rattle.job.specs.Job.{with_entry}
use Rattle.job.specs.declared.Job.{Job}

-- two areas have the same bytes
unfoldable pub same_bytes : List ℕ → List ℕ → Bool
same_bytes a b = cond (eqb (length a) (length b)) (every (length a) (λ i. eqb (get_or a i 0) (get_or b i 0))) false

-- two areas are in use to the same length and have the same bytes
unfoldable pub same_area : List ℕ → ℕ → List ℕ → ℕ → Bool
same_area a m b n = eqb m n && same_bytes a b

unfoldable pub same_job : Job → Job → Bool
same_job a b =
    same_area a.file a.file_len b.file b.file_len
    && (same_area a.entries a.taken b.entries b.taken
    && (same_area a.windows a.windows_len b.windows b.windows_len
    && (beq a.timed b.timed && eqb a.minute b.minute)))

-- the test tells exactly the jobs that are equal
pub record TellsJobs : Type 0 where
  pub tells : (a b : Job) → (same_job a b ≡ true) ↔ (a ≡ b)

-- the same job but for its minute
abbrev pub with_minute : Job → ℕ → Job
with_minute j m = record {
  file = j.file;
  file_len = j.file_len;
  entries = j.entries;
  taken = j.taken;
  timed = j.timed;
  windows = j.windows;
  windows_len = j.windows_len;
  minute = m;
}

-- the job with one entry more and this minute, where there is room for the entry
abbrev pub grown : Job → Entry → ℕ → Job
grown j e m = cond (ltb j.taken 63) (with_minute (with_entry j e) m) j

-- the job that an answer with this number leaves: 0 is no refusal
unfoldable pub left_by : ℕ → Job → Entry → ℕ → Job
left_by number j e m = cond (eqb number 0) (grown j e m) j
