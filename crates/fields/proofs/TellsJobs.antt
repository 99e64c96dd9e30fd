-- The test of two jobs tells exactly those that are equal, part by part.
use mathlib.Core.Bool.{Bool, true, false, beq, ◌&&◌}
use mathlib.Core.List.{List}
use mathlib.Core.Path.{◌≡◌, refl, sym, subst, ◌∙◌}
use Prim.Native.Nat.{ℕ}
use lib.ListN.{length, get_or}
use lib.Dec.{eqb}
use lib.Pointwise.{pointwise, bytes_decides}
use lib.Seq.{ext_get_or}
use borrow.Author.Tests.{eqb-true, eq-eqb}
use Rattle.blocks.proofs.Bounded.{both_true, both_hold, every_at, every_all}
use Rattle.job.specs.declared.Job.{Job}
use Rattle.fields.specs.Jobs.{same_bytes, same_area, same_job, TellsJobs}

same_only : (a b : List ℕ) → same_bytes a b ≡ true → a ≡ b
unfolding same_bytes
same_only a b h =
    let (long, each) = both_true _ _ h in
    ext_get_or 0 a b (eqb-true _ _ long) (λ i l. eqb-true _ _ (every_at _ (length a) i each l))

same_each : (a : List ℕ) → same_bytes a a ≡ true
unfolding same_bytes
same_each a = rw (eq-eqb (length a) (length a) refl) (every_all _ (length a) (λ i l. eq-eqb (get_or a i 0) (get_or a i 0) refl))

-- an area, and how much of it is in use
area_only : (a b : List ℕ) (m n : ℕ) → same_area a m b n ≡ true → (a ≡ b) × (m ≡ n)
unfolding same_area
area_only a b m n h =
    let (long, bytes) = both_hold _ _ h in
    (same_only a b bytes, eqb-true m n long)

area_each : (a : List ℕ) (n : ℕ) → same_area a n a n ≡ true
unfolding same_area
area_each a n = rw (eq-eqb n n refl) (same_each a)

beq_only : (a b : Bool) → beq a b ≡ true → a ≡ b
beq_only true true h = refl
beq_only true false h = sym h
beq_only false true h = h
beq_only false false h = refl

beq_each : (a : Bool) → beq a a ≡ true
beq_each true = refl
beq_each false = refl

-- jobs are equal where their parts are
same_parts : (a b : Job) → a.timed ≡ b.timed → a.minute ≡ b.minute
    → a.file ≡ b.file → a.file_len ≡ b.file_len → a.entries ≡ b.entries → a.taken ≡ b.taken
    → a.windows ≡ b.windows → a.windows_len ≡ b.windows_len → a ≡ b
same_parts a b t m f fl e n w wl =
    let whole : ◌≡◌ {A = Job}
    (record { file = a.file; file_len = a.file_len; entries = a.entries; taken = a.taken; timed = a.timed; windows = a.windows; windows_len = a.windows_len; minute = a.minute })
    (record { file = b.file; file_len = b.file_len; entries = b.entries; taken = b.taken; timed = b.timed; windows = b.windows; windows_len = b.windows_len; minute = b.minute }) =
    rw (t, m, f, fl, e, n, w, wl) in
    whole

job_only : (a b : Job) → same_job a b ≡ true → a ≡ b
unfolding same_job
job_only a b h =
    let (plans, h1) = both_hold _ _ h in
    let (records, h2) = both_hold _ _ h1 in
    let (hours, h3) = both_hold _ _ h2 in
    let (timed, minutes) = both_hold _ _ h3 in
    let (file, file_len) = area_only _ _ _ _ plans in
    let (entries, taken) = area_only _ _ _ _ records in
    let (windows, windows_len) = area_only _ _ _ _ hours in
    same_parts a b (beq_only _ _ timed) (eqb-true _ _ minutes) file file_len entries taken windows windows_len

job_each : (a b : Job) → a ≡ b → same_job a b ≡ true
unfolding same_job
job_each a b e =
    rw (e, area_each b.file b.file_len, area_each b.entries b.taken, area_each b.windows b.windows_len, beq_each b.timed) (eq-eqb b.minute b.minute refl)

pub tells_jobs : TellsJobs
tells_jobs = record { tells = λ a b. (job_only a b, job_each a b) }

-- what the derived comparison of two jobs computes
abbrev pub derived : Job → Job → Bool
derived a b =
    pointwise eqb a.file b.file
    && (eqb a.file_len b.file_len
    && (pointwise eqb a.entries b.entries
    && (eqb a.taken b.taken
    && (beq a.timed b.timed && (pointwise eqb a.windows b.windows && (eqb a.windows_len b.windows_len && eqb a.minute b.minute))))))

derived_only : (a b : Job) → derived a b ≡ true → a ≡ b
derived_only a b h =
    let (file, h1) = both_hold _ _ h in
    let (file_len, h2) = both_hold _ _ h1 in
    let (entries, h3) = both_hold _ _ h2 in
    let (taken, h4) = both_hold _ _ h3 in
    let (timed, h5) = both_hold _ _ h4 in
    let (windows, h6) = both_hold _ _ h5 in
    let (windows_len, minute) = both_hold _ _ h6 in
    same_parts a b (beq_only _ _ timed) (eqb-true _ _ minute) ((bytes_decides _ _).0 file) (eqb-true _ _ file_len) ((bytes_decides _ _).0 entries) (eqb-true _ _ taken)
    ((bytes_decides _ _).0 windows) (eqb-true _ _ windows_len)

derived_each : (b : Job) → derived b b ≡ true
derived_each b =
    rw (
      (bytes_decides b.file b.file).1 refl,
      eq-eqb b.file_len b.file_len refl,
      (bytes_decides b.entries b.entries).1 refl,
      eq-eqb b.taken b.taken refl,
      beq_each b.timed,
      (bytes_decides b.windows b.windows).1 refl,
      eq-eqb b.windows_len b.windows_len refl,
    ) (eq-eqb b.minute b.minute refl)

-- it is the test
pub derived_same : (a b : Job) (r : Bool) → r ≡ derived a b → r ≡ same_job a b
derived_same a b r is = is ∙ go (derived a b) (same_job a b) refl refl
  where
    go : (x y : Bool) → derived a b ≡ x → same_job a b ≡ y → x ≡ y
    go true true e f = refl
    go false false e f = refl
    go true false e f = sym (job_each a b (derived_only a b e)) ∙ f
    go false true e f = sym e ∙ subst (λ (j : Job). derived a j ≡ true) (job_only a b f) (derived_each a)
