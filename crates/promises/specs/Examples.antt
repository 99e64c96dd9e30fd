-- Each demand at work on small plans: what follows from it alone, with an example for each of its fields and for each field of the records that it is made of. Where such a field is
-- weakened to nothing, the proof of its example fails. `from_demands` in proofs/ draws each from its demand, and the contract of `exemplified` asks for them.
use Rattle.std.specs.Prelude.{◌≡◌, true, false, List, [], ◌∷◌, ◌⊎◌, ℕ, ◌/◌, ◌%◌, ◌^◌, ◌≤◌, ◌<◌, length, get_or, take, drop, replicate, Ok}
use Rattle.std.proofs.Math.Option.{Option, none, some}
use Rattle.process.specs.Process.{Status, ok, fail, either, Process, leaf, entry, Run}
use Rattle.process.specs.Figure2.{Complete}
use Rattle.runs.specs.Beginnings.{Begins}
use Rattle.bodies.specs.Rule.{Rule}
use Rattle.plan.specs.PlanFile.{most_actions, most_pairs, Bytes, PlanFile}
use Rattle.plan.specs.Refusals.{Broken}
use Rattle.plan.specs.Reading.{bytes_of, read_of}
use Rattle.plan.specs.Reading as reader
use Rattle.plan.specs.declared.Layout.{Layout}
use Rattle.state.specs.State.{entries_from}
use Rattle.state.specs.declared.Entry.{Entry}
use Rattle.job.specs.Job.{no_job, fresh_job, start_of, take_of}
use Rattle.job.specs.Numbers.{next_of, end_number, end_of}
use Rattle.job.specs.Numbers as runner
use Rattle.job.specs.Offer.{Standing, offer, started, status_number, record_of, TakesAll, TakesToEnd, Real, Sized}
use Rattle.job.specs.Lists.{taken_from}
use Rattle.job.specs.declared.Job.{Job}
use Rattle.job.specs.declared.Told.{Told}
use Rattle.judge.specs.Verdict.{Answer, work_size, record_size, says_consistent, set_given}
use Rattle.judge.specs.Verdict as verdict
use Rattle.judge.specs.Shown.{shown_entries, shown_run, ShowsRun}
use Rattle.judge.specs.Judged.{Judged, cleared_work}
use Rattle.judge.specs.Demand3.{PlanRule, keeps}
use Rattle.judge.specs.declared.Judgement.TheVariants.{Consistent, Violated}
use Rattle.promises.specs.Refused.{Demand1}
use Rattle.promises.specs.Runner.{Demand2}
use Rattle.promises.specs.Verdict.{Demand3}

-- A file whose first block is not of kind 1.
abbrev pub other_kind : List ℕ
other_kind = 0 ∷ 0 ∷ 2 ∷ 0 ∷ []

-- A plan file: one action of type t at one leaf, node 0; no pairs; the rule is the action.
abbrev pub plan_of : ℕ → List ℕ
plan_of t = 1 ∷ 0 ∷ 1 ∷ 0 ∷ t ∷ 0 ∷ 0 ∷ 2 ∷ 0 ∷ 3 ∷ 0 ∷ 3 ∷ 0 ∷ 0 ∷ 0 ∷ 0 ∷ 1 ∷ 0 ∷ 4 ∷ 0 ∷ 0 ∷ []

-- Of type 3 it may finish, which leaves the set 1, and fail, which leaves the set 0 and so breaks the rule.
abbrev pub file : List ℕ
file = plan_of 3

abbrev pub layout : Layout
layout = record { types = record { at = 4; len = 1 }; pairs = record { at = 9; len = 0 }; nodes = record { at = 13; len = 3 }; rule = record { at = 20; len = 1 } }

abbrev pub process : Process
process = leaf 0 either

-- where its fresh job stands, and the entry that its leaf has ended so
abbrev pub fresh : Standing
fresh = started file layout

abbrev pub ended : Status → Entry
ended s = record { leaf = 0; outcome = status_number s }

-- The same plan with a rule that no set breaks, "a or not a".
abbrev pub kept : List ℕ
kept = 1 ∷ 0 ∷ 1 ∷ 0 ∷ 3 ∷ 0 ∷ 0 ∷ 2 ∷ 0 ∷ 3 ∷ 0 ∷ 3 ∷ 0 ∷ 0 ∷ 0 ∷ 0 ∷ 4 ∷ 0 ∷ 4 ∷ 0 ∷ 0 ∷ 0 ∷ 128 ∷ 130 ∷ []

abbrev pub kept_layout : Layout
kept_layout = record { types = record { at = 4; len = 1 }; pairs = record { at = 9; len = 0 }; nodes = record { at = 13; len = 3 }; rule = record { at = 20; len = 4 } }

-- The choice of throw 0, skip 1 and skip 3. The rule is an action that no leaf has: each of the three runs leaves the set 0, and breaks it.
abbrev pub choices : List ℕ
choices =
    1 ∷ 0 ∷ 1 ∷ 0 ∷ 3 ∷ 0 ∷ 0 ∷ 2 ∷ 0 ∷ 15 ∷ 0 ∷ 3 ∷ 0 ∷ 2 ∷ 0 ∷ 0 ∷ 1 ∷ 0 ∷ 0 ∷ 5 ∷ 0 ∷ 1 ∷ 1 ∷ 0 ∷ 0 ∷ 5 ∷ 2 ∷ 3 ∷ 1 ∷ 0 ∷ 4 ∷ 0 ∷ 0 ∷ []

abbrev pub choices_layout : Layout
choices_layout = record { types = record { at = 4; len = 1 }; pairs = record { at = 9; len = 0 }; nodes = record { at = 13; len = 15 }; rule = record { at = 32; len = 1 } }

-- `Files`, where the number of an answer to a file is this.
pub record FromFiles (number : List ℕ → Option ℕ) : Type 0 where
  -- broken: from what is wrong with a file to its number, and back
  pub cut_short : (s : List ℕ) → Bytes s → length s < 4 → number s ≡ some 1
  pub other_kind_lem : Broken most_actions most_pairs other_kind 2
  -- in_order: from a plan file to no number, and back
  pub no_number : (t : ℕ) → 1 ≤ t → t ≤ 3 → number (plan_of t) ≡ none
  pub in_order : PlanFile most_actions most_pairs file
  pub from_one : (s : List ℕ) → Bytes s → Broken most_actions most_pairs s 0 → ⊥

-- `Entries`, with `Permitted`.
pub record FromEntries : Type 0 where
  -- refused: to its number, of a job that nothing gives (real), and of an outcome that there is not, whatever the job (continues);
  pub real : (j : Job) → Sized j → (Real j → ⊥) → (e : Entry) → runner.number_of (take_of j e).answer ≡ some 11
  pub continues : (j : Job) → Sized j → (n : ℕ) → runner.number_of (take_of j (record { leaf = n; outcome = 3 })).answer ≡ some 11
  -- and back: an entry of leaf 1, which is refused, begins no run
  pub refused : (s : Status) → Begins process (entry 1 s ∷ []) → ⊥
  pub unchanged : (j : Job) → Sized j → (n : ℕ) → (take_of j (record { leaf = n; outcome = 3 })).job ≡ j
  pub taken : (s : Status) → (runner.number_of (take_of (fresh_job file) (ended s)).answer ≡ none) × (record_of (take_of (fresh_job file) (ended s)).job ≡ entry 0 s ∷ [])

-- So it is of every verdict on the file in areas that are large enough.
abbrev pub Always : List ℕ → (List ℕ → List ℕ → List ℕ → List ℕ → Answer → Type 0) → Type 0
Always s So = (work work' old new : List ℕ) (v : Answer) → Judged s work work' old new v → work_size ≤ length work → record_size ≤ length old → So work work' old new v

-- `Areas`.
pub record FromAreas : Type 0 where
  pub short_work : (s work' old new : List ℕ) (v : Answer) → Bytes s → Judged s [] work' old new v → verdict.number_of v ≡ some 10
  pub enough_work : (s : List ℕ) → Bytes s → Always s (λ work work' old new v. verdict.number_of v ≡ some 10 → ⊥)
  pub short_record : (s work work' new : List ℕ) (v : Answer) → Bytes s → Judged s work work' [] new v → work_size ≤ length work → verdict.number_of v ≡ some 12
  pub enough_record : (s : List ℕ) → Bytes s → Always s (λ work work' old new v. verdict.number_of v ≡ some 12 → ⊥)
  pub file : (s : List ℕ) → Bytes s → length s < 4 → Always s (λ work work' old new v. verdict.number_of v ≡ some 1)
  pub unchanged : (s : List ℕ) → Bytes s → length s < 4 → Always s (λ work work' old new v. (work' ≡ work) × (new ≡ old))
  pub judged : (t : ℕ) → 1 ≤ t → t ≤ 3 → Always (plan_of t) (λ work work' old new v. (v ≡ Ok Consistent) ⊎ ((set : ℕ) × (v ≡ Ok (Violated set))))

pub record FromDemand1 : Type 0 where
  pub reading : Demand1 → FromFiles (λ s. reader.number_of (read_of s))
  pub accepting : Demand1 → (t : ℕ) → 1 ≤ t → t ≤ 3 → (l : Layout) × (read_of (plan_of t) ≡ Ok l)
  -- the first byte is the number of actions (blocks), and this is 1 to 10 (holds)
  pub bodies : Demand1 → (s : List ℕ) → Bytes s → (l : Layout) → read_of s ≡ Ok l → (get_or s 0 0 ≡ length (bytes_of s l.types)) × (1 ≤ get_or s 0 0) × (get_or s 0 0 ≤ 10)
  pub starting : Demand1 → FromFiles (λ s. runner.number_of (start_of s).answer)
  pub telling : Demand1 → (t : ℕ) → 1 ≤ t → t ≤ 3 → (told : Told) × ((start_of (plan_of t)).answer ≡ Ok told)
  pub no_start : Demand1 → (s : List ℕ) → Bytes s → length s < 4 → (start_of s).job ≡ no_job
  pub no_job_lem : Demand1 → (s : List ℕ) → Bytes s → length s < 4 → Real (start_of s).job → ⊥
  pub entering : Demand1 → FromEntries
  pub judging : Demand1 → FromAreas

-- `Starts`, of the plan with the type t.
pub record FromStarts (t : ℕ) : Type 0 where
  pub number : runner.number_of (start_of (plan_of t)).answer ≡ none
  pub next : next_of (start_of (plan_of t)).answer ≡ 1
  pub end : end_of (start_of (plan_of t)).answer ≡ 0
  pub job : (start_of (plan_of t)).job ≡ fresh_job (plan_of t)
  pub fresh : record_of (start_of (plan_of t)).job ≡ []

-- `Honest`, where a job of the plan stands so.
pub record FromHonest (x : Standing) : Type 0 where
  pub begins : length (record_of x.job) ≤ 1
  pub takes : (s : Status) → record_of x.job ≡ [] → (runner.number_of (take_of x.job (ended s)).answer ≡ none) × (record_of (take_of x.job (ended s)).job ≡ entry 0 s ∷ [])
  pub refuses : (e : Entry) → (e.leaf ≡ 0 → ⊥) → (runner.number_of (take_of x.job e).answer ≡ some 11) × ((take_of x.job e).job ≡ x.job)
  -- ends: from what is told to a complete run, and back
  pub complete : (s : Status) → end_number x.told.end ≡ status_number s → record_of x.job ≡ entry 0 s ∷ []
  pub ends : (s : Status) → record_of x.job ≡ entry 0 s ∷ [] → end_number x.told.end ≡ status_number s
  -- next: from what is told to what begins a run, and back
  pub only_next : (n : ℕ) → x.told.next / 2 ^ n % 2 ≡ 1 → n ≡ 0
  pub next : record_of x.job ≡ [] → x.told.next / 2 ^ 0 % 2 ≡ 1
  -- one_of
  pub over : (s : Status) → end_number x.told.end ≡ status_number s → x.told.next ≡ 0
  pub not_over : end_number x.told.end ≡ 0 → (n : ℕ) × (x.told.next / 2 ^ n % 2 ≡ 1)

-- `WholeLists`.
pub record FromLists : Type 0 where
  pub takes : (s : Status) → TakesAll fresh (ended s ∷ []) (offer fresh (ended s ∷ []))
  -- no list of two entries is taken whole
  pub only : (e e' : Entry) (y : Standing) → TakesAll fresh (e ∷ e' ∷ []) y → ⊥
  -- of any list one entry at most is taken, and recorded
  pub begins : (es : List Entry) → length (taken_from fresh es) ≤ 1
  pub keeps : (es : List Entry) → length (entries_from (offer fresh es).job.entries 0 (offer fresh es).job.taken) ≤ 1
  pub last : (es : List Entry) → TakesAll fresh (taken_from fresh es) (offer fresh es)

-- `Carries`.
pub record FromCarries (j : Job) : Type 0 where
  pub plan : (j.file_len ≡ 21) × (take 21 j.file ≡ file) × (j.timed ≡ false)
  pub long : length j.entries ≡ 126
  pub zeros : j.taken ≤ 62 → get_or j.entries 124 0 ≡ 0

pub record FromDemand2 : Type 0 where
  pub starts : Demand2 → (t : ℕ) → read_of (plan_of t) ≡ Ok layout → FromStarts t
  -- after whatever is offered
  pub honest : Demand2 → (es : List Entry) → FromHonest (offer fresh es)
  pub lists : Demand2 → FromLists
  pub carries : Demand2 → (es : List Entry) → FromCarries (offer fresh es).job
  pub no_prefix : Demand2 → (z : Run) (s t : Status) → Complete process (entry 0 s ∷ z) t → (z ≡ []) × (s ≡ t)

-- `Says`, with `Violation`: the verdict on the plan is that it is violated by the set 0, with the run "0 2".
pub record FromSays (new : List ℕ) (v : Answer) : Type 0 where
  pub not_refused : verdict.number_of v ≡ none
  pub consistent : says_consistent v ≡ false
  pub plainest : shown_run (take record_size new) ≡ entry 0 fail ∷ []
  pub breaks : (rule : PlanRule file layout) → keeps file layout rule (set_given v) ≡ false
  pub replays : TakesToEnd fresh (shown_entries (take record_size new)) fail
  pub smallest : set_given v ≡ 0

-- `AfterVerdict`, of the same.
pub record FromLeaves (work work' old new : List ℕ) : Type 0 where
  pub cleared : work' ≡ cleared_work work
  pub run : take record_size new ≡ 0 ∷ 2 ∷ replicate 124 0
  pub later : drop record_size new ≡ drop record_size old

pub record FromDemand3 : Type 0 where
  pub rule : Demand3 → Rule 1 (0 ∷ 0 ∷ 0x80 ∷ 0x82 ∷ [])
  pub says : Demand3 → Always file (λ work work' old new v. FromSays new v)
  -- consistent, back from all runs
  pub says_consistent_lem : Demand3 → Always kept (λ work work' old new v. says_consistent v ≡ true)
  -- plainest: not "0 2", which has a failed entry, and not "3 1", which comes later
  pub says_plainest : Demand3 → Always choices (λ work work' old new v. shown_run (take record_size new) ≡ entry 1 ok ∷ [])
  pub leaves : Demand3 → Always file (λ work work' old new v. FromLeaves work work' old new)
  pub leaves_zeros : Demand3 → Always kept (λ work work' old new v. take record_size new ≡ replicate record_size 0)
  pub only_shown : Demand3 → (bytes : List ℕ) → ShowsRun file layout 0 bytes → bytes ≡ 0 ∷ 2 ∷ replicate 124 0
  pub one_answer : Demand3 → (work work' work'' old new new' : List ℕ) (v v' : Answer) → Judged file work work' old new v → Judged file work work'' old new' v'
      → (v ≡ v') × (work' ≡ work'') × (new ≡ new')

pub record FromDemands : Type 0 where
  pub demand1 : FromDemand1
  pub demand2 : FromDemand2
  pub demand3 : FromDemand3
