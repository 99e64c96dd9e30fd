-- The examples, each drawn from its demand as a hypothesis. Beside the demand there is only what ExamplePlans.antt has of the small plans, so that an example fails where its field says
-- nothing.
use mathlib.Core.Path.{◌≡◌, refl, sym, ap, subst, ◌∙◌}
use mathlib.Core.Bool.{Bool, true, false, false≢true}
use mathlib.Core.List.{List, [], ◌∷◌, map}
use mathlib.Core.Logic.{◌⊎◌, inl, inr}
use mathlib.Core.Option.{Option, none, some}
use Prim.Native.Nat.{ℕ, suc, ◌/◌, ◌%◌, ◌^◌, ◌≤◌, ◌<◌}
use native.Mathlib.Omega.{arith}
use Rattle.std.specs.Prelude.{Ok}
use lib.ListN.{length, get_or, take, replicate}
use Rattle.process.specs.Process.{Status, ok, fail, entry, Run}
use Rattle.reorder.specs.Entries.{failures}
use Rattle.nodes.specs.Fold.{fold_from}
use Rattle.plan.specs.PlanFile.{Bytes, Items}
use Rattle.plan.specs.Refusals.{in_types, cut_heading}
use Rattle.plan.specs.Reading.{read_of}
use Rattle.plan.specs.Reading as reader
use Rattle.state.specs.declared.Entry.{Entry}
use Rattle.job.specs.Job.{no_job, fresh_job, start_of}
use Rattle.job.specs.Numbers.{end_number}
use Rattle.job.specs.Numbers as runner
use Rattle.job.specs.Offer.{offer, status_number, record_of, Real}
use Rattle.job.specs.Lists.{offered, taken_from}
use Rattle.job.specs.declared.Job.{Job}
use Rattle.job.specs.Demand2.{Continues, EndsOrGoesOn, may_end, goes_on}
use Rattle.job.specs.declared.Told.{Told}
use Rattle.plainest.specs.Bytes.{record_bytes, here}
use Rattle.judge.specs.Verdict.{Answer, work_size, record_size, says_consistent, set_given}
use Rattle.judge.specs.Verdict as verdict
use Rattle.judge.specs.Shown.{shown_entries, shown_run, PlainestOf}
use Rattle.judge.specs.Judged.{Judged}
use Rattle.judge.specs.Demand3.{PlanRule, Replays, Violation, Says}
use Rattle.judge.specs.declared.Judgement.TheVariants.{Consistent, Violated}
use Rattle.promises.specs.Refused.{Files, Judges, consistent, violated, Demand1}
use Rattle.promises.specs.Runner.{Demand2}
use Rattle.promises.specs.Verdict.{Demand3}
use Rattle.promises.specs.Examples.{
  other_kind,
  plan_of,
  file,
  layout,
  process,
  fresh,
  ended,
  kept,
  kept_layout,
  choices,
  choices_layout,
  FromFiles,
  FromEntries,
  Always,
  FromAreas,
  FromDemand1,
  FromStarts,
  FromHonest,
  FromLists,
  FromCarries,
  FromDemand2,
  FromSays,
  FromLeaves,
  FromDemand3,
  FromDemands,
}
use Rattle.promises.proofs.ExamplePlans.{
  bytes,
  plan_bytes,
  plan_file,
  accepted,
  reading_numbers,
  starting_numbers,
  other_leaf_refused,
  start_told,
  fresh_sized,
  fresh_empty,
  fresh_real,
  finished_or_failed,
  only_entry,
  begins_short,
  begins_at_leaf,
  continues_empty,
  ended_continues,
  entry_recorded,
  file_rule,
  failed_breaks,
  only_failed,
  shows_failed,
  kept_accepted,
  kept_rule,
  all_keep,
  choices_accepted,
  choices_rule,
  skip_runs,
  skip_breaks,
  Chosen,
  throw_0,
  skip_1,
  skip_3,
  three_runs,
}

-- Demand 1. `Files`, from what the number is of the two files that are computed
from_files : (number : List ℕ → Option ℕ) → ((s : List ℕ) → Bytes s → Files s (number s)) → number other_kind ≡ some 2 → number file ≡ none → FromFiles number
from_files number files two no_number = record {
  cut_short = λ s b h. ((files s b).broken 1).1 (in_types (cut_heading h));
  other_kind_lem = ((files other_kind (bytes other_kind refl)).broken 2).0 two;
  no_number = λ t h k. (files (plan_of t) (plan_bytes t k)).in_order.1 (plan_file t h k);
  in_order = (files file (bytes file refl)).in_order.0 no_number;
  from_one = λ s b h. omega (arith, (files s b).from_one 0 (((files s b).broken 0).1 h));
}

first_byte : (first types : ℕ) → first ≡ types % 256 → Items 1 1 10 types → (first ≡ types) × (1 ≤ first) × (first ≤ 10)
first_byte first types e i = (omega arith, omega arith, omega arith)

not_started : Demand1 → (s : List ℕ) → Bytes s → length s < 4 → (start_of s).job ≡ no_job
not_started d s b h = d.no_start s 1 (((d.starting s b).broken 1).1 (in_types (cut_heading h)))

not_three : (s : Status) → ◌≡◌ {A = ℕ} 3 (status_number s) → ⊥
not_three ok e = omega arith
not_three fail e = omega arith

from_entries : Demand1 → FromEntries
from_entries d = record {
  real = λ j sized none e. (d.entering j sized e).refused.1 (λ p. none p.real);
  continues = λ j sized n. (d.entering j sized _).refused.1 (λ p. not_three p.continues.status p.continues.outcome);
  refused = λ s b. (d.entering (fresh_job file) fresh_sized _).refused.0 (other_leaf_refused s) (record { real = fresh_real; continues = continues_empty _ _ s fresh_empty refl b });
  unchanged = λ j sized n. (d.entering j sized _).unchanged (λ p. not_three p.continues.status p.continues.outcome);
  taken = λ s.
      let t = (d.entering (fresh_job file) fresh_sized (ended s)).taken (record { real = fresh_real; continues = ended_continues _ s fresh_empty }) in
      (t.number, t.recorded ∙ entry_recorded _ s fresh_empty);
}

one_of_two : (v : Answer) → Judges v → (v ≡ Ok Consistent) ⊎ ((set : ℕ) × (v ≡ Ok (Violated set)))
one_of_two _ consistent = inl refl
one_of_two _ (violated set) = inr (set, refl)

cut_file : Demand1 → (s : List ℕ) → Bytes s → length s < 4 → Always s (λ work work' old new v. verdict.number_of v ≡ some 1)
cut_file d s b h work work' old new v j enough room = (((d.judging s work work' old new v b j).file enough room).broken 1).1 (in_types (cut_heading h))

from_areas : Demand1 → FromAreas
from_areas d = record {
  short_work = λ s work' old new v b j. (d.judging s [] work' old new v b j).short_work.1 (omega arith);
  enough_work = λ s b work work' old new v j enough room e. omega (arith, (d.judging s work work' old new v b j).short_work.0 e);
  short_record = λ s work work' new v b j enough. (d.judging s work work' [] new v b j).short_record.1 (enough, omega arith);
  enough_record = λ s b work work' old new v j enough room e. omega (arith, ((d.judging s work work' old new v b j).short_record.0 e).1);
  file = cut_file d;
  unchanged = λ s b h work work' old new v j enough room. (d.judging s work work' old new v b j).unchanged 1 (cut_file d s b h work work' old new v j enough room);
  judged = λ t h k work work' old new v j enough room. one_of_two v ((d.judging (plan_of t) work work' old new v (plan_bytes t k) j).judged enough room (plan_file t h k));
}

from_demand1 : FromDemand1
from_demand1 = record {
  reading = λ d. from_files (λ s. reader.number_of (read_of s)) d.reading reading_numbers.0 reading_numbers.1;
  accepting = λ d t h k. d.accepting (plan_of t) (plan_bytes t k) (plan_file t h k);
  bodies = λ d s b l h. let x = d.bodies s b l h in first_byte _ _ (ap (λ (s : List ℕ). get_or s 0 0) x.0) x.1.types_hold.size;
  starting = λ d. from_files (λ s. runner.number_of (start_of s).answer) d.starting starting_numbers.0 starting_numbers.1;
  telling = λ d t h k. d.telling (plan_of t) (plan_bytes t k) (plan_file t h k);
  no_start = not_started;
  no_job_lem = λ d s b h r. d.no_job_lem (subst Real (not_started d s b h) r);
  entering = from_entries;
  judging = from_areas;
}

-- Demand 2
from_starts : Demand2 → (t : ℕ) → read_of (plan_of t) ≡ Ok layout → FromStarts t
from_starts d t h =
    let x = d.starts (plan_of t) layout h in
    record { number = x.number; next = x.next ∙ (start_told t).0; end = x.end ∙ (start_told t).1; job = x.job; fresh = x.fresh }

is_over : (t : Told) (s : Status) → EndsOrGoesOn t → end_number t.end ≡ status_number s → t.next ≡ 0
is_over t s (may_end s' e n) h = n
is_over t ok (goes_on e n b) h = absurd (omega arith)
is_over t fail (goes_on e n b) h = absurd (omega arith)

is_not_over : (t : Told) → EndsOrGoesOn t → end_number t.end ≡ 0 → (n : ℕ) × (t.next / 2 ^ n % 2 ≡ 1)
is_not_over t (may_end ok e n) h = absurd (omega arith)
is_not_over t (may_end fail e n) h = absurd (omega arith)
is_not_over t (goes_on e n b) h = (n, b)

other_leaf : (w : Run) (e : Entry) → (e.leaf ≡ 0 → ⊥) → Continues process w e → ⊥
other_leaf w e h c = h (begins_at_leaf w e.leaf c.status c.begins)

from_honest : Demand2 → (es : List Entry) → FromHonest (offer fresh es)
unfolding fold_from
from_honest d es =
    let x = d.honest file layout accepted es in
    let w : Run = record_of (offer fresh es).job in
    record {
      begins = begins_short w x.begins;
      takes = λ s h. let t = x.takes (ended s) (ended_continues w s h) in (t.number, t.recorded ∙ entry_recorded w s h);
      refuses = λ e h. let r = x.refuses e (other_leaf w e h) in (r.number, r.unchanged);
      complete = λ s h. only_entry ((x.ends s).0 h);
      ends = λ s h. (x.ends s).1 (rw h (finished_or_failed s));
      only_next = λ n h. let (s, b) = (x.next n).0 h in begins_at_leaf w n s b;
      next = λ h. (x.next 0).1 (ok, rw h ([], ok, finished_or_failed ok));
      over = λ s h. is_over _ s x.one_of h;
      not_over = λ h. is_not_over _ x.one_of h;
    }

offered_length : (w : Run) → length (map offered w) ≡ length w
offered_length [] = refl
offered_length (e ∷ w) = ap suc (offered_length w)

from_lists : Demand2 → FromLists
unfolding fold_from
from_lists d =
    let x = d.lists file layout accepted in
    let one : (es : List Entry) → length (taken_from fresh es) ≤ 1 = λ es. let (w, is, b) = x.begins es in omega (arith, ap length is, offered_length w, begins_short w b) in
    record {
      takes = λ s. x.takes (entry 0 s ∷ []) ([], s, finished_or_failed s);
      only = λ e e' y t. let (w, is, b) = x.only (e ∷ e' ∷ []) y t in omega (arith, ap length is, offered_length w, begins_short w b);
      begins = one;
      keeps = λ es. rw (x.keeps es) (one es);
      last = x.last;
    }

from_carries : Demand2 → (es : List Entry) → FromCarries (offer fresh es).job
from_carries d es =
    let x = d.carries file layout accepted es in
    record {
      plan = (ap (λ (j : Job). j.file_len) x.plan, ap (λ (j : Job). take 21 j.file) x.plan, ap (λ (j : Job). j.timed) x.plan);
      long = x.long;
      zeros = λ h. x.zeros 124 (omega arith) (omega arith);
    }

from_demand2 : FromDemand2
unfolding fold_from
from_demand2 = record {
  starts = from_starts;
  honest = from_honest;
  lists = from_lists;
  carries = from_carries;
  no_prefix = λ d z s t c. d.no_prefix file layout accepted (entry 0 s ∷ []) z s t (finished_or_failed s) c;
}

-- Demand 3
is_false : (b : Bool) → (b ≡ true → ⊥) → b ≡ false
is_false true n = absurd (n refl)
is_false false n = refl

module _ (d : Demand3) (work work' old new : List ℕ) (v : Answer) (j : Judged file work work' old new v) (enough : work_size ≤ length work) (room : record_size ≤ length old) where
  said : (rule : PlanRule file layout) → Says file layout rule new v
  said rule = d.says file work work' old new v j enough room layout accepted rule

  not_consistent : says_consistent v ≡ false
  unfolding fold_from
  not_consistent = is_false (says_consistent v) (λ e. false≢true (sym failed_breaks ∙ (said file_rule).consistent.0 e (entry 0 fail ∷ []) fail (finished_or_failed fail)))

  violation : Violation file layout file_rule (set_given v) (take record_size new)
  violation = (said file_rule).violated not_consistent

  set_0 : set_given v ≡ 0
  unfolding fold_from
  set_0 = let h : set_given v ≤ 0 = violation.smallest (entry 0 fail ∷ []) fail (finished_or_failed fail) failed_breaks in omega arith

  shown : (shown_run (take record_size new) ≡ entry 0 fail ∷ []) × (violation.plainest.status ≡ fail)
  unfolding fold_from
  shown = only_failed (shown_run (take record_size new)) _ violation.plainest.complete (violation.plainest.leaves ∙ set_0)

  from_says : FromSays new v
  from_says = record {
    not_refused = (said file_rule).not_refused;
    consistent = not_consistent;
    plainest = shown.0;
    breaks = λ rule. ((said rule).violated not_consistent).breaks;
    replays = subst (Replays file layout (shown_entries (take record_size new))) shown.1 violation.replays;
    smallest = set_0;
  }

  from_leaves : FromLeaves work work' old new
  from_leaves =
      let after = d.leaves file work work' old new v j enough room layout accepted in
      record { cleared = after.cleared; run = after.run not_consistent ∙ ap record_bytes shown.0; later = after.later }

says_kept : Demand3 → Always kept (λ work work' old new v. says_consistent v ≡ true)
says_kept d work work' old new v j enough room = (d.says kept work work' old new v j enough room kept_layout kept_accepted kept_rule).consistent.1 all_keep

leaves_kept : Demand3 → Always kept (λ work work' old new v. take record_size new ≡ replicate record_size 0)
leaves_kept d work work' old new v j enough room =
    (d.leaves kept work work' old new v j enough room kept_layout kept_accepted).zeros (says_kept d work work' old new v j enough room)

plainest_skip : (set : ℕ) (r : Run) → set ≡ 0 → PlainestOf choices choices_layout set r → Chosen r → r ≡ entry 1 ok ∷ []
unfolding fold_from
plainest_skip set r z p (throw_0 e) = let h : failures r ≤ 0 = p.fewest (entry 1 ok ∷ []) ok skip_runs (sym z) in let k : failures r ≡ 1 = rw e in absurd (omega arith)
plainest_skip set r z p (skip_1 e) = e
plainest_skip set r z p (skip_3 e) = absurd (p.first (entry 1 ok ∷ []) ok skip_runs (sym z) (rw e) (rw e (here {x = 1} {y = 3} (omega arith))))

says_skip : Demand3 → Always choices (λ work work' old new v. shown_run (take record_size new) ≡ entry 1 ok ∷ [])
unfolding fold_from
says_skip d work work' old new v j enough room =
    let x = d.says choices work work' old new v j enough room choices_layout choices_accepted choices_rule in
    let no : says_consistent v ≡ false = is_false (says_consistent v) (λ e. false≢true (sym skip_breaks ∙ x.consistent.0 e (entry 1 ok ∷ []) ok skip_runs)) in
    let h : set_given v ≤ 0 = (x.violated no).smallest (entry 1 ok ∷ []) ok skip_runs skip_breaks in
    let p = (x.violated no).plainest in
    plainest_skip (set_given v) (shown_run (take record_size new)) (omega arith) p (three_runs p.complete)

from_demand3 : FromDemand3
from_demand3 = record {
  rule = λ d. d.rule kept kept_layout kept_accepted;
  says = from_says;
  says_consistent_lem = says_kept;
  says_plainest = says_skip;
  leaves = from_leaves;
  leaves_zeros = leaves_kept;
  only_shown = λ d bytes x. d.only_shown file layout 0 bytes (0 ∷ 2 ∷ replicate 124 0) x shows_failed;
  one_answer = λ d work work' work'' old new new' v v' j j'. let x = d.one_answer file work work' work'' old new new' v v' j j' in (x.answers, x.works, x.records);
}

pub from_demands : FromDemands
from_demands = record { demand1 = from_demand1; demand2 = from_demand2; demand3 = from_demand3 }
