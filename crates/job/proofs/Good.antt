-- A good job of an accepted plan: it carries the plan's file, and its record replays to a table that stands for a run that begins. A start
-- gives one, an entry that may come gives the next one, and any other entry is refused.
use Rattle.std.specs.Prelude.{Ok}
use mathlib.Core.Path.{◌≡◌, refl, ap, ◌∙◌}
use mathlib.Core.Bool.{Bool, true, false, cond}
use mathlib.Core.List.{List, [], ◌∷◌, ◌++◌, map}
use Prim.Native.Nat.{ℕ, zero, suc, ◌+◌, ◌-◌, ◌*◌, ◌<◌}
use native.Mathlib.Omega.{arith}
use lib.ListN.{length, set, replicate, length-append, length-replicate, length-set, length-map}
use lib.Seq.{take-append_seam}
use borrow.Author.Tests.{le-leb, lt-ltb}
use Rattle.process.specs.Process.{Process, Run}
use Rattle.plan.specs.PlanFile.{most_bytes, Runnable}
use Rattle.plan.specs.Reading.{bytes_of, read_of}
use Rattle.plan.specs.Tree.{process_of}
use Rattle.plan.specs.declared.Layout.{Layout}
use Rattle.plan.proofs.Demand1.{demand1, runnable}
use Rattle.state.specs.State.{told_by, may_come, fresh_table, replay, entries_from, state_after}
use Rattle.job.specs.Job.{most_windows, saying, refusal, fresh_job, plan_of, tidy, untimed, with_entry, after_entry, take_after, take_with, take_on, take_of}
use Rattle.job.specs.Offer.{run_entry, record_of, Sized}
use Rattle.state.specs.declared.Entry.{Entry}
use Rattle.job.specs.declared.Refusal.TheVariants as why
use Rattle.job.specs.declared.Job.{Job}
use Rattle.job.proofs.Tidy.{Tidy}
use Rattle.job.proofs.Areas.{padded_zeros, zeros_past}
use Rattle.job.proofs.Outcomes.{zeros_at, stands_fresh}
use Rattle.job.proofs.Comes.{told_begins}
use Rattle.job.proofs.Entries.{entries_more, zeros_more}
use Rattle.job.proofs.Followed.{Reached, reached_more, follows, replay_more}
use Rattle.job.proofs.Room.{once_few}

pub tidy_holds : (j : Job) → Tidy j → tidy j ≡ true
tidy_holds j t = rw (le-leb _ _ t.file_fits, lt-ltb _ _ t.few, t.file_zeros, t.entries_zeros)

entries_length : (r : List ℕ) (i k : ℕ) → length (entries_from r i k) ≡ k
unfolding entries_from
entries_length r i zero = refl
entries_length r i (suc k) = ap suc (entries_length r (i + 1) k)

pub map_snoc : (es : List Entry) (e : Entry) → map run_entry (es ++ (e ∷ [])) ≡ map run_entry es ++ (run_entry e ∷ [])
map_snoc [] e = refl
map_snoc (d ∷ es) e = ap (λ (w : Run). run_entry d ∷ w) (map_snoc es e)

module _ (s : List ℕ) (l : Layout) (acc : read_of s ≡ Ok l) where
  abbrev types : List ℕ
  types = bytes_of s l.types

  abbrev b : List ℕ
  b = bytes_of s l.nodes

  pub runs_on : Runnable types b
  runs_on = runnable s l acc

  abbrev pub Plan : Process
  Plan = process_of types b

  pub record Good (j : Job) : Type 0 where
    pub plan : plan_of j ≡ s
    pub sized : Sized j
    pub plain : untimed j ≡ true
    pub neat : Tidy j
    pub table : List ℕ
    pub state : state_after types b j.entries j.taken ≡ Ok table

  fresh_reached : Reached types b runs_on [] fresh_table
  fresh_reached = record { stands = stands_fresh; begins = (told_begins types b runs_on).start; below = tt }

  -- the record begins a run, and the table stands for it
  pub good_reached : (j : Job) (g : Good j) → Reached types b runs_on (record_of j) g.table
  good_reached j g =
      follows types b runs_on (entries_from j.entries 0 j.taken) [] fresh_table g.table fresh_reached g.state

  unfoldable pub fresh_good : Good (fresh_job s)
  unfolding replay entries_from
  fresh_good =
      let few = demand1.most s l acc in
      record {
        plan = take-append_seam s (replicate (most_bytes - length s) 0);
        sized = record { file = simp length-append (omega (arith, length-replicate {A = ℕ} (most_bytes - length s) 0)); entries = refl; windows = refl; minute = omega arith };
        plain = zeros_past (replicate most_windows 0) 0 (λ i h k. zeros_at most_windows i);
        neat = record { file_fits = few; few = omega arith; file_zeros = padded_zeros s (most_bytes - length s); entries_zeros = zeros_past (replicate 126 0) (2 * 0) (λ i h k. zeros_at 126 i) };
        table = fresh_table;
        state = refl;
      }

  module _ (j : Job) (g : Good j) (e : Entry) where
    -- an entry goes by whether it may come
    taking : take_of j e ≡ cond (may_come types b g.table e.leaf e.outcome) (after_entry b g.table j e) (refusal why.Entry j)
    taking =
        ap (λ (t : Bool). cond t (cond (tidy j) (take_on j e (read_of (plan_of j))) (refusal why.Entry j)) (refusal why.Entry j)) g.plain
        ∙ ap (λ (t : Bool). cond t (take_on j e (read_of (plan_of j))) (refusal why.Entry j)) (tidy_holds j g.neat)
        ∙ ap (take_on j e) (ap read_of g.plan ∙ acc)
        ∙ ap (λ (p : List ℕ). take_with (bytes_of p l.types) (bytes_of p l.nodes) j e) g.plan
        ∙ ap (take_after types b j e) g.state

    pub not_taken : may_come types b g.table e.leaf e.outcome ≡ false → take_of j e ≡ refusal why.Entry j
    not_taken h = taking ∙ rw h

    module _ (h : may_come types b g.table e.leaf e.outcome ≡ true) where
      abbrev pub after : List ℕ
      after = set g.table e.leaf e.outcome

      -- the run with the entry
      arrived : Reached types b runs_on (record_of j ++ (run_entry e ∷ [])) after
      arrived = reached_more types b runs_on (record_of j) g.table e (good_reached j g) h

      pub taken_so : take_of j e ≡ record { answer = Ok (saying (told_by b after)); job = with_entry j e }
      taken_so = taking ∙ rw h

      pub room : 2 * j.taken + 1 < length j.entries
      room = omega (arith, g.neat.few, g.sized.entries)

      pub record_more : record_of (with_entry j e) ≡ record_of j ++ (run_entry e ∷ [])
      record_more = ap (map run_entry) (entries_more j.entries j.taken e.leaf e.outcome room) ∙ map_snoc (entries_from j.entries 0 j.taken) e

      -- there is room for it, and for one more
      pub still_few : j.taken + 1 < 63
      still_few =
          let w = record_of j ++ (run_entry e ∷ []) in
          let n = once_few 62 w arrived.below ((told_begins types b runs_on).once w arrived.begins) in
          let long : length (record_of j) ≡ j.taken = length-map (entries_from j.entries 0 j.taken) run_entry ∙ entries_length j.entries 0 j.taken in
          omega (arith, length-append (record_of j) (run_entry e ∷ []))

      unfoldable pub next_good : Good (with_entry j e)
      next_good = record {
        plan = g.plan;
        sized = record { file = g.sized.file; entries = simp length-set g.sized.entries; windows = g.sized.windows; minute = g.sized.minute };
        plain = g.plain;
        neat = record { file_fits = g.neat.file_fits; few = still_few; file_zeros = g.neat.file_zeros; entries_zeros = zeros_more j.entries j.taken e.leaf e.outcome room g.neat.entries_zeros };
        table = after;
        state = ap (replay types b fresh_table) (entries_more j.entries j.taken e.leaf e.outcome room) ∙ replay_more types b runs_on (entries_from j.entries 0 j.taken) fresh_table g.table e g.state h;
      }
