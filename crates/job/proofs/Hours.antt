-- Wherever a fresh timed job stands after some timed entries, it is an untimed standing given hours: the untimed runner has taken the record entry by
-- entry, and the record can have come by the job's minute. From this, what is promised of the next entry.
use Rattle.std.specs.Prelude.{Result, Ok, Err}
use mathlib.Core.Path.{◌≡◌, refl, sym, ap, subst, ◌∙◌}
use mathlib.Core.Bool.{true, false}
use mathlib.Core.List.{List, [], ◌∷◌, ◌++◌}
use mathlib.Core.Logic.{◌⊎◌, inl, inr}
use mathlib.Core.Option.{none, some-ne-none}
use Prim.Native.Nat.{ℕ, ◌+◌, ◌*◌, ◌≤◌, ◌<◌}
use native.Mathlib.Omega.{arith}
use lib.ListN.{length, set}
use lib.Seq.{get_or-set_other}
use Rattle.blocks.proofs.Bounded.{decide}
use Rattle.hours.specs.Windows.{WindowFile}
use Rattle.hours.specs.Hours.{OpenAt, leaf_window, inside, entry_checked}
use Rattle.hours.specs.declared.Fault as hours
use Rattle.hours.specs.declared.Fault.TheVariants.{Early, Outside}
use Rattle.hours.specs.Kept.{leaf_of, came_by}
use Rattle.hours.proofs.KeepsWindows.{keeps_windows}
use Rattle.hours.proofs.Kept.{came_none, came_same, came_more, fault_none, no_fault, fault_early, fault_outside}
use Rattle.plan.specs.Reading.{bytes_of, read_of}
use Rattle.plan.specs.declared.Layout.{Layout}
use Rattle.state.specs.State.{told_by, entries_from}
use Rattle.state.specs.declared.Entry.{Entry}
use Rattle.job.specs.Job.{saying, refusal, with_entry, take_of}
use Rattle.job.specs.Numbers.{number_of, Refuses}
use Rattle.job.specs.Offer.{Standing, on_answer, next, offer, TakesAll, no_more, one_more, started}
use Rattle.job.specs.Timed.{take_timed_of, with_hours}
use Rattle.job.specs.TimedRunner.{TimedEntry, next_timed, offer_timed, started_timed, KeepsHours}
use Rattle.job.specs.declared.Refusal.{Refusal}
use Rattle.job.specs.declared.Refusal.TheVariants as why
use Rattle.job.specs.declared.Job.{Job}
use Rattle.job.specs.declared.Taken.{Taken}
use Rattle.job.specs.declared.Told.{Told}
use Rattle.job.proofs.Entries.{longer, here, entries_more}
use Rattle.job.proofs.Good.{not_taken, after, taken_so, room}
use Rattle.job.proofs.Standing.{refuses_so, Fine, may, next_fine, started_fine}
use Rattle.job.proofs.Hourly.{refused_at, taken_at, faulted_at}

-- one entry more is taken after the others
takes_more : (x y : Standing) (es : List Entry) (e : Entry) → TakesAll x es y → number_of (take_of y.job e).answer ≡ none → TakesAll x (es ++ (e ∷ [])) (next y e)
takes_more x y [] e no_more n = one_more n no_more
takes_more x y (d ∷ es) e (one_more k t) n = one_more k (takes_more (next x d) y es e t n)

-- entries that are all taken are entries that are offered
pub takes_offered : (x y : Standing) (es : List Entry) → TakesAll x es y → y ≡ offer x es
unfolding offer
takes_offered x y [] no_more = refl
takes_offered x y (d ∷ es) (one_more k t) = takes_offered (next x d) y es t

module _ (s : List ℕ) (l : Layout) (acc : read_of s ≡ Ok l) (w : List ℕ) (f : WindowFile l.types.len w) where
  abbrev N : List ℕ
  N = bytes_of s l.nodes

  -- an untimed standing, given hours
  abbrev given : Standing → ℕ → Standing
  given y m = record { job = with_hours w y.job m; told = y.told }

  pub record Kept (x : Standing) : Type 0 where
    pub untimed : Standing
    pub minute : ℕ
    pub fine : Fine s l acc untimed
    pub accepted : TakesAll (started s l) (entries_from untimed.job.entries 0 untimed.job.taken) untimed
    pub came : came_by w N untimed.job.entries untimed.job.taken minute ≡ true
    pub is : x ≡ given untimed minute

  pub started_kept : Kept (started_timed s l w)
  unfolding entries_from
  started_kept = record {
    untimed = started s l;
    minute = 0;
    fine = started_fine s l acc;
    accepted = no_more;
    came = came_none w N (started s l).job.entries;
    is = refl;
  }

  module _ (y : Standing) (m0 : ℕ) (fine : Fine s l acc y)
      (accepted : TakesAll (started s l) (entries_from y.job.entries 0 y.job.taken) y)
      (came : came_by w N y.job.entries y.job.taken m0 ≡ true) where
    abbrev j : Job
    j = y.job

    abbrev x : Standing
    x = given y m0

    stays : Kept x
    stays = record { untimed = y; minute = m0; fine = fine; accepted = accepted; came = came; is = refl }

    module _ (t : TimedEntry) where
      abbrev e : Entry
      e = t.entry

      abbrev m : ℕ
      m = t.minute

      abbrev hour : Result Unit hours.Fault
      hour = entry_checked w N e.leaf m0 m

      -- what is then said goes by the timed runner's answer
      said : Taken → Standing
      said a = on_answer a.answer a.job y.told

      refused_stays : (r : Refusal) → take_timed_of x.job e m ≡ refusal r x.job → Kept (next_timed x t)
      unfolding said
      refused_stays r h = subst Kept (sym (ap said h)) stays

      module _ (h : may s l acc y fine e ≡ true) where
        abbrev told_e : Told
        told_e = saying (told_by N (after s l acc j fine.good e h))

        -- where the untimed runner then stands
        abbrev y' : Standing
        y' = record { job = with_entry j e; told = told_e }

        taken_e : take_of j e ≡ record { answer = Ok told_e; job = with_entry j e }
        taken_e = taken_so s l acc j fine.good e h

        moved : next y e ≡ y'
        unfolding said
        moved = ap said taken_e

        record_room : 2 * j.taken + 1 < length j.entries
        record_room = room s l acc j fine.good e h

        came_e : hour ≡ Ok tt → came_by w N (with_entry j e).entries (j.taken + 1) m ≡ true
        came_e z =
            let r = j.entries in
            let r' = longer r j.taken e.leaf e.outcome record_room in
            let (late, open_then) = fault_none w N e.leaf m0 m z in
            let before : (i : ℕ) → i < j.taken → leaf_of r i ≡ leaf_of r' i =
            λ i k. sym (get_or-set_other (set r (2 * j.taken) e.leaf) (2 * j.taken + 1) (2 * i) e.outcome 0 (λ q. omega arith) ∙ get_or-set_other r (2 * j.taken) (2 * i) e.leaf 0 (λ q. omega arith)) in
            let last : leaf_of r' j.taken ≡ e.leaf = ap (λ (d : Entry). d.leaf) (here r j.taken e.leaf e.outcome record_room) in
            came_more l.types.len w f N r' j.taken m0 m (sym (came_same w N r r' j.taken m0 before) ∙ came) late (ap (λ (n : ℕ). inside (leaf_window w N n) m) last ∙ open_then)

        goes_on : hour ≡ Ok tt → Kept (next_timed x t)
        unfolding said
        goes_on z = record {
          untimed = y';
          minute = m;
          fine = subst (Fine s l acc) moved (next_fine s l acc y fine e);
          accepted =
              subst (TakesAll (started s l) (entries_from (with_entry j e).entries 0 (j.taken + 1))) moved
              (subst (λ (es : List Entry). TakesAll (started s l) es (next y e)) (sym (entries_more j.entries j.taken e.leaf e.outcome record_room))
              (takes_more (started s l) y (entries_from j.entries 0 j.taken) e accepted (ap (λ (a : Taken). number_of a.answer) taken_e)));
          came = came_e z;
          is = ap said (taken_at s l acc w f j fine.good m0 came e m told_e (with_entry j e) taken_e z);
        }

        is_refused : (q : hours.Fault) → hour ≡ Err q → take_timed_of x.job e m ≡ refusal (why.Hours q) x.job
        is_refused q z = faulted_at s l acc w f j fine.good m0 came e m told_e (with_entry j e) taken_e q z

      next_given : Kept (next_timed x t)
      next_given = go (decide (may s l acc y fine e)) hour refl
        where
          go : (may s l acc y fine e ≡ true) ⊎ (may s l acc y fine e ≡ false) → (q : Result Unit hours.Fault) → hour ≡ q → Kept (next_timed x t)
          go (inl h) (Ok u) z = goes_on h z
          go (inl h) (Err q) z = refused_stays (why.Hours q) (is_refused h q z)
          go (inr h) q z = refused_stays why.Entry (refused_at s l acc w f j fine.good m0 came e m (not_taken s l acc j fine.good e h))

      -- the untimed runner takes the entry where it may come
      may_come_lem : number_of (take_of j e).answer ≡ none → may s l acc y fine e ≡ true
      may_come_lem n = go (decide (may s l acc y fine e))
        where
          go : (may s l acc y fine e ≡ true) ⊎ (may s l acc y fine e ≡ false) → may s l acc y fine e ≡ true
          go (inl h) = h
          go (inr h) = absurd (some-ne-none 11 (sym (ap (λ (a : Taken). number_of a.answer) (not_taken s l acc j fine.good e h)) ∙ n))

      not_taken_at : (number_of (take_of j e).answer ≡ none → ⊥) → Refuses 11 x.job (take_timed_of x.job e m)
      not_taken_at n = go (decide (may s l acc y fine e))
        where
          go : (may s l acc y fine e ≡ true) ⊎ (may s l acc y fine e ≡ false) → Refuses 11 x.job (take_timed_of x.job e m)
          go (inl h) = absurd (n (ap (λ (a : Taken). number_of a.answer) (taken_e h)))
          go (inr h) = refuses_so why.Entry x.job (take_timed_of x.job e m) (refused_at s l acc w f j fine.good m0 came e m (not_taken s l acc j fine.good e h))

      too_early_at : number_of (take_of j e).answer ≡ none → m < m0 → Refuses 21 x.job (take_timed_of x.job e m)
      too_early_at n early = refuses_so (why.Hours Early) x.job (take_timed_of x.job e m) (is_refused (may_come_lem n) Early (fault_early w N e.leaf m0 m early))

      outside_at : number_of (take_of j e).answer ≡ none → m0 ≤ m → (OpenAt w N e.leaf m → ⊥) → Refuses 22 x.job (take_timed_of x.job e m)
      outside_at n late shut = go (decide (inside (leaf_window w N e.leaf) m))
        where
          go : (inside (leaf_window w N e.leaf) m ≡ true) ⊎ (inside (leaf_window w N e.leaf) m ≡ false) → Refuses 22 x.job (take_timed_of x.job e m)
          go (inl i) = absurd (shut ((keeps_windows.tells l.types.len w N e.leaf m f).0 i))
          go (inr i) = refuses_so (why.Hours Outside) x.job (take_timed_of x.job e m) (is_refused (may_come_lem n) Outside (fault_outside w N e.leaf m0 m late i))

      takes_at : number_of (take_of j e).answer ≡ none → m0 ≤ m → OpenAt w N e.leaf m
          → take_timed_of x.job e m ≡ record { answer = (take_of j e).answer; job = with_hours w (take_of j e).job m }
      takes_at n late open_then =
          let h = may_come_lem n in
          taken_at s l acc w f j fine.good m0 came e m (told_e h) (with_entry j e) (taken_e h) (no_fault w N e.leaf m0 m late ((keeps_windows.tells l.types.len w N e.leaf m f).1 open_then))
          ∙ sym (ap (λ (a : Taken). record { answer = a.answer; job = with_hours w a.job m }) (taken_e h))

    keeps_given : KeepsHours s l w x
    keeps_given = record {
      untimed = y;
      accepted = accepted;
      job = refl;
      told = refl;
      not_taken = not_taken_at;
      too_early = too_early_at;
      outside = outside_at;
      takes = takes_at;
    }

  next_kept : (x : Standing) → Kept x → (t : TimedEntry) → Kept (next_timed x t)
  next_kept x k t = subst (λ (z : Standing). Kept (next_timed z t)) (sym k.is) (next_given k.untimed k.minute k.fine k.accepted k.came t)

  pub offered_kept : (ts : List TimedEntry) (x : Standing) → Kept x → Kept (offer_timed x ts)
  unfolding offer_timed
  offered_kept [] x k = k
  offered_kept (t ∷ ts) x k = offered_kept ts (next_timed x t) (next_kept x k t)

  pub keeps_hours : (x : Standing) → Kept x → KeepsHours s l w x
  keeps_hours x k = subst (KeepsHours s l w) (sym k.is) (keeps_given k.untimed k.minute k.fine k.accepted k.came)
