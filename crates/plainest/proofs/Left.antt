-- What the search's answer says while the plainest run is built. Where k is the fewest failed entries of the complete runs that leave the set, an entry of
-- a leaf that is told as next leaves the answer at k exactly where the entries so far go on with it to a run with k failed entries.
use mathlib.Core.Path.{◌≡◌, refl, ◌∙◌, ap}
use mathlib.Core.List.Memᴰ
use mathlib.Core.List.{List, [], ◌∷◌, ◌++◌}
use Prim.Native.Nat.{ℕ, ◌≤◌, ◌<◌}
use native.Mathlib.Omega.{arith}
use borrow.Author.Tests.{eq-eqb}
use lib.ListN.{length, set}
use Rattle.process.specs.Process.{Status, Permits, entry, Run}
use Rattle.process.specs.Figure2.{Complete}
use Rattle.outcomes.specs.Sets.{set_of}
use Rattle.plan.specs.PlanFile.{Runnable}
use Rattle.plan.specs.Tree.{process_of}
use Rattle.plan.proofs.Tree.{some_leaf, drawn}
use Rattle.process.specs.Depth.{most_undos}
use Rattle.runs.specs.Cells.{ending, Outcomes, none_run, outcomes_after, Holds, told_next}
use Rattle.runs.specs.Beginnings.{Begins}
use Rattle.runs.proofs.ThreeLevels.{three_levels_lem}
use Rattle.state.specs.State.{fresh_table}
use Rattle.job.specs.Offer.{status_number}
use Rattle.job.proofs.Outcomes.{Stands, stands_fresh, stands_more}
use Rattle.job.proofs.Comes.{told_begins, next_leaf}
use Rattle.sets.specs.PlanSets.{leaf_set, action_sets}
use Rattle.reorder.specs.Entries.{failures}
use Rattle.reorder.proofs.Lists.{joined, occurs_left}
use Rattle.fewest.specs.Costs.{unreached}
use Rattle.fewest.specs.Least.{LeastBelow}
use Rattle.fewest.specs.Leaving.{Leaving}
use Rattle.plainest.specs.Greedy.{Good, Leads, Greedy}
use Rattle.plainest.specs.Shown.{fewest_left}
use Rattle.plainest.proofs.Greedy.{greedy_plainest}
use Rattle.plainest.proofs.Tables.{outcome_is, entries_has, has_entry, has_entries, complete_of_leaf, leaf_low}

-- A plan, of which some complete run leaves S, and k is the fewest failed entries of those that do.
pub record Searched (types b : List ℕ) (S k : ℕ) : Type 0 where
  pub plan : Runnable types b
  pub least : (table : List ℕ) → length table ≡ 63 → LeastBelow unreached (Leaving types b S table) (fewest_left types b S table)
  pub fresh : fewest_left types b S fresh_table ≡ k
  pub low : k < unreached

-- the fresh table asks for nothing
pub leaving_fresh : (types b : List ℕ) (S : ℕ) (q : Run) (t : Status) → Complete (process_of types b) q t → set_of (action_sets b) q ≡ S
    → Leaving types b S fresh_table (failures q)
leaving_fresh types b S q t c e = record {
  run = q;
  status = t;
  complete = c;
  has = entries_has [] fresh_table stands_fresh b q (λ e o. absurd (Memᴰ.not-nil o));
  leaves = e;
  fails = refl;
}

-- the outcome of the last entry
last_outcome : (w : Run) (n : ℕ) (s : Status) → outcomes_after none_run (w ++ (entry n s ∷ [])) n ≡ ending s
last_outcome w n s = ap (λ (f : Outcomes). f n) (three_levels_lem.at_entry none_run w n s) ∙ rw (eq-eqb n n refl)

module _ (types b : List ℕ) (S k : ℕ) where
  -- r is a complete run of the plan that leaves S with k failed entries; w goes on to such a run
  abbrev pub GoodRun : Run → Type 0
  GoodRun r = Good (process_of types b) (leaf_set b) S k r

  abbrev pub LeadsOn : Run → Type 0
  LeadsOn w = Leads (process_of types b) (leaf_set b) S k w

  pub leads_begins : (w : Run) → LeadsOn w → Begins (process_of types b) w
  leads_begins w (z, g) = (z, g.status, g.complete)

  leaving_good : {table : List ℕ} (x : Leaving types b S table k) → GoodRun x.run
  leaving_good x = record { status = x.status; complete = x.complete; leaves = x.leaves; fails = x.fails }

module _ (types b : List ℕ) (S k : ℕ) (known : Searched types b S k) where
  pub greedy : Greedy (process_of types b) (leaf_set b) S k
  greedy = let d = drawn types b known.plan in greedy_plainest (process_of types b) (leaf_set b) S k d.written d.distinct

  pub at_least : (q : Run) (t : Status) → Complete (process_of types b) q t → set_of (action_sets b) q ≡ S → k ≤ failures q
  at_least q t c e = rw known.fresh at ((known.least fresh_table refl).least (failures q) (leaving_fresh types b S q t c e))

  pub start_leads : LeadsOn types b S k []
  start_leads =
      let x = rw known.fresh at ((known.least fresh_table refl).reached (omega (arith, known.fresh, known.low))) in
      (x.run, leaving_good types b S k x)

  module _ (w : Run) (table : List ℕ) (stands : Stands w table) (n : ℕ) (s : Status) where
    -- with the entry the answer is k where the entries go on
    pub leads_fits : n < 63 → LeadsOn types b S k (w ++ (entry n s ∷ [])) → fewest_left types b S (set table n (status_number s)) ≡ k
    leads_fits h (z, g) =
        let more = stands_more w table n s h stands in
        let least = known.least (set table n (status_number s)) more.long in
        let v = w ++ (entry n s ∷ []) in
        let most = least.least k (record {
          run = v ++ z;
          status = g.status;
          complete = g.complete;
          has = entries_has v (set table n (status_number s)) more b (v ++ z) (λ e o. occurs_left (joined v z refl) o);
          leaves = g.leaves;
          fails = g.fails;
        }) in
        let x = least.reached (omega (arith, known.low)) in
        omega (arith, at_least x.run x.status x.complete x.leaves, x.fails)

    -- and only there, where the leaf is told as next
    pub fits_leads : Begins (process_of types b) w → Holds (told_next most_undos (process_of types b) w) n → fewest_left types b S (set table n (status_number s)) ≡ k
        → LeadsOn types b S k (w ++ (entry n s ∷ []))
    fits_leads begun h e =
        let told = told_begins types b known.plan in
        let (t, p) = told.told_leaf w begun n h in
        let l = next_leaf types b known.plan w n t ((told.next w begun n t).1 (h, p)) in
        let v = w ++ (entry n s ∷ []) in
        let table' = set table n (status_number s) in
        let more = stands_more w table n s (leaf_low types b known.plan n l.present) stands in
        let x = rw e at ((known.least table' more.long).reached (omega (arith, known.low))) in
        let o = has_entry b table' x.run n s l.present l.plain (outcome_is v table' more n ∙ last_outcome w n s) x.has in
        let may = complete_of_leaf types b known.plan x.run x.status n s x.complete o in
        let permitted = (some_leaf types b known.plan (λ m k. (n ≡ m) × Permits k s)).1 (n, may.present, may.plain, (refl, may.permitted)) in
        let begins = (told.next w begun n s).1 (h, permitted) in
        (greedy.by_entries v begins).1 (x.run, leaving_good types b S k x, has_entries types b known.plan v table' more begins x.run x.has)
