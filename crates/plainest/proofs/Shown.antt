-- The statement of specs/Shown, from the search's. Step by step the entries so far are those that specs/Greedy chooses, and the table stands for them. Where
-- no entry is found they go on to a run that leaves the set with the fewest failed entries, and with no entry more: they are that run. A run has
-- at most 63 entries, so that the steps suffice.
use mathlib.Core.Path.{◌≡◌, refl}
use mathlib.Core.List.{List, [], ◌∷◌, ◌++◌, map, append-nil, append_assoc}
use Prim.Native.Nat.{ℕ, zero, suc, ◌+◌, ◌≤◌, ◌<◌}
use native.Mathlib.Omega.{arith}
use lib.ListN.{length, set, length-append}
use Rattle.std.proofs.Common.{Option, Some}
use Rattle.process.specs.Process.{Status, ok, fail, entry, Run}
use Rattle.process.specs.Process as process
use Rattle.nodes.specs.Nodes.{count}
use Rattle.plan.specs.Tree.{process_of}
use Rattle.state.specs.State.{fresh_table}
use Rattle.state.specs.declared.Entry.{Entry}
use Rattle.job.specs.Offer.{status_number, run_entry}
use Rattle.job.proofs.Outcomes.{Stands, stands_fresh, stands_more}
use Rattle.sets.specs.PlanSets.{leaf_set}
use Rattle.plainest.specs.Greedy.{Next, Chosen, at_first, and_then}
use Rattle.plainest.specs.Shown.{fewest_left, next_entry, and_after, entries_after, plainest_run, PlainestShown}
use Rattle.plainest.proofs.Greedy.{leads_entry}
use Rattle.plainest.proofs.Tables.{leaf_low, complete_short}
use Rattle.plainest.proofs.Left.{Searched, GoodRun, LeadsOn, greedy, at_least, start_leads, leads_begins}
use Rattle.plainest.proofs.Asked.{known}
use Rattle.plainest.proofs.Steps.{Step, stops, goes, leads_low, next_step}

module _ (types b : List ℕ) (S k : ℕ) (known : Searched types b S k) where
  abbrev Taken : Run → Type 0
  Taken w = Chosen (process_of types b) (leaf_set b) S k w

  -- the entries after a table; and where the next is e
  abbrev after : ℕ → List ℕ → Run
  after m table = map run_entry (entries_after types b S k m table)

  abbrev from : ℕ → List ℕ → Option Entry → Run
  from m table e = map run_entry (and_after types b S k e (λ e. entries_after types b S k m (set table e.leaf e.outcome)))

  -- what is chosen to its end
  record Ends (w : Run) : Type 0 where
    chosen : Taken w
    good : GoodRun types b S k w

  -- what is chosen goes on, and where no entry may follow it is such a run
  taken_leads : {w : Run} → Taken w → LeadsOn types b S k w
  taken_leads at_first = start_leads types b S k known
  taken_leads (and_then c n e) = rw e at n.leads

  stuck : (w : Run) → LeadsOn types b S k w → ((e : process.Entry) → ¬ LeadsOn types b S k (w ++ (e ∷ []))) → GoodRun types b S k w
  stuck w ([], g) h = rw (append-nil w) at g
  stuck w (e ∷ z, g) h = absurd (h e (leads_entry (process_of types b) (leaf_set b) S k w e z g))

  -- no entry follows 63
  full : (w : Run) → 63 ≤ length w → (e : process.Entry) → ¬ LeadsOn types b S k (w ++ (e ∷ []))
  full w h e (z, g) =
      omega (
        arith,
        complete_short types b known.plan ((w ++ (e ∷ [])) ++ z) g.status g.complete,
        length-append (w ++ (e ∷ [])) z,
        length-append w (e ∷ []),
      )

  ended : (w : Run) → Taken w → ((e : process.Entry) → ¬ LeadsOn types b S k (w ++ (e ∷ []))) → Ends (w ++ [])
  ended w c h = rw (append-nil w) (record { chosen = c; good = stuck w (taken_leads c) h })

  walked : (m : ℕ) (w : Run) (table : List ℕ) → Stands w table → Taken w → 63 ≤ m + length w → Ends (w ++ after m table)
  unfolding entries_after
  walked zero w table stands c h = ended w c (full w (omega arith))
  walked (suc m) w table stands c h =
      by (next_entry types b S k table) (next_step types b S k known w table stands (leads_begins types b S k w (taken_leads c)))
      (λ n s l x.
      walked m (w ++ (entry n s ∷ [])) (set table n (status_number s)) (stands_more w table n s (leaf_low types b known.plan n l) stands) (and_then c x refl)
      (omega (arith, length-append w (entry n s ∷ []))))
    where
      none : ((n : ℕ) (s : Status) → n < count b → ¬ LeadsOn types b S k (w ++ (entry n s ∷ []))) → (e : process.Entry) → ¬ LeadsOn types b S k (w ++ (e ∷ []))
      none f (entry n s) g = f n s (leads_low types b S k known w n s g) g

      more : (n : ℕ) (s : Status) (e : Option Entry) → e ≡ Some (record { leaf = n; outcome = status_number s })
          → Ends ((w ++ (entry n s ∷ [])) ++ after m (set table n (status_number s))) → Ends (w ++ from m table e)
      more n ok e i x = rw i (rw (append_assoc w (entry n ok ∷ []) (after m (set table n 1))) at x)
      more n fail e i x = rw i (rw (append_assoc w (entry n fail ∷ []) (after m (set table n 2))) at x)

      by : (e : Option Entry) → Step types b S k known w (count b) e
          → ((n : ℕ) (s : Status) → n < count b → Next (process_of types b) (leaf_set b) S k w (entry n s)
          → Ends ((w ++ (entry n s ∷ [])) ++ after m (set table n (status_number s))))
          → Ends (w ++ from m table e)
      by e (stops z f) go = rw z (ended w c (none f))
      by e (goes n s l i x) go = more n s e i (go n s l x)

pub plainest_shown : PlainestShown
plainest_shown types b plan S small left =
    let k = fewest_left types b S fresh_table in
    let all = known types b plan S small left in
    let x = walked types b S k all 63 [] fresh_table stands_fresh at_first (omega arith) in
    record {
      plainest = (greedy types b S k all).plainest (plainest_run types b S) x.chosen x.good (at_least types b S k all);
      short = complete_short types b plan (plainest_run types b S) x.good.status x.good.complete;
    }
