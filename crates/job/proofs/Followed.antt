-- A record that replays is a beginning, with the table that stands for it; and one entry more replays where it may come.
use Rattle.std.specs.Prelude.{Result, Ok, Err}
use mathlib.Core.Path.{◌≡◌, refl, sym, subst}
use mathlib.Core.Bool.{true, false, cond}
use mathlib.Core.List.{List, [], ◌∷◌, ◌++◌, map, append_assoc, append-nil}
use mathlib.Core.Logic.{◌⊎◌, inl, inr}
use Prim.Native.Nat.{ℕ}
use lib.ListN.{set}
use Rattle.blocks.proofs.Bounded.{decide}
use Rattle.process.specs.Process.{Status, ok, fail, Process, entry, Run}
use Rattle.plan.specs.PlanFile.{Runnable}
use Rattle.plan.specs.Tree.{process_of}
use Rattle.runs.specs.Beginnings.{Begins}
use Rattle.state.specs.State.{may_come, replay}
use Rattle.job.specs.Offer.{status_number, status_of, run_entry}
use Rattle.state.specs.declared.Entry.{Entry}
use Rattle.state.proofs.May.{comes_small, comes_leaf}
use Rattle.job.proofs.Room.{Below, below_more}
use Rattle.job.proofs.Outcomes.{Stands, stands_more}
use Rattle.job.proofs.Comes.{comes}

pub status_back : (s : Status) → status_of (status_number s) ≡ s
status_back ok = refl
status_back fail = refl

-- there is no table where there is one
pub err_ok : {u t : List ℕ} → ◌≡◌ {A = Result (List ℕ) (List ℕ)} (Err u) (Ok t) → ⊥
err_ok h = cc

module _ (types b : List ℕ) (r : Runnable types b) where
  abbrev P : Process
  P = process_of types b

  -- a run that begins, and the table that stands for it
  pub record Reached (w : Run) (table : List ℕ) : Type 0 where
    pub stands : Stands w table
    pub begins : Begins P w
    pub below : Below 62 w

  -- an entry that may come leads to such a run
  pub reached_more : (w : Run) (table : List ℕ) (e : Entry) → Reached w table → may_come types b table e.leaf e.outcome ≡ true
      → Reached (w ++ (run_entry e ∷ [])) (set table e.leaf e.outcome)
  reached_more w table e x h =
      let (s, o, z) = (comes types b r w table x.stands x.begins e.leaf e.outcome).0 h in
      let small = comes_small types b table e.leaf e.outcome r h in
      subst (λ (k : ℕ). Reached (w ++ (entry e.leaf (status_of k) ∷ [])) (set table e.leaf k)) (sym o)
      (record { stands = rw (status_back s) (stands_more w table e.leaf s small x.stands); begins = rw (status_back s) z; below = below_more 62 w (entry e.leaf (status_of (status_number s))) x.below (comes_leaf types b table e.leaf e.outcome r h, tt) })

  pub follows : (es : List Entry) (w : Run) (table last : List ℕ) → Reached w table → replay types b table es ≡ Ok last → Reached (w ++ map run_entry es) last
  unfolding replay
  follows [] w table last x h =
      let same : table ≡ last = cc in
      rw (append-nil w, ← same) x
  follows (e ∷ es) w table last x h = go (follows es) (decide (may_come types b table e.leaf e.outcome))
    where
      go : ((w : Run) (table last : List ℕ) → Reached w table → replay types b table es ≡ Ok last → Reached (w ++ map run_entry es) last)
          → (may_come types b table e.leaf e.outcome ≡ true) ⊎ (may_come types b table e.leaf e.outcome ≡ false)
          → Reached (w ++ (run_entry e ∷ map run_entry es)) last
      go rest (inl m) =
          rw append_assoc at (rest (w ++ (run_entry e ∷ [])) (set table e.leaf e.outcome) last (reached_more w table e x m) (rw m at h))
      go rest (inr m) = absurd (err_ok (rw m at h))

  -- one entry more
  pub replay_more : (es : List Entry) (table after : List ℕ) (e : Entry) → replay types b table es ≡ Ok after
      → may_come types b after e.leaf e.outcome ≡ true
      → replay types b table (es ++ (e ∷ [])) ≡ Ok (set after e.leaf e.outcome)
  unfolding replay
  replay_more [] table after e h m =
      let same : table ≡ after = cc in
      rw (same, m)
  replay_more (d ∷ es) table after e h m = go (replay_more es) (decide (may_come types b table d.leaf d.outcome))
    where
      go : ((table after : List ℕ) (e : Entry) → replay types b table es ≡ Ok after → may_come types b after e.leaf e.outcome ≡ true
          → replay types b table (es ++ (e ∷ [])) ≡ Ok (set after e.leaf e.outcome))
          → (may_come types b table d.leaf d.outcome ≡ true) ⊎ (may_come types b table d.leaf d.outcome ≡ false)
          → cond (may_come types b table d.leaf d.outcome) (replay types b (set table d.leaf d.outcome) (es ++ (e ∷ []))) (Err table) ≡ Ok (set after e.leaf e.outcome)
      go rest (inl q) = rw q (rest (set table d.leaf d.outcome) after e (rw q at h) m)
      go rest (inr q) = absurd (err_ok (rw q at h))
