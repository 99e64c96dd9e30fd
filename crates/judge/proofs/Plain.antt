-- The plainest run in record bytes: it is shown by the bytes that are computed, wherever some complete run leaves the set, and by no others.
use mathlib.Core.Path.{◌≡◌, refl, sym, ap, ◌∙◌}
use mathlib.Core.List.Memᴰ
use mathlib.Core.List.{List, [], ◌∷◌}
use Prim.Native.Nat.{ℕ, ◌^◌, ◌<◌}
use native.Mathlib.Omega.{arith}
use lib.Bits.{or_lt}
use lib.ListN.{length}
use Rattle.process.specs.Process.{ok, fail, entry, Run}
use Rattle.outcomes.specs.Sets.{set_of}
use Rattle.outcomes.proofs.VerdictSets.{verdict_sets}
use Rattle.nodes.specs.Nodes.{count}
use Rattle.plan.specs.PlanFile.{most_actions, Runnable}
use Rattle.plan.specs.Tree.{process_of}
use Rattle.plan.specs.Reading.{bytes_of, read_of}
use Rattle.plan.specs.declared.Layout.{Layout}
use Rattle.plan.specs.declared.Fault.{Fault}
use Rattle.std.specs.Prelude.{Result, Ok, Err}
use Rattle.plan.proofs.Demand1.{runnable}
use Rattle.plan.proofs.Tree.{drawn}
use Rattle.summary.specs.declared.Summary.{Summary}
use Rattle.summary.specs.Exact.{Exact}
use Rattle.sets.specs.PlanSets.{leaf_set, action_sets}
use Rattle.sets.proofs.Nodes.{set_small}
use Rattle.reorder.specs.Entries.{Occurs}
use Rattle.reorder.proofs.Leaves.{complete_leaf}
use Rattle.least.specs.Least.{FinalSet}
use Rattle.plainest.specs.Bytes.{record_bytes}
use Rattle.plainest.specs.Shown.{LeftBy, plainest_run, plainest_bytes}
use Rattle.plainest.proofs.Order.{record_length}
use Rattle.plainest.proofs.Only.{only_plainest}
use Rattle.plainest.proofs.Shown.{plainest_shown}
use Rattle.judge.specs.Shown.{shown_run, ShowsRun, OnlyShown}
use Rattle.judge.specs.Judged.{with_record, work_after, Recorded, RecordAfter, OneAnswer}
use Rattle.judge.specs.Record.{shown_on, record_for, RecordIs}
use Rattle.judge.specs.Verdict.{Answer}
use Rattle.judge.specs.declared.Judgement.TheVariants.{Consistent, Violated}
use Rattle.judge.proofs.Decoded.{shown_back}

module _ (types b : List ℕ) (plan : Runnable types b) where
  -- a set that a complete run leaves has the plan's actions only
  run_small : (r : Run) → ((n : ℕ) → Occurs (entry n ok) r → n < count b) → set_of (action_sets b) r < 2 ^ most_actions
  run_small [] h = omega arith
  run_small (entry n ok ∷ r) h = or_lt most_actions (leaf_set b n) _ (set_small types b plan n (h n (Memᴰ.head refl))) (run_small r (λ m o. h m (Memᴰ.tail o)))
  run_small (entry n fail ∷ r) h = or_lt most_actions 0 _ (omega arith) (run_small r (λ m o. h m (Memᴰ.tail o)))

  pub left_small : (set : ℕ) → LeftBy types b set → set < 2 ^ most_actions
  left_small set x = rw (← x.leaves) (run_small x.run (λ n o. (((drawn types b plan).leaves n).0 (complete_leaf x.complete o)).0))

  -- a set of the whole process is left by some run
  pub left_final : (root : Summary) → Exact (leaf_set b) root (process_of types b) → (set : ℕ) → FinalSet root set → LeftBy types b set
  left_final root exact set f =
      let (run, c, e) = ((verdict_sets.action_sets_lem (leaf_set b)).three_levels_lem (process_of types b) f.status set (drawn types b plan).shallow).0 (f.code, f.final, (exact f.code set).0 f.has) in
      record { run = run; status = f.status; complete = c; leaves = e }

-- the bytes that are computed show the run
pub shows_plainest : (s : List ℕ) (l : Layout) → read_of s ≡ Ok l → (set : ℕ) → LeftBy (bytes_of s l.types) (bytes_of s l.nodes) set → ShowsRun s l set (plainest_bytes (bytes_of s l.types) (bytes_of s l.nodes) set)
unfolding plainest_bytes
shows_plainest s l h set x =
    let types = bytes_of s l.types in
    let b = bytes_of s l.nodes in
    let plan = runnable s l h in
    let p = plainest_shown types b plan set (left_small types b plan set x) x in
    let back = shown_back (plainest_run types b set) in
    record { plainest = rw back p.plainest; long = record_length (plainest_run types b set) p.short; padded = ap record_bytes (sym back) }

-- and no others do
pub only_shown : OnlyShown
only_shown s l set bytes bytes' x y =
    let long : length (record_bytes (shown_run bytes)) ≡ length (record_bytes (shown_run bytes')) = ap length (sym x.padded) ∙ x.long ∙ sym y.long ∙ ap length y.padded in
    x.padded ∙ only_plainest _ _ set (shown_run bytes) (shown_run bytes') x.plainest y.plainest long ∙ sym y.padded

-- the set beside a run that is shown is left by it, and so has the plan's actions only
left : (s old new : List ℕ) (set : ℕ) (r : Recorded s set old new) → LeftBy (bytes_of s r.layout.types) (bytes_of s r.layout.nodes) set
left s old new set r =
    let p = r.shows.plainest in
    record { run = shown_run r.bytes; status = p.status; complete = p.complete; leaves = p.leaves }

pub given_small : (s old new : List ℕ) (set : ℕ) → Recorded s set old new → set < 2 ^ most_actions
given_small s old new set r = left_small _ _ (runnable s r.layout r.accepted) set (left s old new set r)

-- so the record area is the one that is computed
pub record_is : RecordIs
record_is s work work' old new v j = go v j.record_after
  where
    shown : (set : ℕ) (r : Recorded s set old new) → r.bytes ≡ shown_on s (read_of s) set
    shown set r = only_shown s r.layout set r.bytes _ r.shows (shows_plainest s r.layout r.accepted set (left s old new set r)) ∙ ap (λ (x : Result Layout Fault). shown_on s x set) (sym r.accepted)

    go : (v : Answer) → RecordAfter s v old new → new ≡ record_for s v old
    go (Ok Consistent) e = e
    go (Ok (Violated set)) r = r.is ∙ ap (λ (bytes : List ℕ). with_record bytes old) (shown set r)
    go (Err f) e = e

pub one_answer : OneAnswer
one_answer s work work' work'' old new new' v v' j k =
    let e : v ≡ v' = j.answer ∙ sym k.answer in
    record {
      answers = e;
      works = j.area_after ∙ ap (λ (x : Answer). work_after x work) e ∙ sym k.area_after;
      records = record_is s work work' old new v j ∙ ap (λ (x : Answer). record_for s x old) e ∙ sym (record_is s work work'' old new' v' k);
    }
