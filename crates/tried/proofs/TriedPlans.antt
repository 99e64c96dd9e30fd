-- The tried plans hold, row by row: one test, computed over a table, compares each file's reading, sets and verdict with its row, and the theorem on the plan's sets carries
-- that to complete runs. The lines of a violation are those of the one run that leaves the set.
use mathlib.Core.Path.{◌≡◌, refl, sym, ap, subst, ◌∙◌}
use mathlib.Core.Bool.{Bool, true, false, ◌&&◌}
use mathlib.Core.List.{List, [], ◌∷◌, flat_map, Memᴰ}
use Prim.Native.Nat.{ℕ, ◌≤◌}
use native.Mathlib.Omega.{arith}
use Rattle.std.specs.Prelude.{Result, Ok, Err}
use lib.Dec.{T, eqb, eqb→eq}
use lib.ListN.{length, take, replicate, length-replicate}
use lib.Seq.{take_all}
use Rattle.text.specs.Text.{text_of}
use Rattle.text.specs.Decimal.{digits}
use Rattle.text.specs.declared.Text.{Text}
use Rattle.process.specs.Process.{ok, fail, entry}
use Rattle.outcomes.specs.Cells.{among}
use Rattle.outcomes.specs.LevelCells.{cell_at}
use Rattle.outcomes.specs.Families.{outcomes_by, sets_under}
use Rattle.outcomes.specs.ThreeLevels.{cell3}
use Rattle.outcomes.proofs.Members.{among_member}
use Rattle.outcomes.proofs.Table.{both_hold}
use Rattle.blocks.specs.Bounded.{every, total}
use Rattle.nodes.specs.Fold.{fold_from}
use Rattle.bodies.specs.Rule.{rule_from}
use Rattle.plan.specs.Reading.{read_of}
use Rattle.plan.specs.declared.Fault.{Fault}
use Rattle.plan.specs.declared.Layout.{Layout}
use Rattle.meaning.specs.Value.{values, satisfies}
use Rattle.judge.specs.Verdict.{Answer, smallest, plan_sets_of, work_size, record_size, verdict_of}
use Rattle.judge.specs.Shown.{shown_entries}
use Rattle.judge.specs.Judged.{Judged}
use Rattle.judge.specs.declared.Judgement.{Judgement}
use Rattle.judge.specs.declared.Judgement.TheVariants.{Consistent, Violated}
use Rattle.judge.proofs.PlanRuns.{left_by, run_set_listed}
use Rattle.judge.proofs.Demand3.{found_answer}
use Rattle.report.specs.Lines.{entry_lines, verdict_lines}
use Rattle.report.specs.Tells.{Tells}
use Rattle.tried.specs.TriedPlans.{TriedPlan, Holds, p1, p2, p3, p4, p5, p6, p7, p8, tried_plans, TriedPlans}
use Rattle.tried.specs.NestedPlans.{q1, q2, q3, q4, q5, nested_plans, NestedPlans}
use Rattle.tried.proofs.CompleteRuns.{process2, runs2, complete2, process7, runs7, complete7, process8, runs8, complete8}
use Rattle.tried.proofs.ShownLines.{only_run, Told, told_consistent, told_violated, record_length}

abbrev each : {A : Type 0} → (A → Bool) → List A → Bool
each p [] = true
each p (x ∷ xs) = p x && each p xs

each_at : {A : Type 0} (p : A → Bool) {x : A} {xs : List A} → T (each p xs) → Memᴰ x xs → T (p x)
each_at {A = A} p {xs = []} t m = elim m [ ]
each_at p {xs = y ∷ ys} t (Memᴰ.head e) = rw e (both_hold (p y) (each p ys) t).0
each_at p {xs = y ∷ ys} t (Memᴰ.tail m) = each_at p (both_hold (p y) (each p ys) t).1 m

-- a proof for each element of a list
infixr 5 ◌then◌
data All {A : Type 0} (P : A → Type 0) : List A → Type 0 where
  no_more : All P []
  ◌then◌ : {x : A} {xs : List A} → P x → All P xs → All P (x ∷ xs)

all_at : {A : Type 0} {P : A → Type 0} {x : A} {xs : List A} → All P xs → Memᴰ x xs → P x
all_at {A = A} {P = P} no_more m = elim m [ ]
all_at {P = P} (t then ts) (Memᴰ.head e) = subst P (sym e) t
all_at (t then ts) (Memᴰ.tail m) = all_at ts m

abbrev same_judgement : Judgement → Judgement → Bool
same_judgement Consistent Consistent = true
same_judgement Consistent (Violated u) = false
same_judgement (Violated t) Consistent = false
same_judgement (Violated t) (Violated u) = eqb t u

same_judgement_lem : (v w : Judgement) → T (same_judgement v w) → v ≡ w
same_judgement_lem Consistent Consistent t = refl
same_judgement_lem Consistent (Violated u) t = absurd t
same_judgement_lem (Violated s) Consistent t = absurd t
same_judgement_lem (Violated s) (Violated u) t = ap Violated (eqb→eq s u t)

-- no row's verdict is a refusal
abbrev same_verdict : Answer → Answer → Bool
same_verdict (Ok v) (Ok w) = same_judgement v w
same_verdict (Ok v) (Err s) = false
same_verdict (Err r) w = false

same_verdict_lem : (v w : Answer) → T (same_verdict v w) → v ≡ w
same_verdict_lem (Ok v) (Ok w) t = rw (same_judgement_lem v w t)
same_verdict_lem (Ok v) (Err s) t = absurd t
same_verdict_lem (Err r) w t = absurd t

-- the sets of the file and of the row are the same
abbrev same_sets : TriedPlan → Result Layout Fault → Bool
same_sets p (Ok l) = each (λ X. among X p.sets) (plan_sets_of p.file l) && each (λ X. among X (plan_sets_of p.file l)) p.sets
same_sets p (Err f) = false

abbrev agrees : TriedPlan → Bool
agrees p = same_sets p (read_of p.file) && same_verdict (verdict_of p.file work_size record_size) p.verdict

tested : T (each agrees tried_plans)
unfolding every total fold_from rule_from outcomes_by sets_under flat_map cell3 cell_at values satisfies smallest
tested = tt

nested_tested : T (each agrees nested_plans)
unfolding every total fold_from rule_from outcomes_by sets_under flat_map cell3 cell_at values satisfies smallest
nested_tested = tt

-- the rows' lines
told : All Told tried_plans
unfolding every total fold_from rule_from shown_entries entry_lines digits
told =
    told_consistent p1 refl refl
    then told_violated p2 2 (entry 0 fail ∷ entry 1 ok ∷ entry 3 ok ∷ []) refl (only_run p2.file process2 runs2 (λ r s c. complete2 c) 2 _ refl refl) refl
    then told_consistent p3 refl refl
    then told_consistent p4 refl refl
    then told_consistent p5 refl refl
    then told_consistent p6 refl refl
    then told_violated p7 2 (entry 0 ok ∷ []) refl (only_run p7.file process7 runs7 (λ r s c. complete7 c) 2 _ refl refl) refl
    then told_violated p8 0 (entry 0 fail ∷ []) refl (only_run p8.file process8 runs8 (λ r s c. complete8 c) 0 _ refl refl) refl
    then no_more

nested_told : All Told nested_plans
nested_told = told_consistent q1 refl refl then told_consistent q2 refl refl then told_consistent q3 refl refl then told_consistent q4 refl refl then told_consistent q5 refl refl then no_more

-- the verdict in areas that are large enough is the row's
lines_told : (p : TriedPlan) → Told p → verdict_of p.file work_size record_size ≡ p.verdict → (work work' old new : List ℕ) (v : Answer)
    → Judged p.file work work' old new v → work_size ≤ length work → record_size ≤ length old → verdict_lines v (take record_size new) ≡ p.lines
lines_told p t e work work' old new v j large wide =
    let as_small = found_answer p.file (length work) (length old) large wide ∙ sym (found_answer p.file work_size record_size (omega arith) (omega arith)) in
    t v old new (j.answer ∙ as_small ∙ e) j.record_after

-- and so it is in the areas of the verdict program
text_told : (p : TriedPlan) → Told p → verdict_of p.file work_size record_size ≡ p.verdict → (t : Text) → Tells p.file t → t ≡ text_of p.lines
text_told p t e text x =
    let j = x.finds.judged in
    let v = x.finding.judgement in
    let run = x.finding.run in
    let work = length-replicate {A = ℕ} work_size 0 in
    let records = length-replicate {A = ℕ} record_size 0 in
    let long = record_length p.file v (replicate record_size 0) run (omega arith) j.record_after in
    let lines = lines_told p t e (replicate work_size 0) x.finds.work (replicate record_size 0) run v j (omega arith) (omega arith) in
    x.is ∙ ap (λ (r : List ℕ). text_of (verdict_lines v r)) (sym (take_all record_size run (omega arith))) ∙ ap text_of lines

row_holds : (p : TriedPlan) (r : Result Layout Fault) → read_of p.file ≡ r → T (same_sets p r) → verdict_of p.file work_size record_size ≡ p.verdict → Told p → Holds p
row_holds p (Err f) e t v told = absurd t
row_holds p (Ok l) e t v told =
    let (only, all) = both_hold (each (λ X. among X p.sets) (plan_sets_of p.file l)) _ t in
    record {
      layout = l;
      accepted = e;
      sets = λ X. (
        λ i. left_by p.file l e X (among_member X (plan_sets_of p.file l) (each_at (λ X. among X (plan_sets_of p.file l)) all i)),
        λ (status, run, c, z). among_member X p.sets (each_at (λ X. among X p.sets) only (rw z at (run_set_listed p.file l e run status c))),
      );
      verdict = v;
      lines = lines_told p told v;
      text = text_told p told v;
    }

rows_hold : (ps : List TriedPlan) → T (each agrees ps) → All Told ps → (p : TriedPlan) → Memᴰ p ps → Holds p
rows_hold ps t told p m =
    let (sets, v) = both_hold (same_sets p (read_of p.file)) _ (each_at agrees t m) in
    row_holds p (read_of p.file) refl sets (same_verdict_lem _ _ v) (all_at told m)

-- the first row of a table, and the rows after it
here : (p : TriedPlan) (ps : List TriedPlan) → ((q : TriedPlan) → Memᴰ q (p ∷ ps) → Holds q) → Holds p
here p ps h = h p (Memᴰ.head refl)

after : (p : TriedPlan) (ps : List TriedPlan) → ((q : TriedPlan) → Memᴰ q (p ∷ ps) → Holds q) → (q : TriedPlan) → Memᴰ q ps → Holds q
after p ps h q m = h q (Memᴰ.tail m)

pub tried_plans_lem : TriedPlans
tried_plans_lem =
    let r1 = rows_hold tried_plans tested told in
    let r2 = after _ _ r1 in
    let r3 = after _ _ r2 in
    let r4 = after _ _ r3 in
    let r5 = after _ _ r4 in
    let r6 = after _ _ r5 in
    let r7 = after _ _ r6 in
    let r8 = after _ _ r7 in
    record { rows = r1; starred = refl; eight = (here _ _ r1, here _ _ r2, here _ _ r3, here _ _ r4, here _ _ r5, here _ _ r6, here _ _ r7, here _ _ r8) }

pub nested_plans_lem : NestedPlans
nested_plans_lem =
    let r1 = rows_hold nested_plans nested_tested nested_told in
    let r2 = after _ _ r1 in
    let r3 = after _ _ r2 in
    let r4 = after _ _ r3 in
    let r5 = after _ _ r4 in
    record { rows = r1; nested = refl; five = (here _ _ r1, here _ _ r2, here _ _ r3, here _ _ r4, here _ _ r5) }
