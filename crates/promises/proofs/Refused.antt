-- Demand 1, from the reader's, the runner's and the verdict's own statements: an answer has no number or that of a refusal, which is one of 1 to 9 for a file.
use mathlib.Core.Path.{◌≡◌, refl, sym, ap, subst, ◌∙◌}
use mathlib.Core.Bool.{true, false, not}
use mathlib.Core.List.{List}
use mathlib.Core.Logic.{◌⊎◌, inl, inr}
use mathlib.Core.Option.{some, some-injective, none-ne-some, some-ne-none}
use Prim.Native.Nat.{ℕ, ◌≤◌, ◌<◌}
use native.Mathlib.Omega.{arith}
use Rattle.std.specs.Prelude.{Result, Ok, Err}
use lib.Dec.{ltb}
use lib.ListN.{length}
use borrow.Author.Tests.{ltb-true, ltb-false}
use Rattle.blocks.proofs.Bounded.{decide}
use Rattle.plan.specs.PlanFile.{most_actions, most_pairs, Bytes, PlanFile}
use Rattle.plan.specs.Refusals.{BlockFault, Unless, NodesFault, Broken}
use Rattle.plan.specs.Reading as reader
use Rattle.plan.specs.declared.Layout.{Layout}
use Rattle.plan.specs.Fault.{number}
use Rattle.plan.specs.declared.Fault.{Fault}
use Rattle.plan.proofs.Demand1.{demand1}
use Rattle.state.specs.declared.Entry.{Entry}
use Rattle.job.specs.Job.{refusal, no_job, start_on, start_of, take_of}
use Rattle.job.specs.Numbers as runner
use Rattle.job.specs.Offer.{record_of, Real, Sized}
use Rattle.job.specs.Demand2.{plan_process, Continues, Takes}
use Rattle.job.specs.declared.Job.{Job}
use Rattle.job.specs.declared.Taken.{Taken}
use Rattle.job.specs.declared.Told.{Told}
use Rattle.job.specs.declared.Refusal.TheVariants as why
use Rattle.job.proofs.Demand2.{demand2}
use Rattle.job.proofs.Real.{refused_or_permitted}
use Rattle.judge.specs.Verdict.{Answer, work_size, record_size}
use Rattle.judge.specs.Verdict as verdict
use Rattle.judge.specs.Judged.{Judged}
use Rattle.judge.specs.declared.Judgement.{Judgement}
use Rattle.judge.specs.declared.Judgement.TheVariants.{Consistent, Violated}
use Rattle.judge.proofs.Demand3.{found_answer, demand3}
use Rattle.promises.specs.Refused.{Files, Permitted, Entries, Judges, consistent, violated, Areas, Demand1}

-- a refusal's number is one of 1 to 9
abbrev Number : ℕ → Type 0
Number n = (1 ≤ n) × (n ≤ 9)

unless_number : (A : Type 0) (k n : ℕ) → Number k → Unless A k n → Number n
unless_number A k _ h (Unless.broken f) = h

nodes_number : (actions : ℕ) (nodes : List ℕ) (n : ℕ) → NodesFault actions nodes n → Number n
nodes_number actions nodes _ (NodesFault.six f) = (omega arith, omega arith)
nodes_number actions nodes _ (NodesFault.seven f g) = (omega arith, omega arith)
nodes_number actions nodes _ (NodesFault.eight f g h) = (omega arith, omega arith)

block_number : (kind : ℕ) (Size : ℕ → Type 0) (Fault : List ℕ → ℕ → Type 0) (rest : List ℕ) (n : ℕ) → ((body : List ℕ) (m : ℕ) → Fault body m → Number m) → BlockFault kind Size Fault rest n → Number n
block_number kind Size Fault rest _ h (BlockFault.cut_heading e) = (omega arith, omega arith)
block_number kind Size Fault rest _ h (BlockFault.other_kind len other tail e f) = (omega arith, omega arith)
block_number kind Size Fault rest _ h (BlockFault.other_length len tail e f) = (omega arith, omega arith)
block_number kind Size Fault rest _ h (BlockFault.cut_body len tail e f g) = (omega arith, omega arith)
block_number kind Size Fault rest n h (BlockFault.contents body tail e f g) = h body n g

broken_number : (s : List ℕ) (n : ℕ) → Broken most_actions most_pairs s n → Number n
broken_number s n (Broken.in_types f) = block_number _ _ _ _ n (λ body m u. unless_number _ 4 m (omega arith, omega arith) u) f
broken_number s n (Broken.in_pairs types rest e t f) = block_number _ _ _ _ n (λ body m u. unless_number _ 5 m (omega arith, omega arith) u) f
broken_number s n (Broken.in_nodes types pairs rest e t p f) = block_number _ _ _ _ n (λ body m u. nodes_number (length types) body m u) f
broken_number s n (Broken.in_rule types pairs nodes rest e t p k f) = block_number _ _ _ _ n (λ body m u. unless_number _ 9 m (omega arith, omega arith) u) f
broken_number s _ (Broken.bytes_after types pairs nodes rule tail e b h) = (omega arith, omega arith)

-- what a reading's number says of the file
not_both : (s : List ℕ) (l : Layout) (n : ℕ) → reader.read_of s ≡ Ok l → reader.number_of (reader.read_of s) ≡ some n → ⊥
not_both s l n e f = none-ne-some n (ap reader.number_of (sym e) ∙ f)

files_by : (s : List ℕ) → Bytes s → (a : Result Layout Fault) → reader.read_of s ≡ a → Files s (reader.number_of a)
files_by s bytes (Ok l) e = record {
  broken = λ n. (λ z. absurd (none-ne-some n z), λ b. absurd (not_both s l n e ((demand1.refuses s bytes n).1 b)));
  in_order = (λ z. (demand1.accepts s bytes).0 (l, e), λ f. refl);
  from_one = λ n z. absurd (none-ne-some n z);
}
files_by s bytes (Err k) e =
    let numbered : reader.number_of (reader.read_of s) ≡ some (number k) = ap reader.number_of e in
    record {
      broken = λ n. (λ z. (demand1.refuses s bytes n).0 (numbered ∙ z), λ b. sym numbered ∙ (demand1.refuses s bytes n).1 b);
      in_order = (λ z. absurd (some-ne-none (number k) z), λ f. absurd (let (l, g) = (demand1.accepts s bytes).1 f in not_both s l (number k) g numbered));
      from_one = λ n z. (broken_number s n ((demand1.refuses s bytes n).0 (numbered ∙ z))).0;
    }

files : (s : List ℕ) → Bytes s → Files s (reader.number_of (reader.read_of s))
files s bytes = files_by s bytes (reader.read_of s) refl

-- a start has the file's number
start_number : (s : List ℕ) (a : Result Layout Fault) → runner.number_of (start_on s a).answer ≡ reader.number_of a
start_number s (Ok l) = refl
start_number s (Err f) = refl

start_refused : (s : List ℕ) (a : Result Layout Fault) (n : ℕ) → runner.number_of (start_on s a).answer ≡ some n → (start_on s a).job ≡ no_job
start_refused s (Ok l) n h = absurd (none-ne-some n h)
start_refused s (Err f) n h = refl

-- a plan file is accepted, and a start on what is accepted tells
accepting : (s : List ℕ) → Bytes s → PlanFile most_actions most_pairs s → (l : Layout) × (reader.read_of s ≡ Ok l)
accepting s bytes f = (demand1.accepts s bytes).1 f

start_tells : (s : List ℕ) (l : Layout) → reader.read_of s ≡ Ok l → (t : Told) × ((start_of s).answer ≡ Ok t)
start_tells s l h = (_, ap (λ (a : Result Layout Fault). (start_on s a).answer) h)

-- an entry
module _ (j : Job) (sized : Sized j) (e : Entry) where
  takes : Permitted j e → Takes e (record_of j) (take_of j e)
  takes p =
      let r = p.real in
      let P = plan_process r.file r.layout in
      let c = subst (λ (x : Job). Continues P (record_of x) e) r.is p.continues in
      subst (λ (x : Job). Takes e (record_of x) (take_of x e)) (sym r.is) ((demand2.honest r.file r.layout r.accepted r.entries).takes e c)

  refuses : (Permitted j e → ⊥) → take_of j e ≡ refusal why.Entry j
  refuses n = go (refused_or_permitted j sized e)
    where
      go : (take_of j e ≡ refusal why.Entry j) ⊎ ((r : Real j) × Continues (plan_process r.file r.layout) (record_of j) e) → take_of j e ≡ refusal why.Entry j
      go (inl q) = q
      go (inr (r, c)) = absurd (n (record { real = r; continues = c }))

  entries : Entries j e
  entries = record {
    refused = (λ h p. none-ne-some 11 (sym (takes p).number ∙ h), λ n. ap (λ (t : Taken). runner.number_of t.answer) (refuses n));
    unchanged = λ n. ap (λ (t : Taken). t.job) (refuses n);
    taken = takes;
  }

-- a verdict
on_number : (s : List ℕ) (a : Result Layout Fault) → verdict.number_of (verdict.verdict_on s a) ≡ reader.number_of a
on_number s (Ok l) = refl
on_number s (Err f) = refl

refusal_changes_nothing : (s work work' old new : List ℕ) (v : Answer) → Judged s work work' old new v → (n : ℕ) → verdict.number_of v ≡ some n → (work' ≡ work) × (new ≡ old)
refusal_changes_nothing s work work' old new (Ok x) j n h = absurd (none-ne-some n h)
refusal_changes_nothing s work work' old new (Err r) j n h = (j.area_after, j.record_after)

-- a judgement is an answer that judges
judges : (x : Judgement) → Judges (Ok x)
judges Consistent = consistent
judges (Violated t) = violated t

module _ (s work work' old new : List ℕ) (v : Answer) (bytes : Bytes s) (j : Judged s work work' old new v) where
  abbrev W : ℕ
  W = length work

  abbrev R : ℕ
  R = length old

  is : verdict.number_of v ≡ verdict.number_of (verdict.verdict_of s W R)
  is = ap verdict.number_of j.answer

  -- which of the three it is
  data Case : Type 0 where
    no_work : W < work_size → verdict.number_of v ≡ some 10 → Case
    no_record : work_size ≤ W → R < record_size → verdict.number_of v ≡ some 12 → Case
    judged : work_size ≤ W → record_size ≤ R → Files s (verdict.number_of v) → Case

  which : Case
  which = on_work (decide (ltb W work_size)) (decide (ltb R record_size))
    where
      on_work : (ltb W work_size ≡ true) ⊎ (ltb W work_size ≡ false) → (ltb R record_size ≡ true) ⊎ (ltb R record_size ≡ false) → Case
      on_work (inl h) r = no_work (ltb-true _ _ h) (is ∙ demand3.no_work s W R (ltb-true _ _ h))
      on_work (inr h) (inl k) = no_record (ltb-false _ _ h) (ltb-true _ _ k) (is ∙ demand3.no_record s W R (ltb-false _ _ h) (ltb-true _ _ k))
      on_work (inr h) (inr k) =
          let number = is ∙ ap verdict.number_of (found_answer s W R (ltb-false _ _ h) (ltb-false _ _ k)) ∙ on_number s (reader.read_of s) in
          judged (ltb-false _ _ h) (ltb-false _ _ k) (subst (Files s) (sym number) (files s bytes))

  -- a file's number is none of the areas'
  not_a_file's : (n : ℕ) → 10 ≤ n → Files s (verdict.number_of v) → verdict.number_of v ≡ some n → ⊥
  not_a_file's n h f e = omega (arith, (broken_number s n ((f.broken n).0 e)).1)

  is_judged : work_size ≤ W → record_size ≤ R → PlanFile most_actions most_pairs s → Judges v
  is_judged h k f =
      let (l, g) = accepting s bytes f in
      let found = verdict.smallest (λ t. not (verdict.keeps_rule s l t)) (verdict.plan_sets_of s l) in
      subst Judges (sym (j.answer ∙ found_answer s W R h k ∙ ap (verdict.verdict_on s) g)) (judges (verdict.answer_of found))

  areas_by : Case → Areas s work work' old new v
  areas_by (no_work h e) = record {
    short_work = (λ z. h, λ z. e);
    short_record = (λ z. absurd (omega (arith, some-injective 12 10 (sym z ∙ e))), λ (k, l). absurd (omega (arith, h, k)));
    file = λ k l. absurd (omega (arith, h, k));
    unchanged = refusal_changes_nothing s work work' old new v j;
    judged = is_judged;
  }
  areas_by (no_record h k e) = record {
    short_work = (λ z. absurd (omega (arith, some-injective 10 12 (sym z ∙ e))), λ z. absurd (omega (arith, h, z)));
    short_record = (λ z. (h, k), λ z. e);
    file = λ x l. absurd (omega (arith, k, l));
    unchanged = refusal_changes_nothing s work work' old new v j;
    judged = is_judged;
  }
  areas_by (judged h k f) = record {
    short_work = (λ z. absurd (not_a_file's 10 (omega arith) f z), λ z. absurd (omega (arith, h, z)));
    short_record = (λ z. absurd (not_a_file's 12 (omega arith) f z), λ (x, l). absurd (omega (arith, k, l)));
    file = λ x l. f;
    unchanged = refusal_changes_nothing s work work' old new v j;
    judged = is_judged;
  }

pub demand_1 : Demand1
demand_1 = record {
  reading = files;
  accepting = accepting;
  bodies = λ s bytes l h. (demand1.blocks s bytes l h, demand1.holds s l h);
  starting = λ s bytes. subst (Files s) (sym (start_number s (reader.read_of s))) (files s bytes);
  telling = λ s bytes f. let (l, h) = accepting s bytes f in start_tells s l h;
  no_start = λ s n h. start_refused s (reader.read_of s) n h;
  no_job_lem = demand2.no_job_lem;
  entering = entries;
  judging = λ s work work' old new v bytes j. areas_by s work work' old new v bytes j (which s work work' old new v bytes j);
}
