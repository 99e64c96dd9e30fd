-- What a verdict leaves in the lent areas, by the contract of `verdict`: each answer fixes them.
use mathlib.Core.Path.{◌≡◌, sym, ap, ◌∙◌}
use mathlib.Core.Bool.{not, true≢false}
use mathlib.Core.List.{List}
use Prim.Native.Nat.{ℕ, ◌≤◌}
use Rattle.std.specs.Prelude.{Ok, Err, is_ok}
use lib.ListN.{length, take, drop, replicate, length-replicate}
use lib.Seq.{take_at, drop_at}
use Rattle.plan.specs.Reading.{read_of}
use Rattle.plan.specs.declared.Layout.{Layout}
use Rattle.judge.specs.Verdict.{Answer, smallest, answer_of, keeps_rule, plan_sets_of, work_size, record_size, verdict_on}
use Rattle.judge.specs.Judged.{Judged, with_record}
use Rattle.judge.specs.declared.Judgement.{Judgement}
use Rattle.judge.specs.declared.Judgement.TheVariants.{Consistent, Violated}
use Rattle.judge.specs.declared.Refusal.{Refusal}
use Rattle.judge.proofs.Demand3.{found_answer}
use Rattle.promises.specs.Verdict.{AfterVerdict}

-- the record area is the run's bytes and then what was there
front : (bytes old new : List ℕ) → length bytes ≡ record_size → new ≡ with_record bytes old → take record_size new ≡ bytes
front bytes old new long e = ap (take record_size) e ∙ take_at bytes (drop record_size old) record_size long

rest : (bytes old new : List ℕ) → length bytes ≡ record_size → new ≡ with_record bytes old → drop record_size new ≡ drop record_size old
rest bytes old new long e = ap (drop record_size) e ∙ drop_at bytes (drop record_size old) record_size long

-- an answer that judges is no refusal
no_refusal : (r : Refusal) (x : Judgement) → ◌≡◌ {A = Answer} (Err r) (Ok x) → ⊥
no_refusal r x e = true≢false (sym (ap is_ok e))

by_answer : (s work work' old new : List ℕ) (v : Answer) (x : Judgement) → Judged s work work' old new v → v ≡ Ok x → AfterVerdict work work' old new v
by_answer s work work' old new (Ok Consistent) x j e =
    let zeros : List ℕ = replicate record_size 0 in
    let long : length zeros ≡ record_size = length-replicate {A = ℕ} record_size 0 in
    record {
      cleared = j.area_after;
      run = λ e. absurd (true≢false e);
      zeros = λ e. front zeros old new long j.record_after;
      later = rest zeros old new long j.record_after;
    }
by_answer s work work' old new (Ok (Violated t)) x j e =
    let r = j.record_after in
    let f = front r.bytes old new r.shows.long r.is in
    record {
      cleared = j.area_after;
      run = λ e. rw f r.shows.padded;
      zeros = λ e. absurd (true≢false (sym e));
      later = rest r.bytes old new r.shows.long r.is;
    }
by_answer s work work' old new (Err r) x j e = absurd (no_refusal r x e)

pub leaves : (s work work' old new : List ℕ) (v : Answer) → Judged s work work' old new v → work_size ≤ length work → record_size ≤ length old
    → (l : Layout) → read_of s ≡ Ok l → AfterVerdict work work' old new v
leaves s work work' old new v j enough room l h =
    let found = smallest (λ t. not (keeps_rule s l t)) (plan_sets_of s l) in
    by_answer s work work' old new v (answer_of found) j (j.answer ∙ found_answer s (length work) (length old) enough room ∙ ap (verdict_on s) h)
