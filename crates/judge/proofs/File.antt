-- What judging a plan's bodies makes of its file and of the lent areas, once the work area is cleared and the run's bytes are in the record
-- area.
use mathlib.Core.Path.{◌≡◌, refl, sym, ap, ◌∙◌}
use mathlib.Core.List.{List, ◌++◌}
use Prim.Native.Nat.{ℕ, ◌≤◌}
use lib.ListN.{length, drop, replicate}
use Rattle.std.specs.Prelude.{Ok}
use Rattle.plan.specs.Reading.{bytes_of, read_of}
use Rattle.plan.specs.declared.Layout.{Layout}
use Rattle.judge.specs.Verdict.{work_size, record_size, verdict_on}
use Rattle.judge.specs.Judged.{with_record, RecordAfter, Judged}
use Rattle.judge.specs.Inner.{JudgedPlan}
use Rattle.judge.specs.declared.Judgement.{Judgement}
use Rattle.judge.specs.declared.Judgement.TheVariants.{Consistent, Violated}
use Rattle.judge.proofs.Demand3.{found_answer}
use Rattle.judge.proofs.Plain.{shows_plainest}

module _ (s : List ℕ) (l : Layout) (h : read_of s ≡ Ok l) where
  abbrev types : List ℕ
  types = bytes_of s l.types

  abbrev nodes : List ℕ
  nodes = bytes_of s l.nodes

  module _ (work mid old run zeros : List ℕ) (enough : work_size ≤ length work) (room : record_size ≤ length old) (cleared : zeros ≡ replicate work_size 0) where
    abbrev Put : Judgement → Type 0
    Put v = Judged s work (zeros ++ drop work_size mid) old (with_record run old) (Ok v)

    abbrev OfBodies : Judgement → Type 0
    OfBodies v = JudgedPlan types (bytes_of s l.pairs) nodes (bytes_of s l.rule) work mid v run

    put : (v : Judgement) → OfBodies v → RecordAfter s (Ok v) old (with_record run old) → Put v
    put v j r = record {
      answer = ap Ok j.answer ∙ sym (found_answer s (length work) (length old) enough room ∙ ap (verdict_on s) h);
      area_after = rw (cleared, j.kept);
      record_after = r;
    }

    pub judged_file : (v : Judgement) → OfBodies v → Put v
    judged_file Consistent j = put Consistent j (ap (λ (bytes : List ℕ). with_record bytes old) j.beside)
    judged_file (Violated set) j = put (Violated set) j (record { layout = l; accepted = h; bytes = run; shows = rw j.beside.shown (shows_plainest s l h set j.beside.left); is = refl })
