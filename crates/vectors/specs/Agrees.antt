-- Which vectors agree: those of which what is expected is what the product gives, and no others. The proof is `agrees_alone`.
use Rattle.std.specs.Prelude.{◌≡◌, List, ◌↔◌, ℕ, ◌+◌, ◌≤◌, ◌<◌, length, get_or, drop, replicate}
use Rattle.std.proofs.Math.Option
use Rattle.plan.specs.Reading.{read_of}
use Rattle.plan.specs.Reading as reader
use Rattle.judge.specs.Verdict as judge
use Rattle.judge.specs.Verdict.{work_size}
use Rattle.class.specs.Outcome as class
use Rattle.class.specs.Computed as computed
use Rattle.fields.specs.Number.{four_at}
use Rattle.formula.specs.Answer.{room, answer_of}
use Rattle.vectors.specs.Files.{files_outcome}
use Rattle.vectors.specs.Verdicts.{verdict_with, record_with, verdicts_outcome}
use Rattle.vectors.specs.Formulas.{code_of, formulas_outcome}
use Rattle.vectors.specs.Classes.{most_lent, area_lent, call_in, classes_outcome}
use Rattle.vectors.specs.declared.outcome.Outcome.TheVariants.{Agrees}

-- A body of the group `files`: the number of its file, 0 for none, and the file.
pub record FileAgreed (body : List ℕ) : Type 0 where
  pub some : 1 ≤ length body
  pub number : get_or body 0 0 ≡ Option.get_or (reader.number_of (read_of (drop 1 body))) 0

-- A body with four bytes of a number, n bytes from `at` on, and what they are expected of from byte 131 on.
pub record Agreed (found n : ℕ) (shown : List ℕ) (at : ℕ) (body : List ℕ) : Type 0 where
  pub whole : 131 ≤ length body
  pub number : four_at body 0 ≡ found
  pub bytes : (i : ℕ) → i < n → get_or shown i 0 ≡ get_or body (at + i) 0

-- A body of the group `classes`, which says itself how many bytes the answer area has, at most those of seventeen places: the code of the answer, and each byte of that area.
pub record ClassAgreed (body : List ℕ) : Type 0 where
  pub short : area_lent body ≤ most_lent
  pub whole : 7 + area_lent body ≤ length body
  pub number : four_at body 0 ≡ class.code_of (computed.answer_of (call_in body (area_lent body) work_size))
  pub bytes : (i : ℕ) → i < area_lent body → get_or (computed.area_of (call_in body (area_lent body) work_size) (replicate (area_lent body) 170)) i 0 ≡ get_or body (7 + i) 0

pub record AgreesAlone : Type 0 where
  pub files : (body : List ℕ) → (files_outcome body ≡ Agrees) ↔ FileAgreed body
  -- the code of the verdict, and the 126 bytes of the record area
  pub verdicts : (body : List ℕ) → (verdicts_outcome body ≡ Agrees)
      ↔ Agreed (judge.code_of (verdict_with (get_or body 4 0) (drop 131 body))) 126 (record_with (get_or body 4 0) (drop 131 body)) 5 body
  -- the number of the answer to a text, and the bytes of its array
  pub formulas : (body : List ℕ) → (formulas_outcome body ≡ Agrees) ↔ Agreed (code_of (answer_of (drop 131 body)).answer) room (answer_of (drop 131 body)).bytes 4 body
  -- the code of the answer to a call, and the bytes of the answer area, which was lent full of 170
  pub classes : (body : List ℕ) → (classes_outcome body ≡ Agrees) ↔ ClassAgreed body
