-- What is promised of a rule's value, put together.
use mathlib.Core.Path.{ap}
use mathlib.Core.List.{List}
use Rattle.meaning.specs.declared.Value.{Value}
use Rattle.meaning.specs.Value.{top, satisfies}
use Rattle.meaning.specs.Laws.{RuleLaws}
use Rattle.meaning.proofs.Literal.{counted, without_undo, with_undo_lem, done, not_done, undone, undone_twice, undo_alone}
use Rattle.meaning.proofs.Meaning.{one_part, opposite}

pub laws : RuleLaws
unfolding satisfies
laws pairs set = record {
  counted = counted pairs set;
  without_undo = without_undo pairs set;
  with_undo_lem = with_undo_lem pairs set;
  done = done pairs set;
  not_done = not_done pairs set;
  undone = undone pairs set;
  undone_twice = undone_twice pairs set;
  undo_alone = undo_alone pairs set;
  one_part = λ r few short. one_part pairs set r few short;
  satisfied = λ r few short. ap (λ (s : List Value). (top s).positive) (one_part pairs set r few short);
  without_pairs = λ r none. opposite pairs set r none;
}
