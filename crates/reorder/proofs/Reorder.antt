-- The theorem of specs/Reorder, by recursion on the run that holds the beginning: its derivation holds those of its undos.
use mathlib.Core.Path.{refl}
use Rattle.process.specs.Process.{Status, Process, Run}
use Rattle.process.specs.Figure2.{Forward, f_done, f_leaf, f_sequence, f_sequence_fails, f_parallel, f_choice_left, f_choice_right, f_compensation, f_compensation_fails, f_handler, f_handler_fails, Complete, c_ok, c_fail}
use Rattle.reorder.specs.Reorder.{Reorders}
use Rattle.reorder.proofs.Leaves.{regroup, Good, good, undo_good}
use Rattle.reorder.proofs.Meets.{Firm, FirmWhole}
use Rattle.reorder.proofs.Forms.{done_firm, leaf_firm, sequence_firm, sequence_fails_firm, parallel_firm, choice_left_firm, choice_right_firm, compensation_firm, compensation_fails_firm, handler_firm, handler_fails_firm, ok_firm, fail_firm}

mutual
  firm : {P U : Process} {p : Run} {s : Status} → Good P → Forward P p s U → Firm P p s U
  firm g f_done = done_firm
  firm g (f_leaf a) = leaf_firm a
  firm g (f_sequence a b i) = sequence_firm g.2 (firm g.0 a) (firm g.1 b) i
  firm g (f_sequence_fails a) = sequence_fails_firm g.2 (firm g.0 a)
  firm g (f_parallel a b i e) = parallel_firm g.2 (firm g.0 a) (firm g.1 b) i e
  firm g (f_choice_left a) = choice_left_firm g.2 (g.3 refl).1 (firm g.0 a)
  firm g (f_choice_right b) = choice_right_firm g.2 (g.3 refl).0 (firm g.1 b)
  firm g (f_compensation a) = compensation_firm g.2 (firm g.0 a)
  firm g (f_compensation_fails a) = compensation_fails_firm g.2 (firm g.0 a)
  firm g (f_handler a) = handler_firm g.2 (firm g.0 a)
  firm g (f_handler_fails {p = p} {p' = p'} {q = q} a c b i) = handler_fails_firm g.2 (fail_firm g.0 (firm g.0 a) (firm_whole (undo_good g.0 a) c) refl) (firm g.1 b) (regroup p p' q i)

  pub firm_whole : {P : Process} {p : Run} {s : Status} → Good P → Complete P p s → FirmWhole P p s
  firm_whole g (c_ok a) = ok_firm (firm g a)
  firm_whole g (c_fail a c i) = fail_firm g (firm g a) (firm_whole (undo_good g a) c) i

pub reorders : Reorders
reorders P w d v r s (z, t, c) a h = let m = (firm_whole (good P w d) a).meets v z c refl h in (m.rest, m.runs, m.same)
