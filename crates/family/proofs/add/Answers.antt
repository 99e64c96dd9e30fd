-- `family::add` meets its contract: each word passed is the union of the two.
use mathlib.Core.Path.{◌≡◌, refl, ap, ◌∙◌}
use lib.Bits.{bit_or}
use lib.ListN.{length-set, get_or}
use lib.Seq.{get_or-set_other}
use Rattle.family.proofs.Words.{filled_more, joined_words}
use native.Mathlib.Omega.{arith}
use Rattle.family.proofs.add.Goals as goal

pub loop-i-init : goal.loop-i-init
loop-i-init c = record { long = omega arith; done = λ k l. absurd (omega arith); rest = λ k l. refl }

pub loop-i-preserved : goal.loop-i-preserved
loop-i-preserved c =
    let l = c.loop-i in
    let a = c.args in
    record {
      long = simp length-set l.invariant.long;
      done = filled_more (λ k v. v ≡ bit_or (get_or a.to.now k 0) (get_or a.f k 0)) l.to l.i _ (omega arith) (ap (λ w. bit_or w (get_or a.f l.i 0)) (l.invariant.rest l.i (omega arith))) l.invariant.done;
      rest = λ k h. get_or-set_other l.to l.i k _ 0 (λ e. omega arith) ∙ l.invariant.rest k (omega arith);
    }

pub returns : goal.returns
returns c = joined_words c.args.to.now c.args.f c.loop-i.to (omega arith) (omega arith) c.loop-i.invariant.long (λ k h. c.loop-i.invariant.done k (omega arith))
