-- `Stack::step` meets its contract: each return by the byte that led there, and by what the calls do to the places.
use Rattle.std.proofs.Common.{arith}
use borrow.Author.Tests.{ne_eqb}
use Rattle.meaning.specs.Value.{top, below}
use Rattle.rule.specs.Words.{TellsValues}
use Rattle.rule.proofs.Words.{tells_swapped, tells_both, tells_either}
use Rattle.rule.proofs.Places.{holds_last, holds_pushed, holds_popped}
use Rattle.rule.proofs.stack.Stack.step.Goals as goal

pub returns-in-128 : goal.returns-in-128
returns-in-128 c = record {
  steps = λ pairs stacks m h.
      let v : TellsValues c.args.w c.pop-v.result (λ set. top (stacks set)) = rw c.pop-v.ensures.value (holds_last h) in
      rw c.in-128.is (holds_pushed (holds_popped h c.pop-v.ensures.after) (tells_swapped v) c.push.ensures);
}

pub returns-in-129 : goal.returns-in-129
returns-in-129 c = record {
  steps = λ pairs stacks m h.
      let under = holds_popped h c.pop-v-in-129.ensures.after in
      let v : TellsValues c.args.w c.pop-v-in-129.result (λ set. top (stacks set)) = rw c.pop-v-in-129.ensures.value (holds_last h) in
      let u : TellsValues c.args.w c.pop-u.result (λ set. top (below (stacks set))) = rw c.pop-u.ensures.value (holds_last under) in
      rw c.in-129.is (holds_pushed (holds_popped under c.pop-u.ensures.after) (tells_both u v) c.push-in-129.ensures);
}

pub returns-in-130 : goal.returns-in-130
returns-in-130 c = record {
  steps = λ pairs stacks m h.
      let under = holds_popped h c.pop-v-in-130.ensures.after in
      let v : TellsValues c.args.w c.pop-v-in-130.result (λ set. top (stacks set)) = rw c.pop-v-in-130.ensures.value (holds_last h) in
      let u : TellsValues c.args.w c.pop-u-in-130.result (λ set. top (below (stacks set))) = rw c.pop-u-in-130.ensures.value (holds_last under) in
      rw c.in-130.is (holds_pushed (holds_popped under c.pop-u-in-130.ensures.after) (tells_either u v) c.push-in-130.ensures);
}

pub returns-in_default : goal.returns-in_default
returns-in_default c = record {
  steps = λ pairs stacks m h. rw (ne_eqb c.args.t 0x80 (omega arith), ne_eqb c.args.t 0x81 (omega arith), ne_eqb c.args.t 0x82 (omega arith))
      (holds_pushed h (c.literal_of.ensures pairs m) c.push-in_default.ensures);
}
