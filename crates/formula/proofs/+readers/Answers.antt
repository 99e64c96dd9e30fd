-- The five readers meet their contracts. What a reader has done when it returns is told in Steps, and for a chain's loop in Chains.
use mathlib.Core.Path.{◌≡◌}
use native.Mathlib.Omega.{arith}
use Rattle.std.proofs.Common.{rules}
use Rattle.tokens.specs.declared.Token.TheVariants.{And, Or, Opening}
use Rattle.grammar.specs.Readings as reader
use Rattle.formula.proofs.Steps as steps
use Rattle.formula.proofs.Chains as chains
use Rattle.formula.proofs.+readers.Goals as goal

-- a letter, or a rule in brackets
pub bracket-returns-in-Letter : goal.bracket-returns-in-Letter
bracket-returns-in-Letter t c = steps.action c.next_token-t.ensures c.in-Letter.is c.moved.ensures c.push.ensures

pub bracket-implication-inner-requires : goal.bracket-implication-inner-requires
bracket-implication-inner-requires t c =
    (steps.lower_rank reader.implication reader.operand _ c.args.from c.decreases (omega arith) c.next_token-t.ensures (rw c.in-Opening.is (omega arith)) c.moved-in-Opening.ensures, tt)

pub bracket-returns-in-Opening : goal.bracket-returns-in-Opening
bracket-returns-in-Opening t c =
    steps.bracket c.next_token-t.ensures c.in-Opening.is c.moved-in-Opening.ensures c.implication-inner.ensures c.next_token-closing.ensures c.moved-in-Opening-2.ensures

pub bracket-returns-in_default : goal.bracket-returns-in_default
bracket-returns-in_default t c = steps.no_operand c.next_token-t.ensures c.in_default.not-Letter (λ k. omega arith)

pub bracket-returns-in_default-2 : goal.bracket-returns-in_default-2
bracket-returns-in_default-2 t c =
    let other : c.next_token-t.result.kind ≡ Opening → ⊥ = λ k. search rules in
    steps.no_operand c.next_token-t.ensures c.in_default.not-Letter (λ k. absurd (other k))

-- "not", or a letter or a bracket
pub negation-negation-requires : goal.negation-negation-requires
negation-negation-requires t c =
    (steps.lower_rank reader.negation reader.negation _ c.args.from c.decreases (omega arith) c.next_token-t.ensures (rw c.in-Not.is (omega arith)) c.moved.ensures, tt)

pub negation-returns-in-Not : goal.negation-returns-in-Not
negation-returns-in-Not t c = steps.negated c.next_token-t.ensures c.in-Not.is c.moved.ensures c.negation.ensures c.push.ensures

pub negation-returns-in_default : goal.negation-returns-in_default
negation-returns-in_default t c = steps.plain c.next_token-t.ensures c.in_default.not-Not c.bracket.ensures

-- parts joined by "and", and chains of these joined by "or"
pub conjunction-loop-t-init : goal.conjunction-loop-t-init
conjunction-loop-t-init t c = chains.first_turn c.next_token-t.ensures

pub conjunction-negation-requires : goal.conjunction-negation-requires
conjunction-negation-requires t c =
    let is : c.loop-t.t.kind ≡ And = search rules in
    (chains.lower_rank_again c.loop-t.invariant c.decreases c.negation-r.ensures is c.moved.ensures, tt)

pub conjunction-loop-t-smaller : goal.conjunction-loop-t-smaller
conjunction-loop-t-smaller t c =
    let is : c.loop-t.t.kind ≡ And = search rules in
    chains.less_left_again c.loop-t.invariant is c.moved.ensures c.negation.ensures c.push-r.ensures

pub conjunction-loop-t-preserved : goal.conjunction-loop-t-preserved
conjunction-loop-t-preserved t c =
    let is : c.loop-t.t.kind ≡ And = search rules in
    chains.next_turn c.loop-t.invariant is c.moved.ensures c.negation.ensures c.push-r.ensures c.next_token-t-in-loop-t.ensures

pub conjunction-returns : goal.conjunction-returns
conjunction-returns t c =
    let other : c.loop-t.t.kind ≡ And → ⊥ = λ e. search rules in
    chains.last_turn c.loop-t.invariant c.negation-r.ensures other

pub disjunction-loop-t-init : goal.disjunction-loop-t-init
disjunction-loop-t-init t c = chains.first_turn c.next_token-t.ensures

pub disjunction-conjunction-requires : goal.disjunction-conjunction-requires
disjunction-conjunction-requires t c =
    let is : c.loop-t.t.kind ≡ Or = search rules in
    (chains.lower_rank_again c.loop-t.invariant c.decreases c.conjunction-r.ensures is c.moved.ensures, tt)

pub disjunction-loop-t-smaller : goal.disjunction-loop-t-smaller
disjunction-loop-t-smaller t c =
    let is : c.loop-t.t.kind ≡ Or = search rules in
    chains.less_left_again c.loop-t.invariant is c.moved.ensures c.conjunction.ensures c.push-r.ensures

pub disjunction-loop-t-preserved : goal.disjunction-loop-t-preserved
disjunction-loop-t-preserved t c =
    let is : c.loop-t.t.kind ≡ Or = search rules in
    chains.next_turn c.loop-t.invariant is c.moved.ensures c.conjunction.ensures c.push-r.ensures c.next_token-t-in-loop-t.ensures

pub disjunction-returns : goal.disjunction-returns
disjunction-returns t c =
    let other : c.loop-t.t.kind ≡ Or → ⊥ = λ e. search rules in
    chains.last_turn c.loop-t.invariant c.conjunction-r.ensures other

-- a chain, with or without "implies" after it
pub implication-implication-requires : goal.implication-implication-requires
implication-implication-requires t c =
    let d = c.disjunction-left.ensures.forward in (
      steps.lower_rank reader.implication reader.implication _ c.args.from c.decreases (omega arith)
          (steps.kept _ c.push.ensures c.next_token-t.ensures)
          (rw c.in-Implies.is (omega arith))
          c.moved.ensures,
      tt,
    )

pub implication-returns-in-Implies : goal.implication-returns-in-Implies
implication-returns-in-Implies t c =
    steps.then c.disjunction-left.ensures
    (steps.implied c.next_token-t.ensures c.in-Implies.is c.push.ensures c.moved.ensures c.implication.ensures c.push-in-Implies.ensures)

pub implication-returns-in_default : goal.implication-returns-in_default
implication-returns-in_default t c = steps.then c.disjunction-left.ensures (steps.not_implied c.next_token-t.ensures c.in_default.not-Implies)
