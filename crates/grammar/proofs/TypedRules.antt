-- The promises of the grammar.
use mathlib.Core.Path.{◌≡◌, sym, subst}
use mathlib.Core.List.{List}
use Prim.Native.Nat.{ℕ}
use Rattle.grammar.specs.Token.{Token}
use Rattle.grammar.specs.Grammar.{Part, implication}
use Rattle.grammar.specs.Spelling.{blank}
use Rattle.grammar.specs.Typed.{Typed, TypedRules, deepest}
use Rattle.grammar.proofs.Lexing.{one_text}
use Rattle.grammar.proofs.Readings.{one_postfix}
use Rattle.grammar.proofs.Rules as rules
use Rattle.grammar.proofs.Decided.{decided}
use Rattle.grammar.proofs.Bytes.{bytes, behind}

pub typed_rules : TypedRules
typed_rules = record {
  decided = decided;
  blank_before = λ text p t. record { tokens = t.tokens; spelled = blank t.spelled; part = t.part };
  blank_behind = λ text p t. record { tokens = t.tokens; spelled = behind t.spelled; part = t.part };
  bytes = λ text p t. bytes t.spelled;
  unambiguous = unambiguous;
  a_rule = λ text p t. rules.a_rule t.part;
  letters = λ text p actions t. rules.letters actions t.part;
}
  where
    unambiguous : (text p q : List ℕ) → Typed text p → Typed text q → p ≡ q
    unambiguous text p q t u =
        let e = one_text t.tokens u.tokens t.spelled u.spelled in
        one_postfix t.part (subst (λ (ts : List Token). Part implication deepest ts q) (sym e) u.part)
