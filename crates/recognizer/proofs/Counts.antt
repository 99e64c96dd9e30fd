-- The count of a text from what is known of it: a text is a typed rule or is none, and as one it has one postfix list.
use mathlib.Core.Path.{◌≡◌, refl, sym, ap, ◌∙◌}
use mathlib.Core.List.{List}
use Prim.Native.Nat.{ℕ}
use lib.ListN.{length}
use Rattle.std.proofs.Common.{Some, None}
use Rattle.grammar.specs.Typed.{Typed, Decision, inside, outside}
use Rattle.grammar.proofs.TypedRules.{typed_rules}
use Rattle.recognizer.specs.Count.{count_for, count_of}

pub none_counted : (text : List ℕ) → ((p : List ℕ) → Typed text p → ⊥) → None ≡ count_of text
unfolding count_of
none_counted text h = go (typed_rules.decided text)
  where
    go : (d : Decision text) → None ≡ count_for d
    go (inside p t) = absurd (h p t)
    go (outside k) = refl

pub so_many_counted : (text p : List ℕ) (n : ℕ) → Typed text p → length p ≡ n → Some n ≡ count_of text
unfolding count_of
so_many_counted text p n t e = go (typed_rules.decided text)
  where
    go : (d : Decision text) → Some n ≡ count_for d
    go (inside q u) = ap (λ (m : ℕ). Some m) (sym e ∙ ap length (typed_rules.unambiguous text p q t u))
    go (outside k) = absurd (k p t)
