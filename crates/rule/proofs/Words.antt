-- Words that tell a test's answers at 64 sets are joined as the answers are: and, or, not, bit by bit. So are the two values of a part, and so
-- come the values of a literal from which sets have the action, which have an undo of it, and which have more than one.
use mathlib.Core.Path.{◌≡◌, refl, ap, ap₂, ◌∙◌}
use mathlib.Core.Bool.{Bool, true, false, not, ◌&&◌, ◌||◌}
use mathlib.Core.List.{List}
use Prim.Native.Nat.{ℕ, zero, suc, ◌+◌, ◌-◌, ◌*◌, ◌^◌, ◌<◌, max, min}
use native.Mathlib.Omega.{arith}
use lib.Bits.{bit_or, bit_and, or_lt}
use lib.Dec.{leb}
use lib.ListN.{get_or}
use borrow.Author.Tests.{ne_eqb, le-leb}
use Rattle.blocks.specs.Bounded.{one}
use Rattle.family.proofs.Bits.{bit_or_lem, bit_and_lem, bit_not}
use Rattle.meaning.specs.declared.Value.{Value}
use Rattle.meaning.specs.Literal.{finished, undos_finished, literal_of, literal}
use Rattle.meaning.specs.Meaning.{swapped, both, either}
use Rattle.rule.specs.declared.Met.{Met}
use Rattle.rule.specs.declared.Values.{Values}
use Rattle.undos.specs.Masks.{Masks}
use Rattle.rule.specs.Words.{shared, Tells, TellsNumber, TellsValues}
use Rattle.rule.proofs.Shared.{shared_mask}

one_and : (a b : Bool) → min (one a) (one b) ≡ one (a && b)
one_and true true = refl
one_and true false = refl
one_and false true = refl
one_and false false = refl

one_or : (a b : Bool) → max (one a) (one b) ≡ one (a || b)
one_or true true = refl
one_or true false = refl
one_or false true = refl
one_or false false = refl

one_not : (a : Bool) → 1 - one a ≡ one (not a)
one_not true = refl
one_not false = refl

module _ {w : ℕ} where
  pub tells_and : {p q : ℕ} {f g : ℕ → Bool} → Tells w p f → Tells w q g → Tells w (bit_and p q) (λ set. f set && g set)
  tells_and {p} {q} {f} {g} hp hq = record { bits = λ i l. bit_and_lem p q i ∙ ap₂ min (hp.bits i l) (hq.bits i l) ∙ one_and (f (w * 64 + i)) (g (w * 64 + i)) }

  pub tells_or : {p q : ℕ} {f g : ℕ → Bool} → Tells w p f → Tells w q g → Tells w (bit_or p q) (λ set. f set || g set)
  tells_or {p} {q} {f} {g} hp hq = record { bits = λ i l. bit_or_lem p q i ∙ ap₂ max (hp.bits i l) (hq.bits i l) ∙ one_or (f (w * 64 + i)) (g (w * 64 + i)) }

  pub tells_not : {p : ℕ} {f : ℕ → Bool} → p < 2 ^ 64 → Tells w p f → Tells w (2 ^ 64 - 1 - p) (λ set. not (f set))
  tells_not {p} {f} fits hp = record { bits = λ i l. bit_not 64 p i fits l ∙ ap (λ (b : ℕ). 1 - b) (hp.bits i l) ∙ one_not (f (w * 64 + i)) }

  pub tells_same : {p : ℕ} {f g : ℕ → Bool} → ((i : ℕ) → i < 64 → f (w * 64 + i) ≡ g (w * 64 + i)) → Tells w p f → Tells w p g
  tells_same same hp = record { bits = λ i l. hp.bits i l ∙ ap one (same i l) }

-- the two values of a part
module _ {w : ℕ} where
  pub tells_swapped : {r : Values} {v : ℕ → Value} → TellsValues w r v → TellsValues w (record { positives = r.negatives; negatives = r.positives }) (λ set. swapped (v set))
  tells_swapped h = record { positives = record { bits = h.negatives.bits }; negatives = record { bits = h.positives.bits } }

  pub tells_both : {l r : Values} {u v : ℕ → Value} → TellsValues w l u → TellsValues w r v
      → TellsValues w (record { positives = bit_and l.positives r.positives; negatives = bit_or l.negatives r.negatives }) (λ set. both (u set) (v set))
  tells_both h k = record { positives = record { bits = (tells_and h.positives k.positives).bits }; negatives = record { bits = (tells_or h.negatives k.negatives).bits } }

  pub tells_either : {l r : Values} {u v : ℕ → Value} → TellsValues w l u → TellsValues w r v
      → TellsValues w (record { positives = bit_or l.positives r.positives; negatives = bit_and l.negatives r.negatives }) (λ set. either (u set) (v set))
  tells_either h k = record { positives = record { bits = (tells_or h.positives k.positives).bits }; negatives = record { bits = (tells_and h.negatives k.negatives).bits } }

-- the two values of a literal, from "the action is finished" and how many undos of it are
positive_of : (f : Bool) (n : ℕ) → f && not (leb 1 n) ≡ (literal_of f n).positive
positive_of f zero = refl
positive_of f (suc n) = rw (le-leb 1 (suc n) (omega arith), ne_eqb (suc n) 0 (λ e. omega arith))

negative_of : (f : Bool) (n : ℕ) → ((f && leb 1 n) && not (leb 2 n)) || not (f || leb 1 n) ≡ (literal_of f n).negative
negative_of true zero = refl
negative_of false zero = refl
negative_of true (suc zero) = refl
negative_of false (suc zero) = refl
negative_of true (suc (suc n)) = rw (le-leb 1 (suc (suc n)) (omega arith), le-leb 2 (suc (suc n)) (omega arith), ne_eqb (suc (suc n)) 1 (λ e. omega arith))
negative_of false (suc (suc n)) = rw (le-leb 1 (suc (suc n)) (omega arith), ne_eqb (suc (suc n)) 0 (λ e. omega arith))

module _ (pairs masks : List ℕ) (m : Masks pairs masks) (w a : ℕ) (byte : a < 256) (small : w < 2 ^ 32) (p : ℕ) (q : Met)
    (fp : p < 2 ^ 64) (fs : q.some < 2 ^ 64) (fm : q.more < 2 ^ 64)
    (acts : Tells w p (λ set. finished set a)) (undone : TellsNumber w q (λ set. shared set (get_or masks a 0))) where
  undos_at : (i : ℕ) → i < 64 → shared (w * 64 + i) (get_or masks a 0) ≡ undos_finished pairs (w * 64 + i) a
  undos_at i l = shared_mask (w * 64 + i) (omega arith) pairs masks m a byte

  pub literal_told : TellsValues w (record {
    positives = bit_and p (2 ^ 64 - 1 - q.some);
    negatives = bit_or (bit_and (bit_and p q.some) (2 ^ 64 - 1 - q.more)) (2 ^ 64 - 1 - bit_or p q.some);
  }) (λ set. literal pairs set a)
  literal_told = record {
    positives =
        tells_same
        (λ i l. rw (undos_at i l) (positive_of (finished (w * 64 + i) a) (undos_finished pairs (w * 64 + i) a)))
        (tells_and acts (tells_not fs undone.some));
    negatives =
        tells_same
        (λ i l. rw (undos_at i l) (negative_of (finished (w * 64 + i) a) (undos_finished pairs (w * 64 + i) a)))
        (tells_or (tells_and (tells_and acts undone.some) (tells_not fm undone.more)) (tells_not (or_lt 64 p q.some fp fs) (tells_or acts undone.some)));
  }
