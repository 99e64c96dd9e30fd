-- A stack in 64 places that are used in a round. What a value more and a value less do to the values that the places hold: the value k below the last
-- is at `place top k`, and places that no value has have nothing, so that an empty stack needs no case of its own.
use Rattle.std.proofs.Common.{◌≡◌, refl, sym, ap, ◌∙◌, List, [], ◌∷◌, ℕ, zero, suc, ◌+◌, ◌*◌, ◌%◌, ◌≤◌, ◌<◌, length, get_or, replicate, inl, inr, arith}
use lib.ListN.{length-take, length-set, get_or-replicate, get_or-eq_default}
use lib.Seq.{get_or-take, get_or-set_same, get_or-set_other}
use Rattle.blocks.specs.Bounded.{one}
use Rattle.family.proofs.Numbers.{same_or_other}
use Rattle.family.proofs.Bits.{no_bit}
use Rattle.meaning.specs.declared.Value.{Value}
use Rattle.meaning.specs.Value as value
use Rattle.meaning.specs.Value.{neither, push, below}
use Rattle.rule.specs.declared.Values.{Values}
use Rattle.rule.specs.declared.stack.Stack.{Stack}
use Rattle.rule.specs.Words.{TellsValues}
use Rattle.rule.specs.Stack.{place, nothing, last, Popped, Pushed, Holds}

-- a stack's values, counted from the last
top_is : (stack : List Value) → get_or stack 0 neither ≡ value.top stack
top_is [] = refl
top_is (v ∷ stack) = refl

below_is : (stack : List Value) (k : ℕ) → get_or stack (suc k) neither ≡ get_or (below stack) k neither
below_is [] k = refl
below_is (v ∷ stack) k = refl

pushed_is : (v : Value) (stack : List Value) (k : ℕ) → k < 63 → get_or (push v stack) (suc k) neither ≡ get_or stack k neither
pushed_is v stack k l = get_or-take value.places (v ∷ stack) (suc k) neither (omega arith)

push_short : (v : Value) (stack : List Value) → length (push v stack) ≤ value.places
push_short v stack = omega (arith, length-take value.places (v ∷ stack))

below_short : (stack : List Value) → length stack ≤ value.places → length (below stack) ≤ value.places
below_short [] l = omega arith
below_short (v ∷ stack) l = omega arith

-- two words that tell of values, in other words
tells_as : {w : ℕ} {r : Values} {u v : ℕ → Value} → ((set : ℕ) → u set ≡ v set) → TellsValues w r u → TellsValues w r v
tells_as {w} same h = record {
  positives = record { bits = λ i l. h.positives.bits i l ∙ ap (λ (x : Value). one x.positive) (same (w * 64 + i)) };
  negatives = record { bits = λ i l. h.negatives.bits i l ∙ ap (λ (x : Value). one x.negative) (same (w * 64 + i)) };
}

tells_neither : {w : ℕ} → TellsValues w nothing (λ set. neither)
tells_neither = record { positives = record { bits = λ i l. no_bit i }; negatives = record { bits = λ i l. no_bit i } }

module _ {w : ℕ} {s : Stack} {stacks : ℕ → List Value} (h : Holds w s stacks) where
  pub holds_last : TellsValues w (last s) (λ set. value.top (stacks set))
  holds_last = let e : place s.top 0 ≡ s.top = omega (arith, s.inside) in rw e at (tells_as (λ set. top_is (stacks set)) (h.told 0 (omega arith)))

  pub holds_pushed : {s' : Stack} {v : Values} {x : ℕ → Value} → TellsValues w v x → Pushed v s s' → Holds w s' (λ set. push (x set) (stacks set))
  holds_pushed {s'} {v} {x} tells p = record { long = ap length p.places ∙ simp length-set h.long; short = λ set. push_short (x set) (stacks set); told = told }
    where
      told : (k : ℕ) → k < 64 → TellsValues w (get_or s'.places (place s'.top k) nothing) (λ set. get_or (push (x set) (stacks set)) k neither)
      told zero l =
          let e : place s'.top 0 ≡ (s.top + 1) % 64 = omega (arith, s'.inside, p.top) in
          rw (p.places, e, get_or-set_same s.places ((s.top + 1) % 64) v nothing (omega (arith, h.long))) (tells_as (λ set. refl) tells)
      told (suc k) l =
          let e : place s'.top (suc k) ≡ place s.top k = omega (arith, p.top, s.inside) in
          let d : ¬ (place s.top k ≡ (s.top + 1) % 64) = λ z. omega (arith, s.inside) in
          rw (p.places, e, get_or-set_other s.places ((s.top + 1) % 64) (place s.top k) v nothing d)
          (tells_as (λ set. sym (pushed_is (x set) (stacks set) k (omega arith))) (h.told k (omega arith)))

  pub holds_popped : {s' : Stack} → Popped s s' → Holds w s' (λ set. below (stacks set))
  holds_popped {s'} p = record { long = ap length p.places ∙ simp length-set h.long; short = λ set. below_short (stacks set) (h.short set); told = told }
    where
      told : (k : ℕ) → k < 64 → TellsValues w (get_or s'.places (place s'.top k) nothing) (λ set. get_or (below (stacks set)) k neither)
      told k l = elim (same_or_other k 63) [
        | inl z ↦
            let e : place s'.top k ≡ s.top = omega (arith, p.top, s.inside) in
            rw (p.places, e, get_or-set_same s.places s.top nothing nothing (omega (arith, h.long, s.inside)))
            (tells_as (λ set. sym (sym (below_is (stacks set) k) ∙ get_or-eq_default (stacks set) neither (omega (arith, h.short set)))) tells_neither)
        | inr d ↦
            let e : place s'.top k ≡ place s.top (suc k) = omega (arith, p.top, s.inside) in
            let other : ¬ (place s.top (suc k) ≡ s.top) = λ z. omega (arith, s.inside) in
            rw (p.places, e, get_or-set_other s.places s.top (place s.top (suc k)) nothing nothing other)
            (tells_as (λ set. below_is (stacks set) k) (h.told (suc k) (omega arith)))
      ]

pub holds_none : (w : ℕ) (s : Stack) → s.places ≡ replicate 64 nothing → Holds w s (λ set. [])
holds_none w s e = record {
  long = ap length e;
  short = λ set. omega arith;
  told = λ k l. rw (e, get_or-replicate 64 (place s.top k) nothing nothing (omega arith)) tells_neither;
}
