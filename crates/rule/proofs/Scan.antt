-- What one turn of the loop over a rule's bytes does to the stacks of the sets, and what is left at the end.
use Rattle.std.proofs.Common.{◌≡◌, refl, sym, ap, ◌∙◌, List, [], ℕ, ◌+◌, ◌*◌, ◌≤◌, ◌<◌, length, drop, get_or, replicate, add-one, drop_of_length-le, drop-cons}
use Rattle.meaning.specs.declared.Value.{Value}
use Rattle.meaning.specs.Value as value
use Rattle.meaning.specs.Value.{step, values, satisfies}
use Rattle.blocks.specs.Bounded.{one}
use Rattle.undos.specs.Masks.{Masks}
use Rattle.rule.specs.declared.stack.Stack.{Stack}
use Rattle.rule.specs.Words.{Tells}
use Rattle.rule.specs.Stack.{nothing, last, Holds, Stepped}
use Rattle.rule.proofs.Places.{holds_last, holds_none}

-- The places hold stacks from which the bytes left from i on give what the whole rule gives.
pub record Scanned (rule pairs : List ℕ) (w : ℕ) (s : Stack) (i : ℕ) : Type 0 where
  pub stacks : ℕ → List Value
  pub holds : Holds w s stacks
  pub same : (set : ℕ) → values pairs set [] rule ≡ values pairs set (stacks set) (drop i rule)

module _ (rule pairs : List ℕ) (w : ℕ) where
  pub scanned_none : (s : Stack) → s.places ≡ replicate 64 nothing → Scanned rule pairs w s 0
  scanned_none s e = record { stacks = λ set. []; holds = holds_none w s e; same = λ set. refl }

  module _ {s : Stack} {i : ℕ} (r : Scanned rule pairs w s i) where
    pub scanned_more : {masks : List ℕ} {s' : Stack} → i < length rule → Masks pairs masks → Stepped masks w (get_or rule i 0) s s' → Scanned rule pairs w s' (i + 1)
    unfolding values
    scanned_more l m stepped = record {
      stacks = λ set. step pairs set (get_or rule i 0) (r.stacks set);
      holds = stepped.steps pairs r.stacks m r.holds;
      same = λ set. r.same set ∙ turn set;
    }
      where
        turn : (set : ℕ) → values pairs set (r.stacks set) (drop i rule) ≡ values pairs set (step pairs set (get_or rule i 0) (r.stacks set)) (drop (i + 1) rule)
        turn set = rw (add-one i, drop-cons rule i 0)

    pub scanned_all : length rule ≤ i → Tells w (last s).positives (λ set. satisfies rule pairs set)
    unfolding values satisfies
    scanned_all l = record {
      bits = λ k h. (holds_last r.holds).positives.bits k h ∙ ap (λ (stack : List Value). one (value.top stack).positive) (sym (r.same (w * 64 + k) ∙ end (w * 64 + k)));
    }
      where
        end : (set : ℕ) → values pairs set (r.stacks set) (drop i rule) ≡ r.stacks set
        end set = rw (drop_of_length-le rule l)
