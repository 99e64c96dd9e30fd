-- What one turn of the loop over a rule does to its test.
use Rattle.std.proofs.Common.{◌≡◌, refl, Bool, true, false, cond, Option, Some, None, List, ℕ, suc, ◌+◌, ◌-◌, ◌≤◌, ◌<◌, add-one, leb, eqb, length, drop, get_or, drop_of_length-le, drop-cons}
use Rattle.bodies.specs.Rule.{operands, taken, rule_from}

-- by how many values the byte takes
abbrev pub after_byte : ℕ → ℕ → List ℕ → Option ℕ → Bool
after_byte actions d rest None = false
after_byte actions d rest (Some k) = cond (leb k d) (rule_from actions (d + 1 - k) rest) false

pub rule_step : (actions d : ℕ) (b : List ℕ) (i : ℕ) → i < length b → rule_from actions d (drop i b) ≡ after_byte actions d (drop (i + 1) b) (taken actions (get_or b i 0))
unfolding rule_from
rule_step actions d b i h = rw (add-one i, drop-cons b i 0) (go (leb (operands actions (get_or b i 0)) 2))
  where
    go : (t : Bool)
        → cond t (cond (leb (operands actions (get_or b i 0)) d) (rule_from actions (d + 1 - operands actions (get_or b i 0)) (drop (suc i) b)) false) false
        ≡ after_byte actions d (drop (suc i) b) (cond t (Some (operands actions (get_or b i 0))) None)
    go true = refl
    go false = refl

pub rule_end : (actions d : ℕ) (b : List ℕ) (i : ℕ) → length b ≤ i → rule_from actions d (drop i b) ≡ eqb d 1
unfolding rule_from
rule_end actions d b i h = rw (drop_of_length-le b h)
