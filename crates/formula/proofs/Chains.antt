-- The loop of the reader of a chain, for either operator: a turn reads an operator with what it joins, so whatever tail is read after the turn is
-- the end of a tail that is read from where the loop began (`Turn`). Where no operator follows, the tail is empty.
use mathlib.Core.Path.{◌≡◌, sym, ◌∙◌}
use mathlib.Core.List.{List}
use Prim.Native.Nat.{ℕ, ◌-◌, ◌≤◌, ◌<◌}
use native.Mathlib.Omega.{arith}
use lib.ListN.{length}
use Rattle.grammar.specs.Token.{Operator, and, or, byte}
use Rattle.grammar.specs.Readings as reads
use Rattle.grammar.specs.Readings.{chain, tail, inner}
use Rattle.tokens.specs.Tokens.{next_of, size_of, token_of}
use Rattle.tokens.specs.declared.Next.{Next}
use Rattle.tokens.specs.declared.Token.TheVariants.{And, Or}
use Rattle.tokens.proofs.Tokens.{number_back}
use Rattle.formula.specs.Readers.{Moved, Pushed, Took}
use Rattle.formula.specs.declared.Reading.{Reading}
use Rattle.formula.proofs.Steps.{Parts, shown, passes, rank, less_left, lower_rank, standing, moving, pushing, taking}

-- the invariant: the reading was r₀ before the loop and is r, and t is the next token
pub record Turn (o : Operator) (text : List ℕ) (d : ℕ) (r₀ r : Reading) (t : Next) : Type 0 where
  pub forward : r₀.at ≤ r.at
  pub goes_on : (s : Reading) → Took (tail o) text d r s → Took (tail o) text d r₀ s
  pub next : t ≡ next_of text r.at

pub first_turn : {o : Operator} {text : List ℕ} {d : ℕ} {r : Reading} {t : Next} → t ≡ next_of text r.at → Turn o text d r r t
first_turn e = record { forward = omega arith; goes_on = λ s took. took; next = e }

operator_some : (o : Operator) → 1 ≤ size_of (token_of (byte o))
operator_some and = omega arith
operator_some or = omega arith

operator_back : (o : Operator) (k : ℕ) → token_of k ≡ token_of (byte o) → k ≡ byte o
operator_back and k e = number_back And k e (λ z. cc)
operator_back or k e = number_back Or k e (λ z. cc)

module _ {o : Operator} {text : List ℕ} {d : ℕ} where
  chained : {from m r : Reading} → Took (inner o) text d from m → Took (tail o) text d m r → Took (chain o) text d from r
  chained {from} {r = r} one others = record { forward = omega arith; part = parts }
    where
      parts : Parts (chain o) text d from r
      parts ts rest p x (reads.chained y z) = taking (one.part ts _ _ x y) others z

  module _ {r : Reading} {t : Next} (e : t ≡ next_of text r.at) where
    no_more : (t.kind ≡ token_of (byte o) → ⊥) → Took (tail o) text d r r
    no_more other = record { forward = omega arith; part = parts }
      where
        parts : Parts (tail o) text d r r
        parts ts rest p x (reads.more y z) = absurd (other (shown text r.at e x))
        parts ts rest p x (reads.no_more h) = standing text r x

    more : {m n s u : Reading} → t.kind ≡ token_of (byte o) → Moved r t.at m → Took (inner o) text d m n → Pushed n (byte o) s → Took (tail o) text d s u
        → Took (tail o) text d r u
    more {u = u} is mv one pu others = let f = passes text r.at e in record { forward = omega arith; part = parts }
      where
        parts : Parts (tail o) text d r u
        parts ts rest p x (reads.more y z) = taking (pushing (taking (moving (standing text r x) e mv) one y) pu) others z
        parts ts rest p x (reads.no_more h) = absurd (h (operator_back o _ (sym (shown text r.at e x) ∙ is)))

  module _ {r₀ r : Reading} {t : Next} (turn : Turn o text d r₀ r t) where
    pub last_turn : {from : Reading} → Took (inner o) text d from r₀ → (t.kind ≡ token_of (byte o) → ⊥) → Took (chain o) text d from r
    last_turn one other = chained one (turn.goes_on r (no_more turn.next other))

    pub next_turn : {m n s : Reading} {u : Next} → t.kind ≡ token_of (byte o) → Moved r t.at m → Took (inner o) text d m n → Pushed n (byte o) s → u ≡ next_of text s.at
        → Turn o text d r₀ s u
    next_turn is mv one pu f =
        let g = passes text r.at turn.next in
        record { forward = omega arith; goes_on = λ v took. turn.goes_on v (more turn.next is mv one pu took); next = f }

    some : t.kind ≡ token_of (byte o) → 1 ≤ size_of t.kind
    some is = rw is (operator_some o)

    pub less_left_again : {m n s : Reading} → t.kind ≡ token_of (byte o) → Moved r t.at m → Took (inner o) text d m n → Pushed n (byte o) s → length text - s.at < length text - r.at
    less_left_again {s = s} is mv one pu = less_left text s turn.next (some is) mv (omega arith)

    pub lower_rank_again : {from m : Reading} {n : ℕ} → rank (chain o) text from ≡ n → Took (inner o) text d from r₀ → t.kind ≡ token_of (byte o) → Moved r t.at m
        → rank (inner o) text m < n
    lower_rank_again {from} at one is mv = lower_rank (inner o) (chain o) text from at (omega arith) turn.next (some is) mv
