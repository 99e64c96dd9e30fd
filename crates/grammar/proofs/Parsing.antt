-- What passes is in the grammar: a part of each level is found from the tightest up, as long as it can be, by induction on how many tokens there are.
use mathlib.Core.Path.{◌≡◌, refl, sym, ap, subst, ◌∙◌}
use mathlib.Core.Bool.{true, false}
use mathlib.Core.List.{List, [], ◌∷◌, ◌++◌, append_assoc, append-nil}
use Prim.Native.Nat.{ℕ, zero, suc, ◌-◌, ◌≤◌, ◌<◌}
use native.Mathlib.Omega.{arith}
use lib.ListN.{length, length-append}
use Rattle.grammar.specs.Token.{Operator, and, or, Token, letter, not, operator, implies, opening, closing, byte, not_byte}
use Rattle.grammar.specs.Grammar as g
use Rattle.grammar.specs.Grammar.{Part, Level, tighter}
use Rattle.grammar.specs.Typed.{deepest}
use Rattle.grammar.specs.Next.{first}
use Rattle.grammar.specs.Passes as p
use Rattle.grammar.specs.Passes.{Passes}
use Rattle.grammar.proofs.Readings.{Free, Clear}

-- A part is not empty.
some : {l : Level} {d : ℕ} {s : List Token} {q : List ℕ} → Part l d s q → 1 ≤ length s
some (g.action h) = omega arith
some (g.bracket x) = omega arith
some (g.negated x) = omega arith
some (g.plain x) = some x
some (g.joined {o = o} {s = s} {t = t} x y) = let a = some x in let e = length-append s (operator o ∷ t) in omega arith
some (g.single x) = some x
some (g.if_then {s = s} {t = t} x y) = let a = some x in let e = length-append s (implies ∷ t) in omega arith
some (g.no_implies x) = some x

-- What cannot follow a part that is as long as it can be.
abbrev Stops : Level → List Token → Type 0
Stops g.implication us = Free us
Stops (g.chain o) us = Clear o us × (first us ≡ byte o → ⊥)
Stops g.negation us = Unit {0}
Stops g.operand us = Unit {0}

clear_behind : (o : Operator) (us : List Token) → Stops (tighter o) us → Clear o us
clear_behind and us x = tt
clear_behind or us x = x.1

-- A part in front of the tokens, with what follows it.
record Parsed (l : Level) (k : ℕ) (ts : List Token) : Type 0 where
  s : List Token
  rest : List Token
  q : List ℕ
  part : Part l (deepest - k) s q
  whole : s ++ rest ≡ ts
  goes_on : Passes false k rest
  stops : Stops l rest

-- An operand is sought with its nots.
abbrev Sought : Level → ℕ → List Token → Type 0
Sought g.implication k ts = Parsed g.implication k ts
Sought (g.chain o) k ts = Parsed (g.chain o) k ts
Sought g.negation k ts = Parsed g.negation k ts
Sought g.operand k ts = Unit {0}

-- Among at most n tokens.
abbrev All : ℕ → Type 0
All n = (l : Level) (k : ℕ) (ts : List Token) → length ts ≤ n → Passes true k ts → Sought l k ts

-- Behind what stands in brackets comes the closing bracket.
record Closed (k : ℕ) (us : List Token) : Type 0 where
  rest : List Token
  this : us ≡ closing ∷ rest
  goes_on : Passes false k rest

closes : (k j : ℕ) (us : List Token) → Passes false j us → j ≡ suc k → Free us → Closed k us
closes k j us p.end e f = absurd (omega arith)
closes k j us (p.joined {o = o} x) e f = absurd (f.no_operator o refl)
closes k j us (p.implied x) e f = absurd (f.no_implies refl)
closes k j us (p.closed {k = i} {ts = ts} x) e f = let h : i ≡ k = omega arith in record { rest = ts; this = refl; goes_on = subst (λ (n : ℕ). Passes false n ts) h x }

bracketed : (k : ℕ) (ts : List Token) → k < deepest → Parsed g.implication (suc k) ts → Parsed g.negation k (opening ∷ ts)
bracketed k ts h a =
    let c = closes k (suc k) a.rest a.goes_on refl a.stops in
    let e : suc (deepest - suc k) ≡ deepest - k = omega arith in
    record {
      s = opening ∷ (a.s ++ (closing ∷ []));
      rest = c.rest;
      q = a.q;
      part = g.plain (subst (λ (d : ℕ). Part g.operand d (opening ∷ (a.s ++ (closing ∷ []))) a.q) e (g.bracket a.part));
      whole = ap (λ (us : List Token). opening ∷ us) (append_assoc a.s (closing ∷ []) c.rest ∙ ap (λ (us : List Token). a.s ++ us) (sym c.this) ∙ a.whole);
      goes_on = c.goes_on;
      stops = tt;
    }

negating : (n : ℕ) → All n → (k : ℕ) (ts : List Token) → length ts ≤ suc n → Passes true k ts → Parsed g.negation k ts
negating n all k ts h (p.action {a = a} {ts = us} l x) =
    record { s = letter a ∷ []; rest = us; q = a ∷ []; part = g.plain (g.action l); whole = refl; goes_on = x; stops = tt }
negating n all k ts h (p.opened {ts = us} l x) = bracketed k us l (all g.implication (suc k) us (omega arith) x)
negating n all k ts h (p.negated {ts = us} x) =
    let a = all g.negation k us (omega arith) x in
    record {
      s = not ∷ a.s;
      rest = a.rest;
      q = a.q ++ (not_byte ∷ []);
      part = g.negated a.part;
      whole = ap (λ (vs : List Token). not ∷ vs) a.whole;
      goes_on = a.goes_on;
      stops = tt;
    }

-- A chain so far: a part, and what follows it.
record Chain (l : Level) (k : ℕ) (ts rest : List Token) : Type 0 where
  s : List Token
  q : List ℕ
  part : Part l (deepest - k) s q
  whole : s ++ rest ≡ ts

less : {l : Level} {d : ℕ} {q : List ℕ} (n : ℕ) (s rest us : List Token) → Part l d s q → s ++ rest ≡ us → length us ≤ suc n → length rest ≤ n
less n s rest us x e h = let a = ap length e in let b = length-append s rest in let c = some x in omega arith

linked : (t : Token) (s u rest us ts : List Token) → s ++ (t ∷ us) ≡ ts → u ++ rest ≡ us → (s ++ (t ∷ u)) ++ rest ≡ ts
linked t s u rest us ts e f = append_assoc s (t ∷ u) rest ∙ ap (λ (vs : List Token). s ++ (t ∷ vs)) f ∙ e

-- Behind a part its operator comes, or not.
data Onward (o : Operator) (k : ℕ) : List Token → Type 0 where
  more : (us : List Token) → Passes true k us → Onward o k (operator o ∷ us)
  stop : (us : List Token) → (first us ≡ byte o → ⊥) → Onward o k us

no_operator : (o : Operator) (n : ℕ) → 0x83 ≤ n → n ≡ byte o → ⊥
no_operator and n h e = omega arith
no_operator or n h e = omega arith

onward : {k : ℕ} {us : List Token} (o : Operator) → Passes false k us → Onward o k us
onward o p.end = stop [] (no_operator o 0xFF (omega arith))
onward and (p.joined {o = and} {ts = us} x) = more us x
onward and (p.joined {o = or} {ts = us} x) = stop (operator or ∷ us) (λ e. omega arith)
onward or (p.joined {o = and} {ts = us} x) = stop (operator and ∷ us) (λ e. omega arith)
onward or (p.joined {o = or} {ts = us} x) = more us x
onward o (p.implied {ts = us} x) = stop (implies ∷ us) (no_operator o 0x83 (omega arith))
onward o (p.closed {ts = us} x) = stop (closing ∷ us) (no_operator o 0x85 (omega arith))

-- A chain is followed as long as its operator comes, by at most m tokens.
abbrev Followed : Operator → ℕ → List Token → List Token → Type 0
Followed o k ts rest = Passes false k rest → Clear o rest → Chain (g.chain o) k ts rest → Parsed (g.chain o) k ts

abbrev Below : Operator → ℕ → Type 0
Below o m = (k : ℕ) (ts rest : List Token) → length rest < m → Followed o k ts rest

inside : (o : Operator) (n : ℕ) → All n → (k : ℕ) (ts : List Token) → length ts ≤ n → Passes true k ts → Parsed (tighter o) k ts
inside and n all = all g.negation
inside or n all = all (g.chain and)

turn : (o : Operator) (n m : ℕ) → All n → m ≤ n → Below o m → (k : ℕ) (ts rest : List Token) → length rest ≤ m → Followed o k ts rest
turn o n m all le below k ts rest h x f c = go rest (onward o x) refl
  where
    go : (vs : List Token) → Onward o k vs → vs ≡ rest → Parsed (g.chain o) k ts
    go vs (stop us s) e = record { s = c.s; rest = rest; q = c.q; part = c.part; whole = c.whole; goes_on = x; stops = (f, rw e at s) }
    go vs (more us y) e =
        let l : suc (length us) ≤ m = rw (sym e) at h in
        let a = inside o n all k us (omega arith) y in
        let i = ap length a.whole in
        let j = length-append a.s a.rest in
        below k ts a.rest (omega arith) a.goes_on (clear_behind o a.rest a.stops)
        (record {
          s = c.s ++ (operator o ∷ a.s);
          q = c.q ++ (a.q ++ (byte o ∷ []));
          part = g.joined c.part a.part;
          whole = linked (operator o) c.s a.s a.rest us ts (ap (λ (ws : List Token). c.s ++ ws) e ∙ c.whole) a.whole;
        })

turns : (o : Operator) (n m : ℕ) → All n → m ≤ n → (k : ℕ) (ts rest : List Token) → length rest ≤ m → Followed o k ts rest
turns o n zero all le = turn o n zero all le (λ k ts rest h. absurd (omega arith))
turns o n (suc m) all le = turn o n (suc m) all le (λ k ts rest h. turns o n m all (omega arith) k ts rest (omega arith))

chaining : (o : Operator) (n : ℕ) → All n → (k : ℕ) (ts : List Token) → length ts ≤ suc n → Parsed (tighter o) k ts → Parsed (g.chain o) k ts
chaining o n all k ts h a =
    turns o n n all (omega arith) k ts a.rest (less n a.s a.rest ts a.part a.whole h) a.goes_on (clear_behind o a.rest a.stops)
    (record { s = a.s; q = a.q; part = g.single a.part; whole = a.whole })

conjoining : (n : ℕ) → All n → (k : ℕ) (ts : List Token) → length ts ≤ suc n → Passes true k ts → Parsed (g.chain and) k ts
conjoining n all k ts h x = chaining and n all k ts h (negating n all k ts h x)

disjoining : (n : ℕ) → All n → (k : ℕ) (ts : List Token) → length ts ≤ suc n → Passes true k ts → Parsed (g.chain or) k ts
disjoining n all k ts h x = chaining or n all k ts h (conjoining n all k ts h x)

-- An implication ends with its last part, or goes on with its rest.
alone : (k : ℕ) (ts rest : List Token) → Passes false k rest → Stops (g.chain or) rest → (first rest ≡ 0x83 → ⊥) → Chain (g.chain or) k ts rest → Parsed g.implication k ts
alone k ts rest x f i c = record {
  s = c.s;
  rest = rest;
  q = c.q;
  part = g.no_implies c.part;
  whole = c.whole;
  goes_on = x;
  stops = record { no_operator = none; no_implies = i };
}
  where
    none : (o : Operator) → first rest ≡ byte o → ⊥
    none and = f.0
    none or = f.1

implying_rest : (n : ℕ) → All n → (k : ℕ) (ts rest : List Token) → length rest ≤ n → Passes false k rest → Stops (g.chain or) rest → Chain (g.chain or) k ts rest
    → Parsed g.implication k ts
implying_rest n all k ts rest h p.end f c = alone k ts [] p.end f (λ e. omega arith) c
implying_rest n all k ts rest h (p.joined {o = and} x) f c = absurd (f.0 refl)
implying_rest n all k ts rest h (p.joined {o = or} x) f c = absurd (f.1 refl)
implying_rest n all k ts rest h (p.closed {ts = us} x) f c = alone k ts (closing ∷ us) (p.closed x) f (λ e. omega arith) c
implying_rest n all k ts rest h (p.implied {ts = us} x) f c =
    let a = all g.implication k us (omega arith) x in
    record {
      s = c.s ++ (implies ∷ a.s);
      rest = a.rest;
      q = (c.q ++ (not_byte ∷ [])) ++ (a.q ++ (byte or ∷ []));
      part = g.if_then c.part a.part;
      whole = linked implies c.s a.s a.rest us ts c.whole a.whole;
      goes_on = a.goes_on;
      stops = a.stops;
    }

implying : (n : ℕ) → All n → (k : ℕ) (ts : List Token) → length ts ≤ suc n → Passes true k ts → Parsed g.implication k ts
implying n all k ts h x =
    let a = disjoining n all k ts h x in
    implying_rest n all k ts a.rest (less n a.s a.rest ts a.part a.whole h) a.goes_on a.stops
    (record { s = a.s; q = a.q; part = a.part; whole = a.whole })

step : (n : ℕ) → All n → (l : Level) (k : ℕ) (ts : List Token) → length ts ≤ suc n → Passes true k ts → Sought l k ts
step n all g.implication = implying n all
step n all (g.chain or) = disjoining n all
step n all (g.chain and) = conjoining n all
step n all g.negation = negating n all
step n all g.operand = λ k ts h x. tt

due : {k : ℕ} {ts : List Token} → Passes true k ts → 1 ≤ length ts
due (p.action h x) = omega arith
due (p.negated x) = omega arith
due (p.opened h x) = omega arith

all_of : (n : ℕ) → All n
all_of zero l k ts h x = absurd (let d = due x in omega arith)
all_of (suc n) l k ts h x = step n (all_of n) l k ts h x

-- The whole of the tokens is a part, with its postfix list.
pub record InGrammar (ts : List Token) : Type 0 where
  pub postfix : List ℕ
  pub part : Part g.implication deepest ts postfix

nothing_left : (k : ℕ) (us : List Token) → k ≡ 0 → Passes false k us → Free us → us ≡ []
nothing_left k us e p.end f = refl
nothing_left k us e (p.joined {o = o} x) f = absurd (f.no_operator o refl)
nothing_left k us e (p.implied x) f = absurd (f.no_implies refl)
nothing_left k us e (p.closed x) f = absurd (omega arith)

pub in_grammar : (ts : List Token) → Passes true 0 ts → InGrammar ts
in_grammar ts x =
    let a = all_of (length ts) g.implication 0 ts (omega arith) x in
    let e = nothing_left 0 a.rest refl a.goes_on a.stops in
    let f : a.s ≡ ts = sym (append-nil a.s) ∙ ap (λ (us : List Token). a.s ++ us) (sym e) ∙ a.whole in
    record { postfix = a.q; part = subst (λ (us : List Token). Part g.implication deepest us a.q) f a.part }
