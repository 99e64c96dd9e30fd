-- The pass over the text: what has come and what is to come make a text that passes.
use mathlib.Core.Path.{◌≡◌, refl, sym, ap, subst, ◌∙◌}
use mathlib.Core.Bool.{Bool, true, false, cond, true≢false}
use mathlib.Core.List.{List, [], ◌∷◌}
use mathlib.Core.Logic.{◌⊎◌, inl, inr}
use Prim.Native.Nat.{ℕ, suc, ◌+◌, ◌-◌, ◌≤◌, ◌<◌}
use native.Mathlib.Numerals.{add-one}
use native.Mathlib.Omega.{arith}
use lib.Dec.{ltb}
use lib.ListN.{length, drop}
use borrow.Author.Tests.{lt-ltb, ltb-true, ltb-false}
use Rattle.std.proofs.Common.{Option, Some, None}
use Rattle.std.proofs.lemmas.Option.{none-some, same_Some, cond_some}
use Rattle.blocks.proofs.Bounded.{decide}
use Rattle.grammar.specs.Token.{Token, letter, not, operator, and, or, implies, opening, closing}
use Rattle.grammar.specs.Spelling.{Spells}
use Rattle.grammar.specs.Next.{number, first, others, token_number, size, blanks, clear}
use Rattle.grammar.specs.Typed.{Typed, deepest}
use Rattle.grammar.specs.Passes as p
use Rattle.grammar.specs.Passes.{Passes, weight, weights}
use Rattle.grammar.proofs.Lexing.{Valid, small, one_text}
use Rattle.grammar.proofs.Views as views
use Rattle.grammar.proofs.Views.{View, view, begins, ends}
use Rattle.grammar.proofs.Passing.{whole_passes, weighs}
use Rattle.grammar.proofs.Parsing.{in_grammar}
use Rattle.grammar.proofs.Decided.{never_wrong}
use Rattle.tokens.specs.Tokens as tokens
use Rattle.tokens.specs.Tokens.{next_of, size_of, token_of}
use Rattle.tokens.specs.declared.Next.{Next}
use Rattle.tokens.specs.declared.Token as token
use Rattle.tokens.specs.declared.Token.TheVariants.{Letter, Not, And, Or, Implies, Opening, Closing, Wrong, End}
use Rattle.tokens.proofs.Tokens.{seen, size_of_token, next_number, next_place, next_near, shorter}
use Rattle.tokens.proofs.Scan.{letter_of}
use Rattle.recognizer.specs.Pass.{passing, stepped, ended}
use Rattle.recognizer.specs.Count.{count_of}
use Rattle.recognizer.specs.declared.Pass.{Pass}
use Rattle.recognizer.proofs.Counts.{none_counted, so_many_counted}

-- The token that stands next.
record TokenAt (text : List ℕ) (at : ℕ) : Type 0 where
  t : Token
  valid : Valid t
  is : token_number (clear (drop at text)) ≡ number t

token_at : (text : List ℕ) (at : ℕ) → 1 ≤ size_of (next_of text at).kind → TokenAt text at
token_at text at h = go (clear (drop at text)) (token_number (clear (drop at text))) refl (rw size_of_token at h) (view (clear (drop at text)))
  where
    go : (b : List ℕ) (n : ℕ) → token_number (clear (drop at text)) ≡ n → 1 ≤ size n → View b n → TokenAt text at
    go b n e l views.none = absurd (omega arith)
    go b n e l views.wrong = absurd (omega arith)
    go b n e l (views.token t v front) = record { t = t; valid = v; is = e }

-- A step where the token may come.
record Forth (t : Token) (due : Bool) (k n : ℕ) (q : Pass) : Type 0 where
  passes_on : (ts : List Token) → Passes q.due q.depth ts → Passes due k (t ∷ ts)
  counts : q.count ≡ n + weight t

module _ {t : Token} {due : Bool} {k n : ℕ} where
  came : {r : Pass} (q : Pass) → Some q ≡ Some r → Forth t due k n q → Forth t due k n r
  came {r} q e f = subst (λ (p : Pass). Forth t due k n p) (same_Some q r e) f

  came_where : {r : Pass} (b : Bool) (q : Pass) → cond b (Some q) None ≡ Some r → (b ≡ true → Forth t due k n q) → Forth t due k n r
  came_where {r} b q e f = let s = cond_some b q r e in subst (λ (p : Pass). Forth t due k n p) s.1 (f s.0)

forth_opening : (k n : ℕ) → ltb k deepest ≡ true → Forth opening true k n (passing true (k + 1) (n + 0))
forth_opening k n h = record { passes_on = λ ts x. p.opened (ltb-true k deepest h) (rw (add-one k) at x); counts = omega arith }

forth_closing : (k n : ℕ) → ltb 0 k ≡ true → Forth closing false k n (passing false (k - 1) (n + 0))
forth_closing k n h = record { passes_on = λ ts x. one_less ts (ltb-true 0 k h) x; counts = omega arith }
  where
    one_less : (ts : List Token) → 0 < k → Passes false (k - 1) ts → Passes false k (closing ∷ ts)
    one_less ts h x = let f : suc (k - 1) ≡ k = omega arith in subst (λ (j : ℕ). Passes false j (closing ∷ ts)) f (p.closed x)

forth : {r : Pass} (t : Token) (due : Bool) (k n : ℕ) → Valid t → stepped (passing due k n) (token_of (number t)) ≡ Some r → Forth t due k n r
forth (letter a) true k n v e = came (passing false k (n + 1)) (rw letter_of at e) (record { passes_on = λ ts x. p.action v x; counts = refl })
forth (letter a) false k n v e = absurd (none-some _ (rw (letter_of a v) at e))
forth not true k n v e = came (passing true k (n + 1)) e (record { passes_on = λ ts x. p.negated x; counts = refl })
forth not false k n v e = absurd (none-some _ e)
forth (operator and) true k n v e = absurd (none-some _ e)
forth (operator and) false k n v e = came (passing true k (n + 1)) e (record { passes_on = λ ts x. p.joined x; counts = refl })
forth (operator or) true k n v e = absurd (none-some _ e)
forth (operator or) false k n v e = came (passing true k (n + 1)) e (record { passes_on = λ ts x. p.joined x; counts = refl })
forth implies true k n v e = absurd (none-some _ e)
forth implies false k n v e = came (passing true k (n + 2)) e (record { passes_on = λ ts x. p.implied x; counts = refl })
forth opening true k n v e = came_where (ltb k deepest) (passing true (k + 1) (n + 0)) e (forth_opening k n)
forth opening false k n v e = absurd (none-some _ e)
forth closing true k n v e = absurd (none-some _ e)
forth closing false k n v e = came_where (ltb 0 k) (passing false (k - 1) (n + 0)) e (forth_closing k n)

-- A token that comes in a text that passes.
record Back (o : Option Pass) (ts : List Token) : Type 0 where
  q : Pass
  comes : o ≡ Some q
  passes_on : Passes q.due q.depth ts

back : {due : Bool} {k : ℕ} {us : List Token} (n : ℕ) → Passes due k us → (t : Token) (ts : List Token) → us ≡ t ∷ ts → Back (stepped (passing due k n) (token_of (first us))) (others us)
back n p.end t ts e = absurd (let z : ◌≡◌ {A = ℕ} 0 1 = cc in omega arith)
back n (p.action {a = a} h x) t ts e = rw (letter_of a h) (record { q = _; comes = refl; passes_on = x })
back n (p.negated x) t ts e = record { q = _; comes = refl; passes_on = x }
back n (p.opened {k = k} {ts = us} h x) t ts e = rw (lt-ltb k 16 h, add-one k) (record { q = _; comes = refl; passes_on = x })
back n (p.joined {o = and} x) t ts e = record { q = _; comes = refl; passes_on = x }
back n (p.joined {o = or} x) t ts e = record { q = _; comes = refl; passes_on = x }
back n (p.implied x) t ts e = record { q = _; comes = refl; passes_on = x }
back n (p.closed {k = k} x) t ts e = let f : suc k - 1 ≡ k = omega arith in rw (lt-ltb 0 (suc k) (omega arith), f) (record { q = _; comes = refl; passes_on = x })

-- The whole text, from what is to come of it and back.
pub record Whole (text : List ℕ) (n : ℕ) : Type 0 where
  pub us : List Token
  pub written : Spells text us
  pub passes_whole : Passes true 0 us
  pub weight_of : weights us ≡ n

pub record Onward (text : List ℕ) (at : ℕ) (due : Bool) (k : ℕ) : Type 0 where
  pub ts : List Token
  pub left : Spells (drop at text) ts
  pub passes_on : Passes due k ts

-- The invariant of the pass.
pub record Passing (text : List ℕ) (q : Pass) (at : ℕ) : Type 0 where
  pub most : q.count ≤ at
  pub within : at ≤ length text + 7
  pub forward : (ts : List Token) → Spells (drop at text) ts → Passes q.due q.depth ts → Whole text (q.count + weights ts)
  pub backward : (us : List Token) → Spells text us → Passes true 0 us → Onward text at q.due q.depth

pub start : (text : List ℕ) → Passing text (passing true 0 0) 0
start text = record {
  most = omega arith;
  within = omega arith;
  forward = λ ts x y. record { us = ts; written = x; passes_whole = y; weight_of = omega arith };
  backward = λ us x y. record { ts = us; left = x; passes_on = y };
}

ends_with : {due : Bool} {k : ℕ} {ts : List Token} → Passes due k ts → ts ≡ [] → (due ≡ false) × (k ≡ 0)
ends_with p.end e = (refl, refl)
ends_with (p.action h x) e = absurd (let z : ◌≡◌ {A = ℕ} 0 1 = cc in omega arith)
ends_with (p.negated x) e = absurd (let z : ◌≡◌ {A = ℕ} 0 1 = cc in omega arith)
ends_with (p.opened h x) e = absurd (let z : ◌≡◌ {A = ℕ} 0 1 = cc in omega arith)
ends_with (p.joined x) e = absurd (let z : ◌≡◌ {A = ℕ} 0 1 = cc in omega arith)
ends_with (p.implied x) e = absurd (let z : ◌≡◌ {A = ℕ} 0 1 = cc in omega arith)
ends_with (p.closed x) e = absurd (let z : ◌≡◌ {A = ℕ} 0 1 = cc in omega arith)

module _ (text : List ℕ) (at : ℕ) where
  -- what passes is not at its end where a token is next
  onward : (q : Pass) (ts : List Token) → 1 ≤ size_of (next_of text at).kind → Spells (drop at text) ts → Passes q.due q.depth ts
      → Back (stepped q (next_of text at).kind) (others ts)
  onward q [] h x y = absurd (let k = ap size_of (seen text at x).this in omega arith)
  onward q (u ∷ ts) h x y = rw (seen text at x).this (back q.count y u ts refl)

  grows : (t : Token) → Valid t → token_number (clear (drop at text)) ≡ number t → at + weight t ≤ (next_of text at).at
  grows t v e = rw e (sum at (blanks (drop at text)) (size (number t)) (weight t) (least t v))
    where
      sum : (a b c d : ℕ) → d ≤ c → a + d ≤ a + b + c
      sum a b c d h = omega arith

      least : (t : Token) → Valid t → weight t ≤ size (number t)
      least (letter a) v = rw (small a v) (omega arith)
      least not v = omega arith
      least (operator and) v = omega arith
      least (operator or) v = omega arith
      least implies v = omega arith
      least opening v = omega arith
      least closing v = omega arith

  module _ {q : Pass} (i : Passing text q at) where
    step : {r : Pass} → 1 ≤ size_of (next_of text at).kind → stepped q (next_of text at).kind ≡ Some r → Passing text r (next_of text at).at
    unfolding weights
    step {r} h e =
        let a = token_at text at h in
        let f = forth a.t q.due q.depth q.count a.valid (rw a.is at e) in
        let c = f.counts in
        let m = i.most in
        let g = grows a.t a.valid a.is in
        record {
          most = omega arith;
          within = next_near text at h;
          forward = λ ts x y. subst (λ (n : ℕ). Whole text n) (sum q.count (weight a.t) (weights ts) r.count c)
              (i.forward (a.t ∷ ts) (begins (drop at text) a.t ts a.valid a.is (rw (next_place text at (number a.t) a.is) x)) (f.passes_on ts y));
          backward = λ us x y.
              let b = i.backward us x y in
              let o = onward q b.ts h b.left b.passes_on in
              record {
                ts = others b.ts;
                left = (seen text at b.left).next;
                passes_on = subst (λ (p : Pass). Passes p.due p.depth (others b.ts)) (same_Some o.q r (sym o.comes ∙ e)) o.passes_on;
              };
        }
      where
        sum : (a b c d : ℕ) → d ≡ a + b → a + (b + c) ≡ d + c
        sum a b c d e = omega arith

    -- a token that may not come
    lost : 1 ≤ size_of (next_of text at).kind → stepped q (next_of text at).kind ≡ None → None ≡ count_of text
    lost h e =
        none_counted text
        (λ o z.
        let b = i.backward z.tokens z.spelled (whole_passes z.part) in
        let w = onward q b.ts h b.left b.passes_on in
        none-some w.q (sym e ∙ w.comes))

    -- behind a token there is less of the text
    less : 1 ≤ size_of (next_of text at).kind → length text - (next_of text at).at < length text - at
    less h = shorter text at (next_of text at).at h (omega arith)

    -- where bytes are next that spell no token
    wrong : (next_of text at).kind ≡ Wrong → None ≡ count_of text
    wrong e =
        none_counted text
        (λ o z.
        let b = i.backward z.tokens z.spelled (whole_passes z.part) in
        never_wrong (drop at text) b.ts (sym (next_number text at) ∙ ap tokens.number e) b.left)

    -- where the text is at its end
    module _ (e : (next_of text at).kind ≡ End) where
      at_the_end : Spells (drop at text) []
      at_the_end = ends (drop at text) (sym (next_number text at) ∙ ap tokens.number e)

      ending : (o : List ℕ) → Typed text o → (q.due ≡ false) × (q.depth ≡ 0)
      ending o z =
          let b = i.backward z.tokens z.spelled (whole_passes z.part) in
          ends_with b.passes_on (one_text b.ts [] b.left at_the_end)

      becomes : (n : ℕ) → Whole text (n + weights []) → Some n ≡ count_of text
      unfolding weights
      becomes n w =
          let x = in_grammar w.us w.passes_whole in
          so_many_counted text x.postfix n (record { tokens = w.us; spelled = w.written; part = x.part })
          (let a = weighs x.part in let b = w.weight_of in omega arith)

      done : q.due ≡ false → q.depth ≡ 0 → Passes q.due q.depth []
      done a b = rw (a, b) p.end

      finish_end : ended q End ≡ count_of text
      finish_end = go (decide q.due) (decide (ltb 0 q.depth))
        where
          go : (q.due ≡ true) ⊎ (q.due ≡ false) → (ltb 0 q.depth ≡ true) ⊎ (ltb 0 q.depth ≡ false) → ended q End ≡ count_of text
          go (inl d) k = rw d (none_counted text (λ o z. true≢false (sym d ∙ (ending o z).0)))
          go (inr d) (inl k) = rw (d, k) (none_counted text (λ o z. let b = (ending o z).1 in let c = ltb-true 0 q.depth k in omega arith))
          go (inr d) (inr k) = let none = ltb-false 0 q.depth k in rw (d, k) (becomes q.count (i.forward [] at_the_end (done d (omega arith))))

    -- where no token is next
    finish : ((next_of text at).kind ≡ Wrong) ⊎ ((next_of text at).kind ≡ End) → ended q (next_of text at).kind ≡ count_of text
    finish (inl e) = rw e (wrong e)
    finish (inr e) = rw e (finish_end e)

-- a token that is none of those takes a byte or more
takes : (t : token.Token) → (t ≡ Wrong → ⊥) → (t ≡ End → ⊥) → 1 ≤ size_of t
takes (Letter a) w e = omega arith
takes Not w e = omega arith
takes And w e = omega arith
takes Or w e = omega arith
takes Implies w e = omega arith
takes Opening w e = omega arith
takes Closing w e = omega arith
takes Wrong w e = absurd (w refl)
takes End w e = absurd (e refl)

-- what the turns of the loop show
module _ {text : List ℕ} {q : Pass} {at : ℕ} {t : Next} (i : Passing text q at) (is : t ≡ next_of text at) where
  pub ends_here : (t.kind ≡ Wrong) ⊎ (t.kind ≡ End) → ended q t.kind ≡ count_of text
  ends_here e = rw is (finish text at i (rw is at e))

  module _ (wrong : t.kind ≡ Wrong → ⊥) (end : t.kind ≡ End → ⊥) where
    some : 1 ≤ size_of (next_of text at).kind
    some = rw is at (takes t.kind wrong end)

    pub stops_here : {o : Option Pass} → o ≡ stepped q t.kind → o ≡ None → None ≡ count_of text
    stops_here e f = lost text at i some (rw is at (sym e ∙ f))

    pub less_left : length text - t.at < length text - at
    less_left = rw is (less text at i some)

    pub goes_on : {o : Option Pass} {r : Pass} → o ≡ stepped q t.kind → o ≡ Some r → Passing text r t.at
    goes_on e f = rw is (step text at i some (rw is at (sym e ∙ f)))
