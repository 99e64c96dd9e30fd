-- What the readers do, step by step, is what the readings say. A step goes on from what is read so far: it moves behind the next token (`moving`),
-- writes a byte (`pushing`), or calls a reader (`taking`). A lemma for each rule of the readings, and named after it, puts the steps together;
-- the readings that the code's tests rule out begin with another token. Behind a token every reader's rank is lower, so the readers end.
use mathlib.Core.Path.{◌≡◌, sym, subst, ◌∙◌}
use mathlib.Core.List.{List, [], ◌∷◌, ◌++◌, append_assoc, append-nil}
use Prim.Native.Nat.{ℕ, suc, ◌+◌, ◌-◌, ◌*◌, ◌≤◌, ◌<◌}
use native.Mathlib.Omega.{arith}
use lib.ListN.{length, drop, length-append}
use Rattle.grammar.specs.Token.{Token, and, or, not_byte, byte}
use Rattle.grammar.specs.Spelling.{Spells}
use Rattle.grammar.specs.Next.{first, others}
use Rattle.grammar.specs.Readings as reads
use Rattle.grammar.specs.Readings.{Reader, Reads, implication, implies_tail, chain, tail, negation, operand}
use Rattle.tokens.specs.Tokens.{next_of, size_of, token_of}
use Rattle.tokens.specs.declared.Next.{Next}
use Rattle.tokens.specs.declared.Token.TheVariants.{Letter, Not, Implies, Opening}
use Rattle.tokens.proofs.Scan.{letter_of}
use Rattle.tokens.proofs.Tokens.{seen, next_forward, number_back, shorter}
use Rattle.formula.specs.Readers.{Moved, Pushed, After, Took}
use Rattle.formula.specs.declared.Reading.{Reading}

-- the next token from a place on
pub passes : (text : List ℕ) (at : ℕ) {t : Next} → t ≡ next_of text at → at ≤ t.at
passes text at e = rw e (next_forward text at)

pub shown : (text : List ℕ) (at : ℕ) {t : Next} {ts : List Token} → t ≡ next_of text at → Spells (drop at text) ts → t.kind ≡ token_of (first ts)
shown text at e x = rw e (seen text at x).this

pub kept : (text : List ℕ) {r s : Reading} {b : ℕ} {t : Next} → Pushed r b s → t ≡ next_of text r.at → t ≡ next_of text s.at
kept text pu e = rw pu.stays e

-- what is left of the text, and among readers at one place the tighter one
abbrev pub level : Reader → ℕ
level operand = 0
level negation = 1
level (chain and) = 2
level (chain or) = 3
level implication = 4
level (tail o) = 0
level implies_tail = 0

level_most : (l : Reader) → level l ≤ 4
level_most operand = omega arith
level_most negation = omega arith
level_most (chain and) = omega arith
level_most (chain or) = omega arith
level_most implication = omega arith
level_most (tail o) = omega arith
level_most implies_tail = omega arith

abbrev pub rank : Reader → List ℕ → Reading → ℕ
rank l text r = (length text - r.at) * 5 + level l

-- behind a token less is left, and each reader's rank is lower
pub less_left : (text : List ℕ) (s : Reading) {r m : Reading} {t : Next} → t ≡ next_of text r.at → 1 ≤ size_of t.kind → Moved r t.at m → m.at ≤ s.at
    → length text - s.at < length text - r.at
less_left text s {r} e some mv f = let h = rw e at mv.place in shorter text r.at s.at (rw e at some) (omega arith)

pub lower_rank : (k l : Reader) (text : List ℕ) (from : Reading) {n : ℕ} {r m : Reading} {t : Next} → rank l text from ≡ n → from.at ≤ r.at
    → t ≡ next_of text r.at → 1 ≤ size_of t.kind → Moved r t.at m → rank k text m < n
lower_rank k l text from {m = m} is f e some mv =
    let s = less_left text m e some mv (omega arith) in
    let h = level_most k in
    omega arith

-- steps from what is read so far
pub standing : (text : List ℕ) (from : Reading) {ts : List Token} → Spells (drop from.at text) ts → After text from from [] ts
standing text from x = record { left = x; holds = λ before h fits. rw (append-nil before) h }

module _ {text : List ℕ} {from r s : Reading} {p : List ℕ} {ts : List Token} (a : After text from r p ts) where
  pub moving : {t : Next} → t ≡ next_of text r.at → Moved r t.at s → After text from s p (others ts)
  moving e mv = record {
    left = rw (mv.place, e) (seen text r.at a.left).next;
    holds = λ before h fits. mv.holds (before ++ p) (a.holds before h fits);
  }

  joined : {q : List ℕ} {rest : List Token} → After text r s q rest → After text from s (p ++ q) rest
  joined {q} b = record {
    left = b.left;
    holds = λ before h fits.
        let e = length-append p q in
        let f = length-append before p in
        rw append_assoc at (b.holds (before ++ p) (a.holds before h (omega arith)) (omega arith));
  }

  pub pushing : {b : ℕ} → Pushed r b s → After text from s (p ++ (b ∷ [])) ts
  pushing pu = joined (record { left = rw pu.stays a.left; holds = λ before h fits. pu.holds before h (omega arith) })

  pub taking : {l : Reader} {d : ℕ} {q : List ℕ} {rest : List Token} → Took l text d r s → Reads l d ts q rest → After text from s (p ++ q) rest
  taking {q = q} {rest = rest} t y = joined (t.part ts rest q a.left y)

-- what a reader promises of each part
abbrev pub Parts : Reader → List ℕ → ℕ → Reading → Reading → Type 0
Parts l text d from r = (ts rest : List Token) (p : List ℕ) → Spells (drop from.at text) ts → Reads l d ts p rest → After text from r p rest

operand_first : {d : ℕ} {ts rest : List Token} {p : List ℕ} → Reads operand d ts p rest → token_of (first ts) ≡ Not → ⊥
operand_first (reads.action h) e = let s = sym (letter_of _ h) ∙ e in cc
operand_first (reads.bracket y) e = cc

module _ {text : List ℕ} {from : Reading} {t : Next} (e : t ≡ next_of text from.at) where
  -- a letter
  pub action : {a d : ℕ} {m r : Reading} → t.kind ≡ Letter a → Moved from t.at m → Pushed m a r → Took operand text d from r
  action {a} {d} {r = r} is mv pu = let f = passes text from.at e in record { forward = omega arith; part = parts d }
    where
      parts : (d : ℕ) → Parts operand text d from r
      parts d ts rest p x (reads.action {a = b} h) =
          let k : a ≡ b = let s = sym is ∙ shown text from.at e x ∙ letter_of b h in cc in
          subst (λ (b : ℕ). After text from r (b ∷ []) rest) k (pushing (moving (standing text from x) e mv) pu)
      parts d ts rest p x (reads.bracket y) = absurd (let s = sym is ∙ shown text from.at e x in cc)

  -- neither a letter nor a bracket that may be opened
  pub no_operand : {d : ℕ} → ((a : ℕ) → t.kind ≡ Letter a → ⊥) → (t.kind ≡ Opening → d ≡ 0) → Took operand text d from from
  no_operand {d} other closed = record { forward = omega arith; part = parts d closed }
    where
      parts : (d : ℕ) → (t.kind ≡ Opening → d ≡ 0) → Parts operand text d from from
      parts d closed ts rest p x (reads.action {a = a} h) = absurd (other a (shown text from.at e x ∙ letter_of a h))
      parts d closed ts rest p x (reads.bracket y) = absurd (let k = closed (shown text from.at e x) in omega arith)

  -- a rule in brackets
  pub bracket : {d : ℕ} {m i r : Reading} {u : Next} → t.kind ≡ Opening → Moved from t.at m → Took implication text (d - 1) m i
      → u ≡ next_of text i.at → Moved i u.at r → Took operand text d from r
  bracket {d} {m} {i} {r} is mv took f mw =
      let g = passes text from.at e in
      let h = passes text i.at f in
      record { forward = omega arith; part = parts d took }
    where
      parts : (d : ℕ) → Took implication text (d - 1) m i → Parts operand text d from r
      parts d took ts rest p x (reads.action {a = a} h) = absurd (let s = sym is ∙ shown text from.at e x ∙ letter_of a h in cc)
      parts d took ts rest p x (reads.bracket {d = c} y) =
          let k : suc c - 1 ≡ c = omega arith in
          moving (taking (moving (standing text from x) e mv) (rw k at took) y) f mw

  -- "not", or none
  pub negated : {d : ℕ} {m i r : Reading} → t.kind ≡ Not → Moved from t.at m → Took negation text d m i → Pushed i not_byte r
      → Took negation text d from r
  negated {d} {r = r} is mv took pu = let f = passes text from.at e in record { forward = omega arith; part = parts }
    where
      parts : Parts negation text d from r
      parts ts rest p x (reads.negated y) = pushing (taking (moving (standing text from x) e mv) took y) pu
      parts ts rest p x (reads.plain y) = absurd (operand_first y (sym (shown text from.at e x) ∙ is))

  pub plain : {d : ℕ} {r : Reading} → (t.kind ≡ Not → ⊥) → Took operand text d from r → Took negation text d from r
  plain {d} {r} other took = record { forward = took.forward; part = parts }
    where
      parts : Parts negation text d from r
      parts ts rest p x (reads.negated y) = absurd (other (shown text from.at e x))
      parts ts rest p x (reads.plain y) = took.part ts rest p x y

  -- "implies", or none
  pub implied : {d : ℕ} {n m i r : Reading} → t.kind ≡ Implies → Pushed from not_byte n → Moved n t.at m → Took implication text d m i
      → Pushed i (byte or) r → Took implies_tail text d from r
  implied {d} {r = r} is pn mv took pu = let f = passes text from.at e in record { forward = omega arith; part = parts }
    where
      parts : Parts implies_tail text d from r
      parts ts rest p x (reads.implied y) = pushing (taking (moving (pushing (standing text from x) pn) (kept text pn e) mv) took y) pu
      parts ts rest p x (reads.not_implied h) = absurd (h (number_back Implies _ (sym (shown text from.at e x) ∙ is) (λ z. cc)))

  pub not_implied : {d : ℕ} → (t.kind ≡ Implies → ⊥) → Took implies_tail text d from from
  not_implied {d} other = record { forward = omega arith; part = parts }
    where
      parts : Parts implies_tail text d from from
      parts ts rest p x (reads.implied y) = absurd (other (shown text from.at e x))
      parts ts rest p x (reads.not_implied h) = standing text from x

pub then : {text : List ℕ} {d : ℕ} {from m r : Reading} → Took (chain or) text d from m → Took implies_tail text d m r → Took implication text d from r
then {text} {d} {from} {r = r} one others = record { forward = omega arith; part = parts }
  where
    parts : Parts implication text d from r
    parts ts rest p x (reads.then y z) = taking (one.part ts _ _ x y) others z
