-- The readers' way through the tokens takes each part of the grammar, and takes nothing else in its place: so some tokens have one postfix list.
-- A part of a chain is taken with the tail of the chain behind it, so that the recursion is on the part alone.
use mathlib.Core.Path.{◌≡◌, refl, sym, ap, subst, ◌∙◌}
use mathlib.Core.List.{List, [], ◌∷◌, ◌++◌, append_assoc, append-nil}
use Prim.Native.Nat.{ℕ, suc}
use native.Mathlib.Omega.{arith}
use Rattle.grammar.specs.Token.{Operator, and, or, Token, operator, implies, opening, closing, byte, not_byte}
use Rattle.grammar.specs.Grammar as g
use Rattle.grammar.specs.Grammar.{Part, Level, tighter}
use Rattle.grammar.specs.Readings as r
use Rattle.grammar.specs.Readings.{Reads, inner}
use Rattle.grammar.specs.Next.{first}

-- Behind a whole implication comes no operator.
pub record Free (us : List Token) : Type 0 where
  pub no_operator : (o : Operator) → first us ≡ byte o → ⊥
  pub no_implies : first us ≡ 0x83 → ⊥

-- Where the first token's number is none of an operator's.
pub free : (us : List Token) (n : ℕ) → first us ≡ n → (n ≡ 0x81 → ⊥) → (n ≡ 0x82 → ⊥) → (n ≡ 0x83 → ⊥) → Free us
free us n e f g h = record { no_operator = no; no_implies = λ i. h (sym e ∙ i) }
  where
    no : (o : Operator) → first us ≡ byte o → ⊥
    no and i = f (sym e ∙ i)
    no or i = g (sym e ∙ i)

-- Behind a part that the operator joins no operator comes that binds tighter.
abbrev pub Clear : Operator → List Token → Type 0
Clear and us = Unit {0}
Clear or us = first us ≡ byte and → ⊥

clear_operator : (o : Operator) (us : List Token) → Clear o (operator o ∷ us)
clear_operator and us = tt
clear_operator or us = λ e. absurd (omega arith)

-- What is read of a part of each level, before whatever follows it.
abbrev Taken : Level → ℕ → List Token → List ℕ → Type 0
Taken g.implication d s p = (us : List Token) → Free us → Reads r.implication d (s ++ us) p us
Taken (g.chain o) d s p = (us rest : List Token) (q : List ℕ) → Clear o us → Reads (r.tail o) d us q rest → Reads (r.chain o) d (s ++ us) (p ++ q) rest
Taken g.negation d s p = (us : List Token) → Reads r.negation d (s ++ us) p us
Taken g.operand d s p = (us : List Token) → Reads r.operand d (s ++ us) p us

taken_bracket : {d : ℕ} {p : List ℕ} (s us : List Token) → Reads r.implication d (s ++ (closing ∷ us)) p (closing ∷ us)
    → Reads r.operand (suc d) (opening ∷ ((s ++ (closing ∷ [])) ++ us)) p us
taken_bracket {d} {p} s us x = r.bracket (subst (λ (ts : List Token). Reads r.implication d ts p (closing ∷ us)) (sym (append_assoc s (closing ∷ []) us)) x)

-- what an operator joins is taken whole
taken_inner : {d : ℕ} (o : Operator) (s us : List Token) (p : List ℕ) → Taken (tighter o) d s p → Clear o us → Reads (inner o) d (s ++ us) p us
taken_inner and s us p x n = x us
taken_inner or s us p x n = rw (append-nil p) at (x us us [] tt (r.no_more n))

taken_joined : {d : ℕ} (o : Operator) (s t us rest : List Token) (p q w : List ℕ) → Reads (r.chain o) d (s ++ (operator o ∷ (t ++ us))) (p ++ ((q ++ (byte o ∷ [])) ++ w)) rest
    → Reads (r.chain o) d ((s ++ (operator o ∷ t)) ++ us) ((p ++ (q ++ (byte o ∷ []))) ++ w) rest
taken_joined o s t us rest p q w x = rw (append_assoc s (operator o ∷ t) us, append_assoc p (q ++ (byte o ∷ [])) w) x

taken_implies : {d : ℕ} (s t us : List Token) (p q : List ℕ) → Reads (r.chain or) d (s ++ (implies ∷ (t ++ us))) (p ++ []) (implies ∷ (t ++ us))
    → Reads r.implication d (t ++ us) q us → Reads r.implication d ((s ++ (implies ∷ t)) ++ us) ((p ++ (not_byte ∷ [])) ++ (q ++ (byte or ∷ []))) us
taken_implies s t us p q x y =
    rw (append_assoc s (implies ∷ t) us, append_assoc p (not_byte ∷ []) (q ++ (byte or ∷ []))) (r.then (rw (append-nil p) at x) (r.implied y))

taken_none : {d : ℕ} (s us : List Token) (p : List ℕ) → (first us ≡ 0x83 → ⊥) → Reads (r.chain or) d (s ++ us) (p ++ []) us → Reads r.implication d (s ++ us) p us
taken_none s us p h x = rw (append-nil (p ++ []), append-nil p) at (r.then x (r.not_implied h))

pub taken : {l : Level} {d : ℕ} {s : List Token} {p : List ℕ} → Part l d s p → Taken l d s p
taken (g.action h) = λ us. r.action h
taken (g.bracket {s = s} x) = λ us. taken_bracket s us (taken x (closing ∷ us) (free (closing ∷ us) 0x85 refl (λ e. omega arith) (λ e. omega arith) (λ e. omega arith)))
taken (g.negated x) = λ us. r.negated (taken x us)
taken (g.plain x) = λ us. r.plain (taken x us)
taken (g.joined {o = o} {s = s} {t = t} {p = p} {q = q} x y) =
    λ us rest w n z.
    taken_joined o s t us rest p q w
    (taken x (operator o ∷ (t ++ us)) rest ((q ++ (byte o ∷ [])) ++ w) (clear_operator o (t ++ us)) (r.more (taken_inner o t us q (taken y) n) z))
taken (g.single {o = o} {s = s} {p = p} x) = λ us rest w n z. r.chained (taken_inner o s us p (taken x) n) z
taken (g.if_then {s = s} {t = t} {p = p} {q = q} x y) =
    λ us f.
    taken_implies s t us p q
    (taken x (implies ∷ (t ++ us)) (implies ∷ (t ++ us)) [] (λ e. absurd (omega arith)) (r.no_more (λ e. absurd (omega arith))))
    (taken y us f)
taken (g.no_implies {s = s} {p = p} x) = λ us f. taken_none s us p f.no_implies (taken x us us [] (f.no_operator and) (r.no_more (f.no_operator or)))

-- What stands first where an operand is read.
operand_first : {d : ℕ} {ts rest : List Token} {p : List ℕ} → Reads r.operand d ts p rest → first ts ≡ not_byte → ⊥
operand_first (r.action h) e = omega arith
operand_first (r.bracket x) e = omega arith

-- Two readings of the same tokens are one.
record Same (p q : List ℕ) (us vs : List Token) : Type 0 where
  postfix : p ≡ q
  rest : us ≡ vs

followed : {d : ℕ} {l : r.Reader} {p q w n : List ℕ} {us vs ws xs : List Token} → (f : List ℕ → List ℕ) → Same p q us vs
    → (Reads l d us n xs → Same w n ws xs) → Reads l d vs n xs → Same (f p ++ w) (f q ++ n) ws xs
followed f e same y =
    let k = same (rw e.rest y) in
    record { postfix = rw (e.postfix, k.postfix); rest = k.rest }

same_bracket : {p q : List ℕ} {us vs : List Token} → Same p q (closing ∷ us) (closing ∷ vs) → Same p q us vs
same_bracket e = let k = e.rest in record { postfix = e.postfix; rest = cc }

-- The two lists of tokens apart, and an equation between them.
same_at : {l : r.Reader} {d : ℕ} {ts ss us vs : List Token} {p q : List ℕ} → ts ≡ ss → Reads l d ts p us → Reads l d ss q vs → Same p q us vs
same_at e (r.action h) (r.action k) = record { postfix = cc; rest = cc }
same_at e (r.action h) (r.bracket y) = absurd (cc)
same_at e (r.bracket x) (r.action k) = absurd (cc)
same_at e (r.bracket {ts = ts} x) (r.bracket {ts = ss} y) = same_bracket (same_at (let t : ts ≡ ss = cc in t) x y)
same_at e (r.negated {ts = ts} x) (r.negated {ts = ss} y) =
    let t : ts ≡ ss = cc in let k = same_at t x y in record { postfix = rw k.postfix; rest = k.rest }
same_at e (r.negated x) (r.plain y) = absurd (operand_first y (ap first (sym e)))
same_at e (r.plain x) (r.negated y) = absurd (operand_first x (ap first e))
same_at e (r.plain x) (r.plain y) = same_at e x y
same_at e (r.chained x xs) (r.chained y ys) = followed (λ p. p) (same_at e x y) (λ z. same_at refl xs z) ys
same_at e (r.more {o = o} {ts = ts} x xs) (r.more {ts = ss} y ys) =
    followed (λ p. p ++ (byte o ∷ [])) (same_at (let t : ts ≡ ss = cc in t) x y) (λ z. same_at refl xs z) ys
same_at e (r.more x xs) (r.no_more h) = absurd (h (ap first (sym e)))
same_at e (r.no_more h) (r.more y ys) = absurd (h (ap first e))
same_at e (r.no_more h) (r.no_more k) = record { postfix = refl; rest = e }
same_at e (r.then x xs) (r.then y ys) = followed (λ p. p) (same_at e x y) (λ z. same_at refl xs z) ys
same_at e (r.implied {ts = ts} x) (r.implied {ts = ss} y) =
    let t : ts ≡ ss = cc in let k = same_at t x y in record { postfix = rw k.postfix; rest = k.rest }
same_at e (r.implied x) (r.not_implied h) = absurd (h (ap first (sym e)))
same_at e (r.not_implied h) (r.implied y) = absurd (h (ap first e))
same_at e (r.not_implied h) (r.not_implied k) = record { postfix = refl; rest = e }

same : {l : r.Reader} {d : ℕ} {ts us vs : List Token} {p q : List ℕ} → Reads l d ts p us → Reads l d ts q vs → Same p q us vs
same x y = same_at refl x y

-- A whole rule, with nothing behind it.
pub whole : {d : ℕ} {ts : List Token} {p : List ℕ} → Part g.implication d ts p → Reads r.implication d ts p []
whole {ts = ts} x = rw (append-nil ts) at (taken x [] (free [] 0xFF refl (λ e. omega arith) (λ e. omega arith) (λ e. omega arith)))

pub one_postfix : {d : ℕ} {ts : List Token} {p q : List ℕ} → Part g.implication d ts p → Part g.implication d ts q → p ≡ q
one_postfix x y = (same (whole x) (whole y)).postfix
