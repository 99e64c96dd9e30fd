-- The test of a rule holds exactly where the bytes are one part in postfix order. From parts: a part adds one value to those before it.
-- To parts: the values at any place are as many parts, one after the other.
use mathlib.Core.Path.{◌≡◌, refl, sym, ap, subst, ◌∙◌}
use mathlib.Core.Bool.{true, false}
use mathlib.Core.List.{List, [], ◌∷◌, ◌++◌, append_assoc, append-nil}
use mathlib.Core.Logic.{◌↔◌, ◌⊎◌, inl, inr}
use Prim.Native.Nat.{ℕ, zero, suc, ◌+◌, ◌-◌, ◌≤◌, ◌<◌}
use native.Mathlib.Omega.{arith}
use lib.Dec.{ltb, eqb}
use borrow.Author.Tests.{ltb-true, lt-ltb, le-ltb, leb-true, le-leb, eqb-true}
use Rattle.blocks.proofs.Bounded.{decide, both_true}
use Rattle.bodies.specs.Rule.{Rule, action, not, and, or, operands, rule_from, rule_ok}

module _ (actions : ℕ) (few : actions ≤ 128) where
  -- a byte that takes k of d values, and leaves one
  step : (k d m t : ℕ) (rest : List ℕ) → operands actions t ≡ k → k ≤ 2 → k ≤ d → d + 1 - k ≡ m → rule_from actions d (t ∷ rest) ≡ rule_from actions m rest
  unfolding rule_from
  step k d m t rest e two most same = rw (e, le-leb k 2 two, le-leb k d most, same)

  takes_not : operands actions 128 ≡ 1
  takes_not = simp (le-ltb 128 actions few)

  takes_and : operands actions 129 ≡ 2
  takes_and = simp (le-ltb 129 actions (omega arith))

  takes_or : operands actions 130 ≡ 2
  takes_or = simp (le-ltb 130 actions (omega arith))

  -- a part adds one value
  Adds : List ℕ → Type 0
  Adds p = (d : ℕ) (rest : List ℕ) → rule_from actions d (p ++ rest) ≡ rule_from actions (d + 1) rest

  adds_both : (t : ℕ) (p q : List ℕ) → operands actions t ≡ 2 → Adds p → Adds q → Adds (p ++ (q ++ (t ∷ [])))
  unfolding Adds
  adds_both t p q e r s d rest =
      rw (append_assoc p (q ++ (t ∷ [])) rest, append_assoc q (t ∷ []) rest)
      (r d (q ++ (t ∷ rest)) ∙ s (d + 1) (t ∷ rest) ∙ step 2 (d + 1 + 1) (d + 1) t rest e (omega arith) (omega arith) (omega arith))

  adds : {p : List ℕ} → Rule actions p → Adds p
  unfolding Adds
  adds (action {a} h) d rest = step 0 d (d + 1) a rest (simp (lt-ltb a actions h)) (omega arith) (omega arith) (omega arith)
  adds (not {p} r) d rest =
      rw (append_assoc p (128 ∷ []) rest)
      (adds r d (128 ∷ rest) ∙ step 1 (d + 1) (d + 1) 128 rest takes_not (omega arith) (omega arith) (omega arith))
  adds (and {p} {q} r s) d rest = adds_both 129 p q takes_and (λ d rest. adds r d rest) (λ d rest. adds s d rest) d rest
  adds (or {p} {q} r s) d rest = adds_both 130 p q takes_or (λ d rest. adds r d rest) (λ d rest. adds s d rest) d rest

  -- d parts, one after the other
  data Values : ℕ → List ℕ → Type 0 where
    none : Values zero []
    more : {d : ℕ} {p q : List ℕ} → Values d p → Rule actions q → Values (suc d) (p ++ q)

  -- the last of them
  record Last (d : ℕ) (p : List ℕ) : Type 0 where
    pub before : List ℕ
    pub part : List ℕ
    pub rest : Values d before
    pub rule : Rule actions part
    pub whole : before ++ part ≡ p

  last : {d : ℕ} {p : List ℕ} → Values (suc d) p → Last d p
  last (more v r) = record { before = _; part = _; rest = v; rule = r; whole = refl }

  -- a byte that takes the last values gives such a row again
  takes_none : {d t : ℕ} {p : List ℕ} → t < actions → Values d p → Values (suc d) (p ++ (t ∷ []))
  takes_none h v = more v (action h)

  takes_one : {d : ℕ} {p : List ℕ} → Values (suc d) p → Values (suc d) (p ++ (128 ∷ []))
  takes_one {d} v =
      let l = last v in
      subst (λ (x : List ℕ). Values (suc d) (x ++ (128 ∷ []))) l.whole (rw append_assoc (more l.rest (not l.rule)))

  takes_two : {d t : ℕ} {p : List ℕ} → ((q r : List ℕ) → Rule actions q → Rule actions r → Rule actions (q ++ (r ++ (t ∷ []))))
      → Values (suc (suc d)) p → Values (suc d) (p ++ (t ∷ []))
  takes_two {d} {t} join v =
      let l = last v in
      let k = last l.rest in
      subst (λ (x : List ℕ). Values (suc d) (x ++ (t ∷ []))) l.whole
      (subst (λ (x : List ℕ). Values (suc d) ((x ++ l.part) ++ (t ∷ []))) k.whole
      (simp append_assoc (more k.rest (join k.part l.part k.rule l.rule))))

  grows : (d t : ℕ) (p : List ℕ) → operands actions t ≤ 2 → operands actions t ≤ d → Values d p → Values (d + 1 - operands actions t) (p ++ (t ∷ []))
  grows d t p two most v = go (decide (ltb t actions)) (decide (eqb t 128)) (decide (eqb t 129)) (decide (eqb t 130))
    where
      -- by the number of values that it takes
      taking : (k m : ℕ) → operands actions t ≡ k → m ≡ d + 1 - k → Values m (p ++ (t ∷ [])) → Values (d + 1 - operands actions t) (p ++ (t ∷ []))
      taking k m e q w = rw (e, ← q) w

      at_least : (k m : ℕ) → operands actions t ≡ k → d ≡ m → Values m p
      at_least k m e q = rw (← q) v

      go : (ltb t actions ≡ true) ⊎ (ltb t actions ≡ false) → (eqb t 128 ≡ true) ⊎ (eqb t 128 ≡ false) → (eqb t 129 ≡ true) ⊎ (eqb t 129 ≡ false) → (eqb t 130 ≡ true) ⊎ (eqb t 130 ≡ false)
          → Values (d + 1 - operands actions t) (p ++ (t ∷ []))
      go (inl a) n x y = taking 0 (suc d) (simp a) (omega arith) (takes_none (ltb-true _ _ a) v)
      go (inr a) (inl n) x y =
          let e : operands actions t ≡ 1 = simp (a, n) in
          taking 1 (suc (d - 1)) e (omega arith) (rw (eqb-true t 128 n) (takes_one (at_least 1 (suc (d - 1)) e (omega arith))))
      go (inr a) (inr n) (inl x) y =
          let e : operands actions t ≡ 2 = simp (a, n, x) in
          taking 2 (suc (d - 2)) e (omega arith) (rw (eqb-true t 129 x) (takes_two (λ q r f g. and f g) (at_least 2 (suc (suc (d - 2))) e (omega arith))))
      go (inr a) (inr n) (inr x) (inl y) =
          let e : operands actions t ≡ 2 = simp (a, n, x, y) in
          taking 2 (suc (d - 2)) e (omega arith) (rw (eqb-true t 130 y) (takes_two (λ q r f g. or f g) (at_least 2 (suc (suc (d - 2))) e (omega arith))))
      go (inr a) (inr n) (inr x) (inr y) =
          let e : operands actions t ≡ 3 = simp (a, n, x, y) in
          absurd (omega arith)

  rows : (d : ℕ) (p rest : List ℕ) → Values d p → rule_from actions d rest ≡ true → Values 1 (p ++ rest)
  unfolding rule_from
  rows d p [] v h = let e = eqb-true d 1 h in rw (append-nil p, ← e) v
  rows d p (t ∷ ts) v h =
      let (two, h1) = both_true _ _ h in
      let (most, h2) = both_true _ _ h1 in
      rw (append_assoc p (t ∷ []) ts) at (rows (d + 1 - operands actions t) (p ++ (t ∷ [])) ts (grows d t p (leb-true _ _ two) (leb-true _ _ most) v) h2)

  one : {p : List ℕ} → Values 1 p → Rule actions p
  one v = let l = last v in subst (Rule actions) (ap (λ (x : List ℕ). x ++ l.part) (sym (empty l.rest)) ∙ l.whole) l.rule
    where
      empty : {q : List ℕ} → Values zero q → q ≡ []
      empty none = refl

  pub rule_say : (b : List ℕ) → (rule_ok actions b ≡ true) ↔ Rule actions b
  unfolding rule_from Adds
  rule_say b = (λ h. one (rows 0 [] b none h), λ r. rw (append-nil b) at (adds r 0 []) ∙ ends)
    where
      ends : rule_from actions 1 [] ≡ true
      ends = refl
