-- The search for an action's window: the first that names the action, or the whole week.
use Rattle.std.proofs.Common.{◌≡◌, ap, ◌∙◌, refl, Bool, false, true, List, ℕ, zero, suc, ◌+◌, ◌<◌, eqb, Option, Some, None, MatchOption, arith}
use Rattle.hours.specs.Windows.{window_count, action, window_at}
use Rattle.hours.specs.Hours.{whole_week, window_from, window_of}

module _ (w : List ℕ) (a : ℕ) where
  abbrev pub names : ℕ → Bool
  names i = eqb (action w i) a

  from_first : (n k i : ℕ) → i < n → names (k + i) ≡ true → ((j : ℕ) → j < i → names (k + j) ≡ false) → window_from n k w a ≡ window_at w (k + i)
  unfolding window_from
  from_first zero k i l here before = absurd (omega arith)
  from_first (suc n) k zero l here before = let e : k + 0 ≡ k = omega arith in rw (e, rw e at here)
  from_first (suc n) k (suc i) l here before =
      let past : names k ≡ false = ap names (omega arith) ∙ before 0 (omega arith) in
      let e : k + 1 + i ≡ k + suc i = omega arith in
      rw past (rw e at (from_first n (k + 1) i (omega arith) (ap names e ∙ here) (λ j m. ap names (omega arith) ∙ before (suc j) (omega arith))))

  from_none : (n k : ℕ) → ((j : ℕ) → j < n → names (k + j) ≡ false) → window_from n k w a ≡ whole_week
  unfolding window_from
  from_none zero k none = refl
  from_none (suc n) k none =
      let past : names k ≡ false = ap names (omega arith) ∙ none 0 (omega arith) in
      rw past (from_none n (k + 1) (λ j m. ap names (omega arith) ∙ none (suc j) (omega arith)))

  -- what a search of the numbers finds
  pub found : (r : Option ℕ) → MatchOption r ((k : ℕ) → k < window_count w → names k ≡ false) (λ i. (i < window_count w) × (names i ≡ true) × ((k : ℕ) → k < i → names k ≡ false))
      → MatchOption r (window_of w a ≡ whole_week) (λ i. (i < window_count w) × (window_of w a ≡ window_at w i))
  found None h = from_none (window_count w) 0 (λ j l. ap names (omega arith) ∙ h j l)
  found (Some i) h =
      let e : 0 + i ≡ i = omega arith in
      (h.0, from_first (window_count w) 0 i h.0 (ap names e ∙ h.1) (λ j l. ap names (omega arith) ∙ h.2 j l) ∙ ap (window_at w) e)
