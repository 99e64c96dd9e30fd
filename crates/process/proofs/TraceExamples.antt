-- The worked examples of specs/Traces, from the rules of the traces alone: the report's Example 1, a skip, a throw, and N6's parallel.
use mathlib.Core.Path.{◌≡◌, refl, sym, ◌∙◌}
use mathlib.Core.List.{[], ◌∷◌, ◌++◌}
use Prim.Native.Nat.{ℕ}
use Rattle.process.specs.Process.{Status, ok, fail, Kind, finishes, sequence, parallel}
use Rattle.process.specs.Traces.{skip, throw, action, Term, atom, compose, Trace, Mixed, none, next_right, Traces, t_finishes, t_fails, t_sequence, t_sequence_fails, t_parallel, t_compensation, t_compensation_fails, Whole, w_ok, w_fail, order_types, order_term, OrderTrace, processed, credited, not_charged, TraceExamples}
use Rattle.process.proofs.Examples.{not_both, not_ok}

-- A skip, and a throw, whose undo is a skip.
skip_whole : {Γ : ℕ → Kind} {t : Trace} {s : Status} → Whole Γ (atom skip) t s → (t ≡ []) × (s ≡ ok)
skip_whole (w_ok (t_finishes m i)) = (sym i, refl)
skip_whole (w_fail (t_fails m) c e) = not_both m refl

whole_skip : (Γ : ℕ → Kind) → Whole Γ (atom skip) [] ok
whole_skip Γ = w_ok (t_finishes refl refl)

throw_whole : {Γ : ℕ → Kind} {t : Trace} {s : Status} → Whole Γ (atom throw) t s → (t ≡ []) × (s ≡ fail)
throw_whole (w_ok (t_finishes m i)) = not_both m refl
throw_whole (w_fail (t_fails m) c e) = (sym e ∙ (skip_whole c).0, refl)

whole_throw : (Γ : ℕ → Kind) → Whole Γ (atom throw) [] fail
whole_throw Γ = w_fail (t_fails refl) (whole_skip Γ) refl

-- Example 1's Π: (Charge ProcessOrder⟨✓⟩, skip ; Credit), (Charge⟨×⟩, skip ; Credit), (⟨×⟩, skip). The report writes the second undo as Credit.
abbrev credit_term : Term
credit_term = compose sequence (atom skip) (atom (action 1))

data OrderForward : Trace → Status → Term → Type 0 where
  ordered : OrderForward (0 ∷ 2 ∷ []) ok credit_term
  order_failed : OrderForward (0 ∷ []) fail credit_term
  charge_failed : OrderForward [] fail (atom skip)

order_forward : {t : Trace} {s : Status} {U : Term} → Traces order_types order_term t s U → OrderForward t s U
order_forward (t_sequence (t_compensation (t_finishes _ x)) (t_finishes _ y) e) = rw (← e, ← x, ← y) ordered
order_forward (t_sequence (t_compensation (t_finishes _ x)) (t_fails _) e) = rw (← e, ← x) order_failed
order_forward (t_sequence_fails (t_compensation_fails (t_fails _))) = charge_failed

forward_order : {t : Trace} {s : Status} {U : Term} → OrderForward t s U → Traces order_types order_term t s U
forward_order ordered = t_sequence (t_compensation (t_finishes refl refl)) (t_finishes refl refl) refl
forward_order order_failed = t_sequence (t_compensation (t_finishes refl refl)) (t_fails refl) refl
forward_order charge_failed = t_sequence_fails (t_compensation_fails (t_fails refl))

credit_whole : {t : Trace} {s : Status} → Whole order_types credit_term t s → t ≡ 1 ∷ []
credit_whole (w_ok (t_sequence (t_finishes _ x) (t_finishes _ y) e)) = rw (← e, ← x, ← y)
credit_whole (w_fail (t_sequence a (t_fails m) e) c i) = not_both m refl
credit_whole (w_fail (t_sequence_fails (t_fails m)) c i) = not_both m refl

order_whole : {t : Trace} {s : Status} → Whole order_types order_term t s → OrderTrace t s
order_whole (w_ok a) = succeeded (order_forward a)
  where
    succeeded : {t : Trace} {U : Term} → OrderForward t ok U → OrderTrace t ok
    succeeded ordered = processed
order_whole (w_fail a c i) = failed (order_forward a) c i
  where
    failed : {p p' t : Trace} {s : Status} {U : Term} → OrderForward p fail U → Whole order_types U p' s → p ++ p' ≡ t → OrderTrace t fail
    failed order_failed c i = rw (← i, credit_whole c) credited
    failed charge_failed c i = rw (← i, (skip_whole c).0) not_charged

whole_order : {t : Trace} {s : Status} → OrderTrace t s → Whole order_types order_term t s
whole_order processed = w_ok (forward_order ordered)
whole_order credited = w_fail (forward_order order_failed) (w_ok (t_sequence (t_finishes refl refl) (t_finishes refl refl) refl)) refl
whole_order not_charged = w_fail (forward_order charge_failed) (whole_skip order_types) refl

-- N6: a throw beside an action. Both undos are skips.
abbrev beside_term : Term
beside_term = compose parallel (atom throw) (atom (action 0))

nothing_mixed : {r : Trace} → Mixed [] [] r → r ≡ []
nothing_mixed none = refl

skips_whole : {Γ : ℕ → Kind} {t : Trace} {s : Status} → Whole Γ (compose parallel (atom skip) (atom skip)) t s → t ≡ []
skips_whole (w_ok (t_parallel (t_finishes _ x) (t_finishes _ y) i e)) = nothing_mixed (rw (← x, ← y) at i)
skips_whole (w_ok (t_parallel (t_finishes _ x) (t_fails m) i e)) = not_both m refl
skips_whole (w_ok (t_parallel (t_fails m) b i e)) = not_both m refl
skips_whole (w_fail (t_parallel (t_finishes _ x) (t_finishes _ y) i e) c z) = not_ok (sym e)
skips_whole (w_fail (t_parallel (t_finishes _ x) (t_fails m) i e) c z) = not_both m refl
skips_whole (w_fail (t_parallel (t_fails m) b i e) c z) = not_both m refl

alone_mixed : {a : ℕ} {r : Trace} → Mixed [] (a ∷ []) r → r ≡ a ∷ []
alone_mixed (next_right none) = refl

beside_whole : {t : Trace} {s : Status} → Whole (λ a. finishes) beside_term t s → (t ≡ 0 ∷ []) × (s ≡ fail)
beside_whole (w_ok (t_parallel (t_finishes m x) b i e)) = not_both m refl
beside_whole (w_ok (t_parallel (t_fails _) b i e)) = not_ok e
beside_whole (w_fail (t_parallel (t_finishes m x) b i e) c z) = not_both m refl
beside_whole (w_fail (t_parallel (t_fails _) (t_fails m) i e) c z) = not_both m refl
beside_whole (w_fail (t_parallel (t_fails _) (t_finishes _ x) i e) c z) = (rw (← z, skips_whole c, alone_mixed (rw (← x) at i)), refl)

whole_beside : Whole (λ a. finishes) beside_term (0 ∷ []) fail
whole_beside =
    w_fail (t_parallel (t_fails refl) (t_finishes refl refl) (next_right none) refl)
    (w_ok (t_parallel (t_finishes refl refl) (t_finishes refl refl) none refl)) refl

pub trace_examples : TraceExamples
trace_examples = record {
  order = λ t s. (λ w. order_whole w, λ o. whole_order o);
  skips = λ Γ t s. (λ w. skip_whole w, λ (e, h). rw (e, h) (whole_skip Γ));
  throws = λ Γ t s. (λ w. throw_whole w, λ (e, h). rw (e, h) (whole_throw Γ));
  beside = λ t s. (λ w. beside_whole w, λ (e, h). rw (e, h) whole_beside);
}
