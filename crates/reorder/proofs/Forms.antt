-- Every run of every form is firm, given that the runs of its sides are.
use mathlib.Core.Path.{◌≡◌, refl, sym, ◌∙◌, ap₂}
use mathlib.Core.List.Memᴰ
use mathlib.Core.List.Permᴰ
use mathlib.Core.List.{[], ◌∷◌, ◌++◌, append_assoc, append-nil}
use mathlib.Core.Logic.{◌⊎◌, inl, inr, ⊎_elim}
use Prim.Native.Nat.{ℕ}
use native.Mathlib.Omega.{arith}
use Rattle.process.specs.Process.{Status, ok, fail, Kind, Permits, sequence, parallel, choice, compensation, handler, Process, done, leaf, node, Entry, entry, Run}
use Rattle.process.specs.Figure2.{both, Interleaving, Forward, f_done, f_leaf, f_sequence, f_sequence_fails, f_parallel, f_choice_left, f_choice_right, f_compensation, f_compensation_fails, f_handler, f_handler_fails, Complete, c_ok, c_fail}
use Rattle.process.specs.Leaves.{AsWritten, HasLeaf, Apart}
use Rattle.process.proofs.Interleavings.{in_turn, end_to_end}
use Rattle.reorder.specs.Entries.{Occurs, AllIn}
use Rattle.reorder.proofs.Lists.{joined, nothing_left, occurs_in, occurs_left, occurs_right, Cut, inside, past, cut, Shared, shared, share, same_interleaved}
use Rattle.reorder.proofs.Leaves.{leaf_of, regroup, undo_leaf, complete_leaf, run_apart, runs_something, Good}
use Rattle.reorder.proofs.Meets.{Of, Covered, Met, ForwardMet, CompleteMet, Firm, FirmWhole, ok_not_fail, fail_not_ok, settled, met_as, met_early, met_first, met_past, forward_of, complete_of, covered_of, first_covered, rest_covered, Sides, left_covered, right_covered}

swapped : {A B : Type 0} → A ⊎ B → B ⊎ A
swapped (inl a) = inr a
swapped (inr b) = inl b

-- Done, and a leaf.
pub done_firm : Firm done [] ok done
done_firm = record { forward = f_done; meets = λ w z f i c. by w z f i }
  where
    by : (w z : Run) {r : Run} {t : Status} {N : Process} → Forward done r t N → w ++ z ≡ r → ForwardMet done [] ok done w z t N
    by w z f_done i = let (x, y) = nothing_left (joined w z i) in rw x (record { rest = []; runs = f_done; same = Permᴰ.refl []; last = λ e. (refl, (refl, refl)) })

pub leaf_firm : {n : ℕ} {k : Kind} {s : Status} → Permits k s → Firm (leaf n k) (entry n s ∷ []) s done
leaf_firm {n} {k} {s} a = record { forward = f_leaf a; meets = λ w z f i c. by w z f i c }
  where
    one : {t : Status} (w z : Run) → w ++ z ≡ entry n t ∷ [] → Covered w (entry n s ∷ []) done → ForwardMet (leaf n k) (entry n s ∷ []) s done w z t done
    one [] z i c = record { rest = entry n s ∷ []; runs = f_leaf a; same = Permᴰ.refl _; last = λ e. absurd (let x : ◌≡◌ {A = ℕ} 0 1 = cc in omega arith) }
    one {t} (e ∷ w) z i c =
        let v : entry n t ≡ e = cc in
        let m : Occurs (entry n t) (e ∷ w) = Memᴰ.head v in
        let j : entry n t ≡ entry n s = ⊎_elim (λ x. Memᴰ.eq_of_singleton x) (λ x. absurd x) (c.covers (entry n t) m) in
        let h : t ≡ s = cc in
        let x : w ++ z ≡ [] = cc in
        let y = (nothing_left (joined w z x)).0 in
        let u : e ≡ entry n s = cc in
        rw (y, u) (record { rest = []; runs = f_leaf a; same = Permᴰ.refl _; last = λ e. (refl, (h, refl)) })

    by : (w z : Run) {r : Run} {t : Status} {N : Process} → Forward (leaf n k) r t N → w ++ z ≡ r → Covered w (entry n s ∷ []) done → ForwardMet (leaf n k) (entry n s ∷ []) s done w z t N
    by w z (f_leaf b) i c = one w z i c

-- w begins a run of another side of a choice, of which nothing is covered: nothing has run yet
other_side : {R : Run → Type 0} {Q N : Process} {p q : Run} {t : Status} {X : Type 0} (w z : Run) → AsWritten Q → Forward Q q t N → w ++ z ≡ q → R p → ((e : Entry) → Occurs e w → ¬ HasLeaf (leaf_of e) Q) → Met R w z p X
other_side {p = p} [] z g b h f o = record { rest = p; runs = f; same = Permᴰ.refl p; last = λ e. absurd (runs_something g b (sym h ∙ e)) }
other_side (e ∷ w) z g b h f o = let m : Occurs e (e ∷ w) = Memᴰ.head refl in absurd (o e m ((forward_of (e ∷ w) z b h).leaves e m))

-- w begins a run whose first part is a forward run of P with another status: it has not come to the end of that part
other_status : {R : Run → Type 0} {P P' N : Process} {w z p p₀ q₀ : Run} {s t : Status} {X : Type 0} → Firm P p s P' → Forward P p₀ t N → ¬ (t ≡ s) → Covered w p P' → ((x : Run) → Forward P x s P' → R x) → Cut w z p₀ q₀ → Met R w z p X
other_status {w = w} A a n c f (inside v h k) = met_early (A.meets w v a h c) f k
other_status {p₀ = p₀} A a n c f (past v h k) = absurd (n (settled (A.meets p₀ [] a (append-nil p₀) (first_covered p₀ v h c))).1.0)

module _ {P Q : Process} (d : Apart P Q) where
  -- two forward runs, side by side
  sides : {P' Q' U : Process} {p q r : Run} {s t : Status} → Forward P p s P' → Forward Q q t Q' → Interleaving p q r → ((n : ℕ) → HasLeaf n U → HasLeaf n P' ⊎ HasLeaf n Q') → Sides P Q p q r P' Q' U
  sides {p = p} {q = q} a b i u = record {
    apart = d;
    parts = i;
    left = forward_of p [] a (append-nil p);
    right = forward_of q [] b (append-nil q);
    undo_left = λ n h. undo_leaf n a h;
    undo_right = λ n h. undo_leaf n b h;
    undo = u;
  }

  -- Sequence.
  pub sequence_firm : {P' Q' : Process} {p q r : Run} {s : Status} → Firm P p ok P' → Firm Q q s Q' → p ++ q ≡ r → Firm (node sequence P Q) r s (node sequence Q' P')
  sequence_firm {P'} {Q'} {p} {q} {r} {s} A B i = record { forward = f_sequence A.forward B.forward i; meets = λ w z f j c. by w z f j c }
    where
      S : Sides P Q p q r P' Q' (node sequence Q' P')
      S = sides A.forward B.forward (joined p q i) (λ n h. swapped h)

      on : (x : Run) → Forward P x ok P' → Forward (node sequence P Q) (x ++ q) s (node sequence Q' P')
      on x f = f_sequence f B.forward refl

      two : {w z p₀ q₀ : Run} {t : Status} {N M : Process} → Forward P p₀ ok N → Forward Q q₀ t M → Covered w r (node sequence Q' P') → Cut w z p₀ q₀ → ForwardMet (node sequence P Q) r s (node sequence Q' P') w z t (node sequence M N)
      two {w} a b c (inside v h n) = met_first q i (A.meets w v a h (left_covered S (forward_of w v a h) c)) on n
      two {w} {z} {p₀} {q₀} a b c (past v h k) =
          let (x, (y, u)) = settled (A.meets p₀ [] a (append-nil p₀) (left_covered S (forward_of p₀ [] a (append-nil p₀)) (first_covered p₀ v h c))) in
          met_past p p₀ i h x (B.meets v z b k (right_covered S (forward_of v z b k) (rest_covered p₀ v h c))) (λ x f. f_sequence (rw u at a) f refl) (λ (e, e'). (e, ap₂ (node sequence) e' u))

      by : (w z : Run) {r₀ : Run} {t : Status} {N : Process} → Forward (node sequence P Q) r₀ t N → w ++ z ≡ r₀ → Covered w r (node sequence Q' P') → ForwardMet (node sequence P Q) r s (node sequence Q' P') w z t N
      by w z (f_sequence {p = p₀} {q = q₀} a b j) h c = two a b c (cut w z p₀ q₀ (h ∙ sym j))
      by w z (f_sequence_fails a) h c =
          let m = A.meets w z a h (left_covered S (forward_of w z a h) c) in
          met_first q i m on (λ e. fail_not_ok (m.last e).1.0)

  pub sequence_fails_firm : {P' : Process} {p : Run} → Firm P p fail P' → Firm (node sequence P Q) p fail P'
  sequence_fails_firm {P'} {p} A = record { forward = f_sequence_fails A.forward; meets = λ w z f j c. by w z f j c }
    where
      by : (w z : Run) {r₀ : Run} {t : Status} {N : Process} → Forward (node sequence P Q) r₀ t N → w ++ z ≡ r₀ → Covered w p P' → ForwardMet (node sequence P Q) p fail P' w z t N
      by w z (f_sequence {p = p₀} {q = q₀} a b j) h c = other_status A a ok_not_fail c (λ x f. f_sequence_fails f) (cut w z p₀ q₀ (h ∙ sym j))
      by w z (f_sequence_fails a) h c = met_as (A.meets w z a h c) (λ x f. f_sequence_fails f) (λ e. e)

  -- Parallel.
  pub parallel_firm : {P' Q' : Process} {p q r : Run} {s t u : Status} → Firm P p s P' → Firm Q q t Q' → Interleaving p q r → both s t ≡ u → Firm (node parallel P Q) r u (node parallel P' Q')
  parallel_firm {P'} {Q'} {p} {q} {r} {s} {t} {u} A B i y = record { forward = f_parallel A.forward B.forward i y; meets = λ w z f j c. by w z f j c }
    where
      S : Sides P Q p q r P' Q' (node parallel P' Q')
      S = sides A.forward B.forward i (λ n h. h)

      two : {w z p₀ q₀ : Run} {s₀ t₀ u₀ : Status} {N M : Process} → Forward P p₀ s₀ N → Forward Q q₀ t₀ M → both s₀ t₀ ≡ u₀ → Covered w r (node parallel P' Q') → Shared w z p₀ q₀ → ForwardMet (node parallel P Q) r u (node parallel P' Q') w z u₀ (node parallel N M)
      two {w} {z} a b x c (shared {a = wp} {a' = zp} {b = wq} {b' = zq} j k g h) =
          let o : Covered wp r (node parallel P' Q') = record { covers = λ e m. c.covers e (occurs_left j m) } in
          let o' : Covered wq r (node parallel P' Q') = record { covers = λ e m. c.covers e (occurs_right j m) } in
          let m = A.meets wp zp a g (left_covered S (forward_of wp zp a g) o) in
          let n = B.meets wq zq b h (right_covered S (forward_of wq zq b h) o') in
          let l = end_to_end j (in_turn m.rest n.rest) in
          record {
            rest = m.rest ++ n.rest;
            runs = f_parallel m.runs n.runs l y;
            same = same_interleaved l i m.same n.same;
            last = λ e.
                let (e₁, e₂) = nothing_left (rw e at k) in
                let (r₁, (s₁, n₁)) = m.last e₁ in
                let (r₂, (s₂, n₂)) = n.last e₂ in
                (rw (r₁, r₂), (sym x ∙ ap₂ both s₁ s₂ ∙ y, ap₂ (node parallel) n₁ n₂));
          }

      by : (w z : Run) {r₀ : Run} {t : Status} {N : Process} → Forward (node parallel P Q) r₀ t N → w ++ z ≡ r₀ → Covered w r (node parallel P' Q') → ForwardMet (node parallel P Q) r u (node parallel P' Q') w z t N
      by w z (f_parallel a b j x) h c = two a b x c (share w z j h)

  -- Choice: nothing has run yet, or the same side.
  pub choice_left_firm : {P' : Process} {p : Run} {s : Status} → AsWritten Q → Firm P p s P' → Firm (node choice P Q) p s P'
  choice_left_firm {P'} {p} {s} g A = record { forward = f_choice_left A.forward; meets = λ w z f j c. by w z f j c }
    where
      by : (w z : Run) {r₀ : Run} {t : Status} {N : Process} → Forward (node choice P Q) r₀ t N → w ++ z ≡ r₀ → Covered w p P' → ForwardMet (node choice P Q) p s P' w z t N
      by w z (f_choice_left a) h c = met_as (A.meets w z a h c) (λ x f. f_choice_left f) (λ e. e)
      by w z (f_choice_right b) h c = other_side w z g b h (f_choice_left A.forward) (λ e m l. d (leaf_of e) ((covered_of A.forward c).leaves e m) l)

  pub choice_right_firm : {Q' : Process} {q : Run} {s : Status} → AsWritten P → Firm Q q s Q' → Firm (node choice P Q) q s Q'
  choice_right_firm {Q'} {q} {s} g B = record { forward = f_choice_right B.forward; meets = λ w z f j c. by w z f j c }
    where
      by : (w z : Run) {r₀ : Run} {t : Status} {N : Process} → Forward (node choice P Q) r₀ t N → w ++ z ≡ r₀ → Covered w q Q' → ForwardMet (node choice P Q) q s Q' w z t N
      by w z (f_choice_left a) h c = other_side w z g a h (f_choice_right B.forward) (λ e m l. d (leaf_of e) l ((covered_of B.forward c).leaves e m))
      by w z (f_choice_right b) h c = met_as (B.meets w z b h c) (λ x f. f_choice_right f) (λ e. e)

  -- Compensation: the undo is the other side, and no entry of the left is of that.
  pub compensation_firm : {P' : Process} {p : Run} → Firm P p ok P' → Firm (node compensation P Q) p ok Q
  compensation_firm {P'} {p} A = record { forward = f_compensation A.forward; meets = λ w z f j c. by w z f j c }
    where
      covered : (w : Run) → Of P w → Covered w p Q → Covered w p P'
      covered w o c = record { covers = λ e m. ⊎_elim (λ x. inl x) (λ x. absurd (d (leaf_of e) (o.leaves e m) x)) (c.covers e m) }

      by : (w z : Run) {r₀ : Run} {t : Status} {N : Process} → Forward (node compensation P Q) r₀ t N → w ++ z ≡ r₀ → Covered w p Q → ForwardMet (node compensation P Q) p ok Q w z t N
      by w z (f_compensation a) h c = met_as (A.meets w z a h (covered w (forward_of w z a h) c)) (λ x f. f_compensation f) (λ e. (e.0, refl))
      by w z (f_compensation_fails a) h c = met_as (A.meets w z a h (covered w (forward_of w z a h) c)) (λ x f. f_compensation f) (λ e. fail_not_ok e.0)

  pub compensation_fails_firm : {P' : Process} {p : Run} → Firm P p fail P' → Firm (node compensation P Q) p fail P'
  compensation_fails_firm {P'} {p} A = record { forward = f_compensation_fails A.forward; meets = λ w z f j c. by w z f j c }
    where
      by : (w z : Run) {r₀ : Run} {t : Status} {N : Process} → Forward (node compensation P Q) r₀ t N → w ++ z ≡ r₀ → Covered w p P' → ForwardMet (node compensation P Q) p fail P' w z t N
      by w z (f_compensation a) h c = met_as (A.meets w z a h c) (λ x f. f_compensation_fails f) (λ e. ok_not_fail e.0)
      by w z (f_compensation_fails a) h c = met_as (A.meets w z a h c) (λ x f. f_compensation_fails f) (λ e. e)

  -- Handler: the left forward; or the whole left, and then the right.
  pub handler_firm : {P' : Process} {p : Run} → Firm P p ok P' → Firm (node handler P Q) p ok P'
  handler_firm {P'} {p} A = record { forward = f_handler A.forward; meets = λ w z f j c. by w z f j c }
    where
      by : (w z : Run) {r₀ : Run} {t : Status} {N : Process} → Forward (node handler P Q) r₀ t N → w ++ z ≡ r₀ → Covered w p P' → ForwardMet (node handler P Q) p ok P' w z t N
      by w z (f_handler a) h c = met_as (A.meets w z a h c) (λ x f. f_handler f) (λ e. e)
      by w z (f_handler_fails {p = p₀} {p' = p₁} {q = q₀} a c₀ b j) h c = other_status A a fail_not_ok c (λ x f. f_handler f) (cut w z p₀ (p₁ ++ q₀) (h ∙ sym j))

  handled : {p q r : Run} {t : Status} {Q' : Process} → Complete P p fail → Forward Q q t Q' → p ++ q ≡ r → Forward (node handler P Q) r t Q'
  handled (c_fail f c e) b i = f_handler_fails f c b (rw (← e, append_assoc) at i)

  handler_sides : {Q' : Process} {p q r : Run} {s t : Status} → Complete P p s → Forward Q q t Q' → p ++ q ≡ r → Sides P Q p q r done Q' Q'
  handler_sides {p = p} {q = q} a b i = record {
    apart = d;
    parts = joined p q i;
    left = complete_of p [] a (append-nil p);
    right = forward_of q [] b (append-nil q);
    undo_left = λ n h. absurd h;
    undo_right = λ n h. undo_leaf n b h;
    undo = λ n h. inr h;
  }

  pub handler_fails_firm : {Q' : Process} {p q r : Run} {s : Status} → FirmWhole P p fail → Firm Q q s Q' → p ++ q ≡ r → Firm (node handler P Q) r s Q'
  handler_fails_firm {Q'} {p} {q} {r} {s} A B i = record { forward = handled A.complete B.forward i; meets = λ w z f j c. by w z f j c }
    where
      S : Sides P Q p q r done Q' Q'
      S = handler_sides A.complete B.forward i

      on : (x : Run) → Complete P x fail → Forward (node handler P Q) (x ++ q) s Q'
      on x f = handled f B.forward refl

      all_in : {w : Run} → Covered w p done → AllIn w p
      all_in c = λ e m. ⊎_elim (λ x. x) (λ x. absurd x) (c.covers e m)

      two : {w z p₀ q₀ : Run} {t : Status} {M : Process} → Complete P p₀ fail → Forward Q q₀ t M → Covered w r Q' → Cut w z p₀ q₀ → ForwardMet (node handler P Q) r s Q' w z t M
      two {w} a b c (inside v h n) = met_first q i (A.meets w v a h (all_in (left_covered S (complete_of w v a h) c))) on n
      two {w} {z} {p₀} {q₀} a b c (past v h k) =
          let (x, y) = settled (A.meets p₀ [] a (append-nil p₀) (all_in (left_covered S (complete_of p₀ [] a (append-nil p₀)) (first_covered p₀ v h c)))) in
          met_past p p₀ i h x (B.meets v z b k (right_covered S (forward_of v z b k) (rest_covered p₀ v h c))) (λ x f. handled a f refl) (λ e. e)

      by : (w z : Run) {r₀ : Run} {t : Status} {N : Process} → Forward (node handler P Q) r₀ t N → w ++ z ≡ r₀ → Covered w r Q' → ForwardMet (node handler P Q) r s Q' w z t N
      by w z (f_handler a) h c =
          let m = A.meets w z (c_ok a) h (all_in (left_covered S (forward_of w z a h) c)) in
          met_first q i m on (λ e. ok_not_fail (m.last e).1)
      by w z (f_handler_fails {p = p₀} {p' = p₁} {q = q₀} a c₀ b j) h c = two (c_fail a c₀ refl) b c (cut w z (p₀ ++ p₁) q₀ (h ∙ sym (regroup p₀ p₁ q₀ j)))

-- Complete runs.
pub ok_firm : {P P' : Process} {p : Run} → Firm P p ok P' → FirmWhole P p ok
ok_firm {P} {P'} {p} A = record { complete = c_ok A.forward; meets = λ w z f j c. by w z f j (record { covers = λ e m. inl (c e m) }) }
  where
    by : (w z : Run) {r : Run} {t : Status} → Complete P r t → w ++ z ≡ r → Covered w p P' → CompleteMet P p ok w z t
    by w z (c_ok a) h c = met_as (A.meets w z a h c) (λ x f. c_ok f) (λ e. e.0)
    by w z (c_fail {p = p₀} {p' = p₁} a c₀ j) h c = other_status A a fail_not_ok c (λ x f. c_ok f) (cut w z p₀ p₁ (h ∙ sym j))

pub fail_firm : {P P' : Process} {p q r : Run} {s : Status} → Good P → Firm P p fail P' → FirmWhole P' q s → p ++ q ≡ r → FirmWhole P r fail
fail_firm {P} {P'} {p} {q} {r} {s} g A C i = record { complete = c_fail A.forward C.complete i; meets = λ w z f j c. by w z f j c }
  where
    on : (x : Run) → Forward P x fail P' → Complete P (x ++ q) fail
    on x f = c_fail f C.complete refl

    covered : {w : Run} → AllIn w r → Covered w p P'
    covered c = record { covers = λ e m. ⊎_elim (λ x. inl x) (λ x. inr (complete_leaf C.complete x)) (occurs_in (joined p q i) (c e m)) }

    -- what is of the undo is not in the forward run
    undone : {v : Run} → Of P' v → AllIn v r → AllIn v q
    undone o c = λ e m. ⊎_elim (λ x. absurd (run_apart g A.forward x (o.leaves e m))) (λ x. x) (occurs_in (joined p q i) (c e m))

    two : {w z p₀ q₀ : Run} {t : Status} {N : Process} → Forward P p₀ fail N → Complete N q₀ t → AllIn w r → Cut w z p₀ q₀ → CompleteMet P r fail w z fail
    two {w} a b c (inside v h n) = met_first q i (A.meets w v a h (covered c)) on n
    two {w} {z} {p₀} {q₀} {t} a b c (past v h k) =
        let (x, (y, u)) = settled (A.meets p₀ [] a (append-nil p₀) (first_covered p₀ v h (covered c))) in
        let b' : Complete P' q₀ t = rw u at b in
        met_past p p₀ i h x (C.meets v z b' k (undone (complete_of v z b' k) (λ e m. c e (occurs_right (joined p₀ v h) m)))) (λ x f. c_fail (rw u at a) f refl) (λ e. refl)

    by : (w z : Run) {r₀ : Run} {t : Status} → Complete P r₀ t → w ++ z ≡ r₀ → AllIn w r → CompleteMet P r fail w z t
    by w z (c_ok a) h c =
        let m = A.meets w z a h (covered c) in
        met_first q i m on (λ e. ok_not_fail (m.last e).1.0)
    by w z (c_fail {p = p₀} {p' = p₁} a b j) h c = two a b c (cut w z p₀ p₁ (h ∙ sym j))
