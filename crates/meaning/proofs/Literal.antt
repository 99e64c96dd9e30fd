-- The values of a literal, by how many of its undos are finished. The sum over the pairs has no term that is 1, one such term, or two. A pair that
-- stands before adds nothing, and then the first one that is the same does.
use mathlib.Core.Path.{◌≡◌, refl, sym, ap, ◌∙◌}
use mathlib.Core.Bool.{Bool, true, false, not, true≢false, ◌&&◌, and-true}
use mathlib.Core.List.{List}
use mathlib.Core.Logic.{inl, inr}
use Prim.Native.Nat.{ℕ, zero, suc, ◌≤◌, ◌<◌}
use native.Mathlib.Omega.{arith}
use lib.Dec.{eqb}
use borrow.Author.Tests.{eq-eqb, ne_eqb, eqb-true, not-false}
use Rattle.blocks.specs.Bounded.{total, one}
use Rattle.blocks.proofs.Bounded.{decide, both_hold, every_all, every_missed, total_has, total_two, total_none, total_single, total_same}
use Rattle.bodies.specs.Pairs.{Pairs, pair_count, first, second, is_pair}
use Rattle.meaning.specs.Literal.{finished, undone_by, is_new, undos_finished, literal_of, literal}
use Rattle.meaning.specs.Value.{neither}
use Rattle.meaning.specs.Laws.{paired, plain, so, not_so, NoneUndone, OnlyUndone, TwiceUndone}

by_one_undo : (a u : Bool) → literal_of a (one u) ≡ paired a u
by_one_undo true true = refl
by_one_undo true false = refl
by_one_undo false true = refl
by_one_undo false false = refl

by_no_undo : (a : Bool) → literal_of a 0 ≡ plain a
by_no_undo true = refl
by_no_undo false = refl

by_two_undos : (a : Bool) (n : ℕ) → 2 ≤ n → literal_of a n ≡ neither
by_two_undos true n l = rw (ne_eqb n 0 (λ e. omega arith), ne_eqb n 1 (λ e. omega arith))
by_two_undos false n l = rw (ne_eqb n 0 (λ e. omega arith))

by_undo_alone : (n : ℕ) → 1 ≤ n → literal_of false n ≡ neither
by_undo_alone n l = rw (ne_eqb n 0 (λ e. omega arith))

module _ (pairs : List ℕ) where
  -- pairs i and j are the same
  pub record Same (i j : ℕ) : Type 0 where
    pub firsts : first pairs j ≡ first pairs i
    pub seconds : second pairs j ≡ second pairs i

  is_same : (i j : ℕ) → is_pair pairs (first pairs i) (second pairs i) j ≡ true → Same i j
  is_same i j e =
      let (f, s) = both_hold _ _ e in
      record { firsts = eqb-true _ _ f; seconds = eqb-true _ _ s }

  -- a pair is new where none before it is the same
  pub new : (i : ℕ) → ((j : ℕ) → j < i → Same i j → ⊥) → is_new pairs i ≡ true
  new i none = every_all (λ j. not (is_pair pairs (first pairs i) (second pairs i) j)) i (λ j l. elim (decide (is_pair pairs (first pairs i) (second pairs i) j)) [
    | inl e ↦ absurd (none j l (is_same i j e))
    | inr e ↦ rw e
  ])

  -- the first pair that is the same as pair i
  record First (i : ℕ) : Type 0 where
    at : ℕ
    before : at ≤ i
    same : Same i at
    news : is_new pairs at ≡ true

  first_same : (k i : ℕ) → i < k → First i
  first_same zero i l = absurd (omega arith)
  first_same (suc k) i l = elim (decide (is_new pairs i)) [
    | inl e ↦ record { at = i; before = omega arith; same = record { firsts = refl; seconds = refl }; news = e }
    | inr e ↦
        let (j, m, missed) = every_missed (λ j. not (is_pair pairs (first pairs i) (second pairs i) j)) i e in
        let s = is_same i j (not-false _ missed) in
        let f = first_same k j (omega arith) in
        record {
          at = f.at;
          before = omega (arith, f.before);
          same = record { firsts = f.same.firsts ∙ s.firsts; seconds = f.same.seconds ∙ s.seconds };
          news = f.news;
        }
  ]

  module _ (set : ℕ) where
    -- what pair i adds to the undos of the action a
    term : ℕ → ℕ → ℕ
    term a i = one (undone_by pairs set a i && is_new pairs i)

    -- nothing, where it is a pair of another action or its undo is not finished
    unfinished : (a i : ℕ) → (first pairs i ≡ a → finished set (second pairs i) ≡ false) → term a i ≡ 0
    unfolding term
    unfinished a i off = elim (decide (eqb (first pairs i) a)) [
      | inl e ↦ rw (e, off (eqb-true _ _ e))
      | inr e ↦ rw e
    ]

    -- a new pair of the action itself adds 1 where its undo is finished
    itself : (a i : ℕ) → first pairs i ≡ a → is_new pairs i ≡ true → term a i ≡ one (finished set (second pairs i))
    unfolding term
    itself a i e n = rw (eq-eqb (first pairs i) a e, n) (ap one (and-true (finished set (second pairs i))))

    -- the first pair that is the same as one whose undo is finished adds 1
    at_first : (i : ℕ) → finished set (second pairs i) ≡ true → (f : First i) → term (first pairs i) f.at ≡ 1
    at_first i on f = itself (first pairs i) f.at f.same.firsts f.news ∙ rw (f.same.seconds, on)

    pub counted : (actions a : ℕ) → Pairs actions pairs → undos_finished pairs set a ≡ total (pair_count pairs) (λ i. one (undone_by pairs set a i))
    counted actions a legal =
        total_same (λ i. one (undone_by pairs set a i && is_new pairs i)) (λ i. one (undone_by pairs set a i)) (pair_count pairs) (λ i l.
        rw (new i (λ j m s. let e = legal.different j i (omega arith) l s.firsts s.seconds in omega arith)) (ap one (and-true (undone_by pairs set a i))))

    pub with_undo_lem : (i : ℕ) → i < pair_count pairs → ((j : ℕ) → j < pair_count pairs → first pairs j ≡ first pairs i → j ≡ i)
        → literal pairs set (first pairs i) ≡ paired (finished set (first pairs i)) (finished set (second pairs i))
    unfolding term
    with_undo_lem i h only =
        let undos : undos_finished pairs set (first pairs i) ≡ one (finished set (second pairs i))
        = total_single (term (first pairs i)) (pair_count pairs) i h (λ j k other. unfinished (first pairs i) j (λ same. absurd (other (only j k same))))
        ∙ itself (first pairs i) i refl (new i (λ j m s. let e = only j (omega arith) s.firsts in omega arith)) in
        rw undos (by_one_undo (finished set (first pairs i)) (finished set (second pairs i)))

    none_undone : (a : ℕ) → NoneUndone pairs set a → literal pairs set a ≡ plain (finished set a)
    unfolding term
    none_undone a none = rw (total_none (term a) (pair_count pairs) (λ i h. unfinished a i (none i h))) (by_no_undo (finished set a))

    pub without_undo : (a : ℕ) → ((i : ℕ) → i < pair_count pairs → first pairs i ≡ a → ⊥) → literal pairs set a ≡ plain (finished set a)
    without_undo a no_pair = none_undone a (λ i h e. absurd (no_pair i h e))

    pub done : (a : ℕ) → finished set a ≡ true → NoneUndone pairs set a → literal pairs set a ≡ so
    done a on none = none_undone a none ∙ ap plain on

    pub not_done : (a : ℕ) → finished set a ≡ false → NoneUndone pairs set a → literal pairs set a ≡ not_so
    not_done a off none = none_undone a none ∙ ap plain off

    pub undone : (i : ℕ) → i < pair_count pairs → finished set (first pairs i) ≡ true → OnlyUndone pairs set i → literal pairs set (first pairs i) ≡ not_so
    unfolding term
    undone i h on only =
        let fresh = new i (λ j m s. true≢false (sym only.this ∙ sym (ap (finished set) s.seconds) ∙ only.others j (omega arith) s.firsts (λ e. omega arith))) in
        let undos : undos_finished pairs set (first pairs i) ≡ 1
        = total_single (term (first pairs i)) (pair_count pairs) i h (λ j k other. unfinished (first pairs i) j (λ same. only.others j k same other))
        ∙ itself (first pairs i) i refl fresh
        ∙ ap one only.this in
        rw (on, undos)

    pub undone_twice : (i j : ℕ) → i < pair_count pairs → j < pair_count pairs → TwiceUndone pairs set i j → literal pairs set (first pairs i) ≡ neither
    unfolding term
    undone_twice i j h k t =
        let f = first_same (suc i) i (omega arith) in
        let g = first_same (suc j) j (omega arith) in
        let apart : f.at ≡ g.at → ⊥ = λ e. t.two (sym g.same.seconds ∙ ap (second pairs) (sym e) ∙ f.same.seconds) in
        let two = total_two (term (first pairs i)) (pair_count pairs) f.at g.at (omega (arith, f.before)) (omega (arith, g.before)) apart in
        by_two_undos (finished set (first pairs i)) (undos_finished pairs set (first pairs i))
        (omega (arith, two, at_first i t.this f, ap (λ (a : ℕ). term a g.at) (sym t.same) ∙ at_first j t.other g))

    pub undo_alone : (i : ℕ) → i < pair_count pairs → finished set (second pairs i) ≡ true → finished set (first pairs i) ≡ false
        → literal pairs set (first pairs i) ≡ neither
    unfolding term
    undo_alone i h on off =
        let f = first_same (suc i) i (omega arith) in
        let some = total_has (term (first pairs i)) (pair_count pairs) f.at (omega (arith, f.before)) in
        rw off (by_undo_alone (undos_finished pairs set (first pairs i)) (omega (arith, some, at_first i on f)))
