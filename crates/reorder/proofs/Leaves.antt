-- The leaves of runs and of undos. A run's entries are of the process's leaves, and so are its undo's leaves; and none of the one is of
-- the other. The processes that the proof goes by: closed under undos.
use mathlib.Core.Path.{◌≡◌, refl, ◌∙◌, ap}
use mathlib.Core.List.Memᴰ
use mathlib.Core.List.{[], ◌++◌, append_assoc}
use mathlib.Core.Logic.{◌⊎◌, inl, inr, ⊎_elim}
use Prim.Native.Nat.{ℕ}
use native.Mathlib.Omega.{arith}
use Rattle.process.specs.Process.{Status, choice, Process, done, leaf, node, Entry, entry, Run}
use Rattle.process.specs.Figure2.{Forward, f_done, f_leaf, f_sequence, f_sequence_fails, f_parallel, f_choice_left, f_choice_right, f_compensation, f_compensation_fails, f_handler, f_handler_fails, Complete, c_ok, c_fail}
use Rattle.process.specs.Leaves.{AsWritten, HasLeaf, Apart, Distinct}
use Rattle.reorder.specs.Entries.{Occurs}
use Rattle.reorder.proofs.Lists.{joined, occurs_in, occurs_left}

abbrev pub leaf_of : Entry → ℕ
leaf_of (entry n s) = n

pub regroup : (p p' q : Run) {r : Run} → p ++ (p' ++ q) ≡ r → (p ++ p') ++ q ≡ r
regroup p p' q e = append_assoc p p' q ∙ e

pub undo_leaf : {P U : Process} {p : Run} {s : Status} (n : ℕ) → Forward P p s U → HasLeaf n U → HasLeaf n P
undo_leaf n f_done h = h
undo_leaf n (f_leaf a) h = absurd h
undo_leaf n (f_sequence a b i) (inl h) = inr (undo_leaf n b h)
undo_leaf n (f_sequence a b i) (inr h) = inl (undo_leaf n a h)
undo_leaf n (f_sequence_fails a) h = inl (undo_leaf n a h)
undo_leaf n (f_parallel a b i e) (inl h) = inl (undo_leaf n a h)
undo_leaf n (f_parallel a b i e) (inr h) = inr (undo_leaf n b h)
undo_leaf n (f_choice_left a) h = inl (undo_leaf n a h)
undo_leaf n (f_choice_right b) h = inr (undo_leaf n b h)
undo_leaf n (f_compensation a) h = inr h
undo_leaf n (f_compensation_fails a) h = inl (undo_leaf n a h)
undo_leaf n (f_handler a) h = inl (undo_leaf n a h)
undo_leaf n (f_handler_fails a c b i) h = inr (undo_leaf n b h)

both_ways : {A B C D : Type 0} → (A → C) → (B → D) → A ⊎ B → C ⊎ D
both_ways f g (inl a) = inl (f a)
both_ways f g (inr b) = inr (g b)

mutual
  pub run_leaf : {P U : Process} {p : Run} {s : Status} {e : Entry} → Forward P p s U → Occurs e p → HasLeaf (leaf_of e) P
  run_leaf f_done m = absurd (Memᴰ.not-nil m)
  run_leaf (f_leaf a) m = ap leaf_of (Memᴰ.eq_of_singleton m)
  run_leaf (f_sequence {p = p} {q = q} a b i) m = both_ways (λ x. run_leaf a x) (λ x. run_leaf b x) (occurs_in (joined p q i) m)
  run_leaf (f_sequence_fails a) m = inl (run_leaf a m)
  run_leaf (f_parallel a b i e) m = both_ways (λ x. run_leaf a x) (λ x. run_leaf b x) (occurs_in i m)
  run_leaf (f_choice_left a) m = inl (run_leaf a m)
  run_leaf (f_choice_right b) m = inr (run_leaf b m)
  run_leaf (f_compensation a) m = inl (run_leaf a m)
  run_leaf (f_compensation_fails a) m = inl (run_leaf a m)
  run_leaf (f_handler a) m = inl (run_leaf a m)
  run_leaf {e = e} (f_handler_fails {p = p} {p' = p'} {q = q} a c b i) m =
      both_ways (λ x. ⊎_elim (λ y. run_leaf a y) (λ y. undo_leaf (leaf_of e) a (complete_leaf c y)) (occurs_in (joined p p' refl) x)) (λ x. run_leaf b x) (occurs_in (joined (p ++ p') q (regroup p p' q i)) m)

  pub complete_leaf : {P : Process} {r : Run} {s : Status} {e : Entry} → Complete P r s → Occurs e r → HasLeaf (leaf_of e) P
  complete_leaf (c_ok a) m = run_leaf a m
  complete_leaf {e = e} (c_fail {p = p} {p' = p'} a c i) m = ⊎_elim (λ y. run_leaf a y) (λ y. undo_leaf (leaf_of e) a (complete_leaf c y)) (occurs_in (joined p p' i) m)

-- The processes: leaves distinct, and the sides of a choice as written, so that no forward run of theirs is empty.
abbrev pub Good : Process → Type 0
Good done = Unit {0}
Good (leaf n k) = Unit {0}
Good (node f P Q) = Good P × Good Q × Apart P Q × (f ≡ choice → AsWritten P × AsWritten Q)

pub good : (P : Process) → AsWritten P → Distinct P → Good P
good done w d = tt
good (leaf n k) w d = tt
good (node f P Q) w d = (good P w.0 d.0, good Q w.1 d.1, d.2, λ e. w)

pub undo_good : {P U : Process} {p : Run} {s : Status} → Good P → Forward P p s U → Good U
undo_good g f_done = g
undo_good g (f_leaf a) = tt
undo_good g (f_sequence a b i) = (undo_good g.1 b, undo_good g.0 a, λ n x y. g.2 n (undo_leaf n a y) (undo_leaf n b x), λ e. absurd (let z : ◌≡◌ {A = ℕ} 0 1 = cc in omega arith))
undo_good g (f_sequence_fails a) = undo_good g.0 a
undo_good g (f_parallel a b i e) = (undo_good g.0 a, undo_good g.1 b, λ n x y. g.2 n (undo_leaf n a x) (undo_leaf n b y), λ e. absurd (let z : ◌≡◌ {A = ℕ} 0 1 = cc in omega arith))
undo_good g (f_choice_left a) = undo_good g.0 a
undo_good g (f_choice_right b) = undo_good g.1 b
undo_good g (f_compensation a) = g.1
undo_good g (f_compensation_fails a) = undo_good g.0 a
undo_good g (f_handler a) = undo_good g.0 a
undo_good g (f_handler_fails a c b i) = undo_good g.1 b

-- no entry of a run is of its undo
four : {A B C D : Type 0} → A ⊎ B → C ⊎ D → (A → C → ⊥) → (A → D → ⊥) → (B → C → ⊥) → (B → D → ⊥) → ⊥
four (inl a) (inl c) f g h k = f a c
four (inl a) (inr d) f g h k = g a d
four (inr b) (inl c) f g h k = h b c
four (inr b) (inr d) f g h k = k b d

pub run_apart : {P U : Process} {p : Run} {s : Status} {e : Entry} → Good P → Forward P p s U → Occurs e p → ¬ HasLeaf (leaf_of e) U
run_apart g f_done m h = absurd h
run_apart g (f_leaf a) m h = absurd h
run_apart {e = e} g (f_sequence {p = p} {q = q} a b i) m h =
    four (occurs_in (joined p q i) m) h (λ x y. g.2 (leaf_of e) (run_leaf a x) (undo_leaf (leaf_of e) b y)) (λ x y. run_apart g.0 a x y) (λ x y. run_apart g.1 b x y) (λ x y. g.2 (leaf_of e) (undo_leaf (leaf_of e) a y) (run_leaf b x))
run_apart g (f_sequence_fails a) m h = run_apart g.0 a m h
run_apart {e = e} g (f_parallel a b i j) m h =
    four (occurs_in i m) h (λ x y. run_apart g.0 a x y) (λ x y. g.2 (leaf_of e) (run_leaf a x) (undo_leaf (leaf_of e) b y)) (λ x y. g.2 (leaf_of e) (undo_leaf (leaf_of e) a y) (run_leaf b x)) (λ x y. run_apart g.1 b x y)
run_apart g (f_choice_left a) m h = run_apart g.0 a m h
run_apart g (f_choice_right b) m h = run_apart g.1 b m h
run_apart {e = e} g (f_compensation a) m h = g.2 (leaf_of e) (run_leaf a m) h
run_apart g (f_compensation_fails a) m h = run_apart g.0 a m h
run_apart g (f_handler a) m h = run_apart g.0 a m h
run_apart {e = e} g (f_handler_fails {p = p} {p' = p'} {q = q} a c b i) m h =
    ⊎_elim (λ x. g.2 (leaf_of e) (complete_leaf (c_fail a c refl) x) (undo_leaf (leaf_of e) b h)) (λ x. run_apart g.1 b x h) (occurs_in (joined (p ++ p') q (regroup p p' q i)) m)

-- a process as written runs something
some_entry : {P U : Process} {p : Run} {s : Status} → AsWritten P → Forward P p s U → (e : Entry) × Occurs e p
some_entry w f_done = absurd w
some_entry w (f_leaf a) = (_, Memᴰ.head refl)
some_entry w (f_sequence {p = p} {q = q} a b i) = let (e, m) = some_entry w.0 a in (e, occurs_left (joined p q i) m)
some_entry w (f_sequence_fails a) = some_entry w.0 a
some_entry w (f_parallel a b i j) = let (e, m) = some_entry w.0 a in (e, occurs_left i m)
some_entry w (f_choice_left a) = some_entry w.0 a
some_entry w (f_choice_right b) = some_entry w.1 b
some_entry w (f_compensation a) = some_entry w.0 a
some_entry w (f_compensation_fails a) = some_entry w.0 a
some_entry w (f_handler a) = some_entry w.0 a
some_entry w (f_handler_fails {p = p} {p' = p'} {q = q} a c b i) = let (e, m) = some_entry w.0 a in (e, occurs_left (joined p (p' ++ q) i) m)

pub runs_something : {P U : Process} {p : Run} {s : Status} → AsWritten P → Forward P p s U → ¬ (p ≡ [])
runs_something w a h = not_none (some_entry w a).1 h
  where
    not_none : {e : Entry} {p : Run} → Occurs e p → ¬ (p ≡ [])
    not_none m h = Memᴰ.not-nil (rw h at m)
