-- What is to be proved of a run, forward or complete: a beginning w whose entries it holds goes on to its very entries; and where w is
-- itself such a run, it ends there, with the same status and the same undo.
use mathlib.Core.Path.{◌≡◌, refl, sym}
use mathlib.Core.List.Permᴰ
use mathlib.Core.List.{[], ◌++◌, append_assoc, append-nil}
use mathlib.Core.Logic.{◌⊎◌, inl, inr, ⊎_elim}
use Prim.Native.Nat.{ℕ}
use native.Mathlib.Omega.{arith}
use Rattle.process.specs.Process.{Status, ok, fail, Process, Entry, Run}
use Rattle.process.specs.Figure2.{Interleaving, Forward, Complete}
use Rattle.process.specs.Leaves.{HasLeaf, Apart}
use Rattle.reorder.specs.Entries.{Occurs, AllIn, SameEntries}
use Rattle.reorder.proofs.Lists.{joined, occurs_in, occurs_left, occurs_right, same_append}
use Rattle.reorder.proofs.Leaves.{leaf_of, undo_leaf, run_leaf, complete_leaf}

-- The entries of w are of P's leaves.
pub record Of (P : Process) (w : Run) : Type 0 where
  pub leaves : (e : Entry) → Occurs e w → HasLeaf (leaf_of e) P

-- Each entry of w is in the run p, or of its undo.
pub record Covered (w p : Run) (U : Process) : Type 0 where
  pub covers : (e : Entry) → Occurs e w → Occurs e p ⊎ HasLeaf (leaf_of e) U

-- w goes on to the entries of p, by a run R. X: what holds where w was itself a run.
pub record Met (R : Run → Type 0) (w z p : Run) (X : Type 0) : Type 0 where
  pub rest : Run
  pub runs : R (w ++ rest)
  pub same : SameEntries (w ++ rest) p
  pub last : z ≡ [] → (rest ≡ []) × X

abbrev pub Alike : Status → Process → Status → Process → Type 0
Alike t N s U = (t ≡ s) × (N ≡ U)

abbrev pub ForwardMet : Process → Run → Status → Process → Run → Run → Status → Process → Type 0
ForwardMet P p s U w z t N = Met (λ q. Forward P q s U) w z p (Alike t N s U)

abbrev pub CompleteMet : Process → Run → Status → Run → Run → Status → Type 0
CompleteMet P p s w z t = Met (λ q. Complete P q s) w z p (t ≡ s)

pub record Firm (P : Process) (p : Run) (s : Status) (U : Process) : Type 0 where
  pub forward : Forward P p s U
  pub meets : (w z : Run) {r : Run} {t : Status} {N : Process} → Forward P r t N → w ++ z ≡ r → Covered w p U → ForwardMet P p s U w z t N

pub record FirmWhole (P : Process) (p : Run) (s : Status) : Type 0 where
  pub complete : Complete P p s
  pub meets : (w z : Run) {r : Run} {t : Status} → Complete P r t → w ++ z ≡ r → AllIn w p → CompleteMet P p s w z t

-- statuses
pub ok_not_fail : {A : Type 0} → ok ≡ fail → A
ok_not_fail e = absurd (let z : ◌≡◌ {A = ℕ} 0 1 = cc in omega arith)

pub fail_not_ok : {A : Type 0} → fail ≡ ok → A
fail_not_ok e = ok_not_fail (sym e)

-- where w was itself a run
pub settled : {R : Run → Type 0} {w p : Run} {X : Type 0} → Met R w [] p X → SameEntries w p × X
settled {w = w} m = let (e, x) = m.last refl in (rw (e, append-nil w) at m.same, x)

-- w met, by another run and of another rest
pub met_as : {R R' : Run → Type 0} {w z p : Run} {X Y : Type 0} → Met R w z p X → ((x : Run) → R x → R' x) → (X → Y) → Met R' w z p Y
met_as m f g = record { rest = m.rest; runs = f _ m.runs; same = m.same; last = λ e. let (n, x) = m.last e in (n, g x) }

-- w met where it was not yet a run
pub met_early : {R R' : Run → Type 0} {w z z' p : Run} {X Y : Type 0} → Met R w z p X → ((x : Run) → R x → R' x) → ¬ (z' ≡ []) → Met R' w z' p Y
met_early m f n = record { rest = m.rest; runs = f _ m.runs; same = m.same; last = λ e. absurd (n e) }

-- w in the first of two parts
pub met_first : {R R' : Run → Type 0} {w z z' p r : Run} {X Y : Type 0} (q : Run) → p ++ q ≡ r → Met R w z p X → ((x : Run) → R x → R' (x ++ q)) → ¬ (z' ≡ []) → Met R' w z' r Y
met_first {w = w} q i m f n =
    let h = append_assoc w m.rest q in
    record { rest = m.rest ++ q; runs = rw h at (f _ m.runs); same = rw (h, i) at (same_append m.same (Permᴰ.refl q)); last = λ e. absurd (n e) }

-- w past the first of two parts
pub met_past : {R R' : Run → Type 0} {w z q r v : Run} {X Y : Type 0} (p p₀ : Run) → p ++ q ≡ r → p₀ ++ v ≡ w → SameEntries p₀ p → Met R v z q X → ((x : Run) → R x → R' (p₀ ++ x)) → (X → Y) → Met R' w z r Y
met_past {v = v} p p₀ i j a m f g =
    let h : p₀ ++ (v ++ m.rest) ≡ (p₀ ++ v) ++ m.rest = sym (append_assoc p₀ v m.rest) in
    record { rest = m.rest; runs = rw (h, j) at (f _ m.runs); same = rw (h, j, i) at (same_append a m.same); last = λ e. let (n, x) = m.last e in (n, g x) }

-- leaves of beginnings
pub forward_of : {P U : Process} {r : Run} {s : Status} (w z : Run) → Forward P r s U → w ++ z ≡ r → Of P w
forward_of w z a i = record { leaves = λ e m. run_leaf a (occurs_left (joined w z i) m) }

pub complete_of : {P : Process} {r : Run} {s : Status} (w z : Run) → Complete P r s → w ++ z ≡ r → Of P w
complete_of w z a i = record { leaves = λ e m. complete_leaf a (occurs_left (joined w z i) m) }

pub covered_of : {P U : Process} {w p : Run} {s : Status} → Forward P p s U → Covered w p U → Of P w
covered_of a c = record { leaves = λ e m. ⊎_elim (λ x. run_leaf a x) (λ x. undo_leaf (leaf_of e) a x) (c.covers e m) }

-- the parts of what is covered
pub first_covered : (p v : Run) {w r : Run} {U : Process} → p ++ v ≡ w → Covered w r U → Covered p r U
first_covered p v i c = record { covers = λ e m. c.covers e (occurs_left (joined p v i) m) }

pub rest_covered : (p v : Run) {w r : Run} {U : Process} → p ++ v ≡ w → Covered w r U → Covered v r U
rest_covered p v i c = record { covers = λ e m. c.covers e (occurs_right (joined p v i) m) }

-- a run of two sides, and its undo
pub record Sides (P Q : Process) (p q r : Run) (P' Q' U : Process) : Type 0 where
  pub apart : Apart P Q
  pub parts : Interleaving p q r
  pub left : Of P p
  pub right : Of Q q
  pub undo_left : (n : ℕ) → HasLeaf n P' → HasLeaf n P
  pub undo_right : (n : ℕ) → HasLeaf n Q' → HasLeaf n Q
  pub undo : (n : ℕ) → HasLeaf n U → HasLeaf n P' ⊎ HasLeaf n Q'

module _ {P Q P' Q' U : Process} {p q r : Run} (s : Sides P Q p q r P' Q' U) where
  pub left_covered : {w : Run} → Of P w → Covered w r U → Covered w p P'
  left_covered {w} o c = record { covers = λ e m. by e (o.leaves e m) (c.covers e m) }
    where
      run : (e : Entry) → HasLeaf (leaf_of e) P → Occurs e p ⊎ Occurs e q → Occurs e p ⊎ HasLeaf (leaf_of e) P'
      run e l (inl x) = inl x
      run e l (inr x) = absurd (s.apart (leaf_of e) l (s.right.leaves e x))

      undone : (e : Entry) → HasLeaf (leaf_of e) P → HasLeaf (leaf_of e) P' ⊎ HasLeaf (leaf_of e) Q' → Occurs e p ⊎ HasLeaf (leaf_of e) P'
      undone e l (inl x) = inr x
      undone e l (inr x) = absurd (s.apart (leaf_of e) l (s.undo_right (leaf_of e) x))

      by : (e : Entry) → HasLeaf (leaf_of e) P → Occurs e r ⊎ HasLeaf (leaf_of e) U → Occurs e p ⊎ HasLeaf (leaf_of e) P'
      by e l (inl x) = run e l (occurs_in s.parts x)
      by e l (inr x) = undone e l (s.undo (leaf_of e) x)

  pub right_covered : {w : Run} → Of Q w → Covered w r U → Covered w q Q'
  right_covered {w} o c = record { covers = λ e m. by e (o.leaves e m) (c.covers e m) }
    where
      run : (e : Entry) → HasLeaf (leaf_of e) Q → Occurs e p ⊎ Occurs e q → Occurs e q ⊎ HasLeaf (leaf_of e) Q'
      run e l (inl x) = absurd (s.apart (leaf_of e) (s.left.leaves e x) l)
      run e l (inr x) = inl x

      undone : (e : Entry) → HasLeaf (leaf_of e) Q → HasLeaf (leaf_of e) P' ⊎ HasLeaf (leaf_of e) Q' → Occurs e q ⊎ HasLeaf (leaf_of e) Q'
      undone e l (inl x) = absurd (s.apart (leaf_of e) (s.undo_left (leaf_of e) x) l)
      undone e l (inr x) = inr x

      by : (e : Entry) → HasLeaf (leaf_of e) Q → Occurs e r ⊎ HasLeaf (leaf_of e) U → Occurs e q ⊎ HasLeaf (leaf_of e) Q'
      by e l (inl x) = run e l (occurs_in s.parts x)
      by e l (inr x) = undone e l (s.undo (leaf_of e) x)
