-- The families of the chart of suc n levels are exact for undos at most n deep. Each set of a family is left by levels, read off cell by cell; and the levels of a run, split
-- at each node into those of its sides, are listed under their number.
use mathlib.Core.Path.{◌≡◌, refl, sym, ◌∙◌, ap, ap₂}
use mathlib.Core.Bool.{true, true≢false}
use mathlib.Core.List.{List, [], ◌∷◌, Memᴰ}
use mathlib.Core.Logic.{◌↔◌}
use Prim.Native.Nat.{ℕ, zero, suc, ◌≤◌, ◌<◌}
use native.Mathlib.Omega.{arith}
use lib.ListN.{take}
use Rattle.process.specs.Process.{Status, ok, fail, Kind, Permits, Process, done, leaf, node, entry, Run}
use Rattle.process.specs.Figure2.{f_done, f_leaf, Complete}
use Rattle.process.specs.Depth.{undo_depth}
use Rattle.outcomes.specs.Codes.{Code, Ends, size, number}
use Rattle.outcomes.specs.Sets.{Sets, Lawful, added, set_of, Leaves}
use Rattle.outcomes.specs.Joins.{code_of, take_nil}
use Rattle.outcomes.specs.Families.{not_run, finished, failed, InFamilyBy}
use Rattle.outcomes.specs.AnyLevels.{quiet_codes, leaf_codes, any_levels, InPlanAt}
use Rattle.outcomes.proofs.Interleavings.{union_empty, interleaved_set}
use Rattle.outcomes.proofs.Levels.{Levels, l_none, l_run, whole, levels_of, joined_interleaves, parts, split}
use Rattle.outcomes.proofs.Depth.{levels, levels_depth, left_levels, right_levels, no_levels}
use Rattle.outcomes.proofs.Numbers.{number_small, code_of_number, number_step}
use Rattle.outcomes.proofs.Members.{in_map, out_map, from_sides, in_node_family, out_node_family, in_leaf_family, out_leaf_family, in_done_family, out_done_family}
use Rattle.outcomes.proofs.Nodes.{node_levels_lem, final_run, cell_of_levels}

-- the codes of `done`, up to n levels
record Quiet (n : ℕ) (c : Code) : Type 0 where
  pub runs : List Run
  pub by : Levels done c runs
  pub short : take n c ≡ c

quiet_at : {n : ℕ} {c d : Code} → c ≡ d → Quiet n d → Quiet n c
quiet_at e q = rw e q

quiet_none : {n : ℕ} → Quiet n []
quiet_none {n} = record { runs = []; by = l_none; short = take_nil n }

quiet_levels : (n : ℕ) {c : Code} → Memᴰ c (quiet_codes n) → Quiet n c
quiet_levels zero (Memᴰ.head e) = quiet_at e quiet_none
quiet_levels zero (Memᴰ.tail m) = elim m [ ]
quiet_levels (suc n) (Memᴰ.head e) = quiet_at e quiet_none
quiet_levels (suc n) (Memᴰ.tail m) =
    let (d, i, e) = out_map (λ c. ok ∷ c) (quiet_codes n) m in
    let q = quiet_levels n i in
    quiet_at e (record { runs = [] ∷ q.runs; by = l_run f_done q.by; short = ap (λ c. ok ∷ c) q.short })

levels_quiet : (n : ℕ) {c : Code} {rs : List Run} → Levels done c rs → (d : Code) × Memᴰ d (quiet_codes n) × (number n c ≡ number n d)
levels_quiet zero l = ([], Memᴰ.head refl, refl)
levels_quiet (suc n) l_none = ([], Memᴰ.head refl, refl)
levels_quiet (suc n) (l_run {c = c} f_done l) = let (d, i, e) = levels_quiet n l in (ok ∷ d, Memᴰ.tail (in_map (λ c. ok ∷ c) i), ap suc e)

in_leaf_codes : (n : ℕ) (s : Status) {c : Code} {rs : List Run} → Levels done c rs → Memᴰ (number (suc n) (s ∷ c)) (leaf_codes n s)
in_leaf_codes n s {c} l = let (d, i, e) = levels_quiet n l in rw (number_step n s c d e) (in_map (λ c. number (suc n) (s ∷ c)) i)

pub leaf_codes_low : (n : ℕ) (s : Status) {c : ℕ} → Memᴰ c (leaf_codes n s) → c < size (suc n)
leaf_codes_low n s m = let (d, i, e) = out_map (λ c. number (suc n) (s ∷ c)) (quiet_codes n) m in rw e (number_small (suc n) (s ∷ d))

module _ (n : ℕ) (S : Sets) (laws : Lawful S) where
  -- levels that leave a set, under a number
  record ReadOff (P : Process) (c : ℕ) (X : S.Set) : Type 0 where
    pub runs : List Run
    pub by : Levels P (code_of (suc n) c) runs
    pub leaves : set_of S (whole runs) ≡ X

  carried : {P : Process} {c d : ℕ} {X Y : S.Set} → c ≡ d → X ≡ Y → ReadOff P d Y → ReadOff P c X
  carried e x r = rw (e, x) r

  none_off : {P : Process} → ReadOff P 0 S.empty
  none_off = record { runs = []; by = l_none; leaves = refl }

  -- a leaf's set, and nothing above
  nothing_above : {c : Code} {rs : List Run} (A : S.Set) → Levels done c rs → S.union A (set_of S (whole rs)) ≡ A
  nothing_above A l = ap (λ r. S.union A (set_of S r)) (no_levels (omega arith) l) ∙ union_empty S laws A

  run_off : {P : Process} (s : Status) (d : Code) {A : S.Set} (rs : List Run) → take n d ≡ d → Levels P (s ∷ d) rs → set_of S (whole rs) ≡ A → ReadOff P (number (suc n) (s ∷ d)) A
  run_off s d rs z l e = record { runs = rs; by = rw (code_of_number (suc n) (s ∷ d), z) l; leaves = e }

  -- under a code of a leaf, what is read off each code of its undo
  leaf_off : {P : Process} {c : ℕ} {X A : S.Set} (s : Status) → ((d : Code) → Quiet n d → ReadOff P (number (suc n) (s ∷ d)) A) → Memᴰ c (leaf_codes n s) → X ≡ A → ReadOff P c X
  leaf_off s h m x = let (d, i, e) = out_map (λ c. number (suc n) (s ∷ c)) (quiet_codes n) m in carried e x (h d (quiet_levels n i))

  ran_off : (m : ℕ) (k : Kind) (s : Status) → Permits k s → (d : Code) → Quiet n d → ReadOff (leaf m k) (number (suc n) (s ∷ d)) (added S (entry m s))
  ran_off m k s a d q = run_off s d ((entry m s ∷ []) ∷ q.runs) q.short (l_run (f_leaf a) q.by) (nothing_above (added S (entry m s)) q.by)

  -- every set of a family is left by levels
  read_off : (P : Process) {c : ℕ} {X : S.Set} → levels P ≤ suc n → InFamilyBy (any_levels n) S P c X → ReadOff P c X
  read_off done h m =
      elim (out_done_family (any_levels n) S m) [
        | not_run e x ↦ carried e x none_off
        | finished a i x ↦ leaf_off ok (λ d q. run_off ok d ([] ∷ q.runs) q.short (l_run f_done q.by) (ap (set_of S) (no_levels (omega arith) q.by))) i x
        | failed a i x ↦ absurd (true≢false (sym a))
      ]
  read_off (leaf m k) h i =
      elim (out_leaf_family (any_levels n) S m k i) [
        | not_run e x ↦ carried e x none_off
        | finished a j x ↦ leaf_off ok (ran_off m k ok a) j x
        | failed a j x ↦ leaf_off fail (ran_off m k fail a) j x
      ]
  read_off (node f P Q) h m =
      elim (out_node_family (any_levels n) S f P Q m) [
        | from_sides {l = l} {r = r} i j e k z ↦
            let u = read_off P (left_levels f P Q h) i in
            let v = read_off Q (right_levels f P Q h) j in
            let o = node_levels_lem n f l r h e k u.by v.by in
            record {
              runs = _;
              by = o.made;
              leaves = ap (set_of S) o.same_run ∙ interleaved_set S laws (joined_interleaves f true u.runs v.runs) ∙ ap₂ S.union u.leaves v.leaves ∙ z;
            }
      ]

  -- the set of levels is listed under their number
  listed : (P : Process) {c : Code} {rs : List Run} → levels P ≤ suc n → Levels P c rs → InFamilyBy (any_levels n) S P (number (suc n) c) (set_of S (whole rs))
  listed done h l_none = in_done_family (any_levels n) S (not_run refl refl)
  listed done h (l_run f_done l) = in_done_family (any_levels n) S (finished refl (in_leaf_codes n ok l) (ap (set_of S) (no_levels (omega arith) l)))
  listed (leaf m k) h l_none = in_leaf_family (any_levels n) S m k (not_run refl refl)
  listed (leaf m k) h (l_run (f_leaf {s = ok} a) l) = in_leaf_family (any_levels n) S m k (finished a (in_leaf_codes n ok l) (nothing_above (S.single m) l))
  listed (leaf m k) h (l_run (f_leaf {s = fail} a) l) = in_leaf_family (any_levels n) S m k (failed a (in_leaf_codes n fail l) (nothing_above S.empty l))
  listed (node f P Q) {c} h l =
      elim (split l) [
        | parts {ps = ps} m k j i ↦
            let s = cell_of_levels n f P h j k in
            in_node_family (any_levels n) S f P Q
            (from_sides (listed P (left_levels f P Q h) m) (listed Q (right_levels f P Q h) s.right) s.has_cell (number_small (suc n) c)
            (ap (λ r. S.union (set_of S (whole ps)) (set_of S r)) s.right_run ∙ sym (interleaved_set S laws i)))
      ]

  pub exact_at : (P : Process) (s : Status) (X : S.Set) → undo_depth P ≤ n → InPlanAt n S P s X ↔ Leaves S P s X
  exact_at P s X h = (λ (c, e, m). up c e m, λ (r, d, y). down r d y)
    where
      low : levels P ≤ suc n
      low = omega (arith, levels_depth P)

      up : (c : Code) → Ends c s → InFamilyBy (any_levels n) S P (number (suc n) c) X → Leaves S P s X
      up c e m = let u = read_off P low m in (whole u.runs, final_run n low e (rw (code_of_number (suc n) c) at u.by), u.leaves)

      down : (r : Run) → Complete P r s → set_of S r ≡ X → InPlanAt n S P s X
      down r d y = let (c, rs, e, l, x) = levels_of d in (c, e, rw (ap (set_of S) x ∙ y) at (listed P low l))
