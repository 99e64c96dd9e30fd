-- The fold over a process: under each settled code the least failed entries of the levels with the code that meet the wishes, and so of its complete runs. By the
-- chart of three levels: a cell makes the levels of a node from those of its sides, and the levels of a node have such a cell, whose sides are settled where it is.
use mathlib.Core.Path.{◌≡◌, refl, sym, ◌∙◌, ap, ap₂}
use mathlib.Core.Bool.{true, not}
use mathlib.Core.List.{List}
use mathlib.Core.Logic.{◌⊎◌, inl, inr}
use Prim.Native.Nat.{ℕ, ◌+◌, ◌≤◌, ◌<◌, min}
use native.Mathlib.Omega.{arith}
use lib.ListN.{take}
use Rattle.process.specs.Process.{Status, Form, Process, done, leaf, node, Run}
use Rattle.process.specs.Forms.{form_number}
use Rattle.process.specs.Leaves.{AsWritten, Distinct, Apart}
use Rattle.reorder.specs.Entries.{failures}
use Rattle.outcomes.specs.Codes.{Code, number}
use Rattle.outcomes.specs.Joins.{code_of}
use Rattle.outcomes.specs.ThreeLevels.{unsettled, cell3, Final3, final_1, final_9, final_13, final_14}
use Rattle.outcomes.proofs.Levels.{Levels, whole, levels_of, parts, split, joined_interleaves}
use Rattle.outcomes.proofs.Depth.{levels, levels_depth, left_levels, right_levels, cut_levels, cut_whole}
use Rattle.outcomes.proofs.Numbers.{number_small, code_of_number, number_of_code}
use Rattle.outcomes.proofs.Nodes.{node_levels_lem, final_run, cell_of_levels}
use Rattle.outcomes.proofs.ThreeLevels.{three, cell_settled, final_number, final_code}
use Rattle.fewest.specs.Wishes.{Wish, Meets, Possible}
use Rattle.fewest.specs.Costs.{unreached, cost_of, costs_of}
use Rattle.fewest.specs.Least.{LeastBelow}
use Rattle.fewest.specs.Fewest.{FewestLeast}
use Rattle.fewest.proofs.Least.{least_as, least_either}
use Rattle.fewest.proofs.Sides.{interleaved_failures, levels_of_leaves, meets_both, meets_left, meets_right}
use Rattle.fewest.proofs.LeafCosts.{Can, Counted, leaf_counted}
use Rattle.fewest.proofs.NodeCosts.{Told, Rows, node_told}

module _ (may : ℕ → Wish) where
  -- levels under the number of their code
  numbered : (P : Process) {c : Code} {rs : List Run} → levels P ≤ 3 → not (unsettled (number 3 c)) ≡ true → Levels P c rs → Meets may P (whole rs) → Counted may P (number 3 c) (failures (whole rs))
  numbered P {c} {rs} h u l a =
      let x = cut_whole 3 h l in
      record { settled = u; can = record { runs = take 3 rs; by = rw (code_of_number 3 c) (cut_levels 3 l); meets = rw x a; fails = rw x } }

  module _ (f : Form) (P Q : Process) (d : Apart P Q) (h : levels (node f P Q) ≤ 3) (c : ℕ) (low : c < 15) where
    abbrev Pairs : ℕ → Type 0
    Pairs m = Rows (Counted may P) (Counted may Q) (cell3 (form_number f)) 15 c m

    make : (m : ℕ) → Pairs m → Counted may (node f P Q) c m
    make m p =
        let q = p.member in
        let s = q.member.sum in
        let a = s.has_first.can in
        let b = s.has_second.can in
        let (z, _) = three.cell_in f p.at q.at c p.low q.low q.member.is low in
        let n = node_levels_lem 2 f p.at q.at h z low a.by b.by in
        let i = joined_interleaves f true a.runs b.runs in
        let y = n.same_run in
        record {
          settled = rw (← q.member.is, cell_settled (form_number f) p.at q.at);
          can = record { runs = _; by = n.made; meets = rw y (meets_both i a.meets b.meets); fails = rw y (interleaved_failures i ∙ ap₂ ◌+◌ a.fails b.fails ∙ s.adds) };
        }

    part : (m : ℕ) {e : Code} {rs : List Run} → not (unsettled c) ≡ true → number 3 e ≡ c → Levels (node f P Q) e rs → Meets may (node f P Q) (whole rs) → failures (whole rs) ≡ m → Pairs m
    part m {e} t z l a y =
        elim (split l) [
          | parts {a = u} {ps = ps} g k j i ↦
              let s = cell_of_levels 2 f P h j k in
              let i' = rw (sym s.right_run) at i in
              let x = meets_left i' d (levels_of_leaves s.right) a in
              let w = meets_right i' d (levels_of_leaves g) a in
              let (cell, _, v, v') = three.cell_kept f (number 3 u) (number 3 s.code) c (number_small 3 u) (number_small 3 s.code) t (s.has_cell ∙ z) low in
              record {
                at = number 3 u;
                low = number_small 3 u;
                member = record {
                  at = number 3 s.code;
                  low = number_small 3 s.code;
                  member = record {
                    is = cell;
                    sum = record {
                      first = failures (whole ps);
                      second = failures (whole s.runs);
                      has_first = numbered P (left_levels f P Q h) v g x;
                      has_second = numbered Q (right_levels f P Q h) v' s.right w;
                      adds = sym (interleaved_failures i') ∙ y;
                    };
                  };
                };
              }
        ]

  costs_told : (P : Process) → AsWritten P → Distinct P → levels P ≤ 3 → Told (Counted may P) (costs_of may P)
  costs_told done w d h = absurd w
  costs_told (leaf n k) w d h = record { fifteen = refl; each = leaf_counted may n k }
  costs_told (node f P Q) w d h =
      let t = node_told (cell3 (form_number f)) (costs_told P w.0 d.0 (left_levels f P Q h)) (costs_told Q w.1 d.1 (right_levels f P Q h)) 15 (omega arith) in
      record {
        fifteen = t.fifteen;
        each = λ c low. least_as (t.each c low) (make f P Q d.2 h c low) (λ m a. part f P Q d.2 h c low m a.settled (number_of_code 3 c low) a.can.by a.can.meets a.can.fails);
      }

-- the codes of complete runs
pub fewest_least : FewestLeast
fewest_least may P w d g = least_as (least_or 1 (omega arith) (least_or 9 (omega arith) (least_or 13 (omega arith) (at 14 (omega arith))))) (λ k a. up k a) (λ k a. down k a)
  where
    h : levels P ≤ 3
    h = omega (arith, levels_depth P)

    at : (c : ℕ) → c < 15 → LeastBelow unreached (Counted may P c) (cost_of (costs_of may P) c)
    at c low = (costs_told may P w d h).each c low

    least_or : (c : ℕ) → c < 15 → {F : ℕ → Type 0} {x : ℕ} → LeastBelow unreached F x → LeastBelow unreached (λ k. Counted may P c k ⊎ F k) (min (cost_of (costs_of may P) c) x)
    least_or c low {x = x} a = least_either (cost_of (costs_of may P) c) x (at c low).reached (at c low).least a

    Ended : ℕ → Type 0
    Ended k = Counted may P 1 k ⊎ (Counted may P 9 k ⊎ (Counted may P 13 k ⊎ Counted may P 14 k))

    whole_run : {c : ℕ} {s : Status} (k : ℕ) → Final3 c s → Can may P (code_of 3 c) k → Possible may P k
    whole_run {s = s} k f a = let (e, x, z) = final_code f in (whole a.runs, s, final_run 2 h x (rw (code_of_number 3 e) at (rw (sym z) at a.by)), a.meets, a.fails)

    up : (k : ℕ) → Ended k → Possible may P k
    up k (inl a) = whole_run k final_1 a.can
    up k (inr (inl a)) = whole_run k final_9 a.can
    up k (inr (inr (inl a))) = whole_run k final_13 a.can
    up k (inr (inr (inr a))) = whole_run k final_14 a.can

    sort : {c : ℕ} {s : Status} (k : ℕ) → Final3 c s → (not (unsettled c) ≡ true → Counted may P c k) → Ended k
    sort k final_1 a = inl (a refl)
    sort k final_9 a = inr (inl (a refl))
    sort k final_13 a = inr (inr (inl (a refl)))
    sort k final_14 a = inr (inr (inr (a refl)))

    down : (k : ℕ) → Possible may P k → Ended k
    down k (r, s, d, a, z) =
        let (c, rs, e, l, x) = levels_of d in
        sort k (final_number e) (λ u. rw (ap failures x ∙ z) at (numbered may P h u l (rw (sym x) at a)))
