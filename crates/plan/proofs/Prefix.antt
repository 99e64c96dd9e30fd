-- A longer input than any plan file is refused by the number of its beginning: no check that decides looks past the bytes that the
-- permitted lengths add up to. Block by block, each check says of the beginning what it says of the whole.
use mathlib.Core.Path.{◌≡◌, refl}
use mathlib.Core.Bool.{true, false, cond}
use mathlib.Core.List.{List}
use mathlib.Core.Logic.{◌⊎◌, inl, inr}
use Prim.Native.Nat.{ℕ, ◌+◌, ◌*◌, ◌≤◌, ◌<◌}
use native.Mathlib.Omega.{arith}
use Rattle.std.specs.Prelude.{Option, Some, None, Result, Ok, Err}
use lib.Dec.{eqb}
use lib.ListN.{length, take, drop, length-take, length-drop}
use lib.Seq.{get_or-take, get_or-drop, ext_get_or, length-take-le}
use borrow.Author.Tests.{le-leb, ne_eqb}
use Rattle.blocks.specs.Block.{heading_at}
use Rattle.blocks.specs.declared.Part.{Part}
use Rattle.blocks.specs.declared.Heading.{Heading}
use Rattle.blocks.proofs.Bounded.{decide}
use Rattle.plan.specs.Reading.{length_ok, body_at, on_heading, block_at, on_ok, end_of, with_rule, with_nodes, with_pairs, with_types, read_within}
use Rattle.plan.specs.declared.Fault.{Fault}
use Rattle.plan.specs.declared.Fault.TheVariants.{Kind}
use Rattle.plan.specs.declared.Layout.{Layout}
use Rattle.plan.proofs.Lengths.{at_most, sized_bytes, sized_pairs, sized_nodes}
use Rattle.plan.proofs.Lying.{lying}

module _ (s : List ℕ) (n : ℕ) (long : n ≤ length s) where
  beginning_long : length (take n s) ≡ n
  beginning_long = length-take-le n s long

  -- a part that lies in the beginning
  same_part : (k m : ℕ) → k + m ≤ n → take m (drop k (take n s)) ≡ take m (drop k s)
  same_part k m h =
      ext_get_or 0 (take m (drop k (take n s))) (take m (drop k s))
      (simp (length-take, length-drop) (omega arith))
      (λ i l.
      let j : i < m = omega (arith, l, length-take m (drop k (take n s))) in
      rw (get_or-take m (drop k (take n s)) i 0 j, get_or-take m (drop k s) i 0 j, get_or-drop k (take n s) i 0, get_or-drop k s i 0) (get_or-take n s (k + i) 0 (omega arith)))

  same_heading : (at : ℕ) → at + 4 ≤ n → heading_at (take n s) at ≡ heading_at s at
  same_heading at h =
      rw (beginning_long, le-leb (at + 4) n h, le-leb (at + 4) (length s) (omega arith), get_or-take n s at 0 (omega arith), get_or-take n s (at + 1) 0 (omega arith), get_or-take n s (at + 2) 0 (omega arith), get_or-take n s (at + 2 + 1) 0 (omega arith))

  module _ (at kind most actions longest : ℕ) (short : (m : ℕ) → length_ok kind most m ≡ true → m ≤ longest) (room : at + 4 + longest ≤ n) where
    same_body : (m : ℕ) → body_at (take n s) at kind most actions m ≡ body_at s at kind most actions m
    same_body m = go (decide (length_ok kind most m))
      where
        go : (length_ok kind most m ≡ true) ⊎ (length_ok kind most m ≡ false) → body_at (take n s) at kind most actions m ≡ body_at s at kind most actions m
        go (inr e) = rw e
        go (inl e) =
            let l = short m e in
            rw (e, beginning_long, le-leb (at + 4 + m) n (omega arith), le-leb (at + 4 + m) (length s) (omega arith), same_part (at + 4) m (omega arith))

    pub same_block : block_at (take n s) at kind most actions ≡ block_at s at kind most actions
    same_block = rw (same_heading at (omega arith)) (go (heading_at s at))
      where
        go : (h : Option Heading) → on_heading h (λ k m. cond (eqb k kind) (body_at (take n s) at kind most actions m) (Err Kind)) ≡ on_heading h (λ k m. cond (eqb k kind) (body_at s at kind most actions m) (Err Kind))
        go (Some h) = rw (same_body h.len)
        go None = refl

-- what follows a block may use where its body lies
next_block : (b : Result Part Fault) (f g : Part → Result Layout Fault) → ((p : Part) → b ≡ Ok p → f p ≡ g p) → on_ok b f ≡ on_ok b g
next_block (Ok p) f g h = h p refl
next_block (Err k) f g h = refl

module _ (action_limit pair_limit : ℕ) (s : List ℕ) (n : ℕ) (long : n ≤ length s) where
  -- from each block on, where what may still come lies in the beginning
  from_rule : (t p o : Part) → end_of o + 131 < n → with_nodes (take n s) t p o ≡ with_nodes s t p o
  from_rule t p o h =
      rw (same_block s n long (end_of o) 4 127 t.len 127 (λ m e. omega (arith, at_most ((sized_bytes 127 m).0 e))) (omega arith))
      (next_block (block_at s (end_of o) 4 127 t.len) (with_rule (take n s) t p o) (with_rule s t p o) ends)
    where
      ends : (r : Part) → block_at s (end_of o) 4 127 t.len ≡ Ok r → with_rule (take n s) t p o r ≡ with_rule s t p o r
      ends r e =
          let l = lying s (end_of o) 4 127 t.len r e in
          let k = at_most ((sized_bytes 127 r.len).0 l.permitted) in
          rw (beginning_long s n long, ne_eqb (end_of r) n (λ z. omega (arith, l.start, k)), ne_eqb (end_of r) (length s) (λ z. omega (arith, l.start, k)))

  from_nodes : (t p : Part) → end_of p + 324 < n → with_pairs (take n s) t p ≡ with_pairs s t p
  from_nodes t p h =
      rw (same_block s n long (end_of p) 3 63 t.len 189 (λ m e. omega (arith, at_most ((sized_nodes 63 m).0 e))) (omega arith))
      (next_block (block_at s (end_of p) 3 63 t.len) (with_nodes (take n s) t p) (with_nodes s t p) (λ o e.
      let l = lying s (end_of p) 3 63 t.len o e in
      from_rule t p o (omega (arith, l.start, at_most ((sized_nodes 63 o.len).0 l.permitted)))))

  from_pairs : (t : Part) → end_of t + 328 + 2 * pair_limit < n → with_types pair_limit (take n s) t ≡ with_types pair_limit s t
  from_pairs t h =
      rw (same_block s n long (end_of t) 2 pair_limit t.len (2 * pair_limit) (λ m e. at_most ((sized_pairs pair_limit m).0 e)) (omega arith))
      (next_block (block_at s (end_of t) 2 pair_limit t.len) (with_pairs (take n s) t) (with_pairs s t) (λ p e.
      let l = lying s (end_of t) 2 pair_limit t.len p e in
      from_nodes t p (omega (arith, l.start, at_most ((sized_pairs pair_limit p.len).0 l.permitted)))))

  pub beginning_decides : 332 + action_limit + 2 * pair_limit < n → read_within action_limit pair_limit (take n s) ≡ read_within action_limit pair_limit s
  beginning_decides h =
      rw (same_block s n long 0 1 action_limit 0 action_limit (λ m e. omega (arith, at_most ((sized_bytes action_limit m).0 e))) (omega arith))
      (next_block (block_at s 0 1 action_limit 0) (with_types pair_limit (take n s)) (with_types pair_limit s) (λ t e.
      let l = lying s 0 1 action_limit 0 t e in
      from_pairs t (omega (arith, l.start, at_most ((sized_bytes action_limit t.len).0 l.permitted)))))
