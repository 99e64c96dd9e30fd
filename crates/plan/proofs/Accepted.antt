-- What the reader's answer says of an accepted file: where its four bodies lie, one after the other, and that each passed its checks.
use mathlib.Core.Path.{◌≡◌, refl}
use mathlib.Core.Bool.{Bool, true, false, cond}
use mathlib.Core.List.{List}
use Prim.Native.Nat.{ℕ, ◌+◌, ◌*◌, ◌≤◌}
use native.Mathlib.Omega.{arith}
use Rattle.std.specs.Prelude.{Ok, Err}
use lib.Dec.{eqb}
use lib.ListN.{length}
use borrow.Author.Tests.{eqb-true}
use Rattle.plan.specs.Reading.{end_of, block_at, with_rule, with_nodes, with_pairs, with_types, read_within}
use Rattle.plan.specs.declared.Fault.TheVariants.{Cut}
use Rattle.plan.specs.declared.Layout.{Layout}
use Rattle.plan.proofs.Checks.{err_no_ok}
use Rattle.plan.proofs.Lengths.{at_most, sized_bytes, sized_pairs, sized_nodes}
use Rattle.plan.proofs.Lying.{Lying, lying, passed, same_value}

pub record Laid (action_limit pair_limit : ℕ) (s : List ℕ) (l : Layout) : Type 0 where
  pub types : Lying s 0 1 action_limit 0 l.types
  pub pairs : Lying s (end_of l.types) 2 pair_limit l.types.len l.pairs
  pub nodes : Lying s (end_of l.pairs) 3 63 l.types.len l.nodes
  pub rule : Lying s (end_of l.nodes) 4 127 l.types.len l.rule
  pub end : end_of l.rule ≡ length s

ended : (t : Bool) (k l : Layout) → cond t (Ok k) (Err Cut) ≡ Ok l → (t ≡ true) × (k ≡ l)
ended true k l h = (refl, same_value k l h)
ended false k l h = err_no_ok Cut l h

module _ (action_limit pair_limit : ℕ) (s : List ℕ) (l : Layout) where
  pub accepted_laid : read_within action_limit pair_limit s ≡ Ok l → Laid action_limit pair_limit s l
  accepted_laid h =
      let (t, ht, h1) = passed (block_at s 0 1 action_limit 0) (with_types pair_limit s) l h in
      let (p, hp, h2) = passed (block_at s (end_of t) 2 pair_limit t.len) (with_pairs s t) l h1 in
      let (n, hn, h3) = passed (block_at s (end_of p) 3 63 t.len) (with_nodes s t p) l h2 in
      let (r, hr, h4) = passed (block_at s (end_of n) 4 127 t.len) (with_rule s t p n) l h3 in
      let k : Layout = record { types = t; pairs = p; nodes = n; rule = r } in
      let (e, same) = ended (eqb (end_of r) (length s)) k l h4 in
      let bodies : Laid action_limit pair_limit s k = record {
        types = lying s 0 1 action_limit 0 t ht;
        pairs = lying s (end_of t) 2 pair_limit t.len p hp;
        nodes = lying s (end_of p) 3 63 t.len n hn;
        rule = lying s (end_of n) 4 127 t.len r hr;
        end = eqb-true (end_of r) (length s) e;
      } in
      rw same at bodies

  -- so many bytes at the most
  pub most_bytes : Laid action_limit pair_limit s l → length s ≤ 332 + action_limit + 2 * pair_limit
  most_bytes b =
      let t = at_most ((sized_bytes action_limit l.types.len).0 b.types.permitted) in
      let p = at_most ((sized_pairs pair_limit l.pairs.len).0 b.pairs.permitted) in
      let n = at_most ((sized_nodes 63 l.nodes.len).0 b.nodes.permitted) in
      let r = at_most ((sized_bytes 127 l.rule.len).0 b.rule.permitted) in
      omega (arith, b.types.start, b.pairs.start, b.nodes.start, b.rule.start, b.end)
