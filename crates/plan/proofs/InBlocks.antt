-- An accepted file is written as the blocks of the bodies that its layout names: each block from where the one before it ends.
use mathlib.Core.Path.{◌≡◌, ap, ◌∙◌}
use mathlib.Core.List.{List, [], ◌++◌, append-nil}
use Rattle.std.specs.Prelude.{Ok}
use Prim.Native.Nat.{ℕ}
use lib.ListN.{drop}
use lib.Seq.{drop-length}
use Rattle.blocks.specs.Block.{block}
use Rattle.plan.specs.Demand1.{InBlocks}
use Rattle.plan.specs.PlanFile.{most_actions, most_pairs, Bytes}
use Rattle.plan.specs.Reading.{bytes_of, end_of, read_of}
use Rattle.plan.specs.declared.Layout.{Layout}
use Rattle.plan.proofs.Accepted.{accepted_laid}
use Rattle.plan.proofs.Blocks.{block_here}

pub in_blocks : (s : List ℕ) → Bytes s → (l : Layout) → read_of s ≡ Ok l → InBlocks s l
in_blocks s bytes l h =
    let b = accepted_laid most_actions most_pairs s l h in
    let t = b.types in
    let p = b.pairs in
    let n = b.nodes in
    let r = b.rule in
    let e1 = block_here s bytes 0 1 l.types t.start t.size t.due t.inside in
    let e2 = block_here s bytes (end_of l.types) 2 l.pairs p.start p.size p.due p.inside in
    let e3 = block_here s bytes (end_of l.pairs) 3 l.nodes n.start n.size n.due n.inside in
    let e4 = block_here s bytes (end_of l.nodes) 4 l.rule r.start r.size r.due r.inside in
    let nothing : drop (end_of l.rule) s ≡ [] = rw b.end (drop-length s) in
    let last : drop (end_of l.nodes) s ≡ block 4 (bytes_of s l.rule) = e4 ∙ rw (nothing, append-nil (bytes_of s l.rule)) in
    e1 ∙ ap (λ (x : List ℕ). block 1 (bytes_of s l.types) ++ x)
    (e2 ∙ ap (λ (x : List ℕ). block 2 (bytes_of s l.pairs) ++ x) (e3 ∙ ap (λ (x : List ℕ). block 3 (bytes_of s l.nodes) ++ x) last))
