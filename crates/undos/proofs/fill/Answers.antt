-- `undos::fill` meets its contract: each mask has the undos of the pairs passed.
use Rattle.std.proofs.Common.{ℕ, ◌*◌, ◌<◌, get_or, refl, rules, arith}
use lib.ListN.{get_or-replicate}
use Rattle.undos.specs.Masks.{undos_in}
use Rattle.undos.proofs.More.{masks_more}
use Rattle.undos.proofs.fill.Goals as goal

pub loop-i-init : goal.loop-i-init
unfolding undos_in
loop-i-init c = (refl, λ a l. get_or-replicate {A = ℕ} 256 a 0 0 l)

pub loop-i-preserved : goal.loop-i-preserved
loop-i-preserved c =
    let pairs = c.args.pairs.now in
    let byte : get_or pairs (2 * c.loop-i.i) 0 < 256 = search rules in
    (c.add_undo.array_long, rw (c.add_undo.ensures, c.pair_at-action.ensures.0, c.pair_at-action.ensures.1) (masks_more pairs c.loop-i.masks c.loop-i.i (omega arith) c.loop-i.invariant.1))
