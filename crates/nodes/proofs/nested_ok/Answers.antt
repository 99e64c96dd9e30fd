-- `nodes::nested_ok` meets its contract: the table of the nodes passed is filled, and none of them is too deep.
use Rattle.std.proofs.Common.{arith, ◌≡◌, sym}
use borrow.Author.Tests.{le-leb, lt-leb}
use Rattle.process.specs.Depth.{most_undos}
use Rattle.blocks.proofs.Bounded.{every_fails, passed_all}
use Rattle.nodes.specs.Nodes.{count, right}
use Rattle.nodes.specs.NodeTests.{depth_at}
use Rattle.nodes.proofs.Nested.{depth_test, kept_none, kept_small, kept_entry, kept_more}
use Rattle.nodes.proofs.nested_ok.Goals as goal

pub loop-i-init : goal.loop-i-init
loop-i-init c = kept_none c.args.b.now _

pub depth_of-d-requires : goal.depth_of-d-requires
depth_of-d-requires c =
    let b = c.args.b.now in
    rw c.node_at.ensures λ f.
    let k = c.requires.1 c.loop-i.i (omega arith) f in
    (omega (arith, k.0), omega (arith, k.1), kept_small b 63 c.loop-i.i (right b c.loop-i.i) c.loop-i.depths k.1 c.loop-i.invariant)

pub returns-then-d-gt-UNDOS : goal.returns-then-d-gt-UNDOS
returns-then-d-gt-UNDOS c =
    let b = c.args.b.now in
    let found : c.depth_of-d.result ≡ depth_at b c.loop-i.i = kept_entry b c.requires.1 63 c.loop-i.i c.loop-i.depths _ (omega arith) (rw c.node_at.ensures at c.depth_of-d.ensures) c.loop-i.invariant in
    sym (every_fails (depth_test b) (count b) c.loop-i.i (omega arith) (lt-leb (depth_at b c.loop-i.i) most_undos (omega arith)))

pub loop-i-preserved : goal.loop-i-preserved
loop-i-preserved c =
    let b = c.args.b.now in
    let found : c.depth_of-d.result ≡ depth_at b c.loop-i.i = kept_entry b c.requires.1 63 c.loop-i.i c.loop-i.depths _ (omega arith) (rw c.node_at.ensures at c.depth_of-d.ensures) c.loop-i.invariant in
    let t = le-leb (depth_at b c.loop-i.i) most_undos (omega arith) in
    kept_more b c.requires.1 63 c.loop-i.i c.loop-i.depths _ (omega arith) (rw c.node_at.ensures at c.depth_of-d.ensures) c.loop-i.invariant (omega arith) t

pub returns : goal.returns
returns c =
    let b = c.args.b.now in
    sym (passed_all (depth_test b) (count b) c.loop-i.i (omega arith) c.loop-i.invariant.passed)
