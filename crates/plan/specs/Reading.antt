-- The reader's answer for every list of bytes, in document 01's order of checks: "For each block: heading 1, kind 2, length 3, body 1,
-- contents; nodes are checked for 6, then 7, then 8. Trailing bytes come last."
use Rattle.std.specs.Prelude.{Bool, false, cond, List, ℕ, ◌+◌, ◌*◌, ◌%◌, leb, eqb, length, take, drop, Option, None, Some, Result, Ok, Err}
use Rattle.std.proofs.Math.Option as maybe
use Rattle.blocks.specs.Block.{heading_at, body_fits}
use Rattle.blocks.specs.declared.Part.{Part}
use Rattle.blocks.specs.declared.Heading.{Heading}
use Rattle.bodies.specs.Types.{types_ok}
use Rattle.bodies.specs.Pairs.{pairs_ok}
use Rattle.nodes.specs.NodeTests.{checked}
use Rattle.nodes.specs.declared.Fault as nodes
use Rattle.bodies.specs.Rule.{rule_ok}
use Rattle.plan.specs.PlanFile.{most_actions, most_pairs}
use Rattle.plan.specs.Fault.{number}
use Rattle.plan.specs.declared.Fault.{Fault}
use Rattle.plan.specs.declared.Fault.TheVariants.{Cut, Kind, Length, Types, Pairs, Nodes, Rule}
use Rattle.plan.specs.declared.Layout.{Layout}

-- The body lengths that are permitted: 1 to `most` actions of a byte, 0 to `most` pairs of two, 1 to `most` nodes of three, 1 to `most`
-- bytes of rule.
abbrev pub length_ok : ℕ → ℕ → ℕ → Bool
length_ok kind most n =
    cond (eqb kind 2) (cond (eqb (n % 2) 0) (leb n (2 * most)) false)
    (cond (eqb kind 3) (cond (eqb (n % 3) 0) (cond (leb 1 n) (leb n (3 * most)) false) false)
    (cond (leb 1 n) (leb n most) false))

-- what comes after a step goes on with its value, and its fault ends the reading
abbrev pub on_ok : {A B : Type 0} → Result A Fault → (A → Result B Fault) → Result B Fault
on_ok (Ok a) next = next a
on_ok (Err f) next = Err f

-- what the nodes' checks found, as the reader's fault
abbrev pub of_nodes : Result Unit nodes.Fault → Result Unit Fault
of_nodes (Ok u) = Ok tt
of_nodes (Err f) = Err (Nodes f)

abbrev pub unless : Bool → Fault → Result Unit Fault
unless holds f = cond holds (Ok tt) (Err f)

-- The first check of a body's contents that fails.
abbrev pub contents : ℕ → ℕ → List ℕ → Result Unit Fault
contents kind actions b =
    cond (eqb kind 1) (unless (types_ok b) Types)
    (cond (eqb kind 2) (unless (pairs_ok actions b) Pairs)
    (cond (eqb kind 3) (of_nodes (checked actions b)) (unless (rule_ok actions b) Rule)))

-- the bytes of a part of the file
abbrev pub bytes_of : List ℕ → Part → List ℕ
bytes_of s p = take p.len (drop p.at s)

abbrev pub end_of : Part → ℕ
end_of p = p.at + p.len

abbrev pub body_at : List ℕ → ℕ → ℕ → ℕ → ℕ → ℕ → Result Part Fault
body_at s at kind most actions n =
    cond (length_ok kind most n)
    (cond (body_fits s at n)
    (on_ok (contents kind actions (take n (drop (at + 4) s))) (λ _. Ok (record { at = at + 4; len = n })))
    (Err Cut))
    (Err Length)

abbrev pub on_heading : Option Heading → (ℕ → ℕ → Result Part Fault) → Result Part Fault
on_heading (Some h) next = next h.kind h.len
on_heading None next = Err Cut

-- The block of the kind due at `at`: where its body lies, or what is wrong with it.
abbrev pub block_at : List ℕ → ℕ → ℕ → ℕ → ℕ → Result Part Fault
block_at s at kind most actions =
    on_heading (heading_at s at) (λ k n. cond (eqb k kind) (body_at s at kind most actions n) (Err Kind))

abbrev pub node_limit : ℕ
node_limit = 63

abbrev pub rule_limit : ℕ
rule_limit = 127

-- The four blocks, each from the end of the one before it, and the end of the file. The number of actions is the length of the types.
abbrev pub with_rule : List ℕ → Part → Part → Part → Part → Result Layout Fault
with_rule s types pairs nodes rule =
    cond (eqb (end_of rule) (length s)) (Ok (record { types = types; pairs = pairs; nodes = nodes; rule = rule })) (Err Cut)

abbrev pub with_nodes : List ℕ → Part → Part → Part → Result Layout Fault
with_nodes s types pairs nodes = on_ok (block_at s (end_of nodes) 4 rule_limit types.len) (with_rule s types pairs nodes)

abbrev pub with_pairs : List ℕ → Part → Part → Result Layout Fault
with_pairs s types pairs = on_ok (block_at s (end_of pairs) 3 node_limit types.len) (with_nodes s types pairs)

abbrev pub with_types : ℕ → List ℕ → Part → Result Layout Fault
with_types pair_limit s types = on_ok (block_at s (end_of types) 2 pair_limit types.len) (with_pairs s types)

-- the answer under limits for actions and pairs
abbrev pub read_within : ℕ → ℕ → List ℕ → Result Layout Fault
read_within action_limit pair_limit s = on_ok (block_at s 0 1 action_limit 0) (with_types pair_limit s)

-- the answer for a plan file
abbrev pub read_of : List ℕ → Result Layout Fault
read_of s = read_within most_actions most_pairs s

-- document 01's number for each answer: a refusal has its number and an acceptance none, so that no number passes for an acceptance
abbrev pub number_of : Result Layout Fault → maybe.Option ℕ
number_of (Ok l) = maybe.none
number_of (Err f) = maybe.some (number f)
