-- Demand 1, said without a reader: a list of bytes is accepted exactly where it is a plan file, and refused by a number exactly where
-- that is document 01's number for what is wrong with it. One way the reader's answer is followed through the blocks, each in order or
-- broken; the other way the reader goes past the blocks in order to the place of the fault, or to the end.
use mathlib.Core.Path.{◌≡◌, refl, ap, ◌∙◌}
use mathlib.Core.List.{List, [], ◌++◌, append-nil}
use mathlib.Core.Logic.{◌↔◌}
use Prim.Native.Nat.{ℕ, ◌+◌, ◌≤◌}
use native.Mathlib.Omega.{arith}
use Rattle.std.specs.Prelude.{Result, Ok, Err}
use Rattle.std.proofs.Math.Option.{some, none-ne-some, some-injective}
use lib.ListN.{length, drop}
use lib.Seq.{drop-length}
use lib.Dec.{eqb}
use borrow.Author.Tests.{eqb-true, eqb-false, eq-eqb, ne_eqb}
use Rattle.blocks.specs.Block.{block}
use Rattle.blocks.specs.declared.Part.{Part}
use Rattle.plan.specs.PlanFile.{Bytes, TypesBody, PairsBody, NodesBody, Bodies, PlanFile}
use Rattle.plan.specs.Refusals.{Broken}
use Rattle.plan.specs.Demand1.{Holds}
use Rattle.plan.specs.Fault.{number}
use Rattle.plan.specs.Reading.{bytes_of, end_of, with_rule, with_nodes, with_pairs, with_types, read_within, number_of}
use Rattle.plan.specs.declared.Fault.{Fault}
use Rattle.plan.specs.declared.Fault.TheVariants.{Cut}
use Rattle.plan.specs.declared.Layout.{Layout}
use Rattle.plan.proofs.Lengths.{at_most}
use Rattle.plan.proofs.Checks.{IsRefused, choose, types_checks, pairs_checks, nodes_checks, rule_checks}
use Rattle.plan.proofs.Accepted.{accepted_laid}
use Rattle.plan.proofs.Blocks.{body_length_lem, place, after_written, block_long}
use Rattle.plan.proofs.Steps.{in_order, past, stopped, by_block}

-- where the bodies lie in a file that is written as these blocks
abbrev types_part : List ℕ → Part
types_part T = place 0 T

abbrev pairs_part : List ℕ → List ℕ → Part
pairs_part T P = place (end_of (types_part T)) P

abbrev nodes_part : List ℕ → List ℕ → List ℕ → Part
nodes_part T P N = place (end_of (pairs_part T P)) N

abbrev rule_part : List ℕ → List ℕ → List ℕ → List ℕ → Part
rule_part T P N R = place (end_of (nodes_part T P N)) R

-- an answer that has a number is a refusal
refused_number : (r : Result Layout Fault) (n : ℕ) → number_of r ≡ some n → IsRefused r n
refused_number (Ok l) n h = absurd (none-ne-some n h)
refused_number (Err f) n h = (f, refl, some-injective (number f) n h)

module _ (action_limit pair_limit : ℕ) (limit : action_limit ≤ 128) (s : List ℕ) where
  abbrev answer : Result Layout Fault
  answer = read_within action_limit pair_limit s

  few : (T : List ℕ) → TypesBody action_limit T → length T ≤ 128
  few T t = omega (arith, at_most t.size)

  -- the bodies of an accepted file are in order
  pub accepted_holds : (l : Layout) → answer ≡ Ok l → Holds action_limit pair_limit s l
  accepted_holds l h =
      let b = accepted_laid action_limit pair_limit s l h in
      let t = in_order (types_checks action_limit) s 0 l.types b.types in
      let actions : length (bytes_of s l.types) ≡ l.types.len = body_length_lem s l.types b.types.inside in
      let limited : l.types.len ≤ 128 = omega (arith, few (bytes_of s l.types) t) in
      record {
        types_hold = t;
        pairs_hold = rw actions (in_order (pairs_checks pair_limit l.types.len) s (end_of l.types) l.pairs b.pairs);
        nodes_hold = rw actions (in_order (nodes_checks l.types.len) s (end_of l.pairs) l.nodes b.nodes);
        rule_holds = rw actions (in_order (rule_checks l.types.len limited) s (end_of l.nodes) l.rule b.rule);
      }

  -- past the blocks in order: what stands after them, and what the reader does next
  module _ (T rest : List ℕ) (e : s ≡ block 1 T ++ rest) (t : TypesBody action_limit T) where
    after_types : drop (end_of (types_part T)) s ≡ rest
    after_types = after_written s 0 1 T rest e

    past_types : answer ≡ with_types pair_limit s (types_part T)
    past_types = past (types_checks action_limit) s 0 T rest e t (with_types pair_limit s)

  module _ (T P rest : List ℕ) (e : s ≡ block 1 T ++ (block 2 P ++ rest)) (t : TypesBody action_limit T) (p : PairsBody pair_limit (length T) P) where
    after_pairs : drop (end_of (pairs_part T P)) s ≡ rest
    after_pairs = after_written s (end_of (types_part T)) 2 P rest (after_types T (block 2 P ++ rest) e t)

    past_pairs : answer ≡ with_pairs s (types_part T) (pairs_part T P)
    past_pairs =
        past_types T (block 2 P ++ rest) e t
        ∙ past (pairs_checks pair_limit (length T)) s (end_of (types_part T)) P rest (after_types T (block 2 P ++ rest) e t) p (with_pairs s (types_part T))

  module _ (T P N rest : List ℕ) (e : s ≡ block 1 T ++ (block 2 P ++ (block 3 N ++ rest))) (t : TypesBody action_limit T) (p : PairsBody pair_limit (length T) P) (n : NodesBody (length T) N) where
    after_nodes : drop (end_of (nodes_part T P N)) s ≡ rest
    after_nodes = after_written s (end_of (pairs_part T P)) 3 N rest (after_pairs T P (block 3 N ++ rest) e t p)

    past_nodes : answer ≡ with_nodes s (types_part T) (pairs_part T P) (nodes_part T P N)
    past_nodes =
        past_pairs T P (block 3 N ++ rest) e t p
        ∙ past (nodes_checks (length T)) s (end_of (pairs_part T P)) N rest (after_pairs T P (block 3 N ++ rest) e t p) n (with_nodes s (types_part T) (pairs_part T P))

  module _ (T P N R rest : List ℕ) (e : s ≡ block 1 T ++ (block 2 P ++ (block 3 N ++ (block 4 R ++ rest)))) (b : Bodies action_limit pair_limit T P N R) where
    to_rule : drop (end_of (nodes_part T P N)) s ≡ block 4 R ++ rest
    to_rule = after_nodes T P N (block 4 R ++ rest) e b.types_hold b.pairs_hold b.nodes_hold

    file_long : length s ≡ end_of (rule_part T P N R) + length rest
    file_long = block_long s (end_of (nodes_part T P N)) 4 R rest to_rule

    past_rule : answer ≡ with_rule s (types_part T) (pairs_part T P) (nodes_part T P N) (rule_part T P N R)
    past_rule =
        past_nodes T P N (block 4 R ++ rest) e b.types_hold b.pairs_hold b.nodes_hold
        ∙ past (rule_checks (length T) (few T b.types_hold)) s (end_of (nodes_part T P N)) R rest to_rule b.rule_holds (with_rule s (types_part T) (pairs_part T P) (nodes_part T P N))

  abbrev layout : PlanFile action_limit pair_limit s → Layout
  layout f =
      let T = f.types in
      let P = f.pairs in
      let N = f.nodes in
      record { types = types_part T; pairs = pairs_part T P; nodes = nodes_part T P N; rule = rule_part T P N f.rule }

  file_accepted : (f : PlanFile action_limit pair_limit s) → answer ≡ Ok (layout f)
  file_accepted f =
      let T = f.types in
      let P = f.pairs in
      let N = f.nodes in
      let R = f.rule in
      let e : s ≡ block 1 T ++ (block 2 P ++ (block 3 N ++ (block 4 R ++ []))) = f.blocks ∙ rw (append-nil R) in
      past_rule T P N R [] e f.hold ∙ rw (eq-eqb (end_of (rule_part T P N R)) (length s) (omega (arith, file_long T P N R [] e f.hold)))

  -- where the answer goes on with another, that is refused with it
  onward : {r : Result Layout Fault} {n : ℕ} → answer ≡ r → IsRefused r n → IsRefused answer n
  onward e (f, found, number) = (f, e ∙ found, number)

  broken_refused : (n : ℕ) → Broken action_limit pair_limit s n → IsRefused answer n
  broken_refused n (Broken.in_types f) = stopped (types_checks action_limit) s 0 s n refl f (with_types pair_limit s)
  broken_refused n (Broken.in_pairs T rest e t f) =
      onward (past_types T rest e t)
      (stopped (pairs_checks pair_limit (length T)) s (end_of (types_part T)) rest n (after_types T rest e t) f (with_pairs s (types_part T)))
  broken_refused n (Broken.in_nodes T P rest e t p f) =
      onward (past_pairs T P rest e t p)
      (stopped (nodes_checks (length T)) s (end_of (pairs_part T P)) rest n (after_pairs T P rest e t p) f (with_nodes s (types_part T) (pairs_part T P)))
  broken_refused k (Broken.in_rule T P N rest e t p n f) =
      onward (past_nodes T P N rest e t p n)
      (stopped (rule_checks (length T) (few T t)) s (end_of (nodes_part T P N)) rest k (after_nodes T P N rest e t p n) f (with_rule s (types_part T) (pairs_part T P) (nodes_part T P N)))
  broken_refused _ (Broken.bytes_after T P N R rest e b more) =
      (Cut, past_rule T P N R rest e b ∙ rw (ne_eqb (end_of (rule_part T P N R)) (length s) (λ z. omega (arith, file_long T P N R rest e b))), refl)

  -- whatever the answer is, it is right
  abbrev Right : Result Layout Fault → Type 0
  Right (Ok l) = PlanFile action_limit pair_limit s
  Right (Err f) = Broken action_limit pair_limit s (number f)

  right_at_end : (T P N R : List ℕ) → let after = drop (end_of (rule_part T P N R)) s in s ≡ block 1 T ++ (block 2 P ++ (block 3 N ++ (block 4 R ++ after)))
      → Bodies action_limit pair_limit T P N R → Right (with_rule s (types_part T) (pairs_part T P) (nodes_part T P N) (rule_part T P N R))
  right_at_end T P N R e b =
      let end = end_of (rule_part T P N R) in
      choose Right (eqb end (length s))
      (λ same.
      let nothing : drop end s ≡ [] = rw (eqb-true end (length s) same) (drop-length s) in
      record { types = T; pairs = P; nodes = N; rule = R; blocks = e ∙ rw (nothing, append-nil R); hold = b })
      (λ other. Broken.bytes_after T P N R (drop end s) e b (omega (arith, eqb-false end (length s) other, file_long T P N R (drop end s) e b)))

  module _ (bytes : Bytes s) where
    right : Right answer
    right =
        by_block (types_checks action_limit) s 0 bytes (with_types pair_limit s) Right
        (λ T e1 t.
        let tp = types_part T in
        by_block (pairs_checks pair_limit (length T)) s (end_of tp) bytes (with_pairs s tp) Right
        (λ P e2 p.
        let pp = pairs_part T P in
        let upto2 : s ≡ block 1 T ++ (block 2 P ++ drop (end_of pp) s) = e1 ∙ ap (λ (r : List ℕ). block 1 T ++ r) e2 in
        by_block (nodes_checks (length T)) s (end_of pp) bytes (with_nodes s tp pp) Right
        (λ N e3 n.
        let np = nodes_part T P N in
        let upto3 : s ≡ block 1 T ++ (block 2 P ++ (block 3 N ++ drop (end_of np) s)) = upto2 ∙ ap (λ (r : List ℕ). block 1 T ++ (block 2 P ++ r)) e3 in
        by_block (rule_checks (length T) (few T t)) s (end_of np) bytes (with_rule s tp pp np) Right
        (λ R e4 r.
        right_at_end T P N R (upto3 ∙ ap (λ (r : List ℕ). block 1 T ++ (block 2 P ++ (block 3 N ++ r))) e4)
        (record { types_hold = t; pairs_hold = p; nodes_hold = n; rule_holds = r }))
        (λ k f. Broken.in_rule T P N (drop (end_of np) s) upto3 t p n f))
        (λ k f. Broken.in_nodes T P (drop (end_of pp) s) upto2 t p f))
        (λ k f. Broken.in_pairs T (drop (end_of tp) s) e1 t f))
        (λ k f. Broken.in_types f)

    -- THE LAWS: accepted, exactly where it is a plan file
    pub accepted_exactly : ((l : Layout) × (answer ≡ Ok l)) ↔ PlanFile action_limit pair_limit s
    accepted_exactly = (λ (l, h). rw h at right, λ f. (layout f, file_accepted f))

    -- refused by a number, exactly where something is wrong that has the number
    pub refused_exactly : (n : ℕ) → (number_of answer ≡ some n) ↔ Broken action_limit pair_limit s n
    refused_exactly n = (
      λ h. let (f, e, k) = refused_number answer n h in rw k at (rw e at right),
      λ h. let (f, e, k) = broken_refused n h in rw (e, k),
    )
