-- What the reader's checks of a block say, by its kind: that its length is one that it may have, that its contents are in order, and what
-- is wrong with them. Each test decides its statement, so the first that fails gives the fault whose number document 01 gives.
use mathlib.Core.Path.{◌≡◌, refl, sym, ap, subst, ◌∙◌}
use mathlib.Core.Bool.{Bool, true, false, true≢false, cond}
use mathlib.Core.List.{List}
use mathlib.Core.Logic.{◌↔◌, inl, inr}
use Prim.Native.Nat.{ℕ, ◌≤◌}
use Rattle.std.specs.Prelude.{Result, Ok, Err, is_ok}
use Rattle.blocks.proofs.Bounded.{decide}
use Rattle.bodies.specs.Types.{Types, types_ok}
use Rattle.bodies.specs.Pairs.{Pairs, pairs_ok}
use Rattle.nodes.specs.Nodes.{FormRules, NotTooDeep, NodeRules}
use Rattle.nodes.specs.NodeTests.{forms_ok, named_ok, nested_ok, checked}
use Rattle.nodes.specs.declared.Fault as nodes
use Rattle.nodes.specs.declared.Fault.TheVariants.{Form, Named, Nested}
use Rattle.bodies.specs.Rule.{Rule, rule_ok}
use Rattle.plan.specs.PlanFile.{TypesSize, PairsSize, NodesSize, RuleSize}
use Rattle.plan.specs.Refusals.{Unless, TypesFault, PairsFault, NodesFault, RuleFault}
use Rattle.plan.specs.Fault.{number}
use Rattle.plan.specs.Reading.{length_ok, unless, of_nodes, contents}
use Rattle.plan.specs.declared.Fault.{Fault}
use Rattle.plan.specs.declared.Fault.TheVariants as fault
use Rattle.bodies.proofs.TypesPairs.{types_say, pairs_say}
use Rattle.nodes.proofs.Forms.{forms_say, descending}
use Rattle.nodes.proofs.Named.{named_say}
use Rattle.nodes.proofs.Depth.{nested_say}
use Rattle.bodies.proofs.Postfix.{rule_say}
use Rattle.plan.proofs.Lengths.{sized_bytes, sized_pairs, sized_nodes}

-- a fault that has the number n
abbrev pub IsRefused : {A : Type 0} → Result A Fault → ℕ → Type 0
IsRefused r n = (f : Fault) × (r ≡ Err f) × (number f ≡ n)

-- what a check of contents finds: nothing where they are `Good`, and else a fault whose number is that of a `Wrong`
pub record Checked (Good : Type 0) (Wrong : ℕ → Type 0) (x : Result Unit Fault) : Type 0 where
  pub good : x ≡ Ok tt → Good
  pub passed : Good → x ≡ Ok tt
  pub wrong : (f : Fault) → x ≡ Err f → Wrong (number f)
  pub refused : (n : ℕ) → Wrong n → IsRefused x n

pub record Checks (kind most actions : ℕ) (Size : ℕ → Type 0) (Contents : List ℕ → Type 0) (Wrong : List ℕ → ℕ → Type 0) : Type 0 where
  pub sizes : (n : ℕ) → (length_ok kind most n ≡ true) ↔ Size n
  pub checked : (b : List ℕ) → Checked (Contents b) (Wrong b) (contents kind actions b)

-- a choice, by a test whose answer each side may use
pub choose : {A : Type 0} (F : A → Type 0) (t : Bool) {a b : A} → (t ≡ true → F a) → (t ≡ false → F b) → F (cond t a b)
choose F true x y = x refl
choose F false x y = y refl

-- a test that fails: its statement does not hold; and the other way round
pub refuted : {A : Type 0} {t : Bool} → (t ≡ true) ↔ A → t ≡ false → A → ⊥
refuted say e a = true≢false (sym (say.1 a) ∙ e)

pub fails : {A : Type 0} {t : Bool} → (t ≡ true) ↔ A → (A → ⊥) → t ≡ false
fails {A} {t} say bad = elim (decide t) [ inl e ↦ absurd (bad (say.0 e)) | inr e ↦ e ]

-- an error is no value
pub err_no_ok : {A B : Type 0} (f : Fault) (a : A) → Err f ≡ Ok a → B
err_no_ok f a e = absurd (true≢false (sym (ap is_ok e)))

same_fault : {A : Type 0} (f g : Fault) → ◌≡◌ {A = Result A Fault} (Err f) (Err g) → f ≡ g
same_fault f g e = cc

-- one test with one fault
module _ (A : Type 0) (f : Fault) (t : Bool) (say : (t ≡ true) ↔ A) where
  passes : (t : Bool) → unless t f ≡ Ok tt → t ≡ true
  passes true e = refl
  passes false e = err_no_ok f tt e

  wrong : (t : Bool) (g : Fault) → unless t f ≡ Err g → (t ≡ false) × (f ≡ g)
  wrong true g e = err_no_ok g tt (sym e)
  wrong false g e = (refl, same_fault f g e)

  refused : (n : ℕ) → Unless A (number f) n → IsRefused (unless t f) n
  refused _ (Unless.broken bad) = rw (fails say bad) (f, refl, refl)

  one_test : Checked A (Unless A (number f)) (unless t f)
  one_test = record {
    good = λ e. say.0 (passes t e);
    passed = λ a. rw (say.1 a);
    wrong = λ g e. let (z, same) = wrong t g e in subst (λ (h : Fault). Unless A (number f) (number h)) same (Unless.broken (refuted say z));
    refused = refused;
  }

-- the three tests of the nodes
module _ (actions : ℕ) (b : List ℕ) where
  three : (x y z : Bool) → of_nodes (cond x (cond y (cond z (Ok tt) (Err Nested)) (Err Named)) (Err Form)) ≡ Ok tt
      → (x ≡ true) × (y ≡ true) × (z ≡ true)
  three true true true h = (refl, refl, refl)
  three true true false h = err_no_ok (fault.Nodes Nested) tt h
  three true false z h = err_no_ok (fault.Nodes Named) tt h
  three false y z h = err_no_ok (fault.Nodes Form) tt h

  nested : FormRules actions b → (nested_ok b ≡ true) ↔ NotTooDeep b
  nested keep = nested_say b (descending actions b ((forms_say actions b).1 keep))

  in_order : of_nodes (checked actions b) ≡ Ok tt → NodeRules actions b
  in_order h =
      let (x, y, z) = three (forms_ok actions b) (named_ok b) (nested_ok b) h in
      let keep = (forms_say actions b).0 x in
      record { keep = keep; once = (named_say b).0 y; shallow = (nested keep).0 z }

  faultless : NodeRules actions b → of_nodes (checked actions b) ≡ Ok tt
  faultless h = rw ((forms_say actions b).1 h.keep, (named_say b).1 h.once, (nested h.keep).1 h.shallow)

  abbrev Told : Result Unit Fault → Type 0
  Told (Ok u) = Unit {0}
  Told (Err f) = NodesFault actions b (number f)

  told : Told (of_nodes (checked actions b))
  told =
      let T = λ (r : Result Unit nodes.Fault). Told (of_nodes r) in
      choose T (forms_ok actions b)
      (λ x. let keep = (forms_say actions b).0 x in
      choose T (named_ok b)
      (λ y. choose T (nested_ok b) (λ z. tt) (λ z. NodesFault.eight keep ((named_say b).0 y) (refuted (nested keep) z)))
      (λ y. NodesFault.seven keep (refuted (named_say b) y)))
      (λ x. NodesFault.six (refuted (forms_say actions b) x))

  numbers : (n : ℕ) → NodesFault actions b n → IsRefused (of_nodes (checked actions b)) n
  numbers _ (NodesFault.six bad) = rw (fails (forms_say actions b) bad) (fault.Nodes Form, refl, refl)
  numbers _ (NodesFault.seven keep bad) = rw ((forms_say actions b).1 keep, fails (named_say b) bad) (fault.Nodes Named, refl, refl)
  numbers _ (NodesFault.eight keep once bad) =
      rw ((forms_say actions b).1 keep, (named_say b).1 once, fails (nested keep) bad) (fault.Nodes Nested, refl, refl)

  nodes_checked : Checked (NodeRules actions b) (NodesFault actions b) (of_nodes (checked actions b))
  nodes_checked = record { good = in_order; passed = faultless; wrong = λ f e. rw e at told; refused = numbers }

pub types_checks : (most : ℕ) → Checks 1 most 0 (TypesSize most) Types TypesFault
types_checks most = record { sizes = sized_bytes most; checked = λ b. one_test (Types b) fault.Types (types_ok b) (types_say b) }

pub pairs_checks : (most actions : ℕ) → Checks 2 most actions (PairsSize most) (Pairs actions) (PairsFault actions)
pairs_checks most actions = record {
  sizes = sized_pairs most;
  checked = λ b. one_test (Pairs actions b) fault.Pairs (pairs_ok actions b) (pairs_say actions b);
}

pub nodes_checks : (actions : ℕ) → Checks 3 63 actions NodesSize (NodeRules actions) (NodesFault actions)
nodes_checks actions = record { sizes = sized_nodes 63; checked = nodes_checked actions }

pub rule_checks : (actions : ℕ) → actions ≤ 128 → Checks 4 127 actions RuleSize (Rule actions) (RuleFault actions)
rule_checks actions few = record {
  sizes = sized_bytes 127;
  checked = λ b. one_test (Rule actions b) fault.Rule (rule_ok actions b) (rule_say actions few b);
}
