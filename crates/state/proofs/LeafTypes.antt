-- What a type permits, as a kind and as a number; and the kind of a leaf is that of its type.
use mathlib.Core.Path.{◌≡◌, refl}
use mathlib.Core.Bool.{Bool, true, false, not, cond}
use mathlib.Core.List.{List}
use Prim.Native.Nat.{ℕ, ◌<◌}
use native.Mathlib.Omega.{arith}
use lib.Dec.{eqb}
use lib.ListN.{get_or}
use borrow.Author.Tests.{eqb-true, eqb-false}
use Rattle.process.specs.Process.{ok, fail, finishes, fails, either, permits}
use Rattle.nodes.specs.Nodes.{form, left}
use Rattle.plan.specs.Tree.{type_kind, leaf_kind}
use Rattle.state.specs.State.{leaf_type}

pub type_finishes : (t : ℕ) → permits (type_kind t) ok ≡ not (eqb t 2)
type_finishes t = go (eqb t 1) (eqb t 2) refl refl
  where
    go : (one two : Bool) → eqb t 1 ≡ one → eqb t 2 ≡ two → permits (cond one finishes (cond two fails either)) ok ≡ not two
    go true true e f = absurd (omega (arith, eqb-true t 1 e, eqb-true t 2 f))
    go true false e f = refl
    go false true e f = refl
    go false false e f = refl

pub type_fails : (t : ℕ) → permits (type_kind t) fail ≡ not (eqb t 1)
type_fails t = go (eqb t 1) (eqb t 2)
  where
    go : (one two : Bool) → permits (cond one finishes (cond two fails either)) fail ≡ not one
    go true two = refl
    go false true = refl
    go false false = refl

-- the kind of a leaf is that of its type
pub kind_type : (types b : List ℕ) (n : ℕ) → form b n < 3 → leaf_kind types b n ≡ type_kind (leaf_type types b n)
kind_type types b n h = go (eqb (form b n) 0) (eqb (form b n) 1) refl refl
  where
    go : (zero one : Bool) → eqb (form b n) 0 ≡ zero → eqb (form b n) 1 ≡ one
        → cond zero (type_kind (get_or types (left b n) 0)) (cond one finishes fails) ≡ type_kind (cond zero (get_or types (left b n) 0) (form b n))
    go true one e f = refl
    go false true e f = rw (eqb-true (form b n) 1 f)
    go false false e f =
        let x = eqb-false (form b n) 0 e in
        let y = eqb-false (form b n) 1 f in
        let z : form b n ≡ 2 = omega arith in
        rw z
