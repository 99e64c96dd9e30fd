-- The tests of a node body, in document 01's order: 6, the rules of the forms; 7, each node but the last named exactly once; 8, no
-- third level of compensations.
use Rattle.std.specs.Prelude.{Bool, false, cond, Result, Ok, Err, List, ℕ, suc, ◌+◌, ◌-◌, max, ltb, leb, eqb}
use Rattle.process.specs.Depth.{most_undos}
use Rattle.blocks.specs.Bounded.{every, total, one}
use Rattle.nodes.specs.Nodes.{count, form, left, right}
use Rattle.nodes.specs.Fold.{fold_at}
use Rattle.nodes.specs.declared.Fault.{Fault}
use Rattle.nodes.specs.declared.Fault.TheVariants.{Form, Named, Nested}

abbrev pub node_ok : ℕ → ℕ → ℕ → ℕ → ℕ → Bool
node_ok actions i f l r =
    cond (eqb f 0) (cond (ltb l actions) (eqb r 0) false)
    (cond (ltb f 3) (cond (eqb l 0) (eqb r 0) false)
    (cond (leb f 7) (cond (ltb l i) (ltb r i) false) false))

abbrev pub forms_ok : ℕ → List ℕ → Bool
forms_ok actions b = every (count b) (λ i. node_ok actions i (form b i) (left b i) (right b i))

-- how often a node (f, l, r) names j
abbrev pub naming : ℕ → ℕ → ℕ → ℕ → ℕ
naming j f l r = cond (leb 3 f) (one (eqb l j) + one (eqb r j)) 0

abbrev pub times_named : List ℕ → ℕ → ℕ
times_named b j = total (count b) (λ i. naming j (form b i) (left b i) (right b i))

abbrev pub named_ok : List ℕ → Bool
named_ok b = every (count b - 1) (λ j. eqb (times_named b j) 1)

-- how deep the undo sides at node i and below it stand in one another: the right side of form 6 stands one deeper
abbrev pub deeper : ℕ → ℕ → ℕ → ℕ
deeper f l r = max l (cond (eqb f 6) (suc r) r)

abbrev pub no_depth : ℕ → ℕ
no_depth i = 0

abbrev pub depth_at : List ℕ → ℕ → ℕ
depth_at b i = fold_at no_depth (λ n. deeper (form b n)) b i

abbrev pub nested_ok : List ℕ → Bool
nested_ok b = every (count b) (λ i. leb (depth_at b i) most_undos)

-- the first check that fails
abbrev pub checked : ℕ → List ℕ → Result Unit Fault
checked actions b = cond (forms_ok actions b) (cond (named_ok b) (cond (nested_ok b) (Ok tt) (Err Nested)) (Err Named)) (Err Form)

-- document 01's number for each
abbrev pub number : Fault → ℕ
number Form = 6
number Named = 7
number Nested = 8

-- the number of a check's answer, or 0
abbrev pub number_or_0 : Result Unit Fault → ℕ
number_or_0 (Ok u) = 0
number_or_0 (Err f) = number f

-- the number of the first check that fails, or 0
abbrev pub nodes_fault : ℕ → List ℕ → ℕ
nodes_fault actions b = number_or_0 (checked actions b)
