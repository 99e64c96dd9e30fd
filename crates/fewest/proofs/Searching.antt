-- The search: of the complete runs that have the outcomes of a table, in which no action outside the set finished and each of so many of its actions did, the
-- fewest failed entries. By induction on how many actions are left: each that is due finished at one of its leaves, which then must finish.
use mathlib.Core.Path.{◌≡◌, refl, sym, ◌∙◌}
use mathlib.Core.Bool.{Bool, true, false, not, cond, ◌&&◌, true≢false}
use mathlib.Core.List.{List}
use mathlib.Core.Logic.{◌⊎◌, inl, inr}
use Prim.Native.Nat.{ℕ, zero, suc, ◌+◌, ◌≤◌, ◌<◌, min}
use native.Mathlib.Omega.{arith}
use borrow.Author.Tests.{eqb-true, eq-eqb, ltb-true, ltb-false}
use lib.Dec.{eqb, ltb}
use lib.ListN.{length, length-set, set}
use Rattle.blocks.proofs.Bounded.{both_hold}
use Rattle.family.specs.Family.{bit_at}
use Rattle.family.proofs.Numbers.{same_or_other, below_or_above}
use Rattle.process.specs.Process.{Status, ok, Run}
use Rattle.process.specs.Figure2.{Complete}
use Rattle.nodes.specs.Nodes.{count, form, left}
use Rattle.plan.specs.PlanFile.{RunnableWithin}
use Rattle.plan.specs.Tree.{process_of}
use Rattle.plan.specs.Demand1.{Drawn}
use Rattle.plan.proofs.Tree.{drawn}
use Rattle.reorder.specs.Entries.{failures}
use Rattle.reorder.proofs.Leaves.{complete_leaf}
use Rattle.fewest.specs.Wishes.{Possible}
use Rattle.fewest.specs.Costs.{unreached, fewest_of}
use Rattle.fewest.specs.Least.{LeastBelow}
use Rattle.fewest.specs.Leaving.{most_searched, Searchable, outcome_at, Has, Leaving}
use Rattle.fewest.specs.Search.{in_set, welcome, wishes, any_below, is_leaf_of, finished, due, candidate, count_where, is_left, leaves_left, least_where, searched}
use Rattle.fewest.specs.Fewest.{SearchedLeast, DueTried, Cut}
use Rattle.fewest.proofs.Least.{only_least, least_as, least_none, least_past, least_either, Below, below_more, below_less}
use Rattle.fewest.proofs.ByCodes.{fewest_least}
use Rattle.fewest.proofs.Sets.{Finished, Welcomed, set_is, set_finished, set_welcomed, bit_low}
use Rattle.fewest.proofs.Outcomes.{meets_has, meets_welcomed, has_meets}
use Rattle.fewest.proofs.Pins.{pin_occurs, pin_taken, pin_put}

-- where some number passes, one does
any_below_lem : (n : ℕ) (test : ℕ → Bool) → any_below n test ≡ true → (i : ℕ) × (i < n) × (test i ≡ true)
any_below_lem zero test e = absurd (true≢false (sym e))
any_below_lem (suc n) test e = go (any_below_lem n test) (test n) refl
  where
    go : (any_below n test ≡ true → (i : ℕ) × (i < n) × (test i ≡ true)) → (b : Bool) → test n ≡ b → (i : ℕ) × (i < suc n) × (test i ≡ true)
    go rest true f = (n, omega arith, f)
    go rest false f = let (i, l, p) = rest (rw f at e) in (i, omega arith, p)

-- where none is counted, none passes
none_counted : (n : ℕ) (test : ℕ → Bool) → count_where n test ≡ 0 → (i : ℕ) → i < n → test i ≡ false
none_counted zero test e i h = absurd (omega arith)
none_counted (suc n) test e i h = go (test n) refl e (none_counted n test)
  where
    go : (b : Bool) → test n ≡ b → cond b 1 0 + count_where n test ≡ 0 → (count_where n test ≡ 0 → (i : ℕ) → i < n → test i ≡ false) → test i ≡ false
    go true f z rest = absurd (omega arith)
    go false f z rest = elim (same_or_other i n) [ inl j ↦ rw j f | inr d ↦ rest (omega arith) i (omega arith) ]

-- the members of those that pass a test
record Passing (test : ℕ → Bool) (F : ℕ → ℕ → Type 0) (i k : ℕ) : Type 0 where
  passes : test i ≡ true
  member : F i k

least_where_lem : (n : ℕ) (test : ℕ → Bool) (F : ℕ → ℕ → Type 0) (x : ℕ → ℕ) → ((i : ℕ) → LeastBelow unreached (F i) (x i)) → LeastBelow unreached (Below n (Passing test F)) (least_where n test x)
least_where_lem zero test F x h = least_none (λ k b. omega (arith, b.low))
least_where_lem (suc n) test F x h = least_as (go (least_where_lem n test F x h) (test n) refl) (λ k a. below_more a) (λ k a. below_less a)
  where
    go : LeastBelow unreached (Below n (Passing test F)) (least_where n test x) → (b : Bool) → test n ≡ b
        → LeastBelow unreached (λ k. Passing test F n k ⊎ Below n (Passing test F) k) (cond b (min (x n) (least_where n test x)) (least_where n test x))
    go rest true e = least_either (x n) (least_where n test x) (λ l. record { passes = e; member = (h n).reached l }) (λ j a. (h n).least j a.member) rest
    go rest false e = least_past rest (λ k a. absurd (true≢false (sym a.passes ∙ e)))

module _ (types b : List ℕ) (plan : RunnableWithin most_searched types b) (S : ℕ) where
  tree : Drawn types b
  tree = drawn types b plan

  -- some complete run has the outcomes of the table, with k failed entries; no action outside S finished in it, and of S the actions from a on did, m of them
  record Finishing (m a : ℕ) (table : List ℕ) (k : ℕ) : Type 0 where
    run : Run
    status : Status
    complete : Complete (process_of types b) run status
    has : Has b table run
    welcomed : Welcomed b S run
    done : (i : ℕ) → a ≤ i → i < a + m → bit_at S i ≡ 1 → Finished b i run
    fails : failures run ≡ k

  possible : (m a : ℕ) (table : List ℕ) (k : ℕ) → Finishing m a table k → Possible (wishes b S table) (process_of types b) k
  possible m a table k f = (f.run, f.status, f.complete, has_meets types b tree S table f.complete f.has f.welcomed, f.fails)

  none_left : (a : ℕ) (table : List ℕ) (k : ℕ) → Possible (wishes b S table) (process_of types b) k → Finishing 0 a table k
  none_left a table k (r, s, c, m, z) =
      record { run = r; status = s; complete = c; has = meets_has types b tree S table m; welcomed = meets_welcomed types b tree S table m; done = λ i l h e. absurd (omega arith); fails = z }

  -- one action more
  module _ (m a k : ℕ) where
    with_first : {table new : List ℕ} (f : Finishing m (suc a) table k) → Has b new f.run → (bit_at S a ≡ 1 → Finished b a f.run) → Finishing (suc m) a new k
    with_first f h g = record { run = f.run; status = f.status; complete = f.complete; has = h; welcomed = f.welcomed; done = λ i l u e. done i l u e; fails = f.fails }
      where
        done : (i : ℕ) → a ≤ i → i < a + suc m → bit_at S i ≡ 1 → Finished b i f.run
        done i l u e = elim (same_or_other i a) [ inl j ↦ (let e' : bit_at S a ≡ 1 = rw j at e in rw j (g e')) | inr d ↦ f.done i (omega arith) (omega arith) e ]

    without_first : {table new : List ℕ} (f : Finishing (suc m) a table k) → Has b new f.run → Finishing m (suc a) new k
    without_first f h = record { run = f.run; status = f.status; complete = f.complete; has = h; welcomed = f.welcomed; done = λ i l u e. f.done i (omega arith) (omega arith) e; fails = f.fails }

  action_leaf : (n a : ℕ) → is_leaf_of b a n ≡ true → form b n < 3
  action_leaf n a h = omega (arith, eqb-true (form b n) 0 (both_hold (eqb (form b n) 0) (eqb (left b n) a) h).0)

  -- by the table it finished already
  told_finished : (table : List ℕ) (a : ℕ) (r : Run) → due b S table a ≡ false → Has b table r → bit_at S a ≡ 1 → Finished b a r
  told_finished table a r d h e = go (finished b table a) refl
    where
      go : (t : Bool) → finished b table a ≡ t → Finished b a r
      go true f =
          let (n, l, p) = any_below_lem (count b) (λ n. is_leaf_of b a n && eqb (outcome_at table n) 1) f in
          let (i, o) = both_hold (is_leaf_of b a n) (eqb (outcome_at table n) 1) p in
          record { at = n; runs = h.finished n l (action_leaf n a i) (eqb-true _ _ o); of = i }
      go false f =
          let x : (true && not false) ≡ false = rw (eq-eqb (bit_at S a) 1 e, f) at d in
          absurd (true≢false x)

  -- the leaf where it finishes is a candidate
  record Place (table : List ℕ) (i : ℕ) (r : Run) : Type 0 where
    at : ℕ
    low : at < count b
    passes : candidate b table i at ≡ true
    pinned : Has b (set table at 1) r

  low_leaf : (table : List ℕ) → length table ≡ 63 → (n : ℕ) → n < count b → n < length table
  low_leaf table size n l = omega (arith, plan.nodes_few)

  place : (table : List ℕ) → length table ≡ 63 → (m a k i : ℕ) → a ≤ i → i < a + m → due b S table i ≡ true → (f : Finishing m a table k) → Place table i f.run
  place table size m a k i l u d f =
      let (s, rest) = both_hold (in_set S i) (not (finished b table i)) d in
      let g = f.done i l u (eqb-true _ _ s) in
      let n = g.at in
      let meets = has_meets types b tree S table f.complete f.has f.welcomed in
      let (free, w) = both_hold (ltb (outcome_at table n) 2) (welcome b S n) (meets.entries n ok g.runs) in
      let (h, p) = (tree.leaves n).0 (complete_leaf f.complete g.runs) in
      record { at = n; low = h; passes = rw g.of free; pinned = pin_put b table f.run n (low_leaf table size n h) g.runs f.has }

  module _ (table : List ℕ) (size : length table ≡ 63) (m a : ℕ) where
    abbrev At : ℕ → ℕ → Type 0
    At n j = Finishing m (suc a) (set table n 1) j

    taken : (k : ℕ) → Below (count b) (Passing (candidate b table a) At) k → Finishing (suc m) a table k
    taken k t =
        let n = t.at in
        let (i, o) = both_hold (is_leaf_of b a n) (ltb (outcome_at table n) 2) t.member.passes in
        let f = t.member.member in
        let l = low_leaf table size n t.low in
        let x = pin_occurs b table f.run n l t.low (action_leaf n a i) f.has in
        with_first m a k f (pin_taken b table f.run n l (ltb-true _ _ o) x f.has) (λ e. record { at = n; runs = x; of = i })

    put : due b S table a ≡ true → (k : ℕ) → Finishing (suc m) a table k → Below (count b) (Passing (candidate b table a) At) k
    put d k f =
        let p = place table size (suc m) a k a (omega arith) (omega arith) d f in
        record { at = p.at; low = p.low; member = record { passes = p.passes; member = without_first m a k f p.pinned } }

  searched_finishing : (m a : ℕ) (table : List ℕ) → length table ≡ 63 → LeastBelow unreached (Finishing m a table) (searched types b S m a table)
  unfolding searched
  searched_finishing zero a table size =
      least_as (fewest_least (wishes b S table) (process_of types b) tree.written tree.distinct tree.shallow) (none_left a table) (possible 0 a table)
  searched_finishing (suc m) a table size = go (searched_finishing m (suc a)) (due b S table a) refl
    where
      go : ((t : List ℕ) → length t ≡ 63 → LeastBelow unreached (Finishing m (suc a) t) (searched types b S m (suc a) t)) → (d : Bool) → due b S table a ≡ d
          → LeastBelow unreached (Finishing (suc m) a table) (cond d (least_where (count b) (candidate b table a) (λ n. searched types b S m (suc a) (set table n 1))) (searched types b S m (suc a) table))
      go rest true e =
          least_as (least_where_lem (count b) (candidate b table a) (At table size m a) (λ n. searched types b S m (suc a) (set table n 1)) (λ n. rest (set table n 1) (length-set table n 1 ∙ size)))
          (taken table size m a) (put table size m a e)
      go rest false e =
          least_as (rest table size) (λ k f. with_first m a k f f.has (λ i. told_finished table a f.run e f.has i)) (λ k f. without_first m a k f f.has)

-- all actions of the set
module _ (actions : ℕ) (types b : List ℕ) (S : ℕ) (s : Searchable actions types b S) where
  all_finished : (table : List ℕ) (k : ℕ) → Finishing types b s.plan S actions 0 table k → Leaving types b S table k
  all_finished table k f = record {
    run = f.run;
    status = f.status;
    complete = f.complete;
    has = f.has;
    leaves = set_is b S f.run f.welcomed (λ a e. f.done a (omega arith) (omega (arith, bit_low actions S a s.within e)) e);
    fails = f.fails;
  }

  finished_all : (table : List ℕ) (k : ℕ) → Leaving types b S table k → Finishing types b s.plan S actions 0 table k
  finished_all table k f = record {
    run = f.run;
    status = f.status;
    complete = f.complete;
    has = f.has;
    welcomed = set_welcomed b S f.run f.leaves;
    done = λ a l u e. set_finished b S f.run f.leaves a e;
    fails = f.fails;
  }

  left_least : (table : List ℕ) → length table ≡ 63 → LeastBelow unreached (Leaving types b S table) (searched types b S actions 0 table)
  left_least table size = least_as (searched_finishing types b s.plan S actions 0 table size) (all_finished table) (finished_all table)

  -- of the runs that have the outcomes of the table, the fold
  fold_least : (table : List ℕ) → LeastBelow unreached (Possible (wishes b S table) (process_of types b)) (fewest_of (wishes b S table) (process_of types b))
  fold_least table = let x = drawn types b s.plan in fewest_least (wishes b S table) (process_of types b) x.written x.distinct x.shallow

  fold_low : (table : List ℕ) → length table ≡ 63 → (j : ℕ) → Leaving types b S table j → fewest_of (wishes b S table) (process_of types b) ≤ j
  fold_low table size j f = (fold_least table).least j (possible types b s.plan S actions 0 table j (finished_all table j f))

  -- no fewer than x, where no run has fewer
  no_fewer : (x : ℕ) (table : List ℕ) → length table ≡ 63 → x ≤ unreached → ((j : ℕ) → Leaving types b S table j → x ≤ j) → x ≤ searched types b S actions 0 table
  no_fewer x table size h f = go (below_or_above (searched types b S actions 0 table) unreached)
    where
      go : (searched types b S actions 0 table < unreached) ⊎ (unreached ≤ searched types b S actions 0 table) → x ≤ searched types b S actions 0 table
      go (inl l) = f _ ((left_least table size).reached l)
      go (inr l) = omega arith

  module _ (table : List ℕ) (size : length table ≡ 63) (i : ℕ) (few : i < actions) (d : due b S table i ≡ true) where
    -- a run finishes the action at a candidate, and a run that finishes it there is one
    abbrev Tried : ℕ → ℕ → Type 0
    Tried n k = Leaving types b S (set table n 1) k

    at_candidate : (k : ℕ) → Leaving types b S table k → Below (count b) (Passing (candidate b table i) Tried) k
    unfolding finished_all
    at_candidate k f =
        let p = place types b s.plan S table size actions 0 k i (omega arith) (omega arith) d (finished_all table k f) in
        record { at = p.at; low = p.low; member = record { passes = p.passes; member = record { run = f.run; status = f.status; complete = f.complete; has = p.pinned; leaves = f.leaves; fails = f.fails } } }

    from_candidate : (k : ℕ) → Below (count b) (Passing (candidate b table i) Tried) k → Leaving types b S table k
    from_candidate k t =
        let f = t.member.member in
        let (leaf, free) = both_hold (is_leaf_of b i t.at) (ltb (outcome_at table t.at) 2) t.member.passes in
        let l = low_leaf types b s.plan S table size t.at t.low in
        let x = pin_occurs b table f.run t.at l t.low (action_leaf types b s.plan S t.at i leaf) f.has in
        record { run = f.run; status = f.status; complete = f.complete; has = pin_taken b table f.run t.at l (ltb-true _ _ free) x f.has; leaves = f.leaves; fails = f.fails }

    branch : searched types b S actions 0 table ≡ least_where (count b) (candidate b table i) (λ n. searched types b S actions 0 (set table n 1))
    branch =
        only_least unreached (Leaving types b S table) _ _ (left_least table size)
        (least_as (least_where_lem (count b) (candidate b table i) Tried (λ n. searched types b S actions 0 (set table n 1)) (λ n. left_least (set table n 1) (length-set table n 1 ∙ size))) from_candidate at_candidate)

    nothing : (best : ℕ) → best ≤ unreached → leaves_left types b S table i best ≡ 0 → best ≤ searched types b S actions 0 table
    nothing best h e = no_fewer best table size h (λ j f. by j (at_candidate j f))
      where
        by : (j : ℕ) → Below (count b) (Passing (candidate b table i) Tried) j → best ≤ j
        by j t =
            let low = fold_low (set table t.at 1) (length-set table t.at 1 ∙ size) j t.member.member in
            let out = rw t.member.passes at (none_counted (count b) (is_left types b S table i best) e t.at t.low) in
            omega (arith, low, ltb-false _ best out)

pub searched_least : SearchedLeast
searched_least actions types b S s table size = left_least actions types b S s table size

pub due_tried : DueTried
due_tried actions types b S s table size i few d = record { nothing = nothing actions types b S s table size i few d; branch = branch actions types b S s table size i few d }

pub cut : Cut
cut actions types b S s table size = no_fewer actions types b S s _ table size (fold_least actions types b S s table).low (fold_low actions types b S s table size)
