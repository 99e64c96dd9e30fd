-- What an iterator chain over the numbers below a bound answers, by the words of Bounded.antt: `all` and `any` by `every`, `filter` with
-- `count` and `map` with `sum` by `total`, `find` and `position` by the first number. The closure's test is p, or its number g.
use mathlib.Core.Path.{◌≡◌, refl, sym, ap, ◌∙◌}
use mathlib.Core.Bool.{Bool, true, false, cond, not, ◌&&◌, ◌||◌}
use mathlib.Core.List.{List, [], ◌∷◌, map}
use Prim.Native.Nat.{ℕ, zero, suc, ◌+◌, ◌-◌, ◌≤◌, ◌<◌}
use native.Mathlib.Nat.{add-zero}
use native.Mathlib.Omega.{arith}
use lib.ListN.{length, get_or}
use denote.Param.Members.{Mut}
use denote.Ref.{Bor}
use Rattle.std.specs.Fn.{Called, CalledAt}
use Rattle.std.specs.Bool.{⊤}
use Rattle.std.specs.Option.{MatchOption}
use Rattle.std.specs.Iterator.{YieldsThen, Drains}
use Rattle.std.specs.Iterator.Adapters.{filter_source, filter_callee, filter_steps, map_source, map_callee}
use Rattle.std.specs.Iterator.Runs.{EachRunFrom}
use Rattle.std.specs.List.{range_with_len, list_all, list_any, filter, fold, sum, AllWithin, HoldsAt, FoldsTo}
use Rattle.std.specs.Slice.Iter.{iter_rest}
use Rattle.std.proofs.Common.{Option, Some, None, Iter}
use Rattle.std.specs.declared.ops.Range.{Range}
use Rattle.std.specs.declared.iter.Filter.{Filter}
use Rattle.std.specs.declared.iter.Map.{Map}
use Rattle.std.proofs.iter.Yields.{fronts, nat_range_steps}
use Rattle.std.proofs.lemmas.Iterator.{maps, YieldsList-from_range, YieldsList-from_slice, YieldsList-from_map, IsFirst-from_position, first_from_Range}
use Rattle.std.proofs.lemmas.Iterator.Consumers.{YieldsList-from_filter, count_from_yields_List, sum_from_yields_List, fits_from_yields_list}
use Rattle.std.proofs.lemmas.Iterator.Search.{all_from_yields_List, any_from_yields_List}
use Rattle.std.proofs.lemmas.List.FromFn.{length-range_with_len, get_or-range_with_len}
use Rattle.blocks.specs.Bounded.{every, total, one}
use Rattle.blocks.proofs.Bounded.{total_split}

-- tests that agree on every number agree
pub every_same : (n : ℕ) (p q : ℕ → Bool) → ((i : ℕ) → p i ≡ q i) → every n p ≡ every n q
unfolding every
every_same zero p q h = refl
every_same (suc n) p q h = rw (h n, every_same n p q h) refl

-- and so do sums
pub sums_same : (n : ℕ) (g h : ℕ → ℕ) → ((i : ℕ) → g i ≡ h i) → total n g ≡ total n h
unfolding total
sums_same zero g h e = refl
sums_same (suc n) g h e = rw (e n, sums_same n g h e) refl

-- `every` and `total` from the other end
pub every_from_first : (n : ℕ) (p : ℕ → Bool) → every (suc n) p ≡ cond (p 0) (every n (λ i. p (suc i))) false
unfolding every
every_from_first zero p = refl
every_from_first (suc n) p = go (p (suc n)) (p 0) (every n (λ i. p (suc i))) (every_from_first n p)
  where
    go : (a b c : Bool) → cond (p n) (every n p) false ≡ cond b c false → cond a (cond (p n) (every n p) false) false ≡ cond b (cond a c false) false
    go true b c e = e
    go false true c e = refl
    go false false c e = refl

pub total_from_first : (n : ℕ) (g : ℕ → ℕ) → total (suc n) g ≡ g 0 + total n (λ i. g (suc i))
unfolding total
total_from_first zero g = refl
total_from_first (suc n) g = omega (arith, total_from_first n g)

and_cond : (b c : Bool) → b && c ≡ cond b c false
and_cond true c = refl
and_cond false c = refl

-- what a list says
pub list_all-every : {A : Type 0} (p : A → Bool) (xs : List A) (x : A) → list_all p xs ≡ every (length xs) (λ i. p (get_or xs i x))
unfolding every
list_all-every p [] x = refl
list_all-every p (y ∷ ys) x =
    ap (λ b. p y && b) (list_all-every p ys x) ∙ and_cond (p y) (every (length ys) (λ i. p (get_or ys i x))) ∙ sym (every_from_first (length ys) (λ i. p (get_or (y ∷ ys) i x)))

-- and the list of the numbers from a on
after : (a n : ℕ) (p : ℕ → Bool) → every n (λ i. p (a + 1 + i)) ≡ every n (λ i. p (a + suc i))
after a n p = every_same n (λ i. p (a + 1 + i)) (λ i. p (a + suc i)) (λ i. ap p (omega arith))

pub list_all-range : (n a : ℕ) (p : ℕ → Bool) → list_all p (range_with_len a n) ≡ every n (λ i. p (a + i))
unfolding every
list_all-range zero a p = refl
list_all-range (suc n) a p =
    ap (λ b. p a && b) (list_all-range n (a + 1) p ∙ after a n p) ∙ and_cond (p a) (every n (λ i. p (a + suc i)))
    ∙ sym (rw (ap p (add-zero a)) at (every_from_first n (λ i. p (a + i))))

any-all : (p : ℕ → Bool) (xs : List ℕ) → list_any p xs ≡ not (list_all (λ i. not (p i)) xs)
any-all p [] = refl
any-all p (x ∷ xs) = go (p x) (any-all p xs)
  where
    go : (b : Bool) → list_any p xs ≡ not (list_all (λ i. not (p i)) xs) → (b || list_any p xs) ≡ not (not b && list_all (λ i. not (p i)) xs)
    go true e = refl
    go false e = e

length-filter-range : (n a : ℕ) (p : ℕ → Bool) → length (filter p (range_with_len a n)) ≡ total n (λ i. one (p (a + i)))
unfolding total
length-filter-range zero a p = refl
length-filter-range (suc n) a p =
    go (p a) (length-filter-range n (a + 1) p ∙ sums_same n (λ i. one (p (a + 1 + i))) (λ i. one (p (a + suc i))) (λ i. ap (λ k. one (p k)) (omega arith)))
    ∙ sym (rw (ap p (add-zero a)) at (total_from_first n (λ i. one (p (a + i)))))
  where
    go : (b : Bool) → length (filter p (range_with_len (a + 1) n)) ≡ total n (λ i. one (p (a + suc i)))
        → length (cond b (a ∷ filter p (range_with_len (a + 1) n)) (filter p (range_with_len (a + 1) n))) ≡ one b + total n (λ i. one (p (a + suc i)))
    go true e = omega arith
    go false e = omega arith

fold-range : (n a k : ℕ) (g : ℕ → ℕ) → fold (λ b x. b + x) k (map g (range_with_len a n)) ≡ k + total n (λ i. g (a + i))
unfolding total
fold-range zero a k g = omega arith
fold-range (suc n) a k g =
    let rest = fold-range n (a + 1) (k + g a) g in
    let same = sums_same n (λ i. g (a + 1 + i)) (λ i. g (a + suc i)) (λ i. ap g (omega arith)) in
    let first = rw (ap g (add-zero a)) at (total_from_first n (λ i. g (a + i))) in
    omega (arith, rest, same, first)

sum-range : (a n : ℕ) (g : ℕ → ℕ) → a ≤ n → total a g + sum (map g (range_with_len a (n - a))) ≡ total n g
sum-range a n g l =
    let e : a + (n - a) ≡ n = omega arith in
    omega (arith, fold-range (n - a) a 0 g, rw e at (total_split g a (n - a)))

-- The chains. Each lemma takes the call's clause `ran`, that the source is `0..n`, or `a..n`, and that the closure tells p, or g, of each number.
-- `(0..n).all(p)`
pub every_from_all : {F : Type 0} {g : Mut F (ℕ × Unit {0}) Bool} {s : Range ℕ} (p : ℕ → Bool) (n : ℕ) (u : Range ℕ) (f : F) (r : Bool)
    → ((xs : List ℕ) × (o : Option ℕ) × (j : F) × YieldsThen nat_range_steps s xs o u × FoldsTo (λ p x q. Called g p (x, tt) true q) f xs j × MatchOption o (r ≡ true) (λ x. (r ≡ false) × ((h : F) × Called g j (x, tt) false h)))
    → s ≡ record { start = 0; end = n }
    → ((x : ℕ) (b : Bool) (q : F) → Called g f (x, tt) b q → (q ≡ f) × (b ≡ p x))
    → r ≡ every n p
every_from_all p n u f r ran is tells = all_from_yields_List p u f r ran (YieldsList-from_range 0 n n is (omega arith)) tells ∙ list_all-range n 0 p ∙ every_same n (λ i. p (0 + i)) p (λ i. ap p (omega arith))

-- `(0..n).any(p)`
pub every_from_any : {F : Type 0} {g : Mut F (ℕ × Unit {0}) Bool} {s : Range ℕ} (p : ℕ → Bool) (n : ℕ) (u : Range ℕ) (f : F) (r : Bool)
    → ((xs : List ℕ) × (o : Option ℕ) × (j : F) × YieldsThen nat_range_steps s xs o u × FoldsTo (λ p x q. Called g p (x, tt) false q) f xs j × MatchOption o (r ≡ false) (λ x. (r ≡ true) × ((h : F) × Called g j (x, tt) true h)))
    → s ≡ record { start = 0; end = n }
    → ((x : ℕ) (b : Bool) (q : F) → Called g f (x, tt) b q → (q ≡ f) × (b ≡ p x))
    → r ≡ not (every n (λ i. not (p i)))
every_from_any p n u f r ran is tells =
    any_from_yields_List p u f r ran (YieldsList-from_range 0 n n is (omega arith)) tells ∙ any-all p (range_with_len 0 n)
    ∙ ap not (list_all-range n 0 (λ i. not (p i)) ∙ every_same n (λ i. not (p (0 + i))) (λ i. not (p i)) (λ i. ap (λ k. not (p k)) (omega arith)))

-- `xs.iter().all(p)`
pub every_from_slice : {F A : Type 0} {g : Mut F (Bor A × Unit {0}) Bool} {s : Iter A} (p : A → Bool) (xs : List A) (x : A) (u : Iter A) (f : F) (r : Bool)
    → ((ys : List (Bor A)) × (o : Option (Bor A)) × (j : F) × YieldsThen fronts s ys o u × FoldsTo (λ p x q. Called g p (x, tt) true q) f ys j × MatchOption o (r ≡ true) (λ x. (r ≡ false) × ((h : F) × Called g j (x, tt) false h)))
    → iter_rest s ≡ xs
    → ((x : Bor A) (b : Bool) (q : F) → Called g f (x, tt) b q → (q ≡ f) × (b ≡ p x.now))
    → r ≡ every (length xs) (λ i. p (get_or xs i x))
every_from_slice p xs x u f r ran is tells = all_from_yields_List p u f r ran (YieldsList-from_slice xs is) tells ∙ list_all-every p xs x

-- `(0..n).filter(p).count()`
pub total_from_count : {F : Type 0} {g : Mut F (Bor ℕ × Unit {0}) Bool} {s : Filter (Range ℕ) F} (p : ℕ → Bool) (n : ℕ) (f : F) (r : ℕ)
    → ((xs : List ℕ) × Drains (filter_steps nat_range_steps g) s xs × (r ≡ length xs))
    → filter_source s ≡ record { start = 0; end = n } → filter_callee s ≡ f
    → ((x : ℕ) (b : Bool) (q : F) → CalledAt g f x b q → (q ≡ f) × (b ≡ p x))
    → r ≡ total n (λ i. one (p i))
total_from_count {g = g} {s = s} p n f r ran is callee tells =
    count_from_yields_List s r ran (YieldsList-from_filter g p (YieldsList-from_range 0 n n is (omega arith)) callee tells)
    ∙ length-filter-range n 0 p ∙ sums_same n (λ i. one (p (0 + i))) (λ i. one (p i)) (λ i. ap (λ k. one (p k)) (omega arith))

-- `(a..n).map(h).sum()` is what `total n h` has besides the terms before a, and it fits
module _ {F : Type 0} {g : Mut F (ℕ × Unit {0}) ℕ} {s : Map (Range ℕ) F} (h : ℕ → ℕ) (a n : ℕ) (f : F) (l : a ≤ n) where
  pub rest_from_sum : (r : ℕ)
      → ((xs : List ℕ) × (⊤ → Drains (maps nat_range_steps g) s xs) × (r ≡ fold (λ b x. b + x) 0 xs))
      → map_source s ≡ record { start = a; end = n } → map_callee s ≡ f
      → ((x : ℕ) (r : ℕ) (q : F) → Called g f (x, tt) r q → (q ≡ f) × (r ≡ h x))
      → total a h + r ≡ total n h
  rest_from_sum r ran is callee tells =
      omega (arith, sum_from_yields_List s r ran (YieldsList-from_map g h (YieldsList-from_range a n (n - a) is refl) callee tells), sum-range a n h l)

  pub fits_from_rest : (top : ℕ) → total n h < top
      → map_source s ≡ record { start = a; end = n } → map_callee s ≡ f
      → ((x : ℕ) (r : ℕ) (q : F) → Called g f (x, tt) r q → (q ≡ f) × (r ≡ h x))
      → EachRunFrom (maps nat_range_steps g) s (λ p. fold (λ b x. b + x) 0 p.items < top)
  fits_from_rest top fits is callee tells =
      fits_from_yields_list s top (YieldsList-from_map g h (YieldsList-from_range a n (n - a) is refl) callee tells) (omega (arith, sum-range a n h l))

-- `(0..n).map(h).sum()`, and that it fits
module _ {F : Type 0} {g : Mut F (ℕ × Unit {0}) ℕ} {s : Map (Range ℕ) F} (h : ℕ → ℕ) (n : ℕ) (f : F) where
  pub total_from_sum : (r : ℕ)
      → ((xs : List ℕ) × (⊤ → Drains (maps nat_range_steps g) s xs) × (r ≡ fold (λ a x. a + x) 0 xs))
      → map_source s ≡ record { start = 0; end = n } → map_callee s ≡ f
      → ((x : ℕ) (r : ℕ) (q : F) → Called g f (x, tt) r q → (q ≡ f) × (r ≡ h x))
      → r ≡ total n h
  unfolding total
  total_from_sum r ran is callee tells = omega (arith, rest_from_sum h 0 n f (omega arith) r ran is callee tells)

  pub fits_from_total : (top : ℕ) → total n h < top
      → map_source s ≡ record { start = 0; end = n } → map_callee s ≡ f
      → ((x : ℕ) (r : ℕ) (q : F) → Called g f (x, tt) r q → (q ≡ f) × (r ≡ h x))
      → EachRunFrom (maps nat_range_steps g) s (λ p. fold (λ a x. a + x) 0 p.items < top)
  fits_from_total = fits_from_rest h 0 n f (omega arith)

-- `(0..n).find(p)` and `(0..n).position(p)`
pub first_from_find : {F : Type 0} {g : Mut F (Bor ℕ × Unit {0}) Bool} {s : Range ℕ} (p : ℕ → Bool) (n : ℕ) (u : Range ℕ) (f : F) (r : Option ℕ)
    → ((xs : List ℕ) × (j : F) × YieldsThen nat_range_steps s xs r u × FoldsTo (λ p x q. CalledAt g p x false q) f xs j × MatchOption r ⊤ (λ x. (h : F) × CalledAt g j x true h))
    → s ≡ record { start = 0; end = n }
    → ((x : ℕ) (b : Bool) (q : F) → CalledAt g f x b q → (q ≡ f) × (b ≡ p x))
    → MatchOption r ((k : ℕ) → k < n → p k ≡ false) (λ i. (i < n) × (p i ≡ true) × ((k : ℕ) → k < i → p k ≡ false))
first_from_find {s = s} p n u f r ran is tells =
    go r (first_from_Range s u f r (λ i. p i ≡ true) (λ i. p i ≡ false) ran (λ x q k. sym (tells x true q k).1) (λ x q k. ((tells x false q k).0, sym (tells x false q k).1)))
  where
    start : s.start ≡ 0
    start = ap (λ (x : Range ℕ). x.start) is

    end : s.end ≡ n
    end = ap (λ (x : Range ℕ). x.end) is

    go : (r : Option ℕ) → MatchOption r ((k : ℕ) → s.start ≤ k → k < s.end → p k ≡ false) (λ i. (s.start ≤ i) × (i < s.end) × (p i ≡ true) × ((k : ℕ) → s.start ≤ k → k < i → p k ≡ false))
        → MatchOption r ((k : ℕ) → k < n → p k ≡ false) (λ i. (i < n) × (p i ≡ true) × ((k : ℕ) → k < i → p k ≡ false))
    go None h = λ k l. h k (omega (arith, start)) (omega (arith, end))
    go (Some i) h = (omega (arith, end, h.1), h.2, λ k l. h.3 k (omega (arith, start)) l)

pub first_from_position : {F : Type 0} {g : Mut F (ℕ × Unit {0}) Bool} {s : Range ℕ} (p : ℕ → Bool) (n : ℕ) (u : Range ℕ) (f : F) (r : Option ℕ)
    → ((xs : List ℕ) × (o : Option ℕ) × (j : F) × YieldsThen nat_range_steps s xs o u × FoldsTo (λ p x q. Called g p (x, tt) false q) f xs j × MatchOption o (r ≡ None) (λ x. (r ≡ Some (length xs)) × ((h : F) × Called g j (x, tt) true h)))
    → s ≡ record { start = 0; end = n }
    → ((x : ℕ) (b : Bool) (q : F) → Called g f (x, tt) b q → (q ≡ f) × (b ≡ p x))
    → MatchOption r ((k : ℕ) → k < n → p k ≡ false) (λ i. (i < n) × (p i ≡ true) × ((k : ℕ) → k < i → p k ≡ false))
first_from_position {s = s} p n u f r ran is tells =
    go r (IsFirst-from_position u f r (λ i. p i ≡ true) (λ i. p i ≡ false) ran (YieldsList-from_range 0 n n is (omega arith)) (λ x q k. sym (tells x true q k).1) (λ x q k. ((tells x false q k).0, sym (tells x false q k).1)))
  where
    numbers : List ℕ
    numbers = range_with_len 0 n

    go : (r : Option ℕ) → MatchOption r (AllWithin (λ i. p i ≡ false) numbers 0 (length numbers)) (λ i. (i < length numbers) × HoldsAt (λ i. p i ≡ true) numbers i × AllWithin (λ i. p i ≡ false) numbers 0 i)
        → MatchOption r ((k : ℕ) → k < n → p k ≡ false) (λ i. (i < n) × (p i ≡ true) × ((k : ℕ) → k < i → p k ≡ false))
    go None h = λ k l. let e : 0 + k ≡ k = omega arith in rw (get_or-range_with_len 0 n k 0 l, e) at (h k 0 (omega arith) (omega (arith, length-range_with_len 0 n)))
    go (Some i) h =
        let below : i < n = omega (arith, h.0, length-range_with_len 0 n) in
        let e : 0 + i ≡ i = omega arith in
        (below, rw (get_or-range_with_len 0 n i 0 below, e) at (h.1 0), λ k l. let z : 0 + k ≡ k = omega arith in rw (get_or-range_with_len 0 n k 0 (omega arith), z) at (h.2 k 0 (omega arith) l))
