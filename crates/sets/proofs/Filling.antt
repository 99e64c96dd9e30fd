-- The work area while it is filled: the summaries of the composites so far, each at its place, and nothing past these has changed.
use mathlib.Core.Path.{◌≡◌, refl, sym, ◌∙◌, ap, subst⁻¹}
use mathlib.Core.Bool.{Bool, true, false}
use mathlib.Core.List.{List}
use mathlib.Core.Logic.{inl, inr}
use Prim.Native.Nat.{ℕ, suc, ◌+◌, ◌*◌, ◌≤◌, ◌<◌}
use native.Mathlib.Nat.{not-suc-le-zero}
use native.Mathlib.Omega.{arith}
use lib.ListN.{get_or, length, set, length-set}
use lib.Seq.{get_or-set_same, get_or-set_other}
use borrow.Author.Tests.{le-leb}
use Rattle.family.proofs.Numbers.{same_or_other}
use Rattle.blocks.specs.Bounded.{total}
use Rattle.nodes.specs.Nodes.{count, form}
use Rattle.plan.specs.PlanFile.{Runnable}
use Rattle.plan.specs.Tree.{process_at}
use Rattle.summary.specs.declared.Summary.{Summary}
use Rattle.summary.specs.Exact.{Exact}
use Rattle.area.specs.Area.{summary_size, loaded, StoreAnswer}
use Rattle.area.proofs.Areas.{load_after_store}
use Rattle.sets.specs.PlanSets.{leaf_set}
use Rattle.sets.specs.Places.{place, most_places}
use Rattle.sets.specs.Fill.{Holds, Placed, Stepped}
use Rattle.sets.proofs.Places.{place_leaf, place_composite, places_apart, few_places, places_grow}

-- a store keeps the area's length
pub store_long : {old new : List ℕ} {i : ℕ} {s : Summary} (answer : Bool) → StoreAnswer old i s new answer → length new ≡ length old
store_long true a = (a.stored refl).long
store_long false a = ap length (a.unchanged refl)

module _ (types b old : List ℕ) where
  -- a leaf has no place, and is passed over
  pub stepped_leaf : (i k : ℕ) → form b i < 3 → k ≡ place b i → Stepped types b old i old k
  stepped_leaf i k f e = record {
    long = refl;
    next_place = e ∙ sym (place_leaf b i f);
    holds = λ h j l c. elim (same_or_other j i) [ inl z ↦ absurd (no_leaf z c) | inr d ↦ h j (omega arith) c ];
    kept = λ k l. refl;
  }
    where
      no_leaf : {j : ℕ} → j ≡ i → 3 ≤ form b j → ⊥
      no_leaf z c = let g : 3 ≤ form b i = rw z at c in omega arith

  -- a composite's summary is stored at its place, and those at other places stay
  pub stepped_node : Runnable types b → (i : ℕ) → i < count b → 3 ≤ form b i → summary_size * most_places ≤ length old → (new : List ℕ) (s : Summary) (answer : Bool)
      → Exact (leaf_set b) s (process_at types b i) → StoreAnswer old (place b i) s new answer → Stepped types b old i new (place b i + 1)
  stepped_node r i c f room new s answer exact stored =
      let next : place b (suc i) ≡ suc (place b i) = place_composite b i f in
      let few = few_places types b r i c in
      let yes : answer ≡ true = stored.room ∙ le-leb (summary_size * place b i + summary_size) (length old) (omega arith) in
      let w = stored.stored yes in
      record {
        long = w.long;
        next_place = omega arith;
        holds = λ h j l g. elim (same_or_other j i) [
          | inl e ↦
              subst⁻¹ (λ (k : ℕ). Exact (leaf_set b) (loaded new (place b k)) (process_at types b k)) e
              (subst⁻¹ (λ (x : Summary). Exact (leaf_set b) x (process_at types b i)) (load_after_store.back old (place b i) s new (rw yes at stored)) exact)
          | inr d ↦
              subst⁻¹ (λ (x : Summary). Exact (leaf_set b) x (process_at types b j))
              (load_after_store.others old (place b i) s new answer stored (place b j) (λ e. omega (arith, places_apart b j i (omega arith) g))) (h j (omega arith) g)
        ];
        kept = λ k l. w.kept k (inr (omega arith));
      }

-- the nodes below i are passed: the next place, the places so far, and the work area
pub record Filling (types b old : List ℕ) (i k : ℕ) (places work : List ℕ) : Type 0 where
  pub most : i ≤ count b
  pub next_place : k ≡ place b i
  pub table : length places ≡ 63
  pub placed : Placed b i places
  pub long : length work ≡ length old
  pub holds : Holds types b i work
  pub kept : (j : ℕ) → summary_size * place b i ≤ j → get_or work j 0 ≡ get_or old j 0

module _ (types b old : List ℕ) where
  pub filling_none : (places : List ℕ) → length places ≡ 63 → Filling types b old 0 0 places old
  unfolding total
  filling_none places e = record {
    most = omega arith;
    next_place = refl;
    table = e;
    placed = λ i h. absurd (not-suc-le-zero h);
    long = refl;
    holds = λ i h. absurd (not-suc-le-zero h);
    kept = λ j h. refl;
  }

  -- the place of node i beside those before it
  pub placed_more : (i k : ℕ) (places : List ℕ) → i < length places → k ≡ place b i → Placed b i places → Placed b (suc i) (set places i k)
  placed_more i k places l e h j m =
      elim (same_or_other j i) [ inl z ↦ rw z (get_or-set_same places i k 0 l ∙ e) | inr d ↦ get_or-set_other places i j k 0 d ∙ h j (omega arith) ]

  pub filling_more : (i k next : ℕ) (places work new : List ℕ) → i < count b → i < 63 → Filling types b old i k places work → Stepped types b work i new next
      → Filling types b old (i + 1) next (set places i k) new
  filling_more i k next places work new c small f s =
      let e : i + 1 ≡ suc i = omega arith in
      rw e (record {
        most = omega arith;
        next_place = s.next_place;
        table = length-set places i k ∙ f.table;
        placed = placed_more i k places (omega (arith, f.table)) f.next_place f.placed;
        long = s.long ∙ f.long;
        holds = s.holds f.holds;
        kept = λ j h. s.kept j h ∙ f.kept j (omega (arith, places_grow b i));
      })
