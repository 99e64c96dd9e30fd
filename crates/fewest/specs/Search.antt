-- How the fewest failed entries of the complete runs that have given outcomes and leave exactly a set are computed.
use Rattle.std.specs.Prelude.{◌≡◌, Bool, true, false, not, cond, ◌&&◌, ◌||◌, List, ℕ, zero, suc, ◌+◌, ◌/◌, ◌%◌, ◌^◌, ◌<◌, min, eqb, ltb, set, Option, None, Some}
use Rattle.nodes.specs.Nodes.{count, form, left}
use Rattle.plan.specs.Tree.{process_of}
use Rattle.fewest.specs.declared.Choice.{Choice}
use Rattle.fewest.specs.Wishes.{Wish}
use Rattle.fewest.specs.Costs.{unreached, fewest_of}
use Rattle.fewest.specs.Leaving.{outcome_at}

-- The action a is in the set S.
abbrev pub in_set : ℕ → ℕ → Bool
in_set S a = eqb (S / 2 ^ a % 2) 1

-- The wishes: no leaf of an action outside the set finishes, and each leaf has the outcome that the table says.
abbrev pub welcome : List ℕ → ℕ → ℕ → Bool
welcome b S n = cond (eqb (form b n) 0) (in_set S (left b n)) true

abbrev pub wish_of : Bool → ℕ → Wish
wish_of allowed o = record { absent = eqb o 0; finishing = ltb o 2 && allowed; failing = not (eqb o 1) }

abbrev pub wishes : List ℕ → ℕ → List ℕ → ℕ → Wish
wishes b S table n = wish_of (welcome b S n) (outcome_at table n)

-- Some number below n passes the test.
abbrev pub any_below : ℕ → (ℕ → Bool) → Bool
any_below zero test = false
any_below (suc n) test = test n || any_below n test

-- Node n is a leaf of the action a.
abbrev pub is_leaf_of : List ℕ → ℕ → ℕ → Bool
is_leaf_of b a n = eqb (form b n) 0 && eqb (left b n) a

-- By the table the action a has finished at some leaf.
abbrev pub finished : List ℕ → List ℕ → ℕ → Bool
finished b table a = any_below (count b) (λ n. is_leaf_of b a n && eqb (outcome_at table n) 1)

-- The action a is one of the set's, and by the table it has finished at no leaf.
abbrev pub due : List ℕ → ℕ → List ℕ → ℕ → Bool
due b S table a = in_set S a && not (finished b table a)

-- Node n is a leaf of the action a that may still be one that must finish.
abbrev pub candidate : List ℕ → List ℕ → ℕ → ℕ → Bool
candidate b table a n = is_leaf_of b a n && ltb (outcome_at table n) 2

-- How many numbers below n pass the test.
abbrev pub count_where : ℕ → (ℕ → Bool) → ℕ
count_where zero test = 0
count_where (suc n) test = cond (test n) 1 0 + count_where n test

-- Node n is a candidate of the action a that the fold does not rule out: as one that must finish it leaves fewer than `best` failed entries.
abbrev pub is_left : List ℕ → List ℕ → ℕ → List ℕ → ℕ → ℕ → ℕ → Bool
is_left types b S table a best n = candidate b table a n && ltb (fewest_of (wishes b S (set table n 1)) (process_of types b)) best

abbrev pub leaves_left : List ℕ → List ℕ → ℕ → List ℕ → ℕ → ℕ → ℕ
leaves_left types b S table a best = count_where (count b) (is_left types b S table a best)

-- What an action to be tried is: one that is due; and where its leaves are told to be none, the fold rules them all out.
pub record Tried (actions : ℕ) (types b : List ℕ) (S : ℕ) (table : List ℕ) (best : ℕ) (c : Choice) : Type 0 where
  pub low : c.action < actions
  pub is_due : due b S table c.action ≡ true
  pub ruled_out : c.leaves ≡ 0 → leaves_left types b S table c.action best ≡ 0

-- There is one where some action is due.
abbrev pub Chosen : ℕ → List ℕ → List ℕ → ℕ → List ℕ → ℕ → Option Choice → Type 0
Chosen actions types b S table best (Some c) = Tried actions types b S table best c
Chosen actions types b S table best None = (i : ℕ) → i < actions → due b S table i ≡ false

-- The least of the numbers x i, of the i below n that pass the test.
abbrev pub least_where : ℕ → (ℕ → Bool) → (ℕ → ℕ) → ℕ
least_where zero test x = unreached
least_where (suc n) test x = cond (test n) (min (x n) (least_where n test x)) (least_where n test x)

-- The actions from a on, so many of them: for each that is due, each of its leaves as one that must finish.
unfoldable pub searched : List ℕ → List ℕ → ℕ → ℕ → ℕ → List ℕ → ℕ
searched types b S zero a table = fewest_of (wishes b S table) (process_of types b)
searched types b S (suc m) a table =
    cond (due b S table a)
    (least_where (count b) (candidate b table a) (λ n. searched types b S m (suc a) (set table n 1)))
    (searched types b S m (suc a) table)
