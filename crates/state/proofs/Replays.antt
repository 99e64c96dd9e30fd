-- One turn of the loop that replays a record.
use mathlib.Core.Path.{◌≡◌}
use mathlib.Core.Bool.{cond}
use mathlib.Core.List.{List}
use Prim.Native.Nat.{ℕ, suc, ◌+◌, ◌-◌, ◌*◌, ◌≤◌, ◌<◌}
use native.Mathlib.Omega.{arith}
use lib.ListN.{get_or, set}
use Rattle.std.proofs.Common.{Result, Err, Ok}
use Rattle.state.specs.State.{may_come, fresh_table, replay, entries_from, state_after}

module _ (types b r : List ℕ) (taken : ℕ) where
  -- what is left of the record from entry i on
  abbrev pub from : List ℕ → ℕ → Result (List ℕ) (List ℕ)
  from table i = replay types b table (entries_from r i (taken - i))

  pub replay_start : state_after types b r taken ≡ from fresh_table 0
  replay_start = let e : taken - 0 ≡ taken = omega arith in rw e

  pub replay_step : (table : List ℕ) (i : ℕ) → i < taken
      → from table i
      ≡ cond (may_come types b table (get_or r (2 * i) 0) (get_or r (2 * i + 1) 0)) (from (set table (get_or r (2 * i) 0) (get_or r (2 * i + 1) 0)) (i + 1)) (Err table)
  unfolding replay entries_from
  replay_step table i h = let e : taken - i ≡ suc (taken - (i + 1)) = omega arith in rw e

  pub replay_end : (table : List ℕ) (i : ℕ) → taken ≤ i → from table i ≡ Ok table
  unfolding replay entries_from
  replay_end table i h = let e : taken - i ≡ 0 = omega arith in rw e
