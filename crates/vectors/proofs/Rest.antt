-- Parts of a body as they are lent: all bytes but the first n, and n bytes from some place on.
use mathlib.Core.Path.{◌≡◌}
use mathlib.Core.List.{List}
use Prim.Native.Nat.{ℕ, ◌+◌, ◌-◌}
use native.Mathlib.Nat.{le_refl}
use native.Mathlib.Omega.{arith}
use lib.ListN.{length, take, drop, length-drop}
use lib.Seq.{take_all}

pub rest : (n : ℕ) (body : List ℕ) → take (length body - n) (drop n body) ≡ drop n body
rest n body = take_all (length body - n) (drop n body) (simp length-drop (le_refl _))

pub span : (at n : ℕ) (body : List ℕ) → take (at + n - at) (drop at body) ≡ take n (drop at body)
span at n body = let m : at + n - at ≡ n = omega arith in rw m
