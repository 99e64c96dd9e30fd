-- The join of the families under 1, 9, 13 and 14 has just the sets of complete runs.
use mathlib.Core.Logic.{inl, inr}
use mathlib.Core.List.{List}
use Prim.Native.Nat.{ℕ}
use Rattle.family.specs.Family.{In, Joined}
use Rattle.process.specs.Process.{Status, ok, fail}
use Rattle.outcomes.specs.ThreeLevels.{Final3, final_1, final_9, final_13, final_14}
use Rattle.summary.specs.declared.Summary.{Summary}
use Rattle.summary.specs.Summary.{family_of}
use Rattle.least.specs.Least.{FinalSet, Finals}

module _ (s : Summary) (not_undone failed r : List ℕ) (u : Joined s.s13 s.s14 not_undone) (f : Joined s.s9 not_undone failed) (w : Joined s.s1 failed r) where
  under_fail : (t : ℕ) → In failed t → FinalSet s t
  under_fail t on = elim (f.sound t on) [
    | inl x ↦ record { code = 9; status = fail; final = final_9; has = x }
    | inr y ↦ elim (u.sound t y) [
      | inl x ↦ record { code = 13; status = fail; final = final_13; has = x }
      | inr x ↦ record { code = 14; status = fail; final = final_14; has = x }
    ]
  ]

  sound : (t : ℕ) → In r t → FinalSet s t
  sound t on = elim (w.sound t on) [ inl x ↦ record { code = 1; status = ok; final = final_1; has = x } | inr y ↦ under_fail t y ]

  in_final : {code : ℕ} {status : Status} (t : ℕ) → Final3 code status → In (family_of s code) t → In r t
  in_final t final_1 x = w.left t x
  in_final t final_9 x = w.right t (f.left t x)
  in_final t final_13 x = w.right t (f.right t (u.left t x))
  in_final t final_14 x = w.right t (f.right t (u.right t x))

  pub finals_joined : Finals s r
  finals_joined = record { sound = sound; complete = λ t x. in_final t x.final x.has }
