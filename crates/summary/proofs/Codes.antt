-- The families of a summary by their code: what holds of each family holds at each code. There are none above 14, and no sets under a code that is not settled.
use mathlib.Core.Path.{◌≡◌, refl, sym, ◌∙◌}
use mathlib.Core.Bool.{true, false, true≢false}
use mathlib.Core.List.{List, [], ◌∷◌, Memᴰ}
use Prim.Native.Nat.{ℕ, zero, suc, ◌%◌, ◌≤◌, ◌<◌}
use native.Mathlib.Omega.{arith}
use lib.ListN.{get_or-eq_default}
use Rattle.family.specs.Family.{Empty, Single}
use Rattle.std.proofs.lemmas.Nat.Bits.{bit_at-zero}
use Rattle.family.proofs.Words.{single_word, none_empty}
use Rattle.outcomes.specs.ThreeLevels.{unsettled}
use Rattle.outcomes.proofs.Members.{among_member}
use Rattle.summary.specs.declared.Summary.{Summary}
use Rattle.summary.specs.Summary.{empty_set, no_sets, families, family_of}

-- what holds of each family, of no sets under the codes that are not settled and beyond 14, holds at each code
module _ (P : ℕ → List ℕ → Type 0) (s : Summary) where
  pub any_code : P 0 empty_set → P 1 s.s1 → P 2 s.s2 → P 3 s.s3 → P 4 s.s4 → P 6 s.s6 → P 7 s.s7 → P 9 s.s9 → P 10 s.s10 → P 11 s.s11 → P 13 s.s13 → P 14 s.s14 → ((code : ℕ) → unsettled code ≡ true → P code no_sets) → ((code : ℕ) → 15 ≤ code → P code []) → (code : ℕ) → P code (family_of s code)
  any_code p₀ p₁ p₂ p₃ p₄ p₆ p₇ p₉ p₁₀ p₁₁ p₁₃ p₁₄ none above zero = p₀
  any_code p₀ p₁ p₂ p₃ p₄ p₆ p₇ p₉ p₁₀ p₁₁ p₁₃ p₁₄ none above (suc zero) = p₁
  any_code p₀ p₁ p₂ p₃ p₄ p₆ p₇ p₉ p₁₀ p₁₁ p₁₃ p₁₄ none above (suc (suc zero)) = p₂
  any_code p₀ p₁ p₂ p₃ p₄ p₆ p₇ p₉ p₁₀ p₁₁ p₁₃ p₁₄ none above (suc (suc (suc zero))) = p₃
  any_code p₀ p₁ p₂ p₃ p₄ p₆ p₇ p₉ p₁₀ p₁₁ p₁₃ p₁₄ none above (suc (suc (suc (suc zero)))) = p₄
  any_code p₀ p₁ p₂ p₃ p₄ p₆ p₇ p₉ p₁₀ p₁₁ p₁₃ p₁₄ none above (suc (suc (suc (suc (suc zero))))) = none 5 refl
  any_code p₀ p₁ p₂ p₃ p₄ p₆ p₇ p₉ p₁₀ p₁₁ p₁₃ p₁₄ none above (suc (suc (suc (suc (suc (suc zero)))))) = p₆
  any_code p₀ p₁ p₂ p₃ p₄ p₆ p₇ p₉ p₁₀ p₁₁ p₁₃ p₁₄ none above (suc (suc (suc (suc (suc (suc (suc zero))))))) = p₇
  any_code p₀ p₁ p₂ p₃ p₄ p₆ p₇ p₉ p₁₀ p₁₁ p₁₃ p₁₄ none above (suc (suc (suc (suc (suc (suc (suc (suc zero)))))))) = none 8 refl
  any_code p₀ p₁ p₂ p₃ p₄ p₆ p₇ p₉ p₁₀ p₁₁ p₁₃ p₁₄ none above (suc (suc (suc (suc (suc (suc (suc (suc (suc zero))))))))) = p₉
  any_code p₀ p₁ p₂ p₃ p₄ p₆ p₇ p₉ p₁₀ p₁₁ p₁₃ p₁₄ none above (suc (suc (suc (suc (suc (suc (suc (suc (suc (suc zero)))))))))) = p₁₀
  any_code p₀ p₁ p₂ p₃ p₄ p₆ p₇ p₉ p₁₀ p₁₁ p₁₃ p₁₄ none above (suc (suc (suc (suc (suc (suc (suc (suc (suc (suc (suc zero))))))))))) = p₁₁
  any_code p₀ p₁ p₂ p₃ p₄ p₆ p₇ p₉ p₁₀ p₁₁ p₁₃ p₁₄ none above (suc (suc (suc (suc (suc (suc (suc (suc (suc (suc (suc (suc zero)))))))))))) = none 12 refl
  any_code p₀ p₁ p₂ p₃ p₄ p₆ p₇ p₉ p₁₀ p₁₁ p₁₃ p₁₄ none above (suc (suc (suc (suc (suc (suc (suc (suc (suc (suc (suc (suc (suc zero))))))))))))) = p₁₃
  any_code p₀ p₁ p₂ p₃ p₄ p₆ p₇ p₉ p₁₀ p₁₁ p₁₃ p₁₄ none above (suc (suc (suc (suc (suc (suc (suc (suc (suc (suc (suc (suc (suc (suc zero)))))))))))))) = p₁₄
  any_code p₀ p₁ p₂ p₃ p₄ p₆ p₇ p₉ p₁₀ p₁₁ p₁₃ p₁₄ none above (suc (suc (suc (suc (suc (suc (suc (suc (suc (suc (suc (suc (suc (suc (suc code))))))))))))))) = above (suc (suc (suc (suc (suc (suc (suc (suc (suc (suc (suc (suc (suc (suc (suc code))))))))))))))) (omega arith)

-- the settled codes above 0
module _ (P : ℕ → List ℕ → Type 0) (s : Summary) where
  pub each_code : P 1 s.s1 → P 2 s.s2 → P 3 s.s3 → P 4 s.s4 → P 6 s.s6 → P 7 s.s7 → P 9 s.s9 → P 10 s.s10 → P 11 s.s11 → P 13 s.s13 → P 14 s.s14 → (code : ℕ) → 1 ≤ code → code < 15 → unsettled code ≡ false → P code (family_of s code)
  each_code p₁ p₂ p₃ p₄ p₆ p₇ p₉ p₁₀ p₁₁ p₁₃ p₁₄ =
      any_code (λ code f. 1 ≤ code → code < 15 → unsettled code ≡ false → P code f) s (λ h. absurd (omega arith)) (λ h l u. p₁) (λ h l u. p₂) (λ h l u. p₃) (λ h l u. p₄) (λ h l u. p₆) (λ h l u. p₇) (λ h l u. p₉) (λ h l u. p₁₀) (λ h l u. p₁₁) (λ h l u. p₁₃) (λ h l u. p₁₄) (λ code e h l u. absurd (true≢false (sym e ∙ u))) (λ code g h l. absurd (omega arith))

pub empty_set_lem : Single 0 empty_set
empty_set_lem = single_word no_sets refl none_empty 0 (omega arith)

pub no_words : Empty []
no_words t on = omega (arith, bit_at-zero (t % 64))

-- above 14 there is no set
pub beyond : (s : Summary) (code : ℕ) → 15 ≤ code → Empty (family_of s code)
beyond s code l t on = no_words t (rw (get_or-eq_default (families s) [] l) at on)

-- nor under a code that is not settled
pub none_unsettled : (s : Summary) (code : ℕ) → unsettled code ≡ true → Empty (family_of s code)
none_unsettled s code u t on = go (among_member code (5 ∷ 8 ∷ 12 ∷ []) (rw u tt))
  where
    go : Memᴰ code (5 ∷ 8 ∷ 12 ∷ []) → ⊥
    go (Memᴰ.head e) = none_empty t (rw e at on)
    go (Memᴰ.tail (Memᴰ.head e)) = none_empty t (rw e at on)
    go (Memᴰ.tail (Memᴰ.tail (Memᴰ.head e))) = none_empty t (rw e at on)
    go (Memᴰ.tail (Memᴰ.tail (Memᴰ.tail m))) = elim m [ ]
