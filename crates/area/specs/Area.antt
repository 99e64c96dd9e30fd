-- Summaries in a lent area of bytes: the one at place i lies in 1,408 bytes from 1,408 * i on, code after code, sixteen little-endian words for each of the eleven codes
-- that have sets.
use Rattle.std.specs.Prelude.{◌≡◌, Bool, true, false, cond, ◌⊎◌, List, [], ◌∷◌, ℕ, zero, suc, ◌+◌, ◌*◌, ◌<◌, ◌≤◌, leb, get_or, length}
use Rattle.summary.specs.declared.Summary.{Summary}
use Rattle.summary.specs.Summary.{no_summary}

-- "Numbers are little-endian": the word of the eight bytes at `at`.
abbrev pub word_at : List ℕ → ℕ → ℕ
word_at b at =
    get_or b at 0 + 256 * (get_or b (at + 1) 0 + 256 * (get_or b (at + 2) 0 + 256 * (get_or b (at + 3) 0 + 256 * (get_or b (at + 4) 0 + 256 * (get_or b (at + 5) 0 + 256 * (get_or b (at + 6) 0 + 256 * get_or b (at + 7) 0))))))

-- The n words of eight bytes at `at`.
unfoldable pub words_at : ℕ → List ℕ → ℕ → List ℕ
words_at zero bytes at = []
words_at (suc n) bytes at = word_at bytes at ∷ words_at n bytes (at + 8)

-- The bytes of a summary.
abbrev pub summary_size : ℕ
summary_size = 1408

-- The codes whose families lie there, in this order.
abbrev pub code_at : ℕ → ℕ
code_at k = get_or (1 ∷ 2 ∷ 3 ∷ 4 ∷ 6 ∷ 7 ∷ 9 ∷ 10 ∷ 11 ∷ 13 ∷ 14 ∷ []) k 0

-- The summary whose first byte is at `at`.
abbrev pub summary_at : List ℕ → ℕ → Summary
summary_at bytes at = record {
  s1 = words_at 16 bytes at;
  s2 = words_at 16 bytes (at + 128);
  s3 = words_at 16 bytes (at + 256);
  s4 = words_at 16 bytes (at + 384);
  s6 = words_at 16 bytes (at + 512);
  s7 = words_at 16 bytes (at + 640);
  s9 = words_at 16 bytes (at + 768);
  s10 = words_at 16 bytes (at + 896);
  s11 = words_at 16 bytes (at + 1024);
  s13 = words_at 16 bytes (at + 1152);
  s14 = words_at 16 bytes (at + 1280);
}

-- The bytes of the summary at place i lie in the area.
abbrev pub fits : List ℕ → ℕ → Bool
fits bytes i = leb (summary_size * i + summary_size) (length bytes)

-- The summary at place i; the one without sets where its bytes do not lie in the area.
abbrev pub loaded : List ℕ → ℕ → Summary
loaded bytes i = cond (fits bytes i) (summary_at bytes (summary_size * i)) no_summary

-- Outside the n bytes from `at` on the area stays as it was.
abbrev pub Kept : List ℕ → ℕ → ℕ → List ℕ → Type 0
Kept old at n new = (k : ℕ) → (k < at) ⊎ (at + n ≤ k) → get_or new k 0 ≡ get_or old k 0

-- The word w is written at `at`, and nothing else.
pub record WordWritten (old : List ℕ) (at w : ℕ) (new : List ℕ) : Type 0 where
  pub long : length new ≡ length old
  pub here : word_at new at ≡ w
  pub kept : Kept old at 8 new

-- The family f is written at `at`, and nothing else.
pub record Written (old : List ℕ) (at : ℕ) (f new : List ℕ) : Type 0 where
  pub long : length new ≡ length old
  pub here : words_at 16 new at ≡ f
  pub kept : Kept old at 128 new

-- The summary s is written at `at`, and nothing else.
pub record Stored (old : List ℕ) (at : ℕ) (s : Summary) (new : List ℕ) : Type 0 where
  pub long : length new ≡ length old
  pub here : summary_at new at ≡ s
  pub kept : Kept old at summary_size new

-- What a store at place i answers: whether the area has room for it; and if not, nothing is written.
pub record StoreAnswer (old : List ℕ) (i : ℕ) (s : Summary) (new : List ℕ) (answer : Bool) : Type 0 where
  pub room : answer ≡ fits old i
  pub stored : answer ≡ true → Stored old (summary_size * i) s new
  pub unchanged : answer ≡ false → new ≡ old

-- What follows of loading: the summary that was stored comes back, and those at other places are as they were.
pub record LoadAfterStore : Type 0 where
  pub back : (old : List ℕ) (i : ℕ) (s : Summary) (new : List ℕ) → StoreAnswer old i s new true → loaded new i ≡ s
  pub others : (old : List ℕ) (i : ℕ) (s : Summary) (new : List ℕ) (answer : Bool) → StoreAnswer old i s new answer → (j : ℕ) → ¬ (j ≡ i) → loaded new j ≡ loaded old j
