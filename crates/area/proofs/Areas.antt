-- Summaries in an area: the words that were written byte by byte are read back, and bytes that stay keep the words that they make.
use mathlib.Core.Path.{◌≡◌, refl, sym, ap, ◌∙◌}
use mathlib.Core.Bool.{Bool, true, false}
use mathlib.Core.Logic.{inl, inr}
use mathlib.Core.List.{List}
use Prim.Native.Nat.{ℕ, zero, suc, ◌+◌, ◌-◌, ◌*◌, ◌/◌, ◌^◌, ◌<◌, ◌≤◌}
use native.Mathlib.Omega.{arith}
use borrow.Author.Count.{below_more}
use borrow.Author.Tests.{le-leb, lt-leb}
use lib.ListN.{length, get_or}
use lib.Seq.{ext_get_or}
use borrow.Author.Rules.{rules}
use borrow.Rule.Slice.PartMut.{put_mid}
use Rattle.std.specs.Int.{w64, to_le_bytes}
use Rattle.std.proofs.lemmas.Nat.{from_le_bytes-to_le_bytes_8}
use Rattle.std.proofs.lemmas.Slice.{overwrites}
use Rattle.std.proofs.lemmas.List.{places}
use Rattle.std.proofs.lemmas.Bool.{cases_lt}
use Rattle.summary.specs.declared.Summary.{Summary}
use Rattle.summary.specs.Summary.{family_of}
use Rattle.area.specs.Area.{summary_size, code_at, word_at, words_at, summary_at, fits, loaded, Kept, WordWritten, Written, Stored, StoreAnswer, LoadAfterStore}

-- the words of a list of words
pub words_count : (n : ℕ) (bytes : List ℕ) (at : ℕ) → length (words_at n bytes at) ≡ n
unfolding words_at
words_count zero bytes at = refl
words_count (suc n) bytes at = ap suc (words_count n bytes (at + 8))

pub word_of_words : (n : ℕ) (bytes : List ℕ) (at i : ℕ) → i < n → get_or (words_at n bytes at) i 0 ≡ word_at bytes (at + i * 8)
unfolding words_at
word_of_words zero bytes at i l = absurd (omega arith)
word_of_words (suc n) bytes at zero l = let e : at + 0 ≡ at = omega arith in ap (word_at bytes) (sym e)
word_of_words (suc n) bytes at (suc i) l =
    let e : at + 8 + i * 8 ≡ at + suc i * 8 = omega arith in
    word_of_words n bytes (at + 8) i (omega arith) ∙ ap (word_at bytes) e

pub words_equal : (f bytes : List ℕ) (at : ℕ) → length f ≡ 16 → ((k : ℕ) → k < 16 → get_or f k 0 ≡ word_at bytes (at + k * 8)) → f ≡ words_at 16 bytes at
words_equal f bytes at l words =
    ext_get_or 0 f (words_at 16 bytes at) (l ∙ sym (words_count 16 bytes at)) (λ i h. words i (omega arith) ∙ sym (word_of_words 16 bytes at i (omega arith)))

-- bytes that are the same make the same words
abbrev Same : List ℕ → List ℕ → ℕ → ℕ → Type 0
Same old new at n = (k : ℕ) → at ≤ k → k < at + n → get_or new k 0 ≡ get_or old k 0

word_same : (old new : List ℕ) (at : ℕ) → Same old new at 8 → word_at new at ≡ word_at old at
word_same old new at same =
    cc
    (same at (omega arith) (omega arith), same (at + 1) (omega arith) (omega arith), same (at + 2) (omega arith) (omega arith), same (at + 3) (omega arith) (omega arith), same (at + 4) (omega arith) (omega arith), same (at + 5) (omega arith) (omega arith), same (at + 6) (omega arith) (omega arith), same (at + 7) (omega arith) (omega arith))

words_same : (n : ℕ) (old new : List ℕ) (at : ℕ) → Same old new at (n * 8) → words_at n new at ≡ words_at n old at
unfolding words_at
words_same zero old new at same = refl
words_same (suc n) old new at same =
    let here = word_same old new at (λ k a b. same k a (omega arith)) in
    let rest = words_same n old new (at + 8) (λ k a b. same k (omega arith) (omega arith)) in
    cc

module _ (old new : List ℕ) (at : ℕ) (same : Same old new at summary_size) where
  part_same : (d : ℕ) → d + 128 ≤ summary_size → words_at 16 new (at + d) ≡ words_at 16 old (at + d)
  part_same d l = words_same 16 old new (at + d) (λ k a b. same k (omega arith) (omega arith))

  summary_same : summary_at new at ≡ summary_at old at
  summary_same =
      let e : at + 0 ≡ at = omega arith in
      let first = rw e at (part_same 0 (omega arith)) in
      λ t. record { s1 = first t; s2 = part_same 128 (omega arith) t; s3 = part_same 256 (omega arith) t; s4 = part_same 384 (omega arith) t; s6 = part_same 512 (omega arith) t; s7 = part_same 640 (omega arith) t; s9 = part_same 768 (omega arith) t; s10 = part_same 896 (omega arith) t; s11 = part_same 1024 (omega arith) t; s13 = part_same 1152 (omega arith) t; s14 = part_same 1280 (omega arith) t }

-- eight bytes put in at a place of the area
module _ (old bytes : List ℕ) (at : ℕ) (room : at + 8 ≤ length old) (eight : length bytes ≡ 8) where
  abbrev put : List ℕ
  put = put_mid at (at + 8 - at) old bytes

  put_long : length put ≡ length old
  put_long = search (rules, overwrites)

  put_byte : (k : ℕ) → k < 8 → get_or put (at + k) 0 ≡ get_or bytes k 0
  put_byte k l = search (rules, places)

  put_kept : Kept old at 8 put
  put_kept k (inl l) = search (rules, places)
  put_kept k (inr l) = search (rules, places)

-- those of a word
pub word_written : (old : List ℕ) (at w : ℕ) → at + 8 ≤ length old → w < 2 ^ 64 → WordWritten old at w (put_mid at (at + 8 - at) old (to_le_bytes w64 w))
word_written old at w room small =
    let bytes : List ℕ = to_le_bytes w64 w in
    let byte = put_byte old bytes at room refl in
    let e : at + 0 ≡ at = omega arith in
    record {
      long = put_long old bytes at room refl;
      here = omega
          (arith, from_le_bytes-to_le_bytes_8 w small, rw e at (byte 0 (omega arith)), byte 1 (omega arith), byte 2 (omega arith), byte 3 (omega arith), byte 4 (omega arith), byte 5 (omega arith), byte 6 (omega arith), byte 7 (omega arith));
      kept = put_kept old bytes at room refl;
    }

-- the first i words of the family f are written at `at`
pub record Writing (old : List ℕ) (at : ℕ) (f : List ℕ) (i : ℕ) (new : List ℕ) : Type 0 where
  pub long : length new ≡ length old
  pub words : (j : ℕ) → j < i → word_at new (at + j * 8) ≡ get_or f j 0
  pub kept : Kept old at 128 new

module _ (old : List ℕ) (at : ℕ) (f : List ℕ) where
  pub writing_none : Writing old at f 0 old
  writing_none = record { long = refl; words = λ j l. absurd (omega arith); kept = λ k out. refl }

  pub writing_more : (i : ℕ) (now new : List ℕ) → i < 16 → Writing old at f i now → WordWritten now (at + i * 8) (get_or f i 0) new → Writing old at f (i + 1) new
  writing_more i now new l p w = record {
    long = w.long ∙ p.long;
    words = below_more (λ j. word_at new (at + j * 8) ≡ get_or f j 0) i (λ j h. word_same now new (at + j * 8) (λ k a b. w.kept k (inl (omega arith))) ∙ p.words j h) w.here;
    kept = λ k out. w.kept k (elim out [ inl a ↦ inl (omega arith) | inr a ↦ inr (omega arith) ]) ∙ p.kept k out;
  }

  pub written : (new : List ℕ) → length f ≡ 16 → Writing old at f 16 new → Written old at f new
  written new sixteen w = record { long = w.long; here = sym (words_equal f new at sixteen (λ i l. sym (w.words i l))); kept = w.kept }

-- the families of the first k codes are written, each after the other
pub record Storing (old : List ℕ) (at : ℕ) (s : Summary) (k : ℕ) (new : List ℕ) : Type 0 where
  pub long : length new ≡ length old
  pub here : (j : ℕ) → j < k → words_at 16 new (at + 128 * j) ≡ family_of s (code_at j)
  pub kept : Kept old at summary_size new

module _ (old : List ℕ) (at : ℕ) (s : Summary) where
  pub storing_none : Storing old at s 0 old
  storing_none = record { long = refl; here = λ j l. absurd (omega arith); kept = λ k out. refl }

  pub storing_more : (k : ℕ) (now new : List ℕ) → k < 11 → Storing old at s k now → Written now (at + 128 * k) (family_of s (code_at k)) new → Storing old at s (k + 1) new
  storing_more k now new l p w = record {
    long = w.long ∙ p.long;
    here = below_more (λ j. words_at 16 new (at + 128 * j) ≡ family_of s (code_at j)) k (λ j h. words_same 16 now new (at + 128 * j) (λ i a b. w.kept i (inl (omega arith))) ∙ p.here j h) w.here;
    kept = λ j out. w.kept j (elim out [ inl a ↦ inl (omega arith) | inr a ↦ inr (omega arith) ]) ∙ p.kept j out;
  }

  pub stored : (new : List ℕ) → Storing old at s 11 new → Stored old at s new
  stored new p = record {
    long = p.long;
    here = let e : at + 0 ≡ at = omega arith in
        let first = rw e at (p.here 0 (omega arith)) in
        λ t. record { s1 = first t; s2 = p.here 1 (omega arith) t; s3 = p.here 2 (omega arith) t; s4 = p.here 3 (omega arith) t; s6 = p.here 4 (omega arith) t; s7 = p.here 5 (omega arith) t; s9 = p.here 6 (omega arith) t; s10 = p.here 7 (omega arith) t; s11 = p.here 8 (omega arith) t; s13 = p.here 9 (omega arith) t; s14 = p.here 10 (omega arith) t };
    kept = p.kept;
  }

-- the code's test for room
pub no_room : (bytes : List ℕ) (i : ℕ) → length bytes / summary_size ≤ i → fits bytes i ≡ false
no_room bytes i h = lt-leb (summary_size * i + summary_size) (length bytes) (omega arith)

pub room : (bytes : List ℕ) (i : ℕ) → i < length bytes / summary_size → fits bytes i ≡ true
room bytes i h = le-leb (summary_size * i + summary_size) (length bytes) (omega arith)

-- loading after a store
module _ (old : List ℕ) (i : ℕ) (s : Summary) (new : List ℕ) where
  back : StoreAnswer old i s new true → loaded new i ≡ s
  back a =
      let w = a.stored refl in
      rw (w.long, sym a.room) w.here

  others : (answer : Bool) → StoreAnswer old i s new answer → (j : ℕ) → ¬ (j ≡ i) → loaded new j ≡ loaded old j
  others true a j d =
      let w = a.stored refl in
      let outside = summary_same old new (summary_size * j) (λ k l h. w.kept k (elim (cases_lt k (summary_size * i)) [ inl b ↦ inl b | inr b ↦ inr (omega arith) ])) in
      cc w.long
  others false a j d = ap (λ bytes. loaded bytes j) (a.unchanged refl)

pub load_after_store : LoadAfterStore
load_after_store = record { back = back; others = others }
