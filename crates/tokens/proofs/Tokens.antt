-- The next token from a place in the text: what it shows of the tokens from there on, and that the place moves.
use mathlib.Core.Path.{◌≡◌, sym, ap, subst, ◌∙◌}
use mathlib.Core.Bool.{true, false}
use mathlib.Core.List.{List}
use mathlib.Core.Logic.{◌⊎◌, inl, inr}
use Prim.Native.Nat.{ℕ, ◌+◌, ◌-◌, ◌≤◌, ◌<◌}
use native.Mathlib.Omega.{arith}
use lib.Dec.{ltb, leb}
use lib.ListN.{length, drop, length-drop}
use lib.Seq.{drop-drop}
use borrow.Author.Tests.{ltb-true, ltb-false, leb-true, leb-false}
use Rattle.std.proofs.lemmas.Bool.Decides.{nat_tests}
use Rattle.blocks.proofs.Bounded.{decide}
use Rattle.grammar.specs.Token as grammar
use Rattle.grammar.specs.Spelling.{Spells}
use Rattle.grammar.specs.Next.{first, others, token_number, size, blanks, clear}
use Rattle.grammar.proofs.Lexing.{known, shows}
use Rattle.grammar.proofs.Views as views
use Rattle.grammar.proofs.Views.{View, view}
use Rattle.tokens.specs.Tokens.{next_of, number, size_of, token_of}
use Rattle.tokens.specs.declared.Next.{Next}
use Rattle.tokens.specs.declared.Token as tokens
use Rattle.tokens.specs.declared.Token.TheVariants.{End}
use Rattle.tokens.proofs.Scan.{blanks_most, next_none}

-- a token by its number
pub number_of_token : (k : ℕ) → k ≤ 0xFF → number (token_of k) ≡ k
number_of_token k h = grind (arith, nat_tests)

pub size_of_token : (k : ℕ) → size_of (token_of k) ≡ size k
size_of_token k = grind (arith, nat_tests)

pub next_number : (text : List ℕ) (at : ℕ) → number (next_of text at).kind ≡ token_number (clear (drop at text))
next_number text at = number_of_token _ (go (view (clear (drop at text))))
  where
    go : {b : List ℕ} {n : ℕ} → View b n → n ≤ 0xFF
    go views.none = omega arith
    go views.wrong = omega arith
    go (views.token t v front) = let k = (known t v).small in omega arith

-- the place moves where there is a token: behind it, and not far behind the text
pub next_forward : (text : List ℕ) (at : ℕ) → at ≤ (next_of text at).at
next_forward text at = forward at (blanks (drop at text)) (size (token_number (clear (drop at text))))
  where
    forward : (a b c : ℕ) → a ≤ a + b + c
    forward a b c = omega arith

pub next_further : (text : List ℕ) (at : ℕ) → 1 ≤ size_of (next_of text at).kind → at < (next_of text at).at
next_further text at h = further at (blanks (drop at text)) (size (token_number (clear (drop at text)))) (rw size_of_token at h)
  where
    further : (a b c : ℕ) → 1 ≤ c → a < a + b + c
    further a b c h = omega arith

pub next_within : (text : List ℕ) (at : ℕ) → 1 ≤ size_of (next_of text at).kind → at < length text
next_within text at h = go (decide (ltb at (length text)))
  where
    go : (ltb at (length text) ≡ true) ⊎ (ltb at (length text) ≡ false) → at < length text
    go (inl e) = ltb-true _ _ e
    go (inr e) = absurd (let k = ap (λ (n : Next). size_of n.kind) (next_none text at (ltb-false _ _ e)) in omega arith)

size_most : (k : ℕ) → size k ≤ 7
size_most k = grind (arith, nat_tests)

pub next_near : (text : List ℕ) (at : ℕ) → 1 ≤ size_of (next_of text at).kind → (next_of text at).at ≤ length text + 7
next_near text at h =
    let w = next_within text at h in
    near at (blanks (drop at text)) (size (token_number (clear (drop at text)))) (length text) (omega arith) (rw length-drop at (blanks_most (drop at text))) (size_most (token_number (clear (drop at text))))
  where
    near : (a b s l : ℕ) → a < l → b ≤ l - a → s ≤ 7 → a + b + s ≤ l + 7
    near a b s l h m n = omega arith

-- behind a token there is less of the text
pub shorter : (text : List ℕ) (at q : ℕ) → 1 ≤ size_of (next_of text at).kind → (next_of text at).at ≤ q → length text - q < length text - at
shorter text at q h k =
    let a = next_within text at h in
    let b = next_further text at h in
    omega arith

-- The tokens from the place on: the next one, and the others from the next place on.
pub record Seen (text : List ℕ) (at : ℕ) (ts : List grammar.Token) : Type 0 where
  pub this : (next_of text at).kind ≡ token_of (first ts)
  pub next : Spells (drop (next_of text at).at text) (others ts)

pub next_place : (text : List ℕ) (at k : ℕ) → token_number (clear (drop at text)) ≡ k → drop (size k) (clear (drop at text)) ≡ drop (next_of text at).at text
next_place text at k e =
    rw (← e) (
    drop-drop (size (token_number (clear (drop at text)))) (blanks (drop at text)) (drop at text)
    ∙ drop-drop (blanks (drop at text) + size (token_number (clear (drop at text)))) at text
    ∙ ap (λ (n : ℕ). drop n text) (sum at (blanks (drop at text)) (size (token_number (clear (drop at text)))))
    )
  where
    sum : (a b c : ℕ) → a + (b + c) ≡ a + b + c
    sum a b c = omega arith

pub seen : {ts : List grammar.Token} (text : List ℕ) (at : ℕ) → Spells (drop at text) ts → Seen text at ts
seen {ts} text at x =
    let s = shows x in
    record { this = ap token_of s.this; next = subst (λ (b : List ℕ). Spells b (others ts)) (next_place text at (first ts) s.this) s.next }

beyond : (k : ℕ) → 0xFF < k → token_of k ≡ End
beyond k h = grind (arith, nat_tests)

-- a number's token has that number, but for the last, which all numbers beyond it share
pub number_back : (t : tokens.Token) (k : ℕ) → token_of k ≡ t → (t ≡ End → ⊥) → k ≡ number t
number_back t k e other = go (decide (leb k 0xFF))
  where
    go : (leb k 0xFF ≡ true) ⊎ (leb k 0xFF ≡ false) → k ≡ number t
    go (inl h) = sym (number_of_token k (leb-true _ _ h)) ∙ ap number e
    go (inr h) = absurd (other (sym e ∙ beyond k (leb-false _ _ h)))
