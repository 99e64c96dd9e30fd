-- Every text is a typed rule or is none: its tokens are found one after the other, and then whether they pass.
use mathlib.Core.Path.{◌≡◌, refl, sym, ap, subst, ◌∙◌}
use mathlib.Core.Bool.{Bool, true, false, cond, true≢false}
use mathlib.Core.List.{List, [], ◌∷◌}
use mathlib.Core.Logic.{◌⊎◌, inl, inr}
use Prim.Native.Nat.{ℕ, zero, suc, ◌≤◌, ◌<◌}
use native.Mathlib.Omega.{arith}
use lib.Dec.{ltb, eqb}
use lib.ListN.{length, drop, length-drop}
use borrow.Author.Tests.{lt-ltb, ltb-true, eqb-true}
use Rattle.blocks.proofs.Bounded.{decide, both_true}
use Rattle.grammar.specs.Token.{Token, letter, not, operator, implies, opening, closing}
use Rattle.grammar.specs.Spelling.{Spells, end}
use Rattle.grammar.specs.Typed.{Typed, deepest, Decision, inside, outside}
use Rattle.grammar.specs.Next.{number, wrong, others, token_number, size, blanks, clear}
use Rattle.grammar.specs.Passes as p
use Rattle.grammar.specs.Passes.{Passes}
use Rattle.grammar.proofs.Lexing.{Valid, shows, valid, known, one_text}
use Rattle.grammar.proofs.Views as views
use Rattle.grammar.proofs.Views.{View, view, begins, ends, size_some}
use Rattle.grammar.proofs.Passing.{whole_passes}
use Rattle.grammar.proofs.Parsing.{in_grammar}

-- Some bytes spell some tokens, or none.
pub data Lexed (b : List ℕ) : Type 0 where
  spells : (ts : List Token) → Spells b ts → Lexed b
  not_spelled : ((ts : List Token) → Spells b ts → ⊥) → Lexed b

-- where the next token is wrong
pub never_wrong : (b : List ℕ) (ts : List Token) → token_number (clear b) ≡ wrong → Spells b ts → ⊥
never_wrong b [] e x = let s = (shows x).this in omega arith
never_wrong b (t ∷ ts) e x = let s = (shows x).this in let k = (known t (valid x)).small in omega arith

-- behind a token there is less of the bytes
less : (b : List ℕ) (n k m : ℕ) → token_number (clear b) ≡ k → k < wrong → 1 ≤ m → length b ≤ suc n → length (drop m (clear b)) ≤ n
unfolding token_number
less b n k m e h s f = go (clear b) (sym e) (let a = length-drop (blanks b) b in omega arith)
  where
    go : (c : List ℕ) → k ≡ token_number c → length c ≤ suc n → length (drop m c) ≤ n
    go [] i l = absurd (omega arith)
    go (x ∷ c) i l = let a = length-drop m (x ∷ c) in omega arith

further : (b : List ℕ) (t : Token) → Valid t → token_number (clear b) ≡ number t → Lexed (drop (size (number t)) (clear b)) → Lexed b
further b t v e (spells ts x) = spells (t ∷ ts) (begins b t ts v e x)
further b t v e (not_spelled h) = not_spelled (λ us x. h (others us) (subst (λ (n : ℕ). Spells (drop (size n) (clear b)) (others us)) (sym (shows x).this ∙ e) (shows x).next))

lexed : (n : ℕ) (b : List ℕ) → length b ≤ n → Lexed b
lexed zero [] h = spells [] end
lexed zero (x ∷ b) h = absurd (omega arith)
lexed (suc n) b h = go (clear b) (token_number (clear b)) refl (view (clear b)) (λ c l. lexed n c l)
  where
    go : (c : List ℕ) (k : ℕ) → k ≡ token_number (clear b) → View c k → ((c : List ℕ) → length c ≤ n → Lexed c) → Lexed b
    go c k e views.none again = spells [] (ends b (sym e))
    go c k e views.wrong again = not_spelled (λ ts x. never_wrong b ts (sym e) x)
    go c k e (views.token t v front) again =
        further b t v (sym e) (again (drop (size (number t)) (clear b)) (less b n (number t) (size (number t)) (sym e) (known t v).small (size_some (number t) (known t v).small) h))

-- Whether some tokens pass, by computation.
unfoldable pub passing : Bool → ℕ → List Token → Bool
passing true k [] = false
passing true k (letter a ∷ ts) = cond (ltb a 10) (passing false k ts) false
passing true k (not ∷ ts) = passing true k ts
passing true k (operator o ∷ ts) = false
passing true k (implies ∷ ts) = false
passing true k (opening ∷ ts) = cond (ltb k deepest) (passing true (suc k) ts) false
passing true k (closing ∷ ts) = false
passing false k [] = eqb k 0
passing false k (letter a ∷ ts) = false
passing false k (not ∷ ts) = false
passing false k (operator o ∷ ts) = passing true k ts
passing false k (implies ∷ ts) = passing true k ts
passing false k (opening ∷ ts) = false
passing false zero (closing ∷ ts) = false
passing false (suc k) (closing ∷ ts) = passing false k ts

passes_test : {due : Bool} {k : ℕ} {ts : List Token} → Passes due k ts → passing due k ts ≡ true
unfolding passing
passes_test p.end = refl
passes_test (p.action {a = a} h x) = rw (lt-ltb a 10 h) (passes_test x)
passes_test (p.negated x) = passes_test x
passes_test (p.opened {k = k} h x) = rw (lt-ltb k deepest h) (passes_test x)
passes_test (p.joined x) = passes_test x
passes_test (p.implied x) = passes_test x
passes_test (p.closed x) = passes_test x

test_passes : (due : Bool) (k : ℕ) (ts : List Token) → passing due k ts ≡ true → Passes due k ts
unfolding passing
test_passes true k [] h = absurd (true≢false (sym h))
test_passes true k (letter a ∷ ts) h = let b = both_true (ltb a 10) (passing false k ts) h in p.action (ltb-true a 10 b.0) (test_passes false k ts b.1)
test_passes true k (not ∷ ts) h = p.negated (test_passes true k ts h)
test_passes true k (operator o ∷ ts) h = absurd (true≢false (sym h))
test_passes true k (implies ∷ ts) h = absurd (true≢false (sym h))
test_passes true k (opening ∷ ts) h = let b = both_true (ltb k deepest) (passing true (suc k) ts) h in p.opened (ltb-true k deepest b.0) (test_passes true (suc k) ts b.1)
test_passes true k (closing ∷ ts) h = absurd (true≢false (sym h))
test_passes false k [] h = subst (λ (n : ℕ). Passes false n []) (sym (eqb-true k 0 h)) p.end
test_passes false k (letter a ∷ ts) h = absurd (true≢false (sym h))
test_passes false k (not ∷ ts) h = absurd (true≢false (sym h))
test_passes false k (operator o ∷ ts) h = p.joined (test_passes true k ts h)
test_passes false k (implies ∷ ts) h = p.implied (test_passes true k ts h)
test_passes false k (opening ∷ ts) h = absurd (true≢false (sym h))
test_passes false zero (closing ∷ ts) h = absurd (true≢false (sym h))
test_passes false (suc k) (closing ∷ ts) h = p.closed (test_passes false k ts h)

-- Tokens that do not pass are those of no typed rule.
pub not_typed : (text : List ℕ) (ts : List Token) → Spells text ts → passing true 0 ts ≡ false → (q : List ℕ) → Typed text q → ⊥
not_typed text ts x h q t =
    let e = one_text t.tokens ts t.spelled x in
    true≢false (sym (passes_test (whole_passes t.part)) ∙ ap (λ (us : List Token). passing true 0 us) e ∙ h)

pub decided : (text : List ℕ) → Decision text
decided text = go (lexed (length text) text (omega arith))
  where
    tested : (ts : List Token) → Spells text ts → (passing true 0 ts ≡ true) ⊎ (passing true 0 ts ≡ false) → Decision text
    tested ts x (inl h) = let g = in_grammar ts (test_passes true 0 ts h) in inside g.postfix (record { tokens = ts; spelled = x; part = g.part })
    tested ts x (inr h) = outside (not_typed text ts x h)

    go : Lexed text → Decision text
    go (spells ts x) = tested ts x (decide (passing true 0 ts))
    go (not_spelled h) = outside (λ q t. h t.tokens t.spelled)
