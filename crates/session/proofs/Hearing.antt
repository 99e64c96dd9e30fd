-- What is heard of the input: one turn of the loop over the bytes of a read, and a whole line.
use mathlib.Core.Path.{◌≡◌, refl, ap}
use mathlib.Core.Bool.{Bool, true, false, cond}
use mathlib.Core.List.{List, [], ◌∷◌, ◌++◌}
use mathlib.Core.Logic.{◌⊎◌, inl, inr}
use Prim.Native.Nat.{ℕ, ◌+◌, ◌-◌, ◌*◌, ◌≤◌, ◌<◌}
use native.Mathlib.Numerals.{add-one}
use lib.Dec.{ltb, eqb}
use lib.ListN.{length, get_or, drop, drop_of_length-le}
use lib.Seq.{drop-cons}
use borrow.Author.Tests.{eqb-true}
use Rattle.job.specs.declared.Job.{Job}
use Rattle.session.specs.Line.{largest, digit_after, fresh_line, after_in, line_after, line_of, begun_with, begun, entry_in}
use Rattle.session.specs.declared.line.Part.{Part}
use Rattle.session.specs.declared.line.Part.TheVariants.{Leaf, Outcome, Minute}
use Rattle.session.specs.Session.{next_line, answered_to, heard_byte, heard_all, heard_end, OneLine, AnswersLines}
use Rattle.session.specs.declared.line.Number.{Number}
use Rattle.session.specs.declared.line.Number.TheVariants.{Unwritten, Is, Wrong}
use Rattle.session.specs.declared.line.Line.{Line}
use Rattle.session.specs.declared.Session.{Session}

pub heard_step : (s : Session) (bytes : List ℕ) (i : ℕ) → i < length bytes
    → heard_all s (drop i bytes) ≡ heard_all (heard_byte s (get_or bytes i 0)).session (drop (i + 1) bytes)
unfolding heard_all
heard_step s bytes i h = rw (add-one i, drop-cons bytes i 0)

pub heard_end_lem : (s : Session) (bytes : List ℕ) (i : ℕ) → length bytes ≤ i → heard_all s (drop i bytes) ≡ s
unfolding heard_all
heard_end_lem s bytes i h = rw drop_of_length-le

-- the bytes of a line change the line alone
heard_line : (j : Job) (l : Line) (bs : List ℕ) → OneLine bs → heard_all (record { job = j; line = l }) bs ≡ record { job = j; line = line_of l bs }
unfolding heard_all line_of
heard_line j l [] one = refl
heard_line j l (b ∷ bs) one = rw one.0 (heard_line j (line_after l b) bs one.1)

-- a line has begun once a byte of it has come
begun_outcome : (n : Number) → begun_with n Outcome ≡ true
begun_outcome Unwritten = refl
begun_outcome (Is n) = refl
begun_outcome Wrong = refl

begun_minute : (n : Number) → begun_with n Minute ≡ true
begun_minute Unwritten = refl
begun_minute (Is n) = refl
begun_minute Wrong = refl

-- what holds of both sides of a choice holds of it
either : {A : Type 0} (F : A → Type 0) (t : Bool) {x y : A} → F x → F y → F (cond t x y)
either F true p q = p
either F false p q = q

abbrev BegunNumber : Number → Type 0
BegunNumber n = begun_with n Leaf ≡ true

begun_digit : (n : Number) (b : ℕ) → BegunNumber (digit_after n b)
begun_digit Unwritten b = either BegunNumber (ltb b 48) refl (either BegunNumber (ltb 57 b) refl refl)
begun_digit (Is n) b =
    either BegunNumber (eqb n 0) refl
    (either BegunNumber (ltb b 48) refl
    (either BegunNumber (ltb 57 b) refl (either BegunNumber (ltb largest (10 * n + (b - 48))) refl refl)))
begun_digit Wrong b = refl

abbrev Begun : Line → Type 0
Begun l = begun l ≡ true

begun_in : (part : Part) (l : Line) (b : ℕ) → Begun (after_in part l b)
begun_in Leaf l b = either Begun (eqb b 32) (begun_outcome l.leaf) (begun_digit l.leaf b)
begun_in Outcome l b = either Begun (eqb b 32) (begun_minute l.leaf) (begun_outcome l.leaf)
begun_in Minute l b = begun_minute l.leaf

begun_after : (l : Line) (b : ℕ) → Begun (line_after l b)
begun_after l b = begun_in l.part l b

begun_line : (l : Line) (bs : List ℕ) → begun l ≡ true → begun (line_of l bs) ≡ true
unfolding line_of
begun_line l [] h = h
begun_line l (b ∷ bs) h = begun_line (line_after l b) bs (begun_after l b)

last : (j : Job) (b : ℕ) (line : List ℕ) → OneLine (b ∷ line) → heard_end (heard_all (next_line j) (b ∷ line)) ≡ answered_to j (entry_in (line_of fresh_line (b ∷ line)))
unfolding line_of
last j b line one = rw (heard_line j fresh_line (b ∷ line) one, begun_line (line_after fresh_line b) line (begun_after fresh_line b))

-- an input up to its first newline
first_line : (input : List ℕ) → OneLine input ⊎ ((line : List ℕ) × (rest : List ℕ) × OneLine line × (input ≡ line ++ (10 ∷ rest)))
first_line [] = inl tt
first_line (b ∷ bs) = go (eqb b 10) refl (first_line bs)
  where
    go : (z : Bool) → eqb b 10 ≡ z → OneLine bs ⊎ ((line : List ℕ) × (rest : List ℕ) × OneLine line × (bs ≡ line ++ (10 ∷ rest)))
        → OneLine (b ∷ bs) ⊎ ((line : List ℕ) × (rest : List ℕ) × OneLine line × (b ∷ bs ≡ line ++ (10 ∷ rest)))
    go true e x = inr ([], bs, tt, ap (λ (n : ℕ). n ∷ bs) (eqb-true b 10 e))
    go false e (inl one) = inl (e, one)
    go false e (inr (line, rest, one, is)) = inr (b ∷ line, rest, (e, one), ap (λ (xs : List ℕ). b ∷ xs) is)

pub answers_lines : AnswersLines
answers_lines = record { lines = first_line; quiet = λ j line b h. rw h; answer = λ j line one. rw (heard_line j fresh_line line one); last_line = last; no_line = λ j. refl }
