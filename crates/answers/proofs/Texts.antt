-- A runner's lines, put into a text part by part; and all of them have room in one.
use mathlib.Core.Path.{◌≡◌, refl}
use mathlib.Core.Bool.{Bool, true, false}
use mathlib.Core.List.{[], ◌∷◌}
use Prim.Native.Nat.{ℕ, ◌/◌, ◌^◌, ◌≤◌, ◌<◌}
use native.Mathlib.Nat.{div-eq_of_lt, lt_of_lt_of_le}
use lib.Pow.{pow_mono}
use native.Mathlib.Omega.{arith}
use lib.ListN.{length, length-append}
use Rattle.text.specs.Decimal.{decimal}
use Rattle.text.specs.Text.{ascii, pushed, appended}
use Rattle.text.specs.declared.Text.{Text}
use Rattle.text.proofs.Texts.{appended_both, appended_one}
use Rattle.text.specs.Lines.{each}
use Rattle.text.proofs.Ends.{each_few}
use Rattle.text.proofs.Decimals.{decimal_of_byte}
use Rattle.job.specs.declared.Status.TheVariants.{Succeeded, Failed}
use Rattle.job.specs.declared.End.{End}
use Rattle.job.specs.declared.End.TheVariants.{Open, MayEnd}
use Rattle.job.specs.declared.Told.{Told}
use Rattle.answers.specs.Lines.{comes_next, leaf_text, end_line, told_lines}

-- a number of 64 bits has no bit past them
pub none_past : (next leaf : ℕ) → next < 2 ^ 64 → 64 ≤ leaf → comes_next next leaf ≡ false
none_past next leaf h l =
    let none : next / 2 ^ leaf ≡ 0 = div-eq_of_lt (lt_of_lt_of_le h (pow_mono {i = 64} l)) in
    rw none

pub leaf_comes : (t : Text) (next leaf : ℕ) → comes_next next leaf ≡ true → appended (pushed t 32) (decimal leaf) ≡ appended t (leaf_text next leaf)
unfolding appended
leaf_comes t next leaf h = rw h

pub leaf_stays : (t : Text) (next leaf : ℕ) → comes_next next leaf ≡ false → t ≡ appended t (leaf_text next leaf)
unfolding appended
leaf_stays t next leaf h = rw h

pub told_put : (t : Text) (told : Told)
    → appended (pushed (appended (appended t (ascii "next")) (each (leaf_text told.next) 0 64)) 10) (end_line told.end) ≡ appended t (told_lines told)
unfolding told_lines
told_put t told = rw (appended_both, appended_both, appended_both _ (10 ∷ []) (end_line told.end), appended_one)

-- how long the lines are
leaf_few : (next leaf : ℕ) → leaf < 1000 → length (leaf_text next leaf) ≤ 4
leaf_few next leaf h = go (comes_next next leaf) refl
  where
    go : (b : Bool) → comes_next next leaf ≡ b → length (leaf_text next leaf) ≤ 4
    go true e = rw e (omega (arith, decimal_of_byte leaf h))
    go false e = rw e (omega arith)

end_few : (e : End) → length (end_line e) ≤ 18
end_few Open = omega arith
end_few (MayEnd Succeeded) = omega arith
end_few (MayEnd Failed) = omega arith

pub told_few : (t : Told) → length (told_lines t) ≤ 640
unfolding told_lines
told_few t = simp length-append (omega (arith, each_few (leaf_text t.next) 4 0 64 (λ n h. leaf_few t.next n (omega arith)), end_few t.end))
