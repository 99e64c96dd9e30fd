-- The lines of a runner's answer: after the start and after each entry taken `next` and the leaves that may come, ascending, each after a
-- blank, and then `open`, `may end succeeded` or `may end failed`; after a refusal `refused` and its number.
use Rattle.std.specs.Prelude.{Bool, cond, List, [], ◌∷◌, ◌++◌, ℕ, ◌/◌, ◌%◌, ◌^◌, eqb, Result, Ok, Err}
use Rattle.text.specs.Decimal.{decimal}
use Rattle.text.specs.Lines.{numbered, refused, each}
use Rattle.text.specs.Text.{ascii}
use Rattle.job.specs.declared.Status.TheVariants.{Succeeded, Failed}
use Rattle.job.specs.declared.End.{End}
use Rattle.job.specs.declared.End.TheVariants.{Open, MayEnd}
use Rattle.job.specs.declared.Told.{Told}

-- Leaf n may come next where bit n is set in what is told.
abbrev pub comes_next : ℕ → ℕ → Bool
comes_next next leaf = eqb (next / 2 ^ leaf % 2) 1

-- a blank and the leaf, where it may come
abbrev pub leaf_text : ℕ → ℕ → List ℕ
leaf_text next leaf = cond (comes_next next leaf) (32 ∷ decimal leaf) []

-- how the run stands
abbrev pub end_line : End → List ℕ
end_line Open = ascii "open\n"
end_line (MayEnd Succeeded) = ascii "may end succeeded\n"
end_line (MayEnd Failed) = ascii "may end failed\n"

-- `next` and the leaves, of which a mask of 64 bits can tell 64; then the end
unfoldable pub told_lines : Told → List ℕ
told_lines t = ascii "next" ++ (each (leaf_text t.next) 0 64 ++ (10 ∷ end_line t.end))

-- of an answer that has the number in the place of a refusal
abbrev pub answer_lines : Result Told ℕ → List ℕ
answer_lines (Ok t) = told_lines t
answer_lines (Err n) = numbered refused n
