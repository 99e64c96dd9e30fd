-- The entries of a run without their order: which occur in it, and how many of them failed.
use mathlib.Core.List.{[], ◌∷◌, Memᴰ, Permᴰ}
use Rattle.std.specs.Prelude.{ℕ, ◌+◌}
use Rattle.process.specs.Process.{Status, ok, fail, Entry, entry, Run}

abbrev pub Occurs : Entry → Run → Type 0
Occurs e r = Memᴰ e r

-- Every entry of w occurs in r.
abbrev pub AllIn : Run → Run → Type 0
AllIn w r = (e : Entry) → Occurs e w → Occurs e r

-- One is the other in another order.
abbrev pub SameEntries : Run → Run → Type 0
SameEntries q r = Permᴰ q r

-- What an entry adds to the number of failed ones: 1 where it failed. A throw's entry is a failed one.
abbrev pub failing : Status → ℕ
failing ok = 0
failing fail = 1

-- N7's "failed entries" of a run, counted.
abbrev pub failures : Run → ℕ
failures [] = 0
failures (entry n s ∷ r) = failing s + failures r
