-- What the definitions of the promise of an end and of whole lists say, on two plans. Unused leaves are counted on the course's plan
-- (plans/swallowed.plan), which has nine nodes and five leaves. The plan "skip, then throw" shows what they do not admit: no end is told before it
-- is reached or reached with no entry, no leaf is told that is not next, and no list is taken whole that has an entry to be refused. Then timed
-- jobs of it.
use mathlib.Core.Path.{◌≡◌, refl, sym, ap, ◌∙◌}
use mathlib.Core.List.{List, [], ◌∷◌}
use mathlib.Core.Option.{Option, none, some, some-ne-none}
use Prim.Native.Nat.{ℕ, ◌≤◌}
use native.Mathlib.Omega.{arith}
use Rattle.std.specs.Prelude.{Ok}
use lib.ListN.{length}
use Rattle.blocks.specs.Bounded.{every, total}
use Rattle.hours.specs.Hours.{window_from, leaf_window}
use Rattle.hours.specs.Kept.{soonest}
use Rattle.process.specs.Process.{ok, fail, entry}
use Rattle.nodes.specs.Fold.{fold_from}
use Rattle.bodies.specs.Rule.{rule_from}
use Rattle.plan.specs.Reading.{bytes_of, read_of}
use Rattle.plan.specs.declared.Layout.{Layout}
use Rattle.runs.proofs.Leaves.{holds_none, holds_only}
use Rattle.state.specs.State.{told_by, leaf_permits, may_come, replay, entries_from}
use Rattle.state.specs.declared.Entry.{Entry}
use Rattle.job.specs.Job.{most_minute, fresh_job, with_entry, take_of}
use Rattle.job.specs.Timed.{with_hours, fresh_timed, start_timed_of, take_timed_of}
use Rattle.job.specs.declared.Job.{Job}
use Rattle.job.specs.Numbers.{number_of, end_number}
use Rattle.job.specs.Offer.{Standing, offer, TakesAll, no_more, one_more, started}
use Rattle.job.specs.Lists.{taken_from}
use Rattle.job.specs.PromisedEnd.{unused_leaves, EndsHere, TellsLeaf, ReachesEnd}

abbrev swallowed : List ℕ
swallowed =
    0 ∷ 0 ∷ 0 ∷ 0 ∷ 1 ∷ 0 ∷ 1 ∷ 0 ∷ 0 ∷ 7 ∷ 1 ∷ 2 ∷ 3 ∷ 0 ∷ 3 ∷ 0 ∷ 2 ∷ 0 ∷ 3 ∷ 4 ∷ 5 ∷ 0 ∷ 3 ∷ 0 ∷ 3 ∷ 6 ∷ 7 ∷ []

-- before the first entry, after two, and where its run has ended: with the store, and by way of the handler
all_unused : unused_leaves swallowed [] ≡ 5
unfolding total
all_unused = refl

two_used : unused_leaves swallowed (entry 0 ok ∷ entry 1 fail ∷ []) ≡ 3
unfolding total
two_used = refl

skip_unused : unused_leaves swallowed (entry 0 ok ∷ entry 1 ok ∷ entry 5 ok ∷ entry 7 ok ∷ []) ≡ 1
unfolding total
skip_unused = refl

none_unused : unused_leaves swallowed (entry 0 ok ∷ entry 1 fail ∷ entry 2 ok ∷ entry 5 ok ∷ entry 7 ok ∷ []) ≡ 0
unfolding total
none_unused = refl

-- one action, which no node names; no pairs; skip, throw, sequence; a rule
abbrev file : List ℕ
file = 1 ∷ 0 ∷ 1 ∷ 0 ∷ 3 ∷ 0 ∷ 0 ∷ 2 ∷ 0 ∷ 9 ∷ 0 ∷ 3 ∷ 0 ∷ 1 ∷ 0 ∷ 0 ∷ 2 ∷ 0 ∷ 0 ∷ 3 ∷ 0 ∷ 1 ∷ 1 ∷ 0 ∷ 4 ∷ 0 ∷ 0 ∷ []

abbrev layout : Layout
layout = record { types = record { at = 4; len = 1 }; pairs = record { at = 9; len = 0 }; nodes = record { at = 13; len = 9 }; rule = record { at = 26; len = 1 } }

accepted : read_of file ≡ Ok layout
unfolding every total fold_from rule_from
accepted = refl

abbrev fresh : Standing
fresh = started file layout

-- the skip has finished, and the throw has failed
abbrev over : Standing
over = offer fresh (record { leaf = 0; outcome = 1 } ∷ record { leaf = 1; outcome = 2 } ∷ [])

fresh_open : end_number fresh.told.end ≡ 0
unfolding fold_from told_by
fresh_open = refl

no_end_yet : EndsHere fresh → ⊥
no_end_yet (ok, e) = omega (arith, e, fresh_open)
no_end_yet (fail, e) = omega (arith, e, fresh_open)

-- an end takes an entry
stays : (x y : Standing) (es : List Entry) → length es ≤ 0 → TakesAll x es y → x ≡ y
stays x y [] h no_more = refl
stays x y (e ∷ es) h t = absurd (omega (arith, h))

entry_due : ReachesEnd 0 fresh → ⊥
entry_due r =
    no_end_yet (r.status, ap (λ (x : Standing). end_number x.told.end) (stays fresh r.ends.last r.entries r.few r.ends.takes) ∙ r.ends.ends)

-- the throw is unused, and not next
fresh_next : fresh.told.next ≡ 1
unfolding fold_from told_by
fresh_next = refl

skip_next : (t : TellsLeaf (bytes_of file layout.nodes) fresh) → t.leaf ≡ 0
skip_next t = holds_only t.leaf 0 (rw fresh_next at t.told)

-- nor is it taken
throw_refused : number_of (take_of fresh.job (record { leaf = 1; outcome = 2 })).answer ≡ some 11
unfolding every total fold_from rule_from told_by leaf_permits may_come replay entries_from
throw_refused = refl

not_taken : (y : Standing) → TakesAll fresh (record { leaf = 1; outcome = 2 } ∷ []) y → ⊥
not_taken y (one_more n t) = some-ne-none 11 (sym throw_refused ∙ n)

-- a list that has it first is taken without it
passed_over : taken_from fresh (record { leaf = 1; outcome = 2 } ∷ record { leaf = 0; outcome = 1 } ∷ []) ≡ record { leaf = 0; outcome = 1 } ∷ []
unfolding every total fold_from rule_from told_by leaf_permits may_come replay entries_from taken_from
passed_over = refl

-- after both the run may end, as one that failed, and nothing is next
over_ends : end_number over.told.end ≡ 2
unfolding every total fold_from rule_from told_by leaf_permits may_come replay entries_from offer
over_ends = refl

over_next : over.told.next ≡ 0
unfolding every total fold_from rule_from told_by leaf_permits may_come replay entries_from offer
over_next = refl

nothing_next : TellsLeaf (bytes_of file layout.nodes) over → ⊥
nothing_next t = holds_none t.leaf (rw over_next at t.told)

-- the plan file's number comes before 23, and 23 is for what is no window file for its one action
timed_starts : (number_of (start_timed_of [] (0 ∷ [])).answer ≡ some 1) × (number_of (start_timed_of file (1 ∷ 0 ∷ 0 ∷ 1 ∷ 0 ∷ [])).answer ≡ some 23)
unfolding every total fold_from rule_from
timed_starts = (refl, refl)

-- the fresh timed job takes no entry without a minute, and the untimed one none with one
abbrev timed : Job
timed = fresh_timed file []

skip_alone : (number_of (take_of timed (record { leaf = 0; outcome = 1 })).answer ≡ some 11) × (number_of (take_timed_of fresh.job (record { leaf = 0; outcome = 1 }) 0).answer ≡ some 11)
skip_alone = (refl, refl)

-- a job that is made up, with the skip at the largest minute, is real: then the throw comes at that minute, and not earlier, nor the skip again
abbrev at_the_end : ℕ → Entry → Option ℕ
at_the_end m e = number_of (take_timed_of (with_hours [] (with_entry (fresh_job file) (record { leaf = 0; outcome = 1 })) most_minute) e m).answer

in_turn : (at_the_end most_minute (record { leaf = 1; outcome = 2 }) ≡ none) × (at_the_end 6 (record { leaf = 1; outcome = 2 }) ≡ some 21)
    × (at_the_end 6 (record { leaf = 0; outcome = 1 }) ≡ some 11)
unfolding every total fold_from rule_from told_by leaf_permits may_come replay entries_from leaf_window soonest
in_turn = (refl, refl, refl)

-- A plan of two actions, of which its one leaf has the second, and hours for both: action 0 by night, action 1 by day.
abbrev alone : List ℕ
alone = 2 ∷ 0 ∷ 1 ∷ 0 ∷ 3 ∷ 3 ∷ 0 ∷ 0 ∷ 2 ∷ 0 ∷ 3 ∷ 0 ∷ 3 ∷ 0 ∷ 0 ∷ 1 ∷ 0 ∷ 1 ∷ 0 ∷ 4 ∷ 0 ∷ 0 ∷ []

abbrev hours : List ℕ
hours = 0 ∷ 60 ∷ 0 ∷ 120 ∷ 0 ∷ 1 ∷ 224 ∷ 1 ∷ 252 ∷ 3 ∷ []

-- leaf 0, finished, at minute m, of the job of it without an entry, with this minute
abbrev answered : ℕ → ℕ → Option ℕ
answered minute m = number_of (take_timed_of (with_hours hours (fresh_job alone) minute) (record { leaf = 0; outcome = 1 }) m).answer

-- by the window of its own action; and without an entry there was no minute but 0
by_day : (answered 0 60 ≡ some 22) × (answered 0 480 ≡ none) × (answered most_minute most_minute ≡ some 11)
unfolding every total fold_from rule_from told_by leaf_permits may_come replay entries_from leaf_window window_from soonest
by_day = (refl, refl, refl)
