-- `Sought::entry` meets its contract: none of the leaves that were passed has an outcome.
use mathlib.Core.Path.{◌≡◌, sym, ◌∙◌}
use mathlib.Core.List.{List}
use Prim.Native.Nat.{ℕ, suc, ◌+◌, ◌-◌, ◌<◌}
use Rattle.std.proofs.Common.{None, Some}
use native.Mathlib.Numerals.{add-one}
use Rattle.nodes.specs.Nodes.{count}
use Rattle.plainest.specs.Shown.{outcome_for, entry_from}
use native.Mathlib.Omega.{arith}
use Rattle.plainest.proofs.Sought.entry.Goals as goal

module _ (types b : List ℕ) (S k : ℕ) (table : List ℕ) (next n i : ℕ) (h : i < n) where
  -- one leaf more is passed, or is the next entry's
  passed : outcome_for types b S k table next i ≡ None → entry_from types b S k table next i (n - i) ≡ entry_from types b S k table next (i + 1) (n - (i + 1))
  unfolding entry_from
  passed e =
      let z : n - i ≡ suc (n - (i + 1)) = omega arith in
      rw (z, e, add-one i)

  here : (o : ℕ) → outcome_for types b S k table next i ≡ Some o → entry_from types b S k table next i (n - i) ≡ Some (record { leaf = i; outcome = o })
  unfolding entry_from
  here o e =
      let z : n - i ≡ suc (n - (i + 1)) = omega arith in
      rw (z, e)

pub returns-in-Some : goal.returns-in-Some
returns-in-Some c =
    let a = c.args in
    let s = a.self.now.search in
    let p = s.process in
    sym (c.loop-n.invariant ∙ here p.types.now p.nodes.now s.set a.self.now.fewest a.table.now a.next (count p.nodes.now) c.loop-n.n (omega arith) c.in-Some.outcome (sym c.outcome_for.ensures ∙ c.in-Some.is))

pub loop-n-preserved : goal.loop-n-preserved
loop-n-preserved c =
    let a = c.args in
    let s = a.self.now.search in
    let p = s.process in
    c.loop-n.invariant ∙ passed p.types.now p.nodes.now s.set a.self.now.fewest a.table.now a.next (count p.nodes.now) c.loop-n.n (omega arith) (sym c.outcome_for.ensures ∙ c.in_default.is)

pub returns : goal.returns
unfolding entry_from
returns c =
    let z : count c.args.self.now.search.process.nodes.now - c.loop-n.n ≡ 0 = omega arith in
    sym (rw z at c.loop-n.invariant)
