-- `reply::put_items` meets its contract. The invariant: what is left of the bytes, put into the text so far, gives what all of them give.
use mathlib.Core.Path.{◌≡◌}
use Prim.Native.Nat.{◌-◌, min}
use Rattle.text.specs.Lines.{each}
use Rattle.text.specs.Text.{appended}
use Rattle.reply.specs.Line.{item_at}
use Rattle.reply.proofs.put_items.Given as goal

abbrev pub invariant-loop-i : goal.invariant-loop-i
invariant-loop-i l = appended l.initial.t (each (item_at l.bytes) 0 (min l.n 127 - 0)) ≡ appended l.t (each (item_at l.bytes) l.i (min l.n 127 - l.i))
