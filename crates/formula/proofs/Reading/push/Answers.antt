-- `formula::Reading::push` meets its contract: the byte takes the place of the first zero behind those so far.
use mathlib.Core.Path.{◌≡◌, refl}
use mathlib.Core.List.{List, [], ◌∷◌, ◌++◌, append_assoc}
use Prim.Native.Nat.{ℕ, suc, ◌+◌, ◌-◌, ◌<◌}
use native.Mathlib.Omega.{arith}
use lib.ListN.{length, replicate, set, length-append}
use lib.Seq.{set-append_seam}
use Rattle.formula.specs.Answer.{room}
use Rattle.formula.proofs.Reading.push.Goals as goal

grown : (p : List ℕ) (b : ℕ) → length p < room
    → set (p ++ replicate (room - length p) 0) (length p) b ≡ (p ++ (b ∷ [])) ++ replicate (room - length (p ++ (b ∷ []))) 0
grown p b h =
    let e : room - length p ≡ suc (room - (length p + 1)) = omega arith in
    rw (length-append p (b ∷ []), append_assoc p (b ∷ []), e, set-append_seam p 0)

pub returns-then-self-lt-ROOM : goal.returns-then-self-lt-ROOM
returns-then-self-lt-ROOM c = record { stays = refl; holds = λ p h l. record { counted = rw (length-append p, h.counted); written = rw (h.counted, h.written) (grown p c.args.b l) } }
