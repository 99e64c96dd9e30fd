-- `handed::append` meets its contract: nothing changes where there is no room, and else the two copies make one (`put`).
use Rattle.std.proofs.Common.{[], ◌∷◌, ℕ, ◌%◌, ◌/◌, ◌≡◌, length, sym, ap, ◌∙◌, arith}
use Rattle.blocks.specs.Block.{two}
use Rattle.handed.proofs.HandIn.{stays, small, put}
use Rattle.handed.proofs.input.append.Goals as goal

pub returns-then-not-has_room : goal.returns-then-not-has_room
returns-then-not-has_room c =
    let a = c.args in
    let k = stays a.input.now a.at a.file.now (sym c.has_room.ensures ∙ c.if-not-has_room.true) in
    record { value = sym k.1; input_after = sym k.0 }

pub returns : goal.returns
returns c =
    let a = c.args in
    let f = a.file.now in
    let room = sym c.has_room.ensures ∙ c.if-not-has_room.false in
    let k = put a.input.now a.at f room in
    let high : length f / 256 % 256 ≡ length f / 256 = omega (arith, small a.input.now a.at f room) in
    let said : c.to_le_bytes.result ≡ two (length f) = c.to_le_bytes.ensures ∙ ap (λ (h : ℕ). length f % 256 ∷ h ∷ []) high in
    record {
      value = k.0;
      input_after = c.copy-2.ensures.dst_after ∙ rw (said, c.copy.ensures.dst_after) k.1;
    }
