use Rattle.std.proofs.Common.{◌≡◌, ap, ◌∙◌, arith, length, List, ℕ, Err}
use Rattle.bx_page.proofs.Room.{size_with-le}
use Rattle.bx_splits.proofs.raising.put_child.Goals as goal

pub prove-unreachable-requires : goal.prove-unreachable-requires
prove-unreachable-requires c =
    let more = c.put.ensures.no_room.0 (c.in-Err-NoRoom.is ∙ ap Err c.in-Err-NoRoom.field-0-is) in
    let eight : length c.to_be_bytes.result ≡ 8 = ap (λ (bytes : List ℕ). length bytes) c.to_be_bytes.ensures in
    let most = size_with-le c.args.page.now c.args.key.now c.to_be_bytes.result in
    let room = c.requires.room in
    let key = c.requires.key in
    omega (arith, more, eight, most, room, key)
