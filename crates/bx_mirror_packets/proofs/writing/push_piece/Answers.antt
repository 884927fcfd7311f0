use Rattle.std.specs.Int.{w64, to_be_bytes}
use Rattle.bx_rows.specs.Spelling.{pair_text}
use Rattle.bx_rows.proofs.Pushed.{on_ok, two}
use Rattle.bx_mirror_packets.specs.DeviceMessages.{piece_text}
use Rattle.bx_mirror_packets.proofs.writing.push_piece.Goals as goal

pub returns : goal.returns
unfolding piece_text
returns c =
    let x = c.args.piece in
    on_ok c.push_u64.result _ _ (two c.args.out.now.items (pair_text x.device x.epoch) (to_be_bytes w64 x.place) _ _ c.in_ok-push_pair.ensures) c.push_u64.ensures.ok
