use Rattle.std.specs.Int.{w64, to_be_bytes}
use Rattle.bx_rows.specs.Spelling.{pair_text}
use Rattle.bx_rows.proofs.Pushed.{on_ok, three}
use Rattle.bx_mirror_packets.specs.DeviceMessages.{head_text}
use Rattle.bx_mirror_packets.proofs.writing.push_head.Goals as goal

pub returns : goal.returns
unfolding head_text
returns c =
    let x = c.args.head in
    on_ok c.push_u64-2.result _ _ (three c.args.out.now.items (to_be_bytes w64 x.session) (pair_text x.device x.epoch) (to_be_bytes w64 x.number) _ _ _ c.in_ok-push_u64.ensures.ok c.in_ok-push_pair.ensures) c.push_u64-2.ensures.ok
