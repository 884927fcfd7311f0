use Rattle.std.specs.Int.{w64, to_be_bytes}
use Rattle.bx_rows.specs.Spelling.{device_text, pair_text}
use Rattle.bx_rows.proofs.Pushed.{on_ok, three}
use Rattle.bx_rows.proofs.writing.push_device.Goals as goal

pub returns : goal.returns
unfolding device_text
returns c =
    let x = c.args.row.now in
    on_ok c.push_u64-2.result _ _ (three c.args.out.now.items (pair_text x.mode x.epoch) (to_be_bytes w64 x.boot_a) (to_be_bytes w64 x.boot_b) _ _ _ c.in_ok-push_pair.ensures c.in_ok-push_u64.ensures.ok) c.push_u64-2.ensures.ok
