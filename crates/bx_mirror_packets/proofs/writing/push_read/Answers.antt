use Rattle.std.proofs.Common.{◌≡◌, ◌++◌, subst}
use Rattle.std.specs.Int.{w32, w64, to_be_bytes}
use Rattle.bx_rows.proofs.Pushed.{on_ok, three}
use Rattle.bx_mirror_packets.specs.declared.parts.Head.{Head}
use Rattle.bx_mirror_packets.specs.DeviceMessages.{head_text, read_text}
use Rattle.bx_mirror_packets.proofs.writing.push_read.Goals as goal

pub returns : goal.returns
unfolding read_text
returns c =
    let x = c.args.read.now in
    let head = subst (λ (h : Head). c.push_head.new.out.items ≡ c.args.out.now.items ++ head_text h.session h.device h.epoch h.number) c.of-head.ensures c.in_ok-push_head.ensures in
    on_ok c.push_u32.result _ _ (three c.args.out.now.items (head_text x.session x.device x.epoch x.tag) (to_be_bytes w64 x.place) (to_be_bytes w32 x.sectors) _ _ _ head c.in_ok-push_u64.ensures.ok) c.push_u32.ensures.ok
