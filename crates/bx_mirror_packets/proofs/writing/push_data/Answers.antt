use Rattle.std.proofs.Common.{ℕ, List, ◌≡◌, ◌++◌, subst}
use Rattle.bx_rows.proofs.Pushed.{on_ok, two}
use Rattle.bx_mirror_packets.specs.declared.parts.Head.{Head}
use Rattle.bx_mirror_packets.specs.DeviceMessages.{data_text, head_text}
use Rattle.bx_mirror_packets.proofs.writing.push_data.Goals as goal

pub returns : goal.returns
unfolding data_text
returns c =
    let x = c.args.answer.now in
    let head = subst (λ (h : Head). c.push_head.new.out.items ≡ c.args.out.now.items ++ head_text h.session h.device h.epoch h.number) c.of-head.ensures c.in_ok-push_head.ensures in
    on_ok c.push.result _ _ (λ e. two c.args.out.now.items (head_text x.session x.device x.epoch x.tag) x.bytes _ _ head (subst (λ (bytes : List ℕ). c.push.new.out.items ≡ c.push_head.new.out.items ++ bytes) c.bytes.ensures e)) c.push.ensures.ok
