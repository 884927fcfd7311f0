use Rattle.std.proofs.Common.{ℕ, List, ◌≡◌, ◌++◌, subst}
use Rattle.bx_rows.proofs.Pushed.{on_ok, two}
use Rattle.bx_mirror_packets.specs.DeviceMessages.{copy_text, piece_text}
use Rattle.bx_mirror_packets.proofs.writing.push_copy.Goals as goal

pub returns : goal.returns
unfolding copy_text
returns c =
    let x = c.args.copy.now in
    on_ok c.push.result _ _ (λ e. two c.args.out.now.items (piece_text x.device x.epoch x.place) x.bytes _ _ c.in_ok-push_piece.ensures (subst (λ (bytes : List ℕ). c.push.new.out.items ≡ c.push_piece.new.out.items ++ bytes) c.bytes.ensures e)) c.push.ensures.ok
