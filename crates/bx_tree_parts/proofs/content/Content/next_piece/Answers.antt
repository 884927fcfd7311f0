use Rattle.std.proofs.Common.{◌≡◌, ◌*◌, ◌-◌, ◌<◌, ◌≤◌, ℕ, List, arith, min, length, take, subst}
use Rattle.bx_tree_parts.specs.Sparse.{AreZerosFrom, IsNext}
use Rattle.bx_tree_parts.specs.Pieces.{byte_at}
use Rattle.bx_tree_parts.proofs.Contents.{none_next, past_next, is_next}
use Rattle.bx_tree_parts.proofs.content.Content.next_piece.Goals as goal

pub returns-in_err-index : goal.returns-in_err-index
returns-in_err-index c =
    rw c.from_residual.ensures
    (subst (λ (bytes : List ℕ). AreZerosFrom bytes (4096 * c.args.from)) c.self.view_is (none_next (byte_at c.self.inside.pieces) c.self.inside.size c.args.from c.in_err-index.ensures))

pub returns-then-start-size : goal.returns-then-start-size
returns-then-start-size c =
    let past : c.self.inside.size ≤ 4096 * c.in_ok-index.index = omega (arith, c.if-start-size.true, c.from-size.ensures, c.from-start.ensures) in
    subst (λ (bytes : List ℕ). AreZerosFrom bytes (4096 * c.args.from)) c.self.view_is
    (past_next (byte_at c.self.inside.pieces) c.self.inside.size c.args.from c.in_ok-index.index c.in_ok-index.piece.now c.in_ok-index.ensures past)

pub returns : goal.returns
returns c =
    let next = c.in_ok-index.ensures in
    let within : 4096 * c.in_ok-index.index < c.self.inside.size = omega (arith, c.if-start-size.false, c.from-size.ensures, c.from-start.ensures) in
    let long : length c.in_ok-index.piece.now ≡ 4096 = next.long in
    let len : c.min-len.result ≡ min 4096 (c.self.inside.size - 4096 * c.in_ok-index.index) =
    omega (arith, c.min-len.ensures, long, c.from-size.ensures, c.from-start.ensures) in
    subst (λ (bytes : List ℕ). IsNext bytes c.args.from c.in_ok-index.index (take c.min-len.result c.in_ok-index.piece.now)) c.self.view_is
    (is_next (byte_at c.self.inside.pieces) c.self.inside.size c.args.from c.in_ok-index.index c.in_ok-index.piece.now c.in_ok-index.ensures c.min-len.result within len)
