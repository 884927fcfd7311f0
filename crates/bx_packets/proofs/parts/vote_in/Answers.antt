use Rattle.std.proofs.Common.{arith}
use Rattle.std.proofs.lemmas.Result.{err_from_is_err_and}
use Rattle.bx_base.proofs.Whole.{all_met}
use Rattle.bx_packets.specs.Reading.{NoVote, SpellsVote}
use Rattle.bx_packets.proofs.Bodies.{no_vote, vote_ends, vote_read}
use Rattle.bx_packets.proofs.parts.vote_in.Goals as goal

pub returns-in_err-vote_of : goal.returns-in_err-vote_of
returns-in_err-vote_of c =
    let p = err_from_is_err_and c.from_residual.result c.from_residual.ensures.1 in
    rw (p.1, p.2) (no_vote c.in_err-vote_of.field-0.0 c.args.bytes.now c.in_err-vote_of.ensures)

pub returns : goal.returns
returns c =
    let read = c.in_ok-vote_of.field-0 in
    all_met (λ x. SpellsVote x.0 x.1 c.args.bytes.now) (λ e. NoVote e c.args.bytes.now) read.0 read.1.now c.all_of.result
    (λ none. vote_read c.args.bytes.now read.1.now read.0 (λ i. omega (arith, c.type_inv.bytes i)) c.in_ok-vote_of.ensures none)
    (λ some b i is. some (vote_ends c.args.bytes.now read.1.now read.0 b i c.in_ok-vote_of.ensures is)) c.all_of.ensures
