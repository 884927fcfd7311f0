use Rattle.std.proofs.Common.{inl, inr, refl, subst}
use Rattle.std.proofs.lemmas.Result.{IfErr-weaker, err_from_is_err_and}
use Rattle.bx_opens.specs.bx_cluster.specs.Closing.{IsCrashed}
use Rattle.bx_replay.proofs.Causes.{on_ok, unless_disk}
use Rattle.bx_replay.proofs.Finishing.{not_printed, not_read_back, unended, unread}
use Rattle.bx_replay.proofs.ends.finish.Goals as goal

pub returns-in_err-listed-clause-ends : goal.returns-in_err-listed-clause-ends
returns-in_err-listed-clause-ends g c = λ tree sink_tells bench_tells stands.
    let p = err_from_is_err_and c.from_residual.result c.from_residual.ensures.1 in
    rw (p.1, p.2) (unended c.in_err-listed.field-0.0 _ _ _ _ _ _ _ c.in_err-listed.ensures.cause)

pub returns-in_err-listed-clause-cause : goal.returns-in_err-listed-clause-cause
returns-in_err-listed-clause-cause g c =
    let p = err_from_is_err_and c.from_residual.result c.from_residual.ensures.1 in
    rw (p.1, p.2) (not_read_back _ _ _ _ _ _ _ (λ held. held) c.in_err-listed.ensures.cause)

pub returns-clause-ends : goal.returns-clause-ends
returns-clause-ends g c = λ tree sink_tells bench_tells stands.
    let same = c.in_ok-listed.ensures.dropped bench_tells in
    let listed = c.in_ok-listed.ensures.listed bench_tells in
    rw same at (c.write_closing.ensures.ends (g.B.Rack.state c.read_back.new.bench) tree sink_tells (record { state = listed.state; is_state = listed.is_state; are_open = listed.is_listed.doubt })
    (c.in_ok-listed.ensures.one tree bench_tells (rw same stands)) (rw same stands))

pub returns-clause-drops : goal.returns-clause-drops
returns-clause-drops g c = λ tells. on_ok c.write_closing.result (c.in_ok-listed.ensures.dropped tells)

pub returns-clause-dropped : goal.returns-clause-dropped
returns-clause-dropped g c = λ disk sector tells. on_ok c.write_closing.result ((c.in_ok-listed.ensures.crashed tells).sure disk sector)

pub returns-clause-cause : goal.returns-clause-cause
returns-clause-cause g c = IfErr-weaker c.write_closing.result _ _ (λ stop cause. not_printed stop _ _ _ _ _ cause) c.write_closing.ensures.cause

pub returns-clause-bench_first : goal.returns-clause-bench_first
returns-clause-bench_first g c = unless_disk c.write_closing.result c.in_ok-listed.ensures.no_fault

pub returns-in_err-listed-clause-crashed : goal.returns-in_err-listed-clause-crashed
returns-in_err-listed-clause-crashed g c = λ bench_tells.
    let p = err_from_is_err_and c.from_residual.result c.from_residual.ensures.1 in
    inr (rw (p.1, p.2) (unread c.in_err-listed.field-0.0 _ _ _ c.in_err-listed.ensures.cause), refl)

pub returns-clause-crashed : goal.returns-clause-crashed
returns-clause-crashed g c = λ bench_tells. inl (subst (IsCrashed (g.B.Rack.state c.args.bench.now)) (c.in_ok-listed.ensures.dropped bench_tells) (c.in_ok-listed.ensures.crashed bench_tells))
