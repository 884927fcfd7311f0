use Rattle.std.proofs.Common.{ℕ, List, sym, subst}
use Rattle.bx_plain_store.specs.Out.{IsFitting}
use Rattle.bx_plain_store.proofs.Replicas.{replicas_state, replicas_then}
use Rattle.bx_plain_store.proofs.syncs.sync_all.Goals as goal

pub serve_all-requires-clause-fit : goal.serve_all-requires-clause-fit
serve_all-requires-clause-fit g c = λ node write run here has. subst (λ (sizes : List ℕ). IsFitting c.args.devices sizes run) (sym c.answer_all.ensures.rack.sizes) (c.requires.writes node write run here has)

pub returns-in_err-serve_all-clause-done : goal.returns-in_err-serve_all-clause-done
returns-in_err-serve_all-clause-done g c = λ node sent s tells. c.serve_all.ensures.done node sent s (c.answer_all.ensures.rack.keeps_telling tells)

pub returns-clause-done : goal.returns-clause-done
returns-clause-done g c = λ node sent s tells. c.serve_all.ensures.done node sent s (c.answer_all.ensures.rack.keeps_telling tells)

pub returns-in_err-answer_all-clause-replicas : goal.returns-in_err-answer_all-clause-replicas
returns-in_err-answer_all-clause-replicas g c = λ tells. replicas_state _ _ (c.answer_all.ensures.stays tells)

pub returns-in_err-serve_all-clause-replicas : goal.returns-in_err-serve_all-clause-replicas
returns-in_err-serve_all-clause-replicas g c = λ tells. replicas_then _ _ _ (replicas_state _ _ (c.answer_all.ensures.stays tells)) (c.serve_all.ensures.replicas (c.answer_all.ensures.rack.keeps_telling tells))

pub returns-clause-replicas : goal.returns-clause-replicas
returns-clause-replicas g c = λ tells. replicas_then _ _ _ (replicas_state _ _ (c.answer_all.ensures.stays tells)) (c.serve_all.ensures.replicas (c.answer_all.ensures.rack.keeps_telling tells))
