use Rattle.bx_calls.specs.Laws.{call_leaves, keeps_written, keeps_torn}
use Rattle.bx_calls.proofs.calls.write_some.Goals as goal

pub returns-in_err-write-clause-any_moment : goal.returns-in_err-write-clause-any_moment
returns-in_err-write-clause-any_moment g c = λ tells. call_leaves _ _ _ _ _ _ _ _ _ (c.write.ensures.time tells) (keeps_torn _ _ _ _ _ (c.in_err-write.ensures.torn tells)) (λ image left. g.met.R.Rack.only_now _ image tells left)

pub returns-clause-any_moment : goal.returns-clause-any_moment
returns-clause-any_moment g c = λ tells. call_leaves _ _ _ _ _ _ _ _ _ (c.write.ensures.time tells) (keeps_written _ _ _ _ _ (c.in_ok-write.ensures.written tells)) (λ image left. g.met.R.Rack.only_now _ image tells left)
