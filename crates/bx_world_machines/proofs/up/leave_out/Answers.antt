use Rattle.std.proofs.Common.{rules}
use Rattle.std.specs.Prelude.{not}
use Rattle.std.proofs.lemmas.Fn.{filter_same}
use Rattle.bx_post.specs.Machines.{is_same}
use Rattle.bx_world_machines.proofs.up.leave_out.Goals as goal

pub returns : goal.returns
returns c = filter_same _ (λ one. not (is_same c.args.who one)) _ (λ x b f h. search rules) _ _ c.retain.ensures.filtered
