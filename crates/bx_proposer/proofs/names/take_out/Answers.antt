use Rattle.std.proofs.Common.{rules}
use Rattle.std.proofs.lemmas.Fn.{filter_same}
use Rattle.bx_proposer.specs.Names.{is_other}
use Rattle.bx_proposer.proofs.names.take_out.Goals as goal

pub returns : goal.returns
returns c = filter_same _ (is_other c.args.who.now) _ (λ x b f h. search rules) _ _ c.retain.ensures.filtered
