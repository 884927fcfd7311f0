use Rattle.bx_host.proofs.Acting.{kept_ok}
use Rattle.bx_host.proofs.host.Host.keep.Goals as goal

pub returns-clause-ok : goal.returns-clause-ok
returns-clause-ok g c = kept_ok c.push.result c.args.self.now.answers c.push.new.self c.args.outcome c.push.ensures.ok
