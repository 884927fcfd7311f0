use Rattle.std.proofs.Common.{◌∙◌}
use Rattle.std.proofs.lemmas.Result.{on_ok_weaker}
use Rattle.bx_master.proofs.Concerned.{serves}
use Rattle.bx_master.proofs.master.Master.serve.Goals as goal

pub returns : goal.returns
returns c = on_ok_weaker c.serve_all.result (λ did. serves c.args.known.now c.args.reading c.args.only c.as_slice.result.now c.args.self.now c.serve_all.new.self c.args.words.now.items c.serve_all.new.words.items c.in_ok-wants.ensures.once (c.as_slice.ensures.value ∙ c.in_ok-wants.ensures.is) did) c.serve_all.ensures
