use Rattle.std.specs.Prelude.{Ok}
use Rattle.bx_model.specs.Reading.{attributes_reply}
use Rattle.bx_reads.proofs.Told.{shown, stops}
use Rattle.bx_reads.proofs.attributes.getattr.Goals as goal

pub returns-in-Err-clause-step : goal.returns-in-Err-clause-step
returns-in-Err-clause-step g c = λ truth tree same s. stops tree c.args.at.now c.args.areas truth (λ file. Ok (attributes_reply tree file, tree)) c.in-Err.stop (c.in-Err.ensures.names truth tree same s)

pub returns-in_ok-words-in-Ok-clause-step : goal.returns-in_ok-words-in-Ok-clause-step
returns-in_ok-words-in-Ok-clause-step g c = λ truth tree same s.
    let f = c.in-Ok.ensures.names truth tree same s in
    shown tree c.args.at.now c.args.areas truth c.args.volume c.in-Ok.handle c.in-Ok.inode s.volume_is f c.in_ok-words-in-Ok.words (c.in_ok-words-in-Ok.ensures f.file f.handle_is f.fields f.size f.size_fits)
