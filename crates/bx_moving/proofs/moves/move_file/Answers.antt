use Rattle.std.proofs.Common.{[]}
use Rattle.bx_model.specs.Renaming.{renamed}
use Rattle.bx_moving.specs.Moves.{brought, other_of}
use Rattle.bx_moving.proofs.Steps.{grown, stops_by}
use Rattle.bx_moving.proofs.moves.move_file.Goals as goal

pub returns-in-Err-clause-step : goal.returns-in-Err-clause-step
returns-in-Err-clause-step g c = λ truth tree m counts.
    grown c.args.areas truth [] [] (brought c.args.now tree c.args.moving c.args.new_name.now c.args.replaced) (renamed c.args.now tree m.source.file c.args.name.now m.target.file c.args.new_name.now m.moved (other_of tree c.args.moving m.target.names c.args.new_name.now c.args.replaced m.other)) c.in-Err.error (c.in-Err.ensures.step truth tree c.args.name.now m)

pub returns-in-Err-send-clause-step : goal.returns-in-Err-send-clause-step
returns-in-Err-send-clause-step g c = λ truth tree m counts.
    stops_by c.args.areas truth [] [] (renamed c.args.now tree m.source.file c.args.name.now m.target.file c.args.new_name.now m.moved (other_of tree c.args.moving m.target.names c.args.new_name.now c.args.replaced m.other)) (renamed c.args.now tree m.source.file c.args.name.now m.target.file c.args.new_name.now m.moved (other_of tree c.args.moving m.target.names c.args.new_name.now c.args.replaced m.other)) c.in-Err-send.stop (c.in-Err-send.ensures.step truth tree c.args.new_name.now m (c.in-Ok.ensures.step truth tree c.args.name.now m) counts)

pub returns-in-Ok-send-clause-step : goal.returns-in-Ok-send-clause-step
returns-in-Ok-send-clause-step g c = λ truth tree m counts.
    c.in-Ok-send.ensures.step truth tree c.args.new_name.now m (c.in-Ok.ensures.step truth tree c.args.name.now m) counts
