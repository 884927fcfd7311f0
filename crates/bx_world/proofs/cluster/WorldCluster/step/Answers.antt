use Rattle.std.proofs.Common.{◌∙◌, ap, inl}
use Rattle.bx_calls.specs.Laws.{leaves_implies}
use Rattle.bx_world_machines.specs.bx_nodes.proofs.Machines.{if_ok_so}
use Rattle.bx_world.proofs.Acting.{each_ok}
use Rattle.bx_world.proofs.cluster.WorldCluster.step.Goals as goal

pub returns-clause-at : goal.returns-clause-at
returns-clause-at g c = λ tree parts tells from.
    if_ok_so _ _ c.act.result
    (λ outcome led. record { led = led; volume = ap (λ made. made.volume) c.act.ensures.made ∙ from.volume; areas = ap (λ made. made.areas) c.act.ensures.made ∙ from.areas })
    (c.act.ensures.led tree parts tells from.led)

pub returns-clause-any_moment : goal.returns-clause-any_moment
returns-clause-any_moment g c = λ tree parts tells from.
    each_ok _ c.act.result (λ outcome. leaves_implies _ _ _ _ _ _ (c.act.ensures.any_moment tree parts tells from.led) (λ image shows. inl shows))
