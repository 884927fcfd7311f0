use Rattle.bx_facts.specs.Writes.{IsSettled}
use Rattle.bx_redo.proofs.Moments.{moment_of_homes, moment_shows}
use Rattle.bx_redo.proofs.stores.what_images_have_at_any_moment.Goals as goal

pub returns-clause-log : goal.returns-clause-log
returns-clause-log c = λ disks state image second devices areas before logs truth more log sent greatest sources has.
    moment_shows (IsSettled disks state) disks state (λ d s content settled. settled.there) image second sources sent greatest has devices areas state.sessions before logs truth more log

pub returns-clause-homes : goal.returns-clause-homes
returns-clause-homes c = λ disks state image second devices areas before logs truth more slot sent greatest sources has.
    moment_of_homes (IsSettled disks state) disks state (λ d s content settled. settled.there) image second sources sent greatest has devices areas state.sessions before logs truth more slot
