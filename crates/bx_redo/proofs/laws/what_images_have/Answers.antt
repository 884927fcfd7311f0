use Rattle.bx_facts.specs.Writes.{IsSettled}
use Rattle.bx_volume.specs.Images.{devices_of}
use Rattle.bx_redo.proofs.Settled.{settled_has}
use Rattle.bx_redo.proofs.Shown.{shown}
use Rattle.bx_redo.proofs.laws.what_images_have.Goals as goal

pub returns : goal.returns
returns c = λ disks state image second devices areas before logs truth more log is sources st.
    shown (IsSettled disks state) devices areas state.sessions before (devices_of image second) logs truth more log log.work
    (λ d s apart. settled_has disks state image second is sources d s (before d s)) st
