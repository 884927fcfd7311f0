use Rattle.bx_facts.specs.Writes.{IsSettled}
use Rattle.bx_redo.proofs.HomeRuns.{all_sure, homes_done, homes_out}
use Rattle.bx_redo.proofs.Homed.{are_home}
use Rattle.bx_redo.proofs.stores.a_store_writes_homes.Goals as goal

pub returns-clause-out : goal.returns-clause-out
returns-clause-out c = λ disks disks_then state state_then devices areas before logs slot runs sent greatest less its each goes. (
  homes_out devices areas logs slot less runs its (IsSettled disks state) (IsSettled disks_then state_then) sent greatest each goes before,
  homes_done devices areas logs slot less runs its (IsSettled disks state) (IsSettled disks_then state_then) sent greatest each goes before,
)

pub returns-clause-home : goal.returns-clause-home
returns-clause-home c = λ devices areas before logs slot runs volume less its. are_home devices areas logs slot less runs its before volume

pub returns-clause-sure : goal.returns-clause-sure
returns-clause-sure c = λ disks disks_then state state_then devices areas rows before logs truth more slot runs sent greatest write index less its each goes asks was done.
    all_sure devices areas logs slot less runs its (IsSettled disks state) (IsSettled disks_then state_then) sent greatest each goes rows before truth more index write asks was done
