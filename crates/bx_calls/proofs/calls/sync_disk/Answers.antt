use Rattle.std.proofs.Common.{◌≡◌, ℕ, arith, rules}
use Rattle.std.proofs.lemmas.Bool.Decides.{nat_tests}
use Rattle.bx_disk.specs.Disks.{Disks, synced}
use Rattle.bx_calls.specs.Regions.{IsSynced}
use Rattle.bx_calls.specs.Calls.{KeepsAll}
use Rattle.bx_calls.proofs.calls.sync_disk.Goals as goal

is_synced : (old new : Disks) (disk : ℕ) → new ≡ synced old disk → IsSynced new disk
is_synced old new disk is = rw is (grind (arith, nat_tests))

keeps_synced : (old new : Disks) (disk : ℕ) → new ≡ synced old disk → KeepsAll old new disk
keeps_synced old new disk is = rw is (grind (arith, nat_tests))

pub returns-clause-sure : goal.returns-clause-sure
returns-clause-sure g c = λ tells. is_synced _ _ _ (c.in_ok-sync.ensures.synced tells)

pub returns-clause-keeps : goal.returns-clause-keeps
returns-clause-keeps g c = λ tells. keeps_synced _ _ _ (c.in_ok-sync.ensures.synced tells)

pub returns-in_err-sync-clause-stays : goal.returns-in_err-sync-clause-stays
returns-in_err-sync-clause-stays g c = search rules
