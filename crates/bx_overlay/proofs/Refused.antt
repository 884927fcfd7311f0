-- Disks that are refused show no tree.
use Rattle.std.proofs.Common.{◌≡◌, ℕ, ⊎_elim, Bool, arith}
use Rattle.std.proofs.lemmas.Option.{slice_get_within}
use Rattle.bx_disk.specs.Disks.{Disks}
use Rattle.bx_global.specs.declared.state.GlobalState.{GlobalState}
use Rattle.bx_layout.specs.declared.label.Label.{Label}
use Rattle.bx_model.specs.declared.tree.Tree.{Tree}
use Rattle.bx_volume.specs.Images.{IsFirstLabel, AreReadFrom, ShowsTree, by_device}
use Rattle.bx_volume.specs.Overlay.{IsOverlaidTruth}
use Rattle.bx_overlay.specs.declared.error.AuditError.{AuditError}
use Rattle.bx_overlay.specs.declared.error.AuditError.TheVariants.{DiskFault, NoLabel, NoMajority, NoSource, Torn, OutOfMemory}
use Rattle.bx_logs.specs.Members.{held_by}
use Rattle.bx_overlay.specs.Reading.{HasWrongLogs, IsRefused, IsRefusedAs}
use Rattle.bx_overlay.specs.Refusals.{IsLogClash, IsLogGap, RefusesLogs, RefusesMembers}
use Rattle.bx_overlay.proofs.Over.{are_agreed}
use Rattle.bx_overlay.proofs.Shown.{count, not_absent, not_unlabelled, shown_truth}

module _ (disks : Disks) (state : GlobalState) (second : ℕ → Bool) (tree : Tree) (from : AreReadFrom state second) (shows : ShowsTree disks.sizes disks.reads state (by_device second) tree) where
  by_members : (error : AuditError) (first : Label) → shows.first ≡ first → RefusesMembers disks first state.devices error → ⊥
  by_members DiskFault first same never = never
  by_members (NoLabel disk) first same lacks = not_unlabelled disks state second tree from shows first same disk lacks.2
  by_members NoMajority first same other = other (count disks state second tree from shows first same)
  by_members (NoSource device) first same absent = not_absent disks state second tree from shows first same device absent.1
  by_members (Torn block found wanted) first same never = never
  by_members OutOfMemory first same never = never

  module _ (error : AuditError) (wrong : HasWrongLogs disks state error) (same : shows.first ≡ wrong.first) where
    truth_is : IsOverlaidTruth (held_by disks.reads wrong.members) wrong.members.devices wrong.members.areas state.sessions shows.logs shows.truth
    truth_is = shown_truth disks state second tree from shows wrong.first same wrong.members wrong.are wrong.there.volume.least_devices

    by_gap : (block found wanted : ℕ) → IsLogGap disks.reads wrong.members state.sessions block found wanted → ⊥
    by_gap block found wanted gap = gap.none shows.logs truth_is.has_logs

    by_clash : (block found wanted : ℕ) → IsLogClash disks.reads wrong.members state.sessions block found wanted → ⊥
    by_clash block found wanted is =
        let clash = is.clash in
        let agreed = are_agreed disks.reads wrong.members state.sessions is.logs is.newest is.are is.of shows.truth shows.logs truth_is in
        let less = slice_get_within is.newest clash.later clash.other clash.other_there in
        clash.differ.apart (agreed clash.slot clash.later clash.one clash.other clash.order (omega (arith, less, is.of.count, is.are.count)) clash.one_there clash.other_there block clash.differ.a clash.differ.b clash.differ.one_has clash.differ.other_has)

    by_logs : (e : AuditError) → RefusesLogs disks.reads wrong.members state.sessions e → ⊥
    by_logs DiskFault never = never
    by_logs (NoLabel disk) never = never
    by_logs NoMajority never = never
    by_logs (NoSource device) never = never
    by_logs (Torn block found wanted) why = ⊎_elim (by_gap block found wanted) (by_clash block found wanted) why
    by_logs OutOfMemory never = never

  pub no_tree : ((a b : Label) → IsFirstLabel disks.sizes disks.reads a → IsFirstLabel disks.sizes disks.reads b → a ≡ b) → (error : AuditError) → IsRefused disks state error → ⊥
  no_tree one error refused = ⊎_elim
      (λ none. none.1 shows.first.disk shows.first shows.shows.is_first.own)
      (λ why. ⊎_elim
      (λ (is : IsRefusedAs disks state error). by_members error is.first (one shows.first is.first shows.shows.is_first is.is_first) is.members)
      (λ (wrong : HasWrongLogs disks state error). by_logs error wrong (one shows.first wrong.first shows.shows.is_first wrong.is_first) error wrong.logs)
      why)
      refused
