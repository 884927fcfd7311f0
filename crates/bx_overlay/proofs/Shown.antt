-- What a tree that disks show has to do with what is read off them.
use Rattle.std.proofs.Common.{◌≡◌, ◌↔◌, ℕ, ◌+◌, ◌%◌, ◌<◌, ◌≤◌, ◌⊎◌, ⊎_elim, Bool, true, false, arith, List, length, Some, sym, ap, ◌∙◌, subst, refl}
use Rattle.std.specs.Prelude.{slice_get, slice_index}
use Rattle.std.proofs.lemmas.List.{get_or_past}
use Rattle.std.proofs.lemmas.Nat.{mod_below}
use Rattle.bx_disk.specs.Disks.{Image, Disks}
use Rattle.bx_rows.specs.declared.device.DeviceRow.{DeviceRow}
use Rattle.bx_rows.specs.declared.session.SessionRow.{SessionRow}
use Rattle.bx_rows.specs.Modes.{IsReadAtA, IsSource}
use Rattle.bx_global.specs.declared.state.GlobalState.{GlobalState}
use Rattle.bx_layout.specs.declared.label.Label.{Label}
use Rattle.bx_places.specs.Places.{block_place, log_device}
use Rattle.bx_model.specs.declared.tree.Tree.{Tree}
use Rattle.bx_views.specs.Truths.{Truth}
use Rattle.bx_volume.specs.Images.{IsLabelled, AreReadFrom, ShowsTree, by_device, devices_of, member_disk}
use Rattle.bx_volume.specs.Overlay.{Logs, IsOverlaidTruth}
use Rattle.bx_volume.proofs.Kept.{has_log}
use Rattle.bx_logs.specs.bx_homes.specs.Sources.{HasSource, IsFirstAbsent, IsFirstUnlabelled}
use Rattle.bx_logs.specs.declared.members.Members.{Members}
use Rattle.bx_logs.specs.Members.{held_by, member_in}
use Rattle.bx_overlay.specs.Reading.{AreMembers}
use Rattle.bx_logs.proofs.LogRuns.{log_same}
use Rattle.bx_overlay.proofs.There.{is_source, long_as, row_of}

-- ---- the truth depends on what the devices hold

truth_same : (held now : Image) (devices areas : ℕ) (rows : List SessionRow) (logs : Logs) (truth : Truth) → 1 ≤ devices → ((d s : ℕ) → d < devices → now d s ≡ held d s)
    → IsOverlaidTruth held devices areas rows logs truth → IsOverlaidTruth now devices areas rows logs truth
truth_same held now devices areas rows logs truth some same is = record {
  has_logs = λ slot less. has_log rows held now devices areas slot (logs slot) (log_same held now devices areas slot (λ s. same (log_device slot devices) s (mod_less slot)) (logs slot)) (is.has_logs slot less);
  logged = is.logged;
  home = λ at is_block unlogged.
      let home = is.home at is_block unlogged in
      record { is = home.is; reads = record { each = λ i less. same (block_place at devices).0 ((block_place at devices).1 + i) (mod_less _) ∙ home.reads.each i less } };
}
  where
    mod_less : (n : ℕ) → n % devices < devices
    mod_less n = mod_below n devices some

-- two members that reads go to are one
same_member : (mode : ℕ) (a b : Bool) → (a ≡ false) ↔ IsReadAtA mode → (b ≡ false) ↔ IsReadAtA mode → a ≡ b
same_member mode false false of_a of_b = refl
same_member mode true true of_a of_b = refl
same_member mode false true of_a of_b = let no = of_b.1 (of_a.0 refl) in absurd (cc)
same_member mode true false of_a of_b = let no = of_a.1 (of_b.0 refl) in absurd (cc)

module _ (disks : Disks) (state : GlobalState) (second : ℕ → Bool) (tree : Tree) (from : AreReadFrom state second) (shows : ShowsTree disks.sizes disks.reads state (by_device second) tree)
    (first : Label) (same_first : shows.first ≡ first) where
  pub count : length state.devices ≡ first.devices
  count = shows.shows.devices ∙ ap (λ (l : Label). l.devices) same_first

  pub labelled : (device : ℕ) (row : DeviceRow) (member : Bool) → slice_get state.devices device ≡ Some row → IsSource row.mode member → IsLabelled disks.sizes disks.reads first (member_disk device member)
  labelled device row member there source = subst (λ (l : Label). IsLabelled disks.sizes disks.reads l (member_disk device member)) same_first (shows.shows.labelled device row member there source)

  -- no source is absent
  pub has_source : (device : ℕ) (row : DeviceRow) → slice_get state.devices device ≡ Some row → HasSource disks.sizes device row
  has_source device row there member reads = ⊎_elim
      (λ less. less)
      (λ past.
      let is = labelled device row member there (is_source row.mode member reads) in
      let none : slice_index disks.sizes (member_disk device member) ≡ 0 = get_or_past disks.sizes (member_disk device member) 0 past in
      let long = long_as is.label.devices is.label.areas device member in
      absurd (omega (arith, is.own.long_enough, none, long)))
      (side (member_disk device member) (length disks.sizes))
    where
      side : (n m : ℕ) → (n < m) ⊎ (m ≤ n)
      side n m = grind arith

  pub not_absent : (device : ℕ) → IsFirstAbsent disks.sizes state.devices device → ⊥
  not_absent device absent = absent.absent (has_source device absent.row absent.there)

  pub not_unlabelled : (disk : ℕ) → IsFirstUnlabelled disks.sizes disks.reads first state.devices disk → ⊥
  not_unlabelled disk lacks = lacks.without (subst (IsLabelled disks.sizes disks.reads first) (sym lacks.disk_is) (labelled lacks.device lacks.row lacks.member lacks.there lacks.source))

  module _ (members : Members) (are : AreMembers first state.devices members) (some : 1 ≤ members.devices) where
    pub shown_truth : IsOverlaidTruth (held_by disks.reads members) members.devices members.areas state.sessions shows.logs shows.truth
    shown_truth = truth_same (devices_of disks.reads (by_device second)) (held_by disks.reads members) members.devices members.areas state.sessions shows.logs shows.truth some same here
      where
        here : IsOverlaidTruth (devices_of disks.reads (by_device second)) members.devices members.areas state.sessions shows.logs shows.truth
        here =
            let devices : shows.first.devices ≡ members.devices = ap (λ (l : Label). l.devices) same_first ∙ sym are.devices in
            let areas : shows.first.areas ≡ members.areas = ap (λ (l : Label). l.areas) same_first ∙ sym are.areas in
            subst (λ (n : ℕ). IsOverlaidTruth (devices_of disks.reads (by_device second)) members.devices n state.sessions shows.logs shows.truth) areas
            (subst (λ (n : ℕ). IsOverlaidTruth (devices_of disks.reads (by_device second)) n shows.first.areas state.sessions shows.logs shows.truth) devices shows.shows.is_truth)

        same : (d s : ℕ) → d < members.devices → held_by disks.reads members d s ≡ devices_of disks.reads (by_device second) d s
        same d s less =
            let at = row_of state.devices members d (count ∙ sym are.devices) less in
            ap (λ (b : Bool). disks.reads (member_disk d b) s) (same_member at.row.mode (member_in members.seconds d) (second d) (are.sources d at.row at.there) (from d at.row at.there))
