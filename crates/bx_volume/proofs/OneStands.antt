-- An image stands for one tree.
use Rattle.std.proofs.Common.{◌≡◌, ℕ, ◌/◌, ◌<◌, ◌≤◌, ◌⊎◌, inl, inr, arith, Bool, true, false, List, length, get_or, sym, ap, subst, refl, Some, None}
use Rattle.std.specs.Prelude.{slice_get, ◌↔◌}
use Rattle.std.proofs.Math.Nat.{mod-lt}
use Rattle.std.proofs.lemmas.Option.{slice_get_cases}
use Rattle.bx_disk.specs.Disks.{Image}
use Rattle.bx_rows.specs.declared.device.DeviceRow.{DeviceRow}
use Rattle.bx_rows.specs.Modes.{IsReadAtA}
use Rattle.bx_global.specs.declared.state.GlobalState.{GlobalState}
use Rattle.bx_layout.specs.declared.label.Label.{Label}
use Rattle.bx_tree_laws.specs.bx_model.specs.declared.tree.Tree.{Tree}
use Rattle.bx_volume.specs.Images.{IsFirstLabel, AreReadFrom, ShowsTree, ImageStandsFor, by_device, devices_of, member_disk}
use Rattle.bx_volume.specs.Overlay.{Logs, Matters, Gate, Body, Home}
use Rattle.bx_volume.proofs.Matters.{truth_same}
use Rattle.bx_volume.proofs.OneShown.{one_shown}

-- what matters is on a device of the volume
pub on_device : (devices areas : ℕ) (logs : Logs) → 1 ≤ devices → (d s : ℕ) → Matters devices areas logs d s → d < devices
on_device devices areas logs some d s (Gate slot gate less place few) = mod-lt slot some
on_device devices areas logs some d s (Body slot body sector less few within fills) = mod-lt slot some
on_device devices areas logs some d s (Home at sector is unlogged within) = mod-lt (at / 1024) some

-- two choices of members that agree on the devices of the state show the same
other_members : (sizes : List ℕ) (image : Image) (state : GlobalState) (second other : ℕ → Bool) (tree : Tree)
    → ((device : ℕ) → device < length state.devices → other device ≡ second device) → ShowsTree sizes image state (by_device second) tree
    → ShowsTree sizes image state (by_device other) tree
other_members sizes image state second other tree agree x = record {
  first = x.first;
  logs = x.logs;
  truth = x.truth;
  shows = record {
    is_first = x.shows.is_first;
    devices = x.shows.devices;
    labelled = x.shows.labelled;
    is_truth = truth_same (devices_of image (by_device second)) (devices_of image (by_device other)) x.first.devices x.first.areas state.sessions x.logs x.truth
        (λ d s matters. ap (λ (b : Bool). image (member_disk d b) s) (agree d (subst (λ (n : ℕ). d < n) (sym x.shows.devices) (on_device x.first.devices x.first.areas x.logs x.shows.is_first.own.spells.is.least_devices d s matters)))) x.shows.is_truth;
  };
  volume = x.volume;
  stands = x.stands;
  is = x.is;
}

-- reads go to one member
one_member : (state : GlobalState) (second other : ℕ → Bool) → AreReadFrom state second → AreReadFrom state other → (device : ℕ) → device < length state.devices → other device ≡ second device
one_member state second other reads also device less = by (slice_get_cases state.devices device).1
  where
    not_both : (b c : Bool) (P : Type 0) → (b ≡ false) ↔ P → (c ≡ false) ↔ P → c ≡ b
    not_both true true P x y = refl
    not_both true false P x y = let e = x.1 (y.0 refl) in absurd cc
    not_both false true P x y = let e = y.1 (x.0 refl) in absurd cc
    not_both false false P x y = refl

    by : ((row : DeviceRow) × (device < length state.devices) × (slice_get state.devices device ≡ Some row) × (get_or state.devices device row ≡ row))
        ⊎ ((length state.devices ≤ device) × (slice_get state.devices device ≡ None)) → other device ≡ second device
    by (inl (row, within, some, there)) = not_both (second device) (other device) (IsReadAtA row.mode) (reads device row some) (also device row some)
    by (inr (past, none)) = absurd (omega (arith, less, past))

pub one_stands : (sizes : List ℕ) (image : Image) (state : GlobalState) (a b : Tree) → ((x y : Label) → IsFirstLabel sizes image x → IsFirstLabel sizes image y → x ≡ y)
    → ImageStandsFor sizes (λ image told. told ≡ state) image a → ImageStandsFor sizes (λ image told. told ≡ state) image b
    → (a.files ≡ b.files) × (a.volume ≡ b.volume) × (a.areas ≡ b.areas) × (a.root ≡ b.root)
one_stands sizes image state a b one_label x y =
    let shows_a : ShowsTree sizes image state (by_device x.second) a = subst (λ (s : GlobalState). ShowsTree sizes image s (by_device x.second) a) x.is_state x.shows in
    let shows_b : ShowsTree sizes image state (by_device y.second) b = subst (λ (s : GlobalState). ShowsTree sizes image s (by_device y.second) b) y.is_state y.shows in
    let reads_a : AreReadFrom state x.second = subst (λ (s : GlobalState). AreReadFrom s x.second) x.is_state x.reads in
    let reads_b : AreReadFrom state y.second = subst (λ (s : GlobalState). AreReadFrom s y.second) y.is_state y.reads in
    one_shown sizes image state (by_device x.second) a b one_label shows_a (other_members sizes image state y.second x.second b (one_member state y.second x.second reads_b reads_a) shows_b)
