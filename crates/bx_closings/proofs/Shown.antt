-- What one content of the disks shows, in one state: the logs that it has, the points of their records, and the tree that its truth stands for.
use Rattle.std.proofs.Common.{◌≡◌, ℕ, ◌≤◌, Bool, List, refl, sym, subst}
use Rattle.std.specs.Prelude.{slice_get, Some}
use Rattle.bx_audit.specs.Audited.{AreOpen}
use Rattle.bx_base.specs.declared.names.Point.{Point}
use Rattle.bx_closings.proofs.Open as opens
use Rattle.bx_closings.proofs.Points.{points_to}
use Rattle.bx_disk.specs.Disks.{Disks, Image, IsImage}
use Rattle.bx_facts.specs.Writes.{Made, label_on}
use Rattle.bx_global.specs.declared.state.GlobalState.{GlobalState}
use Rattle.bx_model.specs.FileTrees.{IsFileTree}
use Rattle.bx_model.specs.declared.tree.Tree.{Tree}
use Rattle.bx_rows.specs.Modes.{IsSource}
use Rattle.bx_rows.specs.declared.device.DeviceRow.{DeviceRow}
use Rattle.bx_truth.specs.Stands.{StandsFor}
use Rattle.bx_views.specs.Truths.{Truth}
use Rattle.bx_volume.specs.Images.{AreSources, ImageStandsFor, IsFirstLabel, IsLabelled, by_device, devices_of, member_disk}
use Rattle.bx_volume.specs.Overlay.{Logs}
use Rattle.bx_volume.specs.Volumes.{Reading}
use Rattle.bx_world_images.proofs.Audited.{read_second, reads_from, sources_of}
use Rattle.bx_world_images.proofs.Images.{images_show}
use Rattle.bx_world_images.proofs.Volume.{SureIn}
use Rattle.bx_world_logs.specs.Logs.{Slot}
use Rattle.bx_world_logs.specs.Shown.{IsShown}
use Rattle.bx_world_standing.specs.Labels.{LabelsStand}
use Rattle.bx_world_volumes.proofs.Readings.{IsLabelledBy, StandsIn, labelled_by, logs_by}

module _ (x y : Disks) (sizes : y.sizes ≡ x.sizes) (left : IsImage x y.reads) (made : Made) (before : Image) (logs : Logs) (slots : ℕ → Slot) (truth : Truth) (few : made.devices ≤ 4) (labels : LabelsStand made x)
    (s : GlobalState) (stands : StandsIn x made before logs slots truth s) where
  abbrev Is : Image → GlobalState → Type 0
  Is image state = state ≡ s

  next : (image : Image) (state : GlobalState) → IsImage x image → Is image state → StandsIn x made before logs slots truth state
  next image state is_image same = subst (λ (t : GlobalState). StandsIn x made before logs slots truth t) (sym same) stands

  sources : AreSources s (by_device (read_second s))
  sources = sources_of s (read_second s) (reads_from s)

  -- each device is read from the member that reads go to
  abbrev reading : Reading x Is
  reading = record { image = y.reads; is_image = left; state = s; is_state = refl; second = by_device (read_second s); sources = sources }

  labelled : IsLabelledBy x Is made before logs slots truth few labels next reading
  labelled = labelled_by x Is made before logs slots truth few labels next reading

  first_in : IsFirstLabel y.sizes y.reads (label_on made labels.one)
  first_in = subst (λ (n : List ℕ). IsFirstLabel n y.reads (label_on made labels.one)) (sym sizes) labelled.0

  labelled_in : (device : ℕ) (row : DeviceRow) (member : Bool) → slice_get s.devices device ≡ Some row → IsSource row.mode member → IsLabelled y.sizes y.reads (label_on made labels.one) (member_disk device member)
  labelled_in device row member there source = subst (λ (n : List ℕ). IsLabelled n y.reads (label_on made labels.one) (member_disk device member)) (sym sizes) (labelled.2 device row member there source)

  -- the logs that it has, and its truth
  pub shown_by : IsShown logs slots made.devices made.areas s.sessions truth (devices_of y.reads (by_device (read_second s)))
  shown_by = images_show (SureIn y.reads s) made.devices made.areas s.sessions before logs slots truth (logs_by x Is made before logs slots truth few labels next reading)
      (devices_of y.reads (by_device (read_second s))) (λ d sector content sure. sure (by_device (read_second s)) sources)

  pub points_shown : (points : List Point) → AreOpen y s points → points ≡ points_to shown_by.shown 8
  points_shown points opened = opens.open_points s (read_second s) (reads_from s) (label_on made labels.one) stands.members.devices y first_in stands.logs_stand.volume.least_devices
      shown_by.shown shown_by.is_truth.has_logs points opened

  pub stands_for : (IsState : Image → GlobalState → Type 0) (tree : Tree) → IsState y.reads s → StandsFor made.areas shown_by.last tree → IsFileTree tree → tree.volume ≡ made.volume → ImageStandsFor y.sizes IsState y.reads tree
  stands_for IsState tree is_state stands_tree file_tree volume = record {
    state = s;
    is_state = is_state;
    second = read_second s;
    reads = reads_from s;
    shows = record {
      first = label_on made labels.one;
      logs = shown_by.shown;
      truth = shown_by.last;
      shows = record { is_first = first_in; devices = stands.members.devices; labelled = labelled_in; is_truth = shown_by.is_truth };
      volume = volume;
      stands = stands_tree;
      is = file_tree;
    };
  }
