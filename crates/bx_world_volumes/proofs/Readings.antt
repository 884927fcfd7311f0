-- However the disks are read, the logs stand on them; so they are a volume.
use Rattle.std.proofs.Common.{◌≡◌, ◌⊎◌, ⊎_elim, inl, inr, ℕ, ◌<◌, ◌≤◌, Bool, true, false, List, Contains, Option, Some, refl, sym, subst, arith}
use Rattle.std.specs.Prelude.{length, slice_get, slice_index, nat_lt, if◌then◌else◌}
use Rattle.std.proofs.lemmas.Bool.Decides.{nat_tests}
use Rattle.std.proofs.lemmas.Option.{slice_get_cases}
use Rattle.bx_disk.specs.Disks.{Disks, Image, IsImage}
use Rattle.bx_facts.specs.Chains.{Chain, IsNext, IsPlace, grown, last}
use Rattle.bx_facts.specs.Holds.{OwnersPast, owners_grown}
use Rattle.bx_facts.specs.Writes.{IsOfStore, IsOnly, IsSettled, IsSourceIn, IsSourceRow, Made, StorePast, label_on, member_disk as disk_of, store_grown, store_room}
use Rattle.bx_global.specs.declared.change.Change.{Change}
use Rattle.bx_global.specs.declared.change.Change.TheVariants.{Close}
use Rattle.bx_global.specs.declared.state.GlobalState.{GlobalState}
use Rattle.bx_global.specs.Table.{IsLegal}
use Rattle.bx_layout.specs.Labels.{SpellsLabel}
use Rattle.bx_layout.specs.declared.label.Label.{Label}
use Rattle.bx_model.specs.declared.tree.Tree.{Tree}
use Rattle.bx_model.specs.FileTrees.{IsFileTree}
use Rattle.bx_places.specs.Places.{disk_count, disk_sectors, member_sectors, replica_sectors}
use Rattle.bx_world_standing.specs.bx_redo.proofs.Settled.{one_disk, settled_has}
use Rattle.bx_rows.specs.declared.device.DeviceRow.{DeviceRow}
use Rattle.bx_rows.specs.declared.session.SessionRow.{SessionRow}
use Rattle.bx_rows.specs.Modes.{IsSource}
use Rattle.bx_rows.specs.Rows.{GoesOn}
use Rattle.bx_truth.specs.Stands.{StandsFor}
use Rattle.bx_views.specs.Truths.{Truth}
use Rattle.bx_volume.specs.Images.{IsFirstLabel, IsLabelled, IsOwnLabel, member_disk}
use Rattle.bx_volume.specs.Overlay.{Logs}
use Rattle.bx_volume.specs.Volumes.{IsVolumeFor, Reading}
use Rattle.bx_world_chains.specs.Entitled.{AreAllowed}
use Rattle.bx_world_chains.proofs.Chains.{last_place}
use Rattle.bx_world_standing.specs.bx_world_logs.specs.Logs.{LogsStand, Slot}
use Rattle.bx_world_standing.specs.bx_world_logs.specs.Shown.{ShowsTo}
use Rattle.bx_world_standing.specs.bx_world_logs.proofs.Growing.{rows_go}
use Rattle.bx_world_images.proofs.Volume.{SureIn, is_volume}
use Rattle.bx_world_standing.specs.Rights.{IsWithin, Surely}
use Rattle.bx_world_standing.specs.Labels.{HasNoLabel, LabelsStand}
use Rattle.bx_world_standing.specs.Closings.{ClosingStands}
use Rattle.bx_world_standing.proofs.Grown.{logs_go, surely_goes}
pub use Rattle.bx_world_volumes.specs.Left.{StandsIn}

-- ---- one state ahead

module _ (x : Disks) (made : Made) (keeps : StorePast → Type 0) (stands : StorePast → ℕ → ℕ → List ℕ → ℕ → Type 0) (settled : StorePast → ℕ → ℕ → List ℕ → Type 0)
    (settles : (past : StorePast) (d s : ℕ) (content : List ℕ) (index : ℕ) → keeps past → stands past d s content index → settled past d s content)
    (settled_is : (past : StorePast) (d s : ℕ) (content : List ℕ) → keeps past → IsOnly past.writes past.told.greatest d s content → settled past d s content → IsSettled x (last past.told.chain) d s content)
    (labelled : (past : StorePast) → keeps past → IsOfStore made x (last past.told.chain)) where
  stands_at : (sp : StorePast) (s : GlobalState) (before : Image) (logs : Logs) (slots : ℕ → Slot) (truth : Truth) (within : ℕ → ℕ → ℕ → Type 0) → keeps sp → s ≡ last sp.told.chain
      → LogsStand (Surely (stands sp) within sp.writes sp.told.greatest) made.devices made.areas (last sp.told.chain).sessions before logs slots truth
      → StandsIn x made before logs slots truth s
  stands_at sp s before logs slots truth within kept is st = subst (λ (t : GlobalState). StandsIn x made before logs slots truth t) (sym is) (record {
    logs_stand = rows_go (Surely (stands sp) within sp.writes sp.told.greatest) (IsSettled x (last sp.told.chain)) made.devices made.areas before
        (λ d sector content sure. settled_is sp d sector content kept sure.only (settles sp d sector content sure.index kept sure.is))
        (last sp.told.chain).sessions (last sp.told.chain).sessions logs slots truth (λ slot less. inl refl) st;
    members = labelled sp kept;
  })

  pub next_stands : (sp : StorePast) (op : OwnersPast) (IsOf : ℕ → SessionRow → Type 0) (stays_of : (node : ℕ) (old new : SessionRow) → GoesOn old new → IsOf node new → IsOf node old) (knew : ℕ → ℕ) (proposed : List Change) (s : GlobalState) (before : Image) (logs : Logs) (slots : ℕ → Slot) (truth : Truth)
      → keeps sp
      → ((change : Change) → Contains proposed change → IsLegal (last sp.told.chain) change
      → keeps (store_grown sp change) × ((d s : ℕ) (content : List ℕ) (index : ℕ) → IsOnly sp.writes sp.told.greatest d s content → stands sp d s content index → stands (store_grown sp change) d s content index))
      → op.told.chain ≡ sp.told.chain → AreAllowed sp.told.chain
      → ((gone by : ℕ) → Contains proposed (Close gone by) → ClosingStands made.devices (last sp.told.chain) logs slots sp.writes gone by)
      → LogsStand (Surely (stands sp) (IsWithin made.devices made.areas sp.told.chain op.holding op.floor IsOf knew) sp.writes sp.told.greatest) made.devices made.areas (last sp.told.chain).sessions before logs slots truth
      → IsNext proposed (last sp.told.chain) s → StandsIn x made before logs slots truth s
  next_stands sp op IsOf stays_of knew proposed s before logs slots truth kept grows same all closing st (inl is) =
      stands_at sp s before logs slots truth (IsWithin made.devices made.areas sp.told.chain op.holding op.floor IsOf knew) kept is st
  next_stands sp op IsOf stays_of knew proposed s before logs slots truth kept grows same all closing st (inr (change, there, legal, is)) =
      let grew = grows change there legal in
      let allowed = all.each (last sp.told.chain) (last_is sp.told.chain) in
      stands_at (store_grown sp change) s before logs slots truth (IsWithin made.devices made.areas (grown sp.told.chain change) op.holding (owners_grown op change).floor IsOf knew) grew.0 is
      (logs_go sp.told.chain change allowed legal
      (Surely (stands sp) (IsWithin made.devices made.areas sp.told.chain op.holding op.floor IsOf knew) sp.writes sp.told.greatest)
      (Surely (stands (store_grown sp change)) (IsWithin made.devices made.areas (grown sp.told.chain change) op.holding (owners_grown op change).floor IsOf knew) sp.writes sp.told.greatest)
      made.devices made.areas before logs slots truth sp.writes
      (surely_goes sp.told.chain change allowed legal IsOf stays_of made.devices made.areas op knew (stands sp) (stands (store_grown sp change)) sp.writes sp.told.greatest same all grew.1)
      (λ gone by e. closing gone by (subst (λ (c : Change). Contains proposed c) e there))
      st)
    where
      last_is : (chain : Chain) → IsPlace chain (last chain)
      last_is chain = last_place chain

-- ---- readings

module _ (x : Disks) (IsState : Image → GlobalState → Type 0) (made : Made) (before : Image) (logs : Logs) (slots : ℕ → Slot) (truth : Truth) (few : made.devices ≤ 4) (labels : LabelsStand made x)
    (next : (image : Image) (s : GlobalState) → IsImage x image → IsState image s → StandsIn x made before logs slots truth s) where
  first_is : Label
  first_is = label_on made labels.one

  -- the first label, in each image
  first_in : (image : Image) → IsImage x image → IsFirstLabel x.sizes image (label_on made labels.one)
  first_in image is = record {
    own = record {
      spells = subst (λ (content : List ℕ). SpellsLabel (label_on made labels.one) content) (sym (is.sure labels.one 0 labels.is_one.sure)) labels.is_one.reads;
      names = refl;
      there = let low = labels.is_one.low in omega (arith, low);
      long_enough = let low : nat_lt labels.one 3 ≡ true = lower labels.one labels.is_one.low in let long = labels.is_one.long in subst (λ (b : Bool). (if b then replica_sectors else member_sectors made.devices made.areas) ≤ slice_index x.sizes labels.one) (sym low) long;
    };
    least = λ d label less own. none d label less own (labels.none_before d less);
  }
    where
      lower : (n : ℕ) → n < 3 → nat_lt n 3 ≡ true
      lower n less = grind (arith, nat_tests, less)

      none : (d : ℕ) (label : Label) → d < labels.one → IsOwnLabel x.sizes image d label → HasNoLabel x d → ⊥
      none d label less own (inl short) =
          let low : nat_lt d 3 ≡ true = lower d (let first = labels.is_one.low in omega (arith, less, first)) in
          let long = subst (λ (b : Bool). (if b then replica_sectors else member_sectors label.devices label.areas) ≤ slice_index x.sizes d) low own.long_enough in
          omega (arith, short, long)
      none d label less own (inr sure) = sure.1 label (subst (λ (content : List ℕ). SpellsLabel label content) (is.sure d 0 sure.0) own.spells) own.names

  row_is : (s : GlobalState) (device : ℕ) (row : DeviceRow) (second : Bool) → slice_get s.devices device ≡ Some row → IsSource row.mode second → IsSourceIn s device second
  row_is s device row second is source = subst (λ (o : Option DeviceRow). IsSourceRow o second) (sym is) source

  member_labelled : (reading : Reading x IsState) (device : ℕ) (row : DeviceRow) (second : Bool) → slice_get reading.state.devices device ≡ Some row → IsSource row.mode second → IsLabelled x.sizes reading.image (label_on made labels.one) (member_disk device second)
  member_labelled reading device row second is source =
      subst (λ (disk : ℕ). IsLabelled x.sizes reading.image (label_on made labels.one) disk) (sym (one_disk device second)) (record {
        label = label_on made (disk_of device second);
        own = record {
          spells = subst (λ (content : List ℕ). SpellsLabel (label_on made (disk_of device second)) content) (sym (reading.is_image.sure (disk_of device second) 0 (stands.members.labels.sure device second source_in))) (stands.members.labels.reads device second source_in);
          names = refl;
          there = there_is second (length_less device reading.state.devices row is);
          long_enough = long_is second (stands.members.labels.long device second source_in);
        };
        volume = refl;
        devices = refl;
        areas = refl;
      })
    where
      stands : StandsIn x made before logs slots truth reading.state
      stands = next reading.image reading.state reading.is_image reading.is_state

      source_in : IsSourceIn reading.state device second
      source_in = row_is reading.state device row second is source

      length_less : (n : ℕ) (rows : List DeviceRow) (row : DeviceRow) → slice_get rows n ≡ Some row → n < length rows
      length_less n rows row found = ⊎_elim (λ y. y.1) (λ z. absurd (let e = z.1 in cc)) (slice_get_cases rows n).1

      there_is : (b : Bool) → device < length reading.state.devices → disk_of device b < disk_count made.devices
      there_is true less = let e = stands.members.devices in omega (arith, less, e)
      there_is false less = let e = stands.members.devices in omega (arith, less, e)

      not_low : (b : Bool) → nat_lt (disk_of device b) 3 ≡ false
      not_low true = grind (arith, nat_tests)
      not_low false = grind (arith, nat_tests)

      long_is : (b : Bool) → store_room made ≤ slice_index x.sizes (disk_of device b) → disk_sectors made.devices made.areas (disk_of device b) ≤ slice_index x.sizes (disk_of device b)
      long_is b long = subst (λ (low : Bool). (if low then replica_sectors else member_sectors made.devices made.areas) ≤ slice_index x.sizes (disk_of device b)) (sym (not_low b)) long

  -- each reading has the labels of the volume
  abbrev pub IsLabelledBy : Reading x IsState → Type 0
  IsLabelledBy reading = IsFirstLabel x.sizes reading.image (label_on made labels.one) × (length reading.state.devices ≡ made.devices)
      × ((device : ℕ) (row : DeviceRow) (member : Bool) → slice_get reading.state.devices device ≡ Some row → IsSource row.mode member → IsLabelled x.sizes reading.image (label_on made labels.one) (member_disk device member))

  pub labelled_by : (reading : Reading x IsState) → IsLabelledBy reading
  labelled_by reading = (first_in reading.image reading.is_image, (next reading.image reading.state reading.is_image reading.is_state).members.devices, member_labelled reading)

  -- and what stands in it is read by each
  pub logs_by : (reading : Reading x IsState) → LogsStand (SureIn reading.image reading.state) made.devices made.areas reading.state.sessions before logs slots truth
  logs_by reading =
      let st = next reading.image reading.state reading.is_image reading.is_state in
      rows_go (IsSettled x reading.state) (SureIn reading.image reading.state) made.devices made.areas before
      (λ d sector content settled second sources. settled_has x reading.state reading.image second reading.is_image sources d sector content settled)
      reading.state.sessions reading.state.sessions logs slots truth (λ slot less. inl refl) st.logs_stand

  -- The rack is a volume for the tree, where the truth with some of the records in doubt stands for a tree that comes after it.
  pub rack_is_volume : (After : Tree → Tree → Type 0) (tree : Tree)
      → ((shown : Logs) (last_truth : Truth) → ShowsTo logs slots 8 shown truth last_truth → (after : Tree) × After tree after × StandsFor made.areas last_truth after × IsFileTree after × (after.volume ≡ made.volume))
      → IsVolumeFor x IsState made.devices made.areas After tree
  rack_is_volume After tree trees = is_volume x IsState (label_on made labels.one) before logs slots truth After tree
      logs_by labelled_by trees
