-- A rack on which the logs stand, however it is read, is a volume.
use Rattle.std.proofs.Common.{◌≡◌, ◌⊎◌, inl, inr, ℕ, ◌+◌, ◌<◌, Bool, true, false, List, [], ◌∷◌, length, Option, Some, None, refl, sym, ◌∙◌, ap, subst, arith}
use Rattle.std.specs.Prelude.{◌==◌, slice_get, IsSome}
use Rattle.std.proofs.lemmas.Bool.Decides.{nat_tests}
use Rattle.std.specs.List.{AllByRecursion}
use Rattle.bx_disk.specs.Disks.{Image, Disks}
use Rattle.bx_global.specs.declared.state.GlobalState.{GlobalState}
use Rattle.bx_layout.specs.Labels.{IsOpenGate}
use Rattle.bx_layout.specs.Blocks.{HasParts}
use Rattle.bx_layout.specs.declared.label.Label.{Label}
use Rattle.bx_model.specs.declared.tree.Tree.{Tree}
use Rattle.bx_model.specs.FileTrees.{IsFileTree}
use Rattle.bx_places.specs.Places.{IsBlock, block_place, body_place}
use Rattle.bx_records.specs.Drafts.{Block, Changed, block_in}
use Rattle.bx_rows.specs.declared.device.DeviceRow.{DeviceRow}
use Rattle.bx_rows.specs.Modes.{IsSource}
use Rattle.bx_rows.specs.Words.{is_taken}
use Rattle.bx_truth.specs.Stands.{StandsFor}
use Rattle.bx_views.specs.Truths.{Truth}
use Rattle.bx_volume.specs.Images.{AreSources, IsFirstLabel, IsLabelled, devices_of, member_disk}
use Rattle.bx_volume.specs.Overlay.{Logs, IsHome, IsUnlogged}
use Rattle.bx_volume.specs.Records.{Logged, LogWhere, StandOpen, newest_in, or_older}
use Rattle.bx_volume.specs.Volumes.{AreClose, AreHome, AreOfOne, HasRun, IsUnloggedBy, IsVolumeFor, Reading}
use Rattle.bx_volume.proofs.OneLog.{one_has_log}
use Rattle.bx_volume.proofs.Sizes.{block_bytes}
use Rattle.bx_world_logs.specs.Logs.{AreHomed, Activity, OfLog, Found, Finds, IsLogOf, LogsStand, Slot, SlotStands, closes, opens}
use Rattle.bx_world_logs.specs.Shown.{IsRun, IsShown, ShowsTo}
use Rattle.bx_world_images.proofs.Images.{body_sure, home_sure, images_show, run_of}
use Rattle.bx_world_logs.specs.bx_redo.specs.declared.work.Work.TheVariants as works

-- what stands in a sector of a device, by each member that is a source in a state, in an image
abbrev pub SureIn : Image → GlobalState → ℕ → ℕ → List ℕ → Type 0
SureIn image state d s content = (second : ℕ → ℕ → Bool) → AreSources state second → devices_of image second d s ≡ content

-- a block of a run is one of the volume
block_of : (areas at : ℕ) (block : Block) (changed : List Changed) → AllByRecursion (λ change. IsBlock areas change.0 × HasParts change.1) changed → block_in changed at ≡ Some block → IsBlock areas at
block_of areas at block [] all is = absurd cc
block_of areas at block (change ∷ changed) all is = by (change.0 == at) refl (λ found. block_of areas at block changed all.1 found)
  where
    by : (b : Bool) → (change.0 == at) ≡ b → (block_in changed at ≡ Some block → IsBlock areas at) → IsBlock areas at
    by true same rest = subst (λ (n : ℕ). IsBlock areas n) (grind (arith, nat_tests, same)) all.0.0
    by false other rest = rest (rw other at is)

run_block : (held : Image) (devices areas slot at : ℕ) (block : Block) (run : List Logged) → StandOpen held devices areas slot run → newest_in run at ≡ Some block → IsBlock areas at
run_block held devices areas slot at block [] stand is = absurd cc
run_block held devices areas slot at block (newest ∷ older) stand is = by (block_in newest.changed at) refl (λ found. run_block held devices areas slot at block older stand.2 found)
  where
    by : (o : Option Block) → block_in newest.changed at ≡ o → (newest_in older at ≡ Some block → IsBlock areas at) → IsBlock areas at
    by None none rest = rest (subst (λ (o : Option Block). or_older o (newest_in older at) ≡ Some block) none is)
    by (Some one) some rest = block_of areas at one newest.changed stand.1.is.blocks some

module _ (disks : Disks) (IsState : Image → GlobalState → Type 0) (first : Label) (before : Image) (logs : Logs) (slots : ℕ → Slot) (truth : Truth) (After : Tree → Tree → Type 0) (tree : Tree)
    (stand : (reading : Reading disks IsState) → LogsStand (SureIn reading.image reading.state) first.devices first.areas reading.state.sessions before logs slots truth)
    (labelled : (reading : Reading disks IsState) → IsFirstLabel disks.sizes reading.image first × (length reading.state.devices ≡ first.devices)
    × ((device : ℕ) (row : DeviceRow) (member : Bool) → slice_get reading.state.devices device ≡ Some row → IsSource row.mode member → IsLabelled disks.sizes reading.image first (member_disk device member)))
    (trees : (shown : Logs) (last : Truth) → ShowsTo logs slots 8 shown truth last → (after : Tree) × After tree after × StandsFor first.areas last after × IsFileTree after × (after.volume ≡ first.volume)) where
  held : Reading disks IsState → Image
  held reading = devices_of reading.image reading.second

  shown_by : (reading : Reading disks IsState) → IsShown logs slots first.devices first.areas reading.state.sessions truth (devices_of reading.image reading.second)
  shown_by reading = images_show (SureIn reading.image reading.state) first.devices first.areas reading.state.sessions before logs slots truth (stand reading) (devices_of reading.image reading.second) (λ d s content sure. sure reading.second reading.sources)

  runs_by : (reading : Reading disks IsState) (slot : ℕ) → slot < 8 → IsRun logs slots slot ((shown_by reading).shown slot)
  runs_by reading slot less = run_of logs slots 8 (shown_by reading).shown truth (shown_by reading).last (shown_by reading).shows slot less

  -- the run of a slot by a reading is the one that is shown
  is_shown : (reading : Reading disks IsState) (slot : ℕ) (run : List Logged) → slot < 8 → HasRun disks IsState first.devices first.areas reading slot run → (shown_by reading).shown slot ≡ run
  is_shown reading slot run less has = one_has_log reading.state.sessions (devices_of reading.image reading.second) first.devices first.areas slot ((shown_by reading).shown slot) run ((shown_by reading).is_truth.has_logs slot less) has

  is_run : (reading : Reading disks IsState) (slot : ℕ) (run : List Logged) → slot < 8 → HasRun disks IsState first.devices first.areas reading slot run → IsRun logs slots slot run
  is_run reading slot run less has = subst (λ (r : List Logged). IsRun logs slots slot r) (is_shown reading slot run less has) (runs_by reading slot less)

  -- what stands so is read alike by two readings of one image
  both_read : (one other : Reading disks IsState) → AreOfOne disks IsState first.devices first.areas one other → (d s : ℕ) → SureIn one.image one.state d s (before d s) → devices_of one.image one.second d s ≡ devices_of other.image other.second d s
  both_read one other same d s sure =
      sure one.second one.sources
      ∙ sym (subst (λ (image : Image). devices_of image other.second d s ≡ before d s) same.image (sure other.second (subst (λ (state : GlobalState). AreSources state other.second) (sym same.state) other.sources)))

  unlogged : (reading : Reading disks IsState) (at : ℕ) → IsUnloggedBy disks IsState first.devices first.areas reading at → IsUnlogged (shown_by reading).shown at
  unlogged reading at none slot less = none slot ((shown_by reading).shown slot) less ((shown_by reading).is_truth.has_logs slot less)

  taken_of_run : (reading : Reading disks IsState) (slot : ℕ) (run : List Logged) → HasRun disks IsState first.devices first.areas reading slot run → 0 < length run → is_taken reading.state.sessions slot ≡ true
  taken_of_run reading slot run has some = by (is_taken reading.state.sessions slot) refl has
    where
      by : (t : Bool) → is_taken reading.state.sessions slot ≡ t → LogWhere t (devices_of reading.image reading.second) first.devices first.areas slot run → is_taken reading.state.sessions slot ≡ true
      by true taken log = taken
      by false taken none = absurd (let e = ap length none in omega (arith, e, some))

  -- the blocks of a log that is being closed are home, by each reading
  homed : (reading : Reading disks IsState) (slot : ℕ) → slot < 8 → closes (slots slot).activity ≡ true → is_taken reading.state.sessions slot ≡ true → AreHome disks IsState first.devices first.areas reading (logs slot)
  homed reading slot less shut taken at block newest = by (slots slot).activity refl stands
    where
      st : LogsStand (SureIn reading.image reading.state) first.devices first.areas reading.state.sessions before logs slots truth
      st = stand reading

      stands : IsLogOf (SureIn reading.image reading.state) first.devices first.areas before logs slot (slots slot)
      stands = subst (λ (t : Bool). SlotStands (SureIn reading.image reading.state) first.devices first.areas before t logs slot (slots slot)) taken (st.each slot less)

      stands_open : StandOpen before first.devices first.areas slot (logs slot)
      stands_open = (subst (λ (t : Bool). LogWhere t before first.devices first.areas slot (logs slot)) taken (st.is_truth.has_logs slot less)).stand

      is_block : IsBlock first.areas at
      is_block = run_block before first.devices first.areas slot at block (logs slot) stands_open newest

      some : IsSome (newest_in (logs slot) at)
      some = subst (λ (o : Option Block). IsSome o) (sym newest) refl

      home : AreHomed (SureIn reading.image reading.state) first.devices first.areas before logs slot → IsHome (devices_of reading.image reading.second) first.devices at block
      home all = let was = all.home at block is_block newest in record {
        is = was.is;
        reads = record { each = λ i few. all.sure at is_block some i (let long = block_bytes block was.is in omega (arith, few, long)) reading.second reading.sources ∙ was.reads.each i few };
      }

      by : (activity : Activity) → (slots slot).activity ≡ activity → IsLogOf (SureIn reading.image reading.state) first.devices first.areas before logs slot (slots slot) → IsHome (devices_of reading.image reading.second) first.devices at block
      by (OfLog works.Idle) is log = absurd (let e : closes (slots slot).activity ≡ false = ap closes is in cc)
      by (OfLog (works.Body text point)) is log = absurd (let e : closes (slots slot).activity ≡ false = ap closes is in cc)
      by (OfLog (works.Opens point)) is log = absurd (let e : closes (slots slot).activity ≡ false = ap closes is in cc)
      by (OfLog works.Closes) is log = home (subst (λ (c : Activity). Finds (SureIn reading.image reading.state) first.devices first.areas before logs (slots slot).more slot c) is log.finds).1
      by (OfLog works.Shuts) is log = absurd (let e : closes (slots slot).activity ≡ false = ap closes is in cc)
      by Found is log = absurd (let e : closes (slots slot).activity ≡ false = ap closes is in cc)

  not_both : (slot : ℕ) → opens (slots slot).activity ≡ true → closes (slots slot).activity ≡ true → ⊥
  not_both slot one other = by (slots slot).activity refl
    where
      by : (activity : Activity) → (slots slot).activity ≡ activity → ⊥
      by (OfLog works.Idle) is = let e : opens (slots slot).activity ≡ false = ap opens is in cc
      by (OfLog (works.Body text point)) is = let e : opens (slots slot).activity ≡ false = ap opens is in cc
      by (OfLog (works.Opens point)) is = let e : closes (slots slot).activity ≡ false = ap closes is in cc
      by (OfLog works.Closes) is = let e : opens (slots slot).activity ≡ false = ap opens is in cc
      by (OfLog works.Shuts) is = let e : opens (slots slot).activity ≡ false = ap opens is in cc
      by Found is = let e : opens (slots slot).activity ≡ false = ap opens is in cc

  -- two runs of one slot
  close_runs : (one other : Reading disks IsState) (slot : ℕ) (a b : List Logged) → slot < 8 → (0 < length a → is_taken one.state.sessions slot ≡ true) → (0 < length b → is_taken other.state.sessions slot ≡ true) → one.state ≡ other.state
      → IsRun logs slots slot a → IsRun logs slots slot b → AreClose disks IsState first.devices first.areas one other a b
  close_runs one other slot a b less a_taken b_taken same (inl x) (inl y) = inl (x ∙ sym y)
  close_runs one other slot a b less a_taken b_taken same (inl x) (inr (inl y)) = inr (inr (inl ((slots slot).more, y.1 ∙ ap (λ (r : List Logged). (slots slot).more ∷ r) (sym x))))
  close_runs one other slot a b less a_taken b_taken same (inr (inl x)) (inl y) = inr (inl ((slots slot).more, x.1 ∙ ap (λ (r : List Logged). (slots slot).more ∷ r) (sym y)))
  close_runs one other slot a b less a_taken b_taken same (inr (inl x)) (inr (inl y)) = inl (x.1 ∙ sym y.1)
  close_runs one other slot a b less a_taken b_taken same (inr (inl x)) (inr (inr y)) = absurd (not_both slot x.0 y.0)
  close_runs one other slot a b less a_taken b_taken same (inr (inr x)) (inr (inl y)) = absurd (not_both slot y.0 x.0)
  close_runs one other slot a b less a_taken b_taken same (inr (inr x)) (inr (inr y)) = inl (x.1 ∙ sym y.1)
  close_runs one other slot a b less a_taken b_taken same (inl x) (inr (inr y)) = by a x (some a)
    where
      some : (run : List Logged) → (run ≡ []) ⊎ (0 < length run)
      some [] = inl refl
      some (first_one ∷ rest) = inr (omega arith)

      by : (run : List Logged) → run ≡ logs slot → (a ≡ []) ⊎ (0 < length a) → AreClose disks IsState first.devices first.areas one other a b
      by run is (inl none) = inl (none ∙ sym y.1)
      by run is (inr there) =
          let taken = a_taken there in
          inr (inr (inr (inr (
            y.1,
            subst (λ (r : List Logged). AreHome disks IsState first.devices first.areas one r) (sym x) (homed one slot less y.0 taken),
            subst (λ (r : List Logged). AreHome disks IsState first.devices first.areas other r) (sym x) (homed other slot less y.0 (subst (λ (s : GlobalState). is_taken s.sessions slot ≡ true) same taken)),
          ))))
  close_runs one other slot a b less a_taken b_taken same (inr (inr x)) (inl y) = by (some b)
    where
      some : (run : List Logged) → (run ≡ []) ⊎ (0 < length run)
      some [] = inl refl
      some (first_one ∷ rest) = inr (omega arith)

      by : (b ≡ []) ⊎ (0 < length b) → AreClose disks IsState first.devices first.areas one other a b
      by (inl none) = inl (x.1 ∙ sym none)
      by (inr there) =
          let taken = b_taken there in
          inr (inr (inr (inl (
            x.1,
            subst (λ (r : List Logged). AreHome disks IsState first.devices first.areas one r) (sym y) (homed one slot less x.0 (subst (λ (s : GlobalState). is_taken s.sessions slot ≡ true) (sym same) taken)),
            subst (λ (r : List Logged). AreHome disks IsState first.devices first.areas other r) (sym y) (homed other slot less x.0 taken),
          ))))

  pub is_volume : IsVolumeFor disks IsState first.devices first.areas After tree
  is_volume = record {
    stands = λ reading. let sh = shown_by reading in let t = trees sh.shown sh.last sh.shows in let l = labelled reading in (
      t.0,
      t.1,
      record {
        first = first;
        logs = sh.shown;
        truth = sh.last;
        shows = record { is_first = l.0; devices = l.1; labelled = l.2; is_truth = sh.is_truth };
        volume = t.4;
        stands = t.2;
        is = t.3;
      },
    );
    homes = λ one other same at i is none none_other few.
        both_read one other same (block_place at first.devices).0 ((block_place at first.devices).1 + i)
        (home_sure (SureIn one.image one.state) first.devices first.areas one.state.sessions before logs slots truth (stand one) (devices_of one.image one.second) (shown_by one).shown (λ slot less. runs_by one slot less) at is (unlogged one at none) i few);
    bodies = λ one other same slot records less has body i few fills.
        both_read one other same (body_place slot body first.devices).0 ((body_place slot body first.devices).1 + i)
        (body_sure (SureIn one.image one.state) first.devices first.areas one.state.sessions before logs slots truth (stand one) (devices_of one.image one.second) slot records less (is_run one slot records less has) (taken_of_run one slot records has (omega (arith, few))) body i few fills);
    runs = λ one other same slot a b less has_a has_b. close_runs one other slot a b less (taken_of_run one slot a has_a) (taken_of_run other slot b has_b) same.state (is_run one slot a less has_a) (is_run other slot b less has_b);
    closed = λ reading slot gate less place free is_open.
        let stands = subst (λ (t : Bool). SlotStands (SureIn reading.image reading.state) first.devices first.areas before t logs slot (slots slot)) free ((stand reading).each slot less) in
        stands.closed gate (omega arith) place (subst IsOpenGate (stands.gates gate place reading.second reading.sources) is_open);
  }
