-- A rack at rest is a volume for the tree that its truth stands for.
use Rattle.std.proofs.Common.{◌≡◌, ℕ, ◌<◌, inl, arith, Bool, true, false, List, [], length, sym, ap, ◌∙◌, subst, refl}
use Rattle.std.specs.Prelude.{Contains}
use Rattle.std.proofs.lemmas.Option.{slice_get_within}
use mathlib.Core.Path.{fun_ext}
use Rattle.bx_disk.specs.Disks.{Image, Disks, IsImage}
use Rattle.bx_rows.specs.declared.session.SessionRow.{SessionRow}
use Rattle.bx_global.specs.declared.state.GlobalState.{GlobalState}
use Rattle.bx_rows.specs.Words.{is_taken}
use Rattle.bx_layout.specs.declared.label.Label.{Label}
use Rattle.bx_layout.specs.Labels.{IsOpenGate}
use Rattle.bx_places.specs.Places.{IsBlock}
use Rattle.bx_tree_laws.specs.bx_model.specs.declared.tree.Tree.{Tree}
use Rattle.bx_tree_laws.specs.bx_model.specs.FileTrees.{IsFileTree}
use Rattle.bx_volume.specs.AtRest.{IsAtRest}
use Rattle.bx_volume.specs.Images.{ShowsTree, devices_of}
use Rattle.bx_truth.specs.Stands.{StandsFor}
use Rattle.bx_truth.specs.bx_views.specs.Truths.{Truth}
use Rattle.bx_volume.specs.Records.{Logged, HasLog, LogWhere, gate_of}
use Rattle.bx_volume.specs.Overlay.{IsHome}
use Rattle.bx_volume.specs.Volumes.{Reading, InDoubt, IsVolumeFor}
use Rattle.bx_volume.proofs.Matters.{homes_truth}
use Rattle.bx_volume.proofs.OneLog.{one_has_log}
use Rattle.bx_volume.proofs.Sizes.{block_bytes}

module _ (disks : Disks) (IsState : Image → GlobalState → Type 0) (first : Label) (truth : Truth) (tree : Tree) (is : IsAtRest disks IsState first truth)
    (stands_for : StandsFor first.areas truth tree) (is_tree : IsFileTree tree) (same_volume : tree.volume ≡ first.volume) where
  image_is : (image : Image) → IsImage disks image → image ≡ disks.reads
  image_is image left = fun_ext (λ d. fun_ext (λ s. left.sure d s (is.sure d s)))

  shows : (state : GlobalState) (second : ℕ → ℕ → Bool) → IsState disks.reads state → ShowsTree disks.sizes disks.reads state second tree
  shows state second told = record {
    first = first;
    logs = λ slot. [];
    truth = truth;
    shows = record {
      is_first = is.is_first;
      devices = is.state state told;
      labelled = λ device row member row_is source. is.labelled device member (let within = slice_get_within state.devices device row row_is in omega (arith, within, is.state state told));
      is_truth = homes_truth (devices_of disks.reads second) first.devices first.areas state.sessions truth (is.homes second) (λ slot less. is.gates second slot 0 less (omega arith));
    };
    volume = same_volume;
    stands = stands_for;
    is = is_tree;
  }

  no_run : (rows : List SessionRow) (second : ℕ → ℕ → Bool) (slot : ℕ) → slot < 8 → HasLog rows (devices_of disks.reads second) first.devices first.areas slot []
  no_run rows second slot less = by (is_taken rows slot)
    where
      by : (taken : Bool) → LogWhere taken (devices_of disks.reads second) first.devices first.areas slot []
      by true = record { most = omega arith; stand = tt; end = λ few. is.gates second slot 0 less (omega arith) }
      by false = refl

  run_is : (reading : Reading disks IsState) (slot : ℕ) (records : List Logged) → slot < 8
      → HasLog reading.state.sessions (devices_of reading.image reading.second) first.devices first.areas slot records → records ≡ []
  run_is reading slot records less has =
      one_has_log reading.state.sessions (devices_of disks.reads reading.second) first.devices first.areas slot records []
      (subst (λ (image : Image). HasLog reading.state.sessions (devices_of image reading.second) first.devices first.areas slot records) (image_is reading.image reading.is_image) has)
      (no_run reading.state.sessions reading.second slot less)

  home_of : (reading : Reading disks IsState) (at : ℕ) → IsBlock first.areas at → IsHome (devices_of reading.image reading.second) first.devices at (truth at)
  home_of reading at is_block = subst (λ (image : Image). IsHome (devices_of image reading.second) first.devices at (truth at)) (sym (image_is reading.image reading.is_image)) (is.homes reading.second at is_block)

  pub resting_volume : IsVolumeFor disks IsState first.devices first.areas (λ before after. before ≡ after) tree
  resting_volume = record {
    stands = λ reading. (
      tree,
      refl,
      subst (λ (image : Image). ShowsTree disks.sizes image reading.state reading.second tree) (sym (image_is reading.image reading.is_image))
          (shows reading.state reading.second (subst (λ (image : Image). IsState image reading.state) (image_is reading.image reading.is_image) reading.is_state)),
    );
    homes = λ one other same at i is_block unlogged also less.
        let a = home_of one at is_block in let b = home_of other at is_block in let long = block_bytes (truth at) a.is in
        a.reads.each i (omega (arith, less, long)) ∙ sym (b.reads.each i (omega (arith, less, long)));
    bodies = λ one other same slot records less has body i few within. absurd (omega (arith, few, ap length (run_is one slot records less has)));
    runs = λ one other same slot a b less has also. inl (run_is one slot a less has ∙ sym (run_is other slot b less also));
    closed = λ reading slot gate less place untaken is_open. is.gates reading.second slot gate less place
        (subst (λ (image : Image). IsOpenGate (gate_of (devices_of image reading.second) first.devices slot gate)) (image_is reading.image reading.is_image) is_open);
  }

  -- no record is in doubt
  pub none_in_doubt : (slot : ℕ) (logged : Logged) → InDoubt disks IsState first.devices first.areas slot logged → ⊥
  none_in_doubt slot logged doubt =
      let none = run_is doubt.one slot doubt.run doubt.is_slot doubt.has_run in
      let within : Contains [] logged = subst (λ (run : List Logged). Contains run logged) none doubt.in_run in
      omega (arith, within.1)
