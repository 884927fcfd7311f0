-- Records laid over a truth.
use Rattle.std.proofs.Common.{◌≡◌, ℕ, ◌<◌, ◌⊎◌, inl, inr, ⊎_elim, List, ◌∷◌, Option, Some, None, refl, sym, ap, ◌∙◌, subst}
use Rattle.std.specs.Prelude.{◌≢◌, unwrap_or}
use Rattle.bx_disk.specs.Disks.{Image}
use Rattle.bx_rows.specs.declared.session.SessionRow.{SessionRow}
use Rattle.bx_layout.specs.declared.block.Block.{Block}
use Rattle.bx_truth.specs.bx_records.specs.Drafts.{block_in}
use Rattle.bx_places.specs.Places.{IsBlock}
use Rattle.bx_truth.proofs.Cases.{same_or, eq_true, eq_false, found}
use Rattle.bx_volume.specs.Records.{Logged, HasLog, newest_in, or_older}
use Rattle.bx_truth.specs.bx_views.specs.Truths.{Truth, with_draft}
use Rattle.bx_volume.specs.Overlay.{Logs, IsOverlaidTruth, IsHome, IsUnlogged, with_log}

pub log_here : (logs : Logs) (slot : ℕ) (records : List Logged) → with_log logs slot records slot ≡ records
log_here logs slot records = rw (eq_true slot slot refl) refl

pub log_there : (logs : Logs) (slot s : ℕ) (records : List Logged) → s ≢ slot → with_log logs slot records s ≡ logs s
log_there logs slot s records other = rw (eq_false s slot other) refl

older_some : (o p : Option Block) (block : Block) → o ≡ None → or_older o p ≡ Some block → p ≡ Some block
older_some None p block none is = is
older_some (Some b) p block none is = absurd cc

pub older_none : (o p : Option Block) → or_older o p ≡ None → (o ≡ None) × (p ≡ None)
older_none None p is = (refl, is)
older_none (Some b) p is = absurd cc

newer_is : (o p : Option Block) (b block : Block) → o ≡ Some b → or_older o p ≡ Some block → b ≡ block
newer_is None p b block some is = absurd cc
newer_is (Some x) p b block some is = cc

laid_none : (o : Option Block) (under : Block) → o ≡ None → unwrap_or o under ≡ under
laid_none None under none = refl
laid_none (Some b) under none = absurd cc

laid_some : (o : Option Block) (b under : Block) → o ≡ Some b → unwrap_or o under ≡ b
laid_some None b under some = absurd cc
laid_some (Some x) b under some = cc

-- One record more: the truth is overlaid by its blocks.
module _ (held now : Image) (devices areas : ℕ) (rows : List SessionRow) (logs : Logs) (truth : Truth) (slot : ℕ) (more : Logged) where
  after : Logs
  after = with_log logs slot (more ∷ logs slot)

  at_slot : (s at : ℕ) (block : Block) → s ≡ slot → newest_in (with_log logs slot (more ∷ logs slot) s) at ≡ Some block → or_older (block_in more.changed at) (newest_in (logs slot) at) ≡ Some block
  at_slot s at block same is = sym (ap (λ (l : List Logged). newest_in l at) (ap (with_log logs slot (more ∷ logs slot)) same ∙ log_here logs slot (more ∷ logs slot))) ∙ is

  elsewhere : (s at : ℕ) (o : Option Block) → s ≢ slot → newest_in (with_log logs slot (more ∷ logs slot) s) at ≡ o → newest_in (logs s) at ≡ o
  elsewhere s at o other is = sym (ap (λ (l : List Logged). newest_in l at) (log_there logs slot s (more ∷ logs slot) other)) ∙ is

  pub truth_overlaid : IsOverlaidTruth held devices areas rows logs truth → slot < 8
      → ((s : ℕ) → s < 8 → HasLog rows now devices areas s (with_log logs slot (more ∷ logs slot) s))
      → ((s at : ℕ) (block : Block) → s < 8 → s ≢ slot → block_in more.changed at ≡ Some block → newest_in (logs s) at ≡ None)
      → ((at : ℕ) → IsBlock areas at → IsUnlogged logs at → block_in more.changed at ≡ None → IsHome held devices at (truth at) → IsHome now devices at (truth at))
      → IsOverlaidTruth now devices areas rows (with_log logs slot (more ∷ logs slot)) (with_draft truth more.changed)
  truth_overlaid was less has_logs alone homes = record {
    has_logs = has_logs;
    logged = λ s at block in_slots is. logged_in s at block in_slots is (found (block_in more.changed at)) (same_or s slot);
    home = λ at is unlogged. home_of at is unlogged (at_slot_none at unlogged);
  }
    where
      logged_in : (s at : ℕ) (block : Block) → s < 8 → newest_in (with_log logs slot (more ∷ logs slot) s) at ≡ Some block
          → (block_in more.changed at ≡ None) ⊎ ((b : Block) × (block_in more.changed at ≡ Some b)) → (s ≡ slot) ⊎ (s ≢ slot)
          → with_draft truth more.changed at ≡ block
      logged_in s at block in_slots is (inl none) (inl same) =
          laid_none _ (truth at) none ∙ was.logged slot at block less (older_some _ _ block none (at_slot s at block same is))
      logged_in s at block in_slots is (inl none) (inr other) = laid_none _ (truth at) none ∙ was.logged s at block in_slots (elsewhere s at (Some block) other is)
      logged_in s at block in_slots is (inr (b, some)) (inl same) = laid_some _ b (truth at) some ∙ newer_is _ _ b block some (at_slot s at block same is)
      logged_in s at block in_slots is (inr (b, some)) (inr other) =
          let here = elsewhere s at (Some block) other is in
          let none = alone s at b in_slots other some in
          absurd cc

      at_slot_none : (at : ℕ) → IsUnlogged (with_log logs slot (more ∷ logs slot)) at → (block_in more.changed at ≡ None) × (newest_in (logs slot) at ≡ None)
      at_slot_none at unlogged = older_none _ _ (sym (ap (λ (l : List Logged). newest_in l at) (log_here logs slot (more ∷ logs slot))) ∙ unlogged slot less)

      home_of : (at : ℕ) → IsBlock areas at → IsUnlogged (with_log logs slot (more ∷ logs slot)) at
          → (block_in more.changed at ≡ None) × (newest_in (logs slot) at ≡ None) → IsHome now devices at (with_draft truth more.changed at)
      home_of at is unlogged none =
          let before : IsUnlogged logs at = λ s in_slots. ⊎_elim (λ same. ap (λ (n : ℕ). newest_in (logs n) at) same ∙ none.1) (λ other. elsewhere s at None other (unlogged s in_slots)) (same_or s slot) in
          subst (IsHome now devices at) (sym (laid_none _ (truth at) none.0)) (homes at is before none.0 (was.home at is before))
