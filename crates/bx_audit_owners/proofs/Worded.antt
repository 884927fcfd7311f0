-- The slots of chunks that the walk from the root meets.
use Rattle.std.proofs.Common.{◌≡◌, ℕ, ◌+◌, ◌*◌, ◌<◌, ◌≤◌, ◌^◌, ◌%◌, ◌/◌, arith, inl, inr, Bool, true, false, List, sym, ap, ◌∙◌, subst, refl, Option, Some, None}
use Rattle.std.specs.Prelude.{◌≢◌}
use Rattle.bx_audit_bodies.specs.Reading.{IsReadAs}
use Rattle.bx_audit_owners.specs.declared.holders.Holder.{Holder}
use Rattle.bx_audit_owners.specs.declared.holders.Holder.TheVariants.{File as OfFile, Dead as OfDead, Page as OfPage, Piece as OfPiece}
use Rattle.bx_audit_slots.specs.declared.slots.UsedSlot.{UsedSlot}
use Rattle.bx_audit_owners.specs.Found.{IsInode}
use Rattle.bx_audit_owners.specs.Holding.{Holdings, holder_by}
use Rattle.bx_audit_slots.specs.UsedSlots.{IsUsedSlot}
use Rattle.bx_audit_owners.specs.Walks.{IsWalked}
use Rattle.bx_audit_owners.specs.Words.{HasWord, IsMetChunk}
use Rattle.bx_audit_slots.proofs.InUse.{area_is, slot_is, small}
use Rattle.bx_audit_owners.proofs.Owners.{found_stored}
use Rattle.bx_audit_owners.proofs.Wholes.{mark_of, of_slot}
use Rattle.bx_places.specs.Handles.{parts_of}
use Rattle.bx_homes.specs.Slots.{AreBlocks}
use Rattle.bx_layout.specs.declared.block.Block.{Block}
use Rattle.bx_layout.specs.Areas.{generation_in, in_use}
use Rattle.bx_model.specs.declared.tree.Tree.{Tree}
use Rattle.bx_model.specs.FileTrees.{IsFileTree}
use Rattle.bx_tree_files.specs.declared.file.File.{File}
use Rattle.bx_tree_files.specs.Files.{file_at}
use Rattle.bx_truth.specs.Chunks.{block_at, chunks_of, dead_at, dead_in, own_block, word_at, word_in}
use Rattle.bx_truth.specs.PageTrees.{Chunks}
use Rattle.bx_truth.specs.Stands.{StandsFor}
use Rattle.bx_truth.proofs.Same.{IsChunk, chunk_is, own_is_block}
use Rattle.bx_views.specs.Truths.{Truth}

file_or : (o : Option File) → o ≢ None → (f : File) × (o ≡ Some f)
file_or None is = absurd (is refl)
file_or (Some f) is = (f, refl)

holder_or : (o : Option Holder) → o ≢ None → (x : Holder) × (o ≡ Some x)
holder_or None is = absurd (is refl)
holder_or (Some x) is = (x, refl)

-- ---- what the walk met

module _ (chunks : Chunks) (holdings : Holdings) (files : List File) (walked : IsWalked chunks holdings files) where
  -- an inode among them is that of a file that was met
  met_inode : (inode : ℕ) → IsInode (holdings inode) → holdings inode ≡ Some OfFile
  met_inode inode is = by (holdings inode) refl is
    where
      by : (o : Option Holder) → holdings inode ≡ o → IsInode o → holdings inode ≡ Some OfFile
      by None there here = absurd here
      by (Some OfFile) there here = there
      by (Some OfDead) there here = absurd (walked.live inode there)
      by (Some (OfPage other)) there here = absurd here
      by (Some (OfPiece other index)) there here = absurd here

  module _ (inode : ℕ) (there : holdings inode ≡ Some OfFile) where
    is_inode : IsInode (holdings inode)
    is_inode = subst IsInode (sym there) tt

    its_file : (f : File) × (file_at files inode ≡ Some f)
    its_file = file_or (file_at files inode) (walked.found.has_file inode there)

    its_reading : IsReadAs chunks inode (Some its_file.0) (walked.found.readings inode).claims
    its_reading =
        let r = walked.found.inodes inode is_inode in
        subst (λ (o : Option File). IsReadAs chunks inode o (walked.found.readings inode).claims) its_file.1
        record { stored = (walked.found.readings inode).stored; at = r.at; dead = r.dead; is = r.is; are_claims = r.are_claims; only = r.only }

  of_claim : (handle inode : ℕ) (piece : Option ℕ) → holdings handle ≡ Some (holder_by inode piece) → IsMetChunk chunks handle
  of_claim handle inode piece held =
      let c = walked.found.claimed handle inode piece held in
      let there = met_inode inode c.0 in
      let f = its_file inode there in
      record {
        inode = inode;
        met = walked.met inode f.0 f.1;
        file = f.0;
        claims = (walked.found.readings inode).claims;
        read = its_reading inode there;
        part = inr (record { handle = handle; piece = piece }, c.1, refl);
      }

  -- each chunk that has a holder is met
  pub met_chunk : (handle : ℕ) → holdings handle ≢ None → IsMetChunk chunks handle
  met_chunk handle held = let x = holder_or (holdings handle) held in by x.0 x.1
    where
      by : (x : Holder) → holdings handle ≡ Some x → IsMetChunk chunks handle
      by OfFile there =
          let f = its_file handle there in
          record {
            inode = handle;
            met = walked.met handle f.0 f.1;
            file = f.0;
            claims = (walked.found.readings handle).claims;
            read = its_reading handle there;
            part = inl refl;
          }
      by OfDead there = absurd (walked.live handle there)
      by (OfPage inode) there = of_claim handle inode None there
      by (OfPiece inode index) there = of_claim handle inode (Some index) there

  -- and is there
  chunk_there : (handle : ℕ) → holdings handle ≢ None → (b : Block) × (chunks handle ≡ Some b)
  chunk_there handle held = let x = holder_or (holdings handle) held in by x.0 x.1
    where
      claimed : (inode : ℕ) (piece : Option ℕ) → holdings handle ≡ Some (holder_by inode piece) → (b : Block) × (chunks handle ≡ Some b)
      claimed inode piece there =
          let c = walked.found.claimed handle inode piece there in
          let claim = (walked.found.inodes inode c.0).are_claims.each (record { handle = handle; piece = piece }) c.1 in
          (claim.block, claim.chunk)

      by : (x : Holder) → holdings handle ≡ Some x → (b : Block) × (chunks handle ≡ Some b)
      by OfFile there = let s = found_stored chunks holdings files walked.found handle (subst IsInode (sym there) tt) in (s.block, s.chunk)
      by OfDead there = absurd (walked.live handle there)
      by (OfPage inode) there = claimed inode None there
      by (OfPiece inode index) there = claimed inode (Some index) there

-- ---- in a file tree their slots are as they ask

module _ (areas : ℕ) (truth : Truth) (few : areas ≤ 64) (tree : Tree) (stand : StandsFor areas truth tree) (is_tree : IsFileTree tree) (holdings : Holdings) (files : List File)
    (walked : IsWalked (chunks_of areas truth) holdings files) (stands : ℕ → Block → Type 0) (are : AreBlocks areas stands truth) where
  unmarked_at : (handle : ℕ) → holdings handle ≢ None → IsChunk areas truth handle (truth (block_at handle)) → dead_at truth (block_at handle) ≡ false
  unmarked_at handle held c = by (dead_at truth (block_at handle)) refl
    where
      by : (t : Bool) → dead_at truth (block_at handle) ≡ t → dead_at truth (block_at handle) ≡ false
      by false is = is
      by true is =
          let slot : UsedSlot = record { handle = handle; dead = true } in
          let used : IsUsedSlot areas truth (block_at handle) slot = record { there = c.slot; used = c.used; handle_is = c.is_handle; dead_is = sym is } in
          let x = holder_or (holdings handle) held in
          let m = mark_of areas truth few tree stand is_tree holdings files walked.found (block_at handle) slot used x.0 x.1 in
          absurd (walked.live handle (x.1 ∙ ap Some (m.0 refl)))

  same_generation : (handle : ℕ) (slot area generation : ℕ) → slot < 960 → area < 64 → generation < 2 ^ 32 → handle ≡ area * 2 ^ 48 + slot * 2 ^ 32 + generation → generation ≡ handle % 2 ^ 32
  same_generation handle slot area generation is_slot is_area fits e = omega (arith, is_slot, is_area, fits, e)

  pub worded : (handle : ℕ) → holdings handle ≢ None → HasWord areas stands handle
  worded handle held =
      let b = chunk_there (chunks_of areas truth) holdings files walked handle held in
      let c = chunk_is areas truth handle b.0 b.1 in
      let of = of_slot areas truth few handle c.slot c.is_handle in
      let area = (parts_of handle).area in
      let slot = (parts_of handle).slot in
      let same_area : block_at handle / 1024 ≡ area = area_is area slot of.1 in
      let same_slot : block_at handle % 1024 ≡ slot = slot_is area slot of.1 in
      let word : word_at truth (block_at handle) ≡ word_in (truth (own_block area)).payload slot = λ i. word_in (truth (own_block (same_area i))).payload (same_slot i) in
      let mark : dead_at truth (block_at handle) ≡ dead_in (truth (own_block area)).payload slot = λ i. dead_in (truth (own_block (same_area i))).payload (same_slot i) in
      record {
        slot = of;
        own = truth (own_block area);
        there = are (own_block area) (own_is_block areas area of.0);
        is = stand.chunked.own area of.0;
        used = ap in_use (sym word) ∙ c.used;
        generation = ap generation_in (sym word) ∙ same_generation handle (block_at handle % 1024) (block_at handle / 1024) (generation_in (word_at truth (block_at handle))) c.slot.slot (less c.slot.area) (small (word_at truth (block_at handle))) c.is_handle;
        unmarked = sym mark ∙ unmarked_at handle held record { slot = c.slot; used = c.used; is_handle = c.is_handle; is_block = refl };
      }
    where
      less : {n : ℕ} → n < areas → n < 64
      less n = omega (arith, n, few)
