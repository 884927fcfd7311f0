-- A dead file without a tree is gone: its slot is freed, and marked no more.
use Rattle.std.proofs.Common.{◌≡◌, ℕ, ◌≤◌, Bool, false, sym, ap, ◌∙◌, refl, Some, None, inl, inr}
use Rattle.std.specs.Prelude.{◌≢◌, ◌⊎◌, ◌==◌, if◌then◌else◌}
use Rattle.bx_layout.specs.declared.block.Block.{Block}
use Rattle.bx_layout.specs.declared.inode.Inode.{Inode}
use Rattle.bx_model.specs.declared.tree.Tree.{Tree}
use Rattle.bx_truth.specs.Chunks.{chunks_of}
use Rattle.bx_truth.specs.Dying.{IsShownDead, MarksSlot}
use Rattle.bx_truth.specs.Stands.{StandsFor, inode_of}
use Rattle.bx_truth.specs.Stored.{Owner, Inodes, PageOf, DataOf}
use Rattle.bx_truth.proofs.Cases.{eq_true, eq_false, same_or}
use Rattle.bx_truth.proofs.Cleaned.{dead_gone, dead_shown}
use Rattle.bx_truth.proofs.Frames.{tree_kept}
use Rattle.bx_truth.proofs.Marking.{marked_then_kept}
use Rattle.bx_truth.proofs.Same.{chunk_is}
use Rattle.bx_views.specs.Truths.{Truth, Hints}
use Rattle.bx_chunks.specs.Freeing.{RemovesChunk}
use Rattle.bx_chunks.specs.Marking.{Marks}
use Rattle.bx_inodes.specs.Fitting.{HintsFitAll, Continues}
use Rattle.bx_inodes.proofs.Later.{fit_later}
use Rattle.bx_inodes.specs.Inodes.{HoldsInode}
use Rattle.bx_clean.specs.Cleaning.{Cleans}
use Rattle.bx_clean.proofs.DeadFile.{was, root_same, not_its, none_some, others_stay}
use Rattle.bx_clean.proofs.Slots.{removes_keeps}

module _ (areas : ℕ) (truth mid now : Truth) (T : Tree) (handle : ℕ) (inode : Inode) (few : areas ≤ 64)
    (is : StandsFor areas truth T) (holds : HoldsInode areas truth handle inode) (dead : inode.kind ≡ 0) (bare : inode.tree ≡ 0)
    (m : Marks areas truth mid handle false) (r : RemovesChunk areas mid now handle) where
  gone : chunks_of areas now handle ≡ None
  gone = r.chunks handle ∙ ap (λ (t : Bool). if t then None else chunks_of areas mid handle) (eq_true handle handle refl)

  not_gone : (h : ℕ) (b : Block) → chunks_of areas now h ≡ Some b → h ≢ handle
  not_gone h b some e = none_some b (sym gone ∙ ap (chunks_of areas now) (sym e) ∙ some)

  kept : (h : ℕ) → h ≢ handle → chunks_of areas now h ≡ chunks_of areas truth h
  kept h other = r.chunks h ∙ ap (λ (t : Bool). if t then None else chunks_of areas mid h) (eq_false h handle other) ∙ m.chunks h

  before : (h : ℕ) (b : Block) → chunks_of areas now h ≡ Some b → chunks_of areas truth h ≡ Some b
  before h b some = sym (kept h (not_gone h b some)) ∙ some

  slots : MarksSlot areas truth now handle false
  slots = marked_then_kept areas truth mid now handle false (chunk_is areas truth handle holds.block holds.chunk).slot m.marks
      (removes_keeps areas mid now handle few m.marks.chunked r)

  shown : IsShownDead (chunks_of areas truth) is.owner handle (is.stored handle)
  shown = dead_shown areas truth T handle is (was areas truth T handle inode is holds dead)

  no_tree : (is.stored handle).inode.tree ≡ 0
  no_tree = root_same areas truth T handle inode is holds dead ∙ bare

  none_left : (h : ℕ) (b : Block) → chunks_of areas now h ≡ Some b → (inode_of h (is.owner h) == handle) ≡ false
  none_left h b some = by (is.owner h) refl
    where
      by_page : (a : ℕ) → is.owner h ≡ PageOf a → (a ≡ handle) ⊎ (a ≢ handle) → (a == handle) ≡ false
      by_page a o (inl e) = absurd ((shown.pages h b (before h b some) (o ∙ ap PageOf e)).has_tree no_tree)
      by_page a o (inr other) = eq_false a handle other

      by_piece : (a index : ℕ) → is.owner h ≡ DataOf a index → (a ≡ handle) ⊎ (a ≢ handle) → (a == handle) ≡ false
      by_piece a index o (inl e) = absurd ((shown.pieces h index b (before h b some) (o ∙ ap (λ (n : ℕ). DataOf n index) e)).has_tree no_tree)
      by_piece a index o (inr other) = eq_false a handle other

      by : (o : Owner) → is.owner h ≡ o → (inode_of h o == handle) ≡ false
      by Inodes o = eq_false h handle (not_gone h b some)
      by (PageOf a) o = by_page a o (same_or a handle)
      by (DataOf a index) o = by_piece a index o (same_or a handle)

  stands : StandsFor areas now T
  stands = dead_gone areas truth T handle is (was areas truth T handle inode is holds dead) now slots
      (others_stay areas truth T handle inode is holds dead now (λ h test. kept h (not_its areas truth T handle inode is holds dead h test))) none_left

  continues : Continues areas truth now
  continues = record { given = slots.given; used = λ h b some given. (b, before h b some) }

  leads : (other : Hints) → HintsFitAll areas other truth → HintsFitAll areas other now
  leads other fit = record {
    each = λ h i pages held at.
        fit_later areas other truth now i.tree pages continues
        (fit.each h i pages (record { block = held.block; chunk = before h held.block held.chunk; has = held.has })
        (tree_kept (chunks_of areas now) (chunks_of areas truth) i.tree pages at (λ node b page some. before node.handle b some)));
  }

  pub file_freed : Cleans areas truth now T
  file_freed = record { stands = stands; given = slots.given; leads = leads }
