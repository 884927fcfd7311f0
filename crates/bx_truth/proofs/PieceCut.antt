-- A piece is cut.
use Rattle.std.proofs.Common.{◌≡◌, ℕ, ◌/◌, ◌%◌, ◌^◌, ◌<◌, ◌≤◌, ◌⊎◌, inl, inr, arith, false, List, length, sym, ap, ◌∙◌, subst, refl, Option, Some}
use Rattle.std.specs.Prelude.{◌≢◌, ◌==◌}
use Rattle.bx_views.specs.bx_layout.specs.declared.block.Block.{Block}
use Rattle.bx_model.specs.bx_tree_files.specs.declared.file.Body.TheVariants.{Bytes}
use Rattle.bx_model.specs.bx_tree_files.specs.declared.file.File.{File}
use Rattle.bx_model.specs.declared.tree.Tree.{Tree}
use Rattle.bx_model.specs.bx_tree_files.specs.Files.{file_at, with_file}
use Rattle.bx_truth.specs.Chunks.{chunks_of}
use Rattle.bx_truth.specs.Stands.{StandsFor, inode_of}
use Rattle.bx_truth.specs.Stored.{AreBytesOf, Owner, DataOf, Stored, HasBody, HasTree, HasContents, IsRegular, byte_in}
use Rattle.bx_truth.specs.PageTrees.{Chunks, PageTree}
use Rattle.bx_views.specs.Truths.{Truth}
use Rattle.bx_truth.specs.Shown.{IsShown, KeepsSlots, KeepsOthers}
use Rattle.bx_truth.specs.Dying.{IsDeadFile}
use Rattle.bx_truth.specs.Pieces.{CutsPiece, pieces_without}
use Rattle.bx_truth.proofs.Cleaned.{dead_anew, dead_shown}
use Rattle.bx_truth.proofs.Cases.{eq_true}
use Rattle.bx_truth.proofs.PieceKeys.{chunk_fits}
use Rattle.bx_truth.proofs.Put.{shown, put, no_dead}
use Rattle.bx_truth.proofs.PieceGone.{HasPieces, own_here, same_chunk, has_tree, contents, piece_now, page_there, piece_there, chunk_now}

-- ---- a regular file

module _ (chunks now : Chunks) (owner : ℕ → Owner) (handle : ℕ) (stored : Stored) (file : File) (bytes bytes_now : List ℕ) (s : IsShown chunks owner handle stored file) (body_is : file.body ≡ Bytes bytes)
    (after : PageTree) (index names : ℕ) (p : CutsPiece chunks now stored after index names)
    (are : AreBytesOf (pieces_without chunks stored index) stored.inode.size stored.inode.tail bytes_now)
    (small : stored.inode.size ≤ 2 ^ 32) (fits : (h : ℕ) (b : Block) → now h ≡ Some b → h < 2 ^ 64) where
  regular : IsRegular chunks owner handle stored bytes
  regular = subst (HasBody chunks owner handle stored) body_is s.body

  abbrev has : HasPieces chunks owner handle stored
  has = record { tree = regular.tree; contents = regular.contents; block = s.block; chunk = s.chunk; itself = s.itself; pages = s.pages; pieces = s.pieces }

  low : (place : ℕ) → place < 2 ^ 32 → place / 4096 < 2 ^ 32
  low place less = omega (arith, less)

  wide : (a b c : ℕ) → a ≡ b → b ≤ 2 ^ 32 → c < a → c < 2 ^ 32
  wide a b c same le less = omega (arith, same, le, less)

  cut_shown : IsShown now owner handle (record { inode = stored.inode; tree = after }) (record file { body = Bytes bytes_now })
  cut_shown = record {
    block = s.block;
    chunk = chunk_now chunks now owner handle stored has after index names p;
    itself = s.itself;
    has = s.has;
    handle_is = s.handle_is;
    fields = record { kind = s.fields.kind; mode = s.fields.mode; nlink = s.fields.nlink; uid = s.fields.uid; gid = s.fields.gid; atime = s.fields.atime; mtime = s.fields.mtime; ctime = s.fields.ctime };
    body = record {
      kind = regular.kind;
      tree = has_tree chunks now owner handle stored has after index names p;
      contents = contents chunks now owner handle stored has after index names p;
      bytes_are = record {
        long = are.long;
        each = λ place less. are.each place less ∙ sym (ap (λ (o : Option Block). byte_in o (place % 4096))
            (piece_now chunks now owner handle stored has after index names p (place / 4096) (low place (wide (length bytes_now) stored.inode.size place are.long small less))));
        cleared = λ i place fits_i less past. ap (λ (o : Option Block). byte_in o place) (piece_now chunks now owner handle stored has after index names p i fits_i) ∙ are.cleared i place fits_i less past;
      };
    };
    pages = page_there chunks now owner handle stored has after index names p fits;
    pieces = piece_there chunks now owner handle stored has after index names p fits;
  }

-- all chunks stay that are another inode's
cut_others : (areas : ℕ) (truth now : Truth) (tree : Tree) (handle : ℕ) (after : PageTree) (index names : ℕ) (is : StandsFor areas truth tree)
    → HasPieces (chunks_of areas truth) is.owner handle (is.stored handle) → CutsPiece (chunks_of areas truth) (chunks_of areas now) (is.stored handle) after index names
    → KeepsOthers areas truth now tree is is.owner handle
cut_others areas truth now tree handle after index names is s p = record {
  kept = λ h b some test. (stays h (not_piece h test) test ∙ some, refl);
  none_new = λ h b some test. (sym (stays h (not_piece h test) test) ∙ some, refl);
}
  where
    stays : (h : ℕ) → h ≢ names → (inode_of h (is.owner h) == handle) ≡ false → chunks_of areas now h ≡ chunks_of areas truth h
    stays h apart test = same_chunk (chunks_of areas truth) (chunks_of areas now) is.owner handle (is.stored handle) s after index names p h apart
        (λ page. let t = eq_true (inode_of h (is.owner h)) handle (ap (inode_of h) page) in absurd cc)

    not_piece : (h : ℕ) → (inode_of h (is.owner h) == handle) ≡ false → h ≢ names
    not_piece h test same =
        let own : is.owner h ≡ DataOf handle index = ap is.owner same ∙ own_here (chunks_of areas truth) (chunks_of areas now) is.owner handle (is.stored handle) s after index names p in
        let t = eq_true (inode_of h (is.owner h)) handle (ap (inode_of h) own) in absurd cc

-- A regular file has a piece less.
pub piece_cut : (areas : ℕ) (truth now : Truth) (tree : Tree) (handle : ℕ) (file : File) (bytes bytes_now : List ℕ) (after : PageTree) (index names : ℕ)
    → (is : StandsFor areas truth tree) → file_at tree.files handle ≡ Some file → file.body ≡ Bytes bytes
    → KeepsSlots areas truth now
    → CutsPiece (chunks_of areas truth) (chunks_of areas now) (is.stored handle) after index names
    → AreBytesOf (pieces_without (chunks_of areas truth) (is.stored handle) index) (is.stored handle).inode.size (is.stored handle).inode.tail bytes_now
    → (is.stored handle).inode.size ≤ 2 ^ 32 → areas ≤ 64
    → StandsFor areas now (record tree { files = with_file tree.files (record file { body = Bytes bytes_now }) })
piece_cut areas truth now tree handle file bytes bytes_now after index names is there body_is slots p are small few =
    put areas truth now tree handle (record file { body = Bytes bytes_now }) is.owner (record { inode = (is.stored handle).inode; tree = after }) is
    slots (cut_others areas truth now tree handle after index names is (has (chunks_of areas truth) (chunks_of areas now) is.owner handle (is.stored handle) file bytes bytes_now s body_is after index names p are small fits) p)
    (no_dead areas truth tree handle file is there)
    (cut_shown (chunks_of areas truth) (chunks_of areas now) is.owner handle (is.stored handle) file bytes bytes_now s body_is after index names p are small fits)
  where
    s : IsShown (chunks_of areas truth) is.owner handle (is.stored handle) file
    s = shown areas truth tree handle file is there

    fits : (h : ℕ) (b : Block) → chunks_of areas now h ≡ Some b → h < 2 ^ 64
    fits h b some = chunk_fits areas now h b few some

-- A dead file has a piece less.
pub dead_piece_cut : (areas : ℕ) (truth now : Truth) (tree : Tree) (handle : ℕ) (after : PageTree) (index names : ℕ)
    → (is : StandsFor areas truth tree) → IsDeadFile areas truth tree is handle → (is.stored handle).inode.tree ≢ 0
    → KeepsSlots areas truth now
    → CutsPiece (chunks_of areas truth) (chunks_of areas now) (is.stored handle) after index names
    → areas ≤ 64 → StandsFor areas now tree
dead_piece_cut areas truth now tree handle after index names is was has_some slots p few =
    dead_anew areas truth tree handle is was now is.owner (record { inode = (is.stored handle).inode; tree = after }) slots
    (cut_others areas truth now tree handle after index names is pieces p) record {
      block = pieces.block;
      chunk = chunk_now (chunks_of areas truth) (chunks_of areas now) is.owner handle (is.stored handle) pieces after index names p;
      itself = was.itself;
      has = (dead_shown areas truth tree handle is was).has;
      dead = record {
        kind = was.kind;
        tree = inr (
          has_tree (chunks_of areas truth) (chunks_of areas now) is.owner handle (is.stored handle) pieces after index names p,
          contents (chunks_of areas truth) (chunks_of areas now) is.owner handle (is.stored handle) pieces after index names p,
        );
      };
      pages = page_there (chunks_of areas truth) (chunks_of areas now) is.owner handle (is.stored handle) pieces after index names p (λ h b some. chunk_fits areas now h b few some);
      pieces = piece_there (chunks_of areas truth) (chunks_of areas now) is.owner handle (is.stored handle) pieces after index names p (λ h b some. chunk_fits areas now h b few some);
    }
  where
    by_tree : ((is.stored handle).inode.tree ≡ 0) ⊎ (HasTree (chunks_of areas truth) is.owner handle (is.stored handle) × HasContents (chunks_of areas truth) is.owner handle (is.stored handle))
        → HasTree (chunks_of areas truth) is.owner handle (is.stored handle) × HasContents (chunks_of areas truth) is.owner handle (is.stored handle)
    by_tree (inl none) = absurd (has_some none)
    by_tree (inr both) = both

    pieces : HasPieces (chunks_of areas truth) is.owner handle (is.stored handle)
    pieces =
        let d = dead_shown areas truth tree handle is was in
        let both = by_tree d.dead.tree in
        record { tree = both.0; contents = both.1; block = d.block; chunk = d.chunk; itself = d.itself; pages = d.pages; pieces = d.pieces }
