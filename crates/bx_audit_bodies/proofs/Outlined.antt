-- What an outline says of the file that a handle names.
use Rattle.std.proofs.Common.{◌≡◌, ℕ, ◌^◌, ◌<◌, ◌⊎◌, inr, arith, List, sym, ap, ◌∙◌, subst, Option, Some, None}
use Rattle.std.specs.Prelude.{All}
use Rattle.bx_audit_files.specs.Inodes.{IsInodeAt}
use Rattle.bx_audit_pages.specs.Trees.{tree_of}
use Rattle.bx_audit_bodies.specs.Bodies.{file_with}
use Rattle.bx_audit_bodies.specs.Contents.{HasClear}
use Rattle.bx_audit_bodies.specs.Faults.{Within}
use Rattle.bx_audit_bodies.specs.Outlines.{ArePartsAt, ArePartsOf, HasRegular, IsOutlineAt, IsOutlineOf, IsReadable, IsUnreadFile}
use Rattle.bx_audit_bodies.specs.Parts.{IsUnclearPiece}
use Rattle.bx_audit_bodies.specs.Pieces.{AreApart, HasPiece, piece_among}
use Rattle.bx_audit_bodies.specs.Reading.{IsReadAs}
use Rattle.bx_audit_bodies.specs.declared.claims.Claim.{Claim}
use Rattle.bx_audit_bodies.specs.declared.outlines.Outline.{Outline}
use Rattle.bx_audit_bodies.specs.declared.outlines.Outline.TheVariants.{Dead, File as OfFile}
use Rattle.bx_audit_bodies.specs.declared.outlines.Parts.{Parts}
use Rattle.bx_audit_bodies.specs.declared.outlines.Parts.TheVariants.{Pieces, Whole}
use Rattle.bx_audit_bodies.specs.declared.pieces.Piece.{Piece}
use Rattle.bx_audit_bodies.proofs.BodiesOfTrees.{apart_read, clear_read, regular_read, unclear_not}
use Rattle.bx_audit_bodies.proofs.FaultsOfParts.{regular_piece_fault}
use Rattle.bx_audit_bodies.proofs.PartsLed.{one_led}
use Rattle.bx_audit_bodies.proofs.ReadFiles.{not_stored, read_as, same_at}
use Rattle.bx_layout.specs.declared.inode.Inode.{Inode}
use Rattle.bx_layout.specs.Inodes.{IsInode}
use Rattle.bx_tree_files.specs.declared.file.Body.TheVariants.{Bytes}
use Rattle.bx_tree_files.specs.declared.file.File.{File}
use Rattle.bx_truth.specs.PageTrees.{Chunks}
use Rattle.bx_truth.specs.Stored.{AreBytesOf}

-- ---- the outline of an inode, by its handle

module _ (chunks : Chunks) (handle : ℕ) (inode : Inode) (at : IsInodeAt chunks handle inode) where
  parts_at : (parts : Parts) (claims : List Claim) → ArePartsOf chunks handle inode parts claims → ArePartsAt chunks handle parts claims
  parts_at (Whole file) claims body = read_as chunks handle inode at (Some file) claims body
  parts_at (Pieces kept pieces) claims is = (
    subst (IsInodeAt chunks handle) (sym is.0) at,
    subst (λ (i : Inode). HasRegular chunks i pieces.items claims) (sym is.0) is.1,
  )

  pub outlined : (outline : Outline) → IsOutlineOf chunks handle inode outline → IsOutlineAt chunks handle outline
  outlined (Dead claims) body = read_as chunks handle inode at None claims.items body
  outlined (OfFile outline) are = parts_at outline.parts outline.claims.items are

-- ---- a regular file, by its pieces

module _ (chunks : Chunks) (none : chunks 0 ≡ None) (handle : ℕ) (inode : Inode) (pieces : List Piece) (claims : List Claim) (at : IsInodeAt chunks handle inode)
    (regular : HasRegular chunks inode pieces claims) (kind : inode.kind ≡ 1) where
  -- one of them is wrong
  pub unread : (wanted : ℕ) → IsUnclearPiece chunks pieces inode.tail wanted → IsUnreadFile chunks handle wanted
  unread wanted torn = record {
    none = not_stored chunks handle inode at (λ owner tree found body. unclear_not chunks none inode pieces claims regular.has owner handle tree found wanted kind torn body);
    part = inr (inode, at, one_led chunks inode.tree wanted pieces regular.led record { piece = torn.piece; there = torn.there; is = torn.is });
    fault = Within inode at (regular_piece_fault chunks handle inode wanted (tree_of regular.has.levels) pieces kind regular.has.is regular.has.are_pieces torn);
    live = λ other is zero. let e : 0 ≡ 1 = sym zero ∙ ap (λ (i : Inode). i.kind) (same_at chunks handle inode at other is) ∙ kind in absurd (omega (arith, e));
  }

  -- none is
  pub readable : IsInode inode → inode.size < 2 ^ 31 → All (HasClear chunks inode.tail) pieces → IsReadable chunks handle claims
  readable is_inode small clear =
      let r = clear_read chunks none inode pieces claims regular.has handle is_inode kind small clear in
      record { file = r.0; read = read_as chunks handle inode at (Some r.0) claims r.1 }

  -- these are its bytes
  pub filled : (bytes : List ℕ) → IsInode inode → inode.size < 2 ^ 31 → All (HasPiece chunks) pieces → (AreApart pieces → AreBytesOf (piece_among chunks pieces) inode.size inode.tail bytes)
      → IsReadAs chunks handle (Some (file_with handle inode (Bytes bytes))) claims
  filled bytes is_inode small blocks are =
      read_as chunks handle inode at (Some (file_with handle inode (Bytes bytes))) claims
      (regular_read chunks none inode pieces claims regular.has blocks handle bytes is_inode kind small (are (apart_read chunks none inode pieces claims regular.has)))
