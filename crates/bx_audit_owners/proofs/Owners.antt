-- What is found, and whatever files there are.
use Rattle.std.proofs.Common.{◌≡◌, ℕ, ◌<◌, ◌^◌, ⊎_elim, inl, inr, arith, List, get_or, sym, ap, ◌∙◌, subst, refl, Option, Some, None}
use Rattle.std.specs.Prelude.{◌≢◌, Contains, IfSome}
use Rattle.bx_audit_bodies.specs.Claims.{AgreesWith, owner_by}
use Rattle.bx_audit_bodies.specs.Reading.{IsStored, IsOnly}
use Rattle.bx_audit_owners.specs.declared.holders.Holder.{Holder}
use Rattle.bx_audit_owners.specs.declared.holders.Holder.TheVariants.{File as OfFile, Dead as OfDead, Page as OfPage, Piece as OfPiece}
use Rattle.bx_audit_owners.specs.Holding.{Holdings, IsHeldAfter, Clashes, owner_of, holder_by, holder_for}
use Rattle.bx_audit_owners.specs.Found.{Reading, IsReadSo, IsInode, IsFound, AreAllRead, HaveFiles}
use Rattle.bx_layout.specs.declared.block.Block.{Block}
use Rattle.bx_tree_files.specs.declared.file.Body.{Body}
use Rattle.bx_tree_files.specs.declared.file.Body.TheVariants.{Bytes, Path, Names}
use Rattle.bx_tree_files.specs.declared.file.File.{File}
use Rattle.bx_tree_files.specs.declared.file.Name.{Name}
use Rattle.bx_tree_files.specs.Files.{IsFile, file_at}
use Rattle.bx_page.specs.Contents.{value_of}
use Rattle.bx_truth.specs.Keys.{entry_key, name_key, content_key, content_value}
use Rattle.bx_truth.specs.PageTrees.{Chunks, map_of}
use Rattle.bx_truth.specs.Stands.{IsOwned, IsAnInode}
use Rattle.bx_truth.specs.Stored.{Owner, Inodes, PageOf, DataOf, Stored, IsContent, IsFileOr, HasBody, IsOfName}
use Rattle.bx_truth.proofs.OneFiles.{itself}
use Rattle.bx_truth.proofs.PieceKeys.{one_handle}

none_some : {X : Type 0} (o : Option X) (x : X) → o ≡ None → o ≡ Some x → ⊥
none_some o x none some = absurd cc

-- the owner that is found, an inode's where none is
abbrev pub owner_in : Option Holder → Owner
owner_in None = Inodes
owner_in (Some holder) = owner_of holder

pub owner_same : (inode : ℕ) (piece : Option ℕ) → owner_of (holder_by inode piece) ≡ owner_by inode piece
owner_same inode None = refl
owner_same inode (Some index) = refl

-- an owner is that of one holder, where it is no inode's
pub one_holder : (held : Holder) (inode : ℕ) (piece : Option ℕ) → owner_of held ≡ owner_by inode piece → held ≡ holder_by inode piece
one_holder OfFile inode None e = absurd cc
one_holder OfFile inode (Some index) e = absurd cc
one_holder OfDead inode None e = absurd cc
one_holder OfDead inode (Some index) e = absurd cc
one_holder (OfPage other) inode None e = let same : other ≡ inode = cc in ap OfPage same
one_holder (OfPage other) inode (Some index) e = absurd cc
one_holder (OfPiece other k) inode None e = absurd cc
one_holder (OfPiece other k) inode (Some index) e = let same : other ≡ inode = cc in let also : k ≡ index = cc in λ i. OfPiece (same i) (also i)

pub inodes_own : (held : Holder) → owner_of held ≡ Inodes → IsInode (Some held)
inodes_own OfFile e = tt
inodes_own OfDead e = tt
inodes_own (OfPage other) e = absurd cc
inodes_own (OfPiece other k) e = absurd cc

-- ---- the owners that are found

-- of each chunk
abbrev pub found_owner : Holdings → ℕ → Owner
found_owner holdings handle = owner_in (holdings handle)

module _ (chunks : Chunks) (holdings : Holdings) (found_files : List File) (found : IsFound chunks holdings found_files) where
  pub found_agrees : (handle : ℕ) → IsInode (holdings handle) → AgreesWith (found_owner holdings) handle (found.readings handle).claims
  found_agrees handle is = λ claim there. ap owner_in (found.kept handle claim is there) ∙ owner_same handle claim.piece

  -- an inode that is found is stored so
  pub found_stored : (handle : ℕ) → IsInode (holdings handle) → IsStored chunks (found_owner holdings) handle (found.readings handle).stored (file_at found_files handle)
  found_stored handle is = (found.inodes handle is).is (found_owner holdings) (found_agrees handle is)

  -- a dead one has no file
  pub no_file : (handle : ℕ) → holdings handle ≡ Some OfDead → file_at found_files handle ≡ None
  no_file handle held = by (file_at found_files handle) refl
    where
      by : (o : Option File) → file_at found_files handle ≡ o → file_at found_files handle ≡ None
      by None is = is
      by (Some file) is = let e : Some OfDead ≡ Some OfFile = sym held ∙ found.is_file handle file is in absurd cc

-- ---- whatever files there are

module _ (chunks : Chunks) (owner : ℕ → Owner) (stored : ℕ → Stored) (files : List File) (have : HaveFiles chunks owner stored files) where
  -- a chunk of kind 1 is an inode
  pub owns_itself : (handle : ℕ) (block : Block) → chunks handle ≡ Some block → block.kind ≡ 1 → owner handle ≡ Inodes
  owns_itself handle block chunk kind = itself chunks owner stored files handle block (owner handle) kind (have.are.each handle block chunk)

  -- an inode is stored so
  pub stored_here : (handle : ℕ) (block : Block) → chunks handle ≡ Some block → owner handle ≡ Inodes → IsStored chunks owner handle (stored handle) (file_at files handle)
  stored_here handle block chunk own =
      let a : IsAnInode chunks owner stored files handle block = subst (IsOwned chunks owner stored files handle block) own (have.are.each handle block chunk) in
      record { block = block; chunk = chunk; inode = a.inode; file = a.file; is_file = by (file_at files handle) refl }
    where
      by : (o : Option File) → file_at files handle ≡ o → IfSome o IsFile
      by None is = tt
      by (Some file) is = have.is_file handle file is

  module _ (holdings : Holdings) (found_files : List File) (found : IsFound chunks holdings found_files) where
    -- an inode that is found is its own
    pub inode_owns : (handle : ℕ) → IsInode (holdings handle) → owner handle ≡ Inodes
    inode_owns handle is =
        let s = found_stored chunks holdings found_files found handle is in
        owns_itself handle s.block s.chunk s.inode.kind

    -- and nothing else is stored there
    pub only_here : (handle : ℕ) → IsInode (holdings handle)
        → IsOnly chunks owner handle (stored handle) (file_at files handle) (found.readings handle).stored.inode (found.readings handle).claims (file_at found_files handle)
    only_here handle is =
        let s = found_stored chunks holdings found_files found handle is in
        (found.inodes handle is).only owner (stored handle) (file_at files handle) (stored_here handle s.block s.chunk (inode_owns handle is))

    by_claim : (handle inode : ℕ) (piece : Option ℕ) → holdings handle ≡ Some (holder_by inode piece) → owner handle ≡ owner_by inode piece
    by_claim handle inode piece held =
        let c = found.claimed handle inode piece held in
        (only_here inode c.0).agrees (record { handle = handle; piece = piece }) c.1

    -- the owners are those that are found
    pub agrees : (handle : ℕ) (held : Holder) → holdings handle ≡ Some held → owner handle ≡ owner_of held
    agrees handle OfFile is = inode_owns handle (subst IsInode (sym is) tt)
    agrees handle OfDead is = inode_owns handle (subst IsInode (sym is) tt)
    agrees handle (OfPage inode) is = by_claim handle inode None is
    agrees handle (OfPiece inode index) is = by_claim handle inode (Some index) is

    -- an inode isn't read whose claims clash with what was found
    pub no_clash : (handle : ℕ) (file : Option File) (reading : Reading) (block : Block) → IsReadSo chunks handle file reading → chunks handle ≡ Some block → block.kind ≡ 1
        → Clashes holdings handle (holder_for file) reading.claims → ⊥
    no_clash handle file reading block read chunk kind clash = clash.apart (one_holder clash.other handle clash.claim.piece
        (sym (owned clash.claim.handle clash.other (clash.put.only clash.claim.handle clash.other clash.held)) ∙ only.agrees clash.claim (clash.place, clash.there, clash.is)))
      where
        own : owner handle ≡ Inodes
        own = owns_itself handle block chunk kind

        only : IsOnly chunks owner handle (stored handle) (file_at files handle) reading.stored.inode reading.claims file
        only = read.only owner (stored handle) (file_at files handle) (stored_here handle block chunk own)

        of_inode : (f : Option File) → Inodes ≡ owner_of (holder_for f)
        of_inode None = refl
        of_inode (Some f) = refl

        owned : (at : ℕ) (held : Holder) → IsHeldAfter holdings handle (holder_for file) reading.claims clash.place at held → owner at ≡ owner_of held
        owned at held (inl was) = agrees at held was
        owned at held (inr (inl here)) = ap owner here.0 ∙ own ∙ of_inode file ∙ ap owner_of (sym here.1)
        owned at held (inr (inr claim)) =
            let less = claim.1.1 in
            let within = clash.there in
            ap owner claim.2 ∙ only.agrees claim.0 (claim.1.0, omega (arith, less, within), claim.1.2) ∙ sym (owner_same handle claim.0.piece) ∙ ap owner_of (sym claim.3)

    -- ---- a chunk that nothing has

    module _ (all_read : AreAllRead chunks holdings) (fits : (handle : ℕ) (block : Block) → chunks handle ≡ Some block → handle < 2 ^ 64) where
      -- each inode is found
      found_inode : (handle : ℕ) (block : Block) → chunks handle ≡ Some block → owner handle ≡ Inodes → IsInode (holdings handle)
      found_inode handle block chunk own = by (holdings handle) refl
        where
          kind : block.kind ≡ 1
          kind =
              let a : IsAnInode chunks owner stored files handle block = subst (IsOwned chunks owner stored files handle block) own (have.are.each handle block chunk) in
              a.inode.kind

          by : (o : Option Holder) → holdings handle ≡ o → IsInode (holdings handle)
          by None is = absurd (all_read handle block chunk kind is)
          by (Some held) is = subst IsInode (sym is) (inodes_own held (sym (agrees handle held is) ∙ own))

      first_apart : (a b : ℕ) (xs ys : List ℕ) → get_or xs 0 0 ≡ a → get_or ys 0 0 ≡ b → (a ≡ b → ⊥) → xs ≡ ys → ⊥
      first_apart a b xs ys is_a is_b apart same = apart (sym is_a ∙ ap (λ (l : List ℕ). get_or l 0 0) same ∙ is_b)

      no_content : (index : ℕ) (name : Name) (value : List ℕ) → IsOfName name (content_key index) value → ⊥
      no_content index name value (inl is) = first_apart 3 2 (content_key index) (entry_key name.number) refl refl (λ e. omega (arith, e)) is.0
      no_content index name value (inr is) = first_apart 3 1 (content_key index) (name_key name.name) refl refl (λ e. omega (arith, e)) is.0

      -- a piece that a tree names is one of its file
      content_of : (inode index : ℕ) (value : List ℕ) (file : Option File) → IsFileOr chunks owner inode (stored inode) file → (stored inode).inode.tree ≢ 0
          → value_of (map_of (stored inode).tree) (content_key index) ≡ Some value → IsContent chunks owner inode (content_key index) value
      content_of inode index value None is has_tree named = ⊎_elim (λ none. absurd (has_tree none)) (λ has. has.1 (content_key index) value named) is.tree
      content_of inode index value (Some file) is has_tree named = by file.body is.2
        where
          by : (body : Body) → HasBody chunks owner inode (stored inode) body → IsContent chunks owner inode (content_key index) value
          by (Bytes bytes) has = has.contents (content_key index) value named
          by (Path path) has = absurd (has_tree has.no_tree)
          by (Names parent next names) has =
              let name = has.entries.only (content_key index) value named in
              absurd (no_content index name.0 value name.2)

      one_index_of : (inode j k : ℕ) → DataOf inode j ≡ DataOf inode k → j ≡ k
      one_index_of inode j k e = cc

      -- each chunk is found
      pub unowned : (handle : ℕ) (block : Block) → chunks handle ≡ Some block → holdings handle ≡ None → ⊥
      unowned handle block chunk none = by (owner handle) refl (have.are.each handle block chunk)
        where
          named : (inode : ℕ) (piece : Option ℕ) → IsInode (holdings inode) → Contains (found.readings inode).claims (record { handle = handle; piece = piece }) → ⊥
          named inode piece is there = none_some (holdings handle) (holder_by inode piece) none (found.kept inode (record { handle = handle; piece = piece }) is there)

          by : (o : Owner) → owner handle ≡ o → IsOwned chunks owner stored files handle block o → ⊥
          by Inodes is owned = all_read handle block chunk owned.inode.kind none
          by (PageOf inode) is owned =
              let here = found_inode inode owned.of.block owned.of.chunk owned.of.itself in
              named inode None here ((only_here inode here).complete owned.of.has_tree handle None record { node = owned.node; there = owned.there; names = owned.names })
          by (DataOf inode index) is owned =
              let here = found_inode inode owned.of.block owned.of.chunk owned.of.itself in
              let s = stored_here inode owned.of.block owned.of.chunk owned.of.itself in
              let content = content_of inode index (content_value handle) (file_at files inode) s.file owned.of.has_tree owned.names in
              let small = fits handle block chunk in
              let same : handle ≡ content.names = one_handle handle content.names small content.names_fits content.value_is in
              let which : index ≡ content.index = one_index_of inode index content.index (sym is ∙ ap owner same ∙ content.own) in
              named inode (Some index) here ((only_here inode here).complete owned.of.has_tree handle (Some index)
              record { index_fits = subst (λ (n : ℕ). n < 2 ^ 32) (sym which) content.index_fits; handle_fits = small; names = owned.names })
