-- The bodies of inodes with trees, both ways.
use Rattle.std.proofs.Common.{◌≡◌, ℕ, ◌/◌, ◌%◌, ◌^◌, ◌<◌, ◌⊎◌, inl, inr, arith, lit<, List, [], ◌++◌, length, take, get_or, refl, sym, ap, ◌∙◌, subst, Option, Some, None}
use Rattle.std.specs.Prelude.{All, Contains, ◌≢◌, option_and_then}
use Rattle.std.proofs.lemmas.List.{take_all}
use Rattle.std.proofs.lemmas.List.Elements.{Contains-get_or}
use Rattle.bx_layout.specs.declared.block.Block.{Block}
use Rattle.bx_layout.specs.declared.inode.Inode.{Inode}
use Rattle.bx_layout.specs.Inodes.{IsInode}
use Rattle.bx_page.specs.declared.entry.Entry.{Entry}
use Rattle.bx_page.specs.Contents.{value_of, Rises}
use Rattle.bx_tree_files.specs.declared.file.Body.{Body}
use Rattle.bx_tree_files.specs.declared.file.Body.TheVariants.{Bytes, Path, Names}
use Rattle.bx_tree_files.specs.declared.file.File.{File}
use Rattle.bx_tree_files.specs.declared.file.Name.{Name}
use Rattle.bx_tree_files.specs.Entries.{AreBelow}
use Rattle.bx_tree_files.specs.Files.{IsNumbered, size_of}
use Rattle.bx_truth.specs.Keys.{content_key, content_value}
use Rattle.bx_truth.specs.PageTrees.{Chunks, Node, PageTree, IsTree, map_of, handle_in}
use Rattle.bx_truth.specs.Stored.{Owner, DataOf, Stored, HasTree, HasContents, AreBytesOf, AreNames, IsOfName, IsRegular, HasBody, byte_in, piece_of}
use Rattle.bx_truth.proofs.OneTree.{one_map}
use Rattle.bx_truth.proofs.PieceKeys.{one_index, one_handle}
use Rattle.bx_truth.proofs.Put.{is_live}
use Rattle.bx_audit_files.proofs.PairedEntries.{value_at, of_all}
use Rattle.bx_audit_files.proofs.Rising.{map_rises}
use Rattle.bx_audit_files.specs.Inodes.{IsBlockAt}
use Rattle.bx_audit_pages.specs.Trees.{tree_of}
use Rattle.bx_audit_bodies.specs.Bodies.{HasPieces, IsBodyOf, HasBodyOf, file_with}
use Rattle.bx_audit_bodies.specs.Claiming.{page_claims, piece_claims}
use Rattle.bx_audit_bodies.specs.Claims.{AgreesWith, AreClaims, IsNamedBy, IsPieceNamed}
use Rattle.bx_audit_bodies.specs.Contents.{HasClear, IsClear}
use Rattle.bx_audit_bodies.specs.Parts.{IsUnclearPiece}
use Rattle.bx_audit_bodies.specs.Pieces.{IsPieceEntry, AreApart, HasPiece, piece_among}
use Rattle.bx_audit_bodies.specs.declared.claims.Claim.{Claim}
use Rattle.bx_audit_bodies.specs.declared.pieces.Piece.{Piece}
use Rattle.bx_audit_bodies.proofs.ClaimsOfTrees.{all_claimed, are_claims, agree, complete, has_root, pages_own}
use Rattle.bx_audit_bodies.proofs.EntriesOfPieces.{apart, piece_found, names_it, entry_is, named_by}
use Rattle.bx_audit_bodies.proofs.PiecesRead.{bytes_there, no_bytes_of}

some_file : (file : File) → Some file ≡ None → ⊥
some_file file e = cc

-- ---- bodies by the kinds of inodes

module _ (chunks : Chunks) (owner : ℕ → Owner) (handle : ℕ) (inode : Inode) (tree : PageTree) where
  pub regular_is : (found : Option File) → inode.kind ≡ 1 → IsBodyOf chunks owner handle inode tree found
      → (bytes : List ℕ) × IsRegular chunks owner handle (record { inode = inode; tree = tree }) bytes × (length bytes < 2 ^ 31)
  regular_is None kind is = absurd (omega (arith, kind, is.file.kind))
  regular_is (Some file) kind is = by file.body is.file.2 is.is_file.size
    where
      by : (body : Body) → HasBody chunks owner handle (record { inode = inode; tree = tree }) body → size_of body < 2 ^ 31
          → (bytes : List ℕ) × IsRegular chunks owner handle (record { inode = inode; tree = tree }) bytes × (length bytes < 2 ^ 31)
      by (Bytes bytes) has size = (bytes, has, size)
      by (Path path) has size = absurd (omega (arith, kind, has.kind))
      by (Names parent next names) has size = absurd (omega (arith, kind, has.kind))

  pub directory_is : (found : Option File) → inode.kind ≡ 2 → IsBodyOf chunks owner handle inode tree found
      → (names : List Name) × HasTree chunks owner handle (record { inode = inode; tree = tree }) × AreNames (map_of tree) names × (inode.nlink < inode.next) × AreBelow inode.next names
  directory_is None kind is = absurd (omega (arith, kind, is.file.kind))
  directory_is (Some file) kind is = by file.body is.file.2 (subst (λ (n : ℕ). IsNumbered n file.body) (sym is.file.1.nlink) is.is_file.numbers)
    where
      by : (body : Body) → HasBody chunks owner handle (record { inode = inode; tree = tree }) body → IsNumbered inode.nlink body
          → (names : List Name) × HasTree chunks owner handle (record { inode = inode; tree = tree }) × AreNames (map_of tree) names × (inode.nlink < inode.next) × AreBelow inode.next names
      by (Bytes bytes) has numbers = absurd (omega (arith, kind, has.kind))
      by (Path path) has numbers = absurd (omega (arith, kind, has.kind))
      by (Names parent next names) has numbers =
          (names, has.tree, has.entries, subst (λ (n : ℕ). inode.nlink < n) (sym has.next_is) numbers.0, subst (λ (n : ℕ). AreBelow n names) (sym has.next_is) numbers.1)

  pub link_is : (found : Option File) → inode.kind ≡ 5 → IsBodyOf chunks owner handle inode tree found → inode.tree ≡ 0
  link_is None kind is = absurd (omega (arith, kind, is.file.kind))
  link_is (Some file) kind is = by file.body is.file.2
    where
      by : (body : Body) → HasBody chunks owner handle (record { inode = inode; tree = tree }) body → inode.tree ≡ 0
      by (Bytes bytes) has = absurd (omega (arith, kind, has.kind))
      by (Path path) has = has.no_tree
      by (Names parent next names) has = absurd (omega (arith, kind, has.kind))

  pub dead_is : (found : Option File) → inode.kind ≡ 0 → IsBodyOf chunks owner handle inode tree found
      → (inode.tree ≡ 0) ⊎ (HasTree chunks owner handle (record { inode = inode; tree = tree }) × HasContents chunks owner handle (record { inode = inode; tree = tree }))
  dead_is None kind is = is.file.tree
  dead_is (Some file) kind is = absurd (is_live chunks owner handle (record { inode = inode; tree = tree }) file.body is.file.2 kind)

-- ---- bytes off pieces that are the same

pub bytes_as : (pieces other : ℕ → Option Block) (size tail : ℕ) (bytes : List ℕ) → size < 2 ^ 31 → ((index : ℕ) → index < 2 ^ 32 → other index ≡ pieces index)
    → AreBytesOf pieces size tail bytes → AreBytesOf other size tail bytes
bytes_as pieces other size tail bytes small same are = record {
  long = are.long;
  each = λ place less. are.each place less ∙ sym (ap (λ (o : Option Block). byte_in o (place % 4096)) (same (place / 4096) (omega (arith, less, are.long, small))));
  cleared = λ index place fits less past. ap (λ (o : Option Block). byte_in o place) (same index fits) ∙ are.cleared index place fits less past;
}

-- ---- what an inode's tree says of the entries

module _ (chunks : Chunks) (owner : ℕ → Owner) (handle : ℕ) (stored : Stored) (has : HasTree chunks owner handle stored) (contents : HasContents chunks owner handle stored) where
  -- each entry is a piece's
  pub all_pieces : All IsPieceEntry (map_of stored.tree)
  all_pieces k d less =
      let entries = map_of stored.tree in
      let e = get_or entries k d in
      let c = contents e.key e.value (value_at entries (map_rises chunks stored.inode.tree stored.tree has.is) k d less) in
      record {
        piece = record { index = c.index; handle = c.names };
        is = record { index_fits = c.index_fits; handle_fits = c.names_fits; key = c.key_is; value = c.value_is };
      }

  -- a piece that an entry names has a block, and is the inode's own
  pub piece_own : (piece : Piece) → piece.index < 2 ^ 32 → piece.handle < 2 ^ 64 → value_of (map_of stored.tree) (content_key piece.index) ≡ Some (content_value piece.handle)
      → HasPiece chunks piece × (owner piece.handle ≡ DataOf handle piece.index)
  piece_own piece index_fits handle_fits names =
      let c = contents (content_key piece.index) (content_value piece.handle) names in
      let index : c.index ≡ piece.index = one_index c.index piece.index c.index_fits index_fits (sym c.key_is) in
      let names_same : c.names ≡ piece.handle = one_handle c.names piece.handle c.names_fits handle_fits (sym c.value_is) in (
        record { block = c.block; at = record { chunk = ap chunks (sym names_same) ∙ c.chunk; kind_is = c.kind } },
        ap owner (sym names_same) ∙ c.own ∙ ap (DataOf handle) index,
      )

-- a dead inode with a tree has one whose entries are those of pieces
pub dead_pieces : (chunks : Chunks) (owner : ℕ → Owner) (handle : ℕ) (inode : Inode) (tree : PageTree) (found : Option File) → inode.kind ≡ 0 → inode.tree ≢ 0
    → IsBodyOf chunks owner handle inode tree found → IsTree chunks inode.tree tree × All IsPieceEntry (map_of tree)
dead_pieces chunks owner handle inode tree found kind some body = by (dead_is chunks owner handle inode tree found kind body)
  where
    by : (inode.tree ≡ 0) ⊎ (HasTree chunks owner handle (record { inode = inode; tree = tree }) × HasContents chunks owner handle (record { inode = inode; tree = tree }))
        → IsTree chunks inode.tree tree × All IsPieceEntry (map_of tree)
    by (inl no_tree) = absurd (some no_tree)
    by (inr has) = (has.0.is, all_pieces chunks owner handle (record { inode = inode; tree = tree }) has.0 has.1)

-- ---- a tree of pieces, as it was read

module _ (chunks : Chunks) (none : chunks 0 ≡ None) (inode : Inode) (pieces : List Piece) (claims : List Claim) (read : HasPieces chunks inode.tree pieces claims) where
  abbrev tree : PageTree
  tree = tree_of read.levels

  rises : Rises (map_of (tree_of read.levels))
  rises = map_rises chunks inode.tree (tree_of read.levels) read.is

  pub apart_read : AreApart pieces
  apart_read = apart (map_of (tree_of read.levels)) pieces rises read.are_pieces

  there : (p : Piece) → Contains pieces p → IsPieceNamed (tree_of read.levels) p.handle p.index
  there p within = let n = names_it (map_of (tree_of read.levels)) pieces p rises read.are_pieces within in record { index_fits = n.0; handle_fits = n.1; names = n.2 }

  back : (handle index : ℕ) → IsPieceNamed (tree_of read.levels) handle index → Contains pieces (record { index = index; handle = handle })
  back handle index named = named_by (map_of (tree_of read.levels)) pieces handle index read.are_pieces named.index_fits named.handle_fits named.names

  -- the pieces are there by any other tree, and have the same owner
  module _ (owner : ℕ → Owner) (handle : ℕ) (other : PageTree)
      (has : HasTree chunks owner handle (record { inode = inode; tree = other })) (contents : HasContents chunks owner handle (record { inode = inode; tree = other })) where
    one_piece : (p : Piece) → Contains pieces p → HasPiece chunks p × (owner p.handle ≡ DataOf handle p.index)
    one_piece p within =
        let n = names_it (map_of (tree_of read.levels)) pieces p rises read.are_pieces within in
        piece_own chunks owner handle (record { inode = inode; tree = other }) has contents p n.0 n.1
        (ap (λ (l : List Entry). value_of l (content_key p.index)) (one_map chunks inode.tree other (tree_of read.levels) has.is read.is) ∙ n.2)

    pub pieces_there : All (HasPiece chunks) pieces
    pieces_there k d less = (one_piece (get_or pieces k d) (Contains-get_or pieces k d less)).0

    pub pieces_agree : AgreesWith owner handle claims
    pieces_agree = agree chunks inode.tree read.levels pieces claims read.is read.claims_are there back owner handle other has.is has.pages (λ p within. (one_piece p within).1)

  -- ---- with blocks for all pieces

  module _ (blocks : All (HasPiece chunks) pieces) where
    tree_own : (owner : ℕ → Owner) (handle : ℕ) → AgreesWith owner handle claims → HasTree chunks owner handle (record { inode = inode; tree = tree_of read.levels })
    tree_own owner handle agrees = record { is = read.is; pages = pages_own chunks inode.tree read.levels pieces claims read.is read.claims_are there back owner handle agrees }

    contents_own : (owner : ℕ → Owner) (handle : ℕ) → AgreesWith owner handle claims → HasContents chunks owner handle (record { inode = inode; tree = tree_of read.levels })
    contents_own owner handle agrees key value is =
        let e = entry_is (map_of (tree_of read.levels)) pieces key value read.are_pieces is in
        let b = of_all (HasPiece chunks) pieces e.0 blocks e.1 in
        record {
          index = e.0.index;
          names = e.0.handle;
          block = b.block;
          index_fits = e.2;
          names_fits = e.3;
          key_is = e.4;
          value_is = e.5;
          chunk = b.at.chunk;
          kind = b.at.kind_is;
          own = agrees (record { handle = e.0.handle; piece = Some e.0.index })
              (all_claimed chunks inode.tree read.levels pieces claims read.is read.claims_are there back e.0.handle (Some e.0.index) (there e.0 e.1));
        }

    claims_there : AreClaims chunks (record { inode = inode; tree = tree_of read.levels }) claims
    claims_there =
        are_claims chunks inode.tree read.levels pieces claims read.is read.claims_are there back inode refl none (λ p within. of_all (HasPiece chunks) pieces p blocks within)

    all_named : inode.tree ≢ 0 → (other : PageTree) (named : ℕ) (piece : Option ℕ) → IsTree chunks inode.tree other → IsNamedBy other named piece
        → Contains claims (record { handle = named; piece = piece })
    all_named some other named piece other_is names = complete chunks inode.tree read.levels pieces claims read.is read.claims_are there back other named piece other_is names

    -- the inode is dead
    pub dead_read : (handle : ℕ) → inode.kind ≡ 0 → HasBodyOf chunks handle inode None claims
    dead_read handle kind = record {
      tree = tree_of read.levels;
      dead = (λ zero. refl, λ none. kind);
      is = λ owner agrees. record { file = record { kind = kind; tree = inr (tree_own owner handle agrees, contents_own owner handle agrees) }; is_file = tt };
      are_claims = claims_there;
      agrees = λ owner other found body. by owner other (dead_is chunks owner handle inode other found kind body);
      complete = all_named;
    }
      where
        by : (owner : ℕ → Owner) (other : PageTree)
            → (inode.tree ≡ 0) ⊎ (HasTree chunks owner handle (record { inode = inode; tree = other }) × HasContents chunks owner handle (record { inode = inode; tree = other }))
            → AgreesWith owner handle claims
        by owner other (inl no_tree) = absurd (has_root chunks inode.tree read.levels pieces claims read.is read.claims_are there back none no_tree)
        by owner other (inr has) = pieces_agree owner handle other has.0 has.1

    -- the inode is a regular file's
    pub regular_read : (handle : ℕ) (bytes : List ℕ) → IsInode inode → inode.kind ≡ 1 → inode.size < 2 ^ 31
        → AreBytesOf (piece_among chunks pieces) inode.size inode.tail bytes → HasBodyOf chunks handle inode (Some (file_with handle inode (Bytes bytes))) claims
    regular_read handle bytes is_inode kind small are = record {
      tree = tree_of read.levels;
      dead = (λ zero. absurd (omega (arith, zero, kind)), λ no_file. absurd (some_file (file_with handle inode (Bytes bytes)) no_file));
      is = λ owner agrees. record {
        file = (
          refl,
          record { kind = refl; mode = refl; nlink = refl; uid = refl; gid = refl; atime = refl; mtime = refl; ctime = refl },
          record {
            kind = kind;
            tree = tree_own owner handle agrees;
            contents = contents_own owner handle agrees;
            bytes_are = bytes_as (piece_among chunks pieces) (piece_of chunks (tree_of read.levels)) inode.size inode.tail bytes small
                (λ index fits. piece_found chunks index fits (map_of (tree_of read.levels)) pieces read.are_pieces) are;
          },
        );
        is_file = record { kind = kind; mode = is_inode.mode; size = subst (λ (n : ℕ). n < 2 ^ 31) (sym are.long) small; numbers = tt };
      };
      are_claims = claims_there;
      agrees = λ owner other found body. let r = regular_is chunks owner handle inode other found kind body in pieces_agree owner handle other r.1.tree r.1.contents;
      complete = all_named;
    }

  -- by whatever tree the inode is dead, the pieces have blocks
  pub dead_blocks : (owner : ℕ → Owner) (handle : ℕ) (other : PageTree) (found : Option File) → inode.kind ≡ 0 → inode.tree ≢ 0 → IsBodyOf chunks owner handle inode other found → All (HasPiece chunks) pieces
  dead_blocks owner handle other found kind some body = by (dead_is chunks owner handle inode other found kind body)
    where
      by : (inode.tree ≡ 0) ⊎ (HasTree chunks owner handle (record { inode = inode; tree = other }) × HasContents chunks owner handle (record { inode = inode; tree = other }))
          → All (HasPiece chunks) pieces
      by (inl no_tree) = absurd (some no_tree)
      by (inr has) = pieces_there owner handle other has.0 has.1

  -- whatever file the inode is of: its pieces have blocks, and its bytes are theirs
  pub regular_bytes : (owner : ℕ → Owner) (handle : ℕ) (other : PageTree) (found : Option File) → inode.kind ≡ 1 → IsBodyOf chunks owner handle inode other found
      → (bytes : List ℕ) × All (HasPiece chunks) pieces × AreBytesOf (piece_among chunks pieces) inode.size inode.tail bytes
  regular_bytes owner handle other found kind body =
      let r = regular_is chunks owner handle inode other found kind body in
      let maps = one_map chunks inode.tree other (tree_of read.levels) r.1.tree.is read.is in (
        r.0,
        pieces_there owner handle other r.1.tree r.1.contents,
        bytes_as (piece_of chunks other) (piece_among chunks pieces) inode.size inode.tail r.0 (omega (arith, r.2, r.1.bytes_are.long))
            (λ index fits. sym (piece_found chunks index fits (map_of (tree_of read.levels)) pieces read.are_pieces)
            ∙ sym (ap (λ (l : List Entry). option_and_then (λ value. chunks (handle_in value)) (value_of l (content_key index))) maps)) r.1.bytes_are,
      )

  -- where a piece has no clear block, it is of none
  pub unclear_not : (owner : ℕ → Owner) (handle : ℕ) (other : PageTree) (found : Option File) (wanted : ℕ) → inode.kind ≡ 1 → IsUnclearPiece chunks pieces inode.tail wanted
      → IsBodyOf chunks owner handle inode other found → ⊥
  unclear_not owner handle other found wanted kind torn body =
      let r = regular_bytes owner handle other found kind body in
      let p = torn.piece in
      let k = torn.there.0 in
      let here : get_or pieces k p ≡ p = torn.there.2 in
      let fits : (get_or pieces k p).index < 2 ^ 32 = subst (λ (q : Piece). q.index < 2 ^ 32) (sym here) (there p torn.there).index_fits in
      no_bytes_of chunks pieces k p torn.there.1 inode.size inode.tail r.0 apart_read fits
      (subst (λ (q : Piece). (block : Block) → IsBlockAt chunks q.handle 3 block → IsClear inode.tail q.index block.payload → ⊥) (sym here) torn.wrong) r.1 r.2

  -- where each piece has one, it is of some file
  pub clear_read : (handle : ℕ) → IsInode inode → inode.kind ≡ 1 → inode.size < 2 ^ 31 → All (HasClear chunks inode.tail) pieces → (file : File) × HasBodyOf chunks handle inode (Some file) claims
  clear_read handle is_inode kind small clear =
      let blocks : All (HasPiece chunks) pieces = λ k d less. record { block = (clear k d less).block; at = (clear k d less).at } in
      let b = bytes_there chunks pieces inode.size inode.tail apart_read clear (length pieces) (omega arith) in
      let all : take (length pieces) pieces ≡ pieces = take_all (length pieces) pieces (omega arith) in (
        file_with handle inode (Bytes b.0),
        regular_read blocks handle b.0 is_inode kind small (subst (λ (l : List Piece). AreBytesOf (piece_among chunks l) inode.size inode.tail b.0) all b.1),
      )

-- ---- a directory's tree, as it was read

module _ (chunks : Chunks) (none : chunks 0 ≡ None) (inode : Inode) (levels : List (List Node)) (claims : List Claim) (names : List Name) (is : IsTree chunks inode.tree (tree_of levels))
    (claims_are : claims ≡ page_claims levels ++ piece_claims []) (are : AreNames (map_of (tree_of levels)) names) where
  no_piece : (p : Piece) → Contains {X = Piece} [] p → IsPieceNamed (tree_of levels) p.handle p.index
  no_piece p within = absurd (omega (arith, within.1))

  not_named : (handle index : ℕ) → IsPieceNamed (tree_of levels) handle index → Contains {X = Piece} [] (record { index = index; handle = handle })
  not_named handle index named = by (are.only (content_key index) (content_value handle) named.names)
    where
      by : (name : Name) × Contains names name × IsOfName name (content_key index) (content_value handle) → Contains {X = Piece} [] (record { index = index; handle = handle })
      by (name, within, inl (key, value)) = let wrong : 3 ≡ 2 = ap (λ (l : List ℕ). get_or l 0 0) key in absurd (omega (arith, wrong))
      by (name, within, inr (key, value)) = let wrong : 3 ≡ 1 = ap (λ (l : List ℕ). get_or l 0 0) key in absurd (omega (arith, wrong))

  pub directory_read : (handle : ℕ) → IsInode inode → inode.kind ≡ 2 → inode.nlink < inode.next → AreBelow inode.next names
      → HasBodyOf chunks handle inode (Some (file_with handle inode (Names inode.parent inode.next names))) claims
  directory_read handle is_inode kind fewer below = record {
    tree = tree_of levels;
    dead = (λ zero. absurd (omega (arith, zero, kind)), λ no_file. absurd (some_file (file_with handle inode (Names inode.parent inode.next names)) no_file));
    is = λ owner agrees. record {
      file = (
        refl,
        record { kind = refl; mode = refl; nlink = refl; uid = refl; gid = refl; atime = refl; mtime = refl; ctime = refl },
        record {
          kind = kind;
          tree = record { is = is; pages = pages_own chunks inode.tree levels [] claims is claims_are no_piece not_named owner handle agrees };
          parent_is = refl;
          next_is = refl;
          entries = are;
        },
      );
      is_file = record { kind = kind; mode = is_inode.mode; size = lit< tt; numbers = (fewer, below) };
    };
    are_claims = are_claims chunks inode.tree levels [] claims is claims_are no_piece not_named inode refl none (λ p within. absurd (omega (arith, within.1)));
    agrees = λ owner other found body.
        let d = directory_is chunks owner handle inode other found kind body in
        agree chunks inode.tree levels [] claims is claims_are no_piece not_named owner handle other d.1.is d.1.pages (λ p within. absurd (omega (arith, within.1)));
    complete = λ some other named piece other_is names. complete chunks inode.tree levels [] claims is claims_are no_piece not_named other named piece other_is names;
  }

-- ---- no tree

abbrev no_pages : PageTree
no_pages = record { height = 0; level = λ level. [] }

module _ (chunks : Chunks) (handle : ℕ) (inode : Inode) (claims : List Claim) (no_claims : claims ≡ []) (no_tree : inode.tree ≡ 0) where
  nothing : (claim : Claim) → Contains claims claim → ⊥
  nothing claim within = let c = subst (λ (l : List Claim). Contains l claim) no_claims within in absurd (omega (arith, c.1))

  pub dead_alone : inode.kind ≡ 0 → HasBodyOf chunks handle inode None claims
  dead_alone kind = record {
    tree = no_pages;
    dead = (λ zero. refl, λ none. kind);
    is = λ owner agrees. record { file = record { kind = kind; tree = inl no_tree }; is_file = tt };
    are_claims = record { each = λ claim within. absurd (nothing claim within) };
    agrees = λ owner other found body claim within. absurd (nothing claim within);
    complete = λ some other named piece other_is names. absurd (some no_tree);
  }

  pub link_read : IsInode inode → inode.kind ≡ 5 → HasBodyOf chunks handle inode (Some (file_with handle inode (Path inode.path))) claims
  link_read is_inode kind = record {
    tree = no_pages;
    dead = (λ zero. absurd (omega (arith, zero, kind)), λ no_file. absurd (some_file (file_with handle inode (Path inode.path)) no_file));
    is = λ owner agrees. record {
      file = (refl, record { kind = refl; mode = refl; nlink = refl; uid = refl; gid = refl; atime = refl; mtime = refl; ctime = refl }, record { kind = kind; no_tree = no_tree; path_is = refl });
      is_file = record { kind = kind; mode = is_inode.mode; size = short; numbers = tt };
    };
    are_claims = record { each = λ claim within. absurd (nothing claim within) };
    agrees = λ owner other found body claim within. absurd (nothing claim within);
    complete = λ some other named piece other_is names. absurd (some no_tree);
  }
    where
      short : length inode.path < 2 ^ 31
      short = omega (arith, is_inode.path)
