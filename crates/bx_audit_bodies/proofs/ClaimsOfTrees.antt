-- The claims of the pages of a tree and of the pieces that it names.
use Rattle.std.proofs.Common.{◌≡◌, ℕ, zero, suc, ◌<◌, ◌⊎◌, inl, inr, arith, List, [], ◌∷◌, ◌++◌, length, get_or, refl, sym, ap, ◌∙◌, subst, Option, Some, None}
use Rattle.std.specs.Prelude.{Contains, ◌≢◌, map}
use Rattle.std.proofs.lemmas.List.Elements.{Contains-append_left, Contains-append_right, Contains-append_cases}
use Rattle.bx_layout.specs.declared.inode.Inode.{Inode}
use Rattle.bx_page.specs.declared.entry.Entry.{Entry}
use Rattle.bx_page.specs.Contents.{value_of}
use Rattle.bx_truth.specs.Keys.{content_key}
use Rattle.bx_truth.specs.PageTrees.{Chunks, Node, PageTree, IsIn, IsPageOf, IsTree}
use Rattle.bx_truth.specs.Stored.{Owner, PageOf, DataOf, Stored}
use Rattle.bx_truth.proofs.OneTree.{one_map, same_pages}
use Rattle.bx_audit_pages.specs.Trees.{tree_of}
use Rattle.bx_audit_pages.proofs.Descents.{root_page_at}
use Rattle.bx_audit_bodies.specs.Claiming.{page_claim, page_claims, piece_claims}
use Rattle.bx_audit_bodies.specs.Claims.{AgreesWith, AreClaims, IsClaim, IsNamedBy, IsPieceNamed, owner_by}
use Rattle.bx_audit_bodies.specs.Pieces.{HasPiece}
use Rattle.bx_audit_bodies.specs.declared.claims.Claim.{Claim}
use Rattle.bx_audit_bodies.specs.declared.pieces.Piece.{Piece}
use Rattle.bx_audit_bodies.proofs.Members.{contains_map, from_map, in_contains, contains_in, in_none}

-- ---- pages of levels

page_in : (levels : List (List Node)) (k : ℕ) (node : Node) → IsIn node (get_or levels k []) → Contains (page_claims levels) (page_claim node)
page_in [] k node there = absurd (in_none node there)
page_in (l ∷ ls) zero node there =
    Contains-append_left (map page_claim l) (page_claims ls) (page_claim node) (contains_map page_claim l node (in_contains node l there))
page_in (l ∷ ls) (suc k) node there = Contains-append_right (map page_claim l) (page_claims ls) (page_claim node) (page_in ls k node there)

from_pages : (levels : List (List Node)) (claim : Claim) → Contains (page_claims levels) claim
    → (k : ℕ) × (node : Node) × (k < length levels) × IsIn node (get_or levels k []) × (page_claim node ≡ claim)
from_pages [] claim within = absurd (omega (arith, within.1))
from_pages (l ∷ ls) claim within = by (λ w. from_pages ls claim w) (Contains-append_cases (map page_claim l) (page_claims ls) claim within)
  where
    by : (Contains (page_claims ls) claim → (k : ℕ) × (node : Node) × (k < length ls) × IsIn node (get_or ls k []) × (page_claim node ≡ claim))
        → Contains (map page_claim l) claim ⊎ Contains (page_claims ls) claim
        → (k : ℕ) × (node : Node) × (k < length (l ∷ ls)) × IsIn node (get_or (l ∷ ls) k []) × (page_claim node ≡ claim)
    by rest (inl here) = let f = from_map page_claim l claim here in (0, f.0, omega arith, contains_in f.0 l f.1, f.2)
    by rest (inr later) = let r = rest later in (suc r.0, r.1, omega (arith, r.2), r.3, r.4)

-- the claim of a piece
abbrev piece_claim : Piece → Claim
piece_claim piece = record { handle = piece.handle; piece = Some piece.index }

-- ---- a tree, and the pieces that it names

module _ (chunks : Chunks) (root : ℕ) (levels : List (List Node)) (pieces : List Piece) (claims : List Claim) (is : IsTree chunks root (tree_of levels))
    (claims_are : claims ≡ page_claims levels ++ piece_claims pieces)
    (there : (p : Piece) → Contains pieces p → IsPieceNamed (tree_of levels) p.handle p.index)
    (back : (handle index : ℕ) → IsPieceNamed (tree_of levels) handle index → Contains pieces (record { index = index; handle = handle })) where
  pub all_claimed : (named : ℕ) (piece : Option ℕ) → IsNamedBy (tree_of levels) named piece → Contains claims (record { handle = named; piece = piece })
  all_claimed named None page =
      subst (λ (l : List Claim). Contains l (record { handle = named; piece = None })) (sym claims_are)
      (Contains-append_left (page_claims levels) (piece_claims pieces) (record { handle = named; piece = None })
      (subst (λ (n : ℕ). Contains (page_claims levels) (record { handle = n; piece = None })) page.names (page_in levels page.there.level page.node page.there.there)))
  all_claimed named (Some index) names =
      subst (λ (l : List Claim). Contains l (record { handle = named; piece = Some index })) (sym claims_are)
      (Contains-append_right (page_claims levels) (piece_claims pieces) (record { handle = named; piece = Some index })
      (contains_map piece_claim pieces (record { index = index; handle = named }) (back named index names)))

  -- each claim is that of a page or of a piece
  claimed : (claim : Claim) → Contains claims claim
      → ((node : Node) × IsPageOf (tree_of levels) node × (page_claim node ≡ claim)) ⊎ ((p : Piece) × Contains pieces p × (piece_claim p ≡ claim))
  claimed claim within = by (Contains-append_cases (page_claims levels) (piece_claims pieces) claim (subst (λ (l : List Claim). Contains l claim) claims_are within))
    where
      by : Contains (page_claims levels) claim ⊎ Contains (piece_claims pieces) claim
          → ((node : Node) × IsPageOf (tree_of levels) node × (page_claim node ≡ claim)) ⊎ ((p : Piece) × Contains pieces p × (piece_claim p ≡ claim))
      by (inl page) = let f = from_pages levels claim page in inl (f.1, record { level = f.0; within = omega (arith, f.2); there = f.3 }, f.4)
      by (inr piece) = inr (from_map piece_claim pieces claim piece)

  pub has_root : chunks 0 ≡ None → root ≢ 0
  has_root none zero_root =
      let at = root_page_at chunks root (tree_of levels) is in
      let e : None ≡ Some at.block = sym none ∙ ap chunks (sym zero_root) ∙ at.chunk in absurd cc

  pub are_claims : (inode : Inode) → inode.tree ≡ root → chunks 0 ≡ None → ((p : Piece) → Contains pieces p → HasPiece chunks p)
      → AreClaims chunks (record { inode = inode; tree = tree_of levels }) claims
  are_claims inode rooted none blocks = record { each = λ claim within. by claim (claimed claim within) }
    where
      stored : Stored
      stored = record { inode = inode; tree = tree_of levels }

      by : (claim : Claim) → ((node : Node) × IsPageOf (tree_of levels) node × (page_claim node ≡ claim)) ⊎ ((p : Piece) × Contains pieces p × (piece_claim p ≡ claim))
          → IsClaim chunks (record { inode = inode; tree = tree_of levels }) claim
      by claim (inl page) =
          let n = (is.levels page.1.level page.1.within).nodes_are page.0 page.1.there in
          subst (IsClaim chunks (record { inode = inode; tree = tree_of levels })) page.2 (record {
            block = n.block;
            chunk = n.chunk;
            kind = n.has.kind;
            has_tree = λ e. has_root none (sym rooted ∙ e);
            named = record { node = page.0; there = page.1; names = refl };
          })
      by claim (inr piece) =
          let b = blocks piece.0 piece.1 in
          subst (IsClaim chunks (record { inode = inode; tree = tree_of levels })) piece.2 (record {
            block = b.block;
            chunk = b.at.chunk;
            kind = b.at.kind_is;
            has_tree = λ e. has_root none (sym rooted ∙ e);
            named = there piece.0 piece.1;
          })

  -- who has the pages and the pieces has what is claimed
  pub agree : (owner : ℕ → Owner) (handle : ℕ) (other : PageTree) → IsTree chunks root other → ((node : Node) → IsPageOf other node → owner node.handle ≡ PageOf handle)
      → ((p : Piece) → Contains pieces p → owner p.handle ≡ DataOf handle p.index) → AgreesWith owner handle claims
  agree owner handle other other_is pages owned claim within = by (claimed claim within)
    where
      by : ((node : Node) × IsPageOf (tree_of levels) node × (page_claim node ≡ claim)) ⊎ ((p : Piece) × Contains pieces p × (piece_claim p ≡ claim))
          → owner claim.handle ≡ owner_by handle claim.piece
      by (inl page) =
          subst (λ (c : Claim). owner c.handle ≡ owner_by handle c.piece) page.2 (pages page.0 (same_pages chunks root (tree_of levels) other page.0 is other_is page.1))
      by (inr piece) = subst (λ (c : Claim). owner c.handle ≡ owner_by handle c.piece) piece.2 (owned piece.0 piece.1)

  pub complete : (other : PageTree) (named : ℕ) (piece : Option ℕ) → IsTree chunks root other → IsNamedBy other named piece → Contains claims (record { handle = named; piece = piece })
  complete other named None other_is page =
      all_claimed named None (record { node = page.node; there = same_pages chunks root other (tree_of levels) page.node other_is is page.there; names = page.names })
  complete other named (Some index) other_is names =
      all_claimed named (Some index) (record {
        index_fits = names.index_fits;
        handle_fits = names.handle_fits;
        names = ap (λ (l : List Entry). value_of l (content_key index)) (one_map chunks root (tree_of levels) other is other_is) ∙ names.names;
      })

  -- the pages are the inode's by each owner that agrees
  pub pages_own : (owner : ℕ → Owner) (handle : ℕ) → AgreesWith owner handle claims → (node : Node) → IsPageOf (tree_of levels) node → owner node.handle ≡ PageOf handle
  pages_own owner handle agrees node page =
      agrees (record { handle = node.handle; piece = None }) (all_claimed node.handle None (record { node = node; there = page; names = refl }))
