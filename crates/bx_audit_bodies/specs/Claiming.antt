-- The claims that a tree's pages and pieces make, as a list.
use Rattle.std.specs.Prelude.{List, map, Some, None}
use Rattle.std.specs.List.{flat_map}
use Rattle.bx_truth.specs.PageTrees.{Node}
use Rattle.bx_audit_bodies.specs.declared.claims.Claim.{Claim}
use Rattle.bx_audit_bodies.specs.declared.pieces.Piece.{Piece}

-- the claim of a page
abbrev pub page_claim : Node → Claim
page_claim node = record { handle = node.handle; piece = None }

-- those of the pages of levels
abbrev pub page_claims : List (List Node) → List Claim
page_claims levels = flat_map (λ nodes. map page_claim nodes) levels

-- those of pieces
abbrev pub piece_claims : List Piece → List Claim
piece_claims pieces = map (λ piece. record { handle = piece.handle; piece = Some piece.index }) pieces
