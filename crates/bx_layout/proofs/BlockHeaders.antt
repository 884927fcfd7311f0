-- The headers of blocks.
use Rattle.std.proofs.Common.{◌≡◌, ℕ, List, take, drop, ap, ◌∙◌, refl, ◌-◌, length, arith}
use Rattle.std.specs.Int.{w32, w64, from_be_bytes}
use Rattle.std.proofs.lemmas.List.{take_at}
use Rattle.std.proofs.lemmas.Nat.{from_be_bytes-to_be_bytes_4, from_be_bytes-to_be_bytes_8}
use Rattle.bx_layout.specs.declared.block.Block.{Block}
use Rattle.bx_layout.specs.Blocks.{SpellsBlock, SpellsHeader, header_text}

-- the front of a block is its header
pub header_is : (block : Block) (bytes front : List ℕ) → SpellsBlock block bytes → front ≡ take 512 bytes → SpellsHeader block.handle block.kind front
header_is block bytes front s is = record {
  fits = s.is.handle;
  known = s.is.kind;
  own = s.is.own;
  parts = is ∙ ap (take 512) s.parts ∙ take_at (header_text block.handle block.kind) block.payload 512 refl;
}

-- what a header has at its places
pub handle_in : (handle kind : ℕ) (front : List ℕ) → SpellsHeader handle kind front → from_be_bytes w64 front ≡ handle
handle_in handle kind front s = ap (from_be_bytes w64) s.parts ∙ from_be_bytes-to_be_bytes_8 handle s.fits

kind_at : List ℕ → ℕ
kind_at front = from_be_bytes w32 (take (length front - 8) (drop 8 front))

pub kind_in : (handle kind : ℕ) (front : List ℕ) → SpellsHeader handle kind front → from_be_bytes w32 (take (length front - 8) (drop 8 front)) ≡ kind
unfolding kind_at
kind_in handle kind front s = ap kind_at s.parts ∙ from_be_bytes-to_be_bytes_4 kind (omega (arith, s.known))
