-- Blocks that are there, and none.
use Rattle.std.proofs.Common.{◌≡◌, Option, Some, None, refl, sym, ◌∙◌}
use Rattle.std.specs.Prelude.{option_map}
use Rattle.bx_layout.specs.declared.block.Block.{Block}

-- a block isn't there and there
pub none_some : (o : Option Block) (block : Block) → o ≡ None → o ≡ Some block → ⊥
none_some o block none some = let e : None ≡ Some block = sym none ∙ some in cc

pub unmapped : (f : Block → Block) (o : Option Block) → option_map f o ≡ None → o ≡ None
unmapped f None e = refl
unmapped f (Some block) e = absurd cc

pub some_there : (f : Block → Block) (o : Option Block) (block : Block) → option_map f o ≡ Some block → (held : Block) × (o ≡ Some held) × (f held ≡ block)
some_there f None block e = absurd cc
some_there f (Some held) block e = (held, refl, cc)

pub some_same : (o : Option Block) (x y : Block) → o ≡ Some x → o ≡ Some y → x ≡ y
some_same o x y a b = let both : Some x ≡ Some y = sym a ∙ b in cc
