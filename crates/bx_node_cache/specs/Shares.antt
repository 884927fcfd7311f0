-- What is held exclusively may be had as shared.
use Rattle.std.specs.Prelude.{◌≡◌, ℕ, Bool, true, false, List, Option, Some, None, is_some}
use Rattle.std.proofs.Common.{ap, subst}
use Rattle.bx_base.specs.declared.names.Mode.{Mode}
use Rattle.bx_base.specs.declared.names.Mode.TheVariants.{Shared, Exclusive}
use Rattle.bx_layout.specs.declared.block.Block.{Block}
use Rattle.bx_node_cache.specs.Kept.{held_in, kept_in, shown, shown_of}
use Rattle.bx_node_cache.specs.declared.cache.Kept.{Kept}

abbrev IsFalse : Bool → Type 0
IsFalse false = Unit {0}
IsFalse true = ⊥

shares_mode : (mode : Mode) (block out : Block) → shown mode Exclusive block ≡ Some out → shown mode Shared block ≡ Some out
shares_mode Exclusive block out is = is
shares_mode Shared block out is = absurd (subst (λ (b : Bool). IsFalse b) (ap (λ (o : Option Block). is_some o) is) (tt {0}))

shares_of : (one : Option Kept) (out : Block) → shown_of one Exclusive ≡ Some out → shown_of one Shared ≡ Some out
shares_of None out is = absurd (subst (λ (b : Bool). IsFalse b) (ap (λ (o : Option Block). is_some o) is) (tt {0}))
shares_of (Some one) out is = shares_mode one.mode one.block out is

pub shares_held : (kept : List (ℕ × Kept)) (at : ℕ) (block : Block) → held_in kept at Exclusive ≡ Some block → held_in kept at Shared ≡ Some block
shares_held kept at block is = shares_of (kept_in kept at) block is
