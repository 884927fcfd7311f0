-- A block is given up at what the node knows: whoever gets any block afterwards still reaches what was written.
use Rattle.std.proofs.Common.{◌≡◌, ℕ, Option, Some, sym, subst}
use Rattle.bx_facts.specs.Chains.{Chain, last}
use Rattle.bx_facts.specs.Holds.{Hold, Holds, KeepsOthers, given_floor}
use Rattle.bx_node_views.proofs.Knowing.{given_up}
use Rattle.bx_rows.specs.Words.{row_in}
use Rattle.bx_rows.specs.declared.session.SessionRow.{SessionRow}
use Rattle.bx_world_standing.specs.Rights.{IsReached}

pub given_at : (devices areas : ℕ) (chain : Chain) (IsOf : ℕ → SessionRow → Type 0) (knew : ℕ → ℕ) (node session : ℕ) (its : SessionRow) → row_in (last chain).sessions session ≡ Some its → its.dead ≡ 0 → IsOf node its
    → (old new : Holds) (floor : ℕ → ℕ) (block index : ℕ) (hold : Option Hold) → KeepsOthers session block old new → hold ≡ old session block → index ≡ knew node
    → (at i : ℕ) → IsReached devices areas chain old floor IsOf knew at i → IsReached devices areas chain new (given_floor hold floor block index) IsOf knew at i
given_at devices areas chain IsOf knew node session its is_row lives is_of old new floor block index hold keeps holds is at i was =
    subst (λ (h : Option Hold). IsReached devices areas chain new (given_floor h floor block index) IsOf knew at i) (sym holds)
    (subst (λ (n : ℕ). IsReached devices areas chain new (given_floor (old session block) floor block n) IsOf knew at i) (sym is)
    (given_up devices areas chain IsOf knew node session its is_row lives is_of old new floor block keeps at i was))
