-- The session of a node that is up.
use Rattle.std.proofs.Common.{◌≡◌, ℕ, Bool, true, false, Option, Some, None, refl, sym, ◌∙◌, ap}
use Rattle.std.specs.Prelude.{if◌then◌else◌}
use Rattle.bx_base.specs.declared.names.Actor.{Actor}
use Rattle.bx_base.specs.declared.names.Actor.TheVariants.{Node}
use Rattle.bx_rows.specs.Rows.{GoesOn}
use Rattle.bx_rows.specs.declared.session.SessionRow.{SessionRow}
use Rattle.bx_world_standing.specs.Parts.{Clocks}
use Rattle.bx_world_standing.specs.Sessions.{IsOfNode}
use Rattle.bx_world_standing.specs.Standing.{own_up}

pub own_of : (down : Actor → Bool) (own : ℕ → Option ℕ) (node session : ℕ) → own_up down own node ≡ Some session → (down (Node node) ≡ false) × (own node ≡ Some session)
own_of down own node session is = by (down (Node node)) refl
  where
    by : (b : Bool) → down (Node node) ≡ b → (down (Node node) ≡ false) × (own node ≡ Some session)
    by true down_is = absurd (let e : own_up down own node ≡ None = ap (λ (b : Bool). if b then None else own node) down_is in cc)
    by false up = (up, sym (ap (λ (b : Bool). if b then None else own node) up) ∙ is)

pub own_is : (down : Actor → Bool) (own : ℕ → Option ℕ) (node session : ℕ) → down (Node node) ≡ false → own node ≡ Some session → own_up down own node ≡ Some session
own_is down own node session up is = ap (λ (b : Bool). if b then None else own node) up ∙ is

-- whose a row is stays
pub of_before : (by_boot : Bool) (clocks : Clocks) (node : ℕ) (old new : SessionRow) → GoesOn old new → IsOfNode by_boot clocks node new → IsOfNode by_boot clocks node old
of_before by_boot clocks node old new goes is = record { up = is.up; of = sym goes.node ∙ is.of; boot = λ so. sym goes.boot ∙ is.boot so }
