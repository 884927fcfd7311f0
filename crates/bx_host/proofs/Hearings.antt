-- What a turn hears.
use Rattle.std.proofs.Common.{◌≡◌, ◌≢◌, ℕ, List, [], ◌∷◌, ◌⊎◌, inl, inr, true, refl, ap, sym, ◌∙◌, subst, Some, Result, Ok, Err}
use Rattle.std.specs.Prelude.{IfErr}
use Rattle.bx_cluster.specs.Steps.{arrives_in}
use Rattle.bx_outside.specs.declared.datagram.Datagram.{Datagram}
use Rattle.bx_outside.specs.declared.link.LinkError.{LinkError}
use Rattle.bx_outside.specs.declared.link.LinkError.TheVariants as link_errors
use Rattle.bx_world_events.specs.Events.{reading_of}
use Rattle.bx_world_events.specs.declared.event.Event.{Event}
use Rattle.bx_host.specs.Errors.{error_of}
use Rattle.bx_host.specs.Standing.{AreAny, Ends, HostView}
use Rattle.bx_host.specs.Steps.{Place, EventStep, arrived_in, brought_in}
use Rattle.bx_host.specs.Turns.{Brings, IsServed, IsSettled, came, is_open}
use Rattle.bx_host.specs.Turns.IsServed.{Heard}
use Rattle.bx_host.specs.declared.error.HostError.{HostError}
use Rattle.bx_host.specs.declared.error.HostError.TheVariants.{Disk, Write, OutOfMemory}
use Rattle.bx_host.proofs.Ending.{ends_as}
use Rattle.bx_host.proofs.Going.{settled_as}
use Rattle.bx_host.proofs.Moving.{does_none}

-- an error of the link ends the turn where it stands
pub ends_link : (error : LinkError) (Is : Place → List EventStep → Place → Type 0) (reading : ℕ) (a : HostView) → Ends {A = Unit {0}} (Err (error_of error)) Is [] reading a a
ends_link link_errors.Fault Is reading a = does_none AreAny reading a tt
ends_link link_errors.OutOfMemory Is reading a = tt

pub link_not_write : (error : LinkError) → error_of error ≢ Write
link_not_write link_errors.Fault is = cc
link_not_write link_errors.OutOfMemory is = cc

pub two_not_write : {A : Type 0} (result : Result A HostError) → IfErr result (λ error. (error ≡ Disk) ⊎ (error ≡ OutOfMemory)) → IfErr result (λ error. error ≢ Write)
two_not_write (Ok x) why = tt
two_not_write (Err error) (inl is) = λ wrong. let e : Disk ≡ Write = sym is ∙ wrong in cc
two_not_write (Err error) (inr is) = λ wrong. let e : OutOfMemory ≡ Write = sym is ∙ wrong in cc

-- a datagram that came was handed to the node
pub ends_heard : (first reading : ℕ) (datagram : Datagram) (event : Event) (a b : HostView) (result : Result (Unit {0}) HostError)
    → is_open first a.place ≡ true → reading_of event ≡ Some reading → arrives_in event ≡ Some (record { node = 0; client = datagram.client; bytes = datagram.bytes })
    → Ends result (IsSettled (λ its. its ≡ event) reading) (brought_in event) reading a b → Ends result (λ from steps to. IsServed first reading from (Some datagram ∷ []) steps to) (came (Some datagram ∷ [])) reading a b
ends_heard first reading datagram event a b result may at arrives ends =
    ends_as (IsSettled (λ its. its ≡ event) reading) (λ from steps to. IsServed first reading from (Some datagram ∷ []) steps to) (came (Some datagram ∷ [])) reading a b result
    (λ steps it. Heard datagram may refl (settled_as (λ its. its ≡ event) (Brings reading datagram) reading a.place b.place steps (λ its is. (ap reading_of is ∙ at, ap arrives_in is ∙ arrives)) it))
    (subst (λ l. Ends result (IsSettled (λ its. its ≡ event) reading) l reading a b) (ap arrived_in arrives) ends)
