-- Datagrams that are sent one after the other.
use Rattle.std.specs.Prelude.{◌≡◌, ◌⊎◌, ℕ, ◌+◌, ◌-◌, ◌^◌, List, ◌++◌, length, min, Result, Ok, Err, IfErr, IsErrOf}
use Rattle.bx_base.specs.Faults.{Rose}
use Rattle.bx_outside.specs.declared.datagram.Datagram.{Datagram}
use Rattle.bx_outside.specs.declared.link.Link as links
use Rattle.bx_host.specs.Hearing.{KeepsLink}
use Rattle.bx_host.specs.declared.error.HostError.{HostError}
use Rattle.bx_host.specs.declared.error.HostError.TheVariants.{Link, OutOfMemory}

-- Some were sent, from the front, behind what was.
abbrev pub SendsFront : List Datagram → List Datagram → List Datagram → Type 0
SendsFront all old new = (front : List Datagram) × (back : List Datagram) × (all ≡ front ++ back) × (new ≡ old ++ front)

-- All were sent; after an error, some.
abbrev pub SendsAll : {A : Type 0} → Result A HostError → List Datagram → List Datagram → List Datagram → Type 0
SendsAll (Ok _) all old new = new ≡ old ++ all
SendsAll (Err _) all old new = SendsFront all old new

module _ {L A : Type 0} (li : links.Ghosts L) (old new : L) where
  -- These are sent, and nothing is asked of the link.
  pub record Sends (all : List Datagram) (result : Result A HostError) : Type 0 where
    pub sends : li.tells old → SendsAll result all (li.sent old) (li.sent new)
    pub given : li.tells old → li.given new ≡ li.given old

  -- It ends early only where the link fails, which counts a fault then, or for want of memory.
  pub record FailsLink (result : Result A HostError) : Type 0 where
    pub why : IfErr result (λ error. (error ≡ Link) ⊎ (error ≡ OutOfMemory))
    pub cause : IsErrOf result Link → Rose (li.faults old) (li.faults new)
    pub keeps : KeepsLink li old new

-- a count with these, or the greatest of 64 bits
abbrev pub counted : ℕ → List Datagram → ℕ
counted count all = min (count + length all) (2 ^ 64 - 1)
