-- What the one-machine forms are made for: no node but theirs has a session, and the state that they are made with names no boot.
use Rattle.std.proofs.Common.{◌≡◌, ℕ, zero, suc, ◌+◌, ◌≤◌, false, List, [], ◌∷◌, Option, Some, None, length, refl, ap, arith}
use Rattle.std.specs.Prelude.{if◌then◌else◌, nat_lt}
use Rattle.std.proofs.lemmas.Bool.Decides.{nat_tests}
use Rattle.bx_facts.specs.Writes.{NamesUpTo}
use Rattle.bx_format_openings.proofs.Opening.{opening_devices, opening_names}
use Rattle.bx_global.specs.declared.state.GlobalState.{GlobalState}
use Rattle.bx_plain_store.specs.Fits.{HasSessionsOf}
use Rattle.bx_plain.specs.Begin.{plain_state}
use Rattle.bx_plain.specs.Fits.{own_in}
use Rattle.bx_plain_store.specs.Out.{at}

pub no_owner : (nodes node : ℕ) → nodes ≤ node → own_in nodes node ≡ None
no_owner nodes node beyond = ap (λ t. if t then Some (node + 1) else None) (let is : nat_lt node nodes ≡ false = grind (arith, nat_tests, beyond) in is)

beyond_all : {X : Type 0} (all : List (Option X)) (node : ℕ) → length all ≤ node → at all node ≡ None
beyond_all [] node low = refl
beyond_all (one ∷ rest) zero low = absurd (omega (arith, low))
beyond_all (one ∷ rest) (suc node) low = beyond_all rest node (omega (arith, low))

pub no_writer : (s : GlobalState) (nodes : ℕ) (owns : List (Option ℕ)) (node : ℕ) → HasSessionsOf s nodes owns → nodes ≤ node → at owns node ≡ None
no_writer s nodes owns node has beyond = let long = has.long in beyond_all owns node (omega (arith, long, beyond))

pub plain_devices : (nodes devices : ℕ) → length (plain_state nodes devices).devices ≡ devices
plain_devices nodes devices = opening_devices nodes devices

pub plain_names : (nodes devices : ℕ) → NamesUpTo 0 (plain_state nodes devices)
plain_names nodes devices = record { each = (opening_names nodes devices).each }
