-- The laws of owners.
use Rattle.std.specs.Prelude.{◌≡◌, ◌≢◌, ⊤, ℕ, ◌+◌, max, Contains, zero, suc, slice_index_or, ◌<◌, ◌≤◌, Bool, true, false, List, [], ◌∷◌, Option, Some, None, IfSome, IsSome, IsSomeAnd, ◌==◌, length, if◌then◌else◌}
use Rattle.std.proofs.Common.{refl, sym, ap, subst, ◌∙◌, arith, inl, inr}
use Rattle.std.proofs.lemmas.Bool.{cases_lt}
use Rattle.std.proofs.lemmas.Bool.Decides.{nat_tests}
use Rattle.bx_base.specs.declared.names.Mode.TheVariants.{Shared}
use Rattle.bx_clerk.specs.Clerks.{Clerking, end_as, until_in, until_of}
use Rattle.bx_clerk.specs.Requests.{hold_of, request_in}
use Rattle.bx_base.specs.declared.names.Actor.TheVariants.{Node}
use Rattle.bx_facts.specs.Chains.{HasOwnBoot, HasRow, IsOwnersOwn, LivesIn, last, number_in, oldest, opened_at, session_of}
use Rattle.bx_facts.specs.Holds.{Hold, OwnersPast, found_owners, leased, opening_owners, owners_grown}
use Rattle.bx_facts.specs.Holds.{hold_of as held_by}
use Rattle.bx_facts.specs.Inputs.{AreAmong, IsOwners}
use Rattle.bx_global.specs.Allowed.{IsAllowed}
use Rattle.bx_global.specs.Table.{IsLegal}
use Rattle.bx_global.specs.declared.change.Change.{Change}
use Rattle.bx_global.specs.declared.state.GlobalState.{GlobalState}
use Rattle.bx_lock_machines.proofs.Growing as growing
use Rattle.bx_lock_machines.proofs.Laws as laws
use Rattle.bx_lock_machines.proofs.Starting as starting
use Rattle.bx_lock_machines.proofs.Stopping.{IsIdle}
use Rattle.bx_post.specs.declared.packets.Letter.{Letter}
use Rattle.bx_rows.specs.declared.session.SessionRow.{SessionRow}
use Rattle.bx_rows.specs.Rows.{is_of}
use Rattle.bx_rows.specs.Words.{live_in, row_in}
use Rattle.bx_locks.specs.Machines.{AreMade, LockMachines, clerk_of, master_of, no_clerk, nodes_of}
use Rattle.bx_locks.specs.Meanings.{AreNew, IsFor}
use Rattle.bx_lock_machines.specs.Keeps.{Keeps}

pub ends : (o : LockMachines) (past : OwnersPast) (node session : ℕ) → Keeps (nodes_of o) (master_of o) (clerk_of o) past → (clerk_of o node).session ≡ Some session → IsSome (end_as (clerk_of o node).session (clerk_of o node).lease)
ends o past node session keeps own = subst (λ (k : Option ℕ). IsSome (end_as k (clerk_of o node).lease)) (sym own) refl

pub ends_none : (o : LockMachines) (past : OwnersPast) (node : ℕ) → Keeps (nodes_of o) (master_of o) (clerk_of o) past → (clerk_of o node).session ≡ None → end_as (clerk_of o node).session (clerk_of o node).lease ≡ None
ends_none o past node keeps none = ap (λ (k : Option ℕ). end_as k (clerk_of o node).lease) none

-- behind the last clerk there is none
pub nobody : (clerks : List Clerking) (place : ℕ) (none : Clerking) → length clerks ≤ place → slice_index_or clerks place none ≡ none
nobody [] place none beyond = refl
nobody (one ∷ clerks) zero none beyond = absurd (omega (arith, beyond))
nobody (one ∷ clerks) (suc place) none beyond = nobody clerks place none (omega (arith, beyond))

-- a new clerk has the session of its node
pub begins_own : (o : LockMachines) (nodes : ℕ) (s : GlobalState) (node : ℕ) → AreNew o → IsFor nodes s o → node < nodes → (clerk_of o node).session ≡ session_of s node 0
begins_own o nodes s node new is there = ap (λ (c : Clerking). c.session) (is.made.clerks node there)

-- a session that a state tells has a row, whose end is told
end_told : (s : GlobalState) (node session : ℕ) → session_of s node 0 ≡ Some session → IsSomeAnd (row_in s.sessions session) (λ row. IfSome (end_as (session_of s node 0) (until_of s (session_of s node 0))) (λ end. row.until ≤ end))
end_told s node session own = subst (λ (k : Option ℕ). IsSomeAnd (row_in s.sessions session) (λ row. IfSome (end_as k (until_of s k)) (λ end. row.until ≤ end))) (sym own) (by_row (row_in s.sessions session) (has_row s.sessions own))
  where
    by_row : (o : Option SessionRow) → IsSome o → IsSomeAnd o (λ row. row.until ≤ until_in o)
    by_row None is = absurd cc
    by_row (Some row) is = omega arith

    has_row : (rows : List SessionRow) → number_in (live_in rows node 0) ≡ Some session → IsSome (row_in rows session)
    has_row [] is = absurd cc
    has_row (row ∷ rows) is = by_tests (is_of node 0 row) (row.number == session) refl (has_row rows) is
      where
        by_tests : (t u : Bool) → (row.number == session) ≡ u → (number_in (live_in rows node 0) ≡ Some session → IsSome (row_in rows session)) → number_in (if t then Some row else live_in rows node 0) ≡ Some session → IsSome (if u then Some row else row_in rows session)
        by_tests t true is more own = refl
        by_tests true false is more own = let same : row.number ≡ session = cc in absurd (grind (arith, nat_tests, is, same))
        by_tests false false is more own = more own

pub begins_end : (o : LockMachines) (nodes : ℕ) (s : GlobalState) (node session : ℕ) → AreNew o → IsFor nodes s o → (clerk_of o node).session ≡ Some session
    → IsSomeAnd (row_in s.sessions session) (λ row. IfSome (end_as (clerk_of o node).session (clerk_of o node).lease) (λ end. row.until ≤ end))
begins_end o nodes s node session new is own = elim (cases_lt node nodes) [
  | inl there ↦ subst (λ (c : Clerking). IsSomeAnd (row_in s.sessions session) (λ row. IfSome (end_as c.session c.lease) (λ end. row.until ≤ end))) (sym (is.made.clerks node there))
      (end_told s node session (sym (ap (λ (c : Clerking). c.session) (is.made.clerks node there)) ∙ own))
  | inr beyond ↦ absurd (none (sym (ap (λ (c : Clerking). c.session) (nobody o.clerks node (no_clerk node) (past_all is.made.nodes_are beyond))) ∙ own))
]
  where
    none : None ≡ Some session → ⊥
    none e = cc

    past_all : nodes_of o ≡ nodes → nodes ≤ node → nodes_of o ≤ node
    past_all e low = omega (arith, e, low)

-- ---- what holds of what was done

abbrev IsKept : LockMachines → OwnersPast → Type 0
IsKept o past = Keeps (nodes_of o) (master_of o) (clerk_of o) past

pub held : (o : LockMachines) (past : OwnersPast) (node block : ℕ) → IsKept o past → hold_of (request_in (clerk_of o node).requests block) ≡ held_by (clerk_of o node).session past.holding block
held o past node block keeps = laws.held (nodes_of o) (master_of o) (clerk_of o) past node block keeps

pub leases : (o : LockMachines) (past : OwnersPast) (node session end : ℕ) → IsKept o past → (clerk_of o node).session ≡ Some session → end_as (clerk_of o node).session (clerk_of o node).lease ≡ Some end → IsKept o (leased past session end)
leases o past node session end keeps own is = laws.leases (nodes_of o) (master_of o) (clerk_of o) past node session end keeps own is

pub lives : (o : LockMachines) (past : OwnersPast) (session end : ℕ) → IsKept o past → Contains past.leases (session, end) → past.told.greatest ≤ end + 500 → LivesIn (last past.told.chain) session
lives o past session end keeps has less = laws.lives (nodes_of o) (master_of o) (clerk_of o) past session end keeps has less

pub apart : (o : LockMachines) (past : OwnersPast) (session other block : ℕ) (hold other_hold : Hold) → IsKept o past → HasRow (last past.told.chain) session → HasRow (last past.told.chain) other → other ≢ session
    → past.holding session block ≡ Some hold → past.holding other block ≡ Some other_hold → (hold.0 ≡ Shared) × (other_hold.0 ≡ Shared)
apart o past session other block hold other_hold keeps row other_row differ holds also = laws.apart (nodes_of o) (master_of o) (clerk_of o) past session other block hold other_hold keeps row other_row differ holds also

pub alone : (o : LockMachines) (past : OwnersPast) (session other block : ℕ) (hold : Hold) → IsKept o past → LivesIn (last past.told.chain) session → HasRow (last past.told.chain) other → past.holding session block ≡ Some hold → oldest past.told.chain ≤ other
alone o past session other block hold keeps live row holds = laws.alone (nodes_of o) (master_of o) (clerk_of o) past session other block hold keeps live row holds

pub reaches : (o : LockMachines) (past : OwnersPast) (session block : ℕ) (hold : Hold) → IsKept o past → LivesIn (last past.told.chain) session → past.holding session block ≡ Some hold → past.floor block ≤ max hold.1 (opened_at past.told.chain session)
reaches o past session block hold keeps live holds = laws.reaches (nodes_of o) (master_of o) (clerk_of o) past session block hold keeps live holds

-- each boot with which a node may start next is above those of its sessions
pub above : (o : LockMachines) (past : OwnersPast) (boot session : ℕ) (row : SessionRow) → IsKept o past → row_in (last past.told.chain).sessions session ≡ Some row → past.told.boots (Node row.node) < boot → HasOwnBoot past.told.chain boot → row.boot < boot
above o past boot session row keeps has greater own = laws.above (nodes_of o) (master_of o) (clerk_of o) past boot session row keeps has greater own

pub was_opened : (o : LockMachines) (past : OwnersPast) (node session : ℕ) → IsKept o past → (clerk_of o node).session ≡ Some session → session < (last past.told.chain).next_session
was_opened o past node session keeps own = laws.was_opened (nodes_of o) (master_of o) (clerk_of o) past node session keeps own

pub grows : (o : LockMachines) (past : OwnersPast) (change : Change) → IsKept o past → IsLegal (last past.told.chain) change → IsOwnersOwn past.told.handed change → IsKept o (owners_grown past change)
grows o past change keeps legal own = growing.grows (nodes_of o) (master_of o) (clerk_of o) past change keeps legal own

pub loses : (o : LockMachines) (past : OwnersPast) (letters : List Letter) → IsKept o past → AreAmong IsOwners letters past.told.letters → IsKept o (record past { told = record past.told { letters = letters } })
loses o past letters keeps fewer = laws.loses (nodes_of o) (master_of o) (clerk_of o) past letters keeps fewer

-- ---- new ones

pub no_clerk_idle : (node : ℕ) → IsIdle (no_clerk node)
no_clerk_idle node = record { session = refl; requests = refl; drawn_fits = omega arith; given_fits = omega arith; knows_fits = omega arith }

new_ones : (o : LockMachines) (nodes : ℕ) (s : GlobalState) → AreMade nodes s o → starting.AreNew (nodes_of o) (master_of o) (clerk_of o) s
new_ones o nodes s made = record {
  masters_are = made.masters;
  clerks_are = λ node less. made.clerks node (subst (λ (n : ℕ). node < n) made.nodes_are less);
  others = λ node beyond. subst IsIdle (sym (nobody o.clerks node (no_clerk node) beyond)) (no_clerk_idle node);
}

pub begins : (o : LockMachines) (nodes : ℕ) (s : GlobalState) → AreNew o → IsFor nodes s o → IsAllowed s → IsKept o (opening_owners s)
begins o nodes s new is allowed = starting.begins (nodes_of o) (master_of o) (clerk_of o) s (new_ones o nodes s is.made) allowed is.start

pub finds : (o : LockMachines) (nodes : ℕ) (made s : GlobalState) (boot : ℕ) → AreNew o → ⊤ → IsFor nodes made o → made.sessions ≡ [] → IsAllowed s → IsKept o (found_owners s boot)
finds o nodes made s boot new separate is none allowed = starting.finds (nodes_of o) (master_of o) (clerk_of o) made s boot (new_ones o nodes made is.made) none is.index_fits allowed
