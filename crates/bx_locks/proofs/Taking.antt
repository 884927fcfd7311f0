-- What an event makes of all machines.
use Rattle.std.proofs.Common.{◌≡◌, ◌≢◌, ◌⊎◌, inl, inr, ⊎_elim, ℕ, List, Option, None, IfSome, sym, ap, subst}
use Rattle.std.specs.Prelude.{IsSome}
use Rattle.std.proofs.lemmas.Bool.{cases_eq}
use Rattle.bx_base.specs.declared.names.Actor.{Actor}
use Rattle.bx_base.specs.declared.names.Actor.TheVariants.{Node, Replica, Server, Member}
use Rattle.bx_facts.specs.Chains.{IsOwnersKind}
use Rattle.bx_facts.specs.Holds as holds
use Rattle.bx_facts.specs.Inputs.{IsOwners, SendsOnly}
use Rattle.bx_facts.specs.declared.input.Input.{Input}
use Rattle.bx_global.specs.declared.change.Change.{Change}
use Rattle.bx_global.specs.declared.state.GlobalState.{GlobalState}
use Rattle.bx_post.specs.declared.packets.Letter.{Letter}
use Rattle.bx_clerk.specs.Clerks.{Clerking, learned}
use Rattle.bx_clerk.specs.Requests.{hold_of, request_in, wish_of}
use Rattle.bx_clerk.proofs.Sending as clerk_sends
use Rattle.bx_master.proofs.Sending as master_sends
use Rattle.bx_locks.specs.Events.{TakesAt, handed_at, input_for}
use Rattle.bx_locks.specs.Machines.{LockMachines, OnlyMachine, clerk_of, master_of}
use Rattle.bx_locks.proofs.Taken.{clerk_handed, clerk_kind, master_handed, master_kind, revoke_for, took}

no_letters : (letters : List Letter) → SendsOnly IsOwners letters letters
no_letters letters = record { kept = λ letter has. has; each = λ letter has. inl has }

pub event_sends : (at : Actor) (known : GlobalState) (input : Input) (old new : LockMachines) (change : Option Change) (before after : List Letter) → TakesAt at known input old new change before after → SendsOnly IsOwners before after
event_sends (Node node) known input old new change before after does = clerk_sends.takes_sends (learned known (clerk_of old node)) input (clerk_of new node) change before after does
event_sends (Replica n) known input old new change before after does = subst (SendsOnly IsOwners before) (sym does.2) (no_letters before)
event_sends (Server server) known input old new change before after does = master_sends.takes_sends (master_of old server) known input (master_of new server) change before after does
event_sends (Member n) known input old new change before after does = subst (SendsOnly IsOwners before) (sym does.2) (no_letters before)

pub event_hands : (at : Actor) (known : GlobalState) (input : Input) (old new : LockMachines) (change : Option Change) (before after : List Letter) → TakesAt at known input old new change before after → change ≡ handed_at at known input old
event_hands (Node node) known input old new change before after does = clerk_handed (clerk_of old node) known input (clerk_of new node) change before after does
event_hands (Replica n) known input old new change before after does = does.1
event_hands (Server server) known input old new change before after does = master_handed (master_of old server) known input (master_of new server) change before after does
event_hands (Member n) known input old new change before after does = does.1

kind_at : (at : Actor) (known : GlobalState) (input : Input) (old : LockMachines) → IfSome (handed_at at known input old) IsOwnersKind
kind_at (Node node) known input old = clerk_kind known input (clerk_of old node)
kind_at (Replica n) known input old = tt
kind_at (Server server) known input old = master_kind known input (master_of old server)
kind_at (Member n) known input old = tt

pub event_kind : (at : Actor) (known : GlobalState) (input : Input) (old new : LockMachines) (change : Option Change) (before after : List Letter) → TakesAt at known input old new change before after → IfSome change IsOwnersKind
event_kind at known input old new change before after does = subst (λ (handed : Option Change). IfSome handed IsOwnersKind) (sym (event_hands at known input old new change before after does)) (kind_at at known input old)

-- A request goes where its block is held then, where the node's session went, or where it was revoked.
abbrev pub Goes : ℕ → Input → Clerking → Clerking → ℕ → Type 0
Goes node input c new block = ((wish_of (request_in new.requests block) ≡ None) × (IsSome (hold_of (request_in new.requests block)) ⊎ (new.session ≢ c.session) ⊎ holds.IsRevoke input node)) ⊎ (wish_of (request_in new.requests block) ≡ wish_of (request_in c.requests block))

here_goes : (node block : ℕ) (known : GlobalState) (input : Input) (old new : LockMachines) (change : Option Change) (before after : List Letter) → TakesAt (Node node) known (input_for (Node node) input) old new change before after → Goes node input (clerk_of old node) (clerk_of new node) block
here_goes node block known input old new change before after does =
    let is = took (clerk_of old node) known (input_for (Node node) input) (clerk_of new node) change before after does in
    ⊎_elim (λ gone. inl (gone.0, ⊎_elim (λ held. inl held) (λ more. inr (⊎_elim (λ went. inl went) (λ revoked. inr (revoke_for node input revoked)) more)) gone.1)) (λ same. inr same) (is.requests block)

stays_there : (at : Actor) (node block : ℕ) (input : Input) (old new : LockMachines) → OnlyMachine at old new → at ≢ Node node → Goes node input (clerk_of old node) (clerk_of new node) block
stays_there at node block input old new only apart = inr (ap (λ (c : Clerking). wish_of (request_in c.requests block)) (only.clerks node apart))

pub event_requests : (at : Actor) (node block : ℕ) (known : GlobalState) (input : Input) (old new : LockMachines) (change : Option Change) (before after : List Letter) → TakesAt at known (input_for at input) old new change before after → OnlyMachine at old new
    → Goes node input (clerk_of old node) (clerk_of new node) block
event_requests (Node n) node block known input old new change before after does only = elim (cases_eq node n) [
  | inl here ↦ subst (λ (m : ℕ). Goes m input (clerk_of old m) (clerk_of new m) block) (sym here) (here_goes n block known input old new change before after does)
  | inr beside ↦ stays_there (Node n) node block input old new only (λ same. beside cc)
]
event_requests (Replica n) node block known input old new change before after does only = stays_there (Replica n) node block input old new only (λ same. absurd cc)
event_requests (Server server) node block known input old new change before after does only = stays_there (Server server) node block input old new only (λ same. absurd cc)
event_requests (Member n) node block known input old new change before after does only = stays_there (Member n) node block input old new only (λ same. absurd cc)
