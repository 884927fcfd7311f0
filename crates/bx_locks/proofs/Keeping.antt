-- How all machines go on fitting what was done with them.
use Rattle.std.proofs.Common.{◌≡◌, ◌⊎◌, inl, inr, ⊎_elim, ℕ, ◌<◌, ◌≤◌, ◌++◌, max, Bool, true, false, List, Option, Some, None, refl, sym, ap, subst, ◌∙◌, arith}
use Rattle.std.specs.Prelude.{IsSome, if◌then◌else◌}
use Rattle.bx_base.specs.declared.names.Actor.{Actor}
use Rattle.bx_base.specs.declared.names.Actor.TheVariants.{Node, Replica, Server, Member}
use Rattle.bx_base.specs.declared.names.Mode.{Mode}
use Rattle.std.proofs.lemmas.Bool.{cases_lt}
use Rattle.bx_facts.specs.Chains.{IsPlace, LivesIn, session_of}
use Rattle.bx_facts.specs.Holds.{Holding, Holds, KeepsHolds, KeepsOthers, OwnersPast, given, owners_heard, owners_restarted, owners_with}
use Rattle.bx_facts.specs.Machines.{IsMachine, is_same}
use Rattle.bx_facts.specs.Pasts.{MayRestart, MayTake, Told}
use Rattle.bx_facts.specs.declared.input.Input.{Input}
use Rattle.bx_facts.specs.declared.input.Input.TheVariants.{Packet, Tick, Synced}
use Rattle.bx_global.specs.declared.change.Change.{Change}
use Rattle.bx_global.specs.declared.state.GlobalState.{GlobalState}
use Rattle.bx_post.specs.declared.packets.Letter.{Letter}
use Rattle.bx_rows.specs.Conditions.{Fits}
use Rattle.bx_clerk.specs.Clerks.{Clerking, asking, asking_words, giving_up, giving_words, letters_of}
use Rattle.bx_clerk.specs.Requests.{hold_of, request_in}
use Rattle.bx_lock_machines.proofs.ClerkEvents.{clerk_gives_up, clerk_wants}
use Rattle.bx_lock_machines.proofs.ClerkTakes.{clerk_takes}
use Rattle.bx_lock_machines.proofs.ServerTakes.{server_takes}
use Rattle.bx_lock_machines.proofs.Stopping.{IsBeside, IsBlank, beside_hears, beside_restarts, clock, node_restarts, restarted_blank, server_restarts}
use Rattle.bx_lock_machines.specs.Keeps.{AreSame, Keeps, PutsOne}
use Rattle.bx_master.specs.Masters.{Mastering}
use Rattle.bx_master.specs.Steps as master_steps
use Rattle.bx_clerk.specs.Events as clerk_events
use Rattle.bx_locks.specs.Events.{RestartsAt, TakesAt, input_for}
use Rattle.bx_locks.specs.Laws.{no_clerk_idle, nobody}
use Rattle.bx_locks.specs.Machines.{LockMachines, OnlyMachine, clerk_of, master_of, no_clerk, nodes_of}
use Rattle.bx_locks.proofs.Taken.{took}

-- ---- one machine of all

pub put_clerk : (node : ℕ) (c : Clerking) (old new : LockMachines) → OnlyMachine (Node node) old new → clerk_of new node ≡ c → PutsOne node c (clerk_of old) (clerk_of new)
put_clerk node c old new only here = record { at = here; others = λ other apart. only.clerks other (λ same. apart cc) }

pub put_master : (server : ℕ) (m : Mastering) (old new : LockMachines) → OnlyMachine (Server server) old new → master_of new server ≡ m → PutsOne server m (master_of old) (master_of new)
put_master server m old new only here = record { at = here; others = λ other apart. only.masters other (λ same. apart cc) }

pub same_masters : (node : ℕ) (old new : LockMachines) → OnlyMachine (Node node) old new → AreSame (master_of old) (master_of new)
same_masters node old new only = record { each = λ server. only.masters server (λ same. absurd cc) }

pub same_clerks : (server : ℕ) (old new : LockMachines) → OnlyMachine (Server server) old new → AreSame (clerk_of old) (clerk_of new)
same_clerks server old new only = record { each = λ node. only.clerks node (λ same. absurd cc) }

-- none of them changes
pub all_masters : (old new : LockMachines) → new ≡ old → AreSame (master_of old) (master_of new)
all_masters old new same = record { each = λ server. ap (λ (o : LockMachines). master_of o server) same }

pub all_clerks : (old new : LockMachines) → new ≡ old → AreSame (clerk_of old) (clerk_of new)
all_clerks old new same = record { each = λ node. ap (λ (o : LockMachines). clerk_of o node) same }

-- it is a packet
abbrev IsPacket : Input → Type 0
IsPacket (Packet packet reading) = Unit {0}
IsPacket (Tick reading) = ⊥
IsPacket Synced = ⊥

-- ---- the calls of nodes

pub want_keeps : (node block : ℕ) (mode : Mode) (old new : LockMachines) (past : OwnersPast) (before after : List Letter) (session : ℕ) → Keeps (nodes_of old) (master_of old) (clerk_of old) (owners_with past before)
    → (clerk_of old node).session ≡ Some session → Fits block → OnlyMachine (Node node) old new → clerk_of new node ≡ asking block mode (clerk_of old node)
    → after ≡ before ++ letters_of (clerk_of old node) (asking_words (clerk_of old node).session block mode (clerk_of old node))
    → Holding (KeepsOthers session block past.holding) (Keeps (nodes_of new) (master_of new) (clerk_of new)) (owners_with past after)
want_keeps node block mode old new past before after session keeps own fits only asks sends =
    subst (λ (n : ℕ). Holding (KeepsOthers session block past.holding) (Keeps n (master_of new) (clerk_of new)) (owners_with past after)) (sym only.nodes)
    (clerk_wants (nodes_of old) (master_of old) (master_of new) (clerk_of old) (clerk_of new) past before after node session keeps own (same_masters node old new only) block fits mode (put_clerk node (asking block mode (clerk_of old node)) old new only asks) sends)

pub give_keeps : (node block index : ℕ) (old new : LockMachines) (past : OwnersPast) (before after : List Letter) (session : ℕ) (s : GlobalState) → Keeps (nodes_of old) (master_of old) (clerk_of old) (owners_with past before)
    → (clerk_of old node).session ≡ Some session → IsPlace past.told.chain s → s.index ≡ index → LivesIn s session → IsSome (hold_of (request_in (clerk_of old node).requests block))
    → OnlyMachine (Node node) old new → clerk_of new node ≡ giving_up block index (clerk_of old node)
    → after ≡ before ++ letters_of (clerk_of old node) (giving_words (clerk_of old node).session block (request_in (clerk_of old node).requests block) (max (clerk_of old node).given index))
    → Holding (KeepsOthers session block past.holding) (Keeps (nodes_of new) (master_of new) (clerk_of new)) (owners_with (given past (hold_of (request_in (clerk_of old node).requests block)) block index) after)
give_keeps node block index old new past before after session s keeps own place at_index live held only gives sends =
    subst (λ (n : ℕ). Holding (KeepsOthers session block past.holding) (Keeps n (master_of new) (clerk_of new)) (owners_with (given past (hold_of (request_in (clerk_of old node).requests block)) block index) after)) (sym only.nodes)
    (clerk_gives_up (nodes_of old) (master_of old) (master_of new) (clerk_of old) (clerk_of new) past before after node session keeps own (same_masters node old new only) block index s place at_index live held
    (put_clerk node (giving_up block index (clerk_of old node)) old new only gives) sends)

-- ---- events

-- what comes is for the machine, or it is a packet for another
aimed : (P : Input → Type 0) (at : Actor) (input : Input) → P (input_for at input) → P input ⊎ (P Synced × IsPacket input)
aimed P at (Packet packet reading) is = by_test (is_same at packet.now.to) is
  where
    by_test : (t : Bool) → P (if t then Packet packet reading else Synced) → P (Packet packet reading) ⊎ (P Synced × Unit {0})
    by_test true is = inl is
    by_test false is = inr (is, tt)
aimed P at (Tick reading) is = inl is
aimed P at Synced is = inl is

-- nothing is asked of what comes as a sync
synced : (told : Told) (known : GlobalState) (at : Actor) (input : Input) → MayTake told known at input → MayTake told known at Synced
synced told known at input may = record { up = may.up; place = may.place; rises = may.rises; own_boot = may.own_boot; steady = tt; comes = tt }

-- a packet for another machine moves the clock alone
clock_moves : (nodes : ℕ) (masters : ℕ → Mastering) (clerks : ℕ → Clerking) (past : OwnersPast) (after : List Letter) (at : Actor) (index : ℕ) (input : Input) (change : Option Change) → IsPacket input
    → Holding (KeepsHolds past.holding) (Keeps nodes masters clerks) (owners_with (owners_heard past at index Synced change) after) → Holding (KeepsHolds past.holding) (Keeps nodes masters clerks) (owners_with (owners_heard past at index input change) after)
clock_moves nodes masters clerks past after at index (Packet packet reading) change is held = record {
  holding = held.holding;
  may = held.may;
  stands = clock nodes masters clerks (record (owners_with (owners_heard past at index Synced change) after) { holding = held.holding }) (max past.told.greatest reading) (omega arith) held.stands;
}
clock_moves nodes masters clerks past after at index (Tick reading) change is held = absurd is
clock_moves nodes masters clerks past after at index Synced change is held = absurd is

still : (nodes : ℕ) (masters : ℕ → Mastering) (clerks : ℕ → Clerking) (past : OwnersPast) (now : OwnersPast) → now.holding ≡ past.holding → Keeps nodes masters clerks now → Holding (KeepsHolds past.holding) (Keeps nodes masters clerks) now
still nodes masters clerks past now same keeps = record { holding = now.holding; may = record { each = λ session block hold has. ap (λ (h : Holds). h session block) same ∙ has }; stands = keeps }

-- What an event makes of all machines, and of what was done with them.
abbrev Heard : OwnersPast → Actor → ℕ → Input → Option Change → List Letter → LockMachines → ℕ → Type 0
Heard past at index input change after new nodes = Holding (KeepsHolds past.holding) (Keeps nodes (master_of new) (clerk_of new)) (owners_with (owners_heard past at index input change) after)

module _ (known : GlobalState) (input : Input) (old new : LockMachines) (past : OwnersPast) (before after : List Letter) (change : Option Change) (keeps : Keeps (nodes_of old) (master_of old) (clerk_of old) (owners_with past before)) where
  clerk_keeps : (node : ℕ) (given : Input) → OnlyMachine (Node node) old new → node < nodes_of old → MayTake (owners_with past before).told known (Node node) given → clerk_events.Takes (clerk_of old node) known given (clerk_of new node) change before after
      → Heard past (Node node) known.index given change after new (nodes_of old)
  clerk_keeps node given only there may takes = clerk_takes (nodes_of old) (master_of old) (master_of new) (clerk_of old) (clerk_of new) past before after node known keeps there (same_masters node old new only) (clerk_of new node) (put_clerk node (clerk_of new node) old new only refl) given change may takes

  node_hears : (node : ℕ) → OnlyMachine (Node node) old new → node < nodes_of old → MayTake (owners_with past before).told known (Node node) input → clerk_events.Takes (clerk_of old node) known (input_for (Node node) input) (clerk_of new node) change before after
      → Heard past (Node node) known.index input change after new (nodes_of old)
  node_hears node only there may takes = ⊎_elim
      (λ own. clerk_keeps node input only there may own)
      (λ other. clock_moves (nodes_of old) (master_of new) (clerk_of new) past after (Node node) known.index input change other.1 (clerk_keeps node Synced only there (synced (owners_with past before).told known (Node node) input may) other.0))
      (aimed (λ (given : Input). clerk_events.Takes (clerk_of old node) known given (clerk_of new node) change before after) (Node node) input takes)

  master_keeps : (server : ℕ) (given : Input) → OnlyMachine (Server server) old new → server < 2 → MayTake (owners_with past before).told known (Server server) given → master_steps.Takes (master_of old server) known given (master_of new server) change before after
      → Heard past (Server server) known.index given change after new (nodes_of old)
  master_keeps server given only there may takes =
      still (nodes_of old) (master_of new) (clerk_of new) past (owners_with (owners_heard past (Server server) known.index given change) after) refl
      (server_takes (nodes_of old) (master_of old) (master_of new) (clerk_of old) (clerk_of new) past before after server known given change (master_of new server) keeps may there takes (put_master server (master_of new server) old new only refl) (same_clerks server old new only))

  server_hears : (server : ℕ) → OnlyMachine (Server server) old new → server < 2 → MayTake (owners_with past before).told known (Server server) input → master_steps.Takes (master_of old server) known (input_for (Server server) input) (master_of new server) change before after
      → Heard past (Server server) known.index input change after new (nodes_of old)
  server_hears server only there may takes = ⊎_elim
      (λ own. master_keeps server input only there may own)
      (λ other. clock_moves (nodes_of old) (master_of new) (clerk_of new) past after (Server server) known.index input change other.1 (master_keeps server Synced only there (synced (owners_with past before).told known (Server server) input may) other.0))
      (aimed (λ (given : Input). master_steps.Takes (master_of old server) known given (master_of new server) change before after) (Server server) input takes)

  other_hears : (who : Actor) → IsBeside who → IsPlace past.told.chain known → new ≡ old → change ≡ None → after ≡ before → Heard past who known.index input change after new (nodes_of old)
  other_hears who beside place same none sent =
      subst (λ (letters : List Letter). Heard past who known.index input change letters new (nodes_of old)) (sym sent)
      (subst (λ (handed : Option Change). Heard past who known.index input handed before new (nodes_of old)) (sym none)
      (still (nodes_of old) (master_of new) (clerk_of new) past (owners_with (owners_heard past who known.index input None) before) refl
      (beside_hears (nodes_of old) (master_of old) (master_of new) (clerk_of old) (clerk_of new) (owners_with past before) who known input beside (all_masters old new same) (all_clerks old new same) place keeps)))

  hears : (at : Actor) → OnlyMachine at old new → IsMachine (nodes_of old) at → MayTake (owners_with past before).told known at input → TakesAt at known (input_for at input) old new change before after → Heard past at known.index input change after new (nodes_of old)
  hears (Node node) only there may takes = node_hears node only there may takes
  hears (Replica n) only there may takes = other_hears (Replica n) tt may.place takes.0 takes.1 takes.2
  hears (Server server) only there may takes = server_hears server only there may takes
  hears (Member n) only there may takes = other_hears (Member n) tt may.place takes.0 takes.1 takes.2

  pub event_keeps : (at : Actor) → OnlyMachine at old new → IsMachine (nodes_of old) at → MayTake (owners_with past before).told known at input → TakesAt at known (input_for at input) old new change before after → Heard past at known.index input change after new (nodes_of new)
  event_keeps at only there may takes = subst (Heard past at known.index input change after new) (sym only.nodes) (hears at only there may takes)

-- the session that a node has then
pub event_session : (at : Actor) (node : ℕ) (known : GlobalState) (input : Input) (old new : LockMachines) (past : OwnersPast) (before after : List Letter) (change : Option Change) → Keeps (nodes_of old) (master_of old) (clerk_of old) (owners_with past before)
    → MayTake (owners_with past before).told known at input → IsMachine (nodes_of old) at → at ≡ Node node → TakesAt at known (input_for at input) old new change before after → (clerk_of new node).session ≡ session_of known node (past.told.boots at)
event_session at node known input old new past before after change keeps may there is takes =
    let less : node < nodes_of old = subst (IsMachine (nodes_of old)) is there in
    let up : past.told.down (Node node) ≡ false = subst (λ (who : Actor). past.told.down who ≡ false) is may.up in
    let took_it = took (clerk_of old node) known (input_for (Node node) input) (clerk_of new node) change before after (subst (λ (who : Actor). TakesAt who known (input_for who input) old new change before after) is takes) in
    took_it.session
    ∙ ap (λ (n : ℕ). session_of known n (clerk_of old node).boot) (keeps.fits.node node less)
    ∙ ap (λ (boot : ℕ). session_of known node boot) (keeps.fits.boot node less up)
    ∙ ap (λ (who : Actor). session_of known node (past.told.boots who)) (sym is)

-- ---- a machine starts again

no_clerk_blank : (nodes node boot : ℕ) → nodes ≤ node → IsBlank nodes node boot (no_clerk node)
no_clerk_blank nodes node boot beyond = record { idle = no_clerk_idle node; node = λ less. refl; boot_is = λ less. absurd (omega (arith, less, beyond)) }

pub restart_keeps : (who : Actor) (boot reading : ℕ) (old new : LockMachines) (past : OwnersPast) → Keeps (nodes_of old) (master_of old) (clerk_of old) past → MayRestart past.told who boot reading → RestartsAt who boot old new → OnlyMachine who old new
    → Keeps (nodes_of new) (master_of new) (clerk_of new) (owners_restarted past who boot reading)
restart_keeps (Node node) boot reading old new past keeps may restarts only = subst (λ (n : ℕ). Keeps n (master_of new) (clerk_of new) (owners_restarted past (Node node) boot reading)) (sym only.nodes)
    (node_restarts (nodes_of old) (master_of old) (master_of new) (clerk_of old) (clerk_of new) past node boot reading (clerk_of new node) (same_masters node old new only) (put_clerk node (clerk_of new node) old new only refl) blank may keeps)
  where
    blank : IsBlank (nodes_of old) node boot (clerk_of new node)
    blank = elim (cases_lt node (nodes_of old)) [
      | inl there ↦ subst (IsBlank (nodes_of old) node boot) (sym (restarts there)) (restarted_blank (nodes_of old) (master_of old) (clerk_of old) past node boot keeps)
      | inr beyond ↦ subst (IsBlank (nodes_of old) node boot) (sym (nobody new.clerks node (no_clerk node) (subst (λ (n : ℕ). n ≤ node) (sym only.nodes) beyond))) (no_clerk_blank (nodes_of old) node boot beyond)
    ]
restart_keeps (Server server) boot reading old new past keeps may restarts only = subst (λ (n : ℕ). Keeps n (master_of new) (clerk_of new) (owners_restarted past (Server server) boot reading)) (sym only.nodes)
    (server_restarts (nodes_of old) (master_of old) (master_of new) (clerk_of old) (clerk_of new) past server boot reading restarts (λ other apart. only.masters other (λ same. apart cc)) (same_clerks server old new only) may keeps)
restart_keeps (Replica n) boot reading old new past keeps may same only = subst (λ (m : ℕ). Keeps m (master_of new) (clerk_of new) (owners_restarted past (Replica n) boot reading)) (sym only.nodes)
    (beside_restarts (nodes_of old) (master_of old) (master_of new) (clerk_of old) (clerk_of new) past (Replica n) boot reading tt (all_masters old new same) (all_clerks old new same) keeps)
restart_keeps (Member n) boot reading old new past keeps may same only = subst (λ (m : ℕ). Keeps m (master_of new) (clerk_of new) (owners_restarted past (Member n) boot reading)) (sym only.nodes)
    (beside_restarts (nodes_of old) (master_of old) (master_of new) (clerk_of old) (clerk_of new) past (Member n) boot reading tt (all_masters old new same) (all_clerks old new same) keeps)
