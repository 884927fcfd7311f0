-- How all lock servers and clerks fit what was done with them: the invariant of the lock service.
use Rattle.std.specs.Prelude.{◌≡◌, ◌≢◌, ℕ, ◌<◌, ◌≤◌, ◌⊎◌, Bool, true, false, List, Some, None, Contains}
use Rattle.bx_base.specs.declared.names.Actor.{Actor}
use Rattle.bx_base.specs.declared.names.Actor.TheVariants.{Node, Server}
use Rattle.bx_global.specs.declared.state.GlobalState.{GlobalState}
use Rattle.bx_global.specs.declared.change.Change.{Change}
use Rattle.bx_global.specs.declared.change.Change.TheVariants.{Open}
use Rattle.bx_facts.specs.Chains.{Chain, HasOwnBoot, IsPlace, last, session_of}
use Rattle.bx_facts.specs.Holds.{OwnersPast}
use Rattle.bx_post.specs.declared.packets.Letter.{Letter}
use Rattle.bx_lock_words.specs.Words.{IsWord, Spells}
use Rattle.bx_lock_words.specs.declared.words.Word.{Word}
use Rattle.bx_lock_words.specs.declared.words.Word.TheVariants.{Leases}
use Rattle.bx_locking.specs.Leases.{AreLeases, IsPromised}
use Rattle.bx_locking.specs.Owned.{AreSingle, IsRowIn}
use Rattle.bx_locking.specs.Tables.{AreLocks, Side, Term}
use Rattle.bx_locking.specs.Words.{IsSaid}
use Rattle.bx_master.specs.Masters.{Mastering}
use Rattle.bx_clerk.specs.Clerks.{Clerking}
use Rattle.bx_rows.specs.declared.session.SessionRow.{SessionRow}
use Rattle.bx_lock_steps.specs.Machines.{AreStates, FitsClerk, FitsMaster, IsUntied}

-- ---- whose session

-- A session that a clerk had: in a place of the chain it was a node's own, in a boot of this life of the volume that isn't above the node's. Where it
-- is the node's boot, the node was handed that state, or a later one.
pub record WasHad (chain : Chain) (knew boots : Actor → ℕ) (s : ℕ) : Type 0 where
  pub state : GlobalState
  pub node : ℕ
  pub boot : ℕ
  pub place : IsPlace chain state
  pub own : session_of state node boot ≡ Some s
  pub own_boot : HasOwnBoot chain boot
  pub most : boot ≤ boots (Node node)
  pub seen : boot ≡ boots (Node node) → state.index ≤ knew (Node node)

-- Which sessions clerks had: none that a clerk has no more is its again, and of one that none had nothing was asked.
pub record AreHad (chain : Chain) (knew boots : Actor → ℕ) (side : Side) (had : ℕ → Bool) (clerks : ℕ → Clerking) : Type 0 where
  pub was : (s : ℕ) → had s ≡ true → WasHad chain knew boots s
  pub once : (s n : ℕ) → had s ≡ true
      → ((clerks n).session ≡ Some s) ⊎ ((p : GlobalState) → IsPlace chain p → knew (Node n) ≤ p.index → session_of p n (boots (Node n)) ≢ Some s)
  pub fresh : (s : ℕ) → had s ≡ false → ((b : ℕ) → side.requests s b ≡ None) × (side.drawn s ≡ 0) × (side.given s ≡ 0)

-- The boots of sessions: each with which a node may start next is above those of its sessions; and no session was asked for in a boot above its node's.
pub record AreBooted (chain : Chain) (handed : List Change) (boots : Actor → ℕ) : Type 0 where
  pub rows : (row : SessionRow) (boot : ℕ) → IsRowIn (last chain).sessions row → boots (Node row.node) < boot → HasOwnBoot chain boot → row.boot < boot
  pub asked : (node boot reading : ℕ) → Contains handed (Open node boot reading) → boot ≤ boots (Node node)

-- ---- to begin with

-- a state that a cluster may begin with: no two live sessions are of one node and boot, and all are of the first boot
pub record IsStart (s : GlobalState) : Type 0 where
  pub single : AreSingle 0 s
  pub first_boots : (row : SessionRow) → IsRowIn s.sessions row → row.boot ≡ 0

-- ---- all of it

-- The data that no object keeps: what was said; what clerks asked for, by session; the last term's list; which ends were promised, which of them the
-- last term's master has noted, and which stand in rows; and which sessions clerks had.
pub record Ghosts : Type 0 where
  pub said : List Word
  pub side : Side
  pub term : Term
  pub promised : List (ℕ × ℕ)
  pub noted : ℕ → ℕ
  pub ends : ℕ → ℕ
  pub had : ℕ → Bool

pub record FitsPast (nodes : ℕ) (masters : ℕ → Mastering) (clerks : ℕ → Clerking) (past : OwnersPast) (g : Ghosts) : Type 0 where
  pub locks : AreLocks past.told.chain past.holding past.floor g.said g.side g.term
  pub leases_are : AreLeases past.told.chain past.told.greatest past.told.handed g.promised g.noted g.ends g.term.expiring
  pub had_are : AreHad past.told.chain past.told.knew past.told.boots g.side g.had clerks
  pub states : AreStates past.told.chain g.ends
  pub booted : AreBooted past.told.chain past.told.handed past.told.boots
  pub knew_most : (who : Actor) → past.told.knew who ≤ (last past.told.chain).index
  pub clerk : (n : ℕ) → FitsClerk past.told.chain (past.told.knew (Node n)) (past.told.boots (Node n)) g.side g.had g.promised n (clerks n)
  -- the clerks of the cluster's nodes; there are no others
  pub node : (n : ℕ) → n < nodes → (clerks n).node ≡ n
  pub boot : (n : ℕ) → n < nodes → past.told.down (Node n) ≡ false → (clerks n).boot ≡ past.told.boots (Node n)
  -- the lock servers, and what holds of one that is up
  pub server : (id : ℕ) → id < 2 → (masters id).server ≡ id
  pub master : (id : ℕ) → id < 2 → past.told.down (Server id) ≡ false
      → FitsMaster past.told.chain (past.told.knew (Server id)) (past.told.boots (Server id)) g.said g.side.drawn g.term g.noted id (masters id)
  -- before the last state's master has started, nothing is done in its term
  pub before : past.told.boots (Server (last past.told.chain).master) < (last past.told.chain).master_boot → IsUntied past.told.chain g.term g.noted
  -- what is under way was said, and ends that are under way, or that were given, were promised
  pub letters : (letter : Letter) (word : Word) → Contains past.told.letters letter → Spells word letter.kind letter.body → IsSaid g.said word
  pub words : (word : Word) → IsSaid g.said word → IsWord word
  pub promises : (s e : ℕ) → IsSaid g.said (Leases s e) → IsPromised g.promised s e
  pub leases : (s e : ℕ) → Contains past.leases (s, e) → IsPromised g.promised s e

-- What was done with the lock servers and clerks of a cluster of so many nodes is such that some data fit it.
pub record Keeps (nodes : ℕ) (masters : ℕ → Mastering) (clerks : ℕ → Clerking) (past : OwnersPast) : Type 0 where
  pub ghosts : Ghosts
  pub fits : FitsPast nodes masters clerks past ghosts

-- ---- one machine of several

-- one has this now, and each other what it had
pub record PutsOne {A : Type 0} (n : ℕ) (value : A) (old new : ℕ → A) : Type 0 where
  pub at : new n ≡ value
  pub others : (m : ℕ) → m ≢ n → new m ≡ old m

-- each has what it had
pub record AreSame {A : Type 0} (old new : ℕ → A) : Type 0 where
  pub each : (n : ℕ) → new n ≡ old n
