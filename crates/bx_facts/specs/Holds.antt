-- Holds of blocks, leases, and floors.
use Rattle.std.specs.Prelude.{◌≡◌, ◌≢◌, ℕ, ltb, ◌==◌, ◌||◌, not, max, Bool, true, false, List, [], ◌∷◌, filter, Option, Some, None, IsSomeAnd, if◌then◌else◌}
use Rattle.bx_records.specs.bx_base.specs.declared.names.Actor.{Actor}
use Rattle.bx_records.specs.bx_base.specs.declared.names.Actor.TheVariants.{Node}
use Rattle.bx_records.specs.bx_base.specs.declared.names.Mode.{Mode}
use Rattle.bx_records.specs.bx_base.specs.declared.names.Mode.TheVariants.{Shared, Exclusive}
use Rattle.bx_global.specs.declared.change.Change.{Change}
use Rattle.bx_global.specs.declared.change.Change.TheVariants.{Renew, Take, Open, Expire, Claim, Close, Shift}
use Rattle.bx_global.specs.declared.state.GlobalState.{GlobalState}
use Rattle.bx_global.specs.Table.{effect}
use Rattle.bx_global.specs.bx_rows.specs.Words.{row_in}
use Rattle.bx_post.specs.declared.packets.Letter.{Letter}
use Rattle.bx_facts.specs.declared.input.Input.{Input}
use Rattle.bx_facts.specs.declared.input.Input.TheVariants.{Packet, Tick, Synced}
use Rattle.bx_post.specs.Posts.{letter_of}
use Rattle.bx_facts.specs.Chains.{last, oldest}
use Rattle.bx_facts.specs.Pasts.{Told, found_told, heard, opening_told, told_crashed, told_grown, told_restarted, told_with}

-- how a block is held, and the index that its grant carried
abbrev pub Hold : Type 0
Hold = Mode × ℕ

-- holds by session and block: what a session's node holds, or held when the session ended or the node stopped
abbrev pub Holds : Type 0
Holds = ℕ → ℕ → Option Hold

-- What was done with owners, beside what they were told: the ends of sessions that `lease` gave; what each session holds; for each block
-- the index that each later hold of it reaches, to begin with that of the first state.
pub record OwnersPast : Type 0 where
  pub told : Told
  pub leases : List (ℕ × ℕ)
  pub holding : Holds
  pub floor : ℕ → ℕ

abbrev pub nothing_held : Told → OwnersPast
nothing_held told = record { told = told; leases = []; holding = λ session block. None; floor = λ block. told.chain.first.index }

abbrev pub opening_owners : GlobalState → OwnersPast
opening_owners s = nothing_held (opening_told s)

abbrev pub found_owners : GlobalState → ℕ → OwnersPast
found_owners s boot = nothing_held (found_told s boot)

abbrev pub owners_with : OwnersPast → List Letter → OwnersPast
owners_with past out = record past { told = told_with past.told out }

abbrev pub owners_heard : OwnersPast → Actor → ℕ → Input → Option Change → OwnersPast
owners_heard past at index input change = record past { told = heard past.told at index input change }

abbrev pub owners_crashed : OwnersPast → Actor → OwnersPast
owners_crashed past who = record past { told = told_crashed past.told who }

abbrev pub owners_restarted : OwnersPast → Actor → ℕ → ℕ → OwnersPast
owners_restarted past who boot reading = record past { told = told_restarted past.told who boot reading }

-- an end that was given for a session
abbrev pub leased : OwnersPast → ℕ → ℕ → OwnersPast
leased past session end = record past { leases = (session, end) ∷ past.leases }

-- one floor rises
abbrev pub raised : (ℕ → ℕ) → ℕ → ℕ → ℕ → ℕ
raised floor block index at = if at == block then max (floor at) index else floor at

-- a block that was held so was given up at this index: only where it was held exclusively its floor rises
abbrev pub given_floor : Option Hold → (ℕ → ℕ) → ℕ → ℕ → ℕ → ℕ
given_floor None floor block index = floor
given_floor (Some (Shared, from)) floor block index = floor
given_floor (Some (Exclusive, from)) floor block index = raised floor block index

abbrev pub given : OwnersPast → Option Hold → ℕ → ℕ → OwnersPast
given past hold block index = record past { floor = given_floor hold past.floor block index }

-- whether a hold is an exclusive one
abbrev pub is_exclusive : Option Hold → Bool
is_exclusive None = false
is_exclusive (Some (Shared, from)) = false
is_exclusive (Some (Exclusive, from)) = true

-- A session is closed at this index: the floors of all that it held exclusively rise to that, and of all blocks where it was of an earlier term.
abbrev pub closed_floor : Holds → (ℕ → ℕ) → ℕ → ℕ → ℕ → ℕ → ℕ
closed_floor holding floor oldest gone index block = if ltb gone oldest || is_exclusive (holding gone block) then max (floor block) index else floor block

abbrev pub floor_after : OwnersPast → Change → ℕ → ℕ
floor_after past (Renew by boot reading) = past.floor
floor_after past (Take by boot reading) = past.floor
floor_after past (Open node boot reading) = past.floor
floor_after past (Expire session term reading) = past.floor
floor_after past (Claim gone by) = past.floor
floor_after past (Close gone by) = closed_floor past.holding past.floor (oldest past.told.chain) gone (effect (last past.told.chain) (Close gone by)).index
floor_after past (Shift device epoch mode second boot) = past.floor

-- the chain has one change more
abbrev pub owners_grown : OwnersPast → Change → OwnersPast
owners_grown past change = record past { told = told_grown past.told change; floor = floor_after past change }

-- what a node holds is what its session holds
abbrev pub hold_of : Option ℕ → Holds → ℕ → Option Hold
hold_of None holding block = None
hold_of (Some session) holding block = holding session block

-- All that is held stays held, and is held so.
pub record KeepsHolds (old new : Holds) : Type 0 where
  pub each : (session block : ℕ) (hold : Hold) → old session block ≡ Some hold → new session block ≡ Some hold

-- All that is held stays held, but for one block of one session.
pub record KeepsOthers (session block : ℕ) (old new : Holds) : Type 0 where
  pub other_sessions : (other at : ℕ) (hold : Hold) → other ≢ session → old other at ≡ Some hold → new other at ≡ Some hold
  pub other_blocks : (at : ℕ) (hold : Hold) → at ≢ block → old session at ≡ Some hold → new session at ≡ Some hold

-- Some holds are such that this may come of the old ones, and that this holds of the past with them.
pub record Holding (May : Holds → Type 0) (Stands : OwnersPast → Type 0) (past : OwnersPast) : Type 0 where
  pub holding : Holds
  pub may : May holding
  pub stands : Stands (record past { holding = holding })

-- what comes is a revoke, to this node
abbrev pub IsRevoke : Input → ℕ → Type 0
IsRevoke (Packet packet reading) node = ((letter_of packet.now).kind ≡ 10) × ((letter_of packet.now).to ≡ Node node)
IsRevoke (Tick reading) node = ⊥
IsRevoke Synced node = ⊥

-- the list without a block
abbrev pub without_block : ℕ → List (ℕ × ℕ) → List (ℕ × ℕ)
without_block block = filter (λ asked. not (asked.0 == block))

-- the first of a list
abbrev pub first_of : List (ℕ × ℕ) → Option (ℕ × ℕ)
first_of [] = None
first_of (asked ∷ rest) = Some asked

-- A node's session, where it has one, is a live one of it in the state.
abbrev pub IsSessionIn : GlobalState → ℕ → Option ℕ → Type 0
IsSessionIn s node None = Unit {0}
IsSessionIn s node (Some session) = IsSomeAnd (row_in s.sessions session) (λ row. (row.dead ≡ 0) × (row.node ≡ node))
