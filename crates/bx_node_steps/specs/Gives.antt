-- What a node gives back.
use Rattle.std.specs.Prelude.{◌≡◌, ◌⊎◌, ◌==◌, ◌&&◌, ◌||◌, if◌then◌else◌, ℕ, ◌<◌, ◌≤◌, max, nat_le, Bool, false, true, List, [], ◌∷◌, Contains, Option, Some, None, IsSomeAnd}
use Rattle.bx_facts.specs.Holds.{Hold}
use Rattle.bx_node_cache.specs.Kept.{kept_in}
use Rattle.bx_node_tries.specs.Tries.{is_attempted}
use Rattle.bx_node_tries.specs.declared.round.Waiting.{Waiting}
use Rattle.bx_node_steps.specs.declared.machine.Machine.{Machine}
use Rattle.bx_node_steps.specs.declared.machine.Mark.{Mark}

-- the newest of calls, by its number
abbrev pub newest : List Waiting → ℕ
newest [] = 0
newest (call ∷ calls) = max call.number (newest calls)

-- whether one of these calls is no newer than this one, and is still attempted
abbrev pub waits_since : ℕ → List Waiting → Bool
waits_since last [] = false
waits_since last (call ∷ calls) = (nat_le call.number last && is_attempted call) || waits_since last calls

-- the newest call that waited when a block was seen first that a session asks back: as it was noted, or the newest that waits now
abbrev pub since_mark : ℕ → ℕ → List Waiting → Option Mark → ℕ
since_mark block asking calls None = newest calls
since_mark block asking calls (Some mark) = if (mark.block == block) && (mark.asking == asking) then mark.last else newest calls

abbrev pub since : ℕ → ℕ → Machine → ℕ
since block asking machine = since_mark block asking machine.calls.items machine.mark

-- the mark of what is asked back
abbrev pub marked : Option (ℕ × ℕ) → Machine → Option Mark
marked None machine = None
marked (Some asked) machine = Some (record { block = asked.0; asking = asked.1; last = since asked.0 asked.1 machine })

-- A block that is asked back stays: it isn't held; or a session that isn't earlier than this one asks for it, and a call still waits that waited when that was seen first.
pub data MayKeep (hold : Option Hold) (session : ℕ) (asked : ℕ × ℕ) (machine : Option Machine) : Type 0 where
  NotHeld : hold ≡ None → MayKeep hold session asked machine
  Awaited : session ≤ asked.1 → IsSomeAnd machine (λ one. waits_since (since asked.0 asked.1 one) one.calls.items ≡ true) → MayKeep hold session asked machine

-- A block may be given back: a session asks for it, and that is an earlier one than this, or no call waits any more that waited when that was seen first.
pub record MayGo (session : ℕ) (asks : List (ℕ × ℕ)) (machine : Machine) (at : ℕ) : Type 0 where
  pub asking : ℕ
  pub asked : Contains asks (at, asking)
  pub free : (asking < session) ⊎ (waits_since (since at asking machine) machine.calls.items ≡ false)

-- Each block is kept as it was, but those that may be given back.
abbrev pub KeepsRest : ℕ → List (ℕ × ℕ) → Machine → Machine → Type 0
KeepsRest session asks old new = (at : ℕ) → (kept_in new.cache.kept at ≡ kept_in old.cache.kept at) ⊎ MayGo session asks old at
