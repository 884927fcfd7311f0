-- Wants that wait, and what is asked back for them.
use Rattle.std.specs.Prelude.{◌≡◌, ℕ, ◌<◌, ltb, ◌==◌, ◌&&◌, ◌||◌, not, Bool, true, filter, filter_map, List, [], ◌∷◌, ◌++◌, Option, Some, None, Vec, if◌then◌else◌}
use Rattle.std.specs.List.{AllByRecursion, list_any}
use Rattle.std.specs.BTreeMap.{BTreeMap, IsOrdered, get, keys, values}
use Rattle.std.specs.Ordering.{nat_cmp}
use Rattle.bx_global.specs.declared.state.GlobalState.{GlobalState}
use Rattle.bx_lock_words.specs.declared.words.Want.{Want}
use Rattle.bx_lock_words.specs.declared.words.Word.{Word}
use Rattle.bx_lock_words.specs.declared.words.Word.TheVariants.{Revokes}
use Rattle.bx_lock_tables.specs.declared.rows.Row.{Row}
use Rattle.bx_lock_tables.specs.Rows.{clashes, lives}

-- of another session or block
abbrev pub is_other : Want → Want → Bool
is_other w other = not (other.session == w.session) || not (other.block == w.block)

abbrev pub without : Want → List Want → List Want
without w waiting = filter (is_other w) waiting

-- one of the same session and block waits, with this number or a higher one
abbrev pub has_newer : Want → List Want → Bool
has_newer w waiting = list_any (λ other. not (is_other w other) && not (ltb other.number w.number)) waiting

-- a want joins the queue: a repeated one keeps its place, a newer one of the same session and block takes the older one's away
abbrev pub queued : Want → List Want → List Want
queued w waiting = if has_newer w waiting then waiting else without w waiting ++ w ∷ []

-- wants of sessions that live no more leave the queue
abbrev pub still_waiting : GlobalState → List Want → List Want
still_waiting known waiting = filter (λ w. lives known w.session) waiting

-- those of a block
abbrev pub wants_at : ℕ → List Want → List Want
wants_at block waiting = filter (λ w. w.block == block) waiting

-- a session waits for a block once
abbrev pub AreOnce : List Want → Type 0
AreOnce [] = Unit {0}
AreOnce (w ∷ ws) = AllByRecursion (λ other. is_other w other ≡ true) ws × AreOnce ws

-- what asks for a row back that stands against a want, where its session lives
abbrev pub revoke_of : GlobalState → Want → Row → Option Word
revoke_of known w row =
    if clashes w.session w.mode row && lives known row.session
    then Some (Revokes (record { session = row.session; block = w.block; number = row.number; asking = w.session }))
    else None

-- all that stands against a want is asked back
abbrev pub revokes_for : GlobalState → List Row → Want → List Word
revokes_for known rows w = filter_map (revoke_of known w) rows

-- ---- how they are kept: each with a turn, in the order of the turns, and besides by block

abbrev pub Turns : Type 0
Turns = List (ℕ × Want)

abbrev pub is_at : ℕ → ℕ × Want → Bool
is_at block turn = turn.1.block == block

abbrev pub items_or_none : {A : Type 0} → Option (Vec (ℕ × Want) A) → Turns
items_or_none None = []
items_or_none (Some turns) = turns.items

-- the turns of a block
abbrev pub turns_at : {A : Type 0} → BTreeMap ℕ (Vec (ℕ × Want) A) → ℕ → Turns
turns_at blocks block = items_or_none (get nat_cmp blocks block)

-- the turn of a session among those of its block
abbrev pub turn_in : Turns → ℕ → Option ℕ
turn_in [] session = None
turn_in (turn ∷ turns) session = if turn.1.session == session then Some turn.0 else turn_in turns session

-- Turns rise, and the next one is above them; a session waits for a block once; what waits for a block is found there.
pub record IsQueue {A : Type 0} (next : ℕ) (line : BTreeMap ℕ Want) (blocks : BTreeMap ℕ (Vec (ℕ × Want) A)) : Type 0 where
  pub rises : IsOrdered nat_cmp line
  pub below : AllByRecursion (λ turn. turn < next) (keys line)
  pub once : AreOnce (values line)
  pub by_block : (block : ℕ) → turns_at blocks block ≡ filter (is_at block) line.entries
