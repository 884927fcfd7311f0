-- All that a lock server does in one event: what it was, what came, what it is, and the letters behind those that were in the box.
use Rattle.std.specs.Prelude.{◌≡◌, ℕ, map, List, ◌++◌, MatchOption, Option, Some, None}
use Rattle.bx_base.specs.declared.names.Actor.TheVariants.{Node, Server}
use Rattle.bx_facts.specs.declared.input.Input.{Input}
use Rattle.bx_facts.specs.declared.input.Input.TheVariants.{Packet, Tick, Synced}
use Rattle.bx_global.specs.declared.change.Change.{Change}
use Rattle.bx_global.specs.declared.state.GlobalState.{GlobalState}
use Rattle.bx_rows.specs.declared.session.SessionRow.{SessionRow}
use Rattle.bx_rows.specs.Words.{row_in as session_row}
use Rattle.bx_post.specs.declared.packets.Letter.{Letter}
use Rattle.bx_lock_words.specs.declared.words.Word.{Word}
use Rattle.bx_lock_words.specs.Sessions.{session_in}
use Rattle.bx_lock_words.specs.Words.{Spells, letter_with}
use Rattle.bx_master.specs.Events.{catch_up, change_of, hear_as, marking, tick}
use Rattle.bx_master.specs.Masters.{Mastering, both}

-- the node of a session, 0 where it has no row
abbrev pub node_in : Option SessionRow → ℕ
node_in None = 0
node_in (Some row) = row.node

-- a word goes to the node of its session
abbrev pub letter_to : ℕ → GlobalState → Word → Letter
letter_to server known word = letter_with (Server server) (Node (node_in (session_row known.sessions (session_in word)))) word

abbrev pub letters_of : ℕ → GlobalState → List Word → List Letter
letters_of server known words = map (letter_to server known) words

-- what a packet says, or that it says nothing
abbrev pub SaysOr : ℕ → List ℕ → Option Word → Type 0
SaysOr kind body said = MatchOption said ((word : Word) → Spells word kind body → ⊥) (λ word. Spells word kind body)

-- A packet is taken.
pub record Hears (m : Mastering) (known : GlobalState) (kind reading : ℕ) (body : List ℕ) (new : Mastering) (before after : List Letter) : Type 0 where
  pub said : Option Word
  pub says : SaysOr kind body said
  pub is : new ≡ (both (catch_up known reading) (hear_as known reading said) m).0
  pub sends : after ≡ before ++ letters_of m.server known (both (catch_up known reading) (hear_as known reading said) m).1

-- A tick is taken: this change is handed back.
pub record Ticks (m : Mastering) (known : GlobalState) (reading : ℕ) (new : Mastering) (change : Option Change) (before after : List Letter) : Type 0 where
  pub asks : change ≡ change_of known reading (both (catch_up known reading) (tick known) m).0
  pub is : new ≡ marking change (both (catch_up known reading) (tick known) m).0
  pub sends : after ≡ before ++ letters_of m.server known (both (catch_up known reading) (tick known) m).1

abbrev pub Takes : Mastering → GlobalState → Input → Mastering → Option Change → List Letter → List Letter → Type 0
Takes m known (Packet packet reading) new change before after = Hears m known packet.now.kind reading packet.now.body new before after × (change ≡ None)
Takes m known (Tick reading) new change before after = Ticks m known reading new change before after
Takes m known Synced new change before after = (new ≡ m) × (change ≡ None) × (after ≡ before)
