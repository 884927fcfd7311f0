-- What a clerk does with what it hears, and at a tick: each step as a function, so that what is answered is said both ways.
use Rattle.std.specs.Prelude.{◌≡◌, ℕ, ltb, ◌&&◌, not, max, Bool, filter_map, List, [], ◌∷◌, ◌++◌, MatchOption, Option, Some, None, if◌then◌else◌}
use Rattle.bx_base.specs.declared.names.Mode.{Mode}
use Rattle.bx_facts.specs.declared.input.Input.{Input}
use Rattle.bx_facts.specs.declared.input.Input.TheVariants.{Packet, Tick, Synced}
use Rattle.bx_facts.specs.Holds.{without_block}
use Rattle.bx_global.specs.declared.change.Change.{Change}
use Rattle.bx_global.specs.declared.change.Change.TheVariants.{Open}
use Rattle.bx_global.specs.declared.state.GlobalState.{GlobalState}
use Rattle.bx_post.specs.declared.packets.Letter.{Letter}
use Rattle.bx_lock_words.specs.declared.words.Grant.{Grant}
use Rattle.bx_lock_words.specs.declared.words.Revoke.{Revoke}
use Rattle.bx_lock_words.specs.declared.words.Word.{Word}
use Rattle.bx_lock_words.specs.declared.words.Word.TheVariants.{Wants, Grants, Revokes, Releases, Renews, Leases}
use Rattle.bx_lock_words.specs.Words.{Spells}
use Rattle.bx_lock_words.specs.Sessions.{session_in}
use Rattle.bx_clerk.specs.declared.requests.Asking.{Asking}
use Rattle.bx_clerk.specs.Clerks.{Clerking, Said, is_same, learned, letters_of}
use Rattle.bx_clerk.specs.Requests.{Requests, fits, is_held, request_in, with_ask, with_request, without_request}

-- ---- it hears

-- A grant is taken where the latest request has its number and is out, and the session lasts.
abbrev pub takes : ℕ → Clerking → Grant → Bool
takes reading c g = (fits (request_in c.requests g.block) g.number && not (is_held (request_in c.requests g.block))) && not (ltb c.lease reading)

-- it holds the block from the grant's index on, and from each index with which it gave a block up
abbrev pub held_by : Clerking → Grant → Asking
held_by c g = record { mode = g.mode; number = g.number; held = Some (max g.index c.given) }

abbrev pub granted : ℕ → Grant → Clerking → Clerking
granted reading g c = if takes reading c g then record c { requests = with_request c.requests g.block (held_by c g) } else c

-- a release of what isn't held carries the index that the clerk knows, and each index with which it gave a block up
abbrev pub answer_of : Clerking → Revoke → Word
answer_of c v = Releases (record { session = v.session; block = v.block; number = v.number; index = max c.knows c.given })

-- a block that is held under the number is asked back; else the number is released at once, and a request of that number is over
abbrev pub hear_revoke : Revoke → Clerking → Said
hear_revoke v c =
    if not (fits (request_in c.requests v.block) v.number) then (c, answer_of c v ∷ [])
    else if is_held (request_in c.requests v.block) then (record c { asks = with_ask (v.block, v.asking) c.asks }, [])
    else (record c { requests = without_request c.requests v.block; asks = without_block v.block c.asks }, answer_of c v ∷ [])

abbrev pub hear_own : ℕ → Word → Clerking → Said
hear_own reading (Wants w) c = (c, [])
hear_own reading (Grants g) c = (granted reading g c, [])
hear_own reading (Revokes v) c = hear_revoke v c
hear_own reading (Releases l) c = (c, [])
hear_own reading (Renews s) c = (c, [])
hear_own reading (Leases s u) c = (record c { lease = max c.lease u }, [])

-- what is of another session is passed over
abbrev pub hear : ℕ → Option Word → Clerking → Said
hear reading None c = (c, [])
hear reading (Some word) c = if is_same c.session (Some (session_in word)) then hear_own reading word c else (c, [])

-- ---- it ticks

abbrev pub want_as : ℕ → ℕ → Mode → ℕ → Option ℕ → Option Word
want_as session block mode number None = Some (Wants (record { session = session; block = block; mode = mode; number = number }))
want_as session block mode number (Some index) = None

-- a request that is out is sent again
abbrev pub want_again : ℕ → ℕ × Asking → Option Word
want_again session entry = want_as session entry.0 entry.1.mode entry.1.number entry.1.held

abbrev pub wants_again : ℕ → Requests → List Word
wants_again session requests = filter_map (want_again session) requests

abbrev pub tick_words : Option ℕ → Requests → List Word
tick_words None requests = []
tick_words (Some session) requests = Renews session ∷ wants_again session requests

abbrev pub tick_change : Option ℕ → Clerking → ℕ → Option Change
tick_change None c reading = Some (Open c.node c.boot reading)
tick_change (Some session) c reading = None

-- ---- all of it

-- what a packet says, or that it says nothing
abbrev pub SaysOr : ℕ → List ℕ → Option Word → Type 0
SaysOr kind body said = MatchOption said ((word : Word) → Spells word kind body → ⊥) (λ word. Spells word kind body)

-- A packet is taken by a clerk that knows the state.
pub record Hears (c : Clerking) (kind reading : ℕ) (body : List ℕ) (new : Clerking) (before after : List Letter) : Type 0 where
  pub said : Option Word
  pub says : SaysOr kind body said
  pub is : new ≡ (hear reading said c).0
  pub sends : after ≡ before ++ letters_of c (hear reading said c).1

-- A tick is taken: this change is handed back.
pub record Ticks (c : Clerking) (reading : ℕ) (new : Clerking) (change : Option Change) (before after : List Letter) : Type 0 where
  pub is : new ≡ c
  pub asks : change ≡ tick_change c.session c reading
  pub sends : after ≡ before ++ letters_of c (tick_words c.session c.requests)

abbrev pub TakesIn : Clerking → Input → Clerking → Option Change → List Letter → List Letter → Type 0
TakesIn c (Packet packet reading) new change before after = Hears c packet.now.kind reading packet.now.body new before after × (change ≡ None)
TakesIn c (Tick reading) new change before after = Ticks c reading new change before after
TakesIn c Synced new change before after = (new ≡ c) × (change ≡ None) × (after ≡ before)

-- All that a clerk does in one event: it learns the state, and takes what comes.
abbrev pub Takes : Clerking → GlobalState → Input → Clerking → Option Change → List Letter → List Letter → Type 0
Takes c known input new change before after = TakesIn (learned known c) input new change before after
