-- What a clerk keeps, and what becomes of that.
use Rattle.std.specs.Prelude.{◌≡◌, ℕ, ◌+◌, ltb, ◌==◌, max, Bool, true, false, List, [], ◌∷◌, ◌++◌, map, Option, Some, None, if◌then◌else◌}
use Rattle.bx_base.specs.declared.names.Actor.TheVariants.{Node, Server}
use Rattle.bx_base.specs.declared.names.Mode.{Mode}
use Rattle.bx_facts.specs.Chains.{session_of}
use Rattle.bx_facts.specs.Holds.{without_block}
use Rattle.bx_global.specs.declared.state.GlobalState.{GlobalState}
use Rattle.bx_rows.specs.declared.session.SessionRow.{SessionRow}
use Rattle.bx_rows.specs.Words.{row_in}
use Rattle.bx_post.specs.declared.packets.Letter.{Letter}
use Rattle.bx_lock_words.specs.declared.words.Word.{Word}
use Rattle.bx_lock_words.specs.declared.words.Word.TheVariants.{Wants, Releases}
use Rattle.bx_lock_words.specs.Words.{letter_with}
use Rattle.bx_global.specs.Table.{greatest}
use Rattle.bx_clerk.specs.declared.requests.Asking.{Asking}
use Rattle.bx_clerk.specs.Requests.{Requests, held_asks, with_request, without_request}

-- A clerk: its node and boot; the greatest number that it drew in this boot; its session, where it knows of a live one, and that session's end;
-- the latest requests by block; the blocks that were asked back, with who asks, in the order of those sessions; the greatest index with which it
-- gave a block up in this boot; the index of the last state, and who is master in it.
pub record Clerking : Type 0 where
  pub node : ℕ
  pub boot : ℕ
  pub drawn : ℕ
  pub session : Option ℕ
  pub lease : ℕ
  pub requests : Requests
  pub asks : List (ℕ × ℕ)
  pub given : ℕ
  pub knows : ℕ
  pub server : ℕ

-- what the node is asked to give back: the blocks that it holds
abbrev pub asked_back : Clerking → List (ℕ × ℕ)
asked_back c = held_asks c.requests c.asks

-- the end of its session
abbrev pub end_as : Option ℕ → ℕ → Option ℕ
end_as None lease = None
end_as (Some session) lease = Some lease

-- ---- it learns a state

abbrev pub until_in : Option SessionRow → ℕ
until_in None = 0
until_in (Some row) = row.until

abbrev pub until_of : GlobalState → Option ℕ → ℕ
until_of known None = 0
until_of known (Some session) = until_in (row_in known.sessions session)

abbrev pub is_same : Option ℕ → Option ℕ → Bool
is_same None None = true
is_same None (Some n) = false
is_same (Some m) None = false
is_same (Some m) (Some n) = m == n

-- with another session all is forgotten
abbrev pub with_session : GlobalState → Option ℕ → Clerking → Clerking
with_session known own c =
    if is_same c.session own then record c { lease = max c.lease (until_of known own) }
    else record c { session = own; lease = until_of known own; requests = []; asks = [] }

abbrev pub learned : GlobalState → Clerking → Clerking
learned known c = record (with_session known (session_of known c.node c.boot) c) { knows = known.index; server = known.master }

-- ---- what it says

-- a clerk, and what it says
abbrev pub Said : Type 0
Said = Clerking × List Word

-- A step is done: the clerk is as it says, and its words are behind those that were there.
pub record Does (step : Clerking → Said) (old new : Clerking) (before after : List Word) : Type 0 where
  pub is : new ≡ (step old).0
  pub says : after ≡ before ++ (step old).1

-- all goes to the master of the last state
abbrev pub letters_from : ℕ → ℕ → List Word → List Letter
letters_from node server words = map (letter_with (Node node) (Server server)) words

abbrev pub letters_of : Clerking → List Word → List Letter
letters_of c words = letters_from c.node c.server words

-- ---- the node asks, and gives up

-- A number is drawn, and the want goes to the master. Where no number is left nothing is asked.
abbrev pub asking : ℕ → Mode → Clerking → Clerking
asking block mode c =
    if ltb c.drawn greatest
    then record c { drawn = c.drawn + 1; requests = with_request c.requests block (record { mode = mode; number = c.drawn + 1; held = None }) }
    else record c { requests = without_request c.requests block }

abbrev pub asking_words : Option ℕ → ℕ → Mode → Clerking → List Word
asking_words None block mode c = []
asking_words (Some session) block mode c = if ltb c.drawn greatest then Wants (record { session = session; block = block; mode = mode; number = c.drawn + 1 }) ∷ [] else []

abbrev pub giving_up : ℕ → ℕ → Clerking → Clerking
giving_up block index c = record c { given = max c.given index; requests = without_request c.requests block; asks = without_block block c.asks }

-- The release carries the greater of the index and of all with which the clerk gave blocks up before.
abbrev pub giving_words : Option ℕ → ℕ → Option Asking → ℕ → List Word
giving_words None block request index = []
giving_words (Some session) block None index = []
giving_words (Some session) block (Some r) index = Releases (record { session = session; block = block; number = r.number; index = index }) ∷ []

-- ---- it stops, and starts again

abbrev pub restarted : ℕ → Clerking → Clerking
restarted boot c = record { node = c.node; boot = boot; drawn = 0; session = None; lease = 0; requests = []; asks = []; given = 0; knows = 0; server = c.server }

-- a new one
abbrev pub made : ℕ → GlobalState → Clerking
made node s = record {
  node = node;
  boot = 0;
  drawn = 0;
  session = session_of s node 0;
  lease = until_of s (session_of s node 0);
  requests = [];
  asks = [];
  given = 0;
  knows = s.index;
  server = s.master;
}
