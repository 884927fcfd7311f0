-- What the clauses of `take` come to, where owners and store are handed an input one behind the other and letters are sent between and behind.
use Rattle.std.proofs.Common.{◌≡◌, ◌≢◌, ◌⊎◌, ℕ, List, ◌++◌, Contains, Option, Some, None}
use Rattle.bx_base.specs.declared.names.Actor.{Actor}
use Rattle.bx_base.specs.declared.names.Actor.TheVariants.{Node}
use Rattle.bx_disk.specs.Disks.{Disks}
use Rattle.bx_facts.specs.declared.input.Input.{Input}
use Rattle.bx_facts.specs.declared.input.Input.TheVariants.{Packet, Synced, Tick}
use Rattle.bx_facts.specs.declared.store.Store as store
use Rattle.bx_facts.specs.Chains.{LivesIn, last, session_by}
use Rattle.bx_facts.specs.Holds.{Holding, KeepsHolds, OwnersPast, owners_heard, owners_with}
use Rattle.bx_facts.specs.Inputs.{AreAmong, IsComing, IsOwners, IsStores, greatest_with}
use Rattle.bx_facts.specs.Pasts.{MayTake, Told, told_with}
use Rattle.bx_facts.specs.Writes.{GoesOn, IsDone, Sent, StorePast, store_heard, store_with}
use Rattle.bx_global.specs.declared.change.Change.{Change}
use Rattle.bx_global.specs.declared.state.GlobalState.{GlobalState}
use Rattle.bx_facts.specs.declared.owners.Owners as owners
use Rattle.bx_post.specs.declared.packets.Letter.{Letter}
use Rattle.bx_node_events.proofs.Hears.{rises_then}
use Rattle.bx_node_events.proofs.Taken.{TakesOwners, TakesStore}
use Rattle.bx_world_stays.proofs.Stays.{only_stays}

-- what comes still comes where letters are more
pub comes_more : (fewer more : List Letter) (input : Input) → ((letter : Letter) → Contains fewer letter → Contains more letter) → IsComing fewer input → IsComing more input
comes_more fewer more (Packet packet reading) has comes = has _ comes
comes_more fewer more (Tick reading) has comes = tt
comes_more fewer more Synced has comes = tt

pub may_more : (told : Told) (one two : List Letter) (known : GlobalState) (who : Actor) (input : Input) → ((letter : Letter) → Contains (told.letters ++ one) letter → Contains (told.letters ++ two) letter)
    → MayTake (told_with told one) known who input → MayTake (told_with told two) known who input
may_more told one two known who input more may = record {
  up = may.up;
  place = may.place;
  rises = may.rises;
  own_boot = may.own_boot;
  steady = may.steady;
  comes = comes_more (told.letters ++ one) (told.letters ++ two) input more may.comes;
}

-- Owners, which have letters of their own; all letters that are under way then are these.
pub owners_taken : {O : Type 0} (o : owners.Ghosts O) (old new : O) (past : OwnersPast) (box then_box last_box : List Letter) (known : GlobalState) (who : Actor) (input : Input) (change : Option Change)
    → (MayTake (owners_with past box).told known who input → Holding (KeepsHolds past.holding) (o.keeps new) (owners_with (owners_heard past who known.index input change) then_box))
    → ((node : ℕ) → MayTake (owners_with past box).told known who input → who ≡ Node node → o.own new node ≡ session_by o.by_boot known node (past.told.boots who))
    → ((node : ℕ) → who ≢ Node node → o.own new node ≡ o.own old node)
    → ((one : OwnersPast) (letters : List Letter) → o.keeps new one → AreAmong IsOwners letters one.told.letters → o.keeps new (record one { told = record one.told { letters = letters } }))
    → AreAmong IsOwners (past.told.letters ++ last_box) (past.told.letters ++ then_box)
    → TakesOwners o old new (owners_with past box) known who input change (past.told.letters ++ last_box)
owners_taken o old new past box then_box last_box known who input change keeps session others loses among = record {
  keeps = λ may. let h = keeps may in record {
    holding = h.holding;
    may = h.may;
    stands = loses (record (owners_with (owners_heard past who known.index input change) then_box) { holding = h.holding }) (past.told.letters ++ last_box) h.stands among;
  };
  session = session;
  others = others;
}

-- A store, before which others sent letters; and a change is proposed behind it.
module _ {S : Type 0} (st : store.Ghosts S) (old new : S) (y z : Disks) (past : StorePast) (box between_box then_box last_box : List Letter) (known : GlobalState) (who : Actor) (input : Input) (change : Option Change)
    (keeps : st.keeps old y (store_with past box))
    (loses : (one : StorePast) (letters : List Letter) → st.keeps old y one → AreAmong IsStores letters one.told.letters
    → st.keeps old y (record one { told = record one.told { letters = letters } }) × GoesOn one.writes one.told.greatest (st.asked old) (st.settled old y one) (st.settled old y (record one { told = record one.told { letters = letters } }))
    (st.will_read old y one) (st.will_read old y (record one { told = record one.told { letters = letters } })) (st.stands old y one) (st.stands old y (record one { told = record one.told { letters = letters } })))
    (among_before : AreAmong IsStores (past.told.letters ++ between_box) (past.told.letters ++ box))
    (more : (letter : Letter) → Contains (past.told.letters ++ box) letter → Contains (past.told.letters ++ between_box) letter)
    (takes : st.keeps old y (store_with past between_box) → MayTake (store_with past between_box).told known who input → st.keeps new z (store_with (store_heard past who known.index input change) then_box))
    (goes : st.keeps old y (store_with past between_box) → MayTake (store_with past between_box).told known who input
    → GoesOn past.writes past.told.greatest (st.asked old) (st.settled old y (store_with past between_box)) (st.settled new z (store_with (store_heard past who known.index input change) then_box))
    (st.will_read old y (store_with past between_box)) (st.will_read new z (store_with (store_heard past who known.index input change) then_box)) (st.stands old y (store_with past between_box)) (st.stands new z (store_with (store_heard past who known.index input change) then_box)))
    (done : (node : ℕ) (write : Sent) → st.keeps old y (store_with past between_box) → MayTake (store_with past between_box).told known who input → st.out_of old node ≡ Some write → st.out_of new node ≡ None → st.own new node ≡ Some write.session → LivesIn (last past.told.chain) write.session
    → IsDone (st.stands new z (store_with (store_heard past who known.index input change) then_box)) ((store_heard past who known.index input change).told.knew (Node node)) write)
    (session : (node : ℕ) → st.keeps old y (store_with past between_box) → MayTake (store_with past between_box).told known who input → who ≡ Node node → st.own new node ≡ session_by st.by_boot known node (past.told.boots who))
    (others : (node : ℕ) → who ≢ Node node → st.own new node ≡ st.own old node)
    (new_session : (node : ℕ) → st.own new node ≢ st.own old node → st.asked new node ≡ None)
    (out : (node : ℕ) → (st.out_of new node ≡ None) ⊎ (st.out_of new node ≡ st.out_of old node))
    (asked : (node : ℕ) → (st.asked new node ≡ None) ⊎ (st.asked new node ≡ st.asked old node))
    (made : st.made new ≡ st.made old)
    (loses_then : (one : StorePast) (letters : List Letter) → st.keeps new z one → AreAmong IsStores letters one.told.letters
    → st.keeps new z (record one { told = record one.told { letters = letters } }) × GoesOn one.writes one.told.greatest (st.asked new) (st.settled new z one) (st.settled new z (record one { told = record one.told { letters = letters } }))
    (st.will_read new z one) (st.will_read new z (record one { told = record one.told { letters = letters } })) (st.stands new z one) (st.stands new z (record one { told = record one.told { letters = letters } })))
    (among_then : AreAmong IsStores (past.told.letters ++ last_box) (past.told.letters ++ then_box)) where
  may : MayTake (store_with past box).told known who input → MayTake (store_with past between_box).told known who input
  may is = may_more past.told box between_box known who input more is

  there : st.keeps old y (store_with past between_box)
  there = (loses (store_with past box) (past.told.letters ++ between_box) keeps among_before).0

  taken : MayTake (store_with past box).told known who input → st.keeps new z (store_with (store_heard past who known.index input change) then_box)
  taken is = takes there (may is)

  pub store_taken : TakesStore st old new y z (store_with past box) known who input change (past.told.letters ++ last_box)
  store_taken = record {
    keeps = λ is. (loses_then (store_with (store_heard past who known.index input change) then_box) (past.told.letters ++ last_box) (taken is) among_then).0;
    standing = λ d s content index is only was.
        (loses_then (store_with (store_heard past who known.index input change) then_box) (past.told.letters ++ last_box) (taken is) among_then).1.standing d s content index
        (only_stays past.writes past.told.greatest (greatest_with past.told.greatest input) d s content (rises_then past.told.greatest input) only)
        ((goes there (may is)).standing d s content index only ((loses (store_with past box) (past.told.letters ++ between_box) keeps among_before).1.standing d s content index only was));
    reading = λ node s content asks is asks_it still only was.
        (loses_then (store_with (store_heard past who known.index input change) then_box) (past.told.letters ++ last_box) (taken is) among_then).1.reading node s content asks still
        (only_stays past.writes past.told.greatest (greatest_with past.told.greatest input) asks.device s content (rises_then past.told.greatest input) only)
        ((goes there (may is)).reading node s content asks asks_it only ((loses (store_with past box) (past.told.letters ++ between_box) keeps among_before).1.reading node s content asks asks_it only was));
    done = λ node write is out_was none own live d s content to only.
        (loses_then (store_with (store_heard past who known.index input change) then_box) (past.told.letters ++ last_box) (taken is) among_then).1.standing d s content ((store_heard past who known.index input change).told.knew (Node node)) only
        ((done node write there (may is) out_was none own live).each d s content to);
    session = λ node is same. session node there (may is) same;
    others = others;
    new_session = new_session;
    out = out;
    asked = asked;
    made = made;
  }
