-- What a turn of a node makes of who holds what: first it gives blocks back, then it wants some.
use Rattle.std.specs.Prelude.{◌≡◌, ◌⊎◌, ℕ, ◌<◌, false, true, List, [], ◌∷◌, Contains, Some, None, IfSome, IsSome, Option}
use Rattle.bx_base.specs.declared.names.Mode.{Mode}
use Rattle.bx_facts.specs.Holds.{Hold, first_of, without_block}
use Rattle.bx_node_steps.specs.Changing.{LetsGo}
use Rattle.bx_node_steps.specs.Gives.{MayKeep, since, waits_since}
use Rattle.bx_node_steps.specs.declared.machine.Machine.{Machine}
use Rattle.bx_nodes.specs.Asks.{is_weaker}
use Rattle.bx_facts.specs.declared.owners.Owners as owners

-- A block that is asked back may be given back: it is held, and a session asks for it that is earlier than this one, or no call waits any more that waited when that was seen first.
pub record MayGive (hold : Option Hold) (session : ℕ) (asked : ℕ × ℕ) (machine : Machine) : Type 0 where
  pub held : IsSome hold
  pub free : (asked.1 < session) ⊎ (waits_since (since asked.0 asked.1 machine) machine.calls.items ≡ false)

module _ {O : Type 0} (o : owners.Ghosts O) (node : ℕ) where
  -- A block is given up: owners pass it on, and the node holds it no more and isn't asked for it any more.
  pub record GivesUp (block : ℕ) (old new : O) : Type 0 where
    pub passes_on : o.passes_on old node block new
    pub gone : o.hold new node block ≡ None
    pub asks : o.asks new node ≡ without_block block (o.asks old node)

  -- Blocks are given back, in this order: each time the first that the node is asked for, as long as that may be given; the first that is left stays.
  pub data GivesBack (session : ℕ) : List ℕ → O → Machine → O → Machine → Type 0 where
    Stays : (is : O) (machine : Machine) → IfSome (first_of (o.asks is node)) (λ asked. MayKeep (o.hold is node asked.0) session asked (Some machine)) → GivesBack session [] is machine is machine
    Gives : (asked : ℕ × ℕ) (back : List ℕ) (old middle new : O) (a b c : Machine) → first_of (o.asks old node) ≡ Some asked → MayGive (o.hold old node asked.0) session asked a
        → GivesUp asked.0 old middle → LetsGo asked.0 a b → GivesBack session back middle b new c → GivesBack session (asked.0 ∷ back) old a new c

  -- Blocks are wanted, one behind the other: each is one of these, isn't held so, and no request for it is out; what is asked back of others stays.
  pub data AreWanted (IsOne : ℕ → Mode → Type 0) : O → O → Type 0 where
    NoMore : (is : O) → AreWanted IsOne is is
    OneMore : (at : ℕ) (mode : Mode) (old middle new : O) → IsOne at mode → o.request old node at ≡ None → is_weaker (o.hold old node at) mode ≡ true → o.grants old node at mode middle
        → without_block at (o.asks middle node) ≡ without_block at (o.asks old node) → AreWanted IsOne middle new → AreWanted IsOne old new

-- a block is among those that calls need, in a mode
abbrev pub IsInNeeds : List (List (ℕ × Mode)) → ℕ → Mode → Type 0
IsInNeeds needs at mode = (wants : List (ℕ × Mode)) × Contains needs wants × Contains wants (at, mode)
