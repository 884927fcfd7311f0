-- All that is sent is of the owners' kinds.
use Rattle.std.proofs.Common.{◌≡◌, ℕ, List, [], ◌∷◌, ◌++◌, Contains, Option, sym, subst, inl, inr, lit≤}
use Rattle.std.proofs.lemmas.List.Elements.{Contains-append_cases, Contains-append_left}
use Rattle.bx_base.specs.declared.names.Actor.{Actor}
use Rattle.bx_facts.proofs.Lists.{front_or_behind, nothing}
use Rattle.bx_facts.specs.Inputs.{IsOwners, SendsOnly}
use Rattle.bx_lock_words.specs.Words.{letter_with}
use Rattle.bx_lock_words.specs.declared.words.Word.{Word}
use Rattle.bx_lock_words.specs.declared.words.Word.TheVariants.{Wants, Grants, Revokes, Releases, Renews, Leases}
use Rattle.bx_post.specs.declared.packets.Letter.{Letter}
use Rattle.bx_global.specs.declared.state.GlobalState.{GlobalState}
use Rattle.bx_facts.specs.declared.input.Input.{Input}
use Rattle.bx_facts.specs.declared.input.Input.TheVariants.{Packet, Tick, Synced}
use Rattle.bx_global.specs.declared.change.Change.{Change}
use Rattle.bx_base.specs.declared.names.Actor.TheVariants.{Node, Server}
use Rattle.bx_lock_words.specs.Sessions.{session_in}
use Rattle.bx_rows.specs.Words.{row_in as session_row}
use Rattle.bx_master.specs.Masters.{Mastering}
use Rattle.bx_master.specs.Steps.{Takes, letter_to, letters_of, node_in}

is_owners : (from to : Actor) (word : Word) → IsOwners (letter_with from to word)
is_owners from to (Wants w) = record { least = lit≤ tt; most = lit≤ tt }
is_owners from to (Grants g) = record { least = lit≤ tt; most = lit≤ tt }
is_owners from to (Revokes v) = record { least = lit≤ tt; most = lit≤ tt }
is_owners from to (Releases l) = record { least = lit≤ tt; most = lit≤ tt }
is_owners from to (Renews s) = record { least = lit≤ tt; most = lit≤ tt }
is_owners from to (Leases s u) = record { least = lit≤ tt; most = lit≤ tt }

-- each letter is of the owners' kinds
pub record AreOwners (letters : List Letter) : Type 0 where
  pub each : (letter : Letter) → Contains letters letter → IsOwners letter

all_owners : (server : ℕ) (known : GlobalState) (words : List Word) → AreOwners (letters_of server known words)
all_owners server known [] = record { each = λ letter has. absurd (nothing letter has) }
all_owners server known (word ∷ words) = record {
  each = λ letter has. elim (front_or_behind (letter_to server known word) (letters_of server known words) letter has) [
    | inl here ↦ subst IsOwners here (is_owners (Server server) (Node (node_in (session_row known.sessions (session_in word)))) word)
    | inr there ↦ (all_owners server known words).each letter there
  ];
}

sends_owners : (server : ℕ) (known : GlobalState) (words : List Word) (before : List Letter) → SendsOnly IsOwners before (before ++ letters_of server known words)
sends_owners server known words before = record {
  kept = λ letter has. Contains-append_left before (letters_of server known words) letter has;
  each = λ letter has. elim (Contains-append_cases before (letters_of server known words) letter has) [
    | inl old ↦ inl old
    | inr new ↦ inr ((all_owners server known words).each letter new)
  ];
}

pub sends_only : (server : ℕ) (known : GlobalState) (words : List Word) (before after : List Letter) → after ≡ before ++ letters_of server known words → SendsOnly IsOwners before after
sends_only server known words before after is = subst (SendsOnly IsOwners before) (sym is) (sends_owners server known words before)

no_letters : (letters : List Letter) → SendsOnly IsOwners letters letters
no_letters letters = record { kept = λ letter has. has; each = λ letter has. inl has }

pub takes_sends : (m : Mastering) (known : GlobalState) (input : Input) (new : Mastering) (change : Option Change) (before after : List Letter) → Takes m known input new change before after → SendsOnly IsOwners before after
takes_sends m known (Packet packet reading) new change before after does = sends_only m.server known _ before after does.0.sends
takes_sends m known (Tick reading) new change before after does = sends_only m.server known _ before after does.sends
takes_sends m known Synced new change before after does = subst (SendsOnly IsOwners before) (sym does.2) (no_letters before)
