-- All that is sent is of the owners' kinds.
use Rattle.std.proofs.Common.{◌≡◌, ℕ, List, [], ◌∷◌, ◌++◌, Contains, Option, Result, Ok, Err, IfOk, OnOk, sym, subst, inl, inr, lit≤}
use Rattle.std.proofs.lemmas.List.Elements.{Contains-append_cases, Contains-append_left}
use Rattle.bx_base.specs.declared.names.Actor.{Actor}
use Rattle.bx_facts.proofs.Lists.{front_or_behind, nothing}
use Rattle.bx_facts.specs.Inputs.{IsOwners, SendsOnly}
use Rattle.bx_lock_words.specs.Words.{letter_with}
use Rattle.bx_lock_words.specs.declared.words.Word.{Word}
use Rattle.bx_lock_words.specs.declared.words.Word.TheVariants.{Wants, Grants, Revokes, Releases, Renews, Leases}
use Rattle.bx_post.specs.declared.packets.Letter.{Letter}
use Rattle.bx_base.specs.declared.names.Actor.TheVariants.{Node, Server}
use Rattle.bx_facts.specs.declared.input.Input.{Input}
use Rattle.bx_facts.specs.declared.input.Input.TheVariants.{Packet, Tick, Synced}
use Rattle.bx_global.specs.declared.change.Change.{Change}
use Rattle.bx_clerk.specs.Clerks.{Clerking, letters_from}
use Rattle.bx_clerk.specs.Events.{TakesIn}

is_owners : (from to : Actor) (word : Word) → IsOwners (letter_with from to word)
is_owners from to (Wants w) = record { least = lit≤ tt; most = lit≤ tt }
is_owners from to (Grants g) = record { least = lit≤ tt; most = lit≤ tt }
is_owners from to (Revokes v) = record { least = lit≤ tt; most = lit≤ tt }
is_owners from to (Releases l) = record { least = lit≤ tt; most = lit≤ tt }
is_owners from to (Renews s) = record { least = lit≤ tt; most = lit≤ tt }
is_owners from to (Leases s u) = record { least = lit≤ tt; most = lit≤ tt }

-- each letter is of the owners' kinds
pub record AreOwners (letters : List Letter) : Type 0 where
  pub each : (letter : Letter) → Contains letters letter → IsOwners letter

all_owners : (node server : ℕ) (words : List Word) → AreOwners (letters_from node server words)
all_owners node server [] = record { each = λ letter has. absurd (nothing letter has) }
all_owners node server (word ∷ words) = record {
  each = λ letter has. elim (front_or_behind (letter_with (Node node) (Server server) word) (letters_from node server words) letter has) [
    | inl here ↦ subst IsOwners here (is_owners (Node node) (Server server) word)
    | inr there ↦ (all_owners node server words).each letter there
  ];
}

sends_owners : (node server : ℕ) (words : List Word) (before : List Letter) → SendsOnly IsOwners before (before ++ letters_from node server words)
sends_owners node server words before = record {
  kept = λ letter has. Contains-append_left before (letters_from node server words) letter has;
  each = λ letter has. elim (Contains-append_cases before (letters_from node server words) letter has) [
    | inl old ↦ inl old
    | inr new ↦ inr ((all_owners node server words).each letter new)
  ];
}

pub sends_only : (node server : ℕ) (words : List Word) (before after : List Letter) → after ≡ before ++ letters_from node server words → SendsOnly IsOwners before after
sends_only node server words before after is = subst (SendsOnly IsOwners before) (sym is) (sends_owners node server words before)

no_letters : (letters : List Letter) → SendsOnly IsOwners letters letters
no_letters letters = record { kept = λ letter has. has; each = λ letter has. inl has }

pub takes_sends : (c : Clerking) (input : Input) (new : Clerking) (change : Option Change) (before after : List Letter) → TakesIn c input new change before after → SendsOnly IsOwners before after
takes_sends c (Packet packet reading) new change before after does = sends_only c.node c.server _ before after does.0.sends
takes_sends c (Tick reading) new change before after does = sends_only c.node c.server _ before after does.sends
takes_sends c Synced new change before after does = subst (SendsOnly IsOwners before) (sym does.2) (no_letters before)

pub tick_sends : {E : Type 0} (c : Clerking) (reading : ℕ) (new : Clerking) (result : Result (Option Change) E) (before after : List Letter) → IfOk result (λ change. TakesIn c (Tick reading) new change before after) → OnOk result (SendsOnly IsOwners before after)
tick_sends c reading new (Ok change) before after does = takes_sends c (Tick reading) new change before after does
tick_sends c reading new (Err e) before after does = tt
