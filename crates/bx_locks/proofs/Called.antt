-- What the calls of nodes make of all machines.
use Rattle.std.proofs.Common.{◌≡◌, ◌≢◌, ◌⊎◌, inl, inr, ℕ, ◌++◌, List, Option, Some, None, refl, sym, ap, subst, ◌∙◌}
use Rattle.std.specs.Prelude.{IsSome}
use Rattle.std.proofs.lemmas.Bool.{cases_eq}
use Rattle.bx_base.specs.declared.names.Actor.TheVariants.{Node}
use Rattle.bx_base.specs.declared.names.Mode.{Mode}
use Rattle.bx_facts.specs.Holds.{without_block}
use Rattle.bx_post.specs.declared.packets.Letter.{Letter}
use Rattle.bx_clerk.specs.Clerks.{Clerking, asked_back, asking, asking_words, giving_up, letters_of}
use Rattle.bx_clerk.specs.Requests.{hold_of, request_in, wish_of}
use Rattle.bx_locks.specs.Machines.{LockMachines, OnlyMachine, clerk_of}
use Rattle.bx_locks.specs.Meanings.{IsSpent}
use Rattle.bx_locks.proofs.Asking.{IsWanted, asking_asked, asking_beside, asking_spent, giving_asked, giving_beside, giving_here, wanted_so}

-- the session that a node has, by name
pub session_at : (session : Option ℕ) → IsSome session → (s : ℕ) × (session ≡ Some s)
session_at None is = absurd cc
session_at (Some s) is = (s, refl)

another : (n m : ℕ) → m ≢ n → Node n ≢ Node m
another n m apart same = apart cc

-- ---- a want

pub want_wants : (node block : ℕ) (mode : Mode) (old new : LockMachines) (before after : List Letter) → IsSome (clerk_of old node).session → clerk_of new node ≡ asking block mode (clerk_of old node)
    → after ≡ before ++ letters_of (clerk_of old node) (asking_words (clerk_of old node).session block mode (clerk_of old node)) → IsWanted block mode (clerk_of old node) (clerk_of new node) before after
want_wants node block mode old new before after there asks sends =
    let own = session_at (clerk_of old node).session there in
    let said = sends ∙ ap (λ (s : Option ℕ). before ++ letters_of (clerk_of old node) (asking_words s block mode (clerk_of old node))) own.1 in
    subst (λ (c : Clerking). IsWanted block mode (clerk_of old node) c before after) (sym asks) (wanted_so own.0 block mode (clerk_of old node) before after said)

-- all other requests are as they were
pub want_beside : (node block other at : ℕ) (mode : Mode) (old new : LockMachines) → OnlyMachine (Node node) old new → clerk_of new node ≡ asking block mode (clerk_of old node) → (other ≢ node) ⊎ (at ≢ block)
    → request_in (clerk_of new other).requests at ≡ request_in (clerk_of old other).requests at
want_beside node block other at mode old new only asks (inl apart) = ap (λ (c : Clerking). request_in c.requests at) (only.clerks other (another node other apart))
want_beside node block other at mode old new only asks (inr apart) = elim (cases_eq other node) [
  | inl here ↦ subst (λ (n : ℕ). request_in (clerk_of new n).requests at ≡ request_in (clerk_of old n).requests at) (sym here)
      (ap (λ (c : Clerking). request_in c.requests at) asks ∙ asking_beside block at mode (clerk_of old node) apart)
  | inr beside ↦ ap (λ (c : Clerking). request_in c.requests at) (only.clerks other (another node other beside))
]

pub want_spent : (node block : ℕ) (mode : Mode) (old new : LockMachines) → clerk_of new node ≡ asking block mode (clerk_of old node) → IsSpent (clerk_of old node) → IsSpent (clerk_of new node)
want_spent node block mode old new asks spent = subst IsSpent (sym asks) (asking_spent block mode (clerk_of old node) spent)

pub want_asked : (node block : ℕ) (mode : Mode) (old new : LockMachines) → clerk_of new node ≡ asking block mode (clerk_of old node) → without_block block (asked_back (clerk_of new node)) ≡ without_block block (asked_back (clerk_of old node))
want_asked node block mode old new asks = ap (λ (c : Clerking). without_block block (asked_back c)) asks ∙ asking_asked block mode (clerk_of old node)

-- ---- a block that is given up

pub give_gone : (node block index : ℕ) (old new : LockMachines) → clerk_of new node ≡ giving_up block index (clerk_of old node) → hold_of (request_in (clerk_of new node).requests block) ≡ None
give_gone node block index old new gives = ap (λ (c : Clerking). hold_of (request_in c.requests block)) gives ∙ ap hold_of (giving_here block index (clerk_of old node))

pub give_beside : (node block index other at : ℕ) (old new : LockMachines) → OnlyMachine (Node node) old new → clerk_of new node ≡ giving_up block index (clerk_of old node)
    → (wish_of (request_in (clerk_of new other).requests at) ≡ None) ⊎ (wish_of (request_in (clerk_of new other).requests at) ≡ wish_of (request_in (clerk_of old other).requests at))
give_beside node block index other at old new only gives = elim (cases_eq other node) [
  | inl here ↦ subst (λ (n : ℕ). (wish_of (request_in (clerk_of new n).requests at) ≡ None) ⊎ (wish_of (request_in (clerk_of new n).requests at) ≡ wish_of (request_in (clerk_of old n).requests at))) (sym here) own
  | inr beside ↦ inr (ap (λ (c : Clerking). wish_of (request_in c.requests at)) (only.clerks other (another node other beside)))
]
  where
    own : (wish_of (request_in (clerk_of new node).requests at) ≡ None) ⊎ (wish_of (request_in (clerk_of new node).requests at) ≡ wish_of (request_in (clerk_of old node).requests at))
    own = elim (cases_eq at block) [
      | inl same ↦ inl (ap (λ (c : Clerking). wish_of (request_in c.requests at)) gives ∙ ap (λ (b : ℕ). wish_of (request_in (giving_up block index (clerk_of old node)).requests b)) same ∙ ap wish_of (giving_here block index (clerk_of old node)))
      | inr apart ↦ inr (ap (λ (c : Clerking). wish_of (request_in c.requests at)) gives ∙ ap wish_of (giving_beside block index at (clerk_of old node) apart))
    ]

pub give_asked : (node block index : ℕ) (old new : LockMachines) → clerk_of new node ≡ giving_up block index (clerk_of old node) → asked_back (clerk_of new node) ≡ without_block block (asked_back (clerk_of old node))
give_asked node block index old new gives = ap asked_back gives ∙ giving_asked block index (clerk_of old node)
