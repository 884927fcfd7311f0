-- What an attempt comes to, by what its procedure comes to.
use Rattle.std.specs.Prelude.{◌≡◌, ℕ, ◌≤◌, List, Ok, Err}
use Rattle.bx_attempts.specs.Replies.{done_of, done_with}
use Rattle.bx_model.specs.declared.reply.Reply.{Reply}
use Rattle.bx_model.specs.declared.tree.Tree.{Tree}
use Rattle.bx_model.specs.Reading.{statfs}
use Rattle.bx_model.specs.Steps.{Outcome, done}
use Rattle.bx_views.specs.declared.attempt.Attempt.{Attempt}
use Rattle.bx_views.specs.declared.attempt.Attempt.TheVariants.{Need, Change, Inner, Answer}
use Rattle.bx_views.specs.declared.attempt.Done.{Done}
use Rattle.bx_views.specs.Attempts.{IfActed}

-- The procedure comes to a reply and this next tree, and of the call with this number that reply is told.
pub record ComesTo (tree : Tree) (outcome : Outcome) (xid : ℕ) (acted : Done) (next : Tree) : Type 0 where
  pub reply : Reply
  pub comes_to : done tree outcome ≡ (reply, next)
  pub told : acted ≡ done_of xid reply

-- What acts does what the procedure does, which changes nothing.
abbrev pub IsOutcomeOf : Tree → ℕ → Outcome → Attempt → Type 0
IsOutcomeOf tree xid outcome (Need wants) = Unit {0}
IsOutcomeOf tree xid outcome (Change draft acted) = ⊥
IsOutcomeOf tree xid outcome (Inner draft) = ⊥
IsOutcomeOf tree xid outcome (Answer acted) = ComesTo tree outcome xid acted tree

-- What acts tells 8 free blocks, as all do to whose reply they are nothing.
abbrev pub TellsEnough : Attempt → Type 0
TellsEnough = IfActed (λ done. done.spare ≡ 8)

-- The free blocks that STATFS tells: how many there are, or 8 where it comes to an error.
abbrev pub told_free : ℕ → Outcome → ℕ
told_free free (Ok given) = free
told_free free (Err status) = 8

-- STATFS by a file handle comes to this reply over a tree with so many blocks free, and tells them.
pub record ComesToSpace (tree : Tree) (free : ℕ) (at : List ℕ) (xid : ℕ) (acted : Done) : Type 0 where
  pub reply : Reply
  pub comes_to : done tree (statfs tree at free) ≡ (reply, tree)
  pub told : acted ≡ done_with xid reply (told_free free (statfs tree at free))
  pub most : acted.spare ≤ 61440

-- it does so without a change
abbrev pub ComesSpace : Tree → ℕ → List ℕ → ℕ → Attempt → Type 0
ComesSpace tree free at xid (Need wants) = Unit {0}
ComesSpace tree free at xid (Change draft acted) = ⊥
ComesSpace tree free at xid (Inner draft) = ⊥
ComesSpace tree free at xid (Answer acted) = ComesToSpace tree free at xid acted
