-- What a call comes to: the first error of its procedure that it meets, or else a reply and the next tree.
use Rattle.std.specs.Prelude.{ℕ, ◌==◌, Bool, if◌then◌else◌, Option, Some, None, Result, Ok, Err, ok_or}
use Rattle.bx_model.specs.declared.reply.Reply.{Reply}
use Rattle.bx_model.specs.declared.reply.Reply.TheVariants.{Status}
use Rattle.bx_model.specs.declared.tree.Tree.{Tree}
use Rattle.bx_model.specs.Edits.{is_unused}

-- A procedure that makes no file meets an error, which is a status, or it gives a reply and the next tree.
abbrev pub Outcome : Type 0
Outcome = Result (Reply × Tree) ℕ

-- One that may make a file gives a reply and the next tree, or both by the handle that the file gets.
pub data Step : Type 0 where
  Gives : Reply → Tree → Step
  Makes : (ℕ → Reply × Tree) → Step

abbrev pub Making : Type 0
Making = Result Step ℕ

-- the value, or the status where there is none
abbrev pub must : {A : Type 0} → Option A → ℕ → Result A ℕ
must found status = ok_or found status

-- the status where the test holds
abbrev pub refuse : Bool → ℕ → Result (Unit {0}) ℕ
refuse test status = if test then Err status else Ok tt

-- the lines of a procedure, of which the first error counts
infixl 10 ◌>>=◌ ◌>>◌
abbrev pub ◌>>=◌ : {A B : Type 0} → Result A ℕ → (A → Result B ℕ) → Result B ℕ
Ok value >>= next = next value
Err status >>= next = Err status

abbrev pub ◌>>◌ : {B : Type 0} → Result (Unit {0}) ℕ → Result B ℕ → Result B ℕ
Ok done >> next = next
Err status >> next = Err status

-- the reply and the next tree; an error leaves the tree as it was
abbrev pub done : Tree → Outcome → Reply × Tree
done tree (Err status) = (Status status, tree)
done tree (Ok given) = given

-- The same where `made` keeps its rule, and else nothing: it is an unused handle where a file is made, and else 0.
abbrev pub plainly : Tree → ℕ → Outcome → Option (Reply × Tree)
plainly tree made outcome = if made == 0 then Some (done tree outcome) else None

abbrev pub taken : Tree → ℕ → Making → Option (Reply × Tree)
taken tree made (Err status) = if made == 0 then Some (Status status, tree) else None
taken tree made (Ok (Gives reply next)) = if made == 0 then Some (reply, next) else None
taken tree made (Ok (Makes file)) = if is_unused tree made then Some (file made) else None
