-- What is known where a procedure meets no error: each line of it passed.
use Rattle.std.proofs.Common.{◌≡◌, ℕ, Bool, true, false, Some, None, Option, refl, ap}
use Rattle.std.specs.Prelude.{Result, Ok, Err}
use Rattle.bx_model.specs.declared.reply.Reply.{Reply}
use Rattle.bx_model.specs.declared.tree.Tree.{Tree}
use Rattle.bx_model.specs.Steps.{must, refuse, ◌>>=◌, ◌>>◌}

-- a value that was there
pub after_must : {A B P : Type 0} (found : Option A) (status : ℕ) (next : A → Result B ℕ) (value : B) → (must found status >>= next) ≡ Ok value → ((x : A) → found ≡ Some x → next x ≡ Ok value → P) → P
after_must None status next value e then = absurd cc
after_must (Some x) status next value e then = then x refl e

pub after_bind : {A B P : Type 0} (first : Result A ℕ) (next : A → Result B ℕ) (value : B) → (first >>= next) ≡ Ok value → ((x : A) → first ≡ Ok x → next x ≡ Ok value → P) → P
after_bind (Ok x) next value e then = then x refl e
after_bind (Err status) next value e then = absurd cc

-- a test that didn't hold
pub after_refuse : {B P : Type 0} (test : Bool) (status : ℕ) (next : Result B ℕ) (value : B) → (refuse test status >> next) ≡ Ok value → (test ≡ false → next ≡ Ok value → P) → P
after_refuse true status next value e then = absurd cc
after_refuse false status next value e then = then refl e

pub refused_not : (test : Bool) (status : ℕ) (value : Unit {0}) → refuse test status ≡ Ok value → test ≡ false
refused_not true status value e = absurd cc
refused_not false status value e = refl

-- lines of their own
pub after : {B P : Type 0} (first : Result (Unit {0}) ℕ) (next : Result B ℕ) (value : B) → (first >> next) ≡ Ok value → (first ≡ Ok tt → next ≡ Ok value → P) → P
after (Ok tt) next value e then = then refl e
after (Err status) next value e then = absurd cc

-- the tree that a procedure ends with
pub next_is : (reply given : Reply) (tree next : Tree) → ◌≡◌ {A = Result (Reply × Tree) ℕ} (Ok (reply, tree)) (Ok (given, next)) → tree ≡ next
next_is reply given tree next e = let pairs : ◌≡◌ {A = Reply × Tree} (reply, tree) (given, next) = cc in ap (λ (p : Reply × Tree). p.1) pairs

pub reply_is : (reply given : Reply) (tree next : Tree) → ◌≡◌ {A = Result (Reply × Tree) ℕ} (Ok (reply, tree)) (Ok (given, next)) → reply ≡ given
reply_is reply given tree next e = let pairs : ◌≡◌ {A = Reply × Tree} (reply, tree) (given, next) = cc in ap (λ (p : Reply × Tree). p.0) pairs
