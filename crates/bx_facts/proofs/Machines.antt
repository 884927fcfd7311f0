-- When two names are one machine's.
use Rattle.std.proofs.Common.{◌≡◌, ◌≢◌, ℕ, Bool, true, false, ◌==◌, refl, sym, ap, arith}
use Rattle.std.proofs.lemmas.Bool.Decides.{nat_tests}
use Rattle.std.specs.Prelude.{if◌then◌else◌}
use Rattle.bx_records.specs.bx_base.specs.declared.names.Actor.{Actor}
use Rattle.bx_records.specs.bx_base.specs.declared.names.Actor.TheVariants.{Node, Replica, Server, Member}
use Rattle.bx_facts.specs.Machines.{is_same, put_at}

equal : (n m : ℕ) → (n == m) ≡ true → n ≡ m
equal n m is = grind (arith, nat_tests)

self_equal : (n : ℕ) → (n == n) ≡ true
self_equal n = grind (arith, nat_tests)

pub is_one : (a b : Actor) → is_same a b ≡ true → a ≡ b
is_one (Node n) (Node m) is = ap Node (equal n m is)
is_one (Node n) (Replica m) is = absurd cc
is_one (Node n) (Server m) is = absurd cc
is_one (Node n) (Member m) is = absurd cc
is_one (Replica n) (Node m) is = absurd cc
is_one (Replica n) (Replica m) is = ap Replica (equal n m is)
is_one (Replica n) (Server m) is = absurd cc
is_one (Replica n) (Member m) is = absurd cc
is_one (Server n) (Node m) is = absurd cc
is_one (Server n) (Replica m) is = absurd cc
is_one (Server n) (Server m) is = ap Server (equal n m is)
is_one (Server n) (Member m) is = absurd cc
is_one (Member n) (Node m) is = absurd cc
is_one (Member n) (Replica m) is = absurd cc
is_one (Member n) (Server m) is = absurd cc
is_one (Member n) (Member m) is = ap Member (equal n m is)

pub is_itself : (a : Actor) → is_same a a ≡ true
is_itself (Node n) = self_equal n
is_itself (Replica n) = self_equal n
is_itself (Server n) = self_equal n
is_itself (Member n) = self_equal n

pub is_not : (a b : Actor) → a ≢ b → is_same a b ≡ false
is_not a b other = by_test (is_same a b) refl
  where
    by_test : (t : Bool) → is_same a b ≡ t → is_same a b ≡ false
    by_test true is = absurd (other (is_one a b is))
    by_test false is = is

-- what a machine was given, and what all others have
pub here : {A : Type 0} (who : Actor) (value : A) (old : Actor → A) → put_at who value old who ≡ value
here who value old = ap (λ t. if t then value else old who) (is_itself who)

pub elsewhere : {A : Type 0} (who other : Actor) (value : A) (old : Actor → A) → other ≢ who → put_at who value old other ≡ old other
elsewhere who other value old apart = ap (λ t. if t then value else old other) (is_not who other (λ e. apart (sym e)))
