-- Which machines are up in the beginning.
use Rattle.std.proofs.Common.{◌≡◌, ◌⊎◌, ⊎_elim, inl, inr, ◌∙◌, ℕ, zero, suc, ◌*◌, ◌<◌, Bool, true, false, List, [], ◌∷◌, ◌++◌, refl, sym, ap, subst, arith}
use Rattle.std.specs.Prelude.{◌||◌}
use Rattle.bx_base.specs.declared.names.Actor.{Actor}
use Rattle.bx_base.specs.declared.names.Actor.TheVariants.{Member, Node, Replica, Server}
use Rattle.bx_facts.proofs.Machines.{is_itself, is_one}
use Rattle.bx_node_calls.proofs.Found.{same_or}
use Rattle.bx_post.specs.Machines.{is_same}
use Rattle.bx_world_machines.specs.Machines.{first_up, is_up, named}
use Rattle.bx_world_machines.specs.Standing.{HasMachine}

pub up_append : (a b : List Actor) (who : Actor) → is_up (a ++ b) who ≡ (is_up a who || is_up b who)
up_append [] b who = refl
up_append (one ∷ a) b who = ap (λ t. is_same who one || t) (up_append a b who) ∙ or_assoc (is_same who one) (is_up a who) (is_up b who)
  where
    or_assoc : (x y z : Bool) → (x || (y || z)) ≡ ((x || y) || z)
    or_assoc true y z = refl
    or_assoc false y z = refl

or_left : (a b : Bool) → a ≡ true → (a || b) ≡ true
or_left a b is = ap (λ t. t || b) is

or_right : (a b : Bool) → b ≡ true → (a || b) ≡ true
or_right true b is = refl
or_right false b is = is

or_cases : (a b : Bool) → (a || b) ≡ true → (a ≡ true) ⊎ (b ≡ true)
or_cases true b is = inl refl
or_cases false b is = inr is

pub left_up : (a b : List Actor) (who : Actor) → is_up a who ≡ true → is_up (a ++ b) who ≡ true
left_up a b who is = up_append a b who ∙ or_left (is_up a who) (is_up b who) is

pub right_up : (a b : List Actor) (who : Actor) → is_up b who ≡ true → is_up (a ++ b) who ≡ true
right_up a b who is = up_append a b who ∙ or_right (is_up a who) (is_up b who) is

pub either_up : (a b : List Actor) (who : Actor) → is_up (a ++ b) who ≡ true → (is_up a who ≡ true) ⊎ (is_up b who ≡ true)
either_up a b who is = or_cases (is_up a who) (is_up b who) (sym (up_append a b who) ∙ is)

has_named : (name : ℕ → Actor) (n m : ℕ) → m < n → is_up (named name n) (name m) ≡ true
has_named name zero m less = absurd (omega (arith, less))
has_named name (suc n) m less = ⊎_elim
    (λ same. right_up (named name n) (name n ∷ []) (name m) (or_left (is_same (name m) (name n)) false (subst (λ k. is_same (name m) (name k) ≡ true) same (is_itself (name m)))))
    (λ ne. left_up (named name n) (name n ∷ []) (name m) (has_named name n m (omega (arith, less, ne))))
    (same_or m n)

named_has : (name : ℕ → Actor) (n : ℕ) (who : Actor) → is_up (named name n) who ≡ true → (m : ℕ) × (m < n) × (who ≡ name m)
named_has name zero who is = absurd cc
named_has name (suc n) who is = ⊎_elim
    (λ first. let found = named_has name n who first in (found.0, (let less = found.1 in omega (arith, less)), found.2))
    (λ last. (n, omega arith, is_one who (name n) (⊎_elim (λ s. s) (λ none. absurd cc) (or_cases (is_same who (name n)) false last))))
    (either_up (named name n) (name n ∷ []) who is)

-- all that are there
pub all_there : (nodes devices : ℕ) (who : Actor) → HasMachine nodes devices who → is_up (first_up nodes devices) who ≡ true
all_there nodes devices (Node n) has = left_up (named Node nodes) (named Replica 3 ++ (named Server 2 ++ named Member (2 * devices))) (Node n) (has_named Node nodes n has)
all_there nodes devices (Replica n) has = right_up (named Node nodes) (named Replica 3 ++ (named Server 2 ++ named Member (2 * devices))) (Replica n)
    (left_up (named Replica 3) (named Server 2 ++ named Member (2 * devices)) (Replica n) (has_named Replica 3 n has))
all_there nodes devices (Server n) has = right_up (named Node nodes) (named Replica 3 ++ (named Server 2 ++ named Member (2 * devices))) (Server n)
    (right_up (named Replica 3) (named Server 2 ++ named Member (2 * devices)) (Server n) (left_up (named Server 2) (named Member (2 * devices)) (Server n) (has_named Server 2 n has)))
all_there nodes devices (Member n) has = right_up (named Node nodes) (named Replica 3 ++ (named Server 2 ++ named Member (2 * devices))) (Member n)
    (right_up (named Replica 3) (named Server 2 ++ named Member (2 * devices)) (Member n) (right_up (named Server 2) (named Member (2 * devices)) (Member n) (has_named Member (2 * devices) n (omega (arith, has)))))

-- and no others
pub only_there : (nodes devices : ℕ) (who : Actor) → is_up (first_up nodes devices) who ≡ true → HasMachine nodes devices who
only_there nodes devices who is = ⊎_elim
    (λ up. let it = named_has Node nodes who up in subst (HasMachine nodes devices) (sym it.2) it.1)
    (λ up. ⊎_elim
    (λ up. let it = named_has Replica 3 who up in subst (HasMachine nodes devices) (sym it.2) it.1)
    (λ up. ⊎_elim
    (λ up. let it = named_has Server 2 who up in subst (HasMachine nodes devices) (sym it.2) it.1)
    (λ up. let it = named_has Member (2 * devices) who up in subst (HasMachine nodes devices) (sym it.2) (let less = it.1 in omega (arith, less)))
    (either_up (named Server 2) (named Member (2 * devices)) who up))
    (either_up (named Replica 3) (named Server 2 ++ named Member (2 * devices)) who up))
    (either_up (named Node nodes) (named Replica 3 ++ (named Server 2 ++ named Member (2 * devices))) who is)
