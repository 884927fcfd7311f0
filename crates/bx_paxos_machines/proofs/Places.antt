-- A machine found among all, and another put in its place.
use Rattle.std.proofs.Common.{◌≡◌, ◌≢◌, ℕ, zero, suc, ◌+◌, ◌<◌, Bool, true, false, List, [], ◌∷◌, length, Option, Some, refl, sym, ap, subst, ◌∙◌, arith}
use Rattle.std.specs.Prelude.{IsSome, if◌then◌else◌, slice_index_or, slice_set}
use Rattle.std.proofs.lemmas.Bool.{false≢true}
use Rattle.bx_base.specs.declared.names.Actor.{Actor}
use Rattle.bx_facts.proofs.Machines.{is_itself, is_not, is_one}
use Rattle.bx_facts.specs.Machines.{is_same}
use Rattle.bx_global.specs.declared.state.GlobalState.{GlobalState}
use Rattle.bx_paxos_found.specs.declared.origins.Origins.{Origins}
use Rattle.bx_paxos_machines.specs.declared.machine.Machine.{Machine}
use Rattle.bx_paxos_machines.specs.Parts.{AreParts, IsPart, machine_at, name_of, place_in}

one_more : (n : ℕ) → suc n ≡ n + 1
one_more n = omega arith

-- one that is there has a place in the list
pub found : (ms : List Machine) (who : Actor) → IsSome (machine_at ms who) → place_in ms who < length ms
found [] who is = absurd (false≢true is)
found (m ∷ ms) who is = by (is_same (name_of m) who) (λ has. found ms who has) is
  where
    by : (t : Bool) → (IsSome (machine_at ms who) → place_in ms who < length ms) → IsSome (if t then Some m else machine_at ms who) → (if t then 0 else place_in ms who + 1) < length (m ∷ ms)
    by true more has = omega arith
    by false more has = let less = more has in omega (arith, less)

-- what stands at its place
pub got : (ms : List Machine) (who : Actor) (v : Machine) → place_in ms who < length ms → v ≡ slice_index_or ms (place_in ms who) v → machine_at ms who ≡ Some v
got [] who v less is = absurd (omega (arith, less))
got (m ∷ ms) who v less is = by (is_same (name_of m) who) (λ low e. got ms who v low e) less is
  where
    by : (t : Bool) → (place_in ms who < length ms → v ≡ slice_index_or ms (place_in ms who) v → machine_at ms who ≡ Some v) → (if t then 0 else place_in ms who + 1) < length (m ∷ ms) → v ≡ slice_index_or (m ∷ ms) (if t then 0 else place_in ms who + 1) v → (if t then Some m else machine_at ms who) ≡ Some v
    by true more low e = ap (λ (k : Machine). Some k) (sym e)
    by false more low e = more (omega (arith, low)) (subst (λ (i : ℕ). v ≡ slice_index_or (m ∷ ms) i v) (sym (one_more (place_in ms who))) e)

-- its name
pub name_at : (ms : List Machine) (who : Actor) (v : Machine) → machine_at ms who ≡ Some v → name_of v ≡ who
name_at [] who v is = absurd cc
name_at (m ∷ ms) who v is = by (is_same (name_of m) who) (λ k. name_at ms who v k) refl is
  where
    by : (t : Bool) → (machine_at ms who ≡ Some v → name_of v ≡ who) → is_same (name_of m) who ≡ t → (if t then Some m else machine_at ms who) ≡ Some v → name_of v ≡ who
    by true more e k = let one : m ≡ v = cc in ap name_of (sym one) ∙ is_one (name_of m) who e
    by false more e k = more k

pub part_at : (nodes : ℕ) (made : GlobalState) (origins : Origins) (ms : List Machine) (who : Actor) (v : Machine) → AreParts nodes made origins ms → machine_at ms who ≡ Some v → IsPart nodes made origins v
part_at nodes made origins [] who v parts is = absurd cc
part_at nodes made origins (m ∷ ms) who v parts is = by (is_same (name_of m) who) (λ k. part_at nodes made origins ms who v parts.1 k) is
  where
    by : (t : Bool) → (machine_at ms who ≡ Some v → IsPart nodes made origins v) → (if t then Some m else machine_at ms who) ≡ Some v → IsPart nodes made origins v
    by true more k = let one : m ≡ v = cc in subst (IsPart nodes made origins) one parts.0
    by false more k = more k

-- ---- another in its place

pub parts_put : (nodes : ℕ) (made : GlobalState) (origins : Origins) (ms : List Machine) (i : ℕ) (v : Machine) → AreParts nodes made origins ms → IsPart nodes made origins v → AreParts nodes made origins (slice_set ms i v)
parts_put nodes made origins [] i v parts is = tt
parts_put nodes made origins (m ∷ ms) zero v parts is = (is, parts.1)
parts_put nodes made origins (m ∷ ms) (suc i) v parts is = (parts.0, parts_put nodes made origins ms i v parts.1 is)

-- it is found there
pub put_here : (ms : List Machine) (who : Actor) (v : Machine) → IsSome (machine_at ms who) → name_of v ≡ who → machine_at (slice_set ms (place_in ms who) v) who ≡ Some v
put_here [] who v is named = absurd (false≢true is)
put_here (m ∷ ms) who v is named = by (is_same (name_of m) who) (λ has. put_here ms who v has named) refl is
  where
    here : is_same (name_of v) who ≡ true
    here = subst (λ (a : Actor). is_same a who ≡ true) (sym named) (is_itself who)

    by : (t : Bool) → (IsSome (machine_at ms who) → machine_at (slice_set ms (place_in ms who) v) who ≡ Some v) → is_same (name_of m) who ≡ t → IsSome (if t then Some m else machine_at ms who) → machine_at (slice_set (m ∷ ms) (if t then 0 else place_in ms who + 1) v) who ≡ Some v
    by true more e has = ap (λ (t : Bool). if t then Some v else machine_at ms who) here
    by false more e has =
        subst (λ (i : ℕ). machine_at (slice_set (m ∷ ms) i v) who ≡ Some v) (one_more (place_in ms who))
        (ap (λ (t : Bool). if t then Some m else machine_at (slice_set ms (place_in ms who) v) who) e ∙ more has)

-- and the others as before
pub put_beside : (ms : List Machine) (who other : Actor) (v : Machine) → name_of v ≡ who → other ≢ who → machine_at (slice_set ms (place_in ms who) v) other ≡ machine_at ms other
put_beside [] who other v named apart = refl
put_beside (m ∷ ms) who other v named apart = by (is_same (name_of m) who) (put_beside ms who other v named apart) refl
  where
    not_v : is_same (name_of v) other ≡ false
    not_v = is_not (name_of v) other (λ e. apart (sym e ∙ named))

    by : (t : Bool) → machine_at (slice_set ms (place_in ms who) v) other ≡ machine_at ms other → is_same (name_of m) who ≡ t → machine_at (slice_set (m ∷ ms) (if t then 0 else place_in ms who + 1) v) other ≡ machine_at (m ∷ ms) other
    by true more e =
        let not_m : is_same (name_of m) other ≡ false = is_not (name_of m) other (λ k. apart (sym k ∙ is_one (name_of m) who e)) in
        ap (λ (t : Bool). if t then Some v else machine_at ms other) not_v ∙ sym (ap (λ (t : Bool). if t then Some m else machine_at ms other) not_m)
    by false more e =
        subst (λ (i : ℕ). machine_at (slice_set (m ∷ ms) i v) other ≡ machine_at (m ∷ ms) other) (one_more (place_in ms who))
        (ap (λ (o : Option Machine). if is_same (name_of m) other then Some m else o) more)

-- the same one again
pub put_same : (ms : List Machine) (who : Actor) (v : Machine) → machine_at ms who ≡ Some v → slice_set ms (place_in ms who) v ≡ ms
put_same [] who v is = absurd cc
put_same (m ∷ ms) who v is = by (is_same (name_of m) who) (λ k. put_same ms who v k) is
  where
    by : (t : Bool) → (machine_at ms who ≡ Some v → slice_set ms (place_in ms who) v ≡ ms) → (if t then Some m else machine_at ms who) ≡ Some v → slice_set (m ∷ ms) (if t then 0 else place_in ms who + 1) v ≡ m ∷ ms
    by true more k = let one : v ≡ m = cc in ap (λ (x : Machine). x ∷ ms) one
    by false more k = subst (λ (i : ℕ). slice_set (m ∷ ms) i v ≡ m ∷ ms) (one_more (place_in ms who)) (ap (λ (xs : List Machine). m ∷ xs) (more k))
