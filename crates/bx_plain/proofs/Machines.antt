-- The machines that are left when one is taken out.
use Rattle.std.proofs.Common.{◌≡◌, ◌≢◌, ⊎_elim, Bool, true, false, List, [], ◌∷◌, filter, Contains, refl, sym, ap, subst, ◌∙◌}
use Rattle.std.specs.Prelude.{if◌then◌else◌, not}
use Rattle.bx_base.specs.declared.names.Actor.{Actor}
use Rattle.bx_facts.specs.Machines.{is_same}
use Rattle.bx_facts.proofs.Lists.{behind, front, front_or_behind, nothing}
use Rattle.bx_facts.proofs.Machines.{is_itself, is_one}
use Rattle.bx_plain.specs.Busy.{is_other}

kept : (who one : Actor) (rest : List Actor) → is_same who one ≡ false → filter (is_other who) (one ∷ rest) ≡ one ∷ filter (is_other who) rest
kept who one rest apart = ap (λ t. if not t then one ∷ filter (is_other who) rest else filter (is_other who) rest) apart

gone : (who one : Actor) (rest : List Actor) → is_same who one ≡ true → filter (is_other who) (one ∷ rest) ≡ filter (is_other who) rest
gone who one rest same = ap (λ t. if not t then one ∷ filter (is_other who) rest else filter (is_other who) rest) same

pub others_stay : (who other : Actor) (all : List Actor) → other ≢ who → Contains all other → Contains (filter (is_other who) all) other
others_stay who other [] apart has = has
others_stay who other (one ∷ rest) apart has = by_test (is_same who one) refl (others_stay who other rest apart)
  where
    by_test : (t : Bool) → is_same who one ≡ t → (Contains rest other → Contains (filter (is_other who) rest) other) → Contains (filter (is_other who) (one ∷ rest)) other
    by_test true same more = subst (λ (xs : List Actor). Contains xs other) (sym (gone who one rest same))
        (⊎_elim (λ is. absurd (apart (sym is ∙ sym (is_one who one same)))) more (front_or_behind one rest other has))
    by_test false unlike more = subst (λ (xs : List Actor). Contains xs other) (sym (kept who one rest unlike))
        (⊎_elim (λ is. subst (λ (x : Actor). Contains (one ∷ filter (is_other who) rest) x) is (front one (filter (is_other who) rest))) (λ in_rest. behind one (filter (is_other who) rest) other (more in_rest)) (front_or_behind one rest other has))

pub others_were : (who other : Actor) (all : List Actor) → Contains (filter (is_other who) all) other → Contains all other
others_were who other [] has = has
others_were who other (one ∷ rest) has = by_test (is_same who one) refl (others_were who other rest)
  where
    by_test : (t : Bool) → is_same who one ≡ t → (Contains (filter (is_other who) rest) other → Contains rest other) → Contains (one ∷ rest) other
    by_test true same more = behind one rest other (more (subst (λ (xs : List Actor). Contains xs other) (gone who one rest same) has))
    by_test false unlike more =
        ⊎_elim (λ is. subst (λ (x : Actor). Contains (one ∷ rest) x) is (front one rest)) (λ in_rest. behind one rest other (more in_rest))
        (front_or_behind one (filter (is_other who) rest) other (subst (λ (xs : List Actor). Contains xs other) (kept who one rest unlike) has))

pub none_left : (who : Actor) (all : List Actor) → Contains (filter (is_other who) all) who → ⊥
none_left who [] has = nothing who has
none_left who (one ∷ rest) has = by_test (is_same who one) refl (none_left who rest)
  where
    by_test : (t : Bool) → is_same who one ≡ t → (Contains (filter (is_other who) rest) who → ⊥) → ⊥
    by_test true same more = more (subst (λ (xs : List Actor). Contains xs who) (gone who one rest same) has)
    by_test false unlike more =
        ⊎_elim (λ is. let wrong = subst (λ (x : Actor). is_same who x ≡ false) is unlike in let right = is_itself who in absurd cc) more
        (front_or_behind one (filter (is_other who) rest) who (subst (λ (xs : List Actor). Contains xs who) (kept who one rest unlike) has))
