-- Which machines are up once one is left out, or one more is.
use Rattle.std.proofs.Common.{◌≡◌, ◌⊎◌, inl, inr, ◌∙◌, Bool, true, false, List, [], ◌∷◌, refl, sym, ap, subst}
use Rattle.std.specs.Prelude.{◌||◌, not, if◌then◌else◌}
use Rattle.bx_base.specs.declared.names.Actor.{Actor}
use Rattle.bx_facts.specs.Machines.{put_at}
use Rattle.bx_facts.proofs.Machines.{is_one}
use Rattle.bx_post.specs.Machines.{is_same}
use Rattle.bx_world_machines.specs.Machines.{is_up, up_without}

abbrev kept_if : Bool → Actor → List Actor → List Actor
kept_if true one rest = rest
kept_if false one rest = one ∷ rest

without_is : (at one : Actor) (up : List Actor) → up_without at (one ∷ up) ≡ kept_if (is_same at one) one (up_without at up)
without_is at one up = by (is_same at one) refl
  where
    by : (b : Bool) → is_same at one ≡ b → up_without at (one ∷ up) ≡ kept_if (is_same at one) one (up_without at up)
    by true is = rw is refl
    by false is = rw is refl

-- the one that is left out isn't up
gone : (at : Actor) (up : List Actor) → is_up (up_without at up) at ≡ false
gone at [] = refl
gone at (one ∷ up) = ap (λ l. is_up l at) (without_is at one up) ∙ by (gone at up) (is_same at one) refl
  where
    by : is_up (up_without at up) at ≡ false → (b : Bool) → is_same at one ≡ b → is_up (kept_if b one (up_without at up)) at ≡ false
    by rest true is = rest
    by rest false is = ap (λ b. b || is_up (up_without at up) at) is ∙ rest

-- each other is as it was
stays_up : (at who : Actor) → is_same at who ≡ false → (up : List Actor) → is_up (up_without at up) who ≡ is_up up who
stays_up at who differ [] = refl
stays_up at who differ (one ∷ up) = ap (λ l. is_up l who) (without_is at one up) ∙ by (stays_up at who differ up) (is_same at one) refl
  where
    other : is_same at one ≡ true → (b : Bool) → is_same who one ≡ b → is_same who one ≡ false
    other is true same = let e = is_one who one same in absurd (let wrong : true ≡ false = sym (subst (λ a. is_same at a ≡ true) (sym e) is) ∙ differ in cc)
    other is false same = same

    by : is_up (up_without at up) who ≡ is_up up who → (b : Bool) → is_same at one ≡ b → is_up (kept_if b one (up_without at up)) who ≡ is_up (one ∷ up) who
    by rest true is = rest ∙ sym (ap (λ b. b || is_up up who) (other is (is_same who one) refl))
    by rest false is = ap (λ b. is_same who one || b) rest

-- who is down then
pub down_without : (at who : Actor) (up : List Actor) → not (is_up (up_without at up) who) ≡ put_at at true (λ other. not (is_up up other)) who
down_without at who up = by (is_same at who) refl
  where
    by : (b : Bool) → is_same at who ≡ b → not (is_up (up_without at up) who) ≡ (if b then true else not (is_up up who))
    by true is = ap not (subst (λ a. is_up (up_without at up) a ≡ false) (is_one at who is) (gone at up))
    by false is = ap not (stays_up at who is up)

-- whoever is up then was
pub was_up : (at who : Actor) (up : List Actor) → is_up (up_without at up) who ≡ true → is_up up who ≡ true
was_up at who up is = by (is_same at who) refl
  where
    by : (b : Bool) → is_same at who ≡ b → is_up up who ≡ true
    by true same = absurd (let wrong : true ≡ false = sym is ∙ subst (λ a. is_up (up_without at up) a ≡ false) (is_one at who same) (gone at up) in cc)
    by false differ = sym (stays_up at who differ up) ∙ is

-- whoever is down then is the one that is left out, or was
pub down_then : (at who : Actor) (up : List Actor) → is_up (up_without at up) who ≡ false → (at ≡ who) ⊎ (is_up up who ≡ false)
down_then at who up is = by (is_same at who) refl
  where
    by : (b : Bool) → is_same at who ≡ b → (at ≡ who) ⊎ (is_up up who ≡ false)
    by true same = inl (is_one at who same)
    by false differ = inr (sym (stays_up at who differ up) ∙ is)
