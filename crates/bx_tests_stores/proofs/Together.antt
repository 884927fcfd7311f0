-- How owners and a store go on beside a register.
use Rattle.std.proofs.Common.{◌≡◌, ◌⊎◌, inl, inr, ⊎_elim, ℕ, ◌≤◌, Bool, true, false, List, ◌∷◌, Contains, Option, Some, None, refl, sym, ◌∙◌, ap, subst, arith}
use Rattle.std.specs.Prelude.{IfSome, if◌then◌else◌}
use Rattle.std.specs.Option.{option_or}
use Rattle.bx_base.specs.declared.names.Actor.{Actor}
use Rattle.bx_global.specs.declared.change.Change.{Change}
use Rattle.bx_global.specs.declared.change.Change.TheVariants.{Renew, Take, Open, Expire, Claim, Close, Shift}
use Rattle.bx_global.specs.declared.state.GlobalState.{GlobalState}
use Rattle.bx_global.specs.Table.{IsLegal}
use Rattle.bx_post.specs.declared.packets.Letter.{Letter}
use Rattle.bx_facts.specs.Chains.{Chain, GrowsBy, IsOwnersKind, IsOwnersOwn, IsStoresKind, IsStoresOwn, grown, last, with_change}
use Rattle.bx_facts.specs.Inputs.{AreAmong, IsOwners, IsRegisters, IsStores, SendsOnly}
use Rattle.bx_facts.specs.Machines.{is_same, put_at}
use Rattle.bx_facts.specs.Pasts.{RegisterPast}
use Rattle.bx_tests_stores.specs.Together.{Offers}
use Rattle.bx_facts.proofs.Following.{still_own}
use Rattle.bx_facts.proofs.Lists.{behind, front}
use Rattle.bx_facts.proofs.Machines.{here, is_one}

-- a letter is of one layer alone
pub not_registers : (letter : Letter) → IsStores letter → IsRegisters letter → ⊥
not_registers letter one other = omega (arith, one.least, other.most)

pub not_owners : (letter : Letter) → IsStores letter → IsOwners letter → ⊥
not_owners letter one other = omega (arith, one.least, other.most)

pub among_both : {Is : Letter → Type 0} {all some few : List Letter} → AreAmong Is few some → AreAmong Is some all → AreAmong Is few all
among_both one other = record { each = λ letter own there. other.each letter own (one.each letter own there) }

-- What holds with a chain holds with one that a register decided, if each proposed change leaves it.
pub goes_along : (P : Chain → Type 0) (proposed : List Change) (old new : Chain) → ((change : Change) → Contains proposed change → IsLegal (last old) change → P (grown old change)) → P old → GrowsBy proposed old new → P new
goes_along P proposed old new grows before (inl still) = subst P (sym still) before
goes_along P proposed old new grows before (inr (change, there, legal, is)) = subst P (sym is) (grows change there legal)

-- a change that was handed back is one of the owners' own, or of the store's
pub owners_own : (handed : List Change) (change : Change) → Contains handed change → IsOwnersOwn handed change
owners_own handed (Renew by boot reading) there = there
owners_own handed (Take by boot reading) there = there
owners_own handed (Open node boot reading) there = there
owners_own handed (Expire session term reading) there = there
owners_own handed (Claim gone by) there = tt
owners_own handed (Close gone by) there = tt
owners_own handed (Shift device epoch mode second boot) there = tt

pub stores_own : (handed : List Change) (change : Change) → Contains handed change → IsStoresOwn handed change
stores_own handed (Renew by boot reading) there = tt
stores_own handed (Take by boot reading) there = tt
stores_own handed (Open node boot reading) there = tt
stores_own handed (Expire session term reading) there = tt
stores_own handed (Claim gone by) there = tt
stores_own handed (Close gone by) there = tt
stores_own handed (Shift device epoch mode second boot) there = there

-- owners ask for none of the store's, and a store for none of theirs
pub stores_free : (handed : List Change) (change : Change) → IsStoresKind change → IsOwnersOwn handed change
stores_free handed (Renew by boot reading) kind = absurd kind
stores_free handed (Take by boot reading) kind = absurd kind
stores_free handed (Open node boot reading) kind = absurd kind
stores_free handed (Expire session term reading) kind = absurd kind
stores_free handed (Claim gone by) kind = tt
stores_free handed (Close gone by) kind = tt
stores_free handed (Shift device epoch mode second boot) kind = tt

pub owners_free : (handed : List Change) (change : Change) → IsOwnersKind change → IsStoresOwn handed change
owners_free handed (Renew by boot reading) kind = tt
owners_free handed (Take by boot reading) kind = tt
owners_free handed (Open node boot reading) kind = tt
owners_free handed (Expire session term reading) kind = tt
owners_free handed (Claim gone by) kind = tt
owners_free handed (Close gone by) kind = tt
owners_free handed (Shift device epoch mode second boot) kind = absurd kind

pub still_stores : (handed : List Change) (more : Option Change) (change : Change) → IsStoresOwn handed change → IsStoresOwn (with_change more handed) change
still_stores handed None change own = own
still_stores handed (Some more) (Renew by boot reading) own = tt
still_stores handed (Some more) (Take by boot reading) own = tt
still_stores handed (Some more) (Open node boot reading) own = tt
still_stores handed (Some more) (Expire session term reading) own = tt
still_stores handed (Some more) (Claim gone by) own = tt
still_stores handed (Some more) (Close gone by) own = tt
still_stores handed (Some more) (Shift device epoch mode second boot) own = behind more handed (Shift device epoch mode second boot) own

-- where what one of them handed back is proposed, each proposed change is still the owners' own, and the store's
pub owners_more : (one other : Option Change) (handed old new : List Change) → IfSome other IsStoresKind → ((change : Change) → Contains old change → IsOwnersOwn handed change)
    → ((change : Change) → Contains new change → Contains old change ⊎ (option_or one other ≡ Some change)) → (change : Change) → Contains new change → IsOwnersOwn (with_change one handed) change
owners_more None other handed old new kind own each change there = ⊎_elim (λ was. own change was)
    (λ is. stores_free handed change (subst (λ (o : Option Change). IfSome o IsStoresKind) is kind))
    (each change there)
owners_more (Some one) other handed old new kind own each change there = ⊎_elim (λ was. still_own handed (Some one) change (own change was))
    (λ is. subst (λ (o : Option Change). IsOwnersOwn (with_change o handed) change) (sym is) (owners_own (change ∷ handed) change (front change handed)))
    (each change there)

pub stores_more : (one other : Option Change) (handed old new : List Change) → IfSome one IsOwnersKind → ((change : Change) → Contains old change → IsStoresOwn handed change)
    → ((change : Change) → Contains new change → Contains old change ⊎ (option_or one other ≡ Some change)) → (change : Change) → Contains new change → IsStoresOwn (with_change other handed) change
stores_more None other handed old new kind own each change there = ⊎_elim (λ was. still_stores handed other change (own change was))
    (λ is. subst (λ (o : Option Change). IsStoresOwn (with_change o handed) change) (sym is) (stores_own (change ∷ handed) change (front change handed)))
    (each change there)
stores_more (Some one) other handed old new kind own each change there = ⊎_elim (λ was. still_stores handed other change (own change was))
    (λ is. owners_free (with_change other handed) change (subst (λ (o : Option Change). IfSome o IsOwnersKind) is kind))
    (each change there)

-- where a change isn't taken nothing is among the proposed ones that wasn't, and nothing was sent
pub not_offered : (Fits : RegisterPast → List Letter → Type 0) (change : Option Change) (past : RegisterPast) (old new : List Letter) → Fits past old → new ≡ old → Offers (λ offered. Fits offered new) change past
not_offered Fits change past old new fits same = record {
  proposed = past.proposed;
  each = λ one there. inl there;
  fits = subst (λ (out : List Letter). Fits past out) (sym same) fits;
}

pub sends_none : (old new : List Letter) → new ≡ old → SendsOnly IsRegisters old new
sends_none old new same = subst (λ (out : List Letter). SendsOnly IsRegisters old out) (sym same) (record { kept = λ letter there. there; each = λ letter there. inl there })

-- what may be among the proposed ones now is the change that was handed back
pub as_asked : (asked other : Option Change) (old new : List Change) → asked ≡ other → ((change : Change) → Contains new change → Contains old change ⊎ (asked ≡ Some change))
    → (change : Change) → Contains new change → Contains old change ⊎ (other ≡ Some change)
as_asked asked other old new same each change there = ⊎_elim (λ was. inl was) (λ is. inr (sym same ∙ is)) (each change there)

-- no machine was handed a later state than it knows, after it was handed the one that it knows
pub knew_rises : (at : Actor) (index : ℕ) (knew : Actor → ℕ) (old new : Actor → GlobalState) → index ≡ (new at).index → ((who : Actor) → knew who ≤ (old who).index) → ((who : Actor) → (old who).index ≤ (new who).index)
    → (who : Actor) → put_at at index knew who ≤ (new who).index
knew_rises at index knew old new is before rises who = by_test (is_same at who) refl
  where
    by_test : (t : Bool) → is_same at who ≡ t → put_at at index knew who ≤ (new who).index
    by_test true one = subst (λ (a : Actor). put_at at index knew a ≤ (new a).index) (is_one at who one) (let e = here at index knew in omega (arith, e, is))
    by_test false one =
        let e : put_at at index knew who ≡ knew who = ap (λ (t : Bool). if t then index else knew who) one in
        let was = before who in
        let more = rises who in
        omega (arith, e, was, more)
