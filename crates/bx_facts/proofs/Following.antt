-- How owners follow what a register decides, and letters of other layers.
use Rattle.std.proofs.Common.{◌≡◌, inl, inr, ⊎_elim, ℕ, List, ◌++◌, Contains, Option, Some, None, sym, ap, subst, ◌∙◌, arith}
use Rattle.std.proofs.lemmas.List.Elements.{Contains-append_cases, Contains-append_left, Contains-append_right}
use Rattle.bx_global.specs.declared.change.Change.{Change}
use Rattle.bx_global.specs.declared.change.Change.TheVariants.{Renew, Take, Open, Expire, Claim, Close, Shift}
use Rattle.bx_global.specs.Table.{IsLegal}
use Rattle.bx_post.specs.declared.packets.Letter.{Letter}
use Rattle.bx_facts.specs.declared.input.Input.{Input}
use Rattle.bx_facts.specs.declared.input.Input.TheVariants.{Packet, Tick, Synced}
use Rattle.bx_facts.specs.Chains.{Chain, GrowsBy, HasOwnBoot, IsOwnersOwn, grown, last, with_change}
use Rattle.bx_facts.specs.Holds.{OwnersPast, owners_grown}
use Rattle.bx_facts.specs.Inputs.{AreAmong, IsComing, IsOwners, IsRegisters, SendsOnly}
use Rattle.bx_facts.proofs.Lists.{behind}

-- a letter is of one layer alone
pub not_both : (letter : Letter) → IsRegisters letter → IsOwners letter → ⊥
not_both letter one other = omega (arith, one.most, other.least)

-- where a call sent letters of another layer, no letter of this one is new
pub none_new : (Is Other : Letter → Type 0) → ((letter : Letter) → Other letter → Is letter → ⊥) → (all old new : List Letter) → SendsOnly Other old new → AreAmong Is (all ++ new) (all ++ old)
none_new Is Other apart all old new sends = record {
  each = λ letter own there. ⊎_elim
      (λ before. Contains-append_left all old letter before)
      (λ in_box. ⊎_elim (λ was. Contains-append_right all old letter was) (λ other. absurd (apart letter other own)) (sends.each letter in_box))
      (Contains-append_cases all new letter there);
}

-- what comes comes, whatever is in the box
pub still_comes : (all out : List Letter) (input : Input) → IsComing all input → IsComing (all ++ out) input
still_comes all out (Packet packet reading) there = Contains-append_left all out _ there
still_comes all out (Tick reading) there = tt
still_comes all out Synced there = tt

-- Owners fit a chain that a register decided: their floors may have risen.
pub record Followed (Fits : OwnersPast → Type 0) (o : OwnersPast) (chain : Chain) : Type 0 where
  pub floor : ℕ → ℕ
  pub fits : Fits (record o { told = record o.told { chain = chain }; floor = floor })
  pub boots : (boot : ℕ) → HasOwnBoot o.told.chain boot → HasOwnBoot chain boot

pub follows : (Fits : OwnersPast → Type 0) (o : OwnersPast) (proposed : List Change) (old new : Chain)
    → ((change : Change) → Fits o → IsLegal (last o.told.chain) change → IsOwnersOwn o.told.handed change → Fits (owners_grown o change))
    → ((change : Change) → Contains proposed change → IsOwnersOwn o.told.handed change)
    → o.told.chain ≡ old → GrowsBy proposed old new → Fits o → Followed Fits o new
follows Fits o proposed old new grows owned same (inl still) fits =
    let P : Chain → Type 0 = λ chain. Followed Fits o chain in
    subst P (same ∙ sym still) (record { floor = o.floor; fits = fits; boots = λ boot is. is })
follows Fits o proposed old new grows owned same (inr (change, there, legal, is)) fits =
    let P : Chain → Type 0 = λ chain. Followed Fits o chain in
    let L : Chain → Type 0 = λ chain. IsLegal (last chain) change in
    let more = grows change fits (subst L (sym same) legal) (owned change there) in
    subst P (ap (λ chain. grown chain change) same ∙ sym is) (record { floor = (owners_grown o change).floor; fits = more; boots = λ boot own. own })

-- a change that was handed back stays one
pub still_own : (handed : List Change) (more : Option Change) (change : Change) → IsOwnersOwn handed change → IsOwnersOwn (with_change more handed) change
still_own handed None change own = own
still_own handed (Some more) (Renew by boot reading) own = behind more handed (Renew by boot reading) own
still_own handed (Some more) (Take by boot reading) own = behind more handed (Take by boot reading) own
still_own handed (Some more) (Open node boot reading) own = behind more handed (Open node boot reading) own
still_own handed (Some more) (Expire session term reading) own = behind more handed (Expire session term reading) own
still_own handed (Some more) (Claim gone by) own = tt
still_own handed (Some more) (Close gone by) own = tt
still_own handed (Some more) (Shift device epoch mode second boot) own = tt
