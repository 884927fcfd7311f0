-- A recovery is new: its node knows a state by which its session has claimed one that is dead.
use Rattle.std.proofs.Common.{◌≡◌, ◌≢◌, inl, inr, ◌∙◌, ℕ, ◌≤◌, List, [], ◌∷◌, Contains, None, refl, sym, ap, subst, arith}
use Rattle.bx_base.specs.declared.names.Actor.TheVariants.{Node}
use Rattle.bx_disk.specs.Disks.{Disks}
use Rattle.bx_facts.specs.declared.owners.Owners as owners
use Rattle.bx_facts.specs.declared.register.Register as register
use Rattle.bx_facts.specs.declared.store.Store as store
use Rattle.bx_facts.specs.Chains.{AreLegal, Chain, HasRow, IsAmong, IsPlace, LivesIn, last, state_after}
use Rattle.bx_global.specs.Allowed.{IsAllowed}
use Rattle.bx_global.specs.declared.change.Change.{Change}
use Rattle.bx_global.specs.declared.change.Change.TheVariants.{Close}
use Rattle.bx_global.specs.declared.state.GlobalState.{GlobalState}
use Rattle.bx_global.proofs.Rising.{index_rises}
use Rattle.bx_node_machines.specs.Recovering.{Recovers}
use Rattle.bx_recover.specs.declared.stage.Stage.TheVariants.{Begins}
use Rattle.bx_views.specs.Attempts.{Deed}
use Rattle.bx_views.specs.Truths.{Hints, Truth}
use Rattle.bx_world_chains.specs.Entitled.{AreAllowed, IsEntitled}
use Rattle.bx_world_chains.proofs.Chains.{entitled_last, has_less, index_most}
use Rattle.bx_world_chains.proofs.Rows.{has_before, has_of, lives_before, lives_has}
use Rattle.bx_world_standing.specs.Standing.{Course, Known}

-- What was claimed by a state is so by each that comes later, while the session is live and the other has its row.
entitled_from : (first : GlobalState) (changes : List Change) (known s : GlobalState) (owner slot session : ℕ) → ((one : GlobalState) → IsAmong first changes one → IsAllowed one) → AreLegal first changes → IsAmong first changes known
    → IsEntitled known owner slot session → LivesIn (state_after first changes) session → HasRow (state_after first changes) owner → IsAmong first changes s → known.index ≤ s.index → IsEntitled s owner slot session
entitled_from first [] known s owner slot session all legal at entitled lives has there less = subst (λ (one : GlobalState). IsEntitled one owner slot session) (at ∙ sym there) entitled
entitled_from first (change ∷ older) known s owner slot session all legal at entitled lives has (inl is) less =
    subst (λ (one : GlobalState). IsEntitled one owner slot session) (sym is)
    (entitled_last (record { found = 0; first = first; changes = change ∷ older }) known owner slot session (record { each = all }) legal at entitled lives has)
entitled_from first (change ∷ older) known s owner slot session all legal (inl is) entitled lives has (inr there) less =
    let most = index_most (record { found = 0; first = first; changes = older }) s there in
    let rises = index_rises (state_after first older) change in
    let same = ap (λ (one : GlobalState). one.index) is in
    absurd (omega (arith, most, rises, same, less))
entitled_from first (change ∷ older) known s owner slot session all legal (inr at) entitled lives has (inr there) less =
    let before : Chain = record { found = 0; first = first; changes = older } in
    let allowed : AreAllowed before = record { each = λ one among. all one (inr among) } in
    entitled_from first older known s owner slot session (λ one among. all one (inr among)) legal.1 at entitled
    (lives_before (state_after first older) change session (all (state_after first older) (inr (last_in first older))) lives (has_less before known session allowed at (lives_has known session entitled.lives)))
    (has_before (state_after first older) change owner has (has_less before known owner allowed at (has_of known owner entitled.row entitled.is)))
    there less
  where
    last_in : (f : GlobalState) (cs : List Change) → IsAmong f cs (state_after f cs)
    last_in f [] = refl
    last_in f (c ∷ cs) = inl refl

module _ {G O S T : Type 0} (g : register.Ghosts G) (o : owners.Ghosts O) (st : store.Ghosts S) (Stands : Truth → Hints → T → Type 0) (Step_is : T → Deed → T → Type 0)
    (register_is : G) (owners_are : O) (store_is : S) (x : Disks) (known : Known) (c : Course) (node session gone slot : ℕ) where
  -- Its node has no write and no read out, and hasn't proposed that the dead one is closed.
  pub new_recovers : (s : GlobalState) → AreAllowed c.register.chain → AreLegal c.register.chain.first c.register.chain.changes → IsPlace c.register.chain s → s.index ≤ c.store.told.knew (Node node) → IsEntitled s gone slot session
      → LivesIn (last c.register.chain) session → HasRow (last c.register.chain) gone → gone ≢ session → (Contains c.register.proposed (Close gone session) → ⊥) → st.out_of store_is node ≡ None → st.asked store_is node ≡ None
      → Recovers g o st Stands Step_is register_is owners_are store_is x known c node session gone slot Begins []
  new_recovers s allowed legal place low entitled lives has other unproposed none_out none_asked = record {
    claimed = entitled_last c.register.chain s gone slot session allowed legal place entitled lives has;
    known = λ one at less. entitled_from c.register.chain.first c.register.chain.changes s one gone slot session allowed.each legal place entitled lives has at (omega (arith, low, less));
    other = other;
    unproposed = λ under_way. unproposed;
    steps = [];
    done = (refl, refl);
    at = (none_out, none_asked, refl);
  }
