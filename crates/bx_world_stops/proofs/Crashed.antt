-- A machine stops.
use Rattle.std.proofs.Common.{◌≡◌, ◌≢◌, inl, ℕ, ◌≤◌, Bool, true, false, List, Some, refl, sym, ◌∙◌, ap, subst, arith}
use Rattle.std.specs.Prelude.{if◌then◌else◌}
use Rattle.bx_base.specs.declared.names.Actor.{Actor}
use Rattle.bx_base.specs.declared.names.Actor.TheVariants.{Node}
use Rattle.bx_disk.specs.Disks.{Disks}
use Rattle.bx_facts.specs.declared.register.Register as register
use Rattle.bx_facts.specs.declared.store.Store as store
use Rattle.bx_facts.specs.declared.owners.Owners as owners
use Rattle.bx_facts.specs.Chains.{HasRow, last}
use Rattle.bx_facts.specs.Holds.{OwnersPast, owners_crashed}
use Rattle.bx_facts.specs.Machines.{is_same, put_at}
use Rattle.bx_facts.specs.Pasts.{register_crashed}
use Rattle.bx_facts.specs.Writes.{store_crashed}
use Rattle.bx_facts.proofs.Machines.{is_itself}
use Rattle.bx_global.specs.declared.state.GlobalState.{GlobalState}
use Rattle.bx_views.specs.Attempts.{Deed}
use Rattle.bx_views.specs.Truths.{Hints, Truth}
use Rattle.bx_world_views.specs.Views.{AreApart}
use Rattle.bx_world_stays.specs.bx_world_standing.specs.Parts.{Clocks}
use Rattle.bx_world_stays.specs.bx_world_standing.specs.Labels.{LabelsStand}
use Rattle.bx_world_stays.specs.bx_world_standing.specs.Standing.{Course, Known, StandsAt, own_up}
use Rattle.bx_world_stays.specs.bx_world_standing.proofs.Owns.{own_is, own_of}
use Rattle.bx_world_stays.proofs.Stays.{stays}

abbrev pub crashed_clocks : Clocks → Actor → Clocks
crashed_clocks clocks who = record clocks { down = put_at who true clocks.down }

abbrev pub crashed_known : Known → Actor → Known
crashed_known known who = record known { clocks = crashed_clocks known.clocks who }

abbrev pub crashed_course : Course → Actor → Course
crashed_course c who = record c { register = register_crashed c.register who; owners = owners_crashed c.owners who; store = store_crashed c.store who }

-- who is up then was up, and isn't the one that stopped
pub up_then : (down : Actor → Bool) (who other : Actor) → put_at who true down other ≡ false → (down other ≡ false) × (who ≢ other)
up_then down who other is = by (is_same who other) refl
  where
    by : (b : Bool) → is_same who other ≡ b → (down other ≡ false) × (who ≢ other)
    by true same = absurd (let e : put_at who true down other ≡ true = ap (λ (t : Bool). if t then true else down other) same in cc)
    by false apart = (
      sym (ap (λ (t : Bool). if t then true else down other) apart) ∙ is,
      λ e. let f : is_same who other ≡ true = ap (is_same who) (sym e) ∙ is_itself who in absurd cc,
    )

same_put : (who other : Actor) (one two : Actor → Bool) → one other ≡ two other → put_at who true one other ≡ put_at who true two other
same_put who other one two is = ap (λ (d : Bool). if is_same who other then true else d) is

module _ {G O S T : Type 0} (g : register.Ghosts G) (o : owners.Ghosts O) (st : store.Ghosts S) (Stands : Truth → Hints → T → Type 0) (Step : T → Deed → T → Type 0) where
  pub crashed : (register_is register_then : G) (owners_are owners_then : O) (store_is store_then : S) (x : Disks) (known : Known) (c : Course) (tree : T) (who : Actor)
      → StandsAt g o st Stands Step register_is owners_are store_is x known c tree
      → g.keeps register_then x (register_crashed c.register who)
      → ((other : Actor) → g.knows register_then other ≡ g.knows register_is other)
      → o.keeps owners_then (owners_crashed c.owners who)
      → ((node : ℕ) → who ≢ Node node → o.own owners_then node ≡ o.own owners_are node)
      → st.keeps store_then x (store_crashed c.store who)
      → ((d s : ℕ) (content : List ℕ) (index : ℕ) → st.stands store_is x c.store d s content index → st.stands store_then x (store_crashed c.store who) d s content index)
      → ((node : ℕ) → who ≢ Node node → st.own store_then node ≡ st.own store_is node)
      → st.made store_then ≡ st.made store_is
      → ((past : OwnersPast) → o.keeps owners_then past → AreApart past.holding (HasRow (last past.told.chain)))
      → StandsAt g o st Stands Step register_then owners_then store_then x (crashed_known known who) (crashed_course c who) tree
  crashed register_is register_then owners_are owners_then store_is store_then x known c tree who at register_keeps knows owners_keep own store_keeps stands others made apart =
      stays g o st Stands Step register_is register_then owners_are owners_then store_is store_then x x known (crashed_known known who) c (register_crashed c.register who) (owners_crashed c.owners who) (store_crashed c.store who) tree at
      (record {
        owners_chain = at.pasts.owners_chain;
        store_chain = at.pasts.store_chain;
        letters = at.pasts.letters;
        owners_letters = at.pasts.owners_letters;
        store_letters = at.pasts.store_letters;
        down = λ other. same_put who other c.register.down known.clocks.down (at.pasts.down other);
        owners_down = λ other. same_put who other c.owners.told.down known.clocks.down (at.pasts.owners_down other);
        store_down = λ other. same_put who other c.store.told.down known.clocks.down (at.pasts.store_down other);
        boots = at.pasts.boots;
        owners_most = at.pasts.owners_most;
        store_most = at.pasts.store_most;
        owners_boots = λ other up. at.pasts.owners_boots other (up_then known.clocks.down who other up).0;
        store_boots = λ other up. at.pasts.store_boots other (up_then known.clocks.down who other up).0;
        own_boots = λ other up. at.pasts.own_boots other (up_then known.clocks.down who other up).0;
        next_boots = at.pasts.next_boots;
        proposed = at.pasts.proposed;
        owners_greatest = at.pasts.owners_greatest;
        greatest = at.pasts.greatest;
      })
      (record {
        register_keeps = register_keeps;
        owners_keep = owners_keep;
        store_keeps = store_keeps;
        owners_knew = λ other. subst (λ (s : GlobalState). c.owners.told.knew other ≤ s.index) (sym (knows other)) (at.parts.owners_knew other);
        store_knew = λ other. subst (λ (s : GlobalState). c.store.told.knew other ≤ s.index) (sym (knows other)) (at.parts.store_knew other);
        same_boots = at.parts.same_boots;
        own = λ node up. let still = up_then known.clocks.down who (Node node) up in own node still.1 ∙ at.parts.own node still.0 ∙ sym (others node still.1);
      })
      (subst (λ m. LabelsStand m x) (sym made) at.labels) made
      (record { each = λ session block hold is. is }) (λ block. omega arith) (λ session end is. is) refl (omega arith)
      (λ d s content index only is. stands d s content index is)
      (λ node session row is lives of. (record { up = (up_then known.clocks.down who (Node node) of.up).0; of = of.of; boot = of.boot }, omega arith))
      (record { told = λ node session is. let t = at.sessions.told node session (was node session is) in record { state = t.state; place = t.place; at = t.at; by = t.by } })
      (λ node session is lives. inl (was node session is))
      (λ node other session is is_other lives. at.volume.single node other session (was node session is) (was other session is_other) lives)
      (subst (λ chain. AreApart c.owners.holding (HasRow (last chain))) at.pasts.owners_chain (apart (owners_crashed c.owners who) owners_keep))
      at.closings (λ node session place mode block own_is lives is. is) (λ node. inl refl)
    where
      was : (node session : ℕ) → own_up (put_at who true known.clocks.down) (o.own owners_then) node ≡ Some session → own_up known.clocks.down (o.own owners_are) node ≡ Some session
      was node session is =
          let had = own_of (put_at who true known.clocks.down) (o.own owners_then) node session is in
          let still = up_then known.clocks.down who (Node node) had.0 in
          own_is known.clocks.down (o.own owners_are) node session still.0 (sym (own node still.1) ∙ had.1)
