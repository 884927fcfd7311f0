-- A machine stops inside an event: at a fault of its disk, in what it was handed or as it started again. What it would have sent isn't sent.
use Rattle.std.proofs.Common.{◌≡◌, ◌≢◌, inl, ℕ, ◌≤◌, true, false, List, Contains, Some, refl, sym, ◌∙◌, subst, arith}
use Rattle.bx_base.specs.declared.names.Actor.{Actor}
use Rattle.bx_base.specs.declared.names.Actor.TheVariants.{Node}
use Rattle.bx_disk.specs.Disks.{Disks}
use Rattle.bx_facts.specs.declared.register.Register as register
use Rattle.bx_facts.specs.declared.store.Store as store
use Rattle.bx_facts.specs.declared.owners.Owners as owners
use Rattle.bx_facts.specs.Chains.{HasOwnBoot, HasRow, IsOwnersOwn, IsStoresOwn, last, session_by}
use Rattle.bx_facts.specs.Holds.{KeepsHolds, OwnersPast}
use Rattle.bx_facts.specs.Machines.{put_at}
use Rattle.bx_facts.specs.Pasts.{RegisterPast}
use Rattle.bx_facts.specs.Writes.{IsOnly, Sent, StorePast}
use Rattle.bx_global.specs.declared.change.Change.{Change}
use Rattle.bx_global.specs.declared.change.Change.TheVariants.{Close}
use Rattle.bx_post.specs.declared.packets.Letter.{Letter}
use Rattle.bx_views.specs.Attempts.{Deed}
use Rattle.bx_views.specs.Truths.{Hints, Truth}
use Rattle.bx_world_views.specs.Views.{AreApart}
use Rattle.bx_world_stays.specs.bx_world_standing.specs.Parts.{Clocks}
use Rattle.bx_world_stays.specs.bx_world_standing.specs.Labels.{LabelsStand}
use Rattle.bx_world_stays.specs.bx_world_standing.specs.Standing.{Course, Known, StandsAt, own_up}
use Rattle.bx_world_stays.specs.bx_world_standing.proofs.Owns.{own_is, own_of}
use Rattle.bx_world_stops.proofs.Crashed.{up_then}
use Rattle.bx_world_stays.proofs.Stays.{stays}

-- What the three were told is as it was but at that machine, which is down; readings may be later.
pub record Stops (known : Known) (c : Course) (who : Actor) (clocks : Clocks) (letters : List Letter) (r : RegisterPast) (op : OwnersPast) (sp : StorePast) : Type 0 where
  pub clocks_down : (other : Actor) → clocks.down other ≡ put_at who true known.clocks.down other
  pub clocks_boots : (other : Actor) → who ≢ other → clocks.boots other ≡ known.clocks.boots other
  pub most : known.clocks.most ≤ clocks.most
  pub owners_chain : op.told.chain ≡ c.register.chain
  pub store_chain : sp.told.chain ≡ c.register.chain
  pub letters_are : r.letters ≡ letters
  pub owners_letters : op.told.letters ≡ letters
  pub store_letters : sp.told.letters ≡ letters
  pub down : (other : Actor) → r.down other ≡ clocks.down other
  pub owners_down : (other : Actor) → op.told.down other ≡ clocks.down other
  pub store_down : (other : Actor) → sp.told.down other ≡ clocks.down other
  pub boots : (other : Actor) → r.boots other ≤ clocks.most
  pub owners_most : (other : Actor) → op.told.boots other ≤ clocks.most
  pub store_most : (other : Actor) → sp.told.boots other ≤ clocks.most
  pub owners_boots : (other : Actor) → who ≢ other → op.told.boots other ≡ c.owners.told.boots other
  pub store_boots : (other : Actor) → who ≢ other → sp.told.boots other ≡ c.store.told.boots other
  pub owners_handed : op.told.handed ≡ c.owners.told.handed
  pub store_handed : sp.told.handed ≡ c.store.told.handed
  pub proposed : r.proposed ≡ c.register.proposed
  pub owners_greatest : op.told.greatest ≤ sp.told.greatest
  pub greatest : sp.told.greatest ≤ clocks.greatest
  pub later : c.store.told.greatest ≤ sp.told.greatest
  pub store_knew : (other : Actor) → who ≢ other → sp.told.knew other ≡ c.store.told.knew other
  pub writes : sp.writes ≡ c.store.writes
  pub leases : op.leases ≡ c.owners.leases
  pub floor : (at : ℕ) → c.owners.floor at ≤ op.floor at
  pub holds : KeepsHolds c.owners.holding op.holding

module _ {G O S T : Type 0} (g : register.Ghosts G) (o : owners.Ghosts O) (st : store.Ghosts S) (Stands : Truth → Hints → T → Type 0) (Step : T → Deed → T → Type 0) where
  pub stopped : (register_is register_then : G) (owners_are owners_then : O) (store_is store_then : S) (x y : Disks) (known : Known) (c : Course) (tree : T)
      (who : Actor) (clocks : Clocks) (letters : List Letter) (r : RegisterPast) (op : OwnersPast) (sp : StorePast)
      → StandsAt g o st Stands Step register_is owners_are store_is x known c tree
      → Stops known c who clocks letters r op sp
      → g.keeps register_then y (record r { chain = c.register.chain })
      → o.keeps owners_then op
      → ((other : Actor) → op.told.knew other ≤ (g.knows register_then other).index)
      → ((other : Actor) → sp.told.knew other ≤ (g.knows register_then other).index)
      → ((node : ℕ) → who ≢ Node node → o.own owners_then node ≡ o.own owners_are node)
      → st.keeps store_then y sp
      → ((d s : ℕ) (content : List ℕ) (index : ℕ) → IsOnly c.store.writes c.store.told.greatest d s content → st.stands store_is x c.store d s content index → st.stands store_then y sp d s content index)
      → ((node : ℕ) → who ≢ Node node → st.own store_then node ≡ st.own store_is node)
      → st.made store_then ≡ st.made store_is
      → LabelsStand (st.made store_is) y
      → ((past : OwnersPast) → o.keeps owners_then past → AreApart past.holding (HasRow (last past.told.chain)))
      → StandsAt g o st Stands Step register_then owners_then store_then y (record known { letters = letters; clocks = clocks }) (record c { register = record r { chain = c.register.chain }; owners = op; store = sp }) tree
  stopped register_is register_then owners_are owners_then store_is store_then x y known c tree who clocks letters r op sp at is register_keeps owners_keep owners_knew store_knew own store_keeps stands others made labels apart =
      stays g o st Stands Step register_is register_then owners_are owners_then store_is store_then x y known (record known { letters = letters; clocks = clocks }) c r op sp tree at
      (record {
        owners_chain = is.owners_chain;
        store_chain = is.store_chain;
        letters = is.letters_are;
        owners_letters = is.owners_letters;
        store_letters = is.store_letters;
        down = is.down;
        owners_down = is.owners_down;
        store_down = is.store_down;
        boots = is.boots;
        owners_most = is.owners_most;
        store_most = is.store_most;
        owners_boots = λ other up. let was = before other up in is.owners_boots other was.1 ∙ at.pasts.owners_boots other was.0 ∙ sym (is.clocks_boots other was.1);
        store_boots = λ other up. let was = before other up in is.store_boots other was.1 ∙ at.pasts.store_boots other was.0 ∙ sym (is.clocks_boots other was.1);
        own_boots = λ other up. let was = before other up in subst (λ (n : ℕ). HasOwnBoot c.register.chain n) (sym (is.clocks_boots other was.1)) (at.pasts.own_boots other was.0);
        next_boots = λ boot less. at.pasts.next_boots boot (let m = is.most in omega (arith, less, m));
        proposed = λ change there.
            let old = at.pasts.proposed change (subst (λ (all : List Change). Contains all change) is.proposed there) in
            (subst (λ (handed : List Change). IsOwnersOwn handed change) (sym is.owners_handed) old.0, subst (λ (handed : List Change). IsStoresOwn handed change) (sym is.store_handed) old.1);
        owners_greatest = is.owners_greatest;
        greatest = is.greatest;
      })
      (record {
        register_keeps = register_keeps;
        owners_keep = owners_keep;
        store_keeps = store_keeps;
        owners_knew = owners_knew;
        store_knew = store_knew;
        same_boots = at.parts.same_boots;
        own = λ node up. let was = before (Node node) up in own node was.1 ∙ at.parts.own node was.0 ∙ sym (others node was.1);
      })
      (subst (λ m. LabelsStand m y) (sym made) labels) made is.holds is.floor
      (λ session end there. subst (λ (all : List (ℕ × ℕ)). Contains all (session, end)) (sym is.leases) there) is.writes is.later
      stands
      (λ node session row found lives of.
      let was = before (Node node) of.up in
      (record { up = was.0; of = of.of; boot = λ so. of.boot so ∙ is.clocks_boots (Node node) was.1 }, let e = is.store_knew (Node node) was.1 in omega (arith, e)))
      (record {
        told = λ node session has. let had = owned node session has in let t = at.sessions.told node session had.0 in
            record { state = t.state; place = t.place; at = t.at ∙ sym (is.store_knew (Node node) had.1); by = subst (λ (n : ℕ). session_by o.by_boot t.state node n ≡ Some session) (sym (is.clocks_boots (Node node) had.1)) t.by };
      })
      (λ node session has lives. inl (owned node session has).0)
      (λ node other session has has_too lives. at.volume.single node other session (owned node session has).0 (owned other session has_too).0 lives)
      (subst (λ chain. AreApart op.holding (HasRow (last chain))) is.owners_chain (apart op owners_keep))
      (λ gone by there. at.closings gone by (subst (λ (all : List Change). Contains all (Close gone by)) is.proposed there))
      (λ node session place mode block own_is lives shows. shows) (λ node. inl refl)
    where
      before : (other : Actor) → clocks.down other ≡ false → (known.clocks.down other ≡ false) × (who ≢ other)
      before other up = up_then known.clocks.down who other (sym (is.clocks_down other) ∙ up)

      owned : (node session : ℕ) → own_up clocks.down (o.own owners_then) node ≡ Some session → (own_up known.clocks.down (o.own owners_are) node ≡ Some session) × (who ≢ Node node)
      owned node session has =
          let had = own_of clocks.down (o.own owners_then) node session has in
          let was = before (Node node) had.0 in
          (own_is known.clocks.down (o.own owners_are) node session was.0 (sym (own node was.1) ∙ had.1), was.1)
