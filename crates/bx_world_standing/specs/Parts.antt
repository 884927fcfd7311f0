-- How register, owners and store stand: what was done with each is one history.
use Rattle.std.specs.Prelude.{◌≡◌, ℕ, ◌<◌, ◌≤◌, Bool, false, List, Contains}
use Rattle.bx_base.specs.declared.names.Actor.{Actor}
use Rattle.bx_base.specs.declared.names.Actor.TheVariants.{Node}
use Rattle.bx_disk.specs.Disks.{Disks}
use Rattle.bx_facts.specs.declared.register.Register as register
use Rattle.bx_facts.specs.declared.store.Store as store
use Rattle.bx_facts.specs.declared.owners.Owners as owners
use Rattle.bx_facts.specs.Chains.{HasOwnBoot, IsOwnersOwn, IsStoresOwn}
use Rattle.bx_facts.specs.Holds.{OwnersPast}
use Rattle.bx_facts.specs.Pasts.{RegisterPast}
use Rattle.bx_facts.specs.Writes.{StorePast}
use Rattle.bx_global.specs.declared.change.Change.{Change}
use Rattle.bx_post.specs.declared.packets.Letter.{Letter}

-- Which machines are down; the boot of each, and one that is above none of them; the greatest reading.
pub record Clocks : Type 0 where
  pub down : Actor → Bool
  pub boots : Actor → ℕ
  pub most : ℕ
  pub greatest : ℕ

-- The pasts of the three are of one chain, the same letters and the same machines. What was proposed, the owners and the store asked for, where they ask for such.
pub record ArePasts (posted : List Letter) (clocks : Clocks) (r : RegisterPast) (o : OwnersPast) (s : StorePast) : Type 0 where
  pub owners_chain : o.told.chain ≡ r.chain
  pub store_chain : s.told.chain ≡ r.chain
  pub letters : r.letters ≡ posted
  pub owners_letters : o.told.letters ≡ posted
  pub store_letters : s.told.letters ≡ posted
  pub down : (who : Actor) → r.down who ≡ clocks.down who
  pub owners_down : (who : Actor) → o.told.down who ≡ clocks.down who
  pub store_down : (who : Actor) → s.told.down who ≡ clocks.down who
  pub boots : (who : Actor) → r.boots who ≤ clocks.most
  pub owners_most : (who : Actor) → o.told.boots who ≤ clocks.most
  pub store_most : (who : Actor) → s.told.boots who ≤ clocks.most
  pub owners_boots : (who : Actor) → clocks.down who ≡ false → o.told.boots who ≡ clocks.boots who
  pub store_boots : (who : Actor) → clocks.down who ≡ false → s.told.boots who ≡ clocks.boots who
  pub own_boots : (who : Actor) → clocks.down who ≡ false → HasOwnBoot r.chain (clocks.boots who)
  pub next_boots : (boot : ℕ) → clocks.most < boot → HasOwnBoot r.chain boot
  pub proposed : (change : Change) → Contains r.proposed change → IsOwnersOwn o.told.handed change × IsStoresOwn s.told.handed change
  pub owners_greatest : o.told.greatest ≤ s.told.greatest
  pub greatest : s.told.greatest ≤ clocks.greatest

-- The three fit these pasts, and what each machine knows; and tell the same sessions.
pub record PartsStand {G O S : Type 0} (g : register.Ghosts G) (o : owners.Ghosts O) (st : store.Ghosts S) (register_is : G) (owners_are : O) (store_is : S) (x : Disks) (clocks : Clocks) (rp : RegisterPast) (op : OwnersPast) (sp : StorePast) : Type 0 where
  pub register_keeps : g.keeps register_is x rp
  pub owners_keep : o.keeps owners_are op
  pub store_keeps : st.keeps store_is x sp
  pub owners_knew : (who : Actor) → op.told.knew who ≤ (g.knows register_is who).index
  pub store_knew : (who : Actor) → sp.told.knew who ≤ (g.knows register_is who).index
  pub same_boots : o.by_boot ≡ st.by_boot
  pub own : (node : ℕ) → clocks.down (Node node) ≡ false → o.own owners_are node ≡ st.own store_is node
