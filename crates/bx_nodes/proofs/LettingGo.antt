-- A node lets a block go that its session gives up, or wants otherwise: by the promises of owners, store and register there is a later course.
use Rattle.std.proofs.Common.{◌≡◌, ◌≢◌, ℕ, ◌++◌, false, true, List, Contains, Option, Some, None, IfSome, refl, sym, ◌∙◌, ap, subst}
use Rattle.std.specs.Prelude.{slice_get}
use Rattle.bx_base.specs.declared.names.Actor.TheVariants.{Node}
use Rattle.bx_base.specs.declared.names.Mode.{Mode}
use Rattle.bx_base.specs.declared.names.Mode.TheVariants.{Exclusive, Shared}
use Rattle.bx_disk.specs.Disks.{Disks}
use Rattle.bx_facts.specs.declared.register.Register as register
use Rattle.bx_facts.specs.declared.store.Store as store
use Rattle.bx_facts.specs.Chains.{Chain, HasRow, LivesIn, last}
use Rattle.bx_facts.specs.Holds.{Hold, Holds, KeepsOthers, OwnersPast, is_exclusive}
use Rattle.bx_facts.specs.Inputs.{AreAmong, IsOwners, IsRegisters, IsStores, SendsOnly}
use Rattle.bx_facts.specs.Pasts.{RegisterPast}
use Rattle.bx_facts.specs.Writes.{GoesOn, Sent, StorePast}
use Rattle.bx_node_cache.specs.Kept.{held_in, hint_in, kept_in, shown_of}
use Rattle.bx_node_cache.specs.declared.cache.Kept.{Kept}
use Rattle.bx_node_events.proofs.Wanted.{LeavesFetch, released}
use Rattle.bx_node_events.specs.bx_node_holds.proofs.Released.{with_holds}
use Rattle.bx_node_machines.specs.Machines as words
use Rattle.bx_node_machines.specs.Machines.{MachineView}
use Rattle.bx_node_machines.specs.Nodes.{NodesStand}
use Rattle.bx_node_machines.proofs.Showing.{sees_truth}
use Rattle.bx_nodes.specs.Asks.{Later}
use Rattle.bx_node_steps.specs.Changing.{LetsGo}
use Rattle.bx_node_steps.specs.Seen.{stage_of, view_of}
use Rattle.bx_node_steps.specs.declared.machine.Machine.{Machine}
use Rattle.bx_node_steps.specs.declared.machine.Stage.TheVariants.{Idle}
use Rattle.bx_nodes.proofs.Caches.{hides_it, hints_left, home_left, leaves_fetch}
use Rattle.bx_nodes.proofs.Letters.{owners_send_no_registers, owners_send_no_stores}
use Rattle.bx_facts.specs.declared.owners.Owners as owners
use Rattle.bx_places.specs.Places.{is_block}
use Rattle.bx_global.specs.Allowed.{IsAllowed}
use Rattle.bx_post.specs.declared.packets.Letter.{Letter}
use Rattle.bx_views.specs.Attempts.{Deed}
use Rattle.bx_views.specs.Truths.{Hints, Truth, with_hint}
use Rattle.bx_world_chains.proofs.Rows.{lives_row}
use Rattle.bx_world_standing.specs.Parts.{Clocks}
use Rattle.bx_world_standing.specs.Rights.{IsReached}
use Rattle.bx_world_standing.specs.Sessions.{IsOfNode}
use Rattle.bx_world_standing.specs.Standing.{Course}

module _ {G O S T : Type 0} (g : register.Ghosts G) (o : owners.Ghosts O) (st : store.Ghosts S) (Stands : Truth → Hints → T → Type 0) (Step : T → Deed → T → Type 0)
    (register_is : G) (owners_are owners_then : O) (store_is : S) (x : Disks) (letters out_old out_new : List Letter) (clocks : Clocks) (machines later : List MachineView) (c : Course) (tree : T)
    (node session block engine_areas : ℕ) (before after : Machine) (holding : Holds) (floor : ℕ → ℕ)
    (stands : NodesStand g o st Stands Step register_is owners_are store_is x (letters ++ out_old) clocks machines c tree)
    (up : clocks.down (Node node) ≡ false) (own : o.own owners_are node ≡ Some session) (live : LivesIn (last c.register.chain) session) (allowed : IsAllowed (last c.register.chain))
    (there : slice_get machines node ≡ Some (view_of before)) (mark : before.session ≡ Some session) (rests : before.stage ≡ Idle)
    (then_there : slice_get later node ≡ Some (view_of after)) (others : (other : ℕ) → other ≢ node → slice_get later other ≡ slice_get machines other)
    (goes : LetsGo block before after)
    (sends : SendsOnly IsOwners out_old out_new)
    (register_loses : (past : RegisterPast) (some : List Letter) → g.keeps register_is x past → AreAmong IsRegisters some past.letters → g.keeps register_is x (record past { letters = some }))
    (store_loses : (past : StorePast) (some : List Letter) → st.keeps store_is x past → AreAmong IsStores some past.told.letters
    → st.keeps store_is x (record past { told = record past.told { letters = some } })
    × GoesOn past.writes past.told.greatest (st.asked store_is) (st.settled store_is x past) (st.settled store_is x (record past { told = record past.told { letters = some } }))
    (st.will_read store_is x past) (st.will_read store_is x (record past { told = record past.told { letters = some } })) (st.stands store_is x past) (st.stands store_is x (record past { told = record past.told { letters = some } })))
    (owners_apart : (past : OwnersPast) (one other at : ℕ) (hold other_hold : Hold) → o.keeps owners_then past → HasRow (last past.told.chain) one → HasRow (last past.told.chain) other → other ≢ one
    → past.holding one at ≡ Some hold → past.holding other at ≡ Some other_hold → (hold.0 ≡ Shared) × (other_hold.0 ≡ Shared))
    (hints_at : (truth : Truth) (hints : Hints) (tree : T) (at : ℕ) → Stands truth hints tree → is_block engine_areas at ≡ true → Stands truth (with_hint at (truth at) hints) tree)
    (is_of_engine : IfSome (kept_in before.cache.kept block) (λ one. is_block engine_areas block ≡ true))
    (same_own : (other : ℕ) → o.own owners_then other ≡ o.own owners_are other)
    (keeps : o.keeps owners_then (with_holds c (letters ++ out_new) holding floor).owners) (may : KeepsOthers session block c.owners.holding holding)
    (free : (write : Sent) → Contains c.store.writes write → write.session ≡ session → is_exclusive (c.owners.holding session block) ≡ false)
    (reaches : (place index : ℕ) → IsReached (st.made store_is).devices (st.made store_is).areas c.register.chain c.owners.holding c.owners.floor (IsOfNode o.by_boot clocks) (λ n. c.store.told.knew (Node n)) place index
    → IsReached (st.made store_is).devices (st.made store_is).areas c.register.chain holding floor (IsOfNode o.by_boot clocks) (λ n. c.store.told.knew (Node n)) place index) where
  register_keeps : g.keeps register_is x (with_holds c (letters ++ out_new) holding floor).register
  register_keeps = register_loses c.register (letters ++ out_new) stands.at.parts.register_keeps (owners_send_no_registers letters out_old out_new c.register.letters stands.at.pasts.letters sends)

  store_goes : st.keeps store_is x (with_holds c (letters ++ out_new) holding floor).store
      × GoesOn c.store.writes c.store.told.greatest (st.asked store_is) (st.settled store_is x c.store) (st.settled store_is x (with_holds c (letters ++ out_new) holding floor).store)
      (st.will_read store_is x c.store) (st.will_read store_is x (with_holds c (letters ++ out_new) holding floor).store) (st.stands store_is x c.store) (st.stands store_is x (with_holds c (letters ++ out_new) holding floor).store)
  store_goes = store_loses c.store (letters ++ out_new) stands.at.parts.store_keeps (owners_send_no_stores letters out_old out_new c.store.told.letters stands.at.pasts.store_letters sends)

  apart : (one other at : ℕ) (hold other_hold : Hold) → HasRow (last c.register.chain) one → HasRow (last c.register.chain) other → other ≢ one → holding one at ≡ Some hold → holding other at ≡ Some other_hold → (hold.0 ≡ Shared) × (other_hold.0 ≡ Shared)
  apart one other at hold other_hold has has_other ne is is_other =
      owners_apart (with_holds c (letters ++ out_new) holding floor).owners one other at hold other_hold keeps
      (subst (λ (chain : Chain). HasRow (last chain) one) (sym stands.at.pasts.owners_chain) has) (subst (λ (chain : Chain). HasRow (last chain) other) (sym stands.at.pasts.owners_chain) has_other) ne is is_other

  agree : Stands c.truth (hint_in after.cache.hinted) tree
  agree =
      let seen_it = sees_truth g o st Stands Step register_is owners_are store_is x (letters ++ out_old) clocks machines c tree node session (view_of before) stands up own live there mark in
      hints_left (λ hints. Stands c.truth hints tree) block (kept_in before.cache.kept block) before.cache.hinted after.cache.hinted goes.hint goes.hints seen_it.1
      (by (kept_in before.cache.kept block) refl is_of_engine (λ mode one has. seen_it.0.is_truth.each block mode one has) seen_it.1)
    where
      shown_some : (one : Kept) → (mode : Mode) × (shown_of (Some one) mode ≡ Some one.block)
      shown_some one = by_mode one.mode
        where
          by_mode : (mode : Mode) → (way : Mode) × (shown_of (Some (record one { mode = mode })) way ≡ Some one.block)
          by_mode Exclusive = (Exclusive, refl)
          by_mode Shared = (Shared, refl)

      by : (found : Option Kept) → kept_in before.cache.kept block ≡ found → IfSome found (λ one. is_block engine_areas block ≡ true) → ((mode : Mode) (one : _) → held_in before.cache.kept block mode ≡ Some one → c.truth block ≡ one)
          → Stands c.truth (hint_in before.cache.hinted) tree → IfSome found (λ one. Stands c.truth (with_hint block one.block (hint_in before.cache.hinted)) tree)
      by None is none truth_is was = tt
      by (Some one) is some truth_is was =
          let shows = shown_some one in
          let e = truth_is shows.0 one.block (ap (λ (k : Option Kept). shown_of k shows.0) is ∙ shows.1) in
          subst (λ b. Stands c.truth (with_hint block b (hint_in before.cache.hinted)) tree) e (hints_at c.truth (hint_in before.cache.hinted) tree block was some)

  idle : (view_of before).stage ≡ words.Idle
  idle = ap stage_of rests

  pub lets_go : Later (λ course. NodesStand g o st Stands Step register_is owners_then store_is x (letters ++ out_new) clocks later course tree) c
  lets_go =
      let row = lives_row (last c.register.chain) session live in
      record {
        later = with_holds c (letters ++ out_new) holding floor;
        chain = refl;
        knew = refl;
        logs = refl;
        works = record { slots = refl; doubts = refl };
        stands = released g o st Stands Step register_is owners_are owners_then store_is x (letters ++ out_old) (letters ++ out_new) clocks machines later c tree node session block row.0 (view_of before)
            (view_of after).held (view_of after).away (view_of after).hints (view_of after).fetch holding floor stands up own allowed row.1 row.2 there mark idle
            (then_there ∙ ap (λ (m : Machine). Some (record (view_of m) { held = (view_of after).held; away = (view_of after).away; hints = (view_of after).hints; fetch = (view_of after).fetch })) goes.only)
            others register_keeps keeps store_goes.0 store_goes.1 same_own may (record { each = apart })
            (hides_it block before.cache.kept after.cache.kept goes.kept) (home_left block before.cache.kept after.cache.kept goes.kept) agree
            (subst (λ (m : Machine). LeavesFetch block (view_of before).fetch (view_of m).fetch) (sym goes.only) (leaves_fetch block before.fetch))
            free reaches;
      }
