-- A recovery has written the newest blocks of its records home: the whole stands, and the log may be closed.
use Rattle.std.proofs.Common.{◌≡◌, ◌≢◌, ◌∙◌, ℕ, ◌<◌, List, Contains, length, reverse, sym, ap}
use Rattle.std.specs.List.{AllByRecursion}
use Rattle.std.proofs.lemmas.List.{reverse-reverse}
use Rattle.bx_disk.specs.Disks.{Disks}
use Rattle.bx_facts.specs.declared.register.Register as register
use Rattle.bx_facts.specs.declared.store.Store as store
use Rattle.bx_facts.specs.Chains.{last}
use Rattle.bx_facts.specs.Writes.{Sent, WritesIn}
use Rattle.bx_global.specs.Allowed.{IsAllowed}
use Rattle.bx_global.specs.declared.change.Change.TheVariants.{Close}
use Rattle.bx_facts.specs.declared.owners.Owners as owners
use Rattle.bx_records.specs.Drafts.{Changed}
use Rattle.bx_records.specs.declared.runs.Run.{Run}
use Rattle.bx_redo.specs.Homes.{AreItsHomes, with_runs}
use Rattle.bx_redo.specs.declared.work.Work.TheVariants as works
use Rattle.bx_views.specs.Attempts.{Deed}
use Rattle.bx_views.specs.Truths.{Hints, Truth}
use Rattle.bx_volume.specs.Overlay.{Logs}
use Rattle.bx_volume.specs.Records.{IsLogged, Logged}
use Rattle.bx_world_chains.specs.Entitled.{IsEntitled}
use Rattle.bx_world_logs.specs.Logs.{Found, OfLog}
use Rattle.bx_world_standing.specs.Standing.{Course, Known, StandsAt, SureOf}
use Rattle.bx_node_events.proofs.Homing.{are_homed, homes_same, slots_same, truth_then}
use Rattle.bx_node_landings.proofs.Landed.{with_landed}
use Rattle.bx_recover.specs.HomesOf.{AreNewestOf, home_runs}
use Rattle.bx_recover.proofs.HomesOf.{its_homes}
use Rattle.bx_node_recovers.proofs.Landed.{homes_at, low}

-- what it writes home are the homes of the log's blocks
pub homes_are : (devices areas slot : ℕ) (logs : Logs) (records : List Logged) (blocks : List Changed) → AreNewestOf records blocks → AllByRecursion (IsLogged areas) records → records ≡ reverse (logs slot)
    → AreItsHomes devices areas logs slot (home_runs devices blocks)
homes_are devices areas slot logs records blocks newest logged are = its_homes devices areas slot logs records blocks newest logged (sym (reverse-reverse (logs slot)) ∙ ap reverse (sym are))

module _ {G O S T : Type 0} (g : register.Ghosts G) (o : owners.Ghosts O) (st : store.Ghosts S) (Stands : Truth → Hints → T → Type 0) (Step : T → Deed → T → Type 0)
    (register_is : G) (owners_are : O) (store_is : S) (x : Disks) (known : Known) (c : Course) (tree : T) (gone session slot : ℕ)
    (at : StandsAt g o st Stands Step register_is owners_are store_is x known c tree)
    (allowed : IsAllowed (last c.register.chain)) (entitled : IsEntitled (last c.register.chain) gone slot session)
    (none_sent : (write : Sent) → Contains c.store.writes write → write.session ≢ session) (unproposed : Contains c.register.proposed (Close gone session) → ⊥) where
  pub homed_at : (next : Logged) (runs : List Run) → (c.slots slot).activity ≡ Found → 0 < length (c.logs slot) → AreItsHomes (st.made store_is).devices (st.made store_is).areas c.logs slot runs
      → ((d s : ℕ) (content : List ℕ) → WritesIn runs d s content → SureOf g o st Stands Step register_is owners_are store_is x known c d s content)
      → StandsAt g o st Stands Step register_is owners_are store_is x known (with_landed c slot c.logs (record { activity = OfLog works.Closes; more = next }) (with_runs c.before runs)) tree
  homed_at next runs rests some its sure =
      let less = low g o st Stands Step register_is owners_are store_is x known c tree gone session slot at allowed entitled none_sent unproposed in
      homes_at g o st Stands Step register_is owners_are store_is x known c tree gone session slot at allowed entitled none_sent unproposed next (with_runs c.before runs) rests some
      (λ other d s few inside. slots_same (st.made store_is).devices (st.made store_is).areas at.logs.volume c.logs slot less runs its (SureOf g o st Stands Step register_is owners_are store_is x known c) (last c.register.chain).sessions c.before c.slots c.truth at.logs sure other d s few inside)
      (λ block i is none few. homes_same (st.made store_is).devices (st.made store_is).areas at.logs.volume c.logs slot less runs its (SureOf g o st Stands Step register_is owners_are store_is x known c) (last c.register.chain).sessions c.before c.slots c.truth at.logs sure block i is none few)
      (truth_then (st.made store_is).devices (st.made store_is).areas at.logs.volume c.logs slot less runs its (SureOf g o st Stands Step register_is owners_are store_is x known c) (last c.register.chain).sessions c.before c.slots c.truth at.logs sure)
      (are_homed (st.made store_is).devices (st.made store_is).areas at.logs.volume c.logs slot less runs its (SureOf g o st Stands Step register_is owners_are store_is x known c) (last c.register.chain).sessions c.before c.slots c.truth at.logs sure)
