-- The disks of a world are a volume for its tree; and what a crash of them leaves stands for it as an audit asks.
use Rattle.std.proofs.Common.{◌≡◌, ℕ, ◌≤◌, true, List, Option, Some, sym, ◌∙◌, subst}
use Rattle.bx_base.specs.declared.names.Actor.TheVariants.{Node}
use Rattle.bx_disk.specs.Disks.{Disks, Image, IsImage}
use Rattle.bx_facts.specs.declared.register.Register as register
use Rattle.bx_facts.specs.declared.store.Store as store
use Rattle.bx_facts.specs.declared.owners.Owners as owners
use Rattle.bx_facts.specs.Chains.{Chain, IsNext, IsStoresOwn, last}
use Rattle.bx_facts.specs.Writes.{IsOfStore, IsOnly, IsSettled, Made, StorePast, store_grown}
use Rattle.bx_global.specs.declared.change.Change.{Change}
use Rattle.bx_global.specs.declared.state.GlobalState.{GlobalState}
use Rattle.bx_global.specs.Table.{IsLegal}
use Rattle.bx_model.specs.declared.tree.Tree.{Tree}
use Rattle.bx_model.specs.FileTrees.{IsFileTree}
use Rattle.bx_rows.specs.Words.{row_in}
use Rattle.bx_rows.specs.declared.session.SessionRow.{SessionRow}
use Rattle.bx_truth.specs.Stands.{StandsFor}
use Rattle.bx_views.specs.Attempts.{Deed}
use Rattle.bx_views.specs.Truths.{Hints, Truth, no_hints}
use Rattle.bx_volume.specs.Images.{ImageStandsFor}
use Rattle.bx_volume.specs.Volumes.{IsVolumeFor}
use Rattle.bx_world_chains.specs.Entitled.{AreAllowed}
use Rattle.bx_world_chains.proofs.Chains.{last_place}
use Rattle.bx_volume.specs.Overlay.{Logs}
use Rattle.bx_world_standing.specs.bx_world_logs.specs.Logs.{LogsStand, opens}
use Rattle.bx_world_standing.specs.bx_world_logs.specs.Shown.{ShowsTo}
use Rattle.bx_world_images.proofs.Audited.{audit_stands}
use Rattle.bx_world_views.specs.Views.{Unacknowledged, StepOf}
use Rattle.bx_world_standing.specs.Rights.{IsWithin, Surely}
use Rattle.bx_world_standing.specs.Sessions.{IsOfNode}
use Rattle.bx_world_standing.proofs.Owns.{of_before}
use Rattle.bx_world_standing.specs.Closings.{ClosingStands}
use Rattle.bx_world_standing.specs.Standing.{Course, Known, StandsAt, SureOf, own_up}
use Rattle.bx_world_volumes.proofs.Readings.{StandsIn, next_stands, rack_is_volume}
use Rattle.bx_world_volumes.proofs.Trees.{trees_after}

-- what a store's laws say of one store and its disks
pub record AreStoreLaws (x : Disks) (made : Made) (keeps : StorePast → Type 0) (stands : StorePast → ℕ → ℕ → List ℕ → ℕ → Type 0) (settled : StorePast → ℕ → ℕ → List ℕ → Type 0) : Type 0 where
  pub settles : (past : StorePast) (d s : ℕ) (content : List ℕ) (index : ℕ) → keeps past → stands past d s content index → settled past d s content
  pub settled_is : (past : StorePast) (d s : ℕ) (content : List ℕ) → keeps past → settled past d s content → IsSettled x (last past.told.chain) d s content
  pub grows : (past : StorePast) (change : Change) → keeps past → IsLegal (last past.told.chain) change → IsStoresOwn past.told.handed change
      → keeps (store_grown past change) × ((d s : ℕ) (content : List ℕ) (index : ℕ) → IsOnly past.writes past.told.greatest d s content → stands past d s content index → stands (store_grown past change) d s content index)
  pub labelled : (past : StorePast) → keeps past → IsOfStore made x (last past.told.chain)

-- what the engine's truths stand for is a tree of files of this volume
pub record AreTrees (Stands : Truth → Hints → Tree → Type 0) (areas volume : ℕ) : Type 0 where
  pub each : (truth : Truth) (tree : Tree) → Stands truth no_hints tree → StandsFor areas truth tree × IsFileTree tree × (tree.volume ≡ volume)

-- trees that come after one another by records in doubt
pub record IsAfter (Stands : Truth → Hints → Tree → Type 0) (Step : Tree → Deed → Tree → Type 0) (doubts : ℕ → Option Unacknowledged) (After : Tree → Tree → Type 0) : Type 0 where
  pub here : (tree : Tree) → After tree tree
  pub goes : (first old new : Tree) (session : ℕ) (doubt : Unacknowledged) → doubts session ≡ Some doubt → After first old → StepOf Stands Step doubt.act old new → After first new

-- A truth that an image shows stands for a tree that comes after this one, by what the records in doubt do whose gates may be open.
pub shown_after : {G O S T : Type 0} (g : register.Ghosts G) (o : owners.Ghosts O) (st : store.Ghosts S) (Stands : Truth → Hints → T → Type 0) (Step : T → Deed → T → Type 0)
    (register_is : G) (owners_are : O) (store_is : S) (x : Disks) (known : Known) (c : Course) (tree : T) → StandsAt g o st Stands Step register_is owners_are store_is x known c tree → AreAllowed c.register.chain
    → (After : T → Type 0) → After tree
    → ((session : ℕ) (row : SessionRow) (doubt : Unacknowledged) (old new : T) → row_in (last c.register.chain).sessions session ≡ Some row → opens (c.slots row.slot).activity ≡ true → c.doubts session ≡ Some doubt → After old → StepOf Stands Step doubt.act old new → After new)
    → (shown : Logs) (last_truth : Truth) → ShowsTo c.logs c.slots 8 shown c.truth last_truth → (after : T) × After after × Stands last_truth no_hints after
shown_after g o st Stands Step register_is owners_are store_is x known c tree at allowed After here goes shown last_truth shows =
    trees_after Stands Step (SureOf g o st Stands Step register_is owners_are store_is x known c) (st.made store_is).devices (st.made store_is).areas (last c.register.chain) (allowed.each (last c.register.chain) (last_place c.register.chain))
    c.before c.logs c.slots c.truth at.logs c.owners.holding c.doubts at.doubted After goes (own_up known.clocks.down (o.own owners_are)) known.held known.hints tree at.volume here shown last_truth shows

module _ {G O S : Type 0} (g : register.Ghosts G) (o : owners.Ghosts O) (st : store.Ghosts S) (Stands : Truth → Hints → Tree → Type 0) (Step : Tree → Deed → Tree → Type 0)
    (register_is : G) (owners_are : O) (store_is : S) (x : Disks) (known : Known) (c : Course) (tree : Tree) (at : StandsAt g o st Stands Step register_is owners_are store_is x known c tree)
    (laws : AreStoreLaws x (st.made store_is) (st.keeps store_is x) (st.stands store_is x) (st.settled store_is x)) (allowed : AreAllowed c.register.chain) (few : (st.made store_is).devices ≤ 4)
    (IsState : Image → GlobalState → Type 0) (reads : (image : Image) (s : GlobalState) → IsImage x image → IsState image s → IsNext c.register.proposed (last c.register.chain) s)
    (After : Tree → Tree → Type 0) (comes : IsAfter Stands Step c.doubts After) (trees : AreTrees Stands (st.made store_is).areas (st.made store_is).volume) where
  next : (image : Image) (s : GlobalState) → IsImage x image → IsState image s → StandsIn x (st.made store_is) c.before c.logs c.slots c.truth s
  next image s is_image is_state =
      next_stands x (st.made store_is) (st.keeps store_is x) (st.stands store_is x) (st.settled store_is x) laws.settles (λ past d sector content keeps only settled. laws.settled_is past d sector content keeps settled) laws.labelled
      c.store c.owners (IsOfNode o.by_boot known.clocks) (of_before o.by_boot known.clocks) (λ node. c.store.told.knew (Node node)) c.register.proposed s c.before c.logs c.slots c.truth
      at.parts.store_keeps (λ change there legal. laws.grows c.store change at.parts.store_keeps legal (at.pasts.proposed change there).1) (at.pasts.owners_chain ∙ sym at.pasts.store_chain)
      (subst (λ (chain : Chain). AreAllowed chain) same allowed)
      (λ gone by there. subst (λ (chain : Chain). ClosingStands (st.made store_is).devices (last chain) c.logs c.slots c.store.writes gone by) same (at.closings gone by there))
      (subst (λ (chain : Chain). LogsStand (Surely (st.stands store_is x c.store) (IsWithin (st.made store_is).devices (st.made store_is).areas chain c.owners.holding c.owners.floor (IsOfNode o.by_boot known.clocks) (λ node. c.store.told.knew (Node node))) c.store.writes c.store.told.greatest)
      (st.made store_is).devices (st.made store_is).areas (last chain).sessions c.before c.logs c.slots c.truth) same at.logs)
      (subst (λ (chain : Chain). IsNext c.register.proposed (last chain) s) same (reads image s is_image is_state))
    where
      same : c.register.chain ≡ c.store.told.chain
      same = sym at.pasts.store_chain

  pub stands_volume : IsVolumeFor x IsState (st.made store_is).devices (st.made store_is).areas After tree
  stands_volume = rack_is_volume x IsState (st.made store_is) c.before c.logs c.slots c.truth few at.labels next After tree
      (λ shown last_truth shows.
      let found = shown_after g o st Stands Step register_is owners_are store_is x known c tree at allowed (After tree) (comes.here tree) (λ session row doubt old new has_row sent has before step. comes.goes tree old new session doubt has before step) shown last_truth shows in
      let is = trees.each last_truth found.0 found.2 in (found.0, found.1, is.0, is.1, is.2))

  -- what a crash leaves, in the state that its cells tell
  pub stands_audit : (y : Disks) (s : GlobalState) → y.sizes ≡ x.sizes → IsImage x y.reads → IsState y.reads s
      → (after : Tree) × After tree after × ImageStandsFor y.sizes (λ image told. told ≡ s) y.reads after
  stands_audit y s sizes left is = audit_stands x y IsState (st.made store_is).devices (st.made store_is).areas After tree s stands_volume sizes left is
