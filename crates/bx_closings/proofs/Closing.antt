-- What the disks of a world show behind its run, once what was unsure on them was lost: over any register, owners, store and engine of file trees.
use Rattle.std.proofs.Common.{◌≡◌, ℕ, ◌<◌, ◌≤◌, Bool, true, false, List, refl, sym, ◌∙◌, ap, subst}
use Rattle.std.specs.Prelude.{filter}
use Rattle.bx_audit.specs.Audited.{AreOpen}
use Rattle.bx_base.specs.declared.names.Actor.TheVariants.{Node}
use Rattle.bx_base.specs.declared.names.Point.{Point}
use Rattle.bx_closings.proofs.Doubts.{doubted, once}
use Rattle.bx_closings.proofs.Numbers.{lacks_zero}
use Rattle.bx_closings.proofs.Shown.{points_shown, shown_by, stands_for}
use Rattle.bx_closings.proofs.Telling.{IsTold, all_told}
use Rattle.bx_closings.specs.Doubts.{doubts_by}
use Rattle.bx_cluster.specs.Closing.{Closes, IsCrashed, lacks_point}
use Rattle.bx_cluster.specs.Runs as runs
use Rattle.bx_disk.specs.Disks.{Disks}
use Rattle.bx_facts.specs.Chains.{Chain, IsNext, last}
use Rattle.bx_facts.specs.Writes.{Made}
use Rattle.bx_facts.specs.declared.owners.Owners as owners
use Rattle.bx_facts.specs.declared.register.Register as register
use Rattle.bx_facts.specs.declared.store.Store as store
use Rattle.bx_global.specs.Allowed.{IsAllowed}
use Rattle.bx_global.specs.declared.state.GlobalState.{GlobalState}
use Rattle.bx_history.specs.Parts.{Part, trace_of}
use Rattle.bx_model.specs.declared.tree.Tree.{Tree}
use Rattle.bx_node_machines.specs.Nodes.{known_of}
use Rattle.bx_node_steps.specs.Seen.{seen}
use Rattle.bx_opens.specs.Opening.{AreOpenAlone}
use Rattle.bx_rack_audit.specs.Alone.{IsOwnState, StandAlone}
use Rattle.bx_rows.specs.Words.{is_taken}
use Rattle.bx_views.specs.declared.engine.Engine as engine
use Rattle.bx_volume.specs.Images.{by_device, devices_of}
use Rattle.bx_world.specs.Doubts.{AreOfTaken, HavePoints}
use Rattle.bx_world.specs.Led.{Led}
use Rattle.bx_world.specs.World.{letters_in}
use Rattle.bx_world.specs.declared.world.World.{World}
use Rattle.bx_world_chains.specs.Entitled.{AreAllowed}
use Rattle.bx_world_chains.proofs.Chains.{last_place}
use Rattle.bx_world_images.proofs.Audited.{read_second}
use Rattle.bx_world_logs.specs.Logs.{LogsStand, SlotStands, opens}
use Rattle.bx_world_logs.specs.Shown.{IsShown}
use Rattle.bx_world_standing.proofs.Owns.{of_before}
use Rattle.bx_world_standing.specs.Closings.{ClosingStands}
use Rattle.bx_world_standing.specs.Rights.{IsWithin, Surely}
use Rattle.bx_world_standing.specs.Sessions.{IsOfNode}
use Rattle.bx_world_standing.specs.Standing.{Course, Known, StandsAt, SureOf, own_up}
use Rattle.bx_world_volumes.proofs.Readings.{StandsIn, next_stands}
use Rattle.bx_world_volumes.proofs.Volumes.{AreStoreLaws, AreTrees}

module _ {G O S E : Type 0} (g : register.Ghosts G) (o : owners.Ghosts O) (st : store.Ghosts S) (e : engine.Ghosts E Tree) (world : World G O S E Tree) (x y : Disks) (first : Tree) (parts : List Part)
    (led : Led g o st e world x first parts) where
  abbrev course : Course
  course = led.stands.course

  abbrev at_last : GlobalState
  at_last = last course.register.chain

  abbrev made : Made
  made = st.made world.machines.nodes.store

  abbrev known : Known
  known = known_of g o st (e.stands world.machines.nodes.engine) (e.step world.machines.nodes.engine) world.machines.nodes.register world.machines.nodes.owners world.machines.nodes.store x (letters_in world.post) led.stands.clocks (seen world.machines.nodes.machines.items)

  at : StandsAt g o st (e.stands world.machines.nodes.engine) (e.step world.machines.nodes.engine) world.machines.nodes.register world.machines.nodes.owners world.machines.nodes.store x known course led.tree
  at = led.stands.stands.at

  module _ (of_taken : AreOfTaken parts at_last.sessions course.slots course.doubts) (have : HavePoints parts course.logs)
      (laws : AreStoreLaws x made (st.keeps world.machines.nodes.store x) (st.stands world.machines.nodes.store x) (st.settled world.machines.nodes.store x))
      (allowed : AreAllowed course.register.chain)
      (reads_next : (s : GlobalState) → g.reads_as (g.made world.machines.nodes.register) x.sizes y.reads s → IsNext course.register.proposed at_last s)
      (reads_one : (s other : GlobalState) → g.reads_as (g.made world.machines.nodes.register) x.sizes y.reads s → g.reads_as (g.made world.machines.nodes.register) x.sizes y.reads other → other ≡ s)
      (trees : AreTrees (e.stands world.machines.nodes.engine) made.areas made.volume)
      (crashed : IsCrashed x y)
      (own_reads : (s : GlobalState) → IsOwnState y.sizes y.reads s → g.reads_as (g.made world.machines.nodes.register) x.sizes y.reads s)
      (s : GlobalState) (own : IsOwnState y.sizes y.reads s) where
    same : course.register.chain ≡ course.store.told.chain
    same = sym at.pasts.store_chain

    allowed_last : IsAllowed at_last
    allowed_last = allowed.each at_last (last_place course.register.chain)

    stands_in : StandsIn x made course.before course.logs course.slots course.truth s
    stands_in =
        next_stands x made (st.keeps world.machines.nodes.store x) (st.stands world.machines.nodes.store x) (st.settled world.machines.nodes.store x) laws.settles (λ past d sector content keeps only settled. laws.settled_is past d sector content keeps settled) laws.labelled
        course.store course.owners (IsOfNode o.by_boot known.clocks) (of_before o.by_boot known.clocks) (λ node. course.store.told.knew (Node node)) course.register.proposed s course.before course.logs course.slots course.truth
        at.parts.store_keeps (λ change there legal. laws.grows course.store change at.parts.store_keeps legal (at.pasts.proposed change there).1) (at.pasts.owners_chain ∙ sym at.pasts.store_chain)
        (subst (λ (chain : Chain). AreAllowed chain) same allowed)
        (λ gone by there. subst (λ (chain : Chain). ClosingStands made.devices (last chain) course.logs course.slots course.store.writes gone by) same (at.closings gone by there))
        (subst (λ (chain : Chain). LogsStand (Surely (st.stands world.machines.nodes.store x course.store) (IsWithin made.devices made.areas chain course.owners.holding course.owners.floor (IsOfNode o.by_boot known.clocks) (λ node. course.store.told.knew (Node node))) course.store.writes course.store.told.greatest)
        made.devices made.areas (last chain).sessions course.before course.logs course.slots course.truth) same at.logs)
        (subst (λ (chain : Chain). IsNext course.register.proposed (last chain) s) same (reads_next s (own_reads s own)))

    abbrev Sure : ℕ → ℕ → List ℕ → Type 0
    Sure = SureOf g o st (e.stands world.machines.nodes.engine) (e.step world.machines.nodes.engine) world.machines.nodes.register world.machines.nodes.owners world.machines.nodes.store x known course

    -- a slot in which a gate is being opened is taken
    is_open : (slot : ℕ) → slot < 8 → opens (course.slots slot).activity ≡ true → is_taken at_last.sessions slot ≡ true
    is_open slot less being = by (is_taken at_last.sessions slot) refl (at.logs.each slot less)
      where
        by : (t : Bool) → is_taken at_last.sessions slot ≡ t → SlotStands Sure made.devices made.areas course.before t course.logs slot (course.slots slot) → is_taken at_last.sessions slot ≡ true
        by true is stands = is
        by false is stands = let none : opens (course.slots slot).activity ≡ false = ap opens stands.still in absurd cc

    few : made.devices ≤ 4
    few = at.logs.volume.most_devices

    abbrev shown : IsShown course.logs course.slots made.devices made.areas s.sessions course.truth (devices_of y.reads (by_device (read_second s)))
    shown = shown_by x y crashed.sizes crashed.left made course.before course.logs course.slots course.truth few at.labels s stands_in

    told : IsTold (e.stands world.machines.nodes.engine) (e.step world.machines.nodes.engine) parts at_last allowed_last course.logs course.slots course.owners.holding course.doubts at.doubted of_taken have
        (lacks_zero 256 (trace_of parts) led.history led.accounts.fits) is_open shown.shown led.tree shown.last
    told = all_told (e.stands world.machines.nodes.engine) (e.step world.machines.nodes.engine) parts at_last allowed_last course.logs course.slots course.owners.holding course.doubts at.doubted of_taken have
        (lacks_zero 256 (trace_of parts) led.history led.accounts.fits) is_open shown.shown led.tree (own_up known.clocks.down (o.own world.machines.nodes.owners)) known.held known.hints course.truth shown.last at.volume shown.shows

    stands_tree : StandAlone y told.tree
    stands_tree = let is = trees.each shown.last told.tree told.stands in
        stands_for x y crashed.sizes crashed.left made course.before course.logs course.slots course.truth few at.labels s stands_in (IsOwnState y.sizes) told.tree own is.0 is.1 is.2

    pub closes : Closes (runs.StepOf (e.step world.machines.nodes.engine)) (e.at_once world.machines.nodes.engine) (StandAlone y) (AreOpenAlone y) first parts
    closes = record {
      account = record { last = led.tree; history = led.history; accounts = led.accounts };
      doubts = doubts_by (trace_of parts) at_last.sessions course.slots course.doubts;
      doubted = doubted parts at_last.sessions at_last.next_session allowed_last.rising course.slots course.doubts of_taken;
      once = once parts at_last.sessions at_last.next_session allowed_last.rising course.slots course.doubts of_taken;
      next = told.tree;
      stands = stands_tree;
      opened = told.opened;
      open_is = λ points are.
          let one : are.state ≡ s = reads_one s are.state (own_reads s own) (own_reads are.state are.is_state) in
          ap (filter (λ (point : Point). lacks_point (trace_of parts) point.call))
          (points_shown x y crashed.sizes crashed.left made course.before course.logs course.slots course.truth few at.labels s stands_in points (subst (λ (t : GlobalState). AreOpen y t points) one are.are_open))
          ∙ told.points;
      tells = told.tells;
    }
