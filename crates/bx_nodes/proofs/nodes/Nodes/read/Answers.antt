use Rattle.std.proofs.Common.{◌≡◌, ◌∙◌, ℕ, Option, Some, None, IfSome, IsSome, refl, sym, ap, subst, arith, ◌+◌, ◌-◌, ◌*◌, ◌/◌, ◌≤◌}
use Rattle.std.specs.Prelude.{slice_get, slice_set}
use Rattle.std.proofs.lemmas.Option.{slice_get-get_or}
use Rattle.bx_base.specs.declared.names.Actor.TheVariants.{Node}
use Rattle.bx_facts.specs.Writes.{Asked, IsOnly, store_with}
use Rattle.bx_nodes.specs.Asks.{MayRead}
use Rattle.bx_node_cache.specs.Kept.{kept_in}
use Rattle.bx_node_steps.specs.Ready.{IsReady}
use Rattle.bx_node_steps.proofs.Fitting.{ready_at, ready_then}
use Rattle.bx_node_steps.specs.Seen.{seen}
use Rattle.bx_node_steps.specs.declared.machine.Fetch.TheVariants.{Block}
use Rattle.bx_node_steps.specs.declared.machine.Machine.{Machine}
use Rattle.bx_node_steps.specs.declared.machine.Stage.TheVariants.{Idle}
use Rattle.bx_nodes.proofs.Wanting.{home_within}
use Rattle.bx_nodes.proofs.Machines.{of_there, put_there, seen_others, seen_there, set_here, set_there}
use Rattle.bx_nodes.proofs.Readings.{reads}
use Rattle.bx_places.specs.Places.{IsVolume, block_place}
use Rattle.bx_nodes.proofs.nodes.Nodes.read.Goals as goal

-- the read of a place is that of the block that stands there
place_asked : (place block : ℕ × ℕ) → place ≡ block → (let p : Asked = record { device = place.0; place = place.1; count = 9 } in p) ≡ record { device = block.0; place = block.1; count = 9 }
place_asked place block e = λ i. record { device = (e i).0; place = (e i).1; count = 9 }

pub read-requires-clause-within : goal.read-requires-clause-within
read-requires-clause-within g c =
    let items = c.args.self.now.machines.items in
    let node = c.args.node in
    let at = c.args.at in
    let store = c.args.self.now.store in
    let made = g.S.Store.made store in
    let before = c.index_mut-machine.result.now in
    let was : slice_get items node ≡ Some before = slice_get-get_or items node before c.requires.there ∙ ap (λ (m : Machine). Some m) (sym c.index_mut-machine.ensures.value) in
    let ready = of_there (IsReady made (g.E.Engine.areas c.args.self.now.engine) (g.S.Store.asked store node)) (slice_get items node) before was c.requires.ready in
    let place : c.place-device.result ≡ block_place at made.devices = c.place-device.ensures.place ∙ ap (λ (d : ℕ). block_place at d) ready.devices in
    let volume = subst (λ (n : ℕ). IsVolume made.devices n) ready.areas (subst (λ (d : ℕ). IsVolume d before.cache.areas) ready.devices c.place-device.ensures.volume) in
    subst (λ (n : ℕ). n + 9 ≤ 9345 + 8649 * ((made.areas + made.devices - 1) / made.devices)) (sym (ap (λ (p : ℕ × ℕ). p.1) place)) (home_within made at volume c.requires.is_block)

pub returns-clause-stands : goal.returns-clause-stands
returns-clause-stands g c = λ x letters clocks course tree session up stands own live mine.
    let e = g.E.Engine in
    let engine = c.args.self.now.engine in
    let register = c.args.self.now.register in
    let owners = c.args.self.now.owners in
    let store = c.args.self.now.store in
    let items = c.args.self.now.machines.items in
    let node = c.args.node in
    let at = c.args.at in
    let made = g.S.Store.made store in
    let before = c.index_mut-machine.result.now in
    let after : Machine = record before { fetch = Block at c.args.hold.0 } in
    let was : slice_get items node ≡ Some before = slice_get-get_or items node before c.requires.there ∙ ap (λ (m : Machine). Some m) (sym c.index_mut-machine.ensures.value) in
    let is_mine : before.session ≡ Some session = subst (λ (m : Option Machine). IfSome m (λ machine. machine.session ≡ Some session)) was mine in
    let rests : before.stage ≡ Idle = subst (λ (m : Option Machine). IfSome m (λ machine. machine.stage ≡ Idle)) was c.requires.rests in
    let knows = (g.G.Register.knows register (Node node)).index in
    let may : MayRead before c.args.hold.1 knows = subst (λ (m : Option Machine). IfSome m (λ machine. MayRead machine c.args.hold.1 knows)) was c.requires.may in
    let none : kept_in before.cache.kept at ≡ None = subst (λ (m : Option Machine). IfSome m (λ machine. kept_in machine.cache.kept at ≡ None)) was c.requires.none in
    let ready = of_there (IsReady made (g.E.Engine.areas c.args.self.now.engine) (g.S.Store.asked store node)) (slice_get items node) before was c.requires.ready in
    let place : c.place-device.result ≡ block_place at made.devices = c.place-device.ensures.place ∙ ap (λ (d : ℕ). block_place at d) ready.devices in
    let e0 = ap (λ (p : ℕ × ℕ). p.0) place in
    let e1 = ap (λ (p : ℕ × ℕ). p.1) place in
    let later = slice_set items node after in
    reads g.G.Register g.O.Owners g.S.Store (e.stands engine) (e.step engine) register owners store c.read.new.self x letters c.args.out.now c.read.new.out clocks (seen items) (seen later) course tree node session at before c.args.hold
    stands up own live (seen_there items node before was) is_mine rests (seen_there later node after (set_here items node after before was)) (λ other ne. seen_others items later other (set_there items node other after ne))
    c.requires.is_block c.requires.hold may none c.in_ok-read.ensures.sent
    (λ past some keeps among. g.met.G.Register.loses register x past some keeps among)
    (λ past some keeps among. g.met.O.Owners.loses owners past some keeps among)
    (λ past s keeps is_place. g.met.G.Register.allowed register x past s keeps is_place)
    (λ past one block keeps. g.met.O.Owners.held owners past one block keeps)
    (λ past one block its keeps lives holds. g.met.O.Owners.reaches owners past one block its keeps lives holds)
    (λ past one other block its keeps lives has holds. g.met.O.Owners.alone owners past one other block its keeps lives has holds)
    (λ other. c.in_ok-read.ensures.stays other) c.in_ok-read.ensures.made (λ reader ne. (c.in_ok-read.ensures.others reader ne).0)
    (c.in_ok-read.ensures.asks.0 ∙ ap (λ (a : Asked). Some a) (place_asked c.place-device.result (block_place at made.devices) place))
    (λ past kept is_up. c.in_ok-read.ensures.keeps x past kept is_up)
    (λ past kept is_up. c.in_ok-read.ensures.goes_on x past kept is_up)
    (λ past sector content index kept is_up from to only stood low. c.in_ok-read.ensures.promise x past sector content index kept is_up (omega (arith, e1, from)) (omega (arith, e1, to))
    (subst (λ (d : ℕ). IsOnly past.writes past.told.greatest d sector content) (sym e0) only)
    (subst (λ (d : ℕ). g.S.Store.stands store x (store_with past c.args.out.now) d sector content index) (sym e0) stood) low)

pub returns-clause-reads : goal.returns-clause-reads
returns-clause-reads g c =
    let items = c.args.self.now.machines.items in
    let node = c.args.node in
    let at = c.args.at in
    let store = c.args.self.now.store in
    let made = g.S.Store.made store in
    let before = c.index_mut-machine.result.now in
    let after : Machine = record before { fetch = Block at c.args.hold.0 } in
    let was : slice_get items node ≡ Some before = slice_get-get_or items node before c.requires.there ∙ ap (λ (m : Machine). Some m) (sym c.index_mut-machine.ensures.value) in
    let ready = of_there (IsReady made (g.E.Engine.areas c.args.self.now.engine) (g.S.Store.asked store node)) (slice_get items node) before was c.requires.ready in
    let place : c.place-device.result ≡ block_place at made.devices = c.place-device.ensures.place ∙ ap (λ (d : ℕ). block_place at d) ready.devices in (
      subst (λ (m : Option Machine). IfSome m (λ old. IfSome (slice_get (slice_set items node after) node) (λ new. new ≡ record old { fetch = Block at c.args.hold.0 }))) (sym was)
          (subst (λ (m : Option Machine). IfSome m (λ new. new ≡ record before { fetch = Block at c.args.hold.0 })) (sym (set_here items node after before was)) refl),
      c.in_ok-read.ensures.asks.0 ∙ ap (λ (a : Asked). Some a) (place_asked c.place-device.result (block_place at made.devices) place),
    )

pub returns-clause-ready : goal.returns-clause-ready
returns-clause-ready g c =
    let items = c.args.self.now.machines.items in
    let node = c.args.node in
    let store = c.args.self.now.store in
    let made = g.S.Store.made store in
    let areas = g.E.Engine.areas c.args.self.now.engine in
    let asked = g.S.Store.asked store node in
    let then = g.S.Store.asked c.read.new.self node in
    let before = c.index_mut-machine.result.now in
    let after : Machine = record before { fetch = Block c.args.at c.args.hold.0 } in
    let was : slice_get items node ≡ Some before = slice_get-get_or items node before c.requires.there ∙ ap (λ (m : Machine). Some m) (sym c.index_mut-machine.ensures.value) in
    let some : IsSome then = subst (λ (a : Option Asked). IsSome a) (sym c.in_ok-read.ensures.asks.0) refl in
    put_there (IsReady (g.S.Store.made c.read.new.self) areas then) items node after before was
    (ready_at made (g.S.Store.made c.read.new.self) areas then then after c.in_ok-read.ensures.made refl
    (ready_then made areas asked before after (of_there (IsReady made areas asked) (slice_get items node) before was c.requires.ready) then refl refl refl refl (c.requires.is_block, some)))

pub returns-clause-others : goal.returns-clause-others
returns-clause-others g c = record { others = λ other ne. set_there c.args.self.now.machines.items c.args.node other (record c.index_mut-machine.result.now { fetch = Block c.args.at c.args.hold.0 }) ne }
