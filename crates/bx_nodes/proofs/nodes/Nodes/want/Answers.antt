use Rattle.std.proofs.Common.{◌≡◌, ◌≢◌, ◌∙◌, ⊎_elim, inl, inr, ℕ, false, Option, Some, IfSome, sym, ap, subst}
use Rattle.std.specs.Prelude.{slice_get, slice_set}
use Rattle.std.proofs.lemmas.Option.{slice_get-get_or}
use Rattle.std.proofs.lemmas.Result.{on_ok_weaker}
use Rattle.bx_world_chains.proofs.Chains.{last_place}
use Rattle.bx_base.specs.declared.names.Actor.TheVariants.{Node}
use Rattle.bx_facts.specs.Chains.{last}
use Rattle.bx_facts.specs.Holds.{Hold, OwnersPast, hold_of, is_exclusive, owners_with}
use Rattle.bx_node_views.proofs.Knowing as knowing
use Rattle.bx_node_steps.specs.Changing.{LetsGo}
use Rattle.bx_node_steps.specs.Ready.{IsReady}
use Rattle.bx_node_steps.specs.declared.machine.Fetch.{Fetch}
use Rattle.bx_node_steps.specs.declared.machine.Fetch.TheVariants as fetches
use Rattle.bx_node_steps.proofs.Fitting.{ready_let_go}
use Rattle.bx_nodes.specs.Asks.{IsAsking, IsWanted}
use Rattle.bx_node_steps.specs.Seen.{seen}
use Rattle.bx_node_steps.specs.declared.machine.Machine.{Machine}
use Rattle.bx_node_steps.specs.declared.machine.Stage.TheVariants.{Idle}
use Rattle.bx_nodes.proofs.Wanting.{asking_ok, block_there, ok_then, reads_left, weak}
use Rattle.bx_nodes.proofs.LettingGo.{lets_go}
use Rattle.bx_nodes.proofs.Machines.{both_ok, of_there, ok_so, put_there, seen_others, seen_there, set_here, set_there}
use Rattle.bx_world_chains.proofs.Rows.{lives_row}
use Rattle.bx_world_standing.specs.Sessions.{IsOfNode}
use Rattle.bx_world_standing.proofs.Owns.{own_is}
use Rattle.bx_world_standing.proofs.Told.{own_of_node}
use Rattle.bx_nodes.proofs.nodes.Nodes.want.Goals as goal

pub returns-clause-stands : goal.returns-clause-stands
returns-clause-stands g c = λ x letters clocks course tree session up stands own live mine.
    let e = g.E.Engine in
    let engine = c.args.self.now.engine in
    let register = c.args.self.now.register in
    let owners = c.args.self.now.owners in
    let store = c.args.self.now.store in
    let items = c.args.self.now.machines.items in
    let node = c.args.node in
    let at = c.args.at in
    let made = g.S.Store.made store in
    let before = c.index_mut.result.now in
    let after = c.let_go.new.self in
    let was : slice_get items node ≡ Some before = slice_get-get_or items node before c.requires.there ∙ ap (λ (m : Machine). Some m) (sym c.index_mut.ensures.value) in
    let is_mine : before.session ≡ Some session = subst (λ (m : Option Machine). IfSome m (λ machine. machine.session ≡ Some session)) was mine in
    let rests : before.stage ≡ Idle = subst (λ (m : Option Machine). IfSome m (λ machine. machine.stage ≡ Idle)) was c.requires.rests in
    let ready = of_there (IsReady made (e.areas engine) (g.S.Store.asked store node)) (slice_get items node) before was c.requires.ready in
    let later = slice_set items node after in
    let past : OwnersPast = record course.owners { told = record course.owners.told { letters = letters } } in
    let same_past : owners_with past c.args.out.now ≡ course.owners = λ i. record course.owners { told = record course.owners.told { letters = sym stands.at.pasts.owners_letters i } } in
    let kept = subst (λ (p : OwnersPast). g.O.Owners.keeps owners p) (sym same_past) stands.at.parts.owners_keep in
    let row = lives_row (last course.register.chain) session live in
    let holds : g.O.Owners.hold owners node at ≡ course.owners.holding session at = g.met.O.Owners.held owners course.owners node at stands.at.parts.owners_keep ∙ ap (λ (s : Option ℕ). hold_of s course.owners.holding at) own in
    let shared : is_exclusive (course.owners.holding session at) ≡ false = ap (λ (h : Option Hold). is_exclusive h) (sym holds) ∙ weak (g.O.Owners.hold owners node at) c.args.mode c.requires.weaker in
    let is_of = own_of_node g.O.Owners.by_boot course.register.chain clocks (g.O.Owners.own owners) (λ n. course.store.told.knew (Node n))
    (record { each = λ s place. g.met.G.Register.allowed register x course.register s stands.at.parts.register_keeps place }) stands.at.sessions node session row.0 (own_is clocks.down (g.O.Owners.own owners) node session up own) row.1 row.2 in
    on_ok_weaker c.want.result
    (λ both. lets_go g.G.Register g.O.Owners g.S.Store (e.stands engine) (e.step engine) register owners c.want.new.self store x letters c.args.out.now c.want.new.out clocks (seen items) (seen later) course tree node session at (e.areas engine) before after
    both.0.holding course.owners.floor stands up own live (g.met.G.Register.allowed register x course.register (last course.register.chain) stands.at.parts.register_keeps (last_place course.register.chain)) (seen_there items node before was) is_mine rests (seen_there later node after (set_here items node after before was)) (λ other ne. seen_others items later other (set_there items node other after ne))
    c.let_go.ensures both.1
    (λ some_past some keeps among. g.met.G.Register.loses register x some_past some keeps among)
    (λ some_past some keeps among. g.met.S.Store.loses store x some_past some keeps among)
    (λ some_past one other place hold other_hold keeps has has_other ne is is_other. g.met.O.Owners.apart c.want.new.self some_past one other place hold other_hold keeps has has_other ne is is_other)
    (λ truth hints t place stood is. g.met.E.Engine.hints_at engine truth hints t place stood is)
    (block_there _ before.cache.areas made.areas (e.areas engine) at ready.areas ready.engine c.let_go.ensures.is_block)
    (λ other. (c.want.ensures.own other).0) both.0.stands both.0.may (λ write has is. shared)
    (knowing.wanted made.devices made.areas course.register.chain (IsOfNode g.O.Owners.by_boot clocks) (λ n. course.store.told.knew (Node n)) node session row.0 row.1 row.2 is_of course.owners.holding both.0.holding course.owners.floor at both.0.may shared))
    (both_ok _ _ c.want.result (c.want.ensures.keeps past session kept (stands.at.pasts.owners_down (Node node) ∙ up) own) c.want.ensures.sent)

pub returns-clause-goes : goal.returns-clause-goes
returns-clause-goes g c =
    let items = c.args.self.now.machines.items in
    let node = c.args.node in
    let before = c.index_mut.result.now in
    let after = c.let_go.new.self in
    let was : slice_get items node ≡ Some before = slice_get-get_or items node before c.requires.there ∙ ap (λ (m : Machine). Some m) (sym c.index_mut.ensures.value) in
    on_ok_weaker c.want.result
    (λ sent. subst (λ (m : Option Machine). IfSome m (λ old. IfSome (slice_get (slice_set items node after) node) (LetsGo c.args.at old))) (sym was)
    (subst (λ (m : Option Machine). IfSome m (LetsGo c.args.at before)) (sym (set_here items node after before was)) c.let_go.ensures))
    c.want.ensures.sent

pub returns-clause-wants : goal.returns-clause-wants
returns-clause-wants g c =
    let request = g.O.Owners.request c.want.new.self c.args.node c.args.at in
    let hold = g.O.Owners.hold c.want.new.self c.args.node c.args.at in
    both_ok _ _ c.want.result c.want.ensures.grants (ok_then _ (IsWanted request hold c.args.mode (g.O.Owners.is_spent c.want.new.self c.args.node)) c.want.result c.want.ensures.wants
    (⊎_elim (λ one. ok_so _ c.want.result (inl one)) (λ spent. on_ok_weaker c.want.result (λ is. inr is) (c.want.ensures.spent spent.0))))

pub returns-clause-asks_on : goal.returns-clause-asks_on
returns-clause-asks_on g c = λ other ne asking.
    let items = c.args.self.now.machines.items in
    let node = c.args.node in
    let owners = c.args.self.now.owners in
    let then = c.want.new.self in
    let knows = (g.G.Register.knows c.args.self.now.register (Node node)).index in
    let before = c.index_mut.result.now in
    let after = c.let_go.new.self in
    let was : slice_get items node ≡ Some before = slice_get-get_or items node before c.requires.there ∙ ap (λ (m : Machine). Some m) (sym c.index_mut.ensures.value) in
    let Stood = λ (m : Machine). IsAsking (g.O.Owners.request owners node other) (g.O.Owners.hold owners node other) knows m.fetch (g.O.Owners.is_spent owners node) in
    let Stands = λ (m : Machine). IsAsking (g.O.Owners.request then node other) (g.O.Owners.hold then node other) knows m.fetch (g.O.Owners.is_spent then node) in
    let stood = of_there Stood (slice_get items node) before was asking in
    let reads = λ (some : before.fetch ≢ fetches.Nothing). subst (λ (f : Fetch). f ≢ fetches.Nothing) (sym (ap (λ (m : Machine). m.fetch) c.let_go.ensures.only)) (reads_left c.args.at before.fetch some) in
    on_ok_weaker c.want.result (λ is. put_there Stands items node after before was is)
    (asking_ok (g.O.Owners.request owners node other) (g.O.Owners.request then node other) (g.O.Owners.hold owners node other) (g.O.Owners.hold then node other) knows before.fetch after.fetch (g.O.Owners.is_spent owners node) (g.O.Owners.is_spent then node)
    c.want.result (c.want.ensures.other_blocks node other ne) reads c.want.ensures.spent stood)

pub returns-clause-ready : goal.returns-clause-ready
returns-clause-ready g c =
    let items = c.args.self.now.machines.items in
    let node = c.args.node in
    let made = g.S.Store.made c.args.self.now.store in
    let areas = g.E.Engine.areas c.args.self.now.engine in
    let asked = g.S.Store.asked c.args.self.now.store node in
    let before = c.index_mut.result.now in
    let after = c.let_go.new.self in
    let was : slice_get items node ≡ Some before = slice_get-get_or items node before c.requires.there ∙ ap (λ (m : Machine). Some m) (sym c.index_mut.ensures.value) in
    ok_so _ c.want.result (put_there (IsReady made areas asked) items node after before was
    (ready_let_go made areas asked before after (of_there (IsReady made areas asked) (slice_get items node) before was c.requires.ready) c.args.at c.let_go.ensures))

pub returns-clause-rests : goal.returns-clause-rests
returns-clause-rests g c =
    let items = c.args.self.now.machines.items in
    let node = c.args.node in
    let before = c.index_mut.result.now in
    let after = c.let_go.new.self in
    let was : slice_get items node ≡ Some before = slice_get-get_or items node before c.requires.there ∙ ap (λ (m : Machine). Some m) (sym c.index_mut.ensures.value) in
    ok_so _ c.want.result (put_there (λ (m : Machine). m.stage ≡ Idle) items node after before was
    (ap (λ (m : Machine). m.stage) c.let_go.ensures.only ∙ of_there (λ (m : Machine). m.stage ≡ Idle) (slice_get items node) before was c.requires.rests))

pub returns-clause-others : goal.returns-clause-others
returns-clause-others g c = record { others = λ other ne. set_there c.args.self.now.machines.items c.args.node other c.let_go.new.self ne }
