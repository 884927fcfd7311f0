use Rattle.std.proofs.Common.{◌≡◌, ◌∙◌, inl, ℕ, ◌+◌, ◌≤◌, [], Contains, Option, Some, IfSome, refl, sym, ap, subst}
use Rattle.std.specs.Prelude.{slice_get, slice_set}
use Rattle.std.proofs.lemmas.Option.{slice_get-get_or}
use Rattle.bx_world_chains.proofs.Chains.{last_place}
use Rattle.bx_facts.specs.Chains.{Chain, HasRow, LivesIn, last, oldest}
use Rattle.bx_facts.specs.Holds.{Hold, OwnersPast}
use Rattle.bx_node_events.proofs.Quieted.{none_sent, quiet_course, quieted}
use Rattle.bx_node_steps.specs.Changing.{LetsGo}
use Rattle.bx_node_steps.specs.Ready.{IsReady}
use Rattle.bx_node_steps.proofs.Fitting.{ready_let_go}
use Rattle.bx_node_steps.specs.Seen.{seen}
use Rattle.bx_node_steps.specs.declared.machine.Machine.{Machine}
use Rattle.bx_node_steps.specs.declared.machine.Stage.TheVariants.{Idle}
use Rattle.bx_nodes.proofs.Wanting.{block_there}
use Rattle.bx_nodes.proofs.LettingGo.{lets_go}
use Rattle.bx_nodes.proofs.Machines.{of_there, put_there, seen_others, seen_there, set_here, set_there}
use Rattle.bx_world_chains.specs.Entitled.{AreAllowed}
use Rattle.bx_nodes.proofs.nodes.Nodes.let_go.Goals as goal

pub returns-clause-stands : goal.returns-clause-stands
returns-clause-stands g c = λ x letters clocks course tree session up stands own live mine.
    let e = g.E.Engine in
    let engine = c.args.self.now.engine in
    let register = c.args.self.now.register in
    let owners = c.args.self.now.owners in
    let store = c.args.self.now.store in
    let items = c.args.self.now.machines.items in
    let node = c.args.node in
    let block = c.args.at in
    let made = g.S.Store.made store in
    let before = c.index_mut.result.now in
    let after = c.let_go.new.self in
    let was : slice_get items node ≡ Some before = slice_get-get_or items node before c.requires.there ∙ ap (λ (m : Machine). Some m) (sym c.index_mut.ensures.value) in
    let is_mine : before.session ≡ Some session = subst (λ (m : Option Machine). IfSome m (λ machine. machine.session ≡ Some session)) was mine in
    let rests : before.stage ≡ Idle = subst (λ (m : Option Machine). IfSome m (λ machine. machine.stage ≡ Idle)) was c.requires.rests in
    let ready = of_there (IsReady made (e.areas engine) (g.S.Store.asked store node)) (slice_get items node) before was c.requires.ready in
    let later = slice_set items node after in
    let allowed : AreAllowed course.register.chain = record { each = λ s place. g.met.G.Register.allowed register x course.register s stands.at.parts.register_keeps place } in
    let own_st = sym (stands.at.parts.own node up) ∙ own in
    let legal = g.met.G.Register.legal register x course.register stands.at.parts.register_keeps in
    let leases : (one end : ℕ) → Contains course.owners.leases (one, end) → course.owners.told.greatest ≤ end + 500 → LivesIn (last course.register.chain) one = λ one end has late.
    subst (λ (chain : Chain). LivesIn (last chain) one) stands.at.pasts.owners_chain (g.met.O.Owners.lives owners course.owners one end stands.at.parts.owners_keep has late) in
    let alone : (one other place : ℕ) (hold : Hold) → LivesIn (last course.register.chain) one → HasRow (last course.register.chain) other → course.owners.holding one place ≡ Some hold → oldest course.register.chain ≤ other = λ one other place hold lives has held.
    subst (λ (chain : Chain). oldest chain ≤ other) stands.at.pasts.owners_chain (g.met.O.Owners.alone owners course.owners one other place hold stands.at.parts.owners_keep (subst (λ (chain : Chain). LivesIn (last chain) one) (sym stands.at.pasts.owners_chain) lives)
    (subst (λ (chain : Chain). HasRow (last chain) other) (sym stands.at.pasts.owners_chain) has) held) in
    let gone = g.met.S.Store.nothing_out store x course.store node session stands.at.parts.store_keeps own_st c.requires.none_out in
    let quiet = quieted g.G.Register g.O.Owners g.S.Store (e.stands engine) (e.step engine) register owners store x (letters) clocks (seen items) course tree session stands allowed legal gone.0 gone.1 leases alone in
    let none = none_sent g.G.Register g.O.Owners g.S.Store (e.stands engine) (e.step engine) register owners store x (letters) clocks (seen items) course tree session stands allowed legal gone.0 gone.1 leases alone in
    let q = quiet_course g.G.Register g.O.Owners g.S.Store (e.stands engine) (e.step engine) register owners store x (letters) clocks (seen items) course tree session stands allowed legal gone.0 gone.1 leases alone in
    let same : course.owners ≡ record course.owners { told = record course.owners.told { letters = letters } } = λ i. record course.owners { told = record course.owners.told { letters = stands.at.pasts.owners_letters i } } in
    let kept = subst (λ (p : OwnersPast). g.O.Owners.keeps owners p) same stands.at.parts.owners_keep in
    let r = lets_go g.G.Register g.O.Owners g.S.Store (e.stands engine) (e.step engine) register owners owners store x [] letters letters clocks (seen items) (seen later) q tree node session block (e.areas engine)
    before after course.owners.holding course.owners.floor quiet up own live (allowed.each (last course.register.chain) (last_place course.register.chain)) (seen_there items node before was) is_mine rests
    (seen_there later node after (set_here items node after before was)) (λ other ne. seen_others items later other (set_there items node other after ne))
    c.let_go.ensures (record { kept = λ letter has. has; each = λ letter has. inl has })
    (λ some_past some keeps among. g.met.G.Register.loses register x some_past some keeps among)
    (λ some_past some keeps among. g.met.S.Store.loses store x some_past some keeps among)
    (λ some_past one other place hold other_hold keeps has has_other ne is is_other. g.met.O.Owners.apart owners some_past one other place hold other_hold keeps has has_other ne is is_other)
    (λ truth hints t place stood is. g.met.E.Engine.hints_at engine truth hints t place stood is)
    (block_there _ before.cache.areas made.areas (e.areas engine) block ready.areas ready.engine c.let_go.ensures.is_block)
    (λ other. refl) kept (record { other_sessions = λ other place hold ne is. is; other_blocks = λ place hold ne is. is }) (λ write has is. absurd (none write has is)) (λ place index reached. reached) in
    record { later = r.later; chain = r.chain; knew = r.knew; logs = r.logs; works = record { slots = r.works.slots; doubts = r.works.doubts }; stands = r.stands }

pub returns-clause-goes : goal.returns-clause-goes
returns-clause-goes g c =
    let items = c.args.self.now.machines.items in
    let node = c.args.node in
    let before = c.index_mut.result.now in
    let after = c.let_go.new.self in
    let was : slice_get items node ≡ Some before = slice_get-get_or items node before c.requires.there ∙ ap (λ (m : Machine). Some m) (sym c.index_mut.ensures.value) in
    subst (λ (m : Option Machine). IfSome m (λ old. IfSome (slice_get (slice_set items node after) node) (LetsGo c.args.at old))) (sym was)
    (subst (λ (m : Option Machine). IfSome m (LetsGo c.args.at before)) (sym (set_here items node after before was)) c.let_go.ensures)

pub returns-clause-ready : goal.returns-clause-ready
returns-clause-ready g c =
    let items = c.args.self.now.machines.items in
    let node = c.args.node in
    let made = g.S.Store.made c.args.self.now.store in
    let areas = g.E.Engine.areas c.args.self.now.engine in
    let asked = g.S.Store.asked c.args.self.now.store node in
    let before = c.index_mut.result.now in
    let after = c.let_go.new.self in
    let was : slice_get items node ≡ Some before = slice_get-get_or items node before c.requires.there ∙ ap (λ (m : Machine). Some m) (sym c.index_mut.ensures.value) in
    (put_there (IsReady made areas asked) items node after before was
    (ready_let_go made areas asked before after (of_there (IsReady made areas asked) (slice_get items node) before was c.requires.ready) c.args.at c.let_go.ensures))

pub returns-clause-rests : goal.returns-clause-rests
returns-clause-rests g c =
    let items = c.args.self.now.machines.items in
    let node = c.args.node in
    let before = c.index_mut.result.now in
    let after = c.let_go.new.self in
    let was : slice_get items node ≡ Some before = slice_get-get_or items node before c.requires.there ∙ ap (λ (m : Machine). Some m) (sym c.index_mut.ensures.value) in
    (put_there (λ (m : Machine). m.stage ≡ Idle) items node after before was
    (ap (λ (m : Machine). m.stage) c.let_go.ensures.only ∙ of_there (λ (m : Machine). m.stage ≡ Idle) (slice_get items node) before was c.requires.rests))

pub returns-clause-others : goal.returns-clause-others
returns-clause-others g c = record { others = λ other ne. set_there c.args.self.now.machines.items c.args.node other c.let_go.new.self ne }
