use Rattle.std.proofs.Common.{◌≡◌, ◌∙◌, ℕ, ◌+◌, ◌≤◌, ◌++◌, Contains, Option, Some, IfSome, sym, ap, subst, arith}
use Rattle.std.specs.Prelude.{slice_get, slice_set}
use Rattle.std.proofs.lemmas.Option.{slice_get-get_or}
use Rattle.std.proofs.lemmas.Result.{on_ok_weaker}
use Rattle.bx_world_chains.proofs.Chains.{last_place}
use Rattle.bx_base.specs.declared.names.Actor.TheVariants.{Node}
use Rattle.bx_facts.specs.Chains.{Chain, HasRow, IsPlace, LivesIn, last, oldest}
use Rattle.bx_facts.specs.Holds.{Hold, OwnersPast, given_floor, hold_of, owners_with}
use Rattle.bx_global.specs.declared.state.GlobalState.{GlobalState}
use Rattle.bx_node_events.proofs.Quieted.{none_sent, quiet_course, quieted}
use Rattle.bx_node_steps.specs.Changing.{LetsGo}
use Rattle.bx_node_steps.specs.Ready.{IsReady}
use Rattle.bx_node_steps.proofs.Fitting.{ready_let_go}
use Rattle.bx_node_steps.specs.Seen.{seen}
use Rattle.bx_node_steps.specs.declared.machine.Machine.{Machine}
use Rattle.bx_node_steps.specs.declared.machine.Stage.TheVariants.{Idle}
use Rattle.bx_nodes.proofs.GivingUp.{given_at}
use Rattle.bx_nodes.proofs.Wanting.{block_there}
use Rattle.bx_nodes.proofs.LettingGo.{lets_go}
use Rattle.bx_nodes.proofs.Machines.{both_ok, of_there, ok_so, put_there, seen_others, seen_there, set_here, set_there}
use Rattle.bx_world_chains.specs.Entitled.{AreAllowed}
use Rattle.bx_world_chains.proofs.Rows.{lives_of, lives_row}
use Rattle.bx_world_chains.proofs.Sessions.{own_row}
use Rattle.bx_world_standing.specs.Sessions.{IsOfNode}
use Rattle.bx_world_standing.proofs.Owns.{own_is}
use Rattle.bx_world_standing.proofs.Told.{own_of_node}
use Rattle.bx_nodes.proofs.nodes.Nodes.give_up.Goals as goal

pub returns-clause-stands : goal.returns-clause-stands
returns-clause-stands g c = λ x letters clocks course tree session up stands own live mine.
    let e = g.E.Engine in
    let engine = c.args.self.now.engine in
    let register = c.args.self.now.register in
    let owners = c.args.self.now.owners in
    let store = c.args.self.now.store in
    let items = c.args.self.now.machines.items in
    let node = c.args.node in
    let block = c.args.block in
    let made = g.S.Store.made store in
    let before = c.index_mut.result.now in
    let after = c.let_go.new.self in
    let was : slice_get items node ≡ Some before = slice_get-get_or items node before c.requires.there.0 ∙ ap (λ (m : Machine). Some m) (sym c.index_mut.ensures.value) in
    let is_mine : before.session ≡ Some session = subst (λ (m : Option Machine). IfSome m (λ machine. machine.session ≡ Some session)) was mine in
    let rests : before.stage ≡ Idle = subst (λ (m : Option Machine). IfSome m (λ machine. machine.stage ≡ Idle)) was c.requires.rests in
    let ready = of_there (IsReady made (e.areas engine) (g.S.Store.asked store node)) (slice_get items node) before was c.requires.ready in
    let later = slice_set items node after in
    let allowed : AreAllowed course.register.chain = record { each = λ s place. g.met.G.Register.allowed register x course.register s stands.at.parts.register_keeps place } in
    let own_st = sym (stands.at.parts.own node up) ∙ own in
    let legal = g.met.G.Register.legal register x course.register stands.at.parts.register_keeps in
    let leases : (one end : ℕ) → Contains course.owners.leases (one, end) → course.owners.told.greatest ≤ end + 500 → LivesIn (last course.register.chain) one = λ one end has late.
    subst (λ (chain : Chain). LivesIn (last chain) one) stands.at.pasts.owners_chain (g.met.O.Owners.lives owners course.owners one end stands.at.parts.owners_keep has late) in
    let alone : (one other place : ℕ) (hold : Hold) → LivesIn (last course.register.chain) one → HasRow (last course.register.chain) other → course.owners.holding one place ≡ Some hold → oldest course.register.chain ≤ other = λ one other place hold lives has held.
    subst (λ (chain : Chain). oldest chain ≤ other) stands.at.pasts.owners_chain (g.met.O.Owners.alone owners course.owners one other place hold stands.at.parts.owners_keep (subst (λ (chain : Chain). LivesIn (last chain) one) (sym stands.at.pasts.owners_chain) lives)
    (subst (λ (chain : Chain). HasRow (last chain) other) (sym stands.at.pasts.owners_chain) has) held) in
    let gone = g.met.S.Store.nothing_out store x course.store node session stands.at.parts.store_keeps own_st c.requires.none_out in
    let quiet = quieted g.G.Register g.O.Owners g.S.Store (e.stands engine) (e.step engine) register owners store x (letters ++ c.args.out.now) clocks (seen items) course tree session stands allowed legal gone.0 gone.1 leases alone in
    let none = none_sent g.G.Register g.O.Owners g.S.Store (e.stands engine) (e.step engine) register owners store x (letters ++ c.args.out.now) clocks (seen items) course tree session stands allowed legal gone.0 gone.1 leases alone in
    let q = quiet_course g.G.Register g.O.Owners g.S.Store (e.stands engine) (e.step engine) register owners store x (letters ++ c.args.out.now) clocks (seen items) course tree session stands allowed legal gone.0 gone.1 leases alone in
    let past : OwnersPast = record course.owners { told = record course.owners.told { letters = letters } } in
    let same_past : owners_with past c.args.out.now ≡ course.owners = λ i. record course.owners { told = record course.owners.told { letters = sym stands.at.pasts.owners_letters i } } in
    let kept = subst (λ (p : OwnersPast). g.O.Owners.keeps owners p) (sym same_past) stands.at.parts.owners_keep in
    let row = lives_row (last course.register.chain) session live in
    let is_own = own_is clocks.down (g.O.Owners.own owners) node session up own in
    let holds : g.O.Owners.hold owners node block ≡ course.owners.holding session block = g.met.O.Owners.held owners course.owners node block stands.at.parts.owners_keep ∙ ap (λ (s : Option ℕ). hold_of s course.owners.holding block) own in
    let is_of = own_of_node g.O.Owners.by_boot course.register.chain clocks (g.O.Owners.own owners) (λ n. course.store.told.knew (Node n)) allowed stands.at.sessions node session row.0 is_own row.1 row.2 in
    let told = stands.at.sessions.told node session is_own in
    let its_row = own_row g.O.Owners.by_boot told.state node (clocks.boots (Node node)) session (allowed.each told.state told.place) told.by in
    let less = stands.told node session is_own in
    let most = stands.at.parts.store_knew (Node node) in
    let index : ℕ = c.known.result.now.index in
    let is_index : index ≡ (g.G.Register.knows register (Node node)).index = ap (λ (s : GlobalState). s.index) c.known.ensures.knows in
    let same_index : index ≡ course.store.told.knew (Node node) = omega (arith, less, most, is_index) in
    on_ok_weaker c.give_up.result
    (λ both. let r = lets_go g.G.Register g.O.Owners g.S.Store (e.stands engine) (e.step engine) register owners c.give_up.new.self store x letters c.args.out.now c.give_up.new.out clocks (seen items) (seen later) q tree node session block (e.areas engine)
    before after both.0.holding (given_floor (g.O.Owners.hold owners node block) course.owners.floor block index) quiet up own live (allowed.each (last course.register.chain) (last_place course.register.chain)) (seen_there items node before was) is_mine rests
    (seen_there later node after (set_here items node after before was)) (λ other ne. seen_others items later other (set_there items node other after ne))
    c.let_go.ensures both.1
    (λ some_past some keeps among. g.met.G.Register.loses register x some_past some keeps among)
    (λ some_past some keeps among. g.met.S.Store.loses store x some_past some keeps among)
    (λ some_past one other place hold other_hold keeps has has_other ne is is_other. g.met.O.Owners.apart c.give_up.new.self some_past one other place hold other_hold keeps has has_other ne is is_other)
    (λ truth hints t place stood is. g.met.E.Engine.hints_at engine truth hints t place stood is)
    (block_there _ before.cache.areas made.areas (e.areas engine) block ready.areas ready.engine c.let_go.ensures.is_block)
    (λ other. (c.give_up.ensures.own other).0) both.0.stands both.0.may (λ write has is. absurd (none write has is))
    (given_at made.devices made.areas course.register.chain (IsOfNode g.O.Owners.by_boot clocks) (λ n. course.store.told.knew (Node n)) node session row.0 row.1 row.2 is_of course.owners.holding both.0.holding course.owners.floor block index
    (g.O.Owners.hold owners node block) both.0.may holds same_index) in
    record { later = r.later; chain = r.chain; knew = r.knew; logs = r.logs; works = record { slots = r.works.slots; doubts = r.works.doubts }; stands = r.stands })
    (both_ok _ _ c.give_up.result (c.give_up.ensures.keeps past session told.state kept (stands.at.pasts.owners_down (Node node) ∙ up) own
    (subst (λ (chain : Chain). IsPlace chain told.state) (sym stands.at.pasts.owners_chain) told.place) (told.at ∙ sym same_index) (lives_of told.state session its_row.row its_row.is its_row.lives)) c.give_up.ensures.sent)

pub returns-clause-goes : goal.returns-clause-goes
returns-clause-goes g c =
    let items = c.args.self.now.machines.items in
    let node = c.args.node in
    let before = c.index_mut.result.now in
    let after = c.let_go.new.self in
    let was : slice_get items node ≡ Some before = slice_get-get_or items node before c.requires.there.0 ∙ ap (λ (m : Machine). Some m) (sym c.index_mut.ensures.value) in
    on_ok_weaker c.give_up.result
    (λ sent. subst (λ (m : Option Machine). IfSome m (λ old. IfSome (slice_get (slice_set items node after) node) (LetsGo c.args.block old))) (sym was)
    (subst (λ (m : Option Machine). IfSome m (LetsGo c.args.block before)) (sym (set_here items node after before was)) c.let_go.ensures))
    c.give_up.ensures.sent

pub returns-clause-gives : goal.returns-clause-gives
returns-clause-gives g c = on_ok_weaker c.give_up.result (λ all. (all.0, all.1.0, all.1.1)) (both_ok _ _ c.give_up.result c.give_up.ensures.passes_on (both_ok _ _ c.give_up.result c.give_up.ensures.gone c.give_up.ensures.asks))

pub returns-clause-ready : goal.returns-clause-ready
returns-clause-ready g c =
    let items = c.args.self.now.machines.items in
    let node = c.args.node in
    let made = g.S.Store.made c.args.self.now.store in
    let areas = g.E.Engine.areas c.args.self.now.engine in
    let asked = g.S.Store.asked c.args.self.now.store node in
    let before = c.index_mut.result.now in
    let after = c.let_go.new.self in
    let was : slice_get items node ≡ Some before = slice_get-get_or items node before c.requires.there.0 ∙ ap (λ (m : Machine). Some m) (sym c.index_mut.ensures.value) in
    ok_so _ c.give_up.result (put_there (IsReady made areas asked) items node after before was
    (ready_let_go made areas asked before after (of_there (IsReady made areas asked) (slice_get items node) before was c.requires.ready) c.args.block c.let_go.ensures))

pub returns-clause-rests : goal.returns-clause-rests
returns-clause-rests g c =
    let items = c.args.self.now.machines.items in
    let node = c.args.node in
    let before = c.index_mut.result.now in
    let after = c.let_go.new.self in
    let was : slice_get items node ≡ Some before = slice_get-get_or items node before c.requires.there.0 ∙ ap (λ (m : Machine). Some m) (sym c.index_mut.ensures.value) in
    ok_so _ c.give_up.result (put_there (λ (m : Machine). m.stage ≡ Idle) items node after before was
    (ap (λ (m : Machine). m.stage) c.let_go.ensures.only ∙ of_there (λ (m : Machine). m.stage ≡ Idle) (slice_get items node) before was c.requires.rests))

pub returns-clause-others : goal.returns-clause-others
returns-clause-others g c = record { others = λ other ne. set_there c.args.self.now.machines.items c.args.node other c.let_go.new.self ne }
