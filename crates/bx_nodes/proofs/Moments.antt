-- What images show that a crash may leave while a machine is handed an input or starts again, by the clauses of register and store on the moments of their calls: what the course has.
use Rattle.std.proofs.Common.{◌≡◌, inl, inr, ◌∙◌, ℕ, ◌+◌, ◌<◌, ◌≤◌, true, false, List, ◌++◌, Contains, refl, sym, subst, arith}
use Rattle.std.specs.Prelude.{slice_index}
use Rattle.bx_base.specs.declared.names.Actor.{Actor}
use Rattle.bx_base.specs.declared.names.Actor.TheVariants.{Node}
use Rattle.bx_calls.specs.Calls.{LeavesOnly}
use Rattle.bx_calls.specs.Laws.{leaves_implies}
use Rattle.bx_disk.specs.Disks.{Disks, Image, IsImage}
use Rattle.bx_facts.specs.declared.input.Input.{Input}
use Rattle.bx_facts.specs.declared.owners.Owners as owners
use Rattle.bx_facts.specs.declared.register.Register as register
use Rattle.bx_facts.specs.declared.store.Store as store
use Rattle.bx_facts.specs.Chains.{Chain, GrowsBy, IsNext, grown, last}
use Rattle.bx_facts.specs.Disks.{ReadsOnly}
use Rattle.bx_facts.specs.Inputs.{IsComing, IsOwners, IsRegisters, IsSteady, IsStores, SendsOnly}
use Rattle.bx_facts.specs.Pasts.{MayHear, MayRestart, MayTake, RegisterPast, Told, register_with, told_grown, told_restarted}
use Rattle.bx_facts.specs.Writes.{GoesOn, HasSettled, IsOfStore, IsOnly, IsSettled, StorePast, store_grown, store_restarted, store_with}
use Rattle.bx_facts.proofs.Following.{none_new}
use Rattle.bx_global.specs.declared.change.Change.{Change}
use Rattle.bx_global.specs.declared.state.GlobalState.{GlobalState}
use Rattle.bx_global.specs.Table.{IsLegal}
use Rattle.bx_node_events.proofs.Clauses.{comes_more, may_more}
use Rattle.bx_node_events.proofs.Decided.{lettered}
use Rattle.bx_node_events.proofs.Registered.{HandedLaws, IsLast, RegisterTook, SameVolume, kept_by, owners_not_stores, registered, same_lengths}
use Rattle.bx_node_events.proofs.Starting.{StoreTries, may_start}
use Rattle.bx_node_events.proofs.Taken.{loose, loosen, may_store}
use Rattle.bx_node_machines.specs.Machines.{MachineView}
use Rattle.bx_node_machines.specs.Nodes.{IsOfNode, NodesStand, known_of}
use Rattle.bx_node_machines.specs.Stopping.{StandsBut}
use Rattle.bx_post.specs.declared.packets.Letter.{Letter}
use Rattle.bx_views.specs.Attempts.{Deed}
use Rattle.bx_views.specs.Truths.{Hints, Truth}
use Rattle.bx_world_chains.specs.Entitled.{AreAllowed}
use Rattle.bx_world_standing.specs.bx_world_logs.specs.Logs.{LogsStand}
use Rattle.bx_world_standing.specs.bx_world_logs.proofs.Growing.{rows_go}
use Rattle.bx_world_standing.specs.Closings.{ClosingStands}
use Rattle.bx_world_standing.specs.Labels.{LabelsStand}
use Rattle.bx_world_standing.specs.Parts.{Clocks}
use Rattle.bx_world_standing.specs.Rights.{IsWithin, Surely}
use Rattle.bx_world_standing.specs.Standing.{Course, Known, StandsAt}
use Rattle.bx_world_standing.proofs.Owns.{of_before}
use Rattle.bx_world_stays.proofs.Labels.{labels_keep, same_labels}
use Rattle.bx_world_stays.proofs.Stays.{only_stays}
use Rattle.bx_world_volumes.specs.Left.{MayShow, StandsIn, all_sure}
use Rattle.bx_world_volumes.proofs.Left.{HasLogs, next_read, registers_leave, stores_leave}
use Rattle.bx_world_volumes.proofs.Volumes.{AreStoreLaws}

-- The laws that moments need beside those of an input.
pub record MomentLaws {G S : Type 0} (g : register.Ghosts G) (st : store.Ghosts S) : Type 0 where
  pub reads_next : (one : G) (w : Disks) (past : RegisterPast) (image : Image) (s : GlobalState) → g.keeps one w past → IsImage w image → g.reads_as (g.made one) w.sizes image s → IsNext past.proposed (last past.chain) s
  pub settles : (one : S) (w : Disks) (past : StorePast) (d s : ℕ) (content : List ℕ) (index : ℕ) → st.keeps one w past → st.stands one w past d s content index → st.settled one w past d s content
  pub settled_is : (one : S) (w : Disks) (past : StorePast) (d s : ℕ) (content : List ℕ) → st.keeps one w past → st.settled one w past d s content → IsSettled w (last past.told.chain) d s content
  pub labelled : (one : S) (w : Disks) (past : StorePast) → st.keeps one w past → IsOfStore (st.made one) w (last past.told.chain)

-- what an image shows, whichever of the same volume
pub shows_same : (IsState : Image → GlobalState → Type 0) (made : _) (sizes : List ℕ) (c later : Course) → SameVolume c later → (image : Image) → MayShow IsState made sizes later image → MayShow IsState made sizes c image
shows_same IsState made sizes c later same image shows is_of = let is = shows is_of in record {
  labels = is.labels;
  stands = λ s is_state. subst (λ b. StandsIn (all_sure sizes image) made b c.logs c.slots c.truth s) same.before
      (subst (λ l. StandsIn (all_sure sizes image) made later.before l c.slots c.truth s) same.logs
      (subst (λ slots. StandsIn (all_sure sizes image) made later.before later.logs slots c.truth s) same.slots
      (subst (λ t. StandsIn (all_sure sizes image) made later.before later.logs later.slots t s) same.truth (is.stands s is_state))));
}

-- what stands by a store's past, with this told beside
abbrev told_as : StorePast → Told → StorePast
told_as past told = record past { told = record told { chain = past.told.chain; handed = past.told.handed } }

module _ {G O S : Type 0} (g : register.Ghosts G) (o : owners.Ghosts O) (st : store.Ghosts S) (laws : HandedLaws g o st) (moments : MomentLaws g st) where
  store_laws : (one : S) (w : Disks) → AreStoreLaws w (st.made one) (st.keeps one w) (st.stands one w) (st.settled one w)
  store_laws one w = record {
    settles = moments.settles one w;
    settled_is = moments.settled_is one w;
    grows = λ past change keeps legal own. let it = laws.stores_grow one w past change keeps legal own in (it.0, it.1.standing);
    labelled = moments.labelled one w;
  }

  module _ {T : Type 0} (Stands : Truth → Hints → T → Type 0) (Step : T → Deed → T → Type 0) (register_is : G) (owners_are : O) (store_is : S) (x : Disks) (known : Known) (c : Course) (tree : T)
      (at : StandsAt (loose g) o st Stands Step register_is owners_are store_is x known c tree) (allowed : AreAllowed c.register.chain) where
    abbrev Has : S → Disks → StorePast → Type 0
    Has one w sp = HasLogs (st.made store_is) (st.keeps one w) (st.stands one w) (IsOfNode o.by_boot known.clocks) (λ node. c.store.told.knew (Node node)) c.register.proposed c.owners c.before c.logs c.slots c.truth sp

    pub has_logs : Has store_is x c.store
    has_logs = record {
      kept = at.parts.store_keeps;
      grows = λ change there legal. let it = laws.stores_grow store_is x c.store change at.parts.store_keeps legal (at.pasts.proposed change there).1 in (it.0, it.1.standing);
      same = at.pasts.owners_chain ∙ sym at.pasts.store_chain;
      allowed = subst (λ (chain : Chain). AreAllowed chain) (sym at.pasts.store_chain) allowed;
      closings = λ gone by there. subst (λ (chain : Chain). ClosingStands (st.made store_is).devices (last chain) c.logs c.slots c.store.writes gone by) (sym at.pasts.store_chain) (at.closings gone by there);
      logs_stand = subst (λ (chain : Chain). LogsStand (Surely (st.stands store_is x c.store)
          (IsWithin (st.made store_is).devices (st.made store_is).areas chain c.owners.holding c.owners.floor (IsOfNode o.by_boot known.clocks) (λ node. c.store.told.knew (Node node))) c.store.writes c.store.told.greatest)
          (st.made store_is).devices (st.made store_is).areas (last chain).sessions c.before c.logs c.slots c.truth) (sym at.pasts.store_chain) at.logs;
    }

    has_then : (one : S) (w : Disks) (told : Told) → st.keeps one w (told_as c.store told) → c.store.told.greatest ≤ told.greatest
        → ((d s : ℕ) (content : List ℕ) (index : ℕ) → IsOnly c.store.writes c.store.told.greatest d s content → st.stands store_is x c.store d s content index → st.stands one w (told_as c.store told) d s content index)
        → Has one w (told_as c.store told)
    has_then one w told kept later stands = record {
      kept = kept;
      grows = λ change there legal. let it = laws.stores_grow one w (told_as c.store told) change kept legal (at.pasts.proposed change there).1 in (it.0, it.1.standing);
      same = has_logs.same;
      allowed = has_logs.allowed;
      closings = has_logs.closings;
      logs_stand = rows_go _ _ (st.made store_is).devices (st.made store_is).areas c.before
          (λ d s content sure. record { index = sure.index; is = stands d s content sure.index sure.only sure.is; only = only_stays c.store.writes c.store.told.greatest told.greatest d s content later sure.only; within = sure.within })
          (last c.store.told.chain).sessions (last c.store.told.chain).sessions c.logs c.slots c.truth (λ slot less. inl refl) has_logs.logs_stand;
    }

    abbrev MayShowHere : G → Disks → Image → Type 0
    MayShowHere one w = MayShow (g.reads_as (g.made one) w.sizes) (st.made store_is) w.sizes c

    next_here : (s : GlobalState) → IsNext c.register.proposed (last c.register.chain) s → IsNext c.register.proposed (last c.store.told.chain) s
    next_here s = subst (λ (chain : Chain). IsNext c.register.proposed (last chain) s) (sym at.pasts.store_chain)

    -- While a register does what it does, on disks on which a store has what it had.
    pub register_leaves : (one : S) (w : Disks) (told : Told) → st.made one ≡ st.made store_is → Has one w (told_as c.store told) → LabelsStand (st.made store_is) w → (before now : ℕ) (past since : ℕ → Image → Type 0)
        → LeavesOnly before now past since (ReadsOnly (g.reads_as (g.made register_is)) w (IsNext c.register.proposed (last c.register.chain))) → LeavesOnly before now past since (MayShowHere register_is w)
    register_leaves one w told same has labels before now past since leaves =
        registers_leave w (st.made store_is) (st.keeps one w) (st.stands one w) (st.settled one w) (subst (λ m. AreStoreLaws w m (st.keeps one w) (st.stands one w) (st.settled one w)) same (store_laws one w))
        (IsOfNode o.by_boot known.clocks) (of_before o.by_boot known.clocks) (λ node. c.store.told.knew (Node node)) c.register.proposed c.owners c (told_as c.store told) has labels
        (g.reads_as (g.made register_is) w.sizes) before now past since (g.reads_as (g.made register_is)) (λ image s is. is)
        (leaves_implies before now past since (ReadsOnly (g.reads_as (g.made register_is)) w (IsNext c.register.proposed (last c.register.chain))) _ leaves
        (λ image is. record { members = is.members; labels = is.labels; read = λ s reads. next_here s (is.read s reads) }))

    -- While a store does, on disks on which a register keeps what was decided.
    pub store_leaves : (told : Told) → Has store_is x (told_as c.store told) → g.keeps register_is x c.register → ((d s : ℕ) → x.unsure d s ≡ true → s < slice_index x.sizes d) → (before now : ℕ) (past since : ℕ → Image → Type 0)
        → LeavesOnly before now past since (HasSettled c.store.writes told.greatest (st.settled store_is x (told_as c.store told)) x (last c.store.told.chain))
        → ((change : Change) → Contains c.register.proposed change → IsLegal (last c.store.told.chain) change
        → LeavesOnly before now past since (HasSettled c.store.writes told.greatest (st.settled store_is x (store_grown (told_as c.store told) change)) x (last (grown c.store.told.chain change))))
        → LeavesOnly before now past since (MayShowHere register_is x)
    store_leaves told has keeps there before now past since leaves grown_leaves =
        stores_leave x (st.made store_is) (st.keeps store_is x) (st.stands store_is x) (st.settled store_is x) (store_laws store_is x)
        (IsOfNode o.by_boot known.clocks) (of_before o.by_boot known.clocks) (λ node. c.store.told.knew (Node node)) c.register.proposed c.owners c (told_as c.store told) has at.labels
        (g.reads_as (g.made register_is) x.sizes) before now past since
        (λ image is_of sure s is. next_here s (next_read g register_is x c.register keeps image is_of (λ y kept lengths replicas labels. laws.registers_elsewhere register_is x y c.register kept lengths replicas labels)
        (λ y state kept is_image reads. moments.reads_next register_is y c.register image state kept is_image reads) there sure s is))
        leaves grown_leaves

-- ---- an input, and a start

-- what a machine may be handed, and start with, it may where one change more was decided
may_grow : (told : Told) (change : Change) (s : GlobalState) (who : Actor) (input : Input) → MayTake told s who input → MayTake (told_grown told change) s who input
may_grow told change s who input may = record { up = may.up; place = inr may.place; rises = may.rises; own_boot = may.own_boot; steady = may.steady; comes = may.comes }

start_grown : (told : Told) (change : Change) (who : Actor) (boot reading : ℕ) → MayRestart told who boot reading → MayRestart (told_grown told change) who boot reading
start_grown told change who boot reading may = record { down = may.down; boot_rises = may.boot_rises; own_boot = may.own_boot; steady = may.steady }

module _ {G O S T : Type 0} (g : register.Ghosts G) (o : owners.Ghosts O) (st : store.Ghosts S) (Stands : Truth → Hints → T → Type 0) (Step : T → Deed → T → Type 0) (laws : HandedLaws g o st) (moments : MomentLaws g st)
    (register_is : G) (owners_are : O) (store_is : S) (x y : Disks) (letters box : List Letter) (clocks : Clocks) (machines : List MachineView) (who : Actor) (c : Course) (tree : T)
    (stands : NodesStand g o st Stands Step register_is owners_are store_is x (letters ++ box) clocks machines c tree) where
  abbrev known : Known
  known = known_of g o st Stands Step register_is owners_are store_is x (letters ++ box) clocks machines

  at : StandsAt (loose g) o st Stands Step register_is owners_are store_is x known c tree
  at = loosen g o st Stands Step register_is register_is owners_are store_is x known c tree (λ other. omega arith) stands.at

  allowed : AreAllowed c.register.chain
  allowed = record { each = λ s there. laws.allowed register_is x c.register s stands.at.parts.register_keeps there }

  -- what an image shows that has what the course has
  abbrev pub Shown : Image → Type 0
  Shown = MayShow (g.reads_as (g.made register_is) x.sizes) (st.made store_is) x.sizes c

  -- the register's past, with the letters that aren't in the box
  abbrev unboxed : RegisterPast
  unboxed = record c.register { letters = letters }

  boxed : (w : Disks) → g.keeps register_is w c.register → g.keeps register_is w (register_with unboxed box)
  boxed w = subst (λ (posted : List Letter). g.keeps register_is w (record c.register { letters = posted })) stands.at.pasts.letters

  module _ (input : Input) (up : clocks.down who ≡ false) (comes : IsComing (letters ++ box) input) (before now : ℕ) (past since : ℕ → Image → Type 0) where
    -- While the register takes it.
    pub register_takes : ((one : RegisterPast) → g.keeps register_is x (register_with one box) → MayHear (register_with one box) who input → LeavesOnly before now past since (ReadsOnly (g.reads_as (g.made register_is)) x (IsNext one.proposed (last one.chain))))
        → LeavesOnly before now past since Shown
    register_takes clause = register_leaves g o st laws moments Stands Step register_is owners_are store_is x known c tree at allowed store_is x c.store.told refl
        (has_logs g o st laws moments Stands Step register_is owners_are store_is x known c tree at allowed) stands.at.labels before now past since
        (clause unboxed (boxed x stands.at.parts.register_keeps) (record { up = stands.at.pasts.down who ∙ up; comes = comes }))

    -- While the store does, behind register and owners.
    pub store_takes : (register_heard : G) (heard_box tended_box : List Letter) → IsSteady clocks.greatest input → RegisterTook g register_is register_heard x y who input box heard_box → g.made register_heard ≡ g.made register_is → SendsOnly IsOwners heard_box tended_box
        → ((d s : ℕ) → y.unsure d s ≡ true → s < slice_index y.sizes d)
        → ((one : StorePast) → st.keeps store_is y (store_with one tended_box) → MayTake (store_with one tended_box).told (g.knows register_heard who) who input
        → LeavesOnly before now past since (HasSettled one.writes one.told.greatest (st.settled store_is y (store_with one tended_box)) y (last one.told.chain)))
        → LeavesOnly before now past since Shown
    store_takes register_heard heard_box tended_box steady register_took same_made sent there clause =
        leaves_implies before now past since (MayShow (g.reads_as (g.made register_heard) y.sizes) (st.made store_is) y.sizes later) Shown
        (store_leaves g o st laws moments Stands Step register_heard owners_are store_is y known_then later tree at_then allowed_then told has but.at.parts.register_keeps there before now past since
        (clause one has.kept may)
        (λ change proposed legal. clause (store_grown one change) (has.grows change proposed legal).0 (may_grow (store_with one tended_box).told change (g.knows register_heard who) who input may)))
        (λ image shows. subst (λ m. MayShow (g.reads_as m x.sizes) (st.made store_is) x.sizes c image) same_made
        (subst (λ (sizes : List ℕ). MayShow (g.reads_as (g.made register_heard) sizes) (st.made store_is) sizes c image) register_took.sizes
        (shows_same (g.reads_as (g.made register_heard) y.sizes) (st.made store_is) y.sizes c later (record { before = heard.3.before; logs = heard.3.logs; slots = heard.3.slots; truth = heard.3.truth; doubts = heard.3.doubts }) image shows)))
      where
        heard : (one : Course) × GrowsBy c.register.proposed c.register.chain one.register.chain
            × StandsBut g o st Stands Step register_heard owners_are store_is y who (letters ++ heard_box) clocks machines (lettered one (letters ++ heard_box)) tree × SameVolume c one × IsLast (g.knows register_heard who) c.register.chain one.register.chain
        heard = registered g o st Stands Step laws register_is register_heard owners_are store_is x y letters box heard_box clocks machines who input c tree stands up comes register_took

        later : Course
        later = lettered heard.0 (letters ++ heard_box)

        but : StandsBut g o st Stands Step register_heard owners_are store_is y who (letters ++ heard_box) clocks machines later tree
        but = heard.2

        known_then : Known
        known_then = known_of g o st Stands Step register_heard owners_are store_is y (letters ++ heard_box) clocks machines

        at_then : StandsAt (loose g) o st Stands Step register_heard owners_are store_is y known_then later tree
        at_then = loosen g o st Stands Step register_heard register_heard owners_are store_is y known_then later tree (λ other. omega arith) but.at

        allowed_then : AreAllowed later.register.chain
        allowed_then = record { each = λ s place. laws.allowed register_heard y later.register s but.at.parts.register_keeps place }

        told : Told
        told = record later.store.told { letters = letters ++ tended_box }

        one : StorePast
        one = record later.store { told = record later.store.told { letters = letters } }

        lost : st.keeps store_is y (store_with one tended_box) × GoesOn later.store.writes later.store.told.greatest (st.asked store_is) (st.settled store_is y later.store) (st.settled store_is y (store_with one tended_box))
            (st.will_read store_is y later.store) (st.will_read store_is y (store_with one tended_box)) (st.stands store_is y later.store) (st.stands store_is y (store_with one tended_box))
        lost = laws.stores_lose store_is y later.store (letters ++ tended_box) but.at.parts.store_keeps (none_new IsStores IsOwners owners_not_stores letters heard_box tended_box sent)

        has : HasLogs (st.made store_is) (st.keeps store_is y) (st.stands store_is y) (IsOfNode o.by_boot clocks) (λ node. later.store.told.knew (Node node)) later.register.proposed later.owners later.before later.logs later.slots later.truth (told_as later.store told)
        has = has_then g o st laws moments Stands Step register_heard owners_are store_is y known_then later tree at_then allowed_then store_is y told lost.0 (omega arith) (λ d s content index only was. lost.1.standing d s content index only was)

        may : MayTake (store_with one tended_box).told (g.knows register_heard who) who input
        may = may_more one.told heard_box tended_box (g.knows register_heard who) who input (kept_by IsOwners letters heard_box tended_box sent)
            (may_store g o st Stands Step register_heard owners_are store_is y (letters ++ heard_box) clocks machines later tree who input at_then up
            (laws.places register_heard y later.register who but.at.parts.register_keeps) steady
            (comes_more (letters ++ box) (letters ++ heard_box) input (kept_by IsRegisters letters box heard_box register_took.sent) comes))

  module _ (boot reading : ℕ) (down : clocks.down who ≡ true) (above : clocks.most < boot) (steady : clocks.greatest ≤ reading + 500) (before now : ℕ) (past since : ℕ → Image → Type 0) where
    may : MayRestart c.store.told who boot reading
    may = (may_start g o st Stands Step register_is owners_are store_is x (letters ++ box) clocks machines c tree who boot reading stands down above steady).1

    -- While the store starts.
    pub store_starts : ((d s : ℕ) → x.unsure d s ≡ true → s < slice_index x.sizes d)
        → ((one : StorePast) → st.keeps store_is x one → MayRestart one.told who boot reading → LeavesOnly before now past since (HasSettled one.writes one.told.greatest (st.settled store_is x one) x (last one.told.chain)))
        → LeavesOnly before now past since Shown
    store_starts there clause =
        let has = has_logs g o st laws moments Stands Step register_is owners_are store_is x known c tree at allowed in
        store_leaves g o st laws moments Stands Step register_is owners_are store_is x known c tree at allowed c.store.told has stands.at.parts.register_keeps there before now past since
        (clause c.store stands.at.parts.store_keeps may)
        (λ change proposed legal. clause (store_grown c.store change) (has.grows change proposed legal).0 (start_grown c.store.told change who boot reading may))

    -- While the register does, behind it.
    pub register_starts : (store_up : S) → StoreTries st store_is store_up x y who boot reading (λ one. store_restarted one who boot reading)
        → ((one : RegisterPast) → g.keeps register_is y (register_with one box) → one.down who ≡ true → one.boots who < boot → LeavesOnly before now past since (ReadsOnly (g.reads_as (g.made register_is)) y (IsNext one.proposed (last one.chain))))
        → LeavesOnly before now past since Shown
    register_starts store_up tries clause = leaves_implies before now past since (MayShow (g.reads_as (g.made register_is) y.sizes) (st.made store_is) y.sizes c) Shown
        (register_leaves g o st laws moments Stands Step register_is owners_are store_is x known c tree at allowed store_up y told tries.made
        (has_then g o st laws moments Stands Step register_is owners_are store_is x known c tree at allowed store_up y told (tries.keeps c.store stands.at.parts.store_keeps may) (omega arith)
        (λ d s content index only was. tries.stands c.store d s content index stands.at.parts.store_keeps may only was))
        (labels_keep (st.made store_is) x y tries.sizes (same_labels x y tries.labels) stands.at.labels) before now past since
        (clause unboxed (boxed y (laws.registers_elsewhere register_is x y c.register stands.at.parts.register_keeps (same_lengths x y tries.sizes) tries.replicas tries.labels))
        (stands.at.pasts.down who ∙ down) (let low = stands.at.pasts.boots who in omega (arith, low, above))))
        (λ image shows. subst (λ (sizes : List ℕ). MayShow (g.reads_as (g.made register_is) sizes) (st.made store_is) sizes c image) tries.sizes shows)
      where
        told : Told
        told = told_restarted c.store.told who boot reading
