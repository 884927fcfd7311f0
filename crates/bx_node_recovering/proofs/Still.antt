-- The nodes stand where one's recovery goes on, begins or ends, and at most a read of it is sent.
use Rattle.std.proofs.Common.{◌≡◌, ◌≢◌, ◌⊎◌, inl, ℕ, ◌<◌, ◌≤◌, List, Contains, Option, Some, None, refl, sym, subst}
use Rattle.bx_base.specs.declared.names.Actor.TheVariants.{Node}
use Rattle.bx_disk.specs.Disks.{Disks, Image}
use Rattle.bx_facts.specs.declared.owners.Owners as owners
use Rattle.bx_facts.specs.declared.register.Register as register
use Rattle.bx_facts.specs.declared.store.Store as store
use Rattle.bx_facts.specs.Chains.{HasRow, LivesIn, last, oldest}
use Rattle.bx_facts.specs.Holds.{Hold}
use Rattle.bx_facts.specs.Writes.{GoesOn, Made, StorePast}
use Rattle.bx_node_events.proofs.Acting.{IsChanged, IsLive}
use Rattle.bx_node_events.proofs.Asked.{with_letters}
use Rattle.bx_node_machines.specs.Machines as words
use Rattle.bx_node_machines.specs.Machines.{Fetch, IsFetching, IsUnseen, MachineView, Scene}
use Rattle.bx_node_machines.specs.Nodes.{IsOfNode, NodesStand, known_of, scene_of}
use Rattle.bx_node_machines.specs.Recoveries.{IsUnderWay, SuitsStage}
use Rattle.bx_node_machines.specs.Recovering.{HasEnded, IsRecovering, Recovers, around, recovery_of}
use Rattle.bx_node_recovering.proofs.Beside.{IsInSlot, IsSentBeside, Rests}
use Rattle.bx_node_recovering.proofs.Standing as standing
use Rattle.bx_post.specs.declared.packets.Letter.{Letter}
use Rattle.bx_recover.specs.Recovering.{RecoveryView}
use Rattle.bx_recover.specs.declared.stage.Stage.{Stage}
use Rattle.bx_recover.specs.declared.stage.Stage.TheVariants.{Closed}
use Rattle.bx_rows.specs.declared.session.SessionRow.{SessionRow}
use Rattle.bx_views.specs.Attempts.{Deed}
use Rattle.bx_views.specs.Truths.{Hints, Truth}
use Rattle.bx_volume.specs.Overlay.{Logs}
use Rattle.bx_volume.specs.Records.{Logged}
use Rattle.bx_world_chains.specs.Entitled.{IsEntitled}
use Rattle.bx_world_logs.specs.Logs.{Slot}
use Rattle.bx_world_standing.specs.Parts.{Clocks}
use Rattle.bx_world_standing.specs.Rights.{IsWithin, Surely}
use Rattle.bx_world_standing.specs.Standing.{Course, Known, StandsAt, SureOf}
use Rattle.bx_world_views.specs.Views.{Unacknowledged}

-- A step that leaves the course is in its slot.
pub same_course : (devices areas : ℕ) (c : Course) (slot gone : ℕ) → slot < 8 → IsInSlot devices areas c slot gone c.before c.logs c.slots c.doubts
same_course devices areas c slot gone low = record {
  log_others = λ other ne. refl;
  slot_others = λ other ne. refl;
  doubt_others = λ other ne. refl;
  homes = λ block i is unlogged few. refl;
  elsewhere = λ other d s ne few inside. refl;
  unlogged = λ block unlogged unwritten. unlogged slot low;
  unwritten = λ block was on. was slot low on;
}

-- what a recovery reads is what it asked for, or nothing
abbrev pub ReadsLog : Fetch → Type 0
ReadsLog words.Nothing = Unit {0}
ReadsLog (words.Block block mode) = ⊥
ReadsLog words.Dropped = ⊥
ReadsLog words.OfLog = Unit {0}

module _ {G O S T : Type 0} (g : register.Ghosts G) (o : owners.Ghosts O) (st : store.Ghosts S) (Stands : Truth → Hints → T → Type 0) (Step_is : T → Deed → T → Type 0)
    (register_is : G) (owners_are : O) (old new : S) (x : Disks) (letters then_letters : List Letter) (clocks : Clocks) (machines later : List MachineView) (c : Course) (tree next : T)
    (node session gone slot : ℕ) (row : SessionRow) (before : MachineView) (records : List Logged)
    (stands : NodesStand g o st Stands Step_is register_is owners_are old x letters clocks machines c tree)
    (live : IsLive (o.own owners_are) clocks (last c.register.chain) machines node session row before)
    (claimed : IsEntitled (last c.register.chain) gone slot session) (is_other : gone ≢ session)
    (alone : (one other block : ℕ) (hold : Hold) → LivesIn (last c.register.chain) one → HasRow (last c.register.chain) other → c.owners.holding one block ≡ Some hold → oldest c.register.chain ≤ other)
    (before_then : Image) (logs_then : Logs) (slots_then : ℕ → Slot) (truth_then : Truth) (doubts_then : ℕ → Option Unacknowledged)
    (in_slot : IsInSlot (st.made old).devices (st.made old).areas c slot gone before_then logs_then slots_then doubts_then)
    (made : st.made new ≡ st.made old) (same_out : (other : ℕ) → st.out_of new other ≡ st.out_of old other) (elsewhere : (reader : ℕ) → reader ≢ node → st.asked new reader ≡ st.asked old reader)
    (goes : GoesOn c.store.writes c.store.told.greatest (st.asked old) (st.settled old x c.store) (st.settled new x (with_letters c then_letters).store) (st.will_read old x c.store) (st.will_read new x (with_letters c then_letters).store)
    (st.stands old x c.store) (st.stands new x (with_letters c then_letters).store)) where
  abbrev known : Known
  known = known_of g o st Stands Step_is register_is owners_are old x letters clocks machines

  abbrev Sure : ℕ → ℕ → List ℕ → Type 0
  Sure = SureOf g o st Stands Step_is register_is owners_are old x known c

  abbrev None_brought : ℕ → ℕ → Type 0
  None_brought d s = ⊥

  -- what was done then
  abbrev pub then_is : Course
  then_is = with_letters (record c { before = before_then; logs = logs_then; slots = slots_then; truth = truth_then; doubts = doubts_then }) then_letters

  abbrev SureBy : Made → ℕ → ℕ → List ℕ → Type 0
  SureBy m = Surely (st.stands new x then_is.store) (IsWithin m.devices m.areas c.register.chain c.owners.holding c.owners.floor (IsOfNode o.by_boot clocks) (λ n. c.store.told.knew (Node n))) c.store.writes c.store.told.greatest

  brings : IsSentBeside (st.made old).devices (st.made old).areas c session slot None_brought c.store.writes Sure (SureBy (st.made old))
  brings = record {
    touches = λ d s b. absurd b;
    apart = λ other d s ne few inside b. b;
    homes = λ block i is unlogged few b. b;
    of_others = λ one has apart. has;
    was_or = λ one has. inl has;
    sure = λ d s content none is. record { index = is.index; is = goes.standing d s content is.index is.only is.is; only = is.only; within = is.within };
  }

  abbrev Then : Scene
  Then = scene_of g o st Stands Step_is register_is owners_are new x clocks.down later then_is

  -- By what the step says of the whole, and of its recovery then: it is at a stage.
  pub stands_at_stage : (stage : Stage) (fetch : Fetch) → IsChanged machines later node (record before { stage = words.Recovers gone (recovery_of slot (st.made old).devices (st.made old).areas stage records); fetch = fetch })
      → ReadsLog fetch → (fetch ≡ words.Nothing → st.asked new node ≡ None) → Rests before.stage → (Contains before.finished gone → ⊥) → (HasEnded stage → ⊥)
      → StandsAt g o st Stands Step_is register_is owners_are new x (record known { letters = then_letters }) then_is next
      → Recovers g o st Stands Step_is register_is owners_are new x (record known { letters = then_letters }) then_is node session gone slot stage records
      → NodesStand g o st Stands Step_is register_is owners_are new x then_letters clocks later then_is next
  stands_at_stage stage fetch changed of none_asked rests unfinished unended at its =
      standing.stand_beside g o st Stands Step_is register_is owners_are old new x letters then_letters clocks machines later c tree next node session gone slot row before after
      stands live changed claimed is_other alone None_brought c.store.writes before_then logs_then slots_then truth_then doubts_then in_slot
      brings made (λ other ne. same_out other) elsewhere (λ other s content asks ne was none sure read. goes.reading other s content asks was sure.only read)
      rests tt refl refl refl refl refl (λ idle. absurd (let wrong = idle in cc)) (fetches fetch of none_asked) (unseen fetch of) unfinished (λ one has. inl has) (suits fetch of)
      under_way (λ has. absurd (unfinished has)) at
    where
      after : MachineView
      after = record before { stage = words.Recovers gone (recovery_of slot (st.made old).devices (st.made old).areas stage records); fetch = fetch }

      fetches : (one : Fetch) → ReadsLog one → (one ≡ words.Nothing → st.asked new node ≡ None) → IsFetching (st.made old).devices (st.made old).areas (st.will_read new x then_is.store node) Then node session one
      fetches words.Nothing log none = none refl
      fetches (words.Block block mode) log none = absurd log
      fetches words.Dropped log none = absurd log
      fetches words.OfLog log none = tt

      unseen : (one : Fetch) → ReadsLog one → IsUnseen before.held one
      unseen words.Nothing log = tt
      unseen (words.Block block mode) log = absurd log
      unseen words.Dropped log = tt
      unseen words.OfLog log = tt

      suits : (one : Fetch) → ReadsLog one → SuitsStage (words.Recovers gone (recovery_of slot (st.made old).devices (st.made old).areas stage records)) one
      suits words.Nothing log = tt
      suits (words.Block block mode) log = absurd log
      suits words.Dropped log = absurd log
      suits words.OfLog log = tt

      one_recovery : (one : ℕ) (recovery : RecoveryView) → words.Recovers gone (recovery_of slot (st.made old).devices (st.made old).areas stage records) ≡ words.Recovers one recovery → (gone ≡ one) × (recovery_of slot (st.made old).devices (st.made old).areas stage records ≡ recovery)
      one_recovery one recovery e = (let a : gone ≡ one = cc in a, let b : recovery_of slot (st.made old).devices (st.made old).areas stage records ≡ recovery = cc in b)

      under_way : (one : ℕ) (recovery : RecoveryView) → words.Recovers gone (recovery_of slot (st.made old).devices (st.made old).areas stage records) ≡ words.Recovers one recovery
          → IsUnderWay (st.made old).devices (st.made old).areas (SureBy (st.made old)) (st.will_read new x then_is.store) c.register.chain (λ n. c.store.told.knew (Node n)) c.register.proposed Then node session after one recovery
      under_way one recovery e =
          let both = one_recovery one recovery e in
          subst (λ (n : ℕ). IsUnderWay (st.made old).devices (st.made old).areas (SureBy (st.made old)) (st.will_read new x then_is.store) c.register.chain (λ k. c.store.told.knew (Node k)) c.register.proposed Then node session after n recovery) both.0
          (subst (λ (r : RecoveryView). IsUnderWay (st.made old).devices (st.made old).areas (SureBy (st.made old)) (st.will_read new x then_is.store) c.register.chain (λ k. c.store.told.knew (Node k)) c.register.proposed Then node session after gone r) both.1
          (record {
            is = refl;
            unended = unended;
            unfinished = unfinished;
            goes = subst (λ (m : Made). IsRecovering m.devices m.areas (SureBy m) (st.will_read new x then_is.store node) c.register.chain (c.store.told.knew (Node node)) c.register.proposed
                (around g o st Stands Step_is register_is owners_are new x (record known { letters = then_letters }) then_is node) session gone slot stage records) made its;
          }))

  -- It is over: the node keeps that it has finished it.
  pub stands_ended : (finished : List ℕ) → IsChanged machines later node (record before { stage = words.Idle; fetch = words.Nothing; finished = finished })
      → ((one : ℕ) → Contains finished one → Contains before.finished one ⊎ (one ≡ gone)) → st.out_of new node ≡ None → st.asked new node ≡ None → Rests before.stage → (Contains before.finished gone → ⊥)
      → StandsAt g o st Stands Step_is register_is owners_are new x (record known { letters = then_letters }) then_is next
      → Recovers g o st Stands Step_is register_is owners_are new x (record known { letters = then_letters }) then_is node session gone slot Closed records
      → NodesStand g o st Stands Step_is register_is owners_are new x then_letters clocks later then_is next
  stands_ended finished changed only none_out none_asked rests unfinished at its =
      standing.stand_beside g o st Stands Step_is register_is owners_are old new x letters then_letters clocks machines later c tree next node session gone slot row before
      (record before { stage = words.Idle; fetch = words.Nothing; finished = finished })
      stands live changed claimed is_other alone None_brought c.store.writes before_then logs_then slots_then truth_then doubts_then in_slot
      brings made (λ other ne. same_out other) elsewhere (λ other s content asks ne was none sure read. goes.reading other s content asks was sure.only read)
      rests tt refl refl refl refl refl (λ idle. none_out) none_asked tt unfinished only tt
      (λ one recovery is. absurd (let wrong = is in cc))
      (λ has. record {
        slot = slot;
        records = records;
        goes = subst (λ (m : Made). IsRecovering m.devices m.areas (SureBy m) (st.will_read new x then_is.store node) c.register.chain (c.store.told.knew (Node node)) c.register.proposed
            (around g o st Stands Step_is register_is owners_are new x (record known { letters = then_letters }) then_is node) session gone slot Closed records) made its;
      }) at

-- Where nothing is sent, and its store is as it was.
module _ {G O S T : Type 0} (g : register.Ghosts G) (o : owners.Ghosts O) (st : store.Ghosts S) (Stands : Truth → Hints → T → Type 0) (Step_is : T → Deed → T → Type 0)
    (register_is : G) (owners_are : O) (store_is : S) (x : Disks) (letters : List Letter) (clocks : Clocks) (machines later : List MachineView) (c : Course) (tree next : T)
    (node session gone slot : ℕ) (row : SessionRow) (before : MachineView) (records : List Logged)
    (stands : NodesStand g o st Stands Step_is register_is owners_are store_is x letters clocks machines c tree)
    (live : IsLive (o.own owners_are) clocks (last c.register.chain) machines node session row before)
    (claimed : IsEntitled (last c.register.chain) gone slot session) (is_other : gone ≢ session)
    (alone : (one other block : ℕ) (hold : Hold) → LivesIn (last c.register.chain) one → HasRow (last c.register.chain) other → c.owners.holding one block ≡ Some hold → oldest c.register.chain ≤ other)
    (before_then : Image) (logs_then : Logs) (slots_then : ℕ → Slot) (truth_then : Truth) (doubts_then : ℕ → Option Unacknowledged)
    (in_slot : IsInSlot (st.made store_is).devices (st.made store_is).areas c slot gone before_then logs_then slots_then doubts_then) where
  abbrev shown_then : Known
  shown_then = known_of g o st Stands Step_is register_is owners_are store_is x letters clocks machines

  -- what was done then
  abbrev pub quiet_then : Course
  quiet_then = record c { before = before_then; logs = logs_then; slots = slots_then; truth = truth_then; doubts = doubts_then }

  same_letters : with_letters quiet_then letters ≡ quiet_then
  same_letters = λ i. record quiet_then {
    register = record c.register { letters = sym stands.at.pasts.letters i };
    owners = record c.owners { told = record c.owners.told { letters = sym stands.at.pasts.owners_letters i } };
    store = record c.store { told = record c.store.told { letters = sym stands.at.pasts.store_letters i } };
  }

  goes_so : GoesOn c.store.writes c.store.told.greatest (st.asked store_is) (st.settled store_is x c.store) (st.settled store_is x (with_letters c letters).store) (st.will_read store_is x c.store) (st.will_read store_is x (with_letters c letters).store)
      (st.stands store_is x c.store) (st.stands store_is x (with_letters c letters).store)
  goes_so = subst (λ (past : StorePast). GoesOn c.store.writes c.store.told.greatest (st.asked store_is) (st.settled store_is x c.store) (st.settled store_is x past) (st.will_read store_is x c.store) (st.will_read store_is x past)
      (st.stands store_is x c.store) (st.stands store_is x past)) (λ i. record c.store { told = record c.store.told { letters = stands.at.pasts.store_letters i } })
      (record { settles = λ d s content only is. is; standing = λ d s content index only is. is; reading = λ reader s content asks is only was. was })

  pub quiet_at_stage : (stage : Stage) (fetch : Fetch) → IsChanged machines later node (record before { stage = words.Recovers gone (recovery_of slot (st.made store_is).devices (st.made store_is).areas stage records); fetch = fetch })
      → ReadsLog fetch → (fetch ≡ words.Nothing → st.asked store_is node ≡ None) → Rests before.stage → (Contains before.finished gone → ⊥) → (HasEnded stage → ⊥)
      → StandsAt g o st Stands Step_is register_is owners_are store_is x shown_then quiet_then next
      → Recovers g o st Stands Step_is register_is owners_are store_is x shown_then quiet_then node session gone slot stage records
      → NodesStand g o st Stands Step_is register_is owners_are store_is x letters clocks later quiet_then next
  quiet_at_stage stage fetch changed of none_asked rests unfinished unended at its =
      subst (λ (course : Course). NodesStand g o st Stands Step_is register_is owners_are store_is x letters clocks later course next) same_letters
      (stands_at_stage g o st Stands Step_is register_is owners_are store_is store_is x letters letters clocks machines later c tree next node session gone slot row before records stands live claimed is_other alone
      before_then logs_then slots_then truth_then doubts_then in_slot refl (λ other. refl) (λ reader ne. refl) goes_so stage fetch changed of none_asked rests unfinished unended
      (subst (λ (course : Course). StandsAt g o st Stands Step_is register_is owners_are store_is x shown_then course next) (sym same_letters) at)
      (subst (λ (course : Course). Recovers g o st Stands Step_is register_is owners_are store_is x shown_then course node session gone slot stage records) (sym same_letters) its))

  pub quiet_ended : (finished : List ℕ) → IsChanged machines later node (record before { stage = words.Idle; fetch = words.Nothing; finished = finished })
      → ((one : ℕ) → Contains finished one → Contains before.finished one ⊎ (one ≡ gone)) → st.out_of store_is node ≡ None → st.asked store_is node ≡ None → Rests before.stage → (Contains before.finished gone → ⊥)
      → StandsAt g o st Stands Step_is register_is owners_are store_is x shown_then quiet_then next
      → Recovers g o st Stands Step_is register_is owners_are store_is x shown_then quiet_then node session gone slot Closed records
      → NodesStand g o st Stands Step_is register_is owners_are store_is x letters clocks later quiet_then next
  quiet_ended finished changed only none_out none_asked rests unfinished at its =
      subst (λ (course : Course). NodesStand g o st Stands Step_is register_is owners_are store_is x letters clocks later course next) same_letters
      (stands_ended g o st Stands Step_is register_is owners_are store_is store_is x letters letters clocks machines later c tree next node session gone slot row before records stands live claimed is_other alone
      before_then logs_then slots_then truth_then doubts_then in_slot refl (λ other. refl) (λ reader ne. refl) goes_so finished changed only none_out none_asked rests unfinished
      (subst (λ (course : Course). StandsAt g o st Stands Step_is register_is owners_are store_is x shown_then course next) (sym same_letters) at)
      (subst (λ (course : Course). Recovers g o st Stands Step_is register_is owners_are store_is x shown_then course node session gone slot Closed records) (sym same_letters) its))
