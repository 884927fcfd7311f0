-- Each step of a recovery that sends a write keeps the nodes.
use Rattle.std.proofs.Common.{◌≡◌, ◌≢◌, inl, ◌∙◌, ℕ, ◌<◌, true, List, [], Contains, length, Some, None, refl, sym, ap, subst}
use Rattle.std.specs.List.{AllByRecursion}
use Rattle.bx_disk.specs.Disks.{Disks}
use Rattle.bx_facts.specs.declared.owners.Owners as owners
use Rattle.bx_facts.specs.declared.register.Register as register
use Rattle.bx_facts.specs.declared.store.Store as store
use Rattle.bx_facts.specs.Chains.{last}
use Rattle.bx_facts.specs.Writes.{IsSettled, Sent, WritesIn}
use Rattle.bx_node_events.proofs.Acting.{IsChanged, IsLive}
use Rattle.bx_node_events.proofs.Sparing.{slot_low}
use Rattle.bx_node_events.proofs.Working.{IsSending}
use Rattle.bx_node_machines.specs.Machines as words
use Rattle.bx_node_machines.specs.Machines.{MachineView}
use Rattle.bx_node_machines.specs.Nodes.{NodesStand, known_of}
use Rattle.bx_node_machines.specs.Recovering.{AreAsRead, Recovers, around, gates_back, gates_shut, recovery_of}
use Rattle.bx_node_machines.proofs.Going.{of_first, of_gates, of_homes, of_others}
use Rattle.bx_node_recovering.proofs.Closing as closing
use Rattle.bx_node_recovering.proofs.Settling as settling
use Rattle.bx_node_recovering.proofs.Stepping.{goes_with, was}
use Rattle.bx_node_recovering.proofs.Slots.{in_slot_homed, in_slot_landed, stored_same}
use Rattle.bx_node_recovering.proofs.Still.{same_course}
use Rattle.bx_node_recovering.proofs.Written.{at_stage}
use Rattle.bx_node_sends.proofs.Sent.{with_write}
use Rattle.bx_post.specs.declared.packets.Letter.{Letter}
use Rattle.bx_records.specs.Drafts.{Changed}
use Rattle.bx_recover.specs.Done.{RecoveryStep}
use Rattle.bx_recover.specs.Gates.{IsOpenRun}
use Rattle.bx_recover.specs.HomesOf.{AreNewestOf, home_runs}
use Rattle.bx_recover.specs.Recovering.{brings_home, closes, settles}
use Rattle.bx_recover.specs.declared.stage.Stage.{Stage}
use Rattle.bx_recover.specs.declared.stage.Stage.TheVariants.{Closes, Gates, Homes, Settles, Shuts, Told}
use Rattle.bx_redo.specs.declared.work.Work.TheVariants as works
use Rattle.bx_rows.specs.declared.session.SessionRow.{SessionRow}
use Rattle.bx_views.specs.Attempts.{Deed}
use Rattle.bx_views.specs.Truths.{Hints, Truth}
use Rattle.bx_volume.specs.Records.{IsLogged, Logged, newest_in}
use Rattle.bx_volume.proofs.Overlay.{log_here, log_there}
use Rattle.bx_world_logs.specs.Logs.{Activity, OfLog, view_of, writes_in}
use Rattle.bx_world_standing.specs.Parts.{Clocks}
use Rattle.bx_world_standing.specs.Standing.{Course, Known, StandsAt, SureOf}

module _ {G O S T : Type 0} (g : register.Ghosts G) (o : owners.Ghosts O) (st : store.Ghosts S) (Stands : Truth → Hints → T → Type 0) (Step_is : T → Deed → T → Type 0)
    (register_is : G) (owners_are : O) (old new : S) (x : Disks) (letters then_letters : List Letter) (clocks : Clocks) (machines later : List MachineView) (c : Course) (tree : T)
    (node session gone slot : ℕ) (row : SessionRow) (before : MachineView) (records : List Logged) (write : Sent) (step : RecoveryStep)
    (stands : NodesStand g o st Stands Step_is register_is owners_are old x letters clocks machines c tree)
    (live : IsLive (o.own owners_are) clocks (last c.register.chain) machines node session row before)
    (none_sent : (other : Sent) → Contains c.store.writes other → other.session ≢ session)
    (sending : IsSending g o st register_is owners_are old new x c then_letters node session write) where
  abbrev known : Known
  known = known_of g o st Stands Step_is register_is owners_are old x letters clocks machines

  abbrev At : Stage → Type 0
  At stage = before.stage ≡ words.Recovers gone (recovery_of slot (st.made old).devices (st.made old).areas stage records)

  abbrev Becomes : Stage → Type 0
  Becomes stage = IsChanged machines later node (at_stage before gone (recovery_of slot (st.made old).devices (st.made old).areas stage records))

  abbrev Stood : Course → T → Type 0
  Stood then_is next = NodesStand g o st Stands Step_is register_is owners_are new x then_letters clocks later (with_write then_is then_letters write) next

  pub its : (stage : Stage) → At stage → Recovers g o st Stands Step_is register_is owners_are old x known c node session gone slot stage records
  its stage is = was g o st Stands Step_is register_is owners_are old new x letters then_letters clocks machines later c tree node session gone slot row before stage records write step stands live is none_sent sending

  pub own_st : st.own old node ≡ Some session
  own_st = sym (stands.at.parts.own node live.up) ∙ live.own

  low : (stage : Stage) → At stage → slot < 8
  low stage is = slot_low g o st Stands Step_is register_is owners_are old x known c tree stands.at gone slot session live.allowed (its stage is).claimed

  -- The gates came: they are written back.
  pub writes_back : (bytes : List ℕ) (opened : ℕ) → At Gates → Becomes (Settles opened) → length bytes ≡ 4096 → IsOpenRun bytes opened → write.runs ≡ gates_back (st.made old).devices slot bytes
      → ((device sector : ℕ) (content : List ℕ) (index : ℕ) → st.stands old x c.store device sector content index → IsSettled x (last c.store.told.chain) device sector content)
      → AreAsRead (st.made old).devices (around g o st Stands Step_is register_is owners_are old x known c node) slot bytes
      → step.arrived ≡ Some bytes → step.said ≡ settles (recovery_of slot (st.made old).devices (st.made old).areas Gates records) bytes → st.asked old node ≡ None → Stood c tree
  writes_back bytes opened is changed long run runs_are settled_is as_read came said asked =
      let both = settling.writes_back g o st Stands Step_is register_is owners_are old x known c tree node session gone slot stands.at live.allowed none_sent settled_is records step new then_letters write live.up own_st sending bytes opened long run runs_are as_read came said asked (its Gates is) in
      goes_with g o st Stands Step_is register_is owners_are old new x letters then_letters clocks machines later c tree node session gone slot row before Gates records write step stands live is none_sent sending
      (λ over. over) asked tree (Settles opened) (λ over. over) changed c.before c.logs c.slots c.truth c.doubts (same_course (st.made old).devices (st.made old).areas c slot gone (low Gates is))
      (λ d s content w. inl (of_gates (st.made old).devices slot bytes long d s content (subst (λ l. WritesIn l d s content) runs_are w)))
      both.0 both.1

  -- The points are told: the blocks are sent home.
  pub sends_homes : (blocks : List Changed) → At Told → Becomes Homes → AreNewestOf records blocks → AllByRecursion (IsLogged (st.made old).areas) records → write.runs ≡ home_runs (st.made old).devices blocks
      → step.said ≡ brings_home (recovery_of slot (st.made old).devices (st.made old).areas Told records) blocks → Stood c tree
  sends_homes blocks is changed newest logged runs_are said =
      let told = its Told is in
      let both = closing.brings g o st Stands Step_is register_is owners_are old new x known c tree then_letters node session gone slot write stands.at live.allowed none_sent live.up own_st sending records step blocks newest logged runs_are said told in
      goes_with g o st Stands Step_is register_is owners_are old new x letters then_letters clocks machines later c tree node session gone slot row before Told records write step stands live is none_sent sending
      (λ over. over) told.at.1 tree Homes (λ over. over) changed c.before c.logs c.slots c.truth c.doubts (same_course (st.made old).devices (st.made old).areas c slot gone (low Told is))
      (λ d s content w. of_homes (st.made old).devices (st.made old).areas slot c.logs (home_runs (st.made old).devices blocks)
      (closing.homes_of_told g o st Stands Step_is register_is owners_are old new x known c tree then_letters node session gone slot write stands.at live.allowed none_sent live.up own_st sending records step blocks newest logged told)
      d s content (subst (λ l. WritesIn l d s content) runs_are w))
      both.0 both.1

  -- The blocks are home: gate 0 is closed.
  pub shuts_first : (is : At Homes) → Becomes Closes → st.out_of old node ≡ None → step.done ≡ true → write.runs ≡ gates_shut (st.made old).devices slot works.Closes
      → step.said ≡ closes (recovery_of slot (st.made old).devices (st.made old).areas Homes records) works.Closes
      → Stood (closing.home_then g o st Stands Step_is register_is owners_are old new x known c tree then_letters node session gone slot write stands.at live.allowed none_sent live.up own_st sending records step (its Homes is)) tree
  shuts_first is changed none is_done runs_are said =
      let homes = its Homes is in
      let both = closing.closes_first g o st Stands Step_is register_is owners_are old new x known c tree then_letters node session gone slot write stands.at live.allowed none_sent live.up own_st sending records step none is_done runs_are said homes in
      let then_is = closing.home_then g o st Stands Step_is register_is owners_are old new x known c tree then_letters node session gone slot write stands.at live.allowed none_sent live.up own_st sending records step homes in
      goes_with g o st Stands Step_is register_is owners_are old new x letters then_letters clocks machines later c tree node session gone slot row before Homes records write step stands live is none_sent sending
      (λ over. over) homes.at.0 tree Closes (λ over. over) changed then_is.before then_is.logs then_is.slots then_is.truth then_is.doubts
      (in_slot_homed (st.made old).devices (st.made old).areas c slot gone (low Homes is) (record { activity = OfLog works.Closes; more = (c.slots slot).more }) (λ e. cc) stands.at.logs.volume (home_runs (st.made old).devices homes.done.2.0) homes.at.3)
      (λ d s content w. inl (of_first (st.made old).devices slot d s content (subst (λ l. WritesIn l d s content) runs_are w)))
      both.0 both.1

  -- Gate 0 is closed: the others are.
  pub shuts_others : (is : At Closes) → Becomes Shuts → st.out_of old node ≡ None → step.done ≡ true → write.runs ≡ gates_shut (st.made old).devices slot works.Shuts
      → step.said ≡ closes (recovery_of slot (st.made old).devices (st.made old).areas Closes records) works.Shuts
      → Stood (closing.first_then g o st Stands Step_is register_is owners_are old new x known c tree then_letters node session gone slot write stands.at live.allowed none_sent live.up own_st sending records step) tree
  shuts_others is changed none is_done runs_are said =
      let shut = its Closes is in
      let both = closing.closes_others g o st Stands Step_is register_is owners_are old new x known c tree then_letters node session gone slot write stands.at live.allowed none_sent live.up own_st sending records step none is_done runs_are said shut in
      let then_is = closing.first_then g o st Stands Step_is register_is owners_are old new x known c tree then_letters node session gone slot write stands.at live.allowed none_sent live.up own_st sending records step in
      goes_with g o st Stands Step_is register_is owners_are old new x letters then_letters clocks machines later c tree node session gone slot row before Closes records write step stands live is none_sent sending
      (λ over. over) shut.at.0 tree Shuts (λ over. over) changed then_is.before then_is.logs then_is.slots then_is.truth then_is.doubts
      (in_slot_landed (st.made old).devices (st.made old).areas c slot gone (low Closes is) (record { activity = OfLog works.Shuts; more = (c.slots slot).more }) (λ e. cc)
      (SureOf g o st Stands Step_is register_is owners_are old x known c) (last c.register.chain).sessions stands.at.logs then_is.before then_is.logs c.doubts
      (λ d s apart. stored_same c.before (view_of (st.made old).devices slot (length (c.logs slot)) works.Closes) d s (ap (λ (a : Activity). writes_in (st.made old).devices slot (length (c.logs slot)) a d s) (sym shut.at.1) ∙ apart))
      (λ other ne. log_there c.logs slot other [] ne)
      (λ block unlogged unwritten. ap (λ (l : List Logged). newest_in l block) (log_here c.logs slot []))
      (λ other ne. refl))
      (λ d s content w. inl (of_others (st.made old).devices slot d s content (subst (λ l. WritesIn l d s content) runs_are w)))
      both.0 both.1

  -- Gate 0 isn't open: there are no records, and the other gates are closed.
  pub finds_closed : (opened : ℕ) → (is : At (Settles opened)) → Becomes Shuts → opened ≡ 0 → st.out_of old node ≡ None → step.done ≡ true → write.runs ≡ gates_shut (st.made old).devices slot works.Shuts
      → step.said ≡ closes (recovery_of slot (st.made old).devices (st.made old).areas (Settles opened) records) works.Shuts
      → (settled_is : (device sector : ℕ) (content : List ℕ) (index : ℕ) → st.stands old x c.store device sector content index → IsSettled x (last c.store.told.chain) device sector content)
      → (then_is : Course) × (then_is.register ≡ c.register)
      × ((next : T) × settling.GoesTo g o st Stands Step_is register_is owners_are old x known c tree node session gone slot stands.at live.allowed none_sent settled_is records step next × Stood then_is next)
  finds_closed opened is changed closed none is_done runs_are said settled_is =
      let settles_it = its (Settles opened) is in
      let f = settling.finds_closed g o st Stands Step_is register_is owners_are old x known c tree node session gone slot stands.at live.allowed none_sent settled_is records step new then_letters write live.up own_st sending opened closed none is_done runs_are said settles_it in
      let same : record c { before = f.0.before; logs = f.0.logs; slots = f.0.slots; truth = f.0.truth; doubts = f.0.doubts } ≡ f.0 = λ i. record {
        register = sym f.1 i;
        owners = sym f.2 i;
        store = sym f.3 i;
        before = f.0.before;
        logs = f.0.logs;
        slots = f.0.slots;
        truth = f.0.truth;
        doubts = f.0.doubts;
      } in (
        f.0,
        f.1,
        (
          f.6.0,
          f.6.1,
          subst (λ (course : Course). Stood course f.6.0) same
              (goes_with g o st Stands Step_is register_is owners_are old new x letters then_letters clocks machines later c tree node session gone slot row before (Settles opened) records write step stands live is none_sent sending
              (λ over. over) settles_it.at.0 f.6.0 Shuts (λ over. over) changed f.0.before f.0.logs f.0.slots f.0.truth f.0.doubts f.5
              (λ d s content w. inl (of_others (st.made old).devices slot d s content (subst (λ l. WritesIn l d s content) runs_are w)))
              (subst (λ (course : Course). StandsAt g o st Stands Step_is register_is owners_are new x (record known { letters = then_letters }) (with_write course then_letters write) f.6.0) (sym same) f.6.2.0)
              (subst (λ (course : Course). Recovers g o st Stands Step_is register_is owners_are new x (record known { letters = then_letters }) (with_write course then_letters write) node session gone slot Shuts records) (sym same) f.6.2.1)),
        ),
      )
