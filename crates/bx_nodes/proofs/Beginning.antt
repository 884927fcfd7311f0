-- A node begins a record: the nodes stand with it under way.
use Rattle.std.proofs.Common.{inl, ◌≡◌, ◌∙◌, ℕ, Bool, true, false, List, [], ◌∷◌, ◌++◌, Some, None, IsSome, refl, sym, ap, subst, arith}
use Rattle.std.specs.Prelude.{◌==◌, if◌then◌else◌, slice_get, slice_set}
use Rattle.std.specs.List.{AllByRecursion}
use Rattle.std.proofs.lemmas.Bool.Decides.{nat_tests}
use Rattle.bx_base.specs.declared.names.Actor.TheVariants.{Node}
use Rattle.bx_base.specs.declared.names.Mode.{Mode}
use Rattle.bx_disk.specs.Disks.{Disks}
use Rattle.bx_facts.specs.declared.register.Register as register
use Rattle.bx_facts.specs.declared.store.Store as store
use Rattle.bx_facts.specs.Chains.{LivesIn, last}
use Rattle.bx_layout.specs.Blocks.{HasParts}
use Rattle.bx_node_cache.specs.Kept.{held_in, hint_in}
use Rattle.bx_node_events.proofs.Begun.{begins as begins_at}
use Rattle.bx_node_events.proofs.Handing.{IsTaken, OwnersLaws, RegisterLaws, StoreLaws}
use Rattle.bx_node_events.proofs.Leased.{leased_course}
use Rattle.bx_node_machines.specs.Machines.{act_of, number_of}
use Rattle.bx_node_machines.specs.Nodes.{NodesStand}
use Rattle.bx_node_tries.specs.declared.round.Waiting.{Waiting}
use Rattle.bx_node_steps.specs.Logging.{IsRecordingOf, Begins}
use Rattle.bx_node_steps.specs.Seen.{replying, seen, stage_of, view_of}
use Rattle.bx_nodes.specs.Turns.{Turned}
use Rattle.bx_node_steps.specs.declared.machine.Machine.{Machine}
use Rattle.bx_node_steps.specs.declared.machine.Stage.TheVariants as stages
use Rattle.bx_node_steps.specs.declared.recording.Recording.{Recording}
use Rattle.bx_nodes.proofs.Stepping as stepping
use Rattle.bx_nodes.proofs.Told.{told_as}
use Rattle.bx_facts.specs.declared.owners.Owners as owners
use Rattle.bx_places.specs.Places.{IsBlock}
use Rattle.bx_post.specs.declared.packets.Letter.{Letter}
use Rattle.bx_records.specs.Drafts.{Changed, block_in}
use Rattle.bx_records.specs.Runs.{KindAndRuns}
use Rattle.bx_redo.specs.Steps.{record_of}
use Rattle.bx_views.specs.Attempts.{Deed, Gives, IsFair, IsHeldDraft}
use Rattle.bx_views.specs.Truths.{Held, Hints, IsTruth, Truth}
use Rattle.bx_views.specs.declared.attempt.Attempt.{Attempt}
use Rattle.bx_views.specs.declared.attempt.Attempt.TheVariants as attempts
use Rattle.bx_volume.specs.Records.{IsLogged}
use Rattle.bx_world_standing.specs.Parts.{Clocks}
use Rattle.bx_world_standing.specs.Standing.{Course}
use Rattle.bx_world_views.specs.Views.{Works}

-- What a record changes its node holds for itself.
pub held_draft : (moment areas : ℕ) (held : Held) (path : ℕ → Mode → Type 0) (call : Waiting) (attempt : Attempt) (recording : Recording) → IsRecordingOf moment call attempt recording → IsFair areas held path attempt → IsHeldDraft held recording.pending.draft
held_draft moment areas held path call (attempts.Need wants) recording asks fair = absurd asks
held_draft moment areas held path call (attempts.Change draft done) recording asks fair = subst (λ (d : List Changed). IsHeldDraft held d) (sym (ap (λ (r : Recording). r.pending.draft) asks)) fair
held_draft moment areas held path call (attempts.Inner draft) recording asks fair = subst (λ (d : List Changed). IsHeldDraft held d) (sym (ap (λ (r : Recording). r.pending.draft) asks.2)) fair
held_draft moment areas held path call (attempts.Answer done) recording asks fair = absurd asks

-- its point has its call's number
pub numbered : (moment : ℕ) (call : Waiting) (attempt : Attempt) (recording : Recording) → IsRecordingOf moment call attempt recording → recording.point.call ≡ number_of (replying recording.pending.call)
numbered moment call (attempts.Need wants) recording asks = absurd asks
numbered moment call (attempts.Change draft done) recording asks = ap (λ (r : Recording). r.point.call) asks ∙ sym (ap (λ (r : Recording). number_of (replying r.pending.call)) asks)
numbered moment call (attempts.Inner draft) recording asks = ap (λ (r : Recording). r.point.call) asks.2 ∙ sym (ap (λ (r : Recording). number_of (replying r.pending.call)) asks.2)
numbered moment call (attempts.Answer done) recording asks = absurd asks

-- a block of a draft is one of the volume
one_block : (areas : ℕ) (draft : List Changed) → AllByRecursion (λ change. IsBlock areas change.0 × HasParts change.1) draft → (at : ℕ) → IsSome (block_in draft at) → IsBlock areas at
one_block areas [] all at some = absurd cc
one_block areas (first ∷ draft) all at some = by (first.0 == at) refl (one_block areas draft all.1 at)
  where
    by : (b : Bool) → (first.0 == at) ≡ b → (IsSome (block_in draft at) → IsBlock areas at) → IsBlock areas at
    by true same rest = let e : first.0 ≡ at = grind (arith, nat_tests, same) in subst (λ (n : ℕ). IsBlock areas n) e all.0.0
    by false differ rest = rest (subst (λ (b : Bool). IsSome (if b then Some first.1 else block_in draft at)) differ some)

-- what an attempt gives, its record does
module _ {T : Type 0} (Stands : Truth → Hints → T → Type 0) (Step : T → Deed → T → Type 0) (free moment : ℕ) (call : Waiting) (truth : Truth) (tree : T) where
  pub works : (attempt : Attempt) (recording : Recording) → IsRecordingOf moment call attempt recording → Gives Stands Step free call.client call.message moment truth tree attempt
      → Works Stands Step (act_of (replying recording.pending.call) recording.point) recording.pending.draft truth tree
  works (attempts.Need wants) recording asks gives = absurd asks
  works (attempts.Change draft done) recording asks gives =
      subst (λ (r : Recording). Works Stands Step (act_of (replying r.pending.call) r.point) r.pending.draft truth tree) (sym asks) (record { next = gives.next; step = gives.step; leads = gives.leads })
  works (attempts.Inner draft) recording asks gives =
      subst (λ (r : Recording). Works Stands Step (act_of (replying r.pending.call) r.point) r.pending.draft truth tree) (sym asks.2) (record { next = tree; step = refl; leads = gives })
  works (attempts.Answer done) recording asks gives = absurd asks

module _ {G O S T : Type 0} (g : register.Ghosts G) (o : owners.Ghosts O) (st : store.Ghosts S) (Stands : Truth → Hints → T → Type 0) (Step : T → Deed → T → Type 0)
    (register_is : G) (owners_are : O) (old new : S) (x : Disks) (letters box box_then : List Letter) (clocks : Clocks) (items : List Machine) (c : Course) (tree : T)
    (node session until : ℕ) (before after : Machine)
    (stands : NodesStand g o st Stands Step register_is owners_are old x (letters ++ box) clocks (seen items) c tree)
    (up : clocks.down (Node node) ≡ false) (own : o.own owners_are node ≡ Some session) (ends : o.end_of owners_are node ≡ Some until) (lives : LivesIn (last c.register.chain) session)
    (there : slice_get items node ≡ Some before) (mark : before.session ≡ Some session) (none_out : st.out_of old node ≡ None)
    (register_laws : RegisterLaws g register_is) (owners_laws : OwnersLaws o owners_are) (store_laws : StoreLaws st old)
    (recording : Recording) (runs : KindAndRuns) (idle : before.stage ≡ stages.Idle)
    (held : IsHeldDraft (held_in before.cache.kept) recording.pending.draft) (of_call : recording.point.call ≡ number_of (replying recording.pending.call))
    (does : (truth : Truth) (tree : T) → IsTruth (held_in before.cache.kept) truth → Stands truth (hint_in before.cache.hinted) tree → Works Stands Step (act_of (replying recording.pending.call) recording.point) recording.pending.draft truth tree)
    (begins : Begins recording before after runs)
    (taken : IsTaken st old new node box box_then (record { session = session; until = until; runs = runs.1 })) (made_devices : before.cache.devices ≡ (st.made old).devices) (made_areas : before.cache.areas ≡ (st.made old).areas) where
  pub sent_there : Turned (Some session) Step (NodesStand g o st Stands Step register_is owners_are new x (letters ++ box_then) clocks (seen (slice_set items node after))) c tree []
  sent_there =
      let row = stepping.row g o st Stands Step register_is owners_are old new x letters box box_then clocks items c tree node session until before after stands up own ends lives there mark none_out register_laws owners_laws store_laws in
      let goes = begins_at g o st Stands Step register_is owners_are old x (letters ++ box) clocks (seen items) (seen (slice_set items node after))
      (leased_course (stepping.quiet_course g o st Stands Step register_is owners_are old new x letters box box_then clocks items c tree node session until before after stands up own ends lives there mark none_out register_laws owners_laws store_laws) session until)
      tree node session row (view_of before)
      (record_of recording.point recording.pending.draft) (replying recording.pending.call)
      (stepping.leased g o st Stands Step register_is owners_are old new x letters box box_then clocks items c tree node session until before after stands up own ends lives there mark none_out register_laws owners_laws store_laws)
      (stepping.live g o st Stands Step register_is owners_are old new x letters box box_then clocks items c tree node session until before after stands up own ends lives there mark none_out register_laws owners_laws store_laws)
      (ap stage_of idle)
      (stepping.none_sent g o st Stands Step register_is owners_are old new x letters box box_then clocks items c tree node session until before after stands up own ends lives there mark none_out register_laws owners_laws store_laws)
      new (letters ++ box_then) (record { session = session; until = until; runs = runs.1 })
      (stepping.sending g o st Stands Step register_is owners_are old new x letters box box_then clocks items c tree node session until before after stands up own ends lives there mark none_out register_laws owners_laws store_laws
      runs taken made_devices made_areas)
      (stepping.changes g o st Stands Step register_is owners_are old new x letters box box_then clocks items c tree node session until before after stands up own ends lives there mark none_out register_laws owners_laws store_laws
      _ (ap view_of begins.only))
      held
      logged
      (λ block some. one_block (st.made old).areas recording.pending.draft logged.blocks block some)
      of_call
      does
      (ap (λ (r : KindAndRuns). r.1) begins.asks) in
      record { later = goes.0; next = tree; leads = refl; chain = goes.1; logged = told_as c.logs c.logs goes.0.logs [] goes.3 (λ slot one has. inl has); works = record { slots = goes.4.slots; doubts = goes.4.doubts }; stands = goes.2 }
    where
      logged : IsLogged (st.made old).areas (record_of recording.point recording.pending.draft)
      logged = subst (λ (a : ℕ). IsLogged a (record_of recording.point recording.pending.draft)) made_areas begins.logged
