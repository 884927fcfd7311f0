-- A recovery has written the gates back as it read them, and read the bodies: its records are the log, and the tree is as it was, or that after the record in doubt.
use Rattle.std.proofs.Common.{◌≡◌, ◌≢◌, ◌⊎◌, inl, inr, ℕ, ◌+◌, ◌-◌, ◌<◌, ◌≤◌, Bool, true, false, List, ◌∷◌, Contains, length, reverse, refl, sym, ◌∙◌, ap, subst, arith}
use Rattle.std.specs.Prelude.{if◌then◌else◌}
use Rattle.bx_disk.specs.Disks.{Disks, Image, is_within, sector_of}
use Rattle.bx_facts.specs.declared.register.Register as register
use Rattle.bx_facts.specs.declared.store.Store as store
use Rattle.bx_facts.specs.Chains.{last}
use Rattle.bx_facts.specs.Writes.{Sent}
use Rattle.bx_global.specs.Allowed.{IsAllowed}
use Rattle.bx_global.specs.declared.change.Change.TheVariants.{Close}
use Rattle.bx_facts.specs.declared.owners.Owners as owners
use Rattle.bx_places.specs.Places.{body_place, gate_place, log_device, log_start}
use Rattle.bx_redo.proofs.Within.{part, within_is, within_it}
use Rattle.bx_rows.specs.Words.{is_taken}
use Rattle.bx_views.specs.Attempts.{Deed}
use Rattle.bx_views.specs.Truths.{Hints, Truth}
use Rattle.bx_volume.specs.Overlay.{filled_of, with_log}
use Rattle.bx_volume.specs.Records.{IsLog, LogWhere, Logged, gate_of}
use Rattle.bx_volume.proofs.Overlay.{log_here}
use Rattle.bx_world_chains.specs.Entitled.{IsEntitled}
use Rattle.bx_world_chains.proofs.Rows.{taken_of}
use Rattle.bx_world_standing.specs.bx_world_logs.specs.Logs.{IsLogOf, Slot, SlotStands, opens, writes_in}
use Rattle.bx_world_standing.specs.bx_world_logs.specs.Shown.{IsRun, ShowsSlot}
use Rattle.bx_world_standing.specs.Standing.{Course, Known, StandsAt, SureOf}
use Rattle.bx_world_volumes.proofs.Recovered.{IsSettledTo, after, recovered, settled}
use Rattle.bx_recover.specs.Done.{HasRun, RecoveryStep, WasRead}
use Rattle.bx_recover.specs.Reading.{AreGates}
use Rattle.bx_recover.specs.Recovering.{reads_body}
use Rattle.bx_recover.specs.declared.stage.Stage.{Stage}
use Rattle.bx_node_machines.specs.Recovering.{recovery_of}
use Rattle.bx_node_recovers.proofs.Read.{read_run}

-- what devices hold once the gates of a slot are these
abbrev pub with_gates : ℕ → ℕ → Image → List ℕ → Image
with_gates devices slot before gates d s = if is_within (log_device slot devices) (log_start slot) 8 d s then sector_of gates (s - log_start slot) else before d s

run_of : (logs : ℕ → List Logged) (slots : ℕ → Slot) (slot : ℕ) (run : List Logged) (truth next : Truth) → ShowsSlot logs slots slot run truth next → IsRun logs slots slot run
run_of logs slots slot run truth next (inl is) = inl is.0
run_of logs slots slot run truth next (inr (inl is)) = inr (inl (is.0, is.1))
run_of logs slots slot run truth next (inr (inr is)) = inr (inr (is.0, is.1))

gate_here : (devices slot : ℕ) (before : Image) (gates : List ℕ) → AreGates (with_gates devices slot before gates) devices slot gates
gate_here devices slot before gates gate low =
    ap (λ (b : Bool). if b then sector_of gates (log_start slot + gate - log_start slot) else before (log_device slot devices) (log_start slot + gate))
    (within_it (log_device slot devices) (log_start slot) 8 (log_device slot devices) (log_start slot + gate) refl (omega arith) (omega (arith, low)))
    ∙ ap (sector_of gates) (omega arith)

module _ {G O S T : Type 0} (g : register.Ghosts G) (o : owners.Ghosts O) (st : store.Ghosts S) (Stands : Truth → Hints → T → Type 0) (Step_is : T → Deed → T → Type 0)
    (register_is : G) (owners_are : O) (store_is : S) (x : Disks) (known : Known) (c : Course) (tree : T) (at : StandsAt g o st Stands Step_is register_is owners_are store_is x known c tree)
    (gone session slot : ℕ) (less : slot < 8) (allowed : IsAllowed (last c.register.chain))
    (entitled : IsEntitled (last c.register.chain) gone slot session) (other : gone ≢ session)
    (none_out : (write : Sent) → Contains c.store.writes write → write.session ≢ session)
    (unproposed : Contains c.register.proposed (Close gone session) → ⊥)
    (stage : Stage) (records : List Logged) (steps : List RecoveryStep)
    (has : HasRun (recovery_of slot (st.made store_is).devices (st.made store_is).areas stage records) steps)
    (as_read : (gate : ℕ) (content : List ℕ) → gate < 8 → SureOf g o st Stands Step_is register_is owners_are store_is x known c (gate_place slot gate (st.made store_is).devices).0 (gate_place slot gate (st.made store_is).devices).1 content
    → sector_of has.settled.gates gate ≡ content)
    (sure : (gate : ℕ) → gate < 8 → SureOf g o st Stands Step_is register_is owners_are store_is x known c (gate_place slot gate (st.made store_is).devices).0 (gate_place slot gate (st.made store_is).devices).1 (sector_of has.settled.gates gate))
    (bodies : (body i : ℕ) (bytes : List ℕ) → WasRead steps (reads_body (recovery_of slot (st.made store_is).devices (st.made store_is).areas stage records) body) bytes → i < 145
    → (body < length (c.logs slot)) ⊎ ((body ≡ length (c.logs slot)) × (opens (c.slots slot).activity ≡ true)) → i < filled_of ((c.slots slot).more ∷ c.logs slot) body
    → sector_of bytes i ≡ c.before (body_place slot body (st.made store_is).devices).0 ((body_place slot body (st.made store_is).devices).1 + i)) where
  abbrev pub now : Image
  now = with_gates (st.made store_is).devices slot c.before has.settled.gates

  -- the slot has a row, as its session is entitled to it
  its_taken : is_taken (last c.register.chain).sessions slot ≡ true
  its_taken = subst (λ (n : ℕ). is_taken (last c.register.chain).sessions n ≡ true) entitled.at (taken_of (last c.register.chain) gone entitled.row entitled.is)

  its : IsLogOf (SureOf g o st Stands Step_is register_is owners_are store_is x known c) (st.made store_is).devices (st.made store_is).areas c.before c.logs slot (c.slots slot)
  its = subst (λ (t : Bool). SlotStands (SureOf g o st Stands Step_is register_is owners_are store_is x known c) (st.made store_is).devices (st.made store_is).areas c.before t c.logs slot (c.slots slot)) its_taken (at.logs.each slot less)

  pub same : (d s : ℕ) → writes_in (st.made store_is).devices slot (length (c.logs slot)) (c.slots slot).activity d s ≡ false → now d s ≡ c.before d s
  same d s apart = by (is_within (log_device slot (st.made store_is).devices) (log_start slot) 8 d s) refl
    where
      pick : (b : Bool) → is_within (log_device slot (st.made store_is).devices) (log_start slot) 8 d s ≡ b → now d s ≡ (if b then sector_of has.settled.gates (s - log_start slot) else c.before d s)
      pick b is = ap (λ (t : Bool). if t then sector_of has.settled.gates (s - log_start slot) else c.before d s) is

      by : (b : Bool) → is_within (log_device slot (st.made store_is).devices) (log_start slot) 8 d s ≡ b → now d s ≡ c.before d s
      by false is = pick false is
      by true is = pick true is ∙ ap (sector_of has.settled.gates) which ∙ as_read gate.0 (gate_of c.before (st.made store_is).devices slot gate.0) gate.2 (its.gates gate.0 gate.2 quiet) ∙ there
        where
          region : (d ≡ log_device slot (st.made store_is).devices) × (log_start slot ≤ s) × (s < log_start slot + 8)
          region = let w = within_is (log_device slot (st.made store_is).devices) (log_start slot) 8 d s is in (w.on, w.begins, w.ends)

          gate : (n : ℕ) × (s ≡ log_start slot + n) × (n < 8)
          gate = part (log_start slot) s region.1 region.2

          which : s - log_start slot ≡ gate.0
          which = let e = gate.1 in omega (arith, e)

          quiet : writes_in (st.made store_is).devices slot (length (c.logs slot)) (c.slots slot).activity (log_device slot (st.made store_is).devices) (log_start slot + gate.0) ≡ false
          quiet = ap (λ (n : ℕ). writes_in (st.made store_is).devices slot (length (c.logs slot)) (c.slots slot).activity n (log_start slot + gate.0)) (sym region.0)
              ∙ ap (λ (n : ℕ). writes_in (st.made store_is).devices slot (length (c.logs slot)) (c.slots slot).activity d n) (sym gate.1) ∙ apart

          there : c.before (log_device slot (st.made store_is).devices) (log_start slot + gate.0) ≡ c.before d s
          there = ap (λ (n : ℕ). c.before n (log_start slot + gate.0)) (sym region.0) ∙ ap (λ (n : ℕ). c.before d n) (sym gate.1)

  pub gates_are : AreGates now (st.made store_is).devices slot has.settled.gates
  gates_are = gate_here (st.made store_is).devices slot c.before has.settled.gates

  pub gates_sure : (gate : ℕ) → gate < 8 → SureOf g o st Stands Step_is register_is owners_are store_is x known c (gate_place slot gate (st.made store_is).devices).0 (gate_place slot gate (st.made store_is).devices).1 (gate_of now (st.made store_is).devices slot gate)
  gates_sure gate low =
      subst (λ (content : List ℕ). SureOf g o st Stands Step_is register_is owners_are store_is x known c (gate_place slot gate (st.made store_is).devices).0 (gate_place slot gate (st.made store_is).devices).1 content)
      (sym (gates_are gate low)) (sure gate low)

  -- the course once the records are told
  abbrev pub then_is : Course
  then_is = after g o st Stands Step_is register_is owners_are store_is x known c tree at gone session slot less now allowed entitled other none_out unproposed same gates_sure

  abbrev pub run : List Logged
  run = (settled g o st Stands Step_is register_is owners_are store_is x known c tree at gone session slot less now allowed entitled other none_out unproposed same gates_sure).run

  -- what it shows is a run of the slot
  pub told_run : IsRun c.logs c.slots slot run
  told_run =
      let it = settled g o st Stands Step_is register_is owners_are store_is x known c tree at gone session slot less now allowed entitled other none_out unproposed same gates_sure in
      run_of c.logs c.slots slot run c.truth it.next it.shows

  pub its_log : IsLog now (st.made store_is).devices (st.made store_is).areas slot run
  its_log =
      let it = settled g o st Stands Step_is register_is owners_are store_is x known c tree at gone session slot less now allowed entitled other none_out unproposed same gates_sure in
      subst (IsLog now (st.made store_is).devices (st.made store_is).areas slot) (log_here c.logs slot run)
      (subst (λ (t : Bool). LogWhere t now (st.made store_is).devices (st.made store_is).areas slot (with_log c.logs slot run slot)) its_taken (it.stand.is_truth.has_logs slot less))

  -- The records are those of the slot's log.
  pub told_records : records ≡ reverse (then_is.logs slot)
  told_records =
      let it = settled g o st Stands Step_is register_is owners_are store_is x known c tree at gone session slot less now allowed entitled other none_out unproposed same gates_sure in
      read_run (SureOf g o st Stands Step_is register_is owners_are store_is x known c) (st.made store_is).devices (st.made store_is).areas (last c.register.chain).sessions c.before now c.logs c.slots c.truth slot less its_taken at.logs same
      run (run_of c.logs c.slots slot run c.truth it.next it.shows) its_log stage records steps has gates_are bodies
      ∙ ap reverse (sym (log_here c.logs slot run))

  -- The whole stands, with the tree as it was, or with that after the record that was in doubt.
  pub told_at : (next : T) × IsSettledTo g o st Stands Step_is register_is owners_are store_is x known c tree at gone session slot less now allowed entitled other none_out unproposed same gates_sure next
      × StandsAt g o st Stands Step_is register_is owners_are store_is x known then_is next
  told_at = recovered g o st Stands Step_is register_is owners_are store_is x known c tree at gone session slot less now allowed entitled other none_out unproposed same gates_sure
