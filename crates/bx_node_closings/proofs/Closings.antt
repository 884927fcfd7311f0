-- How the closing of one log leaves all logs standing.
use Rattle.std.proofs.Common.{◌≡◌, ◌≢◌, ◌⊎◌, ⊎_elim, inl, ℕ, ◌+◌, ◌-◌, ◌*◌, ◌/◌, ◌<◌, ◌≤◌, Bool, true, false, eqb, List, [], length, take, replicate, Option, Some, None, IsSome, refl, sym, ◌∙◌, ap, subst, arith}
use Rattle.std.proofs.lemmas.Bool.Decides.{nat_tests}
use Rattle.std.proofs.lemmas.List.{drop-replicate, length-replicate, take-replicate}
use Rattle.bx_disk.specs.Disks.{Image, is_within, sector_of}
use Rattle.bx_layout.specs.Labels.{IsOpenGate, gate_text}
use Rattle.bx_layout.specs.declared.gate.Gate.TheVariants.{Closed}
use Rattle.bx_places.specs.Places.{IsBlock, block_place, gate_place, log_device, log_start}
use Rattle.bx_records.specs.Drafts.{Block, block_in}
use Rattle.bx_world_logs.specs.bx_redo.specs.Stands.{IsAcknowledged}
use Rattle.bx_world_logs.specs.bx_redo.specs.Steps.{shut_text}
use Rattle.bx_world_logs.specs.bx_redo.specs.declared.work.Work.TheVariants as works
use Rattle.bx_world_logs.specs.bx_redo.proofs.Opened.{one_only}
use Rattle.bx_world_logs.specs.bx_redo.proofs.Within.{within_it}
use Rattle.bx_rows.specs.declared.session.SessionRow.{SessionRow}
use Rattle.bx_rows.specs.Words.{is_taken}
use Rattle.bx_views.specs.Truths.{Truth}
use Rattle.bx_volume.specs.Overlay.{Logs, IsOverlaidTruth, IsUnlogged, with_log}
use Rattle.bx_volume.specs.Records.{Logged, LogWhere, gate_of, newest_in}
use Rattle.bx_volume.proofs.Overlay.{log_here, log_there}
use Rattle.bx_volume.proofs.Steps.{log_closed}
use Rattle.bx_world_logs.specs.Logs.{AreHomed, Activity, OfLog, IsHomeSure, IsInLog, IsLogOf, LogsStand, Slot, SlotStands, begins, idle, view_of, writes_in}
use Rattle.bx_world_logs.proofs.Regions.{IsIn, body_is_in, gate_is_in, idle_writes}
use Rattle.bx_node_logs.proofs.Moved.{fills_few, is_some_block, moved}
use Rattle.bx_world_logs.proofs.Moving.{slot_here, slot_there, with_slot}
use Rattle.bx_node_logs.proofs.Steps.{advance}

-- zeros are no open gate
zeros_closed : (n : ℕ) → 8 ≤ n → IsOpenGate (replicate n 0) → ⊥
zeros_closed n long is_open = let e = sym (take-replicate 8 n 0 long) ∙ is_open in absurd cc

closed_is : (content : List ℕ) → content ≡ sector_of (gate_text Closed) 0 → IsOpenGate content → ⊥
unfolding sector_of
closed_is content is is_open = zeros_closed 512 (omega arith) (sym (ap (take 8) is) ∙ is_open)

pub shut_is : (i : ℕ) (content : List ℕ) → i < 7 → content ≡ sector_of shut_text i → IsOpenGate content → ⊥
unfolding sector_of shut_text
shut_is i content less is is_open =
    let zeros : sector_of shut_text i ≡ replicate 512 0 = ap (take 512) (drop-replicate (512 * i) 3584 0) ∙ take-replicate 512 (3584 - 512 * i) 0 (omega (arith, less)) in
    zeros_closed 512 (omega arith) (sym (ap (take 8) (is ∙ zeros)) ∙ is_open)

pub many : (n : ℕ) → n < 7 → n < length shut_text / 512
unfolding shut_text
many n less = omega (arith, less, length-replicate {A = ℕ} 3584 0)

some_in_none : (at : ℕ) → IsSome (newest_in [] at) → ⊥
some_in_none at some = cc

module _ (Sure : ℕ → ℕ → List ℕ → Type 0) (devices areas : ℕ) (rows : List SessionRow) (before now : Image) (logs : Logs) (slots : ℕ → Slot) (truth : Truth) (slot : ℕ)
    (less : slot < 8) (taken : is_taken rows slot ≡ true) (st : LogsStand Sure devices areas rows before logs slots truth) (more : Logged) where
  as_log : (is : Slot) → slots slot ≡ is → IsLogOf Sure devices areas before logs slot is
  as_log is e = subst (λ (l : Slot). IsLogOf Sure devices areas before logs slot l) e (subst (λ (t : Bool). SlotStands Sure devices areas before t logs slot (slots slot)) taken (st.each slot less))

  has_log : LogWhere true before devices areas slot (logs slot)
  has_log = subst (λ (t : Bool). LogWhere t before devices areas slot (logs slot)) taken (st.is_truth.has_logs slot less)

  -- Gate 0 is closed: the log has no records, and the truth is the same.
  pub first_lands : (next : Logged) → slots slot ≡ record { activity = OfLog works.Closes; more = more }
      → IsAcknowledged Sure Sure before now (view_of devices slot (length (logs slot)) works.Closes) (gate_text Closed)
      → LogsStand Sure devices areas rows now (with_log logs slot []) (with_slot slots slot (record { activity = OfLog works.Shuts; more = next })) truth
  first_lands next is ack =
      advance Sure devices areas rows before now logs slots truth slot less taken st (OfLog works.Closes) (ap (λ (l : Slot). l.activity) is) ack.same later (record { activity = OfLog works.Shuts; more = next }) truth
      (λ other ne. log_there logs slot other [] ne)
      (log_closed before now devices areas rows logs truth slot less taken
      (one_only before now (log_device slot devices) (log_start slot) (log_start slot + 0) ack.same (log_device slot devices) refl (omega arith))
      (closed_is (gate_of now devices slot 0) (ack.reads.each 0 (omega arith))) its.finds.1.home st.is_truth)
      (λ at block none. homes at block none (newest_in (logs slot) at) refl)
      (record {
        gates = λ gate low apart. by_gate gate low (eqb gate 0) refl apart;
        bodies = λ body i few fills. absurd (let e = ap length here in omega (arith, e, few));
        finds = ap length here;
      })
      (λ at inside. absurd (⊎_elim (λ one. some_in_none at (subst (λ (r : List Logged). IsSome (newest_in r at)) here one)) (λ two. not_begun two.0) inside))
    where
      later : Logs
      later = with_log logs slot []

      here : later slot ≡ []
      here = log_here logs slot []

      its : IsLogOf Sure devices areas before logs slot (record { activity = OfLog works.Closes; more = more })
      its = as_log (record { activity = OfLog works.Closes; more = more }) is

      not_begun : begins (OfLog works.Shuts) ≡ true → ⊥
      not_begun e = cc

      homes : (at : ℕ) → IsBlock areas at → IsUnlogged later at → (o : Option Block) → newest_in (logs slot) at ≡ o → IsHomeSure Sure devices areas before at
      homes at block none (Some one) e = its.finds.1.sure at block (is_some_block (newest_in (logs slot) at) one e)
      homes at block none None e = st.homes at block (λ s small. by_test s small (eqb s slot) refl)
        where
          by_test : (s : ℕ) → s < 8 → (b : Bool) → eqb s slot ≡ b → newest_in (logs s) at ≡ None
          by_test s small true same = let f : s ≡ slot = grind (arith, nat_tests, same) in ap (λ (n : ℕ). newest_in (logs n) at) f ∙ e
          by_test s small false apart =
              let ne : s ≢ slot = λ f. grind (arith, nat_tests, apart, f) in
              subst (λ (r : List Logged). newest_in r at ≡ None) (log_there logs slot s [] ne) (none s small)

      by_gate : (gate : ℕ) → gate < 8 → (b : Bool) → eqb gate 0 ≡ b → is_within (log_device slot devices) (log_start slot + 1) 7 (log_device slot devices) (log_start slot + gate) ≡ false
          → Sure (log_device slot devices) (log_start slot + gate) (gate_of now devices slot gate)
      by_gate gate low true same apart =
          let f : gate ≡ 0 = grind (arith, nat_tests, same) in
          ack.sure (log_device slot devices) (log_start slot + gate) (within_it (log_device slot devices) (log_start slot) 1 (log_device slot devices) (log_start slot + gate) refl (omega arith) (omega (arith, f)))
      by_gate gate low false other apart =
          let some : 1 ≤ gate = grind (arith, nat_tests, other) in
          absurd (true_false (is_within (log_device slot devices) (log_start slot + 1) 7 (log_device slot devices) (log_start slot + gate))
          (within_it (log_device slot devices) (log_start slot + 1) 7 (log_device slot devices) (log_start slot + gate) refl (omega (arith, some)) (omega (arith, low))) apart)
        where
          true_false : (b : Bool) → b ≡ true → b ≡ false → ⊥
          true_false b one two = cc

  -- The blocks of the log are home: gate 0 is closed next.
  pub homes_land : (next : Logged) → (slots slot).activity ≡ idle → 0 < length (logs slot)
      → ((s d x : ℕ) → s < 8 → IsIn s x → now d x ≡ before d x)
      → ((at i : ℕ) → IsBlock areas at → newest_in (logs slot) at ≡ None → i < 9 → now (block_place at devices).0 ((block_place at devices).1 + i) ≡ before (block_place at devices).0 ((block_place at devices).1 + i))
      → IsOverlaidTruth now devices areas rows logs truth → AreHomed Sure devices areas now logs slot
      → LogsStand Sure devices areas rows now logs (with_slot slots slot (record { activity = OfLog works.Closes; more = next })) truth
  homes_land next was some in_slots in_homes is_truth homed =
      moved Sure devices areas rows before now logs logs slots (with_slot slots slot then_is) truth truth slot less st
      (λ other few ne. (refl, slot_there slots slot other then_is ne))
      (λ other few ne d s inside. in_slots other d s few inside)
      (λ other at i few ne there has low. in_homes at i there (none_here other at few ne has (newest_in (logs slot) at) refl) low)
      is_truth
      (λ at block none i low. subst (λ (c : List ℕ). Sure (block_place at devices).0 ((block_place at devices).1 + i) c) (sym (in_homes at i block (none slot less) low)) (st.homes at block none i low))
      (subst (λ (t : Bool). SlotStands Sure devices areas now t logs slot (with_slot slots slot then_is slot)) (sym taken) (subst (λ (l : Slot). IsLogOf Sure devices areas now logs slot l) (sym (slot_here slots slot then_is)) (record {
        gates = λ gate low apart. subst (λ (c : List ℕ). Sure (log_device slot devices) (log_start slot + gate) c) (sym (in_slots slot (log_device slot devices) (log_start slot + gate) less (gate_is_in slot gate low)))
            (its.gates gate low (ap (λ (c : Activity). writes_in devices slot (length (logs slot)) c (gate_place slot gate devices).0 (gate_place slot gate devices).1) was ∙ idle_writes devices slot (length (logs slot)) (gate_place slot gate devices).0 (gate_place slot gate devices).1));
        bodies = λ body i few fills. subst (λ (c : List ℕ). Sure (log_device slot devices) (log_start slot + 8 + 145 * body + i) c)
            (sym (in_slots slot (log_device slot devices) (log_start slot + 8 + 145 * body + i) less
            (body_is_in slot body i (let most = has_log.most in omega (arith, few, most)) (fills_few before devices areas slot (logs slot) body i has_log.stand few fills)))) (its.bodies body i few fills);
        finds = (some, homed);
      })))
      (λ one other at few small in_one in_other. st.once one other at few small (was_in one at (eqb one slot) refl in_one) (was_in other at (eqb other slot) refl in_other))
    where
      then_is : Slot
      then_is = record { activity = OfLog works.Closes; more = next }

      its : IsLogOf Sure devices areas before logs slot (slots slot)
      its = as_log (slots slot) refl

      not_begun : begins (OfLog works.Closes) ≡ true → ⊥
      not_begun e = cc

      none_here : (other at : ℕ) → other < 8 → other ≢ slot → IsSome (newest_in (logs other) at) → (o : Option Block) → newest_in (logs slot) at ≡ o → newest_in (logs slot) at ≡ None
      none_here other at few ne has None e = e
      none_here other at few ne has (Some one) e = absurd (ne (st.once other slot at few less (inl has) (inl (is_some_block (newest_in (logs slot) at) one e))))

      was_in : (one at : ℕ) (b : Bool) → eqb one slot ≡ b → IsInLog logs (with_slot slots slot then_is) one at → IsInLog logs slots one at
      was_in one at true same inside =
          let e : one ≡ slot = grind (arith, nat_tests, same) in
          subst (λ (n : ℕ). IsInLog logs slots n at) (sym e)
          (⊎_elim (λ old. inl old) (λ new. absurd (not_begun new.0))
          (subst (λ (l : Slot). IsSome (newest_in (logs slot) at) ⊎ ((begins l.activity ≡ true) × IsSome (block_in l.more.changed at))) (slot_here slots slot then_is)
          (subst (λ (n : ℕ). IsInLog logs (with_slot slots slot then_is) n at) e inside)))
      was_in one at false apart inside =
          subst (λ (l : Slot). IsSome (newest_in (logs one) at) ⊎ ((begins l.activity ≡ true) × IsSome (block_in l.more.changed at))) (slot_there slots slot one then_is (λ e. grind (arith, nat_tests, apart, e))) inside
