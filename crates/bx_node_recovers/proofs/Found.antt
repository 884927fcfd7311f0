-- A log that a recovery found, once its blocks are home, or where it has no records.
use Rattle.std.proofs.Common.{◌≡◌, ◌≢◌, ◌⊎◌, ⊎_elim, inl, ℕ, ◌+◌, ◌*◌, ◌<◌, Bool, true, false, eqb, List, length, Option, Some, None, IsSome, refl, sym, ap, subst, arith}
use Rattle.std.proofs.lemmas.Bool.Decides.{nat_tests}
use Rattle.bx_disk.specs.Disks.{Image}
use Rattle.bx_places.specs.Places.{IsBlock, block_place, gate_place, log_device, log_start}
use Rattle.bx_records.specs.Drafts.{Block, block_in}
use Rattle.bx_redo.specs.declared.work.Work.TheVariants as works
use Rattle.bx_rows.specs.declared.session.SessionRow.{SessionRow}
use Rattle.bx_rows.specs.Words.{is_taken}
use Rattle.bx_views.specs.Truths.{Truth}
use Rattle.bx_volume.specs.Overlay.{Logs, IsOverlaidTruth}
use Rattle.bx_volume.specs.Records.{Logged, LogWhere, newest_in}
use Rattle.bx_world_standing.specs.bx_world_logs.specs.Logs.{AreHomed, Activity, Found, IsInLog, IsLogOf, LogsStand, OfLog, Slot, SlotStands, begins, writes_in}
use Rattle.bx_world_standing.specs.bx_world_logs.proofs.Moving.{slot_here, slot_there, with_slot}
use Rattle.bx_world_standing.specs.bx_world_logs.proofs.Regions.{IsIn, body_is_in, gate_is_in}
use Rattle.bx_node_logs.proofs.Moved.{fills_few, is_some_block, moved}
use Rattle.bx_node_logs.proofs.Steps.{advance}

module _ (Sure : ℕ → ℕ → List ℕ → Type 0) (devices areas : ℕ) (rows : List SessionRow) (before now : Image) (logs : Logs) (slots : ℕ → Slot) (truth : Truth) (slot : ℕ)
    (less : slot < 8) (taken : is_taken rows slot ≡ true) (st : LogsStand Sure devices areas rows before logs slots truth) where
  as_log : (is : Slot) → slots slot ≡ is → IsLogOf Sure devices areas before logs slot is
  as_log is e = subst (λ (l : Slot). IsLogOf Sure devices areas before logs slot l) e (subst (λ (t : Bool). SlotStands Sure devices areas before t logs slot (slots slot)) taken (st.each slot less))

  has_log : LogWhere true before devices areas slot (logs slot)
  has_log = subst (λ (t : Bool). LogWhere t before devices areas slot (logs slot)) taken (st.is_truth.has_logs slot less)

  -- The blocks of a log that a recovery found are home: gate 0 is closed next.
  pub homes_land : (next : Logged) → (slots slot).activity ≡ Found → 0 < length (logs slot)
      → ((s d x : ℕ) → s < 8 → IsIn s x → now d x ≡ before d x)
      → ((at i : ℕ) → IsBlock areas at → newest_in (logs slot) at ≡ None → i < 9 → now (block_place at devices).0 ((block_place at devices).1 + i) ≡ before (block_place at devices).0 ((block_place at devices).1 + i))
      → IsOverlaidTruth now devices areas rows logs truth → AreHomed Sure devices areas now logs slot
      → LogsStand Sure devices areas rows now logs (with_slot slots slot (record { activity = OfLog works.Closes; more = next })) truth
  homes_land next was some in_slots in_homes is_truth homed =
      moved Sure devices areas rows before now logs logs slots (with_slot slots slot then_is) truth truth slot less st
      (λ other few ne. (refl, slot_there slots slot other then_is ne))
      (λ other few ne d s inside. in_slots other d s few inside)
      (λ other at i few ne there has low. in_homes at i there (none_here other at few ne has (newest_in (logs slot) at) refl) low)
      is_truth
      (λ at block none i low. subst (λ (c : List ℕ). Sure (block_place at devices).0 ((block_place at devices).1 + i) c) (sym (in_homes at i block (none slot less) low)) (st.homes at block none i low))
      (subst (λ (t : Bool). SlotStands Sure devices areas now t logs slot (with_slot slots slot then_is slot)) (sym taken) (subst (λ (l : Slot). IsLogOf Sure devices areas now logs slot l) (sym (slot_here slots slot then_is)) (record {
        gates = λ gate low apart. subst (λ (c : List ℕ). Sure (log_device slot devices) (log_start slot + gate) c) (sym (in_slots slot (log_device slot devices) (log_start slot + gate) less (gate_is_in slot gate low)))
            (its.gates gate low (ap (λ (c : Activity). writes_in devices slot (length (logs slot)) c (gate_place slot gate devices).0 (gate_place slot gate devices).1) was));
        bodies = λ body i few fills. subst (λ (c : List ℕ). Sure (log_device slot devices) (log_start slot + 8 + 145 * body + i) c)
            (sym (in_slots slot (log_device slot devices) (log_start slot + 8 + 145 * body + i) less
            (body_is_in slot body i (let most = has_log.most in omega (arith, few, most)) (fills_few before devices areas slot (logs slot) body i has_log.stand few fills)))) (its.bodies body i few fills);
        finds = (some, homed);
      })))
      (λ one other at few small in_one in_other. st.once one other at few small (was_in one at (eqb one slot) refl in_one) (was_in other at (eqb other slot) refl in_other))
    where
      then_is : Slot
      then_is = record { activity = OfLog works.Closes; more = next }

      its : IsLogOf Sure devices areas before logs slot (slots slot)
      its = as_log (slots slot) refl

      not_begun : begins (OfLog works.Closes) ≡ true → ⊥
      not_begun e = cc

      none_here : (other at : ℕ) → other < 8 → other ≢ slot → IsSome (newest_in (logs other) at) → (o : Option Block) → newest_in (logs slot) at ≡ o → newest_in (logs slot) at ≡ None
      none_here other at few ne has None e = e
      none_here other at few ne has (Some one) e = absurd (ne (st.once other slot at few less (inl has) (inl (is_some_block (newest_in (logs slot) at) one e))))

      was_in : (one at : ℕ) (b : Bool) → eqb one slot ≡ b → IsInLog logs (with_slot slots slot then_is) one at → IsInLog logs slots one at
      was_in one at true same inside =
          let e : one ≡ slot = grind (arith, nat_tests, same) in
          subst (λ (n : ℕ). IsInLog logs slots n at) (sym e)
          (⊎_elim (λ old. inl old) (λ new. absurd (not_begun new.0))
          (subst (λ (l : Slot). IsSome (newest_in (logs slot) at) ⊎ ((begins l.activity ≡ true) × IsSome (block_in l.more.changed at))) (slot_here slots slot then_is)
          (subst (λ (n : ℕ). IsInLog logs (with_slot slots slot then_is) n at) e inside)))
      was_in one at false apart inside =
          subst (λ (l : Slot). IsSome (newest_in (logs one) at) ⊎ ((begins l.activity ≡ true) × IsSome (block_in l.more.changed at))) (slot_there slots slot one then_is (λ e. grind (arith, nat_tests, apart, e))) inside

  -- It has no records: the gates behind gate 0 are closed next.
  pub none_found : (next : Logged) → (slots slot).activity ≡ Found → length (logs slot) ≡ 0 → LogsStand Sure devices areas rows before logs (with_slot slots slot (record { activity = OfLog works.Shuts; more = next })) truth
  none_found next was none =
      advance Sure devices areas rows before before logs slots truth slot less taken st Found was (λ d s apart. refl) logs then_is truth (λ other ne. refl) st.is_truth
      (λ at block unlogged. st.homes at block unlogged)
      (record {
        gates = λ gate low apart. its.gates gate low (ap (λ (a : Activity). writes_in devices slot (length (logs slot)) a (gate_place slot gate devices).0 (gate_place slot gate devices).1) was);
        bodies = its.bodies;
        finds = none;
      })
      (λ at inside. ⊎_elim (λ one. inl one) (λ two. absurd (let begun = two.0 in cc)) inside)
    where
      then_is : Slot
      then_is = record { activity = OfLog works.Shuts; more = next }

      its : IsLogOf Sure devices areas before logs slot (slots slot)
      its = as_log (slots slot) refl
