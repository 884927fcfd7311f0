-- What the writes of a log, a home and a closing make of the truth.
use Rattle.std.proofs.Common.{◌≡◌, ℕ, suc, ◌+◌, ◌<◌, ◌≤◌, ◌⊎◌, ⊎_elim, inl, inr, arith, List, [], ◌∷◌, length, sym, ap, ◌∙◌, subst, refl, true, Bool, Some, None}
use Rattle.std.specs.Prelude.{◌≢◌}
use Rattle.bx_disk.specs.Disks.{Image}
use Rattle.bx_rows.specs.declared.session.SessionRow.{SessionRow}
use Rattle.bx_rows.specs.Words.{is_taken}
use Rattle.bx_layout.specs.declared.block.Block.{Block}
use Rattle.bx_truth.specs.bx_records.specs.Drafts.{block_in}
use Rattle.bx_layout.specs.Labels.{IsOpenGate}
use Rattle.bx_places.specs.Places.{IsVolume, IsBlock, block_place, log_start, log_device, gate_place, body_place}
use Rattle.bx_volume.specs.Records.{Logged, IsInBody, IsLog, HasLog, LogWhere, gate_of, newest_in}
use Rattle.bx_truth.specs.bx_views.specs.Truths.{Truth, with_draft}
use Rattle.bx_volume.specs.Overlay.{Logs, IsOverlaidTruth, IsHome, IsUnlogged, WritesOnly, with_log}
use Rattle.bx_volume.proofs.Apart.{home_and_log, two_homes}
use Rattle.bx_volume.proofs.Kept.{home_kept, log_kept, stand_kept, body_kept, gate_kept, log_apart, has_log}
use Rattle.bx_truth.proofs.Cases.{same_or, found}
use Rattle.bx_volume.proofs.Overlay.{log_here, log_there, truth_overlaid}

-- a region among the sectors of a log slot
pub record IsInLog (devices slot device sector count : ℕ) : Type 0 where
  pub on : device ≡ log_device slot devices
  pub from : log_start slot ≤ sector
  pub to : sector + count ≤ log_start slot + 1168

pub gate_in : (devices slot gate : ℕ) → gate < 8 → IsInLog devices slot (gate_place slot gate devices).0 (gate_place slot gate devices).1 1
gate_in devices slot gate less = record { on = refl; from = omega arith; to = omega (arith, less) }

pub body_in : (devices slot body : ℕ) → body < 8 → IsInLog devices slot (body_place slot body devices).0 (body_place slot body devices).1 145
body_in devices slot body less = record { on = refl; from = omega arith; to = omega (arith, less) }

two_logs : (slot other : ℕ) → slot ≢ other → (log_start slot + 1168 ≤ log_start other) ⊎ (log_start other + 1168 ≤ log_start slot)
two_logs slot other apart = grind arith

module _ (held now : Image) (devices areas : ℕ) (rows : List SessionRow) (logs : Logs) (truth : Truth) where
  module _ (slot device sector count : ℕ) where
    pub other_log : WritesOnly held now device sector count → IsInLog devices slot device sector count → (s : ℕ) (records : List Logged) → s ≢ slot
        → HasLog rows held devices areas s records → HasLog rows now devices areas s records
    other_log only within s records other = has_log rows held now devices areas s records
        (log_apart held now device sector count devices areas s records only
        (λ same. let from = within.from in let to = within.to in ⊎_elim (λ before. inr (omega (arith, before, from))) (λ behind. inl (omega (arith, behind, to))) (two_logs s slot other)))

    pub home_stays : WritesOnly held now device sector count → IsInLog devices slot device sector count → slot < 8 → (at : ℕ) (block : Block)
        → IsHome held devices at block → IsHome now devices at block
    home_stays only within less at block = home_kept held now device sector count devices at block only
        (λ same. let to = within.to in inl (omega (arith, to, home_and_log at devices slot less)))

    -- a write in a log slot that leaves its records
    pub log_rewritten : WritesOnly held now device sector count → IsInLog devices slot device sector count → slot < 8
        → (HasLog rows held devices areas slot (logs slot) → HasLog rows now devices areas slot (logs slot))
        → IsOverlaidTruth held devices areas rows logs truth → IsOverlaidTruth now devices areas rows logs truth
    log_rewritten only within less keeps was = record {
      has_logs = λ s in_slots. ⊎_elim
          (λ same. subst (λ (n : ℕ). HasLog rows now devices areas n (logs n)) (sym same) (keeps (was.has_logs slot less)))
          (λ other. other_log only within s (logs s) other (was.has_logs s in_slots)) (same_or s slot);
      logged = was.logged;
      home = λ at is unlogged. home_stays only within less at (truth at) (was.home at is unlogged);
    }

  -- a home whose block a log has
  pub logged_home : (slot at : ℕ) (block : Block) → IsVolume devices areas → IsOverlaidTruth held devices areas rows logs truth → slot < 8
      → newest_in (logs slot) at ≡ Some block → IsBlock areas at → WritesOnly held now (block_place at devices).0 (block_place at devices).1 9
      → IsOverlaidTruth now devices areas rows logs truth
  logged_home slot at block volume was less in_log is only = record {
    has_logs = λ s in_slots. has_log rows held now devices areas s (logs s)
        (log_apart held now (block_place at devices).0 (block_place at devices).1 9 devices areas s (logs s) only (λ same. inr (home_and_log at devices s in_slots))) (was.has_logs s in_slots);
    logged = was.logged;
    home = λ other is_other unlogged. home_kept held now (block_place at devices).0 (block_place at devices).1 9 devices other (truth other) only
        (λ same. two_homes at other devices areas volume is is_other (λ e. apart other e (unlogged slot less)) (sym same)) (was.home other is_other unlogged);
  }
    where
      apart : (other : ℕ) → at ≡ other → newest_in (logs slot) other ≡ None → ⊥
      apart other e none = let here = subst (λ (n : ℕ). newest_in (logs slot) n ≡ Some block) e in_log in absurd cc

  -- a body without a record
  pub body_written : (slot body : ℕ) → slot < 8 → body < 8 → length (logs slot) ≤ body
      → WritesOnly held now (body_place slot body devices).0 (body_place slot body devices).1 145
      → IsOverlaidTruth held devices areas rows logs truth → IsOverlaidTruth now devices areas rows logs truth
  body_written slot body less place behind only =
      log_rewritten slot (body_place slot body devices).0 (body_place slot body devices).1 145 only (body_in devices slot body place) less
      (has_log rows held now devices areas slot (logs slot) (log_kept held now (body_place slot body devices).0 (body_place slot body devices).1 145 devices areas slot (logs slot) only
      (λ k le few same. inr (omega (arith, few))) (λ k few same. inr (omega (arith, few, behind)))))

  -- a gate behind that of the end of the run
  pub gate_written : (slot gate : ℕ) → slot < 8 → gate < 8 → length (logs slot) < gate
      → WritesOnly held now (gate_place slot gate devices).0 (gate_place slot gate devices).1 1
      → IsOverlaidTruth held devices areas rows logs truth → IsOverlaidTruth now devices areas rows logs truth
  gate_written slot gate less place behind only =
      log_rewritten slot (gate_place slot gate devices).0 (gate_place slot gate devices).1 1 only (gate_in devices slot gate place) less
      (has_log rows held now devices areas slot (logs slot) (log_kept held now (gate_place slot gate devices).0 (gate_place slot gate devices).1 1 devices areas slot (logs slot) only
      (λ k le few same. inr (omega (arith, le, behind))) (λ k few same. inl (omega (arith, place)))))

  -- the log of a slot with a row
  log_of : (slot : ℕ) (records : List Logged) → is_taken rows slot ≡ true → HasLog rows held devices areas slot records → IsLog held devices areas slot records
  log_of slot records taken has = subst (λ (b : Bool). LogWhere b held devices areas slot records) taken has

  log_as : (slot : ℕ) (records : List Logged) → is_taken rows slot ≡ true → IsLog now devices areas slot records → HasLog rows now devices areas slot records
  log_as slot records taken log = subst (λ (b : Bool). LogWhere b now devices areas slot records) (sym taken) log

  -- the gate at the end of the run is written, and is closed still
  pub gate_stays_closed : (slot : ℕ) → slot < 8 → is_taken rows slot ≡ true → length (logs slot) < 8
      → WritesOnly held now (gate_place slot (length (logs slot)) devices).0 (gate_place slot (length (logs slot)) devices).1 1
      → (IsOpenGate (gate_of now devices slot (length (logs slot))) → ⊥)
      → IsOverlaidTruth held devices areas rows logs truth → IsOverlaidTruth now devices areas rows logs truth
  gate_stays_closed slot less taken place only closed =
      log_rewritten slot (gate_place slot (length (logs slot)) devices).0 (gate_place slot (length (logs slot)) devices).1 1 only (gate_in devices slot (length (logs slot)) place) less
      (λ has. let log = log_of slot (logs slot) taken has in
      log_as slot (logs slot) taken record {
        most = log.most;
        stand = stand_kept held now (gate_place slot (length (logs slot)) devices).0 (gate_place slot (length (logs slot)) devices).1 1 devices areas slot (logs slot) only
            (λ k few same. inr (omega (arith, few))) (λ k few same. inl (omega (arith, place))) log.stand;
        end = λ few. closed;
      })

  -- it is open now: there is one record more
  pub gate_opens : (slot : ℕ) (more : Logged) → slot < 8 → is_taken rows slot ≡ true → length (logs slot) < 8
      → WritesOnly held now (gate_place slot (length (logs slot)) devices).0 (gate_place slot (length (logs slot)) devices).1 1
      → IsOpenGate (gate_of now devices slot (length (logs slot)))
      → IsInBody held devices areas slot (length (logs slot)) more
      → (length (logs slot) + 1 < 8 → IsOpenGate (gate_of held devices slot (length (logs slot) + 1)) → ⊥)
      → ((s at : ℕ) (block : Block) → s < 8 → s ≢ slot → block_in more.changed at ≡ Some block → newest_in (logs s) at ≡ None)
      → IsOverlaidTruth held devices areas rows logs truth
      → IsOverlaidTruth now devices areas rows (with_log logs slot (more ∷ logs slot)) (with_draft truth more.changed)
  gate_opens slot more less taken place only now_open body next alone was =
      truth_overlaid held now devices areas rows logs truth slot more was less
      (λ s in_slots. ⊎_elim
      (λ same. subst (λ (n : ℕ). HasLog rows now devices areas n (with_log logs slot (more ∷ logs slot) n)) (sym same)
      (subst (HasLog rows now devices areas slot) (sym (log_here logs slot (more ∷ logs slot))) (longer (log_of slot (logs slot) taken (was.has_logs slot less)))))
      (λ other. subst (HasLog rows now devices areas s) (sym (log_there logs slot s (more ∷ logs slot) other))
      (other_log slot gate_device gate_sector 1 only (gate_in devices slot (length (logs slot)) place) s (logs s) other (was.has_logs s in_slots)))
      (same_or s slot))
      alone
      (λ at is unlogged none home. home_stays slot gate_device gate_sector 1 only (gate_in devices slot (length (logs slot)) place) less at (truth at) home)
    where
      gate_device : ℕ
      gate_device = (gate_place slot (length (logs slot)) devices).0

      gate_sector : ℕ
      gate_sector = (gate_place slot (length (logs slot)) devices).1

      longer : IsLog held devices areas slot (logs slot) → HasLog rows now devices areas slot (more ∷ logs slot)
      longer log = log_as slot (more ∷ logs slot) taken record {
        most = omega (arith, place);
        stand = (
          now_open,
          body_kept held now (gate_place slot (length (logs slot)) devices).0 (gate_place slot (length (logs slot)) devices).1 1 devices areas slot (length (logs slot)) more only (λ same. inl (omega (arith, place))) body,
          stand_kept held now (gate_place slot (length (logs slot)) devices).0 (gate_place slot (length (logs slot)) devices).1 1 devices areas slot (logs slot) only
              (λ k few same. inr (omega (arith, few))) (λ k few same. inl (omega (arith, place))) log.stand,
        );
        end = λ few is_open.
            let after : suc (length (logs slot)) ≡ length (logs slot) + 1 = omega arith in
            next (omega (arith, few))
            (subst IsOpenGate
            (gate_kept held now (gate_place slot (length (logs slot)) devices).0 (gate_place slot (length (logs slot)) devices).1 1 devices areas slot (length (logs slot) + 1) only (λ same. inl (omega arith)))
            (subst (λ (n : ℕ). IsOpenGate (gate_of now devices slot n)) after is_open));
      }

  -- gate 0 is closed, and all blocks of the log are home
  pub log_closed : (slot : ℕ) → slot < 8 → is_taken rows slot ≡ true
      → WritesOnly held now (gate_place slot 0 devices).0 (gate_place slot 0 devices).1 1
      → (IsOpenGate (gate_of now devices slot 0) → ⊥)
      → ((at : ℕ) (block : Block) → IsBlock areas at → newest_in (logs slot) at ≡ Some block → IsHome held devices at block)
      → IsOverlaidTruth held devices areas rows logs truth
      → IsOverlaidTruth now devices areas rows (with_log logs slot []) truth
  log_closed slot less taken only closed homes was = record {
    has_logs = λ s in_slots. ⊎_elim
        (λ same. subst (λ (n : ℕ). HasLog rows now devices areas n (with_log logs slot [] n)) (sym same)
        (subst (HasLog rows now devices areas slot) (sym (log_here logs slot [])) (log_as slot [] taken record { most = omega arith; stand = tt; end = λ few. closed })))
        (λ other. subst (HasLog rows now devices areas s) (sym (log_there logs slot s [] other))
        (other_log slot (gate_place slot 0 devices).0 (gate_place slot 0 devices).1 1 only (gate_in devices slot 0 (omega arith)) s (logs s) other (was.has_logs s in_slots)))
        (same_or s slot);
    logged = λ s at block in_slots is. ⊎_elim
        (λ same. let none : newest_in [] at ≡ Some block = sym (ap (λ (l : List Logged). newest_in l at) (ap (with_log logs slot []) same ∙ log_here logs slot [])) ∙ is in absurd cc)
        (λ other. was.logged s at block in_slots (sym (ap (λ (l : List Logged). newest_in l at) (log_there logs slot s [] other)) ∙ is))
        (same_or s slot);
    home = λ at is unlogged. home_stays slot (gate_place slot 0 devices).0 (gate_place slot 0 devices).1 1 only (gate_in devices slot 0 (omega arith)) less at (truth at)
        (home_of at is unlogged (found (newest_in (logs slot) at)));
  }
    where
      home_of : (at : ℕ) → IsBlock areas at → IsUnlogged (with_log logs slot []) at
          → (newest_in (logs slot) at ≡ None) ⊎ ((block : Block) × (newest_in (logs slot) at ≡ Some block)) → IsHome held devices at (truth at)
      home_of at is unlogged (inl none) = was.home at is (λ s in_slots. ⊎_elim
          (λ same. ap (λ (n : ℕ). newest_in (logs n) at) same ∙ none)
          (λ other. sym (ap (λ (l : List Logged). newest_in l at) (log_there logs slot s [] other)) ∙ unlogged s in_slots)
          (same_or s slot))
      home_of at is unlogged (inr (block, some)) = subst (IsHome held devices at) (sym (was.logged slot at block less some)) (homes at block is some)
