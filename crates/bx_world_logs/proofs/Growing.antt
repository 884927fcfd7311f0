-- The logs where sessions come and go, and where what stands so goes on.
use Rattle.std.proofs.Common.{◌≡◌, ◌⊎◌, inl, inr, ℕ, ◌<◌, Bool, true, false, List, [], length, sym, ◌∙◌, ap, subst, arith}
use Rattle.bx_disk.specs.Disks.{Image}
use Rattle.bx_places.specs.Places.{gate_place}
use Rattle.bx_redo.specs.Stands.{AreClosed}
use Rattle.bx_redo.specs.declared.work.Work.TheVariants as works
use Rattle.bx_rows.specs.declared.session.SessionRow.{SessionRow}
use Rattle.bx_rows.specs.Words.{is_taken}
use Rattle.bx_views.specs.Truths.{Truth}
use Rattle.bx_redo.specs.bx_volume.specs.Overlay.{Logs}
use Rattle.bx_redo.specs.bx_volume.specs.Records.{Logged, LogWhere}
use Rattle.bx_world_logs.specs.Logs.{Activity, OfLog, Found, Finds, IsLogOf, IsShut, LogsStand, Slot, SlotStands, idle, writes_in}
use Rattle.bx_world_logs.proofs.Regions.{idle_writes}

-- A slot has a row as before; or gets one; or has none any more, and its log was closed.
abbrev pub SlotMay : List SessionRow → List SessionRow → Logs → (ℕ → Slot) → ℕ → Type 0
SlotMay old new logs slots slot =
    (is_taken new slot ≡ is_taken old slot)
    ⊎ (((is_taken old slot ≡ false) × (is_taken new slot ≡ true))
    ⊎ ((is_taken old slot ≡ true) × (is_taken new slot ≡ false) × (logs slot ≡ []) × ((slots slot).activity ≡ idle)))

module _ (Sure Sure_then : ℕ → ℕ → List ℕ → Type 0) (devices areas : ℕ) (before : Image) (keeps : (d s : ℕ) (content : List ℕ) → Sure d s content → Sure_then d s content) where
  finds_keep : (logs : Logs) (more : Logged) (slot : ℕ) (activity : Activity) → Finds Sure devices areas before logs more slot activity → Finds Sure_then devices areas before logs more slot activity
  finds_keep logs more slot (OfLog works.Idle) finds = finds
  finds_keep logs more slot (OfLog (works.Body text point)) finds = finds
  finds_keep logs more slot (OfLog (works.Opens point)) finds = (finds.0, finds.1, λ i less. keeps _ _ _ (finds.2 i less))
  finds_keep logs more slot (OfLog works.Closes) finds = (finds.0, record { home = finds.1.home; sure = λ at is some i less. keeps _ _ _ (finds.1.sure at is some i less) })
  finds_keep logs more slot (OfLog works.Shuts) finds = finds
  finds_keep logs more slot Found finds = finds

  pub slot_keeps : (logs : Logs) (slot : ℕ) (is : Slot) (taken : Bool) → SlotStands Sure devices areas before taken logs slot is → SlotStands Sure_then devices areas before taken logs slot is
  slot_keeps logs slot is true stands = record {
    gates = λ gate less apart. keeps _ _ _ (stands.gates gate less apart);
    bodies = λ body i few fills. keeps _ _ _ (stands.bodies body i few fills);
    finds = finds_keep logs is.more slot is.activity stands.finds;
  }
  slot_keeps logs slot is false stands = record { gates = λ gate less. keeps _ _ _ (stands.gates gate less); closed = stands.closed; still = stands.still }

  none_before : (logs : Logs) (slot : ℕ) → LogWhere false before devices areas slot (logs slot) → logs slot ≡ []
  none_before logs slot is = is

  -- the log of a slot that gets a row, and of one that loses it
  opened : (logs : Logs) (slot : ℕ) (is : Slot) → logs slot ≡ [] → IsShut Sure_then devices areas before slot is → IsLogOf Sure_then devices areas before logs slot is
  opened logs slot is none stands = record {
    gates = λ gate less apart. stands.gates gate less;
    bodies = λ body i few fills. absurd (let e = ap length none in omega (arith, e, few));
    finds = subst (λ (c : Activity). Finds Sure_then devices areas before logs is.more slot c) (sym stands.still) (λ gate above less. stands.closed gate (omega arith) less);
  }

  closed : (logs : Logs) (slot : ℕ) (is : Slot) → logs slot ≡ [] → is.activity ≡ idle → IsLogOf Sure_then devices areas before logs slot is → IsShut Sure_then devices areas before slot is
  closed logs slot is none still stands = record {
    gates = λ gate less. stands.gates gate less (ap (λ (c : Activity). writes_in devices slot (length (logs slot)) c (gate_place slot gate devices).0 (gate_place slot gate devices).1) still
        ∙ idle_writes devices slot (length (logs slot)) (gate_place slot gate devices).0 (gate_place slot gate devices).1);
    closed = λ gate above less. (subst (λ (c : Activity). Finds Sure_then devices areas before logs is.more slot c) still stands.finds) gate (let e = ap length none in omega (arith, e)) less;
    still = still;
  }

  -- ---- the whole

  pub rows_go : (rows rows_then : List SessionRow) (logs : Logs) (slots : ℕ → Slot) (truth : Truth) → ((slot : ℕ) → slot < 8 → SlotMay rows rows_then logs slots slot)
      → LogsStand Sure devices areas rows before logs slots truth → LogsStand Sure_then devices areas rows_then before logs slots truth
  rows_go rows rows_then logs slots truth may st = record {
    volume = st.volume;
    is_truth = record { has_logs = λ slot less. log_in slot less (may slot less); logged = st.is_truth.logged; home = st.is_truth.home };
    homes = λ at is none i less. keeps _ _ _ (st.homes at is none i less);
    each = λ slot less. slot_in slot less (may slot less);
    once = st.once;
  }
    where
      kept : (slot : ℕ) → slot < 8 → SlotStands Sure_then devices areas before (is_taken rows slot) logs slot (slots slot)
      kept slot less = slot_keeps logs slot (slots slot) (is_taken rows slot) (st.each slot less)

      is_none : (slot : ℕ) → slot < 8 → is_taken rows slot ≡ false → logs slot ≡ []
      is_none slot less free = none_before logs slot (subst (λ (t : Bool). LogWhere t before devices areas slot (logs slot)) free (st.is_truth.has_logs slot less))

      slot_in : (slot : ℕ) → slot < 8 → SlotMay rows rows_then logs slots slot → SlotStands Sure_then devices areas before (is_taken rows_then slot) logs slot (slots slot)
      slot_in slot less (inl same) = subst (λ (t : Bool). SlotStands Sure_then devices areas before t logs slot (slots slot)) (sym same) (kept slot less)
      slot_in slot less (inr (inl is)) = subst (λ (t : Bool). SlotStands Sure_then devices areas before t logs slot (slots slot)) (sym is.1)
          (opened logs slot (slots slot) (is_none slot less is.0) (subst (λ (t : Bool). SlotStands Sure_then devices areas before t logs slot (slots slot)) is.0 (kept slot less)))
      slot_in slot less (inr (inr is)) = subst (λ (t : Bool). SlotStands Sure_then devices areas before t logs slot (slots slot)) (sym is.1)
          (closed logs slot (slots slot) is.2 is.3 (subst (λ (t : Bool). SlotStands Sure_then devices areas before t logs slot (slots slot)) is.0 (kept slot less)))

      empty_log : (slot : ℕ) → logs slot ≡ [] → AreClosed before devices slot 0 → LogWhere true before devices areas slot (logs slot)
      empty_log slot none shut = subst (λ (run : List Logged). LogWhere true before devices areas slot run) (sym none) (record { most = omega arith; stand = tt; end = λ few. shut 0 (omega arith) (omega arith) })

      log_in : (slot : ℕ) → slot < 8 → SlotMay rows rows_then logs slots slot → LogWhere (is_taken rows_then slot) before devices areas slot (logs slot)
      log_in slot less (inl same) = subst (λ (t : Bool). LogWhere t before devices areas slot (logs slot)) (sym same) (st.is_truth.has_logs slot less)
      log_in slot less (inr (inl is)) = subst (λ (t : Bool). LogWhere t before devices areas slot (logs slot)) (sym is.1)
          (empty_log slot (is_none slot less is.0) (subst (λ (t : Bool). SlotStands Sure_then devices areas before t logs slot (slots slot)) is.0 (kept slot less)).closed)
      log_in slot less (inr (inr is)) = subst (λ (t : Bool). LogWhere t before devices areas slot (logs slot)) (sym is.1) is.2
