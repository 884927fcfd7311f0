-- What a recovery writes its session may write; and how the logs stand while it is under way.
use Rattle.std.proofs.Common.{◌≡◌, ◌≢◌, ◌∙◌, inl, ℕ, ◌+◌, ◌-◌, ◌<◌, Bool, true, false, eqb, List, Contains, None, Option, Some, IsSome, refl, sym, subst, arith}
use Rattle.std.proofs.lemmas.Bool.Decides.{nat_tests}
use Rattle.bx_disk.specs.Disks.{Image}
use Rattle.bx_facts.specs.Holds.{Holds}
use Rattle.bx_facts.specs.Writes.{Writes, WritesIn}
use Rattle.bx_global.specs.Allowed.{IsAllowed}
use Rattle.bx_global.specs.declared.change.Change.{Change}
use Rattle.bx_global.specs.declared.change.Change.TheVariants.{Close}
use Rattle.bx_global.specs.declared.state.GlobalState.{GlobalState}
use Rattle.bx_places.specs.Places.{IsVolume, block_place, body_place, gate_place}
use Rattle.bx_records.specs.Drafts.{Block}
use Rattle.bx_records.specs.declared.runs.Run.{Run}
use Rattle.bx_redo.specs.Homes.{AreItsHomes, home_run}
use Rattle.bx_rows.specs.Words.{is_taken, row_in}
use Rattle.bx_rows.specs.declared.session.SessionRow.{SessionRow}
use Rattle.bx_views.specs.Truths.{Truth}
use Rattle.bx_volume.specs.Overlay.{Logs}
use Rattle.bx_volume.specs.Records.{LogWhere, newest_in}
use Rattle.bx_volume.proofs.Sizes.{length-block_text}
use Rattle.bx_world_chains.specs.Entitled.{IsEntitled}
use Rattle.bx_world_chains.proofs.Rows.{one_slot as one_row}
use Rattle.bx_world_logs.specs.Logs.{Activity, Finds, Found, IsLogOf, LogsStand, Slot, SlotStands}
use Rattle.bx_world_logs.proofs.Regions.{IsIn, body_is_in, gate_is_in, one_slot}
use Rattle.bx_world_standing.specs.Rights.{IsOfSlot, MayTouch}
use Rattle.bx_world_standing.specs.Rights.MayTouch.{OfLogged, OfSlot}
use Rattle.bx_node_logs.proofs.Moved.{fills_few, is_some_block}
use Rattle.bx_node_logs.proofs.Starts.{slot_sure}
use Rattle.bx_node_events.proofs.Homing.{apart_home, apart_slot}

-- ---- what may be written

module _ (devices areas : ℕ) (s : GlobalState) (holding : Holds) (logs : Logs) (slots : ℕ → Slot) (gone session slot : ℕ) (less : slot < 8) (entitled : IsEntitled s gone slot session) where
  -- the slot that its session claimed
  pub slot_touches : (d sector : ℕ) → IsOfSlot devices slot d sector → MayTouch devices areas s holding logs slots session d sector
  slot_touches d sector inside = OfSlot gone slot less entitled inside

  -- and the homes of the blocks of its log
  pub homes_touch : (runs : List Run) → AreItsHomes devices areas logs slot runs → (d sector : ℕ) (content : List ℕ) → WritesIn runs d sector content → MayTouch devices areas s holding logs slots session d sector
  homes_touch runs its d sector content (run, there, w) =
      let h = its.each run there in
      let home : Writes (home_run devices h.at h.block) d sector content = subst (λ (r : Run). Writes r d sector content) h.run_is w in
      let nine = length-block_text h.block h.parts in
      let from = home.from in
      let below = home.below in
      OfLogged h.at gone slot h.is
      (record { device = sym home.on; i = sector - (block_place h.at devices).1; few = omega (arith, nine, from, below); is = omega (arith, from) })
      less entitled (inl (let newest = h.newest in cc))

  -- No closing that the session proposed is of the slot, where none is of the session that is gone.
  pub unclosed : (proposed : List Change) → IsAllowed s → (Contains proposed (Close gone session) → ⊥)
      → (who d sector : ℕ) (row : SessionRow) → Contains proposed (Close who session) → row_in s.sessions who ≡ Some row → IsOfSlot devices slot d sector → IsOfSlot devices row.slot d sector → ⊥
  unclosed proposed allowed none who d sector row there is inside inside_too =
      let same : row.slot ≡ slot = one_slot row.slot slot sector (record { from = inside_too.from; to = inside_too.to }) (record { from = inside.from; to = inside.to }) in
      let one : who ≡ gone = one_row s.sessions who gone row entitled.row allowed.own_slots is entitled.is (same ∙ sym entitled.at) in
      none (subst (λ (n : ℕ). Contains proposed (Close n session)) one there)

-- ---- how the logs stand then

module _ (Sure Sure_then : ℕ → ℕ → List ℕ → Type 0) (devices areas : ℕ) (rows : List SessionRow) (before : Image) (logs : Logs) (slots : ℕ → Slot) (truth : Truth) (slot : ℕ)
    (less : slot < 8) (taken : is_taken rows slot ≡ true) (st : LogsStand Sure devices areas rows before logs slots truth) where
  -- The blocks of a log that was found are written home: all that they aren't written to does.
  module _ (volume : IsVolume devices areas) (runs : List Run) (its : AreItsHomes devices areas logs slot runs) (rests : (slots slot).activity ≡ Found)
      (keeps : (d s : ℕ) (content : List ℕ) → ((other : List ℕ) → WritesIn runs d s other → ⊥) → Sure d s content → Sure_then d s content) where
    log : IsLogOf Sure devices areas before logs slot (slots slot)
    log = subst (λ (t : Bool). SlotStands Sure devices areas before t logs slot (slots slot)) taken (st.each slot less)

    has_log : LogWhere true before devices areas slot (logs slot)
    has_log = subst (λ (t : Bool). LogWhere t before devices areas slot (logs slot)) taken (st.is_truth.has_logs slot less)

    in_slot : (other d s : ℕ) (content : List ℕ) → other < 8 → IsIn other s → Sure d s content → Sure_then d s content
    in_slot other d s content few inside sure = keeps d s content (λ new w. apart_slot devices areas volume logs slot less runs its other d s new few inside w) sure

    -- a block of another log isn't one of this
    none_here : (other at : ℕ) → other < 8 → other ≢ slot → IsSome (newest_in (logs other) at) → newest_in (logs slot) at ≡ None
    none_here other at few ne some = by (newest_in (logs slot) at) refl
      where
        by : (own : Option Block) → newest_in (logs slot) at ≡ own → newest_in (logs slot) at ≡ None
        by None none = none
        by (Some block) is = absurd (ne (st.once other slot at few less (inl some) (inl (is_some_block (newest_in (logs slot) at) block is))))

    here : IsLogOf Sure_then devices areas before logs slot (slots slot)
    here = record {
      gates = λ gate low apart. in_slot slot (gate_place slot gate devices).0 (gate_place slot gate devices).1 (before (gate_place slot gate devices).0 (gate_place slot gate devices).1) less (gate_is_in slot gate low) (log.gates gate low apart);
      bodies = λ body i few fills. in_slot slot (body_place slot body devices).0 ((body_place slot body devices).1 + i) (before (body_place slot body devices).0 ((body_place slot body devices).1 + i)) less
          (body_is_in slot body i (let most = has_log.most in omega (arith, few, most)) (fills_few before devices areas slot (logs slot) body i has_log.stand few fills)) (log.bodies body i few fills);
      finds = subst (λ (a : Activity). Finds Sure_then devices areas before logs (slots slot).more slot a) (sym rests) (tt {0});
    }

    by_test : (other : ℕ) → other < 8 → (b : Bool) → eqb other slot ≡ b → SlotStands Sure_then devices areas before (is_taken rows other) logs other (slots other)
    by_test other few true is =
        let e : other ≡ slot = grind (arith, nat_tests, is) in
        subst (λ (n : ℕ). SlotStands Sure_then devices areas before (is_taken rows n) logs n (slots n)) (sym e)
        (subst (λ (t : Bool). SlotStands Sure_then devices areas before t logs slot (slots slot)) (sym taken) here)
    by_test other few false is =
        let ne : other ≢ slot = λ e. grind (arith, nat_tests, is, e) in
        slot_sure Sure Sure_then devices areas before logs other (λ d s content inside sure. in_slot other d s content few inside sure)
        (λ at i content there some low sure. keeps (block_place at devices).0 ((block_place at devices).1 + i) content
        (λ new w. apart_home devices areas volume logs slot less runs its at i new there (none_here other at few ne some) low w) sure)
        (slots other) (is_taken rows other) (st.is_truth.has_logs other few) (st.each other few)

    pub homes_sent : LogsStand Sure_then devices areas rows before logs slots truth
    homes_sent = record {
      volume = st.volume;
      is_truth = st.is_truth;
      homes = λ at block none i few. keeps (block_place at devices).0 ((block_place at devices).1 + i) (before (block_place at devices).0 ((block_place at devices).1 + i))
          (λ new w. apart_home devices areas volume logs slot less runs its at i new block (none slot less) few w) (st.homes at block none i few);
      each = λ other few. by_test other few (eqb other slot) refl;
      once = st.once;
    }
