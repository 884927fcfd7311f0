-- What a recovery wrote into a log slot that its session claimed, or home, is acknowledged, and the tree stays: blocks that are home, gates that are closed.
use Rattle.std.proofs.Common.{◌≡◌, ◌≢◌, ◌⊎◌, ⊎_elim, inl, ℕ, ◌+◌, ◌<◌, Bool, true, false, eqb, List, [], length, Contains, Some, None, IsSome, IsSomeAnd, refl, sym, ◌∙◌, ap, subst, arith}
use Rattle.std.proofs.lemmas.Bool.Decides.{nat_tests}
use Rattle.bx_disk.specs.Disks.{Disks, Image}
use Rattle.bx_facts.specs.declared.register.Register as register
use Rattle.bx_facts.specs.declared.store.Store as store
use Rattle.bx_facts.specs.Chains.{LivesIn, last}
use Rattle.bx_facts.specs.Writes.{Sent}
use Rattle.bx_global.specs.Allowed.{IsAllowed, IsSession}
use Rattle.bx_global.specs.declared.change.Change.TheVariants.{Close}
use Rattle.bx_layout.specs.Labels.{gate_text}
use Rattle.bx_layout.specs.declared.gate.Gate.TheVariants.{Closed}
use Rattle.bx_facts.specs.declared.owners.Owners as owners
use Rattle.bx_places.specs.Places.{IsBlock, block_place}
use Rattle.bx_records.specs.Drafts.{block_in}
use Rattle.bx_redo.specs.Stands.{IsAcknowledged}
use Rattle.bx_redo.specs.Steps.{shut_text}
use Rattle.bx_redo.specs.declared.work.Work.TheVariants as works
use Rattle.bx_rows.specs.Words.{is_taken, row_in}
use Rattle.bx_rows.specs.declared.session.SessionRow.{SessionRow}
use Rattle.bx_views.specs.Attempts.{Deed}
use Rattle.bx_views.specs.Truths.{Hints, Truth}
use Rattle.bx_volume.specs.Overlay.{IsOverlaidTruth, Logs, with_log}
use Rattle.bx_volume.specs.Records.{Logged, newest_in}
use Rattle.bx_volume.proofs.Overlay.{log_here, log_there}
use Rattle.bx_world_chains.specs.Entitled.{IsEntitled}
use Rattle.bx_world_chains.proofs.Rows.{all_row, one_entitled, taken_of}
use Rattle.bx_world_standing.specs.bx_world_logs.specs.Logs.{AreHomed, Found, IsInLog, LogsStand, OfLog, Slot, begins, idle, view_of}
use Rattle.bx_world_standing.specs.bx_world_logs.proofs.Moving.{slot_here, slot_there, with_slot}
use Rattle.bx_world_standing.specs.bx_world_logs.proofs.Regions.{IsIn}
use Rattle.bx_world_standing.specs.Closings.{ClosingStands, IsClosed}
use Rattle.bx_world_standing.specs.Doubts.{IsRecordOf}
use Rattle.bx_world_standing.specs.Rights.{MayTouch}
use Rattle.bx_world_standing.specs.Rights.MayTouch.{OfHeld, OfLogged, OfSlot}
use Rattle.bx_world_standing.specs.Standing.{Course, Known, StandsAt, SureOf}
use Rattle.bx_node_landings.proofs.Landed.{with_landed}
use Rattle.bx_node_closings.proofs.Closings.{first_lands}
use Rattle.bx_node_closings.proofs.Sends.{others_land}
use Rattle.bx_node_recovers.proofs.Found.{homes_land, none_found}

module _ {G O S T : Type 0} (g : register.Ghosts G) (o : owners.Ghosts O) (st : store.Ghosts S) (Stands : Truth → Hints → T → Type 0) (Step : T → Deed → T → Type 0)
    (register_is : G) (owners_are : O) (store_is : S) (x : Disks) (known : Known) (c : Course) (tree : T) (gone session slot : ℕ)
    (at : StandsAt g o st Stands Step register_is owners_are store_is x known c tree)
    (allowed : IsAllowed (last c.register.chain)) (entitled : IsEntitled (last c.register.chain) gone slot session)
    (none_sent : (write : Sent) → Contains c.store.writes write → write.session ≢ session) (unproposed : Contains c.register.proposed (Close gone session) → ⊥) where
  pub low : slot < 8
  low = subst (λ (n : ℕ). n < 8) entitled.at ((all_row (IsSession (last c.register.chain).term_end) (last c.register.chain).sessions gone entitled.row allowed.each_session entitled.is).slot)

  taken : is_taken (last c.register.chain).sessions slot ≡ true
  taken = subst (λ (n : ℕ). is_taken (last c.register.chain).sessions n ≡ true) entitled.at (taken_of (last c.register.chain) gone entitled.row entitled.is)

  module _ (is : Slot) (later : Logs) (now : Image)
      (others : (other : ℕ) → other ≢ slot → later other ≡ c.logs other)
      (back : (block : ℕ) → IsInLog later (with_slot c.slots slot is) slot block → IsInLog c.logs c.slots slot block)
      (same_begins : begins is.activity ≡ begins (c.slots slot).activity)
      (same_more : begins is.activity ≡ true → is.more ≡ (c.slots slot).more)
      (logs : LogsStand (SureOf g o st Stands Step register_is owners_are store_is x known c) (st.made store_is).devices (st.made store_is).areas (last c.register.chain).sessions now later (with_slot c.slots slot is) c.truth) where
    same_slot : (k : ℕ) → eqb k slot ≡ true → k ≡ slot
    same_slot k same = grind (arith, nat_tests, same)

    other_slot : (k : ℕ) → eqb k slot ≡ false → k ≢ slot
    other_slot k apart e = grind (arith, nat_tests, apart, e)

    is_here : (k : ℕ) → k ≡ slot → with_slot c.slots slot is k ≡ is
    is_here k e = ap (λ (n : ℕ). with_slot c.slots slot is n) e ∙ slot_here c.slots slot is

    was_in : (k block : ℕ) (b : Bool) → eqb k slot ≡ b → IsInLog later (with_slot c.slots slot is) k block → IsInLog c.logs c.slots k block
    was_in k block true same inside =
        let e = same_slot k same in
        subst (λ (n : ℕ). IsInLog c.logs c.slots n block) (sym e) (back block (subst (λ (n : ℕ). IsInLog later (with_slot c.slots slot is) n block) e inside))
    was_in k block false apart inside =
        let ne = other_slot k apart in
        subst (λ (l : Slot). IsSome (newest_in (c.logs k) block) ⊎ ((begins l.activity ≡ true) × IsSome (block_in l.more.changed block))) (slot_there c.slots slot k is ne)
        (subst (λ (r : List Logged). IsSome (newest_in r block) ⊎ ((begins (with_slot c.slots slot is k).activity ≡ true) × IsSome (block_in (with_slot c.slots slot is k).more.changed block))) (others k ne) inside)

    then_in : (k block : ℕ) → k ≢ slot → IsInLog c.logs c.slots k block → IsInLog later (with_slot c.slots slot is) k block
    then_in k block ne inside =
        subst (λ (r : List Logged). IsSome (newest_in r block) ⊎ ((begins (with_slot c.slots slot is k).activity ≡ true) × IsSome (block_in (with_slot c.slots slot is k).more.changed block))) (sym (others k ne))
        (subst (λ (l : Slot). IsSome (newest_in (c.logs k) block) ⊎ ((begins l.activity ≡ true) × IsSome (block_in l.more.changed block))) (sym (slot_there c.slots slot k is ne)) inside)

    -- only the session that claimed the slot may write the homes of its log, and it has no write that may be taken
    touch : (write : Sent) (d sector : ℕ) → Contains c.store.writes write → MayTouch (st.made store_is).devices (st.made store_is).areas (last c.register.chain) c.owners.holding c.logs c.slots write.session d sector
        → MayTouch (st.made store_is).devices (st.made store_is).areas (last c.register.chain) c.owners.holding later (with_slot c.slots slot is) write.session d sector
    touch write d sector there (OfSlot owner k small may in_slot) = OfSlot owner k small may in_slot
    touch write d sector there (OfHeld block is_block home held) = OfHeld block is_block home held
    touch write d sector there (OfLogged block owner k is_block home small may inside) = by_test (eqb k slot) refl
      where
        by_test : (b : Bool) → eqb k slot ≡ b → MayTouch (st.made store_is).devices (st.made store_is).areas (last c.register.chain) c.owners.holding later (with_slot c.slots slot is) write.session d sector
        by_test true same = absurd (none_sent write there (sym (one_entitled (last c.register.chain) gone owner slot session write.session allowed entitled
            (subst (λ (n : ℕ). IsEntitled (last c.register.chain) owner n write.session) (same_slot k same) may)).1))
        by_test false apart = OfLogged block owner k is_block home small may (then_in k block (other_slot k apart) inside)

    by_doubt : (other : ℕ) (its : SessionRow) → row_in (last c.register.chain).sessions other ≡ Some its → (b : Bool) → eqb its.slot slot ≡ b → begins (with_slot c.slots slot is its.slot).activity ≡ true
        → IsSomeAnd (c.doubts other) (IsRecordOf (with_slot c.slots slot is its.slot).more)
    by_doubt other its is_its true same begun =
        let e = same_slot its.slot same in
        let here = is_here its.slot e in
        let began : begins is.activity ≡ true = subst (λ (l : Slot). begins l.activity ≡ true) here begun in
        subst (λ (l : Slot). IsSomeAnd (c.doubts other) (IsRecordOf l.more)) (sym here)
        (subst (λ (m : Logged). IsSomeAnd (c.doubts other) (IsRecordOf m)) (ap (λ (n : ℕ). (c.slots n).more) e ∙ sym (same_more began))
        (at.doubted.each other its is_its (ap (λ (n : ℕ). begins (c.slots n).activity) e ∙ sym same_begins ∙ began)))
    by_doubt other its is_its false apart begun =
        let there = slot_there c.slots slot its.slot is (other_slot its.slot apart) in
        subst (λ (l : Slot). IsSomeAnd (c.doubts other) (IsRecordOf l.more)) (sym there) (at.doubted.each other its is_its (subst (λ (l : Slot). begins l.activity ≡ true) there begun))

    still_begun : (k : ℕ) (b : Bool) → eqb k slot ≡ b → begins (c.slots k).activity ≡ true → begins (with_slot c.slots slot is k).activity ≡ true
    still_begun k true same begun =
        let e = same_slot k same in
        ap (λ (l : Slot). begins l.activity) (is_here k e) ∙ same_begins ∙ ap (λ (n : ℕ). begins (c.slots n).activity) (sym e) ∙ begun
    still_begun k false apart begun = ap (λ (l : Slot). begins l.activity) (slot_there c.slots slot k is (other_slot k apart)) ∙ begun

    closing : (who by : ℕ) → Contains c.register.proposed (Close who by) → ClosingStands (st.made store_is).devices (last c.register.chain) later (with_slot c.slots slot is) c.store.writes who by
    closing who by proposed = record {
      given = was.given;
      given_by = was.given_by;
      dead = was.dead;
      entitled = was.entitled;
      closed = λ row lives is_row. by_slot row lives is_row (eqb row.slot slot) refl;
    }
      where
        was : ClosingStands (st.made store_is).devices (last c.register.chain) c.logs c.slots c.store.writes who by
        was = at.closings who by proposed

        by_slot : (row : SessionRow) → LivesIn (last c.register.chain) by → row_in (last c.register.chain).sessions who ≡ Some row → (b : Bool) → eqb row.slot slot ≡ b
            → IsClosed (st.made store_is).devices later (with_slot c.slots slot is) c.store.writes row.slot by
        by_slot row lives is_row true same =
            let both = one_entitled (last c.register.chain) gone who slot session by allowed entitled (subst (λ (n : ℕ). IsEntitled (last c.register.chain) who n by) (same_slot row.slot same) (was.entitled row lives is_row)) in
            absurd (unproposed (subst (λ (n : ℕ). Contains c.register.proposed (Close gone n)) (sym both.1) (subst (λ (n : ℕ). Contains c.register.proposed (Close n by)) (sym both.0) proposed)))
        by_slot row lives is_row false apart =
            let ne = other_slot row.slot apart in
            let shut = was.closed row lives is_row in record {
              none = others row.slot ne ∙ shut.none;
              still = ap (λ (l : Slot). l.activity) (slot_there c.slots slot row.slot is ne) ∙ shut.still;
              unwritten = shut.unwritten;
            }

    pub landed_at : StandsAt g o st Stands Step register_is owners_are store_is x known (with_landed c slot later is now) tree
    landed_at = record {
      pasts = at.pasts;
      parts = at.parts;
      labels = at.labels;
      sessions = at.sessions;
      logs = logs;
      rights = record { each = λ other its block is_its inside. at.rights.each other its block is_its (was_in its.slot block (eqb its.slot slot) refl inside) };
      writes = record { ends = at.writes.ends; given = at.writes.given; may = λ write d sector content there live to. touch write d sector there (at.writes.may write d sector content there live to) };
      closings = λ who by there. closing who by there;
      volume = at.volume;
      doubted = record {
        each = λ other its is_its begun. by_doubt other its is_its (eqb its.slot slot) refl begun;
        only = λ other doubt has. let was = at.doubted.only other doubt has in (was.0, was.1, still_begun was.0.slot (eqb was.0.slot slot) refl was.2);
      };
    }

  -- ---- by what was written

  -- a slot where no record is under way has the blocks of its log alone
  only_logged : (is : Slot) (block : ℕ) → begins is.activity ≡ false → IsInLog c.logs (with_slot c.slots slot is) slot block → IsInLog c.logs c.slots slot block
  only_logged is block none inside = ⊎_elim (λ one. inl one) (λ two. absurd (let begun = two.0 in cc))
      (subst (λ (l : Slot). IsSome (newest_in (c.logs slot) block) ⊎ ((begins l.activity ≡ true) × IsSome (block_in l.more.changed block))) (slot_here c.slots slot is) inside)

  -- The blocks of the log, home.
  pub homes_at : (next : Logged) (now : Image) → (c.slots slot).activity ≡ Found → 0 < length (c.logs slot)
      → ((s d n : ℕ) → s < 8 → IsIn s n → now d n ≡ c.before d n)
      → ((block i : ℕ) → IsBlock (st.made store_is).areas block → newest_in (c.logs slot) block ≡ None → i < 9
      → now (block_place block (st.made store_is).devices).0 ((block_place block (st.made store_is).devices).1 + i) ≡ c.before (block_place block (st.made store_is).devices).0 ((block_place block (st.made store_is).devices).1 + i))
      → IsOverlaidTruth now (st.made store_is).devices (st.made store_is).areas (last c.register.chain).sessions c.logs c.truth
      → AreHomed (SureOf g o st Stands Step register_is owners_are store_is x known c) (st.made store_is).devices (st.made store_is).areas now c.logs slot
      → StandsAt g o st Stands Step register_is owners_are store_is x known (with_landed c slot c.logs (record { activity = OfLog works.Closes; more = next }) now) tree
  homes_at next now rests some in_slots in_homes is_truth homed = landed_at (record { activity = OfLog works.Closes; more = next }) c.logs now (λ other ne. refl)
      (λ block inside. only_logged (record { activity = OfLog works.Closes; more = next }) block refl inside) (sym (ap begins rests)) (λ begun. absurd (let e = begun in cc))
      (homes_land (SureOf g o st Stands Step register_is owners_are store_is x known c) (st.made store_is).devices (st.made store_is).areas (last c.register.chain).sessions c.before now c.logs c.slots c.truth slot low taken at.logs next rests some in_slots in_homes is_truth homed)

  -- Nothing, where the log has no records: the gates behind gate 0 are to be closed.
  pub none_at : (next : Logged) → (c.slots slot).activity ≡ Found → length (c.logs slot) ≡ 0
      → StandsAt g o st Stands Step register_is owners_are store_is x known (with_landed c slot c.logs (record { activity = OfLog works.Shuts; more = next }) c.before) tree
  none_at next rests none = landed_at (record { activity = OfLog works.Shuts; more = next }) c.logs c.before (λ other ne. refl)
      (λ block inside. only_logged (record { activity = OfLog works.Shuts; more = next }) block refl inside) (sym (ap begins rests)) (λ begun. absurd (let e = begun in cc))
      (none_found (SureOf g o st Stands Step register_is owners_are store_is x known c) (st.made store_is).devices (st.made store_is).areas (last c.register.chain).sessions c.before c.before c.logs c.slots c.truth slot low taken at.logs next rests none)

  -- Gate 0, closed: the log has no records.
  pub first_at : (more next : Logged) (now : Image) → c.slots slot ≡ record { activity = OfLog works.Closes; more = more }
      → IsAcknowledged (SureOf g o st Stands Step register_is owners_are store_is x known c) (SureOf g o st Stands Step register_is owners_are store_is x known c) c.before now
      (view_of (st.made store_is).devices slot (length (c.logs slot)) works.Closes) (gate_text Closed)
      → StandsAt g o st Stands Step register_is owners_are store_is x known (with_landed c slot (with_log c.logs slot []) (record { activity = OfLog works.Shuts; more = next }) now) tree
  first_at more next now was ack = landed_at then_is (with_log c.logs slot []) now (λ other ne. log_there c.logs slot other [] ne) back
      (sym (ap (λ (l : Slot). begins l.activity) was)) (λ begun. absurd (let e = begun in cc))
      (first_lands (SureOf g o st Stands Step register_is owners_are store_is x known c) (st.made store_is).devices (st.made store_is).areas (last c.register.chain).sessions c.before now c.logs c.slots c.truth slot low taken at.logs more next was ack)
    where
      then_is : Slot
      then_is = record { activity = OfLog works.Shuts; more = next }

      none_in : (block : ℕ) → IsSome (newest_in [] block) → ⊥
      none_in block some = cc

      back : (block : ℕ) → IsInLog (with_log c.logs slot []) (with_slot c.slots slot (record { activity = OfLog works.Shuts; more = next })) slot block → IsInLog c.logs c.slots slot block
      back block inside = absurd (⊎_elim
          (λ one. none_in block (subst (λ (r : List Logged). IsSome (newest_in r block)) (log_here c.logs slot []) one))
          (λ two. let begun : begins then_is.activity ≡ true = subst (λ (l : Slot). begins l.activity ≡ true) (slot_here c.slots slot then_is) two.0 in cc)
          inside)

  -- The other gates, closed: the log rests.
  pub others_at : (more next : Logged) (now : Image) → c.slots slot ≡ record { activity = OfLog works.Shuts; more = more }
      → IsAcknowledged (SureOf g o st Stands Step register_is owners_are store_is x known c) (SureOf g o st Stands Step register_is owners_are store_is x known c) c.before now
      (view_of (st.made store_is).devices slot (length (c.logs slot)) works.Shuts) shut_text
      → StandsAt g o st Stands Step register_is owners_are store_is x known (with_landed c slot c.logs (record { activity = idle; more = next }) now) tree
  others_at more next now was ack = landed_at (record { activity = idle; more = next }) c.logs now (λ other ne. refl)
      (λ block inside. only_logged (record { activity = idle; more = next }) block refl inside) (sym (ap (λ (l : Slot). begins l.activity) was)) (λ begun. absurd (let e = begun in cc))
      (others_land (SureOf g o st Stands Step register_is owners_are store_is x known c) (st.made store_is).devices (st.made store_is).areas (last c.register.chain).sessions c.before now c.logs c.slots c.truth slot low taken at.logs more next was ack)
