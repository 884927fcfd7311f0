-- What a node wrote into its log, or home, is acknowledged, and the tree stays: a body, blocks that are home, gates that are closed.
use Rattle.std.proofs.Common.{◌≡◌, ◌≢◌, ◌⊎◌, ⊎_elim, inl, inr, ℕ, ◌+◌, ◌<◌, Bool, true, false, eqb, List, [], length, Contains, Some, None, IsSome, IsSomeAnd, refl, sym, ◌∙◌, ap, subst, arith}
use Rattle.std.proofs.lemmas.Bool.Decides.{nat_tests}
use Rattle.bx_base.specs.declared.names.Point.{Point}
use Rattle.bx_disk.specs.Disks.{Disks, Image}
use Rattle.bx_facts.specs.declared.register.Register as register
use Rattle.bx_facts.specs.declared.store.Store as store
use Rattle.bx_facts.specs.Chains.{LivesIn, last}
use Rattle.bx_facts.specs.Writes.{Sent}
use Rattle.bx_global.specs.Allowed.{IsAllowed, IsSession}
use Rattle.bx_global.specs.declared.change.Change.TheVariants.{Close}
use Rattle.bx_layout.specs.Labels.{gate_text}
use Rattle.bx_layout.specs.declared.gate.Gate.TheVariants.{Closed}
use Rattle.bx_facts.specs.declared.owners.Owners as owners
use Rattle.bx_places.specs.Places.{IsBlock, block_place}
use Rattle.bx_records.specs.Drafts.{block_in}
use Rattle.bx_redo.specs.Stands.{IsAcknowledged}
use Rattle.bx_redo.specs.Steps.{shut_text}
use Rattle.bx_redo.specs.declared.work.Work.TheVariants as works
use Rattle.bx_rows.specs.Words.{is_taken, row_in}
use Rattle.bx_rows.specs.declared.session.SessionRow.{SessionRow}
use Rattle.bx_views.specs.Attempts.{Deed}
use Rattle.bx_views.specs.Truths.{Hints, Truth}
use Rattle.bx_volume.specs.Overlay.{IsOverlaidTruth, Logs, with_log}
use Rattle.bx_volume.specs.Records.{Logged, newest_in}
use Rattle.bx_volume.proofs.Overlay.{log_here, log_there}
use Rattle.bx_world_chains.specs.Entitled.{IsEntitled}
use Rattle.bx_world_chains.proofs.Rows.{all_row, one_entitled, one_slot, taken_of}
use Rattle.bx_world_standing.specs.bx_world_logs.specs.Logs.{AreHomed, IsInLog, LogsStand, OfLog, Slot, begins, idle, view_of}
use Rattle.bx_world_standing.specs.bx_world_logs.proofs.Moving.{slot_here, slot_there, with_slot}
use Rattle.bx_world_standing.specs.bx_world_logs.proofs.Regions.{IsIn}
use Rattle.bx_world_standing.specs.Doubts.{IsRecordOf}
use Rattle.bx_world_standing.specs.Rights.{MayTouch}
use Rattle.bx_world_standing.specs.Rights.MayTouch.{OfHeld, OfLogged, OfSlot}
use Rattle.bx_world_standing.specs.Standing.{Course, Known, StandsAt, SureOf}
use Rattle.bx_node_logs.proofs.Steps.{body_lands}
use Rattle.bx_node_closings.proofs.Closings.{first_lands, homes_land}
use Rattle.bx_node_closings.proofs.Sends.{others_land}

-- the course once a slot's log is another
abbrev pub with_landed : Course → ℕ → Logs → Slot → Image → Course
with_landed c slot later is now = record c { before = now; logs = later; slots = with_slot c.slots slot is }

module _ {G O S T : Type 0} (g : register.Ghosts G) (o : owners.Ghosts O) (st : store.Ghosts S) (Stands : Truth → Hints → T → Type 0) (Step : T → Deed → T → Type 0)
    (register_is : G) (owners_are : O) (store_is : S) (x : Disks) (known : Known) (c : Course) (tree : T) (session : ℕ) (row : SessionRow)
    (at : StandsAt g o st Stands Step register_is owners_are store_is x known c tree)
    (allowed : IsAllowed (last c.register.chain)) (lives : LivesIn (last c.register.chain) session) (is_row : row_in (last c.register.chain).sessions session ≡ Some row)
    (none_sent : (write : Sent) → Contains c.store.writes write → write.session ≢ session) where
  low : row.slot < 8
  low = (all_row (IsSession (last c.register.chain).term_end) (last c.register.chain).sessions session row allowed.each_session is_row).slot

  taken : is_taken (last c.register.chain).sessions row.slot ≡ true
  taken = taken_of (last c.register.chain) session row is_row

  mine : IsEntitled (last c.register.chain) session row.slot session
  mine = record { row = row; is = is_row; at = refl; lives = lives; whose = inl refl }

  module _ (is : Slot) (later : Logs) (now : Image)
      (others : (other : ℕ) → other ≢ row.slot → later other ≡ c.logs other)
      (back : (block : ℕ) → IsInLog later (with_slot c.slots row.slot is) row.slot block → IsInLog c.logs c.slots row.slot block)
      (same_begins : begins is.activity ≡ begins (c.slots row.slot).activity)
      (same_more : begins is.activity ≡ true → is.more ≡ (c.slots row.slot).more)
      (logs : LogsStand (SureOf g o st Stands Step register_is owners_are store_is x known c) (st.made store_is).devices (st.made store_is).areas (last c.register.chain).sessions now later (with_slot c.slots row.slot is) c.truth) where
    same_slot : (slot : ℕ) → eqb slot row.slot ≡ true → slot ≡ row.slot
    same_slot slot same = grind (arith, nat_tests, same)

    other_slot : (slot : ℕ) → eqb slot row.slot ≡ false → slot ≢ row.slot
    other_slot slot apart e = grind (arith, nat_tests, apart, e)

    is_here : (slot : ℕ) → slot ≡ row.slot → with_slot c.slots row.slot is slot ≡ is
    is_here slot e = ap (λ (n : ℕ). with_slot c.slots row.slot is n) e ∙ slot_here c.slots row.slot is

    was_in : (slot block : ℕ) (b : Bool) → eqb slot row.slot ≡ b → IsInLog later (with_slot c.slots row.slot is) slot block → IsInLog c.logs c.slots slot block
    was_in slot block true same inside =
        let e = same_slot slot same in
        subst (λ (n : ℕ). IsInLog c.logs c.slots n block) (sym e) (back block (subst (λ (n : ℕ). IsInLog later (with_slot c.slots row.slot is) n block) e inside))
    was_in slot block false apart inside =
        let ne = other_slot slot apart in
        subst (λ (l : Slot). IsSome (newest_in (c.logs slot) block) ⊎ ((begins l.activity ≡ true) × IsSome (block_in l.more.changed block))) (slot_there c.slots row.slot slot is ne)
        (subst (λ (r : List Logged). IsSome (newest_in r block) ⊎ ((begins (with_slot c.slots row.slot is slot).activity ≡ true) × IsSome (block_in (with_slot c.slots row.slot is slot).more.changed block))) (others slot ne) inside)

    then_in : (slot block : ℕ) → slot ≢ row.slot → IsInLog c.logs c.slots slot block → IsInLog later (with_slot c.slots row.slot is) slot block
    then_in slot block ne inside =
        subst (λ (r : List Logged). IsSome (newest_in r block) ⊎ ((begins (with_slot c.slots row.slot is slot).activity ≡ true) × IsSome (block_in (with_slot c.slots row.slot is slot).more.changed block))) (sym (others slot ne))
        (subst (λ (l : Slot). IsSome (newest_in (c.logs slot) block) ⊎ ((begins l.activity ≡ true) × IsSome (block_in l.more.changed block))) (sym (slot_there c.slots row.slot slot is ne)) inside)

    -- only the session itself may write its log's homes, and it has no write that may be taken
    touch : (write : Sent) (d sector : ℕ) → Contains c.store.writes write → MayTouch (st.made store_is).devices (st.made store_is).areas (last c.register.chain) c.owners.holding c.logs c.slots write.session d sector
        → MayTouch (st.made store_is).devices (st.made store_is).areas (last c.register.chain) c.owners.holding later (with_slot c.slots row.slot is) write.session d sector
    touch write d sector there (OfSlot owner slot small entitled in_slot) = OfSlot owner slot small entitled in_slot
    touch write d sector there (OfHeld block is_block home held) = OfHeld block is_block home held
    touch write d sector there (OfLogged block owner slot is_block home small entitled inside) = by_test (eqb slot row.slot) refl
      where
        by_test : (b : Bool) → eqb slot row.slot ≡ b → MayTouch (st.made store_is).devices (st.made store_is).areas (last c.register.chain) c.owners.holding later (with_slot c.slots row.slot is) write.session d sector
        by_test true same = absurd (none_sent write there (sym (one_entitled (last c.register.chain) session owner row.slot session write.session allowed mine
            (subst (λ (n : ℕ). IsEntitled (last c.register.chain) owner n write.session) (same_slot slot same) entitled)).1))
        by_test false apart = OfLogged block owner slot is_block home small entitled (then_in slot block (other_slot slot apart) inside)

    by_doubt : (other : ℕ) (its : SessionRow) → row_in (last c.register.chain).sessions other ≡ Some its → (b : Bool) → eqb its.slot row.slot ≡ b → begins (with_slot c.slots row.slot is its.slot).activity ≡ true
        → IsSomeAnd (c.doubts other) (IsRecordOf (with_slot c.slots row.slot is its.slot).more)
    by_doubt other its is_its true same begun =
        let e = same_slot its.slot same in
        let here = is_here its.slot e in
        let began : begins is.activity ≡ true = subst (λ (l : Slot). begins l.activity ≡ true) here begun in
        subst (λ (l : Slot). IsSomeAnd (c.doubts other) (IsRecordOf l.more)) (sym here)
        (subst (λ (m : Logged). IsSomeAnd (c.doubts other) (IsRecordOf m)) (ap (λ (n : ℕ). (c.slots n).more) e ∙ sym (same_more began))
        (at.doubted.each other its is_its (ap (λ (n : ℕ). begins (c.slots n).activity) e ∙ sym same_begins ∙ began)))
    by_doubt other its is_its false apart begun =
        let there = slot_there c.slots row.slot its.slot is (other_slot its.slot apart) in
        subst (λ (l : Slot). IsSomeAnd (c.doubts other) (IsRecordOf l.more)) (sym there) (at.doubted.each other its is_its (subst (λ (l : Slot). begins l.activity ≡ true) there begun))

    still_begun : (slot : ℕ) (b : Bool) → eqb slot row.slot ≡ b → begins (c.slots slot).activity ≡ true → begins (with_slot c.slots row.slot is slot).activity ≡ true
    still_begun slot true same begun =
        let e = same_slot slot same in
        ap (λ (l : Slot). begins l.activity) (is_here slot e) ∙ same_begins ∙ ap (λ (n : ℕ). begins (c.slots n).activity) (sym e) ∙ begun
    still_begun slot false apart begun = ap (λ (l : Slot). begins l.activity) (slot_there c.slots row.slot slot is (other_slot slot apart)) ∙ begun

    unshared : (gone by : ℕ) (its : SessionRow) → Contains c.register.proposed (Close gone by) → row_in (last c.register.chain).sessions gone ≡ Some its → its.slot ≢ row.slot
    unshared gone by its there is_its e =
        let same = one_slot (last c.register.chain).sessions gone session its row allowed.own_slots is_its is_row e in
        (at.closings gone by there).dead (subst (λ (n : ℕ). LivesIn (last c.register.chain) n) (sym same) lives)

    pub landed_at : StandsAt g o st Stands Step register_is owners_are store_is x known (with_landed c row.slot later is now) tree
    landed_at = record {
      pasts = at.pasts;
      parts = at.parts;
      labels = at.labels;
      sessions = at.sessions;
      logs = logs;
      rights = record { each = λ other its block is_its inside. at.rights.each other its block is_its (was_in its.slot block (eqb its.slot row.slot) refl inside) };
      writes = record { ends = at.writes.ends; given = at.writes.given; may = λ write d sector content there live to. touch write d sector there (at.writes.may write d sector content there live to) };
      closings = λ gone by there. let was = at.closings gone by there in record {
        given = was.given;
        given_by = was.given_by;
        dead = was.dead;
        entitled = was.entitled;
        closed = λ its live is_its. let shut = was.closed its live is_its in let ne = unshared gone by its there is_its in record {
          none = others its.slot ne ∙ shut.none;
          still = ap (λ (l : Slot). l.activity) (slot_there c.slots row.slot its.slot is ne) ∙ shut.still;
          unwritten = shut.unwritten;
        };
      };
      volume = at.volume;
      doubted = record {
        each = λ other its is_its begun. by_doubt other its is_its (eqb its.slot row.slot) refl begun;
        only = λ other doubt has. let was = at.doubted.only other doubt has in (was.0, was.1, still_begun was.0.slot (eqb was.0.slot row.slot) refl was.2);
      };
    }

  -- ---- by what was written

  -- The body of the record under way.
  pub body_at : (more : Logged) (point : Point) (text : List ℕ) (now : Image) → c.slots row.slot ≡ record { activity = OfLog (works.Body text point); more = more }
      → IsAcknowledged (SureOf g o st Stands Step register_is owners_are store_is x known c) (SureOf g o st Stands Step register_is owners_are store_is x known c) c.before now
      (view_of (st.made store_is).devices row.slot (length (c.logs row.slot)) (works.Body text point)) text
      → StandsAt g o st Stands Step register_is owners_are store_is x known (with_landed c row.slot c.logs (record { activity = OfLog (works.Opens point); more = more }) now) tree
  body_at more point text now was ack = landed_at then_is c.logs now (λ other ne. refl) back (sym (ap (λ (l : Slot). begins l.activity) was)) (λ begun. sym (ap (λ (l : Slot). l.more) was))
      (body_lands (SureOf g o st Stands Step register_is owners_are store_is x known c) (st.made store_is).devices (st.made store_is).areas (last c.register.chain).sessions c.before now c.logs c.slots c.truth row.slot low taken at.logs more point text was ack)
    where
      then_is : Slot
      then_is = record { activity = OfLog (works.Opens point); more = more }

      back : (block : ℕ) → IsInLog c.logs (with_slot c.slots row.slot (record { activity = OfLog (works.Opens point); more = more })) row.slot block → IsInLog c.logs c.slots row.slot block
      back block inside = subst (λ (l : Slot). IsSome (newest_in (c.logs row.slot) block) ⊎ ((begins l.activity ≡ true) × IsSome (block_in l.more.changed block))) (sym was)
          (⊎_elim (λ one. inl one) (λ two. inr (refl, two.1))
          (subst (λ (l : Slot). IsSome (newest_in (c.logs row.slot) block) ⊎ ((begins l.activity ≡ true) × IsSome (block_in l.more.changed block))) (slot_here c.slots row.slot then_is) inside))

  -- a slot where no record is under way has the blocks of its log alone
  only_logged : (is : Slot) (block : ℕ) → begins is.activity ≡ false → IsInLog c.logs (with_slot c.slots row.slot is) row.slot block → IsInLog c.logs c.slots row.slot block
  only_logged is block none inside = ⊎_elim (λ one. inl one) (λ two. absurd (let begun = two.0 in cc))
      (subst (λ (l : Slot). IsSome (newest_in (c.logs row.slot) block) ⊎ ((begins l.activity ≡ true) × IsSome (block_in l.more.changed block))) (slot_here c.slots row.slot is) inside)

  -- The blocks of the log, home.
  pub homes_at : (next : Logged) (now : Image) → (c.slots row.slot).activity ≡ idle → 0 < length (c.logs row.slot)
      → ((s d n : ℕ) → s < 8 → IsIn s n → now d n ≡ c.before d n)
      → ((block i : ℕ) → IsBlock (st.made store_is).areas block → newest_in (c.logs row.slot) block ≡ None → i < 9
      → now (block_place block (st.made store_is).devices).0 ((block_place block (st.made store_is).devices).1 + i) ≡ c.before (block_place block (st.made store_is).devices).0 ((block_place block (st.made store_is).devices).1 + i))
      → IsOverlaidTruth now (st.made store_is).devices (st.made store_is).areas (last c.register.chain).sessions c.logs c.truth
      → AreHomed (SureOf g o st Stands Step register_is owners_are store_is x known c) (st.made store_is).devices (st.made store_is).areas now c.logs row.slot
      → StandsAt g o st Stands Step register_is owners_are store_is x known (with_landed c row.slot c.logs (record { activity = OfLog works.Closes; more = next }) now) tree
  homes_at next now rests some in_slots in_homes is_truth homed = landed_at (record { activity = OfLog works.Closes; more = next }) c.logs now (λ other ne. refl)
      (λ block inside. only_logged (record { activity = OfLog works.Closes; more = next }) block refl inside) (sym (ap begins rests)) (λ begun. absurd (let e = begun in cc))
      (homes_land (SureOf g o st Stands Step register_is owners_are store_is x known c) (st.made store_is).devices (st.made store_is).areas (last c.register.chain).sessions c.before now c.logs c.slots c.truth row.slot low taken at.logs next next rests some in_slots in_homes is_truth homed)

  -- Gate 0, closed: the log has no records.
  pub first_at : (more next : Logged) (now : Image) → c.slots row.slot ≡ record { activity = OfLog works.Closes; more = more }
      → IsAcknowledged (SureOf g o st Stands Step register_is owners_are store_is x known c) (SureOf g o st Stands Step register_is owners_are store_is x known c) c.before now
      (view_of (st.made store_is).devices row.slot (length (c.logs row.slot)) works.Closes) (gate_text Closed)
      → StandsAt g o st Stands Step register_is owners_are store_is x known (with_landed c row.slot (with_log c.logs row.slot []) (record { activity = OfLog works.Shuts; more = next }) now) tree
  first_at more next now was ack = landed_at then_is (with_log c.logs row.slot []) now (λ other ne. log_there c.logs row.slot other [] ne) back
      (sym (ap (λ (l : Slot). begins l.activity) was)) (λ begun. absurd (let e = begun in cc))
      (first_lands (SureOf g o st Stands Step register_is owners_are store_is x known c) (st.made store_is).devices (st.made store_is).areas (last c.register.chain).sessions c.before now c.logs c.slots c.truth row.slot low taken at.logs more next was ack)
    where
      then_is : Slot
      then_is = record { activity = OfLog works.Shuts; more = next }

      none_in : (block : ℕ) → IsSome (newest_in [] block) → ⊥
      none_in block some = cc

      back : (block : ℕ) → IsInLog (with_log c.logs row.slot []) (with_slot c.slots row.slot (record { activity = OfLog works.Shuts; more = next })) row.slot block → IsInLog c.logs c.slots row.slot block
      back block inside = absurd (⊎_elim
          (λ one. none_in block (subst (λ (r : List Logged). IsSome (newest_in r block)) (log_here c.logs row.slot []) one))
          (λ two. let begun : begins then_is.activity ≡ true = subst (λ (l : Slot). begins l.activity ≡ true) (slot_here c.slots row.slot then_is) two.0 in cc)
          inside)

  -- The other gates, closed: the log rests.
  pub others_at : (more next : Logged) (now : Image) → c.slots row.slot ≡ record { activity = OfLog works.Shuts; more = more }
      → IsAcknowledged (SureOf g o st Stands Step register_is owners_are store_is x known c) (SureOf g o st Stands Step register_is owners_are store_is x known c) c.before now
      (view_of (st.made store_is).devices row.slot (length (c.logs row.slot)) works.Shuts) shut_text
      → StandsAt g o st Stands Step register_is owners_are store_is x known (with_landed c row.slot c.logs (record { activity = idle; more = next }) now) tree
  others_at more next now was ack = landed_at (record { activity = idle; more = next }) c.logs now (λ other ne. refl)
      (λ block inside. only_logged (record { activity = idle; more = next }) block refl inside) (sym (ap (λ (l : Slot). begins l.activity) was)) (λ begun. absurd (let e = begun in cc))
      (others_land (SureOf g o st Stands Step register_is owners_are store_is x known c) (st.made store_is).devices (st.made store_is).areas (last c.register.chain).sessions c.before now c.logs c.slots c.truth row.slot low taken at.logs more next was ack)
