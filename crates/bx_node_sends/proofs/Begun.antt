-- A node begins a record: the cluster stands with it under way.
use Rattle.std.proofs.Common.{◌≡◌, ◌≢◌, ◌⊎◌, ⊎_elim, inl, inr, ℕ, ◌<◌, Bool, true, false, eqb, length, Contains, Option, Some, None, IsSome, IsSomeAnd, refl, sym, ◌∙◌, ap, subst, arith}
use Rattle.std.specs.Prelude.{◌==◌, if◌then◌else◌}
use Rattle.std.proofs.lemmas.Bool.Decides.{nat_tests}
use Rattle.bx_base.specs.declared.names.Actor.TheVariants.{Node}
use Rattle.bx_base.specs.declared.names.Mode.TheVariants.{Shared, Exclusive}
use Rattle.bx_disk.specs.Disks.{Disks}
use Rattle.bx_facts.specs.declared.register.Register as register
use Rattle.bx_facts.specs.declared.store.Store as store
use Rattle.bx_facts.specs.Chains.{LivesIn, last, oldest}
use Rattle.bx_facts.specs.Holds.{Hold, is_exclusive}
use Rattle.bx_global.specs.declared.change.Change.TheVariants.{Close}
use Rattle.bx_facts.specs.declared.owners.Owners as owners
use Rattle.bx_places.specs.Places.{IsBlock}
use Rattle.bx_records.specs.Drafts.{Block, block_in}
use Rattle.bx_node_views.specs.bx_redo.specs.declared.work.Work.TheVariants as works
use Rattle.bx_rows.specs.Words.{is_taken, row_in}
use Rattle.bx_rows.specs.declared.session.SessionRow.{SessionRow}
use Rattle.bx_views.specs.Attempts.{Deed, IsHeldDraft}
use Rattle.bx_views.specs.Truths.{Hints, IsTruth, Truth}
use Rattle.bx_volume.specs.Records.{Logged, IsLogged, logged_text, newest_in}
use Rattle.bx_global.specs.Allowed.{IsAllowed, IsSession}
use Rattle.bx_world_chains.proofs.Rows.{all_row, one_slot, taken_of}
use Rattle.bx_node_views.specs.bx_world_logs.specs.Logs.{IsInLog, Slot, OfLog, begins, idle, point_in}
use Rattle.bx_world_views.specs.Views as views
use Rattle.bx_world_views.specs.Views.{Act, Allows, Unacknowledged, IsDraftHeld}
use Rattle.bx_node_views.specs.bx_world_standing.specs.Rights.{HasBlock, MayTouch}
use Rattle.bx_node_views.specs.bx_world_standing.specs.Rights.MayTouch.{OfSlot, OfHeld, OfLogged}
use Rattle.bx_node_views.specs.bx_world_standing.specs.Doubts.{IsRecordOf}
use Rattle.bx_node_views.specs.bx_world_standing.specs.Standing.{Course, Known, StandsAt, SureOf, own_up}
use Rattle.bx_node_logs.proofs.Starts.{record_begins}
use Rattle.bx_node_views.specs.bx_world_logs.proofs.Moving.{slot_here, slot_there, with_slot}
use Rattle.bx_node_views.proofs.Views.{began, owned}

-- the doubts with one more
abbrev pub with_doubt : (ℕ → Option Unacknowledged) → ℕ → Unacknowledged → ℕ → Option Unacknowledged
with_doubt doubts session doubt other = if other == session then Some doubt else doubts other

-- the slot where the body of a record is written
abbrev pub body_slot : Logged → Slot
body_slot more = record { activity = OfLog (works.Body (logged_text more) (point_in more)); more = more }

abbrev pub with_record : Course → ℕ → ℕ → Logged → Unacknowledged → Course
with_record c slot session more doubt = record c { slots = with_slot c.slots slot (body_slot more); doubts = with_doubt c.doubts session doubt }

allows_it : (hold : Option Hold) → Allows hold Exclusive → is_exclusive hold ≡ true
allows_it None allowed = absurd allowed
allows_it (Some (Shared, index)) (inl is) = absurd (let e : Shared ≡ Exclusive = is in cc)
allows_it (Some (Shared, index)) (inr is) = absurd (let e : Shared ≡ Exclusive = is in cc)
allows_it (Some (Exclusive, index)) allowed = refl

module _ {G O S T : Type 0} (g : register.Ghosts G) (o : owners.Ghosts O) (st : store.Ghosts S) (Stands : Truth → Hints → T → Type 0) (Step : T → Deed → T → Type 0)
    (register_is : G) (owners_are : O) (store_is : S) (x : Disks) (known : Known) (c : Course) (tree : T) (node session : ℕ) (row : SessionRow) (more : Logged) (call : ℕ) (act : Act)
    (at : StandsAt g o st Stands Step register_is owners_are store_is x known c tree) where
  pub begun_at : known.clocks.down (Node node) ≡ false → o.own owners_are node ≡ Some session → LivesIn (last c.register.chain) session → row_in (last c.register.chain).sessions session ≡ Some row → IsAllowed (last c.register.chain)
      → (c.slots row.slot).activity ≡ idle → length (c.logs row.slot) < 8
      → IsLogged (st.made store_is).areas more → ((block : ℕ) → IsSome (block_in more.changed block) → IsBlock (st.made store_is).areas block)
      → ((other block : ℕ) → other < 8 → IsInLog c.logs c.slots other block → IsSome (block_in more.changed block) → other ≡ row.slot)
      → IsHeldDraft (known.held node) more.changed
      → ((other : Truth) (then_tree : T) → IsTruth (known.held node) other → Stands other (known.hints node) then_tree → views.Works Stands Step act more.changed other then_tree)
      → IsRecordOf more (record { call = call; act = act; draft = more.changed; held = known.held node; hints = known.hints node })
      → StandsAt g o st Stands Step register_is owners_are store_is x known (with_record c row.slot session more (record { call = call; act = act; draft = more.changed; held = known.held node; hints = known.hints node })) tree
  begun_at up own lives is_row allowed rests room is blocks alone fair gives of_doubt = record {
    pasts = at.pasts;
    parts = at.parts;
    labels = at.labels;
    sessions = at.sessions;
    logs = record_begins (SureOf g o st Stands Step register_is owners_are store_is x known c) (SureOf g o st Stands Step register_is owners_are store_is x known c) (st.made store_is).devices (st.made store_is).areas
        (last c.register.chain).sessions c.before c.logs c.slots c.truth row.slot less taken at.logs more rests is room alone (λ d s content apart sure. sure);
    rights = record { each = λ other its block has inside. by_right other its block has (eqb its.slot row.slot) refl inside };
    writes = record { ends = at.writes.ends; given = at.writes.given; may = λ write d sector content has live to. touch write.session d sector (at.writes.may write d sector content has live to) };
    closings = λ gone by has. let was = at.closings gone by has in record {
      given = was.given;
      given_by = was.given_by;
      dead = was.dead;
      entitled = was.entitled;
      closed = λ its live has_row. let shut = was.closed its live has_row in
          let ne : its.slot ≢ row.slot = λ e. unclosed by (subst (λ (n : ℕ). Contains c.register.proposed (Close n by)) (own_slot gone its has_row e) has) in
          record { none = shut.none; still = ap (λ (l : Slot). l.activity) (slot_there c.slots row.slot its.slot (body_slot more) ne) ∙ shut.still; unwritten = shut.unwritten };
    };
    volume = began Stands Step c.owners.holding _ _ (own_up known.clocks.down (o.own owners_are)) known.held known.hints c.doubts (with_doubt c.doubts session its_doubt) c.truth tree node session call act more.changed at.volume up_own lives
        (record { here = doubt_here; others = λ other ne. doubt_there other ne }) fair gives;
    doubted = record { each = λ other its has is_begun. by_doubt other its has (eqb its.slot row.slot) refl is_begun; only = λ other its_other has. by_only other its_other (eqb other session) refl has };
  }
    where
      less : row.slot < 8
      less = (all_row (IsSession (last c.register.chain).term_end) (last c.register.chain).sessions session row allowed.each_session is_row).slot

      taken : is_taken (last c.register.chain).sessions row.slot ≡ true
      taken = taken_of (last c.register.chain) session row is_row

      own_slot : (other : ℕ) (its : SessionRow) → row_in (last c.register.chain).sessions other ≡ Some its → its.slot ≡ row.slot → other ≡ session
      own_slot other its is_its same = one_slot (last c.register.chain).sessions other session its row allowed.own_slots is_its is_row same

      unclosed : (by : ℕ) → Contains c.register.proposed (Close session by) → ⊥
      unclosed by there = (at.closings session by there).dead lives

      its_doubt : Unacknowledged
      its_doubt = record { call = call; act = act; draft = more.changed; held = known.held node; hints = known.hints node }

      up_own : own_up known.clocks.down (o.own owners_are) node ≡ Some session
      up_own = ap (λ (b : Bool). if b then None else o.own owners_are node) up ∙ own

      doubt_here : with_doubt c.doubts session its_doubt session ≡ Some its_doubt
      doubt_here = let t : (session == session) ≡ true = grind (arith, nat_tests) in ap (λ (b : Bool). if b then Some its_doubt else c.doubts session) t

      doubt_there : (other : ℕ) → other ≢ session → with_doubt c.doubts session its_doubt other ≡ c.doubts other
      doubt_there other ne = let t : (other == session) ≡ false = grind (arith, nat_tests, ne) in ap (λ (b : Bool). if b then Some its_doubt else c.doubts other) t

      its : IsDraftHeld c.owners.holding session more.changed
      its = owned c.owners.holding c.truth session (known.held node) more.changed (at.volume.views node session up_own lives) fair

      same_slot : (slot : ℕ) → eqb slot row.slot ≡ true → slot ≡ row.slot
      same_slot slot same = grind (arith, nat_tests, same)

      other_slot : (slot : ℕ) → eqb slot row.slot ≡ false → slot ≢ row.slot
      other_slot slot apart e = grind (arith, nat_tests, apart, e)

      not_begun : begins idle ≡ true → ⊥
      not_begun e = cc

      was_in : (slot block : ℕ) → slot ≢ row.slot → IsInLog c.logs (with_slot c.slots row.slot (body_slot more)) slot block → IsInLog c.logs c.slots slot block
      was_in slot block ne inside = subst (λ (l : Slot). IsSome (newest_in (c.logs slot) block) ⊎ ((begins l.activity ≡ true) × IsSome (block_in l.more.changed block))) (slot_there c.slots row.slot slot (body_slot more) ne) inside

      then_in : (slot block : ℕ) → IsInLog c.logs c.slots slot block → IsInLog c.logs (with_slot c.slots row.slot (body_slot more)) slot block
      then_in slot block (inl old) = inl old
      then_in slot block (inr new) = by_test (eqb slot row.slot) refl
        where
          by_test : (b : Bool) → eqb slot row.slot ≡ b → IsInLog c.logs (with_slot c.slots row.slot (body_slot more)) slot block
          by_test true same = absurd (not_begun (sym (ap (λ (w : Slot). begins w.activity) (ap (λ (n : ℕ). c.slots n) (same_slot slot same)) ∙ ap begins rests) ∙ new.0))
          by_test false apart = subst (λ (l : Slot). IsSome (newest_in (c.logs slot) block) ⊎ ((begins l.activity ≡ true) × IsSome (block_in l.more.changed block))) (sym (slot_there c.slots row.slot slot (body_slot more) (other_slot slot apart))) (inr new)

      touch : (other d sector : ℕ) → MayTouch (st.made store_is).devices (st.made store_is).areas (last c.register.chain) c.owners.holding c.logs c.slots other d sector
          → MayTouch (st.made store_is).devices (st.made store_is).areas (last c.register.chain) c.owners.holding c.logs (with_slot c.slots row.slot (body_slot more)) other d sector
      touch other d sector (OfSlot owner slot small entitled in_slot) = OfSlot owner slot small entitled in_slot
      touch other d sector (OfHeld block is_block home mine) = OfHeld block is_block home mine
      touch other d sector (OfLogged block owner slot is_block home small entitled inside) = OfLogged block owner slot is_block home small entitled (then_in slot block inside)

      some_block : (block : ℕ) (found : Option Block) → block_in more.changed block ≡ found → IsSome found → Allows (c.owners.holding session block) Exclusive
      some_block block None e some = absurd cc
      some_block block (Some one) e some = its.each block one e

      by_right : (other : ℕ) (its_row : SessionRow) (block : ℕ) → row_in (last c.register.chain).sessions other ≡ Some its_row → (b : Bool) → eqb its_row.slot row.slot ≡ b
          → IsInLog c.logs (with_slot c.slots row.slot (body_slot more)) its_row.slot block → IsBlock (st.made store_is).areas block × HasBlock c.owners.holding (oldest c.register.chain) other block
      by_right other its_row block has false apart inside = at.rights.each other its_row block has (was_in its_row.slot block (other_slot its_row.slot apart) inside)
      by_right other its_row block has true same inside =
          let e = same_slot its_row.slot same in
          ⊎_elim (λ old. at.rights.each other its_row block has (inl old))
          (λ new. (blocks block new.1, inl (ap (λ (n : ℕ). is_exclusive (c.owners.holding n block)) (own_slot other its_row has e) ∙ allows_it (c.owners.holding session block) (some_block block (block_in more.changed block) refl new.1))))
          (subst (λ (l : Slot). IsSome (newest_in (c.logs its_row.slot) block) ⊎ ((begins l.activity ≡ true) × IsSome (block_in l.more.changed block)))
          (ap (λ (n : ℕ). with_slot c.slots row.slot (body_slot more) n) e ∙ slot_here c.slots row.slot (body_slot more)) inside)

      by_doubt : (other : ℕ) (its_row : SessionRow) → row_in (last c.register.chain).sessions other ≡ Some its_row → (b : Bool) → eqb its_row.slot row.slot ≡ b → begins (with_slot c.slots row.slot (body_slot more) its_row.slot).activity ≡ true
          → IsSomeAnd (with_doubt c.doubts session its_doubt other) (IsRecordOf (with_slot c.slots row.slot (body_slot more) its_row.slot).more)
      by_doubt other its_row has true same is_begun =
          let e = same_slot its_row.slot same in
          subst (λ (n : ℕ). IsSomeAnd (with_doubt c.doubts session its_doubt n) (IsRecordOf (with_slot c.slots row.slot (body_slot more) its_row.slot).more)) (sym (own_slot other its_row has e))
          (subst (λ (l : Slot). IsSomeAnd (with_doubt c.doubts session its_doubt session) (IsRecordOf l.more)) (sym (ap (λ (n : ℕ). with_slot c.slots row.slot (body_slot more) n) e ∙ slot_here c.slots row.slot (body_slot more)))
          (subst (λ (found : Option Unacknowledged). IsSomeAnd found (IsRecordOf more)) (sym doubt_here) of_doubt))
      by_doubt other its_row has false apart is_begun =
          let ne = other_slot its_row.slot apart in
          let e = slot_there c.slots row.slot its_row.slot (body_slot more) ne in
          let other_one : other ≢ session = λ f. ne (slots_of its_row row (subst (λ (n : ℕ). row_in (last c.register.chain).sessions n ≡ Some its_row) f has) is_row) in
          subst (λ (l : Slot). IsSomeAnd (with_doubt c.doubts session its_doubt other) (IsRecordOf l.more)) (sym e)
          (subst (λ (found : Option Unacknowledged). IsSomeAnd found (IsRecordOf (c.slots its_row.slot).more)) (sym (doubt_there other other_one))
          (at.doubted.each other its_row has (subst (λ (l : Slot). begins l.activity ≡ true) e is_begun)))
        where
          slots_of : (a b : SessionRow) → row_in (last c.register.chain).sessions session ≡ Some a → row_in (last c.register.chain).sessions session ≡ Some b → a.slot ≡ b.slot
          slots_of a b one two = let e : a ≡ b = cc in ap (λ (r : SessionRow). r.slot) e

      by_only : (other : ℕ) (found : Unacknowledged) (b : Bool) → eqb other session ≡ b → with_doubt c.doubts session its_doubt other ≡ Some found
          → (its_row : SessionRow) × (row_in (last c.register.chain).sessions other ≡ Some its_row) × (begins (with_slot c.slots row.slot (body_slot more) its_row.slot).activity ≡ true)
      by_only other found true same has =
          let e : other ≡ session = grind (arith, nat_tests, same) in
          (row, ap (λ (n : ℕ). row_in (last c.register.chain).sessions n) e ∙ is_row, ap (λ (l : Slot). begins l.activity) (slot_here c.slots row.slot (body_slot more)))
      by_only other found false differ has =
          let ne : other ≢ session = λ e. grind (arith, nat_tests, differ, e) in
          let was = at.doubted.only other found (sym (doubt_there other ne) ∙ has) in
          (was.0, was.1, ap (λ (l : Slot). begins l.activity) (slot_there c.slots row.slot was.0.slot (body_slot more) (λ e. ne (own_slot other was.0 was.1 e))) ∙ was.2)
