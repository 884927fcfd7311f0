-- The gate of a record is acknowledged: the cluster stands for the tree that it leads to.
use Rattle.std.proofs.Common.{◌≡◌, ◌≢◌, ◌⊎◌, ⊎_elim, inl, inr, ℕ, ◌<◌, Bool, true, false, eqb, List, ◌∷◌, length, Contains, Option, Some, None, IsSome, IsSomeAnd, refl, sym, ◌∙◌, ap, subst, arith}
use Rattle.std.specs.Prelude.{if◌then◌else◌}
use Rattle.std.proofs.lemmas.Bool.Decides.{nat_tests}
use Rattle.bx_base.specs.declared.names.Actor.TheVariants.{Node}
use Rattle.bx_base.specs.declared.names.Point.{Point}
use Rattle.bx_disk.specs.Disks.{Disks, Image}
use Rattle.bx_facts.specs.declared.register.Register as register
use Rattle.bx_facts.specs.declared.store.Store as store
use Rattle.bx_facts.specs.Chains.{HasRow, LivesIn, last}
use Rattle.bx_global.specs.declared.change.Change.TheVariants.{Close}
use Rattle.bx_layout.specs.Labels.{gate_text}
use Rattle.bx_layout.specs.declared.gate.Gate.TheVariants.{Open}
use Rattle.bx_facts.specs.declared.owners.Owners as owners
use Rattle.bx_records.specs.Drafts.{Block, Changed, block_in}
use Rattle.bx_redo.specs.Stands.{IsAcknowledged}
use Rattle.bx_redo.specs.declared.work.Work.TheVariants as works
use Rattle.bx_rows.specs.Words.{is_taken, row_in}
use Rattle.bx_rows.specs.declared.session.SessionRow.{SessionRow}
use Rattle.bx_views.specs.Attempts.{Deed}
use Rattle.bx_views.specs.Truths.{Held, Hints, Truth, with_draft}
use Rattle.bx_volume.specs.Overlay.{with_log}
use Rattle.bx_volume.specs.Records.{Logged, newest_in, or_older}
use Rattle.bx_volume.proofs.Overlay.{log_here, log_there}
use Rattle.bx_global.specs.Allowed.{IsAllowed, IsSession}
use Rattle.bx_world_chains.proofs.Rows.{all_row, one_slot, taken_of}
use Rattle.bx_world_standing.specs.bx_world_logs.specs.Logs.{IsInLog, Slot, OfLog, begins, idle, view_of}
use Rattle.bx_world_views.specs.Views.{Unacknowledged, ShowsDraft, StepOf, VolumeStands}
use Rattle.bx_world_standing.specs.Rights.{MayTouch}
use Rattle.bx_world_standing.specs.Rights.MayTouch.{OfSlot, OfHeld, OfLogged}
use Rattle.bx_world_standing.specs.Doubts.{IsRecordOf}
use Rattle.bx_world_standing.specs.Standing.{Course, Known, StandsAt, SureOf, own_up}
use Rattle.bx_world_standing.specs.bx_world_logs.proofs.Moving.{slot_here, slot_there, with_slot}
use Rattle.bx_node_logs.proofs.Steps.{gate_lands}
use Rattle.bx_world_views.proofs.Doubts.{without_doubt, without_only}
use Rattle.bx_world_views.proofs.Steps.{acked, some_is}

-- the slot at rest
abbrev pub rest_slot : Logged → Slot
rest_slot next = record { activity = idle; more = next }

-- the course once the record is one of the log
abbrev pub with_acked : Course → ℕ → ℕ → Logged → Logged → Image → Course
with_acked c slot session more next now = record c {
  before = now;
  logs = with_log c.logs slot (more ∷ c.logs slot);
  slots = with_slot c.slots slot (rest_slot next);
  truth = with_draft c.truth more.changed;
  doubts = without_doubt c.doubts session;
}

newer_some : (o p : Option Block) → IsSome o → IsSome (or_older o p)
newer_some None p some = absurd cc
newer_some (Some b) p some = refl

older_some : (o p : Option Block) → IsSome p → IsSome (or_older o p)
older_some None p some = some
older_some (Some b) p some = refl

either : (o p : Option Block) → IsSome (or_older o p) → IsSome o ⊎ IsSome p
either None p some = inr some
either (Some b) p some = inl refl

module _ {G O S T : Type 0} (g : register.Ghosts G) (o : owners.Ghosts O) (st : store.Ghosts S) (Stands : Truth → Hints → T → Type 0) (Step : T → Deed → T → Type 0)
    (register_is : G) (owners_are : O) (store_is : S) (x : Disks) (known : Known) (c : Course) (tree : T) (node session : ℕ) (row : SessionRow) (more next : Logged) (point : Point) (doubt : Unacknowledged) (now : Image) (held : ℕ → Held)
    (at : StandsAt g o st Stands Step register_is owners_are store_is x known c tree) where
  pub acked_at : known.clocks.down (Node node) ≡ false → o.own owners_are node ≡ Some session → LivesIn (last c.register.chain) session → row_in (last c.register.chain).sessions session ≡ Some row → IsAllowed (last c.register.chain)
      → c.slots row.slot ≡ record { activity = OfLog (works.Opens point); more = more } → c.doubts session ≡ Some doubt
      → IsAcknowledged (SureOf g o st Stands Step register_is owners_are store_is x known c) (SureOf g o st Stands Step register_is owners_are store_is x known c) c.before now
      (view_of (st.made store_is).devices row.slot (length (c.logs row.slot)) (works.Opens point)) (gate_text Open)
      → ((other : ℕ) → other ≢ node → held other ≡ known.held other) → ShowsDraft doubt.draft (known.held node) (held node)
      → (next_tree : T) × StepOf Stands Step doubt.act tree next_tree × StandsAt g o st Stands Step register_is owners_are store_is x (record known { held = held }) (with_acked c row.slot session more next now) next_tree
  acked_at up own lives is_row allowed opening has ack others lays = (
    done.0,
    done.1,
    record {
      pasts = at.pasts;
      parts = at.parts;
      labels = at.labels;
      sessions = at.sessions;
      logs = gate_lands (SureOf g o st Stands Step register_is owners_are store_is x known c) (st.made store_is).devices (st.made store_is).areas (last c.register.chain).sessions c.before now c.logs c.slots c.truth row.slot less taken at.logs more point next opening ack;
      rights = record { each = λ other its block is_its inside. at.rights.each other its block is_its (was_in its.slot block (eqb its.slot row.slot) refl inside) };
      writes = record { ends = at.writes.ends; given = at.writes.given; may = λ write d sector content there live to. touch write.session d sector (at.writes.may write d sector content there live to) };
      closings = λ gone by there. let was = at.closings gone by there in record {
        given = was.given;
        given_by = was.given_by;
        dead = was.dead;
        entitled = was.entitled;
        closed = λ its live has_row. let shut = was.closed its live has_row in
            let ne : its.slot ≢ row.slot = λ e. unclosed by (subst (λ (n : ℕ). Contains c.register.proposed (Close n by)) (own_slot gone its has_row e) there) in
            record {
              none = log_there c.logs row.slot its.slot (more ∷ c.logs row.slot) ne ∙ shut.none;
              still = ap (λ (l : Slot). l.activity) (slot_there c.slots row.slot its.slot (rest_slot next) ne) ∙ shut.still;
              unwritten = shut.unwritten;
            };
      };
      volume = subst (λ (d : List Changed). VolumeStands Stands Step c.owners.holding (HasRow (last c.register.chain)) (LivesIn (last c.register.chain)) (own_up known.clocks.down (o.own owners_are)) held known.hints (without_doubt c.doubts session) (with_draft c.truth d) done.0) drafts done.2;
      doubted = record {
        each = λ other its is_its is_begun. by_doubt other its is_its (eqb its.slot row.slot) refl is_begun;
        only = λ other found is. by_only other found (eqb other session) refl is;
      };
    },
  )
    where
      less : row.slot < 8
      less = (all_row (IsSession (last c.register.chain).term_end) (last c.register.chain).sessions session row allowed.each_session is_row).slot

      taken : is_taken (last c.register.chain).sessions row.slot ≡ true
      taken = taken_of (last c.register.chain) session row is_row

      own_slot : (other : ℕ) (its : SessionRow) → row_in (last c.register.chain).sessions other ≡ Some its → its.slot ≡ row.slot → other ≡ session
      own_slot other its is_its same = one_slot (last c.register.chain).sessions other session its row allowed.own_slots is_its is_row same

      unclosed : (by : ℕ) → Contains c.register.proposed (Close session by) → ⊥
      unclosed by there = (at.closings session by there).dead lives

      of_doubt : IsRecordOf more doubt
      of_doubt = subst (λ (l : Slot). IsRecordOf l.more doubt) opening
          (subst (λ (found : Option Unacknowledged). IsSomeAnd found (IsRecordOf (c.slots row.slot).more)) has (at.doubted.each session row is_row (ap (λ (l : Slot). begins l.activity) opening)))

      drafts : doubt.draft ≡ more.changed
      drafts = sym of_doubt.draft

      up_own : own_up known.clocks.down (o.own owners_are) node ≡ Some session
      up_own = ap (λ (b : Bool). if b then None else o.own owners_are node) up ∙ own

      done : (next_tree : T) × StepOf Stands Step doubt.act tree next_tree
          × VolumeStands Stands Step c.owners.holding (HasRow (last c.register.chain)) (LivesIn (last c.register.chain)) (own_up known.clocks.down (o.own owners_are)) held known.hints (without_doubt c.doubts session) (with_draft c.truth doubt.draft) next_tree
      done = acked Stands Step c.owners.holding (HasRow (last c.register.chain)) (LivesIn (last c.register.chain)) (own_up known.clocks.down (o.own owners_are)) known.held held known.hints c.doubts (without_doubt c.doubts session) c.truth tree session doubt
          at.volume has (without_only c.doubts session)
          (λ n other is_own live ne. others n (λ e. ne (some_is other session (own_up known.clocks.down (o.own owners_are) node) (subst (λ (k : ℕ). own_up known.clocks.down (o.own owners_are) k ≡ Some other) e is_own) up_own)))
          (λ n is_own live. let e = at.volume.single node n session up_own is_own lives in
          subst (λ (k : ℕ). ShowsDraft doubt.draft (known.held k) (held k)) (sym e) lays)

      same_slot : (slot : ℕ) → eqb slot row.slot ≡ true → slot ≡ row.slot
      same_slot slot same = grind (arith, nat_tests, same)

      other_slot : (slot : ℕ) → eqb slot row.slot ≡ false → slot ≢ row.slot
      other_slot slot apart e = grind (arith, nat_tests, apart, e)

      not_begun : begins idle ≡ true → ⊥
      not_begun e = cc

      here : with_log c.logs row.slot (more ∷ c.logs row.slot) row.slot ≡ more ∷ c.logs row.slot
      here = log_here c.logs row.slot (more ∷ c.logs row.slot)

      Old : ℕ → ℕ → Type 0
      Old slot block = IsInLog c.logs c.slots slot block

      New : ℕ → ℕ → Type 0
      New slot block = IsInLog (with_log c.logs row.slot (more ∷ c.logs row.slot)) (with_slot c.slots row.slot (rest_slot next)) slot block

      here_old : (block : ℕ) → IsSome (newest_in (c.logs row.slot) block) ⊎ IsSome (block_in more.changed block) → IsInLog c.logs c.slots row.slot block
      here_old block (inl old) = inl old
      here_old block (inr new) = inr (ap (λ (l : Slot). begins l.activity) opening, subst (λ (l : Slot). IsSome (block_in l.more.changed block)) (sym opening) new)

      was_in : (slot block : ℕ) (b : Bool) → eqb slot row.slot ≡ b → IsInLog (with_log c.logs row.slot (more ∷ c.logs row.slot)) (with_slot c.slots row.slot (rest_slot next)) slot block → IsInLog c.logs c.slots slot block
      was_in slot block true same inside =
          let e = same_slot slot same in
          let mine = subst (λ (n : ℕ). IsInLog (with_log c.logs row.slot (more ∷ c.logs row.slot)) (with_slot c.slots row.slot (rest_slot next)) n block) e inside in
          subst (λ (n : ℕ). IsInLog c.logs c.slots n block) (sym e)
          (⊎_elim
          (λ one. here_old block (⊎_elim (λ new. inr new) (λ old. inl old) (either (block_in more.changed block) (newest_in (c.logs row.slot) block) (subst (λ (r : List Logged). IsSome (newest_in r block)) here one))))
          (λ two. absurd (not_begun (sym (ap (λ (l : Slot). begins l.activity) (slot_here c.slots row.slot (rest_slot next))) ∙ two.0)))
          mine)
      was_in slot block false apart inside =
          let ne = other_slot slot apart in
          subst (λ (l : Slot). IsSome (newest_in (c.logs slot) block) ⊎ ((begins l.activity ≡ true) × IsSome (block_in l.more.changed block))) (slot_there c.slots row.slot slot (rest_slot next) ne)
          (subst (λ (r : List Logged). IsSome (newest_in r block) ⊎ ((begins (with_slot c.slots row.slot (rest_slot next) slot).activity ≡ true) × IsSome (block_in (with_slot c.slots row.slot (rest_slot next) slot).more.changed block)))
          (log_there c.logs row.slot slot (more ∷ c.logs row.slot) ne) inside)

      then_in : (slot block : ℕ) (b : Bool) → eqb slot row.slot ≡ b → IsInLog c.logs c.slots slot block → IsInLog (with_log c.logs row.slot (more ∷ c.logs row.slot)) (with_slot c.slots row.slot (rest_slot next)) slot block
      then_in slot block true same inside =
          let e = same_slot slot same in
          let mine = subst (λ (n : ℕ). IsInLog c.logs c.slots n block) e inside in
          let newest = ⊎_elim
          (λ old. older_some (block_in more.changed block) (newest_in (c.logs row.slot) block) old)
          (λ new. newer_some (block_in more.changed block) (newest_in (c.logs row.slot) block) (subst (λ (l : Slot). IsSome (block_in l.more.changed block)) opening new.1))
          mine in
          subst (λ (n : ℕ). IsInLog (with_log c.logs row.slot (more ∷ c.logs row.slot)) (with_slot c.slots row.slot (rest_slot next)) n block) (sym e)
          (inl (subst (λ (r : List Logged). IsSome (newest_in r block)) (sym here) newest))
      then_in slot block false apart inside =
          let ne = other_slot slot apart in
          subst (λ (r : List Logged). IsSome (newest_in r block) ⊎ ((begins (with_slot c.slots row.slot (rest_slot next) slot).activity ≡ true) × IsSome (block_in (with_slot c.slots row.slot (rest_slot next) slot).more.changed block)))
          (sym (log_there c.logs row.slot slot (more ∷ c.logs row.slot) ne))
          (subst (λ (l : Slot). IsSome (newest_in (c.logs slot) block) ⊎ ((begins l.activity ≡ true) × IsSome (block_in l.more.changed block))) (sym (slot_there c.slots row.slot slot (rest_slot next) ne)) inside)

      touch : (other d sector : ℕ) → MayTouch (st.made store_is).devices (st.made store_is).areas (last c.register.chain) c.owners.holding c.logs c.slots other d sector
          → MayTouch (st.made store_is).devices (st.made store_is).areas (last c.register.chain) c.owners.holding (with_log c.logs row.slot (more ∷ c.logs row.slot)) (with_slot c.slots row.slot (rest_slot next)) other d sector
      touch other d sector (OfSlot owner slot small entitled in_slot) = OfSlot owner slot small entitled in_slot
      touch other d sector (OfHeld block is_block home mine) = OfHeld block is_block home mine
      touch other d sector (OfLogged block owner slot is_block home small entitled inside) = OfLogged block owner slot is_block home small entitled (then_in slot block (eqb slot row.slot) refl inside)

      slots_of : (a b : SessionRow) → row_in (last c.register.chain).sessions session ≡ Some a → row_in (last c.register.chain).sessions session ≡ Some b → a.slot ≡ b.slot
      slots_of a b one two = let e : a ≡ b = cc in ap (λ (r : SessionRow). r.slot) e

      by_doubt : (other : ℕ) (its_row : SessionRow) → row_in (last c.register.chain).sessions other ≡ Some its_row → (b : Bool) → eqb its_row.slot row.slot ≡ b → begins (with_slot c.slots row.slot (rest_slot next) its_row.slot).activity ≡ true
          → IsSomeAnd (without_doubt c.doubts session other) (IsRecordOf (with_slot c.slots row.slot (rest_slot next) its_row.slot).more)
      by_doubt other its_row is_its true same is_begun =
          absurd (not_begun (subst (λ (l : Slot). begins l.activity ≡ true) (ap (λ (n : ℕ). with_slot c.slots row.slot (rest_slot next) n) (same_slot its_row.slot same) ∙ slot_here c.slots row.slot (rest_slot next)) is_begun))
      by_doubt other its_row is_its false apart is_begun =
          let ne = other_slot its_row.slot apart in
          let e = slot_there c.slots row.slot its_row.slot (rest_slot next) ne in
          let other_one : other ≢ session = λ f. ne (slots_of its_row row (subst (λ (n : ℕ). row_in (last c.register.chain).sessions n ≡ Some its_row) f is_its) is_row) in
          subst (λ (l : Slot). IsSomeAnd (without_doubt c.doubts session other) (IsRecordOf l.more)) (sym e)
          (subst (λ (found : Option Unacknowledged). IsSomeAnd found (IsRecordOf (c.slots its_row.slot).more)) (sym ((without_only c.doubts session).others other other_one))
          (at.doubted.each other its_row is_its (subst (λ (l : Slot). begins l.activity ≡ true) e is_begun)))

      by_only : (other : ℕ) (found : Unacknowledged) (b : Bool) → eqb other session ≡ b → without_doubt c.doubts session other ≡ Some found
          → (its_row : SessionRow) × (row_in (last c.register.chain).sessions other ≡ Some its_row) × (begins (with_slot c.slots row.slot (rest_slot next) its_row.slot).activity ≡ true)
      by_only other found true same is =
          let e : other ≡ session = grind (arith, nat_tests, same) in
          absurd (let wrong : None ≡ Some found = sym (without_only c.doubts session).here ∙ ap (λ (n : ℕ). without_doubt c.doubts session n) (sym e) ∙ is in cc)
      by_only other found false differ is =
          let ne : other ≢ session = λ e. grind (arith, nat_tests, differ, e) in
          let was = at.doubted.only other found (sym ((without_only c.doubts session).others other ne) ∙ is) in
          (was.0, was.1, ap (λ (l : Slot). begins l.activity) (slot_there c.slots row.slot was.0.slot (rest_slot next) (λ e. ne (own_slot other was.0 was.1 e))) ∙ was.2)
