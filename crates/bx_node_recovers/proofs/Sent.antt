-- A recovery sends a write: the whole stands with it.
use Rattle.std.proofs.Common.{◌≡◌, ◌≢◌, ◌⊎◌, ⊎_elim, inl, ◌∙◌, ℕ, ◌+◌, ◌-◌, ◌<◌, ◌≤◌, true, false, List, ◌∷◌, Contains, length, Some, sym, ap, subst, arith}
use Rattle.bx_base.specs.declared.names.Actor.TheVariants.{Node}
use Rattle.bx_disk.specs.Disks.{Disks, sector_of}
use Rattle.bx_facts.specs.declared.register.Register as register
use Rattle.bx_facts.specs.declared.store.Store as store
use Rattle.bx_facts.specs.Chains.{last}
use Rattle.bx_facts.specs.Writes.{IsOnly, Sent, Writes, WritesIn, WritesTo}
use Rattle.bx_facts.proofs.Lists.{front_or_behind}
use Rattle.bx_global.specs.Allowed.{IsAllowed, IsSession}
use Rattle.bx_global.specs.declared.change.Change.TheVariants.{Close}
use Rattle.bx_facts.specs.declared.owners.Owners as owners
use Rattle.bx_places.specs.Places.{gate_place, log_device, log_start}
use Rattle.bx_post.specs.declared.packets.Letter.{Letter}
use Rattle.bx_records.specs.declared.runs.Run.{Run}
use Rattle.bx_redo.specs.Homes.{AreItsHomes}
use Rattle.bx_redo.specs.Stands.{is_written}
use Rattle.bx_redo.specs.Steps.{one_run, writes}
use Rattle.bx_redo.specs.declared.work.Work.{Work}
use Rattle.bx_redo.specs.declared.work.Work.TheVariants as works
use Rattle.bx_redo.proofs.Stored.{its_sectors, only_one}
use Rattle.bx_redo.proofs.Within.{within_is}
use Rattle.bx_rows.specs.Words.{is_taken, row_in}
use Rattle.bx_rows.specs.declared.session.SessionRow.{SessionRow}
use Rattle.bx_views.specs.Attempts.{Deed}
use Rattle.bx_views.specs.Truths.{Hints, Truth}
use Rattle.bx_world_chains.specs.Entitled.{IsEntitled}
use Rattle.bx_world_chains.proofs.Rows.{all_row, taken_of}
use Rattle.bx_world_logs.specs.Logs.{Activity, Found, LogsStand, OfLog, view_of, writes_in}
use Rattle.bx_world_standing.specs.Rights.{IsOfSlot, IsWithin, Surely}
use Rattle.bx_world_standing.specs.Sessions.{IsOfNode}
use Rattle.bx_world_standing.specs.Standing.{Course, Known, StandsAt, SureOf}
use Rattle.bx_node_closings.proofs.Sends.{sends}
use Rattle.bx_node_events.proofs.Homing.{apart_slot}
use Rattle.bx_node_sends.proofs.Sent.{sent_at, surely_on, with_write}
use Rattle.bx_node_recovers.proofs.Sending.{homes_sent, homes_touch, slot_touches, unclosed}

-- what a write of gates brings to a sector
record Brings (devices slot : ℕ) (gates : List ℕ) (d s : ℕ) (content : List ℕ) : Type 0 where
  gate : ℕ
  low : gate < 8
  device : d ≡ log_device slot devices
  place : s ≡ log_start slot + gate
  is : content ≡ sector_of gates gate

brings : (devices slot : ℕ) (gates : List ℕ) → length gates ≡ 4096 → (write : Sent) → write.runs ≡ (one_run 18 (gate_place slot 0 devices) gates).1 → (d s : ℕ) (content : List ℕ) → WritesTo write d s content → Brings devices slot gates d s content
brings devices slot gates long write runs_are d s content (run, there, w) =
    let one : Run = record { device = log_device slot devices; place = log_start slot + 0; bytes = gates } in
    let same = only_one one run (subst (λ (runs : List Run). Contains runs run) runs_are there) in
    let mine : Writes one d s content = subst (λ (r : Run). Writes r d s content) (sym same) w in
    let from = mine.from in
    let below = mine.below in
    record {
      gate = s - (log_start slot + 0);
      low = omega (arith, from, below, long);
      device = sym mine.on;
      place = omega (arith, from);
      is = sym mine.is;
    }

module _ {G O S T : Type 0} (g : register.Ghosts G) (o : owners.Ghosts O) (st : store.Ghosts S) (Stands : Truth → Hints → T → Type 0) (Step : T → Deed → T → Type 0)
    (register_is : G) (owners_are : O) (old new : S) (x : Disks) (known : Known) (c : Course) (tree : T) (letters : List Letter) (node session : ℕ) (write : Sent)
    (at : StandsAt g o st Stands Step register_is owners_are old x known c tree)
    (gone slot : ℕ) (allowed : IsAllowed (last c.register.chain)) (entitled : IsEntitled (last c.register.chain) gone slot session)
    (unproposed : Contains c.register.proposed (Close gone session) → ⊥)
    (goes : (d s : ℕ) (content : List ℕ) (index : ℕ) → IsOnly (write ∷ c.store.writes) c.store.told.greatest d s content → st.stands old x c.store d s content index → st.stands new x (with_write c letters write).store d s content index) where
  -- what stands so once it is sent
  abbrev pub SureThen : ℕ → ℕ → List ℕ → Type 0
  SureThen = Surely (st.stands new x (with_write c letters write).store)
      (IsWithin (st.made old).devices (st.made old).areas c.register.chain c.owners.holding c.owners.floor (IsOfNode o.by_boot known.clocks) (λ n. c.store.told.knew (Node n)))
      (write ∷ c.store.writes) c.store.told.greatest

  low : slot < 8
  low = subst (λ (n : ℕ). n < 8) entitled.at ((all_row (IsSession (last c.register.chain).term_end) (last c.register.chain).sessions gone entitled.row allowed.each_session entitled.is).slot)

  taken : is_taken (last c.register.chain).sessions slot ≡ true
  taken = subst (λ (n : ℕ). is_taken (last c.register.chain).sessions n ≡ true) entitled.at (taken_of (last c.register.chain) gone entitled.row entitled.is)

  -- what the write brings is what stood there
  same_on : (d s : ℕ) (content : List ℕ) → ((other : List ℕ) → WritesTo write d s other → other ≡ content) → SureOf g o st Stands Step register_is owners_are old x known c d s content → SureThen d s content
  same_on d s content same sure = record { index = sure.index; is = goes d s content sure.index only sure.is; only = only; within = sure.within }
    where
      only : IsOnly (write ∷ c.store.writes) c.store.told.greatest d s content
      only = record {
        each = λ one other has to. ⊎_elim
            (λ front. inl (same other (subst (λ (w : Sent). WritesTo w d s other) (sym front) to)))
            (λ before. sure.only.each one other before to)
            (front_or_behind write c.store.writes one has);
      }

  -- What a store and the other parts say of the write that they were handed.
  pub record IsHanded : Type 0 where
    pub up : known.clocks.down (Node node) ≡ false
    pub own : st.own old node ≡ Some session
    pub whose : write.session ≡ session
    pub register_keeps : g.keeps register_is x (with_write c letters write).register
    pub owners_keep : o.keeps owners_are (with_write c letters write).owners
    pub store_keeps : st.keeps new x (with_write c letters write).store
    pub made : st.made new ≡ st.made old
    pub same_own : (other : ℕ) → st.own new other ≡ st.own old other
    pub end : (end : ℕ) × Contains c.owners.leases (session, end) × (write.until ≤ end)
    pub opened : session < (last c.register.chain).next_session

  module _ (handed : IsHanded) where
    -- A write into the slot, which leaves the logs standing.
    pub slot_sent_at : ((d s : ℕ) (content : List ℕ) → WritesTo write d s content → IsOfSlot (st.made old).devices slot d s)
        → LogsStand SureThen (st.made old).devices (st.made old).areas (last c.register.chain).sessions c.before c.logs c.slots c.truth
        → StandsAt g o st Stands Step register_is owners_are new x (record known { letters = letters }) (with_write c letters write) tree
    slot_sent_at inside logs =
        sent_at g o st Stands Step register_is owners_are old new x known c tree letters node session write at handed.up handed.own entitled.lives handed.whose handed.register_keeps handed.owners_keep handed.store_keeps handed.made handed.same_own
        handed.end handed.opened
        (λ d s content w. slot_touches (st.made old).devices (st.made old).areas (last c.register.chain) c.owners.holding c.logs c.slots gone session slot low entitled d s (inside d s content w))
        (λ who d s row content there is w in_row. unclosed (st.made old).devices (st.made old).areas (last c.register.chain) c.owners.holding c.logs c.slots gone session slot low entitled c.register.proposed allowed unproposed who d s row there is (inside d s content w) in_row)
        logs

    -- The gates, written back as they were read, but for those that are being written.
    pub gates_sent_at : (gates : List ℕ) → length gates ≡ 4096 → write.runs ≡ (one_run 18 (gate_place slot 0 (st.made old).devices) gates).1
        → ((gate : ℕ) (content : List ℕ) → gate < 8 → writes_in (st.made old).devices slot (length (c.logs slot)) (c.slots slot).activity (gate_place slot gate (st.made old).devices).0 (gate_place slot gate (st.made old).devices).1 ≡ false
        → SureOf g o st Stands Step register_is owners_are old x known c (gate_place slot gate (st.made old).devices).0 (gate_place slot gate (st.made old).devices).1 content → sector_of gates gate ≡ content)
        → StandsAt g o st Stands Step register_is owners_are new x (record known { letters = letters }) (with_write c letters write) tree
    gates_sent_at gates long runs_are as_read = slot_sent_at inside
        (sends (SureOf g o st Stands Step register_is owners_are old x known c) SureThen (st.made old).devices (st.made old).areas (last c.register.chain).sessions c.before c.logs c.slots c.truth slot low taken at.logs keeps)
      where
        brought : (d s : ℕ) (content : List ℕ) → WritesTo write d s content → Brings (st.made old).devices slot gates d s content
        brought = brings (st.made old).devices slot gates long write runs_are

        inside : (d s : ℕ) (content : List ℕ) → WritesTo write d s content → IsOfSlot (st.made old).devices slot d s
        inside d s content w = let b = brought d s content w in let place = b.place in let few = b.low in record { device = b.device; from = omega (arith, place); to = omega (arith, place, few) }

        keeps : (d s : ℕ) (content : List ℕ) → writes_in (st.made old).devices slot (length (c.logs slot)) (c.slots slot).activity d s ≡ false → SureOf g o st Stands Step register_is owners_are old x known c d s content → SureThen d s content
        keeps d s content apart sure = same_on d s content
            (λ other w. let b = brought d s other w in
            b.is ∙ as_read b.gate content b.low
            (subst (λ (n : ℕ). writes_in (st.made old).devices slot (length (c.logs slot)) (c.slots slot).activity n (log_start slot + b.gate) ≡ false) b.device
            (subst (λ (n : ℕ). writes_in (st.made old).devices slot (length (c.logs slot)) (c.slots slot).activity d n ≡ false) b.place apart))
            (subst (λ (n : ℕ). SureOf g o st Stands Step register_is owners_are old x known c n (log_start slot + b.gate) content) b.device
            (subst (λ (n : ℕ). SureOf g o st Stands Step register_is owners_are old x known c d n content) b.place sure)))
            sure

    -- The homes of the log's blocks.
    pub homes_sent_at : (runs : List Run) → write.runs ≡ runs → (c.slots slot).activity ≡ Found → AreItsHomes (st.made old).devices (st.made old).areas c.logs slot runs
        → StandsAt g o st Stands Step register_is owners_are new x (record known { letters = letters }) (with_write c letters write) tree
    homes_sent_at runs runs_are rests its =
        sent_at g o st Stands Step register_is owners_are old new x known c tree letters node session write at handed.up handed.own entitled.lives handed.whose handed.register_keeps handed.owners_keep handed.store_keeps handed.made handed.same_own
        handed.end handed.opened
        (λ d s content w. homes_touch (st.made old).devices (st.made old).areas (last c.register.chain) c.owners.holding c.logs c.slots gone session slot low entitled runs its d s content (in_runs d s content w))
        (λ who d s row content there is w in_row. apart_slot (st.made old).devices (st.made old).areas at.logs.volume c.logs slot low runs its row.slot d s content (row_low who row is) (record { from = in_row.from; to = in_row.to }) (in_runs d s content w))
        (homes_sent (SureOf g o st Stands Step register_is owners_are old x known c) SureThen (st.made old).devices (st.made old).areas (last c.register.chain).sessions c.before c.logs c.slots c.truth slot low taken at.logs at.logs.volume runs its rests
        (λ d s content none sure. surely_on g o st Stands Step register_is owners_are old new x known c tree letters node session write at goes d s content (λ other w. none other (in_runs d s other w)) sure))
      where
        in_runs : (d s : ℕ) (content : List ℕ) → WritesTo write d s content → WritesIn runs d s content
        in_runs d s content w = subst (λ (l : List Run). WritesIn l d s content) runs_are w

        row_low : (who : ℕ) (row : SessionRow) → row_in (last c.register.chain).sessions who ≡ Some row → row.slot < 8
        row_low who row is = (all_row (IsSession (last c.register.chain).term_end) (last c.register.chain).sessions who row allowed.each_session is).slot

    -- The closing of gate 0, or of the others.
    pub closing_sent_at : (work : Work) → (work ≡ works.Closes) ⊎ (work ≡ works.Shuts) → (c.slots slot).activity ≡ OfLog work → write.runs ≡ (writes (view_of (st.made old).devices slot (length (c.logs slot)) work) work).1
        → StandsAt g o st Stands Step register_is owners_are new x (record known { letters = letters }) (with_write c letters write) tree
    closing_sent_at work closing doing runs_are = slot_sent_at inside
        (sends (SureOf g o st Stands Step register_is owners_are old x known c) SureThen (st.made old).devices (st.made old).areas (last c.register.chain).sessions c.before c.logs c.slots c.truth slot low taken at.logs
        (λ d s content apart sure. surely_on g o st Stands Step register_is owners_are old new x known c tree letters node session write at goes d s content (λ other w. quiet d s other w apart) sure))
      where
        some : work ≢ works.Idle
        some e = ⊎_elim (λ one. let wrong = sym one ∙ e in cc) (λ two. let wrong = sym two ∙ e in cc) closing

        written_in : (d s : ℕ) (content : List ℕ) → WritesTo write d s content → is_written (view_of (st.made old).devices slot (length (c.logs slot)) work) d s ≡ true
        written_in = its_sectors (view_of (st.made old).devices slot (length (c.logs slot)) work) write some runs_are

        quiet : (d s : ℕ) (other : List ℕ) → WritesTo write d s other → writes_in (st.made old).devices slot (length (c.logs slot)) (c.slots slot).activity d s ≡ false → ⊥
        quiet d s other w apart =
            let is = written_in d s other w in
            let is_not = sym (ap (λ (a : Activity). writes_in (st.made old).devices slot (length (c.logs slot)) a d s) doing) ∙ apart in
            absurd (let wrong = sym is ∙ is_not in cc)

        by : (work : Work) → (work ≡ works.Closes) ⊎ (work ≡ works.Shuts) → (d s : ℕ) → is_written (view_of (st.made old).devices slot (length (c.logs slot)) work) d s ≡ true → IsOfSlot (st.made old).devices slot d s
        by works.Idle one d s is = absurd (⊎_elim (λ a. let wrong = a in cc) (λ b. let wrong = b in cc) one)
        by (works.Body text point) one d s is = absurd (⊎_elim (λ a. let wrong = a in cc) (λ b. let wrong = b in cc) one)
        by (works.Opens point) one d s is = absurd (⊎_elim (λ a. let wrong = a in cc) (λ b. let wrong = b in cc) one)
        by works.Closes one d s is = let w = within_is (log_device slot (st.made old).devices) (log_start slot) 1 d s is in let from = w.begins in let to = w.ends in record { device = w.on; from = from; to = omega (arith, to) }
        by works.Shuts one d s is = let w = within_is (log_device slot (st.made old).devices) (log_start slot + 1) 7 d s is in let from = w.begins in let to = w.ends in record { device = w.on; from = omega (arith, from); to = omega (arith, to) }

        inside : (d s : ℕ) (content : List ℕ) → WritesTo write d s content → IsOfSlot (st.made old).devices slot d s
        inside d s content w = by work closing d s (written_in d s content w)
