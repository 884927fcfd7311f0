-- The blocks of a node's log are written home: how the logs stand while that is under way, and once it is done.
use Rattle.std.proofs.Common.{◌≡◌, ◌≢◌, ⊎_elim, ◌∙◌, inl, inr, ℕ, ◌+◌, ◌-◌, ◌<◌, Bool, true, false, eqb, List, Option, None, Some, IsSome, refl, sym, ap, subst, arith}
use Rattle.std.proofs.lemmas.Bool.Decides.{nat_tests}
use Rattle.bx_disk.specs.Disks.{Disks, Image, sector_of}
use Rattle.bx_facts.specs.declared.register.Register as register
use Rattle.bx_facts.specs.declared.store.Store as store
use Rattle.bx_facts.specs.Chains.{last}
use Rattle.bx_facts.specs.Writes.{Sent, Writes, WritesIn}
use Rattle.bx_global.specs.Allowed.{IsAllowed, IsSession}
use Rattle.bx_layout.specs.Blocks.{block_text}
use Rattle.bx_node_events.proofs.Working.{IsHanded, MaySend, SureBehind}
use Rattle.bx_node_logs.proofs.Moved.{fills_few}
use Rattle.bx_node_logs.proofs.Starts.{slot_sure}
use Rattle.bx_node_machines.proofs.Owning as owning
use Rattle.bx_node_sends.proofs.Sent.{surely_on}
use Rattle.bx_facts.specs.declared.owners.Owners as owners
use Rattle.bx_places.specs.Places.{IsBlock, IsVolume, block_place, gate_place, body_place}
use Rattle.bx_post.specs.declared.packets.Letter.{Letter}
use Rattle.bx_records.specs.Drafts.{Block}
use Rattle.bx_records.specs.declared.runs.Run.{Run}
use Rattle.bx_redo.specs.Homes.{AreItsHomes, home_run, with_runs}
use Rattle.bx_redo.proofs.HomeRuns.{home_writes, of_logged, written_or}
use Rattle.bx_redo.proofs.Homed.{are_home}
use Rattle.bx_rows.specs.Words.{is_taken, row_in}
use Rattle.bx_rows.specs.declared.session.SessionRow.{SessionRow}
use Rattle.bx_views.specs.Attempts.{Deed}
use Rattle.bx_views.specs.Truths.{Hints, Truth}
use Rattle.bx_volume.specs.Overlay.{IsOverlaidTruth, Logs}
use Rattle.bx_volume.specs.Records.{LogWhere, newest_in}
use Rattle.bx_volume.proofs.Apart.{home_and_log, two_homes}
use Rattle.bx_volume.proofs.LoggedHomes.{homes_written}
use Rattle.bx_volume.proofs.Sizes.{length-block_text}
use Rattle.bx_world_chains.proofs.Rows.{all_row, taken_of}
use Rattle.bx_world_logs.specs.Logs.{Activity, AreHomed, Finds, IsLogOf, LogsStand, Slot, SlotStands, idle}
use Rattle.bx_world_logs.proofs.Regions.{IsIn, body_is_in, gate_is_in}
use Rattle.bx_world_standing.specs.Standing.{Course, Known, StandsAt, SureOf}

module _ (devices areas : ℕ) (volume : IsVolume devices areas) (logs : Logs) (slot : ℕ) (less : slot < 8) (runs : List Run) (its : AreItsHomes devices areas logs slot runs) where
  -- no home of another block is written
  pub apart_home : (at i : ℕ) (content : List ℕ) → IsBlock areas at → newest_in (logs slot) at ≡ None → i < 9 → WritesIn runs (block_place at devices).0 ((block_place at devices).1 + i) content → ⊥
  apart_home at i content is none few (run, there, w) = by (eqb at (its.each run there).at) refl
    where
      home : Writes (home_run devices (its.each run there).at (its.each run there).block) (block_place at devices).0 ((block_place at devices).1 + i) content
      home = subst (λ (r : Run). Writes r (block_place at devices).0 ((block_place at devices).1 + i) content) (its.each run there).run_is w

      by : (b : Bool) → eqb at (its.each run there).at ≡ b → ⊥
      by true same =
          let e : at ≡ (its.each run there).at = grind (arith, nat_tests, same) in
          let wrong = sym none ∙ ap (λ (n : ℕ). newest_in (logs slot) n) e ∙ (its.each run there).newest in cc
      by false differ =
          let nine = length-block_text (its.each run there).block (its.each run there).parts in
          let from = home.from in
          let below = home.below in
          ⊎_elim (λ le. omega (arith, le, from, below, nine, few)) (λ le. omega (arith, le, from, below, nine, few))
          (two_homes at (its.each run there).at devices areas volume is (its.each run there).is (λ e. grind (arith, nat_tests, differ, e)) (sym home.on))

  -- nor any sector of a slot
  pub apart_slot : (other d s : ℕ) (content : List ℕ) → other < 8 → IsIn other s → WritesIn runs d s content → ⊥
  apart_slot other d s content few inside w =
      let l = of_logged devices areas logs slot less runs its d s content w in
      let behind = home_and_log l.at devices other few in
      let to = inside.to in
      let is = l.place in
      omega (arith, behind, to, is)

  module _ (Sure : ℕ → ℕ → List ℕ → Type 0) (rows : List SessionRow) (before : Image) (slots : ℕ → Slot) (truth : Truth) (st : LogsStand Sure devices areas rows before logs slots truth) where
    no_block : (o : Option Block) → (IsSome o → ⊥) → o ≡ None
    no_block None none = refl
    no_block (Some block) none = absurd (none refl)

    -- a block of another log isn't one of this
    none_here : (other at : ℕ) → other < 8 → other ≢ slot → IsSome (newest_in (logs other) at) → newest_in (logs slot) at ≡ None
    none_here other at few ne some = no_block (newest_in (logs slot) at) (λ mine. ne (st.once other slot at few less (inl some) (inl mine)))

    -- While they are written all that they aren't written to stands so.
    module _ (Sure_then : ℕ → ℕ → List ℕ → Type 0) (taken : is_taken rows slot ≡ true) (rests : (slots slot).activity ≡ idle)
        (keeps : (d s : ℕ) (content : List ℕ) → ((other : List ℕ) → WritesIn runs d s other → ⊥) → Sure d s content → Sure_then d s content) where
      log : IsLogOf Sure devices areas before logs slot (slots slot)
      log = subst (λ (t : Bool). SlotStands Sure devices areas before t logs slot (slots slot)) taken (st.each slot less)

      has_log : LogWhere true before devices areas slot (logs slot)
      has_log = subst (λ (t : Bool). LogWhere t before devices areas slot (logs slot)) taken (st.is_truth.has_logs slot less)

      in_slot : (other d s : ℕ) (content : List ℕ) → other < 8 → IsIn other s → Sure d s content → Sure_then d s content
      in_slot other d s content few inside sure = keeps d s content (λ new w. apart_slot other d s new few inside w) sure

      here : IsLogOf Sure_then devices areas before logs slot (slots slot)
      here = record {
        gates = λ gate low apart. in_slot slot (gate_place slot gate devices).0 (gate_place slot gate devices).1 (before (gate_place slot gate devices).0 (gate_place slot gate devices).1) less (gate_is_in slot gate low) (log.gates gate low apart);
        bodies = λ body i few fills. in_slot slot (body_place slot body devices).0 ((body_place slot body devices).1 + i) (before (body_place slot body devices).0 ((body_place slot body devices).1 + i)) less
            (body_is_in slot body i (let most = has_log.most in omega (arith, few, most)) (fills_few before devices areas slot (logs slot) body i has_log.stand few fills)) (log.bodies body i few fills);
        finds = subst (λ (a : Activity). Finds Sure_then devices areas before logs (slots slot).more slot a) (sym rests) (subst (λ (a : Activity). Finds Sure devices areas before logs (slots slot).more slot a) rests log.finds);
      }

      by_test : (other : ℕ) → other < 8 → (b : Bool) → eqb other slot ≡ b → SlotStands Sure_then devices areas before (is_taken rows other) logs other (slots other)
      by_test other few true is =
          let e : other ≡ slot = grind (arith, nat_tests, is) in
          subst (λ (n : ℕ). SlotStands Sure_then devices areas before (is_taken rows n) logs n (slots n)) (sym e)
          (subst (λ (t : Bool). SlotStands Sure_then devices areas before t logs slot (slots slot)) (sym taken) here)
      by_test other few false is =
          let ne : other ≢ slot = λ e. grind (arith, nat_tests, is, e) in
          slot_sure Sure Sure_then devices areas before logs other (λ d s content inside sure. in_slot other d s content few inside sure)
          (λ at i content there some low sure. keeps (block_place at devices).0 ((block_place at devices).1 + i) content (λ new w. apart_home at i new there (none_here other at few ne some) low w) sure)
          (slots other) (is_taken rows other) (st.is_truth.has_logs other few) (st.each other few)

      pub homes_sent : LogsStand Sure_then devices areas rows before logs slots truth
      homes_sent = record {
        volume = st.volume;
        is_truth = st.is_truth;
        homes = λ at block none i few. keeps (block_place at devices).0 ((block_place at devices).1 + i) (before (block_place at devices).0 ((block_place at devices).1 + i))
            (λ new w. apart_home at i new block (none slot less) few w) (st.homes at block none i few);
        each = λ other few. by_test other few (eqb other slot) refl;
        once = st.once;
      }

    -- Once they are, each block is home, surely, and all else is as it was.
    module _ (sure : (d s : ℕ) (content : List ℕ) → WritesIn runs d s content → Sure d s content) where
      pub slots_same : (other d s : ℕ) → other < 8 → IsIn other s → with_runs before runs d s ≡ before d s
      slots_same other d s few inside = ⊎_elim (λ same. same.0) (λ w. absurd (apart_slot other d s (with_runs before runs d s) few inside w)) (written_or before runs d s)

      pub homes_same : (at i : ℕ) → IsBlock areas at → newest_in (logs slot) at ≡ None → i < 9
          → with_runs before runs (block_place at devices).0 ((block_place at devices).1 + i) ≡ before (block_place at devices).0 ((block_place at devices).1 + i)
      homes_same at i is none few = ⊎_elim (λ same. same.0)
          (λ w. absurd (apart_home at i (with_runs before runs (block_place at devices).0 ((block_place at devices).1 + i)) is none few w))
          (written_or before runs (block_place at devices).0 ((block_place at devices).1 + i))

      pub truth_then : IsOverlaidTruth (with_runs before runs) devices areas rows logs truth
      truth_then = homes_written devices areas logs volume before (with_runs before runs) rows truth
          (λ d s. ⊎_elim (λ same. inl same.0) (λ w. inr (of_logged devices areas logs slot less runs its d s (with_runs before runs d s) w)) (written_or before runs d s)) st.is_truth

      pub are_homed : AreHomed Sure devices areas (with_runs before runs) logs slot
      are_homed = record {
        home = are_home devices areas logs slot less runs its before volume;
        sure = λ at is some i few. by_block at i is few (newest_in (logs slot) at) refl some;
      }
        where
          by_block : (at i : ℕ) → IsBlock areas at → i < 9 → (found : Option Block) → newest_in (logs slot) at ≡ found → IsSome found
              → Sure (block_place at devices).0 ((block_place at devices).1 + i) (with_runs before runs (block_place at devices).0 ((block_place at devices).1 + i))
          by_block at i is few None newest some = absurd cc
          by_block at i is few (Some block) newest some = ⊎_elim
              (λ same. absurd (same.1 (sector_of (block_text block) ((block_place at devices).1 + i - (block_place at devices).1))
              (let run = its.all at block is newest in (home_run devices at block, run, home_writes devices areas logs slot less runs its at block i few (its.each (home_run devices at block) run)))))
              (λ w. sure (block_place at devices).0 ((block_place at devices).1 + i) (with_runs before runs (block_place at devices).0 ((block_place at devices).1 + i)) w)
              (written_or before runs (block_place at devices).0 ((block_place at devices).1 + i))

module _ {G O S T : Type 0} (g : register.Ghosts G) (o : owners.Ghosts O) (st : store.Ghosts S) (Stands : Truth → Hints → T → Type 0) (Step : T → Deed → T → Type 0)
    (register_is : G) (owners_are : O) (old new : S) (x : Disks) (known : Known) (c : Course) (tree : T) (letters : List Letter) (node session : ℕ) (row : SessionRow) (write : Sent)
    (at : StandsAt g o st Stands Step register_is owners_are old x known c tree) (allowed : IsAllowed (last c.register.chain))
    (is_row : row_in (last c.register.chain).sessions session ≡ Some row) (lives : row.dead ≡ 0)
    (rests : (c.slots row.slot).activity ≡ idle) (its : AreItsHomes (st.made old).devices (st.made old).areas c.logs row.slot write.runs)
    (handed : IsHanded st old new x c.store letters node write) where
  low : row.slot < 8
  low = owning.low (st.made old).devices (st.made old).areas (SureOf g o st Stands Step register_is owners_are old x known c) c.before (last c.register.chain) allowed c.owners.holding c.logs c.slots c.truth at.logs session row is_row lives

  -- A session may send the homes of its log.
  pub of_homes : MaySend (st.made old).devices (st.made old).areas (SureBehind o st owners_are (st.made old) new x known.clocks c letters write) c session write
  of_homes = record {
    may = λ d sector content w. owning.home_touches (st.made old).devices (st.made old).areas (SureOf g o st Stands Step register_is owners_are old x known c) c.before (last c.register.chain) allowed c.owners.holding c.logs c.slots c.truth
        at.logs session row is_row lives write.runs its d sector content w;
    elsewhere = λ gone d s its_row content ne is_its w inside.
        apart_slot (st.made old).devices (st.made old).areas at.logs.volume c.logs row.slot low write.runs its its_row.slot d s content
        (all_row (IsSession (last c.register.chain).term_end) (last c.register.chain).sessions gone its_row allowed.each_session is_its).slot (record { from = inside.from; to = inside.to }) w;
    homes = λ block i content is unlogged few w. apart_home (st.made old).devices (st.made old).areas at.logs.volume c.logs row.slot low write.runs its block i content is (unlogged row.slot low) few w;
    logs = homes_sent (st.made old).devices (st.made old).areas at.logs.volume c.logs row.slot low write.runs its (SureOf g o st Stands Step register_is owners_are old x known c) (last c.register.chain).sessions c.before c.slots c.truth at.logs
        (SureBehind o st owners_are (st.made old) new x known.clocks c letters write) (taken_of (last c.register.chain) session row is_row) rests
        (λ d s content none sure. surely_on g o st Stands Step register_is owners_are old new x known c tree letters node session write at handed.stands d s content none sure);
  }
