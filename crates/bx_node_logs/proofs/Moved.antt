-- The logs where the devices hold something else in one slot, or in homes whose blocks its log has.
use Rattle.std.proofs.Common.{◌≡◌, ◌≢◌, inl, inr, ℕ, ◌+◌, ◌/◌, ◌<◌, Bool, true, false, eqb, List, [], ◌∷◌, length, Option, Some, None, IsSome, refl, sym, ◌∙◌, ap, subst, arith}
use Rattle.std.specs.Prelude.{◌==◌, if◌then◌else◌}
use Rattle.std.proofs.lemmas.Bool.Decides.{nat_tests}
use Rattle.bx_base.specs.declared.names.Point.{Point}
use Rattle.bx_disk.specs.Disks.{Image}
use Rattle.bx_layout.specs.Labels.{IsOpenGate}
use Rattle.bx_layout.specs.Blocks.{block_text}
use Rattle.bx_places.specs.Places.{IsBlock, block_place, body_place, gate_place, log_device, log_start}
use Rattle.bx_records.specs.Drafts.{Block, block_in}
use Rattle.bx_world_logs.specs.bx_redo.specs.Stands.{AreClosed, IsUnderWay}
use Rattle.bx_world_logs.specs.bx_redo.specs.declared.work.Work.TheVariants as works
use Rattle.bx_rows.specs.declared.session.SessionRow.{SessionRow}
use Rattle.bx_rows.specs.Words.{is_taken}
use Rattle.bx_views.specs.Truths.{Truth}
use Rattle.bx_world_logs.specs.bx_volume.specs.Overlay.{Logs, IsOverlaidTruth, IsUnlogged, filled_of}
use Rattle.bx_world_logs.specs.bx_volume.specs.Records.{Logged, IsInBody, LogWhere, StandOpen, logged_text, newest_in}
use Rattle.bx_world_logs.specs.bx_volume.proofs.Sizes.{length-block_text, logged_sectors}
use Rattle.bx_world_logs.specs.Logs.{AreHomed, AreSure, Activity, OfLog, Found, Finds, IsBegun, IsHomeSure, IsInLog, LogsStand, Slot, SlotStands, begins, writes_in}
use Rattle.bx_world_logs.proofs.Regions.{IsIn, body_is_in, gate_is_in}

-- a block that was found is there
pub is_some_block : (o : Option Block) (b : Block) → o ≡ Some b → IsSome o
is_some_block o b has = cc

-- a record fills no more than its body
pub fills_few : (held : Image) (devices areas slot : ℕ) (records : List Logged) (body i : ℕ) → StandOpen held devices areas slot records → body < length records → i < filled_of records body → i < 145
fills_few held devices areas slot [] body i stand less fills = absurd (omega (arith, less))
fills_few held devices areas slot (newest ∷ older) body i stand less fills = by_test (λ lower inside. fills_few held devices areas slot older body i stand.2 lower inside) (body == length older) refl fills
  where
    by_test : (body < length older → i < filled_of older body → i < 145) → (b : Bool) → (body == length older) ≡ b → i < (if b then length (logged_text newest) / 512 else filled_of older body) → i < 145
    by_test rest true same inside = let few = logged_sectors areas newest stand.1.is in omega (arith, few, inside)
    by_test rest false apart inside = rest (grind (arith, nat_tests, apart, less)) inside

-- the log of a slot, all of whose sectors, and the homes of whose blocks, hold what they held
module _ (Sure : ℕ → ℕ → List ℕ → Type 0) (devices areas : ℕ) (before now : Image) (logs : Logs) (slot : ℕ)
    (same : (d s : ℕ) → IsIn slot s → now d s ≡ before d s)
    (home_same : (at i : ℕ) → IsBlock areas at → IsSome (newest_in (logs slot) at) → i < 9 → now (block_place at devices).0 ((block_place at devices).1 + i) ≡ before (block_place at devices).0 ((block_place at devices).1 + i)) where
  moves : (d s : ℕ) → IsIn slot s → Sure d s (before d s) → Sure d s (now d s)
  moves d s inside is = subst (λ (c : List ℕ). Sure d s c) (sym (same d s inside)) is

  pub closed_still : (from : ℕ) → AreClosed before devices slot from → AreClosed now devices slot from
  closed_still from is gate le less was = is gate le less (subst (λ (c : List ℕ). IsOpenGate c) (same (log_device slot devices) (log_start slot + gate) (gate_is_in slot gate less)) was)

  in_body : (body : ℕ) (logged : Logged) → body < 8 → IsInBody before devices areas slot body logged → IsInBody now devices areas slot body logged
  in_body body logged less is = record {
    is = is.is;
    reads = record { each = λ i few. same (body_place slot body devices).0 ((body_place slot body devices).1 + i) (body_is_in slot body i less (let most = logged_sectors areas logged is.is in omega (arith, few, most))) ∙ is.reads.each i few };
  }

  begun : (more : Logged) (point : Point) → IsBegun before devices areas logs more slot point → IsBegun now devices areas logs more slot point
  begun more point is = record {
    under_way = record { room = is.under_way.room; is = is.under_way.is; alone = is.under_way.alone; closed = closed_still (length (logs slot)) is.under_way.closed };
    at = is.at;
  }

  homed : AreHomed Sure devices areas before logs slot → AreHomed Sure devices areas now logs slot
  homed is = record {
    home = λ at block there newest. let home = is.home at block there newest in record {
      is = home.is;
      reads = record { each = λ i few. home_same at i there (is_some_block (newest_in (logs slot) at) block newest) (let e = length-block_text block home.is in omega (arith, few, e)) ∙ home.reads.each i few };
    };
    sure = λ at there some i less. subst (λ (c : List ℕ). Sure (block_place at devices).0 ((block_place at devices).1 + i) c) (sym (home_same at i there some less)) (is.sure at there some i less);
  }

  finds_still : (more : Logged) (activity : Activity) → Finds Sure devices areas before logs more slot activity → Finds Sure devices areas now logs more slot activity
  finds_still more (OfLog works.Idle) finds = closed_still (length (logs slot)) finds
  finds_still more (OfLog (works.Body text point)) finds = (finds.0, begun more point finds.1)
  finds_still more (OfLog (works.Opens point)) finds = (
    in_body (length (logs slot)) more finds.1.under_way.room finds.0,
    begun more point finds.1,
    λ i few. moves (body_place slot (length (logs slot)) devices).0 ((body_place slot (length (logs slot)) devices).1 + i)
        (body_is_in slot (length (logs slot)) i finds.1.under_way.room (let most = logged_sectors areas more finds.0.is in omega (arith, few, most))) (finds.2 i few),
  )
  finds_still more (OfLog works.Closes) finds = (finds.0, homed finds.1)
  finds_still more (OfLog works.Shuts) finds = finds
  finds_still more Found finds = finds

  pub slot_still : (is : Slot) (taken : Bool) → LogWhere taken before devices areas slot (logs slot) → SlotStands Sure devices areas before taken logs slot is → SlotStands Sure devices areas now taken logs slot is
  slot_still is true has stands = record {
    gates = λ gate less apart. moves (gate_place slot gate devices).0 (gate_place slot gate devices).1 (gate_is_in slot gate less) (stands.gates gate less apart);
    bodies = λ body i few fills. moves (body_place slot body devices).0 ((body_place slot body devices).1 + i)
        (body_is_in slot body i (let most = has.most in omega (arith, few, most)) (fills_few before devices areas slot (logs slot) body i has.stand few fills)) (stands.bodies body i few fills);
    finds = finds_still is.more is.activity stands.finds;
  }
  slot_still is false has stands = record {
    gates = λ gate less. moves (gate_place slot gate devices).0 (gate_place slot gate devices).1 (gate_is_in slot gate less) (stands.gates gate less);
    closed = closed_still 0 stands.closed;
    still = stands.still;
  }

-- What is found in a slot, of other logs that are the same in this slot, and have no block of its record.
module _ (Sure : ℕ → ℕ → List ℕ → Type 0) (devices areas : ℕ) (now : Image) (logs later : Logs) (n : ℕ) (e : logs n ≡ later n) where
  under_way_of : (more : Logged) → ((s at : ℕ) (block : Block) → s < 8 → s ≢ n → block_in more.changed at ≡ Some block → newest_in (later s) at ≡ None)
      → IsUnderWay now devices areas logs more n (length (logs n)) → IsUnderWay now devices areas later more n (length (later n))
  under_way_of more alone is = record {
    room = subst (λ (l : List Logged). length l < 8) e is.room;
    is = is.is;
    alone = alone;
    closed = subst (λ (l : List Logged). AreClosed now devices n (length l)) e is.closed;
  }

  finds_of : (more : Logged) (activity : Activity) → (begins activity ≡ true → (s at : ℕ) (block : Block) → s < 8 → s ≢ n → block_in more.changed at ≡ Some block → newest_in (later s) at ≡ None)
      → Finds Sure devices areas now logs more n activity → Finds Sure devices areas now later more n activity
  finds_of more (OfLog works.Idle) alone finds = subst (λ (l : List Logged). AreClosed now devices n (length l)) e finds
  finds_of more (OfLog (works.Body text point)) alone finds = (finds.0, record { under_way = under_way_of more (alone refl) finds.1.under_way; at = finds.1.at })
  finds_of more (OfLog (works.Opens point)) alone finds = (
    subst (λ (l : List Logged). IsInBody now devices areas n (length l) more) e finds.0,
    record { under_way = under_way_of more (alone refl) finds.1.under_way; at = finds.1.at },
    subst (λ (l : List Logged). AreSure Sure devices areas now (body_place n (length l) devices) (length (logged_text more) / 512)) e finds.2,
  )
  finds_of more (OfLog works.Closes) alone finds = (
    subst (λ (l : List Logged). 0 < length l) e finds.0,
    record {
      home = λ at block there newest. finds.1.home at block there (subst (λ (l : List Logged). newest_in l at ≡ Some block) (sym e) newest);
      sure = λ at there some. finds.1.sure at there (subst (λ (l : List Logged). IsSome (newest_in l at)) (sym e) some);
    },
  )
  finds_of more (OfLog works.Shuts) alone finds = subst (λ (l : List Logged). length l ≡ 0) e finds
  finds_of more Found alone finds = finds

  pub slot_of : (is : Slot) (taken : Bool) → (begins is.activity ≡ true → (s at : ℕ) (block : Block) → s < 8 → s ≢ n → block_in is.more.changed at ≡ Some block → newest_in (later s) at ≡ None)
      → SlotStands Sure devices areas now taken logs n is → SlotStands Sure devices areas now taken later n is
  slot_of is true alone stands = record {
    gates = λ gate low apart. stands.gates gate low (ap (λ (l : List Logged). writes_in devices n (length l) is.activity (gate_place n gate devices).0 (gate_place n gate devices).1) e ∙ apart);
    bodies = λ body i low fills. stands.bodies body i (subst (λ (l : List Logged). body < length l) (sym e) low) (subst (λ (l : List Logged). i < filled_of l body) (sym e) fills);
    finds = finds_of is.more is.activity alone stands.finds;
  }
  slot_of is false alone stands = record { gates = stands.gates; closed = stands.closed; still = stands.still }

-- One slot's log goes on, and the devices hold something else in it, or in the homes of its blocks; all other slots are as they were.
module _ (Sure : ℕ → ℕ → List ℕ → Type 0) (devices areas : ℕ) (rows : List SessionRow) (before now : Image) (logs later : Logs) (slots slots_then : ℕ → Slot) (truth truth_then : Truth) (slot : ℕ) where
  pub moved : slot < 8 → LogsStand Sure devices areas rows before logs slots truth
      → ((other : ℕ) → other < 8 → other ≢ slot → (later other ≡ logs other) × (slots_then other ≡ slots other))
      → ((other : ℕ) → other < 8 → other ≢ slot → (d s : ℕ) → IsIn other s → now d s ≡ before d s)
      → ((other at i : ℕ) → other < 8 → other ≢ slot → IsBlock areas at → IsSome (newest_in (logs other) at) → i < 9 → now (block_place at devices).0 ((block_place at devices).1 + i) ≡ before (block_place at devices).0 ((block_place at devices).1 + i))
      → IsOverlaidTruth now devices areas rows later truth_then
      → ((at : ℕ) → IsBlock areas at → IsUnlogged later at → IsHomeSure Sure devices areas now at)
      → SlotStands Sure devices areas now (is_taken rows slot) later slot (slots_then slot)
      → ((one other at : ℕ) → one < 8 → other < 8 → IsInLog later slots_then one at → IsInLog later slots_then other at → one ≡ other)
      → LogsStand Sure devices areas rows now later slots_then truth_then
  moved less st others same home_same is_truth homes here once = record {
    volume = st.volume;
    is_truth = is_truth;
    homes = homes;
    each = λ other few. by_test other few (eqb other slot) refl;
    once = once;
  }
    where
      no_block : (s at : ℕ) (o : Option Block) → newest_in (later s) at ≡ o → (IsSome (newest_in (later s) at) → ⊥) → newest_in (later s) at ≡ None
      no_block s at None is none = is
      no_block s at (Some block) is none = absurd (none (is_some_block (newest_in (later s) at) block is))

      alone : (other s at : ℕ) (block : Block) → other < 8 → s < 8 → s ≢ other → begins (slots_then other).activity ≡ true → block_in (slots_then other).more.changed at ≡ Some block → newest_in (later s) at ≡ None
      alone other s at block few small apart begun has = no_block s at (newest_in (later s) at) refl
          (λ some. apart (once s other at small few (inl some) (inr (begun, is_some_block (block_in (slots_then other).more.changed at) block has))))

      by_test : (other : ℕ) → other < 8 → (b : Bool) → eqb other slot ≡ b → SlotStands Sure devices areas now (is_taken rows other) later other (slots_then other)
      by_test other few true is =
          let e : other ≡ slot = grind (arith, nat_tests, is) in
          subst (λ (n : ℕ). SlotStands Sure devices areas now (is_taken rows n) later n (slots_then n)) (sym e) here
      by_test other few false is =
          let ne : other ≢ slot = λ e. grind (arith, nat_tests, is, e) in
          let both = others other few ne in
          slot_of Sure devices areas now logs later other (sym both.0) (slots_then other) (is_taken rows other) (λ begun s at block small apart has. alone other s at block few small apart begun has)
          (subst (λ (l : Slot). SlotStands Sure devices areas now (is_taken rows other) logs other l) (sym both.1)
          (slot_still Sure devices areas before now logs other (same other few ne) (λ at i there some low. home_same other at i few ne there some low) (slots other) (is_taken rows other) (st.is_truth.has_logs other few) (st.each other few)))
