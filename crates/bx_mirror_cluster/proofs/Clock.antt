-- The greatest reading rises: what may still come may be late then, and all fits again.
use Rattle.std.proofs.Common.{◌≡◌, inl, inr, ℕ, ◌≤◌, Bool, List, Option, Some, arith}
use Rattle.bx_disk.specs.Disks.{Disks}
use Rattle.bx_facts.specs.Chains.{last}
use Rattle.bx_facts.specs.Writes.{Sent, StorePast, store_room}
use Rattle.bx_rows.specs.declared.device.DeviceRow.{DeviceRow}
use Rattle.bx_mirror_laws.specs.Sides.{Handing, Out, Side, WriteLetter, Wrote}
use Rattle.bx_mirror_laws.specs.Acting.{FromEpoch}
use Rattle.bx_mirror_laws.specs.Sound.{AreOuts, AreWrites, DeviceStands}
use Rattle.bx_mirror_laws.proofs.Small.{outs_lived, writes_lived}
use Rattle.bx_mirror_client.specs.declared.asking.Asking.{Asking}
use Rattle.bx_mirror_cluster.specs.Fitting.{IsClaimed, IsComing, IsSettledOn, Keeps, KnownFrom, Nowhere, Parts, StandsFor, StandsOn, WillReadOn, handings, knows_of, last_row, outs_of, rows_before, side_of}
use Rattle.bx_mirror_cluster.specs.Learning.{with_clock}

writes_later : (device greatest later : ℕ) (last_ : DeviceRow) (older : List DeviceRow) (sides : Bool → Side) (writes : List WriteLetter) (wrotes : List Wrote) (actual : List Out) (outs : ℕ → Option Out) (knows : ℕ → Option DeviceRow) (live : Out → Type 0)
    → greatest ≤ later → AreWrites device greatest last_ older sides writes wrotes actual outs knows live → AreWrites device later last_ older sides writes wrotes actual outs knows live
writes_later device greatest later last_ older sides writes wrotes actual outs knows live rises are = record {
  each = λ l there. let was = are.each l there in record {
    row = was.row;
    row_is = was.row_is;
    epoch_is = was.epoch_is;
    case = elim was.case [
      | inl carries ↦ inl carries
      | inr rest ↦ inr (elim rest [
        | inl late ↦ inl (omega (arith, late, rises))
        | inr two ↦ inr two
      ])
    ];
  };
}

outs_later : (device room greatest later : ℕ) (last_ : DeviceRow) (older : List DeviceRow) (handed : List Handing) (sides : Bool → Side) (writes : List WriteLetter) (wrotes : List Wrote) (actual : List Out) (outs : ℕ → Option Out) (knows : ℕ → Option DeviceRow) (live : Out → Type 0)
    → greatest ≤ later → AreOuts device room greatest last_ older handed sides writes wrotes actual outs knows live → AreOuts device room later last_ older handed sides writes wrotes actual outs knows live
outs_later device room greatest later last_ older handed sides writes wrotes actual outs knows live rises all = record {
  each = λ o k sends. let out = all.each o k sends in record {
    row = out.row;
    begins = out.begins;
    range = out.range;
    alone = λ w y content other there theirs its. elim (out.alone w y content other there theirs its) [
      | inl same ↦ inl same
      | inr late ↦ inr (omega (arith, late, rises))
    ];
    once = out.once;
    newest = out.newest;
    its = out.its;
    whole = out.whole;
    sent = out.sent;
    lasts = out.lasts;
    goes = out.goes;
  };
}

stand_later : (device greatest later : ℕ) (From : DeviceRow → Type 0) (last_ : DeviceRow) (older : List DeviceRow) (handed : List Handing) (sides : Bool → Side) (Comes : WriteLetter → Type 0) (past : List Sent) (sector : ℕ) (content : List ℕ)
    → greatest ≤ later → DeviceStands device greatest From last_ older handed sides Comes past sector content → DeviceStands device later From last_ older handed sides Comes past sector content
stand_later device greatest later From last_ older handed sides Comes past sector content rises stands = record {
  reads = stands.reads;
  sure = stands.sure;
  coming = λ b r l other is from may leads comes at come brought. elim (stands.coming b r l other is from may leads comes at come brought) [
    | inl same ↦ inl same
    | inr rest ↦ inr (elim rest [
      | inl late ↦ inl (omega (arith, late, rises))
      | inr of ↦ inr of
    ])
  ];
}

module _ (parts : Parts) (x : Disks) (past : StorePast) (later : ℕ) (rises : past.told.greatest ≤ later) where
  lived : (n : ℕ) (o : Out) → outs_of parts.nodes n ≡ Some o → IsClaimed (last past.told.chain) later o → IsClaimed (last past.told.chain) past.told.greatest o
  lived n o out (inl lives) = inl lives
  lived n o out (inr in_time) = inr (λ late. in_time (omega (arith, late, rises)))

  pub clock_keeps : Keeps parts x past → Keeps parts x (with_clock past later)
  clock_keeps keeps = record {
    history = keeps.history;
    devices = λ d within. let was = keeps.devices d within in record {
      rows = was.rows;
      hands = was.hands;
      copies = was.copies;
      writes = writes_later d past.told.greatest later _ _ (side_of past.told x parts.members d) (keeps.history.writes d) (keeps.history.wrotes d) keeps.history.actual (outs_of parts.nodes) (knows_of parts.nodes d) (IsClaimed (last past.told.chain) later) rises
          (writes_lived d past.told.greatest _ _ (side_of past.told x parts.members d) (keeps.history.writes d) (keeps.history.wrotes d) keeps.history.actual (outs_of parts.nodes) (knows_of parts.nodes d)
          (IsClaimed (last past.told.chain) past.told.greatest) (IsClaimed (last past.told.chain) later) lived was.writes);
      wrotes = was.wrotes;
      outs = outs_later d (store_room parts.made) past.told.greatest later _ _ (handings d past.told.handed) (side_of past.told x parts.members d) (keeps.history.writes d) (keeps.history.wrotes d) keeps.history.actual (outs_of parts.nodes) (knows_of parts.nodes d)
          (IsClaimed (last past.told.chain) later) rises
          (outs_lived d (store_room parts.made) past.told.greatest _ _ (handings d past.told.handed) (side_of past.told x parts.members d) (keeps.history.writes d) (keeps.history.wrotes d) keeps.history.actual (outs_of parts.nodes) (knows_of parts.nodes d)
          (IsClaimed (last past.told.chain) past.told.greatest) (IsClaimed (last past.told.chain) later) lived was.outs);
      coming = was.coming;
      answering = was.answering;
      copying = was.copying;
      copied_to = was.copied_to;
      labels = was.labels;
      down = was.down;
      known = was.known;
    };
    count = keeps.count;
    rising = keeps.rising;
    highest = keeps.highest;
    placed = keeps.placed;
    actual_sent = keeps.actual_sent;
    out_actual = keeps.out_actual;
    out_number = keeps.out_number;
    actual_given = keeps.actual_given;
    sendable = keeps.sendable;
    holding = keeps.holding;
    askable = keeps.askable;
    epochs = keeps.epochs;
    owing = keeps.owing;
    from_members = keeps.from_members;
    own_out = keeps.own_out;
    lasts = keeps.lasts;
    brings = keeps.brings;
    noted = keeps.noted;
    asking = keeps.asking;
    asked = keeps.asked;
    node_known = keeps.node_known;
    node_of = keeps.node_of;
    boot_of = keeps.boot_of;
    sessions = keeps.sessions;
    booted = keeps.booted;
    owned = keeps.owned;
    single = keeps.single;
    found_most = keeps.found_most;
    in_order = keeps.in_order;
    left = keeps.left;
    numbered = keeps.numbered;
    tagged = keeps.tagged;
    read_tagged = keeps.read_tagged;
    member_boots = keeps.member_boots;
    node_boots = keeps.node_boots;
  }

  -- ---- what stands goes on

  stands_for : (From : DeviceRow → Type 0) (d sector : ℕ) (content : List ℕ) → StandsFor From parts x past d sector content → StandsFor From parts x (with_clock past later) d sector content
  stands_for From d sector content stands = stand_later d past.told.greatest later From (last_row past.told.chain d) (rows_before past.told.chain d) (handings d past.told.handed) (side_of past.told x parts.members d) (IsComing past.told.letters d) past.writes
      sector content rises stands

  pub settles_clock : (d sector : ℕ) (content : List ℕ) → IsSettledOn parts x past d sector content → IsSettledOn parts x (with_clock past later) d sector content
  settles_clock d sector content settled = record { device = settled.device; behind_label = settled.behind_label; within = settled.within; is = stands_for Nowhere d sector content settled.is }

  pub stands_clock : (d sector : ℕ) (content : List ℕ) (index : ℕ) → StandsOn parts x past d sector content index → StandsOn parts x (with_clock past later) d sector content index
  stands_clock d sector content index stands = record { settled = settles_clock d sector content stands.settled; stands = stands_for (KnownFrom past.told.chain d index) d sector content stands.stands }

  pub reads_clock : (m : ℕ) (a : Asking) (sector : ℕ) (content : List ℕ) → WillReadOn parts x past m a sector content → WillReadOn parts x (with_clock past later) m a sector content
  reads_clock m a sector content will = record {
    device = will.device;
    behind_label = will.behind_label;
    within = will.within;
    row = will.row;
    row_is = will.row_is;
    stands = stands_for (FromEpoch will.row.epoch) a.device sector content will.stands;
    coming = will.coming;
    came = will.came;
  }
