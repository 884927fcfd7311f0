-- Disks of members read as they did, and what was sure is: all goes on fitting, and so does what stands.
use Rattle.std.proofs.Common.{◌≡◌, ◌⊎◌, inl, inr, ℕ, ◌<◌, ◌≤◌, Bool, true, false, List, refl, ◌∙◌, arith}
use Rattle.bx_disk.specs.Disks.{Disks}
use Rattle.bx_facts.specs.Chains.{last}
use Rattle.bx_facts.specs.Disks.{IsKept, SameMemberLengths, SameMembers}
use Rattle.bx_facts.specs.Writes.{StorePast, member_disk, store_room}
use Rattle.bx_rows.specs.declared.device.DeviceRow.{DeviceRow}
use Rattle.bx_mirror_client.specs.declared.asking.Asking.{Asking}
use Rattle.bx_mirror_laws.specs.Acting.{Acts, Counts}
use Rattle.bx_mirror_laws.specs.Sides.{Out, Side, WriteLetter, Wrote}
use Rattle.bx_mirror_laws.specs.Sound.{HasTaken, IsOut, MayCome}
use Rattle.bx_mirror_laws.specs.Steps.{Ages, KeepsMemory, LastsGoOn, TakesNoMore}
use Rattle.bx_mirror_laws.proofs.Ages.{copies_age, hands_age, rows_age, writes_age, wrotes_age}
use Rattle.bx_mirror_laws.proofs.Memory.{acts_same, been_same, may_same, moved_same}
use Rattle.bx_mirror_laws.proofs.Still.{outs_still, stands_still}
use Rattle.bx_mirror_cluster.specs.Fitting.{History, IsClaimed, IsComing, IsDeviceSound, IsSettledOn, Keeps, KnownFrom, Nowhere, Parts, StandsFor, StandsOn, WillReadOn, handings, knows_of, last_row, outs_of, rows_before, side_of}
use Rattle.bx_mirror_cluster.proofs.DiskChanges.{reads_with, settles_with, with_disks}
use Rattle.bx_mirror_cluster.proofs.Labels.{label_kept, lengths_at}

behind : (d : ℕ) (b : Bool) → 3 ≤ member_disk d b
behind d false = omega arith
behind d true = omega arith

module _ (parts : Parts) (x y : Disks) (past : StorePast) (h : History) (d : ℕ) (was : IsDeviceSound parts x past h d) (kept : (c : Bool) (s : ℕ) → IsKept x y (member_disk d c) s) where
  abbrev row : DeviceRow
  row = last_row past.told.chain d

  abbrev older : List DeviceRow
  older = rows_before past.told.chain d

  abbrev sides : Bool → Side
  sides = side_of past.told x parts.members d

  abbrev next : Bool → Side
  next = side_of past.told y parts.members d

  memory : (c : Bool) → KeepsMemory (sides c) (next c)
  memory c = record { up = refl; boot = refl; row = refl }

  ages : Ages (store_room parts.made) row older sides next (h.source d) (h.source d)
  ages = record {
    been = λ c r is been. been_same c (sides c) (next c) (memory c) r been;
    moved = λ c r is moved. moved_same c (sides c) (next c) (memory c) r moved;
    may = λ c r is may. may_same c (sides c) (next c) (memory c) r may;
    boot = λ c. omega arith;
    known = λ c r e. was.rows.known c r e;
    targets = λ c r s is acts none low high reads. (kept c s).reads ∙ reads;
    filled = λ c s copying none been evidence low reads. ((kept c s).reads ∙ reads, λ sure. (kept c s).sure sure);
    sources = λ c r s is been leads. refl;
  }

  stays : (From : DeviceRow → Type 0) (c : Bool) (s : ℕ) → 1 ≤ s → s < store_room parts.made → Counts From row older (handings d past.told.handed) c (sides c) → ((sides c).up ≡ true) ⊎ ((sides c).unsure s ≡ false)
      → ((next c).reads s ≡ (sides c).reads s) × ((sides c).unsure s ≡ false → (next c).unsure s ≡ false)
  stays From c s low high counts evidence = ((kept c s).reads, λ sure. (kept c s).sure sure)

  lasts : LastsGoOn row older sides next
  lasts = record { each = λ c r session is e. inr (e, omega arith) }

  took : (wrotes : List Wrote) (c : Bool) (o : Out) (k : DeviceRow) → HasTaken wrotes (next c) c o k → HasTaken wrotes (sides c) c o k
  took wrotes c o k has = record { is = has.is }

  no_more : (wrotes : List Wrote) → TakesNoMore row older sides next wrotes wrotes
  no_more wrotes = record { each = λ c o k is moved has. took wrotes c o k has }

  pub surer_sound : SameMemberLengths x y → IsDeviceSound parts y past h d
  surer_sound lengths = record {
    rows = rows_age (store_room parts.made) row older sides next (h.source d) (h.source d) was.rows ages;
    hands = hands_age (store_room parts.made) row older sides next (h.source d) (h.source d) was.rows ages (handings d past.told.handed) was.hands;
    copies = copies_age (store_room parts.made) row older sides next (h.source d) (h.source d) was.rows ages (h.copies d) (h.copieds d) was.copies
        (λ c g there. there) (λ c g there. was.copies.owed_up c g there)
        (λ c r acts copying leads s low high. (kept c s).reads ∙ was.copies.held c r (acts_same c (sides c) (next c) (memory c) r acts) copying leads s low high)
        (λ c r acts copying leads s low below. was.copies.progress c r (acts_same c (sides c) (next c) (memory c) r acts) copying leads s low below);
    writes = writes_age (store_room parts.made) row older sides next (h.source d) (h.source d) was.rows ages (h.wrotes d) (h.wrotes d) (no_more (h.wrotes d)) d past.told.greatest past.told.greatest (h.writes d) h.actual (outs_of parts.nodes)
        (knows_of parts.nodes d) (IsClaimed (last past.told.chain) past.told.greatest) (omega arith) lasts was.writes;
    wrotes = wrotes_age (store_room parts.made) row older sides next (h.source d) (h.source d) was.rows ages (h.writes d) (h.wrotes d) lasts (λ c w there. there) (λ c w there. was.wrotes.owed_up c w there) was.wrotes;
    outs = outs_still d (store_room parts.made) past.told.greatest past.told.greatest row older (handings d past.told.handed) sides next (h.source d) (h.source d) was.rows ages (omega arith) stays (h.writes d) (h.wrotes d) (h.wrotes d) h.actual
        (outs_of parts.nodes) (outs_of parts.nodes) (knows_of parts.nodes d) (knows_of parts.nodes d) (IsClaimed (last past.told.chain) past.told.greatest) (IsClaimed (last past.told.chain) past.told.greatest)
        (λ o k sends. sends) (no_more (h.wrotes d)) was.wrotes.owed_up (took (h.wrotes d)) (λ c o k has. inl has) its_last was.outs;
    coming = was.coming;
    answering = was.answering;
    copying = was.copying;
    copied_to = was.copied_to;
    labels = λ c needs. let k = kept c 0 in label_kept parts.made x y (member_disk d c) k.reads k.sure (lengths_at x y lengths d c) (was.labels c needs);
    down = was.down;
    known = was.known;
  }
    where
      its_last : (o : Out) (k : DeviceRow) (c : Bool) (r : DeviceRow) → IsOut d (store_room parts.made) past.told.greatest row older (handings d past.told.handed) sides (h.writes d) (h.wrotes d) h.actual o k → Acts c (next c) r → o.sequence ≤ (next c).lasts o.session
          → HasTaken (h.wrotes d) (next c) c o r
      its_last o k c r out acts reached = let t = out.lasts c r (acts_same c (sides c) (next c) (memory c) r acts) reached in record { is = t.is }

  pub surer_stands : (From : DeviceRow → Type 0) (sector : ℕ) (content : List ℕ) → 1 ≤ sector → sector < store_room parts.made → StandsFor From parts x past d sector content → StandsFor From parts y past d sector content
  surer_stands From sector content low high stands =
      stands_still d (store_room parts.made) past.told.greatest past.told.greatest row older (handings d past.told.handed) sides next (h.source d) (h.source d) was.rows ages (omega arith) stays From (IsComing past.told.letters d) past.writes sector content low high came stands
    where
      came : (c : Bool) (m : WriteLetter) → m.at ≡ c → MayCome row older (next c) m → MayCome row older (sides c) m
      came c m at come = record {
        row = come.row;
        row_is = come.row_is;
        epoch_is = come.epoch_is;
        acts = may_same m.at (sides c) (next c) (memory c) come.row come.acts;
        written = come.written;
        newer = come.newer;
      }

-- ---- all devices

module _ (parts : Parts) (x y : Disks) (past : StorePast) (keeps : Keeps parts x past) (same : SameMembers x y) where
  kept_on : (d : ℕ) (c : Bool) (s : ℕ) → IsKept x y (member_disk d c) s
  kept_on d c s = same.each (member_disk d c) s (behind d c)

  pub all_surer : SameMemberLengths x y → Keeps parts y past
  all_surer lengths = with_disks parts x y past keeps (λ d within. surer_sound parts x y past keeps.history d (keeps.devices d within) (kept_on d) lengths)

  pub surer_settled : (d sector : ℕ) (content : List ℕ) → IsSettledOn parts x past d sector content → IsSettledOn parts y past d sector content
  surer_settled d sector content settled = settles_with parts x y past d sector content settled
      (λ stands. surer_stands parts x y past keeps.history d (keeps.devices d settled.device) (kept_on d) Nowhere sector content settled.behind_label settled.within stands)

  pub surer_standing : (d sector : ℕ) (content : List ℕ) (index : ℕ) → StandsOn parts x past d sector content index → StandsOn parts y past d sector content index
  surer_standing d sector content index stands = let set = stands.settled in record {
    settled = surer_settled d sector content set;
    stands = surer_stands parts x y past keeps.history d (keeps.devices d set.device) (kept_on d) (KnownFrom past.told.chain d index) sector content set.behind_label set.within stands.stands;
  }

  pub surer_reads : (reader : ℕ) (read : Asking) (sector : ℕ) (content : List ℕ) → WillReadOn parts x past reader read sector content → WillReadOn parts y past reader read sector content
  surer_reads reader read sector content will = reads_with parts x y past reader read sector content will
      (λ From stands. surer_stands parts x y past keeps.history read.device (keeps.devices read.device will.device) (kept_on read.device) From sector content will.behind_label will.within stands)
