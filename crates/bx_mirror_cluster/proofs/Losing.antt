-- Letters may be lost, and come in any order and number; those of other layers don't matter.
use Rattle.std.proofs.Common.{ℕ, Contains, List, arith}
use Rattle.bx_disk.specs.Disks.{Disks}
use Rattle.bx_facts.specs.Inputs.{AreAmong, IsStores}
use Rattle.bx_facts.specs.Writes.{StorePast}
use Rattle.bx_post.specs.declared.packets.Letter.{Letter}
use Rattle.bx_rows.specs.declared.device.DeviceRow.{DeviceRow}
use Rattle.bx_mirror_packets.specs.DeviceMessages.{Spells}
use Rattle.bx_mirror_packets.specs.declared.message.DeviceMessage.{DeviceMessage}
use Rattle.bx_mirror_packets.specs.declared.message.ReadBody.{ReadBody}
use Rattle.bx_mirror_packets.specs.declared.message.DeviceMessage.TheVariants.{Write, Wrote as WroteOf, Read, Data, Copy, Copied as CopiedOf, Alive}
use Rattle.bx_mirror_laws.specs.Acting.{FromEpoch}
use Rattle.bx_mirror_laws.specs.Sides.{Copied, CopyLetter, WriteLetter, Wrote}
use Rattle.bx_mirror_client.specs.declared.asking.Asking.{Asking}
use Rattle.bx_mirror_cluster.specs.Fitting.{IsAnswering, IsComing, IsCopiedTo, IsCopying, IsData, IsReading, IsSettledOn, Keeps, KnownFrom, Nowhere, Parts, StandsFor, StandsOn, WillReadOn}

-- what says something is of the store's layer
pub of_store : (message : DeviceMessage) (letter : Letter) → Spells message letter.kind letter.body → IsStores letter
of_store (Write w) letter spells = let k = spells.kind_is in let low = spells.is.least in let high = spells.is.most in record { least = omega (arith, k, low); most = omega (arith, k, high) }
of_store (WroteOf w) letter spells = let k = spells.kind_is in record { least = omega (arith, k); most = omega (arith, k) }
of_store (Read r) letter spells = let k = spells.kind_is in record { least = omega (arith, k); most = omega (arith, k) }
of_store (Data d) letter spells = let k = spells.kind_is in record { least = omega (arith, k); most = omega (arith, k) }
of_store (Copy c) letter spells = let k = spells.kind_is in record { least = omega (arith, k); most = omega (arith, k) }
of_store (CopiedOf c) letter spells = let k = spells.kind_is in record { least = omega (arith, k); most = omega (arith, k) }
of_store Alive letter spells = let k = spells.kind_is in record { least = omega (arith, k); most = omega (arith, k) }

module _ (letters all : List Letter) (fewer : AreAmong IsStores letters all) where
  was : (message : DeviceMessage) (letter : Letter) → Spells message letter.kind letter.body → Contains letters letter → Contains all letter
  was message letter spells there = fewer.each letter (of_store message letter spells) there

  pub still_coming : (d : ℕ) (l : WriteLetter) → IsComing letters d l → IsComing all d l
  still_coming d l c = record { letter = c.letter; there = was (Write c.write) c.letter c.spells c.there; write = c.write; spells = c.spells; to = c.to; device = c.device; session = c.session; epoch_is = c.epoch_is; sequence = c.sequence; until = c.until; runs = c.runs }

  pub still_answering : (d : ℕ) (w : Wrote) → IsAnswering letters d w → IsAnswering all d w
  still_answering d w c = record { letter = c.letter; there = was (WroteOf c.wrote) c.letter c.spells c.there; wrote = c.wrote; spells = c.spells; from = c.from; device = c.device; session = c.session; epoch_is = c.epoch_is; sequence = c.sequence }

  pub still_copying : (d : ℕ) (l : CopyLetter) → IsCopying letters d l → IsCopying all d l
  still_copying d l c = record { letter = c.letter; there = was (Copy c.copy) c.letter c.spells c.there; copy = c.copy; spells = c.spells; from = c.from; device = c.device; epoch_is = c.epoch_is; place = c.place; bytes = c.bytes }

  pub still_copied : (d : ℕ) (g : Copied) → IsCopiedTo letters d g → IsCopiedTo all d g
  still_copied d g c = record { letter = c.letter; there = was (CopiedOf c.copied) c.letter c.spells c.there; copied = c.copied; spells = c.spells; from = c.from; device = c.device; epoch_is = c.epoch_is; place = c.place }

  pub still_data : (n d session epoch tag : ℕ) (bytes : List ℕ) → IsData letters n d session epoch tag bytes → IsData all n d session epoch tag bytes
  still_data n d session epoch tag bytes c = record { letter = c.letter; there = was (Data c.data_) c.letter c.spells c.there; data_ = c.data_; spells = c.spells; to = c.to; device = c.device; session_is = c.session_is; epoch_is = c.epoch_is; tag_is = c.tag_is; bytes_are = c.bytes_are }

  pub still_reading : (n : ℕ) (r : ReadBody) → IsReading letters n r → IsReading all n r
  still_reading n r c = record { letter = c.letter; there = was (Read r) c.letter c.spells c.there; spells = c.spells; from = c.from }

module _ (parts : Parts) (x : Disks) (past : StorePast) (letters : List Letter) (fewer : AreAmong IsStores letters past.told.letters) where
  pub loses : Keeps parts x past → Keeps parts x (record past { told = record past.told { letters = letters } })
  loses keeps = record {
    history = keeps.history;
    devices = λ d within. let was_it = keeps.devices d within in record {
      rows = was_it.rows;
      hands = was_it.hands;
      copies = was_it.copies;
      writes = was_it.writes;
      wrotes = was_it.wrotes;
      outs = was_it.outs;
      coming = λ l c. was_it.coming l (still_coming letters past.told.letters fewer d l c);
      answering = λ w c. was_it.answering w (still_answering letters past.told.letters fewer d w c);
      copying = λ l c. was_it.copying l (still_copying letters past.told.letters fewer d l c);
      copied_to = λ g c. was_it.copied_to g (still_copied letters past.told.letters fewer d g c);
      labels = was_it.labels;
      down = was_it.down;
      known = was_it.known;
    };
    count = keeps.count;
    rising = keeps.rising;
    highest = keeps.highest;
    placed = keeps.placed;
    actual_sent = keeps.actual_sent;
    out_actual = keeps.out_actual;
    out_number = keeps.out_number;
    actual_given = keeps.actual_given;
    sendable = keeps.sendable;
    holding = keeps.holding;
    askable = keeps.askable;
    epochs = keeps.epochs;
    owing = keeps.owing;
    from_members = λ letter message there spells. keeps.from_members letter message (fewer.each letter (of_store message letter spells) there) spells;
    own_out = keeps.own_out;
    lasts = keeps.lasts;
    brings = keeps.brings;
    noted = keeps.noted;
    asking = keeps.asking;
    asked = λ n r a c is session tag. keeps.asked n r a (still_reading letters past.told.letters fewer n r c) is session tag;
    node_known = keeps.node_known;
    node_of = keeps.node_of;
    boot_of = keeps.boot_of;
    sessions = keeps.sessions;
    booted = keeps.booted;
    owned = keeps.owned;
    single = keeps.single;
    found_most = keeps.found_most;
    in_order = keeps.in_order;
    left = keeps.left;
    numbered = keeps.numbered;
    tagged = λ n d session epoch tag bytes c. keeps.tagged n d session epoch tag bytes (still_data letters past.told.letters fewer n d session epoch tag bytes c);
    read_tagged = λ n r c. keeps.read_tagged n r (still_reading letters past.told.letters fewer n r c);
    member_boots = keeps.member_boots;
    node_boots = keeps.node_boots;
  }

  pub stands_lost : (From : DeviceRow → Type 0) (d sector : ℕ) (content : List ℕ) → StandsFor From parts x past d sector content → StandsFor From parts x (record past { told = record past.told { letters = letters } }) d sector content
  stands_lost From d sector content stands = record {
    reads = stands.reads;
    sure = stands.sure;
    coming = λ b r l other is from may leads comes at come brought. stands.coming b r l other is from may leads (still_coming letters past.told.letters fewer d l comes) at come brought;
  }

  pub settled_lost : (d sector : ℕ) (content : List ℕ) → IsSettledOn parts x past d sector content → IsSettledOn parts x (record past { told = record past.told { letters = letters } }) d sector content
  settled_lost d sector content settled = record { device = settled.device; behind_label = settled.behind_label; within = settled.within; is = stands_lost Nowhere d sector content settled.is }

  pub stands_on_lost : (d sector : ℕ) (content : List ℕ) (index : ℕ) → StandsOn parts x past d sector content index → StandsOn parts x (record past { told = record past.told { letters = letters } }) d sector content index
  stands_on_lost d sector content index stands = record { settled = settled_lost d sector content stands.settled; stands = stands_lost (KnownFrom past.told.chain d index) d sector content stands.stands }

  pub reads_lost : (n : ℕ) (a : Asking) (sector : ℕ) (content : List ℕ) → WillReadOn parts x past n a sector content → WillReadOn parts x (record past { told = record past.told { letters = letters } }) n a sector content
  reads_lost n a sector content will = record {
    device = will.device;
    behind_label = will.behind_label;
    within = will.within;
    row = will.row;
    row_is = will.row_is;
    stands = stands_lost (FromEpoch will.row.epoch) a.device sector content will.stands;
    coming = λ epoch bytes data_ from below above. will.coming epoch bytes (still_data letters past.told.letters fewer n a.device a.session epoch a.tag bytes data_) from below above;
    came = will.came;
  }
