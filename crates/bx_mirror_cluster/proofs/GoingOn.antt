-- Streams go on with the writes that they have out: members and streams fit the past with letters of reads more.
use Rattle.std.proofs.Common.{◌≡◌, ◌≢◌, inl, inr, ℕ, ◌<◌, Contains, List, ◌++◌, Option, Some, sym, ◌∙◌, ap, subst, arith}
use Rattle.std.specs.Prelude.{slice_get}
use Rattle.std.proofs.lemmas.List.Elements.{Contains-append_cases}
use Rattle.bx_disk.specs.Disks.{Disks}
use Rattle.bx_facts.specs.Chains.{last}
use Rattle.bx_facts.specs.Writes.{StorePast, store_room}
use Rattle.bx_post.specs.declared.packets.Letter.{Letter}
use Rattle.bx_rows.specs.declared.device.DeviceRow.{DeviceRow}
use Rattle.bx_mirror_laws.specs.Acting.{FromEpoch}
use Rattle.bx_mirror_laws.specs.Sides.{Out, WriteLetter}
use Rattle.bx_mirror_laws.specs.Sound.{AreOuts, AreWrites}
use Rattle.bx_mirror_laws.proofs.Nodes.{stands_send}
use Rattle.bx_mirror_client.specs.Streams.{Streaming}
use Rattle.bx_mirror_client.specs.declared.asking.Asking.{Asking}
use Rattle.bx_mirror_cluster.specs.Fitting.{IsClaimed, IsComing, IsData, IsDeviceSound, IsReading, IsSettledOn, Keeps, KnownFrom, Nowhere, Parts, StandsFor, StandsOn, WillReadOn, handings, knows_of, last_row, outs_of, rows_before, side_of}
use Rattle.bx_mirror_cluster.proofs.Leaving.{same_left}
use Rattle.bx_mirror_cluster.specs.GoingOn.{AreReads, StreamsGoOn, IsAskedOn, letters_more, with_nodes}
use Rattle.bx_mirror_cluster.specs.Speaking.{IsOfRead}
use Rattle.bx_mirror_cluster.proofs.Drawn.{drawn_more, drawn_own, drawn_same, not_member, same_read}
use Rattle.bx_mirror_packets.specs.declared.message.ReadBody.{ReadBody}

module _ (parts : Parts) (x : Disks) (past : StorePast) (keeps : Keeps parts x past) (nodes_next : ℕ → Streaming) (more : List Letter) (on : StreamsGoOn parts keeps.history nodes_next) (reads : AreReads nodes_next more) where
  -- a letter of another kind was there before
  was_there : (letter : Letter) → Contains (past.told.letters ++ more) letter → letter.kind ≢ 20 → Contains past.told.letters letter
  was_there letter there other = elim (Contains-append_cases past.told.letters more letter there) [
    | inl old ↦ old
    | inr new ↦ absurd (other (reads.kinds letter new))
  ]

  was_coming : (d : ℕ) (l : WriteLetter) → IsComing (past.told.letters ++ more) d l → IsComing past.told.letters d l
  was_coming d l c = record { letter = c.letter; there = was_there c.letter c.there (λ e. let k = c.spells.kind_is in let most = c.spells.is.most in omega (arith, k, most, e)); write = c.write; spells = c.spells; to = c.to; device = c.device; session = c.session; epoch_is = c.epoch_is; sequence = c.sequence; until = c.until; runs = c.runs }

  outs_same : outs_of nodes_next ≡ outs_of parts.nodes
  outs_same = λ i. λ m. (on.out m) i

  knows_same : (d : ℕ) → knows_of nodes_next d ≡ knows_of parts.nodes d
  knows_same d = λ i. λ m. slice_get ((on.rows m) i) d

  was_data : (m d t epoch tag : ℕ) (bytes : List ℕ) → IsData (past.told.letters ++ more) m d t epoch tag bytes → IsData past.told.letters m d t epoch tag bytes
  was_data m d t epoch tag bytes data_ = record { letter = data_.letter; there = was_there data_.letter data_.there (λ q. let e = data_.spells.kind_is in omega (arith, e, q)); data_ = data_.data_; spells = data_.spells; to = data_.to; device = data_.device; session_is = data_.session_is; epoch_is = data_.epoch_is; tag_is = data_.tag_is; bytes_are = data_.bytes_are }

  -- a read that was under way is one that the node had out, where its number is
  asked_before : (m : ℕ) (r : ReadBody) (a : Asking) → IsReading past.told.letters m r → IsAskedOn (parts.nodes m) a → (nodes_next m).session ≡ Some a.session → r.session ≡ a.session → r.tag ≡ a.tag → IsOfRead a r
  asked_before m r a reading (inl same) own session tag = let is = same.2 in same_read same.0 a r is (keeps.asked m r same.0 reading same.1 (session ∙ is.session) (tag ∙ is.tag))
  asked_before m r a reading (inr new) own session tag = absurd (
      let drawn = keeps.read_tagged m r reading in
      let some = drawn.some in
      let of = keeps.owned m a.session (sym (on.session m) ∙ own) in
      elim drawn.case [
        | inl old ↦ (let e = ap keeps.boot_of session in let boot = of.1 in omega (arith, old, e, boot))
        | inr le ↦ elim new [ inl zero_is ↦ omega (arith, some, tag, zero_is) | inr above ↦ omega (arith, le, tag, above) ]
      ])

  sound : (d : ℕ) → d < parts.made.devices → IsDeviceSound (with_nodes parts nodes_next) x (letters_more past more) keeps.history d
  sound d within = let was = keeps.devices d within in record {
    rows = was.rows;
    hands = was.hands;
    copies = was.copies;
    writes = subst (λ (f : ℕ → Option Out). AreWrites d past.told.greatest (last_row past.told.chain d) (rows_before past.told.chain d) (side_of past.told x parts.members d) (keeps.history.writes d) (keeps.history.wrotes d) keeps.history.actual f (knows_of nodes_next d) (IsClaimed (last past.told.chain) past.told.greatest)) (sym outs_same)
        (subst (λ (g : ℕ → Option DeviceRow). AreWrites d past.told.greatest (last_row past.told.chain d) (rows_before past.told.chain d) (side_of past.told x parts.members d) (keeps.history.writes d) (keeps.history.wrotes d) keeps.history.actual (outs_of parts.nodes) g (IsClaimed (last past.told.chain) past.told.greatest)) (sym (knows_same d)) was.writes);
    wrotes = was.wrotes;
    outs = subst (λ (f : ℕ → Option Out). AreOuts d (store_room parts.made) past.told.greatest (last_row past.told.chain d) (rows_before past.told.chain d) (handings d past.told.handed) (side_of past.told x parts.members d) (keeps.history.writes d) (keeps.history.wrotes d) keeps.history.actual f (knows_of nodes_next d) (IsClaimed (last past.told.chain) past.told.greatest)) (sym outs_same)
        (subst (λ (g : ℕ → Option DeviceRow). AreOuts d (store_room parts.made) past.told.greatest (last_row past.told.chain d) (rows_before past.told.chain d) (handings d past.told.handed) (side_of past.told x parts.members d) (keeps.history.writes d) (keeps.history.wrotes d) keeps.history.actual (outs_of parts.nodes) g (IsClaimed (last past.told.chain) past.told.greatest)) (sym (knows_same d)) was.outs);
    coming = λ l c. was.coming l (was_coming d l c);
    answering = λ w a. was.answering w (record { letter = a.letter; there = was_there a.letter a.there (λ q. let e = a.spells.kind_is in omega (arith, e, q)); wrote = a.wrote; spells = a.spells; from = a.from; device = a.device; session = a.session; epoch_is = a.epoch_is; sequence = a.sequence });
    copying = λ l a. was.copying l (record { letter = a.letter; there = was_there a.letter a.there (λ q. let e = a.spells.kind_is in omega (arith, e, q)); copy = a.copy; spells = a.spells; from = a.from; device = a.device; epoch_is = a.epoch_is; place = a.place; bytes = a.bytes });
    copied_to = λ g a. was.copied_to g (record { letter = a.letter; there = was_there a.letter a.there (λ q. let e = a.spells.kind_is in omega (arith, e, q)); copied = a.copied; spells = a.spells; from = a.from; device = a.device; epoch_is = a.epoch_is; place = a.place });
    labels = was.labels;
    down = was.down;
    known = was.known;
  }

  pub goes_on : Keeps (with_nodes parts nodes_next) x (letters_more past more)
  goes_on = record {
    history = keeps.history;
    devices = sound;
    count = keeps.count;
    rising = keeps.rising;
    highest = keeps.highest;
    placed = keeps.placed;
    actual_sent = keeps.actual_sent;
    out_actual = λ m w is. let old = keeps.out_actual m w (sym (on.out m) ∙ is) in (old.0, on.session m ∙ old.1);
    out_number = λ m w is. let le = keeps.out_number m w (sym (on.out m) ∙ is) in let same = on.sequence m in omega (arith, le, same);
    actual_given = keeps.actual_given;
    sendable = on.sendable;
    holding = on.holding;
    askable = on.askable;
    epochs = keeps.epochs;
    owing = keeps.owing;
    from_members = λ letter message there spells. elim (Contains-append_cases past.told.letters more letter there) [
      | inl old ↦ keeps.from_members letter message old spells
      | inr new ↦ not_member message letter.from (let e = spells.kind_is in let k = reads.kinds letter new in omega (arith, e, k))
    ];
    own_out = λ m w there is. on.out m ∙ keeps.own_out m w there (sym (on.session m) ∙ is);
    lasts = keeps.lasts;
    brings = keeps.brings;
    noted = on.noted;
    asking = on.asking;
    asked = λ m r a reading is session tag. elim (Contains-append_cases past.told.letters more reading.letter reading.there) [
      | inl before ↦ asked_before m r a (record { letter = reading.letter; there = before; spells = reading.spells; from = reading.from }) (on.asked m a is) (on.asking m a is).0 session tag
      | inr new ↦ (let it = reads.each m r (record { letter = reading.letter; there = new; spells = reading.spells; from = reading.from }) in
          let same : it.1.0 ≡ a = (let both : Some it.1.0 ≡ Some a = sym it.1.1 ∙ is in cc) in subst (λ (q : Asking). IsOfRead q r) same it.1.2)
    ];
    node_known = λ m t is. let old = keeps.node_known m t (sym (on.session m) ∙ is) in (old.0, old.1, old.2, on.rows m ∙ old.3, old.4);
    node_of = keeps.node_of;
    boot_of = keeps.boot_of;
    sessions = keeps.sessions;
    booted = keeps.booted;
    owned = λ m t is. keeps.owned m t (sym (on.session m) ∙ is);
    single = keeps.single;
    found_most = keeps.found_most;
    in_order = keeps.in_order;
    left = λ w there. same_left parts.nodes nodes_next past.told.chain past.told.knew past.told.boots past.told.down (keeps.node_of w.session) (keeps.boot_of w.session) w.session (on.session (keeps.node_of w.session)) (keeps.left w there);
    numbered = λ d l there. drawn_same _ _ _ _ _ _ _ (on.sequence (keeps.node_of l.session)) (keeps.numbered d l there);
    tagged = λ m d t epoch tag bytes data_. drawn_more _ _ _ _ _ _ _ (on.tag m) (keeps.tagged m d t epoch tag bytes (was_data m d t epoch tag bytes data_));
    read_tagged = λ m r read. elim (Contains-append_cases past.told.letters more read.letter read.there) [
      | inl before ↦ drawn_more _ _ _ _ _ _ _ (on.tag m) (keeps.read_tagged m r (record { letter = read.letter; there = before; spells = read.spells; from = read.from }))
      | inr new ↦ (let it = reads.each m r (record { letter = read.letter; there = new; spells = read.spells; from = read.from }) in
          let asks = on.asking m it.1.0 it.1.1 in let of = it.1.2 in let some = it.0 in
          drawn_own parts x past keeps m r.session r.tag (nodes_next m).tag (sym (on.session m) ∙ asks.0 ∙ ap (λ (k : ℕ). Some k) (sym of.session)) some (let le = asks.1 in let tag = of.tag in omega (arith, le, tag)))
    ];
    member_boots = keeps.member_boots;
    node_boots = λ m there up. on.boot m ∙ keeps.node_boots m there up;
  }

  -- what stands goes on
  stands_for : (From : DeviceRow → Type 0) (d sector : ℕ) (content : List ℕ) → StandsFor From parts x past d sector content → StandsFor From (with_nodes parts nodes_next) x (letters_more past more) d sector content
  stands_for From d sector content stands = stands_send d past.told.greatest From (last_row past.told.chain d) (rows_before past.told.chain d) (handings d past.told.handed) (side_of past.told x parts.members d)
      (IsComing past.told.letters d) (IsComing (past.told.letters ++ more) d) past.writes past.writes sector content (λ l other comes brings. inl (was_coming d l comes)) (λ w there. there) stands

  pub settles_on : (d sector : ℕ) (content : List ℕ) → IsSettledOn parts x past d sector content → IsSettledOn (with_nodes parts nodes_next) x (letters_more past more) d sector content
  settles_on d sector content settled = record { device = settled.device; behind_label = settled.behind_label; within = settled.within; is = stands_for Nowhere d sector content settled.is }

  pub stands_still : (d sector : ℕ) (content : List ℕ) (index : ℕ) → StandsOn parts x past d sector content index → StandsOn (with_nodes parts nodes_next) x (letters_more past more) d sector content index
  stands_still d sector content index stands = record { settled = settles_on d sector content stands.settled; stands = stands_for (KnownFrom past.told.chain d index) d sector content stands.stands }

  pub reads_on : (m : ℕ) (a : Asking) (sector : ℕ) (content : List ℕ) → WillReadOn parts x past m a sector content → WillReadOn (with_nodes parts nodes_next) x (letters_more past more) m a sector content
  reads_on m a sector content will = record {
    device = will.device;
    behind_label = will.behind_label;
    within = will.within;
    row = will.row;
    row_is = ap (λ (rs : List DeviceRow). slice_get rs a.device) (on.rows m) ∙ will.row_is;
    stands = stands_for (FromEpoch will.row.epoch) a.device sector content will.stands;
    coming = λ epoch bytes data_ from low high. will.coming epoch bytes (was_data m a.device a.session epoch a.tag bytes data_) from low high;
    came = will.came;
  }
