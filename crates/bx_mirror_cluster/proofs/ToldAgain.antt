-- Members are told of a write that is out, where they are missing: members and streams fit the past with these letters.
use Rattle.std.proofs.Common.{◌≡◌, ◌⊎◌, inl, inr, ℕ, ◌-◌, ◌<◌, ◌≤◌, Bool, true, false, Contains, List, [], ◌∷◌, ◌++◌, length, Option, Some, None, refl, sym, ◌∙◌, ap, subst, arith}
use Rattle.std.specs.Prelude.{◌==◌, slice_get, if◌then◌else◌}
use Rattle.std.specs.List.{AllByRecursion}
use Rattle.std.proofs.lemmas.List.Elements.{Contains-append_cases}
use Rattle.std.proofs.lemmas.Option.{slice_get_cases}
use Rattle.bx_base.specs.declared.names.Actor.TheVariants.{Node}
use Rattle.bx_disk.specs.Disks.{Disks, sector_of}
use Rattle.bx_facts.proofs.Lists.{front_or_behind, nothing}
use Rattle.bx_facts.specs.Chains.{last}
use Rattle.bx_facts.specs.Writes.{StorePast, WritesIn, store_room}
use Rattle.bx_post.specs.declared.packets.Letter.{Letter}
use Rattle.bx_records.specs.declared.runs.Run.{Run}
use Rattle.bx_rows.specs.Conditions.{Fits}
use Rattle.bx_rows.specs.declared.device.DeviceRow.{DeviceRow}
use Rattle.bx_mirror_laws.specs.Sides.{Among, Handing, Out, Side, WriteLetter}
use Rattle.bx_mirror_laws.specs.Acting.{FromEpoch, IsRow}
use Rattle.bx_mirror_laws.specs.Sound.{AreOuts, AreWrites, AreWrotes, Sends, sent_of}
use Rattle.bx_mirror_laws.proofs.Nodes.{outs_more, stands_send, writes_more, wrotes_more}
use Rattle.bx_mirror_packets.specs.Parting.{runs_on}
use Rattle.bx_mirror_client.specs.Letters.{letters_from}
use Rattle.bx_mirror_client.specs.Sends.{has_runs}
use Rattle.bx_mirror_client.specs.Streams.{Streaming}
use Rattle.bx_mirror_client.specs.declared.asking.Asking.{Asking}
use Rattle.bx_mirror_client.specs.declared.sending.Sending.{Sending}
use Rattle.bx_mirror_client.proofs.Telling.{runs_there, there_runs}
use Rattle.bx_mirror_packets.specs.declared.message.ReadBody.{ReadBody}
use Rattle.std.proofs.lemmas.Bool.Decides.{nat_tests}
use Rattle.bx_mirror_cluster.proofs.Drawn.{drawn_own, not_member}
use Rattle.bx_mirror_cluster.specs.Fitting.{History, IsClaimed, IsComing, IsDeviceSound, IsDrawn, IsReading, IsSettledOn, Keeps, KnownFrom, Nowhere, Parts, StandsFor, StandsOn, WillReadOn, handings, knows_of, last_row, out_by, outs_of, row_or, rows_before, side_of}
use Rattle.bx_mirror_cluster.specs.GoingOn.{letters_more}
use Rattle.bx_mirror_cluster.specs.Speaking.{BringsOnce, FitsPacket, IsSpoken, letter_of}
use Rattle.bx_mirror_cluster.proofs.Sent.{letter_in, told_both}
use Rattle.bx_mirror_cluster.proofs.Speaking.{coming_more, low_kinds}
use Rattle.bx_mirror_cluster.proofs.WriteSent.{IsNewer, newer_told, older_told, on_its, on_whole, told_if, told_in}

spoken : (runs : List Run) (run : Run) → AllByRecursion IsSpoken runs → Contains runs run → IsSpoken run
spoken [] run all there = absurd (nothing run there)
spoken (one ∷ rest) run all there = elim (front_or_behind one rest run there) [
  | inl here ↦ subst IsSpoken here all.0
  | inr more ↦ spoken rest run all.1 more
]

positive : (n : ℕ) → (n == 0) ≡ false → 1 ≤ n
positive n other = grind (arith, nat_tests, other)

module _ (parts : Parts) (x : Disks) (past : StorePast) (keeps : Keeps parts x past) (n : ℕ) (before : List DeviceRow) (s : Sending) (is_out : (parts.nodes n).out ≡ Some s) (number : (s.sequence == 0) ≡ false)
    (few : length (parts.nodes n).rows ≤ 4) where
  abbrev c : Streaming
  c = parts.nodes n

  abbrev o : Out
  o = record { session = s.session; sequence = s.sequence; until = s.until; runs = s.runs.1 }

  abbrev letters : List Letter
  letters = letters_from before c.node s 0 c.rows

  abbrev h : History
  h = keeps.history

  abbrev h_next : History
  h_next = record {
    actual = h.actual;
    writes = λ d. told_if (has_runs d s.runs.1) (slice_get c.rows d) o (runs_on d s.runs.1) (h.writes d);
    wrotes = h.wrotes;
    copies = h.copies;
    copieds = h.copieds;
    source = h.source;
  }

  abbrev live : Out → Type 0
  live = IsClaimed (last past.told.chain) past.told.greatest

  out_is : outs_of parts.nodes n ≡ Some o
  out_is = ap out_by is_out ∙ ap (λ (t : Bool). if t then None else Some o) number

  in_actual : Among h.actual o
  in_actual = (keeps.out_actual n o out_is).0

  own : c.session ≡ Some s.session
  own = (keeps.out_actual n o out_is).1

  fits : FitsPacket s
  fits = (keeps.sendable n s is_out).packet

  epochs : (k : ℕ) (row : DeviceRow) → slice_get c.rows k ≡ Some row → Fits row.epoch
  epochs k row there = let state = keeps.node_known n s.session own in keeps.epochs state.0 state.1 k row (ap (λ (rs : List DeviceRow). slice_get rs k) (sym state.3) ∙ there)

  its_node : (m : ℕ) → (parts.nodes m).session ≡ Some s.session → m ≡ n
  its_node m is = sym (keeps.owned m s.session is).0 ∙ (keeps.owned n s.session own).0

  was_there : (letter : Letter) → Contains (past.told.letters ++ letters) letter → 18 < letter.kind → Contains past.told.letters letter
  was_there letter there high = elim (Contains-append_cases past.told.letters letters letter there) [
    | inl old ↦ old
    | inr new ↦ absurd (let low = low_kinds before c.rows c.node s letter new in omega (arith, low, high))
  ]

  was_reading : (m : ℕ) (r : ReadBody) → IsReading (past.told.letters ++ letters) m r → IsReading past.told.letters m r
  was_reading m r read = record { letter = read.letter; there = was_there read.letter read.there (let e = read.spells.kind_is in omega (arith, e)); spells = read.spells; from = read.from }

  -- ---- a device

  module _ (d : ℕ) (within : d < parts.made.devices) where
    abbrev was : IsDeviceSound parts x past h d
    was = keeps.devices d within

    abbrev room : ℕ
    room = store_room parts.made

    abbrev last_ : DeviceRow
    last_ = last_row past.told.chain d

    abbrev older_ : List DeviceRow
    older_ = rows_before past.told.chain d

    abbrev handed : List Handing
    handed = handings d past.told.handed

    abbrev sides : Bool → Side
    sides = side_of past.told x parts.members d

    coming : (l : WriteLetter) → IsComing (past.told.letters ++ letters) d l → Among (h_next.writes d) l
    coming l comes = elim (coming_more before c.rows c.node s fits few epochs past.told.letters d l comes) [
      | inl old ↦ older_told (has_runs d s.runs.1) (slice_get c.rows d) o (runs_on d s.runs.1) (h.writes d) l (was.coming l old)
      | inr new ↦ subst (λ (b : Bool). Among (told_if b (slice_get c.rows d) o (runs_on d s.runs.1) (h.writes d)) l) (sym (there_runs d s.runs.1 new.runs))
          (subst (λ (r : Option DeviceRow). Among (told_in r o (runs_on d s.runs.1) (h.writes d)) l) (sym new.there) (by_member l.at new.row new.is))
    ]
      where
        by_member : (b : Bool) (row : DeviceRow) → l ≡ letter_of s d row b → Among (told_both o row (runs_on d s.runs.1) (h.writes d)) l
        by_member true row is = record { is = inl is }
        by_member false row is = record { is = inr (inl is) }

    module _ (k : DeviceRow) (there : slice_get c.rows d ≡ Some k) where
      row : IsRow last_ older_ k
      row =
          let state = keeps.node_known n s.session own in
          let is : slice_get state.0.devices d ≡ Some k = ap (λ (rs : List DeviceRow). slice_get rs d) (sym state.3) ∙ there in
          subst (IsRow last_ older_) (ap row_or is) (keeps.placed state.0 state.1 d)

      only : (other : Out) (r : DeviceRow) → Sends (outs_of parts.nodes) (knows_of parts.nodes d) live other r → other.session ≡ o.session → (other ≡ o) × (r ≡ k)
      only other r sends same =
          let e = its_node sends.node ((keeps.out_actual sends.node other sends.out).1 ∙ ap (λ (q : ℕ). Some q) same) in
          let both : Some other ≡ Some o = sym sends.out ∙ ap (λ (m : ℕ). outs_of parts.nodes m) e ∙ out_is in
          let rows : Some r ≡ Some k = sym sends.knows_it ∙ ap (λ (m : ℕ). slice_get (parts.nodes m).rows d) e ∙ there in
          (let f : other ≡ o = cc in f, let g : r ≡ k = cc in g)

      abbrev runs : List Run
      runs = runs_on d s.runs.1

      writes : AreWrites d past.told.greatest last_ older_ sides (told_both o k runs (h.writes d)) (h.wrotes d) h.actual (outs_of parts.nodes) (knows_of parts.nodes d) live
      writes =
          writes_more d room past.told.greatest last_ older_ handed sides (letter_in o k runs false ∷ h.writes d) (h.wrotes d) h.actual (outs_of parts.nodes) (knows_of parts.nodes d) live (letter_in o k runs true) o k row refl in_actual refl refl refl
          (on_its d s.runs.1) (on_whole d s.runs.1)
          (writes_more d room past.told.greatest last_ older_ handed sides (h.writes d) (h.wrotes d) h.actual (outs_of parts.nodes) (knows_of parts.nodes d) live (letter_in o k runs false) o k row refl in_actual refl refl refl
          (on_its d s.runs.1) (on_whole d s.runs.1) was.writes)

      outs : AreOuts d room past.told.greatest last_ older_ handed sides (told_both o k runs (h.writes d)) (h.wrotes d) h.actual (outs_of parts.nodes) (knows_of parts.nodes d) live
      outs =
          outs_more d room past.told.greatest last_ older_ handed sides (letter_in o k runs false ∷ h.writes d) (h.wrotes d) h.actual (outs_of parts.nodes) (knows_of parts.nodes d) live (letter_in o k runs true) o k row refl in_actual refl refl refl
          (on_its d s.runs.1) (on_whole d s.runs.1) only
          (outs_more d room past.told.greatest last_ older_ handed sides (h.writes d) (h.wrotes d) h.actual (outs_of parts.nodes) (knows_of parts.nodes d) live (letter_in o k runs false) o k row refl in_actual refl refl refl
          (on_its d s.runs.1) (on_whole d s.runs.1) only was.outs)

      wrotes : AreWrotes last_ older_ sides (told_both o k runs (h.writes d)) (h.wrotes d)
      wrotes =
          wrotes_more d room past.told.greatest last_ older_ handed sides (letter_in o k runs false ∷ h.writes d) (h.wrotes d) h.actual (outs_of parts.nodes) (knows_of parts.nodes d) live (letter_in o k runs true) o k row refl in_actual refl refl refl
          (on_its d s.runs.1) (on_whole d s.runs.1)
          (wrotes_more d room past.told.greatest last_ older_ handed sides (h.writes d) (h.wrotes d) h.actual (outs_of parts.nodes) (knows_of parts.nodes d) live (letter_in o k runs false) o k row refl in_actual refl refl refl
          (on_its d s.runs.1) (on_whole d s.runs.1) was.wrotes)

      record IsTold (ws : List WriteLetter) : Type 0 where
        now_writes : AreWrites d past.told.greatest last_ older_ sides ws (h.wrotes d) h.actual (outs_of parts.nodes) (knows_of parts.nodes d) live
        now_outs : AreOuts d room past.told.greatest last_ older_ handed sides ws (h.wrotes d) h.actual (outs_of parts.nodes) (knows_of parts.nodes d) live
        now_wrotes : AreWrotes last_ older_ sides ws (h.wrotes d)

      told : IsTold (h_next.writes d)
      told = by (has_runs d s.runs.1)
        where
          by : (b : Bool) → IsTold (told_if b (slice_get c.rows d) o (runs_on d s.runs.1) (h.writes d))
          by true = subst (λ (r : Option DeviceRow). IsTold (told_in r o (runs_on d s.runs.1) (h.writes d))) (sym there) (record { now_writes = writes; now_outs = outs; now_wrotes = wrotes })
          by false = record { now_writes = was.writes; now_outs = was.outs; now_wrotes = was.wrotes }

      sound_at : IsDeviceSound parts x (letters_more past letters) h_next d
      sound_at = record {
        rows = was.rows;
        hands = was.hands;
        copies = was.copies;
        writes = told.now_writes;
        wrotes = told.now_wrotes;
        outs = told.now_outs;
        coming = coming;
        answering = λ w a. was.answering w (record { letter = a.letter; there = was_there a.letter a.there (let e = a.spells.kind_is in omega (arith, e)); wrote = a.wrote; spells = a.spells; from = a.from; device = a.device; session = a.session; epoch_is = a.epoch_is; sequence = a.sequence });
        copying = λ l a. was.copying l (record { letter = a.letter; there = was_there a.letter a.there (let e = a.spells.kind_is in omega (arith, e)); copy = a.copy; spells = a.spells; from = a.from; device = a.device; epoch_is = a.epoch_is; place = a.place; bytes = a.bytes });
        copied_to = λ g a. was.copied_to g (record { letter = a.letter; there = was_there a.letter a.there (let e = a.spells.kind_is in omega (arith, e)); copied = a.copied; spells = a.spells; from = a.from; device = a.device; epoch_is = a.epoch_is; place = a.place });
        labels = was.labels;
        down = was.down;
        known = was.known;
      }

    sound : IsDeviceSound parts x (letters_more past letters) h_next d
    sound = elim (slice_get_cases c.rows d).1 [
      | inl k ↦ sound_at k.0 k.2
      | inr far ↦ absurd (let state = keeps.node_known n s.session own in let count = keeps.count state.0 state.1 in let long = ap length state.3 in let past_it = far.0 in omega (arith, past_it, count, long, within))
    ]

  -- ---- all of it

  brought : (d : ℕ) (l : WriteLetter) → Among (h.writes d) l ⊎ IsNewer (has_runs d s.runs.1) o (runs_on d s.runs.1) l → BringsOnce d l.runs
  brought d l (inl old) = keeps.brings d l old
  brought d l (inr new) =
      let has = runs_there d s.runs.1 new.has in
      let sectors = (spoken s.runs.1 has.0 fits.runs has.1).some in
      let y = has.0.place in
      let content = sector_of has.0.bytes (y - y) in
      let first : WritesIn s.runs.1 d y content = (has.0, has.1, record { on = has.2; from = omega arith; below = omega (arith, sectors); is = refl }) in
      record {
        some = (y, (content, subst (λ (rs : List Run). WritesIn rs d y content) (sym new.brings) (on_whole d s.runs.1 y content first)));
        once = λ z one other its also. (keeps.sendable n s is_out).runs.once d z one other (its_run d l new.brings z one its) (its_run d l new.brings z other also);
      }
    where
      its_run : (k : ℕ) (m : WriteLetter) → m.runs ≡ runs_on k s.runs.1 → (z : ℕ) (one : List ℕ) → WritesIn m.runs k z one → WritesIn s.runs.1 k z one
      its_run k m e z one its = on_its k s.runs.1 z one (subst (λ (rs : List Run). WritesIn rs k z one) e its)

  numbered : (d : ℕ) (l : WriteLetter) → Among (h.writes d) l ⊎ IsNewer (has_runs d s.runs.1) o (runs_on d s.runs.1) l
      → IsDrawn (last past.told.chain).next_session (keeps.boot_of l.session) (past.told.boots (Node (keeps.node_of l.session))) l.session l.sequence (parts.nodes (keeps.node_of l.session)).sequence
  numbered d l (inl old) = keeps.numbered d l old
  numbered d l (inr new) =
      subst (λ (t : ℕ). IsDrawn (last past.told.chain).next_session (keeps.boot_of t) (past.told.boots (Node (keeps.node_of t))) t l.sequence (parts.nodes (keeps.node_of t)).sequence) (sym new.session)
      (subst (λ (k : ℕ). IsDrawn (last past.told.chain).next_session (keeps.boot_of s.session) (past.told.boots (Node k)) s.session l.sequence (parts.nodes k).sequence) (sym (keeps.owned n s.session own).0)
      (drawn_own parts x past keeps n s.session l.sequence (parts.nodes n).sequence own (let it = new.sequence in let some = positive s.sequence number in omega (arith, it, some)) (let le = keeps.out_number n o out_is in let it = new.sequence in omega (arith, le, it))))

  pub told_keeps : Keeps parts x (letters_more past letters)
  told_keeps = record {
    history = h_next;
    devices = λ d within. sound d within;
    count = keeps.count;
    rising = keeps.rising;
    highest = keeps.highest;
    placed = keeps.placed;
    actual_sent = keeps.actual_sent;
    out_actual = keeps.out_actual;
    out_number = keeps.out_number;
    actual_given = keeps.actual_given;
    sendable = keeps.sendable;
    holding = keeps.holding;
    askable = keeps.askable;
    epochs = keeps.epochs;
    owing = keeps.owing;
    from_members = λ letter message there spells. elim (Contains-append_cases past.told.letters letters letter there) [
      | inl old ↦ keeps.from_members letter message old spells
      | inr new ↦ not_member message letter.from (let e = spells.kind_is in let k = low_kinds before c.rows c.node s letter new in omega (arith, e, k))
    ];
    own_out = keeps.own_out;
    lasts = λ d b session_of_it. elim (keeps.lasts d b session_of_it) [
      | inl zero_is ↦ inl zero_is
      | inr one ↦ inr (one.0, older_told (has_runs d s.runs.1) (slice_get c.rows d) o (runs_on d s.runs.1) (h.writes d) one.0 one.1, one.2, one.3)
    ];
    brings = λ d l there. brought d l (newer_told (has_runs d s.runs.1) (slice_get c.rows d) o (runs_on d s.runs.1) (h.writes d) l there);
    noted = keeps.noted;
    asking = keeps.asking;
    asked = λ m r a reading is same tag. keeps.asked m r a (was_reading m r reading) is same tag;
    node_known = keeps.node_known;
    node_of = keeps.node_of;
    boot_of = keeps.boot_of;
    sessions = keeps.sessions;
    booted = keeps.booted;
    owned = keeps.owned;
    single = keeps.single;
    found_most = keeps.found_most;
    in_order = keeps.in_order;
    left = keeps.left;
    numbered = λ d l there. numbered d l (newer_told (has_runs d s.runs.1) (slice_get c.rows d) o (runs_on d s.runs.1) (h.writes d) l there);
    tagged = λ m d t epoch tag bytes data_. keeps.tagged m d t epoch tag bytes (record { letter = data_.letter; there = was_there data_.letter data_.there (let e = data_.spells.kind_is in omega (arith, e)); data_ = data_.data_; spells = data_.spells; to = data_.to; device = data_.device; session_is = data_.session_is; epoch_is = data_.epoch_is; tag_is = data_.tag_is; bytes_are = data_.bytes_are });
    read_tagged = λ m r read. keeps.read_tagged m r (was_reading m r read);
    member_boots = keeps.member_boots;
    node_boots = keeps.node_boots;
  }

  -- ---- what stands goes on

  stands_for : (From : DeviceRow → Type 0) (d sector : ℕ) (content : List ℕ) → StandsFor From parts x past d sector content → StandsFor From parts x (letters_more past letters) d sector content
  stands_for From d sector content stands = stands_send d past.told.greatest From (last_row past.told.chain d) (rows_before past.told.chain d) (handings d past.told.handed) (side_of past.told x parts.members d)
      (IsComing past.told.letters d) (IsComing (past.told.letters ++ letters) d) past.writes past.writes sector content
      (λ l other comes brings. elim (coming_more before c.rows c.node s fits few epochs past.told.letters d l comes) [
        | inl old ↦ inl old
        | inr new ↦ inr (record {
          write = sent_of o;
          there = keeps.actual_sent o in_actual;
          until = sym (ap (λ (m : WriteLetter). m.until) new.is);
          brings = on_its d s.runs.1 sector other (subst (λ (m : WriteLetter). WritesIn m.runs d sector other) new.is brings);
        })
      ])
      (λ w there. there) stands

  pub settles_told : (d sector : ℕ) (content : List ℕ) → IsSettledOn parts x past d sector content → IsSettledOn parts x (letters_more past letters) d sector content
  settles_told d sector content settled = record { device = settled.device; behind_label = settled.behind_label; within = settled.within; is = stands_for Nowhere d sector content settled.is }

  pub stands_told : (d sector : ℕ) (content : List ℕ) (index : ℕ) → StandsOn parts x past d sector content index → StandsOn parts x (letters_more past letters) d sector content index
  stands_told d sector content index stands = record { settled = settles_told d sector content stands.settled; stands = stands_for (KnownFrom past.told.chain d index) d sector content stands.stands }

  pub reads_told : (m : ℕ) (a : Asking) (sector : ℕ) (content : List ℕ) → WillReadOn parts x past m a sector content → WillReadOn parts x (letters_more past letters) m a sector content
  reads_told m a sector content will = record {
    device = will.device;
    behind_label = will.behind_label;
    within = will.within;
    row = will.row;
    row_is = will.row_is;
    stands = stands_for (FromEpoch will.row.epoch) a.device sector content will.stands;
    coming = λ epoch bytes data_ from low high. will.coming epoch bytes (record { letter = data_.letter; there = was_there data_.letter data_.there (let e = data_.spells.kind_is in omega (arith, e)); data_ = data_.data_; spells = data_.spells; to = data_.to; device = data_.device; session_is = data_.session_is; epoch_is = data_.epoch_is; tag_is = data_.tag_is; bytes_are = data_.bytes_are }) from low high;
    came = will.came;
  }
