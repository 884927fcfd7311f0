-- Steps of a node's event, each of which leaves what an event does.
use Rattle.std.proofs.Common.{◌≡◌, ◌≢◌, ◌⊎◌, inl, inr, ℕ, ◌+◌, ◌*◌, ◌-◌, ◌<◌, ◌≤◌, Bool, true, false, Contains, List, [], length, Option, Some, None, refl, sym, ◌∙◌, ap, subst, arith}
use Rattle.std.specs.Prelude.{◌==◌, ◌&&◌, slice_get, if◌then◌else◌}
use Rattle.std.proofs.lemmas.Bool.Decides.{nat_tests}
use Rattle.std.proofs.lemmas.List.{append_assoc}
use Rattle.bx_disk.specs.Disks.{Disks, sector_of}
use Rattle.bx_facts.specs.Writes.{StorePast}
use Rattle.bx_global.specs.declared.state.GlobalState.{GlobalState}
use Rattle.bx_post.specs.declared.packets.Letter.{Letter}
use Rattle.bx_rows.specs.declared.device.DeviceRow.{DeviceRow}
use Rattle.bx_base.specs.declared.names.Actor.TheVariants.{Member, Node}
use Rattle.bx_mirror_laws.specs.Acting.{FromEpoch}
use Rattle.bx_mirror_packets.specs.DeviceMessages.{Spells}
use Rattle.bx_mirror_packets.specs.declared.message.DataBody.{DataBody}
use Rattle.bx_mirror_packets.specs.declared.message.DeviceMessage.TheVariants.{Data, Wrote}
use Rattle.bx_mirror_packets.specs.declared.message.WroteBody.{WroteBody}
use Rattle.bx_mirror_client.specs.Asks.{fits, is_awaited}
use Rattle.bx_mirror_client.specs.Events.{asks_answered, out_acked}
use Rattle.bx_mirror_client.specs.Letters.{is_new_for, letters_from, read_letters, write_letters}
use Rattle.bx_mirror_client.specs.Streams.{Streaming, answered, asks_in, is_session, learned, letters_since}
use Rattle.bx_mirror_client.specs.declared.asking.Asking.{Asking}
use Rattle.bx_mirror_client.specs.declared.sending.Sending.{Sending}
use Rattle.bx_mirror_client.proofs.Telling.{both}
use Rattle.bx_mirror_cluster.specs.Fitting.{IsData, IsSettledOn, Keeps, Parts, StandsFor, StandsOn, WillReadOn}
use Rattle.bx_mirror_cluster.specs.GoesFurther.{StreamsGo}
use Rattle.bx_mirror_cluster.specs.GoingOn.{IsSameRead, letters_more}
use Rattle.bx_mirror_cluster.specs.Learning.{MayLearn, knowing, with_clock}
use Rattle.bx_mirror_cluster.specs.Writing.{with_node, with_stream}
use Rattle.bx_mirror_cluster.proofs.Clock.{clock_keeps, reads_clock, settles_clock, stands_clock}
use Rattle.bx_mirror_cluster.proofs.GoingOn.{reads_on, settles_on, stands_still}
use Rattle.bx_mirror_cluster.proofs.Learned.{others_learned, reads_learned, settles_learned, stands_learned}
use Rattle.bx_mirror_cluster.proofs.NodeSteps.{answer_taken, itself_asked, left_is, same_past}
use Rattle.bx_mirror_cluster.proofs.NodeTakes.{ack_heard, again, at_out, base, base_so, data_heard, here_is, node_learned, other_is, out_of_own, reads_more, reads_told, session}
use Rattle.bx_mirror_cluster.proofs.ToldAgain.{reads_told as reads_again, settles_told, stands_told, told_keeps}

same_or : (n m : ℕ) → (n ≡ m) ⊎ (n ≢ m)
same_or n m = grind arith

-- ---- one step after another

same_through : (was mid a : Asking) → IsSameRead was mid → IsSameRead mid a → IsSameRead was a
same_through was mid a first second = record { session = second.session ∙ first.session; tag = second.tag ∙ first.tag; device = second.device ∙ first.device; place = second.place ∙ first.place; sectors = second.sectors ∙ first.sectors }

pub streams_both : (parts middle next : Parts) (x : Disks) (past then_ after : StorePast) → StreamsGo parts middle x past then_ → StreamsGo middle next x then_ after → StreamsGo parts next x past after
streams_both parts middle next x past then_ after first second = record {
  keeps = second.keeps;
  settles = λ d sector content settled. second.settles d sector content (first.settles d sector content settled);
  stands = λ d sector content index stands. second.stands d sector content index (first.stands d sector content index stands);
  asks = λ m a is. let mid = second.asks m a is in let was = first.asks m mid.0 mid.1 in (was.0, was.1, same_through was.0 mid.0 a was.2 mid.2);
  reads = λ m was a sector content had is will. let mid = second.asks m a is in second.reads m mid.0 a sector content mid.1 is (first.reads m was mid.0 sector content had mid.1 will);
}

-- no stream changes
pub none_change : (parts : Parts) (x : Disks) (past then_ : StorePast) → Keeps parts x then_
    → ((d sector : ℕ) (content : List ℕ) → IsSettledOn parts x past d sector content → IsSettledOn parts x then_ d sector content)
    → ((d sector : ℕ) (content : List ℕ) (index : ℕ) → StandsOn parts x past d sector content index → StandsOn parts x then_ d sector content index)
    → ((m : ℕ) (a : Asking) (sector : ℕ) (content : List ℕ) → WillReadOn parts x past m a sector content → WillReadOn parts x then_ m a sector content) → StreamsGo parts parts x past then_
none_change parts x past then_ keeps settles stands reads = record {
  keeps = keeps;
  settles = settles;
  stands = stands;
  asks = λ m a is. (a, is, itself_asked a);
  reads = λ m was a sector content had is will. let same : was ≡ a = (let e : Some was ≡ Some a = sym had ∙ is in cc) in
      subst (λ (q : Asking). WillReadOn parts x then_ m q sector content) same (reads m was sector content will);
}

pub nothing_more : (parts : Parts) (x : Disks) (past : StorePast) → Keeps parts x past → StreamsGo parts parts x past (letters_more past [])
nothing_more parts x past keeps = subst (λ (p : StorePast). StreamsGo parts parts x past p) (sym (same_past past))
    (none_change parts x past past keeps (λ d sector content settled. settled) (λ d sector content index stands. stands) (λ m a sector content will. will))

pub clock_streams : (parts : Parts) (x : Disks) (past : StorePast) (later : ℕ) → past.told.greatest ≤ later → Keeps parts x past → StreamsGo parts parts x past (with_clock past later)
clock_streams parts x past later rises keeps = none_change parts x past (with_clock past later) (clock_keeps parts x past later rises keeps)
    (settles_clock parts x past later rises) (stands_clock parts x past later rises) (reads_clock parts x past later rises)

-- ---- one node's stream changes, and no letter

-- An answer that a read has is the one that it had, or one under way in the epoch of its row.
abbrev pub HasCome : StorePast → ℕ → List DeviceRow → Asking → Asking → Type 0
HasCome past n rows was a = (bytes : List ℕ) → a.answer ≡ Some bytes → (was.answer ≡ Some bytes) ⊎ ((row : DeviceRow) × (slice_get rows was.device ≡ Some row) × IsData past.told.letters n was.device was.session row.epoch was.tag bytes)

module _ (parts : Parts) (x : Disks) (past : StorePast) (n : ℕ) (q : Streaming) (keeps : Keeps (with_stream parts n q) x past) (rows : q.rows ≡ (parts.nodes n).rows)
    (asks : (a : Asking) → q.asks ≡ Some a → (was : Asking) × ((parts.nodes n).asks ≡ Some was) × IsSameRead was a × HasCome past n (parts.nodes n).rows was a) where
  at_it : (m : ℕ) → m ≡ n → with_node parts.nodes n q m ≡ q
  at_it m e = ap (λ (k : ℕ). with_node parts.nodes n q k) e ∙ here_is parts.nodes n q

  settles_so : (d sector : ℕ) (content : List ℕ) → IsSettledOn parts x past d sector content → IsSettledOn (with_stream parts n q) x past d sector content
  settles_so d sector content settled = record { device = settled.device; behind_label = settled.behind_label; within = settled.within; is = settled.is }

  asks_so : (m : ℕ) (a : Asking) → (with_node parts.nodes n q m).asks ≡ Some a → (was : Asking) × ((parts.nodes m).asks ≡ Some was) × IsSameRead was a
  asks_so m a is = elim (same_or m n) [
    | inl e ↦ (let it = asks a (sym (ap (λ (s : Streaming). s.asks) (at_it m e)) ∙ is) in (it.0, ap (λ (k : ℕ). (parts.nodes k).asks) e ∙ it.1, it.2))
    | inr e ↦ (a, sym (ap (λ (s : Streaming). s.asks) (other_is parts.nodes n q m e)) ∙ is, itself_asked a)
  ]

  own_reads : (was a : Asking) (sector : ℕ) (content : List ℕ) → IsSameRead was a → HasCome past n (parts.nodes n).rows was a → WillReadOn parts x past n was sector content → WillReadOn (with_stream parts n q) x past n a sector content
  own_reads was a sector content same come will =
      let device = same.device in let place = same.place in let sectors = same.sectors in
      record {
        device = subst (λ (k : ℕ). k < parts.made.devices) (sym device) will.device;
        behind_label = will.behind_label;
        within = will.within;
        row = will.row;
        row_is = ap (λ (s : Streaming). slice_get s.rows a.device) (here_is parts.nodes n q) ∙ ap (λ (rs : List DeviceRow). slice_get rs a.device) rows ∙ ap (λ (k : ℕ). slice_get (parts.nodes n).rows k) device ∙ will.row_is;
        stands = subst (λ (k : ℕ). StandsFor (FromEpoch will.row.epoch) (with_stream parts n q) x past k sector content) (sym device) will.stands;
        coming = λ epoch bytes data_ from low high. subst (λ (k : ℕ). sector_of bytes (sector - k) ≡ content) (sym place)
            (will.coming epoch bytes (record { letter = data_.letter; there = data_.there; data_ = data_.data_; spells = data_.spells; to = data_.to; device = data_.device ∙ device; session_is = data_.session_is ∙ same.session; epoch_is = data_.epoch_is; tag_is = data_.tag_is ∙ same.tag; bytes_are = data_.bytes_are })
            from (omega (arith, low, place)) (omega (arith, high, place, sectors)));
        came = λ bytes is low high. subst (λ (k : ℕ). sector_of bytes (sector - k) ≡ content) (sym place) (elim (come bytes is) [
          | inl old ↦ will.came bytes old (omega (arith, low, place)) (omega (arith, high, place, sectors))
          | inr new ↦ (let e : Some will.row ≡ Some new.0 = sym will.row_is ∙ new.1 in let f = ap (λ (r : DeviceRow). r.epoch) (let g : will.row ≡ new.0 = cc in g) in
              will.coming new.0.epoch bytes new.2 (omega (arith, f)) (omega (arith, low, place)) (omega (arith, high, place, sectors)))
        ]);
      }

  other_reads : (m : ℕ) (a : Asking) (sector : ℕ) (content : List ℕ) → m ≢ n → WillReadOn parts x past m a sector content → WillReadOn (with_stream parts n q) x past m a sector content
  other_reads m a sector content other will = record {
    device = will.device;
    behind_label = will.behind_label;
    within = will.within;
    row = will.row;
    row_is = ap (λ (s : Streaming). slice_get s.rows a.device) (other_is parts.nodes n q m other) ∙ will.row_is;
    stands = will.stands;
    coming = will.coming;
    came = will.came;
  }

  pub stream_goes : StreamsGo parts (with_stream parts n q) x past past
  stream_goes = record {
    keeps = keeps;
    settles = settles_so;
    stands = λ d sector content index stands. record { settled = settles_so d sector content stands.settled; stands = stands.stands };
    asks = asks_so;
    reads = λ m was a sector content had is will. elim (same_or m n) [
      | inl e ↦ (let it = asks a (sym (ap (λ (s : Streaming). s.asks) (at_it m e)) ∙ is) in
          let both_are : Some was ≡ Some it.0 = sym had ∙ ap (λ (k : ℕ). (parts.nodes k).asks) e ∙ it.1 in
          let same : was ≡ it.0 = cc in
          subst (λ (k : ℕ). WillReadOn (with_stream parts n q) x past k a sector content) (sym e)
          (own_reads it.0 a sector content it.2 it.3 (subst (λ (w : Asking). WillReadOn parts x past n w sector content) same (subst (λ (k : ℕ). WillReadOn parts x past k was sector content) e will))))
      | inr e ↦ (let both_are : Some was ≡ Some a = sym had ∙ sym (ap (λ (s : Streaming). s.asks) (other_is parts.nodes n q m e)) ∙ is in let same : was ≡ a = cc in
          subst (λ (w : Asking). WillReadOn (with_stream parts n q) x past m w sector content) same (other_reads m was sector content e will))
    ];
  }

-- its read is the one that it had
pub asks_kept : (past : StorePast) (n : ℕ) (rows : List DeviceRow) (o : Option Asking) (a : Asking) → o ≡ Some a → (was : Asking) × (o ≡ Some was) × IsSameRead was a × HasCome past n rows was a
asks_kept past n rows o a is = (a, is, itself_asked a, λ bytes it. inl it)

-- ---- it learns a state

module _ (parts : Parts) (x : Disks) (past : StorePast) (keeps : Keeps parts x past) (n : ℕ) (known : GlobalState) (may : MayLearn parts past n known) where
  abbrev it : Streaming
  it = parts.nodes n

  abbrev then_ : StorePast
  then_ = knowing past n known.index

  abbrev base_stream : Streaming
  base_stream = at_out parts x past keeps n known may (out_of_own (session parts x past keeps n known may) it.out)

  answer_so : (own : Option ℕ) (o : Option Asking) (was a : Asking) → o ≡ Some was → asks_in own it.rows known.devices o ≡ Some a → (a.answer ≡ None) ⊎ (a.answer ≡ was.answer)
  answer_so own None was a had is = absurd (let no : None ≡ Some was = had in cc)
  answer_so own (Some b) was a had is = by (is_session own b.session) (is_new_for it.rows known.devices b.device) is
    where
      its : b ≡ was
      its = cc

      by : (t u : Bool) → (if t then Some (if u then record b { answer = None } else b) else None) ≡ Some a → (a.answer ≡ None) ⊎ (a.answer ≡ was.answer)
      by true true same_is = let same : record b { answer = None } ≡ a = cc in inl (sym (ap (λ (q : Asking). q.answer) same))
      by true false same_is = let same : b ≡ a = cc in inr (sym (ap (λ (q : Asking). q.answer) same) ∙ ap (λ (q : Asking). q.answer) its)
      by false u none = absurd (let no : None ≡ Some a = none in cc)

  base_goes : StreamsGo parts (with_stream parts n base_stream) x past then_
  base_goes = record {
    keeps = base parts x past keeps n known may;
    settles = settles_learned parts x past keeps n known may base_stream (base_so parts x past keeps n known may);
    stands = stands_learned parts x past keeps n known may base_stream (base_so parts x past keeps n known may);
    asks = λ m a is. elim (same_or m n) [
      | inl e ↦ (let so = ((base_so parts x past keeps n known may).asks a (sym (ap (λ (s : Streaming). s.asks) (at m e)) ∙ is)).1 in (so.0, ap (λ (k : ℕ). (parts.nodes k).asks) e ∙ so.1, so.2))
      | inr e ↦ (a, sym (ap (λ (s : Streaming). s.asks) (other_is parts.nodes n base_stream m e)) ∙ is, itself_asked a)
    ];
    reads = λ m was a sector content had is will. elim (same_or m n) [
      | inl e ↦ (let so = ((base_so parts x past keeps n known may).asks a (sym (ap (λ (s : Streaming). s.asks) (at m e)) ∙ is)).1 in
          let own : it.asks ≡ Some was = ap (λ (k : ℕ). (parts.nodes k).asks) (sym e) ∙ had in
          let both_are : Some so.0 ≡ Some was = sym so.1 ∙ own in
          let same : IsSameRead was a = subst (λ (w : Asking). IsSameRead w a) (let f : so.0 ≡ was = cc in f) so.2 in
          subst (λ (k : ℕ). WillReadOn (with_stream parts n base_stream) x then_ k a sector content) (sym e)
          (reads_learned parts x past keeps n known may base_stream (base_so parts x past keeps n known may) was a sector content own same.session same.tag same.device same.place same.sectors
          (answer_so (session parts x past keeps n known may) it.asks was a own (sym (ap (λ (s : Streaming). s.asks) (at m e)) ∙ is)) will.device
          (subst (λ (k : ℕ). WillReadOn parts x past k was sector content) e will)))
      | inr e ↦ (let both_are : Some was ≡ Some a = sym had ∙ sym (ap (λ (s : Streaming). s.asks) (other_is parts.nodes n base_stream m e)) ∙ is in let same : was ≡ a = cc in
          subst (λ (w : Asking). WillReadOn (with_stream parts n base_stream) x then_ m w sector content) same
          (others_learned parts x past keeps n known may base_stream (base_so parts x past keeps n known may) m was sector content e will))
    ];
  }
    where
      at : (m : ℕ) → m ≡ n → with_node parts.nodes n base_stream m ≡ base_stream
      at m e = ap (λ (k : ℕ). with_node parts.nodes n base_stream k) e ∙ here_is parts.nodes n base_stream

  pub learned_goes : StreamsGo parts (with_stream parts n (learned known it)) x past then_
  learned_goes = streams_both parts (with_stream parts n base_stream) (with_stream parts n (learned known it)) x past then_ then_ base_goes
      (subst (λ (p : Parts). StreamsGo (with_stream parts n base_stream) p x then_ then_) twice
      (stream_goes (with_stream parts n base_stream) x then_ n (learned known it) (subst (λ (p : Parts). Keeps p x then_) (sym twice) (node_learned parts x past keeps n known may))
      (sym (ap (λ (s : Streaming). s.rows) (here_is parts.nodes n base_stream)))
      (λ a is. asks_kept then_ n _ _ a (ap (λ (s : Streaming). s.asks) (here_is parts.nodes n base_stream) ∙ is))))
    where
      twice : with_stream (with_stream parts n base_stream) n (learned known it) ≡ with_stream parts n (learned known it)
      twice = again parts n base_stream (λ s. learned known it)

-- ---- it tells members

-- the past with letters of its write
abbrev pub past_told : Parts → StorePast → ℕ → List DeviceRow → StorePast
past_told parts past n before = letters_more past (write_letters before (parts.nodes n).node (parts.nodes n).out (parts.nodes n).rows)

pub since_goes : (parts : Parts) (x : Disks) (past : StorePast) (n : ℕ) (before : List DeviceRow) → Keeps parts x past → length (parts.nodes n).rows ≤ 4 → (parts.nodes n).node ≡ n → StreamsGo parts parts x past (letters_more past (letters_since before (parts.nodes n)))
since_goes parts x past n before keeps few itself =
    subst (λ (ls : List Letter). let p : StorePast = record past { told = record past.told { letters = ls } } in StreamsGo parts parts x past p)
    (append_assoc past.told.letters (write_letters before (parts.nodes n).node (parts.nodes n).out (parts.nodes n).rows) (read_letters before (parts.nodes n).node (parts.nodes n).asks (parts.nodes n).rows))
    (streams_both parts parts parts x past (past_told parts past n before) (letters_more (past_told parts past n before) (read_letters before (parts.nodes n).node (parts.nodes n).asks (parts.nodes n).rows)) writes (reads (parts.nodes n).asks refl))
  where
    by : (o : Option Sending) → (parts.nodes n).out ≡ o → StreamsGo parts parts x past (letters_more past (write_letters before (parts.nodes n).node o (parts.nodes n).rows))
    by None e = nothing_more parts x past keeps
    by (Some s) e = pick (s.sequence == 0) refl
      where
        pick : (b : Bool) → (s.sequence == 0) ≡ b → StreamsGo parts parts x past (letters_more past (if b then [] else letters_from before (parts.nodes n).node s 0 (parts.nodes n).rows))
        pick true number = nothing_more parts x past keeps
        pick false number = none_change parts x past (letters_more past (letters_from before (parts.nodes n).node s 0 (parts.nodes n).rows)) (told_keeps parts x past keeps n before s e number few)
            (settles_told parts x past keeps n before s e number few) (stands_told parts x past keeps n before s e number few) (reads_again parts x past keeps n before s e number few)

    writes : StreamsGo parts parts x past (past_told parts past n before)
    writes = by (parts.nodes n).out refl

    reads : (o : Option Asking) → (parts.nodes n).asks ≡ o → StreamsGo parts parts x (past_told parts past n before) (letters_more (past_told parts past n before) (read_letters before (parts.nodes n).node o (parts.nodes n).rows))
    reads None e = nothing_more parts x (past_told parts past n before) writes.keeps
    reads (Some a) e = let more = reads_more parts x (past_told parts past n before) n before writes.keeps itself a e in
        let letters = read_letters before (parts.nodes n).node (Some a) (parts.nodes n).rows in
        none_change parts x (past_told parts past n before) (letters_more (past_told parts past n before) letters)
        (subst (λ (o : Option Asking). Keeps parts x (letters_more (past_told parts past n before) (read_letters before (parts.nodes n).node o (parts.nodes n).rows))) e (reads_told parts x (past_told parts past n before) n before writes.keeps itself))
        (settles_on parts x (past_told parts past n before) writes.keeps parts.nodes letters more.0 more.1) (stands_still parts x (past_told parts past n before) writes.keeps parts.nodes letters more.0 more.1) (reads_on parts x (past_told parts past n before) writes.keeps parts.nodes letters more.0 more.1)

-- ---- it hears an acknowledgement, or an answer

pub ack_goes : (parts : Parts) (x : Disks) (past : StorePast) (n member : ℕ) (w : WroteBody) (letter : Letter) → Keeps parts x past → Contains past.told.letters letter → letter.from ≡ Member member → Spells (Wrote w) letter.kind letter.body
    → StreamsGo parts (with_stream parts n (record (parts.nodes n) { out = out_acked member w (parts.nodes n).rows (parts.nodes n).out })) x past past
ack_goes parts x past n member w letter keeps there from says =
    stream_goes parts x past n (record (parts.nodes n) { out = out_acked member w (parts.nodes n).rows (parts.nodes n).out }) (ack_heard parts x past n member w letter keeps there from says) refl
    (λ a is. asks_kept past n (parts.nodes n).rows (parts.nodes n).asks a is)

-- what fits a read is data of it
come_so : (past : StorePast) (n : ℕ) (d : DataBody) (letter : Letter) → Contains past.told.letters letter → letter.to ≡ Node n → Spells (Data d) letter.kind letter.body → (rows : List DeviceRow) (b : Asking) → fits (slice_get rows b.device) b d ≡ true
    → (row : DeviceRow) × (slice_get rows b.device ≡ Some row) × IsData past.told.letters n b.device b.session row.epoch b.tag d.bytes
come_so past n d letter there to says rows b = by (slice_get rows b.device) refl
  where
    by : (o : Option DeviceRow) → slice_get rows b.device ≡ o → fits o b d ≡ true → (row : DeviceRow) × (slice_get rows b.device ≡ Some row) × IsData past.told.letters n b.device b.session row.epoch b.tag d.bytes
    by None e wrong = absurd (let f : false ≡ true = wrong in cc)
    by (Some row) e fit =
        let one = both (d.session == b.session) ((d.tag == b.tag) && ((d.device == b.device) && ((d.epoch == row.epoch) && (length d.bytes == 512 * b.sectors)))) fit in
        let two = both (d.tag == b.tag) ((d.device == b.device) && ((d.epoch == row.epoch) && (length d.bytes == 512 * b.sectors))) one.1 in
        let three = both (d.device == b.device) ((d.epoch == row.epoch) && (length d.bytes == 512 * b.sectors)) two.1 in
        let four = both (d.epoch == row.epoch) (length d.bytes == 512 * b.sectors) three.1 in
        let first = one.0 in let second = two.0 in let third = three.0 in let fourth = four.0 in
        (row, e, record { letter = letter; there = there; data_ = d; spells = says; to = to; device = grind (arith, nat_tests, third); session_is = grind (arith, nat_tests, first); epoch_is = grind (arith, nat_tests, fourth); tag_is = grind (arith, nat_tests, second); bytes_are = refl })

pub data_goes : (parts : Parts) (x : Disks) (past : StorePast) (n : ℕ) (d : DataBody) (letter : Letter) → Keeps parts x past → Contains past.told.letters letter → letter.to ≡ Node n → Spells (Data d) letter.kind letter.body
    → StreamsGo parts (with_stream parts n (record (parts.nodes n) { asks = asks_answered d (parts.nodes n).rows (parts.nodes n).asks })) x past past
data_goes parts x past n d letter keeps there to says =
    stream_goes parts x past n (record (parts.nodes n) { asks = asks_answered d (parts.nodes n).rows (parts.nodes n).asks }) (data_heard parts x past n d keeps) refl (λ a is. by (parts.nodes n).asks a is)
  where
    by : (o : Option Asking) (a : Asking) → asks_answered d (parts.nodes n).rows o ≡ Some a → (was : Asking) × (o ≡ Some was) × IsSameRead was a × HasCome past n (parts.nodes n).rows was a
    by None a is = absurd (let no : None ≡ Some a = is in cc)
    by (Some b) a is = pick (is_awaited b && fits (slice_get (parts.nodes n).rows b.device) b d) refl is
      where
        pick : (t : Bool) → (is_awaited b && fits (slice_get (parts.nodes n).rows b.device) b d) ≡ t → (if t then Some (record b { answer = Some d.bytes }) else Some b) ≡ Some a
            → (was : Asking) × (Some b ≡ Some was) × IsSameRead was a × HasCome past n (parts.nodes n).rows was a
        pick true e same_is = let same : record b { answer = Some d.bytes } ≡ a = cc in
            let come = come_so past n d letter there to says (parts.nodes n).rows b (both (is_awaited b) (fits (slice_get (parts.nodes n).rows b.device) b d) e).1 in (
              b,
              refl,
              subst (IsSameRead b) same (record { session = refl; tag = refl; device = refl; place = refl; sectors = refl }),
              subst (λ (q : Asking). HasCome past n (parts.nodes n).rows b q) same (λ bytes it. inr (come.0, come.1, (let f : Some d.bytes ≡ Some bytes = it in subst (λ (bs : List ℕ). IsData past.told.letters n b.device b.session come.0.epoch b.tag bs) (let g : d.bytes ≡ bytes = cc in g) come.2))),
            )
        pick false e same_is = let same : b ≡ a = cc in (b, refl, subst (IsSameRead b) same (itself_asked b), subst (λ (q : Asking). HasCome past n (parts.nodes n).rows b q) same (λ bytes it. inl it))

-- ---- its answer is taken

pub answered_goes : (parts : Parts) (x : Disks) (past : StorePast) (n : ℕ) → Keeps parts x past → StreamsGo parts (with_stream parts n (answered (parts.nodes n))) x past past
answered_goes parts x past n keeps = stream_goes parts x past n (answered (parts.nodes n)) (answer_taken parts x past n keeps) refl (λ a is. asks_kept past n (parts.nodes n).rows (parts.nodes n).asks a (left_is (parts.nodes n).asks a is))

-- and it is what was promised
pub answer_is : (parts : Parts) (x : Disks) (past : StorePast) (n : ℕ) (a : Asking) (sector : ℕ) (content bytes : List ℕ) → WillReadOn parts x past n a sector content → a.answer ≡ Some bytes → a.place ≤ sector → sector < a.place + a.sectors → sector_of bytes (sector - a.place) ≡ content
answer_is parts x past n a sector content bytes will is low high = will.came bytes is low high
