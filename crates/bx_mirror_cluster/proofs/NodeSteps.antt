-- A node sends a read, takes the answer, and notes an acknowledgement.
use Rattle.std.proofs.Common.{◌≡◌, ◌≢◌, ◌⊎◌, inl, inr, ℕ, ◌+◌, ◌/◌, ◌<◌, ◌≤◌, Bool, true, false, Contains, List, [], ◌∷◌, ◌++◌, Option, Some, None, refl, sym, ◌∙◌, ap, subst, arith}
use Rattle.std.specs.Prelude.{◌==◌, ◌&&◌, not, is_some, slice_get, if◌then◌else◌}
use Rattle.std.proofs.lemmas.Bool.Decides.{nat_tests}
use Rattle.std.proofs.lemmas.List.{append-nil}
use Rattle.bx_base.specs.declared.names.Actor.{Actor}
use Rattle.bx_base.specs.declared.names.Actor.TheVariants.{Member, Node, Replica, Server}
use Rattle.bx_disk.specs.Disks.{Disks}
use Rattle.bx_facts.proofs.Lists.{front_or_behind, nothing}
use Rattle.bx_facts.specs.Writes.{Made, StorePast}
use Rattle.bx_global.specs.Table.{greatest}
use Rattle.bx_post.specs.declared.packets.Letter.{Letter}
use Rattle.bx_rows.specs.declared.device.DeviceRow.{DeviceRow}
use Rattle.bx_mirror_laws.specs.Sides.{Among}
use Rattle.bx_mirror_packets.specs.DeviceMessages.{Spells}
use Rattle.bx_mirror_packets.specs.declared.message.DeviceMessage.{DeviceMessage}
use Rattle.bx_mirror_packets.specs.declared.message.DeviceMessage.TheVariants.{Write, Wrote, Read, Data, Copy, Copied, Alive}
use Rattle.bx_mirror_packets.specs.declared.message.ReadBody.{ReadBody}
use Rattle.bx_mirror_packets.specs.declared.message.WroteBody.{WroteBody}
use Rattle.bx_mirror_packets.proofs.Spelled.{one_message}
use Rattle.bx_mirror_client.specs.Asks.{FitsRead, asks_left, is_awaited}
use Rattle.bx_mirror_client.specs.Events.{with_ack}
use Rattle.bx_mirror_client.specs.Letters.{is_new_epoch, read_in, read_letter, read_letters}
use Rattle.bx_mirror_client.specs.Sends.{has_runs, is_acked, member_at, next_number}
use Rattle.bx_mirror_client.specs.Streams.{Streaming, answered, asking}
use Rattle.bx_mirror_client.specs.Telling.{HasAcked}
use Rattle.bx_mirror_client.specs.declared.asking.Asking.{Asking}
use Rattle.bx_mirror_client.specs.declared.sending.Sending.{Sending}
use Rattle.bx_mirror_client.proofs.Leaving.{noted_more}
use Rattle.bx_mirror_client.proofs.Telling.{both, same_number}
use Rattle.bx_mirror_cluster.specs.Fitting.{IsReading, IsSettledOn, Keeps, Parts, StandsOn, WillReadOn, out_by}
use Rattle.bx_mirror_cluster.specs.GoingOn.{AreReads, StreamsGoOn, IsAskedOn, IsSameRead, letters_more}
use Rattle.bx_mirror_cluster.specs.Speaking.{IsOfRead, IsSendable}
use Rattle.bx_mirror_cluster.specs.NodeSteps.{IsAck, MayRead, parts_acked, parts_asked, past_asked}
use Rattle.bx_mirror_cluster.specs.Writing.{with_node, with_stream}
use Rattle.bx_mirror_cluster.proofs.GoingOn.{goes_on, reads_on, settles_on, stands_still}

same_or : (n m : ℕ) → (n ≡ m) ⊎ (n ≢ m)
same_or n m = grind arith

pub itself_asked : (a : Asking) → IsSameRead a a
itself_asked a = record { session = refl; tag = refl; device = refl; place = refl; sectors = refl }

-- ---- one node's stream goes on

module _ (parts : Parts) (x : Disks) (past : StorePast) (keeps : Keeps parts x past) (n : ℕ) (c : Streaming) where
  at_it : (m : ℕ) → m ≡ n → with_node parts.nodes n c m ≡ c
  at_it m e = let same : (m == n) ≡ true = grind (arith, nat_tests, e) in ap (λ (b : Bool). if b then c else parts.nodes m) same

  at_other : (m : ℕ) → m ≢ n → with_node parts.nodes n c m ≡ parts.nodes m
  at_other m e = let other : (m == n) ≡ false = grind (arith, nat_tests, e) in ap (λ (b : Bool). if b then c else parts.nodes m) other

  kept : {A : Type 0} → (f : Streaming → A) → f c ≡ f (parts.nodes n) → (m : ℕ) → f (with_node parts.nodes n c m) ≡ f (parts.nodes m)
  kept f same m = elim (same_or m n) [
    | inl e ↦ ap f (at_it m e) ∙ same ∙ ap (λ (k : ℕ). f (parts.nodes k)) (sym e)
    | inr e ↦ ap f (at_other m e)
  ]

  pub node_goes_on : out_by c.out ≡ out_by (parts.nodes n).out → c.rows ≡ (parts.nodes n).rows → c.session ≡ (parts.nodes n).session → c.sequence ≡ (parts.nodes n).sequence → c.boot ≡ (parts.nodes n).boot → (parts.nodes n).tag ≤ c.tag → ((s : Sending) → c.out ≡ Some s → IsSendable parts.made s)
      → ((s : Sending) → c.out ≡ Some s → (parts.nodes n).session ≡ Some s.session)
      → ((d epoch : ℕ) (b : Bool) (s : Sending) → d < parts.made.devices → c.out ≡ Some s → HasAcked s.acks (member_at d b) epoch → Among (keeps.history.wrotes d) (record { by = b; session = s.session; epoch = epoch; sequence = s.sequence }))
      → ((a : Asking) → c.asks ≡ Some a → (c.session ≡ Some a.session) × (a.tag ≤ c.tag) × FitsRead a × IsAskedOn (parts.nodes n) a) → StreamsGoOn parts keeps.history (with_node parts.nodes n c)
  node_goes_on out rows session sequence boot tag sendable holding noted asked = record {
    out = λ m. kept (λ q. out_by q.out) out m;
    rows = λ m. kept (λ q. q.rows) rows m;
    session = λ m. kept (λ q. q.session) session m;
    sequence = λ m. kept (λ q. q.sequence) sequence m;
    boot = λ m. kept (λ q. q.boot) boot m;
    tag = λ m. elim (same_or m n) [
      | inl e ↦ (let now = ap (λ (q : Streaming). q.tag) (at_it m e) in let before = ap (λ (k : ℕ). (parts.nodes k).tag) e in omega (arith, now, before, tag))
      | inr e ↦ (let same = ap (λ (q : Streaming). q.tag) (at_other m e) in omega (arith, same))
    ];
    holding = λ m s is. elim (same_or m n) [
      | inl e ↦ ap (λ (q : Streaming). q.session) (at_it m e) ∙ session ∙ holding s (sym (ap (λ (q : Streaming). q.out) (at_it m e)) ∙ is)
      | inr e ↦ ap (λ (q : Streaming). q.session) (at_other m e) ∙ keeps.holding m s (sym (ap (λ (q : Streaming). q.out) (at_other m e)) ∙ is)
    ];
    sendable = λ m s is. elim (same_or m n) [
      | inl e ↦ sendable s (sym (ap (λ (q : Streaming). q.out) (at_it m e)) ∙ is)
      | inr e ↦ keeps.sendable m s (sym (ap (λ (q : Streaming). q.out) (at_other m e)) ∙ is)
    ];
    noted = λ m d epoch b s within is has. elim (same_or m n) [
      | inl e ↦ noted d epoch b s within (sym (ap (λ (q : Streaming). q.out) (at_it m e)) ∙ is) has
      | inr e ↦ keeps.noted m d epoch b s within (sym (ap (λ (q : Streaming). q.out) (at_other m e)) ∙ is) has
    ];
    askable = λ m a is. elim (same_or m n) [
      | inl e ↦ (asked a (sym (ap (λ (q : Streaming). q.asks) (at_it m e)) ∙ is)).2
      | inr e ↦ keeps.askable m a (sym (ap (λ (q : Streaming). q.asks) (at_other m e)) ∙ is)
    ];
    asked = λ m a is. elim (same_or m n) [
      | inl e ↦ subst (λ (k : ℕ). IsAskedOn (parts.nodes k) a) (sym e) (asked a (sym (ap (λ (q : Streaming). q.asks) (at_it m e)) ∙ is)).3
      | inr e ↦ inl (a, sym (ap (λ (q : Streaming). q.asks) (at_other m e)) ∙ is, itself_asked a)
    ];
    asking = λ m a is. elim (same_or m n) [
      | inl e ↦ (let it = asked a (sym (ap (λ (q : Streaming). q.asks) (at_it m e)) ∙ is) in (ap (λ (q : Streaming). q.session) (at_it m e) ∙ it.0, (let now = ap (λ (q : Streaming). q.tag) (at_it m e) in let le = it.1 in omega (arith, now, le))))
      | inr e ↦ (let it = keeps.asking m a (sym (ap (λ (q : Streaming). q.asks) (at_other m e)) ∙ is) in (ap (λ (q : Streaming). q.session) (at_other m e) ∙ it.0, (let now = ap (λ (q : Streaming). q.tag) (at_other m e) in let le = it.1 in omega (arith, now, le))))
    ];
  }

pub asked_still : (parts : Parts) (x : Disks) (past : StorePast) → Keeps parts x past → (n : ℕ) (a : Asking) → (parts.nodes n).asks ≡ Some a → ((parts.nodes n).session ≡ Some a.session) × (a.tag ≤ (parts.nodes n).tag) × FitsRead a × IsAskedOn (parts.nodes n) a
asked_still parts x past keeps n a is = let old = keeps.asking n a is in (old.0, old.1, keeps.askable n a is, inl (a, is, itself_asked a))

pub no_reads : (nodes : ℕ → Streaming) → AreReads nodes []
no_reads nodes = record { kinds = λ letter there. absurd (nothing letter there); each = λ m r read. absurd (nothing read.letter read.there) }

-- no letter more is none
pub same_past : (past : StorePast) → letters_more past [] ≡ past
same_past past = ap (λ (ls : List Letter). let p : StorePast = record past { told = record past.told { letters = ls } } in p) (append-nil past.told.letters)

-- ---- the answer is taken

pub left_is : (asks : Option Asking) (a : Asking) → asks_left asks ≡ Some a → asks ≡ Some a
left_is None a e = e
left_is (Some q) a e = by (is_some q.answer) e
  where
    by : (b : Bool) → (if b then None else Some q) ≡ Some a → Some q ≡ Some a
    by true none = absurd (let no : None ≡ Some a = none in cc)
    by false is = is

pub answer_taken : (parts : Parts) (x : Disks) (past : StorePast) (n : ℕ) → Keeps parts x past → Keeps (with_stream parts n (answered (parts.nodes n))) x past
answer_taken parts x past n keeps =
    let on = node_goes_on parts x past keeps n (answered (parts.nodes n)) refl refl refl refl refl (omega arith) (λ s is. keeps.sendable n s is) (λ s is. keeps.holding n s is) (λ d epoch b s within is has. keeps.noted n d epoch b s within is has) (λ a is. asked_still parts x past keeps n a (left_is (parts.nodes n).asks a is)) in
    subst (λ (p : StorePast). Keeps (with_stream parts n (answered (parts.nodes n))) x p) (same_past past)
    (goes_on parts x past keeps (with_node parts.nodes n (answered (parts.nodes n))) [] on (no_reads (with_node parts.nodes n (answered (parts.nodes n)))))

-- ---- an acknowledgement is noted

pub ack_kept : (member epoch : ℕ) (s : Sending) → ((with_ack member epoch s).session ≡ s.session) × ((with_ack member epoch s).sequence ≡ s.sequence) × (out_by (Some (with_ack member epoch s)) ≡ out_by (Some s))
ack_kept member epoch s = by (is_acked s.acks member epoch)
  where
    with_one : Sending
    with_one = record s { acks = s.acks ++ record { member = member; epoch = epoch } ∷ [] }

    by : (b : Bool) → ((if b then s else record s { acks = s.acks ++ record { member = member; epoch = epoch } ∷ [] }).session ≡ s.session) × ((if b then s else record s { acks = s.acks ++ record { member = member; epoch = epoch } ∷ [] }).sequence ≡ s.sequence)
        × (out_by (Some (if b then s else record s { acks = s.acks ++ record { member = member; epoch = epoch } ∷ [] })) ≡ out_by (Some s))
    by true = (refl, refl, refl)
    by false = (refl, refl, refl)

ack_fits : (made : Made) (member epoch : ℕ) (s : Sending) → IsSendable made s → IsSendable made (with_ack member epoch s)
ack_fits made member epoch s fits = by (is_acked s.acks member epoch)
  where
    by : (b : Bool) → IsSendable made (if b then s else record s { acks = s.acks ++ record { member = member; epoch = epoch } ∷ [] })
    by true = fits
    by false = let packet = fits.packet in record { packet = record { numbers = record { session = packet.numbers.session; sequence = packet.numbers.sequence; until = packet.numbers.until; count = packet.numbers.count }; runs = packet.runs }; runs = fits.runs }

half : (d : ℕ) (b : Bool) → member_at d b / 2 ≡ d
half d false = omega arith
half d true = omega arith

pub ack_noted : (parts : Parts) (x : Disks) (past : StorePast) (n : ℕ) (s : Sending) (member : ℕ) (w : WroteBody) → Keeps parts x past → IsAck parts past n s member w → Keeps (parts_acked parts n s member w.epoch) x past
ack_noted parts x past n s member w keeps ack =
    subst (λ (p : StorePast). Keeps (parts_acked parts n s member w.epoch) x p) (same_past past)
    (goes_on parts x past keeps (with_node parts.nodes n (record (parts.nodes n) { out = Some (with_ack member w.epoch s) })) [] on (no_reads (with_node parts.nodes n (record (parts.nodes n) { out = Some (with_ack member w.epoch s) }))))
  where
    kept_by : ((with_ack member w.epoch s).session ≡ s.session) × ((with_ack member w.epoch s).sequence ≡ s.sequence) × (out_by (Some (with_ack member w.epoch s)) ≡ out_by (Some s))
    kept_by = ack_kept member w.epoch s

    one : (w.session == s.session) ≡ true
    one = (both (w.session == s.session) ((w.sequence == s.sequence) && (not (s.sequence == 0) && ((member / 2 == w.device) && has_runs w.device s.runs.1))) ack.counts_it).0

    two : ((w.sequence == s.sequence) ≡ true) × ((not (s.sequence == 0) && ((member / 2 == w.device) && has_runs w.device s.runs.1)) ≡ true)
    two = both (w.sequence == s.sequence) (not (s.sequence == 0) && ((member / 2 == w.device) && has_runs w.device s.runs.1)) (both (w.session == s.session) ((w.sequence == s.sequence) && (not (s.sequence == 0) && ((member / 2 == w.device) && has_runs w.device s.runs.1))) ack.counts_it).1

    of_device : member / 2 ≡ w.device
    of_device = same_number (member / 2) w.device (both (member / 2 == w.device) (has_runs w.device s.runs.1) (both (not (s.sequence == 0)) ((member / 2 == w.device) && has_runs w.device s.runs.1) two.1).1).0

    noted_old : (d epoch : ℕ) (b : Bool) → d < parts.made.devices → HasAcked (with_ack member w.epoch s).acks (member_at d b) epoch → Among (keeps.history.wrotes d) (record { by = b; session = s.session; epoch = epoch; sequence = s.sequence })
    noted_old d epoch b within has = elim (noted_more s member w.epoch (member_at d b) epoch has) [
      | inl old ↦ keeps.noted n d epoch b s within ack.out old
      | inr new ↦ (keeps.devices d within).answering (record { by = b; session = s.session; epoch = epoch; sequence = s.sequence }) (record {
        letter = ack.letter;
        there = ack.there;
        wrote = w;
        spells = ack.says;
        from = ack.from ∙ ap Member new.0;
        device = sym of_device ∙ ap (λ (k : ℕ). k / 2) new.0 ∙ half d b;
        session = sym (same_number w.session s.session one);
        epoch_is = sym new.1;
        sequence = sym (same_number w.sequence s.sequence two.0);
      })
    ]

    noted : (d epoch : ℕ) (b : Bool) (t : Sending) → d < parts.made.devices → Some (with_ack member w.epoch s) ≡ Some t → HasAcked t.acks (member_at d b) epoch → Among (keeps.history.wrotes d) (record { by = b; session = t.session; epoch = epoch; sequence = t.sequence })
    noted d epoch b t within is has =
        let same : with_ack member w.epoch s ≡ t = cc in
        let old = noted_old d epoch b within (subst (λ (q : Sending). HasAcked q.acks (member_at d b) epoch) (sym same) has) in
        let session : s.session ≡ t.session = sym kept_by.0 ∙ ap (λ (q : Sending). q.session) same in
        let sequence : s.sequence ≡ t.sequence = sym kept_by.1 ∙ ap (λ (q : Sending). q.sequence) same in
        subst (λ (k : ℕ). Among (keeps.history.wrotes d) (record { by = b; session = t.session; epoch = epoch; sequence = k })) sequence
        (subst (λ (k : ℕ). Among (keeps.history.wrotes d) (record { by = b; session = k; epoch = epoch; sequence = s.sequence })) session old)

    on : StreamsGoOn parts keeps.history (with_node parts.nodes n (record (parts.nodes n) { out = Some (with_ack member w.epoch s) }))
    on = node_goes_on parts x past keeps n (record (parts.nodes n) { out = Some (with_ack member w.epoch s) }) (kept_by.2 ∙ sym (ap out_by ack.out)) refl refl refl refl (omega arith) (λ t is. let same : with_ack member w.epoch s ≡ t = cc in subst (IsSendable parts.made) same (ack_fits parts.made member w.epoch s (keeps.sendable n s ack.out)))
        (λ t is. let same : with_ack member w.epoch s ≡ t = cc in keeps.holding n s ack.out ∙ ap (λ (k : ℕ). Some k) (sym kept_by.0) ∙ ap (λ (q : Sending). Some q.session) same) noted (λ a is. asked_still parts x past keeps n a is)

-- ---- a read is sent

abbrev pub body_in : DeviceMessage → ReadBody → ReadBody
body_in (Read r) other = r
body_in (Write w) other = other
body_in (Wrote w) other = other
body_in (Data d) other = other
body_in (Copy c) other = other
body_in (Copied c) other = other
body_in Alive other = other

abbrev pub number_in : Actor → ℕ
number_in (Node n) = n
number_in (Member n) = 0
number_in (Replica n) = 0
number_in (Server n) = 0

-- a letter of a read is the one of its row
pub record IsAsked (node : ℕ) (a : Asking) (rows : List DeviceRow) (letter : Letter) : Type 0 where
  pub row : DeviceRow
  pub there : slice_get rows a.device ≡ Some row
  pub some : 1 ≤ a.tag
  pub is : letter ≡ read_letter node a row

pub is_asked : (before : List DeviceRow) (node : ℕ) (a : Asking) (rows : List DeviceRow) (letter : Letter) → Contains (read_letters before node (Some a) rows) letter → IsAsked node a rows letter
is_asked before node a rows letter has = by (slice_get rows a.device) refl has
  where
    by : (o : Option DeviceRow) → slice_get rows a.device ≡ o → Contains (read_in before node a o) letter → IsAsked node a rows letter
    by None e there = absurd (nothing letter there)
    by (Some row) e there = pick (is_new_epoch before a.device row && is_awaited a) refl there
      where
        numbered : (is_new_epoch before a.device row && is_awaited a) ≡ true → 1 ≤ a.tag
        numbered so = let k = (both (not (is_some a.answer)) (not (a.tag == 0)) (both (is_new_epoch before a.device row) (is_awaited a) so).1).1 in some_tag (a.tag == 0) refl k
          where
            some_tag : (z : Bool) → (a.tag == 0) ≡ z → not z ≡ true → 1 ≤ a.tag
            some_tag true is other = absurd cc
            some_tag false is so_it = grind (arith, nat_tests, is)

        pick : (b : Bool) → (is_new_epoch before a.device row && is_awaited a) ≡ b → Contains (if b then read_letter node a row ∷ [] else []) letter → IsAsked node a rows letter
        pick true so one = elim (front_or_behind (read_letter node a row) [] letter one) [ inl here ↦ record { row = row; there = e; some = numbered so; is = sym here } | inr none ↦ absurd (nothing letter none) ]
        pick false so none = absurd (nothing letter none)

-- a letter of a read says that read
pub said : (a : Asking) (epoch : ℕ) (r : ReadBody) → r ≡ record { session = a.session; device = a.device; epoch = epoch; tag = a.tag; place = a.place; sectors = a.sectors } → IsOfRead a r
said a epoch r same = record {
  session = ap (λ (q : ReadBody). q.session) same;
  tag = ap (λ (q : ReadBody). q.tag) same;
  device = ap (λ (q : ReadBody). q.device) same;
  place = ap (λ (q : ReadBody). q.place) same;
  sectors = ap (λ (q : ReadBody). q.sectors) same;
}

module _ (parts : Parts) (x : Disks) (past : StorePast) (keeps : Keeps parts x past) (n session device place sectors : ℕ) (may : MayRead parts n session device place sectors) where
  abbrev it : Asking
  it = record { session = session; tag = next_number (parts.nodes n).tag; device = device; place = place; sectors = sectors; answer = None }

  abbrev next : Streaming
  next = asking (Some session) device place sectors (parts.nodes n)

  each : (m : ℕ) (r : ReadBody) → IsReading (read_letters [] (parts.nodes n).node (Some it) (parts.nodes n).rows) m r → (1 ≤ r.tag) × ((a : Asking) × ((with_node parts.nodes n next m).asks ≡ Some a) × IsOfRead a r)
  each m r read =
      let asked = is_asked [] (parts.nodes n).node it (parts.nodes n).rows read.letter read.there in
      let body : ReadBody = record { session = session; device = device; epoch = asked.row.epoch; tag = it.tag; place = place; sectors = sectors } in
      let own : Spells (Read body) read.letter.kind read.letter.body =
      subst (λ (l : Letter). Spells (Read body) l.kind l.body) (sym asked.is)
      (record { is = (may.session_fits, may.device_fits, may.epochs device asked.row asked.there, may.tag_fits, may.place_fits, may.sectors_fit); kind_is = refl; body_is = refl }) in
      let same : r ≡ body = ap (λ (q : DeviceMessage). body_in q r) (one_message (Read r) (Read body) read.letter.kind read.letter.body read.spells own) in
      let from : m ≡ n = sym (ap number_in (sym (ap (λ (l : Letter). l.from) asked.is) ∙ read.from)) ∙ may.itself in
      let some = asked.some in let tag = ap (λ (q : ReadBody). q.tag) same in
      (omega (arith, some, tag), (it, ap (λ (q : Streaming). q.asks) (at_it parts x past keeps n next m from), said it asked.row.epoch r same))

  fits_it : FitsRead it
  fits_it = record { session = may.session_fits; device = may.device_fits; tag = may.tag_fits; place = may.place_fits; sectors = may.sectors_fit }

  fresh : IsAskedOn (parts.nodes n) it
  fresh = inr (by ((parts.nodes n).tag == greatest) refl)
    where
      by : (b : Bool) → ((parts.nodes n).tag == greatest) ≡ b → (next_number (parts.nodes n).tag ≡ 0) ⊎ ((parts.nodes n).tag < next_number (parts.nodes n).tag)
      by true e = inl (ap (λ (t : Bool). if t then 0 else (parts.nodes n).tag + 1) e)
      by false e = inr (let is : next_number (parts.nodes n).tag ≡ (parts.nodes n).tag + 1 = ap (λ (t : Bool). if t then 0 else (parts.nodes n).tag + 1) e in omega (arith, is))

  on : StreamsGoOn parts keeps.history (with_node parts.nodes n next)
  on = node_goes_on parts x past keeps n next refl refl refl refl refl (omega arith) (λ s is. keeps.sendable n s is) (λ s is. keeps.holding n s is) (λ d epoch b s within is has. keeps.noted n d epoch b s within is has)
      (λ a is. let same : it ≡ a = cc in (may.own ∙ ap (λ (q : Asking). Some q.session) same, (let e = ap (λ (q : Asking). q.tag) same in omega (arith, e)), subst FitsRead same fits_it, subst (IsAskedOn (parts.nodes n)) same fresh))

  are_reads : AreReads (with_node parts.nodes n next) (read_letters [] (parts.nodes n).node (Some it) (parts.nodes n).rows)
  are_reads = record { kinds = λ letter there. (let asked = is_asked [] (parts.nodes n).node it (parts.nodes n).rows letter there in ap (λ (l : Letter). l.kind) asked.is); each = each }

  pub asked_is : ((parts_asked parts n session device place sectors).nodes n).asks ≡ Some it
  asked_is = ap (λ (q : Streaming). q.asks) (at_it parts x past keeps n next n refl)

  pub read_sent : Keeps (parts_asked parts n session device place sectors) x (past_asked parts past n session device place sectors)
  read_sent = goes_on parts x past keeps (with_node parts.nodes n next) (read_letters [] (parts.nodes n).node (Some it) (parts.nodes n).rows) on are_reads

  pub settles_asked : (d sector : ℕ) (content : List ℕ) → IsSettledOn parts x past d sector content → IsSettledOn (parts_asked parts n session device place sectors) x (past_asked parts past n session device place sectors) d sector content
  settles_asked d sector content settled = settles_on parts x past keeps (with_node parts.nodes n next) (read_letters [] (parts.nodes n).node (Some it) (parts.nodes n).rows) on are_reads d sector content settled

  pub stands_asked : (d sector : ℕ) (content : List ℕ) (index : ℕ) → StandsOn parts x past d sector content index → StandsOn (parts_asked parts n session device place sectors) x (past_asked parts past n session device place sectors) d sector content index
  stands_asked d sector content index stands = stands_still parts x past keeps (with_node parts.nodes n next) (read_letters [] (parts.nodes n).node (Some it) (parts.nodes n).rows) on are_reads d sector content index stands

  pub reads_asked : (m : ℕ) (a : Asking) (sector : ℕ) (content : List ℕ) → WillReadOn parts x past m a sector content → WillReadOn (parts_asked parts n session device place sectors) x (past_asked parts past n session device place sectors) m a sector content
  reads_asked m a sector content will = reads_on parts x past keeps (with_node parts.nodes n next) (read_letters [] (parts.nodes n).node (Some it) (parts.nodes n).rows) on are_reads m a sector content will
