-- What an event leaves of what is out, and how a write ends.
use Rattle.std.proofs.Common.{◌≡◌, ◌≢◌, ◌⊎◌, inl, inr, ℕ, ◌/◌, Bool, true, false, List, [], ◌∷◌, ◌++◌, Option, Some, None, refl, sym, ◌∙◌, ap, subst, arith}
use Rattle.std.specs.Prelude.{◌==◌, ◌&&◌, not, slice_get, if◌then◌else◌}
use Rattle.std.proofs.lemmas.Bool.Decides.{nat_tests}
use Rattle.std.proofs.lemmas.List.Elements.{Contains-push_cases}
use Rattle.bx_base.specs.declared.names.Actor.{Actor}
use Rattle.bx_base.specs.declared.names.Actor.TheVariants.{Member, Node, Replica, Server}
use Rattle.bx_facts.specs.declared.input.Input.{Input}
use Rattle.bx_facts.specs.declared.input.Input.TheVariants.{Packet, Tick, Synced}
use Rattle.bx_global.specs.declared.state.GlobalState.{GlobalState}
use Rattle.bx_post.specs.declared.packets.Letter.{Letter}
use Rattle.bx_rows.specs.declared.device.DeviceRow.{DeviceRow}
use Rattle.bx_mirror_packets.specs.DeviceMessages.{Spells}
use Rattle.bx_mirror_packets.specs.declared.message.DeviceMessage.{DeviceMessage}
use Rattle.bx_mirror_packets.specs.declared.message.DeviceMessage.TheVariants.{Write, Wrote, Read, Data, Copy, Copied, Alive}
use Rattle.bx_mirror_packets.specs.declared.message.DataBody.{DataBody}
use Rattle.bx_mirror_packets.specs.declared.message.WroteBody.{WroteBody}
use Rattle.bx_mirror_client.specs.declared.asking.Asking.{Asking}
use Rattle.bx_mirror_client.specs.declared.sending.Ack.{Ack}
use Rattle.bx_mirror_client.specs.declared.sending.Sending.{Sending}
use Rattle.bx_mirror_client.specs.Asks.{asked_in, fits, is_awaited}
use Rattle.bx_mirror_client.specs.Events.{SaysOr, Takes, asks_answered, counts, heard, out_acked, with_ack}
use Rattle.bx_mirror_client.specs.Leaving.{Brings, EndsDone, IsGoingOn, Leaves}
use Rattle.bx_mirror_client.specs.Letters.{is_new_for}
use Rattle.bx_mirror_client.specs.Sends.{has_runs, is_acked, is_done}
use Rattle.bx_mirror_client.specs.Streams.{IsOwnRead, Streaming, asks_in, is_session, learned, out_in, sent_in}
use Rattle.bx_mirror_client.specs.Telling.{HasAcked}
use Rattle.bx_mirror_client.proofs.Telling.{both, done_is, is_same, same_number}

-- ---- what is out stays, or goes

-- nothing is told of nothing
sent_none : (out : Option Sending) → sent_in out ≡ None → out ≡ None
sent_none None e = refl
sent_none (Some s) e = absurd cc

asked_none : (asks : Option Asking) → asked_in asks ≡ None → asks ≡ None
asked_none None e = refl
asked_none (Some a) e = absurd cc

out_then : (one two three : Option Sending) → (two ≡ None) ⊎ (sent_in two ≡ sent_in one) → (three ≡ None) ⊎ (sent_in three ≡ sent_in two) → (three ≡ None) ⊎ (sent_in three ≡ sent_in one)
out_then one two three first second = elim second [
  | inl gone ↦ inl gone
  | inr same ↦ elim first [ inl gone ↦ inl (sent_none three (same ∙ ap sent_in gone)) | inr before ↦ inr (same ∙ before) ]
]

asks_then : (one two three : Option Asking) → (two ≡ None) ⊎ (asked_in two ≡ asked_in one) → asked_in three ≡ asked_in two → (three ≡ None) ⊎ (asked_in three ≡ asked_in one)
asks_then one two three first same = elim first [ inl gone ↦ inl (asked_none three (same ∙ ap asked_in gone)) | inr before ↦ inr (same ∙ before) ]

-- as a state is learned
out_learned : (session : Option ℕ) (rows : List DeviceRow) (out : Option Sending) → (out_in session rows out ≡ None) ⊎ (sent_in (out_in session rows out) ≡ sent_in out)
out_learned session rows None = inl refl
out_learned session rows (Some s) = by (is_session session s.session) (is_done s rows)
  where
    by : (a b : Bool) → ((if a then (if b then None else Some s) else None) ≡ None) ⊎ (sent_in (if a then (if b then None else Some s) else None) ≡ sent_in (Some s))
    by false b = inl refl
    by true true = inl refl
    by true false = inr refl

asks_learned : (session : Option ℕ) (before rows : List DeviceRow) (asks : Option Asking) → (asks_in session before rows asks ≡ None) ⊎ (asked_in (asks_in session before rows asks) ≡ asked_in asks)
asks_learned session before rows None = inl refl
asks_learned session before rows (Some a) = by (is_session session a.session) (is_new_for before rows a.device)
  where
    by : (p q : Bool) → ((if p then Some (if q then record a { answer = None } else a) else None) ≡ None) ⊎ (asked_in (if p then Some (if q then record a { answer = None } else a) else None) ≡ asked_in (Some a))
    by false q = inl refl
    by true true = inr refl
    by true false = inr refl

-- whether a session is the same
pub same_session : (one two : Option ℕ) → (one ≡ two) ⊎ (one ≢ two)
same_session None None = inl refl
same_session None (Some q) = inr (λ e. cc)
same_session (Some p) None = inr (λ e. cc)
same_session (Some p) (Some q) = by (p == q) refl
  where
    by : (b : Bool) → (p == q) ≡ b → (Some p ≡ Some q) ⊎ (Some p ≢ Some q)
    by true is = let e : p ≡ q = grind (arith, nat_tests, is) in inl (ap (λ (n : ℕ). Some n) e)
    by false is = inr (λ e. let k : p ≡ q = cc in absurd (grind (arith, nat_tests, is, k)))

-- its own read stays exactly as long as its session
own_learned : (own session : Option ℕ) (before rows : List DeviceRow) (asks : Option Asking) → IsOwnRead own asks
    → ((session ≡ own) × (asked_in (asks_in session before rows asks) ≡ asked_in asks)) ⊎ ((session ≢ own) × (asks_in session before rows asks ≡ None))
own_learned own session before rows None is = elim (same_session session own) [ inl same ↦ inl (same, refl) | inr other ↦ inr (other, refl) ]
own_learned own session before rows (Some a) is = by (is_session session a.session) refl (is_new_for before rows a.device)
  where
    session_is : (o : Option ℕ) → is_session o a.session ≡ true → o ≡ Some a.session
    session_is None e = absurd cc
    session_is (Some n) e = let same : n ≡ a.session = grind (arith, nat_tests, e) in ap (λ (k : ℕ). Some k) same

    session_not : is_session session a.session ≡ false → session ≢ own
    session_not e same = let its : is_session (Some a.session) a.session ≡ false = subst (λ (o : Option ℕ). is_session o a.session ≡ false) (same ∙ is) e in absurd (grind (arith, nat_tests, its))

    by : (p : Bool) → is_session session a.session ≡ p → (q : Bool)
        → ((session ≡ own) × (asked_in (if p then Some (if q then record a { answer = None } else a) else None) ≡ asked_in (Some a))) ⊎ ((session ≢ own) × ((if p then Some (if q then record a { answer = None } else a) else None) ≡ None))
    by false e q = inr (session_not e, refl)
    by true e true = inl (session_is session e ∙ sym is, refl)
    by true e false = inl (session_is session e ∙ sym is, refl)

own_then : (c : Streaming) (known : GlobalState) (new : Streaming) → IsGoingOn (learned known c) new → IsOwnRead c.session c.asks
    → ((new.session ≡ c.session) × (asked_in new.asks ≡ asked_in c.asks)) ⊎ ((new.session ≢ c.session) × (new.asks ≡ None))
own_then c known new on own = elim (own_learned c.session (learned known c).session c.rows known.devices c.asks own) [
  | inl same ↦ inl (on.session ∙ same.0, on.asks ∙ same.1)
  | inr other ↦ inr (λ e. other.0 (sym on.session ∙ e), asked_none new.asks (on.asks ∙ ap asked_in other.1))
]

-- as a packet comes
ack_same : (member epoch : ℕ) (s : Sending) → sent_in (Some (with_ack member epoch s)) ≡ sent_in (Some s)
ack_same member epoch s = by (is_acked s.acks member epoch)
  where
    by : (b : Bool) → sent_in (Some (if b then s else record s { acks = s.acks ++ record { member = member; epoch = epoch } ∷ [] })) ≡ sent_in (Some s)
    by true = refl
    by false = refl

out_heard : (member : ℕ) (w : WroteBody) (rows : List DeviceRow) (out : Option Sending) → (out_acked member w rows out ≡ None) ⊎ (sent_in (out_acked member w rows out) ≡ sent_in out)
out_heard member w rows None = inl refl
out_heard member w rows (Some s) = by (counts s member w) (is_done (with_ack member w.epoch s) rows)
  where
    by : (a b : Bool) → ((if a then (if b then None else Some (with_ack member w.epoch s)) else Some s) ≡ None) ⊎ (sent_in (if a then (if b then None else Some (with_ack member w.epoch s)) else Some s) ≡ sent_in (Some s))
    by false b = inr refl
    by true true = inl refl
    by true false = inr (ack_same member w.epoch s)

asks_heard : (d : DataBody) (rows : List DeviceRow) (asks : Option Asking) → asked_in (asks_answered d rows asks) ≡ asked_in asks
asks_heard d rows None = refl
asks_heard d rows (Some a) = by (is_awaited a && fits (slice_get rows a.device) a d)
  where
    by : (b : Bool) → asked_in (if b then Some (record a { answer = Some d.bytes }) else Some a) ≡ asked_in (Some a)
    by true = refl
    by false = refl

heard_on : (from : Actor) (said : Option DeviceMessage) (c : Streaming) → IsGoingOn c (heard from said c)
heard_on from None c = record { node = refl; boot = refl; sequence = refl; tag = refl; session = refl; rows = refl; out = inr refl; asks = refl }
heard_on (Node n) (Some message) c = record { node = refl; boot = refl; sequence = refl; tag = refl; session = refl; rows = refl; out = inr refl; asks = refl }
heard_on (Replica n) (Some message) c = record { node = refl; boot = refl; sequence = refl; tag = refl; session = refl; rows = refl; out = inr refl; asks = refl }
heard_on (Server n) (Some message) c = record { node = refl; boot = refl; sequence = refl; tag = refl; session = refl; rows = refl; out = inr refl; asks = refl }
heard_on (Member m) (Some (Wrote w)) c = record { node = refl; boot = refl; sequence = refl; tag = refl; session = refl; rows = refl; out = out_heard m w c.rows c.out; asks = refl }
heard_on (Member m) (Some (Data d)) c = record { node = refl; boot = refl; sequence = refl; tag = refl; session = refl; rows = refl; out = inr refl; asks = asks_heard d c.rows c.asks }
heard_on (Member m) (Some (Write w)) c = record { node = refl; boot = refl; sequence = refl; tag = refl; session = refl; rows = refl; out = inr refl; asks = refl }
heard_on (Member m) (Some (Read r)) c = record { node = refl; boot = refl; sequence = refl; tag = refl; session = refl; rows = refl; out = inr refl; asks = refl }
heard_on (Member m) (Some (Copy p)) c = record { node = refl; boot = refl; sequence = refl; tag = refl; session = refl; rows = refl; out = inr refl; asks = refl }
heard_on (Member m) (Some (Copied p)) c = record { node = refl; boot = refl; sequence = refl; tag = refl; session = refl; rows = refl; out = inr refl; asks = refl }
heard_on (Member m) (Some Alive) c = record { node = refl; boot = refl; sequence = refl; tag = refl; session = refl; rows = refl; out = inr refl; asks = refl }

same_on : (c new : Streaming) → new ≡ c → IsGoingOn c new
same_on c new is = subst (IsGoingOn c) (sym is) (record { node = refl; boot = refl; sequence = refl; tag = refl; session = refl; rows = refl; out = inr refl; asks = refl })

-- what comes behind a state that was learned
learned_then : (c : Streaming) (known : GlobalState) (new : Streaming) → IsGoingOn (learned known c) new → Leaves c known new
learned_then c known new on = record {
  node = on.node;
  boot = on.boot;
  sequence = on.sequence;
  tag = on.tag;
  session = on.session;
  rows = on.rows;
  out = out_then c.out (learned known c).out new.out (out_learned (learned known c).session known.devices c.out) on.out;
  asks = asks_then c.asks (learned known c).asks new.asks (asks_learned (learned known c).session c.rows known.devices c.asks) on.asks;
  own_read = λ own. own_then c known new on own;
}

pub leaves : (c : Streaming) (known : GlobalState) (input : Input) (new : Streaming) (before after : List Letter) → Takes c known input new before after → Leaves c known new
leaves c known (Packet packet reading) new before after does =
    let hears = does.0 in
    learned_then c known new (subst (IsGoingOn (learned known c)) (sym hears.is) (heard_on packet.now.from hears.said (learned known c)))
leaves c known (Tick reading) new before after does = learned_then c known new (same_on (learned known c) new does.0)
leaves c known Synced new before after does = learned_then c known new (same_on (learned known c) new does.0)

-- ---- a write ends

-- as a state is learned it stays, or it is done
at_learning : (session : Option ℕ) (rows : List DeviceRow) (s : Sending) → session ≡ Some s.session → (out_in session rows (Some s) ≡ Some s) ⊎ (is_done s rows ≡ true)
at_learning session rows s is = by (is_done s rows) refl
  where
    own : is_session session s.session ≡ true
    own = ap (λ (o : Option ℕ). is_session o s.session) is ∙ is_same s.session s.session refl

    by : (b : Bool) → is_done s rows ≡ b → (out_in session rows (Some s) ≡ Some s) ⊎ (is_done s rows ≡ true)
    by true e = inr e
    by false e = inl (ap (λ (t : Bool). if t then (if is_done s rows then None else Some s) else None) own ∙ ap (λ (t : Bool). if t then None else Some s) e)

-- what comes ends it where an acknowledgement counts by which it is done
record IsEnd (s : Sending) (from : Actor) (said : Option DeviceMessage) (rows : List DeviceRow) : Type 0 where
  member : ℕ
  wrote : WroteBody
  sender : from ≡ Member member
  says : said ≡ Some (Wrote wrote)
  counts_it : counts s member wrote ≡ true
  done : is_done (with_ack member wrote.epoch s) rows ≡ true

gone_not : (out : Option Sending) (s : Sending) → out ≡ Some s → out ≡ None → ⊥
gone_not out s is none = let no : None ≡ Some s = sym none ∙ is in absurd cc

by_wrote : (member : ℕ) (w : WroteBody) (rows : List DeviceRow) (s : Sending) (out : Option Sending) → out ≡ Some s → out_acked member w rows out ≡ None → IsEnd s (Member member) (Some (Wrote w)) rows
by_wrote member w rows s out is none = pick (counts s member w) (is_done (with_ack member w.epoch s) rows) refl refl
    (sym (ap (λ (o : Option Sending). out_acked member w rows o) is) ∙ none)
  where
    pick : (a b : Bool) → counts s member w ≡ a → is_done (with_ack member w.epoch s) rows ≡ b → out_acked member w rows (Some s) ≡ None → IsEnd s (Member member) (Some (Wrote w)) rows
    pick true true p q e = record { member = member; wrote = w; sender = refl; says = refl; counts_it = p; done = q }
    pick true false p q e =
        let kept : out_acked member w rows (Some s) ≡ Some (with_ack member w.epoch s) = ap (λ (t : Bool). if t then (if is_done (with_ack member w.epoch s) rows then None else Some (with_ack member w.epoch s)) else Some s) p ∙ ap (λ (t : Bool). if t then None else Some (with_ack member w.epoch s)) q in
        absurd (gone_not (out_acked member w rows (Some s)) (with_ack member w.epoch s) kept e)
    pick false b p q e =
        let kept : out_acked member w rows (Some s) ≡ Some s = ap (λ (t : Bool). if t then (if is_done (with_ack member w.epoch s) rows then None else Some (with_ack member w.epoch s)) else Some s) p in
        absurd (gone_not (out_acked member w rows (Some s)) s kept e)

at_hearing : (from : Actor) (said : Option DeviceMessage) (c : Streaming) (s : Sending) → c.out ≡ Some s → (heard from said c).out ≡ None → IsEnd s from said c.rows
at_hearing from None c s is none = absurd (gone_not c.out s is none)
at_hearing (Node n) (Some message) c s is none = absurd (gone_not c.out s is none)
at_hearing (Replica n) (Some message) c s is none = absurd (gone_not c.out s is none)
at_hearing (Server n) (Some message) c s is none = absurd (gone_not c.out s is none)
at_hearing (Member m) (Some (Wrote w)) c s is none = by_wrote m w c.rows s c.out is none
at_hearing (Member m) (Some (Data d)) c s is none = absurd (gone_not c.out s is none)
at_hearing (Member m) (Some (Write w)) c s is none = absurd (gone_not c.out s is none)
at_hearing (Member m) (Some (Read r)) c s is none = absurd (gone_not c.out s is none)
at_hearing (Member m) (Some (Copy p)) c s is none = absurd (gone_not c.out s is none)
at_hearing (Member m) (Some (Copied p)) c s is none = absurd (gone_not c.out s is none)
at_hearing (Member m) (Some Alive) c s is none = absurd (gone_not c.out s is none)

-- a write that is done as it was
done_before : (s : Sending) (rows : List DeviceRow) (input : Input) → is_done s rows ≡ true → EndsDone s rows input
done_before s rows input done = record { acked = s; session = refl; sequence = refl; until = refl; runs = refl; done = (done_is s rows).0 done; noted = λ member epoch has. inl has }

abbrev ack_of : ℕ → ℕ → Ack
ack_of member epoch = record { member = member; epoch = epoch }

-- what is noted with one more
pub noted_more : (s : Sending) (one epoch member other : ℕ) → HasAcked (with_ack one epoch s).acks member other → HasAcked s.acks member other ⊎ ((one ≡ member) × (epoch ≡ other))
noted_more s one epoch member other has = by (is_acked s.acks one epoch) has
  where
    by : (b : Bool) → HasAcked (if b then s else record s { acks = s.acks ++ ack_of one epoch ∷ [] }).acks member other → HasAcked s.acks member other ⊎ ((one ≡ member) × (epoch ≡ other))
    by true there = inl there
    by false there = elim (Contains-push_cases s.acks (ack_of one epoch) (ack_of member other) there) [
      | inl old ↦ inl old
      | inr new ↦ inr (ap (λ (a : Ack). a.member) new, ap (λ (a : Ack). a.epoch) new)
    ]

-- a write that is done by what came
done_by : (s : Sending) (rows : List DeviceRow) (packet_kind : ℕ) (body : List ℕ) (from : Actor) (said : Option DeviceMessage) (input : Input) → SaysOr packet_kind body said
    → ((member : ℕ) (w : WroteBody) → from ≡ Member member → Spells (Wrote w) packet_kind body → Brings input member w) → IsEnd s from said rows → EndsDone s rows input
done_by s rows kind body from said input says brings end = record {
  acked = with_ack end.member end.wrote.epoch s;
  session = kept.0;
  sequence = kept.1;
  until = kept.2;
  runs = kept.3;
  done = (done_is (with_ack end.member end.wrote.epoch s) rows).0 end.done;
  noted = λ member epoch has. elim (noted_more s end.member end.wrote.epoch member epoch has) [ inl old ↦ inl old | inr new ↦ inr (it member epoch new.0 new.1) ];
}
  where
    kept : ((with_ack end.member end.wrote.epoch s).session ≡ s.session) × ((with_ack end.member end.wrote.epoch s).sequence ≡ s.sequence) × ((with_ack end.member end.wrote.epoch s).until ≡ s.until) × ((with_ack end.member end.wrote.epoch s).runs ≡ s.runs)
    kept = by (is_acked s.acks end.member end.wrote.epoch)
      where
        by : (b : Bool) → let next : Sending = (if b then s else record s { acks = s.acks ++ ack_of end.member end.wrote.epoch ∷ [] }) in (next.session ≡ s.session) × (next.sequence ≡ s.sequence) × (next.until ≡ s.until) × (next.runs ≡ s.runs)
        by true = (refl, refl, refl, refl)
        by false = (refl, refl, refl, refl)

    spelled : Spells (Wrote end.wrote) kind body
    spelled = subst (SaysOr kind body) end.says says

    it : (member epoch : ℕ) → end.member ≡ member → end.wrote.epoch ≡ epoch → Brings input member (record { session = s.session; device = member / 2; epoch = epoch; sequence = s.sequence })
    it member epoch is at =
        let one = both (end.wrote.session == s.session) _ end.counts_it in
        let two = both (end.wrote.sequence == s.sequence) _ one.1 in
        let three = both (not (s.sequence == 0)) _ two.1 in
        let four = both (end.member / 2 == end.wrote.device) (has_runs end.wrote.device s.runs.1) three.1 in
        let session = same_number end.wrote.session s.session one.0 in
        let sequence = same_number end.wrote.sequence s.sequence two.0 in
        let device = sym (same_number (end.member / 2) end.wrote.device four.0) ∙ ap (λ (m : ℕ). m / 2) is in
        let same : end.wrote ≡ record { session = s.session; device = member / 2; epoch = epoch; sequence = s.sequence } =
        ap (λ (n : ℕ). let v : WroteBody = record { session = n; device = end.wrote.device; epoch = end.wrote.epoch; sequence = end.wrote.sequence } in v) session
        ∙ ap (λ (n : ℕ). let v : WroteBody = record { session = s.session; device = n; epoch = end.wrote.epoch; sequence = end.wrote.sequence } in v) device
        ∙ ap (λ (n : ℕ). let v : WroteBody = record { session = s.session; device = member / 2; epoch = n; sequence = end.wrote.sequence } in v) at
        ∙ ap (λ (n : ℕ). let v : WroteBody = record { session = s.session; device = member / 2; epoch = epoch; sequence = n } in v) sequence in
        brings member (record { session = s.session; device = member / 2; epoch = epoch; sequence = s.sequence }) (end.sender ∙ ap Member is) (subst (λ (v : WroteBody). Spells (Wrote v) kind body) same spelled)

pub ends : (c : Streaming) (known : GlobalState) (input : Input) (new : Streaming) (before after : List Letter) (s : Sending) → Takes c known input new before after → c.out ≡ Some s → new.out ≡ None → new.session ≡ Some s.session → EndsDone s known.devices input
ends c known input new before after s does is none own =
    let left = leaves c known input new before after does in
    elim (at_learning (learned known c).session known.devices s (sym left.session ∙ own)) [
      | inl stays ↦ heard_end input does (ap (λ (o : Option Sending). out_in (learned known c).session known.devices o) is ∙ stays)
      | inr done ↦ done_before s known.devices input done
    ]
  where
    heard_end : (i : Input) → Takes c known i new before after → (learned known c).out ≡ Some s → EndsDone s known.devices i
    heard_end (Packet packet reading) takes out_is =
        let hears = takes.0 in
        done_by s known.devices packet.now.kind packet.now.body packet.now.from hears.said (Packet packet reading) hears.says (λ member w from spells. (from, spells))
        (at_hearing packet.now.from hears.said (learned known c) s out_is (ap (λ (d : Streaming). d.out) (sym hears.is) ∙ none))
    heard_end (Tick reading) takes out_is = absurd (gone_not new.out s (ap (λ (d : Streaming). d.out) takes.0 ∙ out_is) none)
    heard_end Synced takes out_is = absurd (gone_not new.out s (ap (λ (d : Streaming). d.out) takes.0 ∙ out_is) none)
