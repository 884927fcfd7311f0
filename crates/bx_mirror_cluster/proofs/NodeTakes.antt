-- What a stream does in an event: it learns the state that its node is handed, ends its write where it is done, tells members of its read, and hears answers.
use Rattle.std.proofs.Common.{◌≡◌, ◌≢◌, ◌⊎◌, inl, inr, ℕ, ◌≤◌, Bool, true, false, Contains, List, [], Option, Some, None, refl, sym, ◌∙◌, ap, subst, arith}
use Rattle.std.specs.Prelude.{◌==◌, ◌&&◌, slice_get, if◌then◌else◌}
use Rattle.std.proofs.lemmas.Bool.Decides.{nat_tests}
use Rattle.bx_disk.specs.Disks.{Disks}
use Rattle.bx_facts.specs.Chains.{session_of}
use Rattle.bx_facts.specs.Writes.{StorePast}
use Rattle.bx_global.specs.declared.state.GlobalState.{GlobalState}
use Rattle.bx_post.specs.declared.packets.Letter.{Letter}
use Rattle.bx_rows.specs.declared.device.DeviceRow.{DeviceRow}
use Rattle.bx_base.specs.declared.names.Actor.TheVariants.{Member}
use Rattle.bx_mirror_packets.specs.DeviceMessages.{Spells}
use Rattle.bx_mirror_packets.specs.declared.message.DataBody.{DataBody}
use Rattle.bx_mirror_packets.specs.declared.message.DeviceMessage.{DeviceMessage}
use Rattle.bx_mirror_packets.specs.declared.message.DeviceMessage.TheVariants.{Read, Wrote}
use Rattle.bx_mirror_packets.specs.declared.message.ReadBody.{ReadBody}
use Rattle.bx_mirror_packets.specs.declared.message.WroteBody.{WroteBody}
use Rattle.bx_mirror_packets.proofs.Spelled.{one_message}
use Rattle.bx_mirror_client.specs.Asks.{FitsRead, fits, is_awaited}
use Rattle.bx_mirror_client.specs.Events.{asks_answered, counts, out_acked, with_ack}
use Rattle.bx_mirror_client.specs.Letters.{is_new_for, read_letters}
use Rattle.bx_mirror_client.specs.Sends.{is_done}
use Rattle.bx_mirror_client.specs.Streams.{Streaming, asks_in, is_session, learned, out_in, unless_done}
use Rattle.bx_mirror_client.specs.declared.asking.Asking.{Asking}
use Rattle.bx_mirror_client.specs.declared.sending.Sending.{Sending}
use Rattle.bx_mirror_cluster.specs.Fitting.{IsReading, Keeps, Parts, out_by}
use Rattle.bx_mirror_cluster.specs.GoingOn.{AreReads, StreamsGoOn, IsSameRead, letters_more}
use Rattle.bx_mirror_cluster.specs.Learning.{Learned, MayLearn, knowing}
use Rattle.bx_mirror_cluster.specs.NodeSteps.{parts_acked}
use Rattle.bx_mirror_cluster.specs.Speaking.{IsOfRead}
use Rattle.bx_mirror_cluster.specs.Writing.{with_node, with_stream}
use Rattle.bx_mirror_cluster.proofs.Alike.{same_stream}
use Rattle.bx_mirror_cluster.proofs.GoingOn.{goes_on}
use Rattle.bx_mirror_cluster.proofs.Learned.{learned_keeps}
use Rattle.bx_mirror_cluster.proofs.NodeSteps.{ack_noted, asked_still, body_in, is_asked, itself_asked, no_reads, number_in, node_goes_on, said, same_past}
use Rattle.bx_mirror_cluster.proofs.Sessions.{same_or_not}
use Rattle.bx_mirror_cluster.proofs.WriteDone.{write_ends}

-- ---- one node has another stream, and another after that

pub here_is : (nodes : ℕ → Streaming) (n : ℕ) (c : Streaming) → with_node nodes n c n ≡ c
here_is nodes n c = let same : (n == n) ≡ true = grind (arith, nat_tests) in ap (λ (b : Bool). if b then c else nodes n) same

pub other_is : (nodes : ℕ → Streaming) (n : ℕ) (c : Streaming) (k : ℕ) → k ≢ n → with_node nodes n c k ≡ nodes k
other_is nodes n c k apart = let other : (k == n) ≡ false = grind (arith, nat_tests, apart) in ap (λ (b : Bool). if b then c else nodes k) other

pub again : (parts : Parts) (n : ℕ) (c : Streaming) (f : Streaming → Streaming) → with_stream (with_stream parts n c) n (f (with_node parts.nodes n c n)) ≡ with_stream parts n (f c)
again parts n c f = same_stream parts (with_stream (with_stream parts n c) n (f (with_node parts.nodes n c n))) n (f c) refl (λ k. refl)
    (here_is (with_node parts.nodes n c) n (f (with_node parts.nodes n c n)) ∙ ap f (here_is parts.nodes n c))
    (λ k apart. other_is (with_node parts.nodes n c) n (f (with_node parts.nodes n c n)) k apart ∙ other_is parts.nodes n c k apart)

-- ---- a write that is done ends, with whatever number

pub out_ends : (parts : Parts) (x : Disks) (past : StorePast) (n : ℕ) (s : Sending) → Keeps parts x past → (parts.nodes n).out ≡ Some s → is_done s (parts.nodes n).rows ≡ true → Keeps (with_stream parts n (record (parts.nodes n) { out = None })) x past
out_ends parts x past n s keeps is_out done = by (s.sequence == 0) refl
  where
    by : (b : Bool) → (s.sequence == 0) ≡ b → Keeps (with_stream parts n (record (parts.nodes n) { out = None })) x past
    by false e = write_ends parts x past keeps n s is_out e done
    by true e =
        let none : None ≡ out_by (parts.nodes n).out = sym (ap out_by is_out ∙ ap (λ (t : Bool). if t then None else Some (record { session = s.session; sequence = s.sequence; until = s.until; runs = s.runs.1 })) e) in
        let on = node_goes_on parts x past keeps n (record (parts.nodes n) { out = None }) none refl refl refl refl (omega arith) (λ t is. absurd (let no : None ≡ Some t = is in cc)) (λ t is. absurd (let no : None ≡ Some t = is in cc))
        (λ d epoch b t within is has. absurd (let no : None ≡ Some t = is in cc)) (λ a is. asked_still parts x past keeps n a is) in
        subst (λ (p : StorePast). Keeps (with_stream parts n (record (parts.nodes n) { out = None })) x p) (same_past past)
        (goes_on parts x past keeps (with_node parts.nodes n (record (parts.nodes n) { out = None })) [] on (no_reads (with_node parts.nodes n (record (parts.nodes n) { out = None }))))

-- ---- it learns the state

pub session_is : (o : Option ℕ) (q : ℕ) → is_session o q ≡ true → o ≡ Some q
session_is None q e = absurd cc
session_is (Some own) q e = let k : own ≡ q = grind (arith, nat_tests, e) in ap (λ (j : ℕ). Some j) k

pub is_its : (o : Option ℕ) (q : ℕ) → o ≡ Some q → is_session o q ≡ true
is_its o q e = ap (λ (p : Option ℕ). is_session p q) e ∙ (let k : (q == q) ≡ true = grind (arith, nat_tests) in k)

-- the write stays out, where the session is its own
abbrev pub out_of_own : Option ℕ → Option Sending → Option Sending
out_of_own session None = None
out_of_own session (Some s) = if is_session session s.session then Some s else None

module _ (parts : Parts) (x : Disks) (past : StorePast) (keeps : Keeps parts x past) (n : ℕ) (known : GlobalState) (may : MayLearn parts past n known) where
  abbrev pub c : Streaming
  c = parts.nodes n

  abbrev pub session : Option ℕ
  session = session_of known c.node c.boot

  -- its stream then, with this write
  abbrev pub at_out : Option Sending → Streaming
  at_out o = record c { session = session_of known c.node c.boot; rows = known.devices; out = o; asks = asks_in (session_of known c.node c.boot) c.rows known.devices c.asks }

  had : (s : Sending) → c.out ≡ Some s → (s.sequence == 0) ≡ false → c.session ≡ Some s.session
  had s e number = (keeps.out_actual n (record { session = s.session; sequence = s.sequence; until = s.until; runs = s.runs.1 })
      (ap out_by e ∙ ap (λ (t : Bool). if t then None else Some (record { session = s.session; sequence = s.sequence; until = s.until; runs = s.runs.1 })) number)).1

  untold : (s : Sending) → (s.sequence == 0) ≡ true → out_by (Some s) ≡ None
  untold s e = ap (λ (t : Bool). if t then None else Some (record { session = s.session; sequence = s.sequence; until = s.until; runs = s.runs.1 })) e

  out_so : (o : Option Sending) → c.out ≡ o → ((session ≡ c.session) × (out_by (out_of_own session o) ≡ out_by o)) ⊎ ((session ≢ c.session) × (out_by (out_of_own session o) ≡ None))
  out_so None e = elim (same_or_not session c.session) [ inl same ↦ inl (same, refl) | inr other ↦ inr (other, refl) ]
  out_so (Some s) e = elim (same_or_not session c.session) [
    | inl same ↦ inl (same, stays (s.sequence == 0) refl (is_session session s.session) refl same)
    | inr other ↦ inr (other, goes (s.sequence == 0) refl (is_session session s.session) refl other)
  ]
    where
      stays : (t : Bool) → (s.sequence == 0) ≡ t → (b : Bool) → is_session session s.session ≡ b → session ≡ c.session → out_by (if b then Some s else None) ≡ out_by (Some s)
      stays t zero_is true own same = refl
      stays true zero_is false own same = sym (untold s zero_is)
      stays false number false own same = absurd (let yes = is_its session s.session (same ∙ had s e number) in let no : true ≡ false = sym yes ∙ own in cc)

      goes : (t : Bool) → (s.sequence == 0) ≡ t → (b : Bool) → is_session session s.session ≡ b → session ≢ c.session → out_by (if b then Some s else None) ≡ None
      goes t zero_is false own other = refl
      goes true zero_is true own other = untold s zero_is
      goes false number true own other = absurd (other (session_is session s.session own ∙ sym (had s e number)))

  noted_so : (o : Option Sending) → c.out ≡ o → (t : Sending) → out_of_own session o ≡ Some t → c.out ≡ Some t
  noted_so None e t is = absurd (let no : None ≡ Some t = is in cc)
  noted_so (Some s) e t is = by (is_session session s.session) is
    where
      by : (b : Bool) → (if b then Some s else None) ≡ Some t → c.out ≡ Some t
      by true same = e ∙ same
      by false none = absurd (let no : None ≡ Some t = none in cc)

  own_so : (o : Option Sending) (t : Sending) → out_of_own session o ≡ Some t → session ≡ Some t.session
  own_so None t is = absurd (let no : None ≡ Some t = is in cc)
  own_so (Some s) t is = by (is_session session s.session) refl is
    where
      by : (b : Bool) → is_session session s.session ≡ b → (if b then Some s else None) ≡ Some t → session ≡ Some t.session
      by true own same_is = let same : s ≡ t = cc in session_is session s.session own ∙ ap (λ (q : Sending). Some q.session) same
      by false own none = absurd (let no : None ≡ Some t = none in cc)

  asks_so : (o : Option Asking) → c.asks ≡ o → (a : Asking) → asks_in session c.rows known.devices o ≡ Some a → (session ≡ Some a.session) × ((was : Asking) × (c.asks ≡ Some was) × IsSameRead was a)
  asks_so None e a is = absurd (let no : None ≡ Some a = is in cc)
  asks_so (Some b) e a is = by (is_session session b.session) refl (is_new_for c.rows known.devices b.device) is
    where
      by : (t : Bool) → is_session session b.session ≡ t → (u : Bool) → (if t then Some (if u then record b { answer = None } else b) else None) ≡ Some a
          → (session ≡ Some a.session) × ((was : Asking) × (c.asks ≡ Some was) × IsSameRead was a)
      by true own true same_is = let same : record b { answer = None } ≡ a = cc in (session_is session b.session own ∙ ap (λ (q : Asking). Some q.session) same, (b, e, subst (IsSameRead b) same (record { session = refl; tag = refl; device = refl; place = refl; sectors = refl })))
      by true own false same_is = let same : b ≡ a = cc in (session_is session b.session own ∙ ap (λ (q : Asking). Some q.session) same, (b, e, subst (IsSameRead b) same (itself_asked b)))
      by false own u none = absurd (let no : None ≡ Some a = none in cc)

  fits_so : (o : Option Asking) → c.asks ≡ o → (a : Asking) → asks_in session c.rows known.devices o ≡ Some a → FitsRead a
  fits_so None e a is = absurd (let no : None ≡ Some a = is in cc)
  fits_so (Some b) e a is = by (is_session session b.session) (is_new_for c.rows known.devices b.device) is
    where
      was : FitsRead b
      was = keeps.askable n b e

      by : (t u : Bool) → (if t then Some (if u then record b { answer = None } else b) else None) ≡ Some a → FitsRead a
      by true true same_is = let same : record b { answer = None } ≡ a = cc in subst FitsRead same (record { session = was.session; device = was.device; tag = was.tag; place = was.place; sectors = was.sectors })
      by true false same_is = let same : b ≡ a = cc in subst FitsRead same was
      by false u none = absurd (let no : None ≡ Some a = none in cc)

  pub base_so : Learned c known (at_out (out_of_own session c.out))
  base_so = record {
    node = refl;
    boot = refl;
    sequence = refl;
    tag = refl;
    session = refl;
    rows = refl;
    out = out_so c.out refl;
    noted = λ t is. noted_so c.out refl t is;
    holding = λ t is. own_so c.out t is;
    asks = λ a is. asks_so c.asks refl a is;
    askable = λ a is. fits_so c.asks refl a is;
  }

  pub base : Keeps (with_stream parts n (at_out (out_of_own session c.out))) x (knowing past n known.index)
  base = learned_keeps parts x past keeps n known may (at_out (out_of_own session c.out)) base_so

  ends : (s : Sending) → is_done s known.devices ≡ true → Keeps (with_stream parts n (at_out (Some s))) x (knowing past n known.index) → Keeps (with_stream parts n (at_out None)) x (knowing past n known.index)
  ends s done fits_it =
      subst (λ (p : Parts). Keeps p x (knowing past n known.index)) (again parts n (at_out (Some s)) (λ q. record q { out = None }))
      (out_ends (with_stream parts n (at_out (Some s))) x (knowing past n known.index) n s fits_it (ap (λ (q : Streaming). q.out) (here_is parts.nodes n (at_out (Some s))))
      (ap (λ (q : Streaming). is_done s q.rows) (here_is parts.nodes n (at_out (Some s))) ∙ done))

  pub node_learned : Keeps (with_stream parts n (learned known c)) x (knowing past n known.index)
  node_learned = by c.out base
    where
      finish : (s : Sending) (d : Bool) → is_done s known.devices ≡ d → Keeps (with_stream parts n (at_out (Some s))) x (knowing past n known.index) → Keeps (with_stream parts n (at_out (if d then None else Some s))) x (knowing past n known.index)
      finish s true e fits_it = ends s e fits_it
      finish s false e fits_it = fits_it

      pick : (s : Sending) (b : Bool) → Keeps (with_stream parts n (at_out (if b then Some s else None))) x (knowing past n known.index) → Keeps (with_stream parts n (at_out (if b then unless_done known.devices s else None))) x (knowing past n known.index)
      pick s true fits_it = finish s (is_done s known.devices) refl fits_it
      pick s false fits_it = fits_it

      by : (o : Option Sending) → Keeps (with_stream parts n (at_out (out_of_own session o))) x (knowing past n known.index) → Keeps (with_stream parts n (at_out (out_in session known.devices o))) x (knowing past n known.index)
      by None fits_it = fits_it
      by (Some s) fits_it = pick s (is_session session s.session) fits_it

-- ---- it hears the answer to its read

answered_so : (d : DataBody) (rows : List DeviceRow) (o : Option Asking) (a : Asking) → asks_answered d rows o ≡ Some a → (was : Asking) × (o ≡ Some was) × IsSameRead was a × (FitsRead was → FitsRead a)
answered_so d rows None a is = absurd (let no : None ≡ Some a = is in cc)
answered_so d rows (Some b) a is = by (is_awaited b && fits (slice_get rows b.device) b d) is
  where
    by : (t : Bool) → (if t then Some (record b { answer = Some d.bytes }) else Some b) ≡ Some a → (was : Asking) × (Some b ≡ Some was) × IsSameRead was a × (FitsRead was → FitsRead a)
    by true same_is = let same : record b { answer = Some d.bytes } ≡ a = cc in (
      b,
      refl,
      subst (IsSameRead b) same (record { session = refl; tag = refl; device = refl; place = refl; sectors = refl }),
      λ was. subst FitsRead same (record { session = was.session; device = was.device; tag = was.tag; place = was.place; sectors = was.sectors }),
    )
    by false same_is = let same : b ≡ a = cc in (b, refl, subst (IsSameRead b) same (itself_asked b), λ was. subst FitsRead same was)

pub data_heard : (parts : Parts) (x : Disks) (past : StorePast) (n : ℕ) (d : DataBody) → Keeps parts x past
    → Keeps (with_stream parts n (record (parts.nodes n) { asks = asks_answered d (parts.nodes n).rows (parts.nodes n).asks })) x past
data_heard parts x past n d keeps =
    let next : Streaming = record (parts.nodes n) { asks = asks_answered d (parts.nodes n).rows (parts.nodes n).asks } in
    let on = node_goes_on parts x past keeps n next refl refl refl refl refl (omega arith) (λ s is. keeps.sendable n s is) (λ s is. keeps.holding n s is) (λ k epoch b s within is has. keeps.noted n k epoch b s within is has)
    (λ a is. let it = answered_so d (parts.nodes n).rows (parts.nodes n).asks a is in let old = keeps.asking n it.0 it.1 in
    (old.0 ∙ ap (λ (q : ℕ). Some q) (sym it.2.session), (let le = old.1 in let tag = it.2.tag in omega (arith, le, tag)), it.3 (keeps.askable n it.0 it.1), inl (it.0, it.1, it.2))) in
    subst (λ (p : StorePast). Keeps (with_stream parts n next) x p) (same_past past) (goes_on parts x past keeps (with_node parts.nodes n next) [] on (no_reads (with_node parts.nodes n next)))

-- ---- it hears an acknowledgement

itself : (parts : Parts) (n : ℕ) → parts ≡ with_stream parts n (parts.nodes n)
itself parts n = same_stream parts parts n (parts.nodes n) refl (λ k. refl) refl (λ k apart. refl)

pub ack_heard : (parts : Parts) (x : Disks) (past : StorePast) (n member : ℕ) (w : WroteBody) (letter : Letter) → Keeps parts x past → Contains past.told.letters letter → letter.from ≡ Member member → Spells (Wrote w) letter.kind letter.body
    → Keeps (with_stream parts n (record (parts.nodes n) { out = out_acked member w (parts.nodes n).rows (parts.nodes n).out })) x past
ack_heard parts x past n member w letter keeps there from says = by (parts.nodes n).out refl
  where
    as_it_was : (o : Option Sending) → (parts.nodes n).out ≡ o → Keeps (with_stream parts n (record (parts.nodes n) { out = o })) x past
    as_it_was o e = subst (λ (q : Option Sending). Keeps (with_stream parts n (record (parts.nodes n) { out = q })) x past) e (subst (λ (p : Parts). Keeps p x past) (itself parts n) keeps)

    by : (o : Option Sending) → (parts.nodes n).out ≡ o → Keeps (with_stream parts n (record (parts.nodes n) { out = out_acked member w (parts.nodes n).rows o })) x past
    by None e = as_it_was None e
    by (Some s) e = pick (counts s member w) refl
      where
        finish : (d : Bool) → is_done (with_ack member w.epoch s) (parts.nodes n).rows ≡ d → Keeps (parts_acked parts n s member w.epoch) x past → Keeps (with_stream parts n (record (parts.nodes n) { out = if d then None else Some (with_ack member w.epoch s) })) x past
        finish false not_done fits_it = fits_it
        finish true done fits_it =
            subst (λ (p : Parts). Keeps p x past) (again parts n (record (parts.nodes n) { out = Some (with_ack member w.epoch s) }) (λ q. record q { out = None }))
            (out_ends (parts_acked parts n s member w.epoch) x past n (with_ack member w.epoch s) fits_it (ap (λ (q : Streaming). q.out) (here_is parts.nodes n (record (parts.nodes n) { out = Some (with_ack member w.epoch s) })))
            (ap (λ (q : Streaming). is_done (with_ack member w.epoch s) q.rows) (here_is parts.nodes n (record (parts.nodes n) { out = Some (with_ack member w.epoch s) })) ∙ done))

        pick : (b : Bool) → counts s member w ≡ b → Keeps (with_stream parts n (record (parts.nodes n) { out = if b then unless_done (parts.nodes n).rows (with_ack member w.epoch s) else Some s })) x past
        pick false other = as_it_was (Some s) e
        pick true it_counts = finish (is_done (with_ack member w.epoch s) (parts.nodes n).rows) refl
            (ack_noted parts x past n s member w keeps (record { out = e; counts_it = it_counts; letter = letter; there = there; from = from; says = says }))

-- ---- it tells members of its read

pub reads_more : (parts : Parts) (x : Disks) (past : StorePast) (n : ℕ) (before : List DeviceRow) (keeps : Keeps parts x past) → (parts.nodes n).node ≡ n → (a : Asking) → (parts.nodes n).asks ≡ Some a
    → StreamsGoOn parts keeps.history parts.nodes × AreReads parts.nodes (read_letters before (parts.nodes n).node (Some a) (parts.nodes n).rows)
reads_more parts x past n before keeps itself_is a e = (
  record { out = λ m. refl; rows = λ m. refl; session = λ m. refl; sequence = λ m. refl; boot = λ m. refl; tag = λ m. omega arith; sendable = keeps.sendable; askable = keeps.askable; holding = keeps.holding; noted = keeps.noted; asking = keeps.asking; asked = λ m b is. inl (b, is, itself_asked b) },
  record { kinds = λ letter there. ap (λ (l : Letter). l.kind) (is_asked before (parts.nodes n).node a (parts.nodes n).rows letter there).is; each = each },
)
  where
    each : (m : ℕ) (r : ReadBody) → IsReading (read_letters before (parts.nodes n).node (Some a) (parts.nodes n).rows) m r → (1 ≤ r.tag) × ((b : Asking) × ((parts.nodes m).asks ≡ Some b) × IsOfRead b r)
    each m r read =
        let asked = is_asked before (parts.nodes n).node a (parts.nodes n).rows read.letter read.there in
        let fit = keeps.askable n a e in
        let old = keeps.asking n a e in
        let state = keeps.node_known n a.session old.0 in
        let epoch = keeps.epochs state.0 state.1 a.device asked.row (ap (λ (rs : List DeviceRow). slice_get rs a.device) (sym state.3) ∙ asked.there) in
        let body : ReadBody = record { session = a.session; device = a.device; epoch = asked.row.epoch; tag = a.tag; place = a.place; sectors = a.sectors } in
        let own : Spells (Read body) read.letter.kind read.letter.body =
        subst (λ (l : Letter). Spells (Read body) l.kind l.body) (sym asked.is)
        (record { is = (fit.session, fit.device, epoch, fit.tag, fit.place, fit.sectors); kind_is = refl; body_is = refl }) in
        let same : r ≡ body = ap (λ (q : DeviceMessage). body_in q r) (one_message (Read r) (Read body) read.letter.kind read.letter.body read.spells own) in
        let from : m ≡ n = sym (ap number_in (sym (ap (λ (l : Letter). l.from) asked.is) ∙ read.from)) ∙ itself_is in
        let some = asked.some in let tag = ap (λ (q : ReadBody). q.tag) same in
        (omega (arith, some, tag), (a, ap (λ (k : ℕ). (parts.nodes k).asks) from ∙ e, said a asked.row.epoch r same))

pub reads_told : (parts : Parts) (x : Disks) (past : StorePast) (n : ℕ) (before : List DeviceRow) → Keeps parts x past → (parts.nodes n).node ≡ n
    → Keeps parts x (letters_more past (read_letters before (parts.nodes n).node (parts.nodes n).asks (parts.nodes n).rows))
reads_told parts x past n before keeps itself_is = by (parts.nodes n).asks refl
  where
    by : (o : Option Asking) → (parts.nodes n).asks ≡ o → Keeps parts x (letters_more past (read_letters before (parts.nodes n).node o (parts.nodes n).rows))
    by None e = subst (λ (p : StorePast). Keeps parts x p) (sym (same_past past)) keeps
    by (Some a) e = let more = reads_more parts x past n before keeps itself_is a e in goes_on parts x past keeps parts.nodes (read_letters before (parts.nodes n).node (Some a) (parts.nodes n).rows) more.0 more.1
