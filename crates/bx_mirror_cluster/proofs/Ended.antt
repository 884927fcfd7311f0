-- A write that an event ends, where its session lives, stands then in each of its sectors for those who know the state.
use Rattle.std.proofs.Common.{◌≡◌, inl, inr, ℕ, ◌<◌, ◌≤◌, Bool, true, false, Contains, List, [], ◌∷◌, ◌++◌, length, Option, Some, None, refl, sym, ◌∙◌, ap, subst, arith}
use Rattle.std.specs.Prelude.{◌==◌, slice_get, if◌then◌else◌}
use Rattle.std.proofs.lemmas.Bool.Decides.{nat_tests}
use Rattle.std.proofs.lemmas.Option.{slice_get_cases}
use Rattle.bx_base.specs.declared.names.Actor.{Actor}
use Rattle.bx_base.specs.declared.names.Actor.TheVariants.{Member, Node, Replica, Server}
use Rattle.bx_disk.specs.Disks.{Disks}
use Rattle.bx_facts.specs.Chains.{IsPlace, LivesIn, last, session_of}
use Rattle.bx_facts.specs.Inputs.{IsComing as Arrives}
use Rattle.bx_facts.specs.Writes.{StorePast, WritesIn, store_heard, store_with}
use Rattle.bx_facts.specs.declared.input.Input.{Input}
use Rattle.bx_facts.specs.declared.input.Input.TheVariants.{Packet, Tick, Synced}
use Rattle.bx_global.specs.declared.state.GlobalState.{GlobalState}
use Rattle.bx_post.specs.Posts.{letter_of}
use Rattle.bx_post.specs.declared.packets.Letter.{Letter}
use Rattle.bx_records.specs.Runs.{KindAndRuns}
use Rattle.bx_rows.specs.declared.device.DeviceRow.{DeviceRow}
use Rattle.bx_mirror_packets.specs.DeviceMessages.{Spells}
use Rattle.bx_mirror_packets.specs.declared.message.DeviceMessage.{DeviceMessage}
use Rattle.bx_mirror_packets.specs.declared.message.DeviceMessage.TheVariants.{Write, Wrote, Read, Data, Copy, Copied, Alive}
use Rattle.bx_mirror_packets.specs.declared.message.WroteBody.{WroteBody}
use Rattle.bx_mirror_client.specs.Events.{SaysOr, Takes, counts, heard, out_acked, with_ack}
use Rattle.bx_mirror_client.specs.Sends.{is_acked, is_done, member_at}
use Rattle.bx_mirror_client.specs.Streams.{Streaming, learned, letters_since, out_in, unless_done}
use Rattle.bx_mirror_client.specs.Telling.{HasAcked}
use Rattle.bx_mirror_client.specs.declared.sending.Sending.{Sending}
use Rattle.bx_mirror_client.proofs.Telling.{done_is}
use Rattle.bx_mirror_cluster.specs.Fitting.{Keeps, Parts, StandsOn}
use Rattle.bx_mirror_cluster.specs.GoingOn.{with_nodes}
use Rattle.bx_mirror_cluster.specs.Learning.{MayLearn}
use Rattle.bx_mirror_cluster.specs.NodeSteps.{parts_acked}
use Rattle.bx_mirror_cluster.specs.Writing.{with_node, with_stream}
use Rattle.bx_mirror_cluster.proofs.Finished.{finished}
use Rattle.bx_mirror_cluster.proofs.NodeEvents.{knows, risen, rises_with, tell, there_still, told}
use Rattle.bx_mirror_cluster.proofs.NodeSteps.{ack_kept, ack_noted}
use Rattle.bx_mirror_cluster.proofs.NodeTakes.{at_out, base, here_is, is_its, out_of_own}
use Rattle.bx_mirror_cluster.proofs.StreamsGo.{clock_streams}

-- ---- a write that is done stands, whatever its number

module _ (parts : Parts) (x : Disks) (past : StorePast) (keeps : Keeps parts x past) (n : ℕ) (s : Sending) (is_out : (parts.nodes n).out ≡ Some s) (state : GlobalState) (place : IsPlace past.told.chain state) (rows_are : (parts.nodes n).rows ≡ state.devices)
    (lives : LivesIn (last past.told.chain) s.session) (done : is_done s (parts.nodes n).rows ≡ true) (d sector : ℕ) (content : List ℕ) (brings : WritesIn s.runs.1 d sector content) where
  device : d < parts.made.devices
  device = let run = (keeps.sendable n s is_out).runs.each brings.0 brings.1 in let low = run.device in let on = brings.2.on in omega (arith, low, on)

  -- one without a number has no acknowledgement
  acked : (s.sequence == 0) ≡ true → (k : DeviceRow) (b : Bool) → HasAcked s.acks (member_at d b) k.epoch → ⊥
  acked e k b has =
      let answer = (keeps.devices d device).wrotes.acked_to (record { by = b; session = s.session; epoch = k.epoch; sequence = s.sequence }) (keeps.noted n d k.epoch b s device is_out has) in
      let some = (keeps.numbered d answer.letter answer.there).some in
      let sequence = answer.sequence in
      let zero_is : s.sequence ≡ 0 = grind (arith, nat_tests, e) in
      omega (arith, some, sequence, zero_is)

  untold : (s.sequence == 0) ≡ true → ⊥
  untold e = elim (slice_get_cases state.devices d).1 [
    | inl k ↦ (let row = ((done_is s (parts.nodes n).rows).0 done).each d k.0 (ap (λ (rs : List DeviceRow). slice_get rs d) rows_are ∙ k.2) (brings.0, brings.1, brings.2.on) in
        elim row.writes [ inl a ↦ acked e k.0 false (row.acked false a) | inr b ↦ acked e k.0 true (row.acked true b) ])
    | inr none ↦ absurd (let far = none.0 in let count = keeps.count state place in omega (arith, far, count, device))
  ]

  pub done_anyhow : StandsOn parts x past d sector content state.index
  done_anyhow = by (s.sequence == 0) refl
    where
      by : (t : Bool) → (s.sequence == 0) ≡ t → StandsOn parts x past d sector content state.index
      by true e = absurd (untold e)
      by false e = finished parts x past keeps n s is_out e state place rows_are lives done d sector content device brings

-- what stands is no matter of streams
whoever : (parts : Parts) (f g : ℕ → Streaming) (x : Disks) (past : StorePast) (d sector : ℕ) (content : List ℕ) (index : ℕ) → StandsOn (with_nodes parts f) x past d sector content index → StandsOn (with_nodes parts g) x past d sector content index
whoever parts f g x past d sector content index stands = record {
  settled = record { device = stands.settled.device; behind_label = stands.settled.behind_label; within = stands.settled.within; is = stands.settled.is };
  stands = stands.stands;
}

ack_runs : (member epoch : ℕ) (s : Sending) → (with_ack member epoch s).runs ≡ s.runs
ack_runs member epoch s = by (is_acked s.acks member epoch)
  where
    by : (b : Bool) → (if b then s else record s { acks = s.acks ++ record { member = member; epoch = epoch } ∷ [] }).runs ≡ s.runs
    by true = refl
    by false = refl

heard_session : (from : Actor) (said : Option DeviceMessage) (c : Streaming) → (heard from said c).session ≡ c.session
heard_session from None c = refl
heard_session (Node m) (Some message) c = refl
heard_session (Replica m) (Some message) c = refl
heard_session (Server m) (Some message) c = refl
heard_session (Member m) (Some (Wrote w)) c = refl
heard_session (Member m) (Some (Data d)) c = refl
heard_session (Member m) (Some (Write w)) c = refl
heard_session (Member m) (Some (Read r)) c = refl
heard_session (Member m) (Some (Copy p)) c = refl
heard_session (Member m) (Some (Copied p)) c = refl
heard_session (Member m) (Some Alive) c = refl

-- ---- in an event

module _ (parts : Parts) (x : Disks) (past : StorePast) (n : ℕ) (known : GlobalState) (input : Input) (before : List Letter) (keeps : Keeps parts x (store_with past before)) (may : MayLearn parts (store_with past before) n known)
    (few : length known.devices ≤ 4) (s : Sending) (is_out : (parts.nodes n).out ≡ Some s) (lives : LivesIn (last past.told.chain) s.session) (own : session_of known (parts.nodes n).node (parts.nodes n).boot ≡ Some s.session)
    (d sector : ℕ) (content : List ℕ) (brings : WritesIn s.runs.1 d sector content) where
  abbrev new : Streaming
  new = learned known (parts.nodes n)

  abbrev session : Option ℕ
  session = session_of known (parts.nodes n).node (parts.nodes n).boot

  abbrev after_ : List Letter → StorePast
  after_ letters = store_with (store_heard past (Node n) known.index input None) letters

  abbrev since : List Letter
  since = letters_since (parts.nodes n).rows new

  abbrev StandsThen : Streaming → List Letter → Type 0
  StandsThen q letters = StandsOn (with_stream parts n q) x (after_ letters) d sector content known.index

  -- it was done with what it had noted
  at_once : is_done s known.devices ≡ true → StandsThen new before
  at_once done =
      let clock = (clock_streams parts x (store_with past before) (risen parts x past n known input before keeps may few).told.greatest (rises_with past.told.greatest input) keeps).keeps in
      let learns : MayLearn parts (risen parts x past n known input before keeps may few) n known = record { inside = may.inside; itself = may.itself; up = may.up; place = may.place; rises = may.rises; own_boot = may.own_boot } in
      let stream : Streaming = at_out parts x (risen parts x past n known input before keeps may few) clock n known learns (Some s) in
      let stays : out_of_own session (parts.nodes n).out ≡ Some s = ap (λ (o : Option Sending). out_of_own session o) is_out ∙ ap (λ (t : Bool). if t then Some s else None) (is_its session s.session own) in
      let fits_it : Keeps (with_stream parts n stream) x (after_ before) =
      subst (λ (o : Option Sending). Keeps (with_stream parts n (at_out parts x (risen parts x past n known input before keeps may few) clock n known learns o)) x (after_ before)) stays
      (base parts x (risen parts x past n known input before keeps may few) clock n known learns) in
      whoever parts (with_node parts.nodes n stream) (with_node parts.nodes n new) x (after_ before) d sector content known.index
      (done_anyhow (with_stream parts n stream) x (after_ before) fits_it n s (ap (λ (q : Streaming). q.out) (here_is parts.nodes n stream)) known may.place (ap (λ (q : Streaming). q.rows) (here_is parts.nodes n stream)) lives
      (ap (λ (q : Streaming). is_done s q.rows) (here_is parts.nodes n stream) ∙ done) d sector content brings)

  then_told : StandsThen new before → StandsThen new (before ++ since)
  then_told stands = (tell parts x past n known input before keeps may few before (parts.nodes n).rows (knows parts x past n known input before keeps may few).keeps).stands d sector content known.index stands

  -- or it still is out
  still_out : is_done s known.devices ≡ false → new.out ≡ Some s
  still_out e = ap (λ (o : Option Sending). out_in session known.devices o) is_out ∙ ap (λ (t : Bool). if t then unless_done known.devices s else None) (is_its session s.session own) ∙ ap (λ (t : Bool). if t then None else Some s) e

  acked_stands : new.out ≡ Some s → (m : ℕ) (w : WroteBody) (letter : Letter) → Contains (past.told.letters ++ before) letter → letter.from ≡ Member m → Spells (Wrote w) letter.kind letter.body → counts s m w ≡ true → is_done (with_ack m w.epoch s) known.devices ≡ true → StandsThen new (before ++ since)
  acked_stands e m w letter there is says it_counts done =
      let now : Parts = with_stream parts n new in
      let stream : Streaming = record (with_node parts.nodes n new n) { out = Some (with_ack m w.epoch s) } in
      let fits_it : Keeps (parts_acked now n s m w.epoch) x (after_ (before ++ since)) =
      ack_noted now x (after_ (before ++ since)) n s m w (told parts x past n known input before keeps may few).keeps
      (record { out = ap (λ (q : Streaming). q.out) (here_is parts.nodes n new) ∙ e; counts_it = it_counts; letter = letter; there = there_still parts x past n known input before keeps may few letter there; from = is; says = says }) in
      let rows_are : (with_node now.nodes n stream n).rows ≡ known.devices = ap (λ (q : Streaming). q.rows) (here_is now.nodes n stream) ∙ ap (λ (q : Streaming). q.rows) (here_is parts.nodes n new) in
      whoever parts (with_node now.nodes n stream) (with_node parts.nodes n new) x (after_ (before ++ since)) d sector content known.index
      (done_anyhow (parts_acked now n s m w.epoch) x (after_ (before ++ since)) fits_it n (with_ack m w.epoch s) (ap (λ (q : Streaming). q.out) (here_is now.nodes n stream)) known may.place rows_are
      (subst (λ (t : ℕ). LivesIn (last past.told.chain) t) (sym (ack_kept m w.epoch s).0) lives) (ap (λ (rs : List DeviceRow). is_done (with_ack m w.epoch s) rs) rows_are ∙ done) d sector content
      (subst (λ (r : KindAndRuns). WritesIn r.1 d sector content) (sym (ack_runs m w.epoch s)) brings))

  hears_ends : (from : Actor) (message : DeviceMessage) (letter : Letter) → Contains (past.told.letters ++ before) letter → letter.from ≡ from → Spells message letter.kind letter.body → new.out ≡ Some s → (heard from (Some message) new).out ≡ None → StandsThen new (before ++ since)
  hears_ends (Node m) message letter there is says e none = absurd (let f : None ≡ Some s = sym none ∙ e in cc)
  hears_ends (Replica m) message letter there is says e none = absurd (let f : None ≡ Some s = sym none ∙ e in cc)
  hears_ends (Server m) message letter there is says e none = absurd (let f : None ≡ Some s = sym none ∙ e in cc)
  hears_ends (Member m) (Data b) letter there is says e none = absurd (let f : None ≡ Some s = sym none ∙ e in cc)
  hears_ends (Member m) (Write w) letter there is says e none = absurd (let f : None ≡ Some s = sym none ∙ e in cc)
  hears_ends (Member m) (Read r) letter there is says e none = absurd (let f : None ≡ Some s = sym none ∙ e in cc)
  hears_ends (Member m) (Copy p) letter there is says e none = absurd (let f : None ≡ Some s = sym none ∙ e in cc)
  hears_ends (Member m) (Copied p) letter there is says e none = absurd (let f : None ≡ Some s = sym none ∙ e in cc)
  hears_ends (Member m) Alive letter there is says e none = absurd (let f : None ≡ Some s = sym none ∙ e in cc)
  hears_ends (Member m) (Wrote w) letter there is says e none = by (counts s m w) refl (is_done (with_ack m w.epoch s) known.devices) refl (sym (ap (λ (o : Option Sending). out_acked m w known.devices o) e) ∙ none)
    where
      by : (t : Bool) → counts s m w ≡ t → (u : Bool) → is_done (with_ack m w.epoch s) known.devices ≡ u → (if t then (if u then None else Some (with_ack m w.epoch s)) else Some s) ≡ None → StandsThen new (before ++ since)
      by true it_counts true done it = acked_stands e m w letter there is says it_counts done
      by true it_counts false done it = absurd (let f : None ≡ Some (with_ack m w.epoch s) = sym it in cc)
      by false it_counts u done it = absurd (let f : None ≡ Some s = sym it in cc)

  -- in whatever way it ends
  by_packet : (from : Actor) (said : Option DeviceMessage) (letter : Letter) → Contains (past.told.letters ++ before) letter → letter.from ≡ from → SaysOr letter.kind letter.body said → (heard from said new).out ≡ None → StandsThen new (before ++ since)
  by_packet from said letter there is says none = by (is_done s known.devices) refl
    where
      heard_it : (o : Option DeviceMessage) → SaysOr letter.kind letter.body o → (heard from o new).out ≡ None → new.out ≡ Some s → StandsThen new (before ++ since)
      heard_it None spells it e = absurd (let f : None ≡ Some s = sym it ∙ e in cc)
      heard_it (Some message) spells it e = hears_ends from message letter there is spells e it

      by : (t : Bool) → is_done s known.devices ≡ t → StandsThen new (before ++ since)
      by true e = then_told (at_once e)
      by false e = heard_it said says none (still_out e)

  by_itself : new.out ≡ None → StandsThen new (before ++ since)
  by_itself none = by (is_done s known.devices) refl
    where
      by : (t : Bool) → is_done s known.devices ≡ t → StandsThen new (before ++ since)
      by true e = then_told (at_once e)
      by false e = absurd (let f : None ≡ Some s = sym none ∙ still_out e in cc)

  pub then_again : StandsThen new (before ++ since) → StandsThen new ((before ++ since) ++ letters_since [] new)
  then_again stands = (tell parts x past n known input before keeps may few (before ++ since) [] (told parts x past n known input before keeps may few).keeps).stands d sector content known.index stands

  pub anyone : (p q : Streaming) (letters : List Letter) → StandsThen p letters → StandsThen q letters
  anyone p q letters stands = whoever parts (with_node parts.nodes n p) (with_node parts.nodes n q) x (after_ letters) d sector content known.index stands

pub write_stands : (parts : Parts) (x : Disks) (past : StorePast) (n : ℕ) (known : GlobalState) (input : Input) (new : Streaming) (before after : List Letter) → Keeps parts x (store_with past before) → MayLearn parts (store_with past before) n known → length known.devices ≤ 4
    → Arrives (past.told.letters ++ before) input → Takes (parts.nodes n) known input new before after → (s : Sending) → (parts.nodes n).out ≡ Some s → new.out ≡ None → new.session ≡ Some s.session → LivesIn (last past.told.chain) s.session
    → (d sector : ℕ) (content : List ℕ) → WritesIn s.runs.1 d sector content → StandsOn (with_stream parts n new) x (store_with (store_heard past (Node n) known.index input None) after) d sector content known.index
write_stands parts x past n known (Packet packet reading) new before after keeps may few arrives takes s is_out none own lives d sector content brings =
    let hears_it = takes.0 in
    let its = sym (heard_session packet.now.from hears_it.said (learned known (parts.nodes n))) ∙ sym (ap (λ (q : Streaming). q.session) hears_it.is) ∙ own in
    subst (λ (ls : List Letter). StandsOn (with_stream parts n new) x (store_with (store_heard past (Node n) known.index (Packet packet reading) None) ls) d sector content known.index) (sym takes.1)
    (anyone parts x past n known (Packet packet reading) before keeps may few s is_out lives its d sector content brings (learned known (parts.nodes n)) new (before ++ letters_since (parts.nodes n).rows (learned known (parts.nodes n)))
    (by_packet parts x past n known (Packet packet reading) before keeps may few s is_out lives its d sector content brings packet.now.from hears_it.said (letter_of packet.now) arrives refl hears_it.says (sym (ap (λ (q : Streaming). q.out) hears_it.is) ∙ none)))
write_stands parts x past n known (Tick reading) new before after keeps may few arrives takes s is_out none own lives d sector content brings =
    let its = sym (ap (λ (q : Streaming). q.session) takes.0) ∙ own in
    subst (λ (ls : List Letter). StandsOn (with_stream parts n new) x (store_with (store_heard past (Node n) known.index (Tick reading) None) ls) d sector content known.index) (sym takes.1)
    (anyone parts x past n known (Tick reading) before keeps may few s is_out lives its d sector content brings (learned known (parts.nodes n)) new ((before ++ letters_since (parts.nodes n).rows (learned known (parts.nodes n))) ++ letters_since [] (learned known (parts.nodes n)))
    (then_again parts x past n known (Tick reading) before keeps may few s is_out lives its d sector content brings
    (by_itself parts x past n known (Tick reading) before keeps may few s is_out lives its d sector content brings (sym (ap (λ (q : Streaming). q.out) takes.0) ∙ none))))
write_stands parts x past n known Synced new before after keeps may few arrives takes s is_out none own lives d sector content brings =
    let its = sym (ap (λ (q : Streaming). q.session) takes.0) ∙ own in
    subst (λ (ls : List Letter). StandsOn (with_stream parts n new) x (store_with (store_heard past (Node n) known.index Synced None) ls) d sector content known.index) (sym takes.1)
    (anyone parts x past n known Synced before keeps may few s is_out lives its d sector content brings (learned known (parts.nodes n)) new (before ++ letters_since (parts.nodes n).rows (learned known (parts.nodes n)))
    (by_itself parts x past n known Synced before keeps may few s is_out lives its d sector content brings (sym (ap (λ (q : Streaming). q.out) takes.0) ∙ none)))
