-- All that a stream does in one event, as an event of a store: members and streams fit the past again, and what stands goes on.
use Rattle.std.proofs.Common.{◌≡◌, ℕ, ◌≤◌, Contains, List, [], ◌++◌, length, Option, Some, None, refl, sym, ◌∙◌, ap, subst, arith}
use Rattle.std.proofs.lemmas.List.{append_assoc}
use Rattle.std.proofs.lemmas.List.Elements.{Contains-append_left}
use Rattle.bx_base.specs.declared.names.Actor.{Actor}
use Rattle.bx_base.specs.declared.names.Actor.TheVariants.{Member, Node, Replica, Server}
use Rattle.bx_disk.specs.Disks.{Disks}
use Rattle.bx_facts.specs.Inputs.{IsComing as Arrives, greatest_with}
use Rattle.bx_facts.specs.Writes.{StorePast, store_heard, store_with}
use Rattle.bx_facts.specs.declared.input.Input.{Input}
use Rattle.bx_facts.specs.declared.input.Input.TheVariants.{Packet, Tick, Synced}
use Rattle.bx_global.specs.declared.state.GlobalState.{GlobalState}
use Rattle.bx_post.specs.Posts.{letter_of}
use Rattle.bx_post.specs.declared.packets.Letter.{Letter}
use Rattle.bx_rows.specs.declared.device.DeviceRow.{DeviceRow}
use Rattle.bx_mirror_packets.specs.DeviceMessages.{Spells}
use Rattle.bx_mirror_packets.specs.declared.message.DeviceMessage.{DeviceMessage}
use Rattle.bx_mirror_packets.specs.declared.message.DeviceMessage.TheVariants.{Write, Wrote, Read, Data, Copy, Copied, Alive}
use Rattle.bx_mirror_client.specs.Events.{SaysOr, Takes, asks_answered, heard, out_acked}
use Rattle.bx_mirror_client.specs.Streams.{Streaming, learned, letters_since}
use Rattle.bx_mirror_cluster.specs.Fitting.{Keeps, Parts}
use Rattle.bx_mirror_cluster.specs.GoingOn.{letters_more}
use Rattle.bx_mirror_cluster.specs.Learning.{MayLearn, with_clock}
use Rattle.bx_mirror_cluster.specs.Writing.{with_node, with_stream}
use Rattle.bx_mirror_cluster.specs.GoesFurther.{StreamsGo}
use Rattle.bx_mirror_cluster.specs.MemberSteps.{IsFor}
use Rattle.bx_mirror_cluster.proofs.NodeTakes.{again, here_is}
use Rattle.bx_mirror_cluster.proofs.StreamsGo.{ack_goes, clock_streams, data_goes, learned_goes, since_goes, streams_both}

pub rises_with : (greatest : ℕ) (input : Input) → greatest ≤ greatest_with greatest input
rises_with greatest (Packet packet reading) = omega arith
rises_with greatest (Tick reading) = omega arith
rises_with greatest Synced = omega arith

module _ (parts : Parts) (x : Disks) (past : StorePast) (n : ℕ) (known : GlobalState) (input : Input) (before : List Letter) (keeps : Keeps parts x (store_with past before)) (may : MayLearn parts (store_with past before) n known)
    (few : length known.devices ≤ 4) where
  abbrev pub c : Streaming
  c = parts.nodes n

  abbrev pub new : Streaming
  new = learned known c

  -- the past then, with these letters
  abbrev pub then_ : List Letter → StorePast
  then_ letters = store_with (store_heard past (Node n) known.index input None) letters

  abbrev pub since : List Letter
  since = letters_since c.rows new

  abbrev pub GoesThen : Streaming → List Letter → Type 0
  GoesThen q letters = StreamsGo parts (with_stream parts n q) x (store_with past before) (then_ letters)

  node_is : (with_node parts.nodes n new n).node ≡ n
  node_is = ap (λ (q : Streaming). q.node) (here_is parts.nodes n new) ∙ may.itself

  few_rows : length (with_node parts.nodes n new n).rows ≤ 4
  few_rows = let e = ap (λ (q : Streaming). length q.rows) (here_is parts.nodes n new) in omega (arith, e, few)

  abbrev pub risen : StorePast
  risen = with_clock (store_with past before) (greatest_with past.told.greatest input)

  pub knows : GoesThen new before
  knows =
      let first = clock_streams parts x (store_with past before) (greatest_with past.told.greatest input) (rises_with past.told.greatest input) keeps in
      streams_both parts parts (with_stream parts n new) x (store_with past before) risen (then_ before) first
      (learned_goes parts x risen first.keeps n known (record { inside = may.inside; itself = may.itself; up = may.up; place = may.place; rises = may.rises; own_boot = may.own_boot }))

  -- it tells members
  pub tell : (old : List Letter) (rows : List DeviceRow) → Keeps (with_stream parts n new) x (then_ old) → StreamsGo (with_stream parts n new) (with_stream parts n new) x (then_ old) (then_ (old ++ letters_since rows new))
  tell old rows fits_it =
      subst (λ (ls : List Letter). let q : StorePast = record (then_ old) { told = record (then_ old).told { letters = ls } } in StreamsGo (with_stream parts n new) (with_stream parts n new) x (then_ old) q) (append_assoc past.told.letters old (letters_since rows new))
      (subst (λ (q : Streaming). StreamsGo (with_stream parts n new) (with_stream parts n new) x (then_ old) (letters_more (then_ old) (letters_since rows q))) (here_is parts.nodes n new)
      (since_goes (with_stream parts n new) x (then_ old) n rows fits_it few_rows node_is))

  tells : (old : List Letter) (rows : List DeviceRow) → GoesThen new old → GoesThen new (old ++ letters_since rows new)
  tells old rows goes = streams_both parts (with_stream parts n new) (with_stream parts n new) x (store_with past before) (then_ old) (then_ (old ++ letters_since rows new)) goes (tell old rows goes.keeps)

  pub told : GoesThen new (before ++ since)
  told = tells before c.rows knows

  abbrev pub told_past : StorePast
  told_past = then_ (before ++ since)

  -- and then its stream changes
  changes : (f : Streaming → Streaming) → StreamsGo (with_stream parts n new) (with_stream (with_stream parts n new) n (f (with_node parts.nodes n new n))) x told_past told_past → GoesThen (f new) (before ++ since)
  changes f goes = streams_both parts (with_stream parts n new) (with_stream parts n (f new)) x (store_with past before) told_past told_past told
      (subst (λ (p : Parts). StreamsGo (with_stream parts n new) p x told_past told_past) (again parts n new f) goes)

  pub there_still : (letter : Letter) → Contains (past.told.letters ++ before) letter → Contains (past.told.letters ++ (before ++ since)) letter
  there_still letter there = subst (λ (ls : List Letter). Contains ls letter) (append_assoc past.told.letters before since) (Contains-append_left (past.told.letters ++ before) since letter there)

  -- what an answer leaves
  hears : (from : Actor) (message : DeviceMessage) (letter : Letter) → Contains (past.told.letters ++ before) letter → letter.from ≡ from → letter.to ≡ Node n → Spells message letter.kind letter.body → GoesThen (heard from (Some message) new) (before ++ since)
  hears (Node m) message letter there is to says = told
  hears (Replica m) message letter there is to says = told
  hears (Server m) message letter there is to says = told
  hears (Member m) (Wrote w) letter there is to says = changes (λ q. record q { out = out_acked m w q.rows q.out }) (ack_goes (with_stream parts n new) x told_past n m w letter told.keeps (there_still letter there) is says)
  hears (Member m) (Data d) letter there is to says = changes (λ q. record q { asks = asks_answered d q.rows q.asks }) (data_goes (with_stream parts n new) x told_past n d letter told.keeps (there_still letter there) to says)
  hears (Member m) (Write w) letter there is to says = told
  hears (Member m) (Read r) letter there is to says = told
  hears (Member m) (Copy p) letter there is to says = told
  hears (Member m) (Copied p) letter there is to says = told
  hears (Member m) Alive letter there is to says = told

  hears_or : (from : Actor) (said : Option DeviceMessage) (letter : Letter) → Contains (past.told.letters ++ before) letter → letter.from ≡ from → letter.to ≡ Node n → SaysOr letter.kind letter.body said → GoesThen (heard from said new) (before ++ since)
  hears_or from None letter there is to says = told
  hears_or from (Some message) letter there is to says = hears from message letter there is to says

-- where an event leads
abbrev pub NodeWent : Parts → Disks → StorePast → ℕ → GlobalState → Input → Streaming → List Letter → List Letter → Type 0
NodeWent parts x past n known input new before after = StreamsGo parts (with_stream parts n new) x (store_with past before) (store_with (store_heard past (Node n) known.index input None) after)

pub node_takes : (parts : Parts) (x : Disks) (past : StorePast) (n : ℕ) (known : GlobalState) (input : Input) (new : Streaming) (before after : List Letter) → Keeps parts x (store_with past before) → MayLearn parts (store_with past before) n known
    → length known.devices ≤ 4 → Arrives (past.told.letters ++ before) input → IsFor (Node n) input → Takes (parts.nodes n) known input new before after → NodeWent parts x past n known input new before after
node_takes parts x past n known (Packet packet reading) new before after keeps may few arrives for_it takes =
    let hears_it = takes.0 in
    subst (λ (ls : List Letter). NodeWent parts x past n known (Packet packet reading) new before ls) (sym takes.1)
    (subst (λ (q : Streaming). NodeWent parts x past n known (Packet packet reading) q before (before ++ letters_since (parts.nodes n).rows (learned known (parts.nodes n)))) (sym hears_it.is)
    (hears_or parts x past n known (Packet packet reading) before keeps may few packet.now.from hears_it.said (letter_of packet.now) arrives refl for_it hears_it.says))
node_takes parts x past n known (Tick reading) new before after keeps may few arrives for_it takes =
    subst (λ (ls : List Letter). NodeWent parts x past n known (Tick reading) new before ls) (sym takes.1)
    (subst (λ (q : Streaming). NodeWent parts x past n known (Tick reading) q before ((before ++ letters_since (parts.nodes n).rows (learned known (parts.nodes n))) ++ letters_since [] (learned known (parts.nodes n)))) (sym takes.0)
    (tells parts x past n known (Tick reading) before keeps may few (before ++ letters_since (parts.nodes n).rows (learned known (parts.nodes n))) [] (told parts x past n known (Tick reading) before keeps may few)))
node_takes parts x past n known Synced new before after keeps may few arrives for_it takes =
    subst (λ (ls : List Letter). NodeWent parts x past n known Synced new before ls) (sym takes.1)
    (subst (λ (q : Streaming). NodeWent parts x past n known Synced q before (before ++ letters_since (parts.nodes n).rows (learned known (parts.nodes n)))) (sym takes.0)
    (told parts x past n known Synced before keeps may few))
