-- A node for which no number is left has a write out: nobody is told of it, and all goes on fitting.
use Rattle.std.proofs.Common.{◌≡◌, inl, ℕ, Bool, true, Contains, List, [], ◌∷◌, Some, None, refl, sym, ◌∙◌, ap, subst, arith}
use Rattle.std.specs.Prelude.{◌==◌, if◌then◌else◌}
use Rattle.std.proofs.lemmas.Bool.Decides.{nat_tests}
use Rattle.bx_disk.specs.Disks.{Disks}
use Rattle.bx_facts.proofs.Lists.{behind, nothing}
use Rattle.bx_facts.specs.Writes.{AreRuns, Sent, StorePast}
use Rattle.bx_post.specs.declared.packets.Letter.{Letter}
use Rattle.bx_records.specs.Runs.{KindAndRuns}
use Rattle.bx_rows.specs.declared.device.DeviceRow.{DeviceRow}
use Rattle.bx_mirror_laws.specs.Acting.{FromEpoch}
use Rattle.bx_mirror_laws.proofs.Nodes.{stands_send}
use Rattle.bx_mirror_client.specs.Letters.{letters_from, write_letters}
use Rattle.bx_mirror_client.specs.Sends.{member_at, next_number}
use Rattle.bx_mirror_client.specs.Streams.{Streaming, sending}
use Rattle.bx_mirror_client.specs.declared.asking.Asking.{Asking}
use Rattle.bx_mirror_client.specs.declared.sending.Sending.{Sending}
use Rattle.bx_mirror_cluster.specs.Fitting.{IsComing, IsSettledOn, Keeps, KnownFrom, Nowhere, Parts, StandsFor, StandsOn, WillReadOn, handings, last_row, out_by, rows_before, side_of}
use Rattle.bx_mirror_cluster.specs.GoingOn.{StreamsGoOn, letters_more}
use Rattle.bx_mirror_cluster.specs.Speaking.{FitsPacket, IsSendable}
use Rattle.bx_mirror_cluster.specs.Writing.{parts_sent, past_sent, with_node, with_sent, with_stream, write_by}
use Rattle.bx_mirror_cluster.proofs.GoingOn.{goes_on, reads_on, settles_on, stands_still}
use Rattle.bx_mirror_cluster.proofs.NodeSteps.{asked_still, no_reads, node_goes_on}

-- ---- the store's past has a write more, which nobody carries

module _ (parts : Parts) (x : Disks) (past : StorePast) (sent : Sent) where
  abbrev past_more : StorePast
  past_more = record past { writes = sent ∷ past.writes }

  pub written_keeps : Keeps parts x past → Keeps parts x past_more
  written_keeps keeps = record {
    history = keeps.history;
    devices = λ d within. let was = keeps.devices d within in record {
      rows = was.rows;
      hands = was.hands;
      copies = was.copies;
      writes = was.writes;
      wrotes = was.wrotes;
      outs = was.outs;
      coming = was.coming;
      answering = was.answering;
      copying = was.copying;
      copied_to = was.copied_to;
      labels = was.labels;
      down = was.down;
      known = was.known;
    };
    count = keeps.count;
    rising = keeps.rising;
    highest = keeps.highest;
    placed = keeps.placed;
    actual_sent = λ w there. behind sent past.writes _ (keeps.actual_sent w there);
    out_actual = keeps.out_actual;
    out_number = keeps.out_number;
    actual_given = keeps.actual_given;
    sendable = keeps.sendable;
    holding = keeps.holding;
    askable = keeps.askable;
    epochs = keeps.epochs;
    owing = keeps.owing;
    from_members = keeps.from_members;
    own_out = keeps.own_out;
    lasts = keeps.lasts;
    brings = keeps.brings;
    noted = keeps.noted;
    asking = keeps.asking;
    asked = keeps.asked;
    node_known = keeps.node_known;
    node_of = keeps.node_of;
    boot_of = keeps.boot_of;
    sessions = keeps.sessions;
    booted = keeps.booted;
    owned = keeps.owned;
    single = keeps.single;
    found_most = keeps.found_most;
    in_order = keeps.in_order;
    left = keeps.left;
    numbered = keeps.numbered;
    tagged = keeps.tagged;
    read_tagged = keeps.read_tagged;
    member_boots = keeps.member_boots;
    node_boots = keeps.node_boots;
  }

  stands_for : (From : DeviceRow → Type 0) (d sector : ℕ) (content : List ℕ) → StandsFor From parts x past d sector content → StandsFor From parts x past_more d sector content
  stands_for From d sector content stands = stands_send d past.told.greatest From (last_row past.told.chain d) (rows_before past.told.chain d) (handings d past.told.handed) (side_of past.told x parts.members d)
      (IsComing past.told.letters d) (IsComing past.told.letters d) past.writes (sent ∷ past.writes) sector content (λ l other comes brings. inl comes) (λ w there. behind sent past.writes w there) stands

  pub settles_written : (d sector : ℕ) (content : List ℕ) → IsSettledOn parts x past d sector content → IsSettledOn parts x past_more d sector content
  settles_written d sector content settled = record { device = settled.device; behind_label = settled.behind_label; within = settled.within; is = stands_for Nowhere d sector content settled.is }

  pub stands_written : (d sector : ℕ) (content : List ℕ) (index : ℕ) → StandsOn parts x past d sector content index → StandsOn parts x past_more d sector content index
  stands_written d sector content index stands = record { settled = settles_written d sector content stands.settled; stands = stands_for (KnownFrom past.told.chain d index) d sector content stands.stands }

  pub reads_written : (m : ℕ) (a : Asking) (sector : ℕ) (content : List ℕ) → WillReadOn parts x past m a sector content → WillReadOn parts x past_more m a sector content
  reads_written m a sector content will = record {
    device = will.device;
    behind_label = will.behind_label;
    within = will.within;
    row = will.row;
    row_is = will.row_is;
    stands = stands_for (FromEpoch will.row.epoch) a.device sector content will.stands;
    coming = will.coming;
    came = will.came;
  }

-- ---- the stream has it out

module _ (parts : Parts) (x : Disks) (past : StorePast) (keeps : Keeps parts x past) (n session until : ℕ) (runs : KindAndRuns) (none : (parts.nodes n).out ≡ None) (are : AreRuns parts.made runs.1)
    (no_number : (next_number (parts.nodes n).sequence == 0) ≡ true) (own : (parts.nodes n).session ≡ Some session) (fits : FitsPacket (write_by (parts.nodes n) session until runs)) where
  abbrev s : Sending
  s = write_by (parts.nodes n) session until runs

  abbrev next : Streaming
  next = sending (Some session) runs until (parts.nodes n)

  abbrev sent : Sent
  sent = record { session = session; until = until; runs = runs.1 }

  zero_is : next_number (parts.nodes n).sequence ≡ 0
  zero_is = grind (arith, nat_tests, no_number)

  untold : out_by (Some s) ≡ out_by (parts.nodes n).out
  untold = ap (λ (t : Bool). if t then None else Some (record { session = session; sequence = next_number (parts.nodes n).sequence; until = until; runs = runs.1 })) no_number ∙ sym (ap out_by none)

  on : StreamsGoOn parts keeps.history (with_node parts.nodes n next)
  on = node_goes_on parts x past keeps n next untold refl refl (omega (arith, zero_is)) refl (omega arith)
      (λ t is. let same : s ≡ t = cc in subst (λ (w : Sending). IsSendable parts.made w) same (record { packet = fits; runs = are }))
      (λ t is. let same : s ≡ t = cc in own ∙ ap (λ (w : Sending). Some w.session) same)
      (λ d epoch b t within is has. absurd (let same : s ≡ t = cc in nothing _ (subst (λ (w : Sending). Contains w.acks (record { member = member_at d b; epoch = epoch })) (sym same) has)))
      (λ a is. asked_still parts x past keeps n a is)

  no_letters : write_letters [] (parts.nodes n).node next.out (parts.nodes n).rows ≡ []
  no_letters = ap (λ (t : Bool). if t then [] else letters_from [] (parts.nodes n).node s 0 (parts.nodes n).rows) no_number

  -- the past with no letters more is the one with those that it sends
  abbrev past_by : List Letter → StorePast
  past_by letters = with_sent past sent letters

  pub untold_keeps : Keeps (parts_sent parts n session until runs) x (past_sent parts past n session until runs)
  untold_keeps = subst (λ (ls : List Letter). Keeps (with_stream parts n next) x (past_by ls)) (sym no_letters)
      (written_keeps (with_stream parts n next) x (letters_more past []) sent (goes_on parts x past keeps (with_node parts.nodes n next) [] on (no_reads (with_node parts.nodes n next))))

  pub untold_settles : (d sector : ℕ) (content : List ℕ) → IsSettledOn parts x past d sector content → IsSettledOn (parts_sent parts n session until runs) x (past_sent parts past n session until runs) d sector content
  untold_settles d sector content settled = subst (λ (ls : List Letter). IsSettledOn (with_stream parts n next) x (past_by ls) d sector content) (sym no_letters)
      (settles_written (with_stream parts n next) x (letters_more past []) sent d sector content (settles_on parts x past keeps (with_node parts.nodes n next) [] on (no_reads (with_node parts.nodes n next)) d sector content settled))

  pub untold_stands : (d sector : ℕ) (content : List ℕ) (index : ℕ) → StandsOn parts x past d sector content index → StandsOn (parts_sent parts n session until runs) x (past_sent parts past n session until runs) d sector content index
  untold_stands d sector content index stands = subst (λ (ls : List Letter). StandsOn (with_stream parts n next) x (past_by ls) d sector content index) (sym no_letters)
      (stands_written (with_stream parts n next) x (letters_more past []) sent d sector content index (stands_still parts x past keeps (with_node parts.nodes n next) [] on (no_reads (with_node parts.nodes n next)) d sector content index stands))

  pub untold_reads : (m : ℕ) (a : Asking) (sector : ℕ) (content : List ℕ) → WillReadOn parts x past m a sector content → WillReadOn (parts_sent parts n session until runs) x (past_sent parts past n session until runs) m a sector content
  untold_reads m a sector content will = subst (λ (ls : List Letter). WillReadOn (with_stream parts n next) x (past_by ls) m a sector content) (sym no_letters)
      (reads_written (with_stream parts n next) x (letters_more past []) sent m a sector content (reads_on parts x past keeps (with_node parts.nodes n next) [] on (no_reads (with_node parts.nodes n next)) m a sector content will))
