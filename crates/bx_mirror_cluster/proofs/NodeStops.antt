-- A node stops: nothing of it is out, and its write may still be taken.
use Rattle.std.proofs.Common.{◌≡◌, ◌≢◌, ◌⊎◌, inl, inr, ℕ, ◌<◌, Bool, true, false, List, Option, Some, None, sym, ◌∙◌, ap, arith}
use Rattle.std.specs.Prelude.{◌==◌, slice_get, if◌then◌else◌}
use Rattle.std.proofs.lemmas.Bool.Decides.{nat_tests}
use Rattle.bx_base.specs.declared.names.Actor.TheVariants.{Node}
use Rattle.bx_disk.specs.Disks.{Disks}
use Rattle.bx_facts.specs.Chains.{last}
use Rattle.bx_facts.specs.Writes.{StorePast, store_crashed}
use Rattle.bx_rows.specs.declared.device.DeviceRow.{DeviceRow}
use Rattle.bx_mirror_laws.specs.Sides.{Out, Side, WriteLetter, Wrote}
use Rattle.bx_mirror_laws.specs.Sound.{AreWrites, Sends}
use Rattle.bx_mirror_client.specs.Streams.{Streaming, stopped}
use Rattle.bx_mirror_client.specs.declared.asking.Asking.{Asking}
use Rattle.bx_mirror_cluster.proofs.Drawn.{drawn_same}
use Rattle.bx_mirror_cluster.specs.Fitting.{IsClaimed, IsDeviceSound, IsSettledOn, Keeps, Parts, StandsOn, WillReadOn, knows_of, last_row, out_by, outs_of, rows_before, side_of}
use Rattle.bx_mirror_cluster.specs.Writing.{with_node, with_stream}

-- with fewer writes out all letters are what they were
pub writes_fewer : (device greatest : ℕ) (last_ : DeviceRow) (older : List DeviceRow) (sides : Bool → Side) (writes : List WriteLetter) (wrotes : List Wrote) (actual : List Out) (outs outs_next : ℕ → Option Out) (knows knows_next : ℕ → Option DeviceRow) (live : Out → Type 0)
    → ((o : Out) (r : DeviceRow) → Sends outs_next knows_next live o r → Sends outs knows live o r)
    → AreWrites device greatest last_ older sides writes wrotes actual outs knows live → AreWrites device greatest last_ older sides writes wrotes actual outs_next knows_next live
writes_fewer device greatest last_ older sides writes wrotes actual outs outs_next knows knows_next live before are = record {
  each = λ l there. let was = are.each l there in record {
    row = was.row;
    row_is = was.row_is;
    epoch_is = was.epoch_is;
    case = elim was.case [
      | inl carries ↦ inl carries
      | inr rest ↦ inr (elim rest [
        | inl late ↦ inl late
        | inr two ↦ inr (elim two [
          | inl past ↦ inl past
          | inr left ↦ inr (record {
            row = left.row;
            is = left.is;
            later = left.later;
            no_source = left.no_source;
            been = left.been;
            others = λ o r x content other sends row low less its brings. left.others o r x content other (before o r sends) row low less its brings;
          })
        ])
      ])
    ];
  };
}

same_or : (n m : ℕ) → (n ≡ m) ⊎ (n ≢ m)
same_or n m = grind arith

module _ (parts : Parts) (x : Disks) (past : StorePast) (keeps : Keeps parts x past) (n : ℕ) where
  abbrev c : Streaming
  c = stopped (parts.nodes n)

  abbrev nodes_next : ℕ → Streaming
  nodes_next = with_node parts.nodes n c

  at_it : (m : ℕ) → m ≡ n → nodes_next m ≡ c
  at_it m e = let same : (m == n) ≡ true = grind (arith, nat_tests, e) in ap (λ (b : Bool). if b then c else parts.nodes m) same

  at_other : (m : ℕ) → m ≢ n → nodes_next m ≡ parts.nodes m
  at_other m e = let other : (m == n) ≡ false = grind (arith, nat_tests, e) in ap (λ (b : Bool). if b then c else parts.nodes m) other

  no_session : (m : ℕ) (session : ℕ) → m ≡ n → (nodes_next m).session ≡ Some session → ⊥
  no_session m session e is = let no : None ≡ Some session = sym (ap (λ (q : Streaming). q.session) (at_it m e)) ∙ is in absurd cc

  -- a session that is still there was there
  was_session : (m session : ℕ) → (nodes_next m).session ≡ Some session → (m ≢ n) × ((parts.nodes m).session ≡ Some session)
  was_session m session is = elim (same_or m n) [
    | inl e ↦ absurd (no_session m session e is)
    | inr e ↦ (e, sym (ap (λ (q : Streaming). q.session) (at_other m e)) ∙ is)
  ]

  numbers : (m : ℕ) → ((nodes_next m).sequence ≡ (parts.nodes m).sequence) × ((nodes_next m).tag ≡ (parts.nodes m).tag)
  numbers m = elim (same_or m n) [
    | inl e ↦ (ap (λ (q : Streaming). q.sequence) (at_it m e) ∙ ap (λ (k : ℕ). (parts.nodes k).sequence) (sym e), ap (λ (q : Streaming). q.tag) (at_it m e) ∙ ap (λ (k : ℕ). (parts.nodes k).tag) (sym e))
    | inr e ↦ (ap (λ (q : Streaming). q.sequence) (at_other m e), ap (λ (q : Streaming). q.tag) (at_other m e))
  ]

  sent_before : (d : ℕ) (o : Out) (r : DeviceRow) → Sends (outs_of nodes_next) (knows_of nodes_next d) (IsClaimed (last past.told.chain) past.told.greatest) o r → Sends (outs_of parts.nodes) (knows_of parts.nodes d) (IsClaimed (last past.told.chain) past.told.greatest) o r
  sent_before d o r sends = elim (same_or sends.node n) [
    | inl e ↦ absurd (let no : None ≡ Some o = sym (ap (λ (q : Streaming). out_by q.out) (at_it sends.node e)) ∙ sends.out in cc)
    | inr e ↦ record {
      node = sends.node;
      out = sym (ap (λ (q : Streaming). out_by q.out) (at_other sends.node e)) ∙ sends.out;
      knows_it = sym (ap (λ (q : Streaming). slice_get q.rows d) (at_other sends.node e)) ∙ sends.knows_it;
      lives = sends.lives;
    }
  ]

  sound : (d : ℕ) → d < parts.made.devices → IsDeviceSound (with_stream parts n c) x (store_crashed past (Node n)) keeps.history d
  sound d within = let was = keeps.devices d within in record {
    rows = was.rows;
    hands = was.hands;
    copies = was.copies;
    writes = writes_fewer d past.told.greatest (last_row past.told.chain d) (rows_before past.told.chain d) (side_of past.told x parts.members d) (keeps.history.writes d) (keeps.history.wrotes d) keeps.history.actual
        (outs_of parts.nodes) (outs_of nodes_next) (knows_of parts.nodes d) (knows_of nodes_next d) (IsClaimed (last past.told.chain) past.told.greatest) (sent_before d) was.writes;
    wrotes = was.wrotes;
    outs = record { each = λ o r sends. was.outs.each o r (sent_before d o r sends) };
    coming = was.coming;
    answering = was.answering;
    copying = was.copying;
    copied_to = was.copied_to;
    labels = was.labels;
    down = was.down;
    known = was.known;
  }

  pub node_stops : Keeps (with_stream parts n c) x (store_crashed past (Node n))
  node_stops = record {
    history = keeps.history;
    devices = sound;
    count = keeps.count;
    rising = keeps.rising;
    highest = keeps.highest;
    placed = keeps.placed;
    actual_sent = keeps.actual_sent;
    out_actual = λ m w is. elim (same_or m n) [
      | inl e ↦ absurd (let no : None ≡ Some w = sym (ap (λ (q : Streaming). out_by q.out) (at_it m e)) ∙ is in cc)
      | inr e ↦ (let old = keeps.out_actual m w (sym (ap (λ (q : Streaming). out_by q.out) (at_other m e)) ∙ is) in (old.0, ap (λ (q : Streaming). q.session) (at_other m e) ∙ old.1))
    ];
    out_number = λ m w is. elim (same_or m n) [
      | inl e ↦ absurd (let no : None ≡ Some w = sym (ap (λ (q : Streaming). out_by q.out) (at_it m e)) ∙ is in cc)
      | inr e ↦ (let le = keeps.out_number m w (sym (ap (λ (q : Streaming). out_by q.out) (at_other m e)) ∙ is) in let same = ap (λ (q : Streaming). q.sequence) (at_other m e) in omega (arith, le, same))
    ];
    actual_given = keeps.actual_given;
    holding = λ m s is. elim (same_or m n) [
      | inl e ↦ absurd (let no : None ≡ Some s = sym (ap (λ (q : Streaming). q.out) (at_it m e)) ∙ is in cc)
      | inr e ↦ ap (λ (q : Streaming). q.session) (at_other m e) ∙ keeps.holding m s (sym (ap (λ (q : Streaming). q.out) (at_other m e)) ∙ is)
    ];
    sendable = λ m s is. elim (same_or m n) [
      | inl e ↦ absurd (let no : None ≡ Some s = sym (ap (λ (q : Streaming). q.out) (at_it m e)) ∙ is in cc)
      | inr e ↦ keeps.sendable m s (sym (ap (λ (q : Streaming). q.out) (at_other m e)) ∙ is)
    ];
    askable = λ m a is. elim (same_or m n) [
      | inl e ↦ absurd (let no : None ≡ Some a = sym (ap (λ (q : Streaming). q.asks) (at_it m e)) ∙ is in cc)
      | inr e ↦ keeps.askable m a (sym (ap (λ (q : Streaming). q.asks) (at_other m e)) ∙ is)
    ];
    epochs = keeps.epochs;
    owing = keeps.owing;
    from_members = keeps.from_members;
    own_out = λ m w there is. let old = was_session m w.session is in ap (λ (q : Streaming). out_by q.out) (at_other m old.0) ∙ keeps.own_out m w there old.1;
    lasts = keeps.lasts;
    brings = keeps.brings;
    noted = λ m d epoch b s within is has. elim (same_or m n) [
      | inl e ↦ absurd (let no : None ≡ Some s = sym (ap (λ (q : Streaming). q.out) (at_it m e)) ∙ is in cc)
      | inr e ↦ keeps.noted m d epoch b s within (sym (ap (λ (q : Streaming). q.out) (at_other m e)) ∙ is) has
    ];
    asking = λ m a is. elim (same_or m n) [
      | inl e ↦ absurd (let no : None ≡ Some a = sym (ap (λ (q : Streaming). q.asks) (at_it m e)) ∙ is in cc)
      | inr e ↦ (let old = keeps.asking m a (sym (ap (λ (q : Streaming). q.asks) (at_other m e)) ∙ is) in (ap (λ (q : Streaming). q.session) (at_other m e) ∙ old.0, (let same = (numbers m).1 in let le = old.1 in omega (arith, same, le))))
    ];
    asked = λ m r a reading is session tag. elim (same_or m n) [
      | inl e ↦ absurd (let no : None ≡ Some a = sym (ap (λ (q : Streaming). q.asks) (at_it m e)) ∙ is in cc)
      | inr e ↦ keeps.asked m r a reading (sym (ap (λ (q : Streaming). q.asks) (at_other m e)) ∙ is) session tag
    ];
    node_known = λ m session is. let own = was_session m session is in let old = keeps.node_known m session own.1 in (old.0, old.1, old.2, ap (λ (q : Streaming). q.rows) (at_other m own.0) ∙ old.3, old.4);
    node_of = keeps.node_of;
    boot_of = keeps.boot_of;
    sessions = keeps.sessions;
    booted = keeps.booted;
    owned = λ m session is. keeps.owned m session (was_session m session is).1;
    single = keeps.single;
    found_most = keeps.found_most;
    in_order = keeps.in_order;
    left = λ w there. let was = keeps.left w there in elim (same_or (keeps.node_of w.session) n) [
      | inl e ↦ record { boot_most = was.boot_most; case = inr (inl (let it : (n == keeps.node_of w.session) ≡ true = grind (arith, nat_tests, e) in ap (λ (b : Bool). if b then true else past.told.down (Node (keeps.node_of w.session))) it)) }
      | inr e ↦ (let other : (n == keeps.node_of w.session) ≡ false = grind (arith, nat_tests, e) in
          let same_down = ap (λ (b : Bool). if b then true else past.told.down (Node (keeps.node_of w.session))) other in
          let same_session = ap (λ (q : Streaming). q.session) (at_other (keeps.node_of w.session) e) in record {
            boot_most = was.boot_most;
            case = elim was.case [
              | inl older ↦ inl older
              | inr rest ↦ inr (elim rest [
                | inl gone ↦ inl (same_down ∙ gone)
                | inr more ↦ inr (elim more [
                  | inl own ↦ inl (same_session ∙ own)
                  | inr behind ↦ inr behind
                ])
              ])
            ];
          })
    ];
    numbered = λ d l there. drawn_same _ _ _ _ _ _ _ (numbers (keeps.node_of l.session)).0 (keeps.numbered d l there);
    tagged = λ m d session epoch tag bytes data_. drawn_same _ _ _ _ _ _ _ (numbers m).1 (keeps.tagged m d session epoch tag bytes data_);
    read_tagged = λ m r read. drawn_same _ _ _ _ _ _ _ (numbers m).1 (keeps.read_tagged m r read);
    member_boots = keeps.member_boots;
    node_boots = λ m there up. elim (same_or n m) [
      | inl e ↦ absurd (let it : (n == m) ≡ true = grind (arith, nat_tests, e) in let no : true ≡ false = sym (ap (λ (b : Bool). if b then true else past.told.down (Node m)) it) ∙ up in cc)
      | inr e ↦ (let other : (n == m) ≡ false = grind (arith, nat_tests, e) in let was_up : past.told.down (Node m) ≡ false = sym (ap (λ (b : Bool). if b then true else past.told.down (Node m)) other) ∙ up in
          ap (λ (q : Streaming). q.boot) (at_other m (λ k. e (sym k))) ∙ keeps.node_boots m there was_up)
    ];
  }

  pub settles_stopped : (d sector : ℕ) (content : List ℕ) → IsSettledOn parts x past d sector content → IsSettledOn (with_stream parts n c) x (store_crashed past (Node n)) d sector content
  settles_stopped d sector content settled = record { device = settled.device; behind_label = settled.behind_label; within = settled.within; is = settled.is }

  pub stands_stopped : (d sector : ℕ) (content : List ℕ) (index : ℕ) → StandsOn parts x past d sector content index → StandsOn (with_stream parts n c) x (store_crashed past (Node n)) d sector content index
  stands_stopped d sector content index stands = record { settled = settles_stopped d sector content stands.settled; stands = stands.stands }

  pub reads_stopped : (m : ℕ) (a : Asking) (sector : ℕ) (content : List ℕ) → m ≢ n → WillReadOn parts x past m a sector content → WillReadOn (with_stream parts n c) x (store_crashed past (Node n)) m a sector content
  reads_stopped m a sector content other will = record {
    device = will.device;
    behind_label = will.behind_label;
    within = will.within;
    row = will.row;
    row_is = ap (λ (q : Streaming). slice_get q.rows a.device) (at_other m other) ∙ will.row_is;
    stands = will.stands;
    coming = will.coming;
    came = will.came;
  }
