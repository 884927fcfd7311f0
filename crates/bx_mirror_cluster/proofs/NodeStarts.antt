-- A node starts again in a later boot: nothing of it is out, and what it sent is of an earlier boot.
use Rattle.std.proofs.Common.{◌≡◌, ◌≢◌, ◌⊎◌, inl, inr, ℕ, ◌<◌, ◌≤◌, Bool, true, false, List, Some, None, max, refl, sym, ◌∙◌, ap, subst, arith}
use Rattle.std.specs.Prelude.{◌==◌, slice_get, if◌then◌else◌}
use Rattle.std.proofs.lemmas.Bool.Decides.{nat_tests}
use Rattle.bx_base.specs.declared.names.Actor.{Actor}
use Rattle.bx_base.specs.declared.names.Actor.TheVariants.{Node}
use Rattle.bx_disk.specs.Disks.{Disks}
use Rattle.bx_facts.proofs.Machines.{elsewhere, here}
use Rattle.bx_facts.specs.Chains.{last}
use Rattle.bx_facts.specs.Machines.{put_at}
use Rattle.bx_facts.specs.Writes.{StorePast, store_restarted}
use Rattle.bx_rows.specs.declared.device.DeviceRow.{DeviceRow}
use Rattle.bx_mirror_laws.specs.Sides.{Out}
use Rattle.bx_mirror_laws.specs.Sound.{Sends}
use Rattle.bx_mirror_client.specs.Streams.{Streaming, restarted}
use Rattle.bx_mirror_client.specs.declared.asking.Asking.{Asking}
use Rattle.bx_mirror_cluster.specs.Fitting.{IsClaimed, IsDeviceSound, IsDrawn, IsOwnOrLeft, IsSettledOn, Keeps, Parts, StandsOn, WillReadOn, knows_of, last_row, out_by, outs_of, rows_before, side_of}
use Rattle.bx_mirror_cluster.specs.Learning.{with_clock}
use Rattle.bx_mirror_cluster.specs.Starting.{starting}
use Rattle.bx_mirror_cluster.specs.Writing.{with_node, with_stream}
use Rattle.bx_mirror_cluster.proofs.Clock.{clock_keeps, reads_clock, settles_clock, stands_clock}
use Rattle.bx_mirror_cluster.proofs.Drawn.{drawn_later}
use Rattle.bx_mirror_cluster.proofs.NodeStops.{writes_fewer}

same_or : (n m : ℕ) → (n ≡ m) ⊎ (n ≢ m)
same_or n m = grind arith

other_node : (n m : ℕ) → m ≢ n → Node m ≢ Node n
other_node n m apart e = apart (let same : m ≡ n = cc in same)

module _ (parts : Parts) (x : Disks) (past : StorePast) (keeps : Keeps parts x past) (n boot : ℕ) (newer : past.told.boots (Node n) < boot) where
  abbrev c : Streaming
  c = restarted boot (parts.nodes n)

  abbrev nodes_next : ℕ → Streaming
  nodes_next = with_node parts.nodes n c

  abbrev boots_next : Actor → ℕ
  boots_next = put_at (Node n) boot past.told.boots

  abbrev knew_next : Actor → ℕ
  knew_next = put_at (Node n) 0 past.told.knew

  abbrev down_next : Actor → Bool
  down_next = put_at (Node n) false past.told.down

  at_it : (m : ℕ) → m ≡ n → nodes_next m ≡ c
  at_it m e = let same : (m == n) ≡ true = grind (arith, nat_tests, e) in ap (λ (b : Bool). if b then c else parts.nodes m) same

  at_other : (m : ℕ) → m ≢ n → nodes_next m ≡ parts.nodes m
  at_other m e = let other : (m == n) ≡ false = grind (arith, nat_tests, e) in ap (λ (b : Bool). if b then c else parts.nodes m) other

  boots_it : (m : ℕ) → m ≡ n → boots_next (Node m) ≡ boot
  boots_it m e = ap (λ (k : ℕ). boots_next (Node k)) e ∙ here (Node n) boot past.told.boots

  boots_other : (m : ℕ) → m ≢ n → boots_next (Node m) ≡ past.told.boots (Node m)
  boots_other m e = elsewhere (Node n) (Node m) boot past.told.boots (other_node n m e)

  knew_other : (m : ℕ) → m ≢ n → knew_next (Node m) ≡ past.told.knew (Node m)
  knew_other m e = elsewhere (Node n) (Node m) 0 past.told.knew (other_node n m e)

  down_other : (m : ℕ) → m ≢ n → down_next (Node m) ≡ past.told.down (Node m)
  down_other m e = elsewhere (Node n) (Node m) false past.told.down (other_node n m e)

  -- a session that is still there was there
  was_session : (m session : ℕ) → (nodes_next m).session ≡ Some session → (m ≢ n) × ((parts.nodes m).session ≡ Some session)
  was_session m session is = elim (same_or m n) [
    | inl e ↦ absurd (let no : None ≡ Some session = sym (ap (λ (q : Streaming). q.session) (at_it m e)) ∙ is in cc)
    | inr e ↦ (e, sym (ap (λ (q : Streaming). q.session) (at_other m e)) ∙ is)
  ]

  no_out : (m : ℕ) (w : Out) → m ≡ n → outs_of nodes_next m ≡ Some w → ⊥
  no_out m w e is = let no : None ≡ Some w = sym (ap (λ (q : Streaming). out_by q.out) (at_it m e)) ∙ is in cc

  no_asks : (m : ℕ) (a : Asking) → m ≡ n → (nodes_next m).asks ≡ Some a → ⊥
  no_asks m a e is = let no : None ≡ Some a = sym (ap (λ (q : Streaming). q.asks) (at_it m e)) ∙ is in cc

  sent_before : (d : ℕ) (o : Out) (r : DeviceRow) → Sends (outs_of nodes_next) (knows_of nodes_next d) (IsClaimed (last past.told.chain) past.told.greatest) o r → Sends (outs_of parts.nodes) (knows_of parts.nodes d) (IsClaimed (last past.told.chain) past.told.greatest) o r
  sent_before d o r sends = elim (same_or sends.node n) [
    | inl e ↦ absurd (no_out sends.node o e sends.out)
    | inr e ↦ record {
      node = sends.node;
      out = sym (ap (λ (q : Streaming). out_by q.out) (at_other sends.node e)) ∙ sends.out;
      knows_it = sym (ap (λ (q : Streaming). slice_get q.rows d) (at_other sends.node e)) ∙ sends.knows_it;
      lives = sends.lives;
    }
  ]

  sound : (d : ℕ) → d < parts.made.devices → IsDeviceSound (with_stream parts n c) x (starting past n boot) keeps.history d
  sound d within = let was = keeps.devices d within in record {
    rows = was.rows;
    hands = was.hands;
    copies = was.copies;
    writes = writes_fewer d past.told.greatest (last_row past.told.chain d) (rows_before past.told.chain d) (side_of past.told x parts.members d) (keeps.history.writes d) (keeps.history.wrotes d) keeps.history.actual
        (outs_of parts.nodes) (outs_of nodes_next) (knows_of parts.nodes d) (knows_of nodes_next d) (IsClaimed (last past.told.chain) past.told.greatest) (sent_before d) was.writes;
    wrotes = was.wrotes;
    outs = record { each = λ o r sends. was.outs.each o r (sent_before d o r sends) };
    coming = was.coming;
    answering = was.answering;
    copying = was.copying;
    copied_to = was.copied_to;
    labels = was.labels;
    down = was.down;
    known = was.known;
  }

  -- what a node drew in an earlier boot was drawn
  drawn : (f : Streaming → ℕ) → f c ≡ 0 → (own session number m : ℕ) → IsDrawn (last past.told.chain).next_session own (past.told.boots (Node m)) session number (f (parts.nodes m))
      → IsDrawn (last past.told.chain).next_session own (boots_next (Node m)) session number (f (nodes_next m))
  drawn f none own session number m is = elim (same_or m n) [
    | inl e ↦ subst (λ (b : ℕ). IsDrawn (last past.told.chain).next_session own b session number (f (nodes_next m))) (sym (boots_it m e))
        (subst (λ (k : ℕ). IsDrawn (last past.told.chain).next_session own boot session number k) (sym (ap f (at_it m e) ∙ none))
        (drawn_later _ _ _ _ _ _ _ (let same = ap (λ (k : ℕ). past.told.boots (Node k)) e in omega (arith, newer, same)) is))
    | inr e ↦ subst (λ (b : ℕ). IsDrawn (last past.told.chain).next_session own b session number (f (nodes_next m))) (sym (boots_other m e))
        (subst (λ (q : Streaming). IsDrawn (last past.told.chain).next_session own (past.told.boots (Node m)) session number (f q)) (sym (at_other m e)) is)
  ]

  left_then : (node own session : ℕ) → IsOwnOrLeft parts.nodes past.told.chain past.told.knew past.told.boots past.told.down node own session → IsOwnOrLeft nodes_next past.told.chain knew_next boots_next down_next node own session
  left_then node own session was = elim (same_or node n) [
    | inl e ↦ (let most = was.boot_most in let now = boots_it node e in let before = ap (λ (k : ℕ). past.told.boots (Node k)) e in
        record { boot_most = omega (arith, most, now, before, newer); case = inl (omega (arith, most, now, before, newer)) })
    | inr e ↦ (let most = was.boot_most in let same = boots_other node e in record {
      boot_most = omega (arith, most, same);
      case = elim was.case [
        | inl older ↦ inl (omega (arith, older, same))
        | inr rest ↦ inr (elim rest [
          | inl gone ↦ inl (down_other node e ∙ gone)
          | inr more ↦ inr (elim more [
            | inl own_it ↦ inl (ap (λ (q : Streaming). q.session) (at_other node e) ∙ own_it)
            | inr behind ↦ inr (let index = behind.index in let knew = knew_other node e in
                record { state = behind.state; place = behind.place; index = omega (arith, index, knew); given = behind.given; other = behind.other })
          ])
        ])
      ];
    })
  ]

  pub node_starts : Keeps (with_stream parts n c) x (starting past n boot)
  node_starts = record {
    history = keeps.history;
    devices = sound;
    count = keeps.count;
    rising = keeps.rising;
    highest = keeps.highest;
    placed = keeps.placed;
    actual_sent = keeps.actual_sent;
    out_actual = λ m w is. elim (same_or m n) [
      | inl e ↦ absurd (no_out m w e is)
      | inr e ↦ (let old = keeps.out_actual m w (sym (ap (λ (q : Streaming). out_by q.out) (at_other m e)) ∙ is) in (old.0, ap (λ (q : Streaming). q.session) (at_other m e) ∙ old.1))
    ];
    out_number = λ m w is. elim (same_or m n) [
      | inl e ↦ absurd (no_out m w e is)
      | inr e ↦ (let le = keeps.out_number m w (sym (ap (λ (q : Streaming). out_by q.out) (at_other m e)) ∙ is) in let same = ap (λ (q : Streaming). q.sequence) (at_other m e) in omega (arith, le, same))
    ];
    actual_given = keeps.actual_given;
    holding = λ m s is. elim (same_or m n) [
      | inl e ↦ absurd (let no : None ≡ Some s = sym (ap (λ (q : Streaming). q.out) (at_it m e)) ∙ is in cc)
      | inr e ↦ ap (λ (q : Streaming). q.session) (at_other m e) ∙ keeps.holding m s (sym (ap (λ (q : Streaming). q.out) (at_other m e)) ∙ is)
    ];
    sendable = λ m s is. elim (same_or m n) [
      | inl e ↦ absurd (let no : None ≡ Some s = sym (ap (λ (q : Streaming). q.out) (at_it m e)) ∙ is in cc)
      | inr e ↦ keeps.sendable m s (sym (ap (λ (q : Streaming). q.out) (at_other m e)) ∙ is)
    ];
    askable = λ m a is. elim (same_or m n) [
      | inl e ↦ absurd (no_asks m a e is)
      | inr e ↦ keeps.askable m a (sym (ap (λ (q : Streaming). q.asks) (at_other m e)) ∙ is)
    ];
    epochs = keeps.epochs;
    owing = keeps.owing;
    from_members = keeps.from_members;
    own_out = λ m w there is. let old = was_session m w.session is in ap (λ (q : Streaming). out_by q.out) (at_other m old.0) ∙ keeps.own_out m w there old.1;
    lasts = keeps.lasts;
    brings = keeps.brings;
    noted = λ m d epoch b s within is has. elim (same_or m n) [
      | inl e ↦ absurd (let no : None ≡ Some s = sym (ap (λ (q : Streaming). q.out) (at_it m e)) ∙ is in cc)
      | inr e ↦ keeps.noted m d epoch b s within (sym (ap (λ (q : Streaming). q.out) (at_other m e)) ∙ is) has
    ];
    asking = λ m a is. elim (same_or m n) [
      | inl e ↦ absurd (no_asks m a e is)
      | inr e ↦ (let old = keeps.asking m a (sym (ap (λ (q : Streaming). q.asks) (at_other m e)) ∙ is) in
          (ap (λ (q : Streaming). q.session) (at_other m e) ∙ old.0, (let same = ap (λ (q : Streaming). q.tag) (at_other m e) in let le = old.1 in omega (arith, same, le))))
    ];
    asked = λ m r a reading is session tag. elim (same_or m n) [
      | inl e ↦ absurd (no_asks m a e is)
      | inr e ↦ keeps.asked m r a reading (sym (ap (λ (q : Streaming). q.asks) (at_other m e)) ∙ is) session tag
    ];
    node_known = λ m session is. let own = was_session m session is in let old = keeps.node_known m session own.1 in
        (old.0, old.1, old.2 ∙ sym (knew_other m own.0), ap (λ (q : Streaming). q.rows) (at_other m own.0) ∙ old.3, old.4);
    node_of = keeps.node_of;
    boot_of = keeps.boot_of;
    sessions = keeps.sessions;
    booted = keeps.booted;
    owned = λ m session is. let own = was_session m session is in let old = keeps.owned m session own.1 in (old.0, old.1 ∙ sym (boots_other m own.0), old.2);
    single = keeps.single;
    found_most = keeps.found_most;
    in_order = keeps.in_order;
    left = λ w there. left_then (keeps.node_of w.session) (keeps.boot_of w.session) w.session (keeps.left w there);
    numbered = λ d l there. drawn (λ q. q.sequence) refl (keeps.boot_of l.session) l.session l.sequence (keeps.node_of l.session) (keeps.numbered d l there);
    tagged = λ m d session epoch tag bytes data_. drawn (λ q. q.tag) refl (keeps.boot_of session) session tag m (keeps.tagged m d session epoch tag bytes data_);
    read_tagged = λ m r read. drawn (λ q. q.tag) refl (keeps.boot_of r.session) r.session r.tag m (keeps.read_tagged m r read);
    member_boots = keeps.member_boots;
    node_boots = λ m there up. elim (same_or m n) [
      | inl e ↦ ap (λ (q : Streaming). q.boot) (at_it m e) ∙ sym (boots_it m e)
      | inr e ↦ ap (λ (q : Streaming). q.boot) (at_other m e) ∙ keeps.node_boots m there (sym (down_other m e) ∙ up) ∙ sym (boots_other m e)
    ];
  }

  pub settles_started : (d sector : ℕ) (content : List ℕ) → IsSettledOn parts x past d sector content → IsSettledOn (with_stream parts n c) x (starting past n boot) d sector content
  settles_started d sector content settled = record { device = settled.device; behind_label = settled.behind_label; within = settled.within; is = settled.is }

  pub stands_started : (d sector : ℕ) (content : List ℕ) (index : ℕ) → StandsOn parts x past d sector content index → StandsOn (with_stream parts n c) x (starting past n boot) d sector content index
  stands_started d sector content index stands = record { settled = settles_started d sector content stands.settled; stands = stands.stands }

  pub reads_started : (m : ℕ) (a : Asking) (sector : ℕ) (content : List ℕ) → m ≢ n → WillReadOn parts x past m a sector content → WillReadOn (with_stream parts n c) x (starting past n boot) m a sector content
  reads_started m a sector content other will = record {
    device = will.device;
    behind_label = will.behind_label;
    within = will.within;
    row = will.row;
    row_is = ap (λ (q : Streaming). slice_get q.rows a.device) (at_other m other) ∙ will.row_is;
    stands = will.stands;
    coming = will.coming;
    came = will.came;
  }

-- ---- with the reading that it has

module _ (parts : Parts) (x : Disks) (past : StorePast) (keeps : Keeps parts x past) (n boot reading : ℕ) (newer : past.told.boots (Node n) < boot) where
  abbrev risen : StorePast
  risen = with_clock past (max past.told.greatest reading)

  rises : past.told.greatest ≤ max past.told.greatest reading
  rises = omega arith

  keeps_risen : Keeps parts x risen
  keeps_risen = clock_keeps parts x past (max past.told.greatest reading) rises keeps

  pub node_restarts : Keeps (with_stream parts n (restarted boot (parts.nodes n))) x (store_restarted past (Node n) boot reading)
  node_restarts = node_starts parts x risen keeps_risen n boot newer

  pub settles_restarted : (d sector : ℕ) (content : List ℕ) → IsSettledOn parts x past d sector content → IsSettledOn (with_stream parts n (restarted boot (parts.nodes n))) x (store_restarted past (Node n) boot reading) d sector content
  settles_restarted d sector content settled = settles_started parts x risen keeps_risen n boot newer d sector content (settles_clock parts x past (max past.told.greatest reading) rises d sector content settled)

  pub stands_restarted : (d sector : ℕ) (content : List ℕ) (index : ℕ) → StandsOn parts x past d sector content index → StandsOn (with_stream parts n (restarted boot (parts.nodes n))) x (store_restarted past (Node n) boot reading) d sector content index
  stands_restarted d sector content index stands = stands_started parts x risen keeps_risen n boot newer d sector content index (stands_clock parts x past (max past.told.greatest reading) rises d sector content index stands)

  pub reads_restarted : (m : ℕ) (a : Asking) (sector : ℕ) (content : List ℕ) → m ≢ n → WillReadOn parts x past m a sector content
      → WillReadOn (with_stream parts n (restarted boot (parts.nodes n))) x (store_restarted past (Node n) boot reading) m a sector content
  reads_restarted m a sector content other will = reads_started parts x risen keeps_risen n boot newer m a sector content other (reads_clock parts x past (max past.told.greatest reading) rises m a sector content will)
