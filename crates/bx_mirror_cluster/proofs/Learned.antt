-- A node learns a state: members and streams fit the past then.
use Rattle.std.proofs.Common.{◌≡◌, ◌≢◌, ◌⊎◌, inl, inr, ⊎_elim, ℕ, ◌-◌, ◌<◌, ◌≤◌, Bool, true, false, List, Option, Some, None, refl, sym, ◌∙◌, ap, subst, arith}
use Rattle.std.specs.Prelude.{◌==◌, slice_get, if◌then◌else◌}
use Rattle.std.proofs.lemmas.Bool.Decides.{nat_tests}
use Rattle.std.proofs.lemmas.Option.{slice_get_cases}
use Rattle.bx_base.specs.declared.names.Actor.TheVariants.{Node}
use Rattle.bx_disk.specs.Disks.{Disks, sector_of}
use Rattle.bx_facts.proofs.Machines.{elsewhere, here}
use Rattle.bx_facts.specs.Chains.{HasOwnBoot, IsPlace, last, session_of}
use Rattle.bx_facts.specs.Machines.{put_at}
use Rattle.bx_facts.specs.Writes.{StorePast, store_room}
use Rattle.bx_global.specs.declared.state.GlobalState.{GlobalState}
use Rattle.bx_locking.proofs.Owned.{rows_go, session_row, was_own}
use Rattle.bx_rows.specs.declared.device.DeviceRow.{DeviceRow}
use Rattle.bx_mirror_laws.specs.Sides.{Handing, Out, Side}
use Rattle.bx_mirror_laws.specs.Acting.{FromEpoch, IsRow}
use Rattle.bx_mirror_laws.specs.Sound.{AreOuts, AreWrites, IsOut, Sends}
use Rattle.bx_mirror_laws.proofs.Nodes.{none_taken, out_learns}
use Rattle.bx_mirror_laws.proofs.Sending.{writes_send}
use Rattle.bx_mirror_laws.proofs.Small.{stands_fewer}
use Rattle.bx_mirror_client.specs.Streams.{Streaming}
use Rattle.bx_mirror_client.specs.declared.asking.Asking.{Asking}
use Rattle.bx_mirror_cluster.proofs.Drawn.{drawn_same, same_read}
use Rattle.bx_mirror_cluster.specs.Fitting.{History, IsBehind, IsClaimed, IsDeviceSound, IsOwnOrLeft, IsSettledOn, Keeps, Parts, StandsFor, StandsOn, WillReadOn, handings, knows_of, last_row, out_by, outs_of, row_of, row_or, rows_before, side_of}
use Rattle.bx_mirror_cluster.specs.Learning.{Learned, MayLearn, knowing}
use Rattle.bx_mirror_cluster.specs.Writing.{with_node, with_stream}
use Rattle.bx_mirror_cluster.proofs.NodeStops.{writes_fewer}
use Rattle.bx_mirror_cluster.proofs.Sessions.{each_row, first_among, lives_given, new_boot, own_lives, same_or_not}

same_or : (n m : ℕ) → (n ≡ m) ⊎ (n ≢ m)
same_or n m = grind arith

less_or_same : (n m : ℕ) → n ≤ m → (n ≡ m) ⊎ (n < m)
less_or_same n m le = grind (arith, le)

other_node : (m n : ℕ) → m ≢ n → Node m ≢ Node n
other_node m n apart same = apart (let e : m ≡ n = cc in e)

module _ (parts : Parts) (x : Disks) (past : StorePast) (keeps : Keeps parts x past) (n : ℕ) (known : GlobalState) (may : MayLearn parts past n known) (new : Streaming) (so : Learned (parts.nodes n) known new) where
  abbrev c : Streaming
  c = parts.nodes n

  abbrev nodes_next : ℕ → Streaming
  nodes_next = with_node parts.nodes n new

  abbrev h : History
  h = keeps.history

  abbrev live : Out → Type 0
  live = IsClaimed (last past.told.chain) past.told.greatest

  at_it : (m : ℕ) → m ≡ n → nodes_next m ≡ new
  at_it m e = let same : (m == n) ≡ true = grind (arith, nat_tests, e) in ap (λ (b : Bool). if b then new else parts.nodes m) same

  at_other : (m : ℕ) → m ≢ n → nodes_next m ≡ parts.nodes m
  at_other m e = let other : (m == n) ≡ false = grind (arith, nat_tests, e) in ap (λ (b : Bool). if b then new else parts.nodes m) other

  kept : {A : Type 0} → (f : Streaming → A) → f new ≡ f c → (m : ℕ) → f (nodes_next m) ≡ f (parts.nodes m)
  kept f same m = elim (same_or m n) [
    | inl e ↦ ap f (at_it m e) ∙ same ∙ ap (λ (k : ℕ). f (parts.nodes k)) (sym e)
    | inr e ↦ ap f (at_other m e)
  ]

  -- its session there
  boot_is : c.boot ≡ past.told.boots (Node n)
  boot_is = keeps.node_boots n may.inside may.up

  own_is : new.session ≡ session_of known n (past.told.boots (Node n))
  own_is = so.session ∙ ap (λ (k : ℕ). session_of known k c.boot) may.itself ∙ ap (λ (b : ℕ). session_of known n b) boot_is

  record IsOwned (session : ℕ) : Type 0 where
    node : keeps.node_of session ≡ n
    boot : keeps.boot_of session ≡ past.told.boots (Node n)
    given : session < (last past.told.chain).next_session

  is_owned : (session : ℕ) → new.session ≡ Some session → IsOwned session
  is_owned session is =
      let r = session_row known n (past.told.boots (Node n)) session (sym own_is ∙ is) in
      let of = each_row _ known.sessions r.row (keeps.sessions.each known may.place) r.is in
      let booted = each_row (λ row. row.boot ≡ keeps.boot_of row.number) known.sessions r.row (keeps.booted known may.place) r.is in
      let number = r.number in let given = of.given in
      record {
        node = ap keeps.node_of (sym number) ∙ sym of.node ∙ r.live.node_is;
        boot = ap keeps.boot_of (sym number) ∙ sym booted ∙ r.live.boot_is;
        given = omega (arith, given, number);
      }

  -- ---- a device

  module _ (d : ℕ) (within : d < parts.made.devices) where
    abbrev was : IsDeviceSound parts x past h d
    was = keeps.devices d within

    abbrev room : ℕ
    room = store_room parts.made

    abbrev last_ : DeviceRow
    last_ = last_row past.told.chain d

    abbrev older_ : List DeviceRow
    older_ = rows_before past.told.chain d

    abbrev handed : List Handing
    handed = handings d past.told.handed

    abbrev sides : Bool → Side
    sides = side_of past.told x parts.members d

    record IsFit : Type 0 where
      writes : AreWrites d past.told.greatest last_ older_ sides (h.writes d) (h.wrotes d) h.actual (outs_of nodes_next) (knows_of nodes_next d) live
      outs : AreOuts d room past.told.greatest last_ older_ handed sides (h.writes d) (h.wrotes d) h.actual (outs_of nodes_next) (knows_of nodes_next d) live

    -- where all that is said of writes was said before
    fewer : ((o : Out) (r : DeviceRow) → Sends (outs_of nodes_next) (knows_of nodes_next d) live o r → Sends (outs_of parts.nodes) (knows_of parts.nodes d) live o r) → IsFit
    fewer before = record {
      writes = writes_fewer d past.told.greatest last_ older_ sides (h.writes d) (h.wrotes d) h.actual (outs_of parts.nodes) (outs_of nodes_next) (knows_of parts.nodes d) (knows_of nodes_next d) live before was.writes;
      outs = record { each = λ o r sends. was.outs.each o r (before o r sends) };
    }

    elsewhere_sends : (o : Out) (r : DeviceRow) → (sends : Sends (outs_of nodes_next) (knows_of nodes_next d) live o r) → sends.node ≢ n → Sends (outs_of parts.nodes) (knows_of parts.nodes d) live o r
    elsewhere_sends o r sends e = record {
      node = sends.node;
      out = sym (ap (λ (q : Streaming). out_by q.out) (at_other sends.node e)) ∙ sends.out;
      knows_it = sym (ap (λ (q : Streaming). slice_get q.rows d) (at_other sends.node e)) ∙ sends.knows_it;
      lives = sends.lives;
    }

    -- where it has no write out
    without : out_by new.out ≡ None → IsFit
    without none = fewer (λ o r sends. elim (same_or sends.node n) [
      | inl e ↦ absurd (let no : None ≡ Some o = sym none ∙ sym (ap (λ (q : Streaming). out_by q.out) (at_it sends.node e)) ∙ sends.out in cc)
      | inr e ↦ elsewhere_sends o r sends e
    ])

    -- where it has its write out, and knew this row
    module _ (o : Out) (out : outs_of parts.nodes n ≡ Some o) (out_new : out_by new.out ≡ Some o) (k r : DeviceRow) (knew : slice_get c.rows d ≡ Some k) (knows : slice_get new.rows d ≡ Some r) where
      its : (other : Out) (q : DeviceRow) → (sends : Sends (outs_of nodes_next) (knows_of nodes_next d) live other q) → sends.node ≡ n → (other ≡ o) × (q ≡ r)
      its other q sends e =
          let both : Some other ≡ Some o = sym sends.out ∙ ap (λ (p : Streaming). out_by p.out) (at_it sends.node e) ∙ out_new in
          let rows : Some q ≡ Some r = sym sends.knows_it ∙ ap (λ (p : Streaming). slice_get p.rows d) (at_it sends.node e) ∙ knows in
          (let f : other ≡ o = cc in f, let g : q ≡ r = cc in g)

      sent_old : (other : Out) → other ≡ o → live other → Sends (outs_of parts.nodes) (knows_of parts.nodes d) live o k
      sent_old other same lives = record { node = n; out = out; knows_it = knew; lives = subst live same lives }

      same_row : k ≡ r → IsFit
      same_row same = fewer (λ other q sends. elim (same_or sends.node n) [
        | inl e ↦ (let it = its other q sends e in subst (λ (w : Out). Sends (outs_of parts.nodes) (knows_of parts.nodes d) live w q) (sym it.0)
            (subst (λ (p : DeviceRow). Sends (outs_of parts.nodes) (knows_of parts.nodes d) live o p) (same ∙ sym it.1) (sent_old other it.0 sends.lives)))
        | inr e ↦ elsewhere_sends other q sends e
      ])

      later_row : IsRow last_ older_ r → k.epoch < r.epoch → IsFit
      later_row row less = record {
        writes = writes_send d room past.told.greatest last_ older_ handed sides (h.source d) was.rows was.hands (h.writes d) (h.wrotes d) h.actual h.actual (outs_of parts.nodes) (outs_of nodes_next) (knows_of parts.nodes d) (knows_of nodes_next d) live o
            (λ b q sends has. elim (same_or sends.node n) [
              | inl e ↦ (let it = its o q sends e in
                  let old = was.outs.each o k (sent_old o refl sends.lives) in
                  none_taken last_ older_ sides (h.writes d) (h.wrotes d) o q was.wrotes (λ l there session sequence. (let le = old.sent l there session sequence in let same = ap (λ (p : DeviceRow). p.epoch) it.1 in omega (arith, le, less, same))) b has)
              | inr e ↦ e (only sends.node (sym (ap (λ (p : Streaming). out_by p.out) (at_other sends.node e)) ∙ sends.out))
            ])
            (λ other q sends. elim (same_or sends.node n) [
              | inl e ↦ inr (its other q sends e).0
              | inr e ↦ inl (elsewhere_sends other q sends e)
            ])
            (λ w there. there) was.writes;
        outs = record {
          each = λ other q sends. elim (same_or sends.node n) [
            | inl e ↦ (let it = its other q sends e in
                let old = was.outs.each o k (sent_old other it.0 sends.lives) in
                let now = out_learns d room past.told.greatest last_ older_ handed sides (h.source d) was.rows was.hands (h.writes d) (h.wrotes d) h.actual was.wrotes o k r old row less in
                subst (λ (w : Out). IsOut d room past.told.greatest last_ older_ handed sides (h.writes d) (h.wrotes d) h.actual w q) (sym it.0)
                (subst (λ (p : DeviceRow). IsOut d room past.told.greatest last_ older_ handed sides (h.writes d) (h.wrotes d) h.actual o p) (sym it.1) now))
            | inr e ↦ was.outs.each other q (elsewhere_sends other q sends e)
          ];
        };
      }
        where
          only : (m : ℕ) → outs_of parts.nodes m ≡ Some o → m ≡ n
          only m is = sym (keeps.owned m o.session (keeps.out_actual m o is).1).0 ∙ (keeps.owned n o.session (keeps.out_actual n o out).1).0

    -- where it goes on with its write, and knew this state
    module _ (o : Out) (out : outs_of parts.nodes n ≡ Some o) (out_new : out_by new.out ≡ Some o) (s : GlobalState) (place : IsPlace past.told.chain s) (index : s.index ≡ past.told.knew (Node n)) (rows_are : c.rows ≡ s.devices) where
      at_rows : (k r : DeviceRow) → slice_get s.devices d ≡ Some k → slice_get known.devices d ≡ Some r → IsFit
      at_rows k r old now =
          let le = keeps.rising s known place may.place (let rises = may.rises in omega (arith, index, rises)) d in
          let k_is : row_of s d ≡ k = ap row_or old in
          let r_is : row_of known d ≡ r = ap row_or now in
          let k_row : IsRow last_ older_ k = subst (IsRow last_ older_) k_is (keeps.placed s place d) in
          let r_row : IsRow last_ older_ r = subst (IsRow last_ older_) r_is (keeps.placed known may.place d) in
          let knew : slice_get c.rows d ≡ Some k = ap (λ (rs : List DeviceRow). slice_get rs d) rows_are ∙ old in
          let knows : slice_get new.rows d ≡ Some r = ap (λ (rs : List DeviceRow). slice_get rs d) so.rows ∙ now in
          let more : k.epoch ≤ r.epoch = (let e = ap (λ (q : DeviceRow). q.epoch) k_is in let f = ap (λ (q : DeviceRow). q.epoch) r_is in omega (arith, le, e, f)) in
          ⊎_elim
          (λ (e : k.epoch ≡ r.epoch). same_row o out out_new k r knew knows (was.rows.same k r k_row r_row e))
          (λ (less : k.epoch < r.epoch). later_row o out out_new k r knew knows r_row less)
          (less_or_same k.epoch r.epoch more)

      goes_on : IsFit
      goes_on = elim (slice_get_cases s.devices d).1 [
        | inl k ↦ elim (slice_get_cases known.devices d).1 [
          | inl r ↦ at_rows k.0 r.0 k.2 r.2
          | inr far ↦ absurd (let count = keeps.count known may.place in let past_it = far.0 in omega (arith, past_it, count, within))
        ]
        | inr far ↦ absurd (let count = keeps.count s place in let past_it = far.0 in omega (arith, past_it, count, within))
      ]

    going : (o : Out) → outs_of parts.nodes n ≡ Some o → out_by new.out ≡ Some o → IsFit
    going o out out_new = let s = keeps.node_known n o.session (keeps.out_actual n o out).1 in goes_on o out out_new s.0 s.1 s.2 s.3

    fit : IsFit
    fit = elim so.out [
      | inl same ↦ by (out_by c.out) refl same.1
      | inr other ↦ without other.1
    ]
      where
        by : (o : Option Out) → out_by c.out ≡ o → out_by new.out ≡ out_by c.out → IsFit
        by None e same = without (same ∙ e)
        by (Some o) e same = going o e (same ∙ e)

    sound : IsDeviceSound (with_stream parts n new) x (knowing past n known.index) h d
    sound = record {
      rows = was.rows;
      hands = was.hands;
      copies = was.copies;
      writes = fit.writes;
      wrotes = was.wrotes;
      outs = fit.outs;
      coming = was.coming;
      answering = was.answering;
      copying = was.copying;
      copied_to = was.copied_to;
      labels = was.labels;
      down = was.down;
      known = was.known;
    }

  -- ---- all of it

  knew_next : (m : ℕ) → m ≢ n → put_at (Node n) known.index past.told.knew (Node m) ≡ past.told.knew (Node m)
  knew_next m apart = elsewhere (Node n) (Node m) known.index past.told.knew (other_node m n apart)

  -- a session that it had, and hasn't any more
  left_behind : (session : ℕ) → c.session ≡ Some session → new.session ≢ Some session → keeps.node_of session ≡ n → keeps.boot_of session ≡ past.told.boots (Node n)
      → IsBehind past.told.chain (put_at (Node n) known.index past.told.knew (Node (keeps.node_of session))) (keeps.node_of session) (keeps.boot_of session) session
  left_behind session own other node boot = let s = keeps.node_known n session own in record {
    state = known;
    place = may.place;
    index = (let e = ap (λ (k : ℕ). put_at (Node n) known.index past.told.knew (Node k)) node ∙ here (Node n) known.index past.told.knew in omega (arith, e));
    given = (let given = lives_given s.0 session (keeps.in_order s.0 s.1) s.4 in
        let i = s.2 in let rises = may.rises in
        let more = (rows_go past.told.chain.first past.told.chain.changes s.0 known s.1 may.place (omega (arith, i, rises))).next in omega (arith, given, more));
    other = λ is. other (own_is ∙ ap (λ (b : ℕ). session_of known n b) (sym boot) ∙ ap (λ (k : ℕ). session_of known k (keeps.boot_of session)) (sym node) ∙ is);
  }

  -- a session that was left isn't its own
  not_again : (session : ℕ) → new.session ≡ Some session → IsBehind past.told.chain (past.told.knew (Node (keeps.node_of session))) (keeps.node_of session) (keeps.boot_of session) session → ⊥
  not_again session is behind =
      let of = is_owned session is in
      let own : session_of known (keeps.node_of session) (keeps.boot_of session) ≡ Some session =
      ap (λ (b : ℕ). session_of known (keeps.node_of session) b) of.boot ∙ ap (λ (k : ℕ). session_of known k (past.told.boots (Node n))) of.node ∙ sym own_is ∙ is in
      let index = behind.index in let e = ap (λ (k : ℕ). past.told.knew (Node k)) of.node in let rises = may.rises in
      behind.other (was_own past.told.chain behind.state known (keeps.node_of session) (keeps.boot_of session) session behind.place may.place (omega (arith, index, e, rises)) (keeps.single behind.state behind.place)
      (new_boot past.told.chain (keeps.boot_of session) behind.state keeps.found_most (keeps.in_order past.told.chain.first (first_among past.told.chain.first past.told.chain.changes))
      (subst (λ (b : ℕ). HasOwnBoot past.told.chain b) (sym of.boot) may.own_boot) behind.place) behind.given own)

  same_own : (session : ℕ) → new.session ≡ Some session → IsOwnOrLeft parts.nodes past.told.chain past.told.knew past.told.boots past.told.down (keeps.node_of session) (keeps.boot_of session) session → c.session ≡ Some session
  same_own session is own_or = let of = is_owned session is in let at = ap (λ (k : ℕ). past.told.boots (Node k)) of.node in elim own_or.case [
    | inl older ↦ absurd (let boot = of.boot in omega (arith, older, at, boot))
    | inr rest ↦ elim rest [
      | inl down ↦ absurd (let no : true ≡ false = sym down ∙ ap (λ (k : ℕ). past.told.down (Node k)) of.node ∙ may.up in cc)
      | inr more ↦ elim more [
        | inl own ↦ sym (ap (λ (k : ℕ). (parts.nodes k).session) of.node) ∙ own
        | inr behind ↦ absurd (not_again session is behind)
      ]
    ]
  ]

  left_then : (session : ℕ) → IsOwnOrLeft parts.nodes past.told.chain past.told.knew past.told.boots past.told.down (keeps.node_of session) (keeps.boot_of session) session
      → IsOwnOrLeft nodes_next past.told.chain (put_at (Node n) known.index past.told.knew) past.told.boots past.told.down (keeps.node_of session) (keeps.boot_of session) session
  left_then session was = record {
    boot_most = was.boot_most;
    case = elim was.case [
      | inl older ↦ inl older
      | inr rest ↦ inr (elim rest [
        | inl down ↦ inl down
        | inr more ↦ inr (elim more [
          | inl own ↦ elim (same_or (keeps.node_of session) n) [
            | inl e ↦ (let own_n : c.session ≡ Some session = sym (ap (λ (k : ℕ). (parts.nodes k).session) e) ∙ own in
                let of = keeps.owned n session own_n in
                elim (same_or_not new.session (Some session)) [
                  | inl still ↦ inl (ap (λ (q : Streaming). q.session) (at_it (keeps.node_of session) e) ∙ still)
                  | inr other ↦ inr (left_behind session own_n other of.0 of.1)
                ])
            | inr e ↦ inl (ap (λ (q : Streaming). q.session) (at_other (keeps.node_of session) e) ∙ own)
          ]
          | inr behind ↦ inr (elim (same_or (keeps.node_of session) n) [
            | inl e ↦ (let now = ap (λ (k : ℕ). put_at (Node n) known.index past.told.knew (Node k)) e ∙ here (Node n) known.index past.told.knew in
                let before = ap (λ (k : ℕ). past.told.knew (Node k)) e in let index = behind.index in let rises = may.rises in
                record { state = behind.state; place = behind.place; index = omega (arith, now, before, index, rises); given = behind.given; other = behind.other })
            | inr e ↦ (let same = knew_next (keeps.node_of session) e in let index = behind.index in
                record { state = behind.state; place = behind.place; index = omega (arith, same, index); given = behind.given; other = behind.other })
          ])
        ])
      ])
    ];
  }

  pub learned_keeps : Keeps (with_stream parts n new) x (knowing past n known.index)
  learned_keeps = record {
    history = h;
    devices = λ d within. sound d within;
    count = keeps.count;
    rising = keeps.rising;
    highest = keeps.highest;
    placed = keeps.placed;
    actual_sent = keeps.actual_sent;
    out_actual = λ m w is. elim (same_or m n) [
      | inl e ↦ (let now : out_by new.out ≡ Some w = sym (ap (λ (q : Streaming). out_by q.out) (at_it m e)) ∙ is in elim so.out [
        | inl same ↦ (let old = keeps.out_actual n w (sym same.1 ∙ now) in (old.0, ap (λ (q : Streaming). q.session) (at_it m e) ∙ same.0 ∙ old.1))
        | inr other ↦ absurd (let no : None ≡ Some w = sym other.1 ∙ now in cc)
      ])
      | inr e ↦ (let old = keeps.out_actual m w (sym (ap (λ (q : Streaming). out_by q.out) (at_other m e)) ∙ is) in (old.0, ap (λ (q : Streaming). q.session) (at_other m e) ∙ old.1))
    ];
    out_number = λ m w is. elim (same_or m n) [
      | inl e ↦ (let now : out_by new.out ≡ Some w = sym (ap (λ (q : Streaming). out_by q.out) (at_it m e)) ∙ is in elim so.out [
        | inl same ↦ (let le = keeps.out_number n w (sym same.1 ∙ now) in let here_it = ap (λ (q : Streaming). q.sequence) (at_it m e) in let number = so.sequence in omega (arith, le, here_it, number))
        | inr other ↦ absurd (let no : None ≡ Some w = sym other.1 ∙ now in cc)
      ])
      | inr e ↦ (let le = keeps.out_number m w (sym (ap (λ (q : Streaming). out_by q.out) (at_other m e)) ∙ is) in let same = ap (λ (q : Streaming). q.sequence) (at_other m e) in omega (arith, le, same))
    ];
    actual_given = keeps.actual_given;
    holding = λ m t is. elim (same_or m n) [
      | inl e ↦ ap (λ (q : Streaming). q.session) (at_it m e) ∙ so.holding t (sym (ap (λ (q : Streaming). q.out) (at_it m e)) ∙ is)
      | inr e ↦ ap (λ (q : Streaming). q.session) (at_other m e) ∙ keeps.holding m t (sym (ap (λ (q : Streaming). q.out) (at_other m e)) ∙ is)
    ];
    sendable = λ m t is. elim (same_or m n) [
      | inl e ↦ keeps.sendable n t (so.noted t (sym (ap (λ (q : Streaming). q.out) (at_it m e)) ∙ is))
      | inr e ↦ keeps.sendable m t (sym (ap (λ (q : Streaming). q.out) (at_other m e)) ∙ is)
    ];
    askable = λ m a is. elim (same_or m n) [
      | inl e ↦ so.askable a (sym (ap (λ (q : Streaming). q.asks) (at_it m e)) ∙ is)
      | inr e ↦ keeps.askable m a (sym (ap (λ (q : Streaming). q.asks) (at_other m e)) ∙ is)
    ];
    epochs = keeps.epochs;
    owing = keeps.owing;
    from_members = keeps.from_members;
    own_out = λ m w there is. elim (same_or m n) [
      | inl e ↦ (let now : new.session ≡ Some w.session = sym (ap (λ (q : Streaming). q.session) (at_it m e)) ∙ is in
          let old = same_own w.session now (keeps.left w there) in
          let before = keeps.own_out n w there old in elim so.out [
            | inl same ↦ ap (λ (q : Streaming). out_by q.out) (at_it m e) ∙ same.1 ∙ before
            | inr other ↦ absurd (other.0 (now ∙ sym old))
          ])
      | inr e ↦ ap (λ (q : Streaming). out_by q.out) (at_other m e) ∙ keeps.own_out m w there (sym (ap (λ (q : Streaming). q.session) (at_other m e)) ∙ is)
    ];
    lasts = keeps.lasts;
    brings = keeps.brings;
    noted = λ m d epoch b t within is has. elim (same_or m n) [
      | inl e ↦ keeps.noted n d epoch b t within (so.noted t (sym (ap (λ (q : Streaming). q.out) (at_it m e)) ∙ is)) has
      | inr e ↦ keeps.noted m d epoch b t within (sym (ap (λ (q : Streaming). q.out) (at_other m e)) ∙ is) has
    ];
    asking = λ m a is. elim (same_or m n) [
      | inl e ↦ (let it = so.asks a (sym (ap (λ (q : Streaming). q.asks) (at_it m e)) ∙ is) in
          let old = keeps.asking n it.1.0 it.1.1 in
          (ap (λ (q : Streaming). q.session) (at_it m e) ∙ it.0, (let now = ap (λ (q : Streaming). q.tag) (at_it m e) in let same = so.tag in let le = old.1 in let tag = it.1.2.tag in omega (arith, now, same, le, tag))))
      | inr e ↦ (let old = keeps.asking m a (sym (ap (λ (q : Streaming). q.asks) (at_other m e)) ∙ is) in
          (ap (λ (q : Streaming). q.session) (at_other m e) ∙ old.0, (let same = ap (λ (q : Streaming). q.tag) (at_other m e) in let le = old.1 in omega (arith, same, le))))
    ];
    asked = λ m r a reading is session tag. elim (same_or m n) [
      | inl e ↦ (let it = so.asks a (sym (ap (λ (q : Streaming). q.asks) (at_it m e)) ∙ is) in
          let was = it.1.2 in
          same_read it.1.0 a r was (keeps.asked m r it.1.0 reading (ap (λ (k : ℕ). (parts.nodes k).asks) e ∙ it.1.1) (session ∙ was.session) (tag ∙ was.tag)))
      | inr e ↦ keeps.asked m r a reading (sym (ap (λ (q : Streaming). q.asks) (at_other m e)) ∙ is) session tag
    ];
    node_known = λ m t is. elim (same_or m n) [
      | inl e ↦ (
        known,
        may.place,
        sym (ap (λ (k : ℕ). put_at (Node n) known.index past.told.knew (Node k)) e ∙ here (Node n) known.index past.told.knew),
        ap (λ (q : Streaming). q.rows) (at_it m e) ∙ so.rows,
        own_lives known n (past.told.boots (Node n)) t (keeps.in_order known may.place) (sym own_is ∙ sym (ap (λ (q : Streaming). q.session) (at_it m e)) ∙ is),
      )
      | inr e ↦ (let old = keeps.node_known m t (sym (ap (λ (q : Streaming). q.session) (at_other m e)) ∙ is) in (old.0, old.1, old.2 ∙ sym (knew_next m e), ap (λ (q : Streaming). q.rows) (at_other m e) ∙ old.3, old.4))
    ];
    node_of = keeps.node_of;
    boot_of = keeps.boot_of;
    sessions = keeps.sessions;
    booted = keeps.booted;
    owned = λ m t is. elim (same_or m n) [
      | inl e ↦ (let of = is_owned t (sym (ap (λ (q : Streaming). q.session) (at_it m e)) ∙ is) in (of.node ∙ sym e, of.boot ∙ ap (λ (k : ℕ). past.told.boots (Node k)) (sym e), of.given))
      | inr e ↦ keeps.owned m t (sym (ap (λ (q : Streaming). q.session) (at_other m e)) ∙ is)
    ];
    single = keeps.single;
    found_most = keeps.found_most;
    in_order = keeps.in_order;
    left = λ w there. left_then w.session (keeps.left w there);
    numbered = λ d l there. drawn_same _ _ _ _ _ _ _ (kept (λ q. q.sequence) so.sequence (keeps.node_of l.session)) (keeps.numbered d l there);
    tagged = λ m d t epoch tag bytes data_. drawn_same _ _ _ _ _ _ _ (kept (λ q. q.tag) so.tag m) (keeps.tagged m d t epoch tag bytes data_);
    read_tagged = λ m r read. drawn_same _ _ _ _ _ _ _ (kept (λ q. q.tag) so.tag m) (keeps.read_tagged m r read);
    member_boots = keeps.member_boots;
    node_boots = λ m there up. kept (λ q. q.boot) so.boot m ∙ keeps.node_boots m there up;
  }

  -- ---- what stands goes on

  pub settles_learned : (d sector : ℕ) (content : List ℕ) → IsSettledOn parts x past d sector content → IsSettledOn (with_stream parts n new) x (knowing past n known.index) d sector content
  settles_learned d sector content settled = record { device = settled.device; behind_label = settled.behind_label; within = settled.within; is = settled.is }

  pub stands_learned : (d sector : ℕ) (content : List ℕ) (index : ℕ) → StandsOn parts x past d sector content index → StandsOn (with_stream parts n new) x (knowing past n known.index) d sector content index
  stands_learned d sector content index stands = record { settled = settles_learned d sector content stands.settled; stands = stands.stands }

  pub others_learned : (m : ℕ) (a : Asking) (sector : ℕ) (content : List ℕ) → m ≢ n → WillReadOn parts x past m a sector content → WillReadOn (with_stream parts n new) x (knowing past n known.index) m a sector content
  others_learned m a sector content other will = record {
    device = will.device;
    behind_label = will.behind_label;
    within = will.within;
    row = will.row;
    row_is = ap (λ (q : Streaming). slice_get q.rows a.device) (at_other m other) ∙ will.row_is;
    stands = will.stands;
    coming = will.coming;
    came = will.came;
  }

  -- the node's own read, in an epoch that isn't an earlier one
  pub reads_learned : (was a : Asking) (sector : ℕ) (content : List ℕ) → c.asks ≡ Some was → a.session ≡ was.session → a.tag ≡ was.tag → a.device ≡ was.device → a.place ≡ was.place → a.sectors ≡ was.sectors
      → (a.answer ≡ None) ⊎ (a.answer ≡ was.answer) → was.device < parts.made.devices → WillReadOn parts x past n was sector content → WillReadOn (with_stream parts n new) x (knowing past n known.index) n a sector content
  reads_learned was a sector content asked session tag device place sectors answer within will =
      let own = (keeps.asking n was asked).0 in
      let s = keeps.node_known n was.session own in
      elim (slice_get_cases known.devices was.device).1 [
        | inl r ↦ (let le = keeps.rising s.0 known s.1 may.place (let i = s.2 in let rises = may.rises in omega (arith, i, rises)) was.device in
            let old = ap row_or (ap (λ (rs : List DeviceRow). slice_get rs was.device) (sym s.3) ∙ will.row_is) in
            let now = ap row_or r.2 in
            let more : will.row.epoch ≤ r.0.epoch = (let e = ap (λ (q : DeviceRow). q.epoch) old in let f = ap (λ (q : DeviceRow). q.epoch) now in omega (arith, le, e, f)) in
            record {
              device = subst (λ (k : ℕ). k < parts.made.devices) (sym device) within;
              behind_label = will.behind_label;
              within = will.within;
              row = r.0;
              row_is = ap (λ (q : Streaming). slice_get q.rows a.device) (at_it n refl) ∙ ap (λ (rs : List DeviceRow). slice_get rs a.device) so.rows ∙ ap (λ (k : ℕ). slice_get known.devices k) device ∙ r.2;
              stands = subst (λ (k : ℕ). StandsFor (FromEpoch r.0.epoch) (with_stream parts n new) x (knowing past n known.index) k sector content) (sym device)
                  (stands_fewer was.device past.told.greatest (FromEpoch will.row.epoch) (FromEpoch r.0.epoch) _ _ _ _ _ _ sector content (λ q from. omega (arith, from, more)) will.stands);
              coming = λ epoch bytes data_ from low high. subst (λ (k : ℕ). sector_of bytes (sector - k) ≡ content) (sym place)
                  (will.coming epoch bytes (record { letter = data_.letter; there = data_.there; data_ = data_.data_; spells = data_.spells; to = data_.to; device = data_.device ∙ device; session_is = data_.session_is ∙ session; epoch_is = data_.epoch_is; tag_is = data_.tag_is ∙ tag; bytes_are = data_.bytes_are })
                  (omega (arith, from, more)) (omega (arith, low, place)) (omega (arith, high, place, sectors)));
              came = λ bytes is low high. elim answer [
                | inl none ↦ absurd (let no : None ≡ Some bytes = sym none ∙ is in cc)
                | inr same ↦ subst (λ (k : ℕ). sector_of bytes (sector - k) ≡ content) (sym place) (will.came bytes (sym same ∙ is) (omega (arith, low, place)) (omega (arith, high, place, sectors)))
              ];
            })
        | inr far ↦ absurd (let count = keeps.count known may.place in let past_it = far.0 in omega (arith, past_it, count, within))
      ]
