-- A write that is done ends: its letters can't be taken any more, or only by who is left out.
use Rattle.std.proofs.Common.{◌≡◌, ◌≢◌, ◌⊎◌, inl, inr, ⊎_elim, ℕ, ◌<◌, Bool, true, false, List, [], ◌∷◌, filter, length, Option, Some, None, refl, sym, ◌∙◌, ap, subst, arith}
use Rattle.std.specs.Prelude.{not, ◌==◌, slice_get, if◌then◌else◌}
use Rattle.std.proofs.lemmas.Bool.Decides.{nat_tests}
use Rattle.std.proofs.lemmas.Option.{slice_get_cases}
use Rattle.bx_disk.specs.Disks.{Disks}
use Rattle.bx_facts.specs.Chains.{last}
use Rattle.bx_facts.specs.Writes.{StorePast, WritesIn, store_room}
use Rattle.bx_rows.specs.Modes.{IsSource}
use Rattle.bx_rows.specs.declared.device.DeviceRow.{DeviceRow}
use Rattle.bx_mirror_laws.specs.Sides.{Among, Handing, IsIn, Out, Side, WriteLetter}
use Rattle.bx_mirror_laws.specs.Sound.{AreOuts, AreWrites, HasAcked, IsLate, Sends}
use Rattle.bx_mirror_laws.proofs.Finishing.{done_writes}
use Rattle.bx_mirror_client.specs.Sends.{has_runs, is_done}
use Rattle.bx_mirror_client.specs.Streams.{Streaming}
use Rattle.bx_mirror_client.specs.Telling.{HasRuns}
use Rattle.bx_mirror_client.specs.declared.sending.Sending.{Sending}
use Rattle.bx_mirror_client.proofs.Telling.{done_is, runs_there, there_runs}
use Rattle.bx_mirror_cluster.proofs.Drawn.{drawn_same}
use Rattle.bx_mirror_cluster.specs.Fitting.{History, IsClaimed, IsDeviceSound, IsOwnOrLeft, IsSettledOn, Keeps, Parts, StandsOn, WillReadOn, handings, knows_of, last_row, out_by, outs_of, rows_before, side_of}
use Rattle.bx_mirror_cluster.specs.Writing.{with_node, with_stream}
use Rattle.bx_mirror_client.specs.declared.asking.Asking.{Asking}
use Rattle.bx_mirror_cluster.proofs.Finished.{low_mode, written_source}
use Rattle.bx_mirror_cluster.proofs.Leaving.{same_left}

-- ---- those of a list that pass a test

in_left : (f : Out → Bool) (ws : List Out) (w : Out) → IsIn ws w → f w ≡ true → IsIn (filter f ws) w
in_left f [] w there passes = there
in_left f (v ∷ ws) w there passes = (elim (f v) as (λ t. f v ≡ t → IsIn (filter f (v ∷ ws)) w) [
  | true ↦ λ e. rw e (⊎_elim (λ (same : w ≡ v). inl same) (λ (rest : IsIn ws w). inr (in_left f ws w rest passes)) there)
  | false ↦ λ e. rw e (⊎_elim (λ (same : w ≡ v). absurd (let no : true ≡ false = sym passes ∙ ap f same ∙ e in cc)) (λ (rest : IsIn ws w). in_left f ws w rest passes) there)
]) refl

of_left : (f : Out → Bool) (ws : List Out) (w : Out) → IsIn (filter f ws) w → IsIn ws w × (f w ≡ true)
of_left f [] w there = absurd there
of_left f (v ∷ ws) w there = (elim (f v) as (λ t. f v ≡ t → IsIn (v ∷ ws) w × (f w ≡ true)) [
  | true ↦ λ e. (let h = rw e at there in ⊎_elim (λ (same : w ≡ v). (inl same, ap f same ∙ e)) (λ (rest : IsIn (filter f ws) w). let more = of_left f ws w rest in (inr more.0, more.1)) h)
  | false ↦ λ e. (let h = rw e at there in let more = of_left f ws w h in (inr more.0, more.1))
]) refl

same_or : (n m : ℕ) → (n ≡ m) ⊎ (n ≢ m)
same_or n m = grind arith

differs : (n m : ℕ) → n ≢ m → not (n == m) ≡ true
differs n m apart = let e : (n == m) ≡ false = grind (arith, nat_tests, apart) in ap not e

apart_of : (n m : ℕ) → not (n == m) ≡ true → n ≢ m
apart_of n m e = grind (arith, nat_tests, e)

late_or : (g until : ℕ) → IsLate g until ⊎ (IsLate g until → ⊥)
late_or g until = grind arith

module _ (parts : Parts) (x : Disks) (past : StorePast) (keeps : Keeps parts x past) (n : ℕ) (s : Sending) (is_out : (parts.nodes n).out ≡ Some s) (number : (s.sequence == 0) ≡ false)
    (done : is_done s (parts.nodes n).rows ≡ true) where
  abbrev c : Streaming
  c = record (parts.nodes n) { out = None }

  abbrev nodes_next : ℕ → Streaming
  nodes_next = with_node parts.nodes n c

  abbrev this : Out
  this = record { session = s.session; sequence = s.sequence; until = s.until; runs = s.runs.1 }

  abbrev h : History
  h = keeps.history

  abbrev test : Out → Bool
  test w = not (w.session == s.session)

  abbrev left_over : List Out
  left_over = filter (λ w. not (w.session == s.session)) h.actual

  abbrev h_next : History
  h_next = record { actual = left_over; writes = h.writes; wrotes = h.wrotes; copies = h.copies; copieds = h.copieds; source = h.source }

  at_it : (m : ℕ) → m ≡ n → nodes_next m ≡ c
  at_it m e = let same : (m == n) ≡ true = grind (arith, nat_tests, e) in ap (λ (b : Bool). if b then c else parts.nodes m) same

  at_other : (m : ℕ) → m ≢ n → nodes_next m ≡ parts.nodes m
  at_other m e = let other : (m == n) ≡ false = grind (arith, nat_tests, e) in ap (λ (b : Bool). if b then c else parts.nodes m) other

  kept : {A : Type 0} → (f : Streaming → A) → f c ≡ f (parts.nodes n) → (m : ℕ) → f (nodes_next m) ≡ f (parts.nodes m)
  kept f same m = elim (same_or m n) [
    | inl e ↦ ap f (at_it m e) ∙ same ∙ ap (λ (k : ℕ). f (parts.nodes k)) (sym e)
    | inr e ↦ ap f (at_other m e)
  ]

  out_is : outs_of parts.nodes n ≡ Some this
  out_is = ap out_by is_out ∙ ap (λ (t : Bool). if t then None else Some this) number

  was_out : Among h.actual this × ((parts.nodes n).session ≡ Some this.session)
  was_out = keeps.out_actual n this out_is

  own : (parts.nodes n).session ≡ Some s.session
  own = was_out.1

  -- only this node has the session, and of the writes that may still be taken this is the one of it
  its_node : (m : ℕ) → (parts.nodes m).session ≡ Some s.session → m ≡ n
  its_node m is = sym (keeps.owned m s.session is).0 ∙ (keeps.owned n s.session own).0

  fewer : (w : Out) → Among h.actual w → (w ≡ this) ⊎ Among left_over w
  fewer w there = elim (same_or w.session s.session) [
    | inl e ↦ inl (let is : outs_of parts.nodes n ≡ Some w = keeps.own_out n w there (own ∙ ap Some (sym e)) in let both : Some w ≡ Some this = sym is ∙ out_is in cc)
    | inr e ↦ inr (record { is = in_left (λ v. not (v.session == s.session)) h.actual w there.is (differs w.session s.session e) })
  ]

  more : (w : Out) → Among left_over w → Among h.actual w × (w.session ≢ s.session)
  more w there = let it = of_left (λ v. not (v.session == s.session)) h.actual w there.is in (record { is = it.0 }, apart_of w.session s.session it.1)

  -- ---- a device

  module _ (d : ℕ) (within : d < parts.made.devices) where
    abbrev was : IsDeviceSound parts x past h d
    was = keeps.devices d within

    abbrev room : ℕ
    room = store_room parts.made

    abbrev last_ : DeviceRow
    last_ = last_row past.told.chain d

    abbrev older_ : List DeviceRow
    older_ = rows_before past.told.chain d

    abbrev handed : List Handing
    handed = handings d past.told.handed

    abbrev sides : Bool → Side
    sides = side_of past.told x parts.members d

    abbrev live : Out → Type 0
    live = IsClaimed (last past.told.chain) past.told.greatest

    knows_same : knows_of nodes_next d ≡ knows_of parts.nodes d
    knows_same = λ i. λ m. slice_get ((kept (λ q. q.rows) refl m) i) d

    sends_next : (other : Out) (r : DeviceRow) → Sends (outs_of nodes_next) (knows_of parts.nodes d) live other r → Sends (outs_of parts.nodes) (knows_of parts.nodes d) live other r × (this ≢ other)
    sends_next other r sends = elim (same_or sends.node n) [
      | inl e ↦ absurd (let no : None ≡ Some other = sym (ap (λ (q : Streaming). out_by q.out) (at_it sends.node e)) ∙ sends.out in cc)
      | inr e ↦ (let out : outs_of parts.nodes sends.node ≡ Some other = sym (ap (λ (q : Streaming). out_by q.out) (at_other sends.node e)) ∙ sends.out in (
        record { node = sends.node; out = out; knows_it = sends.knows_it; lives = sends.lives },
        λ same. e (its_node sends.node ((keeps.out_actual sends.node other out).1 ∙ ap (λ (w : Out). Some w.session) (sym same))),
      ))
    ]

    abbrev Written : (ℕ → Option DeviceRow) → Type 0
    Written knows = AreWrites d past.told.greatest last_ older_ sides (h.writes d) (h.wrotes d) left_over (outs_of nodes_next) knows live

    -- where its letters are late, or it has none here
    gone : ((l : WriteLetter) → Among (h.writes d) l → this.until ≡ l.until → ((y : ℕ) (content : List ℕ) → WritesIn l.runs d y content → WritesIn this.runs d y content) → IsLate past.told.greatest l.until) → Written (knows_of parts.nodes d)
    gone late_it = record {
      each = λ l there. let it = was.writes.each l there in record {
        row = it.row;
        row_is = it.row_is;
        epoch_is = it.epoch_is;
        case = elim it.case [
          | inl carries ↦ elim (fewer carries.write carries.there) [
            | inl same ↦ inr (inl (late_it l there (ap (λ (w : Out). w.until) (sym same) ∙ carries.until) (λ y content brings. subst (λ (w : Out). WritesIn w.runs d y content) same (carries.brings y content brings))))
            | inr stays ↦ inl (record { write = carries.write; there = stays; session = carries.session; sequence = carries.sequence; until = carries.until; brings = carries.brings })
          ]
          | inr rest ↦ inr (elim rest [
            | inl late ↦ inl late
            | inr two ↦ inr (elim two [
              | inl gone_by ↦ inl gone_by
              | inr left ↦ inr (record {
                row = left.row;
                is = left.is;
                later = left.later;
                no_source = left.no_source;
                been = left.been;
                others = λ other r y content else_ sends row low less its brings. left.others other r y content else_ (sends_next other r sends).0 row low less its brings;
              })
            ])
          ])
        ];
      };
    }

    -- where it has runs here, and is claimed
    module _ (has : HasRuns d s.runs.1) (claimed : live this) (k : DeviceRow) (knows : slice_get (parts.nodes n).rows d ≡ Some k) where
      sends : Sends (outs_of parts.nodes) (knows_of parts.nodes d) live this k
      sends = record { node = n; out = out_is; knows_it = knows; lives = claimed }

      ends : Written (knows_of parts.nodes d)
      ends =
          let row = ((done_is s (parts.nodes n).rows).0 done).each d k knows has in
          let low = low_mode k.mode row.writes in
          let acked : (b : Bool) → IsSource k.mode b → HasAcked (h.wrotes d) b this k = λ b source. record { is = keeps.noted n d k.epoch b s within is_out (row.acked b (written_source k.mode b low source)) } in
          done_writes d room past.told.greatest last_ older_ handed sides (h.source d) was.rows was.hands (h.writes d) (h.wrotes d) h.actual (outs_of parts.nodes) (knows_of parts.nodes d) live was.writes
          this k sends (was.outs.each this k sends) low acked was.wrotes left_over (outs_of nodes_next) fewer sends_next was.outs was_out.0

    written : Written (knows_of parts.nodes d)
    written = by (has_runs d s.runs.1) refl
      where
        at_row : HasRuns d s.runs.1 → live this → Written (knows_of parts.nodes d)
        at_row has claimed = elim (slice_get_cases (parts.nodes n).rows d).1 [
          | inl k ↦ ends has claimed k.0 k.2
          | inr far ↦ absurd (let state = keeps.node_known n s.session own in let count = keeps.count state.0 state.1 in let long = ap length state.3 in let past_it = far.0 in omega (arith, past_it, count, long, within))
        ]

        by : (b : Bool) → has_runs d s.runs.1 ≡ b → Written (knows_of parts.nodes d)
        by true e = elim (late_or past.told.greatest s.until) [
          | inl late ↦ gone (λ l there until its. subst (λ (u : ℕ). IsLate past.told.greatest u) until late)
          | inr in_time ↦ at_row (runs_there d s.runs.1 e) (inr in_time)
        ]
        by false e = gone (λ l there until its. absurd (
            let some = (keeps.brings d l there).some in
            let there_it = its some.0 some.1.0 some.1.1 in
            let yes = there_runs d s.runs.1 (there_it.0, there_it.1, there_it.2.on) in
            let no : true ≡ false = sym yes ∙ e in cc))

    sound : IsDeviceSound (with_stream parts n c) x past h_next d
    sound = record {
      rows = was.rows;
      hands = was.hands;
      copies = was.copies;
      writes = subst Written (sym knows_same) written;
      wrotes = was.wrotes;
      outs = subst (λ (g : ℕ → Option DeviceRow). AreOuts d room past.told.greatest last_ older_ handed sides (h.writes d) (h.wrotes d) left_over (outs_of nodes_next) g live) (sym knows_same) (record {
        each = λ o r sent. let out = was.outs.each o r (sends_next o r sent).0 in record {
          row = out.row;
          begins = out.begins;
          range = out.range;
          alone = λ w y content other there theirs its. out.alone w y content other (more w there).0 theirs its;
          once = out.once;
          newest = out.newest;
          its = out.its;
          whole = out.whole;
          sent = out.sent;
          lasts = out.lasts;
          goes = out.goes;
        };
      });
      coming = was.coming;
      answering = was.answering;
      copying = was.copying;
      copied_to = was.copied_to;
      labels = was.labels;
      down = was.down;
      known = was.known;
    }

  still_own : (node_of boot_of : ℕ → ℕ) (w : Out) → IsOwnOrLeft parts.nodes past.told.chain past.told.knew past.told.boots past.told.down (node_of w.session) (boot_of w.session) w.session
      → IsOwnOrLeft nodes_next past.told.chain past.told.knew past.told.boots past.told.down (node_of w.session) (boot_of w.session) w.session
  still_own node_of boot_of w is = same_left parts.nodes nodes_next past.told.chain past.told.knew past.told.boots past.told.down (node_of w.session) (boot_of w.session) w.session (kept (λ q. q.session) refl (node_of w.session)) is

  -- ---- all of it

  pub write_ends : Keeps (with_stream parts n c) x past
  write_ends = record {
    history = h_next;
    devices = λ d within. sound d within;
    count = keeps.count;
    rising = keeps.rising;
    highest = keeps.highest;
    placed = keeps.placed;
    actual_sent = λ w there. keeps.actual_sent w (more w there).0;
    out_actual = λ m w is. elim (same_or m n) [
      | inl e ↦ absurd (let no : None ≡ Some w = sym (ap (λ (q : Streaming). out_by q.out) (at_it m e)) ∙ is in cc)
      | inr e ↦ (let old = keeps.out_actual m w (sym (ap (λ (q : Streaming). out_by q.out) (at_other m e)) ∙ is) in elim (fewer w old.0) [
        | inl same ↦ absurd (e (its_node m (old.1 ∙ ap (λ (v : Out). Some v.session) same)))
        | inr stays ↦ (stays, ap (λ (q : Streaming). q.session) (at_other m e) ∙ old.1)
      ])
    ];
    out_number = λ m w is. elim (same_or m n) [
      | inl e ↦ absurd (let no : None ≡ Some w = sym (ap (λ (q : Streaming). out_by q.out) (at_it m e)) ∙ is in cc)
      | inr e ↦ (let le = keeps.out_number m w (sym (ap (λ (q : Streaming). out_by q.out) (at_other m e)) ∙ is) in let same = ap (λ (q : Streaming). q.sequence) (at_other m e) in omega (arith, le, same))
    ];
    actual_given = λ w there. keeps.actual_given w (more w there).0;
    holding = λ m t is. elim (same_or m n) [
      | inl e ↦ absurd (let no : None ≡ Some t = sym (ap (λ (q : Streaming). q.out) (at_it m e)) ∙ is in cc)
      | inr e ↦ ap (λ (q : Streaming). q.session) (at_other m e) ∙ keeps.holding m t (sym (ap (λ (q : Streaming). q.out) (at_other m e)) ∙ is)
    ];
    sendable = λ m t is. elim (same_or m n) [
      | inl e ↦ absurd (let no : None ≡ Some t = sym (ap (λ (q : Streaming). q.out) (at_it m e)) ∙ is in cc)
      | inr e ↦ keeps.sendable m t (sym (ap (λ (q : Streaming). q.out) (at_other m e)) ∙ is)
    ];
    askable = λ m a is. keeps.askable m a (sym (kept (λ q. q.asks) refl m) ∙ is);
    epochs = keeps.epochs;
    owing = keeps.owing;
    from_members = keeps.from_members;
    own_out = λ m w there is. let old = more w there in let before = keeps.own_out m w old.0 (sym (kept (λ q. q.session) refl m) ∙ is) in elim (same_or m n) [
      | inl e ↦ absurd (old.1 (let of_n : (parts.nodes n).session ≡ Some w.session = sym (ap (λ (k : ℕ). (parts.nodes k).session) e) ∙ sym (kept (λ q. q.session) refl m) ∙ is in
          let both : Some w.session ≡ Some s.session = sym of_n ∙ own in cc))
      | inr e ↦ ap (λ (q : Streaming). out_by q.out) (at_other m e) ∙ before
    ];
    lasts = keeps.lasts;
    brings = keeps.brings;
    noted = λ m d epoch b t within is has. elim (same_or m n) [
      | inl e ↦ absurd (let no : None ≡ Some t = sym (ap (λ (q : Streaming). q.out) (at_it m e)) ∙ is in cc)
      | inr e ↦ keeps.noted m d epoch b t within (sym (ap (λ (q : Streaming). q.out) (at_other m e)) ∙ is) has
    ];
    asking = λ m a is. let old = keeps.asking m a (sym (kept (λ q. q.asks) refl m) ∙ is) in (kept (λ q. q.session) refl m ∙ old.0, (let same = kept (λ q. q.tag) refl m in let le = old.1 in omega (arith, same, le)));
    asked = λ m r a reading is session tag. keeps.asked m r a reading (sym (kept (λ q. q.asks) refl m) ∙ is) session tag;
    node_known = λ m t is. let old = keeps.node_known m t (sym (kept (λ q. q.session) refl m) ∙ is) in (old.0, old.1, old.2, kept (λ q. q.rows) refl m ∙ old.3, old.4);
    node_of = keeps.node_of;
    boot_of = keeps.boot_of;
    sessions = keeps.sessions;
    booted = keeps.booted;
    owned = λ m t is. keeps.owned m t (sym (kept (λ q. q.session) refl m) ∙ is);
    single = keeps.single;
    found_most = keeps.found_most;
    in_order = keeps.in_order;
    left = λ w there. still_own keeps.node_of keeps.boot_of w (keeps.left w (more w there).0);
    numbered = λ d l there. drawn_same _ _ _ _ _ _ _ (kept (λ q. q.sequence) refl (keeps.node_of l.session)) (keeps.numbered d l there);
    tagged = λ m d t epoch tag bytes data_. drawn_same _ _ _ _ _ _ _ (kept (λ q. q.tag) refl m) (keeps.tagged m d t epoch tag bytes data_);
    read_tagged = λ m r read. drawn_same _ _ _ _ _ _ _ (kept (λ q. q.tag) refl m) (keeps.read_tagged m r read);
    member_boots = keeps.member_boots;
    node_boots = λ m there up. kept (λ q. q.boot) refl m ∙ keeps.node_boots m there up;
  }

  -- what is read goes on
  pub reads_ended : (m : ℕ) (a : Asking) (sector : ℕ) (content : List ℕ) → WillReadOn parts x past m a sector content → WillReadOn (with_stream parts n c) x past m a sector content
  reads_ended m a sector content will = record {
    device = will.device;
    behind_label = will.behind_label;
    within = will.within;
    row = will.row;
    row_is = ap (λ (rs : List DeviceRow). slice_get rs a.device) (kept (λ q. q.rows) refl m) ∙ will.row_is;
    stands = will.stands;
    coming = will.coming;
    came = will.came;
  }

-- ---- what stands goes on

pub settles_ended : (parts : Parts) (x : Disks) (past : StorePast) (n d sector : ℕ) (content : List ℕ) → IsSettledOn parts x past d sector content → IsSettledOn (with_stream parts n (record (parts.nodes n) { out = None })) x past d sector content
settles_ended parts x past n d sector content settled = record { device = settled.device; behind_label = settled.behind_label; within = settled.within; is = settled.is }

pub stands_ended : (parts : Parts) (x : Disks) (past : StorePast) (n d sector : ℕ) (content : List ℕ) (index : ℕ) → StandsOn parts x past d sector content index → StandsOn (with_stream parts n (record (parts.nodes n) { out = None })) x past d sector content index
stands_ended parts x past n d sector content index stands = record { settled = settles_ended parts x past n d sector content stands.settled; stands = stands.stands }
