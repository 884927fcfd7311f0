-- A node sends a write: members and streams fit the past with that write and its letters.
use Rattle.std.proofs.Common.{◌≡◌, ◌≢◌, ◌⊎◌, inl, inr, ℕ, ◌+◌, ◌-◌, ◌<◌, ◌≤◌, Bool, true, false, Contains, List, [], ◌∷◌, ◌++◌, length, Option, Some, None, refl, sym, ◌∙◌, ap, subst, arith}
use Rattle.std.specs.Prelude.{◌==◌, slice_get, if◌then◌else◌}
use Rattle.std.proofs.lemmas.Bool.Decides.{nat_tests}
use Rattle.std.proofs.lemmas.List.Elements.{Contains-append_cases}
use Rattle.std.proofs.lemmas.Option.{slice_get_cases}
use Rattle.bx_disk.specs.Disks.{Disks, sector_of}
use Rattle.bx_facts.proofs.Lists.{behind, front, front_or_behind, nothing}
use Rattle.bx_facts.specs.Chains.{last}
use Rattle.bx_facts.specs.Writes.{AreRuns, MayWrite, Sent, StorePast, WritesIn, store_room}
use Rattle.bx_base.specs.declared.names.Actor.TheVariants.{Node}
use Rattle.bx_global.specs.Table.{greatest}
use Rattle.bx_post.specs.declared.packets.Letter.{Letter}
use Rattle.bx_records.specs.Runs.{KindAndRuns}
use Rattle.bx_records.specs.declared.runs.Run.{Run}
use Rattle.bx_rows.specs.Conditions.{Fits}
use Rattle.bx_rows.specs.declared.device.DeviceRow.{DeviceRow}
use Rattle.bx_mirror_laws.specs.Sides.{Among, Handing, Out, Side, WriteLetter}
use Rattle.bx_mirror_laws.specs.Acting.{FromEpoch, IsRow}
use Rattle.bx_mirror_laws.specs.Sound.{AreOuts, AreWrites, AreWrotes, IsLate, Sends, sent_of}
use Rattle.bx_mirror_laws.proofs.Nodes.{stands_send}
use Rattle.bx_mirror_packets.specs.Parting.{runs_on}
use Rattle.bx_mirror_tables.specs.Lasts.{last_in}
use Rattle.bx_mirror_client.specs.Letters.{letters_from, write_letters}
use Rattle.bx_mirror_client.specs.Sends.{has_runs, member_at, next_number}
use Rattle.bx_mirror_client.specs.Streams.{Streaming, sending}
use Rattle.bx_mirror_client.specs.declared.asking.Asking.{Asking}
use Rattle.bx_mirror_client.specs.declared.sending.Sending.{Sending}
use Rattle.bx_mirror_client.proofs.Telling.{runs_there, there_runs}
use Rattle.bx_mirror_cluster.proofs.Drawn.{drawn_more, drawn_own, drawn_same, not_member}
use Rattle.bx_mirror_packets.specs.declared.message.ReadBody.{ReadBody}
use Rattle.bx_mirror_cluster.specs.Fitting.{History, IsClaimed, IsComing, IsDeviceSound, IsDrawn, IsOwnOrLeft, IsReading, IsSettledOn, Keeps, KnownFrom, Nowhere, Parts, StandsFor, StandsOn, WillReadOn, handings, knows_of, last_row, out_by, outs_of, row_or, rows_before, side_of}
use Rattle.bx_mirror_cluster.specs.Speaking.{BringsOnce, FitsPacket, IsSendable, letter_of}
use Rattle.bx_mirror_cluster.specs.Writing.{MaySend, parts_sent, past_sent, with_node, with_sent, with_stream, write_by}
use Rattle.bx_mirror_cluster.proofs.Leaving.{same_left}
use Rattle.bx_mirror_cluster.proofs.Sent.{base_outs, base_writes, sent_outs, sent_writes, sent_wrotes, told_both}
use Rattle.bx_mirror_cluster.proofs.Speaking.{coming_more, low_kinds}

-- ---- numbers, and runs on a device

next_one : (k : ℕ) → (next_number k == 0) ≡ false → next_number k ≡ k + 1
next_one k some = by (k == greatest) refl
  where
    by : (b : Bool) → (k == greatest) ≡ b → next_number k ≡ k + 1
    by true e = absurd (let zero_is : next_number k ≡ 0 = ap (λ (t : Bool). if t then 0 else k + 1) e in let no : (0 == 0) ≡ false = sym (ap (λ (n : ℕ). n == 0) zero_is) ∙ some in cc)
    by false e = ap (λ (t : Bool). if t then 0 else k + 1) e

in_on : (d : ℕ) (runs : List Run) (run : Run) → Contains runs run → run.device ≡ d → Contains (runs_on d runs) run
in_on d [] run there on = absurd (nothing run there)
in_on d (r ∷ runs) run there on = by (r.device == d) refl (front_or_behind r runs run there) (λ more. in_on d runs run more on)
  where
    by : (b : Bool) → (r.device == d) ≡ b → (r ≡ run) ⊎ Contains runs run → (Contains runs run → Contains (runs_on d runs) run) → Contains (if b then r ∷ runs_on d runs else runs_on d runs) run
    by true e (inl here) rest = subst (Contains (r ∷ runs_on d runs)) here (front r (runs_on d runs))
    by true e (inr more) rest = behind r (runs_on d runs) run (rest more)
    by false e (inl here) rest = absurd (let on_it : r.device ≡ d = ap (λ (q : Run). q.device) here ∙ on in let yes : (r.device == d) ≡ true = grind (arith, nat_tests, on_it) in let no : true ≡ false = sym yes ∙ e in cc)
    by false e (inr more) rest = rest more

of_on : (d : ℕ) (runs : List Run) (run : Run) → Contains (runs_on d runs) run → Contains runs run
of_on d [] run there = absurd (nothing run there)
of_on d (r ∷ runs) run there = by (r.device == d) there (λ more. of_on d runs run more)
  where
    by : (b : Bool) → Contains (if b then r ∷ runs_on d runs else runs_on d runs) run → (Contains (runs_on d runs) run → Contains runs run) → Contains (r ∷ runs) run
    by true has rest = by_front (front_or_behind r (runs_on d runs) run has) rest
      where
        by_front : (r ≡ run) ⊎ Contains (runs_on d runs) run → (Contains (runs_on d runs) run → Contains runs run) → Contains (r ∷ runs) run
        by_front (inl here) more = subst (Contains (r ∷ runs)) here (front r runs)
        by_front (inr there_) more = behind r runs run (more there_)
    by false has rest = behind r runs run (rest has)

pub on_whole : (d : ℕ) (runs : List Run) (x : ℕ) (content : List ℕ) → WritesIn runs d x content → WritesIn (runs_on d runs) d x content
on_whole d runs x content brings = (brings.0, in_on d runs brings.0 brings.1 brings.2.on, brings.2)

pub on_its : (d : ℕ) (runs : List Run) (x : ℕ) (content : List ℕ) → WritesIn (runs_on d runs) d x content → WritesIn runs d x content
on_its d runs x content brings = (brings.0, of_on d runs brings.0 brings.1, brings.2)

same_or : (n m : ℕ) → (n ≡ m) ⊎ (n ≢ m)
same_or n m = grind arith

is_it : (n m : ℕ) → n ≡ m → (n == m) ≡ true
is_it n m e = grind (arith, nat_tests, e)

is_other : (n m : ℕ) → n ≢ m → (n == m) ≡ false
is_other n m e = grind (arith, nat_tests, e)

-- a device's letters, where its row is known
abbrev pub told_in : Option DeviceRow → Out → List Run → List WriteLetter → List WriteLetter
told_in None o runs writes = writes
told_in (Some k) o runs writes = told_both o k runs writes

-- and it has some of the runs
abbrev pub told_if : Bool → Option DeviceRow → Out → List Run → List WriteLetter → List WriteLetter
told_if b row o runs writes = if b then told_in row o runs writes else writes

older_in : (row : Option DeviceRow) (o : Out) (runs : List Run) (writes : List WriteLetter) (l : WriteLetter) → Among writes l → Among (told_in row o runs writes) l
older_in None o runs writes l there = there
older_in (Some k) o runs writes l there = record { is = inr (inr there.is) }

pub older_told : (b : Bool) (row : Option DeviceRow) (o : Out) (runs : List Run) (writes : List WriteLetter) (l : WriteLetter) → Among writes l → Among (told_if b row o runs writes) l
older_told true row o runs writes l there = older_in row o runs writes l there
older_told false row o runs writes l there = there

-- a letter is an older one, or of this write
pub record IsNewer (b : Bool) (o : Out) (runs : List Run) (l : WriteLetter) : Type 0 where
  pub has : b ≡ true
  pub session : l.session ≡ o.session
  pub sequence : l.sequence ≡ o.sequence
  pub brings : l.runs ≡ runs

pub newer_told : (b : Bool) (row : Option DeviceRow) (o : Out) (runs : List Run) (writes : List WriteLetter) (l : WriteLetter) → Among (told_if b row o runs writes) l → Among writes l ⊎ IsNewer b o runs l
newer_told false row o runs writes l there = inl there
newer_told true None o runs writes l there = inl there
newer_told true (Some k) o runs writes l there = elim there.is [
  | inl one ↦ inr (record { has = refl; session = ap (λ (m : WriteLetter). m.session) one; sequence = ap (λ (m : WriteLetter). m.sequence) one; brings = ap (λ (m : WriteLetter). m.runs) one })
  | inr more ↦ elim more [
    | inl two ↦ inr (record { has = refl; session = ap (λ (m : WriteLetter). m.session) two; sequence = ap (λ (m : WriteLetter). m.sequence) two; brings = ap (λ (m : WriteLetter). m.runs) two })
    | inr old ↦ inl (record { is = old })
  ]
]

module _ (parts : Parts) (x : Disks) (past : StorePast) (keeps : Keeps parts x past) (n session until : ℕ) (runs : KindAndRuns) (own : (parts.nodes n).session ≡ Some session) (none : (parts.nodes n).out ≡ None)
    (are : AreRuns parts.made runs.1) (may : MayWrite past.writes past.told.greatest (last past.told.chain) (record { session = session; until = until; runs = runs.1 })) (some : (next_number (parts.nodes n).sequence == 0) ≡ false)
    (fits : FitsPacket (record { session = session; sequence = next_number (parts.nodes n).sequence; until = until; runs = runs; acks = [] })) (few : length (parts.nodes n).rows ≤ 4)
    (epochs : (k : ℕ) (row : DeviceRow) → slice_get (parts.nodes n).rows k ≡ Some row → Fits row.epoch) where
  abbrev c : Streaming
  c = parts.nodes n

  abbrev s : Sending
  s = record { session = session; sequence = next_number c.sequence; until = until; runs = runs; acks = [] }

  abbrev o : Out
  o = record { session = session; sequence = next_number c.sequence; until = until; runs = runs.1 }

  abbrev sent : Sent
  sent = record { session = session; until = until; runs = runs.1 }

  abbrev letters : List Letter
  letters = letters_from [] c.node s 0 c.rows

  abbrev nodes_next : ℕ → Streaming
  nodes_next = with_node parts.nodes n (sending (Some session) runs until c)

  abbrev h : History
  h = keeps.history

  abbrev h_next : History
  h_next = record {
    actual = o ∷ h.actual;
    writes = λ d. told_if (has_runs d runs.1) (slice_get c.rows d) o (runs_on d runs.1) (h.writes d);
    wrotes = h.wrotes;
    copies = h.copies;
    copieds = h.copieds;
    source = h.source;
  }

  -- the stream of a node then
  at_it : (m : ℕ) → m ≡ n → nodes_next m ≡ sending (Some session) runs until c
  at_it m e = ap (λ (b : Bool). if b then sending (Some session) runs until c else parts.nodes m) (is_it m n e)

  at_other : (m : ℕ) → m ≢ n → nodes_next m ≡ parts.nodes m
  at_other m e = ap (λ (b : Bool). if b then sending (Some session) runs until c else parts.nodes m) (is_other m n e)

  -- what it keeps of each node
  kept : {A : Type 0} → (f : Streaming → A) → f (sending (Some session) runs until c) ≡ f c → (m : ℕ) → f (nodes_next m) ≡ f (parts.nodes m)
  kept f same m = elim (same_or m n) [
    | inl e ↦ ap f (at_it m e) ∙ same ∙ ap (λ (k : ℕ). f (parts.nodes k)) (sym e)
    | inr e ↦ ap f (at_other m e)
  ]

  out_now : outs_of nodes_next n ≡ Some o
  out_now = ap (λ (d : Streaming). out_by d.out) (at_it n refl) ∙ ap (λ (t : Bool). if t then None else Some o) some

  out_before : outs_of parts.nodes n ≡ None
  out_before = ap out_by none

  next_is : next_number c.sequence ≡ c.sequence + 1
  next_is = next_one c.sequence some

  -- only this node has the session
  its_node : (m : ℕ) → (parts.nodes m).session ≡ Some session → m ≡ n
  its_node m is = sym (keeps.owned m session is).0 ∙ (keeps.owned n session own).0

  no_out : (m : ℕ) (w : Out) → outs_of parts.nodes m ≡ Some w → w.session ≡ session → ⊥
  no_out m w is same =
      let e = its_node m ((keeps.out_actual m w is).1 ∙ ap Some same) in
      let there : outs_of parts.nodes n ≡ Some w = subst (λ (k : ℕ). outs_of parts.nodes k ≡ Some w) e is in
      let no : None ≡ Some w = sym out_before ∙ there in cc

  not_actual : (w : Out) → Among h.actual w → w.session ≡ session → ⊥
  not_actual w there same = let is = keeps.own_out n w there (own ∙ ap Some (sym same)) in let no : None ≡ Some w = sym out_before ∙ is in cc

  -- the letters of the session have lower numbers
  lower : (d : ℕ) (l : WriteLetter) → Among (h.writes d) l → l.session ≡ session → l.sequence < next_number c.sequence
  lower d l there same = elim (keeps.numbered d l there).case [
    | inl old ↦ absurd (let less = subst (λ (k : ℕ). keeps.boot_of k < past.told.boots (Node (keeps.node_of k))) same old in let boot = (keeps.owned n session own).1 in
        let node = ap (λ (k : ℕ). past.told.boots (Node k)) (keeps.owned n session own).0 in omega (arith, less, boot, node))
    | inr le ↦ (let at = ap (λ (k : ℕ). (parts.nodes (keeps.node_of k)).sequence) same ∙ ap (λ (k : ℕ). (parts.nodes k).sequence) (keeps.owned n session own).0 in omega (arith, le, at, next_is))
  ]

  lower_last : (d : ℕ) (b : Bool) → last_in (parts.members (member_at d b)).lasts session < next_number c.sequence
  lower_last d b = elim (keeps.lasts d b session) [
    | inl zero_is ↦ omega (arith, zero_is, next_is)
    | inr one ↦ (let less = lower d one.0 one.1 one.2 in let e = one.3 in omega (arith, less, e))
  ]

  -- ---- a letter of another kind was there before

  was_there : (letter : Letter) → Contains (past.told.letters ++ letters) letter → 18 < letter.kind → Contains past.told.letters letter
  was_there letter there high = elim (Contains-append_cases past.told.letters letters letter there) [
    | inl old ↦ old
    | inr new ↦ absurd (let low = low_kinds [] c.rows c.node s letter new in omega (arith, low, high))
  ]

  was_reading : (m : ℕ) (r : ReadBody) → IsReading (past.told.letters ++ letters) m r → IsReading past.told.letters m r
  was_reading m r read = record { letter = read.letter; there = was_there read.letter read.there (let e = read.spells.kind_is in omega (arith, e)); spells = read.spells; from = read.from }

  -- ---- a device

  module _ (d : ℕ) (within : d < parts.made.devices) where
    was : IsDeviceSound parts x past h d
    was = keeps.devices d within

    sends_or : (k : DeviceRow) → slice_get c.rows d ≡ Some k → (other : Out) (r : DeviceRow) → Sends (outs_of nodes_next) (knows_of nodes_next d) (IsClaimed (last past.told.chain) past.told.greatest) other r
        → Sends (outs_of parts.nodes) (knows_of parts.nodes d) (IsClaimed (last past.told.chain) past.told.greatest) other r ⊎ ((other ≡ o) × (r ≡ k))
    sends_or k there other r sends = elim (same_or sends.node n) [
      | inl e ↦ inr (
        (let both : Some other ≡ Some o = sym sends.out ∙ ap (λ (m : ℕ). outs_of nodes_next m) e ∙ out_now in cc),
        (let known : Some r ≡ Some k = sym sends.knows_it ∙ ap (λ (q : Streaming). slice_get q.rows d) (at_it sends.node e) ∙ there in cc),
      )
      | inr e ↦ inl (record {
        node = sends.node;
        out = sym (ap (λ (q : Streaming). out_by q.out) (at_other sends.node e)) ∙ sends.out;
        knows_it = sym (ap (λ (q : Streaming). slice_get q.rows d) (at_other sends.node e)) ∙ sends.knows_it;
        lives = sends.lives;
      })
    ]

    apart : (other : Out) (r : DeviceRow) → Sends (outs_of parts.nodes) (knows_of parts.nodes d) (IsClaimed (last past.told.chain) past.told.greatest) other r → other.session ≢ session
    apart other r sends same = no_out sends.node other sends.out same

    range : (y : ℕ) (content : List ℕ) → WritesIn runs.1 d y content → (1 ≤ y) × (y < store_room parts.made)
    range y content brings =
        let run = are.each brings.0 brings.1 in
        let label = run.behind_label in let within_it = run.within in let from = brings.2.from in let below = brings.2.below in
        (omega (arith, label, from), omega (arith, within_it, below))

    alone : (w : Out) (y : ℕ) (content other : List ℕ) → Among h.actual w → WritesIn w.runs d y other → WritesIn runs.1 d y content → IsLate past.told.greatest w.until
    alone w y content other there theirs its = elim (may.each (sent_of w) d y content other (keeps.actual_sent w there) theirs its) [
      | inl same ↦ absurd (not_actual w there same)
      | inr over ↦ over.0
    ]

    clear : (q : Out) (r : DeviceRow) (y : ℕ) (content other : List ℕ) → Sends (outs_of parts.nodes) (knows_of parts.nodes d) (IsClaimed (last past.told.chain) past.told.greatest) q r → WritesIn runs.1 d y other → WritesIn q.runs d y content → ⊥
    clear q r y content other sends its theirs = elim (may.each (sent_of q) d y other content (keeps.actual_sent q (keeps.out_actual sends.node q sends.out).0) theirs its) [
      | inl same ↦ apart q r sends same
      | inr over ↦ elim sends.lives [
        | inl lives ↦ over.1 lives
        | inr in_time ↦ in_time over.0
      ]
    ]

    -- the row that the node knows
    known_row : (k : DeviceRow) → slice_get c.rows d ≡ Some k → IsRow (last_row past.told.chain d) (rows_before past.told.chain d) k
    known_row k there =
        let state = keeps.node_known n session own in
        let is : slice_get state.0.devices d ≡ Some k = ap (λ (rs : List DeviceRow). slice_get rs d) (sym state.3) ∙ there in
        subst (IsRow (last_row past.told.chain d) (rows_before past.told.chain d)) (ap row_or is) (keeps.placed state.0 state.1 d)

    coming : (l : WriteLetter) → IsComing (past.told.letters ++ letters) d l → Among (h_next.writes d) l
    coming l comes = elim (coming_more [] c.rows c.node s fits few epochs past.told.letters d l comes) [
      | inl old ↦ older_told (has_runs d runs.1) (slice_get c.rows d) o (runs_on d runs.1) (h.writes d) l (was.coming l old)
      | inr new ↦ subst (λ (b : Bool). Among (told_if b (slice_get c.rows d) o (runs_on d runs.1) (h.writes d)) l) (sym (there_runs d runs.1 new.runs))
          (subst (λ (r : Option DeviceRow). Among (told_in r o (runs_on d runs.1) (h.writes d)) l) (sym new.there) (by_member l.at new.row new.is))
    ]
      where
        by_member : (b : Bool) (row : DeviceRow) → l ≡ letter_of s d row b → Among (told_both o row (runs_on d runs.1) (h.writes d)) l
        by_member true row is = record { is = inl is }
        by_member false row is = record { is = inr (inl is) }

    by_row : (k : DeviceRow) → slice_get c.rows d ≡ Some k → IsDeviceSound (with_stream parts n (sending (Some session) runs until c)) x (with_sent past sent letters) h_next d
    by_row k there = record {
      rows = was.rows;
      hands = was.hands;
      copies = was.copies;
      writes = by_writes (has_runs d runs.1);
      wrotes = by_wrotes (has_runs d runs.1);
      outs = by_outs (has_runs d runs.1);
      coming = coming;
      answering = λ w a. was.answering w (record { letter = a.letter; there = was_there a.letter a.there (let e = a.spells.kind_is in omega (arith, e)); wrote = a.wrote; spells = a.spells; from = a.from; device = a.device; session = a.session; epoch_is = a.epoch_is; sequence = a.sequence });
      copying = λ l a. was.copying l (record { letter = a.letter; there = was_there a.letter a.there (let e = a.spells.kind_is in omega (arith, e)); copy = a.copy; spells = a.spells; from = a.from; device = a.device; epoch_is = a.epoch_is; place = a.place; bytes = a.bytes });
      copied_to = λ g a. was.copied_to g (record { letter = a.letter; there = was_there a.letter a.there (let e = a.spells.kind_is in omega (arith, e)); copied = a.copied; spells = a.spells; from = a.from; device = a.device; epoch_is = a.epoch_is; place = a.place });
      labels = was.labels;
      down = was.down;
      known = was.known;
    }
      where
        room : ℕ
        room = store_room parts.made

        last_ : DeviceRow
        last_ = last_row past.told.chain d

        older_ : List DeviceRow
        older_ = rows_before past.told.chain d

        handed : List Handing
        handed = handings d past.told.handed

        sides : Bool → Side
        sides = side_of past.told x parts.members d

        live : Out → Type 0
        live = IsClaimed (last past.told.chain) past.told.greatest

        begins : 1 ≤ next_number c.sequence
        begins = omega (arith, next_is)

        by_writes : (b : Bool) → AreWrites d past.told.greatest last_ older_ sides (told_if b (slice_get c.rows d) o (runs_on d runs.1) (h.writes d)) (h.wrotes d) (o ∷ h.actual) (outs_of nodes_next) (knows_of nodes_next d) live
        by_writes true = subst (λ (r : Option DeviceRow). AreWrites d past.told.greatest last_ older_ sides (told_in r o (runs_on d runs.1) (h.writes d)) (h.wrotes d) (o ∷ h.actual) (outs_of nodes_next) (knows_of nodes_next d) live) (sym there)
            (sent_writes d room past.told.greatest last_ older_ handed sides (h.source d) was.rows was.hands (h.writes d) (h.wrotes d) h.actual (outs_of parts.nodes) (outs_of nodes_next) (knows_of parts.nodes d) (knows_of nodes_next d) live was.wrotes was.writes was.outs o k (known_row k there) (sends_or k there) apart begins range (λ y content other. are.once d y content other) alone clear (lower d) (lower_last d) (runs_on d runs.1) (on_its d runs.1) (on_whole d runs.1))
        by_writes false = base_writes d room past.told.greatest last_ older_ handed sides (h.source d) was.rows was.hands (h.writes d) (h.wrotes d) h.actual (outs_of parts.nodes) (outs_of nodes_next) (knows_of parts.nodes d) (knows_of nodes_next d) live was.wrotes was.writes was.outs o k (known_row k there) (sends_or k there) apart begins range (λ y content other. are.once d y content other) alone clear (lower d) (lower_last d)

        by_wrotes : (b : Bool) → AreWrotes last_ older_ sides (told_if b (slice_get c.rows d) o (runs_on d runs.1) (h.writes d)) (h.wrotes d)
        by_wrotes true = subst (λ (r : Option DeviceRow). AreWrotes last_ older_ sides (told_in r o (runs_on d runs.1) (h.writes d)) (h.wrotes d)) (sym there)
            (sent_wrotes d room past.told.greatest last_ older_ handed sides (h.source d) was.rows was.hands (h.writes d) (h.wrotes d) h.actual (outs_of parts.nodes) (outs_of nodes_next) (knows_of parts.nodes d) (knows_of nodes_next d) live was.wrotes was.writes was.outs o k (known_row k there) (sends_or k there) apart begins range (λ y content other. are.once d y content other) alone clear (lower d) (lower_last d) (runs_on d runs.1) (on_its d runs.1) (on_whole d runs.1))
        by_wrotes false = was.wrotes

        by_outs : (b : Bool) → AreOuts d room past.told.greatest last_ older_ handed sides (told_if b (slice_get c.rows d) o (runs_on d runs.1) (h.writes d)) (h.wrotes d) (o ∷ h.actual) (outs_of nodes_next) (knows_of nodes_next d) live
        by_outs true = subst (λ (r : Option DeviceRow). AreOuts d room past.told.greatest last_ older_ handed sides (told_in r o (runs_on d runs.1) (h.writes d)) (h.wrotes d) (o ∷ h.actual) (outs_of nodes_next) (knows_of nodes_next d) live) (sym there)
            (sent_outs d room past.told.greatest last_ older_ handed sides (h.source d) was.rows was.hands (h.writes d) (h.wrotes d) h.actual (outs_of parts.nodes) (outs_of nodes_next) (knows_of parts.nodes d) (knows_of nodes_next d) live was.wrotes was.writes was.outs o k (known_row k there) (sends_or k there) apart begins range (λ y content other. are.once d y content other) alone clear (lower d) (lower_last d) (runs_on d runs.1) (on_its d runs.1) (on_whole d runs.1))
        by_outs false = base_outs d room past.told.greatest last_ older_ handed sides (h.source d) was.rows was.hands (h.writes d) (h.wrotes d) h.actual (outs_of parts.nodes) (outs_of nodes_next) (knows_of parts.nodes d) (knows_of nodes_next d) live was.wrotes was.writes was.outs o k (known_row k there) (sends_or k there) apart begins range (λ y content other. are.once d y content other) alone clear (lower d) (lower_last d)

    sound : IsDeviceSound (with_stream parts n (sending (Some session) runs until c)) x (with_sent past sent letters) h_next d
    sound = elim (slice_get_cases c.rows d).1 [
      | inl k ↦ by_row k.0 k.2
      | inr far ↦ absurd (let state = keeps.node_known n session own in let count = keeps.count state.0 state.1 in let long = ap length state.3 in let past_it = far.0 in omega (arith, past_it, count, long, within))
    ]

  -- ---- all of it

  pub write_sent : Keeps (with_stream parts n (sending (Some session) runs until c)) x (with_sent past sent letters)
  write_sent = record {
    history = h_next;
    devices = λ d within. sound d within;
    count = keeps.count;
    rising = keeps.rising;
    highest = keeps.highest;
    placed = keeps.placed;
    actual_sent = λ w there. elim there.is [
      | inl new ↦ subst (λ (v : Out). Contains (sent ∷ past.writes) (sent_of v)) (sym new) (front sent past.writes)
      | inr old ↦ behind sent past.writes (sent_of w) (keeps.actual_sent w (record { is = old }))
    ];
    out_actual = λ m w is. elim (same_or m n) [
      | inl e ↦ (let both : Some w ≡ Some o = sym is ∙ ap (λ (k : ℕ). outs_of nodes_next k) e ∙ out_now in let same : w ≡ o = cc in
          (record { is = inl same }, kept (λ q. q.session) refl m ∙ ap (λ (k : ℕ). (parts.nodes k).session) e ∙ own ∙ ap (λ (v : Out). Some v.session) (sym same)))
      | inr e ↦ (let old = keeps.out_actual m w (sym (ap (λ (q : Streaming). out_by q.out) (at_other m e)) ∙ is) in (record { is = inr old.0.is }, kept (λ q. q.session) refl m ∙ old.1))
    ];
    out_number = λ m w is. elim (same_or m n) [
      | inl e ↦ (let both : Some w ≡ Some o = sym is ∙ ap (λ (k : ℕ). outs_of nodes_next k) e ∙ out_now in let same : w ≡ o = cc in
          let number = ap (λ (v : Out). v.sequence) same in let now = ap (λ (q : Streaming). q.sequence) (at_it m e) in omega (arith, number, now))
      | inr e ↦ (let le = keeps.out_number m w (sym (ap (λ (q : Streaming). out_by q.out) (at_other m e)) ∙ is) in let same = ap (λ (q : Streaming). q.sequence) (at_other m e) in omega (arith, le, same))
    ];
    actual_given = λ w there. elim there.is [
      | inl new ↦ (let given = (keeps.owned n session own).2 in let e = ap (λ (v : Out). v.session) new in omega (arith, given, e))
      | inr old ↦ keeps.actual_given w (record { is = old })
    ];
    holding = λ m t is. elim (same_or m n) [
      | inl e ↦ (let both : Some s ≡ Some t = sym (ap (λ (q : Streaming). q.out) (at_it m e)) ∙ is in let same : s ≡ t = cc in ap (λ (q : Streaming). q.session) (at_it m e) ∙ own ∙ ap (λ (q : Sending). Some q.session) same)
      | inr e ↦ ap (λ (q : Streaming). q.session) (at_other m e) ∙ keeps.holding m t (sym (ap (λ (q : Streaming). q.out) (at_other m e)) ∙ is)
    ];
    sendable = λ m t is. elim (same_or m n) [
      | inl e ↦ (let both : Some s ≡ Some t = sym (ap (λ (q : Streaming). q.out) (at_it m e)) ∙ is in let same : s ≡ t = cc in subst (IsSendable parts.made) same (record { packet = fits; runs = are }))
      | inr e ↦ keeps.sendable m t (sym (ap (λ (q : Streaming). q.out) (at_other m e)) ∙ is)
    ];
    askable = λ m a is. keeps.askable m a (sym (kept (λ q. q.asks) refl m) ∙ is);
    epochs = keeps.epochs;
    owing = keeps.owing;
    from_members = λ letter message there spells. elim (Contains-append_cases past.told.letters letters letter there) [
      | inl old ↦ keeps.from_members letter message old spells
      | inr new ↦ not_member message letter.from (let e = spells.kind_is in let k = low_kinds [] c.rows c.node s letter new in omega (arith, e, k))
    ];
    own_out = λ m w there is. elim there.is [
      | inl new ↦ (let it : (parts.nodes m).session ≡ Some session = sym (kept (λ q. q.session) refl m) ∙ is ∙ ap (λ (v : Out). Some v.session) new in
          ap (λ (k : ℕ). outs_of nodes_next k) (its_node m it) ∙ out_now ∙ ap Some (sym new))
      | inr old ↦ (let before = keeps.own_out m w (record { is = old }) (sym (kept (λ q. q.session) refl m) ∙ is) in
          elim (same_or m n) [
            | inl e ↦ absurd (let no : None ≡ Some w = sym out_before ∙ ap (λ (k : ℕ). outs_of parts.nodes k) (sym e) ∙ before in cc)
            | inr e ↦ ap (λ (q : Streaming). out_by q.out) (at_other m e) ∙ before
          ])
    ];
    lasts = λ d b session_of_it. elim (keeps.lasts d b session_of_it) [
      | inl zero_is ↦ inl zero_is
      | inr one ↦ inr (one.0, older_told (has_runs d runs.1) (slice_get c.rows d) o (runs_on d runs.1) (h.writes d) one.0 one.1, one.2, one.3)
    ];
    brings = λ d l there. brought d l (newer_told (has_runs d runs.1) (slice_get c.rows d) o (runs_on d runs.1) (h.writes d) l there);
    noted = λ m d epoch b t within is has. elim (same_or m n) [
      | inl e ↦ absurd (let both : Some s ≡ Some t = sym (ap (λ (q : Streaming). q.out) (at_it m e)) ∙ is in let same : s ≡ t = cc in nothing _ (subst (λ (v : Sending). Contains v.acks (record { member = member_at d b; epoch = epoch })) (sym same) has))
      | inr e ↦ keeps.noted m d epoch b t within (sym (ap (λ (q : Streaming). q.out) (at_other m e)) ∙ is) has
    ];
    asking = λ m a is. let old = keeps.asking m a (sym (kept (λ q. q.asks) refl m) ∙ is) in (kept (λ q. q.session) refl m ∙ old.0, (let same = kept (λ q. q.tag) refl m in let le = old.1 in omega (arith, same, le)));
    asked = λ m r a reading is same tag. keeps.asked m r a (was_reading m r reading) (sym (kept (λ q. q.asks) refl m) ∙ is) same tag;
    node_known = λ m t is. let old = keeps.node_known m t (sym (kept (λ q. q.session) refl m) ∙ is) in (old.0, old.1, old.2, kept (λ q. q.rows) refl m ∙ old.3, old.4);
    node_of = keeps.node_of;
    boot_of = keeps.boot_of;
    sessions = keeps.sessions;
    booted = keeps.booted;
    owned = λ m t is. keeps.owned m t (sym (kept (λ q. q.session) refl m) ∙ is);
    single = keeps.single;
    found_most = keeps.found_most;
    in_order = keeps.in_order;
    left = λ w there. elim there.is [
      | inl new ↦ subst (λ (v : Out). IsOwnOrLeft nodes_next past.told.chain past.told.knew past.told.boots past.told.down (keeps.node_of v.session) (keeps.boot_of v.session) v.session) (sym new)
          (let of = keeps.owned n session own in let at = ap (λ (k : ℕ). past.told.boots (Node k)) of.0 in let boot = of.1 in record {
            boot_most = omega (arith, at, boot);
            case = inr (inr (inl (kept (λ q. q.session) refl (keeps.node_of session) ∙ ap (λ (k : ℕ). (parts.nodes k).session) of.0 ∙ own)));
          })
      | inr old ↦ same_left parts.nodes nodes_next past.told.chain past.told.knew past.told.boots past.told.down (keeps.node_of w.session) (keeps.boot_of w.session) w.session (kept (λ q. q.session) refl (keeps.node_of w.session)) (keeps.left w (record { is = old }))
    ];
    numbered = λ d l there. numbered d l (newer_told (has_runs d runs.1) (slice_get c.rows d) o (runs_on d runs.1) (h.writes d) l there);
    tagged = λ m d t epoch tag bytes data_. drawn_same _ _ _ _ _ _ _ (kept (λ q. q.tag) refl m)
        (keeps.tagged m d t epoch tag bytes (record { letter = data_.letter; there = was_there data_.letter data_.there (let e = data_.spells.kind_is in omega (arith, e)); data_ = data_.data_; spells = data_.spells; to = data_.to; device = data_.device; session_is = data_.session_is; epoch_is = data_.epoch_is; tag_is = data_.tag_is; bytes_are = data_.bytes_are }));
    read_tagged = λ m r read. drawn_same _ _ _ _ _ _ _ (kept (λ q. q.tag) refl m) (keeps.read_tagged m r (was_reading m r read));
    member_boots = keeps.member_boots;
    node_boots = λ m there up. kept (λ q. q.boot) refl m ∙ keeps.node_boots m there up;
  }
    where
      its_run : (d : ℕ) (l : WriteLetter) → l.runs ≡ runs_on d runs.1 → (z : ℕ) (one : List ℕ) → WritesIn l.runs d z one → WritesIn runs.1 d z one
      its_run d l e z one its = on_its d runs.1 z one (subst (λ (rs : List Run). WritesIn rs d z one) e its)

      -- a run on a device brings its first sector there
      brought : (d : ℕ) (l : WriteLetter) → Among (h.writes d) l ⊎ IsNewer (has_runs d runs.1) o (runs_on d runs.1) l → BringsOnce d l.runs
      brought d l (inl old) = keeps.brings d l old
      brought d l (inr new) =
          let has = runs_there d runs.1 new.has in
          let run = are.each has.0 has.1 in
          let sectors = run.some in
          let y = has.0.place in
          let content = sector_of has.0.bytes (y - y) in
          let first : WritesIn runs.1 d y content = (has.0, has.1, record { on = has.2; from = omega arith; below = omega (arith, sectors); is = refl }) in
          record {
            some = (y, (content, subst (λ (rs : List Run). WritesIn rs d y content) (sym new.brings) (on_whole d runs.1 y content first)));
            once = λ z one other its also. are.once d z one other (its_run d l new.brings z one its) (its_run d l new.brings z other also);
          }

      rises : (m : ℕ) → (parts.nodes m).sequence ≤ (nodes_next m).sequence
      rises m = elim (same_or m n) [
        | inl e ↦ (let now = ap (λ (q : Streaming). q.sequence) (at_it m e) in let before = ap (λ (k : ℕ). (parts.nodes k).sequence) e in omega (arith, now, before))
        | inr e ↦ (let same = ap (λ (q : Streaming). q.sequence) (at_other m e) in omega (arith, same))
      ]

      numbered : (d : ℕ) (l : WriteLetter) → Among (h.writes d) l ⊎ IsNewer (has_runs d runs.1) o (runs_on d runs.1) l
          → IsDrawn (last past.told.chain).next_session (keeps.boot_of l.session) (past.told.boots (Node (keeps.node_of l.session))) l.session l.sequence (nodes_next (keeps.node_of l.session)).sequence
      numbered d l (inl old) = drawn_more _ _ _ _ _ _ _ (rises (keeps.node_of l.session)) (keeps.numbered d l old)
      numbered d l (inr new) =
          subst (λ (t : ℕ). IsDrawn (last past.told.chain).next_session (keeps.boot_of t) (past.told.boots (Node (keeps.node_of t))) t l.sequence (nodes_next (keeps.node_of t)).sequence) (sym new.session)
          (subst (λ (k : ℕ). IsDrawn (last past.told.chain).next_session (keeps.boot_of session) (past.told.boots (Node k)) session l.sequence (nodes_next k).sequence) (sym (keeps.owned n session own).0)
          (drawn_own parts x past keeps n session l.sequence (nodes_next n).sequence own (let it = new.sequence in omega (arith, it, next_is)) (let at = ap (λ (q : Streaming). q.sequence) (at_it n refl) in let it = new.sequence in omega (arith, at, it))))

  -- ---- what stands goes on

  stands_for : (From : DeviceRow → Type 0) (d sector : ℕ) (content : List ℕ) → StandsFor From parts x past d sector content → StandsFor From (with_stream parts n (sending (Some session) runs until c)) x (with_sent past sent letters) d sector content
  stands_for From d sector content stands = stands_send d past.told.greatest From (last_row past.told.chain d) (rows_before past.told.chain d) (handings d past.told.handed) (side_of past.told x parts.members d)
      (IsComing past.told.letters d) (IsComing (past.told.letters ++ letters) d) past.writes (sent ∷ past.writes) sector content
      (λ l other comes brings. elim (coming_more [] c.rows c.node s fits few epochs past.told.letters d l comes) [
        | inl old ↦ inl old
        | inr new ↦ inr (record {
          write = sent;
          there = front sent past.writes;
          until = sym (ap (λ (m : WriteLetter). m.until) new.is);
          brings = on_its d runs.1 sector other (subst (λ (m : WriteLetter). WritesIn m.runs d sector other) new.is brings);
        })
      ])
      (λ w there. behind sent past.writes w there) stands

  pub settled_sent : (d sector : ℕ) (content : List ℕ) → IsSettledOn parts x past d sector content → IsSettledOn (with_stream parts n (sending (Some session) runs until c)) x (with_sent past sent letters) d sector content
  settled_sent d sector content settled = record { device = settled.device; behind_label = settled.behind_label; within = settled.within; is = stands_for Nowhere d sector content settled.is }

  pub stands_sent : (d sector : ℕ) (content : List ℕ) (index : ℕ) → StandsOn parts x past d sector content index → StandsOn (with_stream parts n (sending (Some session) runs until c)) x (with_sent past sent letters) d sector content index
  stands_sent d sector content index stands = record { settled = settled_sent d sector content stands.settled; stands = stands_for (KnownFrom past.told.chain d index) d sector content stands.stands }

  pub reads_sent : (m : ℕ) (a : Asking) (sector : ℕ) (content : List ℕ) → WillReadOn parts x past m a sector content → WillReadOn (with_stream parts n (sending (Some session) runs until c)) x (with_sent past sent letters) m a sector content
  reads_sent m a sector content reads = record {
    device = reads.device;
    behind_label = reads.behind_label;
    within = reads.within;
    row = reads.row;
    row_is = ap (λ (rs : List DeviceRow). slice_get rs a.device) (kept (λ q. q.rows) refl m) ∙ reads.row_is;
    stands = stands_for (FromEpoch reads.row.epoch) a.device sector content reads.stands;
    coming = λ epoch bytes data_ from low high. reads.coming epoch bytes (record { letter = data_.letter; there = was_there data_.letter data_.there (let e = data_.spells.kind_is in omega (arith, e)); data_ = data_.data_; spells = data_.spells; to = data_.to; device = data_.device; session_is = data_.session_is; epoch_is = data_.epoch_is; tag_is = data_.tag_is; bytes_are = data_.bytes_are }) from low high;
    came = reads.came;
  }

-- ---- as a law

module _ (parts : Parts) (x : Disks) (past : StorePast) (keeps : Keeps parts x past) (n session until : ℕ) (runs : KindAndRuns) (may : MaySend parts past n session until runs) where
  abbrev out : Option Sending
  out = Some (write_by (parts.nodes n) session until runs)

  letters_are_those : letters_from [] (parts.nodes n).node (write_by (parts.nodes n) session until runs) 0 (parts.nodes n).rows ≡ write_letters [] (parts.nodes n).node out (parts.nodes n).rows
  letters_are_those = sym (ap (λ (t : Bool). if t then [] else letters_from [] (parts.nodes n).node (write_by (parts.nodes n) session until runs) 0 (parts.nodes n).rows) may.left)

  abbrev past_by : List Letter → StorePast
  past_by letters = with_sent past (record { session = session; until = until; runs = runs.1 }) letters

  pub law_keeps : Keeps (parts_sent parts n session until runs) x (past_sent parts past n session until runs)
  law_keeps = subst (λ (ls : List Letter). Keeps (parts_sent parts n session until runs) x (past_by ls)) letters_are_those
      (write_sent parts x past keeps n session until runs may.own may.none may.runs_are may.may may.left may.fits may.few may.epochs)

  pub law_settles : (d sector : ℕ) (content : List ℕ) → IsSettledOn parts x past d sector content → IsSettledOn (parts_sent parts n session until runs) x (past_sent parts past n session until runs) d sector content
  law_settles d sector content settled = subst (λ (ls : List Letter). IsSettledOn (parts_sent parts n session until runs) x (past_by ls) d sector content) letters_are_those
      (settled_sent parts x past keeps n session until runs may.own may.none may.runs_are may.may may.left may.fits may.few may.epochs d sector content settled)

  pub law_stands : (d sector : ℕ) (content : List ℕ) (index : ℕ) → StandsOn parts x past d sector content index → StandsOn (parts_sent parts n session until runs) x (past_sent parts past n session until runs) d sector content index
  law_stands d sector content index stands = subst (λ (ls : List Letter). StandsOn (parts_sent parts n session until runs) x (past_by ls) d sector content index) letters_are_those
      (stands_sent parts x past keeps n session until runs may.own may.none may.runs_are may.may may.left may.fits may.few may.epochs d sector content index stands)

  pub law_reads : (m : ℕ) (a : Asking) (sector : ℕ) (content : List ℕ) → WillReadOn parts x past m a sector content → WillReadOn (parts_sent parts n session until runs) x (past_sent parts past n session until runs) m a sector content
  law_reads m a sector content reads = subst (λ (ls : List Letter). WillReadOn (parts_sent parts n session until runs) x (past_by ls) m a sector content) letters_are_those
      (reads_sent parts x past keeps n session until runs may.own may.none may.runs_are may.may may.left may.fits may.few may.epochs m a sector content reads)
