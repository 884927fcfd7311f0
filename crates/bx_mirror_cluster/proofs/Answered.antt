-- An answer more to a write that was taken before: what is out stays as it was.
use Rattle.std.proofs.Common.{◌≡◌, inl, inr, ℕ, ◌≤◌, Bool, List, Option, refl, sym, ◌∙◌, ap, subst, arith}
use Rattle.bx_facts.specs.Writes.{Sent}
use Rattle.bx_rows.specs.declared.device.DeviceRow.{DeviceRow}
use Rattle.bx_mirror_laws.specs.Acting.{Acts, Been, Counts, FromEpoch, IsRow, MayAct, Moved}
use Rattle.bx_mirror_laws.specs.Sides.{Among, Copied, CopyLetter, Handing, Out, Side, WriteLetter, Wrote}
use Rattle.bx_mirror_laws.specs.Sound.{AreCopies, AreHanded, AreOuts, AreRows, AreWrites, HasAcked, HasTaken, IsAnswer, IsWrote, NeverAll, Sends, DeviceStands, wrote_of}
use Rattle.bx_mirror_laws.specs.Steps.{Ages, answer_to}
use Rattle.bx_mirror_laws.proofs.Ages.{copies_age, hands_age, rows_age}
use Rattle.bx_mirror_laws.proofs.Memory.{acts_been}

-- members that owe these answers, and are as they were else
abbrev pub owing_sides : (Bool → Side) → (Bool → List Wrote) → Bool → Side
owing_sides sides ws c = record (sides c) { wrote = ws c }

module _ (device room greatest : ℕ) (last : DeviceRow) (older : List DeviceRow) (handed : List Handing) (sides : Bool → Side) (source : ℕ → ℕ → List ℕ) (rows : AreRows room last older sides source)
    (writes : List WriteLetter) (wrotes wrotes_next : List Wrote) (actual : List Out) (outs : ℕ → Option Out) (knows : ℕ → Option DeviceRow) (live : Out → Type 0) (ws : Bool → List Wrote) where
  abbrev next : Bool → Side
  next = owing_sides sides ws

  been_on : (c : Bool) (r : DeviceRow) → Been c (sides c) r → Been c (next c) r
  been_on c r h = record { is = h.is }

  moved_on : (c : Bool) (r : DeviceRow) → Moved c (sides c) r → Moved c (next c) r
  moved_on c r h = record { is = h.is }

  may_back : (c : Bool) (r : DeviceRow) → MayAct c (next c) r → MayAct c (sides c) r
  may_back c r h = record { up = h.up; named = h.named; knows = h.knows }

  acts_back : (c : Bool) (r : DeviceRow) → Acts c (next c) r → Acts c (sides c) r
  acts_back c r h = record { up = h.up; named = h.named; knows = h.knows }

  counts_back : (From : DeviceRow → Type 0) (c : Bool) → Counts From last older handed c (next c) → Counts From last older handed c (sides c)
  counts_back From c counts = elim counts.is [
    | inl leads ↦ record { is = inl leads }
    | inr row ↦ record { is = inr (row.0, row.1, row.2, may_back c row.0 row.3, row.4) }
  ]

  pub owing_ages : Ages room last older sides next source source
  owing_ages = record {
    been = λ c r is h. been_on c r h;
    moved = λ c r is h. moved_on c r h;
    may = λ c r is h. may_back c r h;
    boot = λ c. omega arith;
    known = λ c r e. rows.known c r e;
    targets = λ c r s is acts none low high reads. reads;
    filled = λ c s copying none been evidence low reads. (reads, λ sure. sure);
    sources = λ c r s is been leads. refl;
  }

  pub owing_rows : AreRows room last older next source
  owing_rows = rows_age room last older sides next source source rows owing_ages

  pub owing_hands : AreHanded room last older handed sides source → AreHanded room last older handed next source
  owing_hands all = hands_age room last older sides next source source rows owing_ages handed all

  pub owing_copies : (copies : List CopyLetter) (copieds : List Copied) → AreCopies room last older sides copies copieds source → AreCopies room last older next copies copieds source
  owing_copies copies copieds are = copies_age room last older sides next source source rows owing_ages copies copieds are (λ c g there. there) (λ c g there. are.owed_up c g there)
      (λ c r acts copying leads s low high. are.held c r (acts_back c r acts) copying leads s low high)
      (λ c r acts copying leads s low below. are.progress c r (acts_back c r acts) copying leads s low below)

  pub owing_stands : (From : DeviceRow → Type 0) (Comes : WriteLetter → Type 0) (past : List Sent) (s : ℕ) (content : List ℕ) → DeviceStands device greatest From last older handed sides Comes past s content → DeviceStands device greatest From last older handed next Comes past s content
  owing_stands From Comes past s content stands = record {
    reads = λ c counts. stands.reads c (counts_back From c counts);
    sure = stands.sure;
    coming = λ c r l other is from may leads comes at come brought. stands.coming c r l other is from (may_back c r may) leads comes at
        (record { row = come.row; row_is = come.row_is; epoch_is = come.epoch_is; acts = record { up = come.acts.up; named = come.acts.named; knows = come.acts.knows }; written = come.written; newer = come.newer }) brought;
  }

  module _ (took : (o : Out) (k : DeviceRow) → Sends outs knows live o k → (c : Bool) → HasTaken wrotes_next (next c) c o k → HasTaken wrotes (sides c) c o k)
      (acked : (o : Out) (k : DeviceRow) → Sends outs knows live o k → (c : Bool) → HasAcked wrotes_next c o k → HasAcked wrotes c o k)
      (more : (c : Bool) (o : Out) (k : DeviceRow) → HasTaken wrotes (sides c) c o k → HasTaken wrotes_next (next c) c o k) where
    never_on : (o : Out) (k : DeviceRow) → Sends outs knows live o k → NeverAll wrotes sides o k → NeverAll wrotes_next next o k
    never_on o k sends never = record { by = never.by; source = never.source; not_taken = λ t. never.not_taken (took o k sends never.by t); moved = moved_on never.by k never.moved }

    pub outs_answered : AreOuts device room greatest last older handed sides writes wrotes actual outs knows live → AreOuts device room greatest last older handed next writes wrotes_next actual outs knows live
    outs_answered all = record {
      each = λ o k sends. let out = all.each o k sends in record {
        row = out.row;
        begins = out.begins;
        range = out.range;
        alone = out.alone;
        once = out.once;
        newest = out.newest;
        its = out.its;
        whole = out.whole;
        sent = out.sent;
        lasts = λ c r a reached. more c o r (out.lasts c r (acts_back c r a) reached);
        goes = λ low never s content brings. let goes = out.goes low (λ (q : NeverAll wrotes sides o k). never (never_on o k sends q)) s content brings in record {
          taken = λ c has counts. goes.taken c (took o k sends c has) (counts_back (FromEpoch k.epoch) c counts);
          acked = λ c has counts. goes.acked c (acked o k sends c has) (counts_back (FromEpoch k.epoch) c counts);
          joined = λ c none counts. goes.joined c none (counts_back (FromEpoch k.epoch) c counts);
        };
      };
    }

    pub writes_answered : AreWrites device greatest last older sides writes wrotes actual outs knows live → AreWrites device greatest last older next writes wrotes_next actual outs knows live
    writes_answered are = record {
      each = λ l there. let was = are.each l there in record {
        row = was.row;
        row_is = was.row_is;
        epoch_is = was.epoch_is;
        case = elim was.case [
          | inl carries ↦ inl carries
          | inr rest ↦ inr (elim rest [
            | inl late ↦ inl late
            | inr two ↦ inr (elim two [
              | inl past ↦ inl (record {
                each = λ r is at. elim (past.each r is at) [
                  | inl moved ↦ inl (moved_on l.at r moved)
                  | inr other ↦ inr other
                ];
              })
              | inr left ↦ inr (record {
                row = left.row;
                is = left.is;
                later = left.later;
                no_source = left.no_source;
                been = λ c source. been_on c left.row (left.been c source);
                others = λ o r s content other sends row low less its brings. never_on o r sends (left.others o r s content other sends row low less its brings);
              })
            ])
          ])
        ];
      };
    }

-- ---- the answer is one to a write that is out, where the member took it

module _ (device room greatest : ℕ) (last : DeviceRow) (older : List DeviceRow) (handed : List Handing) (sides : Bool → Side) (source : ℕ → ℕ → List ℕ) (rows : AreRows room last older sides source)
    (writes : List WriteLetter) (wrotes : List Wrote) (actual : List Out) (outs : ℕ → Option Out) (knows : ℕ → Option DeviceRow) (live : Out → Type 0)
    (all : AreOuts device room greatest last older handed sides writes wrotes actual outs knows live)
    (l : WriteLetter) (there : Among writes l) (r : DeviceRow) (is_r : IsRow last older r) (at : r.epoch ≡ l.epoch) (acts : Acts l.at (sides l.at) r) (taken : l.sequence ≤ (sides l.at).lasts l.session) where
  -- whose answer it is has taken it
  pub taken_before : (o : Out) (k : DeviceRow) → Sends outs knows live o k → (c : Bool) → wrote_of c o k ≡ answer_to l → HasTaken wrotes (sides c) c o k
  taken_before o k sends c new =
      let out = all.each o k sends in
      let by : l.at ≡ c = sym (ap (λ (w : Wrote). w.by) new) in
      let session : l.session ≡ o.session = sym (ap (λ (w : Wrote). w.session) new) in
      let epoch : k.epoch ≡ l.epoch = ap (λ (w : Wrote). w.epoch) new in
      let sequence : l.sequence ≡ o.sequence = sym (ap (λ (w : Wrote). w.sequence) new) in
      let same : r ≡ k = rows.same r k is_r out.row (at ∙ sym epoch) in
      let a : Acts c (sides c) k = subst (λ (q : DeviceRow). Acts c (sides c) q) same (subst (λ (t : Bool). Acts t (sides t) r) by acts) in
      let reached : o.sequence ≤ (sides c).lasts o.session = subst (λ (n : ℕ). n ≤ (sides c).lasts o.session) sequence (subst (λ (s : ℕ). l.sequence ≤ (sides c).lasts s) session (subst (λ (t : Bool). l.sequence ≤ (sides t).lasts l.session) by taken)) in
      out.lasts c k a reached

  pub answer_wrote : (k : DeviceRow) → IsRow last older k → k.epoch ≡ l.epoch → IsWrote sides (answer_to l) k
  answer_wrote k is e = subst (λ (q : DeviceRow). IsWrote sides (answer_to l) q) (rows.same r k is_r is (at ∙ sym e)) (record {
    been = acts_been l.at (sides l.at) r acts;
    last = inr (acts.knows, taken);
  })

  pub answer_below : l.epoch ≤ last.epoch
  answer_below = let low = rows.below r is_r in omega (arith, low, at)

  pub answer_is : IsAnswer writes (answer_to l)
  answer_is = record { letter = l; there = there; session = refl; epoch_is = refl; sequence = refl }
