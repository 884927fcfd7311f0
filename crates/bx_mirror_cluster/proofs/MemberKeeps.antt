-- A disk fails while nothing is written: it reads as it did, and what was sure is; all goes on fitting, and what stands goes on.
use Rattle.std.proofs.Common.{◌≡◌, ◌≢◌, ◌⊎◌, inl, inr, ℕ, ◌<◌, ◌≤◌, Bool, true, false, List, Some, refl, sym, ◌∙◌, ap, subst, arith}
use Rattle.std.specs.Prelude.{not}
use Rattle.bx_base.specs.declared.names.Actor.TheVariants.{Member}
use Rattle.bx_disk.specs.Disks.{Disks, Stays}
use Rattle.bx_facts.specs.Chains.{last}
use Rattle.bx_facts.specs.Disks.{SameMemberLengths}
use Rattle.bx_facts.specs.Writes.{StorePast, member_disk, store_room}
use Rattle.bx_rows.specs.declared.device.DeviceRow.{DeviceRow}
use Rattle.bx_mirror_laws.specs.Acting.{Acts, Been, Counts, IsRow, MayAct, Moved}
use Rattle.bx_mirror_laws.specs.Sides.{Among, Handing, Out, Side}
use Rattle.bx_mirror_laws.specs.Sound.{HasTaken}
use Rattle.bx_mirror_laws.specs.Steps.{Ages, LastsGoOn}
use Rattle.bx_mirror_laws.proofs.Ages.{copies_age, hands_age, rows_age, writes_age, wrotes_age}
use Rattle.bx_mirror_laws.proofs.Still.{outs_still, stands_still}
use Rattle.bx_mirror_member.specs.Standing.{MemberView as Serving, disk_in}
use Rattle.bx_mirror_client.specs.Sends.{member_at}
use Rattle.bx_mirror_server.specs.Sides.{side_of as side_by}
use Rattle.bx_mirror_cluster.specs.Fitting.{History, IsClaimed, IsComing, IsDeviceSound, Keeps, Parts, StandsFor, handings, knows_of, last_row, outs_of, rows_before, side_of}
use Rattle.bx_mirror_cluster.specs.GoesFurther.{GoesFurther}
use Rattle.bx_mirror_cluster.specs.MemberSteps.{history_of, served, with_histories, with_member, with_serving}
use Rattle.bx_mirror_cluster.proofs.MemberMoves.{plain_goes}
use Rattle.bx_mirror_cluster.proofs.MemberOwn.{IsOwnStep, own_disk, own_down, own_known, own_labels, own_step, two}
use Rattle.bx_mirror_cluster.proofs.MemberSteps.{IsMemberStep}

module _ (parts : Parts) (x y : Disks) (past : StorePast) (keeps : Keeps parts x past) (d : ℕ) (b : Bool) (within : d < parts.made.devices) (up : past.told.down (Member (member_at d b)) ≡ false)
    (number : (parts.members (member_at d b)).number ≡ member_at d b) (disks : (k s : ℕ) → k ≢ member_disk d b → Stays x y k s) (lengths : SameMemberLengths x y)
    (reads : (s : ℕ) → y.reads (disk_in (parts.members (member_at d b))) s ≡ x.reads (disk_in (parts.members (member_at d b))) s) (sure : (s : ℕ) → x.unsure (disk_in (parts.members (member_at d b))) s ≡ false → y.unsure (disk_in (parts.members (member_at d b))) s ≡ false) where
  abbrev n : ℕ
  n = member_at d b

  abbrev was : Serving
  was = parts.members n

  abbrev h : History
  h = keeps.history

  abbrev sound : IsDeviceSound parts x past h d
  sound = keeps.devices d within

  abbrev sides : Bool → Side
  sides = side_of past.told x parts.members d

  abbrev room : ℕ
  room = store_room parts.made

  abbrev g : ℕ
  g = past.told.greatest

  abbrev last_ : DeviceRow
  last_ = last_row past.told.chain d

  abbrev older_ : List DeviceRow
  older_ = rows_before past.told.chain d

  abbrev handed : List Handing
  handed = handings d past.told.handed

  abbrev m : Serving
  m = was

  abbrev past_then : StorePast
  past_then = served past past.told.letters past.told.handed past.told.knew

  own : IsOwnStep parts x y past d b m past.told.letters past.told.handed past.told.knew
  own = own_step parts x y past keeps d b within up m past.told.letters past.told.handed past.told.knew number number refl disks

  abbrev next : Bool → Side
  next = side_of past_then.told y (with_member parts.members n m) d

  abbrev unsure_then : ℕ → Bool
  unsure_then = y.unsure (disk_in was)

  disk_is : side_by true was y ≡ record (side_by true was x) { unsure = unsure_then }
  disk_is = λ i. record (side_by true was x) { reads = λ s. (reads s) i; unsure = unsure_then }

  next_is : next b ≡ record (sides b) { unsure = unsure_then }
  next_is = own.next ∙ disk_is ∙ (λ i. record ((sym own.now) i) { unsure = unsure_then })

  -- what is unsure alone is other, and less
  each : (P : Side → Side → Type 0) → ((s : Side) (u : ℕ → Bool) → ((k : ℕ) → s.unsure k ≡ false → u k ≡ false) → P s (record s { unsure = u })) → (t : Bool) → P (sides t) (next t)
  each P its t = elim (two b t) [
    | inl e ↦ subst (λ (q : Bool). P (sides q) (next q)) (sym e) (subst (λ (s : Side). P (sides b) s) (sym next_is) (its (sides b) unsure_then (λ k was_sure. sure k (sym (ap (λ (s : Side). s.unsure k) own.now) ∙ was_sure))))
    | inr e ↦ subst (λ (q : Bool). P (sides q) (next q)) (sym e) (subst (λ (s : Side). P (sides (not b)) s) (sym own.other) (its (sides (not b)) (sides (not b)).unsure (λ k was_sure. was_sure)))
  ]

  ages : Ages room last_ older_ sides next (h.source d) (h.source d)
  ages = record {
    been = λ t r is. each (λ s q. Been t s r → Been t q r) (λ s k f z. record { is = z.is }) t;
    moved = λ t r is. each (λ s q. Moved t s r → Moved t q r) (λ s k f z. record { is = z.is }) t;
    may = λ t r is. each (λ s q. MayAct t q r → MayAct t s r) (λ s k f z. record { up = z.up; named = z.named; knows = z.knows }) t;
    boot = each (λ s q. s.boot ≤ q.boot) (λ s k f. omega arith);
    known = λ t r. each (λ s q. (s.row ≡ Some r → IsRow last_ older_ r) → q.row ≡ Some r → IsRow last_ older_ r) (λ s k f z. z) t (sound.rows.known t r);
    targets = λ t r s is a none low high was_it. each (λ z q. q.reads s ≡ z.reads s) (λ z k f. refl) t ∙ was_it;
    filled = λ t s copying none been evidence low reads. (each (λ z q. q.reads s ≡ z.reads s) (λ z k f. refl) t ∙ reads, each (λ z q. z.unsure s ≡ false → q.unsure s ≡ false) (λ z k f was_sure. f s was_sure) t);
    sources = λ t r s is been leads_it. refl;
  }

  took : (t : Bool) (o : Out) (k : DeviceRow) → HasTaken (h.wrotes d) (next t) t o k → HasTaken (h.wrotes d) (sides t) t o k
  took t o k = each (λ s q. HasTaken (h.wrotes d) q t o k → HasTaken (h.wrotes d) s t o k) (λ s j f z. record { is = z.is }) t

  gives : (t : Bool) (o : Out) (k : DeviceRow) → HasTaken (h.wrotes d) (sides t) t o k → HasTaken (h.wrotes d) (next t) t o k
  gives t o k = each (λ s q. HasTaken (h.wrotes d) s t o k → HasTaken (h.wrotes d) q t o k) (λ s j f z. record { is = z.is }) t

  lasts_on : LastsGoOn last_ older_ sides next
  lasts_on = record { each = λ t r session is e. inr (each (λ s q. s.row ≡ Some r → q.row ≡ Some r) (λ s k f z. z) t e, each (λ s q. s.lasts session ≤ q.lasts session) (λ s k f. omega arith) t) }

  stays : (From : DeviceRow → Type 0) (t : Bool) (s : ℕ) → 1 ≤ s → s < room → Counts From last_ older_ handed t (sides t) → ((sides t).up ≡ true) ⊎ ((sides t).unsure s ≡ false) → ((next t).reads s ≡ (sides t).reads s) × ((sides t).unsure s ≡ false → (next t).unsure s ≡ false)
  stays From t s low high counts evidence = (each (λ z q. q.reads s ≡ z.reads s) (λ z k f. refl) t, each (λ z q. z.unsure s ≡ false → q.unsure s ≡ false) (λ z k f was_sure. f s was_sure) t)

  kept_sound : IsDeviceSound (with_serving parts n m) y past_then (with_histories h (λ k. history_of h d)) d
  kept_sound = record {
    rows = rows_age room last_ older_ sides next (h.source d) (h.source d) sound.rows ages;
    hands = hands_age room last_ older_ sides next (h.source d) (h.source d) sound.rows ages handed sound.hands;
    copies = copies_age room last_ older_ sides next (h.source d) (h.source d) sound.rows ages (h.copies d) (h.copieds d) sound.copies
        (λ t g. each (λ s q. Among q.copied g → Among s.copied g) (λ s k f z. z) t)
        (λ t g there. each (λ s q. s.up ≡ true → q.up ≡ true) (λ s k f z. z) t (sound.copies.owed_up t g (each (λ s q. Among q.copied g → Among s.copied g) (λ s k f z. z) t there)))
        (λ t r act copying leads s low high. each (λ z q. q.reads s ≡ z.reads s) (λ z k f. refl) t ∙ sound.copies.held t r (each (λ z q. Acts t q r → Acts t z r) (λ z k f a. record { up = a.up; named = a.named; knows = a.knows }) t act) copying leads s low high)
        (λ t r act copying leads s low below. sound.copies.progress t r (each (λ z q. Acts t q r → Acts t z r) (λ z k f a. record { up = a.up; named = a.named; knows = a.knows }) t act) copying leads s low
        (each (λ z q. s < q.place → s < z.place) (λ z k f a. a) t below));
    writes = writes_age room last_ older_ sides next (h.source d) (h.source d) sound.rows ages (h.wrotes d) (h.wrotes d) (record { each = λ t o k is moved has. took t o k has }) d g g (h.writes d) h.actual (outs_of parts.nodes) (knows_of parts.nodes d) (IsClaimed (last past.told.chain) g) (omega arith) lasts_on sound.writes;
    wrotes = wrotes_age room last_ older_ sides next (h.source d) (h.source d) sound.rows ages (h.writes d) (h.wrotes d) lasts_on
        (λ t w. each (λ s q. Among q.wrote w → Among s.wrote w) (λ s k f z. z) t)
        (λ t w there. each (λ s q. s.up ≡ true → q.up ≡ true) (λ s k f z. z) t (sound.wrotes.owed_up t w (each (λ s q. Among q.wrote w → Among s.wrote w) (λ s k f z. z) t there))) sound.wrotes;
    outs = outs_still d room g g last_ older_ handed sides next (h.source d) (h.source d) sound.rows ages (omega arith) stays (h.writes d) (h.wrotes d) (h.wrotes d) h.actual (outs_of parts.nodes) (outs_of parts.nodes) (knows_of parts.nodes d) (knows_of parts.nodes d)
        (IsClaimed (last past.told.chain) g) (IsClaimed (last past.told.chain) g) (λ o k sends. sends) (record { each = λ t o k is moved has. took t o k has }) sound.wrotes.owed_up took (λ t o k has. inl has)
        (λ o k t r out act reached. gives t o r (out.lasts t r (each (λ s q. Acts t q r → Acts t s r) (λ s j f z. record { up = z.up; named = z.named; knows = z.knows }) t act) (each (λ s q. o.sequence ≤ q.lasts o.session → o.sequence ≤ s.lasts o.session) (λ s j f z. z) t reached))) sound.outs;
    coming = sound.coming;
    answering = sound.answering;
    copying = sound.copying;
    copied_to = sound.copied_to;
    labels = own_labels parts x y past keeps d b within up m past.told.letters past.told.handed past.told.knew number number refl disks (h.copieds d) lengths
        (subst (λ (disk : ℕ). y.reads disk 0 ≡ x.reads disk 0) (own_disk was d b number) (reads 0)) (subst (λ (disk : ℕ). x.unsure disk 0 ≡ false → y.unsure disk 0 ≡ false) (own_disk was d b number) (sure 0)) (λ t needs. needs);
    down = own_down parts x y past keeps d b within up m past.told.letters past.told.handed past.told.knew number number refl disks;
    known = own_known parts x y past keeps d b within up m past.told.letters past.told.handed past.told.knew number number refl disks (λ who apart. refl) (λ r is. sound.known b r is);
  }

  pub kept_step : IsMemberStep parts x y past h d b m past.told.letters past.told.handed past.told.knew (history_of h d)
  kept_step = record {
    sound = λ inside. kept_sound;
    boot = refl;
    disks = disks;
    lengths = lengths;
    sent = λ q there. inl there;
    handed_other = λ k apart. refl;
    knew_other = λ who apart. refl;
    owing = λ o there. keeps.owing n o there;
    spoken = λ l message its spells. inl its;
    lasts = λ session. keeps.lasts d b session;
    wrotes = λ w there. there;
  }

  kept_stands : (From : DeviceRow → Type 0) (sector : ℕ) (content : List ℕ) → 1 ≤ sector → sector < store_room parts.made → StandsFor From parts x past d sector content → StandsFor From (with_serving parts n m) y past_then d sector content
  kept_stands From sector content low high stands =
      stands_still d room g g last_ older_ handed sides next (h.source d) (h.source d) sound.rows ages (omega arith) stays From (IsComing past.told.letters d) past.writes sector content low high
      (λ t q at come. record {
        row = come.row;
        row_is = come.row_is;
        epoch_is = come.epoch_is;
        acts = each (λ s z. MayAct q.at z come.row → MayAct q.at s come.row) (λ s k f z. record { up = z.up; named = z.named; knows = z.knows }) t come.acts;
        written = come.written;
        newer = λ e. each (λ s z. (z.row ≡ Some come.row → z.lasts q.session < q.sequence) → s.row ≡ Some come.row → s.lasts q.session < q.sequence) (λ s k f z. z) t come.newer e;
      }) stands

  pub kept_goes : GoesFurther parts (with_serving parts n m) x y past past
  kept_goes = plain_goes parts x y past keeps d b m past.told.letters past.told.handed past.told.knew (history_of h d) kept_step (λ k e session epoch tag bytes a. a) (λ From sector content low high only stands. kept_stands From sector content low high stands)
