-- A disk fails while its member takes a write: some of its runs may stand there, and the member is as it was; all goes on fitting, and what stands goes
-- on where nothing else is written.
use Rattle.std.proofs.Common.{◌≡◌, ◌≢◌, inl, inr, ℕ, ◌<◌, Bool, true, false, List, Some, refl, sym, ◌∙◌, subst, arith}
use Rattle.std.specs.Prelude.{not}
use Rattle.bx_base.specs.declared.names.Actor.{Actor}
use Rattle.bx_base.specs.declared.names.Actor.TheVariants.{Member}
use Rattle.bx_disk.specs.Disks.{Disks, Stays}
use Rattle.bx_facts.specs.Chains.{last}
use Rattle.bx_facts.specs.Disks.{SameMemberLengths}
use Rattle.bx_facts.specs.Writes.{IsOnly, StorePast, WritesIn, member_disk, store_room}
use Rattle.bx_rows.specs.declared.device.DeviceRow.{DeviceRow}
use Rattle.bx_mirror_laws.specs.Acting.{IsRow}
use Rattle.bx_mirror_laws.specs.Sides.{Among, Handing, Side, WriteLetter, Wrote}
use Rattle.bx_mirror_laws.specs.Steps.{Ages, PartlyTaken, TakesWrite}
use Rattle.bx_mirror_laws.proofs.Ages.{hands_age, rows_age, writes_age, wrotes_age}
use Rattle.bx_mirror_laws.proofs.Faulting.{partly_ages, partly_lasts, partly_no_more, partly_outs, partly_stands}
use Rattle.bx_mirror_packets.specs.declared.message.WriteBody.{WriteBody}
use Rattle.bx_mirror_member.specs.Standing.{MemberView as Serving, device_in, is_second}
use Rattle.bx_mirror_client.specs.Sends.{member_at}
use Rattle.bx_mirror_server.specs.Sides.{letter_to, side_of as side_by}
use Rattle.bx_mirror_cluster.specs.Fitting.{History, IsClaimed, IsComing, IsDeviceSound, Keeps, Parts, StandsFor, handings, knows_of, last_row, outs_of, rows_before, side_of}
use Rattle.bx_mirror_cluster.specs.GoesFurther.{GoesFurther}
use Rattle.bx_mirror_cluster.specs.MemberSteps.{history_of, served, with_histories, with_member, with_serving}
use Rattle.bx_mirror_cluster.proofs.MemberOwn.{IsOwnStep, own_device, own_disk, own_down, own_known, own_labels, own_second, own_step, two}
use Rattle.bx_mirror_cluster.proofs.MemberSteps.{IsMemberStep}
use Rattle.bx_mirror_cluster.proofs.MemberMoves.{plain_goes}
use Rattle.bx_mirror_cluster.proofs.MemberTakes.{MayBeTaken, copies_kept, written_mode}

module _ (parts : Parts) (x y : Disks) (past : StorePast) (keeps : Keeps parts x past) (d : ℕ) (b : Bool) (within : d < parts.made.devices) (up : past.told.down (Member (member_at d b)) ≡ false)
    (number : (parts.members (member_at d b)).number ≡ member_at d b) (disks : (k s : ℕ) → k ≢ member_disk d b → Stays x y k s) (lengths : SameMemberLengths x y)
    (from : Actor) (reading : ℕ) (w : WriteBody) (comes : MayBeTaken parts past d b from reading w)
    (cut : PartlyTaken (device_in (parts.members (member_at d b))) (letter_to (parts.members (member_at d b)) w) (side_by true (parts.members (member_at d b)) x) (side_by true (parts.members (member_at d b)) y)) where
  abbrev n : ℕ
  n = member_at d b

  abbrev was : Serving
  was = parts.members n

  abbrev m : Serving
  m = was

  abbrev h : History
  h = keeps.history

  abbrev sound : IsDeviceSound parts x past h d
  sound = keeps.devices d within

  abbrev past_then : StorePast
  past_then = served past past.told.letters past.told.handed past.told.knew

  own : IsOwnStep parts x y past d b m past.told.letters past.told.handed past.told.knew
  own = own_step parts x y past keeps d b within up m past.told.letters past.told.handed past.told.knew number number refl disks

  abbrev sides : Bool → Side
  sides = side_of past.told x parts.members d

  abbrev next : Bool → Side
  next = side_of past_then.told y (with_member parts.members n m) d

  second_is : is_second was ≡ b
  second_is = own_second was d b number

  device_is : device_in was ≡ d
  device_is = own_device was d b number

  -- ---- the letter

  abbrev l : WriteLetter
  l = record { at = b; session = w.session; epoch = w.epoch; sequence = w.sequence; until = w.until; runs = w.runs.1 }

  letter_is : letter_to was w ≡ l
  letter_is = λ i. record { at = second_is i; session = w.session; epoch = w.epoch; sequence = w.sequence; until = w.until; runs = w.runs.1 }

  pub is_coming : IsComing past.told.letters d l
  is_coming = record { letter = comes.letter; there = comes.there; write = w; spells = comes.spells; to = comes.to; device = comes.taken.opens.acts.device_is ∙ device_is; session = refl; epoch_is = refl; sequence = refl; until = refl; runs = refl }

  pub sent : Among (h.writes d) l
  sent = sound.coming l is_coming

  abbrev row : DeviceRow
  row = comes.taken.opens.row

  knows_row : (sides b).row ≡ Some row
  knows_row = comes.taken.opens.acts.row_is

  is_row : IsRow (last_row past.told.chain d) (rows_before past.told.chain d) row
  is_row = sound.rows.known b row knows_row

  takes_it : TakesWrite past.told.greatest (sides b) row l
  takes_it = subst (λ (q : WriteLetter). TakesWrite past.told.greatest (sides b) row q) letter_is
      (subst (λ (s : Side). TakesWrite past.told.greatest s row (letter_to was w)) (sym own.now) (record {
        acts = record { up = refl; named = comes.taken.opens.acts.named; knows = comes.taken.opens.acts.row_is };
        epoch = comes.taken.opens.acts.epoch_is;
        written = comes.taken.opens.written;
        newer = comes.taken.newer;
        in_time = λ late. let until = comes.taken.opens.in_time in let steady = comes.steady in absurd (omega (arith, until, late, steady));
      }))

  taken_it : PartlyTaken d l (sides b) (next b)
  taken_it = subst (λ (k : ℕ). PartlyTaken k l (sides b) (next b)) device_is
      (subst (λ (q : WriteLetter). PartlyTaken (device_in was) q (sides b) (next b)) letter_is
      (subst (λ (s : Side). PartlyTaken (device_in was) (letter_to was w) s (next b)) (sym own.now)
      (subst (λ (s : Side). PartlyTaken (device_in was) (letter_to was w) (side_by true was x) s) (sym own.next) cut)))

  -- ---- it fits

  abbrev room : ℕ
  room = store_room parts.made

  abbrev g : ℕ
  g = past.told.greatest

  abbrev last_ : DeviceRow
  last_ = last_row past.told.chain d

  abbrev older_ : List DeviceRow
  older_ = rows_before past.told.chain d

  abbrev handed : List Handing
  handed = handings d past.told.handed

  ages : Ages room last_ older_ sides next (h.source d) (h.source d)
  ages = partly_ages d room g last_ older_ handed sides next (h.source d) sound.rows sound.hands (h.writes d) (h.wrotes d) h.actual (outs_of parts.nodes) (knows_of parts.nodes d) (IsClaimed (last past.told.chain) g) sound.writes l sent row is_row takes_it taken_it own.other

  -- nothing is written in front of a device
  none_at_label : (other : List ℕ) → WritesIn w.runs.1 (device_in was) 0 other → ⊥
  none_at_label other brings = let behind = (comes.taken.opens.inside.each brings.0 brings.1).behind_label in let low = brings.2.from in omega (arith, behind, low)

  label : ((side_by true was y).reads 0 ≡ (side_by true was x).reads 0) × ((side_by true was x).unsure 0 ≡ false → (side_by true was y).unsure 0 ≡ false)
  label = cut.keeps 0 ((side_by true was x).reads 0) (λ other brings. absurd (none_at_label other brings)) refl

  each : (P : Side → Side → Type 0) → P (sides b) (next b) → ((s : Side) → P s s) → (c : Bool) → P (sides c) (next c)
  each P its same c = elim (two b c) [
    | inl e ↦ subst (λ (k : Bool). P (sides k) (next k)) (sym e) its
    | inr e ↦ subst (λ (k : Bool). P (sides k) (next k)) (sym e) (subst (λ (s : Side). P (sides (not b)) s) (sym own.other) (same (sides (not b))))
  ]

  fewer : (c : Bool) (v : Wrote) → Among (next c).wrote v → Among (sides c).wrote v
  fewer c v there = each (λ s t. Among t.wrote v → Among s.wrote v) (λ it. subst (λ (ws : List Wrote). Among ws v) taken_it.wrote it) (λ s it. it) c there

  still_up : (c : Bool) → (next c).up ≡ (sides c).up
  still_up c = each (λ s t. t.up ≡ s.up) taken_it.memory.up (λ s. refl) c

  taken_sound : IsDeviceSound (with_serving parts n m) y past_then (with_histories h (λ k. history_of h d)) d
  taken_sound = record {
    rows = rows_age room last_ older_ sides next (h.source d) (h.source d) sound.rows ages;
    hands = hands_age room last_ older_ sides next (h.source d) (h.source d) sound.rows ages handed sound.hands;
    copies = copies_kept room last_ older_ sides next (h.source d) (h.copies d) (h.copieds d) sound.rows ages b row takes_it.acts (written_mode row.mode b takes_it.written) taken_it.memory taken_it.copied own.other sound.copies;
    writes = writes_age room last_ older_ sides next (h.source d) (h.source d) sound.rows ages (h.wrotes d) (h.wrotes d)
        (partly_no_more d room g last_ older_ handed sides next (h.source d) sound.rows sound.hands (h.writes d) (h.wrotes d) h.actual (outs_of parts.nodes) (knows_of parts.nodes d) (IsClaimed (last past.told.chain) g) sound.writes l sent row is_row takes_it taken_it own.other)
        d g g (h.writes d) h.actual (outs_of parts.nodes) (knows_of parts.nodes d) (IsClaimed (last past.told.chain) g) (omega arith)
        (partly_lasts d room g last_ older_ handed sides next (h.source d) sound.rows sound.hands (h.writes d) (h.wrotes d) h.actual (outs_of parts.nodes) (knows_of parts.nodes d) (IsClaimed (last past.told.chain) g) sound.writes l sent row is_row takes_it taken_it own.other) sound.writes;
    wrotes = wrotes_age room last_ older_ sides next (h.source d) (h.source d) sound.rows ages (h.writes d) (h.wrotes d)
        (partly_lasts d room g last_ older_ handed sides next (h.source d) sound.rows sound.hands (h.writes d) (h.wrotes d) h.actual (outs_of parts.nodes) (knows_of parts.nodes d) (IsClaimed (last past.told.chain) g) sound.writes l sent row is_row takes_it taken_it own.other)
        (λ c v there. fewer c v there) (λ c v there. still_up c ∙ sound.wrotes.owed_up c v (fewer c v there)) sound.wrotes;
    outs = partly_outs d room g last_ older_ handed sides next (h.source d) sound.rows sound.hands (h.writes d) (h.wrotes d) h.actual (outs_of parts.nodes) (knows_of parts.nodes d) (IsClaimed (last past.told.chain) g) sound.writes l sent row is_row takes_it taken_it own.other sound.outs;
    coming = sound.coming;
    answering = sound.answering;
    copying = sound.copying;
    copied_to = sound.copied_to;
    labels = own_labels parts x y past keeps d b within up m past.told.letters past.told.handed past.told.knew number number refl disks (h.copieds d) lengths
        (subst (λ (disk : ℕ). y.reads disk 0 ≡ x.reads disk 0) (own_disk was d b number) label.0) (subst (λ (disk : ℕ). x.unsure disk 0 ≡ false → y.unsure disk 0 ≡ false) (own_disk was d b number) label.1) (λ c needs. needs);
    down = own_down parts x y past keeps d b within up m past.told.letters past.told.handed past.told.knew number number refl disks;
    known = own_known parts x y past keeps d b within up m past.told.letters past.told.handed past.told.knew number number refl disks (λ who apart. refl) (λ r is. sound.known b r is);
  }

  pub cut_step : IsMemberStep parts x y past h d b m past.told.letters past.told.handed past.told.knew (history_of h d)
  cut_step = record {
    sound = λ inside. taken_sound;
    boot = refl;
    disks = disks;
    lengths = lengths;
    sent = λ q there. inl there;
    handed_other = λ k apart. refl;
    knew_other = λ who apart. refl;
    owing = λ o there. keeps.owing n o there;
    lasts = λ session. keeps.lasts d b session;
    spoken = λ l message its spells. inl its;
    wrotes = λ q there. there;
  }

  pub cut_stands : (From : DeviceRow → Type 0) (sector : ℕ) (content : List ℕ) → IsOnly past.writes past.told.greatest d sector content → StandsFor From parts x past d sector content → StandsFor From (with_serving parts n m) y past_then d sector content
  cut_stands From sector content only stands =
      partly_stands d room g last_ older_ handed sides next (h.source d) sound.rows sound.hands (h.writes d) (h.wrotes d) h.actual (outs_of parts.nodes) (knows_of parts.nodes d) (IsClaimed (last past.told.chain) g) sound.writes l sent row is_row takes_it taken_it own.other
      From (IsComing past.told.letters d) past.writes sector content is_coming keeps.actual_sent only stands

  pub cut_goes : GoesFurther parts (with_serving parts n m) x y past past
  cut_goes = plain_goes parts x y past keeps d b m past.told.letters past.told.handed past.told.knew (history_of h d) cut_step (λ k e session epoch tag bytes a. a) (λ From sector content low high only stands. cut_stands From sector content only stands)
