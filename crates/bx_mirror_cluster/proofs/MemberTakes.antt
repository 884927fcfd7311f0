-- A member takes a write: its runs stand on its disk, and its answer is owed; all goes on fitting, and what stands goes on where nothing else is written.
use Rattle.std.proofs.Common.{◌≡◌, ◌≢◌, ◌⊎◌, inl, inr, ℕ, ◌+◌, ◌<◌, ◌≤◌, Bool, true, false, Contains, List, [], ◌∷◌, Some, refl, sym, ◌∙◌, ap, subst, arith}
use Rattle.std.specs.Prelude.{not}
use Rattle.std.proofs.lemmas.List.Elements.{Contains-append_cases}
use Rattle.bx_base.specs.declared.names.Actor.{Actor}
use Rattle.bx_base.specs.declared.names.Actor.TheVariants.{Member}
use Rattle.bx_disk.specs.Disks.{Disks, Stays}
use Rattle.bx_facts.proofs.Lists.{front_or_behind, nothing}
use Rattle.bx_facts.specs.Chains.{last}
use Rattle.bx_facts.specs.Disks.{SameMemberLengths}
use Rattle.bx_facts.specs.Writes.{IsOnly, StorePast, WritesIn, member_disk, store_room}
use Rattle.bx_post.specs.declared.packets.Letter.{Letter}
use Rattle.bx_rows.specs.Modes.{IsSource, IsWritten}
use Rattle.bx_rows.specs.declared.device.DeviceRow.{DeviceRow}
use Rattle.bx_mirror_laws.specs.Acting.{Acts, IsRow}
use Rattle.bx_mirror_laws.specs.Sides.{Among, Copied, CopyLetter, Handing, Side, WriteLetter}
use Rattle.bx_mirror_laws.specs.Sound.{AreCopies, AreRows, IsDoneTo}
use Rattle.bx_mirror_laws.specs.Steps.{Ages, KeepsMemory, Taken, TakesWrite}
use Rattle.bx_mirror_laws.proofs.Ages.{copies_age, hands_age, rows_age, writes_age}
use Rattle.bx_mirror_laws.proofs.Taking.{take_ages, take_lasts, take_no_more, take_outs, take_stands, take_wrotes}
use Rattle.bx_mirror_packets.specs.DeviceMessages.{Spells}
use Rattle.bx_mirror_packets.specs.declared.message.DeviceMessage.TheVariants.{Write}
use Rattle.bx_mirror_packets.specs.declared.message.WriteBody.{WriteBody}
use Rattle.bx_mirror_tables.specs.Lasts.{last_in}
use Rattle.bx_mirror_tables.specs.declared.answers.Owing.{Owing}
use Rattle.bx_mirror_member.specs.Acting.{IsTaken}
use Rattle.bx_mirror_member.specs.Standing.{MemberView as Serving, device_in, disk_in, is_second}
use Rattle.bx_mirror_member.specs.Steps.{owing, with_write, wrote_to}
use Rattle.bx_mirror_client.specs.Sends.{member_at}
use Rattle.bx_mirror_server.specs.Serving.{PutsWrite}
use Rattle.bx_mirror_server.specs.Sides.{IsOnce, letter_to, side_of as side_by}
use Rattle.bx_mirror_server.proofs.Taking.{took}
use Rattle.bx_mirror_cluster.specs.Fitting.{History, IsClaimed, IsComing, IsDeviceSound, IsOwing, Keeps, Parts, StandsFor, handings, knows_of, last_row, outs_of, rows_before, side_of}
use Rattle.bx_mirror_cluster.specs.MemberSteps.{history_of, served, with_histories, with_member, with_serving}
use Rattle.bx_mirror_cluster.proofs.MemberOwn.{IsOwnStep, own_device, own_disk, own_down, own_known, own_labels, own_second, own_step, two}
use Rattle.bx_mirror_cluster.proofs.MemberSteps.{IsMemberStep}

-- A write that comes to a member, which takes it: its packet is under way to it, and the reading is steady.
pub record MayBeTaken (parts : Parts) (past : StorePast) (d : ℕ) (b : Bool) (from : Actor) (reading : ℕ) (w : WriteBody) : Type 0 where
  pub letter : Letter
  pub there : Contains past.told.letters letter
  pub to : letter.to ≡ Member (member_at d b)
  pub from_is : letter.from ≡ from
  pub spells : Spells (Write w) letter.kind letter.body
  pub steady : past.told.greatest ≤ reading + 500
  pub taken : IsTaken (parts.members (member_at d b)) reading w

-- a member that is written in a row makes no copy there
pub written_mode : (mode : ℕ) (b : Bool) → IsWritten mode b → mode ≤ 2
written_mode mode false is = elim is [ inl zero_is ↦ omega (arith, zero_is) | inr one ↦ omega (arith, one) ]
written_mode mode true is = elim is [ inl zero_is ↦ omega (arith, zero_is) | inr two_is ↦ omega (arith, two_is) ]

-- Copies stay as they were, where a member that acts in no copy row has changed its disk alone, and owes no piece more.
pub copies_kept : (room : ℕ) (last_ : DeviceRow) (older : List DeviceRow) (sides next : Bool → Side) (source : ℕ → ℕ → List ℕ) (copies : List CopyLetter) (copieds : List Copied) (rows : AreRows room last_ older sides source) (ages : Ages room last_ older sides next source source) (b : Bool) (r : DeviceRow)
    → Acts b (sides b) r → r.mode ≤ 2 → KeepsMemory (sides b) (next b) → (next b).copied ≡ (sides b).copied → next (not b) ≡ sides (not b) → AreCopies room last_ older sides copies copieds source → AreCopies room last_ older next copies copieds source
copies_kept room last_ older sides next source copies copieds rows ages b r acts low memory same_copied other_stays are =
    copies_age room last_ older sides next source source rows ages copies copieds are fewer (λ c g there. up c g (fewer c g there)) held progress
  where
    each : (P : Side → Side → Type 0) → P (sides b) (next b) → ((s : Side) → P s s) → (c : Bool) → P (sides c) (next c)
    each P its same c = elim (two b c) [
      | inl e ↦ subst (λ (k : Bool). P (sides k) (next k)) (sym e) its
      | inr e ↦ subst (λ (k : Bool). P (sides k) (next k)) (sym e) (subst (λ (s : Side). P (sides (not b)) s) (sym other_stays) (same (sides (not b))))
    ]

    fewer : (c : Bool) (g : Copied) → Among (next c).copied g → Among (sides c).copied g
    fewer c g = each (λ s t. Among t.copied g → Among s.copied g) (λ there. subst (λ (cs : List Copied). Among cs g) same_copied there) (λ s there. there) c

    up : (c : Bool) (g : Copied) → Among (sides c).copied g → (next c).up ≡ true
    up c g there = each (λ s t. t.up ≡ s.up) memory.up (λ s. refl) c ∙ are.owed_up c g there

    not_it : (c : Bool) (k : DeviceRow) → Acts c (next c) k → 3 ≤ k.mode → c ≡ b → ⊥
    not_it c k act copying e =
        let now = subst (λ (t : Bool). Acts t (next t) k) e act in
        let same : r ≡ k = (let both_rows : Some r ≡ Some k = sym acts.knows ∙ sym memory.row ∙ now.knows in cc) in
        let mode = ap (λ (q : DeviceRow). q.mode) same in omega (arith, mode, copying, low)

    held : (c : Bool) (k : DeviceRow) → Acts c (next c) k → 3 ≤ k.mode → IsSource k.mode c → (s : ℕ) → 1 ≤ s → s < room → (next c).reads s ≡ source k.epoch s
    held c k act copying leads s from high = elim (two b c) [
      | inl e ↦ absurd (not_it c k act copying e)
      | inr e ↦ subst (λ (t : Bool). Acts t (next t) k → IsSource k.mode t → (next t).reads s ≡ source k.epoch s) (sym e)
          (subst (λ (q : Side). Acts (not b) q k → IsSource k.mode (not b) → q.reads s ≡ source k.epoch s) (sym other_stays) (λ a l. are.held (not b) k a copying l s from high)) act leads
    ]

    progress : (c : Bool) (k : DeviceRow) → Acts c (next c) k → 3 ≤ k.mode → IsSource k.mode c → (s : ℕ) → 1 ≤ s → s < (next c).place → IsDoneTo copieds (not c) k.epoch s
    progress c k act copying leads s from below = elim (two b c) [
      | inl e ↦ absurd (not_it c k act copying e)
      | inr e ↦ subst (λ (t : Bool). Acts t (next t) k → IsSource k.mode t → s < (next t).place → IsDoneTo copieds (not t) k.epoch s) (sym e)
          (subst (λ (q : Side). Acts (not b) q k → IsSource k.mode (not b) → s < q.place → IsDoneTo copieds (not (not b)) k.epoch s) (sym other_stays) (λ a l h. are.progress (not b) k a copying l s from h)) act leads below
    ]

module _ (parts : Parts) (x y : Disks) (past : StorePast) (keeps : Keeps parts x past) (d : ℕ) (b : Bool) (within : d < parts.made.devices) (up : past.told.down (Member (member_at d b)) ≡ false)
    (number : (parts.members (member_at d b)).number ≡ member_at d b) (disks : (k s : ℕ) → k ≢ member_disk d b → Stays x y k s) (lengths : SameMemberLengths x y)
    (from : Actor) (reading : ℕ) (w : WriteBody) (comes : MayBeTaken parts past d b from reading w)
    (before after : List Letter) (puts : PutsWrite (Unit {0}) from w (parts.members (member_at d b)) (with_write from w (parts.members (member_at d b))) before after x y) where
  abbrev n : ℕ
  n = member_at d b

  abbrev was : Serving
  was = parts.members n

  abbrev m : Serving
  m = with_write from w was

  abbrev h : History
  h = keeps.history

  abbrev sound : IsDeviceSound parts x past h d
  sound = keeps.devices d within

  abbrev past_then : StorePast
  past_then = served past past.told.letters past.told.handed past.told.knew

  own : IsOwnStep parts x y past d b m past.told.letters past.told.handed past.told.knew
  own = own_step parts x y past keeps d b within up m past.told.letters past.told.handed past.told.knew number number refl disks

  abbrev sides : Bool → Side
  sides = side_of past.told x parts.members d

  abbrev next : Bool → Side
  next = side_of past_then.told y (with_member parts.members n m) d

  second_is : is_second was ≡ b
  second_is = own_second was d b number

  device_is : device_in was ≡ d
  device_is = own_device was d b number

  -- ---- the letter

  abbrev l : WriteLetter
  l = record { at = b; session = w.session; epoch = w.epoch; sequence = w.sequence; until = w.until; runs = w.runs.1 }

  letter_is : letter_to was w ≡ l
  letter_is = λ i. record { at = second_is i; session = w.session; epoch = w.epoch; sequence = w.sequence; until = w.until; runs = w.runs.1 }

  pub is_coming : IsComing past.told.letters d l
  is_coming = record { letter = comes.letter; there = comes.there; write = w; spells = comes.spells; to = comes.to; device = comes.taken.opens.acts.device_is ∙ device_is; session = refl; epoch_is = refl; sequence = refl; until = refl; runs = refl }

  pub sent : Among (h.writes d) l
  sent = sound.coming l is_coming

  abbrev row : DeviceRow
  row = comes.taken.opens.row

  knows_row : (sides b).row ≡ Some row
  knows_row = comes.taken.opens.acts.row_is

  is_row : IsRow (last_row past.told.chain d) (rows_before past.told.chain d) row
  is_row = sound.rows.known b row knows_row

  takes_it : TakesWrite past.told.greatest (sides b) row l
  takes_it = subst (λ (q : WriteLetter). TakesWrite past.told.greatest (sides b) row q) letter_is
      (subst (λ (s : Side). TakesWrite past.told.greatest s row (letter_to was w)) (sym own.now) (record {
        acts = record { up = refl; named = comes.taken.opens.acts.named; knows = comes.taken.opens.acts.row_is };
        epoch = comes.taken.opens.acts.epoch_is;
        written = comes.taken.opens.written;
        newer = comes.taken.newer;
        in_time = λ late. let until = comes.taken.opens.in_time in let steady = comes.steady in absurd (omega (arith, until, late, steady));
      }))

  once : IsOnce w.runs.1 (device_in was)
  once = subst (IsOnce w.runs.1) (sym device_is) (keeps.brings d l sent).once

  taken_it : Taken d l (sides b) (next b)
  taken_it = subst (λ (k : ℕ). Taken k l (sides b) (next b)) device_is
      (subst (λ (q : WriteLetter). Taken (device_in was) q (sides b) (next b)) letter_is
      (subst (λ (s : Side). Taken (device_in was) (letter_to was w) s (next b)) (sym own.now)
      (subst (λ (s : Side). Taken (device_in was) (letter_to was w) (side_by true was x) s) (sym own.next) (took was m from w before after x y once puts))))

  -- ---- it fits

  abbrev room : ℕ
  room = store_room parts.made

  abbrev g : ℕ
  g = past.told.greatest

  abbrev last_ : DeviceRow
  last_ = last_row past.told.chain d

  abbrev older_ : List DeviceRow
  older_ = rows_before past.told.chain d

  abbrev handed : List Handing
  handed = handings d past.told.handed

  ages : Ages room last_ older_ sides next (h.source d) (h.source d)
  ages = take_ages d room g last_ older_ handed sides next (h.source d) sound.rows sound.hands (h.writes d) (h.wrotes d) h.actual (outs_of parts.nodes) (knows_of parts.nodes d) (IsClaimed (last past.told.chain) g) sound.writes l sent row is_row takes_it taken_it own.other

  -- nothing is written in front of a device
  none_at_label : (other : List ℕ) → WritesIn w.runs.1 (device_in was) 0 other → ⊥
  none_at_label other brings = let behind = (comes.taken.opens.inside.each brings.0 brings.1).behind_label in let low = brings.2.from in omega (arith, behind, low)

  label : (y.reads (disk_in was) 0 ≡ x.reads (disk_in was) 0) × (x.unsure (disk_in was) 0 ≡ false → y.unsure (disk_in was) 0 ≡ false)
  label = (puts.puts tt).keeps 0 (x.reads (disk_in was) 0) (λ other brings. absurd (none_at_label other brings)) refl

  taken_sound : IsDeviceSound (with_serving parts n m) y past_then (with_histories h (λ k. history_of h d)) d
  taken_sound = record {
    rows = rows_age room last_ older_ sides next (h.source d) (h.source d) sound.rows ages;
    hands = hands_age room last_ older_ sides next (h.source d) (h.source d) sound.rows ages handed sound.hands;
    copies = copies_kept room last_ older_ sides next (h.source d) (h.copies d) (h.copieds d) sound.rows ages b row takes_it.acts (written_mode row.mode b takes_it.written) taken_it.memory taken_it.copied own.other sound.copies;
    writes = writes_age room last_ older_ sides next (h.source d) (h.source d) sound.rows ages (h.wrotes d) (h.wrotes d)
        (take_no_more d room g last_ older_ handed sides next (h.source d) sound.rows sound.hands (h.writes d) (h.wrotes d) h.actual (outs_of parts.nodes) (knows_of parts.nodes d) (IsClaimed (last past.told.chain) g) sound.writes l sent row is_row takes_it taken_it own.other)
        d g g (h.writes d) h.actual (outs_of parts.nodes) (knows_of parts.nodes d) (IsClaimed (last past.told.chain) g) (omega arith)
        (take_lasts d room g last_ older_ handed sides next (h.source d) sound.rows sound.hands (h.writes d) (h.wrotes d) h.actual (outs_of parts.nodes) (knows_of parts.nodes d) (IsClaimed (last past.told.chain) g) sound.writes l sent row is_row takes_it taken_it own.other) sound.writes;
    wrotes = take_wrotes d room g last_ older_ handed sides next (h.source d) sound.rows sound.hands (h.writes d) (h.wrotes d) h.actual (outs_of parts.nodes) (knows_of parts.nodes d) (IsClaimed (last past.told.chain) g) sound.writes l sent row is_row takes_it taken_it own.other sound.wrotes;
    outs = take_outs d room g last_ older_ handed sides next (h.source d) sound.rows sound.hands (h.writes d) (h.wrotes d) h.actual (outs_of parts.nodes) (knows_of parts.nodes d) (IsClaimed (last past.told.chain) g) sound.writes l sent row is_row takes_it taken_it own.other sound.outs;
    coming = sound.coming;
    answering = sound.answering;
    copying = sound.copying;
    copied_to = sound.copied_to;
    labels = own_labels parts x y past keeps d b within up m past.told.letters past.told.handed past.told.knew number number refl disks (h.copieds d) lengths
        (subst (λ (disk : ℕ). y.reads disk 0 ≡ x.reads disk 0) (own_disk was d b number) label.0) (subst (λ (disk : ℕ). x.unsure disk 0 ≡ false → y.unsure disk 0 ≡ false) (own_disk was d b number) label.1) (λ c needs. needs);
    down = own_down parts x y past keeps d b within up m past.told.letters past.told.handed past.told.knew number number refl disks;
    known = own_known parts x y past keeps d b within up m past.told.letters past.told.handed past.told.knew number number refl disks (λ who apart. refl) (λ r is. sound.known b r is);
  }

  -- its last sequences are those of letters
  lasts_then : (session : ℕ) → (last_in m.lasts session ≡ 0) ⊎ ((k : WriteLetter) × Among (h.writes d) k × (k.session ≡ session) × (k.sequence ≡ last_in m.lasts session))
  lasts_then session = elim (same_or session w.session) [
    | inl e ↦ inr (l, sent, sym e, sym (ap (λ (k : ℕ). last_in m.lasts k) e ∙ of_next w.session ∙ taken_it.last))
    | inr apart ↦ subst (λ (k : ℕ). (k ≡ 0) ⊎ ((q : WriteLetter) × Among (h.writes d) q × (q.session ≡ session) × (q.sequence ≡ k))) (sym (of_next session ∙ taken_it.others session apart)) (keeps.lasts d b session)
  ]
    where
      same_or : (k j : ℕ) → (k ≡ j) ⊎ (k ≢ j)
      same_or k j = grind arith

      of_next : (k : ℕ) → last_in m.lasts k ≡ (next b).lasts k
      of_next k = sym (ap (λ (s : Side). s.lasts k) own.next)

  owing_then : (o : Owing) → Contains m.owed o → IsOwing n o
  owing_then o there = elim (Contains-append_cases was.owed (owing from (wrote_to w) ∷ []) o there) [
    | inl old ↦ keeps.owing n o old
    | inr new ↦ elim (front_or_behind (owing from (wrote_to w)) [] o new) [
      | inl here ↦ (let is = comes.spells.is in subst (IsOwing n) here (record { fits = (is.session, is.device, is.epoch, is.sequence); device = tt }))
      | inr none ↦ absurd (nothing o none)
    ]
  ]

  pub take_step : IsMemberStep parts x y past h d b m past.told.letters past.told.handed past.told.knew (history_of h d)
  take_step = record {
    sound = λ inside. taken_sound;
    boot = refl;
    disks = disks;
    lengths = lengths;
    sent = λ q there. inl there;
    handed_other = λ k apart. refl;
    knew_other = λ who apart. refl;
    owing = owing_then;
    lasts = lasts_then;
    spoken = λ l message its spells. inl its;
    wrotes = λ q there. there;
  }

  pub take_goes : (From : DeviceRow → Type 0) (sector : ℕ) (content : List ℕ) → IsOnly past.writes past.told.greatest d sector content → StandsFor From parts x past d sector content → StandsFor From (with_serving parts n m) y past_then d sector content
  take_goes From sector content only stands =
      take_stands d room g last_ older_ handed sides next (h.source d) sound.rows sound.hands (h.writes d) (h.wrotes d) h.actual (outs_of parts.nodes) (knows_of parts.nodes d) (IsClaimed (last past.told.chain) g) sound.writes l sent row is_row takes_it taken_it own.other
      From (IsComing past.told.letters d) past.writes sector content is_coming keeps.actual_sent only stands
