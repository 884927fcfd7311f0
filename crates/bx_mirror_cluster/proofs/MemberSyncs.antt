-- A member has synced its disk, and sends all that it owed: all goes on fitting, and what stands goes on.
use Rattle.std.proofs.Common.{◌≡◌, ◌≢◌, ◌⊎◌, inl, inr, ℕ, ◌/◌, ◌<◌, ◌≤◌, Bool, true, false, Contains, List, ◌++◌, refl, sym, ◌∙◌, ap, subst, arith}
use Rattle.std.proofs.lemmas.List.Elements.{Contains-append_cases}
use Rattle.bx_base.specs.declared.names.Actor.{Actor}
use Rattle.bx_base.specs.declared.names.Actor.TheVariants.{Member}
use Rattle.bx_disk.specs.Disks.{Disks, Image, Stays}
use Rattle.bx_facts.proofs.Lists.{nothing}
use Rattle.bx_facts.specs.Chains.{last}
use Rattle.bx_facts.specs.Disks.{SameMemberLengths}
use Rattle.bx_facts.specs.Writes.{StorePast, member_disk, store_room}
use Rattle.bx_post.specs.declared.packets.Letter.{Letter}
use Rattle.bx_rows.specs.declared.device.DeviceRow.{DeviceRow}
use Rattle.bx_mirror_laws.specs.Sides.{Among, Copied, Handing, Side, WriteLetter, Wrote}
use Rattle.bx_mirror_laws.specs.Steps.{Ages, Synced}
use Rattle.bx_mirror_laws.proofs.Ages.{hands_age, rows_age}
use Rattle.bx_mirror_laws.proofs.Syncing.{sync_ages, sync_copies, sync_outs, sync_stands, sync_writes, sync_wrotes}
use Rattle.bx_mirror_packets.specs.DeviceMessages.{Spells, kind_of}
use Rattle.bx_mirror_packets.specs.declared.message.DeviceMessage.{DeviceMessage}
use Rattle.bx_mirror_packets.specs.declared.message.DeviceMessage.TheVariants.{Write, Wrote as WroteOf, Data, Copy, Copied as CopiedOf}
use Rattle.bx_mirror_tables.specs.Owed.{message_of}
use Rattle.bx_mirror_tables.specs.declared.answers.Answer.{Answer}
use Rattle.bx_mirror_tables.specs.declared.answers.Answer.TheVariants as answers
use Rattle.bx_mirror_tables.specs.declared.answers.Owing.{Owing}
use Rattle.bx_mirror_member.specs.Standing.{MemberView as Serving, disk_in, is_second}
use Rattle.bx_mirror_member.specs.Steps.{answer_letter, owed_letters, released}
use Rattle.bx_mirror_client.specs.Sends.{member_at}
use Rattle.bx_mirror_server.specs.Sides.{copied_in, side_of as side_by, wrote_in}
use Rattle.bx_mirror_cluster.specs.Fitting.{History, IsAnswering, IsClaimed, IsComing, IsCopiedTo, IsData, IsDeviceSound, IsFromMember, Keeps, NeedsLabel, OfDevice, Parts, StandsFor, handings, knows_of, last_row, outs_of, rows_before, side_of}
use Rattle.bx_mirror_cluster.specs.MemberSteps.{DeviceHistory, served, with_histories, with_member, with_serving}
use Rattle.bx_mirror_cluster.proofs.MemberOwn.{IsOwnStep, own_device, own_disk, own_down, own_known, own_labels, own_second, own_step}
use Rattle.bx_mirror_cluster.proofs.MemberSteps.{IsMemberStep}
use Rattle.bx_mirror_cluster.proofs.Owed.{among_behind, among_copied, among_front, among_or, among_wrote, answer_high, answer_kind, answer_says, in_map, says_copied, says_wrote}

-- the side of a number
pub side_of_number : (d : ℕ) (c b : Bool) → member_at d c ≡ member_at d b → c ≡ b
side_of_number d false false e = refl
side_of_number d true true e = refl
side_of_number d false true e = absurd (omega (arith, e))
side_of_number d true false e = absurd (omega (arith, e))

-- what a member owes says a piece's answer of its own device
owed_from : (d : ℕ) (b : Bool) (a : Answer) (message : DeviceMessage) (from : Actor) → message ≡ message_of a → OfDevice a d → from ≡ Member (member_at d b) → IsFromMember message from
owed_from d b (answers.Wrote w) message from is of at = subst (λ (q : DeviceMessage). IsFromMember q from) (sym is) tt
owed_from d b (answers.Copied c) message from is of at = subst (λ (q : DeviceMessage). IsFromMember q from) (sym is) (b, at ∙ ap (λ (k : ℕ). Member (member_at k b)) (sym of))

module _ (parts : Parts) (x y : Disks) (past : StorePast) (keeps : Keeps parts x past) (d : ℕ) (b : Bool) (within : d < parts.made.devices) (up : past.told.down (Member (member_at d b)) ≡ false)
    (number : (parts.members (member_at d b)).number ≡ member_at d b) (disks : (k s : ℕ) → k ≢ member_disk d b → Stays x y k s) (lengths : SameMemberLengths x y)
    (reads : y.reads ≡ x.reads) (sure : (s : ℕ) → y.unsure (disk_in (parts.members (member_at d b))) s ≡ false) where
  abbrev n : ℕ
  n = member_at d b

  abbrev was : Serving
  was = parts.members n

  abbrev m : Serving
  m = released was

  abbrev h : History
  h = keeps.history

  abbrev sound : IsDeviceSound parts x past h d
  sound = keeps.devices d within

  abbrev letters : List Letter
  letters = past.told.letters ++ owed_letters was

  abbrev past_then : StorePast
  past_then = served past letters past.told.handed past.told.knew

  abbrev then_history : DeviceHistory
  then_history = record { wrotes = wrote_in b was.owed ++ h.wrotes d; copies = h.copies d; copieds = copied_in b was.owed ++ h.copieds d; source = h.source d }

  own : IsOwnStep parts x y past d b m letters past.told.handed past.told.knew
  own = own_step parts x y past keeps d b within up m letters past.told.handed past.told.knew number number refl disks

  abbrev sides : Bool → Side
  sides = side_of past.told x parts.members d

  abbrev next : Bool → Side
  next = side_of past_then.told y (with_member parts.members n m) d

  second_is : is_second was ≡ b
  second_is = own_second was d b number

  synced : Synced (sides b) (next b)
  synced = subst (λ (s : Side). Synced s (next b)) (sym own.now) (subst (λ (s : Side). Synced (side_by true was x) s) (sym own.next) (record {
    memory = record { up = refl; boot = refl; row = refl };
    lasts = refl;
    place = refl;
    reads = ap (λ (f : Image). f (disk_in was)) reads;
    sure = sure;
    wrote = refl;
    copied = refl;
  }))

  -- what it owed
  owed_wrote : (sides b).wrote ≡ wrote_in b was.owed
  owed_wrote = ap (λ (s : Side). s.wrote) own.now ∙ ap (λ (c : Bool). wrote_in c was.owed) second_is

  owed_copied : (sides b).copied ≡ copied_in b was.owed
  owed_copied = ap (λ (s : Side). s.copied) own.now ∙ ap (λ (c : Bool). copied_in c was.owed) second_is

  more : (w : Wrote) → Among (h.wrotes d) w → Among then_history.wrotes w
  more w there = among_behind (wrote_in b was.owed) (h.wrotes d) w there

  sends : (w : Wrote) → Among (sides b).wrote w → Among then_history.wrotes w
  sends w there = among_front (wrote_in b was.owed) (h.wrotes d) w (subst (λ (ws : List Wrote). Among ws w) owed_wrote there)

  only : (w : Wrote) → Among then_history.wrotes w → Among (h.wrotes d) w ⊎ Among (sides b).wrote w
  only w there = elim (among_or (wrote_in b was.owed) (h.wrotes d) w there) [
    | inl owed ↦ inr (subst (λ (ws : List Wrote). Among ws w) (sym owed_wrote) owed)
    | inr old ↦ inl old
  ]

  only_copied : (c : Copied) → Among then_history.copieds c → Among (h.copieds d) c ⊎ Among (sides b).copied c
  only_copied c there = elim (among_or (copied_in b was.owed) (h.copieds d) c there) [
    | inl owed ↦ inr (subst (λ (cs : List Copied). Among cs c) (sym owed_copied) owed)
    | inr old ↦ inl old
  ]

  -- ---- a letter is an old one, or one of what is owed

  new_letter : (l : Letter) → Contains letters l → Contains past.told.letters l ⊎ ((o : Owing) × Contains was.owed o × (answer_letter was o ≡ l))
  new_letter l there = elim (Contains-append_cases past.told.letters (owed_letters was) l there) [
    | inl old ↦ inl old
    | inr new ↦ inr (in_map (answer_letter was) was.owed l new)
  ]

  pub was_other : (l : Letter) (message : DeviceMessage) → Contains letters l → Spells message l.kind l.body → kind_of message ≢ 19 → kind_of message ≢ 23 → Contains past.told.letters l
  was_other l message there spells not_wrote not_copied = elim (new_letter l there) [
    | inl old ↦ old
    | inr new ↦ absurd (elim (answer_kind new.0.answer message (answer_says was new.0 l message (keeps.owing n new.0 new.1).fits new.2 spells)) [ inl one ↦ not_wrote one | inr other ↦ not_copied other ])
  ]

  from_it : (l : Letter) (c : Bool) (o : Owing) → answer_letter was o ≡ l → l.from ≡ Member (member_at d c) → c ≡ b
  from_it l c o is from =
      let same : Member was.number ≡ Member (member_at d c) = ap (λ (q : Letter). q.from) is ∙ from in
      let numbers : was.number ≡ member_at d c = cc in
      side_of_number d c b (sym numbers ∙ number)

  write_coming : (l : WriteLetter) → IsComing letters d l → IsComing past.told.letters d l
  write_coming l c = record { letter = c.letter; there = was_other c.letter (Write c.write) c.there c.spells (λ e. let most = c.spells.is.most in omega (arith, most, e)) (λ e. let most = c.spells.is.most in omega (arith, most, e)); write = c.write; spells = c.spells; to = c.to; device = c.device; session = c.session; epoch_is = c.epoch_is; sequence = c.sequence; until = c.until; runs = c.runs }

  answered : (w : Wrote) → IsAnswering letters d w → Among then_history.wrotes w
  answered w a = elim (new_letter a.letter a.there) [
    | inl old ↦ more w (sound.answering w (record { letter = a.letter; there = old; wrote = a.wrote; spells = a.spells; from = a.from; device = a.device; session = a.session; epoch_is = a.epoch_is; sequence = a.sequence }))
    | inr new ↦ (let says = says_wrote new.0.answer a.wrote (answer_says was new.0 a.letter (WroteOf a.wrote) (keeps.owing n new.0 new.1).fits new.2 a.spells) in
        let it = among_wrote b was.owed new.0 a.wrote new.1 says in
        let by = from_it a.letter w.by new.0 new.2 a.from in
        let same : w ≡ record { by = b; session = a.wrote.session; epoch = a.wrote.epoch; sequence = a.wrote.sequence } = (λ i. record { by = by i; session = a.session i; epoch = a.epoch_is i; sequence = a.sequence i }) in
        among_front (wrote_in b was.owed) (h.wrotes d) w (subst (λ (v : Wrote). Among (wrote_in b was.owed) v) (sym same) it))
  ]

  copied_answered : (g : Copied) → IsCopiedTo letters d g → Among then_history.copieds g
  copied_answered g a = elim (new_letter a.letter a.there) [
    | inl old ↦ among_behind (copied_in b was.owed) (h.copieds d) g (sound.copied_to g (record { letter = a.letter; there = old; copied = a.copied; spells = a.spells; from = a.from; device = a.device; epoch_is = a.epoch_is; place = a.place }))
    | inr new ↦ (let says = says_copied new.0.answer a.copied (answer_says was new.0 a.letter (CopiedOf a.copied) (keeps.owing n new.0 new.1).fits new.2 a.spells) in
        let it = among_copied b was.owed new.0 a.copied new.1 says in
        let by = from_it a.letter g.by new.0 new.2 a.from in
        let same : g ≡ record { by = b; epoch = a.copied.epoch; place = a.copied.place } = (λ i. record { by = by i; epoch = a.epoch_is i; place = a.place i }) in
        among_front (copied_in b was.owed) (h.copieds d) g (subst (λ (v : Copied). Among (copied_in b was.owed) v) (sym same) it))
  ]

  -- who needs its label needed it
  needed : (c : Bool) → NeedsLabel (last_row past.told.chain d) (handings d past.told.handed) then_history.copieds (past.told.down (Member (member_at d c))) c → NeedsLabel (last_row past.told.chain d) (handings d past.told.handed) (h.copieds d) (past.told.down (Member (member_at d c))) c
  needed c needs = elim needs.is [
    | inl leads ↦ record { is = inl leads }
    | inr rest ↦ elim rest [
      | inl is_up ↦ record { is = inr (inl is_up) }
      | inr taken ↦ elim (only_copied taken.0 taken.1) [
        | inl old ↦ record { is = inr (inr (taken.0, old, taken.2, taken.3)) }
        | inr owed ↦ record { is = inr (inl (let by : b ≡ c = sym (sound.copies.owed_by b taken.0 owed) ∙ taken.2 in ap (λ (t : Bool). past.told.down (Member (member_at d t))) (sym by) ∙ up)) }
      ]
    ]
  ]

  -- ---- it fits

  abbrev room : ℕ
  room = store_room parts.made

  abbrev g : ℕ
  g = past.told.greatest

  abbrev last_ : DeviceRow
  last_ = last_row past.told.chain d

  abbrev older_ : List DeviceRow
  older_ = rows_before past.told.chain d

  abbrev handed : List Handing
  handed = handings d past.told.handed

  ages : Ages room last_ older_ sides next (h.source d) (h.source d)
  ages = sync_ages d room g last_ older_ handed sides next (h.source d) sound.rows b synced own.other (h.writes d) (h.wrotes d) then_history.wrotes (h.copies d) (h.copieds d) then_history.copieds sound.wrotes more sends only

  synced_sound : IsDeviceSound (with_serving parts n m) y past_then (with_histories h (λ k. then_history)) d
  synced_sound = record {
    rows = rows_age room last_ older_ sides next (h.source d) (h.source d) sound.rows ages;
    hands = hands_age room last_ older_ sides next (h.source d) (h.source d) sound.rows ages handed sound.hands;
    copies = sync_copies d room g last_ older_ handed sides next (h.source d) sound.rows b synced own.other (h.writes d) (h.wrotes d) then_history.wrotes (h.copies d) (h.copieds d) then_history.copieds sound.wrotes more sends only sound.copies
        (λ c there. among_behind (copied_in b was.owed) (h.copieds d) c there) only_copied;
    writes = sync_writes d room g last_ older_ handed sides next (h.source d) sound.rows b synced own.other (h.writes d) (h.wrotes d) then_history.wrotes (h.copies d) (h.copieds d) then_history.copieds sound.wrotes more sends only
        h.actual (outs_of parts.nodes) (knows_of parts.nodes d) (IsClaimed (last past.told.chain) g) sound.writes;
    wrotes = sync_wrotes d room g last_ older_ handed sides next (h.source d) sound.rows b synced own.other (h.writes d) (h.wrotes d) then_history.wrotes (h.copies d) (h.copieds d) then_history.copieds sound.wrotes more sends only;
    outs = sync_outs d room g last_ older_ handed sides next (h.source d) sound.rows b synced own.other (h.writes d) (h.wrotes d) then_history.wrotes (h.copies d) (h.copieds d) then_history.copieds sound.wrotes more sends only
        h.actual (outs_of parts.nodes) (knows_of parts.nodes d) (IsClaimed (last past.told.chain) g) sound.outs;
    coming = λ l c. sound.coming l (write_coming l c);
    answering = answered;
    copying = λ l a. sound.copying l (record { letter = a.letter; there = was_other a.letter (Copy a.copy) a.there a.spells (λ e. omega (arith, e)) (λ e. omega (arith, e)); copy = a.copy; spells = a.spells; from = a.from; device = a.device; epoch_is = a.epoch_is; place = a.place; bytes = a.bytes });
    copied_to = copied_answered;
    labels = own_labels parts x y past keeps d b within up m letters past.told.handed past.told.knew number number refl disks then_history.copieds lengths (ap (λ (f : Image). f (member_disk d b) 0) reads)
        (λ k. subst (λ (disk : ℕ). y.unsure disk 0 ≡ false) (own_disk was d b number) (sure 0)) needed;
    down = own_down parts x y past keeps d b within up m letters past.told.handed past.told.knew number number refl disks;
    known = own_known parts x y past keeps d b within up m letters past.told.handed past.told.knew number number refl disks (λ who apart. refl) (λ r is. sound.known b r is);
  }

  pub sync_step : IsMemberStep parts x y past h d b m letters past.told.handed past.told.knew then_history
  sync_step = record {
    sound = λ inside. synced_sound;
    boot = refl;
    disks = disks;
    lengths = lengths;
    sent = λ l there. elim (new_letter l there) [
      | inl old ↦ inl old
      | inr new ↦ inr (sym (ap (λ (q : Letter). q.from) new.2) ∙ ap Member number, subst (λ (q : Letter). 18 < q.kind) new.2 (answer_high was new.0))
    ];
    handed_other = λ k apart. refl;
    knew_other = λ who apart. refl;
    owing = λ o there. absurd (nothing o there);
    lasts = λ session. keeps.lasts d b session;
    spoken = λ l message there spells. elim (new_letter l there) [
      | inl old ↦ inl old
      | inr new ↦ inr (let owing = keeps.owing n new.0 new.1 in
          owed_from d b new.0.answer message l.from (answer_says was new.0 l message owing.fits new.2 spells) (subst (λ (k : ℕ). OfDevice new.0.answer k) (ap (λ (k : ℕ). k / 2) (sym number) ∙ own_device was d b number) owing.device)
          (sym (ap (λ (q : Letter). q.from) new.2) ∙ ap Member number))
    ];
    wrotes = more;
  }

  pub sync_data : (k e session epoch tag : ℕ) (bytes : List ℕ) → IsData letters k e session epoch tag bytes → IsData past.told.letters k e session epoch tag bytes
  sync_data k e session epoch tag bytes a = record { letter = a.letter; there = was_other a.letter (Data a.data_) a.there a.spells (λ q. omega (arith, q)) (λ q. omega (arith, q)); data_ = a.data_; spells = a.spells; to = a.to; device = a.device; session_is = a.session_is; epoch_is = a.epoch_is; tag_is = a.tag_is; bytes_are = a.bytes_are }

  pub sync_goes : (From : DeviceRow → Type 0) (sector : ℕ) (content : List ℕ) → 1 ≤ sector → sector < store_room parts.made → StandsFor From parts x past d sector content → StandsFor From (with_serving parts n m) y past_then d sector content
  sync_goes From sector content low high stands =
      let now = sync_stands d room g last_ older_ handed sides next (h.source d) sound.rows b synced own.other (h.writes d) (h.wrotes d) then_history.wrotes (h.copies d) (h.copieds d) then_history.copieds sound.wrotes more sends only From (IsComing past.told.letters d) past.writes sector content low high stands in record {
        reads = now.reads;
        sure = now.sure;
        coming = λ c r l other is from may leads comes at come brought. now.coming c r l other is from may leads (write_coming l comes) at come brought;
      }
