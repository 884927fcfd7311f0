-- The source of a copy notes the answer to its piece: it goes on to the next one, or behind the last one both members are whole.
use Rattle.std.proofs.Common.{◌≡◌, ◌⊎◌, inl, inr, ℕ, ◌+◌, ◌<◌, ◌≤◌, Bool, true, false, Contains, List, Some, refl, sym, ◌∙◌, ap, subst, arith}
use Rattle.std.specs.Prelude.{not}
use Rattle.bx_base.specs.declared.names.Actor.TheVariants.{Member}
use Rattle.bx_disk.specs.Disks.{Disks}
use Rattle.bx_facts.specs.Chains.{last}
use Rattle.bx_facts.specs.Writes.{StorePast, store_room}
use Rattle.bx_post.specs.declared.packets.Letter.{Letter}
use Rattle.bx_rows.specs.Modes.{IsSource}
use Rattle.bx_rows.specs.declared.device.DeviceRow.{DeviceRow}
use Rattle.bx_mirror_laws.specs.Acting.{Acts, Been, Counts, IsRow, MayAct, Moved, boot_in}
use Rattle.bx_mirror_laws.specs.Sides.{Among, Copied, Handing, Out, Side}
use Rattle.bx_mirror_laws.specs.Sound.{Filled, HasTaken}
use Rattle.bx_mirror_laws.specs.Steps.{Ages, LastsGoOn}
use Rattle.bx_mirror_laws.proofs.Ages.{hands_age, rows_age, writes_age, wrotes_age}
use Rattle.bx_mirror_laws.proofs.Handing.{all_filled}
use Rattle.bx_mirror_laws.proofs.Small.{copies_note}
use Rattle.bx_mirror_laws.proofs.Still.{outs_still, stands_still}
use Rattle.bx_mirror_packets.specs.DeviceMessages.{Spells}
use Rattle.bx_mirror_packets.specs.declared.message.CopiedBody.{CopiedBody}
use Rattle.bx_mirror_packets.specs.declared.message.DeviceMessage.TheVariants.{Copied as CopiedOf}
use Rattle.bx_mirror_member.specs.Acting.{IsNoted}
use Rattle.bx_mirror_member.specs.Standing.{MemberView as Serving, copy_from, is_second}
use Rattle.bx_mirror_client.specs.Sends.{member_at}
use Rattle.bx_mirror_cluster.specs.Fitting.{History, IsClaimed, IsComing, IsDeviceSound, Keeps, Parts, StandsFor, handings, knows_of, last_row, outs_of, rows_before, side_of}
use Rattle.bx_mirror_cluster.specs.MemberSteps.{history_of, served, with_histories, with_member, with_serving}
use Rattle.bx_mirror_cluster.proofs.MemberLearns.{no_change}
use Rattle.bx_mirror_cluster.proofs.MemberOwn.{IsOwnStep, inside_at, own_device, own_down, own_known, own_labels, own_second, own_step, two}
use Rattle.bx_mirror_cluster.proofs.MemberSteps.{IsMemberStep}

-- The answer to its current piece comes to a member.
pub record AnswerComes (parts : Parts) (past : StorePast) (d : ℕ) (b : Bool) (c : CopiedBody) (row : DeviceRow) : Type 0 where
  pub letter : Letter
  pub there : Contains past.told.letters letter
  pub spells : Spells (CopiedOf c) letter.kind letter.body
  pub noted : IsNoted (parts.members (member_at d b)) c row

copy_leads : (b : Bool) (mode : ℕ) → mode ≡ copy_from b → (3 ≤ mode) × IsSource mode b
copy_leads false mode e = (omega (arith, e), inr (inr e))
copy_leads true mode e = (omega (arith, e), inr (λ at_a. elim at_a [ inl zero_is ↦ omega (arith, e, zero_is) | inr rest ↦ elim rest [ inl one_is ↦ omega (arith, e, one_is) | inr three ↦ omega (arith, e, three) ] ]))

module _ (parts : Parts) (x : Disks) (past : StorePast) (keeps : Keeps parts x past) (d : ℕ) (b : Bool) (within : d < parts.made.devices) (up : past.told.down (Member (member_at d b)) ≡ false)
    (number : (parts.members (member_at d b)).number ≡ member_at d b) (c : CopiedBody) (row : DeviceRow) (comes : AnswerComes parts past d b c row) where
  abbrev n : ℕ
  n = member_at d b

  abbrev was : Serving
  was = parts.members n

  abbrev h : History
  h = keeps.history

  abbrev sound : IsDeviceSound parts x past h d
  sound = keeps.devices d within

  abbrev sides : Bool → Side
  sides = side_of past.told x parts.members d

  second_is : is_second was ≡ b
  second_is = own_second was d b number

  device_is : c.device ≡ d
  device_is = comes.noted.acts.device_is ∙ own_device was d b number

  pub its_from : (t : Bool) × (comes.letter.from ≡ Member (member_at c.device t))
  its_from = keeps.from_members comes.letter (CopiedOf c) comes.there comes.spells

  abbrev pub answer : Copied
  answer = record { by = its_from.0; epoch = c.epoch; place = c.place }

  pub answered : Among (h.copieds d) answer
  answered = sound.copied_to answer (record { letter = comes.letter; there = comes.there; copied = c; spells = comes.spells; from = its_from.1 ∙ ap (λ (k : ℕ). Member (member_at k its_from.0)) device_is; device = device_is; epoch_is = refl; place = refl })

  pub is_row : IsRow (last_row past.told.chain d) (rows_before past.told.chain d) row
  is_row = sound.rows.known b row comes.noted.acts.row_is

  pub acts : Acts b (sides b) row
  acts = record {
    up = ap not up;
    named = ap (λ (t : Bool). boot_in t row) (sym second_is) ∙ comes.noted.acts.named ∙ keeps.member_boots n (inside_at d parts.made.devices b within) up;
    knows = comes.noted.acts.row_is;
  }

  mode_is : row.mode ≡ copy_from b
  mode_is = comes.noted.source ∙ ap copy_from second_is

  pub leads : (3 ≤ row.mode) × IsSource row.mode b
  leads = copy_leads b row.mode mode_is

  -- it comes from the target
  pub by_other : answer.by ≡ not b
  by_other = elim (two b answer.by) [
    | inl e ↦ absurd ((sound.copies.copied answer row answered is_row comes.noted.acts.epoch_is).target (subst (λ (t : Bool). IsSource row.mode t) (sym e) leads.1))
    | inr e ↦ e
  ]

  abbrev room : ℕ
  room = store_room parts.made

  abbrev g : ℕ
  g = past.told.greatest

  abbrev last_ : DeviceRow
  last_ = last_row past.told.chain d

  abbrev older_ : List DeviceRow
  older_ = rows_before past.told.chain d

  abbrev handed : List Handing
  handed = handings d past.told.handed

  -- ---- behind the last piece the target has all

  pub target_filled : 1 < store_room parts.made → store_room parts.made ≤ was.place + 64 → Filled room last_ (h.source d) (not b) (sides (not b)) row
  target_filled some whole = all_filled room last_ older_ sides (h.copies d) (h.copieds d) (h.source d) (not b) row sound.copies is_row some (λ s low high. elim (less_or s was.place) [
    | inl less ↦ sound.copies.progress b row acts leads.0 leads.1 s low less
    | inr le ↦ record { copied = answer; there = answered; by = by_other; epoch_is = sym comes.noted.acts.epoch_is; from = (let at = comes.noted.current in omega (arith, le, at)); below = (let at = comes.noted.current in omega (arith, high, whole, at)) }
  ])
    where
      less_or : (k j : ℕ) → (k < j) ⊎ (j ≤ k)
      less_or k j = grind arith

  -- ---- it goes on to the next piece

  abbrev m : Serving
  m = record was { place = was.place + 64 }

  abbrev past_then : StorePast
  past_then = served past past.told.letters past.told.handed past.told.knew

  own : IsOwnStep parts x x past d b m past.told.letters past.told.handed past.told.knew
  own = own_step parts x x past keeps d b within up m past.told.letters past.told.handed past.told.knew number number refl (λ k s apart. no_change x k s)

  abbrev next : Bool → Side
  next = side_of past_then.told x (with_member parts.members n m) d

  next_is : next b ≡ record (sides b) { place = (sides b).place + 64 }
  next_is = own.next ∙ (λ i. record ((sym own.now) i) { place = ((sym own.now) i).place + 64 })

  -- the place alone is another
  each : (P : Side → Side → Type 0) → ((s : Side) (k : ℕ) → P s (record s { place = k })) → (t : Bool) → P (sides t) (next t)
  each P place t = elim (two b t) [
    | inl e ↦ subst (λ (q : Bool). P (sides q) (next q)) (sym e) (subst (λ (s : Side). P (sides b) s) (sym next_is) (place (sides b) ((sides b).place + 64)))
    | inr e ↦ subst (λ (q : Bool). P (sides q) (next q)) (sym e) (subst (λ (s : Side). P (sides (not b)) s) (sym own.other) (place (sides (not b)) (sides (not b)).place))
  ]

  ages : Ages room last_ older_ sides next (h.source d) (h.source d)
  ages = record {
    been = λ t r is. each (λ s q. Been t s r → Been t q r) (λ s k z. record { is = z.is }) t;
    moved = λ t r is. each (λ s q. Moved t s r → Moved t q r) (λ s k z. record { is = z.is }) t;
    may = λ t r is. each (λ s q. MayAct t q r → MayAct t s r) (λ s k z. record { up = z.up; named = z.named; knows = z.knows }) t;
    boot = each (λ s q. s.boot ≤ q.boot) (λ s k. omega arith);
    known = λ t r. each (λ s q. (s.row ≡ Some r → IsRow last_ older_ r) → q.row ≡ Some r → IsRow last_ older_ r) (λ s k z. z) t (sound.rows.known t r);
    targets = λ t r s is a none low high was_it. each (λ z q. q.reads s ≡ z.reads s) (λ z k. refl) t ∙ was_it;
    filled = λ t s copying none been evidence low reads. (each (λ z q. q.reads s ≡ z.reads s) (λ z k. refl) t ∙ reads, each (λ z q. z.unsure s ≡ false → q.unsure s ≡ false) (λ z k sure. sure) t);
    sources = λ t r s is been leads_it. refl;
  }

  took : (t : Bool) (o : Out) (k : DeviceRow) → HasTaken (h.wrotes d) (next t) t o k → HasTaken (h.wrotes d) (sides t) t o k
  took t o k = each (λ s q. HasTaken (h.wrotes d) q t o k → HasTaken (h.wrotes d) s t o k) (λ s j z. record { is = z.is }) t

  gives : (t : Bool) (o : Out) (k : DeviceRow) → HasTaken (h.wrotes d) (sides t) t o k → HasTaken (h.wrotes d) (next t) t o k
  gives t o k = each (λ s q. HasTaken (h.wrotes d) s t o k → HasTaken (h.wrotes d) q t o k) (λ s j z. record { is = z.is }) t

  lasts_on : LastsGoOn last_ older_ sides next
  lasts_on = record { each = λ t r session is e. inr (each (λ s q. s.row ≡ Some r → q.row ≡ Some r) (λ s k z. z) t e, each (λ s q. s.lasts session ≤ q.lasts session) (λ s k. omega arith) t) }

  stays : (From : DeviceRow → Type 0) (t : Bool) (s : ℕ) → 1 ≤ s → s < room → Counts From last_ older_ handed t (sides t) → ((sides t).up ≡ true) ⊎ ((sides t).unsure s ≡ false) → ((next t).reads s ≡ (sides t).reads s) × ((sides t).unsure s ≡ false → (next t).unsure s ≡ false)
  stays From t s low high counts evidence = (each (λ z q. q.reads s ≡ z.reads s) (λ z k. refl) t, each (λ z q. z.unsure s ≡ false → q.unsure s ≡ false) (λ z k sure. sure) t)

  noted_sound : IsDeviceSound (with_serving parts n m) x past_then (with_histories h (λ k. history_of h d)) d
  noted_sound = record {
    rows = rows_age room last_ older_ sides next (h.source d) (h.source d) sound.rows ages;
    hands = hands_age room last_ older_ sides next (h.source d) (h.source d) sound.rows ages handed sound.hands;
    copies = copies_note room last_ older_ sides next (h.source d) (h.copies d) (h.copieds d) sound.copies b row answer acts answered by_other (sym comes.noted.acts.epoch_is) comes.noted.current next_is own.other;
    writes = writes_age room last_ older_ sides next (h.source d) (h.source d) sound.rows ages (h.wrotes d) (h.wrotes d) (record { each = λ t o k is moved has. took t o k has }) d g g (h.writes d) h.actual (outs_of parts.nodes) (knows_of parts.nodes d) (IsClaimed (last past.told.chain) g) (omega arith) lasts_on sound.writes;
    wrotes = wrotes_age room last_ older_ sides next (h.source d) (h.source d) sound.rows ages (h.writes d) (h.wrotes d) lasts_on
        (λ t w. each (λ s q. Among q.wrote w → Among s.wrote w) (λ s k z. z) t)
        (λ t w there. each (λ s q. s.up ≡ true → q.up ≡ true) (λ s k z. z) t (sound.wrotes.owed_up t w (each (λ s q. Among q.wrote w → Among s.wrote w) (λ s k z. z) t there))) sound.wrotes;
    outs = outs_still d room g g last_ older_ handed sides next (h.source d) (h.source d) sound.rows ages (omega arith) stays (h.writes d) (h.wrotes d) (h.wrotes d) h.actual (outs_of parts.nodes) (outs_of parts.nodes) (knows_of parts.nodes d) (knows_of parts.nodes d)
        (IsClaimed (last past.told.chain) g) (IsClaimed (last past.told.chain) g) (λ o k sends. sends) (record { each = λ t o k is moved has. took t o k has }) sound.wrotes.owed_up took (λ t o k has. inl has)
        (λ o k t r out act reached. gives t o r (out.lasts t r (each (λ s q. Acts t q r → Acts t s r) (λ s j z. record { up = z.up; named = z.named; knows = z.knows }) t act) (each (λ s q. o.sequence ≤ q.lasts o.session → o.sequence ≤ s.lasts o.session) (λ s j z. z) t reached))) sound.outs;
    coming = sound.coming;
    answering = sound.answering;
    copying = sound.copying;
    copied_to = sound.copied_to;
    labels = own_labels parts x x past keeps d b within up m past.told.letters past.told.handed past.told.knew number number refl (λ k s apart. no_change x k s) (h.copieds d) (record { each = λ k high. refl }) refl (λ sure. sure) (λ t needs. needs);
    down = own_down parts x x past keeps d b within up m past.told.letters past.told.handed past.told.knew number number refl (λ k s apart. no_change x k s);
    known = own_known parts x x past keeps d b within up m past.told.letters past.told.handed past.told.knew number number refl (λ k s apart. no_change x k s) (λ who apart. refl) (λ r is. sound.known b r is);
  }

  pub note_step : IsMemberStep parts x x past h d b m past.told.letters past.told.handed past.told.knew (history_of h d)
  note_step = record {
    sound = λ inside. noted_sound;
    boot = refl;
    disks = λ k s apart. no_change x k s;
    lengths = record { each = λ k high. refl };
    sent = λ q there. inl there;
    handed_other = λ k apart. refl;
    knew_other = λ who apart. refl;
    owing = λ o there. keeps.owing n o there;
    spoken = λ l message its spells. inl its;
    lasts = λ session. keeps.lasts d b session;
    wrotes = λ w there. there;
  }

  pub note_goes : (From : DeviceRow → Type 0) (sector : ℕ) (content : List ℕ) → 1 ≤ sector → sector < store_room parts.made → StandsFor From parts x past d sector content → StandsFor From (with_serving parts n m) x past_then d sector content
  note_goes From sector content low high stands =
      stands_still d room g g last_ older_ handed sides next (h.source d) (h.source d) sound.rows ages (omega arith) stays From (IsComing past.told.letters d) past.writes sector content low high
      (λ t q at come. record {
        row = come.row;
        row_is = come.row_is;
        epoch_is = come.epoch_is;
        acts = each (λ s z. MayAct q.at z come.row → MayAct q.at s come.row) (λ s k z. record { up = z.up; named = z.named; knows = z.knows }) t come.acts;
        written = come.written;
        newer = λ e. each (λ s z. (z.row ≡ Some come.row → z.lasts q.session < q.sequence) → s.row ≡ Some come.row → s.lasts q.session < q.sequence) (λ s k z. z) t come.newer e;
      }) stands
