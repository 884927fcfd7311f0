-- A write comes to a member again that it took: it is answered at once, or with the sync that is owed; all goes on fitting, and what stands goes on.
use Rattle.std.proofs.Common.{◌≡◌, ◌⊎◌, inl, inr, ℕ, ◌<◌, ◌≤◌, Bool, true, false, Contains, List, [], ◌∷◌, ◌++◌, refl, sym, ◌∙◌, ap, subst, arith}
use Rattle.std.specs.Prelude.{not}
use Rattle.std.proofs.lemmas.List.Elements.{Contains-append_cases}
use Rattle.bx_base.specs.declared.names.Actor.{Actor}
use Rattle.bx_base.specs.declared.names.Actor.TheVariants.{Member}
use Rattle.bx_disk.specs.Disks.{Disks}
use Rattle.bx_facts.proofs.Lists.{front_or_behind, nothing}
use Rattle.bx_facts.specs.Chains.{last}
use Rattle.bx_facts.specs.Writes.{StorePast, store_room}
use Rattle.bx_post.specs.declared.packets.Letter.{Letter}
use Rattle.bx_rows.specs.declared.device.DeviceRow.{DeviceRow}
use Rattle.bx_mirror_laws.specs.Acting.{Acts, IsRow, boot_in}
use Rattle.bx_mirror_laws.specs.Sides.{Among, Handing, Out, Side, WriteLetter, Wrote}
use Rattle.bx_mirror_laws.specs.Sound.{AreCopies, AreHanded, AreOuts, AreRows, AreWrites, AreWrotes, HasAcked, HasTaken, IsAnswer, IsWrote, Sends, DeviceStands, wrote_of}
use Rattle.bx_mirror_laws.specs.Steps.{answer_to}
use Rattle.bx_mirror_packets.specs.DeviceMessages.{IsDeviceMessage, Spells}
use Rattle.bx_mirror_packets.specs.declared.message.DeviceMessage.TheVariants.{Write, Wrote as WroteOf}
use Rattle.bx_mirror_packets.specs.declared.message.WriteBody.{WriteBody}
use Rattle.bx_mirror_packets.specs.declared.message.WroteBody.{WroteBody}
use Rattle.bx_mirror_tables.specs.declared.answers.Owing.{Owing}
use Rattle.bx_mirror_member.specs.Acting.{IsRepeated}
use Rattle.bx_mirror_member.specs.Standing.{MemberView as Serving, is_second}
use Rattle.bx_mirror_member.specs.Steps.{answer_letter, owing, with_owing, wrote_to}
use Rattle.bx_mirror_client.specs.Sends.{member_at}
use Rattle.bx_mirror_server.proofs.Owing.{copied_same, wrote_only, wrote_still}
use Rattle.bx_mirror_server.specs.Sides.{side_of as side_by, wrote_in}
use Rattle.bx_mirror_cluster.specs.Fitting.{History, IsAnswering, IsClaimed, IsComing, IsData, IsDeviceSound, IsOwing, Keeps, Parts, StandsFor, handings, knows_of, last_row, outs_of, rows_before, side_of}
use Rattle.bx_mirror_cluster.specs.MemberSteps.{DeviceHistory, history_of, served, with_histories, with_member, with_serving}
use Rattle.bx_mirror_cluster.proofs.Answered.{answer_below, answer_wrote, outs_answered, owing_copies, owing_hands, owing_rows, owing_sides, owing_stands, taken_before, writes_answered}
use Rattle.bx_mirror_cluster.proofs.MemberLearns.{no_change}
use Rattle.bx_mirror_cluster.proofs.MemberOwn.{IsOwnStep, inside_at, own_device, own_down, own_known, own_labels, own_second, own_step, two}
use Rattle.bx_mirror_cluster.proofs.MemberSays.{from_member, old_coming, old_copied, old_copying, old_data, one_more, one_says, one_spoken, says_step}
use Rattle.bx_mirror_cluster.proofs.MemberSteps.{IsMemberStep}
use Rattle.bx_mirror_cluster.proofs.MemberSyncs.{side_of_number}

-- A write comes again to a member.
pub record ComesAgain (parts : Parts) (past : StorePast) (d : ℕ) (b : Bool) (reading : ℕ) (w : WriteBody) : Type 0 where
  pub letter : Letter
  pub there : Contains past.told.letters letter
  pub to : letter.to ≡ Member (member_at d b)
  pub spells : Spells (Write w) letter.kind letter.body
  pub repeated : IsRepeated (parts.members (member_at d b)) reading w

module _ (parts : Parts) (x : Disks) (past : StorePast) (keeps : Keeps parts x past) (d : ℕ) (b : Bool) (within : d < parts.made.devices) (up : past.told.down (Member (member_at d b)) ≡ false)
    (number : (parts.members (member_at d b)).number ≡ member_at d b) (from : Actor) (reading : ℕ) (w : WriteBody) (comes : ComesAgain parts past d b reading w) where
  abbrev n : ℕ
  n = member_at d b

  abbrev was : Serving
  was = parts.members n

  abbrev h : History
  h = keeps.history

  abbrev sound : IsDeviceSound parts x past h d
  sound = keeps.devices d within

  abbrev sides : Bool → Side
  sides = side_of past.told x parts.members d

  second_is : is_second was ≡ b
  second_is = own_second was d b number

  abbrev l : WriteLetter
  l = record { at = b; session = w.session; epoch = w.epoch; sequence = w.sequence; until = w.until; runs = w.runs.1 }

  sent : Among (h.writes d) l
  sent = sound.coming l (record { letter = comes.letter; there = comes.there; write = w; spells = comes.spells; to = comes.to; device = comes.repeated.opens.acts.device_is ∙ own_device was d b number; session = refl; epoch_is = refl; sequence = refl; until = refl; runs = refl })

  abbrev row : DeviceRow
  row = comes.repeated.opens.row

  is_row : IsRow (last_row past.told.chain d) (rows_before past.told.chain d) row
  is_row = sound.rows.known b row comes.repeated.opens.acts.row_is

  at_row : row.epoch ≡ l.epoch
  at_row = comes.repeated.opens.acts.epoch_is

  acts : Acts b (sides b) row
  acts = record {
    up = ap not up;
    named = ap (λ (t : Bool). boot_in t row) (sym second_is) ∙ comes.repeated.opens.acts.named ∙ keeps.member_boots n (inside_at d parts.made.devices b within) up;
    knows = comes.repeated.opens.acts.row_is;
  }

  abbrev body : WroteBody
  body = record { session = w.session; device = w.device; epoch = w.epoch; sequence = w.sequence }

  abbrev room : ℕ
  room = store_room parts.made

  abbrev g : ℕ
  g = past.told.greatest

  abbrev last_ : DeviceRow
  last_ = last_row past.told.chain d

  abbrev older_ : List DeviceRow
  older_ = rows_before past.told.chain d

  abbrev handed : List Handing
  handed = handings d past.told.handed

  abbrev live : Out → Type 0
  live = IsClaimed (last past.told.chain) g

  before : (o : Out) (k : DeviceRow) → Sends (outs_of parts.nodes) (knows_of parts.nodes d) live o k → (c : Bool) → wrote_of c o k ≡ answer_to l → HasTaken (h.wrotes d) (sides c) c o k
  before = taken_before d room g last_ older_ handed sides (h.source d) sound.rows (h.writes d) (h.wrotes d) h.actual (outs_of parts.nodes) (knows_of parts.nodes d) live sound.outs l sent row is_row at_row acts comes.repeated.older

  answered_row : (k : DeviceRow) → IsRow last_ older_ k → k.epoch ≡ l.epoch → IsWrote sides (answer_to l) k
  answered_row = answer_wrote d room g last_ older_ handed sides (h.source d) sound.rows (h.writes d) (h.wrotes d) h.actual (outs_of parts.nodes) (knows_of parts.nodes d) live sound.outs l sent row is_row at_row acts comes.repeated.older

  low : l.epoch ≤ last_.epoch
  low = answer_below d room g last_ older_ handed sides (h.source d) sound.rows (h.writes d) (h.wrotes d) h.actual (outs_of parts.nodes) (knows_of parts.nodes d) live sound.outs l sent row is_row at_row acts comes.repeated.older

  is_answer : IsAnswer (h.writes d) (answer_to l)
  is_answer = record { letter = l; there = sent; session = refl; epoch_is = refl; sequence = refl }

  fits : IsDeviceMessage (WroteOf body)
  fits = let is = comes.spells.is in (is.session, is.device, is.epoch, is.sequence)

  -- ---- at once, where nothing is owed

  module _ (none : was.owed ≡ []) where
    abbrev one : Letter
    one = answer_letter was (owing from (wrote_to w))

    spells : Spells (WroteOf body) one.kind one.body
    spells = record { is = fits; kind_is = refl; body_is = refl }

    abbrev again_history : DeviceHistory
    again_history = record { wrotes = answer_to l ∷ h.wrotes d; copies = h.copies d; copieds = h.copieds d; source = h.source d }

    owes_none : (c : Bool) → c ≡ b → (sides c).wrote ≡ []
    owes_none c e = subst (λ (t : Bool). (sides t).wrote ≡ []) (sym e) (ap (λ (os : List Owing). wrote_in b os) none)

    acked_again : (o : Out) (k : DeviceRow) → Sends (outs_of parts.nodes) (knows_of parts.nodes d) live o k → (c : Bool) → HasAcked (answer_to l ∷ h.wrotes d) c o k → HasAcked (h.wrotes d) c o k
    acked_again o k sends c has = elim has.is.is [
      | inr old ↦ record { is = record { is = old } }
      | inl new ↦ elim (before o k sends c new).is [
        | inl was_acked ↦ was_acked
        | inr owes ↦ absurd (subst (λ (vs : List Wrote). Among vs (wrote_of c o k)) (owes_none c (ap (λ (v : Wrote). v.by) new)) owes).is
      ]
    ]

    took_again : (o : Out) (k : DeviceRow) → Sends (outs_of parts.nodes) (knows_of parts.nodes d) live o k → (c : Bool) → HasTaken (answer_to l ∷ h.wrotes d) (sides c) c o k → HasTaken (h.wrotes d) (sides c) c o k
    took_again o k sends c has = elim has.is [
      | inl acked ↦ record { is = inl (acked_again o k sends c acked) }
      | inr owes ↦ record { is = inr owes }
    ]

    more_again : (c : Bool) (o : Out) (k : DeviceRow) → HasTaken (h.wrotes d) (sides c) c o k → HasTaken (answer_to l ∷ h.wrotes d) (sides c) c o k
    more_again c o k has = elim has.is [
      | inl acked ↦ record { is = inl (record { is = record { is = inr acked.is.is } }) }
      | inr owes ↦ record { is = inr owes }
    ]

    wrotes_again : AreWrotes last_ older_ sides (h.writes d) (answer_to l ∷ h.wrotes d)
    wrotes_again = record {
      acked_to = λ v there. elim there.is [ inl new ↦ subst (IsAnswer (h.writes d)) (sym new) is_answer | inr old ↦ sound.wrotes.acked_to v (record { is = old }) ];
      owed_to = sound.wrotes.owed_to;
      acked = λ v k there is e. elim there.is [
        | inl new ↦ subst (λ (u : Wrote). IsWrote sides u k) (sym new) (answered_row k is (e ∙ ap (λ (u : Wrote). u.epoch) new))
        | inr old ↦ sound.wrotes.acked v k (record { is = old }) is e
      ];
      owed = sound.wrotes.owed;
      owed_by = sound.wrotes.owed_by;
      owed_up = sound.wrotes.owed_up;
      acked_below = λ v there. elim there.is [
        | inl new ↦ (let e = ap (λ (u : Wrote). u.epoch) new in let most = low in omega (arith, e, most))
        | inr old ↦ sound.wrotes.acked_below v (record { is = old })
      ];
      owed_below = sound.wrotes.owed_below;
    }

    direct : IsDeviceSound parts x (served past (past.told.letters ++ one ∷ []) past.told.handed past.told.knew) (with_histories h (λ k. again_history)) d
    direct = record {
      rows = sound.rows;
      hands = sound.hands;
      copies = sound.copies;
      writes = writes_answered d room g last_ older_ handed sides (h.source d) sound.rows (h.writes d) (h.wrotes d) (answer_to l ∷ h.wrotes d) h.actual (outs_of parts.nodes) (knows_of parts.nodes d) live (λ c. (sides c).wrote) took_again acked_again more_again sound.writes;
      wrotes = wrotes_again;
      outs = outs_answered d room g last_ older_ handed sides (h.source d) sound.rows (h.writes d) (h.wrotes d) (answer_to l ∷ h.wrotes d) h.actual (outs_of parts.nodes) (knows_of parts.nodes d) live (λ c. (sides c).wrote) took_again acked_again more_again sound.outs;
      coming = λ q c. sound.coming q (old_coming past.told.letters one (WroteOf body) spells (omega arith) d q c);
      answering = λ v a. elim (one_more past.told.letters one (WroteOf body) spells a.letter a.there) [
        | inl old ↦ record { is = inr (sound.answering v (record { letter = a.letter; there = old; wrote = a.wrote; spells = a.spells; from = a.from; device = a.device; session = a.session; epoch_is = a.epoch_is; sequence = a.sequence })).is }
        | inr here ↦ record { is = inl (new_answer v a here) }
      ];
      copying = λ q a. sound.copying q (old_copying past.told.letters one (WroteOf body) spells (λ e. omega (arith, e)) d q a);
      copied_to = λ q a. sound.copied_to q (old_copied past.told.letters one (WroteOf body) spells (λ e. omega (arith, e)) d q a);
      labels = sound.labels;
      down = sound.down;
      known = sound.known;
    }
      where
        new_answer : (v : Wrote) (a : IsAnswering (past.told.letters ++ one ∷ []) d v) → one ≡ a.letter → v ≡ answer_to l
        new_answer v a here =
            let same : a.wrote ≡ body = (let says = one_says past.told.letters one (WroteOf body) spells a.letter (WroteOf a.wrote) here a.spells in cc) in
            let actors : Member was.number ≡ Member (member_at d v.by) = ap (λ (z : Letter). z.from) here ∙ a.from in
            let numbers : was.number ≡ member_at d v.by = cc in
            let by : v.by ≡ b = side_of_number d v.by b (sym numbers ∙ number) in
            let session_is = a.session ∙ ap (λ (u : WroteBody). u.session) same in
            let epoch_is = a.epoch_is ∙ ap (λ (u : WroteBody). u.epoch) same in
            let sequence_is = a.sequence ∙ ap (λ (u : WroteBody). u.sequence) same in
            λ i. record { by = by i; session = session_is i; epoch = epoch_is i; sequence = sequence_is i }

    pub again_step : IsMemberStep parts x x past h d b was (past.told.letters ++ one ∷ []) past.told.handed past.told.knew again_history
    again_step = says_step parts x past keeps d b (past.told.letters ++ one ∷ []) past.told.handed again_history (λ inside. direct)
        (from_member past.told.letters one was d b number refl (omega arith)) (one_spoken past.told.letters one (WroteOf body) spells tt) (λ k apart. refl) (λ v there. record { is = inr there.is })

    pub again_data : (k e session epoch tag : ℕ) (bytes : List ℕ) → IsData (past.told.letters ++ one ∷ []) k e session epoch tag bytes → IsData past.told.letters k e session epoch tag bytes
    again_data k e session epoch tag bytes a = old_data past.told.letters one (WroteOf body) spells (λ q. omega (arith, q)) k e session epoch tag bytes a

    pub again_coming : (q : WriteLetter) → IsComing (past.told.letters ++ one ∷ []) d q → IsComing past.told.letters d q
    again_coming q c = old_coming past.told.letters one (WroteOf body) spells (omega arith) d q c

  -- ---- with the sync that is owed

  abbrev m : Serving
  m = with_owing (owing from (wrote_to w)) was

  abbrev past_then : StorePast
  past_then = served past past.told.letters past.told.handed past.told.knew

  own : IsOwnStep parts x x past d b m past.told.letters past.told.handed past.told.knew
  own = own_step parts x x past keeps d b within up m past.told.letters past.told.handed past.told.knew number number refl (λ k s apart. no_change x k s)

  abbrev next : Bool → Side
  next = side_of past_then.told x (with_member parts.members n m) d

  abbrev ws : Bool → List Wrote
  ws c = (next c).wrote

  own_is : next b ≡ owing_sides sides ws b
  own_is = own.next
      ∙ (λ i. record { up = true; boot = was.boot; row = was.row; lasts = (side_by true was x).lasts; wrote = (side_by true m x).wrote; copied = (copied_same (is_second was) was.owed from body) i; place = was.place; reads = (side_by true was x).reads; unsure = (side_by true was x).unsure })
      ∙ (λ i. record ((sym own.now) i) { wrote = ((sym own.next) i).wrote })

  other_is : next (not b) ≡ owing_sides sides ws (not b)
  other_is = own.other ∙ (λ i. record (sides (not b)) { wrote = ((sym own.other) i).wrote })

  each_is : (c : Bool) → next c ≡ owing_sides sides ws c
  each_is c = elim (two b c) [
    | inl e ↦ subst (λ (t : Bool). next t ≡ owing_sides sides ws t) (sym e) own_is
    | inr e ↦ subst (λ (t : Bool). next t ≡ owing_sides sides ws t) (sym e) other_is
  ]

  all_is : next ≡ owing_sides sides ws
  all_is = λ i. λ c. (each_is c) i

  -- what is owed then is this answer, or was owed
  owed_or : (c : Bool) (v : Wrote) → Among (ws c) v → ((c ≡ b) × (v ≡ answer_to l)) ⊎ Among (sides c).wrote v
  owed_or c v there = elim (two b c) [
    | inl e ↦ elim (wrote_only (is_second was) was.owed from body v (subst (λ (vs : List Wrote). Among vs v) (ap (λ (s : Side). s.wrote) own.next) (subst (λ (t : Bool). Among (ws t) v) e there))) [
      | inl new ↦ inl (e, new ∙ (λ i. record { by = second_is i; session = w.session; epoch = w.epoch; sequence = w.sequence }))
      | inr old ↦ inr (subst (λ (t : Bool). Among (sides t).wrote v) (sym e) (subst (λ (vs : List Wrote). Among vs v) (sym (ap (λ (s : Side). s.wrote) own.now)) old))
    ]
    | inr e ↦ inr (subst (λ (t : Bool). Among (sides t).wrote v) (sym e) (subst (λ (s : Side). Among s.wrote v) own.other (subst (λ (t : Bool). Among (ws t) v) e there)))
  ]

  still : (c : Bool) (v : Wrote) → Among (sides c).wrote v → Among (ws c) v
  still c v there = elim (two b c) [
    | inl e ↦ subst (λ (t : Bool). Among (ws t) v) (sym e) (subst (λ (vs : List Wrote). Among vs v) (sym (ap (λ (s : Side). s.wrote) own.next))
        (wrote_still (is_second was) was.owed from body v (subst (λ (vs : List Wrote). Among vs v) (ap (λ (s : Side). s.wrote) own.now) (subst (λ (t : Bool). Among (sides t).wrote v) e there))))
    | inr e ↦ subst (λ (t : Bool). Among (ws t) v) (sym e) (subst (λ (s : Side). Among s.wrote v) (sym own.other) (subst (λ (t : Bool). Among (sides t).wrote v) e there))
  ]

  took_owed : (o : Out) (k : DeviceRow) → Sends (outs_of parts.nodes) (knows_of parts.nodes d) live o k → (c : Bool) → HasTaken (h.wrotes d) (owing_sides sides ws c) c o k → HasTaken (h.wrotes d) (sides c) c o k
  took_owed o k sends c has = elim has.is [
    | inl acked ↦ record { is = inl acked }
    | inr owes ↦ elim (owed_or c (wrote_of c o k) owes) [
      | inl new ↦ before o k sends c new.1
      | inr old ↦ record { is = inr old }
    ]
  ]

  more_owed : (c : Bool) (o : Out) (k : DeviceRow) → HasTaken (h.wrotes d) (sides c) c o k → HasTaken (h.wrotes d) (owing_sides sides ws c) c o k
  more_owed c o k has = elim has.is [
    | inl acked ↦ record { is = inl acked }
    | inr owes ↦ record { is = inr (still c (wrote_of c o k) owes) }
  ]

  wrote_on : (v : Wrote) (k : DeviceRow) → IsWrote sides v k → IsWrote (owing_sides sides ws) v k
  wrote_on v k is = record {
    been = record { is = is.been.is };
    last = elim is.last [
      | inl moved ↦ inl (record { is = moved.is })
      | inr taken ↦ inr taken
    ];
  }

  wrotes_owed : AreWrotes last_ older_ (owing_sides sides ws) (h.writes d) (h.wrotes d)
  wrotes_owed = record {
    acked_to = sound.wrotes.acked_to;
    owed_to = λ c v there. elim (owed_or c v there) [
      | inl new ↦ subst (IsAnswer (h.writes d)) (sym new.1) is_answer
      | inr old ↦ sound.wrotes.owed_to c v old
    ];
    acked = λ v k there is e. wrote_on v k (sound.wrotes.acked v k there is e);
    owed = λ c v k there is e. elim (owed_or c v there) [
      | inl new ↦ wrote_on v k (subst (λ (u : Wrote). IsWrote sides u k) (sym new.1) (answered_row k is (e ∙ ap (λ (u : Wrote). u.epoch) new.1)))
      | inr old ↦ wrote_on v k (sound.wrotes.owed c v k old is e)
    ];
    owed_by = λ c v there. elim (owed_or c v there) [
      | inl new ↦ ap (λ (u : Wrote). u.by) new.1 ∙ sym new.0
      | inr old ↦ sound.wrotes.owed_by c v old
    ];
    owed_up = λ c v there. elim (owed_or c v there) [
      | inl new ↦ subst (λ (t : Bool). (sides t).up ≡ true) (sym new.0) (ap not up)
      | inr old ↦ sound.wrotes.owed_up c v old
    ];
    acked_below = sound.wrotes.acked_below;
    owed_below = λ c v there. elim (owed_or c v there) [
      | inl new ↦ (let e = ap (λ (u : Wrote). u.epoch) new.1 in let most = low in omega (arith, e, most))
      | inr old ↦ sound.wrotes.owed_below c v old
    ];
  }

  owed_sound : IsDeviceSound (with_serving parts n m) x past_then (with_histories h (λ k. history_of h d)) d
  owed_sound = record {
    rows = by (λ s. AreRows room last_ older_ s (h.source d)) (owing_rows d room g last_ older_ handed sides (h.source d) sound.rows (h.writes d) (h.wrotes d) (h.wrotes d) h.actual (outs_of parts.nodes) (knows_of parts.nodes d) live ws);
    hands = by (λ s. AreHanded room last_ older_ handed s (h.source d)) (owing_hands d room g last_ older_ handed sides (h.source d) sound.rows (h.writes d) (h.wrotes d) (h.wrotes d) h.actual (outs_of parts.nodes) (knows_of parts.nodes d) live ws sound.hands);
    copies = by (λ s. AreCopies room last_ older_ s (h.copies d) (h.copieds d) (h.source d)) (owing_copies d room g last_ older_ handed sides (h.source d) sound.rows (h.writes d) (h.wrotes d) (h.wrotes d) h.actual (outs_of parts.nodes) (knows_of parts.nodes d) live ws (h.copies d) (h.copieds d) sound.copies);
    writes = by (λ s. AreWrites d g last_ older_ s (h.writes d) (h.wrotes d) h.actual (outs_of parts.nodes) (knows_of parts.nodes d) live)
        (writes_answered d room g last_ older_ handed sides (h.source d) sound.rows (h.writes d) (h.wrotes d) (h.wrotes d) h.actual (outs_of parts.nodes) (knows_of parts.nodes d) live ws took_owed (λ o k sends c has. has) more_owed sound.writes);
    wrotes = by (λ s. AreWrotes last_ older_ s (h.writes d) (h.wrotes d)) wrotes_owed;
    outs = by (λ s. AreOuts d room g last_ older_ handed s (h.writes d) (h.wrotes d) h.actual (outs_of parts.nodes) (knows_of parts.nodes d) live)
        (outs_answered d room g last_ older_ handed sides (h.source d) sound.rows (h.writes d) (h.wrotes d) (h.wrotes d) h.actual (outs_of parts.nodes) (knows_of parts.nodes d) live ws took_owed (λ o k sends c has. has) more_owed sound.outs);
    coming = sound.coming;
    answering = sound.answering;
    copying = sound.copying;
    copied_to = sound.copied_to;
    labels = own_labels parts x x past keeps d b within up m past.told.letters past.told.handed past.told.knew number number refl (λ k s apart. no_change x k s) (h.copieds d) (record { each = λ k high. refl }) refl (λ sure. sure) (λ c needs. needs);
    down = own_down parts x x past keeps d b within up m past.told.letters past.told.handed past.told.knew number number refl (λ k s apart. no_change x k s);
    known = own_known parts x x past keeps d b within up m past.told.letters past.told.handed past.told.knew number number refl (λ k s apart. no_change x k s) (λ who apart. refl) (λ r is. sound.known b r is);
  }
    where
      by : (P : (Bool → Side) → Type 0) → P (owing_sides sides ws) → P next
      by P is = subst P (sym all_is) is

  pub owe_step : IsMemberStep parts x x past h d b m past.told.letters past.told.handed past.told.knew (history_of h d)
  owe_step = record {
    sound = λ inside. owed_sound;
    boot = refl;
    disks = λ k s apart. no_change x k s;
    lengths = record { each = λ k high. refl };
    sent = λ q there. inl there;
    handed_other = λ k apart. refl;
    knew_other = λ who apart. refl;
    owing = λ o there. elim (Contains-append_cases was.owed (owing from (wrote_to w) ∷ []) o there) [
      | inl old ↦ keeps.owing n o old
      | inr new ↦ elim (front_or_behind (owing from (wrote_to w)) [] o new) [
        | inl here ↦ subst (IsOwing n) here (record { fits = fits; device = tt })
        | inr none ↦ absurd (nothing o none)
      ]
    ];
    lasts = λ session. keeps.lasts d b session;
    spoken = λ l message its spells. inl its;
    wrotes = λ v there. there;
  }

  pub owe_goes : (From : DeviceRow → Type 0) (sector : ℕ) (content : List ℕ) → StandsFor From parts x past d sector content → StandsFor From (with_serving parts n m) x past_then d sector content
  owe_goes From sector content stands =
      subst (λ (s : Bool → Side). DeviceStands d g From last_ older_ handed s (IsComing past.told.letters d) past.writes sector content) (sym all_is)
      (owing_stands d room g last_ older_ handed sides (h.source d) sound.rows (h.writes d) (h.wrotes d) (h.wrotes d) h.actual (outs_of parts.nodes) (knows_of parts.nodes d) live ws From (IsComing past.told.letters d) past.writes sector content stands)
