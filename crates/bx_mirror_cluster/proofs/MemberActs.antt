-- What comes to a member that knows the state, as an event of the whole store.
use Rattle.std.proofs.Common.{◌≡◌, ◌≢◌, ◌⊎◌, inl, inr, ℕ, ◌+◌, ◌-◌, ◌<◌, ◌≤◌, Bool, true, false, List, [], ◌∷◌, ◌++◌, min, Some, refl, sym, ◌∙◌, ap, subst, arith}
use Rattle.std.specs.Prelude.{not}
use Rattle.std.proofs.lemmas.List.{append_assoc}
use Rattle.bx_base.specs.declared.names.Actor.{Actor}
use Rattle.bx_base.specs.declared.names.Actor.TheVariants.{Member}
use Rattle.bx_disk.specs.Disks.{Disks, Stays}
use Rattle.bx_facts.specs.Disks.{SameMemberLengths}
use Rattle.bx_facts.specs.Writes.{StorePast, member_disk, store_room}
use Rattle.bx_global.specs.declared.change.Change.{Change}
use Rattle.bx_post.specs.declared.packets.Letter.{Letter}
use Rattle.bx_rows.specs.Conditions.{Fits}
use Rattle.bx_rows.specs.Modes.{IsSource, both}
use Rattle.bx_rows.specs.declared.device.DeviceRow.{DeviceRow}
use Rattle.bx_mirror_laws.specs.Acting.{Acts}
use Rattle.bx_mirror_laws.specs.Sides.{Among, Copied, WriteLetter}
use Rattle.bx_mirror_laws.specs.Sound.{Filled}
use Rattle.bx_mirror_member.specs.Acting.{IsReadHere}
use Rattle.bx_mirror_packets.specs.DeviceMessages.{Spells, body_text}
use Rattle.bx_mirror_packets.specs.declared.message.CopiedBody.{CopiedBody}
use Rattle.bx_mirror_packets.specs.declared.message.CopyBody.{CopyBody}
use Rattle.bx_mirror_packets.specs.declared.message.DeviceMessage.TheVariants.{Data, Copy, Alive}
use Rattle.bx_mirror_packets.specs.declared.message.ReadBody.{ReadBody}
use Rattle.bx_mirror_packets.specs.declared.message.WriteBody.{WriteBody}
use Rattle.bx_mirror_member.specs.Standing.{MemberView as Serving, copies, device_in, disk_in, hearing, me, partner, room_in}
use Rattle.bx_mirror_member.specs.Steps.{alive_letter, proposes, released, shift, with_owing, with_piece, with_write, wrote_to, owing, answer_letter, copied_of, owed_letters}
use Rattle.bx_mirror_client.specs.Sends.{member_at}
use Rattle.bx_mirror_server.proofs.Shifting.{copies_whole, proposes_step}
use Rattle.bx_mirror_server.specs.Serving.{AnswersRead, PutsCopy, PutsWrite, SendsPiece}
use Rattle.bx_mirror_cluster.specs.Fitting.{IsComing, Keeps, Parts, StandsFor, last_row, side_of}
use Rattle.bx_mirror_cluster.specs.GoesFurther.{GoesFurther}
use Rattle.bx_mirror_cluster.specs.MemberSteps.{history_of, served, with_serving}
use Rattle.bx_mirror_cluster.proofs.MemberAnswers.{ReadComes, answer_coming, answer_drawn, answer_reads, answer_step}
use Rattle.bx_mirror_cluster.proofs.MemberHands.{hand_goes, hand_step}
use Rattle.bx_mirror_cluster.proofs.MemberMoves.{plain_goes, step_goes}
use Rattle.bx_mirror_cluster.proofs.MemberNotes.{AnswerComes, acts, answer, answered, by_other, leads, note_goes, note_step, target_filled}
use Rattle.bx_mirror_cluster.proofs.MemberOwn.{two}
use Rattle.bx_mirror_cluster.proofs.MemberPieces.{PieceComes, target_goes, target_step}
use Rattle.bx_mirror_cluster.proofs.MemberQuiet.{quiet_goes, quiet_step}
use Rattle.bx_mirror_cluster.proofs.MemberRepeats.{ComesAgain, again_coming, again_data, again_step, owe_goes, owe_step}
use Rattle.bx_mirror_cluster.proofs.MemberSays.{old_coming, old_data, piece_coming, piece_data, piece_step, plain_step, same_serving}
use Rattle.bx_mirror_cluster.proofs.MemberSyncs.{sync_data, sync_goes, sync_step}
use Rattle.bx_mirror_cluster.proofs.MemberTakes.{MayBeTaken, take_goes, take_step}

-- what stands goes on, where a member stays as it is and no write is sent
pub says_stands : (parts : Parts) (x : Disks) (past : StorePast) (d n : ℕ) (letters : List Letter) → ((l : WriteLetter) → IsComing letters d l → IsComing past.told.letters d l) → (From : DeviceRow → Type 0) (sector : ℕ) (content : List ℕ)
    → StandsFor From parts x past d sector content → StandsFor From (with_serving parts n (parts.members n)) x (served past letters past.told.handed past.told.knew) d sector content
says_stands parts x past d n letters back From sector content stands =
    subst (λ (p : Parts). StandsFor From p x (served past letters past.told.handed past.told.knew) d sector content) (sym (same_serving parts n)) (record {
      reads = stands.reads;
      sure = stands.sure;
      coming = λ c r l other is from may leads_it comes at come brought. stands.coming c r l other is from may leads_it (back l comes) at come brought;
    })

-- nothing is done
pub stays_goes : (parts : Parts) (x : Disks) (past : StorePast) → Keeps parts x past → GoesFurther parts parts x x past past
stays_goes parts x past keeps = record {
  keeps = keeps;
  settles = λ d sector content only settled. settled;
  stands = λ d sector content index only stands. stands;
  reads = λ k read sector content asks only will. will;
  nodes = refl;
  writes = refl;
  rises = omega arith;
}

module _ (parts : Parts) (x : Disks) (past : StorePast) (keeps : Keeps parts x past) (d : ℕ) (b : Bool) (within : d < parts.made.devices) (up : past.told.down (Member (member_at d b)) ≡ false)
    (number : (parts.members (member_at d b)).number ≡ member_at d b) (made : (parts.members (member_at d b)).made ≡ parts.made) (few : parts.made.devices ≤ 4) (fits_room : Fits (store_room parts.made)) where
  abbrev n : ℕ
  n = member_at d b

  abbrev was : Serving
  was = parts.members n

  abbrev knew : Actor → ℕ
  knew = past.told.knew

  -- it stays as it is
  itself : (y : Disks) (then_ : StorePast) → GoesFurther parts (with_serving parts n was) x y past then_ → GoesFurther parts parts x y past then_
  itself y then_ goes = subst (λ (p : Parts). GoesFurther parts p x y past then_) (same_serving parts n) goes

  -- ---- a sign of life, and a piece of a copy

  pub alive_goes : GoesFurther parts parts x x past (served past (past.told.letters ++ alive_letter was ∷ []) past.told.handed knew)
  alive_goes = itself x (served past (past.told.letters ++ alive_letter was ∷ []) past.told.handed knew)
      (plain_goes parts x x past keeps d b was (past.told.letters ++ alive_letter was ∷ []) past.told.handed knew (history_of keeps.history d) (plain_step parts x past keeps d b number (alive_letter was) Alive spells refl (inr refl))
      (λ k e session epoch tag bytes a. old_data past.told.letters (alive_letter was) Alive spells (λ q. omega (arith, q)) k e session epoch tag bytes a)
      (λ From sector content low high only stands. says_stands parts x past d n (past.told.letters ++ alive_letter was ∷ []) (λ l c. old_coming past.told.letters (alive_letter was) Alive spells (omega arith) d l c) From sector content stands))
    where
      spells : Spells Alive (alive_letter was).kind (alive_letter was).body
      spells = record { is = tt; kind_is = refl; body_is = refl }

  -- one that its current row lets it make, at a place in the device
  pub piece_goes : (row : DeviceRow) → was.row ≡ Some row → copies was row ≡ true → (place : ℕ) → 1 ≤ place → place < store_room parts.made → (before after base : List Letter) → past.told.letters ≡ base ++ before
      → SendsPiece (Unit {0}) was (record { epoch = row.epoch; place = place; sectors = min 64 (room_in was - place) }) x before after → GoesFurther parts parts x x past (served past (base ++ after) past.told.handed knew)
  piece_goes row knows copying place low below before after base all sends =
      subst (λ (ls : List Letter). GoesFurther parts parts x x past (served past ls past.told.handed knew)) letters_are
      (itself x (served past (past.told.letters ++ one ∷ []) past.told.handed knew)
      (plain_goes parts x x past keeps d b was (past.told.letters ++ one ∷ []) past.told.handed knew _ (piece_step parts x past keeps d b within up number made few fits_room row knows copying place low below before after sends)
      (piece_data parts x past keeps d b within up number made few fits_room row knows copying place low below before after sends)
      (λ From sector content near high only stands. says_stands parts x past d n (past.told.letters ++ one ∷ [])
      (λ l c. piece_coming parts x past keeps d b within up number made few fits_room row knows copying place low below before after sends l c) From sector content stands)))
    where
      one : Letter
      one = record { from = me was; to = partner was; kind = 22; body = body_text (Copy (record { device = device_in was; epoch = row.epoch; place = place; bytes = sends.bytes })) }

      letters_are : past.told.letters ++ one ∷ [] ≡ base ++ after
      letters_are = ap (λ (ls : List Letter). ls ++ one ∷ []) all ∙ append_assoc base before (one ∷ []) ∙ ap (λ (ls : List Letter). base ++ ls) (sym sends.sends)

  -- ---- it hears its partner

  pub hears_goes : (reading : ℕ) → GoesFurther parts (with_serving parts n (hearing reading was)) x x past past
  hears_goes reading = plain_goes parts x x past keeps d b (hearing reading was) past.told.letters past.told.handed knew (history_of keeps.history d)
      (quiet_step parts x past keeps d b within up number (hearing reading was) number refl refl refl refl knew (λ who apart. refl) (λ r is. (keeps.devices d within).known b r is))
      (λ k e session epoch tag bytes a. a)
      (λ From sector content low high only stands. quiet_goes parts x past keeps d b within up number (hearing reading was) number refl refl refl refl knew (λ who apart. refl) (λ r is. (keeps.devices d within).known b r is) From sector content stands)

  -- ---- it hands back a step of the mode

  pub hands_goes : (row : DeviceRow) (reading : ℕ) (change : Change) → was.row ≡ Some row → row.mode < 5 → proposes was row reading ≡ Some change → GoesFurther parts parts x x past (served past past.told.letters (change ∷ past.told.handed) knew)
  hands_goes row reading change knows less proposed =
      let step = proposes_step was row reading change less proposed in
      subst (λ (c : Change). GoesFurther parts parts x x past (served past past.told.letters (c ∷ past.told.handed) knew)) (sym step.is)
      (itself x (served past past.told.letters (shift was row step.mode ∷ past.told.handed) knew)
      (plain_goes parts x x past keeps d b was past.told.letters (shift was row step.mode ∷ past.told.handed) knew (history_of keeps.history d)
      (hand_step parts x past keeps d b within up number row knows step.mode step.reaches (λ c source. inl (step.sources c source)) (λ c source. inl (step.sources c source)))
      (λ k e session epoch tag bytes a. a)
      (λ From sector content low high only stands. hand_goes parts x past keeps d b within up number row knows step.mode step.reaches (λ c source. inl (step.sources c source)) (λ c source. inl (step.sources c source)) From sector content low high stands)))

  -- ---- a sync

  pub syncs_goes : (y : Disks) → ((k s : ℕ) → k ≢ member_disk d b → Stays x y k s) → SameMemberLengths x y → y.reads ≡ x.reads → ((s : ℕ) → y.unsure (disk_in was) s ≡ false)
      → GoesFurther parts (with_serving parts n (released was)) x y past (served past (past.told.letters ++ owed_letters was) past.told.handed knew)
  syncs_goes y disks lengths reads sure = plain_goes parts x y past keeps d b (released was) (past.told.letters ++ owed_letters was) past.told.handed knew _
      (sync_step parts x y past keeps d b within up number disks lengths reads sure) (sync_data parts x y past keeps d b within up number disks lengths reads sure)
      (λ From sector content low high only stands. sync_goes parts x y past keeps d b within up number disks lengths reads sure From sector content low high stands)

  -- ---- writes

  pub takes_goes : (y : Disks) → ((k s : ℕ) → k ≢ member_disk d b → Stays x y k s) → SameMemberLengths x y → (from : Actor) (reading : ℕ) (w : WriteBody) → MayBeTaken parts past d b from reading w → (before after : List Letter)
      → PutsWrite (Unit {0}) from w was (with_write from w was) before after x y → GoesFurther parts (with_serving parts n (with_write from w was)) x y past past
  takes_goes y disks lengths from reading w comes before after puts = plain_goes parts x y past keeps d b (with_write from w was) past.told.letters past.told.handed knew (history_of keeps.history d)
      (take_step parts x y past keeps d b within up number disks lengths from reading w comes before after puts) (λ k e session epoch tag bytes a. a)
      (λ From sector content low high only stands. take_goes parts x y past keeps d b within up number disks lengths from reading w comes before after puts From sector content only stands)

  pub again_goes : (from : Actor) (reading : ℕ) (w : WriteBody) → ComesAgain parts past d b reading w → was.owed ≡ [] → GoesFurther parts parts x x past (served past (past.told.letters ++ answer_letter was (owing from (wrote_to w)) ∷ []) past.told.handed knew)
  again_goes from reading w comes none = itself x (served past (past.told.letters ++ answer_letter was (owing from (wrote_to w)) ∷ []) past.told.handed knew)
      (plain_goes parts x x past keeps d b was (past.told.letters ++ answer_letter was (owing from (wrote_to w)) ∷ []) past.told.handed knew _ (again_step parts x past keeps d b within up number from reading w comes none)
      (again_data parts x past keeps d b within up number from reading w comes none)
      (λ From sector content low high only stands. says_stands parts x past d n (past.told.letters ++ answer_letter was (owing from (wrote_to w)) ∷ []) (λ l c. again_coming parts x past keeps d b within up number from reading w comes none l c) From sector content stands))

  pub owes_goes : (from : Actor) (reading : ℕ) (w : WriteBody) → ComesAgain parts past d b reading w → GoesFurther parts (with_serving parts n (with_owing (owing from (wrote_to w)) was)) x x past past
  owes_goes from reading w comes = plain_goes parts x x past keeps d b (with_owing (owing from (wrote_to w)) was) past.told.letters past.told.handed knew (history_of keeps.history d) (owe_step parts x past keeps d b within up number from reading w comes)
      (λ k e session epoch tag bytes a. a) (λ From sector content low high only stands. owe_goes parts x past keeps d b within up number from reading w comes From sector content stands)

  -- ---- reads

  pub answers_goes : (from : Actor) (r : ReadBody) → ReadComes past from r → (here : IsReadHere was r) → (before after base : List Letter) → past.told.letters ≡ base ++ before → AnswersRead (Unit {0}) from r was was before after x x
      → GoesFurther parts parts x x past (served past (base ++ after) past.told.handed knew)
  answers_goes from r comes here before after base all answers =
      subst (λ (ls : List Letter). GoesFurther parts parts x x past (served past ls past.told.handed knew)) letters_are
      (itself x (served past (past.told.letters ++ one ∷ []) past.told.handed knew)
      (step_goes parts x x past keeps d b was (past.told.letters ++ one ∷ []) past.told.handed knew (history_of keeps.history d) (answer_step parts x past keeps d b within up number from r comes here before after answers)
      (answer_drawn parts x past keeps d b within up number from r comes here before after answers)
      (λ From sector content low high only stands. says_stands parts x past d n (past.told.letters ++ one ∷ []) (λ l c. answer_coming parts x past keeps d b within up number from r comes here before after answers l c) From sector content stands)
      (answer_reads parts x past keeps d b within up number from r comes here before after answers)))
    where
      one : Letter
      one = record { from = me was; to = from; kind = 21; body = body_text (Data (record { session = r.session; device = r.device; epoch = r.epoch; tag = r.tag; bytes = answers.bytes })) }

      letters_are : past.told.letters ++ one ∷ [] ≡ base ++ after
      letters_are = ap (λ (ls : List Letter). ls ++ one ∷ []) all ∙ append_assoc base before (one ∷ []) ∙ ap (λ (ls : List Letter). base ++ ls) (sym answers.sends)

  -- ---- copies

  pub target_takes : (y : Disks) → ((k s : ℕ) → k ≢ member_disk d b → Stays x y k s) → SameMemberLengths x y → (from : Actor) (c : CopyBody) → PieceComes parts past d b c → PutsCopy (Unit {0}) from c was (with_piece from (copied_of c) was) x y
      → GoesFurther parts (with_serving parts n (with_piece from (copied_of c) was)) x y past past
  target_takes y disks lengths from c comes puts = plain_goes parts x y past keeps d b (with_piece from (copied_of c) was) past.told.letters past.told.handed knew (history_of keeps.history d)
      (target_step parts x y past keeps d b within up number disks lengths from c comes puts) (λ k e session epoch tag bytes a. a)
      (λ From sector content low high only stands. target_goes parts x y past keeps d b within up number disks lengths from c comes puts From sector content low high stands)

  pub notes_goes : (c : CopiedBody) (row : DeviceRow) → AnswerComes parts past d b c row → GoesFurther parts (with_serving parts n (record was { place = was.place + 64 })) x x past past
  notes_goes c row comes = plain_goes parts x x past keeps d b (record was { place = was.place + 64 }) past.told.letters past.told.handed knew (history_of keeps.history d) (note_step parts x past keeps d b within up number c row comes)
      (λ k e session epoch tag bytes a. a) (λ From sector content low high only stands. note_goes parts x past keeps d b within up number c row comes From sector content low high stands)

  pub whole_goes : (c : CopiedBody) (row : DeviceRow) → AnswerComes parts past d b c row → 1 < store_room parts.made → store_room parts.made ≤ was.place + 64 → GoesFurther parts parts x x past (served past past.told.letters (shift was row both ∷ past.told.handed) knew)
  whole_goes c row comes some whole =
      let step = copies_whole was row comes.noted.source in
      itself x (served past past.told.letters (shift was row both ∷ past.told.handed) knew)
      (plain_goes parts x x past keeps d b was past.told.letters (shift was row both ∷ past.told.handed) knew (history_of keeps.history d)
      (hand_step parts x past keeps d b within up number row comes.noted.acts.row_is both step.reaches kinds labelled) (λ k e session epoch tag bytes a. a)
      (λ From sector content low high only stands. hand_goes parts x past keeps d b within up number row comes.noted.acts.row_is both step.reaches kinds labelled From sector content low high stands))
    where
      kinds : (t : Bool) → IsSource both t → IsSource row.mode t ⊎ ((b ≡ not t) × Filled (store_room parts.made) (last_row past.told.chain d) (keeps.history.source d) t (side_of past.told x parts.members d t) row × Acts b (side_of past.told x parts.members d b) row × IsSource row.mode b)
      kinds t source = elim (two b t) [
        | inl e ↦ inl (subst (λ (q : Bool). IsSource row.mode q) (sym e) (leads parts x past keeps d b within up number c row comes).1)
        | inr e ↦ inr (
          other t e,
          subst (λ (q : Bool). Filled (store_room parts.made) (last_row past.told.chain d) (keeps.history.source d) q (side_of past.told x parts.members d q) row) (sym e) (target_filled parts x past keeps d b within up number c row comes some whole),
          acts parts x past keeps d b within up number c row comes,
          (leads parts x past keeps d b within up number c row comes).1,
        )
      ]
        where
          other : (q : Bool) → q ≡ not b → b ≡ not q
          other true e = opposite b e
            where
              opposite : (z : Bool) → true ≡ not z → z ≡ false
              opposite true wrong = absurd cc
              opposite false fine = refl
          other false e = opposite b e
            where
              opposite : (z : Bool) → false ≡ not z → z ≡ true
              opposite true fine = refl
              opposite false wrong = absurd cc

      labelled : (t : Bool) → IsSource both t → IsSource row.mode t ⊎ ((q : Copied) × Among (keeps.history.copieds d) q × (q.by ≡ t) × (q.epoch ≡ row.epoch))
      labelled t source = elim (two b t) [
        | inl e ↦ inl (subst (λ (q : Bool). IsSource row.mode q) (sym e) (leads parts x past keeps d b within up number c row comes).1)
        | inr e ↦ inr (answer parts x past keeps d b within up number c row comes, answered parts x past keeps d b within up number c row comes, by_other parts x past keeps d b within up number c row comes ∙ sym e, sym comes.noted.acts.epoch_is)
      ]
