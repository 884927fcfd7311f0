-- All that a member does once it knows the state: a packet, a tick or a sync, as an event of the whole store.
use Rattle.std.proofs.Common.{◌≡◌, ◌≢◌, inl, inr, ℕ, ◌+◌, ◌-◌, ◌*◌, ◌/◌, ◌<◌, ◌≤◌, Bool, true, false, Contains, List, [], ◌∷◌, ◌++◌, Option, Some, None, refl, sym, ◌∙◌, ap, subst, arith}
use Rattle.std.specs.Prelude.{◌==◌, ◌&&◌, ltb, not, if◌then◌else◌}
use Rattle.std.proofs.lemmas.Bool.Decides.{nat_tests}
use Rattle.std.proofs.lemmas.List.{append_assoc}
use Rattle.std.proofs.lemmas.List.Elements.{Contains-append_left}
use Rattle.bx_base.specs.declared.names.Actor.{Actor}
use Rattle.bx_base.specs.declared.names.Actor.TheVariants.{Member}
use Rattle.bx_disk.specs.Disks.{Disks, Stays}
use Rattle.bx_facts.specs.Chains.{with_change}
use Rattle.bx_facts.specs.Disks.{SameMemberLengths}
use Rattle.bx_facts.specs.Inputs.{IsComing as Arrives, IsSteady}
use Rattle.bx_facts.specs.Writes.{StorePast, member_disk, store_room}
use Rattle.bx_facts.specs.declared.input.Input.{Input}
use Rattle.bx_facts.specs.declared.input.Input.TheVariants.{Packet, Tick, Synced}
use Rattle.bx_global.specs.declared.change.Change.{Change}
use Rattle.bx_post.specs.Posts.{letter_of}
use Rattle.bx_post.specs.declared.packets.Letter.{Letter}
use Rattle.bx_rows.specs.Conditions.{Fits}
use Rattle.bx_rows.specs.Modes.{both}
use Rattle.bx_rows.specs.declared.device.DeviceRow.{DeviceRow}
use Rattle.bx_mirror_client.proofs.Telling.{both as both_true}
use Rattle.bx_mirror_packets.specs.DeviceMessages.{Spells}
use Rattle.bx_mirror_packets.specs.declared.message.CopiedBody.{CopiedBody}
use Rattle.bx_mirror_packets.specs.declared.message.DeviceMessage.{DeviceMessage}
use Rattle.bx_mirror_packets.specs.declared.message.DeviceMessage.TheVariants.{Write, Wrote as WroteOf, Read, Data, Copy, Copied as CopiedOf, Alive}
use Rattle.bx_mirror_packets.specs.declared.message.WriteBody.{WriteBody}
use Rattle.bx_mirror_member.specs.Acting.{IsNoted, Judges}
use Rattle.bx_mirror_member.specs.Standing.{MemberView as Serving, copies, current_piece, hearing, piece_at, piece_in, room_in}
use Rattle.bx_mirror_member.specs.Steps.{alive_letter, answer_letter, copied_of, gone_on, is_last_piece, owed_letters, owing, progress_in, proposes_in, released, shift, with_owing, with_piece, with_write, wrote_to}
use Rattle.bx_mirror_member.specs.declared.copies.Progress.{Progress}
use Rattle.bx_mirror_member.specs.declared.copies.Progress.TheVariants.{Next, Unchanged, Whole}
use Rattle.bx_mirror_member.specs.declared.judging.Judgement.{Judgement}
use Rattle.bx_mirror_member.specs.declared.judging.Judgement.TheVariants.{Refused, Repeated, Taken}
use Rattle.bx_mirror_client.specs.Sends.{member_at}
use Rattle.bx_mirror_server.specs.Serving.{DoesWrite, OfInput, OfMessage, OfSaid, Passes, SaysOr, SendsAny, TakesCopied, change_of, piece_of}
use Rattle.bx_mirror_cluster.specs.Fitting.{Keeps, Parts}
use Rattle.bx_mirror_cluster.specs.GoesFurther.{GoesFurther}
use Rattle.bx_mirror_cluster.specs.MemberSteps.{IsFor, served, with_serving}
use Rattle.bx_mirror_cluster.proofs.MemberActs.{again_goes, alive_goes, answers_goes, hands_goes, hears_goes, notes_goes, owes_goes, piece_goes, stays_goes, syncs_goes, takes_goes, target_takes, whole_goes}
use Rattle.bx_mirror_cluster.proofs.MemberDecides.{noted_or, owed_or}
use Rattle.bx_mirror_cluster.proofs.MemberLearns.{copies_then}
use Rattle.bx_mirror_cluster.proofs.MemberMoves.{both_go}
use Rattle.bx_mirror_cluster.proofs.MemberSays.{same_serving}

module _ (parts : Parts) (x y : Disks) (past : StorePast) (keeps : Keeps parts x past) (d : ℕ) (b : Bool) (within : d < parts.made.devices) (up : past.told.down (Member (member_at d b)) ≡ false)
    (number : (parts.members (member_at d b)).number ≡ member_at d b) (made : (parts.members (member_at d b)).made ≡ parts.made) (few : parts.made.devices ≤ 4) (fits_room : Fits (store_room parts.made))
    (below : (parts.members (member_at d b)).place < store_room parts.made) (quiet : (parts.members (member_at d b)).due ≡ false → (parts.members (member_at d b)).owed ≡ []) (modes : (row : DeviceRow) → (parts.members (member_at d b)).row ≡ Some row → row.mode < 5)
    (disks : (k s : ℕ) → k ≢ member_disk d b → Stays x y k s) (lengths : SameMemberLengths x y) (base before after : List Letter) (all : past.told.letters ≡ base ++ before) (new : Serving) (change : Option Change) where
  abbrev n : ℕ
  n = member_at d b

  abbrev was : Serving
  was = parts.members n

  abbrev knew : Actor → ℕ
  knew = past.told.knew

  abbrev Result : Type 0
  Result = GoesFurther parts (with_serving parts n new) x y past (served past (base ++ after) (with_change change past.told.handed) knew)

  -- ---- what is shown of another member, disks, letters and change is shown

  result : (m : Serving) (z : Disks) (letters : List Letter) (change_is : Option Change) → new ≡ m → y ≡ z → letters ≡ base ++ after → change ≡ change_is
      → GoesFurther parts (with_serving parts n m) x z past (served past letters (with_change change_is past.told.handed) knew) → Result
  result m z letters change_is member disk letters_are hands goes =
      subst (λ (c : Option Change). GoesFurther parts (with_serving parts n new) x y past (served past (base ++ after) (with_change c past.told.handed) knew)) (sym hands)
      (subst (λ (ls : List Letter). GoesFurther parts (with_serving parts n new) x y past (served past ls (with_change change_is past.told.handed) knew)) letters_are
      (subst (λ (w : Disks). GoesFurther parts (with_serving parts n new) x w past (served past letters (with_change change_is past.told.handed) knew)) (sym disk)
      (subst (λ (q : Serving). GoesFurther parts (with_serving parts n q) x z past (served past letters (with_change change_is past.told.handed) knew)) (sym member) goes)))

  no_letter : after ≡ before → past.told.letters ≡ base ++ after
  no_letter sends = all ∙ ap (λ (ls : List Letter). base ++ ls) (sym sends)

  one_letter : (one : Letter) → after ≡ before ++ one ∷ [] → past.told.letters ++ one ∷ [] ≡ base ++ after
  one_letter one sends = ap (λ (ls : List Letter). ls ++ one ∷ []) all ∙ append_assoc base before (one ∷ []) ∙ ap (λ (ls : List Letter). base ++ ls) (sym sends)

  -- the member stays as it is
  same_one : (z : Disks) (then_ : StorePast) → GoesFurther parts parts x z past then_ → GoesFurther parts (with_serving parts n was) x z past then_
  same_one z then_ goes = subst (λ (p : Parts). GoesFurther parts p x z past then_) (sym (same_serving parts n)) goes

  stays : new ≡ was → after ≡ before → change ≡ None → y ≡ x → Result
  stays member sends hands disk = result was x past.told.letters None member disk (no_letter sends) hands (same_one x past (stays_goes parts x past keeps))

  passes : Passes was new before after x y → change ≡ None → Result
  passes it hands = stays it.member it.sends hands it.disk

  -- ---- a packet

  module _ (reading : ℕ) (from : Actor) (letter : Letter) (there : Contains past.told.letters letter) (to : letter.to ≡ Member n) (from_is : letter.from ≡ from) (steady : past.told.greatest ≤ reading + 500) where
    of_write : (w : WriteBody) → Spells (Write w) letter.kind letter.body → (j : Judgement) → Judges was reading w j → DoesWrite (Unit {0}) j from w was new before after x y → change ≡ None → Result
    of_write w spells Taken judged it hands = result (with_write from w was) y past.told.letters None it.member refl (no_letter it.sends) hands
        (takes_goes parts x past keeps d b within up number made few fits_room y disks lengths from reading w (record { letter = letter; there = there; to = to; from_is = from_is; spells = spells; steady = steady; taken = judged }) before after
        (record { member = refl; sends = it.sends; puts = it.puts }))
    of_write w spells Repeated judged it hands = by was.due refl
      where
        by : (t : Bool) → was.due ≡ t → Result
        by false e = let k = it.repeats.at_once e in
            result was x (past.told.letters ++ answer_letter was (owing from (wrote_to w)) ∷ []) None k.0 it.disk (one_letter (answer_letter was (owing from (wrote_to w))) k.1) hands
            (same_one x (served past (past.told.letters ++ answer_letter was (owing from (wrote_to w)) ∷ []) past.told.handed knew)
            (again_goes parts x past keeps d b within up number made few fits_room from reading w (record { letter = letter; there = there; to = to; spells = spells; repeated = judged }) (quiet e)))
        by true e = elim (owed_or was.owed (owing from (wrote_to w))) [
          | inl has ↦ stays (it.repeats.once e has) (it.repeats.waits e) hands it.disk
          | inr none ↦ result (with_owing (owing from (wrote_to w)) was) x past.told.letters None (it.repeats.owes e none) it.disk (no_letter (it.repeats.waits e)) hands
              (owes_goes parts x past keeps d b within up number made few fits_room from reading w (record { letter = letter; there = there; to = to; spells = spells; repeated = judged }))
        ]
    of_write w spells Refused judged it hands = passes it hands

    -- an answer to its piece
    of_copied : (c : CopiedBody) → Spells (CopiedOf c) letter.kind letter.body → TakesCopied (Unit {0}) c was new change before after x y → Result
    of_copied c spells it = elim (noted_or was c) [
      | inr none ↦ unchanged it.progress (it.is.ignored none) it.member it.sends it.hands
      | inl yes_it ↦ noted yes_it.0 yes_it.1 it.progress (it.is.noted yes_it.0 yes_it.1) it.member it.sends it.hands (is_last_piece was) refl
    ]
      where
        unchanged : (progress : Progress) → progress ≡ Unchanged → new ≡ gone_on progress was → SendsAny (Unit {0}) was (piece_of progress) x before after → change ≡ change_of progress → Result
        unchanged progress is member sends hands =
            stays (member ∙ ap (λ (p : Progress). gone_on p was) is) (subst (λ (p : Progress). SendsAny (Unit {0}) was (piece_of p) x before after) is sends) (hands ∙ ap change_of is) it.disk

        noted : (row : DeviceRow) → IsNoted was c row → (progress : Progress) → progress ≡ progress_in was row → new ≡ gone_on progress was → SendsAny (Unit {0}) was (piece_of progress) x before after → change ≡ change_of progress
            → (t : Bool) → is_last_piece was ≡ t → Result
        noted row is_noted progress is member sends hands true e =
            let whole : progress ≡ Whole (shift was row both) = is ∙ ap (λ (q : Bool). if q then Whole (shift was row both) else Next (piece_at was row.epoch (was.place + 64))) e in
            let ends = room_ends (ltb (was.place + 64) (room_in was)) refl e in
            result was x past.told.letters (Some (shift was row both)) (member ∙ ap (λ (p : Progress). gone_on p was) whole) it.disk (no_letter (subst (λ (p : Progress). SendsAny (Unit {0}) was (piece_of p) x before after) whole sends)) (hands ∙ ap change_of whole)
            (same_one x (served past past.told.letters (shift was row both ∷ past.told.handed) knew)
            (whole_goes parts x past keeps d b within up number made few fits_room c row (record { letter = letter; there = there; spells = spells; noted = is_noted }) (more ((parts.made.areas + parts.made.devices - 1) / parts.made.devices)) ends))
          where
            more : (k : ℕ) → 1 < 9345 + 8649 * k
            more k = omega arith

            room_ends : (q : Bool) → ltb (was.place + 64) (room_in was) ≡ q → not q ≡ true → store_room parts.made ≤ was.place + 64
            room_ends true less wrong = absurd cc
            room_ends false less fine = let same = ap store_room made in let not_less : room_in was ≤ was.place + 64 = grind (arith, nat_tests, less) in omega (arith, same, not_less)
        noted row is_noted progress is member sends hands false e =
            let next : progress ≡ Next (piece_at was row.epoch (was.place + 64)) = is ∙ ap (λ (q : Bool). if q then Whole (shift was row both) else Next (piece_at was row.epoch (was.place + 64))) e in
            let its = subst (λ (p : Progress). SendsAny (Unit {0}) was (piece_of p) x before after) next sends in
            let begins = room_left (ltb (was.place + 64) (room_in was)) refl e in
            let first = piece_goes parts x past keeps d b within up number made few fits_room row is_noted.acts.row_is (copies_then was row is_noted.acts.named is_noted.source) (was.place + 64) (omega arith) begins before after base all its in
            let still : Contains (base ++ after) letter =
            subst (λ (ls : List Letter). Contains ls letter) (one_letter _ its.sends) (Contains-append_left past.told.letters _ letter there) in
            let second = notes_goes parts x (served past (base ++ after) past.told.handed knew) first.keeps d b within up number made few fits_room c row (record { letter = letter; there = still; spells = spells; noted = is_noted }) in
            result (record was { place = was.place + 64 }) x (base ++ after) None (member ∙ ap (λ (p : Progress). gone_on p was) next) it.disk refl (hands ∙ ap change_of next)
            (both_go parts parts (with_serving parts n (record was { place = was.place + 64 })) x x x past (served past (base ++ after) past.told.handed knew) (served past (base ++ after) past.told.handed knew) first second)
          where
            room_left : (q : Bool) → ltb (was.place + 64) (room_in was) ≡ q → not q ≡ false → was.place + 64 < store_room parts.made
            room_left true less fine = let same = ap store_room made in let it_is : was.place + 64 < room_in was = grind (arith, nat_tests, less) in omega (arith, same, it_is)
            room_left false less wrong = absurd cc

    of_message : (message : DeviceMessage) → Spells message letter.kind letter.body → OfMessage (Unit {0}) reading from message was new change before after x y → Result
    of_message (Write w) spells does = of_write w spells does.0.judgement does.0.judged does.0.does does.1
    of_message (WroteOf w) spells does = passes does.0 does.1
    of_message (Read r) spells does = elim does.0 [
      | inl yes_it ↦ (let it = yes_it.1 in result was x (base ++ after) None it.member it.disk refl does.1
          (same_one x (served past (base ++ after) past.told.handed knew)
          (answers_goes parts x past keeps d b within up number made few fits_room from r (record { letter = letter; there = there; from_is = from_is; spells = spells }) yes_it.0 before after base all
          (record { bytes = it.bytes; long = it.long; reads = it.reads; sends = it.sends; member = refl; disk = refl }))))
      | inr not_it ↦ passes not_it.1 does.1
    ]
    of_message (Data q) spells does = passes does.0 does.1
    of_message (Copy c) spells does = elim does.0 [
      | inl yes_it ↦ result (with_piece from (copied_of c) was) y past.told.letters None yes_it.1.member refl (no_letter does.1) does.2
          (target_takes parts x past keeps d b within up number made few fits_room y disks lengths from c (record { letter = letter; there = there; spells = spells; here = yes_it.0 }) (record { member = refl; puts = yes_it.1.puts }))
      | inr not_it ↦ stays not_it.1 does.1 does.2 not_it.2
    ]
    of_message (CopiedOf c) spells does = of_copied c spells does
    of_message Alive spells does = result (hearing reading was) x past.told.letters None does.0.member does.0.disk (no_letter does.0.sends) does.1 (hears_goes parts x past keeps d b within up number made few fits_room reading)

    of_said : (said : Option DeviceMessage) → SaysOr letter.kind letter.body said → OfSaid (Unit {0}) reading from said was new change before after x y → Result
    of_said None says does = passes does.0 does.1
    of_said (Some message) says does = of_message message says does

  -- ---- a tick

  module _ (reading : ℕ) (member : new ≡ was) (disk : y ≡ x) (hands : change ≡ proposes_in was was.row reading) where
    abbrev alive : Letter
    alive = alive_letter was

    abbrev past_alive : StorePast
    past_alive = served past (past.told.letters ++ alive ∷ []) past.told.handed knew

    abbrev past_said : StorePast
    past_said = served past (base ++ after) past.told.handed knew

    letters_alive : past.told.letters ++ alive ∷ [] ≡ base ++ (before ++ alive ∷ [])
    letters_alive = ap (λ (ls : List Letter). ls ++ alive ∷ []) all ∙ append_assoc base before (alive ∷ [])

    lives : GoesFurther parts parts x x past past_alive
    lives = alive_goes parts x past keeps d b within up number made few fits_room

    -- the current piece goes again
    says : (o : Option DeviceRow) → was.row ≡ o → SendsAny (Unit {0}) was (piece_in was o) x (before ++ alive ∷ []) after → GoesFurther parts parts x x past_alive past_said
    says None e sends = none_said sends
      where
        none_said : after ≡ before ++ alive ∷ [] → GoesFurther parts parts x x past_alive past_said
        none_said is = subst (λ (ls : List Letter). GoesFurther parts parts x x past_alive (served past ls past.told.handed knew)) (letters_alive ∙ ap (λ (ls : List Letter). base ++ ls) (sym is)) (stays_goes parts x past_alive lives.keeps)
    says (Some row) e sends = by (copies was row && not (was.place == 0)) refl sends
      where
        none_said : after ≡ before ++ alive ∷ [] → GoesFurther parts parts x x past_alive past_said
        none_said is = subst (λ (ls : List Letter). GoesFurther parts parts x x past_alive (served past ls past.told.handed knew)) (letters_alive ∙ ap (λ (ls : List Letter). base ++ ls) (sym is)) (stays_goes parts x past_alive lives.keeps)

        some_place : (z : Bool) → (was.place == 0) ≡ z → not z ≡ true → 1 ≤ was.place
        some_place true is wrong = absurd cc
        some_place false is fine = grind (arith, nat_tests, is)

        by : (t : Bool) → (copies was row && not (was.place == 0)) ≡ t → SendsAny (Unit {0}) was (if t then Some (piece_at was row.epoch was.place) else None) x (before ++ alive ∷ []) after → GoesFurther parts parts x x past_alive past_said
        by false is none = none_said none
        by true is its =
            let k = both_true (copies was row) (not (was.place == 0)) is in
            piece_goes parts x past_alive lives.keeps d b within up number made few fits_room row e k.0 was.place (some_place (was.place == 0) refl k.1) below (before ++ alive ∷ []) after base letters_alive its

    -- what it proposes is handed back
    proposed : (keeps_said : Keeps parts x past_said) (o : Option DeviceRow) → was.row ≡ o → (q : Option Change) → proposes_in was o reading ≡ q → GoesFurther parts parts x x past_said (served past (base ++ after) (with_change q past.told.handed) knew)
    proposed keeps_said o e None is = stays_goes parts x past_said keeps_said
    proposed keeps_said None e (Some c) is = absurd (let wrong : None ≡ Some c = is in cc)
    proposed keeps_said (Some row) e (Some c) is = hands_goes parts x past_said keeps_said d b within up number made few fits_room row reading c e (modes row e) is

    tick_goes : SendsAny (Unit {0}) was (current_piece was) x (before ++ alive ∷ []) after → Result
    tick_goes sends =
        let second = says was.row refl sends in
        let first = both_go parts parts parts x x x past past_alive past_said lives second in
        let third = proposed first.keeps was.row refl (proposes_in was was.row reading) refl in
        result was x (base ++ after) (proposes_in was was.row reading) member disk refl hands
        (same_one x (served past (base ++ after) (with_change (proposes_in was was.row reading) past.told.handed) knew)
        (both_go parts parts parts x x x past past_said (served past (base ++ after) (with_change (proposes_in was was.row reading) past.told.handed) knew) first third))

  -- ---- all of it

  pub input_goes : (input : Input) → Arrives past.told.letters input → IsFor (Member n) input → IsSteady past.told.greatest input → OfInput (Unit {0}) input was new change before after x y → Result
  input_goes (Packet packet reading) arrives for_it steady does = of_said reading packet.now.from (letter_of packet.now) arrives for_it refl steady does.said does.says does.does
  input_goes (Tick reading) arrives for_it steady does = tick_goes reading does.member does.disk does.hands does.sends
  input_goes Synced arrives for_it steady does = result (released was) y (past.told.letters ++ owed_letters was) None does.member refl
      (ap (λ (ls : List Letter). ls ++ owed_letters was) all ∙ append_assoc base before (owed_letters was) ∙ ap (λ (ls : List Letter). base ++ ls) (sym does.sends)) does.hands
      (syncs_goes parts x past keeps d b within up number made few fits_room y disks lengths (does.reads tt) (λ s. does.sure s tt))
