-- A member stays the one of its number, of its volume, through all that it does.
use Rattle.std.proofs.Common.{◌≡◌, inl, inr, ℕ, ◌+◌, ◌-◌, ◌*◌, ◌/◌, ◌<◌, ◌≤◌, min, Bool, true, false, List, [], ◌∷◌, Option, Some, None, Result, Ok, Err, IfOk, refl, sym, ◌∙◌, ap, subst, arith}
use Rattle.std.specs.Prelude.{IsErrOf, ltb, not, slice_get, if◌then◌else◌}
use Rattle.std.proofs.lemmas.Bool.{cases_eq, cases_lt}
use Rattle.std.proofs.lemmas.Bool.Decides.{nat_tests}
use Rattle.bx_base.specs.declared.names.Actor.{Actor}
use Rattle.bx_disk.specs.Disks.{Disks}
use Rattle.bx_disk.specs.declared.fault.RackError.{RackError}
use Rattle.bx_disk.specs.declared.fault.RackError.TheVariants.{Fault}
use Rattle.bx_facts.specs.Writes.{Made, store_room}
use Rattle.bx_facts.specs.declared.input.Input.{Input}
use Rattle.bx_facts.specs.declared.input.Input.TheVariants.{Packet, Tick, Synced}
use Rattle.bx_global.specs.declared.change.Change.{Change}
use Rattle.bx_global.specs.declared.state.GlobalState.{GlobalState}
use Rattle.bx_post.specs.declared.packets.Letter.{Letter}
use Rattle.bx_rows.specs.declared.device.DeviceRow.{DeviceRow}
use Rattle.bx_rows.specs.Modes.{both}
use Rattle.bx_mirror_packets.specs.declared.message.CopiedBody.{CopiedBody}
use Rattle.bx_mirror_packets.specs.declared.message.DeviceMessage.{DeviceMessage}
use Rattle.bx_mirror_packets.specs.declared.message.DeviceMessage.TheVariants.{Write, Wrote, Read, Data, Copy, Copied, Alive}
use Rattle.bx_mirror_packets.specs.declared.message.WriteBody.{WriteBody}
use Rattle.bx_mirror_tables.specs.declared.answers.Owing.{Owing}
use Rattle.bx_mirror_member.specs.Acting.{IsNoted}
use Rattle.bx_mirror_member.specs.Standing.{MemberView, copies, device_in, hearing, is_news, learned, learned_row, new_member, piece_at, room_in, started, with_row}
use Rattle.bx_mirror_member.specs.Steps.{IsProgress, IsWithin, Repeats, gone_on, progress_in, shift}
use Rattle.bx_mirror_member.specs.declared.copies.Progress.{Progress}
use Rattle.bx_mirror_member.specs.declared.copies.Progress.TheVariants.{Unchanged, Next, Whole}
use Rattle.bx_mirror_member.specs.declared.judging.Judgement.{Judgement}
use Rattle.bx_mirror_member.specs.declared.judging.Judgement.TheVariants.{Taken, Repeated, Refused}
use Rattle.bx_mirror_server.specs.Serving.{Does, DoesWrite, OfInput, OfMessage, OfSaid}
use Rattle.bx_devices.specs.Machines.{IsOwn}

-- ---- equal numbers, where they can't differ

stable : (a b : ℕ) → ((a ≡ b → ⊥) → ⊥) → a ≡ b
stable a b differ_not = elim (cases_eq a b) [ inl same ↦ same | inr apart ↦ absurd (differ_not (λ e. apart e)) ]

made_same : (a b : Made) → a.volume ≡ b.volume → a.nodes ≡ b.nodes → a.devices ≡ b.devices → a.areas ≡ b.areas → a ≡ b
made_same a b volume nodes devices areas =
    ap (λ (k : ℕ). record { volume = k; nodes = a.nodes; devices = a.devices; areas = a.areas }) volume
    ∙ (ap (λ (k : ℕ). record { volume = b.volume; nodes = k; devices = a.devices; areas = a.areas }) nodes
    ∙ (ap (λ (k : ℕ). record { volume = b.volume; nodes = b.nodes; devices = k; areas = a.areas }) devices
    ∙ ap (λ (k : ℕ). record { volume = b.volume; nodes = b.nodes; devices = b.devices; areas = k }) areas))

none_owed : (owed : List Owing) → ((owed ≡ [] → ⊥) → ⊥) → owed ≡ []
none_owed [] differ_not = refl
none_owed (o ∷ owed) differ_not = absurd (differ_not (λ e. cc))

pub some_room : (made : Made) → 2 ≤ store_room made
some_room made = positive ((made.areas + made.devices - 1) / made.devices)
  where
    positive : (n : ℕ) → 2 ≤ 9345 + 8649 * n
    positive n = omega arith

own_stable : (made : Made) (n : ℕ) (m : MemberView) → ((IsOwn made n m → ⊥) → ⊥) → IsOwn made n m
own_stable made n m is = record {
  number = stable m.number n (λ no. is (λ own. no own.number));
  place = elim (cases_lt m.place (store_room made)) [ inl less ↦ less | inr far ↦ absurd (is (λ own. let less = own.place in omega (arith, less, far))) ];
  quiet = λ due. none_owed m.owed (λ some. is (λ own. some (own.quiet due)));
  made_is = made_same m.made made
      (stable m.made.volume made.volume (λ no. is (λ own. no (ap (λ (k : Made). k.volume) own.made_is))))
      (stable m.made.nodes made.nodes (λ no. is (λ own. no (ap (λ (k : Made). k.nodes) own.made_is))))
      (stable m.made.devices made.devices (λ no. is (λ own. no (ap (λ (k : Made). k.devices) own.made_is))))
      (stable m.made.areas made.areas (λ no. is (λ own. no (ap (λ (k : Made). k.areas) own.made_is))));
}

-- ---- events

module _ (made : Made) (n : ℕ) where
  same : (m new : MemberView) → new ≡ m → IsOwn made n m → IsOwn made n new
  same m new e own = subst (λ (k : MemberView). IsOwn made n k) (sym e) own

  -- what has its number and its volume is its own
  alike : (m new : MemberView) → new.number ≡ m.number → new.made ≡ m.made → new.place < store_room made → (new.due ≡ false → new.owed ≡ []) → IsOwn made n m → IsOwn made n new
  alike m new number is place quiet own = record { number = number ∙ own.number; made_is = is ∙ own.made_is; place = place; quiet = quiet }

  learned_own : (m : MemberView) (row : Option DeviceRow) → IsOwn made n m → IsOwn made n (learned_row m row)
  learned_own m None own = own
  learned_own m (Some row) own = by_news (is_news m.row row)
    where
      by_copy : (b : Bool) → (if b then 1 else 0) < store_room made
      by_copy true = let some = some_room made in omega (arith, some)
      by_copy false = let some = some_room made in omega (arith, some)

      by_news : (b : Bool) → IsOwn made n (if b then with_row m row else m)
      by_news true = alike m (with_row m row) refl refl (by_copy (copies m row)) own.quiet own
      by_news false = own

  repeats_own : (from : Actor) (w : WriteBody) (m new : MemberView) (before after : List Letter) → Repeats from w m new before after → IsOwn made n m → IsOwn made n new
  repeats_own from w m new before after is own = by_due m.due refl
    where
      by_due : (b : Bool) → m.due ≡ b → IsOwn made n new
      by_due true due = own_stable made n new (λ no. no (same _ new (is.owes due (λ has. no (same m new (is.once due has) own))) (alike m _ refl refl own.place (λ e. absurd (let no_due : true ≡ false = sym due ∙ e in cc)) own)))
      by_due false due = same m new (is.at_once due).0 own

  write_own : (Told : Type 0) (judgement : Judgement) (from : Actor) (w : WriteBody) (m new : MemberView) (before after : List Letter) (old now : Disks) → DoesWrite Told judgement from w m new before after old now → IsOwn made n m → IsOwn made n new
  write_own Told Taken from w m new before after old now is own = same _ new is.member (alike m _ refl refl own.place (λ e. absurd cc) own)
  write_own Told Repeated from w m new before after old now is own = repeats_own from w m new before after is.repeats own
  write_own Told Refused from w m new before after old now is own = same m new is.member own

  gone_own : (progress : Progress) (m : MemberView) → IsWithin (store_room made) progress → IsOwn made n m → IsOwn made n (gone_on progress m)
  gone_own Unchanged m within own = own
  gone_own (Next piece) m within own = alike m _ refl refl within.0 own.quiet own
  gone_own (Whole change) m within own = own

  -- a next piece begins within the device
  next_within : (m : MemberView) (row : DeviceRow) → IsOwn made n m → IsWithin (store_room made) (progress_in m row)
  next_within m row own = by_last (ltb (m.place + 64) (room_in m)) refl
    where
      by_last : (b : Bool) → ltb (m.place + 64) (room_in m) ≡ b → IsWithin (store_room made) (if not b then Whole (shift m row both) else Next (piece_at m row.epoch (m.place + 64)))
      by_last false e = tt
      by_last true e =
          let less : m.place + 64 < room_in m = grind (arith, nat_tests, e) in
          let room : room_in m ≡ store_room made = ap store_room own.made_is in
          let few : min 64 (room_in m - (m.place + 64)) ≤ room_in m - (m.place + 64) = omega arith in
          (omega (arith, less, room), omega (arith, less, room, few))

  copied_own : (m : MemberView) (c : CopiedBody) (progress : Progress) → IsProgress m c progress → IsOwn made n m → IsOwn made n (gone_on progress m)
  copied_own m c progress is own = own_stable made n (gone_on progress m) (λ no. no (subst (λ (p : Progress). IsOwn made n (gone_on p m)) (sym (is.ignored (λ row noted. no (here row noted)))) own))
    where
      here : (row : DeviceRow) → IsNoted m c row → IsOwn made n (gone_on progress m)
      here row noted = subst (λ (p : Progress). IsOwn made n (gone_on p m)) (sym (is.noted row noted)) (gone_own (progress_in m row) m (next_within m row own) own)

  message_own : (Told : Type 0) (reading : ℕ) (from : Actor) (message : DeviceMessage) (m new : MemberView) (change : Option Change) (before after : List Letter) (old now : Disks) → OfMessage Told reading from message m new change before after old now → IsOwn made n m → IsOwn made n new
  message_own Told reading from (Write w) m new change before after old now is own = write_own Told is.0.judgement from w m new before after old now is.0.does own
  message_own Told reading from (Wrote w) m new change before after old now is own = same m new is.0.member own
  message_own Told reading from (Read r) m new change before after old now is own = elim is.0 [ inl here ↦ same m new here.1.member own | inr not_here ↦ same m new not_here.1.member own ]
  message_own Told reading from (Data d) m new change before after old now is own = same m new is.0.member own
  message_own Told reading from (Copy c) m new change before after old now is own = elim is.0 [ inl here ↦ same _ new here.1.member (alike m _ refl refl own.place (λ e. absurd cc) own) | inr not_here ↦ same m new not_here.1 own ]
  message_own Told reading from (Copied c) m new change before after old now is own = same (gone_on is.progress m) new is.member (copied_own m c is.progress is.is own)
  message_own Told reading from Alive m new change before after old now is own = same (hearing reading m) new is.0.member (alike m _ refl refl own.place own.quiet own)

  said_own : (Told : Type 0) (reading : ℕ) (from : Actor) (said : Option DeviceMessage) (m new : MemberView) (change : Option Change) (before after : List Letter) (old now : Disks) → OfSaid Told reading from said m new change before after old now → IsOwn made n m → IsOwn made n new
  said_own Told reading from None m new change before after old now is own = same m new is.0.member own
  said_own Told reading from (Some message) m new change before after old now is own = message_own Told reading from message m new change before after old now is own

  input_own : (Told : Type 0) (input : Input) (m new : MemberView) (change : Option Change) (before after : List Letter) (old now : Disks) → OfInput Told input m new change before after old now → IsOwn made n m → IsOwn made n new
  input_own Told (Packet packet reading) m new change before after old now is own = said_own Told reading packet.now.from is.said m new change before after old now is.does own
  input_own Told (Tick reading) m new change before after old now is own = same m new is.member own
  input_own Told Synced m new change before after old now is own = same _ new is.member (alike m _ refl refl own.place (λ e. refl) own)

  knows_own : (known : GlobalState) (m : MemberView) → IsOwn made n m → IsOwn made n (learned known m)
  knows_own known m own = learned_own m (slice_get known.devices (device_in m)) own

  pub does_own : (Told : Type 0) (known : GlobalState) (input : Input) (m new : MemberView) (change : Option Change) (before after : List Letter) (old now : Disks) → Does Told known input m new change before after old now → IsOwn made n m → IsOwn made n new
  does_own Told known input m new change before after old now is own = input_own Told input (learned known m) new change is.between after old now is.does (knows_own known m own)

  -- once a disk failed
  pub faulted_own : {A : Type 0} (result : Result A RackError) (known : GlobalState) (m new : MemberView) → result ≡ Err Fault → (IsErrOf result Fault → new ≡ learned known m) → IsOwn made n m → IsOwn made n new
  faulted_own result known m new e is own = same (learned known m) new (is (subst (λ (r : Result _ RackError). IsErrOf r Fault) (sym e) refl)) (knows_own known m own)

  -- and where none did
  pub took_own : (result : Result (Option Change) RackError) (change : Option Change) (Told : Type 0) (known : GlobalState) (input : Input) (m new : MemberView) (before after : List Letter) (old now : Disks)
      → result ≡ Ok change → IfOk result (λ (c : Option Change). Does Told known input m new c before after old now) → IsOwn made n m → IsOwn made n new
  took_own result change Told known input m new before after old now e is own =
      does_own Told known input m new change before after old now (subst (λ (r : Result (Option Change) RackError). IfOk r (λ (c : Option Change). Does Told known input m new c before after old now)) e is) own

  -- a new one that starts is
  pub started_own : (boot reading : ℕ) (new : MemberView) → new ≡ hearing reading (started boot (new_member n made)) → IsOwn made n new
  started_own boot reading new e = same _ new e (record { number = refl; made_is = refl; place = let some = some_room made in omega (arith, some); quiet = λ due. refl })
