-- All that is sent is of a store's kinds.
use Rattle.std.proofs.Common.{◌≡◌, ℕ, List, [], ◌∷◌, ◌++◌, Bool, true, false, Contains, Option, Some, None, Result, Ok, Err, IfOk, OnOk, refl, sym, subst, inl, inr, lit≤, map}
use Rattle.std.proofs.lemmas.List.Elements.{Contains-append_cases, Contains-append_left}
use Rattle.bx_base.specs.declared.names.Actor.{Actor}
use Rattle.bx_disk.specs.Disks.{Disks}
use Rattle.bx_facts.proofs.Lists.{front_or_behind, nothing}
use Rattle.bx_facts.specs.Inputs.{IsStores, SendsOnly}
use Rattle.bx_facts.specs.declared.input.Input.{Input}
use Rattle.bx_facts.specs.declared.input.Input.TheVariants.{Packet, Tick, Synced}
use Rattle.bx_global.specs.declared.change.Change.{Change}
use Rattle.bx_global.specs.declared.state.GlobalState.{GlobalState}
use Rattle.bx_post.specs.declared.packets.Letter.{Letter}
use Rattle.bx_mirror_packets.specs.declared.message.WriteBody.{WriteBody}
use Rattle.bx_mirror_packets.specs.declared.message.DeviceMessage.{DeviceMessage}
use Rattle.bx_mirror_packets.specs.declared.message.DeviceMessage.TheVariants.{Write, Wrote, Read, Data, Copy, Copied, Alive}
use Rattle.bx_mirror_tables.specs.declared.answers.Answer.{Answer}
use Rattle.bx_mirror_tables.specs.declared.answers.Answer.TheVariants as answers
use Rattle.bx_mirror_tables.specs.declared.answers.Owing.{Owing}
use Rattle.bx_mirror_packets.specs.DeviceMessages.{letter_with}
use Rattle.bx_mirror_tables.specs.Owed.{message_of}
use Rattle.bx_mirror_member.specs.declared.copies.Piece.{Piece}
use Rattle.bx_mirror_member.specs.declared.judging.Judgement.{Judgement}
use Rattle.bx_mirror_member.specs.declared.judging.Judgement.TheVariants.{Taken, Repeated, Refused}
use Rattle.bx_mirror_member.specs.Standing.{MemberView, me}
use Rattle.bx_mirror_member.specs.Steps.{Repeats, alive_letter, answer_letter, owed_letters, owing, wrote_to}
use Rattle.bx_mirror_server.specs.Serving.{Does, DoesWrite, OfInput, OfMessage, OfSaid, SendsAny}

abbrev pub Only : List Letter → List Letter → Type 0
Only before after = SendsOnly IsStores before after

none_sent : (before after : List Letter) → after ≡ before → Only before after
none_sent before after same = subst (Only before) (sym same) (record { kept = λ letter has. has; each = λ letter has. inl has })

sent_then : (before between after : List Letter) → Only before between → Only between after → Only before after
sent_then before between after first next = record {
  kept = λ letter has. next.kept letter (first.kept letter has);
  each = λ letter has. elim (next.each letter has) [ inl old ↦ first.each letter old | inr own ↦ inr own ];
}

record AreStores (letters : List Letter) : Type 0 where
  pub each : (letter : Letter) → Contains letters letter → IsStores letter

all_sent : (before letters after : List Letter) → AreStores letters → after ≡ before ++ letters → Only before after
all_sent before letters after are is = subst (Only before) (sym is) (record {
  kept = λ letter has. Contains-append_left before letters letter has;
  each = λ letter has. elim (Contains-append_cases before letters letter has) [ inl old ↦ inl old | inr new ↦ inr (are.each letter new) ];
})

are_none : AreStores []
are_none = record { each = λ letter has. absurd (nothing letter has) }

are_more : (one : Letter) (letters : List Letter) → IsStores one → AreStores letters → AreStores (one ∷ letters)
are_more one letters own are = record {
  each = λ letter has. elim (front_or_behind one letters letter has) [ inl here ↦ subst IsStores here own | inr there ↦ are.each letter there ];
}

one_sent : (before : List Letter) (letter : Letter) (after : List Letter) → IsStores letter → after ≡ before ++ letter ∷ [] → Only before after
one_sent before letter after own is = all_sent before (letter ∷ []) after (are_more letter [] own are_none) is

answer_is : (from to : Actor) (answer : Answer) → IsStores (letter_with from to (message_of answer))
answer_is from to (answers.Wrote w) = record { least = lit≤ tt; most = lit≤ tt }
answer_is from to (answers.Copied c) = record { least = lit≤ tt; most = lit≤ tt }

owed_are : (m : MemberView) (owed : List Owing) → AreStores (map (answer_letter m) owed)
owed_are m [] = are_none
owed_are m (o ∷ owed) = are_more (answer_letter m o) (map (answer_letter m) owed) (answer_is (me m) o.to o.answer) (owed_are m owed)

module _ (Told : Type 0) where
  any_sent : (m : MemberView) (piece : Option Piece) (x : Disks) (before after : List Letter) → SendsAny Told m piece x before after → Only before after
  any_sent m None x before after sends = none_sent before after sends
  any_sent m (Some piece) x before after sends = one_sent before _ after (record { least = lit≤ tt; most = lit≤ tt }) sends.sends

  repeat_sent : (from : Actor) (w : WriteBody) (m new : MemberView) (before after : List Letter) → Repeats from w m new before after → Only before after
  repeat_sent from w m new before after of = by_due m.due refl
    where
      by_due : (due : Bool) → m.due ≡ due → Only before after
      by_due true is = none_sent before after (of.waits is)
      by_due false is = one_sent before (answer_letter m (owing from (wrote_to w))) after (answer_is (me m) from (wrote_to w)) (of.at_once is).1

  write_sent : (judgement : Judgement) (from : Actor) (w : WriteBody) (m new : MemberView) (before after : List Letter) (old now : Disks) → DoesWrite Told judgement from w m new before after old now → Only before after
  write_sent Taken from w m new before after old now does = none_sent before after does.sends
  write_sent Repeated from w m new before after old now does = repeat_sent from w m new before after does.repeats
  write_sent Refused from w m new before after old now does = none_sent before after does.sends

  module _ (m new : MemberView) (change : Option Change) (before after : List Letter) (old now : Disks) where
    message_sent : (reading : ℕ) (from : Actor) (message : DeviceMessage) → OfMessage Told reading from message m new change before after old now → Only before after
    message_sent reading from (Write w) of = write_sent of.0.judgement from w m new before after old now of.0.does
    message_sent reading from (Wrote w) of = none_sent before after of.0.sends
    message_sent reading from (Read r) of = elim of.0 [
      | inl here ↦ one_sent before _ after (record { least = lit≤ tt; most = lit≤ tt }) here.1.sends
      | inr not ↦ none_sent before after not.1.sends
    ]
    message_sent reading from (Data d) of = none_sent before after of.0.sends
    message_sent reading from (Copy c) of = none_sent before after of.1
    message_sent reading from (Copied c) of = any_sent m _ old before after of.sends
    message_sent reading from Alive of = none_sent before after of.0.sends

    said_sent : (reading : ℕ) (from : Actor) (said : Option DeviceMessage) → OfSaid Told reading from said m new change before after old now → Only before after
    said_sent reading from None of = none_sent before after of.0.sends
    said_sent reading from (Some message) of = message_sent reading from message of

    input_sent : (input : Input) → OfInput Told input m new change before after old now → Only before after
    input_sent (Packet packet reading) of = said_sent reading packet.now.from of.said of.does
    input_sent (Tick reading) of =
        sent_then before (before ++ alive_letter m ∷ []) after (one_sent before (alive_letter m) (before ++ alive_letter m ∷ []) (record { least = lit≤ tt; most = lit≤ tt }) refl) (any_sent m _ old (before ++ alive_letter m ∷ []) after of.sends)
    input_sent Synced of = all_sent before (owed_letters m) after (owed_are m m.owed) of.sends

  pub does_sent : (known : GlobalState) (input : Input) (m new : MemberView) (change : Option Change) (before after : List Letter) (old now : Disks) → Does Told known input m new change before after old now → Only before after
  does_sent known input m new change before after old now does =
      sent_then before does.between after (any_sent _ _ old before does.between does.begins) (input_sent _ new change does.between after old now input does.does)

  pub sent_on : {E : Type 0} (known : GlobalState) (input : Input) (m new : MemberView) (result : Result (Option Change) E) (before after : List Letter) (old now : Disks) → IfOk result (λ change. Does Told known input m new change before after old now) → OnOk result (SendsOnly IsStores before after)
  sent_on known input m new (Ok change) before after old now does = does_sent known input m new change before after old now does
  sent_on known input m new (Err e) before after old now does = tt
