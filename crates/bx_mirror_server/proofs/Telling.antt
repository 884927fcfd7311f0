-- What is said where a rack tells what its disks hold is said where another does, of which the first follows.
use Rattle.std.proofs.Common.{inl, inr, ℕ, List, Option, Some, None}
use Rattle.bx_base.specs.declared.names.Actor.{Actor}
use Rattle.bx_disk.specs.Disks.{Disks}
use Rattle.bx_facts.specs.declared.input.Input.{Input}
use Rattle.bx_facts.specs.declared.input.Input.TheVariants.{Packet, Tick, Synced}
use Rattle.bx_global.specs.declared.change.Change.{Change}
use Rattle.bx_post.specs.declared.packets.Letter.{Letter}
use Rattle.bx_mirror_packets.specs.declared.message.WriteBody.{WriteBody}
use Rattle.bx_mirror_packets.specs.declared.message.ReadBody.{ReadBody}
use Rattle.bx_mirror_packets.specs.declared.message.CopyBody.{CopyBody}
use Rattle.bx_mirror_packets.specs.declared.message.CopiedBody.{CopiedBody}
use Rattle.bx_mirror_packets.specs.declared.message.DeviceMessage.{DeviceMessage}
use Rattle.bx_mirror_packets.specs.declared.message.DeviceMessage.TheVariants.{Write, Wrote, Read, Data, Copy, Copied, Alive}
use Rattle.bx_mirror_member.specs.declared.copies.Piece.{Piece}
use Rattle.bx_mirror_member.specs.declared.judging.Judgement.{Judgement}
use Rattle.bx_mirror_member.specs.declared.judging.Judgement.TheVariants.{Taken, Repeated, Refused}
use Rattle.bx_mirror_member.specs.Standing.{MemberView}
use Rattle.bx_mirror_server.specs.Serving.{AnswersRead, DoesWrite, OfCopy, OfInput, OfMessage, OfRead, OfSaid, OfWrite, SendsAny, SendsPiece, TakesCopied, PutsCopy}

module _ (A B : Type 0) (goes : B → A) where
  pub piece_told : (m : MemberView) (piece : Piece) (x : Disks) (before after : List Letter) → SendsPiece A m piece x before after → SendsPiece B m piece x before after
  piece_told m piece x before after sends = record { bytes = sends.bytes; long = sends.long; reads = λ told. sends.reads (goes told); sends = sends.sends }

  pub any_told : (m : MemberView) (piece : Option Piece) (x : Disks) (before after : List Letter) → SendsAny A m piece x before after → SendsAny B m piece x before after
  any_told m None x before after sends = sends
  any_told m (Some piece) x before after sends = piece_told m piece x before after sends

  module _ (m new : MemberView) (before after : List Letter) (old now : Disks) where
    does_told : (judgement : Judgement) (from : Actor) (w : WriteBody) → DoesWrite A judgement from w m new before after old now → DoesWrite B judgement from w m new before after old now
    does_told Taken from w does = record { member = does.member; sends = does.sends; puts = λ told. does.puts (goes told) }
    does_told Repeated from w does = does
    does_told Refused from w does = does

    write_told : (reading : ℕ) (from : Actor) (w : WriteBody) → OfWrite A reading from w m new before after old now → OfWrite B reading from w m new before after old now
    write_told reading from w of = record { judgement = of.judgement; judged = of.judged; does = does_told of.judgement from w of.does }

    answer_told : (from : Actor) (r : ReadBody) → AnswersRead A from r m new before after old now → AnswersRead B from r m new before after old now
    answer_told from r of = record { bytes = of.bytes; long = of.long; reads = λ told. of.reads (goes told); sends = of.sends; member = of.member; disk = of.disk }

    read_told : (from : Actor) (r : ReadBody) → OfRead A from r m new before after old now → OfRead B from r m new before after old now
    read_told from r of = elim of [ inl here ↦ inl (here.0, answer_told from r here.1) | inr not ↦ inr not ]

    take_told : (from : Actor) (c : CopyBody) → PutsCopy A from c m new old now → PutsCopy B from c m new old now
    take_told from c of = record { member = of.member; puts = λ told. of.puts (goes told) }

    copy_told : (from : Actor) (c : CopyBody) → OfCopy A from c m new old now → OfCopy B from c m new old now
    copy_told from c of = elim of [ inl here ↦ inl (here.0, take_told from c here.1) | inr not ↦ inr not ]

    module _ (change : Option Change) where
      copied_told : (c : CopiedBody) → TakesCopied A c m new change before after old now → TakesCopied B c m new change before after old now
      copied_told c of = record { progress = of.progress; is = of.is; member = of.member; sends = any_told m _ old before after of.sends; hands = of.hands; disk = of.disk }

      message_told : (reading : ℕ) (from : Actor) (message : DeviceMessage) → OfMessage A reading from message m new change before after old now → OfMessage B reading from message m new change before after old now
      message_told reading from (Write w) of = (write_told reading from w of.0, of.1)
      message_told reading from (Wrote w) of = of
      message_told reading from (Read r) of = (read_told from r of.0, of.1)
      message_told reading from (Data d) of = of
      message_told reading from (Copy c) of = (copy_told from c of.0, of.1, of.2)
      message_told reading from (Copied c) of = copied_told c of
      message_told reading from Alive of = of

      said_told : (reading : ℕ) (from : Actor) (said : Option DeviceMessage) → OfSaid A reading from said m new change before after old now → OfSaid B reading from said m new change before after old now
      said_told reading from None of = of
      said_told reading from (Some message) of = message_told reading from message of

      pub input_told : (input : Input) → OfInput A input m new change before after old now → OfInput B input m new change before after old now
      input_told (Packet packet reading) of = record { said = of.said; says = of.says; does = said_told reading packet.now.from of.said of.does }
      input_told (Tick reading) of = record { member = of.member; sends = any_told m _ old _ after of.sends; hands = of.hands; disk = of.disk }
      input_told Synced of = record { member = of.member; sends = of.sends; hands = of.hands; reads = λ told. of.reads (goes told); sure = λ sector told. of.sure sector (goes told) }
