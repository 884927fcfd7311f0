-- Answers that wait for a sync.
use Rattle.bx_mirror_packets.specs.declared.message.DeviceMessage.{DeviceMessage}
use Rattle.bx_mirror_packets.specs.declared.message.DeviceMessage.TheVariants as messages
use Rattle.bx_mirror_tables.specs.declared.answers.Answer.{Answer}
use Rattle.bx_mirror_tables.specs.declared.answers.Answer.TheVariants.{Wrote, Copied}

-- what an answer says
abbrev pub message_of : Answer → DeviceMessage
message_of (Wrote w) = messages.Wrote w
message_of (Copied c) = messages.Copied c
