-- How long replies are.
use Rattle.std.specs.Prelude.{◌≡◌, ℕ, ◌+◌, ◌≤◌, length, sum_by}
use Rattle.bx_xdr.specs.Items.{fixed_text}
use Rattle.bx_model.specs.declared.reply.Listed.{Listed}
use Rattle.bx_model.specs.declared.reply.Reply.{Reply}
use Rattle.bx_model.specs.declared.reply.Reply.TheVariants.{Attributes, Handle, Path, Bytes, List as Listing, Space, Mounted}

-- what an entry of a directory takes of a reply: 16 bytes, and its name with its padding
abbrev pub entry_cost : Listed → ℕ
entry_cost entry = 16 + length (fixed_text entry.name)

-- The reply has attributes of 17 words (RFC 1094, section 2.3.5), a file handle of 32 bytes (2.3.3), a path of at most 1024
-- bytes, data of at most 8192 bytes (2.1), entries that take at most 8192 bytes with the 8 behind them, and five words of
-- STATFS (2.2.18).
abbrev pub IsLimited : Reply → Type 0
IsLimited (Attributes attributes) = length attributes ≡ 17
IsLimited (Handle handle attributes) = (length handle ≡ 32) × (length attributes ≡ 17)
IsLimited (Path path) = length path ≤ 1024
IsLimited (Bytes attributes content) = (length attributes ≡ 17) × (length content ≤ 8192)
IsLimited (Listing entries eof) = sum_by entry_cost entries + 8 ≤ 8192
IsLimited (Space numbers) = length numbers ≡ 5
IsLimited (Mounted handle) = length handle ≡ 32
IsLimited _ = Unit {0}
