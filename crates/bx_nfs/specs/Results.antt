-- The bytes of a reply.
use Rattle.std.specs.Prelude.{ℕ, List, [], ◌∷◌, ◌++◌}
use Rattle.std.specs.List.{flat_map}
use Rattle.bx_base.specs.Bytes.{words}
use Rattle.bx_xdr.specs.Items.{word_text, fixed_text, opaque_text}
use Rattle.bx_model.specs.declared.reply.Listed.{Listed}
use Rattle.bx_model.specs.declared.reply.Reply.{Reply}
use Rattle.bx_model.specs.declared.reply.Reply.TheVariants.{Refused, Status, Empty, Attributes, Handle, Path, Bytes, List as Listing, Space, Mounted, Mounts, Exports}
use Rattle.bx_rpc.specs.Replies.{accepted_text, refused_text}

-- an entry of a directory: 1 for one more, its file's number, its name, and the cookie (RFC 1094, section 2.2.17)
abbrev pub listed_text : Listed → List ℕ
listed_text entry = words (1 ∷ entry.fileid ∷ []) ++ opaque_text entry.name ++ word_text entry.cookie

-- The bytes of a result, by the procedures that have it (RFC 1094, section 2.2 and appendix A). The first word of most is the
-- status, NFS_OK (0) but in a result that is a status alone.
abbrev pub result_text : Reply → List ℕ
result_text (Refused number program) = []
-- a status alone (RFC 1094, section 2.3.1)
result_text (Status status) = word_text status
-- NULL, ROOT, WRITECACHE, UMNT and UMNTALL
result_text Empty = []
-- GETATTR, SETATTR and WRITE: the attributes (RFC 1094, sections 2.3.9 and 2.3.5)
result_text (Attributes attributes) = words (0 ∷ attributes)
-- LOOKUP, CREATE and MKDIR: a file handle and the attributes (RFC 1094, section 2.3.11)
result_text (Handle handle attributes) = word_text 0 ++ fixed_text handle ++ words attributes
-- READLINK: the path
result_text (Path path) = word_text 0 ++ opaque_text path
-- READ: the attributes and the data
result_text (Bytes attributes content) = words (0 ∷ attributes) ++ opaque_text content
-- READDIR: the entries, 0 for no more, and whether these were the last ones
result_text (Listing entries eof) = word_text 0 ++ flat_map listed_text entries ++ words (0 ∷ eof ∷ [])
-- STATFS: five words
result_text (Space numbers) = words (0 ∷ numbers)
-- MNT: the root's file handle (RFC 1094, appendix A, section 5.2)
result_text (Mounted handle) = word_text 0 ++ fixed_text handle
-- DUMP: no mount (RFC 1094, appendix A, section 5.3)
result_text Mounts = word_text 0
-- EXPORT: one export, the path `/`, for no group, and no more (RFC 1094, appendix A, section 5.6)
result_text Exports = word_text 1 ++ opaque_text (47 ∷ []) ++ words (0 ∷ 0 ∷ [])

-- the bytes of the reply to the call with this number
abbrev pub reply_text : ℕ → Reply → List ℕ
reply_text xid (Refused number program) = refused_text xid number program
reply_text xid reply = accepted_text xid ++ result_text reply
