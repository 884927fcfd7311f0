-- The procedures of MOUNT (RFC 1094, appendix A), and those without arguments.
use Rattle.std.specs.Prelude.{ℕ, ◌==◌, ◌&&◌, if◌then◌else◌, List, codes}
use Rattle.std.specs.Str.{bytes_eq}
use Rattle.bx_model.specs.declared.reply.Reply.{Reply}
use Rattle.bx_model.specs.declared.reply.Reply.TheVariants as reply
use Rattle.bx_model.specs.declared.status.TheConstants.{NOENT}
use Rattle.bx_model.specs.declared.tree.Tree.{Tree}
use Rattle.bx_tree_files.specs.bx_places.specs.Handles.{file_text}

-- MNT: the root's file handle, of the path `/`. UMNT answers nothing.
abbrev pub mount : Tree → ℕ → List ℕ → Reply
mount tree procedure path =
    if procedure == 3 then reply.Empty
    else if bytes_eq path (codes "/") then reply.Mounted (file_text tree.volume tree.root)
    else reply.Status NOENT

-- What a procedure without arguments answers. Of NFS these are NULL, ROOT and WRITECACHE, which answer nothing; of
-- MOUNT they are NULL and UMNTALL, which answer nothing, DUMP, and EXPORT.
abbrev pub plain : ℕ → ℕ → Reply
plain program procedure =
    if (program == 100005) && (procedure == 2) then reply.Mounts
    else if (program == 100005) && (procedure == 5) then reply.Exports
    else reply.Empty
