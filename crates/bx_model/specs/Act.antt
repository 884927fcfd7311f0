-- One step of the tree.
use Rattle.std.specs.Prelude.{ℕ, ◌==◌, if◌then◌else◌, List, Option, Ok}
use Rattle.bx_model.specs.declared.call.Args.{Args}
use Rattle.bx_model.specs.declared.call.Args.TheVariants as args
use Rattle.bx_model.specs.declared.call.Call.{Call}
use Rattle.bx_tree_files.specs.declared.sattr.Sattr.{Sattr}
use Rattle.bx_model.specs.declared.reply.Reply.{Reply}
use Rattle.bx_model.specs.declared.reply.Reply.TheVariants as reply
use Rattle.bx_model.specs.declared.tree.Tree.{Tree}
use Rattle.bx_model.specs.Directories.{readdir}
use Rattle.bx_model.specs.Making.{create, symlink, mkdir, link}
use Rattle.bx_model.specs.Mounting.{mount, plain}
use Rattle.bx_model.specs.Reading.{getattr, lookup, readlink, read, statfs}
use Rattle.bx_model.specs.Removing.{remove, rmdir}
use Rattle.bx_model.specs.Renaming.{rename}
use Rattle.bx_model.specs.Steps.{Outcome, Making, plainly, taken}
use Rattle.bx_tree_files.specs.Times.{Time, time_of}
use Rattle.bx_model.specs.Writing.{setattr, write}

-- the procedures that take a file handle alone
abbrev pub about_file : Tree → ℕ → List ℕ → ℕ → Outcome
about_file tree procedure at spare =
    if procedure == 5 then readlink tree at else if procedure == 17 then statfs tree at spare else getattr tree at

-- those that take a name in a directory alone
abbrev pub about_name : Tree → Call → List ℕ → List ℕ → Time → Outcome
about_name tree call at name now =
    if call.procedure == 10 then remove tree call at name now else if call.procedure == 15 then rmdir tree call at name now else lookup tree call at name

-- those that take a name in a directory and attributes
abbrev pub about_new : Tree → Call → List ℕ → List ℕ → Sattr → Time → ℕ → Making
about_new tree call at name sattr now spare =
    if call.procedure == 14 then mkdir tree call at name sattr now spare else create tree call at name sattr now spare

-- What a call of these arguments gives. They tell the procedure, and its number tells those apart that have the same
-- ones.
abbrev pub given : Tree → Call → Time → ℕ → ℕ → Args → Option (Reply × Tree)
given tree call now spare made (args.Refused number) = plainly tree made (Ok (reply.Refused number call.program, tree))
given tree call now spare made args.Nothing = plainly tree made (Ok (plain call.program call.procedure, tree))
given tree call now spare made (args.Path path) = plainly tree made (Ok (mount tree call.procedure path, tree))
given tree call now spare made (args.Handle at) = plainly tree made (about_file tree call.procedure at spare)
given tree call now spare made (args.Set at sattr) = plainly tree made (setattr tree call at sattr now)
given tree call now spare made (args.Name at name) = plainly tree made (about_name tree call at name now)
given tree call now spare made (args.Read at offset count total) = plainly tree made (read tree call at offset count)
given tree call now spare made (args.Write at begin offset total written) = plainly tree made (write tree call at offset written now spare)
given tree call now spare made (args.Rename from name to new_name) = plainly tree made (rename tree call from name to new_name now spare)
given tree call now spare made (args.Link from at name) = plainly tree made (link tree call from at name now spare)
given tree call now spare made (args.List at cookie count) = plainly tree made (readdir tree call at cookie count)
given tree call now spare made (args.Make at name sattr) = taken tree made (about_new tree call at name sattr now spare)
given tree call now spare made (args.Symlink at name path sattr) = taken tree made (symlink tree call at name path sattr now spare)

-- The reply and the next tree, at a moment in milliseconds, with so many blocks free. There is none exactly where `made`
-- breaks its rule: it is an unused handle where the call makes a file, and else 0.
abbrev pub act : Tree → Call → ℕ → ℕ → ℕ → Option (Reply × Tree)
act tree call moment spare made = given tree call (time_of moment) spare made call.args

-- the calls that make no file
abbrev pub IsPlain : Args → Type 0
IsPlain (args.Make at name sattr) = ⊥
IsPlain (args.Symlink at name path sattr) = ⊥
IsPlain _ = Unit {0}
