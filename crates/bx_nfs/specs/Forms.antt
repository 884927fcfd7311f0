-- Which procedure has which arguments.
use Rattle.std.specs.Prelude.{ℕ, ◌==◌, if◌then◌else◌, List}
use Rattle.bx_model.specs.declared.call.Args.{Args}
use Rattle.bx_nfs.specs.declared.forms.Form.{Form}
use Rattle.bx_nfs.specs.declared.forms.Form.TheVariants as forms
use Rattle.bx_nfs.specs.Arguments.{NoArguments, HandleArguments, SetArguments, NameArguments, ReadArguments, WriteArguments, MakeArguments, RenameArguments, LinkArguments, SymlinkArguments, ListArguments, PathArguments}

-- the arguments of a form
abbrev pub Arguments : Form → Args → List ℕ → Type 0
Arguments forms.Nothing = NoArguments
Arguments forms.Handle = HandleArguments
Arguments forms.Set = SetArguments
Arguments forms.Name = NameArguments
Arguments forms.Read = ReadArguments
Arguments forms.Write = WriteArguments
Arguments forms.Make = MakeArguments
Arguments forms.Rename = RenameArguments
Arguments forms.Link = LinkArguments
Arguments forms.Symlink = SymlinkArguments
Arguments forms.List = ListArguments
Arguments forms.Path = PathArguments

-- The procedures of NFS (RFC 1094, section 2.2): GETATTR 1, SETATTR 2, LOOKUP 4, READLINK 5, READ 6, WRITE 8, CREATE 9,
-- REMOVE 10, RENAME 11, LINK 12, SYMLINK 13, MKDIR 14, RMDIR 15, READDIR 16, STATFS 17; the others are NULL 0, ROOT 3 and
-- WRITECACHE 7.
abbrev pub nfs_form : ℕ → Form
nfs_form procedure =
    if procedure == 1 then forms.Handle
    else (if procedure == 2 then forms.Set
    else (if procedure == 4 then forms.Name
    else (if procedure == 5 then forms.Handle
    else (if procedure == 6 then forms.Read
    else (if procedure == 8 then forms.Write
    else (if procedure == 9 then forms.Make
    else (if procedure == 10 then forms.Name
    else (if procedure == 11 then forms.Rename
    else (if procedure == 12 then forms.Link
    else (if procedure == 13 then forms.Symlink
    else (if procedure == 14 then forms.Make
    else (if procedure == 15 then forms.Name
    else (if procedure == 16 then forms.List
    else (if procedure == 17 then forms.Handle
    else forms.Nothing))))))))))))))

-- The procedures of MOUNT (RFC 1094, appendix A, section 5): MNT 1 and UMNT 3; the others are NULL 0, DUMP 2, UMNTALL 4 and
-- EXPORT 5.
abbrev pub mount_form : ℕ → Form
mount_form procedure = if procedure == 1 then forms.Path else (if procedure == 3 then forms.Path else forms.Nothing)

abbrev pub form_of : ℕ → ℕ → Form
form_of program procedure = if program == 100003 then nfs_form procedure else mount_form procedure
