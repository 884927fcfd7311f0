use Rattle.bx_nfs.proofs.arguments.read_args.Goals as goal

pub returns-in-Handle-clause-none : goal.returns-in-Handle-clause-none
returns-in-Handle-clause-none c = rw c.in-Handle.is c.to_handle.ensures.none

pub returns-in-Set-clause-none : goal.returns-in-Set-clause-none
returns-in-Set-clause-none c = rw c.in-Set.is c.to_set.ensures.none

pub returns-in-Name-clause-none : goal.returns-in-Name-clause-none
returns-in-Name-clause-none c = rw c.in-Name.is c.to_name.ensures.none

pub returns-in-Read-clause-none : goal.returns-in-Read-clause-none
returns-in-Read-clause-none c = rw c.in-Read.is c.to_read.ensures.none

pub returns-in-Write-clause-none : goal.returns-in-Write-clause-none
returns-in-Write-clause-none c = rw c.in-Write.is c.to_write.ensures.none

pub returns-in-Make-clause-none : goal.returns-in-Make-clause-none
returns-in-Make-clause-none c = rw c.in-Make.is c.to_make.ensures.none

pub returns-in-Rename-clause-none : goal.returns-in-Rename-clause-none
returns-in-Rename-clause-none c = rw c.in-Rename.is c.to_rename.ensures.none

pub returns-in-Link-clause-none : goal.returns-in-Link-clause-none
returns-in-Link-clause-none c = rw c.in-Link.is c.to_link.ensures.none

pub returns-in-Symlink-clause-none : goal.returns-in-Symlink-clause-none
returns-in-Symlink-clause-none c = rw c.in-Symlink.is c.to_symlink.ensures.none

pub returns-in-List-clause-none : goal.returns-in-List-clause-none
returns-in-List-clause-none c = rw c.in-List.is c.to_list.ensures.none

pub returns-in-Path-clause-none : goal.returns-in-Path-clause-none
returns-in-Path-clause-none c = rw c.in-Path.is c.to_path.ensures.none
