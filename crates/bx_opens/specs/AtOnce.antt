-- The calls that touch no block, and so wait for nothing.
use Rattle.std.specs.Prelude.{◌≡◌, ◌⊎◌, ℕ, List}
use Rattle.bx_model.specs.declared.call.Args.TheVariants.{Refused}
use Rattle.bx_model.specs.declared.call.Call.{Call}
use Rattle.bx_nfs.specs.Asked.{IsNfs}
use Rattle.bx_nfs.specs.Wire.{ReadsAs}

-- the call is refused as a message: for the version of RPC, the program, its version, the procedure, the credential, or what can't be read
abbrev pub IsRefused : Call → Type 0
IsRefused call = (number : ℕ) × (call.args ≡ Refused number)

-- It is refused; or it is NULL (0), ROOT (3) or WRITECACHE (7) of NFS; or it is any call of MOUNT.
abbrev pub TouchesNoBlock : Call → Type 0
TouchesNoBlock call = IsRefused call ⊎ ((IsNfs 0 call ⊎ (IsNfs 3 call ⊎ IsNfs 7 call)) ⊎ (call.program ≡ 100005))

-- The datagram is such a call.
pub record IsAtOnce (bytes : List ℕ) : Type 0 where
  pub xid : ℕ
  pub call : Call
  pub reads : ReadsAs bytes xid call
  pub free : TouchesNoBlock call
