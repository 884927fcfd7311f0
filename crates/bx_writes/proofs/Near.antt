-- What WRITE takes near the file, by what it lays and what it has written first.
use Rattle.std.proofs.Common.{◌≡◌, ℕ, ◌<◌, List, [], length, arith, subst, sym, Some}
use Rattle.std.specs.Prelude.{IfErr, IfOk, Result, Ok, Err}
use Rattle.std.proofs.lemmas.Result.{IfOk-weaker}
use Rattle.bx_entries.proofs.Lacks.{first_if}
use Rattle.bx_entries.specs.Lacking.{IfFirst}
use Rattle.bx_base.specs.declared.names.Mode.{Mode}
use Rattle.bx_base.specs.declared.names.Mode.TheVariants.{Exclusive}
use Rattle.bx_blink.specs.Walks.{Reads, reads_with}
use Rattle.bx_changes.specs.declared.error.ChangeError.{ChangeError}
use Rattle.bx_changes.specs.declared.error.ChangeError.TheVariants.{Stopped, Full}
use Rattle.bx_places.specs.Handles.{named, parts_of}
use Rattle.bx_inodes.specs.Inodes.{InodeAt, LiveAt}
use Rattle.bx_inodes.specs.declared.stop.Stop.{Stop}
use Rattle.bx_inodes.specs.declared.stop.Stop.TheVariants.{Need, Inner, Status, OutOfMemory}
use Rattle.bx_layout.specs.declared.inode.Inode.{Inode}
use Rattle.bx_model.specs.declared.reply.Reply.{Reply}
use Rattle.bx_records.specs.Drafts.{Changed}
use Rattle.bx_views.specs.Truths.{Held, Hints}
use Rattle.bx_writes.specs.Laid.{IsLaid}
use Rattle.bx_writes.specs.Near.{IsLaidNear, IsReadiedNear, LaysNear, ReadiesNear}
use Rattle.bx_writes.specs.Telling.{TellsWith}

-- what holds of a draft holds of it where attributes are told with it, and nothing is written first then
module _ (Holds : List Changed → Type 0) (volume handle : ℕ) (inode : Inode) (draft : List Changed) where
  pub told_so : (result : Result (List Changed × Reply) ChangeError) → TellsWith volume handle inode draft result → Holds draft → IfOk result (λ made. Holds made.0)
  told_so (Ok made) t holds = subst Holds (sym t.same) holds
  told_so (Err error) t holds = tt

  pub told_none : (result : Result (List Changed × Reply) ChangeError) → TellsWith volume handle inode draft result → IfErr result (IfFirst Holds)
  told_none (Ok made) t = tt
  told_none (Err (Stopped (Need at mode))) t = absurd t
  told_none (Err (Stopped (Inner blocks))) t = absurd t
  told_none (Err (Stopped (Status status))) t = absurd t
  told_none (Err (Stopped OutOfMemory)) t = tt
  told_none (Err (Full spare)) t = absurd t

-- nor is it where an inode isn't read
pub no_inode_first : (Holds : List Changed → Type 0) (reads : Reads) (areas handle : ℕ) (mode : Mode) (stop : Stop) → InodeAt reads areas handle mode (Err stop) → IfFirst Holds (Stopped stop)
no_inode_first Holds reads areas handle mode (Need at asked) is = tt
no_inode_first Holds reads areas handle mode (Inner blocks) is = absurd is
no_inode_first Holds reads areas handle mode (Status status) is = tt
no_inode_first Holds reads areas handle mode OutOfMemory is = tt

module _ (areas : ℕ) (held : Held) (hints : Hints) (handle : ℕ) (inode : Inode) (written : List ℕ) (new : List Changed) where
  pub lays_nothing : length written ≡ 0 → new ≡ [] → LaysNear areas held hints handle inode written new
  lays_nothing none is = record { nothing = λ same. is; laid = λ some. absurd (omega (arith, none, some)) }

  pub lays_some : 0 < length written → IsLaid held hints (parts_of handle).area areas handle inode.tree new → LaysNear areas held hints handle inode written new
  lays_some some laid = record { nothing = λ none. absurd (omega (arith, none, some)); laid = λ so. laid }

-- from the file on that is named
module _ (held : Held) (hints : Hints) (volume areas : ℕ) (bytes : List ℕ) (offset : ℕ) (written : List ℕ) (handle : ℕ) (inode : Inode) (is : named volume bytes ≡ Some handle)
    (live : LiveAt (reads_with held hints []) areas handle Exclusive inode) where
  pub named_laid : (result : Result (List Changed × Reply) ChangeError) → IfOk result (λ made. LaysNear areas held hints handle inode written made.0)
      → IfOk result (λ made. IsLaidNear held hints volume areas bytes written made.0)
  named_laid result laid = IfOk-weaker result _ _ (λ made lays. record { handle = handle; inode = inode; is_named = is; live = live; lays = lays }) laid

  pub named_readied : (result : Result (List Changed × Reply) ChangeError) → IfErr result (IfFirst (ReadiesNear areas held handle inode offset written))
      → IfErr result (IfFirst (IsReadiedNear held hints volume areas bytes offset written))
  named_readied result taken = first_if (λ new readies. record { handle = handle; inode = inode; is_named = is; live = live; readies = readies }) result taken
