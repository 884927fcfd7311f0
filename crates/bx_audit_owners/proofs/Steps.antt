-- One inode more is found, or can't be.
use Rattle.std.proofs.Common.{◌≡◌, ℕ, List, length, sym, ap, ◌∙◌, refl, Option, Some, None, IfNone}
use Rattle.std.specs.Prelude.{◌≢◌, IfSome}
use Rattle.bx_audit_bodies.specs.declared.claims.Claim.{Claim}
use Rattle.bx_audit_bodies.specs.Reading.{IsReadAs, IsStored}
use Rattle.bx_audit_owners.specs.declared.holders.Holder.{Holder}
use Rattle.bx_audit_owners.specs.declared.holders.Holder.TheVariants.{File as OfFile}
use Rattle.bx_audit_owners.specs.Found.{Reading, IsReadSo, IsFound, HaveNoFiles}
use Rattle.bx_audit_owners.specs.Holding.{Holdings, AddsHolder, Clashes, holder_for}
use Rattle.bx_audit_owners.proofs.Founds.{one_found}
use Rattle.bx_audit_owners.proofs.InOrder.{with_here, with_other}
use Rattle.bx_audit_owners.proofs.Owners.{owner_in, owner_same, found_owner, no_clash}
use Rattle.bx_layout.specs.declared.block.Block.{Block}
use Rattle.bx_tree_files.specs.declared.file.File.{File}
use Rattle.bx_tree_files.specs.Files.{file_at, with_file}
use Rattle.bx_truth.specs.PageTrees.{Chunks}

none_some : {X : Type 0} (o : Option X) (x : X) → o ≡ None → o ≡ Some x → ⊥
none_some o x none some = absurd cc

holder_or : (o : Option Holder) → o ≢ None → (x : Holder) × (o ≡ Some x)
holder_or None is = absurd (is refl)
holder_or (Some x) is = (x, refl)

-- what was held still is
pub still_held : (before now : Holdings) (handle : ℕ) (holder : Holder) (claims : List Claim) (count : ℕ) → AddsHolder before handle holder claims count now → (at : ℕ) → before at ≢ None → now at ≢ None
still_held before now handle holder claims count adds at was none =
    let x = holder_or (before at) was in
    none_some (now at) x.0 none (adds.still at x.0 x.1)

pub now_held : (before now : Holdings) (handle : ℕ) (holder : Holder) (claims : List Claim) (count : ℕ) → AddsHolder before handle holder claims count now → now handle ≢ None
now_held before now handle holder claims count adds none = none_some (now handle) holder none adds.itself

module _ (chunks : Chunks) (before : Holdings) (files : List File) (handle : ℕ) (claims : List Claim) (found : IsFound chunks before files) where
  abbrev reading_of : (file : Option File) → IsReadAs chunks handle file claims → Reading
  reading_of file read = record { stored = read.stored; claims = claims }

  is_so : (file : Option File) (read : IsReadAs chunks handle file claims) → IsReadSo chunks handle file (reading_of file read)
  is_so file read = record { at = read.at; dead = read.dead; is = read.is; are_claims = read.are_claims; only = read.only }

  no_file_yet : before handle ≡ None → file_at files handle ≡ None
  no_file_yet new = by (file_at files handle) refl
    where
      by : (o : Option File) → file_at files handle ≡ o → file_at files handle ≡ None
      by None is = is
      by (Some f) is = absurd (none_some (before handle) OfFile new (found.is_file handle f is))

  -- an inode that was read is put beside what was found
  pub with_inode : (now : Holdings) (files_now : List File) (file : Option File) → IsReadAs chunks handle file claims → before handle ≡ None → AddsHolder before handle (holder_for file) claims (length claims) now
      → IfSome file (λ f. files_now ≡ with_file files f) → IfNone file (files_now ≡ files) → IsFound chunks now files_now
  with_inode now files_now None read new adds some none =
      one_found chunks before now files files_now handle None (reading_of None read) found (is_so None read) new adds
      (ap (λ (l : List File). file_at l handle) none ∙ no_file_yet new) (λ at apart. ap (λ (l : List File). file_at l at) none)
  with_inode now files_now (Some f) read new adds some none =
      one_found chunks before now files files_now handle (Some f) (reading_of (Some f) read) found (is_so (Some f) read) new adds here others
    where
      stored : IsStored chunks (found_owner now) handle read.stored (Some f)
      stored = read.is (found_owner now) (λ claim there. ap owner_in (adds.each claim there) ∙ owner_same handle claim.piece)

      named : f.handle ≡ handle
      named = stored.file.0

      here : file_at files_now handle ≡ Some f
      here = ap (λ (l : List File). file_at l handle) some ∙ ap (file_at (with_file files f)) (sym named) ∙ with_here files f

      others : (at : ℕ) → at ≢ handle → file_at files_now at ≡ file_at files at
      others at apart = ap (λ (l : List File). file_at l at) some ∙ with_other files f at (λ same. apart (same ∙ named))

  -- no files have one whose claims clash
  pub clash_has_none : (file : Option File) (block : Block) → IsReadAs chunks handle file claims → chunks handle ≡ Some block → block.kind ≡ 1 → Clashes before handle (holder_for file) claims → HaveNoFiles chunks
  clash_has_none file block read chunk kind clash = λ owner stored files_there have.
      no_clash chunks owner stored files_there have before files found handle file (reading_of file read) block (is_so file read) chunk kind clash
