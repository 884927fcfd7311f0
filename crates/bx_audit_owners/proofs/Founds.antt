-- What is found, inode by inode.
use Rattle.std.proofs.Common.{◌≡◌, ℕ, ◌⊎◌, ⊎_elim, inl, inr, Bool, List, [], length, sym, ap, ◌∙◌, subst, refl, Option, Some, None}
use Rattle.std.specs.Prelude.{◌≢◌, ◌==◌, if◌then◌else◌, Contains}
use Rattle.bx_audit_bodies.specs.declared.claims.Claim.{Claim}
use Rattle.bx_audit_owners.specs.declared.holders.Holder.{Holder}
use Rattle.bx_audit_owners.specs.declared.holders.Holder.TheVariants.{File as OfFile}
use Rattle.bx_audit_owners.specs.Holding.{Holdings, holder_by, holder_for, AddsHolder}
use Rattle.bx_audit_owners.specs.Found.{Reading, IsReadSo, IsInode, IsFound}
use Rattle.bx_layout.specs.declared.inode.Inode.{Inode}
use Rattle.bx_tree_files.specs.declared.file.File.{File}
use Rattle.bx_tree_files.specs.Files.{file_at}
use Rattle.bx_truth.specs.PageTrees.{Chunks}
use Rattle.bx_truth.proofs.Cases.{same_or, eq_true, eq_false}

some_same : {X : Type 0} (x y : X) → Some x ≡ Some y → x ≡ y
some_same x y e = cc

none_some : {X : Type 0} (o : Option X) (x : X) → o ≡ None → o ≡ Some x → ⊥
none_some o x none some = absurd cc

pub is_inode_for : (file : Option File) → IsInode (Some (holder_for file))
is_inode_for None = tt
is_inode_for (Some file) = tt

pub no_claim : (file : Option File) (inode : ℕ) (piece : Option ℕ) → holder_by inode piece ≡ holder_for file → ⊥
no_claim None inode None e = absurd cc
no_claim None inode (Some index) e = absurd cc
no_claim (Some file) inode None e = absurd cc
no_claim (Some file) inode (Some index) e = absurd cc

pub one_claim : (a b : ℕ) (p q : Option ℕ) → holder_by a p ≡ holder_by b q → (a ≡ b) × (p ≡ q)
one_claim a b None None e = (cc, refl)
one_claim a b None (Some k) e = absurd cc
one_claim a b (Some j) None e = absurd cc
one_claim a b (Some j) (Some k) e = let same : j ≡ k = cc in (cc, ap Some same)

pub claims_no_inode : (a : ℕ) (p : Option ℕ) → IsInode (Some (holder_by a p)) → ⊥
claims_no_inode a None is = is
claims_no_inode a (Some k) is = is

-- what an inode among holders has
pub holder_there : (o : Option Holder) → IsInode o → (x : Holder) × (o ≡ Some x) × IsInode (Some x)
holder_there None is = absurd is
holder_there (Some x) is = (x, refl, is)

no_inode : Inode
no_inode = record { kind = 0; mode = 0; nlink = 0; uid = 0; gid = 0; size = 0; tail = 0; atime = (0, 0); mtime = (0, 0); ctime = (0, 0); tree = 0; parent = 0; next = 0; path = [] }

-- nothing was read yet
pub none_found : (chunks : Chunks) → IsFound chunks (λ at. None) []
none_found chunks = record {
  readings = λ handle. record { stored = record { inode = no_inode; tree = record { height = 0; level = λ level. [] } }; claims = [] };
  inodes = λ handle is. absurd is;
  kept = λ handle claim is. absurd is;
  claimed = λ handle inode piece held. absurd (none_some None (holder_by inode piece) refl held);
  is_file = λ handle file is. absurd (none_some None file refl is);
  has_file = λ handle held. absurd (none_some None OfFile refl held);
}

module _ (chunks : Chunks) (before now : Holdings) (files files_now : List File) (handle : ℕ) (file : Option File) (reading : Reading) (found : IsFound chunks before files)
    (read : IsReadSo chunks handle file reading) (new : before handle ≡ None) (adds : AddsHolder before handle (holder_for file) reading.claims (length reading.claims) now)
    (here : file_at files_now handle ≡ file) (others : (at : ℕ) → at ≢ handle → file_at files_now at ≡ file_at files at) where
  abbrev readings : ℕ → Reading
  readings at = if at == handle then reading else found.readings at

  reading_here : readings handle ≡ reading
  reading_here = ap (λ (b : Bool). if b then reading else found.readings handle) (eq_true handle handle refl)

  reading_other : (at : ℕ) → at ≢ handle → readings at ≡ found.readings at
  reading_other at apart = ap (λ (b : Bool). if b then reading else found.readings at) (eq_false at handle apart)

  -- other inodes were there before
  was_inode : (at : ℕ) → at ≢ handle → IsInode (now at) → IsInode (before at)
  was_inode at apart is =
      let x = holder_there (now at) is in
      ⊎_elim (λ was. subst IsInode (sym was) x.2)
      (λ rest. ⊎_elim (λ itself. absurd (apart itself.0)) (λ claim. absurd (claims_no_inode handle claim.0.piece (subst (λ (h : Holder). IsInode (Some h)) claim.3 x.2))) rest)
      (adds.only at x.0 x.1)

  still_inode : (at : ℕ) → IsInode (before at) → IsInode (now at)
  still_inode at is = let x = holder_there (before at) is in subst IsInode (sym (adds.still at x.0 x.1)) x.2

  not_here : (at : ℕ) → IsInode (before at) → at ≢ handle
  not_here at is same = subst IsInode (ap before same ∙ new) is

  read_now : (at : ℕ) → IsInode (now at) → IsReadSo chunks at (file_at files_now at) (readings at)
  read_now at is = ⊎_elim
      (λ same. subst (λ (n : ℕ). IsReadSo chunks n (file_at files_now n) (readings n)) (sym same)
      (subst (λ (r : Reading). IsReadSo chunks handle (file_at files_now handle) r) (sym reading_here) (subst (λ (f : Option File). IsReadSo chunks handle f reading) (sym here) read)))
      (λ apart. subst (λ (r : Reading). IsReadSo chunks at (file_at files_now at) r) (sym (reading_other at apart))
      (subst (λ (f : Option File). IsReadSo chunks at f (found.readings at)) (sym (others at apart)) (found.inodes at (was_inode at apart is))))
      (same_or at handle)

  kept_now : (at : ℕ) (claim : Claim) → IsInode (now at) → Contains (readings at).claims claim → now claim.handle ≡ Some (holder_by at claim.piece)
  kept_now at claim is there = ⊎_elim
      (λ same. subst (λ (n : ℕ). now claim.handle ≡ Some (holder_by n claim.piece)) (sym same)
      (adds.each claim (subst (λ (r : Reading). Contains r.claims claim) (ap readings same ∙ reading_here) there)))
      (λ apart. adds.still claim.handle (holder_by at claim.piece)
      (found.kept at claim (was_inode at apart is) (subst (λ (r : Reading). Contains r.claims claim) (reading_other at apart) there)))
      (same_or at handle)

  claimed_now : (at inode : ℕ) (piece : Option ℕ) → now at ≡ Some (holder_by inode piece) → IsInode (now inode) × Contains (readings inode).claims (record { handle = at; piece = piece })
  claimed_now at inode piece held = by (adds.only at (holder_by inode piece) held)
    where
      here_too : (claim : Claim) → Contains reading.claims claim → at ≡ claim.handle → (inode ≡ handle) × (piece ≡ claim.piece) → IsInode (now inode) × Contains (readings inode).claims (record { handle = at; piece = piece })
      here_too claim there at_is same =
          let one : record { handle = at; piece = piece } ≡ claim = λ i. record { handle = at_is i; piece = same.1 i } in (
            subst (λ (n : ℕ). IsInode (now n)) (sym same.0) (subst IsInode (sym adds.itself) (is_inode_for file)),
            subst (λ (r : Reading). Contains r.claims (record { handle = at; piece = piece })) (sym (ap readings same.0 ∙ reading_here)) (subst (Contains reading.claims) (sym one) there),
          )

      by : (before at ≡ Some (holder_by inode piece)) ⊎ (((at ≡ handle) × (holder_by inode piece ≡ holder_for file)) ⊎ ((claim : Claim) × Contains reading.claims claim × (at ≡ claim.handle) × (holder_by inode piece ≡ holder_by handle claim.piece)))
          → IsInode (now inode) × Contains (readings inode).claims (record { handle = at; piece = piece })
      by (inl was) =
          let c = found.claimed at inode piece was in
          (still_inode inode c.0, subst (λ (r : Reading). Contains r.claims (record { handle = at; piece = piece })) (sym (reading_other inode (not_here inode c.0))) c.1)
      by (inr (inl itself)) = absurd (no_claim file inode piece itself.1)
      by (inr (inr claim)) = here_too claim.0 claim.1 claim.2 (one_claim inode handle piece claim.0.piece claim.3)

  is_file_now : (at : ℕ) (f : File) → file_at files_now at ≡ Some f → now at ≡ Some OfFile
  is_file_now at f is = ⊎_elim
      (λ same. ap now same ∙ adds.itself ∙ ap (λ (o : Option File). Some (holder_for o)) (sym here ∙ ap (file_at files_now) (sym same) ∙ is))
      (λ apart. adds.still at OfFile (found.is_file at f (sym (others at apart) ∙ is)))
      (same_or at handle)

  has_file_now : (at : ℕ) → now at ≡ Some OfFile → file_at files_now at ≢ None
  has_file_now at held none = by (adds.only at OfFile held)
    where
      other : before at ≡ Some OfFile → at ≢ handle
      other was same = none_some (before at) OfFile (ap before same ∙ new) was

      live : (f : Option File) → OfFile ≡ holder_for f → f ≢ None
      live None e is = absurd cc
      live (Some f) e is = absurd cc

      by : (before at ≡ Some OfFile) ⊎ (((at ≡ handle) × (OfFile ≡ holder_for file)) ⊎ ((claim : Claim) × Contains reading.claims claim × (at ≡ claim.handle) × (OfFile ≡ holder_by handle claim.piece))) → ⊥
      by (inl was) = found.has_file at was (sym (others at (other was)) ∙ none)
      by (inr (inl itself)) = live file itself.1 (sym here ∙ ap (file_at files_now) (sym itself.0) ∙ none)
      by (inr (inr claim)) = claims_no_inode handle claim.0.piece (subst (λ (h : Holder). IsInode (Some h)) claim.3 tt)

  -- an inode more
  pub one_found : IsFound chunks now files_now
  one_found = record {
    readings = readings;
    inodes = read_now;
    kept = kept_now;
    claimed = claimed_now;
    is_file = is_file_now;
    has_file = has_file_now;
  }
