-- What calls keep of members, put together.
use Rattle.std.proofs.Common.{◌≡◌, ◌≢◌, ℕ, ◌+◌, ◌*◌, ◌/◌, ◌<◌, ◌≤◌, ⊎_elim, Bool, true, false, List, length, refl, sym, ◌∙◌, ap, subst, arith}
use Rattle.std.proofs.lemmas.Bool.Decides.{nat_tests}
use Rattle.std.proofs.lemmas.List.{take_all}
use Rattle.bx_disk.specs.Disks.{Image, Disks, IsImage, is_within, sector_of}
use Rattle.bx_records.specs.declared.runs.Run.{Run}
use Rattle.bx_calls.specs.Regions.{ReadsAs, IsSynced}
use Rattle.bx_calls.specs.Calls.{KeepsSure, KeepsAll, HasSure, LeavesOnly}
use Rattle.bx_calls.specs.Laws.{outside_at, apart_disks, reads_kept, leaves_then, leaves_implies, image_has as image_sure}
use Rattle.bx_facts.specs.Disks.{SameDisks}
use Rattle.bx_facts.specs.Writes.{Sent, IsOnly, member_disk}
use Rattle.bx_members.specs.Members.{IsBrought, IsTaken, KeepsMembers, HasMembers}

-- one sector of 512 bytes
pub one_sector : (bytes : List ℕ) → length bytes ≡ 512 → sector_of bytes 0 ≡ bytes
unfolding sector_of
one_sector bytes long = take_all 512 bytes (omega (arith, long))

-- a member's disk names it
pub same_member : (device other : ℕ) (second third : Bool) → member_disk device second ≡ member_disk other third → (device ≡ other) × (second ≡ third)
same_member device other false false same = (omega (arith, same), refl)
same_member device other true true same = (omega (arith, same), refl)
same_member device other false true same = absurd (omega (arith, same))
same_member device other true false same = absurd (omega (arith, same))

pub past_replicas : (device : ℕ) (second : Bool) → 3 ≤ member_disk device second
past_replicas device false = omega arith
past_replicas device true = omega arith

-- what may be brought where nothing else is
pub brought_is : (writes : List Sent) (greatest device sector : ℕ) (bytes content : List ℕ) → IsBrought writes greatest device sector bytes → IsOnly writes greatest device sector content → bytes ≡ content
brought_is writes greatest device sector bytes content brought only =
    ⊎_elim (λ same. same) (λ over. absurd (brought.not_over over)) (only.each brought.write bytes brought.there brought.brings)

pub run_brings : (writes : List Sent) (greatest : ℕ) (run : Run) (i : ℕ) → IsTaken writes greatest run → i < length run.bytes / 512 → IsBrought writes greatest run.device (run.place + i) (sector_of run.bytes i)
run_brings writes greatest run i taken less = record {
  write = taken.write;
  there = taken.there;
  brings = (run, taken.has, record { on = refl; from = omega arith; below = omega (arith, less); is = ap (sector_of run.bytes) (omega arith) });
  not_over = taken.not_over;
}

-- ---- kept and had

pub keeps_same : (writes : List Sent) (greatest disk : ℕ) (old new : Disks) → KeepsAll old new disk → KeepsMembers writes greatest old new
keeps_same writes greatest disk old new all = record {
  reads = λ device sector second content only here. ap (λ (f : Image). f (member_disk device second) sector) all.reads ∙ here;
  sure = λ device sector second content only here was. all.sure (member_disk device second) sector was;
  replicas = λ d sector less. record { reads = ap (λ (f : Image). f d sector) all.reads; sure = all.sure d sector };
}

pub keeps_none : (writes : List Sent) (greatest : ℕ) (x : Disks) → KeepsMembers writes greatest x x
keeps_none writes greatest x = record {
  reads = λ device sector second content only here. here;
  sure = λ device sector second content only here was. was;
  replicas = λ d sector less. record { reads = refl; sure = λ was. was };
}

pub keeps_then : (writes : List Sent) (greatest : ℕ) (old mid new : Disks) → KeepsMembers writes greatest old mid → KeepsMembers writes greatest mid new → KeepsMembers writes greatest old new
keeps_then writes greatest old mid new first next = record {
  reads = λ device sector second content only here. next.reads device sector second content only (first.reads device sector second content only here);
  sure = λ device sector second content only here was. next.sure device sector second content only (first.reads device sector second content only here) (first.sure device sector second content only here was);
  replicas = λ d sector less.
      let a = first.replicas d sector less in
      let b = next.replicas d sector less in
      record { reads = b.reads ∙ a.reads; sure = λ was. b.sure (a.sure was) };
}

pub had_before : (writes : List Sent) (greatest : ℕ) (old mid : Disks) (image : Image) → KeepsMembers writes greatest old mid → HasMembers writes greatest mid image → HasMembers writes greatest old image
had_before writes greatest old mid image keeps has = record {
  members = λ device sector second content only here was. has.members device sector second content only (keeps.reads device sector second content only here) (keeps.sure device sector second content only here was);
  replicas = λ d sector less was. let k = keeps.replicas d sector less in has.replicas d sector less (k.sure was) ∙ k.reads;
}

pub image_has : (writes : List Sent) (greatest : ℕ) (x : Disks) (image : Image) → IsImage x image → HasMembers writes greatest x image
image_has writes greatest x image is = record {
  members = λ device sector second content only here was. is.sure (member_disk device second) sector was ∙ here;
  replicas = λ d sector less was. is.sure d sector was;
}

-- ---- one sector that reads as something else

module _ (writes : List Sent) (greatest device sector : ℕ) (second : Bool) (bytes : List ℕ) (old : Disks)
    (brought : IsBrought writes greatest device sector bytes)
    (other : old.reads (member_disk device second) sector ≢ bytes) where
  -- what only this is brought to, and what reads so already, is another sector
  is_outside : (at s : ℕ) (third : Bool) (content : List ℕ) → IsOnly writes greatest at s content → old.reads (member_disk at third) s ≡ content
      → is_within (member_disk device second) sector 1 (member_disk at third) s ≡ false
  is_outside at s third content only here = by_test (is_within (member_disk device second) sector 1 (member_disk at third) s) refl
    where
      by_test : (b : Bool) → is_within (member_disk device second) sector 1 (member_disk at third) s ≡ b → is_within (member_disk device second) sector 1 (member_disk at third) s ≡ false
      by_test false apart = apart
      by_test true within =
          let disks : member_disk at third ≡ member_disk device second = grind (arith, nat_tests, within) in
          let sectors : s ≡ sector = grind (arith, nat_tests, within) in
          let same = same_member at device third second disks in
          let only_here : IsOnly writes greatest device sector content = subst (λ (n : ℕ). IsOnly writes greatest device n content) sectors (subst (λ (n : ℕ). IsOnly writes greatest n s content) same.0 only) in
          let reads_here : old.reads (member_disk device second) sector ≡ content = ap (old.reads (member_disk device second)) (sym sectors) ∙ ap (λ (d : ℕ). old.reads d s) (sym disks) ∙ here in
          absurd (other (reads_here ∙ sym (brought_is writes greatest device sector bytes content brought only_here)))

  far : (d s : ℕ) → d < 3 → is_within (member_disk device second) sector 1 d s ≡ false
  far d s less = let past = past_replicas device second in grind (arith, nat_tests, less, past)

  pub keeps_sector : (new : Disks) → KeepsSure old new (member_disk device second) sector 1 → KeepsMembers writes greatest old new
  keeps_sector new keeps = record {
    reads = λ at s third content only here. outside_at _ _ _ (λ d s. new.reads d s ≡ old.reads d s) keeps.reads (member_disk at third) s (is_outside at s third content only here) ∙ here;
    sure = λ at s third content only here was. outside_at _ _ _ (λ d s. old.unsure d s ≡ false → new.unsure d s ≡ false) keeps.sure (member_disk at third) s (is_outside at s third content only here) was;
    replicas = λ d s less. record {
      reads = outside_at _ _ _ (λ d s. new.reads d s ≡ old.reads d s) keeps.reads d s (far d s less);
      sure = outside_at _ _ _ (λ d s. old.unsure d s ≡ false → new.unsure d s ≡ false) keeps.sure d s (far d s less);
    };
  }

  pub has_sector : (image : Image) → HasSure old (member_disk device second) sector 1 image → HasMembers writes greatest old image
  has_sector image has = record {
    members = λ at s third content only here was. outside_at _ _ _ (λ d s. old.unsure d s ≡ false → image d s ≡ old.reads d s) has.outside (member_disk at third) s (is_outside at s third content only here) was ∙ here;
    replicas = λ d s less was. outside_at _ _ _ (λ d s. old.unsure d s ≡ false → image d s ≡ old.reads d s) has.outside d s (far d s less) was;
  }

-- ---- moments

-- one stretch of time and the next, between which the disks are kept
pub leaves_next : (before mid now : ℕ) (past between since : ℕ → Image → Type 0) (writes : List Sent) (greatest : ℕ) (old new : Disks)
    → LeavesOnly before mid past between (HasMembers writes greatest old) → KeepsMembers writes greatest old new
    → LeavesOnly mid now between since (HasMembers writes greatest new)
    → LeavesOnly before now past since (HasMembers writes greatest old)
leaves_next before mid now past between since writes greatest old new first keeps next =
    leaves_then before mid now past between since (HasMembers writes greatest old) (HasMembers writes greatest new) first next (λ image has. had_before writes greatest old new image keeps has)

pub leaves_reading : (before now : ℕ) (past since : ℕ → Image → Type 0) (writes : List Sent) (greatest : ℕ) (old : Disks)
    → LeavesOnly before now past since (IsImage old) → LeavesOnly before now past since (HasMembers writes greatest old)
leaves_reading before now past since writes greatest old leaves =
    leaves_implies before now past since (IsImage old) (HasMembers writes greatest old) leaves (λ image is. image_has writes greatest old image is)

-- ---- the calls of `put_sector`

pub first_sector : (image : Image) (disk sector : ℕ) (bytes : List ℕ) → length bytes ≡ 512 → ReadsAs image disk sector bytes → image disk sector ≡ bytes
first_sector image disk sector bytes long reads =
    let there : sector ≡ sector + 0 = omega arith in
    ap (image disk) there ∙ reads.each 0 (omega (arith, long)) ∙ one_sector bytes long

pub put_keeps : (writes : List Sent) (greatest device sector disk count : ℕ) (second : Bool) (bytes : List ℕ) (old mid new : Disks)
    → disk ≡ member_disk device second → count ≡ 1 → mid ≡ old → IsBrought writes greatest device sector bytes → old.reads disk sector ≢ bytes
    → KeepsSure mid new disk sector count → KeepsMembers writes greatest old new
put_keeps writes greatest device sector disk count second bytes old mid new is one same brought other keeps =
    keeps_sector writes greatest device sector second bytes old brought
    (λ reads. other (ap (λ (d : ℕ). old.reads d sector) is ∙ reads))
    new
    (subst (λ (d : ℕ). KeepsSure old new d sector 1) is (subst (λ (n : ℕ). KeepsSure old new disk sector n) one (subst (λ (x : Disks). KeepsSure x new disk sector count) same keeps)))

pub put_leaves : (before between now : ℕ) (past midway since : ℕ → Image → Type 0)
    (writes : List Sent) (greatest device sector disk count : ℕ) (second : Bool) (bytes : List ℕ) (old mid : Disks)
    → disk ≡ member_disk device second → count ≡ 1 → mid ≡ old → IsBrought writes greatest device sector bytes → old.reads disk sector ≢ bytes
    → LeavesOnly before between past midway (IsImage old) → LeavesOnly between now midway since (HasSure mid disk sector count)
    → LeavesOnly before now past since (HasMembers writes greatest old)
put_leaves before between now past midway since writes greatest device sector disk count second bytes old mid is one same brought other first next =
    leaves_then before between now past midway since (HasMembers writes greatest old) (HasSure mid disk sector count)
    (leaves_reading before between past midway writes greatest old first) next
    (λ image has. has_sector writes greatest device sector second bytes old brought
    (λ reads. other (ap (λ (d : ℕ). old.reads d sector) is ∙ reads))
    image
    (subst (λ (d : ℕ). HasSure old d sector 1 image) is (subst (λ (n : ℕ). HasSure old disk sector n image) one (subst (λ (x : Disks). HasSure x disk sector count image) same has))))

-- what was sure elsewhere, where disks were read, and where the sector is written then
pub read_sure : (before now : ℕ) (past since : ℕ → Image → Type 0) (disk sector count : ℕ) (old : Disks)
    → LeavesOnly before now past since (IsImage old) → LeavesOnly before now past since (HasSure old disk sector count)
read_sure before now past since disk sector count old leaves =
    leaves_implies before now past since (IsImage old) (HasSure old disk sector count) leaves (λ image is. image_sure old disk sector count image is)

pub put_sure : (before between now : ℕ) (past midway since : ℕ → Image → Type 0) (disk sector count : ℕ) (old mid : Disks) → count ≡ 1 → mid ≡ old
    → LeavesOnly before between past midway (IsImage old) → LeavesOnly between now midway since (HasSure mid disk sector count) → LeavesOnly before now past since (HasSure old disk sector 1)
put_sure before between now past midway since disk sector count old mid one same first next =
    leaves_then before between now past midway since (HasSure old disk sector 1) (HasSure mid disk sector count) (read_sure before between past midway disk sector 1 old first) next
    (λ image has. subst (λ (n : ℕ). HasSure old disk sector n image) one (subst (λ (x : Disks). HasSure x disk sector count image) same has))

-- ---- both members

-- what was written on A reads so after what is written on B
pub both_read : (old new : Disks) (device sector : ℕ) (bytes : List ℕ) (second : Bool) → ReadsAs old.reads (3 + 2 * device) sector bytes
    → KeepsSure old new (4 + 2 * device) sector (length bytes / 512) → ReadsAs new.reads (4 + 2 * device) sector bytes → ReadsAs new.reads (member_disk device second) sector bytes
both_read old new device sector bytes true first keeps next = next
both_read old new device sector bytes false first keeps next =
    reads_kept old new (3 + 2 * device) sector bytes (4 + 2 * device) sector (length bytes / 512) keeps (apart_disks _ _ _ _ _ _ (λ same. omega (arith, same))) first

pub both_sure : (mid new : Disks) (device sector : ℕ) (second : Bool) → IsSynced mid (3 + 2 * device) → KeepsAll mid new (4 + 2 * device) → IsSynced new (4 + 2 * device) → new.unsure (member_disk device second) sector ≡ false
both_sure mid new device sector true first keeps next = next.each sector
both_sure mid new device sector false first keeps next = keeps.sure (3 + 2 * device) sector (first.each sector)

pub leaves_all : (before mid now : ℕ) (past between since : ℕ → Image → Type 0) (writes : List Sent) (greatest disk : ℕ) (old new : Disks)
    → LeavesOnly before mid past between (IsImage old) → KeepsAll old new disk → LeavesOnly mid now between since (IsImage new)
    → LeavesOnly before now past since (HasMembers writes greatest old)
leaves_all before mid now past between since writes greatest disk old new first keeps next =
    leaves_next before mid now past between since writes greatest old new (leaves_reading before mid past between writes greatest old first) (keeps_same writes greatest disk old new keeps)
    (leaves_reading mid now between since writes greatest new next)

-- disks of which one sync and the next kept all
pub same_disks : (disk : ℕ) (old new : Disks) → KeepsAll old new disk → SameDisks old new
same_disks disk old new all = record { each = λ d s. record { reads = ap (λ (f : Image). f d s) all.reads; sure = all.sure d s } }

pub same_then : (old mid new : Disks) → SameDisks old mid → SameDisks mid new → SameDisks old new
same_then old mid new first next = record { each = λ d s. record { reads = (next.each d s).reads ∙ (first.each d s).reads; sure = λ was. (next.each d s).sure ((first.each d s).sure was) } }
