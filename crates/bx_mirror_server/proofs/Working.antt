-- What events leave of disks, put together.
use Rattle.std.proofs.Common.{◌≡◌, ℕ, ◌-◌, List, [], refl, sym, subst}
use Rattle.bx_calls.specs.Calls.{HasSure, KeepsAll, KeepsSure, LeavesOnly}
use Rattle.bx_calls.specs.Laws.{keeps_all, leaves_now, leaves_then}
use Rattle.bx_disk.specs.Disks.{Disks, Image, IsImage}
use Rattle.bx_disk.specs.declared.rack.Rack as racks
use Rattle.bx_members.proofs.Kept.{keeps_none, keeps_same, leaves_reading, read_sure}
use Rattle.bx_members.specs.Members.{HasMembers, KeepsMembers}
use Rattle.bx_records.specs.declared.runs.Run.{Run}
use Rattle.bx_mirror_server.specs.Working.{Reads, Works, alone}

-- nothing is written
pub all_same : (x : Disks) (disk : ℕ) → KeepsAll x x disk
all_same x disk = record { sizes = refl; reads = refl; sure = λ d s was. was; still = λ d s is. record { reads = refl; held = refl; unsure = refl }; others = λ d s other. record { reads = refl; held = refl; unsure = refl } }

pub sure_same : (x y : Disks) (disk from count : ℕ) → y ≡ x → KeepsSure x y disk from count
sure_same x y disk from count same = subst (λ (z : Disks). KeepsSure x z disk from count) (sym same) (keeps_all x x disk from count (all_same x disk))

module _ {R : Type 0} (rack : racks.Ghosts R) where
  -- no call at all
  pub reads_none : (r : R) → ((image : Image) → rack.tells r → rack.left_since r (rack.moment r) image → IsImage (rack.state r) image) → Reads rack r r
  reads_none r now = record { stays = refl; any_moment = λ tells. leaves_now (rack.moment r) (rack.left_since r) (IsImage (rack.state r)) (λ image left. now image tells left) }

  -- what reads alone works on nothing
  pub reads_work : (old new : R) (disk room : ℕ) (Brings : List Run → Type 0) → Brings [] → Reads rack old new → Works rack old new disk room Brings
  reads_work old new disk room Brings none reads = record {
    runs = [];
    brings = none;
    keeps = λ tells. subst (λ (y : Disks). KeepsMembers (alone []) 0 (rack.state old) y) (sym reads.stays) (keeps_none (alone []) 0 (rack.state old));
    any_moment = λ tells. leaves_reading (rack.moment old) (rack.moment new) (rack.left_since old) (rack.left_since new) (alone []) 0 (rack.state old) (reads.any_moment tells);
    elsewhere = λ tells. sure_same (rack.state old) (rack.state new) disk 1 (room - 1) reads.stays;
    sure_moment = λ tells. read_sure (rack.moment old) (rack.moment new) (rack.left_since old) (rack.left_since new) disk 1 (room - 1) (rack.state old) (reads.any_moment tells);
  }

  -- and so does no call
  pub works_none : (r : R) (disk room : ℕ) (Brings : List Run → Type 0) → Brings [] → ((image : Image) → rack.tells r → rack.left_since r (rack.moment r) image → IsImage (rack.state r) image) → Works rack r r disk room Brings
  works_none r disk room Brings none now = reads_work r r disk room Brings none (reads_none r now)

  -- disks are read, and then worked on
  pub reads_then : (old mid new : R) (disk room : ℕ) (Brings : List Run → Type 0) → Reads rack old mid → (rack.tells old → rack.tells mid) → Works rack mid new disk room Brings → Works rack old new disk room Brings
  reads_then old mid new disk room Brings reads goes works = record {
    runs = works.runs;
    brings = works.brings;
    keeps = λ tells. subst (λ (x : Disks). KeepsMembers (alone works.runs) 0 x (rack.state new)) reads.stays (works.keeps (goes tells));
    any_moment = λ tells.
        leaves_then (rack.moment old) (rack.moment mid) (rack.moment new) (rack.left_since old) (rack.left_since mid) (rack.left_since new) (HasMembers (alone works.runs) 0 (rack.state old)) (HasMembers (alone works.runs) 0 (rack.state mid))
        (leaves_reading (rack.moment old) (rack.moment mid) (rack.left_since old) (rack.left_since mid) (alone works.runs) 0 (rack.state old) (reads.any_moment tells)) (works.any_moment (goes tells))
        (λ image has. subst (λ (x : Disks). HasMembers (alone works.runs) 0 x image) reads.stays has);
    elsewhere = λ tells. subst (λ (x : Disks). KeepsSure x (rack.state new) disk 1 (room - 1)) reads.stays (works.elsewhere (goes tells));
    sure_moment = λ tells.
        leaves_then (rack.moment old) (rack.moment mid) (rack.moment new) (rack.left_since old) (rack.left_since mid) (rack.left_since new) (HasSure (rack.state old) disk 1 (room - 1)) (HasSure (rack.state mid) disk 1 (room - 1))
        (read_sure (rack.moment old) (rack.moment mid) (rack.left_since old) (rack.left_since mid) disk 1 (room - 1) (rack.state old) (reads.any_moment tells)) (works.sure_moment (goes tells))
        (λ image has. subst (λ (x : Disks). HasSure x disk 1 (room - 1) image) reads.stays has);
  }

  -- what is brought is so by more
  pub works_for : (old new : R) (disk room : ℕ) (Brings Wanted : List Run → Type 0) → ((runs : List Run) → Brings runs → Wanted runs) → Works rack old new disk room Brings → Works rack old new disk room Wanted
  works_for old new disk room Brings Wanted more works = record {
    runs = works.runs;
    brings = more works.runs works.brings;
    keeps = works.keeps;
    any_moment = works.any_moment;
    elsewhere = works.elsewhere;
    sure_moment = works.sure_moment;
  }

  -- a sync
  pub works_synced : (old new : R) (disk room : ℕ) (Brings : List Run → Type 0) → Brings [] → (rack.tells old → KeepsAll (rack.state old) (rack.state new) disk)
      → (rack.tells old → LeavesOnly (rack.moment old) (rack.moment new) (rack.left_since old) (rack.left_since new) (IsImage (rack.state old))) → Works rack old new disk room Brings
  works_synced old new disk room Brings none keeps leaves = record {
    runs = [];
    brings = none;
    keeps = λ tells. keeps_same (alone []) 0 disk (rack.state old) (rack.state new) (keeps tells);
    any_moment = λ tells. leaves_reading (rack.moment old) (rack.moment new) (rack.left_since old) (rack.left_since new) (alone []) 0 (rack.state old) (leaves tells);
    elsewhere = λ tells. keeps_all (rack.state old) (rack.state new) disk 1 (room - 1) (keeps tells);
    sure_moment = λ tells. read_sure (rack.moment old) (rack.moment new) (rack.left_since old) (rack.left_since new) disk 1 (room - 1) (rack.state old) (leaves tells);
  }
