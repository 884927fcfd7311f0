-- What comes to a machine that is no replica, and what images are read as at each moment.
use Rattle.std.proofs.Common.{◌≡◌, ℕ, ◌^◌, ◌<◌, ◌≤◌, inl, inr, ⊎_elim, false, List, ◌++◌, Some, Result, Ok, Err, OnOk, append_assoc, sym, ap, subst, ◌∙◌, arith}
use Rattle.std.proofs.lemmas.Bool.Decides.{eqb_tells}
use Rattle.bx_base.specs.declared.names.Actor.{Actor}
use Rattle.bx_base.specs.declared.names.Actor.TheVariants.{Replica as OfReplica}
use Rattle.bx_calls.specs.Calls.{HasSure, KeepsAll, KeepsSure, LeavesOnly}
use Rattle.bx_calls.specs.Laws.{leaves_implies}
use Rattle.bx_disk.specs.Disks.{Disks, Image, IsImage}
use Rattle.bx_facts.specs.Chains.{IsNext, last}
use Rattle.bx_facts.specs.Disks.{OnlyDiskOf, ReadsOnly, SameLabels, SameMembers}
use Rattle.bx_facts.specs.Machines.{IsMachine, disk_of}
use Rattle.bx_facts.specs.Pasts.{RegisterPast, register_restarted, register_with}
use Rattle.bx_global.specs.declared.state.GlobalState.{GlobalState}
use Rattle.bx_post.specs.declared.packets.Letter.{Letter}
use Rattle.bx_proposer.specs.Letters.{asks_of}
use Rattle.bx_proposer.specs.Names.{number_of}
use Rattle.bx_rounds.specs.Courses.{started}
use Rattle.bx_proposer.specs.Standing.{IsProposerView as IsProposer, ProposerView as Proposer, going_on}
use Rattle.bx_rounds.specs.declared.course.Course.{Course}
use Rattle.bx_paxos.proofs.Replicas.{leaves_none}
use Rattle.bx_paxos.proofs.Starts.{restarted}
use Rattle.bx_paxos.specs.Fits.{Fits, Turned, Voters, going}
use Rattle.bx_paxos.proofs.Reading.{reads}
use Rattle.bx_paxos.specs.Machines.{AreHalves, IsSame}
use Rattle.bx_paxos.specs.Reading.{ReadsNext, ReadsState}
use Rattle.bx_paxos.specs.declared.replica.Replica.{Replica}
use Rattle.bx_paxos_found.specs.Origins.{origin_in}
use Rattle.bx_paxos_found.specs.declared.origins.Origins.{Origins}
use Rattle.bx_paxos_machines.specs.declared.machine.Machine.TheVariants.{Replica as IsReplica, Other}
use Rattle.bx_paxos_machines.specs.Parts.{IsPart}
use Rattle.bx_paxos_machines.proofs.Keeping.{stays_kept}

-- ---- images

-- an image that a crash may leave
pub image_reads : (v : Voters) (x : Disks) (past : RegisterPast) (out : List Letter) (image : Image) → Fits v x (register_with past out) → IsImage x image → ReadsOnly (ReadsState v.first) x (IsNext past.proposed (last past.chain)) image
image_reads v x past out image f is = record {
  members = λ d s far sure. is.sure d s sure;
  labels = λ d low sure. is.sure d 0 sure;
  read = λ s read. reads v x (register_with past out) image s f (record { sure = is.sure }) read;
}

-- .. while nothing was asked of the rack
pub quiet_moments : (v : Voters) (x : Disks) (past : RegisterPast) (out : List Letter) (moment : ℕ) (since : ℕ → Image → Type 0) → Fits v x (register_with past out) → ((image : Image) → since moment image → IsImage x image)
    → LeavesOnly moment moment since since (ReadsOnly (ReadsState v.first) x (IsNext past.proposed (last past.chain)))
quiet_moments v x past out moment since f only =
    leaves_implies moment moment since since (IsImage x) (ReadsOnly (ReadsState v.first) x (IsNext past.proposed (last past.chain))) (leaves_none x moment since only) (λ image is. image_reads v x past out image f is)

-- .. while a disk was synced
pub sync_moments : (v : Voters) (x : Disks) (past : RegisterPast) (out : List Letter) (before now : ℕ) (left since : ℕ → Image → Type 0) → Fits v x (register_with past out) → LeavesOnly before now left since (IsImage x)
    → LeavesOnly before now left since (ReadsOnly (ReadsState v.first) x (IsNext past.proposed (last past.chain)))
sync_moments v x past out before now left since f leaves =
    leaves_implies before now left since (IsImage x) (ReadsOnly (ReadsState v.first) x (IsNext past.proposed (last past.chain))) leaves (λ image is. image_reads v x past out image f is)

leaves_both : (before now : ℕ) (left since : ℕ → Image → Type 0) (P Q : Image → Type 0) → LeavesOnly before now left since P → LeavesOnly before now left since Q → LeavesOnly before now left since (λ image. P image × Q image)
leaves_both before now left since P Q one other = record {
  later = one.later;
  each = λ image is. (one.each image is, other.each image is);
  nothing_else = λ t image at is. ⊎_elim (λ was. inl was) (λ p. ⊎_elim (λ was. inl was) (λ q. inr (p, q)) (other.nothing_else t image at is)) (one.nothing_else t image at is);
  keeps = one.keeps;
}

-- .. while a replica's cell was put
pub put_moments : (v : Voters) (x : Disks) (past : RegisterPast) (n before now : ℕ) (left since : ℕ → Image → Type 0) → n < 3 → LeavesOnly before now left since (ReadsNext v.first past x.sizes) → LeavesOnly before now left since (HasSure x n 1 20)
    → LeavesOnly before now left since (ReadsOnly (ReadsState v.first) x (IsNext past.proposed (last past.chain)))
put_moments v x past n before now left since low reads beside =
    leaves_implies before now left since (λ image. ReadsNext v.first past x.sizes image × HasSure x n 1 20 image) (ReadsOnly (ReadsState v.first) x (IsNext past.proposed (last past.chain)))
    (leaves_both before now left since (ReadsNext v.first past x.sizes) (HasSure x n 1 20) reads beside) (λ image both. record {
      members = λ d s far sure. both.1.outside.elsewhere d s (λ same. absurd (omega (arith, far, low, same))) sure;
      labels = λ d below. label image both.1 d;
      read = both.0;
    })
  where
    label : (image : Image) → HasSure x n 1 20 image → (d : ℕ) → x.unsure d 0 ≡ false → image d 0 ≡ x.reads d 0
    label image has d = elim (eqb_tells d n) [
      | inl same ↦ subst (λ (k : ℕ). x.unsure k 0 ≡ false → image k 0 ≡ x.reads k 0) (sym same.1) (has.outside.before 0 (omega arith))
      | inr apart ↦ has.outside.elsewhere d 0 apart.1
    ]

-- ---- a start

pub other_starts : (v : Voters) (x : Disks) (past : RegisterPast) (p q : Proposer) (boot : ℕ) (courses : ℕ → Course) (out after : List Letter) → v.first ≡ p.first → IsProposer p → v.nodes ≤ 16 → v.nodes ≡ p.nodes → past.boots p.at < boot → boot < 2 ^ 64
    → q ≡ going_on p (started boot p.course.reading p.first) → after ≡ out ++ asks_of p.at → Turned p.actor q.course v.courses courses → Fits v x (register_with past out) → Fits (going v courses) x (register_with (register_restarted past p.at boot) after)
other_starts v x past p q boot courses out after first is few nodes above fits kept asks turned f =
    let there : IsMachine v.nodes p.at = subst (λ (n : ℕ). IsMachine n p.at) (sym nodes) is.machine in
    let now : q.course ≡ started boot p.course.reading v.first = ap (λ (s : Proposer). s.course) kept ∙ ap (λ (s : GlobalState). started boot p.course.reading s) (sym first) in
    let so : Turned (number_of p.at) (started boot p.course.reading v.first) v.courses courses = subst (λ (n : ℕ). Turned n (started boot p.course.reading v.first) v.courses courses) is.actor (subst (λ (c : Course). Turned p.actor c v.courses courses) now turned) in
    let again = restarted v x (register_with past out) p.at boot p.course.reading courses f few there above fits so in
    subst (λ (l : List Letter). Fits (going v courses) x (record (register_restarted past p.at boot) { letters = l })) (append_assoc past.letters out (asks_of p.at) ∙ ap (λ (l : List Letter). past.letters ++ l) (sym asks)) again

-- three facts of one answer
pub all_ok : {T E : Type 0} (r : Result T E) (A B C D : Type 0) → OnOk r A → OnOk r B → OnOk r C → (A → B → C → D) → OnOk r D
all_ok (Ok v) A B C D a b c f = f a b c
all_ok (Err e) A B C D a b c f = tt

-- ---- the same machine

pub replica_part : (nodes : ℕ) (made : GlobalState) (origins : Origins) (r s : Replica) → AreHalves s.acceptor s.proposer → IsSame r.acceptor s.acceptor r.proposer s.proposer → IsPart nodes made origins (IsReplica r) → IsPart nodes made origins (IsReplica s)
replica_part nodes made origins r s halves same part = record {
  whole = halves;
  nodes_are = ap (λ (p : Proposer). p.nodes) same.proposer ∙ part.nodes_are;
  first = ap (λ (p : Proposer). p.first) same.proposer ∙ part.first;
  origin = same.origin ∙ part.origin ∙ ap (origin_in origins) (sym same.replica);
}

pub other_part : (nodes : ℕ) (made : GlobalState) (origins : Origins) (p q : Proposer) → IsProposer q → q ≡ going_on p q.course → IsPart nodes made origins (Other p) → IsPart nodes made origins (Other q)
other_part nodes made origins p q is same part = record {
  whole = is;
  nodes_are = ap (λ (k : Proposer). k.nodes) same ∙ part.nodes_are;
  first = ap (λ (k : Proposer). k.first) same ∙ part.first;
  origin = part.origin;
}

-- ---- the disk of a replica

own_disk : (who : Actor) (n d : ℕ) → who ≡ OfReplica n → d ≡ n → disk_of who ≡ Some d
own_disk who n d named same = ap disk_of named ∙ ap (λ (k : ℕ). Some k) (sym same)

pub put_only : (x y : Disks) (who : Actor) (n : ℕ) → who ≡ OfReplica n → KeepsSure x y n 1 20 → OnlyDiskOf who x y
put_only x y who n named keeps = record { others = λ d s apart. keeps.others d s (λ same. apart (own_disk who n d named same)) }

pub put_members : (x y : Disks) (n : ℕ) → n < 3 → KeepsSure x y n 1 20 → SameMembers x y
put_members x y n low keeps = record { each = λ d s far. stays_kept x y d s (keeps.others d s (λ same. omega (arith, far, low, same))) }

pub put_labels : (x y : Disks) (n : ℕ) → KeepsSure x y n 1 20 → SameLabels x y
put_labels x y n keeps = record { each = λ d below. record { reads = read d; sure = sure d } }
  where
    read : (d : ℕ) → y.reads d 0 ≡ x.reads d 0
    read d = elim (eqb_tells d n) [
      | inl same ↦ subst (λ (k : ℕ). y.reads k 0 ≡ x.reads k 0) (sym same.1) (keeps.reads.before 0 (omega arith))
      | inr apart ↦ keeps.reads.elsewhere d 0 apart.1
    ]

    sure : (d : ℕ) → x.unsure d 0 ≡ false → y.unsure d 0 ≡ false
    sure d = elim (eqb_tells d n) [
      | inl same ↦ subst (λ (k : ℕ). x.unsure k 0 ≡ false → y.unsure k 0 ≡ false) (sym same.1) (keeps.sure.before 0 (omega arith))
      | inr apart ↦ keeps.sure.elsewhere d 0 apart.1
    ]

pub sync_only : (x y : Disks) (who : Actor) (n : ℕ) → who ≡ OfReplica n → KeepsAll x y n → OnlyDiskOf who x y
sync_only x y who n named keeps = record { others = λ d s apart. keeps.others d s (λ same. apart (own_disk who n d named same)) }

pub sync_members : (x y : Disks) (n : ℕ) → KeepsAll x y n → SameMembers x y
sync_members x y n keeps = record { each = λ d s far. record { reads = ap (λ (r : Image). r d s) keeps.reads; sure = keeps.sure d s } }

pub sync_labels : (x y : Disks) (n : ℕ) → KeepsAll x y n → SameLabels x y
sync_labels x y n keeps = record { each = λ d low. record { reads = ap (λ (r : Image). r d 0) keeps.reads; sure = keeps.sure d 0 } }
