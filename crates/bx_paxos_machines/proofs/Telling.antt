-- Laws of a register and the past that it keeps.
use Rattle.std.proofs.Common.{◌≡◌, ◌≢◌, ℕ, inl, inr, true, List, length, Option, Some, None, refl, sym, ap, subst, ◌∙◌}
use Rattle.bx_base.specs.declared.names.Actor.{Actor}
use Rattle.bx_base.specs.declared.names.Actor.TheVariants.{Replica}
use Rattle.bx_calls.specs.Calls.{LeavesOnly}
use Rattle.bx_calls.specs.Laws.{leaves_implies}
use Rattle.bx_disk.specs.Disks.{Disks, Image, IsImage}
use Rattle.bx_facts.specs.Chains.{IsNext, IsPlace, last}
use Rattle.bx_facts.specs.Disks.{Crashes, ReadsOnly, SameLabels, SameLengths, SameReplicas}
use Rattle.bx_facts.specs.Inputs.{AreAmong, IsRegisters}
use Rattle.bx_facts.specs.Labelled.{IsReplicaLabelled}
use Rattle.bx_facts.specs.Machines.{IsMachine}
use Rattle.bx_facts.specs.Pasts.{RegisterPast}
use Rattle.bx_global.specs.declared.state.GlobalState.{GlobalState}
use Rattle.bx_paxos.proofs.Events.{is_place, loses, other_disks, survives}
use Rattle.bx_paxos.proofs.Reading.{reads}
use Rattle.bx_paxos.proofs.Starts.{first_place}
use Rattle.bx_paxos.specs.Reading.{AreSeen, ReadsState}
use Rattle.bx_paxos_found.proofs.Views.{reads_some}
use Rattle.bx_post.specs.declared.packets.Letter.{Letter}
use Rattle.bx_proposer.specs.Names.{number_of}
use Rattle.bx_rounds.specs.declared.course.Course.{Course}
use Rattle.bx_paxos_machines.specs.declared.machine.Machine.{Machine}
use Rattle.bx_paxos_machines.specs.Cluster.{Cluster, IsCluster, knows, voters_of}
use Rattle.bx_paxos_machines.specs.Keeps.{Keeps}
use Rattle.bx_paxos_machines.specs.Parts.{cell_of, course_in, course_of, machine_at, name_of}
use Rattle.bx_paxos_machines.proofs.Keeping.{has_kept, none_has, stays_kept, tells}
use Rattle.bx_paxos_machines.proofs.Places.{name_at, part_at}
use Rattle.bx_paxos_machines.proofs.Voting.{named_number, proposer_is}

pub places_at : (g : Cluster) (x : Disks) (past : RegisterPast) (who : Actor) → Keeps g x past → IsPlace past.chain (knows g who)
places_at g x past who keeps = by (machine_at g.machines who) refl
  where
    by : (o : Option Machine) → machine_at g.machines who ≡ o → IsPlace past.chain (course_in g.first o).known
    by None at = first_place (voters_of g) x past keeps.fits
    by (Some m) at =
        let part = part_at g.nodes g.first g.origins g.machines who m keeps.is.parts at in
        let p = proposer_is m part.whole in
        let there : IsMachine g.nodes who = subst (IsMachine g.nodes) (name_at g.machines who m at) (subst (λ (n : ℕ). IsMachine n (name_of m)) part.nodes_are p.machine) in
        let course : (voters_of g).courses (number_of who) ≡ course_of m = ap (λ (a : Actor). course_in g.first (machine_at g.machines a)) (named_number g.nodes who keeps.is.few there) ∙ ap (course_in g.first) at in
        subst (λ (c : Course). IsPlace past.chain c.known) course (is_place (voters_of g) x past (number_of who) keeps.fits)

-- what an image is read as goes by the number of devices alone
pub read_alike : (one other : GlobalState) (sizes : List ℕ) (image : Image) (s : GlobalState) → length one.devices ≡ length other.devices → ReadsState one sizes image s → ReadsState other sizes image s
read_alike one other sizes image s same read = record { seen = read.seen; are = subst (λ (n : ℕ). AreSeen n sizes image read.seen) same read.are; tells = read.tells }

pub reads_on : (g : Cluster) (x : Disks) (past : RegisterPast) (image : Image) (s : GlobalState) → Keeps g x past → IsImage x image → ReadsState g.made x.sizes image s → IsNext past.proposed (last past.chain) s
reads_on g x past image s keeps is read = reads (voters_of g) x past image s keeps.fits (record { sure = is.sure }) (read_alike g.made g.first x.sizes image s (sym keeps.is.devices) read)

pub some_on : (g : Cluster) (x : Disks) (past : RegisterPast) (image : Image) (n m : ℕ) → Keeps g x past → IsImage x image → n ≢ m → IsReplicaLabelled (length g.made.devices) x.sizes image n → IsReplicaLabelled (length g.made.devices) x.sizes image m → (s : GlobalState) × ReadsState g.made x.sizes image s
some_on g x past image n m keeps is apart label label_m =
    let at = λ (k : ℕ) (l : IsReplicaLabelled (length g.made.devices) x.sizes image k). subst (λ (d : ℕ). IsReplicaLabelled d x.sizes image k) (sym keeps.is.devices) l in
    let k = reads_some (voters_of g) x past image n m keeps.fits (record { sure = is.sure }) apart (at n label) (at m label_m) in
    (k.0, read_alike g.first g.made x.sizes image k.0 keeps.is.devices k.1)

pub moments_made : (g : Cluster) (x : Disks) (before now : ℕ) (left since : ℕ → Image → Type 0) (May : GlobalState → Type 0) → IsCluster g → LeavesOnly before now left since (ReadsOnly (ReadsState g.first) x May) → LeavesOnly before now left since (ReadsOnly (ReadsState g.made) x May)
moments_made g x before now left since May is leaves =
    leaves_implies before now left since (ReadsOnly (ReadsState g.first) x May) (ReadsOnly (ReadsState g.made) x May) leaves
    (λ image only. record { members = only.members; labels = only.labels; read = λ s read. only.read s (read_alike g.made g.first x.sizes image s (sym is.devices) read) })

pub elsewhere_keeps : (g : Cluster) (x y : Disks) (past : RegisterPast) → Keeps g x past → SameLengths x y → SameReplicas x y → SameLabels x y → Keeps g y past
elsewhere_keeps g x y past keeps lengths same labels = record {
  is = keeps.is;
  fits = other_disks (voters_of g) x y past keeps.fits lengths same labels;
  cells = λ who m at. has_kept x y m (part_at g.nodes g.first g.origins g.machines who m keeps.is.parts at).whole (λ n s named low behind. same.each n s low behind) (keeps.cells who m at);
  places = keeps.places;
  down = keeps.down;
}

pub crash_survives : (g : Cluster) (x y : Disks) (past : RegisterPast) (n : ℕ) → Keeps g x past → past.down (Replica n) ≡ true → SameLengths x y → Crashes n x y → Keeps g y past
crash_survives g x y past n keeps down lengths crash = record {
  is = keeps.is;
  fits = survives (voters_of g) x y past n keeps.fits lengths crash;
  cells = λ who m at. elim (tells who (Replica n)) [
    | inl same ↦ none_has y m (keeps.down who m at (subst (λ (a : Actor). past.down a ≡ true) (sym same) down))
    | inr apart ↦ has_kept x y m (part_at g.nodes g.first g.origins g.machines who m keeps.is.parts at).whole
        (λ d s named low behind. stays_kept x y d s (crash.others d s (λ e. apart (sym (name_at g.machines who m at) ∙ named ∙ ap Replica e)))) (keeps.cells who m at)
  ];
  places = keeps.places;
  down = keeps.down;
}

pub loses_keeps : (g : Cluster) (x : Disks) (past : RegisterPast) (letters : List Letter) → Keeps g x past → AreAmong IsRegisters letters past.letters → Keeps g x (record past { letters = letters })
loses_keeps g x past letters keeps among = record { is = keeps.is; fits = loses (voters_of g) x past letters keeps.fits among; cells = keeps.cells; places = keeps.places; down = keeps.down }
