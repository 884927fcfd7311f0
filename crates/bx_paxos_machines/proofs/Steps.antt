-- A step of one machine of a cluster, which stands at a place of the list.
use Rattle.std.proofs.lemmas.Bool.{cases_lt, false≢true}
use Rattle.std.proofs.Common.{◌≡◌, ◌≢◌, ℕ, ◌<◌, ◌≤◌, true, false, List, length, Option, Some, None, IfSome, refl, sym, ap, subst, ◌∙◌, arith, inl, inr}
use Rattle.std.specs.Prelude.{IsSome, IsSomeAnd, slice_index_or, slice_set}
use Rattle.bx_acceptor.specs.Standing.{HasCell, AcceptorView as Acceptor}
use Rattle.bx_base.specs.declared.names.Actor.{Actor}
use Rattle.bx_base.specs.declared.names.Actor.TheVariants.{Replica}
use Rattle.bx_cell.specs.Images.{EachSure}
use Rattle.bx_disk.specs.Disks.{Disks}
use Rattle.bx_facts.proofs.Machines.{elsewhere, here as put_at_here}
use Rattle.bx_facts.specs.Chains.{Chain, IsPlace}
use Rattle.bx_facts.specs.Disks.{OnlyDiskOf}
use Rattle.bx_facts.specs.Machines.{IsMachine, OnlyAt, OnlyFactsAt}
use Rattle.bx_facts.specs.Pasts.{Decides, RegisterPast, proposing, register_crashed, register_failed, register_restarted, register_with}
use Rattle.bx_global.specs.declared.change.Change.{Change}
use Rattle.bx_global.specs.declared.state.GlobalState.{GlobalState}
use Rattle.bx_paxos.proofs.Letters.{places_on}
use Rattle.bx_paxos.proofs.Starts.{crashed}
use Rattle.bx_paxos.specs.Fits.{Fits, Turned, going}
use Rattle.bx_post.specs.declared.packets.Letter.{Letter}
use Rattle.bx_proposer.specs.Names.{number_of}
use Rattle.bx_rounds.specs.Agreement.{IsProposing}
use Rattle.bx_rounds.specs.Courses.{IsCourse, stopped}
use Rattle.bx_rounds.specs.declared.course.Course.{Course}
use Rattle.bx_paxos_found.specs.declared.origins.Origins.{Origins}
use Rattle.bx_paxos_machines.specs.declared.machine.Machine.{Machine}
use Rattle.bx_paxos_machines.specs.Cluster.{Cluster, IsCluster, Moves, OnlyMachine, course_at, is_busy, knows, named, needs, voters_of}
use Rattle.bx_paxos_machines.specs.Keeps.{Keeps}
use Rattle.bx_paxos_machines.specs.Parts.{HasCells, IsOut, IsPart, KnowsPlace, acceptor_of, cell_held, cell_of, course_in, course_of, machine_at, name_of, place_in}
use Rattle.bx_paxos_machines.proofs.Keeping.{busy_at, each_machine, keeps_put, known_at, none_has, place_on}
use Rattle.bx_paxos_machines.proofs.Needs.{needs_far}
use Rattle.bx_paxos_machines.proofs.Places.{found, got, name_at, part_at, parts_put, put_beside, put_here}
use Rattle.bx_paxos_machines.proofs.Voting.{named_number, proposer_is, turned_at}

-- the cluster with these machines
abbrev pub with_machines : Cluster → List Machine → Cluster
with_machines g ms = record g { machines = ms }

-- The machine with this name was m, and is v now; the others are as they were.
pub record IsStep (g : Cluster) (who : Actor) (m v : Machine) (ms : List Machine) : Type 0 where
  pub is : IsCluster g
  pub there : IsMachine g.nodes who
  pub at : machine_at g.machines who ≡ Some m
  pub here : machine_at ms who ≡ Some v
  pub beside : (other : Actor) → other ≢ who → machine_at ms other ≡ machine_at g.machines other
  pub cluster : IsCluster (with_machines g ms)

-- it stands within the list, and is a part
pub within : (g : Cluster) (who : Actor) (place : ℕ) → IsCluster g → IsMachine g.nodes who → place ≡ place_in g.machines who → place < length g.machines
within g who place is there same = subst (λ (n : ℕ). n < length g.machines) (sym same) (found g.machines who (is.all who there))

pub stands_at : (g : Cluster) (who : Actor) (place : ℕ) (m : Machine) → IsCluster g → IsMachine g.nodes who → place ≡ place_in g.machines who → m ≡ slice_index_or g.machines place m → machine_at g.machines who ≡ Some m
stands_at g who place m is there same value = got g.machines who m (found g.machines who (is.all who there)) (subst (λ (n : ℕ). m ≡ slice_index_or g.machines n m) same value)

pub is_part : (g : Cluster) (who : Actor) (place : ℕ) (m : Machine) → IsCluster g → IsMachine g.nodes who → place ≡ place_in g.machines who → m ≡ slice_index_or g.machines place m → IsPart g.nodes g.first g.origins m
is_part g who place m is there same value = part_at g.nodes g.first g.origins g.machines who m is.parts (stands_at g who place m is there same value)

pub steps : (g : Cluster) (who : Actor) (place : ℕ) (m v : Machine) → IsCluster g → IsMachine g.nodes who → place ≡ place_in g.machines who → m ≡ slice_index_or g.machines place m → name_of v ≡ name_of m
    → ((nodes : ℕ) (made : GlobalState) (origins : Origins) → IsPart nodes made origins m → IsPart nodes made origins v) → IsStep g who m v (slice_set g.machines place v)
steps g who place m v is there same value name part = subst (λ (n : ℕ). IsStep g who m v (slice_set g.machines n v)) (sym same) (record {
  is = is;
  there = there;
  at = at;
  here = here;
  beside = beside;
  cluster = record {
    few = is.few;
    allowed = is.allowed;
    index = is.index;
    first_allowed = is.first_allowed;
    first_index = is.first_index;
    devices = is.devices;
    parts = parts_put g.nodes g.first g.origins g.machines (place_in g.machines who) v is.parts (part g.nodes g.first g.origins (part_at g.nodes g.first g.origins g.machines who m is.parts at));
    all = λ other machine. each_machine g.machines (slice_set g.machines (place_in g.machines who) v) who m v at here beside (λ o n. IsSome o → IsSome n) (λ some. refl) (λ o some. some) other (is.all other machine);
  };
})
  where
    at : machine_at g.machines who ≡ Some m
    at = stands_at g who place m is there same value

    named : name_of v ≡ who
    named = name ∙ name_at g.machines who m at

    here : machine_at (slice_set g.machines (place_in g.machines who) v) who ≡ Some v
    here = put_here g.machines who v (is.all who there) named

    beside : (other : Actor) → other ≢ who → machine_at (slice_set g.machines (place_in g.machines who) v) other ≡ machine_at g.machines other
    beside other apart = put_beside g.machines who other v named apart

pub moves : (g : Cluster) (who : Actor) (m v : Machine) (ms : List Machine) (Goes : Machine → Machine → Type 0) → IsStep g who m v ms → Goes m v → Moves who Goes g (with_machines g ms)
moves g who m v ms Goes step goes = record { was = m; is = v; there = step.at; here = step.here; goes = goes }

pub only_one : (g : Cluster) (who : Actor) (m v : Machine) (ms : List Machine) → IsStep g who m v ms → OnlyMachine who g (with_machines g ms)
only_one g who m v ms step = record { others = step.beside }

-- ---- what is known and out

pub knows_it : (g : Cluster) (who : Actor) (m : Machine) → machine_at g.machines who ≡ Some m → (course_of m).known ≡ knows g who
knows_it g who m at = ap (λ (o : Option Machine). (course_in g.first o).known) (sym at)

pub busy_is : (g : Cluster) (who : Actor) (m : Machine) → machine_at g.machines who ≡ Some m → IsOut m → is_busy g who
busy_is g who m at out = subst (λ (o : Option Machine). IsSomeAnd o IsOut) (sym at) out

pub is_out : (g : Cluster) (who : Actor) (m : Machine) → machine_at g.machines who ≡ Some m → is_busy g who → IsOut m
is_out g who m at busy = subst (λ (o : Option Machine). IsSomeAnd o IsOut) at busy

pub not_out : {A : Type 0} (o : Option A) → o ≡ None → IsSome o → ⊥
not_out None e is = false≢true is
not_out (Some a) e is = absurd cc

pub known_stays : (g : Cluster) (who : Actor) (m v : Machine) (ms : List Machine) → IsStep g who m v ms → (course_of v).known ≡ (course_of m).known → (other : Actor) → knows (with_machines g ms) other ≡ knows g other
known_stays g who m v ms step same other =
    each_machine g.machines ms who m v step.at step.here step.beside (λ o n. (course_in g.first n).known ≡ (course_in g.first o).known) same (λ o. refl) other

pub known_rises : (g : Cluster) (who : Actor) (m v : Machine) (ms : List Machine) → IsStep g who m v ms → (course_of m).known.index ≤ (course_of v).known.index → (other : Actor) → (knows g other).index ≤ (knows (with_machines g ms) other).index
known_rises g who m v ms step up other =
    each_machine g.machines ms who m v step.at step.here step.beside (λ o n. (course_in g.first o).known.index ≤ (course_in g.first n).known.index) up (λ o. omega arith) other

pub known_only : (g : Cluster) (who : Actor) (m v : Machine) (ms : List Machine) → IsStep g who m v ms → OnlyAt who (knows g) (knows (with_machines g ms))
known_only g who m v ms step = known_at g.machines ms who m v step.at step.here step.beside g.first

pub busy_only : (g : Cluster) (who : Actor) (m v : Machine) (ms : List Machine) → IsStep g who m v ms → OnlyFactsAt who (is_busy g) (is_busy (with_machines g ms))
busy_only g who m v ms step = busy_at g.machines ms who m v step.at step.here step.beside

-- ---- what is kept

true_not : true ≡ false → ⊥
true_not e = absurd (false≢true (sym e))

-- no course changed
same_voters : (g : Cluster) (who : Actor) (m v : Machine) (ms : List Machine) (y : Disks) (past : RegisterPast) → IsStep g who m v ms → course_of v ≡ course_of m → Fits (voters_of g) y past → Fits (voters_of (with_machines g ms)) y past
same_voters g who m v ms y past step course fits = record {
  history = fits.history;
  chain = fits.chain;
  proposed = fits.proposed;
  first = fits.first;
  letters = fits.letters;
  images = fits.images;
  was = fits.was;
  begun = fits.begun;
  shown = fits.shown;
  proposing = λ me. subst (IsProposing fits.history me) (sym (same (named me))) (fits.proposing me);
  courses = λ me. subst (IsCourse (length g.first.devices)) (sym (same (named me))) (fits.courses me);
  boots = λ a there. subst (λ (c : Course). c.boot ≤ past.boots a) (sym (same (named (number_of a)))) (fits.boots a there);
  numbers = fits.numbers;
  allowed = fits.allowed;
}
  where
    same : (other : Actor) → course_at (with_machines g ms) other ≡ course_at g other
    same other = each_machine g.machines ms who m v step.at step.here step.beside (λ o n. course_in g.first n ≡ course_in g.first o) course (λ o. refl) other

same_disks : (who : Actor) (x : Disks) → OnlyDiskOf who x x
same_disks who x = record { others = λ d s apart. record { reads = refl; held = refl; unsure = refl } }

has_same : (x : Disks) (m v : Machine) → acceptor_of v ≡ acceptor_of m → HasCells m x → HasCells v x
has_same x m v same has = subst (λ (o : Option Acceptor). IfSome o (λ a. EachSure x (HasCell a))) (sym same) has

place_same : (chain : Chain) (m v : Machine) → acceptor_of v ≡ acceptor_of m → KnowsPlace chain m → KnowsPlace chain v
place_same chain m v same place = subst (λ (o : Option Acceptor). IfSome o (λ a. IsPlace chain a.held.decided)) (sym same) place

-- a change was proposed
pub proposes_keeps : (g : Cluster) (who : Actor) (m v : Machine) (ms : List Machine) (x : Disks) (past : RegisterPast) (out after : List Letter) (change : Change) → IsStep g who m v ms → acceptor_of v ≡ acceptor_of m → Keeps g x (register_with past out)
    → Fits (going (voters_of g) (voters_of (with_machines g ms)).courses) x (register_with (proposing past change) after) → Keeps (with_machines g ms) x (register_with (proposing past change) after)
proposes_keeps g who m v ms x past out after change step same keeps fits =
    keeps_put g ms who v x x (register_with past out) (register_with (proposing past change) after) step.is step.cluster step.here step.beside (same_disks who x) (λ s place. place) (λ other apart down. down) keeps
    (has_same x m v same (keeps.cells who m step.at)) (place_same past.chain m v same (keeps.places who m step.at)) (λ down. ap cell_held same ∙ keeps.down who m step.at down) fits

-- it stops
pub crash_keeps : (g : Cluster) (who : Actor) (m v : Machine) (ms : List Machine) (x : Disks) (past : RegisterPast) → IsStep g who m v ms → course_of v ≡ stopped (course_of m) → cell_of v ≡ None → HasCells v x → (KnowsPlace past.chain m → KnowsPlace past.chain v)
    → Keeps g x past → Keeps (with_machines g ms) x (register_crashed past who)
crash_keeps g who m v ms x past step course none has place keeps =
    keeps_put g ms who v x x past (register_crashed past who) step.is step.cluster step.here step.beside (same_disks who x) (λ s at. at)
    (λ other apart down. sym (elsewhere who other true past.down apart) ∙ down) keeps has (place (keeps.places who m step.at)) (λ down. none)
    (crashed (voters_of g) x past who (voters_of (with_machines g ms)).courses keeps.fits turned)
  where
    was : (voters_of g).courses (number_of who) ≡ course_of m
    was = ap (λ (a : Actor). course_in g.first (machine_at g.machines a)) (named_number g.nodes who step.is.few step.there) ∙ ap (course_in g.first) step.at

    turned : Turned (number_of who) (stopped ((voters_of g).courses (number_of who))) (voters_of g).courses (voters_of (with_machines g ms)).courses
    turned = subst (λ (c : Course). Turned (number_of who) c (voters_of g).courses (voters_of (with_machines g ms)).courses) (course ∙ ap stopped (sym was))
        (turned_at g.first g.machines ms g.nodes who v step.is.few step.there step.here step.beside)

-- it took what comes
pub takes_keeps : (g : Cluster) (who : Actor) (m v : Machine) (ms : List Machine) (x y : Disks) (past : RegisterPast) (out after : List Letter) → IsStep g who m v ms → OnlyDiskOf who x y → past.down who ≡ false → Keeps g x (register_with past out)
    → HasCells v y → KnowsPlace past.chain v → Decides (Fits (going (voters_of g) (voters_of (with_machines g ms)).courses) y) (course_of v).known (register_with past after) → Decides (Keeps (with_machines g ms) y) (knows (with_machines g ms) who) (register_with past after)
takes_keeps g who m v ms x y past out after step only up keeps has place decides = record {
  chain = decides.chain;
  grows = decides.grows;
  told = elim decides.told [ inl stays ↦ inl stays | inr is ↦ inr (sym (knows_it (with_machines g ms) who v step.here) ∙ is) ];
  holds = keeps_put g ms who v x y (register_with past out) (record (register_with past after) { chain = decides.chain }) step.is step.cluster step.here step.beside only (places_on past.proposed past.chain decides.chain decides.grows) (λ other apart down. down) keeps
      has (place_on past.chain decides.chain v (places_on past.proposed past.chain decides.chain decides.grows) place) (λ down. absurd (true_not (sym down ∙ up))) decides.holds;
}

-- a fault stopped it
pub faults_keep : (g : Cluster) (who : Actor) (m v : Machine) (ms : List Machine) (x y : Disks) (past : RegisterPast) (out : List Letter) → IsStep g who m v ms → OnlyDiskOf who x y → Keeps g x (register_with past out)
    → cell_of v ≡ None → course_of v ≡ course_of m → KnowsPlace past.chain v → Fits (voters_of g) y (register_with past out) → Keeps (with_machines g ms) y (register_with past out)
faults_keep g who m v ms x y past out step only keeps none course place fits =
    keeps_put g ms who v x y (register_with past out) (register_with past out) step.is step.cluster step.here step.beside only (λ s at. at) (λ other apart down. down) keeps
    (none_has y v none) place (λ down. none) (same_voters g who m v ms y (register_with past out) step course fits)

-- it started again
pub starts_keeps : (g : Cluster) (who : Actor) (m v : Machine) (ms : List Machine) (x y : Disks) (past : RegisterPast) (boot : ℕ) (out after : List Letter) → IsStep g who m v ms → OnlyDiskOf who x y → Keeps g x (register_with past out)
    → HasCells v y → KnowsPlace past.chain v → Fits (going (voters_of g) (voters_of (with_machines g ms)).courses) y (register_with (register_restarted past who boot) after) → Keeps (with_machines g ms) y (register_with (register_restarted past who boot) after)
starts_keeps g who m v ms x y past boot out after step only keeps has place fits =
    keeps_put g ms who v x y (register_with past out) (register_with (register_restarted past who boot) after) step.is step.cluster step.here step.beside only (λ s at. at)
    (λ other apart down. sym (elsewhere who other false past.down apart) ∙ down) keeps has place (λ down. absurd (true_not (sym down ∙ put_at_here who false past.down))) fits

pub start_fails : (g : Cluster) (who : Actor) (m v : Machine) (ms : List Machine) (x y : Disks) (past : RegisterPast) (boot : ℕ) (out : List Letter) → IsStep g who m v ms → OnlyDiskOf who x y → Keeps g x (register_with past out)
    → cell_of v ≡ None → course_of v ≡ course_of m → KnowsPlace past.chain v → Fits (voters_of g) y (register_with (register_failed past who boot) out) → Keeps (with_machines g ms) y (register_with (register_failed past who boot) out)
start_fails g who m v ms x y past boot out step only keeps none course place fits =
    keeps_put g ms who v x y (register_with past out) (register_with (register_failed past who boot) out) step.is step.cluster step.here step.beside only (λ s at. at)
    (λ other apart down. sym (elsewhere who other true past.down apart) ∙ down) keeps (none_has y v none) place (λ down. none)
    (same_voters g who m v ms y (register_with (register_failed past who boot) out) step course fits)

-- ---- a name that no machine has

pub is_there : (g : Cluster) (who : Actor) (m : Machine) → IsCluster g → machine_at g.machines who ≡ Some m → IsMachine g.nodes who
is_there g who m is at =
    let part = part_at g.nodes g.first g.origins g.machines who m is.parts at in
    subst (IsMachine g.nodes) (name_at g.machines who m at) (subst (λ (n : ℕ). IsMachine n (name_of m)) part.nodes_are (proposer_is m part.whole).machine)

pub nobody_busy : (g : Cluster) (who : Actor) → IsCluster g → (IsMachine g.nodes who → ⊥) → is_busy g who → ⊥
nobody_busy g who is nobody busy = by (machine_at g.machines who) refl busy
  where
    by : (o : Option Machine) → machine_at g.machines who ≡ o → IsSomeAnd o IsOut → ⊥
    by None at out = absurd out
    by (Some m) at out = nobody (is_there g who m is at)

pub nobody_needs : (g : Cluster) (who : Actor) (n : ℕ) → (IsMachine g.nodes who → ⊥) → who ≡ Replica n → needs g n ≡ 0
nobody_needs g who n nobody named = elim (cases_lt n 3) [ inl low ↦ absurd (nobody (subst (IsMachine g.nodes) (sym named) low)) | inr far ↦ needs_far g n far ]

pub nobody_keeps : (g : Cluster) (who : Actor) (x : Disks) (past : RegisterPast) → IsCluster g → (IsMachine g.nodes who → ⊥) → Keeps g x past → Keeps g x (register_crashed past who)
nobody_keeps g who x past is nobody keeps = record {
  is = is;
  fits = record {
    history = keeps.fits.history;
    chain = keeps.fits.chain;
    proposed = keeps.fits.proposed;
    first = keeps.fits.first;
    letters = keeps.fits.letters;
    images = keeps.fits.images;
    was = keeps.fits.was;
    begun = keeps.fits.begun;
    shown = keeps.fits.shown;
    proposing = keeps.fits.proposing;
    courses = keeps.fits.courses;
    boots = keeps.fits.boots;
    numbers = keeps.fits.numbers;
    allowed = keeps.fits.allowed;
  };
  cells = keeps.cells;
  places = keeps.places;
  down = λ other m at down. keeps.down other m at (sym (elsewhere who other true past.down (λ same. nobody (subst (IsMachine g.nodes) same (is_there g other m is at)))) ∙ down);
}
