-- The machines of a cluster as voters, by their numbers.
use Rattle.std.proofs.Common.{◌≡◌, ◌≢◌, ℕ, ◌+◌, ◌-◌, ◌<◌, ◌≤◌, Bool, true, false, List, Some, refl, sym, ap, subst, ◌∙◌, arith}
use Rattle.std.specs.Prelude.{nat_lt, if◌then◌else◌}
use Rattle.std.proofs.lemmas.Bool.Decides.{nat_tests}
use Rattle.bx_base.specs.declared.names.Actor.{Actor}
use Rattle.bx_base.specs.declared.names.Actor.TheVariants.{Node, Replica, Server, Member}
use Rattle.bx_facts.specs.Machines.{IsMachine}
use Rattle.bx_global.specs.declared.state.GlobalState.{GlobalState}
use Rattle.bx_paxos.specs.Fits.{Turned}
use Rattle.bx_proposer.specs.Names.{number_of}
use Rattle.bx_proposer.specs.Standing.{IsProposerView as IsProposer}
use Rattle.bx_paxos_machines.specs.declared.machine.Machine.{Machine}
use Rattle.bx_paxos_machines.specs.declared.machine.Machine.TheVariants.{Replica as IsReplica, Other}
use Rattle.bx_paxos_machines.specs.Cluster.{Cluster, IsCluster, course_at, named, voters_of}
use Rattle.bx_paxos_machines.specs.Parts.{IsOf, IsPart, IsWhole, course_in, course_of, machine_at, name_of, proposer_of}
use Rattle.bx_paxos_machines.proofs.Places.{name_at, part_at}

-- ---- numbers

-- the name of a number, and its number
pub number_named : (me : ℕ) → number_of (named me) ≡ me
number_named me = by (nat_lt me 16) (nat_lt me 32) (nat_lt me 48) refl refl refl
  where
    by : (a b c : Bool) → nat_lt me 16 ≡ a → nat_lt me 32 ≡ b → nat_lt me 48 ≡ c → number_of (if a then Node me else (if b then Replica (me - 16) else (if c then Server (me - 32) else Member (me - 48)))) ≡ me
    by true b c e f k = refl
    by false true c e f k = grind (arith, nat_tests, e)
    by false false true e f k = grind (arith, nat_tests, f)
    by false false false e f k = grind (arith, nat_tests, k)

lower : (n m : ℕ) → n < m → nat_lt n m ≡ true
lower n m less = grind (arith, nat_tests, less)

not_lower : (n m : ℕ) → m ≤ n → nat_lt n m ≡ false
not_lower n m least = grind (arith, nat_tests, least)

named_by : (me : ℕ) (a b c : Bool) → nat_lt me 16 ≡ a → nat_lt me 32 ≡ b → nat_lt me 48 ≡ c → named me ≡ (if a then Node me else (if b then Replica (me - 16) else (if c then Server (me - 32) else Member (me - 48))))
named_by me a b c e f k = rw (e, f, k) refl

-- a machine is named by its number
pub named_number : (nodes : ℕ) (who : Actor) → nodes ≤ 16 → IsMachine nodes who → named (number_of who) ≡ who
named_number nodes (Node n) few there = let low : n < 16 = omega (arith, few, there) in ap (λ (t : Bool). if t then Node n else (if nat_lt n 32 then Replica (n - 16) else (if nat_lt n 48 then Server (n - 32) else Member (n - 48)))) (lower n 16 low)
named_number nodes (Replica n) few there = named_by (16 + n) false true (nat_lt (16 + n) 48) (not_lower (16 + n) 16 (omega arith)) (lower (16 + n) 32 (omega (arith, there))) refl ∙ ap Replica (omega arith)
named_number nodes (Server n) few there = named_by (32 + n) false false true (not_lower (32 + n) 16 (omega arith)) (not_lower (32 + n) 32 (omega arith)) (lower (32 + n) 48 (omega (arith, there))) ∙ ap Server (omega arith)
named_number nodes (Member n) few there = named_by (48 + n) false false false (not_lower (48 + n) 16 (omega arith)) (not_lower (48 + n) 32 (omega arith)) (not_lower (48 + n) 48 (omega arith)) ∙ ap Member (omega arith)

-- ---- courses

-- one machine goes on, and the others stay
pub turned_at : (made : GlobalState) (ms new : List Machine) (nodes : ℕ) (who : Actor) (v : Machine) → nodes ≤ 16 → IsMachine nodes who → machine_at new who ≡ Some v → ((other : Actor) → other ≢ who → machine_at new other ≡ machine_at ms other)
    → Turned (number_of who) (course_of v) (λ me. course_in made (machine_at ms (named me))) (λ me. course_in made (machine_at new (named me)))
turned_at made ms new nodes who v few there here beside = record {
  at = ap (λ (a : Actor). course_in made (machine_at new a)) (named_number nodes who few there) ∙ ap (course_in made) here;
  others = λ me differ. ap (course_in made) (beside (named me) (λ same. differ (sym (number_named me) ∙ ap number_of same)));
}

-- what holds of the proposer of a part
pub proposer_is : (m : Machine) → IsWhole m → IsProposer (proposer_of m)
proposer_is (IsReplica r) whole = whole.proposer
proposer_is (Other p) whole = whole

-- a part is one of the voters
pub part_of : (g : Cluster) (who : Actor) (m : Machine) → IsCluster g → machine_at g.machines who ≡ Some m → IsOf (voters_of g) m
part_of g who m is at = by m (part_at g.nodes g.first g.origins g.machines who m is.parts at) course
  where
    part : IsPart g.nodes g.first g.origins m
    part = part_at g.nodes g.first g.origins g.machines who m is.parts at

    p : IsProposer (proposer_of m)
    p = proposer_is m part.whole

    there : IsMachine g.nodes who
    there = subst (IsMachine g.nodes) (name_at g.machines who m at) (subst (λ (n : ℕ). IsMachine n (name_of m)) part.nodes_are p.machine)

    number : (proposer_of m).actor ≡ number_of who
    number = p.actor ∙ ap number_of (name_at g.machines who m at)

    course : course_at g (named (proposer_of m).actor) ≡ course_of m
    course = ap (λ (n : ℕ). course_at g (named n)) number ∙ ap (course_at g) (named_number g.nodes who is.few there) ∙ ap (course_in g.first) at

    by : (k : Machine) → IsPart g.nodes g.first g.origins k → course_at g (named (proposer_of k).actor) ≡ course_of k → IsOf (voters_of g) k
    by (IsReplica r) this goes = record { first = sym this.first ∙ this.whole.first; origin = sym this.origin; course = goes }
    by (Other q) this goes = (sym this.first, goes)

-- a part goes on, among voters
pub turned_part : (g : Cluster) (ms : List Machine) (who : Actor) (m v : Machine) → IsCluster g → IsMachine g.nodes who → machine_at g.machines who ≡ Some m → machine_at ms who ≡ Some v → ((other : Actor) → other ≢ who → machine_at ms other ≡ machine_at g.machines other)
    → Turned (proposer_of m).actor (course_of v) (voters_of g).courses (voters_of (record g { machines = ms })).courses
turned_part g ms who m v is there at here beside =
    let p = proposer_is m (part_at g.nodes g.first g.origins g.machines who m is.parts at).whole in
    subst (λ (n : ℕ). Turned n (course_of v) (voters_of g).courses (voters_of (record g { machines = ms })).courses) (sym (p.actor ∙ ap number_of (name_at g.machines who m at)))
    (turned_at g.first g.machines ms g.nodes who v is.few there here beside)
