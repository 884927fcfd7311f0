-- A call that touches no block is answered over whatever stands.
use Rattle.std.proofs.Common.{◌≡◌, ℕ, ◌<◌, List, [], ◌∷◌, ◌++◌, inl, inr, refl, ⊎_elim, sym, ap, subst, arith}
use Rattle.std.specs.Prelude.{reverse}
use Rattle.std.proofs.lemmas.List.{reverse-append}
use Rattle.bx_disk.specs.Disks.{Disks}
use Rattle.bx_facts.specs.declared.owners.Owners as owners
use Rattle.bx_facts.specs.declared.register.Register as register
use Rattle.bx_facts.specs.declared.store.Store as store
use Rattle.bx_node_calls.specs.Turns.{Rounded}
use Rattle.bx_node_calls.specs.Waits.{AreNumbered, AreTold}
use Rattle.bx_node_machines.proofs.Showing.{answered}
use Rattle.bx_node_steps.specs.Seen.{seen}
use Rattle.bx_node_steps.specs.declared.machine.Machine.{Machine}
use Rattle.bx_node_tries.specs.Tries.{LeadsBack, LedTo}
use Rattle.bx_node_tries.specs.declared.round.Said.{Said}
use Rattle.bx_post.specs.declared.packets.Letter.{Letter}
use Rattle.bx_views.specs.Attempts.{Deed}
use Rattle.bx_views.specs.declared.engine.Engine as engine
use Rattle.bx_world_machines.specs.Standing.{IsReady, Standing, StandsBehind, StandsBy}
use Rattle.bx_world_machines.specs.declared.machines.Machines.{Machines}
use Rattle.bx_world_machines.specs.Doubts.{AreInDoubt, DoubtsGo}
use Rattle.bx_world_machines.proofs.Doubts.{in_doubt_later}
use Rattle.bx_world_standing.specs.Standing.{Course}
use Rattle.bx_facts.proofs.Lists.{behind, front_or_behind}
use Rattle.bx_world_standing.specs.bx_volume.specs.Overlay.{Logs}

-- numbers up to a later one
pub numbered_later : (latest later : ℕ) (machines : List Machine) → latest < later → AreNumbered latest machines → AreNumbered later machines
numbered_later latest later machines less was = record {
  least = was.least;
  most = λ node call waits. let m = was.most node call waits in omega (arith, m, less);
  alone = was.alone;
}

pub told_later : (latest later : ℕ) (machines : List Machine) (logs : Logs) → latest < later → AreTold latest machines logs → AreTold later machines logs
told_later latest later machines logs less was = record { came = λ slot one has. let c = was.came slot one has in omega (arith, c, less); none = was.none }

-- An answer, and then more: they lead on.
leads_behind : {T : Type 0} (Step : T → Deed → T → Type 0) (first middle : T) (one : Said) → LeadsBack Step first (one ∷ []) middle → (later : List Said) (last : T) → LeadsBack Step middle later last → LeadsBack Step first (later ++ one ∷ []) last
leads_behind Step first middle one begins [] last is = subst (λ t. LeadsBack Step first (one ∷ []) t) (sym is) begins
leads_behind Step first middle one begins (said ∷ earlier) last is = (is.0, leads_behind Step first middle one begins earlier is.0 is.1, is.2)

pub rounded_behind : {E T : Type 0} (e : engine.Ghosts E T) (engine_is : E) (Middle Stands_then : T → Type 0) (tree : T) (one : Said) (others all : List Said) → all ≡ one ∷ others
    → Rounded e engine_is Middle tree (one ∷ []) → ((next : T) → Middle next → Rounded e engine_is Stands_then next others) → Rounded e engine_is Stands_then tree all
rounded_behind e engine_is Middle Stands_then tree one others all is first goes_on =
    let behind = goes_on first.next first.stands in
    record {
      next = behind.next;
      leads = rw (is, reverse-append (one ∷ []) others) (leads_behind (e.step engine_is) tree first.next one first.leads (reverse others) behind.next behind.leads);
      stands = behind.stands;
    }

-- What stands behind others stands behind one more that is newer than all that are in doubt.
pub goes_more : (one : Said) (others all : List Said) (machines : List Machine) (c later : Course) (latest : ℕ) (old : List Machine) → all ≡ one ∷ others → latest < one.point.call → AreInDoubt latest old c → DoubtsGo others machines c later → DoubtsGo all machines c later
goes_more one others all machines c later latest old is newer was goes = rw is (record {
  doubted = λ session doubt deed open_is. ⊎_elim
      (λ before. inl (
        before.0,
        λ answered. ⊎_elim
            (λ first. let low = was.came session doubt deed before.0 in let same = ap (λ (s : Said). s.point.call) first in let n = answered.same in omega (arith, low, newer, same, n))
            (λ there. before.1 (record { one = answered.one; there = there; same = answered.same }))
            (front_or_behind one others answered.one answered.there),
      ))
      inr
      (goes.doubted session doubt deed open_is);
  logged = λ slot record_is has. ⊎_elim
      inl
      (λ told. inr (⊎_elim inl (λ answered. inr (record { one = answered.one; there = behind one others answered.one answered.there; same = answered.same })) told))
      (goes.logged slot record_is has);
})

module _ {G O S E T : Type 0} (g : register.Ghosts G) (o : owners.Ghosts O) (st : store.Ghosts S) (e : engine.Ghosts E T) (old : Machines G O S E T) (number : ℕ) (later : old.latest < number) where
  -- the machines, where a call with this number came
  pub ready_numbered : (sizes : List ℕ) → IsReady g o st e old sizes → IsReady g o st e (record old { latest = number }) sizes
  ready_numbered sizes is = record {
    are_ready = record {
      nodes = is.are_ready.nodes;
      counted = is.are_ready.counted;
      members = is.are_ready.members;
      few = is.are_ready.few;
      there = is.are_ready.there;
      quiet = is.are_ready.quiet;
      numbered = numbered_later old.latest number old.nodes.machines.items later is.are_ready.numbered;
    };
    replicas = is.replicas;
    members = is.members;
  }

  pub stands_answered : (letters : List Letter) (x : Disks) (tree : T) (said : List Said) → (standing : Standing g o st e old letters x tree)
      → LedTo (e.stands old.nodes.engine) (e.step old.nodes.engine) (e.free old.nodes.engine standing.course.truth) standing.course.truth tree said
      → Rounded e old.nodes.engine (StandsBy g o st e standing.course (record old { latest = number }) letters x) tree said
  stands_answered letters x tree said standing led = record {
    next = led.last;
    leads = led.leads;
    stands = (
      record {
        clocks = standing.clocks;
        course = standing.course;
        are_clocks = record { down = standing.are_clocks.down; boots = standing.are_clocks.boots; greatest = standing.are_clocks.greatest };
        stands = answered g o st (e.stands old.nodes.engine) (e.step old.nodes.engine) old.nodes.register old.nodes.owners old.nodes.store x letters standing.clocks (seen old.nodes.machines.items) standing.course tree led.last led.all standing.stands;
        told = told_later old.latest number old.nodes.machines.items standing.course.logs later standing.told;
        doubts = in_doubt_later old.latest number old.nodes.machines.items standing.course later standing.doubts;
        known = standing.known;
      },
      refl,
    );
  }

  -- .. by the course by which they stood
  pub answered_by : (letters : List Letter) (x : Disks) (tree : T) (said : List Said) (course : Course) → (by_it : StandsBy g o st e course old letters x tree)
      → LedTo (e.stands old.nodes.engine) (e.step old.nodes.engine) (e.free old.nodes.engine by_it.0.course.truth) by_it.0.course.truth tree said
      → Rounded e old.nodes.engine (StandsBy g o st e course (record old { latest = number }) letters x) tree said
  answered_by letters x tree said course by_it led = subst (λ (k : Course). Rounded e old.nodes.engine (StandsBy g o st e k (record old { latest = number }) letters x) tree said) by_it.1 (stands_answered letters x tree said by_it.0 led)

-- What leads on, behind one answer more that is newer than all that are in doubt.
pub rounded_more : {G O S E T : Type 0} (g : register.Ghosts G) (o : owners.Ghosts O) (st : store.Ghosts S) (e : engine.Ghosts E T) (engine_is : E) (one : Said) (others all : List Said) (c : Course) (old new : Machines G O S E T) (letters : List Letter) (x : Disks) (tree : T)
    → all ≡ one ∷ others → old.latest < one.point.call → AreInDoubt old.latest old.nodes.machines.items c → Rounded e engine_is (StandsBehind g o st e c others new letters x) tree others → Rounded e engine_is (StandsBehind g o st e c all new letters x) tree others
rounded_more g o st e engine_is one others all c old new letters x tree is newer was rounded = record {
  next = rounded.next;
  leads = rounded.leads;
  stands = record {
    stands = rounded.stands.stands;
    goes = goes_more one others all new.nodes.machines.items c rounded.stands.stands.course old.latest old.nodes.machines.items is newer was rounded.stands.goes;
  };
}
