-- What members and streams are once one machine changed.
use Rattle.std.proofs.Common.{◌≡◌, ◌≢◌, inl, inr, ℕ, ◌*◌, ◌≤◌, Bool, true, false, Option, None, refl, sym, ◌∙◌, ap, arith}
use Rattle.std.specs.Prelude.{◌==◌, if◌then◌else◌}
use Rattle.std.proofs.lemmas.Bool.{cases_lt}
use Rattle.std.proofs.lemmas.Bool.Decides.{nat_tests}
use Rattle.bx_base.specs.declared.names.Actor.{Actor}
use Rattle.bx_base.specs.declared.names.Actor.TheVariants.{Node, Replica, Server, Member}
use Rattle.bx_facts.specs.Writes.{Made}
use Rattle.bx_mirror_member.specs.Standing.{MemberView}
use Rattle.bx_mirror_cluster.specs.Beside.{IsBeside, SameServing}
use Rattle.bx_mirror_cluster.specs.MemberSteps.{with_member, with_serving}
use Rattle.bx_mirror_cluster.specs.Writing.{with_node, with_stream}
use Rattle.bx_devices.specs.Needs.{beyond}
use Rattle.bx_devices.specs.Fitting.{parts_of}
use Rattle.bx_devices.specs.Machines.{DeviceMachines, IsShape, OnlyMachine, member_of, or_new, slot_of, stream_of}

-- a slot that stays has the same member
pub same_member : (o new : DeviceMachines) (k : ℕ) → new.made ≡ o.made → slot_of new k ≡ slot_of o k → member_of new k ≡ member_of o k
same_member o new k made same = ap (λ (m : Made). or_new m k (slot_of new k)) made ∙ ap (λ (slot : Option MemberView). or_new o.made k slot) same

pub other_number : (k n : ℕ) → k ≢ n → Member n ≢ Member k
other_number k n apart same = let e : n ≡ k = cc in apart (sym e)

pub parts_served : (o new : DeviceMachines) (n : ℕ) → OnlyMachine (Member n) o new → parts_of new ≡ with_serving (parts_of o) n (member_of new n)
parts_served o new n only = λ i. record { made = only.made i; members = λ k. each k (k == n) refl i; nodes = λ k. only.streams k (λ same. absurd cc) i }
  where
    each : (k : ℕ) (b : Bool) → (k == n) ≡ b → member_of new k ≡ with_member (member_of o) n (member_of new n) k
    each k true e =
        let same : k ≡ n = grind (arith, nat_tests, e) in
        ap (λ (j : ℕ). member_of new j) same ∙ sym (ap (λ (b : Bool). if b then member_of new n else member_of o k) e)
    each k false e =
        let apart : k ≢ n = grind (arith, nat_tests, e) in
        same_member o new k only.made (only.members k (other_number k n apart)) ∙ sym (ap (λ (b : Bool). if b then member_of new n else member_of o k) e)

pub parts_streamed : (o new : DeviceMachines) (n : ℕ) → OnlyMachine (Node n) o new → parts_of new ≡ with_stream (parts_of o) n (stream_of new n)
parts_streamed o new n only = λ i. record { made = only.made i; members = λ k. same_member o new k only.made (only.members k (λ same. absurd cc)) i; nodes = λ k. each k (k == n) refl i }
  where
    each : (k : ℕ) (b : Bool) → (k == n) ≡ b → stream_of new k ≡ with_node (stream_of o) n (stream_of new n) k
    each k true e =
        let same : k ≡ n = grind (arith, nat_tests, e) in
        ap (λ (j : ℕ). stream_of new j) same ∙ sym (ap (λ (b : Bool). if b then stream_of new n else stream_of o k) e)
    each k false e =
        let apart : k ≢ n = grind (arith, nat_tests, e) in
        only.streams k (λ same. apart (let e : n ≡ k = cc in sym e)) ∙ sym (ap (λ (b : Bool). if b then stream_of new n else stream_of o k) e)

-- a machine that is no node and no member of the volume changes nothing
pub parts_same : (who : Actor) (o new : DeviceMachines) → IsBeside o.made who → IsShape o → IsShape new → OnlyMachine who o new → parts_of new ≡ parts_of o
parts_same who o new beside was shape only = λ i. record { made = only.made i; members = λ k. each k i; nodes = λ k. only.streams k (λ same. beside.no_node k (sym same)) i }
  where
    each : (k : ℕ) → member_of new k ≡ member_of o k
    each k = elim (cases_lt k (2 * o.made.devices)) [
      | inl less ↦ same_member o new k only.made (only.members k (λ same. beside.no_member k less (sym same)))
      | inr far ↦ same_member o new k only.made
          (beyond new.members k None (let long = shape.members in let e = ap (λ (m : Made). 2 * m.devices) only.made in omega (arith, far, long, e)) ∙ sym (beyond o.members k None (let long = was.members in omega (arith, far, long))))
    ]

pub same_serving : (o : DeviceMachines) → IsShape o → SameServing (parts_of o) (member_of o)
same_serving o shape = record {
  same = λ n less. refl;
  owed = λ n far. ap (λ (m : MemberView). m.owed) (none n far);
  lasts = λ n far. ap (λ (m : MemberView). m.lasts) (none n far);
}
  where
    none : (n : ℕ) → 2 * o.made.devices ≤ n → member_of o n ≡ or_new o.made n None
    none n far = ap (λ (slot : Option MemberView). or_new o.made n slot) (beyond o.members n None (let long = shape.members in omega (arith, far, long)))

-- such machines
pub replica_beside : (made : Made) (n : ℕ) → IsBeside made (Replica n)
replica_beside made n = record { no_node = λ k e. absurd cc; no_member = λ k less e. absurd cc }

pub server_beside : (made : Made) (n : ℕ) → IsBeside made (Server n)
server_beside made n = record { no_node = λ k e. absurd cc; no_member = λ k less e. absurd cc }

pub member_beside : (made : Made) (n : ℕ) → 2 * made.devices ≤ n → IsBeside made (Member n)
member_beside made n far = record { no_node = λ k e. absurd cc; no_member = λ k less e. let same : k ≡ n = cc in absurd (omega (arith, far, less, same)) }
