-- Disks of replicas are kept, whatever is written on members.
use Rattle.std.proofs.Common.{◌≡◌, ◌≢◌, ℕ, ◌≤◌, [], ◌∷◌, refl, sym, ◌∙◌, subst, arith}
use Rattle.bx_disk.specs.Disks.{Disks}
use Rattle.bx_calls.specs.Calls.{KeepsSure}
use Rattle.bx_facts.proofs.Lists.{front}
use Rattle.bx_facts.specs.Disks.{SameDisks}
use Rattle.bx_facts.specs.Writes.{Sent}
use Rattle.bx_members.specs.Members.{IsTaken, KeepsMembers}
use Rattle.bx_records.specs.declared.runs.Run.{Run}
use Rattle.bx_plain_store.specs.Out.{KeepsReplicas}

pub replicas_same : (old new : Disks) → SameDisks old new → KeepsReplicas old new
replicas_same old new same = record { each = λ d sector less. same.each d sector }

pub replicas_state : (old new : Disks) → new ≡ old → KeepsReplicas old new
replicas_state old new same = subst (KeepsReplicas old) (sym same) (record { each = λ d sector less. record { reads = refl; sure = λ was. was } })

pub replicas_then : (old mid new : Disks) → KeepsReplicas old mid → KeepsReplicas mid new → KeepsReplicas old new
replicas_then old mid new first next = record {
  each = λ d sector less.
      let a = first.each d sector less in
      let b = next.each d sector less in
      record { reads = b.reads ∙ a.reads; sure = λ was. b.sure (a.sure was) };
}

-- a write on a member's disk
pub replicas_sure : (old new : Disks) (disk sector count : ℕ) → 3 ≤ disk → KeepsSure old new disk sector count → KeepsReplicas old new
replicas_sure old new disk sector count member keeps = record {
  each = λ d s less.
      let apart : d ≢ disk = λ same. omega (arith, less, member, same) in
      record { reads = keeps.reads.elsewhere d s apart; sure = keeps.sure.elsewhere d s apart };
}

-- a write of one run, which isn't over
abbrev pub lone : Run → Sent
lone run = record { session = 0; until = 0; runs = run ∷ [] }

pub lone_taken : (run : Run) → IsTaken (lone run ∷ []) 0 run
lone_taken run = record { write = lone run; there = front (lone run) []; has = front run []; not_over = λ over. omega (arith, over) }

pub replicas_put : (old new : Disks) (run : Run) → (IsTaken (lone run ∷ []) 0 run → KeepsMembers (lone run ∷ []) 0 old new) → KeepsReplicas old new
replicas_put old new run keeps = let members = keeps (lone_taken run) in record { each = λ d sector less. members.replicas d sector less }
