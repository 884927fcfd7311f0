-- Whose the writes are that are out, and that what is settled stays so while members take these.
use Rattle.std.proofs.Common.{◌≡◌, ℕ, zero, suc, ◌<◌, List, [], ◌∷◌, Contains, Option, Some, None, length, ap, arith}
use Rattle.bx_disk.specs.Disks.{Disks}
use Rattle.bx_facts.specs.Writes.{IsOnly, IsSettled, Sent}
use Rattle.bx_global.specs.declared.state.GlobalState.{GlobalState}
use Rattle.bx_members.specs.Members.{KeepsMembers}
use Rattle.bx_plain_store.specs.Out.{at, out_at, outs}
use Rattle.bx_plain_store.specs.declared.writes.Write.{Write}

-- each write that is out is some node's
pub in_outs : (slots : List (Option Write)) (write : Sent) → Contains (outs slots) write → (node : ℕ) × (out_at slots node ≡ Some write)
in_outs [] write (k, less, is) = absurd (omega (arith, less))
in_outs (None ∷ slots) write there = let rest = in_outs slots write there in (suc rest.0, rest.1)
in_outs (Some w ∷ slots) write (zero, less, is) = (0, ap Some is)
in_outs (Some w ∷ slots) write (suc k, less, is) = let rest = in_outs slots write (k, omega (arith, less), is) in (suc rest.0, rest.1)

-- a place that has something lies within the list
pub at_within : {X : Type 0} → (xs : List (Option X)) (node : ℕ) (x : X) → at xs node ≡ Some x → node < length xs
at_within [] node x is = absurd cc
at_within (y ∷ xs) zero x is = omega arith
at_within (y ∷ xs) (suc node) x is = let less = at_within xs node x is in omega (arith, less)

-- what is settled stays so, where nothing else is brought there
pub members_settled : (writes : List Sent) (greatest : ℕ) (s : GlobalState) (old new : Disks) (device sector : ℕ) (content : List ℕ) → KeepsMembers writes greatest old new → IsOnly writes greatest device sector content
    → IsSettled old s device sector content → IsSettled new s device sector content
members_settled writes greatest s old new device sector content keeps only is = record {
  there = is.there;
  reads = λ second source. keeps.reads device sector second content only (is.reads second source);
  sure = λ second source. keeps.sure device sector second content only (is.reads second source) (is.sure second source);
}
