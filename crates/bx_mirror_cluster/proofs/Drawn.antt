-- Numbers that were drawn stay so.
use Rattle.std.proofs.Common.{◌≡◌, inl, inr, ℕ, ◌<◌, ◌≤◌, Some, sym, ◌∙◌, arith}
use Rattle.bx_base.specs.declared.names.Actor.TheVariants.{Node}
use Rattle.bx_disk.specs.Disks.{Disks}
use Rattle.bx_facts.specs.Chains.{last}
use Rattle.bx_facts.specs.Writes.{StorePast}
use Rattle.bx_mirror_packets.specs.declared.message.ReadBody.{ReadBody}
use Rattle.bx_mirror_client.specs.declared.asking.Asking.{Asking}
use Rattle.bx_base.specs.declared.names.Actor.{Actor}
use Rattle.bx_mirror_packets.specs.DeviceMessages.{kind_of}
use Rattle.bx_mirror_packets.specs.declared.message.DeviceMessage.{DeviceMessage}
use Rattle.bx_mirror_packets.specs.declared.message.DeviceMessage.TheVariants.{Write, Wrote as WroteOf, Read, Data, Copy, Copied as CopiedOf, Alive}
use Rattle.bx_mirror_cluster.specs.Fitting.{IsDrawn, IsFromMember, Keeps, Parts}
use Rattle.bx_mirror_cluster.specs.GoingOn.{IsSameRead}
use Rattle.bx_mirror_cluster.specs.Speaking.{IsOfRead}

-- more were drawn since
pub drawn_more : (next boot most session number drawn more : ℕ) → drawn ≤ more → IsDrawn next boot most session number drawn → IsDrawn next boot most session number more
drawn_more next boot most session number drawn more rises is = record {
  given = is.given;
  some = is.some;
  boot_most = is.boot_most;
  case = elim is.case [
    | inl old ↦ inl old
    | inr le ↦ inr (omega (arith, le, rises))
  ];
}

pub drawn_same : (next boot most session number drawn same : ℕ) → same ≡ drawn → IsDrawn next boot most session number drawn → IsDrawn next boot most session number same
drawn_same next boot most session number drawn same e is = drawn_more next boot most session number drawn same (omega (arith, e)) is

-- the node has a later boot, in which none was drawn
pub drawn_later : (next boot most later session number drawn : ℕ) → most < later → IsDrawn next boot most session number drawn → IsDrawn next boot later session number 0
drawn_later next boot most later session number drawn newer is = let old = is.boot_most in record {
  given = is.given;
  some = is.some;
  boot_most = omega (arith, old, newer);
  case = inl (omega (arith, old, newer));
}

-- more sessions were given out
pub drawn_given : (next more boot same most session number drawn : ℕ) → next ≤ more → same ≡ boot → IsDrawn next boot most session number drawn → IsDrawn more same most session number drawn
drawn_given next more boot same most session number drawn rises e is = let given = is.given in let old = is.boot_most in record {
  given = omega (arith, given, rises);
  some = is.some;
  boot_most = omega (arith, old, e);
  case = elim is.case [
    | inl less ↦ inl (omega (arith, less, e))
    | inr le ↦ inr le
  ];
}

-- A node draws for its own session.
pub drawn_own : (parts : Parts) (x : Disks) (past : StorePast) (keeps : Keeps parts x past) (n session number drawn : ℕ) → (parts.nodes n).session ≡ Some session → 1 ≤ number → number ≤ drawn
    → IsDrawn (last past.told.chain).next_session (keeps.boot_of session) (past.told.boots (Node n)) session number drawn
drawn_own parts x past keeps n session number drawn own some le = let of = keeps.owned n session own in let boot = of.1 in record {
  given = of.2;
  some = some;
  boot_most = omega (arith, boot);
  case = inr le;
}

-- What says a read says the same one once its answer came or doesn't count.
pub same_read : (was a : Asking) (r : ReadBody) → IsSameRead was a → IsOfRead was r → IsOfRead a r
same_read was a r same is = record {
  session = is.session ∙ sym same.session;
  tag = is.tag ∙ sym same.tag;
  device = is.device ∙ sym same.device;
  place = is.place ∙ sym same.place;
  sectors = is.sectors ∙ sym same.sectors;
}

-- what is no piece of a copy, nor an answer to one, comes from whom it comes
pub not_member : (message : DeviceMessage) (from : Actor) → kind_of message < 22 → IsFromMember message from
not_member (Copy c) from low = absurd (omega (arith, low))
not_member (CopiedOf c) from low = absurd (omega (arith, low))
not_member (Write w) from low = tt
not_member (WroteOf w) from low = tt
not_member (Read r) from low = tt
not_member (Data d) from low = tt
not_member Alive from low = tt
