-- A machine stops, and starts again: all go on fitting.
use Rattle.std.proofs.Common.{◌≡◌, ◌≢◌, inl, inr, ℕ, ◌*◌, ◌<◌, true, false, List, Option, Some, None, sym, ◌∙◌, ap, subst}
use Rattle.std.specs.Prelude.{IsSome}
use Rattle.std.proofs.lemmas.Bool.{cases_eq}
use Rattle.bx_base.specs.declared.names.Actor.{Actor}
use Rattle.bx_base.specs.declared.names.Actor.TheVariants.{Node, Replica, Server, Member}
use Rattle.bx_disk.specs.Disks.{Disks}
use Rattle.bx_facts.proofs.Machines.{elsewhere, here as put_here}
use Rattle.bx_facts.specs.Machines.{put_at}
use Rattle.bx_facts.specs.Writes.{Made, StorePast, store_crashed}
use Rattle.bx_mirror_client.specs.Streams.{Streaming, stopped}
use Rattle.bx_mirror_client.specs.declared.asking.Asking.{Asking}
use Rattle.bx_mirror_member.specs.Standing.{MemberView}
use Rattle.bx_mirror_cluster.proofs.Beside as besides
use Rattle.bx_mirror_cluster.proofs.Beside.{one_down}
use Rattle.bx_mirror_cluster.proofs.MemberStops as member_laws
use Rattle.bx_mirror_cluster.proofs.NodeStops as node_laws
use Rattle.bx_mirror_cluster.specs.Beside.{IsBeside, SaysSame}
use Rattle.bx_mirror_cluster.specs.Fitting.{IsSettledOn, Keeps, Parts, StandsOn, WillReadOn, will_read_by}
use Rattle.bx_mirror_cluster.specs.Stopping.{Stops}
use Rattle.bx_mirror_cluster.specs.Writing.{with_stream}
use Rattle.bx_devices.proofs.Going.{beside}
use Rattle.bx_devices.proofs.Parts.{parts_same, parts_streamed, replica_beside, same_member, same_serving, server_beside}
use Rattle.bx_devices.specs.Events.{StopsAt}
use Rattle.bx_devices.specs.Fitting.{IsFitting, Settled, Stands, WillRead, parts_of}
use Rattle.bx_devices.specs.Machines.{DeviceMachines, IsShape, OnlyMachine, member_of, or_new, slot_of, stream_of}

other_number : (k n : ℕ) → k ≢ n → Member n ≢ Member k
other_number k n apart same = let e : n ≡ k = cc in apart (sym e)

-- ---- a machine stops

-- what a crash leaves of all, whatever members write
pub record Crashed (o new : DeviceMachines) (x : Disks) (past : StorePast) (who : Actor) : Type 0 where
  pub fits : IsFitting new x (store_crashed past who)
  pub settled : (d sector : ℕ) (content : List ℕ) → Settled o x past d sector content → Settled new x (store_crashed past who) d sector content
  pub stands : (d sector : ℕ) (content : List ℕ) (index : ℕ) → Stands o x past d sector content index → Stands new x (store_crashed past who) d sector content index
  pub reads : (reader sector : ℕ) (content : List ℕ) → who ≢ Node reader → WillRead o x past reader sector content → WillRead new x (store_crashed past who) reader sector content

module _ (o new : DeviceMachines) (x : Disks) (past : StorePast) (fitting : IsFitting o x past) (shape : IsShape new) where
  -- which members are there
  crash_not : (who : Actor) (n : ℕ) → put_at who true past.told.down (Member n) ≡ false → who ≢ Member n
  crash_not who n up e = let down : put_at who true past.told.down who ≡ true = put_here who true past.told.down in
      let no : true ≡ false = sym down ∙ ap (λ (a : Actor). put_at who true past.told.down a) e ∙ up in cc

  crash_fits : (who : Actor) → OnlyMachine who o new → ((n : ℕ) → (stream_of new n).node ≡ n) → Keeps (parts_of new) x (store_crashed past who) → IsFitting new x (store_crashed past who)
  crash_fits who only itself keeps = record {
    fits = keeps;
    shape = shape;
    there = λ n less up. subst (λ (slot : Option MemberView). IsSome slot) (sym (only.members n (crash_not who n up)))
        (fitting.there n (subst (λ (m : Made). n < 2 * m.devices) only.made less) (sym (elsewhere who (Member n) true past.told.down (λ e. crash_not who n up (sym e))) ∙ up));
    itself = itself;
  }

  node_crashed : (n : ℕ) → OnlyMachine (Node n) o new → stream_of new n ≡ stopped (stream_of o n) → Crashed o new x past (Node n)
  node_crashed n only stops = record {
    fits = crash_fits (Node n) only number (into (λ p. Keeps p x then_) (node_laws.node_stops (parts_of o) x past fitting.fits n));
    settled = λ d sector content is. into (λ p. IsSettledOn p x then_ d sector content) (node_laws.settles_stopped (parts_of o) x past fitting.fits n d sector content is);
    stands = λ d sector content index is. into (λ p. StandsOn p x then_ d sector content index) (node_laws.stands_stopped (parts_of o) x past fitting.fits n d sector content index is);
    reads = λ reader sector content apart will. subst (λ (a : Option Asking). will_read_by a (parts_of new) x then_ reader sector content) (sym (ap (λ (k : Streaming). k.asks) (only.streams reader apart)))
        (by reader sector content apart (stream_of o reader).asks will);
  }
    where
      then_ : StorePast
      then_ = store_crashed past (Node n)

      parts_are : parts_of new ≡ with_stream (parts_of o) n (stopped (stream_of o n))
      parts_are = parts_streamed o new n only ∙ ap (λ (k : Streaming). with_stream (parts_of o) n k) stops

      into : (P : Parts → Type 0) → P (with_stream (parts_of o) n (stopped (stream_of o n))) → P (parts_of new)
      into P is = subst P (sym parts_are) is

      number : (k : ℕ) → (stream_of new k).node ≡ k
      number k = elim (cases_eq k n) [
        | inl e ↦ subst (λ (j : ℕ). (stream_of new j).node ≡ j) (sym e) (ap (λ (c : Streaming). c.node) stops ∙ fitting.itself n)
        | inr apart ↦ ap (λ (c : Streaming). c.node) (only.streams k (λ same. apart (let e : n ≡ k = cc in sym e))) ∙ fitting.itself k
      ]

      by : (reader sector : ℕ) (content : List ℕ) → Node n ≢ Node reader → (a : Option Asking) → will_read_by a (parts_of o) x past reader sector content → will_read_by a (parts_of new) x then_ reader sector content
      by reader sector content apart None will = tt
      by reader sector content apart (Some read) will = into (λ p. WillReadOn p x then_ reader read sector content) (node_laws.reads_stopped (parts_of o) x past fitting.fits n reader read sector content (λ e. apart (ap (λ (k : ℕ). Node k) (sym e))) will)

  member_crashed : (n : ℕ) → OnlyMachine (Member n) o new → slot_of new n ≡ None → Crashed o new x past (Member n)
  member_crashed n only stops = record {
    fits = crash_fits (Member n) only (λ k. ap (λ (c : Streaming). c.node) (only.streams k (λ same. absurd cc)) ∙ fitting.itself k) (into (λ p. Keeps p x then_) (member_laws.member_stops (parts_of o) x past n members stops_it fitting.fits));
    settled = λ d sector content is. into (λ p. IsSettledOn p x then_ d sector content) (member_laws.settles_stopped (parts_of o) x past n members stops_it d sector content fitting.fits is);
    stands = λ d sector content index is. into (λ p. StandsOn p x then_ d sector content index) (member_laws.stands_stopped (parts_of o) x past n members stops_it d sector content index fitting.fits is);
    reads = λ reader sector content apart will. subst (λ (a : Option Asking). will_read_by a (parts_of new) x then_ reader sector content) (sym (ap (λ (k : Streaming). k.asks) (only.streams reader (λ same. absurd cc))))
        (by reader sector content (stream_of o reader).asks will);
  }
    where
      then_ : StorePast
      then_ = store_crashed past (Member n)

      members : ℕ → MemberView
      members = member_of new

      gone : member_of new n ≡ or_new new.made n None
      gone = ap (λ (slot : Option MemberView). or_new new.made n slot) stops

      stops_it : Stops (parts_of o) members n
      stops_it = record {
        row = ap (λ (m : MemberView). m.row) gone;
        owed = ap (λ (m : MemberView). m.owed) gone;
        lasts = ap (λ (m : MemberView). m.lasts) gone;
        others = λ k apart. same_member o new k only.made (only.members k (other_number k n apart));
      }

      parts_are : parts_of new ≡ record (parts_of o) { members = members }
      parts_are = λ i. record { made = only.made i; members = members; nodes = λ k. only.streams k (λ same. absurd cc) i }

      into : (P : Parts → Type 0) → P (record (parts_of o) { members = members }) → P (parts_of new)
      into P is = subst P (sym parts_are) is

      by : (reader sector : ℕ) (content : List ℕ) (a : Option Asking) → will_read_by a (parts_of o) x past reader sector content → will_read_by a (parts_of new) x then_ reader sector content
      by reader sector content None will = tt
      by reader sector content (Some read) will = into (λ p. WillReadOn p x then_ reader read sector content) (member_laws.reads_stopped (parts_of o) x past n members stops_it reader read sector content fitting.fits will)

  -- a machine that has nothing to do with devices
  other_crashed : (who : Actor) → IsBeside o.made who → OnlyMachine who o new → Crashed o new x past who
  other_crashed who aside only =
      let goes = beside o x past past.told.knew past.told.boots (put_at who true past.told.down) (one_down o.made past.told who true aside) (same_serving o fitting.shape) fitting.fits in
      record {
        fits = crash_fits who only (λ k. ap (λ (c : Streaming). c.node) (only.streams k (λ e. aside.no_node k (sym e))) ∙ fitting.itself k) (into (λ p. Keeps p x (store_crashed past who)) goes.keeps);
        settled = λ d sector content is. into (λ p. IsSettledOn p x (store_crashed past who) d sector content) (beside_settled_any d sector content is);
        stands = λ d sector content index is. into (λ p. StandsOn p x (store_crashed past who) d sector content index) (beside_standing_any d sector content index is);
        reads = λ reader sector content apart will. subst (λ (a : Option Asking). will_read_by a (parts_of new) x (store_crashed past who) reader sector content) (sym (ap (λ (k : Streaming). k.asks) (only.streams reader (λ e. aside.no_node reader (sym e)))))
            (by reader sector content (stream_of o reader).asks will);
      }
    where
      into : (P : Parts → Type 0) → P (parts_of o) → P (parts_of new)
      into P is = subst P (sym (parts_same who o new aside fitting.shape shape only)) is

      says : SaysSame o.made past.told past.told.knew past.told.boots (put_at who true past.told.down)
      says = one_down o.made past.told who true aside

      beside_settled_any : (d sector : ℕ) (content : List ℕ) → Settled o x past d sector content → Settled o x (store_crashed past who) d sector content
      beside_settled_any d sector content is = besides.beside_settled (parts_of o) x past (member_of o) past.told.knew past.told.boots (put_at who true past.told.down) says (same_serving o fitting.shape) d sector content is

      beside_standing_any : (d sector : ℕ) (content : List ℕ) (index : ℕ) → Stands o x past d sector content index → Stands o x (store_crashed past who) d sector content index
      beside_standing_any d sector content index is = besides.beside_standing (parts_of o) x past (member_of o) past.told.knew past.told.boots (put_at who true past.told.down) says (same_serving o fitting.shape) d sector content index is

      by : (reader sector : ℕ) (content : List ℕ) (a : Option Asking) → will_read_by a (parts_of o) x past reader sector content → will_read_by a (parts_of new) x (store_crashed past who) reader sector content
      by reader sector content None will = tt
      by reader sector content (Some read) will = into (λ p. WillReadOn p x (store_crashed past who) reader read sector content)
          (besides.beside_reads (parts_of o) x past (member_of o) past.told.knew past.told.boots (put_at who true past.told.down) says (same_serving o fitting.shape) reader read sector content will)

  pub crashed : (who : Actor) → StopsAt who o new → OnlyMachine who o new → Crashed o new x past who
  crashed (Node n) stops only = node_crashed n only stops
  crashed (Member n) stops only = member_crashed n only stops
  crashed (Replica n) stops only = other_crashed (Replica n) (replica_beside o.made n) only
  crashed (Server n) stops only = other_crashed (Server n) (server_beside o.made n) only
