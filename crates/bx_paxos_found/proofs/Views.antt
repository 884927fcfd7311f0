-- An image in which two replicas are labelled is read as some state.
use Rattle.std.proofs.Common.{◌≡◌, ◌≢◌, ℕ, ◌<◌, inl, inr, ◌==◌, Bool, true, false, List, length, Option, Some, None, refl, sym, ap, subst, ◌∙◌, arith}
use Rattle.std.specs.Prelude.{nat_lt, if◌then◌else◌}
use Rattle.bx_acceptor.specs.Standing.{IsFound}
use Rattle.bx_acceptor.specs.declared.origin.Origin.{Origin}
use Rattle.bx_acceptor.specs.declared.origin.Origin.TheVariants.{Made, Found as FoundAs, Apart}
use Rattle.bx_agreement.specs.Sound.{HasTwo}
use Rattle.bx_cell.specs.Halves.{Found}
use Rattle.bx_cell.specs.Images.{HasAllSure}
use Rattle.bx_disk.specs.Disks.{Disks, Image}
use Rattle.bx_facts.specs.Labelled.{IsReplicaLabelled}
use Rattle.bx_facts.specs.Pasts.{RegisterPast}
use Rattle.bx_global.specs.declared.held.Held.{Held}
use Rattle.bx_global.specs.declared.state.GlobalState.{GlobalState}
use Rattle.bx_paxos.specs.Fits.{Fits, Voters, devices_of}
use Rattle.bx_paxos.specs.Reading.{AreSeen, ReadsState}
use Rattle.bx_paxos.specs.Shown.{HasBegun, IsUnread, Shows, ShowsOne}
use Rattle.bx_paxos_found.specs.declared.choosing.Accepted.{Accepted}
use Rattle.bx_paxos_found.specs.declared.looking.Seen.{Seen}
use Rattle.bx_paxos_found.specs.Finding.{IsSeen, held_of}
use Rattle.bx_paxos_found.specs.Choosing.{accepted_of, chosen_of, decided_of, higher_of, later_of, three, told_of}
use Rattle.bx_paxos_found.proofs.Chosen.{chosen_reads}
use Rattle.bx_paxos_found.proofs.Labelling.{labelled_or}
use Rattle.bx_paxos_found.proofs.Threes.{three_each, three_within}

-- ---- one replica

-- what is seen of a replica: its cell, where it is labelled and has a cell that can be read
pub IsView : ℕ → List ℕ → Image → ℕ → Option Held → Type 0
IsView devices sizes image n None = IsUnread devices sizes image n
IsView devices sizes image n (Some held) = IsReplicaLabelled devices sizes image n × ((found : Found) × IsFound devices (image n) found held)

record View (devices : ℕ) (sizes : List ℕ) (image : Image) (n : ℕ) : Type 0 where
  pub cell : Option Held
  pub is : IsView devices sizes image n cell

view_of : (devices : ℕ) (origin : Origin) (was : Option Held) (sizes : List ℕ) (image : Image) (n : ℕ) → n < 3 → ShowsOne devices origin was sizes image n → View devices sizes image n
unfolding IsView
view_of devices Made was sizes image n low (found, held, is) =
    elim (labelled_or devices sizes image n low) [
      | inl label ↦ record { cell = Some held; is = (label, (found, is)) }
      | inr none ↦ record { cell = None; is = record { none = λ f h label there. none label } }
    ]
view_of devices (FoundAs number) was sizes image n low (held, e, known) = record { cell = Some known.held; is = (known.label, (known.found, known.is)) }
view_of devices Apart was sizes image n low (e, unread) = record { cell = None; is = unread }

pub view_seen : (devices : ℕ) (sizes : List ℕ) (image : Image) (n : ℕ) (o : Option Seen) → IsSeen devices sizes image n o → IsView devices sizes image n (held_of o)
unfolding IsView
view_seen devices sizes image n None is = is
view_seen devices sizes image n (Some s) (label, (found, number, is)) = (label, (found, is))

-- ---- three

later_left : (s : GlobalState) (o : Option GlobalState) → (t : GlobalState) × (later_of (Some s) o ≡ Some t)
later_left s None = (s, refl)
later_left s (Some t) = by (nat_lt s.index t.index)
  where
    by : (b : Bool) → (u : GlobalState) × ((if b then Some t else Some s) ≡ Some u)
    by true = (t, refl)
    by false = (s, refl)

told_some : (o : Option Accepted) (s : GlobalState) → (t : GlobalState) × (told_of o (Some s) ≡ Some t)
told_some None s = (s, refl)
told_some (Some x) s = by (nat_lt s.index x.state.index)
  where
    by : (b : Bool) → (u : GlobalState) × ((if b then Some x.state else Some s) ≡ Some u)
    by true = (x.state, refl)
    by false = (s, refl)

none_some : (h : Held) → None ≡ Some h → ⊥
none_some h e = absurd cc

three_none : (n : ℕ) (held : Held) → three None None None n ≡ Some held → ⊥
three_none n held e = by (n == 0) (n == 1) (n == 2) e
  where
    by : (t u w : Bool) → (if t then None else (if u then None else (if w then None else None))) ≡ Some held → ⊥
    by true u w e = none_some held e
    by false true w e = none_some held e
    by false false true e = none_some held e
    by false false false e = none_some held e

latest : (a b c : Option Held) (n : ℕ) (held : Held) → three a b c n ≡ Some held → (s : GlobalState) × (later_of (later_of (decided_of a) (decided_of b)) (decided_of c) ≡ Some s)
latest (Some x) b c n held e =
    let k = later_left x.decided (decided_of b) in
    let j = later_left k.0 (decided_of c) in
    (j.0, ap (λ (o : Option GlobalState). later_of o (decided_of c)) k.1 ∙ j.1)
latest None (Some y) c n held e = later_left y.decided (decided_of c)
latest None None (Some z) n held e = (z.decided, refl)
latest None None None n held e = absurd (three_none n held e)

pub some_chosen : (a b c : Option Held) (n : ℕ) (held : Held) → three a b c n ≡ Some held → (s : GlobalState) × (chosen_of a b c ≡ Some s)
some_chosen a b c n held e =
    let d = latest a b c n held e in
    let t = told_some (higher_of (higher_of (accepted_of a) (accepted_of b)) (accepted_of c)) d.0 in
    (t.0, ap (λ (o : Option GlobalState). told_of (higher_of (higher_of (accepted_of a) (accepted_of b)) (accepted_of c)) o) d.1 ∙ t.1)

module _ (devices : ℕ) (sizes : List ℕ) (image : Image) (a b c : Option Held) (view_a : IsView devices sizes image 0 a) (view_b : IsView devices sizes image 1 b) (view_c : IsView devices sizes image 2 c) where
  at : (n : ℕ) → n < 3 → IsView devices sizes image n (three a b c n)
  at = three_each (λ n o. IsView devices sizes image n o) a b c view_a view_b view_c

  are : AreSeen devices sizes image (three a b c)
  unfolding IsView
  are = record {
    some = λ n held e. subst (IsView devices sizes image n) e (at n (three_within a b c n held e));
    none = λ n found held e label is. let gone : IsView devices sizes image n None = subst (IsView devices sizes image n) e (at n label.whole.low) in gone.none found held label is;
  }

  -- a cell that can be read, of a replica that is labelled, is seen
  there : (n : ℕ) (found : Found) (held : Held) → IsReplicaLabelled devices sizes image n → IsFound devices (image n) found held → (k : Held) × (three a b c n ≡ Some k)
  unfolding IsView
  there n found held label is = by (three a b c n) refl
    where
      by : (o : Option Held) → three a b c n ≡ o → (k : Held) × (three a b c n ≡ Some k)
      by None e = let gone : IsView devices sizes image n None = subst (IsView devices sizes image n) e (at n label.whole.low) in absurd (gone.none found held label is)
      by (Some k) e = (k, e)

  pub reads_so_chosen : (state s : GlobalState) (n m : ℕ) (one other : Held) → length state.devices ≡ devices → HasTwo (three a b c) n m one other → chosen_of a b c ≡ Some s → ReadsState state sizes image s
  reads_so_chosen state s n m one other same two chosen = record {
    seen = three a b c;
    are = subst (λ (k : ℕ). AreSeen k sizes image (three a b c)) (sym same) are;
    tells = record { one = n; other = m; one_held = one; other_held = other; two = two; reads = chosen_reads a b c s chosen };
  }

  reads_two : (state : GlobalState) (n m : ℕ) (one other : Held) → length state.devices ≡ devices → HasTwo (three a b c) n m one other → (s : GlobalState) × ReadsState state sizes image s
  reads_two state n m one other same two =
      let s = some_chosen a b c n one two.is_one in
      (s.0, reads_so_chosen state s.0 n m one other same two s.1)

-- ---- an image of a register

some_read : (v : Voters) (sizes : List ℕ) (image : Image) (n m : ℕ) (was : ℕ → Option Held) → Shows v.first v.origins was sizes image → HasBegun v.first v.origins was → n ≢ m → IsReplicaLabelled (devices_of v) sizes image n → IsReplicaLabelled (devices_of v) sizes image m → (s : GlobalState) × ReadsState v.first sizes image s
some_read v sizes image n m was shown begun apart label label_m = by begun
  where
    devices : ℕ
    devices = devices_of v

    view : (k : ℕ) → k < 3 → View devices sizes image k
    view k less = view_of devices (v.origins k) (was k) sizes image k less (shown.each k less)

    a : View devices sizes image 0
    a = view 0 (omega arith)

    b : View devices sizes image 1
    b = view 1 (omega arith)

    c : View devices sizes image 2
    c = view 2 (omega arith)

    with : (k l : ℕ) (f g : Found) (one other : Held) → k ≢ l → IsReplicaLabelled devices sizes image k → IsReplicaLabelled devices sizes image l → IsFound devices (image k) f one → IsFound devices (image l) g other → (s : GlobalState) × ReadsState v.first sizes image s
    with k l f g one other differ has has_l is is_l =
        let x = there devices sizes image a.cell b.cell c.cell a.is b.is c.is k f one has is in
        let y = there devices sizes image a.cell b.cell c.cell a.is b.is c.is l g other has_l is_l in
        reads_two devices sizes image a.cell b.cell c.cell a.is b.is c.is v.first k l x.0 y.0 refl (record { two = record { one = has.whole.low; other = has_l.whole.low; differ = differ }; is_one = x.1; is_other = y.1 })

    by : HasBegun v.first v.origins was → (s : GlobalState) × ReadsState v.first sizes image s
    by (inl made) =
        let one = subst (λ (o : Origin). ShowsOne devices o (was n) sizes image n) (made n label.whole.low) (shown.each n label.whole.low) in
        let other = subst (λ (o : Origin). ShowsOne devices o (was m) sizes image m) (made m label_m.whole.low) (shown.each m label_m.whole.low) in
        with n m one.0 other.0 one.1 other.1 apart label label_m one.2 other.2
    by (inr found) =
        let t = found.tells.two in
        let x = of t.two.one t.is_one (v.origins found.tells.one) refl (shown.each found.tells.one t.two.one) in
        let y = of t.two.other t.is_other (v.origins found.tells.other) refl (shown.each found.tells.other t.two.other) in
        with found.tells.one found.tells.other x.0 y.0 x.1 y.1 t.two.differ x.2 y.2 x.3 y.3
      where
        of : {k : ℕ} {h : Held} → k < 3 → was k ≡ Some h → (o : Origin) → v.origins k ≡ o → ShowsOne devices o (was k) sizes image k → (f : Found) × (held : Held) × IsReplicaLabelled devices sizes image k × IsFound devices (image k) f held
        of {k} {h} less e Made at shows = absurd (found.none_made k less at)
        of {k} {h} less e (FoundAs number) at shows = (shows.2.found, shows.2.held, shows.2.label, shows.2.is)
        of {k} {h} less e Apart at shows = absurd (none_some h (sym shows.0 ∙ e))

-- an image that has all that is sure
pub reads_some : (v : Voters) (x : Disks) (past : RegisterPast) (image : Image) (n m : ℕ) → Fits v x past → HasAllSure x image → n ≢ m → IsReplicaLabelled (devices_of v) x.sizes image n → IsReplicaLabelled (devices_of v) x.sizes image m → (s : GlobalState) × ReadsState v.first x.sizes image s
reads_some v x past image n m f sure apart label label_m = some_read v x.sizes image n m f.was (f.shown.each image sure) f.begun apart label label_m
