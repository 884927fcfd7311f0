-- A machine starts again, or its disk fails as it does: all go on fitting.
use Rattle.std.proofs.Common.{◌≡◌, ◌≢◌, ◌⊎◌, inl, inr, ℕ, ◌+◌, ◌-◌, ◌*◌, ◌/◌, ◌%◌, ◌<◌, ◌≤◌, max, Bool, true, false, List, [], Option, Some, None, Result, refl, sym, ◌∙◌, ap, subst, arith}
use Rattle.std.specs.Prelude.{◌==◌, IsSome, OnOk, nat_lt, slice_get, slice_index, if◌then◌else◌}
use Rattle.std.proofs.lemmas.Bool.{cases_eq, cases_lt}
use Rattle.std.proofs.lemmas.Bool.Decides.{nat_tests}
use Rattle.bx_base.specs.declared.names.Actor.{Actor}
use Rattle.bx_base.specs.declared.names.Actor.TheVariants.{Node, Replica, Server, Member}
use Rattle.bx_calls.specs.Calls.{HasSure, KeepsAll, KeepsSure, LeavesOnly}
use Rattle.bx_calls.specs.Laws.{leaves_implies, leaves_now}
use Rattle.bx_calls.specs.Regions.{IsSynced}
use Rattle.bx_disk.specs.Disks.{Disks, Image, IsImage, Stays}
use Rattle.bx_disk.specs.declared.fault.RackError.{RackError}
use Rattle.bx_disk.specs.declared.rack.Rack as racks
use Rattle.bx_facts.proofs.Machines.{elsewhere, here as put_here}
use Rattle.bx_facts.specs.Chains.{last}
use Rattle.bx_facts.specs.Disks.{HasRoom, IsKept, NeedsAt, SameLabels, SameMemberLengths, SameReplicas, wanted_by}
use Rattle.bx_facts.specs.Machines.{IsMachine, disk_of, put_at}
use Rattle.bx_facts.specs.Pasts.{MayRestart}
use Rattle.bx_facts.specs.Writes.{Asked, HasSettled, IsOnly, IsSourceIn, IsSourceRow, Made, StorePast, label_on, member_disk, store_failed, store_restarted, store_room}
use Rattle.bx_layout.specs.Labels.{SpellsLabel}
use Rattle.bx_members.proofs.Kept.{same_member as same_disk}
use Rattle.bx_rows.specs.Modes.{IsSource}
use Rattle.bx_rows.specs.declared.device.DeviceRow.{DeviceRow}
use Rattle.bx_mirror_client.specs.Sends.{member_at}
use Rattle.bx_mirror_client.specs.Streams.{Streaming, restarted}
use Rattle.bx_mirror_client.specs.declared.asking.Asking.{Asking}
use Rattle.bx_mirror_member.specs.Standing.{MemberView, hearing, new_member, started}
use Rattle.bx_mirror_cluster.proofs.Beside.{one_beside}
use Rattle.bx_mirror_cluster.proofs.Chained.{settled_is}
use Rattle.bx_mirror_cluster.proofs.DiskChanges.{disks_stay, stays_reads, stays_settled, stays_stands}
use Rattle.bx_mirror_cluster.proofs.MemberStarts.{fails_goes, restarts_goes}
use Rattle.bx_mirror_cluster.proofs.NodeStarts.{node_restarts, reads_restarted, settles_restarted, stands_restarted}
use Rattle.bx_mirror_cluster.proofs.Promised.{imaged, labelled}
use Rattle.bx_mirror_cluster.specs.Beside.{IsBeside, saying}
use Rattle.bx_mirror_cluster.specs.Fitting.{IsSettledOn, Keeps, Parts, StandsOn, WillReadOn, will_read_by}
use Rattle.bx_mirror_cluster.specs.MemberSteps.{with_serving}
use Rattle.bx_mirror_cluster.specs.Starting.{IsBooted}
use Rattle.bx_mirror_cluster.specs.Writing.{with_stream}
use Rattle.bx_devices.proofs.Going.{PartsGo, beside, clocked, composed, further, stays, then_read}
use Rattle.bx_devices.proofs.Results.{on_all, on_any, on_ok}
use Rattle.bx_devices.proofs.Parts.{member_beside, parts_same, parts_served, parts_streamed, replica_beside, same_serving, server_beside}
use Rattle.bx_devices.proofs.Serving.{member_there}
use Rattle.bx_devices.specs.Needs.{needs_behind, needs_little, needs_none}
use Rattle.bx_devices.specs.Disks.{Labels, LabelsAt}
use Rattle.bx_devices.specs.Events.{RestartsAt, StopsAt}
use Rattle.bx_devices.specs.Fitting.{IsFitting, Settled, Stands, WillRead, asked_of, parts_of}
use Rattle.bx_devices.specs.Laws.{as_member, disk_of_member}
use Rattle.bx_devices.specs.Machines.{DeviceMachines, IsShape, OnlyMachine, member_of, need_in, needs_of, or_new, slot_of, stream_of}

-- What is left where a machine starts, or tries to.
pub record Began (o new : DeviceMachines) (x y : Disks) (past then_ : StorePast) (who : Actor) : Type 0 where
  pub fits : IsFitting new y then_
  pub settled : (d sector : ℕ) (content : List ℕ) → IsOnly past.writes past.told.greatest d sector content → Settled o x past d sector content → Settled new y then_ d sector content
  pub stands : (d sector : ℕ) (content : List ℕ) (index : ℕ) → IsOnly past.writes past.told.greatest d sector content → Stands o x past d sector content index → Stands new y then_ d sector content index
  pub reads : (reader sector : ℕ) (content : List ℕ) (asks : Asked) → who ≢ Node reader → asked_of o reader ≡ Some asks → IsOnly past.writes past.told.greatest asks.device sector content → WillRead o x past reader sector content → WillRead new y then_ reader sector content

-- ---- a member's disk

module _ (made : Made) (x y : Disks) (d : ℕ) (b : Bool) (boot : ℕ) (keeps : KeepsSure x y (member_disk d b) 0 1) where
  lengths : SameMemberLengths x y
  lengths = record { each = λ k far. ap (λ (sizes : List ℕ). slice_index sizes k) keeps.sizes }

  -- it has its label, and all is sure
  booted : (m : MemberView) → m.boot ≡ boot → m.row ≡ None → m.lasts ≡ [] → m.owed ≡ [] → IsSynced y (member_disk d b) → SpellsLabel (label_on made (member_disk d b)) (y.reads (member_disk d b) 0) → store_room made ≤ slice_index x.sizes (member_disk d b)
      → IsBooted made x y d b false boot m
  booted m boot_is row lasts owed synced spells long = record {
    boot_is = λ none. boot_is;
    row = row;
    lasts = lasts;
    owed = owed;
    label = λ case. record { spells = spells; sure = synced.each 0; long = subst (λ (sizes : List ℕ). store_room made ≤ slice_index sizes (member_disk d b)) (sym keeps.sizes) long };
    reads = λ s behind. keeps.reads.behind s behind;
    sure = λ s behind was. keeps.sure.behind s behind was;
    disks = λ disk s apart. keeps.others disk s apart;
    lengths = lengths;
  }

  -- or its disk failed
  not_booted : (m : MemberView) → m.row ≡ None → m.lasts ≡ [] → m.owed ≡ [] → (SpellsLabel (label_on made (member_disk d b)) (x.reads (member_disk d b) 0) → KeepsAll x y (member_disk d b)) → IsBooted made x y d b true boot m
  not_booted m row lasts owed had = record {
    boot_is = λ none. absurd cc;
    row = row;
    lasts = lasts;
    owed = owed;
    label = λ case. elim case [
      | inl wrong ↦ absurd cc
      | inr has ↦ (let all = had has.spells in record {
        spells = subst (λ (content : List ℕ). SpellsLabel (label_on made (member_disk d b)) content) (sym (ap (λ (f : Image). f (member_disk d b) 0) all.reads)) has.spells;
        sure = all.sure (member_disk d b) 0 has.sure;
        long = subst (λ (sizes : List ℕ). store_room made ≤ slice_index sizes (member_disk d b)) (sym keeps.sizes) has.long;
      })
    ];
    reads = λ s behind. keeps.reads.behind s behind;
    sure = λ s behind was. keeps.sure.behind s behind was;
    disks = λ disk s apart. keeps.others disk s apart;
    lengths = lengths;
  }

-- ---- all machines

module _ (o new : DeviceMachines) (x : Disks) (past : StorePast) (boot reading : ℕ) (fitting : IsFitting o x past) (shape : IsShape new) where
  -- what goes on of the parts goes on of the machines
  of_parts : (y : Disks) (then_ : StorePast) (who : Actor) → IsFitting new y then_ → PartsGo (parts_of o) (parts_of new) x y past then_ → Began o new x y past then_ who
  of_parts y then_ who fits goes = record {
    fits = fits;
    settled = goes.settles;
    stands = goes.stands;
    reads = λ reader sector content asks apart is only will. then_read o new x y past then_ goes reader sector content asks is only will;
  }

  fits_with : (y : Disks) (who : Actor) (failed : Bool) (then_ : StorePast) → then_.told.down ≡ put_at who failed past.told.down → OnlyMachine who o new → ((n : ℕ) → (stream_of new n).node ≡ n) → Keeps (parts_of new) y then_
      → ((n : ℕ) → n < 2 * new.made.devices → who ≡ Member n → failed ≡ false → IsSome (slot_of new n)) → IsFitting new y then_
  fits_with y who failed then_ down only number keeps here_is = record {
    fits = keeps;
    shape = shape;
    there = λ n less up. there n less (sym (ap (λ (f : Actor → Bool). f (Member n)) down) ∙ up);
    itself = number;
  }
    where
      same_or : (n : ℕ) → (who ≡ Member n) ⊎ (who ≢ Member n)
      same_or n = by who
        where
          by : (a : Actor) → (a ≡ Member n) ⊎ (a ≢ Member n)
          by (Node k) = inr (λ e. absurd cc)
          by (Replica k) = inr (λ e. absurd cc)
          by (Server k) = inr (λ e. absurd cc)
          by (Member k) = elim (cases_eq k n) [ inl e ↦ inl (ap (λ (j : ℕ). Member j) e) | inr apart ↦ inr (λ e. apart (let same : k ≡ n = cc in same)) ]

      there : (n : ℕ) → n < 2 * new.made.devices → put_at who failed past.told.down (Member n) ≡ false → IsSome (slot_of new n)
      there n less up = elim (same_or n) [
        | inl e ↦ here_is n less e (sym (put_here who failed past.told.down) ∙ ap (λ (a : Actor). put_at who failed past.told.down a) e ∙ up)
        | inr apart ↦ subst (λ (slot : Option MemberView). IsSome slot) (sym (only.members n apart))
            (fitting.there n (subst (λ (m : Made). n < 2 * m.devices) only.made less) (sym (elsewhere who (Member n) failed past.told.down (λ e. apart (sym e))) ∙ up))
      ]

  -- a node
  node_began : (n : ℕ) → OnlyMachine (Node n) o new → past.told.boots (Node n) < boot → stream_of new n ≡ restarted boot (stream_of o n) → Began o new x x past (store_restarted past (Node n) boot reading) (Node n)
  node_began n only newer starts = record {
    fits = fits_with x (Node n) false then_ refl only number (into (λ p. Keeps p x then_) (node_restarts (parts_of o) x past fitting.fits n boot reading newer)) (λ k less same. absurd cc);
    settled = λ d sector content only_it is. into (λ p. IsSettledOn p x then_ d sector content) (settles_restarted (parts_of o) x past fitting.fits n boot reading newer d sector content is);
    stands = λ d sector content index only_it is. into (λ p. StandsOn p x then_ d sector content index) (stands_restarted (parts_of o) x past fitting.fits n boot reading newer d sector content index is);
    reads = λ reader sector content asks apart asked only_it will. subst (λ (a : Option Asking). will_read_by a (parts_of new) x then_ reader sector content) (sym (ap (λ (k : Streaming). k.asks) (only.streams reader apart)))
        (by reader sector content apart (stream_of o reader).asks will);
  }
    where
      then_ : StorePast
      then_ = store_restarted past (Node n) boot reading

      into : (P : Parts → Type 0) → P (with_stream (parts_of o) n (restarted boot (stream_of o n))) → P (parts_of new)
      into P is = subst P (sym (parts_streamed o new n only ∙ ap (λ (k : Streaming). with_stream (parts_of o) n k) starts)) is

      number : (k : ℕ) → (stream_of new k).node ≡ k
      number k = elim (cases_eq k n) [
        | inl e ↦ subst (λ (j : ℕ). (stream_of new j).node ≡ j) (sym e) (ap (λ (c : Streaming). c.node) starts ∙ fitting.itself n)
        | inr apart ↦ ap (λ (c : Streaming). c.node) (only.streams k (λ same. apart (let e : n ≡ k = cc in sym e))) ∙ fitting.itself k
      ]

      by : (reader sector : ℕ) (content : List ℕ) → Node n ≢ Node reader → (a : Option Asking) → will_read_by a (parts_of o) x past reader sector content → will_read_by a (parts_of new) x then_ reader sector content
      by reader sector content apart None will = tt
      by reader sector content apart (Some read) will = into (λ p. WillReadOn p x then_ reader read sector content)
          (reads_restarted (parts_of o) x past fitting.fits n boot reading newer reader read sector content (λ e. apart (ap (λ (k : ℕ). Node k) (sym e))) will)

  same_streams : (n : ℕ) → OnlyMachine (Member n) o new → (k : ℕ) → (stream_of new k).node ≡ k
  same_streams n only k = ap (λ (c : Streaming). c.node) (only.streams k (λ same. absurd cc)) ∙ fitting.itself k

  -- a machine that has nothing to do with devices, as disks of others change or none
  other_began : (y : Disks) (who : Actor) (failed : Bool) → IsBeside o.made who → OnlyMachine who o new → ((d : ℕ) → d < o.made.devices → (c : Bool) (s : ℕ) → Stays x y (member_disk d c) s) → SameMemberLengths x y
      → PartsGo (parts_of o) (parts_of new) x y past (record past { told = record past.told { greatest = max past.told.greatest reading; knew = put_at who 0 past.told.knew; boots = put_at who boot past.told.boots; down = put_at who failed past.told.down } })
  other_began y who failed aside only stay same_lengths =
      let p : Parts = parts_of o in
      let knew = put_at who 0 past.told.knew in
      let boots = put_at who boot past.told.boots in
      let down = put_at who failed past.told.down in
      let first : PartsGo p p x y past past = stays p p x y past past (λ reader. refl) (disks_stay p x y past fitting.fits same_lengths stay)
      (λ d sector content only_it is. stays_settled p x y past d sector content stay is) (λ d sector content index only_it is. stays_stands p x y past d sector content index stay is)
      (λ reader read sector content asks only_it will. stays_reads p x y past reader read sector content stay will) in
      let second = clocked p p y y past (saying past knew boots down) (max past.told.greatest reading) (omega arith)
      (beside o y past knew boots down (one_beside o.made past.told who 0 boot failed aside) (same_serving o fitting.shape) first.keeps) in
      subst (λ (q : Parts). PartsGo p q x y past (record past { told = record past.told { greatest = max past.told.greatest reading; knew = knew; boots = boots; down = down } })) (sym (parts_same who o new aside fitting.shape shape only))
      (composed p p p x y y past (record past { told = record past.told { greatest = max past.told.greatest reading; knew = knew; boots = boots; down = down } }) first second)

  -- ---- a member

  module _ (y : Disks) (n : ℕ) (only : OnlyMachine (Member n) o new) (is_down : past.told.down (Member n) ≡ true) (newer : past.told.boots (Member n) < boot) (keeps : KeepsSure x y (3 + n) 0 1) where
    far_stays : 2 * o.made.devices ≤ n → (d : ℕ) → d < o.made.devices → (c : Bool) (s : ℕ) → Stays x y (member_disk d c) s
    far_stays far d within c s = keeps.others (member_disk d c) s (apart c)
      where
        apart : (e : Bool) → member_disk d e ≢ 3 + n
        apart false same = absurd (omega (arith, far, within, same))
        apart true same = absurd (omega (arith, far, within, same))

    far_lengths : SameMemberLengths x y
    far_lengths = record { each = λ k far. ap (λ (sizes : List ℕ). slice_index sizes k) keeps.sizes }

    -- it started
    started_at : (d : ℕ) (b : Bool) → member_at d b ≡ n → (m : MemberView) → slot_of new n ≡ Some m → m.boot ≡ boot → m.row ≡ None → m.lasts ≡ [] → m.owed ≡ [] → IsSynced y (3 + n) → SpellsLabel (label_on o.made (3 + n)) (y.reads (3 + n) 0) → store_room o.made ≤ slice_index x.sizes (3 + n)
        → PartsGo (parts_of o) (parts_of new) x y past (store_restarted past (Member n) boot reading)
    started_at d b at m there boot_is row lasts owed synced spells long =
        let disk : member_disk d b ≡ 3 + n = sym (disk_of_member d b) ∙ ap (λ (k : ℕ). 3 + k) at in
        let keeps_it = subst (λ (k : ℕ). KeepsSure x y k 0 1) (sym disk) keeps in
        let boots_it = booted o.made x y d b boot keeps_it m boot_is row lasts owed (subst (λ (k : ℕ). IsSynced y k) (sym disk) synced) (subst (λ (k : ℕ). SpellsLabel (label_on o.made k) (y.reads k 0)) (sym disk) spells)
        (subst (λ (k : ℕ). store_room o.made ≤ slice_index x.sizes k) (sym disk) long) in
        let goes = restarts_goes (parts_of o) x y past d b boot reading m fitting.fits (subst (λ (k : ℕ). past.told.down (Member k) ≡ true) (sym at) is_down) (subst (λ (k : ℕ). past.told.boots (Member k) < boot) (sym at) newer) boots_it in
        subst (λ (p : Parts). PartsGo (parts_of o) p x y past (store_restarted past (Member n) boot reading)) (sym (parts_served o new n only ∙ ap (λ (k : MemberView). with_serving (parts_of o) n k) (member_there new n m there)))
        (subst (λ (k : ℕ). PartsGo (parts_of o) (with_serving (parts_of o) k m) x y past (store_restarted past (Member k) boot reading)) at (further (parts_of o) (with_serving (parts_of o) (member_at d b) m) x y past (store_restarted past (Member (member_at d b)) boot reading) goes))

    -- its disk failed
    failed_at : (d : ℕ) (b : Bool) → member_at d b ≡ n → slot_of new n ≡ None → (SpellsLabel (label_on o.made (3 + n)) (x.reads (3 + n) 0) → KeepsAll x y (3 + n)) → PartsGo (parts_of o) (parts_of new) x y past (store_failed past (Member n) boot reading)
    failed_at d b at gone had =
        let disk : member_disk d b ≡ 3 + n = sym (disk_of_member d b) ∙ ap (λ (k : ℕ). 3 + k) at in
        let m : MemberView = member_of new n in
        let none : member_of new n ≡ or_new new.made n None = ap (λ (slot : Option MemberView). or_new new.made n slot) gone in
        let boots_not = not_booted o.made x y d b boot (subst (λ (k : ℕ). KeepsSure x y k 0 1) (sym disk) keeps) m (ap (λ (k : MemberView). k.row) none) (ap (λ (k : MemberView). k.lasts) none) (ap (λ (k : MemberView). k.owed) none)
        (subst (λ (k : ℕ). SpellsLabel (label_on o.made k) (x.reads k 0) → KeepsAll x y k) (sym disk) had) in
        let goes = fails_goes (parts_of o) x y past d b boot reading m fitting.fits (subst (λ (k : ℕ). past.told.down (Member k) ≡ true) (sym at) is_down) (subst (λ (k : ℕ). past.told.boots (Member k) < boot) (sym at) newer) boots_not in
        subst (λ (p : Parts). PartsGo (parts_of o) p x y past (store_failed past (Member n) boot reading)) (sym (parts_served o new n only))
        (subst (λ (k : ℕ). PartsGo (parts_of o) (with_serving (parts_of o) k m) x y past (store_failed past (Member k) boot reading)) at (further (parts_of o) (with_serving (parts_of o) (member_at d b) m) x y past (store_failed past (Member (member_at d b)) boot reading) goes))

    pub member_began : (n < 2 * o.made.devices → slot_of new n ≡ Some (hearing reading (started boot (new_member n o.made)))) → IsSynced y (3 + n) → SpellsLabel (label_on o.made (3 + n)) (y.reads (3 + n) 0) → store_room o.made ≤ slice_index x.sizes (3 + n)
        → Began o new x y past (store_restarted past (Member n) boot reading) (Member n)
    member_began starts synced spells long = of_parts y then_ (Member n) (fits_with y (Member n) false then_ refl only (same_streams n only) goes.keeps is_there) goes
      where
        then_ : StorePast
        then_ = store_restarted past (Member n) boot reading

        goes : PartsGo (parts_of o) (parts_of new) x y past then_
        goes = elim (cases_lt n (2 * o.made.devices)) [
          | inl less ↦ started_at (n / 2) (n % 2 == 1) (as_member n) (hearing reading (started boot (new_member n o.made))) (starts less) refl refl refl refl synced spells long
          | inr far ↦ other_began y (Member n) false (member_beside o.made n far) only (far_stays far) far_lengths
        ]

        is_there : (k : ℕ) → k < 2 * new.made.devices → Member n ≡ Member k → false ≡ false → IsSome (slot_of new k)
        is_there k less same up =
            let e : n ≡ k = cc in
            subst (λ (j : ℕ). j < 2 * new.made.devices → IsSome (slot_of new j)) e
            (λ within. subst (λ (slot : Option MemberView). IsSome slot) (sym (starts (subst (λ (m : Made). n < 2 * m.devices) only.made within))) refl) less

    pub member_failed : slot_of new n ≡ None → (SpellsLabel (label_on o.made (3 + n)) (x.reads (3 + n) 0) → KeepsAll x y (3 + n)) → Began o new x y past (store_failed past (Member n) boot reading) (Member n)
    member_failed gone had = of_parts y then_ (Member n) (fits_with y (Member n) true then_ refl only (same_streams n only) goes.keeps (λ k less same no. absurd cc)) goes
      where
        then_ : StorePast
        then_ = store_failed past (Member n) boot reading

        goes : PartsGo (parts_of o) (parts_of new) x y past then_
        goes = elim (cases_lt n (2 * o.made.devices)) [
          | inl less ↦ failed_at (n / 2) (n % 2 == 1) (as_member n) gone had
          | inr far ↦ other_began y (Member n) true (member_beside o.made n far) only (far_stays far) far_lengths
        ]

  -- ---- any machine

  same_disks : (y : Disks) → y ≡ x → (d : ℕ) → d < o.made.devices → (c : Bool) (s : ℕ) → Stays x y (member_disk d c) s
  same_disks y e d within c s = subst (λ (z : Disks). Stays x z (member_disk d c) s) (sym e) (record { reads = refl; held = refl; unsure = refl })

  same_lengths : (y : Disks) → y ≡ x → SameMemberLengths x y
  same_lengths y e = record { each = λ k far. ap (λ (z : Disks). slice_index z.sizes k) e }

  other_fits : (y : Disks) (who : Actor) → y ≡ x → IsBeside o.made who → OnlyMachine who o new → Began o new x y past (store_restarted past who boot reading) who
  other_fits y who e aside only =
      let goes = other_began y who false aside only (same_disks y e) (same_lengths y e) in
      of_parts y (store_restarted past who boot reading) who (fits_with y who false (store_restarted past who boot reading) refl only (λ k. ap (λ (c : Streaming). c.node) (only.streams k (λ same. aside.no_node k (sym same))) ∙ fitting.itself k) goes.keeps
      (λ n less same up. absurd (aside.no_member n (subst (λ (m : Made). n < 2 * m.devices) only.made less) (sym same)))) goes

  module _ {R A : Type 0} (rack : racks.Ghosts R) (r after : R) (tells : rack.tells r) (state_is : rack.state r ≡ x) (result : Result A RackError) where
    same_state : after ≡ r → rack.state after ≡ x
    same_state e = ap (λ (q : R). rack.state q) e ∙ state_is

    pub began : (who : Actor) → IsMachine o.made.nodes who → MayRestart past.told who boot reading → OnlyMachine who o new → ((n : ℕ) → who ≡ Member n → store_room o.made ≤ slice_index x.sizes (3 + n)) → LabelsAt rack r after o.made who result
        → OnOk result (RestartsAt who boot reading o new) → OnOk result (Began o new x (rack.state after) past (store_restarted past who boot reading) who)
    began (Node n) there may only room labels is = on_ok result (λ starts. subst (λ (z : Disks). Began o new x z past (store_restarted past (Node n) boot reading) (Node n)) (sym (same_state labels)) (node_began n only may.boot_rises (starts there))) is
    began (Replica n) there may only room labels is = on_any result (other_fits (rack.state after) (Replica n) (same_state labels) (replica_beside o.made n) only)
    began (Server n) there may only room labels is = on_any result (other_fits (rack.state after) (Server n) (same_state labels) (server_beside o.made n) only)
    began (Member n) there may only room labels is =
        on_all result (λ starts synced spells. member_began (rack.state after) n only may.down may.boot_rises (subst (λ (z : Disks). KeepsSure z (rack.state after) (3 + n) 0 1) state_is (labels.keeps tells)) starts synced spells (room n refl)) is
        (labels.synced tells) (labels.label_is tells)

    failed : (n : ℕ) → MayRestart past.told (Member n) boot reading → OnlyMachine (Member n) o new → Labels rack r after (label_on o.made (3 + n)) (3 + n) result → StopsAt (Member n) o new
        → Began o new x (rack.state after) past (store_failed past (Member n) boot reading) (Member n)
    failed n may only labels stops =
        member_failed (rack.state after) n only may.down may.boot_rises (subst (λ (z : Disks). KeepsSure z (rack.state after) (3 + n) 0 1) state_is (labels.keeps tells)) stops
        (subst (λ (z : Disks). SpellsLabel (label_on o.made (3 + n)) (z.reads (3 + n) 0) → KeepsAll z (rack.state after) (3 + n)) state_is (labels.had_label tells))

    -- a member's disk alone fails
    pub restart_failed : (who : Actor) → MayRestart past.told who boot reading → OnlyMachine who o new → LabelsAt rack r after o.made who result → (n : ℕ) × (who ≡ Member n) → StopsAt who o new
        → Began o new x (rack.state after) past (store_failed past who boot reading) who
    restart_failed (Node n) may only labels is stops = absurd (let e = is.1 in cc)
    restart_failed (Replica n) may only labels is stops = absurd (let e = is.1 in cc)
    restart_failed (Server n) may only labels is stops = absurd (let e = is.1 in cc)
    restart_failed (Member n) may only labels is stops = failed n may only labels stops

-- the room of a member's disk
pub room_of_disk : (o : DeviceMachines) (who : Actor) (n : ℕ) (x : Disks) → who ≡ Member n → HasRoom (wanted_by (disk_of who) (store_room o.made)) x.sizes → store_room o.made ≤ slice_index x.sizes (3 + n)
room_of_disk o who n x is room =
    let all = subst (λ (a : Actor). HasRoom (wanted_by (disk_of a) (store_room o.made)) x.sizes) is room in
    let test : ((3 + n) == (3 + n)) ≡ true = grind (arith, nat_tests) in
    subst (λ (k : ℕ). k ≤ slice_index x.sizes (3 + n)) (own_wanted (3 + n) (3 + n) test) (all.each (3 + n))
  where
    own_wanted : (own d : ℕ) → (own == d) ≡ true → wanted_by (Some own) (store_room o.made) d ≡ store_room o.made
    own_wanted own d e = rw e refl

-- what is said of the disk of a member
pub labels_member : {R A : Type 0} (rack : racks.Ghosts R) (r after : R) (made : Made) (who : Actor) (n : ℕ) (result : Result A RackError) → who ≡ Member n → LabelsAt rack r after made who result → Labels rack r after (label_on made (3 + n)) (3 + n) result
labels_member rack r after made who n result is labels = subst (λ (a : Actor). LabelsAt rack r after made a result) is labels

-- the disks of replicas are kept
pub restart_replicas : {R A : Type 0} (rack : racks.Ghosts R) (r after : R) (made : Made) (result : Result A RackError) (who : Actor) → rack.tells r → LabelsAt rack r after made who result → SameReplicas (rack.state r) (rack.state after) × SameLabels (rack.state r) (rack.state after)
restart_replicas rack r after made result who tells labels = (record { each = λ d s low some. kept who labels d s low }, record { each = λ d low. kept who labels d 0 low })
  where
    same : after ≡ r → (d s : ℕ) → IsKept (rack.state r) (rack.state after) d s
    same e d s = record { reads = ap (λ (q : _). (rack.state q).reads d s) e; sure = λ sure. ap (λ (q : _). (rack.state q).unsure d s) e ∙ sure }

    kept : (a : Actor) → LabelsAt rack r after made a result → (d s : ℕ) → d < 3 → IsKept (rack.state r) (rack.state after) d s
    kept (Node n) is d s low = same is d s
    kept (Replica n) is d s low = same is d s
    kept (Server n) is d s low = same is d s
    kept (Member n) is d s low = let stays = (is.keeps tells).others d s (λ e. absurd (omega (arith, low, e))) in record { reads = stays.reads; sure = λ sure. stays.unsure ∙ sure }

-- ---- at any moment

source_or : (row : Option DeviceRow) (b : Bool) → IsSourceRow row b ⊎ (IsSourceRow row b → ⊥)
source_or None b = inr (λ none. none)
source_or (Some row) b = by row.mode b
  where
    by : (mode : ℕ) (c : Bool) → IsSource mode c ⊎ (IsSource mode c → ⊥)
    by mode false = grind arith
    by mode true = grind arith

module _ (o : DeviceMachines) (x : Disks) (past : StorePast) (fitting : IsFitting o x past) where
  abbrev Has : Image → Type 0
  Has image = HasSettled past.writes past.told.greatest (Settled o x past) x (last past.told.chain) image

  of_image : (image : Image) → IsImage x image → Has image
  of_image image is = imaged (parts_of o) x past fitting.fits image (λ disk sector behind sure. is.sure disk sector sure) (λ d b source sure. is.sure (member_disk d b) 0 sure)

  -- all but a disk that no audit reads
  of_others : (n : ℕ) → ((d : ℕ) (b : Bool) → IsSourceIn (last past.told.chain) d b → member_disk d b ≢ 3 + n) → (image : Image) → HasSure x (3 + n) 0 1 image → Has image
  of_others n none image sure = record {
    has = λ d sector content b only settled source.
        let is = settled_is (parts_of o) x past d sector content fitting.fits settled in
        sure.outside.elsewhere (member_disk d b) sector (none d b source) (is.sure b source) ∙ is.reads b source;
    labels = λ d b source is_sure. sure.outside.elsewhere (member_disk d b) 0 (none d b source) is_sure;
    replicas = λ k s low is_sure. sure.outside.elsewhere k s (λ e. absurd (omega (arith, low, e))) is_sure;
  }

  module _ {R A : Type 0} (rack : racks.Ghosts R) (r after : R) (tells : rack.tells r) (state_is : rack.state r ≡ x) (only_now : (image : Image) → rack.left_since r (rack.moment r) image → IsImage (rack.state r) image) (result : Result A RackError) where
    abbrev Leaves : Type 0
    Leaves = LeavesOnly (rack.moment r) (rack.moment after) (rack.left_since r) (rack.left_since after) Has

    leaves_same : after ≡ r → Leaves
    leaves_same same = subst (λ (q : R). LeavesOnly (rack.moment r) (rack.moment q) (rack.left_since r) (rack.left_since q) Has) (sym same)
        (leaves_now (rack.moment r) (rack.left_since r) Has (λ image left. of_image image (subst (λ (z : Disks). IsImage z image) state_is (only_now image left))))

    leaves_member : (n : ℕ) → Labels rack r after (label_on o.made (3 + n)) (3 + n) result → Leaves
    leaves_member n labels = elim (source_or (slice_get (last past.told.chain).devices (n / 2)) (n % 2 == 1)) [
      | inl source ↦
          let disk : member_disk (n / 2) (n % 2 == 1) ≡ 3 + n = sym (disk_of_member (n / 2) (n % 2 == 1)) ∙ ap (λ (k : ℕ). 3 + k) (as_member n) in
          let spells : SpellsLabel (label_on o.made (3 + n)) (x.reads (3 + n) 0) = subst (λ (k : ℕ). SpellsLabel (label_on o.made k) (x.reads k 0)) disk ((labelled (parts_of o) x past fitting.fits).labels.reads (n / 2) (n % 2 == 1) source) in
          leaves_implies (rack.moment r) (rack.moment after) (rack.left_since r) (rack.left_since after) (IsImage (rack.state r)) Has (labels.had_moment tells (subst (λ (z : Disks). SpellsLabel (label_on o.made (3 + n)) (z.reads (3 + n) 0)) (sym state_is) spells))
          (λ image is. of_image image (subst (λ (z : Disks). IsImage z image) state_is is))
      | inr none ↦
          leaves_implies (rack.moment r) (rack.moment after) (rack.left_since r) (rack.left_since after) (HasSure (rack.state r) (3 + n) 0 1) Has (labels.any_moment tells)
          (λ image has. of_others n (λ d b source e. apart d b source e none) image (subst (λ (z : Disks). HasSure z (3 + n) 0 1 image) state_is has))
    ]
      where
        apart : (d : ℕ) (b : Bool) → IsSourceIn (last past.told.chain) d b → member_disk d b ≡ 3 + n → (IsSourceIn (last past.told.chain) (n / 2) (n % 2 == 1) → ⊥) → ⊥
        apart d b source e none =
            let same = same_disk d (n / 2) b (n % 2 == 1) (e ∙ ap (λ (k : ℕ). 3 + k) (sym (as_member n)) ∙ disk_of_member (n / 2) (n % 2 == 1)) in
            none (subst (λ (k : ℕ). IsSourceIn (last past.told.chain) k (n % 2 == 1)) same.0 (subst (λ (c : Bool). IsSourceIn (last past.told.chain) d c) same.1 source))

    pub restart_leaves : (who : Actor) → LabelsAt rack r after o.made who result → Leaves
    restart_leaves (Node n) labels = leaves_same labels
    restart_leaves (Replica n) labels = leaves_same labels
    restart_leaves (Server n) labels = leaves_same labels
    restart_leaves (Member n) labels = leaves_member n labels

-- ---- what is needed

pub needs_at : (who : Actor) (o new : DeviceMachines) → OnlyMachine who o new → NeedsAt who (store_room o.made) (needs_of o) (needs_of new)
needs_at who o new only = record { each = λ disk. by disk }
  where
    room_same : store_room new.made ≡ store_room o.made
    room_same = ap store_room only.made

    stays_so : (disk : ℕ) → 3 ≤ disk → slot_of new (disk - 3) ≡ slot_of o (disk - 3) → needs_of new disk ≡ needs_of o disk
    stays_so disk far same = needs_behind new disk far ∙ ap (λ (m : Made). if nat_lt (disk - 3) (2 * m.devices) then need_in (store_room m) (slot_of new (disk - 3)) else 0) only.made
        ∙ ap (λ (slot : Option MemberView). if nat_lt (disk - 3) (2 * o.made.devices) then need_in (store_room o.made) slot else 0) same ∙ sym (needs_behind o disk far)

    its_own : (n disk : ℕ) → 3 ≤ disk → who ≡ Member n → disk - 3 ≡ n → needs_of new disk ≤ wanted_by (disk_of who) (store_room o.made) disk
    its_own n disk far is at =
        let little = needs_little new disk in
        let same : disk ≡ 3 + n = omega (arith, far, at) in
        let test : ((3 + n) == disk) ≡ true = grind (arith, nat_tests, same) in
        let wanted : wanted_by (disk_of who) (store_room o.made) disk ≡ store_room o.made = ap (λ (a : Actor). wanted_by (disk_of a) (store_room o.made) disk) is ∙ own_wanted (3 + n) disk test in
        let room = room_same in
        omega (arith, little, wanted, room)
      where
        own_wanted : (own d : ℕ) → (own == d) ≡ true → wanted_by (Some own) (store_room o.made) d ≡ store_room o.made
        own_wanted own d e = rw e refl

    behind : (disk : ℕ) → 3 ≤ disk → (a : Actor) → who ≡ a → needs_of new disk ≤ max (needs_of o disk) (wanted_by (disk_of who) (store_room o.made) disk)
    behind disk far (Node n) is = let e = stays_so disk far (only.members (disk - 3) (λ same. absurd (let no = sym is ∙ same in cc))) in omega (arith, e)
    behind disk far (Replica n) is = let e = stays_so disk far (only.members (disk - 3) (λ same. absurd (let no = sym is ∙ same in cc))) in omega (arith, e)
    behind disk far (Server n) is = let e = stays_so disk far (only.members (disk - 3) (λ same. absurd (let no = sym is ∙ same in cc))) in omega (arith, e)
    behind disk far (Member n) is = elim (cases_eq (disk - 3) n) [
      | inl at ↦ (let less = its_own n disk far is at in omega (arith, less))
      | inr apart ↦ (let e = stays_so disk far (only.members (disk - 3) (λ same. apart (let k : n ≡ disk - 3 = (let both = sym is ∙ same in cc) in sym k))) in omega (arith, e))
    ]

    by : (disk : ℕ) → needs_of new disk ≤ max (needs_of o disk) (wanted_by (disk_of who) (store_room o.made) disk)
    by disk = elim (cases_lt disk 3) [
      | inl low ↦ (let none = needs_none new disk low in omega (arith, none))
      | inr far ↦ behind disk far who refl
    ]
