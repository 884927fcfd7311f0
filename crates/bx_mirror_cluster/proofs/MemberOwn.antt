-- A member with its disk, before and after a step of it, as the laws of devices speak of it.
use Rattle.std.proofs.Common.{◌≡◌, ◌≢◌, ◌⊎◌, inl, inr, ℕ, ◌+◌, ◌*◌, ◌/◌, ◌%◌, ◌<◌, Bool, true, false, List, [], Some, None, refl, sym, ◌∙◌, ap, subst, arith}
use Rattle.std.specs.Prelude.{◌==◌, not, slice_get, if◌then◌else◌}
use Rattle.std.proofs.lemmas.Bool.Decides.{nat_tests}
use Rattle.bx_base.specs.declared.names.Actor.{Actor}
use Rattle.bx_base.specs.declared.names.Actor.TheVariants.{Member}
use Rattle.bx_disk.specs.Disks.{Disks, Stays}
use Rattle.bx_facts.specs.Chains.{IsPlace}
use Rattle.bx_facts.specs.Disks.{SameMemberLengths}
use Rattle.bx_facts.specs.Writes.{StorePast, member_disk}
use Rattle.bx_global.specs.declared.change.Change.{Change}
use Rattle.bx_global.specs.declared.state.GlobalState.{GlobalState}
use Rattle.bx_post.specs.declared.packets.Letter.{Letter}
use Rattle.bx_rows.specs.declared.device.DeviceRow.{DeviceRow}
use Rattle.bx_mirror_laws.specs.Sides.{Copied}
use Rattle.bx_mirror_tables.specs.Lasts.{last_in}
use Rattle.bx_mirror_member.specs.Standing.{MemberView as Serving, device_in, disk_in, is_second}
use Rattle.bx_mirror_client.specs.Sends.{member_at}
use Rattle.bx_mirror_server.specs.Sides.{copied_in, side_of as side_by, wrote_in}
use Rattle.bx_mirror_cluster.specs.Fitting.{HasLabel, Keeps, NeedsLabel, Parts, handings, last_row, side_of}
use Rattle.bx_mirror_cluster.specs.MemberSteps.{served, with_member}
use Rattle.bx_mirror_cluster.proofs.Labels.{label_kept, lengths_at}
use Rattle.bx_mirror_cluster.proofs.MemberSteps.{other_member}

same_or : (n m : ℕ) → (n ≡ m) ⊎ (n ≢ m)
same_or n m = grind arith

pub two : (b c : Bool) → (c ≡ b) ⊎ (c ≡ not b)
two false false = inl refl
two false true = inr refl
two true false = inr refl
two true true = inl refl

-- ---- which member a number is

second_at : (d : ℕ) (b : Bool) → (member_at d b % 2 == 1) ≡ b
second_at d false = let e : (2 * d) % 2 ≡ 0 = omega arith in grind (arith, nat_tests, e)
second_at d true = let e : (2 * d + 1) % 2 ≡ 1 = omega arith in grind (arith, nat_tests, e)

half_at : (d : ℕ) (b : Bool) → member_at d b / 2 ≡ d
half_at d false = omega arith
half_at d true = omega arith

disk_at : (d : ℕ) (b : Bool) → 3 + member_at d b ≡ member_disk d b
disk_at d false = omega arith
disk_at d true = omega arith

pub own_second : (m : Serving) (d : ℕ) (b : Bool) → m.number ≡ member_at d b → is_second m ≡ b
own_second m d b number = ap (λ (k : ℕ). k % 2 == 1) number ∙ second_at d b

pub own_device : (m : Serving) (d : ℕ) (b : Bool) → m.number ≡ member_at d b → device_in m ≡ d
own_device m d b number = ap (λ (k : ℕ). k / 2) number ∙ half_at d b

pub own_disk : (m : Serving) (d : ℕ) (b : Bool) → m.number ≡ member_at d b → disk_in m ≡ member_disk d b
own_disk m d b number = ap (λ (k : ℕ). 3 + k) number ∙ disk_at d b

pub inside_at : (d devices : ℕ) (b : Bool) → d < devices → member_at d b < 2 * devices
inside_at d devices false within = omega (arith, within)
inside_at d devices true within = omega (arith, within)

pub other_disk : (d : ℕ) (b : Bool) → member_disk d (not b) ≢ member_disk d b
other_disk d false e = omega (arith, e)
other_disk d true e = omega (arith, e)

-- ---- the member before and after

-- What a step leaves of its own device's sides: the member is what its part says, and the other one is as it was.
pub record IsOwnStep (parts : Parts) (x y : Disks) (past : StorePast) (d : ℕ) (b : Bool) (m : Serving) (letters : List Letter) (handed : List Change) (knew : Actor → ℕ) : Type 0 where
  pub now : side_of past.told x parts.members d b ≡ side_by true (parts.members (member_at d b)) x
  pub next : side_of (served past letters handed knew).told y (with_member parts.members (member_at d b) m) d b ≡ side_by true m y
  pub other : side_of (served past letters handed knew).told y (with_member parts.members (member_at d b) m) d (not b) ≡ side_of past.told x parts.members d (not b)

module _ (parts : Parts) (x y : Disks) (past : StorePast) (keeps : Keeps parts x past) (d : ℕ) (b : Bool) (within : d < parts.made.devices) (up : past.told.down (Member (member_at d b)) ≡ false)
    (m : Serving) (letters : List Letter) (handed : List Change) (knew : Actor → ℕ) (number : (parts.members (member_at d b)).number ≡ member_at d b) (number_next : m.number ≡ member_at d b)
    (boot_next : m.boot ≡ (parts.members (member_at d b)).boot) (disks : (k s : ℕ) → k ≢ member_disk d b → Stays x y k s) where
  abbrev n : ℕ
  n = member_at d b

  abbrev was : Serving
  was = parts.members n

  abbrev members_next : ℕ → Serving
  members_next = with_member parts.members n m

  boot_is : was.boot ≡ past.told.boots (Member n)
  boot_is = keeps.member_boots n (inside_at d parts.made.devices b within) up

  here : members_next n ≡ m
  here = let same : (n == n) ≡ true = grind (arith, nat_tests) in ap (λ (t : Bool). if t then m else parts.members n) same

  others : (k : ℕ) → k ≢ n → members_next k ≡ parts.members k
  others k e = let other : (k == n) ≡ false = grind (arith, nat_tests, e) in ap (λ (t : Bool). if t then m else parts.members k) other

  second_was : b ≡ is_second was
  second_was = sym (own_second was d b number)

  second_now : b ≡ is_second m
  second_now = sym (own_second m d b number_next)

  disk_was : member_disk d b ≡ disk_in was
  disk_was = sym (own_disk was d b number)

  disk_now : member_disk d b ≡ disk_in m
  disk_now = sym (own_disk m d b number_next)

  boot_was : past.told.boots (Member n) ≡ was.boot
  boot_was = sym boot_is

  boot_now : past.told.boots (Member n) ≡ m.boot
  boot_now = sym boot_is ∙ sym boot_next

  other_is : members_next (member_at d (not b)) ≡ parts.members (member_at d (not b))
  other_is = others (member_at d (not b)) (other_member d b)

  stay : (s : ℕ) → Stays x y (member_disk d (not b)) s
  stay s = disks (member_disk d (not b)) s (other_disk d b)

  pub own_step : IsOwnStep parts x y past d b m letters handed knew
  own_step = record {
    now = λ i. record {
      up = not (up i);
      boot = boot_was i;
      row = was.row;
      lasts = last_in was.lasts;
      wrote = wrote_in (second_was i) was.owed;
      copied = copied_in (second_was i) was.owed;
      place = was.place;
      reads = x.reads (disk_was i);
      unsure = x.unsure (disk_was i);
    };
    next = λ i. record {
      up = not (up i);
      boot = boot_now i;
      row = (here i).row;
      lasts = last_in (here i).lasts;
      wrote = wrote_in (second_now i) (here i).owed;
      copied = copied_in (second_now i) (here i).owed;
      place = (here i).place;
      reads = y.reads (disk_now i);
      unsure = y.unsure (disk_now i);
    };
    other = λ i. record {
      up = not (past.told.down (Member (member_at d (not b))));
      boot = past.told.boots (Member (member_at d (not b)));
      row = (other_is i).row;
      lasts = last_in (other_is i).lasts;
      wrote = wrote_in (not b) (other_is i).owed;
      copied = copied_in (not b) (other_is i).owed;
      place = (other_is i).place;
      reads = λ s. (stay s).reads i;
      unsure = λ s. (stay s).unsure i;
    };
  }

  -- a member of its device that is down knows nothing and owes nothing
  pub own_down : (c : Bool) → past.told.down (Member (member_at d c)) ≡ true → ((members_next (member_at d c)).row ≡ None) × ((members_next (member_at d c)).owed ≡ [])
  own_down c is = elim (same_or (member_at d c) n) [
    | inl e ↦ absurd (let no_one : true ≡ false = sym is ∙ ap (λ (k : ℕ). past.told.down (Member k)) e ∙ up in cc)
    | inr e ↦ (let o = others (member_at d c) e in let old = (keeps.devices d within).down c is in (ap (λ (q : Serving). q.row) o ∙ old.0, ap (λ (q : Serving). q.owed) o ∙ old.1))
  ]

  -- what a member knows stands in the state that it was handed last
  pub own_known : ((who : Actor) → who ≢ Member n → knew who ≡ past.told.knew who) → ((r : DeviceRow) → m.row ≡ Some r → (s : GlobalState) × IsPlace past.told.chain s × (s.index ≡ knew (Member n)) × (slice_get s.devices d ≡ Some r))
      → (c : Bool) (r : DeviceRow) → (members_next (member_at d c)).row ≡ Some r → (s : GlobalState) × IsPlace past.told.chain s × (s.index ≡ knew (Member (member_at d c))) × (slice_get s.devices d ≡ Some r)
  own_known knew_other its c r is = elim (same_or (member_at d c) n) [
    | inl e ↦ (let old = its r (sym (ap (λ (q : Serving). q.row) (ap members_next e ∙ here)) ∙ is) in (old.0, old.1, old.2 ∙ ap (λ (k : ℕ). knew (Member k)) (sym e), old.3))
    | inr e ↦ (let old = (keeps.devices d within).known c r (sym (ap (λ (q : Serving). q.row) (others (member_at d c) e)) ∙ is) in
        (old.0, old.1, old.2 ∙ sym (knew_other (Member (member_at d c)) (λ q. e (let same : member_at d c ≡ n = cc in same))), old.3))
  ]

  -- labels stay, where the label's sector does
  pub own_labels : (copieds : List Copied) → SameMemberLengths x y → y.reads (member_disk d b) 0 ≡ x.reads (member_disk d b) 0 → (x.unsure (member_disk d b) 0 ≡ false → y.unsure (member_disk d b) 0 ≡ false)
      → ((c : Bool) → NeedsLabel (last_row past.told.chain d) (handings d handed) copieds (past.told.down (Member (member_at d c))) c → NeedsLabel (last_row past.told.chain d) (handings d past.told.handed) (keeps.history.copieds d) (past.told.down (Member (member_at d c))) c)
      → (c : Bool) → NeedsLabel (last_row past.told.chain d) (handings d handed) copieds (past.told.down (Member (member_at d c))) c → HasLabel parts.made y (member_disk d c)
  own_labels copieds lengths reads sure before c needs = elim (two b c) [
    | inl e ↦ subst (λ (k : Bool). HasLabel parts.made x (member_disk d k) → HasLabel parts.made y (member_disk d k)) (sym e) (label_kept parts.made x y (member_disk d b) reads sure (lengths_at x y lengths d b)) label
    | inr e ↦ subst (λ (k : Bool). HasLabel parts.made x (member_disk d k) → HasLabel parts.made y (member_disk d k)) (sym e)
        (let k = stay 0 in label_kept parts.made x y (member_disk d (not b)) k.reads (λ its. k.unsure ∙ its) (lengths_at x y lengths d (not b))) label
  ]
    where
      label : HasLabel parts.made x (member_disk d c)
      label = (keeps.devices d within).labels c (before c needs)
