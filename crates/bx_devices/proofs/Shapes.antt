-- The machines keep their shape as one of them changes, and members that are up have room.
use Rattle.std.proofs.Common.{◌≡◌, inl, inr, ℕ, ◌+◌, ◌*◌, ◌<◌, ◌≤◌, List, length, Option, Some, None, sym, ◌∙◌, ap, subst, arith}
use Rattle.std.specs.Prelude.{slice_index, slice_index_or, slice_set}
use Rattle.std.proofs.lemmas.Bool.{cases_eq, cases_lt}
use Rattle.std.proofs.lemmas.List.{get_or-set_other, get_or-set_same, length-set}
use Rattle.bx_facts.specs.Disks.{HasRoom}
use Rattle.bx_facts.specs.Writes.{Made, store_room}
use Rattle.bx_mirror_client.specs.Streams.{Streaming}
use Rattle.bx_mirror_member.specs.Standing.{MemberView, disk_in, room_in}
use Rattle.bx_devices.specs.Machines.{DeviceMachines, IsOwn, IsShape, machines, need_in, needs_of, slot_of}
use Rattle.bx_devices.specs.Needs.{beyond, needs_here, slot_in}

module _ (volume nodes devices areas : ℕ) (streams : List Streaming) where
  abbrev Made_ : Made
  Made_ = record { volume = volume; nodes = nodes; devices = devices; areas = areas }

  slot_own : (members : List (Option MemberView)) (n : ℕ) (one : Option MemberView) → ((k : ℕ) (m : MemberView) → slice_index_or members k None ≡ Some m → IsOwn Made_ k m) → ((m : MemberView) → one ≡ Some m → IsOwn Made_ n m)
      → (k : ℕ) (m : MemberView) → slice_index_or (slice_set members n one) k None ≡ Some m → IsOwn Made_ k m
  slot_own members n one each own k m is = elim (cases_eq k n) [
    | inl here ↦ elim (cases_lt n (length members)) [
      | inl there ↦ subst (λ (j : ℕ). IsOwn Made_ j m) (sym here) (own m (sym (get_or-set_same members n one None there) ∙ subst (λ (j : ℕ). slice_index_or (slice_set members n one) j None ≡ Some m) here is))
      | inr far ↦ absurd (nothing (sym (beyond (slice_set members n one) k None (past here far)) ∙ is))
    ]
    | inr apart ↦ each k m (sym (get_or-set_other members n k one None (λ e. apart e)) ∙ is)
  ]
    where
      nothing : None ≡ Some m → ⊥
      nothing e = cc

      past : k ≡ n → length members ≤ n → length (slice_set members n one) ≤ k
      past here far = let same = length-set members n one in omega (arith, here, far, same)

  pub shape_with : (members : List (Option MemberView)) (n : ℕ) (one : Option MemberView) → IsShape (machines volume nodes devices areas members streams) → ((m : MemberView) → one ≡ Some m → IsOwn Made_ n m)
      → IsShape (machines volume nodes devices areas (slice_set members n one) streams)
  shape_with members n one shape own = record {
    least_devices = shape.least_devices;
    most_devices = shape.most_devices;
    least_areas = shape.least_areas;
    most_areas = shape.most_areas;
    members = length-set members n one ∙ shape.members;
    streams = shape.streams;
    each = slot_own members n one shape.each own;
  }

  -- where one isn't up any more
  pub none_own : (n : ℕ) (one : Option MemberView) → one ≡ None → (m : MemberView) → one ≡ Some m → IsOwn Made_ n m
  none_own n one none m is = absurd (nothing (sym none ∙ is))
    where
      nothing : None ≡ Some m → ⊥
      nothing e = cc

  pub some_own : (n : ℕ) (member : MemberView) → IsOwn Made_ n member → (m : MemberView) → Some member ≡ Some m → IsOwn Made_ n m
  some_own n member own m is = let same : member ≡ m = cc in subst (λ (k : MemberView). IsOwn Made_ n k) same own

-- ---- room

pub room_of : (o : DeviceMachines) (n : ℕ) (m : MemberView) (sizes : List ℕ) → IsShape o → HasRoom (needs_of o) sizes → slot_of o n ≡ Some m → room_in m ≤ slice_index sizes (disk_in m)
room_of o n m sizes shape room is =
    let own = shape.each n m is in
    let needs : needs_of o (3 + n) ≡ store_room o.made = needs_here o n ∙ slot_in o n within ∙ ap (λ (slot : Option MemberView). need_in (store_room o.made) slot) is in
    let here : store_room o.made ≤ slice_index sizes (3 + n) = subst (λ (k : ℕ). k ≤ slice_index sizes (3 + n)) needs (room.each (3 + n)) in
    subst (λ (made : Made). store_room made ≤ slice_index sizes (3 + m.number)) (sym own.made_is) (subst (λ (k : ℕ). store_room o.made ≤ slice_index sizes (3 + k)) (sym own.number) here)
  where
    nobody : None ≡ Some m → ⊥
    nobody e = cc

    within : n < 2 * o.made.devices
    within = elim (cases_lt n (2 * o.made.devices)) [
      | inl less ↦ less
      | inr far ↦ absurd (nobody (sym (beyond o.members n None (let long = shape.members in omega (arith, far, long))) ∙ is))
    ]
