-- The machines that are made.
use Rattle.std.proofs.Common.{◌≡◌, inl, inr, ℕ, ◌*◌, ◌<◌, ◌≤◌, List, [], length, Option, Some, None, sym, ◌∙◌, ap, subst, arith}
use Rattle.std.specs.Prelude.{slice_index_or}
use Rattle.std.proofs.lemmas.Bool.{cases_lt}
use Rattle.bx_facts.specs.Writes.{Made}
use Rattle.bx_global.specs.declared.state.GlobalState.{GlobalState}
use Rattle.bx_mirror_client.specs.Streams as streams
use Rattle.bx_mirror_client.specs.Streams.{Streaming}
use Rattle.bx_mirror_member.specs.Standing.{MemberView, new_member}
use Rattle.bx_devices.specs.Machines.{AreMade, IsOwn, IsShape, machines, no_stream}
use Rattle.bx_devices.proofs.Owning.{some_room}
use Rattle.bx_devices.specs.Needs.{beyond}

-- so many members are made, and so many streams
pub record AreMembers (made : Made) (count : ℕ) (members : List (Option MemberView)) : Type 0 where
  pub length_is : length members ≡ count
  pub each : (n : ℕ) → n < count → slice_index_or members n None ≡ Some (new_member n made)

pub record AreStreams (s : GlobalState) (count : ℕ) (all : List Streaming) : Type 0 where
  pub length_is : length all ≡ count
  pub each : (node : ℕ) → node < count → slice_index_or all node (no_stream node) ≡ streams.made node s

pub no_members : (made : Made) (members : List (Option MemberView)) → members ≡ [] → AreMembers made 0 members
no_members made members none = record { length_is = ap length none; each = λ n less. absurd (omega (arith, less)) }

pub no_streams : (s : GlobalState) (all : List Streaming) → all ≡ [] → AreStreams s 0 all
no_streams s all none = record { length_is = ap length none; each = λ node less. absurd (omega (arith, less)) }

module _ (volume nodes devices areas : ℕ) (s : GlobalState) (members : List (Option MemberView)) (all : List Streaming) where
  abbrev Made_ : Made
  Made_ = record { volume = volume; nodes = nodes; devices = devices; areas = areas }

  pub all_made : AreMembers Made_ (2 * devices) members → AreStreams s nodes all → AreMade Made_ s (machines volume nodes devices areas members all)
  all_made are_members are_streams = record { made_is = refl; members = are_members.each; streams = are_streams.each }
    where
      refl : Made_ ≡ Made_
      refl = cc

  pub new_shape : 1 ≤ devices → devices ≤ 4 → 1 ≤ areas → areas ≤ 64 → AreMembers Made_ (2 * devices) members → AreStreams s nodes all → IsShape (machines volume nodes devices areas members all)
  new_shape least_devices most_devices least_areas most_areas are_members are_streams = record {
    least_devices = least_devices;
    most_devices = most_devices;
    least_areas = least_areas;
    most_areas = most_areas;
    members = are_members.length_is;
    streams = are_streams.length_is;
    each = λ n m is. elim (cases_lt n (2 * devices)) [
      | inl there ↦ new_own n m (sym (are_members.each n there) ∙ is)
      | inr far ↦ absurd (nothing m (sym (beyond members n None (long far)) ∙ is))
    ];
  }
    where
      nothing : (m : MemberView) → None ≡ Some m → ⊥
      nothing m e = cc

      long : {n : ℕ} → 2 * devices ≤ n → length members ≤ n
      long far = let is = are_members.length_is in omega (arith, far, is)

      new_own : (n : ℕ) (m : MemberView) → Some (new_member n Made_) ≡ Some m → IsOwn Made_ n m
      new_own n m e = let same : new_member n Made_ ≡ m = cc in subst (λ (k : MemberView). IsOwn Made_ n k) same (record { number = refl_number; made_is = refl_made; place = let some = some_room Made_ in omega (arith, some); quiet = λ due. refl_owed })
        where
          refl_number : n ≡ n
          refl_number = cc

          refl_made : Made_ ≡ Made_
          refl_made = cc

          refl_owed : (new_member n Made_).owed ≡ []
          refl_owed = cc
