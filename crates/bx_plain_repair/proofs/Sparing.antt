-- Writes of the log in slot 0, and of homes, leave the other log slots and the disks of replicas alone.
use Rattle.std.proofs.Common.{◌≡◌, ◌⊎◌, ⊎_elim, inl, inr, refl, ℕ, ◌+◌, ◌/◌, ◌<◌, ◌≤◌, arith, List, [], ◌∷◌, Contains, length, sym, ◌∙◌, subst}
use Rattle.std.proofs.lemmas.Bool.Decides.{nat_tests}
use Rattle.bx_disk.specs.Disks.{Disks}
use Rattle.bx_facts.specs.Writes.{IsOnly, Sent, WritesIn}
use Rattle.bx_facts.proofs.Lists.{front_or_behind, nothing}
use Rattle.bx_logs.specs.Newest.{Newest}
use Rattle.bx_plain_repair.specs.HomesOf.{AreHomesBelow}
use Rattle.bx_plain_repair.specs.Spared.{SparesOthers}
use Rattle.bx_plain_repair.specs.Through.{one_write}
use Rattle.bx_members.specs.Members.{KeepsMembers}
use Rattle.bx_places.specs.Places.{block_place, log_start}
use Rattle.bx_plain_store.specs.Outs.{members_settled}
use Rattle.bx_records.specs.declared.runs.Run.{Run}

pub spares_same : (x y : Disks) → y ≡ x → SparesOthers x y
spares_same x y same = subst (λ (z : Disks). SparesOthers x z) (sym same) (record { slots = λ s sector content low high is. is; replicas = record { each = λ d sector low. record { reads = refl; sure = λ is. is } } })

pub spares_then : (x y z : Disks) → SparesOthers x y → SparesOthers y z → SparesOthers x z
spares_then x y z one two = record {
  slots = λ s sector content low high is. two.slots s sector content low high (one.slots s sector content low high is);
  replicas = record {
    each = λ d sector low. record {
      reads = (two.replicas.each d sector low).reads ∙ (one.replicas.each d sector low).reads;
      sure = λ is. (two.replicas.each d sector low).sure ((one.replicas.each d sector low).sure is);
    };
  };
}

-- a run lies in front of the other slots, or behind all
abbrev pub IsBeside : Run → Type 0
IsBeside run = (run.place + length run.bytes / 512 ≤ log_start 1) ⊎ (log_start 8 ≤ run.place)

pub written_spares : (x z : Disks) (runs : List Run) → KeepsMembers (one_write runs ∷ []) 0 x z → ((run : Run) → Contains runs run → IsBeside run) → SparesOthers x z
written_spares x z runs keeps beside = record {
  slots = λ s sector content low high is. members_settled (one_write runs ∷ []) 0 s x z 0 sector content keeps (only sector content low high) is;
  replicas = record { each = keeps.replicas };
}
  where
    none : (sector : ℕ) (other : List ℕ) → log_start 1 ≤ sector → sector < log_start 8 → WritesIn runs 0 sector other → ⊥
    none sector other low high (run, there, w) =
        let from = w.from in
        let below = w.below in
        ⊎_elim (λ front. absurd (omega (arith, front, low, below))) (λ behind. absurd (omega (arith, behind, high, from))) (beside run there)

    only : (sector : ℕ) (content : List ℕ) → log_start 1 ≤ sector → sector < log_start 8 → IsOnly (one_write runs ∷ []) 0 0 sector content
    only sector content low high = record {
      each = λ write other there w. ⊎_elim
          (λ (same : one_write runs ≡ write). absurd (none sector other low high (subst (λ (s : Sent). WritesIn s.runs 0 sector other) (sym same) w)))
          (λ gone. absurd (nothing write gone))
          (front_or_behind (one_write runs) [] write there);
    }

-- one run of slot 0
pub one_beside : (place : ℕ) (bytes : List ℕ) (runs : List Run) → runs ≡ record { device = 0; place = place; bytes = bytes } ∷ [] → place + length bytes / 512 ≤ log_start 1 → (run : Run) → Contains runs run → IsBeside run
one_beside place bytes runs are low run there = ⊎_elim
    (λ same. subst IsBeside same (inl low))
    (λ none. absurd (nothing run none))
    (front_or_behind (record { device = 0; place = place; bytes = bytes }) [] run (subst (λ (all : List Run). Contains all run) are there))

-- homes
pub homes_beside : (newest : Newest) (runs : List Run) → AreHomesBelow newest 961 runs → (run : Run) → Contains runs run → IsBeside run
homes_beside newest runs are run there = let h = are.each run there in inr (subst (λ (r : Run). log_start 8 ≤ r.place) (sym h.run_is) (behind h.at))
  where
    behind : (at : ℕ) → log_start 8 ≤ (block_place at 1).1
    behind at = grind (arith, nat_tests)
