-- A block that a live session holds is in no log but its own.
use Rattle.std.proofs.Common.{◌≡◌, ◌≢◌, inl, inr, ℕ, ◌<◌, ◌≤◌, Bool, true, false, eqb, List, [], Option, Some, None, IsSome, refl, sym, ◌∙◌, ap, subst, arith}
use Rattle.std.proofs.lemmas.Bool.Decides.{nat_tests}
use Rattle.bx_base.specs.declared.names.Mode.TheVariants.{Shared, Exclusive}
use Rattle.bx_disk.specs.Disks.{Image}
use Rattle.bx_facts.specs.Chains.{HasRow}
use Rattle.bx_facts.specs.Holds.{Hold, Holds}
use Rattle.bx_global.specs.Allowed.{IsAllowed}
use Rattle.bx_global.specs.declared.state.GlobalState.{GlobalState}
use Rattle.bx_node_machines.specs.Machines.{IsUnwritten}
use Rattle.bx_node_views.proofs.Knowing.{exclusive_is}
use Rattle.bx_records.specs.Drafts.{Block, block_in}
use Rattle.bx_rows.specs.Words.{is_taken, row_in}
use Rattle.bx_rows.specs.declared.session.SessionRow.{SessionRow}
use Rattle.bx_views.specs.Truths.{Truth}
use Rattle.bx_volume.specs.Overlay.{IsUnlogged, Logs}
use Rattle.bx_volume.specs.Records.{LogWhere, Logged, newest_in}
use Rattle.bx_world_chains.proofs.Rows.{has_of}
use Rattle.bx_world_logs.specs.Logs.{IsInLog, LogsStand, Slot, SlotStands, begins, idle}
use Rattle.bx_world_standing.specs.Rights.{HasBlock, RightsStand}
use Rattle.bx_world_views.specs.Views.{AreApart}
use Rattle.bx_world_volumes.proofs.Trees.{RowAt, row_at}

-- nothing is in a log without records where no record is under way
pub none_in : (logs : Logs) (slots : ℕ → Slot) (slot block : ℕ) → logs slot ≡ [] → (slots slot).activity ≡ idle → IsInLog logs slots slot block → ⊥
none_in logs slots slot block none still (inl some) = let e : newest_in (logs slot) block ≡ None = ap (λ (l : List Logged). newest_in l block) none in cc
none_in logs slots slot block none still (inr is) = let e : begins (slots slot).activity ≡ false = ap begins still in let b = is.0 in cc

module _ (Sure : ℕ → ℕ → List ℕ → Type 0) (devices areas : ℕ) (s : GlobalState) (allowed : IsAllowed s) (before : Image) (logs : Logs) (slots : ℕ → Slot) (truth : Truth)
    (stands : LogsStand Sure devices areas s.sessions before logs slots truth)
    (holding : Holds) (oldest : ℕ) (rights : RightsStand s.sessions holding oldest areas logs slots) (apart : AreApart holding (HasRow s))
    (session block : ℕ) (row : SessionRow) (hold : Hold) (is_row : row_in s.sessions session ≡ Some row) (holds : holding session block ≡ Some hold)
    (alone : (other : ℕ) → HasRow s other → oldest ≤ other) (own : IsInLog logs slots row.slot block → ⊥) where
  taken : (slot : ℕ) → slot < 8 → IsInLog logs slots slot block → is_taken s.sessions slot ≡ true
  taken slot low inside = by (is_taken s.sessions slot) refl (stands.is_truth.has_logs slot low) (stands.each slot low)
    where
      by : (t : Bool) → is_taken s.sessions slot ≡ t → LogWhere t before devices areas slot (logs slot) → SlotStands Sure devices areas before t logs slot (slots slot) → is_taken s.sessions slot ≡ true
      by true is log stood = is
      by false is log stood = absurd (none_in logs slots slot block log stood.still inside)

  pub in_no_log : (slot : ℕ) → slot < 8 → IsInLog logs slots slot block → ⊥
  in_no_log slot low inside = of_row (row_at s.sessions s.next_session slot allowed.rising (taken slot low inside))
    where
      some_row : (a b : SessionRow) (found : Option SessionRow) → found ≡ Some a → found ≡ Some b → a ≡ b
      some_row a b found is too = cc

      not_both : (found : RowAt s.sessions slot) → found.session ≢ session → HasBlock holding oldest found.session block → ⊥
      not_both found ne (inl exclusive) =
          let held = exclusive_is (holding found.session block) exclusive in
          let both = apart.each session found.session block hold (Exclusive, held.0) (has_of s session row is_row) (has_of s found.session found.row found.is) ne holds held.1 in
          let wrong : Exclusive ≡ Shared = both.1 in cc
      not_both found ne (inr older) = let least = alone found.session (has_of s found.session found.row found.is) in omega (arith, older, least)

      by : (found : RowAt s.sessions slot) → (t : Bool) → eqb found.session session ≡ t → ⊥
      by found true same =
          let e : found.session ≡ session = grind (arith, nat_tests, same) in
          let r : found.row ≡ row = some_row found.row row (row_in s.sessions session) (subst (λ (n : ℕ). row_in s.sessions n ≡ Some found.row) e found.is) is_row in
          let f : slot ≡ row.slot = sym found.at ∙ ap (λ (y : SessionRow). y.slot) r in
          own (subst (λ (n : ℕ). IsInLog logs slots n block) f inside)
      by found false differ =
          not_both found (λ e. grind (arith, nat_tests, differ, e)) (rights.each found.session found.row block found.is (subst (λ (n : ℕ). IsInLog logs slots n block) (sym found.at) inside)).1

      of_row : RowAt s.sessions slot → ⊥
      of_row found = by found (eqb found.session session) refl

  some_of : (found : Option Block) (one : Block) → found ≡ Some one → IsSome found
  some_of found one is = cc

  pub is_unlogged : IsUnlogged logs block
  is_unlogged slot low = by (newest_in (logs slot) block) refl
    where
      by : (found : Option Block) → newest_in (logs slot) block ≡ found → newest_in (logs slot) block ≡ None
      by None is = is
      by (Some one) is = absurd (in_no_log slot low (inl (some_of (newest_in (logs slot) block) one is)))

  pub is_unwritten : IsUnwritten slots block
  is_unwritten slot low on = by (block_in (slots slot).more.changed block) refl
    where
      by : (found : Option Block) → block_in (slots slot).more.changed block ≡ found → block_in (slots slot).more.changed block ≡ None
      by None is = is
      by (Some one) is = absurd (in_no_log slot low (inr (on, some_of (block_in (slots slot).more.changed block) one is)))
