-- What nodes are about stays where the state of the cluster changes: sessions die, are closed or opened. (Numbers below `next` were given out before.)
use Rattle.std.proofs.Common.{◌≡◌, ◌⊎◌, ⊎_elim, inl, inr, ◌∙◌, ℕ, ◌<◌, ◌≤◌, false, List, Option, Some, sym, ap, subst, arith}
use Rattle.bx_node_machines.specs.Machines.{AreAbout, IsAbout, IsFresh, MachineView, Scene, is_under}
use Rattle.bx_node_machines.proofs.Leaving.{Leaves, LeavesSlot, MayWork, about_stays, fresh_stays}
use Rattle.bx_rows.specs.Words.{row_in}
use Rattle.bx_rows.specs.declared.session.SessionRow.{SessionRow}

-- A live row had one that was live, in the same slot; and whose it may be, that was.
pub record IsOld (IsOf : ℕ → SessionRow → Type 0) (rows : List SessionRow) (its : ℕ) (row : SessionRow) : Type 0 where
  pub before : SessionRow
  pub is : row_in rows its ≡ Some before
  pub lives : before.dead ≡ 0
  pub slot : before.slot ≡ row.slot
  pub of : (node : ℕ) → IsOf node row → IsOf node before

module _ (devices areas : ℕ) (Touches : ℕ → ℕ → ℕ → Type 0) (Sure Sure_then : ℕ → ℕ → List ℕ → Type 0) (Reads Reads_then : ℕ → ℕ → List ℕ → Type 0) (IsOf : ℕ → SessionRow → Type 0) (old new : Scene) (next : ℕ)
    (about : AreAbout devices areas Sure Reads IsOf old)
    (machines : (node : ℕ) → new.machines node ≡ old.machines node)
    (own : (node : ℕ) → new.own node ≡ old.own node)
    (rows : (its : ℕ) (row : SessionRow) → row_in new.rows its ≡ Some row → row.dead ≡ 0 → IsOld IsOf old.rows its row ⊎ (next ≤ its))
    (marks : (node its : ℕ) (machine : MachineView) → old.machines node ≡ Some machine → machine.session ≡ Some its → its < next)
    (opened : (node its : ℕ) (row : SessionRow) → row_in new.rows its ≡ Some row → row.dead ≡ 0 → next ≤ its → IsFresh new node its row.slot)
    (slots : (its slot : ℕ) → LeavesSlot old new its slot)
    (leaves : (node its : ℕ) (row : SessionRow) → row_in old.rows its ≡ Some row → row.dead ≡ 0 → Leaves devices areas (Touches its) Sure Sure_then (Reads node) (Reads_then node) old new node its row.slot)
    (works : (node its : ℕ) (machine : MachineView) (row : SessionRow) → row_in old.rows its ≡ Some row → row.dead ≡ 0 → IsAbout devices areas Sure (Reads node) old node its row.slot machine → MayWork devices areas (Touches its) old row.slot machine) where
  was_there : (node : ℕ) (machine : MachineView) → new.machines node ≡ Some machine → old.machines node ≡ Some machine
  was_there node machine there = sym (machines node) ∙ there

  each_about : (node its : ℕ) (machine : MachineView) (row : SessionRow) → new.machines node ≡ Some machine → machine.session ≡ Some its → new.own node ≡ Some its → IsOld IsOf old.rows its row ⊎ (next ≤ its)
      → IsAbout devices areas Sure_then (Reads_then node) new node its row.slot machine
  each_about node its machine row there marked is (inr more) = absurd (let less = marks node its machine (was_there node machine there) marked in omega (arith, less, more))
  each_about node its machine row there marked is (inl was) =
      let before = about.each node its machine was.before (was_there node machine there) marked (sym (own node) ∙ is) was.is was.lives in
      subst (λ (slot : ℕ). IsAbout devices areas Sure_then (Reads_then node) new node its slot machine) was.slot
      (about_stays devices areas (Touches its) Sure Sure_then (Reads node) (Reads_then node) old new node its was.before.slot machine (leaves node its was.before was.is was.lives) (works node its machine was.before was.is was.lives before) before)

  its_fresh : (node its : ℕ) (row : SessionRow) → row_in new.rows its ≡ Some row → row.dead ≡ 0 → IsOf node row ⊎ (new.own node ≡ Some its) → ((other : ℕ) → new.own other ≡ Some its → other ≡ node)
      → is_under (new.machines node) (new.own node) its ≡ false → IsOld IsOf old.rows its row ⊎ (next ≤ its) → IsFresh new node its row.slot
  its_fresh node its row has lives of alone none (inr more) = opened node its row has lives more
  its_fresh node its row has lives of alone none (inl was) =
      let under = ap (λ (m : Option MachineView). is_under m (old.own node) its) (sym (machines node)) ∙ ap (λ (o : Option ℕ). is_under (new.machines node) o its) (sym (own node)) ∙ none in
      let fresh = about.fresh node its was.before (⊎_elim (λ one. inl (was.of node one)) (λ one. inr (sym (own node) ∙ one)) of) (λ other is. alone other (own other ∙ is)) was.is was.lives under in
      let left = leaves node its was.before was.is was.lives in
      subst (λ (slot : ℕ). IsFresh new node its slot) was.slot
      (fresh_stays old new node its was.before.slot (slots its was.before.slot) (λ is. let had = sym (own node) ∙ is in (left.none_out (fresh.unwritten had), left.none_asked (fresh.unasked had))) fresh)

  pub grows_on : AreAbout devices areas Sure_then Reads_then IsOf new
  grows_on = record {
    each = λ node its machine row there marked is has lives. each_about node its machine row there marked is (rows its row has lives);
    fresh = λ node its row of alone has lives none. its_fresh node its row has lives of alone none (rows its row has lives);
    marked = λ node its machine row of there marked has lives. its_mark node its machine row of there marked (rows its row has lives);
  }
    where
      its_mark : (node its : ℕ) (machine : MachineView) (row : SessionRow) → IsOf node row → new.machines node ≡ Some machine → machine.session ≡ Some its → IsOld IsOf old.rows its row ⊎ (next ≤ its) → new.own node ≡ Some its
      its_mark node its machine row of there marked (inr more) = absurd (let less = marks node its machine (was_there node machine there) marked in omega (arith, less, more))
      its_mark node its machine row of there marked (inl was) = own node ∙ about.marked node its machine was.before (was.of node of) (was_there node machine there) marked was.is was.lives
