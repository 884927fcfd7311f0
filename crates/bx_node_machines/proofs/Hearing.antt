-- What nodes are about stays through an event that leaves the nodes and their logs alone, though nodes may lose their sessions by it, or come to know of others.
use Rattle.std.proofs.Common.{◌≡◌, ◌≢◌, ◌⊎◌, ⊎_elim, inl, inr, ◌∙◌, ℕ, Bool, true, false, List, eqb, Option, Some, None, refl, sym, ap, arith}
use Rattle.std.specs.Prelude.{◌==◌, ◌&&◌}
use Rattle.std.proofs.lemmas.Bool.Decides.{nat_tests}
use Rattle.bx_node_machines.specs.Machines.{AreAbout, IsAbout, IsFresh, MachineView, Scene, is_one, is_under}
use Rattle.bx_node_machines.proofs.Leaving.{Leaves, LeavesSlot, MayWork, about_stays, fresh_stays}
use Rattle.bx_rows.specs.Words.{row_in}
use Rattle.bx_rows.specs.declared.session.SessionRow.{SessionRow}

-- a node that has what it has under a session has that as its own
pub under_own : (machine : Option MachineView) (own : Option ℕ) (its : ℕ) → is_under machine own its ≡ true → own ≡ Some its
under_own None own its is = absurd cc
under_own (Some machine) None its is = absurd (by (is_one machine.session (Some its)) is)
  where
    by : (b : Bool) → (b && false) ≡ true → ⊥
    by true wrong = cc
    by false wrong = cc
under_own (Some machine) (Some a) its is = by (is_one machine.session (Some its)) (a == its) refl is
  where
    by : (b t : Bool) → (a == its) ≡ t → (b && t) ≡ true → Some a ≡ Some its
    by true true same both = let e : a ≡ its = grind (arith, nat_tests, same) in ap (λ (n : ℕ). Some n) e
    by true false same both = absurd cc
    by false t same both = absurd cc

pub own_or_not : (own : Option ℕ) (its : ℕ) → (own ≡ Some its) ⊎ (own ≢ Some its)
own_or_not None its = inr (λ e. cc)
own_or_not (Some a) its = by (eqb a its) refl
  where
    by : (b : Bool) → eqb a its ≡ b → (Some a ≡ Some its) ⊎ (Some a ≢ Some its)
    by true same = let e : a ≡ its = grind (arith, nat_tests, same) in inl (ap (λ (n : ℕ). Some n) e)
    by false differ = inr (λ e. let f : a ≡ its = cc in grind (arith, nat_tests, differ, f))

module _ (devices areas : ℕ) (Touches : ℕ → ℕ → ℕ → Type 0) (Sure Sure_then : ℕ → ℕ → List ℕ → Type 0) (Reads Reads_then : ℕ → ℕ → List ℕ → Type 0) (IsOf IsOf_then : ℕ → SessionRow → Type 0) (old new : Scene)
    (about : AreAbout devices areas Sure Reads IsOf old)
    (rows : new.rows ≡ old.rows)
    (machines : (node : ℕ) → new.machines node ≡ old.machines node)
    (fewer : (node its : ℕ) (row : SessionRow) → row_in old.rows its ≡ Some row → row.dead ≡ 0 → IsOf_then node row → IsOf node row)
    (one_node : (node other : ℕ) (row : SessionRow) → IsOf node row → IsOf other row → other ≡ node)
    (was_of : (node its : ℕ) (row : SessionRow) → row_in old.rows its ≡ Some row → row.dead ≡ 0 → old.own node ≡ Some its → IsOf node row)
    (is_of : (node its : ℕ) (row : SessionRow) → row_in old.rows its ≡ Some row → row.dead ≡ 0 → new.own node ≡ Some its → IsOf_then node row)
    (kept : (node its : ℕ) (row : SessionRow) → row_in old.rows its ≡ Some row → row.dead ≡ 0 → IsOf_then node row → old.own node ≡ Some its → new.own node ≡ Some its)
    (quiet : (node its : ℕ) → new.own node ≡ Some its → old.own node ≢ Some its → (new.out node ≡ None) × (new.asked node ≡ None))
    (slots : (its : ℕ) (row : SessionRow) → row_in old.rows its ≡ Some row → row.dead ≡ 0 → LeavesSlot old new its row.slot)
    (leaves : (node its : ℕ) (row : SessionRow) → old.own node ≡ Some its → new.own node ≡ Some its → row_in old.rows its ≡ Some row → row.dead ≡ 0 → Leaves devices areas (Touches its) Sure Sure_then (Reads node) (Reads_then node) old new node its row.slot)
    (works : (node its : ℕ) (machine : MachineView) (row : SessionRow) → row_in old.rows its ≡ Some row → row.dead ≡ 0 → IsAbout devices areas Sure (Reads node) old node its row.slot machine → MayWork devices areas (Touches its) old row.slot machine) where
  each_about : (node its : ℕ) (machine : MachineView) (row : SessionRow) → new.machines node ≡ Some machine → machine.session ≡ Some its → new.own node ≡ Some its → row_in old.rows its ≡ Some row → row.dead ≡ 0
      → IsAbout devices areas Sure_then (Reads_then node) new node its row.slot machine
  each_about node its machine row there marked own has lives =
      let was_there = sym (machines node) ∙ there in
      let had = about.marked node its machine row (fewer node its row has lives (is_of node its row has lives own)) was_there marked has lives in
      let before = about.each node its machine row was_there marked had has lives in
      about_stays devices areas (Touches its) Sure Sure_then (Reads node) (Reads_then node) old new node its row.slot machine (leaves node its row had own has lives) (works node its machine row has lives before) before

  -- a session that isn't the node's, or that it has nothing under, it had nothing under
  was_apart : (node its : ℕ) (row : SessionRow) → row_in old.rows its ≡ Some row → row.dead ≡ 0 → IsOf_then node row → is_under (new.machines node) (new.own node) its ≡ false → is_under (old.machines node) (old.own node) its ≡ false
  was_apart node its row has lives of none = by (is_under (old.machines node) (old.own node) its) refl
    where
      by : (b : Bool) → is_under (old.machines node) (old.own node) its ≡ b → b ≡ false
      by false is = refl
      by true is =
          let had = under_own (old.machines node) (old.own node) its is in
          let e : new.own node ≡ old.own node = kept node its row has lives of had ∙ sym had in
          sym is ∙ ap (λ (m : Option MachineView). is_under m (old.own node) its) (sym (machines node)) ∙ ap (λ (o : Option ℕ). is_under (new.machines node) o its) (sym e) ∙ none

  its_fresh : (node its : ℕ) (row : SessionRow) → IsOf_then node row → row_in old.rows its ≡ Some row → row.dead ≡ 0 → is_under (new.machines node) (new.own node) its ≡ false → IsFresh new node its row.slot
  its_fresh node its row of has lives none =
      let fresh = about.fresh node its row (inl (fewer node its row has lives of)) (λ other is. one_node node other row (fewer node its row has lives of) (was_of other its row has lives is)) has lives (was_apart node its row has lives of none) in
      fresh_stays old new node its row.slot (slots its row has lives)
      (λ is. ⊎_elim
      (λ had. let left = leaves node its row had is has lives in (left.none_out (fresh.unwritten had), left.none_asked (fresh.unasked had)))
      (λ apart. quiet node its is apart)
      (own_or_not (old.own node) its)) fresh

  -- What each is about, it is about then.
  pub hears : AreAbout devices areas Sure_then Reads_then IsOf_then new
  hears = record {
    each = λ node its machine row there marked own has lives. each_about node its machine row there marked own (sym (ap (λ (l : List SessionRow). row_in l its) rows) ∙ has) lives;
    fresh = λ node its row of alone has lives none.
        let had = sym (ap (λ (l : List SessionRow). row_in l its) rows) ∙ has in
        its_fresh node its row (⊎_elim (λ is. is) (λ own. is_of node its row had lives own) of) had lives none;
    marked = λ node its machine row of there marked has lives.
        let had = sym (ap (λ (l : List SessionRow). row_in l its) rows) ∙ has in
        kept node its row had lives of (about.marked node its machine row (fewer node its row had lives of) (sym (machines node) ∙ there) marked had lives);
  }
