-- Writes that are out, by node.
use Rattle.std.proofs.Common.{◌≡◌, ◌≢◌, ◌⊎◌, inl, inr, ⊎_elim, ℕ, zero, suc, ◌+◌, ◌<◌, ◌≤◌, Bool, true, false, List, [], ◌∷◌, Contains, Option, Some, None, set, length, refl, sym, ◌∙◌, ap, subst, arith}
use Rattle.std.specs.Prelude.{◌==◌, slice_index_or}
use Rattle.std.proofs.lemmas.Bool.Decides.{nat_tests}
use Rattle.bx_disk.specs.Disks.{Disks}
use Rattle.bx_global.specs.declared.state.GlobalState.{GlobalState}
use Rattle.bx_facts.specs.Writes.{IsDone, IsOver, IsSettled, Sent, WritesTo}
use Rattle.bx_members.specs.Members.{KeepsMembers}
use Rattle.bx_plain_store.specs.declared.writes.Write.{Write}
use Rattle.bx_plain_store.specs.Out.{AreApart, IsAlone, IsFree, at, out_at, out_in, outs, sent_of}
use Rattle.bx_plain_store.specs.Outs.{in_outs, members_settled}

pub out_there : (slots : List (Option Write)) (node : ℕ) (write : Sent) → out_at slots node ≡ Some write → Contains (outs slots) write
out_there [] node write is = absurd cc
out_there (None ∷ slots) zero write is = absurd cc
out_there (None ∷ slots) (suc node) write is = out_there slots node write is
out_there (Some w ∷ slots) zero write is = (0, omega arith, (let h = is in cc))
out_there (Some w ∷ slots) (suc node) write is = let (k, less, there) = out_there slots node write is in (suc k, omega (arith, less), there)

-- A write that is out and not over has its sectors alone.
pub alone_of : (slots : List (Option Write)) (greatest node : ℕ) (w : Sent) → AreApart greatest slots → out_at slots node ≡ Some w → (IsOver greatest w → ⊥) → IsAlone (outs slots) greatest w
alone_of slots greatest node w apart out not_over = record {
  there = out_there slots node w out;
  not_over = not_over;
  only = λ device sector content brings. record {
    each = λ v also there too.
        let found = in_outs slots v there in
        by_node v device sector content also brings too found.0 found.1 (found.0 == node) refl;
  };
}
  where
    by_node : (v : Sent) (device sector : ℕ) (content also : List ℕ) → WritesTo w device sector content → WritesTo v device sector also → (other : ℕ) → out_at slots other ≡ Some v → (b : Bool) → (other == node) ≡ b → (also ≡ content) ⊎ IsOver greatest v
    by_node v device sector content also brings too other is true same =
        let e : other ≡ node = grind (arith, nat_tests, same) in
        let one : w ≡ v = (let h = sym out ∙ ap (out_at slots) (sym e) ∙ is in cc) in
        inl (apart.once node w device sector content also out brings (subst (λ (u : Sent). WritesTo u device sector also) (sym one) too))
    by_node v device sector content also brings too other is false different =
        ⊎_elim (λ over. absurd (not_over over)) inr (apart.nodes node other w v device sector content also (λ same. let t : (other == node) ≡ true = grind (arith, nat_tests, same) in absurd cc) out is brings too)

pub free_of : (slots : List (Option Write)) (greatest node : ℕ) (slot : Option Write) → AreApart greatest slots → slot ≡ at slots node → IsFree (outs slots) greatest slot
free_of slots greatest node slot apart is = record { alone = λ write here not_over. alone_of slots greatest node (sent_of write) apart (ap out_in (sym is ∙ here)) not_over }

-- what is done stays so
pub done_kept : (writes : List Sent) (greatest : ℕ) (s : GlobalState) (old new : Disks) (write : Sent) → KeepsMembers writes greatest old new → IsAlone writes greatest write
    → IsDone (λ device sector content index. IsSettled old s device sector content) 0 write → IsDone (λ device sector content index. IsSettled new s device sector content) 0 write
done_kept writes greatest s old new write keeps alone done = record {
  each = λ device sector content brings. members_settled writes greatest s old new device sector content keeps (alone.only device sector content brings) (done.each device sector content brings);
}

-- ---- one place set

pub at_here : {X : Type 0} → (xs : List (Option X)) (i : ℕ) (v : Option X) → i < length xs → at (set xs i v) i ≡ v
at_here [] i v less = absurd (omega (arith, less))
at_here (x ∷ xs) zero v less = refl
at_here (x ∷ xs) (suc i) v less = at_here xs i v (omega (arith, less))

pub at_beside : {X : Type 0} → (xs : List (Option X)) (i j : ℕ) (v : Option X) → j ≢ i → at (set xs i v) j ≡ at xs j
at_beside [] i j v other = refl
at_beside (x ∷ xs) zero zero v other = absurd (other refl)
at_beside (x ∷ xs) zero (suc j) v other = refl
at_beside (x ∷ xs) (suc i) zero v other = refl
at_beside (x ∷ xs) (suc i) (suc j) v other = at_beside xs i j v (λ same. other (ap suc same))

-- a slot that was got is the one at its place
pub at_got : {X : Type 0} → (xs : List (Option X)) (i : ℕ) (v : Option X) → i < length xs → v ≡ slice_index_or xs i v → v ≡ at xs i
at_got [] i v less is = absurd (omega (arith, less))
at_got (x ∷ xs) zero v less is = is
at_got (x ∷ xs) (suc i) v less is = at_got xs i v (omega (arith, less)) is

-- what holds of the place that is set, and of all others, holds of each
pub set_each : {X : Type 0} → (P : ℕ → Option X → Type 0) (xs : List (Option X)) (i : ℕ) (v : Option X) → i < length xs → P i v → ((node : ℕ) → node ≢ i → P node (at xs node)) → (node : ℕ) → P node (at (set xs i v) node)
set_each P xs i v less here beside node = by_node (node == i) refl
  where
    by_node : (b : Bool) → (node == i) ≡ b → P node (at (set xs i v) node)
    by_node true is =
        let same : i ≡ node = grind (arith, nat_tests, is) in
        subst (λ (n : ℕ). P n (at (set xs i v) n)) same (subst (P i) (sym (at_here xs i v less)) here)
    by_node false not_is =
        let other : node ≢ i = grind (arith, nat_tests, not_is) in
        subst (P node) (sym (at_beside xs i node v other)) (beside node other)

-- a place up to one is that one, or below it
pub by_place : {P : Type 0} → (node i : ℕ) → node < i + 1 → (node ≡ i → P) → (node < i → P) → P
by_place {P} node i low same below = by_test (node == i) refl
  where
    by_test : (b : Bool) → (node == i) ≡ b → P
    by_test true is = same (grind (arith, nat_tests, is))
    by_test false not_is = below (grind (arith, nat_tests, not_is, low))

-- one slot after the other is served
module _ (old now : List (Option Write)) (i : ℕ) (slot new : Option Write) (less : i < length now) (is : slot ≡ at now i) (rest : (j : ℕ) → i ≤ j → at now j ≡ at old j) where
  pub was : slot ≡ at old i
  was = is ∙ rest i (omega arith)

  pub new_rest : (j : ℕ) → i + 1 ≤ j → at (set now i new) j ≡ at old j
  new_rest j more = at_beside now i j new (λ same. omega (arith, same, more)) ∙ rest j (omega (arith, more))

  pub new_out : (out_in new ≡ None) ⊎ (out_in new ≡ out_in slot) → ((node : ℕ) → (out_at now node ≡ None) ⊎ (out_at now node ≡ out_at old node))
      → (node : ℕ) → (out_at (set now i new) node ≡ None) ⊎ (out_at (set now i new) node ≡ out_at old node)
  new_out here before node = by_node (node == i) refl
    where
      by_node : (b : Bool) → (node == i) ≡ b → (out_at (set now i new) node ≡ None) ⊎ (out_at (set now i new) node ≡ out_at old node)
      by_node true same =
          let e : node ≡ i = grind (arith, nat_tests, same) in
          let there : out_at (set now i new) node ≡ out_in new = ap (out_at (set now i new)) e ∙ ap out_in (at_here now i new less) in
          let old_there : out_in slot ≡ out_at old node = ap out_in was ∙ ap (out_at old) (sym e) in
          ⊎_elim (λ none. inl (there ∙ none)) (λ stays. inr (there ∙ stays ∙ old_there)) here
      by_node false other =
          let there : out_at (set now i new) node ≡ out_at now node = ap out_in (at_beside now i node new (λ same. let t : (node == i) ≡ true = grind (arith, nat_tests, same) in absurd cc)) in
          ⊎_elim (λ none. inl (there ∙ none)) (λ stays. inr (there ∙ stays)) (before node)

  pub new_fact : (P : Sent → Type 0) → ((sent : Sent) → out_in slot ≡ Some sent → out_in new ≡ None → P sent)
      → ((node : ℕ) (sent : Sent) → out_at old node ≡ Some sent → out_at now node ≡ None → P sent)
      → (node : ℕ) (sent : Sent) → out_at old node ≡ Some sent → out_at (set now i new) node ≡ None → P sent
  new_fact P here before node sent out none = by_node (node == i) refl
    where
      by_node : (b : Bool) → (node == i) ≡ b → P sent
      by_node true same =
          let e : node ≡ i = grind (arith, nat_tests, same) in
          let there : out_at (set now i new) node ≡ out_in new = ap (out_at (set now i new)) e ∙ ap out_in (at_here now i new less) in
          let old_there : out_in slot ≡ out_at old node = ap out_in was ∙ ap (out_at old) (sym e) in
          here sent (old_there ∙ out) (sym there ∙ none)
      by_node false other =
          let there : out_at (set now i new) node ≡ out_at now node = ap out_in (at_beside now i node new (λ same. let t : (node == i) ≡ true = grind (arith, nat_tests, same) in absurd cc)) in
          before node sent out (sym there ∙ none)
