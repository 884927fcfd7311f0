-- A call that a datagram is has the arguments of its procedure.
use Rattle.std.proofs.Common.{◌≡◌, ℕ, ◌+◌, ◌≤◌, Bool, true, false, List, refl, sym, subst, inl, inr, arith}
use Rattle.std.specs.Prelude.{◌==◌, if◌then◌else◌}
use Rattle.std.proofs.lemmas.Bool.{cases_eq, eqb-false, eqb-true}
use Rattle.bx_rpc.specs.Checks.{Verdict, Checks, IsProgram, last_procedure}
use Rattle.bx_rpc.specs.Checks.Verdict.{refused, passed}
use Rattle.bx_rpc.proofs.Passing.{passes}
use Rattle.bx_rpc.proofs.Refusing.{refusal_numbers}
use Rattle.bx_model.specs.declared.call.Args.{Args}
use Rattle.bx_model.specs.declared.call.Call.{Call}
use Rattle.bx_nfs.specs.Asked.{AsksFile, AsksName, AsksNew, AsksNothing, AsksPath, HasOwnArgs, IsAsked, IsMount, IsNfs}
use Rattle.bx_nfs.specs.declared.forms.Form.{Form}
use Rattle.bx_nfs.specs.declared.forms.Form.TheVariants as forms
use Rattle.bx_nfs.specs.Forms.{Arguments, form_of, mount_form, nfs_form}
use Rattle.bx_nfs.specs.Wire.{IsOf, ReadsAs, passed_call}

-- what a call asks whose arguments have a form
abbrev AsksBy : Form → Call → Type 0
AsksBy forms.Nothing call = AsksNothing call
AsksBy forms.Handle call = AsksFile call
AsksBy forms.Set call = IsNfs 2 call
AsksBy forms.Name call = AsksName call
AsksBy forms.Read call = IsNfs 6 call
AsksBy forms.Write call = IsNfs 8 call
AsksBy forms.Make call = AsksNew call
AsksBy forms.Rename call = IsNfs 11 call
AsksBy forms.Link call = IsNfs 12 call
AsksBy forms.Symlink call = IsNfs 13 call
AsksBy forms.List call = IsNfs 16 call
AsksBy forms.Path call = AsksPath call

-- ---- the form by the procedure

if_is : (q n : ℕ) (P : Form → Type 0) (x y : Form) → (q ≡ n → P x) → ((q ≡ n → ⊥) → P y) → P (if q == n then x else y)
if_is q n P x y this other = by (q == n) refl
  where
    by : (b : Bool) → (q == n) ≡ b → P (if b then x else y)
    by true is = this (eqb-true q n is)
    by false is = other (eqb-false q n is)

above : (q k : ℕ) → k ≤ q → (q ≡ k → ⊥) → k + 1 ≤ q
above q k least other = omega (arith, least, other)

module _ (call : Call) where
  abbrev q : ℕ
  q = call.procedure

  abbrev P : Form → Type 0
  P form = AsksBy form call

  nfs_by : call.program ≡ 100003 → q ≤ 17 → P (nfs_form q)
  nfs_by program most =
      if_is q 1 P _ _ (λ e. inl (nfs 1 e)) (λ n1.
      if_is q 2 P _ _ (λ e. nfs 2 e) (λ n2.
      if_is q 4 P _ _ (λ e. inl (nfs 4 e)) (λ n4.
      if_is q 5 P _ _ (λ e. inr (inl (nfs 5 e))) (λ n5.
      if_is q 6 P _ _ (λ e. nfs 6 e) (λ n6.
      if_is q 8 P _ _ (λ e. nfs 8 e) (λ n8.
      if_is q 9 P _ _ (λ e. inl (nfs 9 e)) (λ n9.
      if_is q 10 P _ _ (λ e. inr (inl (nfs 10 e))) (λ n10.
      if_is q 11 P _ _ (λ e. nfs 11 e) (λ n11.
      if_is q 12 P _ _ (λ e. nfs 12 e) (λ n12.
      if_is q 13 P _ _ (λ e. nfs 13 e) (λ n13.
      if_is q 14 P _ _ (λ e. inr (nfs 14 e)) (λ n14.
      if_is q 15 P _ _ (λ e. inr (inr (nfs 15 e))) (λ n15.
      if_is q 16 P _ _ (λ e. nfs 16 e) (λ n16.
      if_is q 17 P _ _ (λ e. inr (inr (nfs 17 e))) (λ n17.
      nothing n1 n2 n4 n5 n6 n8 n9 n10 n11 n12 n13 n14 n15 n16 n17)))))))))))))))
    where
      nfs : (n : ℕ) → q ≡ n → IsNfs n call
      nfs n e = record { program = program; procedure = e }

      nothing : (q ≡ 1 → ⊥) → (q ≡ 2 → ⊥) → (q ≡ 4 → ⊥) → (q ≡ 5 → ⊥) → (q ≡ 6 → ⊥) → (q ≡ 8 → ⊥) → (q ≡ 9 → ⊥) → (q ≡ 10 → ⊥) → (q ≡ 11 → ⊥) → (q ≡ 12 → ⊥) → (q ≡ 13 → ⊥) → (q ≡ 14 → ⊥) → (q ≡ 15 → ⊥) → (q ≡ 16 → ⊥) → (q ≡ 17 → ⊥) → AsksNothing call
      nothing n1 n2 n4 n5 n6 n8 n9 n10 n11 n12 n13 n14 n15 n16 n17 =
          elim (cases_eq q 0) [
            | inl e ↦ inl (inl (nfs 0 e))
            | inr n0 ↦ elim (cases_eq q 3) [
              | inl e ↦ inl (inr (inl (nfs 3 e)))
              | inr n3 ↦ elim (cases_eq q 7) [
                | inl e ↦ inl (inr (inr (nfs 7 e)))
                | inr n7 ↦ (
                    let l1 = above q 0 (omega arith) n0 in
                    let l2 = above q 1 l1 n1 in
                    let l3 = above q 2 l2 n2 in
                    let l4 = above q 3 l3 n3 in
                    let l5 = above q 4 l4 n4 in
                    let l6 = above q 5 l5 n5 in
                    let l7 = above q 6 l6 n6 in
                    let l8 = above q 7 l7 n7 in
                    let l9 = above q 8 l8 n8 in
                    let l10 = above q 9 l9 n9 in
                    let l11 = above q 10 l10 n10 in
                    let l12 = above q 11 l11 n11 in
                    let l13 = above q 12 l12 n12 in
                    let l14 = above q 13 l13 n13 in
                    let l15 = above q 14 l14 n14 in
                    let l16 = above q 15 l15 n15 in
                    let l17 = above q 16 l16 n16 in
                    let l18 = above q 17 l17 n17 in
                    absurd (omega (arith, l18, most)))
              ]
            ]
          ]

  mount_by : call.program ≡ 100005 → q ≤ 5 → P (mount_form q)
  mount_by program most = if_is q 1 P _ _ (λ e. inl (mounts 1 e)) (λ n1. if_is q 3 P _ _ (λ e. inr (mounts 3 e)) (λ n3. nothing n1 n3))
    where
      mounts : (n : ℕ) → q ≡ n → IsMount n call
      mounts n e = record { program = program; procedure = e }

      nothing : (q ≡ 1 → ⊥) → (q ≡ 3 → ⊥) → AsksNothing call
      nothing n1 n3 =
          elim (cases_eq q 0) [
            | inl e ↦ inr (inl (mounts 0 e))
            | inr n0 ↦ elim (cases_eq q 2) [
              | inl e ↦ inr (inr (inl (mounts 2 e)))
              | inr n2 ↦ elim (cases_eq q 4) [
                | inl e ↦ inr (inr (inr (inl (mounts 4 e))))
                | inr n4 ↦ inr (inr (inr (inr (mounts 5 (
                    let l1 = above q 0 (omega arith) n0 in
                    let l2 = above q 1 l1 n1 in
                    let l3 = above q 2 l2 n2 in
                    let l4 = above q 3 l3 n3 in
                    let l5 = above q 4 l4 n4 in
                    omega (arith, l5, most))))))
              ]
            ]
          ]

  form_by : IsProgram call.program → q ≤ last_procedure call.program → P (form_of call.program q)
  form_by (inl nfs) most = subst (λ (p : ℕ). P (form_of p q)) (sym nfs) (nfs_by nfs (subst (λ (p : ℕ). q ≤ last_procedure p) nfs most))
  form_by (inr mount) most = subst (λ (p : ℕ). P (form_of p q)) (sym mount) (mount_by mount (subst (λ (p : ℕ). q ≤ last_procedure p) mount most))

  -- ---- the arguments by the form

  args_by : (form : Form) (args : Args) (bytes : List ℕ) → P form → Arguments form args bytes → HasOwnArgs call args
  args_by forms.Nothing args bytes asks is = subst (HasOwnArgs call) (sym is.0) asks
  args_by forms.Handle args bytes asks is = subst (HasOwnArgs call) (sym is.1) (asks, is.2.len)
  args_by forms.Set args bytes asks is = subst (HasOwnArgs call) (sym is.1) (asks, is.2.first.len)
  args_by forms.Name args bytes asks is = subst (HasOwnArgs call) (sym is.1) (asks, is.2.first.len, is.2.second.short)
  args_by forms.Read args bytes asks is = subst (HasOwnArgs call) (sym is.1) (asks, is.2.first.len)
  args_by forms.Write args bytes asks is = subst (HasOwnArgs call) (sym is.1) (asks, is.2.first.len, is.2.second.second.short)
  args_by forms.Make args bytes asks is = subst (HasOwnArgs call) (sym is.1) (asks, is.2.first.first.len, is.2.first.second.short)
  args_by forms.Rename args bytes asks is =
      subst (HasOwnArgs call) (sym is.1) (asks, (is.2.first.first.len, is.2.first.second.short), (is.2.second.first.len, is.2.second.second.short))
  args_by forms.Link args bytes asks is = subst (HasOwnArgs call) (sym is.1) (asks, is.2.first.len, is.2.second.first.len, is.2.second.second.short)
  args_by forms.Symlink args bytes asks is =
      subst (HasOwnArgs call) (sym is.1) (asks, is.2.first.first.len, is.2.first.second.short, is.2.second.first.short)
  args_by forms.List args bytes asks is = subst (HasOwnArgs call) (sym is.1) (asks, is.2.first.len)
  args_by forms.Path args bytes asks is = subst (HasOwnArgs call) (sym is.1) (asks, is.2.short)

-- ---- the call

asked_by : (text : List ℕ) (verdict : Verdict) (call : Call) → Checks verdict text → IsOf verdict call → IsAsked call
asked_by text (refused n by) call checked says = subst IsAsked (sym says) (refusal_numbers text n by checked, refl)
asked_by text (passed p q caller tail) call checked (inl x) = subst IsAsked (sym x.1) (record { positive = omega arith; small = omega arith; program = inl refl }, refl)
asked_by text (passed p q caller tail) call checked (inr x) =
    let served = passes p q caller tail text checked in
    let whole = passed_call p q caller x.0 in
    subst IsAsked (sym x.3) (args_by whole (form_of p q) x.0 x.2.spelling (form_by whole served.0 served.1) x.2.spells)

pub asked : (bytes : List ℕ) (xid : ℕ) (call : Call) → ReadsAs bytes xid call → IsAsked call
asked bytes xid call reads = asked_by reads.text reads.verdict call reads.checked reads.says
