-- The calls that touch no block are those that the engine answers at once.
use Rattle.std.proofs.Common.{◌≡◌, ◌⊎◌, inl, inr, ⊎_elim, ℕ, List, refl, sym, ◌∙◌, subst, arith}
use Rattle.bx_closings.specs.bx_engine.specs.Calls.{HasNoFile, IsAtOnceCall, IsOfMount}
use Rattle.bx_model.specs.declared.call.Args.TheVariants as args
use Rattle.bx_model.specs.declared.call.Args.{Args}
use Rattle.bx_model.specs.declared.call.Call.{Call}
use Rattle.bx_nfs.proofs.Asking.{asked}
use Rattle.bx_nfs.specs.Asked.{AsksPath, HasOwnArgs, IsAsked, IsNfs}
use Rattle.bx_closings.specs.bx_opens.specs.AtOnce.{IsAtOnce, IsRefused, TouchesNoBlock}

-- a procedure of NFS that takes arguments touches blocks
touches : (call : Call) (number : ℕ) → IsNfs number call → (number ≡ 0 → ⊥) → (number ≡ 3 → ⊥) → (number ≡ 7 → ⊥) → (IsRefused call → ⊥) → TouchesNoBlock call → ⊥
touches call number is null root cache unrefused (inl refused) = unrefused refused
touches call number is null root cache unrefused (inr (inl (inl one))) = null (sym is.procedure ∙ one.procedure)
touches call number is null root cache unrefused (inr (inl (inr (inl one)))) = root (sym is.procedure ∙ one.procedure)
touches call number is null root cache unrefused (inr (inl (inr (inr one)))) = cache (sym is.procedure ∙ one.procedure)
touches call number is null root cache unrefused (inr (inr mount)) = let a = is.program in omega (arith, a, mount)

of_mount : (call : Call) → AsksPath call → IsOfMount call
of_mount call (inl mnt) = record { program = mnt.program; procedure = inl mnt.procedure }
of_mount call (inr umnt) = record { program = umnt.program; procedure = inr umnt.procedure }

-- by its arguments
no_file : (call : Call) (of : Args) → call.args ≡ of → HasOwnArgs call of → TouchesNoBlock call → HasNoFile call of
no_file call (args.Refused number) same own free = tt
no_file call args.Nothing same own free = tt
no_file call (args.Path path) same own free = of_mount call own.0
no_file call (args.Handle at) same own free = absurd (⊎_elim (λ is. touches call 1 is (λ e. omega (arith, e)) (λ e. omega (arith, e)) (λ e. omega (arith, e)) (λ refused. let e = sym same ∙ refused.1 in cc) free) (λ more. ⊎_elim (λ is. touches call 5 is (λ e. omega (arith, e)) (λ e. omega (arith, e)) (λ e. omega (arith, e)) (λ refused. let e = sym same ∙ refused.1 in cc) free) (λ is. touches call 17 is (λ e. omega (arith, e)) (λ e. omega (arith, e)) (λ e. omega (arith, e)) (λ refused. let e = sym same ∙ refused.1 in cc) free) more) own.0)
no_file call (args.Set at sattr) same own free = absurd (touches call 2 own.0 (λ e. omega (arith, e)) (λ e. omega (arith, e)) (λ e. omega (arith, e)) (λ refused. let e = sym same ∙ refused.1 in cc) free)
no_file call (args.Name at name) same own free = absurd (⊎_elim (λ is. touches call 4 is (λ e. omega (arith, e)) (λ e. omega (arith, e)) (λ e. omega (arith, e)) (λ refused. let e = sym same ∙ refused.1 in cc) free) (λ more. ⊎_elim (λ is. touches call 10 is (λ e. omega (arith, e)) (λ e. omega (arith, e)) (λ e. omega (arith, e)) (λ refused. let e = sym same ∙ refused.1 in cc) free) (λ is. touches call 15 is (λ e. omega (arith, e)) (λ e. omega (arith, e)) (λ e. omega (arith, e)) (λ refused. let e = sym same ∙ refused.1 in cc) free) more) own.0)
no_file call (args.Read at offset count total) same own free = absurd (touches call 6 own.0 (λ e. omega (arith, e)) (λ e. omega (arith, e)) (λ e. omega (arith, e)) (λ refused. let e = sym same ∙ refused.1 in cc) free)
no_file call (args.Write at begin offset total written) same own free = absurd (touches call 8 own.0 (λ e. omega (arith, e)) (λ e. omega (arith, e)) (λ e. omega (arith, e)) (λ refused. let e = sym same ∙ refused.1 in cc) free)
no_file call (args.Rename from name to new_name) same own free = absurd (touches call 11 own.0 (λ e. omega (arith, e)) (λ e. omega (arith, e)) (λ e. omega (arith, e)) (λ refused. let e = sym same ∙ refused.1 in cc) free)
no_file call (args.Link from at name) same own free = absurd (touches call 12 own.0 (λ e. omega (arith, e)) (λ e. omega (arith, e)) (λ e. omega (arith, e)) (λ refused. let e = sym same ∙ refused.1 in cc) free)
no_file call (args.List at cookie count) same own free = absurd (touches call 16 own.0 (λ e. omega (arith, e)) (λ e. omega (arith, e)) (λ e. omega (arith, e)) (λ refused. let e = sym same ∙ refused.1 in cc) free)
no_file call (args.Make at name sattr) same own free = absurd (⊎_elim (λ is. touches call 9 is (λ e. omega (arith, e)) (λ e. omega (arith, e)) (λ e. omega (arith, e)) (λ refused. let e = sym same ∙ refused.1 in cc) free) (λ is. touches call 14 is (λ e. omega (arith, e)) (λ e. omega (arith, e)) (λ e. omega (arith, e)) (λ refused. let e = sym same ∙ refused.1 in cc) free) own.0)
no_file call (args.Symlink at name path sattr) same own free = absurd (touches call 13 own.0 (λ e. omega (arith, e)) (λ e. omega (arith, e)) (λ e. omega (arith, e)) (λ refused. let e = sym same ∙ refused.1 in cc) free)

pub at_once : (bytes : List ℕ) → IsAtOnce bytes → IsAtOnceCall bytes
at_once bytes is = record {
  xid = is.xid;
  call = is.call;
  reads = is.reads;
  at_once = no_file is.call is.call.args refl (asked bytes is.xid is.call is.reads) is.free;
}
