-- A number of blocks other than 8 is told only where no slot is left.
use Rattle.std.proofs.Common.{ℕ, List, [], ◌∷◌, refl, sym, subst}
use Rattle.std.specs.Prelude.{◌≢◌}
use Rattle.bx_attempts.specs.Replies.{IsChanged, IsRefused, IsStopped}
use Rattle.bx_changes.specs.Growing.{IfFull}
use Rattle.bx_changes.specs.declared.error.ChangeError.{ChangeError}
use Rattle.bx_changes.specs.declared.error.ChangeError.TheVariants.{Stopped, Full}
use Rattle.bx_inodes.specs.declared.stop.Stop.{Stop}
use Rattle.bx_inodes.specs.declared.stop.Stop.TheVariants as stops
use Rattle.bx_model.specs.declared.reply.Reply.{Reply}
use Rattle.bx_records.specs.Drafts.{Changed}
use Rattle.bx_views.specs.Attempts.{IfActed}
use Rattle.bx_views.specs.declared.attempt.Attempt.{Attempt}

module _ (xid : ℕ) (Holds : ℕ → Type 0) (attempt : Attempt) where
  abbrev Tells : Attempt → Type 0
  Tells = IfActed (λ done. done.spare ≢ 8 → Holds done.spare)

  pub changed_full : (draft : List Changed) (reply : Reply) (made : ℕ) → IsChanged xid draft reply made attempt → IfActed (λ done. done.spare ≢ 8 → Holds done.spare) attempt
  changed_full [] reply made is = subst Tells (sym is) (λ other. absurd (other refl))
  changed_full (block ∷ blocks) reply made is = subst Tells (sym is) (λ other. absurd (other refl))

  pub stopped_full : (stop : Stop) → IsStopped xid stop attempt → IfActed (λ done. done.spare ≢ 8 → Holds done.spare) attempt
  stopped_full (stops.Need at mode) is = subst Tells (sym is) tt
  stopped_full (stops.Inner draft) is = subst Tells (sym is) tt
  stopped_full (stops.Status status) is = subst Tells (sym is) (λ other. absurd (other refl))
  stopped_full stops.OutOfMemory is = absurd is

  pub refused_full : (error : ChangeError) → IfFull Holds error → IsRefused xid error attempt → IfActed (λ done. done.spare ≢ 8 → Holds done.spare) attempt
  refused_full (Stopped stop) full is = stopped_full stop is
  refused_full (Full spare) full is = subst Tells (sym is) (λ other. full)
