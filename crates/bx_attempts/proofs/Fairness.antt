-- A change that isn't made needs what is on the path, and what is written is held.
use Rattle.std.proofs.Common.{◌≡◌, ℕ, true, List, [], ◌∷◌, Contains, None, sym, subst, inl, inr, arith}
use Rattle.std.specs.Prelude.{◌⊎◌, Err}
use Rattle.std.proofs.lemmas.List.Elements.{Contains-push_cases}
use Rattle.bx_attempts.specs.Replies.{IsChanged, IsRefused, IsStopped}
use Rattle.bx_base.specs.declared.names.Mode.{Mode}
use Rattle.bx_changes.specs.Growing.{HoldsFirst, NeedsBy}
use Rattle.bx_changes.specs.declared.error.ChangeError.{ChangeError}
use Rattle.bx_changes.specs.declared.error.ChangeError.TheVariants.{Stopped, Full}
use Rattle.bx_inodes.specs.declared.stop.Stop.{Stop}
use Rattle.bx_inodes.specs.declared.stop.Stop.TheVariants as stops
use Rattle.bx_inodes.specs.Stops.{NeedsOn, NeverInner}
use Rattle.bx_model.specs.declared.reply.Reply.{Reply}
use Rattle.bx_places.specs.Places.{is_block}
use Rattle.bx_records.specs.Drafts.{Changed}
use Rattle.bx_creating.specs.bx_sizes.specs.Answers.{HoldsInner}
use Rattle.bx_views.specs.declared.attempt.Attempt.{Attempt}
use Rattle.bx_views.specs.Attempts.{IsFair, IsFairNeed, IsHeldDraft}
use Rattle.bx_views.specs.Truths.{Held}

-- ---- a need of one block

module _ (areas : ℕ) (held : Held) (Path : ℕ → Mode → Type 0) (at : ℕ) (mode : Mode) where
  abbrev Lacks : ℕ → Mode → Type 0
  Lacks block asked = (is_block areas block ≡ true) × (held block asked ≡ None) × Path block asked

  each_lacks : Lacks at mode → (block : ℕ) (asked : Mode) → Contains {X = ℕ × Mode} ((at, mode) ∷ []) (block, asked) → Lacks block asked
  each_lacks lacks block asked there = by (Contains-push_cases {X = ℕ × Mode} [] (at, mode) (block, asked) there)
    where
      by : Contains {X = ℕ × Mode} [] (block, asked) ⊎ (◌≡◌ {A = ℕ × Mode} (at, mode) (block, asked)) → Lacks block asked
      by (inl never) = absurd (omega (arith, never.1))
      by (inr same) = subst (λ (pair : ℕ × Mode). Lacks pair.0 pair.1) same lacks

  one_needed : Lacks at mode → IsFairNeed areas held Path ((at, mode) ∷ [])
  one_needed lacks = record { some = λ none. cc; each = each_lacks lacks }

-- ---- what an attempt answers

module _ (xid areas : ℕ) (held : Held) (Path : ℕ → Mode → Type 0) (attempt : Attempt) where
  pub changed_fair : (draft : List Changed) (reply : Reply) (made : ℕ) → IsHeldDraft held draft → IsChanged xid draft reply made attempt → IsFair areas held Path attempt
  changed_fair [] reply made hold is = subst (IsFair areas held Path) (sym is) tt
  changed_fair (block ∷ blocks) reply made hold is = subst (IsFair areas held Path) (sym is) hold

  pub refused_fair : (error : ChangeError) → NeedsBy areas held Path error → HoldsFirst held error → IsRefused xid error attempt → IsFair areas held Path attempt
  refused_fair (Stopped (stops.Need at mode)) needs first is = subst (IsFair areas held Path) (sym is) (one_needed areas held Path at mode needs)
  refused_fair (Stopped (stops.Inner draft)) needs first is = subst (IsFair areas held Path) (sym is) first
  refused_fair (Stopped (stops.Status status)) needs first is = subst (IsFair areas held Path) (sym is) tt
  refused_fair (Stopped stops.OutOfMemory) needs first is = absurd is
  refused_fair (Full spare) needs first is = subst (IsFair areas held Path) (sym is) tt

  pub inner_fair : (T : Type 0) (stop : Stop) → NeedsOn areas held Path {T = T} (Err stop) → HoldsInner {T = T} held (Err stop) → IsStopped xid stop attempt → IsFair areas held Path attempt
  inner_fair T (stops.Need at mode) needs first is = subst (IsFair areas held Path) (sym is) (one_needed areas held Path at mode needs)
  inner_fair T (stops.Inner draft) needs first is = subst (IsFair areas held Path) (sym is) first
  inner_fair T (stops.Status status) needs first is = subst (IsFair areas held Path) (sym is) tt
  inner_fair T stops.OutOfMemory needs first is = absurd is

  pub stops_fair : (T : Type 0) (stop : Stop) → NeedsOn areas held Path {T = T} (Err stop) → NeverInner {T = T} (Err stop) → IsStopped xid stop attempt → IsFair areas held Path attempt
  stops_fair T (stops.Need at mode) needs never is = subst (IsFair areas held Path) (sym is) (one_needed areas held Path at mode needs)
  stops_fair T (stops.Inner blocks) needs never is = absurd never
  stops_fair T (stops.Status status) needs never is = subst (IsFair areas held Path) (sym is) tt
  stops_fair T stops.OutOfMemory needs never is = absurd is
