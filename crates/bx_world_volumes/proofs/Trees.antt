-- A truth with some of the records in doubt stands for the tree after what those do, in the order of their slots.
use Rattle.std.proofs.Common.{◌≡◌, inl, inr, ℕ, zero, suc, ◌<◌, ◌≤◌, Bool, true, false, eqb, List, [], ◌∷◌, Option, Some, None, refl, sym, ◌∙◌, ap, subst, arith}
use Rattle.std.specs.Prelude.{IsSomeAnd, ◌==◌}
use Rattle.std.proofs.lemmas.Bool.Decides.{nat_tests}
use Rattle.bx_disk.specs.Disks.{Image}
use Rattle.bx_facts.specs.Chains.{HasRow, LivesIn, last}
use Rattle.bx_facts.specs.Holds.{Holds}
use Rattle.bx_global.specs.Allowed.{AreRising, IsAllowed}
use Rattle.bx_global.specs.declared.state.GlobalState.{GlobalState}
use Rattle.bx_records.specs.Drafts.{Changed}
use Rattle.bx_rows.specs.Words.{is_taken, row_in}
use Rattle.bx_rows.specs.declared.session.SessionRow.{SessionRow}
use Rattle.bx_truth.proofs.Cases.{eq_true}
use Rattle.bx_views.specs.Attempts.{Deed}
use Rattle.bx_views.specs.Truths.{Held, Hints, Truth, no_hints, with_draft}
use Rattle.bx_volume.specs.Overlay.{Logs}
use Rattle.bx_volume.specs.Records.{Logged}
use Rattle.bx_world_chains.proofs.Rows.{all_row, number_is}
use Rattle.bx_world_standing.specs.bx_world_logs.specs.Logs.{LogsStand, Slot, SlotStands, begins, opens}
use Rattle.bx_world_standing.specs.bx_world_logs.proofs.Activities.{opens_begins}
use Rattle.bx_world_standing.specs.bx_world_logs.specs.Shown.{ShowsSlot, ShowsTo}
use Rattle.bx_world_views.specs.Views.{Unacknowledged, StepOf, VolumeStands}
use Rattle.bx_world_views.proofs.Doubts.{without_doubt, without_only}
use Rattle.bx_world_views.proofs.Steps.{acked}
use Rattle.bx_world_standing.specs.Doubts.{DoubtsStand, IsRecordOf}

-- the row of a slot that is taken
pub record RowAt (rows : List SessionRow) (slot : ℕ) : Type 0 where
  pub session : ℕ
  pub row : SessionRow
  pub is : row_in rows session ≡ Some row
  pub at : row.slot ≡ slot

pub row_at : (rows : List SessionRow) (next slot : ℕ) → AreRising rows next → is_taken rows slot ≡ true → RowAt rows slot
row_at [] next slot rising taken = absurd cc
row_at (first ∷ rows) next slot rising taken = by (first.slot == slot) refl (λ left. row_at rows next slot rising.2 left)
  where
    apart : (found : RowAt rows slot) → (t : Bool) → eqb first.number found.session ≡ t → RowAt (first ∷ rows) slot
    apart found true same =
        let more = all_row (λ later. first.number < later.number) rows found.session found.row rising.1 found.is in
        let is = number_is rows found.session found.row found.is in
        let e : first.number ≡ found.session = grind (arith, nat_tests, same) in absurd (omega (arith, e, more, is))
    apart found false other = record { session = found.session; row = found.row; is = rw other found.is; at = found.at }

    by : (t : Bool) → (first.slot == slot) ≡ t → (is_taken rows slot ≡ true → RowAt rows slot) → RowAt (first ∷ rows) slot
    by true e rest = record { session = first.number; row = first; is = rw (eq_true first.number first.number refl) refl; at = grind (arith, nat_tests, e) }
    by false e rest = let found = rest (rw e at taken) in apart found (eqb first.number found.session) refl

some_doubt : (found : Option Unacknowledged) (P : Unacknowledged → Type 0) → IsSomeAnd found P → (doubt : Unacknowledged) × (found ≡ Some doubt) × P doubt
some_doubt None P is = absurd is
some_doubt (Some doubt) P is = (doubt, refl, is)

abbrev pub nobody : ℕ → Option ℕ
nobody node = None

abbrev pub nothing : ℕ → Held
nothing node at mode = None

abbrev pub unhinted : ℕ → Hints
unhinted node = no_hints

module _ {T : Type 0} (Stands : Truth → Hints → T → Type 0) (Step : T → Deed → T → Type 0) (Sure : ℕ → ℕ → List ℕ → Type 0) (devices areas : ℕ) (s : GlobalState) (allowed : IsAllowed s)
    (before : Image) (logs : Logs) (slots : ℕ → Slot) (truth : Truth) (st : LogsStand Sure devices areas s.sessions before logs slots truth)
    (holding : Holds) (doubts : ℕ → Option Unacknowledged) (doubted : DoubtsStand s.sessions slots doubts)
    (After : T → Type 0) (goes : (session : ℕ) (row : SessionRow) (doubt : Unacknowledged) (old new : T) → row_in s.sessions session ≡ Some row → opens (slots row.slot).activity ≡ true → doubts session ≡ Some doubt → After old → StepOf Stands Step doubt.act old new → After new) where
  -- what stands of the volume, with no node
  abbrev pub Alone : (ℕ → Option Unacknowledged) → Truth → T → Type 0
  Alone left other tree = VolumeStands Stands Step holding (HasRow s) (LivesIn s) nobody nothing unhinted left other tree

  -- so far: a tree that comes after, and the doubts of slots from here on are left
  pub record SoFar (n : ℕ) (other : Truth) : Type 0 where
    pub tree : T
    pub after : After tree
    pub left : ℕ → Option Unacknowledged
    pub same : (session : ℕ) (row : SessionRow) → row_in s.sessions session ≡ Some row → n ≤ row.slot → left session ≡ doubts session
    pub stands : Alone left other tree

  -- a slot whose gate is being opened is taken
  is_open : (slot : ℕ) → slot < 8 → opens (slots slot).activity ≡ true → is_taken s.sessions slot ≡ true
  is_open slot less being = by (is_taken s.sessions slot) refl (st.each slot less)
    where
      by : (t : Bool) → is_taken s.sessions slot ≡ t → SlotStands Sure devices areas before t logs slot (slots slot) → is_taken s.sessions slot ≡ true
      by true is stands = is
      by false is stands = let e : opens (slots slot).activity ≡ false = ap opens stands.still in absurd cc

  one_more : (n : ℕ) → n < 8 → (run : List Logged) (old new : Truth) → ShowsSlot logs slots n run old new → SoFar n old → SoFar (suc n) new
  one_more n less run old new (inl is) far = subst (λ (t : Truth). SoFar (suc n) t) (sym is.1)
      (record { tree = far.tree; after = far.after; left = far.left; same = λ session row found above. far.same session row found (omega (arith, above)); stands = far.stands })
  one_more n less run old new (inr (inr is)) far = subst (λ (t : Truth). SoFar (suc n) t) (sym is.2)
      (record { tree = far.tree; after = far.after; left = far.left; same = λ session row found above. far.same session row found (omega (arith, above)); stands = far.stands })
  one_more n less run old new (inr (inl is)) far = subst (λ (t : Truth). SoFar (suc n) t) (sym is.2) (subst (λ (changed : List Changed). SoFar (suc n) (with_draft old changed)) (sym draft) next)
    where
      its : RowAt s.sessions n
      its = row_at s.sessions s.next_session n allowed.rising (is_open n less is.0)

      mine : (doubt : Unacknowledged) × (doubts its.session ≡ Some doubt) × IsRecordOf (slots its.row.slot).more doubt
      mine = some_doubt (doubts its.session) (IsRecordOf (slots its.row.slot).more)
          (doubted.each its.session its.row its.is (subst (λ (k : ℕ). begins (slots k).activity ≡ true) (sym its.at) (opens_begins (slots n).activity is.0)))

      draft : (slots n).more.changed ≡ mine.0.draft
      draft = subst (λ (k : ℕ). (slots k).more.changed ≡ mine.0.draft) its.at mine.2.draft

      here : far.left its.session ≡ Some mine.0
      here = far.same its.session its.row its.is (let e = its.at in omega (arith, e)) ∙ mine.1

      done : (t : T) × StepOf Stands Step mine.0.act far.tree t × Alone (without_doubt far.left its.session) (with_draft old mine.0.draft) t
      done = acked Stands Step holding (HasRow s) (LivesIn s) nobody nothing nothing unhinted far.left (without_doubt far.left its.session) old far.tree its.session mine.0 far.stands here
          (without_only far.left its.session) (λ node other none lives differ. refl) (λ node none lives. absurd cc)

      kept : (session : ℕ) (row : SessionRow) → row_in s.sessions session ≡ Some row → suc n ≤ row.slot → without_doubt far.left its.session session ≡ doubts session
      kept session row found above = (without_only far.left its.session).others session (λ same. let e = twice same in let f = its.at in omega (arith, above, e, f)) ∙ far.same session row found (omega (arith, above))
        where
          twice : session ≡ its.session → row.slot ≡ its.row.slot
          twice same = let a : row_in s.sessions its.session ≡ Some row = subst (λ (k : ℕ). row_in s.sessions k ≡ Some row) same found in let b = its.is in let e : row ≡ its.row = cc in ap (λ (r : SessionRow). r.slot) e

      next : SoFar (suc n) (with_draft old mine.0.draft)
      next = record { tree = done.0; after = goes its.session its.row mine.0 far.tree done.0 its.is (subst (λ (k : ℕ). opens (slots k).activity ≡ true) (sym its.at) is.0) mine.1 far.after done.1; left = without_doubt far.left its.session; same = kept; stands = done.2 }

  up_to : (n : ℕ) → n ≤ 8 → (shown : Logs) (last : Truth) → ShowsTo logs slots n shown truth last → SoFar 0 truth → SoFar n last
  up_to zero most shown last shows start = subst (λ (t : Truth). SoFar 0 t) (sym shows) start
  up_to (suc n) most shown last (next, rest, one) start = one_more n (omega (arith, most)) (shown n) next last one (up_to n (omega (arith, most)) shown next rest start)

  -- An image's truth stands for a tree that comes after this one.
  pub trees_after : (own : ℕ → Option ℕ) (held : ℕ → Held) (hints : ℕ → Hints) (tree : T) → VolumeStands Stands Step holding (HasRow s) (LivesIn s) own held hints doubts truth tree → After tree
      → (shown : Logs) (last : Truth) → ShowsTo logs slots 8 shown truth last → (after : T) × After after × Stands last no_hints after
  trees_after own held hints tree volume after shown last shows = (far.tree, far.after, far.stands.is)
    where
      far : SoFar 8 last
      far = up_to 8 (omega arith) shown last shows (record {
        tree = tree;
        after = after;
        left = doubts;
        same = λ session row is above. refl;
        stands = record {
          is = volume.is;
          apart = volume.apart;
          rows = volume.rows;
          single = λ node other session none more lives. absurd cc;
          views = λ node session none lives. absurd cc;
          hinted = λ node. volume.is;
          in_doubt = volume.in_doubt;
        };
      })
