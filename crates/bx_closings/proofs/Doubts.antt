-- The calls in doubt by slot are those of records that may be open.
use Rattle.std.proofs.Common.{◌≡◌, ℕ, Bool, true, false, List, Option, Some, None, refl, sym, ◌∙◌, ap, subst}
use Rattle.std.specs.Prelude.{if◌then◌else◌}
use Rattle.bx_base.specs.declared.names.Point.{Point}
use Rattle.bx_closings.proofs.Rows.{found_is}
use Rattle.bx_closings.specs.Doubts.{doubt_at, doubt_by, doubt_in, doubt_of, doubts_by, point_by, row_at}
use Rattle.bx_cluster.specs.Closing.{Doubt, IsDoubted}
use Rattle.bx_global.specs.Allowed.{AreRising}
use Rattle.bx_history.specs.Account.{LacksPoint}
use Rattle.bx_history.specs.Parts.{Part, trace_of}
use Rattle.bx_history.specs.Placed.{HasReadingSince}
use Rattle.bx_history.specs.Trace.{Taking, taking_of}
use Rattle.bx_rows.specs.Words.{row_in}
use Rattle.bx_rows.specs.declared.session.SessionRow.{SessionRow}
use Rattle.bx_script.specs.declared.trace_line.TraceLine.{TraceLine}
use Rattle.bx_views.specs.Attempts.{Deed}
use Rattle.bx_world.specs.Doubts.{AreOfTaken, IsOfTaken, MayBeOpen}
use Rattle.bx_world_logs.specs.Logs.{Slot, opens}
use Rattle.bx_world_views.specs.Views as views
use Rattle.bx_world_views.specs.Views.{Act, OfCall, OfTidy}

-- ---- there is one, where a record is open

module _ (trace : List TraceLine) (rows : List SessionRow) (slots : ℕ → Slot) (doubts : ℕ → Option views.Unacknowledged) where
  pub there_is : (slot : ℕ) (row : SessionRow) (doubt : views.Unacknowledged) (deed : Deed) (taking : Taking) → opens (slots slot).activity ≡ true → row_at rows slot ≡ Some row → doubts row.number ≡ Some doubt → doubt.act ≡ OfCall deed
      → taking_of trace doubt.call ≡ Some taking → doubts_by trace rows slots doubts slot ≡ Some (record { call = taking; point = point_by doubt.call deed })
  there_is slot row doubt deed taking opened found has act taken =
      ap (λ (t : Bool). if t then doubt_in trace doubts (row_at rows slot) else None) opened
      ∙ ap (doubt_in trace doubts) found
      ∙ ap (doubt_of trace) has
      ∙ ap (doubt_by trace doubt.call) act
      ∙ ap (doubt_at (point_by doubt.call deed)) taken

-- ---- what one is

-- It is of the session whose slot it is.
record IsOfSlot (trace : List TraceLine) (rows : List SessionRow) (slots : ℕ → Slot) (doubts : ℕ → Option views.Unacknowledged) (slot : ℕ) (one : Doubt) : Type 0 where
  row : SessionRow
  found : row_at rows slot ≡ Some row
  opened : opens (slots slot).activity ≡ true
  doubt : views.Unacknowledged
  has : doubts row.number ≡ Some doubt
  deed : Deed
  act : doubt.act ≡ OfCall deed
  taken : taking_of trace doubt.call ≡ Some one.call
  point : one.point ≡ point_by doubt.call deed

module _ (trace : List TraceLine) (rows : List SessionRow) (slots : ℕ → Slot) (doubts : ℕ → Option views.Unacknowledged) (slot : ℕ) (one : Doubt) where
  of_slot : doubts_by trace rows slots doubts slot ≡ Some one → IsOfSlot trace rows slots doubts slot one
  of_slot = by (opens (slots slot).activity) refl
    where
      of_taking : (row : SessionRow) (doubt : views.Unacknowledged) (deed : Deed) (found : Option Taking) → row_at rows slot ≡ Some row → opens (slots slot).activity ≡ true → doubts row.number ≡ Some doubt → doubt.act ≡ OfCall deed
          → taking_of trace doubt.call ≡ found → doubt_at (point_by doubt.call deed) found ≡ Some one → IsOfSlot trace rows slots doubts slot one
      of_taking row doubt deed None at opened has act taken is = absurd cc
      of_taking row doubt deed (Some taking) at opened has act taken is =
          let same : (record { call = taking; point = point_by doubt.call deed }) ≡ one = cc in
          record {
            row = row;
            found = at;
            opened = opened;
            doubt = doubt;
            has = has;
            deed = deed;
            act = act;
            taken = taken ∙ ap (λ (d : Doubt). Some d.call) same;
            point = sym (ap (λ (d : Doubt). d.point) same);
          }

      of_act : (row : SessionRow) (doubt : views.Unacknowledged) (act : Act) → row_at rows slot ≡ Some row → opens (slots slot).activity ≡ true → doubts row.number ≡ Some doubt → doubt.act ≡ act → doubt_by trace doubt.call act ≡ Some one
          → IsOfSlot trace rows slots doubts slot one
      of_act row doubt (OfCall deed) at opened has act is = of_taking row doubt deed (taking_of trace doubt.call) at opened has act refl is
      of_act row doubt OfTidy at opened has act is = absurd cc

      of_doubt : (row : SessionRow) (found : Option views.Unacknowledged) → row_at rows slot ≡ Some row → opens (slots slot).activity ≡ true → doubts row.number ≡ found → doubt_of trace found ≡ Some one → IsOfSlot trace rows slots doubts slot one
      of_doubt row None at opened has is = absurd cc
      of_doubt row (Some doubt) at opened has is = of_act row doubt doubt.act at opened has refl is

      of_row : (found : Option SessionRow) → row_at rows slot ≡ found → opens (slots slot).activity ≡ true → doubt_in trace doubts found ≡ Some one → IsOfSlot trace rows slots doubts slot one
      of_row None at opened is = absurd cc
      of_row (Some row) at opened is = of_doubt row (doubts row.number) at opened refl is

      by : (t : Bool) → opens (slots slot).activity ≡ t → (if t then doubt_in trace doubts (row_at rows slot) else None) ≡ Some one → IsOfSlot trace rows slots doubts slot one
      by true opened is = of_row (row_at rows slot) refl opened is
      by false opened is = absurd cc

-- ---- by what is said of records that may be open

module _ (parts : List Part) (rows : List SessionRow) (next : ℕ) (rising : AreRising rows next) (slots : ℕ → Slot) (doubts : ℕ → Option views.Unacknowledged) (taken : AreOfTaken parts rows slots doubts) where
  abbrev Of : ℕ → Doubt → Type 0
  Of slot one = IsOfSlot (trace_of parts) rows slots doubts slot one

  may_be : (slot : ℕ) (one : Doubt) (of : Of slot one) → MayBeOpen rows slots doubts of.row.number of.doubt of.deed
  may_be slot one of =
      let is = found_is rows next slot of.row rising of.found in
      record { row = of.row; has_row = is.0; sent = ap (λ (k : ℕ). opens (slots k).activity) is.1 ∙ of.opened; is = of.has; act = of.act }

  its : (slot : ℕ) (one : Doubt) (of : Of slot one) → IsOfTaken parts of.doubt of.deed
  its slot one of = taken.each of.row.number of.doubt of.deed (may_be slot one of)

  same_taking : (slot : ℕ) (one : Doubt) (of : Of slot one) → (its slot one of).taking ≡ one.call
  same_taking slot one of =
      let is = its slot one of in
      let a : taking_of (trace_of parts) of.doubt.call ≡ Some is.taking = ap (taking_of (trace_of parts)) is.call ∙ is.lacks.taken in
      let b = of.taken in cc

  number_is : (slot : ℕ) (one : Doubt) (of : Of slot one) → of.doubt.call ≡ one.call.call
  number_is slot one of = (its slot one of).call ∙ ap (λ (t : Taking). t.call) (same_taking slot one of)

  pub doubted : (slot : ℕ) (one : Doubt) → doubts_by (trace_of parts) rows slots doubts slot ≡ Some one → IsDoubted parts one
  doubted slot one is =
      let of = of_slot (trace_of parts) rows slots doubts slot one is in
      let is_of = its slot one of in
      let same = same_taking slot one of in
      record {
        lacks = subst (λ (t : Taking). LacksPoint (trace_of parts) t) same is_of.lacks;
        of = ap (λ (p : Point). p.call) of.point ∙ number_is slot one of;
        since = subst (λ (moment : ℕ). HasReadingSince one.call.call moment parts) (ap (λ (p : Point). p.moment) (sym of.point)) (subst (λ (t : Taking). HasReadingSince t.call of.deed.moment parts) same is_of.since);
      }

  pub once : (slot other : ℕ) (one twin : Doubt) → doubts_by (trace_of parts) rows slots doubts slot ≡ Some one → doubts_by (trace_of parts) rows slots doubts other ≡ Some twin → twin.call.call ≡ one.call.call → other ≡ slot
  once slot other one twin is also same =
      let of = of_slot (trace_of parts) rows slots doubts slot one is in
      let of_twin = of_slot (trace_of parts) rows slots doubts other twin also in
      let sessions = taken.once of.row.number of_twin.row.number of.doubt of_twin.doubt of.deed of_twin.deed (may_be slot one of) (may_be other twin of_twin)
      (number_is other twin of_twin ∙ same ∙ sym (number_is slot one of)) in
      let here = found_is rows next slot of.row rising of.found in
      let there = found_is rows next other of_twin.row rising of_twin.found in
      let rows_same : of_twin.row ≡ of.row = one_row (subst (λ (n : ℕ). row_in rows n ≡ Some of_twin.row) sessions there.0) here.0 in
      sym there.1 ∙ ap (λ (r : SessionRow). r.slot) rows_same ∙ here.1
    where
      one_row : {o : Option SessionRow} {a b : SessionRow} → o ≡ Some a → o ≡ Some b → a ≡ b
      one_row is also = cc
