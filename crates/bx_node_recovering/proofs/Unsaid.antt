-- Which calls lack a point once a recovery has told the records of a session that is gone: those of the other sessions' records.
use Rattle.std.proofs.Common.{◌≡◌, ◌≢◌, ◌∙◌, ℕ, true, false, List, Option, Some, None, sym, ap, subst}
use Rattle.bx_node_recovering.specs.Unsaid.{LacksPoint}
use Rattle.bx_rows.specs.Conditions.{HaveOwnSlots}
use Rattle.bx_rows.specs.Words.{row_in}
use Rattle.bx_rows.specs.declared.session.SessionRow.{SessionRow}
use Rattle.bx_world_chains.proofs.Rows.{one_slot}
use Rattle.bx_world_images.proofs.Settling.{found_slot}
use Rattle.bx_world_logs.specs.Logs.{Slot, opens}
use Rattle.bx_world_logs.proofs.Moving.{slot_here, slot_there, with_slot}
use Rattle.bx_world_views.specs.Views.{Unacknowledged}
use Rattle.bx_world_views.proofs.Doubts.{without_doubt, without_only}

module _ (rows : List SessionRow) (slots : ℕ → Slot) (doubts : ℕ → Option Unacknowledged) (gone slot : ℕ) (row : SessionRow) (own : HaveOwnSlots rows) (is : row_in rows gone ≡ Some row) (at : row.slot ≡ slot) where
  abbrev slots_then : ℕ → Slot
  slots_then = with_slot slots slot (found_slot (slots slot))

  -- whatever lacks its point then did, and is another session's
  pub lacked : (call : ℕ) → LacksPoint rows slots_then (without_doubt doubts gone) call → (was : LacksPoint rows slots doubts call) × (was.session ≢ gone)
  lacked call lacks = (
    record {
      session = lacks.session;
      row = lacks.row;
      doubt = lacks.doubt;
      is_row = lacks.is_row;
      is = sym ((without_only doubts gone).others lacks.session apart) ∙ lacks.is;
      opened = subst (λ (one : Slot). opens one.activity ≡ true) (slot_there slots slot lacks.row.slot (found_slot (slots slot)) (elsewhere lacks)) lacks.opened;
      call_is = lacks.call_is;
      some = lacks.some;
    },
    apart,
  )
    where
      apart : lacks.session ≢ gone
      apart same = let none : Some lacks.doubt ≡ None = sym lacks.is ∙ ap (without_doubt doubts gone) same ∙ (without_only doubts gone).here in cc

      elsewhere : (it : LacksPoint rows slots_then (without_doubt doubts gone) call) → it.row.slot ≢ slot
      elsewhere it same =
          let found : opens (slots_then it.row.slot).activity ≡ false = ap (λ (n : ℕ). opens (slots_then n).activity) same ∙ ap (λ (one : Slot). opens one.activity) (slot_here slots slot (found_slot (slots slot))) in
          let wrong : true ≡ false = sym it.opened ∙ found in cc

  -- and whatever is another session's lacks it still
  pub lacks_still : (call : ℕ) (was : LacksPoint rows slots doubts call) → was.session ≢ gone → LacksPoint rows slots_then (without_doubt doubts gone) call
  lacks_still call was apart = record {
    session = was.session;
    row = was.row;
    doubt = was.doubt;
    is_row = was.is_row;
    is = (without_only doubts gone).others was.session apart ∙ was.is;
    opened = subst (λ (one : Slot). opens one.activity ≡ true) (sym (slot_there slots slot was.row.slot (found_slot (slots slot)) (λ same. apart (one_slot rows was.session gone was.row row own was.is_row is (same ∙ sym at))))) was.opened;
    call_is = was.call_is;
    some = was.some;
  }
