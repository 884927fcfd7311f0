-- Answers to reads.
use Rattle.std.proofs.Common.{◌≡◌, ℕ, ◌+◌, ◌-◌, ◌<◌, ◌≤◌, false, List, Option, Some, None, IfSome, length, refl, sym, ◌∙◌, ap, subst}
use Rattle.std.specs.Prelude.{is_some}
use Rattle.bx_disk.specs.Disks.{Disks, sector_of}
use Rattle.bx_global.specs.declared.state.GlobalState.{GlobalState}
use Rattle.bx_facts.specs.Writes.{Asked, IsSettled}
use Rattle.bx_plain_store.specs.declared.inquiries.Inquiry.{Inquiry}
use Rattle.bx_plain_store.specs.Out.{at}
use Rattle.bx_plain_store.specs.Parts.{IsAnswered, asked_at, asked_in, asked_of}
use Rattle.bx_plain_store.specs.Outs.{at_within}

pub answered_same : (x : Disks) (s : GlobalState) (slot : Option Inquiry) → IsAnswered x s slot slot
answered_same x s slot = record {
  asks = refl;
  kept = λ bytes is. is;
  came = λ asks bytes sector content asked none some. absurd (let e = sym none ∙ some in cc);
}

pub answered_now : (x : Disks) (s : GlobalState) (slot : Option Inquiry) (inquiry : Inquiry) (found : Option (List ℕ)) → slot ≡ Some inquiry → is_some inquiry.answer ≡ false
    → ((sector : ℕ) (content : List ℕ) → IsSettled x s inquiry.ask.device sector content → inquiry.ask.place ≤ sector → sector < inquiry.ask.place + inquiry.ask.count → IfSome found (λ bytes. sector_of bytes (sector - inquiry.ask.place) ≡ content))
    → IsAnswered x s slot (Some (record { ask = inquiry.ask; answer = found }))
answered_now x s slot inquiry found is none settled = subst (λ (o : Option Inquiry). IsAnswered x s o (Some (record { ask = inquiry.ask; answer = found }))) (sym is) (record {
  asks = refl;
  kept = λ bytes was. absurd (let e = ap (is_some {T = List ℕ}) was in let f = sym none ∙ e in cc);
  came = λ asks bytes sector content asked was some.
      let same : asked_of inquiry.ask ≡ asks = (let h = asked in cc) in
      subst (λ (a : Asked). IsSettled x s a.device sector content → a.place ≤ sector → sector < a.place + a.count → sector_of bytes (sector - a.place) ≡ content) same
      (λ is_settled from below. subst (λ (o : Option (List ℕ)). IfSome o (λ got. sector_of got (sector - inquiry.ask.place) ≡ content)) some (settled sector content is_settled from below));
})

-- one answer after another
pub answered_then : (x : Disks) (s : GlobalState) (old mid new : Option Inquiry) → old ≡ mid → IsAnswered x s mid new → IsAnswered x s old new
answered_then x s old mid new same is = subst (λ (o : Option Inquiry). IsAnswered x s o new) (sym same) is

-- a node that reads has a place
pub asked_within : (inquiries : List (Option Inquiry)) (node : ℕ) (asks : Asked) → asked_at inquiries node ≡ Some asks → node < length inquiries
asked_within inquiries node asks is = by_slot (at inquiries node) refl is
  where
    by_slot : (slot : Option Inquiry) → at inquiries node ≡ slot → asked_in slot ≡ Some asks → node < length inquiries
    by_slot None same asked = absurd cc
    by_slot (Some inquiry) same asked = at_within inquiries node inquiry same

-- something is read where an inquiry is there
pub is_asked : (slot : Option Inquiry) → is_some slot ≡ is_some (asked_in slot)
is_asked None = refl
is_asked (Some inquiry) = refl
