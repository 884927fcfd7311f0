-- What stands after a call that wrote nothing, and what is passed on of a call that wrote.
use Rattle.std.proofs.Common.{◌≡◌, ℕ, List, Option, Some, None, IfSome, Bool, true, false, ◌⊎◌, refl, sym, ap, subst, ◌∙◌, arith, inl, inr}
use Rattle.bx_calls.specs.Calls.{HasSure, KeepsSure, LeavesOnly}
use Rattle.bx_cell.specs.Cells.{HasEither, Holds, Known, next, with_value}
use Rattle.bx_cell.specs.Halves.{cell_in}
use Rattle.bx_cell.specs.Images.{EachImage, EachSure}
use Rattle.bx_disk.specs.Disks.{Disks, Image, IsImage}
use Rattle.bx_global.specs.declared.held.Held.{Held}
use Rattle.bx_global.specs.Bytes.{held_text}
use Rattle.bx_acceptor.specs.Disks.{Writes}
use Rattle.bx_acceptor.specs.Saving.{IsSaved}
use Rattle.bx_acceptor.specs.Standing.{HasCell, IsCellOf, IsAcceptorView, AcceptorView}

-- ---- where nothing is written

pub either_at : (disks : Disks) (disk : ℕ) (cell : Known) (value : List ℕ) (image : Image) → cell.disk ≡ disk → cell.base ≡ 1 → ((d s : ℕ) → disks.unsure d s ≡ false → image d s ≡ disks.reads d s) → Holds cell image
    → HasEither disks disk 1 cell.found (next cell.found value) image
either_at disks disk cell value image same base sure has =
    let here : cell_in (image disk) 1 ≡ Some cell.found = subst (λ (d : ℕ). cell_in (image d) 1 ≡ Some cell.found) same (subst (λ (b : ℕ). cell_in (image cell.disk) b ≡ Some cell.found) base has) in
    record {
      cell = inl here;
      outside = record { outside = record { elsewhere = λ d s differ is. sure d s is; before = λ s below is. sure disk s is; behind = λ s above is. sure disk s is } };
    }

pub either_stays : (disks : Disks) (disk : ℕ) (cell : Known) (value : List ℕ) → cell.disk ≡ disk → cell.base ≡ 1 → EachSure disks (Holds cell) → EachSure disks (HasEither disks disk 1 cell.found (next cell.found value))
either_stays disks disk cell value same base each = record { each = λ image left. either_at disks disk cell value image same base left.sure (each.each image left) }

leaves_itself : (moment : ℕ) (since : ℕ → Image → Type 0) (P : Image → Type 0) → ((image : Image) → since moment image → P image) → LeavesOnly moment moment since since P
leaves_itself moment since P has = record {
  later = omega arith;
  each = has;
  nothing_else = λ t image at_most left. inl left;
  keeps = λ t image at_most left. left;
}

pub moment_stays : (disks : Disks) (disk : ℕ) (cell : Known) (value : List ℕ) (moment : ℕ) (since : ℕ → Image → Type 0) → cell.disk ≡ disk → cell.base ≡ 1 → ((image : Image) → since moment image → IsImage disks image) → EachSure disks (Holds cell)
    → LeavesOnly moment moment since since (HasEither disks disk 1 cell.found (next cell.found value))
moment_stays disks disk cell value moment since same base only each =
    leaves_itself moment since (HasEither disks disk 1 cell.found (next cell.found value)) (λ image left. either_at disks disk cell value image same base (only image left).sure (each.each image (record { sure = (only image left).sure })))

pub writes_nothing : (disks : Disks) (moment : ℕ) (since : ℕ → Image → Type 0) (disk : ℕ) → ((image : Image) → since moment image → IsImage disks image) → Writes disks disks moment moment since since disk
writes_nothing disks moment since disk only = record {
  keeps = record {
    sizes = refl;
    reads = record { elsewhere = λ d s differ. refl; before = λ s below. refl; behind = λ s above. refl };
    sure = record { elsewhere = λ d s differ is. is; before = λ s below is. is; behind = λ s above is. is };
    still = record {
      elsewhere = λ d s differ is. record { reads = refl; held = refl; unsure = refl };
      before = λ s below is. record { reads = refl; held = refl; unsure = refl };
      behind = λ s above is. record { reads = refl; held = refl; unsure = refl };
    };
    others = λ d s differ. record { reads = refl; held = refl; unsure = refl };
  };
  beside = leaves_itself moment since (HasSure disks disk 1 20) (λ image left. record { outside = record { elsewhere = λ d s differ is. (only image left).sure d s is; before = λ s below is. (only image left).sure disk s is; behind = λ s above is. (only image left).sure disk s is } });
}

-- ---- where a cell was put

pub each_image : (disks : Disks) (P : Image → Type 0) → EachSure disks P → EachImage disks P
each_image disks P each = record { each = λ image is. each.each image (record { sure = is.sure }) }

-- behind the label
pub at_one : (Q : ℕ → List ℕ → Type 0) (base : ℕ) (value text : List ℕ) → base ≡ 1 → value ≡ text → Q base value → Q 1 text
at_one Q base value text one same has = subst (λ (x : List ℕ). Q 1 x) same (subst (λ (b : ℕ). Q b value) one has)

pub writes_cell : (old new : Disks) (before now : ℕ) (past since : ℕ → Image → Type 0) (disk base : ℕ) → base ≡ 1 → KeepsSure old new disk base 20 → LeavesOnly before now past since (HasSure old disk base 20) → Writes old new before now past since disk
writes_cell old new before now past since disk base one keeps beside = record {
  keeps = subst (λ (b : ℕ). KeepsSure old new disk b 20) one keeps;
  beside = subst (λ (b : ℕ). LeavesOnly before now past since (HasSure old disk b 20)) one beside;
}

-- what changed is in the cell, or nothing changed
pub stored_or_same : (changed : Bool) (old new : Known) (held now : Held) (Same : Type 0) → IsSaved changed old (held_text now) new → (changed ≡ false → now ≡ held) → (changed ≡ false → Same) → (new ≡ with_value old (held_text now)) ⊎ ((new ≡ old) × (now ≡ held) × Same)
stored_or_same true old new held now Same saved same quiet = inl saved
stored_or_same false old new held now Same saved same quiet = inr (saved, same refl, quiet refl)

pub quiet_unless : (changed : Bool) (Changes Same : Type 0) → (changed ≡ true → Changes) → (changed ≡ false → Same) → (Changes → ⊥) → Same
quiet_unless true Changes Same spare quiet none = absurd (none (spare refl))
quiet_unless false Changes Same spare quiet none = quiet refl

-- ---- an acceptor whose cell was there

at_cell : (T : Type 0) (replica : ℕ) (o : Option Known) (cell : Known) (disks : Disks) (Q : ℕ → Known → Type 0) → o ≡ Some cell → (T → EachSure disks (Holds cell) → Q replica cell) → IfSome o (λ c. T → EachSure disks (λ image. IfSome o (λ k. Holds k image)) → Q replica c)
at_cell T replica o cell disks Q at did = subst (λ (x : Option Known). IfSome x (λ c. T → EachSure disks (λ image. IfSome x (λ k. Holds k image)) → Q replica c)) (sym at) did

pub with_cell : (T : Type 0) (a b : AcceptorView) (cell : Known) (disks : Disks) (Q : ℕ → Known → Type 0) → a ≡ b → a.cell ≡ Some cell → (T → EachSure disks (Holds cell) → Q a.replica cell) → IfSome b.cell (λ c. T → EachSure disks (HasCell b) → Q b.replica c)
with_cell T a b cell disks Q same at did = subst (λ (s : AcceptorView). IfSome s.cell (λ c. T → EachSure disks (HasCell s) → Q s.replica c)) same (at_cell T a.replica a.cell cell disks Q at did)

pub held_by : (R : Type 0) (a b : AcceptorView) (cell : Known) (disks : Disks) → a ≡ b → a.cell ≡ Some cell → (EachSure disks (Holds cell) → R) → EachSure disks (HasCell b) → R
held_by R a b cell disks same at did = subst (λ (s : AcceptorView). EachSure disks (HasCell s) → R) same (subst (λ (o : Option Known). EachSure disks (λ image. IfSome o (λ k. Holds k image)) → R) (sym at) did)

stored_at : (Y : Type 0) (o : Option Known) (cell new : Known) (value : List ℕ) → o ≡ Some cell → (new ≡ with_value cell value) ⊎ Y → IfSome o (λ c. (◌≡◌ {A = Option Known} (Some new) (Some (with_value c value))) ⊎ Y)
stored_at Y o cell new value at did = subst (λ (x : Option Known). IfSome x (λ c. (◌≡◌ {A = Option Known} (Some new) (Some (with_value c value))) ⊎ Y)) (sym at) (by did)
  where
    by : (new ≡ with_value cell value) ⊎ Y → (◌≡◌ {A = Option Known} (Some new) (Some (with_value cell value))) ⊎ Y
    by (inl put) = inl (ap (λ (c : Known). Some c) put)
    by (inr kept) = inr kept

same_standing : (a : AcceptorView) (held : Held) (cell : Option Known) → held ≡ a.held → cell ≡ a.cell → record { replica = a.replica; first = a.first; origin = a.origin; held = held; cell = cell } ≡ a
same_standing a held cell p q = rw (p, q) refl

pub stored_so : (a b : AcceptorView) (cell new : Known) (held : Held) (value : List ℕ) (Same : Type 0) → a ≡ b → a.cell ≡ Some cell → (new ≡ with_value cell value) ⊎ ((new ≡ cell) × (held ≡ a.held) × Same)
    → IfSome b.cell (λ c. (◌≡◌ {A = Option Known} (Some new) (Some (with_value c value))) ⊎ ((◌≡◌ {A = AcceptorView} (record { replica = a.replica; first = a.first; origin = a.origin; held = held; cell = Some new }) b) × Same))
stored_so a b cell new held value Same same at did =
    subst (λ (s : AcceptorView). IfSome s.cell (λ c. (◌≡◌ {A = Option Known} (Some new) (Some (with_value c value))) ⊎ ((◌≡◌ {A = AcceptorView} (record { replica = a.replica; first = a.first; origin = a.origin; held = held; cell = Some new }) s) × Same))) same
    (stored_at ((◌≡◌ {A = AcceptorView} (record { replica = a.replica; first = a.first; origin = a.origin; held = held; cell = Some new }) a) × Same) a.cell cell new value at (by did))
  where
    by : (new ≡ with_value cell value) ⊎ ((new ≡ cell) × (held ≡ a.held) × Same) → (new ≡ with_value cell value) ⊎ ((◌≡◌ {A = AcceptorView} (record { replica = a.replica; first = a.first; origin = a.origin; held = held; cell = Some new }) a) × Same)
    by (inl put) = inl put
    by (inr (kept, as_held, rest)) = inr (same_standing a held (Some new) as_held (ap (λ (c : Known). Some c) kept ∙ sym at), rest)

-- ---- an acceptor that stays

stored_none : (b : AcceptorView) (Same : Type 0) → Same → (o : Option Known) → IfSome o (λ c. (b.cell ≡ Some (with_value c (held_text b.held))) ⊎ ((b ≡ b) × Same))
stored_none b Same same None = tt
stored_none b Same same (Some c) = inr (refl, same)

pub stored_before : (b : AcceptorView) (Same : Type 0) → Same → IfSome b.cell (λ c. (b.cell ≡ Some (with_value c (held_text b.held))) ⊎ ((b ≡ b) × Same))
stored_before b Same same = stored_none b Same same b.cell

either_of : (T : Type 0) (b : AcceptorView) (disks : Disks) (value : List ℕ) (o : Option Known) → IfSome o (IsCellOf b.replica b.first b.origin b.held)
    → IfSome o (λ c. T → EachSure disks (λ image. IfSome o (λ k. Holds k image)) → EachSure disks (HasEither disks b.replica 1 c.found (next c.found value)))
either_of T b disks value None is = tt
either_of T b disks value (Some c) is = λ tells each. either_stays disks b.replica c value is.disk is.base each

pub unmoved_either : (T : Type 0) (a b : AcceptorView) (disks : Disks) (value : List ℕ) → a ≡ b → IsAcceptorView a → IfSome b.cell (λ c. T → EachSure disks (HasCell b) → EachSure disks (HasEither disks b.replica 1 c.found (next c.found value)))
unmoved_either T a b disks value same is =
    let here : IsAcceptorView b = subst IsAcceptorView same is in
    either_of T b disks value b.cell here.cell
