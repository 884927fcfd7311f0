-- The first entry of a page, taken out, and another one put.
use Rattle.std.proofs.Common.{◌≡◌, ℕ, ◌<◌, List, Some, Result, Ok, Err, refl, sym, ap, subst, ◌∙◌}
use Rattle.std.specs.Prelude.{IfSome, slice_get}
use Rattle.bx_chunks.specs.declared.error.ChunkError.{ChunkError}
use Rattle.bx_chunks.specs.declared.error.ChunkError.TheVariants.{OutOfMemory, Stale}
use Rattle.bx_page.specs.Contents.{Contents, size, with_value}
use Rattle.bx_page.specs.Keys.{IsBelow}
use Rattle.bx_page.specs.declared.entry.Entry.{Entry}
use Rattle.bx_records.specs.Drafts.{Changed}
use Rattle.bx_truth.specs.PageTrees.{handle_in}
use Rattle.bx_views.specs.Truths.{Held}
use Rattle.bx_clean.specs.Pages.{CutsFirst, LedBy, PutsFirst, TakesFirst, cuts, leads, lead_memory, lead_high, lead_long, no_memory, too_high, too_long, put}
use Rattle.bx_clean.specs.Puts.{PutsAndFrees}

pub cuts_of : (held : Held) (areas handle piece : ℕ) (page left : Contents) (result : Result (List Changed) ChunkError)
    → TakesFirst page left (Some piece) → PutsAndFrees held areas handle left piece result → CutsFirst held areas handle page result
cuts_of held areas handle piece page left result t p =
    cuts t.0 t.1 (subst (λ (l : Contents). PutsAndFrees held areas handle l (handle_in (t.0).value) result) t.3 (subst (λ (h : ℕ). PutsAndFrees held areas handle left h result) t.2 p))

no_ok : {X Y : Type 0} (x : X) (e : Y) → ◌≡◌ {A = Result X Y} (Ok x) (Err e) → ⊥
no_ok x e same = absurd cc

no_err : {X Y : Type 0} (x : X) (e : Y) → ◌≡◌ {A = Result X Y} (Err e) (Ok x) → ⊥
no_err x e same = absurd cc

-- an error is one, whatever is handed out
pub err_same : {X Y Z : Type 0} (a b : Z) → ◌≡◌ {A = Result X Z} (Err a) (Err b) → ◌≡◌ {A = Result Y Z} (Err a) (Err b)
err_same {Y = Y} {Z = Z} a b e = let same : a ≡ b = cc in subst (λ (z : Z). ◌≡◌ {A = Result Y Z} (Err a) (Err z)) same refl

module _ (page taken new other : Contents) (first : Entry) (handle : ℕ) (t : TakesFirst page taken (Some handle)) (there : Some first ≡ slice_get other.entries 0) where
  pub led_ok : PutsFirst taken new first (Ok tt) → LedBy page other (Ok new)
  led_ok (no_memory e) = absurd (no_ok tt OutOfMemory e)
  led_ok (too_high apart e) = absurd (no_ok tt Stale e)
  led_ok (too_long much e) = absurd (no_ok tt Stale e)
  led_ok (put is e) = leads t.0 first t.1 (sym there) (ap (λ (p : Contents). Ok p) (is ∙ ap (λ (p : Contents). with_value p first.key first.value) t.3))

  pub led_err : (error : ChunkError) → PutsFirst taken new first (Err error) → LedBy page other (Err error)
  led_err error (no_memory e) = lead_memory (err_same error OutOfMemory e)
  led_err error (too_high apart e) = lead_high t.0 first t.1 (sym there) (λ within. apart (subst (λ (p : Contents). IfSome p.high (IsBelow first.key)) (sym t.3) within)) (err_same error Stale e)
  led_err error (too_long much e) = lead_long t.0 first t.1 (sym there) (subst (λ (p : Contents). 4096 < size (with_value p first.key first.value)) t.3 much) (err_same error Stale e)
  led_err error (put is e) = absurd (no_err tt error e)
