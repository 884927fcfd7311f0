-- What the steps of putting halves come to.
use Rattle.std.proofs.Common.{◌≡◌, ℕ, List, ap, subst, ◌∙◌}
use Rattle.std.specs.Prelude.{Ok}
use Rattle.bx_records.specs.Drafts.{Changed}
use Rattle.bx_page.specs.Contents.{Contents, first_half, other_half}
use Rattle.bx_views.specs.Truths.{Held}
use Rattle.bx_chunks.specs.Allocating.{AllocatesAt}
use Rattle.bx_splits.specs.declared.halves.Halves.{Halves}
use Rattle.bx_splits.specs.Cutting.{PutsTwo}
use Rattle.bx_splits.specs.Halves.{CutsInto, halves_of}

abbrev pub made : ℕ → Contents → ℕ → Contents → Halves
made left first right other = record { left = left; first = first; right = right; other = other }

pub halves_are : (page first other : Contents) (left right : ℕ) → first ≡ first_half page right → other ≡ other_half page → made left first right other ≡ halves_of page left right
halves_are page first other left right e f = ap (λ (p : Contents). made left p right other) e ∙ ap (λ (p : Contents). made left (first_half page right) right p) f

pub cut_into : (held : Held) (old one new : List Changed) (handle : ℕ) (page : Contents) (near areas right : ℕ) (first other : Contents) → AllocatesAt held old one near areas (Ok right) → first ≡ first_half page right → other ≡ other_half page
    → PutsTwo one new right other handle first (Ok tt) → CutsInto held old new handle page near areas (made handle first right other)
cut_into held old one new handle page near areas right first other allots e f puts =
    let p : PutsTwo one new right (other_half page) handle (first_half page right) (Ok tt) =
    subst (λ (c : Contents). PutsTwo one new right (other_half page) handle c (Ok tt)) e (subst (λ (c : Contents). PutsTwo one new right c handle first (Ok tt)) f puts) in
    record { cuts = record { right = right; one = one; allots = allots; two = p.0; puts_other = p.1; puts_first = p.2 }; halves_are = halves_are page first other handle right e f }
