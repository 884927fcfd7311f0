-- The points of a trace spell its history, but for the replies.
use Rattle.std.proofs.Common.{◌≡◌, ℕ, List, [], ◌∷◌, Option, Some, refl, sym, ap, ◌∙◌}
use Rattle.std.specs.Prelude.{map}
use Rattle.bx_base.specs.declared.names.Point.{Point}
use Rattle.bx_script.specs.declared.trace_line.TraceLine.{TraceLine}
use Rattle.bx_script.specs.declared.trace_line.TraceLine.TheVariants.{Took, Acted, Reply, Again}
use Rattle.bx_history.specs.Trace.{Entry, Taking, taking_of, FitsNewest, IsPointOf}
use Rattle.bx_history.specs.Laws.{points, point_of, Asked, asked}

one_point : (older : List TraceLine) (point : Point) (entry : Entry) → IsPointOf older point entry → point_of entry ≡ point
one_point older point entry h = rw (h.call, h.moment, h.spare, h.made) refl

pub points-from_fits : (kept : ℕ) (trace : List TraceLine) (history : List Entry) → FitsNewest kept trace history → points trace ≡ map point_of history
points-from_fits kept [] history fits = rw fits refl
points-from_fits kept (Took call node client bytes ∷ older) history fits = points-from_fits kept older history fits.1
points-from_fits kept (Acted point ∷ older) [] fits = absurd fits
points-from_fits kept (Acted point ∷ older) (entry ∷ earlier) fits =
    let first = one_point older point entry fits.0 in
    let rest = points-from_fits kept older earlier fits.1 in
    cc
points-from_fits kept (Reply call reply ∷ older) history fits = points-from_fits kept older history fits.1
points-from_fits kept (Again node client reply ∷ older) history fits = points-from_fits kept older history fits.1

some_is : {A : Type 0} (x y : A) (o : Option A) → o ≡ Some x → o ≡ Some y → x ≡ y
some_is x y o e f = let g : Some x ≡ Some y = sym e ∙ f in cc

made_asked : (p q : Point) (c d : ℕ) (x y : List ℕ) → p ≡ q → c ≡ d → x ≡ y
    → ◌≡◌ {A = Asked} (record { point = p; client = c; bytes = x }) (record { point = q; client = d; bytes = y })
made_asked p q c d x y e f g = rw (e, f, g) refl

one_asking : (older : List TraceLine) (point : Point) (a b : Entry) → IsPointOf older point a → IsPointOf older point b → asked a ≡ asked b
one_asking older point a b h k =
    let one : h.taking ≡ k.taking = some_is h.taking k.taking (taking_of older point.call) h.taken k.taken in
    let client : a.client ≡ b.client = h.client ∙ ap (λ (t : Taking). t.client) one ∙ sym k.client in
    let bytes : a.bytes ≡ b.bytes = h.bytes ∙ ap (λ (t : Taking). t.bytes) one ∙ sym k.bytes in
    let point-is : point_of a ≡ point_of b = one_point older point a h ∙ sym (one_point older point b k) in
    made_asked (point_of a) (point_of b) a.client b.client a.bytes b.bytes point-is client bytes

pub asked-from_fits : (kept : ℕ) (trace : List TraceLine) (a b : List Entry) → FitsNewest kept trace a → FitsNewest kept trace b → map asked a ≡ map asked b
asked-from_fits kept [] a b p q = rw (p, q) refl
asked-from_fits kept (Took call node client bytes ∷ older) a b p q = asked-from_fits kept older a b p.1 q.1
asked-from_fits kept (Acted point ∷ older) [] b p q = absurd p
asked-from_fits kept (Acted point ∷ older) (x ∷ a) [] p q = absurd q
asked-from_fits kept (Acted point ∷ older) (x ∷ a) (y ∷ b) p q =
    let first = one_asking older point x y p.0 q.0 in
    let rest = asked-from_fits kept older a b p.1 q.1 in
    cc
asked-from_fits kept (Reply call reply ∷ older) a b p q = asked-from_fits kept older a b p.1 q.1
asked-from_fits kept (Again node client reply ∷ older) a b p q = asked-from_fits kept older a b p.1 q.1
