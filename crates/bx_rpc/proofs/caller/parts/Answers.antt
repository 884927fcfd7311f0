use Rattle.std.proofs.Common.{◌≡◌, ℕ, true, false, List, [], ◌∷◌, length, eqb, refl, sym, ◌∙◌, inl, inr, arith}
use Rattle.std.proofs.lemmas.Bool.Decides.{eqb_tells}
use Rattle.bx_rpc.proofs.Parts.{no_stamp, no_machine, no_ids, no_groups, no_end, parts_whole}
use Rattle.bx_rpc.proofs.caller.parts.Goals as goal

apart : true ≡ false → ⊥
apart e = absurd cc

no_length : (text : List ℕ) → eqb (length text) 0 ≡ true → text ≡ []
no_length [] e = refl
no_length (x ∷ xs) e = elim (eqb_tells (length (x ∷ xs)) 0) [ inl h ↦ absurd (omega (arith, h.1)) | inr h ↦ absurd (apart (sym e ∙ h.0)) ]

has_length : (text : List ℕ) → eqb (length text) 0 ≡ false → text ≡ [] → ⊥
has_length [] e none = cc
has_length (x ∷ xs) e none = cc

pub returns-in_err-word-clause-none : goal.returns-in_err-word-clause-none
returns-in_err-word-clause-none c = rw c.from_residual.ensures (no_stamp c.args.body.now (rw c.new-reader.ensures at c.in_err-word.ensures.none))

pub returns-in_err-opaque-clause-none : goal.returns-in_err-opaque-clause-none
returns-in_err-opaque-clause-none c =
    rw c.from_residual-in_err-opaque.ensures (no_machine c.args.body.now _ _ (rw c.new-reader.ensures at c.in_ok-word.ensures.some) c.in_err-opaque.ensures.none)

pub returns-in_err-words-clause-none : goal.returns-in_err-words-clause-none
returns-in_err-words-clause-none c =
    rw c.from_residual-in_err-words.ensures (no_ids c.args.body.now _ _ _ _ (rw c.new-reader.ensures at c.in_ok-word.ensures.some) c.in_ok-opaque.ensures.some (rw c.requires.two at c.in_err-words.ensures.none))

pub returns-in_err-count-clause-none : goal.returns-in_err-count-clause-none
returns-in_err-count-clause-none c =
    rw c.from_residual-in_err-count.ensures (no_groups c.args.body.now _ _ _ _ _ _ (rw c.new-reader.ensures at c.in_ok-word.ensures.some) c.in_ok-opaque.ensures.some (rw c.requires.two at c.in_ok-words.ensures.some) (rw c.requires.sixteen at c.in_err-count.ensures.none))

pub returns-then-is_empty-clause-some : goal.returns-then-is_empty-clause-some
returns-then-is_empty-clause-some c =
    let end : c.list.new.self ≡ [] = sym c.rest.ensures ∙ no_length c.rest.result.now (sym c.is_empty.ensures ∙ c.if-is_empty.true) in
    (_, _, parts_whole c.args.body.now _ _ _ _ _ _ _ _ end (rw c.new-reader.ensures at c.in_ok-word.ensures.some) c.in_ok-opaque.ensures.some (rw c.requires.two at c.in_ok-words.ensures.some) (rw c.requires.sixteen at c.in_ok-count.ensures.some))

pub returns-else-is_empty-clause-none : goal.returns-else-is_empty-clause-none
returns-else-is_empty-clause-none c =
    let more : c.list.new.self ≡ [] → ⊥ = λ end. has_length c.rest.result.now (sym c.is_empty.ensures ∙ c.if-is_empty.false) (c.rest.ensures ∙ end) in
    no_end c.args.body.now _ _ _ _ _ _ _ _ more (rw c.new-reader.ensures at c.in_ok-word.ensures.some) c.in_ok-opaque.ensures.some (rw c.requires.two at c.in_ok-words.ensures.some) (rw c.requires.sixteen at c.in_ok-count.ensures.some)
