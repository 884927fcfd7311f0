use Rattle.std.proofs.Common.{◌≡◌, ℕ, ◌+◌, ◌<◌, List, [], ◌∷◌, ◌++◌, length, get_or, take, sym, ap, ◌∙◌, append_assoc}
use Rattle.std.specs.List.{flat_map}
use Rattle.std.proofs.lemmas.List.{take_more, append-nil}
use Rattle.std.proofs.lemmas.List.Concat.{flat_map-append}
use Rattle.bx_nfs.specs.Results.{listed_text}
use Rattle.bx_nfs.proofs.replies.put_entries.Goals as goal

one_more : {X : Type 0} (f : X → List ℕ) (xs : List X) (i : ℕ) (x : X) → i < length xs → x ≡ get_or xs i x → flat_map f (take (i + 1) xs) ≡ flat_map f (take i xs) ++ f x
one_more f xs i x lt is =
    ap (flat_map f) (take_more xs i x lt) ∙ flat_map-append f (take i xs) (get_or xs i x ∷ []) ∙ ap (λ s. flat_map f (take i xs) ++ s) (append-nil (f (get_or xs i x)) ∙ ap f (sym is))

joined : (s0 s1 s2 a b d : List ℕ) → s1 ≡ s0 ++ a → s2 ≡ s1 ++ b → d ≡ a ++ b → s2 ≡ s0 ++ d
joined s0 s1 s2 a b d e f g = f ∙ ap (λ (s : List ℕ). s ++ b) e ∙ append_assoc s0 a b ∙ ap (λ (s : List ℕ). s0 ++ s) (sym g)

pub loop-entry-preserved : goal.loop-entry-preserved
loop-entry-preserved c =
    let i = c.loop-entry.entry-index in
    let more = one_more listed_text c.args.entries.now i c.entry-item.result c.loop-entry-test.true c.entry-item.is in
    joined c.args.text.now c.loop-entry.text c.put_entry.new.text (flat_map listed_text (take i c.args.entries.now)) (listed_text c.entry-item.result) (flat_map listed_text (take (i + 1) c.args.entries.now)) c.loop-entry.invariant c.in_ok-put_entry.ensures more
