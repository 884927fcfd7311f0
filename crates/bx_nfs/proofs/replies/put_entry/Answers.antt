use Rattle.std.proofs.Common.{◌≡◌, ℕ, List, [], ◌∷◌, ◌++◌, ap, ◌∙◌, append_assoc}
use Rattle.std.proofs.lemmas.Result.{on_ok_weaker}
use Rattle.bx_base.specs.Bytes.{words}
use Rattle.bx_xdr.specs.Items.{word_text, opaque_text}
use Rattle.bx_nfs.proofs.replies.put_entry.Goals as goal

grouped : (old a b d : List ℕ) → ((old ++ a) ++ b) ++ d ≡ old ++ ((a ++ b) ++ d)
grouped old a b d = ap (λ (s : List ℕ). s ++ d) (append_assoc old a b) ∙ append_assoc old (a ++ b) d

parts : (s0 s1 s2 s3 a b d : List ℕ) → s1 ≡ s0 ++ a → s2 ≡ s1 ++ b → s3 ≡ s2 ++ d → s3 ≡ s0 ++ ((a ++ b) ++ d)
parts s0 s1 s2 s3 a b d e f g = g ∙ ap (λ (s : List ℕ). s ++ d) (f ∙ ap (λ (s : List ℕ). s ++ b) e) ∙ grouped s0 a b d

pub returns : goal.returns
returns c =
    on_ok_weaker c.put_word.result (parts c.args.text.now c.put_words.new.self c.put_opaque.new.self c.put_word.new.self (words (1 ∷ c.args.entry.now.fileid ∷ [])) (opaque_text c.args.entry.now.name) (word_text c.args.entry.now.cookie)
    c.in_ok-put_words.ensures.ok (rw c.bytes.ensures at c.in_ok-put_opaque.ensures.ok)) c.put_word.ensures.ok
