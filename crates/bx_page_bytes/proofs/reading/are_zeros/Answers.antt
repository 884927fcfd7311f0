use Rattle.std.proofs.Common.{◌≡◌, ℕ, Bool, List, length, replicate, sym, ◌∙◌}
use Rattle.std.specs.Prelude.{IsTrue, bytes_eq}
use Rattle.std.proofs.lemmas.List.{take-replicate}
use Rattle.std.proofs.lemmas.Slice.Eq.{bytes_eq-Decides}
use Rattle.bx_page_bytes.proofs.reading.are_zeros.Goals as goal

zeros_test : (bytes zeros : List ℕ) (b : Bool) → b ≡ bytes_eq bytes zeros → zeros ≡ replicate (length bytes) 0 → (IsTrue b → bytes ≡ replicate (length bytes) 0) × (bytes ≡ replicate (length bytes) 0 → IsTrue b)
zeros_test bytes zeros b is zeros_are =
    (λ t. (bytes_eq-Decides bytes zeros).0 (sym is ∙ t) ∙ zeros_are, λ all. is ∙ (bytes_eq-Decides bytes zeros).1 (all ∙ sym zeros_are))

pub returns : goal.returns
returns c = zeros_test c.args.bytes.now _ c.eq.result c.eq.ensures (take-replicate (length c.args.bytes.now) 4096 0 c.requires)
