-- A chunk is read in one way.
use Rattle.std.proofs.Common.{◌≡◌, ℕ, Option, Result, Ok, Err, refl, sym, ap, ◌∙◌}
use Rattle.bx_layout.specs.declared.block.Block.{Block}
use Rattle.bx_chunks.specs.Reading.{ReadsAt}
use Rattle.bx_chunks.specs.declared.error.ChunkError.{ChunkError}
use Rattle.bx_chunks.specs.declared.error.ChunkError.TheVariants.{Need, Stale, Full, OutOfMemory, Crowded}
use Rattle.bx_chunks.proofs.Options.{none_some, some_same}

pub one_read : (found : Option Block) (handle : ℕ) (a b : Result Block ChunkError) → ReadsAt found handle a → ReadsAt found handle b → a ≡ b
one_read found handle (Ok x) (Ok y) a b = ap Ok (some_same found x y a.0 b.0)
one_read found handle (Ok x) (Err (Need at mode)) a b = absurd (none_some found x b.0 a.0)
one_read found handle (Ok x) (Err Stale) a b = absurd (b.another (ap (λ (block : Block). block.handle) (some_same found b.block x b.there a.0) ∙ a.1))
one_read found handle (Ok x) (Err OutOfMemory) a b = absurd b
one_read found handle (Ok x) (Err (Full spare)) a b = absurd b
one_read found handle (Ok x) (Err Crowded) a b = absurd b
one_read found handle (Err (Need at mode)) (Ok y) a b = absurd (none_some found y a.0 b.0)
one_read found handle (Err (Need at mode)) (Err (Need other another)) a b = λ i. Err (Need ((a.1 ∙ sym b.1) i) ((a.2 ∙ sym b.2) i))
one_read found handle (Err (Need at mode)) (Err Stale) a b = absurd (none_some found b.block a.0 b.there)
one_read found handle (Err (Need at mode)) (Err OutOfMemory) a b = absurd b
one_read found handle (Err (Need at mode)) (Err (Full spare)) a b = absurd b
one_read found handle (Err (Need at mode)) (Err Crowded) a b = absurd b
one_read found handle (Err Stale) (Ok y) a b = absurd (a.another (ap (λ (block : Block). block.handle) (some_same found a.block y a.there b.0) ∙ b.1))
one_read found handle (Err Stale) (Err (Need at mode)) a b = absurd (none_some found a.block b.0 a.there)
one_read found handle (Err Stale) (Err Stale) a b = refl
one_read found handle (Err Stale) (Err OutOfMemory) a b = absurd b
one_read found handle (Err Stale) (Err (Full spare)) a b = absurd b
one_read found handle (Err Stale) (Err Crowded) a b = absurd b
one_read found handle (Err OutOfMemory) y a b = absurd a
one_read found handle (Err (Full spare)) y a b = absurd a
one_read found handle (Err Crowded) y a b = absurd a
