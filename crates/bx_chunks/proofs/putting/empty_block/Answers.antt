use Rattle.std.proofs.Common.{◌≡◌, ap, List, ℕ}
use Rattle.std.specs.Prelude.{replicate}
use Rattle.bx_layout.specs.declared.block.Block.{Block}
use Rattle.bx_chunks.proofs.putting.empty_block.Goals as goal

with_payload : (handle kind : ℕ) (p q : List ℕ) → p ≡ q → ◌≡◌ {A = Block} (record { handle = handle; kind = kind; payload = p }) (record { handle = handle; kind = kind; payload = q })
with_payload handle kind p q e = ap (λ (r : List ℕ). record { handle = handle; kind = kind; payload = r }) e

pub returns : goal.returns
returns c = with_payload c.args.handle c.args.kind c.in_ok-payload.payload (replicate 4096 0) c.in_ok-payload.ensures
