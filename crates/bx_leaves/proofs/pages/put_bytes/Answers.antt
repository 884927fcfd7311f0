use Rattle.std.proofs.Common.{◌≡◌, ℕ, refl, ap, ◌∙◌, arith}
use Rattle.bx_records.specs.Drafts.{block_in, with_block}
use Rattle.std.specs.Prelude.{length}
use Rattle.bx_page.specs.Spelling.{page_bytes}
use Rattle.bx_page.proofs.Whole.{length-page_bytes}
use Rattle.bx_leaves.proofs.pages.put_bytes.Goals as goal

pub returns-clause-puts : goal.returns-clause-puts
returns-clause-puts c = λ page spells.
    let bytes : c.in_ok-payload.payload ≡ page_bytes page = c.in_ok-payload.ensures ∙ spells.parts in
    record {
      block = record { handle = c.args.handle; kind = 2; payload = c.in_ok-payload.payload };
      header = refl;
      has = record { kind = refl; spells = record { is = spells.is; parts = bytes } };
      parts = record { handle = omega arith; kind = omega arith; own = λ four. absurd (omega (arith, four)); payload = ap length bytes ∙ length-page_bytes page spells.is.room };
      put = c.in_ok-put.ensures.ok ∙ ap (λ (at : ℕ). with_block c.args.draft.now at (record { handle = c.args.handle; kind = 2; payload = c.in_ok-payload.payload })) c.block_at.ensures;
      fits = λ crowded. let e = c.in_ok-put.ensures.crowded.1 (crowded.many, ap (block_in c.args.draft.now) c.block_at.ensures ∙ crowded.other) in absurd cc;
    }
