use Rattle.std.proofs.Common.{◌≡◌, ℕ, ◌+◌, ◌*◌, arith, true, false, sym, ap, subst, ◌∙◌}
use Rattle.std.specs.Prelude.{nat_eq}
use Rattle.std.proofs.lemmas.Bool.Decides.{nat_tests}
use Rattle.bx_layout.specs.declared.block.Block.{Block}
use Rattle.bx_homes.proofs.Headers.{has, has_wanted, is_slot_block}
use Rattle.bx_homes.proofs.Sectors.{of_some}
use Rattle.bx_homes.proofs.slots.has_header.Goals as goal

equal : (a b : ℕ) → nat_eq a b ≡ true → a ≡ b
equal a b test = grind (arith, nat_tests, test)

apart : (a b : ℕ) → nat_eq a b ≡ false → a ≡ b → ⊥
apart a b test same = grind (arith, nat_tests, test, same)

pub returns-clause-yes : goal.returns-clause-yes
returns-clause-yes g c = λ tells right truth are spells.
    let at = 1024 * c.args.area + c.args.slot in
    let number : 1024 * c.from.result + c.from-2.result ≡ 1024 * c.args.area + c.args.slot = omega (arith, c.from.ensures, c.from-2.ensures) in
    let same = g.met.B.Blocks.one c.args.blocks.now at (truth at) c.in-Some.block tells (are at (is_slot_block (g.B.Blocks.areas c.args.blocks.now) c.args.area c.args.slot c.requires.area c.requires.slot)) (subst (λ (n : ℕ). g.B.Blocks.stands c.args.blocks.now n c.in-Some.block) number (of_some _ c.in_ok-block.field-0 c.in-Some.block c.in-Some.is (c.in_ok-block.ensures.some tells))) in
    has truth c.args.area c.args.slot c.args.slots.now c.wanted_at.result c.requires.slot spells c.wanted_at.ensures.used c.wanted_at.ensures.unused
    (ap (λ (b : Block). b.handle) same ∙ equal c.in-Some.block.handle c.wanted_at.result right)

pub returns-clause-no : goal.returns-clause-no
returns-clause-no g c = λ tells wrong truth are spells header.
    let at = 1024 * c.args.area + c.args.slot in
    let number : 1024 * c.from.result + c.from-2.result ≡ 1024 * c.args.area + c.args.slot = omega (arith, c.from.ensures, c.from-2.ensures) in
    let same = g.met.B.Blocks.one c.args.blocks.now at (truth at) c.in-Some.block tells (are at (is_slot_block (g.B.Blocks.areas c.args.blocks.now) c.args.area c.args.slot c.requires.area c.requires.slot)) (subst (λ (n : ℕ). g.B.Blocks.stands c.args.blocks.now n c.in-Some.block) number (of_some _ c.in_ok-block.field-0 c.in-Some.block c.in-Some.is (c.in_ok-block.ensures.some tells))) in
    apart c.in-Some.block.handle c.wanted_at.result wrong
    (sym (ap (λ (b : Block). b.handle) same)
    ∙ has_wanted truth c.args.area c.args.slot c.args.slots.now c.wanted_at.result c.requires.slot spells c.wanted_at.ensures.used c.wanted_at.ensures.unused header)

pub returns-clause-there : goal.returns-clause-there
returns-clause-there g c = λ tells right.
    let number : 1024 * c.from.result + c.from-2.result ≡ 1024 * c.args.area + c.args.slot = omega (arith, c.from.ensures, c.from-2.ensures) in
    record {
      block = c.in-Some.block;
      is = subst (λ (n : ℕ). g.B.Blocks.stands c.args.blocks.now n c.in-Some.block) number (of_some _ c.in_ok-block.field-0 c.in-Some.block c.in-Some.is (c.in_ok-block.ensures.some tells));
    }
