use Rattle.std.proofs.Common.{ℕ, List, ◌≡◌, length, rules, ap, sym, subst, ◌∙◌, arith}
use Rattle.std.specs.Prelude.{map}
use Rattle.std.specs.List.{AllByRecursion}
use Rattle.std.proofs.lemmas.List.{length-map, take_all}
use Rattle.bx_places.specs.Places.{IsBlock}
use Rattle.bx_records.specs.Drafts.{Changed}
use Rattle.bx_records.specs.declared.record_head.RecordHead.{RecordHead}
use Rattle.bx_redo.proofs.Heads.{numbers_of}
use Rattle.bx_redo.proofs.text.head_of.Goals as goal

pub returns-clause-is : goal.returns-clause-is
returns-clause-is c =
    let number = λ (change : Changed). change.0 in
    let all = take_all c.loop-number.number-index c.args.blocks.now (omega (arith, c.loop-number-test.false)) in
    let is : c.loop-number.numbers ≡ map number c.args.blocks.now = c.loop-number.invariant ∙ ap (map number) all in
    record {
      call = search rules;
      moment = search rules;
      spare = search rules;
      made = search rules;
      count = omega (arith, ap length is, length-map c.args.blocks.now number, c.requires.draft.most);
      each = subst (AllByRecursion (IsBlock 64)) (sym is) (numbers_of 64 c.args.blocks.now c.requires.blocks);
    }

pub returns-clause-head : goal.returns-clause-head
returns-clause-head c =
    let number = λ (change : Changed). change.0 in
    let all = take_all c.loop-number.number-index c.args.blocks.now (omega (arith, c.loop-number-test.false)) in
    let is : c.loop-number.numbers ≡ map number c.args.blocks.now = c.loop-number.invariant ∙ ap (map number) all in
    let head : List ℕ → RecordHead
    = λ blocks. record { call = c.args.point.call; moment = c.args.point.moment; spare = c.args.point.spare; made = c.args.point.made; blocks = blocks } in
    ap head is
