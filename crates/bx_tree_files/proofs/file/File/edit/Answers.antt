use Rattle.bx_tree_files.proofs.Edited.{is_entered, is_replaced, is_taken_out, on_ok_from}
use Rattle.bx_tree_files.proofs.file.File.edit.Goals as goal

pub returns-in-Entered-clause-is : goal.returns-in-Entered-clause-is
returns-in-Entered-clause-is c =
    on_ok_from c.enter.result _ _
    (λ same. rw same (is_entered c.args.now c.in-Entered.name.now c.in-Entered.handle c.in-Entered.counts c.args.self.now c.requires.is))
    c.enter.ensures.ok

pub returns-in-Replaced-clause-is : goal.returns-in-Replaced-clause-is
returns-in-Replaced-clause-is c =
    on_ok_from c.replace.result _ _
    (λ same. rw same (is_replaced c.args.now c.in-Replaced.name.now c.in-Replaced.handle c.in-Replaced.goes c.in-Replaced.comes c.args.self.now c.requires.is))
    c.replace.ensures.ok

pub returns-in-TakenOut-clause-is : goal.returns-in-TakenOut-clause-is
returns-in-TakenOut-clause-is c =
    rw c.take_out.ensures (is_taken_out c.args.now c.in-TakenOut.name.now c.in-TakenOut.counts c.args.self.now c.requires.is)
