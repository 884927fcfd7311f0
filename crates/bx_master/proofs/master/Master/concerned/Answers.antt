use Rattle.std.proofs.Common.{◌≡◌, ◌∙◌, ℕ, Option, Vec, Global, ap, sym}
use Rattle.std.proofs.lemmas.Result.{IfOk-weaker}
use Rattle.bx_lock_words.specs.declared.words.Want.{Want}
use Rattle.bx_master.specs.Masters.{Mastering}
use Rattle.bx_master.specs.Serving.{concerned}
use Rattle.bx_master.proofs.Concerned.{all_concerned}
use Rattle.bx_master.proofs.master.Master.concerned.Goals as goal

pub returns-in-None-clause-is : goal.returns-in-None-clause-is
returns-in-None-clause-is c =
    let same : c.self.inside.waiting ≡ c.args.self.now.waiting = ap (λ (m : Mastering). m.waiting) c.self.view_is in
    let all : concerned c.args.only c.args.self.now.waiting ≡ c.args.self.now.waiting = ap (λ (only : Option ℕ). concerned only c.args.self.now.waiting) c.in-None.is ∙ all_concerned c.args.self.now.waiting in
    IfOk-weaker {X = Vec Want Global} c.all.result (λ wants. wants.items ≡ c.self.inside.waiting) (λ wants. wants.items ≡ concerned c.args.only c.args.self.now.waiting) (λ wants is. is ∙ same ∙ sym all) c.all.ensures.is
