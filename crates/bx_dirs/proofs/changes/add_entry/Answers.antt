use Rattle.std.proofs.Common.{List, subst, inl, inr, Ok, Err}
use Rattle.bx_records.specs.Drafts.{Changed}
use Rattle.bx_dirs.specs.Changes.{PutsByName, PutsByNumber, entry_of}
use Rattle.bx_dirs.proofs.changes.add_entry.Goals as goal

pub returns-in-Err-clause-ends : goal.returns-in-Err-clause-ends
returns-in-Err-clause-ends g c =
    let puts = λ (d new : List Changed). PutsByName (g.V.View.held c.args.view.now) (g.V.View.hints c.args.view.now) d new c.args.root (entry_of c.args.place.0 c.args.name.now c.args.place.1) (Err c.in-Err.error) in
    inl (subst (λ (d : List Changed). puts d d) (c.in_ok-next.ensures c.blocks-blocks.ensures.draft) (subst (λ (d : List Changed). puts c.in_ok-next.next d) c.in-Err.ensures.unchanged c.in-Err.ensures.ends))

pub returns-in-Ok-put_by_number-clause-ends : goal.returns-in-Ok-put_by_number-clause-ends
returns-in-Ok-put_by_number-clause-ends g c = record {
  mid = c.put_by_name.new.draft;
  named = subst (λ (d : List Changed). PutsByName (g.V.View.held c.args.view.now) (g.V.View.hints c.args.view.now) d c.put_by_name.new.draft c.args.root (entry_of c.args.place.0 c.args.name.now c.args.place.1) (Ok tt))
      (c.in_ok-next.ensures c.blocks-blocks.ensures.draft) c.in-Ok.ensures.ends;
  numbered = c.in-Ok-put_by_number.ensures.ends;
}

pub returns-in-Err-put_by_number-clause-ends : goal.returns-in-Err-put_by_number-clause-ends
returns-in-Err-put_by_number-clause-ends g c = inr (record {
  mid = c.put_by_name.new.draft;
  named = subst (λ (d : List Changed). PutsByName (g.V.View.held c.args.view.now) (g.V.View.hints c.args.view.now) d c.put_by_name.new.draft c.args.root (entry_of c.args.place.0 c.args.name.now c.args.place.1) (Ok tt))
      (c.in_ok-next.ensures c.blocks-blocks.ensures.draft) c.in-Ok.ensures.ends;
  numbered = subst (λ (d : List Changed). PutsByNumber (g.V.View.held c.args.view.now) (g.V.View.hints c.args.view.now) c.put_by_name.new.draft d c.args.root (entry_of c.args.place.0 c.args.name.now c.args.place.1) (Err c.in-Err-put_by_number.error))
      c.in-Err-put_by_number.ensures.unchanged c.in-Err-put_by_number.ensures.ends;
})
