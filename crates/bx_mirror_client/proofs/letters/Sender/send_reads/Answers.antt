use Rattle.std.proofs.Common.{List, Some, ◌++◌, length, refl, sym, ◌∙◌, ap}
use Rattle.std.proofs.lemmas.Option.{slice_get_past, slice_get_read}
use Rattle.bx_post.specs.declared.packets.Letter.{Letter}
use Rattle.bx_rows.proofs.Pushed.{on_ok}
use Rattle.bx_mirror_client.proofs.Asked.{none_asked, row_asked}
use Rattle.bx_mirror_client.proofs.letters.Sender.send_reads.Goals as goal

pub returns-in-None : goal.returns-in-None
returns-in-None c =
    none_asked c.args.before.now c.args.self.now.node c.args.asking.now c.in-Some.asking c.args.rows.now c.args.out.now c.in-Some.is
    (sym (slice_get_past c.args.rows.now c.in-Some.asking.device c.in-None.ensures.lookup.3))

pub returns-in-Some-get : goal.returns-in-Some-get
returns-in-Some-get c =
    let row = c.in-Some-get.row.now in
    let rows = c.args.rows.now in
    let there = slice_get_read rows (length rows) c.in-Some.asking.device row refl c.in-Some-get.ensures.lookup.3.0 c.in-Some-get.ensures.lookup.1 in
    on_ok c.ask_if_new.result _ _
    (λ e. e ∙ ap (λ (letters : List Letter). c.args.out.now ++ letters) (row_asked c.args.before.now c.args.self.now.node c.args.asking.now c.in-Some.asking rows (Some row) c.in-Some.is (sym there)))
    c.ask_if_new.ensures
