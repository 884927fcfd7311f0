use Rattle.std.proofs.Common.{◌<◌, ℕ, List, length, sym, ap, subst, ◌∙◌}
use Rattle.bx_plain.specs.declared.rows.Row.{Row}
use Rattle.bx_plain.specs.Rows.{place_in}
use Rattle.bx_plain.proofs.Puts.{put_there, put_behind}
use Rattle.bx_plain.proofs.rows.put_among.Goals as goal

pub index_mut-requires : goal.index_mut-requires
index_mut-requires c =
    let place = sym (c.in-Some.ensures ∙ ap (λ (rows : List Row). place_in rows c.args.row.session c.args.row.block) c.deref.ensures.value) in
    let less = (put_there c.args.rows.now.items c.args.row c.in-Some.place c.requires place).there in
    subst (λ (n : ℕ). c.in-Some.place < n) c.deref.ensures.len (subst (λ (rows : List Row). c.in-Some.place < length rows) (sym c.deref.ensures.value) less)

pub returns-in-Some-clause-ok : goal.returns-in-Some-clause-ok
returns-in-Some-clause-ok c =
    let place = sym (c.in-Some.ensures ∙ ap (λ (rows : List Row). place_in rows c.args.row.session c.args.row.block) c.deref.ensures.value) in
    sym (put_there c.args.rows.now.items c.args.row c.in-Some.place c.requires place).put

pub returns-in-None-clause-ok : goal.returns-in-None-clause-ok
returns-in-None-clause-ok c =
    let none = sym (c.in-None.ensures ∙ ap (λ (rows : List Row). place_in rows c.args.row.session c.args.row.block) c.deref.ensures.value) in
    c.in_ok-push-in-None.ensures.items ∙ sym (put_behind c.args.rows.now.items c.args.row c.requires none)
