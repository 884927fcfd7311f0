use Rattle.std.proofs.Common.{◌∙◌, ℕ, Vec, Global, Result, Ok, Err, refl, sym, ap, subst}
use Rattle.std.specs.Prelude.{OnErr}
use Rattle.std.specs.Ordering.{nat_cmp}
use Rattle.std.specs.BTreeMap.{BTreeMap, insert_entry}
use Rattle.bx_plain.specs.declared.rows.Row.{Row}
use Rattle.bx_plain.specs.Tables.{AreOf, AreTheirs, flat}
use Rattle.bx_plain.proofs.Blocks.{Entries, own_found, put_found, put_new, rise_is, same_set, theirs_new, theirs_set, with_own}
use Rattle.bx_plain.proofs.table.put_row.Goals as goal

abbrev Blocks : Type 0
Blocks = BTreeMap ℕ (Vec Row Global)

on_err : {X Y : Type 0} (r : Result X Y) (P : Type 0) → P → OnErr r P
on_err (Ok x) P is = tt
on_err (Err y) P is = is

pub put_among-requires : goal.put_among-requires
put_among-requires c = own_found c.args.row.block c.args.blocks.now.entries c.in-Some.rows.now c.requires.theirs (sym c.in-Some.ensures.value)

pub returns-in_err-put_among-clause-err : goal.returns-in_err-put_among-clause-err
returns-in_err-put_among-clause-err c =
    let set = (c.get_mut.follows.holds c.put_among.new.rows).0 in
    let same = ap (λ (entries : Entries). flat entries) set ∙ same_set c.args.row.block c.args.blocks.now.entries c.in-Some.rows.now c.put_among.new.rows (sym c.in-Some.ensures.value) c.in_err-put_among.ensures.err in
    on_err c.from_residual.result _ same

pub returns-in_err-put_among-clause-theirs : goal.returns-in_err-put_among-clause-theirs
returns-in_err-put_among-clause-theirs c =
    let set = (c.get_mut.follows.holds c.put_among.new.rows).0 in
    let own = own_found c.args.row.block c.args.blocks.now.entries c.in-Some.rows.now c.requires.theirs (sym c.in-Some.ensures.value) in
    subst (λ (entries : Entries). AreTheirs entries) (sym set) (theirs_set c.args.row.block c.args.blocks.now.entries c.put_among.new.rows c.requires.theirs (subst (AreOf c.args.row.block) (sym c.in_err-put_among.ensures.err) own))

pub returns-in-Some-clause-put : goal.returns-in-Some-clause-put
returns-in-Some-clause-put c =
    let set = (c.get_mut.follows.holds c.put_among.new.rows).0 in
    ap (λ (entries : Entries). flat entries) set
    ∙ put_found c.args.row c.args.blocks.now.entries c.in-Some.rows.now c.put_among.new.rows (rise_is c.args.blocks.now.entries c.requires.ordered) c.requires.theirs (sym c.in-Some.ensures.value) c.in_ok-put_among.ensures.ok

pub returns-in-Some-clause-theirs : goal.returns-in-Some-clause-theirs
returns-in-Some-clause-theirs c =
    let set = (c.get_mut.follows.holds c.put_among.new.rows).0 in
    let own = own_found c.args.row.block c.args.blocks.now.entries c.in-Some.rows.now c.requires.theirs (sym c.in-Some.ensures.value) in
    subst (λ (entries : Entries). AreTheirs entries) (sym set)
    (theirs_set c.args.row.block c.args.blocks.now.entries c.put_among.new.rows c.requires.theirs (subst (AreOf c.args.row.block) (sym c.in_ok-put_among.ensures.ok) (with_own c.args.row.block c.in-Some.rows.now.items c.args.row refl own)))

pub returns-clause-put : goal.returns-clause-put
returns-clause-put c =
    let entries = c.in_ok-insert.ensures.entries ∙ ap (λ (blocks : Blocks). insert_entry nat_cmp blocks.entries c.args.row.block c.in_ok-rows.rows) c.get_mut.follows.holds-at-none in
    ap (λ (es : Entries). flat es) entries
    ∙ put_new c.args.row c.args.blocks.now.entries c.in_ok-rows.rows (rise_is c.args.blocks.now.entries c.requires.ordered) c.requires.theirs (sym c.in_default.ensures.value) c.in_ok-rows.ensures.items

pub returns-clause-theirs : goal.returns-clause-theirs
returns-clause-theirs c =
    let entries = c.in_ok-insert.ensures.entries ∙ ap (λ (blocks : Blocks). insert_entry nat_cmp blocks.entries c.args.row.block c.in_ok-rows.rows) c.get_mut.follows.holds-at-none in
    subst (λ (es : Entries). AreTheirs es) (sym entries)
    (theirs_new c.args.row c.args.blocks.now.entries c.in_ok-rows.rows c.requires.theirs (sym c.in_default.ensures.value) c.in_ok-rows.ensures.items)
