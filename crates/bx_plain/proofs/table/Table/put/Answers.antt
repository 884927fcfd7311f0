use Rattle.std.proofs.Common.{◌≡◌, ◌∙◌, List, true, sym, ap, subst}
use Rattle.std.specs.Prelude.{IsSome}
use Rattle.std.specs.List.{list_any}
use Rattle.bx_plain.specs.declared.rows.Row.{Row}
use Rattle.bx_plain.specs.Rows.{place_in, sessions_at}
use Rattle.bx_plain.specs.Tables.{flat}
use Rattle.bx_plain.proofs.Blocks.{found_at, rise_is}
use Rattle.bx_plain.proofs.Order.{flat_order, sessions_stay}
use Rattle.bx_plain.proofs.Waiting.{AllWait, more_wait, put_waits, settled}
use Rattle.bx_plain.proofs.table.Table.put.Goals as goal

pub invariant_of-self-2 : goal.invariant_of-self-2
invariant_of-self-2 c =
    let is = c.self.invariant in
    let block = c.args.row.block in
    let old = flat c.self.inside.blocks.entries in
    let entries = c.put_row.new.blocks.entries in
    let noted = more_wait c.self.inside.waiting c.note.new.waiting old c.note.ensures.more is.wait in
    let put = subst (AllWait c.note.new.waiting) (sym c.in_ok-put_row.ensures.put) (put_waits c.note.new.waiting old c.args.row c.in_ok-note.ensures.row noted) in
    let kept = c.rows_of.ensures ∙ found_at block entries (rise_is entries c.put_row.ensures.ordered) c.put_row.ensures.theirs in
    record {
      ordered = c.put_row.ensures.ordered;
      theirs = c.put_row.ensures.theirs;
      rises = c.settle.ensures.ordered (c.note.ensures.ordered is.rises);
      wait = settled c.note.new.waiting c.settle.new.waiting block (flat entries) (subst (λ (rows : List Row). list_any (λ (row : Row). row.is_wanted) rows ≡ true → c.settle.new.waiting ≡ c.note.new.waiting) kept c.settle.ensures.stays) c.settle.ensures.others put;
    }

pub returns-clause-sessions : goal.returns-clause-sessions
returns-clause-sessions c = λ some.
    let is = c.self.invariant in
    let entries = c.self.inside.blocks.entries in
    let there = subst (λ (rows : List Row). IsSome (place_in rows c.args.row.session c.args.row.block)) (sym c.self.view_is) some in
    ap (λ (rows : List Row). sessions_at c.args.row.block rows) c.in_ok-put_row.ensures.put
    ∙ sessions_stay (flat entries) c.args.row (flat_order entries (rise_is entries is.ordered) is.theirs) there ∙ ap (λ (rows : List Row). sessions_at c.args.row.block rows) c.self.view_is
