use Rattle.std.proofs.Common.{◌≡◌, false, refl, sym}
use Rattle.std.specs.Prelude.{codes}
use Rattle.std.specs.Str.{bytes_eq}
use Rattle.bx_directory_reads.proofs.LookedUp.{entry_means, need_means, none_means}
use Rattle.bx_reads.specs.bx_files.proofs.Slots.{search_block}
use Rattle.bx_truth.specs.Keys.{name_key}
use Rattle.bx_directory_reads.proofs.lookups.meant.Goals as goal

pub returns-in-Ok-clause-means : goal.returns-in-Ok-clause-means
returns-in-Ok-clause-means g c = λ truth tree file parent next names has there body_is parent_is.
    let not_dot : bytes_eq c.args.name.now (codes ".") ≡ false = sym (rw c.as_slice.ensures at c.if-eq.ensures) in
    let not_dots : bytes_eq c.args.name.now (codes "..") ≡ false = sym (rw c.as_slice-2.ensures at c.if-eq-2.ensures) in
    entry_means tree file parent next names c.args.name.now body_is not_dot not_dots c.in-Ok.field-0-0 c.in-Ok.found (c.in-Ok.ensures.list c.args.areas truth names has)

pub returns-in-Err-Absent-clause-means : goal.returns-in-Err-Absent-clause-means
returns-in-Err-Absent-clause-means g c = λ truth tree file parent next names has there body_is parent_is.
    let not_dot : bytes_eq c.args.name.now (codes ".") ≡ false = sym (rw c.as_slice.ensures at c.if-eq.ensures) in
    let not_dots : bytes_eq c.args.name.now (codes "..") ≡ false = sym (rw c.as_slice-2.ensures at c.if-eq-2.ensures) in
    (refl, none_means tree file parent next names c.args.name.now body_is not_dot not_dots (rw c.in-Err-Absent.field-0-is at (c.in-Err-Absent.ensures.list c.args.areas truth names has)))

pub returns-in-Err-Need-clause-means : goal.returns-in-Err-Need-clause-means
returns-in-Err-Need-clause-means g c = λ truth tree file parent next names has there body_is parent_is.
    need_means tree file c.args.name.now c.args.areas c.in-Err-Need.at c.needed.result c.needed.ensures
    (search_block c.args.areas (g.V.View.held c.args.view.now) (g.V.View.hints c.args.view.now) truth c.args.inode.now.tree has.tree (name_key c.args.name.now) c.in-Err-Need.at _ has.under (rw c.in-Err-Need.field-0-is at c.in-Err-Need.ensures.fair).1)

pub returns-in-Err-Stale-clause-means : goal.returns-in-Err-Stale-clause-means
returns-in-Err-Stale-clause-means g c = λ truth tree file parent next names has there body_is parent_is. absurd (rw c.in-Err-Stale.field-0-is at (c.in-Err-Stale.ensures.list c.args.areas truth names has))
