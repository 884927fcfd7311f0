use Rattle.std.proofs.Common.{◌≡◌, ◌+◌, ◌<◌, ℕ, List, Some, None, false, max, arith, subst, sym, ap, ◌∙◌}
use Rattle.std.specs.Prelude.{bytes_eq}
use Rattle.std.proofs.lemmas.Slice.Eq.{bytes_eq-Decides}
use Rattle.bx_blink.specs.Leaves.{IsLeafFor}
use Rattle.bx_changes.specs.bx_files.proofs.Slots.{search_block}
use Rattle.bx_page.specs.Contents.{first, from}
use Rattle.bx_truth.specs.Keys.{content_key}
use Rattle.bx_truth.specs.PageTrees.{map_of}
use Rattle.bx_sizes.specs.FirstPieces.{GoesOnTo, IsLeastIndex}
use Rattle.bx_sizes.proofs.Onward.{above_key, leads_behind, leads_here, leads_nowhere, leads_on, need_goes_on}
use Rattle.bx_sizes.proofs.first_pieces.next_from.Goals as goal

pub returns-then-eq-clause-map : goal.returns-then-eq-clause-map
returns-then-eq-clause-map g c = λ truth tree u.
    let leaf : IsLeafFor tree (content_key c.args.at) c.in-Ok.leaf =
    subst (λ (key : List ℕ). IsLeafFor tree key c.in-Ok.leaf) c.content_key-key.ensures (c.in-Ok.ensures.map c.args.areas truth tree (rw c.new-none.ensures u)) in
    let is : first (from c.in-Ok.leaf.entries (content_key c.args.at)) ≡ Some c.in-Some.entry =
    sym (c.in-Some.ensures ∙ ap (λ (key : List ℕ). first (from c.in-Ok.leaf.entries key)) c.content_key-key.ensures) in
    let one : c.in-Some.entry.key ≡ content_key c.args.at =
    sym c.key.ensures ∙ (bytes_eq-Decides c.key.result.now c.as_slice.result.now).0 (sym c.eq.ensures ∙ c.if-eq.true) ∙ c.as_slice.ensures ∙ c.content_key-key.ensures in
    subst (GoesOnTo (map_of tree) c.args.at) (sym c.from.ensures) (leads_here tree c.args.at c.ranges.at.fits c.in-Ok.leaf leaf c.in-Some.entry is one)

pub returns-in-Some-clause-map : goal.returns-in-Some-clause-map
returns-in-Some-clause-map g c = λ truth tree u.
    let leaf : IsLeafFor tree (content_key c.args.at) c.in-Ok.leaf =
    subst (λ (key : List ℕ). IsLeafFor tree key c.in-Ok.leaf) c.content_key-key.ensures (c.in-Ok.ensures.map c.args.areas truth tree (rw c.new-none.ensures u)) in
    let is : first (from c.in-Ok.leaf.entries (content_key c.args.at)) ≡ Some c.in-Some.entry =
    sym (c.in-Some.ensures ∙ ap (λ (key : List ℕ). first (from c.in-Ok.leaf.entries key)) c.content_key-key.ensures) in
    let other : bytes_eq c.in-Some.entry.key (content_key c.args.at) ≡ false =
    subst (λ (key : List ℕ). bytes_eq key (content_key c.args.at) ≡ false) c.key.ensures
    (subst (λ (key : List ℕ). bytes_eq c.key.result.now key ≡ false) (c.as_slice.ensures ∙ c.content_key-key.ensures) (sym c.eq.ensures ∙ c.if-eq.false)) in
    leads_on tree c.args.at c.ranges.at.fits c.in-Ok.leaf leaf c.in-Some.entry c.least_index.result is other c.least_index.ensures.fits
    (subst (λ (key : List ℕ). IsLeastIndex key c.least_index.result) c.key-else-eq.ensures c.least_index.ensures.least)

pub returns-in-Some-clause-onward : goal.returns-in-Some-clause-onward
returns-in-Some-clause-onward g c =
    let is : first (from c.in-Ok.leaf.entries (content_key c.args.at)) ≡ Some c.in-Some.entry =
    sym (c.in-Some.ensures ∙ ap (λ (key : List ℕ). first (from c.in-Ok.leaf.entries key)) c.content_key-key.ensures) in
    let other : bytes_eq c.in-Some.entry.key (content_key c.args.at) ≡ false =
    subst (λ (key : List ℕ). bytes_eq key (content_key c.args.at) ≡ false) c.key.ensures
    (subst (λ (key : List ℕ). bytes_eq c.key.result.now key ≡ false) (c.as_slice.ensures ∙ c.content_key-key.ensures) (sym c.eq.ensures ∙ c.if-eq.false)) in
    let least : IsLeastIndex c.in-Some.entry.key c.least_index.result = subst (λ (key : List ℕ). IsLeastIndex key c.least_index.result) c.key-else-eq.ensures c.least_index.ensures.least in
    let less : c.args.at < c.least_index.result = (least c.args.at c.ranges.at.fits).0 (above_key c.in-Ok.leaf.entries (content_key c.args.at) c.in-Some.entry is other) in
    omega (arith, less)

pub returns-in-Some-high-clause-map : goal.returns-in-Some-high-clause-map
returns-in-Some-high-clause-map g c = λ truth tree u.
    let leaf : IsLeafFor tree (content_key c.args.at) c.in-Ok.leaf =
    subst (λ (key : List ℕ). IsLeafFor tree key c.in-Ok.leaf) c.content_key-key.ensures (c.in-Ok.ensures.map c.args.areas truth tree (rw c.new-none.ensures u)) in
    let none : first (from c.in-Ok.leaf.entries (content_key c.args.at)) ≡ None = sym (c.in-None.ensures ∙ ap (λ (key : List ℕ). first (from c.in-Ok.leaf.entries key)) c.content_key-key.ensures) in
    let next : c.max.result ≡ max c.least_index-in-Some-high.result (c.args.at + 1) = omega (arith, c.max.ensures, c.from-in-Some-high.ensures) in
    subst (GoesOnTo (map_of tree) c.args.at) (sym next)
    (leads_behind tree c.args.at c.ranges.at.fits c.in-Ok.leaf leaf c.in-Some-high.high.now c.least_index-in-Some-high.result none (sym c.in-Some-high.ensures) c.least_index-in-Some-high.ensures.fits c.least_index-in-Some-high.ensures.least)

pub returns-in-Ok-clause-map : goal.returns-in-Ok-clause-map
returns-in-Ok-clause-map g c = λ truth tree u.
    let leaf : IsLeafFor tree (content_key c.args.at) c.in-Ok.leaf =
    subst (λ (key : List ℕ). IsLeafFor tree key c.in-Ok.leaf) c.content_key-key.ensures (c.in-Ok.ensures.map c.args.areas truth tree (rw c.new-none.ensures u)) in
    let none : first (from c.in-Ok.leaf.entries (content_key c.args.at)) ≡ None = sym (c.in-None.ensures ∙ ap (λ (key : List ℕ). first (from c.in-Ok.leaf.entries key)) c.content_key-key.ensures) in
    leads_nowhere tree c.args.at c.ranges.at.fits c.in-Ok.leaf leaf none (sym c.in-None-high.ensures)

pub returns-in-Err-Need-clause-map : goal.returns-in-Err-Need-clause-map
returns-in-Err-Need-clause-map g c = λ truth tree u.
    need_goes_on (map_of tree) c.args.at c.args.areas c.in-Err-Need.block c.needed.result (rw c.in-Err-Need.field-0-is at c.needed.ensures)
    (search_block c.args.areas (g.V.View.held c.args.view.now) (g.V.View.hints c.args.view.now) truth c.args.root tree c.content_key-key.result c.in-Err-Need.block _ u
    (rw (c.in-Err-Need.field-0-is, c.new-none.ensures) at c.in-Err-Need.ensures.fair).1)

pub returns-in-Err-Stale-clause-map : goal.returns-in-Err-Stale-clause-map
returns-in-Err-Stale-clause-map g c = λ truth tree u. rw c.in-Err-Stale.field-0-is at (c.in-Err-Stale.ensures.map c.args.areas truth tree (rw c.new-none.ensures u))
