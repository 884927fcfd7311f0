use Rattle.std.proofs.Common.{◌≡◌, Option, Some, None, sym, ◌∙◌, subst}
use Rattle.std.specs.Prelude.{Contains}
use Rattle.bx_tree_files.specs.declared.file.File.{File}
use Rattle.bx_tree_files.specs.Names.{names_of}
use Rattle.bx_tree_laws.proofs.Lookups.{some_same}
use Rattle.bx_audit_links.proofs.ReachedOnes.{reaches_none, reaches_same}
use Rattle.bx_audit_links.proofs.reached.reach_from.Goals as goal

pub returns-clause-reaches : goal.returns-clause-reaches
returns-clause-reaches c = reaches_same _ _ _ _ _ _
    (λ handle named. record { file = c.in-Some.file.now; there = sym c.in-Some.ensures.found; entry = named.0; contains = named.1; names_it = named.2 })
    (λ handle into. let same = some_same into.file c.in-Some.file.now (sym into.there ∙ sym c.in-Some.ensures.found) in
    (into.entry, subst (λ (f : File). Contains (names_of f.body) into.entry) same into.contains, into.names_it))
    c.in_ok-reach_body.ensures.reaches

pub returns-in_default-clause-reaches : goal.returns-in_default-clause-reaches
returns-in_default-clause-reaches c = reaches_none _ c.args.unreached.now c.args.reached.now.items
    (λ handle into. let both : ◌≡◌ {A = Option File} None (Some into.file) = c.in_default.ensures.found ∙ into.there in absurd cc)
