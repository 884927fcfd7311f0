use Rattle.std.proofs.Common.{sym, ap, ◌∙◌, List}
use Rattle.bx_page.specs.bx_base.specs.Text.{text_of}
use Rattle.bx_model.specs.bx_tree_files.specs.declared.file.File.{File}
use Rattle.bx_model.specs.Listing.{listing_lines}
use Rattle.bx_truth.specs.Chunks.{chunks_of}
use Rattle.bx_truth.proofs.OneFiles.{one_list}
use Rattle.bx_truth.proofs.truths.one_tree.Goals as goal

pub returns-clause-files : goal.returns-clause-files
returns-clause-files c = λ areas truth a b x y. one_list (chunks_of areas truth) x.owner y.owner x.stored y.stored a.files b.files x.in_order y.in_order x.are_files y.are_files

pub returns-clause-areas : goal.returns-clause-areas
returns-clause-areas c = λ areas truth a b x y. x.areas_are ∙ sym y.areas_are

pub returns-clause-root : goal.returns-clause-root
returns-clause-root c = λ areas truth a b x y. x.root_is ∙ sym y.root_is

pub returns-clause-listing : goal.returns-clause-listing
returns-clause-listing c = λ areas truth a b x y. ap (λ (files : List File). text_of (listing_lines files))
    (one_list (chunks_of areas truth) x.owner y.owner x.stored y.stored a.files b.files x.in_order y.in_order x.are_files y.are_files)
