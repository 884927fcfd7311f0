use Rattle.std.proofs.Common.{◌≡◌, ℕ, List, ◌++◌, ap, ◌∙◌}
use Rattle.bx_call_parts.specs.declared.pages.Page.{Page}
use Rattle.bx_call_parts.specs.Pages.{dots, filled}
use Rattle.bx_call_parts.proofs.Filled.{page_listed}
use Rattle.bx_tree_files.specs.declared.file.Name.{Name}
use Rattle.bx_model.specs.declared.reply.Reply.TheVariants as Reply
use Rattle.bx_model.specs.Directories.{behind, numbered}
use Rattle.bx_tree_files.specs.Names.{names_of}
use Rattle.bx_tree_reads.proofs.directories.page_behind.Goals as goal

pub returns : goal.returns
returns c =
    let empty = c.new-page.result in
    let same : dots c.args.directory.now.handle c.args.parent ++ c.args.names.now ≡ numbered c.args.directory.now =
    ap (λ (names : List Name). dots c.args.directory.now.handle c.args.parent ++ names) c.requires.names
    ∙ ap (λ (parent : ℕ). dots c.args.directory.now.handle parent ++ names_of c.args.directory.now.body) c.requires.parent in
    ap (Reply.List c.fill.new.page.entries) c.end_word.ensures
    ∙ page_listed empty c.fill.new.page c.in_ok-is_end.is_end (behind c.args.cookie (numbered c.args.directory.now)) c.args.count
    (ap (λ (p : Page). p.entries) c.new-page.ensures) (ap (λ (p : Page). p.room) c.new-page.ensures)
    (c.in_ok-is_end.ensures ∙ ap (λ (names : List Name). filled empty (behind c.args.cookie names)) same)
