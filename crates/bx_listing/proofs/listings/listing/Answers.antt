use Rattle.std.proofs.Common.{◌≡◌, ℕ, List, ◌∷◌, ◌++◌, sym, ap, ◌∙◌, append_assoc}
use Rattle.std.proofs.lemmas.Grind.{flat_map-append}
use Rattle.std.proofs.lemmas.List.Elements.{All-head, All-rest, All-same}
use Rattle.bx_base.specs.Text.{ended, text_of}
use Rattle.bx_tree_files.specs.declared.file.File.{File}
use Rattle.bx_tree_files.specs.Files.{IsFile}
use Rattle.bx_model.specs.Listing.{body_lines, file_line, listing_lines}
use Rattle.bx_listing.proofs.listings.listing.Goals as goal

one_file_more : (whole now next : List ℕ) (file : File) (files : List File) → whole ≡ now ++ text_of (listing_lines (file ∷ files))
    → next ≡ now ++ text_of (file_line file ∷ body_lines file.body) → whole ≡ next ++ text_of (listing_lines files)
one_file_more whole now next file files is put =
    is
    ∙ ap (λ (more : List ℕ). now ++ more) (flat_map-append ended (file_line file ∷ body_lines file.body) (listing_lines files))
    ∙ sym (append_assoc now (text_of (file_line file ∷ body_lines file.body)) (text_of (listing_lines files)))
    ∙ ap (λ (text : List ℕ). text ++ text_of (listing_lines files)) (sym put)

pub put_file-requires : goal.put_file-requires
put_file-requires c =
    All-head IsFile c.in-Some.file.now c.next.new.self (All-same IsFile (c.in-Some.file.now ∷ c.next.new.self) c.loop-file.file-iterator (sym c.in-Some.ensures.steps) c.loop-file.invariant.files)

pub loop-file-preserved : goal.loop-file-preserved
loop-file-preserved c = record {
  files = All-rest IsFile c.in-Some.file.now c.next.new.self c.loop-file.file-iterator c.in-Some.ensures.steps c.loop-file.invariant.files;
  text = one_file_more (text_of (listing_lines c.args.tree.now.files)) c.loop-file.text.items c.put_file.new.text.items c.in-Some.file.now c.next.new.self
      (c.loop-file.invariant.text ∙ ap (λ (files : List File). c.loop-file.text.items ++ text_of (listing_lines files)) c.in-Some.ensures.steps) c.in_ok-put_file.ensures;
}
