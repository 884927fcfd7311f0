use Rattle.std.proofs.Common.{◌≡◌, ℕ, Bool, true, false, eqb, List, Option, Some, None, refl}
use Rattle.std.specs.Prelude.{IfSome, option_map}
use Rattle.std.proofs.lemmas.Bool.{eqb-true}
use Rattle.bx_tree_files.specs.declared.file.File.{File}
use Rattle.bx_tree_files.specs.Files.{with_changed, file_at}
use Rattle.bx_tree_files.specs.FileEdits.{CanEnter, CanLink}
use Rattle.bx_tree_files.specs.Changes.{entered}
use Rattle.bx_tree_parts.specs.Times.{Time}
use Rattle.bx_tree_files.proofs.Changed.{file_at-changed, file_at-unchanged}
use Rattle.bx_tree_files.proofs.files.Files.link.Goals as goal

both : (change : File → File) (name : List ℕ) (found : Option File) → IfSome found (CanEnter name) → IfSome found CanLink → IfSome (option_map change found) CanLink
both change name None enters links = tt
both change name (Some file) enters links =
    let yes = enters.kind in
    let no = links.kind in
    absurd cc

links_by : (b : Bool) (files : List File) (directory handle other : ℕ) (name : List ℕ) (now : Time) → eqb handle directory ≡ b
    → IfSome (file_at files directory) (CanEnter name) → IfSome (file_at files handle) CanLink
    → IfSome (file_at (with_changed files directory (entered now name other false)) handle) CanLink
links_by true files directory handle other name now is enters links =
    let same : handle ≡ directory = eqb-true handle directory is in
    rw (same, file_at-changed files directory (entered now name other false) (λ file. refl)) (both (entered now name other false) name (file_at files directory) enters (rw same at links))
links_by false files directory handle other name now apart enters links =
    rw (file_at-unchanged files directory handle (entered now name other false) (λ file. refl) apart) links

pub edit-requires-2 : goal.edit-requires-2
edit-requires-2 c =
    rw c.in_ok-edit.ensures.ok (links_by (eqb c.args.handle c.args.directory) c.args.self.now c.args.directory c.args.handle c.args.handle c.args.name.now c.args.now refl c.requires.enters c.requires.links)
