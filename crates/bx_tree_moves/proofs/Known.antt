-- What is known of a move that meets no error.
use Rattle.std.proofs.Common.{◌≡◌, ℕ, Bool, true, false, cond, eqb, List, [], ◌∷◌, Option, Some, None, refl, sym, ap, subst, ◌∙◌, arith}
use Rattle.std.specs.Prelude.{bytes_eq, Result, Ok}
use Rattle.std.proofs.lemmas.Bool.{eqb-true}
use Rattle.std.proofs.lemmas.Bool.Decides.{nat_tests}
use Rattle.std.proofs.lemmas.Slice.Eq.{bytes_eq-Decides}
use Rattle.bx_tree_files.specs.declared.file.File.{File}
use Rattle.bx_tree_files.specs.declared.file.Name.{Name}
use Rattle.bx_model.specs.declared.reply.Reply.TheVariants as reply
use Rattle.bx_model.specs.declared.tree.Tree.{Tree}
use Rattle.bx_tree_files.specs.Entries.{entry_named}
use Rattle.bx_tree_files.specs.Files.{file_at, is_directory}
use Rattle.bx_model.specs.Moves.{IsPlace, move_between}
use Rattle.bx_tree_files.specs.Names.{names_of}
use Rattle.bx_model.specs.Renaming.{file_of_entry, is_same, move_errors, renamed}
use Rattle.bx_tree_files.specs.Times.{Time}
use Rattle.bx_tree_files.proofs.Changed.{handles_apart}
use Rattle.bx_tree_moves.proofs.Moved.{IsMove}

same_number : (n : ℕ) → eqb n n ≡ true
same_number n = grind (arith, nat_tests)

handle_by : (b : Bool) (first : File) (others : Option File) (handle : ℕ) (file : File) → eqb first.handle handle ≡ b → cond b (Some first) others ≡ Some file
    → (others ≡ Some file → file.handle ≡ handle) → file.handle ≡ handle
handle_by true first others handle file is found later =
    let same : first ≡ file = cc in
    subst (λ (f : File). f.handle ≡ handle) same (eqb-true first.handle handle is)
handle_by false first others handle file is found later = later found

-- the file at a handle has it
found_handle : (files : List File) (handle : ℕ) (file : File) → file_at files handle ≡ Some file → file.handle ≡ handle
found_handle [] handle file found = absurd cc
found_handle (first ∷ files) handle file found =
    handle_by (eqb first.handle handle) first (file_at files handle) handle file refl found (found_handle files handle file)

-- the file that an entry names is at its handle
named_there : (tree : Tree) (found : Option Name) (file : File) → file_of_entry tree found ≡ Ok (Some file) → file_at tree.files file.handle ≡ Some file
named_there tree None file e = absurd cc
named_there tree (Some entry) file e = by (file_at tree.files entry.handle) refl
  where
    by : (there : Option File) → file_at tree.files entry.handle ≡ there → file_at tree.files file.handle ≡ Some file
    by None is = let no = rw is at e in absurd cc
    by (Some other) is =
        let both : ◌≡◌ {A = Result (Option File) ℕ} (Ok (Some other)) (Ok (Some file)) = rw is at e in
        let same : other ≡ file = cc in
        let there : file_at tree.files entry.handle ≡ Some file = is ∙ ap (λ (f : File). Some f) same in
        subst (λ (handle : ℕ). file_at tree.files handle ≡ Some file) (sym (found_handle tree.files entry.handle file there)) there

abbrev ok_of : Option File → Result (Option File) ℕ
ok_of found = Ok found

module _ (tree : Tree) (source target moved : File) (entry : Name) (name new_name : List ℕ) (other : Option File) (source_is : IsPlace tree source) (target_is : IsPlace tree target)
    (found : entry_named (names_of source.body) name ≡ Some entry) (there : file_at tree.files entry.handle ≡ Some moved)
    (replaced : file_of_entry tree (entry_named (names_of target.body) new_name) ≡ Ok other) (differs : is_same moved other ≡ false) where
  -- one name in one directory is one file
  one_file : eqb source.handle target.handle ≡ true → bytes_eq new_name name ≡ true → ⊥
  one_file here same =
      let at : source.handle ≡ target.handle = eqb-true source.handle target.handle here in
      let source_there : file_at tree.files target.handle ≡ Some source = subst (λ (handle : ℕ). file_at tree.files handle ≡ Some source) at source_is.there in
      let both : ◌≡◌ {A = Option File} (Some source) (Some target) = sym source_there ∙ target_is.there in
      let one : source ≡ target = cc in
      let named : name ≡ new_name = sym ((bytes_eq-Decides new_name name).0 same) in
      let found_new : entry_named (names_of source.body) new_name ≡ Some entry = subst (λ (n : List ℕ). entry_named (names_of source.body) n ≡ Some entry) named found in
      let found_there : entry_named (names_of target.body) new_name ≡ Some entry = subst (λ (f : File). entry_named (names_of f.body) new_name ≡ Some entry) one found_new in
      let replaced_here : file_of_entry tree (Some entry) ≡ Ok other = subst (λ (o : Option Name). file_of_entry tree o ≡ Ok other) found_there replaced in
      let is_other : ◌≡◌ {A = Result (Option File) ℕ} (Ok (Some moved)) (Ok other) = rw there at replaced_here in
      let is : Some moved ≡ other = cc in
      let no : is_same moved (Some moved) ≡ false = ap (is_same moved) is ∙ differs in
      let yes' : is_same moved (Some moved) ≡ true = same_number moved.handle in
      cc

  names_apart : eqb source.handle target.handle ≡ true → bytes_eq new_name name ≡ false
  names_apart here = by (bytes_eq new_name name) refl
    where
      by : (b : Bool) → bytes_eq new_name name ≡ b → b ≡ false
      by false is = refl
      by true is = absurd (one_file here is)

  other_apart : (file : File) → other ≡ Some file → is_directory file ≡ false → eqb file.handle target.handle ≡ false
  other_apart file is kind =
      handles_apart tree.files file.handle target.handle file target
      (named_there tree (entry_named (names_of target.body) new_name) file (replaced ∙ ap (λ (o : Option File). ok_of o) is)) target_is.there
      (λ same. let no : true ≡ false = sym target_is.kind ∙ ap is_directory (sym same) ∙ kind in cc)

  pub is_move : IsMove source target moved name new_name other
  is_move = record { names = names_apart; apart = other_apart }

  pub comes_to : (now : Time) (spare : ℕ) → move_errors tree source target moved other spare ≡ Ok tt
      → move_between tree source name target new_name now spare ≡ Ok (reply.Status 0, renamed now tree source name target new_name moved other)
  comes_to now spare fine = rw (found, there, replaced, differs, fine) refl
