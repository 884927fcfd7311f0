-- The laws of a file tree, each from its definition.
use Rattle.std.proofs.Common.{◌≡◌, ℕ, ◌+◌, ◌<◌, arith, true, List, Some, None, Option, refl, sym, ap, ◌∙◌, subst, inl, inr, [], ◌^◌}
use Rattle.std.specs.Prelude.{◌⊎◌, ◌≢◌, Contains, AllPairs, count_by}
use Rattle.bx_model.specs.declared.call.Call.{Call}
use Rattle.bx_model.specs.bx_tree_files.specs.declared.file.Body.{Body}
use Rattle.bx_model.specs.bx_tree_files.specs.declared.file.Body.TheVariants.{Bytes, Path, Names}
use Rattle.bx_model.specs.bx_tree_files.specs.declared.file.File.{File}
use Rattle.bx_model.specs.bx_tree_files.specs.declared.file.Name.{Name}
use Rattle.bx_model.specs.declared.reply.Reply.{Reply}
use Rattle.bx_model.specs.declared.tree.Tree.{Tree}
use Rattle.bx_model.specs.Act.{act}
use Rattle.bx_model.specs.bx_tree_files.specs.Files.{file_at, is_directory}
use Rattle.bx_model.specs.FileTrees.{HasEntries, HasLinks, IsFileTree, is_directory_at, links_to}
use Rattle.bx_model.specs.bx_tree_files.specs.Names.{names_of}
use Rattle.bx_tree_laws.specs.Acting.{PathFits}
use Rattle.bx_tree_laws.specs.Ways.{IsIn}
use Rattle.bx_tree_laws.specs.Telling.{HandlesFit}
use Rattle.bx_tree_laws.proofs.Counts.{contained_cases, none_contained}
use Rattle.bx_tree_laws.proofs.Acts.{act_follows}
use Rattle.bx_tree_laws.proofs.Lookups.{some_same}
use Rattle.bx_tree_laws.proofs.Members.{entry_of}
use Rattle.bx_tree_laws.proofs.Rises.{at_contained}

pub one_file : (tree : Tree) (file other : File) → IsFileTree tree → Contains tree.files file → Contains tree.files other → file.handle ≡ other.handle → file ≡ other
one_file tree file other was a b same =
    some_same file other (sym (at_contained tree.files file was.rise a) ∙ ap (file_at tree.files) same ∙ at_contained tree.files other was.rise b)

pub handles_apart : (tree : Tree) → IsFileTree tree → AllPairs (λ file later. file.handle ≢ later.handle) tree.files
handles_apart tree was i j d less within same = let more = was.rise i j d less within in omega (arith, more, same)

pub never_back : (tree : Tree) (call : Call) (moment spare made : ℕ) (reply : Reply) (next : Tree) (handle : ℕ) → IsFileTree tree → PathFits call.args → act tree call moment spare made ≡ Some (reply, next)
    → Contains tree.given handle → file_at tree.files handle ≡ None → file_at next.files handle ≡ None
never_back tree call moment spare made reply next handle was fits acts given gone = by (file_at next.files handle) refl
  where
    by : (found : Option File) → file_at next.files handle ≡ found → found ≡ None
    by None is = refl
    by (Some file) is = elim ((act_follows tree call moment spare made reply next was fits acts).grows.back handle file is) [
      | inl old ↦ (let no' : None ≡ Some old.0 = sym gone ∙ old.1 in absurd cc)
      | inr fresh ↦ absurd (fresh given)
    ]

pub root_directory : (tree : Tree) → IsFileTree tree → (file : File) × (next : ℕ) × (names : List Name) × (file_at tree.files tree.root ≡ Some file) × (file.body ≡ Names tree.root next names)
root_directory tree was = was.root

links_of_directory : (files : List File) (file : File) (body : Body) (parent next : ℕ) (names : List Name) → body ≡ Names parent next names → HasLinks files file body
    → file.nlink ≡ 2 + count_by (λ entry. is_directory_at files entry.handle) names
links_of_directory files file body parent next names is has = subst (HasLinks files file) is has

pub directory_links : (tree : Tree) (handle : ℕ) (file : File) (parent next : ℕ) (names : List Name) → IsFileTree tree → file_at tree.files handle ≡ Some file → file.body ≡ Names parent next names
    → file.nlink ≡ 2 + count_by (λ entry. is_directory_at tree.files entry.handle) names
directory_links tree handle file parent next names was is body = links_of_directory tree.files file file.body parent next names body (was.links handle file is)

pub one_name : (tree : Tree) (handle : ℕ) (file : File) → IsFileTree tree → file_at tree.files handle ≡ Some file → is_directory file ≡ true → handle ≢ tree.root → links_to tree.files handle ≡ 1
one_name tree handle file was is one apart = omega (arith, was.named handle file is apart, was.once handle file is one)

pub parent_is_where : (tree : Tree) (handle : ℕ) (file : File) (parent next : ℕ) (names : List Name) (directory : ℕ) → IsFileTree tree → file_at tree.files handle ≡ Some file → file.body ≡ Names parent next names
    → IsIn tree.files directory handle → parent ≡ directory
parent_is_where tree handle file parent next names directory was is body into =
    let e = entry_of tree was directory into.file into.there into.entry into.contains in
    let same : e.file ≡ file = some_same e.file file (sym e.there ∙ ap (file_at tree.files) into.names_it ∙ is) in
    e.parent parent next names (ap (λ (f : File). f.body) same ∙ body)

numbers_of : (files : List File) (handle : ℕ) (body : Body) → HasEntries files handle body → AllPairs (λ entry later. entry.number < later.number) (names_of body)
numbers_of files handle (Bytes bytes) has = λ i j d less within. absurd (omega (arith, within))
numbers_of files handle (Path path) has = λ i j d less within. absurd (omega (arith, within))
numbers_of files handle (Names parent next names) has = has.rise

pub numbers_rise : (tree : Tree) (handle : ℕ) (file : File) → IsFileTree tree → file_at tree.files handle ≡ Some file → AllPairs (λ entry later. entry.number < later.number) (names_of file.body)
numbers_rise tree handle file was is = numbers_of tree.files handle file.body (was.entries handle file is)

pub fit_kept : (tree : Tree) (call : Call) (moment spare made : ℕ) (reply : Reply) (next : Tree) → IsFileTree tree → PathFits call.args → HandlesFit tree → made < 2 ^ 64 → act tree call moment spare made ≡ Some (reply, next) → HandlesFit next
fit_kept tree call moment spare made reply next was fits fit made_fits acts handle there =
    elim ((act_follows tree call moment spare made reply next was fits acts).grows.only handle there) [
      | inl old ↦ fit handle old
      | inr new ↦ one (contained_cases made handle [] new)
    ]
  where
    one : (made ≡ handle) ⊎ Contains [] handle → handle < 2 ^ 64
    one (inl is) = subst (λ (h : ℕ). h < 2 ^ 64) is made_fits
    one (inr none) = absurd (none_contained handle none)
