-- An entry is added to a directory by two entries of its tree, or taken; and is looked up by its name.
use Rattle.std.proofs.Common.{◌≡◌, ℕ, ◌^◌, ◌<◌, inl, inr, arith, List, [], ◌∷◌, ◌++◌, drop, get_or, sym, ap, ◌∙◌, Option, Some, None}
use Rattle.std.specs.Prelude.{◌≢◌, AllPairs, Contains, bytes_eq, if◌then◌else◌}
use Rattle.bx_model.specs.bx_tree_files.specs.declared.file.Body.TheVariants.{Names}
use Rattle.bx_model.specs.bx_tree_files.specs.declared.file.File.{File}
use Rattle.bx_model.specs.bx_tree_files.specs.declared.file.Name.{Name}
use Rattle.bx_model.specs.declared.tree.Tree.{Tree}
use Rattle.bx_model.specs.bx_tree_files.specs.Files.{file_at, with_file}
use Rattle.bx_page.specs.declared.entry.Entry.{Entry}
use Rattle.bx_page.specs.Contents.{with_entry, value_of}
use Rattle.bx_truth.specs.Chunks.{chunks_of}
use Rattle.bx_truth.specs.Keys.{name_key, name_value, entry_key, entry_value}
use Rattle.bx_truth.specs.Stands.{StandsFor}
use Rattle.bx_truth.specs.Stored.{AreNames, IsOfName}
use Rattle.bx_truth.specs.PageTrees.{Chunks, PageTree, map_of, map_without}
use Rattle.bx_views.specs.Truths.{Truth}
use Rattle.bx_truth.specs.Edits.{SameSlots, TreeAnew, HasPagesOf}
use Rattle.bx_truth.proofs.Names.{names_added, names_taken, value_with, value_without}
use Rattle.bx_truth.proofs.Dirs.{entries_anew}

pages_and : (a b c : PageTree) → HasPagesOf a b → HasPagesOf b c → HasPagesOf a c
pages_and a b c x y node there = let p = x node there in let q = y p.0 p.1 in (q.0, q.1, q.2 ∙ p.2)

pub anew_and : (chunks mid now : Chunks) (root : ℕ) (a b c : PageTree) → TreeAnew chunks mid root a b → TreeAnew mid now root b c → TreeAnew chunks now root a c
anew_and chunks mid now root a b c x y = record {
  is = y.is;
  back = pages_and c b a y.back x.back;
  forth = pages_and a b c x.forth y.forth;
  others = λ h apart. y.others h (λ node there same. let p = x.back node there in apart p.0 p.1 (p.2 ∙ same)) ∙ x.others h apart;
}

pub slots_and : (areas : ℕ) (a b c : Truth) → SameSlots areas a b → SameSlots areas b c → SameSlots areas a c
slots_and areas a b c x y = record { chunked = y.chunked; own = λ area less. y.own area less ∙ x.own area less }

pub entry_added : (areas : ℕ) (truth mid now : Truth) (tree : Tree) (handle : ℕ) (file : File) (parent next : ℕ) (names : List Name) (n : Name) (one two : PageTree)
    → (is : StandsFor areas truth tree) → file_at tree.files handle ≡ Some file → file.body ≡ Names parent next names
    → AreNames (map_of (is.stored handle).tree) names
    → SameSlots areas truth mid → TreeAnew (chunks_of areas truth) (chunks_of areas mid) (is.stored handle).inode.tree (is.stored handle).tree one
    → map_of one ≡ with_entry (map_of (is.stored handle).tree) (name_key n.name) (name_value n.number n.handle)
    → SameSlots areas mid now → TreeAnew (chunks_of areas mid) (chunks_of areas now) (is.stored handle).inode.tree one two
    → map_of two ≡ with_entry (map_of one) (entry_key n.number) (entry_value n.handle n.name)
    → n.number < 2 ^ 32 → n.handle < 2 ^ 64 → ((other : Name) → Contains names other → other.number < n.number) → value_of (map_of (is.stored handle).tree) (name_key n.name) ≡ None
    → StandsFor areas now (record tree { files = with_file tree.files (record file { body = Names parent next (names ++ n ∷ []) }) })
entry_added areas truth mid now tree handle file parent next names n one two is there body_is are same_one anew_one map_one same_two anew_two map_two number_fits handle_fits above absent =
    entries_anew areas truth now tree handle file parent next names (names ++ n ∷ []) two is there body_is
    (slots_and areas truth mid now same_one same_two)
    (anew_and (chunks_of areas truth) (chunks_of areas mid) (chunks_of areas now) (is.stored handle).inode.tree (is.stored handle).tree one two anew_one anew_two)
    (names_added (map_of (is.stored handle).tree) (map_of two) names n are number_fits handle_fits above absent values)
  where
    values : (key : List ℕ) → value_of (map_of two) key ≡ (if bytes_eq key (entry_key n.number) then Some (entry_value n.handle n.name) else (if bytes_eq key (name_key n.name) then Some (name_value n.number n.handle) else value_of (map_of (is.stored handle).tree) key))
    values key =
        ap (λ (m : List Entry). value_of m key) map_two
        ∙ value_with (map_of one) (entry_key n.number) (entry_value n.handle n.name) key
        ∙ ap (λ (o : Option (List ℕ)). if bytes_eq key (entry_key n.number) then Some (entry_value n.handle n.name) else o)
        (ap (λ (m : List Entry). value_of m key) map_one ∙ value_with (map_of (is.stored handle).tree) (name_key n.name) (name_value n.number n.handle) key)

pub entry_taken : (areas : ℕ) (truth mid now : Truth) (tree : Tree) (handle : ℕ) (file : File) (parent next : ℕ) (names left : List Name) (n : Name) (one two : PageTree)
    → (is : StandsFor areas truth tree) → file_at tree.files handle ≡ Some file → file.body ≡ Names parent next names
    → AreNames (map_of (is.stored handle).tree) names
    → SameSlots areas truth mid → TreeAnew (chunks_of areas truth) (chunks_of areas mid) (is.stored handle).inode.tree (is.stored handle).tree one
    → map_of one ≡ map_without (map_of (is.stored handle).tree) (name_key n.name)
    → SameSlots areas mid now → TreeAnew (chunks_of areas mid) (chunks_of areas now) (is.stored handle).inode.tree one two
    → map_of two ≡ map_without (map_of one) (entry_key n.number)
    → Contains names n → ((x : Name) → Contains left x → Contains names x × (x.number ≢ n.number)) → ((x : Name) → Contains names x → x.number ≢ n.number → Contains left x)
    → AllPairs (λ a b. a.number < b.number) left
    → StandsFor areas now (record tree { files = with_file tree.files (record file { body = Names parent next left }) })
entry_taken areas truth mid now tree handle file parent next names left n one two is there body_is are same_one anew_one map_one same_two anew_two map_two within left_are left_all left_rise =
    entries_anew areas truth now tree handle file parent next names left two is there body_is
    (slots_and areas truth mid now same_one same_two)
    (anew_and (chunks_of areas truth) (chunks_of areas mid) (chunks_of areas now) (is.stored handle).inode.tree (is.stored handle).tree one two anew_one anew_two)
    (names_taken (map_of (is.stored handle).tree) (map_of two) names left n are within left_are left_all left_rise values)
  where
    values : (key : List ℕ) → value_of (map_of two) key ≡ (if bytes_eq key (entry_key n.number) then None else (if bytes_eq key (name_key n.name) then None else value_of (map_of (is.stored handle).tree) key))
    values key =
        ap (λ (m : List Entry). value_of m key) map_two
        ∙ value_without (map_of one) (entry_key n.number) key
        ∙ ap (λ (o : Option (List ℕ)). if bytes_eq key (entry_key n.number) then None else o)
        (ap (λ (m : List Entry). value_of m key) map_one ∙ value_without (map_of (is.stored handle).tree) (name_key n.name) key)

-- ---- looked up

other_kind : (n : ℕ) (text : List ℕ) → entry_key n ≢ name_key text
other_kind n text same = let first : 2 ≡ 1 = ap (λ (l : List ℕ). get_or l 0 0) same in omega (arith, first)

-- the value of a name's key is that of the one entry with the name
pub name_found : (map : List Entry) (names : List Name) (text value : List ℕ) → AreNames map names → value_of map (name_key text) ≡ Some value
    → (n : Name) × Contains names n × (n.name ≡ text) × (value ≡ name_value n.number n.handle)
name_found map names text value are is = by (are.only (name_key text) value is)
  where
    by : (n : Name) × Contains names n × IsOfName n (name_key text) value → (n : Name) × Contains names n × (n.name ≡ text) × (value ≡ name_value n.number n.handle)
    by (n, within, inl (key, v)) = absurd (other_kind n.number text (sym key))
    by (n, within, inr (key, v)) = (n, within, sym (ap (drop 1) key), v)

pub name_absent : (map : List Entry) (names : List Name) (text : List ℕ) → AreNames map names → value_of map (name_key text) ≡ None → (n : Name) → Contains names n → n.name ≢ text
name_absent map names text are none n within same =
    let e : None ≡ Some (name_value n.number n.handle) = sym none ∙ ap (λ (t : List ℕ). value_of map (name_key t)) (sym same) ∙ are.named n within in absurd cc

pub names_two : (map one two : List Entry) (names : List Name) (n : Name) → AreNames map names → n.number < 2 ^ 32 → n.handle < 2 ^ 64
    → ((other : Name) → Contains names other → other.number < n.number) → value_of map (name_key n.name) ≡ None
    → one ≡ with_entry map (name_key n.name) (name_value n.number n.handle) → two ≡ with_entry one (entry_key n.number) (entry_value n.handle n.name) → AreNames two (names ++ n ∷ [])
names_two map one two names n are number_fits handle_fits above absent one_is two_is = names_added map two names n are number_fits handle_fits above absent (λ key.
    ap (λ (m : List Entry). value_of m key) two_is
    ∙ value_with one (entry_key n.number) (entry_value n.handle n.name) key
    ∙ ap (λ (o : Option (List ℕ)). if bytes_eq key (entry_key n.number) then Some (entry_value n.handle n.name) else o)
    (ap (λ (m : List Entry). value_of m key) one_is ∙ value_with map (name_key n.name) (name_value n.number n.handle) key))
