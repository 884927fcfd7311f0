-- An inode is of one file at most.
use Rattle.std.proofs.Common.{◌≡◌, ℕ, zero, suc, ◌/◌, ◌%◌, ◌^◌, ◌<◌, ◌⊎◌, ⊎_elim, inl, inr, arith, List, [], ◌∷◌, length, take, drop, get_or, sym, ap, ◌∙◌, subst, refl, Option, Some, None}
use Rattle.std.specs.Prelude.{AllPairs, Contains, option_and_then}
use Rattle.std.specs.Int.{w32, w64, from_be_bytes}
use Rattle.std.proofs.lemmas.List.{ext_get_or}
use Rattle.std.proofs.lemmas.Nat.{from_be_bytes-to_be_bytes_4, from_be_bytes-to_be_bytes_8}
use Rattle.bx_views.specs.bx_layout.specs.declared.inode.Inode.{Inode}
use Rattle.bx_model.specs.bx_tree_files.specs.declared.file.Body.{Body}
use Rattle.bx_model.specs.bx_tree_files.specs.declared.file.Body.TheVariants.{Bytes, Path, Names}
use Rattle.bx_model.specs.bx_tree_files.specs.declared.file.File.{File}
use Rattle.bx_model.specs.bx_tree_files.specs.declared.file.Name.{Name}
use Rattle.bx_page.specs.declared.entry.Entry.{Entry}
use Rattle.bx_page.specs.Contents.{value_of}
use Rattle.bx_truth.specs.Keys.{name_key, entry_key, entry_value, content_key}
use Rattle.bx_truth.specs.Stored.{Owner, Stored, HasTree, byte_in, IsOfName, AreNames, HasBody, IsFileOr}
use Rattle.bx_truth.specs.PageTrees.{Chunks, IsTree, map_of, handle_in}
use Rattle.bx_truth.proofs.OneTree.{one_map}

some_same : {X : Type 0} (x y : X) → Some x ≡ Some y → x ≡ y
some_same x y e = cc

-- ---- names

-- the numbers and the handle and name that a key and a value tell
one_number : (n m : ℕ) → n < 2 ^ 32 → m < 2 ^ 32 → entry_key n ≡ entry_key m → n ≡ m
one_number n m fits_n fits_m same =
    sym (from_be_bytes-to_be_bytes_4 n fits_n) ∙ ap (λ (l : List ℕ). from_be_bytes w32 (drop 1 l)) same ∙ from_be_bytes-to_be_bytes_4 m fits_m

one_handle : (h k : ℕ) (a b : List ℕ) → h < 2 ^ 64 → k < 2 ^ 64 → entry_value h a ≡ entry_value k b → h ≡ k
one_handle h k a b fits_h fits_k same =
    sym (from_be_bytes-to_be_bytes_8 h fits_h) ∙ ap (λ (l : List ℕ). from_be_bytes w64 (take 8 l)) same ∙ from_be_bytes-to_be_bytes_8 k fits_k

one_text : (h k : ℕ) (a b : List ℕ) → entry_value h a ≡ entry_value k b → a ≡ b
one_text h k a b same = ap (drop 8) same

-- each name of the one list is in the other
module _ (entries : List Entry) where
  name_there : (xs ys : List Name) → AreNames entries xs → AreNames entries ys → (name : Name) → Contains xs name → Contains ys name
  name_there xs ys are_x are_y name within = by (are_y.only (entry_key name.number) (entry_value name.handle name.name) (are_x.numbered name within))
    where
      by : ((other : Name) × Contains ys other × IsOfName other (entry_key name.number) (entry_value name.handle name.name)) → Contains ys name
      by (other, there, inl (key, value)) =
          let numbers = one_number name.number other.number (are_x.number_fits name within) (are_y.number_fits other there) key in
          let handles = one_handle name.handle other.handle name.name other.name (are_x.handle_fits name within) (are_y.handle_fits other there) value in
          let names = one_text name.handle other.handle name.name other.name value in
          let same : other ≡ name = λ i. record { number = (sym numbers) i; name = (sym names) i; handle = (sym handles) i } in
          subst (Contains ys) same there
      by (other, there, inr (key, value)) = absurd (other_kind name.number other.name key)
        where
          other_kind : (n : ℕ) (text : List ℕ) → entry_key n ≡ name_key text → ⊥
          other_kind n text same = let first : 2 ≡ 1 = ap (λ (l : List ℕ). get_or l 0 0) same in absurd (omega (arith, first))

-- ---- lists in order with the same members

-- lists that rise by a number, and have the same members, are the same
module _ {X : Type 0} (number : X → ℕ) where
  pub Rising : List X → Type 0
  Rising xs = AllPairs (λ a b. number a < number b) xs

  tail_rises : (x : X) (xs : List X) → AllPairs (λ a b. number a < number b) (x ∷ xs) → AllPairs (λ a b. number a < number b) xs
  tail_rises x xs rises i j d less within = rises (suc i) (suc j) d (omega (arith, less)) (omega (arith, within))

  head_least : (x : X) (xs : List X) (y : X) → AllPairs (λ a b. number a < number b) (x ∷ xs) → Contains (x ∷ xs) y → (x ≡ y) ⊎ ((number x < number y) × Contains xs y)
  head_least x xs y rises (zero, less, is) = inl is
  head_least x xs y rises (suc k, less, is) =
      inr (subst (λ (z : X). number x < number z) is (rises 0 (suc k) y (omega arith) less), (k, omega (arith, less), is))

  pub same_members : (xs ys : List X) → AllPairs (λ a b. number a < number b) xs → AllPairs (λ a b. number a < number b) ys
      → ((x : X) → Contains xs x → Contains ys x) → ((y : X) → Contains ys y → Contains xs y) → xs ≡ ys
  same_members [] [] rises_x rises_y to back = refl
  same_members [] (y ∷ ys) rises_x rises_y to back = let c = back y (0, omega arith, refl) in absurd (omega (arith, c.1))
  same_members (x ∷ xs) [] rises_x rises_y to back = let c = to x (0, omega arith, refl) in absurd (omega (arith, c.1))
  same_members (x ∷ xs) (y ∷ ys) rises_x rises_y to back =
      let first = heads (head_least y ys x rises_y (to x (0, omega arith, refl))) (head_least x xs y rises_x (back y (0, omega arith, refl))) in
      let rest = same_members xs ys (tail_rises x xs rises_x) (tail_rises y ys rises_y)
      (λ z there. inner y ys x xs z rises_y rises_x there (to z (push x xs z there)) (sym first))
      (λ z there. inner x xs y ys z rises_x rises_y there (back z (push y ys z there)) first) in
      λ i. first i ∷ rest i
    where
      heads : (y ≡ x) ⊎ ((number y < number x) × Contains ys x) → (x ≡ y) ⊎ ((number x < number y) × Contains xs y) → x ≡ y
      heads (inl same) other = sym same
      heads (inr less) (inl same) = same
      heads (inr less) (inr more) = absurd (omega (arith, less.0, more.0))

      push : (a : X) (more : List X) (z : X) → Contains more z → Contains (a ∷ more) z
      push a more z (k, less, is) = (suc k, omega (arith, less), is)

      -- a later member of the one list is a later member of the other
      inner : (a : X) (more : List X) (b : X) (bs : List X) (z : X) → AllPairs (λ a b. number a < number b) (a ∷ more) → AllPairs (λ a b. number a < number b) (b ∷ bs) → Contains bs z → Contains (a ∷ more) z → a ≡ b → Contains more z
      inner a more b bs z rises_a rises_b there within same = ⊎_elim
          (λ e. let less = above b bs z rises_b there in absurd (omega (arith, less, ap number (sym same ∙ e))))
          (λ right. right.1)
          (head_least a more z rises_a within)
        where
          above : (b : X) (bs : List X) (z : X) → AllPairs (λ a b. number a < number b) (b ∷ bs) → Contains bs z → number b < number z
          above b bs z rises (k, less, is) = subst (λ (w : X). number b < number w) is (rises 0 (suc k) z (omega arith) (omega (arith, less)))

pub one_names : (entries : List Entry) (xs ys : List Name) → AreNames entries xs → AreNames entries ys → xs ≡ ys
one_names entries xs ys are_x are_y = same_members (λ (n : Name). n.number) xs ys are_x.in_order are_y.in_order (name_there entries xs ys are_x are_y) (name_there entries ys xs are_y are_x)

-- ---- files

module _ (chunks : Chunks) (owner other_owner : ℕ → Owner) (handle : ℕ) (a b : Stored) (same : a.inode ≡ b.inode) where
  maps : HasTree chunks owner handle a → HasTree chunks other_owner handle b → map_of a.tree ≡ map_of b.tree
  maps has_a has_b = one_map chunks b.inode.tree a.tree b.tree (subst (λ (i : Inode). IsTree chunks i.tree a.tree) same has_a.is) has_b.is

  kinds : (m n : ℕ) → a.inode.kind ≡ m → b.inode.kind ≡ n → m ≡ n
  kinds m n is_m is_n = sym is_m ∙ ap (λ (i : Inode). i.kind) same ∙ is_n

  pub one_body : (x y : Body) → HasBody chunks owner handle a x → HasBody chunks other_owner handle b y → x ≡ y
  one_body (Bytes x) (Bytes y) has_a has_b =
      let len : length x ≡ length y = has_a.bytes_are.long ∙ ap (λ (i : Inode). i.size) same ∙ sym has_b.bytes_are.long in
      let entries = maps has_a.tree has_b.tree in
      ap Bytes (ext_get_or 0 x y len (λ place less.
      has_a.bytes_are.each place less
      ∙ ap (λ (l : List Entry). byte_in (option_and_then (λ value. chunks (handle_in value)) (value_of l (content_key (place / 4096)))) (place % 4096)) entries
      ∙ sym (has_b.bytes_are.each place (omega (arith, less, len)))))
  one_body (Bytes x) (Path y) has_a has_b = let e = kinds 1 5 has_a.kind has_b.kind in absurd (omega (arith, e))
  one_body (Bytes x) (Names parent next names) has_a has_b = let e = kinds 1 2 has_a.kind has_b.kind in absurd (omega (arith, e))
  one_body (Path x) (Bytes y) has_a has_b = let e = kinds 5 1 has_a.kind has_b.kind in absurd (omega (arith, e))
  one_body (Path x) (Path y) has_a has_b = ap Path (sym has_a.path_is ∙ ap (λ (i : Inode). i.path) same ∙ has_b.path_is)
  one_body (Path x) (Names parent next names) has_a has_b = let e = kinds 5 2 has_a.kind has_b.kind in absurd (omega (arith, e))
  one_body (Names parent next names) (Bytes y) has_a has_b = let e = kinds 2 1 has_a.kind has_b.kind in absurd (omega (arith, e))
  one_body (Names parent next names) (Path y) has_a has_b = let e = kinds 2 5 has_a.kind has_b.kind in absurd (omega (arith, e))
  one_body (Names parent next names) (Names parent_b next_b names_b) has_a has_b =
      let parents : parent ≡ parent_b = sym has_a.parent_is ∙ ap (λ (i : Inode). i.parent) same ∙ has_b.parent_is in
      let nexts : next ≡ next_b = sym has_a.next_is ∙ ap (λ (i : Inode). i.next) same ∙ has_b.next_is in
      let lists = one_names (map_of b.tree) names names_b (subst (λ (l : List Entry). AreNames l names) (maps has_a.tree has_b.tree) has_a.entries) has_b.entries in
      λ i. Names (parents i) (nexts i) (lists i)

  not_dead : (x : Body) (o : ℕ → Owner) (s : Stored) → HasBody chunks o handle s x → s.inode.kind ≡ 0 → ⊥
  not_dead (Bytes x) o s has zero_kind = absurd (omega (arith, has.kind, zero_kind))
  not_dead (Path x) o s has zero_kind = absurd (omega (arith, has.kind, zero_kind))
  not_dead (Names parent next names) o s has zero_kind = absurd (omega (arith, has.kind, zero_kind))

  pub one_file : (x y : Option File) → IsFileOr chunks owner handle a x → IsFileOr chunks other_owner handle b y → x ≡ y
  one_file None None is_a is_b = refl
  one_file None (Some y) is_a is_b = absurd (not_dead y.body other_owner b is_b.2 (sym (ap (λ (i : Inode). i.kind) same) ∙ is_a.kind))
  one_file (Some x) None is_a is_b = absurd (not_dead x.body owner a is_a.2 (ap (λ (i : Inode). i.kind) same ∙ is_b.kind))
  one_file (Some x) (Some y) is_a is_b =
      let f = is_a.1 in let g = is_b.1 in
      let handles : x.handle ≡ y.handle = is_a.0 ∙ sym is_b.0 in
      let kind : x.kind ≡ y.kind = sym f.kind ∙ ap (λ (i : Inode). i.kind) same ∙ g.kind in
      let mode : x.mode ≡ y.mode = sym f.mode ∙ ap (λ (i : Inode). i.mode) same ∙ g.mode in
      let nlink : x.nlink ≡ y.nlink = sym f.nlink ∙ ap (λ (i : Inode). i.nlink) same ∙ g.nlink in
      let uid : x.uid ≡ y.uid = sym f.uid ∙ ap (λ (i : Inode). i.uid) same ∙ g.uid in
      let gid : x.gid ≡ y.gid = sym f.gid ∙ ap (λ (i : Inode). i.gid) same ∙ g.gid in
      let atime : x.atime ≡ y.atime = sym f.atime ∙ ap (λ (i : Inode). i.atime) same ∙ g.atime in
      let mtime : x.mtime ≡ y.mtime = sym f.mtime ∙ ap (λ (i : Inode). i.mtime) same ∙ g.mtime in
      let ctime : x.ctime ≡ y.ctime = sym f.ctime ∙ ap (λ (i : Inode). i.ctime) same ∙ g.ctime in
      let body = one_body x.body y.body is_a.2 is_b.2 in
      λ i. Some (record { handle = handles i; kind = kind i; mode = mode i; nlink = nlink i; uid = uid i; gid = gid i; atime = atime i; mtime = mtime i; ctime = ctime i; body = body i })
