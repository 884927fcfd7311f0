-- A listing along the leaves of a directory.
use Rattle.std.proofs.Common.{◌≡◌, ℕ, ◌^◌, ◌<◌, Bool, true, false, List, [], ◌∷◌, ◌++◌, map, refl, sym, ap, ◌∙◌, subst, Option, Some, None, inl, inr}
use Rattle.std.specs.Prelude.{Result, Ok, Err, IfSome}
use Rattle.bx_dirs.specs.bx_blink.specs.Leaves.{BeginsAt, IsLeafOf, IsNextLeaf, LeafIn, behind_leaf}
use Rattle.bx_dirs.specs.Entries.{DoFit, HasEntries, by_number, key_behind}
use Rattle.bx_dirs.proofs.Behind.{behind_list, fit_above}
use Rattle.bx_dirs.proofs.Rising.{map_rises}
use Rattle.bx_reads.specs.bx_files.specs.Paths.{IsNeed}
use Rattle.bx_reads.specs.bx_inodes.specs.declared.stop.Stop.{Stop}
use Rattle.bx_reads.specs.bx_inodes.specs.declared.stop.Stop.TheVariants.{Need, Inner, Status, OutOfMemory}
use Rattle.bx_page.specs.declared.entry.Entry.{Entry}
use Rattle.bx_page.specs.Contents.{Contents, from}
use Rattle.bx_places.specs.Places.{is_block}
use Rattle.bx_tree_files.specs.declared.file.Name.{Name}
use Rattle.bx_tree_files.specs.Entries.{above}
use Rattle.bx_truth.specs.Chunks.{chunks_of}
use Rattle.bx_views.specs.Truths.{Held, Hints, Truth, with_draft}
use Rattle.bx_truth.specs.PageTrees.{PageTree, map_of}
use Rattle.bx_call_parts.specs.declared.pages.Page.{Page}
use Rattle.bx_directory_reads.specs.declared.filling.Put.{Put}
use Rattle.bx_directory_reads.specs.declared.filling.Put.TheVariants.{All, Part, Stray}
use Rattle.bx_directory_reads.specs.Listings.{IsReached, LeadsTo, LeafSo, rightward}
use Rattle.bx_call_parts.specs.Pages.{filled}
use Rattle.bx_directory_reads.specs.Pages.{Fills, PutsSo}
use Rattle.bx_call_parts.proofs.Filled.{all_fit, some_fit}

-- ---- a leaf

pub leaf_so : (tree : PageTree) (key : List ℕ) (found : Option (List ℕ × Contents)) → LeafIn tree key (Ok found) → LeafSo tree key (Ok found)
leaf_so tree key None is = is
leaf_so tree key (Some leaf) is = is

pub need_leaf : (tree : PageTree) (key : List ℕ) (areas at : ℕ) (stop : Stop) → IsNeed areas at stop → is_block areas at ≡ true → LeafSo tree key (Err stop)
need_leaf tree key areas at stop (inl need) block = subst (λ (s : Stop). LeafSo tree key (Err s)) (sym need.1) tt
need_leaf tree key areas at stop (inr none) block = let both : true ≡ false = sym block ∙ none.0 in absurd cc

-- ---- the entries of a leaf, and those behind it

pub record Split (es tail : List Entry) (names : List Name) : Type 0 where
  pub front : List Name
  pub back : List Name
  pub joined : names ≡ front ++ back
  pub front_is : es ≡ map by_number front
  pub back_is : tail ≡ map by_number back
  pub front_fit : DoFit front
  pub back_fit : DoFit back

first_parts : (e d : Entry) (es ds : List Entry) → e ∷ es ≡ d ∷ ds → (e ≡ d) × (es ≡ ds)
first_parts e d es ds is = (cc, cc)

pub split : (es tail : List Entry) (names : List Name) → es ++ tail ≡ map by_number names → DoFit names → Split es tail names
split [] tail names is fit = record { front = []; back = names; joined = refl; front_is = refl; back_is = is; front_fit = tt; back_fit = fit }
split (e ∷ es) tail [] is fit = absurd cc
split (e ∷ es) tail (n ∷ ns) is fit =
    let p = first_parts e (by_number n) (es ++ tail) (map by_number ns) is in
    let s = split es tail ns p.1 fit.2 in
    record {
      front = n ∷ s.front;
      back = s.back;
      joined = ap (λ (l : List Name). n ∷ l) s.joined;
      front_is = λ i. p.0 i ∷ s.front_is i;
      back_is = s.back_is;
      front_fit = (fit.0, fit.1, s.front_fit);
      back_fit = s.back_fit;
    }

none_left : (names : List Name) → map by_number names ≡ [] → names ≡ []
none_left [] is = refl
none_left (n ∷ ns) is = absurd cc

-- ---- a listing that comes to a leaf: which entries are left

pub record Left (root : ℕ) (tree : PageTree) (wanted : List Name) (page now : Page) (handle : ℕ) (key : List ℕ) : Type 0 where
  pub rest : List Name
  pub fit : DoFit rest
  pub same : filled page wanted ≡ filled now rest
  pub entries : from (map_of tree) key ≡ map by_number rest
  pub begins : BeginsAt root tree key handle

module _ (root : ℕ) (tree : PageTree) (wanted : List Name) (page now : Page) (handle : ℕ) (key : List ℕ) (left : Left root tree wanted page now handle key) where
  -- there are none
  pub at_end : from (map_of tree) key ≡ [] → ◌≡◌ {A = Bool × Page} (true, now) (filled page wanted)
  at_end none = sym (left.same ∙ ap (filled now) (none_left left.rest (sym left.entries ∙ none)))

  module _ (other : List ℕ) (leaf : Contents) (is : IsNextLeaf tree key other leaf) where
    abbrev parts : Split (from leaf.entries other) (behind_leaf (map_of tree) leaf.high) left.rest
    parts = split (from leaf.entries other) (behind_leaf (map_of tree) leaf.high) left.rest (sym is.entries ∙ left.entries) left.fit

    -- those of the leaf
    abbrev pub here : List Name
    here = parts.front

    pub here_fit : DoFit here
    here_fit = parts.front_fit

    pub here_is : from leaf.entries other ≡ map by_number here
    here_is = parts.front_is

    -- one of them doesn't fit
    pub at_full : (next : Page) → ◌≡◌ {A = Bool × Page} (false, next) (filled now here) → ◌≡◌ {A = Bool × Page} (false, next) (filled page wanted)
    at_full next part = some_fit now next here parts.back part ∙ ap (filled now) (sym parts.joined) ∙ sym left.same

    -- all of them fit, and then
    after : (next : Page) → ◌≡◌ {A = Bool × Page} (true, next) (filled now here) → filled page wanted ≡ filled next parts.back
    after next all = left.same ∙ ap (filled now) parts.joined ∙ all_fit now next here parts.back all

    pub at_last : (next : Page) → leaf.high ≡ None → ◌≡◌ {A = Bool × Page} (true, next) (filled now here) → ◌≡◌ {A = Bool × Page} (true, next) (filled page wanted)
    at_last next last all =
        let none : parts.back ≡ [] = none_left parts.back (sym parts.back_is ∙ ap (behind_leaf (map_of tree)) last) in
        sym (after next all ∙ ap (filled next) none)

    pub onward : (next : Page) (high : List ℕ) → leaf.high ≡ Some high → ◌≡◌ {A = Bool × Page} (true, next) (filled now here) → Left root tree wanted page next leaf.right high
    onward next high goes all = record {
      rest = parts.back;
      fit = parts.back_fit;
      same = after next all;
      entries = sym (ap (behind_leaf (map_of tree)) goes) ∙ parts.back_is;
      begins = inr (subst (λ (o : Option (List ℕ)). IfSome o (λ (h : List ℕ). IsLeafOf tree h leaf.right)) goes is.onward);
    }

-- ---- what is told at a leaf

err_fills : (tree : PageTree) (key : List ℕ) (page now : Page) (wanted : List Name) (stop : Stop) → LeafSo tree key (Err stop) → Fills page wanted now (Err stop)
err_fills tree key page now wanted (Need at mode) so = tt
err_fills tree key page now wanted (Inner blocks) so = so
err_fills tree key page now wanted (Status status) so = so
err_fills tree key page now wanted OutOfMemory so = tt

module _ (root : ℕ) (tree : PageTree) (wanted : List Name) (page now : Page) (handle : ℕ) (key : List ℕ) (left : Left root tree wanted page now handle key) (k : List ℕ) (same : k ≡ key) where
  told_so : (result : Result (Option (List ℕ × Contents)) Stop) → (BeginsAt root tree k handle → LeafSo tree k result) → LeafSo tree key result
  told_so result told = subst (λ (x : List ℕ). LeafSo tree x result) same (told (subst (λ (x : List ℕ). BeginsAt root tree x handle) (sym same) left.begins))

  pub stops_so : (stop : Stop) → (BeginsAt root tree k handle → LeafSo tree k (Err stop)) → Fills page wanted now (Err stop)
  stops_so stop told = err_fills tree key page now wanted stop (told_so (Err stop) told)

  pub ends_so : (found : Option (List ℕ × Contents)) → found ≡ None → (BeginsAt root tree k handle → LeafSo tree k (Ok found)) → ◌≡◌ {A = Bool × Page} (true, now) (filled page wanted)
  ends_so found none told = at_end root tree wanted page now handle key left (subst (λ (o : Option (List ℕ × Contents)). LeafSo tree key (Ok o)) none (told_so (Ok found) told))

  module _ (other : List ℕ) (leaf : Contents) (found : Option (List ℕ × Contents)) (found_is : found ≡ Some (other, leaf)) (told : BeginsAt root tree k handle → LeafSo tree k (Ok found)) (text : List ℕ) (text_is : text ≡ other)
      (es : List Entry) (es_are : es ≡ from leaf.entries text) (put : Put) (next : Page) (puts : (names : List Name) → DoFit names → es ≡ map by_number names → PutsSo now names next put) where
    is_next : IsNextLeaf tree key other leaf
    is_next = subst (λ (o : Option (List ℕ × Contents)). LeafSo tree key (Ok o)) found_is (told_so (Ok found) told)

    put_here : PutsSo now (here root tree wanted page now handle key left other leaf is_next) next put
    put_here =
        puts (here root tree wanted page now handle key left other leaf is_next) (here_fit root tree wanted page now handle key left other leaf is_next)
        (es_are ∙ ap (from leaf.entries) text_is ∙ here_is root tree wanted page now handle key left other leaf is_next)

    put_as_told : (p : Put) → put ≡ p → PutsSo now (here root tree wanted page now handle key left other leaf is_next) next p
    put_as_told p is = subst (λ (q : Put). PutsSo now (here root tree wanted page now handle key left other leaf is_next) next q) is put_here

    pub strays_not : put ≡ Stray → ⊥
    strays_not is = put_as_told Stray is

    pub fills_part : put ≡ Part → ◌≡◌ {A = Bool × Page} (false, next) (filled page wanted)
    fills_part is = at_full root tree wanted page now handle key left other leaf is_next next (put_as_told Part is)

    pub fills_last : put ≡ All → None ≡ leaf.high → ◌≡◌ {A = Bool × Page} (true, next) (filled page wanted)
    fills_last is last = at_last root tree wanted page now handle key left other leaf is_next next (sym last) (put_as_told All is)

    pub goes_right : put ≡ All → (high : List ℕ) → Some high ≡ leaf.high → (h : ℕ) → h ≡ leaf.right → (new : List ℕ) → new ≡ high → Left root tree wanted page next h new
    goes_right is high goes h h_is new new_is =
        subst (λ (x : ℕ). Left root tree wanted page next x new) (sym h_is)
        (subst (λ (y : List ℕ). Left root tree wanted page next leaf.right y) (sym new_is)
        (onward root tree wanted page now handle key left other leaf is_next next high (sym goes) (put_as_told All is)))

-- where it comes to then
pub reaches : (held : Held) (hints : Hints) (root cookie handle : ℕ) (key k other : List ℕ) (leaf : Contents) (found : Option (List ℕ × Contents)) → IsReached held hints root cookie handle key → k ≡ key → found ≡ Some (other, leaf)
    → IfSome found (λ x. LeadsTo held hints handle k x.0 x.1) → (high : List ℕ) → Some high ≡ leaf.high → (h : ℕ) → h ≡ leaf.right → (new : List ℕ) → new ≡ high → IsReached held hints root cookie h new
reaches held hints root cookie handle key k other leaf found reached same found_is finds high goes h h_is new new_is =
    let leads : LeadsTo held hints handle k other leaf = subst (λ (o : Option (List ℕ × Contents)). IfSome o (λ x. LeadsTo held hints handle k x.0 x.1)) found_is finds in
    let from_key : LeadsTo held hints handle key other leaf = subst (λ (x : List ℕ). LeadsTo held hints handle x other leaf) same leads in
    subst (λ (x : ℕ). IsReached held hints root cookie x new) (sym h_is)
    (subst (λ (y : List ℕ). IsReached held hints root cookie leaf.right y) (sym new_is)
    (rightward handle key other high leaf reached from_key (sym goes)))

-- where it begins
pub starts : (held : Held) (hints : Hints) (areas : ℕ) (truth : Truth) (root cookie : ℕ) (names : List Name) (page : Page) (k : List ℕ) (has : HasEntries areas held hints truth [] root names) → cookie < 2 ^ 32 → k ≡ key_behind cookie
    → Left root has.tree (above cookie names) page page root k
starts held hints areas truth root cookie names page k has fits k_is =
    let rises = map_rises (chunks_of areas (with_draft truth [])) root has.tree has.under.is in
    record {
      rest = above cookie names;
      fit = fit_above (map_of has.tree) names rises has.entries cookie;
      same = refl;
      entries = ap (from (map_of has.tree)) k_is ∙ behind_list (map_of has.tree) names rises has.entries (above cookie names) cookie fits refl;
      begins = inl refl;
    }
