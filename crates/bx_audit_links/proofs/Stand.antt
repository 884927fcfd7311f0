-- How the search stands: what was reached, what wasn't, and how many of those reached were gone into.
use Rattle.std.proofs.Common.{◌≡◌, ℕ, zero, suc, ◌+◌, ◌<◌, ◌≤◌, ◌⊎◌, inl, inr, true, false, List, [], ◌∷◌, length, get_or, length-append, arith, refl, sym, ap, ◌∙◌, subst}
use Rattle.std.specs.Prelude.{◌≢◌, Contains}
use Rattle.std.proofs.lemmas.List.{get_or_append_left}
use Rattle.std.specs.BTreeSet.{BTreeSet, btree_set_len}
use Rattle.bx_audit_links.specs.Reached.{AreBelow, AreDirectories, Reaches, has}
use Rattle.bx_audit_links.proofs.Emptied.{is_empty_if, none_has}
use Rattle.bx_audit_links.proofs.ReachedOnes.{clear, contains_behind, contains_either, contains_front}
use Rattle.bx_audit_links.proofs.Rests.{contains_same}
use Rattle.bx_audit_links.proofs.Ways.{Ways, below_all, none_left, ways_more, ways_root}
use Rattle.bx_model.specs.declared.tree.Tree.{Tree}
use Rattle.bx_model.specs.FileTrees.{IsFileTree, is_directory_at}
use Rattle.bx_tree_files.specs.declared.file.File.{File}
use Rattle.bx_tree_laws.specs.Ways.{IsIn}
use Rattle.bx_tree_laws.proofs.Counts.{contained_cases, contains_first, none_contained}

pub record Stand (files : List File) (root : ℕ) (reached : List ℕ) (set : BTreeSet ℕ) (at : ℕ) : Type 0 where
  pub ways : Ways files root reached
  pub apart : (handle : ℕ) → Contains reached handle → has set handle ≡ false
  pub known : (handle : ℕ) → is_directory_at files handle ≡ true → handle ≢ root → Contains reached handle ⊎ (has set handle ≡ true)
  pub each : (handle : ℕ) → has set handle ≡ true → (is_directory_at files handle ≡ true) × (handle ≢ root)
  pub done : (place : ℕ) → place < at → (handle : ℕ) → IsIn files (get_or reached place 0) handle → has set handle ≡ false
  pub within : at ≤ length reached
  pub root_is : Contains reached root

pub stand_begins : (files : List File) (root : ℕ) (set : BTreeSet ℕ) (reached : List ℕ) → reached ≡ root ∷ [] → AreDirectories files root set → Stand files root reached set 0
stand_begins files root set reached is are = subst (λ (l : List ℕ). Stand files root l set 0) (sym is) (record {
  ways = ways_root files root;
  apart = λ handle there. by handle (contained_cases root handle [] there);
  known = λ handle directory other. inr (are.all handle directory other);
  each = are.each;
  done = λ place less. absurd (omega (arith, less));
  within = omega arith;
  root_is = contains_first root [];
})
  where
    by : (handle : ℕ) → (root ≡ handle) ⊎ Contains [] handle → has set handle ≡ false
    by handle (inr none) = absurd (none_contained handle none)
    by handle (inl same) = clear (has set handle) (λ is. absurd ((are.each handle is).1 (sym same)))

-- within a list what stands behind it doesn't matter
pub same_default : (xs : List ℕ) (place one other : ℕ) → place < length xs → get_or xs place one ≡ get_or xs place other
same_default [] place one other less = absurd (omega (arith, less))
same_default (x ∷ xs) zero one other less = refl
same_default (x ∷ xs) (suc place) one other less = same_default xs place one other (omega (arith, less))

pub stand_goes_on : (files : List File) (root : ℕ) (reached : List ℕ) (set : BTreeSet ℕ) (at directory : ℕ) (reached_now : List ℕ) (set_now : BTreeSet ℕ) → Stand files root reached set at
    → at < length reached → directory ≡ get_or reached at 0 → Reaches (IsIn files directory) set reached set_now reached_now → Stand files root reached_now set_now (at + 1)
stand_goes_on files root reached set at directory reached_now set_now stand less is reaches = record {
  ways = ways_more files root directory set set_now reached reached_now stand.ways there stand.apart reaches;
  apart = λ handle within. apart handle (contains_either reached reaches.more handle (contains_same _ _ handle reaches.behind within));
  known = λ handle directory other. known handle (stand.known handle directory other);
  each = λ handle now. stand.each handle (reaches.left handle now);
  done = λ place below handle into. by place (side place below) handle into;
  within = let longer = ap length reaches.behind ∙ length-append reached reaches.more in omega (arith, less, longer);
  root_is = still root stand.root_is;
}
  where
    there : Contains reached directory
    there = subst (Contains reached) (sym is) (at, less, same_default reached at (get_or reached at 0) 0 less)

    still : (handle : ℕ) → Contains reached handle → Contains reached_now handle
    still handle within = contains_same _ _ handle (sym reaches.behind) (contains_front reached reaches.more handle within)

    gone : (handle : ℕ) → has set handle ≡ false → has set_now handle ≡ false
    gone handle was = clear (has set_now handle) (λ now. sym was ∙ reaches.left handle now)

    apart : (handle : ℕ) → Contains reached handle ⊎ Contains reaches.more handle → has set_now handle ≡ false
    apart handle (inl within) = gone handle (stand.apart handle within)
    apart handle (inr new) = (reaches.each handle new).2

    known : (handle : ℕ) → Contains reached handle ⊎ (has set handle ≡ true) → Contains reached_now handle ⊎ (has set_now handle ≡ true)
    known handle (inl within) = inl (still handle within)
    known handle (inr left) = later (reaches.gone handle left)
      where
        later : (has set_now handle ≡ true) ⊎ Contains reaches.more handle → Contains reached_now handle ⊎ (has set_now handle ≡ true)
        later (inl is) = inr is
        later (inr new) = inl (contains_same _ _ handle (sym reaches.behind) (contains_behind reached reaches.more handle new))

    side : (place : ℕ) → place < at + 1 → (place < at) ⊎ (place ≡ at)
    side place below = grind arith

    same_place : (place : ℕ) → place < length reached → get_or reached_now place 0 ≡ get_or reached place 0
    same_place place within = ap (λ (l : List ℕ). get_or l place 0) reaches.behind ∙ get_or_append_left reached reaches.more 0 place within

    by : (place : ℕ) → (place < at) ⊎ (place ≡ at) → (handle : ℕ) → IsIn files (get_or reached_now place 0) handle → has set_now handle ≡ false
    by place (inl before) handle into =
        gone handle (stand.done place before handle (subst (λ (d : ℕ). IsIn files d handle) (same_place place (omega (arith, before, less))) into))
    by place (inr last) handle into =
        reaches.all handle (subst (λ (d : ℕ). IsIn files d handle) (same_place place (omega (arith, last, less)) ∙ ap (λ (p : ℕ). get_or reached p 0) last ∙ sym is) into)

module _ (files : List File) (root : ℕ) (reached : List ℕ) (set : BTreeSet ℕ) (at : ℕ) (stand : Stand files root reached set at) where
  pub all_reached : btree_set_len set ≡ 0 → AreBelow files root
  all_reached none = below_all files root reached stand.ways (λ handle directory other. by handle (stand.known handle directory other))
    where
      by : (handle : ℕ) → Contains reached handle ⊎ (has set handle ≡ true) → Contains reached handle
      by handle (inl within) = within
      by handle (inr left) = let both : true ≡ false = sym left ∙ none_has set none handle in absurd cc

  pub closed : length reached ≤ at → (directory : ℕ) → Contains reached directory → (handle : ℕ) → IsIn files directory handle → has set handle ≡ false
  closed all directory (place, within, is) handle into = stand.done place (omega (arith, within, all)) handle (subst (λ (d : ℕ). IsIn files d handle) (sym is ∙ same_default reached place directory 0 within) into)

  pub reaches_all : length reached ≤ at → (tree : Tree) → tree.files ≡ files → tree.root ≡ root → IsFileTree tree → btree_set_len set ≡ 0
  reaches_all all tree files_are root_is was = is_empty_if set (none_left tree was set reached stand.apart
      (λ handle directory other. stand.known handle (subst (λ (l : List File). is_directory_at l handle ≡ true) files_are directory) (λ e. other (e ∙ sym root_is)))
      (λ directory there handle into. closed all directory there handle (subst (λ (l : List File). IsIn l directory handle) files_are into))
      (subst (Contains reached) (sym root_is) stand.root_is)
      (λ handle left. subst (λ (l : List File). is_directory_at l handle ≡ true) (sym files_are) (stand.each handle left).0))
