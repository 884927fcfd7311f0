-- The directories to which no way from the root leads, once all that were reached were gone into.
use Rattle.std.proofs.Common.{◌≡◌, ℕ, zero, suc, ◌<◌, ◌≤◌, ◌⊎◌, inl, inr, true, false, List, [], ◌∷◌, ◌++◌, length, arith, sym, ap, ◌∙◌, subst}
use Rattle.std.specs.Prelude.{◌≢◌, All, Contains}
use Rattle.std.specs.BTreeSet.{BTreeSet}
use Rattle.std.specs.Cmp.{nat_cmp_total}
use Rattle.std.specs.Ordering.{is_gt, nat_cmp}
use Rattle.std.proofs.lemmas.Bool.{eq-eqb}
use Rattle.std.proofs.lemmas.List.Elements.{All-contains}
use Rattle.std.proofs.lemmas.Map.Keys.{le_from_not_gt}
use Rattle.std.proofs.lemmas.Map.Lookups.{exact_unsigned}
use Rattle.std.proofs.lemmas.Map.Views.{btree_set_contains_iff}
use Rattle.bx_audit_links.specs.Reached.{IsFirstLost, IsLedTo, has}
use Rattle.bx_audit_links.proofs.Stand.{Stand, closed}
use Rattle.bx_audit_links.proofs.Ways.{IsNamedIn}
use Rattle.bx_model.specs.FileTrees.{is_directory_at, is_directory_in}
use Rattle.bx_tree_files.specs.declared.file.File.{File}
use Rattle.bx_tree_files.specs.Files.{IsFile, is_directory, kind_of}
use Rattle.bx_tree_laws.specs.Ways.{IsIn, LeadsDown}
use Rattle.bx_tree_laws.proofs.Lookups.{SameOr, same_or}
use Rattle.bx_tree_laws.proofs.Rises.{contains_at}
use Rattle.bx_tree_laws.proofs.Walks.{some_names}

one_more : (files : List File) (directory : ℕ) (way : List ℕ) (middle last : ℕ) → LeadsDown files directory way middle → IsIn files middle last → LeadsDown files directory (way ++ middle ∷ []) last
one_more files directory [] middle last into next = (into, next)
one_more files directory (handle ∷ way) middle last leads next = (leads.0, one_more files handle way middle last leads.1 next)

-- the first of a set is the least
pub least_of : (set : BTreeSet ℕ) (handle : ℕ) → All (λ (other : ℕ). is_gt (nat_cmp handle other) ≡ false) set.keys → (other : ℕ) → has set other ≡ true → handle ≤ other
least_of set handle all other there = le_from_not_gt handle other (All-contains (λ (other : ℕ). is_gt (nat_cmp handle other) ≡ false) set.keys other all ((btree_set_contains_iff nat_cmp_total exact_unsigned set other).0 there))

module _ (files : List File) (root : ℕ) (reached : List ℕ) (set : BTreeSet ℕ) (at : ℕ) (stand : Stand files root reached set at) (all : length reached ≤ at) (are : All IsFile files) where
  -- what has entries is a directory
  enters : (directory handle : ℕ) → IsIn files directory handle → is_directory_at files directory ≡ true
  enters directory handle into = ap is_directory_in into.there ∙ kind
    where
      kind : is_directory into.file ≡ true
      kind =
          let body = some_names into.file.body into.entry into.contains in
          eq-eqb into.file.kind 2 ((All-contains IsFile files into.file are (contains_at files directory into.file into.there)).kind ∙ ap kind_of body.3)

  begins : (directory : ℕ) (way : List ℕ) (last : ℕ) → LeadsDown files directory way last → is_directory_at files directory ≡ true
  begins directory [] last into = enters directory last into
  begins directory (handle ∷ way) last leads = enters directory handle leads.0

  -- ways from what was reached lead to what was
  none_led : (directory : ℕ) → Contains reached directory → (way : List ℕ) (last : ℕ) → LeadsDown files directory way last → has set last ≡ false
  none_led directory there [] last into = closed files root reached set at stand all directory there last into
  none_led directory there (handle ∷ way) last leads = none_led handle (by (same_or handle root)) way last leads.1
    where
      known : Contains reached handle ⊎ (has set handle ≡ true) → Contains reached handle
      known (inl within) = within
      known (inr left) = let both : true ≡ false = sym left ∙ closed files root reached set at stand all directory there handle leads.0 in absurd cc

      by : SameOr handle root → Contains reached handle
      by (inl same) = subst (Contains reached) (sym same.1) stand.root_is
      by (inr other) = known (stand.known handle (begins handle way last leads.1) other.1)

  -- and a way from the root leads to each of those
  led : (n handle : ℕ) → stand.ways.depth handle < n → Contains reached handle → handle ≢ root → IsLedTo files root handle
  led zero handle less there other = absurd (omega (arith, less))
  led (suc n) handle less there other = by (same_or named.directory root) (led n named.directory)
    where
      named : IsNamedIn files reached stand.ways.depth handle
      named = stand.ways.each handle there other

      by : SameOr named.directory root → (stand.ways.depth named.directory < n → Contains reached named.directory → named.directory ≢ root → IsLedTo files root named.directory) → IsLedTo files root handle
      by (inl same) later = ([], subst (λ (d : ℕ). IsIn files d handle) same.1 named.into)
      by (inr apart) later =
          let nearer = named.nearer in
          let way = later (omega (arith, nearer, less)) named.there apart.1 in
          (way.0 ++ named.directory ∷ [], one_more files root way.0 named.directory handle way.1 named.into)

  -- the least that wasn't reached is the first that is lost
  pub first_lost : (handle : ℕ) → has set handle ≡ true → ((other : ℕ) → has set other ≡ true → handle ≤ other) → IsFirstLost files root handle
  first_lost handle there least = record {
    directory = (stand.each handle there).0;
    other = (stand.each handle there).1;
    lost = λ way. let both : true ≡ false = sym there ∙ none_led root stand.root_is way.0 handle way.1 in absurd cc;
    first = λ earlier directory apart below. by earlier apart below (stand.known earlier directory apart);
  }
    where
      by : (earlier : ℕ) → earlier ≢ root → earlier < handle → Contains reached earlier ⊎ (has set earlier ≡ true) → IsLedTo files root earlier
      by earlier apart below (inl within) = led (suc (stand.ways.depth earlier)) earlier (omega arith) within apart
      by earlier apart below (inr left) = let le = least earlier left in absurd (omega (arith, le, below))
