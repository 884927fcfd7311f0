-- The order of the files, and what is in the list, after an edit.
use Rattle.std.proofs.Common.{◌≡◌, ℕ, zero, suc, ◌<◌, ◌≤◌, arith, Bool, true, false, List, [], ◌∷◌, Some, None, refl, sym, ap, subst, inl, inr}
use Rattle.std.specs.Prelude.{◌≢◌, ◌==◌, if◌then◌else◌, nat_lt, All, AllPairs, Contains}
use Rattle.std.proofs.lemmas.List.Elements.{All-cons, All-head, All-tail}
use Rattle.std.proofs.lemmas.List.Kept.{AllPairs-filter}
use Rattle.std.proofs.lemmas.Bool.{ltb-true, ltb-false, eq-eqb, ne_eqb}
use Rattle.bx_model.specs.bx_tree_files.specs.declared.file.File.{File}
use Rattle.bx_model.specs.bx_tree_files.specs.Files.{with_changed, without_file, file_at, with_file}
use Rattle.bx_tree_laws.proofs.Lookups.{SameOr, same_or, some_same}

abbrev pub Rise : List File → Type 0
Rise files = AllPairs (λ file later. file.handle < later.handle) files

abbrev pub Above : ℕ → List File → Type 0
Above handle files = All (λ (file : File). handle < file.handle) files

pub rise_head : (x : File) (files : List File) → Rise (x ∷ files) → Above x.handle files
rise_head x files rise k d less = rise 0 (suc k) d (omega arith) (omega (arith, less))

pub rise_tail : (x : File) (files : List File) → Rise (x ∷ files) → Rise files
rise_tail x files rise i j d less within = rise (suc i) (suc j) d (omega (arith, less)) (omega (arith, within))

pub rise_cons : (x : File) (files : List File) → Above x.handle files → Rise files → Rise (x ∷ files)
rise_cons x files above rise zero zero d less within = absurd (omega (arith, less))
rise_cons x files above rise zero (suc j) d less within = above j d (omega (arith, within))
rise_cons x files above rise (suc i) zero d less within = absurd (omega (arith, less))
rise_cons x files above rise (suc i) (suc j) d less within = rise i j d (omega (arith, less)) (omega (arith, within))

above_lower : (low high : ℕ) (files : List File) → low ≤ high → Above high files → Above low files
above_lower low high files le above k d less = let more = above k d less in omega (arith, le, more)

-- a file that is above all isn't there
pub none_below : (files : List File) (handle : ℕ) → Above handle files → file_at files handle ≡ None
none_below [] handle above = refl
none_below (x ∷ files) handle above = by (same_or x.handle handle) (All-head (λ (f : File). handle < f.handle) x files above) (none_below files handle (All-tail (λ (f : File). handle < f.handle) x files above))
  where
    by : SameOr x.handle handle → handle < x.handle → file_at files handle ≡ None → file_at (x ∷ files) handle ≡ None
    by (inl same) less later = absurd (omega (arith, same.1, less))
    by (inr other) less later = rw other.0 later

above_changed : (files : List File) (at : ℕ) (change : File → File) (low : ℕ) → ((file : File) → (change file).handle ≡ file.handle) → Above low files → Above low (with_changed files at change)
above_changed [] at change low keeps above = above
above_changed (x ∷ files) at change low keeps above =
    by (x.handle == at) (All-head (λ (f : File). low < f.handle) x files above) (above_changed files at change low keeps (All-tail (λ (f : File). low < f.handle) x files above))
  where
    by : (b : Bool) → low < x.handle → Above low (with_changed files at change) → Above low ((if b then change x else x) ∷ with_changed files at change)
    by true less later = All-cons (λ (f : File). low < f.handle) (change x) (with_changed files at change) (omega (arith, less, keeps x)) later
    by false less later = All-cons (λ (f : File). low < f.handle) x (with_changed files at change) less later

pub rise_changed : (files : List File) (at : ℕ) (change : File → File) → ((file : File) → (change file).handle ≡ file.handle) → Rise files → Rise (with_changed files at change)
rise_changed [] at change keeps rise = rise
rise_changed (x ∷ files) at change keeps rise =
    by (x.handle == at) (above_changed files at change x.handle keeps (rise_head x files rise)) (rise_changed files at change keeps (rise_tail x files rise))
  where
    by : (b : Bool) → Above x.handle (with_changed files at change) → Rise (with_changed files at change) → Rise ((if b then change x else x) ∷ with_changed files at change)
    by true above later = rise_cons (change x) (with_changed files at change) (subst (λ (h : ℕ). Above h (with_changed files at change)) (sym (keeps x)) above) later
    by false above later = rise_cons x (with_changed files at change) above later

pub rise_without : (files : List File) (at : ℕ) → Rise files → Rise (without_file files at)
rise_without files at rise = AllPairs-filter (λ (file later : File). file.handle < later.handle) _ files rise

above_with : (files : List File) (new : File) (low : ℕ) → low < new.handle → Above low files → Above low (with_file files new)
above_with [] new low less above = All-cons (λ (f : File). low < f.handle) new [] less above
above_with (x ∷ files) new low less above =
    by (x.handle == new.handle) (nat_lt new.handle x.handle) (above_with files new low less tail)
  where
    tail : Above low files
    tail = All-tail (λ (f : File). low < f.handle) x files above

    by : (b c : Bool) → Above low (with_file files new) → Above low (if b then new ∷ files else if c then new ∷ x ∷ files else x ∷ with_file files new)
    by true c later = All-cons (λ (f : File). low < f.handle) new files less tail
    by false true later = All-cons (λ (f : File). low < f.handle) new (x ∷ files) less above
    by false false later = All-cons (λ (f : File). low < f.handle) x (with_file files new) (All-head (λ (f : File). low < f.handle) x files above) later

pub rise_with : (files : List File) (new : File) → Rise files → Rise (with_file files new)
rise_with [] new rise = λ i j d less within. absurd (omega (arith, less, within))
rise_with (x ∷ files) new rise = by (same_or x.handle new.handle) (nat_lt new.handle x.handle) refl (rise_with files new (rise_tail x files rise))
  where
    above : Above x.handle files
    above = rise_head x files rise

    by : SameOr x.handle new.handle → (c : Bool) → nat_lt new.handle x.handle ≡ c → Rise (with_file files new) → Rise (with_file (x ∷ files) new)
    by (inl same) c t later = rw same.0 (rise_cons new files (subst (λ (h : ℕ). Above h files) same.1 above) (rise_tail x files rise))
    by (inr other) true t later =
        let less = ltb-true new.handle x.handle t in
        rw (other.0, t) (rise_cons new (x ∷ files) (All-cons (λ (f : File). new.handle < f.handle) x files less (above_lower new.handle x.handle files (omega (arith, less)) above)) rise)
    by (inr other) false t later =
        let le = ltb-false new.handle x.handle t in
        rw (other.0, t) (rise_cons x (with_file files new) (above_with files new x.handle (omega (arith, le, other.1)) above) later)

-- a file that is in the list stands at its handle, and the other way round
pub at_contained : (files : List File) (file : File) → Rise files → Contains files file → file_at files file.handle ≡ Some file
at_contained [] file rise (k, within, is) = absurd (omega (arith, within))
at_contained (x ∷ files) file rise (zero, within, is) = rw (is, eq-eqb file.handle file.handle refl) refl
at_contained (x ∷ files) file rise (suc k, within, is) =
    let less = rise_head x files rise k file (omega (arith, within)) in
    let there = at_contained files file (rise_tail x files rise) (k, omega (arith, within), is) in
    let apart : x.handle ≢ file.handle = λ e. omega (arith, less, e, ap (λ (f : File). f.handle) is) in
    rw (ne_eqb x.handle file.handle apart) there

pub contains_at : (files : List File) (handle : ℕ) (file : File) → file_at files handle ≡ Some file → Contains files file
contains_at [] handle file e = absurd cc
contains_at (x ∷ files) handle file e = by (same_or x.handle handle) (contains_at files handle file)
  where
    by : SameOr x.handle handle → (file_at files handle ≡ Some file → Contains files file) → Contains (x ∷ files) file
    by (inl same) later = (0, omega arith, some_same x file (rw same.0 at e))
    by (inr other) later = let there = later (rw other.0 at e) in (suc there.0, omega (arith, there.1), there.2)
