-- The file with a handle, after an edit.
use Rattle.std.proofs.Common.{◌≡◌, ℕ, Bool, true, false, List, [], ◌∷◌, Some, None, Option, refl, sym, ap, ◌∙◌}
use Rattle.std.specs.Prelude.{◌≢◌, ◌==◌, ◌⊎◌, if◌then◌else◌, option_map, nat_lt}
use Rattle.std.proofs.Common.{inl, inr}
use Rattle.std.proofs.lemmas.Bool.{eq-eqb, ne_eqb}
use Rattle.std.proofs.lemmas.Bool.Decides.{eqb_tells}
use Rattle.bx_model.specs.bx_tree_files.specs.declared.file.File.{File}
use Rattle.bx_model.specs.bx_tree_files.specs.Files.{with_changed, without_file, file_at, with_file}

-- whether two numbers are the same, with what the test says
abbrev pub SameOr : ℕ → ℕ → Type 0
SameOr a b = (((a == b) ≡ true) × (a ≡ b)) ⊎ (((a == b) ≡ false) × (a ≢ b))

pub same_or : (a b : ℕ) → SameOr a b
same_or a b = eqb_tells a b

-- a file stands at its own handle
pub handle_at : (files : List File) (handle : ℕ) (file : File) → file_at files handle ≡ Some file → file.handle ≡ handle
handle_at [] handle file e = absurd cc
handle_at (x ∷ files) handle file e = by (same_or x.handle handle) e (handle_at files handle file)
  where
    by : SameOr x.handle handle → file_at (x ∷ files) handle ≡ Some file
        → (file_at files handle ≡ Some file → file.handle ≡ handle) → file.handle ≡ handle
    by (inl same) e later = let is : Some x ≡ Some file = rw same.0 at e in let x_is : x ≡ file = cc in sym (ap (λ (f : File). f.handle) x_is) ∙ same.1
    by (inr other) e later = later (rw other.0 at e)

pub some_same : {X : Type 0} (x y : X) → Some x ≡ Some y → x ≡ y
some_same x y e = cc

-- a file changed, which keeps its handle
pub file_at-changed : (files : List File) (at : ℕ) (change : File → File) (handle : ℕ) → ((file : File) → (change file).handle ≡ file.handle)
    → file_at (with_changed files at change) handle ≡ (if at == handle then option_map change (file_at files handle) else file_at files handle)
file_at-changed [] at change handle keeps = by (at == handle)
  where
    by : (b : Bool) → ◌≡◌ {A = Option File} None (if b then None else None)
    by true = refl
    by false = refl
file_at-changed (x ∷ files) at change handle keeps = by (same_or x.handle at) (same_or x.handle handle) (same_or at handle) (keeps x) (file_at-changed files at change handle keeps)
  where
    by : SameOr x.handle at
        → SameOr x.handle handle
        → SameOr at handle
        → (change x).handle ≡ x.handle
        → file_at (with_changed files at change) handle ≡ (if at == handle then option_map change (file_at files handle) else file_at files handle)
        → file_at (with_changed (x ∷ files) at change) handle ≡ (if at == handle then option_map change (file_at (x ∷ files) handle) else file_at (x ∷ files) handle)
    by (inl a) (inl h) (inl s) k later = rw (a.0, eq-eqb (change x).handle handle (k ∙ h.1), h.0, s.0) refl
    by (inl a) (inl h) (inr s) k later = absurd (s.1 (sym a.1 ∙ h.1))
    by (inl a) (inr h) (inl s) k later = absurd (h.1 (a.1 ∙ s.1))
    by (inl a) (inr h) (inr s) k later = rw (a.0, ne_eqb (change x).handle handle (λ e. h.1 (sym k ∙ e)), h.0) later
    by (inr a) (inl h) (inl s) k later = absurd (a.1 (h.1 ∙ sym s.1))
    by (inr a) (inl h) (inr s) k later = rw (a.0, h.0, s.0) refl
    by (inr a) (inr h) s k later = rw (a.0, h.0) later

-- a file taken out
pub file_at-without : (files : List File) (at handle : ℕ) → file_at (without_file files at) handle ≡ (if at == handle then None else file_at files handle)
file_at-without [] at handle = by (at == handle)
  where
    by : (b : Bool) → ◌≡◌ {A = Option File} None (if b then None else None)
    by true = refl
    by false = refl
file_at-without (x ∷ files) at handle = by (same_or x.handle at) (same_or x.handle handle) (same_or at handle) (file_at-without files at handle)
  where
    by : SameOr x.handle at
        → SameOr x.handle handle
        → SameOr at handle
        → file_at (without_file files at) handle ≡ (if at == handle then None else file_at files handle)
        → file_at (without_file (x ∷ files) at) handle ≡ (if at == handle then None else file_at (x ∷ files) handle)
    by (inl a) (inl h) (inl s) later = rw (a.0, later, s.0) refl
    by (inl a) (inl h) (inr s) later = absurd (s.1 (sym a.1 ∙ h.1))
    by (inl a) (inr h) (inl s) later = absurd (h.1 (a.1 ∙ s.1))
    by (inl a) (inr h) (inr s) later = rw (a.0, h.0) later
    by (inr a) (inl h) (inl s) later = absurd (a.1 (h.1 ∙ sym s.1))
    by (inr a) (inl h) (inr s) later = rw (a.0, h.0, s.0) refl
    by (inr a) (inr h) s later = rw (a.0, h.0) later

-- a file put in
pub file_at-with : (files : List File) (new : File) (handle : ℕ) → file_at (with_file files new) handle ≡ (if new.handle == handle then Some new else file_at files handle)
file_at-with [] new handle = refl
file_at-with (x ∷ files) new handle = by (same_or x.handle new.handle) (same_or x.handle handle) (same_or new.handle handle) (nat_lt new.handle x.handle) refl (file_at-with files new handle)
  where
    by : SameOr x.handle new.handle
        → SameOr x.handle handle
        → SameOr new.handle handle
        → (b : Bool) → nat_lt new.handle x.handle ≡ b
        → file_at (with_file files new) handle ≡ (if new.handle == handle then Some new else file_at files handle)
        → file_at (with_file (x ∷ files) new) handle ≡ (if new.handle == handle then Some new else file_at (x ∷ files) handle)
    by (inl a) (inl h) (inl s) b t later = rw (a.0, s.0) refl
    by (inl a) (inl h) (inr s) b t later = absurd (s.1 (sym a.1 ∙ h.1))
    by (inl a) (inr h) (inl s) b t later = absurd (h.1 (a.1 ∙ s.1))
    by (inl a) (inr h) (inr s) b t later = rw (a.0, h.0, s.0) refl
    by (inr a) h s true t later = rw (a.0, t) refl
    by (inr a) (inl h) (inl s) false t later = absurd (a.1 (h.1 ∙ sym s.1))
    by (inr a) (inl h) (inr s) false t later = rw (a.0, t, h.0, s.0) refl
    by (inr a) (inr h) s false t later = rw (a.0, t, h.0) later

-- the same, at the edited handle and elsewhere
pub changed_here : (files : List File) (at : ℕ) (change : File → File) (file : File) → ((f : File) → (change f).handle ≡ f.handle) → file_at files at ≡ Some file
    → file_at (with_changed files at change) at ≡ Some (change file)
changed_here files at change file keeps is = file_at-changed files at change at keeps ∙ rw (eq-eqb at at refl, is) refl

pub changed_other : (files : List File) (at : ℕ) (change : File → File) (handle : ℕ) → ((f : File) → (change f).handle ≡ f.handle) → at ≢ handle
    → file_at (with_changed files at change) handle ≡ file_at files handle
changed_other files at change handle keeps other = file_at-changed files at change handle keeps ∙ rw (ne_eqb at handle other) refl

pub without_other : (files : List File) (at handle : ℕ) → at ≢ handle → file_at (without_file files at) handle ≡ file_at files handle
without_other files at handle other = file_at-without files at handle ∙ rw (ne_eqb at handle other) refl

pub with_here : (files : List File) (new : File) → file_at (with_file files new) new.handle ≡ Some new
with_here files new = file_at-with files new new.handle ∙ rw (eq-eqb new.handle new.handle refl) refl

pub with_other : (files : List File) (new : File) (handle : ℕ) → new.handle ≢ handle → file_at (with_file files new) handle ≡ file_at files handle
with_other files new handle other = file_at-with files new handle ∙ rw (ne_eqb new.handle handle other) refl
