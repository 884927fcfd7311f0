-- Edits of files that may come in either order, and two edits of one file.
use Rattle.std.proofs.Common.{◌≡◌, ℕ, Bool, true, false, cond, eqb, not, List, [], ◌∷◌, refl, sym, ap, subst, ◌∙◌}
use Rattle.std.specs.Prelude.{map}
use Rattle.std.proofs.lemmas.Bool.{eqb-true}
use Rattle.bx_tree_files.specs.declared.file.File.{File}
use Rattle.bx_tree_files.specs.Files.{with_changed, without_file}

-- an edit that leaves the handle alone
abbrev pub Keeps : (File → File) → Type 0
Keeps change = (file : File) → (change file).handle ≡ file.handle

-- what an edit of the file with a handle does to any file
abbrev here : ℕ → (File → File) → File → File
here handle change file = cond (eqb file.handle handle) (change file) file

map_map : (f g both : File → File) → ((file : File) → g (f file) ≡ both file) → (files : List File) → map g (map f files) ≡ map both files
map_map f g both each [] = refl
map_map f g both each (file ∷ files) =
    ap (λ (first : File). first ∷ map g (map f files)) (each file) ∙ ap (λ (others : List File). both file ∷ others) (map_map f g both each files)

map_swap : (f g : File → File) → ((file : File) → g (f file) ≡ f (g file)) → (files : List File) → map g (map f files) ≡ map f (map g files)
map_swap f g each [] = refl
map_swap f g each (file ∷ files) =
    ap (λ (first : File). first ∷ map g (map f files)) (each file) ∙ ap (λ (others : List File). f (g file) ∷ others) (map_swap f g each files)

at_new : (handle : ℕ) (change : File → File) (file : File) (b : Bool) → Keeps change → eqb file.handle handle ≡ b → eqb (change file).handle handle ≡ b
at_new handle change file b keeps is = ap (λ (k : ℕ). eqb k handle) (keeps file) ∙ is

both_by : (b : Bool) (handle : ℕ) (f g : File → File) (file : File) → eqb file.handle handle ≡ b → Keeps f
    → here handle g (cond b (f file) file) ≡ cond b (g (f file)) file
both_by true handle f g file is keeps = rw (at_new handle f file true keeps is) refl
both_by false handle f g file is keeps = rw is refl

-- two edits of one file are one
pub changed_twice : (files : List File) (handle : ℕ) (f g : File → File) → Keeps f
    → with_changed (with_changed files handle f) handle g ≡ with_changed files handle (λ file. g (f file))
changed_twice files handle f g keeps =
    map_map (here handle f) (here handle g) (here handle (λ file. g (f file))) (λ file. both_by (eqb file.handle handle) handle f g file refl keeps) files

one_by : (b : Bool) (handle : ℕ) (f g : File → File) (file : File) → eqb file.handle handle ≡ b → Keeps f → Keeps g → g (f file) ≡ f (g file)
    → here handle g (cond b (f file) file) ≡ here handle f (cond b (g file) file)
one_by true handle f g file is kept keeps same = rw (at_new handle f file true kept is, at_new handle g file true keeps is) same
one_by false handle f g file is kept keeps same = rw is refl

-- edits of one file that may come in either order
pub swapped_here : (files : List File) (handle : ℕ) (f g : File → File) → Keeps f → Keeps g → ((file : File) → g (f file) ≡ f (g file))
    → with_changed (with_changed files handle f) handle g ≡ with_changed (with_changed files handle g) handle f
swapped_here files handle f g kept keeps same =
    map_swap (here handle f) (here handle g) (λ file. one_by (eqb file.handle handle) handle f g file refl kept keeps (same file)) files

not_both : (a b : ℕ) (file : File) → eqb a b ≡ false → eqb file.handle a ≡ true → eqb file.handle b ≡ true → ⊥
not_both a b file apart at_a at_b =
    let one : file.handle ≡ a = eqb-true file.handle a at_a in
    let at_b_too : eqb a b ≡ true = subst (λ (k : ℕ). eqb k b ≡ true) one at_b in
    cc

two_by : (x y : Bool) (a b : ℕ) (f g : File → File) (file : File) → eqb file.handle a ≡ x → eqb file.handle b ≡ y → Keeps f → Keeps g → eqb a b ≡ false
    → here b g (cond x (f file) file) ≡ here a f (cond y (g file) file)
two_by true true a b f g file at_a at_b kept keeps apart = absurd (not_both a b file apart at_a at_b)
two_by true false a b f g file at_a at_b kept keeps apart = rw (at_new b f file false kept at_b, at_a) refl
two_by false true a b f g file at_a at_b kept keeps apart = rw (at_b, at_new a g file false keeps at_a) refl
two_by false false a b f g file at_a at_b kept keeps apart = rw (at_b, at_a) refl

-- edits of two files
pub swapped_apart : (files : List File) (a b : ℕ) (f g : File → File) → Keeps f → Keeps g → eqb a b ≡ false
    → with_changed (with_changed files a f) b g ≡ with_changed (with_changed files b g) a f
swapped_apart files a b f g kept keeps apart =
    map_swap (here a f) (here b g) (λ file. two_by (eqb file.handle a) (eqb file.handle b) a b f g file refl refl kept keeps apart) files

gone_by : (b : Bool) (file new : File) (files left : List File) (change : File → File) → change file ≡ new → map change files ≡ left
    → map change (cond b (file ∷ files) files) ≡ cond b (new ∷ left) left
gone_by true file new files left change one others = ap (λ (first : File). first ∷ map change files) one ∙ ap (λ (rest : List File). new ∷ rest) others
gone_by false file new files left change one others = others

same_here : (b : Bool) (handle : ℕ) (change : File → File) (file : File) → Keeps change → (cond b (change file) file).handle ≡ file.handle
same_here true handle change file keeps = keeps file
same_here false handle change file keeps = refl

-- a file changed, and one taken out
pub swapped_gone : (files : List File) (gone handle : ℕ) (change : File → File) → Keeps change
    → with_changed (without_file files gone) handle change ≡ without_file (with_changed files handle change) gone
swapped_gone [] gone handle change keeps = refl
swapped_gone (file ∷ files) gone handle change keeps =
    gone_by (not (eqb file.handle gone)) file (here handle change file) (without_file files gone) (without_file (with_changed files handle change) gone) (here handle change) refl
    (swapped_gone files gone handle change keeps)
    ∙ ap (λ (k : ℕ). cond (not (eqb k gone)) (here handle change file ∷ without_file (with_changed files handle change) gone) (without_file (with_changed files handle change) gone))
    (sym (same_here (eqb file.handle handle) handle change file keeps))
