use Rattle.std.proofs.Common.{◌≡◌, ℕ, ◌⊎◌, inl, inr, true, sym, ◌∙◌, ap, subst}
use Rattle.std.specs.Prelude.{◌≢◌, Contains}
use Rattle.bx_audit_links.specs.Reached.{has}
use Rattle.bx_model.specs.FileTrees.{is_directory_at}
use Rattle.bx_tree_files.specs.declared.file.File.{File}
use Rattle.bx_tree_files.specs.Files.{is_directory}
use Rattle.std.proofs.lemmas.Bool.{eq-eqb, eqb-true}
use Rattle.bx_audit_links.proofs.Directories.{all_directories, directory_found, put_here, put_or_there, stays_put}
use Rattle.bx_audit_links.proofs.Rests.{front_or_rest, front_there, none_there, rest_there}
use Rattle.bx_audit_links.proofs.reached.directories_but.Goals as goal
use Rattle.bx_audit_links.proofs.reached.directories_but.Goals.{else-file-eq-DIRECTORY-via-then-file-eq-DIRECTORY+else-file-root, else-file-eq-DIRECTORY-via-else-file-eq-DIRECTORY}

pub loop-file-preserved-then-file-root : goal.loop-file-preserved-then-file-root
loop-file-preserved-then-file-root c = record {
  each = λ handle is. each handle (put_or_there c.in-Some.file.now.handle _ _ c.in_ok-insert.ensures.updates.0 handle is);
  all = λ file there is other. all file other is (c.loop-file.invariant.all file there is other);
  rest = λ file there. c.loop-file.invariant.rest file (rest_there _ _ c.in-Some.file.now file c.in-Some.ensures.steps there);
}
  where
    kind : is_directory c.in-Some.file.now ≡ true
    kind = eq-eqb c.in-Some.file.now.kind 2 c.if-file-eq-DIRECTORY.true

    each : (handle : ℕ) → (c.in-Some.file.now.handle ≡ handle) ⊎ (has c.loop-file.directories handle ≡ true) → (is_directory_at c.args.files.now handle ≡ true) × (handle ≢ c.args.root)
    each handle (inr was) = c.loop-file.invariant.each handle was
    each handle (inl same) = (
      subst (λ (h : ℕ). is_directory_at c.args.files.now h ≡ true) same
          (directory_found c.args.files.now c.in-Some.file.now c.requires (c.loop-file.invariant.rest c.in-Some.file.now (front_there _ _ c.in-Some.file.now c.in-Some.ensures.steps)) kind),
      λ root. c.if-file-root.true (same ∙ root),
    )

    all : (file : File) → file.handle ≢ c.args.root → is_directory file ≡ true → Contains c.loop-file.file-iterator file ⊎ (has c.loop-file.directories file.handle ≡ true)
        → Contains c.next.new.self file ⊎ (has c.insert.new.self file.handle ≡ true)
    all file other is (inr was) = inr (stays_put c.in-Some.file.now.handle _ _ c.in_ok-insert.ensures.updates.0 file.handle was)
    all file other is (inl left) = by (front_or_rest _ _ c.in-Some.file.now file c.in-Some.ensures.steps left)
      where
        by : (c.in-Some.file.now ≡ file) ⊎ Contains c.next.new.self file → Contains c.next.new.self file ⊎ (has c.insert.new.self file.handle ≡ true)
        by (inr more) = inl more
        by (inl same) = inr (subst (λ (f : File). has c.insert.new.self f.handle ≡ true) same (put_here c.in-Some.file.now.handle _ _ c.in_ok-insert.ensures.updates.0))

pub loop-file-preserved : goal.loop-file-preserved
loop-file-preserved c = record {
  each = c.loop-file.invariant.each;
  all = λ file there is other. all file other is (c.loop-file.invariant.all file there is other);
  rest = λ file there. c.loop-file.invariant.rest file (rest_there _ _ c.in-Some.file.now file c.in-Some.ensures.steps there);
}
  where
    not_it : (file : File) → file.handle ≢ c.args.root → is_directory file ≡ true → c.in-Some.file.now ≡ file → ⊥
    not_it file other is same = elim c.else-file-eq-DIRECTORY.branch [
      | else-file-eq-DIRECTORY-via-then-file-eq-DIRECTORY+else-file-root w ↦ other (ap (λ (f : File). f.handle) (sym same) ∙ w.if-file-root.false)
      | else-file-eq-DIRECTORY-via-else-file-eq-DIRECTORY w ↦ w.if-file-eq-DIRECTORY.false (ap (λ (f : File). f.kind) same ∙ eqb-true file.kind 2 is)
    ]

    all : (file : File) → file.handle ≢ c.args.root → is_directory file ≡ true → Contains c.loop-file.file-iterator file ⊎ (has c.loop-file.directories file.handle ≡ true)
        → Contains c.next.new.self file ⊎ (has c.loop-file.directories file.handle ≡ true)
    all file other is (inr was) = inr was
    all file other is (inl left) = by (front_or_rest _ _ c.in-Some.file.now file c.in-Some.ensures.steps left)
      where
        by : (c.in-Some.file.now ≡ file) ⊎ Contains c.next.new.self file → Contains c.next.new.self file ⊎ (has c.loop-file.directories file.handle ≡ true)
        by (inr more) = inl more
        by (inl same) = absurd (not_it file other is same)

pub returns : goal.returns
returns c = all_directories c.args.files.now c.args.root _ c.loop-file.invariant.each
    (λ file there is other. left file (c.loop-file.invariant.all file there is other))
  where
    left : (file : File) → Contains c.loop-file.file-iterator file ⊎ (has c.loop-file.directories file.handle ≡ true) → has c.loop-file.directories file.handle ≡ true
    left file (inl more) = absurd (none_there _ file c.in-None.ensures.steps.0 more)
    left file (inr is) = is
