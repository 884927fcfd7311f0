-- What CREATE comes to of a name that isn't there.
use Rattle.std.proofs.Common.{◌≡◌, ℕ, ◌^◌, ◌<◌, Bool, true, false, List, length, Option, Some, None, refl, sym, ap, ◌∙◌, subst, inl, inr, arith}
use Rattle.std.specs.Prelude.{◌≢◌, ◌⊎◌, ◌==◌, ◌&&◌, not, nat_le, nat_lt, if◌then◌else◌, replicate, Result, Ok, Err}
use Rattle.std.proofs.lemmas.Bool.{le-leb, lt-ltb}
use Rattle.std.proofs.lemmas.Bool.Decides.{nat_tests}
use Rattle.std.proofs.lemmas.List.{length-replicate}
use Rattle.bx_changes.specs.Growing.{IsMaking, Makes}
use Rattle.bx_changes.specs.declared.error.ChangeError.{ChangeError}
use Rattle.bx_changes.specs.declared.error.ChangeError.TheVariants.{Stopped, Full}
use Rattle.bx_entries.specs.Finding.{IsDirectoryOf}
use Rattle.bx_inodes.specs.Heads.{head_of}
use Rattle.bx_inodes.specs.Inodes.{shown_size}
use Rattle.bx_inodes.specs.Stands.{Stands}
use Rattle.bx_inodes.specs.declared.stop.Stop.TheVariants.{Need, Inner, Status, OutOfMemory}
use Rattle.bx_layout.specs.declared.inode.Inode.{Inode}
use Rattle.bx_entries.specs.bx_making.specs.Made.{file_of}
use Rattle.bx_model.specs.declared.call.Call.{Call}
use Rattle.bx_model.specs.declared.permissions.Want.TheVariants as want
use Rattle.bx_model.specs.declared.reply.Reply.{Reply}
use Rattle.bx_model.specs.declared.tree.Tree.{Tree}
use Rattle.bx_model.specs.Edits.{is_unused}
use Rattle.bx_model.specs.FileTrees.{IsFileTree}
use Rattle.bx_model.specs.Making.{create_new, created, new_file, with_made}
use Rattle.bx_model.specs.Permissions.{may}
use Rattle.bx_model.specs.Reading.{handle_reply}
use Rattle.bx_model.specs.Steps.{Making, Step, refuse, ◌>>◌, taken}
use Rattle.bx_model.specs.Steps.Step.{Makes as MakesBy}
use Rattle.bx_records.specs.Drafts.{Changed}
use Rattle.bx_tree_files.specs.declared.file.Body.{Body}
use Rattle.bx_tree_files.specs.declared.file.Body.TheVariants.{Bytes}
use Rattle.bx_tree_files.specs.declared.file.File.{File}
use Rattle.bx_tree_files.specs.declared.sattr.Sattr.{Sattr}
use Rattle.bx_tree_files.specs.Changes.{most_bytes}
use Rattle.bx_tree_files.specs.Files.{file_at, size_of}
use Rattle.bx_tree_files.specs.Names.{next_of}
use Rattle.bx_tree_files.specs.Times.{Time, is_given}
use Rattle.bx_tree_laws.proofs.MadeKeeps.{made_follows}
use Rattle.bx_tree_laws.proofs.NewFiles.{new_bytes}
use Rattle.bx_tree_laws.proofs.Places.{unused_fresh, unused_gone}
use Rattle.bx_truth.specs.Stored.{HasFields}
use Rattle.bx_truth.proofs.Cases.{eq_false, eq_true, same_or}
use Rattle.bx_truth.proofs.OpeningSlots.{zeros_at}
use Rattle.bx_views.specs.Truths.{Held, Hints, Truth}
use Rattle.bx_creating.specs.Creating.{IsWithout, making_error}
use Rattle.bx_creating.specs.Finding.{IsPlaceFor}
use Rattle.bx_creating.specs.Inodes.{IsNewBody, file_inode}
use Rattle.bx_creating.specs.Placing.{Places, PlacesIn}
use Rattle.bx_creating.proofs.Found.{next_is}

-- ---- the tests

abbrev tested : Bool → Bool → Bool → Bool → Step → Making
tested allowed big full few step = (refuse (not allowed) 13 >> (refuse big 27 >> (refuse full 69 >> refuse few 28))) >> Ok step

abbrev first_error : Bool → Bool → Bool → Option ℕ
first_error allowed big full = if allowed then (if big then Some 27 else if full then Some 69 else None) else Some 13

some_same : (a b : ℕ) → Some a ≡ Some b → a ≡ b
some_same a b e = cc

refused : (allowed big full : Bool) (step : Step) (status : ℕ) → first_error allowed big full ≡ Some status → tested allowed big full false step ≡ Err status
refused false big full step status e = ap Err (some_same 13 status e)
refused true true full step status e = ap Err (some_same 27 status e)
refused true false true step status e = ap Err (some_same 69 status e)
refused true false false step status e = absurd cc

record Passes (allowed big full : Bool) : Type 0 where
  allowed_is : allowed ≡ true
  big_is : big ≡ false
  full_is : full ≡ false

passes : (allowed big full : Bool) → first_error allowed big full ≡ None → Passes allowed big full
passes false big full e = absurd cc
passes true true full e = absurd cc
passes true false true e = absurd cc
passes true false false e = record { allowed_is = refl; big_is = refl; full_is = refl }

no_more : (n : ℕ) → n < 4294967295 → nat_le 4294967295 n ≡ false
no_more n less = grind (arith, less)

-- the greatest number is none but itself
greatest : (n : ℕ) → n < 2 ^ 32 → nat_le 4294967295 n ≡ (n == 4294967295)
greatest n fits = by (same_or n 4294967295)
  where
    by : (n ≡ 4294967295) ⊎ (n ≢ 4294967295) → nat_le 4294967295 n ≡ (n == 4294967295)
    by (inl same) = le-leb 4294967295 n (omega (arith, same)) ∙ sym (eq_true n 4294967295 same)
    by (inr other) = no_more n (omega (arith, fits, other)) ∙ sym (eq_false n 4294967295 other)

small : (given : Bool) (size : ℕ) → (given && nat_lt most_bytes size) ≡ false → (if given then size else 0) < 2 ^ 31
small true size e = grind (arith, nat_tests, e)
small false size e = omega arith

-- ---- a call that makes a file

module _ (volume areas : ℕ) (truth : Truth) (tree : Tree) (stands : Stands volume areas truth tree) (making : ℕ → Making) (last : ℕ → Reply × Tree) (enough : making 8 ≡ Ok (MakesBy last)) (full : (spare : ℕ) → spare < 8 → making spare ≡ Err 28)
    (handle : ℕ) (name : List ℕ) (now : Time) (inode : Inode) (body : Body) where
  pub not_made : (stop : ChangeError) → PlacesIn areas truth tree handle name now inode body (Err stop) → IsMaking volume areas truth tree making (Err stop)
  not_made (Stopped (Need at mode)) p = tt
  not_made (Stopped (Inner blocks)) p = p
  not_made (Stopped (Status status)) p = absurd p
  not_made (Stopped OutOfMemory) p = tt
  not_made (Full spare) p = (p, full spare p.few)

  pub makes_it : (draft : List Changed) (reply : Reply) (made : ℕ) → Places areas truth tree handle name now inode body draft made → last made ≡ (reply, with_made tree handle name now (file_of inode made body))
      → (is_unused tree made ≡ true → IsFileTree (last made).1) → Makes volume areas truth tree (making 8) draft reply made
  makes_it draft reply made p same keeps = record {
    next = with_made tree handle name now (file_of inode made body);
    comes_to = ap (taken tree made) enough ∙ ap (λ (t : Bool). if t then Some (last made) else None) p.unused ∙ ap Some same;
    stands = record { is = p.stands; volume_is = stands.volume_is; file_tree = subst (λ (both : Reply × Tree). IsFileTree both.1) same (keeps p.unused) };
  }

-- ---- CREATE

module _ (volume areas : ℕ) (held : Held) (hints : Hints) (truth : Truth) (tree : Tree) (handle : ℕ) (inode : Inode) (name : List ℕ) (w : IsWithout volume areas held hints truth tree handle inode name) (call : Call) (sattr : Sattr) (now : Time) where
  abbrev d : IsDirectoryOf volume areas held hints truth tree handle inode
  d = w.directory

  abbrev file : File
  file = w.directory.at.file

  abbrev may_change : Bool
  may_change = may call file want.Change

  abbrev too_big : Bool
  too_big = is_given sattr.size && nat_lt most_bytes sattr.size

  abbrev bytes : List ℕ
  bytes = replicate (if is_given sattr.size then sattr.size else 0) 0

  pub last : ℕ → Reply × Tree
  last = created tree call w.directory.at.file.handle name sattr now

  create_is : (spare : ℕ) → create_new tree call file name sattr now spare ≡ tested may_change too_big (nat_le 4294967295 (next_of file.body)) (nat_lt spare 8) (MakesBy last)
  unfolding last
  create_is spare = refl

  -- the number of its next entry
  number_is : inode.next < 2 ^ 32 → nat_le 4294967295 (next_of file.body) ≡ (inode.next == 4294967295)
  number_is fits = ap (nat_le 4294967295) (sym (next_is volume areas held hints truth tree handle inode d)) ∙ greatest inode.next fits

  error_is : making_error call sattr inode.next (head_of handle inode) ≡ making_error call sattr inode.next file
  error_is =
      let fields : HasFields inode file = d.at.fields in
      λ i. making_error call sattr inode.next (record file { kind = fields.kind i; mode = fields.mode i; uid = fields.uid i; gid = fields.gid i })

  pub refused_so : inode.next < 2 ^ 32 → (status : ℕ) → making_error call sattr inode.next (head_of handle inode) ≡ Some status → create_new tree call w.directory.at.file name sattr now 8 ≡ Err status
  refused_so fits status e =
      create_is 8 ∙ ap (λ (q : Bool). tested may_change too_big q false (MakesBy last)) (number_is fits) ∙ refused may_change too_big (inode.next == 4294967295) (MakesBy last) status (sym error_is ∙ e)

  module _ (fits : inode.next < 2 ^ 32) (none : making_error call sattr inode.next (head_of handle inode) ≡ None) where
    passed : Passes may_change too_big (inode.next == 4294967295)
    passed = passes may_change too_big (inode.next == 4294967295) (sym error_is ∙ none)

    comes : (spare : ℕ) → create_new tree call file name sattr now spare ≡ tested true false false (nat_lt spare 8) (MakesBy last)
    comes spare =
        create_is spare ∙ ap (λ (q : Bool). tested may_change too_big q (nat_lt spare 8) (MakesBy last)) (number_is fits)
        ∙ (λ i. tested (passed.allowed_is i) (passed.big_is i) (passed.full_is i) (nat_lt spare 8) (MakesBy last))

    pub enough : create_new tree call w.directory.at.file name sattr now 8 ≡ Ok (MakesBy last)
    enough = comes 8

    pub full : (spare : ℕ) → spare < 8 → create_new tree call w.directory.at.file name sattr now spare ≡ Err 28
    full spare less = comes spare ∙ ap (λ (f : Bool). tested true false false f (MakesBy last)) (lt-ltb spare 8 less)

    pub place : IsPlaceFor volume areas held hints truth tree handle inode name
    place = record { directory = w.directory; absent = w.absent; number = less }
      where
        less : inode.next < 4294967295
        less = by (same_or inode.next 4294967295)
          where
            by : (inode.next ≡ 4294967295) ⊎ (inode.next ≢ 4294967295) → inode.next < 4294967295
            by (inl same) = let both : true ≡ false = sym (eq_true inode.next 4294967295 same) ∙ passed.full_is in absurd cc
            by (inr other) = omega (arith, fits, other)

    long : length bytes < 2 ^ 31
    long = simp length-replicate (small (is_given sattr.size) sattr.size passed.big_is)

    pub keeps : (made : ℕ) → is_unused tree made ≡ true → IsFileTree (last made).1
    unfolding last
    keeps made unused =
        (made_follows tree d.stands.file_tree file file.handle now name (new_file call sattr now 0o644 made (Bytes bytes)) (unused_fresh tree made unused) (ap (file_at tree.files) d.at.handle_is ∙ d.at.there)
        (eq_true file.kind 2 (sym d.at.fields.kind ∙ d.kind)) w.good w.absent (unused_gone tree made d.stands.file_tree unused) (new_bytes call sattr now file.handle made bytes long)).is

    -- the file that is placed, by the inode that it is made with
    pub placed_file : (new : Inode) (result : Result (List Changed × ℕ) ChangeError) → new ≡ file_inode call sattr now → ((body : Body) → IsNewBody new body → PlacesIn areas truth tree handle name now new body result)
        → PlacesIn areas truth tree handle name now (file_inode call sattr now) (Bytes (replicate (if is_given sattr.size then sattr.size else 0) 0)) result
    placed_file new result is step =
        let one : IsNewBody (file_inode call sattr now) (Bytes bytes) = inr ((λ five. absurd (omega (arith, five))), (refl, length-replicate (if is_given sattr.size then sattr.size else 0) 0, λ at. zeros_at (if is_given sattr.size then sattr.size else 0) at)) in
        (rw is at step) (Bytes bytes) one

    -- what is told of it
    pub last_told : (made : ℕ) (new : Inode) (reply : Reply) → new ≡ file_inode call sattr now
        → ((tree : Tree) (body : Body) → tree.volume ≡ volume → size_of body ≡ shown_size new → size_of body < 2 ^ 31 → reply ≡ handle_reply tree (file_of new made body))
        → last made ≡ (reply, with_made tree handle name now (file_of (file_inode call sattr now) made (Bytes (replicate (if is_given sattr.size then sattr.size else 0) 0))))
    unfolding last
    last_told made new reply is tells =
        let told : reply ≡ handle_reply tree (file_of (file_inode call sattr now) made (Bytes bytes)) =
        (rw is at tells) tree (Bytes bytes) d.stands.volume_is (length-replicate (if is_given sattr.size then sattr.size else 0) 0) long in
        λ i. (sym told i, with_made tree (d.at.handle_is i) name now (file_of (file_inode call sattr now) made (Bytes bytes)))
