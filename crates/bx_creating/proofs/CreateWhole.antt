-- What CREATE comes to, from the directory on.
use Rattle.std.proofs.Common.{◌≡◌, ℕ, ◌≤◌, eqb-true, List, Option, Some, None, refl, sym, ap, ◌∙◌, subst, inl, inr}
use Rattle.std.specs.Prelude.{IfErr, IfOk, Result, Ok, Err}
use Rattle.std.proofs.lemmas.Result.{IfOk-weaker}
use Rattle.bx_creating.proofs.Lacks.{enters}
use Rattle.bx_entries.specs.Lacking.{FindsBoth, MakesEither}
use Rattle.bx_changes.specs.First.{ComesFirst, StopsFirst}
use Rattle.bx_changes.specs.Growing.{IsMaking, Makes}
use Rattle.bx_changes.specs.declared.error.ChangeError.{ChangeError}
use Rattle.bx_changes.specs.declared.error.ChangeError.TheVariants.{Stopped}
use Rattle.bx_entries.specs.declared.finding.Removable.TheVariants as of
use Rattle.bx_entries.proofs.RemovedFrom.{IsListed, listed}
use Rattle.bx_places.specs.Handles.{named}
use Rattle.bx_inodes.specs.Fitting.{HintsFitAll}
use Rattle.bx_inodes.specs.Stands.{Stands}
use Rattle.bx_inodes.specs.declared.stop.Stop.{Stop}
use Rattle.bx_inodes.specs.declared.stop.Stop.TheVariants.{Need, Inner, Status, OutOfMemory}
use Rattle.bx_layout.specs.declared.inode.Inode.{Inode}
use Rattle.bx_model.specs.declared.call.Call.{Call}
use Rattle.bx_model.specs.declared.permissions.Want.TheVariants as want
use Rattle.bx_model.specs.declared.reply.Reply.{Reply}
use Rattle.bx_model.specs.declared.tree.Tree.{Tree}
use Rattle.bx_model.specs.Making.{create, create_at, create_new, create_over}
use Rattle.bx_model.specs.Reading.{named_file}
use Rattle.bx_model.specs.Steps.{Making, ◌>>=◌, taken}
use Rattle.bx_changes.specs.bx_reads.proofs.Told.{named_as}
use Rattle.bx_records.specs.Drafts.{Changed}
use Rattle.bx_tree_files.specs.declared.file.Body.{Body}
use Rattle.bx_tree_files.specs.declared.file.File.{File}
use Rattle.bx_tree_files.specs.declared.file.Name.{Name}
use Rattle.bx_tree_files.specs.declared.sattr.Sattr.{Sattr}
use Rattle.bx_tree_files.specs.Entries.{entry_named}
use Rattle.bx_tree_files.specs.Files.{file_at}
use Rattle.bx_tree_files.specs.Names.{names_of}
use Rattle.bx_tree_files.specs.Times.{Time}
use Rattle.bx_views.specs.Truths.{Held, Hints, IsTruth, Truth}
use Rattle.bx_creating.specs.Creating.{IsWithout}
use Rattle.bx_creating.specs.Existing.{ComesOver}
use Rattle.bx_creating.specs.Lacking.{ClearsGiven, PreparesCreate, PreparesFromDirectory, ReadyByEntry, ReadyFromDirectory, ReadyToCreate, ReadyToResize}
use Rattle.bx_creating.specs.Searching.{FoundIn, IsSearched}
use Rattle.bx_entries.specs.Finding.{DirectoryFor, MayUse, usable}
use Rattle.bx_entries.proofs.Found.{is_a_directory, is_good, uses}
use Rattle.bx_creating.proofs.First.{first_if, first_so}

abbrev Made : Type 0
Made = Result (List Changed × Reply × ℕ) ChangeError

one_file : (a b : File) → Some a ≡ Some b → a ≡ b
one_file a b e = cc

-- ---- from the directory on

module _ (volume areas : ℕ) (held : Held) (hints : Hints) (truth : Truth) (tree : Tree) (handle : ℕ) (inode : Inode) (name : List ℕ) (s : IsSearched volume areas held hints truth tree handle inode name) (call : Call) (sattr : Sattr) (now : Time) where
  abbrev file : File
  file = s.directory.at.file

  pub list : IsListed areas held hints truth inode s.directory.at.file
  list = listed of.Plain volume areas held hints truth tree handle inode name now s.directory

  same_names : entry_named (names_of s.directory.at.file.body) name ≡ entry_named list.names name
  same_names = ap (λ (b : Body). entry_named (names_of b) name) list.body_is

  abbrev by_entry : Option Name → ℕ → Making
  by_entry found spare = create_at tree call s.directory.at.file name sattr now spare found

  pub not_searched : (stop : Stop) → FoundIn list.names name (Err stop) → IsMaking volume areas truth tree (λ spare. create_at tree call s.directory.at.file name sattr now spare (entry_named (names_of s.directory.at.file.body) name)) (Err (Stopped stop))
  not_searched (Status status) never = absurd never
  not_searched (Need at mode) f = tt
  not_searched (Inner blocks) never = absurd never
  not_searched OutOfMemory f = tt

  module _ (absent : FoundIn list.names name (Ok None)) where
    pub without : IsWithout volume areas held hints truth tree handle inode name
    without = record { directory = s.directory; good = s.good; absent = same_names ∙ absent }

    pub made_new : (result : Result (List Changed × Reply × ℕ) ChangeError) → ((w : IsWithout volume areas held hints truth tree handle inode name) → IsMaking volume areas truth tree (create_new tree call w.directory.at.file name sattr now) result)
        → IsMaking volume areas truth tree (λ spare. create_at tree call s.directory.at.file name sattr now spare (entry_named (names_of s.directory.at.file.body) name)) result
    unfolding without
    made_new result step = subst (λ (o : Option Name). IsMaking volume areas truth tree (by_entry o) result) (sym (same_names ∙ absent)) (step without)

    -- room is made first where there is no error
    pub new_first : (result : Result (List Changed × Reply × ℕ) ChangeError)
        → ((w : IsWithout volume areas held hints truth tree handle inode name)
        → IfErr result (ComesFirst (λ status. create_new tree call w.directory.at.file name sattr now 8 ≡ Err status) (MakesEither areas held hints truth inode.tree name inode.next)))
        → IfErr result (ComesFirst (λ status. create_at tree call s.directory.at.file name sattr now 8 (entry_named (names_of s.directory.at.file.body) name) ≡ Err status)
        (PreparesFromDirectory areas held hints truth inode.tree inode.next (names_of s.directory.at.file.body) name sattr.size))
    unfolding without
    new_first result first =
        first_if (λ (status : ℕ). create_new tree call s.directory.at.file name sattr now 8 ≡ Err status) (λ (status : ℕ). by_entry (entry_named (names_of s.directory.at.file.body) name) 8 ≡ Err status)
        (MakesEither areas held hints truth inode.tree name inode.next) (PreparesFromDirectory areas held hints truth inode.tree inode.next (names_of s.directory.at.file.body) name sattr.size)
        (λ status e. sym (ap (λ (o : Option Name). by_entry o 8) (same_names ∙ absent)) ∙ e) (λ blocks makes. inl (same_names ∙ absent, makes)) result (first without)

    -- and found where it goes on
    pub new_ready : (result : Result (List Changed × Reply × ℕ) ChangeError) → ((w : IsWithout volume areas held hints truth tree handle inode name) → IfOk result (λ made. FindsBoth areas truth inode.tree name inode.next))
        → IfOk result (λ made. ReadyFromDirectory areas truth inode.tree inode.next name sattr.size (entry_named (names_of s.directory.at.file.body) name))
    new_ready result finds =
        subst (λ (o : Option Name). IfOk result (λ made. ReadyFromDirectory areas truth inode.tree inode.next name sattr.size o)) (sym (same_names ∙ absent)) (finds without)

  module _ (found : ℕ) (there : FoundIn list.names name (Ok (Some found))) where
    found_is : entry_named (names_of s.directory.at.file.body) name ≡ Some (record { number = there.number; name = name; handle = found })
    found_is = same_names ∙ there.is

    pub not_over : (stop : Stop) → ComesOver volume areas truth tree (create_over tree call found sattr now) (Err stop)
        → IsMaking volume areas truth tree (λ spare. create_at tree call s.directory.at.file name sattr now spare (entry_named (names_of s.directory.at.file.body) name)) (Err (Stopped stop))
    not_over (Status status) e = ap (λ (o : Option Name). by_entry o 8) found_is ∙ e
    not_over (Need at mode) e = tt
    not_over (Inner blocks) leaves = leaves
    not_over OutOfMemory e = tt

    -- bytes are cleared first where there is no error
    pub over_first : (stop : Stop) → StopsFirst (λ status. create_over tree call found sattr now ≡ Err status) (ClearsGiven areas truth found sattr.size) stop
        → ComesFirst (λ status. create_at tree call s.directory.at.file name sattr now 8 (entry_named (names_of s.directory.at.file.body) name) ≡ Err status)
        (PreparesFromDirectory areas held hints truth inode.tree inode.next (names_of s.directory.at.file.body) name sattr.size) (Stopped stop)
    over_first stop first =
        first_so (λ (status : ℕ). create_over tree call found sattr now ≡ Err status) (λ (status : ℕ). by_entry (entry_named (names_of s.directory.at.file.body) name) 8 ≡ Err status) (ClearsGiven areas truth found sattr.size)
        (PreparesFromDirectory areas held hints truth inode.tree inode.next (names_of s.directory.at.file.body) name sattr.size) (λ status e. sym (ap (λ (o : Option Name). by_entry o 8) found_is) ∙ e)
        (λ blocks clears. inr (record { handle = found; found = record { number = there.number; is = found_is }; clears = clears })) (Stopped stop) first

    -- and none are where it goes on
    pub over_ready : ReadyToResize areas truth found sattr.size → ReadyFromDirectory areas truth inode.tree inode.next name sattr.size (entry_named (names_of s.directory.at.file.body) name)
    over_ready ready = subst (λ (o : Option Name). ReadyFromDirectory areas truth inode.tree inode.next name sattr.size o) (sym found_is) ready

    pub over : (draft : List Changed) (reply : Reply) → Makes volume areas truth tree (create_over tree call found sattr now) draft reply 0
        → Makes volume areas truth tree (create_at tree call s.directory.at.file name sattr now 8 (entry_named (names_of s.directory.at.file.body) name)) draft reply 0
    over draft reply m = record { next = m.next; comes_to = ap (taken tree 0) (ap (λ (o : Option Name). by_entry o 8) found_is) ∙ m.comes_to; stands = m.stands }

-- ---- CREATE

module _ (tree : Tree) (call : Call) (bytes name : List ℕ) (sattr : Sattr) (now : Time) (volume : ℕ) (same : tree.volume ≡ volume) where
  abbrev rest : ℕ → Result File ℕ → Making
  rest spare found = found >>= (λ directory. create_at tree call directory name sattr now spare (entry_named (names_of directory.body) name))

  create_is : (spare : ℕ) → create tree call bytes name sattr now spare ≡ rest spare (usable want.Search call name (named_file tree bytes))
  create_is spare = refl

  pub no_name : None ≡ named volume bytes → create tree call bytes name sattr now 8 ≡ Err 70
  no_name is = create_is 8 ∙ ap (λ (o : Option File). rest 8 (usable want.Search call name o)) (named_as tree volume bytes None same is)

  module _ (handle : ℕ) (is : Some handle ≡ named volume bytes) where
    by_handle : (spare : ℕ) → create tree call bytes name sattr now spare ≡ rest spare (usable want.Search call name (file_at tree.files handle))
    by_handle spare = create_is spare ∙ ap (λ (o : Option File). rest spare (usable want.Search call name o)) (named_as tree volume bytes (Some handle) same is)

    pub no_directory : (areas : ℕ) (truth : Truth) (stop : Stop) → DirectoryFor want.Search areas truth tree call name handle (Err stop) → IsMaking volume areas truth tree (create tree call bytes name sattr now) (Err (Stopped stop))
    no_directory areas truth (Status status) e = by_handle 8 ∙ ap (rest 8) e
    no_directory areas truth (Need at mode) e = tt
    no_directory areas truth (Inner blocks) never = absurd never
    no_directory areas truth OutOfMemory e = tt

    module _ (areas : ℕ) (held : Held) (hints : Hints) (truth : Truth) (inode : Inode) (m : MayUse want.Search areas truth tree call name handle inode) (few : areas ≤ 64) (agrees : IsTruth held truth) (stands : Stands volume areas truth tree) (fit : HintsFitAll areas hints truth) where
      pub searched : IsSearched volume areas held hints truth tree handle inode name
      searched = record {
        directory = record {
          few = few;
          same = agrees;
          stands = stands;
          fit = fit;
          at = m.at;
          kind = m.at.fields.kind ∙ eqb-true m.at.file.kind 2 (is_a_directory want.Search call name m.at.file m.may);
        };
        good = is_good want.Search call name m.at.file m.may;
      }

      at_file : (spare : ℕ) → create tree call bytes name sattr now spare ≡ create_at tree call m.at.file name sattr now spare (entry_named (names_of m.at.file.body) name)
      at_file spare = by_handle spare ∙ ap (λ (o : Option File). rest spare (usable want.Search call name o)) m.at.there ∙ ap (rest spare) (uses want.Search call name m.at.file m.may)

      pub comes : (result : Result (List Changed × Reply × ℕ) ChangeError)
          → ((s : IsSearched volume areas held hints truth tree handle inode name)
          → IsMaking volume areas truth tree (λ spare. create_at tree call s.directory.at.file name sattr now spare (entry_named (names_of s.directory.at.file.body) name)) result)
          → IsMaking volume areas truth tree (create tree call bytes name sattr now) result
      unfolding searched
      comes result step = subst (λ (f : ℕ → Making). IsMaking volume areas truth tree f result) (λ i spare. sym (at_file spare) i) (step searched)

      -- what prepares it comes first where there is no error
      pub comes_first : (result : Result (List Changed × Reply × ℕ) ChangeError)
          → ((s : IsSearched volume areas held hints truth tree handle inode name)
          → IfErr result (ComesFirst (λ status. create_at tree call s.directory.at.file name sattr now 8 (entry_named (names_of s.directory.at.file.body) name) ≡ Err status)
          (PreparesFromDirectory areas held hints truth inode.tree inode.next (names_of s.directory.at.file.body) name sattr.size)))
          → IfErr result (ComesFirst (λ status. create tree call bytes name sattr now 8 ≡ Err status) (PreparesCreate volume areas held hints truth tree bytes name sattr.size))
      unfolding searched
      comes_first result first =
          first_if (λ (status : ℕ). create_at tree call m.at.file name sattr now 8 (entry_named (names_of m.at.file.body) name) ≡ Err status) (λ (status : ℕ). create tree call bytes name sattr now 8 ≡ Err status)
          (PreparesFromDirectory areas held hints truth inode.tree inode.next (names_of m.at.file.body) name sattr.size) (PreparesCreate volume areas held hints truth tree bytes name sattr.size)
          (λ status e. sym (at_file 8) ∙ e) prepares result (first searched)
        where
          named_so : named_file tree bytes ≡ Some m.at.file
          named_so = named_as tree volume bytes (Some handle) same is ∙ m.at.there

          prepares : (blocks : List Changed) → PreparesFromDirectory areas held hints truth inode.tree inode.next (names_of m.at.file.body) name sattr.size blocks → PreparesCreate volume areas held hints truth tree bytes name sattr.size blocks
          prepares blocks (inl new) = inl (record { directory = m.at.file; is_named = named_so; absent = new.0; place = record { handle = handle; inode = inode; is_named = sym is; holds = m.at.holds; makes = new.1 } })
          prepares blocks (inr clears) = inr (record { directory = m.at.file; is_named = named_so; clears = clears })

      -- nothing is wanted where it goes on
      pub comes_ready : (result : Result (List Changed × Reply × ℕ) ChangeError)
          → ((s : IsSearched volume areas held hints truth tree handle inode name) → IfOk result (λ made. ReadyFromDirectory areas truth inode.tree inode.next name sattr.size (entry_named (names_of s.directory.at.file.body) name)))
          → IfOk result (λ made. ReadyToCreate volume areas truth tree bytes name sattr.size)
      unfolding searched
      comes_ready result ready = IfOk-weaker result _ _ (λ made in_it other other_is. by other other_is (entry_named (names_of m.at.file.body) name) refl in_it) (ready searched)
        where
          by : (other : File) → named_file tree bytes ≡ Some other → (found : Option Name) → entry_named (names_of m.at.file.body) name ≡ found → ReadyFromDirectory areas truth inode.tree inode.next name sattr.size found
              → ReadyByEntry volume areas truth bytes name sattr.size (entry_named (names_of other.body) name)
          by other other_is found found_is in_it =
              let same_file : m.at.file ≡ other = one_file m.at.file other (sym (named_as tree volume bytes (Some handle) same is ∙ m.at.there) ∙ other_is) in
              subst (λ (o : Option Name). ReadyByEntry volume areas truth bytes name sattr.size o) (sym found_is ∙ ap (λ (f : File). entry_named (names_of f.body) name) same_file) (of_entry found in_it)
            where
              of_entry : (found : Option Name) → ReadyFromDirectory areas truth inode.tree inode.next name sattr.size found → ReadyByEntry volume areas truth bytes name sattr.size found
              of_entry None finds = enters volume areas truth bytes name handle inode is m.at.holds finds
              of_entry (Some entry) resizes = resizes
