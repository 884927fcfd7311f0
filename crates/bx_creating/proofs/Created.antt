-- What a call comes to that makes a file with a new entry.
use Rattle.std.proofs.Common.{◌≡◌, ℕ, ◌<◌, ◌^◌, Bool, List, [], Some, None, refl, sym, ap, ◌∙◌, subst, inl, inr, arith}
use Rattle.std.specs.Prelude.{if◌then◌else◌, Result, Ok, Err}
use Rattle.bx_changes.specs.Growing.{IsMaking, Makes}
use Rattle.bx_changes.specs.declared.error.ChangeError.{ChangeError}
use Rattle.bx_changes.specs.declared.error.ChangeError.TheVariants.{Stopped, Full}
use Rattle.bx_entries.specs.declared.taking.Known.{Known}
use Rattle.bx_inodes.specs.Inodes.{shown_size}
use Rattle.bx_inodes.specs.Stands.{Stands}
use Rattle.bx_inodes.specs.declared.stop.Stop.{Stop}
use Rattle.bx_inodes.specs.declared.stop.Stop.TheVariants.{Need, Inner, Status, OutOfMemory}
use Rattle.bx_layout.specs.declared.inode.Inode.{Inode}
use Rattle.bx_entries.specs.bx_making.specs.Made.{file_of}
use Rattle.bx_model.specs.declared.call.Call.{Call}
use Rattle.bx_model.specs.declared.reply.Reply.{Reply}
use Rattle.bx_model.specs.declared.reply.Reply.TheVariants as reply_of
use Rattle.bx_model.specs.declared.tree.Tree.{Tree}
use Rattle.bx_model.specs.FileTrees.{IsFileTree}
use Rattle.bx_model.specs.Making.{mkdir, new_file, new_place, symlink, with_made}
use Rattle.bx_model.specs.Reading.{handle_reply}
use Rattle.bx_model.specs.Steps.{Making, Step, ◌>>=◌, taken}
use Rattle.bx_model.specs.Steps.Step.{Makes as MakesBy}
use Rattle.bx_records.specs.Drafts.{Changed}
use Rattle.bx_tree_files.specs.declared.file.Body.{Body}
use Rattle.bx_tree_files.specs.declared.file.Body.TheVariants.{Names, Path}
use Rattle.bx_tree_files.specs.declared.file.File.{File}
use Rattle.bx_tree_files.specs.declared.sattr.Sattr.{Sattr}
use Rattle.bx_tree_files.specs.Files.{size_of}
use Rattle.bx_tree_files.specs.Times.{Time}
use Rattle.bx_tree_laws.proofs.Makings.{StepKeeps}
use Rattle.bx_views.specs.Truths.{Held, Hints, Truth}
use Rattle.bx_creating.specs.Finding.{FindsPlace, PlaceIn}
use Rattle.bx_creating.specs.Inodes.{IsNewBody, directory_inode, link_inode}
use Rattle.bx_creating.specs.Placing.{Places, PlacesIn}

module _ (volume areas : ℕ) (held : Held) (hints : Hints) (truth : Truth) (tree : Tree) (call : Call) (bytes name : List ℕ) (stands : Stands volume areas truth tree)
    (making : ℕ → Making) (last : File → ℕ → Reply × Tree) (is : (spare : ℕ) → making spare ≡ (new_place tree call bytes name spare >>= (λ directory. Ok (MakesBy (last directory))))) where
  abbrev steps : Result File ℕ → Making
  steps found = found >>= (λ directory. Ok (MakesBy (last directory)))

  pub not_found : (stop : Stop) → PlaceIn volume areas held hints truth tree call bytes name (Err stop) → IsMaking volume areas truth tree making (Err (Stopped stop))
  not_found (Status status) e = is 8 ∙ ap steps e
  not_found (Need at mode) e = tt
  not_found (Inner blocks) never = absurd never
  not_found OutOfMemory e = tt

  pub comes_so : (known : Known) (f : FindsPlace volume areas held hints truth tree call bytes name known) → making 8 ≡ Ok (MakesBy (last f.place.directory.at.file))
  comes_so known f = is 8 ∙ ap steps f.enough

  module _ (known : Known) (f : FindsPlace volume areas held hints truth tree call bytes name known) (now : Time) (inode : Inode) (body : Body) where
    abbrev file : File
    file = f.place.directory.at.file

    pub not_placed : (stop : ChangeError) → PlacesIn areas truth tree known.handle name now inode body (Err stop) → IsMaking volume areas truth tree making (Err stop)
    not_placed (Stopped (Need at mode)) p = tt
    not_placed (Stopped (Inner blocks)) p = p
    not_placed (Stopped (Status status)) p = absurd p
    not_placed (Stopped OutOfMemory) p = tt
    not_placed (Full spare) p = (p, is spare ∙ ap steps (f.full spare p.few))

    pub makes : (draft : List Changed) (reply : Reply) (made : ℕ) → Places areas truth tree known.handle name now inode body draft made
        → last f.place.directory.at.file made ≡ (reply, with_made tree known.handle name now (file_of inode made body)) → ((step : Step) → making 8 ≡ Ok step → StepKeeps tree step)
        → Makes volume areas truth tree (making 8) draft reply made
    makes draft reply made p same keeps =
        let kept = keeps (MakesBy (last file)) (comes_so known f) made p.unused in
        record {
          next = with_made tree known.handle name now (file_of inode made body);
          comes_to = ap (taken tree made) (comes_so known f) ∙ ap (λ (t : Bool). if t then Some (last file made) else None) p.unused ∙ ap Some same;
          stands = record {
            is = p.stands;
            volume_is = stands.volume_is;
            file_tree = subst (λ (both : Reply × Tree). IsFileTree both.1) same kept.is;
          };
        }

-- ---- MKDIR

module _ (tree : Tree) (call : Call) (bytes name : List ℕ) (sattr : Sattr) (now : Time) where
  pub last_mkdir : File → ℕ → Reply × Tree
  last_mkdir directory made = let file = new_file call sattr now 0o755 made (Names directory.handle 3 []) in (handle_reply tree file, with_made tree directory.handle name now file)

  pub mkdir_is : (spare : ℕ) → mkdir tree call bytes name sattr now spare ≡ (new_place tree call bytes name spare >>= (λ directory. Ok (MakesBy (last_mkdir directory))))
  unfolding last_mkdir
  mkdir_is spare = refl

  pub last_is : (directory : File) (parent made : ℕ) (reply : Reply) → directory.handle ≡ parent → reply ≡ handle_reply tree (file_of (directory_inode call sattr now parent) made (Names parent 3 []))
      → last_mkdir directory made ≡ (reply, with_made tree parent name now (file_of (directory_inode call sattr now parent) made (Names parent 3 [])))
  unfolding last_mkdir
  last_is directory parent made reply handle_is reply_is =
      (λ i. (handle_reply tree (new_file call sattr now 0o755 made (Names (handle_is i) 3 [])), with_made tree (handle_is i) name now (new_file call sattr now 0o755 made (Names (handle_is i) 3 []))))
      ∙ (λ i. (sym reply_is i, with_made tree parent name now (file_of (directory_inode call sattr now parent) made (Names parent 3 []))))

  -- the directory that is placed, by the inode that it is made with
  pub placed : (areas : ℕ) (truth : Truth) (handle : ℕ) (inode : Inode) (result : Result (List Changed × ℕ) ChangeError) → inode ≡ directory_inode call sattr now handle
      → ((body : Body) → IsNewBody inode body → PlacesIn areas truth tree handle name now inode body result) → PlacesIn areas truth tree handle name now (directory_inode call sattr now handle) (Names handle 3 []) result
  placed areas truth handle inode result is step =
      let two : IsNewBody (directory_inode call sattr now handle) (Names handle 3 []) = inr ((λ five. absurd (omega (arith, five))), (refl, refl, refl, refl)) in
      (rw is at step) (Names handle 3 []) two

  -- what is told of it
  pub told : (volume handle made : ℕ) (inode : Inode) (reply : Reply) → inode ≡ directory_inode call sattr now handle → tree.volume ≡ volume
      → ((tree : Tree) (body : Body) → tree.volume ≡ volume → size_of body ≡ shown_size inode → size_of body < 2 ^ 31 → reply ≡ handle_reply tree (file_of inode made body))
      → reply ≡ handle_reply tree (file_of (directory_inode call sattr now handle) made (Names handle 3 []))
  told volume handle made inode reply is same tells = (rw is at tells) tree (Names handle 3 []) same refl (omega arith)

-- ---- SYMLINK

module _ (tree : Tree) (call : Call) (bytes name path : List ℕ) (sattr : Sattr) (now : Time) where
  pub last_symlink : File → ℕ → Reply × Tree
  last_symlink directory made = (reply_of.Status 0, with_made tree directory.handle name now (new_file call sattr now 0o777 made (Path path)))

  pub symlink_is : (spare : ℕ) → symlink tree call bytes name path sattr now spare ≡ (new_place tree call bytes name spare >>= (λ directory. Ok (MakesBy (last_symlink directory))))
  unfolding last_symlink
  symlink_is spare = refl

  pub last_link_is : (directory : File) (parent made : ℕ) → directory.handle ≡ parent → last_symlink directory made ≡ (reply_of.Status 0, with_made tree parent name now (file_of (link_inode call sattr now path) made (Path path)))
  unfolding last_symlink
  last_link_is directory parent made handle_is = λ i. (reply_of.Status 0, with_made tree (handle_is i) name now (new_file call sattr now 0o777 made (Path path)))

  -- the link that is placed, by the inode that it is made with
  pub placed_link : (areas : ℕ) (truth : Truth) (handle : ℕ) (inode : Inode) (result : Result (List Changed × ℕ) ChangeError) → inode ≡ link_inode call sattr now path
      → ((body : Body) → IsNewBody inode body → PlacesIn areas truth tree handle name now inode body result) → PlacesIn areas truth tree handle name now (link_inode call sattr now path) (Path path) result
  placed_link areas truth handle inode result is step =
      let five : IsNewBody (link_inode call sattr now path) (Path path) = inl (refl, refl, refl) in
      (rw is at step) (Path path) five
