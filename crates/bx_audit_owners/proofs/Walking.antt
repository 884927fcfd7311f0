-- The walk from the root, step by step.
use Rattle.std.proofs.Common.{◌≡◌, ◌⊎◌, ⊎_elim, inl, inr, ℕ, zero, suc, ◌+◌, ◌<◌, ◌≤◌, arith, List, [], ◌∷◌, ◌++◌, length, get_or, refl, sym, ap, ◌∙◌, subst, Option, Some, None, is_some, true}
use Rattle.std.specs.Prelude.{◌≢◌, Contains, map}
use Rattle.std.proofs.lemmas.List.Elements.{Contains-append_left, Contains-append_right, Contains-append_cases}
use Rattle.bx_audit_bodies.specs.declared.claims.Claim.{Claim}
use Rattle.bx_audit_bodies.specs.Claims.{IsClaim}
use Rattle.bx_audit_bodies.specs.Faults.{HasFault, Missing}
use Rattle.bx_audit_bodies.specs.Outlines.{IsUnreadFile}
use Rattle.bx_audit_bodies.specs.Reading.{IsReadAs, IsStored}
use Rattle.bx_audit_bodies.proofs.Members.{contains_map, from_map}
use Rattle.bx_audit_owners.specs.declared.holders.Holder.{Holder}
use Rattle.bx_audit_owners.specs.declared.holders.Holder.TheVariants.{File as OfFile, Dead as OfDead, Page as OfPage, Piece as OfPiece}
use Rattle.bx_audit_owners.specs.Found.{IsFound, IsInode}
use Rattle.bx_audit_owners.specs.Holding.{AddsHolder, Holdings, IsHeldAfter, holder_by}
use Rattle.bx_audit_owners.specs.Walks.{HaveNoTree, HaveTree, IsDeadMet, IsFileAt, IsMet, IsTaken, IsTakenFile, IsUnread, IsWalked, IsWrongMet, Meets, Again, New, Root, Named}
use Rattle.bx_audit_owners.proofs.Founds.{none_found}
use Rattle.bx_audit_owners.proofs.Holding.{one_there}
use Rattle.bx_audit_owners.proofs.InOrder.{with_here, with_other}
use Rattle.bx_audit_owners.proofs.Owners.{found_owner, no_file, owner_in, owner_same, stored_here}
use Rattle.bx_audit_owners.proofs.Steps.{clash_has_none}
use Rattle.bx_layout.specs.declared.block.Block.{Block}
use Rattle.bx_model.specs.declared.tree.Tree.{Tree}
use Rattle.bx_model.specs.Opening.{root_handle}
use Rattle.bx_model.specs.FileTrees.{HasEntries}
use Rattle.bx_tree_files.specs.declared.file.Body.{Body}
use Rattle.bx_tree_files.specs.declared.file.Body.TheVariants.{Bytes, Path, Names}
use Rattle.bx_tree_files.specs.declared.file.File.{File}
use Rattle.bx_tree_files.specs.declared.file.Name.{Name}
use Rattle.bx_tree_files.specs.Files.{file_at, with_file}
use Rattle.bx_tree_files.specs.Names.{names_of}
use Rattle.bx_truth.specs.PageTrees.{Chunks}
use Rattle.bx_truth.specs.Stored.{Owner, Stored}
use Rattle.bx_truth.proofs.Cases.{same_or}

none_some : {X : Type 0} (o : Option X) (x : X) → o ≡ None → o ≡ Some x → ⊥
none_some o x none some = absurd cc

some_same : {X : Type 0} (x y : X) → Some x ≡ Some y → x ≡ y
some_same x y e = cc

-- ---- what is held by another owner is no file

module _ (chunks : Chunks) (holdings : Holdings) (files : List File) (found : IsFound chunks holdings files) (handle : ℕ) where
  of_claim : (inode : ℕ) (piece : Option ℕ) (kind : ℕ) → kind ≢ 1 → ((block : Block) → IsClaim chunks (found.readings inode).stored (record { handle = handle; piece = piece }) → chunks handle ≡ Some block → block.kind ≡ kind)
      → holdings handle ≡ Some (holder_by inode piece) → (block : Block) → chunks handle ≡ Some block → block.kind ≡ 1 → ⊥
  of_claim inode piece kind other tells held block there is =
      let c = found.claimed handle inode piece held in
      let claim = (found.inodes inode c.0).are_claims.each (record { handle = handle; piece = piece }) c.1 in
      other (sym (tells block claim there) ∙ is)

  same_kind : (a b : Block) (kind : ℕ) → chunks handle ≡ Some a → a.kind ≡ kind → chunks handle ≡ Some b → b.kind ≡ kind
  same_kind a b kind is_a kind_a is_b = ap (λ (x : Block). x.kind) (some_same b a (sym is_b ∙ is_a)) ∙ kind_a

  no_inode : (held : Holder) → holdings handle ≡ Some held → (IsInode (Some held) → ⊥) → (block : Block) → chunks handle ≡ Some block → block.kind ≡ 1 → ⊥
  no_inode OfFile there apart block chunk is = absurd (apart tt)
  no_inode OfDead there apart block chunk is = absurd (apart tt)
  no_inode (OfPage inode) there apart block chunk is =
      of_claim inode None 2 (λ e. omega (arith, e)) (λ block claim chunk. same_kind claim.block block 2 claim.chunk claim.kind chunk) there block chunk is
  no_inode (OfPiece inode index) there apart block chunk is =
      of_claim inode (Some index) 3 (λ e. omega (arith, e)) (λ block claim chunk. same_kind claim.block block 3 claim.chunk claim.kind chunk) there block chunk is

  pub other_has_none : (held : Holder) → holdings handle ≡ Some held → (held ≡ OfFile → ⊥) → (owner : ℕ → Owner) (stored : Stored) (file : File) → IsStored chunks owner handle stored (Some file) → ⊥
  other_has_none OfFile there apart owner stored file is = apart refl
  other_has_none OfDead there apart owner stored file is =
      let only = (found.inodes handle (subst IsInode (sym there) tt)).only owner stored (Some file) is in
      none_some (file_at files handle) file (no_file chunks holdings files found handle there) (sym only.same_file)
  other_has_none (OfPage inode) there apart owner stored file is = no_inode (OfPage inode) there (λ is. is) is.block is.chunk is.inode.kind
  other_has_none (OfPiece inode index) there apart owner stored file is = no_inode (OfPiece inode index) there (λ is. is) is.block is.chunk is.inode.kind

  -- it is no inode, or a dead one
  pub other_is_wrong : (held : Holder) (wanted : ℕ) → holdings handle ≡ Some held → (held ≡ OfFile → ⊥) → wanted ≡ handle → HasFault chunks handle wanted ⊎ IsDeadMet chunks handle wanted
  other_is_wrong OfFile wanted there apart named = absurd (apart refl)
  other_is_wrong OfDead wanted there apart named =
      let r = found.inodes handle (subst IsInode (sym there) tt) in
      inr record {
        claims = (found.readings handle).claims;
        read = subst (λ (o : Option File). IsReadAs chunks handle o (found.readings handle).claims) (no_file chunks holdings files found handle there)
            record { stored = (found.readings handle).stored; at = r.at; dead = r.dead; is = r.is; are_claims = r.are_claims; only = r.only };
        wanted_is = named;
      }
  other_is_wrong (OfPage inode) wanted there apart named = inl (Missing (λ other at. no_inode (OfPage inode) there (λ is. is) at.block at.chunk at.has.kind) named)
  other_is_wrong (OfPiece inode index) wanted there apart named = inl (Missing (λ other at. no_inode (OfPiece inode index) there (λ is. is) at.block at.chunk at.has.kind) named)

  -- nor is what is held by another one a dead inode
  pub other_has_no_dead : (held : Holder) → holdings handle ≡ Some held → (held ≡ OfDead → ⊥) → (owner : ℕ → Owner) (stored : Stored) → IsStored chunks owner handle stored None → ⊥
  other_has_no_dead OfDead there apart owner stored is = apart refl
  other_has_no_dead OfFile there apart owner stored is =
      let only = (found.inodes handle (subst IsInode (sym there) tt)).only owner stored None is in
      found.has_file handle there (sym only.same_file)
  other_has_no_dead (OfPage inode) there apart owner stored is = no_inode (OfPage inode) there (λ is. is) is.block is.chunk is.inode.kind
  other_has_no_dead (OfPiece inode index) there apart owner stored is = no_inode (OfPiece inode index) there (λ is. is) is.block is.chunk is.inode.kind

-- nor is a dead inode a file
pub dead_has_none : (chunks : Chunks) (handle : ℕ) (claims : List Claim) → IsReadAs chunks handle None claims → (owner : ℕ → Owner) (stored : Stored) (file : File) → IsStored chunks owner handle stored (Some file) → ⊥
dead_has_none chunks handle claims read owner stored file is =
    let only = read.only owner stored (Some file) is in
    none_some (Some file) file only.same_file refl

-- nor a file a dead inode
pub live_has_no_dead : (chunks : Chunks) (handle : ℕ) (file : Option File) (claims : List Claim) → is_some file ≡ true → IsReadAs chunks handle file claims → (owner : ℕ → Owner) (stored : Stored) → IsStored chunks owner handle stored None → ⊥
live_has_no_dead chunks handle None claims some read owner stored is = absurd cc
live_has_no_dead chunks handle (Some file) claims some read owner stored is =
    let only = read.only owner stored None is in
    none_some None file refl only.same_file

-- a file that was read has its handle
pub file_named : (chunks : Chunks) (before now : Holdings) (handle : ℕ) (file : File) (claims : List Claim) → IsReadAs chunks handle (Some file) claims → AddsHolder before handle OfFile claims (length claims) now → file.handle ≡ handle
file_named chunks before now handle file claims read adds =
    (read.is (found_owner now) (λ claim there. ap owner_in (adds.each claim there) ∙ owner_same handle claim.piece)).file.0

-- the inode of a file and its claims bring no dead one
pub none_dead : (before now : Holdings) (handle : ℕ) (claims : List Claim) (count : ℕ) → AddsHolder before handle OfFile claims count now → (at : ℕ) → now at ≡ Some OfDead → before at ≡ Some OfDead
none_dead before now handle claims count adds at dead = by (adds.only at OfDead dead)
  where
    no_claim : (piece : Option ℕ) → OfDead ≡ holder_by handle piece → ⊥
    no_claim None e = absurd cc
    no_claim (Some index) e = absurd cc

    by : IsHeldAfter before handle OfFile claims count at OfDead → before at ≡ Some OfDead
    by (inl was) = was
    by (inr (inl itself)) = let e : OfDead ≡ OfFile = itself.1 in absurd cc
    by (inr (inr claim)) = absurd (no_claim claim.0.piece claim.3)

-- a file that is met can't be read, or has a chunk of another owner
pub wrong_file : (chunks : Chunks) (before : Holdings) (files : List File) (handle wanted : ℕ) → IsFound chunks before files → IsMet chunks handle
    → IsUnreadFile chunks handle wanted ⊎ IsTakenFile chunks before handle wanted → IsWrongMet chunks wanted
wrong_file chunks before files handle wanted found met (inl unread) = inl record {
  handle = handle;
  met = met;
  none = λ owner stored file. unread.none owner stored (Some file);
  part = unread.part;
  fault = inl unread.fault;
}
wrong_file chunks before files handle wanted found met (inr taken) = inr record {
  handle = handle;
  met = met;
  file = taken.file;
  claims = taken.claims;
  read = taken.read;
  holdings = before;
  files = files;
  found = found;
  clash = taken.clash;
  wanted_is = taken.wanted_is;
}

-- ---- what is met, in a file tree

module _ (chunks : Chunks) (tree : Tree) (have : HaveTree chunks tree) where
  file_or : (o : Option File) → o ≢ None → (f : File) × (o ≡ Some f)
  file_or None is = absurd (is refl)
  file_or (Some f) is = (f, refl)

  block_or : (o : Option Block) → o ≢ None → (b : Block) × (o ≡ Some b)
  block_or None is = absurd (is refl)
  block_or (Some b) is = (b, refl)

  -- a file of the tree is stored
  pub stored_of : (handle : ℕ) → file_at tree.files handle ≢ None → IsStored chunks have.owner handle (have.stored handle) (file_at tree.files handle)
  stored_of handle some =
      let f = file_or (file_at tree.files handle) some in
      let own = have.have.are.all handle f.0 f.1 in
      let b = block_or (chunks handle) own.1 in
      stored_here chunks have.owner have.stored tree.files have.have handle b.0 b.1 own.0

  -- and it is the one that was read
  one_file : (handle : ℕ) (file : File) → file_at tree.files handle ≢ None → IsFileAt chunks handle file → file_at tree.files handle ≡ Some file
  one_file handle file some at = (at.is.only have.owner (have.stored handle) (file_at tree.files handle) (stored_of handle some)).same_file

  root_there : file_at tree.files root_handle ≢ None
  root_there none =
      let r = have.is.root in
      none_some (file_at tree.files tree.root) r.0 (ap (file_at tree.files) have.root_is ∙ none) r.3

  entry_there : (directory : ℕ) (file : File) (entry : Name) → file_at tree.files directory ≡ Some file → Contains (names_of file.body) entry → file_at tree.files entry.handle ≢ None
  entry_there directory file entry is there = by file.body (have.is.entries directory file is) there
    where
      by : (body : Body) → HasEntries tree.files directory body → Contains (names_of body) entry → file_at tree.files entry.handle ≢ None
      by (Bytes bytes) has within = absurd (omega (arith, within.1))
      by (Path path) has within = absurd (omega (arith, within.1))
      by (Names parent next names) has within = λ none. let e = has.each entry within in none_some (file_at tree.files entry.handle) e.file none e.there

  -- what is met is a file of the tree
  pub met_there : (handle : ℕ) → IsMet chunks handle → file_at tree.files handle ≢ None
  met_there _ Root = root_there
  met_there _ (Named directory file entry met is there) = entry_there directory file entry (one_file directory file (met_there directory met) is) there

  unread_not : (wanted : ℕ) → IsUnread chunks wanted → ⊥
  unread_not wanted is =
      let some = met_there is.handle is.met in
      let f = file_or (file_at tree.files is.handle) some in
      is.none have.owner (have.stored is.handle) f.0 (subst (IsStored chunks have.owner is.handle (have.stored is.handle)) f.1 (stored_of is.handle some))

  taken_not : (wanted : ℕ) → IsTaken chunks wanted → ⊥
  taken_not wanted is =
      let s = stored_of is.handle (met_there is.handle is.met) in
      clash_has_none chunks is.holdings is.files is.handle is.claims is.found (Some is.file) s.block is.read s.chunk s.inode.kind is.clash have.owner have.stored tree.files have.have

-- where something that the walk meets is wrong, there is no file tree
pub wrong_met : (chunks : Chunks) (wanted : ℕ) → IsWrongMet chunks wanted → HaveNoTree chunks
wrong_met chunks wanted (inl is) = λ tree have. unread_not chunks tree have wanted is
wrong_met chunks wanted (inr is) = λ tree have. taken_not chunks tree have wanted is

get_or_left : (xs ys : List ℕ) (k : ℕ) → k < length xs → get_or (xs ++ ys) k 0 ≡ get_or xs k 0
get_or_left [] ys k less = absurd (omega (arith, less))
get_or_left (x ∷ xs) ys zero less = refl
get_or_left (x ∷ xs) ys (suc k) less = get_or_left xs ys k (omega (arith, less))

append_nil : (xs : List ℕ) → xs ++ [] ≡ xs
append_nil [] = refl
append_nil (x ∷ xs) = ap (λ (l : List ℕ). x ∷ l) (append_nil xs)

length-append : (xs ys : List ℕ) → length (xs ++ ys) ≡ length xs + length ys
length-append [] ys = omega arith
length-append (x ∷ xs) ys = let e = length-append xs ys in omega (arith, e)

below_or : (n m : ℕ) → n < m + 1 → (n < m) ⊎ (n ≡ m)
below_or n m less = grind (arith, less)

-- ---- the walk

-- what was found and what is to be met
pub record IsUnderWay (chunks : Chunks) (holdings : Holdings) (files : List File) (met : List ℕ) : Type 0 where
  pub found : IsFound chunks holdings files
  pub all_met : (handle : ℕ) → Contains met handle → IsMet chunks handle
  pub files_met : (handle : ℕ) (file : File) → file_at files handle ≡ Some file → IsMet chunks handle
  pub entries : (handle : ℕ) (file : File) (entry : Name) → file_at files handle ≡ Some file → Contains (names_of file.body) entry → Contains met entry.handle
  pub live : (handle : ℕ) → holdings handle ≡ Some OfDead → ⊥

module _ (chunks : Chunks) (before : Holdings) (files : List File) (met : List ℕ) (handle : ℕ) (now : Holdings) (files_now : List File) (met_now : List ℕ)
    (under : IsUnderWay chunks before files met) (is_met : IsMet chunks handle) (found : IsFound chunks now files_now) where
  one_more : (file : File) → IsFileAt chunks handle file → files_now ≡ with_file files file → met_now ≡ met ++ map (λ (entry : Name). entry.handle) (names_of file.body)
      → ((at : ℕ) → now at ≡ Some OfDead → before at ≡ Some OfDead) → IsUnderWay chunks now files_now met_now
  one_more file is with more live = record {
    found = found;
    all_met = λ h there. ⊎_elim
        (λ was. under.all_met h was)
        (λ new. let e = from_map (λ (entry : Name). entry.handle) (names_of file.body) h new in subst (IsMet chunks) e.2 (Named handle file e.0 is_met is e.1))
        (Contains-append_cases met (map (λ (entry : Name). entry.handle) (names_of file.body)) h (subst (λ (l : List ℕ). Contains l h) more there));
    files_met = λ h f at. ⊎_elim
        (λ same. subst (IsMet chunks) (sym (same ∙ is.handle_is)) is_met)
        (λ apart. under.files_met h f (sym (other h apart) ∙ at))
        (same_or h file.handle);
    entries = λ h f entry at there. subst (λ (l : List ℕ). Contains l entry.handle) (sym more) (⊎_elim
        (λ same.
        let one : file ≡ f = some_same file f (sym here ∙ ap (file_at files_now) (sym same) ∙ at) in
        Contains-append_right met (map (λ (x : Name). x.handle) (names_of file.body)) entry.handle
        (contains_map (λ (x : Name). x.handle) (names_of file.body) entry (subst (λ (g : File). Contains (names_of g.body) entry) (sym one) there)))
        (λ apart. Contains-append_left met (map (λ (x : Name). x.handle) (names_of file.body)) entry.handle (under.entries h f entry (sym (other h apart) ∙ at) there))
        (same_or h file.handle));
    live = λ at dead. under.live at (live at dead);
  }
    where
      here : file_at files_now file.handle ≡ Some file
      here = ap (λ (l : List File). file_at l file.handle) with ∙ with_here files file

      other : (h : ℕ) → h ≢ file.handle → file_at files_now h ≡ file_at files h
      other h apart = ap (λ (l : List File). file_at l h) with ∙ with_other files file h apart

  -- after one step
  pub goes_on : Meets (IsFileAt chunks handle) before files met handle now files_now met_now → IsUnderWay chunks now files_now met_now
  goes_on (Again held same_now same_files same_met) = record {
    found = found;
    all_met = λ h there. under.all_met h (subst (λ (l : List ℕ). Contains l h) same_met there);
    files_met = λ h f at. under.files_met h f (sym (ap (λ (l : List File). file_at l h) same_files) ∙ at);
    entries = λ h f entry at there. subst (λ (l : List ℕ). Contains l entry.handle) (sym same_met) (under.entries h f entry (sym (ap (λ (l : List File). file_at l h) same_files) ∙ at) there);
    live = λ at dead. under.live at (sym (ap (λ (f : Holdings). f at) same_now) ∙ dead);
  }
  goes_on (New file is with more held still live) = one_more file is with more live

-- once all that was met is done
pub all_walked : (chunks : Chunks) (holdings : Holdings) (files : List File) (met : List ℕ) → IsUnderWay chunks holdings files met → Contains met root_handle
    → ((handle : ℕ) → Contains met handle → holdings handle ≡ Some OfFile) → IsWalked chunks holdings files
all_walked chunks holdings files met under root done = record {
  found = under.found;
  root = under.found.has_file root_handle (done root_handle root);
  closed = λ handle file entry at there. under.found.has_file entry.handle (done entry.handle (under.entries handle file entry at there));
  met = under.files_met;
  live = under.live;
}

-- before the first step
pub nothing_yet : (chunks : Chunks) → IsUnderWay chunks (λ at. None) [] (root_handle ∷ [])
nothing_yet chunks = record {
  found = none_found chunks;
  all_met = λ handle there. subst (IsMet chunks) (only handle there) Root;
  files_met = λ handle file is. absurd (none_some None file refl is);
  entries = λ handle file entry is. absurd (none_some None file refl is);
  live = λ handle is. absurd (none_some None OfDead refl is);
}
  where
    only : (handle : ℕ) → Contains (root_handle ∷ []) handle → root_handle ≡ handle
    only handle (zero, less, is) = is
    only handle (suc k, less, is) = absurd (omega (arith, less))

pub at_place : (met : List ℕ) (k : ℕ) → k < length met → Contains met (get_or met k 0)
at_place met k less = (k, less, one_there met k (get_or met k 0) 0 less)

pub place_done : (holdings : Holdings) (met : List ℕ) → ((k : ℕ) → k < length met → holdings (get_or met k 0) ≡ Some OfFile) → (handle : ℕ) → Contains met handle → holdings handle ≡ Some OfFile
place_done holdings met done handle there = ap holdings (sym there.2 ∙ one_there met there.0 handle 0 there.1) ∙ done there.0 there.1

module _ (Is : File → Type 0) where
  -- what is known of a file, for some chunks
  pub for_one : (P : File → Type 0) (before : Holdings) (files : List File) (met : List ℕ) (handle : ℕ) (now : Holdings) (files_now : List File) (met_now : List ℕ) → ((file : File) → Is file → P file)
      → Meets Is before files met handle now files_now met_now → Meets P before files met handle now files_now met_now
  for_one P before files met handle now files_now met_now implies (Again held same_now same_files same_met) = Again held same_now same_files same_met
  for_one P before files met handle now files_now met_now implies (New file is with more held still live) = New file (implies file is) with more held still live

  module _ (before : Holdings) (files : List File) (met : List ℕ) (handle : ℕ) (now : Holdings) (files_now : List File) (met_now : List ℕ) (step : Meets Is before files met handle now files_now met_now) where
    -- what is to be met is still there
    pub behind : (more : List ℕ) × (met_now ≡ met ++ more)
    behind = by step
      where
        by : Meets Is before files met handle now files_now met_now → (more : List ℕ) × (met_now ≡ met ++ more)
        by (Again held same_now same_files same_met) = ([], same_met ∙ sym (append_nil met))
        by (New file is with more held still live) = (map (λ (entry : Name). entry.handle) (names_of file.body), more)

    pub still_there : (h : ℕ) → Contains met h → Contains met_now h
    still_there h there = subst (λ (l : List ℕ). Contains l h) (sym behind.1) (Contains-append_left met behind.0 h there)

    pub longer : (bound : ℕ) → bound ≤ length met → bound ≤ length met_now
    longer bound le = subst (λ (l : List ℕ). bound ≤ length l) (sym behind.1) (by (length-append met behind.0))
      where
        by : length (met ++ behind.0) ≡ length met + length behind.0 → bound ≤ length (met ++ behind.0)
        by e = omega (arith, e, le)

    held_still : (h : ℕ) → before h ≡ Some OfFile → now h ≡ Some OfFile
    held_still h was = by step
      where
        by : Meets Is before files met handle now files_now met_now → now h ≡ Some OfFile
        by (Again held same_now same_files same_met) = ap (λ (f : Holdings). f h) same_now ∙ was
        by (New file is with more held still live) = still h was

    held_now : now handle ≡ Some OfFile
    held_now = by step
      where
        by : Meets Is before files met handle now files_now met_now → now handle ≡ Some OfFile
        by (Again held same_now same_files same_met) = ap (λ (f : Holdings). f handle) same_now ∙ held
        by (New file is with more held still live) = held

    same_place : (k : ℕ) → k < length met → get_or met_now k 0 ≡ get_or met k 0
    same_place k less = ap (λ (l : List ℕ). get_or l k 0) behind.1 ∙ get_or_left met behind.0 k less

    -- one more is done
    pub done_more : (at : ℕ) → at < length met → get_or met at 0 ≡ handle → ((k : ℕ) → k < at → before (get_or met k 0) ≡ Some OfFile) → (k : ℕ) → k < at + 1 → now (get_or met_now k 0) ≡ Some OfFile
    done_more at less here done k below = ⊎_elim
        (λ earlier. ap now (same_place k (omega (arith, earlier, less))) ∙ held_still (get_or met k 0) (done k earlier))
        (λ same. ap now (same_place k (omega (arith, same, less)) ∙ ap (λ (n : ℕ). get_or met n 0) same ∙ here) ∙ held_now)
        (below_or k at below)
