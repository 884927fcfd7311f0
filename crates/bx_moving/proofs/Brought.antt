-- The trees between the steps of a move: what each step rests on.
use Rattle.std.proofs.Common.{◌≡◌, ℕ, ◌+◌, ◌-◌, ◌<◌, Bool, true, false, List, [], ◌∷◌, ◌++◌, Option, Some, None, refl, sym, ap, ◌∙◌, subst, inl, inr, arith}
use Rattle.std.specs.Prelude.{◌≢◌, ◌⊎◌, bytes_eq, if◌then◌else◌}
use Rattle.bx_model.specs.Edits.{changed}
use Rattle.bx_model.specs.declared.tree.Tree.{Tree}
use Rattle.bx_moving.specs.declared.moves.Moving.{Moving}
use Rattle.bx_moving.specs.declared.moves.Replaced.{Replaced}
use Rattle.bx_tree_files.specs.declared.file.Body.{Body}
use Rattle.bx_tree_files.specs.declared.file.Body.TheVariants.{Names}
use Rattle.bx_tree_files.specs.declared.file.File.{File}
use Rattle.bx_tree_files.specs.declared.file.Name.{Name}
use Rattle.bx_tree_files.specs.Changes.{entered, moved_to, taken_out}
use Rattle.bx_tree_files.specs.Entries.{AreBelow, entry_named, with_name, without_name}
use Rattle.bx_tree_files.specs.Files.{IsNumbered, file_at}
use Rattle.bx_tree_files.specs.Names.{with_entry, without_entry}
use Rattle.bx_tree_files.specs.Times.{Time}
use Rattle.bx_tree_laws.proofs.Entries.{other_found, other_none}
use Rattle.bx_tree_laws.proofs.Lookups.{changed_here, changed_other}
use Rattle.bx_truth.proofs.Cases.{same_or}
use Rattle.bx_views.specs.Truths.{Held, Hints, Truth}
use Rattle.bx_moving.specs.Moves.{IsDying, IsMoving, IsOther, IsReplaced, brought, cleared, sent}

-- ---- lists of entries

named_first : (xs ys : List Name) (name : List ℕ) (e : Name) → entry_named xs name ≡ Some e → entry_named (xs ++ ys) name ≡ Some e
named_first [] ys name e is = absurd cc
named_first (x ∷ xs) ys name e is = by (bytes_eq x.name name) refl (named_first xs ys name e)
  where
    by : (b : Bool) → bytes_eq x.name name ≡ b → (entry_named xs name ≡ Some e → entry_named (xs ++ ys) name ≡ Some e) → entry_named (x ∷ (xs ++ ys)) name ≡ Some e
    by true t later = rw t (rw t at is)
    by false t later = rw t (later (rw t at is))

below_left : (next : ℕ) (names : List Name) (name : List ℕ) → AreBelow next names → AreBelow next (without_name names name)
below_left next [] name below = tt
below_left next (x ∷ xs) name below = by (bytes_eq x.name name) refl (below_left next xs name below.1)
  where
    by : (b : Bool) → bytes_eq x.name name ≡ b → AreBelow next (without_name xs name) → AreBelow next (without_name (x ∷ xs) name)
    by true t later = rw t later
    by false t later = rw t (below.0, later)

-- ---- a directory between the steps

-- a directory with an entry of a name by its number
pub record HasEntry (tree : Tree) (handle number : ℕ) (name : List ℕ) : Type 0 where
  pub file : File
  pub there : file_at tree.files handle ≡ Some file
  pub kind : file.kind ≡ 2
  pub parent : ℕ
  pub next : ℕ
  pub names : List Name
  pub body : file.body ≡ Names parent next names
  pub entry : Name
  pub found : entry_named names name ≡ Some entry
  pub number_is : entry.number ≡ number

-- a directory into which an entry of a name may come
pub record MayCome (tree : Tree) (handle : ℕ) (name : List ℕ) : Type 0 where
  pub file : File
  pub there : file_at tree.files handle ≡ Some file
  pub parent : ℕ
  pub next : ℕ
  pub names : List Name
  pub body : file.body ≡ Names parent next names
  pub kind : file.kind ≡ 2
  pub absent : entry_named names name ≡ None
  pub numbered : IsNumbered file.nlink file.body
  pub left : next < 4294967295

module _ (areas : ℕ) (held : Held) (hints : Hints) (truth : Truth) (tree : Tree) (moving : Moving) (name new_name : List ℕ) (replaced : Option Replaced) (now : Time) (m : IsMoving areas held hints truth tree moving name new_name replaced) where
  pub entry_there : (r : Replaced) → IsReplaced tree moving m.target.names new_name r → HasEntry tree moving.target r.number new_name
  entry_there r is = record {
    file = m.target.file;
    there = m.target.there;
    kind = m.target.kind;
    parent = m.target.parent;
    next = m.target.next;
    names = m.target.names;
    body = m.target.body;
    entry = record { number = r.number; name = new_name; handle = r.handle };
    found = is.found;
    number_is = refl;
  }

  less_next : (n : ℕ) (b : Bool) (next : ℕ) → n < next → (if b then n - 1 else n) < next
  less_next n true next less = omega (arith, less)
  less_next n false next less = less

  -- once the name is nobody's
  pub may_come : (o : Option Replaced) → IsOther tree moving m.target.names new_name o → MayCome (cleared now tree moving.target new_name o) moving.target new_name
  may_come None other = record {
    file = m.target.file;
    there = m.target.there;
    parent = m.target.parent;
    next = m.target.next;
    names = m.target.names;
    body = m.target.body;
    kind = m.target.kind;
    absent = other;
    numbered = m.numbered;
    left = m.left;
  }
  may_come (Some r) other = record {
    file = taken_out now new_name r.is_directory m.target.file;
    there = changed_here tree.files moving.target (taken_out now new_name r.is_directory) m.target.file (λ f. refl) m.target.there;
    parent = m.target.parent;
    next = m.target.next;
    names = without_name m.target.names new_name;
    body = ap (without_entry new_name) m.target.body;
    kind = m.target.kind;
    absent = other_none m.target.names new_name;
    numbered = subst (λ (b : Body). IsNumbered (if r.is_directory then m.target.file.nlink - 1 else m.target.file.nlink) (without_entry new_name b)) (sym m.target.body)
        (less_next m.target.file.nlink r.is_directory m.target.next numbers.0, below_left m.target.next m.target.names new_name numbers.1);
    left = m.left;
  }
    where
      numbers : (m.target.file.nlink < m.target.next) × AreBelow m.target.next m.target.names
      numbers = subst (IsNumbered m.target.file.nlink) m.target.body m.numbered

  -- what is elsewhere stays
  elsewhere_cleared : (o : Option Replaced) (h : ℕ) → moving.target ≢ h → file_at (cleared now tree moving.target new_name o).files h ≡ file_at tree.files h
  elsewhere_cleared None h apart = refl
  elsewhere_cleared (Some r) h apart = changed_other tree.files moving.target (taken_out now new_name r.is_directory) h (λ f. refl) apart

  elsewhere_brought : (h : ℕ) → moving.target ≢ h → file_at (brought now tree moving new_name replaced).files h ≡ file_at tree.files h
  elsewhere_brought h apart =
      changed_other (cleared now tree moving.target new_name replaced).files moving.target (entered now new_name moving.handle moving.counts) h (λ f. refl) apart ∙ elsewhere_cleared replaced h apart

  -- the entry that it leaves, in the directory that it comes into
  found_then : (o : Option Replaced) (is : IsOther tree moving m.target.names new_name o) → new_name ≢ name → entry_named m.target.names name ≡ Some (record { number = moving.number; name = name; handle = moving.handle })
      → entry_named (may_come o is).names name ≡ Some (record { number = moving.number; name = name; handle = moving.handle })
  unfolding may_come
  found_then None is apart found = found
  found_then (Some r) is apart found = other_found m.target.names new_name name (λ e. apart (sym e)) ∙ found

  abbrev come : MayCome (cleared now tree moving.target new_name replaced) moving.target new_name
  come = may_come replaced m.other

  same_names : moving.source ≡ moving.target → m.source.names ≡ m.target.names
  same_names e =
      let files : ◌≡◌ {A = Option File} (Some m.source.file) (Some m.target.file) = sym m.source.there ∙ ap (file_at tree.files) e ∙ m.target.there in
      let file : m.source.file ≡ m.target.file = cc in
      let bodies : Names m.source.parent m.source.next m.source.names ≡ Names m.target.parent m.target.next m.target.names = sym m.source.body ∙ ap (λ (f : File). f.body) file ∙ m.target.body in
      cc

  pub leaves_by : HasEntry (brought now tree moving new_name replaced) moving.source moving.number name
  leaves_by = by (same_or moving.target moving.source)
    where
      by : (moving.target ≡ moving.source) ⊎ (moving.target ≢ moving.source) → HasEntry (brought now tree moving new_name replaced) moving.source moving.number name
      by (inl e) = subst (λ (h : ℕ). HasEntry (brought now tree moving new_name replaced) h moving.number name) e (record {
        file = entered now new_name moving.handle moving.counts come.file;
        there = changed_here (cleared now tree moving.target new_name replaced).files moving.target (entered now new_name moving.handle moving.counts) come.file (λ f. refl) come.there;
        kind = come.kind;
        parent = come.parent;
        next = come.next + 1;
        names = with_name come.names come.next new_name moving.handle;
        body = ap (with_entry new_name moving.handle) come.body;
        entry = record { number = moving.number; name = name; handle = moving.handle };
        found = named_first come.names (record { number = come.next; name = new_name; handle = moving.handle } ∷ []) name (record { number = moving.number; name = name; handle = moving.handle })
            (found_then replaced m.other (m.names (sym e)) (ap (λ (l : List Name). entry_named l name) (sym (same_names (sym e))) ∙ m.found));
        number_is = refl;
      })
      by (inr apart) = record {
        file = m.source.file;
        there = elsewhere_brought moving.source apart ∙ m.source.there;
        kind = m.source.kind;
        parent = m.source.parent;
        next = m.source.next;
        names = m.source.names;
        body = m.source.body;
        entry = record { number = moving.number; name = name; handle = moving.handle };
        found = m.found;
        number_is = refl;
      }

  abbrev left_tree : Tree
  left_tree = changed (brought now tree moving new_name replaced) moving.source (taken_out now name moving.counts)

  elsewhere_left : (h : ℕ) → moving.target ≢ h → moving.source ≢ h → file_at left_tree.files h ≡ file_at tree.files h
  elsewhere_left h target source = changed_other (brought now tree moving new_name replaced).files moving.source (taken_out now name moving.counts) h (λ f. refl) source ∙ elsewhere_brought h target

  pub moved_then : file_at (changed (brought now tree moving new_name replaced) moving.source (taken_out now name moving.counts)).files moving.handle ≡ Some m.moved
  moved_then = elsewhere_left moving.handle (λ e. m.not_target (sym e)) (λ e. m.not_source (sym e)) ∙ m.moved_there

  pub elsewhere_sent : (h : ℕ) → moving.target ≢ h → moving.source ≢ h → moving.handle ≢ h → file_at (sent now tree moving name new_name replaced).files h ≡ file_at tree.files h
  elsewhere_sent h target source itself = changed_other left_tree.files moving.handle (moved_to now moving.target) h (λ f. refl) itself ∙ elsewhere_left h target source

  -- the file that had the name is still there
  abbrev pub dying_in : (last : Tree) → ((h : ℕ) → moving.target ≢ h → moving.source ≢ h → moving.handle ≢ h → file_at last.files h ≡ file_at tree.files h)
      → (o : Option Replaced) → IsOther tree moving m.target.names new_name o → IsDying last o
  dying_in last stays None is = tt
  dying_in last stays (Some r) is = record {
    file = is.file;
    there = stays r.handle (λ e. is.not_target (sym e)) (λ e. is.not_source (sym e)) (λ e. is.not_moved (sym e)) ∙ is.there;
    empty = is.empty;
    not_root = is.not_root;
  }

-- ---- the entry that is cleared

pub entry_cleared : (areas : ℕ) (held : Held) (hints : Hints) (truth : Truth) (tree : Tree) (moving : Moving) (name new_name : List ℕ) (replaced : Option Replaced) (now : Time) (target : ℕ) (other : Replaced)
    → IsMoving areas held hints truth tree moving name new_name replaced → replaced ≡ Some other → moving.target ≡ target → HasEntry tree target other.number new_name
entry_cleared areas held hints truth tree moving name new_name replaced now target other m some same =
    let at_some = subst (λ (o : Option Replaced). IsMoving areas held hints truth tree moving name new_name o) some m in
    subst (λ (h : ℕ). HasEntry tree h other.number new_name) same (entry_there areas held hints truth tree moving name new_name (Some other) now at_some other at_some.other)
