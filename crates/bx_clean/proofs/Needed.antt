-- What a step needs: blocks of the volume that aren't held, of handles that the dead inode leads to.
use Rattle.std.proofs.Common.{◌≡◌, ℕ, ◌<◌, ◌≤◌, arith, true, false, List, [], None, Result, Ok, Err, refl, sym, subst, inl, inr}
use Rattle.std.specs.Prelude.{◌⊎◌}
use Rattle.std.proofs.lemmas.Bool.Decides.{nat_tests}
use Rattle.bx_base.specs.declared.names.Mode.{Mode}
use Rattle.bx_base.specs.declared.names.Mode.TheVariants.{Exclusive}
use Rattle.bx_chunks.specs.Freeing.{LacksBlock as LacksOf, its_area, its_block, own_at}
use Rattle.bx_chunks.specs.Marking.{MarksAt}
use Rattle.bx_chunks.specs.declared.error.ChunkError.{ChunkError}
use Rattle.bx_chunks.specs.declared.error.ChunkError.TheVariants.{Need, Stale, Full, OutOfMemory, Crowded}
use Rattle.bx_places.specs.Handles.{parts_of}
use Rattle.bx_layout.specs.declared.inode.Inode.{Inode}
use Rattle.bx_page.specs.Contents.{Contents}
use Rattle.bx_places.specs.Places.{block_area, block_slot, is_block}
use Rattle.bx_records.specs.Drafts.{Changed}
use Rattle.bx_truth.specs.Chunks.{IsSlot, block_at, own_block}
use Rattle.bx_views.specs.Truths.{Held}
use Rattle.bx_clean.specs.Held.{DeadAt, HoldsDead, HoldsPage, WantsBlock, PageAt}
use Rattle.bx_clean.specs.Pages.{AbsorbsNext, CutsFirst, LedBy, StripsPage, cut_empty, cut_memory, cuts, fails, inner, leaf, lead_empty, lead_high, lead_long, lead_memory, lead_none, leads, stops, strip_empty, strip_memory, strips}
use Rattle.bx_clean.specs.Puts.{FreesSlotOf, FreesTo, PutsAndFrees, frees, memory, outside, puts}
use Rattle.bx_clean.specs.Tidying.{IsOf, itself, named, next, root}
use Rattle.bx_clean.specs.Trees.{CleansFile, CleansTree, FreesFile, FreesTree, ShrinksAbove, ShrinksBelow, absorbs, cuts_child, cuts_root, empty, ends, frees_file, frees_tree, lowers, many, no_inode, no_page, no_room, shrinks, single, unmarked, unread, with_tree, without_tree}
use Rattle.bx_clean.proofs.Freed.{within}

tested : (areas at : ℕ) → block_area at < areas → block_slot at ≤ 960 → is_block areas at ≡ true
tested areas at less most = grind (arith, nat_tests)

slot_there : (areas at : ℕ) → IsSlot areas at → is_block areas at ≡ true
slot_there areas at s = let a = s.area in let b = s.slot in tested areas at a (omega (arith, b))

pub own_there : (areas area : ℕ) → area < areas → is_block areas (own_block area) ≡ true
own_there areas area less = tested areas (own_block area) (omega (arith, less)) (omega arith)

-- a block that is needed, of a handle that the dead inode leads to
pub record IsNeed (areas : ℕ) (held : Held) (handle at : ℕ) (mode : Mode) : Type 0 where
  pub is : is_block areas at ≡ true
  pub missing : held at mode ≡ None
  pub mode_is : mode ≡ Exclusive
  pub of : ℕ
  pub leads_to : IsOf held areas handle of
  pub at_is : (at ≡ block_at of) ⊎ (at ≡ own_at of)

module _ (areas : ℕ) (held : Held) (handle : ℕ) where
  abbrev pub NeedsOf : {X : Type 0} → Result X ChunkError → Type 0
  NeedsOf (Ok x) = Unit {0}
  NeedsOf (Err (Need at mode)) = IsNeed areas held handle at mode
  NeedsOf (Err Stale) = Unit {0}
  NeedsOf (Err OutOfMemory) = Unit {0}
  NeedsOf (Err Crowded) = Unit {0}
  NeedsOf (Err (Full spare)) = Unit {0}

  abbrev Drafted : Type 0
  Drafted = Result (List Changed) ChunkError

  lacks : (of at : ℕ) (mode : Mode) → IsOf held areas handle of → WantsBlock held areas of at mode → IsNeed areas held handle at mode
  lacks of at mode o l = record {
    is = subst (λ (n : ℕ). is_block areas n ≡ true) (sym l.at_is) (slot_there areas (block_at of) l.slot);
    missing = subst (λ (m : Mode). held at m ≡ None) (sym l.mode_is) (subst (λ (n : ℕ). held n Exclusive ≡ None) (sym l.at_is) l.missing);
    mode_is = l.mode_is;
    of = of;
    leads_to = o;
    at_is = inl l.at_is;
  }

  page_needs : (of : ℕ) → IsOf held areas handle of → (error : ChunkError) → PageAt held areas of (Err error) → NeedsOf {X = List Changed} (Err error)
  page_needs of o (Need at mode) l = lacks of at mode o l
  page_needs of o Stale l = tt
  page_needs of o OutOfMemory l = tt
  page_needs of o Crowded l = tt
  page_needs of o (Full spare) l = tt

  freed_need : (of : ℕ) (old : List Changed) (mode : Mode) → IsOf held areas handle of → IsSlot areas (block_at of) → mode ≡ Exclusive → (at : ℕ) → LacksOf held old of at → IsNeed areas held handle at mode
  freed_need of old mode o slot m at (its_block less missing) = record {
    is = slot_there areas (block_at of) slot;
    missing = subst (λ (x : Mode). held (block_at of) x ≡ None) (sym m) missing;
    mode_is = m;
    of = of;
    leads_to = o;
    at_is = inl refl;
  }
  freed_need of old mode o slot m at (its_area is missing) = record {
    is = own_there areas (parts_of of).area (within areas of slot);
    missing = subst (λ (x : Mode). held (own_at of) x ≡ None) (sym m) missing;
    mode_is = m;
    of = of;
    leads_to = o;
    at_is = inr refl;
  }

  freed_needs : (of : ℕ) (old : List Changed) → IsOf held areas handle of → (result : Drafted) → FreesSlotOf held areas old of result → NeedsOf result
  freed_needs of old o result (outside other e) = subst (NeedsOf {X = List Changed}) (sym e) tt
  freed_needs of old o result (frees slot f) = by result f
    where
      by : (r : Drafted) → FreesTo held old of r → NeedsOf r
      by (Ok new) f = tt
      by (Err (Need at mode)) f = freed_need of old mode o slot f.1 at f.0
      by (Err Stale) f = tt
      by (Err OutOfMemory) f = tt
      by (Err Crowded) f = tt
      by (Err (Full spare)) f = tt

  put_needs : (page : ℕ) (contents : Contents) (of : ℕ) → IsOf held areas handle of → (result : Drafted) → PutsAndFrees held areas page contents of result → NeedsOf result
  put_needs page contents of o result (memory e) = subst (NeedsOf {X = List Changed}) (sym e) tt
  put_needs page contents of o result (puts mid p f) = freed_needs of mid o result f

  cut_needs : (page : ℕ) (contents : Contents) → IsOf held areas handle page → HoldsPage held areas page contents → (result : Drafted) → CutsFirst held areas page contents result → NeedsOf result
  cut_needs page contents o h result (cut_memory e) = subst (NeedsOf {X = List Changed}) (sym e) tt
  cut_needs page contents o h result (cut_empty none e) = subst (NeedsOf {X = List Changed}) (sym e) tt
  cut_needs page contents o h result (cuts first is p) = put_needs page _ _ (named page contents first o h is) result p

  strip_needs : (page : ℕ) (contents : Contents) (result : Drafted) → StripsPage page contents result → NeedsOf result
  strip_needs page contents result (strip_memory e) = subst (NeedsOf {X = List Changed}) (sym e) tt
  strip_needs page contents result (strip_empty none e) = subst (NeedsOf {X = List Changed}) (sym e) tt
  strip_needs page contents result (strips first new is p e) = subst (NeedsOf {X = List Changed}) (sym e) tt

  error_same : (a b : ChunkError) → ◌≡◌ {A = Result Contents ChunkError} (Err a) (Err b) → NeedsOf {X = List Changed} (Err b) → NeedsOf {X = List Changed} (Err a)
  error_same a b e n = let same : a ≡ b = cc in subst (λ (x : ChunkError). NeedsOf {X = List Changed} (Err x)) (sym same) n

  led_needs : (page other : Contents) (error : ChunkError) → LedBy page other (Err error) → NeedsOf {X = List Changed} (Err error)
  led_needs page other error (lead_memory e) = error_same error OutOfMemory e tt
  led_needs page other error (lead_empty none e) = error_same error Stale e tt
  led_needs page other error (lead_none none e) = error_same error Stale e tt
  led_needs page other error (lead_high own first own_is first_is apart e) = error_same error Stale e tt
  led_needs page other error (lead_long own first own_is first_is long e) = error_same error Stale e tt
  led_needs page other error (leads own first own_is first_is e) = absurd cc

  absorb_needs : (page : ℕ) (contents : Contents) → IsOf held areas handle page → HoldsPage held areas page contents → (result : Drafted) → AbsorbsNext held areas page contents result → NeedsOf result
  absorb_needs page contents o h result (stops error f e) = subst (NeedsOf {X = List Changed}) (sym e) (page_needs contents.right (next page contents o h) error f)
  absorb_needs page contents o h result (leaf beside n l p) = put_needs page beside contents.right (next page contents o h) result p
  absorb_needs page contents o h result (fails beside error n more f e) = subst (NeedsOf {X = List Changed}) (sym e) (led_needs beside contents error f)
  absorb_needs page contents o h result (inner beside led n more f p) = put_needs page led contents.right (next page contents o h) result p

  below_needs : (top child : ℕ) (contents : Contents) → IsOf held areas handle child → HoldsPage held areas child contents → (result : Drafted) → ShrinksBelow held areas top child contents result → NeedsOf result
  below_needs top child contents o h result (lowers right p) = put_needs top contents child o result p
  below_needs top child contents o h result (cuts_child right l entries p) = cut_needs child contents o h result p
  below_needs top child contents o h result (absorbs right entries p) = absorb_needs child contents o h result p

  above_needs : (top : ℕ) (contents : Contents) → IsOf held areas handle top → HoldsPage held areas top contents → (result : Drafted) → ShrinksAbove held areas top contents result → NeedsOf result
  above_needs top contents o h result (many some p) = strip_needs top contents result p
  above_needs top contents o h result (empty none e) = subst (NeedsOf {X = List Changed}) (sym e) tt
  above_needs top contents o h result (unread first error short is f e) = subst (NeedsOf {X = List Changed}) (sym e) (page_needs _ (named top contents first o h is) error f)
  above_needs top contents o h result (single first below short is n s) = below_needs top _ below (named top contents first o h is) n result s

  module _ (inode : Inode) (dead : HoldsDead held areas handle inode) where
    bare_needs : (result : Drafted) → FreesTree held areas handle inode result → NeedsOf result
    bare_needs result (no_room e) = subst (NeedsOf {X = List Changed}) (sym e) tt
    bare_needs result (frees_tree mid p f) = freed_needs inode.tree mid (root inode dead) result f

    tree_needs : (result : Drafted) → CleansTree held areas handle inode result → NeedsOf result
    tree_needs result (no_page error f e) = subst (NeedsOf {X = List Changed}) (sym e) (page_needs inode.tree (root inode dead) error f)
    tree_needs result (shrinks page h more s) = above_needs inode.tree page (root inode dead) h result s
    tree_needs result (cuts_root page h l entries s) = cut_needs inode.tree page (root inode dead) h result s
    tree_needs result (ends page h l none s) = bare_needs result s

    unmarked_needs : (error : ChunkError) → MarksAt held [] [] handle false (Err error) → NeedsOf {X = List Changed} (Err error)
    unmarked_needs (Need at mode) m = record {
      is = subst (λ (n : ℕ). is_block areas n ≡ true) (sym m.0.at_is) (own_there areas (parts_of handle).area (within areas handle dead.is.slot));
      missing = subst (λ (x : Mode). held at x ≡ None) (sym m.1) (subst (λ (n : ℕ). held n Exclusive ≡ None) (sym m.0.at_is) m.0.missing);
      mode_is = m.1;
      of = handle;
      leads_to = itself;
      at_is = inr m.0.at_is;
    }
    unmarked_needs Stale m = tt
    unmarked_needs OutOfMemory m = tt
    unmarked_needs Crowded m = tt
    unmarked_needs (Full spare) m = tt

    file_needs : (result : Drafted) → FreesFile held areas handle result → NeedsOf result
    file_needs result (unmarked error m e) = subst (NeedsOf {X = List Changed}) (sym e) (unmarked_needs error m)
    file_needs result (frees_file mid m f) = freed_needs handle mid itself result f

  dead_needs : (error : ChunkError) → DeadAt held areas handle (Err error) → NeedsOf {X = List Changed} (Err error)
  dead_needs (Need at mode) l = lacks handle at mode itself l
  dead_needs Stale l = tt
  dead_needs OutOfMemory l = tt
  dead_needs Crowded l = tt
  dead_needs (Full spare) l = tt

  pub needs_of : (result : Drafted) → CleansFile held areas handle result → NeedsOf result
  needs_of result (no_inode error f e) = subst (NeedsOf {X = List Changed}) (sym e) (dead_needs error f)
  needs_of result (without_tree inode h zero s) = file_needs inode h result s
  needs_of result (with_tree inode h some s) = tree_needs inode h result s
