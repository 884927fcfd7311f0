-- The sample volume stands for its tree.
use Rattle.std.proofs.Common.{◌≡◌, ℕ, zero, suc, ◌%◌, ◌^◌, ◌<◌, ◌≤◌, ◌⊎◌, ⊎_elim, inl, inr, arith, Bool, true, false, [], ◌∷◌, sym, ap, ◌∙◌, subst, refl, Some, None}
use Rattle.std.specs.Prelude.{◌≢◌, ◌==◌, if◌then◌else◌, AllPairs, slice_index_or}
use Rattle.std.proofs.lemmas.Bool.Decides.{eqb_tells}
use Rattle.std.proofs.lemmas.List.Elements.{All-cons, All-nil}
use Rattle.std.proofs.lemmas.List.Kept.{AllPairs-cons}
use Rattle.bx_views.specs.bx_layout.specs.declared.block.Block.{Block}
use Rattle.bx_views.specs.bx_layout.specs.Areas.{generation_in}
use Rattle.bx_model.specs.bx_tree_files.specs.declared.file.File.{File}
use Rattle.bx_model.specs.bx_tree_files.specs.Files.{file_at}
use Rattle.bx_truth.specs.Chunks.{chunks_of, block_at, word_at, dead_at, IsSlot}
use Rattle.bx_truth.specs.Sample.{nth, root_file, directory_file, regular_file, root_inode, directory_inode, regular_inode, dead_inode, inode_block, sample_truth, sample_tree}
use Rattle.bx_truth.specs.Stands.{StandsFor, AreFiles, IsOwned, WasGiven, MarksTheDead}
use Rattle.bx_truth.specs.Stored.{Inodes}
use Rattle.bx_truth.proofs.Cases.{same_or}
use Rattle.bx_truth.proofs.PieceKeys.{some_same}
use Rattle.bx_truth.proofs.SampleSlots.{sample_chunked, chunk_there, chunk_cases, dead_not, dead_tenth, slot_there, word_there}
use Rattle.bx_truth.proofs.SampleOwners.{the_owner, the_stored, the_files, owned}

-- ---- the files

-- what has a handle is one of the three
pub file_cases : (handle : ℕ) (file : File) → file_at the_files handle ≡ Some file
    → ((handle ≡ nth 0) × (file ≡ root_file)) ⊎ (((handle ≡ nth 2) × (file ≡ directory_file)) ⊎ ((handle ≡ nth 4) × (file ≡ regular_file)))
file_cases handle file is = by (eqb_tells (nth 0) handle) (eqb_tells (nth 2) handle) (eqb_tells (nth 4) handle) is
  where
    by : (((nth 0 == handle) ≡ true) × (nth 0 ≡ handle)) ⊎ (((nth 0 == handle) ≡ false) × (nth 0 ≢ handle))
        → (((nth 2 == handle) ≡ true) × (nth 2 ≡ handle)) ⊎ (((nth 2 == handle) ≡ false) × (nth 2 ≢ handle))
        → (((nth 4 == handle) ≡ true) × (nth 4 ≡ handle)) ⊎ (((nth 4 == handle) ≡ false) × (nth 4 ≢ handle))
        → file_at the_files handle ≡ Some file
        → ((handle ≡ nth 0) × (file ≡ root_file)) ⊎ (((handle ≡ nth 2) × (file ≡ directory_file)) ⊎ ((handle ≡ nth 4) × (file ≡ regular_file)))
    by (inl a) b c e =
        let x : Some root_file ≡ Some file = sym (ap (λ (t : Bool). if t then Some root_file else file_at (directory_file ∷ regular_file ∷ []) handle) a.0) ∙ e in
        inl (sym a.1, sym (some_same root_file file x))
    by (inr a) (inl b) c e =
        let x : Some directory_file ≡ Some file =
        sym (ap (λ (t : Bool). if t then Some directory_file else file_at (regular_file ∷ []) handle) b.0)
        ∙ sym (ap (λ (t : Bool). if t then Some root_file else file_at (directory_file ∷ regular_file ∷ []) handle) a.0) ∙ e in
        inr (inl (sym b.1, sym (some_same directory_file file x)))
    by (inr a) (inr b) (inl c) e =
        let x : Some regular_file ≡ Some file =
        sym (ap (λ (t : Bool). if t then Some regular_file else None) c.0)
        ∙ sym (ap (λ (t : Bool). if t then Some directory_file else file_at (regular_file ∷ []) handle) b.0)
        ∙ sym (ap (λ (t : Bool). if t then Some root_file else file_at (directory_file ∷ regular_file ∷ []) handle) a.0) ∙ e in
        inr (inr (sym c.1, sym (some_same regular_file file x)))
    by (inr a) (inr b) (inr c) e =
        let x : None ≡ Some file =
        sym (ap (λ (t : Bool). if t then Some regular_file else None) c.0)
        ∙ sym (ap (λ (t : Bool). if t then Some directory_file else file_at (regular_file ∷ []) handle) b.0)
        ∙ sym (ap (λ (t : Bool). if t then Some root_file else file_at (directory_file ∷ regular_file ∷ []) handle) a.0) ∙ e in
        absurd cc

some_not : (handle : ℕ) (block : Block) → chunks_of 1 sample_truth handle ≡ Some block → chunks_of 1 sample_truth handle ≢ None
some_not handle block is none = absurd cc

the_inode : (handle slot : ℕ) (block : Block) → handle ≡ nth slot → the_owner (nth slot) ≡ Inodes → chunks_of 1 sample_truth (nth slot) ≡ Some block
    → (the_owner handle ≡ Inodes) × (chunks_of 1 sample_truth handle ≢ None)
the_inode handle slot block is own chunk = (ap the_owner is ∙ own, subst (λ (h : ℕ). chunks_of 1 sample_truth h ≢ None) (sym is) (some_not (nth slot) block chunk))

are_files : AreFiles (chunks_of 1 sample_truth) the_owner the_stored the_files
are_files = record {
  each = λ handle block chunk.
      let c = chunk_cases handle block chunk in
      subst (λ (h : ℕ). IsOwned (chunks_of 1 sample_truth) the_owner the_stored the_files h block (the_owner h)) (sym c.2)
      (subst (λ (b : Block). IsOwned (chunks_of 1 sample_truth) the_owner the_stored the_files (nth c.0) b (the_owner (nth c.0))) (sym c.3) (owned c.0 c.1));
  all = λ handle file is. ⊎_elim
      (λ root. the_inode handle 0 (inode_block (nth 0) root_inode) root.0 refl (chunk_there 0 (omega arith)))
      (λ others. ⊎_elim
      (λ directory. the_inode handle 2 (inode_block (nth 2) directory_inode) directory.0 refl (chunk_there 2 (omega arith)))
      (λ regular. the_inode handle 4 (inode_block (nth 4) regular_inode) regular.0 refl (chunk_there 4 (omega arith)))
      others)
      (file_cases handle file is);
}

-- ---- the marks

marked_alone : (k : ℕ) → k < 11 → the_owner (nth k) ≡ Inodes → (the_stored (nth k)).inode.kind ≡ 0 → k ≡ 10
marked_alone zero less own kind = absurd (omega (arith, kind))
marked_alone (suc zero) less own kind = absurd cc
marked_alone (suc (suc zero)) less own kind = absurd (omega (arith, kind))
marked_alone (suc (suc (suc zero))) less own kind = absurd cc
marked_alone (suc (suc (suc (suc zero)))) less own kind = absurd (omega (arith, kind))
marked_alone (suc (suc (suc (suc (suc zero))))) less own kind = absurd cc
marked_alone (suc (suc (suc (suc (suc (suc zero)))))) less own kind = absurd cc
marked_alone (suc (suc (suc (suc (suc (suc (suc zero))))))) less own kind = absurd cc
marked_alone (suc (suc (suc (suc (suc (suc (suc (suc zero)))))))) less own kind = absurd cc
marked_alone (suc (suc (suc (suc (suc (suc (suc (suc (suc zero))))))))) less own kind = absurd cc
marked_alone (suc (suc (suc (suc (suc (suc (suc (suc (suc (suc k)))))))))) less own kind = omega (arith, less)

marks : MarksTheDead 1 sample_truth the_owner the_stored
marks = record {
  dead = λ handle block chunk itself kind.
      let c = chunk_cases handle block chunk in
      let ten : c.0 ≡ 10 = marked_alone c.0 c.1 (sym (ap the_owner c.2) ∙ itself) (sym (ap (λ (h : ℕ). (the_stored h).inode.kind) c.2) ∙ kind) in
      ap (λ (h : ℕ). dead_at sample_truth (block_at h)) (c.2 ∙ ap nth ten) ∙ dead_tenth;
  marked = λ block slot marked. by block slot marked (same_or block 10);
}
  where
    by : (block : ℕ) → IsSlot 1 block → dead_at sample_truth block ≡ true → (block ≡ 10) ⊎ (block ≢ 10)
        → (handle : ℕ) × (block_at handle ≡ block) × (chunks_of 1 sample_truth handle ≢ None) × (the_owner handle ≡ Inodes) × ((the_stored handle).inode.kind ≡ 0)
    by block slot marked (inl same) = (nth 10, sym same, some_not (nth 10) (inode_block (nth 10) dead_inode) (chunk_there 10 (omega arith)), refl, refl)
    by block slot marked (inr other) = let no : true ≡ false = sym marked ∙ dead_not block slot other in absurd cc

-- ---- the tree

given_at : (slot : ℕ) → slot < 11 → block_at (nth slot) ≡ slot → nth slot % 2 ^ 32 ≡ 1 → WasGiven 1 sample_truth (nth slot)
given_at slot less at low = record {
  slot = subst (IsSlot 1) (sym at) (slot_there slot less);
  generation = subst (λ (n : ℕ). n ≤ generation_in (word_at sample_truth (block_at (nth slot)))) (sym low)
      (subst (λ (b : ℕ). 1 ≤ generation_in (word_at sample_truth b)) (sym at) (subst (λ (w : ℕ). 1 ≤ generation_in w) (sym (word_there slot less)) (omega arith)));
}

given_cases : (handle k : ℕ) → k < 4 → slice_index_or (nth 0 ∷ nth 2 ∷ nth 4 ∷ nth 10 ∷ []) k handle ≡ handle → WasGiven 1 sample_truth handle
given_cases handle zero less is = subst (WasGiven 1 sample_truth) is (given_at 0 (omega arith) refl refl)
given_cases handle (suc zero) less is = subst (WasGiven 1 sample_truth) is (given_at 2 (omega arith) refl refl)
given_cases handle (suc (suc zero)) less is = subst (WasGiven 1 sample_truth) is (given_at 4 (omega arith) refl refl)
given_cases handle (suc (suc (suc zero))) less is = subst (WasGiven 1 sample_truth) is (given_at 10 (omega arith) refl refl)
given_cases handle (suc (suc (suc (suc k)))) less is = absurd (omega (arith, less))

pub handles_rise : AllPairs (λ a b. a.handle < b.handle) the_files
handles_rise =
    AllPairs-cons (λ (a b : File). a.handle < b.handle) root_file (directory_file ∷ regular_file ∷ [])
    (All-cons (λ (b : File). nth 0 < b.handle) directory_file (regular_file ∷ []) (omega arith) (All-cons (λ (b : File). nth 0 < b.handle) regular_file [] (omega arith) (All-nil (λ (b : File). nth 0 < b.handle))))
    (AllPairs-cons (λ (a b : File). a.handle < b.handle) directory_file (regular_file ∷ [])
    (All-cons (λ (b : File). nth 2 < b.handle) regular_file [] (omega arith) (All-nil (λ (b : File). nth 2 < b.handle)))
    (AllPairs-cons (λ (a b : File). a.handle < b.handle) regular_file [] (All-nil (λ (b : File). nth 4 < b.handle)) (λ i j d less within. absurd (omega (arith, within)))))

pub sample_stands : (volume : ℕ) → StandsFor 1 sample_truth (sample_tree volume)
sample_stands volume = record {
  chunked = sample_chunked;
  owner = the_owner;
  stored = the_stored;
  are_files = are_files;
  marks = marks;
  areas_are = refl;
  root_is = refl;
  has_root = λ none. absurd cc;
  in_order = handles_rise;
  given = λ handle given. given_cases handle given.0 given.1 given.2;
}
