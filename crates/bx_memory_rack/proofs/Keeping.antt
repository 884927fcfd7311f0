-- Disks in memory are those that the record tells: one step more.
use Rattle.std.proofs.Common.{◌≡◌, ◌∙◌, ℕ, zero, suc, ◌+◌, ◌-◌, ◌/◌, ◌%◌, ◌^◌, ◌<◌, ◌≤◌, Bool, true, false, List, [], ◌∷◌, length, set, arith, sym, ap, refl, subst}
use Rattle.std.specs.Prelude.{◌==◌, nat_lt, ◌||◌, if◌then◌else◌, slice_get, slice_index, Some, MatchBool}
use Rattle.std.proofs.Math.Path.{fun_ext}
use Rattle.std.proofs.lemmas.Bool.{lt-ltb}
use Rattle.std.proofs.Math.ListN.{length-set}
use Rattle.std.proofs.lemmas.Bool.Decides.{nat_tests}
use Rattle.std.proofs.lemmas.Grind.{common_steps}
use Rattle.bx_disk.specs.Disks.{Image, Disks, synced, written, blanked, sector_of, is_among}
use Rattle.bx_disk.specs.Crash.{left_with}
use Rattle.bx_memory_rack.specs.Cells.{cell_at, written_cell}
use Rattle.bx_memory_rack.specs.Memory.{IsKeptAs, AreKept}
use Rattle.bx_memory_rack.specs.declared.cell.Cell.{Cell}
use Rattle.bx_memory_rack.specs.declared.mem_disk.MemDisk.{MemDisk}

abbrev Tells : Bool → (ℕ → Bool) → Type 0
Tells dirty unsure = MatchBool dirty ((s : ℕ) × (unsure s ≡ true)) ((s : ℕ) → unsure s ≡ false)

tells_alike : (dirty : Bool) (f g : ℕ → Bool) → ((s : ℕ) → g s ≡ f s) → Tells dirty f → Tells dirty g
tells_alike true f g same some = (some.0, same some.0 ∙ some.1)
tells_alike false f g same none = λ s. same s ∙ none s

pub never : false ≡ true → ⊥
never e = cc

get_set_here : (xs : List MemDisk) (i : ℕ) (v x : MemDisk) → slice_get (set xs i v) i ≡ Some x → v ≡ x
get_set_here [] i v x is = absurd (cc)
get_set_here (y ∷ xs) zero v x is = cc
get_set_here (y ∷ xs) (suc i) v x is = get_set_here xs i v x is

get_set_other : (xs : List MemDisk) (i j : ℕ) (v : MemDisk) → (j ≡ i → ⊥) → slice_get (set xs i v) j ≡ slice_get xs j
get_set_other [] i j v apart = refl
get_set_other (y ∷ xs) zero zero v apart = absurd (apart refl)
get_set_other (y ∷ xs) zero (suc j) v apart = refl
get_set_other (y ∷ xs) (suc i) zero v apart = refl
get_set_other (y ∷ xs) (suc i) (suc j) v apart = get_set_other xs i j v (λ e. apart (ap suc e))

pub same_number : (d : ℕ) → (d == d) ≡ true
same_number d = grind (arith, nat_tests)

-- what a step leaves at another disk
pub record Elsewhere (old new : Disks) (e : ℕ) : Type 0 where
  pub sizes : new.sizes ≡ old.sizes
  pub reads : (s : ℕ) → new.reads e s ≡ old.reads e s
  pub held : (s : ℕ) → new.held e s ≡ old.held e s
  pub unsure : (s : ℕ) → new.unsure e s ≡ old.unsure e s

pub kept_elsewhere : (old new : Disks) (e : ℕ) (disk : MemDisk) (n m : ℕ) → n ≤ m → Elsewhere old new e → IsKeptAs old e disk n → IsKeptAs new e disk m
kept_elsewhere old new e disk n m le same kept = record {
  size = ap (λ (l : List ℕ). slice_index l e) same.sizes ∙ kept.size;
  small = kept.small;
  reads = λ s within. same.reads s ∙ kept.reads s within;
  held = λ s within unsure. same.held s ∙ kept.held s within (sym (same.unsure s) ∙ unsure);
  unsure = λ s. same.unsure s ∙ kept.unsure s;
  before = λ s. let before = kept.before s in omega arith;
  over = omega (arith, kept.over);
  settled = λ s sure. same.held s ∙ kept.settled s (sym (same.unsure s) ∙ sure) ∙ sym (same.reads s);
  dirty = tells_alike disk.dirty (old.unsure e) (new.unsure e) same.unsure kept.dirty;
}

pub synced_elsewhere : (disks : Disks) (d e : ℕ) → (e == d) ≡ false → Elsewhere disks (synced disks d) e
synced_elsewhere disks d e apart = record {
  sizes = refl;
  reads = λ s. refl;
  held = λ s. grind (arith, common_steps, apart);
  unsure = λ s. grind (arith, common_steps, apart);
}

pub written_elsewhere : (disks : Disks) (d from : ℕ) (bytes : List ℕ) (e : ℕ) → (e == d) ≡ false → Elsewhere disks (written disks d from bytes) e
written_elsewhere disks d from bytes e apart = record {
  sizes = refl;
  reads = λ s. rw apart refl;
  held = λ s. refl;
  unsure = λ s. rw apart refl;
}

pub left_elsewhere : (disks : Disks) (d : ℕ) (content : ℕ → List ℕ) (e : ℕ) → (e == d) ≡ false → Elsewhere disks (left_with disks d content) e
left_elsewhere disks d content e apart = record {
  sizes = refl;
  reads = λ s. rw apart refl;
  held = λ s. rw apart refl;
  unsure = λ s. rw apart refl;
}

pub blanked_elsewhere : (disks : Disks) (d e : ℕ) → (e == d) ≡ false → Elsewhere disks (blanked disks d) e
blanked_elsewhere disks d e apart = record {
  sizes = refl;
  reads = λ s. rw apart refl;
  held = λ s. rw apart refl;
  unsure = λ s. rw apart refl;
}

-- a sector isn't unsure where the record isn't longer
not_later : (a n : ℕ) → a ≤ n → nat_lt (n + 1) a ≡ false
not_later a n le = grind (arith, nat_tests)

pub synced_here : (disks : Disks) (d : ℕ) (disk : MemDisk) (n : ℕ) → IsKeptAs disks d disk n
    → IsKeptAs (synced disks d) d (record { size = disk.size; cells = disk.cells; synced = n + 1; dirty = false }) (n + 1)
synced_here disks d disk n kept = record {
  size = kept.size;
  small = kept.small;
  reads = kept.reads;
  held = λ s within unsure. absurd_of s unsure;
  unsure = λ s. none s ∙ sym (not_later (cell_at disk.cells s).since n (kept.before s));
  before = λ s. let before = kept.before s in omega arith;
  over = omega arith;
  settled = λ s sure. rw (same_number d) refl;
  dirty = none;
}
  where
    none : (s : ℕ) → (synced disks d).unsure d s ≡ false
    none s = rw (same_number d) refl

    absurd_of : (s : ℕ) → (synced disks d).unsure d s ≡ true → (synced disks d).held d s ≡ (cell_at disk.cells s).held
    absurd_of s unsure = let no = none s in absurd (cc)

pub written_here : (disks : Disks) (d : ℕ) (old new : MemDisk) (n from : ℕ) (bytes : List ℕ)
    → IsKeptAs disks d old n
    → from + length bytes / 512 ≤ old.size → length bytes % 512 ≡ 0
    → new.size ≡ old.size → new.synced ≡ old.synced → new.dirty ≡ (nat_lt 0 (length bytes) || old.dirty)
    → ((s : ℕ) → cell_at new.cells s ≡ (if is_among from (length bytes / 512) s then written_cell old.synced (n + 1) (cell_at old.cells s) (sector_of bytes (s - from)) else cell_at old.cells s))
    → IsKeptAs (written disks d from bytes) d new (n + 1)
written_here disks d old new n from bytes kept range whole size synced dirty cells = record {
  size = kept.size ∙ sym size;
  small = rw size kept.small;
  reads = λ s within. reads_at (is_among from (length bytes / 512) s) s refl (subst (λ (m : ℕ). s < m) size within);
  held = λ s within unsure. held_at (is_among from (length bytes / 512) s) (disks.unsure d s) s refl refl (subst (λ (m : ℕ). s < m) size within) unsure;
  unsure = λ s. unsure_at (is_among from (length bytes / 512) s) s refl;
  before = λ s. before_at (is_among from (length bytes / 512) s) s refl;
  over = let before = kept.over in omega arith;
  settled = λ s sure. settled_at (is_among from (length bytes / 512) s) (disks.unsure d s) s refl refl sure;
  dirty = dirty_at (nat_lt 0 (length bytes)) refl;
}
  where
    inside : (s : ℕ) → is_among from (length bytes / 512) s ≡ true → cell_at new.cells s ≡ written_cell old.synced (n + 1) (cell_at old.cells s) (sector_of bytes (s - from))
    inside s is = cells s ∙ ap (λ (b : Bool). if b then written_cell old.synced (n + 1) (cell_at old.cells s) (sector_of bytes (s - from)) else cell_at old.cells s) is

    outside : (s : ℕ) → is_among from (length bytes / 512) s ≡ false → cell_at new.cells s ≡ cell_at old.cells s
    outside s is = cells s ∙ ap (λ (b : Bool). if b then written_cell old.synced (n + 1) (cell_at old.cells s) (sector_of bytes (s - from)) else cell_at old.cells s) is

    reads_at : (b : Bool) (s : ℕ) → is_among from (length bytes / 512) s ≡ b → s < old.size → (written disks d from bytes).reads d s ≡ (cell_at new.cells s).now
    reads_at true s is within = rw (same_number d, is) (sym (ap (λ (c : Cell). c.now) (inside s is)))
    reads_at false s is within = rw (same_number d, is) (kept.reads s within ∙ sym (ap (λ (c : Cell). c.now) (outside s is)))

    unsure_at : (b : Bool) (s : ℕ) → is_among from (length bytes / 512) s ≡ b → (written disks d from bytes).unsure d s ≡ nat_lt new.synced (cell_at new.cells s).since
    unsure_at true s is =
        let since = ap (λ (c : Cell). c.since) (inside s is) in
        let over = kept.over in
        rw (same_number d, is) (sym (lt-ltb new.synced (cell_at new.cells s).since (omega arith)))
    unsure_at false s is = rw (same_number d, is) (kept.unsure s ∙ ap (λ (m : ℕ). nat_lt m (cell_at old.cells s).since) (sym synced) ∙ ap (λ (c : Cell). nat_lt new.synced c.since) (sym (outside s is)))

    none : (s : ℕ) → is_among from (length bytes / 512) s ≡ false → disks.unsure d s ≡ false → (written disks d from bytes).unsure d s ≡ false
    none s is was = rw (same_number d, is, was) refl

    held_at : (b u : Bool) (s : ℕ) → is_among from (length bytes / 512) s ≡ b → disks.unsure d s ≡ u → s < old.size → (written disks d from bytes).unsure d s ≡ true
        → disks.held d s ≡ (cell_at new.cells s).held
    held_at true true s is was within unsure =
        let later : nat_lt old.synced (cell_at old.cells s).since ≡ true = sym (kept.unsure s) ∙ was in
        rw (inside s is, later) (kept.held s within was)
    held_at true false s is was within unsure =
        let later : nat_lt old.synced (cell_at old.cells s).since ≡ false = sym (kept.unsure s) ∙ was in
        rw (inside s is, later) (kept.settled s was ∙ kept.reads s within)
    held_at false true s is was within unsure = rw (outside s is) (kept.held s within was)
    held_at false false s is was within unsure = absurd (never (sym (none s is was) ∙ unsure))

    before_at : (b : Bool) (s : ℕ) → is_among from (length bytes / 512) s ≡ b → (cell_at new.cells s).since ≤ n + 1
    before_at true s is = let since = ap (λ (c : Cell). c.since) (inside s is) in omega arith
    before_at false s is = let since = ap (λ (c : Cell). c.since) (outside s is) in let before = kept.before s in omega arith

    settled_at : (b u : Bool) (s : ℕ) → is_among from (length bytes / 512) s ≡ b → disks.unsure d s ≡ u → (written disks d from bytes).unsure d s ≡ false
        → disks.held d s ≡ (written disks d from bytes).reads d s
    settled_at true u s is was sure = absurd (never (sym sure ∙ rw (same_number d, is) refl))
    settled_at false true s is was sure = absurd (never (sym sure ∙ rw (same_number d, is, was) refl))
    settled_at false false s is was sure = rw (same_number d, is) (kept.settled s was)

    nothing : (s : ℕ) → is_among from (0 / 512) s ≡ false
    nothing s = grind (arith, nat_tests)

    dirty_at : (b : Bool) → nat_lt 0 (length bytes) ≡ b → Tells new.dirty ((written disks d from bytes).unsure d)
    dirty_at true is =
        let some : 0 < length bytes / 512 = grind (arith, nat_tests, is, whole) in
        let first : is_among from (length bytes / 512) from ≡ true = grind (arith, nat_tests, some) in
        let is_dirty : new.dirty ≡ true = rw is at dirty in
        subst (λ (b : Bool). Tells b ((written disks d from bytes).unsure d)) (sym is_dirty) (from, rw (same_number d, first) refl)
    dirty_at false is =
        let long : length bytes ≡ 0 = grind (arith, nat_tests, is) in
        let as_was : new.dirty ≡ old.dirty = rw is at dirty in
        subst (λ (b : Bool). Tells b ((written disks d from bytes).unsure d)) (sym as_was)
        (tells_alike old.dirty (disks.unsure d) ((written disks d from bytes).unsure d) (λ s. let out : is_among from (length bytes / 512) s ≡ false = rw long (nothing s) in rw (same_number d, out) refl) kept.dirty)

-- The disks once one of them took a step.
pub kept_set : (old new : Disks) (memory : List MemDisk) (d : ℕ) (disk : MemDisk) (n m : ℕ) → n ≤ m → AreKept old memory n → new.sizes ≡ old.sizes
    → ((e : ℕ) → (e == d) ≡ false → Elsewhere old new e) → IsKeptAs new d disk m → AreKept new (set memory d disk) m
kept_set old new memory d disk n m le kept sizes elsewhere here = record {
  many = length-set memory d disk ∙ kept.many ∙ sym (ap (λ (l : List ℕ). length l) sizes);
  each = λ e x is. each_at (e == d) e x refl is;
}
  where
    each_at : (b : Bool) (e : ℕ) (x : MemDisk) → (e == d) ≡ b → slice_get (set memory d disk) e ≡ Some x → IsKeptAs new e x m
    each_at true e x same is =
        let e_is : e ≡ d = grind (arith, nat_tests, same) in
        let x_is = get_set_here memory d disk x (rw e_is at is) in
        subst (λ (f : ℕ). IsKeptAs new f x m) (sym e_is) (subst (λ (y : MemDisk). IsKeptAs new d y m) x_is here)
    each_at false e x apart is = kept_elsewhere old new e x n m le (elsewhere e apart) (kept.each e x (sym (get_set_other memory d e disk (λ same. grind (arith, nat_tests, apart, same))) ∙ is))

pub unchanged : (disks : Disks) (e : ℕ) → Elsewhere disks disks e
unchanged disks e = record { sizes = refl; reads = λ s. refl; held = λ s. refl; unsure = λ s. refl }

-- Room was taken for sectors, which are as they were.
pub roomy_here : (disks : Disks) (d : ℕ) (old new : MemDisk) (n : ℕ) → IsKeptAs disks d old n → new.size ≡ old.size → new.synced ≡ old.synced → new.dirty ≡ old.dirty
    → ((s : ℕ) → cell_at new.cells s ≡ cell_at old.cells s) → IsKeptAs disks d new n
roomy_here disks d old new n kept size synced dirty cells = record {
  size = kept.size ∙ sym size;
  small = rw size kept.small;
  reads = λ s within. rw (cells s) (kept.reads s (subst (λ (m : ℕ). s < m) size within));
  held = λ s within unsure. rw (cells s) (kept.held s (subst (λ (m : ℕ). s < m) size within) unsure);
  unsure = λ s. rw (cells s, synced) (kept.unsure s);
  before = λ s. rw (cells s) (kept.before s);
  over = rw synced kept.over;
  settled = kept.settled;
  dirty = subst (λ (b : Bool). Tells b (disks.unsure d)) (sym dirty) kept.dirty;
}

-- No sector of the disk is unsure, and each reads as its cell does.
pub cleared_here : (disks : Disks) (d : ℕ) (disk : MemDisk) (n : ℕ) → slice_index disks.sizes d ≡ disk.size → disk.size < 2 ^ 64
    → ((s : ℕ) → s < disk.size → disks.reads d s ≡ (cell_at disk.cells s).now)
    → ((s : ℕ) → disks.held d s ≡ disks.reads d s)
    → ((s : ℕ) → disks.unsure d s ≡ false)
    → ((s : ℕ) → (cell_at disk.cells s).since ≤ n)
    → disk.synced ≡ n → disk.dirty ≡ false → IsKeptAs disks d disk n
cleared_here disks d disk n size small reads held sure before synced dirty = record {
  size = size;
  small = small;
  reads = reads;
  held = λ s within unsure. absurd (never (sym (sure s) ∙ unsure));
  unsure = λ s. sure s ∙ sym (none s);
  before = before;
  over = omega arith;
  settled = λ s is. held s;
  dirty = subst (λ (b : Bool). Tells b (disks.unsure d)) (sym dirty) sure;
}
  where
    none : (s : ℕ) → nat_lt disk.synced (cell_at disk.cells s).since ≡ false
    none s = let le = before s in grind (arith, nat_tests, le, synced)

pub some_unsure : (disks : Disks) (d : ℕ) (disk : MemDisk) (n : ℕ) → IsKeptAs disks d disk n → disk.dirty ≡ true → (s : ℕ) × (disks.unsure d s ≡ true)
some_unsure disks d disk n kept is = subst (λ (b : Bool). Tells b (disks.unsure d)) is kept.dirty

pub none_unsure : (disks : Disks) (d : ℕ) (disk : MemDisk) (n : ℕ) → IsKeptAs disks d disk n → disk.dirty ≡ false → (s : ℕ) → disks.unsure d s ≡ false
none_unsure disks d disk n kept is = subst (λ (b : Bool). Tells b (disks.unsure d)) is kept.dirty

-- A sync of a disk without unsure sectors changes nothing.
pub synced_same : (disks : Disks) (d : ℕ) (disk : MemDisk) (n : ℕ) → IsKeptAs disks d disk n → ((s : ℕ) → disks.unsure d s ≡ false) → synced disks d ≡ disks
synced_same disks d disk n kept none =
    let held : (synced disks d).held ≡ disks.held = fun_ext (λ e. fun_ext (λ s. held_at (e == d) e s refl)) in
    let unsure : (synced disks d).unsure ≡ disks.unsure = fun_ext (λ e. fun_ext (λ s. unsure_at (e == d) e s refl)) in
    ap (λ (h : Image). with_parts h (synced disks d).unsure) held ∙ ap (λ (u : ℕ → ℕ → Bool). with_parts disks.held u) unsure
  where
    with_parts : Image → (ℕ → ℕ → Bool) → Disks
    with_parts held unsure = record { sizes = disks.sizes; reads = disks.reads; held = held; unsure = unsure }

    held_at : (b : Bool) (e s : ℕ) → (e == d) ≡ b → (synced disks d).held e s ≡ disks.held e s
    held_at true e s is = let same : e ≡ d = grind (arith, nat_tests, is) in rw (is, same) (sym (kept.settled s (none s)))
    held_at false e s is = rw is refl

    unsure_at : (b : Bool) (e s : ℕ) → (e == d) ≡ b → (synced disks d).unsure e s ≡ disks.unsure e s
    unsure_at true e s is = let same : e ≡ d = grind (arith, nat_tests, is) in rw (is, same) (sym (none s))
    unsure_at false e s is = rw is refl

pub set_same : (memory : List MemDisk) (d : ℕ) (disk : MemDisk) → slice_get memory d ≡ Some disk → set memory d disk ≡ memory
set_same [] d disk is = refl
set_same (x ∷ memory) zero disk is = let same : x ≡ disk = cc in ap (λ (y : MemDisk). y ∷ memory) (sym same)
set_same (x ∷ memory) (suc d) disk is = ap (λ (rest : List MemDisk). x ∷ rest) (set_same memory d disk is)

pub kept_synced_same : (before : Disks) (memory : List MemDisk) (d : ℕ) (disk : MemDisk) (n : ℕ) → slice_get memory d ≡ Some disk → disk.dirty ≡ false
    → AreKept before memory n → AreKept (synced before d) (set memory d disk) n
kept_synced_same before memory d disk n got clean kept =
    let here = kept.each d disk got in
    rw (set_same memory d disk got)
    (subst (λ (after : Disks). AreKept after memory n) (sym (synced_same before d disk n here (none_unsure before d disk n here clean))) kept)

pub kept_synced : (before : Disks) (memory : List MemDisk) (d : ℕ) (old new : MemDisk) (n m : ℕ) → slice_get memory d ≡ Some old
    → new ≡ record { size = old.size; cells = old.cells; synced = m; dirty = false } → m ≡ n + 1
    → AreKept before memory n → AreKept (synced before d) (set memory d new) m
kept_synced before memory d old new n m got is long kept =
    rw (is, long) (kept_set before (synced before d) memory d (record { size = old.size; cells = old.cells; synced = n + 1; dirty = false }) n (n + 1) (omega arith) kept refl
    (λ e apart. synced_elsewhere before d e apart) (synced_here before d old n (kept.each d old got)))
