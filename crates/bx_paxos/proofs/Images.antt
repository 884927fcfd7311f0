-- What images of three replicas' disks hold: before a put, at any moment of it, after its answer, and after a crash.
use Rattle.std.proofs.Common.{◌≡◌, ◌≢◌, ℕ, zero, suc, ◌<◌, ◌≤◌, ◌⊎◌, ◌==◌, Bool, true, false, ltb, List, length, Option, Some, None, if◌then◌else◌, refl, sym, ap, subst, ◌∙◌, inl, inr, arith}
use Rattle.std.proofs.lemmas.Bool.{lt-ltb, ltb-true}
use Rattle.std.proofs.lemmas.Bool.Decides.{eqb_tells}
use Rattle.bx_answers.specs.Handling.{Handles}
use Rattle.bx_acceptor.specs.Standing.{CatchesUp, HasContent}
use Rattle.bx_acceptor.specs.declared.origin.Origin.{Origin}
use Rattle.bx_acceptor.proofs.Taking.{is_as_found, one_found, put_content}
use Rattle.bx_agreement.specs.Cells.{placed}
use Rattle.bx_agreement.specs.History.{HasPromised, HasVoted, History, Promised, Vote}
use Rattle.bx_agreement.specs.Passing.{MayCome, answered}
use Rattle.bx_agreement.specs.Sound.{IsCell, IsSound, Puts, Remembers}
use Rattle.bx_agreement.proofs.Cells.{put}
use Rattle.bx_agreement.proofs.Images.{placed_at}
use Rattle.bx_agreement.proofs.Replicas.{handles, handles_cell}
use Rattle.bx_calls.specs.Calls.{HasSure, KeepsAll, KeepsSure}
use Rattle.bx_cell.specs.Cells.{HasEither, next}
use Rattle.bx_cell.specs.Halves.{Found, cell_in}
use Rattle.bx_cell.specs.Images.{EachSure, HasAllSure}
use Rattle.bx_cell.proofs.Words.{cell_sectors}
use Rattle.bx_disk.specs.Disks.{Disks, Image}
use Rattle.bx_facts.specs.Chains.{IsPlace}
use Rattle.bx_facts.specs.Disks.{Crashes, SameReplicas}
use Rattle.bx_global.specs.Bytes.{IsHeld, held_text}
use Rattle.bx_global.specs.declared.held.Held.{Held}
use Rattle.bx_global.specs.declared.state.GlobalState.{GlobalState}
use Rattle.bx_packets.specs.declared.message.Message.{Message}
use Rattle.bx_rounds.specs.Agreement.{HistoryGoesOn}
use Rattle.bx_paxos.specs.Counted.{AreCounted, IsCounted, IsHeldSound}

-- ---- one replica

-- a replica holds one thing by its disk
pub counts_one : (first : GlobalState) (origin : Origin) (sectors : ℕ → List ℕ) (h k : Held) → IsCounted first origin sectors h → IsCounted first origin sectors k → h ≡ k
counts_one first origin sectors h k a b =
    let one = one_found (length first.devices) sectors a.found b.found a.raw b.raw a.is b.is in
    let also : CatchesUp origin first a.found.number a.raw k = subst (λ (f : Found). CatchesUp origin first f.number a.raw k) (sym one.0) (subst (λ (r : Held). CatchesUp origin first b.found.number r k) (sym one.1) b.catches) in
    elim (is_as_found origin a.found.number) [
      | inl as_found ↦ a.catches.as_found as_found ∙ sym (also.as_found as_found)
      | inr put ↦ a.catches.as_put put ∙ sym (also.as_put put)
    ]

-- by the sectors behind the label alone
pub counts_alike : (first : GlobalState) (origin : Origin) (sectors other : ℕ → List ℕ) (held : Held) → ((s : ℕ) → 1 ≤ s → other s ≡ sectors s) → IsCounted first origin sectors held → IsCounted first origin other held
counts_alike first origin sectors other held same is = record {
  found = is.found;
  raw = is.raw;
  part = is.part;
  is = record { in_cell = cell_sectors sectors other 1 (λ s low high. same s low) ∙ is.is.in_cell; spells = is.is.spells };
  catches = is.catches;
}

-- an image with what a cell knows, which has what is held
pub counted_of : (first : GlobalState) (origin : Origin) (sectors : ℕ → List ℕ) (found : Found) (held : Held) → HasContent origin first held found → cell_in sectors 1 ≡ Some found → IsCounted first origin sectors held
counted_of first origin sectors found held has is = record {
  found = found;
  raw = has.raw;
  part = has.part;
  is = record { in_cell = is; spells = has.spells };
  catches = has.catches;
}

-- ---- three

module _ (first : GlobalState) (origins : ℕ → Origin) where
  pub the_cell : (image : Image) (n : ℕ) (held : Held) (cells : ℕ → Option Held) → n < 3 → AreCounted first origins image cells → IsCounted first (origins n) (image n) held → cells n ≡ Some held
  the_cell image n held cells three are is = by (cells n) refl
    where
      by : (c : Option Held) → cells n ≡ c → cells n ≡ Some held
      by None e = absurd (are.none n held three e is)
      by (Some other) e = e ∙ ap (λ (x : Held). Some x) (counts_one first (origins n) (image n) other held (are.some n other e).1 is)

  -- an image with one disk put back
  abbrev back : Disks → ℕ → Image → Image
  back old n image d s = if d == n then old.reads d s else image d s

  back_other : (old : Disks) (n : ℕ) (image : Image) (d s : ℕ) → d ≢ n → image d s ≡ back old n image d s
  back_other old n image d s differ = elim (eqb_tells d n) [ inl same ↦ absurd (differ same.1) | inr apart ↦ rw (apart.0, back) refl ]

  was_image : (old new : Disks) (n : ℕ) (image : Image) → KeepsSure old new n 1 20 → HasAllSure new image → HasAllSure old (back old n image)
  was_image old new n image keeps is = record {
    sure = λ d s sure. elim (eqb_tells d n) [
      | inl same ↦ rw (same.0, back) refl
      | inr apart ↦ sym (back_other old n image d s apart.1) ∙ is.sure d s (keeps.sure.elsewhere d s apart.1 sure) ∙ keeps.reads.elsewhere d s apart.1
    ];
  }

  was_then : (old : Disks) (n : ℕ) (image : Image) → HasSure old n 1 20 image → HasAllSure old (back old n image)
  was_then old n image has = record {
    sure = λ d s sure. elim (eqb_tells d n) [
      | inl same ↦ rw (same.0, back) refl
      | inr apart ↦ sym (back_other old n image d s apart.1) ∙ has.outside.elsewhere d s apart.1 sure
    ];
  }

  -- with another thing held by one replica
  put_here : (old : Disks) (n : ℕ) (image : Image) (cells : ℕ → Option Held) (now : Held) → n < 3 → AreCounted first origins (back old n image) cells → IsCounted first (origins n) (image n) now → AreCounted first origins image (placed n now cells)
  put_here old n image cells now three are is = record {
    some = λ m held e. elim (eqb_tells m n) [
      | inl same ↦
          let one : Some now ≡ Some held = sym (subst (λ (k : ℕ). placed n now cells k ≡ Some now) (sym same.1) puts.at) ∙ e in
          let held_is : now ≡ held = cc in
          subst (λ (k : ℕ). (k < 3) × IsCounted first (origins k) (image k) held) (sym same.1) (subst (λ (x : Held). (n < 3) × IsCounted first (origins n) (image n) x) held_is (three, is))
      | inr apart ↦
          let k = are.some m held (sym (puts.others m apart.1) ∙ e) in
          (k.0, counts_alike first (origins m) (back old n image m) (image m) held (λ s low. back_other old n image m s apart.1) k.1)
    ];
    none = λ m held low e counted. elim (eqb_tells m n) [
      | inl same ↦ let bad : Some now ≡ None = sym (subst (λ (k : ℕ). placed n now cells k ≡ Some now) (sym same.1) puts.at) ∙ e in absurd cc
      | inr apart ↦ are.none m held low (sym (puts.others m apart.1) ∙ e)
          (counts_alike first (origins m) (image m) (back old n image m) held (λ s low. sym (back_other old n image m s apart.1)) counted)
    ];
  }
    where
      puts : Puts n now cells (placed n now cells)
      puts = placed_at n now cells

  -- A replica took a message, and has answered.
  pub at_replica : (h : History) (old new : Disks) (n : ℕ) (held now : Held) (message : Message) (answer : Option Message) → n < 3 → KeepsSure old new n 1 20 → EachSure old (IsHeldSound first origins h)
      → ((image : Image) → HasAllSure old image → IsCounted first (origins n) (image n) held) → ((image : Image) → HasAllSure new image → IsCounted first (origins n) (image n) now)
      → MayCome h message → Handles held message now answer → EachSure new (IsHeldSound first origins (answered n answer h))
  at_replica h old new n held now message answer three keeps before had has may does = record {
    each = λ image is_image.
        let past = was_image old new n image keeps is_image in
        let was = before.each (back old n image) past in
        let at = the_cell (back old n image) n held was.cells three was.are (had (back old n image) past) in
        let puts = placed_at n now was.cells in
        record {
          cells = placed n now was.cells;
          are = put_here old n image was.cells now three was.are (has image is_image);
          sound = handles h was.cells (placed n now was.cells) n held now message answer was.sound three at puts may does;
        };
  }

  -- At any moment of it, and after a fault, what is held is sound by what was sent before.
  pub at_moment : (h : History) (old : Disks) (n : ℕ) (held now : Held) (message : Message) (image : Image) → n < 3 → EachSure old (IsHeldSound first origins h) → HasSure old n 1 20 image
      → ((image : Image) → HasAllSure old image → IsCounted first (origins n) (image n) held) → IsCounted first (origins n) (image n) held ⊎ IsCounted first (origins n) (image n) now
      → MayCome h message → (now ≡ held) ⊎ ((answer : Option Message) × Handles held message now answer) → IsHeldSound first origins h image
  at_moment h old n held now message image three before sure had either may does =
      elim either [
        | inl stays ↦ with_this held (was.sound.cell n held at) stays
        | inr new ↦ with_this now (becomes does) new
      ]
    where
      past : HasAllSure old (back old n image)
      past = was_then old n image sure

      was : IsHeldSound first origins h (back old n image)
      was = before.each (back old n image) past

      at : was.cells n ≡ Some held
      at = the_cell (back old n image) n held was.cells three was.are (had (back old n image) past)

      becomes : (now ≡ held) ⊎ ((answer : Option Message) × Handles held message now answer) → IsCell h n now
      becomes (inl same) = subst (λ (x : Held). IsCell h n x) (sym same) (was.sound.cell n held at)
      becomes (inr k) = handles_cell h n held now message k.0 (was.sound.cell n held at) may k.1

      with_this : (x : Held) → IsCell h n x → IsCounted first (origins n) (image n) x → IsHeldSound first origins h image
      with_this x is counted = record {
        cells = placed n x was.cells;
        are = put_here old n image was.cells x three was.are counted;
        sound = put h was.cells (placed n x was.cells) n x was.sound (placed_at n x was.cells) is;
      }

  -- An image that has what the cell had, or what was put, by what is known of the cell.
  pub counted_either : (old : Disks) (n : ℕ) (found : Found) (held now : Held) (image : Image) → HasContent (origins n) first held found → IsHeld (length first.devices) now → HasEither old n 1 found (next found (held_text now)) image
      → IsCounted first (origins n) (image n) held ⊎ IsCounted first (origins n) (image n) now
  counted_either old n found held now image has is either =
      elim either.cell [
        | inl stays ↦ inl (counted_of first (origins n) (image n) found held has stays)
        | inr new ↦ inr (counted_of first (origins n) (image n) (next found (held_text now)) now (put_content (origins n) first held now found is has) new)
      ]

  -- Whatever has all that is sure then had all that was sure before: a sync, a crash, and what others do.
  pub fewer : (h : History) (old new : Disks) → ((image : Image) → HasAllSure new image → HasAllSure old image) → EachSure old (IsHeldSound first origins h) → EachSure new (IsHeldSound first origins h)
  fewer h old new implies each = record { each = λ image has. each.each image (implies image has) }

  pub synced_has : (old new : Disks) (disk : ℕ) → KeepsAll old new disk → (image : Image) → HasAllSure new image → HasAllSure old image
  synced_has old new disk keeps image has = record { sure = λ d s sure. has.sure d s (keeps.sure d s sure) ∙ ap (λ (r : Image). r d s) keeps.reads }

  pub crash_has : (old new : Disks) (n : ℕ) → Crashes n old new → (image : Image) → HasAllSure new image → HasAllSure old image
  crash_has old new n crash image has = record {
    sure = λ d s sure. elim (eqb_tells d n) [
      | inl same ↦
          let here : old.unsure n s ≡ false = subst (λ (k : ℕ). old.unsure k s ≡ false) same.1 sure in
          subst (λ (k : ℕ). image k s ≡ old.reads k s) (sym same.1) (has.sure n s (crash.synced s) ∙ crash.sure s here)
      | inr apart ↦ let stays = crash.others d s apart.1 in has.sure d s (stays.unsure ∙ sure) ∙ stays.reads
    ];
  }

  -- The sectors of replicas' disks behind their labels alone matter.
  abbrev mixed : Disks → Image → Image
  mixed old image d zero = old.reads d zero
  mixed old image d (suc s) = if ltb d 3 then image d (suc s) else old.reads d (suc s)

  mixed_at : (old : Disks) (image : Image) (n s : ℕ) → n < 3 → 1 ≤ s → mixed old image n s ≡ image n s
  mixed_at old image n zero three low = absurd (omega (arith, low))
  mixed_at old image n (suc s) three low = let t : ltb n 3 ≡ true = lt-ltb n 3 three in rw t refl

  mixed_has : (x y : Disks) (image : Image) → SameReplicas x y → HasAllSure y image → HasAllSure x (mixed x image)
  mixed_has x y image same has = record { sure = by }
    where
      at : (d s : ℕ) (b : Bool) → ltb d 3 ≡ b → x.unsure d (suc s) ≡ false → (if b then image d (suc s) else x.reads d (suc s)) ≡ x.reads d (suc s)
      at d s true low sure = let k = same.each d (suc s) (ltb-true d 3 low) (omega arith) in has.sure d (suc s) (k.sure sure) ∙ k.reads
      at d s false high sure = refl

      by : (d s : ℕ) → x.unsure d s ≡ false → mixed x image d s ≡ x.reads d s
      by d zero sure = refl
      by d (suc s) sure = at d s (ltb d 3) refl sure

  -- other disks, and labels, don't matter
  pub elsewhere : (h : History) (x y : Disks) → SameReplicas x y → EachSure x (IsHeldSound first origins h) → EachSure y (IsHeldSound first origins h)
  elsewhere h x y same each = record {
    each = λ image has.
        let was = each.each (mixed x image) (mixed_has x y image same has) in
        record {
          cells = was.cells;
          are = record {
            some = λ n held e. let k = was.are.some n held e in (k.0, counts_alike first (origins n) (mixed x image n) (image n) held (λ s low. sym (mixed_at x image n s k.0 low)) k.1);
            none = λ n held three e counted. was.are.none n held three e (counts_alike first (origins n) (image n) (mixed x image n) held (λ s low. mixed_at x image n s three low) counted);
          };
          sound = was.sound;
        };
  }

-- ---- a longer history

-- What is sound stays so once an accept was sent, or a change came into the chain, where that is sound of any cells.
pub sound_with : (h new : History) (cells those : ℕ → Option Held) → HistoryGoesOn h new → ((s : GlobalState) → IsPlace h.chain s → IsPlace new.chain s) → IsSound h cells → IsSound new those → IsSound new cells
sound_with h new cells those on places sound also = record {
  cell = λ n held e. let is = sound.cell n held e in record {
    index = is.index;
    place = places held.decided is.place;
    accepted = λ flag. let a = is.accepted flag in record { proposed = on.proposals held.ballot held.accepted a.proposed; index = a.index; promise = a.promise };
    votes = λ b s voted proposed.
        let then_voted = subst (λ (vs : List Vote). HasVoted vs n b) on.votes voted in
        let was = sound.voted n b then_voted in
        subst (λ (x : GlobalState). Remembers held b x) (also.single b was.0 s (on.proposals b was.0 was.1) proposed) (is.votes b was.0 then_voted was.1);
    promises = λ p has replica. is.promises p (subst (λ (ms : List Promised). HasPromised ms p) on.promises has) replica;
  };
  silent = λ n b voted. sound.silent n b (subst (λ (vs : List Vote). HasVoted vs n b) on.votes voted);
  voted = also.voted;
  promises = also.promises;
  single = also.single;
  backed = also.backed;
  next = also.next;
  safe = also.safe;
  changes = also.changes;
  legal = also.legal;
  chosen = also.chosen;
}
