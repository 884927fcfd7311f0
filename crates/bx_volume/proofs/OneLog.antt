-- What the devices hold is one log in each slot.
use Rattle.std.proofs.Common.{◌≡◌, ℕ, suc, ◌+◌, ◌*◌, ◌<◌, ◌≤◌, ◌⊎◌, ⊎_elim, arith, Bool, true, false, List, [], ◌∷◌, ◌++◌, length, map, take, drop, sym, ap, ◌∙◌, subst, refl}
use Rattle.std.specs.List.{flat_map, AllByRecursion}
use Rattle.std.proofs.lemmas.List.{length-map, take_at, drop_at}
use Rattle.bx_disk.specs.Disks.{Image, sector_of}
use Rattle.bx_base.specs.Writing.{padded}
use Rattle.bx_base.proofs.Whole.{padded_again}
use Rattle.bx_rows.specs.declared.session.SessionRow.{SessionRow}
use Rattle.bx_rows.specs.Words.{is_taken}
use Rattle.bx_truth.specs.bx_records.specs.declared.record_head.RecordHead.{RecordHead}
use Rattle.bx_layout.specs.Blocks.{HasParts, block_text}
use Rattle.bx_truth.specs.bx_records.specs.Drafts.{Changed}
use Rattle.bx_layout.specs.Labels.{IsOpenGate}
use Rattle.bx_places.specs.Places.{IsBlock, body_place}
use Rattle.bx_truth.specs.bx_records.specs.Records.{IsHead, head_text}
use Rattle.bx_truth.specs.bx_records.proofs.HeadFields.{head_field}
use Rattle.bx_truth.specs.bx_records.proofs.Sectors.{head_same}
use Rattle.bx_volume.specs.Records.{Logged, IsInBody, StandOpen, IsLog, HasLog, LogWhere, gate_of, logged_text}
use Rattle.bx_volume.proofs.Sizes.{block_bytes, head_long, first_fits, whole_sectors}
use Rattle.bx_volume.proofs.OneTruth.{one_text, one_block}

-- ---- one record in a body

first_sector : (front back : List ℕ) → length front ≡ 512 → sector_of (front ++ back) 0 ≡ front
unfolding sector_of
first_sector front back long = take_at front back 512 long

one_head : (a b : RecordHead) → IsHead a → IsHead b → padded 512 (head_text a) ≡ padded 512 (head_text b) → a ≡ b
one_head a b is_a is_b same =
    (head_same (padded 512 (head_text b)) _ a b (padded_again head_field 512 (padded 512 (head_text b)) a (sym same) is_a) record { is = is_b; parts = refl }).0

one_changed : (areas : ℕ) (a b : List Changed) → AllByRecursion (λ change. IsBlock areas change.0 × HasParts change.1) a → AllByRecursion (λ change. IsBlock areas change.0 × HasParts change.1) b
    → map (λ change. change.0) a ≡ map (λ change. change.0) b
    → flat_map (λ (change : Changed). block_text change.1) a ≡ flat_map (λ (change : Changed). block_text change.1) b → a ≡ b
one_changed areas [] [] is_a is_b numbers same = refl
one_changed areas [] (y ∷ b) is_a is_b numbers same = absurd cc
one_changed areas (x ∷ a) [] is_a is_b numbers same = absurd cc
one_changed areas (x ∷ a) (y ∷ b) is_a is_b numbers same =
    let front : (z : Changed) (c : List Changed) → HasParts z.1 → take 4608 (flat_map (λ (change : Changed). block_text change.1) (z ∷ c)) ≡ block_text z.1 =
    λ z c is. take_at (block_text z.1) (flat_map (λ (change : Changed). block_text change.1) c) 4608 (block_bytes z.1 is) in
    let back : (z : Changed) (c : List Changed) → HasParts z.1 → drop 4608 (flat_map (λ (change : Changed). block_text change.1) (z ∷ c)) ≡ flat_map (λ (change : Changed). block_text change.1) c =
    λ z c is. drop_at (block_text z.1) (flat_map (λ (change : Changed). block_text change.1) c) 4608 (block_bytes z.1 is) in
    let number : x.0 ≡ y.0 = cc in
    let others : map (λ change. change.0) a ≡ map (λ change. change.0) b = cc in
    let block = one_block x.1 y.1 is_a.0.1 is_b.0.1 (sym (front x a is_a.0.1) ∙ ap (take 4608) same ∙ front y b is_b.0.1) in
    let rest = one_changed areas a b is_a.1 is_b.1 others (sym (back x a is_a.0.1) ∙ ap (drop 4608) same ∙ back y b is_b.0.1) in
    λ i. (number i, block i) ∷ rest i

module _ (held : Image) (devices areas slot : ℕ) where
  pub one_logged : (body : ℕ) (a b : Logged) → IsInBody held devices areas slot body a → IsInBody held devices areas slot body b → a ≡ b
  one_logged body a b in_a in_b = λ i. record { head = heads i; changed = changes i }
    where
      at : (x : Logged) → IsInBody held devices areas slot body x → held (body_place slot body devices).0 ((body_place slot body devices).1 + 0) ≡ padded 512 (head_text x.head)
      at x is = is.reads.each 0 (first_fits areas x is.is) ∙ first_sector (padded 512 (head_text x.head)) (flat_map (λ (change : Changed). block_text change.1) x.changed) (head_long areas x is.is)

      heads : a.head ≡ b.head
      heads = one_head a.head b.head in_a.is.is_head in_b.is.is_head (sym (at a in_a) ∙ at b in_b)

      numbers : map (λ change. change.0) a.changed ≡ map (λ change. change.0) b.changed
      numbers = sym in_a.is.numbers ∙ ap (λ (h : RecordHead). h.blocks) heads ∙ in_b.is.numbers

      counts : length a.changed ≡ length b.changed
      counts = sym (length-map a.changed (λ (change : Changed). change.0)) ∙ ap length numbers ∙ length-map b.changed (λ (change : Changed). change.0)

      texts : logged_text a ≡ logged_text b
      texts = one_text held (body_place slot body devices).0 (body_place slot body devices).1 (1 + 9 * length a.changed) (logged_text a) (logged_text b)
          (whole_sectors areas a in_a.is) (whole_sectors areas b in_b.is ∙ ap (λ (k : ℕ). 512 * (1 + 9 * k)) (sym counts)) in_a.reads in_b.reads

      changes : a.changed ≡ b.changed
      changes = one_changed areas a.changed b.changed in_a.is.blocks in_b.is.blocks numbers
          (sym (drop_at (padded 512 (head_text a.head)) (flat_map (λ (change : Changed). block_text change.1) a.changed) 512 (head_long areas a in_a.is)) ∙ ap (drop 512) texts
          ∙ drop_at (padded 512 (head_text b.head)) (flat_map (λ (change : Changed). block_text change.1) b.changed) 512 (head_long areas b in_b.is))

  -- ---- one run

  open_at : (records : List Logged) (k : ℕ) → k < length records → StandOpen held devices areas slot records → IsOpenGate (gate_of held devices slot k)
  open_at [] k less stand = absurd (omega (arith, less))
  open_at (newest ∷ older) k less stand = ⊎_elim
      (λ e. subst (λ (n : ℕ). IsOpenGate (gate_of held devices slot n)) (sym e) stand.0)
      (λ below. open_at older k below stand.2) (last (length older) less)
    where
      last : (n : ℕ) → k < suc n → (k ≡ n) ⊎ (k < n)
      last n less = grind (arith, less)

  same_run : (a b : List Logged) → length a ≡ length b → StandOpen held devices areas slot a → StandOpen held devices areas slot b → a ≡ b
  same_run [] [] len stand_a stand_b = refl
  same_run [] (y ∷ b) len stand_a stand_b = absurd (omega (arith, len))
  same_run (x ∷ a) [] len stand_a stand_b = absurd (omega (arith, len))
  same_run (x ∷ a) (y ∷ b) len stand_a stand_b =
      let lens : length b ≡ length a = omega (arith, len) in
      let first = one_logged (length a) x y stand_a.1 (subst (λ (n : ℕ). IsInBody held devices areas slot n y) lens stand_b.1) in
      let rest = same_run a b (sym lens) stand_a.2 stand_b.2 in
      λ i. first i ∷ rest i

  not_shorter : (a b : List Logged) → IsLog held devices areas slot a → IsLog held devices areas slot b → length b ≤ length a
  not_shorter a b log_a log_b = ⊎_elim (λ less. absurd (log_a.end (omega (arith, less, log_b.most)) (open_at b (length a) less log_b.stand))) (λ le. le) (side (length a) (length b))
    where
      side : (n m : ℕ) → (n < m) ⊎ (m ≤ n)
      side n m = grind arith

  pub one_log : (a b : List Logged) → IsLog held devices areas slot a → IsLog held devices areas slot b → a ≡ b
  one_log a b log_a log_b = same_run a b (omega (arith, not_shorter a b log_a log_b, not_shorter b a log_b log_a)) log_a.stand log_b.stand

pub one_has_log : (rows : List SessionRow) (held : Image) (devices areas slot : ℕ) (a b : List Logged) → HasLog rows held devices areas slot a → HasLog rows held devices areas slot b → a ≡ b
one_has_log rows held devices areas slot a b = by (is_taken rows slot)
  where
    by : (taken : Bool) → LogWhere taken held devices areas slot a → LogWhere taken held devices areas slot b → a ≡ b
    by true log_a log_b = one_log held devices areas slot a b log_a log_b
    by false none_a none_b = none_a ∙ sym none_b
