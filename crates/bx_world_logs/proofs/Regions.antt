-- Where works in log slots write.
use Rattle.std.proofs.Common.{◌≡◌, ◌⊎◌, inl, inr, ℕ, zero, suc, ◌+◌, ◌*◌, ◌/◌, ◌<◌, ◌≤◌, Bool, true, false, ◌||◌, List, length, refl, sym, ap, subst, arith}
use Rattle.bx_disk.specs.Disks.{Image, is_within}
use Rattle.bx_places.specs.Places.{block_place, log_device, log_start}
use Rattle.bx_redo.specs.declared.work.Work.TheVariants as works
use Rattle.bx_redo.proofs.Within.{behind_it, within_is}
use Rattle.bx_redo.specs.bx_volume.specs.Overlay.{Logs}
use Rattle.bx_redo.specs.bx_volume.proofs.Apart.{home_and_log}
use Rattle.bx_redo.specs.bx_volume.proofs.Sizes.{logged_sectors}
use Rattle.bx_world_logs.specs.Logs.{Activity, OfLog, Found, Slot, SlotStands, Finds, idle, writes_in}

-- a sector's number is one of a log slot's
pub record IsIn (slot s : ℕ) : Type 0 where
  pub from : log_start slot ≤ s
  pub to : s < log_start slot + 1168

region : (slot device from count d s : ℕ) → is_within device from count d s ≡ true → log_start slot ≤ from → from + count ≤ log_start slot + 1168 → IsIn slot s
region slot device from count d s is low high = let w = within_is device from count d s is in let b = w.begins in let e = w.ends in record { from = omega (arith, b, low); to = omega (arith, e, high) }

-- nothing is written where nothing is under way
pub idle_writes : (devices slot count d s : ℕ) → writes_in devices slot count idle d s ≡ false
idle_writes devices slot count d s = behind_it (log_device slot devices) 0 0 d s (omega arith)

module _ (Sure : ℕ → ℕ → List ℕ → Type 0) (devices areas : ℕ) (before : Image) (logs : Logs) (slots : ℕ → Slot) where
  -- what is under way in a slot writes in that slot
  within_slot : (slot d s : ℕ) (activity : Activity) → Finds Sure devices areas before logs (slots slot).more slot activity → writes_in devices slot (length (logs slot)) activity d s ≡ true → IsIn slot s
  within_slot slot d s (OfLog works.Idle) finds is = absurd (let e = idle_writes devices slot (length (logs slot)) d s in cc)
  within_slot slot d s (OfLog (works.Body text point)) finds is =
      let few = logged_sectors areas (slots slot).more finds.1.under_way.is in
      let long = ap (λ (t : List ℕ). length t / 512) finds.0 in
      let room = finds.1.under_way.room in
      region slot (log_device slot devices) (log_start slot + 8 + 145 * length (logs slot)) (length text / 512) d s is (omega arith) (omega (arith, few, long, room))
  within_slot slot d s (OfLog (works.Opens point)) finds is =
      let room = finds.1.under_way.room in
      region slot (log_device slot devices) (log_start slot + length (logs slot)) 1 d s is (omega arith) (omega (arith, room))
  within_slot slot d s (OfLog works.Closes) finds is = region slot (log_device slot devices) (log_start slot) 1 d s is (omega arith) (omega arith)
  within_slot slot d s (OfLog works.Shuts) finds is = region slot (log_device slot devices) (log_start slot + 1) 7 d s is (omega arith) (omega arith)
  within_slot slot d s Found finds is = absurd cc

  pub writes_within : (slot d s : ℕ) (taken : Bool) → SlotStands Sure devices areas before taken logs slot (slots slot) → writes_in devices slot (length (logs slot)) (slots slot).activity d s ≡ true → IsIn slot s
  writes_within slot d s true stands is = within_slot slot d s (slots slot).activity stands.finds is
  writes_within slot d s false stands is = absurd (let e = idle_writes devices slot (length (logs slot)) d s in let w = ap (λ (c : Activity). writes_in devices slot (length (logs slot)) c d s) stands.still in cc)

-- what is written by so many slots
abbrev pub written : ℕ → Logs → (ℕ → Slot) → ℕ → ℕ → ℕ → Bool
written devices logs slots zero d s = false
written devices logs slots (suc n) d s = writes_in devices n (length (logs n)) (slots n).activity d s || written devices logs slots n d s

pub or_false : (a b : Bool) → (a || b) ≡ false → (a ≡ false) × (b ≡ false)
or_false true b is = absurd cc
or_false false b is = (refl, is)

module _ (devices : ℕ) (logs : Logs) (slots : ℕ → Slot) where
  -- none of them writes a sector that is in none of them
  pub apart_from : (n d s : ℕ) → ((m d s : ℕ) → m < n → writes_in devices m (length (logs m)) (slots m).activity d s ≡ true → IsIn m s) → ((m : ℕ) → m < n → IsIn m s → ⊥) → written devices logs slots n d s ≡ false
  apart_from zero d s within outside = refl
  apart_from (suc n) d s within outside = by (writes_in devices n (length (logs n)) (slots n).activity d s) refl
      (apart_from n d s (λ m x y less. within m x y (omega (arith, less))) (λ m less. outside m (omega (arith, less))))
    where
      by : (b : Bool) → writes_in devices n (length (logs n)) (slots n).activity d s ≡ b → written devices logs slots n d s ≡ false → (writes_in devices n (length (logs n)) (slots n).activity d s || written devices logs slots n d s) ≡ false
      by true is rest = absurd (outside n (omega arith) (within n d s (omega arith) is))
      by false is rest = rw is rest

  -- where nothing is written, no slot writes
  pub none_writes : (n m d s : ℕ) → m < n → written devices logs slots n d s ≡ false → writes_in devices m (length (logs m)) (slots m).activity d s ≡ false
  none_writes zero m d s less is = absurd (omega (arith, less))
  none_writes (suc n) m d s less is = by (λ lower quiet. none_writes n m d s lower quiet) (order m n less)
    where
      order : (a b : ℕ) → a < suc b → (a ≡ b) ⊎ (a < b)
      order a b lower = grind arith

      both : (writes_in devices n (length (logs n)) (slots n).activity d s ≡ false) × (written devices logs slots n d s ≡ false)
      both = or_false (writes_in devices n (length (logs n)) (slots n).activity d s) (written devices logs slots n d s) is

      by : (m < n → written devices logs slots n d s ≡ false → writes_in devices m (length (logs m)) (slots m).activity d s ≡ false) → (m ≡ n) ⊎ (m < n) → writes_in devices m (length (logs m)) (slots m).activity d s ≡ false
      by rest (inl same) = subst (λ (k : ℕ). writes_in devices k (length (logs k)) (slots k).activity d s ≡ false) (sym same) both.0
      by rest (inr lower) = rest lower both.1

-- a sector of one slot isn't in another, and the homes are in none
pub one_slot : (slot other s : ℕ) → IsIn slot s → IsIn other s → slot ≡ other
one_slot slot other s a b = let x = a.from in let y = a.to in let z = b.from in let w = b.to in omega (arith, x, y, z, w)

pub home_in_none : (at devices slot i : ℕ) → slot < 8 → IsIn slot ((block_place at devices).1 + i) → ⊥
home_in_none at devices slot i less is = let b = home_and_log at devices slot less in let t = is.to in omega (arith, b, t)

pub gate_is_in : (slot gate : ℕ) → gate < 8 → IsIn slot (log_start slot + gate)
gate_is_in slot gate less = record { from = omega arith; to = omega (arith, less) }

pub body_is_in : (slot body i : ℕ) → body < 8 → i < 145 → IsIn slot (log_start slot + 8 + 145 * body + i)
body_is_in slot body i less few = record { from = omega arith; to = omega (arith, less, few) }
