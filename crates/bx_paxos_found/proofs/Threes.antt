-- What is made of what is seen of three replicas.
use Rattle.std.proofs.Common.{◌≡◌, ℕ, zero, suc, ◌+◌, ◌<◌, ◌≤◌, ◌⊎◌, inl, inr, ◌==◌, Bool, true, false, List, [], ◌∷◌, length, Option, Some, None, Result, Ok, Err, refl, sym, ap, subst, ◌∙◌, arith}
use Rattle.std.specs.Prelude.{IfOk, IfSome, find, if◌then◌else◌, slice_get}
use Rattle.std.proofs.lemmas.Bool.Decides.{eqb_tells}
use Rattle.bx_acceptor.specs.Standing.{IsFound}
use Rattle.bx_acceptor.specs.declared.origin.Origin.{Origin}
use Rattle.bx_acceptor.specs.declared.origin.Origin.TheVariants.{Made}
use Rattle.bx_agreement.specs.Sound.{HasTwo}
use Rattle.bx_calls.specs.Regions.{IsSynced}
use Rattle.bx_cell.specs.Images.{EachSure}
use Rattle.bx_disk.specs.Disks.{Disks, Image}
use Rattle.bx_facts.specs.Chains.{IsAboveBoots}
use Rattle.bx_facts.specs.Disks.{SameDisks}
use Rattle.bx_facts.specs.Labelled.{IsFirstLabel, IsWhole}
use Rattle.bx_global.specs.Allowed.{IsAllowed}
use Rattle.bx_global.specs.Bytes.{IsHeld}
use Rattle.bx_global.specs.declared.held.Held.{Held}
use Rattle.bx_global.specs.declared.state.GlobalState.{GlobalState}
use Rattle.bx_layout.specs.declared.label.Label.{Label}
use Rattle.bx_paxos.proofs.Founds.{reads_so}
use Rattle.bx_paxos.proofs.Shown.{as_long, first_alike, found_alike, label_alike, unread_alike}
use Rattle.bx_paxos.specs.Reading.{AreMade, AreSeen, ReadsFirst, ReadsState, Tells}
use Rattle.bx_paxos.specs.Shown.{HasFound, IsAsItWas, StandsAsFound}
use Rattle.bx_rows.specs.declared.device.DeviceRow.{DeviceRow}
use Rattle.bx_rows.specs.declared.session.SessionRow.{SessionRow}
use Rattle.bx_paxos_found.specs.declared.looking.Seen.{Seen}
use Rattle.bx_paxos_found.specs.declared.making.FoundState.{FoundState}
use Rattle.bx_paxos_found.specs.declared.origins.Origins.{Origins}
use Rattle.bx_paxos_found.specs.Boots.{boot_of_devices, boot_of_held, boot_of_sessions, boot_of_state}
use Rattle.bx_paxos_found.specs.Choosing.{three}
use Rattle.bx_paxos_found.specs.Finding.{IsMadeOf, IsSeen, boot_of, count_of, held_of, origin_of}
use Rattle.bx_paxos_found.specs.Origins.{origin_in}
use Rattle.bx_paxos_found.proofs.Chosen.{chosen_reads}

-- ---- boots

row_boot : (rows : List SessionRow) (test : SessionRow → Bool) (b : ℕ) → boot_of_sessions rows ≤ b → IfSome (find test rows) (λ row. row.boot < b + 1)
row_boot [] test b most = tt
row_boot (row ∷ rows) test b most = by (test row) (row_boot rows test b (omega (arith, most)))
  where
    by : (t : Bool) → IfSome (find test rows) (λ r. r.boot < b + 1) → IfSome (if t then Some row else find test rows) (λ r. r.boot < b + 1)
    by true more = omega (arith, most)
    by false more = more

device_boot : (rows : List DeviceRow) (b device : ℕ) → boot_of_devices rows ≤ b → IfSome (slice_get rows device) (λ row. (row.boot_a < b + 1) × (row.boot_b < b + 1))
device_boot [] b device most = tt
device_boot (row ∷ rows) b zero most = (omega (arith, most), omega (arith, most))
device_boot (row ∷ rows) b (suc device) most = device_boot rows b device (omega (arith, most))

above_boots : (s : GlobalState) (b : ℕ) → boot_of_state s ≤ b → IsAboveBoots s (b + 1)
above_boots s b most = record {
  master = omega (arith, most);
  sessions = λ session. row_boot s.sessions (λ row. row.number == session) b (omega (arith, most));
  devices = λ device. device_boot s.devices b device (omega (arith, most));
}

-- ---- three

none_seen : (h : Held) → None ≡ Some h → ⊥
none_seen h e = absurd cc

pub three_each : {A : Type 0} (P : ℕ → Option A → Type 0) (a b c : Option A) → P 0 a → P 1 b → P 2 c → (n : ℕ) → n < 3 → P n (three a b c n)
three_each P a b c one two last n low = by (eqb_tells n 0) (eqb_tells n 1) (eqb_tells n 2)
  where
    by : (((n == 0) ≡ true) × (n ≡ 0)) ⊎ (((n == 0) ≡ false) × (n ≡ 0 → ⊥)) → (((n == 1) ≡ true) × (n ≡ 1)) ⊎ (((n == 1) ≡ false) × (n ≡ 1 → ⊥)) → (((n == 2) ≡ true) × (n ≡ 2)) ⊎ (((n == 2) ≡ false) × (n ≡ 2 → ⊥)) → P n (three a b c n)
    by (inl here) other rest = subst (λ (k : ℕ). P k (three a b c k)) (sym here.1) one
    by (inr first) (inl here) rest = subst (λ (k : ℕ). P k (three a b c k)) (sym here.1) two
    by (inr first) (inr second) (inl here) = subst (λ (k : ℕ). P k (three a b c k)) (sym here.1) last
    by (inr first) (inr second) (inr third) = absurd (more n low first.1 second.1 third.1)
      where
        more : (k : ℕ) → k < 3 → (k ≡ 0 → ⊥) → (k ≡ 1 → ⊥) → (k ≡ 2 → ⊥) → ⊥
        more zero less x y z = x refl
        more (suc zero) less x y z = y refl
        more (suc (suc zero)) less x y z = z refl
        more (suc (suc (suc k))) less x y z = omega (arith, less)

-- one that is there is one of the three
pub three_within : (a b c : Option Held) (n : ℕ) (held : Held) → three a b c n ≡ Some held → n < 3
three_within a b c n held e = by (eqb_tells n 0) (eqb_tells n 1) (eqb_tells n 2)
  where
    by : (((n == 0) ≡ true) × (n ≡ 0)) ⊎ (((n == 0) ≡ false) × (n ≡ 0 → ⊥)) → (((n == 1) ≡ true) × (n ≡ 1)) ⊎ (((n == 1) ≡ false) × (n ≡ 1 → ⊥)) → (((n == 2) ≡ true) × (n ≡ 2)) ⊎ (((n == 2) ≡ false) × (n ≡ 2 → ⊥)) → n < 3
    by (inl here) other rest = omega (arith, here.1)
    by (inr first) (inl here) rest = omega (arith, here.1)
    by (inr first) (inr second) (inl here) = omega (arith, here.1)
    by (inr first) (inr second) (inr third) = let k = rw (first.0, second.0, third.0) at e in absurd (none_seen held k)

pub three_held : (a b c : Option Seen) (n : ℕ) → three (held_of a) (held_of b) (held_of c) n ≡ held_of (three a b c n)
three_held a b c n = by (n == 0) (n == 1) (n == 2)
  where
    by : (t u w : Bool) → (if t then held_of a else (if u then held_of b else (if w then held_of c else None))) ≡ held_of (if t then a else (if u then b else (if w then c else None)))
    by true u w = refl
    by false true w = refl
    by false false true = refl
    by false false false = refl

pub three_low : (a b c : Option Seen) (n : ℕ) (held : Held) → held_of (three a b c n) ≡ Some held → n < 3
three_low a b c n held e = by (eqb_tells n 0) (eqb_tells n 1) (eqb_tells n 2)
  where
    by : (((n == 0) ≡ true) × (n ≡ 0)) ⊎ (((n == 0) ≡ false) × (n ≡ 0 → ⊥)) → (((n == 1) ≡ true) × (n ≡ 1)) ⊎ (((n == 1) ≡ false) × (n ≡ 1 → ⊥)) → (((n == 2) ≡ true) × (n ≡ 2)) ⊎ (((n == 2) ≡ false) × (n ≡ 2 → ⊥)) → n < 3
    by (inl here) other rest = omega (arith, here.1)
    by (inr first) (inl here) rest = omega (arith, here.1)
    by (inr first) (inr second) (inl here) = omega (arith, here.1)
    by (inr first) (inr second) (inr third) = let k = rw (first.0, second.0, third.0) at e in absurd (none_seen held k)

pub seen_held : (o : Option Seen) (held : Held) → held_of o ≡ Some held → (x : Seen) × (o ≡ Some x) × (x.held ≡ held)
seen_held None held e = absurd (none_seen held e)
seen_held (Some x) held e = (x, refl, cc)

unseen : (o : Option Seen) → held_of o ≡ None → o ≡ None
unseen None e = refl
unseen (Some x) e = absurd (none_seen x.held (sym e))

-- two of them count
pub record Two (cells : ℕ → Option Held) : Type 0 where
  pub one : ℕ
  pub other : ℕ
  pub one_held : Held
  pub other_held : Held
  pub two : HasTwo cells one other one_held other_held

pub two_of : (a b c : Option Seen) → 2 ≤ count_of a + (count_of b + count_of c) → Two (λ n. held_of (three a b c n))
two_of (Some x) (Some y) c least = record { one = 0; other = 1; one_held = x.held; other_held = y.held; two = record { two = record { one = omega arith; other = omega arith; differ = λ e. omega (arith, e) }; is_one = refl; is_other = refl } }
two_of (Some x) None (Some z) least = record { one = 0; other = 2; one_held = x.held; other_held = z.held; two = record { two = record { one = omega arith; other = omega arith; differ = λ e. omega (arith, e) }; is_one = refl; is_other = refl } }
two_of None (Some y) (Some z) least = record { one = 1; other = 2; one_held = y.held; other_held = z.held; two = record { two = record { one = omega arith; other = omega arith; differ = λ e. omega (arith, e) }; is_one = refl; is_other = refl } }
two_of (Some x) None None least = absurd (omega (arith, least))
two_of None (Some y) None least = absurd (omega (arith, least))
two_of None None (Some z) least = absurd (omega (arith, least))
two_of None None None least = absurd (omega (arith, least))

-- ---- one disk

seen_alike : (devices : ℕ) (sizes more : List ℕ) (image other : Image) (n : ℕ) (o : Option Seen) → more ≡ sizes → ((d : ℕ) → IsWhole sizes d → (s : ℕ) → other d s ≡ image d s) → IsSeen devices sizes image n o → IsSeen devices more other n o
seen_alike devices sizes more image other n None lengths same is = unread_alike devices sizes more image other n (as_long sizes more lengths) (λ d whole. same d whole 0) (same n) is
seen_alike devices sizes more image other n (Some x) lengths same (label, (found, number, is)) = (
  label_alike devices sizes more image other n (as_long sizes more lengths) (λ d whole. same d whole 0) label,
  (found, number, found_alike devices (image n) (other n) found x.held (same n label.whole) is),
)

as_it_was : (devices : ℕ) (sizes : List ℕ) (image : Image) (n : ℕ) (o : Option Seen) → IsSeen devices sizes image n o → IsAsItWas devices (origin_of o) (held_of o) sizes image n
as_it_was devices sizes image n None is = (refl, is)
as_it_was devices sizes image n (Some x) (label, (found, number, is)) = (x.held, refl, label, (found, number, is))

not_made : (o : Option Seen) → origin_of o ≡ Made → ⊥
not_made None e = absurd cc
not_made (Some x) e = absurd cc

-- ---- what is found

module _ (a b c : Option Seen) (f : FoundState) (made : IsMadeOf a b c f) where
  abbrev seen : ℕ → Option Seen
  seen = three a b c

  abbrev was : ℕ → Option Held
  was n = held_of (seen n)

  told : Tells was f.state
  told =
      let t = two_of a b c made.two in
      record {
        one = t.one;
        other = t.other;
        one_held = t.one_held;
        other_held = t.other_held;
        two = t.two;
        reads = reads_so (three (held_of a) (held_of b) (held_of c)) was f.state (λ n held e. sym (three_held a b c n) ∙ e) (λ n held e. three_held a b c n ∙ e) (chosen_reads (held_of a) (held_of b) (held_of c) f.state made.state);
      }

  origin_at : (n : ℕ) → n < 3 → origin_in f.origins n ≡ origin_of (seen n)
  origin_at = three_each (λ n o. origin_in f.origins n ≡ origin_of o) a b c made.first made.second made.third

  pub has_found : HasFound f.state (origin_in f.origins) was
  has_found = record {
    low = three_low a b c;
    none_made = λ n low e. not_made (three a b c n) (sym (origin_at n low) ∙ e);
    tells = told;
  }

  -- the state is one of a cell that counts
  state_of : (P : Held → Type 0) → ((n : ℕ) → n < 3 → IfSome (seen n) (λ x. P x.held)) → (held : Held) × P held × ((f.state ≡ held.accepted) ⊎ (f.state ≡ held.decided))
  state_of P each = by told.reads
    where
      of : (n : ℕ) (held : Held) → was n ≡ Some held → P held
      of n held e = let k = seen_held (three a b c n) held e in subst P k.2 (subst (λ (o : Option Seen). IfSome o (λ x. P x.held)) k.1 (each n (three_low a b c n held e)))

      by : ReadsFirst was f.state → (held : Held) × P held × ((f.state ≡ held.accepted) ⊎ (f.state ≡ held.decided))
      by (inl (n, held, is, e)) = (held, of n held is.ahead.is, inl e)
      by (inr (n, held, is, e)) = (held, of n held is.level.is, inr e)

  pub boots_below : IsAboveBoots f.state (f.boot + 1)
  boots_below = above_boots f.state f.boot (by (state_of (λ held. boot_of_held held ≤ f.boot) each))
    where
      most : (o : Option Seen) → boot_of o ≤ f.boot → IfSome o (λ x. boot_of_held x.held ≤ f.boot)
      most None less = tt
      most (Some x) less = less

      each : (n : ℕ) → n < 3 → IfSome (seen n) (λ x. boot_of_held x.held ≤ f.boot)
      each n low = most (three a b c n) (three_each (λ k o. boot_of o ≤ f.boot) a b c (let e = made.boot in omega (arith, e)) (let e = made.boot in omega (arith, e)) (let e = made.boot in omega (arith, e)) n low)

      by : (held : Held) × (boot_of_held held ≤ f.boot) × ((f.state ≡ held.accepted) ⊎ (f.state ≡ held.decided)) → boot_of_state f.state ≤ f.boot
      by (held, less, inl e) = subst (λ (s : GlobalState). boot_of_state s ≤ f.boot) (sym e) (omega (arith, less))
      by (held, less, inr e) = subst (λ (s : GlobalState). boot_of_state s ≤ f.boot) (sym e) (omega (arith, less))

  module _ (devices : ℕ) (held_a : IfSome a (λ x. IsHeld devices x.held)) (held_b : IfSome b (λ x. IsHeld devices x.held)) (held_c : IfSome c (λ x. IsHeld devices x.held)) where
    pub state_is : IsAllowed f.state × (length f.state.devices ≡ devices)
    state_is = by (state_of (IsHeld devices) each)
      where
        each : (n : ℕ) → n < 3 → IfSome (seen n) (λ x. IsHeld devices x.held)
        each = three_each (λ k o. IfSome o (λ x. IsHeld devices x.held)) a b c held_a held_b held_c

        by : (held : Held) × IsHeld devices held × ((f.state ≡ held.accepted) ⊎ (f.state ≡ held.decided)) → IsAllowed f.state × (length f.state.devices ≡ devices)
        by (held, is, inl e) = (subst IsAllowed (sym e) is.accepted, ap (λ (s : GlobalState). length s.devices) e ∙ is.accepted_devices)
        by (held, is, inr e) = (subst IsAllowed (sym e) is.decided, ap (λ (s : GlobalState). length s.devices) e ∙ is.decided_devices)

    module _ (x : Disks) (seen_a : IsSeen devices x.sizes x.reads 0 a) (seen_b : IsSeen devices x.sizes x.reads 1 b) (seen_c : IsSeen devices x.sizes x.reads 2 c) where
      seen_at : (n : ℕ) → n < 3 → IsSeen devices x.sizes x.reads n (seen n)
      seen_at = three_each (λ n o. IsSeen devices x.sizes x.reads n o) a b c seen_a seen_b seen_c

      are_seen : AreSeen devices x.sizes x.reads was
      are_seen = record {
        some = λ n held e.
            let k = seen_held (three a b c n) held e in
            let s : IsSeen devices x.sizes x.reads n (Some k.0) = subst (IsSeen devices x.sizes x.reads n) k.1 (seen_at n (three_low a b c n held e)) in
            (s.0, (s.1.0, subst (IsFound devices (x.reads n) s.1.0) k.2 s.1.2));
        none = λ n found held e label is. (subst (IsSeen devices x.sizes x.reads n) (unseen (three a b c n) e) (seen_at n label.whole.low)).none found held label is;
      }

      pub reads_found : (state : GlobalState) → length state.devices ≡ devices → ReadsState state x.sizes x.reads f.state
      reads_found state same = record { seen = was; are = subst (λ (n : ℕ). AreSeen n x.sizes x.reads was) (sym same) are_seen; tells = told }

      -- each image of the disks once they were synced
      pub stands_found : (y : Disks) → SameDisks x y → y.sizes ≡ x.sizes → ((n : ℕ) → IsWhole x.sizes n → IsSynced y n) → EachSure y (StandsAsFound f.state (origin_in f.origins) was y.sizes)
      stands_found y same sizes synced = record {
        each = λ image sure. record {
          each = λ n low.
              let alike : (d : ℕ) → IsWhole x.sizes d → (s : ℕ) → image d s ≡ x.reads d s = λ d whole s. sure.sure d s ((synced d whole).each s) ∙ (same.each d s).reads in
              let at = as_it_was devices y.sizes image n (three a b c n) (seen_alike devices x.sizes y.sizes x.reads image n (three a b c n) sizes alike (seen_at n low)) in
              subst (λ (k : ℕ). IsAsItWas k (origin_in f.origins n) (held_of (three a b c n)) y.sizes image n) (sym state_is.1) (subst (λ (o : Origin). IsAsItWas devices o (held_of (three a b c n)) y.sizes image n) (sym (origin_at n low)) at);
        };
      }

-- ---- origins

pub made_origins : (origins : Origins) → origins.first ≡ Made → origins.second ≡ Made → origins.third ≡ Made → AreMade (origin_in origins)
made_origins origins one two last = λ n low. by (n == 0) (n == 1)
  where
    by : (t u : Bool) → (if t then origins.first else (if u then origins.second else origins.third)) ≡ Made
    by true u = one
    by false true = two
    by false false = last

-- ---- one disk after the other

pub seen_before : (devices n : ℕ) (x y : Disks) (o : Option Seen) → y.sizes ≡ x.sizes → SameDisks x y → IsSeen devices y.sizes y.reads n o → IsSeen devices x.sizes x.reads n o
seen_before devices n x y o sizes same is = seen_alike devices y.sizes x.sizes y.reads x.reads n o (sym sizes) (λ d whole s. sym (same.each d s).reads) is

same_self : (x : Disks) → SameDisks x x
same_self x = record { each = λ d s. record { reads = refl; sure = λ e. e } }

pub same_of : (x y : Disks) → y ≡ x → SameDisks x y
same_of x y e = subst (λ (d : Disks). SameDisks x d) (sym e) (same_self x)

pub same_twice : (x y z : Disks) → SameDisks x y → SameDisks y z → SameDisks x z
same_twice x y z one other = record { each = λ d s. let k = one.each d s in let j = other.each d s in record { reads = j.reads ∙ k.reads; sure = λ e. j.sure (k.sure e) } }

synced_on : (y z : Disks) (n : ℕ) → SameDisks y z → IsSynced y n → IsSynced z n
synced_on y z n same is = record { each = λ s. (same.each n s).sure (is.each s) }

-- those that are whole
pub synced_all : (x v y z w : Disks) → v ≡ x → y.sizes ≡ v.sizes → z.sizes ≡ y.sizes → SameDisks y z → SameDisks z w → (IsWhole v.sizes 0 → IsSynced y 0) → (IsWhole y.sizes 1 → IsSynced z 1) → (IsWhole z.sizes 2 → IsSynced w 2)
    → (n : ℕ) → IsWhole x.sizes n → IsSynced w n
synced_all x v y z w read to_y to_z one other first second third n whole = by n whole.low whole
  where
    v_is : x.sizes ≡ v.sizes
    v_is = ap (λ (d : Disks). d.sizes) (sym read)

    y_is : x.sizes ≡ y.sizes
    y_is = v_is ∙ sym to_y

    z_is : x.sizes ≡ z.sizes
    z_is = y_is ∙ sym to_z

    by : (k : ℕ) → k < 3 → IsWhole x.sizes k → IsSynced w k
    by zero low is = synced_on z w 0 other (synced_on y z 0 one (first (subst (λ (l : List ℕ). IsWhole l 0) v_is is)))
    by (suc zero) low is = synced_on z w 1 other (second (subst (λ (l : List ℕ). IsWhole l 1) y_is is))
    by (suc (suc zero)) low is = third (subst (λ (l : List ℕ). IsWhole l 2) z_is is)
    by (suc (suc (suc k))) low is = absurd (omega (arith, low))

first_same : (x y : Disks) (label : Label) → y.sizes ≡ x.sizes → SameDisks x y → IsFirstLabel x.sizes x.reads label → IsFirstLabel y.sizes y.reads label
first_same x y label sizes same is = first_alike x.sizes y.sizes x.reads y.reads label (as_long x.sizes y.sizes sizes) (λ d whole. (same.each d 0).reads) is

-- each of three is seen, after the first label was read
pub all_seen : (devices : ℕ) (x v y z : Disks) (label : Label) (a b c : Option Seen) → v ≡ x → y.sizes ≡ v.sizes → z.sizes ≡ y.sizes → SameDisks v y → SameDisks y z → IsFirstLabel x.sizes x.reads label × (label.devices ≡ devices)
    → (IsFirstLabel v.sizes v.reads label → label.devices ≡ devices → IsSeen devices v.sizes v.reads 0 a) → (IsFirstLabel y.sizes y.reads label → label.devices ≡ devices → IsSeen devices y.sizes y.reads 1 b)
    → (IsFirstLabel z.sizes z.reads label → label.devices ≡ devices → IsSeen devices z.sizes z.reads 2 c)
    → IsSeen devices x.sizes x.reads 0 a × (IsSeen devices x.sizes x.reads 1 b × IsSeen devices x.sizes x.reads 2 c)
all_seen devices x v y z label a b c read sizes_y sizes_z one other (first, same) see_a see_b see_c = (
  seen_before devices 0 x v a v_is to_v (see_a (first_same x v label v_is to_v first) same),
  (seen_before devices 1 x y b y_is to_y (see_b (first_same x y label y_is to_y first) same), seen_before devices 2 x z c z_is to_z (see_c (first_same x z label z_is to_z first) same)),
)
  where
    v_is : v.sizes ≡ x.sizes
    v_is = ap (λ (d : Disks). d.sizes) read

    y_is : y.sizes ≡ x.sizes
    y_is = sizes_y ∙ v_is

    z_is : z.sizes ≡ x.sizes
    z_is = sizes_z ∙ y_is

    to_v : SameDisks x v
    to_v = same_of x v read

    to_y : SameDisks x y
    to_y = same_twice x v y to_v one

    to_z : SameDisks x z
    to_z = same_twice x y z to_y other

pub ok_map : {T E : Type 0} (r : Result T E) (P Q : T → Type 0) → ((v : T) → P v → Q v) → IfOk r P → IfOk r Q
ok_map (Ok v) P Q map is = map v is
ok_map (Err e) P Q map is = tt
