-- Why disks are read as nothing: too few replicas count, no index is left, or no boot.
use Rattle.std.proofs.Common.{◌≡◌, ◌≢◌, ℕ, ◌+◌, ◌^◌, ◌<◌, ◌≤◌, ◌⊎◌, inl, inr, List, length, Option, Some, None, Result, Ok, Err, refl, sym, ap, subst, ◌∙◌, arith}
use Rattle.std.specs.Prelude.{IfOk, IsErrOf, OnOk, max}
use Rattle.std.proofs.lemmas.Bool.{cases_lt}
use Rattle.bx_acceptor.proofs.Taking.{one_found}
use Rattle.bx_agreement.proofs.Order.{in_common}
use Rattle.bx_agreement.specs.History.{AreTwo}
use Rattle.bx_disk.specs.Disks.{Disks, Image}
use Rattle.bx_facts.specs.Disks.{TellNoState}
use Rattle.bx_facts.specs.Labelled.{IsReplicaLabelled}
use Rattle.bx_facts.specs.declared.input.OpenError.{OpenError}
use Rattle.bx_facts.specs.declared.input.OpenError.TheVariants.{Disk as OpenFails, OutOfMemory as WantsMemory, Spent}
use Rattle.bx_global.specs.declared.held.Held.{Held}
use Rattle.bx_global.specs.declared.state.GlobalState.{GlobalState}
use Rattle.bx_paxos.proofs.OneReading.{one_reading}
use Rattle.bx_paxos.specs.Reading.{ReadsState, Tells}
use Rattle.bx_paxos.specs.Shown.{IsUnread}
use Rattle.bx_paxos_found.specs.declared.looking.Seen.{Seen}
use Rattle.bx_paxos_found.specs.Boots.{boot_of_held}
use Rattle.bx_paxos_found.specs.Choosing.{chosen_of, three}
use Rattle.bx_paxos_found.specs.Finding.{AreAtTheEnd, AreFollowed, AreTooFew, Counts, IsGreatestBoot, IsSeen, IsSpentAt, LackMajority, boot_of, count_of, held_of}
use Rattle.bx_paxos_found.proofs.Threes.{Two, seen_held, three_each, three_held, two_of}
use Rattle.bx_paxos_found.proofs.Views.{reads_so_chosen, some_chosen, view_seen}

none_is : (x : Seen) → None ≡ Some x → ⊥
none_is x e = absurd cc

some_seen : (x y : Seen) → Some x ≡ Some y → x ≡ y
some_seen x y e = cc

apart : (n m : ℕ) → n < 3 → m < 3 → n ≢ m → AreTwo n m
apart n m one other differ = record { one = one; other = other; differ = differ }

module _ (devices : ℕ) (x : Disks) (a b c : Option Seen) (seen_a : IsSeen devices x.sizes x.reads 0 a) (seen_b : IsSeen devices x.sizes x.reads 1 b) (seen_c : IsSeen devices x.sizes x.reads 2 c) where
  at : (n : ℕ) → n < 3 → IsSeen devices x.sizes x.reads n (three a b c n)
  at = three_each (λ n o. IsSeen devices x.sizes x.reads n o) a b c seen_a seen_b seen_c

  -- ---- two that don't count

  unread : (n : ℕ) → n < 3 → three a b c n ≡ None → IsUnread devices x.sizes x.reads n
  unread n low e = subst (IsSeen devices x.sizes x.reads n) e (at n low)

  lack : (n m : ℕ) → n < 3 → m < 3 → n ≢ m → three a b c n ≡ None → three a b c m ≡ None → LackMajority devices x.sizes x.reads
  lack n m one other differ e f = record { one = n; other = m; two = apart n m one other differ; one_unread = unread n one e; other_unread = unread m other f }

  -- one that counts is seen, and has that
  counted : (n : ℕ) (held : Held) → Counts devices x.sizes x.reads n held → (s : Seen) × (three a b c n ≡ Some s) × (s.held ≡ held)
  counted n held (label, (found, is)) = by (three a b c n) refl (at n label.whole.low)
    where
      by : (o : Option Seen) → three a b c n ≡ o → IsSeen devices x.sizes x.reads n o → (s : Seen) × (three a b c n ≡ Some s) × (s.held ≡ held)
      by None e gone = absurd (gone.none found held label is)
      by (Some s) e (has, (other, number, also)) = (s, e, (one_found devices (x.reads n) other found s.held held also is).1)

  counts : (n : ℕ) (s : Seen) → n < 3 → three a b c n ≡ Some s → Counts devices x.sizes x.reads n s.held
  counts n s low e =
      let k : IsSeen devices x.sizes x.reads n (Some s) = subst (IsSeen devices x.sizes x.reads n) e (at n low) in
      (k.0, (k.1.0, k.1.2))

  -- ---- two that count

  abbrev cells : ℕ → Option Held
  cells n = held_of (three a b c n)

  counts_at : (n : ℕ) (held : Held) → n < 3 → cells n ≡ Some held → Counts devices x.sizes x.reads n held
  counts_at n held low e = let k = seen_held (three a b c n) held e in subst (Counts devices x.sizes x.reads n) k.2 (counts n k.0 low k.1)

  never_unread : (n : ℕ) (held : Held) → Counts devices x.sizes x.reads n held → IsUnread devices x.sizes x.reads n → ⊥
  never_unread n held is gone = gone.none is.1.0 held is.0 is.1.1

  pub no_lack : 2 ≤ count_of a + (count_of b + count_of c) → LackMajority devices x.sizes x.reads → ⊥
  no_lack least lack = by (in_common t.one t.other lack.one lack.other t.two.two lack.two)
    where
      t : Two cells
      t = two_of a b c least

      one : IsUnread devices x.sizes x.reads t.one → ⊥
      one = never_unread t.one t.one_held (counts_at t.one t.one_held t.two.two.one t.two.is_one)

      other : IsUnread devices x.sizes x.reads t.other → ⊥
      other = never_unread t.other t.other_held (counts_at t.other t.other_held t.two.two.other t.two.is_other)

      by : ((t.one ≡ lack.one) ⊎ (t.one ≡ lack.other)) ⊎ ((t.other ≡ lack.one) ⊎ (t.other ≡ lack.other)) → ⊥
      by (inl (inl e)) = one (subst (λ (k : ℕ). IsUnread devices x.sizes x.reads k) (sym e) lack.one_unread)
      by (inl (inr e)) = one (subst (λ (k : ℕ). IsUnread devices x.sizes x.reads k) (sym e) lack.other_unread)
      by (inr (inl e)) = other (subst (λ (k : ℕ). IsUnread devices x.sizes x.reads k) (sym e) lack.one_unread)
      by (inr (inr e)) = other (subst (λ (k : ℕ). IsUnread devices x.sizes x.reads k) (sym e) lack.other_unread)

  -- ---- the greatest boot

  greatest : (p q r : ℕ) → (p ≡ max p (max q r)) ⊎ ((q ≡ max p (max q r)) ⊎ (r ≡ max p (max q r)))
  greatest p q r = by (cases_lt p q) (cases_lt q r) (cases_lt p r)
    where
      by : (p < q) ⊎ (q ≤ p) → (q < r) ⊎ (r ≤ q) → (p < r) ⊎ (r ≤ p) → (p ≡ max p (max q r)) ⊎ ((q ≡ max p (max q r)) ⊎ (r ≡ max p (max q r)))
      by (inl f) (inl g) h = inr (inr (omega (arith, f, g)))
      by (inl f) (inr g) h = inr (inl (omega (arith, f, g)))
      by (inr f) (inl g) (inl h) = inr (inr (omega (arith, f, g, h)))
      by (inr f) (inl g) (inr h) = inl (omega (arith, f, g, h))
      by (inr f) (inr g) h = inl (omega (arith, f, g))

  below : (n : ℕ) → n < 3 → boot_of (three a b c n) ≤ max (boot_of a) (max (boot_of b) (boot_of c))
  below = three_each (λ n o. boot_of o ≤ max (boot_of a) (max (boot_of b) (boot_of c))) a b c (omega arith) (omega arith) (omega arith)

  pub is_greatest : (boot : ℕ) → 2 ≤ count_of a + (count_of b + count_of c) → boot ≡ max (boot_of a) (max (boot_of b) (boot_of c)) → IsGreatestBoot devices x.sizes x.reads boot
  is_greatest boot least e = record { most = most; is = by (greatest (boot_of a) (boot_of b) (boot_of c)) }
    where
      most : (n : ℕ) (held : Held) → Counts devices x.sizes x.reads n held → boot_of_held held ≤ boot
      most n held is =
          let k = counted n held is in
          let less : boot_of (Some k.0) ≤ max (boot_of a) (max (boot_of b) (boot_of c)) = subst (λ (o : Option Seen). boot_of o ≤ max (boot_of a) (max (boot_of b) (boot_of c))) k.1 (below n is.0.whole.low) in
          let low : boot_of_held k.0.held ≤ boot = subst (λ (m : ℕ). boot_of_held k.0.held ≤ m) (sym e) less in
          subst (λ (h : Held). boot_of_held h ≤ boot) k.2 low

      t : Two cells
      t = two_of a b c least

      -- where no cell has a greater boot, one that counts has none at all
      any : boot ≡ 0 → (n : ℕ) × (held : Held) × Counts devices x.sizes x.reads n held × (boot_of_held held ≡ boot)
      any none =
          let is = counts_at t.one t.one_held t.two.two.one t.two.is_one in
          let less = most t.one t.one_held is in
          (t.one, t.one_held, is, omega (arith, less, none))

      of : (n : ℕ) → n < 3 → (o : Option Seen) → three a b c n ≡ o → boot_of o ≡ boot → (k : ℕ) × (held : Held) × Counts devices x.sizes x.reads k held × (boot_of_held held ≡ boot)
      of n low None there same = any (sym same)
      of n low (Some s) there same = (n, s.held, counts n s low there, same)

      by : (boot_of a ≡ max (boot_of a) (max (boot_of b) (boot_of c))) ⊎ ((boot_of b ≡ max (boot_of a) (max (boot_of b) (boot_of c))) ⊎ (boot_of c ≡ max (boot_of a) (max (boot_of b) (boot_of c))))
          → (n : ℕ) × (held : Held) × Counts devices x.sizes x.reads n held × (boot_of_held held ≡ boot)
      by (inl same) = of 0 (omega arith) a refl (same ∙ sym e)
      by (inr (inl same)) = of 1 (omega arith) b refl (same ∙ sym e)
      by (inr (inr same)) = of 2 (omega arith) c refl (same ∙ sym e)

  -- ---- what is made of them

  -- what they are read as, two at least
  pub read_so : (made s : GlobalState) → length made.devices ≡ devices → 2 ≤ count_of a + (count_of b + count_of c) → chosen_of (held_of a) (held_of b) (held_of c) ≡ Some s → ReadsState made x.sizes x.reads s
  read_so made s same least is =
      let t = two_of a b c least in
      let one = three_held a b c t.one ∙ t.two.is_one in
      let other = three_held a b c t.other ∙ t.two.is_other in
      reads_so_chosen devices x.sizes x.reads (held_of a) (held_of b) (held_of c) (view_seen devices x.sizes x.reads 0 a seen_a) (view_seen devices x.sizes x.reads 1 b seen_b) (view_seen devices x.sizes x.reads 2 c seen_c)
      made s t.one t.other t.one_held t.other_held same (record { two = t.two.two; is_one = one; is_other = other }) is

  pub few_lack : count_of a + (count_of b + count_of c) < 2 → LackMajority devices x.sizes x.reads
  few_lack few = by a b c refl refl refl few
    where
      by : (p q r : Option Seen) → a ≡ p → b ≡ q → c ≡ r → count_of p + (count_of q + count_of r) < 2 → LackMajority devices x.sizes x.reads
      by None None r e f g few = lack 0 1 (omega arith) (omega arith) (λ k. omega (arith, k)) e f
      by None (Some y) None e f g few = lack 0 2 (omega arith) (omega arith) (λ k. omega (arith, k)) e g
      by (Some y) None None e f g few = lack 1 2 (omega arith) (omega arith) (λ k. omega (arith, k)) f g
      by None (Some y) (Some z) e f g few = absurd (omega (arith, few))
      by (Some y) None (Some z) e f g few = absurd (omega (arith, few))
      by (Some y) (Some z) r e f g few = absurd (omega (arith, few))

  pub none_lack : chosen_of (held_of a) (held_of b) (held_of c) ≡ None → LackMajority devices x.sizes x.reads
  none_lack none = by a b c refl refl refl
    where
      never : (n : ℕ) (held : Held) → three (held_of a) (held_of b) (held_of c) n ≡ Some held → ⊥
      never n held e = let k = some_chosen (held_of a) (held_of b) (held_of c) n held e in let bad = sym none ∙ k.1 in absurd cc

      by : (p q r : Option Seen) → a ≡ p → b ≡ q → c ≡ r → LackMajority devices x.sizes x.reads
      by None None r e f g = lack 0 1 (omega arith) (omega arith) (λ k. omega (arith, k)) e f
      by (Some y) q r e f g = absurd (never 0 y.held (ap held_of e))
      by None (Some y) r e f g = absurd (never 1 y.held (ap held_of f))

  pub too_few : AreTooFew a b c → LackMajority devices x.sizes x.reads ⊎ AreAtTheEnd devices x.sizes x.reads
  too_few (inl few) = inl (few_lack few)
  too_few (inr (inl none)) = inl (none_lack none)
  too_few (inr (inr (s, is, least, end))) = inr (λ made same. (s, read_so made s same least is, end))

  pub spent_at : (boot : ℕ) → IsSpentAt a b c boot → IsGreatestBoot devices x.sizes x.reads boot × AreFollowed devices x.sizes x.reads
  spent_at boot is = (is_greatest boot is.two is.greatest, λ made same. (is.state.0, read_so made is.state.0 same is.two is.state.1, is.state.2))

-- one boot is the greatest
pub one_greatest : (devices : ℕ) (sizes : List ℕ) (image : Image) (boot other : ℕ) → IsGreatestBoot devices sizes image boot → IsGreatestBoot devices sizes image other → other ≡ boot
one_greatest devices sizes image boot other is also =
    let one = is.is in
    let two = also.is in
    let least = also.most one.0 one.1 one.2 in
    let most = is.most two.0 two.1 two.2 in
    omega (arith, least, most, one.3, two.3)

-- ---- disks that tell no state

-- no replica is labelled
pub no_volume : (devices : ℕ) (x : Disks) → ((n : ℕ) → IsReplicaLabelled devices x.sizes x.reads n → ⊥) → LackMajority devices x.sizes x.reads
no_volume devices x none = record {
  one = 0;
  other = 1;
  two = apart 0 1 (omega arith) (omega arith) (λ e. omega (arith, e));
  one_unread = record { none = λ found held label is. none 0 label };
  other_unread = record { none = λ found held label is. none 1 label };
}

pub lack_reads : (made : GlobalState) (sizes : List ℕ) (image : Image) (s : GlobalState) → LackMajority (length made.devices) sizes image → ReadsState made sizes image s → ⊥
lack_reads made sizes image s lack read = by (in_common t.one t.other lack.one lack.other t.two.two lack.two)
  where
    t : Tells read.seen s
    t = read.tells

    at : (n : ℕ) (held : Held) → read.seen n ≡ Some held → IsUnread (length made.devices) sizes image n → ⊥
    at n held e gone = let k = read.are.some n held e in gone.none k.1.0 held k.0 k.1.1

    by : ((t.one ≡ lack.one) ⊎ (t.one ≡ lack.other)) ⊎ ((t.other ≡ lack.one) ⊎ (t.other ≡ lack.other)) → ⊥
    by (inl (inl e)) = at t.one t.one_held t.two.is_one (subst (IsUnread (length made.devices) sizes image) (sym e) lack.one_unread)
    by (inl (inr e)) = at t.one t.one_held t.two.is_one (subst (IsUnread (length made.devices) sizes image) (sym e) lack.other_unread)
    by (inr (inl e)) = at t.other t.other_held t.two.is_other (subst (IsUnread (length made.devices) sizes image) (sym e) lack.one_unread)
    by (inr (inr e)) = at t.other t.other_held t.two.is_other (subst (IsUnread (length made.devices) sizes image) (sym e) lack.other_unread)

pub tell_none : (made : GlobalState) (x : Disks) → LackMajority (length made.devices) x.sizes x.reads ⊎ AreAtTheEnd (length made.devices) x.sizes x.reads → TellNoState (ReadsState made) x
tell_none made x (inl lack) = inl (λ s read. lack_reads made x.sizes x.reads s lack read)
tell_none made x (inr end) = inr (end made refl)

-- and those that tell one which another may follow
pub tell_one : (made : GlobalState) (x : Disks) (s : GlobalState) → ReadsState made x.sizes x.reads s → s.index + 1 < 2 ^ 64 → TellNoState (ReadsState made) x → ⊥
tell_one made x s read less (inl none) = none s read
tell_one made x s read less (inr (t, also, end)) = let same = ap (λ (k : GlobalState). k.index) (one_reading made x.sizes x.reads s t read also) in omega (arith, less, end, same)

-- ---- results

-- a look ends in other errors
never_spent : (e : OpenError) (boot : ℕ) → (e ≡ OpenFails) ⊎ (e ≡ WantsMemory) → e ≡ Spent boot → ⊥
never_spent e boot (inl one) is = let bad : OpenFails ≡ Spent boot = sym one ∙ is in absurd cc
never_spent e boot (inr one) is = let bad : WantsMemory ≡ Spent boot = sym one ∙ is in absurd cc

err_same : {A : Type 0} (r s : Result A OpenError) (e f : OpenError) → r ≡ Err e → s ≡ Err f → r ≡ s → e ≡ f
err_same r s e f one other same = cc

pub looked_never : {A : Type 0} (r : Result A OpenError) (e : OpenError) (boot : ℕ) → r ≡ Err e → (e ≡ OpenFails) ⊎ (e ≡ WantsMemory) → IsErrOf r (Spent boot) → ⊥
looked_never r e boot same errors is = never_spent e boot errors (err_same r r e (Spent boot) same is refl)

pub on_ok : {T E : Type 0} (r : Result T E) (P : T → Type 0) (Q : Type 0) → ((v : T) → P v → Q) → IfOk r P → OnOk r Q
on_ok (Ok v) P Q map is = map v is
on_ok (Err e) P Q map is = tt
