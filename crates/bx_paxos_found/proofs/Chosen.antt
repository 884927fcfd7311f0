-- What three cells are read as is what is read first.
use Rattle.std.proofs.Common.{◌≡◌, ℕ, ◌+◌, ◌<◌, ◌≤◌, ◌⊎◌, inl, inr, ◌==◌, Bool, true, false, Option, Some, None, refl, sym, ap, subst, ◌∙◌, arith}
use Rattle.std.specs.Prelude.{nat_lt, if◌then◌else◌}
use Rattle.std.proofs.lemmas.Bool.{cases_lt}
use Rattle.std.proofs.lemmas.Bool.Decides.{eqb_tells, nat_tests}
use Rattle.bx_agreement.proofs.Order.{not_back}
use Rattle.bx_global.specs.declared.held.Held.{Held}
use Rattle.bx_global.specs.declared.state.GlobalState.{GlobalState}
use Rattle.bx_paxos.specs.Reading.{IsAheadFirst, ReadsFirst}
use Rattle.bx_rows.proofs.Ballots.{before_then, one_before}
use Rattle.bx_rows.specs.Ballots.{ComesBefore}
use Rattle.bx_rows.specs.declared.ballot.Ballot.{Ballot}
use Rattle.bx_paxos_found.specs.declared.choosing.Accepted.{Accepted}
use Rattle.bx_paxos_found.specs.Choosing.{accepted_of, before_in, chosen_of, counts_less, decided_of, higher_of, later_of, three, told_of}

-- ---- tests

before_is : (a b : Ballot) → before_in a b ≡ true → ComesBefore a b
before_is a b e = grind (arith, nat_tests, e)

not_before : (a b : Ballot) → before_in a b ≡ false → (b ≡ a) ⊎ ComesBefore b a
not_before a b e = by (one_before a b)
  where
    not_so : ComesBefore a b → ⊥
    not_so before = grind (arith, nat_tests, e, before)

    by : ComesBefore a b ⊎ ((a ≡ b) ⊎ ComesBefore b a) → (b ≡ a) ⊎ ComesBefore b a
    by (inl before) = absurd (not_so before)
    by (inr (inl same)) = inl (sym same)
    by (inr (inr after)) = inr after

-- ---- of the cells before a number the one that counts most

-- the decided state of the greatest index
BestTo : (ℕ → Option Held) → ℕ → Option GlobalState → Type 0
BestTo cells k None = (n : ℕ) → n < k → cells n ≡ None
BestTo cells k (Some s) = (n : ℕ) × (held : Held) × (n < k) × (cells n ≡ Some held) × (s ≡ held.decided)
    × ((m : ℕ) (other : Held) → m < k → cells m ≡ Some other → (other.decided.index ≤ held.decided.index) × (other.decided.index ≡ held.decided.index → n ≤ m))

next_is : (n k : ℕ) → n < k + 1 → (n < k) ⊎ (n ≡ k)
next_is n k less = grind (arith, less)

none_some : (h : Held) → None ≡ Some h → ⊥
none_some h e = absurd cc

some_is : (h k : Held) → Some h ≡ Some k → h ≡ k
some_is h k e = cc

best_step : (cells : ℕ → Option Held) (k : ℕ) (o : Option GlobalState) → BestTo cells k o → BestTo cells (k + 1) (later_of o (decided_of (cells k)))
unfolding BestTo
best_step cells k o best = by o (cells k) refl best
  where
    by : (o : Option GlobalState) (c : Option Held) → cells k ≡ c → BestTo cells k o → BestTo cells (k + 1) (later_of o (decided_of c))
    by None None at best = λ n less. elim (next_is n k less) [ inl before ↦ best n before | inr here ↦ ap cells here ∙ at ]
    by None (Some held) at best = (
      k,
      held,
      omega arith,
      at,
      refl,
      λ m other less is. elim (next_is m k less) [
        | inl before ↦ absurd (none_some other (sym (best m before) ∙ is))
        | inr here ↦ let one : other ≡ held = some_is other held (sym is ∙ ap cells here ∙ at) in let index = ap (λ (h : Held). h.decided.index) one in (omega (arith, index), λ e. omega (arith, here))
      ],
    )
    by (Some s) None at (n, held, less, is, e, most) = (
      n,
      held,
      omega (arith, less),
      is,
      e,
      λ m other low there. elim (next_is m k low) [ inl before ↦ most m other before there | inr here ↦ absurd (none_some other (sym at ∙ sym (ap cells here) ∙ there)) ],
    )
    by (Some s) (Some held) at (n, old, less, is, e, most) = test (nat_lt s.index held.decided.index) refl
      where
        index : s.index ≡ old.decided.index
        index = ap (λ (x : GlobalState). x.index) e

        here_is : (m : ℕ) (other : Held) → m ≡ k → cells m ≡ Some other → other ≡ held
        here_is m other here there = some_is other held (sym there ∙ ap cells here ∙ at)

        test : (t : Bool) → nat_lt s.index held.decided.index ≡ t → BestTo cells (k + 1) (if t then Some held.decided else Some s)
        test true t =
            let more : s.index < held.decided.index = grind (arith, nat_tests, t) in (
              k,
              held,
              omega arith,
              at,
              refl,
              λ m other low there. elim (next_is m k low) [
                | inl before ↦ let was = (most m other before there).0 in (omega (arith, was, more, index), λ same. absurd (omega (arith, was, more, index, same)))
                | inr here ↦ let k_is = ap (λ (h : Held). h.decided.index) (here_is m other here there) in (omega (arith, k_is), λ same. omega (arith, here))
              ],
            )
        test false t =
            let no_more : held.decided.index ≤ s.index = grind (arith, nat_tests, t) in (
              n,
              old,
              omega (arith, less),
              is,
              e,
              λ m other low there. elim (next_is m k low) [
                | inl before ↦ most m other before there
                | inr here ↦ let k_is = ap (λ (h : Held). h.decided.index) (here_is m other here there) in (omega (arith, k_is, no_more, index), λ same. omega (arith, here, less))
              ],
            )

-- an accepted state counts no more than another: by index, ballot, and the lower replica
NoMore : ℕ → Held → ℕ → Held → Type 0
NoMore m other n held = (other.accepted.index < held.accepted.index) ⊎ ((other.accepted.index ≡ held.accepted.index) × (ComesBefore other.ballot held.ballot ⊎ ((other.ballot ≡ held.ballot) × (n ≤ m))))

HighTo : (ℕ → Option Held) → ℕ → Option Accepted → Type 0
HighTo cells k None = (n : ℕ) (held : Held) → n < k → cells n ≡ Some held → held.flag ≡ 1 → ⊥
HighTo cells k (Some x) = (n : ℕ) × (held : Held) × (n < k) × (cells n ≡ Some held) × (held.flag ≡ 1) × (x ≡ record { ballot = held.ballot; state = held.accepted })
    × ((m : ℕ) (other : Held) → m < k → cells m ≡ Some other → other.flag ≡ 1 → NoMore m other n held)

itself : (m n : ℕ) (h held : Held) → h ≡ held → n ≤ m → NoMore m h n held
unfolding NoMore
itself m n h held same low = inr (ap (λ (x : Held). x.accepted.index) same, inr (ap (λ (x : Held). x.ballot) same, low))

-- what counts no more than one that counts less
no_more_then : (m n k : ℕ) (other old held : Held) → NoMore m other n old → counts_less (record { ballot = old.ballot; state = old.accepted }) (record { ballot = held.ballot; state = held.accepted }) ≡ true → NoMore m other k held
unfolding NoMore
no_more_then m n k other old held no_more t = by no_more (cases_lt old.accepted.index held.accepted.index)
  where
    by : (other.accepted.index < old.accepted.index) ⊎ ((other.accepted.index ≡ old.accepted.index) × (ComesBefore other.ballot old.ballot ⊎ ((other.ballot ≡ old.ballot) × (n ≤ m))))
        → (old.accepted.index < held.accepted.index) ⊎ (held.accepted.index ≤ old.accepted.index)
        → (other.accepted.index < held.accepted.index) ⊎ ((other.accepted.index ≡ held.accepted.index) × (ComesBefore other.ballot held.ballot ⊎ ((other.ballot ≡ held.ballot) × (k ≤ m))))
    by (inl less) (inl more) = inl (omega (arith, less, more))
    by (inl less) (inr most) = inl (let same : old.accepted.index ≡ held.accepted.index = grind (arith, nat_tests, t, most) in omega (arith, less, same))
    by (inr (same, rest)) (inl more) = inl (omega (arith, same, more))
    by (inr (same, rest)) (inr most) =
        let level : old.accepted.index ≡ held.accepted.index = grind (arith, nat_tests, t, most) in
        let ballots : before_in old.ballot held.ballot ≡ true = grind (arith, nat_tests, t, most) in
        let before = before_is old.ballot held.ballot ballots in
        inr (
          same ∙ level,
          elim rest [
            | inl less ↦ inl (before_then other.ballot old.ballot held.ballot less before)
            | inr equal ↦ inl (subst (λ (b : Ballot). ComesBefore b held.ballot) (sym equal.0) before)
          ],
        )

-- one that doesn't count more than an earlier one
not_less : (n k : ℕ) (old held : Held) → n ≤ k → counts_less (record { ballot = old.ballot; state = old.accepted }) (record { ballot = held.ballot; state = held.accepted }) ≡ false → NoMore k held n old
unfolding NoMore
not_less n k old held low t = by (cases_lt held.accepted.index old.accepted.index)
  where
    by : (held.accepted.index < old.accepted.index) ⊎ (old.accepted.index ≤ held.accepted.index) → (held.accepted.index < old.accepted.index) ⊎ ((held.accepted.index ≡ old.accepted.index) × (ComesBefore held.ballot old.ballot ⊎ ((held.ballot ≡ old.ballot) × (n ≤ k))))
    by (inl less) = inl less
    by (inr least) =
        let level : held.accepted.index ≡ old.accepted.index = grind (arith, nat_tests, t, least) in
        let ballots : before_in old.ballot held.ballot ≡ false = grind (arith, nat_tests, t, level) in
        inr (level, elim (not_before old.ballot held.ballot ballots) [ inl same ↦ inr (same, low) | inr before ↦ inl before ])

high_step : (cells : ℕ → Option Held) (k : ℕ) (o : Option Accepted) → HighTo cells k o → HighTo cells (k + 1) (higher_of o (accepted_of (cells k)))
unfolding HighTo
high_step cells k o high = by o (cells k) refl high
  where
    -- a cell that accepted nothing
    skip : (o : Option Accepted) → ((held : Held) → cells k ≡ Some held → held.flag ≡ 1 → ⊥) → HighTo cells k o → HighTo cells (k + 1) o
    skip None none high = λ n held less is flag. elim (next_is n k less) [ inl before ↦ high n held before is flag | inr here ↦ none held (sym (ap cells here) ∙ is) flag ]
    skip (Some x) none (n, held, less, is, flag, e, most) = (
      n,
      held,
      omega (arith, less),
      is,
      flag,
      e,
      λ m other low there flagged. elim (next_is m k low) [ inl before ↦ most m other before there flagged | inr here ↦ absurd (none other (sym (ap cells here) ∙ there) flagged) ],
    )

    same_as : (o : Option Accepted) → higher_of o None ≡ o
    same_as None = refl
    same_as (Some x) = refl

    with : (o : Option Accepted) (held : Held) → cells k ≡ Some held → held.flag ≡ 1 → HighTo cells k o → HighTo cells (k + 1) (higher_of o (Some (record { ballot = held.ballot; state = held.accepted })))
    with None held at flag high = (
      k,
      held,
      omega arith,
      at,
      flag,
      refl,
      λ m other low there flagged. elim (next_is m k low) [
        | inl before ↦ absurd (high m other before there flagged)
        | inr here ↦ itself m k other held (some_is other held (sym there ∙ ap cells here ∙ at)) (omega (arith, here))
      ],
    )
    with (Some x) held at flag (n, old, less, is, flagged, e, most) =
        subst (λ (y : Accepted). HighTo cells (k + 1) (higher_of (Some y) (Some mine))) (sym e) (test (counts_less theirs mine) refl)
      where
        mine : Accepted
        mine = record { ballot = held.ballot; state = held.accepted }

        theirs : Accepted
        theirs = record { ballot = old.ballot; state = old.accepted }

        test : (t : Bool) → counts_less theirs mine ≡ t → HighTo cells (k + 1) (if t then Some mine else Some theirs)
        test true t = (
          k,
          held,
          omega arith,
          at,
          flag,
          refl,
          λ m other low there other_flag. elim (next_is m k low) [
            | inl before ↦ no_more_then m n k other old held (most m other before there other_flag) t
            | inr here ↦ itself m k other held (some_is other held (sym there ∙ ap cells here ∙ at)) (omega (arith, here))
          ],
        )
        test false t = (
          n,
          old,
          omega (arith, less),
          is,
          flagged,
          refl,
          λ m other low there other_flag. elim (next_is m k low) [
            | inl before ↦ most m other before there other_flag
            | inr here ↦ subst (λ (h : Held). NoMore m h n old) (sym (some_is other held (sym there ∙ ap cells here ∙ at))) (not_less n m old held (omega (arith, here, less)) t)
          ],
        )

    by : (o : Option Accepted) (c : Option Held) → cells k ≡ c → HighTo cells k o → HighTo cells (k + 1) (higher_of o (accepted_of c))
    by o None at high = subst (HighTo cells (k + 1)) (sym (same_as o)) (skip o (λ held is flag. none_some held (sym at ∙ is)) high)
    by o (Some held) at high = test (eqb_tells held.flag 1)
      where
        test : (((held.flag == 1) ≡ true) × (held.flag ≡ 1)) ⊎ (((held.flag == 1) ≡ false) × (held.flag ≡ 1 → ⊥)) → HighTo cells (k + 1) (higher_of o (accepted_of (Some held)))
        test (inl flagged) = subst (λ (t : Bool). HighTo cells (k + 1) (higher_of o (if t then Some (record { ballot = held.ballot; state = held.accepted }) else None))) (sym flagged.0) (with o held at flagged.1 high)
        test (inr not_so) =
            subst (λ (t : Bool). HighTo cells (k + 1) (higher_of o (if t then Some (record { ballot = held.ballot; state = held.accepted }) else None))) (sym not_so.0)
            (subst (HighTo cells (k + 1)) (sym (same_as o)) (skip o (λ other is flag. not_so.1 (subst (λ (h : Held). h.flag ≡ 1) (some_is other held (sym is ∙ at)) flag)) high))

-- ---- three

module _ (a b c : Option Held) where
  cells : ℕ → Option Held
  cells = three a b c

  low_of : (n : ℕ) (held : Held) → cells n ≡ Some held → n < 3
  unfolding cells
  low_of n held e = by (eqb_tells n 0) (eqb_tells n 1) (eqb_tells n 2)
    where
      by : (((n == 0) ≡ true) × (n ≡ 0)) ⊎ (((n == 0) ≡ false) × (n ≡ 0 → ⊥)) → (((n == 1) ≡ true) × (n ≡ 1)) ⊎ (((n == 1) ≡ false) × (n ≡ 1 → ⊥)) → (((n == 2) ≡ true) × (n ≡ 2)) ⊎ (((n == 2) ≡ false) × (n ≡ 2 → ⊥)) → n < 3
      by (inl zero) other last = omega (arith, zero.1)
      by (inr first) (inl one) last = omega (arith, one.1)
      by (inr first) (inr second) (inl two) = omega (arith, two.1)
      by (inr first) (inr second) (inr third) = let k = rw (first.0, second.0, third.0) at e in absurd (none_some held k)

  best_is : BestTo cells 3 (later_of (later_of (decided_of a) (decided_of b)) (decided_of c))
  unfolding cells BestTo
  best_is = best_step cells 2 (later_of (decided_of a) (decided_of b)) (best_step cells 1 (decided_of a) (best_step cells 0 None (λ n less. absurd (omega (arith, less)))))

  high_is : HighTo cells 3 (higher_of (higher_of (accepted_of a) (accepted_of b)) (accepted_of c))
  unfolding cells HighTo
  high_is = high_step cells 2 (higher_of (accepted_of a) (accepted_of b)) (high_step cells 1 (accepted_of a) (high_step cells 0 None (λ n held less is flag. omega (arith, less))))

  -- an accepted state that is above the decided ones
  ahead_first : (n : ℕ) (held : Held) → cells n ≡ Some held → held.flag ≡ 1 → ((m : ℕ) (other : Held) → m < 3 → cells m ≡ Some other → other.flag ≡ 1 → NoMore m other n held)
      → ((m : ℕ) (other : Held) → cells m ≡ Some other → other.decided.index < held.accepted.index) → IsAheadFirst cells n held
  unfolding NoMore
  ahead_first n held is flag most above = record {
    ahead = record {
      is = is;
      flag = flag;
      above = above;
      greatest = λ m other there flagged. elim (most m other (low_of m other there) there flagged) [ inl less ↦ omega (arith, less) | inr same ↦ (let k = same.0 in omega (arith, k)) ];
      highest = λ m other there flagged index. elim (most m other (low_of m other there) there flagged) [
        | inl less ↦ absurd (omega (arith, less, index))
        | inr same ↦ elim same.1 [ inl before ↦ inr before | inr equal ↦ inl equal.0 ]
      ];
    };
    lowest = λ m other also. elim (most m other (low_of m other also.is) also.is also.flag) [
      | inl less ↦ (let k = also.greatest n held is flag in absurd (omega (arith, less, k)))
      | inr same ↦ elim same.1 [
        | inl before ↦ absurd (not_back held.ballot other.ballot (also.highest n held is flag (sym same.0)) before)
        | inr equal ↦ equal.1
      ]
    ];
  }

  reads_chosen : (o : Option Accepted) (d : Option GlobalState) (s : GlobalState) → HighTo cells 3 o → BestTo cells 3 d → told_of o d ≡ Some s → ReadsFirst cells s
  unfolding HighTo BestTo NoMore
  reads_chosen o None s high best e = let bad : None ≡ Some s = e in absurd cc
  reads_chosen None (Some d) s high (n, held, less, is, same, most) e = inr (
    n,
    held,
    record {
      level = record { is = is; greatest = λ m other there. (most m other (low_of m other there) there).0; none = λ m other there flag. absurd (high m other (low_of m other there) there flag) };
      lowest = λ m other also. let k = also.greatest n held is in let j = most m other (low_of m other also.is) also.is in let low = j.0 in j.1 (omega (arith, k, low));
    },
    state_is,
  )
    where
      state_is : s ≡ held.decided
      state_is = let one : d ≡ s = cc in sym one ∙ same
  reads_chosen (Some x) (Some d) s (k, cell, lower, at, flag, x_is, highest) (n, held, less, is, same, most) e = test (nat_lt d.index x.state.index) refl
    where
      index : d.index ≡ held.decided.index
      index = ap (λ (t : GlobalState). t.index) same

      above_is : x.state.index ≡ cell.accepted.index
      above_is = ap (λ (y : Accepted). y.state.index) x_is

      test : (t : Bool) → nat_lt d.index x.state.index ≡ t → ReadsFirst cells s
      test true t =
          let more : d.index < x.state.index = grind (arith, nat_tests, t) in
          let told : Some x.state ≡ Some s = subst (λ (b : Bool). (if b then Some x.state else Some d) ≡ Some s) t e in
          let one : x.state ≡ s = cc in
          inl (k, cell, ahead_first k cell at flag highest (λ m other there. let j = (most m other (low_of m other there) there).0 in omega (arith, j, more, index, above_is)), sym one ∙ ap (λ (y : Accepted). y.state) x_is)
      test false t =
          let no_more : x.state.index ≤ d.index = grind (arith, nat_tests, t) in
          let told : Some d ≡ Some s = subst (λ (b : Bool). (if b then Some x.state else Some d) ≡ Some s) t e in
          let one : d ≡ s = cc in
          inr (
            n,
            held,
            record {
              level = record {
                is = is;
                greatest = λ m other there. (most m other (low_of m other there) there).0;
                none = λ m other there flagged. at_most m other (highest m other (low_of m other there) there flagged) no_more;
              };
              lowest = λ m other also. let j = also.greatest n held is in let i = most m other (low_of m other also.is) also.is in let low = i.0 in i.1 (omega (arith, j, low));
            },
            sym one ∙ same,
          )
        where
          at_most : (m : ℕ) (other : Held) → NoMore m other k cell → x.state.index ≤ d.index → other.accepted.index ≤ held.decided.index
          at_most m other (inl lower) no_more = omega (arith, lower, no_more, index, above_is)
          at_most m other (inr (level, rest)) no_more = omega (arith, level, no_more, index, above_is)

  pub chosen_reads : (s : GlobalState) → chosen_of a b c ≡ Some s → ReadsFirst (three a b c) s
  unfolding cells
  chosen_reads s e = reads_chosen (higher_of (higher_of (accepted_of a) (accepted_of b)) (accepted_of c)) (later_of (later_of (decided_of a) (decided_of b)) (decided_of c)) s high_is best_is e
