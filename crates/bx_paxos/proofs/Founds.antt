-- What the images of a volume that was found are read as.
use Rattle.std.proofs.Common.{◌≡◌, ℕ, ◌<◌, ◌≤◌, ◌⊎◌, Option, Some, None, refl, sym, ap, subst, ◌∙◌, inl, inr, arith}
use Rattle.std.proofs.lemmas.Bool.{cases_lt}
use Rattle.bx_answers.specs.Handling.{caught_up}
use Rattle.bx_agreement.proofs.Founds.{found_ahead, found_level}
use Rattle.bx_agreement.proofs.Readings.{level}
use Rattle.bx_agreement.specs.Cells.{CatchUp, WasFound}
use Rattle.bx_agreement.specs.History.{History}
use Rattle.bx_agreement.specs.Sound.{HasTwo, IsAhead, IsLevel, IsSound}
use Rattle.bx_facts.specs.Chains.{IsNext, last}
use Rattle.bx_global.specs.declared.held.Held.{Held}
use Rattle.bx_global.specs.declared.state.GlobalState.{GlobalState}
use Rattle.bx_paxos.specs.Reading.{IsLevelFirst, ReadsFirst, Tells}

-- ---- cells tell one state

some_is : (h k : Held) → Some h ≡ Some k → h ≡ k
some_is h k e = cc

one_cell : (cells : ℕ → Option Held) (n m : ℕ) (h k : Held) → n ≡ m → cells n ≡ Some h → cells m ≡ Some k → h ≡ k
one_cell cells n m h k same one other = some_is h k (sym one ∙ ap cells same ∙ other)

low_first : (n m : ℕ) → n ≤ m → m ≤ n → n ≡ m
low_first n m a b = omega (arith, a, b)

pub one_state : (cells : ℕ → Option Held) (s t : GlobalState) → ReadsFirst cells s → ReadsFirst cells t → s ≡ t
one_state cells s t (inl (n, h, is, e)) (inl (m, k, also, f)) =
    let same = low_first n m (is.lowest m k also.ahead) (also.lowest n h is.ahead) in
    e ∙ ap (λ (x : Held). x.accepted) (one_cell cells n m h k same is.ahead.is also.ahead.is) ∙ sym f
one_state cells s t (inl (n, h, is, e)) (inr (m, k, also, f)) =
    let above = is.ahead.above m k also.level.is in let none = also.level.none n h is.ahead.is is.ahead.flag in absurd (omega (arith, above, none))
one_state cells s t (inr (n, h, is, e)) (inl (m, k, also, f)) =
    let above = also.ahead.above n h is.level.is in let none = is.level.none m k also.ahead.is also.ahead.flag in absurd (omega (arith, above, none))
one_state cells s t (inr (n, h, is, e)) (inr (m, k, also, f)) =
    let same = low_first n m (is.lowest m k also.level) (also.lowest n h is.level) in
    e ∙ ap (λ (x : Held). x.decided) (one_cell cells n m h k same is.level.is also.level.is) ∙ sym f

-- the same of cells that have the same
module _ (one other : ℕ → Option Held) (there : (n : ℕ) (held : Held) → one n ≡ Some held → other n ≡ Some held) (back : (n : ℕ) (held : Held) → other n ≡ Some held → one n ≡ Some held) where
  ahead_so : (n : ℕ) (held : Held) → IsAhead one n held → IsAhead other n held
  ahead_so n held is = record {
    is = there n held is.is;
    flag = is.flag;
    above = λ m k e. is.above m k (back m k e);
    greatest = λ m k e flag. is.greatest m k (back m k e) flag;
    highest = λ m k e flag index. is.highest m k (back m k e) flag index;
  }

  level_so : (n : ℕ) (held : Held) → IsLevel one n held → IsLevel other n held
  level_so n held is = record { is = there n held is.is; greatest = λ m k e. is.greatest m k (back m k e); none = λ m k e flag. is.none m k (back m k e) flag }

pub reads_so : (one other : ℕ → Option Held) (s : GlobalState) → ((n : ℕ) (held : Held) → one n ≡ Some held → other n ≡ Some held) → ((n : ℕ) (held : Held) → other n ≡ Some held → one n ≡ Some held) → ReadsFirst one s → ReadsFirst other s
reads_so one other s there back (inl (n, h, is, e)) =
    inl (n, h, record { ahead = ahead_so one other there back n h is.ahead; lowest = λ m k also. is.lowest m k (ahead_so other one back there m k also) }, e)
reads_so one other s there back (inr (n, h, is, e)) =
    inr (n, h, record { level = level_so one other there back n h is.level; lowest = λ m k also. is.lowest m k (level_so other one back there m k also) }, e)

-- what was found is nothing above the state that it tells
was_found : (was : ℕ → Option Held) (first : GlobalState) → ReadsFirst was first → (n : ℕ) (held : Held) → was n ≡ Some held → WasFound first held
was_found was first (inl (m, k, is, e)) n held at =
    let index = ap (λ (x : GlobalState). x.index) e in
    let above = is.ahead.above n held at in
    record {
      decided = omega (arith, index, above);
      accepted = λ flag. let most = is.ahead.greatest n held at flag in omega (arith, index, most);
    }
was_found was first (inr (m, k, is, e)) n held at =
    let index = ap (λ (x : GlobalState). x.index) e in
    let most = is.level.greatest n held at in
    record {
      decided = omega (arith, index, most);
      accepted = λ flag. let none = is.level.none n held at flag in omega (arith, index, none);
    }

-- a decided state of the first state's index, of the lowest replica that has one, is the first state
was_level : (was : ℕ → Option Held) (first : GlobalState) → ReadsFirst was first → (n : ℕ) (held : Held) → was n ≡ Some held → held.decided.index ≡ first.index
    → (m : ℕ) × (k : Held) × (was m ≡ Some k) × (first ≡ k.decided) × (m ≤ n)
was_level was first (inl (m, k, is, e)) n held at same = let index = ap (λ (x : GlobalState). x.index) e in let above = is.ahead.above n held at in absurd (omega (arith, index, above, same))
was_level was first (inr (m, k, is, e)) n held at same =
    let index = ap (λ (x : GlobalState). x.index) e in (
      m,
      k,
      is.level.is,
      e,
      is.lowest n held (record {
        is = at;
        greatest = λ i other there. let most = is.level.greatest i other there in omega (arith, index, same, most);
        none = λ i other there flag. let none = is.level.none i other there flag in omega (arith, index, same, none);
      }),
    )

-- ---- cells some of which stand as they were found

-- What is seen of a replica stands as it was found, and counts as caught up; or it was put since, and knows no less than the first state.
pub record Stood (first : GlobalState) (was cells : ℕ → Option Held) (n : ℕ) (held : Held) : Type 0 where
  pub old : Held
  pub was_old : was n ≡ Some old
  pub kind : ((cells n ≡ Some held) × (first.index ≤ held.decided.index)) ⊎ ((held ≡ old) × (cells n ≡ Some (caught_up first held)))

module _ (h : History) (cells : ℕ → Option Held) (sound : IsSound h cells) (was seen : ℕ → Option Held) (told : Tells was h.chain.first)
    (stood : (n : ℕ) (held : Held) → seen n ≡ Some held → Stood h.chain.first was cells n held) (covers : (n : ℕ) (held : Held) → was n ≡ Some held → (now : Held) × (seen n ≡ Some now)) where
  abbrev first : GlobalState
  first = h.chain.first

  -- what is seen, caught up
  abbrev of_seen : Option Held → Option Held → Option Held
  of_seen None cell = None
  of_seen (Some held) cell = cell

  abbrev caught : ℕ → Option Held
  caught n = of_seen (seen n) (cells n)

  caught_at : (n : ℕ) (held : Held) → seen n ≡ Some held → caught n ≡ cells n
  caught_at n held e = ap (λ (o : Option Held). of_seen o (cells n)) e

  caught_seen : (n : ℕ) (held : Held) → caught n ≡ Some held → (old : Held) × (seen n ≡ Some old) × (cells n ≡ Some held)
  caught_seen n held e = by (seen n) refl e
    where
      by : (o : Option Held) → seen n ≡ o → of_seen o (cells n) ≡ Some held → (old : Held) × (seen n ≡ Some old) × (cells n ≡ Some held)
      by None at k = absurd cc
      by (Some old) at k = (old, at, k)

  within : (n : ℕ) (held : Held) → caught n ≡ Some held → cells n ≡ Some held
  within n held e = (caught_seen n held e).2

  none_above : (n : ℕ) (held : Held) → was n ≡ Some held → WasFound first held
  none_above = was_found was first told.reads

  catch : CatchUp first seen caught (λ n. Unit {0})
  catch = record {
    kinds = λ n held e. let s = stood n held e in elim s.kind [
      | inl put ↦ inl (tt, caught_at n held e ∙ put.0, put.1)
      | inr found ↦ inr (subst (WasFound first) (sym found.0) (none_above n s.old s.was_old), caught_at n held e ∙ found.1)
    ];
    whole = λ n held e. let c = caught_seen n held e in let s = stood n c.0 c.1 in (
      c.0,
      c.1,
      elim s.kind [
        | inl put ↦ inl (some_is held c.0 (sym c.2 ∙ put.0))
        | inr found ↦ inr (some_is held (caught_up first c.0) (sym c.2 ∙ found.1), subst (WasFound first) (sym found.0) (none_above n s.old s.was_old))
      ],
    );
  }

  -- two are seen, and so caught up
  two_of : (k l : ℕ) (one other : Held) → HasTwo seen k l one other → (a : Held) × (b : Held) × HasTwo caught k l a b
  two_of k l one other two =
      let a = cell_of k one two.is_one in
      let b = cell_of l other two.is_other in
      (a.0, b.0, record { two = two.two; is_one = caught_at k one two.is_one ∙ a.1; is_other = caught_at l other two.is_other ∙ b.1 })
    where
      cell_of : (n : ℕ) (held : Held) → seen n ≡ Some held → (a : Held) × (cells n ≡ Some a)
      cell_of n held e = elim (stood n held e).kind [ inl put ↦ (held, put.0) | inr found ↦ (caught_up first held, found.1) ]

  module _ (k l : ℕ) (one other : Held) (two : HasTwo seen k l one other) where
    -- where no cell that is seen knows more than the first state, that is the last
    first_last : (n : ℕ) (held : Held) → seen n ≡ Some held → cells n ≡ Some (caught_up first held) → ((m : ℕ) (their : Held) → seen m ≡ Some their → their.decided.index ≤ first.index)
        → ((m : ℕ) (their : Held) → seen m ≡ Some their → their.flag ≡ 1 → their.accepted.index ≤ first.index) → first ≡ last h.chain
    first_last n held e is decided accepted =
        let t = two_of k l one other two in
        level h cells sound caught within k l t.0 t.1 t.2 n (caught_up first held) (record {
          is = caught_at n held e ∙ is;
          greatest = λ m their at. let w = catch.whole m their at in elim w.2 [
            | inl same ↦ subst (λ (x : Held). x.decided.index ≤ first.index) (sym same) (decided m w.0 w.1)
            | inr found ↦ subst (λ (x : Held). x.decided.index ≤ first.index) (sym found.0) (omega arith)
          ];
          none = λ m their at flag. let w = catch.whole m their at in elim w.2 [
            | inl same ↦ subst (λ (x : Held). x.accepted.index ≤ first.index) (sym same) (accepted m w.0 w.1 (ap (λ (x : Held). x.flag) (sym same) ∙ flag))
            | inr found ↦ let zero_is : 0 ≡ their.flag = ap (λ (x : Held). x.flag) (sym found.0) in absurd (omega (arith, zero_is, flag))
          ];
        })

    -- .. and where each knows less, all stand as they were found, and tell it
    untouched : (s : GlobalState) → ReadsFirst seen s → ((m : ℕ) (their : Held) → seen m ≡ Some their → their.decided.index < first.index) → (s ≡ first) × (first ≡ last h.chain)
    untouched s reads less =
        let at = stood k one two.is_one in (
          one_state was s first (reads_so seen was s there back reads) told.reads,
          elim at.kind [
            | inl put ↦ absurd (not_put k one two.is_one put.1)
            | inr found ↦ first_last k one two.is_one found.1 (λ m their e. let low = less m their e in omega (arith, low))
                (λ m their e flag. let s = stood m their e in elim s.kind [
                  | inl put ↦ absurd (not_put m their e put.1)
                  | inr as_found ↦ (subst (WasFound first) (sym as_found.0) (none_above m s.old s.was_old)).accepted flag
                ])
          ],
        )
      where
        not_put : (m : ℕ) (their : Held) → seen m ≡ Some their → first.index ≤ their.decided.index → ⊥
        not_put m their e high = let low = less m their e in omega (arith, low, high)

        there : (m : ℕ) (their : Held) → seen m ≡ Some their → was m ≡ Some their
        there m their e = let s = stood m their e in elim s.kind [
          | inl put ↦ absurd (not_put m their e put.1)
          | inr found ↦ s.was_old ∙ ap (λ (x : Held). Some x) (sym found.0)
        ]

        back : (m : ℕ) (their : Held) → was m ≡ Some their → seen m ≡ Some their
        back m their e = let now = covers m their e in now.1 ∙ ap (λ (x : Held). Some x) (some_is now.0 their (sym (there m now.0 now.1) ∙ e))

    pub next_ahead : (n : ℕ) (held : Held) (s : GlobalState) → ReadsFirst seen s → IsAhead seen n held → s ≡ held.accepted → IsNext h.proposed (last h.chain) s
    next_ahead n held s reads up same =
        let at = stood n held up.is in
        elim at.kind [
          | inl put ↦ let t = two_of k l one other two in
              subst (λ (x : GlobalState). IsNext h.proposed (last h.chain) x) (sym same) (found_ahead h cells sound caught within k l t.0 t.1 t.2 seen (λ m. Unit {0}) catch n held n held up.is put.1 up)
          | inr found ↦
              let most = (none_above n at.old at.was_old).accepted (ap (λ (x : Held). x.flag) (sym found.0) ∙ up.flag) in
              let mine : held.accepted.index ≤ first.index = subst (λ (x : Held). x.accepted.index ≤ first.index) (sym found.0) most in
              let both = untouched s reads (λ m their e. let above = up.above m their e in omega (arith, above, mine)) in
              inl (both.0 ∙ both.1)
        ]

    pub next_level : (n : ℕ) (held : Held) (s : GlobalState) → ReadsFirst seen s → IsLevelFirst seen n held → s ≡ held.decided → IsNext h.proposed (last h.chain) s
    next_level n held s reads is same =
        let at = stood n held is.level.is in
        elim at.kind [
          | inl put ↦ let t = two_of k l one other two in
              inl (same ∙ found_level h cells sound caught within k l t.0 t.1 t.2 seen (λ m. Unit {0}) catch n held (caught_at n held is.level.is ∙ put.0) put.1 is.level)
          | inr found ↦
              let mine : WasFound first held = subst (WasFound first) (sym found.0) (none_above n at.old at.was_old) in
              elim (cases_lt held.decided.index first.index) [
                | inl less ↦ let both = untouched s reads (λ m their e. let most = is.level.greatest m their e in omega (arith, less, most)) in inl (both.0 ∙ both.1)
                | inr high ↦
                    let low = mine.decided in
                    let level_is : held.decided.index ≡ first.index = omega (arith, low, high) in
                    let was_held : was n ≡ Some held = at.was_old ∙ ap (λ (x : Held). Some x) (sym found.0) in
                    inl (same ∙ first_is level_is was_held ∙ first_last n held is.level.is found.1 (λ m their e. let most = is.level.greatest m their e in omega (arith, level_is, most)) (λ m their e flag. let none = is.level.none m their e flag in omega (arith, level_is, none)))
              ]
        ]
      where
        first_is : held.decided.index ≡ first.index → was n ≡ Some held → held.decided ≡ first
        first_is level_is was_held =
            let lowest = was_level was first told.reads n held was_held level_is in
            by lowest.0 lowest.1 lowest.2 lowest.3 lowest.4
          where
            by : (m : ℕ) (old : Held) → was m ≡ Some old → first ≡ old.decided → m ≤ n → held.decided ≡ first
            by m old was_old e low =
                let now = covers m old was_old in
                let index : old.decided.index ≡ first.index = ap (λ (x : GlobalState). x.index) (sym e) in
                let stood_m = stood m now.0 now.1 in
                let high : first.index ≤ now.0.decided.index = elim stood_m.kind [
                  | inl put ↦ put.1
                  | inr as_found ↦ let one_is : now.0 ≡ old = as_found.0 ∙ some_is stood_m.old old (sym stood_m.was_old ∙ was_old) in let k = ap (λ (x : Held). x.decided.index) one_is in omega (arith, k, index)
                ] in
                let back = is.lowest m now.0 (record {
                  is = now.1;
                  greatest = λ i their there. let most = is.level.greatest i their there in omega (arith, most, level_is, high);
                  none = λ i their there flag. let none = is.level.none i their there flag in omega (arith, none, level_is, high);
                }) in
                ap (λ (x : Held). x.decided) (one_cell was n m held old (low_first n m back low) was_held was_old) ∙ sym e

  -- what is seen is read as the last state, or as one change ahead
  pub found_next : (s : GlobalState) → Tells seen s → IsNext h.proposed (last h.chain) s
  found_next s tells = by tells.reads
    where
      by : ReadsFirst seen s → IsNext h.proposed (last h.chain) s
      by (inl (n, held, is, e)) = next_ahead tells.one tells.other tells.one_held tells.other_held tells.two n held s tells.reads is.ahead e
      by (inr (n, held, is, e)) = next_level tells.one tells.other tells.one_held tells.other_held tells.two n held s tells.reads is e
