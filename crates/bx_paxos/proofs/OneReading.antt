-- An image is read as one state at most.
use Rattle.std.proofs.Common.{◌≡◌, ℕ, ◌≤◌, ◌⊎◌, inl, inr, List, length, Option, Some, None, refl, sym, ap, subst, ◌∙◌, arith}
use Rattle.bx_acceptor.proofs.Taking.{one_found}
use Rattle.bx_agreement.specs.Sound.{IsAhead, IsLevel}
use Rattle.bx_disk.specs.Disks.{Image}
use Rattle.bx_global.specs.declared.held.Held.{Held}
use Rattle.bx_global.specs.declared.state.GlobalState.{GlobalState}
use Rattle.bx_paxos.specs.Reading.{AreSeen, ReadsFirst, ReadsState}

-- what one finds in a cell the other does
seen_too : (devices : ℕ) (sizes : List ℕ) (image : Image) (a b : ℕ → Option Held) → AreSeen devices sizes image a → AreSeen devices sizes image b → (n : ℕ) (held : Held) → a n ≡ Some held → b n ≡ Some held
seen_too devices sizes image a b of_a of_b n held at = by (b n) refl
  where
    by : (o : Option Held) → b n ≡ o → b n ≡ Some held
    by None none = let k = of_a.some n held at in absurd (of_b.none n k.1.0 held none k.0 k.1.1)
    by (Some other) there =
        let k = of_a.some n held at in
        let l = of_b.some n other there in
        there ∙ ap (λ (h : Held). Some h) (one_found devices (image n) l.1.0 k.1.0 other held l.1.1 k.1.1).1

module _ (a b : ℕ → Option Held) (to_b : (n : ℕ) (held : Held) → a n ≡ Some held → b n ≡ Some held) (to_a : (n : ℕ) (held : Held) → b n ≡ Some held → a n ≡ Some held) where
  ahead_too : (n : ℕ) (held : Held) → IsAhead a n held → IsAhead b n held
  ahead_too n held is = record {
    is = to_b n held is.is;
    flag = is.flag;
    above = λ m other at. is.above m other (to_a m other at);
    greatest = λ m other at flag. is.greatest m other (to_a m other at) flag;
    highest = λ m other at flag. is.highest m other (to_a m other at) flag;
  }

  level_too : (n : ℕ) (held : Held) → IsLevel a n held → IsLevel b n held
  level_too n held is = record {
    is = to_b n held is.is;
    greatest = λ m other at. is.greatest m other (to_a m other at);
    none = λ m other at flag. is.none m other (to_a m other at) flag;
  }

  -- of one replica they tell one thing
  same_held : (n m : ℕ) (held other : Held) → a n ≡ Some held → b m ≡ Some other → m ≡ n → other ≡ held
  same_held n m held other at there same = let both : Some other ≡ Some held = sym there ∙ ap b same ∙ to_b n held at in cc

  -- none is above all decided ones where another counts for all
  never_both : (n m : ℕ) (held other : Held) → IsAhead a n held → IsLevel b m other → ⊥
  never_both n m held other ahead level =
      let high = ahead.above m other (to_a m other level.is) in
      let low = level.none n held (to_b n held ahead.is) ahead.flag in
      omega (arith, high, low)

module _ (a b : ℕ → Option Held) (to_b : (n : ℕ) (held : Held) → a n ≡ Some held → b n ≡ Some held) (to_a : (n : ℕ) (held : Held) → b n ≡ Some held → a n ≡ Some held) where
  one_first : (s t : GlobalState) → ReadsFirst a s → ReadsFirst b t → t ≡ s
  one_first s t (inl (n, held, first, is)) (inl (m, other, last, also)) =
      let least = first.lowest m other (ahead_too b a to_a to_b m other last.ahead) in
      let most = last.lowest n held (ahead_too a b to_b to_a n held first.ahead) in
      also ∙ ap (λ (h : Held). h.accepted) (same_held a b to_b to_a n m held other first.ahead.is last.ahead.is (omega (arith, least, most))) ∙ sym is
  one_first s t (inl (n, held, first, is)) (inr (m, other, last, also)) = absurd (never_both a b to_b to_a n m held other first.ahead last.level)
  one_first s t (inr (n, held, first, is)) (inl (m, other, last, also)) = absurd (never_both b a to_a to_b m n other held last.ahead first.level)
  one_first s t (inr (n, held, first, is)) (inr (m, other, last, also)) =
      let least = first.lowest m other (level_too b a to_a to_b m other last.level) in
      let most = last.lowest n held (level_too a b to_b to_a n held first.level) in
      also ∙ ap (λ (h : Held). h.decided) (same_held a b to_b to_a n m held other first.level.is last.level.is (omega (arith, least, most))) ∙ sym is

pub one_reading : (made : GlobalState) (sizes : List ℕ) (image : Image) (s t : GlobalState) → ReadsState made sizes image s → ReadsState made sizes image t → t ≡ s
one_reading made sizes image s t one other =
    let devices = length made.devices in
    one_first one.seen other.seen (seen_too devices sizes image one.seen other.seen one.are other.are) (seen_too devices sizes image other.seen one.seen other.are one.are) s t one.tells.reads other.tells.reads
