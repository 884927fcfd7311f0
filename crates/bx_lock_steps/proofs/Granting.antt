-- The last term's master grants a want, by the row on grants.
use Rattle.std.proofs.Common.{◌≡◌, inl, ⊎_elim, ℕ, ◌≤◌, Bool, true, false, List, ◌∷◌, Option, Some, refl, sym, ◌∙◌, ap, subst, arith}
use Rattle.std.specs.Prelude.{◌==◌, ◌&&◌, if◌then◌else◌}
use Rattle.std.proofs.lemmas.Bool.Decides.{eqb_tells, nat_tests}
use Rattle.bx_base.specs.declared.names.Mode.{Mode}
use Rattle.bx_global.specs.declared.state.GlobalState.{GlobalState}
use Rattle.bx_facts.specs.Chains.{Chain, oldest}
use Rattle.bx_lock_words.specs.declared.words.Grant.{Grant}
use Rattle.bx_lock_words.specs.declared.words.Want.{Want}
use Rattle.bx_lock_words.specs.declared.words.Word.{Word}
use Rattle.bx_lock_words.specs.declared.words.Word.TheVariants.{Grants as GrantsWord, Wants}
use Rattle.bx_locking.specs.Tables
use Rattle.bx_locking.specs.Tables.{AreLocks, Entry, Puts, Side, Table, Term}
use Rattle.bx_locking.specs.Words.{IsSaid}
use Rattle.bx_locking.proofs.Basics.{lives_has, number_given, same_or}
use Rattle.bx_locking.proofs.Masters.{MayGrant, grants_want}
use Rattle.bx_lock_tables.specs.Accounts.{row_for}
use Rattle.bx_lock_tables.specs.Rows.{is_again, listed_for, verdict_of}
use Rattle.bx_lock_tables.specs.declared.rows.Row.{Row}
use Rattle.bx_lock_tables.specs.declared.verdict.Verdict.TheVariants.{Grants}
use Rattle.bx_master.specs.Events.{grant_of}
use Rattle.bx_master.specs.Masters.{Mastering, listing}
use Rattle.bx_lock_steps.specs.Machines.{AreAccounts, IsTied, entry_from, entry_of, number_from}
use Rattle.bx_lock_steps.proofs.Accounts.{Lists, lists}
use Rattle.bx_lock_steps.proofs.Verdicts.{may_grant, new_grant, own_row, rows_of}

-- ---- a grant

abbrev pub listed_now : Term → Want → ℕ → ℕ → ℕ
listed_now term w s b = if (s == w.session) && (b == w.block) then w.number else term.listed s b

listed_puts : (term : Term) (w : Want) → Puts w.session w.block w.number term.listed (listed_now term w)
listed_puts term w = record {
  at = let e : (w.session == w.session) ≡ true = grind (arith, nat_tests) in let f : (w.block == w.block) ≡ true = grind (arith, nat_tests) in rw (e, f) refl;
  others = λ t c differ. ⊎_elim
      (λ other. let e : (t == w.session) ≡ false = not_equal t w.session other in rw e refl)
      (λ other. let e : (c == w.block) ≡ false = not_equal c w.block other in by_first t c e (t == w.session) refl)
      differ;
}
  where
    not_equal : (a b : ℕ) → (a ≡ b → ⊥) → (a == b) ≡ false
    not_equal a b differ = ⊎_elim (λ same. absurd (differ same.1)) (λ other. other.0) (eqb_tells a b)

    by_first : (t c : ℕ) → (c == w.block) ≡ false → (b : Bool) → (t == w.session) ≡ b → listed_now term w t c ≡ term.listed t c
    by_first t c e true so = rw (so, e) refl
    by_first t c e false not_so = rw not_so refl

abbrev pub term_granted : Term → Mastering → Want → Row → Term
term_granted term m w row = record { view = term.view; index = term.index; table = λ s b. entry_from (row_for (listing w row m).accounts s b); listed = listed_now term w; expiring = term.expiring }

pub record GrantsOn (chain : Chain) (holding : ℕ → ℕ → Option (Mode × ℕ)) (floor : ℕ → ℕ) (said : List Word) (side : Side) (term : Term) (noted : ℕ → ℕ) (m : Mastering) (known : GlobalState) (w : Want) (row : Row) : Type 0 where
  pub locks : AreLocks chain holding floor (GrantsWord (grant_of w.block row) ∷ said) side (term_granted term m w row)
  pub tied : IsTied chain (term_granted term m w row) noted (listing w row m) known

pub grants_on : (chain : Chain) (holding : ℕ → ℕ → Option (Mode × ℕ)) (floor : ℕ → ℕ) (said : List Word) (side : Side) (term : Term) (noted : ℕ → ℕ) (m : Mastering) (known : GlobalState) (reading : ℕ) (w : Want) (row : Row) → AreLocks chain holding floor said side term → IsTied chain term noted m known
    → AreAccounts side.drawn 0 m.accounts → oldest chain ≤ w.session → IsSaid said (Wants w) → verdict_of known m.last_dead m.index reading (rows_of m w) w ≡ Grants row → is_again (own_row m w) w ≡ false
    → GrantsOn chain holding floor said side term noted m known w row
grants_on chain holding floor said side term noted m known reading w row locks tied are of_term has verdict new = record {
  locks = subst (λ (g : Grant). AreLocks chain holding floor (GrantsWord g ∷ said) side (term_granted term m w row)) (sym same_grant)
      (grants_want chain holding floor said side term (new_grant m w) w (term_granted term m w row).table (listed_now term w) locks has refl refl refl (sym tied.index) may.1
      (record {
        at = ap entry_from puts.here ∙ entry_is;
        others = λ t c differ. ap entry_from (puts.others t c differ) ∙ sym (tied.table t c);
      })
      (listed_puts term w));
  tied = record {
    view = tied.view;
    index = tied.index;
    table = λ s b. refl;
    listed = λ s b known_row. ⊎_elim
        (λ same. ap (λ (n : ℕ). listed_now term w n b) same.0 ∙ ap (λ (n : ℕ). listed_now term w w.session n) same.1 ∙ (listed_puts term w).at
        ∙ sym (ap (λ (n : ℕ). number_from (row_for (listing w row m).accounts n b)) same.0 ∙ ap (λ (n : ℕ). number_from (row_for (listing w row m).accounts w.session n)) same.1
        ∙ ap number_from puts.here ∙ ap (λ (x : Row). x.number) may.0))
        (λ other. (listed_puts term w).others s b other ∙ tied.listed s b known_row ∙ sym (ap number_from (puts.others s b other)))
        (same_or s w.session b w.block);
    expiring = λ s known_row. tied.expiring s known_row ∙ sym (puts.marks s);
    noted_is = λ s known_row. tied.noted_is s known_row ∙ sym (puts.ends s);
    unknown = λ s later. let u = tied.unknown s later in record {
      account = puts.gone s (not_later s later) u.account;
      listed = λ b. (listed_puts term w).others s b (inl (not_later s later)) ∙ u.listed b;
      expiring = u.expiring;
      noted_is = u.noted_is;
    };
    earlier = tied.earlier;
  };
}
  where
    may : (row ≡ listed_for (own_row m w) m.index w) × MayGrant chain term.view term.table term.listed (new_grant m w)
    may = may_grant chain holding floor said side term noted m known reading w row locks tied are of_term verdict new

    puts : Lists w.session w.block row m.accounts (listing w row m).accounts
    puts = lists side.drawn 0 m.accounts w.session w.block row are

    same_grant : grant_of w.block row ≡ new_grant m w
    same_grant = ap (grant_of w.block) may.0

    entry_is : entry_from (Some row) ≡ Some (Tables.entry_of (new_grant m w))
    entry_is = ap (λ (x : Row). entry_of x) may.0

    not_later : (s : ℕ) → known.next_session ≤ s → s ≡ w.session → ⊥
    not_later s later same = let k = number_given chain locks.chained term.view locks.term_is.place w.session (lives_has term.view w.session may.1.lives) in let e = ap (λ (x : GlobalState). x.next_session) tied.view in omega (arith, later, same, k, e)
