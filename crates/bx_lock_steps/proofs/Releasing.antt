-- The last term's master hears a release.
use Rattle.std.proofs.Common.{◌≡◌, ⊎_elim, ℕ, ◌≤◌, Bool, true, false, List, Option, Some, None, refl, sym, ◌∙◌, ap, subst, arith}
use Rattle.std.specs.Prelude.{◌&&◌, not, if◌then◌else◌}
use Rattle.bx_base.specs.declared.names.Mode.{Mode}
use Rattle.bx_global.specs.declared.state.GlobalState.{GlobalState}
use Rattle.bx_rows.specs.Words.{row_in}
use Rattle.bx_facts.specs.Chains.{Chain, HasRow, LivesIn}
use Rattle.bx_lock_words.specs.declared.words.Release.{Release}
use Rattle.bx_lock_words.specs.declared.words.Word.{Word}
use Rattle.bx_lock_words.specs.declared.words.Word.TheVariants.{Releases}
use Rattle.bx_locking.specs.Tables.{AreLocks, Side, Term}
use Rattle.bx_locking.specs.Words.{IsSaid}
use Rattle.bx_locking.proofs.Basics.{lives_has, number_given, same_or}
use Rattle.bx_locking.proofs.Hearing.{hears_index, hears_release}
use Rattle.bx_lock_tables.specs.Accounts.{expires_in, row_for}
use Rattle.bx_lock_tables.specs.Rows.{lives}
use Rattle.bx_lock_tables.specs.declared.rows.Row.{Row}
use Rattle.bx_master.specs.Events.{carrying, freeing, let_go, may_speak}
use Rattle.bx_master.specs.Masters.{Mastering}
use Rattle.bx_lock_steps.specs.Machines.{AreAccounts, IsTied, entry_from, number_from}
use Rattle.bx_lock_steps.proofs.Accounts.{Lists, lists}
use Rattle.bx_lock_steps.proofs.Verdicts.{alive_lives}

pub both_true : (a b : Bool) → (a && b) ≡ true → (a ≡ true) × (b ≡ true)
both_true true b is = (refl, is)
both_true false b is = absurd cc

pub not_true : (b : Bool) → not b ≡ true → b ≡ false
not_true true is = absurd cc
not_true false is = refl

-- a session that may speak lives in what is known, and its expiry wasn't asked for
pub record Speaks (known : GlobalState) (m : Mastering) (s : ℕ) : Type 0 where
  pub alive : LivesIn known s
  pub quiet : expires_in m.accounts s ≡ false

pub speaks : (known : GlobalState) (m : Mastering) (s : ℕ) → may_speak known s m ≡ true → Speaks known m s
speaks known m s may =
    let both = both_true (lives known s) (not (expires_in m.accounts s)) may in
    record { alive = alive_lives (row_in known.sessions s) both.0; quiet = not_true (expires_in m.accounts s) both.1 }

-- ---- of nothing that stands: the index alone is kept

abbrev pub term_carrying : Term → Mastering → Release → Term
term_carrying term m l = record { view = term.view; index = (carrying l m).index; table = term.table; listed = term.listed; expiring = term.expiring }

pub record Carries (chain : Chain) (holding : ℕ → ℕ → Option (Mode × ℕ)) (floor : ℕ → ℕ) (said : List Word) (side : Side) (term : Term) (noted : ℕ → ℕ) (m : Mastering) (known : GlobalState) (l : Release) : Type 0 where
  pub locks : AreLocks chain holding floor said side (term_carrying term m l)
  pub tied : IsTied chain (term_carrying term m l) noted (carrying l m) known

pub carries_on : (chain : Chain) (holding : ℕ → ℕ → Option (Mode × ℕ)) (floor : ℕ → ℕ) (said : List Word) (side : Side) (term : Term) (noted : ℕ → ℕ) (m : Mastering) (known : GlobalState) (l : Release) → AreLocks chain holding floor said side term → IsTied chain term noted m known
    → Carries chain holding floor said side term noted m known l
carries_on chain holding floor said side term noted m known l locks tied = record {
  locks = hears_index chain holding floor said side term (carrying l m).index locks (let e = tied.index in omega (arith, e));
  tied = record {
    view = tied.view;
    index = refl;
    table = tied.table;
    listed = tied.listed;
    expiring = tied.expiring;
    noted_is = tied.noted_is;
    unknown = λ s later. let u = tied.unknown s later in record { account = u.account; listed = u.listed; expiring = u.expiring; noted_is = u.noted_is };
    earlier = tied.earlier;
  };
}

-- ---- of what stands: it stands no more

abbrev pub freed : Mastering → Release → Row → Mastering
freed m l row = freeing l (Some row) (carrying l m)

abbrev pub term_freed : Term → Mastering → Release → Row → Term
term_freed term m l row = record { view = term.view; index = (freed m l row).index; table = λ s b. entry_from (row_for (freed m l row).accounts s b); listed = term.listed; expiring = term.expiring }

pub record Frees (chain : Chain) (holding : ℕ → ℕ → Option (Mode × ℕ)) (floor : ℕ → ℕ) (said : List Word) (side : Side) (term : Term) (noted : ℕ → ℕ) (m : Mastering) (known : GlobalState) (l : Release) (row : Row) : Type 0 where
  pub locks : AreLocks chain holding floor said side (term_freed term m l row)
  pub tied : IsTied chain (term_freed term m l row) noted (freed m l row) known

-- its session may speak, and the row has its number
pub frees_on : (chain : Chain) (holding : ℕ → ℕ → Option (Mode × ℕ)) (floor : ℕ → ℕ) (said : List Word) (side : Side) (term : Term) (noted : ℕ → ℕ) (m : Mastering) (known : GlobalState) (l : Release) (row : Row) → AreLocks chain holding floor said side term → IsTied chain term noted m known
    → AreAccounts side.drawn 0 m.accounts → IsSaid said (Releases l) → Speaks known m l.session → row_for m.accounts l.session l.block ≡ Some row → row.stands ≡ true → row.number ≡ l.number
    → Frees chain holding floor said side term noted m known l row
frees_on chain holding floor said side term noted m known l row locks tied are has may there stands number = record {
  locks = hears_release chain holding floor said side term l (record { mode = row.mode; number = row.number; index = row.index }) (freed m l row).index (term_freed term m l row).table locks has
      (subst (λ (x : GlobalState). LivesIn x l.session) (sym tied.view) may.alive)
      (tied.expiring l.session (lives_has known l.session may.alive) ∙ may.quiet)
      (tied.table l.session l.block ∙ ap entry_from there ∙ ap (λ (b : Bool). if b then Some (record { mode = row.mode; number = row.number; index = row.index }) else None) stands)
      number (let e = tied.index in omega (arith, e)) (omega arith)
      (record {
        at = ap entry_from puts.here;
        others = λ s b differ. ap entry_from (puts.others s b differ) ∙ sym (tied.table s b);
      });
  tied = record {
    view = tied.view;
    index = refl;
    table = λ s b. refl;
    listed = λ s b has_row. tied.listed s b has_row ∙ ⊎_elim
        (λ same. ap (λ (n : ℕ). number_from (row_for m.accounts n b)) same.0 ∙ ap (λ (n : ℕ). number_from (row_for m.accounts l.session n)) same.1 ∙ ap number_from there
        ∙ sym (ap (λ (n : ℕ). number_from (row_for (freed m l row).accounts n b)) same.0 ∙ ap (λ (n : ℕ). number_from (row_for (freed m l row).accounts l.session n)) same.1 ∙ ap number_from puts.here))
        (λ other. sym (ap number_from (puts.others s b other)))
        (same_or s l.session b l.block);
    expiring = λ s has_row. tied.expiring s has_row ∙ sym (puts.marks s);
    noted_is = λ s has_row. tied.noted_is s has_row ∙ sym (puts.ends s);
    unknown = λ s later. let u = tied.unknown s later in record {
      account = puts.gone s (not_later s later) u.account;
      listed = u.listed;
      expiring = u.expiring;
      noted_is = u.noted_is;
    };
    earlier = tied.earlier;
  };
}
  where
    puts : Lists l.session l.block (let_go row) m.accounts (freed m l row).accounts
    puts = lists side.drawn 0 m.accounts l.session l.block (let_go row) are

    not_later : (s : ℕ) → known.next_session ≤ s → s ≡ l.session → ⊥
    not_later s later same = let k = number_given chain locks.chained term.view locks.term_is.place l.session (subst (λ (x : GlobalState). HasRow x l.session) (sym tied.view) (lives_has known l.session may.alive)) in
        let e = ap (λ (x : GlobalState). x.next_session) tied.view in omega (arith, later, same, k, e)
