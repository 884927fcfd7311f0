-- The last term's master promises an end, and asks for an expiry.
use Rattle.std.proofs.Common.{◌≡◌, inl, inr, ⊎_elim, ℕ, ◌+◌, ◌<◌, ◌≤◌, true, List, ◌∷◌, Option, Some, sym, ◌∙◌, ap, subst, arith}
use Rattle.std.specs.Prelude.{is_some}
use Rattle.std.proofs.lemmas.Bool.Decides.{eqb_tells}
use Rattle.bx_base.specs.declared.names.Mode.{Mode}
use Rattle.bx_global.specs.declared.change.Change.{Change}
use Rattle.bx_global.specs.declared.change.Change.TheVariants.{Expire}
use Rattle.bx_global.specs.declared.state.GlobalState.{GlobalState}
use Rattle.bx_rows.specs.declared.session.SessionRow.{SessionRow}
use Rattle.bx_rows.specs.Words.{row_in}
use Rattle.bx_facts.specs.Chains.{Chain, HasRow, IsPlace, LivesIn, last, oldest}
use Rattle.bx_lock_words.specs.declared.words.Word.{Word}
use Rattle.bx_locking.specs.Leases.{AreLeases, IsExpiring}
use Rattle.bx_locking.specs.Tables.{AreLocks, Side, Term}
use Rattle.bx_locking.proofs.Basics.{lives_has, number_given}
use Rattle.bx_locking.proofs.Terms.{next_most}
use Rattle.bx_locking.proofs.Leases.{Marks, expires_now, hands, promises}
use Rattle.bx_lock_tables.specs.Accounts.{end_in, expires_in, marked, noting}
use Rattle.bx_master.specs.Events.{end_for, until_in}
use Rattle.bx_master.specs.Masters.{Mastering}
use Rattle.bx_lock_steps.specs.Machines.{AreAccounts, IsTied, entry_from, number_from}
use Rattle.bx_lock_steps.proofs.Accounts.{Marks as MarksIt, NotesEnd, marks_it, notes_end}
use Rattle.bx_lock_steps.proofs.Functions.{one_at, one_not, one_of}
use Rattle.bx_lock_steps.proofs.Releasing.{Speaks}

-- ---- an end is promised

abbrev pub renewing : ℕ → ℕ → Mastering → Mastering
renewing s e m = record m { accounts = noting s e m.accounts }

pub record Renewed (chain : Chain) (greatest : ℕ) (handed : List Change) (promised : List (ℕ × ℕ)) (noted ends : ℕ → ℕ) (term : Term) (m : Mastering) (known : GlobalState) (s e : ℕ) : Type 0 where
  pub leases : AreLeases chain greatest handed ((s, e) ∷ promised) (one_of s e noted) ends term.expiring
  pub tied : IsTied chain term (one_of s e noted) (renewing s e m) known

-- The session may speak. Its end isn't behind that of the known term, nor before the one that was noted.
pub renews_on : (chain : Chain) (holding : ℕ → ℕ → Option (Mode × ℕ)) (floor : ℕ → ℕ) (said : List Word) (side : Side) (term : Term) (greatest : ℕ) (handed : List Change) (promised : List (ℕ × ℕ)) (noted ends : ℕ → ℕ) (m : Mastering) (known : GlobalState) (s e : ℕ)
    → AreLocks chain holding floor said side term → AreLeases chain greatest handed promised noted ends term.expiring → IsTied chain term noted m known → AreAccounts side.drawn 0 m.accounts → IsPlace chain known
    → Speaks known m s → e ≤ known.term_end → end_in m.accounts s ≤ e
    → Renewed chain greatest handed promised noted ends term m known s e
renews_on chain holding floor said side term greatest handed promised noted ends m known s e locks leases tied are place may most least = record {
  leases = promises chain greatest handed promised noted (one_of s e noted) ends term.expiring term.view term.table s e locks.chained leases locks.term_is
      (subst (λ (x : GlobalState). LivesIn x s) (sym tied.view) may.alive) (tied.expiring s (lives_has known s may.alive) ∙ may.quiet)
      (let k = leases.term_ends known place in omega (arith, k, most))
      (one_at s e noted) (let n = tied.noted_is s (lives_has known s may.alive) in omega (arith, n, least)) (λ u differ. one_not s e noted u differ);
  tied = record {
    view = tied.view;
    index = tied.index;
    table = λ u b. tied.table u b ∙ sym (ap entry_from (puts.notes.rows u b));
    listed = λ u b row. tied.listed u b row ∙ sym (ap number_from (puts.notes.rows u b));
    expiring = λ u row. tied.expiring u row ∙ sym (puts.marks u);
    noted_is = λ u row. ⊎_elim
        (λ same. ap (one_of s e noted) same.1 ∙ one_at s e noted ∙ sym (ap (end_in (renewing s e m).accounts) same.1 ∙ puts.at))
        (λ other. one_not s e noted u other.1 ∙ tied.noted_is u row ∙ sym (puts.others u other.1))
        (eqb_tells u s);
    unknown = λ u later. let k = tied.unknown u later in record {
      account = puts.notes.gone u (not_later u later) k.account;
      listed = k.listed;
      expiring = k.expiring;
      noted_is = one_not s e noted u (not_later u later) ∙ k.noted_is;
    };
    earlier = tied.earlier;
  };
}
  where
    puts : NotesEnd s e m.accounts (renewing s e m).accounts
    puts = notes_end side.drawn 0 m.accounts s e are

    not_later : (u : ℕ) → known.next_session ≤ u → u ≡ s → ⊥
    not_later u later same = let k = number_given chain locks.chained known place s (lives_has known s may.alive) in omega (arith, later, same, k)

-- ---- an expiry

abbrev pub expiring_it : ℕ → Mastering → Mastering
expiring_it s m = record m { accounts = marked s m.accounts }

abbrev pub term_marked : Term → ℕ → Term
term_marked term s = record { view = term.view; index = term.index; table = term.table; listed = term.listed; expiring = one_of s true term.expiring }

pub record Expires (chain : Chain) (holding : ℕ → ℕ → Option (Mode × ℕ)) (floor : ℕ → ℕ) (said : List Word) (side : Side) (term : Term) (greatest : ℕ) (handed : List Change) (promised : List (ℕ × ℕ)) (noted ends : ℕ → ℕ) (m : Mastering) (known : GlobalState) (s reading : ℕ) : Type 0 where
  pub locks : AreLocks chain holding floor said side (term_marked term s)
  pub leases : AreLeases chain greatest (Expire s known.term reading ∷ handed) promised noted ends (term_marked term s).expiring
  pub tied : IsTied chain (term_marked term s) noted (expiring_it s m) known

pub expires_on : (chain : Chain) (holding : ℕ → ℕ → Option (Mode × ℕ)) (floor : ℕ → ℕ) (said : List Word) (side : Side) (term : Term) (greatest : ℕ) (handed : List Change) (promised : List (ℕ × ℕ)) (noted ends : ℕ → ℕ) (m : Mastering) (known : GlobalState) (reading s : ℕ) (row : SessionRow)
    → AreLocks chain holding floor said side term → AreLeases chain greatest handed promised noted ends term.expiring → IsTied chain term noted m known → AreAccounts side.drawn 0 m.accounts → IsPlace chain known → known.term ≡ (last chain).term
    → oldest chain ≤ s → row_in known.sessions s ≡ Some row → end_for known s m + 500 < reading → reading ≤ greatest
    → Expires chain holding floor said side term greatest handed promised noted ends m known s reading
expires_on chain holding floor said side term greatest handed promised noted ends m known reading s row locks leases tied are place now of_term there past most = record {
  locks = record {
    chained = locks.chained;
    sides = locks.sides;
    listed = locks.listed;
    term_is = record {
      place = locks.term_is.place;
      term = locks.term_is.term;
      dies = λ p at same u alive. ⊎_elim (λ living. inl living) (λ expires. inr (marks.each u expires)) (locks.term_is.dies p at same u alive);
      alone = locks.term_is.alone;
    };
    floors = locks.floors;
    held = locks.held;
  };
  leases = hands chain greatest handed promised noted ends term.expiring (one_of s true term.expiring) (Expire s known.term reading) leases marks
      (λ u v r is. let one : s ≡ u = cc in let two : known.term ≡ v = cc in let three : reading ≡ r = cc in (
        omega (arith, now, two),
        omega (arith, three, most),
        λ again.
            subst (λ (k : ℕ). IsExpiring promised (one_of s true term.expiring) (oldest chain) (last chain).next_session k r) one
            (subst (λ (k : ℕ). IsExpiring promised (one_of s true term.expiring) (oldest chain) (last chain).next_session s k) three
            (expires_now chain greatest handed promised noted ends term.expiring (one_of s true term.expiring) s reading leases of_term given (one_at s true term.expiring)
            (let e = ends_is in let n = tied.noted_is s has in omega (arith, past, e, n)))),
      ))
      (λ by boot r is. absurd cc);
  tied = record {
    view = tied.view;
    index = tied.index;
    table = λ u b. tied.table u b ∙ sym (ap entry_from (puts.notes.rows u b));
    listed = λ u b known_row. tied.listed u b known_row ∙ sym (ap number_from (puts.notes.rows u b));
    expiring = λ u known_row. ⊎_elim
        (λ same. ap (one_of s true term.expiring) same.1 ∙ one_at s true term.expiring ∙ sym (ap (expires_in (expiring_it s m).accounts) same.1 ∙ puts.at))
        (λ other. one_not s true term.expiring u other.1 ∙ tied.expiring u known_row ∙ sym (puts.others u other.1))
        (eqb_tells u s);
    noted_is = λ u known_row. tied.noted_is u known_row ∙ sym (puts.ends u);
    unknown = λ u later. let k = tied.unknown u later in record {
      account = puts.notes.gone u (not_later u later) k.account;
      listed = k.listed;
      expiring = one_not s true term.expiring u (not_later u later) ∙ k.expiring;
      noted_is = k.noted_is;
    };
    earlier = tied.earlier;
  };
}
  where
    puts : MarksIt s m.accounts (expiring_it s m).accounts
    puts = marks_it side.drawn 0 m.accounts s are

    has : HasRow known s
    has = ap (λ (o : Option SessionRow). is_some o) there

    marks : Marks term.expiring (one_of s true term.expiring)
    marks = record { each = λ u is. ⊎_elim (λ same. ap (one_of s true term.expiring) same.1 ∙ one_at s true term.expiring) (λ other. one_not s true term.expiring u other.1 ∙ is) (eqb_tells u s) }

    given : s < (last chain).next_session
    given = let k = number_given chain locks.chained known place s has in let n = next_most chain.first chain.changes known place in omega (arith, k, n)

    ends_is : until_in (row_in known.sessions s) ≡ ends s
    ends_is = ap until_in there ∙ leases.rows known place s row there

    not_later : (u : ℕ) → known.next_session ≤ u → u ≡ s → ⊥
    not_later u later same = let k = number_given chain locks.chained known place s has in omega (arith, later, same, k)
