-- What a lock server's accounts say, once one is put, or those of some sessions go.
use Rattle.std.proofs.Common.{◌≡◌, ◌≢◌, ⊎_elim, ◌⊎◌, ℕ, ◌+◌, ◌<◌, ◌≤◌, Bool, true, false, List, [], ◌∷◌, filter, Option, Some, None, refl, sym, ◌∙◌, ap, subst, arith}
use Rattle.std.specs.Prelude.{ltb, ◌==◌}
use Rattle.std.specs.List.{AllByRecursion}
use Rattle.std.proofs.lemmas.Bool.Decides.{eqb_tells, leb_tells, nat_tests}
use Rattle.bx_global.specs.declared.state.GlobalState.{GlobalState}
use Rattle.bx_global.proofs.Kept.{all_is}
use Rattle.bx_locking.specs.Tables.{Rises}
use Rattle.bx_lock_tables.specs.Accounts.{account_for, account_in, end_in, end_of, expires_in, has_row, is_marked, listed, marked, noting, or_fresh, row_for, block_row, row_within, rows_at, with_account, with_row}
use Rattle.bx_lock_tables.specs.Rows.{row_of}
use Rattle.bx_lock_tables.specs.declared.accounts.Account.{Account}
use Rattle.bx_lock_tables.specs.declared.rows.Row.{Row}
use Rattle.bx_lock_steps.specs.Machines.{AreAccounts, IsOwnRow, OwnsRows}
use Rattle.bx_lock_steps.proofs.Blocks.{put_elsewhere, put_here}

-- ---- tests

not_less : (a b : ℕ) → b ≤ a → ltb a b ≡ false
not_less a b is = grind (arith, nat_tests, is)

so_less : (a b : ℕ) → a < b → ltb a b ≡ true
so_less a b is = grind (arith, nat_tests, is)

pub not_equal : (a b : ℕ) → (a ≡ b → ⊥) → (a == b) ≡ false
not_equal a b differ = ⊎_elim (λ same. absurd (differ same.1)) (λ other. other.0) (eqb_tells a b)

pub itself : (a : ℕ) → (a == a) ≡ true
itself a = grind (arith, nat_tests)

-- a test is true or false
pub data Tested (test : Bool) : Type 0 where
  passes : test ≡ true → Tested test
  misses : test ≡ false → Tested test

pub tested : (test : Bool) → Tested test
tested true = passes refl
tested false = misses refl

-- ---- one account is put

pub account_put : (accounts : List Account) (new : Account) → account_in (with_account accounts new) new.session ≡ Some new
account_put [] new = let e = itself new.session in rw e refl
account_put (account ∷ rest) new = ⊎_elim
    (λ same. let e = itself new.session in rw same.0 (rw e refl))
    (λ other. elim (tested (ltb new.session account.session)) [
      | passes less ↦ let e = itself new.session in rw (other.0, less) (rw e refl)
      | misses more ↦ rw (other.0, more) (rw (other.0, more) (account_put rest new))
    ])
    (eqb_tells account.session new.session)

-- where a session's account isn't behind a front
behind : (account : Account) (rest : List Account) (s : ℕ) → s < account.session → account_in (account ∷ rest) s ≡ None
behind account rest s less =
    let e = not_equal account.session s (λ same. omega (arith, less, same)) in
    let l = so_less s account.session less in rw (e, l) refl

after : (account : Account) (rest : List Account) (s : ℕ) → account.session < s → account_in (account ∷ rest) s ≡ account_in rest s
after account rest s less =
    let e = not_equal account.session s (λ same. omega (arith, less, same)) in
    let l = not_less s account.session (omega (arith, less)) in rw (e, l) refl

at_front : (account : Account) (rest : List Account) (s : ℕ) → account.session ≡ s → account_in (account ∷ rest) s ≡ Some account
at_front account rest s same = let e : (account.session == s) ≡ true = (⊎_elim (λ is. is.0) (λ other. absurd (other.1 same)) (eqb_tells account.session s)) in rw e refl

-- how two numbers stand
pub data Ordered (a b : ℕ) : Type 0 where
  below : a < b → Ordered a b
  equal : a ≡ b → Ordered a b
  above : b < a → Ordered a b

pub ordered : (a b : ℕ) → Ordered a b
ordered a b = ⊎_elim
    (λ is. equal is.1)
    (λ differ. ⊎_elim (λ most. below (let m = most.1 in let d = differ.1 in omega (arith, m, d))) (λ few. above (let f = few.1 in omega (arith, f))) (leb_tells a b))
    (eqb_tells a b)

pub account_other : (accounts : List Account) (new : Account) (s : ℕ) → s ≢ new.session → account_in (with_account accounts new) s ≡ account_in accounts s
account_other [] new s differ = elim (ordered s new.session) [
  | below is ↦ behind new [] s is
  | equal is ↦ absurd (differ is)
  | above is ↦ after new [] s is
]
account_other (account ∷ rest) new s differ = elim (ordered account.session new.session) [
  | equal at ↦ let e : (account.session == new.session) ≡ true = (⊎_elim (λ is. is.0) (λ other. absurd (other.1 at)) (eqb_tells account.session new.session)) in
      rw e (elim (ordered s new.session) [
        | below is ↦ behind new rest s is ∙ sym (behind account rest s (omega (arith, is, at)))
        | equal is ↦ absurd (differ is)
        | above is ↦ after new rest s is ∙ sym (after account rest s (omega (arith, is, at)))
      ])
  | above over ↦ let e = not_equal account.session new.session (λ is. omega (arith, is, over)) in let l = so_less new.session account.session over in
      rw (e, l) (elim (ordered s new.session) [
        | below is ↦ behind new (account ∷ rest) s is ∙ sym (behind account rest s (omega (arith, is, over)))
        | equal is ↦ absurd (differ is)
        | above is ↦ after new (account ∷ rest) s is
      ])
  | below under ↦ let e = not_equal account.session new.session (λ is. omega (arith, is, under)) in let l = not_less new.session account.session (omega (arith, under)) in
      rw (e, l) (elim (ordered s account.session) [
        | below is ↦ behind account (with_account rest new) s is ∙ sym (behind account rest s is)
        | equal is ↦ at_front account (with_account rest new) s (sym is) ∙ sym (at_front account rest s (sym is))
        | above is ↦ after account (with_account rest new) s is ∙ account_other rest new s differ ∙ sym (after account rest s is)
      ])
]

-- ---- accounts in order

pub from_less : (drawn : ℕ → ℕ) (least fewer : ℕ) (accounts : List Account) → fewer ≤ least → AreAccounts drawn least accounts → AreAccounts drawn fewer accounts
from_less drawn least fewer [] order are = tt
from_less drawn least fewer (account ∷ rest) order are = (let l = are.0 in omega (arith, l, order), are.1, are.2)

pub put_in_order : (drawn : ℕ → ℕ) (least : ℕ) (accounts : List Account) (new : Account) → AreAccounts drawn least accounts → least ≤ new.session → OwnsRows drawn new → AreAccounts drawn least (with_account accounts new)
put_in_order drawn least [] new are low owns = (low, owns, tt)
put_in_order drawn least (account ∷ rest) new are low owns = elim (ordered account.session new.session) [
  | equal at ↦ let e : (account.session == new.session) ≡ true = (⊎_elim (λ is. is.0) (λ other. absurd (other.1 at)) (eqb_tells account.session new.session)) in
      rw e (low, owns, from_less drawn (account.session + 1) (new.session + 1) rest (omega (arith, at)) are.2)
  | above over ↦ let e = not_equal account.session new.session (λ is. omega (arith, is, over)) in let l = so_less new.session account.session over in
      rw (e, l) (low, owns, (omega (arith, over), are.1, are.2))
  | below under ↦ let e = not_equal account.session new.session (λ is. omega (arith, is, under)) in let l = not_less new.session account.session (omega (arith, under)) in
      rw (e, l) (are.0, are.1, put_in_order drawn (account.session + 1) rest new are.2 (omega (arith, under)) owns)
]

pub drawn_rises : (drawn more : ℕ → ℕ) (least : ℕ) (accounts : List Account) → Rises drawn more → AreAccounts drawn least accounts → AreAccounts more least accounts
drawn_rises drawn more least [] rises are = tt
drawn_rises drawn more least (account ∷ rest) rises are = (
  are.0,
  record {
    each = λ b row is. let k = are.1.each b row is in let r = rises.each account.session in
        record { session_is = k.session_is; number = (let n = k.number in omega (arith, n, r)); number_fits = k.number_fits; index_fits = k.index_fits };
  },
  drawn_rises drawn more (account.session + 1) rest rises are.2,
)

none_before : (drawn : ℕ → ℕ) (least : ℕ) (accounts : List Account) (s : ℕ) → AreAccounts drawn least accounts → s < least → account_in accounts s ≡ None
none_before drawn least [] s are before = refl
none_before drawn least (account ∷ rest) s are before = behind account rest s (let l = are.0 in omega (arith, l, before))

-- what is found is of its session, and owns its rows
pub record IsOf (drawn : ℕ → ℕ) (s : ℕ) (account : Account) : Type 0 where
  pub session : account.session ≡ s
  pub owns : OwnsRows drawn account

pub account_is : (drawn : ℕ → ℕ) (least : ℕ) (accounts : List Account) (s : ℕ) (account : Account) → AreAccounts drawn least accounts → account_in accounts s ≡ Some account → IsOf drawn s account
account_is drawn least [] s account are is = absurd cc
account_is drawn least (one ∷ rest) s account are is = elim (ordered s one.session) [
  | below before ↦ let e : None ≡ Some account = sym (behind one rest s before) ∙ is in absurd cc
  | equal at ↦ let e : Some one ≡ Some account = sym (at_front one rest s (sym at)) ∙ is in let f : one ≡ account = cc in
      subst (λ (x : Account). IsOf drawn s x) f (record { session = sym at; owns = are.1 })
  | above later ↦ account_is drawn (one.session + 1) rest s account are.2 (sym (after one rest s later) ∙ is)
]

-- a row that is found is of its session
pub row_owned : (drawn : ℕ → ℕ) (least : ℕ) (accounts : List Account) (s b : ℕ) (row : Row) → AreAccounts drawn least accounts → row_for accounts s b ≡ Some row → IsOwnRow drawn s row
row_owned drawn least accounts s b row are is = by_account (account_in accounts s) refl is
  where
    by_account : (o : Option Account) → account_in accounts s ≡ o → row_within o b ≡ Some row → IsOwnRow drawn s row
    by_account None none has = absurd cc
    by_account (Some account) found has = let k = account_is drawn least accounts s account are found in subst (λ (n : ℕ). IsOwnRow drawn n row) k.session (k.owns.each b row has)

-- ---- the rows of a block are those of the accounts

row_found : (drawn : ℕ → ℕ) (account : Account) (b : ℕ) (row : Row) → OwnsRows drawn account → block_row account.rows b ≡ Some row → row.session ≡ account.session
row_found drawn account b row owns is = (owns.each b row is).session_is

pub row_is : (drawn : ℕ → ℕ) (least : ℕ) (accounts : List Account) (s b : ℕ) → AreAccounts drawn least accounts → row_of (rows_at accounts b) s ≡ row_for accounts s b
row_is drawn least [] s b are = refl
row_is drawn least (account ∷ rest) s b are = by_row (row_is drawn (account.session + 1) rest s b are.2) (block_row account.rows b) refl
  where
    here : (o : Option Row) → block_row account.rows b ≡ o → account.session ≡ s → row_for (account ∷ rest) s b ≡ o
    here o is same = ap (λ (x : Option Account). row_within x b) (at_front account rest s same) ∙ is

    over : account.session < s → row_for (account ∷ rest) s b ≡ row_for rest s b
    over less = ap (λ (x : Option Account). row_within x b) (after account rest s less)

    under : s < account.session → (row_for (account ∷ rest) s b ≡ None) × (row_for rest s b ≡ None)
    under less = (
      ap (λ (x : Option Account). row_within x b) (behind account rest s less),
      ap (λ (x : Option Account). row_within x b) (none_before drawn (account.session + 1) rest s are.2 (omega (arith, less))),
    )

    by_row : row_of (rows_at rest b) s ≡ row_for rest s b → (o : Option Row) → block_row account.rows b ≡ o → row_of (rows_at (account ∷ rest) b) s ≡ row_for (account ∷ rest) s b
    by_row later None is = rw is (later ∙ elim (ordered account.session s) [
      | below before ↦ sym (over before)
      | equal at ↦ ap (λ (x : Option Account). row_within x b) (none_before drawn (account.session + 1) rest s are.2 (omega (arith, at))) ∙ sym (here None is at)
      | above behind_it ↦ let u = under behind_it in u.1 ∙ sym u.0
    ])
    by_row later (Some row) is = rw is (
        let own : row.session ≡ account.session = row_found drawn account b row are.1 is in
        elim (ordered account.session s) [
          | below before ↦ let e = not_equal row.session s (λ same. omega (arith, own, before, same)) in rw e (later ∙ sym (over before))
          | equal at ↦ let e : (row.session == s) ≡ true = (⊎_elim (λ t. t.0) (λ other. absurd (other.1 (own ∙ at))) (eqb_tells row.session s)) in rw e (sym (here (Some row) is at))
          | above behind_it ↦ let u = under behind_it in let e = not_equal row.session s (λ same. omega (arith, own, behind_it, same)) in rw e (later ∙ u.1 ∙ sym u.0)
        ])

-- each row of a block is that of its session
pub rows_found : (drawn : ℕ → ℕ) (least : ℕ) (accounts : List Account) (b : ℕ) → AreAccounts drawn least accounts → AllByRecursion (λ (row : Row). row_for accounts row.session b ≡ Some row) (rows_at accounts b)
rows_found drawn least [] b are = tt
rows_found drawn least (account ∷ rest) b are = by_row (all_is (λ (row : Row). row_for rest row.session b ≡ Some row) (λ (row : Row). row_for (account ∷ rest) row.session b ≡ Some row) later (rows_at rest b) (rows_found drawn (account.session + 1) rest b are.2)) (block_row account.rows b) refl
  where
    none_some : (row : Row) → None ≡ Some row → ⊥
    none_some row wrong = cc

    later : (row : Row) → row_for rest row.session b ≡ Some row → row_for (account ∷ rest) row.session b ≡ Some row
    later row is = elim (ordered account.session row.session) [
      | below less ↦ ap (λ (x : Option Account). row_within x b) (after account rest row.session less) ∙ is
      | equal same ↦ absurd (none_some row (sym (ap (λ (x : Option Account). row_within x b) (none_before drawn (account.session + 1) rest row.session are.2 (omega (arith, same)))) ∙ is))
      | above more ↦ absurd (none_some row (sym (ap (λ (x : Option Account). row_within x b) (none_before drawn (account.session + 1) rest row.session are.2 (omega (arith, more)))) ∙ is))
    ]

    by_row : AllByRecursion (λ (row : Row). row_for (account ∷ rest) row.session b ≡ Some row) (rows_at rest b) → (o : Option Row) → block_row account.rows b ≡ o
        → AllByRecursion (λ (row : Row). row_for (account ∷ rest) row.session b ≡ Some row) (rows_at (account ∷ rest) b)
    by_row all None none = rw none all
    by_row all (Some row) found =
        let own = (are.1.each b row found).session_is in
        let here : row_for (account ∷ rest) row.session b ≡ Some row = ap (λ (x : Option Account). row_within x b) (at_front account rest row.session (sym own)) ∙ found in
        rw found (here, all)

-- ---- the accounts of some sessions go

abbrev pub kept : GlobalState → List Account → List Account
kept known accounts = filter (λ account. has_row known account.session) accounts

pub kept_in_order : (drawn : ℕ → ℕ) (known : GlobalState) (least : ℕ) (accounts : List Account) → AreAccounts drawn least accounts → AreAccounts drawn least (kept known accounts)
kept_in_order drawn known least [] are = tt
kept_in_order drawn known least (account ∷ rest) are = elim (tested (has_row known account.session)) [
  | passes has ↦ rw has (are.0, are.1, kept_in_order drawn known (account.session + 1) rest are.2)
  | misses none ↦ rw none (from_less drawn (account.session + 1) least (kept known rest) (let l = are.0 in omega (arith, l)) (kept_in_order drawn known (account.session + 1) rest are.2))
]

pub account_kept : (drawn : ℕ → ℕ) (known : GlobalState) (least : ℕ) (accounts : List Account) (s : ℕ) → AreAccounts drawn least accounts → has_row known s ≡ true → account_in (kept known accounts) s ≡ account_in accounts s
account_kept drawn known least [] s are has = refl
account_kept drawn known least (account ∷ rest) s are has = elim (ordered s account.session) [
  | below before ↦ none_before drawn account.session (kept known (account ∷ rest)) s (kept_in_order drawn known account.session (account ∷ rest) (omega arith, are.1, are.2)) before ∙ sym (behind account rest s before)
  | equal at ↦ let here : has_row known account.session ≡ true = ap (has_row known) (sym at) ∙ has in rw here (at_front account (kept known rest) s (sym at) ∙ sym (at_front account rest s (sym at)))
  | above later ↦ elim (tested (has_row known account.session)) [
    | passes stays ↦ rw stays (after account (kept known rest) s later ∙ account_kept drawn known (account.session + 1) rest s are.2 has ∙ sym (after account rest s later))
    | misses goes ↦ rw goes (account_kept drawn known (account.session + 1) rest s are.2 has ∙ sym (after account rest s later))
  ]
]

pub account_gone : (drawn : ℕ → ℕ) (known : GlobalState) (least : ℕ) (accounts : List Account) (s : ℕ) → AreAccounts drawn least accounts → has_row known s ≡ false → account_in (kept known accounts) s ≡ None
account_gone drawn known least [] s are none = refl
account_gone drawn known least (account ∷ rest) s are none = elim (ordered s account.session) [
  | below before ↦ none_before drawn account.session (kept known (account ∷ rest)) s (kept_in_order drawn known account.session (account ∷ rest) (omega arith, are.1, are.2)) before
  | equal at ↦ let here : has_row known account.session ≡ false = ap (has_row known) (sym at) ∙ none in rw here (none_before drawn (account.session + 1) (kept known rest) s (kept_in_order drawn known (account.session + 1) rest are.2) (omega (arith, at)))
  | above later ↦ elim (tested (has_row known account.session)) [
    | passes stays ↦ rw stays (after account (kept known rest) s later ∙ account_gone drawn known (account.session + 1) rest s are.2 none)
    | misses goes ↦ rw goes (account_gone drawn known (account.session + 1) rest s are.2 none)
  ]
]

-- ---- a row is listed, an end noted, an expiry marked

-- the account of a session, or a new one
pub for_session : (drawn : ℕ → ℕ) (least : ℕ) (accounts : List Account) (s : ℕ) → AreAccounts drawn least accounts → IsOf drawn s (account_for accounts s)
for_session drawn least accounts s are = by_account (account_in accounts s) refl
  where
    nothing_owned : (b : ℕ) (row : Row) → None ≡ Some row → IsOwnRow drawn s row
    nothing_owned b row is = absurd cc

    by_account : (o : Option Account) → account_in accounts s ≡ o → IsOf drawn s (or_fresh o s)
    by_account None none = record { session = refl; owns = record { each = λ b row is. nothing_owned b row is } }
    by_account (Some account) is = account_is drawn least accounts s account are is

-- what it says is what the accounts say
pub said_within : (accounts : List Account) (s b : ℕ) → block_row (account_for accounts s).rows b ≡ row_for accounts s b
said_within accounts s b = by_account (account_in accounts s)
  where
    by_account : (o : Option Account) → block_row (or_fresh o s).rows b ≡ row_within o b
    by_account None = refl
    by_account (Some account) = refl

end_within : (accounts : List Account) (s : ℕ) → (account_for accounts s).noted ≡ end_in accounts s
end_within accounts s = by_account (account_in accounts s)
  where
    by_account : (o : Option Account) → (or_fresh o s).noted ≡ end_of o
    by_account None = refl
    by_account (Some account) = refl

mark_within : (accounts : List Account) (s : ℕ) → (account_for accounts s).expiring ≡ expires_in accounts s
mark_within accounts s = by_account (account_in accounts s)
  where
    by_account : (o : Option Account) → (or_fresh o s).expiring ≡ is_marked o
    by_account None = refl
    by_account (Some account) = refl

-- a new account of a session is put in the place of the old one
pub record PutsAccount (s : ℕ) (new : Account) (old more : List Account) : Type 0 where
  pub at : account_in more s ≡ Some new
  pub others : (t : ℕ) → t ≢ s → account_in more t ≡ account_in old t

puts_account : (accounts : List Account) (s : ℕ) (new : Account) → new.session ≡ s → PutsAccount s new accounts (with_account accounts new)
puts_account accounts s new session = record {
  at = ap (account_in (with_account accounts new)) (sym session) ∙ account_put accounts new;
  others = λ t differ. account_other accounts new t (λ same. differ (same ∙ session));
}

abbrev pub with_listed : List Account → ℕ → ℕ → Row → Account
with_listed accounts s b row = with_row (account_for accounts s) b row

-- a row is listed
pub record Lists (s b : ℕ) (row : Row) (old new : List Account) : Type 0 where
  pub here : row_for new s b ≡ Some row
  pub others : (t c : ℕ) → (t ≢ s) ⊎ (c ≢ b) → row_for new t c ≡ row_for old t c
  pub ends : (t : ℕ) → end_in new t ≡ end_in old t
  pub marks : (t : ℕ) → expires_in new t ≡ expires_in old t
  pub gone : (t : ℕ) → t ≢ s → account_in old t ≡ None → account_in new t ≡ None

pub lists : (drawn : ℕ → ℕ) (least : ℕ) (accounts : List Account) (s b : ℕ) (row : Row) → AreAccounts drawn least accounts → Lists s b row accounts (listed s b row accounts)
lists drawn least accounts s b row are = record {
  here = ap (λ (x : Option Account). row_within x b) puts.at ∙ put_here (account_for accounts s).rows b row;
  others = λ t c differ. ⊎_elim
      (λ same. ⊎_elim
      (λ other. absurd (other same.1))
      (λ other. ap (λ (n : ℕ). row_for (listed s b row accounts) n c) same.1 ∙ ap (λ (x : Option Account). row_within x c) puts.at
      ∙ put_elsewhere (account_for accounts s).rows b c row other ∙ said_within accounts s c ∙ ap (λ (n : ℕ). row_for accounts n c) (sym same.1))
      differ)
      (λ other. ap (λ (x : Option Account). row_within x c) (puts.others t other.1))
      (eqb_tells t s);
  ends = λ t. ⊎_elim
      (λ same. ap (end_in (listed s b row accounts)) same.1 ∙ ap end_of puts.at ∙ end_within accounts s ∙ ap (end_in accounts) (sym same.1))
      (λ other. ap end_of (puts.others t other.1))
      (eqb_tells t s);
  marks = λ t. ⊎_elim
      (λ same. ap (expires_in (listed s b row accounts)) same.1 ∙ ap is_marked puts.at ∙ mark_within accounts s ∙ ap (expires_in accounts) (sym same.1))
      (λ other. ap is_marked (puts.others t other.1))
      (eqb_tells t s);
  gone = λ t differ none. puts.others t differ ∙ none;
}
  where
    puts : PutsAccount s (with_listed accounts s b row) accounts (listed s b row accounts)
    puts = puts_account accounts s (with_listed accounts s b row) (for_session drawn least accounts s are).session

pub listed_in_order : (drawn : ℕ → ℕ) (accounts : List Account) (s b : ℕ) (row : Row) → AreAccounts drawn 0 accounts → IsOwnRow drawn s row → AreAccounts drawn 0 (listed s b row accounts)
listed_in_order drawn accounts s b row are owned = put_in_order drawn 0 accounts (with_listed accounts s b row) are (omega arith) (record {
  each = λ c r is. ⊎_elim
      (λ same. let e : Some row ≡ Some r = sym (put_here (account_for accounts s).rows b row) ∙ ap (block_row (with_listed accounts s b row).rows) (sym same.1) ∙ is in let f : row ≡ r = cc in
      subst (λ (x : Row). IsOwnRow drawn (account_for accounts s).session x) f (subst (λ (n : ℕ). IsOwnRow drawn n row) (sym own.session) owned))
      (λ other. own.owns.each c r (sym (put_elsewhere (account_for accounts s).rows b c row other.1) ∙ is))
      (eqb_tells c b);
})
  where
    own : IsOf drawn s (account_for accounts s)
    own = for_session drawn 0 accounts s are

-- an end is noted, or an expiry marked: all rows stay
pub record Notes (s : ℕ) (old new : List Account) : Type 0 where
  pub rows : (t c : ℕ) → row_for new t c ≡ row_for old t c
  pub gone : (t : ℕ) → t ≢ s → account_in old t ≡ None → account_in new t ≡ None

notes_by : (drawn : ℕ → ℕ) (accounts : List Account) (s : ℕ) (new : Account) → new.session ≡ s → ((c : ℕ) → block_row new.rows c ≡ row_for accounts s c) → Notes s accounts (with_account accounts new)
notes_by drawn accounts s new session same_rows = record {
  rows = λ t c. ⊎_elim
      (λ same. ap (λ (n : ℕ). row_for (with_account accounts new) n c) same.1 ∙ ap (λ (x : Option Account). row_within x c) puts.at ∙ same_rows c ∙ ap (λ (n : ℕ). row_for accounts n c) (sym same.1))
      (λ other. ap (λ (x : Option Account). row_within x c) (puts.others t other.1))
      (eqb_tells t s);
  gone = λ t differ none. puts.others t differ ∙ none;
}
  where
    puts : PutsAccount s new accounts (with_account accounts new)
    puts = puts_account accounts s new session

abbrev pub with_end : List Account → ℕ → ℕ → Account
with_end accounts s end = record (account_for accounts s) { noted = end }

abbrev pub with_mark : List Account → ℕ → Account
with_mark accounts s = record (account_for accounts s) { expiring = true }

pub record NotesEnd (s end : ℕ) (old new : List Account) : Type 0 where
  pub notes : Notes s old new
  pub at : end_in new s ≡ end
  pub others : (t : ℕ) → t ≢ s → end_in new t ≡ end_in old t
  pub marks : (t : ℕ) → expires_in new t ≡ expires_in old t

pub notes_end : (drawn : ℕ → ℕ) (least : ℕ) (accounts : List Account) (s end : ℕ) → AreAccounts drawn least accounts → NotesEnd s end accounts (noting s end accounts)
notes_end drawn least accounts s end are = record {
  notes = notes_by drawn accounts s (with_end accounts s end) (for_session drawn least accounts s are).session (λ c. said_within accounts s c);
  at = ap end_of puts.at;
  others = λ t other. ap end_of (puts.others t other);
  marks = λ t. ⊎_elim
      (λ same. ap (expires_in (noting s end accounts)) same.1 ∙ ap is_marked puts.at ∙ mark_within accounts s ∙ ap (expires_in accounts) (sym same.1))
      (λ other. ap is_marked (puts.others t other.1))
      (eqb_tells t s);
}
  where
    puts : PutsAccount s (with_end accounts s end) accounts (noting s end accounts)
    puts = puts_account accounts s (with_end accounts s end) (for_session drawn least accounts s are).session

pub record Marks (s : ℕ) (old new : List Account) : Type 0 where
  pub notes : Notes s old new
  pub at : expires_in new s ≡ true
  pub others : (t : ℕ) → t ≢ s → expires_in new t ≡ expires_in old t
  pub ends : (t : ℕ) → end_in new t ≡ end_in old t

pub marks_it : (drawn : ℕ → ℕ) (least : ℕ) (accounts : List Account) (s : ℕ) → AreAccounts drawn least accounts → Marks s accounts (marked s accounts)
marks_it drawn least accounts s are = record {
  notes = notes_by drawn accounts s (with_mark accounts s) (for_session drawn least accounts s are).session (λ c. said_within accounts s c);
  at = ap is_marked puts.at;
  others = λ t other. ap is_marked (puts.others t other);
  ends = λ t. ⊎_elim
      (λ same. ap (end_in (marked s accounts)) same.1 ∙ ap end_of puts.at ∙ end_within accounts s ∙ ap (end_in accounts) (sym same.1))
      (λ other. ap end_of (puts.others t other.1))
      (eqb_tells t s);
}
  where
    puts : PutsAccount s (with_mark accounts s) accounts (marked s accounts)
    puts = puts_account accounts s (with_mark accounts s) (for_session drawn least accounts s are).session

owns_same : (drawn : ℕ → ℕ) (accounts : List Account) (s : ℕ) → AreAccounts drawn 0 accounts → OwnsRows drawn (account_for accounts s)
owns_same drawn accounts s are = (for_session drawn 0 accounts s are).owns

pub noted_in_order : (drawn : ℕ → ℕ) (accounts : List Account) (s end : ℕ) → AreAccounts drawn 0 accounts → AreAccounts drawn 0 (noting s end accounts)
noted_in_order drawn accounts s end are = put_in_order drawn 0 accounts (with_end accounts s end) are (omega arith) (record { each = (owns_same drawn accounts s are).each })

pub marked_in_order : (drawn : ℕ → ℕ) (accounts : List Account) (s : ℕ) → AreAccounts drawn 0 accounts → AreAccounts drawn 0 (marked s accounts)
marked_in_order drawn accounts s are = put_in_order drawn 0 accounts (with_mark accounts s) are (omega arith) (record { each = (owns_same drawn accounts s are).each })
