-- A session's number is that of one node, in all states of a chain.
use Rattle.std.proofs.Common.{◌≡◌, inl, ⊎_elim, ℕ, ◌+◌, ◌<◌, ◌≤◌, Bool, true, false, List, [], ◌∷◌, ◌++◌, map, filter, refl, sym, ◌∙◌, ap, subst, arith}
use Rattle.std.specs.Prelude.{◌==◌, if◌then◌else◌}
use Rattle.std.specs.List.{AllByRecursion}
use Rattle.std.proofs.lemmas.Bool.Decides.{nat_tests}
use Rattle.bx_global.specs.declared.change.Change.{Change}
use Rattle.bx_global.specs.declared.change.Change.TheVariants.{Renew, Take, Open, Expire, Claim, Close, Shift}
use Rattle.bx_global.specs.declared.state.GlobalState.{GlobalState}
use Rattle.bx_global.specs.Allowed.{AreRising}
use Rattle.bx_global.specs.Table.{effect, opened}
use Rattle.bx_global.specs.bx_rows.specs.declared.session.SessionRow.{SessionRow}
use Rattle.bx_global.specs.bx_rows.specs.Rows.{claimed, dead, expired}
use Rattle.bx_facts.specs.Chains.{IsAmong, state_after}
use Rattle.bx_facts.specs.Sessions.{AreRows, IsRowOf}

all_map : (P Q : SessionRow → Type 0) (f : SessionRow → SessionRow) → ((row : SessionRow) → P row → Q (f row)) → (rows : List SessionRow) → AllByRecursion P rows → AllByRecursion Q (map f rows)
all_map P Q f leads [] all = tt
all_map P Q f leads (row ∷ rows) all = (leads row all.0, all_map P Q f leads rows all.1)

all_imp : (P Q : SessionRow → Type 0) → ((row : SessionRow) → P row → Q row) → (rows : List SessionRow) → AllByRecursion P rows → AllByRecursion Q rows
all_imp P Q leads [] all = tt
all_imp P Q leads (row ∷ rows) all = (leads row all.0, all_imp P Q leads rows all.1)

all_filter : (P : SessionRow → Type 0) (test : SessionRow → Bool) (rows : List SessionRow) → AllByRecursion P rows → AllByRecursion P (filter test rows)
all_filter P test [] all = tt
all_filter P test (row ∷ rows) all = (elim (test row) as (λ b. test row ≡ b → AllByRecursion P (filter test (row ∷ rows))) [
  | true ↦ λ e. rw e (all.0, all_filter P test rows all.1)
  | false ↦ λ e. rw e (all_filter P test rows all.1)
]) refl

all_push : (P : SessionRow → Type 0) (rows : List SessionRow) (new : SessionRow) → AllByRecursion P rows → P new → AllByRecursion P (rows ++ new ∷ [])
all_push P [] new all is = (is, tt)
all_push P (row ∷ rows) new all is = (all.0, all_push P rows new all.1 is)

-- of which node a session is, once the next one is opened
abbrev pub with_next : (ℕ → ℕ) → ℕ → ℕ → ℕ → ℕ
with_next node_of next node session = if session == next then node else node_of session

next_is : (node_of : ℕ → ℕ) (next node : ℕ) → with_next node_of next node next ≡ node
next_is node_of next node = let e : (next == next) ≡ true = grind (arith, nat_tests) in ap (λ (b : Bool). if b then node else node_of next) e

older_is : (node_of : ℕ → ℕ) (next node session : ℕ) → session < next → with_next node_of next node session ≡ node_of session
older_is node_of next node session less = let e : (session == next) ≡ false = grind (arith, nat_tests, less) in ap (λ (b : Bool). if b then node else node_of session) e

-- the sessions of a chain that grows by one change
pub record Follows (f g : ℕ → ℕ) (s : GlobalState) (change : Change) : Type 0 where
  pub more : s.next_session ≤ (effect s change).next_session
  pub same : (session : ℕ) → session < s.next_session → g session ≡ f session
  pub rows : AllByRecursion (IsRowOf g (effect s change).next_session) (effect s change).sessions

at_least : (n : ℕ) → n ≤ n
at_least n = omega arith

kept_row : (f : ℕ → ℕ) (next : ℕ) (row new : SessionRow) → new.node ≡ row.node → new.number ≡ row.number → IsRowOf f next row → IsRowOf f next new
kept_row f next row new node number is = record {
  node = node ∙ is.node ∙ ap f (sym number);
  given = subst (λ (n : ℕ). n < next) (sym number) is.given;
}

expired_row : (session : ℕ) (row : SessionRow) → ((expired session row).node ≡ row.node) × ((expired session row).number ≡ row.number)
expired_row session row = grind arith

claimed_row : (gone by : ℕ) (row : SessionRow) → ((claimed gone by row).node ≡ row.node) × ((claimed gone by row).number ≡ row.number)
claimed_row gone by row = grind arith

pub follows : (f : ℕ → ℕ) (s : GlobalState) (change : Change) → AllByRecursion (IsRowOf f s.next_session) s.sessions → (g : ℕ → ℕ) × Follows f g s change
follows f s (Renew by boot reading) rows = (f, record { more = at_least s.next_session; same = λ session less. refl; rows = rows })
follows f s (Take by boot reading) rows = (f, record { more = at_least s.next_session; same = λ session less. refl; rows = all_map _ _ dead (λ row is. kept_row f s.next_session row (dead row) refl refl is) s.sessions rows })
follows f s (Open node boot reading) rows = (
  with_next f s.next_session node,
  record {
    more = omega arith;
    same = λ session less. older_is f s.next_session node session less;
    rows = all_push _ s.sessions (opened s node boot reading)
        (all_imp (IsRowOf f s.next_session) (IsRowOf (with_next f s.next_session node) (s.next_session + 1)) (λ row is. record { node = is.node ∙ sym (older_is f s.next_session node row.number is.given); given = let less = is.given in omega (arith, less) }) s.sessions rows)
        (record { node = sym (next_is f s.next_session node); given = omega arith });
  },
)
follows f s (Expire session term reading) rows = (f, record { more = at_least s.next_session; same = λ session less. refl; rows = all_map _ _ (expired session) (λ row is. kept_row f s.next_session row (expired session row) (expired_row session row).0 (expired_row session row).1 is) s.sessions rows })
follows f s (Claim gone by) rows = (f, record { more = at_least s.next_session; same = λ session less. refl; rows = all_map _ _ (claimed gone by) (λ row is. kept_row f s.next_session row (claimed gone by row) (claimed_row gone by row).0 (claimed_row gone by row).1 is) s.sessions rows })
follows f s (Close gone by) rows = (f, record { more = at_least s.next_session; same = λ session less. refl; rows = all_filter _ _ s.sessions rows })
follows f s (Shift device epoch mode second boot) rows = (f, record { more = at_least s.next_session; same = λ session less. refl; rows = rows })

-- the nodes of the rows of an allowed state, by number
abbrev node_in : List SessionRow → ℕ → ℕ
node_in [] session = 0
node_in (row ∷ rows) session = if session == row.number then row.node else node_in rows session

all_both : (P Q W : SessionRow → Type 0) → ((row : SessionRow) → P row → Q row → W row) → (rows : List SessionRow) → AllByRecursion P rows → AllByRecursion Q rows → AllByRecursion W rows
all_both P Q W leads [] all also = tt
all_both P Q W leads (row ∷ rows) all also = (leads row all.0 also.0, all_both P Q W leads rows all.1 also.1)

head_is : (row : SessionRow) (rows : List SessionRow) → node_in (row ∷ rows) row.number ≡ row.node
head_is row rows = let e : (row.number == row.number) ≡ true = grind (arith, nat_tests) in ap (λ (b : Bool). if b then row.node else node_in rows row.number) e

tail_is : (row : SessionRow) (rows : List SessionRow) (session : ℕ) → row.number < session → node_in (row ∷ rows) session ≡ node_in rows session
tail_is row rows session less = let e : (session == row.number) ≡ false = grind (arith, nat_tests, less) in ap (λ (b : Bool). if b then row.node else node_in rows session) e

rising_rows : (rows : List SessionRow) (next : ℕ) → AreRising rows next → AllByRecursion (IsRowOf (node_in rows) next) rows
rising_rows [] next rise = tt
rising_rows (row ∷ rows) next rise = (
  record { node = sym (head_is row rows); given = rise.0 },
  all_both (λ later. row.number < later.number) (IsRowOf (node_in rows) next) (IsRowOf (node_in (row ∷ rows)) next) (λ later less is. record { node = is.node ∙ sym (tail_is row rows later.number less); given = is.given }) rows rise.1 (rising_rows rows next rise.2),
)

last_among : (first : GlobalState) (changes : List Change) → IsAmong first changes (state_after first changes)
last_among first [] = refl
last_among first (change ∷ older) = inl refl

-- the rows of a chain that grows by one change, with the older sessions of the nodes that they were of
pub record Grows (f g : ℕ → ℕ) (s : GlobalState) (first : GlobalState) (changes : List Change) : Type 0 where
  pub rows : AreRows g first changes
  pub same : (session : ℕ) → session < s.next_session → g session ≡ f session

pub rows_grow : (f : ℕ → ℕ) (first : GlobalState) (change : Change) (older : List Change) → AreRows f first older → (g : ℕ → ℕ) × Grows f g (state_after first older) first (change ∷ older)
rows_grow f first change older rows =
    let next = follows f (state_after first older) change (rows.each (state_after first older) (last_among first older)) in (
      next.0,
      record {
        rows = record {
          each = λ s place. ⊎_elim
              (λ is. subst (λ (t : GlobalState). AllByRecursion (IsRowOf next.0 (effect (state_after first older) change).next_session) t.sessions) (sym is) next.1.rows)
              (λ old. all_imp (IsRowOf f (state_after first older).next_session) (IsRowOf next.0 (effect (state_after first older) change).next_session)
              (λ row is. record { node = is.node ∙ sym (next.1.same row.number is.given); given = (let less = is.given in let more = next.1.more in omega (arith, less, more)) }) s.sessions (rows.each s old))
              place;
        };
        same = next.1.same;
      },
    )

-- all states of a chain that begins with one that meets the conditions
pub sessions_have_nodes : (first : GlobalState) (changes : List Change) → AreRising first.sessions first.next_session → (node_of : ℕ → ℕ) × AreRows node_of first changes
sessions_have_nodes first [] rising = (
  node_in first.sessions,
  record {
    each = λ s place. subst (λ (t : GlobalState). AllByRecursion (IsRowOf (node_in first.sessions) first.next_session) t.sessions) (sym place) (rising_rows first.sessions first.next_session rising);
  },
)
sessions_have_nodes first (change ∷ older) rising =
    let before = sessions_have_nodes first older rising in
    let after = rows_grow before.0 first change older before.1 in
    (after.0, after.1.rows)
