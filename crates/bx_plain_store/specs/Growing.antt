-- Why a store on one machine goes on fitting where the chain grows, disks change outside its calls, or writes may be taken no more.
use Rattle.std.proofs.Common.{◌≡◌, inl, ⊎_elim, ℕ, ◌<◌, Bool, true, false, List, [], ◌∷◌, Contains, length, filter, Option, Some, None, refl, sym, ◌∙◌, ap, subst, arith}
use Rattle.std.specs.Prelude.{◌==◌, not}
use Rattle.std.proofs.lemmas.Bool.Decides.{nat_tests}
use Rattle.bx_disk.specs.Disks.{Disks}
use Rattle.bx_global.specs.declared.change.Change.{Change}
use Rattle.bx_global.specs.declared.state.GlobalState.{GlobalState}
use Rattle.bx_global.specs.Allowed.{IsAllowed}
use Rattle.bx_global.specs.Table.{effect}
use Rattle.bx_facts.proofs.Lists.{behind, front, front_or_behind, nothing}
use Rattle.bx_facts.proofs.Sessions.{Grows, follows, rows_grow, sessions_have_nodes}
use Rattle.bx_facts.specs.Chains.{Chain, IsAmong, IsPlace, IsStoresOwn, last, state_after}
use Rattle.bx_facts.specs.Sessions.{AreRows}
use Rattle.bx_facts.specs.Writes.{IsOfStore, Made, Sent, StorePast, opening_store, store_grown, without_session}
use Rattle.bx_plain_store.specs.declared.writes.Write.{Write}
use Rattle.bx_plain_store.specs.Out.{at, out_at, out_in}
use Rattle.bx_post.specs.declared.packets.Letter.{Letter}
use Rattle.bx_plain_store.specs.declared.inquiries.Inquiry.{Inquiry}
use Rattle.bx_plain_store.specs.Outs.{at_within}
use Rattle.bx_plain_store.specs.Events.{session_row}
use Rattle.bx_plain_store.specs.Fits.{Fits, HasSessionsOf, IsNew, Keeps}
use Rattle.bx_plain_store.specs.Laws.{KeepsMembersSure, labels_by, labels_kept, own_none, same_devices}
use Rattle.bx_plain_store.specs.Parts.{asked_at, asked_in}

-- the last state is a place
pub last_place : (chain : Chain) → IsPlace chain (last chain)
last_place chain = among chain.first chain.changes
  where
    among : (first : GlobalState) (changes : List Change) → IsAmong first changes (state_after first changes)
    among first [] = refl
    among first (change ∷ older) = inl refl

-- over disks that keep what was sure of sources
pub fits_sure : (made : Made) (greatest : ℕ) (owns : List (Option ℕ)) (slots : List (Option Write)) (x y : Disks) (chain : Chain) (writes : List Sent)
    → KeepsMembersSure (last chain) x y → Fits made greatest owns slots x chain writes → Fits made greatest owns slots y chain writes
fits_sure made greatest owns slots x y chain writes keeps fits = record {
  labels = labels_kept made x y (last chain) keeps fits.labels;
  count = fits.count;
  places = fits.places;
  apart = fits.apart;
  above = fits.above;
  sent = fits.sent;
  mine = fits.mine;
  node_of = fits.node_of;
  rows = fits.rows;
  owned = fits.owned;
}

pub keeps_sure : (made : Made) (greatest : ℕ) (owns : List (Option ℕ)) (slots : List (Option Write)) (x y : Disks) (past : StorePast)
    → KeepsMembersSure (last past.told.chain) x y → Keeps made greatest owns slots x past → Keeps made greatest owns slots y past
keeps_sure made greatest owns slots x y past sure keeps = record {
  handed = keeps.handed;
  greatest_is = keeps.greatest_is;
  fits = fits_sure made greatest owns slots x y past.told.chain past.writes sure keeps.fits;
}

-- one change more
pub keeps_grown : (made : Made) (greatest : ℕ) (owns : List (Option ℕ)) (slots : List (Option Write)) (x : Disks) (past : StorePast) (change : Change)
    → IsStoresOwn past.told.handed change → Keeps made greatest owns slots x past → Keeps made greatest owns slots x (store_grown past change)
keeps_grown made greatest owns slots x past change own keeps = record {
  handed = keeps.handed;
  greatest_is = keeps.greatest_is;
  fits = record {
    labels = labels_by made x old new same fits.labels;
    count = ap length same ∙ fits.count;
    places = λ s place. ⊎_elim (λ is. ap (λ (t : GlobalState). t.devices) is) (λ earlier. fits.places s earlier ∙ sym same) place;
    apart = fits.apart;
    above = fits.above;
    sent = fits.sent;
    mine = fits.mine;
    node_of = next.0;
    rows = next.1.rows;
    owned = λ node session is.
        let was = fits.owned node session is in
        (next.1.same session was.1 ∙ was.0, (let less = was.1 in let more = (follows fits.node_of old change (fits.rows.each old (last_place past.told.chain))).1.more in omega (arith, less, more)));
  };
}
  where
    old : GlobalState
    old = last past.told.chain

    new : GlobalState
    new = effect old change

    fits : Fits made greatest owns slots x past.told.chain past.writes
    fits = keeps.fits

    same : new.devices ≡ old.devices
    same = same_devices old change (own_none past.told.handed change keeps.handed own)

    next : (g : ℕ → ℕ) × Grows fits.node_of g old past.told.chain.first (change ∷ past.told.chain.changes)
    next = rows_grow fits.node_of past.told.chain.first change past.told.chain.changes fits.rows

-- a new store
pub keeps_new : (made : Made) (greatest : ℕ) (owns : List (Option ℕ)) (slots : List (Option Write)) (inquiries : List (Option Inquiry)) (x : Disks) (s : GlobalState)
    → IsNew greatest slots inquiries → HasSessionsOf s made.nodes owns → IsAllowed s → IsOfStore made x s → Keeps made greatest owns slots x (opening_store s)
keeps_new made greatest owns slots inquiries x s new sessions allowed of_store = record {
  handed = refl;
  greatest_is = sym new.no_reading;
  fits = record {
    labels = of_store.labels;
    count = of_store.devices;
    places = λ t place. ap (λ (u : GlobalState). u.devices) place;
    apart = record {
      nodes = λ node other w v device sector content also apart out. absurd (no_out node w out);
      once = λ node w device sector content also out. absurd (no_out node w out);
    };
    above = λ node w device sector content out. absurd (no_out node w out);
    sent = λ node w out. absurd (no_out node w out);
    mine = λ node w out. absurd (no_out node w out);
    node_of = nodes.0;
    rows = nodes.1;
    owned = λ node session is.
        let less = at_within owns node session is in
        session_row s.sessions nodes.0 s.next_session node session (nodes.1.each s refl) (sym (sessions.each node (subst (λ (n : ℕ). node < n) sessions.long less)) ∙ is);
  };
}
  where
    no_out : (node : ℕ) (w : Sent) → out_at slots node ≡ Some w → ⊥
    no_out node w out = let e : None ≡ Some w = ap out_in (sym (new.none node).0) ∙ out in absurd cc

    nodes : (node_of : ℕ → ℕ) × AreRows node_of s []
    nodes = sessions_have_nodes s [] allowed.rising

-- of which nothing is out
pub idle_new : (greatest : ℕ) (slots : List (Option Write)) (inquiries : List (Option Inquiry)) (node : ℕ) → IsNew greatest slots inquiries → (out_at slots node ≡ None) × (asked_at inquiries node ≡ None)
idle_new greatest slots inquiries node new = (ap out_in (new.none node).0, ap asked_in (new.none node).1)

-- what a test lets through is left
filter_has : (test : Sent → Bool) (writes : List Sent) (w : Sent) → test w ≡ true → Contains writes w → Contains (filter test writes) w
filter_has test [] w passes has = absurd (nothing w has)
filter_has test (v ∷ writes) w passes has = (elim (test v) as (λ b. test v ≡ b → Contains (filter test (v ∷ writes)) w) [
  | true ↦ λ e. rw e (⊎_elim (λ is. subst (Contains (v ∷ filter test writes)) is (front v (filter test writes))) (λ more. behind v (filter test writes) w (filter_has test writes w passes more)) (front_or_behind v writes w has))
  | false ↦ λ e. rw e (⊎_elim (λ is. absurd (let h = ap test is ∙ passes in let k = sym e ∙ h in cc)) (λ more. filter_has test writes w passes more) (front_or_behind v writes w has))
]) refl

-- a session of which nothing is out
pub keeps_without : (made : Made) (greatest : ℕ) (owns : List (Option ℕ)) (slots : List (Option Write)) (x : Disks) (past : StorePast) (node session : ℕ)
    → Keeps made greatest owns slots x past → at owns node ≡ Some session → out_at slots node ≡ None → Keeps made greatest owns slots x (without_session past session)
keeps_without made greatest owns slots x past node session keeps own none = record {
  handed = keeps.handed;
  greatest_is = keeps.greatest_is;
  fits = record {
    labels = fits.labels;
    count = fits.count;
    places = fits.places;
    apart = fits.apart;
    above = fits.above;
    sent = λ other w out. filter_has (λ write. not (write.session == session)) past.writes w (of_others other w out) (fits.sent other w out);
    mine = fits.mine;
    node_of = fits.node_of;
    rows = fits.rows;
    owned = fits.owned;
  };
}
  where
    fits : Fits made greatest owns slots x past.told.chain past.writes
    fits = keeps.fits

    of_others : (other : ℕ) (w : Sent) → out_at slots other ≡ Some w → not (w.session == session) ≡ true
    of_others other w out = by_test (w.session == session) refl
      where
        by_test : (b : Bool) → (w.session == session) ≡ b → not (w.session == session) ≡ true
        by_test false apart = ap not apart
        by_test true is =
            let same : w.session ≡ session = grind (arith, nat_tests, is) in
            let here : other ≡ node = sym (fits.owned other w.session (fits.mine other w out)).0 ∙ ap fits.node_of same ∙ (fits.owned node session own).0 in
            absurd (let wrong = sym none ∙ sym (ap (out_at slots) here) ∙ out in cc)

-- letters don't matter
pub keeps_letters : (made : Made) (greatest : ℕ) (owns : List (Option ℕ)) (slots : List (Option Write)) (x : Disks) (past : StorePast) (letters : List Letter)
    → Keeps made greatest owns slots x past → Keeps made greatest owns slots x (record past { told = record past.told { letters = letters } })
keeps_letters made greatest owns slots x past letters keeps = record { handed = keeps.handed; greatest_is = keeps.greatest_is; fits = keeps.fits }
