-- The nodes of a volume that is found stand, on disks at rest: all machines are down.
use Rattle.std.proofs.Common.{◌≡◌, inl, inr, ℕ, ◌+◌, ◌<◌, ◌≤◌, List, [], Contains, Option, Some, None, IfSome, refl, sym, subst, arith}
use Rattle.std.specs.Prelude.{slice_get}
use Rattle.std.proofs.Math.Bridge.{le_prop}
use Rattle.std.proofs.Math.Logic.{∥∥₁_elim}
use Rattle.bx_disk.specs.Disks.{Disks, Image}
use Rattle.bx_facts.specs.declared.register.Register as register
use Rattle.bx_facts.specs.declared.store.Store as store
use Rattle.bx_facts.specs.Chains.{IsAboveBoots}
use Rattle.bx_facts.specs.Holds.{found_owners}
use Rattle.bx_facts.specs.Pasts.{found_register}
use Rattle.bx_facts.specs.Writes.{IsOfStore, IsSettled, NamesUpTo, found_store, store_room}
use Rattle.bx_global.specs.Allowed.{IsAllowed}
use Rattle.bx_global.specs.declared.state.GlobalState.{GlobalState}
use Rattle.bx_node_machines.specs.Machines.{MachineView}
use Rattle.bx_node_machines.specs.Nodes.{NodesStand, known_of}
use Rattle.bx_node_openings.specs.Opening.{AreFound, HaveNothing, found_clocks}
use Rattle.bx_node_openings.specs.Resting.{VolumeRests}
use Rattle.bx_node_openings.proofs.Closed.{logs_closed, none_in}
use Rattle.bx_node_openings.proofs.Opens.{hints_nothing, is_unmarked}
use Rattle.bx_facts.specs.declared.owners.Owners as owners
use Rattle.bx_rows.specs.declared.device.DeviceRow.{DeviceRow}
use Rattle.bx_rows.specs.declared.session.SessionRow.{SessionRow}
use Rattle.bx_rows.specs.Words.{row_in}
use Rattle.bx_views.specs.Attempts.{Deed}
use Rattle.bx_views.specs.Truths.{Hints, Truth, no_hints}
use Rattle.bx_volume.specs.Records.{Logged}
use Rattle.bx_world_chains.proofs.Rows.{lives_has}
use Rattle.bx_world_stays.specs.bx_world_logs.proofs.Growing.{rows_go}
use Rattle.bx_world_stays.specs.bx_world_standing.specs.Standing.{Course, StandsAt, SureOf}
use Rattle.bx_world_stays.proofs.Begins.{IsSettledWithin, idle_slots, no_doubts, no_logs}

-- What owners and a store promise of new ones where their machines find a volume.
pub record FindingLaws {O S : Type 0} (o : owners.Ghosts O) (st : store.Ghosts S) : Type 0 where
  pub owners_find : (one : O) (nodes : ℕ) (first s : GlobalState) (boot : ℕ) → o.is_new one → o.is_separate → o.is_for one nodes first → first.sessions ≡ [] → IsAllowed s → o.keeps one (found_owners s boot)
  pub stores_find : (one : S) (x : Disks) (first s : GlobalState) (boot : ℕ) → st.is_new one → st.is_separate → st.is_for one first → first.sessions ≡ [] → IsAllowed s → IsOfStore (st.made one) x s → NamesUpTo boot s
      → st.keeps one x (found_store s boot)
  pub stores_stand : (one : S) (x : Disks) (s : GlobalState) (boot device sector : ℕ) (content : List ℕ) → st.is_new one → st.is_separate → device < (st.made one).devices → 1 ≤ sector → sector < store_room (st.made one)
      → IsSettled x s device sector content → st.stands one x (found_store s boot) device sector content s.index

-- what was done: nothing but that the volume was found
abbrev pub found_course : GlobalState → ℕ → Image → Logged → Truth → Course
found_course s boot held more truth = record {
  register = found_register s boot;
  owners = found_owners s boot;
  store = found_store s boot;
  before = held;
  logs = no_logs;
  slots = idle_slots more;
  truth = truth;
  doubts = no_doubts;
}

none_there : {X : Type 0} (one : X) → Contains [] one → ⊥
none_there one (k, less, is) = omega (arith, less)

-- a boot above one that is above all that a state names is so too
above : (s : GlobalState) (least boot : ℕ) → least ≤ boot → IsAboveBoots s least → IsAboveBoots s boot
above s least boot low is = record {
  master = let m = is.master in omega (arith, low, m);
  sessions = λ session. in_row (row_in s.sessions session) (is.sessions session);
  devices = λ device. in_device (slice_get s.devices device) (is.devices device);
}
  where
    in_row : (found : Option SessionRow) → IfSome found (λ row. row.boot < least) → IfSome found (λ row. row.boot < boot)
    in_row None is = tt
    in_row (Some row) is = let less = is in omega (arith, low, less)

    in_device : (found : Option DeviceRow) → IfSome found (λ row. (row.boot_a < least) × (row.boot_b < least)) → IfSome found (λ row. (row.boot_a < boot) × (row.boot_b < boot))
    in_device None is = tt
    in_device (Some row) is = (let a = is.0 in omega (arith, low, a), let b = is.1 in omega (arith, low, b))

-- that one is above all is said by numbers alone, so nothing is lost where it is said without its proof
is_above : (s : GlobalState) (boot : ℕ) → ∥ IsAboveBoots s boot ∥₁ → IsAboveBoots s boot
is_above s boot said = record {
  master = ∥∥₁_elim said le_prop (λ is. is.master);
  sessions = λ session. in_row (row_in s.sessions session) (λ Q prop holds. ∥∥₁_elim said prop (λ is. holds (is.sessions session)));
  devices = λ device. in_device (slice_get s.devices device) (λ Q prop holds. ∥∥₁_elim said prop (λ is. holds (is.devices device)));
}
  where
    in_row : (found : Option SessionRow) → ((Q : Type 0) → IsProp Q → (IfSome found (λ row. row.boot < boot) → Q) → Q) → IfSome found (λ row. row.boot < boot)
    in_row None with_it = tt
    in_row (Some row) with_it = with_it (row.boot < boot) le_prop (λ less. less)

    in_device : (found : Option DeviceRow) → ((Q : Type 0) → IsProp Q → (IfSome found (λ row. (row.boot_a < boot) × (row.boot_b < boot)) → Q) → Q) → IfSome found (λ row. (row.boot_a < boot) × (row.boot_b < boot))
    in_device None with_it = tt
    in_device (Some row) with_it = (with_it (row.boot_a < boot) le_prop (λ both. both.0), with_it (row.boot_b < boot) le_prop (λ both. both.1))

module _ {G O S T : Type 0} (g : register.Ghosts G) (o : owners.Ghosts O) (st : store.Ghosts S) (Stands : Truth → Hints → T → Type 0) (Step : T → Deed → T → Type 0) (laws : FindingLaws o st)
    (register_is : G) (owners_are : O) (store_is : S) (x : Disks) (machines : List MachineView) (first s : GlobalState) (boot : ℕ) (held : Image) (more : Logged) (truth : Truth) (tree : T)
    (found : AreFound g o st register_is owners_are store_is x first s boot)
    (rests : VolumeRests (st.made store_is) x s held truth) (is : Stands truth no_hints tree)
    (nothing : HaveNothing machines) where
  at_rest : StandsAt g o st Stands Step register_is owners_are store_is x (known_of g o st Stands Step register_is owners_are store_is x [] (found_clocks boot) machines) (found_course s boot held more truth) tree
  at_rest = record {
    pasts = record {
      owners_chain = refl;
      store_chain = refl;
      letters = refl;
      owners_letters = refl;
      store_letters = refl;
      down = λ who. refl;
      owners_down = λ who. refl;
      store_down = λ who. refl;
      boots = λ who. omega arith;
      owners_most = λ who. omega arith;
      store_most = λ who. omega arith;
      owners_boots = λ who up. refl;
      store_boots = λ who up. refl;
      own_boots = λ who up. absurd (let wrong = up in cc);
      next_boots = λ next less. inr (above s (boot + 1) next (omega (arith, less)) (is_above s (boot + 1) found.boots));
      proposed = λ change there. absurd (none_there change there);
      owners_greatest = omega arith;
      greatest = omega arith;
    };
    parts = record {
      register_keeps = found.register_keeps;
      owners_keep = laws.owners_find owners_are (st.made store_is).nodes first s boot found.owners_new found.owners_apart found.owners_for found.no_sessions found.allowed;
      store_keeps = laws.stores_find store_is x first s boot found.store_new found.store_apart found.store_for found.no_sessions found.allowed rests.members found.names;
      owners_knew = λ who. omega arith;
      store_knew = λ who. omega arith;
      same_boots = found.same_boots;
      own = λ node up. absurd (let wrong = up in cc);
    };
    labels = rests.labels;
    sessions = record { told = λ node session own. absurd (let wrong = own in cc) };
    logs = rows_go (IsSettledWithin (st.made store_is) x s)
        (SureOf g o st Stands Step register_is owners_are store_is x (known_of g o st Stands Step register_is owners_are store_is x [] (found_clocks boot) machines) (found_course s boot held more truth))
        (st.made store_is).devices (st.made store_is).areas held
        (λ d sector content in_room. record {
          index = s.index;
          is = laws.stores_stand store_is x s boot d sector content found.store_new found.store_apart in_room.there in_room.behind_label in_room.within in_room.settled;
          only = record { each = λ write other there writes_it. absurd (none_there write there) };
          within = record { most = omega arith; home = λ at block of. inl (omega arith); slot = λ slot less of node session owner row state row_is lives its place known entitled has. absurd (let wrong = its.up in cc) };
        }) s.sessions s.sessions no_logs (idle_slots more) truth (λ slot less. inl refl) (logs_closed (st.made store_is) x s held truth rests more);
    rights = record { each = λ session row at has in_it. absurd (none_in more row.slot at in_it) };
    writes = record { ends = λ write there. absurd (none_there write there); given = λ write there. absurd (none_there write there); may = λ write d sector content there lives writes_it. absurd (none_there write there) };
    closings = λ gone by there. absurd (none_there _ there);
    volume = record {
      is = is;
      apart = record { each = λ session other block hold other_hold row other_row differ has other_has. absurd (let h = has in cc) };
      rows = λ session lives. lives_has s session lives;
      single = λ node other session own also lives. absurd (let wrong = own in cc);
      views = λ node session own lives. absurd (let wrong = own in cc);
      hinted = λ node. subst (λ (hints : Hints). Stands truth hints tree) (sym (hints_nothing machines nothing node)) is;
      in_doubt = λ session. tt;
    };
    doubted = record { each = λ session row has begun. absurd (let h = begun in cc); only = λ session doubt has. absurd (let h = has in cc) };
  }

  pub finds : NodesStand g o st Stands Step register_is owners_are store_is x [] (found_clocks boot) machines (found_course s boot held more truth) tree
  finds = record {
    at = at_rest;
    about = record {
      each = λ node session machine row there marked own has live. absurd (is_unmarked machines nothing node session machine there marked);
      fresh = λ node session row of alone has live none. record {
        none = refl;
        still = refl;
        undoubted = refl;
        unwritten = λ own. absurd (let wrong = own in cc);
        unasked = λ own. absurd (let wrong = own in cc);
      };
      marked = λ node session machine row of there marked has live. absurd (is_unmarked machines nothing node session machine there marked);
    };
    recovering = record {
      under = λ node session machine row active gone recovery under_way. absurd (is_unmarked machines nothing node session machine active.there active.marked);
      finished = λ node session machine row active gone has has_row. absurd (is_unmarked machines nothing node session machine active.there active.marked);
      given = λ node session machine row active gone has. absurd (is_unmarked machines nothing node session machine active.there active.marked);
      suits = λ node session machine row active. absurd (is_unmarked machines nothing node session machine active.there active.marked);
    };
    single = λ node other session own also. absurd (let wrong = own in cc);
    told = λ node session own. absurd (let wrong = own in cc);
    given = λ node session machine there marked. absurd (is_unmarked machines nothing node session machine there marked);
  }
