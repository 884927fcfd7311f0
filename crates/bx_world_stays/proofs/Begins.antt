-- A new volume: nothing was done yet. Each machine was told the first state.
use Rattle.std.proofs.Common.{◌≡◌, inl, inr, ℕ, ◌<◌, ◌≤◌, false, List, [], Contains, Option, Some, None, refl, sym, ◌∙◌, ap, arith}
use Rattle.bx_base.specs.declared.names.Actor.{Actor}
use Rattle.bx_disk.specs.Disks.{Disks, Image}
use Rattle.bx_facts.specs.declared.register.Register as register
use Rattle.bx_facts.specs.declared.store.Store as store
use Rattle.bx_facts.specs.declared.owners.Owners as owners
use Rattle.bx_facts.specs.Chains.{session_by}
use Rattle.bx_facts.specs.Holds.{opening_owners}
use Rattle.bx_facts.specs.Pasts.{opening_register}
use Rattle.bx_facts.specs.Writes.{IsSettled, Made, opening_store, store_room}
use Rattle.bx_global.specs.Allowed.{IsAllowed}
use Rattle.bx_global.specs.declared.state.GlobalState.{GlobalState}
use Rattle.bx_rows.specs.Words.{row_in}
use Rattle.bx_rows.specs.declared.session.SessionRow.{SessionRow}
use Rattle.bx_views.specs.Attempts.{Deed}
use Rattle.bx_views.specs.Truths.{Held, Hints, Truth, no_hints}
use Rattle.bx_world_standing.specs.bx_volume.specs.Overlay.{Logs}
use Rattle.bx_world_standing.specs.bx_volume.specs.Records.{Logged}
use Rattle.bx_world_standing.specs.bx_world_chains.proofs.Chains.{last_place}
use Rattle.bx_world_standing.specs.bx_world_chains.proofs.Rows.{lives_has}
use Rattle.bx_world_standing.specs.bx_world_chains.proofs.Sessions.{own_row}
use Rattle.bx_world_standing.specs.bx_world_logs.specs.Logs.{IsInLog, LogsStand, Slot, idle}
use Rattle.bx_world_standing.specs.bx_world_logs.proofs.Growing.{rows_go}
use Rattle.bx_world_standing.specs.bx_world_views.specs.Views.{Unacknowledged}
use Rattle.bx_world_standing.specs.Labels.{LabelsStand}
use Rattle.bx_world_standing.specs.Standing.{Course, Known, StandsAt, SureOf}

abbrev pub no_logs : Logs
no_logs slot = []

abbrev pub idle_slots : Logged → ℕ → Slot
idle_slots more slot = record { activity = idle; more = more }

abbrev pub no_doubts : ℕ → Option Unacknowledged
no_doubts session = None

abbrev pub nothing_shown : ℕ → Held
nothing_shown node at mode = None

abbrev pub opening_known : Known
opening_known = record { letters = []; clocks = record { down = λ who. false; boots = λ who. 0; most = 0; greatest = 0 }; held = nothing_shown; hints = λ node. no_hints }

abbrev pub opening_course : GlobalState → Image → Logged → Truth → Course
opening_course s before more truth = record {
  register = opening_register s;
  owners = opening_owners s;
  store = opening_store s;
  before = before;
  logs = no_logs;
  slots = idle_slots more;
  truth = truth;
  doubts = no_doubts;
}

-- a sector of a device, behind its label, is settled so
pub record IsSettledWithin (made : Made) (x : Disks) (s : GlobalState) (device sector : ℕ) (content : List ℕ) : Type 0 where
  pub there : device < made.devices
  pub behind_label : 1 ≤ sector
  pub within : sector < store_room made
  pub settled : IsSettled x s device sector content

none_there : {X : Type 0} (one : X) → Contains [] one → ⊥
none_there one (k, less, is) = omega (arith, less)

nothing_in : (more : Logged) (slot at : ℕ) → IsInLog no_logs (idle_slots more) slot at → ⊥
nothing_in more slot at (inl some) = let b = some in cc
nothing_in more slot at (inr begun) = let b = begun.0 in cc

module _ {G O S T : Type 0} (g : register.Ghosts G) (o : owners.Ghosts O) (st : store.Ghosts S) (Stands : Truth → Hints → T → Type 0) (Step : T → Deed → T → Type 0) where
  pub begins : (register_is : G) (owners_are : O) (store_is : S) (x : Disks) (s : GlobalState) (before : Image) (more : Logged) (truth : Truth) (tree : T)
      → g.keeps register_is x (opening_register s)
      → ((who : Actor) → s.index ≤ (g.knows register_is who).index)
      → o.keeps owners_are (opening_owners s)
      → st.keeps store_is x (opening_store s)
      → o.by_boot ≡ st.by_boot
      → ((node : ℕ) → o.own owners_are node ≡ st.own store_is node)
      → ((node session : ℕ) → o.own owners_are node ≡ Some session → session_by o.by_boot s node 0 ≡ Some session)
      → IsAllowed s
      → LabelsStand (st.made store_is) x
      → ((device sector : ℕ) (content : List ℕ) → device < (st.made store_is).devices → 1 ≤ sector → sector < store_room (st.made store_is) → IsSettled x s device sector content → st.stands store_is x (opening_store s) device sector content s.index)
      → LogsStand (IsSettledWithin (st.made store_is) x s) (st.made store_is).devices (st.made store_is).areas s.sessions before no_logs (idle_slots more) truth
      → Stands truth no_hints tree
      → StandsAt g o st Stands Step register_is owners_are store_is x opening_known (opening_course s before more truth) tree
  begins register_is owners_are store_is x s before more truth tree register_keeps knows owners_keep store_keeps same_boots own own_by allowed labels standing logs is = record {
    pasts = record {
      owners_chain = refl;
      store_chain = refl;
      letters = refl;
      owners_letters = refl;
      store_letters = refl;
      down = λ who. refl;
      owners_down = λ who. refl;
      store_down = λ who. refl;
      boots = λ who. omega arith;
      owners_most = λ who. omega arith;
      store_most = λ who. omega arith;
      owners_boots = λ who up. refl;
      store_boots = λ who up. refl;
      own_boots = λ who up. inl refl;
      next_boots = λ boot less. inl refl;
      proposed = λ change there. absurd (none_there change there);
      owners_greatest = omega arith;
      greatest = omega arith;
    };
    parts = record {
      register_keeps = register_keeps;
      owners_keep = owners_keep;
      store_keeps = store_keeps;
      owners_knew = λ who. knows who;
      store_knew = λ who. knows who;
      same_boots = same_boots;
      own = λ node up. own node;
    };
    labels = labels;
    sessions = record {
      told = λ node session has. record { state = s; place = last_place (opening_register s).chain; at = refl; by = own_by node session has };
    };
    logs = rows_go (IsSettledWithin (st.made store_is) x s) (SureOf g o st Stands Step register_is owners_are store_is x opening_known (opening_course s before more truth)) (st.made store_is).devices (st.made store_is).areas before
        (λ d sector content in_room. record {
          index = s.index;
          is = standing d sector content in_room.there in_room.behind_label in_room.within in_room.settled;
          only = record { each = λ write other there writes_it. absurd (none_there write there) };
          within = record { most = omega arith; home = λ at block of. inl (omega arith); slot = λ slot less of node session owner row state is lives its place known entitled has. (let e = ap (λ (x : GlobalState). x.index) place in omega (arith, e)) };
        }) s.sessions s.sessions no_logs (idle_slots more) truth (λ slot less. inl refl) logs;
    rights = record { each = λ session row at has in_it. absurd (nothing_in more row.slot at in_it) };
    writes = record { ends = λ write there. absurd (none_there write there); given = λ write there. absurd (none_there write there); may = λ write d sector content there lives writes_it. absurd (none_there write there) };
    closings = λ gone by there. absurd (none_there _ there);
    volume = record {
      is = is;
      apart = record { each = λ session other block hold other_hold row other_row differ has other_has. absurd (let h = has in cc) };
      rows = λ session lives. lives_has s session lives;
      single = λ node other session has other_has lives. single node other session has other_has;
      views = λ node session has lives. record { is_truth = record { each = λ at mode block shows. absurd (let h = shows in cc) }; holds = λ at mode block shows. absurd (let h = shows in cc) };
      hinted = λ node. is;
      in_doubt = λ session. tt;
    };
    doubted = record { each = λ session row has begun. absurd (let h = begun in cc); only = λ session doubt has. absurd (let h = has in cc) };
  }
    where
      single : (node other session : ℕ) → o.own owners_are node ≡ Some session → o.own owners_are other ≡ Some session → other ≡ node
      single node other session has other_has =
          let one = own_row o.by_boot s node 0 session allowed (own_by node session has) in
          let two = own_row o.by_boot s other 0 session allowed (own_by other session other_has) in
          let e : one.row ≡ two.row = same_row one.row two.row one.is two.is in sym two.of ∙ sym (ap (λ (r : SessionRow). r.node) e) ∙ one.of
        where
          same_row : (a b : SessionRow) → row_in s.sessions session ≡ Some a → row_in s.sessions session ≡ Some b → a ≡ b
          same_row a b first second = cc
