-- A machine that is down tries to start again, and a disk fails: it stays down, and the nodes stand. By the clauses of the calls: the store's own fails, and it is stopped again; or the
-- register's, behind the store's and the owners' start, and these are stopped again.
use Rattle.std.proofs.Common.{◌≡◌, ◌∙◌, ℕ, ◌+◌, ◌<◌, ◌≤◌, max, Bool, true, false, List, ◌++◌, refl, sym, ap, subst, arith}
use Rattle.std.specs.Prelude.{if◌then◌else◌}
use Rattle.bx_base.specs.declared.names.Actor.{Actor}
use Rattle.bx_disk.specs.Disks.{Disks}
use Rattle.bx_facts.specs.declared.register.Register as register
use Rattle.bx_facts.specs.declared.store.Store as store
use Rattle.bx_facts.specs.Disks.{SameLabels, SameMembers}
use Rattle.bx_facts.specs.Holds.{OwnersPast, owners_crashed, owners_restarted}
use Rattle.bx_facts.specs.Machines.{OnlyAt, is_same, put_at}
use Rattle.bx_facts.specs.Pasts.{MayRestart, RegisterPast, register_failed, register_with}
use Rattle.bx_facts.specs.Writes.{GoesOn, IsOnly, StorePast, store_crashed, store_failed, store_restarted}
use Rattle.bx_facts.proofs.Machines.{elsewhere, here, is_itself, is_one}
use Rattle.bx_global.specs.declared.state.GlobalState.{GlobalState}
use Rattle.bx_node_events.specs.Works.{KeepsWorks}
use Rattle.bx_node_events.proofs.Registered.{HandedLaws, same_lengths, same_member_lengths}
use Rattle.bx_node_events.proofs.Starting.{OwnersStart, StoreTries, may_start}
use Rattle.bx_node_events.proofs.Stopping.{OwnersStop, PartsStop, StoreStops, but_for, stays_down}
use Rattle.bx_node_machines.specs.Machines.{MachineView}
use Rattle.bx_node_machines.specs.Nodes.{NodesStand, known_of}
use Rattle.bx_facts.specs.declared.owners.Owners as owners
use Rattle.bx_post.specs.declared.packets.Letter.{Letter}
use Rattle.bx_views.specs.Attempts.{Deed}
use Rattle.bx_views.specs.Truths.{Hints, Truth}
use Rattle.bx_world_standing.specs.Parts.{Clocks}
use Rattle.bx_world_standing.specs.Standing.{Course}
use Rattle.bx_world_stays.proofs.Labels.{labels_keep, same_labels}
use Rattle.bx_world_stays.proofs.Stays.{only_stays}
use Rattle.bx_world_stops.proofs.Stopped.{Stops}

-- What a register's clauses say of a start in which its disk failed.
pub record RegisterFails {G : Type 0} (g : register.Ghosts G) (old new : G) (y z : Disks) (who : Actor) (boot : ℕ) (box : List Letter) : Type 0 where
  pub keeps : (past : RegisterPast) → g.keeps old y (register_with past box) → past.down who ≡ true → past.boots who < boot → g.keeps new z (register_with (register_failed past who boot) box)
  pub others : OnlyAt who (g.knows old) (g.knows new)
  pub sizes : z.sizes ≡ y.sizes
  pub members : SameMembers y z
  pub labels : SameLabels y z

-- the clocks, where a machine tried to start with a boot
abbrev pub tried_clocks : Clocks → ℕ → ℕ → Clocks
tried_clocks clocks boot reading = record clocks { most = boot; greatest = max clocks.greatest reading }

-- who is down is down when it is put down, and when it was put up before
down_still : (who other : Actor) (down : Actor → Bool) → down who ≡ true → put_at who true down other ≡ down other
down_still who other down is = by (is_same who other) refl
  where
    by : (t : Bool) → is_same who other ≡ t → put_at who true down other ≡ down other
    by true same = ap (λ (t : Bool). if t then true else down other) same ∙ sym is ∙ ap down (is_one who other same)
    by false differ = ap (λ (t : Bool). if t then true else down other) differ

down_again : (who other : Actor) (down : Actor → Bool) → put_at who true (put_at who false down) other ≡ put_at who true down other
down_again who other down = by (is_same who other) refl
  where
    by : (t : Bool) → is_same who other ≡ t → put_at who true (put_at who false down) other ≡ put_at who true down other
    by true same = ap (λ (t : Bool). if t then true else put_at who false down other) same ∙ sym (ap (λ (t : Bool). if t then true else down other) same)
    by false differ = ap (λ (t : Bool). if t then true else put_at who false down other) differ ∙ ap (λ (t : Bool). if t then false else down other) differ ∙ sym (ap (λ (t : Bool). if t then true else down other) differ)

-- what is put is low, where all else is
put_low : (who other : Actor) (value most : ℕ) (old : Actor → ℕ) → value ≤ most → old other ≤ most → put_at who value old other ≤ most
put_low who other value most old low rest = by (is_same who other) refl
  where
    by : (t : Bool) → is_same who other ≡ t → put_at who value old other ≤ most
    by true same = let e : put_at who value old other ≡ value = ap (λ (t : Bool). if t then value else old other) same in omega (arith, e, low)
    by false differ = let e : put_at who value old other ≡ old other = ap (λ (t : Bool). if t then value else old other) differ in omega (arith, e, rest)

module _ {G O S T : Type 0} (g : register.Ghosts G) (o : owners.Ghosts O) (st : store.Ghosts S) (Stands : Truth → Hints → T → Type 0) (Step : T → Deed → T → Type 0) (laws : HandedLaws g o st)
    (register_is : G) (owners_are : O) (store_is store_up store_then : S) (x y : Disks) (letters box : List Letter) (clocks : Clocks) (machines : List MachineView) (c : Course) (tree : T)
    (who : Actor) (boot reading : ℕ) (store_stops : StoreStops st store_up store_then who)
    (stands : NodesStand g o st Stands Step register_is owners_are store_is x (letters ++ box) clocks machines c tree)
    (down : clocks.down who ≡ true) (above : clocks.most < boot) (steady : clocks.greatest ≤ reading + 500) where
  low_boots : (old : Actor → ℕ) → ((other : Actor) → old other ≤ clocks.most) → (other : Actor) → old other ≤ boot
  low_boots old low other = let l = low other in omega (arith, l, above)

  -- The store's disk failed: owners and register know nothing of it.
  module _ (store_tries : StoreTries st store_is store_up x y who boot reading (λ past. store_failed past who boot reading)) where
    abbrev store_left : StorePast
    store_left = store_crashed (store_failed c.store who boot reading) who

    may_try : MayRestart c.store.told who boot reading
    may_try = (may_start g o st Stands Step register_is owners_are store_is x (letters ++ box) clocks machines c tree who boot reading stands down above steady).1

    failed_keeps : st.keeps store_up y (store_failed c.store who boot reading)
    failed_keeps = store_tries.keeps c.store stands.at.parts.store_keeps may_try

    is_down : Stops (known_of g o st Stands Step register_is owners_are store_is x (letters ++ box) clocks machines) c who (tried_clocks clocks boot reading) (letters ++ box) c.register c.owners store_left
    is_down = record {
      clocks_down = λ other. sym (down_still who other clocks.down down);
      clocks_boots = λ other differ. refl;
      most = omega (arith, above);
      owners_chain = stands.at.pasts.owners_chain;
      store_chain = stands.at.pasts.store_chain;
      letters_are = stands.at.pasts.letters;
      owners_letters = stands.at.pasts.owners_letters;
      store_letters = stands.at.pasts.store_letters;
      down = stands.at.pasts.down;
      owners_down = stands.at.pasts.owners_down;
      store_down = λ other. down_still who other (put_at who true c.store.told.down) (here who true c.store.told.down) ∙ down_still who other c.store.told.down (stands.at.pasts.store_down who ∙ down) ∙ stands.at.pasts.store_down other;
      boots = low_boots c.register.boots stands.at.pasts.boots;
      owners_most = low_boots c.owners.told.boots stands.at.pasts.owners_most;
      store_most = λ other. put_low who other boot boot c.store.told.boots (omega arith) (low_boots c.store.told.boots stands.at.pasts.store_most other);
      owners_boots = λ other differ. refl;
      store_boots = λ other differ. elsewhere who other boot c.store.told.boots (λ e. differ (sym e));
      owners_handed = refl;
      store_handed = refl;
      proposed = refl;
      owners_greatest = let a = stands.at.pasts.owners_greatest in omega (arith, a);
      greatest = let a = stands.at.pasts.greatest in omega (arith, a);
      later = omega arith;
      store_knew = λ other differ. elsewhere who other 0 c.store.told.knew (λ e. differ (sym e));
      writes = refl;
      leases = refl;
      floor = λ block. omega arith;
      holds = record { each = λ session block hold has. has };
    }

    parts_stop : PartsStop g o st register_is register_is owners_are owners_are store_is store_then x y c who c.register c.owners store_left
    parts_stop = record {
      register_keeps = laws.registers_elsewhere register_is x y c.register stands.at.parts.register_keeps (same_lengths x y store_tries.sizes) store_tries.replicas store_tries.labels;
      owners_keep = stands.at.parts.owners_keep;
      store_keeps = store_stops.keeps y (store_failed c.store who boot reading) failed_keeps;
      owners_knew = stands.at.parts.owners_knew;
      store_knew = λ other. put_low who other 0 (g.knows register_is other).index c.store.told.knew (omega arith) (stands.at.parts.store_knew other);
      knows = λ other differ. refl;
      own = λ node differ. refl;
      stands = λ d s content index only was. store_stops.stands y (store_failed c.store who boot reading) d s content index failed_keeps (store_tries.stands c.store d s content index stands.at.parts.store_keeps may_try only was);
      reads = λ node s content asks differ asked only was.
          store_stops.reads y (store_failed c.store who boot reading) node s content differ failed_keeps (store_tries.reads c.store node s content asks stands.at.parts.store_keeps may_try differ asked only was);
      others = λ node differ. let one = store_stops.others node differ in let two = store_tries.others node differ in (one.0 ∙ two.0, one.1 ∙ two.1, one.2 ∙ two.2);
      made = store_stops.made ∙ store_tries.made;
      labels = labels_keep (st.made store_is) x y store_tries.sizes (same_labels x y store_tries.labels) stands.at.labels;
    }

    pub store_fails : (later : Course) × (later.register.chain ≡ c.register.chain) × (later.logs ≡ c.logs) × NodesStand g o st Stands Step register_is owners_are store_then y (letters ++ box) (tried_clocks clocks boot reading) machines later tree × KeepsWorks c later
    store_fails = (
      record c { store = store_left },
      refl,
      refl,
      stays_down g o st Stands Step laws register_is register_is owners_are owners_are store_is store_then x y (letters ++ box) clocks (tried_clocks clocks boot reading) machines c tree who
          c.register c.owners store_left (but_for g o st Stands Step register_is owners_are store_is x who (letters ++ box) clocks machines c tree stands) is_down parts_stop,
      record { slots = refl; doubts = refl },
    )

  -- The register's did, when store and owners had started; they are stopped again.
  module _ (register_then : G) (owners_up owners_then : O) (z : Disks)
      (store_tries : StoreTries st store_is store_up x y who boot reading (λ past. store_restarted past who boot reading)) (owners_start : OwnersStart o owners_are owners_up who boot reading)
      (register_fails : RegisterFails g register_is register_then y z who boot box)
      (owners_stop : OwnersStop o owners_up owners_then who) where
    abbrev register_past : RegisterPast
    register_past = register_failed c.register who boot

    abbrev owners_past : OwnersPast
    owners_past = owners_crashed (owners_restarted c.owners who boot reading) who

    abbrev store_past : StorePast
    store_past = store_restarted c.store who boot reading

    both_may : MayRestart c.owners.told who boot reading × MayRestart c.store.told who boot reading
    both_may = may_start g o st Stands Step register_is owners_are store_is x (letters ++ box) clocks machines c tree who boot reading stands down above steady

    down_then : (other : Actor) (told : Actor → Bool) → ((one : Actor) → told one ≡ clocks.down one) → put_at who true told other ≡ clocks.down other
    down_then other told same = down_still who other told (same who ∙ down) ∙ same other

    is_down_too : Stops (known_of g o st Stands Step register_is owners_are store_is x (letters ++ box) clocks machines) c who (tried_clocks clocks boot reading) (letters ++ box) register_past owners_past (store_crashed store_past who)
    is_down_too = record {
      clocks_down = λ other. sym (down_still who other clocks.down down);
      clocks_boots = λ other differ. refl;
      most = omega (arith, above);
      owners_chain = stands.at.pasts.owners_chain;
      store_chain = stands.at.pasts.store_chain;
      letters_are = stands.at.pasts.letters;
      owners_letters = stands.at.pasts.owners_letters;
      store_letters = stands.at.pasts.store_letters;
      down = λ other. down_then other c.register.down stands.at.pasts.down;
      owners_down = λ other. down_again who other c.owners.told.down ∙ down_then other c.owners.told.down stands.at.pasts.owners_down;
      store_down = λ other. down_again who other c.store.told.down ∙ down_then other c.store.told.down stands.at.pasts.store_down;
      boots = λ other. put_low who other boot boot c.register.boots (omega arith) (low_boots c.register.boots stands.at.pasts.boots other);
      owners_most = λ other. put_low who other boot boot c.owners.told.boots (omega arith) (low_boots c.owners.told.boots stands.at.pasts.owners_most other);
      store_most = λ other. put_low who other boot boot c.store.told.boots (omega arith) (low_boots c.store.told.boots stands.at.pasts.store_most other);
      owners_boots = λ other differ. elsewhere who other boot c.owners.told.boots (λ e. differ (sym e));
      store_boots = λ other differ. elsewhere who other boot c.store.told.boots (λ e. differ (sym e));
      owners_handed = refl;
      store_handed = refl;
      proposed = refl;
      owners_greatest = let a = stands.at.pasts.owners_greatest in omega (arith, a);
      greatest = let a = stands.at.pasts.greatest in omega (arith, a);
      later = omega arith;
      store_knew = λ other differ. elsewhere who other 0 c.store.told.knew (λ e. differ (sym e));
      writes = refl;
      leases = refl;
      floor = λ block. omega arith;
      holds = record { each = λ session block hold has. has };
    }

    register_moved : g.keeps register_is y c.register
    register_moved = laws.registers_elsewhere register_is x y c.register stands.at.parts.register_keeps (same_lengths x y store_tries.sizes) store_tries.replicas store_tries.labels

    moved : st.keeps store_up z store_past × GoesOn c.store.writes store_past.told.greatest (st.asked store_up) (st.settled store_up y store_past) (st.settled store_up z store_past)
        (st.will_read store_up y store_past) (st.will_read store_up z store_past) (st.stands store_up y store_past) (st.stands store_up z store_past)
    moved = laws.stores_elsewhere store_up y z store_past (store_tries.keeps c.store stands.at.parts.store_keeps both_may.1) (same_member_lengths y z register_fails.sizes) register_fails.members

    only_later : (d s : ℕ) (content : List ℕ) → IsOnly c.store.writes c.store.told.greatest d s content → IsOnly c.store.writes store_past.told.greatest d s content
    only_later d s content only = only_stays c.store.writes c.store.told.greatest store_past.told.greatest d s content (omega arith) only

    -- what a machine was told is low: of the one that stopped it is nothing
    knew_low : (old : Actor → ℕ) → ((other : Actor) → old other ≤ (g.knows register_is other).index) → (other : Actor) → put_at who 0 old other ≤ (g.knows register_then other).index
    knew_low old low other = by (is_same who other) refl
      where
        by : (t : Bool) → is_same who other ≡ t → put_at who 0 old other ≤ (g.knows register_then other).index
        by true same = let e : put_at who 0 old other ≡ 0 = ap (λ (t : Bool). if t then 0 else old other) same in omega (arith, e)
        by false differ =
            let e : put_at who 0 old other ≡ old other = ap (λ (t : Bool). if t then 0 else old other) differ in
            let same = ap (λ (s : GlobalState). s.index) (register_fails.others.others other (λ is. let f : is_same who other ≡ true = ap (is_same who) is ∙ is_itself who in absurd cc)) in
            let l = low other in omega (arith, e, l, same)

    parts_stop_too : PartsStop g o st register_is register_then owners_are owners_then store_is store_then x z c who register_past owners_past (store_crashed store_past who)
    parts_stop_too = record {
      register_keeps = subst (λ (posted : List Letter). g.keeps register_then z (record (register_failed c.register who boot) { letters = posted })) (sym stands.at.pasts.letters)
          (register_fails.keeps (record c.register { letters = letters }) (subst (λ (posted : List Letter). g.keeps register_is y (record c.register { letters = posted })) stands.at.pasts.letters register_moved)
          (stands.at.pasts.down who ∙ down) (let low = stands.at.pasts.boots who in omega (arith, low, above)));
      owners_keep = owners_stop.keeps (owners_restarted c.owners who boot reading) (owners_start.keeps c.owners stands.at.parts.owners_keep both_may.0);
      store_keeps = store_stops.keeps z store_past moved.0;
      owners_knew = knew_low c.owners.told.knew stands.at.parts.owners_knew;
      store_knew = knew_low c.store.told.knew stands.at.parts.store_knew;
      knows = λ other differ. register_fails.others.others other (λ e. differ (sym e));
      own = λ node differ. owners_stop.others node differ ∙ owners_start.others node differ;
      stands = λ d s content index only was. store_stops.stands z store_past d s content index moved.0
          (moved.1.standing d s content index (only_later d s content only) (store_tries.stands c.store d s content index stands.at.parts.store_keeps both_may.1 only was));
      reads = λ node s content asks differ asked only was. store_stops.reads z store_past node s content differ moved.0
          (moved.1.reading node s content asks ((store_tries.others node differ).2 ∙ asked) (only_later asks.device s content only) (store_tries.reads c.store node s content asks stands.at.parts.store_keeps both_may.1 differ asked only was));
      others = λ node differ. let one = store_stops.others node differ in let two = store_tries.others node differ in (one.0 ∙ two.0, one.1 ∙ two.1, one.2 ∙ two.2);
      made = store_stops.made ∙ store_tries.made;
      labels = labels_keep (st.made store_is) y z register_fails.sizes (same_labels y z register_fails.labels) (labels_keep (st.made store_is) x y store_tries.sizes (same_labels x y store_tries.labels) stands.at.labels);
    }

    pub register_fails_too : (later : Course) × (later.register.chain ≡ c.register.chain) × (later.logs ≡ c.logs) × NodesStand g o st Stands Step register_then owners_then store_then z (letters ++ box) (tried_clocks clocks boot reading) machines later tree × KeepsWorks c later
    register_fails_too = (
      record c { register = register_past; owners = owners_past; store = store_crashed store_past who },
      refl,
      refl,
      stays_down g o st Stands Step laws register_is register_then owners_are owners_then store_is store_then x z (letters ++ box) clocks (tried_clocks clocks boot reading) machines c tree who
          register_past owners_past (store_crashed store_past who) (but_for g o st Stands Step register_is owners_are store_is x who (letters ++ box) clocks machines c tree stands) is_down_too parts_stop_too,
      record { slots = refl; doubts = refl },
    )
