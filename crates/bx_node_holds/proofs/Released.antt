-- A node lets a block go that its session gives up, or wants otherwise: the cluster stands, by the holds that are left.
use Rattle.std.proofs.Common.{◌≡◌, ◌≢◌, inl, inr, ℕ, Bool, true, false, eqb, List, Contains, Option, Some, None, refl, sym, ◌∙◌, ap, subst, arith}
use Rattle.std.proofs.lemmas.Bool.Decides.{nat_tests}
use Rattle.bx_base.specs.declared.names.Actor.TheVariants.{Node}
use Rattle.bx_base.specs.declared.names.Mode.TheVariants.{Exclusive}
use Rattle.bx_disk.specs.Disks.{Disks}
use Rattle.bx_facts.specs.declared.register.Register as register
use Rattle.bx_facts.specs.declared.store.Store as store
use Rattle.bx_facts.specs.Chains.{HasRow, LivesIn, last, oldest}
use Rattle.bx_facts.specs.Holds.{Hold, Holds, KeepsOthers, is_exclusive}
use Rattle.bx_facts.specs.Writes.{IsOnly, Sent}
use Rattle.bx_facts.specs.declared.owners.Owners as owners
use Rattle.bx_post.specs.declared.packets.Letter.{Letter}
use Rattle.bx_rows.specs.Words.{row_in}
use Rattle.bx_rows.specs.declared.session.SessionRow.{SessionRow}
use Rattle.bx_views.specs.Attempts.{Deed}
use Rattle.bx_views.specs.Truths.{Held, Hints, Truth}
use Rattle.bx_node_views.specs.bx_world_logs.specs.Logs.{IsInLog}
use Rattle.bx_node_views.specs.bx_world_logs.proofs.Growing.{rows_go}
use Rattle.bx_world_views.specs.Views.{AreApart, VolumeStands}
use Rattle.bx_node_views.specs.bx_world_standing.specs.Rights.{HasBlock, IsReached, IsWithin, MayTouch}
use Rattle.bx_node_views.specs.bx_world_standing.specs.Rights.MayTouch.{OfHeld, OfLogged, OfSlot}
use Rattle.bx_node_views.specs.bx_world_standing.specs.Sessions.{IsOfNode}
use Rattle.bx_node_views.specs.bx_world_standing.specs.Standing.{Course, Known, StandsAt, SureOf, own_up}
use Rattle.bx_node_views.specs.bx_world_standing.proofs.Owns.{own_is, own_of}
use Rattle.bx_node_views.specs.Changes.{Hides}
use Rattle.bx_node_views.proofs.Knowing.{exclusive_is}
use Rattle.bx_node_views.proofs.Views.{gave_up}

-- the course with more letters, and with these holds and floors
abbrev pub with_holds : Course → List Letter → Holds → (ℕ → ℕ) → Course
with_holds c letters holding floor = record c {
  register = record c.register { letters = letters };
  owners = record c.owners { told = record c.owners.told { letters = letters }; holding = holding; floor = floor };
  store = record c.store { told = record c.store.told { letters = letters } };
}

-- an exclusive hold that stays held stays exclusive
exclusive_stays : (old new : Holds) (session at : ℕ) → ((hold : Hold) → old session at ≡ Some hold → new session at ≡ Some hold) → is_exclusive (old session at) ≡ true → is_exclusive (new session at) ≡ true
exclusive_stays old new session at stays is =
    let held = exclusive_is (old session at) is in
    ap (λ (h : Option Hold). is_exclusive h) (stays (Exclusive, held.0) held.1)

module _ {G O S T : Type 0} (g : register.Ghosts G) (o : owners.Ghosts O) (st : store.Ghosts S) (Stands : Truth → Hints → T → Type 0) (Step : T → Deed → T → Type 0)
    (register_is : G) (owners_are owners_then : O) (store_is : S) (x : Disks) (known : Known) (c : Course) (tree : T) (node session block : ℕ) (row : SessionRow)
    (letters : List Letter) (holding : Holds) (floor : ℕ → ℕ) (held : ℕ → Held) (hints : ℕ → Hints)
    (at : StandsAt g o st Stands Step register_is owners_are store_is x known c tree) where
  -- The block is in no log of the session and none of its records is in doubt; where it holds the block exclusively, none of its writes may be taken any
  -- more; whoever gets any block afterwards still reaches what was written.
  pub let_go_at : known.clocks.down (Node node) ≡ false → o.own owners_are node ≡ Some session → LivesIn (last c.register.chain) session → row_in (last c.register.chain).sessions session ≡ Some row
      → g.keeps register_is x (with_holds c letters holding floor).register → o.keeps owners_then (with_holds c letters holding floor).owners → st.keeps store_is x (with_holds c letters holding floor).store
      → ((d s : ℕ) (content : List ℕ) (index : ℕ) → IsOnly c.store.writes c.store.told.greatest d s content → st.stands store_is x c.store d s content index → st.stands store_is x (with_holds c letters holding floor).store d s content index)
      → ((other : ℕ) → o.own owners_then other ≡ o.own owners_are other)
      → KeepsOthers session block c.owners.holding holding
      → AreApart holding (HasRow (last c.register.chain))
      → ((place index : ℕ) → IsReached (st.made store_is).devices (st.made store_is).areas c.register.chain c.owners.holding c.owners.floor (IsOfNode o.by_boot known.clocks) (λ n. c.store.told.knew (Node n)) place index
      → IsReached (st.made store_is).devices (st.made store_is).areas c.register.chain holding floor (IsOfNode o.by_boot known.clocks) (λ n. c.store.told.knew (Node n)) place index)
      → (IsInLog c.logs c.slots row.slot block → ⊥)
      → ((write : Sent) → Contains c.store.writes write → write.session ≡ session → is_exclusive (c.owners.holding session block) ≡ false)
      → c.doubts session ≡ None
      → Hides block (known.held node) (held node) → Stands c.truth (hints node) tree
      → ((other : ℕ) → other ≢ node → (held other ≡ known.held other) × (hints other ≡ known.hints other))
      → StandsAt g o st Stands Step register_is owners_then store_is x (record known { letters = letters; held = held; hints = hints }) (with_holds c letters holding floor) tree
  let_go_at up own lives is_row register_keeps owners_keep store_keeps stands same_own keeps apart reaches unlogged free undoubted hides hinted others = record {
    pasts = record {
      owners_chain = at.pasts.owners_chain;
      store_chain = at.pasts.store_chain;
      letters = refl;
      owners_letters = refl;
      store_letters = refl;
      down = at.pasts.down;
      owners_down = at.pasts.owners_down;
      store_down = at.pasts.store_down;
      boots = at.pasts.boots;
      owners_most = at.pasts.owners_most;
      store_most = at.pasts.store_most;
      owners_boots = at.pasts.owners_boots;
      store_boots = at.pasts.store_boots;
      own_boots = at.pasts.own_boots;
      next_boots = at.pasts.next_boots;
      proposed = at.pasts.proposed;
      owners_greatest = at.pasts.owners_greatest;
      greatest = at.pasts.greatest;
    };
    parts = record {
      register_keeps = register_keeps;
      owners_keep = owners_keep;
      store_keeps = store_keeps;
      owners_knew = at.parts.owners_knew;
      store_knew = at.parts.store_knew;
      same_boots = at.parts.same_boots;
      own = λ n is_up. same_own n ∙ at.parts.own n is_up;
    };
    labels = at.labels;
    sessions = record { told = λ n s is. at.sessions.told n s (was_own n s is) };
    logs = rows_go (SureOf g o st Stands Step register_is owners_are store_is x known c)
        (SureOf g o st Stands Step register_is owners_then store_is x (record known { letters = letters; held = held; hints = hints }) (with_holds c letters holding floor)) (st.made store_is).devices (st.made store_is).areas c.before
        (λ d s content sure. record { index = sure.index; is = stands d s content sure.index sure.only sure.is; only = sure.only; within = within_then d s sure.index sure.within })
        (last c.register.chain).sessions (last c.register.chain).sessions c.logs c.slots c.truth (λ slot less. inl refl) at.logs;
    rights = record { each = λ other its place is_its inside. let was = at.rights.each other its place is_its inside in (was.0, right other its place is_its inside was.1) };
    writes = record { ends = at.writes.ends; given = at.writes.given; may = λ write d sector content there live to. touch write d sector there (at.writes.may write d sector content there live to) };
    closings = at.closings;
    volume = record {
      is = volume.is;
      apart = volume.apart;
      rows = volume.rows;
      single = λ n other s is is_other live. volume.single n other s (was_own n s is) (was_own other s is_other) live;
      views = λ n s is live. volume.views n s (was_own n s is) live;
      hinted = volume.hinted;
      in_doubt = volume.in_doubt;
    };
    doubted = at.doubted;
  }
    where
      was_own : (n s : ℕ) → own_up known.clocks.down (o.own owners_then) n ≡ Some s → own_up known.clocks.down (o.own owners_are) n ≡ Some s
      was_own n s is = let had = own_of known.clocks.down (o.own owners_then) n s is in own_is known.clocks.down (o.own owners_are) n s had.0 (sym (same_own n) ∙ had.1)

      within_then : (d s index : ℕ) → IsWithin (st.made store_is).devices (st.made store_is).areas c.register.chain c.owners.holding c.owners.floor (IsOfNode o.by_boot known.clocks) (λ n. c.store.told.knew (Node n)) d s index
          → IsWithin (st.made store_is).devices (st.made store_is).areas c.register.chain holding floor (IsOfNode o.by_boot known.clocks) (λ n. c.store.told.knew (Node n)) d s index
      within_then d s index within = record { most = within.most; home = λ place is of. reaches place index (within.home place is of); slot = within.slot }

      one_row : (a b : SessionRow) (found : Option SessionRow) → found ≡ Some a → found ≡ Some b → a ≡ b
      one_row a b found is too = cc

      others_stay : (other place : ℕ) → other ≢ session → is_exclusive (c.owners.holding other place) ≡ true → is_exclusive (holding other place) ≡ true
      others_stay other place ne has = exclusive_stays c.owners.holding holding other place (λ hold is. keeps.other_sessions other place hold ne is) has

      right : (other : ℕ) (its : SessionRow) (place : ℕ) → row_in (last c.register.chain).sessions other ≡ Some its → IsInLog c.logs c.slots its.slot place → HasBlock c.owners.holding (oldest c.register.chain) other place
          → HasBlock holding (oldest c.register.chain) other place
      right other its place is_its inside (inr older) = inr older
      right other its place is_its inside (inl has) = inl (by_test (eqb other session) (eqb place block) refl refl)
        where
          by_test : (a b : Bool) → eqb other session ≡ a → eqb place block ≡ b → is_exclusive (holding other place) ≡ true
          by_test false b differ is = others_stay other place (λ e. grind (arith, nat_tests, differ, e)) has
          by_test true false same differ =
              let e : other ≡ session = grind (arith, nat_tests, same) in
              let ne : place ≢ block = λ f. grind (arith, nat_tests, differ, f) in
              subst (λ (n : ℕ). is_exclusive (holding n place) ≡ true) (sym e)
              (exclusive_stays c.owners.holding holding session place (λ hold is. keeps.other_blocks place hold ne is) (subst (λ (n : ℕ). is_exclusive (c.owners.holding n place) ≡ true) e has))
          by_test true true same here =
              let e : other ≡ session = grind (arith, nat_tests, same) in
              let f : place ≡ block = grind (arith, nat_tests, here) in
              let r : its ≡ row = one_row its row (row_in (last c.register.chain).sessions session) (subst (λ (n : ℕ). row_in (last c.register.chain).sessions n ≡ Some its) e is_its) is_row in
              absurd (unlogged (subst (λ (n : ℕ). IsInLog c.logs c.slots row.slot n) f (subst (λ (y : SessionRow). IsInLog c.logs c.slots y.slot place) r inside)))

      still : (write : Sent) (place : ℕ) → Contains c.store.writes write → is_exclusive (c.owners.holding write.session place) ≡ true → is_exclusive (holding write.session place) ≡ true
      still write place there has = by_test (eqb write.session session) (eqb place block) refl refl
        where
          by_test : (a b : Bool) → eqb write.session session ≡ a → eqb place block ≡ b → is_exclusive (holding write.session place) ≡ true
          by_test false b differ is = others_stay write.session place (λ e. grind (arith, nat_tests, differ, e)) has
          by_test true false same differ =
              let e : write.session ≡ session = grind (arith, nat_tests, same) in
              let ne : place ≢ block = λ f. grind (arith, nat_tests, differ, f) in
              subst (λ (n : ℕ). is_exclusive (holding n place) ≡ true) (sym e)
              (exclusive_stays c.owners.holding holding session place (λ hold is. keeps.other_blocks place hold ne is) (subst (λ (n : ℕ). is_exclusive (c.owners.holding n place) ≡ true) e has))
          by_test true true same here =
              let e : write.session ≡ session = grind (arith, nat_tests, same) in
              let f : place ≡ block = grind (arith, nat_tests, here) in
              let was = subst (λ (n : ℕ). is_exclusive (c.owners.holding n place) ≡ true) e has in
              let own = subst (λ (n : ℕ). is_exclusive (c.owners.holding session n) ≡ true) f was in
              absurd (let wrong : true ≡ false = sym own ∙ free write there e in cc)

      touch : (write : Sent) (d sector : ℕ) → Contains c.store.writes write → MayTouch (st.made store_is).devices (st.made store_is).areas (last c.register.chain) c.owners.holding c.logs c.slots write.session d sector
          → MayTouch (st.made store_is).devices (st.made store_is).areas (last c.register.chain) holding c.logs c.slots write.session d sector
      touch write d sector there (OfSlot owner slot small entitled in_slot) = OfSlot owner slot small entitled in_slot
      touch write d sector there (OfHeld place is home has) = OfHeld place is home (still write place there has)
      touch write d sector there (OfLogged place owner slot is home small entitled inside) = OfLogged place owner slot is home small entitled inside

      volume : VolumeStands Stands Step holding (HasRow (last c.register.chain)) (LivesIn (last c.register.chain)) (own_up known.clocks.down (o.own owners_are)) held hints c.doubts c.truth tree
      volume = gave_up Stands Step c.owners.holding holding (HasRow (last c.register.chain)) (LivesIn (last c.register.chain)) (own_up known.clocks.down (o.own owners_are)) known.held held known.hints hints c.doubts c.truth tree node session block
          at.volume (own_is known.clocks.down (o.own owners_are) node session up own) lives undoubted keeps apart hides hinted others
