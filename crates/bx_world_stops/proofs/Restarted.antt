-- A machine starts again; and letters or disks change while no machine does anything.
use Rattle.std.proofs.Common.{◌≡◌, ◌≢◌, ◌⊎◌, ⊎_elim, inl, inr, ℕ, ◌<◌, ◌≤◌, max, Bool, true, false, List, Contains, Some, None, refl, sym, ◌∙◌, ap, subst, arith}
use Rattle.std.specs.Prelude.{if◌then◌else◌}
use Rattle.bx_base.specs.declared.names.Actor.{Actor}
use Rattle.bx_base.specs.declared.names.Actor.TheVariants.{Node}
use Rattle.bx_disk.specs.Disks.{Disks}
use Rattle.bx_facts.specs.declared.register.Register as register
use Rattle.bx_facts.specs.declared.store.Store as store
use Rattle.bx_facts.specs.declared.owners.Owners as owners
use Rattle.bx_facts.specs.Chains.{HasOwnBoot, HasRow, last, session_by}
use Rattle.bx_facts.specs.Holds.{OwnersPast}
use Rattle.bx_facts.specs.Machines.{is_same, put_at}
use Rattle.bx_facts.specs.Pasts.{RegisterPast, register_restarted, told_restarted}
use Rattle.bx_facts.specs.Writes.{IsOnly, Sent, StorePast}
use Rattle.bx_facts.proofs.Machines.{is_itself, is_one}
use Rattle.bx_post.specs.declared.packets.Letter.{Letter}
use Rattle.bx_rows.specs.Words.{row_in}
use Rattle.bx_rows.specs.declared.session.SessionRow.{SessionRow}
use Rattle.bx_views.specs.Attempts.{Deed}
use Rattle.bx_views.specs.Truths.{Hints, Truth}
use Rattle.bx_world_views.specs.Views.{AreApart}
use Rattle.bx_world_stays.specs.bx_world_standing.specs.Labels.{LabelsStand}
use Rattle.bx_world_stays.specs.bx_world_standing.specs.Sessions.{IsOfNode}
use Rattle.bx_world_stays.specs.bx_world_standing.specs.Standing.{Course, Known, StandsAt, own_up}
use Rattle.bx_world_stays.specs.bx_world_standing.proofs.Owns.{own_is, own_of}
use Rattle.bx_world_stays.proofs.Stays.{stays}

put_cases : {A : Type 0} (who other : Actor) (value : A) (old : Actor → A) → ((who ≡ other) × (put_at who value old other ≡ value)) ⊎ ((who ≢ other) × (put_at who value old other ≡ old other))
put_cases {A} who other value old = by (is_same who other) refl
  where
    by : (t : Bool) → is_same who other ≡ t → ((who ≡ other) × (put_at who value old other ≡ value)) ⊎ ((who ≢ other) × (put_at who value old other ≡ old other))
    by true same = inl (is_one who other same, ap (λ (t : Bool). if t then value else old other) same)
    by false differ = inr (
      (λ e. let f : is_same who other ≡ true = ap (is_same who) (sym e) ∙ is_itself who in absurd cc),
      ap (λ (t : Bool). if t then value else old other) differ,
    )

same_then : {A : Type 0} (who other : Actor) (value : A) (one two : Actor → A) → one other ≡ two other → put_at who value one other ≡ put_at who value two other
same_then who other value one two is = ap (λ d. if is_same who other then value else d) is

abbrev pub restarted_known : Known → Actor → ℕ → ℕ → List Letter → Known
restarted_known known who boot reading letters = record known {
  letters = letters;
  clocks = record known.clocks {
    down = put_at who false known.clocks.down;
    boots = put_at who boot known.clocks.boots;
    most = boot;
    greatest = max known.clocks.greatest reading;
  };
}

-- the pasts then, with these letters under way: a register asks others at once
abbrev pub register_then_is : RegisterPast → Actor → ℕ → List Letter → RegisterPast
register_then_is past who boot letters = record (register_restarted past who boot) { letters = letters }

abbrev pub owners_then_are : OwnersPast → Actor → ℕ → ℕ → List Letter → OwnersPast
owners_then_are past who boot reading letters = record past { told = record (told_restarted past.told who boot reading) { letters = letters } }

abbrev pub store_then_is : StorePast → Actor → ℕ → ℕ → List Letter → StorePast
store_then_is past who boot reading letters = record past { told = record (told_restarted past.told who boot reading) { letters = letters } }

abbrev pub restarted_course : Course → Actor → ℕ → ℕ → List Letter → Course
restarted_course c who boot reading letters = record c {
  register = register_then_is c.register who boot letters;
  owners = owners_then_are c.owners who boot reading letters;
  store = store_then_is c.store who boot reading letters;
}

module _ {G O S T : Type 0} (g : register.Ghosts G) (o : owners.Ghosts O) (st : store.Ghosts S) (Stands : Truth → Hints → T → Type 0) (Step : T → Deed → T → Type 0) where
  -- A node that starts again has no session yet; no live session is of the boot with which it does.
  pub restarted : (register_is register_then : G) (owners_are owners_then : O) (store_is store_then : S) (x y : Disks) (known : Known) (c : Course) (tree : T) (who : Actor) (boot reading : ℕ) (letters : List Letter)
      → StandsAt g o st Stands Step register_is owners_are store_is x known c tree
      → known.clocks.most < boot
      → g.keeps register_then y (register_then_is c.register who boot letters)
      → ((other : Actor) → who ≢ other → (g.knows register_is other).index ≤ (g.knows register_then other).index)
      → o.keeps owners_then (owners_then_are c.owners who boot reading letters)
      → ((node : ℕ) → who ≢ Node node → o.own owners_then node ≡ o.own owners_are node)
      → ((node : ℕ) → who ≡ Node node → (o.own owners_then node ≡ None) × (st.own store_then node ≡ None))
      → st.keeps store_then y (store_then_is c.store who boot reading letters)
      → ((d s : ℕ) (content : List ℕ) (index : ℕ) → IsOnly c.store.writes c.store.told.greatest d s content → st.stands store_is x c.store d s content index → st.stands store_then y (store_then_is c.store who boot reading letters) d s content index)
      → ((node : ℕ) → who ≢ Node node → st.own store_then node ≡ st.own store_is node)
      → ((node session : ℕ) (row : SessionRow) → who ≡ Node node → row_in (last c.register.chain).sessions session ≡ Some row → row.dead ≡ 0 → row.node ≡ node → (o.by_boot ≡ true → row.boot ≡ boot) → ⊥)
      → st.made store_then ≡ st.made store_is
      → LabelsStand (st.made store_is) y
      → ((past : OwnersPast) → o.keeps owners_then past → AreApart past.holding (HasRow (last past.told.chain)))
      → StandsAt g o st Stands Step register_then owners_then store_then y (restarted_known known who boot reading letters) (restarted_course c who boot reading letters) tree
  restarted register_is register_then owners_are owners_then store_is store_then x y known c tree who boot reading letters at above register_keeps rises owners_keep own fresh store_keeps stands others none_of made labels apart =
      stays g o st Stands Step register_is register_then owners_are owners_then store_is store_then x y known (restarted_known known who boot reading letters) c
      (register_then_is c.register who boot letters) (owners_then_are c.owners who boot reading letters) (store_then_is c.store who boot reading letters) tree at
      (record {
        owners_chain = at.pasts.owners_chain;
        store_chain = at.pasts.store_chain;
        letters = refl;
        owners_letters = refl;
        store_letters = refl;
        down = λ other. same_then who other false c.register.down known.clocks.down (at.pasts.down other);
        owners_down = λ other. same_then who other false c.owners.told.down known.clocks.down (at.pasts.owners_down other);
        store_down = λ other. same_then who other false c.store.told.down known.clocks.down (at.pasts.store_down other);
        boots = λ other. most_then c.register.boots at.pasts.boots other;
        owners_most = λ other. most_then c.owners.told.boots at.pasts.owners_most other;
        store_most = λ other. most_then c.store.told.boots at.pasts.store_most other;
        owners_boots = λ other up. boots_then c.owners.told.boots at.pasts.owners_boots other up;
        store_boots = λ other up. boots_then c.store.told.boots at.pasts.store_boots other up;
        own_boots = λ other up. own_boot other up;
        next_boots = λ more less. at.pasts.next_boots more (omega (arith, above, less));
        proposed = at.pasts.proposed;
        owners_greatest = let a = at.pasts.owners_greatest in omega (arith, a);
        greatest = let a = at.pasts.greatest in omega (arith, a);
      })
      (record {
        register_keeps = register_keeps;
        owners_keep = owners_keep;
        store_keeps = store_keeps;
        owners_knew = λ other. knew c.owners.told.knew at.parts.owners_knew other;
        store_knew = λ other. knew c.store.told.knew at.parts.store_knew other;
        same_boots = at.parts.same_boots;
        own = λ node up. same_own node up (put_cases who (Node node) false known.clocks.down);
      })
      (subst (λ m. LabelsStand m y) (sym made) labels) made
      (record { each = λ session block hold is. is }) (λ block. omega arith) (λ session end is. is) refl (omega arith)
      stands
      (λ node session row is lives of.
      let differ = other_of node session row is lives of in
      (record { up = still_up node differ of.up; of = of.of; boot = λ so. of.boot so ∙ same_boot node differ }, let e = same_knew node differ in omega (arith, e)))
      (record {
        told = λ node session is. let had = owned node session is in let t = at.sessions.told node session had.0 in
            record { state = t.state; place = t.place; at = t.at ∙ sym (same_knew node had.1); by = subst (λ (n : ℕ). session_by o.by_boot t.state node n ≡ Some session) (sym (same_boot node had.1)) t.by };
      })
      (λ node session is lives. inl (owned node session is).0)
      (λ node other session is is_other lives. at.volume.single node other session (owned node session is).0 (owned other session is_other).0 lives)
      (subst (λ chain. AreApart c.owners.holding (HasRow (last chain))) at.pasts.owners_chain (apart (owners_then_are c.owners who boot reading letters) owners_keep))
      at.closings (λ node session place mode block own_is lives is. is) (λ node. inl refl)
    where
      most_then : (old : Actor → ℕ) → ((other : Actor) → old other ≤ known.clocks.most) → (other : Actor) → put_at who boot old other ≤ boot
      most_then old low other = ⊎_elim (λ same. let e = same.1 in omega (arith, e)) (λ differ. let e = differ.1 in let l = low other in omega (arith, e, l, above)) (put_cases who other boot old)

      up_before : (other : Actor) → put_at who false known.clocks.down other ≡ false → who ≢ other → known.clocks.down other ≡ false
      up_before other up differs = ⊎_elim (λ same. absurd (differs same.0)) (λ differ. sym differ.1 ∙ up) (put_cases who other false known.clocks.down)

      boots_then : (old : Actor → ℕ) → ((other : Actor) → known.clocks.down other ≡ false → old other ≡ known.clocks.boots other) → (other : Actor) → put_at who false known.clocks.down other ≡ false
          → put_at who boot old other ≡ put_at who boot known.clocks.boots other
      boots_then old same other up = by (put_cases who other boot old) (put_cases who other boot known.clocks.boots)
        where
          by : ((who ≡ other) × (put_at who boot old other ≡ boot)) ⊎ ((who ≢ other) × (put_at who boot old other ≡ old other))
              → ((who ≡ other) × (put_at who boot known.clocks.boots other ≡ boot)) ⊎ ((who ≢ other) × (put_at who boot known.clocks.boots other ≡ known.clocks.boots other))
              → put_at who boot old other ≡ put_at who boot known.clocks.boots other
          by (inl a) (inl b) = a.1 ∙ sym b.1
          by (inl a) (inr b) = absurd (b.0 a.0)
          by (inr a) (inl b) = absurd (a.0 b.0)
          by (inr a) (inr b) = a.1 ∙ same other (up_before other up a.0) ∙ sym b.1

      own_boot : (other : Actor) → put_at who false known.clocks.down other ≡ false → HasOwnBoot c.register.chain (put_at who boot known.clocks.boots other)
      own_boot other up = ⊎_elim
          (λ same. subst (λ (n : ℕ). HasOwnBoot c.register.chain n) (sym same.1) (at.pasts.next_boots boot above))
          (λ differ. subst (λ (n : ℕ). HasOwnBoot c.register.chain n) (sym differ.1) (at.pasts.own_boots other (up_before other up differ.0)))
          (put_cases who other boot known.clocks.boots)

      knew : (old : Actor → ℕ) → ((other : Actor) → old other ≤ (g.knows register_is other).index) → (other : Actor) → put_at who 0 old other ≤ (g.knows register_then other).index
      knew old low other = ⊎_elim (λ same. let e = same.1 in omega (arith, e)) (λ differ. let e = differ.1 in let l = low other in let r = rises other differ.0 in omega (arith, e, l, r)) (put_cases who other 0 old)

      same_own : (node : ℕ) → put_at who false known.clocks.down (Node node) ≡ false
          → ((who ≡ Node node) × (put_at who false known.clocks.down (Node node) ≡ false)) ⊎ ((who ≢ Node node) × (put_at who false known.clocks.down (Node node) ≡ known.clocks.down (Node node)))
          → o.own owners_then node ≡ st.own store_then node
      same_own node up (inl same) = let both = fresh node same.0 in both.0 ∙ sym both.1
      same_own node up (inr differ) = own node differ.0 ∙ at.parts.own node (sym differ.1 ∙ up) ∙ sym (others node differ.0)

      -- whose row is one that may be a node's is of a node that didn't start now
      other_of : (node session : ℕ) (row : SessionRow) → row_in (last c.register.chain).sessions session ≡ Some row → row.dead ≡ 0 → IsOfNode o.by_boot (restarted_known known who boot reading letters).clocks node row → who ≢ Node node
      other_of node session row is lives of e = none_of node session row e is lives of.of (λ so. of.boot so ∙ here e (put_cases who (Node node) boot known.clocks.boots))
        where
          here : who ≡ Node node → ((who ≡ Node node) × (put_at who boot known.clocks.boots (Node node) ≡ boot)) ⊎ ((who ≢ Node node) × (put_at who boot known.clocks.boots (Node node) ≡ known.clocks.boots (Node node)))
              → put_at who boot known.clocks.boots (Node node) ≡ boot
          here e (inl same) = same.1
          here e (inr differ) = absurd (differ.0 e)

      still_up : (node : ℕ) → who ≢ Node node → put_at who false known.clocks.down (Node node) ≡ false → known.clocks.down (Node node) ≡ false
      still_up node differ up = up_before (Node node) up differ

      same_boot : (node : ℕ) → who ≢ Node node → put_at who boot known.clocks.boots (Node node) ≡ known.clocks.boots (Node node)
      same_boot node differ = ⊎_elim (λ same. absurd (differ same.0)) (λ other. other.1) (put_cases who (Node node) boot known.clocks.boots)

      same_knew : (node : ℕ) → who ≢ Node node → put_at who 0 c.store.told.knew (Node node) ≡ c.store.told.knew (Node node)
      same_knew node differ = ⊎_elim (λ same. absurd (differ same.0)) (λ other. other.1) (put_cases who (Node node) 0 c.store.told.knew)

      -- a node that has a session didn't start now, and had it
      owned : (node session : ℕ) → own_up (put_at who false known.clocks.down) (o.own owners_then) node ≡ Some session → (own_up known.clocks.down (o.own owners_are) node ≡ Some session) × (who ≢ Node node)
      owned node session is =
          let had = own_of (put_at who false known.clocks.down) (o.own owners_then) node session is in
          let differ : who ≢ Node node = λ e. (let none = (fresh node e).0 in let some = had.1 in cc) in
          (own_is known.clocks.down (o.own owners_are) node session (still_up node differ had.0) (sym (own node differ) ∙ had.1), differ)

  -- Letters are lost; the disk of a machine that is down crashes, or is replaced.
  pub remains : (register_is : G) (owners_are : O) (store_is : S) (x y : Disks) (known : Known) (c : Course) (tree : T) (letters : List Letter)
      → StandsAt g o st Stands Step register_is owners_are store_is x known c tree
      → g.keeps register_is y (record c.register { letters = letters })
      → o.keeps owners_are (record c.owners { told = record c.owners.told { letters = letters } })
      → st.keeps store_is y (record c.store { told = record c.store.told { letters = letters } })
      → ((d s : ℕ) (content : List ℕ) (index : ℕ) → IsOnly c.store.writes c.store.told.greatest d s content → st.stands store_is x c.store d s content index
      → st.stands store_is y (record c.store { told = record c.store.told { letters = letters } }) d s content index)
      → LabelsStand (st.made store_is) y
      → StandsAt g o st Stands Step register_is owners_are store_is y (record known { letters = letters })
      (record c { register = record c.register { letters = letters }; owners = record c.owners { told = record c.owners.told { letters = letters } }; store = record c.store { told = record c.store.told { letters = letters } } }) tree
  remains register_is owners_are store_is x y known c tree letters at register_keeps owners_keep store_keeps stands labels =
      stays g o st Stands Step register_is register_is owners_are owners_are store_is store_is x y known (record known { letters = letters }) c
      (record c.register { letters = letters }) (record c.owners { told = record c.owners.told { letters = letters } }) (record c.store { told = record c.store.told { letters = letters } }) tree at
      (record {
        owners_chain = at.pasts.owners_chain;
        store_chain = at.pasts.store_chain;
        letters = refl;
        owners_letters = refl;
        store_letters = refl;
        down = at.pasts.down;
        owners_down = at.pasts.owners_down;
        store_down = at.pasts.store_down;
        boots = at.pasts.boots;
        owners_most = at.pasts.owners_most;
        store_most = at.pasts.store_most;
        owners_boots = at.pasts.owners_boots;
        store_boots = at.pasts.store_boots;
        own_boots = at.pasts.own_boots;
        next_boots = at.pasts.next_boots;
        proposed = at.pasts.proposed;
        owners_greatest = at.pasts.owners_greatest;
        greatest = at.pasts.greatest;
      })
      (record {
        register_keeps = register_keeps;
        owners_keep = owners_keep;
        store_keeps = store_keeps;
        owners_knew = at.parts.owners_knew;
        store_knew = at.parts.store_knew;
        same_boots = at.parts.same_boots;
        own = at.parts.own;
      })
      labels refl (record { each = λ session block hold is. is }) (λ block. omega arith) (λ session end is. is) refl (omega arith)
      stands (λ node session row is lives of. (of, omega arith)) at.sessions (λ node session is lives. inl is) at.volume.single at.volume.apart at.closings (λ node session place mode block own_is lives is. is) (λ node. inl refl)
