-- A node sends a write: the cluster stands with it.
use Rattle.std.proofs.Common.{◌≡◌, ◌≢◌, ◌⊎◌, ⊎_elim, ℕ, ◌<◌, ◌≤◌, Bool, true, false, eqb, List, ◌∷◌, Contains, Some, None, refl, sym, ◌∙◌, ap, subst, arith}
use Rattle.std.specs.Prelude.{if◌then◌else◌}
use Rattle.std.proofs.lemmas.Bool.Decides.{nat_tests}
use Rattle.bx_base.specs.declared.names.Actor.TheVariants.{Node}
use Rattle.bx_disk.specs.Disks.{Disks}
use Rattle.bx_facts.specs.declared.register.Register as register
use Rattle.bx_facts.specs.declared.store.Store as store
use Rattle.bx_facts.specs.Chains.{LivesIn, last, oldest}
use Rattle.bx_facts.specs.Writes.{IsOnly, Made, Sent, WritesTo}
use Rattle.bx_facts.proofs.Lists.{front_or_behind}
use Rattle.bx_global.specs.declared.change.Change.TheVariants.{Close}
use Rattle.bx_facts.specs.declared.owners.Owners as owners
use Rattle.bx_post.specs.declared.packets.Letter.{Letter}
use Rattle.bx_rows.specs.Words.{row_in}
use Rattle.bx_rows.specs.declared.session.SessionRow.{SessionRow}
use Rattle.bx_views.specs.Attempts.{Deed}
use Rattle.bx_views.specs.Truths.{Hints, Truth}
use Rattle.bx_node_views.specs.bx_world_logs.specs.Logs.{LogsStand}
use Rattle.bx_node_views.specs.bx_world_standing.specs.Rights.{IsOfSlot, IsWithin, MayTouch, RightsStand, Surely, WritesStand}
use Rattle.bx_node_views.specs.bx_world_standing.specs.Labels.{LabelsStand}
use Rattle.bx_node_views.specs.bx_world_standing.specs.Closings.{ClosingStands}
use Rattle.bx_node_views.specs.bx_world_standing.specs.Sessions.{IsOfNode}
use Rattle.bx_node_views.specs.bx_world_standing.specs.Standing.{Course, Known, StandsAt, own_up}

-- the course with more letters, and with a write
abbrev pub with_write : Course → List Letter → Sent → Course
with_write c letters write = record c {
  register = record c.register { letters = letters };
  owners = record c.owners { told = record c.owners.told { letters = letters } };
  store = record c.store { told = record c.store.told { letters = letters }; writes = write ∷ c.store.writes };
}

module _ {G O S T : Type 0} (g : register.Ghosts G) (o : owners.Ghosts O) (st : store.Ghosts S) (Stands : Truth → Hints → T → Type 0) (Step : T → Deed → T → Type 0)
    (register_is : G) (owners_are : O) (old new : S) (x : Disks) (known : Known) (c : Course) (tree : T) (letters : List Letter) (node session : ℕ) (write : Sent)
    (at : StandsAt g o st Stands Step register_is owners_are old x known c tree) where
  -- what stands so, by another store and another list of writes, for a volume that the store is made for
  abbrev SureBy : Made → S → List Sent → ℕ → ℕ → List ℕ → Type 0
  SureBy made which sent = Surely (st.stands which x (with_write c letters write).store)
      (IsWithin made.devices made.areas c.register.chain c.owners.holding c.owners.floor (IsOfNode o.by_boot known.clocks) (λ n. c.store.told.knew (Node n)))
      sent c.store.told.greatest

  -- What stood so before stands so now, where the write brings nothing there.
  pub surely_on : ((d s : ℕ) (content : List ℕ) (index : ℕ) → IsOnly (write ∷ c.store.writes) c.store.told.greatest d s content → st.stands old x c.store d s content index → st.stands new x (with_write c letters write).store d s content index)
      → (d s : ℕ) (content : List ℕ) → ((other : List ℕ) → WritesTo write d s other → ⊥)
      → Surely (st.stands old x c.store) (IsWithin (st.made old).devices (st.made old).areas c.register.chain c.owners.holding c.owners.floor (IsOfNode o.by_boot known.clocks) (λ n. c.store.told.knew (Node n))) c.store.writes c.store.told.greatest d s content
      → SureBy (st.made old) new (write ∷ c.store.writes) d s content
  surely_on goes d s content none sure = record { index = sure.index; is = goes d s content sure.index only sure.is; only = only; within = sure.within }
    where
      only : IsOnly (write ∷ c.store.writes) c.store.told.greatest d s content
      only = record {
        each = λ one other has to. ⊎_elim
            (λ same. absurd (none other (subst (λ (w : Sent). WritesTo w d s other) (sym same) to)))
            (λ before. sure.only.each one other before to)
            (front_or_behind write c.store.writes one has);
      }

  pub sent_at : known.clocks.down (Node node) ≡ false → st.own old node ≡ Some session → LivesIn (last c.register.chain) session → write.session ≡ session
      → g.keeps register_is x (with_write c letters write).register → o.keeps owners_are (with_write c letters write).owners → st.keeps new x (with_write c letters write).store
      → st.made new ≡ st.made old → ((other : ℕ) → st.own new other ≡ st.own old other)
      → ((end : ℕ) × Contains c.owners.leases (session, end) × (write.until ≤ end)) → session < (last c.register.chain).next_session
      → ((d sector : ℕ) (content : List ℕ) → WritesTo write d sector content → MayTouch (st.made old).devices (st.made old).areas (last c.register.chain) c.owners.holding c.logs c.slots session d sector)
      → ((gone d s : ℕ) (row : SessionRow) (content : List ℕ) → Contains c.register.proposed (Close gone session) → row_in (last c.register.chain).sessions gone ≡ Some row → WritesTo write d s content → IsOfSlot (st.made old).devices row.slot d s → ⊥)
      → LogsStand (SureBy (st.made old) new (write ∷ c.store.writes)) (st.made old).devices (st.made old).areas (last c.register.chain).sessions c.before c.logs c.slots c.truth
      → StandsAt g o st Stands Step register_is owners_are new x (record known { letters = letters }) (with_write c letters write) tree
  sent_at up own lives whose register_keeps owners_keep store_keeps made same_own end opened may unclosed logs = record {
    pasts = record {
      owners_chain = at.pasts.owners_chain;
      store_chain = at.pasts.store_chain;
      letters = refl;
      owners_letters = refl;
      store_letters = refl;
      down = at.pasts.down;
      owners_down = at.pasts.owners_down;
      store_down = at.pasts.store_down;
      boots = at.pasts.boots;
      owners_most = at.pasts.owners_most;
      store_most = at.pasts.store_most;
      owners_boots = at.pasts.owners_boots;
      store_boots = at.pasts.store_boots;
      own_boots = at.pasts.own_boots;
      next_boots = at.pasts.next_boots;
      proposed = at.pasts.proposed;
      owners_greatest = at.pasts.owners_greatest;
      greatest = at.pasts.greatest;
    };
    parts = record {
      register_keeps = register_keeps;
      owners_keep = owners_keep;
      store_keeps = store_keeps;
      owners_knew = at.parts.owners_knew;
      store_knew = at.parts.store_knew;
      same_boots = at.parts.same_boots;
      own = λ n is_up. at.parts.own n is_up ∙ sym (same_own n);
    };
    labels = subst (λ (m : Made). LabelsStand m x) (sym made) at.labels;
    sessions = at.sessions;
    logs = subst (λ (m : Made). LogsStand (SureBy m new (write ∷ c.store.writes)) m.devices m.areas (last c.register.chain).sessions c.before c.logs c.slots c.truth) (sym made) logs;
    rights = subst (λ (m : Made). RightsStand (last c.register.chain).sessions c.owners.holding (oldest c.register.chain) m.areas c.logs c.slots) (sym made) at.rights;
    writes = subst (λ (m : Made). WritesStand m.devices m.areas (last c.register.chain) c.owners.holding c.owners.leases c.logs c.slots (write ∷ c.store.writes)) (sym made) writes_then;
    closings = λ gone by has. subst (λ (m : Made). ClosingStands m.devices (last c.register.chain) c.logs c.slots (write ∷ c.store.writes) gone by) (sym made) (closing_then gone by has);
    volume = at.volume;
    doubted = at.doubted;
  }
    where
      cases : (one : Sent) → Contains (write ∷ c.store.writes) one → (write ≡ one) ⊎ Contains c.store.writes one
      cases one has = front_or_behind write c.store.writes one has

      writes_then : WritesStand (st.made old).devices (st.made old).areas (last c.register.chain) c.owners.holding c.owners.leases c.logs c.slots (write ∷ c.store.writes)
      writes_then = record {
        ends = λ one has. ⊎_elim
            (λ same. subst (λ (w : Sent). (end : ℕ) × Contains c.owners.leases (w.session, end) × (w.until ≤ end)) same
            (subst (λ (n : ℕ). (end : ℕ) × Contains c.owners.leases (n, end) × (write.until ≤ end)) (sym whose) end))
            (λ before. at.writes.ends one before) (cases one has);
        given = λ one has. ⊎_elim
            (λ same. subst (λ (n : ℕ). n < (last c.register.chain).next_session) (sym whose ∙ ap (λ (w : Sent). w.session) same) opened)
            (λ before. at.writes.given one before) (cases one has);
        may = λ one d sector content has live to. ⊎_elim
            (λ same. subst (λ (n : ℕ). MayTouch (st.made old).devices (st.made old).areas (last c.register.chain) c.owners.holding c.logs c.slots n d sector) (sym whose ∙ ap (λ (w : Sent). w.session) same)
            (may d sector content (subst (λ (w : Sent). WritesTo w d sector content) (sym same) to)))
            (λ before. at.writes.may one d sector content before live to) (cases one has);
      }

      closing_then : (gone by : ℕ) → Contains c.register.proposed (Close gone by) → ClosingStands (st.made old).devices (last c.register.chain) c.logs c.slots (write ∷ c.store.writes) gone by
      closing_then gone by has =
          let was = at.closings gone by has in
          record {
            given = was.given;
            given_by = was.given_by;
            dead = was.dead;
            entitled = was.entitled;
            closed = λ row live is. let shut = was.closed row live is in record {
              none = shut.none;
              still = shut.still;
              unwritten = λ one d s content there its to in_slot. ⊎_elim
                  (λ front. by_front gone by row one d s content has is front its to in_slot)
                  (λ before. shut.unwritten one d s content before its to in_slot)
                  (cases one there);
            };
          }
        where
          by_front : (gone by : ℕ) (row : SessionRow) (one : Sent) (d s : ℕ) (content : List ℕ) → Contains c.register.proposed (Close gone by) → row_in (last c.register.chain).sessions gone ≡ Some row → write ≡ one → one.session ≡ by
              → WritesTo one d s content → IsOfSlot (st.made old).devices row.slot d s → ⊥
          by_front gone by row one d s content has is front its to in_slot =
              let e : by ≡ session = sym its ∙ ap (λ (w : Sent). w.session) (sym front) ∙ whose in
              unclosed gone d s row content (subst (λ (n : ℕ). Contains c.register.proposed (Close gone n)) e has) is (subst (λ (w : Sent). WritesTo w d s content) (sym front) to) in_slot
