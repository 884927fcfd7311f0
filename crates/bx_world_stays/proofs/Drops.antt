-- Writes that members take no more are left out.
use Rattle.std.proofs.Common.{inl, ℕ, List, Contains, refl}
use Rattle.bx_disk.specs.Disks.{Disks}
use Rattle.bx_facts.specs.declared.register.Register as register
use Rattle.bx_facts.specs.declared.store.Store as store
use Rattle.bx_facts.specs.declared.owners.Owners as owners
use Rattle.bx_facts.specs.Chains.{last}
use Rattle.bx_facts.specs.Writes.{IsOnly, Sent}
use Rattle.bx_views.specs.Attempts.{Deed}
use Rattle.bx_views.specs.Truths.{Hints, Truth}
use Rattle.bx_world_standing.specs.bx_world_logs.proofs.Growing.{rows_go}
use Rattle.bx_world_standing.specs.Standing.{Course, Known, StandsAt, SureOf}

abbrev pub dropped_course : Course → List Sent → Course
dropped_course c fewer = record c { store = record c.store { writes = fewer } }

module _ {G O S T : Type 0} (g : register.Ghosts G) (o : owners.Ghosts O) (st : store.Ghosts S) (Stands : Truth → Hints → T → Type 0) (Step : T → Deed → T → Type 0) where
  pub drops : (register_is : G) (owners_are : O) (store_is : S) (x : Disks) (known : Known) (c : Course) (tree : T) (fewer : List Sent)
      → StandsAt g o st Stands Step register_is owners_are store_is x known c tree
      → ((write : Sent) → Contains fewer write → Contains c.store.writes write)
      → st.keeps store_is x (record c.store { writes = fewer })
      → ((d s : ℕ) (content : List ℕ) (index : ℕ) → IsOnly c.store.writes c.store.told.greatest d s content → st.stands store_is x c.store d s content index → st.stands store_is x (record c.store { writes = fewer }) d s content index)
      → StandsAt g o st Stands Step register_is owners_are store_is x known (dropped_course c fewer) tree
  drops register_is owners_are store_is x known c tree fewer at among keeps stands = record {
    pasts = record {
      owners_chain = at.pasts.owners_chain;
      store_chain = at.pasts.store_chain;
      letters = at.pasts.letters;
      owners_letters = at.pasts.owners_letters;
      store_letters = at.pasts.store_letters;
      down = at.pasts.down;
      owners_down = at.pasts.owners_down;
      store_down = at.pasts.store_down;
      boots = at.pasts.boots;
      owners_most = at.pasts.owners_most;
      store_most = at.pasts.store_most;
      owners_boots = at.pasts.owners_boots;
      store_boots = at.pasts.store_boots;
      own_boots = at.pasts.own_boots;
      next_boots = at.pasts.next_boots;
      proposed = at.pasts.proposed;
      owners_greatest = at.pasts.owners_greatest;
      greatest = at.pasts.greatest;
    };
    parts = record {
      register_keeps = at.parts.register_keeps;
      owners_keep = at.parts.owners_keep;
      store_keeps = keeps;
      owners_knew = at.parts.owners_knew;
      store_knew = at.parts.store_knew;
      same_boots = at.parts.same_boots;
      own = at.parts.own;
    };
    labels = at.labels;
    sessions = at.sessions;
    logs = rows_go (SureOf g o st Stands Step register_is owners_are store_is x known c) (SureOf g o st Stands Step register_is owners_are store_is x known (dropped_course c fewer)) (st.made store_is).devices (st.made store_is).areas c.before
        (λ d s content sure. record {
          index = sure.index;
          is = stands d s content sure.index sure.only sure.is;
          within = sure.within;
          only = record { each = λ write other there writes_it. sure.only.each write other (among write there) writes_it };
        })
        (last c.register.chain).sessions (last c.register.chain).sessions c.logs c.slots c.truth (λ slot less. inl refl) at.logs;
    rights = at.rights;
    writes = record {
      ends = λ write there. at.writes.ends write (among write there);
      given = λ write there. at.writes.given write (among write there);
      may = λ write d sector content there lives writes_it. at.writes.may write d sector content (among write there) lives writes_it;
    };
    closings = λ gone by proposed. let was = at.closings gone by proposed in record {
      given = was.given;
      given_by = was.given_by;
      dead = was.dead;
      entitled = was.entitled;
      closed = λ row lives is. let old = was.closed row lives is in record { none = old.none; still = old.still; unwritten = λ write d s content there. old.unwritten write d s content (among write there) };
    };
    volume = at.volume;
    doubted = at.doubted;
  }
