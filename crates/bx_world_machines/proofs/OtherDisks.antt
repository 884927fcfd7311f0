-- The disks of a cluster change, and no machine does anything: one crashes, or is replaced. And what an image of them shows.
use Rattle.std.proofs.Common.{◌≡◌, ◌≢◌, ◌∙◌, inr, ℕ, ◌+◌, ◌-◌, ◌/◌, ◌%◌, ◌==◌, ◌<◌, ◌≤◌, Bool, true, false, List, Contains, Some, refl, sym, ap, subst, arith}
use Rattle.std.specs.Prelude.{◌&&◌, not, if◌then◌else◌}
use Rattle.std.proofs.lemmas.Bool.Decides.{nat_tests}
use Rattle.bx_base.specs.declared.names.Actor.TheVariants.{Member, Replica}
use Rattle.bx_calls.specs.Calls.{LeavesOnly}
use Rattle.bx_disk.specs.Disks.{Disks, Image, IsImage, Stays, blank_image, blanked}
use Rattle.bx_facts.specs.declared.owners.Owners as owners
use Rattle.bx_facts.specs.declared.register.Register as register
use Rattle.bx_facts.specs.declared.store.Store as store
use Rattle.bx_facts.specs.Chains.{AreLegal, Chain, HasRow, IsNext, LivesIn, last, oldest}
use Rattle.bx_facts.specs.Disks.{Crashes, IsKept, ReadsOnly, SameLengths, SameMemberLengths}
use Rattle.bx_facts.specs.Holds.{Hold}
use Rattle.bx_facts.specs.Pasts.{RegisterPast}
use Rattle.bx_facts.specs.Writes.{GoesOn, IsOnlyOther, StorePast, member_disk}
use Rattle.bx_node_machines.specs.Machines.{MachineView}
use Rattle.bx_node_machines.specs.Nodes.{NodesStand, known_of}
use Rattle.bx_node_steps.specs.Seen.{seen as views}
use Rattle.bx_node_calls.specs.bx_nodes.specs.bx_node_events.proofs.Decided as decided
use Rattle.bx_node_calls.specs.bx_nodes.specs.bx_node_events.proofs.Decided.{lettered}
use Rattle.bx_node_calls.specs.bx_nodes.specs.bx_node_events.proofs.Faulted.{lost}
use Rattle.bx_node_calls.specs.bx_nodes.specs.bx_node_events.proofs.Registered.{HandedLaws, same_lengths, same_member_lengths}
use Rattle.bx_node_calls.specs.bx_nodes.specs.bx_node_events.proofs.Taken.{loose, loosen, tighten}
use Rattle.bx_node_calls.specs.bx_nodes.specs.bx_world_stays.proofs.Labels.{crash_labels, labels_keep}
use Rattle.bx_node_calls.specs.bx_nodes.specs.bx_world_volumes.specs.Left.{MayShow}
use Rattle.bx_node_calls.specs.bx_nodes.proofs.Moments.{MomentLaws, has_logs, register_leaves}
use Rattle.bx_post.specs.declared.packets.Letter.{Letter}
use Rattle.bx_views.specs.Attempts.{Deed}
use Rattle.bx_views.specs.Truths.{Hints, Truth}
use Rattle.bx_views.specs.declared.engine.Engine as engine
use Rattle.bx_world_machines.specs.Standing.{Standing}
use Rattle.bx_world_machines.specs.declared.machines.Machines.{Machines}
use Rattle.bx_world_standing.specs.bx_world_chains.specs.Entitled.{AreAllowed}
use Rattle.bx_world_standing.specs.Labels.{LabelsStand}
use Rattle.bx_world_standing.specs.Parts.{Clocks}
use Rattle.bx_world_standing.specs.Standing.{Course, Known, StandsAt}

-- Register and store go on to fit their pasts on these disks, and all that the store promised is promised there.
pub record StandOn {G S : Type 0} (g : register.Ghosts G) (st : store.Ghosts S) (register_is : G) (store_is : S) (x y : Disks) (c : Course) : Type 0 where
  pub register : g.keeps register_is y c.register
  pub store : st.keeps store_is y c.store
  pub goes : GoesOn c.store.writes c.store.told.greatest (st.asked store_is) (st.settled store_is x c.store) (st.settled store_is y c.store) (st.will_read store_is x c.store) (st.will_read store_is y c.store) (st.stands store_is x c.store) (st.stands store_is y c.store)
  pub labels : LabelsStand (st.made store_is) y

module _ {G O S T : Type 0} (g : register.Ghosts G) (o : owners.Ghosts O) (st : store.Ghosts S) (Stands : Truth → Hints → T → Type 0) (Step : T → Deed → T → Type 0) (laws : HandedLaws g o st)
    (register_is : G) (owners_are : O) (store_is : S) (x y : Disks) (letters : List Letter) (clocks : Clocks) (machines : List MachineView) (c : Course) (tree : T)
    (stands : NodesStand g o st Stands Step register_is owners_are store_is x letters clocks machines (lettered c letters) tree) (on : StandOn g st register_is store_is x y (lettered c letters)) where
  abbrev course : Course
  course = lettered c letters

  lives : (session end : ℕ) → Contains course.owners.leases (session, end) → course.owners.told.greatest ≤ end + 500 → LivesIn (last course.register.chain) session
  lives session end has late = subst (λ (chain : Chain). LivesIn (last chain) session) stands.at.pasts.owners_chain (laws.lives owners_are course.owners session end stands.at.parts.owners_keep has late)

  alone : (one other block : ℕ) (hold : Hold) → LivesIn (last course.register.chain) one → HasRow (last course.register.chain) other → course.owners.holding one block ≡ Some hold → oldest course.register.chain ≤ other
  alone one other block hold live has holds = subst (λ (chain : Chain). oldest chain ≤ other) stands.at.pasts.owners_chain
      (laws.alone owners_are course.owners one other block hold stands.at.parts.owners_keep
      (subst (λ (chain : Chain). LivesIn (last chain) one) (sym stands.at.pasts.owners_chain) live) (subst (λ (chain : Chain). HasRow (last chain) other) (sym stands.at.pasts.owners_chain) has) holds)

  pub stands_on : NodesStand g o st Stands Step register_is owners_are store_is y letters clocks machines course tree
  stands_on = tighten g o st Stands Step register_is owners_are store_is y letters clocks machines course tree on.register
      (record {
        at = decided.still_at g o st Stands Step register_is register_is owners_are store_is x y letters letters clocks machines course tree stands allowed legal (λ who. omega arith) stands.at.parts.owners_keep on.store on.goes on.labels lives alone;
        about = decided.still_about g o st Stands Step register_is register_is owners_are store_is x y letters letters clocks machines course tree stands allowed legal (λ who. omega arith) stands.at.parts.owners_keep on.store on.goes on.labels lives alone;
        recovering = decided.still_recovering g o st Stands Step register_is register_is owners_are store_is x y letters letters clocks machines course tree stands allowed legal (λ who. omega arith) stands.at.parts.owners_keep on.store on.goes on.labels lives alone;
        single = stands.single;
        told = stands.told;
        given = stands.given;
      })
    where
      allowed : AreAllowed course.register.chain
      allowed = record { each = λ s there. laws.allowed register_is x course.register s stands.at.parts.register_keeps there }

      legal : AreLegal course.register.chain.first course.register.chain.changes
      legal = laws.legal register_is x course.register stands.at.parts.register_keeps

-- ---- which sectors stay

kept_there : (x y : Disks) (d s : ℕ) → Stays x y d s → IsKept x y d s
kept_there x y d s stays = record { reads = stays.reads; sure = λ is. stays.unsure ∙ is }

blank_stays : (x : Disks) (disk d s : ℕ) → d ≢ disk → Stays x (blanked x disk) d s
blank_stays x disk d s apart = let e : (d == disk) ≡ false = grind (arith, nat_tests, apart) in record {
  reads = ap (λ (b : Bool). if b then blank_image x.sizes d s else x.reads d s) e;
  held = ap (λ (b : Bool). if b then blank_image x.sizes d s else x.held d s) e;
  unsure = ap (λ (b : Bool). not b && x.unsure d s) e;
}

-- the disk of a member, by its device
its_disk : (n : ℕ) → member_disk (n / 2) (n % 2 == 1) ≡ 3 + n
its_disk n = by (n % 2 == 1) refl
  where
    by : (b : Bool) → (n % 2 == 1) ≡ b → member_disk (n / 2) b ≡ 3 + n
    by true is = grind (arith, nat_tests, is)
    by false is = grind (arith, nat_tests, is)

its_member : (n : ℕ) → member_disk (n / 2) (n % 2 == 1) - 3 ≡ n
its_member n = let e = its_disk n in omega (arith, e)

-- The laws of disks that change.
pub record DiskLaws {G S : Type 0} (g : register.Ghosts G) (st : store.Ghosts S) : Type 0 where
  pub registers_survive : (one : G) (x y : Disks) (past : RegisterPast) (n : ℕ) → g.keeps one x past → past.down (Replica n) ≡ true → SameLengths x y → Crashes n x y → g.keeps one y past
  pub stores_survive : (one : S) (x y : Disks) (past : StorePast) (n : ℕ) → st.keeps one x past → past.told.down (Member n) ≡ true → SameMemberLengths x y → Crashes (3 + n) x y
      → st.keeps one y past × GoesOn past.writes past.told.greatest (st.asked one) (st.settled one x past) (st.settled one y past) (st.will_read one x past) (st.will_read one y past) (st.stands one x past) (st.stands one y past)
  pub stores_replaced : (one : S) (x : Disks) (past : StorePast) (device : ℕ) (second : Bool) → st.keeps one x past → past.told.down (Member (member_disk device second - 3)) ≡ true → IsOnlyOther (last past.told.chain) device second
      → st.keeps one (blanked x (member_disk device second)) past × GoesOn past.writes past.told.greatest (st.asked one) (st.settled one x past) (st.settled one (blanked x (member_disk device second)) past)
      (st.will_read one x past) (st.will_read one (blanked x (member_disk device second)) past) (st.stands one x past) (st.stands one (blanked x (member_disk device second)) past)

module _ {G O S E T : Type 0} (g : register.Ghosts G) (o : owners.Ghosts O) (st : store.Ghosts S) (e : engine.Ghosts E T) (laws : HandedLaws g o st) (machines : Machines G O S E T) (letters : List Letter) (x : Disks) (tree : T)
    (standing : Standing g o st e machines letters x tree) where
  abbrev pub its_course : Course
  its_course = lettered standing.course letters

  pub its_stand : NodesStand g o st (e.stands machines.nodes.engine) (e.step machines.nodes.engine) machines.nodes.register machines.nodes.owners machines.nodes.store x letters standing.clocks (views machines.nodes.machines.items) its_course tree
  its_stand = lost g o st (e.stands machines.nodes.engine) (e.step machines.nodes.engine) laws machines.nodes.register machines.nodes.owners machines.nodes.store x letters letters standing.clocks (views machines.nodes.machines.items) standing.course tree standing.stands
      (λ letter has. has)

  -- they stand on other disks
  abbrev pub machines_on : (y : Disks) → StandOn g st machines.nodes.register machines.nodes.store x y its_course → Standing g o st e machines letters y tree
  machines_on y on = record {
    clocks = standing.clocks;
    course = its_course;
    are_clocks = standing.are_clocks;
    stands = stands_on g o st (e.stands machines.nodes.engine) (e.step machines.nodes.engine) laws machines.nodes.register machines.nodes.owners machines.nodes.store x y letters standing.clocks (views machines.nodes.machines.items) standing.course tree its_stand on;
    came = standing.came;
    doubts = record { came = standing.doubts.came; over = standing.doubts.over; opening = standing.doubts.opening; once = standing.doubts.once };
    known = standing.known;
  }

  -- where the disk of a replica that is down crashes
  pub replica_crashes : DiskLaws g st → (y : Disks) (n : ℕ) → n < 3 → standing.clocks.down (Replica n) ≡ true → y.sizes ≡ x.sizes → Crashes n x y → StandOn g st machines.nodes.register machines.nodes.store x y its_course
  replica_crashes disks y n low down sizes crash =
      let at = its_stand.at in
      let elsewhere = laws.stores_elsewhere machines.nodes.store x y its_course.store at.parts.store_keeps (same_member_lengths x y sizes)
      (record { each = λ d s high. kept_there x y d s (crash.others d s (λ same. omega (arith, low, high, same))) }) in
      record {
        register = disks.registers_survive machines.nodes.register x y its_course.register n at.parts.register_keeps (at.pasts.down (Replica n) ∙ down) (same_lengths x y sizes) crash;
        store = elsewhere.0;
        goes = elsewhere.1;
        labels = labels_keep (st.made machines.nodes.store) x y sizes (crash_labels n x y crash) at.labels;
      }

  -- where all but a member's disk stays
  register_stays : (y : Disks) (disk : ℕ) → 3 ≤ disk → y.sizes ≡ x.sizes → ((d s : ℕ) → d ≢ disk → Stays x y d s) → g.keeps machines.nodes.register y its_course.register
  register_stays y disk high sizes stays = laws.registers_elsewhere machines.nodes.register x y its_course.register its_stand.at.parts.register_keeps (same_lengths x y sizes)
      (record { each = λ d s low behind. kept_there x y d s (stays d s (λ same. omega (arith, low, high, same))) }) (record { each = λ d low. kept_there x y d 0 (stays d 0 (λ same. omega (arith, low, high, same))) })

  -- where the disk of a member that is down crashes
  pub member_crashes : DiskLaws g st → (y : Disks) (n : ℕ) → standing.clocks.down (Member n) ≡ true → y.sizes ≡ x.sizes → Crashes (3 + n) x y → StandOn g st machines.nodes.register machines.nodes.store x y its_course
  member_crashes disks y n down sizes crash =
      let at = its_stand.at in
      let survives = disks.stores_survive machines.nodes.store x y its_course.store n at.parts.store_keeps (at.pasts.store_down (Member n) ∙ down) (same_member_lengths x y sizes) crash in
      record {
        register = register_stays y (3 + n) (omega arith) sizes crash.others;
        store = survives.0;
        goes = survives.1;
        labels = labels_keep (st.made machines.nodes.store) x y sizes (crash_labels (3 + n) x y crash) at.labels;
      }

  -- where it is replaced by a blank one, and its device does without
  pub member_blank : DiskLaws g st → (n : ℕ) → standing.clocks.down (Member n) ≡ true → IsOnlyOther (last standing.course.register.chain) (n / 2) (n % 2 == 1) → StandOn g st machines.nodes.register machines.nodes.store x (blanked x (3 + n)) its_course
  member_blank disks n down spare = subst (λ (disk : ℕ). StandOn g st machines.nodes.register machines.nodes.store x (blanked x disk) its_course) (its_disk n) on
    where
      disk : ℕ
      disk = member_disk (n / 2) (n % 2 == 1)

      high : 3 ≤ disk
      high = let same = its_disk n in omega (arith, same)

      on : StandOn g st machines.nodes.register machines.nodes.store x (blanked x disk) its_course
      on =
          let replaced = disks.stores_replaced machines.nodes.store x its_course.store (n / 2) (n % 2 == 1) its_stand.at.parts.store_keeps
          (its_stand.at.pasts.store_down (Member (disk - 3)) ∙ ap (λ (m : ℕ). standing.clocks.down (Member m)) (its_member n) ∙ down)
          (subst (λ (chain : Chain). IsOnlyOther (last chain) (n / 2) (n % 2 == 1)) (sym its_stand.at.pasts.store_chain) spare) in
          record {
            register = register_stays (blanked x disk) disk high refl (blank_stays x disk);
            store = replaced.0;
            goes = replaced.1;
            labels = labels_keep (st.made machines.nodes.store) x (blanked x disk) refl (λ d low sure. let stays = blank_stays x disk d 0 (λ same. omega (arith, low, high, same)) in (stays.reads, stays.unsure ∙ sure)) its_stand.at.labels;
          }

  -- ---- what an image shows

  -- Each image that a crash of all may leave shows what the course has.
  pub image_shows : MomentLaws g st → (image : Image) → IsImage x image → MayShow (g.reads_as (g.made machines.nodes.register) x.sizes) (st.made machines.nodes.store) x.sizes standing.course image
  image_shows moments image is = shown.each image refl
    where
      register_is : G
      register_is = machines.nodes.register

      c : Course
      c = standing.course

      known : Known
      known = known_of g o st (e.stands machines.nodes.engine) (e.step machines.nodes.engine) register_is machines.nodes.owners machines.nodes.store x letters standing.clocks (views machines.nodes.machines.items)

      at : StandsAt (loose g) o st (e.stands machines.nodes.engine) (e.step machines.nodes.engine) register_is machines.nodes.owners machines.nodes.store x known c tree
      at = loosen g o st (e.stands machines.nodes.engine) (e.step machines.nodes.engine) register_is register_is machines.nodes.owners machines.nodes.store x known c tree (λ other. omega arith) standing.stands.at

      allowed : AreAllowed c.register.chain
      allowed = record { each = λ s there. laws.allowed register_is x c.register s standing.stands.at.parts.register_keeps there }

      reads : ReadsOnly (g.reads_as (g.made register_is)) x (IsNext c.register.proposed (last c.register.chain)) image
      reads = record {
        members = λ d s high sure. is.sure d s sure;
        labels = λ d low sure. is.sure d 0 sure;
        read = λ s reads. moments.reads_next register_is x c.register image s standing.stands.at.parts.register_keeps is reads;
      }

      alone : LeavesOnly 0 0 (λ t other. ⊥) (λ t other. image ≡ other) (ReadsOnly (g.reads_as (g.made register_is)) x (IsNext c.register.proposed (last c.register.chain)))
      alone = record {
        later = omega arith;
        each = λ other same. subst (ReadsOnly (g.reads_as (g.made register_is)) x (IsNext c.register.proposed (last c.register.chain))) same reads;
        nothing_else = λ t other before same. inr (subst (ReadsOnly (g.reads_as (g.made register_is)) x (IsNext c.register.proposed (last c.register.chain))) same reads);
        keeps = λ t other before was. absurd was;
      }

      shown : LeavesOnly 0 0 (λ t other. ⊥) (λ t other. image ≡ other) (MayShow (g.reads_as (g.made register_is) x.sizes) (st.made machines.nodes.store) x.sizes c)
      shown = register_leaves g o st laws moments (e.stands machines.nodes.engine) (e.step machines.nodes.engine) register_is machines.nodes.owners machines.nodes.store x known c tree at allowed machines.nodes.store x c.store.told refl
          (has_logs g o st laws moments (e.stands machines.nodes.engine) (e.step machines.nodes.engine) register_is machines.nodes.owners machines.nodes.store x known c tree at allowed) at.labels 0 0 (λ t other. ⊥) (λ t other. image ≡ other) alone
