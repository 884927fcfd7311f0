-- What images show that a crash may leave inside a step: a register's, and a store's; and what follows from it.
use Rattle.std.proofs.Common.{◌≡◌, ◌⊎◌, ⊎_elim, inl, inr, ◌∙◌, ℕ, zero, suc, ◌<◌, ◌≤◌, Bool, true, false, List, [], ◌∷◌, Contains, refl, sym, ap, subst, arith}
use Rattle.std.specs.Prelude.{◌&&◌, nat_lt, slice_index, if◌then◌else◌}
use Rattle.std.proofs.lemmas.Bool.Decides.{nat_tests}
use Rattle.bx_calls.specs.Calls.{LeavesOnly}
use Rattle.bx_calls.specs.Laws.{leaves_implies}
use Rattle.bx_disk.specs.Disks.{Disks, Image, IsImage, IsSector}
use Rattle.bx_facts.specs.declared.register.Register as register
use Rattle.bx_facts.specs.Chains.{IsNext, grown, last}
use Rattle.bx_facts.specs.Disks.{IsKept, ReadsOnly, SameLabels, SameLengths, SameReplicas}
use Rattle.bx_facts.specs.Holds.{OwnersPast}
use Rattle.bx_facts.specs.Pasts.{RegisterPast}
use Rattle.bx_facts.specs.Writes.{HasSettled, IsOfStore, IsOnly, IsSettled, IsSourceIn, Made, StorePast, label_on, member_disk, store_grown}
use Rattle.bx_global.specs.declared.change.Change.{Change}
use Rattle.bx_global.specs.declared.change.Change.TheVariants.{Close}
use Rattle.bx_global.specs.declared.state.GlobalState.{GlobalState}
use Rattle.bx_global.specs.Table.{IsLegal}
use Rattle.bx_layout.specs.Labels.{SpellsLabel}
use Rattle.bx_rows.specs.declared.session.SessionRow.{SessionRow}
use Rattle.bx_rows.specs.Rows.{GoesOn}
use Rattle.bx_views.specs.Truths.{Truth}
use Rattle.bx_volume.specs.Images.{AreSources, devices_of}
use Rattle.bx_volume.specs.Overlay.{Logs}
use Rattle.bx_volume.specs.Volumes.{Reading}
use Rattle.bx_world_chains.specs.Entitled.{AreAllowed}
use Rattle.bx_world_images.proofs.Images.{images_show}
use Rattle.bx_world_images.proofs.Volume.{SureIn}
use Rattle.bx_world_standing.specs.bx_world_logs.specs.Logs.{LogsStand, Slot}
use Rattle.bx_world_standing.specs.bx_world_logs.specs.Shown.{ShowsTo}
use Rattle.bx_world_standing.specs.bx_world_logs.proofs.Growing.{rows_go}
use Rattle.bx_world_standing.specs.Closings.{ClosingStands}
use Rattle.bx_world_standing.specs.Labels.{HasNoLabel, IsLabelledSurely, LabelsStand}
use Rattle.bx_world_standing.specs.Rights.{IsWithin, Surely}
use Rattle.bx_world_standing.specs.Standing.{Course}
use Rattle.bx_world_volumes.specs.Left.{HasTruth, IsOf, MayShow, Shows, StandsIn, all_sure}
use Rattle.bx_world_volumes.proofs.Legal.{Decided, legal_or_not}
use Rattle.bx_world_volumes.proofs.Readings.{labelled_by, logs_by, next_stands}
use Rattle.bx_world_volumes.proofs.Volumes.{AreStoreLaws}

-- a member's disk stands behind the replicas'
not_low : (device : ℕ) (second : Bool) → 3 ≤ member_disk device second
not_low device false = omega arith
not_low device true = omega arith

-- ---- what stands surely on disks stands in each image of them

module _ (x : Disks) (image : Image) (sure : (d s : ℕ) → 3 ≤ d → x.unsure d s ≡ false → image d s ≡ x.reads d s) where
  pub settled_in : (s : GlobalState) (d sector : ℕ) (content : List ℕ) → IsSettled x s d sector content → IsSettled (all_sure x.sizes image) s d sector content
  settled_in s d sector content is = record {
    there = is.there;
    reads = λ second source. sure (member_disk d second) sector (not_low d second) (is.sure second source) ∙ is.reads second source;
    sure = λ second source. refl;
  }

  of_store_in : (made : Made) (s : GlobalState) → IsOfStore made x s → IsOfStore made (all_sure x.sizes image) s
  of_store_in made s is = record {
    devices = is.devices;
    labels = record {
      reads = λ device second source. subst (λ (content : List ℕ). SpellsLabel (label_on made (member_disk device second)) content)
          (sym (sure (member_disk device second) 0 (not_low device second) (is.labels.sure device second source))) (is.labels.reads device second source);
      sure = λ device second source. refl;
      long = is.labels.long;
    };
  }

  pub stands_in : (made : Made) (before : Image) (logs : Logs) (slots : ℕ → Slot) (truth : Truth) (s : GlobalState) → StandsIn x made before logs slots truth s → StandsIn (all_sure x.sizes image) made before logs slots truth s
  stands_in made before logs slots truth s stands = record {
    logs_stand = rows_go (IsSettled x s) (IsSettled (all_sure x.sizes image) s) made.devices made.areas before (settled_in s) s.sessions s.sessions logs slots truth (λ slot less. inl refl) stands.logs_stand;
    members = of_store_in made s stands.members;
  }

-- ---- what stands on disks by a store's past, also one state ahead

-- The logs stand by what a store's past says, and go on to stand by each change that was proposed.
pub record HasLogs (made : Made) (keeps : StorePast → Type 0) (stands : StorePast → ℕ → ℕ → List ℕ → ℕ → Type 0) (IsOf : ℕ → SessionRow → Type 0) (knew : ℕ → ℕ) (proposed : List Change) (op : OwnersPast) (before : Image) (logs : Logs) (slots : ℕ → Slot) (truth : Truth)
    (sp : StorePast) : Type 0 where
  pub kept : keeps sp
  pub grows : (change : Change) → Contains proposed change → IsLegal (last sp.told.chain) change
      → keeps (store_grown sp change) × ((d s : ℕ) (content : List ℕ) (index : ℕ) → IsOnly sp.writes sp.told.greatest d s content → stands sp d s content index → stands (store_grown sp change) d s content index)
  pub same : op.told.chain ≡ sp.told.chain
  pub allowed : AreAllowed sp.told.chain
  pub closings : (gone by : ℕ) → Contains proposed (Close gone by) → ClosingStands made.devices (last sp.told.chain) logs slots sp.writes gone by
  pub logs_stand : LogsStand (Surely (stands sp) (IsWithin made.devices made.areas sp.told.chain op.holding op.floor IsOf knew) sp.writes sp.told.greatest) made.devices made.areas (last sp.told.chain).sessions before logs slots truth

module _ (x : Disks) (made : Made) (keeps : StorePast → Type 0) (stands : StorePast → ℕ → ℕ → List ℕ → ℕ → Type 0) (settled : StorePast → ℕ → ℕ → List ℕ → Type 0) (laws : AreStoreLaws x made keeps stands settled)
    (IsOf : ℕ → SessionRow → Type 0) (stays_of : (node : ℕ) (old new : SessionRow) → GoesOn old new → IsOf node new → IsOf node old) (knew : ℕ → ℕ) (proposed : List Change) (op : OwnersPast)
    (before : Image) (logs : Logs) (slots : ℕ → Slot) (truth : Truth) (sp : StorePast) (has : HasLogs made keeps stands IsOf knew proposed op before logs slots truth sp) where
  -- on the disks, and in each image that has what is sure of members
  pub image_stands : (image : Image) → ((d s : ℕ) → 3 ≤ d → x.unsure d s ≡ false → image d s ≡ x.reads d s) → (s : GlobalState) → IsNext proposed (last sp.told.chain) s → StandsIn (all_sure x.sizes image) made before logs slots truth s
  image_stands image sure s is = stands_in x image sure made before logs slots truth s
      (next_stands x made keeps stands settled laws.settles (λ past d sector content kept only is_settled. laws.settled_is past d sector content kept is_settled) laws.labelled
      sp op IsOf stays_of knew proposed s before logs slots truth has.kept has.grows has.same has.allowed has.closings has.logs_stand is)

  -- an image has what is settled by a past
  abbrev pub Has : Image → StorePast → Type 0
  Has image past = HasSettled past.writes past.told.greatest (settled past) x (last past.told.chain) image

  -- what it has then is settled in it, and members are labelled
  settled_then : (image : Image) (past : StorePast) (d sector : ℕ) (content : List ℕ) → keeps past × Has image past → IsOnly past.writes past.told.greatest d sector content → settled past d sector content → IsSettled (all_sure x.sizes image) (last past.told.chain) d sector content
  settled_then image past d sector content kept only is = record {
    there = (laws.settled_is past d sector content kept.0 is).there;
    reads = λ second source. kept.1.has d sector content second only is source;
    sure = λ second source. refl;
  }

  labelled_then : (image : Image) (past : StorePast) → keeps past × Has image past → IsOfStore made (all_sure x.sizes image) (last past.told.chain)
  labelled_then image past kept = record {
    devices = was.devices;
    labels = record {
      reads = λ device second source. subst (λ (content : List ℕ). SpellsLabel (label_on made (member_disk device second)) content)
          (sym (kept.1.labels device second source (was.labels.sure device second source))) (was.labels.reads device second source);
      sure = λ device second source. refl;
      long = was.labels.long;
    };
  }
    where
      was : IsOfStore made x (last past.told.chain)
      was = laws.labelled past kept.0

  -- So in each image that has what is settled by the past, and by it grown by each change that was proposed.
  pub settled_stands : (image : Image) → Has image sp → ((change : Change) → Contains proposed change → IsLegal (last sp.told.chain) change → Has image (store_grown sp change)) → (s : GlobalState) → IsNext proposed (last sp.told.chain) s
      → StandsIn (all_sure x.sizes image) made before logs slots truth s
  settled_stands image now later s is =
      next_stands (all_sure x.sizes image) made (λ past. keeps past × Has image past) stands settled (λ past d sector content index kept. laws.settles past d sector content index kept.0) (settled_then image) (labelled_then image)
      sp op IsOf stays_of knew proposed s before logs slots truth (has.kept, now) (λ change there legal. let grew = has.grows change there legal in ((grew.0, later change there legal), grew.1))
      has.same has.allowed has.closings has.logs_stand is

-- ---- at each moment of a step

-- what one of these lists of facts and another say
leaves_both : (before now : ℕ) (past since : ℕ → Image → Type 0) (P Q : Image → Type 0) → LeavesOnly before now past since P → LeavesOnly before now past since Q → LeavesOnly before now past since (λ image. P image × Q image)
leaves_both before now past since P Q one other = record {
  later = one.later;
  each = λ image left. (one.each image left, other.each image left);
  nothing_else = λ t image le left. ⊎_elim (λ was. inl was) (λ has. ⊎_elim (λ was. inl was) (λ also. inr (has, also)) (other.nothing_else t image le left)) (one.nothing_else t image le left);
  keeps = one.keeps;
}

module _ (before now : ℕ) (past since : ℕ → Image → Type 0) (May : Change → Type 0) (P : Change → Image → Type 0) (decides : (change : Change) → Decided (May change)) where
  abbrev EachOf : List Change → Image → Type 0
  EachOf [] image = Unit {0}
  EachOf (change ∷ changes) image = (May change → P change image) × EachOf changes image

  each_of : (Q : Image → Type 0) (changes : List Change) → LeavesOnly before now past since Q → ((change : Change) → Contains changes change → May change → LeavesOnly before now past since (P change)) → LeavesOnly before now past since (λ image. Q image × EachOf changes image)
  each_of Q [] first each = leaves_implies before now past since Q (λ image. Q image × EachOf [] image) first (λ image q. (q, tt))
  each_of Q (change ∷ changes) first each = by (decides change) (each_of Q changes first (λ one there. each one (suc there.0, let less = there.1 in omega (arith, less), there.2)))
    where
      by : Decided (May change) → LeavesOnly before now past since (λ image. Q image × EachOf changes image) → LeavesOnly before now past since (λ image. Q image × EachOf (change ∷ changes) image)
      by (inl may) rest = leaves_implies before now past since (λ image. (Q image × EachOf changes image) × P change image) (λ image. Q image × EachOf (change ∷ changes) image)
          (leaves_both before now past since (λ image. Q image × EachOf changes image) (P change) rest (each change (0, omega arith, refl) may))
          (λ image is. (is.0.0, ((λ so. is.1), is.0.1)))
      by (inr not) rest = leaves_implies before now past since (λ image. Q image × EachOf changes image) (λ image. Q image × EachOf (change ∷ changes) image) rest (λ image is. (is.0, ((λ so. absurd (not so)), is.1)))

  one_of : (image : Image) (changes : List Change) → EachOf changes image → (change : Change) → Contains changes change → May change → P change image
  one_of image [] all change (k, less, is) = absurd (omega (arith, less))
  one_of image (first ∷ changes) all change (zero, less, is) = subst (λ (one : Change). May one → P one image) is all.0
  one_of image (first ∷ changes) all change (suc k, less, is) = one_of image changes all.1 change (k, omega (arith, less), is)

  -- Of what a crash may leave holds what holds by each of these changes that may be.
  pub all_leave : (Q : Image → Type 0) (changes : List Change) → LeavesOnly before now past since Q → ((change : Change) → Contains changes change → May change → LeavesOnly before now past since (P change))
      → LeavesOnly before now past since (λ image. Q image × ((change : Change) → Contains changes change → May change → P change image))
  all_leave Q changes first each = leaves_implies before now past since (λ image. Q image × EachOf changes image) (λ image. Q image × ((change : Change) → Contains changes change → May change → P change image))
      (each_of Q changes first each) (λ image is. (is.0, one_of image changes is.1))

-- the labels of replicas stand in an image that has those that are sure
labels_in : (made : Made) (x : Disks) (image : Image) → ((d : ℕ) → d < 3 → x.unsure d 0 ≡ false → image d 0 ≡ x.reads d 0) → LabelsStand made x → LabelsStand made (all_sure x.sizes image)
labels_in made x image sure is = record {
  one = is.one;
  other = is.other;
  order = is.order;
  is_one = labelled is.one is.is_one;
  is_other = labelled is.other is.is_other;
  none_before = λ d less. none d (let low = is.is_one.low in omega (arith, less, low)) (is.none_before d less);
}
  where
    labelled : (d : ℕ) → IsLabelledSurely made x d → IsLabelledSurely made (all_sure x.sizes image) d
    labelled d has = record {
      low = has.low;
      long = has.long;
      reads = subst (λ (content : List ℕ). SpellsLabel (label_on made d) content) (sym (sure d has.low has.sure)) has.reads;
      sure = refl;
    }

    none : (d : ℕ) → d < 3 → HasNoLabel x d → HasNoLabel (all_sure x.sizes image) d
    none d low (inl short) = inl short
    none d low (inr (is_sure, unnamed)) = inr (refl, λ label spells names. unnamed label (subst (λ (content : List ℕ). SpellsLabel label content) (sure d low is_sure) spells) names)

-- ---- a register's disks

-- the disks, with what an image has on those of members
abbrev with_members : Disks → Image → Disks
with_members x image = record {
  sizes = x.sizes;
  reads = λ d s. if nat_lt d 3 then x.reads d s else image d s;
  held = x.held;
  unsure = λ d s. nat_lt d 3 && x.unsure d s;
}

low_is : (d : ℕ) → d < 3 → nat_lt d 3 ≡ true
low_is d low = grind (arith, nat_tests, low)

module _ {G : Type 0} (g : register.Ghosts G) (register_is : G) (x : Disks) (past : RegisterPast) (kept : g.keeps register_is x past) (image : Image) (is_of : IsOf x.sizes image)
    (elsewhere : (y : Disks) → g.keeps register_is x past → SameLengths x y → SameReplicas x y → SameLabels x y → g.keeps register_is y past)
    (reads_next : (y : Disks) (s : GlobalState) → g.keeps register_is y past → IsImage y image → g.reads_as (g.made register_is) y.sizes image s → IsNext past.proposed (last past.chain) s)
    (there : (d s : ℕ) → x.unsure d s ≡ true → s < slice_index x.sizes d) (sure : (d s : ℕ) → d < 3 → x.unsure d s ≡ false → image d s ≡ x.reads d s) where
  same_low : (d s : ℕ) → d < 3 → IsKept x (with_members x image) d s
  same_low d s low = record {
    reads = ap (λ (t : Bool). if t then x.reads d s else image d s) (low_is d low);
    sure = λ is. ap (λ (t : Bool). t && x.unsure d s) (low_is d low) ∙ is;
  }

  is_image : IsImage (with_members x image) image
  is_image = record { sure = λ d s is. by d s (nat_lt d 3) refl is; torn = λ d s is. torn_by d s (nat_lt d 3) refl is }
    where
      low_of : (d : ℕ) → nat_lt d 3 ≡ true → d < 3
      low_of d is = grind (arith, nat_tests, is)

      by : (d s : ℕ) (t : Bool) → nat_lt d 3 ≡ t → (t && x.unsure d s) ≡ false → image d s ≡ (if t then x.reads d s else image d s)
      by d s true low is = sure d s (low_of d low) is
      by d s false far is = refl

      torn_by : (d s : ℕ) (t : Bool) → nat_lt d 3 ≡ t → (t && x.unsure d s) ≡ true → IsSector (image d s)
      torn_by d s true low is = is_of.each d s (there d s is)
      torn_by d s false far is = absurd cc

  -- An image that has what is sure on the disks of replicas is read as the last state, or one that a proposed change makes of it.
  pub next_read : (s : GlobalState) → g.reads_as (g.made register_is) x.sizes image s → IsNext past.proposed (last past.chain) s
  next_read s is = reads_next (with_members x image) s
      (elsewhere (with_members x image) kept (record { each = λ d low. refl }) (record { each = λ d s low behind. same_low d s low }) (record { each = λ d low. same_low d 0 low })) is_image is

-- ---- what images show at each moment

module _ (x : Disks) (made : Made) (keeps : StorePast → Type 0) (stands : StorePast → ℕ → ℕ → List ℕ → ℕ → Type 0) (settled : StorePast → ℕ → ℕ → List ℕ → Type 0) (laws : AreStoreLaws x made keeps stands settled)
    (IsOfNode : ℕ → SessionRow → Type 0) (stays_of : (node : ℕ) (old new : SessionRow) → GoesOn old new → IsOfNode node new → IsOfNode node old) (knew : ℕ → ℕ) (proposed : List Change) (op : OwnersPast)
    (c : Course) (sp : StorePast) (has : HasLogs made keeps stands IsOfNode knew proposed op c.before c.logs c.slots c.truth sp) (labels : LabelsStand made x)
    (IsState : Image → GlobalState → Type 0) (before now : ℕ) (past since : ℕ → Image → Type 0) where
  -- while a register's disk is written
  pub registers_leave : (reads_as : List ℕ → Image → GlobalState → Type 0) → ((image : Image) (s : GlobalState) → IsState image s → reads_as x.sizes image s) → LeavesOnly before now past since (ReadsOnly reads_as x (IsNext proposed (last sp.told.chain)))
      → LeavesOnly before now past since (MayShow IsState made x.sizes c)
  registers_leave reads_as reads leaves = leaves_implies before now past since (ReadsOnly reads_as x (IsNext proposed (last sp.told.chain))) (MayShow IsState made x.sizes c) leaves
      (λ image is is_of. record {
        labels = labels_in made x image is.labels labels;
        stands = λ s is_state. image_stands x made keeps stands settled laws IsOfNode stays_of knew proposed op c.before c.logs c.slots c.truth sp has image is.members s (is.read s (reads image s is_state));
      })

  -- while a store's is
  pub stores_leave : ((image : Image) → IsOf x.sizes image → ((d s : ℕ) → d < 3 → x.unsure d s ≡ false → image d s ≡ x.reads d s) → (s : GlobalState) → IsState image s → IsNext proposed (last sp.told.chain) s)
      → LeavesOnly before now past since (HasSettled sp.writes sp.told.greatest (settled sp) x (last sp.told.chain))
      → ((change : Change) → Contains proposed change → IsLegal (last sp.told.chain) change → LeavesOnly before now past since (HasSettled sp.writes sp.told.greatest (settled (store_grown sp change)) x (last (grown sp.told.chain change))))
      → LeavesOnly before now past since (MayShow IsState made x.sizes c)
  stores_leave next leaves grown_leaves = leaves_implies before now past since
      (λ image. Now image × ((change : Change) → Contains proposed change → IsLegal (last sp.told.chain) change → Then change image)) (MayShow IsState made x.sizes c)
      (all_leave before now past since (IsLegal (last sp.told.chain)) Then (legal_or_not (last sp.told.chain)) Now proposed leaves grown_leaves)
      (λ image is is_of. record {
        labels = labels_in made x image (λ d low. is.0.replicas d 0 low) labels;
        stands = λ s is_state. settled_stands x made keeps stands settled laws IsOfNode stays_of knew proposed op c.before c.logs c.slots c.truth sp has image is.0 is.1 s (next image is_of is.0.replicas s is_state);
      })
    where
      Now : Image → Type 0
      Now image = HasSettled sp.writes sp.told.greatest (settled sp) x (last sp.told.chain) image

      Then : Change → Image → Type 0
      Then change image = HasSettled sp.writes sp.told.greatest (settled (store_grown sp change)) x (last (grown sp.told.chain change)) image

-- ---- what follows

-- What an image shows has a truth, of which holds what holds of each that has some of the records under way besides.
pub image_has : (IsState : GlobalState → Type 0) (made : Made) (sizes : List ℕ) (image : Image) (c : Course) (Holds : Truth → Type 0) → made.devices ≤ 4 → ((shown : Logs) (last_truth : Truth) → ShowsTo c.logs c.slots 8 shown c.truth last_truth → Holds last_truth)
    → Shows IsState made sizes image c → HasTruth IsState made sizes image Holds
image_has IsState made sizes image c Holds few trees shows = record {
  replica = shows.labels.one;
  each = λ s is second sources.
      let reading = reading_of s is second sources in
      let labelled = labelled_by (all_sure sizes image) (λ other state. IsState state) made c.before c.logs c.slots c.truth few shows.labels next reading in
      let sh = images_show (SureIn image s) made.devices made.areas s.sessions c.before c.logs c.slots c.truth
      (logs_by (all_sure sizes image) (λ other state. IsState state) made c.before c.logs c.slots c.truth few shows.labels next reading) (devices_of image second) (λ d sector content sure. sure second sources) in (
        sh.shown,
        sh.last,
        record { is_first = labelled.0; devices = labelled.1; labelled = labelled.2; is_truth = sh.is_truth },
        trees sh.shown sh.last sh.shows,
      );
}
  where
    next : (other : Image) (s : GlobalState) → IsImage (all_sure sizes image) other → IsState s → StandsIn (all_sure sizes image) made c.before c.logs c.slots c.truth s
    next other s is_image is = shows.stands s is

    reading_of : (s : GlobalState) → IsState s → (second : ℕ → ℕ → Bool) → AreSources s second → Reading (all_sure sizes image) (λ other state. IsState state)
    reading_of s is second sources = record { image = image; is_image = record { sure = λ d sector e. refl; torn = λ d sector e. absurd cc }; state = s; is_state = is; second = second; sources = sources }
