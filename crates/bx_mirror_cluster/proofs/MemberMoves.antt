-- Each step of a member as an event of the whole store.
use Rattle.std.proofs.Common.{◌≡◌, ◌⊎◌, inl, inr, ℕ, ◌+◌, ◌-◌, ◌<◌, ◌≤◌, Bool, Contains, List, Some, refl, ◌∙◌, ap, subst, arith}
use Rattle.bx_base.specs.declared.names.Actor.{Actor}
use Rattle.bx_base.specs.declared.names.Actor.TheVariants.{Node}
use Rattle.bx_disk.specs.Disks.{Disks, sector_of}
use Rattle.bx_facts.specs.Chains.{last}
use Rattle.bx_facts.specs.Writes.{IsOnly, Sent, StorePast, store_room}
use Rattle.bx_global.specs.declared.change.Change.{Change}
use Rattle.bx_post.specs.declared.packets.Letter.{Letter}
use Rattle.bx_rows.specs.declared.device.DeviceRow.{DeviceRow}
use Rattle.bx_mirror_member.specs.Standing.{MemberView as Serving}
use Rattle.bx_mirror_client.specs.Streams.{Streaming}
use Rattle.bx_mirror_client.specs.Sends.{member_at}
use Rattle.bx_mirror_client.specs.declared.asking.Asking.{Asking}
use Rattle.bx_mirror_cluster.specs.Fitting.{IsData, IsDrawn, Keeps, Parts, StandsFor, WillReadOn}
use Rattle.bx_mirror_cluster.specs.GoesFurther.{GoesFurther}
use Rattle.bx_mirror_cluster.specs.Learning.{with_clock}
use Rattle.bx_mirror_cluster.specs.MemberSteps.{DeviceHistory, served, with_serving}
use Rattle.bx_mirror_cluster.proofs.Clock.{clock_keeps, reads_clock, settles_clock, stands_clock}
use Rattle.bx_mirror_cluster.proofs.MemberSteps.{IsMemberStep, member_keeps, member_reads, member_settles, member_stands}

-- where no member writes anything else it doesn't at a greater reading
pub only_later : (writes then_ : List Sent) (greatest later d sector : ℕ) (content : List ℕ) → then_ ≡ writes → greatest ≤ later → IsOnly writes greatest d sector content → IsOnly then_ later d sector content
only_later writes then_ greatest later d sector content same rises only = record {
  each = λ write other there brings. elim (only.each write other (subst (λ (ws : List Sent). Contains ws write) same there) brings) [
    | inl e ↦ inl e
    | inr over ↦ inr (omega (arith, over, rises))
  ];
}

-- one event after another
pub both_go : (p q r : Parts) (x y z : Disks) (a b c : StorePast) → GoesFurther p q x y a b → GoesFurther q r y z b c → GoesFurther p r x z a c
both_go p q r x y z a b c one other = record {
  keeps = other.keeps;
  settles = λ d sector content only settled. other.settles d sector content (later d sector content only) (one.settles d sector content only settled);
  stands = λ d sector content index only stands. other.stands d sector content index (later d sector content only) (one.stands d sector content index only stands);
  reads = λ k read sector content asks only will. other.reads k read sector content (ap (λ (ns : ℕ → Streaming). (ns k).asks) one.nodes ∙ asks) (later read.device sector content only) (one.reads k read sector content asks only will);
  nodes = other.nodes ∙ one.nodes;
  writes = other.writes ∙ one.writes;
  rises = let first = one.rises in let second = other.rises in omega (arith, first, second);
}
  where
    later : (d sector : ℕ) (content : List ℕ) → IsOnly a.writes a.told.greatest d sector content → IsOnly b.writes b.told.greatest d sector content
    later d sector content only = only_later a.writes b.writes a.told.greatest b.told.greatest d sector content one.writes one.rises only

-- the greatest reading rises
pub clock_goes : (parts : Parts) (x : Disks) (past : StorePast) (later : ℕ) → past.told.greatest ≤ later → Keeps parts x past → GoesFurther parts parts x x past (with_clock past later)
clock_goes parts x past later rises keeps = record {
  keeps = clock_keeps parts x past later rises keeps;
  settles = λ d sector content only settled. settles_clock parts x past later rises d sector content settled;
  stands = λ d sector content index only stands. stands_clock parts x past later rises d sector content index stands;
  reads = λ k read sector content asks only will. reads_clock parts x past later rises k read sector content will;
  nodes = refl;
  writes = refl;
  rises = rises;
}

-- a step of a member
pub step_goes : (parts : Parts) (x y : Disks) (past : StorePast) (keeps : Keeps parts x past) (d : ℕ) (b : Bool) (m : Serving) (letters : List Letter) (handed : List Change) (knew : Actor → ℕ) (new : DeviceHistory)
    → IsMemberStep parts x y past keeps.history d b m letters handed knew new
    → ((k e session epoch tag : ℕ) (bytes : List ℕ) → IsData letters k e session epoch tag bytes → IsData past.told.letters k e session epoch tag bytes ⊎ IsDrawn (last past.told.chain).next_session (keeps.boot_of session) (past.told.boots (Node k)) session tag (parts.nodes k).tag)
    → ((From : DeviceRow → Type 0) (sector : ℕ) (content : List ℕ) → 1 ≤ sector → sector < store_room parts.made → IsOnly past.writes past.told.greatest d sector content → StandsFor From parts x past d sector content → StandsFor From (with_serving parts (member_at d b) m) y (served past letters handed knew) d sector content)
    → ((k : ℕ) (a : Asking) (sector : ℕ) (content : List ℕ) → (parts.nodes k).asks ≡ Some a → (will : WillReadOn parts x past k a sector content) → (epoch : ℕ) (bytes : List ℕ) → IsData letters k a.device a.session epoch a.tag bytes → will.row.epoch ≤ epoch → a.place ≤ sector
    → sector < a.place + a.sectors → IsData past.told.letters k a.device a.session epoch a.tag bytes ⊎ (sector_of bytes (sector - a.place) ≡ content))
    → GoesFurther parts (with_serving parts (member_at d b) m) x y past (served past letters handed knew)
step_goes parts x y past keeps d b m letters handed knew new step data_is own read_is = record {
  keeps = member_keeps parts x y past keeps d b m letters handed knew new step data_is;
  settles = λ k sector content only settled. member_settles parts x y past keeps d b m letters handed knew new step sector content k
      (λ e From. own From sector content settled.behind_label settled.within (subst (λ (j : ℕ). IsOnly past.writes past.told.greatest j sector content) e only)) settled;
  stands = λ k sector content index only stands. member_stands parts x y past keeps d b m letters handed knew new step sector content k index
      (λ e From. own From sector content stands.settled.behind_label stands.settled.within (subst (λ (j : ℕ). IsOnly past.writes past.told.greatest j sector content) e only)) stands;
  reads = λ k read sector content asks only will. member_reads parts x y past keeps d b m letters handed knew new step sector content k read
      (λ e From. own From sector content will.behind_label will.within (subst (λ (j : ℕ). IsOnly past.writes past.told.greatest j sector content) e only)) will
      (λ epoch bytes data_ from low high. read_is k read sector content asks will epoch bytes data_ from low high);
  nodes = refl;
  writes = refl;
  rises = omega arith;
}

-- one that sends no data
pub plain_goes : (parts : Parts) (x y : Disks) (past : StorePast) (keeps : Keeps parts x past) (d : ℕ) (b : Bool) (m : Serving) (letters : List Letter) (handed : List Change) (knew : Actor → ℕ) (new : DeviceHistory)
    → IsMemberStep parts x y past keeps.history d b m letters handed knew new
    → ((k e session epoch tag : ℕ) (bytes : List ℕ) → IsData letters k e session epoch tag bytes → IsData past.told.letters k e session epoch tag bytes)
    → ((From : DeviceRow → Type 0) (sector : ℕ) (content : List ℕ) → 1 ≤ sector → sector < store_room parts.made → IsOnly past.writes past.told.greatest d sector content → StandsFor From parts x past d sector content → StandsFor From (with_serving parts (member_at d b) m) y (served past letters handed knew) d sector content)
    → GoesFurther parts (with_serving parts (member_at d b) m) x y past (served past letters handed knew)
plain_goes parts x y past keeps d b m letters handed knew new step data_is own =
    step_goes parts x y past keeps d b m letters handed knew new step (λ k e session epoch tag bytes a. inl (data_is k e session epoch tag bytes a)) own
    (λ k a sector content asks will epoch bytes data_ from low high. inl (data_is k a.device a.session epoch a.tag bytes data_))
