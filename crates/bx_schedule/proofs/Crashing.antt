-- What a crash of one disk leaves; a machine that crashed is down.
use Rattle.std.proofs.Common.{◌≡◌, ◌≢◌, ℕ, ◌==◌, ◌&&◌, not, Bool, true, false, refl, arith, ap, sym, subst, ◌∙◌, Option, Some, None, Result, Ok, Err}
use Rattle.std.proofs.lemmas.Bool.Decides.{nat_tests}
use Rattle.std.specs.Prelude.{OnOk, if◌then◌else◌}
use Rattle.bx_base.specs.declared.names.Actor.{Actor}
use Rattle.bx_base.specs.declared.names.Actor.TheVariants.{Node, Replica, Server, Member}
use Rattle.bx_cluster.specs.Steps.{Shown, down_but}
use Rattle.bx_disk.specs.Crash.{crashed, noise_at, seeded}
use Rattle.bx_disk.specs.Disks.{Disks, IsImage, Stays, blanked}
use Rattle.bx_disk.specs.declared.noise.Noise.{Noise}
use Rattle.bx_disk.specs.declared.noise.Noise.TheVariants.{Keep, Drop, Seed}
use Rattle.bx_facts.specs.Disks.{Crashes}
use Rattle.bx_facts.specs.Machines.{put_at}
use Rattle.bx_post.specs.Machines.{is_same}
use Rattle.bx_world_events.specs.Refusals.{Seen}
use Rattle.bx_world_events.specs.declared.event.Event.{Event}
use Rattle.bx_world_events.specs.declared.event.Event.TheVariants.{Call, Tick, Deliver, Sync, Crash, Restart, Blank}
use Rattle.bx_schedule.specs.Disks.{IsBehind}

-- ---- the disk

itself : (d : ℕ) → (d == d) ≡ true
itself d = grind (arith, nat_tests)

apart : (d disk : ℕ) → d ≢ disk → (d == disk) ≡ false
apart d disk other = grind (arith, nat_tests)

none_unsure : (x : Disks) (disk : ℕ) (how : Noise) (s : ℕ) → (crashed x disk how).unsure disk s ≡ false
none_unsure x disk Keep s = ap (λ b. not b && x.unsure disk s) (itself disk)
none_unsure x disk Drop s = ap (λ b. not b && x.unsure disk s) (itself disk)
none_unsure x disk (Seed seed) s = ap (λ b. not b && x.unsure disk s) (itself disk)

stays : (x : Disks) (disk : ℕ) (how : Noise) (d s : ℕ) → (d == disk) ≡ false → Stays x (crashed x disk how) d s
stays x disk Keep d s other = record {
  reads = refl;
  held = ap (λ b. if b then x.reads d s else x.held d s) other;
  unsure = ap (λ b. not b && x.unsure d s) other;
}
stays x disk Drop d s other = record {
  reads = ap (λ b. if b && x.unsure d s then x.held disk s else x.reads d s) other;
  held = ap (λ b. if b then (if x.unsure d s then x.held disk s else x.reads d s) else x.held d s) other;
  unsure = ap (λ b. not b && x.unsure d s) other;
}
stays x disk (Seed seed) d s other = record {
  reads = ap (λ b. if b && x.unsure d s then noise_at (x.unsure disk) (seeded seed) s else x.reads d s) other;
  held = ap (λ b. if b then (if x.unsure d s then noise_at (x.unsure disk) (seeded seed) s else x.reads d s) else x.held d s) other;
  unsure = ap (λ b. not b && x.unsure d s) other;
}

pub crash_is : (x : Disks) (disk : ℕ) (how : Noise) → IsImage x (crashed x disk how).reads → Crashes disk x (crashed x disk how)
crash_is x disk how image = record {
  sure = λ s is. image.sure disk s is;
  torn = λ s is. image.torn disk s is;
  synced = λ s. none_unsure x disk how s;
  others = λ d s other. stays x disk how d s (apart d disk other);
}

pub led_crashed : {A E : Type 0} (result : Result A E) (Led : Disks → Type 0) (x y : Disks) (disk : ℕ) (how : Noise) → OnOk result (y ≡ crashed x disk how) → OnOk result (IsImage x y.reads) → (Crashes disk x y → Led y) → OnOk result (Led y)
led_crashed (Ok _) Led x y disk how is image goes = goes (subst (Crashes disk x) (sym is) (crash_is x disk how (subst (λ (z : Disks). IsImage x z.reads) is image)))
led_crashed (Err _) Led x y disk how is image goes = tt

pub led_blanked : {A E : Type 0} (result : Result A E) (Led : Disks → Type 0) (x y : Disks) (disk : ℕ) → OnOk result (y ≡ blanked x disk) → Led (blanked x disk) → OnOk result (Led y)
led_blanked (Ok _) Led x y disk is led = subst Led (sym is) led
led_blanked (Err _) Led x y disk is led = tt

-- ---- the machine

same_self : (who : Actor) → is_same who who ≡ true
same_self (Node n) = grind (arith, nat_tests)
same_self (Replica n) = grind (arith, nat_tests)
same_self (Server n) = grind (arith, nat_tests)
same_self (Member n) = grind (arith, nat_tests)

pub stays_down : (stopped : Option Actor) (down : Actor → Bool) (who : Actor) → down who ≡ true → down_but stopped down who ≡ true
stays_down None down who is = is
stays_down (Some other) down who is = by (is_same other who) refl
  where
    by : (b : Bool) → is_same other who ≡ b → put_at other true down who ≡ true
    by true same = ap (λ b. if b then true else down who) same
    by false differs = ap (λ b. if b then true else down who) differs ∙ is

pub behind : (event : Event) (stopped : Option Actor) (old new : Seen) → Shown event stopped old new → IsBehind new event
behind (Crash at) stopped old new shown = shown.down at ∙ stays_down stopped (put_at at true old.down) at (ap (λ b. if b then true else old.down at) (same_self at))
behind (Call reading node client bytes) stopped old new shown = tt
behind (Tick reading at) stopped old new shown = tt
behind (Deliver reading number) stopped old new shown = tt
behind (Sync at) stopped old new shown = tt
behind (Restart reading at) stopped old new shown = tt
behind (Blank at) stopped old new shown = tt
