-- What an acceptor takes, and how it stands then.
use Rattle.std.proofs.Common.{◌≡◌, ℕ, ◌+◌, ◌^◌, ◌<◌, List, length, Option, Some, None, IfSome, IfNone, Bool, true, ◌⊎◌, refl, sym, ap, subst, ◌∙◌, arith, inl, inr}
use Rattle.std.proofs.lemmas.Bool.Decides.{eqb_tells}
use Rattle.bx_base.specs.declared.names.Actor.{Actor}
use Rattle.bx_calls.specs.Calls.{LeavesOnly}
use Rattle.bx_cell.specs.Cells.{HasEither, Holds, Known, next, with_value}
use Rattle.bx_cell.specs.Halves.{Found, cell_in}
use Rattle.bx_cell.specs.Images.{EachSure}
use Rattle.bx_disk.specs.Disks.{Disks, Image, IsImage}
use Rattle.bx_facts.specs.declared.input.Input.{Input}
use Rattle.bx_facts.specs.declared.input.Input.TheVariants.{Packet, Tick, Synced}
use Rattle.bx_global.specs.declared.held.Held.{Held}
use Rattle.bx_global.specs.declared.state.GlobalState.{GlobalState}
use Rattle.bx_global.specs.Allowed.{IsAllowed}
use Rattle.bx_global.specs.Bytes.{HasCounts, IsHeld, SpellsHeld, held_text}
use Rattle.bx_global.proofs.HeldText.{one_held}
use Rattle.bx_packets.specs.declared.message.Message.{Message}
use Rattle.bx_packets.specs.declared.message.Message.TheVariants.{Ask, Decided, Prepare, Promise as Promising, Accept, Accepted, Refused}
use Rattle.bx_packets.specs.Messages.{IsMessage}
use Rattle.bx_packets.proofs.Spelled.{one_message}
use Rattle.bx_post.specs.declared.packets.Letter.{Letter}
use Rattle.bx_acceptor.specs.declared.origin.Origin.{Origin}
use Rattle.bx_acceptor.specs.declared.origin.Origin.TheVariants.{Made, Found as FoundAs, Apart}
use Rattle.bx_answers.specs.Handling.{Changes, MayBecome, caught_up, first_held}
use Rattle.bx_acceptor.specs.Standing.{Answers, BecomesBy, Brings, CatchesUp, HasCell, HasContent, IsAsFound, IsCellOf, IsFound, IsNotFound, IsAcceptorView, IsTaken, IsTakenBy, AcceptorView, Takes, TakesPart, cell_with, devices_of}
use Rattle.bx_acceptor.specs.Starting.{HoldsOf, IsCellAt, StandsSo, StartsWith}

-- ---- what comes

-- one message comes, from one machine
pub one_brought : (devices : ℕ) (input : Input) (m n : Message) (f t : Actor) → Brings devices input m f → Brings devices input n t → (m ≡ n) × (f ≡ t)
one_brought devices (Packet packet reading) m n f t p q = (one_message m n packet.now.kind packet.now.body devices devices p.0 q.0, p.1 ∙ sym q.1)
one_brought devices (Tick reading) m n f t p q = absurd p
one_brought devices Synced m n f t p q = absurd p

message_is : (devices : ℕ) (input : Input) (m : Message) (f : Actor) → Brings devices input m f → IsMessage devices m
message_is devices (Packet packet reading) m f p = p.0.is
message_is devices (Tick reading) m f p = absurd p
message_is devices Synced m f p = absurd p

pub brought_is : (devices others : ℕ) (input : Input) (m : Message) (f : Actor) → others ≡ devices → Brings others input m f → IsMessage devices m
brought_is devices others input m f same p = message_is devices input m f (subst (λ (k : ℕ). Brings k input m f) same p)

-- what was done with the message that was found was done with the one that came
pub answered : (a b : AcceptorView) (others : ℕ) (input : Input) (new : Held) (m n : Message) (f t : Actor) (before after : List Letter)
    → a ≡ b → others ≡ devices_of a → Brings others input m f → Brings (devices_of b) input n t
    → Answers a.replica a.held m f new before after → Answers b.replica b.held n t new before after
answered a b others input new m n f t before after same count p q did =
    let here : Brings (devices_of b) input m f = subst (λ (k : ℕ). Brings k input m f) (count ∙ ap devices_of same) p in
    let one = one_brought (devices_of b) input m n f t here q in
    subst (λ (s : AcceptorView). Answers s.replica s.held n t new before after) same
    (subst (λ (x : Actor). Answers a.replica a.held n x new before after) one.1 (subst (λ (x : Message). Answers a.replica a.held x f new before after) one.0 did))

pub became : (a b : AcceptorView) (others : ℕ) (input : Input) (new : Held) (m n : Message) (f t : Actor)
    → a ≡ b → others ≡ devices_of a → Brings others input m f → Brings (devices_of b) input n t
    → MayBecome a.held m new → MayBecome b.held n new
became a b others input new m n f t same count p q did =
    let here : Brings (devices_of b) input m f = subst (λ (k : ℕ). Brings k input m f) (count ∙ ap devices_of same) p in
    let one = one_brought (devices_of b) input m n f t here q in
    subst (λ (s : AcceptorView). MayBecome s.held n new) same (subst (λ (x : Message). MayBecome a.held x new) one.0 did)

pub brought_here : (a b : AcceptorView) (others : ℕ) (input : Input) (m : Message) (f : Actor) → a ≡ b → others ≡ devices_of a → Brings others input m f → Brings (devices_of b) input m f
brought_here a b others input m f same count p = subst (λ (k : ℕ). Brings k input m f) (count ∙ ap devices_of same) p

pub takes_here : (a b : AcceptorView) (m : Message) → a ≡ b → Takes a m → Takes b m
takes_here a b m same takes = subst (λ (s : AcceptorView). Takes s m) same takes

pub took_so : (a b : AcceptorView) (others : ℕ) (input : Input) (held : Held) (m : Message) (f : Actor) (before after : List Letter) (new : AcceptorView) (Same : Type 0) → a ≡ b → others ≡ devices_of a → Brings others input m f → Takes a m
    → Answers a.replica a.held m f held before after → ((new ≡ b) × (after ≡ before) × Same) ⊎ ((message : Message) × (from : Actor) × Brings (devices_of b) input message from × Takes b message × Answers b.replica b.held message from held before after)
took_so a b others input held m f before after new Same same count p takes did =
    inr (m, f, brought_here a b others input m f same count p, takes_here a b m same takes, subst (λ (s : AcceptorView). Answers s.replica s.held m f held before after) same did)

pub became_so : (a b : AcceptorView) (others : ℕ) (input : Input) (held : Held) (m : Message) (f : Actor) → a ≡ b → others ≡ devices_of a → Brings others input m f → MayBecome a.held m held → BecomesBy b input held
became_so a b others input held m f same count p did = inr (m, f, brought_here a b others input m f same count p, subst (λ (s : AcceptorView). MayBecome s.held m held) same did)

pub changes_not : (a b : AcceptorView) (others : ℕ) (input : Input) (m n : Message) (f t : Actor)
    → a ≡ b → others ≡ devices_of a → Brings others input m f → Brings (devices_of b) input n t
    → (Changes b.held n → ⊥) → Changes a.held m → ⊥
changes_not a b others input m n f t same count p q spare changes =
    let here : Brings (devices_of b) input m f = subst (λ (k : ℕ). Brings k input m f) (count ∙ ap devices_of same) p in
    let one = one_brought (devices_of b) input m n f t here q in
    spare (subst (λ (s : AcceptorView). Changes s.held n) same (subst (λ (x : Message). Changes a.held x) one.0 changes))

-- where a message that is taken changes what is held, a number is left for the cell
pub changed_rises : (held : Held) (m : Message) (number : ℕ) → IsTaken number m → Changes held m → number + 1 < 2 ^ 64
changed_rises held Ask number taken changes = absurd changes
changed_rises held (Decided s) number taken changes = taken.0
changed_rises held (Prepare b s) number taken changes = taken.0
changed_rises held (Promising promise) number taken changes = absurd changes
changed_rises held (Accept b s) number taken changes = taken
changed_rises held (Accepted b index) number taken changes = absurd changes
changed_rises held (Refused index b) number taken changes = absurd changes

none_is_some : (c : Known) → ◌≡◌ {A = Option Known} None (Some c) → ⊥
none_is_some c e = cc

-- where there is no cell no message is taken
pub untaken : (cell : Option Known) (m : Message) → cell ≡ None → IsTakenBy cell m → ⊥
untaken None m none taken = taken
untaken (Some c) m none taken = none_is_some c (sym none)

-- ---- how it stands

pub stands_with : (a : AcceptorView) (held : Held) (cell : Option Known) → IsAcceptorView a → IsHeld (devices_of a) held → IfSome cell (IsCellOf a.replica a.first a.origin held)
    → IsAcceptorView (record { replica = a.replica; first = a.first; origin = a.origin; held = held; cell = cell })
stands_with a held cell is as_held as_cell = record { first = is.first; index = is.index; held = as_held; cell = as_cell }

-- what is put counts as it stands: its number is above the one that was found
pub later_part : (origin : Origin) (number : ℕ) → TakesPart origin number → TakesPart origin (number + 1)
later_part Made number part = tt
later_part (FoundAs k) number part = omega (arith, part)
later_part Apart number part = absurd part

pub not_as_found : (origin : Origin) (number : ℕ) → TakesPart origin number → IsAsFound origin (number + 1) → ⊥
not_as_found Made number part is = is
not_as_found (FoundAs k) number part is = omega (arith, part, is)
not_as_found Apart number part is = is

pub put_content : (origin : Origin) (first : GlobalState) (old held : Held) (found : Found) → IsHeld (length first.devices) held → HasContent origin first old found → HasContent origin first held (next found (held_text held))
put_content origin first old held found is has = record {
  raw = held;
  spells = record { is = is; parts = refl };
  part = later_part origin found.number has.part;
  catches = record { as_found = λ is. absurd (not_as_found origin found.number has.part is); as_put = λ put. refl };
}

-- a cell that was put has what is held, and one that wasn't has what it had
pub cell_after : (replica : ℕ) (first : GlobalState) (origin : Origin) (old held : Held) (before : Option Known) (cell new : Known) (Same : Type 0) → IsHeld (length first.devices) held → IfSome before (IsCellOf replica first origin old) → before ≡ Some cell
    → (new ≡ with_value cell (held_text held)) ⊎ ((new ≡ cell) × (held ≡ old) × Same) → IsCellOf replica first origin held new
cell_after replica first origin old held before cell new Same as_held is at stored = by stored
  where
    this : IsCellOf replica first origin old cell
    this = subst (λ (o : Option Known). IfSome o (IsCellOf replica first origin old)) at is

    by : (new ≡ with_value cell (held_text held)) ⊎ ((new ≡ cell) × (held ≡ old) × Same) → IsCellOf replica first origin held new
    by (inl put) = subst (IsCellOf replica first origin held) (sym put) (record { disk = this.disk; base = this.base; ready = refl; content = put_content origin first old held cell.found as_held this.content })
    by (inr (kept, same, rest)) = subst (IsCellOf replica first origin held) (sym kept) (subst (λ (h : Held). IsCellOf replica first origin h cell) (sym same) this)

pub no_cell : (replica : ℕ) (first : GlobalState) (origin : Origin) (held : Held) (cell : Option Known) → cell ≡ None → IfSome cell (IsCellOf replica first origin held)
no_cell replica first origin held cell none = rw none tt

pub first_is_held : (s : GlobalState) → IsAllowed s → s.index + 1 < 2 ^ 64 → IsHeld (length s.devices) (first_held s)
first_is_held s is room = record {
  index = room;
  promise = record { round = omega arith; actor = omega arith; boot = omega arith };
  ballot = record { round = omega arith; actor = omega arith; boot = omega arith };
  flag = omega arith;
  accepted = is;
  decided = is;
  accepted_devices = refl;
  decided_devices = refl;
}

pub counts_of : (s : GlobalState) → IsAllowed s → HasCounts s
counts_of s is = record { sessions = omega (arith, is.session_count); devices = omega (arith, is.most_devices) }

-- ---- where nothing is written

has_either : (disks : Disks) (replica : ℕ) (first : GlobalState) (origin : Origin) (held : Held) (cell : Known) (value : List ℕ) (image : Image) → IsCellOf replica first origin held cell → IsImage disks image → Holds cell image
    → HasEither disks replica 1 cell.found (next cell.found value) image
has_either disks replica first origin held cell value image is left has =
    let here : cell_in (image replica) 1 ≡ Some cell.found = subst (λ (d : ℕ). cell_in (image d) 1 ≡ Some cell.found) is.disk (subst (λ (base : ℕ). cell_in (image cell.disk) base ≡ Some cell.found) is.base has) in
    record {
      cell = inl here;
      outside = record { outside = record { elsewhere = λ d s differ sure. left.sure d s sure; before = λ s below sure. left.sure replica s sure; behind = λ s above sure. left.sure replica s sure } };
    }

unmoved_at : (T : Type 0) (replica : ℕ) (first : GlobalState) (origin : Origin) (held : Held) (cell : Option Known) (disks : Disks) (moment : ℕ) (since : ℕ → Image → Type 0) (value : List ℕ)
    → IfSome cell (IsCellOf replica first origin held) → (T → (image : Image) → since moment image → IsImage disks image)
    → IfSome cell (λ c. T → EachSure disks (λ image. IfSome cell (λ k. Holds k image)) → LeavesOnly moment moment since since (HasEither disks replica 1 c.found (next c.found value)))
unmoved_at T replica first origin held None disks moment since value is only = tt
unmoved_at T replica first origin held (Some c) disks moment since value is only = λ tells each. record {
  later = omega arith;
  each = λ image left. has_either disks replica first origin held c value image is (only tells image left) (each.each image (record { sure = (only tells image left).sure }));
  nothing_else = λ t image at_most left. inl left;
  keeps = λ t image at_most left. left;
}

pub unmoved : (T : Type 0) (a b : AcceptorView) (disks : Disks) (moment : ℕ) (since : ℕ → Image → Type 0) (value : List ℕ) → a ≡ b → IsAcceptorView a
    → (T → (image : Image) → since moment image → IsImage disks image)
    → IfSome b.cell (λ c. T → EachSure disks (HasCell b) → LeavesOnly moment moment since since (HasEither disks b.replica 1 c.found (next c.found value)))
unmoved T a b disks moment since value same is only =
    let here : IsAcceptorView b = subst IsAcceptorView same is in
    unmoved_at T b.replica b.first b.origin b.held b.cell disks moment since value here.cell only

-- ---- what is found

pub some_is : (f g : Found) → ◌≡◌ {A = Option Found} (Some f) (Some g) → f ≡ g
some_is f g e = cc

-- a disk has one cell, and one thing in it
pub one_found : (devices : ℕ) (sectors : ℕ → List ℕ) (f g : Found) (h k : Held) → IsFound devices sectors f h → IsFound devices sectors g k → (f ≡ g) × (h ≡ k)
one_found devices sectors f g h k is also =
    let one : f ≡ g = some_is f g (sym is.in_cell ∙ also.in_cell) in
    let spells : SpellsHeld k f.value devices = subst (λ (x : Found). SpellsHeld k x.value devices) (sym one) also.spells in
    (one, one_held devices devices f.value h k is.spells spells)

cell_is : (c : Known) (replica : ℕ) (raw : Held) → IsCellAt replica raw c → c ≡ cell_with replica c.found
cell_is c replica raw at = same_cell c replica 1 true at.disk at.base at.ready
  where
    same_cell : (c : Known) (disk base : ℕ) (ready : Bool) → c.disk ≡ disk → c.base ≡ base → c.ready ≡ ready → c ≡ record { disk = disk; base = base; found = c.found; ready = ready }
    same_cell c disk base ready p q r = rw (sym p, sym q, sym r) refl

-- what an acceptor starts with
pub starts_with : (replica : ℕ) (first : GlobalState) (origin : Origin) (sectors : ℕ → List ℕ) (found : Option (Known × Held)) (x : Held × Option Known)
    → IfSome found (λ y. IsFound (length first.devices) sectors y.0.found y.1) → IfNone found (IsNotFound (length first.devices) sectors) → IfSome found (λ y. IsCellAt replica y.1 y.0 × IsHeld (length first.devices) y.1)
    → HoldsOf first origin found x → StartsWith replica first origin sectors x.0 x.1
starts_with replica first origin sectors None x some none at holds = record {
  found = λ f raw part is. absurd (none f raw is);
  none = λ never. holds;
}
starts_with replica first origin sectors (Some y) x some none at (inl (part, catches, is)) = record {
  found = λ f raw part also.
      let one = one_found (length first.devices) sectors y.0.found f y.1 raw some also in (
        subst (λ (k : Found). CatchesUp origin first k.number raw x.0) one.0 (subst (λ (r : Held). CatchesUp origin first y.0.found.number r x.0) one.1 catches),
        is ∙ ap (λ (c : Known). Some c) (cell_is y.0 replica y.1 at.0) ∙ ap (λ (k : Found). Some (cell_with replica k)) one.0,
      );
  none = λ never. absurd (never y.0.found y.1 part some);
}
starts_with replica first origin sectors (Some y) x some none at (inr (apart, held, cell)) = record {
  found = λ f raw part also. let one = one_found (length first.devices) sectors y.0.found f y.1 raw some also in absurd (apart (subst (λ (k : Found). TakesPart origin k.number) (sym one.0) part));
  none = λ never. (held, cell);
}

-- what is held where the replica takes no part with what was found, or nothing was found
pub holds_first : (first : GlobalState) (origin : Origin) (found : Option (Known × Held)) (x : Held × Option Known) → IfSome found (λ y. TakesPart origin y.0.found.number → ⊥) → x.0 ≡ first_held first → x.1 ≡ None → HoldsOf first origin found x
holds_first first origin None x apart held cell = (held, cell)
holds_first first origin (Some y) x apart held cell = inr (apart, held, cell)

-- .. and where it takes part
pub holds_part : (first : GlobalState) (origin : Origin) (found : Option (Known × Held)) (y : Known × Held) (x : Held × Option Known) → found ≡ Some y → TakesPart origin y.0.found.number → CatchesUp origin first y.0.found.number y.1 x.0 → x.1 ≡ Some y.0 → HoldsOf first origin found x
holds_part first origin found y x is part catches cell = subst (λ (o : Option (Known × Held)). HoldsOf first origin o x) (sym is) (inl (part, catches, cell))

-- what is held where a cell stands as it was found
caught_is_held : (first : GlobalState) (raw : Held) → IsAllowed first → first.index + 1 < 2 ^ 64 → IsHeld (length first.devices) raw → IsHeld (length first.devices) (caught_up first raw)
caught_is_held first raw is room held = record {
  index = room;
  promise = held.promise;
  ballot = record { round = omega arith; actor = omega arith; boot = omega arith };
  flag = omega arith;
  accepted = is;
  decided = is;
  accepted_devices = refl;
  decided_devices = refl;
}

-- a number is the one that was found, or isn't
pub is_as_found : (origin : Origin) (number : ℕ) → IsAsFound origin number ⊎ (IsAsFound origin number → ⊥)
is_as_found Made number = inr (λ x. x)
is_as_found (FoundAs k) number = elim (eqb_tells number k) [ inl same ↦ inl same.1 | inr differ ↦ inr differ.1 ]
is_as_found Apart number = inr (λ x. x)

pub stands_so : (replica : ℕ) (first : GlobalState) (origin : Origin) (found : Option (Known × Held)) (x : Held × Option Known) → IsAllowed first → first.index + 1 < 2 ^ 64
    → IfSome found (λ y. IsCellAt replica y.1 y.0 × IsHeld (length first.devices) y.1) → HoldsOf first origin found x → StandsSo replica first origin x.0 x.1
stands_so replica first origin None x is room at (held, cell) = record {
  held_is = subst (IsHeld (length first.devices)) (sym held) (first_is_held first is room);
  cell_is = subst (λ (c : Option Known). IfSome c (IsCellOf replica first origin x.0)) (sym cell) tt;
}
stands_so replica first origin (Some y) x is room at (inr (apart, held, cell)) = record {
  held_is = subst (IsHeld (length first.devices)) (sym held) (first_is_held first is room);
  cell_is = subst (λ (c : Option Known). IfSome c (IsCellOf replica first origin x.0)) (sym cell) tt;
}
stands_so replica first origin (Some y) x is room at (inl (part, catches, cell)) =
    elim (is_as_found origin y.0.found.number) [
      | inl as_found ↦
          let e : x.0 ≡ caught_up first y.1 = catches.as_found as_found in
          record {
            held_is = subst (IsHeld (length first.devices)) (sym e) (caught_is_held first y.1 is room at.1);
            cell_is = subst (λ (c : Option Known). IfSome c (IsCellOf replica first origin x.0)) (sym cell) (record { disk = at.0.disk; base = at.0.base; ready = at.0.ready; content = record { raw = y.1; spells = record { is = at.1; parts = at.0.content }; part = part; catches = catches } });
          }
      | inr put ↦
          let e : x.0 ≡ y.1 = catches.as_put put in
          record {
            held_is = subst (IsHeld (length first.devices)) (sym e) at.1;
            cell_is = subst (λ (c : Option Known). IfSome c (IsCellOf replica first origin x.0)) (sym cell) (record { disk = at.0.disk; base = at.0.base; ready = at.0.ready; content = record { raw = y.1; spells = record { is = at.1; parts = at.0.content }; part = part; catches = catches } });
          }
    ]
