-- Why a store on one machine goes on fitting after its calls, and what is promised goes on.
use Rattle.std.proofs.Common.{◌≡◌, ◌⊎◌, inl, inr, ⊎_elim, ℕ, ◌+◌, ◌-◌, ◌<◌, ◌≤◌, true, false, List, [], ◌∷◌, find, Option, Some, None, refl, sym, ◌∙◌, ap, subst, arith}
use Rattle.std.specs.Prelude.{◌==◌, ◌&&◌, slice_index}
use Rattle.std.specs.List.{AllByRecursion}
use Rattle.std.proofs.lemmas.Bool.Decides.{nat_tests}
use Rattle.bx_disk.specs.Disks.{Disks, Image, sector_of}
use Rattle.bx_global.specs.declared.state.GlobalState.{GlobalState}
use Rattle.bx_layout.specs.Labels.{SpellsLabel}
use Rattle.bx_rows.specs.declared.session.SessionRow.{SessionRow}
use Rattle.bx_members.specs.Members.{HasMembers, KeepsMembers}
use Rattle.bx_facts.specs.Chains.{Chain, IsPlace, any_session_of, last, number_in}
use Rattle.bx_facts.specs.Sessions.{IsRowOf}
use Rattle.bx_facts.specs.Writes.{Asked, GoesOn, HasLabels, HasSettled, IsOnly, IsOver, IsSettled, Made, Sent, label_on, member_disk, store_room}
use Rattle.bx_plain_store.specs.declared.writes.Write.{Write}
use Rattle.bx_plain_store.specs.Out.{at, out_at, outs}
use Rattle.bx_plain_store.specs.Outs.{in_outs, members_settled}
use Rattle.bx_plain_store.specs.declared.inquiries.Inquiry.{Inquiry}
use Rattle.bx_plain_store.specs.Fits.{Fits, WillRead}
use Rattle.bx_plain_store.specs.Laws.{settled_by}
use Rattle.bx_plain_store.specs.Parts.{IsAnswered, answer_at, answer_in, asked_at, asked_in}

-- the session that is found is of the node
pub session_row : (rows : List SessionRow) (node_of : ℕ → ℕ) (next node session : ℕ) → AllByRecursion (IsRowOf node_of next) rows
    → number_in (find (λ row. row.node == node && row.dead == 0) rows) ≡ Some session → (node_of session ≡ node) × (session < next)
session_row [] node_of next node session all is = absurd cc
session_row (row ∷ rows) node_of next node session all is = (elim (row.node == node && row.dead == 0) as (λ b. (row.node == node && row.dead == 0) ≡ b → (node_of session ≡ node) × (session < next)) [
  | true ↦ λ e.
      let here : Some row.number ≡ Some session = (let h = rw e at is in h) in
      let same : row.number ≡ session = (let h = here in cc) in
      let of_node : row.node ≡ node = grind (arith, nat_tests, e) in
      (ap node_of (sym same) ∙ sym all.0.node ∙ of_node, subst (λ (n : ℕ). n < next) same all.0.given)
  | false ↦ λ e. session_row rows node_of next node session all.1 (let h = rw e at is in h)
]) refl

-- What is out is as it was, with its session, or isn't out; a session is as it was, or is the one of a state.
pub record Went (s : GlobalState) (owns owns_then : List (Option ℕ)) (slots slots_then : List (Option Write)) : Type 0 where
  pub out : (node : ℕ) → (out_at slots_then node ≡ None) ⊎ ((out_at slots_then node ≡ out_at slots node) × (at owns_then node ≡ at owns node))
  pub own : (node session : ℕ) → at owns_then node ≡ Some session → (at owns node ≡ Some session) ⊎ (any_session_of s node ≡ Some session)

-- while sessions stay
pub went_out : (s : GlobalState) (owns : List (Option ℕ)) (slots slots_then : List (Option Write)) → ((node : ℕ) → (out_at slots_then node ≡ None) ⊎ (out_at slots_then node ≡ out_at slots node)) → Went s owns owns slots slots_then
went_out s owns slots slots_then out = record {
  out = λ node. ⊎_elim inl (λ same. inr (same, refl)) (out node);
  own = λ node session is. inl is;
}

pub went_none : (s : GlobalState) (owns : List (Option ℕ)) (slots : List (Option Write)) → Went s owns owns slots slots
went_none s owns slots = went_out s owns slots slots (λ node. inr refl)

-- over only becomes more
later_over : (g later : ℕ) (w : Sent) → g ≤ later → IsOver g w → IsOver later w
later_over g later w rises over = omega (arith, rises, over)

pub fits_went : (made : Made) (g later : ℕ) (owns owns_then : List (Option ℕ)) (slots slots_then : List (Option Write)) (x y : Disks) (chain : Chain) (writes : List Sent) (s : GlobalState)
    → Fits made g owns slots x chain writes → g ≤ later → IsPlace chain s → Went s owns owns_then slots slots_then → HasLabels made y (last chain) → Fits made later owns_then slots_then y chain writes
fits_went made g later owns owns_then slots slots_then x y chain writes s fits rises place went labels = record {
  labels = labels;
  count = fits.count;
  places = fits.places;
  apart = record {
    nodes = λ node other w v device sector content also apart out too brings brings_too.
        ⊎_elim (λ over. inl (later_over g later w rises over)) (λ over. inr (later_over g later v rises over))
        (fits.apart.nodes node other w v device sector content also apart (was node w out).0 (was other v too).0 brings brings_too);
    once = λ node w device sector content also out. fits.apart.once node w device sector content also (was node w out).0;
  };
  above = λ node w device sector content out. fits.above node w device sector content (was node w out).0;
  sent = λ node w out. fits.sent node w (was node w out).0;
  mine = λ node w out. (was node w out).1 ∙ fits.mine node w (was node w out).0;
  node_of = fits.node_of;
  rows = fits.rows;
  owned = λ node session is. ⊎_elim (λ before. fits.owned node session before)
      (λ found. session_row s.sessions fits.node_of (last chain).next_session node session (fits.rows.each s place) found) (went.own node session is);
}
  where
    was : (node : ℕ) (w : Sent) → out_at slots_then node ≡ Some w → (out_at slots node ≡ Some w) × (at owns_then node ≡ at owns node)
    was node w out = ⊎_elim (λ none. absurd (let h = sym none ∙ out in cc)) (λ same. (sym same.0 ∙ out, same.1)) (went.out node)

-- what members write nothing else to, the writes that are out bring nothing else to
pub only_outs : (made : Made) (g later : ℕ) (owns : List (Option ℕ)) (slots : List (Option Write)) (x : Disks) (chain : Chain) (writes : List Sent) (device sector : ℕ) (content : List ℕ)
    → Fits made g owns slots x chain writes → g ≤ later → IsOnly writes g device sector content → IsOnly (outs slots) later device sector content
only_outs made g later owns slots x chain writes device sector content fits rises only = record {
  each = λ w other there brings.
      let found = in_outs slots w there in
      ⊎_elim inl (λ over. inr (later_over g later w rises over)) (only.each w other (fits.sent found.0 w found.1) brings);
}

-- nothing brings anything to labels
only_label : (made : Made) (g later : ℕ) (owns : List (Option ℕ)) (slots : List (Option Write)) (x : Disks) (chain : Chain) (writes : List Sent) (device : ℕ) (content : List ℕ)
    → Fits made g owns slots x chain writes → IsOnly (outs slots) later device 0 content
only_label made g later owns slots x chain writes device content fits = record {
  each = λ w also there brings.
      let found = in_outs slots w there in
      let least = fits.above found.0 w device 0 also found.1 brings in
      absurd (omega (arith, least));
}

pub labels_members : (made : Made) (g later : ℕ) (owns : List (Option ℕ)) (slots : List (Option Write)) (x y : Disks) (chain : Chain) (writes : List Sent)
    → Fits made g owns slots x chain writes → y.sizes ≡ x.sizes → KeepsMembers (outs slots) later x y → HasLabels made y (last chain)
labels_members made g later owns slots x y chain writes fits sizes keeps = record {
  reads = λ device second source.
      let only = only_label made g later owns slots x chain writes device (x.reads (member_disk device second) 0) fits in
      subst (SpellsLabel (label_on made (member_disk device second))) (sym (keeps.reads device 0 second _ only refl)) (fits.labels.reads device second source);
  sure = λ device second source.
      let only = only_label made g later owns slots x chain writes device (x.reads (member_disk device second) 0) fits in
      keeps.sure device 0 second _ only refl (fits.labels.sure device second source);
  long = λ device second source. subst (λ (all : List ℕ). store_room made ≤ slice_index all (member_disk device second)) (sym sizes) (fits.labels.long device second source);
}

-- what is settled stays so while members are kept
pub settles_members : (made : Made) (g later : ℕ) (owns : List (Option ℕ)) (slots : List (Option Write)) (x y : Disks) (chain : Chain) (writes : List Sent)
    → Fits made g owns slots x chain writes → g ≤ later → KeepsMembers (outs slots) later x y
    → (device sector : ℕ) (content : List ℕ) → IsOnly writes g device sector content → IsSettled x (last chain) device sector content → IsSettled y (last chain) device sector content
settles_members made g later owns slots x y chain writes fits rises keeps device sector content only is =
    members_settled (outs slots) later (last chain) x y device sector content keeps (only_outs made g later owns slots x chain writes device sector content fits rises only) is

-- images have what was settled
pub image_settled : (made : Made) (g later : ℕ) (owns : List (Option ℕ)) (slots : List (Option Write)) (x : Disks) (chain : Chain) (writes : List Sent) (image : Image)
    → Fits made g owns slots x chain writes → g ≤ later → HasMembers (outs slots) later x image → HasSettled writes g (IsSettled x (last chain)) x (last chain) image
image_settled made g later owns slots x chain writes image fits rises has = record {
  has = λ device sector content second only is source.
      has.members device sector second content (only_outs made g later owns slots x chain writes device sector content fits rises only) (is.reads second source) (is.sure second source);
  labels = λ device second source sure.
      has.members device 0 second (x.reads (member_disk device second) 0) (only_label made g later owns slots x chain writes device (x.reads (member_disk device second) 0) fits) refl sure;
  replicas = has.replicas;
}

-- What a node reads is over, or answered as it may be.
pub record Reads (x : Disks) (s : GlobalState) (old new : Option Inquiry) : Type 0 where
  pub case : (asked_in new ≡ None) ⊎ IsAnswered x s old new

will_answer : (x y : Disks) (s t : GlobalState) (old new : Option Inquiry) (asks : Asked) (sector : ℕ) (content : List ℕ)
    → s.devices ≡ t.devices → (IsSettled x t asks.device sector content → IsSettled y t asks.device sector content) → asked_in old ≡ Some asks → IsAnswered x s old new
    → WillRead (asked_in old) (answer_in old) x t sector content → WillRead (asked_in new) (answer_in new) y t sector content
will_answer x y s t old new asks sector content same keeps asked is reads =
    subst (λ (o : Option Asked). WillRead o (answer_in new) y t sector content) (sym (is.asks ∙ asked)) (by_old (answer_in old) refl (answer_in new) refl (subst (λ (o : Option Asked). WillRead o (answer_in old) x t sector content) asked reads))
  where
    by_old : (a : Option (List ℕ)) → answer_in old ≡ a → (b : Option (List ℕ)) → answer_in new ≡ b → WillRead (Some asks) a x t sector content → WillRead (Some asks) b y t sector content
    by_old None none None none_too settled = keeps settled
    by_old None none (Some bytes) some settled = is.came asks bytes sector content asked none some (settled_by x t s asks.device sector content same settled)
    by_old (Some bytes) some None none got = absurd (let h = sym none ∙ is.kept bytes some in cc)
    by_old (Some bytes) some (Some other) too got = let e : bytes ≡ other = (let h = sym (is.kept bytes some) ∙ too in cc) in subst (λ (all : List ℕ). asks.place ≤ sector → sector < asks.place + asks.count → sector_of all (sector - asks.place) ≡ content) e got

pub goes_on : (writes : List Sent) (g : ℕ) (inquiries inquiries_then : List (Option Inquiry)) (x y : Disks) (s t : GlobalState) → s.devices ≡ t.devices
    → ((device sector : ℕ) (content : List ℕ) → IsOnly writes g device sector content → IsSettled x t device sector content → IsSettled y t device sector content)
    → ((node : ℕ) → Reads x s (at inquiries node) (at inquiries_then node))
    → GoesOn writes g (asked_at inquiries) (IsSettled x t) (IsSettled y t)
    (λ reader sector content. WillRead (asked_at inquiries reader) (answer_at inquiries reader) x t sector content) (λ reader sector content. WillRead (asked_at inquiries_then reader) (answer_at inquiries_then reader) y t sector content)
    (λ device sector content index. IsSettled x t device sector content) (λ device sector content index. IsSettled y t device sector content)
goes_on writes g inquiries inquiries_then x y s t same keeps each = record {
  settles = keeps;
  standing = λ device sector content index only is. keeps device sector content only is;
  reading = λ reader sector content asks asked only reads. ⊎_elim
      (λ none. subst (λ (o : Option Asked). WillRead o (answer_at inquiries_then reader) y t sector content) (sym none) tt)
      (λ answered. will_answer x y s t (at inquiries reader) (at inquiries_then reader) asks sector content same (keeps asks.device sector content only) asked answered reads)
      (each reader).case;
}
