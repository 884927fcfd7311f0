-- What a crash and a restart leave.
use Rattle.std.proofs.Common.{◌≡◌, ◌≢◌, inl, inr, ℕ, ◌+◌, ◌-◌, ◌<◌, ◌≤◌, max, Bool, true, false, List, [], ◌∷◌, zero, suc, length, Option, Some, None, refl, sym, ◌∙◌, ap, subst, arith, slice_get}
use Rattle.std.specs.Prelude.{◌==◌, nat_lt, slice_index, ◌&&◌, ◌||◌}
use Rattle.std.specs.List.{list_any}
use Rattle.std.proofs.lemmas.Bool.Decides.{nat_tests}
use Rattle.std.proofs.lemmas.Option.{slice_get_past}
use Rattle.bx_base.specs.declared.names.Actor.{Actor}
use Rattle.bx_base.specs.declared.names.Actor.TheVariants.{Member}
use Rattle.bx_disk.specs.Disks.{Disks, Image}
use Rattle.bx_calls.specs.Calls.{LeavesOnly}
use Rattle.bx_calls.specs.Laws.{leaves_implies}
use Rattle.bx_global.specs.declared.state.GlobalState.{GlobalState}
use Rattle.bx_facts.specs.Chains.{last}
use Rattle.bx_facts.specs.Disks.{NeedsAt, NeedsNoMore, SameLabels, SameReplicas, wanted_by}
use Rattle.bx_facts.specs.Writes.{HasLabels, HasSettled, IsSettled, Made, Sent, StorePast, member_disk, store_crashed, store_failed, store_restarted, store_room}
use Rattle.bx_plain_store.specs.Out.{KeepsReplicas, at, out_at, out_in}
use Rattle.bx_plain_store.specs.Sources.{HasSources, KeepsSources}
use Rattle.bx_plain_store.specs.declared.writes.Write.{Write}
use Rattle.bx_plain_store.specs.declared.inquiries.Inquiry.{Inquiry}
use Rattle.bx_plain_store.specs.Events.{Went, fits_went, went_none}
use Rattle.bx_plain_store.specs.Fits.{Fits, Keeps}
use Rattle.bx_plain_store.specs.Growing.{last_place}
use Rattle.bx_plain_store.specs.Laws.{KeepsMembersSure}
use Rattle.bx_plain_store.specs.Needs.{needs_little, needs_member, needs_none}
use Rattle.bx_plain_store.specs.Parts.{asked_at, asked_in}
use Rattle.bx_plain_store.specs.Waiting.{all_up, if_up, is_due, is_unanswered, needs_of, owes_in}

pub replicas_both : (x y : Disks) → KeepsReplicas x y → SameReplicas x y × SameLabels x y
replicas_both x y keeps = (record { each = λ d sector less from. keeps.each d sector less }, record { each = λ d less. keeps.each d 0 less })

-- ---- a node crashes

pub record Ended (node : ℕ) (owns owns_then : List (Option ℕ)) (slots slots_then : List (Option Write)) (inquiries inquiries_then : List (Option Inquiry)) : Type 0 where
  pub own : at owns_then node ≡ None
  pub out : at slots_then node ≡ None
  pub asked : at inquiries_then node ≡ None
  pub others : (other : ℕ) → other ≢ node → (at owns_then other ≡ at owns other) × (at slots_then other ≡ at slots other) × (at inquiries_then other ≡ at inquiries other)

module _ (node : ℕ) (owns owns_then : List (Option ℕ)) (slots slots_then : List (Option Write)) (inquiries inquiries_then : List (Option Inquiry))
    (ended : Ended node owns owns_then slots slots_then inquiries inquiries_then) where
  by_node : (P : ℕ → Type 0) → P node → ((n : ℕ) → n ≢ node → P n) → (n : ℕ) → P n
  by_node P here beside n = by_test (n == node) refl
    where
      by_test : (b : Bool) → (n == node) ≡ b → P n
      by_test true is = let e : n ≡ node = grind (arith, nat_tests, is) in subst P (sym e) here
      by_test false not_is = beside n (grind (arith, nat_tests, not_is))

  pub went_ended : (s : GlobalState) → Went s owns owns_then slots slots_then
  went_ended s = record {
    out = by_node _ (inl (ap out_in ended.out)) (λ n apart. let same = ended.others n apart in inr (ap out_in same.1, same.0));
    own = by_node _ (λ session is. absurd (let h = sym ended.own ∙ is in cc)) (λ n apart session is. inl (sym (ended.others n apart).0 ∙ is));
  }

  pub out_ended : (n : ℕ) (w : Sent) → out_at slots_then n ≡ Some w → out_at slots n ≡ Some w
  out_ended = by_node _ (λ w out. absurd (let h = ap out_in (sym ended.out) ∙ out in cc)) (λ n apart w out. ap out_in (sym (ended.others n apart).1) ∙ out)

  pub asked_ended : (n : ℕ) (asks : _) → asked_at inquiries_then n ≡ Some asks → asked_at inquiries n ≡ Some asks
  asked_ended = by_node _ (λ asks asked. absurd (let h = ap asked_in (sym ended.asked) ∙ asked in cc)) (λ n apart asks asked. ap asked_in (sym (ended.others n apart).2) ∙ asked)

pub keeps_crashed : (made : Made) (g : ℕ) (owns owns_then : List (Option ℕ)) (slots slots_then : List (Option Write)) (x : Disks) (past : StorePast) (who : Actor)
    → Keeps made g owns slots x past → Went (last past.told.chain) owns owns_then slots slots_then → Keeps made g owns_then slots_then x (store_crashed past who)
keeps_crashed made g owns owns_then slots slots_then x past who keeps went = record {
  handed = keeps.handed;
  greatest_is = keeps.greatest_is;
  fits = fits_went made g g owns owns_then slots slots_then x x past.told.chain past.writes (last past.told.chain) keeps.fits (omega arith) (last_place past.told.chain) went keeps.fits.labels;
}

-- ---- a machine starts again

module _ (made : Made) (g later : ℕ) (owns : List (Option ℕ)) (slots : List (Option Write)) (x y : Disks) (past : StorePast) (who : Actor) (boot reading : ℕ)
    (keeps : Keeps made g owns slots x past) (greatest : later ≡ max g reading) (labels : HasLabels made y (last past.told.chain)) where
  fits : Fits made later owns slots y past.told.chain past.writes
  fits = fits_went made g later owns owns slots slots x y past.told.chain past.writes (last past.told.chain) keeps.fits (omega (arith, greatest)) (last_place past.told.chain) (went_none (last past.told.chain) owns slots) labels

  pub keeps_restarted : Keeps made later owns slots y (store_restarted past who boot reading)
  keeps_restarted = record { handed = keeps.handed; greatest_is = ap (λ n. max n reading) keeps.greatest_is ∙ sym greatest; fits = fits }

  pub keeps_failed : Keeps made later owns slots y (store_failed past who boot reading)
  keeps_failed = record { handed = keeps.handed; greatest_is = ap (λ n. max n reading) keeps.greatest_is ∙ sym greatest; fits = fits }

pub sure_sources : (s : GlobalState) (x y : Disks) → y.sizes ≡ x.sizes → KeepsSources s x y → KeepsMembersSure s x y
sure_sources s x y sizes keeps = record {
  each = λ device sector second source sure. let kept = keeps.members device second sector source in (kept.reads, kept.sure sure);
  long = λ device second. ap (λ (all : List ℕ). slice_index all (member_disk device second)) sizes;
}

pub leaves_sources : (before now : ℕ) (past_since since : ℕ → Image → Type 0) (writes : List Sent) (greatest : ℕ) (s : GlobalState) (x : Disks)
    → LeavesOnly before now past_since since (HasSources s x) → LeavesOnly before now past_since since (HasSettled writes greatest (IsSettled x s) x s)
leaves_sources before now past_since since writes greatest s x leaves = leaves_implies before now past_since since (HasSources s x) _ leaves
    (λ image has. record {
      has = λ device sector content second only settled source. has.members device second sector source (settled.sure second source) ∙ settled.reads second source;
      labels = λ device second source sure. has.members device second 0 source sure;
      replicas = has.replicas;
    })

-- ---- what is needed of disks

-- which members are up, but for one
pub record Puts (down down_then : List Bool) (member : ℕ) (is_down : Bool) : Type 0 where
  pub here : member < length down → slice_get down_then member ≡ Some is_down
  pub others : (other : ℕ) → other ≢ member → slice_get down_then other ≡ slice_get down other
  pub long : length down_then ≡ length down

not_up : (down down_then : List Bool) (member sectors : ℕ) → Puts down down_then member true → if_up (slice_get down_then member) sectors ≡ 0
not_up down down_then member sectors puts = by_test (nat_lt member (length down)) refl
  where
    by_test : (b : Bool) → nat_lt member (length down) ≡ b → if_up (slice_get down_then member) sectors ≡ 0
    by_test true is = ap (λ (o : Option Bool). if_up o sectors) (puts.here (grind (arith, nat_tests, is)))
    by_test false not_is = ap (λ (o : Option Bool). if_up o sectors) (slice_get_past down_then member (grind (arith, nat_tests, not_is, puts.long)))

-- a member that is put down owes nothing
pub is_still : (greatest : ℕ) (slots : List (Option Write)) (inquiries : List (Option Inquiry)) (down down_then : List Bool) (member : ℕ) → Puts down down_then member true → owes_in greatest slots inquiries down_then (Member member) ≡ false
is_still greatest slots inquiries down down_then member puts = by_test (nat_lt member (length down_then)) refl
  where
    none_up : (downs : List Bool) (n : ℕ) → slice_get downs n ≡ Some true → all_up downs ≡ false
    none_up [] n is = absurd cc
    none_up (true ∷ downs) n is = refl
    none_up (false ∷ downs) zero is = absurd cc
    none_up (false ∷ downs) (suc n) is = none_up downs n is

    waits : Bool
    waits = list_any (is_due greatest member) slots || list_any (is_unanswered member) inquiries

    by_test : (b : Bool) → nat_lt member (length down_then) ≡ b → owes_in greatest slots inquiries down_then (Member member) ≡ false
    by_test false past = ap (λ t. t && all_up down_then && waits) past
    by_test true there =
        let less : member < length down = grind (arith, nat_tests, there, puts.long) in
        let up = none_up down_then member (puts.here less) in
        ap (λ t. t && all_up down_then && waits) there ∙ ap (λ t. t && waits) up

-- a disk is that of a replica, or of a member
by_disk : (P : ℕ → Type 0) → ((disk : ℕ) → disk < 3 → P disk) → ((member : ℕ) → P (3 + member)) → (disk : ℕ) → P disk
by_disk P replica member disk = by_test (nat_lt disk 3) refl
  where
    by_test : (b : Bool) → nat_lt disk 3 ≡ b → P disk
    by_test true is = replica disk (grind (arith, nat_tests, is))
    by_test false not_is = let past : 3 ≤ disk = grind (arith, nat_tests, not_is) in let e : 3 + (disk - 3) ≡ disk = omega (arith, past) in subst P e (member (disk - 3))

pub needs_fewer : (made : Made) (down down_then : List Bool) (member : ℕ) → Puts down down_then member true → NeedsNoMore (needs_of made down) (needs_of made down_then)
needs_fewer made down down_then member puts = record {
  each = by_disk _
      (λ disk less. let a = needs_none made down_then disk less in omega (arith, a))
      (λ n. of_member n (n == member) refl);
}
  where
    of_member : (n : ℕ) (b : Bool) → (n == member) ≡ b → needs_of made down_then (3 + n) ≤ needs_of made down (3 + n)
    of_member n true is =
        let e : n ≡ member = grind (arith, nat_tests, is) in
        let none = needs_member made down_then n ∙ ap (λ (m : ℕ). if_up (slice_get down_then m) (store_room made)) e ∙ not_up down down_then member (store_room made) puts in
        omega (arith, none)
    of_member n false not_is =
        let apart : n ≢ member = grind (arith, nat_tests, not_is) in
        let same = needs_member made down_then n ∙ ap (λ (o : Option Bool). if_up o (store_room made)) (puts.others n apart) ∙ sym (needs_member made down n) in
        omega (arith, same)

pub wanted_own : (own sectors : ℕ) → wanted_by (Some own) sectors own ≡ sectors
wanted_own own sectors = let e : (own == own) ≡ true = grind (arith, nat_tests) in rw e refl

pub needs_more : (made : Made) (down down_then : List Bool) (member : ℕ) → Puts down down_then member false → NeedsAt (Member member) (store_room made) (needs_of made down) (needs_of made down_then)
needs_more made down down_then member puts = record {
  each = by_disk _
      (λ disk less. let a = needs_none made down_then disk less in omega (arith, a))
      (λ n. of_member n (n == member) refl);
}
  where
    of_member : (n : ℕ) (b : Bool) → (n == member) ≡ b → needs_of made down_then (3 + n) ≤ max (needs_of made down (3 + n)) (wanted_by (Some (3 + member)) (store_room made) (3 + n))
    of_member n true is =
        let e : n ≡ member = grind (arith, nat_tests, is) in
        let most = needs_little made down_then (3 + n) in
        let all : wanted_by (Some (3 + member)) (store_room made) (3 + n) ≡ store_room made = ap (λ (m : ℕ). wanted_by (Some (3 + member)) (store_room made) (3 + m)) e ∙ wanted_own (3 + member) (store_room made) in
        omega (arith, most, all)
    of_member n false not_is =
        let apart : n ≢ member = grind (arith, nat_tests, not_is) in
        let same = needs_member made down_then n ∙ ap (λ (o : Option Bool). if_up o (store_room made)) (puts.others n apart) ∙ sym (needs_member made down n) in
        omega (arith, same)
