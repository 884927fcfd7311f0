-- How the events of nodes leave views and doubts.
use Rattle.std.proofs.Common.{◌≡◌, ◌≢◌, ◌⊎◌, ◌∙◌, inl, inr, ℕ, Bool, true, false, List, eqb, Option, Some, None, IsSome, IfSome, refl, sym, ap, subst, arith}
use Rattle.std.proofs.lemmas.Bool.Decides.{nat_tests}
use Rattle.bx_base.specs.declared.names.Mode.{Mode}
use Rattle.bx_base.specs.declared.names.Mode.TheVariants.{Exclusive}
use Rattle.bx_records.specs.Drafts.{Block, Changed, block_in}
use Rattle.bx_views.specs.Truths.{Truth, Held, Hints, IsTruth}
use Rattle.bx_views.specs.Attempts.{Deed, IsHeldDraft}
use Rattle.bx_facts.specs.Holds.{Hold, Holds, KeepsOthers}
use Rattle.bx_node_views.specs.Changes.{Hides, ShowsOne}
use Rattle.bx_world_standing.specs.bx_world_views.specs.Views.{Allows, AreApart, ViewStands, IsDraftHeld, OnlyOf, Act, Unacknowledged, DoubtStands, VolumeStands, Works}

some_of : {X : Type 0} (found : Option X) (x : X) → found ≡ Some x → IsSome found
some_of found x is = cc

some_is : {X : Type 0} (x y : X) (found : Option X) → found ≡ Some x → found ≡ Some y → x ≡ y
some_is x y found a b = cc

-- The blocks of a draft that a session shows exclusively, it holds exclusively.
pub owned : (holding : Holds) (truth : Truth) (session : ℕ) (held : Held) (draft : List Changed) → ViewStands holding truth session held → IsHeldDraft held draft → IsDraftHeld holding session draft
owned holding truth session held draft view own = record { each = λ at block is. by_shown at (held at Exclusive) refl (own.each at (some_of (block_in draft at) block is)) }
  where
    by_shown : (at : ℕ) (shown : Option Block) → held at Exclusive ≡ shown → IsSome shown → Allows (holding session at) Exclusive
    by_shown at None shows some = cc
    by_shown at (Some one) shows some = view.holds at Exclusive one shows

-- ---- a block is read and held

allows_as : (hold : Option Hold) (way mode : Mode) → Allows hold way → (way ≡ mode) ⊎ (way ≡ Exclusive) → Allows hold mode
allows_as None way mode allowed weaker = allowed
allows_as (Some hold) way mode (inr is) weaker = inr is
allows_as (Some hold) way mode (inl is) (inl same) = inl (is ∙ same)
allows_as (Some hold) way mode (inl is) (inr strong) = inr (is ∙ strong)

-- A block that was read while it is held, and is the truth's, is put in.
pub holds_it : (holding : Holds) (truth : Truth) (session at : ℕ) (way : Mode) (block : Block) (old new : Held)
    → ViewStands holding truth session old → ShowsOne at way block old new → truth at ≡ block → Allows (holding session at) way → ViewStands holding truth session new
holds_it holding truth session at way block old new view shows is allowed = record {
  is_truth = record { each = λ other mode one has. by_test other mode one has (eqb other at) refl };
  holds = λ other mode one has. by_hold other mode one has (eqb other at) refl;
}
  where
    by_test : (other : ℕ) (mode : Mode) (one : Block) → new other mode ≡ Some one → (b : Bool) → eqb other at ≡ b → truth other ≡ one
    by_test other mode one has true same =
        let e : other ≡ at = grind (arith, nat_tests, same) in
        let here = shows.here mode one (subst (λ (n : ℕ). new n mode ≡ Some one) e has) in
        ap (λ (n : ℕ). truth n) e ∙ is ∙ sym here.0
    by_test other mode one has false apart =
        view.is_truth.each other mode one (sym (shows.others other mode (λ same. grind (arith, nat_tests, apart, same))) ∙ has)

    by_hold : (other : ℕ) (mode : Mode) (one : Block) → new other mode ≡ Some one → (b : Bool) → eqb other at ≡ b → Allows (holding session other) mode
    by_hold other mode one has true same =
        let e : other ≡ at = grind (arith, nat_tests, same) in
        let here = shows.here mode one (subst (λ (n : ℕ). new n mode ≡ Some one) e has) in
        subst (λ (n : ℕ). Allows (holding session n) mode) (sym e) (allows_as (holding session at) way mode allowed here.1)
    by_hold other mode one has false apart =
        view.holds other mode one (sym (shows.others other mode (λ same. grind (arith, nat_tests, apart, same))) ∙ has)

-- ---- a block is let go

-- A view without a block stands, where that block's hold alone has ended.
pub lets_go : (old new : Holds) (truth : Truth) (session at : ℕ) (before after : Held) → KeepsOthers session at old new → Hides at before after
    → ViewStands old truth session before → ViewStands new truth session after
lets_go old new truth session at before after keeps hides view = record {
  is_truth = record { each = λ other mode block has. by_agree other mode block has (eqb other at) refl };
  holds = λ other mode block has. by_hold other mode block has (eqb other at) refl;
}
  where
    gone : (other : ℕ) (mode : Mode) (block : Block) → after other mode ≡ Some block → other ≡ at → ⊥
    gone other mode block has same = let e : after other mode ≡ None = ap (λ (n : ℕ). after n mode) same ∙ hides.here mode in cc

    still : (other : ℕ) (mode : Mode) (block : Block) → after other mode ≡ Some block → other ≢ at → before other mode ≡ Some block
    still other mode block has apart = sym (hides.others other mode apart) ∙ has

    by_agree : (other : ℕ) (mode : Mode) (block : Block) → after other mode ≡ Some block → (b : Bool) → eqb other at ≡ b → truth other ≡ block
    by_agree other mode block has true same = absurd (gone other mode block has (grind (arith, nat_tests, same)))
    by_agree other mode block has false apart = view.is_truth.each other mode block (still other mode block has (λ same. grind (arith, nat_tests, apart, same)))

    stays : (other : ℕ) (mode : Mode) → other ≢ at → (hold : Option Hold) → old session other ≡ hold → Allows hold mode → Allows (new session other) mode
    stays other mode apart None is allowed = absurd allowed
    stays other mode apart (Some hold) is allowed = subst (λ (o : Option Hold). Allows o mode) (sym (keeps.other_blocks other hold apart is)) allowed

    by_hold : (other : ℕ) (mode : Mode) (block : Block) → after other mode ≡ Some block → (b : Bool) → eqb other at ≡ b → Allows (new session other) mode
    by_hold other mode block has true same = absurd (gone other mode block has (grind (arith, nat_tests, same)))
    by_hold other mode block has false apart =
        let ne : other ≢ at = λ same. grind (arith, nat_tests, apart, same) in
        stays other mode ne (old session other) refl (view.holds other mode block (still other mode block has ne))

module _ {T : Type 0} (Stands : Truth → Hints → T → Type 0) (Step : T → Deed → T → Type 0) where
  -- One node's view changes.
  pub shown : (holding : Holds) (HasRow Lives : ℕ → Type 0) (own : ℕ → Option ℕ) (old new : ℕ → Held) (before after : ℕ → Hints) (doubts : ℕ → Option Unacknowledged) (truth : Truth) (t : T) (node : ℕ)
      → VolumeStands Stands Step holding HasRow Lives own old before doubts truth t
      → ((other : ℕ) → other ≢ node → (new other ≡ old other) × (after other ≡ before other))
      → ((session : ℕ) → own node ≡ Some session → Lives session → ViewStands holding truth session (new node)) → Stands truth (after node) t
      → VolumeStands Stands Step holding HasRow Lives own new after doubts truth t
  shown holding HasRow Lives own old new before after doubts truth t node stands others here hints = record {
    is = stands.is;
    apart = stands.apart;
    rows = stands.rows;
    single = stands.single;
    views = λ other session is lives. by_test other session is lives (eqb other node) refl;
    hinted = λ other. by_hint other (eqb other node) refl;
    in_doubt = stands.in_doubt;
  }
    where
      by_test : (other session : ℕ) → own other ≡ Some session → Lives session → (b : Bool) → eqb other node ≡ b → ViewStands holding truth session (new other)
      by_test other session is lives true same =
          let e : other ≡ node = grind (arith, nat_tests, same) in
          subst (λ (n : ℕ). ViewStands holding truth session (new n)) (sym e) (here session (subst (λ (n : ℕ). own n ≡ Some session) e is) lives)
      by_test other session is lives false apart =
          subst (λ (h : Held). ViewStands holding truth session h) (sym (others other (λ same. grind (arith, nat_tests, apart, same))).0) (stands.views other session is lives)

      by_hint : (other : ℕ) (b : Bool) → eqb other node ≡ b → Stands truth (after other) t
      by_hint other true same = let e : other ≡ node = grind (arith, nat_tests, same) in subst (λ (n : ℕ). Stands truth (after n) t) (sym e) hints
      by_hint other false apart = subst (λ (h : Hints). Stands truth h t) (sym (others other (λ same. grind (arith, nat_tests, apart, same))).1) (stands.hinted other)

  -- A node with a live session that has no record in doubt begins one.
  pub began : (holding : Holds) (HasRow Lives : ℕ → Type 0) (own : ℕ → Option ℕ) (held : ℕ → Held) (hints : ℕ → Hints) (old new : ℕ → Option Unacknowledged) (truth : Truth) (t : T) (node session : ℕ) (call : ℕ) (act : Act) (draft : List Changed)
      → VolumeStands Stands Step holding HasRow Lives own held hints old truth t → own node ≡ Some session → Lives session
      → OnlyOf session (Some (record { call = call; act = act; draft = draft; held = held node; hints = hints node })) old new
      → IsHeldDraft (held node) draft
      → ((other : Truth) (tree : T) → IsTruth (held node) other → Stands other (hints node) tree → Works Stands Step act draft other tree)
      → VolumeStands Stands Step holding HasRow Lives own held hints new truth t
  began holding HasRow Lives own held hints old new truth t node session call act draft stands is_own lives only fair works = record {
    is = stands.is;
    apart = stands.apart;
    rows = stands.rows;
    single = stands.single;
    views = stands.views;
    hinted = stands.hinted;
    in_doubt = λ other. by_test other (eqb other session) refl;
  }
    where
      Kept : ℕ → Option Unacknowledged → Type 0
      Kept other found = IfSome found (λ doubt. HasRow other × DoubtStands Stands Step holding truth t other doubt)

      by_test : (other : ℕ) (b : Bool) → eqb other session ≡ b → Kept other (new other)
      by_test other true same =
          let e : other ≡ session = grind (arith, nat_tests, same) in
          let view = stands.views node session is_own lives in
          subst (λ (n : ℕ). Kept n (new n)) (sym e)
          (subst (λ (o : Option Unacknowledged). Kept session o) (sym only.here)
          (stands.rows session lives, record { view = view; hinted = stands.hinted node; own = owned holding truth session (held node) draft view fair; works = works }))
      by_test other false apart = subst (λ (o : Option Unacknowledged). Kept other o) (sym (only.others other (λ same. grind (arith, nat_tests, apart, same)))) (stands.in_doubt other)

  -- A node lets a block go, and its session gives it up or wants it otherwise: no record of that session is in doubt.
  pub gave_up : (old new : Holds) (HasRow Lives : ℕ → Type 0) (own : ℕ → Option ℕ) (before after : ℕ → Held) (hints later : ℕ → Hints) (doubts : ℕ → Option Unacknowledged) (truth : Truth) (t : T) (node session at : ℕ)
      → VolumeStands Stands Step old HasRow Lives own before hints doubts truth t → own node ≡ Some session → Lives session → doubts session ≡ None
      → KeepsOthers session at old new → AreApart new HasRow → Hides at (before node) (after node)
      → Stands truth (later node) t
      → ((other : ℕ) → other ≢ node → (after other ≡ before other) × (later other ≡ hints other))
      → VolumeStands Stands Step new HasRow Lives own after later doubts truth t
  gave_up old new HasRow Lives own before after hints later doubts truth t node session at stands is_own lives none keeps apart hides hinted others = record {
    is = stands.is;
    apart = apart;
    rows = stands.rows;
    single = stands.single;
    views = λ other its is_its its_lives. by_view other its is_its its_lives (eqb its session) refl;
    hinted = λ other. by_hint other (eqb other node) refl;
    in_doubt = λ other. by_doubt other (eqb other session) refl;
  }
    where
      kept : (its other : ℕ) (mode : Mode) → its ≢ session → (hold : Option Hold) → old its other ≡ hold → Allows hold mode → Allows (new its other) mode
      kept its other mode ne None is allowed = absurd allowed
      kept its other mode ne (Some hold) is allowed = subst (λ (o : Option Hold). Allows o mode) (sym (keeps.other_sessions its other hold ne is)) allowed

      of_other : (its : ℕ) (held : Held) → its ≢ session → ViewStands old truth its held → ViewStands new truth its held
      of_other its held ne view = record { is_truth = view.is_truth; holds = λ other mode block has. kept its other mode ne (old its other) refl (view.holds other mode block has) }

      not_here : (other its : ℕ) → own other ≡ Some its → its ≢ session → other ≢ node
      not_here other its is_its ne here = ne (some_is its session (own node) (subst (λ (n : ℕ). own n ≡ Some its) here is_its) is_own)

      by_view : (other its : ℕ) → own other ≡ Some its → Lives its → (b : Bool) → eqb its session ≡ b → ViewStands new truth its (after other)
      by_view other its is_its its_lives true same =
          let e : its ≡ session = grind (arith, nat_tests, same) in
          let here : other ≡ node = stands.single node other session is_own (subst (λ (n : ℕ). own other ≡ Some n) e is_its) lives in
          subst (λ (n : ℕ). ViewStands new truth its (after n)) (sym here)
          (subst (λ (n : ℕ). ViewStands new truth n (after node)) (sym e)
          (lets_go old new truth session at (before node) (after node) keeps hides (stands.views node session is_own lives)))
      by_view other its is_its its_lives false differ =
          let ne : its ≢ session = λ same. grind (arith, nat_tests, differ, same) in
          subst (λ (h : Held). ViewStands new truth its h) (sym (others other (not_here other its is_its ne)).0) (of_other its (before other) ne (stands.views other its is_its its_lives))

      by_hint : (other : ℕ) (b : Bool) → eqb other node ≡ b → Stands truth (later other) t
      by_hint other true same = let e : other ≡ node = grind (arith, nat_tests, same) in subst (λ (n : ℕ). Stands truth (later n) t) (sym e) hinted
      by_hint other false differ = subst (λ (h : Hints). Stands truth h t) (sym (others other (λ same. grind (arith, nat_tests, differ, same))).1) (stands.hinted other)

      Kept : Holds → ℕ → Option Unacknowledged → Type 0
      Kept holding other found = IfSome found (λ doubt. HasRow other × DoubtStands Stands Step holding truth t other doubt)

      by_one : (other : ℕ) → other ≢ session → (found : Option Unacknowledged) → Kept old other found → Kept new other found
      by_one other ne None is = is
      by_one other ne (Some doubt) is = (
        is.0,
        record {
          view = of_other other doubt.held ne is.1.view;
          hinted = is.1.hinted;
          own = record { each = λ place block has. kept other place Exclusive ne (old other place) refl (is.1.own.each place block has) };
          works = is.1.works;
        },
      )

      by_doubt : (other : ℕ) → (b : Bool) → eqb other session ≡ b → Kept new other (doubts other)
      by_doubt other true same =
          let e : other ≡ session = grind (arith, nat_tests, same) in
          subst (λ (o : Option Unacknowledged). Kept new other o) (sym (ap (λ (n : ℕ). doubts n) e ∙ none)) tt
      by_doubt other false differ = by_one other (λ same. grind (arith, nat_tests, differ, same)) (doubts other) (stands.in_doubt other)
