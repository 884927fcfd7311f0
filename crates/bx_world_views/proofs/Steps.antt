-- How events leave what stands of a volume.
use Rattle.std.proofs.Common.{◌≡◌, ◌≢◌, ◌⊎◌, ◌∙◌, inl, inr, ℕ, Bool, true, false, List, eqb, Option, Some, None, refl, sym, ap, subst, arith}
use Rattle.std.specs.Prelude.{unwrap_or}
use Rattle.std.proofs.lemmas.Bool.Decides.{nat_tests}
use Rattle.bx_base.specs.declared.names.Mode.{Mode}
use Rattle.bx_base.specs.declared.names.Mode.TheVariants.{Shared, Exclusive}
use Rattle.bx_views.specs.bx_records.specs.Drafts.{Block, Changed, block_in}
use Rattle.bx_views.specs.Attempts.{Deed}
use Rattle.bx_views.specs.Truths.{Truth, Held, Hints, no_hints, with_draft}
use Rattle.bx_facts.specs.Holds.{Hold, Holds, KeepsHolds}
use Rattle.bx_world_views.specs.Views.{Allows, AreApart, ViewStands, IsDraftHeld, ShowsDraft, OnlyOf, Unacknowledged, StepOf, Works, DoubtStands, DoubtIn, VolumeStands}

allows_exclusive : (hold : Hold) → Allows (Some hold) Exclusive → hold.0 ≡ Exclusive
allows_exclusive hold (inl is) = is
allows_exclusive hold (inr is) = is

allows_more : (hold : Option Hold) (mode : Mode) → Allows hold Exclusive → Allows hold mode
allows_more None mode allowed = allowed
allows_more (Some hold) mode allowed = inr (allows_exclusive hold allowed)

-- what is found is one
pub some_is : {X : Type 0} (x y : X) (found : Option X) → found ≡ Some x → found ≡ Some y → x ≡ y
some_is x y found a b = cc

-- No session shows a block that another one holds exclusively.
pub clash : (holding : Holds) (HasRow : ℕ → Type 0) (session other at : ℕ) (mode : Mode) → AreApart holding HasRow → HasRow session → HasRow other → other ≢ session
    → Allows (holding session at) mode → Allows (holding other at) Exclusive → ⊥
clash holding HasRow session other at mode apart row other_row differ mine yours = by_mine (holding session at) refl mine
  where
    by_both : (hold other_hold : Hold) → holding session at ≡ Some hold → holding other at ≡ Some other_hold → Allows (Some other_hold) Exclusive → ⊥
    by_both hold other_hold is other_is exclusive =
        let both = apart.each session other at hold other_hold row other_row differ is other_is in
        let e = allows_exclusive other_hold exclusive in
        let shared = both.1 in
        let wrong : Exclusive ≡ Shared = sym e ∙ shared in cc

    by_yours : (hold : Hold) → holding session at ≡ Some hold → (other_hold : Option Hold) → holding other at ≡ other_hold → Allows other_hold Exclusive → ⊥
    by_yours hold is None other_is allowed = allowed
    by_yours hold is (Some other_hold) other_is allowed = by_both hold other_hold is other_is allowed

    by_mine : (hold : Option Hold) → holding session at ≡ hold → Allows hold mode → ⊥
    by_mine None is allowed = allowed
    by_mine (Some hold) is allowed = by_yours hold is (holding other at) refl yours

pub over_none : (truth : Truth) (draft : List Changed) (at : ℕ) → block_in draft at ≡ None → with_draft truth draft at ≡ truth at
over_none truth draft at is = ap (λ (found : Option Block). unwrap_or found (truth at)) is

pub over_some : (truth : Truth) (draft : List Changed) (at : ℕ) (block : Block) → block_in draft at ≡ Some block → with_draft truth draft at ≡ block
over_some truth draft at block is = ap (λ (found : Option Block). unwrap_or found (truth at)) is

-- Another session's draft leaves a view as it stands.
pub others_stay : (holding : Holds) (HasRow : ℕ → Type 0) (truth : Truth) (session other : ℕ) (held : Held) (draft : List Changed)
    → AreApart holding HasRow → HasRow session → HasRow other → other ≢ session
    → ViewStands holding truth session held → IsDraftHeld holding other draft
    → ViewStands holding (with_draft truth draft) session held
others_stay holding HasRow truth session other held draft apart row other_row differ view own = record {
  is_truth = record { each = λ at mode block shows. by_draft at mode block shows (block_in draft at) refl };
  holds = view.holds;
}
  where
    by_draft : (at : ℕ) (mode : Mode) (block : Block) → held at mode ≡ Some block → (found : Option Block) → block_in draft at ≡ found → with_draft truth draft at ≡ block
    by_draft at mode block shows None is = over_none truth draft at is ∙ view.is_truth.each at mode block shows
    by_draft at mode block shows (Some new) is = absurd (clash holding HasRow session other at mode apart row other_row differ (view.holds at mode block shows) (own.each at new is))

-- The session's own view stands over the new truth, once the draft is laid over it.
pub own_stays : (holding : Holds) (truth : Truth) (session : ℕ) (old new : Held) (draft : List Changed)
    → ViewStands holding truth session old → IsDraftHeld holding session draft → ShowsDraft draft old new
    → ViewStands holding (with_draft truth draft) session new
own_stays holding truth session old new draft view own shows = record {
  is_truth = record { each = λ at mode block has. by_draft at mode block has (block_in draft at) refl };
  holds = λ at mode block has. by_hold at mode block has (block_in draft at) refl;
}
  where
    by_draft : (at : ℕ) (mode : Mode) (block : Block) → new at mode ≡ Some block → (found : Option Block) → block_in draft at ≡ found → with_draft truth draft at ≡ block
    by_draft at mode block has None is = over_none truth draft at is ∙ view.is_truth.each at mode block (sym (shows.others at mode is) ∙ has)
    by_draft at mode block has (Some one) is = over_some truth draft at one is ∙ some_is one block (new at mode) (shows.has at one mode is) has

    by_hold : (at : ℕ) (mode : Mode) (block : Block) → new at mode ≡ Some block → (found : Option Block) → block_in draft at ≡ found → Allows (holding session at) mode
    by_hold at mode block has None is = view.holds at mode block (sym (shows.others at mode is) ∙ has)
    by_hold at mode block has (Some one) is = allows_more (holding session at) mode (own.each at one is)

-- ---- holds change

keeps_allowed : (old new : Holds) (session at : ℕ) (mode : Mode) → KeepsHolds old new → Allows (old session at) mode → Allows (new session at) mode
keeps_allowed old new session at mode keeps allowed = by_hold (old session at) refl allowed
  where
    by_hold : (hold : Option Hold) → old session at ≡ hold → Allows hold mode → Allows (new session at) mode
    by_hold None is allowed_so = absurd allowed_so
    by_hold (Some hold) is allowed_so = subst (λ (o : Option Hold). Allows o mode) (sym (keeps.each session at hold is)) allowed_so

-- All that is held stays held: a view stands.
pub view_keeps : (old new : Holds) (truth : Truth) (session : ℕ) (held : Held)
    → KeepsHolds old new → ViewStands old truth session held → ViewStands new truth session held
view_keeps old new truth session held keeps view = record {
  is_truth = view.is_truth;
  holds = λ at mode block has. keeps_allowed old new session at mode keeps (view.holds at mode block has);
}

owned_keeps : (old new : Holds) (session : ℕ) (draft : List Changed) → KeepsHolds old new → IsDraftHeld old session draft → IsDraftHeld new session draft
owned_keeps old new session draft keeps own = record { each = λ at block is. keeps_allowed old new session at Exclusive keeps (own.each at block is) }

module _ {T : Type 0} (Stands : Truth → Hints → T → Type 0) (Step : T → Deed → T → Type 0) where
  -- Holds grow, sessions die, sessions are opened, and sessions without a record in doubt are closed; nodes lose what they have.
  pub goes_on : (old new : Holds) (HasRow Lives Row Still : ℕ → Type 0) (own now : ℕ → Option ℕ) (held after : ℕ → Held) (hints later : ℕ → Hints) (doubts : ℕ → Option Unacknowledged) (truth : Truth) (tree : T)
      → KeepsHolds old new → AreApart new Row
      → ((session : ℕ) → Still session → Row session)
      → ((node other session : ℕ) → now node ≡ Some session → now other ≡ Some session → Still session → other ≡ node)
      → ((session : ℕ) (doubt : Unacknowledged) → doubts session ≡ Some doubt → HasRow session → Row session)
      → ((node session : ℕ) → now node ≡ Some session → Still session → (own node ≡ Some session) × Lives session ⊎ ((at : ℕ) (mode : Mode) → after node at mode ≡ None))
      → ((node session at : ℕ) (mode : Mode) (block : Block) → now node ≡ Some session → Still session → after node at mode ≡ Some block → held node at mode ≡ Some block)
      → ((node : ℕ) → (later node ≡ hints node) ⊎ (later node ≡ no_hints))
      → VolumeStands Stands Step old HasRow Lives own held hints doubts truth tree
      → VolumeStands Stands Step new Row Still now after later doubts truth tree
  goes_on old new HasRow Lives Row Still own now held after hints later doubts truth tree keeps apart rows single doubted was fewer hinting stands = record {
    is = stands.is;
    apart = apart;
    rows = rows;
    single = single;
    views = λ node session is still. by_was node session is still (was node session is still);
    hinted = λ node. by_hint node (hinting node);
    in_doubt = λ session. by_doubt session (doubts session) refl (stands.in_doubt session);
  }
    where
      by_was : (node session : ℕ) → now node ≡ Some session → Still session → (own node ≡ Some session) × Lives session ⊎ ((at : ℕ) (mode : Mode) → after node at mode ≡ None) → ViewStands new truth session (after node)
      by_was node session now_is still (inl is) = let view = view_keeps old new truth session (held node) keeps (stands.views node session is.0 is.1) in record {
        is_truth = record { each = λ at mode block has. view.is_truth.each at mode block (fewer node session at mode block now_is still has) };
        holds = λ at mode block has. view.holds at mode block (fewer node session at mode block now_is still has);
      }
      by_was node session now_is still (inr none) = record {
        is_truth = record { each = λ at mode block has. absurd (let e = none at mode in cc) };
        holds = λ at mode block has. absurd (let e = none at mode in cc);
      }

      by_hint : (node : ℕ) → (later node ≡ hints node) ⊎ (later node ≡ no_hints) → Stands truth (later node) tree
      by_hint node (inl same) = subst (λ (h : Hints). Stands truth h tree) (sym same) (stands.hinted node)
      by_hint node (inr none) = subst (λ (h : Hints). Stands truth h tree) (sym none) stands.is

      by_doubt : (session : ℕ) (found : Option Unacknowledged) → doubts session ≡ found → DoubtIn Stands Step HasRow old truth tree session found → DoubtIn Stands Step Row new truth tree session found
      by_doubt session None is kept = kept
      by_doubt session (Some doubt) is kept = (
        doubted session doubt is kept.0,
        record {
          view = view_keeps old new truth session doubt.held keeps kept.1.view;
          hinted = kept.1.hinted;
          own = owned_keeps old new session doubt.draft keeps kept.1.own;
          works = kept.1.works;
        },
      )

  -- A record in doubt is dropped: its session ended before its gate was written.
  pub dropped : (holding : Holds) (HasRow Lives : ℕ → Type 0) (own : ℕ → Option ℕ) (held : ℕ → Held) (hints : ℕ → Hints) (old new : ℕ → Option Unacknowledged) (truth : Truth) (tree : T) (session : ℕ)
      → VolumeStands Stands Step holding HasRow Lives own held hints old truth tree → OnlyOf session None old new
      → VolumeStands Stands Step holding HasRow Lives own held hints new truth tree
  dropped holding HasRow Lives own held hints old new truth tree session stands only = record {
    is = stands.is;
    apart = stands.apart;
    rows = stands.rows;
    single = stands.single;
    views = stands.views;
    hinted = stands.hinted;
    in_doubt = λ other. by_test other (eqb other session) refl;
  }
    where
      by_test : (other : ℕ) (b : Bool) → eqb other session ≡ b → DoubtIn Stands Step HasRow holding truth tree other (new other)
      by_test other true same =
          let e : other ≡ session = grind (arith, nat_tests, same) in
          subst (λ (o : Option Unacknowledged). DoubtIn Stands Step HasRow holding truth tree other o) (sym (ap (λ (n : ℕ). new n) e ∙ only.here)) tt
      by_test other false apart =
          subst (λ (o : Option Unacknowledged). DoubtIn Stands Step HasRow holding truth tree other o) (sym (only.others other (λ same. grind (arith, nat_tests, apart, same)))) (stands.in_doubt other)

  -- A record in doubt is acknowledged, or found in the log of a session that is dead: it leads to a next tree. The cache of the node
  -- whose live session it is of has the draft laid over it; the others are as they were.
  pub acked : (holding : Holds) (HasRow Lives : ℕ → Type 0) (own : ℕ → Option ℕ) (old_held new_held : ℕ → Held) (hints : ℕ → Hints) (old new : ℕ → Option Unacknowledged) (truth : Truth) (tree : T) (session : ℕ) (doubt : Unacknowledged)
      → VolumeStands Stands Step holding HasRow Lives own old_held hints old truth tree
      → old session ≡ Some doubt → OnlyOf session None old new
      → ((node other : ℕ) → own node ≡ Some other → Lives other → other ≢ session → new_held node ≡ old_held node)
      → ((node : ℕ) → own node ≡ Some session → Lives session → ShowsDraft doubt.draft (old_held node) (new_held node))
      → (next : T) × StepOf Stands Step doubt.act tree next × VolumeStands Stands Step holding HasRow Lives own new_held hints new (with_draft truth doubt.draft) next
  acked holding HasRow Lives own old_held new_held hints old new truth tree session doubt stands has only others_held lays = (
    works.next,
    works.step,
    record {
      is = works.leads.each no_hints stands.is;
      apart = stands.apart;
      rows = stands.rows;
      single = stands.single;
      views = λ node other is lives. by_view node other is lives (eqb other session) refl;
      hinted = λ node. works.leads.each (hints node) (stands.hinted node);
      in_doubt = λ other. by_test other (eqb other session) refl;
    },
  )
    where
      its : HasRow session × DoubtStands Stands Step holding truth tree session doubt
      its = subst (λ (o : Option Unacknowledged). DoubtIn Stands Step HasRow holding truth tree session o) has (stands.in_doubt session)

      works : Works Stands Step doubt.act doubt.draft truth tree
      works = its.1.works truth tree its.1.view.is_truth its.1.hinted

      by_view : (node other : ℕ) → own node ≡ Some other → Lives other → (b : Bool) → eqb other session ≡ b → ViewStands holding (with_draft truth doubt.draft) other (new_held node)
      by_view node other is lives true same =
          let e : other ≡ session = grind (arith, nat_tests, same) in
          let lives_it = subst (λ (n : ℕ). Lives n) e lives in
          let own_it = subst (λ (n : ℕ). own node ≡ Some n) e is in
          subst (λ (n : ℕ). ViewStands holding (with_draft truth doubt.draft) n (new_held node)) (sym e)
          (own_stays holding truth session (old_held node) (new_held node) doubt.draft (stands.views node session own_it lives_it) its.1.own (lays node own_it lives_it))
      by_view node other is lives false apart =
          let ne : other ≢ session = λ same. grind (arith, nat_tests, apart, same) in
          subst (λ (h : Held). ViewStands holding (with_draft truth doubt.draft) other h) (sym (others_held node other is lives ne))
          (others_stay holding HasRow truth other session (old_held node) doubt.draft stands.apart (stands.rows other lives) its.0 (λ same. ne (sym same)) (stands.views node other is lives) its.1.own)

      by_one : (other : ℕ) → other ≢ session → (found : Option Unacknowledged) → DoubtIn Stands Step HasRow holding truth tree other found → DoubtIn Stands Step HasRow holding (with_draft truth doubt.draft) works.next other found
      by_one other ne None kept = kept
      by_one other ne (Some one) kept = (
        kept.0,
        record {
          view = others_stay holding HasRow truth other session one.held doubt.draft stands.apart kept.0 its.0 (λ same. ne (sym same)) kept.1.view its.1.own;
          hinted = works.leads.each one.hints kept.1.hinted;
          own = kept.1.own;
          works = kept.1.works;
        },
      )

      by_test : (other : ℕ) (b : Bool) → eqb other session ≡ b → DoubtIn Stands Step HasRow holding (with_draft truth doubt.draft) works.next other (new other)
      by_test other true same =
          let e : other ≡ session = grind (arith, nat_tests, same) in
          subst (λ (o : Option Unacknowledged). DoubtIn Stands Step HasRow holding (with_draft truth doubt.draft) works.next other o) (sym (ap (λ (n : ℕ). new n) e ∙ only.here)) tt
      by_test other false apart =
          let ne : other ≢ session = λ same. grind (arith, nat_tests, apart, same) in
          subst (λ (o : Option Unacknowledged). DoubtIn Stands Step HasRow holding (with_draft truth doubt.draft) works.next other o) (sym (only.others other ne)) (by_one other ne (old other) (stands.in_doubt other))
