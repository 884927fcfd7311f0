-- From a page of the tree a walk goes to another, or ends.
use Rattle.std.proofs.Common.{◌≡◌, ℕ, ◌+◌, ◌-◌, ◌<◌, ◌≤◌, Bool, true, false, eqb, List, [], ◌∷◌, ◌++◌, Some, None, refl, sym, ap, subst, ◌∙◌, arith, eqb-true, inl, inr}
use Rattle.std.specs.Prelude.{◌⊎◌}
use Rattle.std.proofs.lemmas.Bool.{cases_lt, eqb-false}
use Rattle.std.proofs.lemmas.List.{append_assoc}
use Rattle.bx_base.specs.declared.names.Mode.{Mode}
use Rattle.bx_page.specs.Keys.{is_below, IsBelow}
use Rattle.bx_page.specs.Contents.{last}
use Rattle.bx_blink.specs.declared.steps.Spot.{Spot}
use Rattle.bx_truth.specs.PageTrees.{Chunks, Node, IsIn, IsNode, PagesLead, NamesChild, PageTree, IsTree}
use Rattle.bx_blink.specs.Walks.{Reads, passes, child_of, mode_at, onward}
use Rattle.bx_blink.specs.Hints.{HintsAgree}
use Rattle.bx_blink.proofs.Chains.{leads_in}
use Rattle.bx_blink.proofs.Last.{last_up_to}
use Rattle.bx_blink.specs.Places.{IsPlaceOf}
use Rattle.bx_blink.proofs.OnWay.{known, Behind, lower, further, IsOnWay, After}
use Rattle.bx_blink.proofs.Handles.{two, passed, kept, passes_last, handle_is, child_handle, child_home}
use Rattle.bx_blink.proofs.Homes.{not_home}

module _ (areas : ℕ) (reads : Reads) (chunks : Chunks) (root : ℕ) (tree : PageTree) (target : ℕ) (asked : Mode) (key : List ℕ) (is : IsTree chunks root tree) (hints : HintsAgree areas reads.hint chunks root tree) where
  ahead : (rank level : ℕ) (begins next : List ℕ) → level ≤ rank → IsBelow begins next → Behind (record { level = rank; begins = begins }) level next
  ahead rank level begins next le above = elim (cases_lt level rank) [ inl lt ↦ lower lt | inr ge ↦ further (omega arith) above ]

  -- a page with another on its right isn't the root
  not_top : (level : ℕ) (node next : Node) (before more : List Node) → level ≤ tree.height → tree.level level ≡ before ++ node ∷ (next ∷ more) → level < tree.height
  not_top level node next before more within parts = by_level (cases_lt level tree.height)
    where
      by_level : (level < tree.height) ⊎ (tree.height ≤ level) → level < tree.height
      by_level (inl lt) = lt
      by_level (inr ge) =
          let same : level ≡ tree.height = omega arith in
          absurd (two (before) node next more is.top (sym parts ∙ ap tree.level same ∙ is.root_alone))

  -- from a page of the tree a walk goes to another, or ends
  pub from_page : (spot : Spot) (rank level : ℕ) (node : Node) → level ≤ rank → level ≤ tree.height → IsIn node (tree.level level) → node.handle ≡ spot.handle → target ≤ level → is_below key node.begins ≡ false
      → (p : Bool) → passes node.page key ≡ p → (t : Bool) → eqb node.page.level target ≡ t
      → After hints.home root hints.most tree target key (record { level = rank; begins = node.begins }) (onward target asked key spot None node.page)
  from_page spot rank level node ranked within there handle_is enough from true goes t level_is = rw goes (by_behind there.behind there.parts (leads_in there.before node there.behind (rw there.parts at (is.levels level within).chain)))
    where
      homed : (next : Node) (more : List Node) → tree.level level ≡ there.before ++ node ∷ (next ∷ more) → PagesLead node (next ∷ more) → hints.home node.page.right ≡ Some (record { level = level; begins = next.begins })
      homed next more parts l = ap hints.home l.0.right ∙ hints.placed level next (not_top level node next there.before more within parts) (record { before = there.before ++ node ∷ []; behind = more; parts = parts ∙ sym (append_assoc there.before (node ∷ []) (next ∷ more)) })

      by_behind : (behind : List Node) → tree.level level ≡ there.before ++ node ∷ behind → PagesLead node behind → IsOnWay hints.home root hints.most tree target key (Some (record { level = rank; begins = node.begins })) (record { handle = node.page.right; via = None; mode = mode_at target asked node.page.level })
      by_behind [] parts last = absurd (passes_last node.page key last goes)
      by_behind (next ∷ more) parts l = record {
        level = level;
        begins = next.begins;
        enough = enough;
        from = passed node.page key next.begins l.0.high goes;
        onto = known next (record { before = there.before ++ node ∷ []; behind = more; parts = parts ∙ sym (append_assoc there.before (node ∷ []) (next ∷ more)) }) within (sym l.0.right) refl;
        rank = level;
        ranked = omega arith;
        rooted = λ e. absurd (not_home areas reads chunks root tree hints node.page.right (record { level = level; begins = next.begins }) (homed next more parts l) e);
        since = (ahead rank level node.begins next.begins ranked (rw l.0.high at ((is.levels level within).nodes_are node there).highest), homed next more parts l, refl);
      }
  from_page spot rank level node ranked within there handle_is enough from false stays true level_is =
      let nd = (is.levels level within).nodes_are node there in
      let same : level ≡ target = sym nd.same_level ∙ eqb-true node.page.level target level_is in
      rw (stays, level_is) (subst (λ (l : ℕ). IsPlaceOf tree l key spot.handle node.page) same (record { node = node; within = within; there = there; handle_is = handle_is; page_is = refl; from = from; to = kept node.page key stays }))
  from_page spot rank level node ranked within there handle_is enough from false stays false level_is = rw (stays, level_is) (down (cases_lt target level))
    where
      nd : IsNode chunks level node
      nd = (is.levels level within).nodes_are node there

      not_there : level ≡ target → ⊥
      not_there same = eqb-false node.page.level target level_is (nd.same_level ∙ same)

      down : (target < level) ⊎ (level ≤ target) → IsOnWay hints.home root hints.most tree target key (Some (record { level = rank; begins = node.begins })) (record { handle = child_of node.page key; via = None; mode = mode_at target asked (node.page.level - 1) })
      down (inr le) = absurd (not_there (omega arith))
      down (inl lt) =
          let under : ℕ = level - 1 in
          let above : level ≡ under + 1 = omega arith in
          let inner = is.interior under (omega arith) node (subst (λ (l : ℕ). IsIn node (tree.level l)) above there) in
          let entry = last_up_to (NamesChild (tree.level under)) key node.begins node.page.entries inner.names inner.first from in
          let child = (entry.has).child in
          let homed = child_home hints.home node.page key entry.entry child.handle (record { level = under; begins = child.begins }) entry.is (entry.has).eight (entry.has).value (hints.placed under child (omega arith) (entry.has).there) in
          record {
            level = under;
            begins = child.begins;
            enough = omega arith;
            from = subst (λ (k : List ℕ). is_below key k ≡ false) (entry.has).key entry.up_to_key;
            onto = known child (entry.has).there (omega arith) (sym (child_handle node.page key entry.entry child.handle entry.is (entry.has).eight (entry.has).value)) refl;
            rank = under;
            ranked = omega arith;
            rooted = λ e. absurd (not_home areas reads chunks root tree hints (child_of node.page key) (record { level = under; begins = child.begins }) (homed) e);
            since = (lower (omega arith), homed, refl);
          }
