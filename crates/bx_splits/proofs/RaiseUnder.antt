-- The root is cut in two under a truth: two slots are taken, and three pages are put.
use Rattle.std.proofs.Common.{◌≡◌, ℕ, ◌+◌, ◌^◌, ◌<◌, eqb, cond, List, [], ◌∷◌, Option, Some, None, refl, sym, ap, subst, ◌∙◌, arith, inl, inr}
use Rattle.std.specs.Prelude.{IfSome, ◌⊎◌}
use Rattle.std.proofs.lemmas.Bool.{eq-eqb, ne_eqb}
use Rattle.bx_layout.specs.declared.block.Block.{Block}
use Rattle.bx_records.specs.Drafts.{Changed, with_block}
use Rattle.bx_page.specs.Keys.{IsBelow}
use Rattle.bx_page.specs.Contents.{Contents, first_half, other_half}
use Rattle.bx_truth.specs.Chunks.{IsName, block_at, chunks_of}
use Rattle.bx_truth.specs.PageTrees.{Chunks, HasPage, IsIn, Node, PageTree}
use Rattle.bx_truth.specs.Shown.{KeepsSlots}
use Rattle.bx_truth.specs.Stands.{WasGiven}
use Rattle.bx_views.specs.Truths.{Truth, Held, Hints, with_draft}
use Rattle.bx_blink.specs.Hints.{Place, HintsAgree, HintsFit, Under}
use Rattle.bx_blink.specs.Places.{IsPlaceOf}
use Rattle.bx_blink.proofs.Handles.{alone, kept, not_below_empty, passed}
use Rattle.bx_leaves.proofs.Apart.{same_page}
use Rattle.bx_leaves.proofs.Members.{in_head, in_tail}
use Rattle.bx_splits.specs.Splits.{GrowsTree, root_page}
use Rattle.bx_splits.proofs.Cut.{IsMiddle}
use Rattle.bx_splits.proofs.Grown.{Grows, still_given}
use Rattle.bx_splits.proofs.Halved.{GrowsHalves, by_half}
use Rattle.bx_splits.proofs.HintedRaise.{agree_raised, raised_home}
use Rattle.bx_splits.proofs.Kept.{used_given, used_fits}
use Rattle.bx_splits.proofs.Raise.{Raises, is_raised, map_stays}
use Rattle.bx_splits.proofs.RaiseChunks.{raises, slots, differ, left_not_root, right_not_root, right_never}
use Rattle.bx_splits.proofs.RaisedPages.{back, forth, left_there, right_there}

module _ (areas : ℕ) (held : Held) (hints : Hints) (truth : Truth) (old one two : List Changed) (root : ℕ) (tree : PageTree) (u : Under areas held hints truth old root tree)
    (left right : ℕ) (gl : Grows areas (with_draft truth old) (with_draft truth one) left) (gr : Grows areas (with_draft truth one) (with_draft truth two) right)
    (root_block left_block right_block : Block) (root_header : root_block.handle ≡ root) (left_header : left_block.handle ≡ left) (right_header : right_block.handle ≡ right)
    (middle : List ℕ) (m : IsMiddle (u.is).top right middle) (root_has : HasPage (root_page (u.is).top.page left right middle) root_block)
    (left_has : HasPage (first_half (u.is).top.page right) left_block) (right_has : HasPage (other_half (u.is).top.page) right_block) where
  abbrev new : List Changed
  new = with_block (with_block (with_block two (block_at left) left_block) (block_at right) right_block) (block_at root) root_block

  abbrev c0 : Chunks
  c0 = chunks_of areas (with_draft truth old)

  abbrev c5 : Chunks
  c5 = chunks_of areas (with_draft truth (with_block (with_block (with_block two (block_at left) left_block) (block_at right) right_block) (block_at root) root_block))

  abbrev top : Node
  top = (u.is).top

  abbrev r : Raises (chunks_of areas (with_draft truth old)) (chunks_of areas (with_draft truth (with_block (with_block (with_block two (block_at left) left_block) (block_at right) right_block) (block_at root) root_block))) root left right root_block left_block right_block
  r = raises areas held hints truth old one two root tree u left right gl gr root_block left_block right_block root_header left_header right_header

  k : KeepsSlots areas (with_draft truth old) (with_draft truth (with_block (with_block (with_block two (block_at left) left_block) (block_at right) right_block) (block_at root) root_block))
  k = slots areas held hints truth old one two root tree u left right gl gr root_block left_block right_block root_header left_header right_header

  apart : left ≡ right → ⊥
  apart = differ areas held hints truth old one two root tree u left right gl gr root_block left_block right_block root_header left_header right_header

  not_left : root ≡ left → ⊥
  not_left = left_not_root areas held hints truth old one two root tree u left right gl gr root_block left_block right_block root_header left_header right_header

  not_right : root ≡ right → ⊥
  not_right = right_not_root areas held hints truth old one two root tree u left right gl gr root_block left_block right_block root_header left_header right_header

  never : WasGiven areas (with_draft truth old) right → ⊥
  never = right_never areas held hints truth old one two root tree u left right gl gr root_block left_block right_block root_header left_header right_header

  left_fits : left < 2 ^ 64
  left_fits = used_fits areas (with_draft truth one) left gl.block u.few gl.gets

  right_fits : right < 2 ^ 64
  right_fits = used_fits areas (with_draft truth two) right gr.block u.few gr.gets

  abbrev l_node : Node
  l_node = record { handle = left; begins = []; page = first_half (u.is).top.page right }

  abbrev r_node : Node
  r_node = record { handle = right; begins = middle; page = other_half (u.is).top.page }

  abbrev t_node : Node
  t_node = record { handle = root; begins = []; page = root_page (u.is).top.page left right middle }

  abbrev raised_tree : PageTree
  raised_tree = record { height = tree.height + 1; level = λ l. cond (eqb l (tree.height + 1)) (t_node ∷ []) (cond (eqb l tree.height) (l_node ∷ r_node ∷ []) (tree.level l)) }

  fit_raised : (other : Hints) → HintsFit areas other (with_draft truth old) root tree
      → HintsFit areas other (with_draft truth (with_block (with_block (with_block two (block_at left) left_block) (block_at right) right_block) (block_at root) root_block)) root raised_tree
  fit_raised other h = record {
    agree = agreed;
    given = record {
      homes = λ handle place home. elim (home_was handle place home) [
        | inl (inl e) ↦ used_given areas (with_draft truth new) handle left_block (ap c5 e ∙ r.at_left)
        | inl (inr e) ↦ used_given areas (with_draft truth new) handle right_block (ap c5 e ∙ r.at_right)
        | inr was_home ↦ still_given areas (with_draft truth old) (with_draft truth new) handle k ((h.given).homes handle place was_home)
      ];
      hints = λ handle b there header name. still_given areas (with_draft truth old) (with_draft truth new) handle k ((h.given).hints handle b there header name);
    };
  }
    where
      no_home : (handle : ℕ) → (WasGiven areas (with_draft truth old) handle → ⊥) → (o : Option Place) → (h.agree).home handle ≡ o → (h.agree).home handle ≡ None
      no_home handle ungiven None e = e
      no_home handle ungiven (Some place) e = absurd (ungiven ((h.given).homes handle place e))

      no_hint : (handle : ℕ) → (WasGiven areas (with_draft truth old) handle → ⊥) → IsName areas handle → (block : Block) → other (block_at handle) ≡ Some block → block.handle ≡ handle → ⊥
      no_hint handle ungiven name block there header = ungiven ((h.given).hints handle block there header name)

      agreed : HintsAgree areas other (chunks_of areas (with_draft truth new)) root raised_tree
      agreed = agree_raised areas other c0 c5 root tree left right middle root_block left_block right_block u.is r h.agree gl.name gr.name apart not_left not_right
          (no_home left gl.never ((h.agree).home left) refl) (no_home right never ((h.agree).home right) refl) (no_hint left gl.never gl.name) (no_hint right never gr.name)

      home_was : (handle : ℕ) (place : Place) → agreed.home handle ≡ Some place → ((handle ≡ left) ⊎ (handle ≡ right)) ⊎ ((h.agree).home handle ≡ Some place)
      home_was = raised_home areas other c0 c5 root tree left right middle root_block left_block right_block u.is r h.agree gl.name gr.name apart not_left not_right
          (no_home left gl.never ((h.agree).home left) refl) (no_home right never ((h.agree).home right) refl) (no_hint left gl.never gl.name) (no_hint right never gr.name)

  pub root_cut : GrowsTree areas held hints truth old (with_block (with_block (with_block two (block_at left) left_block) (block_at right) right_block) (block_at root) root_block) root tree root (λ handle. (handle ≡ left) ⊎ (handle ≡ right))
  root_cut = record {
    after = raised_tree;
    under = record {
      few = u.few;
      same = u.same;
      chunked = k.chunked;
      is = is_raised c0 c5 root tree left right middle root_block left_block right_block u.is left_fits right_fits m r root_has left_has right_has;
      hints = fit_raised hints u.hints;
    };
    map_is = map_stays c0 c5 root tree left right middle root_block left_block right_block u.is left_fits right_fits m r root_has left_has right_has (eqb 0 tree.height) refl;
    fresh = λ handle e. elim e [ inl a ↦ ap c0 a ∙ gl.fresh | inr b ↦ ap c0 b ∙ r.right_fresh ];
    never = λ handle e given. elim e [
      | inl a ↦ gl.never (subst (λ (h : ℕ). WasGiven areas (with_draft truth old) h) a given)
      | inr b ↦ never (subst (λ (h : ℕ). WasGiven areas (with_draft truth old) h) b given)
    ];
    new_pages = λ handle e. elim e [
      | inl a ↦ (l_node, left_there c0 root tree u.is l_node r_node t_node refl, sym a)
      | inr b ↦ (r_node, right_there c0 root tree u.is l_node r_node t_node refl, sym b)
    ];
    back = back c0 root tree u.is l_node r_node t_node refl;
    forth = forth c0 root tree u.is l_node r_node t_node refl;
    page = top;
    page_there = record { level = tree.height; within = omega arith; there = record { before = []; behind = []; parts = (u.is).root_alone } };
    page_is = (u.is).root_is;
    others = λ handle not_new other. r.others handle other (λ a. not_new (inl a)) (λ b. not_new (inr b));
    leads = fit_raised;
    slots = k;
  }

  -- the root's node is the top
  same_top : (l : ℕ) (key : List ℕ) (was : Contents) → (p : IsPlaceOf tree l key root was) → (l ≡ tree.height) × (p.node ≡ (u.is).top)
  same_top l key was p =
      let m = ((u.is).levels l p.within).nodes_are p.node p.there in
      let t = ((u.is).levels tree.height (omega arith)).nodes_are (u.is).top (record { before = []; behind = []; parts = (u.is).root_alone }) in
      let same : l ≡ tree.height = sym m.same_level ∙ ap (λ (c : Contents). c.level) (same_page c0 l tree.height p.node (u.is).top m t (p.handle_is ∙ sym (u.is).root_is)) ∙ t.same_level in
      (same, alone p.node (u.is).top (subst (λ (ns : List Node). IsIn p.node ns) (ap tree.level same ∙ (u.is).root_alone) p.there))

  at_height : (l : ℕ) → l ≡ tree.height → raised_tree.level l ≡ l_node ∷ r_node ∷ []
  at_height l same = rw (ne_eqb l (tree.height + 1) (λ q. omega (arith, same, q)), eq-eqb l tree.height same) refl

  -- each key is in the range of one of the halves
  pub root_halved : GrowsHalves areas held hints truth old (with_block (with_block (with_block two (block_at left) left_block) (block_at right) right_block) (block_at root) root_block) root tree root (λ handle. (handle ≡ left) ⊎ (handle ≡ right)) (u.is).top.page left right
  unfolding root_cut
  root_halved = record {
    grows = root_cut;
    places = λ l key was p.
        let same = same_top l key was p in
        let within = p.within in
        by_half raised_tree l key (u.is).top.page left right
        (λ e. record {
          node = l_node;
          within = omega (arith, within);
          there = subst (λ (ns : List Node). IsIn l_node ns) (sym (at_height l same.0)) (in_head l_node (r_node ∷ []));
          handle_is = refl;
          page_is = refl;
          from = not_below_empty key;
          to = kept (first_half (u.is).top.page right) key e;
        })
        (λ e. record {
          node = r_node;
          within = omega (arith, within);
          there = subst (λ (ns : List Node). IsIn r_node ns) (sym (at_height l same.0)) (in_tail r_node l_node (r_node ∷ []) (in_head r_node []));
          handle_is = refl;
          page_is = refl;
          from = passed (first_half (u.is).top.page right) key middle m.high e;
          to = subst (λ (x : Node). IfSome x.page.high (IsBelow key)) same.1 p.to;
        });
  }
