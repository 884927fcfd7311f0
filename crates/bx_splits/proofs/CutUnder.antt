-- A page that isn't the root is cut in two under a truth: a slot is taken, and two pages are put.
use Rattle.std.proofs.Common.{◌≡◌, ℕ, ◌<◌, Bool, true, false, eqb, cond, List, [], ◌∷◌, ◌++◌, Option, Some, None, refl, sym, ap, subst, ◌∙◌, arith, eqb-true, inl, inr}
use Rattle.std.specs.Prelude.{IfSome, ◌⊎◌}
use Rattle.std.proofs.lemmas.Bool.{eq-eqb}
use Rattle.bx_layout.specs.declared.block.Block.{Block}
use Rattle.bx_records.specs.Drafts.{Changed, with_block}
use Rattle.bx_page.specs.Keys.{is_below, IsBelow}
use Rattle.bx_page.specs.Contents.{Contents, first_half, other_half}
use Rattle.bx_truth.specs.Chunks.{block_at, chunks_of}
use Rattle.bx_truth.specs.Edits.{ChunkAnew}
use Rattle.bx_truth.specs.PageTrees.{Chunks, Node, IsIn, HasPage, IsNode, IsLevel, PageTree, entries_of, map_of}
use Rattle.bx_truth.specs.Shown.{KeepsSlots}
use Rattle.bx_truth.specs.Stands.{WasGiven}
use Rattle.bx_views.specs.Truths.{Truth, Held, Hints, with_draft}
use Rattle.bx_blink.specs.Hints.{Place, HintsAgree, HintsFit, Under}
use Rattle.bx_blink.specs.Places.{IsPlaceOf}
use Rattle.bx_blink.proofs.Handles.{kept, passed}
use Rattle.bx_blink.proofs.Sees.{Holds}
use Rattle.bx_leaves.proofs.Apart.{same_page}
use Rattle.bx_leaves.proofs.Exchanged.{apart_before, apart_behind}
use Rattle.bx_leaves.proofs.Members.{in_head, in_tail, in_right, in_middle, in_split}
use Rattle.bx_leaves.proofs.Replaced.{with_level}
use Rattle.bx_leaves.proofs.Written.{puts_writes, holds_still}
use Rattle.bx_splits.specs.Splits.{GrowsTree}
use Rattle.bx_splits.proofs.Cut.{left_of, right_of, Cuts, IsMiddle, is_cut, entries_cut}
use Rattle.bx_splits.proofs.CutPages.{forth, back}
use Rattle.bx_splits.proofs.Grown.{Grows, still_given}
use Rattle.bx_splits.proofs.Halved.{GrowsHalves, by_half}
use Rattle.bx_splits.proofs.HintedCut.{agree_cut, cut_home}
use Rattle.bx_splits.proofs.Kept.{kept_and, written_keeps, used_given}

module _ (areas : ℕ) (held : Held) (hints : Hints) (truth : Truth) (old one : List Changed) (root : ℕ) (tree : PageTree) (u : Under areas held hints truth old root tree)
    (level : ℕ) (lt : level < tree.height) (before : List Node) (node : Node) (behind : List Node) (parts : tree.level level ≡ before ++ node ∷ behind)
    (right : ℕ) (middle : List ℕ) (m : IsMiddle node right middle) (grows : Grows areas (with_draft truth old) (with_draft truth one) right)
    (left_block right_block : Block) (left_header : left_block.handle ≡ node.handle) (right_header : right_block.handle ≡ right)
    (left_has : HasPage (first_half node.page right) left_block) (right_has : HasPage (other_half node.page) right_block) where
  abbrev two : List Changed
  two = with_block one (block_at right) right_block

  abbrev three : List Changed
  three = with_block (with_block one (block_at right) right_block) (block_at node.handle) left_block

  abbrev c0 : Chunks
  c0 = chunks_of areas (with_draft truth old)

  abbrev c1 : Chunks
  c1 = chunks_of areas (with_draft truth one)

  abbrev c2 : Chunks
  c2 = chunks_of areas (with_draft truth two)

  abbrev c3 : Chunks
  c3 = chunks_of areas (with_draft truth three)

  n : IsNode c0 level node
  n = ((u.is).levels level (omega arith)).nodes_are node (record { before = before; behind = behind; parts = parts })

  differ : node.handle ≡ right → ⊥
  differ e = let both : Some n.block ≡ None = sym n.chunk ∙ ap c0 e ∙ grows.fresh in absurd cc

  holds_one : Holds areas held truth one
  holds_one = record { same = u.same; chunked = (grows.slots).chunked }

  w1 : ChunkAnew c1 c2 right right_block
  w1 = puts_writes areas held truth one right grows.block right_block holds_one grows.gets right_header

  holds_two : Holds areas held truth two
  holds_two = holds_still areas held truth one right grows.block right_block holds_one grows.gets right_header

  was : c2 node.handle ≡ Some n.block
  was = w1.others node.handle differ ∙ grows.keeps node.handle differ ∙ n.chunk

  w2 : ChunkAnew c2 c3 node.handle left_block
  w2 = puts_writes areas held truth two node.handle n.block left_block holds_two was left_header

  cuts : Cuts c0 c3 node.handle right left_block right_block
  cuts = record {
    here = w2.here;
    new = w2.others right (λ e. differ (sym e)) ∙ w1.here;
    fresh = grows.fresh;
    others = λ other a b. w2.others other a ∙ w1.others other b ∙ grows.keeps other b;
  }

  slots : KeepsSlots areas (with_draft truth old) (with_draft truth three)
  slots =
      kept_and areas (with_draft truth old) (with_draft truth one) (with_draft truth three) grows.slots
      (kept_and areas (with_draft truth one) (with_draft truth two) (with_draft truth three) (written_keeps areas held truth one right grows.block right_block holds_one grows.gets right_header)
      (written_keeps areas held truth two node.handle n.block left_block holds_two was left_header))

  abbrev cut_tree : PageTree
  cut_tree = with_level tree level (before ++ left_of node right ∷ (right_of node right middle ∷ behind))

  not_root : root ≡ right → ⊥
  not_root e =
      let t = ((u.is).levels tree.height (omega arith)).nodes_are (u.is).top (record { before = []; behind = []; parts = (u.is).root_alone }) in
      let both : Some t.block ≡ None = sym t.chunk ∙ ap c0 ((u.is).root_is ∙ e) ∙ grows.fresh in
      absurd cc

  fit_cut : (other : Hints) → HintsFit areas other (with_draft truth old) root tree → HintsFit areas other (with_draft truth (with_block (with_block one (block_at right) right_block) (block_at node.handle) left_block)) root (with_level tree level (before ++ left_of node right ∷ (right_of node right middle ∷ behind)))
  fit_cut other h = record {
    agree = agreed;
    given = record {
      homes = λ handle place home. elim (home_was handle place home) [
        | inl e ↦ used_given areas (with_draft truth three) handle right_block (ap c3 e ∙ cuts.new)
        | inr was_home ↦ still_given areas (with_draft truth old) (with_draft truth three) handle slots ((h.given).homes handle place was_home)
      ];
      hints = λ handle b there header name. still_given areas (with_draft truth old) (with_draft truth three) handle slots ((h.given).hints handle b there header name);
    };
  }
    where
      no_home : (o : Option Place) → (h.agree).home right ≡ o → (h.agree).home right ≡ None
      no_home None e = e
      no_home (Some place) e = absurd (grows.never ((h.given).homes right place e))

      no_hint : (block : Block) → other (block_at right) ≡ Some block → block.handle ≡ right → ⊥
      no_hint block there header = grows.never ((h.given).hints right block there header grows.name)

      agreed : HintsAgree areas other (chunks_of areas (with_draft truth (with_block (with_block one (block_at right) right_block) (block_at node.handle) left_block))) root (with_level tree level (before ++ left_of node right ∷ (right_of node right middle ∷ behind)))
      agreed = agree_cut areas other c0 c3 root tree level before node behind right middle left_block right_block n.block lt parts n.chunk cuts h.agree grows.name not_root (no_home ((h.agree).home right) refl) no_hint

      home_was : (handle : ℕ) (place : Place) → agreed.home handle ≡ Some place → (handle ≡ right) ⊎ ((h.agree).home handle ≡ Some place)
      home_was = cut_home areas other c0 c3 root tree level before node behind right middle left_block right_block n.block lt parts n.chunk cuts h.agree grows.name not_root (no_home ((h.agree).home right) refl) no_hint

  map_cut : (b : Bool) → eqb 0 level ≡ b → entries_of (cond b (before ++ left_of node right ∷ (right_of node right middle ∷ behind)) (tree.level 0)) ≡ map_of tree
  map_cut true e = entries_cut node right middle m.high before behind ∙ ap entries_of (sym (ap tree.level (eqb-true 0 level e) ∙ parts))
  map_cut false e = refl

  pub page_cut : GrowsTree areas held hints truth old (with_block (with_block one (block_at right) right_block) (block_at node.handle) left_block) root tree node.handle (λ handle. handle ≡ right)
  page_cut = record {
    after = cut_tree;
    under = record {
      few = u.few;
      same = u.same;
      chunked = slots.chunked;
      is = is_cut c0 c3 root tree level before node behind right middle left_block right_block u.is lt parts m cuts left_has right_has;
      hints = fit_cut hints u.hints;
    };
    map_is = map_cut (eqb 0 level) refl;
    fresh = λ handle e. ap c0 e ∙ grows.fresh;
    never = λ handle e given. grows.never (subst (λ h. WasGiven areas (with_draft truth old) h) e given);
    new_pages = λ handle e. (right_of node right middle, record { level = level; within = omega (arith, lt); there = right_there (eqb level level) (eq-eqb level level refl) }, sym e);
    back = λ page i. elim (back tree level before node behind right middle parts i.level page (eqb i.level level) refl i.there) [
      | inl e ↦ inl e
      | inr o ↦ inr (o.0, record { level = i.level; within = i.within; there = o.1 }, o.2)
    ];
    forth = λ page i. let f = forth tree level before node behind right middle parts i.level page i.there (eqb i.level level) refl in (f.0, record { level = i.level; within = i.within; there = f.1 }, f.2);
    page = node;
    page_there = record { level = level; within = omega (arith, lt); there = record { before = before; behind = behind; parts = parts } };
    page_is = refl;
    others = λ handle not_new other. cuts.others handle other not_new;
    leads = fit_cut;
    slots = slots;
  }
    where
      right_there : (b : Bool) → b ≡ true → IsIn (right_of node right middle) (cond b (before ++ left_of node right ∷ (right_of node right middle ∷ behind)) (tree.level level))
      right_there true e = in_right (right_of node right middle) before (left_of node right ∷ (right_of node right middle ∷ behind)) (in_tail (right_of node right middle) (left_of node right) (right_of node right middle ∷ behind) (in_head (right_of node right middle) behind))
      right_there false e = absurd cc

  -- the page's node is this one
  same_node : (l : ℕ) (key : List ℕ) (was : Contents) → (p : IsPlaceOf tree l key node.handle was) → (l ≡ level) × (p.node ≡ node)
  same_node l key was p =
      let m = ((u.is).levels l p.within).nodes_are p.node p.there in
      let same : l ≡ level = sym m.same_level ∙ ap (λ (c : Contents). c.level) (same_page c0 l level p.node node m n p.handle_is) ∙ n.same_level in
      let old_level : IsLevel c0 level (before ++ node ∷ behind) = rw parts at ((u.is).levels level (omega (arith, lt))) in (
        same,
        elim (in_split p.node node before behind (subst (λ (ns : List Node). IsIn p.node ns) (ap tree.level same ∙ parts) p.there)) [
          | inl e ↦ e
          | inr (inl i) ↦ absurd (apart_before c0 level before node behind old_level p.node i p.handle_is)
          | inr (inr i) ↦ absurd (apart_behind c0 level before node behind old_level p.node i p.handle_is)
        ],
      )

  in_cut : (l : ℕ) (x : Node) → l ≡ level → IsIn x (before ++ left_of node right ∷ (right_of node right middle ∷ behind)) → (b : Bool) → eqb l level ≡ b → IsIn x (cond b (before ++ left_of node right ∷ (right_of node right middle ∷ behind)) (tree.level l))
  in_cut l x same i true e = i
  in_cut l x same i false e = let both : false ≡ true = sym e ∙ eq-eqb l level same in absurd cc

  -- each key of the page is in the range of one of the halves
  pub page_halved : GrowsHalves areas held hints truth old (with_block (with_block one (block_at right) right_block) (block_at node.handle) left_block) root tree node.handle (λ handle. handle ≡ right) node.page node.handle right
  unfolding page_cut
  page_halved = record {
    grows = page_cut;
    places = λ l key was p.
        let same = same_node l key was p in
        by_half cut_tree l key node.page node.handle right
        (λ e. record {
          node = left_of node right;
          within = p.within;
          there = in_cut l (left_of node right) same.0 (in_middle (left_of node right) before (right_of node right middle ∷ behind)) (eqb l level) refl;
          handle_is = refl;
          page_is = refl;
          from = subst (λ (x : Node). is_below key x.begins ≡ false) same.1 p.from;
          to = kept (first_half node.page right) key e;
        })
        (λ e. record {
          node = right_of node right middle;
          within = p.within;
          there = in_cut l (right_of node right middle) same.0 (in_right (right_of node right middle) before (left_of node right ∷ (right_of node right middle ∷ behind)) (in_tail (right_of node right middle) (left_of node right) (right_of node right middle ∷ behind) (in_head (right_of node right middle) behind)))
              (eqb l level) refl;
          handle_is = refl;
          page_is = refl;
          from = passed (first_half node.page right) key middle m.high e;
          to = subst (λ (x : Node). IfSome x.page.high (IsBelow key)) same.1 p.to;
        });
  }
