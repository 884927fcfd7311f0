-- Hints that fit are dropped, forgotten, and got of blocks as they are.
use Rattle.std.proofs.Common.{◌≡◌, ℕ, ◌+◌, ◌-◌, ◌<◌, ◌≤◌, Bool, true, false, List, [], ◌∷◌, ◌++◌, Some, None, refl, sym, ap, subst, ◌∙◌, arith, inl, inr}
use Rattle.std.specs.Prelude.{◌≢◌, ◌⊎◌, ◌==◌, if◌then◌else◌, All}
use Rattle.std.proofs.lemmas.Bool.{cases_lt}
use Rattle.std.proofs.lemmas.List.{append_assoc}
use Rattle.std.proofs.lemmas.List.Elements.{All-weaker}
use Rattle.bx_blink.specs.Hints.{HintsAgree, HintsFit, IsOld, LeadsDown, LeadsRight, Place}
use Rattle.bx_blink.proofs.Chains.{leads_in}
use Rattle.bx_blink.proofs.Handles.{two}
use Rattle.bx_blink.proofs.LonePage.{lone_fit}
use Rattle.bx_inodes.specs.Fitting.{HintsFitAll}
use Rattle.bx_layout.specs.Areas.{in_use}
use Rattle.bx_layout.specs.declared.block.Block.{Block}
use Rattle.bx_model.specs.declared.tree.Tree.{Tree}
use Rattle.bx_model.specs.Opening.{opening}
use Rattle.bx_page.specs.Contents.{Contents}
use Rattle.bx_page.specs.Keys.{is_below}
use Rattle.bx_page.specs.Spelling.{Spells}
use Rattle.bx_page.proofs.Whole.{one_page, page_written}
use Rattle.bx_page.proofs.Order.{not_below_itself}
use Rattle.bx_steps.specs.Steps.{StandsWith}
use Rattle.bx_tree_laws.proofs.Opening.{opening_is}
use Rattle.bx_truth.specs.Chunks.{IsChunked, IsName, block_at, chunks_of, word_at}
use Rattle.bx_truth.specs.Opening.{empty_page, opening_truth, page_block, page_handle, root_block}
use Rattle.bx_truth.specs.PageTrees.{Chunks, HasPage, IsIn, IsLast, IsNode, IsTree, PagesLead, NamesChild, Node, PageTree}
use Rattle.bx_truth.specs.Stands.{WasGiven}
use Rattle.bx_truth.proofs.Cases.{eq_false, eq_true, same_or}
use Rattle.bx_blink.proofs.Sees.{chunk_from, chunk_is}
use Rattle.bx_truth.proofs.Made.{chunk_given}
use Rattle.bx_truth.proofs.OpeningTree.{chunk_cases, empty_is, opening_stands}
use Rattle.bx_views.specs.Truths.{Hints, Truth, no_hints, with_hint, without_hint}

-- ---- fewer hints

-- each hint of the one is one of the other
abbrev AreOf : Hints → Hints → Type 0
AreOf fewer hints = (at : ℕ) (block : Block) → fewer at ≡ Some block → hints at ≡ Some block

fewer_fit : (areas : ℕ) (hints fewer : Hints) (truth : Truth) (root : ℕ) (tree : PageTree) → AreOf fewer hints → HintsFit areas hints truth root tree → HintsFit areas fewer truth root tree
fewer_fit areas hints fewer truth root tree are fit = record {
  agree = record {
    home = fit.agree.home;
    names = fit.agree.names;
    root_apart = fit.agree.root_apart;
    most = fit.agree.most;
    highest = fit.agree.highest;
    placed = fit.agree.placed;
    stands = fit.agree.stands;
    hints = λ handle place block page home_is hint. fit.agree.hints handle place block page home_is (are (block_at handle) block hint);
    root_hints = λ block page hint. fit.agree.root_hints block page (are (block_at root) block hint);
  };
  given = record { homes = fit.given.homes; hints = λ handle block hint. fit.given.hints handle block (are (block_at handle) block hint) };
}

fewer_fit_all : (areas : ℕ) (hints fewer : Hints) (truth : Truth) → AreOf fewer hints → HintsFitAll areas hints truth → HintsFitAll areas fewer truth
fewer_fit_all areas hints fewer truth are fit = record { each = λ handle inode tree holds is. fewer_fit areas hints fewer truth inode.tree tree are (fit.each handle inode tree holds is) }

none_are : (hints : Hints) → AreOf no_hints hints
none_are hints at block none = absurd cc

without_are : (dropped : ℕ) (hints : Hints) → AreOf (without_hint dropped hints) hints
without_are dropped hints at block some = by (at == dropped) some
  where
    by : (t : Bool) → (if t then None else hints at) ≡ Some block → hints at ≡ Some block
    by true none = absurd cc
    by false is = is

-- ---- a page of the tree as a hint

module _ (areas : ℕ) (hints : Hints) (chunks : Chunks) (root : ℕ) (tree : PageTree) (is : IsTree chunks root tree) (agree : HintsAgree areas hints chunks root tree) where
  not_top : (level : ℕ) (node next : Node) (before more : List Node) → level ≤ tree.height → tree.level level ≡ before ++ node ∷ (next ∷ more) → level < tree.height
  not_top level node next before more within parts = by (cases_lt level tree.height)
    where
      by : (level < tree.height) ⊎ (tree.height ≤ level) → level < tree.height
      by (inl lt) = lt
      by (inr ge) = let same : level ≡ tree.height = omega arith in absurd (two before node next more is.top (sym parts ∙ ap tree.level same ∙ is.root_alone))

  module _ (level : ℕ) (node : Node) (within : level ≤ tree.height) (there : IsIn node (tree.level level)) (above : 0 < node.page.level) where
    nd : IsNode chunks level node
    nd = (is.levels level within).nodes_are node there

    down : All (LeadsDown agree.home node.page.level) node.page.entries
    down =
        let under : ℕ = level - 1 in
        let level_is = nd.same_level in
        let up : level ≡ under + 1 = omega (arith, above, level_is) in
        let inner = is.interior under (omega (arith, above, level_is, within)) node (subst (λ (l : ℕ). IsIn node (tree.level l)) up there) in
        All-weaker (NamesChild (tree.level under)) (LeadsDown agree.home node.page.level)
        (λ entry names. record {
          handle = names.child.handle;
          begins = names.child.begins;
          eight = names.eight;
          value = names.value;
          home_is = agree.placed under names.child (omega (arith, above, level_is, within)) names.there
              ∙ ap (λ (l : ℕ). Some (record { level = l; begins = names.child.begins })) (omega (arith, level_is));
          key = subst (λ (k : List ℕ). is_below entry.key k ≡ false) names.key (not_below_itself entry.key);
        })
        node.page.entries inner.names

    right : IsLast node.page ⊎ LeadsRight agree.home node.page node.begins
    right = by there.behind there.parts (leads_in there.before node there.behind (rw there.parts at (is.levels level within).chain))
      where
        by : (behind : List Node) → tree.level level ≡ there.before ++ node ∷ behind → PagesLead node behind → IsLast node.page ⊎ LeadsRight agree.home node.page node.begins
        by [] parts last = inl last
        by (next ∷ more) parts leads = inr (record {
          high = next.begins;
          high_is = leads.0.high;
          above = rw leads.0.high at nd.highest;
          home_is = ap agree.home leads.0.right
              ∙ agree.placed level next (not_top level node next there.before more within parts) (record { before = there.before ++ node ∷ []; behind = more; parts = parts ∙ sym (append_assoc there.before (node ∷ []) (next ∷ more)) })
              ∙ ap (λ (l : ℕ). Some (record { level = l; begins = next.begins })) (sym nd.same_level);
        })

    pub page_old : IsOld agree.home node.begins node.page
    page_old =
        let under : ℕ = level - 1 in
        let level_is = nd.same_level in
        let up : level ≡ under + 1 = omega (arith, above, level_is) in
        let inner = is.interior under (omega (arith, above, level_is, within)) node (subst (λ (l : ℕ). IsIn node (tree.level l)) up there) in
        record { first = inner.first; down = down; right = right }

-- ---- one hint more

some_same : {X : Type 0} (x y : X) → Some x ≡ Some y → x ≡ y
some_same x y e = cc

module _ (areas : ℕ) (hints : Hints) (truth : Truth) (at : ℕ) (chunked : IsChunked areas truth) where
  abbrev more : Hints
  more = with_hint at (truth at) hints

  split : (h : ℕ) (block : Block) → with_hint at (truth at) hints h ≡ Some block → (hints h ≡ Some block) ⊎ (truth h ≡ block)
  split h block some = by (same_or h at)
    where
      by : (h ≡ at) ⊎ (h ≢ at) → (hints h ≡ Some block) ⊎ (truth h ≡ block)
      by (inl same) = inr (ap truth same ∙ some_same (truth at) block (sym (ap (λ (t : Bool). if t then Some (truth at) else hints h) (eq_true h at same)) ∙ some))
      by (inr other) = inl (sym (ap (λ (t : Bool). if t then Some (truth at) else hints h) (eq_false h at other)) ∙ some)

  -- a block that names a handle of the volume is its chunk
  named_chunk : (handle : ℕ) (block : Block) → IsName areas handle → truth (block_at handle) ≡ block → block.handle ≡ handle → chunks_of areas truth handle ≡ Some block
  named_chunk handle block name is header = by (in_use (word_at truth (block_at handle))) refl
    where
      by : (b : Bool) → in_use (word_at truth (block_at handle)) ≡ b → chunks_of areas truth handle ≡ Some block
      by true used = chunk_from areas truth handle block
          (record { slot = name.slot; used = used; is_handle = sym header ∙ ap (λ (b : Block). b.handle) (sym is) ∙ chunked.used (block_at handle) name.slot used; is_block = is })
      by false free = absurd (name.some (sym header ∙ ap (λ (b : Block). b.handle) (sym is) ∙ chunked.unused (block_at handle) name.slot free))

  module _ (root : ℕ) (tree : PageTree) (is : IsTree (chunks_of areas truth) root tree) (fit : HintsFit areas hints truth root tree) where
    -- the page of a chunk that is in the tree
    same_page : (level : ℕ) (node : Node) (block : Block) (page : Contents) → level ≤ tree.height → IsIn node (tree.level level) → chunks_of areas truth node.handle ≡ Some block → HasPage page block → node.page ≡ page
    same_page level node block page within there chunk has =
        let n = (is.levels level within).nodes_are node there in
        let one : n.block ≡ block = some_same n.block block (sym n.chunk ∙ chunk) in
        one_page node.page page block.payload (subst (λ (b : Block). HasPage node.page b) one n.has).spells has.spells

    homed : (handle : ℕ) (place : Place) (block : Block) (page : Contents) → fit.agree.home handle ≡ Some place → chunks_of areas truth handle ≡ Some block → HasPage page block → 0 < page.level
        → (page.level ≡ place.level) × IsOld fit.agree.home place.begins page
    homed handle place block page home_is chunk has above =
        let s = fit.agree.stands handle place block home_is chunk in
        let n = (is.levels place.level s.within).nodes_are s.node s.there in
        let same = same_page place.level s.node block page s.within s.there (ap (chunks_of areas truth) s.handle_is ∙ chunk) has in
        let old = page_old areas hints (chunks_of areas truth) root tree is fit.agree place.level s.node s.within s.there (subst (λ (p : Contents). 0 < p.level) (sym same) above) in
        (ap (λ (p : Contents). p.level) (sym same) ∙ n.same_level, subst (λ (k : List ℕ). IsOld fit.agree.home k page) s.begins_is (subst (λ (p : Contents). IsOld fit.agree.home s.node.begins p) same old))

    rooted : (block : Block) (page : Contents) → truth (block_at root) ≡ block → HasPage page block → 0 < page.level → (page.level ≤ fit.agree.most) × IsOld fit.agree.home [] page
    rooted block page here has above =
        let there : IsIn is.top (tree.level tree.height) = record { before = []; behind = []; parts = is.root_alone } in
        let within : tree.height ≤ tree.height = omega arith in
        let n = (is.levels tree.height within).nodes_are is.top there in
        let chunk : chunks_of areas truth root ≡ Some n.block = ap (chunks_of areas truth) (sym is.root_is) ∙ n.chunk in
        let one : n.block ≡ block = sym (chunk_is areas truth root n.block chunk).is_block ∙ here in
        let same = same_page tree.height is.top block page within there (n.chunk ∙ ap (λ (b : Block). Some b) one) has in
        let old = page_old areas hints (chunks_of areas truth) root tree is fit.agree tree.height is.top within there (subst (λ (p : Contents). 0 < p.level) (sym same) above) in
        let chain = rw is.root_alone at (is.levels tree.height within).chain in
        let level : page.level ≡ tree.height = ap (λ (p : Contents). p.level) (sym same) ∙ n.same_level in
        let high = fit.agree.highest in
        (omega (arith, level, high), subst (λ (k : List ℕ). IsOld fit.agree.home k page) chain.0 (subst (λ (p : Contents). IsOld fit.agree.home is.top.begins p) same old))

    more_fit : HintsFit areas (with_hint at (truth at) hints) truth root tree
    more_fit = record {
      agree = record {
        home = fit.agree.home;
        names = fit.agree.names;
        root_apart = fit.agree.root_apart;
        most = fit.agree.most;
        highest = fit.agree.highest;
        placed = fit.agree.placed;
        stands = fit.agree.stands;
        hints = λ handle place block page home_is hint header has above. by_home handle place block page home_is header has above (split (block_at handle) block hint);
        root_hints = λ block page hint header has above. by_root block page header has above (split (block_at root) block hint);
      };
      given = record { homes = fit.given.homes; hints = λ handle block hint header name. by_given handle block header name (split (block_at handle) block hint) };
    }
      where
        by_home : (handle : ℕ) (place : Place) (block : Block) (page : Contents) → fit.agree.home handle ≡ Some place → block.handle ≡ handle → HasPage page block → 0 < page.level
            → (hints (block_at handle) ≡ Some block) ⊎ (truth (block_at handle) ≡ block) → (page.level ≡ place.level) × IsOld fit.agree.home place.begins page
        by_home handle place block page home_is header has above (inl old) = fit.agree.hints handle place block page home_is old header has above
        by_home handle place block page home_is header has above (inr here) = homed handle place block page home_is (named_chunk handle block (fit.agree.names handle place home_is) here header) has above

        by_root : (block : Block) (page : Contents) → block.handle ≡ root → HasPage page block → 0 < page.level → (hints (block_at root) ≡ Some block) ⊎ (truth (block_at root) ≡ block)
            → (page.level ≤ fit.agree.most) × IsOld fit.agree.home [] page
        by_root block page header has above (inl old) = fit.agree.root_hints block page old header has above
        by_root block page header has above (inr here) = rooted block page here has above

        by_given : (handle : ℕ) (block : Block) → block.handle ≡ handle → IsName areas handle → (hints (block_at handle) ≡ Some block) ⊎ (truth (block_at handle) ≡ block) → WasGiven areas truth handle
        by_given handle block header name (inl old) = fit.given.hints handle block old header name
        by_given handle block header name (inr here) = chunk_given areas truth handle block (named_chunk handle block name here header)

  more_fit_all : HintsFitAll areas hints truth → HintsFitAll areas (with_hint at (truth at) hints) truth
  more_fit_all fit = record { each = λ handle inode tree holds is. more_fit inode.tree tree is (fit.each handle inode tree holds is) }

-- ---- a volume that was just made

kind_of_root : root_block.kind ≡ 1
unfolding root_block
kind_of_root = refl

opening_page : Spells empty_page page_block.payload
unfolding page_block
opening_page = page_written empty_page empty_is

pub opening_fit : (areas : ℕ) → 1 ≤ areas → HintsFitAll areas no_hints opening_truth
opening_fit areas some = record { each = λ handle inode tree holds is. lone_fit areas inode.tree opening_truth tree (flat inode.tree tree is) }
  where
    flat : (root : ℕ) (tree : PageTree) → IsTree (chunks_of areas opening_truth) root tree → tree.height ≡ 0
    flat root tree is =
        let there : IsIn is.top (tree.level tree.height) = record { before = []; behind = []; parts = is.root_alone } in
        let n = (is.levels tree.height (omega arith)).nodes_are is.top there in
        by n.block n.has n.same_level (chunk_cases areas some is.top.handle n.block n.chunk)
      where
        by : (block : Block) → HasPage is.top.page block → is.top.page.level ≡ tree.height → ((is.top.handle ≡ 1) × (block ≡ root_block)) ⊎ ((is.top.handle ≡ page_handle) × (block ≡ page_block)) → tree.height ≡ 0
        by block has level (inl root_is) = let kind : block.kind ≡ 1 = ap (λ (b : Block). b.kind) root_is.1 ∙ kind_of_root in let two = has.kind in absurd (omega (arith, kind, two))
        by block has level (inr page_is) =
            let one : is.top.page ≡ empty_page = one_page is.top.page empty_page page_block.payload (subst (λ (b : Block). HasPage is.top.page b) page_is.1 has).spells opening_page in
            sym level ∙ ap (λ (p : Contents). p.level) one

-- ---- what stands with them

pub new_stands : (volume areas : ℕ) → 1 ≤ areas → StandsWith volume areas opening_truth no_hints (record (opening volume) { areas = areas })
new_stands volume areas some = record {
  stands = record { is = opening_stands areas some volume; volume_is = refl; file_tree = opening_is volume areas };
  fit = opening_fit areas some;
}

module _ (volume areas : ℕ) (truth : Truth) (hints : Hints) (tree : Tree) where
  pub without_all : StandsWith volume areas truth hints tree → StandsWith volume areas truth no_hints tree
  without_all s = record { stands = s.stands; fit = fewer_fit_all areas hints no_hints truth (none_are hints) s.fit }

  pub without_one : (at : ℕ) → StandsWith volume areas truth hints tree → StandsWith volume areas truth (without_hint at hints) tree
  without_one at s = record { stands = s.stands; fit = fewer_fit_all areas hints (without_hint at hints) truth (without_are at hints) s.fit }

  pub had_as_hint : (at : ℕ) → StandsWith volume areas truth hints tree → StandsWith volume areas truth (with_hint at (truth at) hints) tree
  had_as_hint at s = record { stands = s.stands; fit = more_fit_all areas hints truth at s.stands.is.chunked s.fit }
