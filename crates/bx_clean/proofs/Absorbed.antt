-- The first page of the level below a root takes the place of its right neighbour too.
use Rattle.std.proofs.Common.{◌≡◌, ℕ, ◌+◌, ◌<◌, ◌≤◌, get_or, List, [], ◌∷◌, ◌++◌, Option, Some, None, refl, sym, ap, subst, ◌∙◌, arith, inl, inr}
use Rattle.std.specs.Prelude.{◌≢◌, ◌⊎◌, IfSome}
use Rattle.std.proofs.lemmas.List.Elements.{All-head, All-cons}
use Rattle.bx_layout.specs.declared.block.Block.{Block}
use Rattle.bx_page.specs.declared.entry.Entry.{Entry}
use Rattle.bx_page.specs.Contents.{Contents}
use Rattle.bx_page.specs.Keys.{IsBelow}
use Rattle.bx_page.proofs.Order.{below_trans}
use Rattle.bx_truth.specs.Chunks.{chunks_of}
use Rattle.bx_truth.specs.PageTrees.{Node, IsIn, IsNode, PagesLead, IsLevel, NamesChild, IsInterior, PageTree, IsTree, entries_of, map_of}
use Rattle.bx_truth.specs.Shown.{KeepsSlots}
use Rattle.bx_truth.proofs.Cases.{same_or}
use Rattle.bx_truth.proofs.Put.{some_there}
use Rattle.bx_views.specs.Truths.{Truth, Hints}
use Rattle.bx_blink.specs.Hints.{HintsFit}
use Rattle.bx_leaves.proofs.Exchanged.{apart_behind}
use Rattle.bx_leaves.proofs.Members.{in_cases, in_head, in_tail, in_none}
use Rattle.bx_leaves.proofs.Replaced.{with_level}
use Rattle.bx_clean.specs.Shrinking.{ChunkGone, HasOneChild, MayReplace, ShrinksTree}
use Rattle.bx_clean.proofs.Levels.{moved, levels_apart, levels_now, inside_now, level_here, level_there, none_below, first_of}
use Rattle.bx_clean.proofs.Given.{given_now}

-- the first page, in the place of both
abbrev pub kept_of : Node → Contents → Node
kept_of child page = record { handle = child.handle; begins = child.begins; page = page }

none_some : (block : Block) → ◌≡◌ {A = Option Block} None (Some block) → ⊥
none_some block e = absurd cc

module _ (areas : ℕ) (truth now : Truth) (root : ℕ) (tree : PageTree) (under : ℕ) (top child next : Node) (behind : List Node) (page : Contents) (block : Block)
    (is : IsTree (chunks_of areas truth) root tree) (one : HasOneChild tree under top child (next ∷ behind)) (may : MayReplace tree under child next page block)
    (gone : ChunkGone (chunks_of areas truth) (chunks_of areas now) child.handle next.handle block) (slots : KeepsSlots areas truth now) where
  within : under ≤ tree.height
  within = let h = one.height in omega (arith, h)

  level : IsLevel (chunks_of areas truth) under (child ∷ next ∷ behind)
  level = rw one.level at (is.levels under within)

  here : IsNode (chunks_of areas truth) under child
  here = level.nodes_are child (in_head child (next ∷ behind))

  there : IsNode (chunks_of areas truth) under next
  there = level.nodes_are next (in_tail next child (next ∷ behind) (in_head next behind))

  begins : child.begins ≡ []
  begins = (level.chain).0

  old_in : (m : Node) → IsIn m behind → IsIn m (child ∷ next ∷ behind)
  old_in m i = in_tail m child (next ∷ behind) (in_tail m next behind i)

  -- the other pages stay
  behind_stays : (m : Node) → IsIn m behind → chunks_of areas now m.handle ≡ chunks_of areas truth m.handle
  behind_stays m i = gone.others m.handle
      (apart_behind (chunks_of areas truth) under [] child (next ∷ behind) level m (in_tail m next behind i))
      (apart_behind (chunks_of areas truth) under (child ∷ []) next behind level m i)

  other_stays : (l : ℕ) → l ≤ tree.height → l ≢ under → (m : Node) → IsIn m (tree.level l) → chunks_of areas now m.handle ≡ chunks_of areas truth m.handle
  other_stays l le apart m i =
      let mm = (is.levels l le).nodes_are m i in
      gone.others m.handle (levels_apart (chunks_of areas truth) l under m child mm here apart) (levels_apart (chunks_of areas truth) l under m next mm there apart)

  -- the range of the page that is left
  highest : IfSome page.high (IsBelow child.begins)
  highest = by next.page.high may.high there.highest
    where
      above : IsBelow child.begins next.begins
      above = rw ((level.chain).1).0.high at here.highest

      by : (o : Option (List ℕ)) → page.high ≡ o → IfSome o (IsBelow next.begins) → IfSome page.high (IsBelow child.begins)
      by None e fits = rw e tt
      by (Some high) e fits = rw e (below_trans child.begins next.begins high above fits)

  kept_node : IsNode (chunks_of areas now) under (kept_of child page)
  kept_node = record {
    block = block;
    chunk = gone.here;
    has = may.has;
    same_level = may.level ∙ here.same_level;
    lowest = rw begins (λ k d less. none_below (get_or page.entries k d).key);
    highest = highest;
  }

  leads_now : (rest : List Node) → PagesLead next rest → PagesLead (kept_of child page) rest
  leads_now [] l = record { right = may.right ∙ l.right; high = may.high ∙ l.high }
  leads_now (x ∷ rest) l = (record { right = may.right ∙ l.0.right; high = may.high ∙ l.0.high }, l.1)

  level_now : IsLevel (chunks_of areas now) under (kept_of child page ∷ behind)
  level_now = record {
    nodes_are = λ m i. elim (in_cases m (kept_of child page) behind i) [
      | inl e ↦ subst (λ (n : Node). IsNode (chunks_of areas now) under n) (sym e) kept_node
      | inr j ↦ moved (chunks_of areas truth) (chunks_of areas now) under m (behind_stays m j) (level.nodes_are m (old_in m j))
    ];
    chain = (begins, leads_now behind ((level.chain).1).1);
  }

  inside : (below : ℕ) → under ≡ below + 1 → (m : Node) → IsIn m (kept_of child page ∷ behind) → IsInterior (tree.level below) m
  inside below e m i = elim (in_cases m (kept_of child page) behind i) [
    | inl q ↦ subst (λ (n : Node). IsInterior (tree.level below) n) (sym q) (may.interior below e)
    | inr j ↦ is.interior below (omega (arith, within, e)) m (subst (λ (ns : List Node). IsIn m ns) (sym (ap tree.level (sym e) ∙ one.level)) (old_in m j))
  ]

  -- the root's entry names the page that is left
  top_in : IsIn top (tree.level (under + 1))
  top_in = subst (λ (l : ℕ). IsIn top (tree.level l)) one.height (subst (λ (ns : List Node). IsIn top ns) (sym one.top_is) (in_head top []))

  inner : IsInterior (tree.level under) top
  inner = is.interior under (let h = one.height in omega (arith, h)) top top_in

  named : NamesChild (tree.level under) one.entry
  named = All-head (NamesChild (tree.level under)) one.entry [] (rw one.entries at inner.names)

  top_begins : top.begins ≡ []
  top_begins = (rw one.top_is at (is.levels tree.height (omega arith)).chain).0

  key_is : one.entry.key ≡ []
  key_is = let e : Some one.entry.key ≡ Some top.begins = rw one.entries at inner.first in let same : one.entry.key ≡ top.begins = cc in same ∙ top_begins

  child_is : named.child ≡ child
  child_is = first_of (chunks_of areas truth) under child (next ∷ behind) named.child level (subst (λ (ns : List Node). IsIn named.child ns) one.level named.there) (sym named.key ∙ key_is)

  names_now : NamesChild (kept_of child page ∷ behind) one.entry
  names_now = record {
    child = kept_of child page;
    there = in_head (kept_of child page) behind;
    eight = named.eight;
    value = named.value ∙ ap (λ (n : Node). n.handle) child_is;
    key = named.key ∙ ap (λ (n : Node). n.begins) child_is;
  }

  inner_now : IsInterior (kept_of child page ∷ behind) top
  inner_now = record {
    first = inner.first;
    names = rw one.entries (All-cons (NamesChild (kept_of child page ∷ behind)) one.entry [] names_now (λ k d less. elim less [ ]));
  }

  -- ---- the tree

  height_apart : tree.height ≢ under
  height_apart e = let h = one.height in absurd (omega (arith, h, e))

  top_level : IsLevel (chunks_of areas now) tree.height (tree.level tree.height)
  top_level =
      let o = is.levels tree.height (omega arith) in
      record { nodes_are = λ m i. moved (chunks_of areas truth) (chunks_of areas now) tree.height m (other_stays tree.height (omega arith) height_apart m i) (o.nodes_are m i); chain = o.chain }

  below_stays : (l : ℕ) → l < under → (m : Node) → IsIn m (tree.level l) → chunks_of areas now m.handle ≡ chunks_of areas truth m.handle
  below_stays l less m i = other_stays l (omega (arith, less, within)) (λ e. absurd (omega (arith, less, e))) m i

  level_of : (l : ℕ) → l ≤ tree.height → IsLevel (chunks_of areas now) l ((with_level tree under (kept_of child page ∷ behind)).level l)
  level_of l le = by (same_or l tree.height)
    where
      by : (l ≡ tree.height) ⊎ (l ≢ tree.height) → IsLevel (chunks_of areas now) l ((with_level tree under (kept_of child page ∷ behind)).level l)
      by (inl e) = subst (λ (n : ℕ). IsLevel (chunks_of areas now) n ((with_level tree under (kept_of child page ∷ behind)).level n)) (sym e)
          (subst (λ (ns : List Node). IsLevel (chunks_of areas now) tree.height ns) (sym (level_there tree under tree.height (kept_of child page ∷ behind) height_apart)) top_level)
      by (inr other) = levels_now (chunks_of areas truth) (chunks_of areas now) root tree under (kept_of child page ∷ behind) is within level_now below_stays inside l (let h = one.height in omega (arith, le, other, h))

  interior_of : (l : ℕ) → l < tree.height → (m : Node) → IsIn m ((with_level tree under (kept_of child page ∷ behind)).level (l + 1)) → IsInterior ((with_level tree under (kept_of child page ∷ behind)).level l) m
  interior_of l less m i = by (same_or l under)
    where
      top_is : (with_level tree under (kept_of child page ∷ behind)).level (under + 1) ≡ top ∷ []
      top_is = level_there tree under (under + 1) (kept_of child page ∷ behind) (λ e. absurd (omega (arith, e))) ∙ ap tree.level (sym one.height) ∙ one.top_is

      m_is : l ≡ under → m ≡ top
      m_is e = elim (in_cases m top [] (subst (λ (ns : List Node). IsIn m ns) top_is (subst (λ (n : ℕ). IsIn m ((with_level tree under (kept_of child page ∷ behind)).level (n + 1))) e i))) [
        | inl same ↦ same
        | inr j ↦ absurd (in_none m j)
      ]

      by : (l ≡ under) ⊎ (l ≢ under) → IsInterior ((with_level tree under (kept_of child page ∷ behind)).level l) m
      by (inl e) = subst (λ (n : ℕ). IsInterior ((with_level tree under (kept_of child page ∷ behind)).level n) m) (sym e)
          (subst (λ (ns : List Node). IsInterior ns m) (sym (level_here tree under (kept_of child page ∷ behind))) (subst (λ (n : Node). IsInterior (kept_of child page ∷ behind) n) (sym (m_is e)) inner_now))
      by (inr other) = inside_now (chunks_of areas truth) (chunks_of areas now) root tree under (kept_of child page ∷ behind) is within level_now below_stays inside l (let h = one.height in omega (arith, less, other, h)) m i

  is_now : IsTree (chunks_of areas now) root (with_level tree under (kept_of child page ∷ behind))
  is_now = record {
    levels = level_of;
    interior = interior_of;
    top = is.top;
    root_alone = level_there tree under tree.height (kept_of child page ∷ behind) height_apart ∙ is.root_alone;
    root_is = is.root_is;
  }

  map_same : map_of (with_level tree under (kept_of child page ∷ behind)) ≡ map_of tree
  map_same = by (same_or under 0)
    where
      by : (under ≡ 0) ⊎ (under ≢ 0) → map_of (with_level tree under (kept_of child page ∷ behind)) ≡ map_of tree
      by (inl e) =
          let leaf = may.leaf e in
          ap entries_of (ap (with_level tree under (kept_of child page ∷ behind)).level (sym e) ∙ level_here tree under (kept_of child page ∷ behind))
          ∙ ap (λ (es : List Entry). es ++ entries_of behind) leaf.1
          ∙ sym (ap (λ (es : List Entry). es ++ (next.page.entries ++ entries_of behind)) leaf.0)
          ∙ ap entries_of (sym (ap tree.level (sym e) ∙ one.level))
      by (inr other) = ap entries_of (level_there tree under 0 (kept_of child page ∷ behind) (λ e. other (sym e)))

  -- ---- its pages

  -- a page of the one tree is one of the other, at the same place
  abbrev IsThere : ℕ → Node → Type 0
  IsThere l m = (n : Node) × IsIn n (tree.level l) × (n.handle ≡ m.handle) × (n.begins ≡ m.begins)

  abbrev IsStill : ℕ → Node → Type 0
  IsStill l m = (n : Node) × IsIn n ((with_level tree under (kept_of child page ∷ behind)).level l) × (n.handle ≡ m.handle) × (n.begins ≡ m.begins)

  back_at : (l : ℕ) (m : Node) → IsIn m ((with_level tree under (kept_of child page ∷ behind)).level l) → IsThere l m
  back_at l m i = by (same_or l under)
    where
      old : (e : l ≡ under) (n : Node) → IsIn n (child ∷ next ∷ behind) → IsIn n (tree.level l)
      old e n j = subst (λ (ns : List Node). IsIn n ns) (sym (ap tree.level e ∙ one.level)) j

      by : (l ≡ under) ⊎ (l ≢ under) → IsThere l m
      by (inl e) = elim (in_cases m (kept_of child page) behind (subst (λ (ns : List Node). IsIn m ns) (ap (with_level tree under (kept_of child page ∷ behind)).level e ∙ level_here tree under (kept_of child page ∷ behind)) i)) [
        | inl q ↦ (child, old e child (in_head child (next ∷ behind)), ap (λ (n : Node). n.handle) (sym q), ap (λ (n : Node). n.begins) (sym q))
        | inr j ↦ (m, old e m (old_in m j), refl, refl)
      ]
      by (inr other) = (m, subst (λ (ns : List Node). IsIn m ns) (level_there tree under l (kept_of child page ∷ behind) other) i, refl, refl)

  forth_at : (l : ℕ) (m : Node) → IsIn m (tree.level l) → m.handle ≢ next.handle → IsStill l m
  forth_at l m i apart = by (same_or l under)
    where
      new : (e : l ≡ under) (n : Node) → IsIn n (kept_of child page ∷ behind) → IsIn n ((with_level tree under (kept_of child page ∷ behind)).level l)
      new e n j = subst (λ (ns : List Node). IsIn n ns) (sym (ap (with_level tree under (kept_of child page ∷ behind)).level e ∙ level_here tree under (kept_of child page ∷ behind))) j

      by : (l ≡ under) ⊎ (l ≢ under) → IsStill l m
      by (inl e) = elim (in_cases m child (next ∷ behind) (subst (λ (ns : List Node). IsIn m ns) (ap tree.level e ∙ one.level) i)) [
        | inl q ↦ (kept_of child page, new e (kept_of child page) (in_head (kept_of child page) behind), ap (λ (n : Node). n.handle) (sym q), ap (λ (n : Node). n.begins) (sym q))
        | inr j ↦ elim (in_cases m next behind j) [
          | inl q ↦ absurd (apart (ap (λ (n : Node). n.handle) q))
          | inr k ↦ (m, new e m (in_tail m (kept_of child page) behind k), refl, refl)
        ]
      ]
      by (inr other) = (m, subst (λ (ns : List Node). IsIn m ns) (sym (level_there tree under l (kept_of child page ∷ behind) other)) i, refl, refl)

  not_gone : (h : ℕ) (b : Block) → chunks_of areas now h ≡ Some b → h ≢ next.handle
  not_gone h b some e = none_some b (sym gone.none ∙ ap (chunks_of areas now) (sym e) ∙ some)

  used : (h : ℕ) (b : Block) → chunks_of areas now h ≡ Some b → (c : Block) × (chunks_of areas truth h ≡ Some c)
  used h b some = by (same_or h child.handle)
    where
      by : (h ≡ child.handle) ⊎ (h ≢ child.handle) → (c : Block) × (chunks_of areas truth h ≡ Some c)
      by (inl e) = (here.block, ap (chunks_of areas truth) e ∙ here.chunk)
      by (inr other) = (b, sym (gone.others h other (not_gone h b some)) ∙ some)

  fits : (hints : Hints) → HintsFit areas hints truth root tree → HintsFit areas hints now root (with_level tree under (kept_of child page ∷ behind))
  fits hints f = record {
    agree = record {
      home = f.agree.home;
      names = f.agree.names;
      root_apart = f.agree.root_apart;
      most = f.agree.most;
      highest = f.agree.highest;
      placed = λ l m less i.
          let n = back_at l m i in
          subst (λ (k : ℕ). f.agree.home k ≡ Some (record { level = l; begins = m.begins })) n.2
          (subst (λ (b : List ℕ). f.agree.home (n.0).handle ≡ Some (record { level = l; begins = b })) n.3 (f.agree.placed l n.0 less n.1));
      stands = λ h place b home_is some.
          let c = used h b some in
          let s = f.agree.stands h place c.0 home_is c.1 in
          let n = forth_at place.level s.node s.there (λ e. not_gone h b some (sym s.handle_is ∙ e)) in
          record { node = n.0; within = s.within; there = n.1; handle_is = n.2 ∙ s.handle_is; begins_is = n.3 ∙ s.begins_is };
      hints = f.agree.hints;
      root_hints = f.agree.root_hints;
    };
    given = record {
      homes = λ h place home_is. given_now areas truth now slots h (f.given.homes h place home_is);
      hints = λ h b hint header name. given_now areas truth now slots h (f.given.hints h b hint header name);
    };
  }

  pub absorbed : ShrinksTree areas truth now root tree (with_level tree under (kept_of child page ∷ behind))
  absorbed = record {
    is = is_now;
    map_is = map_same;
    back = λ m p. let n = back_at p.level m p.there in (n.0, record { level = p.level; within = p.within; there = n.1 }, n.2);
    forth = λ m p some.
        let c = some_there (chunks_of areas now m.handle) some in
        let n = forth_at p.level m p.there (not_gone m.handle c.0 c.1) in
        (n.0, record { level = p.level; within = p.within; there = n.1 }, n.2);
    others = λ h apart. gone.others h
        (λ e. apart child (record { level = under; within = within; there = subst (λ (ns : List Node). IsIn child ns) (sym one.level) (in_head child (next ∷ behind)) }) (sym e))
        (λ e. apart next (record { level = under; within = within; there = subst (λ (ns : List Node). IsIn next ns) (sym one.level) (in_tail next child (next ∷ behind) (in_head next behind)) }) (sym e));
    used = λ h b some none. let c = used h b some in none_some c.0 (sym none ∙ c.1);
    slots = slots;
    leads = fits;
  }
