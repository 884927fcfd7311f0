-- A key is in the range of one page of a level.
use Rattle.std.proofs.Common.{◌≡◌, ℕ, true, false, List, [], ◌∷◌, ◌++◌, sym, ap, ◌∙◌, subst, arith, inl, inr}
use Rattle.std.specs.Prelude.{◌+◌, ◌-◌, IfSome}
use Rattle.std.specs.List.{AllByRecursion}
use Rattle.std.proofs.lemmas.List.{append_assoc}
use Rattle.bx_blink.specs.Places.{IsPlaceOf}
use Rattle.bx_blink.proofs.Chains.{Covers, IsRange, all_before, leads_in, ranges_at}
use Rattle.bx_blink.proofs.Places.{range_of, ranges_of}
use Rattle.bx_leaves.proofs.Members.{in_split}
use Rattle.bx_page.proofs.Order.{below_trans}
use Rattle.bx_page.specs.Contents.{Contents}
use Rattle.bx_page.specs.Keys.{IsBelow, is_below}
use Rattle.bx_truth.specs.PageTrees.{Chunks, IsChain, IsIn, IsTree, PagesLead, Node, PageTree}
use Rattle.bx_truth.proofs.OneTree.{same_height, same_levels}
use Rattle.bx_ready.specs.Ready.{IsReady}
use Rattle.bx_ready.specs.Separators.{HasSeparators}

-- a key in the range of a page is below where the range of each later one begins
below_later : (x : Node) (between : List Node) (node : Node) (behind : List Node) (key : List ℕ) → PagesLead x (between ++ node ∷ behind) → AllByRecursion IsRange (x ∷ (between ++ node ∷ behind))
    → IfSome x.page.high (IsBelow key) → IsBelow key node.begins
below_later x [] node behind key leads ranges to = rw leads.0.high at to
below_later x (y ∷ ys) node behind key leads ranges to =
    let first : IsBelow key y.begins = rw leads.0.high at to in
    below_trans key y.begins node.begins first (all_before y ys node behind leads.1 ranges.1).begins

not_later : (front : List Node) (x : Node) (between : List Node) (node : Node) (behind : List Node) (key : List ℕ) → IsChain (front ++ x ∷ (between ++ node ∷ behind))
    → AllByRecursion IsRange (front ++ x ∷ (between ++ node ∷ behind)) → Covers x key → Covers node key → ⊥
not_later front x between node behind key chain ranges covers later =
    let less : is_below key node.begins ≡ true = below_later x between node behind key (leads_in front x (between ++ node ∷ behind) chain) (ranges_at front x (between ++ node ∷ behind) ranges) covers.to in
    let both : true ≡ false = sym less ∙ later.from in
    absurd cc

one_node : (nodes : List Node) (a b : Node) (key : List ℕ) → IsChain nodes → AllByRecursion IsRange nodes → IsIn a nodes → IsIn b nodes → Covers a key → Covers b key → b ≡ a
one_node nodes a b key chain ranges ia ib ca cb = elim (in_split b a ia.before ia.behind (subst (IsIn b) ia.parts ib)) [
  | inl e ↦ e
  | inr (inl i) ↦
      let parts : nodes ≡ i.before ++ b ∷ (i.behind ++ a ∷ ia.behind) = ia.parts ∙ ap (λ (l : List Node). l ++ a ∷ ia.behind) i.parts ∙ append_assoc i.before (b ∷ i.behind) (a ∷ ia.behind) in
      absurd (not_later i.before b i.behind a ia.behind key (subst IsChain parts chain) (subst (AllByRecursion IsRange) parts ranges) cb ca)
  | inr (inr i) ↦
      let parts : nodes ≡ ia.before ++ a ∷ (i.before ++ b ∷ i.behind) = ia.parts ∙ ap (λ (l : List Node). ia.before ++ a ∷ l) i.parts in
      absurd (not_later ia.before a i.before b i.behind key (subst IsChain parts chain) (subst (AllByRecursion IsRange) parts ranges) ca cb)
]

module _ (chunks : Chunks) (root : ℕ) where
  pub one_place : (tree : PageTree) (level : ℕ) (key : List ℕ) (h k : ℕ) (p q : Contents) → IsTree chunks root tree → IsPlaceOf tree level key h p → IsPlaceOf tree level key k q → (k ≡ h) × (q ≡ p)
  one_place tree level key h k p q is a b =
      let l = is.levels level a.within in
      let ranges = ranges_of (tree.level level) (λ n i. range_of chunks level n (l.nodes_are n i)) in
      let same = one_node (tree.level level) a.node b.node key l.chain ranges a.there b.there (record { from = a.from; to = a.to }) (record { from = b.from; to = b.to }) in
      (sym b.handle_is ∙ ap (λ (n : Node). n.handle) same ∙ a.handle_is, sym b.page_is ∙ ap (λ (n : Node). n.page) same ∙ a.page_is)

  -- What holds in one tree holds in each other that the same chunks hold: where a key is on a level,
  pub place_on : (tree other : PageTree) (level : ℕ) (key : List ℕ) (handle : ℕ) (page : Contents) → IsTree chunks root tree → IsTree chunks root other → IsPlaceOf tree level key handle page → IsPlaceOf other level key handle page
  place_on tree other level key handle page is_tree is_other p =
      let within = p.within in
      record {
        node = p.node;
        within = omega (arith, within, same_height chunks root tree other is_tree is_other);
        there = subst (IsIn p.node) (same_levels chunks root tree other is_tree is_other (tree.height - level) level (omega (arith, within))) p.there;
        handle_is = p.handle_is;
        page_is = p.page_is;
        from = p.from;
        to = p.to;
      }

  pub place_in : (tree other : PageTree) (key : List ℕ) (handle : ℕ) (page : Contents) → IsTree chunks root tree → IsTree chunks root other → IsPlaceOf tree 0 key handle page → IsPlaceOf other 0 key handle page
  place_in tree other key handle page is_tree is_other p = place_on tree other 0 key handle page is_tree is_other p

  -- that no separator above it is missing,
  has_in : (tree other : PageTree) (key : List ℕ) → IsTree chunks root tree → IsTree chunks root other → HasSeparators tree key → HasSeparators other key
  has_in tree other key is_tree is_other has = λ level below.
      let s = has level (omega (arith, below, same_height chunks root tree other is_tree is_other)) in
      record {
        handle = s.handle;
        page = s.page;
        named = record {
          parent = s.named.parent;
          page = s.named.page;
          above = place_on tree other (level + 1) key s.named.parent s.named.page is_tree is_other s.named.above;
          names = s.named.names;
        };
        place = place_on tree other level key s.handle s.page is_tree is_other s.place;
      }

  -- and that an entry finds room there.
  pub ready_in : (tree other : PageTree) (key : List ℕ) → IsTree chunks root tree → IsTree chunks root other → IsReady tree key → IsReady other key
  ready_in tree other key is_tree is_other ready =
      let r = ready.room in
      record {
        posted = has_in tree other key is_tree is_other ready.posted;
        room = record { handle = r.handle; page = r.page; place = place_in tree other key r.handle r.page is_tree is_other r.place; room = r.room };
      }
