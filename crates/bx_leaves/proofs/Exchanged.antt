-- A level in which one page is replaced by one with the same links; and two pages of a level have different handles.
use Rattle.std.proofs.Common.{◌≡◌, ℕ, List, [], ◌∷◌, ◌++◌, sym, ap, ◌∙◌, inl, inr}
use Rattle.std.specs.List.{AllByRecursion}
use Rattle.std.proofs.lemmas.List.{append_assoc}
use Rattle.bx_layout.specs.declared.block.Block.{Block}
use Rattle.bx_page.specs.declared.entry.Entry.{Entry}
use Rattle.bx_page.specs.Contents.{Contents}
use Rattle.bx_blink.specs.bx_truth.specs.Edits.{ChunkAnew}
use Rattle.bx_blink.specs.bx_truth.specs.PageTrees.{Chunks, Node, IsIn, IsNode, PagesLead, IsChain, IsLevel, NamesChild}
use Rattle.bx_blink.proofs.Chains.{IsRange, leads_in, ranges_at}
use Rattle.bx_blink.proofs.Places.{range_of, ranges_of}
use Rattle.bx_leaves.proofs.Apart.{same_page, later_differs}
use Rattle.bx_leaves.proofs.Members.{in_left, in_right, in_split, in_middle}

-- another page in the place of this one
abbrev pub with_page : Node → Contents → Node
with_page node page = record { handle = node.handle; begins = node.begins; page = page }

-- a node whose chunk stays
pub stays : (chunks chunks' : Chunks) (handle : ℕ) (block : Block) (level : ℕ) (m : Node) → ChunkAnew chunks chunks' handle block → (m.handle ≡ handle → ⊥) → IsNode chunks level m → IsNode chunks' level m
stays chunks chunks' handle block level m w apart n =
    record { block = n.block; chunk = w.others m.handle apart ∙ n.chunk; has = n.has; same_level = n.same_level; lowest = n.lowest; highest = n.highest }

-- lists in which one page is replaced

module _ (node : Node) (page : Contents) (right : page.right ≡ node.page.right) (high : page.high ≡ node.page.high) where
  head_leads : (behind : List Node) → PagesLead node behind → PagesLead (with_page node page) behind
  head_leads [] l = record { right = right ∙ l.right; high = high ∙ l.high }
  head_leads (next ∷ more) l = (record { right = right ∙ l.0.right; high = high ∙ l.0.high }, l.1)

  leads_with : (x : Node) (before behind : List Node) → PagesLead x (before ++ node ∷ behind) → PagesLead x (before ++ with_page node page ∷ behind)
  leads_with x [] behind l = (record { right = l.0.right; high = l.0.high }, head_leads behind l.1)
  leads_with x (y ∷ ys) behind l = (l.0, leads_with y ys behind l.1)

  pub chain_with : (before behind : List Node) → IsChain (before ++ node ∷ behind) → IsChain (before ++ with_page node page ∷ behind)
  chain_with [] behind c = (c.0, head_leads behind c.1)
  chain_with (x ∷ before) behind c = (c.0, leads_with x before behind c.1)

  pub names_with : (before behind : List Node) (entry : Entry) → NamesChild (before ++ node ∷ behind) entry → NamesChild (before ++ with_page node page ∷ behind) entry
  names_with before behind entry n = elim (in_split n.child node before behind n.there) [
    | inl e ↦ record { child = with_page node page; there = in_middle (with_page node page) before behind; eight = n.eight; value = n.value ∙ ap (λ (m : Node). m.handle) e; key = n.key ∙ ap (λ (m : Node). m.begins) e }
    | inr (inl b) ↦ record { child = n.child; there = in_left n.child before (with_page node page ∷ behind) b; eight = n.eight; value = n.value; key = n.key }
    | inr (inr b) ↦ record { child = n.child; there = in_right n.child before (with_page node page ∷ behind) (in_right n.child (with_page node page ∷ []) behind b); eight = n.eight; value = n.value; key = n.key }
  ]

-- two pages of a level have different handles

module _ (chunks : Chunks) (level : ℕ) (before : List Node) (node : Node) (behind : List Node) (l : IsLevel chunks level (before ++ node ∷ behind)) where
  ranges : AllByRecursion IsRange (before ++ node ∷ behind)
  ranges = ranges_of (before ++ node ∷ behind) (λ n i. range_of chunks level n (l.nodes_are n i))

  here : IsNode chunks level node
  here = l.nodes_are node (in_middle node before behind)

  pub apart_before : (m : Node) → IsIn m before → m.handle ≡ node.handle → ⊥
  apart_before m i same =
      let there : IsIn m (before ++ node ∷ behind) = in_left m before (node ∷ behind) i in
      let parts : before ++ node ∷ behind ≡ i.before ++ m ∷ (i.behind ++ node ∷ behind) = ap (λ (ns : List Node). ns ++ node ∷ behind) i.parts ∙ append_assoc i.before (m ∷ i.behind) (node ∷ behind) in
      later_differs m i.behind node behind (leads_in i.before m (i.behind ++ node ∷ behind) (rw parts at l.chain)) (ranges_at i.before m (i.behind ++ node ∷ behind) (rw parts at ranges))
      (same_page chunks level level m node (l.nodes_are m there) here same)

  pub apart_behind : (m : Node) → IsIn m behind → m.handle ≡ node.handle → ⊥
  apart_behind m i same =
      let there : IsIn m (before ++ node ∷ behind) = in_right m before (node ∷ behind) (in_right m (node ∷ []) behind i) in
      later_differs node i.before m i.behind (rw i.parts at (leads_in before node behind l.chain)) (rw i.parts at (ranges_at before node behind ranges))
      (same_page chunks level level node m here (l.nodes_are m there) (sym same))
