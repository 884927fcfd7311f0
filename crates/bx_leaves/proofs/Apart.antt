-- Two places in a tree have different handles.
use Rattle.std.proofs.Common.{◌≡◌, ℕ, true, false, List, [], ◌∷◌, ◌++◌, Some, sym, ap, subst, ◌∙◌}
use Rattle.std.specs.List.{AllByRecursion}
use Rattle.bx_layout.specs.declared.block.Block.{Block}
use Rattle.bx_page.specs.Keys.{is_below, IsBelow}
use Rattle.bx_page.specs.Contents.{Contents}
use Rattle.bx_page.proofs.Order.{not_below_itself}
use Rattle.bx_page.proofs.Whole.{one_page}
use Rattle.bx_blink.specs.bx_truth.specs.PageTrees.{Chunks, Node, HasPage, IsNode, PagesLead}
use Rattle.bx_blink.proofs.Keys.{lt_not}
use Rattle.bx_blink.proofs.Chains.{IsRange, all_before}

-- pages with one handle are one page
pub same_page : (chunks : Chunks) (k l : ℕ) (m n : Node) → IsNode chunks k m → IsNode chunks l n → m.handle ≡ n.handle → m.page ≡ n.page
same_page chunks k l m n mm nn same =
    let both : Some mm.block ≡ Some nn.block = sym mm.chunk ∙ ap chunks same ∙ nn.chunk in
    let blocks : mm.block ≡ nn.block = cc in
    one_page m.page n.page (nn.block).payload (subst (λ (b : Block). HasPage m.page b) blocks mm.has).spells (nn.has).spells

-- the high key of an earlier page isn't above where a later one begins
high_before : (x : Node) (between : List Node) (y : Node) (behind : List Node) → PagesLead x (between ++ y ∷ behind) → AllByRecursion IsRange (x ∷ (between ++ y ∷ behind))
    → (high : List ℕ) × (x.page.high ≡ Some high) × (is_below y.begins high ≡ false)
high_before x [] y behind leads ranges = (y.begins, leads.0.high, not_below_itself y.begins)
high_before x (z ∷ zs) y behind leads ranges = (z.begins, leads.0.high, lt_not z.begins y.begins (all_before z zs y behind leads.1 ranges.1).begins)

ranges_there : (between : List Node) (y : Node) (behind : List Node) → AllByRecursion IsRange (between ++ y ∷ behind) → IsRange y
ranges_there [] y behind r = r.0
ranges_there (z ∷ zs) y behind r = ranges_there zs y behind r.1

pub later_differs : (x : Node) (between : List Node) (y : Node) (behind : List Node) → PagesLead x (between ++ y ∷ behind) → AllByRecursion IsRange (x ∷ (between ++ y ∷ behind)) → x.page ≡ y.page → ⊥
later_differs x between y behind leads ranges same =
    let h = high_before x between y behind leads ranges in
    let high_is : y.page.high ≡ Some h.0 = ap (λ (p : Contents). p.high) (sym same) ∙ h.1 in
    let above : IsBelow y.begins h.0 = rw high_is at (ranges_there between y behind ranges.1).highest in
    let no_way : false ≡ true = sym h.2 ∙ above in
    absurd cc
