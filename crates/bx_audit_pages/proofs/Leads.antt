-- Where pages lead.
use Rattle.std.proofs.Common.{◌≡◌, ℕ, ◌<◌, arith, List, [], ◌∷◌, ◌++◌, length, sym, subst, refl, Some, ◌∙◌}
use Rattle.std.specs.Prelude.{Contains}
use Rattle.std.proofs.lemmas.List.Elements.{All-push}
use Rattle.bx_page.specs.declared.entry.Entry.{Entry}
use Rattle.bx_page.specs.Contents.{Contents}
use Rattle.bx_truth.specs.PageTrees.{Chunks, Node, IsIn, IsLevel}
use Rattle.bx_audit_pages.specs.Leading.{AreLedTo, IsLedTo, Itself, Right, Below}
use Rattle.bx_audit_pages.specs.Pages.{IsPageAt, LeadsTo}
use Rattle.bx_audit_pages.specs.Trees.{NamesFirst}
use Rattle.bx_audit_pages.proofs.NodeLists.{all_in, in_all}
use Rattle.bx_audit_pages.proofs.Walk.{here}

-- a root leads to itself
pub itself_led : (chunks : Chunks) (root : ℕ) → IsLedTo chunks root root
itself_led chunks root = Itself

pub none_led : (chunks : Chunks) (root : ℕ) (nodes : List Node) → nodes ≡ [] → AreLedTo chunks root nodes
none_led chunks root nodes none = subst (AreLedTo chunks root) (sym none) (λ k d less. absurd (omega (arith, less)))

-- what is led to leads on
pub led_on : (chunks : Chunks) (root first handle : ℕ) → IsLedTo chunks root first → IsLedTo chunks first handle → IsLedTo chunks root handle
led_on chunks root first _ to Itself = to
led_on chunks root first _ to (Right at page led is some) = Right at page (led_on chunks root first at to led) is some
led_on chunks root first _ to (Below at page entry led is there eight) = Below at page entry (led_on chunks root first at to led) is there eight

pub all_led_on : (chunks : Chunks) (root first : ℕ) (nodes : List Node) → IsLedTo chunks root first → AreLedTo chunks first nodes → AreLedTo chunks root nodes
all_led_on chunks root first nodes to led =
    in_all (λ (n : Node). IsLedTo chunks root n.handle) nodes (λ node there. led_on chunks root first node.handle to (all_in (λ (n : Node). IsLedTo chunks first n.handle) nodes led node there))

-- a page that is led to leads to its right neighbour
pub right_led : (chunks : Chunks) (root handle right : ℕ) (high : List ℕ) (page : Contents) → IsLedTo chunks root handle → IsPageAt chunks handle page → LeadsTo page (Some (right, high)) → IsLedTo chunks root right
right_led chunks root handle right high page led is leads = subst (IsLedTo chunks root) leads.0 (Right handle page led is (λ zero. leads.2 (sym leads.0 ∙ zero)))

-- and one more is led to
pub push_led : (chunks : Chunks) (root : ℕ) (nodes : List Node) (node : Node) → AreLedTo chunks root nodes → IsLedTo chunks root node.handle → AreLedTo chunks root (nodes ++ node ∷ [])
push_led chunks root nodes node led one = All-push (λ (n : Node). IsLedTo chunks root n.handle) nodes node led one

-- the first pages of a level lead to the first one below
pub first_led : (chunks : Chunks) (root level first : ℕ) (above : List Node) → IsLevel chunks level above → AreLedTo chunks root above → NamesFirst above first → IsLedTo chunks root first
first_led chunks root level first above is led names =
    let there : IsIn names.head above = subst (IsIn names.head) (sym names.parts) (here names.head names.rest) in
    let node = is.nodes_are names.head there in
    subst (IsLedTo chunks root) names.first.handle_is
    (Below names.head.handle names.head.page names.first.entry (all_in (λ (n : Node). IsLedTo chunks root n.handle) above led names.head there)
    record { block = node.block; chunk = node.chunk; has = node.has }
    (subst (λ (l : List Entry). Contains l names.first.entry) (sym names.first.parts) (first_there names.first.entry names.first.others)) names.first.eight)
  where
    first_there : (x : Entry) (xs : List Entry) → Contains (x ∷ xs) x
    first_there x xs = (0, omega arith, refl)

-- a level has a page
pub level_some : (chunks : Chunks) (level : ℕ) (nodes : List Node) → IsLevel chunks level nodes → 0 < length nodes
level_some chunks level [] is = absurd is.chain
level_some chunks level (x ∷ xs) is = omega arith

-- the blocks of a list that only the root is in
pub alone_led : (chunks : Chunks) (root : ℕ) (nodes : List Node) (node : Node) → nodes ≡ node ∷ [] → node.handle ≡ root → AreLedTo chunks root nodes
alone_led chunks root nodes node alone is =
    subst (AreLedTo chunks root) (sym alone) (All-push (λ (n : Node). IsLedTo chunks root n.handle) [] node (λ k d less. absurd (omega (arith, less))) (subst (IsLedTo chunks root) (sym is) Itself))
