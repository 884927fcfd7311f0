-- From a hinted page a walk goes to a page that is or was in the tree.
use Rattle.std.proofs.Common.{◌≡◌, ℕ, ◌-◌, ◌<◌, ◌≤◌, Bool, true, false, eqb, List, Some, refl, arith, inl, inr}
use Rattle.std.specs.Prelude.{◌⊎◌}
use Rattle.std.proofs.lemmas.Bool.{cases_lt, ne_eqb}
use Rattle.bx_base.specs.declared.names.Mode.{Mode}
use Rattle.bx_page.specs.Keys.{is_below, IsBelow}
use Rattle.bx_page.specs.Contents.{Contents, last}
use Rattle.bx_blink.specs.declared.steps.Spot.{Spot}
use Rattle.bx_truth.specs.PageTrees.{Chunks, IsLast, PageTree}
use Rattle.bx_blink.specs.Walks.{Reads, passes, child_of, mode_at, onward}
use Rattle.bx_truth.specs.Chunks.{block_at}
use Rattle.bx_blink.specs.Hints.{LeadsDown, LeadsRight, IsOld, HintsAgree}
use Rattle.bx_blink.proofs.Keys.{le_le}
use Rattle.bx_blink.proofs.Last.{last_up_to}
use Rattle.bx_blink.proofs.OnWay.{old, Behind, lower, further, IsOnWay, After}
use Rattle.bx_blink.proofs.Handles.{passed, passes_last, child_home}
use Rattle.bx_blink.proofs.Homes.{not_home}

module _ (areas : ℕ) (reads : Reads) (chunks : Chunks) (root : ℕ) (tree : PageTree) (target : ℕ) (asked : Mode) (key : List ℕ) (hints : HintsAgree areas reads.hint chunks root tree) where
  right_behind : (level : ℕ) (begins : List ℕ) (page : Contents) (high : List ℕ) → page.level ≤ level → IsBelow begins high → Behind (record { level = level; begins = begins }) page.level high
  right_behind level begins page high le above = elim (cases_lt page.level level) [ inl lt ↦ lower lt | inr ge ↦ further (omega arith) above ]

  -- from a hinted page a walk goes to a page that is or was in the tree
  pub from_hint : (spot : Spot) (level : ℕ) (begins : List ℕ) (page : Contents) → page.level ≤ level → target < page.level → IsOld hints.home begins page → is_below key begins ≡ false
      → (p : Bool) → passes page key ≡ p → After hints.home root hints.most tree target key (record { level = level; begins = begins }) (onward target asked key spot (Some (block_at spot.handle)) page)
  from_hint spot level begins page most_level above o from true goes = rw goes (by_right o.right)
    where
      by_right : IsLast page ⊎ LeadsRight hints.home page begins → IsOnWay hints.home root hints.most tree target key (Some (record { level = level; begins = begins })) (record { handle = page.right; via = Some (block_at spot.handle); mode = mode_at target asked page.level })
      by_right (inl last) = absurd (passes_last page key last goes)
      by_right (inr r) = record {
        level = page.level;
        begins = r.high;
        enough = omega arith;
        from = passed page key r.high r.high_is goes;
        onto = old (block_at spot.handle) refl r.home_is;
        rank = page.level;
        ranked = omega arith;
        rooted = λ e. absurd (not_home areas reads chunks root tree hints page.right (record { level = page.level; begins = r.high }) r.home_is e);
        since = (right_behind level begins page r.high most_level r.above, r.home_is, refl);
      }
  from_hint spot level begins page most_level above o from false stays =
      let other : eqb page.level target ≡ false = ne_eqb page.level target (λ e. omega arith) in
      let entry = last_up_to (LeadsDown hints.home page.level) key begins page.entries o.down o.first from in
      let lead = entry.has in
      let homed = child_home hints.home page key entry.entry lead.handle (record { level = page.level - 1; begins = lead.begins }) entry.is lead.eight lead.value lead.home_is in
      rw (stays, other) (record {
        level = page.level - 1;
        begins = lead.begins;
        enough = omega arith;
        from = le_le lead.begins (entry.entry).key key lead.key entry.up_to_key;
        onto = old (block_at spot.handle) refl homed;
        rank = page.level - 1;
        ranked = omega arith;
        rooted = λ e. absurd (not_home areas reads chunks root tree hints (child_of page key) (record { level = page.level - 1; begins = lead.begins }) homed e);
        since = (lower (omega arith), homed, refl);
      })
