-- What a node whose lease is valid knows of the blocks that it holds.
use Rattle.std.proofs.Common.{◌≡◌, ◌≢◌, inl, inr, ℕ, ◌+◌, ◌≤◌, Bool, true, false, eqb, Contains, Option, Some, None, refl, sym, ◌∙◌, ap, subst, arith}
use Rattle.std.specs.Prelude.{◌==◌, max, if◌then◌else◌}
use Rattle.std.proofs.lemmas.Bool.Decides.{nat_tests}
use Rattle.bx_base.specs.declared.names.Mode.TheVariants.{Shared, Exclusive}
use Rattle.bx_facts.specs.Chains.{Chain, HasRow, LivesIn, last, oldest, opened_at}
use Rattle.bx_facts.specs.Holds.{Hold, Holds, KeepsOthers, OwnersPast, given_floor, is_exclusive, leased, raised}
use Rattle.bx_facts.proofs.Lists.{front}
use Rattle.bx_facts.specs.declared.owners.Owners as owners
use Rattle.bx_rows.specs.Words.{row_in}
use Rattle.bx_rows.specs.declared.session.SessionRow.{SessionRow}
use Rattle.bx_world_standing.specs.Rights.{HasBlock, IsReached}

-- A session whose lease is valid at a reading lives in the last state.
pub lease_lives : {O : Type 0} (o : owners.Ghosts O) (one : O) (past : OwnersPast) (node session end reading : ℕ)
    → ((past : OwnersPast) (node session end : ℕ) → o.keeps one past → o.own one node ≡ Some session → o.end_of one node ≡ Some end → o.keeps one (leased past session end))
    → ((past : OwnersPast) (session end : ℕ) → o.keeps one past → Contains past.leases (session, end) → past.told.greatest ≤ end + 500 → LivesIn (last past.told.chain) session)
    → o.keeps one past → o.own one node ≡ Some session → o.end_of one node ≡ Some end → past.told.greatest ≤ reading + 500 → reading ≤ end → LivesIn (last past.told.chain) session
lease_lives o one past node session end reading leases lives keeps own is steady valid =
    lives (leased past session end) session end (leases past node session end keeps own is) (front (session, end) past.leases) (omega (arith, steady, valid))

-- an exclusive hold has the index of its grant
pub exclusive_is : (hold : Option Hold) → is_exclusive hold ≡ true → (index : ℕ) × (hold ≡ Some (Exclusive, index))
exclusive_is None is = absurd cc
exclusive_is (Some (Shared, index)) is = absurd cc
exclusive_is (Some (Exclusive, index)) is = (index, refl)

module _ (devices areas : ℕ) (chain : Chain) (IsOf : ℕ → SessionRow → Type 0) (knew : ℕ → ℕ) (node session : ℕ) (its : SessionRow) (is_row : row_in (last chain).sessions session ≡ Some its) (lives : its.dead ≡ 0) (is_of : IsOf node its) where
  -- What stands in the home of a block was written by nobody who knew more than a node does that holds the block, and knows its grant's index and
  -- its session's row.
  pub read_knows : (holding : Holds) (floor : ℕ → ℕ) (at index : ℕ) (hold : Hold) → holding session at ≡ Some hold → hold.1 ≤ knew node → opened_at chain session ≤ knew node
      → floor at ≤ max hold.1 (opened_at chain session)
      → ((other : ℕ) (other_hold : Hold) → HasRow (last chain) other → other ≢ session → holding other at ≡ Some other_hold → other_hold.0 ≡ Shared)
      → ((other : ℕ) → HasRow (last chain) other → oldest chain ≤ other)
      → IsReached devices areas chain holding floor IsOf knew at index → index ≤ knew node
  read_knows holding floor at index hold holds known opened reaches apart alone (inl low) = omega (arith, low, reaches, known, opened)
  read_knows holding floor at index hold holds known opened reaches apart alone (inr (other, row, has, told)) = by_test (eqb other session) refl
    where
      by_has : other ≢ session → HasBlock holding (oldest chain) other at → ⊥
      by_has ne (inl exclusive) =
          let held = exclusive_is (holding other at) exclusive in
          let shared = apart other (Exclusive, held.0) row ne held.1 in
          let wrong : Exclusive ≡ Shared = shared in cc
      by_has ne (inr older) = let least = alone other row in omega (arith, older, least)

      by_test : (b : Bool) → eqb other session ≡ b → index ≤ knew node
      by_test true same =
          let e : other ≡ session = grind (arith, nat_tests, same) in
          told node its (ap (λ (n : ℕ). row_in (last chain).sessions n) e ∙ is_row) lives is_of
      by_test false differ = absurd (by_has (λ e. grind (arith, nat_tests, differ, e)) has)

  raised_least : (floor : ℕ → ℕ) (block index at : ℕ) → floor at ≤ raised floor block index at
  raised_least floor block index at = by (at == block)
    where
      by : (b : Bool) → floor at ≤ (if b then max (floor at) index else floor at)
      by true = omega arith
      by false = omega arith

  raised_here : (floor : ℕ → ℕ) (block index at : ℕ) → at ≡ block → index ≤ raised floor block index at
  raised_here floor block index at e = let t : (at == block) ≡ true = grind (arith, nat_tests, e) in
      subst (λ (b : Bool). index ≤ (if b then max (floor at) index else floor at)) (sym t) (omega arith)

  given_least : (hold : Option Hold) (floor : ℕ → ℕ) (block index at : ℕ) → floor at ≤ given_floor hold floor block index at
  given_least None floor block index at = omega arith
  given_least (Some (Shared, from)) floor block index at = omega arith
  given_least (Some (Exclusive, from)) floor block index at = raised_least floor block index at

  given_here : (hold : Option Hold) (floor : ℕ → ℕ) (block index at : ℕ) → is_exclusive hold ≡ true → at ≡ block → index ≤ given_floor hold floor block index at
  given_here None floor block index at is e = absurd cc
  given_here (Some (Shared, from)) floor block index at is e = absurd cc
  given_here (Some (Exclusive, from)) floor block index at is e = raised_here floor block index at e

  exclusive_stays : (old new : Holds) (other at : ℕ) → ((hold : Hold) → old other at ≡ Some hold → new other at ≡ Some hold) → is_exclusive (old other at) ≡ true → is_exclusive (new other at) ≡ true
  exclusive_stays old new other at stays is =
      let held = exclusive_is (old other at) is in
      ap (λ (h : Option Hold). is_exclusive h) (stays (Exclusive, held.0) held.1)

  -- A block is given up at what the node knows: whoever gets any block afterwards still reaches what was written.
  pub given_up : (old new : Holds) (floor : ℕ → ℕ) (block : ℕ) → KeepsOthers session block old new
      → (at index : ℕ) → IsReached devices areas chain old floor IsOf knew at index → IsReached devices areas chain new (given_floor (old session block) floor block (knew node)) IsOf knew at index
  given_up old new floor block keeps at index (inl low) = inl (let more = given_least (old session block) floor block (knew node) at in omega (arith, low, more))
  given_up old new floor block keeps at index (inr (other, row, inr older, told)) = inr (other, row, inr older, told)
  given_up old new floor block keeps at index (inr (other, row, inl exclusive, told)) = by_test (eqb other session) (eqb at block) refl refl
    where
      Then : Type 0
      Then = IsReached devices areas chain new (given_floor (old session block) floor block (knew node)) IsOf knew at index

      by_test : (a b : Bool) → eqb other session ≡ a → eqb at block ≡ b → Then
      by_test false b differ is = inr (other, row, inl (exclusive_stays old new other at (λ hold held. keeps.other_sessions other at hold (λ e. grind (arith, nat_tests, differ, e)) held) exclusive), told)
      by_test true false same apart =
          let e : other ≡ session = grind (arith, nat_tests, same) in
          let was = subst (λ (n : ℕ). is_exclusive (old n at) ≡ true) e exclusive in
          let now = exclusive_stays old new session at (λ hold held. keeps.other_blocks at hold (λ e. grind (arith, nat_tests, apart, e)) held) was in
          inr (other, row, inl (subst (λ (n : ℕ). is_exclusive (new n at) ≡ true) (sym e) now), told)
      by_test true true same here =
          let e : other ≡ session = grind (arith, nat_tests, same) in
          let f : at ≡ block = grind (arith, nat_tests, here) in
          let was = subst (λ (n : ℕ). is_exclusive (old session n) ≡ true) f (subst (λ (n : ℕ). is_exclusive (old n at) ≡ true) e exclusive) in
          let knows = told node its (ap (λ (n : ℕ). row_in (last chain).sessions n) e ∙ is_row) lives is_of in
          let floor_is = given_here (old session block) floor block (knew node) at was f in
          inl (omega (arith, knows, floor_is))

  -- A block is wanted that the session doesn't hold exclusively.
  pub wanted : (old new : Holds) (floor : ℕ → ℕ) (block : ℕ) → KeepsOthers session block old new → is_exclusive (old session block) ≡ false
      → (at index : ℕ) → IsReached devices areas chain old floor IsOf knew at index → IsReached devices areas chain new floor IsOf knew at index
  wanted old new floor block keeps shared at index (inl low) = inl low
  wanted old new floor block keeps shared at index (inr (other, row, inr older, told)) = inr (other, row, inr older, told)
  wanted old new floor block keeps shared at index (inr (other, row, inl exclusive, told)) = by_test (eqb other session) (eqb at block) refl refl
    where
      Then : Type 0
      Then = IsReached devices areas chain new floor IsOf knew at index

      by_test : (a b : Bool) → eqb other session ≡ a → eqb at block ≡ b → Then
      by_test false b differ is = inr (other, row, inl (exclusive_stays old new other at (λ hold held. keeps.other_sessions other at hold (λ e. grind (arith, nat_tests, differ, e)) held) exclusive), told)
      by_test true false same apart =
          let e : other ≡ session = grind (arith, nat_tests, same) in
          let was = subst (λ (n : ℕ). is_exclusive (old n at) ≡ true) e exclusive in
          let now = exclusive_stays old new session at (λ hold held. keeps.other_blocks at hold (λ e. grind (arith, nat_tests, apart, e)) held) was in
          inr (other, row, inl (subst (λ (n : ℕ). is_exclusive (new n at) ≡ true) (sym e) now), told)
      by_test true true same here =
          let e : other ≡ session = grind (arith, nat_tests, same) in
          let f : at ≡ block = grind (arith, nat_tests, here) in
          let was = subst (λ (n : ℕ). is_exclusive (old session n) ≡ true) f (subst (λ (n : ℕ). is_exclusive (old n at) ≡ true) e exclusive) in
          absurd (let wrong : true ≡ false = sym was ∙ shared in cc)

  -- What the session has exclusively, and is written by its node now, is reached by all.
  pub landed : (holding : Holds) (floor : ℕ → ℕ) (at : ℕ) → HasRow (last chain) session → is_exclusive (holding session at) ≡ true
      → ((other : ℕ) (row : SessionRow) → row_in (last chain).sessions session ≡ Some row → IsOf other row → other ≡ node) → IsReached devices areas chain holding floor IsOf knew at (knew node)
  landed holding floor at row exclusive single = inr (session, row, inl exclusive, λ other one found lives_too is_of_it. let e = single other one found is_of_it in let f = ap (λ (n : ℕ). knew n) e in omega (arith, f))
