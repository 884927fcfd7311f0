-- Owners on one machine go on fitting what was done with them.
use Rattle.std.proofs.Common.{◌≡◌, ℕ, ◌≤◌, ◌==◌, max, Bool, true, false, List, Option, Some, None, refl, sym, ap, ◌∙◌, arith}
use Rattle.std.specs.Prelude.{if◌then◌else◌}
use Rattle.std.proofs.lemmas.Bool.Decides.{nat_tests}
use Rattle.bx_base.specs.declared.names.Actor.{Actor}
use Rattle.bx_base.specs.declared.names.Mode.TheVariants.{Shared, Exclusive}
use Rattle.bx_post.specs.declared.packets.Letter.{Letter}
use Rattle.bx_facts.specs.declared.input.Input.{Input}
use Rattle.bx_facts.specs.Holds.{Hold, Holding, KeepsHolds, KeepsOthers, OwnersPast, given, given_floor, hold_of, owners_heard, owners_with, raised, without_block}
use Rattle.bx_plain.specs.declared.rows.Row.{Row}
use Rattle.bx_plain.specs.Asks.{AlikeBut, asks_of}
use Rattle.bx_plain.specs.Fits.{Fits, RowsStand}
use Rattle.bx_plain.specs.Rows.{floor_in, hold_in}
use Rattle.bx_plain.proofs.Asking.{asks_alike, asks_none, holds_alike}

-- nothing changes
pub fits_taken : (nodes : ℕ) (rows : List Row) (past : OwnersPast) (out later : List Letter) (at : Actor) (index : ℕ) (input : Input) → Fits nodes rows (owners_with past out)
    → Holding (KeepsHolds past.holding) (Fits nodes rows) (owners_with (owners_heard past at index input None) later)
fits_taken nodes rows past out later at index input fits = record {
  holding = past.holding;
  may = record { each = λ session block hold held. held };
  stands = record { stand = fits.stand; holds = fits.holds; floors = fits.floors; leases = fits.leases; states = fits.states; oldest_is = fits.oldest_is; handed = fits.handed };
}

-- all is kept but one block of one session, and the floors reach what they must
refit : (nodes : ℕ) (rows new : List Row) (past : OwnersPast) (out later : List Letter) (session block : ℕ) (floor : ℕ → ℕ) → Fits nodes rows (owners_with past out) → RowsStand new → KeepsOthers session block (hold_in rows) (hold_in new)
    → ((at : ℕ) → floor at ≤ max (floor_in new at) past.told.chain.first.index) → Holding (KeepsOthers session block past.holding) (Fits nodes new) (owners_with (record past { floor = floor }) later)
refit nodes rows new past out later session block floor fits stand keeps reach = record {
  holding = hold_in new;
  may = record {
    other_sessions = λ other at hold ne held. keeps.other_sessions other at hold ne (sym (fits.holds other at) ∙ held);
    other_blocks = λ at hold ne held. keeps.other_blocks at hold ne (sym (fits.holds session at) ∙ held);
  };
  stands = record { stand = stand; holds = λ s b. refl; floors = reach; leases = fits.leases; states = fits.states; oldest_is = fits.oldest_is; handed = fits.handed };
}

pub fits_wanted : (nodes : ℕ) (rows new : List Row) (past : OwnersPast) (out later : List Letter) (session block : ℕ) → Fits nodes rows (owners_with past out) → (RowsStand rows → RowsStand new) → KeepsOthers session block (hold_in rows) (hold_in new)
    → ((at : ℕ) → floor_in new at ≡ floor_in rows at) → Holding (KeepsOthers session block past.holding) (Fits nodes new) (owners_with past later)
fits_wanted nodes rows new past out later session block fits stands keeps same =
    refit nodes rows new past out later session block past.floor fits (stands fits.stand) keeps (λ at. let low = fits.floors at in let e = same at in omega (arith, low, e))

raised_floor : (floor new : ℕ → ℕ) (block index at : ℕ) → floor at ≤ new at → index ≤ new block → raised floor block index at ≤ new at
raised_floor floor new block index at low high = by_test (at == block) refl
  where
    by_test : (t : Bool) → (at == block) ≡ t → raised floor block index at ≤ new at
    by_test true is =
        let same : at ≡ block = grind (arith, nat_tests, is) in
        let e = ap (λ t. if t then max (floor at) index else floor at) is in
        let there = ap new same in
        omega (arith, e, low, high, there)
    by_test false is = let e = ap (λ t. if t then max (floor at) index else floor at) is in omega (arith, e, low)

floor_given : (hold : Option Hold) (floor new : ℕ → ℕ) (block index at : ℕ) → floor at ≤ new at → ((from : ℕ) → hold ≡ Some (Exclusive, from) → index ≤ new block) → given_floor hold floor block index at ≤ new at
floor_given None floor new block index at low high = low
floor_given (Some (Shared, from)) floor new block index at low high = low
floor_given (Some (Exclusive, from)) floor new block index at low high = raised_floor floor new block index at low (high from refl)

pub fits_given : (nodes : ℕ) (rows new : List Row) (past : OwnersPast) (out later : List Letter) (session block index : ℕ) (own : Option ℕ) → own ≡ Some session → Fits nodes rows (owners_with past out) → RowsStand new
    → KeepsOthers session block (hold_in rows) (hold_in new) → ((at : ℕ) → floor_in rows at ≤ floor_in new at) → ((from : ℕ) → hold_in rows session block ≡ Some (Exclusive, from) → index ≤ floor_in new block)
    → Holding (KeepsOthers session block past.holding) (Fits nodes new) (owners_with (given past (hold_of own (hold_in rows) block) block index) later)
fits_given nodes rows new past out later session block index own is fits stand keeps rise reach =
    refit nodes rows new past out later session block (given_floor (hold_of own (hold_in rows) block) past.floor block index) fits stand keeps
    (λ at. floor_given (hold_of own (hold_in rows) block) past.floor (λ b. max (floor_in new b) past.told.chain.first.index) block index at
    (let low = fits.floors at in let more = rise at in omega (arith, low, more))
    (λ from held. let least = reach from (sym (ap (λ (o : Option ℕ). hold_of o (hold_in rows) block) is) ∙ held) in omega (arith, least)))

-- what a node is asked for but a block
pub asks_wanted : (own : Option ℕ) (rows new : List Row) (block nodes : ℕ) → AlikeBut block rows new → without_block block (asks_of own new nodes) ≡ without_block block (asks_of own rows nodes)
asks_wanted None rows new block nodes alike = refl
asks_wanted (Some session) rows new block nodes alike = asks_alike (hold_in rows session) (hold_in new session) session block rows new alike (λ at apart. holds_alike block session at rows new alike apart) 1 nodes

pub asks_given : (own : Option ℕ) (rows new : List Row) (block nodes : ℕ) → AlikeBut block rows new → ((session : ℕ) → own ≡ Some session → hold_in new session block ≡ None) → asks_of own new nodes ≡ without_block block (asks_of own rows nodes)
asks_given None rows new block nodes alike none = refl
asks_given (Some session) rows new block nodes alike none =
    asks_none (hold_in new session) session block new (none session refl) 1 nodes ∙ asks_alike (hold_in rows session) (hold_in new session) session block rows new alike (λ at apart. holds_alike block session at rows new alike apart) 1 nodes
