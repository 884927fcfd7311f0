-- How a store on one machine fits what was done with it.
use Rattle.std.specs.Prelude.{◌≡◌, ℕ, ◌+◌, ◌-◌, ◌<◌, ◌≤◌, List, [], Contains, length, Option, Some, None}
use Rattle.bx_disk.specs.Disks.{Disks, sector_of}
use Rattle.bx_global.specs.declared.state.GlobalState.{GlobalState}
use Rattle.bx_facts.specs.Chains.{Chain, IsPlace, any_session_of, last}
use Rattle.bx_facts.specs.Sessions.{AreRows}
use Rattle.bx_facts.specs.Writes.{Asked, HasLabels, IsSettled, Made, Sent, StorePast, WritesTo}
use Rattle.bx_plain_store.specs.declared.writes.Write.{Write}
use Rattle.bx_plain_store.specs.Out.{AreApart, at, out_at}
use Rattle.bx_plain_store.specs.declared.inquiries.Inquiry.{Inquiry}

-- The members have their labels; each state of the chain has the devices of the last one, as many as the store is made for; what is out was
-- sent, is of the node's session, is apart from all else, and lies behind the labels; and a session is of one node.
pub record Fits (made : Made) (greatest : ℕ) (owns : List (Option ℕ)) (slots : List (Option Write)) (x : Disks) (chain : Chain) (writes : List Sent) : Type 0 where
  pub labels : HasLabels made x (last chain)
  pub count : length (last chain).devices ≡ made.devices
  pub places : (s : GlobalState) → IsPlace chain s → s.devices ≡ (last chain).devices
  pub apart : AreApart greatest slots
  pub above : (node : ℕ) (w : Sent) (device sector : ℕ) (content : List ℕ) → out_at slots node ≡ Some w → WritesTo w device sector content → 1 ≤ sector
  pub sent : (node : ℕ) (w : Sent) → out_at slots node ≡ Some w → Contains writes w
  pub mine : (node : ℕ) (w : Sent) → out_at slots node ≡ Some w → at owns node ≡ Some w.session
  -- of which node a session is
  pub node_of : ℕ → ℕ
  pub rows : AreRows node_of chain.first chain.changes
  pub owned : (node session : ℕ) → at owns node ≡ Some session → (node_of session ≡ node) × (session < (last chain).next_session)

-- Nothing was handed back, the greatest reading is known, and the parts fit.
pub record Keeps (made : Made) (greatest : ℕ) (owns : List (Option ℕ)) (slots : List (Option Write)) (x : Disks) (past : StorePast) : Type 0 where
  pub handed : past.told.handed ≡ []
  pub greatest_is : past.told.greatest ≡ greatest
  pub fits : Fits made greatest owns slots x past.told.chain past.writes

-- what a node's read will be answered with
abbrev pub WillRead : Option Asked → Option (List ℕ) → Disks → GlobalState → ℕ → List ℕ → Type 0
WillRead None answer x s sector content = Unit {0}
WillRead (Some asks) None x s sector content = IsSettled x s asks.device sector content
WillRead (Some asks) (Some bytes) x s sector content = asks.place ≤ sector → sector < asks.place + asks.count → sector_of bytes (sector - asks.place) ≡ content

-- Nothing was done yet.
pub record IsNew (greatest : ℕ) (slots : List (Option Write)) (inquiries : List (Option Inquiry)) : Type 0 where
  pub no_reading : greatest ≡ 0
  pub none : (node : ℕ) → (at slots node ≡ None) × (at inquiries node ≡ None)

-- Each node has the session that it has in this state.
pub record HasSessionsOf (s : GlobalState) (nodes : ℕ) (owns : List (Option ℕ)) : Type 0 where
  pub long : length owns ≡ nodes
  pub each : (node : ℕ) → node < nodes → at owns node ≡ any_session_of s node
