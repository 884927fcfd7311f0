-- What the last state says of a session that a node was told is its own, while it lives.
use Rattle.std.proofs.Common.{◌≡◌, ℕ, Bool, Option, Some, sym, ◌∙◌, ap}
use Rattle.bx_base.specs.declared.names.Actor.TheVariants.{Node}
use Rattle.bx_facts.specs.Chains.{Chain, LivesIn, last, session_by}
use Rattle.bx_rows.specs.Words.{row_in}
use Rattle.bx_rows.specs.declared.session.SessionRow.{SessionRow}
use Rattle.bx_world_chains.specs.Entitled.{AreAllowed}
use Rattle.bx_world_chains.proofs.Chains.{index_most, last_place}
use Rattle.bx_world_chains.proofs.Rows.{lives_of}
use Rattle.bx_world_chains.proofs.Sessions.{own_kept, own_row, same_owner}
use Rattle.bx_world_standing.specs.Parts.{Clocks}
use Rattle.bx_world_standing.specs.Sessions.{IsOfNode, SessionsStand}
use Rattle.bx_world_standing.specs.Standing.{own_up}
use Rattle.bx_world_standing.proofs.Owns.{own_of}

one_row : (a b : SessionRow) (found : Option SessionRow) → found ≡ Some a → found ≡ Some b → a ≡ b
one_row a b found one two = cc

module _ (by_boot : Bool) (chain : Chain) (clocks : Clocks) (own : ℕ → Option ℕ) (knew : ℕ → ℕ) (allowed : AreAllowed chain) (stand : SessionsStand by_boot chain clocks (own_up clocks.down own) knew) where
  -- The last state tells the same session.
  pub own_last : (node session : ℕ) → own_up clocks.down own node ≡ Some session → LivesIn (last chain) session → session_by by_boot (last chain) node (clocks.boots (Node node)) ≡ Some session
  own_last node session is lives =
      let t = stand.told node session is in
      own_kept chain by_boot t.state (last chain) node (clocks.boots (Node node)) session allowed t.place (last_place chain) (index_most chain t.state t.place) t.by lives

  -- Its row is the node's.
  pub own_of_node : (node session : ℕ) (row : SessionRow) → own_up clocks.down own node ≡ Some session → row_in (last chain).sessions session ≡ Some row → row.dead ≡ 0 → IsOfNode by_boot clocks node row
  own_of_node node session row is found lives =
      let own_it = own_row by_boot (last chain) node (clocks.boots (Node node)) session (allowed.each (last chain) (last_place chain)) (own_last node session is (lives_of (last chain) session row found lives)) in
      let e : own_it.row ≡ row = one_row own_it.row row (row_in (last chain).sessions session) own_it.is found in
      record { up = (own_of clocks.down own node session is).0; of = ap (λ (r : SessionRow). r.node) (sym e) ∙ own_it.of; boot = λ so. ap (λ (r : SessionRow). r.boot) (sym e) ∙ own_it.booted so }

  -- No two nodes have one session.
  pub one_owner : (node other session : ℕ) → own_up clocks.down own node ≡ Some session → own_up clocks.down own other ≡ Some session → other ≡ node
  one_owner node other session is is_too =
      let t = stand.told node session is in let u = stand.told other session is_too in
      same_owner chain by_boot allowed t.state u.state node other (clocks.boots (Node node)) (clocks.boots (Node other)) session t.place u.place t.by u.by
