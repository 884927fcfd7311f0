-- A session that isn't its node's any more is never its again.
use Rattle.std.proofs.Common.{◌≡◌, inl, inr, ℕ, Bool, ◌∙◌}
use Rattle.bx_base.specs.declared.names.Actor.{Actor}
use Rattle.bx_facts.specs.Chains.{Chain}
use Rattle.bx_mirror_client.specs.Streams.{Streaming}
use Rattle.bx_mirror_cluster.specs.Fitting.{IsOwnOrLeft}

-- where the node has the session that it had
pub same_left : (nodes nodes_next : ℕ → Streaming) (chain : Chain) (knew boots : Actor → ℕ) (down : Actor → Bool) (node boot session : ℕ) → (nodes_next node).session ≡ (nodes node).session
    → IsOwnOrLeft nodes chain knew boots down node boot session → IsOwnOrLeft nodes_next chain knew boots down node boot session
same_left nodes nodes_next chain knew boots down node boot session same is = record {
  boot_most = is.boot_most;
  case = elim is.case [
    | inl older ↦ inl older
    | inr rest ↦ inr (elim rest [
      | inl gone ↦ inl gone
      | inr more ↦ inr (elim more [
        | inl own ↦ inl (same ∙ own)
        | inr behind ↦ inr behind
      ])
    ])
  ];
}
