-- Parts that are alike at each machine are the same, and so are streams: what an object with its machines in a list is led to the laws by.
use Rattle.std.proofs.Common.{◌≡◌, ◌≢◌, ◌⊎◌, inl, inr, ℕ, Bool, true, false, sym, ◌∙◌, ap, arith}
use Rattle.std.specs.Prelude.{◌==◌, if◌then◌else◌}
use Rattle.std.proofs.lemmas.Bool.Decides.{nat_tests}
use Rattle.bx_mirror_client.specs.Streams.{Streaming}
use Rattle.bx_mirror_cluster.specs.Fitting.{Parts}
use Rattle.bx_mirror_cluster.specs.GoingOn.{with_nodes}
use Rattle.bx_mirror_cluster.specs.Writing.{with_node, with_stream}

pub same_parts : (old new : Parts) (nodes : ℕ → Streaming) → new.made ≡ old.made → ((k : ℕ) → new.members k ≡ old.members k) → ((k : ℕ) → new.nodes k ≡ nodes k) → new ≡ with_nodes old nodes
same_parts old new nodes made members streams = λ i. record { made = made i; members = λ k. (members k) i; nodes = λ k. (streams k) i }

-- one node has another stream
pub at_node : (nodes new : ℕ → Streaming) (n : ℕ) (c : Streaming) → new n ≡ c → ((k : ℕ) → k ≢ n → new k ≡ nodes k) → (k : ℕ) → new k ≡ with_node nodes n c k
at_node nodes new n c here others k = elim (same_or k n) [
  | inl e ↦ (let it : (k == n) ≡ true = grind (arith, nat_tests, e) in ap new e ∙ here ∙ sym (ap (λ (b : Bool). if b then c else nodes k) it))
  | inr e ↦ (let other : (k == n) ≡ false = grind (arith, nat_tests, e) in others k e ∙ sym (ap (λ (b : Bool). if b then c else nodes k) other))
]
  where
    same_or : (a b : ℕ) → (a ≡ b) ⊎ (a ≢ b)
    same_or a b = grind arith

pub same_stream : (old new : Parts) (n : ℕ) (c : Streaming) → new.made ≡ old.made → ((k : ℕ) → new.members k ≡ old.members k) → new.nodes n ≡ c → ((k : ℕ) → k ≢ n → new.nodes k ≡ old.nodes k) → new ≡ with_stream old n c
same_stream old new n c made members here others = same_parts old new (with_node old.nodes n c) made members (at_node old.nodes new.nodes n c here others)
