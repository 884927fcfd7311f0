use Rattle.std.proofs.Common.{rules}
use Rattle.bx_node_cache.proofs.Made.{settled_all}
use Rattle.bx_node_cache.proofs.cache.settle_all.Goals as goal

pub returns : goal.returns
returns c = settled_all _ _ (λ k v b w f' t. search rules) c.args.kept.now.entries c.retain.new.self.entries c.retain.ensures.filtered
