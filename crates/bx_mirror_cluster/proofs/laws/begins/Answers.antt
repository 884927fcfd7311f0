use Rattle.std.proofs.Common.{true, false}
use Rattle.bx_mirror_cluster.proofs.Begun.{begins_keeps, finds_keeps}
use Rattle.bx_mirror_cluster.proofs.Opening.{fresh_standing}
use Rattle.bx_mirror_cluster.proofs.laws.begins.Goals as goal

pub returns : goal.returns
returns c = record {
  begins = λ parts x s new allowed single of names all. begins_keeps parts x s new allowed single of names all;
  finds = λ parts x first s boot new none allowed of names. finds_keeps parts x first s boot new none allowed of names;
  begins_standing = λ parts x s device sector content there low high settled. fresh_standing parts x s device settled.there 0 (λ who. s.index) (λ who. 0) (λ who. false) sector content there low high settled;
  finds_standing = λ parts x s boot device sector content there low high settled. fresh_standing parts x s device settled.there s.next_session (λ who. 0) (λ who. boot) (λ who. true) sector content there low high settled;
}
