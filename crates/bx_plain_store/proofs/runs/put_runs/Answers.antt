use Rattle.std.proofs.Common.{ℕ, ◌<◌, [], ◌∷◌, sym, subst, arith}
use Rattle.bx_members.proofs.Kept.{keeps_then, leaves_next}
use Rattle.bx_plain_store.proofs.Replicas.{lone, replicas_put, replicas_then}
use Rattle.bx_plain_store.proofs.Standing.{is_taken, none_past, there_at, written_more}
use Rattle.bx_plain_store.proofs.runs.put_runs.Goals as goal

pub put_both-requires-clause-disk : goal.put_both-requires-clause-disk
put_both-requires-clause-disk g c = let fit = c.requires.fit c.in-Some.run'.now (there_at c.args.runs.now c.loop-i.i c.in-Some.run'.now (sym c.in-Some.ensures)) in rw c.loop-i.invariant.rack.sizes fit.disk

pub put_both-requires-clause-whole : goal.put_both-requires-clause-whole
put_both-requires-clause-whole g c = let fit = c.requires.fit c.in-Some.run'.now (there_at c.args.runs.now c.loop-i.i c.in-Some.run'.now (sym c.in-Some.ensures)) in fit.whole

pub put_both-requires-clause-first : goal.put_both-requires-clause-first
put_both-requires-clause-first g c = let fit = c.requires.fit c.in-Some.run'.now (there_at c.args.runs.now c.loop-i.i c.in-Some.run'.now (sym c.in-Some.ensures)) in rw c.loop-i.invariant.rack.sizes fit.first

pub put_both-requires-clause-second : goal.put_both-requires-clause-second
put_both-requires-clause-second g c = let fit = c.requires.fit c.in-Some.run'.now (there_at c.args.runs.now c.loop-i.i c.in-Some.run'.now (sym c.in-Some.ensures)) in rw c.loop-i.invariant.rack.sizes fit.second

pub returns-in_err-put_both-clause-keeps : goal.returns-in_err-put_both-clause-keeps
returns-in_err-put_both-clause-keeps g c = λ writes greatest write tells alone same.
    let inv = c.loop-i.invariant in
    let taken = is_taken writes greatest write c.args.runs.now c.loop-i.i c.in-Some.run'.now alone same (sym c.in-Some.ensures) in
    keeps_then _ _ _ _ _ (inv.keeps writes greatest write tells alone same) (c.put_both.ensures.keeps writes greatest (inv.rack.keeps_telling tells) taken)

pub returns-in_err-put_both-clause-any_moment : goal.returns-in_err-put_both-clause-any_moment
returns-in_err-put_both-clause-any_moment g c = λ writes greatest write tells alone same.
    let inv = c.loop-i.invariant in
    let taken = is_taken writes greatest write c.args.runs.now c.loop-i.i c.in-Some.run'.now alone same (sym c.in-Some.ensures) in
    leaves_next _ _ _ _ _ _ _ _ _ _ (inv.any_moment writes greatest write tells alone same) (inv.keeps writes greatest write tells alone same) (c.put_both.ensures.any_moment writes greatest (inv.rack.keeps_telling tells) taken)

pub loop-i-preserved : goal.loop-i-preserved
loop-i-preserved g c =
    let inv = c.loop-i.invariant in
    let at = sym c.in-Some.ensures in
    record {
      written = λ writes greatest write tells alone same.
          let taken = is_taken writes greatest write c.args.runs.now c.loop-i.i c.in-Some.run'.now alone same at in
          written_more writes greatest write c.args.runs.now c.loop-i.i c.in-Some.run'.now (g.R.Rack.state c.loop-i.rack) (g.R.Rack.state c.put_both.new.rack) alone same at
          (c.put_both.ensures.keeps writes greatest (inv.rack.keeps_telling tells) taken)
          (λ second. c.in_ok-put_both.ensures.written second (inv.rack.keeps_telling tells))
          (inv.written writes greatest write tells alone same);
      keeps = λ writes greatest write tells alone same.
          let taken = is_taken writes greatest write c.args.runs.now c.loop-i.i c.in-Some.run'.now alone same at in
          keeps_then _ _ _ _ _ (inv.keeps writes greatest write tells alone same) (c.put_both.ensures.keeps writes greatest (inv.rack.keeps_telling tells) taken);
      any_moment = λ writes greatest write tells alone same.
          let taken = is_taken writes greatest write c.args.runs.now c.loop-i.i c.in-Some.run'.now alone same at in
          leaves_next _ _ _ _ _ _ _ _ _ _ (inv.any_moment writes greatest write tells alone same) (inv.keeps writes greatest write tells alone same) (c.put_both.ensures.any_moment writes greatest (inv.rack.keeps_telling tells) taken);
      replicas = λ tells. replicas_then _ _ _ (inv.replicas tells) (replicas_put _ _ c.in-Some.run'.now (λ taken. c.put_both.ensures.keeps (lone c.in-Some.run'.now ∷ []) 0 (inv.rack.keeps_telling tells) taken));
      rack = grind arith;
    }

pub returns-clause-written : goal.returns-clause-written
returns-clause-written g c = λ writes greatest write tells alone same.
    let inv = c.loop-i.invariant in
    let over = c.loop-i-test.false in
    let is = inv.written writes greatest write tells alone same in
    record { each = λ j run device sector content second less at brings. is.each j run device sector content second (omega (arith, less, over)) at brings }

-- a list has an item at each place below its length
pub returns-in_default-clause-written : goal.returns-in_default-clause-written
returns-in_default-clause-written g c = λ writes greatest write tells alone same. absurd (none_past c.args.runs.now c.loop-i.i (sym c.in_default.ensures) (subst (λ (n : ℕ). c.loop-i.i < n) c.len-i-end.ensures c.loop-i-test.true))

pub returns-in_err-put_both-clause-replicas : goal.returns-in_err-put_both-clause-replicas
returns-in_err-put_both-clause-replicas g c = λ tells.
    let inv = c.loop-i.invariant in
    replicas_then _ _ _ (inv.replicas tells) (replicas_put _ _ c.in-Some.run'.now (λ taken. c.put_both.ensures.keeps (lone c.in-Some.run'.now ∷ []) 0 (inv.rack.keeps_telling tells) taken))
