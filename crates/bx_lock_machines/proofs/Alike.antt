-- Machines that are alike, each of them, fit alike.
use Rattle.std.proofs.Common.{inl, inr, ⊎_elim, ℕ, sym, ◌∙◌, ap, subst}
use Rattle.bx_base.specs.declared.names.Actor.TheVariants.{Node, Server}
use Rattle.bx_facts.specs.Holds.{OwnersPast}
use Rattle.bx_master.specs.Masters.{Mastering}
use Rattle.bx_clerk.specs.Clerks.{Clerking}
use Rattle.bx_lock_machines.specs.Keeps.{AreSame, FitsPast, Ghosts, Keeps}
use Rattle.bx_lock_steps.specs.Machines.{FitsClerk, FitsMaster}

pub alike : (nodes : ℕ) (masters others : ℕ → Mastering) (clerks more : ℕ → Clerking) (past : OwnersPast) → AreSame masters others → AreSame clerks more → Keeps nodes masters clerks past → Keeps nodes others more past
alike nodes masters others clerks more past masters_same clerks_same keeps = record {
  ghosts = keeps.ghosts;
  fits = record {
    locks = f.locks;
    leases_are = f.leases_are;
    had_are = record {
      was = f.had_are.was;
      once = λ s n had. ⊎_elim (λ own. inl (ap (λ (c : Clerking). c.session) (clerks_same.each n) ∙ own)) (λ never. inr never) (f.had_are.once s n had);
      fresh = f.had_are.fresh;
    };
    states = f.states;
    booted = f.booted;
    knew_most = f.knew_most;
    clerk = λ n. subst (λ (c : Clerking). FitsClerk past.told.chain (past.told.knew (Node n)) (past.told.boots (Node n)) g.side g.had g.promised n c) (sym (clerks_same.each n)) (f.clerk n);
    node = λ n inside. ap (λ (c : Clerking). c.node) (clerks_same.each n) ∙ f.node n inside;
    boot = λ n inside up. ap (λ (c : Clerking). c.boot) (clerks_same.each n) ∙ f.boot n inside up;
    server = λ id inside. ap (λ (m : Mastering). m.server) (masters_same.each id) ∙ f.server id inside;
    master = λ id inside up. subst (λ (m : Mastering). FitsMaster past.told.chain (past.told.knew (Server id)) (past.told.boots (Server id)) g.said g.side.drawn g.term g.noted id m) (sym (masters_same.each id)) (f.master id inside up);
    before = f.before;
    letters = f.letters;
    words = f.words;
    promises = f.promises;
    leases = f.leases;
  };
}
  where
    g : Ghosts
    g = keeps.ghosts

    f : FitsPast nodes masters clerks past g
    f = keeps.fits
