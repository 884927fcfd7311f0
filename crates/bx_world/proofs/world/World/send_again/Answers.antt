use Rattle.std.proofs.Common.{[], refl, sym, arith}
use Rattle.std.proofs.lemmas.List.{append-nil}
use Rattle.bx_world.specs.World.{letters_in}
use Rattle.bx_world.proofs.world.World.send_again.Goals as goal

pub returns-clause-shows : goal.returns-clause-shows
returns-clause-shows g c = λ bytes. rw (c.note.ensures.same, c.nothing.ensures) (record {
  nodes = refl;
  devices = refl;
  greatest = refl;
  down = λ who. refl;
  sent = [];
  post = sym (append-nil c.args.self.now.post);
  dropped = λ some. refl;
})

pub returns-clause-stands : goal.returns-clause-stands
returns-clause-stands g c = λ x tree course standing. c.note.ensures.stands (letters_in c.args.self.now.post) x tree course standing

pub returns-clause-ready : goal.returns-clause-ready
returns-clause-ready g c = λ sizes ready. record {
  machines = c.note.ensures.ready sizes ready.machines;
  desks = rw c.note.ensures.same ready.desks;
  counted = let count = ready.counted in rw c.note.ensures.same (omega (arith, count));
}
