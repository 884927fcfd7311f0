use Rattle.bx_engine.proofs.engine.BoxFsEngine.tidy.Goals as goal

pub returns-clause-gives : goal.returns-clause-gives
returns-clause-gives g c = λ truth tree same s. c.tidy.ensures.gives c.args.self.now.volume truth tree same s

pub returns-clause-gains : goal.returns-clause-gains
returns-clause-gains g c = λ truth tree same s. c.tidy.ensures.gains c.args.self.now.volume truth tree same s
