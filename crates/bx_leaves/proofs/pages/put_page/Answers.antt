use Rattle.bx_leaves.proofs.pages.put_page.Goals as goal

pub returns-clause-puts : goal.returns-clause-puts
returns-clause-puts c = c.put_bytes.ensures.puts c.args.page.now record { is = c.requires; parts = c.write.ensures }
