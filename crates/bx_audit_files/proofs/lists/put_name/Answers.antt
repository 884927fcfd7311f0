use Rattle.bx_audit_files.proofs.Followers.{all_below}
use Rattle.bx_audit_files.proofs.lists.put_name.Goals as goal

pub push-requires-clause-below : goal.push-requires-clause-below
push-requires-clause-below c = all_below c.args.least c.args.name.now.number c.args.list.now c.if-number-least.false c.requires
