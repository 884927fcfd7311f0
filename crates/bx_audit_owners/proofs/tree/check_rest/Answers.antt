use Rattle.std.proofs.Common.{inl, inr}
use Rattle.bx_audit_owners.specs.Holding.{holdings_of}
use Rattle.bx_audit_owners.proofs.Ends.{of_torn, ok_too, torn_too}
use Rattle.bx_audit_owners.proofs.MetFiles.{same_files}
use Rattle.bx_audit_owners.proofs.Wholes.{all_read_by, have_tree, held, no_dead_not, walked_shows}
use Rattle.bx_audit_owners.proofs.Told.{wrong_dead, wrong_slot}
use Rattle.bx_truth.specs.Chunks.{chunks_of}
use Rattle.bx_audit_owners.proofs.tree.check_rest.Goals as goal

pub returns-in-Err-Torn-clause-torn : goal.returns-in-Err-Torn-clause-torn
returns-in-Err-Torn-clause-torn g c = λ truth files given told used walked ordered tree stands is.
    let shows = walked_shows c.args.areas truth c.requires.blocks.most (g.B.Blocks.tells c.args.blocks.now) (g.B.Blocks.stands c.args.blocks.now) (holdings_of c.args.holders.now) files told (g.met.B.Blocks.one c.args.blocks.now) walked in
    let wrong = of_torn _ c.in-Err-Torn.field-0 c.in-Err-Torn.field-0-0 c.in-Err-Torn.field-0-1 c.in-Err-Torn.wanted c.in-Err-Torn.field-0-is
    (c.in-Err-Torn.ensures.torn (chunks_of c.args.areas truth) files shows walked.found) in
    let slot = used.each wrong.slot (wrong.place, wrong.there, wrong.is) in
    no_dead_not c.args.areas truth c.requires.blocks.most tree stands is wrong.holdings files slot.0 wrong.slot c.in-Err-Torn.wanted wrong.found slot.1 wrong.marked wrong.wrong

pub returns-in-Err-Torn-clause-tells : goal.returns-in-Err-Torn-clause-tells
returns-in-Err-Torn-clause-tells g c = λ truth files told used walked.
    let shows = walked_shows c.args.areas truth c.requires.blocks.most (g.B.Blocks.tells c.args.blocks.now) (g.B.Blocks.stands c.args.blocks.now) (holdings_of c.args.holders.now) files told (g.met.B.Blocks.one c.args.blocks.now) walked in
    let wrong = of_torn _ c.in-Err-Torn.field-0 c.in-Err-Torn.field-0-0 c.in-Err-Torn.field-0-1 c.in-Err-Torn.wanted c.in-Err-Torn.field-0-is
    (c.in-Err-Torn.ensures.torn (chunks_of c.args.areas truth) files shows walked.found) in
    inl (wrong_dead c.args.areas truth c.requires.blocks.most c.args.slots.now used files _ _ c.in-Err-Torn.wanted wrong (c.told_of-at.ensures truth told.chunked used))

pub returns-in-Ok-clause-ok : goal.returns-in-Ok-clause-ok
returns-in-Ok-clause-ok g c = λ truth files told used walked.
    let shows = walked_shows c.args.areas truth c.requires.blocks.most (g.B.Blocks.tells c.args.blocks.now) (g.B.Blocks.stands c.args.blocks.now) (holdings_of c.args.holders.now) files told (g.met.B.Blocks.one c.args.blocks.now) walked in
    ok_too _ _ c.check_slots.result (λ held. record { found = c.in-Ok.ensures.ok (chunks_of c.args.areas truth) files shows walked.found; held = held }) c.check_slots.ensures.ok

pub returns-in-Ok-clause-torn : goal.returns-in-Ok-clause-torn
returns-in-Ok-clause-torn g c = λ truth files given told used walked ordered.
    let shows = walked_shows c.args.areas truth c.requires.blocks.most (g.B.Blocks.tells c.args.blocks.now) (g.B.Blocks.stands c.args.blocks.now) (holdings_of c.args.holders.now) files told (g.met.B.Blocks.one c.args.blocks.now) walked in
    let chunks = chunks_of c.args.areas truth in
    let before = holdings_of c.args.holders.now in
    let now = holdings_of c.read_dead.new.holders in
    let found = c.in-Ok.ensures.ok chunks files shows walked.found in
    torn_too _ _ c.check_slots.result (λ at wrong_at wanted wrong tree stands is.
    let slot = used.each wrong.0 wrong.1 in
    let same = same_files chunks before files walked tree (have_tree c.args.areas truth c.requires.blocks.most tree stands is) ordered.rise in
    let all_read = all_read_by c.args.areas truth c.requires.blocks.most tree stands is c.args.slots.now before now files used walked.found same c.in-Ok.ensures.still c.in-Ok.ensures.marked in
    wrong.3 (held c.args.areas truth c.requires.blocks.most tree stands is now files found all_read slot.0 wrong.0 slot.1))
    c.check_slots.ensures.torn

pub returns-in-Ok-clause-tells : goal.returns-in-Ok-clause-tells
returns-in-Ok-clause-tells g c = λ truth files told used walked.
    let shows = walked_shows c.args.areas truth c.requires.blocks.most (g.B.Blocks.tells c.args.blocks.now) (g.B.Blocks.stands c.args.blocks.now) (holdings_of c.args.holders.now) files told (g.met.B.Blocks.one c.args.blocks.now) walked in
    let now = holdings_of c.read_dead.new.holders in
    torn_too _ _ c.check_slots.result (λ at found wanted wrong. inr
    (wrong_slot c.args.areas truth c.requires.blocks.most c.args.slots.now used now files wrong.0 at found wanted
    (c.in-Ok.ensures.ok (chunks_of c.args.areas truth) files shows walked.found) wrong.1 wrong.2 wrong.3))
    c.check_slots.ensures.torn
