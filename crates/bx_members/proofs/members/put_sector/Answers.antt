use Rattle.std.proofs.Common.{arith}
use Rattle.bx_members.proofs.Kept.{first_sector, put_keeps, put_leaves, put_sure, read_sure}
use Rattle.bx_members.proofs.members.put_sector.Goals as goal

pub returns-clause-written : goal.returns-clause-written
returns-clause-written g c = λ tells.
    first_sector _ _ _ _ (omega arith) (c.in_ok-write_some.ensures.written (c.has_bytes.ensures.rack.keeps_telling tells))

pub returns-in_err-write_some-clause-keeps : goal.returns-in_err-write_some-clause-keeps
returns-in_err-write_some-clause-keeps g c = λ writes greatest device second tells is brought.
    put_keeps _ _ _ _ _ _ _ _ _ _ _ is (omega arith) (c.has_bytes.ensures.stays tells) brought
    (c.in_ok-has_bytes.ensures.other tells c.if-branch.false) (c.write_some.ensures.keeps (c.has_bytes.ensures.rack.keeps_telling tells))

pub returns-in_err-write_some-clause-any_moment : goal.returns-in_err-write_some-clause-any_moment
returns-in_err-write_some-clause-any_moment g c = λ writes greatest device second tells is brought.
    put_leaves _ _ _ _ _ _ _ _ _ _ _ _ _ _ _ _ is (omega arith) (c.has_bytes.ensures.stays tells) brought
    (c.in_ok-has_bytes.ensures.other tells c.if-branch.false) (c.has_bytes.ensures.any_moment tells) (c.write_some.ensures.any_moment (c.has_bytes.ensures.rack.keeps_telling tells))

pub returns-clause-keeps : goal.returns-clause-keeps
returns-clause-keeps g c = λ writes greatest device second tells is brought.
    put_keeps _ _ _ _ _ _ _ _ _ _ _ is (omega arith) (c.has_bytes.ensures.stays tells) brought
    (c.in_ok-has_bytes.ensures.other tells c.if-branch.false) (c.write_some.ensures.keeps (c.has_bytes.ensures.rack.keeps_telling tells))

pub returns-clause-any_moment : goal.returns-clause-any_moment
returns-clause-any_moment g c = λ writes greatest device second tells is brought.
    put_leaves _ _ _ _ _ _ _ _ _ _ _ _ _ _ _ _ is (omega arith) (c.has_bytes.ensures.stays tells) brought
    (c.in_ok-has_bytes.ensures.other tells c.if-branch.false) (c.has_bytes.ensures.any_moment tells) (c.write_some.ensures.any_moment (c.has_bytes.ensures.rack.keeps_telling tells))

pub returns-in_err-has_bytes-clause-sure_moment : goal.returns-in_err-has_bytes-clause-sure_moment
returns-in_err-has_bytes-clause-sure_moment g c = λ tells. read_sure _ _ _ _ _ _ _ _ (c.has_bytes.ensures.any_moment tells)

pub returns-then-branch-clause-sure_moment : goal.returns-then-branch-clause-sure_moment
returns-then-branch-clause-sure_moment g c = λ tells. read_sure _ _ _ _ _ _ _ _ (c.has_bytes.ensures.any_moment tells)

pub returns-in_err-write_some-clause-sure_moment : goal.returns-in_err-write_some-clause-sure_moment
returns-in_err-write_some-clause-sure_moment g c = λ tells.
    put_sure _ _ _ _ _ _ _ _ _ _ _ (omega arith) (c.has_bytes.ensures.stays tells) (c.has_bytes.ensures.any_moment tells) (c.write_some.ensures.any_moment (c.has_bytes.ensures.rack.keeps_telling tells))

pub returns-clause-sure_moment : goal.returns-clause-sure_moment
returns-clause-sure_moment g c = λ tells.
    put_sure _ _ _ _ _ _ _ _ _ _ _ (omega arith) (c.has_bytes.ensures.stays tells) (c.has_bytes.ensures.any_moment tells) (c.write_some.ensures.any_moment (c.has_bytes.ensures.rack.keeps_telling tells))
