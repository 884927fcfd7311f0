-- What is told of a call that acted.
use Rattle.std.specs.Prelude.{◌≡◌, ℕ, ◌<◌, ◌^◌, List, [], ◌∷◌, Result, Ok, Err}
use Rattle.bx_changes.specs.declared.error.ChangeError.{ChangeError}
use Rattle.bx_changes.specs.declared.error.ChangeError.TheVariants.{Stopped, Full}
use Rattle.bx_inodes.specs.declared.stop.Stop.{Stop}
use Rattle.bx_inodes.specs.declared.stop.Stop.TheVariants as stops
use Rattle.bx_model.specs.declared.reply.Reply.{Reply}
use Rattle.bx_model.specs.declared.reply.Reply.TheVariants as replies
use Rattle.bx_model.specs.declared.status.TheConstants.{NOSPC}
use Rattle.bx_nfs.specs.Wire.{reply_text}
use Rattle.bx_records.specs.Drafts.{Changed}
use Rattle.bx_views.specs.declared.attempt.Attempt.{Attempt}
use Rattle.bx_views.specs.declared.attempt.Attempt.TheVariants.{Need, Change, Inner, Answer}
use Rattle.bx_views.specs.declared.attempt.Done.{Done}

-- the reply's bytes, by the call's number; free blocks aren't told, and no file was made
abbrev pub done_of : ℕ → Reply → Done
done_of xid reply = record { reply = reply_text xid reply; spare = 8; made = 0 }

-- the same, with so many free blocks told
abbrev pub done_with : ℕ → Reply → ℕ → Done
done_with xid reply spare = record { reply = reply_text xid reply; spare = spare; made = 0 }

-- the same, with the handle of the file that was made, or 0; free blocks aren't told
abbrev pub done_making : ℕ → Reply → ℕ → Done
done_making xid reply made = record { reply = reply_text xid reply; spare = 8; made = made }

-- a change of these blocks, or an answer where there are none
abbrev pub IsChanged : ℕ → List Changed → Reply → ℕ → Attempt → Type 0
IsChanged xid [] reply made attempt = attempt ≡ Answer (done_making xid reply made)
IsChanged xid (block ∷ blocks) reply made attempt = attempt ≡ Change (block ∷ blocks) (done_making xid reply made)

-- What an attempt that was stopped answers: the block that it needs, the blocks to be written first, or the status.
abbrev pub IsStopped : ℕ → Stop → Attempt → Type 0
IsStopped xid (stops.Need at mode) attempt = attempt ≡ Need ((at, mode) ∷ [])
IsStopped xid (stops.Inner blocks) attempt = attempt ≡ Inner blocks
IsStopped xid (stops.Status status) attempt = attempt ≡ Answer (done_of xid (replies.Status status))
IsStopped xid stops.OutOfMemory attempt = ⊥

-- What an attempt of a change that isn't made answers: that, or NOSPC, with how many blocks are free.
abbrev pub IsRefused : ℕ → ChangeError → Attempt → Type 0
IsRefused xid (Stopped stop) attempt = IsStopped xid stop attempt
IsRefused xid (Full spare) attempt = attempt ≡ Answer (done_with xid (replies.Status NOSPC) spare)

-- what it answers of what a procedure came to
abbrev pub IsOutcome : ℕ → Result (List Changed × Reply × ℕ) ChangeError → Attempt → Type 0
IsOutcome xid (Ok made) attempt = IsChanged xid made.0 made.1 made.2 attempt × (made.2 < 2 ^ 64)
IsOutcome xid (Err error) attempt = IsRefused xid error attempt

-- the outcome of a procedure that makes no file
abbrev pub plainly : Result (List Changed × Reply) ChangeError → Result (List Changed × Reply × ℕ) ChangeError
plainly (Ok made) = Ok (made.0, made.1, 0)
plainly (Err error) = Err error

-- that of one that takes no blocks either
abbrev pub simply : Result (List Changed × Reply) Stop → Result (List Changed × Reply × ℕ) ChangeError
simply (Ok made) = Ok (made.0, made.1, 0)
simply (Err stop) = Err (Stopped stop)

-- what an attempt of a call that only reads answers
abbrev pub IsReplied : ℕ → Result Reply Stop → Attempt → Type 0
IsReplied xid (Ok reply) attempt = attempt ≡ Answer (done_of xid reply)
IsReplied xid (Err stop) attempt = IsStopped xid stop attempt
