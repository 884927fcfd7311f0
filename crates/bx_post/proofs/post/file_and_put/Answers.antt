use Rattle.std.proofs.Common.{sym, ◌∙◌, ◌++◌, ℕ, List, map, subst}
use Rattle.std.proofs.lemmas.Result.{on_ok_weaker}
use Rattle.std.specs.Prelude.{Result, Ok, Err, OnErr}
use Rattle.bx_post.specs.declared.packets.Letter.{Letter}
use Rattle.bx_post.specs.Lanes.{AreLanes, lane_to}
use Rattle.bx_post.specs.Posts.{Posted, fresh}
use Rattle.bx_post.specs.Slots.{posted}
use Rattle.bx_post.proofs.Slots.{as_long}
use Rattle.bx_post.proofs.post.file_and_put.Goals as goal

where_err : {T E : Type 0} (P : Type 0) (r : Result T E) → P → OnErr r P
where_err P (Ok x) holds = tt
where_err P (Err e) holds = holds

pub returns-in_err-file_all-clause-back : goal.returns-in_err-file_all-clause-back
returns-in_err-file_all-clause-back c =
    let long = as_long c.args.slots.now.items in
    let P : ℕ → Type 0 = λ n. AreLanes (posted c.args.slots.now.items) (map (lane_to n) c.file_all.new.lanes.items) in
    let count = c.len.ensures ∙ c.args.slots.now.ok.0 in
    where_err _ c.from_residual.result (subst P count (c.file_all.ensures.back (posted c.args.slots.now.items) (long ∙ sym count) c.requires.lanes_are))

pub returns-clause-back : goal.returns-clause-back
returns-clause-back c =
    let long = as_long c.args.slots.now.items in
    let P : ℕ → Type 0 = λ n. AreLanes (posted c.args.slots.now.items) (map (lane_to n) c.file_all.new.lanes.items) in
    let count = c.len.ensures ∙ c.args.slots.now.ok.0 in
    where_err _ c.put_behind.result (subst P count (c.file_all.ensures.back (posted c.args.slots.now.items) (long ∙ sym count) c.requires.lanes_are))

pub returns-clause-lanes : goal.returns-clause-lanes
returns-clause-lanes c =
    let all = posted c.args.slots.now.items in
    let count = c.len.ensures ∙ c.args.slots.now.ok.0 in
    let are = c.in_ok-file_all.ensures.ok all (as_long c.args.slots.now.items ∙ sym count) c.requires.lanes_are in
    let P : List Letter → Type 0 = λ ls. AreLanes (posted c.args.slots.now.items ++ map fresh ls) c.file_all.new.lanes.items in
    let Q : List Posted → Type 0 = λ xs. AreLanes xs c.file_all.new.lanes.items in
    on_ok_weaker c.put_behind.result (λ e. subst Q (sym e) (subst P c.as_slice.ensures.value are)) c.put_behind.ensures.ok
