use Rattle.std.proofs.Common.{◌≡◌, ℕ, ◌+◌, ◌-◌, List, ◌++◌, take, drop, eqb, arith, Some, None, sym, ◌∙◌, rules, tests}
use Rattle.std.specs.List.{position}
use Rattle.std.proofs.lemmas.List.{take-append-drop, drop-drop, drop_all, length-take}
use Rattle.std.proofs.lemmas.Slice.{between_is}
use Rattle.std.proofs.lemmas.Iterator.{YieldsList-from_slice}
use Rattle.std.proofs.lemmas.Iterator.Search.{position_from_yields_List}
use Rattle.bx_outside.specs.LineReader.{MeetsFeed, MeetsNoFeed}
use Rattle.bx_outside.proofs.Feeds.{drop-at_feed, LacksFeed-before, LacksFeed-from_none}
use Rattle.bx_outside.proofs.line_reader.LineReader.take_up_to_feed.Goals as goal

MeetsFeed-at : (piece read line after : List ℕ) (start end at most : ℕ) → read ≡ piece → position (λ b. eqb b 10) (take (end - start) (drop start read)) ≡ Some at → after ≡ line ++ take at (take (end - start) (drop start read)) → MeetsFeed record { ahead = drop start (take end piece); line = line; most = most } record { ahead = drop (start + (at + 1)) (take end piece); line = after; most = most }
MeetsFeed-at piece read line after start end at most r p l =
    let ahead = drop start (take end piece) in
    let is : take (end - start) (drop start read) ≡ ahead = rw (r, ← between_is piece start end) in
    let q : position (λ b. eqb b 10) ahead ≡ Some at = rw is at p in
    record {
      front = take at ahead;
      parts = rw (← drop-drop (at + 1) start (take end piece), ← drop-at_feed ahead at q, take-append-drop at ahead);
      lacks = LacksFeed-before ahead at q;
      line = rw is at l;
    }

MeetsNoFeed-at : (piece read line after : List ℕ) (start end most : ℕ) → read ≡ piece → position (λ b. eqb b 10) (take (end - start) (drop start read)) ≡ None → after ≡ line ++ take (end - start) (drop start read) → MeetsNoFeed record { ahead = drop start (take end piece); line = line; most = most } record { ahead = drop end (take end piece); line = after; most = most }
MeetsNoFeed-at piece read line after start end most r p l =
    let ahead = drop start (take end piece) in
    let is : take (end - start) (drop start read) ≡ ahead = rw (r, ← between_is piece start end) in
    let q : position (λ b. eqb b 10) ahead ≡ None = rw is at p in
    record {
      lacks = LacksFeed-from_none ahead q;
      line = rw is at l;
      none = drop_all end (take end piece) (omega (arith, length-take end piece));
    }

pub returns-in_ok-extend_from_slice-in-Some-clause-met :
    goal.returns-in_ok-extend_from_slice-in-Some-clause-met
returns-in_ok-extend_from_slice-in-Some-clause-met c = λ _.
    let p = position_from_yields_List (λ b. eqb b 10) _ _ c.position.result c.position.ensures.ran (YieldsList-from_slice _ c.iter.ensures.rest) (λ x b q k. search (rules, tests)) in
    rw (← c.self.view_is) (MeetsFeed-at c.self.inside.piece.items c.deref.result.now c.self.inside.line.items c.extend_from_slice.new.self.items c.self.inside.start c.self.inside.end c.in-Some.at c.self.inside.most c.deref.ensures.value (sym p ∙ c.in-Some.is) c.in_ok-extend_from_slice-in-Some.ensures.items)

pub returns-in_ok-extend_from_slice-in-None-clause-unmet :
    goal.returns-in_ok-extend_from_slice-in-None-clause-unmet
returns-in_ok-extend_from_slice-in-None-clause-unmet c = λ _.
    let p = position_from_yields_List (λ b. eqb b 10) _ _ c.position.result c.position.ensures.ran (YieldsList-from_slice _ c.iter.ensures.rest) (λ x b q k. search (rules, tests)) in
    rw (← c.self.view_is) (MeetsNoFeed-at c.self.inside.piece.items c.deref.result.now c.self.inside.line.items c.extend_from_slice-in-None.new.self.items c.self.inside.start c.self.inside.end c.self.inside.most c.deref.ensures.value (sym p ∙ c.in-None.is) c.in_ok-extend_from_slice-in-None.ensures.items)
