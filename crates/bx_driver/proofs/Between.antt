-- The next packet between two machines is the first that passes.
use Rattle.std.proofs.Common.{◌≡◌, ℕ, List, true, ◌&&◌, refl, arith, ap, sym, ◌∙◌, subst, Some, None}
use Rattle.std.proofs.lemmas.Bool.Decides.{nat_tests}
use Rattle.std.specs.Option.{option_or}
use Rattle.bx_base.specs.declared.names.Actor.{Actor}
use Rattle.bx_base.specs.declared.names.Actor.TheVariants.{Node, Replica, Server, Member}
use Rattle.bx_post.specs.Machines.{is_same}
use Rattle.bx_post.specs.Posts.{Posted, passing_from}
use Rattle.bx_world_events.specs.Refusals.{Seen, clock_back, refusal}
use Rattle.bx_world_events.specs.declared.event.Event.TheVariants.{Deliver}
use Rattle.bx_world_events.specs.declared.event.EventError.TheVariants.{NoSuchPacket}
use Rattle.bx_driver.specs.Nexts.{IsBetween, IsNextNumber, NoneBetween, is_between, number_above}
use Rattle.bx_driver.specs.Nexts.IsNextNumber.{Arrives, Lacks}
use Rattle.bx_driver.proofs.Least.{MayPass, both_are, least_as, least_passes, none_passes, one_least}
use Rattle.bx_driver.proofs.Numbers.{none_has}
use Rattle.bx_driver.proofs.Turns.{lacks_refused}

same_is : (a b : Actor) → is_same a b ≡ true → b ≡ a
same_is (Node n) (Node m) is = let e : m ≡ n = grind (arith, nat_tests) in ap Node e
same_is (Node n) (Replica m) is = cc
same_is (Node n) (Server m) is = cc
same_is (Node n) (Member m) is = cc
same_is (Replica n) (Node m) is = cc
same_is (Replica n) (Replica m) is = let e : m ≡ n = grind (arith, nat_tests) in ap Replica e
same_is (Replica n) (Server m) is = cc
same_is (Replica n) (Member m) is = cc
same_is (Server n) (Node m) is = cc
same_is (Server n) (Replica m) is = cc
same_is (Server n) (Server m) is = let e : m ≡ n = grind (arith, nat_tests) in ap Server e
same_is (Server n) (Member m) is = cc
same_is (Member n) (Node m) is = cc
same_is (Member n) (Replica m) is = cc
same_is (Member n) (Server m) is = cc
same_is (Member n) (Member m) is = let e : m ≡ n = grind (arith, nat_tests) in ap Member e

same_self : (a : Actor) → is_same a a ≡ true
same_self (Node n) = grind (arith, nat_tests)
same_self (Replica n) = grind (arith, nat_tests)
same_self (Server n) = grind (arith, nat_tests)
same_self (Member n) = grind (arith, nat_tests)

between_as : (post : List Posted) (from to : Actor) (n : ℕ) → MayPass (is_between from to) post n → IsBetween post from to n
between_as post from to n (letter, pending, pass) =
    let both = both_are (is_same from letter.from) (is_same to letter.to) pass in
    (letter, pending, same_is from letter.from both.0, same_is to letter.to both.1)

passes_as : (post : List Posted) (from to : Actor) (n : ℕ) → IsBetween post from to n → MayPass (is_between from to) post n
passes_as post from to n (letter, pending, sent, gets) =
    let sender : is_same from letter.from ≡ true = ap (is_same from) sent ∙ same_self from in
    let receiver : is_same to letter.to ≡ true = ap (is_same to) gets ∙ same_self to in
    (letter, pending, ap (λ b. b && is_same to letter.to) sender ∙ receiver)

pub next_found : (post : List Posted) (from to : Actor) (n : ℕ) → passing_from (is_between from to) 1 post ≡ Some n → IsNextNumber post from to n
next_found post from to n is = Arrives (least_as (MayPass (is_between from to) post) (IsBetween post from to) n (between_as post from to) (passes_as post from to) (least_passes (is_between from to) post n is))

pub next_lacks : (post : List Posted) (from to : Actor) → passing_from (is_between from to) 1 post ≡ None → IsNextNumber post from to (number_above post)
next_lacks post from to is = Lacks (λ n it. none_passes (is_between from to) post is n (passes_as post from to n it)) refl

pub one_next : (post : List Posted) (from to : Actor) (n m : ℕ) → IsNextNumber post from to n → IsNextNumber post from to m → n ≡ m
one_next post from to n m (Arrives least) (Arrives most) = one_least (IsBetween post from to) n m least most
one_next post from to n m (Arrives least) (Lacks none is) = absurd (none n least.stands)
one_next post from to n m (Lacks none is) (Arrives least) = absurd (none m least.stands)
one_next post from to n m (Lacks none is) (Lacks empty other) = is ∙ sym other

-- where none is between them, the event is refused
pub next_refused : (seen : Seen) (from to : Actor) (reading n : ℕ) → IsNextNumber seen.post from to n → NoneBetween seen.post from to
    → refusal seen (Deliver reading n) ≡ option_or (clock_back seen (Deliver reading n)) (Some (NoSuchPacket (number_above seen.post)))
next_refused seen from to reading n (Arrives least) none = absurd (none n least.stands)
next_refused seen from to reading n (Lacks empty is) none =
    let P : ℕ → Type 0 = λ k. refusal seen (Deliver reading k) ≡ option_or (clock_back seen (Deliver reading k)) (Some (NoSuchPacket (number_above seen.post))) in
    subst P (sym is) (lacks_refused seen reading (number_above seen.post) (none_has seen.post))
