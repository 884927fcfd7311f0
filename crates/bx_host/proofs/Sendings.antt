-- Datagrams sent one by one.
use Rattle.std.proofs.Common.{◌≡◌, ℕ, ◌-◌, ◌^◌, ◌≤◌, List, [], ◌∷◌, ◌++◌, drop, length, refl, arith, ap, sym, ◌∙◌, subst, append_assoc, Result, Ok, Err}
use Rattle.std.proofs.lemmas.List.{append-nil, drop_all, length-append}
use Rattle.bx_base.specs.Faults.{count_up}
use Rattle.bx_cluster.specs.declared.outcome.Outcome.{Outcome}
use Rattle.bx_cluster.specs.declared.outcome.ReplyOut.{ReplyOut}
use Rattle.bx_outside.specs.declared.datagram.Datagram.{Datagram}
use Rattle.bx_outside.specs.declared.link.Link as links
use Rattle.bx_host.specs.Hearing.{KeepsLink}
use Rattle.bx_host.specs.Sending.{SendsAll, counted}
use Rattle.bx_host.specs.Steps.{datagram_of, datagrams, owed, replies_of}
use Rattle.bx_host.specs.declared.error.HostError.{HostError}

-- of all datagrams some were sent, and these are left
pub record SentSome {L : Type 0} (li : links.Ghosts L) (all left : List Datagram) (old new : L) (before now : ℕ) : Type 0 where
  pub front : List Datagram
  pub whole : all ≡ front ++ left
  pub sent : li.tells old → li.sent new ≡ li.sent old ++ front
  pub given : li.tells old → li.given new ≡ li.given old
  pub count : now ≡ counted before front
  pub keeps : KeepsLink li old new

pub keeps_same : {L : Type 0} (li : links.Ghosts L) (a : L) → KeepsLink li a a
keeps_same li a = record { later = omega arith; tells = λ tells. tells }

pub keeps_then : {L : Type 0} (li : links.Ghosts L) (a b c : L) → KeepsLink li a b → KeepsLink li b c → KeepsLink li a c
keeps_then li a b c one two = record { later = omega (arith, one.later, two.later); tells = λ tells. two.tells (one.tells tells) }

pub none_sent : {L : Type 0} (li : links.Ghosts L) (all : List Datagram) (link : L) (count : ℕ) → count ≤ 2 ^ 64 - 1 → SentSome li all all link link count count
none_sent li all link count under = record {
  front = [];
  whole = refl;
  sent = λ tells. sym (append-nil (li.sent link));
  given = λ tells. refl;
  count = grind (arith, under);
  keeps = keeps_same li link;
}

-- some more
pub some_more : {L : Type 0} (li : links.Ghosts L) (all next left : List Datagram) (old mid new : L) (before middle now : ℕ)
    → SentSome li all (next ++ left) old mid before middle → (li.tells mid → li.sent new ≡ li.sent mid ++ next) → (li.tells mid → li.given new ≡ li.given mid) → now ≡ counted middle next → KeepsLink li mid new
    → SentSome li all left old new before now
some_more li all next left old mid new before middle now so sends given counts keeps =
    let lengths = length-append so.front next in
    let was = so.count in
    record {
      front = so.front ++ next;
      whole = so.whole ∙ sym (append_assoc so.front next left);
      sent = λ tells. sends (so.keeps.tells tells) ∙ ap (λ (l : List Datagram). l ++ next) (so.sent tells) ∙ append_assoc (li.sent old) so.front next;
      given = λ tells. given (so.keeps.tells tells) ∙ so.given tells;
      count = counts ∙ grind (arith, lengths, was);
      keeps = keeps_then li old mid new so.keeps keeps;
    }

-- where the next ones aren't all sent, the front was
pub some_broken : {L : Type 0} (li : links.Ghosts L) (all next left : List Datagram) (old mid new : L) (before middle : ℕ)
    → SentSome li all (next ++ left) old mid before middle → (li.tells mid → (front : List Datagram) × (back : List Datagram) × (next ≡ front ++ back) × (li.sent new ≡ li.sent mid ++ front)) → li.tells old
    → (front : List Datagram) × (back : List Datagram) × (all ≡ front ++ back) × (li.sent new ≡ li.sent old ++ front)
some_broken li all next left old mid new before middle so sends tells =
    let it = sends (so.keeps.tells tells) in (
      so.front ++ it.0,
      it.1 ++ left,
      so.whole ∙ ap (λ (l : List Datagram). so.front ++ (l ++ left)) it.2 ∙ ap (λ (l : List Datagram). so.front ++ l) (append_assoc it.0 it.1 left) ∙ sym (append_assoc so.front it.0 (it.1 ++ left)),
      it.3 ∙ ap (λ (l : List Datagram). l ++ it.0) (so.sent tells) ∙ append_assoc (li.sent old) so.front it.0,
    )

-- one reply more
pub reply_more : {L : Type 0} (li : links.Ghosts L) (all : List Datagram) (replies rest : List ReplyOut) (reply : ReplyOut) (old mid new : L) (before middle now : ℕ)
    → replies ≡ reply ∷ rest → SentSome li all (replies_of replies) old mid before middle → (li.tells mid → li.sent new ≡ li.sent mid ++ datagram_of reply ∷ []) → (li.tells mid → li.given new ≡ li.given mid) → now ≡ count_up middle → KeepsLink li mid new
    → SentSome li all (replies_of rest) old new before now
reply_more li all replies rest reply old mid new before middle now parts so sends given counts keeps =
    some_more li all (datagram_of reply ∷ []) (replies_of rest) old mid new before middle now (subst (λ l. SentSome li all (replies_of l) old mid before middle) parts so) sends given counts keeps

pub reply_broken : {L : Type 0} (li : links.Ghosts L) (all : List Datagram) (replies rest : List ReplyOut) (reply : ReplyOut) (old mid new : L) (before middle : ℕ)
    → replies ≡ reply ∷ rest → SentSome li all (replies_of replies) old mid before middle → (li.tells mid → (front : List Datagram) × (back : List Datagram) × (datagram_of reply ∷ [] ≡ front ++ back) × (li.sent new ≡ li.sent mid ++ front)) → li.tells old
    → (front : List Datagram) × (back : List Datagram) × (all ≡ front ++ back) × (li.sent new ≡ li.sent old ++ front)
reply_broken li all replies rest reply old mid new before middle parts so sends tells =
    some_broken li all (datagram_of reply ∷ []) (replies_of rest) old mid new before middle (subst (λ l. SentSome li all (replies_of l) old mid before middle) parts so) sends tells

-- an outcome more
pub outcome_more : {L : Type 0} (li : links.Ghosts L) (all : List Datagram) (outcomes rest : List Outcome) (outcome : Outcome) (old mid new : L) (before middle now : ℕ)
    → outcomes ≡ outcome ∷ rest → SentSome li all (owed outcomes) old mid before middle → (li.tells mid → li.sent new ≡ li.sent mid ++ datagrams outcome) → (li.tells mid → li.given new ≡ li.given mid) → now ≡ counted middle (datagrams outcome) → KeepsLink li mid new
    → SentSome li all (owed rest) old new before now
outcome_more li all outcomes rest outcome old mid new before middle now parts so sends given counts keeps =
    some_more li all (datagrams outcome) (owed rest) old mid new before middle now (subst (λ l. SentSome li all (owed l) old mid before middle) parts so) sends given counts keeps

pub outcome_broken : {L : Type 0} (li : links.Ghosts L) (all : List Datagram) (outcomes rest : List Outcome) (outcome : Outcome) (old mid new : L) (before middle : ℕ)
    → outcomes ≡ outcome ∷ rest → SentSome li all (owed outcomes) old mid before middle → (li.tells mid → (front : List Datagram) × (back : List Datagram) × (datagrams outcome ≡ front ++ back) × (li.sent new ≡ li.sent mid ++ front)) → li.tells old
    → (front : List Datagram) × (back : List Datagram) × (all ≡ front ++ back) × (li.sent new ≡ li.sent old ++ front)
outcome_broken li all outcomes rest outcome old mid new before middle parts so sends tells =
    some_broken li all (datagrams outcome) (owed rest) old mid new before middle (subst (λ l. SentSome li all (owed l) old mid before middle) parts so) sends tells

-- replies, and then a kept answer
pub again_sent : {A : Type 0} (result : Result A HostError) (first : List Datagram) (last : Datagram) (old mid new : List Datagram) → mid ≡ old ++ first → SendsAll result (last ∷ []) mid new → SendsAll result (first ++ last ∷ []) old new
again_sent (Ok _) first last old mid new is sends = sends ∙ ap (λ (l : List Datagram). l ++ last ∷ []) is ∙ append_assoc old first (last ∷ [])
again_sent (Err _) first last old mid new is sends =
    (first ++ sends.0, sends.1, ap (λ (l : List Datagram). first ++ l) sends.2 ∙ sym (append_assoc first sends.0 sends.1), sends.3 ∙ ap (λ (l : List Datagram). l ++ sends.0) is ∙ append_assoc old first sends.0)

pub replies_broken : (first again old new : List Datagram) → (front : List Datagram) × (back : List Datagram) × (first ≡ front ++ back) × (new ≡ old ++ front) → (front : List Datagram) × (back : List Datagram) × (first ++ again ≡ front ++ back) × (new ≡ old ++ front)
replies_broken first again old new it = (it.0, it.1 ++ again, ap (λ (l : List Datagram). l ++ again) it.2 ∙ append_assoc it.0 it.1 again, it.3)

-- behind the last of the replies all are sent
pub all_sent : {L : Type 0} (li : links.Ghosts L) (replies : List ReplyOut) (n : ℕ) (old new : L) (before now : ℕ) → length replies ≤ n → SentSome li (replies_of replies) (replies_of (drop n replies)) old new before now → SentSome li (replies_of replies) [] old new before now
all_sent li replies n old new before now past so = subst (λ (l : List ReplyOut). SentSome li (replies_of replies) (replies_of l) old new before now) (drop_all n replies past) so

-- all are sent
pub sent_whole : {L : Type 0} (li : links.Ghosts L) (all : List Datagram) (old new : L) (before now : ℕ) → SentSome li all [] old new before now → li.tells old → li.sent new ≡ li.sent old ++ all
sent_whole li all old new before now so tells = so.sent tells ∙ ap (λ (l : List Datagram). li.sent old ++ l) (sym (append-nil so.front) ∙ sym so.whole)
