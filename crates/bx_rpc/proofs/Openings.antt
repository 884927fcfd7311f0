-- A datagram opens in one way.
use Rattle.std.proofs.Common.{◌≡◌, ℕ, ◌+◌, ◌<◌, ◌≤◌, List, [], ◌∷◌, length, drop, refl, sym, ap, ◌∙◌, arith}
use Rattle.std.proofs.lemmas.List.{length-append, drop_at}
use Rattle.bx_xdr.specs.Items.{SpellsWords}
use Rattle.bx_xdr.proofs.Words.{words_once}
use Rattle.bx_rpc.specs.declared.caller.Caller.{Caller}
use Rattle.bx_rpc.specs.declared.opened.Opened.{Opened}
use Rattle.bx_rpc.specs.Checks.{Verdict, Checks}
use Rattle.bx_rpc.specs.Checks.Verdict.{refused, passed}
use Rattle.bx_rpc.specs.Message.{IsCall, Says, Opens}
use Rattle.bx_rpc.proofs.Behind.{IsBehind, behind_more, passed_behind}
use Rattle.bx_rpc.proofs.Verdicts.{verdict_once}

-- a datagram is a call's in one way at most
pub call_once : (datagram : List ℕ) (x y : ℕ) (s t : List ℕ) → IsCall datagram x s → IsCall datagram y t → (x ≡ y) × (s ≡ t)
call_once datagram x y s t p q =
    let same = words_once 2 datagram s t (x ∷ 0 ∷ []) (y ∷ 0 ∷ []) p.reads q.reads in
    let front : x ∷ 0 ∷ [] ≡ y ∷ 0 ∷ [] = same.0 in
    (cc, same.1)

made : (xid program procedure uid gid : ℕ) (gids : List ℕ) (refusal rest : ℕ) → Opened
made xid program procedure uid gid gids refusal rest = record { xid = xid; program = program; procedure = procedure; uid = uid; gid = gid; gids = gids; refusal = refusal; rest = rest }

same_fields : (a b : Opened) → a.xid ≡ b.xid → a.program ≡ b.program → a.procedure ≡ b.procedure → a.uid ≡ b.uid → a.gid ≡ b.gid → a.gids ≡ b.gids → a.refusal ≡ b.refusal → a.rest ≡ b.rest → a ≡ b
unfolding made
same_fields a b x p q u g s r t =
    let parts : made a.xid a.program a.procedure a.uid a.gid a.gids a.refusal a.rest ≡ made b.xid b.program b.procedure b.uid b.gid b.gids b.refusal b.rest = rw (x, p, q, u, g, s, r, t) refl in
    parts

says_once : (datagram : List ℕ) (verdict : Verdict) (a b : Opened) → a.xid ≡ b.xid → Says datagram verdict a → Says datagram verdict b → a ≡ b
says_once datagram (refused n by) a b x p q =
    same_fields a b x (p.program ∙ sym q.program) (p.procedure ∙ sym q.procedure) (p.uid ∙ sym q.uid) (p.gid ∙ sym q.gid) (p.gids ∙ sym q.gids) (p.number ∙ sym q.number) (p.rest ∙ sym q.rest)
says_once datagram (passed m n caller tail) a b x p q =
    same_fields a b x (p.program ∙ sym q.program) (p.procedure ∙ sym q.procedure) (p.uid ∙ sym q.uid) (p.gid ∙ sym q.gid) (p.gids ∙ sym q.gids) (p.number ∙ sym q.number) (omega (arith, p.place, q.place))

-- a datagram opens in one way
pub opens_once : (datagram : List ℕ) (a b : Opened) → Opens datagram a → Opens datagram b → a ≡ b
opens_once datagram a b p q =
    let call = call_once datagram a.xid b.xid p.text q.text p.call q.call in
    let verdict = verdict_once q.text p.verdict q.verdict (rw call.1 at p.checked) q.checked in
    says_once datagram q.verdict a b call.0 (rw verdict at p.says) q.says

-- where the arguments of a call that passes begin
pub tail_behind : (datagram : List ℕ) (xid : ℕ) (text : List ℕ) (p q : ℕ) (caller : Caller) (tail : List ℕ) → IsCall datagram xid text → Checks (passed p q caller tail) text → IsBehind tail datagram
tail_behind datagram xid text p q caller tail call checked =
    behind_more (SpellsWords 2 (xid ∷ 0 ∷ [])) tail datagram text call.reads (passed_behind p q caller tail text checked)

pub tail_short : (datagram : List ℕ) (xid : ℕ) (text : List ℕ) (p q : ℕ) (caller : Caller) (tail : List ℕ) → IsCall datagram xid text → Checks (passed p q caller tail) text → length tail ≤ length datagram
tail_short datagram xid text p q caller tail call checked =
    let behind = tail_behind datagram xid text p q caller tail call checked in
    omega (arith, ap length behind.parts, length-append behind.front tail)

pub tail_at : (datagram : List ℕ) (xid : ℕ) (text : List ℕ) (p q : ℕ) (caller : Caller) (tail : List ℕ) (place : ℕ) → IsCall datagram xid text → Checks (passed p q caller tail) text
    → place + length tail ≡ length datagram → drop place datagram ≡ tail
tail_at datagram xid text p q caller tail place call checked is =
    let behind = tail_behind datagram xid text p q caller tail call checked in
    ap (drop place) behind.parts ∙ drop_at behind.front tail place (omega (arith, ap length behind.parts, length-append behind.front tail))

pub opens_passed : (datagram : List ℕ) (xid : ℕ) (text : List ℕ) (p q : ℕ) (caller : Caller) (tail : List ℕ) (place : ℕ) → IsCall datagram xid text → Checks (passed p q caller tail) text
    → place + length tail ≡ length datagram
    → Opens datagram (record { xid = xid; program = p; procedure = q; uid = caller.uid; gid = caller.gid; gids = caller.gids; refusal = 0; rest = place })
opens_passed datagram xid text p q caller tail place call checked is = record {
  text = text;
  verdict = passed p q caller tail;
  call = call;
  checked = checked;
  says = record {
    number = refl;
    program = refl;
    procedure = refl;
    uid = refl;
    gid = refl;
    gids = refl;
    place = is;
    arguments = tail_at datagram xid text p q caller tail place call checked is;
  };
}

pub opens_refused : (datagram : List ℕ) (xid : ℕ) (text : List ℕ) (n by : ℕ) → IsCall datagram xid text → 0 < n → Checks (refused n by) text
    → Opens datagram (record { xid = xid; program = by; procedure = 0; uid = 0; gid = 0; gids = []; refusal = n; rest = 0 })
opens_refused datagram xid text n by call positive checked = record {
  text = text;
  verdict = refused n by;
  call = call;
  checked = checked;
  says = record { number = refl; positive = positive; program = refl; procedure = refl; uid = refl; gid = refl; gids = refl; rest = refl };
}
