-- What was asked determines the reply and the next tree.
use Rattle.std.proofs.Common.{◌≡◌, ℕ, List, Option, Some, refl, sym, ap, ◌∙◌}
use Rattle.bx_history.specs.Trace as traces
use Rattle.bx_history.specs.Laws.{Asked, asked}
use Rattle.bx_model.specs.declared.call.Call.{Call}
use Rattle.bx_model.specs.declared.reply.Reply.{Reply}
use Rattle.bx_model.specs.declared.tree.Tree.{Tree}
use Rattle.bx_model.specs.Act.{act}
use Rattle.bx_nfs.specs.Wire.{reply_text}
use Rattle.bx_nfs.proofs.Reading.{reads_once}
use Rattle.bx_replay.specs.Headline.{EntryStep}

some_is : {A : Type 0} (x y : A) (o : Option A) → o ≡ Some x → o ≡ Some y → x ≡ y
some_is x y o e f = let g : Some x ≡ Some y = sym e ∙ f in cc

-- what a step gives is determined
same_result : (tree : Tree) (call other : Call) (m n s u d e : ℕ) (reply again : Reply) (x y : Tree) → call ≡ other → m ≡ n → s ≡ u → d ≡ e
    → act tree call m s d ≡ Some (reply, x) → act tree other n u e ≡ Some (again, y) → (reply ≡ again) × (x ≡ y)
same_result tree call other m n s u d e reply again x y c-is m-is s-is d-is p q =
    let same : act tree call m s d ≡ act tree other n u e =
    ap (λ (c : Call). act tree c m s d) c-is ∙ ap (λ (k : ℕ). act tree other k s d) m-is ∙ ap (λ (k : ℕ). act tree other n k d) s-is ∙ ap (λ (k : ℕ). act tree other n u k) d-is in
    let pair : ◌≡◌ {A = Reply × Tree} (reply, x) (again, y) = some_is (reply, x) (again, y) (act tree other n u e) (sym same ∙ p) q in
    (ap (λ (r : Reply × Tree). r.0) pair, ap (λ (r : Reply × Tree). r.1) pair)

made_entry : (c d k l m n s u e f : ℕ) (x y v w : List ℕ) → c ≡ d → k ≡ l → x ≡ y → m ≡ n → s ≡ u → e ≡ f → v ≡ w
    → ◌≡◌ {A = traces.Entry} (record { call = c; client = k; bytes = x; moment = m; spare = s; made = e; reply = v }) (record { call = d; client = l; bytes = y; moment = n; spare = u; made = f; reply = w })
made_entry c d k l m n s u e f x y v w p1 p2 p3 p4 p5 p6 p7 = rw (p1, p2, p3, p4, p5, p6, p7) refl

pub step_once : (tree : Tree) (a b : traces.Entry) (x y : Tree) → asked a ≡ asked b → EntryStep tree a x → EntryStep tree b y → (a ≡ b) × (x ≡ y)
step_once tree a b x y same s t =
    let call : a.call ≡ b.call = ap (λ (q : Asked). q.point.call) same in
    let moment : a.moment ≡ b.moment = ap (λ (q : Asked). q.point.moment) same in
    let spare : a.spare ≡ b.spare = ap (λ (q : Asked). q.point.spare) same in
    let made : a.made ≡ b.made = ap (λ (q : Asked). q.point.made) same in
    let client : a.client ≡ b.client = ap (λ (q : Asked). q.client) same in
    let bytes : a.bytes ≡ b.bytes = ap (λ (q : Asked). q.bytes) same in
    let one = reads_once b.bytes s.typed.xid t.typed.xid s.entry.what t.entry.what (rw bytes at s.typed.reads) t.typed.reads in
    let result = same_result tree s.entry.what t.entry.what s.entry.moment t.entry.moment s.entry.spare t.entry.spare s.entry.made t.entry.made s.entry.reply t.entry.reply x y one.1
    (sym s.typed.moment ∙ moment ∙ t.typed.moment) (sym s.typed.spare ∙ spare ∙ t.typed.spare) (sym s.typed.made ∙ made ∙ t.typed.made) s.step.acts t.step.acts in
    let reply : a.reply ≡ b.reply = s.typed.replies ∙ ap (λ (n : ℕ). reply_text n s.entry.reply) one.0 ∙ ap (λ (r : Reply). reply_text t.typed.xid r) result.0 ∙ sym t.typed.replies in
    (made_entry a.call b.call a.client b.client a.moment b.moment a.spare b.spare a.made b.made a.bytes b.bytes a.reply b.reply call client bytes moment spare made reply, result.1)
