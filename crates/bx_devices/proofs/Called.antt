-- What a node's layer asks of its stream, as a call on all machines.
use Rattle.std.proofs.Common.{◌≡◌, inl, inr, ℕ, ◌+◌, ◌-◌, ◌*◌, ◌<◌, ◌≤◌, ◌++◌, Bool, true, false, Contains, List, [], ◌∷◌, Option, Some, None, refl, sym, ◌∙◌, ap, subst, arith}
use Rattle.std.specs.Prelude.{◌==◌, IfSome, IsNone, IsSome, length, slice_get}
use Rattle.std.specs.List.{AllByRecursion}
use Rattle.std.proofs.lemmas.Bool.{cases_eq}
use Rattle.std.proofs.lemmas.List.{append_assoc}
use Rattle.bx_base.specs.declared.names.Actor.TheVariants.{Node, Member}
use Rattle.bx_disk.specs.Disks.{Disks, sector_of}
use Rattle.bx_facts.proofs.Lists.{behind, front}
use Rattle.bx_facts.specs.Chains.{last}
use Rattle.bx_facts.specs.Writes.{AreRuns, Asked, GoesOn, IsRun, Made, MayWrite, Sent, StorePast, store_with, writing}
use Rattle.bx_post.specs.declared.packets.Letter.{Letter}
use Rattle.bx_records.specs.Runs.{KindAndRuns}
use Rattle.bx_records.specs.declared.runs.Run.{Run}
use Rattle.bx_rows.specs.Conditions.{Fits}
use Rattle.bx_rows.specs.declared.device.DeviceRow.{DeviceRow}
use Rattle.bx_mirror_client.specs.Asks.{FitIfAsked, answer_in, asked_in}
use Rattle.bx_mirror_client.specs.Letters.{read_letters, write_letters}
use Rattle.bx_mirror_client.specs.Sends.{FitIfOut, next_number}
use Rattle.bx_mirror_client.specs.Streams.{Streaming, answered, asking, sending, sent_in}
use Rattle.bx_mirror_client.specs.declared.asking.Asking.{Asking}
use Rattle.bx_mirror_client.specs.declared.sending.Sending.{Sending}
use Rattle.bx_mirror_cluster.proofs.NodeSteps.{read_sent, reads_asked, settles_asked, stands_asked}
use Rattle.bx_mirror_cluster.proofs.Promised.{will_promise}
use Rattle.bx_mirror_cluster.proofs.StreamsGo.{answer_is, answered_goes}
use Rattle.bx_mirror_cluster.proofs.WriteSent.{law_keeps, law_reads, law_settles, law_stands}
use Rattle.bx_mirror_cluster.proofs.WriteUntold.{untold_keeps, untold_reads, untold_settles, untold_stands}
use Rattle.bx_mirror_cluster.specs.Fitting.{IsSettledOn, Keeps, Parts, StandsOn, WillReadOn, will_read_by}
use Rattle.bx_mirror_cluster.specs.GoesFurther.{StreamsGo}
use Rattle.bx_mirror_cluster.specs.NodeSteps.{MayRead, parts_asked, past_asked}
use Rattle.bx_mirror_cluster.specs.Speaking.{FitsPacket, IsSpoken}
use Rattle.bx_mirror_cluster.specs.Writing.{MaySend, parts_sent, past_sent, with_stream, write_by}
use Rattle.bx_devices.proofs.Parts.{parts_streamed}
use Rattle.bx_devices.proofs.Serving.{room_small}
use Rattle.bx_devices.specs.Fitting.{IsFitting, Settled, Stands, WillRead, answer_of, asked_of, out_of, own_of, parts_of}
use Rattle.bx_devices.specs.Machines.{DeviceMachines, IsShape, OnlyMachine, stream_of}

-- what holds of each
each_of : {A : Type 0} (P : A → Type 0) (all : List A) → ((one : A) → Contains all one → P one) → AllByRecursion P all
each_of P [] is = tt
each_of P (one ∷ all) is = (is one (front one all), each_of P all (λ other there. is other (behind one all other there)))

pub no_write : (out : Option Sending) → sent_in out ≡ None → out ≡ None
no_write None e = refl
no_write (Some s) e = absurd cc

pub no_read : (asks : Option Asking) → asked_in asks ≡ None → asks ≡ None
no_read None e = refl
no_read (Some a) e = absurd cc

-- A node's stream alone changed, and goes on having its number: all fit where the parts do.
pub stream_fits : (o new : DeviceMachines) (x y : Disks) (past then_ : StorePast) (node : ℕ) → IsFitting o x past → IsShape new → OnlyMachine (Node node) o new → (stream_of new node).node ≡ (stream_of o node).node
    → ((n : ℕ) → then_.told.down (Member n) ≡ past.told.down (Member n)) → Keeps (parts_of new) y then_ → IsFitting new y then_
stream_fits o new x y past then_ node fitting shape only number down keeps = record {
  fits = keeps;
  shape = shape;
  there = λ n less up. subst (λ (slot : Option _). IsSome slot) (sym (only.members n (λ same. absurd cc))) (fitting.there n (subst (λ (m : Made). n < 2 * m.devices) only.made less) (sym (down n) ∙ up));
  itself = λ n. elim (cases_eq n node) [
    | inl e ↦ subst (λ (k : ℕ). (stream_of new k).node ≡ k) (sym e) (number ∙ fitting.itself node)
    | inr apart ↦ ap (λ (c : Streaming). c.node) (only.streams n (λ same. apart (let e : node ≡ n = cc in sym e))) ∙ fitting.itself n
  ];
}

-- the rows that a node with a session knows
module _ (o : DeviceMachines) (x : Disks) (past : StorePast) (fitting : IsFitting o x past) (node session : ℕ) (own : own_of o node ≡ Some session) where
  rows_few : length (stream_of o node).rows ≤ 4
  rows_few =
      let known = fitting.fits.node_known node session own in
      let same = ap (λ (rows : List DeviceRow). length rows) known.3 in
      let count = fitting.fits.count known.0 known.1 in
      let most = fitting.shape.most_devices in
      omega (arith, same, count, most)

  rows_fit : (k : ℕ) (row : DeviceRow) → slice_get (stream_of o node).rows k ≡ Some row → Fits row.epoch
  rows_fit k row at = let known = fitting.fits.node_known node session own in fitting.fits.epochs known.0 known.1 k row (ap (λ (rows : List DeviceRow). slice_get rows k) (sym known.3) ∙ at)

-- ---- a write

module _ (o new : DeviceMachines) (x : Disks) (past : StorePast) (before after : List Letter) (node session until : ℕ) (runs : KindAndRuns) (fitting : IsFitting o x (store_with past before)) (shape : IsShape new) (only : OnlyMachine (Node node) o new)
    (own : own_of o node ≡ Some session) (none_out : out_of o node ≡ None) (are : AreRuns o.made runs.1) (may : MayWrite past.writes past.told.greatest (last past.told.chain) (record { session = session; until = until; runs = runs.1 }))
    (writes : stream_of new node ≡ sending (stream_of o node).session runs until (stream_of o node)) (sends : after ≡ before ++ write_letters [] (stream_of o node).node (stream_of new node).out (stream_of o node).rows) (numbers : FitIfOut (stream_of new node).out) where
  abbrev was : StorePast
  was = store_with past before

  abbrev sent : Sent
  sent = record { session = session; until = until; runs = runs.1 }

  abbrev then_ : StorePast
  then_ = store_with (writing past sent) after

  abbrev c : Streaming
  c = stream_of o node

  becomes : stream_of new node ≡ sending (Some session) runs until c
  becomes = writes ∙ ap (λ (s : Option ℕ). sending s runs until c) own

  fits_it : FitsPacket (write_by c session until runs)
  fits_it = record {
    numbers = subst (λ (k : Streaming). FitIfOut k.out) becomes numbers;
    runs = each_of IsSpoken runs.1 (λ run there. spoken run (are.each run there));
  }
    where
      spoken : (run : Run) → IsRun o.made run → IsSpoken run
      spoken run is =
          let small = room_small o fitting.shape in
          let within = is.within in
          record { place = omega (arith, small, within); whole = is.whole; some = is.some; count = omega (arith, small, within) }

  none_there : c.out ≡ None
  none_there = no_write c.out none_out

  -- parts and past as the laws speak of them
  parts_are : parts_of new ≡ parts_sent (parts_of o) node session until runs
  parts_are = parts_streamed o new node only ∙ ap (λ (k : Streaming). with_stream (parts_of o) node k) becomes

  letters_are : past.told.letters ++ after ≡ (past.told.letters ++ before) ++ write_letters [] c.node (sending (Some session) runs until c).out c.rows
  letters_are =
      ap (λ (ls : List Letter). past.told.letters ++ ls) (sends ∙ ap (λ (k : Streaming). before ++ write_letters [] c.node k.out c.rows) becomes)
      ∙ sym (append_assoc past.told.letters before (write_letters [] c.node (sending (Some session) runs until c).out c.rows))

  abbrev with_letters : List Letter → StorePast
  with_letters letters = record { told = record past.told { letters = letters }; writes = sent ∷ past.writes }

  into : (P : Parts → StorePast → Type 0) → P (parts_sent (parts_of o) node session until runs) (past_sent (parts_of o) was node session until runs) → P (parts_of new) then_
  into P is = subst (λ (p : Parts). P p then_) (sym parts_are) (subst (λ (ls : List Letter). P (parts_sent (parts_of o) node session until runs) (with_letters ls)) (sym letters_are) is)

  record StreamGoes : Type 0 where
    keeps : Keeps (parts_of new) x then_
    settles : (d sector : ℕ) (content : List ℕ) → Settled o x was d sector content → Settled new x then_ d sector content
    stands : (d sector : ℕ) (content : List ℕ) (index : ℕ) → Stands o x was d sector content index → Stands new x then_ d sector content index
    reads : (reader : ℕ) (read : Asking) (sector : ℕ) (content : List ℕ) → WillReadOn (parts_of o) x was reader read sector content → WillReadOn (parts_of new) x then_ reader read sector content

  goes : StreamGoes
  goes = by (next_number c.sequence == 0) refl
    where
      p : Parts
      p = parts_of o

      by : (t : Bool) → (next_number c.sequence == 0) ≡ t → StreamGoes
      by false left =
          let may_it : MaySend p was node session until runs = record { own = own; none = none_there; runs_are = are; may = may; left = left; fits = fits_it; few = rows_few o x was fitting node session own; epochs = rows_fit o x was fitting node session own } in
          record {
            keeps = into (λ q t. Keeps q x t) (law_keeps p x was fitting.fits node session until runs may_it);
            settles = λ d sector content is. into (λ q t. IsSettledOn q x t d sector content) (law_settles p x was fitting.fits node session until runs may_it d sector content is);
            stands = λ d sector content index is. into (λ q t. StandsOn q x t d sector content index) (law_stands p x was fitting.fits node session until runs may_it d sector content index is);
            reads = λ reader read sector content is. into (λ q t. WillReadOn q x t reader read sector content) (law_reads p x was fitting.fits node session until runs may_it reader read sector content is);
          }
      by true not_left = record {
        keeps = into (λ q t. Keeps q x t) (untold_keeps p x was fitting.fits node session until runs none_there are not_left own fits_it);
        settles = λ d sector content is. into (λ q t. IsSettledOn q x t d sector content) (untold_settles p x was fitting.fits node session until runs none_there are not_left own fits_it d sector content is);
        stands = λ d sector content index is. into (λ q t. StandsOn q x t d sector content index) (untold_stands p x was fitting.fits node session until runs none_there are not_left own fits_it d sector content index is);
        reads = λ reader read sector content is. into (λ q t. WillReadOn q x t reader read sector content) (untold_reads p x was fitting.fits node session until runs none_there are not_left own fits_it reader read sector content is);
      }

  pub write_fits : IsFitting new x then_
  write_fits = stream_fits o new x x was then_ node fitting shape only (ap (λ (k : Streaming). k.node) becomes) (λ n. refl) goes.keeps

  same_asks : (reader : ℕ) → (stream_of new reader).asks ≡ (stream_of o reader).asks
  same_asks reader = elim (cases_eq reader node) [
    | inl e ↦ subst (λ (k : ℕ). (stream_of new k).asks ≡ (stream_of o k).asks) (sym e) (ap (λ (k : Streaming). k.asks) becomes)
    | inr apart ↦ ap (λ (k : Streaming). k.asks) (only.streams reader (λ same. apart (let e : node ≡ reader = cc in sym e)))
  ]

  pub write_goes : GoesOn (sent ∷ past.writes) past.told.greatest (asked_of o) (Settled o x was) (Settled new x then_) (WillRead o x was) (WillRead new x then_) (Stands o x was) (Stands new x then_)
  write_goes = record {
    settles = λ d sector content only_it is. goes.settles d sector content is;
    standing = λ d sector content index only_it is. goes.stands d sector content index is;
    reading = λ reader sector content asks is only_it will. subst (λ (a : Option Asking). will_read_by a (parts_of new) x then_ reader sector content) (sym (same_asks reader)) (by reader sector content (stream_of o reader).asks will);
  }
    where
      by : (reader sector : ℕ) (content : List ℕ) (a : Option Asking) → will_read_by a (parts_of o) x was reader sector content → will_read_by a (parts_of new) x then_ reader sector content
      by reader sector content None will = tt
      by reader sector content (Some read) will = goes.reads reader read sector content will

  pub write_out : out_of new node ≡ Some sent
  write_out = ap (λ (k : Streaming). sent_in k.out) becomes

-- ---- a read

module _ (o new : DeviceMachines) (x : Disks) (past : StorePast) (before after : List Letter) (node session device place sectors : ℕ) (fitting : IsFitting o x (store_with past before)) (shape : IsShape new) (only : OnlyMachine (Node node) o new)
    (own : own_of o node ≡ Some session) (none_out : asked_of o node ≡ None) (reads : stream_of new node ≡ asking (stream_of o node).session device place sectors (stream_of o node))
    (sends : after ≡ before ++ read_letters [] (stream_of o node).node (stream_of new node).asks (stream_of o node).rows) (numbers : FitIfAsked (stream_of new node).asks) where
  abbrev read_was : StorePast
  read_was = store_with past before

  abbrev read_then : StorePast
  read_then = store_with past after

  abbrev reader_c : Streaming
  reader_c = stream_of o node

  asks_it : stream_of new node ≡ asking (Some session) device place sectors reader_c
  asks_it = reads ∙ ap (λ (s : Option ℕ). asking s device place sectors reader_c) own

  may_read : MayRead (parts_of o) node session device place sectors
  may_read =
      let fits : FitIfAsked (asking (Some session) device place sectors reader_c).asks = subst (λ (k : Streaming). FitIfAsked k.asks) asks_it numbers in
      record { itself = fitting.itself node; own = own; session_fits = fits.session; device_fits = fits.device; tag_fits = fits.tag; place_fits = fits.place; sectors_fit = fits.sectors; epochs = rows_fit o x read_was fitting node session own }

  asked_parts : parts_of new ≡ parts_asked (parts_of o) node session device place sectors
  asked_parts = parts_streamed o new node only ∙ ap (λ (k : Streaming). with_stream (parts_of o) node k) asks_it

  asked_letters : past.told.letters ++ after ≡ (past.told.letters ++ before) ++ read_letters [] reader_c.node (asking (Some session) device place sectors reader_c).asks reader_c.rows
  asked_letters =
      ap (λ (ls : List Letter). past.told.letters ++ ls) (sends ∙ ap (λ (k : Streaming). before ++ read_letters [] reader_c.node k.asks reader_c.rows) asks_it)
      ∙ sym (append_assoc past.told.letters before (read_letters [] reader_c.node (asking (Some session) device place sectors reader_c).asks reader_c.rows))

  into_read : (P : Parts → StorePast → Type 0) → P (parts_asked (parts_of o) node session device place sectors) (past_asked (parts_of o) read_was node session device place sectors) → P (parts_of new) read_then
  into_read P is = subst (λ (p : Parts). P p read_then) (sym asked_parts) (subst (λ (ls : List Letter). P (parts_asked (parts_of o) node session device place sectors) (record past { told = record past.told { letters = ls } })) (sym asked_letters) is)

  pub read_fits : IsFitting new x read_then
  read_fits = stream_fits o new x x read_was read_then node fitting shape only (ap (λ (k : Streaming). k.node) asks_it) (λ n. refl)
      (into_read (λ q t. Keeps q x t) (read_sent (parts_of o) x read_was fitting.fits node session device place sectors may_read))

  pub read_goes : GoesOn past.writes past.told.greatest (asked_of o) (Settled o x read_was) (Settled new x read_then) (WillRead o x read_was) (WillRead new x read_then) (Stands o x read_was) (Stands new x read_then)
  read_goes = record {
    settles = λ d sector content only_it is. into_read (λ q t. IsSettledOn q x t d sector content) (settles_asked (parts_of o) x read_was fitting.fits node session device place sectors may_read d sector content is);
    standing = λ d sector content index only_it is. into_read (λ q t. StandsOn q x t d sector content index) (stands_asked (parts_of o) x read_was fitting.fits node session device place sectors may_read d sector content index is);
    reading = λ reader sector content asks is only_it will. elim (cases_eq reader node) [
      | inl e ↦ absurd (let no : None ≡ Some asks = sym none_out ∙ subst (λ (k : ℕ). asked_of o k ≡ Some asks) e is in cc)
      | inr apart ↦ subst (λ (a : Option Asking). will_read_by a (parts_of new) x read_then reader sector content) (sym (ap (λ (k : Streaming). k.asks) (only.streams reader (λ same. apart (let e : node ≡ reader = cc in sym e)))))
          (by reader sector content (stream_of o reader).asks will)
    ];
  }
    where
      by : (reader sector : ℕ) (content : List ℕ) (a : Option Asking) → will_read_by a (parts_of o) x read_was reader sector content → will_read_by a (parts_of new) x read_then reader sector content
      by reader sector content None will = tt
      by reader sector content (Some read) will = into_read (λ q t. WillReadOn q x t reader read sector content) (reads_asked (parts_of o) x read_was fitting.fits node session device place sectors may_read reader read sector content will)

  pub read_promise : (sector : ℕ) (content : List ℕ) (index : ℕ) → Stands o x read_was device sector content index → index ≤ past.told.knew (Node node) → WillRead new x read_then node sector content
  read_promise sector content index stands low = by (stream_of new node).asks refl
    where
      same_parts : ((parts_asked (parts_of o) node session device place sectors).nodes node).asks ≡ (stream_of new node).asks
      same_parts = ap (λ (p : Parts). (p.nodes node).asks) (sym asked_parts)

      by : (a : Option Asking) → (stream_of new node).asks ≡ a → will_read_by a (parts_of new) x read_then node sector content
      by None e = tt
      by (Some read) e = into_read (λ q t. WillReadOn q x t node read sector content)
          (will_promise (parts_of o) x read_was fitting.fits node session device place sectors may_read read sector content index (same_parts ∙ e) stands low)

  pub read_asks : (asked_of new node ≡ Some (record { device = device; place = place; count = sectors })) × (answer_of new node ≡ None)
  read_asks = (ap (λ (k : Streaming). asked_in k.asks) asks_it, ap (λ (k : Streaming). answer_in k.asks) asks_it)

-- ---- an answer is taken

module _ (o new : DeviceMachines) (x : Disks) (past : StorePast) (node : ℕ) (fitting : IsFitting o x past) (only : OnlyMachine (Node node) o new) (left : stream_of new node ≡ answered (stream_of o node)) where
  answered_parts : parts_of new ≡ with_stream (parts_of o) node (answered (stream_of o node))
  answered_parts = parts_streamed o new node only ∙ ap (λ (k : Streaming). with_stream (parts_of o) node k) left

  went : StreamsGo (parts_of o) (parts_of new) x past past
  went = subst (λ (p : Parts). StreamsGo (parts_of o) p x past past) (sym answered_parts) (answered_goes (parts_of o) x past node fitting.fits)

  pub answered_fits : IsShape new → IsFitting new x past
  answered_fits shape = stream_fits o new x x past past node fitting shape only (ap (λ (k : Streaming). k.node) left) (λ n. refl) went.keeps

  pub answered_goes_on : GoesOn past.writes past.told.greatest (asked_of new) (Settled o x past) (Settled new x past) (WillRead o x past) (WillRead new x past) (Stands o x past) (Stands new x past)
  answered_goes_on = record {
    settles = λ d sector content only_it is. went.settles d sector content is;
    standing = λ d sector content index only_it is. went.stands d sector content index is;
    reading = λ reader sector content asks is only_it will. by reader sector content (stream_of o reader).asks (stream_of new reader).asks refl refl will;
  }
    where
      by : (reader sector : ℕ) (content : List ℕ) (b a : Option Asking) → (stream_of o reader).asks ≡ b → (stream_of new reader).asks ≡ a → will_read_by b (parts_of o) x past reader sector content → will_read_by a (parts_of new) x past reader sector content
      by reader sector content b None was now will = tt
      by reader sector content None (Some read) was now will = absurd (let old = went.asks reader read now in let no : None ≡ Some old.0 = sym was ∙ old.1 in cc)
      by reader sector content (Some old) (Some read) was now will = went.reads reader old read sector content was now will

-- what was promised
pub answer_promised : (o : DeviceMachines) (x : Disks) (past : StorePast) (node sector : ℕ) (content : List ℕ) (asks : Asked) (result : Option (List ℕ)) → result ≡ answer_of o node → WillRead o x past node sector content → asked_of o node ≡ Some asks
    → asks.place ≤ sector → sector < asks.place + asks.count → IfSome result (λ bytes. sector_of bytes (sector - asks.place) ≡ content)
answer_promised o x past node sector content asks result is will asked low high = subst (λ (r : Option (List ℕ)). IfSome r (λ bytes. sector_of bytes (sector - asks.place) ≡ content)) (sym is) (by (stream_of o node).asks will asked)
  where
    by : (a : Option Asking) → will_read_by a (parts_of o) x past node sector content → asked_in a ≡ Some asks → IfSome (answer_in a) (λ bytes. sector_of bytes (sector - asks.place) ≡ content)
    by None will_it told = tt
    by (Some read) will_it told =
        let same : record { device = read.device; place = read.place; count = read.sectors } ≡ asks = cc in
        subst (λ (q : Asked). q.place ≤ sector → sector < q.place + q.count → IfSome read.answer (λ bytes. sector_of bytes (sector - q.place) ≡ content)) same (λ from below. of_answer read.answer refl from below) low high
      where
        of_answer : (answer : Option (List ℕ)) → read.answer ≡ answer → read.place ≤ sector → sector < read.place + read.sectors → IfSome answer (λ bytes. sector_of bytes (sector - read.place) ≡ content)
        of_answer None e from below = tt
        of_answer (Some bytes) e from below = answer_is (parts_of o) x past node read sector content bytes will_it e from below

-- it is over then, or goes on
pub answered_taken : (k : Streaming) → IsSome (answer_in k.asks) → (asked_in (answered k).asks ≡ None) × (answer_in (answered k).asks ≡ None)
answered_taken k is = by k.asks is
  where
    by : (asks : Option Asking) → IsSome (answer_in asks) → (asked_in (answered (record k { asks = asks })).asks ≡ None) × (answer_in (answered (record k { asks = asks })).asks ≡ None)
    by None some = absurd cc
    by (Some read) some = of_answer read.answer refl some
      where
        of_answer : (answer : Option (List ℕ)) → read.answer ≡ answer → IsSome answer → (asked_in (answered (record k { asks = Some read })).asks ≡ None) × (answer_in (answered (record k { asks = Some read })).asks ≡ None)
        of_answer None e none = absurd cc
        of_answer (Some bytes) e here = rw e (refl, refl)

pub answered_waits : (k : Streaming) → IsNone (answer_in k.asks) → (asked_in (answered k).asks ≡ asked_in k.asks) × (answer_in (answered k).asks ≡ None)
answered_waits k is = by k.asks is
  where
    by : (asks : Option Asking) → IsNone (answer_in asks) → (asked_in (answered (record k { asks = asks })).asks ≡ asked_in asks) × (answer_in (answered (record k { asks = asks })).asks ≡ None)
    by None none = (refl, refl)
    by (Some read) none = of_answer read.answer refl none
      where
        of_answer : (answer : Option (List ℕ)) → read.answer ≡ answer → IsNone answer → (asked_in (answered (record k { asks = Some read })).asks ≡ asked_in (Some read)) × (answer_in (answered (record k { asks = Some read })).asks ≡ None)
        of_answer None e here = rw e (refl, refl)
        of_answer (Some bytes) e some = absurd cc

pub answered_after : (o new : DeviceMachines) (node : ℕ) (result : Option (List ℕ)) → result ≡ answer_of o node → stream_of new node ≡ answered (stream_of o node) → IsSome result → (asked_of new node ≡ None) × (answer_of new node ≡ None)
answered_after o new node result is left some =
    subst (λ (k : Streaming). (asked_in k.asks ≡ None) × (answer_in k.asks ≡ None)) (sym left) (answered_taken (stream_of o node) (subst (λ (r : Option (List ℕ)). IsSome r) is some))

pub answered_before : (o new : DeviceMachines) (node : ℕ) (result : Option (List ℕ)) → result ≡ answer_of o node → stream_of new node ≡ answered (stream_of o node) → IsNone result → (asked_of new node ≡ asked_of o node) × (answer_of new node ≡ None)
answered_before o new node result is left none =
    subst (λ (k : Streaming). (asked_in k.asks ≡ asked_of o node) × (answer_in k.asks ≡ None)) (sym left) (answered_waits (stream_of o node) (subst (λ (r : Option (List ℕ)). IsNone r) is none))
