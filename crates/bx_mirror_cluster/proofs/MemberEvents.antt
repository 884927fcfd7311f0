-- All that a member does in one event, as an event of the whole store: it learns the state, begins a copy where its row says so, and takes what comes.
use Rattle.std.proofs.Common.{◌≡◌, ◌≢◌, ◌⊎◌, inl, inr, ℕ, ◌+◌, ◌-◌, ◌*◌, ◌/◌, ◌<◌, ◌≤◌, Bool, true, false, List, [], ◌++◌, min, Option, Some, None, refl, sym, ◌∙◌, ap, subst, arith}
use Rattle.std.specs.Prelude.{◌==◌, ◌&&◌, not, slice_get, if◌then◌else◌}
use Rattle.std.proofs.lemmas.Bool.Decides.{nat_tests}
use Rattle.std.proofs.lemmas.List.{append_assoc}
use Rattle.std.proofs.lemmas.Option.{slice_get_cases}
use Rattle.bx_base.specs.declared.names.Actor.{Actor}
use Rattle.bx_base.specs.declared.names.Actor.TheVariants.{Member}
use Rattle.bx_disk.specs.Disks.{Disks, Stays}
use Rattle.bx_facts.proofs.Following.{still_comes}
use Rattle.bx_facts.proofs.Machines.{here}
use Rattle.bx_facts.specs.Chains.{IsPlace}
use Rattle.bx_facts.specs.Disks.{SameMemberLengths}
use Rattle.bx_facts.specs.Inputs.{IsComing as Arrives, IsSteady, greatest_with}
use Rattle.bx_facts.specs.Machines.{put_at}
use Rattle.bx_facts.specs.Writes.{StorePast, member_disk, store_heard, store_room, store_with}
use Rattle.bx_facts.specs.declared.input.Input.{Input}
use Rattle.bx_facts.specs.declared.input.Input.TheVariants.{Packet, Tick, Synced}
use Rattle.bx_global.specs.declared.change.Change.{Change}
use Rattle.bx_global.specs.declared.state.GlobalState.{GlobalState}
use Rattle.bx_post.specs.declared.packets.Letter.{Letter}
use Rattle.bx_rows.specs.declared.device.DeviceRow.{DeviceRow}
use Rattle.bx_mirror_member.specs.Standing.{MemberView as Serving, copies, device_in, first_piece, first_piece_in, is_news, learned, learned_row, piece_at, room_in, with_row}
use Rattle.bx_mirror_member.specs.declared.copies.Piece.{Piece}
use Rattle.bx_mirror_client.specs.Sends.{member_at}
use Rattle.bx_mirror_server.specs.Serving.{Does, OfInput, SendsAny, SendsPiece}
use Rattle.bx_mirror_cluster.specs.Fitting.{Keeps, Parts}
use Rattle.bx_mirror_cluster.specs.GoesFurther.{GoesFurther}
use Rattle.bx_mirror_cluster.specs.Learning.{with_clock}
use Rattle.bx_mirror_cluster.specs.MemberSteps.{IsFor, MayServe, history_of, served, with_member, with_serving}
use Rattle.bx_mirror_cluster.proofs.MemberActs.{piece_goes}
use Rattle.bx_mirror_cluster.proofs.MemberInputs.{input_goes}
use Rattle.bx_mirror_cluster.proofs.MemberLearns.{begins_then, fixed_then, is_row, knew_else, learn_goes, learn_step, source_then}
use Rattle.bx_mirror_cluster.proofs.MemberMoves.{both_go, clock_goes, plain_goes}
use Rattle.bx_mirror_cluster.proofs.MemberOwn.{own_device}
use Rattle.bx_mirror_cluster.proofs.MemberQuiet.{quiet_goes, quiet_step}

same_or : (n m : ℕ) → (n ≡ m) ⊎ (n ≢ m)
same_or n m = grind arith

-- a member that was put in is there, and one put in after it
pub serving_here : (parts : Parts) (n : ℕ) (m : Serving) → (with_serving parts n m).members n ≡ m
serving_here parts n m = let it : (n == n) ≡ true = grind (arith, nat_tests) in ap (λ (t : Bool). if t then m else parts.members n) it

pub serving_again : (parts : Parts) (n : ℕ) (m new : Serving) → with_serving (with_serving parts n m) n new ≡ with_serving parts n new
serving_again parts n m new = λ i. record { made = parts.made; members = λ k. (each k) i; nodes = parts.nodes }
  where
    each : (k : ℕ) → with_member (with_member parts.members n m) n new k ≡ with_member parts.members n new k
    each k = elim (same_or k n) [
      | inl e ↦ (let it : (k == n) ≡ true = grind (arith, nat_tests, e) in ap (λ (t : Bool). if t then new else with_member parts.members n m k) it ∙ sym (ap (λ (t : Bool). if t then new else parts.members k) it))
      | inr e ↦ (let other : (k == n) ≡ false = grind (arith, nat_tests, e) in ap (λ (t : Bool). if t then new else with_member parts.members n m k) other ∙ ap (λ (t : Bool). if t then m else parts.members k) other ∙ sym (ap (λ (t : Bool). if t then new else parts.members k) other))
    ]

rises_with : (greatest : ℕ) (input : Input) → greatest ≤ greatest_with greatest input
rises_with greatest (Packet packet reading) = omega arith
rises_with greatest (Tick reading) = omega arith
rises_with greatest Synced = omega arith

pub steady_with : (greatest : ℕ) (input : Input) → IsSteady greatest input → IsSteady (greatest_with greatest input) input
steady_with greatest (Packet packet reading) steady = omega (arith, steady)
steady_with greatest (Tick reading) steady = omega (arith, steady)
steady_with greatest Synced steady = tt

more_room : (k : ℕ) → 1 < 9345 + 8649 * k
more_room k = omega arith

module _ (parts : Parts) (x y : Disks) (past : StorePast) (d : ℕ) (b : Bool) (within : d < parts.made.devices) (before after : List Letter) (keeps : Keeps parts x (store_with past before)) (known : GlobalState)
    (serve : MayServe parts (store_with past before) (member_at d b) known) (input : Input) (arrives : Arrives (past.told.letters ++ before) input) (for_it : IsFor (Member (member_at d b)) input) (steady : IsSteady past.told.greatest input)
    (disks : (k s : ℕ) → k ≢ member_disk d b → Stays x y k s) (lengths : SameMemberLengths x y) (new : Serving) (change : Option Change) where
  abbrev n : ℕ
  n = member_at d b

  abbrev was : Serving
  was = parts.members n

  abbrev past_first : StorePast
  past_first = store_with past before

  abbrev past_timed : StorePast
  past_timed = with_clock past_first (greatest_with past.told.greatest input)

  abbrev knew_next : Actor → ℕ
  knew_next = put_at (Member n) known.index past.told.knew

  -- the past once it knows the state, with these letters
  abbrev past_known : List Letter → StorePast
  past_known letters = served past_timed (past.told.letters ++ letters) past.told.handed knew_next

  timed : GoesFurther parts parts x x past_first past_timed
  timed = clock_goes parts x past_first (greatest_with past.told.greatest input) (rises_with past.told.greatest input) keeps

  some_room : 1 < store_room parts.made
  some_room = more_room ((parts.made.areas + parts.made.devices - 1) / parts.made.devices)

  device_is : device_in was ≡ d
  device_is = own_device was d b serve.itself

  -- ---- where its device's row is this

  module _ (row : DeviceRow) (there : slice_get known.devices d ≡ Some row) where
    at_device : slice_get known.devices (device_in was) ≡ Some row
    at_device = ap (λ (k : ℕ). slice_get known.devices k) device_is ∙ there

    is_learned : learned known was ≡ learned_row was (Some row)
    is_learned = ap (learned_row was) at_device

    begins_is : first_piece known was ≡ first_piece_in was (Some row)
    begins_is = ap (first_piece_in was) at_device

    less : row.mode < 5
    less = serve.modes d row there

    -- it knows this row
    know_row : (r : DeviceRow) → was.row ≡ Some r → is_news was.row row ≡ false → r ≡ row
    know_row r e old = by_test (r.epoch == row.epoch) refl (sym (ap (λ (o : Option DeviceRow). is_news o row) e) ∙ old)
      where
        by_test : (t : Bool) → (r.epoch == row.epoch) ≡ t → not t ≡ false → r ≡ row
        by_test true same fine =
            let sound = timed.keeps.devices d within in let epochs : r.epoch ≡ row.epoch = grind (arith, nat_tests, same) in
            sound.rows.same r row (sound.rows.known b r e) (is_row parts x past_timed timed.keeps d b within serve.up serve.itself known serve.place serve.rises row there) epochs
        by_test false other wrong = absurd cc

    knows_not_old : was.row ≡ None → is_news was.row row ≡ false → ⊥
    knows_not_old e old = let wrong : true ≡ false = sym (ap (λ (o : Option DeviceRow). is_news o row) e) ∙ old in cc

    learns_new : is_news was.row row ≡ true → GoesFurther parts (with_serving parts n (with_row was row)) x x past_timed (past_known before)
    learns_new news =
        let t = copies was row in
        plain_goes parts x x past_timed timed.keeps d b (with_row was row) (past.told.letters ++ before) past.told.handed knew_next _
        (learn_step parts x past_timed timed.keeps d b within serve.up serve.itself known serve.place serve.rises row there news (source_then parts x past_timed timed.keeps d b within serve.up serve.itself known serve.place serve.rises row there news (copies was row))
        (fixed_then parts x past_timed timed.keeps d b within serve.up serve.itself known serve.place serve.rises row there news less (copies was row) refl) (begins_then parts x past_timed timed.keeps d b within serve.up serve.itself known serve.place serve.rises row there news less (copies was row) refl))
        (λ k e session epoch tag bytes a. a)
        (λ From sector content low high only stands. learn_goes parts x past_timed timed.keeps d b within serve.up serve.itself known serve.place serve.rises row there news
        (source_then parts x past_timed timed.keeps d b within serve.up serve.itself known serve.place serve.rises row there news (copies was row))
        (fixed_then parts x past_timed timed.keeps d b within serve.up serve.itself known serve.place serve.rises row there news less (copies was row) refl) (begins_then parts x past_timed timed.keeps d b within serve.up serve.itself known serve.place serve.rises row there news less (copies was row) refl)
        From sector content low high stands)

    learns_old : is_news was.row row ≡ false → GoesFurther parts (with_serving parts n was) x x past_timed (past_known before)
    learns_old old = plain_goes parts x x past_timed timed.keeps d b was (past.told.letters ++ before) past.told.handed knew_next (history_of timed.keeps.history d)
        (quiet_step parts x past_timed timed.keeps d b within serve.up serve.itself was serve.itself refl refl refl refl knew_next others its)
        (λ k e session epoch tag bytes a. a)
        (λ From sector content low high only stands. quiet_goes parts x past_timed timed.keeps d b within serve.up serve.itself was serve.itself refl refl refl refl knew_next others its From sector content stands)
      where
        others : (who : Actor) → who ≢ Member n → knew_next who ≡ past.told.knew who
        others = knew_else parts x past_timed timed.keeps d b within serve.up serve.itself known serve.place serve.rises row there

        its : (r : DeviceRow) → was.row ≡ Some r → (s : GlobalState) × IsPlace past.told.chain s × (s.index ≡ knew_next (Member n)) × (slice_get s.devices d ≡ Some r)
        its r e = (known, serve.place, sym (here (Member n) known.index past.told.knew), there ∙ ap (λ (k : DeviceRow). Some k) (sym (know_row r e old)))

    -- ---- what comes is taken by a member that knows the row

    module _ (m : Serving) (between : List Letter) (knows : GoesFurther parts (with_serving parts n m) x x past_timed (past_known between)) (number : m.number ≡ n) (made : m.made ≡ parts.made) (below : m.place < store_room parts.made)
        (quiet : m.due ≡ false → m.owed ≡ []) (modes : (r : DeviceRow) → m.row ≡ Some r → r.mode < 5) (comes : Arrives (past.told.letters ++ between) input) (does : OfInput (Unit {0}) input m new change between after x y) where
      abbrev parts_known : Parts
      parts_known = with_serving parts n m

      at : parts_known.members n ≡ m
      at = serving_here parts n m

      taken : GoesFurther parts_known (with_serving parts_known n new) x y (past_known between) (store_with (store_heard past (Member n) known.index input change) after)
      taken = input_goes parts_known x y (past_known between) knows.keeps d b within serve.up (ap (λ (q : Serving). q.number) at ∙ number) (ap (λ (q : Serving). q.made) at ∙ made) serve.few serve.room
          (subst (λ (q : Serving). q.place < store_room parts.made) (sym at) below) (subst (λ (q : Serving). q.due ≡ false → q.owed ≡ []) (sym at) quiet) (subst (λ (q : Serving). (r : DeviceRow) → q.row ≡ Some r → r.mode < 5) (sym at) modes)
          disks lengths past.told.letters between after refl new change input comes for_it (steady_with past.told.greatest input steady) (subst (λ (q : Serving). OfInput (Unit {0}) input q new change between after x y) (sym at) does)

      known_takes : GoesFurther parts (with_serving parts n new) x y past_first (store_with (store_heard past (Member n) known.index input change) after)
      known_takes = subst (λ (p : Parts). GoesFurther parts p x y past_first (store_with (store_heard past (Member n) known.index input change) after)) (serving_again parts n m new)
          (both_go parts parts_known (with_serving parts_known n new) x x y past_first (past_known between) (store_with (store_heard past (Member n) known.index input change) after)
          (both_go parts parts parts_known x x x past_first past_timed (past_known between) timed knows) taken)

    -- ---- its row is new, or isn't

    place_below : (t : Bool) → (if t then 1 else 0) < store_room parts.made
    place_below true = some_room
    place_below false = let some = some_room in omega (arith, some)

    new_row : is_news was.row row ≡ true → (between : List Letter) → GoesFurther parts (with_serving parts n (with_row was row)) x x past_timed (past_known between) → Arrives (past.told.letters ++ between) input → OfInput (Unit {0}) input (with_row was row) new change between after x y
        → GoesFurther parts (with_serving parts n new) x y past_first (store_with (store_heard past (Member n) known.index input change) after)
    new_row news between knows comes does = known_takes (with_row was row) between knows serve.itself serve.made (place_below (copies was row)) serve.quiet (λ r e. let same : row ≡ r = cc in subst (λ (k : DeviceRow). k.mode < 5) same less) comes does

    copy_begins : is_news was.row row ≡ true → copies was row ≡ true → (between : List Letter) → SendsPiece (Unit {0}) (with_row was row) (piece_at was row.epoch 1) x before between → GoesFurther parts (with_serving parts n (with_row was row)) x x past_timed (past_known between)
    copy_begins news copying between sends =
        let first = learns_new news in
        let q : Parts = with_serving parts n (with_row was row) in
        let at = serving_here parts n (with_row was row) in
        both_go parts q q x x x past_timed (past_known before) (past_known between) first
        (piece_goes q x (past_known before) first.keeps d b within serve.up (ap (λ (z : Serving). z.number) at ∙ serve.itself) (ap (λ (z : Serving). z.made) at ∙ serve.made) serve.few serve.room row (ap (λ (z : Serving). z.row) at) (subst (λ (z : Serving). copies z row ≡ true) (sym at) copying) 1
        (omega arith) some_room before between past.told.letters refl (subst (λ (z : Serving). SendsPiece (Unit {0}) z (record { epoch = row.epoch; place = 1; sectors = min 64 (room_in z - 1) }) x before between) (sym at) sends))

    row_takes : (between : List Letter) → SendsAny (Unit {0}) (learned_row was (Some row)) (first_piece_in was (Some row)) x before between → OfInput (Unit {0}) input (learned_row was (Some row)) new change between after x y
        → GoesFurther parts (with_serving parts n new) x y past_first (store_with (store_heard past (Member n) known.index input change) after)
    row_takes between begins does = by_news (is_news was.row row) refl begins does
      where
        by_news : (t : Bool) → is_news was.row row ≡ t → SendsAny (Unit {0}) (if t then with_row was row else was) (if t && copies was row then Some (piece_at was row.epoch 1) else None) x before between → OfInput (Unit {0}) input (if t then with_row was row else was) new change between after x y
            → GoesFurther parts (with_serving parts n new) x y past_first (store_with (store_heard past (Member n) known.index input change) after)
        by_news false old none takes =
            let knows = subst (λ (ls : List Letter). GoesFurther parts (with_serving parts n was) x x past_timed (past_known ls)) (sym none) (learns_old old) in
            known_takes was between knows serve.itself serve.made serve.below serve.quiet (λ r e. subst (λ (k : DeviceRow). k.mode < 5) (sym (know_row r e old)) less) (subst (λ (ls : List Letter). Arrives (past.told.letters ++ ls) input) (sym none) arrives) takes
        by_news true news sends takes = by_copies (copies was row) refl sends
          where
            by_copies : (c : Bool) → copies was row ≡ c → SendsAny (Unit {0}) (with_row was row) (if c then Some (piece_at was row.epoch 1) else None) x before between → GoesFurther parts (with_serving parts n new) x y past_first (store_with (store_heard past (Member n) known.index input change) after)
            by_copies false no_copy none =
                new_row news between (subst (λ (ls : List Letter). GoesFurther parts (with_serving parts n (with_row was row)) x x past_timed (past_known ls)) (sym none) (learns_new news)) (subst (λ (ls : List Letter). Arrives (past.told.letters ++ ls) input) (sym none) arrives) takes
            by_copies true copying one = new_row news between (copy_begins news copying between one)
                (subst (λ (ls : List Letter). Arrives ls input) (append_assoc past.told.letters before _ ∙ ap (λ (ls : List Letter). past.told.letters ++ ls) (sym one.sends)) (still_comes (past.told.letters ++ before) _ input arrives)) takes

  pub member_takes : Does (Unit {0}) known input was new change before after x y → GoesFurther parts (with_serving parts n new) x y past_first (store_with (store_heard past (Member n) known.index input change) after)
  member_takes does = elim (slice_get_cases known.devices d).1 [
    | inl k ↦ row_takes k.0 k.2 does.between
        (subst (λ (o : Option Piece). SendsAny (Unit {0}) (learned_row was (Some k.0)) o x before does.between) (begins_is k.0 k.2) (subst (λ (q : Serving). SendsAny (Unit {0}) q (first_piece known was) x before does.between) (is_learned k.0 k.2) does.begins))
        (subst (λ (q : Serving). OfInput (Unit {0}) input q new change does.between after x y) (is_learned k.0 k.2) does.does)
    | inr far ↦ absurd (let count = keeps.count known serve.place in let past_it = far.0 in omega (arith, past_it, count, within))
  ]

  -- it only learns the state
  pub only_learns : GoesFurther parts (with_serving parts n (learned known was)) x x past_first (past_known before)
  only_learns = elim (slice_get_cases known.devices d).1 [
    | inl k ↦ subst (λ (q : Serving). GoesFurther parts (with_serving parts n q) x x past_first (past_known before)) (sym (is_learned k.0 k.2)) (by_news k.0 k.2 (is_news was.row k.0) refl)
    | inr far ↦ absurd (let count = keeps.count known serve.place in let past_it = far.0 in omega (arith, past_it, count, within))
  ]
    where
      by_news : (row : DeviceRow) → slice_get known.devices d ≡ Some row → (t : Bool) → is_news was.row row ≡ t → GoesFurther parts (with_serving parts n (if t then with_row was row else was)) x x past_first (past_known before)
      by_news row there true news = both_go parts parts (with_serving parts n (with_row was row)) x x x past_first past_timed (past_known before) timed (learns_new row there news)
      by_news row there false old = both_go parts parts (with_serving parts n was) x x x past_first past_timed (past_known before) timed (learns_old row there old)
