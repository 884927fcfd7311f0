-- What a step of cleaning an area gives.
use Rattle.std.proofs.Common.{◌≡◌, ℕ, ◌+◌, ◌*◌, ◌<◌, ◌≤◌, arith, true, false, List, Option, Some, None, Result, Ok, Err, sym, ap, subst, ◌∙◌}
use Rattle.std.specs.Prelude.{IfOk}
use Rattle.bx_base.specs.declared.memory.OutOfMemory.{OutOfMemory as NoMemory}
use Rattle.bx_base.specs.declared.names.Mode.{Mode}
use Rattle.bx_base.specs.declared.names.Mode.TheVariants.{Exclusive, Shared}
use Rattle.bx_changes.specs.Growing.{LeavesTrees}
use Rattle.bx_chunks.specs.Marking.{FindsDeadAt, FindsDeadIn, IsFirstDead}
use Rattle.bx_chunks.specs.declared.error.ChunkError.{ChunkError}
use Rattle.bx_chunks.specs.declared.error.ChunkError.TheVariants.{Need as Wants, Stale, Full, OutOfMemory, Crowded}
use Rattle.bx_chunks.proofs.Dead.{finds_dead}
use Rattle.bx_layout.specs.Areas.{generation_in}
use Rattle.bx_model.specs.declared.tree.Tree.{Tree}
use Rattle.bx_places.specs.Places.{is_block}
use Rattle.bx_records.specs.Drafts.{Changed}
use Rattle.bx_truth.specs.Chunks.{chunks_of, handle_of, word_at}
use Rattle.bx_truth.specs.Dying.{IsDeadFile}
use Rattle.bx_truth.specs.Stands.{StandsFor}
use Rattle.bx_truth.proofs.Put.{some_there}
use Rattle.bx_truth.proofs.Same.{chunk_is}
use Rattle.bx_views.specs.Truths.{Truth, Held, Hints, IsTruth, with_draft}
use Rattle.bx_inodes.specs.Fitting.{HintsFitAll}
use Rattle.bx_clean.specs.Cleaning.{Cleans}
use Rattle.bx_clean.specs.declared.tidying.Tidied.{Tidied}
use Rattle.bx_clean.specs.Falling.{Falls}
use Rattle.bx_clean.specs.Tidying.{HoldsDraft, IsClean, WritesThree, NeedsFor, OnTidyPath, Stops, TidiesAt, TidiesIn, clean, cleans, stopped, unread}
use Rattle.bx_clean.specs.Trees.{CleansFile}
use Rattle.bx_clean.proofs.Found.{IsWant}
use Rattle.bx_clean.proofs.HeldOnes.{held_of}
use Rattle.bx_clean.proofs.Needed.{IsNeed, NeedsOf, needs_of, own_there}
use Rattle.bx_clean.proofs.WholeFile.{cleans_in}

no_way : ◌≡◌ true false → ⊥
no_way e = absurd cc

module _ (areas area : ℕ) (held : Held) where
  abbrev Step : Type 0
  Step = Result Tidied NoMemory

  -- ---- for a truth

  module _ (hints : Hints) (truth : Truth) (few : areas ≤ 64) (less : area < areas) (same : IsTruth held truth) (fit : HintsFitAll areas hints truth) where
    dead_is : (T : Tree) (is : StandsFor areas truth T) (handle : ℕ) → IsFirstDead truth area handle → IsDeadFile areas truth T is handle
    dead_is T is handle f =
        let slot = f.there in
        let m = is.marks.marked (1024 * area + f.slot) (record { area = omega (arith, less, slot); slot = omega (arith, slot) }) f.dead in
        let c = some_there (chunks_of areas truth m.0) m.2 in
        let names : m.0 ≡ handle = (chunk_is areas truth m.0 c.0 c.1).is_handle ∙ ap (λ (b : ℕ). handle_of b (generation_in (word_at truth b))) m.1 ∙ sym f.handle_is in
        subst (IsDeadFile areas truth T is) names (record { there = m.2; itself = m.3; kind = m.4 })

    not_clean : (handle : ℕ) → IsFirstDead truth area handle → IsClean truth area → ⊥
    not_clean handle f all = no_way (sym f.dead ∙ all f.slot f.there)

    leaves : (T : Tree) (is : StandsFor areas truth T) (handle : ℕ) (draft : List Changed) → IsFirstDead truth area handle → CleansFile held areas handle (Ok draft) → LeavesTrees areas truth draft
    leaves T is handle draft f c =
        let step : (other : Tree) (o : StandsFor areas truth other) → Cleans areas truth (with_draft truth draft) other × Falls areas truth (with_draft truth draft) =
        λ other o. cleans_in areas held hints truth other handle few same o fit (dead_is other o handle f) (Ok draft) c in
        record {
          stands = λ volume other s. record { is = (step other s.is).0.stands; volume_is = s.volume_is; file_tree = s.file_tree };
          leads = (step T is).0.leads;
        }

    wanted : (error : ChunkError) → IsWant error → (result : Step) → Stops error result → IfOk result (TidiesIn areas truth area)
    wanted (Wants at mode) want result e = subst (λ (r : Step). IfOk r (TidiesIn areas truth area)) (sym e) tt
    wanted OutOfMemory want (Err error) s = tt
    wanted OutOfMemory want (Ok tidied) s = absurd s
    wanted Stale want result e = absurd want
    wanted Crowded want result e = absurd want
    wanted (Full spare) want result e = absurd want

    finds : (T : Tree) → StandsFor areas truth T → (r : Result (Option ℕ) ChunkError) → FindsDeadAt held area r → FindsDeadIn area truth r
    finds T is r f = finds_dead areas held truth area less same is.chunked r f

    finding : (T : Tree) → StandsFor areas truth T → (error : ChunkError) → FindsDeadAt held area (Err error) → IsWant error
    finding T is (Wants at mode) f = tt
    finding T is OutOfMemory f = tt
    finding T is Stale f = finds T is (Err Stale) f
    finding T is Crowded f = f
    finding T is (Full spare) f = f

    pub tidies_in : (T : Tree) → StandsFor areas truth T → (result : Step) → TidiesAt held areas area result → IfOk result (TidiesIn areas truth area)
    tidies_in T is result (unread error f s) = wanted error (finding T is error f) result s
    tidies_in T is result (clean f e) = subst (λ (r : Step). IfOk r (TidiesIn areas truth area)) (sym e) (finds T is (Ok None) f)
    tidies_in T is result (stopped handle error f c s) =
        let first = finds T is (Ok (Some handle)) f in
        wanted error (cleans_in areas held hints truth T handle few same is fit (dead_is T is handle first) (Err error) c) result s
    tidies_in T is result (cleans handle draft f c e) =
        let first = finds T is (Ok (Some handle)) f in
        subst (λ (r : Step). IfOk r (TidiesIn areas truth area)) (sym e)
        (not_clean handle first, leaves T is handle draft first c, (cleans_in areas held hints truth T handle few same is fit (dead_is T is handle first) (Ok draft) c).1)

  -- ---- what is needed

  module _ (less : area < areas) where
    on_path : (handle : ℕ) → FindsDeadAt held area (Ok (Some handle)) → (at : ℕ) (mode : Mode) → mode ≡ Exclusive → IsNeed areas held handle at mode → OnTidyPath held areas area at mode
    on_path handle f at mode e n = subst (OnTidyPath held areas area at) (sym e) (record { handle = handle; dead = f; of = n.of; is = n.leads_to; at_is = n.at_is })

    need_stops : (handle : ℕ) → FindsDeadAt held area (Ok (Some handle)) → (error : ChunkError) → NeedsOf areas held handle {X = List Changed} (Err error) → (result : Step) → Stops error result
        → IfOk result (NeedsFor areas held area)
    need_stops handle f (Wants at mode) n result e = subst (λ (r : Step). IfOk r (NeedsFor areas held area)) (sym e) (n.is, n.missing, on_path handle f at mode n.mode_is n)
    need_stops handle f OutOfMemory n (Err error) s = tt
    need_stops handle f OutOfMemory n (Ok tidied) s = absurd s
    need_stops handle f Stale n result e = subst (λ (r : Step). IfOk r (NeedsFor areas held area)) (sym e) tt
    need_stops handle f Crowded n result e = subst (λ (r : Step). IfOk r (NeedsFor areas held area)) (sym e) tt
    need_stops handle f (Full spare) n result e = subst (λ (r : Step). IfOk r (NeedsFor areas held area)) (sym e) tt

    find_stops : (error : ChunkError) → FindsDeadAt held area (Err error) → (result : Step) → Stops error result → IfOk result (NeedsFor areas held area)
    find_stops (Wants at mode) f result e =
        subst (λ (r : Step). IfOk r (NeedsFor areas held area)) (sym e) (
          subst (λ (n : ℕ). is_block areas n ≡ true) (sym f.1) (own_there areas area less),
          subst (λ (m : Mode). held at m ≡ None) (sym f.2) (subst (λ (n : ℕ). held n Shared ≡ None) (sym f.1) f.0),
          subst (OnTidyPath held areas area at) (sym f.2) f.1,
        )
    find_stops OutOfMemory f (Err error) s = tt
    find_stops OutOfMemory f (Ok tidied) s = absurd s
    find_stops Stale f result e = subst (λ (r : Step). IfOk r (NeedsFor areas held area)) (sym e) tt
    find_stops Crowded f result e = subst (λ (r : Step). IfOk r (NeedsFor areas held area)) (sym e) tt
    find_stops (Full spare) f result e = subst (λ (r : Step). IfOk r (NeedsFor areas held area)) (sym e) tt

    pub needs_for : (result : Step) → TidiesAt held areas area result → IfOk result (NeedsFor areas held area)
    needs_for result (unread error f s) = find_stops error f result s
    needs_for result (clean f e) = subst (λ (r : Step). IfOk r (NeedsFor areas held area)) (sym e) tt
    needs_for result (stopped handle error f c s) = need_stops handle f error (needs_of areas held handle (Err error) c) result s
    needs_for result (cleans handle draft f c e) = subst (λ (r : Step). IfOk r (NeedsFor areas held area)) (sym e) tt

  -- ---- what is written

  stop_holds : (error : ChunkError) (result : Step) → Stops error result → IfOk result (HoldsDraft held)
  stop_holds (Wants at mode) result e = subst (λ (r : Step). IfOk r (HoldsDraft held)) (sym e) tt
  stop_holds OutOfMemory (Err error) s = tt
  stop_holds OutOfMemory (Ok tidied) s = absurd s
  stop_holds Stale result e = subst (λ (r : Step). IfOk r (HoldsDraft held)) (sym e) tt
  stop_holds Crowded result e = subst (λ (r : Step). IfOk r (HoldsDraft held)) (sym e) tt
  stop_holds (Full spare) result e = subst (λ (r : Step). IfOk r (HoldsDraft held)) (sym e) tt

  pub holds_draft : (result : Step) → TidiesAt held areas area result → IfOk result (HoldsDraft held)
  holds_draft result (unread error f s) = stop_holds error result s
  holds_draft result (clean f e) = subst (λ (r : Step). IfOk r (HoldsDraft held)) (sym e) tt
  holds_draft result (stopped handle error f c s) = stop_holds error result s
  holds_draft result (cleans handle draft f c e) = subst (λ (r : Step). IfOk r (HoldsDraft held)) (sym e) (held_of held areas handle (Ok draft) c).0

  stop_writes : (error : ChunkError) (result : Step) → Stops error result → IfOk result WritesThree
  stop_writes (Wants at mode) result e = subst (λ (r : Step). IfOk r WritesThree) (sym e) tt
  stop_writes OutOfMemory (Err error) s = tt
  stop_writes OutOfMemory (Ok tidied) s = absurd s
  stop_writes Stale result e = subst (λ (r : Step). IfOk r WritesThree) (sym e) tt
  stop_writes Crowded result e = subst (λ (r : Step). IfOk r WritesThree) (sym e) tt
  stop_writes (Full spare) result e = subst (λ (r : Step). IfOk r WritesThree) (sym e) tt

  pub writes_three : (result : Step) → TidiesAt held areas area result → IfOk result WritesThree
  writes_three result (unread error f s) = stop_writes error result s
  writes_three result (clean f e) = subst (λ (r : Step). IfOk r WritesThree) (sym e) tt
  writes_three result (stopped handle error f c s) = stop_writes error result s
  writes_three result (cleans handle draft f c e) = subst (λ (r : Step). IfOk r WritesThree) (sym e) (held_of held areas handle (Ok draft) c).1
