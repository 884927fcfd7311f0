-- What disks tell of the calls in doubt, slot by slot: the truth that they hold stands for the tree after those whose records are open.
use Rattle.std.proofs.Common.{◌≡◌, inl, inr, ℕ, zero, suc, ◌<◌, ◌≤◌, true, false, List, [], ◌∷◌, ◌++◌, Option, Some, None, refl, sym, ◌∙◌, ap, subst, arith}
use Rattle.std.specs.Prelude.{IsSomeAnd, filter}
use Rattle.std.proofs.lemmas.List.{append-nil}
use Rattle.std.proofs.lemmas.List.Elements.{filter-append}
use Rattle.bx_base.specs.declared.names.Point.{Point}
use Rattle.bx_closings.proofs.Doubts.{there_is}
use Rattle.bx_closings.proofs.Numbers.{lacks_one}
use Rattle.bx_closings.proofs.Points.{none_of, one_more, points_at, points_to}
use Rattle.bx_closings.proofs.Rows.{found_is, found_some}
use Rattle.bx_closings.specs.Doubts.{doubts_by, point_by, row_at}
use Rattle.bx_cluster.specs.Closing.{Doubt, Tells, lacks_point}
use Rattle.bx_cluster.specs.Runs as runs
use Rattle.bx_cluster.specs.Runs.{deed_of}
use Rattle.bx_facts.specs.Chains.{HasRow, LivesIn}
use Rattle.bx_facts.specs.Holds.{Holds}
use Rattle.bx_global.specs.Allowed.{IsAllowed}
use Rattle.bx_global.specs.declared.state.GlobalState.{GlobalState}
use Rattle.bx_history.specs.Account.{entry_for}
use Rattle.bx_history.specs.Parts.{Part, trace_of}
use Rattle.bx_history.specs.Trace.{taking_of}
use Rattle.bx_logs.specs.Bodies.{point_of}
use Rattle.bx_records.specs.Drafts.{Changed}
use Rattle.bx_rows.specs.Words.{is_taken, row_in}
use Rattle.bx_rows.specs.declared.session.SessionRow.{SessionRow}
use Rattle.bx_views.specs.Attempts.{Deed}
use Rattle.bx_views.specs.Truths.{Held, Hints, Truth, no_hints, with_draft}
use Rattle.bx_volume.specs.Overlay.{Logs}
use Rattle.bx_volume.specs.Records.{Logged}
use Rattle.bx_world.specs.Doubts.{AreOfTaken, HavePoints, IsOfTaken}
use Rattle.bx_world_logs.proofs.Activities.{opens_begins}
use Rattle.bx_world_logs.specs.Logs.{Slot, begins, opens}
use Rattle.bx_world_logs.specs.Shown.{ShowsSlot, ShowsTo}
use Rattle.bx_world_standing.specs.Doubts.{DoubtsStand, IsActOf, IsRecordOf}
use Rattle.bx_world_views.proofs.Doubts.{without_doubt, without_only}
use Rattle.bx_world_views.proofs.Steps.{acked}
use Rattle.bx_world_views.specs.Views as views
use Rattle.bx_world_views.specs.Views.{Act, OfCall, OfTidy, StepOf, VolumeStands}
use Rattle.bx_world_volumes.proofs.Trees.{nobody, nothing, unhinted}

some_doubt : (found : Option views.Unacknowledged) (P : views.Unacknowledged → Type 0) → IsSomeAnd found P → (doubt : views.Unacknowledged) × (found ≡ Some doubt) × P doubt
some_doubt None P is = absurd is
some_doubt (Some doubt) P is = (doubt, refl, is)

module _ {T : Type 0} (Stands : Truth → Hints → T → Type 0) (Step : T → Deed → T → Type 0) (parts : List Part) (s : GlobalState) (allowed : IsAllowed s) (logs : Logs) (slots : ℕ → Slot) (holding : Holds) (doubts : ℕ → Option views.Unacknowledged)
    (doubted : DoubtsStand s.sessions slots doubts) (of_taken : AreOfTaken parts s.sessions slots doubts) (have : HavePoints parts logs) (zero_lacks : lacks_point (trace_of parts) 0 ≡ false)
    (is_open : (slot : ℕ) → slot < 8 → opens (slots slot).activity ≡ true → is_taken s.sessions slot ≡ true) where
  abbrev mine : ℕ → Option Doubt
  mine = doubts_by (trace_of parts) s.sessions slots doubts

  abbrev lacked : List Point → List Point
  lacked points = filter (λ point. lacks_point (trace_of parts) point.call) points

  -- what stands of the volume, with no node
  abbrev Alone : (ℕ → Option views.Unacknowledged) → Truth → T → Type 0
  Alone left truth tree = VolumeStands Stands Step holding (HasRow s) (LivesIn s) nobody nothing unhinted left truth tree

  -- what a log has was told
  whole : (n : ℕ) → lacked (points_at (logs n)) ≡ []
  whole n = none_of (λ point. lacks_point (trace_of parts) point.call) (logs n) (λ logged there. have n logged there)

  module _ (shown : Logs) (first : T) where
    -- So far: what was told by the slots before this one, and the doubts of the others are left.
    record SoFar (n : ℕ) (truth : Truth) : Type 0 where
      tree : T
      opened : List Point
      tells : Tells (runs.StepOf Step) mine n first tree opened
      points : lacked (points_to shown n) ≡ opened
      left : ℕ → Option views.Unacknowledged
      same : (session : ℕ) (row : SessionRow) → row_in s.sessions session ≡ Some row → n ≤ row.slot → left session ≡ doubts session
      stands : Alone left truth tree

    -- a slot's points behind those before it
    points_then : (n : ℕ) (opened more : List Point) → lacked (points_to shown n) ≡ opened → lacked (points_at (shown n)) ≡ more → lacked (points_to shown (suc n)) ≡ opened ++ more
    points_then n opened more are and_more =
        filter-append (λ (point : Point). lacks_point (trace_of parts) point.call) (points_to shown n) (points_at (shown n))
        ∙ ap (λ (l : List Point). l ++ lacked (points_at (shown n))) are
        ∙ ap (λ (l : List Point). opened ++ l) and_more

    -- a slot whose run tells nothing
    quiet : (n : ℕ) (old new : Truth) → new ≡ old → lacked (points_at (shown n)) ≡ [] → SoFar n old → SoFar (suc n) new
    quiet n old new same_truth none far = subst (λ (t : Truth). SoFar (suc n) t) (sym same_truth) (record {
      tree = far.tree;
      opened = far.opened;
      tells = (far.tree, far.opened, far.tells, inl (refl, refl));
      points = points_then n far.opened [] far.points none ∙ append-nil far.opened;
      left = far.left;
      same = λ session row found above. far.same session row found (omega (arith, above));
      stands = far.stands;
    })

    -- a record in doubt is shown
    module _ (n : ℕ) (opened_there : opens (slots n).activity ≡ true) (row : SessionRow) (found : row_at s.sessions n ≡ Some row) (old : Truth) (far : SoFar n old)
        (doubt : views.Unacknowledged) (has : doubts row.number ≡ Some doubt) (of : IsRecordOf (slots n).more doubt) (run : shown n ≡ (slots n).more ∷ logs n) where
      its_row : (row_in s.sessions row.number ≡ Some row) × (row.slot ≡ n)
      its_row = found_is s.sessions s.next_session n row allowed.rising found

      done : (next : T) × StepOf Stands Step doubt.act far.tree next × Alone (without_doubt far.left row.number) (with_draft old doubt.draft) next
      done = acked Stands Step holding (HasRow s) (LivesIn s) nobody nothing nothing unhinted far.left (without_doubt far.left row.number) old far.tree row.number doubt far.stands
          (far.same row.number row its_row.0 (let e = its_row.1 in omega (arith, e)) ∙ has) (without_only far.left row.number) (λ node other none lives differ. refl) (λ node none lives. absurd cc)

      kept : (session : ℕ) (other : SessionRow) → row_in s.sessions session ≡ Some other → suc n ≤ other.slot → without_doubt far.left row.number session ≡ doubts session
      kept session other is above =
          (without_only far.left row.number).others session (λ same. let e = twice same in let f = its_row.1 in omega (arith, above, e, f)) ∙ far.same session other is (omega (arith, above))
        where
          twice : session ≡ row.number → other.slot ≡ row.slot
          twice same = let a : row_in s.sessions row.number ≡ Some other = subst (λ (k : ℕ). row_in s.sessions k ≡ Some other) same is in let b = its_row.0 in let e : other ≡ row = cc in ap (λ (r : SessionRow). r.slot) e

      its_points : (more : List Point) → lacked (point_of (slots n).more ∷ []) ≡ more → lacked (points_at (shown n)) ≡ more
      its_points more is = ap (λ (r : List Logged). lacked (points_at r)) run ∙ one_more (λ point. lacks_point (trace_of parts) point.call) (slots n).more (logs n)
          ∙ ap (λ (l : List Point). l ++ lacked (point_of (slots n).more ∷ [])) (whole n) ∙ is

      -- by what it does
      acts : (act : Act) → doubt.act ≡ act → SoFar (suc n) (with_draft old doubt.draft)
      acts OfTidy is = record {
        tree = done.0;
        opened = far.opened;
        tells = (far.tree, far.opened, far.tells, inl (subst (λ (a : Act). StepOf Stands Step a far.tree done.0) is done.1, refl));
        points = points_then n far.opened [] far.points (its_points [] (rw none refl)) ∙ append-nil far.opened;
        left = without_doubt far.left row.number;
        same = kept;
        stands = done.2;
      }
        where
          zero_is : (slots n).more.head.call ≡ 0
          zero_is = subst (λ (a : Act). IsActOf (slots n).more a) is of.act

          none : lacks_point (trace_of parts) (slots n).more.head.call ≡ false
          none = ap (lacks_point (trace_of parts)) zero_is ∙ zero_lacks
      acts (OfCall deed) is = record {
        tree = done.0;
        opened = far.opened ++ its.point ∷ [];
        tells = (
          far.tree,
          far.opened,
          far.tells,
          inr (record {
            of = its;
            is = there_is (trace_of parts) s.sessions slots doubts n row doubt deed taken.taking opened_there found has is (ap (taking_of (trace_of parts)) taken.call ∙ taken.lacks.taken);
            acts = record { reply = deed.reply; step = subst (λ (d : Deed). Step far.tree d done.0) same_deed (subst (λ (a : Act). StepOf Stands Step a far.tree done.0) is done.1) };
            open_is = refl;
          }),
        );
        points = points_then n far.opened (its.point ∷ []) far.points (its_points (its.point ∷ []) (rw lacks (ap (λ (p : Point). p ∷ []) same_point)));
        left = without_doubt far.left row.number;
        same = kept;
        stands = done.2;
      }
        where
          taken : IsOfTaken parts doubt deed
          taken = of_taken.each row.number doubt deed (record { row = row; has_row = its_row.0; sent = ap (λ (k : ℕ). opens (slots k).activity) its_row.1 ∙ opened_there; is = has; act = is })

          its : Doubt
          its = record { call = taken.taking; point = point_by doubt.call deed }

          same_deed : deed ≡ deed_of (entry_for its.call its.point deed.reply)
          same_deed = λ i. record { client = taken.client i; call = taken.bytes i; moment = deed.moment; spare = deed.spare; made = deed.made; reply = deed.reply }

          parts_are : (deed.moment ≡ (slots n).more.head.moment) × (deed.spare ≡ (slots n).more.head.spare) × (deed.made ≡ (slots n).more.head.made)
          parts_are = subst (λ (a : Act). IsActOf (slots n).more a) is of.act

          same_point : point_of (slots n).more ≡ its.point
          same_point = λ i. record { call = of.call i; moment = sym parts_are.0 i; spare = sym parts_are.1 i; made = sym parts_are.2 i }

          lacks : lacks_point (trace_of parts) (slots n).more.head.call ≡ true
          lacks = ap (lacks_point (trace_of parts)) (of.call ∙ taken.call) ∙ lacks_one (trace_of parts) taken.taking taken.lacks

      shows_record : SoFar (suc n) (with_draft old doubt.draft)
      shows_record = acts doubt.act refl

    -- one slot more
    one_slot : (n : ℕ) → n < 8 → (old new : Truth) → ShowsSlot logs slots n (shown n) old new → SoFar n old → SoFar (suc n) new
    one_slot n less old new (inl is) far = quiet n old new is.1 (ap (λ (r : List Logged). lacked (points_at r)) is.0 ∙ whole n) far
    one_slot n less old new (inr (inr is)) far = quiet n old new is.2 (ap (λ (r : List Logged). lacked (points_at r)) is.1) far
    one_slot n less old new (inr (inl is)) far =
        subst (λ (t : Truth). SoFar (suc n) t) (sym is.2) (subst (λ (changed : List Changed). SoFar (suc n) (with_draft old changed)) (sym mine_here.2.draft)
        (shows_record n is.0 row_here.0 row_here.1 old far mine_here.0 mine_here.1 mine_here.2 is.1))
      where
        row_here : (row : SessionRow) × (row_at s.sessions n ≡ Some row)
        row_here = found_some s.sessions n (is_open n less is.0)

        its : (row_in s.sessions row_here.0.number ≡ Some row_here.0) × (row_here.0.slot ≡ n)
        its = found_is s.sessions s.next_session n row_here.0 allowed.rising row_here.1

        mine_here : (doubt : views.Unacknowledged) × (doubts row_here.0.number ≡ Some doubt) × IsRecordOf (slots n).more doubt
        mine_here = some_doubt (doubts row_here.0.number) (IsRecordOf (slots n).more)
            (subst (λ (k : ℕ). IsSomeAnd (doubts row_here.0.number) (IsRecordOf (slots k).more)) its.1
            (doubted.each row_here.0.number row_here.0 its.0 (ap (λ (k : ℕ). begins (slots k).activity) its.1 ∙ opens_begins (slots n).activity is.0)))

    up_to : (n : ℕ) → n ≤ 8 → (truth last : Truth) → ShowsTo logs slots n shown truth last → SoFar 0 truth → SoFar n last
    up_to zero most truth last shows start = subst (λ (t : Truth). SoFar 0 t) (sym shows) start
    up_to (suc n) most truth last (next, before, here) start = one_slot n (omega (arith, most)) next last here (up_to n (omega (arith, most)) truth next before start)

    -- what is told by all slots
    pub record IsTold (last : Truth) : Type 0 where
      pub tree : T
      pub opened : List Point
      pub tells : Tells (runs.StepOf Step) mine 8 first tree opened
      pub points : lacked (points_to shown 8) ≡ opened
      pub stands : Stands last no_hints tree

    pub all_told : (own : ℕ → Option ℕ) (held : ℕ → Held) (hints : ℕ → Hints) (truth last : Truth) → VolumeStands Stands Step holding (HasRow s) (LivesIn s) own held hints doubts truth first
        → ShowsTo logs slots 8 shown truth last → IsTold last
    all_told own held hints truth last volume shows = record { tree = far.tree; opened = far.opened; tells = far.tells; points = far.points; stands = far.stands.is }
      where
        far : SoFar 8 last
        far = up_to 8 (omega arith) truth last shows (record {
          tree = first;
          opened = [];
          tells = (refl, refl);
          points = refl;
          left = doubts;
          same = λ session row is above. refl;
          stands = record {
            is = volume.is;
            apart = volume.apart;
            rows = volume.rows;
            single = λ node other session none more lives. absurd cc;
            views = λ node session none lives. absurd cc;
            hinted = λ node. volume.is;
            in_doubt = volume.in_doubt;
          };
        })
