-- What a log's step comes to for its node.
use Rattle.std.proofs.Common.{◌≡◌, ◌∙◌, Bool, true, false, Option, Some, None, refl, sym, ap, subst}
use Rattle.bx_base.specs.declared.names.Point.{Point}
use Rattle.bx_node_cache.specs.Kept.{CacheView, Settles}
use Rattle.bx_node_machines.specs.Machines.{IsOfClosing, IsOfRecord}
use Rattle.bx_node_tries.specs.declared.round.Said.{Said}
use Rattle.bx_node_steps.proofs.Drafted.{asks_first, one_write}
use Rattle.bx_node_steps.specs.Logging.{Closed, KeepsVolume, LogGoes, Opened, SendsClosing, SendsGate, SendsHomes, SendsShut, said_of}
use Rattle.bx_node_steps.specs.declared.machine.Machine.{Machine}
use Rattle.bx_node_steps.specs.declared.machine.Pending.{Pending}
use Rattle.bx_node_steps.specs.declared.machine.Stage.TheVariants as stages
use Rattle.bx_records.specs.Runs.{KindAndRuns}
use Rattle.bx_redo.specs.Steps.{WorkGoes, Steps, with_work, writes}
use Rattle.bx_redo.specs.View.{LogView}
use Rattle.bx_redo.specs.declared.work.Move.{Move}
use Rattle.bx_redo.specs.declared.work.Move.TheVariants as moves
use Rattle.bx_redo.specs.declared.work.Work.{Work}
use Rattle.bx_redo.specs.declared.work.Work.TheVariants as works

one_point : (a b : Point) → moves.Acked a ≡ moves.Acked b → a ≡ b
one_point a b e = cc

module _ (old : Machine) (log : LogView) (move : Move) (out : old.log.out ≡ true) (steps : Steps old.log.out true old.log log move) where
  going : WorkGoes old.log log move old.log.work
  going = subst (λ (b : Bool). Steps b true old.log log move) out steps

  -- Behind a body its gate is sent.
  pub gate_sent : (pending : Pending) (runs : KindAndRuns) → old.stage ≡ stages.Records pending → IsOfRecord old.log.work → move ≡ moves.Write runs → LogGoes old (record old { log = log }) (Some runs) None
  gate_sent pending runs stage is wrote = by old.log.work refl is going
    where
      by : (work : Work) → old.log.work ≡ work → IsOfRecord work → WorkGoes old.log log move work → LogGoes old (record old { log = log }) (Some runs) None
      by works.Idle e none goes = absurd none
      by (works.Body text point) e one goes =
          subst (λ (r : KindAndRuns). LogGoes old (record old { log = log }) (Some r) None) (one_write (writes old.log (works.Opens point)) runs (sym goes.asks ∙ wrote))
          (SendsGate pending text point stage e (ap (λ (l : LogView). record old { log = l }) goes.now))
      by (works.Opens point) e one goes = let wrong = sym goes.says ∙ wrote in absurd cc
      by works.Closes e none goes = absurd none
      by works.Shuts e none goes = absurd none

  -- Behind its gate its homes are.
  pub homes_sent : (pending : Pending) (point : Point) (new : Machine) (runs : Option KindAndRuns) (said : Option Said) → old.stage ≡ stages.Records pending → IsOfRecord old.log.work → move ≡ moves.Acked point
      → Opened pending point (record old { log = log }) new runs said → LogGoes old new runs said
  homes_sent pending point new runs said stage is acked opened = by old.log.work refl is going
    where
      by : (work : Work) → old.log.work ≡ work → IsOfRecord work → WorkGoes old.log log move work → LogGoes old new runs said
      by works.Idle e none goes = absurd none
      by (works.Body text other) e one goes = let wrong = sym goes.asks ∙ acked in absurd cc
      by (works.Opens other) e one goes =
          let same : other ≡ point = one_point other point (sym goes.says ∙ acked) in
          subst (λ (s : Option Said). LogGoes old new runs s) (sym opened.says)
          (subst (λ (r : Option KindAndRuns). LogGoes old new r (said_of pending.call point)) (sym opened.asks)
          (SendsHomes pending point stage (e ∙ ap (λ (p : Point). works.Opens p) same)
          (opened.only ∙ ap (λ (l : LogView). record old { cache = new.cache; log = l; stage = stages.Homes }) goes.now)
          opened.volume opened.commits opened.homes))
      by works.Closes e none goes = absurd none
      by works.Shuts e none goes = absurd none

  -- Behind gate 0 the other gates are sent.
  pub shut_sent : (runs : KindAndRuns) → old.stage ≡ stages.Closes → IsOfClosing old.log.work → move ≡ moves.Write runs → LogGoes old (record old { log = log }) (Some runs) None
  shut_sent runs stage is wrote = by old.log.work refl is going
    where
      by : (work : Work) → old.log.work ≡ work → IsOfClosing work → WorkGoes old.log log move work → LogGoes old (record old { log = log }) (Some runs) None
      by works.Idle e none goes = absurd none
      by (works.Body text point) e none goes = absurd none
      by (works.Opens point) e none goes = absurd none
      by works.Closes e one goes =
          subst (λ (r : KindAndRuns). LogGoes old (record old { log = log }) (Some r) None) (one_write (writes old.log works.Shuts) runs (sym goes.asks ∙ wrote))
          (SendsShut stage e (ap (λ (l : LogView). record old { log = l }) goes.now))
      by works.Shuts e one goes = let wrong = sym goes.says ∙ wrote in absurd cc

  -- Behind those the log rests.
  pub is_closed : old.stage ≡ stages.Closes → IsOfClosing old.log.work → move ≡ moves.Closed → LogGoes old (record old { log = log; stage = stages.Idle }) None None
  is_closed stage is said = by old.log.work refl is going
    where
      by : (work : Work) → old.log.work ≡ work → IsOfClosing work → WorkGoes old.log log move work → LogGoes old (record old { log = log; stage = stages.Idle }) None None
      by works.Idle e none goes = absurd none
      by (works.Body text point) e none goes = absurd none
      by (works.Opens point) e none goes = absurd none
      by works.Closes e one goes = let wrong = sym goes.asks ∙ said in absurd cc
      by works.Shuts e one goes = Closed stage e (ap (λ (l : LogView). record old { log = l; stage = stages.Idle }) goes.now)

-- Its homes are written: gate 0 is sent.
pub closing_sent : (old : Machine) (cache : CacheView) (closing log : LogView) (move : Move) (runs : KindAndRuns) → old.stage ≡ stages.Homes → closing ≡ with_work old.log works.Closes
    → Steps closing.out false closing log move → move ≡ moves.Write runs → KeepsVolume old.cache cache → Settles old.cache.kept cache.kept
    → LogGoes old (record old { cache = cache; log = log; stage = stages.Closes }) (Some runs) None
closing_sent old cache closing log move runs stage is steps wrote volume settles =
    let asks = asks_first old.log closing log works.Closes move runs is steps wrote in
    subst (λ (r : KindAndRuns). LogGoes old (record old { cache = cache; log = log; stage = stages.Closes }) (Some r) None) (sym asks.1)
    (SendsClosing stage (ap (λ (l : LogView). record old { cache = cache; log = l; stage = stages.Closes }) asks.0) volume settles)
