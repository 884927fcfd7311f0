-- What a node shows and reads changes, and what its session holds; its log and all that is out are as they were: each node is about what it was about.
use Rattle.std.proofs.Common.{◌≡◌, ◌≢◌, inl, inr, ◌∙◌, ℕ, ◌+◌, ◌<◌, true, Bool, List, Option, Some, refl, sym, ap, subst, arith}
use Rattle.std.specs.Prelude.{◌==◌, ◌&&◌, if◌then◌else◌}
use Rattle.std.proofs.lemmas.Bool.Decides.{nat_tests}
use Rattle.bx_base.specs.declared.names.Mode.{Mode}
use Rattle.bx_facts.specs.Holds.{Holds}
use Rattle.bx_facts.specs.Writes.{Asked, Sent}
use Rattle.bx_node_machines.specs.Machines as words
use Rattle.bx_node_machines.specs.Machines.{AreAbout, Fetch, IsAbout, IsAtWork, IsFetching, IsUnseen, IsWriting, MachineView, Scene, Stage, home_of, is_one, is_under}
use Rattle.bx_node_machines.specs.Nodes.{nothing_held, shown}
use Rattle.bx_node_machines.proofs.Leaving.{acts}
use Rattle.bx_node_machines.proofs.Sending.{landing_leaves}
use Rattle.bx_places.specs.Places.{IsBlock, block_place}
use Rattle.bx_records.specs.Drafts.{Block as Content}
use Rattle.bx_records.specs.declared.runs.Run.{Run}
use Rattle.bx_rows.specs.Words.{row_in}
use Rattle.bx_rows.specs.declared.session.SessionRow.{SessionRow}
use Rattle.bx_views.specs.Truths.{Held, Hints}
use Rattle.bx_volume.specs.Overlay.{IsUnlogged}
use Rattle.bx_world_views.specs.Views.{Allows}

-- What a node shows that has what it has under its own session.
pub shows_own : (found : Option MachineView) (own : Option ℕ) (one : MachineView) (session : ℕ) → found ≡ Some one → own ≡ Some session → one.session ≡ Some session → shown found own ≡ one.held
shows_own found own one session there is_own mark =
    ap (λ (m : Option MachineView). shown m own) there
    ∙ ap (λ (s : Option ℕ). if is_one one.session s then one.held else nothing_held) is_own
    ∙ ap (λ (s : Option ℕ). if is_one s (Some session) then one.held else nothing_held) mark
    ∙ (let t : is_one (Some session) (Some session) ≡ true = grind (arith, nat_tests) in ap (λ (b : Bool). if b then one.held else nothing_held) t)

-- A node that has what it has under its session is under it.
pub is_its_own : (machine : MachineView) (session : ℕ) → machine.session ≡ Some session → is_under (Some machine) (Some session) session ≡ true
is_its_own machine session mark = ap (λ (m : Option ℕ). is_one m (Some session) && (session == session)) mark ∙ twice
  where
    twice : ((session == session) && (session == session)) ≡ true
    twice = let t : (session == session) ≡ true = grind (arith, nat_tests) in ap (λ (b : Bool). b && b) t

module _ (devices areas : ℕ) (Sure Sure_then : ℕ → ℕ → List ℕ → Type 0) (Reads Reads_then : ℕ → ℕ → List ℕ → Type 0) (IsOf : ℕ → SessionRow → Type 0)
    (old : Scene) (later : ℕ → Option MachineView) (own_then : ℕ → Option ℕ) (out_then : ℕ → Option Sent) (asked_then : ℕ → Option Asked) (holding_then : Holds)
    (node session : ℕ) (before : MachineView) (held : Held) (away : ℕ → Option Content) (hints : Hints) (fetch : Fetch) where
  -- the node, and all of them, then
  abbrev pub changed : MachineView
  changed = record before { held = held; away = away; hints = hints; fetch = fetch }

  abbrev pub scene_then : Scene
  scene_then = record old { machines = later; own = own_then; out = out_then; asked = asked_then; holding = holding_then }

  module _ (about : AreAbout devices areas Sure Reads IsOf old)
      (own : (other : ℕ) → own_then other ≡ old.own other) (mine : old.own node ≡ Some session) (single : (other : ℕ) → old.own other ≡ Some session → other ≡ node)
      (there : old.machines node ≡ Some before) (mark : before.session ≡ Some session) (then_there : later node ≡ Some changed)
      (others : (other : ℕ) → other ≢ node → later other ≡ old.machines other)
      (out : (other : ℕ) → out_then other ≡ old.out other)
      (asked : (other : ℕ) → other ≢ node → asked_then other ≡ old.asked other)
      (sure : (d s : ℕ) (content : List ℕ) → Sure d s content → Sure_then d s content)
      (holds : (other block : ℕ) (mode : Mode) → other ≢ session → Allows (old.holding other block) mode → Allows (holding_then other block) mode)
      (reads : (reader block : ℕ) → IsBlock areas block → IsUnlogged old.logs block → (i : ℕ) → i < 9 → asked_then reader ≡ old.asked reader → old.asked reader ≡ Some (home_of devices block)
      → Reads reader ((block_place block devices).1 + i) (old.before (block_place block devices).0 ((block_place block devices).1 + i))
      → Reads_then reader ((block_place block devices).1 + i) (old.before (block_place block devices).0 ((block_place block devices).1 + i)))
      (same : (at : ℕ) → away at ≡ before.away at)
      (fetches : IsFetching devices areas (Reads_then node) scene_then node session fetch) (unseen : IsUnseen held fetch) where
    writing : (runs : List Run) → IsWriting Sure session runs (old.out node) old.sent → IsWriting Sure_then session runs (out_then node) old.sent
    writing runs (inl flying) = inl (record {
      write = flying.write;
      whose = flying.whose;
      runs_are = flying.runs_are;
      once = flying.once;
      is_out = out node ∙ flying.is_out;
      only = flying.only;
    })
    writing runs (inr landed) = inr (record { none_out = out node ∙ landed.none_out; sure = λ d s content w. sure d s content (landed.sure d s content w) })

    work_on : (slot : ℕ) (stage : Stage) → IsAtWork devices areas Sure old node session slot before stage → IsAtWork devices areas Sure_then scene_then node session slot changed stage
    work_on slot words.Idle is = (is.0, is.1, is.2, out node ∙ is.3, is.4, λ at. same at ∙ is.5 at)
    work_on slot (words.Records call draft) is = (is.0, is.1, is.2, writing _ is.3, is.4, λ at. same at ∙ is.5 at)
    work_on slot words.Homes is = (is.0, is.1, is.2, (is.3.0, is.3.1, writing is.3.0 is.3.2), is.4, λ at. same at ∙ is.5 at)
    work_on slot words.Closes is = (is.0, is.1, is.2, writing _ is.3, is.4, λ at. same at ∙ is.5 at)
    work_on slot (words.Recovers gone recovery) is = (is.0, is.1, is.2, is.3, λ at. same at ∙ is.4 at)

    its_about : (row : SessionRow) → row_in old.rows session ≡ Some row → row.dead ≡ 0 → IsAbout devices areas Sure_then (Reads_then node) scene_then node session row.slot changed
    its_about row is_row lives =
        let was = about.each node session before row there mark mine is_row lives in
        record { is_slot = was.is_slot; device = was.device; count = was.count; work = work_on row.slot before.stage was.work; fetch = fetches; unseen = unseen }

    pub keeping : AreAbout devices areas Sure_then Reads_then IsOf scene_then
    keeping = acts devices areas (λ its d s. Unit {0}) Sure Sure_then Reads Reads_then IsOf old scene_then node session about refl own mine
        (ap (λ (m : Option MachineView). is_under m (Some session) session) then_there ∙ is_its_own changed session mark)
        others
        (λ other row has lives ne. record { logs = refl; slots = refl; doubts = refl })
        (λ other its row ne apart its_own has lives. landing_leaves devices areas (λ d s. Unit {0}) Sure Sure_then (Reads other) (Reads_then other) old scene_then other its row.slot
        (record { logs = refl; slots = refl; doubts = refl }) (out other) (asked other ne) refl sure (λ block mode allows. holds its block mode apart allows) (λ block mode allows unwritten unlogged. unlogged)
        (λ block mode allows unwritten. unwritten) (λ block is unlogged i few asks was. reads other block is unlogged i few (asked other ne) asks was))
        (λ other its machine row has lives is. record { of_log = λ doing d s content w. tt; of_homes = λ runs are d s content w. tt })
        single
        (λ one row has row_has lives. subst (λ (m : MachineView). IsAbout devices areas Sure_then (Reads_then node) scene_then node session row.slot m) (one_machine changed one (sym then_there ∙ has)) (its_about row row_has lives))
      where
        one_machine : (a b : MachineView) → Some a ≡ Some b → a ≡ b
        one_machine a b e = cc
