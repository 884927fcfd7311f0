-- What images are read as: of a volume that was made with its register, and of one that was found.
use Rattle.std.proofs.Common.{◌≡◌, ℕ, ◌<◌, ◌≤◌, ◌⊎◌, ◌==◌, true, false, List, length, Option, Some, None, refl, sym, ap, subst, ◌∙◌, inl, inr}
use Rattle.std.proofs.lemmas.Bool.Decides.{eqb_tells}
use Rattle.bx_acceptor.proofs.Taking.{one_found}
use Rattle.bx_answers.specs.Handling.{Handles, caught_up}
use Rattle.bx_acceptor.specs.Standing.{IsFound}
use Rattle.bx_acceptor.specs.declared.origin.Origin.{Origin}
use Rattle.bx_acceptor.specs.declared.origin.Origin.TheVariants.{Made, Found as FoundAs, Apart}
use Rattle.bx_agreement.specs.History.{History}
use Rattle.bx_agreement.proofs.Places.{not_below}
use Rattle.bx_agreement.proofs.Readings.{reads_next}
use Rattle.bx_agreement.specs.Sound.{IsSound, ReadsAs}
use Rattle.bx_cell.specs.Cells.{HasEither, next}
use Rattle.bx_cell.specs.Halves.{Found}
use Rattle.bx_cell.specs.Images.{HasAllSure}
use Rattle.bx_disk.specs.Disks.{Disks, Image}
use Rattle.bx_facts.specs.Chains.{Chain, IsNext, last}
use Rattle.bx_facts.specs.Labelled.{IsReplicaLabelled}
use Rattle.bx_facts.specs.Pasts.{RegisterPast}
use Rattle.bx_global.specs.Bytes.{IsHeld, held_text}
use Rattle.bx_packets.specs.declared.message.Message.{Message}
use Rattle.bx_post.specs.declared.packets.Letter.{Letter}
use Rattle.bx_global.specs.declared.change.Change.{Change}
use Rattle.bx_global.specs.declared.held.Held.{Held}
use Rattle.bx_global.specs.declared.state.GlobalState.{GlobalState}
use Rattle.bx_paxos.specs.Counted.{AreCounted, IsCounted, IsHeldSound}
use Rattle.bx_paxos.specs.Fits.{SpellsSent, Fits, KnowsCell, Voters, devices_of}
use Rattle.bx_paxos.specs.Reading.{AreMade, AreSeen, ReadsFirst, ReadsState, Tells}
use Rattle.bx_paxos.specs.Shown.{HasBegun, HasFound, Shows, ShowsOne}
use Rattle.bx_paxos.proofs.Events.{moment}
use Rattle.bx_paxos.proofs.Founds.{Stood, found_next}
use Rattle.bx_paxos.proofs.Images.{the_cell}
use Rattle.bx_paxos.proofs.Shown.{shown_either}

-- the lowest replica aside
reads_as : (cells : ℕ → Option Held) (s : GlobalState) → ReadsFirst cells s → ReadsAs cells s
reads_as cells s (inl (n, held, is, e)) = inl (n, held, is.ahead, e)
reads_as cells s (inr (n, held, is, e)) = inr (n, held, is.level, e)

-- a cell that can be read counts as it stands
made_counts : (first : GlobalState) (origin : Origin) (sectors : ℕ → List ℕ) (found : Found) (held : Held) → origin ≡ Made → IsFound (length first.devices) sectors found held → IsCounted first origin sectors held
made_counts first origin sectors found held made is = subst (λ (o : Origin). IsCounted first o sectors held) (sym made) record {
  found = found;
  raw = held;
  part = tt;
  is = is;
  catches = record { as_found = λ bad. absurd bad; as_put = λ put. refl };
}

-- what is sound is read so
sound_made : (first : GlobalState) (origins : ℕ → Origin) (h : History) (sizes : List ℕ) (image : Image) (s : GlobalState) → AreMade origins → IsHeldSound first origins h image → ReadsState first sizes image s → IsNext h.proposed (last h.chain) s
sound_made first origins h sizes image s made was reads =
    reads_next h was.cells was.sound reads.seen
    (λ n held e. let k = reads.are.some n held e in the_cell first origins image n held was.cells k.0.whole.low was.are (made_counts first (origins n) (image n) k.1.0 held (made n k.0.whole.low) k.1.1))
    reads.tells.one reads.tells.other reads.tells.one_held reads.tells.other_held reads.tells.two s (reads_as reads.seen s reads.tells.reads)

-- ---- cells that were found

module _ (first : GlobalState) (origins : ℕ → Origin) (was : ℕ → Option Held) (h : History) (sizes : List ℕ) (image : Image) (seen : ℕ → Option Held) (begun : HasFound first origins was) (shown : Shows first origins was sizes image) (are : AreSeen (length first.devices) sizes image seen) where
  abbrev devices : ℕ
  devices = length first.devices

  -- a cell that is seen was found, and stands so or was put
  stood_at : (cells : ℕ → Option Held) → AreCounted first origins image cells → IsSound h cells → h.chain.first ≡ first → (n : ℕ) (held : Held) → seen n ≡ Some held → Stood first was cells n held
  stood_at cells counted sound first_is n held e = let k = are.some n held e in by (origins n) refl k.0 k.1.0 k.1.1 (shown.each n k.0.whole.low)
    where
      by : (o : Origin) → origins n ≡ o → IsReplicaLabelled devices sizes image n → (found : Found) → IsFound devices (image n) found held → ShowsOne devices o (was n) sizes image n → Stood first was cells n held
      by Made at label found is shows = absurd (begun.none_made n label.whole.low at)
      by (FoundAs number) at label found is (old, e, known) = record { old = old; was_old = e; kind = kinds (eqb_tells found.number number) }
        where
          one : (found ≡ known.found) × (held ≡ known.held)
          one = one_found devices (image n) found known.found held known.held is known.is

          later : number ≤ found.number
          later = subst (λ (f : Found). number ≤ f.number) (sym one.0) known.later

          here : (k : Held) → IsCounted first (FoundAs number) (image n) k → cells n ≡ Some k
          here k counts = the_cell first origins image n k cells label.whole.low counted (subst (λ (o : Origin). IsCounted first o (image n) k) (sym at) counts)

          kinds : (((found.number == number) ≡ true) × (found.number ≡ number)) ⊎ (((found.number == number) ≡ false) × (found.number ≡ number → ⊥))
              → ((cells n ≡ Some held) × (first.index ≤ held.decided.index)) ⊎ ((held ≡ old) × (cells n ≡ Some (caught_up first held)))
          kinds (inl same) = inr (
            one.1 ∙ known.as_found (ap (λ (f : Found). f.number) (sym one.0) ∙ same.1),
            here (caught_up first held) (record { found = found; raw = held; part = later; is = is; catches = record { as_found = λ k. refl; as_put = λ put. absurd (put same.1) } }),
          )
          kinds (inr apart) =
              let cell = here held (record { found = found; raw = held; part = later; is = is; catches = record { as_found = λ k. absurd (apart.1 k); as_put = λ put. refl } }) in
              let place = not_below h.chain.first h.chain.changes held.decided (sound.cell n held cell).place in
              inl (cell, subst (λ (s : GlobalState). s.index ≤ held.decided.index) first_is place)
      by Apart at label found is shows = absurd (shows.1.none found held label is)

  -- and each that was found is seen
  covers_at : (n : ℕ) (held : Held) → was n ≡ Some held → (now : Held) × (seen n ≡ Some now)
  covers_at n held e = by (origins n) refl (begun.low n held e) (shown.each n (begun.low n held e))
    where
      by : (o : Origin) → origins n ≡ o → n < 3 → ShowsOne devices o (was n) sizes image n → (now : Held) × (seen n ≡ Some now)
      by Made at low shows = absurd (begun.none_made n low at)
      by (FoundAs number) at low (old, same, known) = seen_so (seen n) refl
        where
          seen_so : (o : Option Held) → seen n ≡ o → (now : Held) × (seen n ≡ Some now)
          seen_so None none = absurd (are.none n known.found known.held none known.label known.is)
          seen_so (Some now) some = (now, some)
      by Apart at low shows = let bad : None ≡ Some held = sym shows.0 ∙ e in absurd cc

sound_found : (first : GlobalState) (origins : ℕ → Origin) (was : ℕ → Option Held) (h : History) (sizes : List ℕ) (image : Image) (s : GlobalState) → HasFound first origins was → h.chain.first ≡ first → IsHeldSound first origins h image → Shows first origins was sizes image → ReadsState first sizes image s
    → IsNext h.proposed (last h.chain) s
sound_found first origins was h sizes image s begun first_is sound shown reads =
    found_next h sound.cells sound.sound was reads.seen (subst (Tells was) (sym first_is) begun.tells)
    (λ n held e. subst (λ (f : GlobalState). Stood f was sound.cells n held) (sym first_is) (stood_at first origins was h sizes image reads.seen begun shown reads.are sound.cells sound.are sound.sound first_is n held e))
    (covers_at first origins was h sizes image reads.seen begun shown reads.are) s reads.tells

-- ---- of either volume

pub sound_reads : (first : GlobalState) (origins : ℕ → Origin) (was : ℕ → Option Held) (h : History) (sizes : List ℕ) (image : Image) (s : GlobalState) → HasBegun first origins was → h.chain.first ≡ first → IsHeldSound first origins h image → Shows first origins was sizes image → ReadsState first sizes image s
    → IsNext h.proposed (last h.chain) s
sound_reads first origins was h sizes image s (inl made) first_is sound shown reads = sound_made first origins h sizes image s made sound reads
sound_reads first origins was h sizes image s (inr found) first_is sound shown reads = sound_found first origins was h sizes image s found first_is sound shown reads

-- what is sound is read as the last state, or as one change ahead
pub next_read : (v : Voters) (x : Disks) (past : RegisterPast) (image : Image) (s : GlobalState) (f : Fits v x past) → IsHeldSound v.first v.origins f.history image → Shows v.first v.origins f.was x.sizes image → ReadsState v.first x.sizes image s → IsNext past.proposed (last past.chain) s
next_read v x past image s f sound shown is =
    subst (λ (c : Chain). IsNext past.proposed (last c) s) f.chain (subst (λ (cs : List Change). IsNext cs (last f.history.chain) s) f.proposed
    (sound_reads v.first v.origins f.was f.history x.sizes image s f.begun f.first sound shown is))

pub reads : (v : Voters) (x : Disks) (past : RegisterPast) (image : Image) (s : GlobalState) → Fits v x past → HasAllSure x image → ReadsState v.first x.sizes image s → IsNext past.proposed (last past.chain) s
reads v x past image s f sure is = next_read v x past image s f (f.images.each image sure) (f.shown.each image sure) is

-- at any moment of a replica's put
pub moment_reads : (v : Voters) (x : Disks) (past : RegisterPast) (n : ℕ) (held now : Held) (found : Found) (letter : Letter) (message : Message) (image : Image) (s : GlobalState) → Fits v x past → n < 3 → KnowsCell v x n held found → IsHeld (devices_of v) now
    → SpellsSent v past letter message → (now ≡ held) ⊎ ((answer : Option Message) × Handles held message now answer)
    → HasEither x n 1 found (next found (held_text now)) image → ReadsState v.first x.sizes image s → IsNext past.proposed (last past.chain) s
moment_reads v x past n held now found letter message image s f three knows is_now comes does either is =
    next_read v x past image s f (moment v x past n held now found letter message image f three knows is_now comes.sent comes.spells does either) (shown_either v f.was x x.sizes n held now found image (λ d low. refl) f.shown knows is_now either) is
