-- New devices fit each disks that are labelled, where no row names a boot that a machine doesn't have.
use Rattle.std.proofs.Common.{◌≡◌, ◌⊎◌, inl, inr, ℕ, ◌<◌, ◌≤◌, Bool, false, List, [], length, Some, None, refl, sym, ◌∙◌, ap, subst, arith}
use Rattle.std.specs.Prelude.{slice_get}
use Rattle.std.proofs.lemmas.Option.{slice_get_cases}
use Rattle.bx_base.specs.declared.names.Actor.{Actor}
use Rattle.bx_base.specs.declared.names.Actor.TheVariants.{Member}
use Rattle.bx_disk.specs.Disks.{Disks}
use Rattle.bx_facts.proofs.Lists.{nothing}
use Rattle.bx_facts.specs.Writes.{IsOfStore, IsSettled, IsSourceIn, StorePast, member_disk, store_room}
use Rattle.bx_global.specs.declared.state.GlobalState.{GlobalState}
use Rattle.bx_rows.specs.Modes.{IsSource}
use Rattle.bx_rows.specs.declared.device.DeviceRow.{DeviceRow}
use Rattle.bx_mirror_laws.specs.Sides.{Among, Out}
use Rattle.bx_mirror_laws.specs.Acting.{IsRow, MayAct, MayLead, boot_in}
use Rattle.bx_mirror_tables.specs.declared.answers.Owing.{Owing}
use Rattle.bx_mirror_client.specs.Sends.{member_at}
use Rattle.bx_mirror_cluster.specs.Fitting.{IsDeviceSound, IsNewParts, NeedsLabel, Parts, StandsOn, opening_history, out_by, outs_of, row_of, side_of}
use Rattle.bx_mirror_server.specs.Sides.{copied_in, wrote_in}

-- a past in which nothing was done yet, of machines that know this, have these boots, and are down or up
abbrev pub fresh : ℕ → GlobalState → (Actor → ℕ) → (Actor → ℕ) → (Actor → Bool) → StorePast
fresh found s knew boots down = record {
  told = record { chain = record { found = found; first = s; changes = [] }; handed = []; letters = []; greatest = 0; knew = knew; boots = boots; down = down };
  writes = [];
}

-- ---- what stands surely stands for readers of the state

module _ (parts : Parts) (x : Disks) (s : GlobalState) (d : ℕ) (there : d < length s.devices) where
  only_row : (r : DeviceRow) → IsRow (row_of s d) [] r → r ≡ row_of s d
  only_row r row = elim row.is [ inl e ↦ e | inr among ↦ absurd among.is ]

  -- no row comes after another
  no_later : (r k : DeviceRow) → IsRow (row_of s d) [] r → IsRow (row_of s d) [] k → r.epoch < k.epoch → ⊥
  no_later r k row_r row_k less = let e = ap (λ (q : DeviceRow). q.epoch) (only_row r row_r ∙ sym (only_row k row_k)) in omega (arith, e, less)

  leads : (b : Bool) → MayLead (row_of s d) [] b → IsSource (row_of s d).mode b
  leads b may = elim may.is [ inl now ↦ now | inr more ↦ absurd more.1.is ]

  -- who leads in the row is a source in the state
  source_in : (b : Bool) → IsSource (row_of s d).mode b → IsSourceIn s d b
  source_in b = (elim (slice_get s.devices d) as (λ o. slice_get s.devices d ≡ o → IsSource (row_of s d).mode b → IsSourceIn s d b) [
    | None ↦ λ e. absurd (none_not e)
    | Some row ↦ λ e source. rw e (let h = rw e at source in h)
  ]) refl
    where
      none_not : slice_get s.devices d ≡ None → ⊥
      none_not e = elim (slice_get_cases s.devices d).1 [
        | inl k ↦ absurd (let no : None ≡ Some k.0 = sym e ∙ k.2 in cc)
        | inr k ↦ let past = k.0 in omega (arith, past, there)
      ]

  pub fresh_standing : (found : ℕ) (knew boots : Actor → ℕ) (down : Actor → Bool) (sector : ℕ) (content : List ℕ) → d < parts.made.devices → 1 ≤ sector → sector < store_room parts.made → IsSettled x s d sector content
      → StandsOn parts x (fresh found s knew boots down) d sector content s.index
  fresh_standing found knew boots down sector content device low high settled = record {
    settled = record {
      device = device;
      behind_label = low;
      within = high;
      is = record { reads = λ b counts. reads b (all b counts.is); sure = λ b may. settled.sure b (source_in b (leads b may)); coming = λ b r l other row from may source comes. absurd from };
    };
    stands = record {
      reads = λ b counts. elim counts.is [
        | inl may ↦ reads b (leads b may)
        | inr row ↦ reads b (subst (λ (q : DeviceRow). IsSource q.mode b) (only_row row.0 row.1) row.4)
      ];
      sure = λ b may. settled.sure b (source_in b (leads b may));
      coming = λ b r l other row from may source comes. absurd (nothing comes.letter comes.there);
    };
  }
    where
      reads : (b : Bool) → IsSource (row_of s d).mode b → x.reads (member_disk d b) sector ≡ content
      reads b source = settled.reads b (source_in b source)

      all : (b : Bool) → MayLead (row_of s d) [] b ⊎ ((r : DeviceRow) × IsRow (row_of s d) [] r × ⊥ × MayAct b (side_of (fresh found s knew boots down).told x parts.members d b) r × IsSource r.mode b) → IsSource (row_of s d).mode b
      all b (inl may) = leads b may
      all b (inr row) = absurd row.2

-- ---- they fit

module _ (parts : Parts) (x : Disks) (first s : GlobalState) (found : ℕ) (knew boots : Actor → ℕ) (down : Actor → Bool) (new : IsNewParts first parts) (of : IsOfStore parts.made x s) (d : ℕ) (there : d < length s.devices)
    (names : (b : Bool) → boot_in b (row_of s d) ≤ boots (Member (member_at d b))) (ups : (b : Bool) → down (Member (member_at d b)) ≡ false → IsSourceIn s d b) where
  no_owed : (b : Bool) → wrote_in b (parts.members (member_at d b)).owed ≡ []
  no_owed b = ap (λ (os : List Owing). wrote_in b os) (new.owed (member_at d b))

  no_copied : (b : Bool) → copied_in b (parts.members (member_at d b)).owed ≡ []
  no_copied b = ap (λ (os : List Owing). copied_in b os) (new.owed (member_at d b))

  acts_not : (b : Bool) (r : DeviceRow) → (parts.members (member_at d b)).row ≡ Some r → ⊥
  acts_not b r e = let no : None ≡ Some r = sym (new.rows (member_at d b)) ∙ e in cc

  out_none : (n : ℕ) (o : Out) → outs_of parts.nodes n ≡ Some o → ⊥
  out_none n o e = let no : None ≡ Some o = sym (ap out_by (new.out n)) ∙ e in cc

  pub fresh_sound : IsDeviceSound parts x (fresh found s knew boots down) opening_history d
  fresh_sound = record {
    rows = record {
      below = λ r row. let e = ap (λ (q : DeviceRow). q.epoch) (only_row parts x s d there r row) in omega (arith, e);
      same = λ r k row_r row_k e. only_row parts x s d there r row_r ∙ sym (only_row parts x s d there k row_k);
      boots = λ b r k row_r row_k le. let e = ap (λ (q : DeviceRow). boot_in b q) (only_row parts x s d there r row_r ∙ sym (only_row parts x s d there k row_k)) in omega (arith, e);
      named = λ b r row. subst (λ (q : DeviceRow). boot_in b q ≤ boots (Member (member_at d b))) (sym (only_row parts x s d there r row)) (names b);
      known = λ b r e. absurd (acts_not b r e);
      left = λ b r k row_r row_k less low none source. absurd (no_later parts x s d there r k row_r row_k less);
      joined = λ b r k row_r row_k less none source. absurd (no_later parts x s d there r k row_r row_k less);
      sent = λ b r k row_r row_k less none source. absurd (no_later parts x s d there r k row_r row_k less);
    };
    hands = record { each = λ h among. absurd among.is };
    copies = record {
      letters = λ l r among row e. absurd among.is;
      held = λ b r acts copying source y low high. absurd (acts_not b r acts.knows);
      copied = λ c r among row e. absurd among.is;
      sure = λ c r among row e. absurd among.is;
      owed = λ b c r among row e. absurd (subst (λ (cs : List _). Among cs c) (no_copied b) among).is;
      owed_by = λ b c among. absurd (subst (λ (cs : List _). Among cs c) (no_copied b) among).is;
      owed_up = λ b c among. absurd (subst (λ (cs : List _). Among cs c) (no_copied b) among).is;
      copies_below = λ l among. absurd among.is;
      copied_below = λ c among. absurd among.is;
      owed_below = λ b c among. absurd (subst (λ (cs : List _). Among cs c) (no_copied b) among).is;
      progress = λ b r acts copying source y low below. absurd (acts_not b r acts.knows);
    };
    writes = record { each = λ l among. absurd among.is };
    wrotes = record {
      acked_to = λ w among. absurd among.is;
      owed_to = λ b w among. absurd (subst (λ (ws : List _). Among ws w) (no_owed b) among).is;
      acked = λ w r among row e. absurd among.is;
      owed = λ b w r among row e. absurd (subst (λ (ws : List _). Among ws w) (no_owed b) among).is;
      owed_by = λ b w among. absurd (subst (λ (ws : List _). Among ws w) (no_owed b) among).is;
      owed_up = λ b w among. absurd (subst (λ (ws : List _). Among ws w) (no_owed b) among).is;
      acked_below = λ w among. absurd among.is;
      owed_below = λ b w among. absurd (subst (λ (ws : List _). Among ws w) (no_owed b) among).is;
    };
    outs = record { each = λ o k sends. absurd (out_none sends.node o sends.out) };
    coming = λ l comes. absurd (nothing comes.letter comes.there);
    answering = λ w comes. absurd (nothing comes.letter comes.there);
    copying = λ l comes. absurd (nothing comes.letter comes.there);
    copied_to = λ c comes. absurd (nothing comes.letter comes.there);
    labels = λ b needs. let source = led b needs in record { spells = of.labels.reads d b source; sure = of.labels.sure d b source; long = of.labels.long d b source };
    down = λ b is_down. (new.rows (member_at d b), new.owed (member_at d b));
    known = λ b r e. absurd (acts_not b r e);
  }
    where
      led : (b : Bool) → NeedsLabel (row_of s d) [] [] (down (Member (member_at d b))) b → IsSourceIn s d b
      led b needs = elim needs.is [
        | inl may ↦ source_in parts x s d there b (leads parts x s d there b may)
        | inr rest ↦ elim rest [
          | inl up ↦ ups b up
          | inr taken ↦ absurd taken.1.is
        ]
      ]
