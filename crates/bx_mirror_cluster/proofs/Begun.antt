-- New members and streams fit the state that they are made for, and the one that is found.
use Rattle.std.proofs.Common.{◌≡◌, ◌⊎◌, inl, inr, ℕ, zero, suc, ◌*◌, ◌<◌, ◌≤◌, Bool, true, false, Contains, List, [], ◌∷◌, length, Option, Some, None, refl, sym, ◌∙◌, ap, subst, arith}
use Rattle.std.specs.Prelude.{IfSome, slice_get}
use Rattle.std.specs.List.{AllByRecursion}
use Rattle.bx_base.specs.declared.names.Actor.{Actor}
use Rattle.bx_base.specs.declared.names.Actor.TheVariants.{Member, Node}
use Rattle.bx_disk.specs.Disks.{Disks}
use Rattle.bx_facts.proofs.Lists.{nothing}
use Rattle.bx_facts.proofs.Sessions.{sessions_have_nodes}
use Rattle.bx_facts.specs.Chains.{number_in, session_of}
use Rattle.bx_facts.specs.Sessions.{AreRows as AreSessions, IsRowOf}
use Rattle.bx_facts.specs.Writes.{IsOfStore, IsSourceIn, NamesUpTo, found_store, opening_store}
use Rattle.bx_global.specs.Allowed.{AreRising, IsAllowed}
use Rattle.bx_global.specs.declared.state.GlobalState.{GlobalState}
use Rattle.bx_locking.proofs.Owned.{session_row}
use Rattle.bx_locking.specs.Owned.{AreSingle}
use Rattle.bx_rows.specs.Conditions.{Fits, IsDevice}
use Rattle.bx_rows.specs.Words.{live_in}
use Rattle.bx_rows.specs.declared.device.DeviceRow.{DeviceRow}
use Rattle.bx_rows.specs.declared.session.SessionRow.{SessionRow}
use Rattle.bx_mirror_laws.specs.Acting.{boot_in}
use Rattle.bx_mirror_laws.specs.Sides.{Out}
use Rattle.bx_mirror_tables.specs.Lasts.{last_in}
use Rattle.bx_mirror_tables.specs.declared.answers.Owing.{Owing}
use Rattle.bx_mirror_tables.specs.declared.lasts.Last.{Last}
use Rattle.bx_mirror_client.specs.Sends.{member_at}
use Rattle.bx_mirror_client.specs.declared.asking.Asking.{Asking}
use Rattle.bx_mirror_client.specs.declared.sending.Sending.{Sending}
use Rattle.bx_mirror_cluster.specs.Fitting.{AreAllRead, IsNewParts, Keeps, Parts, opening_history, out_by, outs_of, row_of, row_or}
use Rattle.bx_mirror_cluster.proofs.Booted.{boot_in_rows, rows_booted}
use Rattle.bx_mirror_cluster.proofs.Opening.{fresh, fresh_sound}
use Rattle.bx_mirror_cluster.proofs.Sessions.{each_row, own_lives, row_next}

-- the epochs of an allowed state fit
epoch_fits : (rows : List DeviceRow) (d : ℕ) (row : DeviceRow) → AllByRecursion IsDevice rows → slice_get rows d ≡ Some row → Fits row.epoch
epoch_fits [] d row all is = absurd cc
epoch_fits (one ∷ rest) zero row all is = let same : one ≡ row = cc in subst (λ (r : DeviceRow). Fits r.epoch) same all.0.epoch
epoch_fits (one ∷ rest) (suc d) row all is = epoch_fits rest d row all.1 is

named_in : (boot : ℕ) (o : Option DeviceRow) → IfSome o (λ row. (row.boot_a ≤ boot) × (row.boot_b ≤ boot)) → (b : Bool) → boot_in b (row_or o) ≤ boot
named_in boot None up false = omega arith
named_in boot None up true = omega arith
named_in boot (Some row) up false = up.0
named_in boot (Some row) up true = up.1

-- What a node knows at the beginning, where it has a session: the state.
pub record KnowsFirst (parts : Parts) (s : GlobalState) (knew boots : Actor → ℕ) (n session : ℕ) : Type 0 where
  pub index : s.index ≡ knew (Node n)
  pub rows : (parts.nodes n).rows ≡ s.devices
  pub own : session_of s n (boots (Node n)) ≡ Some session

module _ (parts : Parts) (x : Disks) (first s : GlobalState) (found : ℕ) (knew boots : Actor → ℕ) (down : Actor → Bool) (new : IsNewParts first parts) (allowed : IsAllowed s) (single : AreSingle found s) (most : found ≤ s.next_session) (of : IsOfStore parts.made x s)
    (names : (d : ℕ) (b : Bool) → boot_in b (row_of s d) ≤ boots (Member (member_at d b))) (knows : (n session : ℕ) → (parts.nodes n).session ≡ Some session → KnowsFirst parts s knew boots n session) (ups : (d : ℕ) (b : Bool) → d < length s.devices → down (Member (member_at d b)) ≡ false → IsSourceIn s d b)
    (members_have : (n : ℕ) → n < 2 * parts.made.devices → down (Member n) ≡ false → (parts.members n).boot ≡ boots (Member n)) (nodes_have : (n : ℕ) → n < parts.made.nodes → down (Node n) ≡ false → (parts.nodes n).boot ≡ boots (Node n)) where
  no_out : (n : ℕ) (w : Out) → outs_of parts.nodes n ≡ Some w → ⊥
  no_out n w is = let no : None ≡ Some w = sym (ap out_by (new.out n)) ∙ is in cc

  no_sending : (n : ℕ) (w : Sending) → (parts.nodes n).out ≡ Some w → ⊥
  no_sending n w is = let no : None ≡ Some w = sym (new.out n) ∙ is in cc

  no_asks : (n : ℕ) (a : Asking) → (parts.nodes n).asks ≡ Some a → ⊥
  no_asks n a is = let no : None ≡ Some a = sym (new.asks n) ∙ is in cc

  nodes_are : (node_of : ℕ → ℕ) × AreSessions node_of s []
  nodes_are = sessions_have_nodes s [] allowed.rising

  abbrev boot_of : ℕ → ℕ
  boot_of = boot_in_rows s.sessions

  -- whose its own session is
  own_is : (n session : ℕ) → (parts.nodes n).session ≡ Some session → (nodes_are.0 session ≡ n) × (boot_of session ≡ boots (Node n)) × (session < s.next_session)
  own_is n session is =
      let known = knows n session is in
      let row = session_row s n (boots (Node n)) session known.own in
      let its = each_row (IsRowOf nodes_are.0 s.next_session) s.sessions row.row (nodes_are.1.each s refl) row.is in
      let its_boot = each_row (λ r. r.boot ≡ boot_of r.number) s.sessions row.row (rows_booted s.sessions s.next_session allowed.rising) row.is in
      let given = its.given in let number = row.number in (
        ap nodes_are.0 (sym row.number) ∙ sym its.node ∙ row.live.node_is,
        ap boot_of (sym row.number) ∙ sym its_boot ∙ row.live.boot_is,
        omega (arith, given, number),
      )

  pub fresh_keeps : Keeps parts x (fresh found s knew boots down)
  fresh_keeps = record {
    history = opening_history;
    devices = λ d within. fresh_sound parts x first s found knew boots down new of d (let count = of.devices in omega (arith, within, count)) (names d) (λ b up. ups d b (let count = of.devices in omega (arith, within, count)) up);
    count = λ q place. ap (λ (p : GlobalState). length p.devices) place ∙ of.devices;
    rising = λ p q one other le d. let e = ap (λ (g : GlobalState). (row_of g d).epoch) (one ∙ sym other) in omega (arith, e);
    highest = λ q place. let e = ap (λ (g : GlobalState). g.index) place in omega (arith, e);
    placed = λ q place d. record { is = inl (ap (λ (g : GlobalState). row_of g d) place) };
    actual_sent = λ w there. absurd there.is;
    out_actual = λ n w is. absurd (no_out n w is);
    out_number = λ n w is. absurd (no_out n w is);
    actual_given = λ w there. absurd there.is;
    sendable = λ n w is. absurd (no_sending n w is);
    holding = λ n w is. absurd (no_sending n w is);
    askable = λ n a is. absurd (no_asks n a is);
    epochs = λ q place d row is. epoch_fits s.devices d row allowed.each_device (ap (λ (g : GlobalState). slice_get g.devices d) (sym place) ∙ is);
    owing = λ n o there. absurd (nothing o (subst (λ (os : List Owing). Contains os o) (new.owed n) there));
    from_members = λ letter message there spells. absurd (nothing letter there);
    own_out = λ n w there is. absurd there.is;
    lasts = λ d b session. inl (ap (λ (ls : List Last). last_in ls session) (new.lasts (member_at d b)));
    brings = λ d l there. absurd there.is;
    noted = λ n d epoch b w within is has. absurd (no_sending n w is);
    asking = λ n a is. absurd (no_asks n a is);
    asked = λ n r a reading is session tag. absurd (no_asks n a is);
    node_known = λ n session is. let known = knows n session is in (s, refl, known.index, known.rows, own_lives s n (boots (Node n)) session allowed.rising known.own);
    node_of = nodes_are.0;
    boot_of = boot_of;
    sessions = nodes_are.1;
    booted = λ q place. subst (λ (g : GlobalState). AllByRecursion (λ row. row.boot ≡ boot_of row.number) g.sessions) (sym place) (rows_booted s.sessions s.next_session allowed.rising);
    owned = own_is;
    single = λ q place. subst (AreSingle found) (sym place) single;
    found_most = most;
    in_order = λ q place. subst (λ (g : GlobalState). AreRising g.sessions g.next_session) (sym place) allowed.rising;
    left = λ w there. absurd there.is;
    numbered = λ d l there. absurd there.is;
    tagged = λ n d session epoch tag bytes data_. absurd (nothing data_.letter data_.there);
    read_tagged = λ n r read. absurd (nothing read.letter read.there);
    member_boots = members_have;
    node_boots = nodes_have;
  }

-- ---- a new volume, and one that is found

pub begins_keeps : (parts : Parts) (x : Disks) (s : GlobalState) → IsNewParts s parts → IsAllowed s → AreSingle 0 s → IsOfStore parts.made x s → NamesUpTo 0 s → AreAllRead s → Keeps parts x (opening_store s)
begins_keeps parts x s new allowed single of names all =
    fresh_keeps parts x s s 0 (λ who. s.index) (λ who. 0) (λ who. false) new allowed single (omega arith) of (λ d b. named_in 0 (slice_get s.devices d) (names.each d) b)
    (λ n session is. elim (inside_or n parts.made.nodes) [
      | inl inside ↦ record { index = refl; rows = new.known n inside; own = sym (new.session n inside) ∙ is }
      | inr outside ↦ absurd (let no : None ≡ Some session = sym (new.no_more n outside) ∙ is in cc)
    ])
    (λ d b there up. all.each d b there)
    (λ n inside up. new.member_boot n inside) (λ n inside up. new.node_boot n inside)
  where
    inside_or : (n m : ℕ) → (n < m) ⊎ (m ≤ n)
    inside_or n m = grind arith

pub finds_keeps : (parts : Parts) (x : Disks) (first s : GlobalState) (boot : ℕ) → IsNewParts first parts → first.sessions ≡ [] → IsAllowed s → IsOfStore parts.made x s → NamesUpTo boot s → Keeps parts x (found_store s boot)
finds_keeps parts x first s boot new none allowed of names =
    fresh_keeps parts x first s s.next_session (λ who. 0) (λ who. boot) (λ who. true) new allowed
    (record { each = λ a b node of_boot one two live also late later. absurd (let given = row_next s.sessions s.next_session a allowed.rising one in omega (arith, given, late)) }) (omega arith) of (λ d b. named_in boot (slice_get s.devices d) (names.each d) b)
    (λ n session is. absurd (elim (inside_or n parts.made.nodes) [
      | inl inside ↦ (let no : None ≡ Some session = sym (new.session n inside ∙ ap (λ (rows : List SessionRow). number_in (live_in rows n 0)) none) ∙ is in cc)
      | inr outside ↦ (let no : None ≡ Some session = sym (new.no_more n outside) ∙ is in cc)
    ]))
    (λ d b there up. absurd (let no : true ≡ false = up in cc))
    (λ n inside up. absurd (let no : true ≡ false = up in cc)) (λ n inside up. absurd (let no : true ≡ false = up in cc))
  where
    inside_or : (n m : ℕ) → (n < m) ⊎ (m ≤ n)
    inside_or n m = grind arith
