-- An event of a member may be cut short at any moment: by a fault, or by a crash, whose image has what is settled then.
use Rattle.std.proofs.Common.{◌≡◌, ◌≢◌, ◌⊎◌, inl, inr, ℕ, zero, suc, ◌-◌, ◌<◌, ◌≤◌, ◌++◌, Bool, true, false, Contains, List, [], ◌∷◌, None, refl, sym, ◌∙◌, ap, subst, arith}
use Rattle.std.specs.Prelude.{◌==◌, ◌&&◌, if◌then◌else◌}
use Rattle.std.proofs.lemmas.Bool.Decides.{nat_tests}
use Rattle.bx_base.specs.declared.names.Actor.TheVariants.{Member}
use Rattle.bx_calls.specs.Calls.{HasSure}
use Rattle.bx_disk.specs.Disks.{Disks, Image, Stays}
use Rattle.bx_facts.proofs.Lists.{nothing}
use Rattle.bx_facts.specs.Chains.{last}
use Rattle.bx_facts.specs.Disks.{SameMemberLengths}
use Rattle.bx_facts.specs.Inputs.{IsComing as Arrives, IsSteady}
use Rattle.bx_facts.specs.Writes.{HasSettled, IsOnly, IsSourceIn, Sent, StorePast, WritesIn, WritesTo, member_disk, store_heard, store_room, store_with}
use Rattle.bx_facts.specs.declared.input.Input.{Input}
use Rattle.bx_facts.specs.declared.input.Input.TheVariants.{Packet, Tick, Synced}
use Rattle.bx_global.specs.declared.state.GlobalState.{GlobalState}
use Rattle.bx_members.proofs.Kept.{same_member}
use Rattle.bx_members.specs.Members.{HasMembers, KeepsMembers}
use Rattle.bx_post.specs.declared.packets.Letter.{Letter}
use Rattle.bx_records.specs.declared.runs.Run.{Run}
use Rattle.bx_mirror_packets.specs.DeviceMessages.{Spells}
use Rattle.bx_mirror_packets.specs.declared.message.CopyBody.{CopyBody}
use Rattle.bx_mirror_packets.specs.declared.message.WriteBody.{WriteBody}
use Rattle.bx_mirror_packets.specs.declared.message.DeviceMessage.{DeviceMessage}
use Rattle.bx_mirror_packets.specs.declared.message.DeviceMessage.TheVariants.{Write, Wrote, Read, Data, Copy, Copied, Alive}
use Rattle.bx_mirror_client.specs.Sends.{member_at}
use Rattle.bx_mirror_member.specs.Acting.{IsCopiedHere, IsTaken}
use Rattle.bx_mirror_member.specs.Standing.{MemberView as Serving, learned}
use Rattle.bx_mirror_server.proofs.Taking.{partly, piece_partly}
use Rattle.bx_mirror_server.specs.Serving.{BringsOf, BringsOnly, run_of}
use Rattle.bx_mirror_server.specs.Working.{alone}
use Rattle.bx_mirror_cluster.specs.Fitting.{IsSettledOn, Keeps, Parts}
use Rattle.bx_mirror_cluster.specs.GoesFurther.{GoesFurther}
use Rattle.bx_mirror_cluster.specs.MemberSteps.{IsFor, IsPieceIn, IsWriteIn, MayServe, with_serving}
use Rattle.bx_mirror_cluster.proofs.Chained.{settled_is}
use Rattle.bx_mirror_cluster.proofs.MemberFaulted.{faults_cut, faults_kept, faults_piece}

-- what is alone is alone
the_one : (runs : List Run) (write : Sent) → Contains (alone runs) write → record { session = 0; until = 0; runs = runs } ≡ write
the_one runs write (zero, less, is) = is
the_one runs write (suc k, less, is) = absurd (omega (arith, less))

-- what it brings where it brings this alone
alone_is : (runs : List Run) (device sector : ℕ) (content other : List ℕ) → IsOnly (alone runs) 0 device sector content → WritesIn runs device sector other → other ≡ content
alone_is runs device sector content other only brings = elim (only.each (record { session = 0; until = 0; runs = runs }) other (0, omega arith, refl) brings) [
  | inl same ↦ same
  | inr over ↦ absurd (omega (arith, over))
]

alone_only : (runs : List Run) (device sector : ℕ) (content : List ℕ) → ((other : List ℕ) → WritesIn runs device sector other → other ≡ content) → IsOnly (alone runs) 0 device sector content
alone_only runs device sector content unique = record {
  each = λ write other there brings. inl (unique other (subst (λ (s : Sent). WritesTo s device sector other) (sym (the_one runs write there)) brings));
}

nothing_only : (device sector : ℕ) (content : List ℕ) → IsOnly (alone []) 0 device sector content
nothing_only device sector content = alone_only [] device sector content (λ other brings. absurd (nothing brings.0 brings.1))

behind : (d : ℕ) (b : Bool) → 3 ≤ member_disk d b
behind d false = omega arith
behind d true = omega arith

-- disks where one sector has this
abbrev with_sector : Disks → ℕ → ℕ → List ℕ → Disks
with_sector x disk sector content = record { sizes = x.sizes; reads = λ k s. if (k == disk) && (s == sector) then content else x.reads k s; held = x.held; unsure = x.unsure }

-- An input brings nothing, a write that is taken, or a piece of a copy.
abbrev Comes : Serving → Input → List Run → Type 0
Comes m input runs = (runs ≡ []) ⊎ (((reading : ℕ) × (w : WriteBody) × IsWriteIn input reading w × IsTaken m reading w × (runs ≡ w.runs.1)) ⊎ ((c : CopyBody) × IsPieceIn input c × IsCopiedHere m c × (runs ≡ run_of c ∷ [])))

comes : (m : Serving) (input : Input) (runs : List Run) → BringsOnly m input runs → Comes m input runs
comes m (Tick reading) runs brings = inl brings
comes m Synced runs brings = inl brings
comes m (Packet packet reading) runs brings = elim brings [ inl none ↦ inl none | inr some ↦ by some.0 some.1 some.2 ]
  where
    by : (message : DeviceMessage) → Spells message packet.now.kind packet.now.body → BringsOf m reading message runs → Comes m (Packet packet reading) runs
    by (Write w) spells is = elim is [ inl none ↦ inl none | inr taken ↦ inr (inl (reading, w, (refl, spells), taken.0, taken.1)) ]
    by (Copy c) spells is = elim is [ inl none ↦ inl none | inr taken ↦ inr (inr (c, spells, taken.0, taken.1)) ]
    by (Wrote w) spells is = inl is
    by (Read r) spells is = inl is
    by (Data data_) spells is = inl is
    by (Copied c) spells is = inl is
    by Alive spells is = inl is

module _ (parts : Parts) (x : Disks) (past : StorePast) (d : ℕ) (b : Bool) (within : d < parts.made.devices) (before : List Letter) (keeps : Keeps parts x (store_with past before)) (known : GlobalState) (serve : MayServe parts (store_with past before) (member_at d b) known)
    (input : Input) (arrives : Arrives (past.told.letters ++ before) input) (for_it : IsFor (Member (member_at d b)) input) (steady : IsSteady past.told.greatest input) (runs : List Run) (brings : BringsOnly (learned known (parts.members (member_at d b))) input runs) where
  abbrev m : Serving
  m = learned known (parts.members (member_at d b))

  abbrev then_ : StorePast
  then_ = store_with (store_heard past (Member (member_at d b)) known.index input None) before

  -- a fault, whatever came
  pub cut_goes : (y : Disks) → KeepsMembers (alone runs) 0 x y → ((disk sector : ℕ) → disk ≢ member_disk d b → Stays x y disk sector) → SameMemberLengths x y → GoesFurther parts (with_serving parts (member_at d b) m) x y (store_with past before) then_
  cut_goes y members others lengths = elim (comes m input runs brings) [
    | inl none ↦
        let all : KeepsMembers (alone []) 0 x y = subst (λ (rs : List Run). KeepsMembers (alone rs) 0 x y) none members in
        faults_kept parts x y past d b within before keeps known serve input arrives for_it steady others lengths
        (λ s. all.reads d s b (x.reads (member_disk d b) s) (nothing_only d s (x.reads (member_disk d b) s)) refl)
        (λ s sure. all.sure d s b (x.reads (member_disk d b) s) (nothing_only d s (x.reads (member_disk d b) s)) refl sure)
    | inr some ↦ elim some [
      | inl write ↦
          let members_of : KeepsMembers (alone write.1.runs.1) 0 x y = subst (λ (rs : List Run). KeepsMembers (alone rs) 0 x y) write.4 members in
          faults_cut parts x y past d b within before keeps known serve input arrives for_it steady others lengths write.0 write.1 write.2 write.3 (partly m write.1 x y members_of)
      | inr piece ↦
          let members_of : KeepsMembers (alone (run_of piece.0 ∷ [])) 0 x y = subst (λ (rs : List Run). KeepsMembers (alone rs) 0 x y) piece.3 members in
          faults_piece parts x y past d b within before keeps known serve input arrives for_it steady others lengths piece.0 piece.1 piece.2 (λ by. piece_partly m by piece.0 x y piece.2.acts.device_is members_of)
    ]
  ]

  -- What comes to a member that an audit reads brings nothing else than what is settled: else it wouldn't be once a sector of it was written.
  brought_same : (sector : ℕ) (content other : List ℕ) → IsOnly past.writes past.told.greatest d sector content → IsSettledOn parts x (store_with past before) d sector content → IsSourceIn (last past.told.chain) d b
      → WritesIn runs d sector other → other ≡ content
  brought_same sector content other only settled source brought = sym here ∙ (settled_is (with_serving parts (member_at d b) m) y then_ d sector content goes.keeps (goes.settles d sector content only settled)).reads b source
    where
      disk : ℕ
      disk = member_disk d b

      y : Disks
      y = with_sector x disk sector other

      here : y.reads disk sector ≡ other
      here = let e : ((disk == disk) && (sector == sector)) ≡ true = grind (arith, nat_tests) in ap (λ (t : Bool). if t then other else x.reads disk sector) e

      away : (k s : ℕ) → ((k == disk) && (s == sector)) ≡ false → y.reads k s ≡ x.reads k s
      away k s e = ap (λ (t : Bool). if t then other else x.reads k s) e

      reads : (device s : ℕ) (second : Bool) (wanted : List ℕ) → IsOnly (alone runs) 0 device s wanted → x.reads (member_disk device second) s ≡ wanted → (t : Bool) → ((member_disk device second == disk) && (s == sector)) ≡ t → y.reads (member_disk device second) s ≡ wanted
      reads device s second wanted alone_here was false e = away (member_disk device second) s e ∙ was
      reads device s second wanted alone_here was true e =
          let disks : member_disk device second ≡ disk = grind (arith, nat_tests, e) in
          let sectors : s ≡ sector = grind (arith, nat_tests, e) in
          let same = same_member device d second b disks in
          ap (λ (t : Bool). if t then other else x.reads (member_disk device second) s) e
          ∙ alone_is runs d sector wanted other (subst (λ (k : ℕ). IsOnly (alone runs) 0 k sector wanted) same.0 (subst (λ (k : ℕ). IsOnly (alone runs) 0 device k wanted) sectors alone_here)) brought

      goes : GoesFurther parts (with_serving parts (member_at d b) m) x y (store_with past before) then_
      goes = cut_goes y
          (record {
            reads = λ device s second wanted alone_here was. reads device s second wanted alone_here was ((member_disk device second == disk) && (s == sector)) refl;
            sure = λ device s second wanted alone_here was sure. sure;
            replicas = λ k s low. record { reads = away k s (apart k s (low_apart k low)); sure = λ sure. sure };
          })
          (λ k s other_disk. record { reads = away k s (apart k s other_disk); held = refl; unsure = refl })
          (record { each = λ k far. refl })
        where
          apart : (k s : ℕ) → k ≢ disk → ((k == disk) && (s == sector)) ≡ false
          apart k s other_disk = grind (arith, nat_tests, other_disk)

          low_apart : (k : ℕ) → k < 3 → k ≢ disk
          low_apart k low e = let far = behind d b in absurd (omega (arith, low, e, far))

  -- an image of a crash at any moment of the event
  pub image_goes : (image : Image) → HasMembers (alone runs) 0 x image → HasSure x (member_disk d b) 1 (store_room parts.made - 1) image
      → HasSettled past.writes past.told.greatest (IsSettledOn parts x (store_with past before)) x (last past.told.chain) image
  image_goes image has sure = record {
    has = λ device sector content second only settled source.
        let is = settled_is parts x (store_with past before) device sector content keeps settled in
        by device sector content second only settled source (is.reads second source) (is.sure second source) (member_disk device second == member_disk d b) refl;
    labels = λ device second source is_sure. label device second is_sure (member_disk device second == member_disk d b) refl;
    replicas = λ k s low is_sure. sure.outside.elsewhere k s (λ e. let far = behind d b in absurd (omega (arith, low, e, far))) is_sure;
  }
    where
      by : (device sector : ℕ) (content : List ℕ) (second : Bool) → IsOnly past.writes past.told.greatest device sector content → IsSettledOn parts x (store_with past before) device sector content → IsSourceIn (last past.told.chain) device second
          → x.reads (member_disk device second) sector ≡ content → x.unsure (member_disk device second) sector ≡ false → (t : Bool) → (member_disk device second == member_disk d b) ≡ t → image (member_disk device second) sector ≡ content
      by device sector content second only settled source reads is_sure false e = sure.outside.elsewhere (member_disk device second) sector (λ same. absurd (grind (arith, nat_tests, same, e))) is_sure ∙ reads
      by device sector content second only settled source reads is_sure true e =
          let disks : member_disk device second ≡ member_disk d b = grind (arith, nat_tests, e) in
          let same = same_member device d second b disks in
          let only_here = subst (λ (k : ℕ). IsOnly past.writes past.told.greatest k sector content) same.0 only in
          let settled_here = subst (λ (k : ℕ). IsSettledOn parts x (store_with past before) k sector content) same.0 settled in
          let source_here = subst (λ (k : ℕ). IsSourceIn (last past.told.chain) k b) same.0 (subst (λ (c : Bool). IsSourceIn (last past.told.chain) device c) same.1 source) in
          has.members device sector second content
          (alone_only runs device sector content (λ other brought. brought_same sector content other only_here settled_here source_here (subst (λ (k : ℕ). WritesIn runs k sector other) same.0 brought)))
          reads is_sure

      label : (device : ℕ) (second : Bool) → x.unsure (member_disk device second) 0 ≡ false → (t : Bool) → (member_disk device second == member_disk d b) ≡ t → image (member_disk device second) 0 ≡ x.reads (member_disk device second) 0
      label device second is_sure false e = sure.outside.elsewhere (member_disk device second) 0 (λ same. absurd (grind (arith, nat_tests, same, e))) is_sure
      label device second is_sure true e =
          let disks : member_disk device second ≡ member_disk d b = grind (arith, nat_tests, e) in
          subst (λ (k : ℕ). image k 0 ≡ x.reads k 0) (sym disks) (sure.outside.before 0 (omega arith) (subst (λ (k : ℕ). x.unsure k 0 ≡ false) disks is_sure))
