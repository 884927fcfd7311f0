-- What holds of all disks that a record tells.
use Rattle.std.specs.Prelude.{◌≡◌, ℕ, zero, suc, ◌+◌, ◌-◌, ◌/◌, ◌%◌, ◌<◌, ◌≤◌, ◌==◌, Bool, true, false, not, ◌&&◌, ◌||◌, nat_lt, nat_le, if◌then◌else◌, List, [], ◌∷◌, ◌++◌, length, take, slice_index, ◌⊎◌, refl}
use Rattle.std.proofs.Common.{arith, sym, ap, subst, ◌∙◌, inl, inr, length-append}
use Rattle.std.specs.List.{list_all}
use Rattle.std.proofs.lemmas.Bool.{ltb-true, lt-ltb}
use Rattle.std.proofs.lemmas.Bool.Decides.{nat_tests}
use Rattle.bx_memory_rack.specs.Bytes.{is_byte, never, both, zeros_whole, sector_whole}
use Rattle.bx_memory_rack.specs.Drawn.{noise_whole}
use Rattle.bx_disk.specs.Disks.{Image, Disks, IsSector, IsImage, is_within, is_among, sector_of, written, synced, shaped, blanked, blank_image}
use Rattle.bx_disk.specs.Crash.{left_with, crashed, noise_at, seeded}
use Rattle.bx_disk.specs.Moments.{Elapses}
use Rattle.bx_disk.specs.Past.{Past, LeftSince, fits, after_entry, after_entries, disks_of, moment_of}
use Rattle.bx_disk.specs.declared.noise.Noise.{Noise}
use Rattle.bx_disk.specs.declared.noise.Noise.TheVariants.{Keep, Drop, Seed}
use Rattle.bx_disk.specs.declared.entry.Entry.{Entry}
use Rattle.bx_disk.specs.declared.entry.Entry.TheVariants.{Wrote, Synced, Shaped, Crashed, Blanked}

pub record IsLawful (disks : Disks) : Type 0 where
  pub whole : (d s : ℕ) → s < slice_index disks.sizes d → IsSector (disks.reads d s)
  pub held : (d s : ℕ) → s < slice_index disks.sizes d → IsSector (disks.held d s)
  pub beyond : (d s : ℕ) → slice_index disks.sizes d ≤ s → disks.reads d s ≡ []
  pub there : (d s : ℕ) → disks.unsure d s ≡ true → s < slice_index disks.sizes d
  pub settled : (d s : ℕ) → disks.unsure d s ≡ false → disks.held d s ≡ disks.reads d s

whole_blank : (sizes : List ℕ) (d s : ℕ) → s < slice_index sizes d → IsSector (blank_image sizes d s)
whole_blank sizes d s within = rw (lt-ltb s (slice_index sizes d) within) zeros_whole

beyond_blank : (sizes : List ℕ) (d s : ℕ) → slice_index sizes d ≤ s → blank_image sizes d s ≡ []
beyond_blank sizes d s past = at (nat_lt s (slice_index sizes d)) refl
  where
    at : (b : Bool) → nat_lt s (slice_index sizes d) ≡ b → blank_image sizes d s ≡ []
    at true is = let less = ltb-true s (slice_index sizes d) is in absurd (omega arith)
    at false is = rw is refl

lawful_shaped : (sizes : List ℕ) → IsLawful (shaped sizes)
lawful_shaped sizes = record {
  whole = whole_blank sizes;
  held = whole_blank sizes;
  beyond = beyond_blank sizes;
  there = λ d s unsure. absurd (never unsure);
  settled = λ d s sure. refl;
}

-- what is chosen by a test, where it holds of both
chosen : (P : List ℕ → Type 0) (b : Bool) (x y : List ℕ) → (b ≡ true → P x) → (b ≡ false → P y) → P (if b then x else y)
chosen P true x y yes_case no_case = yes_case refl
chosen P false x y yes_case no_case = no_case refl

-- What a sure sector holds is what it reads as, on a disk that was synced, that crashed or that was made blank, and on
-- the others; and after a write.
synced_settled : (here unsure : Bool) (reads held : List ℕ) → (not here && unsure) ≡ false → (unsure ≡ false → held ≡ reads) → (if here then reads else held) ≡ reads
synced_settled true unsure reads held sure was = refl
synced_settled false unsure reads held sure was = was sure

left_settled : (here unsure : Bool) (content reads held : List ℕ) → (not here && unsure) ≡ false → (unsure ≡ false → held ≡ reads)
    → (if here then (if unsure then content else reads) else held) ≡ (if here && unsure then content else reads)
left_settled true unsure content reads held sure was = refl
left_settled false unsure content reads held sure was = was sure

blanked_settled : (here unsure : Bool) (blank reads held : List ℕ) → (not here && unsure) ≡ false → (unsure ≡ false → held ≡ reads)
    → (if here then blank else held) ≡ (if here then blank else reads)
blanked_settled true unsure blank reads held sure was = refl
blanked_settled false unsure blank reads held sure was = was sure

written_settled : (within unsure : Bool) (bytes reads held : List ℕ) → (within || unsure) ≡ false → (unsure ≡ false → held ≡ reads)
    → held ≡ (if within then bytes else reads)
written_settled true unsure bytes reads held sure was = absurd (never (sym sure))
written_settled false unsure bytes reads held sure was = was sure

lawful_synced : (disks : Disks) (disk : ℕ) → IsLawful disks → IsLawful (synced disks disk)
lawful_synced disks disk lawful = record {
  whole = lawful.whole;
  held = λ d s within. chosen IsSector (d == disk) (disks.reads d s) (disks.held d s) (λ is. lawful.whole d s within) (λ is. lawful.held d s within);
  beyond = lawful.beyond;
  there = λ d s unsure. lawful.there d s (both (not (d == disk)) (disks.unsure d s) unsure).1;
  settled = λ d s sure. synced_settled (d == disk) (disks.unsure d s) (disks.reads d s) (disks.held d s) sure (lawful.settled d s);
}

lawful_left : (disks : Disks) (disk : ℕ) (content : ℕ → List ℕ) → IsLawful disks → ((s : ℕ) → s < slice_index disks.sizes disk → IsSector (content s))
    → IsLawful (left_with disks disk content)
lawful_left disks disk content lawful each = record {
  whole = λ d s within. chosen IsSector ((d == disk) && disks.unsure d s) (content s) (disks.reads d s) (λ is. here d s (both (d == disk) (disks.unsure d s) is).0 within) (λ is. lawful.whole d s within);
  held = λ d s within. chosen IsSector (d == disk) (if disks.unsure d s then content s else disks.reads d s) (disks.held d s)
      (λ is. chosen IsSector (disks.unsure d s) (content s) (disks.reads d s) (λ unsure. here d s is within) (λ sure. lawful.whole d s within))
      (λ is. lawful.held d s within);
  beyond = λ d s past. chosen (λ (l : List ℕ). l ≡ []) ((d == disk) && disks.unsure d s) (content s) (disks.reads d s)
      (λ is. let less = lawful.there d s (both (d == disk) (disks.unsure d s) is).1 in absurd (omega arith)) (λ is. lawful.beyond d s past);
  there = λ d s unsure. lawful.there d s (both (not (d == disk)) (disks.unsure d s) unsure).1;
  settled = λ d s sure. left_settled (d == disk) (disks.unsure d s) (content s) (disks.reads d s) (disks.held d s) sure (lawful.settled d s);
}
  where
    here : (d s : ℕ) → (d == disk) ≡ true → s < slice_index disks.sizes d → IsSector (content s)
    here d s is within = let same : d ≡ disk = grind (arith, nat_tests, is) in each s (subst (λ (e : ℕ). s < slice_index disks.sizes e) same within)

lawful_crashed : (disks : Disks) (disk : ℕ) (how : Noise) → IsLawful disks → IsLawful (crashed disks disk how)
lawful_crashed disks disk Keep lawful = lawful_synced disks disk lawful
lawful_crashed disks disk Drop lawful = lawful_left disks disk (disks.held disk) lawful (lawful.held disk)
lawful_crashed disks disk (Seed seed) lawful = lawful_left disks disk (noise_at (disks.unsure disk) (seeded seed)) lawful (λ s within. noise_whole (disks.unsure disk) (seeded seed) s)

left_image : (disks : Disks) (disk : ℕ) (content : ℕ → List ℕ) → IsLawful disks → ((s : ℕ) → s < slice_index disks.sizes disk → IsSector (content s))
    → IsImage disks (left_with disks disk content).reads
left_image disks disk content lawful each = record {
  sure = λ d s sure. chosen (λ (l : List ℕ). l ≡ disks.reads d s) ((d == disk) && disks.unsure d s) (content s) (disks.reads d s)
      (λ is. absurd (never (sym sure ∙ (both (d == disk) (disks.unsure d s) is).1))) (λ is. refl);
  torn = λ d s unsure. (lawful_left disks disk content lawful each).whole d s (lawful.there d s unsure);
}

-- A crash leaves what it may leave.
pub crashed_image : (disks : Disks) (disk : ℕ) (how : Noise) → IsLawful disks → IsImage disks (crashed disks disk how).reads
crashed_image disks disk Keep lawful = record { sure = λ d s sure. refl; torn = λ d s unsure. lawful.whole d s (lawful.there d s unsure) }
crashed_image disks disk Drop lawful = left_image disks disk (disks.held disk) lawful (lawful.held disk)
crashed_image disks disk (Seed seed) lawful = left_image disks disk (noise_at (disks.unsure disk) (seeded seed)) lawful (λ s within. noise_whole (disks.unsure disk) (seeded seed) s)

lawful_blanked : (disks : Disks) (disk : ℕ) → IsLawful disks → IsLawful (blanked disks disk)
lawful_blanked disks disk lawful = record {
  whole = λ d s within. chosen IsSector (d == disk) (blank_image disks.sizes d s) (disks.reads d s) (λ is. whole_blank disks.sizes d s within) (λ is. lawful.whole d s within);
  held = λ d s within. chosen IsSector (d == disk) (blank_image disks.sizes d s) (disks.held d s) (λ is. whole_blank disks.sizes d s within) (λ is. lawful.held d s within);
  beyond = λ d s past. chosen (λ (l : List ℕ). l ≡ []) (d == disk) (blank_image disks.sizes d s) (disks.reads d s) (λ is. beyond_blank disks.sizes d s past) (λ is. lawful.beyond d s past);
  there = λ d s unsure. lawful.there d s (both (not (d == disk)) (disks.unsure d s) unsure).1;
  settled = λ d s sure. blanked_settled (d == disk) (disks.unsure d s) (blank_image disks.sizes d s) (disks.reads d s) (disks.held d s) sure (lawful.settled d s);
}

lawful_written : (disks : Disks) (disk from : ℕ) (bytes : List ℕ) → IsLawful disks → fits disks.sizes disk from bytes ≡ true → IsLawful (written disks disk from bytes)
lawful_written disks disk from bytes lawful is = record {
  whole = λ d s within. whole_at (is_within disk from (length bytes / 512) d s) d s refl within;
  held = lawful.held;
  beyond = λ d s past. beyond_at (is_within disk from (length bytes / 512) d s) d s refl past;
  there = λ d s unsure. there_at (is_within disk from (length bytes / 512) d s) d s refl unsure;
  settled = λ d s sure.
      written_settled (is_within disk from (length bytes / 512) d s) (disks.unsure d s) (sector_of bytes (s - from)) (disks.reads d s) (disks.held d s) sure (lawful.settled d s);
}
  where
    parts : (((length bytes % 512 == 0) && nat_le (from + length bytes / 512) (slice_index disks.sizes disk)) ≡ true) × (list_all is_byte bytes ≡ true)
    parts = both ((length bytes % 512 == 0) && nat_le (from + length bytes / 512) (slice_index disks.sizes disk)) (list_all is_byte bytes) is

    range : from + length bytes / 512 ≤ slice_index disks.sizes disk
    range = grind (arith, nat_tests, (both (length bytes % 512 == 0) (nat_le (from + length bytes / 512) (slice_index disks.sizes disk)) parts.0).1)

    among : (d s : ℕ) → is_within disk from (length bytes / 512) d s ≡ true → (d ≡ disk) × (from ≤ s) × (s < from + length bytes / 512)
    among d s within =
        let first = both (d == disk) (is_among from (length bytes / 512) s) within in
        let rest = both (nat_le from s) (nat_lt s (from + length bytes / 512)) first.1 in
        (grind (arith, nat_tests, first.0), grind (arith, nat_tests, rest.0), ltb-true s (from + length bytes / 512) rest.1)

    inside : (d s : ℕ) → is_within disk from (length bytes / 512) d s ≡ true → s < slice_index disks.sizes d
    inside d s within = let where_it_is = among d s within in rw (where_it_is.0) (let less = where_it_is.2 in let most = range in omega arith)

    whole_at : (b : Bool) (d s : ℕ) → is_within disk from (length bytes / 512) d s ≡ b → s < slice_index disks.sizes d → IsSector ((written disks disk from bytes).reads d s)
    whole_at true d s within there =
        let where_it_is = among d s within in
        let low = where_it_is.1 in
        let less = where_it_is.2 in
        rw within (sector_whole bytes (s - from) parts.1 (omega arith))
    whole_at false d s within there = rw within (lawful.whole d s there)

    beyond_at : (b : Bool) (d s : ℕ) → is_within disk from (length bytes / 512) d s ≡ b → slice_index disks.sizes d ≤ s → (written disks disk from bytes).reads d s ≡ []
    beyond_at true d s within past = let less = inside d s within in absurd (omega arith)
    beyond_at false d s within past = rw within (lawful.beyond d s past)

    there_at : (b : Bool) (d s : ℕ) → is_within disk from (length bytes / 512) d s ≡ b → (written disks disk from bytes).unsure d s ≡ true → s < slice_index disks.sizes d
    there_at true d s within unsure = inside d s within
    there_at false d s within unsure = lawful.there d s (rw within at unsure)

lawful_entry : (disks : Disks) (entry : Entry) → IsLawful disks → IsLawful (after_entry disks entry)
lawful_entry disks (Wrote disk from bytes) lawful = at (fits disks.sizes disk from bytes) refl
  where
    at : (b : Bool) → fits disks.sizes disk from bytes ≡ b → IsLawful (if fits disks.sizes disk from bytes then written disks disk from bytes else disks)
    at true is = rw is (lawful_written disks disk from bytes lawful is)
    at false is = rw is lawful
lawful_entry disks (Synced disk) lawful = lawful_synced disks disk lawful
lawful_entry disks (Shaped sizes) lawful = lawful_shaped sizes
lawful_entry disks (Crashed disk how) lawful = lawful_crashed disks disk how lawful
lawful_entry disks (Blanked disk) lawful = lawful_blanked disks disk lawful

lawful_entries : (disks : Disks) (entries : List Entry) → IsLawful disks → IsLawful (after_entries disks entries)
lawful_entries disks [] lawful = lawful
lawful_entries disks (entry ∷ entries) lawful = lawful_entries (after_entry disks entry) entries (lawful_entry disks entry lawful)

pub lawful_past : (past : Past) → IsLawful (disks_of past)
lawful_past past = lawful_entries (shaped past.first) past.entries (lawful_shaped past.first)

pub one_more_entry : (disks : Disks) (entries : List Entry) (entry : Entry) → after_entries disks (entries ++ entry ∷ []) ≡ after_entry (after_entries disks entries) entry
one_more_entry disks [] entry = refl
one_more_entry disks (first ∷ entries) entry = one_more_entry (after_entry disks first) entries entry

take_all : (entries : List Entry) → take (length entries) entries ≡ entries
take_all [] = refl
take_all (entry ∷ entries) = ap (λ (rest : List Entry). entry ∷ rest) (take_all entries)

take_more : (n : ℕ) (entries : List Entry) (entry : Entry) → n ≤ length entries → take n (entries ++ entry ∷ []) ≡ take n entries
take_more zero entries entry le = refl
take_more (suc n) [] entry le = absurd (omega arith)
take_more (suc n) (first ∷ entries) entry le = ap (λ (rest : List Entry). first ∷ rest) (take_more n entries entry (omega arith))

pub now_counts : (past : Past) (t : ℕ) (image : Image) → t ≤ moment_of past → IsImage (disks_of past) image → LeftSince past t image
now_counts past t image late is = record {
  at = length past.entries;
  late = late;
  over = omega arith;
  leaves = subst (λ (l : List Entry). IsImage (after_entries (shaped past.first) l) image) (sym (take_all past.entries)) is;
}

pub now_only : (past : Past) (image : Image) → LeftSince past (moment_of past) image → IsImage (disks_of past) image
now_only past image left =
    let same : left.at ≡ length past.entries = omega (arith, left.late, left.over) in
    subst (λ (l : List Entry). IsImage (after_entries (shaped past.first) l) image) (ap (λ (n : ℕ). take n past.entries) same ∙ take_all past.entries) left.leaves

-- no entry more
pub time_stays : (old new : Past) → new.first ≡ old.first → new.entries ≡ old.entries
    → Elapses (moment_of old) (moment_of new) (LeftSince old) (LeftSince new) (disks_of new)
time_stays old new first entries = record {
  later = let long = ap (λ (l : List Entry). length l) entries in omega arith;
  nothing_else = λ t image le left. inl (as_was old new first entries t image left);
  keeps = λ t image le left. as_was new old (sym first) (sym entries) t image left;
}
  where
    as_was : (a b : Past) → b.first ≡ a.first → b.entries ≡ a.entries → (t : ℕ) (image : Image) → LeftSince b t image → LeftSince a t image
    as_was a b same_first same t image left = record {
      at = left.at;
      late = left.late;
      over = let long = ap (λ (l : List Entry). length l) same in let over = left.over in omega arith;
      leaves = subst (λ (f : List ℕ). IsImage (after_entries (shaped f) (take left.at a.entries)) image) same_first
          (subst (λ (l : List Entry). IsImage (after_entries (shaped b.first) (take left.at l)) image) same left.leaves);
    }

-- one entry more
pub time_goes_on : (old new : Past) (entry : Entry) → new.first ≡ old.first → new.entries ≡ old.entries ++ entry ∷ []
    → Elapses (moment_of old) (moment_of new) (LeftSince old) (LeftSince new) (disks_of new)
time_goes_on old new entry first entries = record {
  later = let more = long in omega arith;
  nothing_else = λ t image le left. which t image left (nat_le left.at (length old.entries)) refl;
  keeps = λ t image le left. record {
    at = left.at;
    late = left.late;
    over = let over = left.over in let more = long in omega arith;
    leaves = subst (λ (f : List ℕ). IsImage (after_entries (shaped f) (take left.at new.entries)) image) (sym first)
        (subst (λ (l : List Entry). IsImage (after_entries (shaped old.first) l) image) (sym (part left.at left.over)) left.leaves);
  };
}
  where
    long : length new.entries ≡ length old.entries + 1
    long = ap (λ (l : List Entry). length l) entries ∙ length-append old.entries (entry ∷ [])

    part : (n : ℕ) → n ≤ length old.entries → take n new.entries ≡ take n old.entries
    part n le = ap (λ (l : List Entry). take n l) entries ∙ take_more n old.entries entry le

    which : (t : ℕ) (image : Image) (left : LeftSince new t image) (b : Bool) → nat_le left.at (length old.entries) ≡ b → LeftSince old t image ⊎ IsImage (disks_of new) image
    which t image left true is =
        let le : left.at ≤ length old.entries = grind (arith, nat_tests, is) in
        inl (record {
          at = left.at;
          late = left.late;
          over = le;
          leaves = subst (λ (f : List ℕ). IsImage (after_entries (shaped f) (take left.at old.entries)) image) first
              (subst (λ (l : List Entry). IsImage (after_entries (shaped new.first) l) image) (part left.at le) left.leaves);
        })
    which t image left false is =
        let more = long in
        let over = left.over in
        let past : length old.entries < left.at = grind (arith, nat_tests, is) in
        let same : left.at ≡ length new.entries = omega arith in
        inr (subst (λ (l : List Entry). IsImage (after_entries (shaped new.first) l) image) (ap (λ (n : ℕ). take n new.entries) same ∙ take_all new.entries) left.leaves)
