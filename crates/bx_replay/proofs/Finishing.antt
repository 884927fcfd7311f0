-- What is written at the end, or a part of it; and why an end isn't reached.
use Rattle.std.proofs.Common.{◌≡◌, ◌+◌, ◌≤◌, ℕ, zero, suc, Bool, true, false, cond, List, [], ◌∷◌, ◌++◌, Err, inl, inr, refl, sym, ap, subst, ◌∙◌, take, drop, get_or, length, arith, append_assoc}
use Rattle.std.specs.Prelude.{codes, filter, map}
use Rattle.std.specs.List.{AllByRecursion}
use Rattle.bx_base.specs.Text.{ended}
use Rattle.bx_base.specs.declared.names.Point.{Point}
use Rattle.bx_disk.specs.Disks.{Disks}
use Rattle.bx_model.specs.Listing.{listing}
use Rattle.bx_model.specs.declared.tree.Tree.{Tree}
use Rattle.bx_opens.specs.Opening.{AreOpenAlone}
use Rattle.bx_opens.specs.bx_rack_audit.specs.Alone.{StandAlone}
use Rattle.bx_script.specs.TraceText.{InTraceRange, trace_text}
use Rattle.bx_script.specs.declared.trace_line.TraceLine.TheVariants.{Acted}
use Rattle.bx_stops.specs.declared.stop.Stop.{Stop}
use Rattle.bx_stops.specs.declared.stop.Stop.TheVariants as stops
use Rattle.bx_replay.specs.Outcome.{closing_text}
use Rattle.bx_replay.specs.Replay.{Ends, HasBenchCause, HasFinishCause, HasPrintCause, IsShownAs, IsUnread}

-- where the tree isn't read back, there is no end
pub not_read_back : (stop : Stop) (before now : ℕ) (Held Held_then : Type 0) (bench_before bench_now : ℕ) → (Held_then → Held) → HasBenchCause stop Held bench_before bench_now
    → HasFinishCause stop before now Held_then bench_before bench_now
not_read_back (stops.Refused line reason) before now Held Held_then bench_before bench_now gives cause = absurd cause
not_read_back stops.ReadFault before now Held Held_then bench_before bench_now gives cause = absurd cause
not_read_back stops.WriteFault before now Held Held_then bench_before bench_now gives cause = absurd cause
not_read_back stops.DiskFault before now Held Held_then bench_before bench_now gives (inl rose) = inl rose
not_read_back stops.DiskFault before now Held Held_then bench_before bench_now gives (inr none) = inr (λ held. none (gives held))
not_read_back stops.OutOfMemory before now Held Held_then bench_before bench_now gives cause = tt

pub unread : (stop : Stop) (Held : Type 0) (bench_before bench_now : ℕ) → HasBenchCause stop Held bench_before bench_now → IsUnread (Err stop)
unread (stops.Refused line reason) Held bench_before bench_now cause = cause
unread stops.ReadFault Held bench_before bench_now cause = cause
unread stops.WriteFault Held bench_before bench_now cause = cause
unread stops.DiskFault Held bench_before bench_now cause = tt
unread stops.OutOfMemory Held bench_before bench_now cause = tt

-- and nothing is written
pub unended : (stop : Stop) (disks : Disks) (lacks : ℕ → Bool) (tree : Tree) (written : List ℕ) (Held : Type 0) (bench_before bench_now : ℕ) → HasBenchCause stop Held bench_before bench_now → Ends (Err stop) disks lacks tree written written
unended (stops.Refused line reason) disks lacks tree written Held bench_before bench_now cause = absurd cause
unended stops.ReadFault disks lacks tree written Held bench_before bench_now cause = absurd cause
unended stops.WriteFault disks lacks tree written Held bench_before bench_now cause = absurd cause
unended stops.DiskFault disks lacks tree written Held bench_before bench_now cause = refl
unended stops.OutOfMemory disks lacks tree written Held bench_before bench_now cause = refl

-- where the sink fails, or memory runs out
pub not_printed : (stop : Stop) (before now : ℕ) (Held : Type 0) (bench_before bench_now : ℕ) → HasPrintCause stop before now → HasFinishCause stop before now Held bench_before bench_now
not_printed (stops.Refused line reason) before now Held bench_before bench_now cause = absurd cause
not_printed stops.ReadFault before now Held bench_before bench_now cause = absurd cause
not_printed stops.WriteFault before now Held bench_before bench_now cause = cause
not_printed stops.DiskFault before now Held bench_before bench_now cause = absurd cause
not_printed stops.OutOfMemory before now Held bench_before bench_now cause = tt

-- parts of two lists, one behind the other
pub take_front : (n : ℕ) (xs ys : List ℕ) → n ≤ length xs → take n (xs ++ ys) ≡ take n xs
take_front zero [] ys fits = refl
take_front zero (x ∷ xs) ys fits = refl
take_front (suc n) [] ys fits = absurd (omega (arith, fits))
take_front (suc n) (x ∷ xs) ys fits = ap (λ (l : List ℕ). x ∷ l) (take_front n xs ys (omega (arith, fits)))

pub take_over : (xs ys : List ℕ) (n m : ℕ) → m ≡ length xs + n → take m (xs ++ ys) ≡ xs ++ take n ys
take_over [] ys n m is = ap (λ (k : ℕ). take k ys) (omega (arith, is))
take_over (x ∷ xs) ys n zero is = absurd (omega (arith, is))
take_over (x ∷ xs) ys n (suc m) is = ap (λ (l : List ℕ). x ∷ l) (take_over xs ys n m (omega (arith, is)))

-- one point more, which is told or not, in front of those that are told
one_in_range : (point : Point) (behind : List Point) (told : Bool) → (told ≡ true → InTraceRange (Acted point)) → AllByRecursion InTraceRange (map Acted behind) → AllByRecursion InTraceRange (map Acted (cond told (point ∷ behind) behind))
one_in_range point behind true fits later = (fits refl, later)
one_in_range point behind false fits later = later

take_whole : (n : ℕ) (points : List Point) → n ≡ length points → take n points ≡ points
take_whole zero [] is = refl
take_whole zero (point ∷ points) is = absurd (omega (arith, is))
take_whole (suc n) [] is = refl
take_whole (suc n) (point ∷ points) is = ap (λ (l : List Point). point ∷ l) (take_whole n points (omega (arith, is)))

pub in_range_on : (lacks : ℕ → Bool) (points : List Point) (none : Point) (told : Bool) (n : ℕ) → n + 1 ≡ length points → told ≡ lacks (get_or points 0 none).call → (told ≡ true → InTraceRange (Acted (get_or points 0 none)))
    → AllByRecursion InTraceRange (map Acted (filter (λ p. lacks p.call) (take n (drop 1 points)))) → AllByRecursion InTraceRange (map Acted (filter (λ p. lacks p.call) points))
in_range_on lacks [] none told n count is fits later = absurd (omega (arith, count))
in_range_on lacks (point ∷ behind) none told n count is fits later =
    let told_behind = filter (λ (p : Point). lacks p.call) behind in
    let whole : take n behind ≡ behind = take_whole n behind (omega (arith, count)) in
    subst (λ (b : Bool). AllByRecursion InTraceRange (map Acted (cond b (point ∷ told_behind) told_behind))) is
    (one_in_range point told_behind told fits (subst (λ (l : List Point). AllByRecursion InTraceRange (map Acted (filter (λ (p : Point). lacks p.call) l))) whole later))

module _ (disks : Disks) (lacks : ℕ → Bool) (tree : Tree) (opened : List Point) (open_are : AreOpenAlone disks opened) (stands : StandAlone disks tree) where
  abbrev pub points : List Point
  points = filter (λ point. lacks point.call) opened

  abbrev pub front : List ℕ
  front = ended (codes "end") ++ trace_text (map Acted points)

  whole : front ++ listing tree ≡ closing_text (map Acted points) tree
  whole = append_assoc (ended (codes "end")) (trace_text (map Acted points)) (listing tree)

  pub shown : AllByRecursion InTraceRange (map Acted points) → IsShownAs disks lacks tree points
  shown in_range = record { stands = stands; opened = opened; open_are = open_are; points_are = refl; in_range = in_range }

  -- the points weren't all written
  pub ended_in_points : (text old new : List ℕ) (n : ℕ) → text ≡ front → n ≤ length text → new ≡ old ++ take n text → new ≡ old ++ take n (closing_text (map Acted points) tree)
  ended_in_points text old new n is fits part =
      part ∙ ap (λ (l : List ℕ). old ++ take n l) is ∙ ap (λ (l : List ℕ). old ++ l) (sym (take_front n front (listing tree) (rw is at fits)) ∙ ap (take n) whole)

  -- the listing wasn't
  pub ended_in_listing : (text lines old middle new : List ℕ) (n : ℕ) → text ≡ front → lines ≡ listing tree → middle ≡ old ++ text → new ≡ middle ++ take n lines → new ≡ old ++ take (length front + n) (closing_text (map Acted points) tree)
  ended_in_listing text lines old middle new n is listed begun part =
      part ∙ ap (λ (l : List ℕ). middle ++ take n l) listed ∙ ap (λ (l : List ℕ). l ++ take n (listing tree)) (begun ∙ ap (λ (l : List ℕ). old ++ l) is) ∙ append_assoc old front (take n (listing tree))
      ∙ ap (λ (l : List ℕ). old ++ l) (sym (take_over front (listing tree) n (length front + n) refl) ∙ ap (take (length front + n)) whole)

  -- all was
  pub ended_whole : (text lines old middle new : List ℕ) → text ≡ front → lines ≡ listing tree → middle ≡ old ++ text → new ≡ middle ++ lines → new ≡ old ++ closing_text (map Acted points) tree
  ended_whole text lines old middle new is listed begun all =
      all ∙ ap (λ (l : List ℕ). middle ++ l) listed ∙ ap (λ (l : List ℕ). l ++ listing tree) (begun ∙ ap (λ (l : List ℕ). old ++ l) is) ∙ append_assoc old front (listing tree) ∙ ap (λ (l : List ℕ). old ++ l) whole
