-- What WRITE comes to, by the inode of the file.
use Rattle.std.proofs.Common.{◌≡◌, ℕ, ◌+◌, ◌-◌, ◌/◌, ◌<◌, ◌≤◌, ◌^◌, arith, Bool, true, false, List, [], ◌++◌, length, take, drop, replicate, get_or, refl, sym, ap, ◌∙◌, subst, Option, Some, None, inl, inr}
use Rattle.std.specs.Prelude.{◌==◌, ◌&&◌, ◌||◌, ◌⊎◌, ◌≢◌, bit_and, max, min, not, nat_lt, if◌then◌else◌, IfErr, IfOk, Result, Ok, Err}
use Rattle.std.proofs.lemmas.Bool.{cases_lt}
use Rattle.std.proofs.lemmas.Bool.Decides.{nat_tests}
use Rattle.std.proofs.lemmas.List.{append_assoc, ext_get_or, get_or_append_left, get_or-append_right, get_or-drop, get_or_past, get_or-replicate, get_or-take, length-append, length-drop, length-replicate, length-take}
use Rattle.bx_changes.specs.Changes.{Changes}
use Rattle.bx_base.specs.declared.names.Mode.TheVariants.{Exclusive}
use Rattle.bx_blink.specs.Walks.{reads_with}
use Rattle.bx_changes.specs.Growing.{IfFull, IsChangeBy, NeedsBy}
use Rattle.bx_changes.specs.declared.error.ChangeError.{ChangeError}
use Rattle.bx_changes.specs.declared.error.ChangeError.TheVariants.{Stopped, Full}
use Rattle.bx_changes.proofs.FileChanged.{changed_is_put}
use Rattle.bx_places.specs.Handles.{named}
use Rattle.bx_inodes.specs.Fitting.{HintsFitAll}
use Rattle.bx_inodes.proofs.Pages.{inode_is}
use Rattle.bx_inodes.specs.declared.stop.Stop.{Stop}
use Rattle.bx_inodes.specs.declared.stop.Stop.TheVariants.{Need, Inner, Status, OutOfMemory}
use Rattle.bx_inodes.specs.Heads.{head_of}
use Rattle.bx_inodes.specs.Inodes.{FileAt, IsInodeOf, LiveAt, shown_size}
use Rattle.bx_inodes.specs.Stands.{Stands}
use Rattle.bx_layout.specs.declared.inode.Inode.{Inode}
use Rattle.bx_model.specs.declared.call.Call.{Call}
use Rattle.bx_model.specs.declared.reply.Reply.{Reply}
use Rattle.bx_model.specs.declared.reply.Reply.TheVariants.{Attributes}
use Rattle.bx_model.specs.declared.tree.Tree.{Tree}
use Rattle.bx_model.specs.Edits.{changed}
use Rattle.bx_model.specs.Permissions.{is_in_group}
use Rattle.bx_model.specs.Reading.{attributes_reply}
use Rattle.bx_model.specs.Steps.{Outcome, must, refuse, ◌>>=◌, ◌>>◌}
use Rattle.bx_model.specs.Writing.{write, write_errors}
use Rattle.bx_changes.specs.bx_reads.proofs.Told.{named_as, size_fits}
use Rattle.bx_records.specs.Drafts.{Changed}
use Rattle.bx_sizes.proofs.Bytes.{resized}
use Rattle.bx_sizes.proofs.Resized.{over_none, regular_bytes}
use Rattle.bx_layout.specs.Inodes.{IsKind}
use Rattle.bx_sizes.specs.Answers.{Clears}
use Rattle.bx_sizes.specs.Lengths.{grows_over}
use Rattle.bx_tree_files.specs.declared.file.Body.TheVariants.{Bytes}
use Rattle.bx_tree_files.specs.declared.file.File.{File}
use Rattle.bx_tree_files.specs.Attributes.{attributes_of}
use Rattle.bx_tree_files.specs.Changes.{most_bytes, overwritten, with_data}
use Rattle.bx_tree_files.specs.Contents.{sized, written_over}
use Rattle.bx_tree_files.specs.Files.{size_of, with_changed, with_file}
use Rattle.bx_tree_files.specs.Times.{Time}
use Rattle.bx_tree_laws.proofs.Writings.{write_keeps}
use Rattle.bx_truth.specs.Chunks.{chunks_of}
use Rattle.bx_truth.specs.PageTrees.{PageTree}
use Rattle.bx_truth.specs.Stands.{StandsFor}
use Rattle.bx_truth.specs.Stored.{HasBody, HasFields}
use Rattle.bx_truth.proofs.Cases.{eq_false, eq_true}
use Rattle.bx_truth.proofs.Put.{shown}
use Rattle.bx_views.specs.Attempts.{IsHeldDraft}
use Rattle.bx_views.specs.Truths.{Held, Hints, IsTruth, Truth, with_draft}
use Rattle.bx_writes.proofs.Laid.{needs_wider}
use Rattle.bx_writes.specs.Bytes.{IsOver}
use Rattle.bx_writes.specs.Grown.{grown}
use Rattle.bx_writes.specs.Laying.{GrowsTo}
use Rattle.bx_writes.specs.Paths.{IsFullWriting, LacksSlots, OnFileWritten, OnWriting}
use Rattle.bx_writes.specs.Steps.{IsRegularOf, PutsOn}
use Rattle.bx_writes.specs.Telling.{TellsWith}
use Rattle.bx_writes.specs.Written.{IsWritten}

-- ---- bytes

-- a byte of bytes of another size, as far as they reach
sized_at : (n : ℕ) (bytes : List ℕ) (k : ℕ) → k < n → get_or (sized n bytes) k 0 ≡ get_or bytes k 0
sized_at n bytes k less = by (cases_lt k (length bytes))
  where
    front : length (take n bytes) ≡ min n (length bytes)
    front = length-take n bytes

    by : (k < length bytes) ⊎ (length bytes ≤ k) → get_or (sized n bytes) k 0 ≡ get_or bytes k 0
    by (inl low) = get_or_append_left (take n bytes) (replicate (n - length bytes) 0) 0 k (omega (arith, front, low, less)) ∙ get_or-take n bytes k 0 less
    by (inr high) =
        get_or-append_right (take n bytes) (replicate (n - length bytes) 0) (length (take n bytes)) k 0 refl (omega (arith, front, high))
        ∙ get_or-replicate (n - length bytes) (k - length (take n bytes)) 0 0 (omega (arith, front, high, less)) ∙ sym (get_or_past bytes k 0 high)

sized_long : (n : ℕ) (bytes : List ℕ) → length (sized n bytes) ≡ n
sized_long n bytes =
    let whole = length-append (take n bytes) (replicate (n - length bytes) 0) in
    let front = length-take n bytes in
    let rest = length-replicate {A = ℕ} (n - length bytes) 0 in
    omega (arith, whole, front, rest)

-- bytes written over those that reach far enough are those of the model
pub over_is : (bytes now written : List ℕ) (offset : ℕ) → 0 < length written → IsOver (sized (max (length bytes) (offset + length written)) bytes) offset written now → now ≡ written_over offset written bytes
over_is bytes now written offset some o =
    ext_get_or 0 now (sized offset bytes ++ (written ++ drop (offset + length written) bytes)) both each ∙ sym (append_assoc (sized offset bytes) written (drop (offset + length written) bytes))
  where
    now_long : length now ≡ max (length bytes) (offset + length written)
    now_long = o.long ∙ sized_long (max (length bytes) (offset + length written)) bytes

    whole : length (sized offset bytes ++ (written ++ drop (offset + length written) bytes)) ≡ offset + (length written + (length bytes - (offset + length written)))
    whole =
        let a : length (sized offset bytes ++ (written ++ drop (offset + length written) bytes)) ≡ length (sized offset bytes) + length (written ++ drop (offset + length written) bytes) = length-append (sized offset bytes) (written ++ drop (offset + length written) bytes) in
        let b = length-append written (drop (offset + length written) bytes) in
        let c = length-drop (offset + length written) bytes in
        let d = sized_long offset bytes in
        omega (arith, a, b, c, d)

    both : length now ≡ length (sized offset bytes ++ (written ++ drop (offset + length written) bytes))
    both = omega (arith, now_long, whole)

    each : (k : ℕ) → k < length now → get_or now k 0 ≡ get_or (sized offset bytes ++ (written ++ drop (offset + length written) bytes)) k 0
    each k less = by (cases_lt k offset) (cases_lt k (offset + length written))
      where
        front : length (sized offset bytes) ≡ offset
        front = sized_long offset bytes

        by : (k < offset) ⊎ (offset ≤ k) → (k < offset + length written) ⊎ (offset + length written ≤ k) → get_or now k 0 ≡ get_or (sized offset bytes ++ (written ++ drop (offset + length written) bytes)) k 0
        by (inl low) second =
            o.below k low ∙ sized_at (max (length bytes) (offset + length written)) bytes k (omega (arith, low))
            ∙ sym (get_or_append_left (sized offset bytes) (written ++ drop (offset + length written) bytes) 0 k (omega (arith, front, low)) ∙ sized_at offset bytes k low)
        by (inr from) (inl inside) =
            o.within k from inside
            ∙ sym (get_or-append_right (sized offset bytes) (written ++ drop (offset + length written) bytes) offset k 0 front from
            ∙ get_or_append_left written (drop (offset + length written) bytes) 0 (k - offset) (omega (arith, from, inside)))
        by (inr from) (inr past) =
            let back : offset + length written + (k - offset - length written) ≡ k = omega (arith, past) in
            o.behind k past ∙ sized_at (max (length bytes) (offset + length written)) bytes k (omega (arith, less, now_long))
            ∙ sym (get_or-append_right (sized offset bytes) (written ++ drop (offset + length written) bytes) offset k 0 front from
            ∙ get_or-append_right written (drop (offset + length written) bytes) (length written) (k - offset) 0 refl (omega (arith, past))
            ∙ get_or-drop (offset + length written) bytes (k - offset - length written) 0 ∙ ap (λ (m : ℕ). get_or bytes m 0) back)

-- ---- errors

abbrev errors_by : Call → ℕ → ℕ → ℕ → ℕ → ℕ → ℕ → ℕ → Result (Unit {0}) ℕ
errors_by call offset count spare kind uid gid mode =
    refuse (kind == 2) 21
    >> (refuse (kind == 5) 6
    >> (refuse (not ((call.uid == 0) || ((call.uid == uid) || not (bit_and (if call.uid == uid then mode / 64 else if is_in_group call gid then mode / 8 else mode) 2 == 0)))) 13
    >> (refuse (nat_lt 0 count && nat_lt most_bytes (offset + count)) 27 >> refuse (nat_lt 0 count && nat_lt spare 8) 28)))

errors_are : (call : Call) (offset count spare handle : ℕ) (inode : Inode) (file : File) → HasFields inode file → write_errors call (head_of handle inode) offset count spare ≡ write_errors call file offset count spare
errors_are call offset count spare handle inode file fields = λ i. errors_by call offset count spare (fields.kind i) (fields.uid i) (fields.gid i) (fields.mode i)

-- the last line decides where the lines before it refuse nothing
last_line : (first : Result (Unit {0}) ℕ) (one other : Result (Unit {0}) ℕ) → first >> one ≡ Ok tt → (first >> other ≡ other) × (one ≡ Ok tt)
last_line (Ok tt) one other fine = (refl, fine)
last_line (Err status) one other fine = absurd cc

full_error : (call : Call) (offset count spare : ℕ) (file : File) → write_errors call file offset count 8 ≡ Ok tt → 0 < count → spare < 8 → write_errors call file offset count spare ≡ Err 28
full_error call offset count spare file fine some few =
    let a = last_line (refuse (file.kind == 2) 21) _ (refuse (file.kind == 5) 6 >> (_ >> (_ >> refuse (nat_lt 0 count && nat_lt spare 8) 28))) fine in
    let b = last_line (refuse (file.kind == 5) 6) _ (_ >> (_ >> refuse (nat_lt 0 count && nat_lt spare 8) 28)) a.1 in
    let d = last_line _ _ (_ >> refuse (nat_lt 0 count && nat_lt spare 8) 28) b.1 in
    let e = last_line _ _ (refuse (nat_lt 0 count && nat_lt spare 8) 28) d.1 in
    a.0 ∙ b.0 ∙ d.0 ∙ e.0 ∙ ap (λ (t : Bool). refuse t 28) test
  where
    test : (nat_lt 0 count && nat_lt spare 8) ≡ true
    test = grind (arith, nat_tests, some, few)

-- ---- the file that grows, by its inode

module _ (volume areas : ℕ) (held : Held) (hints : Hints) (truth : Truth) (tree : Tree) (offset : ℕ) (written : List ℕ) (now : Time) (handle : ℕ) (inode : Inode) (s : Stands volume areas truth tree) (f : IsInodeOf areas truth tree handle inode)
    (few : areas ≤ 64) (same : IsTruth held truth) (fit : HintsFitAll areas hints truth) (kind : inode.kind ≡ 1) (some : 0 < length written) (fits : offset + length written ≤ 2147483647)
    (clear : grows_over inode (offset + length written) ≡ false) where
  pub regular_of : IsRegularOf volume areas held hints truth tree handle inode
  regular_of = record { few = few; same = same; stands = s; fit = fit; at = f; kind = kind }

  pub bytes : (b : List ℕ) × (f.file.body ≡ Bytes b)
  bytes = regular_bytes areas truth tree handle f.file inode s.is f.holds f.there kind

  abbrev end : ℕ
  end = offset + length written

  abbrev pub file_then : File
  file_then = record f.file { mtime = now; ctime = now }

  abbrev pub base : List ℕ
  base = sized (max inode.size (offset + length written)) bytes.0

  body_size : length bytes.0 ≡ inode.size
  body_size = (subst (HasBody (chunks_of areas truth) s.is.owner handle (s.is.stored handle)) bytes.1 (shown areas truth tree handle f.file s.is f.there).body).bytes_are.long
      ∙ ap (λ (i : Inode). i.size) (inode_is areas truth tree s.is handle inode f.holds)

  size_small : inode.size < 2 ^ 31
  size_small = let less = size_fits tree handle f.file s.file_tree f.there in let same_size = ap size_of bytes.1 in omega (arith, less, same_size, body_size)

  pub grows : GrowsTo f.file inode (grown (offset + length written) now inode) (record f.file { mtime = now; ctime = now }) (sized (max inode.size (offset + length written)) bytes.0)
  grows = record {
    bytes = bytes.0;
    was_is = bytes.1;
    kind = refl;
    tree = refl;
    fields = record { kind = f.fields.kind; mode = f.fields.mode; nlink = f.fields.nlink; uid = f.fields.uid; gid = f.fields.gid; atime = f.fields.atime; mtime = refl; ctime = refl };
    handle_is = refl;
    grown = λ pieces are. resized pieces inode.size inode.tail bytes.0 are (max inode.size (offset + length written)) over (omega (arith, size_small, fits));
    long = sized_long (max inode.size (offset + length written)) bytes.0;
    small = omega (arith, size_small, fits);
    low = omega arith;
  }
    where
      over : (max inode.size (offset + length written) ≤ inode.size) ⊎ (inode.tail ≤ inode.size)
      over = by (over_none inode.size inode.tail (offset + length written) clear)
        where
          by : (offset + length written ≤ inode.size) ⊎ (inode.tail ≤ inode.size) → (max inode.size (offset + length written) ≤ inode.size) ⊎ (inode.tail ≤ inode.size)
          by (inl below) = inl (omega (arith, below))
          by (inr low) = inr low

-- ---- the procedure, by the file

module _ (volume areas : ℕ) (held : Held) (hints : Hints) (truth : Truth) (tree : Tree) (at : List ℕ) (call : Call) (offset : ℕ) (written : List ℕ) (now : Time) (handle : ℕ) (inode : Inode)
    (s : Stands volume areas truth tree) (f : IsInodeOf areas truth tree handle inode) (is : named volume at ≡ Some handle) where
  abbrev given : File → Outcome
  given file = if length written == 0 then Ok (attributes_reply tree file, tree) else Ok (attributes_reply tree (with_data now offset written file), changed tree file.handle (with_data now offset written))

  by_inode : (spare : ℕ) → write tree call at offset written now spare ≡ (write_errors call (head_of handle inode) offset (length written) spare >> given f.file)
  by_inode spare =
      ap (λ (o : Option File). must o 70 >>= (λ file. write_errors call file offset (length written) spare >> given file)) (named_as tree volume at (Some handle) s.volume_is (sym is) ∙ f.there)
      ∙ (λ i. sym (errors_are call offset (length written) spare handle inode f.file f.fields) i >> given f.file)

  pub refused : (status : ℕ) → write_errors call (head_of handle inode) offset (length written) 8 ≡ Err status → write tree call at offset written now 8 ≡ Err status
  refused status error = by_inode 8 ∙ (λ i. error i >> given f.file)

  -- where nothing is refused, no error comes
  pub accepted : write_errors call (head_of handle inode) offset (length written) 8 ≡ Ok tt → (status : ℕ) → write tree call at offset written now 8 ≡ Err status → ⊥
  accepted fine status error = by (length written == 0) (sym (by_inode 8 ∙ (λ i. fine i >> given f.file)) ∙ error)
    where
      by : (none : Bool)
          → ◌≡◌ {A = Outcome} (if none then Ok (attributes_reply tree f.file, tree) else Ok (attributes_reply tree (with_data now offset written f.file), changed tree f.file.handle (with_data now offset written))) (Err status) → ⊥
      by true same = absurd cc
      by false same = absurd cc

  pub full : (spare : ℕ) → write_errors call (head_of handle inode) offset (length written) 8 ≡ Ok tt → 0 < length written → spare < 8 → write tree call at offset written now spare ≡ Err 28
  full spare fine some few =
      by_inode spare
      ∙ (λ i. (errors_are call offset (length written) spare handle inode f.file f.fields
      ∙ full_error call offset (length written) spare f.file (sym (errors_are call offset (length written) 8 handle inode f.file f.fields) ∙ fine) some few) i >> given f.file)

  pub nothing : (reply : Reply) → length written ≡ 0 → write_errors call (head_of handle inode) offset (length written) 8 ≡ Ok tt
      → ((other : File) → other.handle ≡ handle → HasFields inode other → size_of other.body ≡ shown_size inode → size_of other.body < 2 ^ 31 → reply ≡ Attributes (attributes_of volume other))
      → Changes volume areas truth (write tree call at offset written now 8) [] reply
  nothing reply none fine tells = record {
    next = tree;
    comes_to = by_inode 8 ∙ (λ i. fine i >> given f.file) ∙ ap (λ (t : Bool). if t then Ok (attributes_reply tree f.file, tree) else Ok (attributes_reply tree (with_data now offset written f.file), changed tree f.file.handle (with_data now offset written))) test
        ∙ (λ i. Ok (Attributes (attributes_of (s.volume_is i) f.file), tree)) ∙ ap (λ (r : Reply). Ok (r, tree)) (sym (tells f.file f.handle_is f.fields f.size (size_fits tree handle f.file s.file_tree f.there)));
    stands = s;
  }
    where
      test : (length written == 0) ≡ true
      test = eq_true (length written) 0 none

  module _ (few : areas ≤ 64) (same : IsTruth held truth) (fit : HintsFitAll areas hints truth) (kind : inode.kind ≡ 1) (some : 0 < length written) (fits : offset + length written ≤ 2147483647)
      (clear : grows_over inode (offset + length written) ≡ false) where
    abbrev bytes_list : List ℕ
    bytes_list = (bytes volume areas held hints truth tree offset written now handle inode s f few same fit kind some fits clear).0

    module _ (first taken : ℕ) (draft : List Changed) (from : ℕ) (from_is : from ≡ offset)
        (w : IsWritten areas held truth tree handle (record f.file { mtime = now; ctime = now }) (s.is.stored handle).tree (grown (offset + length written) now inode) (sized (max inode.size (offset + length written)) bytes_list) from written first taken draft) where
      file_now : File
      file_now = with_data now offset written f.file

      bytes_are : w.bytes ≡ written_over offset written bytes_list
      bytes_are = over_is bytes_list w.bytes written offset some
          (subst (λ (n : ℕ). IsOver (sized (max n (offset + length written)) bytes_list) offset written w.bytes) (sym (body_size volume areas held hints truth tree offset written now handle inode s f few same fit kind some fits clear))
          (subst (λ (n : ℕ). IsOver (sized (max inode.size (offset + length written)) bytes_list) n written w.bytes) from_is w.over))

      file_is : ◌≡◌ {A = File} (record f.file { mtime = now; ctime = now; body = Bytes w.bytes }) (with_data now offset written f.file)
      file_is = λ i. record f.file { mtime = now; ctime = now; body = (ap Bytes bytes_are ∙ sym (ap (overwritten offset written) (bytes volume areas held hints truth tree offset written now handle inode s f few same fit kind some fits clear).1)) i }

      size_now : size_of (with_data now offset written f.file).body ≡ shown_size (grown (offset + length written) now inode)
      size_now =
          ap size_of (ap (overwritten offset written) (bytes volume areas held hints truth tree offset written now handle inode s f few same fit kind some fits clear).1) ∙ ap length (sym bytes_are) ∙ w.over.long ∙ sized_long (max inode.size (offset + length written)) bytes_list
          ∙ sym (λ i. if kind i == 2 then 4096 else if kind i == 5 then length inode.path else max inode.size (offset + length written))

      pub wrote : (reply : Reply) → write_errors call (head_of handle inode) offset (length written) 8 ≡ Ok tt
          → ((other : File) → other.handle ≡ handle → HasFields (grown (offset + length written) now inode) other → size_of other.body ≡ shown_size (grown (offset + length written) now inode) → size_of other.body < 2 ^ 31
          → reply ≡ Attributes (attributes_of volume other))
          → Changes volume areas truth (write tree call at offset written now 8) draft reply
      wrote reply fine tells =
          let fields : HasFields (grown (offset + length written) now inode) (with_data now offset written f.file) = record {
            kind = f.fields.kind;
            mode = f.fields.mode;
            nlink = f.fields.nlink;
            uid = f.fields.uid;
            gid = f.fields.gid;
            atime = f.fields.atime;
            mtime = refl;
            ctime = refl;
          } in
          let small : size_of (with_data now offset written f.file).body < 2 ^ 31 = subst (λ (n : ℕ). n < 2 ^ 31) (sym (size_now ∙ (λ i. if kind i == 2 then 4096 else if kind i == 5 then length inode.path else max inode.size (offset + length written)))) (omega (arith, size_small volume areas held hints truth tree offset written now handle inode s f few same fit kind some fits clear, fits)) in
          let told : reply ≡ Attributes (attributes_of volume (with_data now offset written f.file)) = tells (with_data now offset written f.file) f.handle_is fields size_now small in
          let files : with_file tree.files (with_data now offset written f.file) ≡ with_changed tree.files f.file.handle (with_data now offset written) =
          sym (ap (λ (h : ℕ). with_changed tree.files h (with_data now offset written)) f.handle_is ∙ changed_is_put tree.files handle (with_data now offset written) f.file s.is.in_order f.there f.handle_is) in
          let comes : write tree call at offset written now 8 ≡ Ok (reply, changed tree f.file.handle (with_data now offset written)) =
          by_inode 8 ∙ (λ i. fine i >> given f.file)
          ∙ ap (λ (t : Bool). if t then Ok (attributes_reply tree f.file, tree) else Ok (attributes_reply tree (with_data now offset written f.file), changed tree f.file.handle (with_data now offset written))) not_none
          ∙ (λ i. Ok (Attributes (attributes_of (s.volume_is i) (with_data now offset written f.file)), changed tree f.file.handle (with_data now offset written)))
          ∙ ap (λ (r : Reply). Ok (r, changed tree f.file.handle (with_data now offset written))) (sym told) in
          record {
            next = changed tree f.file.handle (with_data now offset written);
            comes_to = comes;
            stands = record {
              is = subst (λ (l : List File). StandsFor areas (with_draft truth draft) (record tree { files = l })) (ap (with_file tree.files) file_is ∙ files) w.stands;
              volume_is = s.volume_is;
              file_tree = (write_keeps tree call at offset written now 8 reply (changed tree f.file.handle (with_data now offset written)) s.file_tree comes).is;
            };
          }
        where
          not_none : (length written == 0) ≡ false
          not_none = eq_false (length written) 0 (λ e. omega (arith, e, some))

-- ---- answers

module _ (volume areas : ℕ) (truth : Truth) (outcome : ℕ → Outcome) where
  pub told_changes : (handle : ℕ) (inode : Inode) (draft : List Changed) (result : Result (List Changed × Reply) ChangeError) → TellsWith volume handle inode draft result
      → ((reply : Reply) → ((file : File) → file.handle ≡ handle → HasFields inode file → size_of file.body ≡ shown_size inode → size_of file.body < 2 ^ 31 → reply ≡ Attributes (attributes_of volume file))
      → Changes volume areas truth (outcome 8) draft reply) → IsChangeBy volume areas truth outcome result
  told_changes handle inode draft (Ok made) t next = subst (λ (d : List Changed). Changes volume areas truth (outcome 8) d made.1) (sym t.same) (next made.1 t.told)
  told_changes handle inode draft (Err (Stopped (Need at mode))) t next = absurd t
  told_changes handle inode draft (Err (Stopped (Inner blocks))) t next = absurd t
  told_changes handle inode draft (Err (Stopped (Status status))) t next = absurd t
  told_changes handle inode draft (Err (Stopped OutOfMemory)) t next = tt
  told_changes handle inode draft (Err (Full spare)) t next = absurd t

  pub clear_stops : (tree : Tree) (stop : Stop) → Clears areas truth tree (Err stop) → IsChangeBy volume areas truth outcome (Err (Stopped stop))
  clear_stops tree (Need at mode) c = tt
  clear_stops tree (Inner blocks) c = absurd c
  clear_stops tree (Status status) c = absurd c
  clear_stops tree OutOfMemory c = tt

  pub lay_stops : (held : Held) (tree : Tree) (handle : ℕ) (file : File) (pages : PageTree) (inode : Inode) (base : List ℕ) (from : ℕ) (written : List ℕ) (first taken : ℕ) (error : ChangeError)
      → ((spare : ℕ) → spare < 8 → outcome spare ≡ Err 28) → PutsOn areas held truth tree handle file pages inode base from written first taken (Err error) → IsChangeBy volume areas truth outcome (Err error)
  lay_stops held tree handle file pages inode base from written first taken (Stopped (Need at mode)) full p = tt
  lay_stops held tree handle file pages inode base from written first taken (Stopped (Inner blocks)) full p = p
  lay_stops held tree handle file pages inode base from written first taken (Stopped (Status status)) full p = absurd p
  lay_stops held tree handle file pages inode base from written first taken (Stopped OutOfMemory) full p = tt
  lay_stops held tree handle file pages inode base from written first taken (Full spare) full p = (p, full spare p.few)

pub told_hints : (volume areas : ℕ) (hints : Hints) (truth : Truth) (handle : ℕ) (inode : Inode) (draft : List Changed) (result : Result (List Changed × Reply) ChangeError) → TellsWith volume handle inode draft result
    → HintsFitAll areas hints (with_draft truth draft) → IfOk result (λ made. HintsFitAll areas hints (with_draft truth made.0))
told_hints volume areas hints truth handle inode draft (Ok made) t fit = subst (λ (d : List Changed). HintsFitAll areas hints (with_draft truth d)) (sym t.same) fit
told_hints volume areas hints truth handle inode draft (Err error) t fit = tt

pub told_held : (held : Held) (volume handle : ℕ) (inode : Inode) (draft : List Changed) (result : Result (List Changed × Reply) ChangeError) → TellsWith volume handle inode draft result → IsHeldDraft held draft
    → IfOk result (λ made. IsHeldDraft held made.0)
told_held held volume handle inode draft (Ok made) t is = subst (IsHeldDraft held) (sym t.same) is
told_held held volume handle inode draft (Err error) t is = tt

-- the file is a regular one where nothing is refused
pub kind_is : (call : Call) (offset count handle : ℕ) (inode : Inode) → IsKind inode.kind → inode.kind ≢ 0 → write_errors call (head_of handle inode) offset count 8 ≡ Ok tt → inode.kind ≡ 1
kind_is call offset count handle inode (inl zero) live fine = absurd (live zero)
kind_is call offset count handle inode (inr (inl one)) live fine = one
kind_is call offset count handle inode (inr (inr (inl two))) live fine =
    let b : ◌≡◌ {A = Result (Unit {0}) ℕ} (Err 21) (Ok tt) = (λ i. errors_by call offset count 8 (sym two i) inode.uid inode.gid inode.mode) ∙ fine in absurd cc
kind_is call offset count handle inode (inr (inr (inr five))) live fine =
    let b : ◌≡◌ {A = Result (Unit {0}) ℕ} (Err 6) (Ok tt) = (λ i. errors_by call offset count 8 (sym five i) inode.uid inode.gid inode.mode) ∙ fine in absurd cc

-- ---- the file that is named

module _ (volume : ℕ) (tree : Tree) (at : List ℕ) (call : Call) (offset : ℕ) (written : List ℕ) (now : Time) (same : tree.volume ≡ volume) where
  abbrev by_found : ℕ → Option File → Outcome
  by_found spare found = must found 70 >>= (λ file. write_errors call file offset (length written) spare
      >> (if length written == 0 then Ok (attributes_reply tree file, tree) else Ok (attributes_reply tree (with_data now offset written file), changed tree file.handle (with_data now offset written))))

  pub no_name : None ≡ named volume at → write tree call at offset written now 8 ≡ Err 70
  no_name is = ap (by_found 8) (named_as tree volume at None same is)

  pub stopped : (areas : ℕ) (truth again : Truth) (handle : ℕ) (stop : Stop) → Some handle ≡ named volume at → FileAt areas truth tree handle (Err stop)
      → IsChangeBy volume areas again (write tree call at offset written now) (Err (Stopped stop))
  stopped areas truth again handle (Status status) is (code, none) = ap (by_found 8) (named_as tree volume at (Some handle) same is ∙ none) ∙ ap Err (sym code)
  stopped areas truth again handle (Need at_block mode) is f = tt
  stopped areas truth again handle (Inner blocks) is never = absurd never
  stopped areas truth again handle OutOfMemory is f = tt

pub on_writing : (held : Held) (hints : Hints) (volume areas : ℕ) (at : List ℕ) (offset : ℕ) (written : List ℕ) (handle : ℕ) (inode : Inode) → named volume at ≡ Some handle → LiveAt (reads_with held hints []) areas handle Exclusive inode
    → (result : Result (List Changed × Reply) ChangeError) → IfErr result (NeedsBy areas held (OnFileWritten areas held hints handle inode offset written)) → IfErr result (NeedsBy areas held (OnWriting held hints volume areas at offset written))
on_writing held hints volume areas at offset written handle inode is live (Ok made) n = tt
on_writing held hints volume areas at offset written handle inode is live (Err error) n =
    needs_wider areas held (OnFileWritten areas held hints handle inode offset written) (OnWriting held hints volume areas at offset written)
    (λ block mode on. inr (record { handle = handle; inode = inode; is_named = is; live = live; on = on })) error n

-- and where it is full
pub full_writing : (held : Held) (hints : Hints) (volume areas : ℕ) (at : List ℕ) (offset : ℕ) (written : List ℕ) (handle : ℕ) (inode : Inode) → named volume at ≡ Some handle → LiveAt (reads_with held hints []) areas handle Exclusive inode
    → (result : Result (List Changed × Reply) ChangeError) → IfErr result (IfFull (LacksSlots areas held hints handle inode offset written)) → IfErr result (IfFull (IsFullWriting held hints volume areas at offset written))
full_writing held hints volume areas at offset written handle inode is live (Ok made) f = tt
full_writing held hints volume areas at offset written handle inode is live (Err (Stopped stop)) f = tt
full_writing held hints volume areas at offset written handle inode is live (Err (Full spare)) f = record { handle = handle; inode = inode; is_named = is; live = live; lacks = f }
