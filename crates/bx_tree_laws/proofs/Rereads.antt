-- A READ of what was just written.
use Rattle.std.proofs.Common.{◌≡◌, ℕ, ◌+◌, ◌≤◌, arith, Bool, true, false, List, ◌++◌, length, take, drop, Some, None, Option, refl, sym, ap, ◌∙◌, subst}
use Rattle.std.specs.Prelude.{◌==◌, not, if◌then◌else◌, min, Result, Ok, Err}
use Rattle.std.proofs.Math.Seq.{drop-append_seam}
use Rattle.std.proofs.lemmas.Bool.{eq-eqb, eqb-true}
use Rattle.std.proofs.lemmas.List.{append_assoc, length-append, length-replicate, length-take, take-append-le}
use Rattle.bx_model.specs.declared.call.Args.TheVariants as args
use Rattle.bx_model.specs.declared.call.Call.{Call}
use Rattle.bx_model.specs.bx_tree_files.specs.declared.file.Body.{Body}
use Rattle.bx_model.specs.bx_tree_files.specs.declared.file.Body.TheVariants.{Bytes, Path, Names}
use Rattle.bx_model.specs.bx_tree_files.specs.declared.file.File.{File}
use Rattle.bx_model.specs.declared.permissions.Want.TheVariants as want
use Rattle.bx_model.specs.declared.reply.Reply.{Reply}
use Rattle.bx_model.specs.declared.reply.Reply.TheVariants as reply
use Rattle.bx_model.specs.declared.status.TheConstants.{ACCES, ISDIR, NXIO, STALE}
use Rattle.bx_model.specs.declared.tree.Tree.{Tree}
use Rattle.bx_model.specs.Act.{act, given}
use Rattle.bx_model.specs.bx_tree_files.specs.Attributes.{attributes_of}
use Rattle.bx_model.specs.bx_tree_files.specs.Contents.{sized, written_over}
use Rattle.bx_model.specs.Edits.{changed}
use Rattle.bx_model.specs.bx_tree_files.specs.Files.{is_directory, is_link, kind_of}
use Rattle.bx_model.specs.FileTrees.{IsFileTree}
use Rattle.bx_model.specs.Permissions.{may}
use Rattle.bx_model.specs.Reading.{attributes_reply, bytes_of, named_file, read}
use Rattle.bx_model.specs.Steps.{Outcome, done, plainly}
use Rattle.bx_model.specs.bx_tree_files.specs.Times.{Time, time_of}
use Rattle.bx_model.specs.bx_tree_files.specs.Changes.{overwritten, with_data}
use Rattle.bx_model.specs.Writing.{write, write_errors}
use Rattle.bx_tree_laws.proofs.Lookups.{some_same}
use Rattle.bx_tree_laws.proofs.Members.{found_at, is_file}
use Rattle.bx_tree_laws.proofs.Steps.{after, after_must, after_refuse, next_is, reply_is}
use Rattle.bx_tree_laws.proofs.Told.{found_changed}

-- what a READ of count bytes at an offset answers of a body
abbrev pub part_of : ℕ → ℕ → Body → List ℕ
part_of offset count body = take (min count 8192) (drop offset (bytes_of body))

sized_length : (size : ℕ) (bytes : List ℕ) → length (sized size bytes) ≡ size
sized_length size bytes = simp (length-append, length-take, length-replicate) (omega arith)

written_there : (offset count : ℕ) (written bytes : List ℕ) → count ≤ length written → take (min count 8192) (drop offset (written_over offset written bytes)) ≡ take (min count 8192) written
written_there offset count written bytes le =
    let rest : List ℕ = drop (offset + length written) bytes in
    let behind : drop offset (sized offset bytes ++ (written ++ rest)) ≡ written ++ rest =
    ap (λ (n : ℕ). drop n (sized offset bytes ++ (written ++ rest))) (sym (sized_length offset bytes)) ∙ drop-append_seam (sized offset bytes) (written ++ rest) in
    ap (λ (l : List ℕ). take (min count 8192) (drop offset l)) (append_assoc (sized offset bytes) written rest)
    ∙ ap (take (min count 8192)) behind
    ∙ take-append-le (min count 8192) written rest (omega (arith, le))

body_written : (kind : ℕ) (body : Body) (offset count : ℕ) (written : List ℕ) → kind ≡ kind_of body → (kind == 2) ≡ false → (kind == 5) ≡ false → count ≤ length written
    → part_of offset count (overwritten offset written body) ≡ take (min count 8192) written
body_written kind (Bytes bytes) offset count written is not_directory not_link le = written_there offset count written bytes le
body_written kind (Path path) offset count written is not_directory not_link le = let both : true ≡ false = sym (eq-eqb kind 5 is) ∙ not_link in absurd cc
body_written kind (Names parent next names) offset count written is not_directory not_link le = let both : true ≡ false = sym (eq-eqb kind 2 is) ∙ not_directory in absurd cc

none_taken : (offset count : ℕ) (written : List ℕ) (body : Body) → count ≤ length written → (length written == 0) ≡ true → part_of offset count body ≡ take (min count 8192) written
none_taken offset count written body le none =
    let zero_count : min count 8192 ≡ 0 = omega (arith, le, eqb-true (length written) 0 none) in
    ap (λ (n : ℕ). take n (drop offset (bytes_of body))) zero_count ∙ sym (ap (λ (n : ℕ). take n written) zero_count)

module _ (tree next last : Tree) (was : IsFileTree tree) where
  -- the file that was written to, as it then is
  abbrev Written : List ℕ → ℕ → ℕ → List ℕ → Type 0
  Written at offset count written = (file : File) × (named_file next at ≡ Some file) × (part_of offset count file.body ≡ take (min count 8192) written)

  write_leaves : (call : Call) (at : List ℕ) (offset count : ℕ) (written : List ℕ) (now : Time) (spare : ℕ) (answer : Reply) → count ≤ length written → write tree call at offset written now spare ≡ Ok (answer, next)
      → Written at offset count written
  write_leaves call at offset count written now spare answer le e =
      after_must (named_file tree at) STALE _ (answer, next) e λ file found rest.
      after (write_errors call file offset (length written) spare) _ (answer, next) rest λ allowed rest.
      after_refuse (is_directory file) ISDIR _ tt allowed λ directory allowed.
      after_refuse (is_link file) NXIO _ tt allowed λ link allowed.
      by file found directory link (length written == 0) refl rest
    where
      by : (file : File) → named_file tree at ≡ Some file → is_directory file ≡ false → is_link file ≡ false → (b : Bool) → (length written == 0) ≡ b
          → ◌≡◌ {A = Result (Reply × Tree) ℕ} (if b then Ok (attributes_reply tree file, tree) else Ok (attributes_reply tree (with_data now offset written file), changed tree file.handle (with_data now offset written))) (Ok (answer, next))
          → (file : File) × (named_file next at ≡ Some file) × (part_of offset count file.body ≡ take (min count 8192) written)
      by file found directory link true none rest =
          (file, subst (λ (t : Tree). named_file t at ≡ Some file) (next_is _ answer tree next rest) found, none_taken offset count written file.body le none)
      by file found directory link false some rest = (
        with_data now offset written file,
        subst (λ (t : Tree). named_file t at ≡ Some (with_data now offset written file)) (next_is _ answer _ next rest) (found_changed tree at file (with_data now offset written) (λ f. refl) found),
        body_written file.kind file.body offset count written (is_file tree was file.handle file (found_at tree at file found)).kind directory link le,
      )

  read_gives : (call : Call) (at : List ℕ) (offset count : ℕ) (words bytes : List ℕ) (file : File) → named_file next at ≡ Some file → read next call at offset count ≡ Ok (reply.Bytes words bytes, last) → part_of offset count file.body ≡ bytes
  read_gives call at offset count words bytes file there e =
      after_must (named_file next at) STALE _ (reply.Bytes words bytes, last) e λ one found rest.
      after_refuse (is_directory one) ISDIR _ (reply.Bytes words bytes, last) rest λ directory rest.
      after_refuse (is_link one) NXIO _ (reply.Bytes words bytes, last) rest λ link rest.
      after_refuse (not (may call one want.Read)) ACCES _ (reply.Bytes words bytes, last) rest λ may rest.
      by one found (reply_is _ (reply.Bytes words bytes) next last rest)
    where
      by : (one : File) → named_file next at ≡ Some one → ◌≡◌ {A = Reply} (reply.Bytes (attributes_of next.volume one) (part_of offset count one.body)) (reply.Bytes words bytes) → part_of offset count file.body ≡ bytes
      by one found same =
          let files : one ≡ file = some_same one file (sym found ∙ there) in
          let given : part_of offset count one.body ≡ bytes = cc in
          ap (λ (f : File). part_of offset count f.body) (sym files) ∙ given

-- an answer that is no status came of a procedure without an error
plainly_gave : (tree : Tree) (made : ℕ) (outcome : Outcome) (answer : Reply) (next : Tree) → ((status : ℕ) → reply.Status status ≡ answer → ⊥) → plainly tree made outcome ≡ Some (answer, next) → outcome ≡ Ok (answer, next)
plainly_gave tree made outcome answer next no_status e = by outcome (made == 0) e
  where
    by : (outcome : Outcome) (b : Bool) → ◌≡◌ {A = Option (Reply × Tree)} (if b then Some (done tree outcome) else None) (Some (answer, next)) → outcome ≡ Ok (answer, next)
    by outcome false e = absurd cc
    by (Err status) true e =
        let same : ◌≡◌ {A = Reply × Tree} (reply.Status status, tree) (answer, next) = cc in absurd (no_status status (ap (λ (p : Reply × Tree). p.0) same))
    by (Ok both) true e = let same : both ≡ (answer, next) = cc in ap (λ (p : Reply × Tree). Ok p) same

pub read_after_write : (tree next last : Tree) (writer reader : Call) (at : List ℕ) (begin offset total : ℕ) (written : List ℕ) (count most : ℕ) (moment spare made later free none : ℕ) (words told bytes : List ℕ) → IsFileTree tree
    → writer.args ≡ args.Write at begin offset total written → reader.args ≡ args.Read at offset count most → count ≤ length written
    → act tree writer moment spare made ≡ Some (reply.Attributes words, next) → act next reader later free none ≡ Some (reply.Bytes told bytes, last) → bytes ≡ take (min count 8192) written
read_after_write tree next last writer reader at begin offset total written count most moment spare made later free none words told bytes was writes reads le wrote gave =
    let wrote' : plainly tree made (write tree writer at offset written (time_of moment) spare) ≡ Some (reply.Attributes words, next) = ap (given tree writer (time_of moment) spare made) (sym writes) ∙ wrote in
    let gave' : plainly next none (read next reader at offset count) ≡ Some (reply.Bytes told bytes, last) = ap (given next reader (time_of later) free none) (sym reads) ∙ gave in
    let left = write_leaves tree next last was writer at offset count written (time_of moment) spare (reply.Attributes words) le (plainly_gave tree made _ (reply.Attributes words) next (λ status e. no_attributes status words e) wrote') in
    sym (read_gives tree next last was reader at offset count told bytes left.0 left.1 (plainly_gave next none _ (reply.Bytes told bytes) last (λ status e. no_bytes status told bytes e) gave')) ∙ left.2
  where
    no_attributes : (status : ℕ) (words : List ℕ) → reply.Status status ≡ reply.Attributes words → ⊥
    no_attributes status words e = cc

    no_bytes : (status : ℕ) (told bytes : List ℕ) → reply.Status status ≡ reply.Bytes told bytes → ⊥
    no_bytes status told bytes e = cc
