-- What an edit of one file leaves of what the file has.
use Rattle.std.proofs.Common.{◌≡◌, ℕ, ◌+◌, ◌-◌, ◌<◌, ◌^◌, length, arith, List, ◌++◌, take, drop, replicate, refl}
use Rattle.std.specs.Prelude.{◌≢◌, Contains}
use Rattle.std.proofs.lemmas.List.{length-append, length-take, length-replicate, length-drop}
use Rattle.bx_model.specs.bx_tree_files.specs.declared.file.Body.{Body}
use Rattle.bx_model.specs.bx_tree_files.specs.declared.file.Body.TheVariants.{Bytes, Path, Names}
use Rattle.bx_model.specs.bx_tree_files.specs.declared.file.File.{File}
use Rattle.bx_model.specs.bx_tree_files.specs.declared.file.Name.{Name}
use Rattle.bx_model.specs.bx_tree_files.specs.Names.{names_of, with_entry, without_entry, with_parent}
use Rattle.bx_model.specs.bx_tree_files.specs.Changes.{overwritten, resized}
use Rattle.bx_tree_laws.proofs.Plans.{Plan, IsPart, IsNearer, HasCount}
use Rattle.bx_tree_laws.proofs.Halves.{LinksBelowNext}
use Rattle.bx_tree_laws.proofs.DirectoryParts.{MayEnter, Stays, entries_referred, entries_with, entries_without}

module _ (plan : Plan) (handle kind mode nlink : ℕ) where
  pub part_without : (name : List ℕ) (body : Body) → IsPart plan handle kind mode nlink body → IsPart plan handle kind mode nlink (without_entry name body)
  part_without name (Bytes bytes) part = part
  part_without name (Path path) part = part
  part_without name (Names parent next names) part = record {
    kind_is = part.kind_is;
    mode_fits = part.mode_fits;
    size_fits = part.size_fits;
    below_next = part.below_next;
    was_given = part.was_given;
    entries = entries_without plan.ref handle next names name part.entries;
    count = part.count;
    nearer = part.nearer;
    root_is = part.root_is;
  }

  pub part_with : (name : List ℕ) (to : ℕ) (body : Body) → MayEnter plan.ref handle name to body → IsPart plan handle kind mode nlink body → IsPart plan handle kind mode nlink (with_entry name to body)
  part_with name to (Bytes bytes) may part = part
  part_with name to (Path path) may part = part
  part_with name to (Names parent next names) may part = record {
    kind_is = part.kind_is;
    mode_fits = part.mode_fits;
    size_fits = part.size_fits;
    below_next = omega (arith, part.below_next);
    was_given = part.was_given;
    entries = entries_with plan.ref handle next names name to parent (omega (arith, part.below_next, part.count)) may part.entries;
    count = part.count;
    nearer = part.nearer;
    root_is = part.root_is;
  }

  -- other files that are referred to
  pub part_referred : (now : List File) (body : Body) → ((entry : Name) → Contains (names_of body) entry → Stays plan.ref now entry.handle)
      → IsPart plan handle kind mode nlink body → IsPart (record plan { ref = now }) handle kind mode nlink body
  part_referred now (Bytes bytes) stays part = record {
    kind_is = part.kind_is;
    mode_fits = part.mode_fits;
    size_fits = part.size_fits;
    below_next = part.below_next;
    was_given = part.was_given;
    entries = tt;
    count = part.count;
    nearer = part.nearer;
    root_is = part.root_is;
  }
  part_referred now (Path path) stays part = record {
    kind_is = part.kind_is;
    mode_fits = part.mode_fits;
    size_fits = part.size_fits;
    below_next = part.below_next;
    was_given = part.was_given;
    entries = tt;
    count = part.count;
    nearer = part.nearer;
    root_is = part.root_is;
  }
  part_referred now (Names parent next names) stays part = record {
    kind_is = part.kind_is;
    mode_fits = part.mode_fits;
    size_fits = part.size_fits;
    below_next = part.below_next;
    was_given = part.was_given;
    entries = entries_referred plan.ref now handle next names stays part.entries;
    count = part.count;
    nearer = part.nearer;
    root_is = part.root_is;
  }

  -- other links
  pub part_counted : (links inside : ℕ → ℕ) (count : ℕ) (body : Body) → HasCount (links handle) (inside handle) count body → LinksBelowNext count body
      → IsPart plan handle kind mode nlink body → IsPart (record plan { links = links; inside = inside }) handle kind mode count body
  part_counted links inside count body has below part = record {
    kind_is = part.kind_is;
    mode_fits = part.mode_fits;
    size_fits = part.size_fits;
    below_next = below;
    was_given = part.was_given;
    entries = part.entries;
    count = has;
    nearer = part.nearer;
    root_is = part.root_is;
  }

  -- another parent
  pub part_moved : (to : ℕ) (body : Body) → handle ≢ plan.root → ((parent next : ℕ) (names : List Name) → body ≡ Names parent next names → plan.depth to < plan.depth handle)
      → IsPart plan handle kind mode nlink body → IsPart plan handle kind mode nlink (with_parent to body)
  part_moved to (Bytes bytes) apart less part = part
  part_moved to (Path path) apart less part = part
  part_moved to (Names parent next names) apart less part = record {
    kind_is = part.kind_is;
    mode_fits = part.mode_fits;
    size_fits = part.size_fits;
    below_next = part.below_next;
    was_given = part.was_given;
    entries = part.entries;
    count = part.count;
    nearer = λ other. less parent next names refl;
    root_is = λ root. absurd (apart root);
  }

  pub part_mode : (bits : ℕ) (body : Body) → bits < 2 ^ 12 → IsPart plan handle kind mode nlink body → IsPart plan handle kind bits nlink body
  part_mode bits body fits part = record {
    kind_is = part.kind_is;
    mode_fits = fits;
    size_fits = part.size_fits;
    below_next = part.below_next;
    was_given = part.was_given;
    entries = part.entries;
    count = part.count;
    nearer = part.nearer;
    root_is = part.root_is;
  }

  part_bytes : (old new : List ℕ) → length new < 2 ^ 31 → IsPart plan handle kind mode nlink (Bytes old) → IsPart plan handle kind mode nlink (Bytes new)
  part_bytes old new fits part = record {
    kind_is = part.kind_is;
    mode_fits = part.mode_fits;
    size_fits = fits;
    below_next = tt;
    was_given = part.was_given;
    entries = tt;
    count = part.count;
    nearer = tt;
    root_is = part.root_is;
  }

  pub part_resized : (size : ℕ) (body : Body) → size < 2 ^ 31 → IsPart plan handle kind mode nlink body → IsPart plan handle kind mode nlink (resized size body)
  part_resized size (Bytes bytes) fits part =
      let long : length (take size bytes ++ replicate (size - length bytes) 0) ≡ size = simp (length-append, length-take, length-replicate) (omega arith) in
      part_bytes bytes (take size bytes ++ replicate (size - length bytes) 0) (omega (arith, long, fits)) part
  part_resized size (Path path) fits part = part
  part_resized size (Names parent next names) fits part = part

  pub part_overwritten : (offset : ℕ) (written : List ℕ) (body : Body) → offset + length written < 2 ^ 31 → IsPart plan handle kind mode nlink body → IsPart plan handle kind mode nlink (overwritten offset written body)
  part_overwritten offset written (Bytes bytes) fits part =
      let old : length bytes < 2 ^ 31 = part.size_fits in
      let long : length (take offset bytes ++ replicate (offset - length bytes) 0 ++ written ++ drop (offset + length written) bytes) < 2 ^ 31 =
      simp (length-append, length-take, length-replicate, length-drop) (omega (arith, old, fits)) in
      part_bytes bytes (take offset bytes ++ replicate (offset - length bytes) 0 ++ written ++ drop (offset + length written) bytes) long part
  part_overwritten offset written (Path path) fits part = part
  part_overwritten offset written (Names parent next names) fits part = part

  -- other handles given out, and other depths
  pub part_renewed : (given : List ℕ) (depth : ℕ → ℕ) (body : Body) → (Contains plan.given handle → Contains given handle) → IsNearer depth plan.root handle body
      → IsPart plan handle kind mode nlink body → IsPart (record plan { given = given; depth = depth }) handle kind mode nlink body
  part_renewed given depth body more near part = record {
    kind_is = part.kind_is;
    mode_fits = part.mode_fits;
    size_fits = part.size_fits;
    below_next = part.below_next;
    was_given = more part.was_given;
    entries = part.entries;
    count = part.count;
    nearer = near;
    root_is = part.root_is;
  }
