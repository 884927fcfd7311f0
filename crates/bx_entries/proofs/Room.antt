-- Where the tree of a directory has room for an entry, adding it never meets a full leaf.
use Rattle.std.proofs.Common.{◌≡◌, ℕ, ◌+◌, ◌≤◌, false, List, ◌∷◌, length, sym, ap, ◌∙◌, subst, arith, inl, inr, refl}
use Rattle.std.specs.Prelude.{All, Ok, Err}
use Rattle.std.specs.Int.{w32, w64, to_be_bytes}
use Rattle.std.proofs.lemmas.List.{length-append}
use Rattle.std.proofs.lemmas.List.Elements.{All-append, All-cons, All-filter}
use Rattle.bx_base.specs.declared.names.Mode.TheVariants.{Exclusive}
use Rattle.bx_blink.specs.declared.error.BlinkError.TheVariants.{NoRoom}
use Rattle.bx_blink.specs.Hints.{Under}
use Rattle.bx_blink.specs.Places.{IsPlaceOf}
use Rattle.bx_blink.specs.Walks.{reads_with}
use Rattle.bx_blink.proofs.Found.{place}
use Rattle.bx_blink.proofs.Under.{agrees}
use Rattle.bx_directory_reads.specs.bx_dirs.specs.Changes.{AddsAt, PutsByName, PutsByNumber, entry_of}
use Rattle.bx_leaves.proofs.Done.{inserts_in}
use Rattle.bx_making.proofs.Puts.{put_chunk}
use Rattle.bx_page.specs.Contents.{Contents, above, below, size, with_value}
use Rattle.bx_page.specs.Keys.{is_below}
use Rattle.bx_page.specs.declared.entry.Entry.{Entry}
use Rattle.bx_page.proofs.Room.{size_with-le}
use Rattle.bx_records.specs.Drafts.{Changed}
use Rattle.bx_truth.specs.Chunks.{chunks_of}
use Rattle.bx_truth.specs.Keys.{entry_key, entry_value, name_key, name_value}
use Rattle.bx_truth.specs.PageTrees.{Chunks, IsNode, PageTree}
use Rattle.bx_views.specs.Truths.{Held, Hints, Truth, with_draft}
use Rattle.bx_entries.specs.Rooms.{HasSpace}
use Rattle.bx_entries.proofs.Spaces.{finds_space, space_stays}

module _ (number handle : ℕ) (name : List ℕ) (short : length name ≤ 255) where
  pub name_fits : length (name_key name) + length (name_value number handle) ≤ 268
  name_fits =
      let both : length (name_value number handle) ≡ 12 = length-append (to_be_bytes w32 number) (to_be_bytes w64 handle) in
      omega (arith, both, short)

  pub number_fits : length (entry_key number) + length (entry_value handle name) ≤ 268
  number_fits =
      let both : length (entry_value handle name) ≡ 8 + length name = length-append (to_be_bytes w64 handle) name in
      let key : length (entry_key number) ≡ 5 = refl in
      omega (arith, both, key, short)

module _ (areas : ℕ) (held : Held) (hints : Hints) (truth : Truth) (old : List Changed) (root : ℕ) (pages : PageTree) (number handle : ℕ) (name : List ℕ) (u : Under areas held hints truth old root pages)
    (by_name : HasSpace held pages (name_key name) 544) (by_number : HasSpace held pages (entry_key number) 544) (short : length name ≤ 255) where
  abbrev chunks : Chunks
  chunks = chunks_of areas (with_draft truth old)

  no_first : (leaf : ℕ) → PutsByName held hints old old root (entry_of number name handle) (Err (NoRoom leaf)) → ⊥
  no_first leaf f =
      finds_space chunks root held pages (name_key name) (name_value number handle) 544 leaf u.is by_name (name_fits number handle name short) (omega arith)
      (inserts_in areas held hints truth old old root pages (name_key name) u (name_value number handle) (Err (NoRoom leaf)) f).1

  module _ (mid : List Changed) (f : PutsByName held hints old mid root (entry_of number name handle) (Ok tt)) where
    abbrev page : Contents
    page = f.page

    at_name : IsPlaceOf pages 0 (name_key name) f.handle f.page
    at_name = place areas (reads_with held hints old) chunks root pages 0 Exclusive (name_key name) (agrees areas held hints truth old root pages u) (omega arith) f.handle f.page f.takes.lacks.leaf.end

    node : IsNode (chunks_of areas (with_draft truth old)) 0 at_name.node
    node = (u.is.levels 0 at_name.within).nodes_are at_name.node at_name.there

    abbrev P : Entry → Type 0
    P = λ entry. is_below entry.key at_name.node.begins ≡ false

    lowest : All (λ (entry : Entry). is_below entry.key at_name.node.begins ≡ false) (with_value f.page (name_key name) (name_value number handle)).entries
    lowest =
        let entry : Entry = record { key = name_key name; value = name_value number handle } in
        let before : All (λ (entry : Entry). is_below entry.key at_name.node.begins ≡ false) page.entries = subst (λ (c : Contents). All P c.entries) at_name.page_is node.lowest in
        All-append P (below page.entries (name_key name)) (entry ∷ above page.entries (name_key name)) (All-filter (λ e. is_below e.key (name_key name)) P page.entries before)
        (All-cons P entry (above page.entries (name_key name)) at_name.from (All-filter (λ e. is_below (name_key name) e.key) P page.entries before))

    no_second : (leaf : ℕ) → PutsByNumber held hints mid mid root (entry_of number name handle) (Err (NoRoom leaf)) → ⊥
    no_second leaf g =
        let one = (inserts_in areas held hints truth old mid root pages (name_key name) u (name_value number handle) (Ok tt) f).1 in
        let anew = put_chunk areas held truth old mid f.handle node.block f.puts.block (record { same = u.same; chunked = u.chunked }) (ap (chunks_of areas (with_draft truth old)) (sym at_name.handle_is) ∙ node.chunk) f.puts.header f.puts.put in
        let grows : size (with_value page (name_key name) (name_value number handle)) + 272 ≤ size page + 544 = omega (arith, name_fits number handle name short, size_with-le page (name_key name) (name_value number handle)) in
        let space =
        space_stays chunks (chunks_of areas (with_draft truth mid)) root held pages u.is (name_key name) f.handle page (with_value page (name_key name) (name_value number handle)) f.puts.block at_name anew f.puts.has refl refl refl lowest
        (entry_key number) 544 272 by_number (omega arith) grows one.after one.under.is in
        finds_space (chunks_of areas (with_draft truth mid)) root held one.after (entry_key number) (entry_value handle name) 272 leaf one.under.is space (number_fits number handle name short) (omega arith)
        (inserts_in areas held hints truth mid mid root one.after (entry_key number) one.under (entry_value handle name) (Err (NoRoom leaf)) g).1

  pub never_full : (new : List Changed) (leaf : ℕ) → AddsAt held hints old new root (entry_of number name handle) (Err (NoRoom leaf)) → ⊥
  never_full new leaf (inl f) = no_first leaf f
  never_full new leaf (inr g) = no_second g.mid g.named leaf g.numbered
