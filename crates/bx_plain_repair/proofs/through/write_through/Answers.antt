use Rattle.std.proofs.Common.{◌≡◌, ⊎_elim, inl, refl, true, ℕ, arith, List, [], ◌∷◌, Contains, Some, sym, ◌∙◌, ap, subst}
use Rattle.bx_facts.specs.Writes.{Sent, WritesIn, WritesTo}
use Rattle.bx_facts.proofs.Lists.{front, front_or_behind, nothing}
use Rattle.bx_plain_repair.specs.Through.{one_write}
use Rattle.bx_plain_store.specs.Outs.{members_settled}
use Rattle.bx_plain_store.specs.Out.{IsAlone, IsFree, out_in, sent_of}
use Rattle.bx_plain_store.specs.declared.writes.Write.{Write}
use Rattle.bx_records.specs.declared.runs.Run.{Run}
use Rattle.bx_plain_repair.proofs.through.write_through.Goals as goal

-- the one write that is out is alone
free : (runs : List Run) (write : Write) → sent_of write ≡ one_write runs
    → ((device sector : ℕ) (content other : List ℕ) → WritesIn runs device sector content → WritesIn runs device sector other → other ≡ content) → IsFree (one_write runs ∷ []) 0 (Some write)
free runs write same once = record {
  alone = λ it here not_over.
      let one : write ≡ it = (let h = here in cc) in
      let sent : sent_of it ≡ one_write runs = ap sent_of (sym one) ∙ same in
      subst (λ (s : Sent). IsAlone (one_write runs ∷ []) 0 s) (sym sent)
      (record {
        there = front (one_write runs) [];
        not_over = λ over. (let o = over in omega (arith, o));
        only = λ device sector content brings. record {
          each = λ other also there too. ⊎_elim
              (λ (is : one_write runs ≡ other). inl (once device sector content also brings (subst (λ (s : Sent). WritesTo s device sector also) (sym is) too)))
              (λ none. absurd (nothing other none))
              (front_or_behind (one_write runs) [] other there);
        };
      });
}

pub returns-in_err-serve-clause-keeps : goal.returns-in_err-serve-clause-keeps
returns-in_err-serve-clause-keeps g c = λ s device sector content tells only is.
    let runs = c.args.runs in
    let write : Write = record { session = 0; until = 0; runs = runs; is_written = true } in
    members_settled (one_write runs ∷ []) 0 s _ _ device sector content (c.serve.ensures.keeps (one_write runs ∷ []) tells (free runs write refl c.requires.once)) only is

pub returns-clause-keeps : goal.returns-clause-keeps
returns-clause-keeps g c = λ s device sector content tells only is.
    let runs = c.args.runs in
    let write : Write = record { session = 0; until = 0; runs = runs; is_written = true } in
    members_settled (one_write runs ∷ []) 0 s _ _ device sector content (c.serve.ensures.keeps (one_write runs ∷ []) tells (free runs write refl c.requires.once)) only is

pub returns-in_err-serve-clause-members : goal.returns-in_err-serve-clause-members
returns-in_err-serve-clause-members g c = λ tells.
    let write : Write = record { session = 0; until = 0; runs = c.args.runs; is_written = true } in
    c.serve.ensures.keeps (one_write c.args.runs ∷ []) tells (free c.args.runs write refl c.requires.once)

pub returns-clause-members : goal.returns-clause-members
returns-clause-members g c = λ tells.
    let write : Write = record { session = 0; until = 0; runs = c.args.runs; is_written = true } in
    c.serve.ensures.keeps (one_write c.args.runs ∷ []) tells (free c.args.runs write refl c.requires.once)

pub returns-clause-done : goal.returns-clause-done
returns-clause-done g c = λ s tells many.
    let runs = c.args.runs in
    let write : Write = record { session = 0; until = 0; runs = runs; is_written = true } in
    let gone = c.in_ok-serve.ensures.second write refl (λ over. (let o = over in omega (arith, o))) refl in
    c.in_ok-serve.ensures.done (one_write runs ∷ []) (one_write runs) s tells (free runs write refl c.requires.once) refl (ap out_in gone) many

pub serve-requires-clause-fit : goal.serve-requires-clause-fit
serve-requires-clause-fit g c = λ write run is there.
    let runs : c.args.runs ≡ write.runs = (let h = is in cc) in
    c.requires.fit run (subst (λ (all : List Run). Contains all run) (sym runs) there)
