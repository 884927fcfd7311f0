-- A machine fits on where more was said, promised or drawn, of which it knows nothing.
use Rattle.std.proofs.Common.{ℕ, ◌≤◌, Bool, List, arith}
use Rattle.bx_global.proofs.Kept.{all_is}
use Rattle.bx_facts.specs.Chains.{Chain, last}
use Rattle.bx_lock_words.specs.declared.words.Want.{Want}
use Rattle.bx_lock_words.specs.declared.words.Word.{Word}
use Rattle.bx_lock_words.specs.declared.words.Word.TheVariants.{Wants}
use Rattle.bx_locking.specs.Leases.{IsPromised}
use Rattle.bx_locking.specs.Tables.{Rises, Side, Term}
use Rattle.bx_locking.specs.Words.{IsSaid}
use Rattle.bx_master.specs.Masters.{Mastering}
use Rattle.bx_clerk.specs.Clerks.{Clerking}
use Rattle.bx_lock_steps.specs.Machines.{FitsClerk, FitsMaster, IsMaster}
use Rattle.bx_lock_steps.proofs.Accounts.{drawn_rises}

-- a server, where more was said and drawn
pub master_hears : (chain : Chain) (knew boot : ℕ) (said more : List Word) (drawn risen : ℕ → ℕ) (term : Term) (noted : ℕ → ℕ) (id : ℕ) (m : Mastering) → ((word : Word) → IsSaid said word → IsSaid more word) → Rises drawn risen
    → FitsMaster chain knew boot said drawn term noted id m → FitsMaster chain knew boot more risen term noted id m
master_hears chain knew boot said more drawn risen term noted id m on rises is = record {
  server = is.server;
  boot_is = is.boot_is;
  nothing = is.nothing;
  index_fits = is.index_fits;
  accounts = drawn_rises drawn risen 0 m.accounts rises is.accounts;
  waits = all_is (λ (w : Want). IsSaid said (Wants w)) (λ (w : Want). IsSaid more (Wants w)) (λ w has. on (Wants w) has) m.waiting is.waits;
  knows = is.knows;
  untied = is.untied;
}

-- a server that isn't the last term's master, where that one's data are changed
pub master_beside : (chain : Chain) (knew boot : ℕ) (said : List Word) (drawn : ℕ → ℕ) (term other : Term) (noted more : ℕ → ℕ) (id : ℕ) (m : Mastering) → (IsMaster (last chain) id boot → ⊥)
    → FitsMaster chain knew boot said drawn term noted id m → FitsMaster chain knew boot said drawn other more id m
master_beside chain knew boot said drawn term other noted more id m no_master is = record {
  server = is.server;
  boot_is = is.boot_is;
  nothing = is.nothing;
  index_fits = is.index_fits;
  accounts = is.accounts;
  waits = is.waits;
  knows = λ t has. let k = is.knows t has in record { state = k.state; seen = k.seen; tied = λ master now. absurd (no_master master) };
  untied = λ master never. absurd (no_master master);
}

-- a clerk, where more was promised
pub clerk_promised : (chain : Chain) (knew boot : ℕ) (side : Side) (had : ℕ → Bool) (promised more : List (ℕ × ℕ)) (n : ℕ) (c : Clerking) → ((s e : ℕ) → IsPromised promised s e → IsPromised more s e)
    → FitsClerk chain knew boot side had promised n c → FitsClerk chain knew boot side had more n c
clerk_promised chain knew boot side had promised more n c on is = record {
  unique = is.unique;
  none = is.none;
  session = is.session;
  this_life = is.this_life;
  had_is = is.had_is;
  requests = is.requests;
  drawn = is.drawn;
  given = is.given;
  lease = λ s own. on s c.lease (is.lease s own);
  blocks = is.blocks;
  drawn_fits = is.drawn_fits;
  given_fits = is.given_fits;
  knows_fits = is.knows_fits;
}

pub same_drawn : (drawn : ℕ → ℕ) → Rises drawn drawn
same_drawn drawn = record { each = λ n. omega arith }

-- a server that was handed a later state, and learned nothing
pub master_waits : (chain : Chain) (knew more boot : ℕ) (said : List Word) (drawn : ℕ → ℕ) (term : Term) (noted : ℕ → ℕ) (id : ℕ) (m : Mastering) → knew ≤ more
    → FitsMaster chain knew boot said drawn term noted id m → FitsMaster chain more boot said drawn term noted id m
master_waits chain knew more boot said drawn term noted id m rises is = record {
  server = is.server;
  boot_is = is.boot_is;
  nothing = is.nothing;
  index_fits = is.index_fits;
  accounts = is.accounts;
  waits = is.waits;
  knows = λ t has. let k = is.knows t has in record {
    state = k.state;
    seen = record { place = k.seen.place; index = (let i = k.seen.index in omega (arith, i, rises)); term = k.seen.term; seen = k.seen.seen; noted = k.seen.noted };
    tied = k.tied;
  };
  untied = is.untied;
}
