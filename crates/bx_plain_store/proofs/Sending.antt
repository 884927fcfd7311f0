-- A write that may be sent is apart from all others.
use Rattle.std.proofs.Common.{◌≡◌, ◌≢◌, ◌⊎◌, inl, inr, ⊎_elim, ℕ, ◌<◌, ◌≤◌, List, ◌∷◌, Contains, set, length, Option, Some, refl, sym, ◌∙◌, ap, subst, arith}
use Rattle.bx_disk.specs.Disks.{Disks}
use Rattle.bx_facts.proofs.Lists.{behind, front}
use Rattle.bx_facts.specs.Chains.{Chain, last}
use Rattle.bx_facts.specs.Writes.{AreRuns, IsOver, Made, MayWrite, Sent, StorePast, WritesTo, store_with, writing}
use Rattle.bx_plain_store.specs.declared.writes.Write.{Write}
use Rattle.bx_plain_store.specs.Out.{AreApart, at, out_at, out_in, sent_of}
use Rattle.bx_plain_store.proofs.Serving.{set_each}
use Rattle.bx_post.specs.declared.packets.Letter.{Letter}
use Rattle.bx_plain_store.specs.Fits.{Fits, Keeps}

module _ (made : Made) (g : ℕ) (owns : List (Option ℕ)) (slots : List (Option Write)) (x : Disks) (chain : Chain) (writes : List Sent) (node : ℕ) (write : Write)
    (fits : Fits made g owns slots x chain writes) (own : at owns node ≡ Some write.session) (runs : AreRuns made write.runs) (may : MayWrite writes g (last chain) (sent_of write)) (less : node < length slots) where
  -- another node's write on a sector of it is over
  other_over : (other : ℕ) (v : Sent) (device sector : ℕ) (content also : List ℕ) → other ≢ node → out_at slots other ≡ Some v → WritesTo v device sector also → WritesTo (sent_of write) device sector content → IsOver g v
  other_over other v device sector content also apart out too brings = ⊎_elim
      (λ same. absurd (apart (sym (fits.owned other v.session (fits.mine other v out)).0 ∙ ap fits.node_of same ∙ (fits.owned node write.session own).0)))
      (λ over. over.0)
      (may.each v device sector content also (fits.sent other v out) too brings)

  -- what holds of the write that is sent, and of the others that were out, holds of all that are out
  each_out : (P : ℕ → Sent → Type 0) → P node (sent_of write) → ((other : ℕ) (v : Sent) → other ≢ node → out_at slots other ≡ Some v → P other v) → (other : ℕ) (v : Sent) → out_at (set slots node (Some write)) other ≡ Some v → P other v
  each_out P here beside =
      let Q : ℕ → Option Write → Type 0 = λ n slot. (v : Sent) → out_in slot ≡ Some v → P n v in
      set_each Q slots node (Some write) less (λ v is. subst (P node) (let h = is in cc) here) (λ other apart v out. beside other v apart out)

  apart_sent : AreApart g (set slots node (Some write))
  apart_sent = record {
    nodes = λ a b u v device sector content also apart out too brings brings_too.
        each_out (λ n w. (m : ℕ) (z : Sent) → n ≢ m → out_at (set slots node (Some write)) m ≡ Some z → WritesTo w device sector content → WritesTo z device sector also → IsOver g w ⊎ IsOver g z)
        (λ m z differ out_m brings_w brings_z.
        each_out (λ k w. node ≢ k → WritesTo w device sector also → IsOver g (sent_of write) ⊎ IsOver g w)
        (λ same. absurd (same refl))
        (λ k w beside out_k unlike brings_k. inr (other_over k w device sector content also beside out_k brings_k brings_w))
        m z out_m differ brings_z)
        (λ n w beside out_n m z differ out_m brings_w brings_z.
        each_out (λ k t. n ≢ k → WritesTo t device sector also → IsOver g w ⊎ IsOver g t)
        (λ unlike brings_k. inl (other_over n w device sector also content beside out_n brings_w brings_k))
        (λ k t far out_k unlike brings_k. fits.apart.nodes n k w t device sector content also unlike out_n out_k brings_w brings_k)
        m z out_m differ brings_z)
        a u out b v apart too brings brings_too;
    once = λ a u device sector content also out.
        each_out (λ n w. WritesTo w device sector content → WritesTo w device sector also → also ≡ content)
        (λ brings too. runs.once device sector content also brings too)
        (λ n w beside out_n brings too. fits.apart.once n w device sector content also out_n brings too)
        a u out;
  }

  -- its runs lie behind the labels
  above_sent : (device sector : ℕ) (content : List ℕ) → WritesTo (sent_of write) device sector content → 1 ≤ sector
  above_sent device sector content brings = let least = (runs.each brings.0 brings.1).behind_label in let from = brings.2.from in omega (arith, least, from)

  pub fits_sent : Fits made g owns (set slots node (Some write)) x chain (sent_of write ∷ writes)
  fits_sent = record {
    labels = fits.labels;
    count = fits.count;
    places = fits.places;
    apart = apart_sent;
    above = λ n w device sector content out.
        each_out (λ k v. WritesTo v device sector content → 1 ≤ sector) (above_sent device sector content) (λ k v beside out_k. fits.above k v device sector content out_k) n w out;
    sent = each_out (λ k v. Contains (sent_of write ∷ writes) v) (front (sent_of write) writes) (λ k v beside out_k. behind (sent_of write) writes v (fits.sent k v out_k));
    mine = each_out (λ k v. at owns k ≡ Some v.session) own (λ k v beside out_k. fits.mine k v out_k);
    node_of = fits.node_of;
    rows = fits.rows;
    owned = fits.owned;
  }

pub keeps_sent : (made : Made) (g : ℕ) (owns : List (Option ℕ)) (slots : List (Option Write)) (x : Disks) (past : StorePast) (letters letters_then : List Letter) (node : ℕ) (write : Write)
    → Keeps made g owns slots x (store_with past letters) → at owns node ≡ Some write.session → AreRuns made write.runs → MayWrite past.writes past.told.greatest (last past.told.chain) (sent_of write) → node < length slots
    → Keeps made g owns (set slots node (Some write)) x (store_with (writing past (sent_of write)) letters_then)
keeps_sent made g owns slots x past letters letters_then node write keeps own runs may less = record {
  handed = keeps.handed;
  greatest_is = keeps.greatest_is;
  fits = fits_sent made g owns slots x past.told.chain past.writes node write keeps.fits own runs (subst (λ (n : ℕ). MayWrite past.writes n (last past.told.chain) (sent_of write)) keeps.greatest_is may) less;
}
