-- The states that clusters begin with have at most one session of each node.
use Rattle.std.proofs.Common.{◌≡◌, inl, inr, ⊎_elim, ◌⊎◌, ℕ, zero, suc, ◌+◌, List, [], ◌∷◌, ◌++◌, ap, arith}
use Rattle.bx_global.specs.Opening.{formatted_state, node_row, node_rows, opening_state}
use Rattle.bx_rows.specs.declared.session.SessionRow.{SessionRow}
use Rattle.bx_locking.specs.Owned.{AreSingle, IsRowIn}

row_pushed : (rows : List SessionRow) (new row : SessionRow) → IsRowIn (rows ++ new ∷ []) row → IsRowIn rows row ⊎ (row ≡ new)
row_pushed [] new row (inl is) = inr is
row_pushed [] new row (inr none) = absurd none
row_pushed (one ∷ rest) new row (inl is) = inl (inl is)
row_pushed (one ∷ rest) new row (inr more) = ⊎_elim (λ old. inl (inr old)) (λ is. inr is) (row_pushed rest new row more)

-- a session's number tells its node
number_of_node : (n : ℕ) (row : SessionRow) → IsRowIn (node_rows n) row → row.number ≡ row.node + 1
number_of_node zero row has = absurd has
number_of_node (suc n) row has = ⊎_elim
    (λ old. number_of_node n row old)
    (λ new. let e = ap (λ (x : SessionRow). x.number) new in let f = ap (λ (x : SessionRow). x.node) new in omega (arith, e, f))
    (row_pushed (node_rows n) (node_row n) row has)

pub opening_single : (nodes devices : ℕ) → AreSingle 0 (opening_state nodes devices)
opening_single nodes devices = record {
  each = λ a b node boot one two live also late late_too.
      let e = number_of_node nodes a one in let f = number_of_node nodes b two in let n = live.node_is in let m = also.node_is in omega (arith, e, f, n, m);
}

pub formatted_single : (devices : ℕ) → AreSingle 0 (formatted_state devices)
formatted_single devices = record { each = λ a b node boot one. absurd one }
