-- Letters of one layer don't matter to the other two.
use Rattle.std.proofs.Common.{◌≡◌, List, ◌++◌, sym, subst, arith}
use Rattle.bx_facts.specs.Inputs.{AreAmong, IsOwners, IsRegisters, IsStores, SendsOnly}
use Rattle.bx_facts.proofs.Following.{none_new, not_both}
use Rattle.bx_post.specs.declared.packets.Letter.{Letter}

-- Of what was sent, letters of this layer were there before.
among : (Is Other : Letter → Type 0) → ((letter : Letter) → Other letter → Is letter → ⊥) → (letters old new posted : List Letter) → posted ≡ letters ++ old → SendsOnly Other old new → AreAmong Is (letters ++ new) posted
among Is Other apart letters old new posted is sends = subst (λ (l : List Letter). AreAmong Is (letters ++ new) l) (sym is) (none_new Is Other apart letters old new sends)

pub owners_send_no_registers : (letters old new posted : List Letter) → posted ≡ letters ++ old → SendsOnly IsOwners old new → AreAmong IsRegisters (letters ++ new) posted
owners_send_no_registers = among IsRegisters IsOwners (λ letter one other. not_both letter other one)

pub owners_send_no_stores : (letters old new posted : List Letter) → posted ≡ letters ++ old → SendsOnly IsOwners old new → AreAmong IsStores (letters ++ new) posted
owners_send_no_stores = among IsStores IsOwners (λ letter one other. omega (arith, one.most, other.least))

pub stores_send_no_registers : (letters old new posted : List Letter) → posted ≡ letters ++ old → SendsOnly IsStores old new → AreAmong IsRegisters (letters ++ new) posted
stores_send_no_registers = among IsRegisters IsStores (λ letter one other. omega (arith, other.most, one.least))

pub stores_send_no_owners : (letters old new posted : List Letter) → posted ≡ letters ++ old → SendsOnly IsStores old new → AreAmong IsOwners (letters ++ new) posted
stores_send_no_owners = among IsOwners IsStores (λ letter one other. omega (arith, other.most, one.least))
