-- What bytes name, and whose file handle they are.
use Rattle.std.proofs.Common.{◌≡◌, ℕ, ◌^◌, ◌<◌, Bool, true, false, cond, List, take, drop, Some, None, refl, sym, ap, subst, ◌∙◌, arith}
use Rattle.std.specs.Int.{w64, to_be_bytes, from_be_bytes}
use Rattle.std.specs.Str.{bytes_eq}
use Rattle.std.proofs.lemmas.Nat.{from_be_bytes-to_be_bytes_8}
use Rattle.std.proofs.lemmas.Slice.Eq.{bytes_eq-Decides}
use Rattle.bx_places.specs.Handles.{file_text, named}

handle_in : List ℕ → ℕ
handle_in bytes = from_be_bytes w64 (take 8 (drop 16 bytes))

volume_in : List ℕ → ℕ
volume_in bytes = from_be_bytes w64 (take 8 (drop 8 bytes))

guarded : (b : Bool) (n h : ℕ) → cond b (Some n) None ≡ Some h → (b ≡ true) × (n ≡ h)
guarded true n h e = (refl, cc)
guarded false n h e = absurd cc

eight_below : (h : ℕ) → from_be_bytes w64 (to_be_bytes w64 h) < 2 ^ 64
eight_below h = omega arith

-- bytes that name a handle are its file handle
pub named_is : (volume handle : ℕ) (bytes : List ℕ) → named volume bytes ≡ Some handle → (handle < 2 ^ 64) × (bytes ≡ file_text volume handle)
unfolding handle_in
named_is volume handle bytes e =
    let g = guarded (bytes_eq bytes (file_text volume (handle_in bytes))) (handle_in bytes) handle e in
    let text : bytes ≡ file_text volume handle =
    subst (λ (n : ℕ). bytes ≡ file_text volume n) g.1 ((bytes_eq-Decides bytes (file_text volume (handle_in bytes))).0 g.0) in
    let same : from_be_bytes w64 (to_be_bytes w64 handle) ≡ handle = sym (ap handle_in text) ∙ g.1 in
    (subst (λ (n : ℕ). n < 2 ^ 64) same (eight_below handle), text)

-- a handle's file handle names it
pub text_names : (volume handle : ℕ) (bytes : List ℕ) → handle < 2 ^ 64 → bytes ≡ file_text volume handle → named volume bytes ≡ Some handle
unfolding handle_in
text_names volume handle bytes lt e =
    let is : handle_in bytes ≡ handle = ap handle_in e ∙ from_be_bytes-to_be_bytes_8 handle lt in
    let passes : bytes_eq bytes (file_text volume (handle_in bytes)) ≡ true =
    (bytes_eq-Decides bytes (file_text volume (handle_in bytes))).1 (e ∙ ap (file_text volume) (sym is)) in
    ap (λ (b : Bool). cond b (Some (handle_in bytes)) None) passes ∙ ap (λ (n : ℕ). Some n) is

-- bytes are file handles of one volume at most
pub one_volume : (volume another one other : ℕ) (bytes : List ℕ) → volume < 2 ^ 64 → another < 2 ^ 64 → bytes ≡ file_text volume one → bytes ≡ file_text another other → volume ≡ another
unfolding volume_in
one_volume volume another one other bytes lt below a b =
    sym (from_be_bytes-to_be_bytes_8 volume lt) ∙ ap volume_in (sym a ∙ b) ∙ from_be_bytes-to_be_bytes_8 another below
