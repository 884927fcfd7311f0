-- Lanes as plain data, by which a proof tells them apart.
use Rattle.std.specs.Prelude.{◌≡◌, ℕ, zero, suc, refl}
use Rattle.std.specs.Coded.{Coded, code_by, coded×, coded_ℕ}
use Rattle.bx_base.specs.declared.names.Actor.{Actor}
use Rattle.bx_base.specs.declared.names.Actor.TheVariants.{Node, Replica, Server, Member}
use Rattle.bx_driver.specs.declared.lane.Lane.{Lane}

-- a machine as its kind and its number
abbrev pub told : Actor → ℕ × ℕ
told (Node n) = (0, n)
told (Replica n) = (1, n)
told (Server n) = (2, n)
told (Member n) = (3, n)

abbrev pub of_kind : ℕ → ℕ → Actor
of_kind zero n = Node n
of_kind (suc zero) n = Replica n
of_kind (suc (suc zero)) n = Server n
of_kind (suc (suc (suc k))) n = Member n

pub told_back : (who : Actor) → of_kind (told who).0 (told who).1 ≡ who
told_back (Node n) = refl
told_back (Replica n) = refl
told_back (Server n) = refl
told_back (Member n) = refl

abbrev pub actor_code : Coded Actor
actor_code = code_by (ℕ × ℕ) (coded× coded_ℕ coded_ℕ) told (λ p. of_kind p.0 p.1) told_back

abbrev pub lane_code : Coded Lane
lane_code = code_by (Actor × (Actor × ℕ)) (coded× actor_code (coded× actor_code coded_ℕ)) (λ lane. (lane.from, (lane.to, lane.kind))) (λ p. record { from = p.0; to = p.1.0; kind = p.1.1 }) (λ _. refl)
