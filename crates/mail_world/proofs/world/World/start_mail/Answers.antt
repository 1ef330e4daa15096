use Rattle.std.proofs.Common.{◌≡◌, ◌⊎◌, ◌↔◌, inl, inr, Bool, true, false, IsTrue, refl}
use Rattle.mail_world.proofs.world.World.start_mail.Goals as goal

unequal : false ≡ true → ⊥
unequal e = absurd cc

-- a name that isn't free was used, or is none
taken : (A : Type 0) (used free : Bool) → (IsTrue free ↔ (A × (used ≡ false))) → free ≡ false → (used ≡ true) ⊎ (¬ A)
taken A true free is unfree = inl refl
taken A false true is unfree = absurd cc
taken A false false is unfree = inr (λ a. unequal (is.1 (a, refl)))

pub returns-then-not-is_free-clause-taken : goal.returns-then-not-is_free-clause-taken
returns-then-not-is_free-clause-taken g c =
    ((λ _. taken _ _ _ c.is_free.ensures c.if-not-is_free.true), (λ _. refl))
