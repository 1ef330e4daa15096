-- What a machine stop makes of a life, and whether a life lasts or ended well.
use Rattle.std.proofs.Common.{◌≡◌, Bool, true, false, refl, sym, ap, ◌∙◌, ⊎_elim}
use Rattle.std.specs.Prelude.{◌==◌}
use Rattle.std.proofs.lemmas.Bool.Decides.{eqb_tells}
use Rattle.mail_world.specs.History.{Life, cut_off}
use Rattle.mail_world.specs.History.Life.{Alive, Over, Stopped}
use Rattle.queue_law.proofs.Tests.{off}

pub never_alive : (l : Life) → cut_off l ≡ Alive → ⊥
never_alive Alive h = cc
never_alive (Over status) h = cc
never_alive Stopped h = cc

-- whether it lasts
abbrev pub is_alive : Life → Bool
is_alive Alive = true
is_alive (Over status) = false
is_alive Stopped = false

pub alive_is : (l : Life) → is_alive l ≡ true → l ≡ Alive
alive_is Alive h = refl
alive_is (Over status) h = absurd (off h)
alive_is Stopped h = absurd (off h)

-- whether it ended with 0
abbrev pub is_well : Life → Bool
is_well Alive = false
is_well (Over status) = status == 0
is_well Stopped = false

pub well_is : (l : Life) → is_well l ≡ true → l ≡ Over 0
well_is Alive h = absurd (off h)
well_is (Over status) h = ⊎_elim (λ w. ap Over w.1) (λ w. absurd (off (sym w.0 ∙ h))) (eqb_tells status 0)
well_is Stopped h = absurd (off h)

-- none lasts after a machine stop, and what ended stays ended
pub after_stop : (P : Bool → Bool → Type 0) (l : Life) → P false (is_well l) → P (is_alive (cut_off l)) (is_well (cut_off l))
after_stop P Alive h = h
after_stop P (Over status) h = h
after_stop P Stopped h = h
