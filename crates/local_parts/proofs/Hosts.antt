-- The name of the host, by control/me alone.
use Rattle.std.proofs.Common.{◌≡◌, ℕ, List, Option, Some, None, sym, ap, ◌∙◌}
use Rattle.address_rules.specs.declared.controls.Controls.{Controls}
use Rattle.address_rules.specs.Files.{Fault, controls_of, first_fault}
use Rattle.local_parts.specs.Host.{host_in, only_me, unless_bad}

pub named : (files : List (Option (List ℕ))) (bytes : List ℕ) (controls : Controls) → files ≡ only_me bytes → first_fault files ≡ None → controls ≡ controls_of files → Some controls.me ≡ host_in bytes
unfolding host_in
named files bytes controls same good says =
    ap (λ (k : Controls). Some k.me) (says ∙ ap controls_of same)
    ∙ ap (λ f. unless_bad f (controls_of (only_me bytes)).me) (sym good ∙ ap first_fault same)

pub bad : (files : List (Option (List ℕ))) (bytes : List ℕ) (fault : Fault) → files ≡ only_me bytes → first_fault files ≡ Some fault → None ≡ host_in bytes
unfolding host_in
bad files bytes fault same is = ap (λ f. unless_bad f (controls_of (only_me bytes)).me) (sym is ∙ ap first_fault same)
