-- Each disk has controls: what its control files say, or, if one of them is bad, what is said where all are missing.
use Rattle.std.proofs.Common.{◌≡◌, [], Option, Some, None, refl}
use Rattle.address_rules.specs.declared.controls.Controls.{Controls}
use Rattle.address_rules.specs.Files.{Fault, controls_of, first_fault}
use Rattle.address_rules.proofs.Nuls.{controls_none}
use Rattle.call_fs.specs.Disk.{Disk}
use Rattle.program_law.specs.Sender.Control.{AreControls, ControlsExist, controls_on}

exist_by : (d : Disk) (o : Option Fault) → first_fault (controls_on d) ≡ o → (controls : Controls) × AreControls controls d
unfolding first_fault
exist_by d None e = (controls_of (controls_on d), record { no_nul = controls_none (controls_on d) e; say = λ none. refl })
exist_by d (Some fault) e = (controls_of [], record { no_nul = controls_none [] refl; say = λ none. absurd (cc) })

pub controls_exist : ControlsExist
controls_exist d = exist_by d (first_fault (controls_on d)) refl
