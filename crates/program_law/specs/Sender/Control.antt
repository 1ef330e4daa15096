-- The control files (qmail-control(5)) as a disk holds them, and what they say.
use Rattle.std.specs.Prelude.{◌≡◌, ℕ, List, map, Option, None}
use Rattle.std.specs.Option.{option_map}
use Rattle.address_rules.specs.declared.control_file.ControlFile.{ControlFile}
use Rattle.address_rules.specs.declared.controls.Controls.{Controls}
use Rattle.address_rules.specs.Files.{all_files, controls_of, first_fault}
use Rattle.address_rules.specs.Nuls.{HaveNoNul}
use Rattle.call_fs.specs.Disk.{Disk}
use Rattle.send_parts.specs.Steps.{control_text}

-- what a control file holds; none if it is missing
abbrev pub control_on : Disk → ControlFile → Option (List ℕ)
control_on d f = option_map (λ i. (d.files i).bytes) (d.names (control_text f))

-- all twelve, in the order in which they are read
abbrev pub controls_on : Disk → List (Option (List ℕ))
controls_on d = map (control_on d) all_files

-- These are the controls: what the files say, if none of them is bad, and without NUL. If one is bad no sender gets past its start, and any
-- controls will do.
pub record AreControls (controls : Controls) (d : Disk) : Type 0 where
  pub no_nul : HaveNoNul controls
  pub say : first_fault (controls_on d) ≡ None → controls_of (controls_on d) ≡ controls

-- Each disk has controls.
abbrev pub ControlsExist : Type 0
ControlsExist = (d : Disk) → (controls : Controls) × AreControls controls d
