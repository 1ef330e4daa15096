-- How a command and an injection end, by their exit statuses (qmail-command(8), qmail-local(8)). One that crashed, couldn't be
-- started, or whose status couldn't be had has the code 0 here.
use Rattle.std.specs.Prelude.{ℕ, List, [], ◌∷◌, ◌++◌, Bool, true, false, ◌&&◌, ◌||◌, ◌==◌, nat_le, codes}
use Rattle.mail_bytes.specs.Decimal.{digits}
use Rattle.local_parts.specs.declared.endings.TheConstants.{PERMANENT, TEMPORARY}

-- no later try will go well
abbrev pub is_lasting_command : ℕ → Bool
is_lasting_command code =
    code == 100 || (code == 64 || (code == 65 || (code == 70 || (code == 76 || (code == 77 || (code == 78 || code == 112))))))

-- 11 to 40
abbrev pub is_lasting_injection : ℕ → Bool
is_lasting_injection code = nat_le 11 code && nat_le code 40

abbrev pub status_by : Bool → ℕ
status_by true = PERMANENT
status_by false = TEMPORARY

abbrev pub command_status : ℕ → ℕ
command_status code = status_by (is_lasting_command code)

abbrev pub forward_status : ℕ → ℕ
forward_status code = status_by (is_lasting_injection code)

-- the class of the failure
abbrev pub class_of : Bool → List ℕ
class_of true = codes ". (#5.3.0)" ++ 10 ∷ []
class_of false = codes ". (#4.3.0)" ++ 10 ∷ []

abbrev pub command_report : ℕ → List ℕ
command_report code = codes "Command failed with status " ++ (digits code ++ class_of (is_lasting_command code))

abbrev pub forward_report : ℕ → List ℕ
forward_report code = codes "Unable to forward: status " ++ (digits code ++ class_of (is_lasting_injection code))
