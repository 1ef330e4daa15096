-- The report of a remote program's end: a letter, K for a success, Z for a later try or D for a failure, and a text
-- (qmail-rspawn(8)).
use Rattle.std.specs.Prelude.{◌≡◌, ◌≢◌, ℕ, List, [], ◌∷◌, ◌++◌, Option, Some, None, if◌then◌else◌, ◌==◌, nat_le, slice_index, unwrap_or, codes}
use Rattle.outside.specs.declared.spawner.Status.{Status}
use Rattle.outside.specs.declared.spawner.Status.TheVariants.{Ended, Crashed, Failed}
use Rattle.remote_spawn.specs.Parts.{Message, parts, first_message, recipient_text, AreParts, IsMessageOf}
use Rattle.mail_bytes.specs.Texts.{line}

-- The letter: if the recipient report says `s`, temporary, it is Z; if it says `h`, permanent, D; else that of the message
-- report, and D if there is none.
abbrev pub letter_of_message : Option Message → ℕ
letter_of_message None = 68
letter_of_message (Some message) = message.0

abbrev pub letter_by : ℕ → Option Message → ℕ
letter_by first message = if first == 115 then 90 else (if first == 104 then 68 else letter_of_message message)

-- K is better than Z, and Z than D
abbrev pub rank : ℕ → ℕ
rank letter = if letter == 75 then 2 else (if letter == 90 then 1 else 0)

-- The text of the message report is left out if it is better than the letter that is given: `hno`, NUL, `Kok`, NUL gives `Dno`.
abbrev pub text_by : ℕ → Option Message → List ℕ
text_by letter None = []
text_by letter (Some message) = if nat_le (rank message.0) (rank letter) then message.1 else []

abbrev pub told_by : ℕ → List ℕ → Option Message → List ℕ
told_by letter recipient message = letter ∷ (recipient ++ text_by letter message)

-- the message report of an output
abbrev pub message_of : List ℕ → Option Message
message_of output = first_message (parts output)

abbrev pub letter_told : List ℕ → ℕ
letter_told output = letter_by (slice_index output 0) (message_of output)

-- what an output tells: `sno`, NUL, `Zx`, NUL gives `Znox`; `r`, NUL, `Kok`, NUL gives `Kok`, and so does `Kok`, NUL
abbrev pub told : List ℕ → List ℕ
told output = told_by (letter_told output) (recipient_text (parts output)) (message_of output)

-- the report if nothing was told
abbrev pub crashed : List ℕ
crashed = line (codes "Zqmail-remote crashed.")

abbrev pub silent : List ℕ → Option (List ℕ)
silent [] = Some (line (codes "Zqmail-remote produced no output."))
silent (b ∷ output) = None

abbrev pub untold_by : ℕ → List ℕ → Option (List ℕ)
untold_by code output =
    if code == 0 then silent output
    else (if code == 111 then Some (line (codes "ZUnable to run qmail-remote.")) else Some (line (codes "DUnable to run qmail-remote.")))

abbrev pub untold : Status → List ℕ → Option (List ℕ)
untold (Ended code) output = untold_by code output
untold Crashed output = Some crashed
untold Failed output = Some crashed

-- The report. A status that couldn't be had counts as a crash.
abbrev pub report_of : Status → List ℕ → List ℕ
report_of status output = unwrap_or (untold status output) (told output)

-- The same as a relation

pub record IsTold (output report : List ℕ) : Type 0 where
  pub these : List (List ℕ)
  pub are : AreParts output these
  pub message : Option Message
  pub found : IsMessageOf these message
  pub is : report ≡ told_by (letter_by (slice_index output 0) message) (recipient_text these) message

pub data IsReportOf (code : ℕ) (output report : List ℕ) : Type 0 where
  CanNotRun : code ≡ 111 → report ≡ line (codes "ZUnable to run qmail-remote.") → IsReportOf code output report
  IsRefused : code ≢ 0 → code ≢ 111 → report ≡ line (codes "DUnable to run qmail-remote.") → IsReportOf code output report
  IsSilent : code ≡ 0 → output ≡ [] → report ≡ line (codes "Zqmail-remote produced no output.") → IsReportOf code output report
  Tells : code ≡ 0 → output ≢ [] → IsTold output report → IsReportOf code output report

abbrev pub IsReport : Status → List ℕ → List ℕ → Type 0
IsReport (Ended code) output report = IsReportOf code output report
IsReport Crashed output report = report ≡ crashed
IsReport Failed output report = report ≡ crashed

-- A success was told: the program exited with 0, its message report begins with K, and its output with neither `s` nor `h`.
pub record IsSuccess (status : Status) (output : List ℕ) : Type 0 where
  pub ended : status ≡ Ended 0
  pub these : List (List ℕ)
  pub are : AreParts output these
  pub text : List ℕ
  pub found : IsMessageOf these (Some (75, text))
  pub not_soft : slice_index output 0 ≢ 115
  pub not_hard : slice_index output 0 ≢ 104
