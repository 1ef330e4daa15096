-- What a delivery that went well prints (qmail-local(8)).
use Rattle.std.specs.Prelude.{ℕ, List, [], ◌∷◌, ◌++◌, Bool, true, false, codes}
use Rattle.std.specs.List.{count_by}
use Rattle.mail_bytes.specs.Decimal.{digits}
use Rattle.dot_qmail.specs.declared.line.Line.{Line}
use Rattle.dot_qmail.specs.declared.line.Line.TheVariants as line

abbrev pub is_file : Line → Bool
is_file (line.Maildir path) = true
is_file (line.Mailbox path) = true
is_file (line.Command text) = false
is_file (line.Forward address) = false

abbrev pub is_forward : Line → Bool
is_forward (line.Maildir path) = false
is_forward (line.Mailbox path) = false
is_forward (line.Command text) = false
is_forward (line.Forward address) = true

abbrev pub is_program : Line → Bool
is_program (line.Maildir path) = false
is_program (line.Mailbox path) = false
is_program (line.Command text) = true
is_program (line.Forward address) = false

-- `did F+W+P`: how many files, forwards and programs
abbrev pub did_report : List Line → List ℕ
did_report lines = codes "did " ++ (digits (count_by is_file lines) ++ (43 ∷ (digits (count_by is_forward lines)
    ++ (43 ∷ (digits (count_by is_program lines) ++ 10 ∷ [])))))

-- and `qp PID`, the injector's process number
abbrev pub forwarded_report : List Line → ℕ → List ℕ
forwarded_report lines pid = did_report lines ++ (codes "qp " ++ (digits pid ++ 10 ∷ []))
