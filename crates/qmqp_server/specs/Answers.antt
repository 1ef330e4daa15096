-- The answer to a package, one netstring: `Kok START qp PID`, `Dbad address`, `Dstatus S` or `Zstatus S`.
use Rattle.std.specs.Prelude.{ℕ, List, ◌++◌, Bool, true, false, if◌then◌else◌, ◌==◌, codes}
use Rattle.mail_bytes.specs.Decimal.{digits}
use Rattle.mail_bytes.specs.Netstring.{netstring}
use Rattle.queue_limits.specs.declared.statuses.TheConstants.{DONE, LONG_ADDRESS}

-- it is queued
abbrev pub accepted_text : ℕ → ℕ → List ℕ
accepted_text start pid = codes "Kok " ++ (digits start ++ (codes " qp " ++ digits pid))

-- it never will be, if an address is too long, and may be later for any other cause
abbrev pub refused_text : ℕ → List ℕ
refused_text status = (if status == LONG_ADDRESS then codes "D" else codes "Z") ++ (codes "status " ++ digits status)

-- An address with a NUL goes before each status of the injector.
abbrev pub answer_text : (has_nul : Bool) → (status start pid : ℕ) → List ℕ
answer_text true status start pid = codes "Dbad address"
answer_text false status start pid = if status == DONE then accepted_text start pid else refused_text status

abbrev pub answer_of : (has_nul : Bool) → (status start pid : ℕ) → List ℕ
answer_of has_nul status start pid = netstring (answer_text has_nul status start pid)
