-- The pieces of a text, and statuses that aren't 0.
use Rattle.std.proofs.Common.{◌≡◌, ◌≢◌, ℕ, suc, ◌+◌, ◌≤◌, List, ◌++◌, length, take, drop, Bool, true, false, Option, Some, None, refl, sym, ap, ◌∙◌, arith, nat_lt, nat_le, ltb-false, take-add, take_all, slice_get}
use Rattle.std.specs.Prelude.{if◌then◌else◌}
use Rattle.call_fs.specs.declared.calls.Answer.{Answer}
use Rattle.call_fs.specs.declared.calls.Answer.TheVariants.{Refused}
use Rattle.call_fs.specs.declared.calls.FsError.TheVariants.{Memory}
use Rattle.envelope_records.specs.declared.envelope.EnvFault.{EnvFault}
use Rattle.envelope_records.specs.declared.envelope.EnvFault.TheVariants.{Format, TooLong, EndEarly}
use Rattle.queue_inject.specs.declared.injection.Arguments.{Arguments}
use Rattle.queue_inject.specs.declared.injection.InputEnd.{InputEnd}
use Rattle.queue_inject.specs.declared.injection.InputEnd.TheVariants as ends
use Rattle.queue_inject.specs.declared.row.Row.{Row}
use Rattle.envelope_records.specs.Envelope.{Stage, Step, step, Reading, read_envelope}
use Rattle.envelope_records.specs.Envelope.Step.{Goes, Ends, Fails}
use Rattle.envelope_records.specs.Envelope.Reading.{Whole, Open, Broken}
use Rattle.queue_inject.specs.Texts.{limit, message_end, message_text, end_status, fault_status, past_limit, open_status, envelope_text, envelope_of, intd_text}
use Rattle.queue_inject.specs.Table.{piece_size, failure, past_piece}
use Rattle.queue_law.specs.Injectors.{IsFailure}

pub not_zero : (n : ℕ) → suc n ≢ 0
not_zero n e = omega arith

-- a failed call's status isn't 0
pub fails : (answer : Answer) (status : ℕ) → status ≢ 0 → IsFailure (failure answer status)
fails (Refused Memory) status h = not_zero 50
fails answer status h = h

-- a fault's status isn't 0
abbrev pub AllFail : Option ℕ → Type 0
AllFail None = Unit {0}
AllFail (Some status) = status ≢ 0

end_fails : (end : InputEnd) → AllFail (message_end end)
end_fails ends.Whole = tt
end_fails ends.Unread = not_zero 53
end_fails ends.Malformed = not_zero 90

by_length : (long : Bool) (end : InputEnd) → AllFail (if long then Some 31 else message_end end)
by_length true end = not_zero 30
by_length false end = end_fails end

pub message_fails : (args : Arguments) → AllFail (message_text args).fault
unfolding message_text
message_fails args = by_length (nat_lt limit (length args.message)) args.message_end

end_status_fails : (end : InputEnd) → end_status end ≢ 0
end_status_fails ends.Whole = not_zero 53
end_status_fails ends.Unread = not_zero 53
end_status_fails ends.Malformed = not_zero 90

past_limit_fails : (s : Step) → past_limit s ≢ 0
past_limit_fails (Fails TooLong) = not_zero 10
past_limit_fails (Fails Format) = not_zero 30
past_limit_fails (Fails EndEarly) = not_zero 30
past_limit_fails (Goes stage) = not_zero 30
past_limit_fails (Ends sender recipients) = not_zero 30

open_fails : (stage : Stage) (end : InputEnd) (next : Option ℕ) → open_status stage end next ≢ 0
open_fails stage end None = end_status_fails end
open_fails stage end (Some b) = past_limit_fails (step stage b)

fault_fails : (fault : EnvFault) → fault_status fault ≢ 0
fault_fails TooLong = not_zero 10
fault_fails EndEarly = not_zero 53
fault_fails Format = not_zero 90

envelope_fails : (r : Reading) (end : InputEnd) (next : Option ℕ) → AllFail (envelope_text r end next).fault
envelope_fails (Whole sender recipients) end next = tt
envelope_fails (Open stage) end next = open_fails stage end next
envelope_fails (Broken before fault) end next = fault_fails fault

pub intd_fails : (args : Arguments) → AllFail (intd_text args).fault
unfolding intd_text envelope_of
intd_fails args = envelope_fails (read_envelope (take limit args.envelope)) args.envelope_end (slice_get args.envelope limit)

-- what holds of each row that a test leads to
if_cases {ℓ} : (P : Row → Type ℓ) (t : Bool) (p q : Row) → (t ≡ true → P p) → (t ≡ false → P q) → P (if t then p else q)
if_cases P true p q h k = h refl
if_cases P false p q h k = k refl

pub if_either {ℓ} : (P : Row → Type ℓ) (t : Bool) (p q : Row) → P p → P q → P (if t then p else q)
if_either P t p q h k = if_cases P t p q (λ _. h) (λ _. k)

-- what holds after a piece: of the next one, of what follows the text, and of each failure
pub piece_cases {ℓ} : (P : Row → Type ℓ) (bytes : List ℕ) (fault : Option ℕ) (done : ℕ) (more end : Row) (bad : ℕ → Row)
    → AllFail fault → P more → (fault ≡ None → length bytes ≤ done → P end) → ((status : ℕ) → status ≢ 0 → P (bad status))
    → P (past_piece bytes fault done more end bad)
piece_cases P bytes None done more end bad f m e b = if_cases P (nat_lt done (length bytes)) more end (λ _. m) (λ h. e refl (ltb-false _ _ h))
piece_cases P bytes (Some status) done more end bad f m e b = if_either P (nat_le (done + piece_size) (length bytes)) more (bad status) m (b status f)

-- one piece more of a text
pub grown_text : (text old : List ℕ) (done : ℕ) → old ≡ take done text → old ++ take piece_size (drop done text) ≡ take (done + piece_size) text
grown_text text old done h = ap (λ x. x ++ take piece_size (drop done text)) h ∙ sym (take-add done piece_size text)

pub whole_text : (text : List ℕ) (done : ℕ) → length text ≤ done → take done text ≡ text
whole_text text done h = take_all done text h
