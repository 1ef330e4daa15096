-- The lines of the sender's log (qmail-log(5)).
use Rattle.std.specs.Prelude.{◌≡◌, ℕ, ◌+◌, ◌≤◌, List, [], ◌∷◌, ◌++◌, length, map, Bool, ◌||◌, if◌then◌else◌, ◌==◌, nat_lt, codes, flat_map}
use Rattle.mail_bytes.specs.Decimal.{digits}
use Rattle.send_log.specs.declared.lines.TheConstants.{LINE_ROOM}
use Rattle.send_log.specs.declared.lines.Load.{Load}
use Rattle.send_log.specs.declared.lines.Outcome.{Outcome}
use Rattle.send_log.specs.declared.lines.Outcome.TheVariants.{Success, Failure, Deferral}
use Rattle.send_log.specs.declared.lines.Target.{Target}
use Rattle.send_log.specs.declared.lines.Target.TheVariants.{Local, Remote}
use Rattle.send_log.specs.declared.lines.Line.{Line}
use Rattle.send_log.specs.declared.lines.Line.TheVariants as it

-- How an address or a report is shown, which may hold any bytes: a newline as `/`, and each other byte below 33 or above 126,
-- and `%`, as `_`. `Sorry,`, a space and `no.` with a newline after it are shown as `Sorry,_no./`.
abbrev pub shown_byte : ℕ → ℕ
shown_byte b = if b == 10 then 47 else (if (nat_lt b 33 || nat_lt 126 b) || b == 37 then 95 else b)

abbrev pub shown : List ℕ → List ℕ
shown text = map shown_byte text

-- pieces of text after one another, and a newline
abbrev pub line : List (List ℕ) → List ℕ
line [] = 10 ∷ []
line (piece ∷ pieces) = piece ++ line pieces

-- What comes of a report, by its letter: K is a success, D a failure, and any other letter a deferral; of a dying pass a failure
-- too.
abbrev pub outcome_of : ℕ → Bool → Outcome
outcome_of letter dying = if letter == 75 then Success else (if letter == 68 || dying then Failure else Deferral)

abbrev pub word_of : Outcome → List ℕ
word_of Success = codes "success"
word_of Failure = codes "failure"
word_of Deferral = codes "deferral"

-- `new msg 5`: message 5 was preprocessed
abbrev pub new_message : ℕ → List ℕ
new_message n = line (codes "new msg " ∷ digits n ∷ [])

-- `info msg 5: bytes 71 from <a@x> qp 77 uid 1000`: the length of its file, its sender, and by which process of which user it
-- was queued
abbrev pub message_info : ℕ → ℕ → List ℕ → ℕ → ℕ → List ℕ
message_info n bytes sender pid uid =
    line (codes "info msg " ∷ digits n ∷ codes ": bytes " ∷ digits bytes ∷ codes " from <" ∷ shown sender ∷ codes "> qp " ∷ digits pid ∷ codes " uid " ∷ digits uid ∷ [])

-- `starting delivery 1: msg 5 to remote b@y`
abbrev pub starting : ℕ → ℕ → List ℕ → List ℕ → List ℕ
starting delivery n channel address =
    line (codes "starting delivery " ∷ digits delivery ∷ codes ": msg " ∷ digits n ∷ codes " to " ∷ channel ∷ codes " " ∷ shown address ∷ [])

-- `status: local 0/10 remote 1/20`: how many deliveries are in flight, and how many may be
abbrev pub status : ℕ → ℕ → ℕ → ℕ → List ℕ
status local local_limit remote remote_limit =
    line (codes "status: local " ∷ digits local ∷ codes "/" ∷ digits local_limit ∷ codes " remote " ∷ digits remote ∷ codes "/" ∷ digits remote_limit ∷ [])

-- `delivery 1: success: ok`
abbrev pub delivered : ℕ → Outcome → List ℕ → List ℕ
delivered delivery outcome report = line (codes "delivery " ∷ digits delivery ∷ codes ": " ∷ word_of outcome ∷ codes ": " ∷ shown report ∷ [])

-- `bounce msg 5 qp 78`: its bounce was queued by this process
abbrev pub bounced : ℕ → ℕ → List ℕ
bounced n pid = line (codes "bounce msg " ∷ digits n ∷ codes " qp " ∷ digits pid ∷ [])

-- `triple bounce: discarding bounce/5`
abbrev pub triple_bounce : ℕ → List ℕ
triple_bounce n = line (codes "triple bounce: discarding bounce/" ∷ digits n ∷ [])

-- `end msg 5`: nothing is left of it
abbrev pub end_message : ℕ → List ℕ
end_message n = line (codes "end msg " ∷ digits n ∷ [])

-- `alert: report 9`: a report came for delivery 9, of which none was in flight
abbrev pub stray_report : ℕ → List ℕ
stray_report slot = line (codes "alert: report " ∷ digits slot ∷ [])

-- `alert: skip 5`: at its start the sender couldn't read the envelope of message 5
abbrev pub skipped : ℕ → List ℕ
skipped n = line (codes "alert: skip " ∷ digits n ∷ [])

-- `alert: left 5`: message 5 couldn't be preprocessed
abbrev pub left : ℕ → List ℕ
left n = line (codes "alert: left " ∷ digits n ∷ [])

abbrev pub channel_of : Target → List ℕ
channel_of (Local address) = codes "local"
channel_of (Remote address) = codes "remote"

abbrev pub address_of : Target → List ℕ
address_of (Local address) = address.now
address_of (Remote address) = address.now

-- the text of a line
abbrev pub text_of : Line → List ℕ
text_of (it.NewMessage n) = new_message n
text_of (it.MessageInfo n bytes sender pid uid) = message_info n bytes sender.now pid uid
text_of (it.Starting delivery n target) = starting delivery n (channel_of target) (address_of target)
text_of (it.Status local remote) = status local.busy local.limit remote.busy remote.limit
text_of (it.Delivered delivery outcome report) = delivered delivery outcome report.now
text_of (it.Bounced n pid) = bounced n pid
text_of (it.TripleBounce n) = triple_bounce n
text_of (it.EndMessage n) = end_message n
text_of (it.StrayReport slot) = stray_report slot
text_of (it.Skipped n) = skipped n
text_of (it.Left n) = left n

-- the address or the report that a line shows
abbrev pub shown_in : Line → List ℕ
shown_in (it.MessageInfo n bytes sender pid uid) = sender.now
shown_in (it.Starting delivery n target) = address_of target
shown_in (it.Delivered delivery outcome report) = report.now
shown_in _ = []

-- how much room a line takes at most
abbrev pub line_room : Line → ℕ
line_room l = LINE_ROOM + length (shown_in l)

-- What a line can be told by. Of addresses and reports that is how they are shown.

-- of one channel, with addresses that are shown alike
abbrev pub IsSameTarget : Target → Target → Type 0
IsSameTarget s t = (channel_of s ≡ channel_of t) × (shown (address_of s) ≡ shown (address_of t))

-- two lines of one kind, with the same numbers and words
abbrev pub IsSame : Line → Line → Type 0
IsSame (it.NewMessage n) (it.NewMessage m) = n ≡ m
IsSame (it.MessageInfo n b s p u) (it.MessageInfo m c t q v) = (n ≡ m) × (b ≡ c) × (shown s.now ≡ shown t.now) × (p ≡ q) × (u ≡ v)
IsSame (it.Starting d n s) (it.Starting e m t) = (d ≡ e) × (n ≡ m) × IsSameTarget s t
IsSame (it.Status a b) (it.Status c d) = (a ≡ c) × (b ≡ d)
IsSame (it.Delivered d o r) (it.Delivered e p s) = (d ≡ e) × (o ≡ p) × (shown r.now ≡ shown s.now)
IsSame (it.Bounced n p) (it.Bounced m q) = (n ≡ m) × (p ≡ q)
IsSame (it.TripleBounce n) (it.TripleBounce m) = n ≡ m
IsSame (it.EndMessage n) (it.EndMessage m) = n ≡ m
IsSame (it.StrayReport n) (it.StrayReport m) = n ≡ m
IsSame (it.Skipped n) (it.Skipped m) = n ≡ m
IsSame (it.Left n) (it.Left m) = n ≡ m
IsSame _ _ = ⊥

-- A space, or a byte that prints.
abbrev pub IsPrinted : ℕ → Type 0
IsPrinted b = (32 ≤ b) × (b ≤ 126)

-- The text of many lines, and when two such have the same lines.
abbrev pub log_of : List Line → List ℕ
log_of lines = flat_map text_of lines

abbrev pub AreSame : List Line → List Line → Type 0
AreSame [] [] = Unit {0}
AreSame (a ∷ more) (b ∷ others) = IsSame a b × AreSame more others
AreSame _ _ = ⊥
