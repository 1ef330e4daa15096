-- What became of recipients: the line of each, and the line of the counts.
use Rattle.std.specs.Prelude.{ℕ, Bool, true, false, List, [], ◌∷◌, ◌++◌, length, map, codes}
use Rattle.std.specs.List.{count_by}
use Rattle.mail_bytes.specs.Decimal.{digits}
use Rattle.world_events.specs.declared.books.Entry.{Entry}
use Rattle.script_traces.specs.declared.fates.RecipientFate.{RecipientFate}
use Rattle.script_traces.specs.declared.fates.RecipientFate.TheVariants.{Pending, Delivered, Noted, Bounced, Dropped}
use Rattle.script_traces.specs.Mails.{recipient_lines}

-- the word for it
abbrev pub fate_word : RecipientFate → List ℕ
fate_word Pending = codes "pending"
fate_word Delivered = codes "delivered"
fate_word Noted = codes "noted"
fate_word Bounced = codes "bounced"
fate_word Dropped = codes "dropped"

-- the lines of the recipients of a mail
abbrev pub fate_lines : List ℕ → List RecipientFate → List ℕ
fate_lines name fates = recipient_lines name 1 (map fate_word fates)

-- the same became of both
abbrev pub is_fate : RecipientFate → RecipientFate → Bool
is_fate Pending Pending = true
is_fate Delivered Delivered = true
is_fate Noted Noted = true
is_fate Bounced Bounced = true
is_fate Dropped Dropped = true
is_fate fate other = false

-- of how many this became
abbrev pub count_of : RecipientFate → List RecipientFate → ℕ
count_of fate fates = count_by (is_fate fate) fates

-- a mail was accepted
abbrev pub was_accepted : Entry → Bool
was_accepted e = e.accepted

-- `WORD N`
abbrev pub with_number : List ℕ → ℕ → List ℕ
with_number word n = word ++ 32 ∷ digits n

-- `accepted A recipients R pending P delivered D noted N bounced B dropped X`, with so many mails, and by what became of their recipients
abbrev pub sum_line : ℕ → List RecipientFate → List ℕ
sum_line accepted fates =
    with_number (codes "accepted") accepted
    ++ (with_number (codes " recipients") (length fates)
    ++ (with_number (codes " pending") (count_of Pending fates)
    ++ (with_number (codes " delivered") (count_of Delivered fates)
    ++ (with_number (codes " noted") (count_of Noted fates)
    ++ (with_number (codes " bounced") (count_of Bounced fates)
    ++ (with_number (codes " dropped") (count_of Dropped fates)
    ++ 10 ∷ []))))))
