-- The message that returns a bounce file (qmail-send(8); QSBMF).
use Rattle.std.specs.Prelude.{ℕ, ◌-◌, List, [], ◌∷◌, ◌++◌, length, take, Option, Some, None, if◌then◌else◌, nat_eq, bytes_eq, codes}
use Rattle.std.specs.List.{concat, ends_with}
use Rattle.received_line.specs.Received.{date_text}
use Rattle.bounce_record.specs.declared.bounces.Bounce.{Bounce}
use Rattle.mail_bytes.specs.Texts.{line}

-- `user@host`, as it stands
abbrev pub user_at : List ℕ → List ℕ → List ℕ
user_at user host = user ++ 64 ∷ host

-- where a bounce of this sender goes: `ann-@host-@[]` is told as `ann-@host`
abbrev pub return_address : List ℕ → List ℕ
return_address sender = if ends_with nat_eq sender (codes "-@[]") then take (length sender - 4) sender else sender

-- who sends it, to whom, and when; and how its text begins
abbrev pub header : List ℕ → List ℕ → List ℕ → ℕ → List ℕ
header from host recipient moment = concat (
    line (codes "Date: " ++ date_text moment)
    ∷ line (codes "From: " ++ user_at from host)
    ∷ line (codes "To: " ++ recipient)
    ∷ line (codes "Subject: failure notice")
    ∷ line []
    ∷ line (codes "Hi. This is the qmail-send program at " ++ (host ++ codes "."))
    ∷ [])

-- what the bounce file holds, and then the message that is returned, below a line that says so
abbrev pub returned : List ℕ → List ℕ → List ℕ → List ℕ → List ℕ
returned notes title sender message = concat (
    line []
    ∷ notes
    ∷ line title
    ∷ line []
    ∷ line (codes "Return-Path: <" ++ (sender ++ codes ">"))
    ∷ message
    ∷ [])

-- the text of a single bounce
unfoldable pub single_text : List ℕ → List ℕ → List ℕ → List ℕ → List ℕ → ℕ → List ℕ
single_text from host sender notes message moment = concat (
    header from host (return_address sender) moment
    ∷ line (codes "I'm afraid I wasn't able to deliver your message to the following addresses.")
    ∷ line (codes "This is a permanent error; I've given up. Sorry it didn't work out.")
    ∷ returned notes (codes "--- Below this line is a copy of the message.") sender message
    ∷ [])

-- the text of a double bounce, of a message from nobody
unfoldable pub double_text : List ℕ → List ℕ → List ℕ → List ℕ → List ℕ → ℕ → List ℕ
double_text from host recipient notes message moment = concat (
    header from host recipient moment
    ∷ line (codes "I tried to deliver a bounce message to this address, but the bounce bounced!")
    ∷ returned notes (codes "--- Below this line is the original bounce.") [] message
    ∷ [])

-- of a message from a sender: from nobody, to the sender
abbrev pub single : List ℕ → List ℕ → List ℕ → List ℕ → List ℕ → ℕ → Bounce
single from host sender notes message moment =
    record { sender = []; recipient = return_address sender; text = single_text from host sender notes message moment }

-- of a message from nobody, a bounce itself: from `#@[]`, to who is told of double bounces
abbrev pub double : List ℕ → List ℕ → List ℕ → List ℕ → List ℕ → List ℕ → ℕ → Bounce
double from host double_to double_host notes message moment =
    record { sender = codes "#@[]"; recipient = user_at double_to double_host; text = double_text from host (user_at double_to double_host) notes message moment }

-- What comes of a message with this sender. A bounce from `#@[]`, a double bounce itself, is dropped.
abbrev pub bounce_of : List ℕ → List ℕ → List ℕ → List ℕ → List ℕ → List ℕ → List ℕ → ℕ → Option Bounce
bounce_of from host double_to double_host [] notes message moment = Some (double from host double_to double_host notes message moment)
bounce_of from host double_to double_host (b ∷ sender) notes message moment =
    if bytes_eq (b ∷ sender) (codes "#@[]") then None else Some (single from host (b ∷ sender) notes message moment)
