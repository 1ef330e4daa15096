-- What is injected for the addresses that a message is forwarded to (dot-qmail(5), qmail-queue(8)).
use Rattle.std.specs.Prelude.{ℕ, ◌+◌, List, [], ◌∷◌, ◌++◌, length, Bool, true, false, ◌&&◌, not, Option, Some, None, if◌then◌else◌, bytes_eq, codes}
use Rattle.std.specs.List.{list_any}
use Rattle.dot_qmail.specs.declared.line.Line.{Line}
use Rattle.dot_qmail.specs.declared.line.Line.TheVariants as line
use Rattle.dot_qmail.specs.Choice.{dot_name, safe}
use Rattle.envelope_records.specs.Envelope.{records_of}
use Rattle.mail_bytes.specs.Netstring.{head}
use Rattle.local_parts.specs.declared.arguments.LocalArgs.{LocalArgs}
use Rattle.local_parts.specs.declared.forwarding.Injection.{Injection}
use Rattle.local_parts.specs.Texts.{forward_text}

-- the addresses that lines forward to, in their order
abbrev pub forwards : List Line → List (List ℕ)
forwards [] = []
forwards (line.Forward address ∷ more) = address ∷ forwards more
forwards (line.Command text ∷ more) = forwards more
forwards (line.Maildir path ∷ more) = forwards more
forwards (line.Mailbox path ∷ more) = forwards more

-- The sender of forwards

abbrev pub is_there : List (List ℕ) → List ℕ → Bool
is_there names name = list_any (λ it. bytes_eq it name) names

-- `.qmail`, the dash and ext, and this at its end
abbrev pub owner_name : LocalArgs → List ℕ → List ℕ
owner_name args part = dot_name args.dash (safe args.ext ++ part)

-- a bounce has an empty sender, a double bounce `#@[]`
abbrev pub is_bounce : List ℕ → Bool
is_bounce [] = true
is_bounce (b ∷ sender) = bytes_eq (b ∷ sender) (codes "#@[]")

abbrev pub has_owner : LocalArgs → List (List ℕ) → Bool
has_owner args names = not (is_bounce args.sender) && is_there names (owner_name args (codes "-owner"))

abbrev pub has_default_owner : LocalArgs → List (List ℕ) → Bool
has_default_owner args names = is_there names (owner_name args (codes "-owner-default"))

-- `LOCAL-owner@DOMAIN`, and with `-owner-default` `LOCAL-owner-@DOMAIN-@[]`, so that bounces tell the recipient
abbrev pub owner_sender : LocalArgs → Bool → List ℕ
owner_sender args false = args.local ++ (codes "-owner@" ++ args.domain)
owner_sender args true = args.local ++ (codes "-owner-@" ++ (args.domain ++ codes "-@[]"))

-- the sender of the message, or the owner of the address, if it has one and this is no bounce
abbrev pub forward_sender : LocalArgs → List (List ℕ) → List ℕ
forward_sender args names = if has_owner args names then owner_sender args (has_default_owner args names) else args.sender

-- The injection

-- a length in decimal, a colon, so many bytes and a comma
abbrev pub net_text : List ℕ → List ℕ
net_text text = head (length text) ++ (text ++ 44 ∷ [])

abbrev pub envelope : List ℕ → List (List ℕ) → List ℕ
envelope sender recipients = records_of sender recipients ++ 0 ∷ []

-- the message and the envelope as netstrings, and how many bytes both have without that
abbrev pub injected : List ℕ → List ℕ → Injection
injected message envelope = record { text = net_text message ++ net_text envelope; room = length message + length envelope }

-- for these addresses, if there are any
abbrev pub injection_to : LocalArgs → List (List ℕ) → List ℕ → List (List ℕ) → Option Injection
injection_to args names message [] = None
injection_to args names message (address ∷ more) =
    Some (injected (forward_text args message) (envelope (forward_sender args names) (address ∷ more)))

unfoldable pub injection_of : LocalArgs → List (List ℕ) → List ℕ → List Line → Option Injection
injection_of args names message lines = injection_to args names message (forwards lines)
