-- A message in one package, as QMQP clients send it: a netstring whose content is netstrings, the message, the sender and each
-- recipient. `18:3:hi` newline `,3:a@x,3:b@y,,` is the message `hi` newline from a@x to b@y.
use Rattle.std.specs.Prelude.{◌≡◌, ℕ, ◌≤◌, List, [], ◌∷◌, ◌++◌, length, take, flat_map, All, Bool, true, false}
use Rattle.mail_bytes.specs.Netstring.{netstring}
use Rattle.mail_bytes.specs.Texts.{HasNoNul}
use Rattle.envelope_records.specs.Envelope.{records_of, IsAddress, HasEnvelope}
use Rattle.queue_inject.specs.Texts.{limit}

-- the content: a netstring each
abbrev pub content_of : List ℕ → List ℕ → List (List ℕ) → List ℕ
content_of message sender recipients = flat_map netstring (message ∷ (sender ∷ recipients))

-- these bytes, and no others, are the package of that message, sender and recipients
abbrev pub IsPackage : List ℕ → List ℕ → List ℕ → List (List ℕ) → Type 0
IsPackage bytes message sender recipients = bytes ≡ netstring (content_of message sender recipients)

-- At most one prefix of a text is a package, and it is the package of one message, sender and recipients.
abbrev pub PackagesAreExact : Type 0
PackagesAreExact = (text other rest more m m' s s' : List ℕ) (rs rs' : List (List ℕ)) → IsPackage text m s rs → IsPackage other m' s' rs'
    → text ++ rest ≡ other ++ more → (text ≡ other) × ((m ≡ m') × ((s ≡ s') × (rs ≡ rs')))

-- none of the addresses has a NUL
abbrev pub ArePlain : List ℕ → List (List ℕ) → Type 0
ArePlain sender recipients = HasNoNul sender × All HasNoNul recipients

-- whether one of the addresses has a NUL
abbrev pub IsNulTold : Bool → List (List ℕ) → Type 0
IsNulTold false addresses = All HasNoNul addresses
IsNulTold true addresses = ¬ (All HasNoNul addresses)

-- What an injector gets as its envelope: `F`, the sender and NUL, for each recipient `T`, it and NUL, and a last NUL.
abbrev pub envelope_of : List ℕ → List (List ℕ) → List ℕ
envelope_of sender recipients = records_of sender recipients ++ 0 ∷ []

-- the most bytes that a content may have
abbrev pub longest : ℕ
longest = 1073741824

-- Of a package within the limit, of which each address is one, an injector gets a message and an envelope that are within its limits.
abbrev pub PackagesHaveEnvelopes : Type 0
PackagesHaveEnvelopes = (message sender : List ℕ) (recipients : List (List ℕ)) → length (content_of message sender recipients) ≤ longest
    → IsAddress sender → All IsAddress recipients → (length message ≤ limit) × HasEnvelope (take limit (envelope_of sender recipients)) sender recipients
