-- What `local` is told. Each of its words after the directory begins with `=`, and is escaped as in scripts.
use Rattle.std.specs.Prelude.{◌==◌, ◌<◌, ℕ, All, List, [], ◌∷◌, Option, Some, None, codes, if◌then◌else◌, option_and_then}
use Rattle.std.specs.Result.{result_ok}
use Rattle.call_fs.specs.declared.past.DeliveryWordsData.{DeliveryWordsData}
use Rattle.mail_bytes.specs.Decimal.{digits}
use Rattle.mail_bytes.specs.Escape.{escaped, unescaped}
use Rattle.clap.specs.Words.{Row, Text, first_of, matches_of}
use Rattle.command_words.specs.declared.command.LocalWords.{LocalWords}
use Rattle.command_words.specs.Lines.{local_line, takes_words}
use Rattle.command_words.specs.Numbers.{uid_of}

-- what a word stands for: what comes after the `=` (61) that it begins with, unescaped
abbrev pub marked : Text → Option Text
marked [] = None
marked (first ∷ text) = if first == 61 then result_ok (unescaped text) else None

-- what the word stands for that clap found by this name
abbrev pub told_as : Text → List Row → Option Text
told_as id rows = option_and_then marked (first_of id rows)

-- the eight words, if each stands for something
abbrev pub delivery : Option Text → Option Text → Option Text → Option Text → Option Text → Option Text → Option Text → Option Text → Option DeliveryWordsData
delivery (Some user) (Some home) (Some local) (Some dash) (Some ext) (Some domain) (Some sender) (Some text) =
    Some (record { user = user; home = home; local = local; dash = dash; ext = ext; domain = domain; sender = sender; line = text })
delivery _ _ _ _ _ _ _ _ = None

-- the same, of what clap found
abbrev pub delivery_told : List Row → Option DeliveryWordsData
delivery_told rows =
    delivery (told_as (codes "user") rows) (told_as (codes "home") rows) (told_as (codes "local") rows) (told_as (codes "dash") rows)
    (told_as (codes "ext") rows) (told_as (codes "domain") rows) (told_as (codes "sender") rows) (told_as (codes "line") rows)

-- what `local` is told, if the directory and the delivery are, and the user is a number
abbrev pub local_told : Option Text → Option DeliveryWordsData → Option ℕ → Option LocalWords
local_told (Some dir) (Some words) (Some uid) = Some (record { dir = dir; words = words; uid = uid })
local_told _ _ _ = None

-- the same, of what clap found
abbrev pub local_told_by : List Row → Option LocalWords
local_told_by rows = local_told (first_of (codes "dir") rows) (delivery_told rows) (uid_of (first_of (codes "uid") rows))

-- the words after the name `local`, whatever the first word is
unfoldable pub local_words : List Text → Option LocalWords
local_words words = if takes_words local_line words then local_told_by (matches_of local_line words) else None

-- how such a word is written
abbrev pub written : List ℕ → Text
written bytes = 61 ∷ escaped bytes

-- how a delivery is written, after the directory
abbrev pub delivery_words : DeliveryWordsData → ℕ → List Text
delivery_words d uid =
    written d.user ∷ written d.home ∷ written d.local ∷ written d.dash ∷ written d.ext ∷ written d.domain ∷ written d.sender
    ∷ written d.line ∷ codes "--uid" ∷ digits uid ∷ []

-- the numbers of a text are bytes
abbrev pub AreBytes : List ℕ → Type 0
AreBytes text = All (λ b. b < 256) text

-- those of each of the eight words are
pub record HasBytes (d : DeliveryWordsData) : Type 0 where
  pub user : AreBytes d.user
  pub home : AreBytes d.home
  pub local : AreBytes d.local
  pub dash : AreBytes d.dash
  pub ext : AreBytes d.ext
  pub domain : AreBytes d.domain
  pub sender : AreBytes d.sender
  pub line : AreBytes d.line
