-- The words by which the programs of a queue start their children. The empty word in the place of a program's name is this same
-- program. Of the queue in `d` and the program `p`, delivery 3 of `a@x` to `b@y` is started by `p`, `y`, `a@x`, `b@y`.
use Rattle.std.specs.Prelude.{ℕ, List, [], ◌∷◌, ◌==◌, if◌then◌else◌, codes}
use Rattle.call_fs.specs.declared.past.ChildData.{ChildData}
use Rattle.call_fs.specs.declared.past.ChildData.TheVariants.{Bounce, Forward, Local, Remote}
use Rattle.call_fs.specs.declared.past.DeliveryWordsData.{DeliveryWordsData}
use Rattle.mail_bytes.specs.Decimal.{digits}
use Rattle.mail_bytes.specs.Escape.{escaped}

-- A directory as a child is told it: one that begins with `-` would be an option there, and is told as `./-`.
abbrev pub dir_word : List ℕ → List ℕ
dir_word [] = []
dir_word (b ∷ rest) = if b == 45 then 46 ∷ 47 ∷ b ∷ rest else b ∷ rest

-- a word of a delivery on its command line: `=`, and the word with each byte that isn't printable as `%XX`
abbrev pub marked : List ℕ → List ℕ
marked word = 61 ∷ escaped word

-- a local delivery, by this same program
abbrev pub marked_words : List ℕ → DeliveryWordsData → ℕ → List (List ℕ)
marked_words dir w uid =
    [] ∷ codes "local" ∷ dir ∷ w.user ∷ w.home ∷ w.local ∷ w.dash ∷ w.ext ∷ w.domain ∷ w.sender ∷ w.line ∷ codes "--uid" ∷ digits uid ∷ []

abbrev pub all_marked : DeliveryWordsData → DeliveryWordsData
all_marked w = record {
  user = marked w.user;
  home = marked w.home;
  local = marked w.local;
  dash = marked w.dash;
  ext = marked w.ext;
  domain = marked w.domain;
  sender = marked w.sender;
  line = marked w.line;
}

abbrev pub local_words : List ℕ → DeliveryWordsData → ℕ → List (List ℕ)
local_words dir w uid = marked_words dir (all_marked w) uid

-- A remote delivery, by a program of others. One without a name can't be started: there are no words then.
abbrev pub remote_words : List ℕ → List ℕ → List ℕ → List ℕ → List (List ℕ)
remote_words [] domain sender recipient = []
remote_words (b ∷ name) domain sender recipient = (b ∷ name) ∷ domain ∷ sender ∷ recipient ∷ []

-- the injector of a bounce, or of what a user forwards
abbrev pub bounce_words : List ℕ → List (List ℕ)
bounce_words dir = [] ∷ codes "queue" ∷ codes "-" ∷ dir ∷ codes "--bounce" ∷ []

abbrev pub forward_words : List ℕ → ℕ → List (List ℕ)
forward_words dir uid = [] ∷ codes "queue" ∷ codes "-" ∷ dir ∷ codes "--uid" ∷ digits uid ∷ []

-- the words of a child, over the queue in this directory and with this program for remote deliveries
abbrev pub words_of : List ℕ → List ℕ → ChildData → List (List ℕ)
words_of dir program (Bounce room) = bounce_words dir
words_of dir program (Forward uid room) = forward_words dir uid
words_of dir program (Local slot words uid) = local_words dir words uid
words_of dir program (Remote slot domain sender recipient) = remote_words program domain sender recipient
