-- The delivery of a request (qmail-lspawn(8), qmail-local(8)): for which user, with which words, what it is given, and the report of
-- its end.
use Rattle.std.specs.Prelude.{ℕ, ◌+◌, ◌-◌, List, ◌∷◌, ◌++◌, length, take, drop, Option, Some, None, ◌==◌, slice_get, codes}
use Rattle.std.specs.List.{before_first}
use Rattle.outside.specs.declared.spawner.Status.{Status}
use Rattle.outside.specs.declared.spawner.Status.TheVariants.{Ended, Crashed, Failed}
use Rattle.spawn_protocol.specs.declared.request.Request.{Request}
use Rattle.spawner_parts.specs.Asked.{domain_of}
use Rattle.local_spawn.specs.declared.assign.Assignment.{Assignment}
use Rattle.local_spawn.specs.declared.delivery.Delivery.{Delivery}
use Rattle.local_spawn.specs.declared.finding.Found.{Found}
use Rattle.local_spawn.specs.Letters.{letter_of}
use Rattle.local_spawn.specs.Users.{found_in}
use Rattle.mail_bytes.specs.Texts.{line}

-- what comes before the last `@` of an address that has one
abbrev pub local_of : List ℕ → List ℕ
local_of address = take (length address - (length (domain_of address) + 1)) address

-- what is followed if the user has no .qmail file
abbrev pub default_line : List ℕ
default_line = codes "./Maildir/"

-- the delivery of a request to this user, of whose line so many bytes of the local part have matched
abbrev pub delivery_by : Assignment → ℕ → Request → Delivery
delivery_by a matched r = record {
  words = record {
    user = a.user;
    home = a.home;
    local = local_of r.recipient;
    dash = a.dash;
    ext = a.ext ++ drop matched (local_of r.recipient);
    domain = domain_of r.recipient;
    sender = r.sender;
    line = default_line;
  };
  uid = a.uid;
}

abbrev pub delivery_at : ℕ → Request → Option Assignment → Option Delivery
delivery_at matched r None = None
delivery_at matched r (Some a) = Some (delivery_by a matched r)

abbrev pub delivery_of : List Assignment → Request → Option Found → Option Delivery
delivery_of lines r None = None
delivery_of lines r (Some found) = delivery_at found.rest r (slice_get lines found.line)

-- none if there is no user for it, or the users couldn't be read
abbrev pub delivery_for : Option (List Assignment) → Request → Option Delivery
delivery_for None r = None
delivery_for (Some lines) r = delivery_of lines r (found_in lines (local_of r.recipient))

abbrev pub no_mailbox : List ℕ
no_mailbox = line (codes "DSorry, no mailbox here by that name. (#5.1.1)")

abbrev pub trouble : List ℕ
trouble = line (codes "ZTrouble reading users/assign. (#4.3.0)")

-- what is told of a request that has no delivery
abbrev pub refusal : Option (List Assignment) → List ℕ
refusal None = trouble
refusal (Some lines) = no_mailbox

abbrev pub crashed : List ℕ
crashed = line (codes "Zqmail-local crashed.")

-- The report of its end: what it printed up to the first NUL. A status that couldn't be had counts as a crash.
abbrev pub local_report : Status → List ℕ → List ℕ
local_report (Ended code) output = letter_of (Ended code) ∷ before_first (λ b. b == 0) output
local_report Crashed output = crashed
local_report Failed output = crashed
