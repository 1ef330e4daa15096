-- Whose message a number is, by which controls its recipients are routed, and which of its recipients senders took reports of that they were delivered to, by the books.
use Rattle.std.specs.Prelude.{ℕ, List, Bool, true, false, ◌&&◌, ◌==◌, bytes_eq, Option, Some, None, option_map, if◌then◌else◌}
use Rattle.std.specs.List.{find, list_any}
use Rattle.address_rules.specs.declared.controls.Controls.{Controls}
use Rattle.queue_law.specs.Books.{Books, Injection}
use Rattle.queue_law.specs.Ledgers.{Spot}
use Rattle.send_known.specs.declared.channel.Channel.{Channel}
use Rattle.send_known.specs.declared.channel.Channel.TheVariants.{Local, Remote}

abbrev pub is_mail : List ℕ → Option Injection → Bool
is_mail mail None = false
is_mail mail (Some q) = bytes_eq q.actor mail

-- That mail's message has the number, and its life lasts: until another mail's message has that number.
abbrev pub lasts : Books → List ℕ → ℕ → Bool
lasts b mail n = is_mail mail (b.living n)

abbrev pub lasting : Books → List ℕ → Option ℕ → Option ℕ
lasting b mail None = None
lasting b mail (Some n) = if lasts b mail n then Some n else None

-- A report was taken that this recipient was delivered to.
abbrev pub is_channel : Channel → Channel → Bool
is_channel Local Local = true
is_channel Remote Remote = true
is_channel c e = false

abbrev pub is_spot : Spot → Spot → Bool
is_spot s t = is_channel t.channel s.channel && (t.place == s.place)

abbrev pub is_entered : Spot → Injection → Bool
is_entered s q = list_any (is_spot s) q.ledger.delivered

-- in that mail's injection with this number
abbrev pub is_entered_so : Spot → List ℕ → ℕ → Injection → Bool
is_entered_so s mail n q = (q.number == n) && (bytes_eq q.actor mail && is_entered s q)

abbrev pub is_delivered_by : Spot → List ℕ → ℕ → Option Injection → List Injection → Bool
is_delivered_by s mail n None over = list_any (is_entered_so s mail n) over
is_delivered_by s mail n (Some q) over = if bytes_eq q.actor mail then is_entered s q else list_any (is_entered_so s mail n) over

abbrev pub is_delivered : Books → List ℕ → Option ℕ → Spot → Bool
is_delivered b mail None s = false
is_delivered b mail (Some n) s = is_delivered_by s mail n (b.living n) b.over

-- By which controls the recipients of a mail are routed that has or had the number: in its injection whose life lasts, else in the newest
-- whose life is over.
abbrev pub is_so : List ℕ → ℕ → Injection → Bool
is_so mail n q = (q.number == n) && bytes_eq q.actor mail

abbrev pub routes_over : List ℕ → ℕ → List Injection → Option Controls
routes_over mail n over = option_map (λ q. q.ledger.routes) (find (is_so mail n) over)

abbrev pub routes_when : List ℕ → ℕ → Option Injection → List Injection → Option Controls
routes_when mail n None over = routes_over mail n over
routes_when mail n (Some q) over = if bytes_eq q.actor mail then Some q.ledger.routes else routes_over mail n over

abbrev pub routes_by : Books → List ℕ → Option ℕ → Option Controls
routes_by b mail None = None
routes_by b mail (Some n) = routes_when mail n (b.living n) b.over
