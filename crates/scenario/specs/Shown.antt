-- What `show` prints: how many names `pid/` has, the state of each number that isn't in S1, and how each mail fares, by the disk and the
-- books. In these senders enter by which controls a message is routed, and who was delivered to.
use Rattle.std.specs.Prelude.{◌≡◌, ℕ, List, [], ◌∷◌, ◌++◌, length, map, replicate, Bool, false, Option, Some, None, codes, flat_map, if◌then◌else◌, nat_eq}
use Rattle.std.specs.List.{starts_with}
use Rattle.address_rules.specs.declared.controls.Controls.{Controls}
use Rattle.call_fs.specs.Disk.{Disk}
use Rattle.queue_inject.specs.declared.injection.Arguments.{Arguments}
use Rattle.queue_law.specs.Books.{Books}
use Rattle.queue_law.specs.Ledgers.{Spot}
use Rattle.queue_states.specs.States.{is_in_todo, state_of}
pub use Rattle.queue_states.specs.Listing.{AreNamesIn}
use Rattle.script_disks.specs.declared.routes.Routed.{Routed}
use Rattle.script_disks.specs.Routes.{recipients_in, routes_in}
pub use Rattle.script_disks.specs.Numbers.{AreNumbersIn}
pub use Rattle.script_disks.specs.Records.{is_noted, is_unmarked}
pub use Rattle.script_fates.specs.Lasting.{is_delivered, lasting, routes_by}
pub use Rattle.queue_states.specs.Lines.{line_of, count_line, state_line}
use Rattle.mail_world.specs.History.{Event, after}
use Rattle.mail_world.specs.Books.{entry_in, mails_of}
use Rattle.world_events.specs.declared.books.Entry.{Entry}
use Rattle.script_traces.specs.declared.fates.RecipientFate.{RecipientFate}
use Rattle.script_traces.specs.declared.fates.RecipientFate.TheVariants.{Pending, Delivered, Noted, Bounced, Dropped}
use Rattle.script_traces.specs.Fates.{fate_lines}
pub use Rattle.script_traces.specs.Mails.{life_word}

-- `pid COUNT`
abbrev pub pid_line : List (List ℕ) → List ℕ
pid_line names = count_line (length names)

-- `N Sk`, or `N other`
abbrev pub number_line : Disk → ℕ → List ℕ
number_line d n = state_line n (state_of d n)

-- what a recipient's line goes by: the disk and the books
pub record View : Type 0 where
  pub disk : Disk
  pub books : Books

-- todo holds the mail
abbrev pub is_queued : Disk → Option ℕ → Bool
is_queued d None = false
is_queued d (Some n) = is_in_todo d n

abbrev pub spot_at : Routed → Spot
spot_at r = record { channel = r.channel; place = r.place }

-- What became of a recipient that failed and isn't noted, by the envelope of its mail: a bounce of the mail was injected, but that of a
-- double bounce, which comes from `#@[]`, is dropped.
abbrev pub failed_fate : List ℕ → RecipientFate
failed_fate envelope = if starts_with nat_eq envelope (70 ∷ codes "#@[]" ++ 0 ∷ []) then Dropped else Bounced

-- What became of a recipient of a mail that isn't in todo, and whose record doesn't read `T`, with what became of one that failed and isn't
-- noted. One of whom a spawner reported `D` is pending while its note is put into the bounce file, and noted once its record is marked,
-- until that file is gone.
abbrev pub ending_of : View → List ℕ → Option ℕ → RecipientFate → Routed → RecipientFate
ending_of v mail number failed r =
    if is_delivered v.books mail number (spot_at r) then Delivered else (if is_noted v.disk (lasting v.books mail number) r.name then Noted else failed)

-- what became of a recipient of a mail that isn't in todo
abbrev pub fate_of : View → List ℕ → Option ℕ → RecipientFate → Routed → RecipientFate
fate_of v mail number failed r = if is_unmarked v.disk (lasting v.books mail number) r then Pending else ending_of v mail number failed r

-- what became of each recipient of a mail that isn't in todo; without an injection in the books there are no routes
abbrev pub sorted_fates : View → Entry → Option Controls → List ℕ → List RecipientFate
sorted_fates v e None envelope = replicate e.recipients Dropped
sorted_fates v e (Some controls) envelope = map (fate_of v e.actor e.number (failed_fate envelope)) (routes_in controls (recipients_in envelope))

-- what became of each recipient of an accepted mail
abbrev pub accepted_fates : View → Entry → List ℕ → List RecipientFate
accepted_fates v e envelope = if is_queued v.disk (lasting v.books e.actor e.number) then replicate e.recipients Pending else sorted_fates v e (routes_by v.books e.actor e.number) envelope

-- What became of each recipient of the mail with this entry in the books, and this envelope, in the order of that; one that wasn't accepted has
-- none. Both `show` and `sum` go by this.
abbrev pub fates_of : View → Entry → List ℕ → List RecipientFate
fates_of v e envelope = if e.accepted then accepted_fates v e envelope else []

-- `NAME STATUS`, and a line for each recipient if the mail was accepted
abbrev pub entry_lines : View → Entry → List ℕ → List ℕ
entry_lines v e envelope = line_of e.actor (life_word e.life) ++ fate_lines e.actor (fates_of v e envelope)

-- By a history

-- what `show` sees after it
abbrev pub view_of : Disk → List Event → View
view_of d h = record { disk = (after d h).disk; books = (after d h).books }

-- the lines of a mail
abbrev pub mail_lines : Disk → List Event → List ℕ × Arguments → List ℕ
mail_lines d h mail = entry_lines (view_of d h) (entry_in (after d h) h mail) mail.1.envelope

abbrev pub all_mail_lines : Disk → List Event → List ℕ
all_mail_lines d h = flat_map (mail_lines d h) (mails_of h)

-- what `show` prints after this history, which began with this disk
pub record IsShown (d : Disk) (h : List Event) (text : List ℕ) : Type 0 where
  pub pids : List (List ℕ)
  pub numbers : List ℕ
  pub are_pids : AreNamesIn (after d h).disk (codes "pid") pids
  pub are_numbers : AreNumbersIn (after d h).disk numbers
  pub text_is : text ≡ pid_line pids ++ (flat_map (number_line (after d h).disk) numbers ++ all_mail_lines d h)
