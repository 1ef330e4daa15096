-- What a local delivery carried out, in one statement (dot-qmail(5), maildir(5)); and of which deliveries the successes are that are
-- reported.
use Rattle.std.specs.Prelude.{◌≡◌, ℕ, List, [], ◌∷◌, ◌++◌, map, Option, Some, None, bytes_eq, codes, if◌then◌else◌}
use Rattle.call_fs.specs.Disk.{Among, Disk, IsWhole}
use Rattle.call_fs.specs.declared.calls.Answer.{Answer}
use Rattle.call_fs.specs.declared.calls.Answer.TheVariants as answer
use Rattle.call_fs.specs.declared.calls.CallData.{CallData}
use Rattle.call_fs.specs.declared.calls.CallData.TheVariants as call
use Rattle.call_fs.specs.declared.past.ChildData.TheVariants.{Forward as ForwardChild}
use Rattle.call_fs.specs.declared.past.GotData.{GotData}
use Rattle.call_fs.specs.declared.past.GotData.TheVariants as came
use Rattle.call_fs.specs.declared.past.NeedData.{NeedData}
use Rattle.call_fs.specs.declared.past.NeedData.TheVariants as needs
use Rattle.call_fs.specs.declared.past.Own.{Own}
use Rattle.call_fs.specs.declared.program.Port.TheVariants as port
use Rattle.dot_qmail.specs.declared.line.Line.{Line}
use Rattle.local_deliver.specs.Carried.{AreDrops, Reaches, instructions}
use Rattle.local_deliver.specs.Deeds.{LinkMade, exits, feeds, host_read, starts, statuses}
use Rattle.call_fs.specs.Past.{taken}
use Rattle.local_parts.specs.declared.arguments.LocalArgs.{LocalArgs}
use Rattle.local_parts.specs.Forwarding.{forwards}
use Rattle.local_parts.specs.Inputs.{message_in}
use Rattle.local_parts.specs.Texts.{maildir_text}
use Rattle.queue_inject.specs.Texts.{entered}
use Rattle.queue_law.specs.Books.{Books, Injection, IsInjected, routed_in, spot_in}
use Rattle.queue_law.specs.Routes.{Recipient}
use Rattle.send_core.specs.Past.{Account, Task, account, settle}
use Rattle.send_known.specs.declared.channel.Channel.TheVariants.{Local}
use Rattle.spawn_protocol.specs.declared.report.Report.{Report}
use Rattle.spawn_protocol.specs.Report.{counted}
use Rattle.send_runs.specs.Reports.{reports_at}
use Rattle.world_events.specs.declared.event.Program.TheVariants.{Delivery, Sender}
use Rattle.mail_world.specs.History.{Actor, Event, Legal, after, netstring}
use Rattle.mail_world.specs.History.Event.{Act}
use Rattle.mail_world.specs.History.Life.{Over}
use Rattle.world_law.specs.Deliveries.{IsForwardOf}
use Rattle.world_law.specs.Entered.{IsEntered}
use Rattle.world_law.specs.Started.{WasStartedFor}

-- The links that an actor made in a history, in order: from which name to which, and the disk just before.

pub record Linked : Type 0 where
  pub from : List ℕ
  pub to : List ℕ
  pub disk : Disk

abbrev pub linked_by : Disk → List Linked → CallData → Answer → List Linked
linked_by d old (call.Link from to) answer.Done = old ++ record { from = from; to = to; disk = d } ∷ []
linked_by d old c told = old

abbrev pub linked_at : Disk → List Linked → NeedData → GotData → List Linked
linked_at d old (needs.File c) (came.Answered told) = linked_by d old c told.answer
linked_at d old due got = old

abbrev pub linked_on : List ℕ → Disk → List Linked → Event → List Linked
linked_on a d old (Act b own wrote) = if bytes_eq b a then linked_at d old own.due own.came else old
linked_on a d old e = old

abbrev pub links_in : Disk → List ℕ → List Event → List Linked
links_in d a [] = []
links_in d a (e ∷ before) = linked_on a (after d before).disk (links_in d a before) e

abbrev pub names_of : Linked → LinkMade
names_of it = (it.from, it.to)

-- What was injected for some addresses: one injection, which was accepted, from whom the delivery forwards, to just these, of the message with
-- its Delivered-To line; that is all that it started, gave, and took the status of.
pub record WasInjected (b : Books) (args : LocalArgs) (past : List Own) (message : List ℕ) (addresses : List (List ℕ)) : Type 0 where
  pub it : IsForwardOf b args past message addresses
  pub room : ℕ
  pub started : starts past ≡ ForwardChild args.uid room ∷ []
  pub gave : feeds past ≡ (netstring it.words.message ++ netstring it.words.envelope) ∷ []
  pub ended : statuses past ≡ 0 ∷ []

-- for none nothing was
abbrev pub WereInjected : Books → LocalArgs → List Own → List ℕ → List (List ℕ) → Type 0
WereInjected b args past message [] = starts past ≡ []
WereInjected b args past message (address ∷ more) = WasInjected b args past message (address ∷ more)

-- What the delivery of this name, with these words and this past, has carried out of its instructions for a message, in a history.
pub record Carried (d : Disk) (h : List Event) (name : List ℕ) (args : LocalArgs) (past : List Own) (message : List ℕ) : Type 0 where
  -- the message is the one that it took
  pub input : message_in (taken past) ≡ Some message
  -- the host is the one that control/me names, as it read that
  pub host : List ℕ
  pub host_is : host_read past ≡ Some host
  -- the instructions are those of the file that is chosen among the names which its home told, by what it read of the home's file of that
  -- name, or the default ones
  pub lines : List Line
  pub told : instructions args past ≡ Some lines
  -- Those that were reached are all of them, or those up to the first command that exited with 99. Each other command exited with 0.
  pub reached : List Line
  pub reaches : Reaches lines (exits past) reached
  -- the links that it made are those of the maildirs among the lines that were reached, in order
  pub drops : AreDrops args host message reached (map names_of (links_in d name h))
  -- each of a file that just before holds the maildir's text of the message, whole and on the disk
  pub whole : (it : Linked) → Among it (links_in d name h) → IsWhole it.disk it.from (maildir_text args message)
  -- the addresses among the lines that were reached are, in order, the recipients of one accepted injection, and without any there was none
  pub injected : WereInjected (after d h).books args past message (forwards reached)

-- A local delivery for this address has ended with 0, and has carried out its instructions for this message.
pub record WasCarried (d : Disk) (h : List Event) (address message : List ℕ) : Type 0 where
  pub name : List ℕ
  pub delivery : Actor
  pub is : (after d h).actors name ≡ Some delivery
  pub over : delivery.life ≡ Over 0
  pub start : ℕ
  pub args : LocalArgs
  pub program : delivery.program ≡ Delivery start args
  pub recipient : address ≡ args.local ++ 64 ∷ args.domain
  pub carried : Carried d h name args delivery.past message

-- There is one for the attempt at this record in this slot of the local spawner: for its recipient, of the message that the accepted injection of its
-- number entered, and started since the attempt's request was given.
pub record WasCarriedFor (d : Disk) (h : List Event) (slot : ℕ) (t : Task) : Type 0 where
  pub message : List ℕ
  pub entered : IsEntered (after d h) t.n message
  pub it : WasCarried d h t.address message
  pub in_slot : (after d h).pipework.slots it.name ≡ Some (record { parent = codes "lspawn"; number = slot })
  pub started : WasStartedFor d h it.name slot t

-- No two attempts share one: of two in a history that have the same delivery the request was given with the same event.
abbrev pub DeliveriesAreApart : Type 0
DeliveriesAreApart = (d : Disk) (h later before newer earlier : List Event) → Legal d h → later ++ before ≡ h → newer ++ earlier ≡ h → (i j : ℕ) (t u : Task)
    → (v : WasCarriedFor d before i t) → (w : WasCarriedFor d earlier j u) → v.it.name ≡ w.it.name
    → (i ≡ j) × (t ≡ u) × (v.started.asked.earlier ≡ w.started.asked.earlier)

-- A report is of the attempt in flight in its slot, and if it tells of a success, there is such a delivery.
abbrev pub IsTrue : Disk → List Event → Report → Option Task → Type 0
IsTrue d h r None = ⊥
IsTrue d h r (Some t) = counted r.letter ≡ 75 → WasCarriedFor d h r.slot t

-- so is each of these, which a sender takes one after the other, by what its past says of the channel
abbrev pub AreTrue : Disk → List Event → List Report → Account → Type 0
AreTrue d h [] a = Unit {0}
AreTrue d h (r ∷ rs) a = IsTrue d h r (a.in_flight r.slot) × AreTrue d h rs (settle r a)

-- what a sender with this past hears of the local spawner with this event
abbrev pub HearsTrue : Disk → List Event → List Own → Own → Type 0
HearsTrue d h past own = AreTrue d h (reports_at Local past own) (account Local past)

-- Each report that a sender takes of the local spawner is of an attempt in flight, and a K report comes of such a delivery.
abbrev pub KReportsAreCarried : Type 0
KReportsAreCarried = (d : Disk) (a : List ℕ) (own : Own) (wrote : ℕ) (before : List Event)
    → Legal d (Act a own wrote ∷ before) → (x : Actor) → (after d before).actors a ≡ Some x → (start : ℕ) → x.program ≡ Sender start
    → own.due ≡ needs.Take port.Lspawn → (bytes : List ℕ) → own.came ≡ came.Took bytes → HearsTrue d before x.past own

-- Each recipient of a local address that is accounted for as delivered has a delivery for its routed address, of the message as entered.
abbrev pub DeliveredAreCarried : Type 0
DeliveredAreCarried = (d : Disk) (before : List Event) → Legal d before → (i : Injection) → IsInjected (after d before).books i
    → (r : Recipient i.args) → (spot_in i r).channel ≡ Local → Among (spot_in i r) i.ledger.delivered
    → WasCarried d before (routed_in i r) (entered i.args)
