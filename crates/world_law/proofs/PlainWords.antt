-- The words of a delivery that a local spawner starts: what comes from its request has no NUL, whatever the spawner met.
use Rattle.std.proofs.Common.{◌≡◌, ℕ, ◌==◌, ◌+◌, ◌-◌, List, [], ◌∷◌, length, Bool, true, false, Option, Some, None, refl, subst, if◌then◌else◌}
use Rattle.std.specs.Prelude.{slice_get, unwrap_or}
use Rattle.std.specs.List.{AllByRecursion}
use Rattle.std.specs.Option.{option_or}
use Rattle.std.proofs.lemmas.List.Elements.{All-from_recursion, All-nil, All-take, recursion_from_All}
use Rattle.mail_bytes.specs.Texts.{HasNoNul}
use Rattle.call_fs.specs.declared.calls.Answer.{Answer}
use Rattle.call_fs.specs.declared.calls.Answer.TheVariants as answer
use Rattle.call_fs.specs.declared.calls.Fd.{Fd}
use Rattle.call_fs.specs.declared.calls.FsError.TheVariants as why
use Rattle.call_fs.specs.declared.past.DeliveryWordsData.{DeliveryWordsData}
use Rattle.call_fs.specs.declared.past.GotData.{GotData}
use Rattle.call_fs.specs.declared.past.GotData.TheVariants as got
use Rattle.call_fs.specs.declared.past.Own.{Own}
use Rattle.call_fs.specs.declared.program.Ready.{Ready}
use Rattle.local_spawn.specs.declared.assign.Assignment.{Assignment}
use Rattle.local_spawn.specs.declared.delivery.Delivery.{Delivery}
use Rattle.local_spawn.specs.declared.finding.Found.{Found}
use Rattle.local_spawn.specs.declared.place.Place.{Place}
use Rattle.local_spawn.specs.declared.row.Row.{Row}
use Rattle.local_spawn.specs.declared.row.Row.TheVariants as at
use Rattle.local_spawn.specs.Deliveries.{delivery_at, delivery_for, delivery_of, local_of, refusal}
use Rattle.local_spawn.specs.Table.{act, delivery_after, local_kind, place_after, readied_by, users_closed, users_opened, users_opened_by, users_read, users_read_by}
use Rattle.local_spawn.specs.Users.{found_in}
use Rattle.spawn_protocol.specs.Cut.{Cut, cut}
use Rattle.spawn_protocol.specs.Cut.Cut.{More, TooLong, Whole}
use Rattle.spawn_protocol.specs.Inbox.{pull, pulled, with_more}
use Rattle.spawn_protocol.specs.declared.inbox.Inbox.{Inbox}
use Rattle.spawn_protocol.specs.declared.request.Request.{Request}
use Rattle.spawn_protocol.proofs.Cuts.{cut_is}
use Rattle.spawner_parts.specs.declared.place.Place.{Place as Work}
use Rattle.spawner_parts.specs.declared.row.Row.{Row as WorkRow}
use Rattle.spawner_parts.specs.declared.row.Row.TheVariants as work
use Rattle.spawner_parts.specs.Asked.{domain_of, host_here, host_of, is_bad}
use Rattle.spawner_parts.specs.Table.{act as work_act, bad_request, closed, gave, heeded, launched, next_request, opened, opened_by, opens, printed, read_by, read_on, reports, row_now, took}

abbrev IsPlain : ℕ → Type 0
IsPlain b = b ≡ 0 → ⊥

-- A request

pub record HasPlainEnds (r : Request) : Type 0 where
  pub sender : HasNoNul r.sender
  pub recipient : HasNoNul r.recipient

abbrev MayBePlain : Option Request → Type 0
MayBePlain None = Unit {0}
MayBePlain (Some r) = HasPlainEnds r

pulled_plain : (c : Cut) (i : Inbox) → cut i.ahead ≡ c → MayBePlain (pulled c i).request
pulled_plain More i e = tt
pulled_plain (Whole r rest) i e = let w = ((cut_is i.ahead (Whole r rest)).0 e).0 in record { sender = w.sender.plain; recipient = w.recipient.plain }
pulled_plain TooLong i e = tt

-- the request of a place
abbrev Plain : Work → Type 0
Plain p = HasPlainEnds p.request

plain_if : (t : Bool) (x y : Work) → Plain x → Plain y → Plain (if t then x else y)
plain_if true x y h k = h
plain_if false x y h k = k

heeded_plain : (o : Option Request) (p : Work) → MayBePlain o → Plain p → Plain (heeded o p)
heeded_plain None p o h = h
heeded_plain (Some r) p o h = plain_if (is_bad p.running r) (reports bad_request r.slot p) (opens r p) h o

next_plain : (p : Work) → Plain p → Plain (next_request p)
next_plain p h = let it = pull p.inbox in heeded_plain it.request (record p { inbox = it.inbox }) (pulled_plain (cut p.inbox.ahead) p.inbox refl) h

gave_plain : (came : GotData) (p : Work) → Plain p → Plain (gave came p)
gave_plain got.Gave p h = next_plain p h
gave_plain came p h = h

took_plain : (came : GotData) (p : Work) → Plain p → Plain (took came p)
took_plain (got.Took bytes) p h = next_plain (record p { inbox = with_more bytes p.inbox }) h
took_plain got.End p h = h
took_plain came p h = h

opened_by_plain : (told : Answer) (p : Work) → Plain p → Plain (opened_by told p)
opened_by_plain (answer.Opened fd) p h = h
opened_by_plain (answer.Refused why.Memory) p h = h
opened_by_plain told p h = h

opened_plain : (came : GotData) (p : Work) → Plain p → Plain (opened came p)
opened_plain (got.Answered told) p h = opened_by_plain told.answer p h
opened_plain came p h = h

read_by_plain : (fd : Fd) (told : Answer) (bytes : List ℕ) (p : Work) → Plain p → Plain (read_by fd told bytes p)
read_by_plain fd (answer.Count count) bytes p h = h
read_by_plain fd told bytes p h = h

read_plain : (fd : Fd) (came : GotData) (p : Work) → Plain p → Plain (read_on fd came p)
read_plain fd (got.Answered told) p h = read_by_plain fd told.answer told.bytes p h
read_plain fd came p h = h

launched_plain : (report : List ℕ) (came : GotData) (p : Work) → Plain p → Plain (launched report came p)
launched_plain report (got.Started pid) p h = h
launched_plain report got.Memory p h = h
launched_plain report came p h = h

printed_plain : (slot : ℕ) (came : GotData) (p : Work) → Plain p → Plain (printed slot came p)
printed_plain slot (got.Took bytes) p h = h
printed_plain slot got.End p h = h
printed_plain slot came p h = h

readied_plain : (o : Option Delivery) (report : List ℕ) (p : Work) → Plain p → Plain (readied_by o report p)
readied_plain None report p h = h
readied_plain (Some delivery) report p h = h

module _ (users : Option (List Assignment)) where
  closed_plain : (whole : Bool) (p : Work) → Plain p → Plain (closed (local_kind users) whole p)
  closed_plain true p h = readied_plain (delivery_for users p.request) (refusal users) p h
  closed_plain false p h = h

  work_plain : (row : WorkRow) (came : GotData) (p : Work) → Plain p → Plain (work_act (local_kind users) row came p)
  work_plain work.Greet came p h = gave_plain came p h
  work_plain work.Idle came p h = h
  work_plain work.TakeInput came p h = took_plain came p h
  work_plain work.OpenMess came p h = opened_plain came p h
  work_plain (work.ReadMess fd) came p h = read_plain fd came p h
  work_plain (work.CloseMess fd whole) came p h = closed_plain whole p h
  work_plain work.Start came p h = launched_plain (local_kind users).unstarted came p h
  work_plain work.Feed came p h = next_plain p h
  work_plain (work.TakeOutput slot) came p h = printed_plain slot came p h
  work_plain (work.TakeStatus slot) came p h = h
  work_plain work.Report came p h = gave_plain came p h
  work_plain (work.Ended code) came p h = h

-- Its delivery

pub record HasPlainWords (words : DeliveryWordsData) : Type 0 where
  pub local : HasNoNul words.local
  pub domain : HasNoNul words.domain
  pub sender : HasNoNul words.sender

host_plain : (address host : List ℕ) → AllByRecursion IsPlain address → host_of address ≡ Some host → HasNoNul host
host_plain [] host h e = absurd (cc)
host_plain (b ∷ rest) host h e = found (host_of rest) (λ is. host_plain rest host h.1 is) e
  where
    here : (t : Bool) → (if t then Some rest else None) ≡ Some host → HasNoNul host
    here true is = let same : rest ≡ host = cc in subst (λ (z : List ℕ). HasNoNul z) same (All-from_recursion IsPlain rest h.1)
    here false is = absurd (cc)

    found : (o : Option (List ℕ)) → (o ≡ Some host → HasNoNul host) → option_or o (host_here b rest) ≡ Some host → HasNoNul host
    found (Some other) later is = later is
    found None later is = here (b == 64) is

domain_plain : (address : List ℕ) (o : Option (List ℕ)) → HasNoNul address → host_of address ≡ o → HasNoNul (unwrap_or o [])
domain_plain address None h e = All-nil IsPlain
domain_plain address (Some host) h e = host_plain address host (recursion_from_All IsPlain address h) e

-- the delivery of a request
abbrev MayHavePlain : Option Delivery → Type 0
MayHavePlain None = Unit {0}
MayHavePlain (Some delivery) = HasPlainWords delivery.words

module _ (r : Request) (h : HasPlainEnds r) where
  at_plain : (matched : ℕ) (o : Option Assignment) → MayHavePlain (delivery_at matched r o)
  at_plain matched None = tt
  at_plain matched (Some a) = record {
    local = All-take IsPlain (length r.recipient - (length (domain_of r.recipient) + 1)) r.recipient h.recipient;
    domain = domain_plain r.recipient (host_of r.recipient) h.recipient refl;
    sender = h.sender;
  }

  of_plain : (lines : List Assignment) (o : Option Found) → MayHavePlain (delivery_of lines r o)
  of_plain lines None = tt
  of_plain lines (Some found) = at_plain found.rest (slice_get lines found.line)

  for_plain : (users : Option (List Assignment)) → MayHavePlain (delivery_for users r)
  for_plain None = tt
  for_plain (Some lines) = of_plain lines (found_in lines (local_of r.recipient))

or_plain : (o : Option Delivery) (old : Delivery) → MayHavePlain o → HasPlainWords old.words → HasPlainWords (unwrap_or o old).words
or_plain None old o h = h
or_plain (Some delivery) old o h = o

-- A local spawner

record Keeps (p : Place) : Type 0 where
  ends : HasPlainEnds p.work.request
  words : HasPlainWords p.delivery.words

after_plain : (row : WorkRow) (p : Place) → Keeps p → HasPlainWords (delivery_after row p).words
after_plain (work.CloseMess fd true) p k = or_plain (delivery_for p.users p.work.request) p.delivery (for_plain p.work.request k.ends p.users) k.words
after_plain row p k = k.words

opens_plain : (told : Answer) (p : Place) → Keeps p → Keeps (users_opened_by told p)
opens_plain (answer.Opened fd) p k = record { ends = k.ends; words = k.words }
opens_plain (answer.Refused why.NotThere) p k = record { ends = k.ends; words = k.words }
opens_plain (answer.Refused why.Memory) p k = record { ends = k.ends; words = k.words }
opens_plain told p k = record { ends = k.ends; words = k.words }

users_opened_plain : (came : GotData) (p : Place) → Keeps p → Keeps (users_opened came p)
users_opened_plain (got.Answered told) p k = opens_plain told.answer p k
users_opened_plain came p k = record { ends = k.ends; words = k.words }

users_by_plain : (fd : Fd) (told : Answer) (bytes : List ℕ) (p : Place) → Keeps p → Keeps (users_read_by fd told bytes p)
users_by_plain fd (answer.Count count) bytes p k = record { ends = k.ends; words = k.words }
users_by_plain fd told bytes p k = record { ends = k.ends; words = k.words }

users_read_plain : (fd : Fd) (came : GotData) (p : Place) → Keeps p → Keeps (users_read fd came p)
users_read_plain fd (got.Answered told) p k = users_by_plain fd told.answer told.bytes p k
users_read_plain fd came p k = record { ends = k.ends; words = k.words }

users_closed_plain : (whole : Bool) (p : Place) → Keeps p → Keeps (users_closed whole p)
users_closed_plain true p k = record { ends = k.ends; words = k.words }
users_closed_plain false p k = record { ends = k.ends; words = k.words }

act_plain : (row : Row) (ready : Ready) (came : GotData) (p : Place) → Keeps p → Keeps (act row ready came p)
act_plain at.OpenUsers ready came p k = users_opened_plain came p k
act_plain (at.ReadUsers fd) ready came p k = users_read_plain fd came p k
act_plain (at.CloseUsers fd whole) ready came p k = users_closed_plain whole p k
act_plain at.Serves ready came p k = let row : WorkRow = row_now p.work ready in record { ends = work_plain p.users row came p.work k.ends; words = after_plain row p k }
act_plain at.OutOfMemory ready came p k = k

keeps : (past : List Own) → Keeps (place_after past)
keeps [] = record {
  ends = record { sender = All-nil IsPlain; recipient = All-nil IsPlain };
  words = record { local = All-nil IsPlain; domain = All-nil IsPlain; sender = All-nil IsPlain };
}
keeps (own ∷ before) = let p : Place = place_after before in act_plain p.row own.ready own.came p (keeps before)

-- after any past
pub words_plain : (past : List Own) → HasPlainWords (place_after past).delivery.words
words_plain past = (keeps past).words
