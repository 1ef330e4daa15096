-- How many slots each channel has.
use Rattle.std.proofs.Common.{◌≡◌, ℕ, suc, ◌+◌, min, List, [], ◌∷◌, ◌++◌, length, set, drop, cond, count_by, Bool, true, false, if◌then◌else◌, Option, Some, None, refl, sym, ap, ◌∙◌, subst, length-set}
use Rattle.std.specs.Prelude.{is_some}
use Rattle.std.proofs.lemmas.List.Sums.{sum_by-cons}
use Rattle.std.specs.Option.{option_map}
use Rattle.address_rules.specs.declared.control_file.ControlFile.{ControlFile}
use Rattle.address_rules.specs.declared.control_file.ControlFile.TheVariants as file
use Rattle.address_rules.specs.declared.controls.Controls.{Controls}
use Rattle.address_rules.specs.Files.{Fault, first_fault, place}
use Rattle.bounce_record.specs.Writing.{Writing}
use Rattle.call_fs.specs.Past.{IsRunBy}
use Rattle.call_fs.specs.Program.{MayCome}
use Rattle.call_fs.specs.declared.past.GotData.{GotData}
use Rattle.call_fs.specs.declared.past.GotData.TheVariants as came
use Rattle.call_fs.specs.declared.past.NeedData.{NeedData}
use Rattle.call_fs.specs.declared.past.NeedData.TheVariants as needs
use Rattle.call_fs.specs.declared.past.Own.{Own}
use Rattle.call_fs.specs.declared.program.Port.TheVariants as port
use Rattle.call_fs.specs.declared.program.Ready.{Ready}
use Rattle.send_core.proofs.Asked.{Facts, KnowsAt}
use Rattle.send_core.proofs.Changes.{Heard}
use Rattle.send_core.proofs.Lanes.{length_free}
use Rattle.send_core.proofs.Runs.{Was, all_kept, facts, frees, keeps}
use Rattle.send_core.proofs.Says.{arrive_says}
use Rattle.send_core.proofs.Standing.{FitAt, Half, arrives}
use Rattle.send_core.specs.Agrees.{task_of}
use Rattle.send_core.specs.Desk.{link, request_sent, stands_at, told, told_all, told_by, with_reader, with_requests}
use Rattle.send_core.specs.Papers.{Papers, controls_in, controls_told, papers_by}
use Rattle.send_core.specs.Papers.Papers.{Told}
use Rattle.send_core.specs.Past.{Account, Happening, Task, Work, account, account_by, first_of, happening, news, settle, settle_all, settle_by, took as took_by, work}
use Rattle.send_core.specs.Past.Happening.{Gives, GivesUp, Marks, Nothing, Reads as ReadsFile, Takes}
use Rattle.send_core.specs.Senders.{IsSaid}
use Rattle.send_core.specs.Start.{start_at}
use Rattle.send_core.specs.Table.{Next, act, arrive, place_after, due_at, from_point, row_now}
use Rattle.send_core.specs.Turn.{requested, took}
use Rattle.send_core.specs.declared.desk.Desk.{Desk}
use Rattle.send_parts.specs.declared.row.MarkRow.{MarkRow}
use Rattle.send_parts.specs.declared.row.MarkRow.TheVariants as mark
use Rattle.send_parts.specs.declared.row.Marked.{Marked}
use Rattle.send_parts.specs.declared.row.Point.TheVariants as point
use Rattle.send_parts.specs.declared.row.Row.{Row}
use Rattle.send_parts.specs.declared.row.Row.TheVariants as at
use Rattle.send_jobs.specs.declared.attempts.Attempt.{Attempt}
use Rattle.send_jobs.specs.declared.attempts.Mark.{Mark}
use Rattle.send_known.specs.declared.channel.Channel.{Channel}
use Rattle.send_known.specs.declared.channel.Channel.TheVariants.{Local, Remote}
use Rattle.send_jobs.specs.declared.slots.Slots.{Slots}
use Rattle.send_jobs.specs.declared.lane.Lane.{Lane}
use Rattle.send_jobs.specs.Lanes.{in_flight, next, numbered, reported, sent_in}
use Rattle.send_jobs.specs.Lines.{status_line}
use Rattle.send_log.specs.Lines.{status}
use Rattle.send_jobs.specs.Sending.{at_lane, lane, next_delivery, sent_as, sent_on}
use Rattle.send_jobs.specs.Slots.{attempt_in, lowest}
use Rattle.send_parts.specs.declared.reading.Progress.{Progress}
use Rattle.send_parts.specs.declared.reading.Progress.TheVariants.{Failed, Goes, Missing, Whole}
use Rattle.send_parts.specs.declared.reading.Reading.{Reading}
use Rattle.send_parts.specs.declared.reading.Reading.TheVariants.{Closing, Going, Opening, Shutting}
use Rattle.send_parts.specs.declared.reply.Way.{Way}
use Rattle.send_parts.specs.declared.reply.Way.TheVariants as way
use Rattle.send_parts.specs.declared.rows.StartRow.{StartRow}
use Rattle.send_parts.specs.declared.rows.StartRow.TheVariants as start
use Rattle.send_parts.specs.Readings.{read_on}
use Rattle.send_parts.specs.Replies.{Said, said}
use Rattle.send_parts.specs.Start.{control_read, filed, judged_by, start_failed}
use Rattle.send_parts.specs.declared.book.Book.{Book}
use Rattle.spawn_protocol.specs.declared.report.Report.{Report}
use Rattle.spawn_protocol.specs.Report.{read_on as reports_on}
use Rattle.send_runs.specs.Status.{allowed, flying, limit_by, status_of}
use Rattle.send_runs.proofs.Slots.{IsPlain, Same, of_row, of_settle}

-- How many are in flight

same_some : (s : Option Attempt) (t : Option Task) → option_map task_of s ≡ t → is_some s ≡ is_some t
same_some None t e = ap (λ (o : Option Task). is_some o) e
same_some (Some a) t e = ap (λ (o : Option Task). is_some o) e

pub flies_count : (slots : List (Option Attempt)) (of : ℕ → Option Task) → ((slot : ℕ) → option_map task_of (attempt_in slots slot) ≡ of slot) → count_by is_some slots ≡ flying (length slots) of
flies_count [] of h = refl
flies_count (s ∷ slots) of h =
    sum_by-cons (λ (x : Option Attempt). cond (is_some x) 1 0) s slots
    ∙ ap (λ (b : Bool). cond b 1 0 + count_by is_some slots) (same_some s (of 0) (h 0))
    ∙ ap (λ (k : ℕ). cond (is_some (of 0)) 1 0 + k) (flies_count slots (λ slot. of (suc slot)) (λ slot. h (suc slot)))

-- What a channel's account keeps

settled_limit : (o : Option Task) (r : Report) (a : Account) → (settle_by o r a).limit ≡ a.limit
settled_limit None r a = refl
settled_limit (Some t) r a = refl

all_limit : (rs : List Report) (a : Account) → (settle_all rs a).limit ≡ a.limit
all_limit [] a = refl
all_limit (r ∷ rs) a = all_limit rs (settle r a) ∙ settled_limit (a.in_flight r.slot) r a

settled_heard : (o : Option Task) (r : Report) (a : Account) → (settle_by o r a).heard ≡ a.heard
settled_heard None r a = refl
settled_heard (Some t) r a = refl

all_heard : (rs : List Report) (a : Account) → (settle_all rs a).heard ≡ a.heard
all_heard [] a = refl
all_heard (r ∷ rs) a = all_heard rs (settle r a) ∙ settled_heard (a.in_flight r.slot) r a

-- once something was taken of its spawner
abbrev Steadies : Account → Account → Type 0
Steadies a b = (b.limit ≡ a.limit) × Heard b.heard

took_steadies : (o : Option (List ℕ)) (bytes : List ℕ) (a : Account) → Heard o → Steadies a (took_by o bytes a)
took_steadies None bytes a h = absurd h
took_steadies (Some before) bytes a h =
    let b : Account = record a { heard = Some (before ++ bytes) } in
    (all_limit (news before bytes) b, subst Heard (sym (all_heard (news before bytes) b)) tt)

steadies : (h : Happening) (a : Account) → Heard a.heard → Steadies a (account_by h a)
steadies Nothing a some = (refl, some)
steadies (Takes bytes) a some = took_steadies a.heard bytes a some
steadies (Gives slot) a some = (refl, some)
steadies (ReadsFile tasks) a some = (refl, some)
steadies Marks a some = (refl, some)
steadies GivesUp a some = (refl, some)

-- The lengths

module _ (limit : Channel → ℕ) where
  abbrev pub Long : Slots → Type 0
  Long s = (length s.local.slots ≡ limit Local) × (length s.remote.slots ≡ limit Remote)

  long_same : (s t : Slots) → Same s t → Long s → Long t
  long_same s t same h = (ap (λ (xs : List (Option Attempt)). length xs) same.1 ∙ h.0, ap (λ (xs : List (Option Attempt)). length xs) same.2 ∙ h.1)

  pub long_reported : (c : Channel) (slot : ℕ) (s : Slots) → Long s → Long (at_lane c (reported slot) s)
  long_reported Local slot s h = (length-set s.local.slots slot None ∙ h.0, h.1)
  long_reported Remote slot s h = (h.0, length-set s.remote.slots slot None ∙ h.1)

  pub long_told : (c : Channel) (r : Report) (o : Option Attempt) (d : Desk) → Long d.slots → Long (told_by o c r d).slots
  long_told c r None d h = h
  long_told c r (Some x) d h =
      let after : Desk = record d { slots = at_lane c (reported r.slot) d.slots } in
      long_same after.slots (told_by (Some x) c r d).slots (of_settle after.slots r c x after (refl, refl, refl)) (long_reported c r.slot d.slots h)

  long_all : (c : Channel) (rs : List Report) (d : Desk) → Long d.slots → Long (told_all c rs d).slots
  long_all c [] d h = h
  long_all c (r ∷ rs) d h = long_all c rs (told c r d) (long_told c r (attempt_in (lane c d.slots).slots r.slot) d h)

  long_took : (w : Way) (bytes : List ℕ) (c : Channel) (d : Desk) → Long d.slots → Long (took w bytes c d).slots
  long_took way.Fine bytes Local d h = long_all Local (reports_on d.local.reader bytes).0 (with_reader Local (reports_on d.local.reader bytes).1 d) h
  long_took way.Fine bytes Remote d h = long_all Remote (reports_on d.remote.reader bytes).0 (with_reader Remote (reports_on d.remote.reader bytes).1 d) h
  long_took way.Over bytes c d h = h
  long_took way.Absent bytes c d h = h
  long_took way.NoMemory bytes c d h = h
  long_took way.Broken bytes c d h = h

  long_lane : (o : Option ℕ) (x : Option Attempt) (k : ℕ) (l : Lane) → length (sent_in o x k l).slots ≡ length l.slots
  long_lane None x k l = refl
  long_lane (Some slot) None k l = refl
  long_lane (Some slot) (Some x) k l = length-set l.slots slot (Some (numbered k x))

  long_sent : (o : Option ℕ) (c : Channel) (k : ℕ) (s : Slots) → Long s → Long (sent_as o c k s)
  long_sent None c k s h = h
  long_sent (Some slot) Local k s h = (long_lane (lowest s.local.slots) (next s.local) k s.local ∙ h.0, h.1)
  long_sent (Some slot) Remote k s h = (h.0, long_lane (lowest s.remote.slots) (next s.remote) k s.remote ∙ h.1)

  long_if : (b : Bool) (x y : Desk) → Long x.slots → Long y.slots → Long (if b then x else y).slots
  long_if true x y p q = p
  long_if false x y p q = q

  long_given : (c : Channel) (d : Desk) → Long d.slots → Long (request_sent c (stands_at d (point.Pass c false))).slots
  long_given Local d h =
      let before : Desk = stands_at d (point.Pass Local false) in
      long_if (is_some (next (lane Local d.slots))) (with_requests Local (drop 1 (link Local d).requests) (record before { slots = sent_on Local d.slots })) before
      (long_sent (lowest d.slots.local.slots) Local (next_delivery d.slots) d.slots h) h
  long_given Remote d h =
      let before : Desk = stands_at d (point.Pass Remote false) in
      long_if (is_some (next (lane Remote d.slots))) (with_requests Remote (drop 1 (link Remote d).requests) (record before { slots = sent_on Remote d.slots })) before
      (long_sent (lowest d.slots.remote.slots) Remote (next_delivery d.slots) d.slots h) h

  long_requested : (w : Way) (c : Channel) (d : Desk) → Long d.slots → Long (requested w c d).slots
  long_requested way.Fine c d h = long_given c d h
  long_requested way.Over c d h = h
  long_requested way.Absent c d h = h
  long_requested way.NoMemory c d h = h
  long_requested way.Broken c d h = h

-- What is in flight on both channels, and how much may be

abbrev pub AllFly : (Channel → Account) → Slots → Type 0
AllFly a s = (e : Channel) (slot : ℕ) → option_map task_of (attempt_in (lane e s).slots slot) ≡ (a e).in_flight slot

pub status_is : (limit : Channel → ℕ) (a : Channel → Account) (s : Slots) → AllFly a s → Long limit s → status_line s ≡ status_of limit a
status_is limit a s h long =
    let local : in_flight s.local ≡ flying (limit Local) (a Local).in_flight = flies_count s.local.slots (a Local).in_flight (h Local) ∙ ap (λ (k : ℕ). flying k (a Local).in_flight) long.0 in
    let remote : in_flight s.remote ≡ flying (limit Remote) (a Remote).in_flight = flies_count s.remote.slots (a Remote).in_flight (h Remote) ∙ ap (λ (k : ℕ). flying k (a Remote).in_flight) long.1 in
    ap (λ (k : ℕ). status k (length s.local.slots) (in_flight s.remote) (length s.remote.slots)) local
    ∙ ap (λ (k : ℕ). status (flying (limit Local) (a Local).in_flight) k (in_flight s.remote) (length s.remote.slots)) long.0
    ∙ ap (λ (k : ℕ). status (flying (limit Local) (a Local).in_flight) (limit Local) k (length s.remote.slots)) remote
    ∙ ap (λ (k : ℕ). status (flying (limit Local) (a Local).in_flight) (limit Local) (flying (limit Remote) (a Remote).in_flight) k) long.1

-- At each row: so many slots as the accounts and the controls say, once the spawners' first bytes were taken

abbrev pub LimitsBy : (Channel → Account) → Controls → Row → Slots → Type 0
LimitsBy a k (at.Start (start.Control f g)) s = Unit {0}
LimitsBy a k (at.Start start.GreetLocal) s = Unit {0}
LimitsBy a k (at.Start (start.GreetRemote limit)) s = limit ≡ min (a Local).limit k.concurrency_local
LimitsBy a k (at.Ended status) s = Unit {0}
LimitsBy a k row s = Long (λ c. limit_by c (a c) k) s

-- nothing was taken of the remote spawner while its first byte is awaited
abbrev Greets : Row → (Channel → Account) → Type 0
Greets (at.Start (start.GreetRemote limit)) a = (a Remote).heard ≡ None
Greets row a = Unit {0}

long_at : (b : Channel → Account) (k : Controls) (to : Row) (s : Slots) → Heard (b Remote).heard → Greets to b → Long (λ c. limit_by c (b c) k) s → LimitsBy b k to s
long_at b k (at.Start (start.Control f g)) s some greets h = tt
long_at b k (at.Start start.GreetLocal) s some greets h = tt
long_at b k (at.Start (start.GreetRemote limit)) s some greets h = absurd (subst Heard greets some)
long_at b k (at.Ended status) s some greets h = tt
long_at b k row s some greets h = h

fit_greets : (P : MarkRow → Option Mark → Marked → Writing → Type 0) (f : Option Work) (a : Channel → Account) (row : Row) (d : Desk) → FitAt P f (a Local) (a Remote) row d → Greets row a
fit_greets P f a (at.Start (start.GreetRemote limit)) d h = h.0.3
fit_greets P f a row d h = tt

-- the control files come first
abbrev pub IsEarly : StartRow → Type 0
IsEarly (start.Control f g) = Unit {0}
IsEarly start.GreetLocal = Unit {0}
IsEarly (start.Ended status) = Unit {0}
IsEarly row = ⊥

early_failed : (w : Way) → IsEarly (start_failed w)
early_failed way.NoMemory = tt
early_failed w = tt

early_judged : (o : Option Fault) (b : Book) → IsEarly (judged_by o b).row
early_judged None b = tt
early_judged (Some fault) b = tt

early_filed : (content : Option (List ℕ)) (f : ControlFile) (b : Book) → IsEarly (filed content f b).row
early_filed content file.QueueLifetime b = let all : List (Option (List ℕ)) = set b.files (place file.QueueLifetime) content in early_judged (first_fault all) (record b { files = all })
early_filed content file.Me b = tt
early_filed content file.Locals b = tt
early_filed content file.PercentHack b = tt
early_filed content file.VirtualDomains b = tt
early_filed content file.EnvNoAtHost b = tt
early_filed content file.BounceFrom b = tt
early_filed content file.BounceHost b = tt
early_filed content file.DoubleBounceTo b = tt
early_filed content file.DoubleBounceHost b = tt
early_filed content file.ConcurrencyLocal b = tt
early_filed content file.ConcurrencyRemote b = tt

pub early_control : (x : Progress) (f : ControlFile) (g : Reading) (s : Said) (b : Book) → IsEarly (control_read x f g s b).row
early_control (Goes Opening) f g s b = tt
early_control (Goes (Going fd)) f g s b = tt
early_control (Goes (Closing fd)) f g s b = tt
early_control (Goes (Shutting fd)) f g s b = early_failed s.way
early_control Whole f g s b = early_filed (Some b.read) f b
early_control Missing f g s b = early_filed None f b
early_control Failed f g s b = early_failed s.way

early_at : (b : Channel → Account) (k : Controls) (row : StartRow) (s : Slots) → IsEarly row → LimitsBy b k (start_at row) s
early_at b k (start.Control f g) s is = tt
early_at b k start.GreetLocal s is = tt
early_at b k (start.Ended status) s is = tt
early_at b k row s is = absurd is

-- A step

greeted : (o : Option (List ℕ)) (bytes : List ℕ) (x : Account) → o ≡ None → (took_by o bytes x).limit ≡ first_of bytes
greeted o bytes x e = ap (λ (p : Option (List ℕ)). (took_by p bytes x).limit) e

module _ (S : ℕ → List ℕ → Type 0) (t : Facts) (now : ℕ) (P : MarkRow → Option Mark → Marked → Writing → Type 0) (f : Option Work) (a : Channel → Account) (d : Desk) where
  abbrev Later : NeedData → GotData → Channel → Account
  Later due got c = account_by (happening due got f (a Local).to_mark c) (a c)

  abbrev Says : NeedData → GotData → Controls
  Says due got = controls_in (papers_by t.papers due got)

  abbrev Lands : NeedData → GotData → Desk → Type 0
  Lands due got e = Greets e.row (Later due got) → LimitsBy (Later due got) (Says due got) e.row e.slots

  abbrev To : Row → GotData → Type 0
  To row got = Lands (due_at row d) got (act row now got d)

  -- what the control files say is known
  abbrev Knows : Type 0
  Knows = t.papers ≡ Told d.book.controls

  told_so : (due : NeedData) (got : GotData) → Knows → Says due got ≡ d.book.controls
  told_so due got e = ap (λ (x : Papers). controls_in (papers_by x due got)) e

  now_so : Knows → controls_in t.papers ≡ d.book.controls
  now_so e = ap (λ (x : Papers). controls_in x) e

  -- and both spawners were heard
  abbrev Hears : Type 0
  Hears = Heard (a Local).heard × Heard (a Remote).heard

  same_limit : (due : NeedData) (got : GotData) (c : Channel) → Knows → Heard (a c).heard → limit_by c (a c) (controls_in t.papers) ≡ limit_by c (Later due got c) (Says due got)
  same_limit due got c e some =
      ap (λ (x : ℕ). min (min x (allowed c (controls_in t.papers))) 120) (sym (steadies (happening due got f (a Local).to_mark c) (a c) some).0)
      ∙ ap (λ (k : Controls). min (min (Later due got c).limit (allowed c k)) 120) (now_so e ∙ sym (told_so due got e))

  rests : (due : NeedData) (got : GotData) (e : Desk) → Knows → Hears → Long (λ c. limit_by c (a c) (controls_in t.papers)) e.slots → Lands due got e
  rests due got e papers some h greets =
      long_at (Later due got) (Says due got) e.row e.slots (steadies (happening due got f (a Local).to_mark Remote) (a Remote) some.1).1 greets
      (h.0 ∙ same_limit due got Local papers some.0, h.1 ∙ same_limit due got Remote papers some.1)

  -- of the rows that leave the slots
  plain : (row : Row) (got : GotData) → IsPlain row → Knows → Hears → Long (λ c. limit_by c (a c) (controls_in t.papers)) d.slots → To row got
  plain row got is papers some h =
      rests (due_at row d) got (act row now got d) papers some
      (long_same (λ c. limit_by c (a c) (controls_in t.papers)) d.slots (act row now got d).slots (of_row d.slots row now got d is (refl, refl, refl)) h)

  half_hears : (c : Channel) → Half P f (a Local) (a Remote) c d.slots d.local d.remote → Hears
  half_hears Local h = (h.0.2, h.0.3)
  half_hears Remote h = (h.0.2, h.0.3)

  mark_hears : (row : MarkRow) (m : Marked) → FitAt P f (a Local) (a Remote) (at.Mark row m) d → Hears
  mark_hears mark.Note m h = (h.0.0.2, h.0.0.3)
  mark_hears mark.Noting m h = (h.0.2, h.0.3)
  mark_hears mark.Open m h = (h.0.0.2, h.0.0.3)
  mark_hears (mark.Write fd) m h = half_hears m.channel h.0
  mark_hears (mark.Close fd done) m h = half_hears m.channel h

  -- the spawners' first bytes

  greet_local : (got : GotData) → MayCome (needs.Take port.Lspawn) got → (a Local).heard ≡ None → Knows → To (at.Start start.GreetLocal) got
  greet_local (came.Took (byte ∷ rest)) may none papers greets =
      ap (λ (x : ℕ). min x d.book.controls.concurrency_local) (sym (greeted (a Local).heard (byte ∷ rest) (a Local) none))
      ∙ ap (λ (k : Controls). min (took_by (a Local).heard (byte ∷ rest) (a Local)).limit k.concurrency_local) (sym (told_so (needs.Take port.Lspawn) (came.Took (byte ∷ rest)) papers))
  greet_local (came.Took []) may none papers greets = tt
  greet_local came.End may none papers greets = tt
  greet_local came.Failed may none papers greets = tt
  greet_local got may none papers greets = absurd may

  greet_remote : (limit : ℕ) (got : GotData) → MayCome (needs.Take port.Rspawn) got → (a Remote).heard ≡ None → Knows → limit ≡ min (a Local).limit (controls_in t.papers).concurrency_local
      → To (at.Start (start.GreetRemote limit)) got
  greet_remote limit (came.Took (byte ∷ rest)) may none papers is greets = (
    length_free (min limit 120)
        ∙ ap (λ (x : ℕ). min x 120) is
        ∙ ap (λ (k : Controls). min (min (a Local).limit k.concurrency_local) 120) (now_so papers ∙ sym (told_so (needs.Take port.Rspawn) (came.Took (byte ∷ rest)) papers)),
    length_free (min (min byte d.book.controls.concurrency_remote) 120)
        ∙ ap (λ (x : ℕ). min (min x d.book.controls.concurrency_remote) 120) (sym (greeted (a Remote).heard (byte ∷ rest) (a Remote) none))
        ∙ ap (λ (k : Controls). min (min (took_by (a Remote).heard (byte ∷ rest) (a Remote)).limit k.concurrency_remote) 120) (sym (told_so (needs.Take port.Rspawn) (came.Took (byte ∷ rest)) papers)),
  )
  greet_remote limit (came.Took []) may none papers is greets = tt
  greet_remote limit came.End may none papers is greets = tt
  greet_remote limit came.Failed may none papers is greets = tt
  greet_remote limit got may none papers is greets = absurd may

  start_limits : (row : StartRow) (got : GotData) → MayCome (due_at (at.Start row) d) got → FitAt P f (a Local) (a Remote) (at.Start row) d → KnowsAt S t (at.Start row) d
      → LimitsBy a (controls_in t.papers) (at.Start row) d.slots → To (at.Start row) got
  start_limits (start.Control file g) got may fit says h = λ greets.
      early_at (Later (due_at (at.Start (start.Control file g)) d) got) (Says (due_at (at.Start (start.Control file g)) d) got) (control_read (read_on g (said got)) file g (said got) d.book).row
      (act (at.Start (start.Control file g)) now got d).slots (early_control (read_on g (said got)) file g (said got) d.book)
  start_limits start.GreetLocal got may fit says h = greet_local got may fit.1 says.0.3
  start_limits (start.GreetRemote limit) got may fit says h = greet_remote limit got may fit.0.3 says.0.3 h
  start_limits (start.Scan split) got may fit says h = plain (at.Start (start.Scan split)) got tt says.0.3 (fit.0.2, fit.0.3) h
  start_limits (start.StatTodo split n) got may fit says h = plain (at.Start (start.StatTodo split n)) got tt says.0.3 (fit.0.2, fit.0.3) h
  start_limits (start.ReadInfo split n g) got may fit says h = plain (at.Start (start.ReadInfo split n g)) got tt says.0.3 (fit.0.2, fit.0.3) h
  start_limits (start.StatInfo split n) got may fit says h = plain (at.Start (start.StatInfo split n)) got tt says.0.3 (fit.0.2, fit.0.3) h
  start_limits (start.StatLocal split n birth) got may fit says h = plain (at.Start (start.StatLocal split n birth)) got tt says.0.3 (fit.0.2, fit.0.3) h
  start_limits (start.StatRemote split n birth local) got may fit says h = plain (at.Start (start.StatRemote split n birth local)) got tt says.0.3 (fit.0.2, fit.0.3) h
  start_limits start.Over got may fit says h = plain (at.Start start.Over) got tt says.0.3 (fit.0.2, fit.0.3) h
  start_limits (start.Ended status) got may fit says h = plain (at.Start (start.Ended status)) got tt says.0.3 (fit.0.2, fit.0.3) h

  row_limits : (row : Row) (got : GotData) → MayCome (due_at row d) got → FitAt P f (a Local) (a Remote) row d → KnowsAt S t row d → LimitsBy a (controls_in t.papers) row d.slots → To row got
  row_limits (at.Start row) got may fit says h = start_limits row got may fit says h
  row_limits (at.Turn p) got may fit says h = absurd may
  row_limits (at.TakeLink c) got may fit says h =
      rests (due_at (at.TakeLink c) d) got (act (at.TakeLink c) now got d) says.0.3 (fit.0.2, fit.0.3) (long_took (λ e. limit_by e (a e) (controls_in t.papers)) (said got).way (said got).bytes c d h)
  row_limits (at.Mark row m) got may fit says h = plain (at.Mark row m) got tt says.0.3 (mark_hears row m fit) h
  row_limits (at.UnlinkFile c n p) got may fit says h = plain (at.UnlinkFile c n p) got tt says.0.3 (fit.0.2, fit.0.3) h
  row_limits (at.ReadFile c n begun reading) got may fit says h = plain (at.ReadFile c n begun reading) got tt says.0.3 (fit.0.2, fit.0.3) h
  row_limits (at.Request c) got may fit says h =
      rests (due_at (at.Request c) d) got (act (at.Request c) now got d) says.0.3 (fit.0.0.2, fit.0.0.3) (long_requested (λ e. limit_by e (a e) (controls_in t.papers)) (said got).way c d h)
  row_limits (at.FindTodo search) got may fit says h = plain (at.FindTodo search) got tt says.0.3 (fit.0.2, fit.0.3) h
  row_limits at.InTodo got may fit says h = plain at.InTodo got tt says.0.3 (fit.0.2, fit.0.3) h
  row_limits (at.Finish row n) got may fit says h = plain (at.Finish row n) got tt says.0.3 (fit.0.2, fit.0.3) h
  row_limits (at.Sweep row) got may fit says h = plain (at.Sweep row) got tt says.0.3 (fit.0.2, fit.0.3) h
  row_limits (at.Ended status) got may fit says h = absurd may

-- a row between two steps rests

arrives_limits : (P : MarkRow → Option Mark → Marked → Writing → Type 0) (f : Option Work) (a : Channel → Account) (k : Controls) (row to : Row) (d e : Desk) → Heard (a Remote).heard → FitAt P f (a Local) (a Remote) to e
    → Long (λ c. limit_by c (a c) k) e.slots → LimitsBy a k to e.slots
arrives_limits P f a k row to d e some fit h = long_at a k to e.slots some (fit_greets P f a to e fit) h

arrived_limits : (P : MarkRow → Option Mark → Marked → Writing → Type 0) (f : Option Work) (a : Channel → Account) (k : Controls) (row : Row) (d : Desk) (now : ℕ) (ready : Ready) → FitAt P f (a Local) (a Remote) row d
    → FitAt P f (a Local) (a Remote) (arrive row d now ready) d → LimitsBy a k row d.slots → LimitsBy a k (arrive row d now ready) d.slots
arrived_limits P f a k (at.Turn p) d now ready was fit h = arrives_limits P f a k (at.Turn p) (from_point p d now ready) d d was.0.3 fit h
arrived_limits P f a k row d now ready was fit h = h

pub limits_kept : (turns : Option ℕ) (past : List Own) → IsRunBy (Next turns) past → LimitsBy (λ c. account c past) (controls_told past) (place_after turns past).row (place_after turns past).slots
limits_kept turns [] run = tt
limits_kept turns (event ∷ before) run =
    let past : List Own = event ∷ before in
    let a : Channel → Account = (λ c. account c before) in
    let d : Desk = place_after turns before in
    let row : Row = row_now d event.read event.ready in
    let may : MayCome (due_at row d) event.came = subst (λ (x : NeedData). MayCome x event.came) (sym run.1.0) run.1.1 in
    let was = (keeps turns before run.0).0 in
    let fit = arrives (Was before) (work before) (account Local before) (account Remote before) (frees before) d.row d event.read event.ready was in
    let says : KnowsAt (IsSaid before) (facts before) row d = arrive_says (IsSaid before) (facts before) d event.read event.ready d.row (all_kept turns before run.0).1 in
    let h : LimitsBy a (controls_told before) row d.slots = arrived_limits (Was before) (work before) a (controls_told before) d.row d event.read event.ready was fit (limits_kept turns before run.0) in
    let e : Desk = place_after turns past in
    subst (λ (due : NeedData). Lands (IsSaid before) (facts before) event.read (Was before) (work before) a d due event.came (act row event.read event.came d)) run.1.0
    (row_limits (IsSaid before) (facts before) event.read (Was before) (work before) a d row event.came may fit says h)
    (fit_greets (Was past) (work past) (λ c. account c past) e.row e (keeps turns past run).0)

-- so it is where the next event begins
pub limits_here : (turns : Option ℕ) (past : List Own) (now : ℕ) (ready : Ready) → IsRunBy (Next turns) past → LimitsBy (λ c. account c past) (controls_told past) (row_now (place_after turns past) now ready) (place_after turns past).slots
limits_here turns past now ready run =
    let d : Desk = place_after turns past in
    let was = (keeps turns past run).0 in
    let fit = arrives (Was past) (work past) (account Local past) (account Remote past) (frees past) d.row d now ready was in
    arrived_limits (Was past) (work past) (λ c. account c past) (controls_told past) d.row d now ready was fit (limits_kept turns past run)
