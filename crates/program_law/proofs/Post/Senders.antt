-- An event of the sender that is due.
use Rattle.std.proofs.Common.{◌≡◌, ◌≢◌, ◌⊎◌, inl, inr, ℕ, ◌+◌, ◌≤◌, List, [], ◌∷◌, ◌++◌, length, take, drop, set, replicate, min, Bool, true, false, if◌then◌else◌, Option, Some, None, refl, sym, ap, ◌∙◌, subst, ⊎_elim}
use Rattle.std.specs.Prelude.{is_some, nat_lt}
use Rattle.std.proofs.lemmas.Bool.{cases_eq, cases_lt}
use Rattle.std.proofs.lemmas.List.{get_or-replicate, get_or-set_other, get_or_past, length-replicate}
use Rattle.address_rules.specs.declared.control_file.ControlFile.{ControlFile}
use Rattle.address_rules.specs.Files.{Fault, first_fault, place}
use Rattle.call_fs.specs.declared.past.GotData.{GotData}
use Rattle.call_fs.specs.declared.past.GotData.TheVariants as came
use Rattle.call_fs.specs.declared.past.NeedData.{NeedData}
use Rattle.call_fs.specs.declared.past.NeedData.TheVariants as needs
use Rattle.call_fs.specs.declared.program.Port.TheVariants as port
use Rattle.call_fs.specs.declared.program.Ready.{Ready}
use Rattle.call_fs.specs.Maps.{put}
use Rattle.call_fs.proofs.Maps.{put_other}
use Rattle.call_fs.specs.Program.{MayCome}
use Rattle.send_core.specs.declared.desk.Desk.{Desk}
use Rattle.send_parts.specs.declared.row.Point.TheVariants as point
use Rattle.send_parts.specs.declared.row.Row.{Row}
use Rattle.send_parts.specs.declared.row.Row.TheVariants as at
use Rattle.send_core.specs.Desk.{goes, heard, link, ready, request_sent, stands_at, with_requests}
use Rattle.send_core.specs.Start.{start_at, started}
use Rattle.send_core.specs.Table.{act, arrive, begun, busy, due_at, moved, moved_by, port_of, row_now}
use Rattle.send_core.specs.Turn.{after_take, lost}
use Rattle.send_jobs.specs.declared.attempts.Attempt.{Attempt}
use Rattle.send_known.specs.declared.channel.Channel.{Channel}
use Rattle.send_known.specs.declared.channel.Channel.TheVariants.{Local, Remote}
use Rattle.send_jobs.specs.declared.lane.Lane.{Lane}
use Rattle.send_jobs.specs.declared.slots.Slots.{Slots}
use Rattle.send_jobs.specs.Lanes.{next, numbered, sent_in}
use Rattle.send_jobs.specs.Sending.{lane, next_delivery, none_out, sent_as, sent_on}
use Rattle.send_jobs.specs.Slots.{attempt_in, lowest}
use Rattle.send_parts.specs.declared.book.Book.{Book}
use Rattle.send_parts.specs.declared.reading.Progress.{Progress}
use Rattle.send_parts.specs.declared.reading.Progress.TheVariants.{Failed, Goes as GoesTo, Missing, Whole}
use Rattle.send_parts.specs.declared.reading.Reading.{Reading}
use Rattle.send_parts.specs.declared.reading.Reading.TheVariants.{Closing, Going, Opening, Shutting}
use Rattle.send_parts.specs.declared.reply.Way.{Way}
use Rattle.send_parts.specs.declared.reply.Way.TheVariants as way
use Rattle.send_parts.specs.declared.rows.StartRow.{StartRow}
use Rattle.send_parts.specs.declared.rows.StartRow.TheVariants as start
use Rattle.send_parts.specs.Files.{is_info, number_below}
use Rattle.send_parts.specs.Readings.{read_on}
use Rattle.send_parts.specs.Replies.{Said, said}
use Rattle.send_links.specs.Requests.{first_text}
use Rattle.send_parts.specs.Start.{act_start, by_way, control_read, file_after, info_read, info_row, judged_by, next_file, remote_limit, remote_stated, scan_row, scanned, start_failed}
use Rattle.spawn_protocol.specs.declared.report.Report.{Report}
use Rattle.spawn_protocol.specs.declared.request.Request.{Request}
use Rattle.spawn_protocol.specs.Report.{Reader, read_on as reads}
use Rattle.spawn_protocol.specs.Report.Reader.{AtBegin}
use Rattle.spawn_protocol.specs.Request.{request_text}
use Rattle.spawner_parts.specs.declared.place.Place.{Place}
use Rattle.spawner_parts.specs.Counts.{asked}
use Rattle.program_law.specs.Post.Laws.{request_for}
use Rattle.program_law.specs.Post.Posts.{Fares, Post, Posted, busy as at_work, channel_of, freed, freed_all, goes_at, most, reports_by, told_of, work_of}
use Rattle.program_law.specs.Post.Senders.{AsksFor, AsksInLowest, FliesInLowest, IsFirst, IsLate, IsQuiet, IsSome, SendersKeep, asked_on, heard_at, heard_in, is_early, is_on, told_on, with_desk}
use Rattle.program_law.proofs.Post.Asks.{asks_keep, greets_keep, lost as lost_posted, slots_keep, untold, waits_left}
use Rattle.program_law.proofs.Post.Aways.{IsAway, away_asked, away_told, control_away, row_away, start_away}
use Rattle.program_law.proofs.Post.Desks.{desks_tell, was_in}
use Rattle.program_law.proofs.Post.Frames.{most_few}
use Rattle.program_law.proofs.Post.Hears.{hears_keep}
use Rattle.program_law.proofs.Post.Leaves.{Goes, Halves, IsStill, Same, act_goes, readied}
use Rattle.program_law.proofs.Post.Plains.{requests_are_plain}
use Rattle.program_law.proofs.Post.TakesIn.{drop_past}

-- The half by its desk

slots_on : (c : Channel) (d e : Desk) → Same d e → (lane c e.slots).slots ≡ (lane c d.slots).slots
slots_on Local d e s = ap (λ (h : Halves). h.local_slots) s
slots_on Remote d e s = ap (λ (h : Halves). h.remote_slots) s

reader_on : (c : Channel) (d e : Desk) → Same d e → (link c e).reader ≡ (link c d).reader
reader_on Local d e s = ap (λ (h : Halves). h.local_reader) s
reader_on Remote d e s = ap (λ (h : Halves). h.remote_reader) s

late_in : (row : StartRow) (c : Channel) (reader : Reader) → is_early row ≡ false → heard_in row c reader ≡ Some reader
late_in (start.Control f reading) c reader late = absurd (cc)
late_in start.GreetLocal c reader late = absurd (cc)
late_in (start.GreetRemote limit) c reader late = absurd (cc)
late_in row c reader late = refl

late_heard : (row : Row) (c : Channel) (reader : Reader) → IsLate row → heard_at row c reader ≡ Some reader
late_heard (at.Start row) c reader late = late_in row c reader late
late_heard row c reader late = refl

late_first : (row : Row) (d : Desk) → IsLate row → IsFirst row d
late_first (at.Start row) d late = λ early. absurd (cc)
late_first row d late = tt

quiet_on : (d e : Desk) → Same d e → IsQuiet d → IsQuiet e
quiet_on d e s q = record {
  free = λ c slot. ap (λ (slots : List (Option Attempt)). attempt_in slots slot) (slots_on c d e s) ∙ q.free c slot;
  unread = λ c. reader_on c d e s ∙ q.unread c;
}

-- A sender that is gone

gone_fares : (c : Channel) (p : Place) (x : Post) (holds : Option Reader) (told : List ℕ) (slots : List (Option Attempt)) → Fares c p x
    → Fares c p (record x { lives = false; heard = holds; told = told; slots = slots })
gone_fares c p x holds told slots F = record {
  waits = F.waits;
  asks = waits_left (goes_at x.serves p.row) p.inbox.intake x.lives p.inbox.ahead x.asked F.waits F.asks;
  lasts = F.lasts;
  stands = F.stands;
  run = F.run;
  tells = λ lives. absurd (cc);
  well = tt;
  once = λ slot. untold (asked slot F.waits) (at_work (goes_at x.serves p.row) p.row p slot) (told_of slot (reports_by x.lives x.heard x.told)) (most x.lives x.heard (attempt_in x.slots slot))
      (F.once slot) (most_few x.lives x.heard (attempt_in x.slots slot));
  flies = λ lives slot a is. absurd (cc);
}

gone_posted : (x : Post) (holds : Option Reader) (told : List ℕ) (slots : List (Option Attempt)) → Posted x → Posted (record x { lives = false; heard = holds; told = told; slots = slots })
gone_posted x holds told slots P = record { fares = gone_fares (channel_of x.spawner) (work_of x.spawner) x holds told slots P.fares; starts = P.starts }

lives_by : (b : Bool) (x : Post) → Posted x → x.lives ≡ true → Posted (record x { lives = b })
lives_by true x P on = let same : x ≡ record x { lives = true } = λ i. record x { lives = on i } in subst Posted same P
lives_by false x P on = lost_posted x P

-- What an event leads to

pub record Then (c : Channel) (d e : Desk) (due : NeedData) (got : GotData) (wrote : ℕ) (x : Post) : Type 0 where
  pub last : ℕ → Option Request
  pub keeps : Posted (with_desk c e (record x { asked = asked_on c due got wrote x.asked; told = told_on c due got x.told; last = last }))
  pub first : IsFirst e.row e
  pub asks : AsksInLowest (lane c d.slots).slots x.last last
  pub flies : is_on e.row ≡ true → FliesInLowest (lane c d.slots).slots (lane c e.slots).slots

-- What is in flight was so before: the slots are the same; reports were taken; or nothing is

same_fly : (before slots : List (Option Attempt)) → slots ≡ before → FliesInLowest before slots
same_fly before slots same slot a is = inl (ap (λ (s : List (Option Attempt)). attempt_in s slot) (sym same) ∙ is)

was_among : (rs : List Report) (slots : List (Option Attempt)) (k : ℕ) (a : Attempt) → attempt_in (freed_all rs slots) k ≡ Some a → attempt_in slots k ≡ Some a
was_among [] slots k a is = is
was_among (r ∷ rs) slots k a is = was_in slots r k a (was_among rs (freed r slots) k a is)

freed_fly : (rs : List Report) (before slots : List (Option Attempt)) → freed_all rs before ≡ slots → FliesInLowest before slots
freed_fly rs before slots same slot a is = inl (was_among rs before slot a (ap (λ (s : List (Option Attempt)). attempt_in s slot) same ∙ is))

no_attempt : (n slot : ℕ) → attempt_in (replicate n None) slot ≡ None
no_attempt n slot = ⊎_elim
    (λ lt. get_or-replicate n slot None None lt)
    (λ past. get_or_past (replicate n None) slot None (subst (λ k. k ≤ slot) (sym (length-replicate n None)) past))
    (cases_lt slot n)

none_fly : (before : List (Option Attempt)) (n : ℕ) → FliesInLowest before (replicate n None)
none_fly before n slot a is = let both : ◌≡◌ {A = Option Attempt} None (Some a) = sym (no_attempt n slot) ∙ is in absurd (cc)

-- or a request was given, for the lowest free slot
given_flies : (before : List (Option Attempt)) (low : ℕ) (b : Attempt) → lowest before ≡ Some low → FliesInLowest before (set before low (Some b))
given_flies before low b free slot a is = ⊎_elim
    (λ (e : slot ≡ low). inr (free ∙ ap Some (sym e)))
    (λ (apart : slot ≢ low). inl (sym (get_or-set_other before low slot (Some b) None apart) ∙ is))
    (cases_eq slot low)

given_asks : (slots : List (Option Attempt)) (low : ℕ) (last : ℕ → Option Request) (r : Request) → lowest slots ≡ Some low → AsksInLowest slots last (put last low (Some r))
given_asks slots low last r free slot = ⊎_elim
    (λ (e : slot ≡ low). inr (free ∙ ap Some (sym e)))
    (λ (apart : slot ≢ low). inl (put_other last low (Some r) slot apart))
    (cases_eq slot low)

-- neither pipe is touched
as_it_was : (c : Channel) (d e : Desk) (due : NeedData) (got : GotData) (wrote : ℕ) (x : Post) → asked_on c due got wrote x.asked ≡ x.asked → told_on c due got x.told ≡ x.told
    → Posted (with_desk c e x) → IsFirst e.row e → FliesInLowest (lane c d.slots).slots (lane c e.slots).slots → Then c d e due got wrote x
as_it_was c d e due got wrote x asks tells P first flies =
    let same : with_desk c e x ≡ with_desk c e (record x { asked = asked_on c due got wrote x.asked; told = told_on c due got x.told; last = x.last }) =
    λ i. record (with_desk c e x) { asked = sym asks i; told = sym tells i } in
    record { last = x.last; keeps = subst Posted same P; first = first; asks = λ slot. inl refl; flies = λ on. flies }

-- it is lost by it
lost_flies : (c : Channel) (d e : Desk) → is_on e.row ≡ false → is_on e.row ≡ true → FliesInLowest (lane c d.slots).slots (lane c e.slots).slots
lost_flies c d e off on = let both : true ≡ false = sym on ∙ off in absurd (cc)

-- the sender is lost
gone_then : (c : Channel) (d e : Desk) (due : NeedData) (got : GotData) (wrote : ℕ) (x : Post) → Posted (with_desk c d x) → is_on e.row ≡ false → IsLate e.row
    → asked_on c due got wrote x.asked ≡ x.asked → Then c d e due got wrote x
gone_then c d e due got wrote x P off late asks =
    let holds = heard_at e.row c (link c e).reader in
    let told = told_on c due got x.told in
    let slots = (lane c e.slots).slots in
    let same : record (with_desk c d x) { lives = false; heard = holds; told = told; slots = slots } ≡ with_desk c e (record x { asked = asked_on c due got wrote x.asked; told = told; last = x.last }) =
    λ i. record x { lives = sym off i; heard = holds; told = told; slots = slots; asked = sym asks i } in
    record {
      last = x.last;
      keeps = subst Posted same (gone_posted (with_desk c d x) holds told slots P);
      first = late_first e.row e late;
      asks = λ slot. inl refl;
      flies = lost_flies c d e off;
    }

-- nothing has come, and nothing is in flight that wasn't
unmoved : (c : Channel) (d e : Desk) (x : Post) → Posted (with_desk c d x) → is_on d.row ≡ true → IsLate d.row → IsLate e.row → (lane c e.slots).slots ≡ (lane c d.slots).slots
    → (link c e).reader ≡ (link c d).reader → Posted (with_desk c e x)
unmoved c d e x P on late so slots reader =
    let holds : heard_at d.row c (link c d).reader ≡ heard_at e.row c (link c e).reader =
    late_heard d.row c (link c d).reader late ∙ ap Some (sym reader) ∙ sym (late_heard e.row c (link c e).reader so) in
    let same : record (with_desk c d x) { lives = is_on e.row } ≡ with_desk c e x = λ i. record x { lives = is_on e.row; slots = sym slots i; heard = holds i } in
    subst Posted same (lives_by (is_on e.row) (with_desk c d x) P on)

-- What comes of a taking and of a giving

by_taken : (k : Channel) (got : GotData) (P : GotData → Type 0) → MayCome (needs.Take (port_of k)) got → ((bytes : List ℕ) → P (came.Took bytes)) → P came.End → P came.Failed → P got
by_taken Local (came.Took bytes) P may some none failed = some bytes
by_taken Local came.End P may some none failed = none
by_taken Local came.Failed P may some none failed = failed
by_taken Local got P may some none failed = absurd may
by_taken Remote (came.Took bytes) P may some none failed = some bytes
by_taken Remote came.End P may some none failed = none
by_taken Remote came.Failed P may some none failed = failed
by_taken Remote got P may some none failed = absurd may

by_given : (k : Channel) (text : List ℕ) (got : GotData) (P : GotData → Type 0) → MayCome (needs.Give (port_of k) text) got → P came.Gave → P came.Failed → P got
by_given k text came.Gave P may whole failed = whole
by_given k text came.Failed P may whole failed = failed
by_given k text got P may whole failed = absurd may

which : (c k : Channel) → (k ≡ c) ⊎ (k ≢ c)
which Local Local = inl refl
which Local Remote = inr (λ e. cc)
which Remote Local = inr (λ e. cc)
which Remote Remote = inl refl

own_taken : (c : Channel) (bytes told : List ℕ) → told_on c (needs.Take (port_of c)) (came.Took bytes) told ≡ drop (length bytes) told
own_taken Local bytes told = refl
own_taken Remote bytes told = refl

other_taken : (c k : Channel) (got : GotData) (told : List ℕ) → k ≢ c → told_on c (needs.Take (port_of k)) got told ≡ told
other_taken Local Remote got told apart = refl
other_taken Remote Local got told apart = refl
other_taken Local Local got told apart = absurd (apart refl)
other_taken Remote Remote got told apart = absurd (apart refl)

own_given : (c : Channel) (text : List ℕ) (wrote : ℕ) (asks : List ℕ) → asked_on c (needs.Give (port_of c) text) came.Gave wrote asks ≡ asks ++ text
own_given Local text wrote asks = refl
own_given Remote text wrote asks = refl

own_part : (c : Channel) (text : List ℕ) (wrote : ℕ) (asks : List ℕ) → asked_on c (needs.Give (port_of c) text) came.Failed wrote asks ≡ asks ++ take wrote text
own_part Local text wrote asks = refl
own_part Remote text wrote asks = refl

other_given : (c k : Channel) (text : List ℕ) (got : GotData) (wrote : ℕ) (asks : List ℕ) → k ≢ c → asked_on c (needs.Give (port_of k) text) got wrote asks ≡ asks
other_given Local Remote text got wrote asks apart = refl
other_given Remote Local text got wrote asks apart = refl
other_given Local Local text got wrote asks apart = absurd (apart refl)
other_given Remote Remote text got wrote asks apart = absurd (apart refl)

lost_off : (k : Channel) → is_on (lost k) ≡ false
lost_off Local = refl
lost_off Remote = refl

lost_late : (k : Channel) → IsLate (lost k)
lost_late Local = tt
lost_late Remote = tt

-- What a request does to the slots

sent_on_is : (o : Option Attempt) (low : Option ℕ) (l : Lane) (k slot : ℕ) (a : Attempt) → low ≡ Some slot → o ≡ Some a → (sent_in low o k l).slots ≡ set l.slots slot (Some (numbered k a))
sent_on_is o low l k slot a lowest_is next_is =
    ap (λ (n : Option ℕ). (sent_in n o k l).slots) lowest_is ∙ ap (λ (b : Option Attempt). (sent_in (Some slot) b k l).slots) next_is

sent_by : (c : Channel) (low : Option ℕ) (s : Slots) (slot : ℕ) (a : Attempt) → low ≡ Some slot → lowest (lane c s).slots ≡ Some slot → next (lane c s) ≡ Some a
    → (lane c (sent_as low c (next_delivery s) s)).slots ≡ set (lane c s).slots slot (Some (numbered (next_delivery s) a))
sent_by Local low s slot a is free next_is =
    ap (λ (n : Option ℕ). (lane Local (sent_as n Local (next_delivery s) s)).slots) is ∙ sent_on_is (next s.local) (lowest s.local.slots) s.local (next_delivery s) slot a free next_is
sent_by Remote low s slot a is free next_is =
    ap (λ (n : Option ℕ). (lane Remote (sent_as n Remote (next_delivery s) s)).slots) is ∙ sent_on_is (next s.remote) (lowest s.remote.slots) s.remote (next_delivery s) slot a free next_is

abbrev sent_desk : Channel → Desk → Desk
sent_desk c d = with_requests c (drop 1 (link c d).requests) (record d { slots = sent_on c d.slots })

desk_slots : (c : Channel) (d : Desk) → (lane c (sent_desk c d).slots).slots ≡ (lane c (sent_on c d.slots)).slots
desk_slots Local d = refl
desk_slots Remote d = refl

sent_slots : (c : Channel) (d : Desk) (slot : ℕ) (a : Attempt) → lowest (lane c d.slots).slots ≡ Some slot → next (lane c d.slots) ≡ Some a
    → (lane c (request_sent c d).slots).slots ≡ set (lane c d.slots).slots slot (Some (numbered (next_delivery d.slots) a))
sent_slots c d slot a free next_is =
    ap (λ (o : Option Attempt). (lane c (if is_some o then sent_desk c d else d).slots).slots) next_is
    ∙ desk_slots c d
    ∙ sent_by c (lowest (lane c d.slots).slots) d.slots slot a free free next_is

sent_row : (c : Channel) (b : Bool) (d : Desk) → (if b then sent_desk c d else d).row ≡ d.row
sent_row Local true d = refl
sent_row Remote true d = refl
sent_row c false d = refl

sent_reader : (c k : Channel) (b : Bool) (d : Desk) → (link c (if b then sent_desk k d else d)).reader ≡ (link c d).reader
sent_reader c k false d = refl
sent_reader Local Local true d = refl
sent_reader Local Remote true d = refl
sent_reader Remote Local true d = refl
sent_reader Remote Remote true d = refl

sent_other_by : (c k : Channel) (low : Option ℕ) (n : ℕ) (s : Slots) → k ≢ c → (lane c (sent_as low k n s)).slots ≡ (lane c s).slots
sent_other_by c k None n s apart = refl
sent_other_by Local Remote (Some slot) n s apart = refl
sent_other_by Remote Local (Some slot) n s apart = refl
sent_other_by Local Local (Some slot) n s apart = absurd (apart refl)
sent_other_by Remote Remote (Some slot) n s apart = absurd (apart refl)

sent_other_if : (c k : Channel) (b : Bool) (d : Desk) → k ≢ c → (lane c (if b then sent_desk k d else d).slots).slots ≡ (lane c d.slots).slots
sent_other_if c k false d apart = refl
sent_other_if c Local true d apart = sent_other_by c Local (lowest d.slots.local.slots) (next_delivery d.slots) d.slots apart
sent_other_if c Remote true d apart = sent_other_by c Remote (lowest d.slots.remote.slots) (next_delivery d.slots) d.slots apart

-- An event after both first bytes were taken

module _ (c : Channel) (d : Desk) (x : Post) (P : Posted (with_desk c d x)) (on : is_on d.row ≡ true) (late : IsLate d.row) (read wrote : ℕ) where
  holds : heard_at d.row c (link c d).reader ≡ Some (link c d).reader
  holds = late_heard d.row c (link c d).reader late

  abbrev Leads : Row → GotData → Type 0
  Leads row got = Then c d (moved_by row read got d) (due_at row d) got wrote x

  goes_leads : (e : Desk) (due : NeedData) (got : GotData) → Goes d e → IsAway due → Then c d (ready e) due got wrote x
  goes_leads e due got g away =
      let r = readied d e g in
      let slots = slots_on c d (ready e) r.same in
      as_it_was c d (ready e) due got wrote x (away_asked c due got wrote x.asked away) (away_told c due got x.told away)
      (unmoved c d (ready e) x P on late r.late slots (reader_on c d (ready e) r.same)) (late_first (ready e).row (ready e) r.late)
      (same_fly (lane c d.slots).slots (lane c (ready e).slots).slots slots)

  still : (row : Row) (got : GotData) → IsStill row → Leads row got
  still row got is = goes_leads (act row read got d) (due_at row d) got (act_goes row read got d is) (row_away row d is)

  -- A taking

  took_own : (bytes : List ℕ) → IsSome (came.Took bytes) x.told → Leads (at.TakeLink c) (came.Took bytes)
  took_own bytes offered =
      let h : Desk = heard c bytes d in
      let e : Desk = ready (busy (stands_at h (after_take c))) in
      let rest = offered.1.0 in
      let H = (hears_keep (link c d).reader bytes rest (with_desk c d x) P on holds offered.1.1).keeps in
      let slots : freed_all (reads (link c d).reader bytes).0 (lane c d.slots).slots ≡ (lane c e.slots).slots = sym (slots_on c h e refl ∙ desks_tell.all c bytes d) in
      let reader : (reads (link c d).reader bytes).1 ≡ (link c e).reader = sym (reader_on c h e refl ∙ desks_tell.reader c bytes d) in
      let told : rest ≡ told_on c (needs.Take (port_of c)) (came.Took bytes) x.told = sym (own_taken c bytes x.told ∙ ap (drop (length bytes)) offered.1.1 ∙ drop_past bytes rest) in
      let same : record x { lives = is_on d.row; slots = freed_all (reads (link c d).reader bytes).0 (lane c d.slots).slots; heard = Some (reads (link c d).reader bytes).1; told = rest }
      ≡ with_desk c e (record x { asked = x.asked; told = told_on c (needs.Take (port_of c)) (came.Took bytes) x.told; last = x.last }) =
      λ i. record x { lives = on i; slots = slots i; heard = Some (reader i); told = told i } in
      record {
        last = x.last;
        keeps = subst Posted same H;
        first = tt;
        asks = λ slot. inl refl;
        flies = λ goes. freed_fly (reads (link c d).reader bytes).0 (lane c d.slots).slots (lane c e.slots).slots slots;
      }

  took_other : (k : Channel) (bytes : List ℕ) → k ≢ c → Leads (at.TakeLink k) (came.Took bytes)
  took_other k bytes apart =
      let h : Desk = heard k bytes d in
      let e : Desk = ready (busy (stands_at h (after_take k))) in
      let w = desks_tell.others k c bytes d (λ same. apart (sym same)) in
      let slots : (lane c e.slots).slots ≡ (lane c d.slots).slots = slots_on c h e refl ∙ w.0 in
      as_it_was c d e (needs.Take (port_of k)) (came.Took bytes) wrote x refl (other_taken c k (came.Took bytes) x.told apart)
      (unmoved c d e x P on late tt slots (reader_on c h e refl ∙ w.1)) tt (same_fly (lane c d.slots).slots (lane c e.slots).slots slots)

  took_none : (k : Channel) (got : GotData) → Then c d (ready (busy (goes d (lost k)))) (needs.Take (port_of k)) got wrote x
  took_none k got = gone_then c d (ready (busy (goes d (lost k)))) (needs.Take (port_of k)) got wrote x P (lost_off k) (lost_late k) refl

  takes : (k : Channel) (got : GotData) → MayCome (needs.Take (port_of k)) got → (k ≡ c → IsSome got x.told) → Leads (at.TakeLink k) got
  takes k got may offered = by_taken k got (λ (g : GotData). (k ≡ c → IsSome g x.told) → Leads (at.TakeLink k) g) may
      (λ bytes some. ⊎_elim
      (λ (e : k ≡ c). subst (λ (j : Channel). Leads (at.TakeLink j) (came.Took bytes)) (sym e) (took_own bytes (some e)))
      (λ (apart : k ≢ c). took_other k bytes apart)
      (which c k))
      (λ some. took_none k came.End)
      (λ some. took_none k came.Failed)
      offered

  -- A giving

  module _ (A : AsksFor c d (first_text (link c d).requests)) where
    abbrev text : List ℕ
    text = first_text (link c d).requests

    abbrev r : Request
    r = request_for A.slot A.attempt.n A.sender A.attempt.address

    text_is : text ≡ request_text r
    text_is = A.is ∙ requests_are_plain.text A.slot A.attempt.n A.sender A.attempt.address

    gave_own : Leads (at.Request c) came.Gave
    gave_own =
        let before : Desk = stands_at d (point.Pass c false) in
        let sent : Desk = request_sent c before in
        let e : Desk = ready (busy sent) in
        let a : Attempt = numbered (next_delivery d.slots) A.attempt in
        let W = asks_keep.whole (link c d).reader a r (with_desk c d x) P on holds A.free (requests_are_plain.plain A.slot A.attempt.n A.sender A.attempt.address A.sender_plain A.address_plain) refl refl in
        let row : e.row ≡ at.Turn (point.Pass c false) = sent_row c (is_some (next (lane c before.slots))) before in
        let so : IsLate e.row = subst IsLate (sym row) tt in
        let lives : is_on d.row ≡ is_on e.row = on ∙ sym (ap is_on row) in
        let slots : set (lane c d.slots).slots A.slot (Some a) ≡ (lane c e.slots).slots = sym (slots_on c sent e refl ∙ sent_slots c before A.slot A.attempt A.free A.next_is) in
        let reader : (link c e).reader ≡ (link c d).reader = reader_on c sent e refl ∙ sent_reader c c (is_some (next (lane c before.slots))) before ∙ reader_on c d before refl in
        let held : heard_at d.row c (link c d).reader ≡ heard_at e.row c (link c e).reader = holds ∙ ap Some (sym reader) ∙ sym (late_heard e.row c (link c e).reader so) in
        let asks : x.asked ++ request_text r ≡ asked_on c (needs.Give (port_of c) text) came.Gave wrote x.asked = ap (λ (t : List ℕ). x.asked ++ t) (sym text_is) ∙ sym (own_given c text wrote x.asked) in
        let same : record x { lives = is_on d.row; slots = set (lane c d.slots).slots A.slot (Some a); heard = heard_at d.row c (link c d).reader; asked = x.asked ++ request_text r; last = put x.last A.slot (Some r) }
        ≡ with_desk c e (record x { asked = asked_on c (needs.Give (port_of c) text) came.Gave wrote x.asked; told = x.told; last = put x.last A.slot (Some r) }) =
        λ i. record x { lives = lives i; slots = slots i; heard = held i; asked = asks i; last = put x.last A.slot (Some r) } in
        record {
          last = put x.last A.slot (Some r);
          keeps = subst Posted same W;
          first = late_first e.row e so;
          asks = given_asks (lane c d.slots).slots A.slot x.last r A.free;
          flies = λ goes. subst (FliesInLowest (lane c d.slots).slots) slots (given_flies (lane c d.slots).slots A.slot a A.free);
        }

    gave_part : Leads (at.Request c) came.Failed
    gave_part =
        let e : Desk = ready (busy (goes d (lost c))) in
        let W = asks_keep.part (link c d).reader r wrote (with_desk c d x) P on holds A.free (requests_are_plain.plain A.slot A.attempt.n A.sender A.attempt.address A.sender_plain A.address_plain) in
        let G = gone_posted (record x { lives = false; slots = (lane c d.slots).slots; heard = heard_at d.row c (link c d).reader; asked = x.asked ++ take wrote (request_text r); last = put x.last A.slot (Some r) })
        (heard_at e.row c (link c e).reader) x.told (lane c e.slots).slots W in
        let asks : x.asked ++ take wrote (request_text r) ≡ asked_on c (needs.Give (port_of c) text) came.Failed wrote x.asked =
        ap (λ (t : List ℕ). x.asked ++ take wrote t) (sym text_is) ∙ sym (own_part c text wrote x.asked) in
        let same : record x { lives = false; slots = (lane c e.slots).slots; heard = heard_at e.row c (link c e).reader; asked = x.asked ++ take wrote (request_text r); last = put x.last A.slot (Some r) }
        ≡ with_desk c e (record x { asked = asked_on c (needs.Give (port_of c) text) came.Failed wrote x.asked; told = x.told; last = put x.last A.slot (Some r) }) =
        λ i. record x { lives = sym (lost_off c) i; slots = (lane c e.slots).slots; heard = heard_at e.row c (link c e).reader; asked = asks i; last = put x.last A.slot (Some r) } in
        record {
          last = put x.last A.slot (Some r);
          keeps = subst Posted same G;
          first = late_first e.row e (lost_late c);
          asks = given_asks (lane c d.slots).slots A.slot x.last r A.free;
          flies = lost_flies c d e (lost_off c);
        }

  gave_other : (k : Channel) → k ≢ c → Leads (at.Request k) came.Gave
  gave_other k apart =
      let before : Desk = stands_at d (point.Pass k false) in
      let sent : Desk = request_sent k before in
      let e : Desk = ready (busy sent) in
      let b = is_some (next (lane k before.slots)) in
      let row : e.row ≡ at.Turn (point.Pass k false) = sent_row k b before in
      let so : IsLate e.row = subst IsLate (sym row) tt in
      let slots : (lane c e.slots).slots ≡ (lane c d.slots).slots = slots_on c sent e refl ∙ sent_other_if c k b before apart ∙ slots_on c d before refl in
      as_it_was c d e (due_at (at.Request k) d) came.Gave wrote x (other_given c k (first_text (link k d).requests) came.Gave wrote x.asked apart) refl
      (unmoved c d e x P on late so slots (reader_on c sent e refl ∙ sent_reader c k b before ∙ reader_on c d before refl)) (late_first e.row e so)
      (same_fly (lane c d.slots).slots (lane c e.slots).slots slots)

  gave_none : (k : Channel) → k ≢ c → Leads (at.Request k) came.Failed
  gave_none k apart = gone_then c d (ready (busy (goes d (lost k)))) (due_at (at.Request k) d) came.Failed wrote x P (lost_off k) (lost_late k)
      (other_given c k (first_text (link k d).requests) came.Failed wrote x.asked apart)

  gives : (k : Channel) (got : GotData) → MayCome (due_at (at.Request k) d) got → (k ≡ c → AsksFor c d (first_text (link k d).requests)) → Leads (at.Request k) got
  gives k got may asks_for = ⊎_elim
      (λ (e : k ≡ c).
      let A : AsksFor c d (first_text (link c d).requests) = subst (λ (j : Channel). AsksFor c d (first_text (link j d).requests)) e (asks_for e) in
      subst (λ (j : Channel). Leads (at.Request j) got) (sym e)
      (by_given c (first_text (link c d).requests) got (λ (g : GotData). Leads (at.Request c) g) (subst (λ (j : Channel). MayCome (due_at (at.Request j) d) got) e may) (gave_own A) (gave_part A)))
      (λ (apart : k ≢ c). by_given k (first_text (link k d).requests) got (λ (g : GotData). Leads (at.Request k) g) may (gave_other k apart) (gave_none k apart))
      (which c k)

-- The scan of a start

failed_late : (w : Way) → IsLate (start_at (start_failed w))
failed_late way.NoMemory = tt
failed_late way.Fine = tt
failed_late way.Over = tt
failed_late way.Absent = tt
failed_late way.Broken = tt

way_late : (w : Way) (there missing : StartRow) → IsLate (start_at there) → IsLate (start_at missing) → IsLate (start_at (by_way w there missing))
way_late way.Fine there missing h k = h
way_late way.Absent there missing h k = k
way_late way.Over there missing h k = tt
way_late way.Broken there missing h k = tt
way_late way.NoMemory there missing h k = tt

scan_late : (o : Option ℕ) (split : ℕ) → IsLate (start_at (scan_row o split))
scan_late None split = refl
scan_late (Some n) split = refl

next_late : (b : Bool) (split : ℕ) → IsLate (start_at (if b then start.Scan (split + 1) else start.Over))
next_late true split = refl
next_late false split = tt

scanned_late : (w : Way) (text : List ℕ) (split : ℕ) (b : Book) → IsLate (start_at (scanned w text split b).row)
scanned_late way.Fine name split b = scan_late (number_below split name) split
scanned_late way.Over name split b = next_late (nat_lt split 22) split
scanned_late way.Absent name split b = tt
scanned_late way.Broken name split b = tt
scanned_late way.NoMemory name split b = tt

info_late : (b : Bool) (split n : ℕ) → IsLate (start_at (info_row b split n))
info_late true split n = refl
info_late false split n = refl

info_read_late : (it : Progress) (split n : ℕ) (reading : Reading) (s : Said) (b : Book) → IsLate (start_at (info_read it split n reading s b).row)
info_read_late (GoesTo (Shutting fd)) split n reading s b = failed_late s.way
info_read_late (GoesTo Opening) split n reading s b = refl
info_read_late (GoesTo (Going fd)) split n reading s b = refl
info_read_late (GoesTo (Closing fd)) split n reading s b = refl
info_read_late Whole split n reading s b = info_late (is_info b.read) split n
info_read_late Missing split n reading s b = refl
info_read_late Failed split n reading s b = failed_late s.way

stated_late : (w : Way) (split n birth : ℕ) (local : Bool) (b : Book) → IsLate (start_at (remote_stated w split n birth local b).row)
stated_late way.Fine split n birth local b = refl
stated_late way.Absent split n birth local b = refl
stated_late way.Over split n birth local b = tt
stated_late way.Broken split n birth local b = tt
stated_late way.NoMemory split n birth local b = tt

abbrev IsScan : StartRow → Type 0
IsScan (start.Scan split) = Unit {0}
IsScan (start.StatTodo split n) = Unit {0}
IsScan (start.ReadInfo split n reading) = Unit {0}
IsScan (start.StatInfo split n) = Unit {0}
IsScan (start.StatLocal split n birth) = Unit {0}
IsScan (start.StatRemote split n birth local) = Unit {0}
IsScan row = ⊥

start_goes : (row : StartRow) (s : Said) (d : Desk) → IsScan row → Goes d (started row s d)
start_goes (start.Scan split) s d is = record { same = refl; late = scanned_late s.way s.bytes split d.book }
start_goes (start.StatTodo split n) s d is = record { same = refl; late = way_late s.way (start.Scan split) (start.ReadInfo split n Opening) refl refl }
start_goes (start.ReadInfo split n reading) s d is = record { same = refl; late = info_read_late (read_on reading s) split n reading s d.book }
start_goes (start.StatInfo split n) s d is = record { same = refl; late = way_late s.way (start.StatLocal split n s.stat.moment) (start.Scan split) refl refl }
start_goes (start.StatLocal split n birth) s d is =
    record { same = refl; late = way_late s.way (start.StatRemote split n birth true) (start.StatRemote split n birth false) refl refl }
start_goes (start.StatRemote split n birth local) s d is = record { same = refl; late = stated_late s.way split n birth local d.book }
start_goes (start.Control f reading) s d is = absurd is
start_goes start.GreetLocal s d is = absurd is
start_goes (start.GreetRemote limit) s d is = absurd is
start_goes start.Over s d is = absurd is
start_goes (start.Ended status) s d is = absurd is

scans : (row : StartRow) (d : Desk) (got : GotData) → is_early row ≡ false → MayCome (due_at (at.Start row) d) got → IsScan row
scans (start.Scan split) d got late may = tt
scans (start.StatTodo split n) d got late may = tt
scans (start.ReadInfo split n reading) d got late may = tt
scans (start.StatInfo split n) d got late may = tt
scans (start.StatLocal split n birth) d got late may = tt
scans (start.StatRemote split n birth local) d got late may = tt
scans (start.Control f reading) d got late may = absurd (cc)
scans start.GreetLocal d got late may = absurd (cc)
scans (start.GreetRemote limit) d got late may = absurd (cc)
scans start.Over d got late may = absurd may
scans (start.Ended status) d got late may = absurd may

-- Any row after the first bytes

module _ (c : Channel) (d : Desk) (x : Post) (P : Posted (with_desk c d x)) (on : is_on d.row ≡ true) (late : IsLate d.row) (read wrote : ℕ) (got : GotData) where
  pub late_row : (row : Row) → IsLate row → MayCome (due_at row d) got → (due_at row d ≡ needs.Take (port_of c) → IsSome got x.told)
      → ((text : List ℕ) → due_at row d ≡ needs.Give (port_of c) text → AsksFor c d text) → Then c d (moved_by row read got d) (due_at row d) got wrote x
  late_row (at.Start row) so may some asks_for =
      goes_leads c d x P on late read wrote (started row (said got) d) (due_at (at.Start row) d) got (start_goes row (said got) d (scans row d got so may)) (start_away row d so)
  late_row (at.TakeLink k) so may some asks_for = takes c d x P on late read wrote k got may (λ e. some (ap (λ (j : Channel). needs.Take (port_of j)) e))
  late_row (at.Request k) so may some asks_for =
      gives c d x P on late read wrote k got may (λ e. asks_for (first_text (link k d).requests) (ap (λ (j : Channel). needs.Give (port_of j) (first_text (link k d).requests)) e))
  late_row (at.Mark row m) so may some asks_for = still c d x P on late read wrote (at.Mark row m) got tt
  late_row (at.UnlinkFile k n p) so may some asks_for = still c d x P on late read wrote (at.UnlinkFile k n p) got tt
  late_row (at.ReadFile k n begun reading) so may some asks_for = still c d x P on late read wrote (at.ReadFile k n begun reading) got tt
  late_row (at.FindTodo again) so may some asks_for = still c d x P on late read wrote (at.FindTodo again) got tt
  late_row at.InTodo so may some asks_for = still c d x P on late read wrote at.InTodo got tt
  late_row (at.Finish row n) so may some asks_for = still c d x P on late read wrote (at.Finish row n) got tt
  late_row (at.Sweep row) so may some asks_for = still c d x P on late read wrote (at.Sweep row) got tt
  late_row (at.Turn p) so may some asks_for = absurd may
  late_row (at.Ended status) so may some asks_for = absurd may

-- Its start

abbrev IsOpening : StartRow → Type 0
IsOpening (start.Control f reading) = Unit {0}
IsOpening start.GreetLocal = Unit {0}
IsOpening (start.Ended status) = Unit {0}
IsOpening row = ⊥

failed_opens : (w : Way) → IsOpening (start_failed w)
failed_opens way.NoMemory = tt
failed_opens way.Fine = tt
failed_opens way.Over = tt
failed_opens way.Absent = tt
failed_opens way.Broken = tt

judged_opens : (o : Option Fault) (b : Book) → IsOpening (judged_by o b).row
judged_opens None b = tt
judged_opens (Some fault) b = tt

filed_opens : (o : Option ControlFile) (b : Book) → IsOpening (next_file o b).row
filed_opens None b = judged_opens (first_fault b.files) b
filed_opens (Some next) b = tt

control_opens : (it : Progress) (f : ControlFile) (reading : Reading) (s : Said) (b : Book) → IsOpening (control_read it f reading s b).row
control_opens (GoesTo (Shutting fd)) f reading s b = failed_opens s.way
control_opens (GoesTo Opening) f reading s b = tt
control_opens (GoesTo (Going fd)) f reading s b = tt
control_opens (GoesTo (Closing fd)) f reading s b = tt
control_opens Whole f reading s b = filed_opens (file_after f) (record b { files = set b.files (place f) (Some b.read) })
control_opens Missing f reading s b = filed_opens (file_after f) (record b { files = set b.files (place f) None })
control_opens Failed f reading s b = failed_opens s.way

module _ (d : Desk) (x : Post) (wrote : ℕ) where
  abbrev at_start : StartRow → Desk
  at_start row = record d { row = at.Start row }

  -- it stands at a row of its start, with this book and these slots
  abbrev starts_at : Book → Slots → Row → Desk
  starts_at book slots row = ready (record d { book = book; slots = slots; row = row })

  -- The control files

  module _ (f : ControlFile) (reading : Reading) where
    abbrev here : Desk
    here = at_start (start.Control f reading)

    abbrev control_due : NeedData
    control_due = due_at (at.Start (start.Control f reading)) here

    goes_on : (c : Channel) (row : StartRow) (got : GotData) (b : Book) → IsQuiet here → Posted (with_desk c (starts_at b d.slots (at.Start row)) x)
        → Then c here (starts_at b d.slots (at.Start row)) control_due got wrote x
    goes_on c row got b Q P =
        let e : Desk = starts_at b d.slots (at.Start row) in
        as_it_was c here e control_due got wrote x (away_asked c control_due got wrote x.asked (control_away f reading here))
        (away_told c control_due got x.told (control_away f reading here)) P (λ early. quiet_on here e refl Q)
        (same_fly (lane c here.slots).slots (lane c e.slots).slots (slots_on c here e refl))

    opens : (c : Channel) (row : StartRow) (got : GotData) (b : Book) → IsOpening row → Posted (with_desk c here x) → IsQuiet here → Then c here (starts_at b d.slots (start_at row)) control_due got wrote x
    opens c (start.Control g after) got b is P Q = goes_on c (start.Control g after) got b Q P
    opens c start.GreetLocal got b is P Q = goes_on c start.GreetLocal got b Q P
    opens c (start.Ended status) got b is P Q =
        gone_then c here (starts_at b d.slots (at.Ended status)) control_due got wrote x P refl tt (away_asked c control_due got wrote x.asked (control_away f reading here))
    opens c row got b is P Q = absurd is

  -- The first byte of the local spawner

  greeted_local : (c : Channel) (b : Book) (limit byte : ℕ) (bytes : List ℕ) → Posted (with_desk c (at_start start.GreetLocal) x) → IsQuiet (at_start start.GreetLocal)
      → (needs.Take port.Lspawn ≡ needs.Take (port_of c) → IsSome (came.Took (byte ∷ bytes)) x.told)
      → Then c (at_start start.GreetLocal) (starts_at b d.slots (at.Start (start.GreetRemote limit))) (needs.Take port.Lspawn) (came.Took (byte ∷ bytes)) wrote x
  greeted_local Local b limit byte bytes P Q some =
      let o = some refl in
      let rest = o.1.0 in
      let e : Desk = starts_at b d.slots (at.Start (start.GreetRemote limit)) in
      let G = (greets_keep (byte ∷ bytes) rest (with_desk Local (at_start start.GreetLocal) x) P refl refl o.1.1 o.0).keeps in
      let told : rest ≡ drop (length (byte ∷ bytes)) x.told = sym (ap (drop (length (byte ∷ bytes))) o.1.1 ∙ drop_past (byte ∷ bytes) rest) in
      let reader : AtBegin ≡ d.local.reader = sym (Q.unread Local) in
      let same : record x { lives = true; slots = d.slots.local.slots; heard = Some AtBegin; told = rest }
      ≡ with_desk Local e (record x { asked = x.asked; told = drop (length (byte ∷ bytes)) x.told; last = x.last }) =
      λ i. record x { lives = true; slots = d.slots.local.slots; heard = Some (reader i); told = told i } in
      record {
        last = x.last;
        keeps = subst Posted same G;
        first = λ early. quiet_on (at_start start.GreetLocal) e refl Q;
        asks = λ slot. inl refl;
        flies = λ goes slot a is. inl is;
      }
  greeted_local Remote b limit byte bytes P Q some =
      let e : Desk = starts_at b d.slots (at.Start (start.GreetRemote limit)) in
      as_it_was Remote (at_start start.GreetLocal) e (needs.Take port.Lspawn) (came.Took (byte ∷ bytes)) wrote x refl refl P (λ early. quiet_on (at_start start.GreetLocal) e refl Q)
      (λ slot a is. inl is)

  greets_local : (c : Channel) (got : GotData) → MayCome (needs.Take port.Lspawn) got → Posted (with_desk c (at_start start.GreetLocal) x) → IsQuiet (at_start start.GreetLocal)
      → (needs.Take port.Lspawn ≡ needs.Take (port_of c) → IsSome got x.told) → Then c (at_start start.GreetLocal) (ready (started start.GreetLocal (said got) (at_start start.GreetLocal))) (needs.Take port.Lspawn) got wrote x
  greets_local c (came.Took []) may P Q some =
      gone_then c (at_start start.GreetLocal) (ready (started start.GreetLocal (said (came.Took [])) (at_start start.GreetLocal))) (needs.Take port.Lspawn) (came.Took []) wrote x P refl tt refl
  greets_local c (came.Took (byte ∷ bytes)) may P Q some = greeted_local c (act_start start.GreetLocal (said (came.Took (byte ∷ bytes))) d.book) (min byte d.book.controls.concurrency_local) byte bytes P Q some
  greets_local c came.End may P Q some =
      gone_then c (at_start start.GreetLocal) (ready (started start.GreetLocal (said came.End) (at_start start.GreetLocal))) (needs.Take port.Lspawn) came.End wrote x P refl tt refl
  greets_local c came.Failed may P Q some =
      gone_then c (at_start start.GreetLocal) (ready (started start.GreetLocal (said came.Failed) (at_start start.GreetLocal))) (needs.Take port.Lspawn) came.Failed wrote x P refl tt refl
  greets_local c got may P Q some = absurd may

  -- The first byte of the remote one: then the sender has its slots

  module _ (limit : ℕ) where
    abbrev there : Desk
    there = at_start (start.GreetRemote limit)

    free_slots : (c : Channel) (n slot : ℕ) → IsQuiet there → attempt_in (replicate n None) slot ≡ attempt_in (lane c d.slots).slots slot
    free_slots c n slot Q = no_attempt n slot ∙ sym (Q.free c slot)

    greeted_remote : (c : Channel) (b : Book) (far byte : ℕ) (bytes : List ℕ) → Posted (with_desk c there x) → IsQuiet there → (needs.Take port.Rspawn ≡ needs.Take (port_of c) → IsSome (came.Took (byte ∷ bytes)) x.told)
        → Then c there (starts_at b (none_out limit far) (at.Start (start.Scan 0))) (needs.Take port.Rspawn) (came.Took (byte ∷ bytes)) wrote x
    greeted_remote Local b far byte bytes P Q some =
        as_it_was Local there (starts_at b (none_out limit far) (at.Start (start.Scan 0))) (needs.Take port.Rspawn) (came.Took (byte ∷ bytes)) wrote x refl refl
        (slots_keep (replicate (min limit 120) None) (with_desk Local there x) P (λ slot. free_slots Local (min limit 120) slot Q)) (λ early. absurd (cc))
        (none_fly d.slots.local.slots (min limit 120))
    greeted_remote Remote b far byte bytes P Q some =
        let o = some refl in
        let rest = o.1.0 in
        let e : Desk = starts_at b (none_out limit far) (at.Start (start.Scan 0)) in
        let G = (greets_keep (byte ∷ bytes) rest (with_desk Remote there x) P refl refl o.1.1 o.0).keeps in
        let S = slots_keep (replicate (min far 120) None) (record x { lives = true; slots = d.slots.remote.slots; heard = Some AtBegin; told = rest }) G (λ slot. free_slots Remote (min far 120) slot Q) in
        let told : rest ≡ drop (length (byte ∷ bytes)) x.told = sym (ap (drop (length (byte ∷ bytes))) o.1.1 ∙ drop_past (byte ∷ bytes) rest) in
        let reader : AtBegin ≡ d.remote.reader = sym (Q.unread Remote) in
        let same : record x { lives = true; slots = replicate (min far 120) None; heard = Some AtBegin; told = rest }
        ≡ with_desk Remote e (record x { asked = x.asked; told = drop (length (byte ∷ bytes)) x.told; last = x.last }) =
        λ i. record x { lives = true; slots = replicate (min far 120) None; heard = Some (reader i); told = told i } in
        record {
          last = x.last;
          keeps = subst Posted same S;
          first = λ early. absurd (cc);
          asks = λ slot. inl refl;
          flies = λ goes. none_fly d.slots.remote.slots (min far 120);
        }

    greets_remote : (c : Channel) (got : GotData) → MayCome (needs.Take port.Rspawn) got → Posted (with_desk c there x) → IsQuiet there
        → (needs.Take port.Rspawn ≡ needs.Take (port_of c) → IsSome got x.told) → Then c there (ready (started (start.GreetRemote limit) (said got) there)) (needs.Take port.Rspawn) got wrote x
    greets_remote c (came.Took []) may P Q some =
        gone_then c there (ready (started (start.GreetRemote limit) (said (came.Took [])) there)) (needs.Take port.Rspawn) (came.Took []) wrote x P refl tt refl
    greets_remote c (came.Took (byte ∷ bytes)) may P Q some = greeted_remote c (act_start (start.GreetRemote limit) (said (came.Took (byte ∷ bytes))) d.book) (remote_limit (byte ∷ bytes) d.book.controls) byte bytes P Q some
    greets_remote c came.End may P Q some =
        gone_then c there (ready (started (start.GreetRemote limit) (said came.End) there)) (needs.Take port.Rspawn) came.End wrote x P refl tt refl
    greets_remote c came.Failed may P Q some =
        gone_then c there (ready (started (start.GreetRemote limit) (said came.Failed) there)) (needs.Take port.Rspawn) came.Failed wrote x P refl tt refl
    greets_remote c got may P Q some = absurd may

-- An event

module _ (c : Channel) (x : Post) (read : ℕ) (ready_now : Ready) (got : GotData) (wrote : ℕ) where
  abbrev Leaves : Row → Desk → Type 0
  Leaves row d = Posted (with_desk c d x) → IsFirst d.row d → MayCome (due_at row d) got → (due_at row d ≡ needs.Take (port_of c) → IsSome got x.told)
      → ((text : List ℕ) → due_at row d ≡ needs.Give (port_of c) text → AsksFor c d text) → Then c d (moved_by row read got d) (due_at row d) got wrote x

  from_row : (r : Row) (d : Desk) → (IsLate r → IsLate (arrive r (record d { row = r }) read ready_now)) → Leaves (arrive r (record d { row = r }) read ready_now) (record d { row = r })
  from_row (at.Start (start.Control f reading)) d late P first may some asks_for =
      opens d x wrote f reading c (control_read (read_on reading (said got)) f reading (said got) d.book).row got (act_start (start.Control f reading) (said got) d.book)
      (control_opens (read_on reading (said got)) f reading (said got) d.book) P (first refl)
  from_row (at.Start start.GreetLocal) d late P first may some asks_for = greets_local d x wrote c got may P (first refl) some
  from_row (at.Start (start.GreetRemote limit)) d late P first may some asks_for = greets_remote d x wrote limit c got may P (first refl) some
  from_row (at.Start (start.Scan split)) d late P first may some asks_for =
      late_row c (record d { row = at.Start (start.Scan split) }) x P refl refl read wrote got (at.Start (start.Scan split)) refl may some asks_for
  from_row (at.Start (start.StatTodo split n)) d late P first may some asks_for =
      late_row c (record d { row = at.Start (start.StatTodo split n) }) x P refl refl read wrote got (at.Start (start.StatTodo split n)) refl may some asks_for
  from_row (at.Start (start.ReadInfo split n reading)) d late P first may some asks_for =
      late_row c (record d { row = at.Start (start.ReadInfo split n reading) }) x P refl refl read wrote got (at.Start (start.ReadInfo split n reading)) refl may some asks_for
  from_row (at.Start (start.StatInfo split n)) d late P first may some asks_for =
      late_row c (record d { row = at.Start (start.StatInfo split n) }) x P refl refl read wrote got (at.Start (start.StatInfo split n)) refl may some asks_for
  from_row (at.Start (start.StatLocal split n birth)) d late P first may some asks_for =
      late_row c (record d { row = at.Start (start.StatLocal split n birth) }) x P refl refl read wrote got (at.Start (start.StatLocal split n birth)) refl may some asks_for
  from_row (at.Start (start.StatRemote split n birth local)) d late P first may some asks_for =
      late_row c (record d { row = at.Start (start.StatRemote split n birth local) }) x P refl refl read wrote got (at.Start (start.StatRemote split n birth local)) refl may some asks_for
  from_row (at.Start start.Over) d late P first may some asks_for = absurd may
  from_row (at.Start (start.Ended status)) d late P first may some asks_for = absurd may
  from_row (at.Turn p) d late P first may some asks_for =
      late_row c (record d { row = at.Turn p }) x P refl tt read wrote got (arrive (at.Turn p) (record d { row = at.Turn p }) read ready_now) (late tt) may some asks_for
  from_row (at.TakeLink k) d late P first may some asks_for = late_row c (record d { row = at.TakeLink k }) x P refl tt read wrote got (at.TakeLink k) tt may some asks_for
  from_row (at.Request k) d late P first may some asks_for = late_row c (record d { row = at.Request k }) x P refl tt read wrote got (at.Request k) tt may some asks_for
  from_row (at.Mark row m) d late P first may some asks_for = late_row c (record d { row = at.Mark row m }) x P refl tt read wrote got (at.Mark row m) tt may some asks_for
  from_row (at.UnlinkFile k n p) d late P first may some asks_for =
      late_row c (record d { row = at.UnlinkFile k n p }) x P refl tt read wrote got (at.UnlinkFile k n p) tt may some asks_for
  from_row (at.ReadFile k n begun reading) d late P first may some asks_for =
      late_row c (record d { row = at.ReadFile k n begun reading }) x P refl tt read wrote got (at.ReadFile k n begun reading) tt may some asks_for
  from_row (at.FindTodo again) d late P first may some asks_for = late_row c (record d { row = at.FindTodo again }) x P refl tt read wrote got (at.FindTodo again) tt may some asks_for
  from_row at.InTodo d late P first may some asks_for = late_row c (record d { row = at.InTodo }) x P refl tt read wrote got at.InTodo tt may some asks_for
  from_row (at.Finish row n) d late P first may some asks_for = late_row c (record d { row = at.Finish row n }) x P refl tt read wrote got (at.Finish row n) tt may some asks_for
  from_row (at.Sweep row) d late P first may some asks_for = late_row c (record d { row = at.Sweep row }) x P refl tt read wrote got (at.Sweep row) tt may some asks_for
  from_row (at.Ended status) d late P first may some asks_for = absurd may

first_quiet : (turns : Option ℕ) → IsQuiet (begun turns)
first_quiet turns = record { free = free; unread = unread }
  where
    free : (c : Channel) (slot : ℕ) → attempt_in (lane c (begun turns).slots).slots slot ≡ None
    free Local slot = no_attempt 0 slot
    free Remote slot = no_attempt 0 slot

    unread : (c : Channel) → (link c (begun turns)).reader ≡ AtBegin
    unread Local = refl
    unread Remote = refl

pub senders_keep : SendersKeep
senders_keep = record {
  begins = λ turns early. first_quiet turns;
  goes_on = λ c d event wrote x P first it.
      let row = row_now d event.read event.ready in
      let may : MayCome (due_at row d) event.came = subst (λ (n : NeedData). MayCome n event.came) it.due it.may in
      let w = from_row c x event.read event.ready event.came wrote d.row d it.late P first may (λ e. it.takes (it.due ∙ e)) (λ text e. it.gives text (it.due ∙ e)) in
      let same : due_at row d ≡ event.due = sym it.due in
      record {
        last = w.last;
        keeps = subst (λ (n : NeedData). Posted (with_desk c (moved d event) (record x { asked = asked_on c n event.came wrote x.asked; told = told_on c n event.came x.told; last = w.last }))) same w.keeps;
        first = w.first;
        asks = w.asks;
        flies = w.flies;
      };
}
