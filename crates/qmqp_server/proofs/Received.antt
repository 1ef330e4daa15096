-- A whole package, from its parts.
use Rattle.std.proofs.Common.{◌≡◌, ◌≢◌, ◌⊎◌, inl, inr, ⊎_elim, ℕ, ◌≤◌, ◌<◌, ◌^◌, List, [], ◌∷◌, ◌++◌, length, take, Bool, true, false, if◌then◌else◌, nat_lt, Option, Some, None, refl, sym, ap, ◌∙◌, subst, arith}
use Rattle.std.specs.Prelude.{All, slice_get}
use Rattle.std.specs.Option.{option_or}
use Rattle.std.proofs.lemmas.List.{append-nil}
use Rattle.std.proofs.lemmas.List.Elements.{All-head, All-nil, All-tail}
use Rattle.mail_bytes.specs.Texts.{HasNoNul}
use Rattle.mail_bytes.specs.Told.{Records}
use Rattle.call_fs.specs.declared.program.TheConstants.{INPUT_READY}
use Rattle.envelope_records.specs.Envelope.{HasEnvelope, Reading, read_envelope}
use Rattle.envelope_records.specs.Envelope.Reading.{Whole as WholeOne, Open, Broken}
use Rattle.envelope_records.proofs.Envelopes.{sound_as}
use Rattle.queue_inject.specs.declared.injection.InputEnd.TheVariants as ends
use Rattle.queue_inject.specs.Causes.{first_fault}
use Rattle.queue_inject.specs.Texts.{limit, message_end, envelope_text, message_text, intd_text, envelope_of as envelope_read}
use Rattle.queue_command.specs.Inputs.{BeginsBy, Begins as IsBegunBy, Portion, Heard, Stream}
use Rattle.queue_command.specs.Runs.{IsPossible, Outside, Who}
use Rattle.queue_command.proofs.Complete.{may_be_queued}
use Rattle.queue_command.proofs.Possible.{some_end, some_arguments, some_possible}
use Rattle.queue_command.proofs.Whole.{HaveCauses}
use Rattle.qmqp_server.specs.declared.reader.Place.{Place}
use Rattle.qmqp_server.specs.declared.reader.Place.TheVariants as place
use Rattle.qmqp_server.specs.declared.reader.PackageFault.{PackageFault}
use Rattle.qmqp_server.specs.declared.reader.Beginning.TheVariants as begins
use Rattle.qmqp_server.specs.declared.reader.Reader.{Reader}
use Rattle.qmqp_server.specs.Package.{IsPackage, IsNulTold, content_of, envelope_of, longest}
use Rattle.qmqp_server.specs.Answers.{answer_of}
use Rattle.qmqp_server.specs.Received.{arguments_of, IsPlainPackage, HasInjected, Sunk, IsGiven, IsUngiven, status_of, HasReceived}
use Rattle.qmqp_server.specs.Received.HasReceived.{Refused, NoPackage, NoMemory, Answered}
use Rattle.qmqp_server.specs.Sources.{Takes}
use Rattle.qmqp_server.specs.Faults.{IsBroken, IsDryIfCut}
use Rattle.qmqp_server.specs.inside.Places.Got.{InMessage, Between, InAddress, Whole}
use Rattle.qmqp_server.specs.inside.Places.{Got, addresses_of, records, letter_after, heard_of, heads_of, is_over_at, is_over, StandsAt, Breaks, Begins, Suits, ReadsOn, PassesOver}
use Rattle.qmqp_server.specs.inside.Whole.{HasReceivedFrom}
use Rattle.qmqp_server.specs.inside.Feeding.Hears.{All_, ToNul, ToFault}
use Rattle.qmqp_server.specs.inside.Feeding.{IsStopped, Hears, HasFed}
use Rattle.qmqp_server.proofs.Envelopes.{records_more, no_envelope, longer}
use Rattle.qmqp_server.proofs.Feeding.{plain_of}
use Rattle.qmqp_server.proofs.Passing.{suits_self}
use Rattle.qmqp_server.proofs.Taken.{dry_if_cut, stream, takes_then}

-- What an injector heard that has queued its message

or_none : (a b : Option ℕ) → option_or a b ≡ None → (a ≡ None) × (b ≡ None)
or_none None b is = (refl, is)
or_none (Some x) b is = absurd (cc)

unread_fails : (t : Bool) → (if t then Some 31 else message_end ends.Unread) ≢ None
unread_fails true = λ e. absurd (cc)
unread_fails false = λ e. absurd (cc)

-- its envelope begins what it heard
pub whole_heard : (who : Who) (start : ℕ) (heard : Heard) → first_fault (some_arguments who start heard) ≡ None
    → (heard.message.end ≢ Some ends.Unread) × ((s : List ℕ) × (rs : List (List ℕ)) × HasEnvelope heard.envelope.bytes s rs)
unfolding message_text intd_text envelope_read
whole_heard who start heard none =
    let args = some_arguments who start heard in
    let both = or_none (message_text args).fault (intd_text args).fault none in (
      λ unread. unread_fails (nat_lt limit (length args.message)) (ap (λ end. if nat_lt limit (length args.message) then Some 31 else message_end (some_end end)) (sym unread) ∙ both.0),
      by_reading (read_envelope (take limit args.envelope)) refl both.1,
    ) where
      by_reading : (r : Reading) → read_envelope (take limit heard.envelope.bytes) ≡ r
          → (envelope_text r (some_end heard.envelope.end) (slice_get heard.envelope.bytes limit)).fault ≡ None → (s : List ℕ) × (rs : List (List ℕ)) × HasEnvelope heard.envelope.bytes s rs
      by_reading (WholeOne s rs) e none = (s, rs, longer limit heard.envelope.bytes s rs (sound_as (take limit heard.envelope.bytes) (WholeOne s rs) e))
      by_reading (Open stage) e none = absurd (cc)
      by_reading (Broken before fault) e none = absurd (cc)

stopped_fails : (who : Who) (start : ℕ) (heard : Heard) → IsStopped heard → first_fault (some_arguments who start heard) ≢ None
stopped_fails who start heard (inl unread) = λ none. (whole_heard who start heard none).0 unread
stopped_fails who start heard (inr (whole, over, bare)) = λ none. let has = (whole_heard who start heard none).1 in bare has.0 has.1 has.2

-- it heard the last NUL
all_heard : (got : Got) → All HasNoNul (addresses_of got) → (s : List ℕ) (rs : List (List ℕ)) → HasEnvelope (heard_of got).envelope.bytes s rs
    → (m : List ℕ) × (sender : List ℕ) × (recipients : List (List ℕ)) × (got ≡ Whole m sender recipients)
all_heard (InMessage t) plain s rs has = absurd (no_envelope [] [] [] (All-nil HasNoNul) refl s rs has)
all_heard (Between m tos) plain s rs has = absurd (no_envelope tos (records tos) [] plain (append-nil (records tos)) s rs has)
all_heard (InAddress m tos t) plain s rs has = absurd (no_envelope (tos ++ t ∷ []) (records tos ++ letter_after tos ∷ t) (0 ∷ []) plain (sym (records_more tos t)) s rs has)
all_heard (Whole m sender recipients) plain s rs has = (m, sender, recipients, refl)

-- What stands at the last comma

over_whole : (p : Place) (rest letter : ℕ) (m s : List ℕ) (rs : List (List ℕ)) (read : List ℕ) → StandsAt p rest letter (Whole m s rs) read → (p ≡ place.Over) × IsPackage read m s rs
over_whole place.Over rest letter m s rs read stood = (refl, stood.0)
over_whole (place.Message left) rest letter m s rs read stood = absurd stood
over_whole place.Between rest letter m s rs read stood = absurd stood
over_whole (place.Address left) rest letter m s rs read stood = absurd stood
over_whole (place.Broken fault) rest letter m s rs read stood = absurd stood

-- These are the texts of a package that was read whole.
pub record IsRead (got : Got) (read : List ℕ) : Type 0 where
  pub message : List ℕ
  pub sender : List ℕ
  pub recipients : List (List ℕ)
  pub is : got ≡ Whole message sender recipients
  pub is_package : IsPackage read message sender recipients
  pub short : length (content_of message sender recipients) ≤ longest

whole_over : (p : Place) (rest letter : ℕ) (got : Got) (read : List ℕ) → StandsAt p rest letter got read → is_over_at p ≡ true → IsRead got read
whole_over place.Over rest letter (Whole m s rs) read stood e = record { message = m; sender = s; recipients = rs; is = refl; is_package = stood.0; short = stood.1 }
whole_over place.Over rest letter (InMessage t) read stood e = absurd stood
whole_over place.Over rest letter (Between m tos) read stood e = absurd stood
whole_over place.Over rest letter (InAddress m tos t) read stood e = absurd stood
whole_over (place.Message left) rest letter got read stood e = absurd (cc)
whole_over place.Between rest letter got read stood e = absurd (cc)
whole_over (place.Address left) rest letter got read stood e = absurd (cc)
whole_over (place.Broken fault) rest letter got read stood e = absurd stood

not_broken : (p : Place) (rest letter : ℕ) (got : Got) (read : List ℕ) (fault : PackageFault) → StandsAt p rest letter got read → p ≡ place.Broken fault → ⊥
not_broken (place.Broken other) rest letter got read fault stood e = stood
not_broken (place.Message left) rest letter got read fault stood e = absurd (cc)
not_broken place.Between rest letter got read fault stood e = absurd (cc)
not_broken (place.Address left) rest letter got read fault stood e = absurd (cc)
not_broken place.Over rest letter got read fault stood e = absurd (cc)

-- An input that is the package's

message_begins : (p : Portion) (m : List ℕ) → (p ≡ record { bytes = m; end = Some ends.Whole }) ⊎ ((p.end ≡ None) × (rest : List ℕ) × (m ≡ p.bytes ++ rest)) → IsBegunBy m ends.Whole p
message_begins p m (inl same) = subst (λ (q : Portion). IsBegunBy m ends.Whole q) (sym same) (refl, refl)
message_begins p m (inr (over, rest, is)) = subst (λ end. BeginsBy end m ends.Whole p.bytes) (sym over) (rest, is)

possible_whole : (who : Who) (start : ℕ) (heard : Heard) (m s : List ℕ) (rs : List (List ℕ)) → Suits heard (heard_of (Whole m s rs)) → IsPossible who start heard (arguments_of who start m s rs)
possible_whole who start heard m s rs suits = record {
  started = record { uid_is = refl; pid_is = refl; invoked_is = refl; start_is = refl };
  message = message_begins heard.message m suits.message;
  envelope = subst (λ end. BeginsBy end (envelope_of s rs) ends.Whole heard.envelope.bytes) (sym suits.envelope_end) (suits.envelope_rest, suits.envelope);
}

-- An injection, and what was read after it

module _ (who : Who) (start : ℕ) (law : HaveCauses) (low : who.pid < 2 ^ 32) (soon : start < 2 ^ 64) (reader r q : Reader) (first a b c : Option (List ℕ)) (e f g h : ℕ)
    (old new : Outside) (moments : Option (List ℕ)) (ended : ℕ) (started : Records old.moments moments start)
    (heads : Takes (heads_of reader) (stream first e a f)) (fed : HasFed who start reader r (stream a f b g) (record old { moments = moments }) new ended)
    (passed : PassesOver r q (stream b g c h)) where
  -- all that was read
  abbrev read_first : List ℕ
  read_first = heads_of reader ++ fed.more

  abbrev read_all : List ℕ
  read_all = read_first ++ passed.more

  takes_all : Takes read_all (stream first e c h)
  takes_all = takes_then first b c e g h read_first passed.more (takes_then first a b e f g (heads_of reader) fed.more heads fed.takes) passed.takes

  early : e ≤ g
  early = let one = heads.counts in let two = fed.takes.counts in omega arith

  -- If a message was queued, the package was over, and none of its addresses has a NUL.
  queued_by : (heard : Heard) → Hears r read_first heard (stream a f b g) → first_fault (some_arguments who start heard) ≡ None → (r.place ≡ place.Over) × IsPlainPackage read_first
  queued_by heard (All_ got stands none is) well =
      let has = (whole_heard who start heard well).1 in
      let plain = plain_of r got none stands.nul in
      let all = all_heard got plain has.0 has.1 (subst (λ (k : Heard). HasEnvelope k.envelope.bytes has.0 has.1) is has.2) in
      let stood = over_whole r.place r.rest r.letter all.0 all.1 all.2 read_first (subst (λ k. StandsAt r.place r.rest r.letter k read_first) all.3 stands.texts) in
      let addresses : All HasNoNul (all.1 ∷ all.2) = subst (λ k. All HasNoNul (addresses_of k)) all.3 plain in (
        stood.0,
        record {
          message = all.0;
          sender = all.1;
          recipients = all.2;
          is_package = stood.1;
          plain = (All-head HasNoNul all.1 all.2 addresses, All-tail HasNoNul all.1 all.2 addresses);
        },
      )
  queued_by heard (ToNul got stands has stop) well = absurd (stopped_fails who start heard stop well)
  queued_by heard (ToFault breaks stop) well = absurd (stopped_fails who start heard stop well)

  queued : ended ≡ 0 → (r.place ≡ place.Over) × IsPlainPackage read_first
  queued is =
      let args = some_arguments who start fed.heard in
      let here = some_possible who start fed.heard in
      let cause = law args fed.ran.past fed.ran.last INPUT_READY ended (fed.ran.run args here) (fed.ran.ends args here) in
      queued_by fed.heard fed.hears (cause.well.0 is).0

  same_read : is_over r ≡ true → read_all ≡ read_first
  same_read over = ap (λ t. read_first ++ t) (passed.over over).1 ∙ append-nil read_first

  injected : HasInjected who start read_all old new ended
  injected = record {
    first_read = moments;
    started = started;
    heard = fed.heard;
    ran = fed.ran;
    caused = λ args is. law args fed.ran.past fed.ran.last INPUT_READY ended (fed.ran.run args is) (fed.ran.ends args is);
    complete = λ args is. may_be_queued args old.disk new.disk fed.ran.past fed.ran.last ended
        (subst (λ p. p < 2 ^ 32) (sym is.started.pid_is) low) (subst (λ s. s < 2 ^ 64) (sym is.started.start_is) soon) (fed.ran.run args is) fed.ran.disk
        (law args fed.ran.past fed.ran.last INPUT_READY ended (fed.ran.run args is) (fed.ran.ends args is));
    queued = λ is. let both = queued is in subst IsPlainPackage (sym (same_read (ap is_over_at both.0))) both.1;
  }

  -- It is no package

  one_fault : (x y : PackageFault) → ◌≡◌ {A = Place} (place.Broken x) (place.Broken y) → x ≡ y
  one_fault x y is = cc

  broken_on : (got : Got) (fault : PackageFault) → q.place ≡ place.Broken fault → ReadsOn r q got read_all ⊎ Breaks q read_all (stream b g c h) → IsBroken fault read_all × IsDryIfCut fault (stream first e c h)
  broken_on got fault is (inl on) = absurd (not_broken q.place q.rest q.letter on.later read_all fault on.stands.texts is)
  broken_on got fault is (inr breaks) =
      let same = one_fault breaks.fault fault (sym breaks.place ∙ is) in
      (subst (λ k. IsBroken k read_all) same breaks.broken, subst (λ k. IsDryIfCut k (stream first e c h)) same (dry_if_cut breaks.fault first b c e g h early breaks.dry))

  broken_by : (heard : Heard) (fault : PackageFault) → q.place ≡ place.Broken fault → Hears r read_first heard (stream a f b g) → IsBroken fault read_all × IsDryIfCut fault (stream first e c h)
  broken_by heard fault is (All_ got stands none same) = broken_on got fault is (passed.on got read_first stands)
  broken_by heard fault is (ToNul got stands has stop) = broken_on got fault is (passed.on got read_first stands)
  broken_by heard fault is (ToFault breaks stop) =
      let over = ap is_over_at breaks.place in
      let still = passed.over over in
      let same = one_fault breaks.fault fault (sym breaks.place ∙ sym (ap (λ (x : Reader). x.place) still.0) ∙ is) in (
        subst (λ k. IsBroken k read_all) same (subst (λ t. IsBroken breaks.fault t) (sym (same_read over)) breaks.broken),
        subst (λ k. IsDryIfCut k (stream first e c h)) same
            (subst (λ n. IsDryIfCut breaks.fault (stream first e c n)) (sym still.3)
            (subst (λ x. IsDryIfCut breaks.fault (stream first e x g)) (sym still.2)
            (dry_if_cut breaks.fault first a b e f g heads.counts breaks.dry))),
      )

  pub none_received : (fault : PackageFault) (sink : Sunk) → q.place ≡ place.Broken fault → IsUngiven sink → HasReceived who (stream first e c h) old new sink (status_of fault)
  none_received fault sink is ungiven =
      let broken = broken_by fed.heard fault is fed.hears in
      NoPackage (record {
        fault = fault;
        status_is = refl;
        read = read_all;
        takes = takes_all;
        broken = broken.0;
        dry = broken.1;
        injected = inr (
          start,
          ended,
          injected,
          λ zero.
              let both = queued zero in
              let still = passed.over (ap is_over_at both.0) in
              let no : place.Over ≡ place.Broken fault = sym both.0 ∙ sym (ap (λ (x : Reader). x.place) still.0) ∙ is in
              absurd (cc),
        );
        ungiven = ungiven;
      })

  -- It is one

  answered_on : (sink : Sunk) (status : ℕ) (got : Got) → is_over q ≡ true → IsGiven (answer_of q.has_nul ended start who.pid) sink status
      → (q.has_nul ≡ false → Suits fed.heard (heard_of got)) → (on : ReadsOn r q got read_all) → HasReceived who (stream first e c h) old new sink status
  unfolding injected
  answered_on sink status got over given suits on =
      let it = whole_over q.place q.rest q.letter on.later read_all on.stands.texts over in
      Answered (record {
        read = read_all;
        takes = takes_all;
        text = it.message;
        sender = it.sender;
        recipients = it.recipients;
        is_package = it.is_package;
        short = it.short;
        start = start;
        ended = ended;
        it = injected;
        has_nul = q.has_nul;
        nul = subst (λ k. IsNulTold q.has_nul (addresses_of k)) it.is on.stands.nul;
        whole = λ none. possible_whole who start fed.heard it.message it.sender it.recipients
            (subst (λ k. Suits fed.heard (heard_of k)) it.is (on.suits none fed.heard (suits none)));
        given = given;
      })

  answered_by : (sink : Sunk) (status : ℕ) → is_over q ≡ true → ((fault : PackageFault) → q.place ≢ place.Broken fault) → IsGiven (answer_of q.has_nul ended start who.pid) sink status
      → Hears r read_first fed.heard (stream a f b g) → HasReceived who (stream first e c h) old new sink status
  answered_by sink status over sound given (All_ got stands none is) = ⊎_elim
      (λ on. answered_on sink status got over given (λ no. subst (λ k. Suits k (heard_of got)) (sym is) (suits_self got)) on)
      (λ breaks. absurd (sound breaks.fault breaks.place))
      (passed.on got read_first stands)
  answered_by sink status over sound given (ToNul got stands has stop) = ⊎_elim
      (λ on. answered_on sink status got over given (λ none. let no : true ≡ false = sym (on.nul has) ∙ none in absurd (cc)) on)
      (λ breaks. absurd (sound breaks.fault breaks.place))
      (passed.on got read_first stands)
  answered_by sink status over sound given (ToFault breaks stop) =
      absurd (sound breaks.fault (ap (λ (x : Reader). x.place) (passed.over (ap is_over_at breaks.place)).0 ∙ breaks.place))

  pub answered : (sink : Sunk) (status : ℕ) → is_over q ≡ true → ((fault : PackageFault) → q.place ≢ place.Broken fault) → IsGiven (answer_of q.has_nul ended start who.pid) sink status
      → HasReceived who (stream first e c h) old new sink status
  answered sink status over sound given = answered_by sink status over sound given fed.hears

-- Without an injection

pub refused : (who : Who) (s : Stream) (old : Outside) (sink : Sunk) → Begins begins.TooLong s → IsUngiven sink → HasReceived who s old old sink 31
refused who s old sink b ungiven = Refused (record { status_is = refl; read = b.read; takes = b.takes; long = b.begins; outside = refl; ungiven = ungiven })

pub not_begun : (who : Who) (s : Stream) (old : Outside) (sink : Sunk) (fault : PackageFault) → Begins (begins.Broken fault) s → IsUngiven sink → HasReceived who s old old sink (status_of fault)
not_begun who s old sink fault b ungiven =
    NoPackage (record { fault = fault; status_is = refl; read = b.read; takes = b.takes; broken = b.begins.0; dry = b.begins.1; injected = inl refl; ungiven = ungiven })

pub no_memory : (who : Who) (reader : Reader) (a b c : Option (List ℕ)) (e f h : ℕ) (old new : Outside) (sink : Sunk) (moments : Option (List ℕ)) (start : ℕ)
    → Takes (heads_of reader) (stream a e b f) → c ≡ b → h ≡ f → Records old.moments moments start → new.moments ≡ moments
    → new.disk ≡ old.disk → new.calls ≡ old.calls → new.faults ≡ old.faults → IsUngiven sink → HasReceived who (stream a e c h) old new sink 51
no_memory who reader a b c e f h old new sink moments start took left failed read same disk calls faults ungiven = NoMemory (record {
  status_is = refl;
  read = heads_of reader;
  takes = subst (λ x. Takes (heads_of reader) (stream a e x h)) (sym left) (subst (λ n. Takes (heads_of reader) (stream a e b n)) (sym failed) took);
  moments = inr (start, subst (λ m. Records old.moments m start) (sym same) read);
  disk = disk;
  calls = calls;
  faults = faults;
  ungiven = ungiven;
})

-- After the heads

pub from_heads : (reader : Reader) (who : Who) (b c : Option (List ℕ)) (f h : ℕ) (old new : Outside) (sink : Sunk) (status : ℕ)
    → ((a : Option (List ℕ)) (e : ℕ) → Takes (heads_of reader) (stream a e b f) → HasReceived who (stream a e c h) old new sink status)
    → HasReceivedFrom reader who (stream b f c h) old new sink status
from_heads reader who b c f h old new sink status received = λ first took left faults.
    received first.old first.faults_old
    (subst (λ n. Takes (heads_of reader) (stream first.old first.faults_old b n)) faults
    (subst (λ x. Takes (heads_of reader) (stream first.old first.faults_old x first.faults_new)) left took))

pub after_heads : (reader : Reader) (who : Who) (a b c : Option (List ℕ)) (e f h : ℕ) (old new : Outside) (sink : Sunk) (status : ℕ) → Begins (begins.Heads reader) (stream a e b f)
    → HasReceivedFrom reader who (stream b f c h) old new sink status → HasReceived who (stream a e c h) old new sink status
after_heads reader who a b c e f h old new sink status first rest =
    rest (stream a e b f) (subst (λ t. Takes t (stream a e b f)) first.begins.1 first.takes) refl refl
