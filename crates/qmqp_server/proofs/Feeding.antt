-- An injector that is fed a package, and takes its turns.
use Rattle.std.proofs.Common.{◌≡◌, ◌≢◌, ◌⊎◌, inl, inr, ℕ, ◌+◌, ◌≤◌, ◌<◌, List, [], ◌∷◌, ◌++◌, length, take, Bool, true, false, Option, Some, None, refl, sym, ap, ◌∙◌, subst, arith, append_assoc}
use Rattle.std.specs.Prelude.{All}
use Rattle.std.proofs.lemmas.List.{append-nil, take_all}
use Rattle.std.proofs.lemmas.List.Elements.{All-head, All-nil, All-tail}
use Rattle.mail_bytes.specs.Texts.{HasNoNul}
use Rattle.mail_bytes.specs.Netstring.{head}
use Rattle.call_fs.specs.declared.program.TheConstants.{INPUT_READY}
use Rattle.program_runner.specs.Outside.{Outside as Around}
use Rattle.program_runner.specs.Runs.{IsTurn, MayTurn}
use Rattle.queue_inject.specs.declared.injection.Arguments.{Arguments}
use Rattle.queue_inject.specs.declared.injection.InputEnd.TheVariants as ends
use Rattle.queue_inject.specs.declared.injection.Part.{Part}
use Rattle.queue_inject.specs.declared.injection.Part.TheVariants.{Message, Envelope}
use Rattle.queue_inject.specs.declared.intake.Verdict.TheVariants as verdict
use Rattle.queue_inject.specs.declared.row.Row.{Row}
use Rattle.queue_inject.specs.declared.row.Row.TheVariants as row
use Rattle.queue_inject.specs.Rows.{part_in}
use Rattle.queue_inject.specs.Table.{Next}
use Rattle.call_fs.specs.declared.past.Own.{Own}
use Rattle.queue_inject.specs.Machine.{Machine, asks, over_by, room_of}
use Rattle.queue_inject.specs.Machine.{Heard as Text}
use Rattle.queue_inject.specs.Stands.{Continues, Ends, ReadsOn, HearsTodo, verdict_of}
use Rattle.queue_inject.specs.Stands.{Stands as Holds, Hears as Keeping}
use Rattle.queue_inject.proofs.Kept.{asked_by}
use Rattle.queue_command.specs.Inputs.{Heard, Stream, unread}
use Rattle.queue_command.specs.Runs.{Who}
use Rattle.queue_command.proofs.Feeding.{step_bytes, step_end}
use Rattle.queue_command.proofs.Going.{IsGoing, Became, part_of as outside_of, goes_fed, goes_may, goes_turned, goes_to_end}
use Rattle.queue_command.proofs.Keeping.{Keeps, open_to}
use Rattle.queue_command.proofs.Possible.{some_arguments, some_possible}
use Rattle.qmqp_server.specs.declared.reader.Place.{Place}
use Rattle.qmqp_server.specs.declared.reader.Place.TheVariants as place
use Rattle.qmqp_server.specs.declared.reader.Next.TheVariants as next
use Rattle.qmqp_server.specs.declared.reader.Reader.{Reader}
use Rattle.qmqp_server.specs.Package.{IsNulTold}
use Rattle.qmqp_server.specs.Sources.{Takes}
use Rattle.qmqp_server.specs.inside.Places.Got.{InMessage, Between, InAddress, Whole}
use Rattle.qmqp_server.specs.inside.Places.{Got, addresses_of, records, letter_after, heard_of, heard_on, part_of, heads_at, heads_of, IsNew, left_of, is_over_at, is_over, StandsAt, Stands, portion_of, Breaks, GoesOn, FindsNul, Steps}
use Rattle.qmqp_server.specs.inside.Feeding.Hears.{All_, ToNul, ToFault}
use Rattle.qmqp_server.specs.inside.Feeding.{unfed, IsFedOf, FeedsNext, IsStopped, Hears, HasFed}
use Rattle.qmqp_server.proofs.Envelopes.{records_more, no_envelope, whole_verdict}
use Rattle.qmqp_server.proofs.Taken.{stream, takes_none, takes_then, dry_if_cut}

-- What it asks for

-- one that was told that its input can't be read on asks for no more
not_stopped : (m : Machine) (heard : Heard) (part : Part) → asks m ≡ Some part → Keeps m heard → IsStopped heard → ⊥
not_stopped m heard Message e k (inl unread) = let asked = (open_to m heard Message e k).1.0 in let no : None ≡ Some ends.Unread = sym asked ∙ unread in absurd (cc)
not_stopped m heard Message e k (inr (whole, over, none)) = let asked = (open_to m heard Message e k).1.0 in let no : None ≡ Some ends.Whole = sym asked ∙ whole in absurd (cc)
not_stopped m heard Envelope e k (inl unread) = let turn = (open_to m heard Envelope e k).0 in let no : Some ends.Whole ≡ Some ends.Unread = sym turn ∙ unread in absurd (cc)
not_stopped m heard Envelope e k (inr (whole, over, none)) = let asked = (open_to m heard Envelope e k).1.0 in let no : None ≡ Some ends.Unread = sym asked ∙ over in absurd (cc)

-- it asks for the part that is read
asked_part : (m : Machine) (got : Got) (part : Part) → asks m ≡ Some part → Keeps m (heard_of got) → part ≡ part_of got
asked_part m (InMessage t) Message e k = refl
asked_part m (InMessage t) Envelope e k = let turn : None ≡ Some ends.Whole = (open_to m (heard_of (InMessage t)) Envelope e k).0 in absurd (cc)
asked_part m (Between a tos) Message e k = let asked : Some ends.Whole ≡ None = (open_to m (heard_of (Between a tos)) Message e k).1.0 in absurd (cc)
asked_part m (Between a tos) Envelope e k = refl
asked_part m (InAddress a tos t) Message e k = let asked : Some ends.Whole ≡ None = (open_to m (heard_of (InAddress a tos t)) Message e k).1.0 in absurd (cc)
asked_part m (InAddress a tos t) Envelope e k = refl
asked_part m (Whole a s rs) Message e k = let asked : Some ends.Whole ≡ None = (open_to m (heard_of (Whole a s rs)) Message e k).1.0 in absurd (cc)
asked_part m (Whole a s rs) Envelope e k = refl

-- an envelope that is still asked for isn't whole
open_verdict : (r : Row) (text : Text) (args : Arguments) → part_in r ≡ Some Envelope → text.verdict ≡ verdict.Open → text.fed ≡ length args.envelope → Keeping r text args
    → verdict_of args.envelope ≡ verdict.Open
open_verdict (row.AppendTodo n fd done) text args of going size hears =
    let on : ReadsOn text args done = subst (λ v. HearsTodo v text args done) going hears in
    ap verdict_of (sym (take_all text.fed args.envelope (omega arith))) ∙ sym on.read.verdict_is ∙ going
open_verdict r text args of going size hears = absurd (cc)

whole_unasked : (who : Who) (start : ℕ) (m : Machine) (a s : List ℕ) (rs : List (List ℕ)) (old now : Around) → asks m ≡ Some Envelope → All HasNoNul (s ∷ rs)
    → IsGoing who start m (heard_of (Whole a s rs)) old now → ⊥
whole_unasked who start m a s rs old now e plain b =
    let heard : Heard = heard_of (Whole a s rs) in
    let args = some_arguments who start heard in
    let holds = b.running.holds args (some_possible who start heard) in
    let asked = asked_by m.heard.verdict m.row Envelope e in
    let still = open_to m heard Envelope e b.keeps in
    whole_verdict s rs (All-head HasNoNul s rs plain, All-tail HasNoNul s rs plain) (open_verdict m.row m.heard args asked.1 asked.0 still.1.1 holds.hears)

-- Before its last NUL

abbrev is_whole : Got → Bool
is_whole (InMessage t) = false
is_whole (Between m tos) = false
is_whole (InAddress m tos t) = false
is_whole (Whole m s rs) = true

under_way : (p : Place) (rest letter : ℕ) (got : Got) (read : List ℕ) → StandsAt p rest letter got read → is_whole got ≡ false → is_over_at p ≡ false
under_way (place.Message left) rest letter got read stood e = refl
under_way place.Between rest letter got read stood e = refl
under_way (place.Address left) rest letter got read stood e = refl
under_way place.Over rest letter (Whole m s rs) read stood e = absurd (cc)
under_way place.Over rest letter (InMessage t) read stood e = absurd stood
under_way place.Over rest letter (Between m tos) read stood e = absurd stood
under_way place.Over rest letter (InAddress m tos t) read stood e = absurd stood
under_way (place.Broken fault) rest letter got read stood e = absurd stood

not_whole : (p : Place) (rest letter : ℕ) (got : Got) (read : List ℕ) → StandsAt p rest letter got read → is_over_at p ≡ false → is_whole got ≡ false
not_whole p rest letter (InMessage t) read stood e = refl
not_whole p rest letter (Between m tos) read stood e = refl
not_whole p rest letter (InAddress m tos t) read stood e = refl
not_whole (place.Message left) rest letter (Whole m s rs) read stood e = absurd stood
not_whole place.Between rest letter (Whole m s rs) read stood e = absurd stood
not_whole (place.Address left) rest letter (Whole m s rs) read stood e = absurd stood
not_whole place.Over rest letter (Whole m s rs) read stood e = absurd (cc)
not_whole (place.Broken fault) rest letter (Whole m s rs) read stood e = absurd stood

-- told then that its input can't be read on, it has no envelope
stopped : (got : Got) → is_whole got ≡ false → All HasNoNul (addresses_of got) → IsStopped (heard_on (part_of got) (heard_of got) unfed)
stopped (InMessage t) e plain = inl refl
stopped (Between m tos) e plain = inr (refl, refl, no_envelope tos (records tos ++ []) [] plain (append-nil (records tos ++ []) ∙ append-nil (records tos)))
stopped (InAddress m tos t) e plain = inr (
  refl,
  refl,
  no_envelope (tos ++ t ∷ []) ((records tos ++ letter_after tos ∷ t) ++ []) (0 ∷ []) plain
      (ap (λ b. b ++ 0 ∷ []) (append-nil (records tos ++ letter_after tos ∷ t)) ∙ sym (records_more tos t)),
)
stopped (Whole m s rs) e plain = absurd (cc)

-- A run that is fed

-- An injector that goes on, and heard so much of a package.
pub record IsFeeding (who : Who) (start : ℕ) (first r : Reader) (m : Machine) (s : Stream) (old now : Around) : Type 0 where
  pub more : List ℕ
  pub takes : Takes more s
  pub heard : Heard
  pub going : IsGoing who start m heard old now
  pub hears : Hears r (heads_of first ++ more) heard s

pub plain_of : (r : Reader) (got : Got) → r.has_nul ≡ false → IsNulTold r.has_nul (addresses_of got) → All HasNoNul (addresses_of got)
plain_of r got none told = subst (λ has. IsNulTold has (addresses_of got)) none told

new_value : (left rest : ℕ) → length (head left) + (left + (1 + rest)) ≤ 1073741824
    → StandsAt (place.Message left) rest 70 (InMessage []) (heads_at (place.Message left) rest ++ [])
new_value left rest short =
    let none : left ≡ left + 0 = omega arith in
    let promised : ℕ = length (head left) + (left + (1 + rest)) in (
      record {
        promised = promised;
        text = append-nil (head promised ++ head left) ∙ ap (λ t. head promised ++ t) (ap head none ∙ sym (append-nil (head (left + 0))));
        size = let heads = ap (λ k. length (head k)) none in omega arith;
        short = short;
      },
      refl,
    )

new_stands : (r : Reader) → IsNew r → Stands r (InMessage []) (heads_of r ++ [])
new_stands r new = record {
  texts = subst (λ p. StandsAt p r.rest r.letter (InMessage []) (heads_at p r.rest ++ [])) (sym new.place)
      (subst (λ letter. StandsAt (place.Message new.left) r.rest letter (InMessage []) (heads_at (place.Message new.left) r.rest ++ [])) (sym new.letter) (new_value new.left r.rest new.short));
  nul = subst (λ has. IsNulTold has []) (sym new.nul) (All-nil HasNoNul);
}

module _ (who : Who) (start : ℕ) where
  pub feeding_new : (r : Reader) (m : Machine) (left : Option (List ℕ)) (faults : ℕ) (o : Around) → IsNew r → IsGoing who start m (record { message = unread; envelope = unread }) o o
      → IsFeeding who start r r m (stream left faults left faults) o o
  feeding_new r m left faults o new going = record {
    more = [];
    takes = takes_none left faults;
    heard = record { message = unread; envelope = unread };
    going = going;
    hears = All_ (InMessage []) (new_stands r new) new.nul refl;
  }

  -- while it asks for more, the package goes on
  module _ (first r : Reader) (m : Machine) (s : Stream) (old now : Around) where
    unasked : (part : Part) → asks m ≡ Some part → (heard : Heard) (read : List ℕ) → IsGoing who start m heard old now → Hears r read heard s → is_over r ≡ false
    unasked part e heard read going (All_ got stands none is) =
        let here : IsGoing who start m (heard_of got) old now = subst (λ h. IsGoing who start m h old now) is going in
        under_way r.place r.rest r.letter got read stands.texts (by_got got (asked_part m got part e here.keeps) (plain_of r got none stands.nul) here) where
          by_got : (got : Got) → part ≡ part_of got → All HasNoNul (addresses_of got) → IsGoing who start m (heard_of got) old now → is_whole got ≡ false
          by_got (InMessage t) of plain here = refl
          by_got (Between a tos) of plain here = refl
          by_got (InAddress a tos t) of plain here = refl
          by_got (Whole a s rs) of plain here = absurd (whole_unasked who start m a s rs old now (e ∙ ap Some of) plain here)
    unasked part e heard read going (ToNul got stands has stop) = absurd (not_stopped m heard part e going.keeps stop)
    unasked part e heard read going (ToFault breaks stop) = absurd (not_stopped m heard part e going.keeps stop)

    pub still_reads : (part : Part) → asks m ≡ Some part → IsFeeding who start first r m s old now → is_over r ≡ false
    still_reads part e b = unasked part e b.heard (heads_of first ++ b.more) b.going b.hears

  module _ (first r q : Reader) (m n : Machine) (a b c : Option (List ℕ)) (f g h : ℕ) (old now : Around) (part : Part) (e : asks m ≡ Some part) where
    fed_after : (got : Got) (read before more : List ℕ) → is_over r ≡ false → Takes before (stream a f b g) → Takes more (stream b g c h) → Stands r got read → r.has_nul ≡ false → read ≡ heads_of first ++ before
        → IsGoing who start m (heard_of got) old now → IsFedOf m n r q got (read ++ more) (stream b g c h) → IsFeeding who start first q n (stream a f c h) old now
    fed_after got read before more under took taking stands none is going fed =
        let of = asked_part m got part e going.keeps in
        let on : read ++ more ≡ heads_of first ++ (before ++ more) = ap (λ t. t ++ more) is ∙ append_assoc (heads_of first) before more in
        record {
          more = before ++ more;
          takes = takes_then a b c f g h before more took taking;
          heard = heard_on (part_of got) (heard_of got) fed.portion;
          going = goes_fed who start m n (heard_of got) (part_of got) fed.portion old now (e ∙ ap Some of) fed.fed going;
          hears = subst (λ t. Hears q t (heard_on (part_of got) (heard_of got) fed.portion) (stream a f c h)) on (by_outcome fed.outcome);
        } where
          stop : fed.portion ≡ unfed → IsStopped (heard_on (part_of got) (heard_of got) fed.portion)
          stop none_fed = subst (λ p. IsStopped (heard_on (part_of got) (heard_of got) p)) (sym none_fed)
              (stopped got (not_whole r.place r.rest r.letter got read stands.texts under) (plain_of r got none stands.nul))

          by_outcome : GoesOn r q got (read ++ more) fed.portion ⊎ ((fed.portion ≡ unfed) × (FindsNul q got (read ++ more) ⊎ Breaks q (read ++ more) (stream b g c h)))
              → Hears q (read ++ more) (heard_on (part_of got) (heard_of got) fed.portion) (stream a f c h)
          by_outcome (inl goes) = All_ goes.later goes.stands (goes.nul ∙ none) (sym goes.gives)
          by_outcome (inr (none_fed, inl nul)) = ToNul nul.later nul.stands nul.nul (stop none_fed)
          by_outcome (inr (none_fed, inr breaks)) = ToFault
              (record { fault = breaks.fault; place = breaks.place; broken = breaks.broken; dry = dry_if_cut breaks.fault a b c f g h took.counts breaks.dry })
              (stop none_fed)

    by_hears : (heard : Heard) (before : List ℕ) → is_over r ≡ false → Takes before (stream a f b g) → IsGoing who start m heard old now → Hears r (heads_of first ++ before) heard (stream a f b g)
        → FeedsNext m n r q (stream b g c h) → IsFeeding who start first q n (stream a f c h) old now
    by_hears heard before under took going (All_ got stands none is) feeds =
        fed_after got (heads_of first ++ before) before feeds.more under took feeds.takes stands none refl
        (subst (λ k. IsGoing who start m k old now) is going) (feeds.on got (heads_of first ++ before) stands)
    by_hears heard before under took going (ToNul got stands has stop) feeds = absurd (not_stopped m heard part e going.keeps stop)
    by_hears heard before under took going (ToFault breaks stop) feeds = absurd (not_stopped m heard part e going.keeps stop)

    pub feeding_fed : is_over r ≡ false → IsFeeding who start first r m (stream a f b g) old now → FeedsNext m n r q (stream b g c h) → IsFeeding who start first q n (stream a f c h) old now
    feeding_fed under b feeds = by_hears b.heard b.more under b.takes b.going b.hears feeds

  pub feeding_may : (first r : Reader) (m : Machine) (s : Stream) (old mid : Around) → IsFeeding who start first r m s old mid → MayTurn Next (Holds m) INPUT_READY mid.disk
  feeding_may first r m s old mid b = goes_may who start m b.heard old mid b.going

  module _ (first r : Reader) (m n : Machine) (s : Stream) (old mid new : Around) (b : IsFeeding who start first r m s old mid) where
    pub feeding_turned : (ended : Option ℕ) → ended ≡ None → IsTurn Next (Holds m) (Holds n) (Became m n) INPUT_READY ended mid new → IsFeeding who start first r n s old new
    feeding_turned ended none t = record {
      more = b.more;
      takes = b.takes;
      heard = b.heard;
      going = goes_turned who start m n b.heard old mid new b.going ended none t;
      hears = b.hears;
    }

    pub feeding_ended : (ended : Option ℕ) (status : ℕ) → ended ≡ Some status → IsTurn Next (Holds m) (Holds n) (Became m n) INPUT_READY ended mid new
        → HasFed who start first r s (outside_of old) (outside_of new) status
    feeding_ended ended status is t = record {
      more = b.more;
      takes = b.takes;
      heard = b.heard;
      hears = b.hears;
      ran = goes_to_end who start m n b.heard old mid new b.going ended status is t;
    }

-- One feeding

module _ (m n : Machine) (r q : Reader) (s : Stream) (most : ℕ) (buffer : List ℕ) (nearer : left_of q < left_of r) (some : 0 < room_of m) where
  pub feeds_bytes : (count : ℕ) → Steps (next.Bytes count) r q most s buffer → length (take count buffer) ≤ room_of m
      → ((args : Arguments) (past : List Own) → Holds m args past → Continues m args (take count buffer) → Holds n args past)
      → n ≡ record m { heard = n.heard } → n.heard.fed ≡ m.heard.fed + length (take count buffer) → (asks m ≡ Some Message → n.heard.verdict ≢ verdict.Whole)
      → FeedsNext m n r q s
  feeds_bytes count steps fits stands rest fed message = record {
    row = ap (λ (k : Machine). k.row) rest;
    more = steps.more;
    takes = steps.takes;
    nearer = nearer;
    on = λ got read stood. record {
      portion = portion_of (next.Bytes count) buffer;
      fed = step_bytes m n (take count buffer) some fits stands rest fed message;
      outcome = inl (steps.on got read stood);
    };
  }

  pub feeds_end : Steps next.MessageOver r q most s buffer → ((args : Arguments) (past : List Own) → Holds m args past → Ends m args ends.Whole → Holds n args past)
      → n ≡ record m { heard = over_by (asks m) m.heard ends.Whole } → asks n ≡ None → FeedsNext m n r q s
  feeds_end steps stands over none = record {
    row = ap (λ (k : Machine). k.row) over;
    more = steps.more;
    takes = steps.takes;
    nearer = nearer;
    on = λ got read stood. record {
      portion = portion_of next.MessageOver buffer;
      fed = step_end m n ends.Whole some stands over none;
      outcome = inl (steps.on got read stood);
    };
  }

  pub feeds_nothing : Steps next.Nothing r q most s buffer → ((args : Arguments) (past : List Own) → Holds m args past → Ends m args ends.Unread → Holds n args past)
      → n ≡ record m { heard = over_by (asks m) m.heard ends.Unread } → asks n ≡ None → FeedsNext m n r q s
  feeds_nothing steps stands over none = record {
    row = ap (λ (k : Machine). k.row) over;
    more = steps.more;
    takes = steps.takes;
    nearer = nearer;
    on = λ got read stood. record {
      portion = unfed;
      fed = step_end m n ends.Unread some stands over none;
      outcome = inr (refl, steps.on got read stood);
    };
  }
