-- The injectors of a world, with the envelopes that they were given.
use Rattle.std.proofs.Common.{◌≡◌, ◌≢◌, ℕ, suc, ◌+◌, ◌<◌, List, [], ◌∷◌, ◌++◌, length, get_or, set, take, drop, map, reverse, Bool, true, false, bytes_eq, Option, Some, None, refl, sym, ap, ◌∙◌, subst, arith, append_assoc}
use Rattle.std.specs.Prelude.{if◌then◌else◌}
use Rattle.std.specs.List.{AllByRecursion, AllZip}
use Rattle.std.proofs.lemmas.List.{append-nil, drop_all, drop_more, get_or_default, length-map, length-reverse, map-append, reverse-append, reverse-reverse, set_split, take_all, take_at, take_more}
use Rattle.call_fs.specs.declared.past.Own.{Own}
use Rattle.queue_inject.specs.declared.injection.Arguments.{Arguments}
use Rattle.world_events.specs.Inputs.{start_with, with_inputs, with_texts}
use Rattle.world_events.specs.Programs.{injection_of}
use Rattle.world_events.specs.declared.event.Event.{Event as Kept}
use Rattle.world_events.specs.declared.event.Event.TheVariants as kept
use Rattle.world_events.specs.declared.event.Program.{Program}
use Rattle.world_events.specs.declared.event.Program.TheVariants.{Injector, Delivery}
use Rattle.mail_world.specs.Books.{mail_by, mails_of}
use Rattle.queue_law.proofs.Tests.{other_text}
use Rattle.mail_world.specs.History.{Event}
use Rattle.mail_world.specs.History.Event.{Start, Act, Child, Generation, Report, End, Stop, Moment, Halt}
use Rattle.mail_world.specs.World.{Tells}
use Rattle.scenario.specs.declared.showing.Given.{Given}
use Rattle.scenario.specs.Fates.{AreNamedStarts, IsFedSo, IsNamedStart, IsNamedSo, is_delivery_name}
use Rattle.scenario.specs.inside.Fates.{Receiver, given_to, is_given, received_by, receiver, receivers_in}

-- The newest of some injectors that is that child

-- the newest first
abbrev pub turned : List Given → List Receiver
turned given = reverse (map receiver given)

turned_push : (given : List Given) (g : Given) → turned (given ++ g ∷ []) ≡ receiver g ∷ turned given
turned_push given g = ap reverse (map-append receiver given (g ∷ [])) ∙ reverse-append (map receiver given) (receiver g ∷ [])

turned_more : (g : Given) (given : List Given) → turned (g ∷ given) ≡ turned given ++ receiver g ∷ []
turned_more g given = reverse-append (receiver g ∷ []) (map receiver given)

turned_both : (first later : List Given) → turned (first ++ later) ≡ turned later ++ turned first
turned_both first later = ap reverse (map-append receiver first later) ∙ reverse-append (map receiver first) (map receiver later)

-- one injector more, if it is one
pub begins_none : (a : List ℕ) (is_child : Bool) (o : Option Arguments) (given : List Given) → o ≡ None → turned given ≡ received_by a is_child o ++ turned given
begins_none a is_child o given none = ap (λ (o : Option Arguments). received_by a is_child o ++ turned given) (sym none)

pub begins_one : (a : List ℕ) (is_child : Bool) (o : Option Arguments) (args : Arguments) (g : Given) (given new : List Given) → o ≡ Some args → new ≡ given ++ g ∷ []
    → receiver g ≡ record { actor = a; is_child = is_child; envelope = args.envelope } → turned new ≡ received_by a is_child o ++ turned given
begins_one a is_child o args g given new some is same =
    ap turned is ∙ turned_push given g ∙ ap (λ (r : Receiver). r ∷ turned given) same ∙ ap (λ (o : Option Arguments). received_by a is_child o ++ turned given) (sym some)

-- none from this place on is that child
abbrev pub IsPast : List ℕ → List ℕ → List Given → ℕ → Type 0
IsPast c envelope given place = given_to c envelope (turned given) ≡ turned (drop place given) ++ given_to c envelope (turned (take place given))

pub past_all : (c envelope : List ℕ) (given : List Given) → IsPast c envelope given (length given)
past_all c envelope given =
    ap (λ (l : List Given). given_to c envelope (turned l)) (sym (take_all (length given) given (omega arith)))
    ∙ ap (λ (l : List Given). turned l ++ given_to c envelope (turned (take (length given) given))) (sym (drop_all (length given) given (omega arith)))

pub past_none : (c envelope : List ℕ) (given : List Given) → IsPast c envelope given 0 → turned given ≡ given_to c envelope (turned given)
past_none c envelope given past = sym (past ∙ append-nil (turned given))

-- of these, the newest first, the one that is or isn't
given_here : (c envelope : List ℕ) (r : Receiver) (before : List Receiver) → is_given c r ≡ true → given_to c envelope (r ∷ before) ≡ record r { envelope = envelope } ∷ before
given_here c envelope r before is = ap (λ (t : Bool). if t then record r { envelope = envelope } ∷ before else (r ∷ given_to c envelope before)) is

given_further : (c envelope : List ℕ) (r : Receiver) (before : List Receiver) → is_given c r ≡ false → given_to c envelope (r ∷ before) ≡ r ∷ given_to c envelope before
given_further c envelope r before isnt = ap (λ (t : Bool). if t then record r { envelope = envelope } ∷ before else (r ∷ given_to c envelope before)) isnt

module _ (c envelope : List ℕ) (given : List Given) (n : ℕ) (g : Given) (inside : n < length given) (is : get_or given n g ≡ g) where
  abbrev front : List Receiver
  front = turned (take n given)

  abbrev back : List Receiver
  back = turned (drop (n + 1) given)

  one_more : turned (take (n + 1) given) ≡ receiver g ∷ front
  one_more = ap turned (take_more given n g inside ∙ ap (λ (x : Given). take n given ++ x ∷ []) is) ∙ turned_push (take n given) g

  one_less : turned (drop n given) ≡ back ++ receiver g ∷ []
  one_less = ap turned (drop_more given n g inside ∙ ap (λ (x : Given). x ∷ drop (n + 1) given) is) ∙ turned_more g (drop (n + 1) given)

  pub past_more : is_given c (receiver g) ≡ false → IsPast c envelope given (n + 1) → IsPast c envelope given n
  past_more isnt past =
      past
      ∙ ap (λ (l : List Receiver). back ++ given_to c envelope l) one_more
      ∙ ap (λ (l : List Receiver). back ++ l) (given_further c envelope (receiver g) front isnt)
      ∙ sym (append_assoc back (receiver g ∷ []) (given_to c envelope front))
      ∙ ap (λ (l : List Receiver). l ++ given_to c envelope front) (sym one_less)

  pub gives_here : (one : Given) → receiver one ≡ record (receiver g) { envelope = envelope } → is_given c (receiver g) ≡ true → IsPast c envelope given (n + 1) → turned (set given n one) ≡ given_to c envelope (turned given)
  gives_here one new here past =
      ap turned (set_split given n one inside)
      ∙ turned_both (take n given) (one ∷ drop (suc n) given)
      ∙ ap (λ (l : List Given). turned (one ∷ l) ++ front) (let same : suc n ≡ n + 1 = omega arith in ap (λ (k : ℕ). drop k given) same)
      ∙ ap (λ (l : List Receiver). l ++ front) (turned_more one (drop (n + 1) given) ∙ ap (λ (r : Receiver). back ++ r ∷ []) new)
      ∙ append_assoc back (record (receiver g) { envelope = envelope } ∷ []) front
      ∙ ap (λ (l : List Receiver). back ++ l) (sym (given_here c envelope (receiver g) front here))
      ∙ ap (λ (l : List Receiver). back ++ given_to c envelope l) (sym one_more)
      ∙ sym past

-- what stands at a place, however it was read
pub same_at : (given : List Given) (n : ℕ) (g h : Given) → n < length given → g ≡ get_or given n g → h ≡ get_or given n h → g ≡ h
same_at given n g h inside is also = is ∙ get_or_default given n g h inside ∙ sym also

-- as many as before
given_long : (c envelope : List ℕ) (rs : List Receiver) → length (given_to c envelope rs) ≡ length rs
given_long c envelope [] = refl
given_long c envelope (r ∷ rs) = by_name (is_given c r) (given_long c envelope rs) where
  by_name : (t : Bool) → length (given_to c envelope rs) ≡ length rs → length (if t then record r { envelope = envelope } ∷ rs else (r ∷ given_to c envelope rs)) ≡ length (r ∷ rs)
  by_name true same = refl
  by_name false same = ap suc same

turned_long : (given : List Given) → length (turned given) ≡ length given
turned_long given = length-reverse (map receiver given) ∙ length-map given receiver

-- what a vector holds that was given so in place
pub written_over : (len : ℕ) (old new lent : List Given) (c envelope : List ℕ) → lent ≡ old → len ≡ length old → turned new ≡ given_to c envelope (turned lent)
    → turned (take len (new ++ drop (length new) old)) ≡ given_to c envelope (turned old)
written_over len old new lent c envelope e long is =
    let short : length new ≡ length old = sym (turned_long new) ∙ ap length is ∙ given_long c envelope (turned lent) ∙ turned_long lent ∙ ap length e in
    ap turned (take_at new (drop (length new) old) len (short ∙ sym long)) ∙ is ∙ ap (λ (l : List Given). given_to c envelope (turned l)) e

-- Event by event

pub next_kept : (events : List Kept) (i : ℕ) (k : Kept) → i < length events → k ≡ get_or events i k → reverse (take (i + 1) events) ≡ k ∷ reverse (take i events)
next_kept events i k there is =
    ap reverse (take_more events i k there ∙ ap (λ (x : Kept). take i events ++ x ∷ []) (sym is)) ∙ reverse-append (take i events) (k ∷ [])

pub next_received : (events : List Kept) (i : ℕ) (k x : Kept) (new : List Receiver) → i < length events → k ≡ get_or events i k → k ≡ x → new ≡ receivers_in (x ∷ reverse (take i events))
    → new ≡ receivers_in (reverse (take (i + 1) events))
next_received events i k x new there is same now = now ∙ ap receivers_in (sym (next_kept events i k there is ∙ ap (λ (k : Kept). k ∷ reverse (take i events)) same))

-- an event that starts no injector, and gives none its input
pub other_received : (k : Kept) (ks : List Kept) → ((a : List ℕ) (program : Program) → k ≢ kept.Start a program) → ((a : List ℕ) (own : Own) (c : List ℕ) (program : Program) → k ≢ kept.Child a own c program)
    → ((a : List ℕ) (own : Own) (c message envelope : List ℕ) → k ≢ kept.Feed a own c message envelope) → receivers_in ks ≡ receivers_in (k ∷ ks)
other_received (kept.Start a program) ks start child feed = absurd (start a program refl)
other_received (kept.Child a own c program) ks start child feed = absurd (child a own c program refl)
other_received (kept.Feed a own c message envelope) ks start child feed = absurd (feed a own c message envelope refl)
other_received (kept.Act a own) ks start child feed = refl
other_received (kept.Generation start) ks begin child feed = refl
other_received (kept.Report slot letter text) ks start child feed = refl
other_received (kept.End a read ready status) ks start child feed = refl
other_received (kept.Stop a) ks start child feed = refl
other_received (kept.Moment m) ks start child feed = refl
other_received (kept.Halt how) ks start child feed = refl

-- The mails of a history

abbrev pub envelope_in : List ℕ × Arguments → List ℕ
envelope_in mail = mail.1.envelope

abbrev received : Receiver → List ℕ
received r = r.envelope

one_begun : (a : List ℕ) (is_child : Bool) (o : Option Arguments) (rs : List Receiver) (ms : List (List ℕ × Arguments)) → map received rs ≡ reverse (map envelope_in ms)
    → map received (received_by a is_child o ++ rs) ≡ reverse (map envelope_in (ms ++ mail_by a o))
one_begun a is_child None rs ms same = same ∙ ap (λ (l : List (List ℕ × Arguments)). reverse (map envelope_in l)) (sym (append-nil ms))
one_begun a is_child (Some args) rs ms same =
    ap (λ (l : List (List ℕ)). args.envelope ∷ l) same
    ∙ sym (ap reverse (map-append envelope_in ms ((a, args) ∷ [])) ∙ reverse-append (map envelope_in ms) (args.envelope ∷ []))

abbrev Shows : List Kept → List Event → Type 0
Shows ks h = map received (receivers_in ks) ≡ reverse (map envelope_in (mails_of h))

one_told : (k : Kept) (e : Event) (ks : List Kept) (h : List Event) → Tells k e → Shows ks h → Shows (k ∷ ks) (e ∷ h)
one_told k (Start a program) ks h told same = subst (λ (k : Kept). Shows (k ∷ ks) (Start a program ∷ h)) (sym told) (one_begun a false (injection_of program) (receivers_in ks) (mails_of h) same)
one_told k (Child parent own a program) ks h told same =
    subst (λ (k : Kept). Shows (k ∷ ks) (Child parent own a program ∷ h)) (sym told) (one_begun a true (injection_of program) (receivers_in ks) (mails_of h) same)
one_told k (Act a own wrote) ks h told same = subst (λ (k : Kept). Shows (k ∷ ks) h) (sym told) same
one_told k (Generation crew) ks h told same = subst (λ (k : Kept). Shows (k ∷ ks) h) (sym told.1) same
one_told k (Report slot output) ks h told same = subst (λ (k : Kept). Shows (k ∷ ks) h) (sym told.2) same
one_told k (End a read ready status) ks h told same = subst (λ (k : Kept). Shows (k ∷ ks) h) (sym told) same
one_told k (Stop a) ks h told same = subst (λ (k : Kept). Shows (k ∷ ks) h) (sym told) same
one_told k (Moment m) ks h told same = subst (λ (k : Kept). Shows (k ∷ ks) h) (sym told) same
one_told k (Halt how contents) ks h told same = subst (λ (k : Kept). Shows (k ∷ ks) h) (sym told) same

all_told : (ks : List Kept) (h : List Event) → AllZip Tells ks h → Shows ks h
all_told [] [] told = refl
all_told [] (e ∷ h) told = absurd told
all_told (k ∷ ks) [] told = absurd told
all_told (k ∷ ks) (e ∷ h) told = one_told k e ks h told.0 (all_told ks h told.1)

-- An event that a history tells is no giving to a child, and each child is an injector, or a delivery, by its name.
abbrev IsWhole : Kept → Type 0
IsWhole (kept.Child a own c program) = IsNamedSo c program
IsWhole (kept.Feed a own c message envelope) = ⊥
IsWhole k = Unit {0}

whole_event : (k : Kept) (e : Event) → Tells k e → IsNamedStart e → IsWhole k
whole_event k (Start a program) told mail = subst IsWhole (sym told) tt
whole_event k (Act a own wrote) told mail = subst IsWhole (sym told) tt
whole_event k (Child parent own a program) told mail = subst IsWhole (sym told) mail.1
whole_event k (Generation crew) told mail = subst IsWhole (sym told.1) tt
whole_event k (Report slot output) told mail = subst IsWhole (sym told.2) tt
whole_event k (End a read ready status) told mail = subst IsWhole (sym told) tt
whole_event k (Stop a) told mail = subst IsWhole (sym told) tt
whole_event k (Moment m) told mail = subst IsWhole (sym told) tt
whole_event k (Halt how contents) told mail = subst IsWhole (sym told) tt

whole_all : (ks : List Kept) (h : List Event) → AreNamedStarts h → AllZip Tells ks h → AllByRecursion IsWhole ks
whole_all [] [] mails told = tt
whole_all [] (e ∷ h) mails told = absurd told
whole_all (k ∷ ks) [] mails told = absurd told
whole_all (k ∷ ks) (e ∷ h) mails told = (whole_event k e told.0 mails.0, whole_all ks h mails.1 told.1)

-- so it was before a child was given its input
named_before : (a message envelope : List ℕ) (program : Program) → IsNamedSo a (with_texts message envelope program) → IsNamedSo a program
named_before a message envelope (Injector args) is = is
named_before a message envelope other is = is

whole_before : (c message envelope : List ℕ) (ks : List Kept) → AllByRecursion IsWhole (start_with c message envelope ks) → AllByRecursion IsWhole ks
whole_before c message envelope [] whole = tt
whole_before c message envelope ((kept.Child a own b program) ∷ ks) whole = by_name (bytes_eq b c) (whole_before c message envelope ks) whole where
  by_name : (t : Bool) → (AllByRecursion IsWhole (start_with c message envelope ks) → AllByRecursion IsWhole ks)
      → AllByRecursion IsWhole (if t then (kept.Child a own b (with_texts message envelope program)) ∷ ks else (kept.Child a own b program ∷ start_with c message envelope ks))
      → AllByRecursion IsWhole (kept.Child a own b program ∷ ks)
  by_name true rest whole = (named_before b message envelope program whole.0, whole.1)
  by_name false rest whole = (whole.0, rest whole.1)
whole_before c message envelope ((kept.Feed a own b text more) ∷ ks) whole = absurd whole.0
whole_before c message envelope ((kept.Start a program) ∷ ks) whole = (tt, whole_before c message envelope ks whole.1)
whole_before c message envelope ((kept.Act a own) ∷ ks) whole = (tt, whole_before c message envelope ks whole.1)
whole_before c message envelope ((kept.Generation start) ∷ ks) whole = (tt, whole_before c message envelope ks whole.1)
whole_before c message envelope ((kept.Report slot letter text) ∷ ks) whole = (tt, whole_before c message envelope ks whole.1)
whole_before c message envelope ((kept.End a read ready status) ∷ ks) whole = (tt, whole_before c message envelope ks whole.1)
whole_before c message envelope ((kept.Stop a) ∷ ks) whole = (tt, whole_before c message envelope ks whole.1)
whole_before c message envelope ((kept.Moment m) ∷ ks) whole = (tt, whole_before c message envelope ks whole.1)
whole_before c message envelope ((kept.Halt how) ∷ ks) whole = (tt, whole_before c message envelope ks whole.1)

-- who is given an envelope starts with it, and is no delivery
started_with : (c message envelope : List ℕ) (ks : List Kept) → is_delivery_name c ≡ false → AllByRecursion IsWhole ks → receivers_in (start_with c message envelope ks) ≡ given_to c envelope (receivers_in ks)
started_with c message envelope [] injects whole = refl
started_with c message envelope ((kept.Child a own b program) ∷ ks) injects whole = by_program program whole.0 (started_with c message envelope ks injects whole.1) where
  one : Arguments → Receiver
  one args = record { actor = b; is_child = true; envelope = args.envelope }

  by_name : (args : Arguments) (t : Bool) → receivers_in (start_with c message envelope ks) ≡ given_to c envelope (receivers_in ks)
      → receivers_in (if t then (kept.Child a own b (with_texts message envelope (Injector args))) ∷ ks else (kept.Child a own b (Injector args) ∷ start_with c message envelope ks))
      ≡ (if t then record (one args) { envelope = envelope } ∷ receivers_in ks else (one args ∷ given_to c envelope (receivers_in ks)))
  by_name args true same = refl
  by_name args false same = ap (λ (l : List Receiver). one args ∷ l) same

  by_program : (program : Program) → IsNamedSo b program → receivers_in (start_with c message envelope ks) ≡ given_to c envelope (receivers_in ks)
      → receivers_in (start_with c message envelope (kept.Child a own b program ∷ ks)) ≡ given_to c envelope (receivers_in (kept.Child a own b program ∷ ks))
  by_program (Injector args) mail same = by_name args (bytes_eq b c) same
  by_program (Delivery start args) mail same =
      let far : b ≢ c = λ e. let both : true ≡ false = sym mail ∙ ap is_delivery_name e ∙ injects in absurd (cc) in
      ap (λ (t : Bool). receivers_in (if t then (kept.Child a own b (Delivery start args)) ∷ ks else (kept.Child a own b (Delivery start args) ∷ start_with c message envelope ks))) (other_text b c far) ∙ same
  by_program other mail same = absurd mail
started_with c message envelope ((kept.Feed a own b text more) ∷ ks) injects whole = absurd whole.0
started_with c message envelope ((kept.Start a program) ∷ ks) injects whole = by_kind (injection_of program) (started_with c message envelope ks injects whole.1) where
  by_kind : (o : Option Arguments) → receivers_in (start_with c message envelope ks) ≡ given_to c envelope (receivers_in ks)
      → received_by a false o ++ receivers_in (start_with c message envelope ks) ≡ given_to c envelope (received_by a false o ++ receivers_in ks)
  by_kind None same = same
  by_kind (Some args) same = ap (λ (l : List Receiver). record { actor = a; is_child = false; envelope = args.envelope } ∷ l) same
started_with c message envelope ((kept.Act a own) ∷ ks) injects whole = started_with c message envelope ks injects whole.1
started_with c message envelope ((kept.Generation start) ∷ ks) injects whole = started_with c message envelope ks injects whole.1
started_with c message envelope ((kept.Report slot letter text) ∷ ks) injects whole = started_with c message envelope ks injects whole.1
started_with c message envelope ((kept.End a read ready status) ∷ ks) injects whole = started_with c message envelope ks injects whole.1
started_with c message envelope ((kept.Stop a) ∷ ks) injects whole = started_with c message envelope ks injects whole.1
started_with c message envelope ((kept.Moment m) ∷ ks) injects whole = started_with c message envelope ks injects whole.1
started_with c message envelope ((kept.Halt how) ∷ ks) injects whole = started_with c message envelope ks injects whole.1

with_received : (ks : List Kept) → AllByRecursion IsFedSo ks → AllByRecursion IsWhole (with_inputs ks) → receivers_in ks ≡ receivers_in (with_inputs ks)
with_received [] fed whole = refl
with_received ((kept.Feed a own c message envelope) ∷ ks) fed whole =
    let before = whole_before c message envelope (with_inputs ks) whole.1 in
    ap (given_to c envelope) (with_received ks fed.1 before) ∙ sym (started_with c message envelope (with_inputs ks) fed.0 before)
with_received ((kept.Child a own c program) ∷ ks) fed whole = ap (λ (l : List Receiver). received_by c true (injection_of program) ++ l) (with_received ks fed.1 whole.1)
with_received ((kept.Start a program) ∷ ks) fed whole = ap (λ (l : List Receiver). received_by a false (injection_of program) ++ l) (with_received ks fed.1 whole.1)
with_received ((kept.Act a own) ∷ ks) fed whole = with_received ks fed.1 whole.1
with_received ((kept.Generation start) ∷ ks) fed whole = with_received ks fed.1 whole.1
with_received ((kept.Report slot letter text) ∷ ks) fed whole = with_received ks fed.1 whole.1
with_received ((kept.End a read ready status) ∷ ks) fed whole = with_received ks fed.1 whole.1
with_received ((kept.Stop a) ∷ ks) fed whole = with_received ks fed.1 whole.1
with_received ((kept.Moment m) ∷ ks) fed whole = with_received ks fed.1 whole.1
with_received ((kept.Halt how) ∷ ks) fed whole = with_received ks fed.1 whole.1

-- what each mail was given is the envelope that it has in a history
abbrev pub envelope_at : Given → List ℕ
envelope_at g = g.envelope.now

turned_envelopes : (given : List Given) → map received (turned given) ≡ reverse (map envelope_at given)
turned_envelopes [] = refl
turned_envelopes (g ∷ given) =
    ap (map received) (turned_more g given)
    ∙ map-append received (turned given) (receiver g ∷ [])
    ∙ ap (λ (l : List (List ℕ)). l ++ envelope_at g ∷ []) (turned_envelopes given)
    ∙ sym (reverse-append (envelope_at g ∷ []) (map envelope_at given))

pub envelopes_told : (ks : List Kept) (h : List Event) (given : List Given) → AllByRecursion IsFedSo ks → AreNamedStarts h → AllZip Tells (with_inputs ks) h → turned given ≡ receivers_in ks → map envelope_at given ≡ map envelope_in (mails_of h)
envelopes_told ks h given fed mails told is =
    let same : reverse (map envelope_at given) ≡ reverse (map envelope_in (mails_of h)) =
    sym (turned_envelopes given)
    ∙ ap (map received) (is ∙ with_received ks fed (whole_all (with_inputs ks) h mails told))
    ∙ all_told (with_inputs ks) h told in
    sym (reverse-reverse (map envelope_at given)) ∙ ap reverse same ∙ reverse-reverse (map envelope_in (mails_of h))
