-- Each line of a ledger was entered at an event in the life of its injection, and what was entered in that life is in the ledger.
use Rattle.std.proofs.Common.{◌≡◌, ◌≢◌, ◌⊎◌, inl, inr, ⊎_elim, ℕ, List, [], ◌∷◌, ◌++◌, Bool, true, false, Option, Some, None, option_map, option_to_list, refl, sym, ap, ◌∙◌, subst, bytes_eq, if◌then◌else◌}
use Rattle.std.specs.Option.{option_and_then}
use Rattle.call_fs.proofs.Maps.{put_cases, put_other, put_same}
use Rattle.call_fs.specs.Disk.{Among, Disk}
use Rattle.call_fs.specs.Maps.{put}
use Rattle.call_fs.specs.declared.calls.Answer.{Answer}
use Rattle.call_fs.specs.declared.calls.Answer.TheVariants.{Done}
use Rattle.call_fs.specs.declared.calls.CallData.{CallData}
use Rattle.call_fs.specs.declared.calls.CallData.TheVariants.{Link}
use Rattle.call_fs.specs.declared.calls.Told.{Told}
use Rattle.call_fs.specs.declared.past.GotData.{GotData}
use Rattle.call_fs.specs.declared.past.GotData.TheVariants as got
use Rattle.call_fs.specs.declared.past.NeedData.{NeedData}
use Rattle.call_fs.specs.declared.past.NeedData.TheVariants as needs
use Rattle.call_fs.specs.declared.past.Own.{Own}
use Rattle.call_fs.specs.declared.program.Ready.{Ready}
use Rattle.queue_inject.specs.declared.injection.Arguments.{Arguments}
use Rattle.queue_law.proofs.Growth.{grown_on, grown_same, line_grows}
use Rattle.queue_law.proofs.Looks.{mapped_some}
use Rattle.queue_law.specs.Books.{Books, Injection, IsInjected, accept, begun, booked, entered_in, linked, with_line}
use Rattle.queue_law.specs.Entered.{Child, booked_all, booked_on, line_said, notes_read, named_by}
use Rattle.queue_law.specs.Ledgers.{HasGrown, Ledger, Line, Spot, line_in, no_ledger, unrouted}
use Rattle.queue_law.specs.Ledgers.Line.{Delivers, Drops, Fails, Notes, Reads, Returns, Marks, Routes}
use Rattle.queue_paths.specs.Names.{Name, parse, path}
use Rattle.queue_paths.specs.Names.Name.{Of}
use Rattle.queue_paths.specs.Names.Part.{Intd, Mess, Todo, SplitIntd, SplitTodo}
use Rattle.send_core.specs.Booked.{booked_at}
use Rattle.send_core.specs.Table.{place_after as sender_after, row_now}
use Rattle.send_jobs.specs.Bookings.{Booking}
use Rattle.send_jobs.specs.Bookings.Booking.{Dropped, Noted, ReadNotes, Reported, Returned, Overwritten, Routed}
use Rattle.world_events.specs.Books.{mess_number}
use Rattle.world_events.specs.declared.event.Program.{Program}
use Rattle.world_events.specs.declared.event.Program.TheVariants.{Injector, Sender}
use Rattle.mail_world.proofs.Waiting.{legal_before}
use Rattle.mail_world.specs.History.{Actor, Allowed, Event, Legal, Life, State, acted, after, books_after, bouncer_of, finished, happens}
use Rattle.mail_world.specs.History.Event.{Start, Act, Child as Bears, Generation, Report, End, Stop, Moment, Halt}
use Rattle.mail_world.specs.History.Life.{Over, Stopped}
use Rattle.world_law.proofs.Columns.{among_append, among_option}
use Rattle.world_law.specs.Lives.{IsInLife, IsLifeOf, Lasts, begun_at, begun_by, begun_in}
use Rattle.address_rules.specs.declared.controls.Controls.{Controls}

-- A line of a ledger; which todo command was given last is none

abbrev pub HasLine : Line → Ledger → Type 0
HasLine (Delivers s) l = Among s l.delivered
HasLine (Fails s) l = Among s l.failed
HasLine (Notes it) l = Among it l.noted
HasLine (Marks it) l = Among it l.marked
HasLine (Reads it) l = Among it l.reads
HasLine (Returns x) l = Among x l.bounced
HasLine Drops l = l.dropped ≡ true
HasLine (Routes by) l = ⊥

has_none : (x : Line) → HasLine x no_ledger → ⊥
has_none (Delivers s) h = h
has_none (Fails s) h = h
has_none (Notes it) h = h
has_none (Marks it) h = h
has_none (Reads it) h = h
has_none (Returns x) h = h
has_none (Routes by) h = h
has_none Drops h = absurd (cc)

pub grown_has : (x : Line) (l m : Ledger) → HasGrown l m → HasLine x l → HasLine x m
grown_has (Delivers s) l m g h = g.delivered s h
grown_has (Fails s) l m g h = g.failed s h
grown_has (Notes it) l m g h = g.noted it h
grown_has (Marks it) l m g h = g.marked it h
grown_has (Reads it) l m g h = g.reads it h
grown_has (Routes by) l m g h = absurd h
grown_has (Returns x) l m g h = g.bounced x h
grown_has Drops l m g h = g.dropped h

-- one that is entered is the new one or an old one
line_has : (y x : Line) (l : Ledger) → HasLine x (line_in y l) → (x ≡ y) ⊎ HasLine x l
line_has (Delivers s) (Delivers t) l h = ⊎_elim (λ (e : t ≡ s). inl (ap Delivers e)) (λ (w : Among t l.delivered). inr w) h
line_has (Delivers s) x l h = inr h
line_has (Fails s) (Fails t) l h = ⊎_elim (λ (e : t ≡ s). inl (ap Fails e)) (λ (w : Among t l.failed). inr w) h
line_has (Fails s) x l h = inr h
line_has (Notes s) (Notes t) l h = ⊎_elim (λ (e : t ≡ s). inl (ap Notes e)) (λ (w : Among t l.noted). inr w) h
line_has (Notes s) x l h = inr h
line_has (Marks s) (Marks t) l h = ⊎_elim (λ (e : t ≡ s). inl (ap Marks e)) (λ (w : Among t l.marked). inr w) h
line_has (Marks s) x l h = inr h
line_has (Reads s) (Reads t) l h = ⊎_elim (λ (e : t ≡ s). inl (ap Reads e)) (λ (w : Among t l.reads). inr w) h
line_has (Reads s) x l h = inr h
line_has (Routes by) (Routes c) l h = absurd h
line_has (Routes by) x l h = inr h
line_has (Returns b) (Returns c) l h = ⊎_elim (λ (e : c ≡ b). inl (ap Returns e)) (λ (w : Among c l.bounced). inr w) h
line_has (Returns b) x l h = inr h
line_has Drops Drops l h = inl refl
line_has Drops x l h = inr h

said_there : (delivered : Bool) (s : Spot) (l : Ledger) → HasLine (line_said delivered s) (line_in (line_said delivered s) l)
said_there true s l = inl refl
said_there false s l = inl refl

-- what a sender did that enters it
abbrev pub booking_of : ℕ → Line → Booking
booking_of n (Delivers s) = Reported true s.channel n s.place
booking_of n (Fails s) = Reported false s.channel n s.place
booking_of n (Notes it) = Noted it.spot.channel n it.spot.place
booking_of n (Marks it) = Overwritten it.spot.channel n it.spot.place
booking_of n (Reads it) = ReadNotes n it.notes
booking_of n (Returns x) = Returned n
booking_of n Drops = Dropped n
booking_of n (Routes by) = Routed n

-- one with these controls
abbrev pub IsBy : Controls → Line → Type 0
IsBy by (Notes it) = it.by ≡ by
IsBy by (Marks it) = it.by ≡ by
IsBy by (Reads it) = it.by ≡ by
IsBy by (Routes c) = c ≡ by
IsBy by x = Unit {0}

-- it is entered with these
abbrev pub IsOf : Controls → List Booking → ℕ → Line → Type 0
IsOf by es n x = Among (booking_of n x) es × IsBy by x

-- The books before and after an event

pub record IsLater (i j : Injection) : Type 0 where
  pub number_is : j.number ≡ i.number
  pub args_are : j.args ≡ i.args
  pub grown : HasGrown i.ledger j.ledger

later_same : (i : Injection) → IsLater i i
later_same i = record { number_is = refl; args_are = refl; grown = grown_same i.ledger }

later_on : (i j k : Injection) → IsLater i j → IsLater j k → IsLater i k
later_on i j k one two = record {
  number_is = two.number_is ∙ one.number_is;
  args_are = two.args_are ∙ one.args_are;
  grown = grown_on i.ledger j.ledger k.ledger one.grown two.grown;
}

-- it is routed as before, or its todo command is among these, and it is routed by these controls
abbrev pub KeepsRoutes : Controls → List Booking → ℕ → Injection → Injection → Type 0
KeepsRoutes by es n i j = (j.ledger.routes ≡ i.ledger.routes) ⊎ (Among (Routed n) es × (j.ledger.routes ≡ by))

-- Each injection whose life lasts goes on, and each was there before; its ledger has lines more of these alone.
record Enters (by : Controls) (b c : Books) (es : List Booking) : Type 0 where
  forth : (n : ℕ) (i : Injection) → b.living n ≡ Some i → (j : Injection) × (c.living n ≡ Some j) × IsLater i j
  back : (n : ℕ) (j : Injection) → c.living n ≡ Some j
      → (i : Injection) × (b.living n ≡ Some i) × IsLater i j × ((x : Line) → HasLine x j.ledger → HasLine x i.ledger ⊎ IsOf by es n x) × KeepsRoutes by es n i j
      × (es ≡ [] → j.ledger ≡ i.ledger)
  over : c.over ≡ b.over

enters_same : (by : Controls) (b : Books) (es : List Booking) → Enters by b b es
enters_same by b es = record {
  forth = λ n i is. (i, is, later_same i);
  back = λ n j is. (j, is, later_same j, λ x h. inl h, inl refl, λ none. refl);
  over = refl;
}

with_later : (y : Line) (i : Injection) → IsLater i (with_line y i)
with_later y i = record { number_is = refl; args_are = refl; grown = line_grows y i.ledger }

routes_stay : (by : Controls) (m : ℕ) (y : Line) → IsBy by y → (l : Ledger) → ((line_in y l).routes ≡ l.routes) ⊎ (Among (Routed m) (booking_of m y ∷ []) × ((line_in y l).routes ≡ by))
routes_stay by m (Routes c) is_by l = inr (inl refl, is_by)
routes_stay by m y is_by l = inl refl

enters_line : (by : Controls) (b : Books) (m : ℕ) (y : Line) → IsBy by y → Enters by b (entered_in b m y) (booking_of m y ∷ [])
enters_line by b m y is_by = record { forth = forth; back = back; over = refl }
  where
    forth : (n : ℕ) (i : Injection) → b.living n ≡ Some i → (j : Injection) × (put b.living m (option_map (with_line y) (b.living m)) n ≡ Some j) × IsLater i j
    forth n i is = ⊎_elim
        (λ (c : (n ≡ m) × (put b.living m (option_map (with_line y) (b.living m)) n ≡ (option_map (with_line y) (b.living m)))).
        (with_line y i, c.1 ∙ ap (option_map (with_line y)) (ap b.living (sym c.0) ∙ is), with_later y i))
        (λ (c : (n ≢ m) × (put b.living m (option_map (with_line y) (b.living m)) n ≡ b.living n)). (i, c.1 ∙ is, later_same i))
        (put_cases b.living m (option_map (with_line y) (b.living m)) n)

    same_line : (n : ℕ) → n ≡ m → (i j : Injection) → with_line y i ≡ j → (x : Line) → HasLine x j.ledger → HasLine x i.ledger ⊎ IsOf by (booking_of m y ∷ []) n x
    same_line n here i j same x h = ⊎_elim
        (λ (e : x ≡ y). inr (inl (ap (λ (k : ℕ). booking_of k x) here ∙ ap (booking_of m) e), subst (IsBy by) (sym e) is_by))
        (λ (old : HasLine x i.ledger). inl old)
        (line_has y x i.ledger (subst (λ (k : Injection). HasLine x k.ledger) (sym same) h))

    same_routes : (n : ℕ) → n ≡ m → (i j : Injection) → with_line y i ≡ j → KeepsRoutes by (booking_of m y ∷ []) n i j
    same_routes n here i j same =
        subst (λ (k : ℕ). KeepsRoutes by (booking_of m y ∷ []) k i j) (sym here) (subst (KeepsRoutes by (booking_of m y ∷ []) m i) same (routes_stay by m y is_by i.ledger))

    back : (n : ℕ) (j : Injection) → put b.living m (option_map (with_line y) (b.living m)) n ≡ Some j
        → (i : Injection) × (b.living n ≡ Some i) × IsLater i j × ((x : Line) → HasLine x j.ledger → HasLine x i.ledger ⊎ IsOf by (booking_of m y ∷ []) n x)
        × KeepsRoutes by (booking_of m y ∷ []) n i j × ((booking_of m y ∷ []) ≡ [] → j.ledger ≡ i.ledger)
    back n j is = ⊎_elim
        (λ (c : (n ≡ m) × (put b.living m (option_map (with_line y) (b.living m)) n ≡ (option_map (with_line y) (b.living m)))).
        let w = mapped_some (with_line y) (b.living m) j (sym c.1 ∙ is) in
        (w.0, ap b.living c.0 ∙ w.1, subst (IsLater w.0) w.2 (with_later y w.0), same_line n c.0 w.0 j w.2, same_routes n c.0 w.0 j w.2, λ none. absurd (cc)))
        (λ (c : (n ≢ m) × (put b.living m (option_map (with_line y) (b.living m)) n ≡ b.living n)). (j, sym c.1 ∙ is, later_same j, λ x h. inl h, inl refl, λ none. refl))
        (put_cases b.living m (option_map (with_line y) (b.living m)) n)

-- a booking enters one line, or nothing
one_enters : (child : Option Child) (by : Controls) (e : Booking) (b : Books) → Enters by b (booked_on child by e b) (e ∷ [])
one_enters child by (Routed n) b = enters_line by b n (Routes by) refl
one_enters child by (Reported true c n place) b = enters_line by b n (Delivers (record { channel = c; place = place })) tt
one_enters child by (Reported false c n place) b = enters_line by b n (Fails (record { channel = c; place = place })) tt
one_enters child by (Noted c n place) b = enters_line by b n (Notes (named_by by c place)) refl
one_enters child by (Overwritten c n place) b = enters_line by b n (Marks (named_by by c place)) refl
one_enters child by (ReadNotes n notes) b = enters_line by b n (Reads (record { notes = notes; by = by })) refl
one_enters child by (Dropped n) b = enters_line by b n Drops tt
one_enters None by (Returned n) b = enters_same by b (Returned n ∷ [])
one_enters (Some c) by (Returned n) b = enters_line by b n (Returns (record { actor = c.actor; args = c.args; read = notes_read (b.living n) })) tt

all_enter : (child : Option Child) (by : Controls) (es : List Booking) (b : Books) → Enters by b (booked_all child by es b) es
all_enter child by [] b = enters_same by b []
all_enter child by (e ∷ es) b =
    let one : Enters by b (booked_on child by e b) (e ∷ []) = one_enters child by e b in
    let more : Enters by (booked_on child by e b) (booked_all child by es (booked_on child by e b)) es = all_enter child by es (booked_on child by e b) in
    record {
      forth = λ n i is.
          let w = one.forth n i is in
          let v = more.forth n w.0 w.1 in
          (v.0, v.1, later_on i w.0 v.0 w.2 v.2);
      back = λ n k is.
          let v = more.back n k is in
          let w = one.back n v.0 v.1 in (
            w.0,
            w.1,
            later_on w.0 v.0 k w.2 v.2,
            λ x h. ⊎_elim
                (λ (there : HasLine x v.0.ledger). ⊎_elim
                (λ (old : HasLine x w.0.ledger). inl old)
                (λ (it : IsOf by (e ∷ []) n x). ⊎_elim
                (λ (same : booking_of n x ≡ e). inr (inl same, it.1))
                (λ (none : ⊥). absurd none)
                it.0)
                (w.3 x there))
                (λ (later : IsOf by es n x). inr (inr later.0, later.1))
                (v.3 x h),
            ⊎_elim
                (λ (same : k.ledger.routes ≡ v.0.ledger.routes). ⊎_elim
                (λ (old : v.0.ledger.routes ≡ w.0.ledger.routes). inl (same ∙ old))
                (λ (it : Among (Routed n) (e ∷ []) × (v.0.ledger.routes ≡ by)).
                ⊎_elim (λ (here : Routed n ≡ e). inr (inl here, same ∙ it.1)) (λ (none : ⊥). absurd none) it.0)
                w.4)
                (λ (later : Among (Routed n) es × (k.ledger.routes ≡ by)). inr (inr later.0, later.1))
                v.4,
            λ none. absurd (cc),
          );
      over = more.over ∙ one.over;
    }

-- So for an event that may begin a life: that of the number begins with nothing, and the one before is over.

abbrev pub IsNew : Option ℕ → ℕ → Injection → Type 0
IsNew born n j = (born ≡ Some n) × (j.number ≡ n) × (j.ledger ≡ no_ledger)

abbrev pub Was : Controls → Books → Option ℕ → List Booking → ℕ → Injection → Type 0
Was by b born es n j = (born ≢ Some n) × ((i : Injection) × (b.living n ≡ Some i) × IsLater i j × ((x : Line) → HasLine x j.ledger → HasLine x i.ledger ⊎ IsOf by es n x) × KeepsRoutes by es n i j
    × (es ≡ [] → j.ledger ≡ i.ledger))

pub record Goes (by : Controls) (b c : Books) (born : Option ℕ) (es : List Booking) : Type 0 where
  pub forth : (n : ℕ) → born ≢ Some n → (i : Injection) → b.living n ≡ Some i → (j : Injection) × (c.living n ≡ Some j) × IsLater i j
  pub back : (n : ℕ) (j : Injection) → c.living n ≡ Some j → IsNew born n j ⊎ Was by b born es n j
  pub over : (j : Injection) → Among j c.over → Among j b.over ⊎ ((n : ℕ) × (born ≡ Some n) × (b.living n ≡ Some j))

not_born : (n : ℕ) → ◌≢◌ {A = Option ℕ} None (Some n)
not_born n e = absurd (cc)

entered_goes : (by : Controls) (b c : Books) (es : List Booking) → Enters by b c es → Goes by b c None es
entered_goes by b c es w = record {
  forth = λ n far i is. w.forth n i is;
  back = λ n j is. inr (not_born n, w.back n j is);
  over = λ j among. inl (subst (λ (o : List Injection). Among j o) w.over among);
}

goes_same : (by : Controls) (b : Books) (es : List Booking) → Goes by b b None es
goes_same by b es = entered_goes by b b es (enters_same by b es)

-- A call of an injector

module _ (by_whom : Controls) (b : Books) (a : List ℕ) (args : Arguments) where
  begins_goes : (n : ℕ) → Goes by_whom b (record { living = put b.living n (Some (begun a args n)); over = option_to_list (b.living n) ++ b.over }) (Some n) []
  begins_goes n = record { forth = forth; back = back; over = over }
    where
      forth : (m : ℕ) → ◌≢◌ {A = Option ℕ} (Some n) (Some m) → (i : Injection) → b.living m ≡ Some i → (j : Injection) × (put b.living n (Some (begun a args n)) m ≡ Some j) × IsLater i j
      forth m far i is = (i, put_other b.living n (Some (begun a args n)) m (λ e. far (ap Some (sym e))) ∙ is, later_same i)

      apart : (m : ℕ) → m ≢ n → ◌≢◌ {A = Option ℕ} (Some n) (Some m)
      apart m far e = let same : n ≡ m = cc in far (sym same)

      back : (m : ℕ) (j : Injection) → put b.living n (Some (begun a args n)) m ≡ Some j → IsNew (Some n) m j ⊎ Was by_whom b (Some n) [] m j
      back m j is = ⊎_elim
          (λ (c : (m ≡ n) × (put b.living n (Some (begun a args n)) m ≡ (Some (begun a args n)))).
          let both : ◌≡◌ {A = Option Injection} (Some (begun a args n)) (Some j) = sym c.1 ∙ is in
          let same : j ≡ begun a args n = cc in
          inl (ap Some (sym c.0), ap (λ (k : Injection). k.number) same ∙ sym c.0, ap (λ (k : Injection). k.ledger) same))
          (λ (c : (m ≢ n) × (put b.living n (Some (begun a args n)) m ≡ b.living m)). inr (apart m c.0, (j, sym c.1 ∙ is, later_same j, λ x h. inl h, inl refl, λ none. refl)))
          (put_cases b.living n (Some (begun a args n)) m)

      over : (j : Injection) → Among j (option_to_list (b.living n) ++ b.over) → Among j b.over ⊎ ((m : ℕ) × (◌≡◌ {A = Option ℕ} (Some n) (Some m)) × (b.living m ≡ Some j))
      over j among = ⊎_elim
          (λ (w : Among j (option_to_list (b.living n))). inr (n, refl, among_option (b.living n) j w))
          (λ (w : Among j b.over). inl w)
          (among_append j (option_to_list (b.living n)) b.over among)

  -- an acceptance leaves the ledger
  accepted_forth : (o : Option Injection) (i : Injection) → o ≡ Some i → (j : Injection) × (accept a o ≡ Some j) × IsLater i j
  accepted_forth None i e = absurd (cc)
  accepted_forth (Some k) i e = let same : k ≡ i = cc in by (bytes_eq k.actor a) same
    where
      by : (t : Bool) → k ≡ i → (j : Injection) × ((if t then Some (record k { accepted = true }) else Some k) ≡ Some j) × IsLater i j
      by true same = (
        record k { accepted = true },
        refl,
        subst (λ (z : Injection). IsLater z (record k { accepted = true })) same
            (record { number_is = refl; args_are = refl; grown = grown_same k.ledger }),
      )
      by false same = (k, refl, subst (λ (z : Injection). IsLater z k) same (later_same k))

  accepted_back : (o : Option Injection) (j : Injection) → accept a o ≡ Some j → (i : Injection) × (o ≡ Some i) × IsLater i j × (j.ledger ≡ i.ledger)
  accepted_back None j e = absurd (cc)
  accepted_back (Some k) j e = by (bytes_eq k.actor a) e
    where
      by : (t : Bool) → (if t then Some (record k { accepted = true }) else Some k) ≡ Some j → (i : Injection) × (Some k ≡ Some i) × IsLater i j × (j.ledger ≡ i.ledger)
      by true is =
          let same : record k { accepted = true } ≡ j = cc in
          (k, refl, subst (IsLater k) same (record { number_is = refl; args_are = refl; grown = grown_same k.ledger }), sym (ap (λ (z : Injection). z.ledger) same))
      by false is = let same : k ≡ j = cc in (k, refl, subst (IsLater k) same (later_same k), sym (ap (λ (z : Injection). z.ledger) same))

  accepts_goes : (n : ℕ) → Goes by_whom b (record { living = put b.living n (accept a (b.living n)); over = b.over }) None []
  accepts_goes n = entered_goes by_whom b (record { living = put b.living n (accept a (b.living n)); over = b.over }) [] (record { forth = forth; back = back; over = refl })
    where
      forth : (m : ℕ) (i : Injection) → b.living m ≡ Some i → (j : Injection) × (put b.living n (accept a (b.living n)) m ≡ Some j) × IsLater i j
      forth m i is = ⊎_elim
          (λ (c : (m ≡ n) × (put b.living n (accept a (b.living n)) m ≡ (accept a (b.living n)))).
          let w = accepted_forth (b.living n) i (ap b.living (sym c.0) ∙ is) in (w.0, c.1 ∙ w.1, w.2))
          (λ (c : (m ≢ n) × (put b.living n (accept a (b.living n)) m ≡ b.living m)). (i, c.1 ∙ is, later_same i))
          (put_cases b.living n (accept a (b.living n)) m)

      back : (m : ℕ) (j : Injection) → put b.living n (accept a (b.living n)) m ≡ Some j
          → (i : Injection) × (b.living m ≡ Some i) × IsLater i j × ((x : Line) → HasLine x j.ledger → HasLine x i.ledger ⊎ IsOf by_whom [] m x) × KeepsRoutes by_whom [] m i j
          × (◌≡◌ {A = List Booking} [] [] → j.ledger ≡ i.ledger)
      back m j is = ⊎_elim
          (λ (c : (m ≡ n) × (put b.living n (accept a (b.living n)) m ≡ (accept a (b.living n)))).
          let w = accepted_back (b.living n) j (sym c.1 ∙ is) in
          (w.0, ap b.living c.0 ∙ w.1, w.2, λ x h. inl (subst (HasLine x) w.3 h), inl (ap (λ (l : Ledger). l.routes) w.3), λ none. w.3))
          (λ (c : (m ≢ n) × (put b.living n (accept a (b.living n)) m ≡ b.living m)). (j, sym c.1 ∙ is, later_same j, λ x h. inl h, inl refl, λ none. refl))
          (put_cases b.living n (accept a (b.living n)) m)

  if_goes : (t : Bool) (c : Books) → Goes by_whom b c None [] → Goes by_whom b (if t then c else b) None []
  if_goes true c w = w
  if_goes false c w = goes_same by_whom b []

  linked_goes : (old : List ℕ) (name : Option Name) → Goes by_whom b (linked b a args old name) (mess_number name) []
  linked_goes old (Some (Of Mess n)) = begins_goes n
  linked_goes old (Some (Of Todo n)) = if_goes (bytes_eq old (path (Of Intd n))) (record { living = put b.living n (accept a (b.living n)); over = b.over }) (accepts_goes n)
  linked_goes old (Some (Of SplitTodo n)) = if_goes (bytes_eq old (path (Of SplitIntd n))) (record { living = put b.living n (accept a (b.living n)); over = b.over }) (accepts_goes n)
  linked_goes old name = goes_same by_whom b []

  answered_goes : (old new : List ℕ) (told : Answer) → Goes by_whom b (booked b a args (Link old new) told) (begun_at (Link old new) told) []
  answered_goes old new Done = linked_goes old (parse new)
  answered_goes old new told = goes_same by_whom b []

  called_goes : (call : CallData) (told : Told) → Goes by_whom b (booked b a args call told.answer) (begun_by (Injector args) (needs.File call) (got.Answered told)) []
  called_goes (Link old new) told = answered_goes old new told.answer
  called_goes call told = goes_same by_whom b []

-- An event of an actor

-- what a sender enters with it
abbrev pub entries_by : Program → List Own → ℕ → Ready → GotData → List Booking
entries_by (Sender start) past read ready came = let d = sender_after None past in booked_at (row_now d read ready) came d
entries_by program past read ready came = []

-- and by which controls
abbrev pub controls_by : Program → List Own → Controls
controls_by (Sender start) past = (sender_after None past).book.controls
controls_by program past = unrouted

acted_goes : (child : Option Child) (b : Books) (a : List ℕ) (program : Program) (past : List Own) (read : ℕ) (ready : Ready) (due : NeedData) (came : GotData)
    → Goes (controls_by program past) b (books_after child b a program past read ready due came) (begun_by program due came) (entries_by program past read ready came)
acted_goes child b a (Injector args) past read ready (needs.File call) (got.Answered told) = called_goes unrouted b a args call told
acted_goes child b a (Injector args) past read ready due came = goes_same unrouted b []
acted_goes child b a (Sender start) past read ready (needs.File call) (got.Answered told) =
    let d = sender_after None past in
    let es = booked_at (row_now d read ready) (got.Answered told) d in
    entered_goes d.book.controls b (booked_all child d.book.controls es b) es (all_enter child d.book.controls es b)
acted_goes child b a (Sender start) past read ready (needs.Take port) came =
    let d = sender_after None past in
    let es = booked_at (row_now d read ready) came d in
    entered_goes d.book.controls b (booked_all child d.book.controls es b) es (all_enter child d.book.controls es b)
acted_goes child b a (Sender start) past read ready (needs.Give port bytes) came =
    let d = sender_after None past in
    let es = booked_at (row_now d read ready) came d in
    entered_goes d.book.controls b (booked_all child d.book.controls es b) es (all_enter child d.book.controls es b)
acted_goes child b a (Sender start) past read ready due came = goes_same (sender_after None past).book.controls b (entries_by (Sender start) past read ready came)
acted_goes child b a other past read ready (needs.File call) (got.Answered told) = goes_same unrouted b []
acted_goes child b a other past read ready (needs.Take port) came = goes_same unrouted b []
acted_goes child b a other past read ready (needs.Give port bytes) came = goes_same unrouted b []
acted_goes child b a other past read ready due came = goes_same unrouted b []

-- Any event

abbrev pub entries_of : Option Actor → Own → List Booking
entries_of None own = []
entries_of (Some x) own = entries_by x.program x.past own.read own.ready own.came

abbrev pub entries_in : State → Event → List Booking
entries_in s (Act a own wrote) = entries_of (s.actors a) own
entries_in s event = []

abbrev pub controls_of : Option Actor → Controls
controls_of None = unrouted
controls_of (Some x) = controls_by x.program x.past

abbrev pub controls_in : State → Event → Controls
controls_in s (Act a own wrote) = controls_of (s.actors a)
controls_in s event = unrouted

pub event_goes : (s : State) (e : Event) → Allowed s e → Goes (controls_in s e) s.books (happens s e).books (begun_in s e) (entries_in s e)
event_goes s (Act a own wrote) may =
    let x = may.actor in
    subst (λ (o : Option Actor). Goes (controls_of o) s.books (acted s a own wrote o).books (option_and_then (λ (y : Actor). begun_by y.program own.due own.came) o) (entries_of o own)) (sym may.reads.is)
    (acted_goes (bouncer_of s a) s.books a x.program x.past own.read own.ready own.due own.came)
event_goes s (Bears parent own a program) may =
    let x = may.actor in
    let same : (acted s parent own 0 (Some x)).books ≡ s.books = λ i. books_after (bouncer_of s parent) s.books parent x.program x.past own.read own.ready (may.starts i) own.came in
    subst (λ (o : Option Actor). Goes unrouted s.books (acted s parent own 0 o).books None []) (sym may.reads.is)
    (subst (λ (b : Books). Goes unrouted s.books b None []) (sym same) (goes_same unrouted s.books []))
event_goes s (Start a program) may = goes_same unrouted s.books []
event_goes s (Generation crew) may = goes_same unrouted s.books []
event_goes s (Report slot output) may = goes_same unrouted s.books []
event_goes s (End a read ready status) may =
    subst (λ (o : Option Actor). Goes unrouted s.books (finished s a (Over status) o).books None []) (sym may.reads.is) (goes_same unrouted s.books [])
event_goes s (Stop a) may = subst (λ (o : Option Actor). Goes unrouted s.books (finished s a Stopped o).books None []) (sym may.is) (goes_same unrouted s.books [])
event_goes s (Moment m) may = goes_same unrouted s.books []
event_goes s (Halt how contents) may = goes_same unrouted s.books []

-- Over a history

pub numbered : (d : Disk) (h : List Event) → Legal d h → (n : ℕ) (i : Injection) → (after d h).books.living n ≡ Some i → i.number ≡ n
numbered d [] legal n i is = absurd (cc)
numbered d (e ∷ h) legal n i is = ⊎_elim
    (λ (new : IsNew (begun_in (after d h) e) n i). new.1)
    (λ (old : Was (controls_in (after d h) e) (after d h).books (begun_in (after d h) e) (entries_in (after d h) e) n i).
    old.1.2.number_is ∙ numbered d h legal.0 n old.1.0 old.1.1)
    ((event_goes (after d h) e legal.1).back n i is)

-- With the newest of these events a sender entered this line.
pub record IsEntry (d : Disk) (h : List Event) (n : ℕ) (x : Line) : Type 0 where
  pub name : List ℕ
  pub own : Own
  pub wrote : ℕ
  pub earlier : List Event
  pub all : h ≡ Act name own wrote ∷ earlier
  pub start : ℕ
  pub past : List Own
  pub life : Life
  pub is : (after d earlier).actors name ≡ Some (record { program = Sender start; past = past; life = life })
  pub among : Among (booking_of n x) (entries_by (Sender start) past own.read own.ready own.came)
  pub by : IsBy (sender_after None past).book.controls x

entry_by : (d : Disk) (h : List Event) (name : List ℕ) (own : Own) (wrote : ℕ) (program : Program) (past : List Own) (life : Life)
    → (after d h).actors name ≡ Some (record { program = program; past = past; life = life }) → (n : ℕ) (x : Line)
    → IsOf (controls_by program past) (entries_by program past own.read own.ready own.came) n x → IsEntry d (Act name own wrote ∷ h) n x
entry_by d h name own wrote (Sender start) past life is n x entered = record {
  name = name;
  own = own;
  wrote = wrote;
  earlier = h;
  all = refl;
  start = start;
  past = past;
  life = life;
  is = is;
  among = entered.0;
  by = entered.1;
}
entry_by d h name own wrote program past life is n x entered = absurd entered.0

entry_of : (d : Disk) (h : List Event) (e : Event) → Allowed (after d h) e → (n : ℕ) (x : Line) → IsOf (controls_in (after d h) e) (entries_in (after d h) e) n x → IsEntry d (e ∷ h) n x
entry_of d h (Act a own wrote) may n x entered =
    let y = may.actor in
    entry_by d h a own wrote y.program y.past y.life may.reads.is n x
    (subst (λ (o : Option Actor). IsOf (controls_of o) (entries_of o own) n x) may.reads.is entered)
entry_of d h e may n x entered = absurd entered.0

-- in the life of the number that lasts
record IsEntryOf (d : Disk) (h : List Event) (n : ℕ) (x : Line) : Type 0 where
  until : List Event
  later : List Event
  all : h ≡ later ++ until
  lasts : Lasts d later until n
  entry : IsEntry d until n x

goes_on : (d : Disk) (e : Event) (h : List Event) (n : ℕ) (x : Line) → begun_in (after d h) e ≢ Some n → IsEntryOf d h n x → IsEntryOf d (e ∷ h) n x
goes_on d e h n x far w = record {
  until = w.until;
  later = e ∷ w.later;
  all = ap (λ (t : List Event). e ∷ t) w.all;
  lasts = (w.lasts, subst (λ (t : List Event). begun_in (after d t) e ≢ Some n) w.all far);
  entry = w.entry;
}

living_entry : (d : Disk) (h : List Event) → Legal d h → (n : ℕ) (i : Injection) → (after d h).books.living n ≡ Some i → (x : Line) → HasLine x i.ledger → IsEntryOf d h n x
living_entry d [] legal n i is x has = absurd (cc)
living_entry d (e ∷ h) legal n i is x has = ⊎_elim
    (λ (new : IsNew (begun_in (after d h) e) n i). absurd (has_none x (subst (HasLine x) new.2 has)))
    (λ (old : Was (controls_in (after d h) e) (after d h).books (begun_in (after d h) e) (entries_in (after d h) e) n i). ⊎_elim
    (λ (there : HasLine x old.1.0.ledger). goes_on d e h n x old.0 (living_entry d h legal.0 n old.1.0 old.1.1 x there))
    (λ (now : IsOf (controls_in (after d h) e) (entries_in (after d h) e) n x).
    record { until = e ∷ h; later = []; all = refl; lasts = tt; entry = entry_of d h e legal.1 n x now })
    (old.1.3 x has))
    ((event_goes (after d h) e legal.1).back n i is)

-- in a life that is over
record WasEntryOf (d : Disk) (h : List Event) (i : Injection) (x : Line) : Type 0 where
  until : List Event
  rest : List Event
  event : Event
  later : List Event
  all : h ≡ rest ++ event ∷ (later ++ until)
  lasts : Lasts d later until i.number
  ends : begun_in (after d (later ++ until)) event ≡ Some i.number
  is : (after d (later ++ until)).books.living i.number ≡ Some i
  entry : IsEntry d until i.number x

over_entry : (d : Disk) (h : List Event) → Legal d h → (i : Injection) → Among i (after d h).books.over → (x : Line) → HasLine x i.ledger → WasEntryOf d h i x
over_entry d [] legal i over x has = absurd over
over_entry d (e ∷ h) legal i over x has = ⊎_elim
    (λ (old : Among i (after d h).books.over).
    let w = over_entry d h legal.0 i old x has in
    record {
      until = w.until;
      rest = e ∷ w.rest;
      event = w.event;
      later = w.later;
      all = ap (λ (t : List Event). e ∷ t) w.all;
      lasts = w.lasts;
      ends = w.ends;
      is = w.is;
      entry = w.entry;
    })
    (λ (now : (n : ℕ) × (begun_in (after d h) e ≡ Some n) × ((after d h).books.living n ≡ Some i)).
    ended now.0 (numbered d h legal.0 now.0 i now.2) now.1 now.2)
    ((event_goes (after d h) e legal.1).over i over)
  where
    ended : (n : ℕ) → i.number ≡ n → begun_in (after d h) e ≡ Some n → (after d h).books.living n ≡ Some i → WasEntryOf d (e ∷ h) i x
    ended n same born lives =
        let begins : begun_in (after d h) e ≡ Some i.number = born ∙ ap Some (sym same) in
        let is : (after d h).books.living i.number ≡ Some i = ap (after d h).books.living same ∙ lives in
        let w = living_entry d h legal.0 i.number i is x has in
        record {
          until = w.until;
          rest = [];
          event = e;
          later = w.later;
          all = ap (λ (t : List Event). e ∷ t) w.all;
          lasts = w.lasts;
          ends = subst (λ (t : List Event). begun_in (after d t) e ≡ Some i.number) w.all begins;
          is = subst (λ (t : List Event). (after d t).books.living i.number ≡ Some i) w.all is;
          entry = w.entry;
        }

-- Each line of the ledger of an injection was entered in its life.
pub record WasEntered (d : Disk) (h : List Event) (i : Injection) (x : Line) : Type 0 where
  pub until : List Event
  pub life : IsInLife d h until i
  pub entry : IsEntry d until i.number x

pub lines_were_entered : (d : Disk) (h : List Event) → Legal d h → (i : Injection) → IsInjected (after d h).books i → (x : Line) → HasLine x i.ledger → WasEntered d h i x
lines_were_entered d h legal i here x has = ⊎_elim
    (λ (lives : (after d h).books.living i.number ≡ Some i).
    let w = living_entry d h legal i.number i lives x has in
    record {
      until = w.until;
      life = (w.later, w.lasts, (subst (λ (t : List Event). (after d t).books.living i.number ≡ Some i) w.all lives, inl w.all));
      entry = w.entry;
    })
    (λ (over : Among i (after d h).books.over).
    let w = over_entry d h legal i over x has in
    record { until = w.until; life = (w.later, w.lasts, (w.is, inr (w.rest, w.event, w.all, w.ends))); entry = w.entry })
    here

-- What is in the ledger at a point of a life stays.

stays : (d : Disk) (later until : List Event) (n : ℕ) (x : Line) → Legal d (later ++ until) → Lasts d later until n
    → ((i : Injection) → (after d until).books.living n ≡ Some i → HasLine x i.ledger) → (i : Injection) → (after d (later ++ until)).books.living n ≡ Some i → HasLine x i.ledger
stays d [] until n x legal lasts has i is = has i is
stays d (e ∷ later) until n x legal lasts has i is =
    let s = after d (later ++ until) in
    ⊎_elim
    (λ (new : IsNew (begun_in s e) n i). absurd (lasts.1 new.0))
    (λ (old : Was (controls_in s e) s.books (begun_in s e) (entries_in s e) n i).
    grown_has x old.1.0.ledger i.ledger old.1.2.grown (stays d later until n x legal.0 lasts.0 has old.1.0 old.1.1))
    ((event_goes s e legal.1).back n i is)

-- the history of a life is legal
pub legal_life : (d : Disk) (h life : List Event) (i : Injection) → Legal d h → IsLifeOf d h life i → Legal d life
legal_life d h life i legal it = ⊎_elim
    (λ (all : h ≡ life). subst (Legal d) all legal)
    (λ (over : (rest : List Event) × (event : Event) × (h ≡ rest ++ event ∷ life) × (begun_in (after d life) event ≡ Some i.number)).
    let whole : Legal d (over.1 ∷ life) = legal_before d over.0 (over.1 ∷ life) (subst (Legal d) over.2 legal) in
    whole.0)
    it.1

pub stays_in : (d : Disk) (h until : List Event) (i : Injection) (x : Line) → Legal d h → IsInLife d h until i
    → ((j : Injection) → (after d until).books.living i.number ≡ Some j → HasLine x j.ledger) → HasLine x i.ledger
stays_in d h until i x legal it has = stays d it.0 until i.number x (legal_life d h (it.0 ++ until) i legal it.2) it.1 has i it.2.0

-- and the prefix is legal
pub legal_until : (d : Disk) (h until : List Event) (i : Injection) → Legal d h → IsInLife d h until i → Legal d until
legal_until d h until i legal it = legal_before d it.0 until (legal_life d h (it.0 ++ until) i legal it.2)

-- each injection has a life
record IsOver (d : Disk) (h : List Event) (i : Injection) : Type 0 where
  life : List Event
  rest : List Event
  event : Event
  all : h ≡ rest ++ event ∷ life
  ends : begun_in (after d life) event ≡ Some i.number
  is : (after d life).books.living i.number ≡ Some i

over_life : (d : Disk) (h : List Event) → Legal d h → (i : Injection) → Among i (after d h).books.over → IsOver d h i
over_life d [] legal i over = absurd over
over_life d (e ∷ h) legal i over = ⊎_elim
    (λ (old : Among i (after d h).books.over).
    let w = over_life d h legal.0 i old in
    record { life = w.life; rest = e ∷ w.rest; event = w.event; all = ap (λ (t : List Event). e ∷ t) w.all; ends = w.ends; is = w.is })
    (λ (now : (n : ℕ) × (begun_in (after d h) e ≡ Some n) × ((after d h).books.living n ≡ Some i)).
    let same : i.number ≡ now.0 = numbered d h legal.0 now.0 i now.2 in
    record { life = h; rest = []; event = e; all = refl; ends = now.1 ∙ ap Some (sym same); is = ap (after d h).books.living same ∙ now.2 })
    ((event_goes (after d h) e legal.1).over i over)

pub life_of : (d : Disk) (h : List Event) → Legal d h → (i : Injection) → IsInjected (after d h).books i → (life : List Event) × IsLifeOf d h life i
life_of d h legal i here = ⊎_elim
    (λ (lives : (after d h).books.living i.number ≡ Some i). (h, (lives, inl refl)))
    (λ (over : Among i (after d h).books.over). let w = over_life d h legal i over in (w.life, (w.is, inr (w.rest, w.event, w.all, w.ends))))
    here

-- What is entered is there

line_entered : (b : Books) (n : ℕ) (x : Line) → ((l : Ledger) → HasLine x (line_in x l)) → (i : Injection) → (entered_in b n x).living n ≡ Some i → HasLine x i.ledger
line_entered b n x there i is =
    let w = mapped_some (with_line x) (b.living n) i (sym (put_same b.living n (option_map (with_line x) (b.living n))) ∙ is) in
    subst (λ (j : Injection). HasLine x j.ledger) w.2 (there w.0.ledger)

pub all_there : (child : Option Child) (by : Controls) (es : List Booking) (n : ℕ) (k : Bool) (s : Spot) (b : Books) (i : Injection) → Among (Reported k s.channel n s.place) es
    → (booked_all child by es b).living n ≡ Some i → HasLine (line_said k s) i.ledger
all_there child by [] n k s b i among is = absurd among
all_there child by (e ∷ es) n k s b i among is =
    let w = (all_enter child by es (booked_on child by e b)).back n i is in
    ⊎_elim
    (λ (same : Reported k s.channel n s.place ≡ e).
    grown_has (line_said k s) w.0.ledger i.ledger w.2.grown
    (line_entered b n (line_said k s) (said_there k s) w.0 (subst (λ (z : Booking). (booked_on child by z b).living n ≡ Some w.0) (sym same) w.1)))
    (λ (more : Among (Reported k s.channel n s.place) es). all_there child by es n k s (booked_on child by e b) i more is)
    among

-- an injection whose life lasts goes on
pub all_forth : (child : Option Child) (by : Controls) (es : List Booking) (b : Books) (n : ℕ) (i : Injection) → b.living n ≡ Some i
    → (j : Injection) × ((booked_all child by es b).living n ≡ Some j) × (j.args ≡ i.args) × HasGrown i.ledger j.ledger
all_forth child by es b n i is = let w = (all_enter child by es b).forth n i is in (w.0, w.1, w.2.args_are, w.2.grown)
