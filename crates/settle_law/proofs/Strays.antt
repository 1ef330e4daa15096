-- Where nothing fails `todo` has no name that is no number, and no search of it gives one.
use Rattle.std.proofs.Common.{◌≡◌, ◌≢◌, ◌⊎◌, inl, inr, ⊎_elim, ℕ, ◌==◌, ◌<◌, ◌≤◌, ◌^◌, List, [], ◌∷◌, ◌++◌, Bool, true, false, if◌then◌else◌, Option, Some, None, refl, sym, ap, ◌∙◌, subst, arith, bytes_eq, codes}
use Rattle.std.specs.List.{AllByRecursion, list_all}
use Rattle.std.specs.Prelude.{Contains, is_some}
use Rattle.std.proofs.lemmas.Bool.{and_parts, false≢true, le-leb}
use Rattle.std.proofs.lemmas.List.Elements.{Contains-append_right}
use Rattle.std.proofs.lemmas.Slice.Eq.{bytes_eq-Decides}
use Rattle.call_fs.specs.Apply.{Fits}
use Rattle.call_fs.specs.Disk.{Disk}
use Rattle.call_fs.specs.Maps.{put_at}
use Rattle.call_fs.specs.Past.{IsRunBy}
use Rattle.call_fs.proofs.Maps.{put_at_cases}
use Rattle.call_fs.specs.declared.calls.Answer.{Answer}
use Rattle.call_fs.specs.declared.calls.Answer.TheVariants as answer
use Rattle.call_fs.specs.declared.calls.CallData.TheVariants as call
use Rattle.call_fs.specs.declared.past.GotData.{GotData}
use Rattle.call_fs.specs.declared.past.NeedData.{NeedData}
use Rattle.call_fs.specs.declared.past.NeedData.TheVariants as needs
use Rattle.call_fs.specs.declared.past.Own.{Own}
use Rattle.mail_bytes.specs.Decimal.{digits, value}
use Rattle.mail_bytes.proofs.Digits.{number-digits, number_of_text, value-digits}
use Rattle.program_law.specs.Delivery.Names.{IsDropName}
use Rattle.queue_clean.specs.Table.{pid_path}
use Rattle.queue_law.specs.Cleaners.{IsOnePart}
use Rattle.queue_paths.specs.Names.{Name, path}
use Rattle.queue_paths.specs.Names.Name.{Of}
use Rattle.queue_paths.specs.Names.Part.{Todo, SplitTodo}
use Rattle.queue_paths.specs.Parts.{parts_of}
use Rattle.queue_paths.proofs.Parts.{todo_flat}
use Rattle.retry_law.specs.Left.{GivesStray, NoneLeft}
use Rattle.retry_law.proofs.Left.{no_number_left, strays_were_given}
use Rattle.send_parts.specs.declared.row.Row.{Row}
use Rattle.send_parts.specs.declared.row.Row.TheVariants as at
use Rattle.send_core.specs.Stands.{ends_idle}
use Rattle.send_core.specs.Table.{Next}
use Rattle.send_parts.specs.declared.rows.Search.TheVariants as search
use Rattle.send_parts.specs.Files.{from_one, message_number}
use Rattle.world_events.specs.declared.event.Program.{Program}
use Rattle.world_events.specs.declared.event.Program.TheVariants.{Cleaner, Sender, Delivery}
use Rattle.mail_world.proofs.Members.{are_four}
use Rattle.mail_world.specs.Generations.{idled_by, idled_in}
use Rattle.mail_world.specs.History.{Actor, Allowed, ComesOf, Event, Legal, Life, MayBear, State, acted, after, finished, happens, newborn, next_of}
use Rattle.mail_world.specs.History.Event.{Start, Act, Child, Generation, Report, End, Stop, Moment, Halt}
use Rattle.mail_world.specs.History.Life.{Over}
use Rattle.mail_world.specs.Untouched.{doer, is_halt}
use Rattle.world_law.specs.Leaves.{LeavesOutside}
use Rattle.world_law.proofs.Histories.{always}
use Rattle.world_law.proofs.Leaves.{events_leave}
use Rattle.world_law.proofs.Ran.{have_run}
use Rattle.world_law.proofs.Tenants.{some_actor}
use Rattle.settle_law.specs.inside.Begins.{GoesOn}
use Rattle.settle_law.specs.Rests.{BeginsTurn}
use Rattle.settle_law.specs.inside.Strays.{TodoHasNumbers}
use Rattle.settle_law.specs.Well.{TodoIsEmpty, todo_name, GoesWell, goes_well}
use Rattle.settle_law.specs.Suffices.{desk_of}
use Rattle.settle_law.proofs.QuietTurns.{searches_begin}
use Rattle.settle_law.proofs.SmallNumbers.{numbers_are_small}
use Rattle.settle_law.proofs.Unqueued.{living_by}

-- A text of digits is the number that it stands for

numbered : (n : ℕ) → 1 ≤ n → n < 2 ^ 64 → message_number (digits n) ≡ Some n
numbered n some small =
    ap from_one (number_of_text (digits n) (number-digits n small) ∙ ap Some (value-digits n))
    ∙ ap (λ (b : Bool). if b then Some n else None) (le-leb 1 n some)

-- A name in `todo` that is no such text is none of the queue's

not_text : (part : List ℕ) (n : ℕ) → bytes_eq (digits (value part)) part ≡ false → digits n ≡ part → ⊥
not_text part n apart is =
    let same : digits (value part) ≡ part = ap (λ (t : List ℕ). digits (value t)) (sym is) ∙ ap digits (value-digits n) ∙ is in
    false≢true (sym apart ∙ (bytes_eq-Decides (digits (value part)) part).1 same)

abbrev begins_so : List ℕ → Bool
begins_so [] = false
begins_so (b ∷ rest) = b == 116

abbrev after_five : List ℕ → List ℕ
after_five (a ∷ b ∷ c ∷ d ∷ e ∷ rest) = rest
after_five rest = []

abbrev is_slashed : List ℕ → Bool
is_slashed (a ∷ b ∷ c ∷ d ∷ e ∷ rest) = e == 47
is_slashed rest = false

other_path : (name part : List ℕ) → begins_so name ≡ false → name ≢ todo_name part
other_path name part other is = false≢true (sym other ∙ ap begins_so is)

not_queue : (part : List ℕ) → bytes_eq (digits (value part)) part ≡ false → (x : Name) → path x ≢ todo_name part
unfolding path
not_queue part apart (Of Todo n) is = not_text part n apart (ap after_five is)
not_queue part apart (Of SplitTodo n) is = false≢true (ap is_slashed is)
not_queue part apart x is = other_path (path x) part refl is

-- and, as one part, no name of a drop

abbrev Unslashed : ℕ → Type 0
Unslashed b = b ≢ 47

t_apart : Unslashed 116
t_apart e = absurd (omega arith)

o_apart : Unslashed 111
o_apart e = absurd (omega arith)

d_apart : Unslashed 100
d_apart e = absurd (omega arith)

slash_after : (word rest : List ℕ) → Contains (word ++ 47 ∷ rest) 47
slash_after word rest = Contains-append_right word (47 ∷ rest) 47 (0, omega arith, refl)

second_slash : (word part front more : List ℕ) → AllByRecursion Unslashed word → word ++ 47 ∷ part ≡ front ++ 47 ∷ more → Contains more 47 → Contains part 47
second_slash [] part [] more h is has = let tail : part ≡ more = cc in subst (λ (t : List ℕ). Contains t 47) (sym tail) has
second_slash [] part (x ∷ front) more h is has = let tail : part ≡ front ++ 47 ∷ more = cc in subst (λ (t : List ℕ). Contains t 47) (sym tail) (slash_after front more)
second_slash (b ∷ word) part [] more h is has = let head : b ≡ 47 = cc in absurd (h.0 head)
second_slash (b ∷ word) part (x ∷ front) more h is has = let tail : word ++ 47 ∷ part ≡ front ++ 47 ∷ more = cc in second_slash word part front more h.1 tail has

not_drop : (part : List ℕ) → IsOnePart part → IsDropName (todo_name part) → ⊥
not_drop part one drop = ⊎_elim
    (λ (e : todo_name part ≡ drop.front ++ (codes "/tmp/" ++ drop.rest)). one (second_slash (codes "todo") part drop.front (codes "tmp" ++ 47 ∷ drop.rest) word e (slash_after (codes "tmp") drop.rest)))
    (λ (e : todo_name part ≡ drop.front ++ (codes "/new/" ++ drop.rest)). one (second_slash (codes "todo") part drop.front (codes "new" ++ 47 ∷ drop.rest) word e (slash_after (codes "new") drop.rest)))
    drop.is
  where
    word : AllByRecursion Unslashed (codes "todo")
    word = (t_apart, (o_apart, (d_apart, (o_apart, tt))))

-- So no event brings one

stays_none : (o : Option Program) (d e : Disk) (name : List ℕ) → LeavesOutside o d e → ((x : Name) → path x ≢ name) → (IsDropName name → ⊥) → d.names name ≡ None → e.names name ≡ None
stays_none (Some (Cleaner since)) d e name leaves queue drop none = ⊎_elim
    (λ (same : e.names name ≡ d.names name). same ∙ none)
    (λ (gone : (part : List ℕ) × (name ≡ pid_path part) × (e.names name ≡ None) × IsOnePart part). gone.2)
    (leaves.names name queue)
stays_none (Some (Delivery since args)) d e name leaves queue drop none = leaves.names name drop ∙ none
stays_none o d e name leaves queue drop none = leaves.names name queue ∙ none

no_halt : (e : Event) → goes_well e ≡ true → is_halt e ≡ false
no_halt (Halt how contents) well = absurd (cc)
no_halt (Start a program) well = refl
no_halt (Act a own wrote) well = refl
no_halt (Child parent own a program) well = refl
no_halt (Generation crew) well = refl
no_halt (Report slot output) well = refl
no_halt (End a read ready status) well = refl
no_halt (Stop a) well = refl
no_halt (Moment m) well = refl

none_if : (o : Option ℕ) → ((file : ℕ) → o ≡ Some file → ⊥) → o ≡ None
none_if None h = refl
none_if (Some file) h = absurd (h file refl)

no_number : (part : List ℕ) (n : ℕ) → message_number part ≡ None → message_number part ≡ Some n → ⊥
no_number part n none some = let both : ◌≡◌ {A = Option ℕ} None (Some n) = sym none ∙ some in absurd (cc)

path_is : (n : ℕ) (part : List ℕ) → digits n ≡ part → path (Of Todo n) ≡ todo_name part
unfolding path
path_is n part is = ap (λ (t : List ℕ). codes "todo/" ++ t) is

module _ (d : Disk) (empty : TodoIsEmpty d) where
  -- a text of digits there is the number of a message
  text_none : (h : List Event) → Legal d h → list_all goes_well h ≡ true → (part : List ℕ) → message_number part ≡ None → digits (value part) ≡ part → (after d h).disk.names (todo_name part) ≡ None
  text_none h legal well part none is = none_if ((after d h).disk.names (todo_name part)) (λ file there.
      let s = after d h in
      let I = always d h legal in
      let n = value part in
      let name : path (Of Todo n) ≡ todo_name part = path_is n part is in
      let lives = living_by s n file I.role (I.sound.fine n) (todo_flat (parts_of s.disk.names n) file (ap s.disk.names name ∙ there)) in
      let low = numbers_are_small d h legal well n lives.0 lives.1 in
      no_number part n none (ap message_number (sym is) ∙ numbered n low.0 low.1))

  none_there : (h : List Event) → Legal d h → list_all goes_well h ≡ true → (part : List ℕ) → IsOnePart part → message_number part ≡ None → (after d h).disk.names (todo_name part) ≡ None
  none_there [] legal well part one none = empty part one
  none_there (e ∷ h) legal well part one none =
      let parts = and_parts (goes_well e) (list_all goes_well h) well in
      by (bytes_eq (digits (value part)) part) refl (none_there h legal.0 parts.1 part one none) parts.0
    where
      by : (b : Bool) → bytes_eq (digits (value part)) part ≡ b → (after d h).disk.names (todo_name part) ≡ None → goes_well e ≡ true → (after d (e ∷ h)).disk.names (todo_name part) ≡ None
      by true same before good = text_none (e ∷ h) legal well part none ((bytes_eq-Decides (digits (value part)) part).0 same)
      by false apart before good =
          stays_none (doer (after d h) e) (after d h).disk (after d (e ∷ h)).disk (todo_name part) ((events_leave d e h legal).outside (no_halt e good))
          (not_queue part apart) (not_drop part one) before

number_or : (o : Option ℕ) → (o ≡ None) ⊎ ((n : ℕ) × (o ≡ Some n))
number_or None = inl refl
number_or (Some n) = inr (n, refl)

pub todo_has_numbers : TodoHasNumbers
todo_has_numbers d h well empty part file one there = ⊎_elim
    (λ (none : message_number part ≡ None).
    let both : ◌≡◌ {A = Option ℕ} None (Some file) = sym (none_there d empty h well.legal well.well part one none) ∙ there in absurd (cc))
    (λ (some : (n : ℕ) × (message_number part ≡ Some n)). some)
    (number_or (message_number part))

-- No search gave one

abbrev NoneGiven : List Own → Type 0
NoneGiven [] = Unit {0}
NoneGiven (own ∷ past) = NoneGiven past × (GivesStray own → ⊥)

abbrev GaveNone : (List ℕ → Option Actor) → Type 0
GaveNone actors = (a : List ℕ) (x : Actor) → actors a ≡ Some x → NoneGiven x.past

put_gave : (actors : List ℕ → Option Actor) (a : List ℕ) (y : Actor) → GaveNone actors → NoneGiven y.past → GaveNone (put_at actors a (Some y))
put_gave actors a y G here b x is = ⊎_elim
    (λ (c : (b ≡ a) × (put_at actors a (Some y) b ≡ Some y)). subst (λ (z : Actor). NoneGiven z.past) (some_actor y x (sym c.1 ∙ is)) here)
    (λ (c : (b ≢ a) × (put_at actors a (Some y) b ≡ actors b)). G b x (sym c.1 ∙ is))
    (put_at_cases actors a (Some y) b)

acted_gave : (s : State) → GaveNone s.actors → (a : List ℕ) (own : Own) (wrote : ℕ) (o : Option Actor) → s.actors a ≡ o → (GivesStray own → ⊥) → GaveNone (acted s a own wrote o).actors
acted_gave s G a own wrote None is none = G
acted_gave s G a own wrote (Some x) is none = put_gave s.actors a (record { program = x.program; past = own ∷ x.past; life = x.life }) G (G a x is, none)

finished_gave : (s : State) → GaveNone s.actors → (a : List ℕ) (life : Life) (o : Option Actor) → s.actors a ≡ o → GaveNone (finished s a life o).actors
finished_gave s G a life None is = G
finished_gave s G a life (Some x) is = put_gave s.actors a (record { program = x.program; past = x.past; life = life }) G (G a x is)

none_some : (o : Option ℕ) → is_some o ≡ true → o ≡ None → ⊥
none_some None some none = false≢true some
none_some (Some n) some none = let both : ◌≡◌ {A = Option ℕ} (Some n) None = none in cc

-- what it gave was there
gave_there : (s : State) → ((part : List ℕ) → IsOnePart part → message_number part ≡ None → s.disk.names (todo_name part) ≡ None) → (a : List ℕ) (own : Own) (wrote : ℕ) → ComesOf s a own.due own.came wrote
    → GivesStray own → ⊥
gave_there s none a own wrote comes g =
    let it = subst (λ (got : GotData). ComesOf s a (needs.File (call.NextName (codes "todo") g.after)) got wrote) g.came (subst (λ (due : NeedData). ComesOf s a due own.came wrote) g.due comes) in
    let fits : Fits s.disk (call.NextName (codes "todo") g.after) (answer.Name g.name) wrote = subst (λ (told : Answer). Fits s.disk (call.NextName (codes "todo") g.after) told wrote) g.gives it.0 in
    let stands = fits.1.stands in
    none_some (s.disk.names (todo_name g.name)) stands.0 (none g.name stands.1.whole g.stray)

event_gave : (e : Event) (s : State) → ((part : List ℕ) → IsOnePart part → message_number part ≡ None → s.disk.names (todo_name part) ≡ None) → GaveNone s.actors → Allowed s e → goes_well e ≡ true
    → GaveNone (happens s e).actors
event_gave (Start a program) s none G may well = put_gave s.actors a (newborn program) G tt
event_gave (Act a own wrote) s none G may well = acted_gave s G a own wrote (s.actors a) refl (gave_there s none a own wrote may.came)
event_gave (Child parent own a program) s none G may well =
    put_gave (acted s parent own 0 (s.actors parent)).actors a (newborn program) (acted_gave s G parent own 0 (s.actors parent) refl (starts may)) tt
  where
    starts : MayBear s parent own a program → GivesStray own → ⊥
    starts may g = let both : needs.Start may.asked ≡ needs.File (call.NextName (codes "todo") g.after) = sym may.starts ∙ g.due in cc
event_gave (Generation (sender ∷ clean ∷ lspawn ∷ rspawn ∷ [])) s none G may well =
    put_gave _ _ (newborn rspawn) (put_gave _ _ (newborn lspawn) (put_gave _ _ (newborn clean) (put_gave _ _ (newborn sender) G tt) tt) tt) tt
event_gave (Generation crew) s none G may well = absurd (are_four crew may.kinds)
event_gave (Report slot output) s none G may well = G
event_gave (End a read ready status) s none G may well = finished_gave s G a (Over status) (s.actors a) refl
event_gave (Stop a) s none G may well = absurd (cc)
event_gave (Moment m) s none G may well = G
event_gave (Halt how contents) s none G may well = absurd (cc)

gave_none : (d : Disk) (h : List Event) → TodoIsEmpty d → Legal d h → list_all goes_well h ≡ true → GaveNone (after d h).actors
gave_none d [] empty legal well = λ a x is. absurd (cc)
gave_none d (e ∷ h) empty legal well =
    let parts = and_parts (goes_well e) (list_all goes_well h) well in
    event_gave e (after d h) (none_there d empty h legal.0 parts.1) (gave_none d h empty legal.0 parts.1) legal.1 parts.0

-- nor does the newest event
pub none_given : (d : Disk) (own : Own) (wrote : ℕ) (h : List Event) → GoesWell d (Act (codes "sender") own wrote ∷ h) → TodoIsEmpty d → GivesStray own → ⊥
none_given d own wrote h well empty g =
    let parts = and_parts (goes_well (Act (codes "sender") own wrote)) (list_all goes_well h) well.well in
    gave_there (after d h) (none_there d empty h well.legal.0 parts.1) (codes "sender") own wrote well.legal.1.came g

-- So the sender began a turn

pub program_idles : (program : Program) (past : List Own) (own : Own) → idled_in program past own ≡ true → (start : ℕ) × (program ≡ Sender start) × (ends_idle (desk_of past) own ≡ true)
program_idles (Sender start) past own idle = (start, refl, idle)
program_idles other past own idle = absurd (cc)

begins_on : (past : List Own) → IsRunBy (Next None) past → NoneLeft None past → NoneGiven past → (row : Row) → (desk_of past).row ≡ row → GoesOn row (desk_of past).last_left → BeginsTurn row
begins_on past run none given (at.FindTodo search.FromStart) is goes = absurd (goes (no_number_left None past none))
begins_on past run none given (at.FindTodo (search.AfterStray again)) is goes =
    let w = strays_were_given None past run again is in
    let before = subst NoneGiven w.2 given in
    absurd (before.1 w.3)
begins_on past run none given row is goes = absurd goes

module _ (d : Disk) (own : Own) (wrote : ℕ) (h : List Event) (well : GoesWell d (Act (codes "sender") own wrote ∷ h)) (empty : TodoIsEmpty d)
    (idle : idled_by ((after d h).actors (codes "sender")) own ≡ true) (x : Actor) (is : (after d h).actors (codes "sender") ≡ Some x) (none : NoneLeft None x.past) where
  pub begins : BeginsTurn (desk_of x.past).row
  begins =
      let it = program_idles x.program x.past own (ap (λ (o : Option Actor). idled_by o own) (sym is) ∙ idle) in
      let run : IsRunBy (Next None) x.past = subst (λ (p : Program). IsRunBy (next_of p) x.past) it.1 (have_run d h well.legal.0 (codes "sender") x is) in
      let parts = and_parts (goes_well (Act (codes "sender") own wrote)) (list_all goes_well h) well.well in
      ⊎_elim
      (λ (so : BeginsTurn (desk_of x.past).row). so)
      (λ (goes : GoesOn (desk_of x.past).row (desk_of x.past).last_left).
      begins_on x.past run none (gave_none d h empty well.legal.0 parts.1 (codes "sender") x is) (desk_of x.past).row refl goes)
      (searches_begin x.past run own it.2)
