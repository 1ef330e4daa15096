-- Where nothing fails the numbers of messages are below 2^64.
use Rattle.std.proofs.Common.{◌≡◌, ◌≢◌, ⊎_elim, ℕ, ◌+◌, ◌<◌, ◌≤◌, ◌^◌, List, [], ◌∷◌, length, Bool, true, false, ◌&&◌, if◌then◌else◌, Option, Some, None, refl, sym, ap, ◌∙◌, subst}
use Rattle.std.specs.Prelude.{nat_le, nat_lt, option_map}
use Rattle.std.specs.List.{list_all}
use Rattle.std.proofs.lemmas.Bool.{and_parts, le-leb, leb-true, ltb-true}
use Rattle.call_fs.specs.Apply.{Fits}
use Rattle.call_fs.specs.Disk.{Disk}
use Rattle.call_fs.specs.Maps.{put_at}
use Rattle.call_fs.specs.Program.{IsTaken, MayCome}
use Rattle.call_fs.proofs.Maps.{put_at_cases}
use Rattle.call_fs.specs.declared.calls.Answer.{Answer}
use Rattle.call_fs.specs.declared.calls.Answer.TheVariants.{Created, Done, Refused}
use Rattle.call_fs.specs.declared.calls.CallData.{CallData}
use Rattle.call_fs.specs.declared.calls.CallData.TheVariants.{CreateExcl, Link}
use Rattle.call_fs.specs.declared.calls.Fd.{Fd}
use Rattle.call_fs.specs.declared.calls.FsError.TheVariants.{Exists, NotThere}
use Rattle.call_fs.specs.declared.calls.Told.{Told}
use Rattle.call_fs.specs.declared.past.GotData.{GotData}
use Rattle.call_fs.specs.declared.past.GotData.TheVariants.{Answered}
use Rattle.call_fs.specs.declared.past.NeedData.{NeedData}
use Rattle.call_fs.specs.declared.past.NeedData.TheVariants as needs
use Rattle.call_fs.specs.declared.past.Own.{Own}
use Rattle.call_fs.specs.declared.program.Port.{Port}
use Rattle.call_fs.specs.declared.program.Port.TheVariants as port
use Rattle.call_fs.specs.declared.program.Ready.{Ready}
use Rattle.queue_inject.specs.declared.injection.Arguments.{Arguments}
use Rattle.queue_inject.specs.declared.row.Row.{Row}
use Rattle.queue_inject.specs.declared.row.Row.TheVariants as at
use Rattle.queue_inject.specs.Table.{Work, after_came, due_by, goes_to, has_input, in_time, is_late, past_bytes, past_piece, piece_size, place_after, work_of}
use Rattle.queue_law.specs.Books.{Injection}
use Rattle.queue_paths.specs.Names.{Name, parse, path}
use Rattle.queue_paths.specs.Names.Name.{Of}
use Rattle.queue_paths.specs.Names.Part.{Mess, Todo}
use Rattle.queue_paths.proofs.Paths.{parse-path}
use Rattle.world_events.specs.declared.event.Program.{Program}
use Rattle.mail_world.proofs.Members.{are_four}
use Rattle.mail_world.specs.History.{Actor, Allowed, ComesOf, Event, Legal, Life, State, acted, after, finished, happens, newborn, next_of, stopped}
use Rattle.mail_world.specs.History.Event.{Start, Act, Child, Generation, Report, End, Stop, Moment, Halt}
use Rattle.mail_world.specs.History.Life.{Over, Stopped}
use Rattle.mail_world.proofs.Coming.{may_come}
use Rattle.settle_law.specs.inside.Numbers.{NumbersAreSmall}
use Rattle.settle_law.proofs.Injected.{Links, OfAll, OfOne, happens_of}
use Rattle.settle_law.specs.Well.{came_well, goes_well, is_well_answered}

-- a number that a program can name
abbrev pub IsSmall : ℕ → Type 0
IsSmall n = (1 ≤ n) × (n < 2 ^ 64)

-- Nothing failed in the past of any actor.

-- the file has a number from 1 on, as all that are made
abbrev is_counted : Answer → Bool
is_counted (Created fd n) = nat_le 1 n
is_counted told = true

abbrev came_counted : GotData → Bool
came_counted (Answered told) = is_counted told.answer
came_counted came = true

abbrev pub is_well : Own → Bool
is_well own = came_well own.came && came_counted own.came

pub went_well : (own : Own) → is_well own ≡ true → came_well own.came ≡ true
went_well own well = (and_parts (came_well own.came) (came_counted own.came) well).0

fits_counted : (d : Disk) (c : CallData) (told : Answer) (wrote : ℕ) → Fits d c told wrote → is_counted told ≡ true
fits_counted d (CreateExcl name) (Created fd n) wrote fits = le-leb 1 n fits.positive
fits_counted d c (Created fd n) wrote fits = absurd fits
fits_counted d c told wrote fits = refl

pub not_taken : (p : Port) (told : Told) → IsTaken p (Answered told) → ⊥
not_taken (port.Status d) told may = may
not_taken p told may = may

comes_counted : (s : State) (a : List ℕ) (due : NeedData) (came : GotData) (wrote : ℕ) → ComesOf s a due came wrote → MayCome due came → came_counted came ≡ true
comes_counted s a (needs.File c) (Answered told) wrote comes may = fits_counted s.disk c told.answer wrote comes.0
comes_counted s a (needs.Take p) (Answered told) wrote comes may = absurd (not_taken p told may)
comes_counted s a due (Answered told) wrote comes may = absurd may
comes_counted s a due came wrote comes may = refl

abbrev pub PastsWell : (List ℕ → Option Actor) → Type 0
PastsWell actors = (a : List ℕ) (x : Actor) → actors a ≡ Some x → list_all is_well x.past ≡ true

pub both_true : (p q : Bool) → p ≡ true → q ≡ true → (p && q) ≡ true
both_true true true one two = refl
both_true true false one two = absurd (cc)
both_true false q one two = absurd (cc)

same_actor : (x y : Actor) → ◌≡◌ {A = Option Actor} (Some x) (Some y) → x ≡ y
same_actor x y e = cc

put_well : (actors : List ℕ → Option Actor) (a : List ℕ) (y : Actor) → PastsWell actors → list_all is_well y.past ≡ true → PastsWell (put_at actors a (Some y))
put_well actors a y W well b x is = ⊎_elim
    (λ (c : (b ≡ a) × (put_at actors a (Some y) b ≡ Some y)). subst (λ (z : Actor). list_all is_well z.past ≡ true) (same_actor y x (sym c.1 ∙ is)) well)
    (λ (c : (b ≢ a) × (put_at actors a (Some y) b ≡ actors b)). W b x (sym c.1 ∙ is))
    (put_at_cases actors a (Some y) b)

module _ (s : State) (W : PastsWell s.actors) where
  acted_well : (a : List ℕ) (own : Own) (wrote : ℕ) (o : Option Actor) → s.actors a ≡ o → is_well own ≡ true → PastsWell (acted s a own wrote o).actors
  acted_well a own wrote None is well = W
  acted_well a own wrote (Some x) is well =
      put_well s.actors a (record { program = x.program; past = own ∷ x.past; life = x.life }) W (both_true (is_well own) (list_all is_well x.past) well (W a x is))

  finished_well : (a : List ℕ) (life : Life) (o : Option Actor) → s.actors a ≡ o → PastsWell (finished s a life o).actors
  finished_well a life None is = W
  finished_well a life (Some x) is = put_well s.actors a (record { program = x.program; past = x.past; life = life }) W (W a x is)

  stopped_well : (o : Option Actor) (x : Actor) → ((y : Actor) → o ≡ Some y → list_all is_well y.past ≡ true) → option_map stopped o ≡ Some x → list_all is_well x.past ≡ true
  stopped_well None x well is = absurd (cc)
  stopped_well (Some y) x well is = subst (λ (z : Actor). list_all is_well z.past ≡ true) (same_actor (stopped y) x is) (well y refl)

event_well : (e : Event) (s : State) → PastsWell s.actors → goes_well e ≡ true → Allowed s e → PastsWell (happens s e).actors
event_well (Start a program) s W well may = put_well s.actors a (newborn program) W refl
event_well (Act a own wrote) s W well may =
    acted_well s W a own wrote (s.actors a) refl
    (both_true (came_well own.came) (came_counted own.came) well (comes_counted s a own.due own.came wrote may.came (may_come s a own.due own.came wrote may.came)))
event_well (Child parent own a program) s W well may =
    put_well (acted s parent own 0 (s.actors parent)).actors a (newborn program) (acted_well s W parent own 0 (s.actors parent) refl (ap (λ (g : GotData). came_well g && came_counted g) may.came)) refl
event_well (Generation (sender ∷ clean ∷ lspawn ∷ rspawn ∷ [])) s W well may =
    put_well _ _ (newborn rspawn) (put_well _ _ (newborn lspawn) (put_well _ _ (newborn clean) (put_well _ _ (newborn sender) W refl) refl) refl) refl
event_well (Generation crew) s W well may = absurd (are_four crew may.kinds)
event_well (Report slot output) s W well may = W
event_well (End a read ready status) s W well may = finished_well s W a (Over status) (s.actors a) refl
event_well (Stop a) s W well may = finished_well s W a Stopped (s.actors a) refl
event_well (Moment m) s W well may = W
event_well (Halt how contents) s W well may = λ a x is. stopped_well s W (s.actors a) x (W a) is

pub pasts_well : (d : Disk) (h : List Event) → Legal d h → list_all goes_well h ≡ true → PastsWell (after d h).actors
pasts_well d [] legal well = λ a x is. absurd (cc)
pasts_well d (e ∷ h) legal well =
    let parts = and_parts (goes_well e) (list_all goes_well h) well in
    event_well e (after d h) (pasts_well d h legal.0 parts.1) parts.0 legal.1

-- So an injector that is to link its message has a number below 2^64.

abbrev pub IsSmallAt : Row → Type 0
IsSmallAt (at.LinkMess seq n fd) = IsSmall n
IsSmallAt row = Unit {0}

if_small : (b : Bool) (one other : Row) → IsSmallAt one → IsSmallAt other → IsSmallAt (if b then one else other)
if_small true one other p q = p
if_small false one other p q = q

goes_small : (row : Row) (told : Answer) → (is_well_answered told ≡ true) × (is_counted told ≡ true) → IsSmallAt (goes_to row told)
goes_small (at.Create seq) (Created fd n) well = (leb-true 1 n well.1, ltb-true n (2 ^ 64) well.0)
goes_small (at.Create seq) (Refused Exists) well = if_small (nat_lt seq 9) (at.Create (seq + 1)) (at.Failed 63) tt tt
goes_small (at.Create seq) told well = tt
goes_small (at.LinkMess seq n fd) Done well = tt
goes_small (at.LinkMess seq n fd) told well = tt
goes_small (at.UnlinkPid seq n fd) Done well = tt
goes_small (at.UnlinkPid seq n fd) told well = tt
goes_small (at.AppendMess n fd done) Done well = tt
goes_small (at.AppendMess n fd done) told well = tt
goes_small (at.SyncMess n fd) Done well = tt
goes_small (at.SyncMess n fd) told well = tt
goes_small (at.CreateIntd n) (Created fd i) well = tt
goes_small (at.CreateIntd n) told well = tt
goes_small (at.AppendTodo n fd done) Done well = tt
goes_small (at.AppendTodo n fd done) told well = tt
goes_small (at.SyncTodo n fd) Done well = tt
goes_small (at.SyncTodo n fd) told well = tt
goes_small (at.LinkTodo n) Done well = tt
goes_small (at.LinkTodo n) told well = tt
goes_small (at.CleanIntd n status) Done well = tt
goes_small (at.CleanIntd n status) (Refused NotThere) well = tt
goes_small (at.CleanIntd n status) told well = tt
goes_small (at.CleanMess n status) told well = tt
goes_small at.Queued told well = tt
goes_small (at.Failed status) told well = tt

piece_small : (bytes : List ℕ) (fault : Option ℕ) (done : ℕ) (more end : Row) (bad : ℕ → Row) → IsSmallAt more → IsSmallAt end → ((status : ℕ) → IsSmallAt (bad status))
    → IsSmallAt (past_piece bytes fault done more end bad)
piece_small bytes None done more end bad p q r = if_small (nat_lt done (length bytes)) more end p q
piece_small bytes (Some status) done more end bad p q r = if_small (nat_le (done + piece_size) (length bytes)) more (bad status) p (r status)

past_small : (work : Work) (row : Row) → IsSmallAt row → IsSmallAt (past_bytes work row)
past_small work (at.AppendMess n fd done) h =
    let f : Fd = record { 0 = fd.0 } in
    piece_small work.message.bytes work.message.fault done (at.AppendMess n f done) (at.SyncMess n f) (λ status. at.CleanMess n status) tt tt (λ status. tt)
past_small work (at.AppendTodo n fd done) h =
    let f : Fd = record { 0 = fd.0 } in
    piece_small work.todo.bytes work.todo.fault done (at.AppendTodo n f done) (at.SyncTodo n f) (λ status. at.CleanIntd n status) tt tt (λ status. tt)
past_small work row h = h

came_small : (args : Arguments) (row : Row) (came : GotData) → (came_well came ≡ true) × (came_counted came ≡ true) → IsSmallAt row → IsSmallAt (after_came args row came)
came_small args row (Answered told) well h = past_small (work_of args) (goes_to row told.answer) (goes_small row told.answer well)
came_small args row came well h = h

pub small_row : (args : Arguments) (past : List Own) → list_all is_well past ≡ true → IsSmallAt (place_after args past)
small_row args [] well = tt
small_row args (own ∷ past) well =
    let parts = and_parts (is_well own) (list_all is_well past) well in
    came_small args (place_after args past) own.came (and_parts (came_well own.came) (came_counted own.came) parts.0) (small_row args past parts.1)

-- The link of a message is that of this number.

call_due : (input late : Bool) (due : NeedData) (c : CallData) → in_time input late due ≡ needs.File c → due ≡ needs.File c
call_due true true (needs.File own) c h = absurd (cc)
call_due true false (needs.File own) c h = h
call_due false late (needs.File own) c h = absurd (cc)
call_due input late due c h = absurd (cc)

link_small : (args : Arguments) (row : Row) (old new : List ℕ) (n : ℕ) → due_by args row ≡ needs.File (Link old new) → parse new ≡ Some (Of Mess n) → IsSmallAt row → IsSmall n
link_small args (at.LinkMess seq m fd) old new n due is small =
    let name : path (Of Mess m) ≡ new = cc in
    let both : ◌≡◌ {A = Option Name} (Some (Of Mess m)) (Some (Of Mess n)) = sym (parse-path (Of Mess m)) ∙ ap parse name ∙ is in
    let same : m ≡ n = cc in
    subst (λ (k : ℕ). IsSmall k) same small
link_small args (at.LinkTodo m) old new n due is small =
    let name : path (Of Todo m) ≡ new = cc in
    let both : ◌≡◌ {A = Option Name} (Some (Of Todo m)) (Some (Of Mess n)) = sym (parse-path (Of Todo m)) ∙ ap parse name ∙ is in
    absurd (cc)
link_small args row old new n due is small = absurd (cc)

-- The books

abbrev Small : ℕ → Arguments → Type 0
Small n args = IsSmall n

links_small : (s : State) → PastsWell s.actors → (a : List ℕ) (x : Actor) → s.actors a ≡ Some x → (read : ℕ) (ready : Ready) → Links Small x.program x.past read ready
links_small s W a x is read ready args old new n program next name =
    let row = place_after args x.past in
    let mine : in_time (has_input ready) (is_late args read) (due_by args row) ≡ needs.File (Link old new) = subst (λ (p : Program). next_of p x.past read ready ≡ needs.File (Link old new)) program next in
    let due = call_due (has_input ready) (is_late args read) (due_by args row) (Link old new) mine in
    link_small args row old new n due name (small_row args x.past (W a x is))

books_are_small : (d : Disk) (h : List Event) → Legal d h → list_all goes_well h ≡ true → OfAll Small (after d h).books
books_are_small d [] legal well = λ n. tt
books_are_small d (e ∷ h) legal well =
    let parts = and_parts (goes_well e) (list_all goes_well h) well in
    happens_of Small e (after d h) (links_small (after d h) (pasts_well d h legal.0 parts.1)) legal.1 (books_are_small d h legal.0 parts.1)

pub numbers_are_small : NumbersAreSmall
numbers_are_small d h legal well n i is = subst (λ (o : Option Injection). OfOne Small n o) is (books_are_small d h legal well n)
