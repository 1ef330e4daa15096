-- Where nothing fails each message was injected by a program with a system's numbers.
use Rattle.std.proofs.Common.{◌≡◌, ◌≢◌, ⊎_elim, ℕ, List, [], ◌∷◌, true, Option, Some, None, refl, sym, ap, ◌∙◌, subst}
use Rattle.std.specs.Prelude.{option_map}
use Rattle.std.specs.List.{list_all}
use Rattle.std.proofs.lemmas.Bool.{and_parts}
use Rattle.call_fs.specs.Disk.{Disk}
use Rattle.call_fs.specs.Maps.{put_at}
use Rattle.call_fs.proofs.Maps.{put_at_cases}
use Rattle.call_fs.specs.declared.past.Own.{Own}
use Rattle.call_fs.specs.declared.program.Ready.{Ready}
use Rattle.queue_inject.specs.declared.injection.Arguments.{Arguments}
use Rattle.queue_law.specs.Books.{Injection}
use Rattle.world_events.specs.declared.event.Program.{Program}
use Rattle.world_events.specs.declared.event.Program.TheVariants.{Injector, Cleaner, Sender, LocalSpawner, RemoteSpawner}
use Rattle.mail_world.proofs.Members.{are_four}
use Rattle.mail_world.specs.History.{Actor, Allowed, Event, IsCleaner, IsLocalSpawner, IsRemoteSpawner, IsSender, Legal, Life, State, acted, after, finished, happens, newborn, stopped}
use Rattle.mail_world.specs.History.Event.{Start, Act, Child, Generation, Report, End, Stop, Moment, Halt}
use Rattle.mail_world.specs.History.Life.{Over, Stopped}
use Rattle.world_law.proofs.Tenants.{some_actor}
use Rattle.settle_law.proofs.Injected.{Links, OfAll, OfOne, happens_of}
use Rattle.settle_law.specs.Well.{goes_well, has_system_numbers}

-- Each actor runs a program with such numbers

abbrev AllHave : (List ℕ → Option Actor) → Type 0
AllHave actors = (a : List ℕ) (x : Actor) → actors a ≡ Some x → has_system_numbers x.program ≡ true

put_has : (actors : List ℕ → Option Actor) (a : List ℕ) (y : Actor) → AllHave actors → has_system_numbers y.program ≡ true → AllHave (put_at actors a (Some y))
put_has actors a y W new b x is = ⊎_elim
    (λ (c : (b ≡ a) × (put_at actors a (Some y) b ≡ Some y)). subst (λ (z : Actor). has_system_numbers z.program ≡ true) (some_actor y x (sym c.1 ∙ is)) new)
    (λ (c : (b ≢ a) × (put_at actors a (Some y) b ≡ actors b)). W b x (sym c.1 ∙ is))
    (put_at_cases actors a (Some y) b)

-- a member of a generation is no injector

sender_has : (program : Program) → IsSender program → has_system_numbers program ≡ true
sender_has (Sender start) it = refl
sender_has program it = absurd it

cleaner_has : (program : Program) → IsCleaner program → has_system_numbers program ≡ true
cleaner_has (Cleaner start) it = refl
cleaner_has program it = absurd it

local_has : (program : Program) → IsLocalSpawner program → has_system_numbers program ≡ true
local_has (LocalSpawner start) it = refl
local_has program it = absurd it

remote_has : (program : Program) → IsRemoteSpawner program → has_system_numbers program ≡ true
remote_has (RemoteSpawner start) it = refl
remote_has program it = absurd it

module _ (s : State) (W : AllHave s.actors) where
  acted_has : (a : List ℕ) (own : Own) (wrote : ℕ) (o : Option Actor) → s.actors a ≡ o → AllHave (acted s a own wrote o).actors
  acted_has a own wrote None is = W
  acted_has a own wrote (Some x) is = put_has s.actors a (record { program = x.program; past = own ∷ x.past; life = x.life }) W (W a x is)

  finished_has : (a : List ℕ) (life : Life) (o : Option Actor) → s.actors a ≡ o → AllHave (finished s a life o).actors
  finished_has a life None is = W
  finished_has a life (Some x) is = put_has s.actors a (record { program = x.program; past = x.past; life = life }) W (W a x is)

  stopped_has : (o : Option Actor) (x : Actor) → ((y : Actor) → o ≡ Some y → has_system_numbers y.program ≡ true) → option_map stopped o ≡ Some x → has_system_numbers x.program ≡ true
  stopped_has None x held is = absurd (cc)
  stopped_has (Some y) x held is = subst (λ (z : Actor). has_system_numbers z.program ≡ true) (some_actor (stopped y) x is) (held y refl)

event_has : (e : Event) (s : State) → AllHave s.actors → goes_well e ≡ true → Allowed s e → AllHave (happens s e).actors
event_has (Start a program) s W well may = put_has s.actors a (newborn program) W well
event_has (Act a own wrote) s W well may = acted_has s W a own wrote (s.actors a) refl
event_has (Child parent own a program) s W well may =
    put_has (acted s parent own 0 (s.actors parent)).actors a (newborn program) (acted_has s W parent own 0 (s.actors parent) refl) well
event_has (Generation (sender ∷ clean ∷ lspawn ∷ rspawn ∷ [])) s W well may =
    put_has _ _ (newborn rspawn)
    (put_has _ _ (newborn lspawn)
    (put_has _ _ (newborn clean) (put_has _ _ (newborn sender) W (sender_has sender may.kinds.0)) (cleaner_has clean may.kinds.1.0))
    (local_has lspawn may.kinds.1.1.0)) (remote_has rspawn may.kinds.1.1.1.0)
event_has (Generation crew) s W well may = absurd (are_four crew may.kinds)
event_has (Report slot output) s W well may = W
event_has (End a read ready status) s W well may = finished_has s W a (Over status) (s.actors a) refl
event_has (Stop a) s W well may = finished_has s W a Stopped (s.actors a) refl
event_has (Moment m) s W well may = W
event_has (Halt how contents) s W well may = λ a x is. stopped_has s W (s.actors a) x (W a) is

all_have : (d : Disk) (h : List Event) → Legal d h → list_all goes_well h ≡ true → AllHave (after d h).actors
all_have d [] legal well = λ a x is. absurd (cc)
all_have d (e ∷ h) legal well =
    let parts = and_parts (goes_well e) (list_all goes_well h) well in
    event_has e (after d h) (all_have d h legal.0 parts.1) parts.0 legal.1

-- So each injection has them

abbrev Has : ℕ → Arguments → Type 0
Has n args = has_system_numbers (Injector args) ≡ true

links_have : (s : State) → AllHave s.actors → (a : List ℕ) (x : Actor) → s.actors a ≡ Some x → (read : ℕ) (ready : Ready) → Links Has x.program x.past read ready
links_have s W a x is read ready args old new n program next name = sym (ap has_system_numbers program) ∙ W a x is

books_have : (d : Disk) (h : List Event) → Legal d h → list_all goes_well h ≡ true → OfAll Has (after d h).books
books_have d [] legal well = λ n. tt
books_have d (e ∷ h) legal well =
    let parts = and_parts (goes_well e) (list_all goes_well h) well in
    happens_of Has e (after d h) (links_have (after d h) (all_have d h legal.0 parts.1)) legal.1 (books_have d h legal.0 parts.1)

pub have_system_numbers : (d : Disk) (h : List Event) → Legal d h → list_all goes_well h ≡ true → (n : ℕ) (i : Injection) → (after d h).books.living n ≡ Some i → has_system_numbers (Injector i.args) ≡ true
have_system_numbers d h legal well n i is = subst (λ (o : Option Injection). OfOne Has n o) is (books_have d h legal well n)
