-- A delivery runs as a user of users/assign, whose number is a u32; so does what it forwards.
use Rattle.std.proofs.Common.{◌≡◌, ◌≢◌, ⊎_elim, ℕ, ◌<◌, ◌^◌, List, [], ◌∷◌, get_or, Bool, true, false, if◌then◌else◌, Option, Some, None, refl, sym, ap, ◌∙◌, subst, arith}
use Rattle.std.specs.Prelude.{◌==◌, All, nat_lt, option_map, slice_get}
use Rattle.std.specs.List.{slice_split}
use Rattle.std.specs.Option.{option_and_then}
use Rattle.std.proofs.lemmas.Bool.{ltb-true}
use Rattle.std.proofs.lemmas.List.Elements.{All-cons, All-get_or, All-nil}
use Rattle.std.proofs.lemmas.Option.{slice_get-get_or, slice_get_within}
use Rattle.call_fs.specs.Disk.{Disk}
use Rattle.call_fs.specs.Maps.{put_at}
use Rattle.call_fs.specs.Past.{IsRunBy, taken}
use Rattle.call_fs.proofs.Maps.{put_at_cases}
use Rattle.call_fs.specs.declared.past.ChildData.{ChildData}
use Rattle.call_fs.specs.declared.past.ChildData.TheVariants as child
use Rattle.call_fs.specs.declared.past.NeedData.TheVariants as needs
use Rattle.call_fs.specs.declared.past.Own.{Own}
use Rattle.call_fs.specs.declared.program.Ready.{Ready}
use Rattle.local_parts.specs.declared.arguments.LocalArgs.{LocalArgs}
use Rattle.local_deliver.proofs.Forwards.{single}
use Rattle.local_spawn.specs.declared.assign.Assignment.{Assignment}
use Rattle.local_spawn.specs.declared.kinds.Kind.{Kind}
use Rattle.local_spawn.specs.Fields.{assigned, if_u32, kind_of, number_in, parsed, parsed_by, parsed_fields}
use Rattle.local_spawn.specs.Starts.{HasUsers, users_text}
use Rattle.local_spawn.specs.Starts.HasUsers.{FileRead, NoFile}
use Rattle.local_spawn.specs.Table.{Next}
use Rattle.local_spawn.specs.Users.{is_dot, users_of, with_line}
use Rattle.local_spawn.proofs.Ends.{starts}
use Rattle.mail_bytes.specs.Decimal.{number_of}
use Rattle.spawn_protocol.proofs.Requests.{some_reading}
use Rattle.world_events.specs.declared.event.Program.{Program}
use Rattle.world_events.specs.declared.event.Program.TheVariants.{Delivery, LocalSpawner, RemoteSpawner, Sender}
use Rattle.mail_world.proofs.Members.{are_four}
use Rattle.mail_world.specs.History.{Actor, Allowed, Event, IsCleaner, IsLocalSpawner, IsProgramOf, IsRemoteSpawner, IsSender, Legal, Life, MayBear, MayRun, State, acted, after, finished, happens, newborn, next_of, stopped}
use Rattle.mail_world.specs.History.Event.{Act, Child, End, Generation, Halt, Moment, Report, Start, Stop}
use Rattle.mail_world.specs.History.Life.{Over, Stopped}
use Rattle.mail_world.proofs.Feeders.{Starts, starter}
use Rattle.world_law.proofs.Ran.{HaveRun, have_run}
use Rattle.world_law.proofs.Tenants.{some_actor}

-- Users

abbrev IsUser : Assignment → Type 0
IsUser a = a.uid < 2 ^ 32

u32_fits : (n m : ℕ) → if_u32 n ≡ Some m → m < 2 ^ 32
u32_fits n m is = by (nat_lt n (2 ^ 32)) refl is
  where
    by : (low : Bool) → nat_lt n (2 ^ 32) ≡ low → (if low then Some n else None) ≡ Some m → m < 2 ^ 32
    by true low e =
        let same : n ≡ m = cc in
        let less = ltb-true n (2 ^ 32) low in
        omega (arith, same, less)
    by false low e = absurd (cc)

number_fits : (text : List ℕ) (m : ℕ) → number_in text ≡ Some m → m < 2 ^ 32
number_fits text m is = by (number_of text) is
  where
    by : (o : Option ℕ) → option_and_then if_u32 o ≡ Some m → m < 2 ^ 32
    by None e = absurd (cc)
    by (Some n) e = u32_fits n m e

assigned_fits : (kind : Option Kind) (local user : List ℕ) (uid gid : Option ℕ) (home dash ext : List ℕ) (a : Assignment) → ((n : ℕ) → uid ≡ Some n → n < 2 ^ 32)
    → assigned kind local user uid gid home dash ext ≡ Some a → IsUser a
assigned_fits (Some kind) local user (Some uid) (Some gid) home dash ext a fits e =
    let same : record { kind = kind; local = local; user = user; uid = uid; gid = gid; home = home; dash = dash; ext = ext } ≡ a = cc in
    subst IsUser same (fits uid refl)
assigned_fits kind local user uid gid home dash ext a fits e = absurd (cc)

fields_fit : (first user uid gid home dash ext : List ℕ) (a : Assignment) → parsed_fields first user uid gid home dash ext ≡ Some a → IsUser a
fields_fit [] user uid gid home dash ext a e = absurd (cc)
fields_fit (sign ∷ local) user uid gid home dash ext a e = assigned_fits (kind_of sign) local user (number_in uid) (number_in gid) home dash ext a (number_fits uid) e

pieces_fit : (pieces : List (List ℕ)) (a : Assignment) → parsed_by pieces ≡ Some a → IsUser a
pieces_fit (first ∷ user ∷ uid ∷ gid ∷ home ∷ dash ∷ ext ∷ [] ∷ []) a e = fields_fit first user uid gid home dash ext a e
pieces_fit other a e = absurd (cc)

line_fits : (line : List ℕ) (o : Option Assignment) (dot : Bool) (others : Option (List Assignment)) (users : List Assignment) → parsed line ≡ o
    → ((later : List Assignment) → others ≡ Some later → All IsUser later) → with_line o dot others ≡ Some users → All IsUser users
line_fits line (Some a) dot None users is fit e = absurd (cc)
line_fits line (Some a) dot (Some later) users is fit e =
    let same : a ∷ later ≡ users = cc in
    subst (All IsUser) same (All-cons IsUser a later (pieces_fit (slice_split (λ b. b == 58) line) a is) (fit later refl))
line_fits line None true others users is fit e = let same : [] ≡ users = cc in subst (All IsUser) same (All-nil IsUser)
line_fits line None false others users is fit e = absurd (cc)

users_fit : (lines : List (List ℕ)) (users : List Assignment) → users_of lines ≡ Some users → All IsUser users
users_fit [] users e = absurd (cc)
users_fit (line ∷ later) users e = line_fits line (parsed line) (is_dot line) (users_of later) users refl (users_fit later) e

same_user : (a b : Assignment) → ◌≡◌ {A = Option Assignment} (Some a) (Some b) → a ≡ b
same_user a b e = cc

user_fits : (past : List Own) (users : List Assignment) (k : ℕ) (user : Assignment) → HasUsers past users → slice_get users k ≡ Some user → IsUser user
user_fits past _ k user (NoFile missing) here = let low = slice_get_within [] k user here in absurd (omega (arith, low))
user_fits past _ k user (FileRead users read) here =
    let low = slice_get_within users k user here in
    subst IsUser (same_user (get_or users k user) user (sym (slice_get-get_or users k user low) ∙ here)) (All-get_or IsUser users k user low (users_fit (slice_split (λ b. b == 10) (users_text past)) users read))

-- the user of a delivery
abbrev user_in : ChildData → ℕ
user_in (child.Local slot words uid) = uid
user_in other = 0

local_fits : (past : List Own) (now : ℕ) (ready : Ready) (asked : ChildData) → IsRunBy (Next tt) past → Next tt past now ready ≡ needs.Start asked → user_in asked < 2 ^ 32
local_fits past now ready asked run next =
    let read = some_reading (taken past) in
    let one = starts tt past now ready read.0 read.1 asked run read.2 next in
    subst (λ (n : ℕ). n < 2 ^ 32) (sym (ap user_in one.of)) (user_fits past one.users one.found.line one.user one.are one.here)

-- Deliveries

abbrev FitsUser : Program → Type 0
FitsUser (Delivery start args) = args.uid < 2 ^ 32
FitsUser other = Unit {0}

abbrev FitUsers : (List ℕ → Option Actor) → Type 0
FitUsers actors = (a : List ℕ) (x : Actor) → actors a ≡ Some x → FitsUser x.program

put_fits : (actors : List ℕ → Option Actor) (a : List ℕ) (y : Actor) → FitUsers actors → FitsUser y.program → FitUsers (put_at actors a (Some y))
put_fits actors a y all fits b x is = ⊎_elim
    (λ (c : (b ≡ a) × (put_at actors a (Some y) b ≡ Some y)). subst (λ (z : Actor). FitsUser z.program) (some_actor y x (sym c.1 ∙ is)) fits)
    (λ (c : (b ≢ a) × (put_at actors a (Some y) b ≡ actors b)). all b x (sym c.1 ∙ is))
    (put_at_cases actors a (Some y) b)

mail_fits : (program : Program) → MayRun program → FitsUser program
mail_fits (Delivery start args) may = absurd may
mail_fits other may = tt

sender_fits : (program : Program) → IsSender program → FitsUser program
sender_fits (Delivery start args) is = absurd is
sender_fits other is = tt

cleaner_fits : (program : Program) → IsCleaner program → FitsUser program
cleaner_fits (Delivery start args) is = absurd is
cleaner_fits other is = tt

lspawn_fits : (program : Program) → IsLocalSpawner program → FitsUser program
lspawn_fits (Delivery start args) is = absurd is
lspawn_fits other is = tt

rspawn_fits : (program : Program) → IsRemoteSpawner program → FitsUser program
rspawn_fits (Delivery start args) is = absurd is
rspawn_fits other is = tt

-- who starts a delivery is a local spawner
started_fits : (parent : Program) (past : List Own) (now : ℕ) (ready : Ready) (asked : ChildData) → IsRunBy (next_of parent) past → Starts parent asked
    → next_of parent past now ready ≡ needs.Start asked → user_in asked < 2 ^ 32
started_fits (LocalSpawner began) past now ready asked run may next = local_fits past now ready asked run next
started_fits (Sender began) past now ready (child.Bounce room) run may next = omega arith
started_fits (RemoteSpawner began) past now ready (child.Remote slot domain sender recipient) run may next = omega arith
started_fits (Delivery began args) past now ready (child.Forward uid room) run may next = omega arith
started_fits other past now ready asked run may next = absurd may

asked_fits : (asked : ChildData) (pid : ℕ) (program : Program) → IsProgramOf asked pid program → user_in asked < 2 ^ 32 → FitsUser program
asked_fits (child.Local slot words uid) pid (Delivery start args) is fits = subst (λ (it : LocalArgs). it.uid < 2 ^ 32) (sym is) fits
asked_fits asked pid (Delivery start args) is fits = absurd is
asked_fits asked pid other is fits = tt

module _ (s : State) (ran : HaveRun s.actors) (all : FitUsers s.actors) where
  child_fits : (parent : List ℕ) (own : Own) (a : List ℕ) (program : Program) → MayBear s parent own a program → FitsUser program
  child_fits parent own a program may =
      let x = may.actor in
      let run = ran parent x may.reads.is in
      let next = may.due ∙ may.starts in
      asked_fits may.asked may.pid program may.is
      (started_fits x.program x.past own.read own.ready may.asked run (starter x.program x.past own.read own.ready may.asked run next) next)

  acted_fits : (a : List ℕ) (own : Own) (wrote : ℕ) (o : Option Actor) → s.actors a ≡ o → FitUsers (acted s a own wrote o).actors
  acted_fits a own wrote None is = all
  acted_fits a own wrote (Some x) is = put_fits s.actors a (record { program = x.program; past = own ∷ x.past; life = x.life }) all (all a x is)

  finished_fits : (a : List ℕ) (life : Life) (o : Option Actor) → s.actors a ≡ o → FitUsers (finished s a life o).actors
  finished_fits a life None is = all
  finished_fits a life (Some x) is = put_fits s.actors a (record { program = x.program; past = x.past; life = life }) all (all a x is)

  stopped_fits : (o : Option Actor) (x : Actor) → ((y : Actor) → o ≡ Some y → FitsUser y.program) → option_map stopped o ≡ Some x → FitsUser x.program
  stopped_fits None x fits is = absurd (cc)
  stopped_fits (Some y) x fits is = subst (λ (z : Actor). FitsUser z.program) (some_actor (stopped y) x is) (fits y refl)

next_fits : (e : Event) (s : State) → HaveRun s.actors → FitUsers s.actors → Allowed s e → FitUsers (happens s e).actors
next_fits (Start a program) s ran all may = put_fits s.actors a (newborn program) all (mail_fits program may.runs)
next_fits (Act a own wrote) s ran all may = acted_fits s ran all a own wrote (s.actors a) refl
next_fits (Child parent own a program) s ran all may =
    put_fits (acted s parent own 0 (s.actors parent)).actors a (newborn program) (acted_fits s ran all parent own 0 (s.actors parent) refl) (child_fits s ran all parent own a program may)
next_fits (Generation (sender ∷ clean ∷ lspawn ∷ rspawn ∷ [])) s ran all may =
    let kinds = may.kinds in
    put_fits _ _ (newborn rspawn) (put_fits _ _ (newborn lspawn) (put_fits _ _ (newborn clean) (put_fits _ _ (newborn sender) all (sender_fits sender kinds.0)) (cleaner_fits clean kinds.1.0))
    (lspawn_fits lspawn kinds.1.1.0)) (rspawn_fits rspawn kinds.1.1.1.0)
next_fits (Generation crew) s ran all may = absurd (are_four crew may.kinds)
next_fits (Report slot output) s ran all may = all
next_fits (End a read ready status) s ran all may = finished_fits s ran all a (Over status) (s.actors a) refl
next_fits (Stop a) s ran all may = finished_fits s ran all a Stopped (s.actors a) refl
next_fits (Moment m) s ran all may = all
next_fits (Halt how contents) s ran all may = λ a x is. stopped_fits s ran all (s.actors a) x (λ y here. all a y here) is

all_fit : (d : Disk) (h : List Event) → Legal d h → FitUsers (after d h).actors
all_fit d [] legal = λ a x is. absurd (cc)
all_fit d (e ∷ before) legal = next_fits e (after d before) (have_run d before legal.0) (all_fit d before legal.0) legal.1

-- the injector of what is forwarded
delivery_fits : (program : Program) (past : List Own) (now : ℕ) (ready : Ready) (uid room : ℕ) → FitsUser program → IsRunBy (next_of program) past → Starts program (child.Forward uid room)
    → next_of program past now ready ≡ needs.Start (child.Forward uid room) → uid < 2 ^ 32
delivery_fits (Delivery start args) past now ready uid room fits run may next =
    let same = (single args past now ready (child.Forward uid room) run next).0.1 in
    subst (λ (n : ℕ). n < 2 ^ 32) (sym (ap forwarded same)) fits
  where
    forwarded : ChildData → ℕ
    forwarded (child.Forward uid room) = uid
    forwarded other = 0
delivery_fits other past now ready uid room fits run may next = absurd may

pub forward_fits : (d : Disk) (h : List Event) (a : List ℕ) (x : Actor) (now : ℕ) (ready : Ready) (uid room : ℕ) → Legal d h → (after d h).actors a ≡ Some x
    → next_of x.program x.past now ready ≡ needs.Start (child.Forward uid room) → uid < 2 ^ 32
forward_fits d h a x now ready uid room legal is next =
    let run = have_run d h legal a x is in
    delivery_fits x.program x.past now ready uid room (all_fit d h legal a x is) run (starter x.program x.past now ready (child.Forward uid room) run next) next
