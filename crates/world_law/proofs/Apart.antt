-- A delivery that was started since the last request for its slot was started for the attempt there; and no two attempts share one.
use Rattle.std.proofs.Common.{◌≡◌, ◌≢◌, ⊎_elim, ℕ, List, [], ◌∷◌, ◌++◌, true, false, Option, Some, None, is_some, option_map, refl, sym, ap, ◌∙◌, subst, codes, slice_get}
use Rattle.std.proofs.lemmas.List.{append_assoc}
use Rattle.call_fs.proofs.Maps.{put_at_cases, put_at_same}
use Rattle.call_fs.specs.Disk.{Disk}
use Rattle.call_fs.specs.Maps.{put_at}
use Rattle.call_fs.specs.declared.past.GotData.TheVariants as got
use Rattle.call_fs.specs.declared.past.NeedData.TheVariants as needs
use Rattle.call_fs.specs.declared.past.Own.{Own}
use Rattle.call_fs.specs.declared.program.Port.TheVariants as port
use Rattle.send_core.specs.Past.{Task, account}
use Rattle.send_core.specs.Past.Happening.{Gives}
use Rattle.send_known.specs.declared.channel.Channel.TheVariants.{Local}
use Rattle.send_runs.specs.Reports.{given_by}
use Rattle.world_events.specs.declared.event.Program.{Program}
use Rattle.mail_world.specs.History.{Actor, Allowed, Event, Legal, Life, State, acted, after, finished, happens, newborn, slot_by, stopped, with_crew}
use Rattle.mail_world.specs.History.Event.{Act, Child, End, Generation, Halt, Moment, Report, Start, Stop}
use Rattle.mail_world.specs.History.Life.{Over, Stopped}
use Rattle.world_law.specs.Carried.{DeliveriesAreApart}
use Rattle.world_law.specs.Started.{AllStay, Stays, WasAsked, WasStartedFor}
use Rattle.world_law.proofs.Born.{IsBorn}
use Rattle.world_law.proofs.Tenants.{some_actor}
use Rattle.actor_names.specs.MailNames.{members}

cons_parts : (x y : Event) (xs ys : List Event) → x ∷ xs ≡ y ∷ ys → (x ≡ y) × (xs ≡ ys)
cons_parts x y xs ys e = (cc, cc)

-- The last giving for a slot

gives_at : (own : Own) (slot : ℕ) (rest : List ℕ) → own.due ≡ needs.Give port.Lspawn (slot ∷ rest) → own.came ≡ got.Gave → given_by own.due own.came Local ≡ Gives slot
gives_at own slot rest due came = λ i. given_by (due i) (came i) Local

abbrev giving : Own → ℕ → Event
giving own wrote = Act (codes "sender") own wrote

-- a delivery that was started with none for its slot since was started after it
module _ (slot : ℕ) (own : Own) (wrote : ℕ) (gives : given_by own.due own.came Local ≡ Gives slot) (earlier : List Event) (starting : Own) (name : List ℕ) (program : Program) (before : List Event) where
  abbrev start : Event
  start = Child (codes "lspawn") starting name program

  started_since : (since later : List Event) → since ++ giving own wrote ∷ earlier ≡ later ++ start ∷ before → AllStay slot later → (rest : List Event) × (since ≡ later ++ start ∷ rest)
  started_since [] [] e stays = let parts = cons_parts (giving own wrote) start earlier before e in let both : giving own wrote ≡ start = parts.0 in absurd (cc)
  started_since [] (y ∷ later) e stays =
      let parts = cons_parts (giving own wrote) y earlier (later ++ start ∷ before) e in
      absurd (subst (Stays slot) (sym parts.0) stays.1 gives)
  started_since (x ∷ since) [] e stays =
      let parts = cons_parts x start (since ++ giving own wrote ∷ earlier) before e in
      (since, ap (λ (z : Event). z ∷ since) parts.0)
  started_since (x ∷ since) (y ∷ later) e stays =
      let parts = cons_parts x y (since ++ giving own wrote ∷ earlier) (later ++ start ∷ before) e in
      let w = started_since since later parts.1 stays.0 in
      (w.0, λ i. parts.0 i ∷ w.1 i)

pub started_for : (d : Disk) (h : List Event) (name : List ℕ) (slot : ℕ) (t : Task) → WasAsked d h slot t → IsBorn h slot name → WasStartedFor d h name slot t
started_for d h name slot t asked born =
    let w = started_since slot asked.own asked.wrote (gives_at asked.own slot asked.rest asked.due asked.came_is) asked.earlier born.own name born.program born.before
    asked.since born.later (sym asked.all ∙ born.all) born.stays in
    record { asked = asked; own = born.own; program = born.program; later = born.later; before = w.0; among = w.1; slot_is = born.slot_is }

-- two that are the last ones for a slot are one
module _ (i j : ℕ) (same : i ≡ j) (own other : Own) (wrote also : ℕ) (first : given_by own.due own.came Local ≡ Gives i) (second : given_by other.due other.came Local ≡ Gives j)
    (us vs : List Event) where
  last_given : (xs ys : List Event) → xs ++ giving own wrote ∷ us ≡ ys ++ giving other also ∷ vs → AllStay i xs → AllStay j ys → us ≡ vs
  last_given [] [] e left right = (cons_parts (giving own wrote) (giving other also) us vs e).1
  last_given [] (y ∷ ys) e left right =
      let parts = cons_parts (giving own wrote) y us (ys ++ giving other also ∷ vs) e in
      absurd (subst (Stays j) (sym parts.0) right.1 (first ∙ ap Gives same))
  last_given (x ∷ xs) [] e left right =
      let parts = cons_parts x (giving other also) (xs ++ giving own wrote ∷ us) vs e in
      absurd (subst (Stays i) parts.0 left.1 (second ∙ ap Gives (sym same)))
  last_given (x ∷ xs) (y ∷ ys) e left right =
      let parts = cons_parts x y (xs ++ giving own wrote ∷ us) (ys ++ giving other also ∷ vs) e in
      last_given xs ys parts.1 left.0 right.0

-- A delivery starts once

put_there : (actors : List ℕ → Option Actor) (a b : List ℕ) (y : Actor) → is_some (actors b) ≡ true → is_some (put_at actors a (Some y) b) ≡ true
put_there actors a b y there = ⊎_elim
    (λ (c : (b ≡ a) × (put_at actors a (Some y) b ≡ Some y)). ap is_some c.1)
    (λ (c : (b ≢ a) × (put_at actors a (Some y) b ≡ actors b)). ap is_some c.1 ∙ there)
    (put_at_cases actors a (Some y) b)

crew_there : (names : List (List ℕ)) (crew : List Program) (actors : List ℕ → Option Actor) (b : List ℕ) → is_some (actors b) ≡ true → is_some (with_crew names crew actors b) ≡ true
crew_there (a ∷ names) (program ∷ crew) actors b there = crew_there names crew (put_at actors a (Some (newborn program))) b (put_there actors a b (newborn program) there)
crew_there names crew actors b there = there

abbrev IsThere : State → List ℕ → Type 0
IsThere s b = is_some (s.actors b) ≡ true

module _ (s : State) (b : List ℕ) (there : IsThere s b) where
  acts_there : (a : List ℕ) (own : Own) (wrote : ℕ) (o : Option Actor) → IsThere (acted s a own wrote o) b
  acts_there a own wrote None = there
  acts_there a own wrote (Some x) = put_there s.actors a b (record { program = x.program; past = own ∷ x.past; life = x.life }) there

  ends_there : (a : List ℕ) (life : Life) (o : Option Actor) → IsThere (finished s a life o) b
  ends_there a life None = there
  ends_there a life (Some x) = put_there s.actors a b (record { program = x.program; past = x.past; life = life }) there

  stops_there : (o : Option Actor) → is_some o ≡ true → is_some (option_map stopped o) ≡ true
  stops_there None h = h
  stops_there (Some x) h = refl

  stays_there : (e : Event) → IsThere (happens s e) b
  stays_there (Start a program) = put_there s.actors a b (newborn program) there
  stays_there (Act a own wrote) = acts_there a own wrote (s.actors a)
  stays_there (Child parent own a program) = put_there (acted s parent own 0 (s.actors parent)).actors a b (newborn program) (acts_there parent own 0 (s.actors parent))
  stays_there (Generation crew) = crew_there members crew s.actors b there
  stays_there (Report slot output) = there
  stays_there (End a read ready status) = ends_there a (Over status) (s.actors a)
  stays_there (Stop a) = ends_there a Stopped (s.actors a)
  stays_there (Moment m) = there
  stays_there (Halt how contents) = stops_there (s.actors b) there

born_there : (d : Disk) (xs us : List Event) (parent : List ℕ) (own : Own) (name : List ℕ) (program : Program) → IsThere (after d (xs ++ Child parent own name program ∷ us)) name
born_there d [] us parent own name program = ap is_some (put_at_same (acted (after d us) parent own 0 ((after d us).actors parent)).actors name (Some (newborn program)))
born_there d (x ∷ xs) us parent own name program = stays_there (after d (xs ++ Child parent own name program ∷ us)) name (born_there d xs us parent own name program) x

module _ (d : Disk) (own other : Own) (name called : List ℕ) (same : name ≡ called) (program also : Program) (us vs : List Event) where
  abbrev first_start : Event
  first_start = Child (codes "lspawn") own name program

  abbrev second_start : Event
  second_start = Child (codes "lspawn") other called also

  -- who starts wasn't there
  not_twice : (h : List Event) → Allowed (after d h) first_start → IsThere (after d h) called → ⊥
  not_twice h may there =
      let both : true ≡ false = sym there ∙ ap (λ (n : List ℕ). is_some ((after d h).actors n)) (sym same) ∙ ap is_some may.new in
      absurd (cc)

  not_again : (h : List Event) → Allowed (after d h) second_start → IsThere (after d h) name → ⊥
  not_again h may there =
      let both : true ≡ false = sym there ∙ ap (λ (n : List ℕ). is_some ((after d h).actors n)) same ∙ ap is_some may.new in
      absurd (cc)

  born_once : (xs ys : List Event) → Legal d (xs ++ first_start ∷ us) → xs ++ first_start ∷ us ≡ ys ++ second_start ∷ vs → (own ≡ other) × (us ≡ vs)
  born_once [] [] legal e =
      let parts = cons_parts first_start second_start us vs e in
      let both : first_start ≡ second_start = parts.0 in
      (cc, parts.1)
  born_once [] (y ∷ ys) legal e =
      let parts = cons_parts first_start y us (ys ++ second_start ∷ vs) e in
      absurd (not_twice us legal.1 (subst (λ (h : List Event). IsThere (after d h) called) (sym parts.1) (born_there d ys vs (codes "lspawn") other called also)))
  born_once (x ∷ xs) [] legal e =
      let parts = cons_parts x second_start (xs ++ first_start ∷ us) vs e in
      absurd (not_again (xs ++ first_start ∷ us) (subst (Allowed (after d (xs ++ first_start ∷ us))) parts.0 legal.1) (born_there d xs us (codes "lspawn") own name program))
  born_once (x ∷ xs) (y ∷ ys) legal e =
      let parts = cons_parts x y (xs ++ first_start ∷ us) (ys ++ second_start ∷ vs) e in
      born_once xs ys legal.0 parts.1

-- The law

stays_in : (slot : ℕ) (xs ys : List Event) → AllStay slot (xs ++ ys) → AllStay slot ys
stays_in slot [] ys h = h
stays_in slot (x ∷ xs) ys h = stays_in slot xs ys h.0

same_task : (t u : Task) → ◌≡◌ {A = Option Task} (Some t) (Some u) → t ≡ u
same_task t u e = cc

-- where the start of a delivery stands in a history
module _ (d : Disk) (h later before : List Event) (whole : later ++ before ≡ h) (name : List ℕ) (slot : ℕ) (t : Task) (v : WasStartedFor d before name slot t) where
  abbrev given : Event
  given = giving v.asked.own v.asked.wrote

  abbrev its_start : Event
  its_start = Child (codes "lspawn") v.own name v.program

  placed : h ≡ (later ++ v.later) ++ its_start ∷ (v.before ++ given ∷ v.asked.earlier)
  placed =
      sym whole
      ∙ ap (λ (z : List Event). later ++ z)
      (v.asked.all ∙ ap (λ (z : List Event). z ++ given ∷ v.asked.earlier) v.among ∙ append_assoc v.later (its_start ∷ v.before) (given ∷ v.asked.earlier))
      ∙ sym (append_assoc later v.later (its_start ∷ (v.before ++ given ∷ v.asked.earlier)))

  stays_before : AllStay slot v.before
  stays_before = (stays_in slot v.later (its_start ∷ v.before) (subst (AllStay slot) v.among v.asked.stays)).0

  gives : given_by v.asked.own.due v.asked.own.came Local ≡ Gives slot
  gives = gives_at v.asked.own slot v.asked.rest v.asked.due v.asked.came_is

one_attempt : (d : Disk) (h later before newer earlier : List Event) → Legal d h → later ++ before ≡ h → newer ++ earlier ≡ h → (name called : List ℕ) → name ≡ called → (i j : ℕ) (t u : Task)
    → (v : WasStartedFor d before name i t) → (w : WasStartedFor d earlier called j u) → (i ≡ j) × (t ≡ u) × (v.asked.earlier ≡ w.asked.earlier)
one_attempt d h later before newer earlier legal one two name called same i j t u v w =
    let first = placed d h later before one name i t v in
    let second = placed d h newer earlier two called j u w in
    let born = born_once d v.own w.own name called same v.program w.program (v.before ++ giving v.asked.own v.asked.wrote ∷ v.asked.earlier) (w.before ++ giving w.asked.own w.asked.wrote ∷ w.asked.earlier)
    (later ++ v.later) (newer ++ w.later) (subst (Legal d) first legal) (sym first ∙ second) in
    let slot : i ≡ j = sym v.slot_is ∙ ap (λ (o : Own). slot_by o.due) born.0 ∙ w.slot_is in
    let ago : v.asked.earlier ≡ w.asked.earlier =
    last_given i j slot v.asked.own w.asked.own v.asked.wrote w.asked.wrote (gives d h later before one name i t v) (gives d h newer earlier two called j u w) v.asked.earlier w.asked.earlier
    v.before w.before born.1 (stays_before d h later before one name i t v) (stays_before d h newer earlier two called j u w) in
    let sender : v.asked.sender ≡ w.asked.sender =
    some_actor v.asked.sender w.asked.sender (sym v.asked.is ∙ ap (λ (z : List Event). (after d z).actors (codes "sender")) ago ∙ w.asked.is) in
    let task : t ≡ u = same_task t u (sym v.asked.next ∙ ap (λ (x : Actor). slice_get (account Local x.past).to_give 0) sender ∙ w.asked.next) in
    (slot, task, ago)

pub deliveries_are_apart : DeliveriesAreApart
deliveries_are_apart d h later before newer earlier legal one two i j t u v w same =
    one_attempt d h later before newer earlier legal one two v.it.name w.it.name same i j t u v.started w.started
