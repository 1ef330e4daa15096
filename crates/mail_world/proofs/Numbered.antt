-- How many children were started, and the numbers of local deliveries, as one event comes.
use Rattle.std.proofs.Common.{◌≡◌, ◌≢◌, ◌⊎◌, inl, inr, ℕ, ◌+◌, List, [], ◌∷◌, ◌++◌, Bool, true, false, if◌then◌else◌, Option, Some, None, refl, sym, ap, ◌∙◌, subst, ⊎_elim, arith, bytes_eq}
use Rattle.std.specs.Prelude.{count_by}
use Rattle.std.specs.Option.{option_map}
use Rattle.std.proofs.lemmas.List.Sums.{sum_by-append}
use Rattle.call_fs.specs.Maps.{put_at}
use Rattle.call_fs.specs.declared.past.ChildData.{ChildData}
use Rattle.call_fs.specs.declared.past.GotData.{GotData}
use Rattle.call_fs.specs.declared.past.GotData.TheVariants as got
use Rattle.call_fs.specs.declared.past.NeedData.{NeedData}
use Rattle.call_fs.specs.declared.past.NeedData.TheVariants as needs
use Rattle.call_fs.specs.declared.past.Own.{Own}
use Rattle.call_fs.proofs.Maps.{put_at_same, put_at_other}
use Rattle.actor_names.specs.ChildNames.{delivery_name, forward_of}
use Rattle.local_deliver.specs.Deeds.{starts, starts_by}
use Rattle.world_events.specs.declared.event.Event.{Event as Kept}
use Rattle.world_events.specs.declared.event.Event.TheVariants as kept
use Rattle.world_events.specs.declared.event.Program.{Program}
use Rattle.world_events.specs.declared.event.Program.TheVariants.{Cleaner, Sender, LocalSpawner, RemoteSpawner}
use Rattle.mail_world.specs.World.{is_bounce_start, is_delivery_start, counted, counts_in}
use Rattle.mail_world.specs.History.{Actor, State, IsDelivery, newborn, stopped, happens}
use Rattle.mail_world.specs.History.Event.{Generation}
use Rattle.mail_world.specs.Inside.{IsNumbered}
use Rattle.mail_world.specs.Pipework.{is_member}
use Rattle.mail_world.proofs.Bounces.{forward_mail}
use Rattle.mail_world.proofs.Members.{whether, IsOneOfFour, member_cases, four_other, four_sender, four_clean, four_lspawn, four_rspawn}
use Rattle.mail_world.proofs.Tests.{text_cases}
use Rattle.world_events.specs.Programs.{crew_at}

-- Counts

-- a child that starts
abbrev pub is_child : Kept → Bool
is_child (kept.Child a own c program) = true
is_child event = false

no_bounce : (k : Kept) → is_child k ≡ false → is_bounce_start k ≡ false
no_bounce (kept.Child a own c program) none = absurd cc
no_bounce other none = refl

no_delivery : (k : Kept) → is_child k ≡ false → is_delivery_start k ≡ false
no_delivery (kept.Child a own c program) none = absurd cc
no_delivery other none = refl

-- how many there are, with one event more
pub count_push : (f : Kept → Bool) (events : List Kept) (k : Kept) → count_by f (events ++ k ∷ []) ≡ count_by f events + count_by f (k ∷ [])
count_push f events k = sum_by-append (λ (k : Kept). if f k then 1 else 0) events (k ∷ [])

still_by : (f : Kept → Bool) (events : List Kept) (k : Kept) → f k ≡ false → count_by f (events ++ k ∷ []) ≡ count_by f events
still_by f events k none =
    let one = count_push f events k in
    let no : count_by f (k ∷ []) ≡ 0 = ap (λ (t : Bool). 0 + (if t then 1 else 0)) none in omega (arith, one, no)

pub still_count : (events : List Kept) (k : Kept) → is_child k ≡ false → counts_in (events ++ k ∷ []) ≡ counts_in events
still_count events k none =
    ap (λ (n : ℕ). counted n (count_by is_delivery_start (events ++ k ∷ []))) (still_by is_bounce_start events k (no_bounce k none))
    ∙ ap (counted (count_by is_bounce_start events)) (still_by is_delivery_start events k (no_delivery k none))

-- Numbers

-- what was started before is among what was started then
more_none : (l : List ChildData) (c : ChildData) → l ++ c ∷ [] ≡ [] → l ≡ []
more_none [] c none = refl
more_none (x ∷ l) c none = absurd cc

starts_none : (old : List ChildData) (due : NeedData) (came : GotData) → starts_by old due came ≡ [] → old ≡ []
starts_none old (needs.Start asked) (got.Started pid) none = more_none old asked none
starts_none old due came none = none

pub before_none : (own : Own) (past : List Own) → starts (own ∷ past) ≡ [] → starts past ≡ []
before_none own past none = starts_none (starts past) own.due own.came none

abbrev pub AreNumbered : State → Type 0
AreNumbered s = (a : List ℕ) (x : Actor) → s.actors a ≡ Some x → IsDelivery x.program → IsNumbered s a x

-- no actor comes or goes
pub numbered_still : (s t : State) → t.actors ≡ s.actors → AreNumbered s → AreNumbered t
numbered_still s t same old a x there delivers =
    let was = old a x (ap (λ (f : List ℕ → Option Actor). f a) (sym same) ∙ there) delivers in
    record { number = was.number; named = was.named; unborn = λ none. ap (λ (f : List ℕ → Option Actor). f (forward_of a)) same ∙ was.unborn none }

-- an actor does something, or is over
module _ (s t : State) (a : List ℕ) (x y : Actor) (is : s.actors a ≡ Some x) (put : t.actors ≡ put_at s.actors a (Some y)) (program : y.program ≡ x.program) (before : starts y.past ≡ [] → starts x.past ≡ []) where
  unknown_still : (c : List ℕ) → s.actors c ≡ None → t.actors c ≡ None
  unknown_still c none =
      ap (λ (f : List ℕ → Option Actor). f c) put
      ∙ put_at_other s.actors a (Some y) c (λ e. let both : ◌≡◌ {A = Option Actor} None (Some x) = sym none ∙ ap s.actors e ∙ is in absurd (cc)) ∙ none

  pub numbered_put : AreNumbered s → AreNumbered t
  numbered_put old b z there delivers = ⊎_elim
      (λ (f : (b ≡ a) × (bytes_eq b a ≡ true)).
      let both : ◌≡◌ {A = Option Actor} (Some y) (Some z) =
      sym (ap (put_at s.actors a (Some y)) f.0 ∙ put_at_same s.actors a (Some y)) ∙ ap (λ (m : List ℕ → Option Actor). m b) (sym put) ∙ there in
      let same : y ≡ z = cc in
      let was = old a x is (subst IsDelivery program (subst (λ (z : Actor). IsDelivery z.program) (sym same) delivers)) in
      record {
        number = was.number;
        named = f.0 ∙ was.named;
        unborn = λ none. unknown_still (forward_of b) (ap (λ (c : List ℕ). s.actors (forward_of c)) f.0 ∙ was.unborn (before (subst (λ (z : Actor). starts z.past ≡ []) (sym same) none)));
      })
      (λ f.
      let was = old b z (sym (put_at_other s.actors a (Some y) b f.0) ∙ ap (λ (m : List ℕ → Option Actor). m b) (sym put) ∙ there) delivers in
      record { number = was.number; named = was.named; unborn = λ none. unknown_still (forward_of b) (was.unborn none) })
      (text_cases b a)

-- an actor starts that is no delivery, and no forward of one
pub numbered_start : (s t : State) (a : List ℕ) (program : Program) → t.actors ≡ put_at s.actors a (Some (newborn program)) → (IsDelivery program → ⊥) → ((n : ℕ) → forward_of (delivery_name n) ≢ a)
    → AreNumbered s → AreNumbered t
numbered_start s t a program put other far old b z there delivers = ⊎_elim
    (λ (f : (b ≡ a) × (bytes_eq b a ≡ true)).
    let both : ◌≡◌ {A = Option Actor} (Some (newborn program)) (Some z) =
    sym (ap (put_at s.actors a (Some (newborn program))) f.0 ∙ put_at_same s.actors a (Some (newborn program))) ∙ ap (λ (m : List ℕ → Option Actor). m b) (sym put) ∙ there in
    let same : newborn program ≡ z = cc in
    absurd (other (subst (λ (z : Actor). IsDelivery z.program) (sym same) delivers)))
    (λ f.
    let was = old b z (sym (put_at_other s.actors a (Some (newborn program)) b f.0) ∙ ap (λ (m : List ℕ → Option Actor). m b) (sym put) ∙ there) delivers in
    record {
      number = was.number;
      named = was.named;
      unborn = λ none.
          ap (λ (m : List ℕ → Option Actor). m (forward_of b)) put
          ∙ put_at_other s.actors a (Some (newborn program)) (forward_of b) (λ e. far was.number (ap forward_of (sym was.named) ∙ e)) ∙ was.unborn none;
    })
    (text_cases b a)

-- an actor that is none, before and then, becomes another
pub numbered_refilled : (s t : State) (a : List ℕ) → ((b : List ℕ) → b ≢ a → t.actors b ≡ s.actors b) → (x y : Actor) → s.actors a ≡ Some x → t.actors a ≡ Some y → (IsDelivery y.program → ⊥) → AreNumbered s → AreNumbered t
numbered_refilled s t a others x y is now none old b z there delivers = ⊎_elim
    (λ (f : (b ≡ a) × (bytes_eq b a ≡ true)).
    let both : ◌≡◌ {A = Option Actor} (Some y) (Some z) = sym now ∙ ap t.actors (sym f.0) ∙ there in
    let same : y ≡ z = cc in
    absurd (none (subst (λ (z : Actor). IsDelivery z.program) (sym same) delivers)))
    (λ (f : (b ≢ a) × (bytes_eq b a ≡ false)).
    let was = old b z (sym (others b f.0) ∙ there) delivers in
    record {
      number = was.number;
      named = was.named;
      unborn = λ begun.
          let unknown = was.unborn begun in
          others (forward_of b) (λ e. let both : ◌≡◌ {A = Option Actor} None (Some x) = sym unknown ∙ ap s.actors e ∙ is in absurd (cc)) ∙ unknown;
    })
    (text_cases b a)

-- the machine stops
stopped_from : (o : Option Actor) (x : Actor) → option_map stopped o ≡ Some x → (y : Actor) × (o ≡ Some y) × (stopped y ≡ x)
stopped_from None x is = absurd cc
stopped_from (Some y) x is = (y, refl, cc)

pub numbered_halt : (s t : State) → ((a : List ℕ) → t.actors a ≡ option_map stopped (s.actors a)) → AreNumbered s → AreNumbered t
numbered_halt s t halted old a x there delivers =
    let from = stopped_from (s.actors a) x (sym (halted a) ∙ there) in
    let was = old a from.0 from.1 (subst (λ (x : Actor). IsDelivery x.program) (sym from.2) delivers) in
    record {
      number = was.number;
      named = was.named;
      unborn = λ none. halted (forward_of a) ∙ ap (option_map stopped) (was.unborn (subst (λ (x : Actor). starts x.past ≡ []) (sym from.2) none));
    }

-- a generation starts
module _ (s : State) (p : ℕ) where
  abbrev t : State
  t = happens s (Generation (crew_at p))

  never : (program : Program) (x : Actor) → (IsDelivery program → ⊥) → ◌≡◌ {A = Option Actor} (Some (newborn program)) (Some x) → IsDelivery x.program → ⊥
  never program x other both delivers = let same : newborn program ≡ x = cc in other (subst (λ (x : Actor). IsDelivery x.program) (sym same) delivers)

  no_member : (a : List ℕ) (x : Actor) → is_member a ≡ true → t.actors a ≡ Some x → IsDelivery x.program → ⊥
  no_member a x member there delivers = by_four (member_cases a member) where
    by_four : IsOneOfFour a → ⊥
    by_four (inl e) = never (Sender p) x (λ d. d) (sym (ap t.actors e ∙ four_sender s.actors (Sender p) (Cleaner p) (LocalSpawner p) (RemoteSpawner p)) ∙ there) delivers
    by_four (inr (inl e)) = never (Cleaner p) x (λ d. d) (sym (ap t.actors e ∙ four_clean s.actors (Sender p) (Cleaner p) (LocalSpawner p) (RemoteSpawner p)) ∙ there) delivers
    by_four (inr (inr (inl e))) = never (LocalSpawner p) x (λ d. d) (sym (ap t.actors e ∙ four_lspawn s.actors (Sender p) (Cleaner p) (LocalSpawner p) (RemoteSpawner p)) ∙ there) delivers
    by_four (inr (inr (inr e))) = never (RemoteSpawner p) x (λ d. d) (sym (ap t.actors e ∙ four_rspawn s.actors (Sender p) (Cleaner p) (LocalSpawner p) (RemoteSpawner p)) ∙ there) delivers

  other_still : (a : List ℕ) → is_member a ≡ false → t.actors a ≡ s.actors a
  other_still a other = four_other s.actors (Sender p) (Cleaner p) (LocalSpawner p) (RemoteSpawner p) a other

  pub numbered_begun : AreNumbered s → AreNumbered t
  numbered_begun old a x there delivers = by_name (whether (is_member a)) where
    by_name : (is_member a ≡ true) ⊎ (is_member a ≡ false) → IsNumbered t a x
    by_name (inl member) = absurd (no_member a x member there delivers)
    by_name (inr other) =
        let was = old a x (sym (other_still a other) ∙ there) delivers in
        let named : is_member (forward_of a) ≡ false = ap (λ (a : List ℕ). is_member (forward_of a)) was.named ∙ forward_mail was.number in
        record { number = was.number; named = was.named; unborn = λ none. other_still (forward_of a) named ∙ was.unborn none }
