-- Each attempt that a sender has in flight was asked for: its request stands in the history.
use Rattle.std.proofs.Common.{◌≡◌, ◌≢◌, ◌⊎◌, inl, inr, ⊎_elim, ℕ, List, [], ◌∷◌, ◌++◌, Option, Some, None, option_map, refl, sym, ap, ◌∙◌, subst, codes, slice_get}
use Rattle.call_fs.proofs.Maps.{put_at_cases}
use Rattle.call_fs.specs.Disk.{Disk}
use Rattle.call_fs.specs.Maps.{put_at}
use Rattle.call_fs.specs.declared.past.GotData.TheVariants as got
use Rattle.call_fs.specs.declared.past.NeedData.TheVariants as needs
use Rattle.call_fs.specs.declared.past.Own.{Own}
use Rattle.call_fs.specs.declared.program.Port.TheVariants as port
use Rattle.send_core.specs.Past.{Task, account}
use Rattle.send_core.specs.Past.Happening.{Gives}
use Rattle.send_core.specs.Table.{port_of}
use Rattle.send_known.specs.declared.channel.Channel.TheVariants.{Local}
use Rattle.send_runs.specs.Reports.{IsLeft, WasGiven, given_by}
use Rattle.send_runs.proofs.Flights.{flights_were_given}
use Rattle.world_events.specs.declared.event.Program.{Program}
use Rattle.world_events.specs.declared.event.Program.TheVariants.{Sender}
use Rattle.mail_world.specs.History.{Actor, Event, IsSender, Legal, MayBear, MayDo, State, acted, after, bears, finished, happens, newborn, next_of, stopped}
use Rattle.mail_world.specs.History.Event.{Act, Child, End, Generation, Halt, Moment, Report, Start, Stop}
use Rattle.mail_world.specs.History.Life.{Over, Stopped}
use Rattle.mail_world.proofs.Members.{are_four, four_sender}
use Rattle.world_law.specs.Crew.{IsNamed}
use Rattle.world_law.specs.Started.{Stays, WasAsked}
use Rattle.world_law.proofs.Born.{gives_sender, others_stay}
use Rattle.world_law.proofs.Histories.{always}
use Rattle.world_law.proofs.PostViews.{put_seen}

-- The past of the sender

abbrev past_of : Option Actor → List Own
past_of None = []
past_of (Some x) = x.past

halted_past : (o : Option Actor) → past_of (option_map stopped o) ≡ past_of o
halted_past None = refl
halted_past (Some x) = refl

-- an event of an actor is its own or another one's
acts_past : (actors : List ℕ → Option Actor) (a : List ℕ) (x : Actor) (own : Own) → actors a ≡ Some x
    → let then_actors = put_at actors a (Some (record { program = x.program; past = own ∷ x.past; life = x.life })) in
    ((codes "sender" ≡ a) × (past_of (then_actors (codes "sender")) ≡ own ∷ past_of (actors (codes "sender"))))
    ⊎ ((codes "sender" ≢ a) × (past_of (then_actors (codes "sender")) ≡ past_of (actors (codes "sender"))))
acts_past actors a x own is =
    let y : Actor = record { program = x.program; past = own ∷ x.past; life = x.life } in
    ⊎_elim
    (λ (c : (codes "sender" ≡ a) × (put_at actors a (Some y) (codes "sender") ≡ Some y)).
    inl (c.0, ap past_of c.1 ∙ ap (λ (o : Option Actor). own ∷ past_of o) (sym is ∙ ap actors (sym c.0))))
    (λ (c : (codes "sender" ≢ a) × (put_at actors a (Some y) (codes "sender") ≡ actors (codes "sender"))). inr (c.0, ap past_of c.1))
    (put_at_cases actors a (Some y) (codes "sender"))

named_sender : (a : List ℕ) (program : Program) → IsSender program → IsNamed a program → a ≡ codes "sender"
named_sender a (Sender start) it named = named
named_sender a program it named = absurd it

-- What its newest event says of a giving

-- it is the giving
record IsGiving (past : List Own) (own : Own) (slot : ℕ) (t : Task) : Type 0 where
  rest : List ℕ
  due : own.due ≡ needs.Give port.Lspawn (slot ∷ rest)
  came_is : own.came ≡ got.Gave
  next : slice_get (account Local past).to_give 0 ≡ Some t

no_split : (later : List Own) (event : Own) (before : List Own) → [] ≡ later ++ event ∷ before → ⊥
no_split [] event before e = absurd (cc)
no_split (o ∷ later) event before e = absurd (cc)

cons_parts : (x y : Own) (xs ys : List Own) → x ∷ xs ≡ y ∷ ys → (x ≡ y) × (xs ≡ ys)
cons_parts x y xs ys e = (cc, cc)

module _ (slot : ℕ) (t : Task) where
  abbrev Given : List Own → Type 0
  Given past = WasGiven Local past slot t

  no_past : Given [] → ⊥
  no_past w = no_split w.later w.event w.before w.all

  module _ (own : Own) (past : List Own) where
    abbrev IsNewOrOld : Type 0
    IsNewOrOld = IsGiving past own slot t ⊎ (Given past × (given_by own.due own.came Local ≢ Gives slot))

    by_later : (later : List Own) (event : Own) (before : List Own) (rest : List ℕ) → own ∷ past ≡ later ++ event ∷ before → event.due ≡ needs.Give (port_of Local) (slot ∷ rest) → event.came ≡ got.Gave
        → slice_get (account Local before).to_give 0 ≡ Some t → IsLeft Local slot later (event ∷ before) → IsNewOrOld
    by_later [] event before rest all due came next left =
        let parts = cons_parts own event past before all in
        inl (record {
          rest = rest;
          due = ap (λ (o : Own). o.due) parts.0 ∙ due;
          came_is = ap (λ (o : Own). o.came) parts.0 ∙ came;
          next = ap (λ (z : List Own). slice_get (account Local z).to_give 0) parts.1 ∙ next;
        })
    by_later (o ∷ later) event before rest all due came next left =
        let parts = cons_parts own o past (later ++ event ∷ before) all in
        inr (
          record { later = later; event = event; before = before; rest = rest; all = parts.1; due = due; came_is = came; next = next; left = left.0 },
          subst (λ (z : Own). given_by z.due z.came Local ≢ Gives slot) (sym parts.0) left.2,
        )

    given_then : Given (own ∷ past) → IsNewOrOld
    given_then w = by_later w.later w.event w.before w.rest w.all w.due w.came_is w.next w.left

  module _ (d : Disk) where
    abbrev Asked : List Event → Type 0
    Asked h = WasAsked d h slot t

    -- the sender's past after a history
    abbrev past_in : State → List Own
    past_in s = past_of (s.actors (codes "sender"))

    later_on : (e : Event) (h : List Event) → Stays slot e → Asked h → Asked (e ∷ h)
    later_on e h stays w = record {
      own = w.own;
      wrote = w.wrote;
      since = e ∷ w.since;
      earlier = w.earlier;
      all = ap (λ (z : List Event). e ∷ z) w.all;
      sender = w.sender;
      is = w.is;
      start = w.start;
      program = w.program;
      rest = w.rest;
      due = w.due;
      came_is = w.came_is;
      next = w.next;
      stays = (w.stays, stays);
    }

    asked_now : (h : List Event) (a : List ℕ) (own : Own) (wrote : ℕ) (x : Actor) → codes "sender" ≡ a → (after d h).actors a ≡ Some x → next_of x.program x.past own.read own.ready ≡ own.due
        → IsGiving x.past own slot t → Asked (Act a own wrote ∷ h)
    asked_now h a own wrote x same is due g =
        let sends = gives_sender x.program x.past own (slot ∷ g.rest) due g.due in
        record {
          own = own;
          wrote = wrote;
          since = [];
          earlier = h;
          all = ap (λ (b : List ℕ). Act b own wrote ∷ h) (sym same);
          sender = x;
          is = ap (after d h).actors same ∙ is;
          start = sends.0;
          program = sends.1;
          rest = g.rest;
          due = g.due;
          came_is = g.came_is;
          next = g.next;
          stays = tt;
        }

    module _ (h : List Event) (legal : Legal d h) (before : Given (past_in (after d h)) → Asked h) where
      abbrev s : State
      s = after d h

      act_asked : (a : List ℕ) (own : Own) (wrote : ℕ) (may : MayDo s a own wrote) → Given (past_in (happens s (Act a own wrote))) → Asked (Act a own wrote ∷ h)
      act_asked a own wrote may w =
          let x = may.actor in
          let now : Given (past_in (acted s a own wrote (Some x))) = subst (λ (o : Option Actor). Given (past_in (acted s a own wrote o))) may.reads.is w in
          ⊎_elim
          (λ (c : (codes "sender" ≡ a) × (past_in (acted s a own wrote (Some x)) ≡ own ∷ past_in s)). ⊎_elim
          (λ (g : IsGiving (past_in s) own slot t).
          asked_now h a own wrote x c.0 may.reads.is may.due
          (subst (λ (z : List Own). IsGiving z own slot t) (ap (λ (n : List ℕ). past_of (s.actors n)) c.0 ∙ ap past_of may.reads.is) g))
          (λ (old : Given (past_in s) × (given_by own.due own.came Local ≢ Gives slot)). later_on (Act a own wrote) h old.1 (before old.0))
          (given_then own (past_in s) (subst Given c.1 now)))
          (λ (c : (codes "sender" ≢ a) × (past_in (acted s a own wrote (Some x)) ≡ past_in s)).
          later_on (Act a own wrote) h
          (others_stay x.program (λ sends. c.0 (sym (named_sender a x.program sends ((always d h legal).crew a x may.reads.is)))) x.past own wrote a slot may.due)
          (before (subst Given c.1 now)))
          (acts_past s.actors a x own may.reads.is)

      child_asked : (parent : List ℕ) (own : Own) (a : List ℕ) (program : Program) (may : MayBear s parent own a program) → Given (past_in (happens s (Child parent own a program)))
          → Asked (Child parent own a program ∷ h)
      child_asked parent own a program may w =
          let x = may.actor in
          let mid : State = acted s parent own 0 (Some x) in
          let now : Given (past_in (bears mid parent own a program)) = subst (λ (o : Option Actor). Given (past_in (bears (acted s parent own 0 o) parent own a program))) may.reads.is w in
          let on = later_on (Child parent own a program) h tt in
          ⊎_elim
          (λ (c : (codes "sender" ≡ a) × (put_at mid.actors a (Some (newborn program)) (codes "sender") ≡ Some (newborn program))). absurd (no_past (subst Given (ap past_of c.1) now)))
          (λ (c : (codes "sender" ≢ a) × (put_at mid.actors a (Some (newborn program)) (codes "sender") ≡ mid.actors (codes "sender"))). ⊎_elim
          (λ (e : (codes "sender" ≡ parent) × (past_in mid ≡ own ∷ past_in s)). ⊎_elim
          (λ (g : IsGiving (past_in s) own slot t).
          let both : needs.Start may.asked ≡ needs.Give port.Lspawn (slot ∷ g.rest) = sym may.starts ∙ g.due in absurd (cc))
          (λ (old : Given (past_in s) × (given_by own.due own.came Local ≢ Gives slot)). on (before old.0))
          (given_then own (past_in s) (subst Given (ap past_of c.1 ∙ e.1) now)))
          (λ (e : (codes "sender" ≢ parent) × (past_in mid ≡ past_in s)). on (before (subst Given (ap past_of c.1 ∙ e.1) now)))
          (acts_past s.actors parent x own may.reads.is))
          (put_at_cases mid.actors a (Some (newborn program)) (codes "sender"))

    asked_always : (h : List Event) → Legal d h → Given (past_in (after d h)) → Asked h
    asked_always [] legal w = absurd (no_past w)
    asked_always (Start a program ∷ h) legal w =
        later_on (Start a program) h tt
        (asked_always h legal.0 (subst Given (put_seen past_of (after d h).actors a (newborn program) (codes "sender") (sym (ap past_of legal.1.new))) w))
    asked_always (Act a own wrote ∷ h) legal w = act_asked h legal.0 (asked_always h legal.0) a own wrote legal.1 w
    asked_always (Child parent own a program ∷ h) legal w = child_asked h legal.0 (asked_always h legal.0) parent own a program legal.1 w
    asked_always (Generation (sender ∷ clean ∷ lspawn ∷ rspawn ∷ []) ∷ h) legal w =
        absurd (no_past (subst Given (ap past_of (four_sender (after d h).actors sender clean lspawn rspawn)) w))
    asked_always (Generation crew ∷ h) legal w = absurd (are_four crew legal.1.kinds)
    asked_always (Report n output ∷ h) legal w = later_on (Report n output) h tt (asked_always h legal.0 w)
    asked_always (End a read ready status ∷ h) legal w =
        let x = legal.1.actor in
        let is : (after d h).actors a ≡ Some x = legal.1.reads.is in
        let gone : Actor = record { program = x.program; past = x.past; life = Over status } in
        let now = subst (λ (o : Option Actor). Given (past_in (finished (after d h) a (Over status) o))) is w in
        later_on (End a read ready status) h tt (asked_always h legal.0 (subst Given (put_seen past_of (after d h).actors a gone (codes "sender") (sym (ap past_of is))) now))
    asked_always (Stop a ∷ h) legal w =
        let x = legal.1.actor in
        let is : (after d h).actors a ≡ Some x = legal.1.is in
        let gone : Actor = record { program = x.program; past = x.past; life = Stopped } in
        let now = subst (λ (o : Option Actor). Given (past_in (finished (after d h) a Stopped o))) is w in
        later_on (Stop a) h tt (asked_always h legal.0 (subst Given (put_seen past_of (after d h).actors a gone (codes "sender") (sym (ap past_of is))) now))
    asked_always (Moment m ∷ h) legal w = later_on (Moment m) h tt (asked_always h legal.0 w)
    asked_always (Halt how contents ∷ h) legal w =
        later_on (Halt how contents) h tt (asked_always h legal.0 (subst Given (halted_past ((after d h).actors (codes "sender"))) w))

    -- what is in flight by its past
    pub asked_in : (h : List Event) → Legal d h → (x : Actor) → (after d h).actors (codes "sender") ≡ Some x → (account Local x.past).in_flight slot ≡ Some t → WasAsked d h slot t
    asked_in h legal x is flies = asked_always h legal (subst Given (sym (ap past_of is)) (flights_were_given Local x.past slot t flies))
