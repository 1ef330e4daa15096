-- A step of an actor that lives, by what a world keeps: it stands at its place, is paid, looks, and acts.
use Rattle.std.proofs.Common.{◌≡◌, ℕ, ◌-◌, ◌^◌, ◌+◌, ◌<◌, min, List, [], ◌∷◌, ◌++◌, length, set, Bool, true, false, Option, Some, None, IsSomeAnd, get_or, is_some, refl, sym, subst}
use Rattle.std.specs.Prelude.{IfSome, IsNone}
use Rattle.std.specs.List.{slice_get}
use Rattle.call_fs.specs.Disk.{Disk}
use Rattle.call_fs.specs.declared.past.NeedData.{NeedData}
use Rattle.call_fs.specs.declared.past.Own.{Own}
use Rattle.call_fs.specs.declared.program.Ready.{Ready}
use Rattle.mail_bytes.specs.Told.{OnTold}
use Rattle.world_events.specs.declared.books.Books.{Books}
use Rattle.world_events.specs.declared.books.Entry.{Entry}
use Rattle.world_events.specs.declared.event.Event.{Event as Kept}
use Rattle.world_events.specs.declared.event.History.{History}
use Rattle.world_events.specs.declared.event.Program.{Program}
use Rattle.world_events.specs.declared.starts.Starts.{Starts}
use Rattle.world_pipes.specs.declared.mouths.Mouths.{Mouths}
use Rattle.mail_world.specs.declared.actor.Actor.{Actor as Held}
use Rattle.mail_world.specs.Acting.{AreAsBefore, AreOpen, HasActed, HasIdled, HasLooked, HasWaited, IsSeated, MayAct, has_actor, is_due_of_child}
use Rattle.mail_world.specs.Books.{entries_of, noted}
use Rattle.mail_world.specs.ByKind.{CanFind, Follows, awaits_of}
use Rattle.mail_world.specs.Children.{HasLeftIf, IsDueOfChild, IsPaid, child_place}
use Rattle.mail_world.specs.Crew.{IsFoundAt}
use Rattle.mail_world.specs.Generations.{Waits, has_idled}
use Rattle.mail_world.specs.History.{next_of}
use Rattle.mail_world.specs.Inside.{among_all, known, living}
use Rattle.mail_world.specs.Kept.{HasRoom}
use Rattle.mail_world.specs.Readiness.{found_in}
use Rattle.mail_world.specs.Whole.{IsWhole}
use Rattle.mail_world.specs.World.{Counts, EndsAt, IsStep, next_pid, starts_in}
use Rattle.mail_world.proofs.Histories.{LeadsOn}
use Rattle.mail_world.proofs.Leaving.{child_at}
use Rattle.mail_world.proofs.Living.{living_still}
use Rattle.mail_world.proofs.Refusals.{no_end}
use Rattle.mail_world.proofs.Serving.{pipes_within}
use Rattle.mail_world.proofs.Steps.{AreKept, StandsReady, paid_stands, looked_stands, ready_found, next_by, asks_child, is_seated, paid_turned, looked_turned, turned_keeps, may_find, may_step, acted_leads, acted_keeps, acted_step, acted_waits, waited_waits, acted_idle}
use Rattle.mail_world.proofs.Worlds.{StandsAt, stands_at, in_range, may_end}

-- What a world keeps

module _ {told : Option Disk} {crew : ℕ} {places : List ℕ → Option ℕ} {actors : List Held} {history : History} {p n : ℕ} {b : Counts} {mouths : List Mouths} {books : Books} {starts : Starts}
    (w : IsWhole told crew places actors history p n b mouths books starts) where
  -- all but the room
  pub keeps : AreKept told crew places actors mouths (entries_of books) history.events.items p n b
  keeps = record { world = w.world; booked = w.booked; piped = w.piped }

  -- with more room, if as many live
  pub turned_whole : {now : List Held} {pipes : List Mouths} (later : History) → AreKept told crew places now pipes (entries_of books) history.events.items p n b → living now ≡ living actors
      → later.events.items ≡ history.events.items → ((k : ℕ) → HasRoom history k → HasRoom later k) → IsWhole told crew places now later p n b pipes books starts
  turned_whole {now} {pipes} later k alive same stays = record {
    world = rw (same) k.world;
    room = rw (alive) (stays (living actors) w.room);
    booked = rw (same) k.booked;
    piped = rw (same) k.piped;
    started = rw (same) w.started;
  }

  -- The actor that steps
  module _ (a : List ℕ) {place : ℕ} {seen : List Held} (same : seen ≡ actors) (ok : (among_all crew places a ≡ Some place) × IsSomeAnd (slice_get seen place) (λ x. x.ended ≡ None)) where
    lives : IsSomeAnd (slice_get actors place) (λ x. x.ended ≡ None)
    lives = subst (λ (l : List Held). IsSomeAnd (slice_get l place) (λ x. x.ended ≡ None)) same ok.1

    -- has no end yet
    pub no_end_yet : (at : ℕ) → ¬ EndsAt history.events.items a at
    no_end_yet = no_end (among_all crew places) actors (known history.events.items) history.events.items p a place w.world.kept ok.0 lives

    module _ {x : Held} (read : x ≡ get_or actors place x) where
      -- stands at its place
      pub acting_at : StandsAt (among_all crew places) actors (known history.events.items) history.events.items p place x × (x.name ≡ a)
      acting_at = stands_at told (among_all crew places) actors (known history.events.items) history.events.items p n b place a x w.world ok.0 lives read

      -- has its child among the actors, and its pipes among those that are kept
      pub child_within : (k : ℕ) → child_place mouths x.wire 0 crew places ≡ Some k → k < length actors
      child_within k found =
          let l = history.events.items in
          let at = acting_at.0 in
          let there = child_at crew places mouths actors (known l) l x.name x.wire w.piped (w.piped.places place x at.is at.lives) k found in
          in_range told (among_all crew places) actors (known l) l p n b there.name w.world k there.at

      pub has_pipes : (k : ℕ) → x.wire ≡ Some k → k < length mouths
      has_pipes k wire =
          let l = history.events.items in
          let at = acting_at.0 in
          (pipes_within crew places mouths actors (known l) l p place x w.world.kept w.piped at.is at.lives k wire).1

      -- lives on if it only turned
      pub lives_still : (y : Held) → y.ended ≡ x.ended → living (set actors place y) ≡ living actors
      lives_still y ended = living_still actors place x y acting_at.0.is ended

      -- was paid, and finds this ready
      pub paid_ready : {z : Held} {pipes : List Mouths} {t : Bool} {ready : Ready} → IsPaid x z history.events.items → pipes ≡ mouths → t ≡ awaits_of z.machine → IsFoundAt pipes z.wire t ready
          → StandsReady told crew places actors mouths (entries_of books) history.events.items p n b place a z ready
      paid_ready {z} {pipes} {t} {ready} paid pipes_are awaits found =
          let l = history.events.items in
          let at = acting_at in
          let turned = paid_turned (known l) l p x z at.0.member at.0.lives paid.follows paid.name paid.ended paid.status paid.awaits paid.paid paid.descriptors paid.stays in
          let here : IsFoundAt mouths z.wire (awaits_of z.machine) ready =
          subst (λ (l : List Mouths). IsFoundAt l z.wire (awaits_of z.machine) ready) pipes_are (subst (λ (t : Bool). IsFoundAt pipes z.wire t ready) awaits found) in
          paid_stands told crew places actors mouths (entries_of books) l p n b place a ready x z keeps at.0 at.1 turned here

-- It looks

module _ {told : Option Disk} {crew : ℕ} {places : List ℕ → Option ℕ} {items : List Held} {mouths : List Mouths} {entries : List Entry} {events : List Kept} {p n : ℕ} {b : Counts} {place : ℕ} {a : List ℕ} {v : Held} {ready : Ready}
    (q : StandsReady told crew places items mouths entries events p n b place a v ready) where
  pub looked_ready : {y : Held} → HasLooked v y → StandsReady told crew places items mouths entries events p n b place a y ready
  looked_ready {y} looked = looked_stands told crew places items mouths entries events p n b place a ready v y q looked

  -- what it finds
  pub ready_is : ready ≡ found_in (known events) a
  ready_is = ready_found told crew places items mouths entries events p n b place a ready v q

  pub ready_can : CanFind v.machine ready
  ready_can = may_find (known events) events p v ready q.at.member q.at.lives q.paid q.finds

  -- what the world keeps
  pub ready_keeps : AreKept told crew places (set items place v) mouths entries events p n b
  ready_keeps = subst (λ (l : List Held). AreKept told crew places l mouths entries events p n b) q.here q.world

  pub looked_keeps : {y : Held} {wired : List Mouths} → HasLooked v y → AreAsBefore mouths wired → AreKept told crew places (set items place y) wired entries events p n b
  looked_keeps {y} {wired} looked same = subst (λ (l : List Held). AreKept told crew places l wired entries events p n b) (q.same y)
      (turned_keeps told crew places q.actors mouths wired entries events p n b place v y q.world q.at (looked_turned (known events) events p v y q.at.member q.at.lives q.paid looked) same)

  -- what it may do
  pub ready_opens : OnTold told (λ d. AreOpen d v.descriptors.items)
  ready_opens = may_end told (among_all crew places) q.actors (known events) events p n b place v q.world.world q.at

  pub ready_seated : IsSeated v.wire mouths
  ready_seated = is_seated told crew places q.actors mouths entries events p n b place v q.world q.at.is q.at.lives

  module _ {z : Held} (r : StandsReady told crew places items mouths entries events p n b place a z ready) {pipes : List Mouths} (seen : pipes ≡ mouths) (looked : HasLooked z v) where
    own_pipes : (t : Bool) (due : NeedData) → is_due_of_child (has_actor pipes z.wire) due ≡ t → is_due_of_child (has_actor mouths v.wire) due ≡ t
    own_pipes t due is = subst (λ (o : Option ℕ). is_due_of_child (has_actor mouths o) due ≡ t) (sym looked.stays.wire) (subst (λ (l : List Mouths). is_due_of_child (has_actor l z.wire) due ≡ t) seen is)

    next_is : (P : NeedData → Type 0) → ((program : Program) (past : List Own) → Follows z.machine program past → P (next_of program past p ready)) → P (next_of q.at.member.actor.program q.at.member.actor.past p ready)
    next_is P next = next_by told crew places items mouths entries events p n b place a ready P z v r q looked.name next

    -- what of its child is due to it
    pub asks_for : {D : Type 0} {o : Option NeedData} (d : D) {due : NeedData} → o ≡ Some due → IfSome o (λ due. (program : Program) (past : List Own) → Follows z.machine program past → next_of program past p ready ≡ due)
        → IfSome o (λ due. is_due_of_child (has_actor pipes z.wire) due ≡ true) → IsDueOfChild (record { disk = d; events = events; present = p }) a due
    asks_for {D} {o} d {due} is next mine =
        let next_due = subst (λ (o : Option NeedData). IfSome o (λ due. (program : Program) (past : List Own) → Follows z.machine program past → next_of program past p ready ≡ due)) is next in
        let its = subst (λ (o : Option NeedData). IfSome o (λ due. is_due_of_child (has_actor pipes z.wire) due ≡ true)) is mine in
        subst (λ (a : List ℕ). IsDueOfChild (record { disk = d; events = events; present = p }) a due) q.name
        (asks_child d told crew places q.actors mouths entries events p n b place v ready due q.world q.at q.finds (own_pipes true due its) (next_is (λ x. x ≡ due) next_due))

    -- or nothing is
    pub asks_none : {o : Option NeedData} → ((due : NeedData) → o ≡ Some due → ⊥) → (IsNone o → (program : Program) (past : List Own) → Follows z.machine program past → is_due_of_child (has_actor pipes z.wire) (next_of program past p ready) ≡ false)
        → is_due_of_child (has_actor mouths v.wire) (next_of q.at.member.actor.program q.at.member.actor.past p ready) ≡ false
    asks_none {o} none mine =
        own_pipes false (next_of q.at.member.actor.program q.at.member.actor.past p ready) (next_is (λ due. is_due_of_child (has_actor pipes z.wire) due ≡ false) (mine (by_due o none)))
      where
        by_due : (o : Option NeedData) → ((due : NeedData) → o ≡ Some due → ⊥) → IsNone o
        by_due None none = refl
        by_due (Some due) none = absurd (none due refl)

-- It acts

-- nothing of a child is due to it
pub record StandsAlone (told : Option Disk) (crew : ℕ) (places : List ℕ → Option ℕ) (items : List Held) (mouths : List Mouths) (entries : List Entry) (events : List Kept) (p n : ℕ) (b : Counts) (place : ℕ) (a : List ℕ) (v : Held) (ready : Ready) : Type 0 where
  pub stands : StandsReady told crew places items mouths entries events p n b place a v ready
  pub own : is_due_of_child (has_actor mouths v.wire) (next_of stands.at.member.actor.program stands.at.member.actor.past p ready) ≡ false

-- what it did
pub record IsDone (ended : Option ℕ) (told new : Option Disk) (mouths piped : List Mouths) (pid : ℕ) (v y : Held) (events later : List Kept) (p : ℕ) (ready : Ready) : Type 0 where
  pub acted : HasActed ended told new mouths piped pid v y events later p ready

module _ {told : Option Disk} {crew : ℕ} {places : List ℕ → Option ℕ} {items : List Held} {mouths : List Mouths} {entries : List Entry} {events : List Kept} {p n : ℕ} {b : Counts} {place : ℕ} {a : List ℕ} {v : Held} {ready : Ready}
    (u : StandsAlone told crew places items mouths entries events p n b place a v ready) where
  pub alone_may : MayAct told v.machine v.wire mouths p ready
  alone_may = let q = u.stands in may_step told crew places q.actors mouths entries events p n b place v ready q.world q.at q.paid q.finds u.own

  -- it waits
  pub alone_waits : {piped : List Mouths} {y : Held} → HasWaited mouths piped v y p ready → Waits (known events) p a
  alone_waits {piped} {y} waited =
      let q = u.stands in
      subst (Waits (known events) p) q.name (waited_waits told told crew places q.actors mouths piped entries events events p n b place v y ready q.world q.at q.paid q.finds u.own waited)

  module _ {ended : Option ℕ} {new : Option Disk} {piped : List Mouths} {pid : ℕ} {y : Held} {later : List Kept} (done : IsDone ended told new mouths piped pid v y events later p ready) where
    pub alone_leads : LeadsOn told new events later p p
    alone_leads = let q = u.stands in acted_leads told new crew places q.actors mouths piped entries events later p n b place v y ready q.world q.at q.paid q.finds u.own ended pid done.acted

    pub alone_step : {D : Type 0} (d e : D) → pid ≡ next_pid events → IsStep a ended (record { disk = d; events = events; present = p }) (record { disk = e; events = later; present = p })
    alone_step d e is =
        let q = u.stands in
        acted_step told new crew places q.actors mouths piped entries events later p n b place v y ready q.world q.at q.paid q.finds u.own d e a ended q.name
        (subst (λ (pid : ℕ). HasActed ended told new mouths piped pid v y events later p ready) is done.acted)

    -- it didn't wait
    pub alone_acts : Waits (known events) p a → ⊥
    alone_acts waits =
        let q = u.stands in
        acted_waits told new crew places q.actors mouths piped entries events later p n b place v y ready q.world q.at q.paid q.finds u.own ended pid done.acted (subst (Waits (known events) p) (sym q.name) waits)

    pub alone_idle : (idle : Bool) → HasIdled idle v events later → (k : Kept) → later ≡ events ++ k ∷ [] → idle ≡ has_idled (known events) k
    alone_idle idle idled = let q = u.stands in acted_idle told new crew places q.actors mouths piped entries events later p n b place v y ready q.world q.at q.paid q.finds u.own ended pid idle done.acted idled

    -- what the world keeps
    pub alone_keeps : {now : List Entry} {next : ℕ} {newest : Kept} {child : Option ℕ} {stood : List Held} → newest ≡ get_or later (length later - 1) newest → next ≡ min (n + starts_in newest) (2 ^ 32 - 1) → (v.entry ≡ None → now ≡ entries)
        → ((m : ℕ) (e : Entry) → v.entry ≡ Some m → slice_get entries m ≡ Some e → now ≡ set entries m (noted newest e)) → child ≡ child_place mouths v.wire 0 crew places → HasLeftIf (is_some ended) child (set items place y) stood
        → AreKept new crew places stood piped now later p next b
    alone_keeps {now} {next} {newest} {child} {stood} last pid_is none own place_is left =
        let q = u.stands in
        acted_keeps told new crew places q.actors mouths piped entries events later p n b place v y ready q.world q.at q.paid q.finds u.own ended pid done.acted now next newest last pid_is none own child stood place_is
        (subst (λ (l : List Held). HasLeftIf (is_some ended) child l stood) (sym (q.same y)) left)
