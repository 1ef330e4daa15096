-- A step of an actor that concerns a child of its, by what a world keeps: where the two stand, who is read there, and what the parent is
-- handed.
use Rattle.std.proofs.Common.{◌≡◌, ◌≢◌, Bool, ℕ, ◌+◌, ◌^◌, ◌<◌, List, [], ◌∷◌, ◌++◌, length, set, Option, Some, get_or, refl, sym, ap, ◌∙◌, subst, arith, reverse}
use Rattle.std.proofs.Math.Path.{fun_ext}
use Rattle.std.specs.Prelude.{IsSome}
use Rattle.std.specs.List.{slice_get}
use Rattle.std.proofs.lemmas.Option.{slice_get_read, slice_get_within, get_or_from_slice_get}
use Rattle.call_fs.specs.Disk.{Disk}
use Rattle.call_fs.specs.Program.{IsKind, IsWithin}
use Rattle.call_fs.specs.declared.past.ChildData.{ChildData}
use Rattle.call_fs.specs.declared.past.GotData.{GotData}
use Rattle.call_fs.specs.declared.past.NeedData.{NeedData}
use Rattle.call_fs.specs.declared.past.Own.{Own}
use Rattle.world_events.specs.declared.books.Books.{Books}
use Rattle.world_events.specs.declared.event.Event.{Event as Kept}
use Rattle.world_events.specs.declared.event.Event.TheVariants as kept
use Rattle.world_events.specs.declared.event.Program.{Program}
use Rattle.world_events.specs.declared.event.History.{History}
use Rattle.world_events.specs.declared.starts.Starts.{Starts}
use Rattle.world_events.specs.Children.{child_of}
use Rattle.world_events.specs.Starts.{IsSameOrder}
use Rattle.world_pipes.specs.declared.mouths.Mouths.{Mouths}
use Rattle.mail_world.specs.declared.actor.Actor.{Actor as Held}
use Rattle.world_events.specs.declared.asking.Setting.{Setting}
use Rattle.mail_world.specs.declared.any_machine.AnyMachine.{AnyMachine}
use Rattle.mail_world.specs.Books.{entries_of}
use Rattle.mail_world.specs.Children.{Begins, IsMachineOf, IsPaid, IsSetting, HasTakenIn, MayTakeIn, child_place}
use Rattle.mail_world.specs.Generations.{starts_of, idled_by}
use Rattle.mail_world.specs.History.{State}
use Rattle.mail_world.specs.Inside.{Owes, known, living}
use Rattle.mail_world.specs.Kept.{HasRoom}
use Rattle.mail_world.specs.Readiness.{found_in}
use Rattle.mail_world.specs.Whole.{IsWhole}
use Rattle.mail_world.specs.World.{Counts}
use Rattle.mail_world.proofs.Bearing.{machine_begins, paid_keeps}
use Rattle.mail_world.proofs.Lists.{set_same}
use Rattle.mail_world.proofs.Living.{living_still, living_within}
use Rattle.mail_world.proofs.Placing.{placed_at}
use Rattle.mail_world.proofs.Serving.{IsAsking, HasChild, HasServed, at_setting, get_beside, may_at, may_take, parent_is, parent_owes, same_at, taken_at, was_served}
use Rattle.world_events.proofs.Starting.{same_starts}
use Rattle.mail_world.proofs.Wires.{same_place}
use Rattle.world_pipes.specs.Mouths.{IsSame}
use Rattle.world_pipes.proofs.Feeds.{as_before}
use Rattle.mail_world.proofs.Piped.{look_piped}
use Rattle.mail_world.specs.Inside.{ArePiped}
use Rattle.mail_world.proofs.Feeding.{fed_event}

-- What a world keeps

module _ {told : Option Disk} {crew : ℕ} {places : List ℕ → Option ℕ} {actors : List Held} {history : History} {p n : ℕ} {b : Counts} {mouths : List Mouths} {books : Books} {starts : Starts}
    (w : IsWhole told crew places actors history p n b mouths books starts) where
  -- where its step says, the actor that is asked for something stands
  pub asks_at : {D : Type 0} {d : D} {a : List ℕ} {at : Setting} {due : NeedData} → IsSetting (record { disk = d; events = history.events.items; present = p }) a at
      → (it : IsAsking crew places actors history.events.items p a due) → at.place ≡ it.at
  asks_at {D} {d} {a} {at} {due} setting it =
      placed_at (record { disk = d; events = history.events.items; present = p }) a at starts crew places it.at setting w.started it.place

  -- with more room for all of it, it is as before
  pub still_all : {now : List Held} (later : History) {pipes : List Mouths} (more : Books) {order : Starts} → now ≡ actors → later.events.items ≡ history.events.items
      → ((k : ℕ) → HasRoom history k → HasRoom later k) → pipes ≡ mouths → entries_of more ≡ entries_of books → IsSameOrder starts order
      → IsWhole told crew places now later p n b pipes more order
  still_all {now} later {pipes} more {order} same events stays wires entries ordered = record {
    world = rw (same, events) w.world;
    room = rw (same) (stays (living actors) w.room);
    booked = rw (same, events, entries) w.booked;
    piped = rw (same, events, wires) w.piped;
    started = rw (events) (same_starts starts order crew places (starts_of (reverse history.events.items)) ordered w.started);
  }

  -- with more room in the history
  pub still_whole : {now : List Held} (later : History) → now ≡ actors → later.events.items ≡ history.events.items → ((k : ℕ) → HasRoom history k → HasRoom later k)
      → IsWhole told crew places now later p n b mouths books starts
  still_whole later same events stays = still_all later books same events stays refl refl (record { order = refl; newest = refl })

  -- places that are written otherwise
  pub same_places : {next : List ℕ → Option ℕ} → ((q : List ℕ) → next q ≡ places q) → IsWhole told crew next actors history p n b mouths books starts
  same_places {next} same = subst (λ (f : List ℕ → Option ℕ). IsWhole told crew f actors history p n b mouths books starts) (fun_ext (λ q. sym (same q))) w

  -- more room in one pipe
  pub roomy_whole : (i j : ℕ) {x : Held} {m v : Mouths} → slice_get actors i ≡ Some x → slice_get mouths j ≡ Some m → IsSame m v → IsWhole told crew places actors history p n b (set mouths j v) books starts
  roomy_whole i j {x} {m} {v} is there same = record {
    world = w.world;
    room = w.room;
    booked = w.booked;
    piped = subst (λ (l : List Held). ArePiped crew (set mouths j v) l (known history.events.items) history.events.items) (set_same actors i x is)
        (look_piped crew mouths (set mouths j v) actors (known history.events.items) history.events.items i x x w.piped is refl refl (record { wire = refl; slot = refl; entry = refl }) (as_before mouths j m v there same));
    started = w.started;
  }

  -- an actor was handed what it owed
  pub paid_whole : {a : List ℕ} {due : NeedData} {z : Held} → (it : IsAsking crew places actors history.events.items p a due) → IsPaid it.here.held z history.events.items
      → IsWhole told crew places (set actors it.at z) history p n b mouths books starts
  paid_whole {a} {due} {z} it paid =
      let k = paid_keeps told crew places actors mouths (entries_of books) history.events.items p n b a it.at it.parent z (record { world = w.world; booked = w.booked; piped = w.piped }) it.here paid in record {
        world = k.world;
        room = rw (living_still actors it.at it.here.held z it.here.is paid.ended) w.room;
        booked = k.booked;
        piped = k.piped;
        started = w.started;
      }

-- there is room for the stop of each that lives, after an event for which there was
pub room_after : (actors now : List Held) {m : ℕ} (before later : History) → length now ≡ length actors → m ≡ length actors → HasRoom before (m + 1) → ((k : ℕ) → HasRoom before (k + 1) → HasRoom later k)
    → HasRoom later (living now)
room_after actors now {m} before later same many room put = let bound = living_within now in put (living now) (omega (arith, bound, same, many, room))

pub room_pushed : (actors now : List Held) {m : ℕ} (before later : History) → length now ≡ length actors + 1 → m ≡ length actors → HasRoom before (m + 2) → ((k : ℕ) → HasRoom before (k + 1) → HasRoom later k)
    → HasRoom later (living now)
room_pushed actors now {m} before later more many room put = let bound = living_within now in put (living now) (omega (arith, bound, more, many, room))

-- The parent

module _ {crew : ℕ} {places : List ℕ → Option ℕ} {actors : List Held} {events : List Kept} {p : ℕ} {a : List ℕ} {due : NeedData} (it : IsAsking crew places actors events p a due) where
  -- it is among them
  pub parent_low : {place : ℕ} → place ≡ it.at → place < length actors
  parent_low {place} same = let low = slice_get_within actors it.at it.here.held it.here.is in omega (arith, same, low)

  -- who is read there is the parent
  pub parent_seen : {place : ℕ} {x : Held} → place ≡ it.at → x ≡ get_or actors place x → it.here.held ≡ x
  parent_seen {place} {x} same read = parent_is actors (known events) events p a it.at it.parent it.here x (subst (λ (j : ℕ). x ≡ get_or actors j x) same read)

  -- and is put back
  pub set_back : {place : ℕ} {x z : Held} → place ≡ it.at → it.here.held ≡ x → z ≡ x → set actors place z ≡ actors
  set_back {place} {x} {z} same seen back =
      ap (λ (j : ℕ). set actors j z) same ∙ ap (set actors it.at) (back ∙ sym seen) ∙ set_same actors it.at it.here.held it.here.is

  -- what it owes has happened
  pub parent_past : {x : Held} → it.here.held ≡ x → (at : ℕ) → x.owed ≡ Some at → (past : List Own) × Owes x events past at
  parent_past {x} seen = parent_owes actors (known events) events p a it.at it.parent it.here x seen

  module _ {x z : Held} (seen : it.here.held ≡ x) (paid : IsPaid x z events) where
    -- it may be handed what came of what is due to it
    pub may_hand : {D : Type 0} {d : D} {at : Setting} {same : NeedData} {came : GotData} {own : Own} → IsSetting (record { disk = d; events = events; present = p }) a at
        → own ≡ record { read = at.now; ready = at.ready; due = due; came = came } → due ≡ same → IsKind same came → ((most : ℕ) → IsWithin most came) → MayTakeIn z.machine at.now at.ready own
    may_hand {D} {d} {at} {same} {came} {own} setting own_is due_is kind within =
        let is : Own = record { read = p; ready = found_in (known events) a; due = same; came = came } in
        may_at z.machine at.now p at.ready (found_in (known events) a) own is setting.now setting.ready
        (at_setting at.now p at.ready (found_in (known events) a) due same came own own_is setting.now setting.ready due_is)
        (may_take actors (known events) events p a it.at it.parent it.here it.is x z seen paid.follows paid.awaits is refl refl (it.next ∙ due_is) kind within)

    -- and was
    pub was_handed : {y : Held} {own same : Own} {index : ℕ} {idle : Bool} → own ≡ same → index ≡ length events → HasTakenIn z y own index idle
        → HasServed it.here.held y same (length events) it.parent × (idle ≡ idled_by ((known events).actors a) same)
    was_handed {y} {own} {same} {index} {idle} own_is many taken =
        was_served actors (known events) events p a it.at it.parent it.here it.is x z seen paid.follows paid.awaits y same idle
        paid.name paid.descriptors paid.ended paid.status paid.stays (taken_at z y own same index (length events) idle own_is many taken)

-- its pipes are at the place that was read
pub has_wire : {x v : Held} {i : ℕ} → x ≡ v → x.wire ≡ Some i → IsSome v.wire
has_wire {x} {v} {i} same is = subst IsSome (sym is ∙ ap (λ (x : Held). x.wire) same) refl

pub wire_at : {x v : Held} {i j : ℕ} → x ≡ v → x.wire ≡ Some i → v.wire ≡ Some j → j ≡ i
wire_at {x} {v} {i} {j} same is read = same_at v.wire j i read (ap (λ (x : Held). x.wire) (sym same) ∙ is)

pub mouths_at : (mouths : List Mouths) {i j : ℕ} {m : Mouths} → m ≡ get_or mouths j m → j ≡ i → i < length mouths → slice_get mouths j ≡ Some m
mouths_at mouths {i} {j} {m} read same low = slice_get_read mouths (length mouths) j m refl (subst (λ (n : ℕ). n < length mouths) (sym same) low) read

-- and are read as they were put there
pub read_back : (mouths : List Mouths) (j : ℕ) {m v y : Mouths} → slice_get mouths j ≡ Some m → y ≡ get_or (set mouths j v) j y → v ≡ y
read_back mouths j {m} {v} {y} is read = sym (get_or_from_slice_get (set mouths j v) j v y (same_place mouths j m v is)) ∙ sym read

-- Its event

-- what came of what is due, in the setting of its step
pub own_by : {D : Type 0} {d : D} {events : List Kept} {p : ℕ} {a : List ℕ} {at : Setting} {due same : NeedData} {came : GotData} {own : Own} → IsSetting (record { disk = d; events = events; present = p }) a at
    → own ≡ record { read = at.now; ready = at.ready; due = due; came = came } → due ≡ same → own ≡ record { read = p; ready = found_in (known events) a; due = same; came = came }
own_by {D} {d} {events} {p} {a} {at} {due} {same} {came} {own} setting own_is due_is =
    at_setting at.now p at.ready (found_in (known events) a) due same came own own_is setting.now setting.ready due_is

-- the event that was put
pub put_act : {events before later : List Kept} {a actor : List ℕ} {own same : Own} → later ≡ before ++ kept.Act actor own ∷ [] → before ≡ events → actor ≡ a → own ≡ same
    → later ≡ events ++ kept.Act a same ∷ []
put_act {events} {before} {later} {a} {actor} {own} {same} put still actor_is own_is =
    put ∙ ap (λ (l : List Kept). l ++ kept.Act actor own ∷ []) still ∙ ap (λ (a : List ℕ). events ++ kept.Act a own ∷ []) actor_is ∙ ap (λ (own : Own). events ++ kept.Act a own ∷ []) own_is

pub put_feed : {events before later : List Kept} {a actor : List ℕ} {own same : Own} {name c km m ke e : List ℕ} → later ≡ before ++ kept.Feed actor own name km ke ∷ [] → before ≡ events → actor ≡ a → own ≡ same
    → name ≡ c → km ≡ m → ke ≡ e → later ≡ events ++ kept.Feed a same c m e ∷ []
put_feed {events} {before} {later} {a} {actor} {own} {same} {name} {c} {km} {m} {ke} {e} put still actor_is own_is name_is message envelope =
    put ∙ ap (λ (l : List Kept). l ++ kept.Feed actor own name km ke ∷ []) still ∙ fed_event events actor a own same name c km m ke e actor_is own_is name_is message envelope

pub put_child : {events before later : List Kept} {a name : List ℕ} {program : Program} {own same : Own} {event : Kept} → later ≡ before ++ event ∷ [] → before ≡ events → event ≡ kept.Child a own name program → own ≡ same
    → later ≡ events ++ kept.Child a same name program ∷ []
put_child {events} {before} {later} {a} {name} {program} {own} {same} {event} put still is own_is =
    put ∙ ap (λ (l : List Kept). l ++ event ∷ []) still ∙ ap (λ (k : Kept). events ++ k ∷ []) is ∙ ap (λ (own : Own). events ++ kept.Child a own name program ∷ []) own_is

-- The child

-- it is born as it is told, with a machine of its kind
pub born_at : {D : Type 0} {d : D} {events : List Kept} {p : ℕ} {a : List ℕ} {at : Setting} {asked same : ChildData} {name : List ℕ} {program : Program} (before : Counts) (m : AnyMachine)
    → IsSetting (record { disk = d; events = events; present = p }) a at → asked ≡ same → child_of before a asked at.pid at.now ≡ Some (name, program) → IsMachineOf asked at.pid at.now m
    → (child_of before a same at.pid p ≡ Some (name, program)) × Begins m program
born_at {D} {d} {events} {p} {a} {at} {asked} {same} {name} {program} before m setting is born made =
    let here : child_of before a same at.pid p ≡ Some (name, program) = subst (λ (now : ℕ). child_of before a same at.pid now ≡ Some (name, program)) setting.now
    (subst (λ (asked : ChildData). child_of before a asked at.pid at.now ≡ Some (name, program)) is born) in
    let machine : IsMachineOf same at.pid p m = subst (λ (now : ℕ). IsMachineOf same at.pid now m) setting.now (subst (λ (asked : ChildData). IsMachineOf asked at.pid at.now m) is made) in
    (here, machine_begins before a same at.pid p name program m here machine)

-- the place that is found for it
pub child_is : (crew : ℕ) (places : List ℕ → Option ℕ) {mouths now : List Mouths} {wire of : Option ℕ} {d e at : ℕ} → now ≡ mouths → of ≡ wire → e ≡ d → child_place mouths wire d crew places ≡ Some at
    → child_place now of e crew places ≡ Some at
child_is crew places {mouths} {now} {wire} {of} {d} {e} {at} pipes same slot found =
    ap (λ (l : List Mouths). child_place l of e crew places) pipes ∙ ap (λ (o : Option ℕ). child_place mouths o e crew places) same ∙ ap (λ (d : ℕ). child_place mouths wire d crew places) slot ∙ found

pub child_low : {at : ℕ} {o : Option ℕ} → o ≡ Some at → at < 2 ^ 64 → (j : ℕ) → o ≡ Some j → j < 2 ^ 64
child_low {at} {o} is low j found = subst (λ (k : ℕ). k < 2 ^ 64) (same_at o at j is found) low

module _ {crew : ℕ} {places : List ℕ → Option ℕ} {actors : List Held} {s : State} {events : List Kept} {p : ℕ} {c : List ℕ} (h : HasChild crew places actors s events p c) where
  -- who is read there is the child
  pub child_seen : {j : ℕ} {x : Held} → j ≡ crew + h.at → x ≡ get_or actors j x → h.held ≡ x
  child_seen {j} {x} same read = sym (get_or_from_slice_get actors (crew + h.at) h.held x h.is) ∙ sym (subst (λ (j : ℕ). x ≡ get_or actors j x) same read)

  -- also once its parent was written
  pub child_seen_beside : {i place j : ℕ} {x : Held} (y : Held) → crew + h.at ≢ i → place ≡ i → j ≡ crew + h.at → x ≡ get_or (set actors place y) j x → h.held ≡ x
  child_seen_beside {i} {place} {j} {x} y beside here same read =
      sym (get_or_from_slice_get (set actors i y) (crew + h.at) h.held x (get_beside actors i y (crew + h.at) h.held beside h.is))
      ∙ sym (subst (λ (j : ℕ). x ≡ get_or (set actors i y) j x) same (subst (λ (i : ℕ). x ≡ get_or (set actors i y) j x) here read))
