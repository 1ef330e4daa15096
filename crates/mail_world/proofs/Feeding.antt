-- An actor gives its child its whole input.
use Rattle.std.proofs.Common.{◌≡◌, ◌≢◌, ⊎_elim, ℕ, ◌+◌, ◌≤◌, List, [], ◌∷◌, ◌++◌, length, set, Bool, true, false, if◌then◌else◌, Option, Some, None, is_some, refl, sym, ap, ◌∙◌, subst, arith, bytes_eq, reverse, ◌⊎◌, inl, inr, zero, suc, codes}
use Rattle.std.specs.Prelude.{nat_lt, not, ◌&&◌, ◌==◌}
use Rattle.std.proofs.Math.Bool.{or-true}
use Rattle.std.specs.List.{slice_get}
use Rattle.std.proofs.lemmas.List.{length-set}
use Rattle.call_fs.specs.Disk.{Disk}
use Rattle.call_fs.proofs.Maps.{put_at_same, put_at_other}
use Rattle.call_fs.specs.Past.{held}
use Rattle.call_fs.specs.declared.past.GotData.TheVariants as got
use Rattle.call_fs.specs.declared.past.NeedData.{NeedData}
use Rattle.call_fs.specs.declared.past.NeedData.TheVariants as needs
use Rattle.call_fs.specs.declared.past.Own.{Own}
use Rattle.call_fs.specs.declared.program.Port.{Port}
use Rattle.call_fs.specs.declared.program.Port.TheVariants as port
use Rattle.queue_inject.specs.declared.injection.Arguments.{Arguments as Given}
use Rattle.world_events.specs.Books.{fed_entry}
use Rattle.world_events.specs.Inputs.{with_texts}
use Rattle.world_events.specs.declared.books.Entry.{Entry}
use Rattle.world_events.specs.declared.event.Event.{Event as Kept}
use Rattle.world_events.specs.declared.event.Event.TheVariants as kept
use Rattle.world_events.specs.declared.event.Program.{Program}
use Rattle.world_events.specs.declared.event.Program.TheVariants.{Injector, Sender, LocalSpawner, Delivery}
use Rattle.world_pipes.specs.declared.mouths.Mouths.{Mouths}
use Rattle.mail_world.specs.declared.actor.Actor.{Actor as Held}
use Rattle.mail_world.specs.Anew.{idle}
use Rattle.mail_world.specs.Books.{AreBooked, books_of}
use Rattle.mail_world.specs.ByKind.{IsMail, Follows, awaits_of, IsAlone, BearsIn}
use Rattle.mail_world.specs.History.{Actor, Life, State, netstring, acted, latest, next_of, start_of, IsDelivery, IsLocalSpawner, program_of}
use Rattle.mail_world.specs.History.Life.{Alive}
use Rattle.mail_world.specs.Inside.{known, place_by, among_all, RunsAt, unowed, span_by, HasJustStarted, HasBorneLast, MayFeed, IsAwaited, IsMember, HasOpen, IsOpenTo, IsWorld, ArePiped, RunsBy}
use Rattle.mail_world.specs.Pipework.{Pipe, Pipework, Slot, Tenant, is_ready, is_port, closed, given, given as with_bytes, mouth, put_pipe, input_of, pipework_after, is_member}
use Rattle.mail_world.specs.Pipework.Tenant.{Runs}
use Rattle.mail_world.specs.Readiness.{is_awaiting, is_gone, found_in}
use Rattle.mail_world.specs.Wired.{seat, slot_in, AreWired, IsSlotOf}
use Rattle.mail_world.specs.Acting.{is_due_of_child, StaysAt}
use Rattle.mail_world.specs.Children.{IsDueOfChild, IsGive, IsFed, GivesTexts, GivesTwo, Serves, child_place}
use Rattle.mail_world.specs.Generations.{idled_by}
use Rattle.mail_world.specs.World.{Counts, IsKeptGiving, span_of, IsKeptTo}
use Rattle.world_events.specs.declared.answers.Did.{Did}
use Rattle.mail_world.proofs.Awaiting.{awaits_same}
use Rattle.mail_world.proofs.Booked.{look_booked, entry_of_child, fed_booked}
use Rattle.mail_world.proofs.Borne.{just_fed}
use Rattle.mail_world.proofs.Crew.{apart_by, life_same}
use Rattle.mail_world.proofs.Feeders.{IsFeeder, feeder_gives, no_mail_feeds, feeder_bears, bears_feeds}
use Rattle.world_pipes.proofs.Keeps.{over_alike}
use Rattle.mail_world.proofs.Histories.{LeadsOn, feed_told, led_still}
use Rattle.mail_world.proofs.Known.{IsRefilled, known_fed, just_idle}
use Rattle.mail_world.proofs.Fed.{borne_feeds, fed_mail}
use Rattle.mail_world.proofs.Members.{whether, IsOneOfFour, member_cases}
use Rattle.mail_world.proofs.Lists.{each_set, get_set}
use Rattle.std.proofs.lemmas.Bool.{ltb-true}
use Rattle.mail_world.proofs.Passes.{passing}
use Rattle.mail_world.proofs.Seats.{seat_none}
use Rattle.mail_world.proofs.ReturnSteps.{AreTexts}
use Rattle.mail_world.proofs.Serving.{IsAsking, HasParent, HasServed, HasChild, LeavesBeside, with_deed, served_member, crew_feeds, deed_open, idle_open, beside_open, all_open, acting_parent, parent_finds, parent_runs, get_beside, has_in, give_is, serves, seated_still, places_still, stands_still, whole_more, asking, has_child, child_beside, child_found, bears_no_mail, others_still}
use Rattle.mail_world.proofs.Spans.{span_stays}
use Rattle.mail_world.proofs.Wires.{wired_beside}
use Rattle.mail_world.proofs.Numbered.{still_count, before_none, numbered_put, numbered_refilled}
use Rattle.mail_world.proofs.Worlds.{on_told, pid_push, still_pid}
use Rattle.queue_law.proofs.Tests.{text_cases, same_text, other_text}

-- What is due

pub record IsFeeding (s : State) (events : List Kept) (a : List ℕ) (due : NeedData) : Type 0 where
  pub bytes : List ℕ
  pub due_is : due ≡ needs.Give (port.Program 0) bytes
  pub texts : AreTexts bytes
  pub child : List ℕ
  pub runs : s.pipework.programs a 0 ≡ Some (Runs child)
  pub awaiting : is_awaiting s child ≡ true
  pub just : HasJustStarted events a child

-- the local spawner has its name
pub spawner_is : (a : List ℕ) (program : Program) → RunsAt (seat a) program → IsLocalSpawner program → a ≡ codes "lspawn"
spawner_is a program runs spawns = by_name (whether (is_member a)) where
  none : (program : Program) → IsAlone program → IsLocalSpawner program → ⊥
  none (LocalSpawner start) alone spawns = alone
  none other alone spawns = spawns

  no_other : (at : ℕ) (program : Program) → (at ≡ 2 → ⊥) → RunsAt (Some at) program → IsLocalSpawner program → ⊥
  no_other zero (LocalSpawner start) far runs spawns = runs
  no_other (suc zero) (LocalSpawner start) far runs spawns = runs
  no_other (suc (suc zero)) (LocalSpawner start) far runs spawns = far refl
  no_other (suc (suc (suc zero))) (LocalSpawner start) far runs spawns = runs
  no_other (suc (suc (suc (suc at)))) (LocalSpawner start) far runs spawns = runs
  no_other at other far runs spawns = spawns

  by_four : IsOneOfFour a → a ≡ codes "lspawn"
  by_four (inl e) = absurd (no_other 0 program (λ f. cc) (subst (λ (a : List ℕ). RunsAt (seat a) program) e runs) spawns)
  by_four (inr (inl e)) = absurd (no_other 1 program (λ f. cc) (subst (λ (a : List ℕ). RunsAt (seat a) program) e runs) spawns)
  by_four (inr (inr (inl e))) = e
  by_four (inr (inr (inr e))) = absurd (no_other 3 program (λ f. cc) (subst (λ (a : List ℕ). RunsAt (seat a) program) e runs) spawns)

  by_name : (is_member a ≡ true) ⊎ (is_member a ≡ false) → a ≡ codes "lspawn"
  by_name (inl member) = by_four (member_cases a member)
  by_name (inr named) = absurd (none program (subst (λ (o : Option ℕ). RunsAt o program) (seat_none a named) runs) spawns)

-- the parent, which is not that one, has just started the child, and gives it two texts
pub feeding : (crew : ℕ) (places : List ℕ → Option ℕ) (mouths : List Mouths) (actors : List Held) (events : List Kept) (p : ℕ) (a : List ℕ) (due : NeedData) → (it : IsAsking crew places actors events p a due)
    → ArePiped crew mouths actors (known events) events → a ≢ codes "lspawn" → IsGive due → is_due_of_child (has_in (known events) a) due ≡ true → IsFeeder it.parent.program × IsFeeding (known events) events a due
feeding crew places mouths actors events p a due it piped other gives of_child =
    let s = known events in
    let w = give_is s a due gives of_child in
    let born = piped.born a w.0 w.3.child w.3.runs in
    let bears = born.bears it.parent it.is in
    let seated : RunsAt (seat a) it.parent.program =
    subst (λ (b : List ℕ). RunsAt (seat b) it.parent.program) it.here.name (subst (λ (x : Actor). RunsAt (seat it.here.held.name) x.program) it.here.same it.here.member.runs) in
    let feeds = bears_feeds it.parent.program w.0 born.child.program bears (λ spawns. other (spawner_is a it.parent.program seated spawns)) in
    let first = (feeder_bears it.parent.program w.0 born.child.program feeds bears).0 in
    let is : due ≡ needs.Give (port.Program 0) w.1 = w.2 ∙ ap (λ (d : ℕ). needs.Give (port.Program d) w.1) first in
    let run = parent_runs crew mouths actors events p a it.at it.parent it.here it.is it.alive in
    let g = feeder_gives it.parent.program it.parent.past p (found_in s a) 0 w.1 feeds run (it.next ∙ is) in
    let may = piped.fed a it.parent it.is it.alive g.borne in
    (feeds, record { bytes = w.1; due_is = is; texts = g.texts; child = may.child; runs = may.runs; awaiting = may.awaiting; just = may.just })

pub gives_two : (s : State) (events : List Kept) (a : List ℕ) (due : NeedData) → IsFeeding s events a due → GivesTwo due
gives_two s events a due f = record {
  message = f.texts.message;
  envelope = f.texts.envelope;
  are = subst (λ (due : NeedData). GivesTexts due f.texts.message f.texts.envelope) (sym f.due_is) f.texts.are;
}

-- an actor is asked to feed its child, which stands at its place
pub record CanFeed (crew : ℕ) (places : List ℕ → Option ℕ) (actors : List Held) (mouths : List Mouths) (events : List Kept) (p : ℕ) (a : List ℕ) (due : NeedData) : Type 0 where
  pub asks : IsAsking crew places actors events p a due
  pub feeder : IsFeeder asks.parent.program
  pub feeds : IsFeeding (known events) events a due
  pub child : HasChild crew places actors (known events) events p feeds.child
  pub mail : IsMail child.member.actor.program
  pub found : child_place mouths asks.here.held.wire 0 crew places ≡ Some (crew + child.at)
  pub apart : (a ≢ feeds.child) × (crew + child.at ≢ asks.at)

pub can_feed : {D : Type 0} (d : D) (told : Option Disk) (crew : ℕ) (places : List ℕ → Option ℕ) (actors : List Held) (mouths : List Mouths) (events : List Kept) (p n : ℕ) (b : Counts) (a : List ℕ) (due : NeedData)
    → IsWorld told (among_all crew places) actors (known events) events p n b → ArePiped crew mouths actors (known events) events → IsDueOfChild (record { disk = d; events = events; present = p }) a due → IsGive due → a ≢ codes "lspawn"
    → CanFeed crew places actors mouths events p a due
can_feed d told crew places actors mouths events p n b a due w piped asked gives other =
    let s = known events in
    let it = asking d told crew places actors events p n b a due w asked in
    let g = feeding crew places mouths actors events p a due it piped other gives asked.of_child in
    let f = g.1 in
    let h = has_child crew places mouths actors s events p a f.child w.kept piped f.runs in
    let of : piped.wires a ≡ it.here.held.wire = ap piped.wires (sym it.here.name) ∙ piped.places it.at it.here.held it.here.is it.here.lives in
    record {
      asks = it;
      feeder = g.0;
      feeds = f;
      child = h;
      mail = (fed_mail crew mouths actors s events piped a it.parent 0 f.child h.member.actor it.is g.0 f.runs (ap s.actors (sym h.name) ∙ h.member.is)).1;
      found = child_found crew places mouths actors s events p a f.child it.here.held.wire piped.wires 0 piped.wired of f.runs h;
      apart = child_beside crew places mouths actors s events p a f.child it.at it.parent w.kept piped it.here f.runs h;
    }

pub found_at : (crew : ℕ) (places : List ℕ → Option ℕ) (actors : List Held) (mouths : List Mouths) (events : List Kept) (p : ℕ) (a : List ℕ) (due : NeedData) (w : CanFeed crew places actors mouths events p a due) (o : Option ℕ) (i : ℕ)
    → o ≡ Some i → o ≡ child_place mouths w.asks.here.held.wire 0 crew places → i ≡ crew + w.child.at
found_at crew places actors mouths events p a due w o i is found =
    let both : ◌≡◌ {A = Option ℕ} (Some i) (Some (crew + w.child.at)) = sym is ∙ found ∙ w.found in cc

-- what was due, with the texts that were read of it
pub texts_due : (due : NeedData) (bytes message envelope : List ℕ) → due ≡ needs.Give (port.Program 0) bytes → GivesTexts due message envelope → due ≡ needs.Give (port.Program 0) (netstring message ++ netstring envelope)
texts_due due bytes message envelope is texts =
    let same : bytes ≡ netstring message ++ netstring envelope = subst (λ (due : NeedData). GivesTexts due message envelope) is texts in
    is ∙ ap (λ (bytes : List ℕ). needs.Give (port.Program 0) bytes) same

-- the child was given these texts, if it lives
pub record HasBeenFed (z w : Held) (message envelope : List ℕ) : Type 0 where
  pub stands : (program : Program) (past : List Own) → z.ended ≡ None → Follows z.machine program past → Follows w.machine (with_texts message envelope program) past
  pub awaits : z.ended ≡ None → awaits_of w.machine ≡ false
  pub name : w.name ≡ z.name
  pub descriptors : w.descriptors.items ≡ z.descriptors.items
  pub ended : w.ended ≡ z.ended
  pub status : w.status ≡ z.status
  pub owed : w.owed ≡ z.owed
  pub stays : StaysAt z w

pub been_fed : (crew : ℕ) (places : List ℕ → Option ℕ) (actors : List Held) (s : State) (events : List Kept) (p : ℕ) (c : List ℕ) (h : HasChild crew places actors s events p c) (w : Held) (message envelope : List ℕ)
    → IsMail h.member.actor.program → is_awaiting s c ≡ true → IsFed message envelope h.held w → HasBeenFed h.held w message envelope
been_fed crew places actors s events p c h w message envelope mail awaiting fed = record {
  stands = λ program past lives stood. fed.stands (h.member.awaits lives mail ∙ ap (is_awaiting s) h.name ∙ awaiting) program past stood;
  awaits = λ lives. fed.awaits;
  name = fed.name;
  descriptors = fed.descriptors;
  ended = fed.ended;
  status = fed.status;
  owed = fed.owed;
  stays = fed.stays;
}

abbrev pub feed_own : List Kept → ℕ → List ℕ → List ℕ → List ℕ → Own
feed_own events p a message envelope = record {
  read = p;
  ready = found_in (known events) a;
  due = needs.Give (port.Program 0) (netstring message ++ netstring envelope);
  came = got.Gave;
}

-- what it does to the pipes
abbrev fed_pipes : Pipework → List ℕ → List ℕ → Pipework
fed_pipes w c bytes = record { pipes = put_pipe w.pipes (Some (mouth c port.Input)) (λ pipe. closed (with_bytes bytes pipe)); programs = w.programs; slots = w.slots }

fed_is : (w v : Pipework) (a c bytes : List ℕ) → v ≡ w → w.programs a 0 ≡ Some (Runs c) → pipework_after v a (needs.Give (port.Program 0) bytes) got.Gave 0 ≡ fed_pipes w c bytes
fed_is w v a c bytes same runs =
    ap (λ (w : Pipework). pipework_after w a (needs.Give (port.Program 0) bytes) got.Gave 0) same
    ∙ ap (λ (o : Option Tenant). record { pipes = put_pipe w.pipes (input_of o) (λ pipe. closed (with_bytes bytes pipe)); programs = w.programs; slots = w.slots }) runs

input_beside : (w : Pipework) (c bytes b : List ℕ) (q : Port) → b ≢ c → (fed_pipes w c bytes).pipes b q ≡ w.pipes b q
input_beside w c bytes b q far = ap (λ (t : Bool). if t && is_port q port.Input then closed (given bytes (w.pipes b q)) else w.pipes b q) (other_text b c far)

closed_ready : (pipe : Pipe) → is_ready (closed pipe) ≡ true
closed_ready pipe = or-true (not (length pipe.bytes == 0))

and_not : (t : Bool) → (t && not true) ≡ false
and_not true = refl
and_not false = refl

fed_ready : (w : Pipework) (c bytes : List ℕ) → (is_some (w.slots c) && not (is_ready ((fed_pipes w c bytes).pipes c port.Input))) ≡ false
fed_ready w c bytes =
    ap (λ (t : Bool). is_some (w.slots c) && not (is_ready (if t && true then closed (given bytes (w.pipes c port.Input)) else w.pipes c port.Input))) (same_text c)
    ∙ ap (λ (t : Bool). is_some (w.slots c) && not t) (closed_ready (given bytes (w.pipes c port.Input))) ∙ and_not (is_some (w.slots c))

-- its program with these texts
mail_texts : (message envelope : List ℕ) (program : Program) → IsMail program → IsMail (with_texts message envelope program)
mail_texts message envelope (Injector args) mail = tt
mail_texts message envelope program mail = absurd mail

start_texts : (message envelope : List ℕ) (program : Program) → IsMail program → start_of (with_texts message envelope program) ≡ start_of program
start_texts message envelope (Injector args) mail = refl
start_texts message envelope program mail = absurd mail

same_idle : (program other : Program) (life lasts : Life) → ◌≡◌ {A = Option Actor} (Some (idle program life)) (Some (idle other lasts)) → program ≡ other
same_idle program other life lasts is = let one : idle program life ≡ idle other lasts = cc in ap (λ (a : Actor). a.program) one

unowed_none : (o : Option ℕ) → unowed o [] ≡ []
unowed_none None = refl
unowed_none (Some at) = refl

-- who stands after the members has its place among the mails
placed_after : (crew i : ℕ) (places : List ℕ → Option ℕ) (a : List ℕ) → among_all crew places a ≡ Some (crew + i) → places a ≡ Some i
placed_after crew i places a is = by_seat (seat a) (places a) is where
  by_low : (j : ℕ) (t : Bool) → nat_lt j crew ≡ t → (o : Option ℕ) → (if t then Some j else None) ≡ Some (crew + i) → o ≡ Some i
  by_low j true low o is = let lt = ltb-true j crew low in let same : j ≡ crew + i = cc in absurd (omega (arith, lt, same))
  by_low j false low o is = absurd (cc)

  by_seat : (at o : Option ℕ) → place_by crew at o ≡ Some (crew + i) → o ≡ Some i
  by_seat (Some j) o is = by_low j (nat_lt j crew) refl o is
  by_seat None None is = absurd (cc)
  by_seat None (Some j) is = let same : crew + j ≡ crew + i = cc in ap Some (omega (arith, same))

-- what the books took into account
pub fed_by : (entries now : List Entry) (m : ℕ) (read envelope : List ℕ) → read ≡ envelope
    → ((e : Entry) (args : Given) → slice_get entries m ≡ Some e → args.envelope ≡ read → now ≡ set entries m (fed_entry args e))
    → (e : Entry) (args : Given) → slice_get entries m ≡ Some e → args.envelope ≡ envelope → now ≡ set entries m (fed_entry args e)
fed_by entries now m read envelope is noted =
    subst (λ (text : List ℕ). (e : Entry) (args : Given) → slice_get entries m ≡ Some e → args.envelope ≡ text → now ≡ set entries m (fed_entry args e)) is noted

-- a program of the same kind: the same, or another injector's
record HasSameKind (u x : Actor) : Type 0 where
  life : x.life ≡ u.life
  kind : (x.program ≡ u.program) ⊎ (IsMail u.program × IsMail x.program)

-- an injector has no pipes
mail_wire : (o : Option ℕ) (program : Program) → RunsBy o program → IsMail program → o ≡ None
mail_wire None (Injector args) runs mail = refl
mail_wire (Some zero) (Injector args) runs mail = absurd runs
mail_wire (Some (suc zero)) (Injector args) runs mail = absurd runs
mail_wire (Some (suc (suc zero))) (Injector args) runs mail = absurd runs
mail_wire (Some (suc (suc (suc zero)))) (Injector args) runs mail = absurd runs
mail_wire (Some (suc (suc (suc (suc i))))) (Injector args) runs mail = absurd runs
mail_wire o other runs mail = absurd mail

kind_runs : (o : Option ℕ) (u x : Actor) → HasSameKind u x → RunsBy o u.program → RunsBy o x.program
kind_runs o u x same runs = by_kind same.kind where
  by_kind : (x.program ≡ u.program) ⊎ (IsMail u.program × IsMail x.program) → RunsBy o x.program
  by_kind (inl one) = subst (RunsBy o) (sym one) runs
  by_kind (inr mails) = subst (λ (o : Option ℕ). RunsBy o x.program) (sym (mail_wire o u.program runs mails.0)) mails.1

-- what bears one bears another
bears_other : (program : Program) (d : ℕ) (q r : Program) → BearsIn program d q → IsMail q → IsMail r → BearsIn program d r
bears_other (Sender start) d q r bears mail other = (bears.0, other)
bears_other (Delivery start args) d q r bears mail other = (bears.0, other)
bears_other (LocalSpawner start) d (Injector args) r bears mail other = absurd bears
bears_other (LocalSpawner start) d q r bears mail other = absurd mail
bears_other program d q r bears mail other = absurd bears

kind_borne : (program : Program) (d : ℕ) (u x : Actor) → HasSameKind u x → BearsIn program d u.program → BearsIn program d x.program
kind_borne program d u x same bears = by_kind same.kind where
  by_kind : (x.program ≡ u.program) ⊎ (IsMail u.program × IsMail x.program) → BearsIn program d x.program
  by_kind (inl one) = subst (BearsIn program d) (sym one) bears
  by_kind (inr mails) = bears_other program d u.program x.program bears mails.0 mails.1

kind_bears : (u x : Actor) (d : ℕ) (q : Program) → HasSameKind u x → BearsIn u.program d q → BearsIn x.program d q
kind_bears u x d q same bears = by_kind same.kind where
  by_kind : (x.program ≡ u.program) ⊎ (IsMail u.program × IsMail x.program) → BearsIn x.program d q
  by_kind (inl one) = subst (λ (program : Program). BearsIn program d q) (sym one) bears
  by_kind (inr mails) = absurd (bears_no_mail u.program d q bears mails.0)

-- what is given to an injector is kept as its input
kept_mail : (c a message envelope : List ℕ) (own : Own) (program : Program) → IsMail program
    → IsKeptTo (Some program) c a own (netstring message ++ netstring envelope) (kept.Feed a own c message envelope)
kept_mail c a message envelope own (Injector args) mail = (message, envelope, refl, refl)
kept_mail c a message envelope own other mail = absurd mail

-- an injector runs at no seat
mail_alone : (program : Program) → IsMail program → IsAlone program
mail_alone (Injector args) mail = tt
mail_alone other mail = absurd mail

-- no injector is a delivery
mail_none : (program : Program) → IsMail program → IsDelivery program → ⊥
mail_none (Injector args) mail delivers = delivers
mail_none other mail delivers = mail

-- the event that was put
pub fed_event : (events : List Kept) (a parent : List ℕ) (own same : Own) (c child m message e envelope : List ℕ) → a ≡ parent → own ≡ same → c ≡ child → m ≡ message → e ≡ envelope
    → events ++ kept.Feed a own c m e ∷ [] ≡ events ++ kept.Feed parent same child message envelope ∷ []
fed_event events a parent own same c child m message e envelope parent_is own_is child_is message_is envelope_is =
    let told : kept.Feed a own c m e ≡ kept.Feed parent same child message envelope = cc in ap (λ (k : Kept). events ++ k ∷ []) told

module _ (told : Option Disk) (crew : ℕ) (places : List ℕ → Option ℕ) (actors : List Held) (mouths : List Mouths) (events : List Kept) (p n : ℕ) (b : Counts) (a : List ℕ) (i : ℕ) (parent : Actor)
    (w : IsWorld told (among_all crew places) actors (known events) events p n b) (piped : ArePiped crew mouths actors (known events) events)
    (is : (known events).actors a ≡ Some parent) (alive : parent.life ≡ Alive) (here : HasParent actors (known events) events p a i parent)
    (c : List ℕ) (runs : (known events).pipework.programs a 0 ≡ Some (Runs c)) (h : HasChild crew places actors (known events) events p c)
    (awaiting : is_awaiting (known events) c ≡ true) (just : HasJustStarted events a c) (message envelope : List ℕ)
    (due : next_of parent.program parent.past p (found_in (known events) a) ≡ needs.Give (port.Program 0) (netstring message ++ netstring envelope)) (feeds : IsFeeder parent.program) where
  abbrev own : Own
  own = feed_own events p a message envelope

  abbrev k : Kept
  k = kept.Feed a own c message envelope

  abbrev later : List Kept
  later = events ++ k ∷ []

  abbrev bytes : List ℕ
  bytes = netstring message ++ netstring envelope

  beside_it : (a ≢ c) × (crew + h.at ≢ i)
  beside_it = child_beside crew places mouths actors (known events) events p a c i parent w.kept piped here runs h

  abbrev apart : a ≢ c
  apart = beside_it.0

  no_mail : IsMail parent.program → ⊥
  no_mail mail = no_mail_feeds parent.program feeds mail

  -- the child is an injector
  mail_held : IsMail h.member.actor.program
  mail_held = (fed_mail crew mouths actors (known events) events piped a parent 0 c h.member.actor is feeds runs (ap (known events).actors (sym h.name) ∙ h.member.is)).1

  mail_just : IsMail just.program
  mail_just =
      let one = just_idle events a c just h.named in
      let both : ◌≡◌ {A = Option Actor} (Some h.member.actor) (Some (idle just.program one.0)) = sym h.member.is ∙ ap (known events).actors h.name ∙ one.1 in
      let same : h.member.actor ≡ idle just.program one.0 = cc in
      subst (λ (a : Actor). IsMail a.program) same mail_held

  pub feed_leads : LeadsOn told told events later p p
  feed_leads = feed_told told events p a parent own 0 c message envelope piped.whole (acting_parent crew mouths actors events p a i parent here is alive)
      (parent_finds crew mouths actors events p a i parent here is alive) refl due refl refl runs apart just mail_just

  pub feed_serves : {D : Type 0} (tells : D → Option Disk) (d : D) → tells d ≡ told → (did : Did) → did.at ≡ length events → did.ended ≡ None → did.idle ≡ idled_by ((known events).actors a) own
      → Serves tells a (record { disk = d; events = events; present = p }) (record { disk = d; events = later; present = p }) did
  feed_serves tells d same did at over idle = serves tells d events p a own k did
      (record { actor = parent; is = is; read = refl; ready = refl; due = due; came = refl })
      (subst (λ (o : Option Tenant). IsKeptGiving (known events) o a own bytes k) (sym runs)
      (subst (λ (o : Option Actor). IsKeptTo (program_of o) c a own bytes k) (sym (ap (known events).actors (sym h.name) ∙ h.member.is)) (kept_mail c a message envelope own h.member.actor.program mail_held)))
      (subst (λ (o : Option Disk). LeadsOn o o events later p p) (sym same) feed_leads) at over idle refl

  -- what is known before the giving, but for the input of the child
  filled : (r : State) × IsRefilled c message envelope (known events) r × (known later ≡ acted r a own 0 (r.actors a))
  filled = known_fed events a c message envelope own just h.named

  module _ (r : State) (fed : IsRefilled c message envelope (known events) r) where
    abbrev t : State
    t = acted r a own 0 (Some parent)

    still : r.actors a ≡ Some parent
    still = fed.others a apart ∙ is

    acts : t.actors a ≡ Some (with_deed parent own)
    acts = put_at_same r.actors a _

    beside : (b : List ℕ) → b ≢ a → b ≢ c → t.actors b ≡ (known events).actors b
    beside b far other = put_at_other r.actors a _ b far ∙ fed.others b other

    child_is : t.actors c ≡ Some (idle (with_texts message envelope fed.program) fed.life)
    child_is = put_at_other r.actors a _ c (λ e. apart (sym e)) ∙ fed.is

    work : t.pipework ≡ fed_pipes (known events).pipework c bytes
    work = fed_is (known events).pipework r.pipework a c bytes fed.pipework runs

    same_awaits : (b : List ℕ) → b ≢ c → is_awaiting t b ≡ is_awaiting (known events) b
    same_awaits b far = awaits_same (known events) t b (ap (λ (w : Pipework). w.slots b) work) (ap (λ (w : Pipework). w.pipes b port.Input) work ∙ input_beside (known events).pipework c bytes b port.Input far)

    child_awaits : is_awaiting t c ≡ false
    child_awaits = ap (λ (w : Pipework). is_some (w.slots c) && not (is_ready (w.pipes c port.Input))) work ∙ fed_ready (known events).pipework c bytes

    was : h.member.actor ≡ idle fed.program fed.life
    was =
        let both : ◌≡◌ {A = Option Actor} (Some h.member.actor) (Some (idle fed.program fed.life)) = sym h.member.is ∙ ap (known events).actors h.name ∙ fed.was in cc

    mail : IsMail fed.program
    mail = subst (λ (a : Actor). IsMail a.program) was mail_held

    -- it has an entry
    entry_is : (entries : List Entry) → AreBooked crew entries actors events → (m : ℕ) × (h.held.entry ≡ Some m)
    entry_is entries booked =
        (length (books_of just.before), entry_of_child (among_all crew places) crew actors events (crew + h.at) h.held entries a c message envelope just w.kept.placed booked h.is h.name mail_just)

    leaves : LeavesBeside a c (known events) t k
    leaves = record { actors = beside; holder = fed.holder; no_start = λ b other. refl; no_end = λ b. refl }

    module _ (y z : Held) (served : HasServed here.held y own (length events) parent) (given : HasBeenFed h.held z message envelope) where
      abbrev now_actors : List Held
      now_actors = set (set actors i y) (crew + h.at) z

      parent_member : IsMember t later p y
      parent_member = served_member actors (known events) t events k p a i parent here y own served refl refl refl acts refl due tt no_mail

      child_member : IsMember t later p z
      child_member =
          let m = h.member in
          let x = h.held in
          let name = given.name ∙ h.name in
          record {
            actor = idle (with_texts message envelope fed.program) fed.life;
            is = ap t.actors name ∙ child_is;
            follows = λ e.
                let before : Follows x.machine fed.program (unowed x.owed []) = subst (λ (a : Actor). Follows x.machine a.program (unowed x.owed a.past)) was (m.follows (sym given.ended ∙ e)) in
                let stood : Follows x.machine fed.program [] = subst (Follows x.machine fed.program) (unowed_none x.owed) before in
                subst (Follows z.machine (with_texts message envelope fed.program)) (sym (unowed_none z.owed)) (given.stands fed.program [] (sym given.ended ∙ e) stood);
            owes = λ e at is.
                let o = m.owes (sym given.ended ∙ e) at (sym given.owed ∙ is) in
                let none : ◌≡◌ {A = List Own} [] (o.own ∷ o.before) = sym (ap (λ (a : Actor). a.past) was) ∙ o.newest in absurd (cc);
            runs = subst (λ (o : Option ℕ). RunsAt o (with_texts message envelope fed.program)) (sym (ap seat name ∙ seat_none c h.named)) (mail_alone (with_texts message envelope fed.program) (mail_texts message envelope fed.program mail));
            run = tt;
            in_order = subst (λ (n : ℕ). n ≤ p) (sym (start_texts message envelope fed.program mail)) (subst (λ (a : Actor). latest a.program a.past ≤ p) was m.in_order);
            life = sym (ap (λ (a : Actor). a.life) was) ∙ m.life ∙ life_same x.ended z.ended x.status z.status given.ended given.status;
            unended = λ e. given.status ∙ m.unended (sym given.ended ∙ e);
            awaits = λ e mail. given.awaits (sym given.ended ∙ e) ∙ sym (ap (is_awaiting t) name ∙ child_awaits);
            spans = ap (λ (a : List ℕ). span_of a (reverse later)) given.name ∙ span_stays events k x.name refl refl ∙ m.spans ∙ ap span_by (sym given.ended);
            closed = λ at e. given.descriptors ∙ m.closed at (sym given.ended ∙ e);
          }

      opens : (d : Disk) → IsOpenTo d actors (known events) → IsOpenTo d now_actors t
      opens d o =
          let s = known events in
          let x = here.held in
          let far : (j : ℕ) (v : Held) → j ≢ i → slice_get actors j ≡ Some v → v.name ≢ a =
          λ j v other at e. apart_by (among_all crew places) x.name v.name i j (w.kept.placed i x here.is) (w.kept.placed j v at) other (e ∙ sym here.name) in
          let far_child : (j : ℕ) (v : Held) → j ≢ crew + h.at → slice_get actors j ≡ Some v → v.name ≢ c =
          λ j v other at e. apart_by (among_all crew places) h.held.name v.name (crew + h.at) j (w.kept.placed (crew + h.at) h.held h.is) (w.kept.placed j v at) other (e ∙ sym h.name) in
          all_open d actors now_actors s t fed.holder o (each_set (λ (j : ℕ) (v : Held). HasOpen d t v) (set actors i y) (crew + h.at) z
          (idle_open d s t h.held z (with_texts message envelope fed.program) fed.life fed.holder given.name given.descriptors (ap t.actors h.name ∙ child_is) (o.each (crew + h.at) h.held h.is))
          (λ j v other at. ⊎_elim
          (λ (f : (j ≡ i) × (y ≡ v)). subst (λ (v : Held). HasOpen d t v) f.1
          (deed_open d s t x y own parent fed.holder served.name served.descriptors (ap s.actors here.name ∙ is) alive (ap t.actors here.name ∙ acts)
          ((passing (needs.Give (port.Program 0) bytes) got.Gave tt).held (held parent.past)) (o.each i x here.is)))
          (λ f. beside_open d s t v fed.holder (beside v.name (far j v f.0 f.1) (far_child j v other f.1)) (o.each j v f.1))
          (get_set actors i y j v at)))

      keeps : (known later ≡ t) → IsWorld told (among_all crew places) now_actors (known later) later p n b
      keeps now =
          let s = known events in
          subst (λ (s : State). IsWorld told (among_all crew places) now_actors s later p n b) (sym now) (record {
            moment = w.moment;
            now = fed.now ∙ w.now;
            pid = w.pid ∙ sym (pid_push events k ∙ still_pid events k refl);
            count = w.count ∙ sym (still_count events k refl);
            unborn = w.unborn;
            undelivered = w.undelivered;
            numbered = numbered_put r t a parent (with_deed parent own) still refl refl (before_none own parent.past)
                (numbered_refilled s r c (λ b other. fed.others b other) (idle fed.program fed.life) (idle (with_texts message envelope fed.program) fed.life) fed.was fed.is (mail_none (with_texts message envelope fed.program) (mail_texts message envelope fed.program mail)) w.numbered);
            kept = crew_feeds s t events k p a c leaves (among_all crew places) actors i (crew + h.at) here.held y h.held z w.kept here.is here.name h.is h.name served.name given.name apart
                (λ b. refl) (λ v far other lives awaits. awaits ∙ sym (same_awaits v.name other)) parent_member child_member;
            opens = on_told told (λ d. IsOpenTo d actors s) (λ d. IsOpenTo d now_actors t) opens w.opens;
            led = led_still told events later p p feed_leads w.led;
          })

      -- who is gone was
      gone_same : (b : List ℕ) → is_gone (t.actors b) ≡ is_gone ((known events).actors b)
      gone_same b = ⊎_elim
          (λ (f : (b ≡ a) × (bytes_eq b a ≡ true)). ap (λ (b : List ℕ). is_gone (t.actors b)) f.0 ∙ ap is_gone acts ∙ sym (ap is_gone is) ∙ ap (λ (b : List ℕ). is_gone ((known events).actors b)) (sym f.0))
          (λ f. ⊎_elim
          (λ (g : (b ≡ c) × (bytes_eq b c ≡ true)). ap (λ (b : List ℕ). is_gone (t.actors b)) g.0 ∙ ap is_gone child_is ∙ sym (ap is_gone fed.was) ∙ ap (λ (b : List ℕ). is_gone ((known events).actors b)) (sym g.0))
          (λ g. ap is_gone (beside b f.0 g.0))
          (text_cases b c))
          (text_cases b a)

      -- each runs a program of the same kind
      kind_before : (b : List ℕ) (x : Actor) → t.actors b ≡ Some x → (u : Actor) × ((known events).actors b ≡ Some u) × HasSameKind u x
      kind_before b x at = ⊎_elim
          (λ (f : (b ≡ a) × (bytes_eq b a ≡ true)).
          let both : ◌≡◌ {A = Option Actor} (Some (with_deed parent own)) (Some x) = sym acts ∙ ap t.actors (sym f.0) ∙ at in
          let same : with_deed parent own ≡ x = cc in
          (parent, ap (known events).actors f.0 ∙ is, subst (HasSameKind parent) same (record { life = refl; kind = inl refl })))
          (λ (f : (b ≢ a) × (bytes_eq b a ≡ false)). ⊎_elim
          (λ (g : (b ≡ c) × (bytes_eq b c ≡ true)).
          let both : ◌≡◌ {A = Option Actor} (Some (idle (with_texts message envelope fed.program) fed.life)) (Some x) = sym child_is ∙ ap t.actors (sym g.0) ∙ at in
          let same : idle (with_texts message envelope fed.program) fed.life ≡ x = cc in (
            idle fed.program fed.life,
            ap (known events).actors g.0 ∙ fed.was,
            subst (HasSameKind (idle fed.program fed.life)) same (record { life = refl; kind = inr (mail, mail_texts message envelope fed.program mail) }),
          ))
          (λ (g : (b ≢ c) × (bytes_eq b c ≡ false)). (x, sym (beside b f.0 g.0) ∙ at, record { life = refl; kind = inl refl }))
          (text_cases b c))
          (text_cases b a)

      kind_then : (b : List ℕ) (u : Actor) → (known events).actors b ≡ Some u → (x : Actor) × (t.actors b ≡ Some x) × HasSameKind u x
      kind_then b u at = ⊎_elim
          (λ (f : (b ≡ a) × (bytes_eq b a ≡ true)).
          let both : ◌≡◌ {A = Option Actor} (Some parent) (Some u) = sym is ∙ ap (known events).actors (sym f.0) ∙ at in
          let same : parent ≡ u = cc in
          (with_deed parent own, ap t.actors f.0 ∙ acts, subst (λ (u : Actor). HasSameKind u (with_deed parent own)) same (record { life = refl; kind = inl refl })))
          (λ (f : (b ≢ a) × (bytes_eq b a ≡ false)). ⊎_elim
          (λ (g : (b ≡ c) × (bytes_eq b c ≡ true)).
          let both : ◌≡◌ {A = Option Actor} (Some (idle fed.program fed.life)) (Some u) = sym fed.was ∙ ap (known events).actors (sym g.0) ∙ at in
          let same : idle fed.program fed.life ≡ u = cc in
          let x = idle (with_texts message envelope fed.program) fed.life in
          (x, ap t.actors g.0 ∙ child_is, subst (λ (u : Actor). HasSameKind u x) same (record { life = refl; kind = inr (mail, mail_texts message envelope fed.program mail) })))
          (λ (g : (b ≢ c) × (bytes_eq b c ≡ false)). (u, beside b f.0 g.0 ∙ at, record { life = refl; kind = inl refl }))
          (text_cases b c))
          (text_cases b a)

      runs_then : (b : List ℕ) (d : ℕ) → t.pipework.programs b d ≡ (known events).pipework.programs b d
      runs_then b d = ap (λ (w : Pipework). w.programs b d) work

      fed_still : (b : List ℕ) (x : Actor) → t.actors b ≡ Some x → x.life ≡ Alive → HasBorneLast x.past → MayFeed t later b
      fed_still b x at lives borne = ⊎_elim
          (λ (f : (b ≡ a) × (bytes_eq b a ≡ true)).
          let both : ◌≡◌ {A = Option Actor} (Some (with_deed parent own)) (Some x) = sym acts ∙ ap t.actors (sym f.0) ∙ at in
          let same : with_deed parent own ≡ x = cc in
          absurd (subst (λ (x : Actor). HasBorneLast x.past) (sym same) borne))
          (λ (f : (b ≢ a) × (bytes_eq b a ≡ false)). ⊎_elim
          (λ (g : (b ≡ c) × (bytes_eq b c ≡ true)).
          let both : ◌≡◌ {A = Option Actor} (Some (idle (with_texts message envelope fed.program) fed.life)) (Some x) = sym child_is ∙ ap t.actors (sym g.0) ∙ at in
          let same : idle (with_texts message envelope fed.program) fed.life ≡ x = cc in
          absurd (subst (λ (x : Actor). HasBorneLast x.past) (sym same) borne))
          (λ (g : (b ≢ c) × (bytes_eq b c ≡ false)).
          let may = piped.fed b x (sym (beside b f.0 g.0) ∙ at) lives borne in
          let other : may.child ≢ c = λ same. one_parent b f.0 (may.runs ∙ ap (λ (c : List ℕ). Some (Runs c)) same) in
          record {
            child = may.child;
            runs = runs_then b 0 ∙ may.runs;
            awaiting = same_awaits may.child other ∙ may.awaiting;
            just = just_fed events a own c message envelope b may.child (λ same. other (sym same)) (λ same. f.0 (sym same))
                (λ same. no_mail (fed_mail crew mouths actors (known events) events piped b x 0 may.child parent (sym (beside b f.0 g.0) ∙ at)
                (borne_feeds (among_all crew places) actors (known events) events p w.kept b x (sym (beside b f.0 g.0) ∙ at) borne) may.runs (ap (known events).actors (sym same) ∙ is)).1) may.just;
          })
          (text_cases b c))
          (text_cases b a)
        where
          -- a child has one parent
          one_parent : (b : List ℕ) → b ≢ a → (known events).pipework.programs b 0 ≡ Some (Runs c) → ⊥
          one_parent b far its =
              let both : ◌≡◌ {A = Option Slot} (Some (slot_in b 0)) (Some (slot_in a 0)) = sym (piped.wired.children b 0 c its) ∙ piped.wired.children a 0 c runs in
              let same : slot_in b 0 ≡ slot_in a 0 = cc in
              far (ap (λ (slot : Slot). slot.parent) same)

      awaited_still : (b : List ℕ) (x : Actor) → t.actors b ≡ Some x → IsMail x.program → is_awaiting t b ≡ true → IsAwaited t b
      awaited_still b x at its awaits = ⊎_elim
          (λ (f : (b ≡ c) × (bytes_eq b c ≡ true)). let both : true ≡ false = sym awaits ∙ ap (is_awaiting t) f.0 ∙ child_awaits in absurd (cc))
          (λ (f : (b ≢ c) × (bytes_eq b c ≡ false)).
          let apart_it : b ≢ a = λ same.
          let both : ◌≡◌ {A = Option Actor} (Some (with_deed parent own)) (Some x) = sym acts ∙ ap t.actors (sym same) ∙ at in
          let one : with_deed parent own ≡ x = cc in
          no_mail (subst (λ (x : Actor). IsMail x.program) (sym one) its) in
          let it = piped.awaited b x (sym (beside b apart_it f.0) ∙ at) its (sym (same_awaits b f.0) ∙ awaits) in
          let far : it.parent ≢ a = λ same.
          let both : ◌≡◌ {A = Option Tenant} (Some (Runs b)) (Some (Runs c)) = sym it.runs ∙ ap (λ (a : List ℕ). (known events).pipework.programs a 0) same ∙ runs in
          let one : b ≡ c = cc in f.0 one in
          let other : it.parent ≢ c = λ same.
          let born = piped.born it.parent 0 b it.runs in
          bears_no_mail fed.program 0 born.child.program (born.bears (idle fed.program fed.life) (ap (known events).actors same ∙ fed.was)) mail in
          record {
            parent = it.parent;
            runs = runs_then it.parent 0 ∙ it.runs;
            actor = it.actor;
            is = beside it.parent far other ∙ it.is;
            alive = it.alive;
            borne = it.borne;
          })
          (text_cases b c)

      are_piped : (known later ≡ t) → ArePiped crew mouths now_actors (known later) later
      are_piped now =
          let s = known events in
          let child_wire : piped.wires c ≡ None = mail_wire (piped.wires c) (piped.born a 0 c runs).child.program (piped.born a 0 c runs).runs
          (fed_mail crew mouths actors s events piped a parent 0 c (piped.born a 0 c runs).child is feeds runs (piped.born a 0 c runs).is).1 in
          let middle = set actors i y in
          let beside_mid : slice_get middle (crew + h.at) ≡ Some h.held = get_beside actors i y (crew + h.at) h.held beside_it.1 h.is in
          subst (λ (s : State). ArePiped crew mouths now_actors s later) (sym now) (record {
            wires = piped.wires;
            wired = subst (AreWired piped.wires mouths) (sym work) (wired_beside piped.wires mouths s.pipework c port.Input (λ pipe. closed (with_bytes bytes pipe)) piped.wired child_wire);
            slots = piped.slots;
            children = piped.children;
            over = over_alike (λ b. is_gone (s.actors b)) (λ b. is_gone (t.actors b)) mouths (λ j u d e at runs. gone_same e) piped.over;
            places = places_still piped.wires middle (crew + h.at) h.held z beside_mid given.name given.ended given.stays
                (places_still piped.wires actors i here.held y here.is served.name served.ended served.stays piped.places);
            stands = λ j v at lives. subst (λ (o : Option Slot). IsSlotOf piped.wires o v.slot) (sym (ap (λ (w : Pipework). w.slots v.name) work))
                (stands_still piped.wires s.pipework.slots middle (crew + h.at) h.held z beside_mid given.name given.ended given.stays
                (stands_still piped.wires s.pipework.slots actors i here.held y here.is served.name served.ended served.stays piped.stands) j v at lives);
            others = others_still (λ (v : Held). piped.wires v.name ≡ v.wire) middle (crew + h.at) h.held z beside_mid given.name (λ of. ap piped.wires given.name ∙ of ∙ sym given.stays.wire)
                (others_still (λ (v : Held). piped.wires v.name ≡ v.wire) actors i here.held y here.is served.name (λ of. ap piped.wires served.name ∙ of ∙ sym served.stays.wire) piped.others);
            runs = λ b x at lives.
                let u = kind_before b x at in
                kind_runs (piped.wires b) u.0 x u.2 (piped.runs b u.0 u.1 (sym u.2.life ∙ lives));
            born = λ b d e q.
                let was = piped.born b d e (sym (runs_then b d) ∙ q) in
                let x = kind_then e was.child was.is in
                record {
                  child = x.0;
                  is = x.1;
                  runs = kind_runs (piped.wires e) was.child x.0 x.2 was.runs;
                  bears = λ v at.
                      let u = kind_before b v at in
                      kind_bears u.0 v d x.0.program u.2 (kind_borne u.0.program d was.child x.0 x.2 (was.bears u.0 u.1));
                };
            whole = whole_more events k piped.whole tt;
            fresh = λ b none named.
                let far : b ≢ a = λ e. let both : ◌≡◌ {A = Option Actor} None (Some (with_deed parent own)) = sym none ∙ ap t.actors e ∙ acts in absurd (cc) in
                let other : b ≢ c = λ e. let both : ◌≡◌ {A = Option Actor} None (Some (idle (with_texts message envelope fed.program) fed.life)) = sym none ∙ ap t.actors e ∙ child_is in absurd (cc) in
                let was = piped.fresh b (sym (beside b far other) ∙ none) named in
                record {
                  place = was.place;
                  slot = ap (λ (w : Pipework). w.slots b) work ∙ was.slot;
                  pipes = λ q its. ap (λ (w : Pipework). w.pipes b q) work ∙ input_beside s.pipework c bytes b q other ∙ was.pipes q its;
                };
            fed = fed_still;
            awaited = awaited_still;
            count = piped.count;
            few = piped.few;
            many = subst (λ (l : ℕ). crew ≤ l) (sym (length-set middle (crew + h.at) z ∙ length-set actors i y)) piped.many;
            seated = λ j v low at lives. ⊎_elim
                (λ (f : (j ≡ crew + h.at) × (z ≡ v)). absurd (omega (arith, f.0, low)))
                (λ f. seated_still crew (length mouths) i actors here.held y here.is served.ended piped.seated j v low f.1 lives)
                (get_set middle (crew + h.at) z j v at);
          })

      booked : (entries later_entries : List Entry) (m : ℕ) → AreBooked crew entries actors events → h.held.entry ≡ Some m
          → ((e : Entry) (args : Given) → slice_get entries m ≡ Some e → args.envelope ≡ envelope → later_entries ≡ set entries m (fed_entry args e)) → AreBooked crew later_entries now_actors later
      booked entries later_entries m before entry noted_it =
          let middle = set actors i y in
          let before_it = look_booked crew actors events i here.held y entries before here.is served.name served.stays.entry in
          let mid_placed : (j : ℕ) (v : Held) → slice_get middle j ≡ Some v → among_all crew places v.name ≡ Some j =
          each_set (λ (j : ℕ) (v : Held). among_all crew places v.name ≡ Some j) actors i y (ap (among_all crew places) served.name ∙ w.kept.placed i here.held here.is) (λ j v other at. w.kept.placed j v at) in
          let there : slice_get middle (crew + h.at) ≡ Some h.held = get_beside actors i y (crew + h.at) h.held beside_it.1 h.is in
          look_booked crew middle later (crew + h.at) h.held z later_entries
          (fed_booked (among_all crew places) crew middle events (crew + h.at) h.held entries a c message envelope just mid_placed before_it there h.name mail_just own later_entries m tt entry noted_it)
          there given.name given.stays.entry

  -- the child has an entry
  pub fed_entry_is : (entries : List Entry) → AreBooked crew entries actors events → (m : ℕ) × (h.held.entry ≡ Some m)
  fed_entry_is = entry_is filled.0 filled.1

  -- so the world keeps what it keeps
  module _ (y z : Held) (served : HasServed here.held y own (length events) parent) (given : HasBeenFed h.held z message envelope) where
    now_is : known later ≡ acted filled.0 a own 0 (Some parent)
    now_is = filled.2 ∙ ap (acted filled.0 a own 0) (still filled.0 filled.1)

    pub feed_keeps : IsWorld told (among_all crew places) (set (set actors i y) (crew + h.at) z) (known later) later p n b
    feed_keeps = keeps filled.0 filled.1 y z served given now_is

    pub feed_piped : ArePiped crew mouths (set (set actors i y) (crew + h.at) z) (known later) later
    feed_piped = are_piped filled.0 filled.1 y z served given now_is

    pub feed_booked : (entries later_entries : List Entry) (m : ℕ) → AreBooked crew entries actors events → h.held.entry ≡ Some m
        → ((e : Entry) (args : Given) → slice_get entries m ≡ Some e → args.envelope ≡ envelope → later_entries ≡ set entries m (fed_entry args e))
        → AreBooked crew later_entries (set (set actors i y) (crew + h.at) z) later
    feed_booked = booked filled.0 filled.1 y z served given
