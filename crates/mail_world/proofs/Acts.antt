-- What the world knows and has open, as one actor makes a call, ends, or starts.
use Rattle.std.proofs.Common.{◌≡◌, ◌≢◌, ℕ, List, [], ◌∷◌, ◌++◌, length, true, false, if◌then◌else◌, Option, Some, None, refl, sym, ap, ◌∙◌, subst, ⊎_elim, arith, bytes_eq, reverse}
use Rattle.std.proofs.lemmas.Bool.Decides.{eqb_tells}
use Rattle.std.specs.List.{slice_get}
use Rattle.call_fs.specs.declared.past.NeedData.{NeedData}
use Rattle.call_fs.specs.declared.past.NeedData.TheVariants as needs
use Rattle.call_fs.specs.declared.past.GotData.{GotData}
use Rattle.call_fs.specs.declared.past.GotData.TheVariants.{Answered}
use Rattle.call_fs.specs.declared.past.GotData.TheVariants as came
use Rattle.call_fs.specs.declared.past.Own.{Own}
use Rattle.call_fs.specs.Program.{MayCome}
use Rattle.call_fs.specs.declared.calls.CallData.{CallData}
use Rattle.call_fs.specs.declared.calls.CallData.TheVariants as call
use Rattle.call_fs.specs.declared.calls.Answer.{Answer}
use Rattle.call_fs.specs.declared.calls.Answer.TheVariants as told
use Rattle.call_fs.specs.declared.program.Ready.{Ready}
use Rattle.call_fs.specs.Maps.{put}
use Rattle.world_events.specs.declared.event.Program.{Program}
use Rattle.mail_world.specs.declared.actor.Actor.{Actor as Held}
use Rattle.world_events.specs.declared.event.Event.{Event as Kept}
use Rattle.world_events.specs.declared.event.Event.TheVariants as kept
use Rattle.mail_world.specs.History.{State, Actor, Life, next_of, start_of, acted, finished, happens, held_by, holder_after, unless_by}
use Rattle.mail_world.specs.History.Event.{Start}
use Rattle.mail_world.specs.History.Life.{Alive, Over, Stopped}
use Rattle.mail_world.specs.World.{span_of, ends, starts, starts_in}
use Rattle.mail_world.specs.ByKind.{IsMail, Follows, awaits_of}
use Rattle.mail_world.specs.Wired.{seat}
use Rattle.mail_world.specs.Readiness.{is_awaiting}
use Rattle.world_events.specs.Inputs.{own_in}
use Rattle.mail_world.specs.Inside.{event_of, RunsAt, unowed, StandsFor, span_by, life_by, IsMember, IsStranger, is_by}
use Rattle.mail_world.proofs.Known.{IsPlain}
use Rattle.mail_world.specs.Acting.{IsOwed, HaveShut}
use Rattle.world_pipes.specs.declared.mouths.Mouths.{Mouths}
use Rattle.call_fs.proofs.Maps.{put_same, put_other, put_at_same, put_at_other}
use Rattle.queue_law.proofs.Tests.{same_text, other_text}
use Rattle.mail_world.proofs.Spans.{span_push, span_stays, span_begins, span_ends}
use Rattle.mail_world.proofs.Crew.{ActsAlone, StartsAlone, life_same}
use Rattle.mail_world.proofs.Lists.{get_last}

-- the descriptors of others
others_put : (h : ℕ → Option (List ℕ)) (b : List ℕ) (k : ℕ) (v : Option (List ℕ)) (fd : ℕ) → is_by b v ≡ false → is_by b (h fd) ≡ false → is_by b (put h k v fd) ≡ false
others_put h b k v fd none was = ⊎_elim
    (λ f. subst (λ (q : ℕ). is_by b (put h k v q) ≡ false) (sym f.1) (ap (is_by b) (put_same h k v) ∙ none))
    (λ f. ap (is_by b) (put_other h k v fd f.1) ∙ was)
    (eqb_tells fd k)

held_other : (h : ℕ → Option (List ℕ)) (a b : List ℕ) (c : CallData) (answer : Answer) (fd : ℕ) → b ≢ a → is_by b (h fd) ≡ false → is_by b (held_by h a c answer fd) ≡ false
held_other h a b c (told.Created made n) fd apart was = others_put h b made.0 (Some a) fd (other_text a b (λ e. apart (sym e))) was
held_other h a b c (told.Opened made) fd apart was = others_put h b made.0 (Some a) fd (other_text a b (λ e. apart (sym e))) was
held_other h a b (call.Close made) told.Done fd apart was = others_put h b made.0 None fd refl was
held_other h a b (call.CreateExcl name) told.Done fd apart was = was
held_other h a b (call.Open name how) told.Done fd apart was = was
held_other h a b (call.ReadAt made at len) told.Done fd apart was = was
held_other h a b (call.WriteAt made at bytes) told.Done fd apart was = was
held_other h a b (call.Append made bytes) told.Done fd apart was = was
held_other h a b (call.Truncate made len) told.Done fd apart was = was
held_other h a b (call.Sync made) told.Done fd apart was = was
held_other h a b (call.Link old new) told.Done fd apart was = was
held_other h a b (call.Unlink name) told.Done fd apart was = was
held_other h a b (call.Stat name) told.Done fd apart was = was
held_other h a b (call.NextName dir last) told.Done fd apart was = was
held_other h a b c (told.Count n) fd apart was = was
held_other h a b c (told.Stat stat) fd apart was = was
held_other h a b c (told.Name name) fd apart was = was
held_other h a b c told.NoName fd apart was = was
held_other h a b c (told.Refused why) fd apart was = was

own_other : (h : ℕ → Option (List ℕ)) (a b : List ℕ) (due : NeedData) (came : GotData) (fd : ℕ) → b ≢ a → is_by b (h fd) ≡ false → is_by b (holder_after h a due came fd) ≡ false
own_other h a b (needs.File c) (Answered got) fd apart was = held_other h a b c got.answer fd apart was
own_other h a b (needs.File c) (came.Took bytes) fd apart was = was
own_other h a b (needs.File c) came.End fd apart was = was
own_other h a b (needs.File c) (came.Ended status) fd apart was = was
own_other h a b (needs.File c) came.Crashed fd apart was = was
own_other h a b (needs.File c) came.Gave fd apart was = was
own_other h a b (needs.File c) (came.Started pid) fd apart was = was
own_other h a b (needs.File c) came.Failed fd apart was = was
own_other h a b (needs.File c) came.Memory fd apart was = was
own_other h a b (needs.Take port) came fd apart was = was
own_other h a b (needs.Give port bytes) came fd apart was = was
own_other h a b (needs.Start asked) came fd apart was = was
own_other h a b (needs.Command bytes) came fd apart was = was
own_other h a b needs.Wait came fd apart was = was
own_other h a b (needs.Ended status) came fd apart was = was

-- what an actor does is its alone
pub own_alone : (s : State) (a : List ℕ) (x : Actor) (own : Own) → ActsAlone a s (acted s a own 0 (Some x)) (kept.Act a own)
own_alone s a x own = record {
  actors = λ b apart. put_at_other s.actors a _ b apart;
  holder = λ b apart fd was. own_other s.holder a b own.due own.came fd apart was;
  no_start = λ b apart. refl;
  no_end = λ b apart. refl;
}

pub freed : (a : List ℕ) (o : Option (List ℕ)) → is_by a (unless_by a o o) ≡ false
freed a None = refl
freed a (Some b) = elim (bytes_eq b a) as (λ t. bytes_eq b a ≡ t → is_by a (if t then None else Some b) ≡ false) [ true ↦ λ e. refl | false ↦ λ e. e ] refl

pub kept_on : (a b : List ℕ) (o : Option (List ℕ)) → b ≢ a → is_by b (unless_by a o o) ≡ is_by b o
kept_on a b None apart = refl
kept_on a b (Some c) apart = elim (bytes_eq c a) as (λ t. bytes_eq c a ≡ t → is_by b (if t then None else Some c) ≡ bytes_eq c b) [
  | true ↦ λ e. sym (other_text c b (λ same. absurd (cc (sym e ∙ other_text c a (λ f. apart (sym same ∙ f))))))
  | false ↦ λ e. refl
] refl

-- with this kept event that actor's life becomes this one, and this is its exit status
pub record Finishes (a : List ℕ) (k : Kept) (life : Life) (status : Option ℕ) : Type 0 where
  pub plain : IsPlain k
  pub lives : (at : ℕ) → life ≡ life_by (Some at) status
  pub happens : (s : State) → happens s (event_of k) ≡ finished s a life (s.actors a)
  pub none_starts : starts_in k ≡ 0
  pub nobody_starts : (b : List ℕ) → starts b k ≡ false
  pub mine : ends a k ≡ true
  pub alone : (b : List ℕ) → b ≢ a → ends b k ≡ false
  pub dead : life ≢ Alive

pub end_finishes : (a : List ℕ) (p : ℕ) (ready : Ready) (status : ℕ) → Finishes a (kept.End a p ready status) (Over status) (Some status)
end_finishes a p ready status =
    record { plain = tt; lives = λ at. refl; happens = λ s. refl; none_starts = refl; nobody_starts = λ b. refl; mine = same_text a; alone = λ b apart. other_text a b (λ e. apart (sym e)); dead = λ e. cc }

pub stop_finishes : (a : List ℕ) → Finishes a (kept.Stop a) Stopped None
stop_finishes a = record { plain = tt; lives = λ at. refl; happens = λ s. refl; none_starts = refl; nobody_starts = λ b. refl; mine = same_text a; alone = λ b apart. other_text a b (λ e. apart (sym e)); dead = λ e. cc }

-- and so is an end or a stop
pub finish_alone : (s : State) (a : List ℕ) (x : Actor) (k : Kept) (life : Life) (status : Option ℕ) → Finishes a k life status → ActsAlone a s (finished s a life (Some x)) k
finish_alone s a x k life status f = record {
  actors = λ b apart. put_at_other s.actors a _ b apart;
  holder = λ b apart fd was. kept_on a b (s.holder fd) apart ∙ was;
  no_start = λ b apart. f.nobody_starts b;
  no_end = f.alone;
}

pub start_alone : (s : State) (a : List ℕ) (program : Program) → StartsAlone a s (happens s (Start a program)) (kept.Start a program)
start_alone s a program = record {
  actors = λ b apart. put_at_other s.actors a _ b apart;
  holder = refl;
  no_end = λ b. refl;
  start = λ b. refl;
}

-- the actor that did something
pub own_member : (s t : State) (events : List Kept) (p : ℕ) (x y : Held) (own : Own) (k : Kept) (m : IsMember s events p x)
    → own_in k ≡ Some own → starts x.name k ≡ false → ends x.name k ≡ false
    → t.actors x.name ≡ Some (record { program = m.actor.program; past = own ∷ m.actor.past; life = m.actor.life })
    → x.ended ≡ None → y.name ≡ x.name → y.ended ≡ x.ended → y.status ≡ x.status → (IsMail m.actor.program → awaits_of y.machine ≡ is_awaiting t x.name) → own.read ≡ p
    → next_of m.actor.program m.actor.past own.read own.ready ≡ own.due → MayCome own.due own.came
    → StandsFor y m.actor.program (own ∷ m.actor.past) → ((at : ℕ) → y.owed ≡ Some at → IsOwed y own (length events) at)
    → IsMember t (events ++ k ∷ []) p y
own_member s t events p x y own k m mine no_start no_end now alive name ended status awaits read due may follows owes =
    record {
      actor = record { program = m.actor.program; past = own ∷ m.actor.past; life = m.actor.life };
      is = ap t.actors name ∙ now;
      follows = λ e. follows;
      owes = λ e at is. let o = owes at is in record {
        own = own;
        before = m.actor.past;
        newest = refl;
        event = k;
        there = ap (slice_get (events ++ k ∷ [])) o.here ∙ get_last events k;
        is = mine;
        read = o.read;
        found = o.found;
        looked = o.looked;
        due = o.due;
        kind = o.kind;
        within = o.within;
      };
      runs = subst (λ (a : List ℕ). RunsAt (seat a) m.actor.program) (sym name) m.runs;
      run = (m.run, (due, may));
      in_order = omega (arith, read);
      life = m.life ∙ life_same x.ended y.ended x.status y.status ended status;
      unended = λ e. status ∙ m.unended alive;
      awaits = λ e mail. awaits mail ∙ sym (ap (is_awaiting t) name);
      spans = ap (λ (a : List ℕ). span_of a (reverse (events ++ k ∷ []))) name ∙ span_stays events k x.name no_start no_end ∙ m.spans ∙ ap span_by (sym ended);
      closed = λ at e. let both : ◌≡◌ {A = Option ℕ} None (Some at) = sym (ended ∙ alive) ∙ e in absurd (cc);
    }

-- the actor that ended or was stopped
pub finish_member : (s : State) (events : List Kept) (p : ℕ) (x y : Held) (k : Kept) (life : Life) (status : Option ℕ) (m : IsMember s events p x) → Finishes x.name k life status
    → x.ended ≡ None → y.name ≡ x.name → y.ended ≡ Some (length events) → y.status ≡ status → y.descriptors.items ≡ []
    → IsMember (finished s x.name life (Some m.actor)) (events ++ k ∷ []) p y
finish_member s events p x y k life status m f alive name ended status_is none =
    let t = finished s x.name life (Some m.actor) in
    record {
      actor = record { program = m.actor.program; past = m.actor.past; life = life };
      is = ap t.actors name ∙ put_at_same s.actors x.name _;
      follows = λ e. let both : ◌≡◌ {A = Option ℕ} None (Some (length events)) = sym e ∙ ended in absurd (cc);
      owes = λ e at is. let both : ◌≡◌ {A = Option ℕ} None (Some (length events)) = sym e ∙ ended in absurd (cc);
      runs = subst (λ (a : List ℕ). RunsAt (seat a) m.actor.program) (sym name) m.runs;
      run = m.run;
      in_order = m.in_order;
      life = f.lives (length events) ∙ life_same (Some (length events)) y.ended status y.status ended status_is;
      unended = λ e. let both : ◌≡◌ {A = Option ℕ} None (Some (length events)) = sym e ∙ ended in absurd (cc);
      awaits = λ e mail. let both : ◌≡◌ {A = Option ℕ} None (Some (length events)) = sym e ∙ ended in absurd (cc);
      closed = λ at e. none;
      spans = ap (λ (a : List ℕ). span_of a (reverse (events ++ k ∷ []))) name ∙ span_push events k x.name
          ∙ span_ends x.name k (length events) (span_of x.name (reverse events)) (m.spans ∙ ap span_by alive) f.mine ∙ ap span_by (sym ended);
    }

-- a new actor
pub start_member : (s : State) (events : List Kept) (p : ℕ) (y : Held) (a : List ℕ) (program : Program) → RunsAt (seat a) program
    → IsStranger s events a → y.name ≡ a → y.ended ≡ None → y.status ≡ None → y.owed ≡ None → Follows y.machine program [] → awaits_of y.machine ≡ is_awaiting s a → start_of program ≡ p
    → IsMember (happens s (Start a program)) (events ++ kept.Start a program ∷ []) p y
start_member s events p y a program runs stranger name ended status paid follows awaits now =
    let k : Kept = kept.Start a program in
    let t = happens s (Start a program) in
    record {
      actor = record { program = program; past = []; life = Alive };
      is = ap t.actors name ∙ put_at_same s.actors a _;
      follows = λ e. subst (λ (o : Option ℕ). Follows y.machine program (unowed o [])) (sym paid) follows;
      owes = λ e at is. let both : ◌≡◌ {A = Option ℕ} None (Some at) = sym paid ∙ is in absurd (cc);
      runs = subst (λ (a : List ℕ). RunsAt (seat a) program) (sym name) runs;
      run = tt;
      closed = λ at e. let both : ◌≡◌ {A = Option ℕ} None (Some at) = sym ended ∙ e in absurd (cc);
      in_order = omega arith;
      life = sym (ap (λ (o : Option ℕ). life_by o y.status) ended);
      unended = λ e. status;
      awaits = λ e mail. awaits ∙ sym (ap (is_awaiting t) name);
      spans = ap (λ (a : List ℕ). span_of a (reverse (events ++ k ∷ []))) name ∙ span_push events k a
          ∙ span_begins a k (length events) (span_of a (reverse events)) stranger.unborn (same_text a) ∙ ap span_by (sym ended);
    }

-- a machine that looked, and owes nothing, stands as before
pub look_member : (s : State) (events : List Kept) (p : ℕ) (x y : Held) (m : IsMember s events p x)
    → x.ended ≡ None → y.name ≡ x.name → y.ended ≡ x.ended → y.status ≡ x.status → awaits_of y.machine ≡ awaits_of x.machine → y.owed ≡ None
    → Follows y.machine m.actor.program m.actor.past → IsMember s events p y
look_member s events p x y m alive name ended status awaits paid follows = record {
  actor = m.actor;
  is = ap s.actors name ∙ m.is;
  follows = λ e. subst (λ (o : Option ℕ). Follows y.machine m.actor.program (unowed o m.actor.past)) (sym paid) follows;
  owes = λ e at is. let both : ◌≡◌ {A = Option ℕ} None (Some at) = sym paid ∙ is in absurd (cc);
  runs = subst (λ (a : List ℕ). RunsAt (seat a) m.actor.program) (sym name) m.runs;
  run = m.run;
  in_order = m.in_order;
  life = m.life ∙ life_same x.ended y.ended x.status y.status ended status;
  unended = λ e. status ∙ m.unended (sym ended ∙ e);
  awaits = λ e mail. awaits ∙ m.awaits alive mail ∙ sym (ap (is_awaiting s) name);
  spans = ap (λ (a : List ℕ). span_of a (reverse events)) name ∙ m.spans ∙ ap span_by (sym ended);
  closed = λ at e. let both : ◌≡◌ {A = Option ℕ} None (Some at) = sym (ended ∙ alive) ∙ e in absurd (cc);
}

-- what was shut after an actor was over, by the same place, slot and name
pub shut_of : (mouths later : List Mouths) (wire at : Option ℕ) (slot own : Option (ℕ × ℕ)) (a b : List ℕ) → wire ≡ at → slot ≡ own → a ≡ b → HaveShut wire slot a mouths later → HaveShut at own b mouths later
shut_of mouths later wire at slot own a b wire_is slot_is name shut =
    subst (λ (o : Option ℕ). HaveShut o own b mouths later) wire_is
    (subst (λ (o : Option (ℕ × ℕ)). HaveShut wire o b mouths later) slot_is (subst (λ (c : List ℕ). HaveShut wire slot c mouths later) name shut))
