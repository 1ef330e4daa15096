-- A need that is served.
use Rattle.std.proofs.Common.{◌≡◌, ℕ, ◌≤◌, List, [], ◌∷◌, ◌++◌, take, Option, Some, None, refl, sym, ap, ◌∙◌, subst, ⊎_elim, arith}
use Rattle.call_fs.specs.declared.past.ChildData.{ChildData}
use Rattle.call_fs.specs.declared.past.GotData.{GotData}
use Rattle.call_fs.specs.declared.past.GotData.TheVariants as got
use Rattle.call_fs.specs.declared.past.NeedData.{NeedData}
use Rattle.call_fs.specs.declared.past.NeedData.TheVariants as needs
use Rattle.call_fs.specs.declared.program.Port.TheVariants as port
use Rattle.call_fs.specs.declared.program.Ready.{Ready}
use Rattle.call_fs.specs.Program.{MayCome}
use Rattle.mail_bytes.specs.Told.{Meets, Rose}
use Rattle.outside.specs.declared.sink.Gave.{Gave}
use Rattle.outside.specs.declared.sink.Gave.TheVariants as gave
use Rattle.outside.specs.declared.source.Took.{Took}
use Rattle.outside.specs.declared.source.Took.TheVariants as took
use Rattle.outside.specs.declared.spawner.Started.{Started}
use Rattle.outside.specs.declared.spawner.Started.TheVariants as started
use Rattle.outside.specs.declared.spawner.Status.{Status}
use Rattle.outside.specs.declared.spawner.Status.TheVariants as status
use Rattle.outside.specs.Children.{SpawnCall}
use Rattle.outside.specs.Children.SpawnCall.{Start, Feed, Finish, AskStatus}
use Rattle.outside.specs.Streams.{CountsFailures, TakesBytes, Gives as Given}
use Rattle.program_runner.specs.declared.served.Served.{Served}
use Rattle.program_runner.specs.declared.served.Served.TheVariants as served
use Rattle.program_runner.specs.Lines.{StartsBy, came_of_giving, came_of_start, came_of_status}
use Rattle.program_runner.specs.Outside.{Puts, Takes}
use Rattle.program_runner.specs.Serving.{FitsPiece, PostsTold, SpawnerTold, Spawns, came_with, served_status}
use Rattle.program_runner.proofs.Members.{answered_nothing, spawned_then}
use Rattle.program_runner.proofs.Serves.{asked_nothing}
use Rattle.program_runner.proofs.Turns.{gave_all, gave_part, took_bytes, took_end, took_nothing}
use Rattle.local_command.specs.Commands.{RunsCommand}
use Rattle.local_command.specs.Commands.RunsCommand.{HasRun, NoMemory, Unstarted}
use Rattle.local_command.specs.Delivered.{IsOfChild}
use Rattle.local_command.specs.Done.{AsksInjector, Children, FeedsInjector, started_on}
use Rattle.local_command.specs.Serving.{HasAskedInjector, HasFedInjector, HasServed, HasStarted, Moves, Streams, event_at, served_gave, served_took}
use Rattle.local_command.specs.Waiting.{HasAsked, HasRunCommand}
use Rattle.local_command.proofs.Feeding.{status_fits, status_served}

-- The input and the output

meets_same : {X : Type 0} (P : X → X → Type 0) → ((x : X) → P x x) → (a : Option X) → Meets a a P
meets_same P by None = tt
meets_same P by (Some x) = by x

nothing_more : (l : List ℕ) → l ++ [] ≡ l
nothing_more [] = refl
nothing_more (x ∷ l) = ap (λ t. x ∷ t) (nothing_more l)

puts_none : (due : NeedData) (came : GotData) → ((read : ℕ) (ready : Ready) (l : List ℕ) → Puts (event_at read ready due came) l l) → (a b : Option (List ℕ)) → b ≡ a → (read : ℕ) (ready : Ready)
    → Meets a b (Puts (event_at read ready due came))
puts_none due came still a b same read ready = subst (λ o. Meets a o (Puts (event_at read ready due came))) (sym same) (meets_same (Puts (event_at read ready due came)) (still read ready) a)

takes_none : (due : NeedData) (came : GotData) → ((read : ℕ) (ready : Ready) (l : List ℕ) → Takes (event_at read ready due came) l l) → (a b : Option (List ℕ)) → b ≡ a → (read : ℕ) (ready : Ready)
    → Meets a b (Takes (event_at read ready due came))
takes_none due came still a b same read ready = subst (λ o. Meets a o (Takes (event_at read ready due came))) (sym same) (meets_same (Takes (event_at read ready due came)) (still read ready) a)

module _ (a b : Streams) (into : List ℕ) where
  moved_in : (came : GotData) → ((read : ℕ) (ready : Ready) → Meets a.left b.left (Takes (event_at read ready (needs.Take port.Input) came)))
      → a.input_faults ≤ b.input_faults → (came ≡ got.Failed → Rose a.input_faults b.input_faults) → b.taken ≡ a.taken → b.output_faults ≡ a.output_faults → Moves (needs.Take port.Input) came a b
  moved_in came left counts cause taken output = record {
    left = left;
    input_counts = counts;
    input_cause = λ d c. cause c;
    taken = puts_none (needs.Take port.Input) came (λ read ready l. ([], refl, sym (nothing_more l))) a.taken b.taken taken;
    output_counts = omega arith;
    output_cause = λ bytes d c. absurd (cc);
  }

  pub moves_take : (t : Took) → Meets a.left b.left (TakesBytes t into) → CountsFailures a.input_faults b.input_faults (t ≡ took.Failed) → b.taken ≡ a.taken → b.output_faults ≡ a.output_faults
      → Moves (needs.Take port.Input) (came_with (served_took t) into) a b
  moves_take (took.Got count) m cause taken output = moved_in (got.Took (take count into)) (λ read ready. took_bytes a.left b.left count into read ready m) cause.later (λ e. absurd (cc)) taken output
  moves_take took.End m cause taken output = moved_in got.End (λ read ready. took_end read ready a.left b.left m) cause.later (λ e. absurd (cc)) taken output
  moves_take took.Failed m cause taken output = moved_in got.Failed (λ read ready. took_nothing read ready a.left b.left m) cause.later (λ e. cause.rose refl) taken output

  moved_out : (bytes : List ℕ) (came : GotData) → ((read : ℕ) (ready : Ready) → Meets a.taken b.taken (Puts (event_at read ready (needs.Give port.Output bytes) came)))
      → a.output_faults ≤ b.output_faults → (came ≡ got.Failed → Rose a.output_faults b.output_faults) → b.left ≡ a.left → b.input_faults ≡ a.input_faults → Moves (needs.Give port.Output bytes) came a b
  moved_out bytes came taken counts cause left input = record {
    left = takes_none (needs.Give port.Output bytes) came (λ read ready l. (refl, tt)) a.left b.left left;
    input_counts = omega arith;
    input_cause = λ d c. absurd (cc);
    taken = taken;
    output_counts = counts;
    output_cause = λ other d c. cause c;
  }

  pub moves_give : (bytes : List ℕ) (g : Gave) → Meets a.taken b.taken (Given g bytes) → CountsFailures a.output_faults b.output_faults (g ≡ gave.Failed) → b.left ≡ a.left → b.input_faults ≡ a.input_faults
      → Moves (needs.Give port.Output bytes) (came_with (served_gave g) into) a b
  moves_give bytes gave.Done m cause left input = moved_out bytes got.Gave (λ read ready. gave_all read ready a.taken b.taken bytes m) cause.later (λ e. absurd (cc)) left input
  moves_give bytes gave.Failed m cause left input = moved_out bytes got.Failed (λ read ready. gave_part read ready a.taken b.taken bytes m) cause.later (λ e. cause.rose refl) left input

-- a need that children serve
unmoved : (due : NeedData) (came : GotData) (a : Streams) → ((read : ℕ) (ready : Ready) (l : List ℕ) → Takes (event_at read ready due came) l l) → ((read : ℕ) (ready : Ready) (l : List ℕ) → Puts (event_at read ready due came) l l)
    → (due ≡ needs.Take port.Input → ⊥) → ((bytes : List ℕ) → due ≡ needs.Give port.Output bytes → ⊥) → Moves due came a a
unmoved due came a takes puts no_input no_output = record {
  left = takes_none due came takes a.left a.left refl;
  input_counts = omega arith;
  input_cause = λ d c. absurd (no_input d);
  taken = puts_none due came puts a.taken a.taken refl;
  output_counts = omega arith;
  output_cause = λ bytes d c. absurd (no_output bytes d);
}

pub moves_none : (due : NeedData) (came : GotData) (a : Streams) → IsOfChild due → Moves due came a a
moves_none (needs.Start child) came a of = unmoved (needs.Start child) came a (λ read ready l. (refl, tt)) (λ read ready l. ([], refl, sym (nothing_more l))) (λ e. cc) (λ bytes e. cc)
moves_none (needs.Command text) came a of = unmoved (needs.Command text) came a (λ read ready l. (refl, tt)) (λ read ready l. ([], refl, sym (nothing_more l))) (λ e. cc) (λ bytes e. cc)
moves_none (needs.Give (port.Program slot) bytes) came a of =
    unmoved (needs.Give (port.Program slot) bytes) came a (λ read ready l. (refl, tt)) (λ read ready l. ([], refl, sym (nothing_more l))) (λ e. cc) (λ other e. cc)
moves_none (needs.Take (port.Status slot)) came a of =
    unmoved (needs.Take (port.Status slot)) came a (λ read ready l. (refl, tt)) (λ read ready l. ([], refl, sym (nothing_more l))) (λ e. cc) (λ bytes e. cc)
moves_none due came a of = absurd of

-- What was served

module _ (words : ChildData → List (List ℕ)) (message : List ℕ) (chan : Option ℕ) (into : List ℕ) (s : Children) where
  pub take_served : (t : Took) → HasServed words message chan chan (needs.Take port.Input) (came_with (served_took t) into) s s
  take_served t =
      record { asked = []; calls = []; serves = (refl, refl); may = by t; channel = refl; posts = answered_nothing s.posts; spawner = asked_nothing s.spawner } where
        by : (t : Took) → MayCome (needs.Take port.Input) (came_with (served_took t) into)
        by (took.Got count) = tt
        by took.End = tt
        by took.Failed = tt

  pub give_served : (bytes : List ℕ) (g : Gave) → HasServed words message chan chan (needs.Give port.Output bytes) (came_with (served_gave g) into) s s
  give_served bytes g =
      record { asked = []; calls = []; serves = (refl, refl); may = by g; channel = refl; posts = answered_nothing s.posts; spawner = asked_nothing s.spawner } where
        by : (g : Gave) → MayCome (needs.Give port.Output bytes) (came_with (served_gave g) into)
        by gave.Done = tt
        by gave.Failed = tt

giving : (g : Gave) (into : List ℕ) → came_with (served_gave g) into ≡ came_of_giving g
giving gave.Done into = refl
giving gave.Failed into = refl

may_feed : (slot : ℕ) (bytes : List ℕ) (g : Gave) (into : List ℕ) → MayCome (needs.Give (port.Program slot) bytes) (came_with (served_gave g) into)
may_feed slot bytes gave.Done into = tt
may_feed slot bytes gave.Failed into = tt

may_ask : (slot : ℕ) (told : Status) → MayCome (needs.Take (port.Status slot)) (came_of_status told)
may_ask slot (status.Ended code) = tt
may_ask slot status.Crashed = tt
may_ask slot status.Failed = tt

may_start : (child : ChildData) (told : Started) → MayCome (needs.Start child) (came_of_start told)
may_start child (started.Chan chan pid) = tt
may_start child started.Failed = tt
may_start child started.Memory = tt

may_run : (text : List ℕ) (told : Status) → MayCome (needs.Command text) (came_of_status told)
may_run text (status.Ended code) = tt
may_run text status.Crashed = tt
may_run text status.Failed = tt

module _ (words : ChildData → List (List ℕ)) (message : List ℕ) (into : List ℕ) where
  pub feed_served : (chan : Option ℕ) (slot : ℕ) (bytes : List ℕ) (g : Gave) (p : PostsTold) (a b : SpawnerTold) → HasFedInjector chan bytes g a b
      → HasServed words message chan chan (needs.Give (port.Program slot) bytes) (came_with (served_gave g) into) (record { posts = p; spawner = a }) (record { posts = p; spawner = b })
  feed_served chan slot bytes g p a b h = record {
    asked = [];
    calls = h.calls;
    serves = (refl, subst (λ c. FeedsInjector chan bytes c h.calls) (sym (giving g into)) h.feeds);
    may = may_feed slot bytes g into;
    channel = refl;
    posts = answered_nothing p;
    spawner = h.spawner;
  }

  pub start_served : (chan now : Option ℕ) (child : ChildData) (told : Served) (p : PostsTold) (a b : SpawnerTold) → HasStarted (words child) chan now told a b
      → HasServed words message chan now (needs.Start child) (came_with told into) (record { posts = p; spawner = a }) (record { posts = p; spawner = b })
  start_served chan now child told p a b h = record {
    asked = [];
    calls = h.calls;
    serves = (refl, (h.started, h.told_is into, h.starts));
    may = subst (MayCome (needs.Start child)) (sym (h.told_is into)) (may_start child h.started);
    channel = h.channel;
    posts = answered_nothing p;
    spawner = h.spawner;
  }

  pub ask_served : (chan : Option ℕ) (slot : ℕ) (told : Served) (old new : Children) → HasAskedInjector chan told old new → HasServed words message chan chan (needs.Take (port.Status slot)) (came_with told into) old new
  ask_served chan slot told old new h =
      record { asked = h.asked; calls = h.calls; serves = h.asks into; may = by chan (h.asks into); channel = refl; posts = h.posts; spawner = h.spawner } where
        by : (c : Option ℕ) → AsksInjector c (came_with told into) h.asked h.calls → MayCome (needs.Take (port.Status slot)) (came_with told into)
        by None a = absurd a
        by (Some chan) (awaits, (ended, came, calls)) = subst (MayCome (needs.Take (port.Status slot))) (sym came) (may_ask slot ended)

  pub command_served : (chan : Option ℕ) (text : List ℕ) (told : Served) (old new : Children) → HasRunCommand text message told old new → HasServed words message chan chan (needs.Command text) (came_with told into) old new
  command_served chan text told old new h = record {
    asked = h.asked;
    calls = h.calls;
    serves = record { body = message; message_is = refl; runs = h.runs into };
    may = by (h.runs into);
    channel = refl;
    posts = h.posts;
    spawner = h.spawner;
  } where
    by : RunsCommand text message (came_with told into) h.asked h.calls → MayCome (needs.Command text) (came_with told into)
    by (Unstarted came asked calls) = subst (MayCome (needs.Command text)) (sym came) tt
    by (NoMemory came asked calls) = subst (MayCome (needs.Command text)) (sym came) tt
    by (HasRun r) = subst (MayCome (needs.Command text)) (sym r.came_is) (may_run text r.ended)

-- The injector

pub has_fed : (chan : ℕ) (bytes : List ℕ) (told : Gave) (old mid new : SpawnerTold) → Spawns (Feed chan bytes told ∷ []) old mid → Spawns (Finish chan ∷ []) mid new → HasFedInjector (Some chan) bytes told old new
has_fed chan bytes told old mid new feed finish = record {
  calls = Feed chan bytes told ∷ (Finish chan ∷ []);
  feeds = (told, refl, refl);
  spawner = spawned_then (Feed chan bytes told ∷ []) (Finish chan ∷ []) old mid new feed finish;
}

pub has_asked : (chan : ℕ) (told : Status) (result : Served) (old new : Children) → HasAsked chan told old new → result ≡ served_status told → HasAskedInjector (Some chan) result old new
has_asked chan told result old new h is = record {
  asked = h.asked;
  calls = AskStatus chan told ∷ [];
  asks = λ into. (h.awaits, (told, ap (λ (r : Served). came_with r into) is ∙ status_served told into, refl));
  fits = subst FitsPiece (sym is) (status_fits told);
  posts = h.posts;
  spawner = h.spawner;
}

-- it has this channel
pub fed_on_channel : (chan : Option ℕ) (c : ℕ) (bytes : List ℕ) (told : Gave) (old new : SpawnerTold) → chan ≡ Some c → HasFedInjector (Some c) bytes told old new → HasFedInjector chan bytes told old new
fed_on_channel chan c bytes told old new is h = subst (λ o. HasFedInjector o bytes told old new) (sym is) h

pub asked_on_channel : (chan : Option ℕ) (c : ℕ) (told : Served) (old new : Children) → chan ≡ Some c → HasAskedInjector (Some c) told old new → HasAskedInjector chan told old new
asked_on_channel chan c told old new is h = subst (λ o. HasAskedInjector o told old new) (sym is) h

module _ (words : List (List ℕ)) (told : Started) (calls : List SpawnCall) (starts : StartsBy words told calls) where
  begun_on : (chan pid : ℕ) (old : Option ℕ) → told ≡ started.Chan chan pid → Some chan ≡ started_on calls old
  begun_on chan pid old is = ⊎_elim (λ e. sym (ap (λ (c : List SpawnCall). started_on c old) (e ∙ ap (λ (t : Started). Start words t ∷ []) is))) (λ m. let none = m.0 in absurd (cc)) starts

  not_begun : (old : Option ℕ) → ((t : Started) → told ≡ t → started_on (Start words t ∷ []) old ≡ old) → old ≡ started_on calls old
  not_begun old by = ⊎_elim (λ e. sym (ap (λ (c : List SpawnCall). started_on c old) e ∙ by told refl)) (λ m. sym (ap (λ (c : List SpawnCall). started_on c old) m.1)) starts

  module _ (old new : SpawnerTold) (spawner : Spawns calls old new) (chan : Option ℕ) where
    pub has_started : (c pid : ℕ) → told ≡ started.Chan c pid → HasStarted words chan (Some c) (served.Started pid) old new
    has_started c pid is = record {
      calls = calls;
      started = told;
      starts = starts;
      told_is = λ into. sym (ap came_of_start is);
      channel = begun_on c pid chan is;
      spawner = spawner;
      fits = tt;
    }

    pub has_failed : told ≡ started.Failed → HasStarted words chan chan served.Failed old new
    has_failed is = record {
      calls = calls;
      started = told;
      starts = starts;
      told_is = λ into. sym (ap came_of_start is);
      channel = not_begun chan (λ t e. ap (λ (x : Started). started_on (Start words x ∷ []) chan) (sym e ∙ is));
      spawner = spawner;
      fits = tt;
    }

    pub lacked_memory : told ≡ started.Memory → HasStarted words chan chan served.Memory old new
    lacked_memory is = record {
      calls = calls;
      started = told;
      starts = starts;
      told_is = λ into. sym (ap came_of_start is);
      channel = not_begun chan (λ t e. ap (λ (x : Started). started_on (Start words x ∷ []) chan) (sym e ∙ is));
      spawner = spawner;
      fits = tt;
    }

-- the need is this, and that was told
module _ (due asked : NeedData) (result told : Served) (into : List ℕ) (is : due ≡ asked) (same : result ≡ told) where
  pub served_as : (words : ChildData → List (List ℕ)) (message : List ℕ) (chan now : Option ℕ) (s t : Children) → HasServed words message chan now asked (came_with told into) s t
      → HasServed words message chan now due (came_with result into) s t
  served_as words message chan now s t h =
      subst (λ d. HasServed words message chan now d (came_with result into) s t) (sym is) (subst (λ r. HasServed words message chan now asked (came_with r into) s t) (sym same) h)

  pub moves_as : (a b : Streams) → Moves asked (came_with told into) a b → Moves due (came_with result into) a b
  moves_as a b m = subst (λ d. Moves d (came_with result into) a b) (sym is) (subst (λ r. Moves asked (came_with r into) a b) (sym same) m)
