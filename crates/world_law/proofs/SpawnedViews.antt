-- What stands between the sender and the spawner of a channel, also once the sender is lost: what the spawner has in hand then is as if the
-- sender lived on, with the attempts in its slots that it had out.
use Rattle.std.proofs.Common.{◌≡◌, ◌≢◌, inl, inr, ⊎_elim, ℕ, List, [], ◌++◌, length, set, take, drop, Bool, true, false, ◌&&◌}
use Rattle.std.proofs.Common.{Option, Some, None, refl, sym, ap, ◌∙◌, subst, append_assoc, take-append-drop, codes}
use Rattle.std.proofs.lemmas.Bool.{cases_eq}
use Rattle.std.proofs.lemmas.List.{append-nil, get_or-set_other, get_or-set_same}
use Rattle.std.specs.Prelude.{Contains}
use Rattle.call_fs.specs.Maps.{put}
use Rattle.call_fs.specs.Program.{MayCome}
use Rattle.call_fs.specs.declared.past.GotData.{GotData}
use Rattle.call_fs.specs.declared.past.GotData.TheVariants as came
use Rattle.call_fs.specs.declared.past.NeedData.{NeedData}
use Rattle.call_fs.specs.declared.past.NeedData.TheVariants as needs
use Rattle.call_fs.specs.declared.past.Own.{Own}
use Rattle.call_fs.specs.declared.program.Port.TheVariants as port
use Rattle.local_spawn.specs.Table.{begun as local_begun, place_after as local_after}
use Rattle.program_law.specs.Post.Laws.{request_for}
use Rattle.program_law.specs.Post.Posts.{Done, IsAskedFor, IsOffered, Post, Posted, Spawner, Task, asked_by, asks_for, done_by, due_of, goes_at, moved as works_on, tasks_by, told_by, work_of}
use Rattle.program_law.specs.Post.Posts.Spawner.{Local as LocalAt, Remote as RemoteAt}
use Rattle.program_law.specs.Post.Senders.{AsksFor, IsFirst, IsLate, IsSome, Sends, asked_on, heard_at, is_early, is_on, told_on}
use Rattle.program_law.proofs.Post.Asks.{asks_keep, starts_posted}
use Rattle.program_law.proofs.Post.Plains.{requests_are_plain}
use Rattle.program_law.proofs.Post.Senders.{senders_keep}
use Rattle.program_law.proofs.Post.Spawners.{spawners_keep}
use Rattle.program_law.proofs.Post.TakesIn.{drop_past}
use Rattle.remote_spawn.specs.Table.{place_after as remote_after}
use Rattle.send_core.specs.declared.desk.Desk.{Desk}
use Rattle.send_parts.specs.declared.row.Row.{Row}
use Rattle.send_parts.specs.declared.row.Row.TheVariants as at
use Rattle.send_core.specs.Desk.{link}
use Rattle.send_core.specs.Table.{begun, due_at, moved, port_of, row_now}
use Rattle.send_jobs.specs.declared.attempts.Attempt.{Attempt}
use Rattle.send_known.specs.declared.channel.Channel.{Channel}
use Rattle.send_known.specs.declared.channel.Channel.TheVariants as channel
use Rattle.send_jobs.specs.declared.lane.Lane.{Lane}
use Rattle.send_jobs.specs.Sending.{lane}
use Rattle.send_jobs.specs.Slots.{IsLeastFree, attempt_in, lowest}
use Rattle.send_jobs.proofs.SlotLemmas.{lowest_is_least}
use Rattle.send_parts.specs.declared.rows.StartRow.{StartRow}
use Rattle.send_parts.specs.declared.rows.StartRow.TheVariants as start
use Rattle.program_law.proofs.Sender.Heads.{first_in}
use Rattle.spawn_protocol.specs.declared.request.Request.{Request}
use Rattle.spawn_protocol.specs.Report.{Reader}
use Rattle.spawn_protocol.specs.Request.{request_text}
use Rattle.spawner_parts.specs.declared.place.Place.{Place}
use Rattle.spawner_parts.specs.Asked.{runs_in}
use Rattle.spawner_parts.specs.Table.{begun as remote_begun}
use Rattle.world_pipes.specs.Pipework.{Pipework}
use Rattle.world_events.specs.declared.event.Program.{Program}
use Rattle.world_events.specs.declared.event.Program.TheVariants.{LocalSpawner, RemoteSpawner}
use Rattle.mail_world.specs.History.{Actor, Life}
use Rattle.world_law.specs.Crew.{is_alive}
use Rattle.world_law.specs.inside.Posts.{desk_in, sends_in}
use Rattle.world_law.specs.Spawned.{spawner_name, started_after, started_by}
use Rattle.world_law.specs.Standing.{IsOut}
use Rattle.world_law.proofs.AtWork.{runs_not_free}
use Rattle.world_law.proofs.Forgets.{lowest_is_free}
use Rattle.world_law.proofs.PostSends.{stays_late}
use Rattle.world_law.proofs.SpawnedRests.{due_text, goes_no_more, rested, rested_runs, rests_if, rests_posted, shown, shows_going, stays_so, work_shown}
use Rattle.world_law.proofs.SpawnedRuns.{IsTied, tied_works}
use Rattle.world_law.proofs.SpawnedSlots.{Change, changes, gives_late, on_before}
use Rattle.world_law.proofs.SpawnedSlots.Change.{Asked, Cut, Freed, Still}

-- What is seen of both

-- of a spawner: where it stands, whether it lives, and for which requests it started what runs
pub record Side : Type 0 where
  pub spawner : Spawner
  pub serves : Bool
  pub started : ℕ → Option Request

abbrev pub nobody : Channel → Side
nobody channel.Local = record { spawner = LocalAt local_begun; serves = false; started = λ slot. None }
nobody channel.Remote = record { spawner = RemoteAt remote_begun; serves = false; started = λ slot. None }

abbrev pub side_by : Channel → Program → List Own → Life → Side
side_by channel.Local (LocalSpawner since) past life = record { spawner = LocalAt (local_after past); serves = is_alive life; started = started_after channel.Local past }
side_by channel.Remote (RemoteSpawner since) past life = record { spawner = RemoteAt (remote_after past); serves = is_alive life; started = started_after channel.Remote past }
side_by channel.Local program past life = nobody channel.Local
side_by channel.Remote program past life = nobody channel.Remote

abbrev pub side_in : Channel → Option Actor → Side
side_in c None = nobody c
side_in c (Some x) = side_by c x.program x.past x.life

-- and of the sender and both pipes
pub record Sight : Type 0 where
  pub desk : Desk
  pub sends : Bool
  pub side : Side
  pub told : List ℕ
  pub asked : List ℕ

abbrev pub sight_of : Channel → (List ℕ → Option Actor) → Pipework → Sight
sight_of c actors w = record {
  desk = desk_in (actors (codes "sender"));
  sends = sends_in (actors (codes "sender"));
  side = side_in c (actors (spawner_name c));
  told = (w.pipes (codes "sender") (port_of c)).bytes;
  asked = (w.pipes (spawner_name c) port.Input).bytes;
}

abbrev pub is_sending : Sight → Bool
is_sending v = v.sends && is_on v.desk.row

-- with a sender that lives on, or would
abbrev pub post_held : Spawner → (asked : List ℕ) → List (Option Attempt) → Option Reader → (told : List ℕ) → (ℕ → Option Task) → (ℕ → Option Request) → List Done → Post
post_held spawner asked slots heard told tasks last done = record {
  lives = true;
  slots = slots;
  heard = heard;
  told = told;
  serves = true;
  spawner = spawner;
  asked = asked;
  tasks = tasks;
  last = last;
  done = done;
}

-- while the sender lives on, that is what stands: all was given, and what is unsaid is what a spawner was to give that goes no more
pub record IsReal (c : Channel) (v : Sight) (slots : List (Option Attempt)) (heard : Option Reader) (told missing unsaid : List ℕ) : Type 0 where
  pub slots_is : slots ≡ (lane c v.desk.slots).slots
  pub heard_is : heard ≡ heard_at v.desk.row c (link c v.desk).reader
  pub told_is : told ≡ v.told ++ unsaid
  pub whole : missing ≡ []
  pub said : goes_at true (work_of v.side.spawner).row ≡ true → unsaid ≡ []

pub record Held (c : Channel) (v : Sight) : Type 0 where
  pub tasks : ℕ → Option Task
  pub last : ℕ → Option Request
  pub done : List Done
  pub slots : List (Option Attempt)
  pub heard : Option Reader
  pub told : List ℕ
  pub missing : List ℕ
  pub unsaid : List ℕ
  pub posted : Posted (post_held (shown v.side.spawner) (v.asked ++ missing) slots heard told tasks last done)
  -- each attempt there is one that the sender has out, or had
  pub out : (slot : ℕ) (t : Attempt) → attempt_in slots slot ≡ Some t → IsOut v.desk c t
  pub tied : IsTied (work_of (shown v.side.spawner)) slots v.side.started
  pub real : is_sending v ≡ true → IsReal c v slots heard told missing unsaid
  pub first : IsFirst v.desk.row v.desk

-- so it is while the spawner lives
abbrev pub Stands : Channel → Sight → Type 0
Stands c v = v.side.serves ≡ true → Held c v

-- The sender is lost, the spawner is, or both are

pub lost : (c : Channel) (v : Sight) → Stands c v → Stands c (record v { sends = false })
lost c v S serves =
    let h = S serves in
    record {
      tasks = h.tasks;
      last = h.last;
      done = h.done;
      slots = h.slots;
      heard = h.heard;
      told = h.told;
      missing = h.missing;
      unsaid = h.unsaid;
      posted = h.posted;
      out = h.out;
      tied = h.tied;
      real = λ on. let both : false ≡ true = on in absurd (cc);
      first = h.first;
    }

pub gone : (c : Channel) (v : Sight) → v.side.serves ≡ false → Stands c v
gone c v idle serves = let both : true ≡ false = sym serves ∙ idle in absurd (cc)

-- A generation begins

abbrev pub first_side : Channel → Side
first_side channel.Local = record { spawner = LocalAt local_begun; serves = true; started = λ slot. None }
first_side channel.Remote = record { spawner = RemoteAt remote_begun; serves = true; started = λ slot. None }

abbrev pub first_sight : Channel → Sight
first_sight c = record { desk = begun None; sends = true; side = first_side c; told = []; asked = [] }

abbrev first_held : Channel → Post
first_held c = post_held (shown (first_side c).spawner) ([] ++ []) (lane c (begun None).slots).slots (heard_at (begun None).row c (link c (begun None)).reader) [] (λ slot. None) (λ slot. None) []

first_posted : (c : Channel) → Posted (first_held c)
first_posted channel.Local = (starts_posted (λ slot. None) (λ slot. None) []).0
first_posted channel.Remote = (starts_posted (λ slot. None) (λ slot. None) []).1

none_first : (c : Channel) (slot : ℕ) (t : Attempt) → attempt_in (lane c (begun None).slots).slots slot ≡ Some t → ⊥
none_first c slot t there =
    let none : attempt_in (lane c (begun None).slots).slots slot ≡ None = (senders_keep.begins None refl).free c slot in
    let both : ◌≡◌ {A = Option Attempt} None (Some t) = sym none ∙ there in
    absurd (cc)

pub begins : (c : Channel) → Stands c (first_sight c)
begins c serves = record {
  tasks = λ slot. None;
  last = λ slot. None;
  done = [];
  slots = (lane c (begun None).slots).slots;
  heard = heard_at (begun None).row c (link c (begun None)).reader;
  told = [];
  missing = [];
  unsaid = [];
  posted = first_posted c;
  out = λ slot t there. absurd (none_first c slot t there);
  tied = λ goes slot t run there. absurd (none_first c slot t there);
  real = λ on. record { slots_is = refl; heard_is = refl; told_is = refl; whole = refl; said = λ goes. refl };
  first = senders_keep.begins None;
}

-- An event of the spawner

abbrev pub side_worked : Side → Own → Side
side_worked it own = record { spawner = works_on it.spawner own; serves = it.serves; started = started_by own.due own.came (work_of it.spawner).request it.started }

abbrev pub sight_worked : Sight → Own → ℕ → Sight
sight_worked v own wrote = record v { side = side_worked v.side own; told = told_by own.due own.came wrote v.told; asked = asked_by own.due own.came v.asked }

asked_more : (due : NeedData) (got : GotData) (asked more : List ℕ) → (due ≡ needs.Take port.Input → IsOffered asked got) → asked_by due got (asked ++ more) ≡ asked_by due got asked ++ more
asked_more (needs.Take port.Input) (came.Took bytes) asked more offered =
    let o = offered refl in
    let whole : drop (length bytes) (asked ++ more) ≡ o.0 ++ more =
    ap (λ (l : List ℕ). drop (length bytes) (l ++ more)) o.1 ∙ ap (drop (length bytes)) (append_assoc bytes o.0 more) ∙ drop_past bytes (o.0 ++ more) in
    whole ∙ ap (λ (l : List ℕ). l ++ more) (sym (ap (drop (length bytes)) o.1 ∙ drop_past bytes o.0))
asked_more due got asked more offered = refl

offered_more : (got : GotData) (asked more : List ℕ) → IsOffered asked got → IsOffered (asked ++ more) got
offered_more (came.Took bytes) asked more o = (o.0 ++ more, ap (λ (l : List ℕ). l ++ more) o.1 ∙ append_assoc bytes o.0 more)
offered_more got asked more o = tt

module _ (c : Channel) (v : Sight) (h : Held c v) (own : Own) (wrote : ℕ) (name : List ℕ) (due : own.due ≡ due_of v.side.spawner own.ready) (may : MayCome own.due own.came)
    (offered : own.due ≡ needs.Take port.Input → IsOffered v.asked own.came) where
  abbrev s : Spawner
  s = v.side.spawner

  abbrev after : Spawner
  after = works_on v.side.spawner own

  abbrev started : ℕ → Option Request
  started = started_by own.due own.came (work_of v.side.spawner).request v.side.started

  module _ (on : goes_at true (work_of v.side.spawner).row ≡ true) where
    -- as it is
    abbrev now : Post
    now = post_held v.side.spawner (v.asked ++ h.missing) h.slots h.heard h.told h.tasks h.last h.done

    now_posted : Posted (post_held v.side.spawner (v.asked ++ h.missing) h.slots h.heard h.told h.tasks h.last h.done)
    now_posted = subst (λ (z : Spawner). Posted (post_held z (v.asked ++ h.missing) h.slots h.heard h.told h.tasks h.last h.done)) (shows_going v.side.spawner on) h.posted

    now_tied : IsTied (work_of v.side.spawner) h.slots v.side.started
    now_tied = subst (λ (z : Spawner). IsTied (work_of z) h.slots v.side.started) (shows_going v.side.spawner on) h.tied

    told_so : (unsaid : List ℕ) → unsaid ≡ [] → h.told ≡ v.told ++ unsaid → h.told ≡ v.told
    told_so unsaid none is = is ∙ ap (λ (u : List ℕ). v.told ++ u) none ∙ append-nil v.told

    -- it goes on
    goes_on : goes_at true (work_of (works_on v.side.spawner own)).row ≡ true → Held c (sight_worked v own wrote)
    goes_on still =
        let W = spawners_keep own wrote name now now_posted refl due (λ e. offered_more own.came v.asked h.missing (offered e)) in
        let same = asked_more own.due own.came v.asked h.missing offered in
        let show = sym (shows_going after still) in
        let tasks = tasks_by own.due own.came name h.tasks in
        let done = done_by own.due own.came h.tasks h.done in
        let told = told_by own.due own.came wrote h.told in
        record {
          tasks = tasks;
          last = h.last;
          done = done;
          slots = h.slots;
          heard = h.heard;
          told = told;
          missing = h.missing;
          unsaid = [];
          posted = subst (λ (z : Spawner). Posted (post_held z (asked_by own.due own.came v.asked ++ h.missing) h.slots h.heard told tasks h.last done)) show
              (subst (λ (a : List ℕ). Posted (post_held after a h.slots h.heard told tasks h.last done)) same W);
          out = h.out;
          tied = subst (λ (z : Spawner). IsTied (work_of z) h.slots started) show (tied_works now own v.side.started now_posted refl refl due now_tied);
          real = λ sending. let r = h.real sending in
              record {
                slots_is = r.slots_is;
                heard_is = r.heard_is;
                told_is = ap (λ (t : List ℕ). told_by own.due own.came wrote t) (told_so h.unsaid (r.said on) r.told_is) ∙ sym (append-nil (told_by own.due own.came wrote v.told));
                whole = r.whole;
                said = λ goes. refl;
              };
          first = h.first;
        }

    -- or goes no more
    falls : goes_at true (work_of (works_on v.side.spawner own)).row ≡ false → Held c (sight_worked v own wrote)
    falls off =
        let f = goes_no_more v.side.spawner own due on off in
        let text = due_text (work_of v.side.spawner).row (work_of v.side.spawner) in
        let W = rests_posted now v.side.spawner on now_posted in
        let unsaid = (f.fell.told wrote v.told).0 in
        let show = sym f.shows in
        record {
          tasks = h.tasks;
          last = h.last;
          done = h.done;
          slots = h.slots;
          heard = h.heard;
          told = h.told ++ text;
          missing = h.missing;
          unsaid = unsaid;
          posted = subst (λ (z : Spawner). Posted (post_held z (asked_by own.due own.came v.asked ++ h.missing) h.slots h.heard (h.told ++ text) h.tasks h.last h.done)) show
              (subst (λ (a : List ℕ). Posted (post_held (rested v.side.spawner) (a ++ h.missing) h.slots h.heard (h.told ++ text) h.tasks h.last h.done)) (sym (f.fell.asked v.asked)) W);
          out = h.out;
          tied = subst (λ (z : Spawner). IsTied (work_of z) h.slots started) show
              (λ goes slot t run there. subst (λ (g : ℕ → Option Request). IsAskedFor (g slot) t) (sym (f.fell.started (work_of v.side.spawner).request v.side.started))
              (now_tied on slot t (ap (λ (l : List Bool). runs_in l slot) (sym (rested_runs v.side.spawner)) ∙ run) there));
          real = λ sending. let r = h.real sending in
              record {
                slots_is = r.slots_is;
                heard_is = r.heard_is;
                told_is = ap (λ (t : List ℕ). t ++ text) (told_so h.unsaid (r.said on) r.told_is) ∙ (f.fell.told wrote v.told).1;
                whole = r.whole;
                said = λ goes. let both : true ≡ false = sym goes ∙ off in absurd (cc);
              };
          first = h.first;
        }

    moves_if : (b : Bool) → goes_at true (work_of (works_on v.side.spawner own)).row ≡ b → Held c (sight_worked v own wrote)
    moves_if true still = goes_on still
    moves_if false off = falls off

  -- it went no more
  stays : goes_at true (work_of v.side.spawner).row ≡ false → Held c (sight_worked v own wrote)
  stays off =
      let t = stays_so v.side.spawner own due may off in
      let same_shown : work_of (shown (works_on v.side.spawner own)) ≡ work_of (shown v.side.spawner) =
      work_shown (works_on v.side.spawner own) ∙ ap (λ (w : Place). rests_if w.row w) t.work ∙ sym (work_shown v.side.spawner) in
      record {
        tasks = h.tasks;
        last = h.last;
        done = h.done;
        slots = h.slots;
        heard = h.heard;
        told = h.told;
        missing = h.missing;
        unsaid = h.unsaid;
        posted = subst (λ (a : List ℕ). Posted (post_held (shown (works_on v.side.spawner own)) (a ++ h.missing) h.slots h.heard h.told h.tasks h.last h.done)) (sym (t.asked v.asked))
            (t.posted (post_held (shown v.side.spawner) (v.asked ++ h.missing) h.slots h.heard h.told h.tasks h.last h.done) h.posted);
        out = h.out;
        tied = λ goes slot k run there.
            subst (λ (g : ℕ → Option Request). IsAskedFor (g slot) k) (sym (t.started (work_of v.side.spawner).request v.side.started))
            (subst (λ (w : Place). IsTied w h.slots v.side.started) (sym same_shown) h.tied goes slot k run there);
        real = λ sending. let r = h.real sending in
            record {
              slots_is = r.slots_is;
              heard_is = r.heard_is;
              told_is = r.told_is ∙ ap (λ (l : List ℕ). l ++ h.unsaid) (sym (t.told wrote v.told));
              whole = r.whole;
              said = λ goes. let both : true ≡ false = sym (ap (λ (w : Place). goes_at true w.row) (sym t.work) ∙ goes) ∙ off in absurd (cc);
            };
        first = h.first;
      }

  works_if : (b : Bool) → goes_at true (work_of v.side.spawner).row ≡ b → Held c (sight_worked v own wrote)
  works_if true on = moves_if on (goes_at true (work_of (works_on v.side.spawner own)).row) refl
  works_if false off = stays off

  works_so : Held c (sight_worked v own wrote)
  works_so = works_if (goes_at true (work_of v.side.spawner).row) refl

pub works : (c : Channel) (v : Sight) → Stands c v → (own : Own) (wrote : ℕ) (name : List ℕ) → own.due ≡ due_of v.side.spawner own.ready → MayCome own.due own.came
    → (own.due ≡ needs.Take port.Input → IsOffered v.asked own.came) → Stands c (sight_worked v own wrote)
works c v S own wrote name due may offered serves = works_so c v (S serves) own wrote name due may offered

-- An event of the sender

abbrev pub sight_sent : Channel → Sight → Own → ℕ → Sight
sight_sent c v own wrote = record v { desk = moved v.desk own; told = told_on c own.due own.came v.told; asked = asked_on c own.due own.came wrote v.asked }

late_heard_in : (row : StartRow) (c : Channel) (reader : Reader) → is_early row ≡ false → heard_at (at.Start row) c reader ≡ Some reader
late_heard_in (start.Control f reading) c reader late = absurd (cc)
late_heard_in start.GreetLocal c reader late = absurd (cc)
late_heard_in (start.GreetRemote limit) c reader late = absurd (cc)
late_heard_in row c reader late = refl

late_heard : (row : Row) (c : Channel) (reader : Reader) → IsLate row → heard_at row c reader ≡ Some reader
late_heard (at.Start row) c reader late = late_heard_in row c reader late
late_heard row c reader late = refl

-- a taking leaves what is unsaid
took_more : (c : Channel) (due : NeedData) (got : GotData) (told more : List ℕ) → (due ≡ needs.Take (port_of c) → IsSome got told) → told_on c due got (told ++ more) ≡ told_on c due got told ++ more
took_more channel.Local (needs.Take port.Lspawn) (came.Took bytes) told more some =
    let o = (some refl).1 in
    let whole : drop (length bytes) (told ++ more) ≡ o.0 ++ more =
    ap (λ (l : List ℕ). drop (length bytes) (l ++ more)) o.1 ∙ ap (drop (length bytes)) (append_assoc bytes o.0 more) ∙ drop_past bytes (o.0 ++ more) in
    whole ∙ ap (λ (l : List ℕ). l ++ more) (sym (ap (drop (length bytes)) o.1 ∙ drop_past bytes o.0))
took_more channel.Remote (needs.Take port.Rspawn) (came.Took bytes) told more some =
    let o = (some refl).1 in
    let whole : drop (length bytes) (told ++ more) ≡ o.0 ++ more =
    ap (λ (l : List ℕ). drop (length bytes) (l ++ more)) o.1 ∙ ap (drop (length bytes)) (append_assoc bytes o.0 more) ∙ drop_past bytes (o.0 ++ more) in
    whole ∙ ap (λ (l : List ℕ). l ++ more) (sym (ap (drop (length bytes)) o.1 ∙ drop_past bytes o.0))
took_more c due got told more some = refl

some_more : (got : GotData) (told more : List ℕ) → IsSome got told → IsSome got (told ++ more)
some_more (came.Took bytes) told more o = (o.0, (o.1.0 ++ more, ap (λ (l : List ℕ). l ++ more) o.1.1 ∙ append_assoc bytes o.1.0 more))
some_more got told more o = tt

module _ (c : Channel) (v : Sight) (h : Held c v) (own : Own) (wrote : ℕ) (sends : v.sends ≡ true) (due : own.due ≡ due_at (row_now v.desk own.read own.ready) v.desk) (may : MayCome own.due own.came)
    (takes : own.due ≡ needs.Take (port_of c) → IsSome own.came v.told) (gives : (text : List ℕ) → own.due ≡ needs.Give (port_of c) text → AsksFor c v.desk text) where
  abbrev slots : List (Option Attempt)
  slots = (lane c v.desk.slots).slots

  abbrev holds : Option Reader
  holds = heard_at v.desk.row c (link c v.desk).reader

  row_on : is_on v.desk.row ≡ true
  row_on = on_before v.desk own due may

  on : is_sending v ≡ true
  on = ap (λ (b : Bool). b && is_on v.desk.row) sends ∙ row_on

  R : IsReal c v h.slots h.heard h.told h.missing h.unsaid
  R = h.real on

  -- as the post's law has it
  abbrev post : Post
  post = post_held (shown v.side.spawner) v.asked slots holds (v.told ++ h.unsaid) h.tasks h.last h.done

  posted : Posted (post_held (shown v.side.spawner) v.asked (lane c v.desk.slots).slots (heard_at v.desk.row c (link c v.desk).reader) (v.told ++ h.unsaid) h.tasks h.last h.done)
  posted =
      let asks : v.asked ++ h.missing ≡ v.asked = ap (λ (l : List ℕ). v.asked ++ l) R.whole ∙ append-nil v.asked in
      let same : post_held (shown v.side.spawner) (v.asked ++ h.missing) h.slots h.heard h.told h.tasks h.last h.done ≡ post =
      λ i. post_held (shown v.side.spawner) (asks i) (R.slots_is i) (R.heard_is i) (R.told_is i) h.tasks h.last h.done in
      subst Posted same h.posted

  alive : post_held (shown v.side.spawner) v.asked (lane c v.desk.slots).slots (heard_at v.desk.row c (link c v.desk).reader) (v.told ++ h.unsaid) h.tasks h.last h.done
      ≡ record (post_held (shown v.side.spawner) v.asked (lane c v.desk.slots).slots (heard_at v.desk.row c (link c v.desk).reader) (v.told ++ h.unsaid) h.tasks h.last h.done)
      { lives = is_on v.desk.row }
  alive = λ i. record post { lives = sym row_on i }

  tied : IsTied (work_of (shown v.side.spawner)) (lane c v.desk.slots).slots v.side.started
  tied = subst (λ (l : List (Option Attempt)). IsTied (work_of (shown v.side.spawner)) l v.side.started) R.slots_is h.tied

  sent : Sends c v.desk own wrote (post_held (shown v.side.spawner) v.asked (lane c v.desk.slots).slots (heard_at v.desk.row c (link c v.desk).reader) (v.told ++ h.unsaid) h.tasks h.last h.done)
  sent = senders_keep.goes_on c v.desk own wrote post (subst Posted alive posted) h.first (record {
    due = due;
    may = may;
    late = stays_late v.desk.row v.desk own;
    takes = λ e. some_more own.came v.told h.unsaid (takes e);
    gives = gives;
  })

  -- nothing runs in a free slot
  idle : (low : ℕ) → lowest (lane c v.desk.slots).slots ≡ Some low → goes_at true (work_of (shown v.side.spawner)).row ≡ true → runs_in (work_of (shown v.side.spawner)).running low ≡ true → ⊥
  idle low free goes run =
      runs_not_free (work_of (shown v.side.spawner)) post refl goes posted.fares low run (lowest_is_free (lane c v.desk.slots).slots low free)

  tied_by : Change c v.desk (moved v.desk own) own.due own.came → is_on (moved v.desk own).row ≡ true → IsTied (work_of (shown v.side.spawner)) (lane c (moved v.desk own).slots).slots v.side.started
  tied_by (Still same asked) still goes slot t run there = tied goes slot t run (sym (same slot) ∙ there)
  tied_by (Freed goes_on fewer) still goes slot t run there = tied goes slot t run (fewer slot t there)
  tied_by (Asked goes_on low free others) still goes slot t run there = ⊎_elim
      (λ (e : slot ≡ low). absurd (idle low free goes (ap (runs_in (work_of (shown v.side.spawner)).running) (sym e) ∙ run)))
      (λ (apart : slot ≢ low). tied goes slot t run (sym (others slot apart) ∙ there))
      (cases_eq slot low)
  tied_by (Cut off text is failed same) still goes slot t run there = let both : true ≡ false = sym still ∙ off in absurd (cc)

  change : Change c v.desk (moved v.desk own) own.due own.came
  change = changes c v.desk own due may h.first gives

  -- it lives on
  lives_on : is_on (moved v.desk own).row ≡ true → Held c (sight_sent c v own wrote)
  lives_on still =
      let then_slots = (lane c (moved v.desk own).slots).slots in
      let then_holds = heard_at (moved v.desk own).row c (link c (moved v.desk own)).reader in
      let asks = asked_on c own.due own.came wrote v.asked in
      let told = told_on c own.due own.came v.told ++ h.unsaid in
      let told_same : told_on c own.due own.came (v.told ++ h.unsaid) ≡ told = took_more c own.due own.came v.told h.unsaid takes in
      let same : record (post_held (shown v.side.spawner) asks then_slots then_holds (told_on c own.due own.came (v.told ++ h.unsaid)) h.tasks sent.last h.done)
      { lives = is_on (moved v.desk own).row }
      ≡ post_held (shown v.side.spawner) (asks ++ []) then_slots then_holds told h.tasks sent.last h.done =
      λ i. record (post_held (shown v.side.spawner) (sym (append-nil asks) i) then_slots then_holds (told_same i) h.tasks sent.last h.done) { lives = still i } in
      record {
        tasks = h.tasks;
        last = sent.last;
        done = h.done;
        slots = then_slots;
        heard = then_holds;
        told = told;
        missing = [];
        unsaid = h.unsaid;
        posted = subst Posted same sent.keeps;
        out = λ slot t is. inl (slot, is);
        tied = tied_by change still;
        real = λ sending. record { slots_is = refl; heard_is = refl; told_is = refl; whole = refl; said = R.said };
        first = sent.first;
      }

  module _ (off : is_on (moved v.desk own).row ≡ false) where
    not_sending : is_sending (sight_sent c v own wrote) ≡ true → ⊥
    not_sending sending =
        let still : is_on (moved v.desk own).row ≡ true = ap (λ (b : Bool). b && is_on (moved v.desk own).row) (sym sends) ∙ sending in
        let both : true ≡ false = sym still ∙ off in
        absurd (cc)

    -- it is lost, and gave nothing
    quiet_left : ((slot : ℕ) → attempt_in (lane c (moved v.desk own).slots).slots slot ≡ attempt_in (lane c v.desk.slots).slots slot)
        → ((n : ℕ) (asked : List ℕ) → asked_on c own.due own.came n asked ≡ asked) → Held c (sight_sent c v own wrote)
    quiet_left same asked =
        let asks : v.asked ≡ asked_on c own.due own.came wrote v.asked ++ [] = sym (asked wrote v.asked) ∙ sym (append-nil (asked_on c own.due own.came wrote v.asked)) in
        record {
          tasks = h.tasks;
          last = h.last;
          done = h.done;
          slots = slots;
          heard = holds;
          told = v.told ++ h.unsaid;
          missing = [];
          unsaid = [];
          posted = subst (λ (a : List ℕ). Posted (post_held (shown v.side.spawner) a slots holds (v.told ++ h.unsaid) h.tasks h.last h.done)) asks posted;
          out = λ slot t is. inl (slot, same slot ∙ is);
          tied = tied;
          real = λ sending. absurd (not_sending sending);
          first = sent.first;
        }

    -- or it is lost in a giving: what is missing of the request is as if it was given
    module _ (text : List ℕ) (is : own.due ≡ needs.Give (port_of c) text) (failed : own.came ≡ came.Failed) (same : lane c (moved v.desk own).slots ≡ lane c v.desk.slots) where
      A : AsksFor c v.desk text
      A = gives text is

      abbrev r : Request
      r = request_for A.slot A.attempt.n A.sender A.attempt.address

      text_is : text ≡ request_text (request_for A.slot A.attempt.n A.sender A.attempt.address)
      text_is = A.is ∙ requests_are_plain.text A.slot A.attempt.n A.sender A.attempt.address

      given : Posted (asks_for A.attempt (request_for A.slot A.attempt.n A.sender A.attempt.address)
          (post_held (shown v.side.spawner) v.asked (lane c v.desk.slots).slots (heard_at v.desk.row c (link c v.desk).reader) (v.told ++ h.unsaid) h.tasks h.last h.done))
      given = asks_keep.whole (link c v.desk).reader A.attempt r post posted refl
          (late_heard v.desk.row c (link c v.desk).reader (gives_late v.desk own c text due is)) A.free
          (requests_are_plain.plain A.slot A.attempt.n A.sender A.attempt.address A.sender_plain A.address_plain) refl refl

      part_on : (k : Channel) (n : ℕ) (words asked : List ℕ) → asked_on k (needs.Give (port_of k) words) came.Failed n asked ≡ asked ++ take n words
      part_on channel.Local n words asked = refl
      part_on channel.Remote n words asked = refl

      asked_is : v.asked ++ request_text (request_for A.slot A.attempt.n A.sender A.attempt.address)
          ≡ asked_on c own.due own.came wrote v.asked ++ drop wrote (request_text (request_for A.slot A.attempt.n A.sender A.attempt.address))
      asked_is =
          let whole = request_text r in
          let part : asked_on c own.due own.came wrote v.asked ≡ v.asked ++ take wrote whole =
          (λ i. asked_on c (is i) (failed i) wrote v.asked) ∙ part_on c wrote text v.asked ∙ ap (λ (t : List ℕ). v.asked ++ take wrote t) text_is in
          ap (λ (t : List ℕ). v.asked ++ t) (sym (take-append-drop wrote whole)) ∙ sym (append_assoc v.asked (take wrote whole) (drop wrote whole))
          ∙ ap (λ (t : List ℕ). t ++ drop wrote whole) (sym part)

      least : IsLeastFree (lane c v.desk.slots).slots (Some A.slot)
      least = subst (IsLeastFree (lane c v.desk.slots).slots) A.free (lowest_is_least (lane c v.desk.slots).slots)

      abbrev filled : List (Option Attempt)
      filled = set slots A.slot (Some A.attempt)

      here : attempt_in (set (lane c v.desk.slots).slots A.slot (Some A.attempt)) A.slot ≡ Some A.attempt
      here = get_or-set_same slots A.slot (Some A.attempt) None least.0

      there : (slot : ℕ) → slot ≢ A.slot → attempt_in (set (lane c v.desk.slots).slots A.slot (Some A.attempt)) slot ≡ attempt_in (lane c v.desk.slots).slots slot
      there slot apart = get_or-set_other slots A.slot slot (Some A.attempt) None apart

      next_out : (slot : ℕ) (t : Attempt) → slot ≡ A.slot → attempt_in (set (lane c v.desk.slots).slots A.slot (Some A.attempt)) slot ≡ Some t → Contains (lane c (moved v.desk own).slots).left t
      next_out slot t e has =
          let both : Some A.attempt ≡ Some t = sym here ∙ ap (attempt_in filled) (sym e) ∙ has in
          let it : A.attempt ≡ t = cc in
          subst (λ (l : Lane). Contains l.left t) (sym same) (subst (Contains (lane c v.desk.slots).left) it (first_in (lane c v.desk.slots).left A.attempt A.next_is))

      cut_left : Held c (sight_sent c v own wrote)
      cut_left = record {
        tasks = h.tasks;
        last = put h.last A.slot (Some r);
        done = h.done;
        slots = filled;
        heard = holds;
        told = v.told ++ h.unsaid;
        missing = drop wrote (request_text r);
        unsaid = [];
        posted = subst (λ (a : List ℕ). Posted (post_held (shown v.side.spawner) a filled holds (v.told ++ h.unsaid) h.tasks (put h.last A.slot (Some r)) h.done)) asked_is given;
        out = λ slot t has. ⊎_elim
            (λ (e : slot ≡ A.slot). inr (next_out slot t e has))
            (λ (apart : slot ≢ A.slot). inl (slot, ap (λ (l : Lane). attempt_in l.slots slot) same ∙ sym (there slot apart) ∙ has))
            (cases_eq slot A.slot);
        tied = λ goes slot t run has. ⊎_elim
            (λ (e : slot ≡ A.slot). absurd (idle A.slot A.free goes (ap (runs_in (work_of (shown v.side.spawner)).running) (sym e) ∙ run)))
            (λ (apart : slot ≢ A.slot). tied goes slot t run (sym (there slot apart) ∙ has))
            (cases_eq slot A.slot);
        real = λ sending. absurd (not_sending sending);
        first = sent.first;
      }

    left_by : Change c v.desk (moved v.desk own) own.due own.came → Held c (sight_sent c v own wrote)
    left_by (Still same asked) = quiet_left same asked
    left_by (Freed goes_on fewer) = let both : true ≡ false = sym goes_on ∙ off in absurd (cc)
    left_by (Asked goes_on low free others) = let both : true ≡ false = sym goes_on ∙ off in absurd (cc)
    left_by (Cut lost_it text is failed same) = cut_left text is failed same

  sends_if : (b : Bool) → is_on (moved v.desk own).row ≡ b → Held c (sight_sent c v own wrote)
  sends_if true still = lives_on still
  sends_if false off = left_by off change

  sends_so : Held c (sight_sent c v own wrote)
  sends_so = sends_if (is_on (moved v.desk own).row) refl

pub sender_stands : (c : Channel) (v : Sight) → Stands c v → (own : Own) (wrote : ℕ) → v.sends ≡ true → own.due ≡ due_at (row_now v.desk own.read own.ready) v.desk → MayCome own.due own.came
    → (own.due ≡ needs.Take (port_of c) → IsSome own.came v.told) → ((text : List ℕ) → own.due ≡ needs.Give (port_of c) text → AsksFor c v.desk text) → Stands c (sight_sent c v own wrote)
sender_stands c v S own wrote sends due may takes gives serves = sends_so c v (S serves) own wrote sends due may takes gives
