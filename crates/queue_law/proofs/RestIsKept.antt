-- A number at work rests on, whatever other programs do.
use Rattle.std.proofs.Common.{◌≡◌, ◌≢◌, ◌⊎◌, inl, inr, ℕ, ◌≤◌, List, Option, Some, None, refl, sym, ap, ◌∙◌, ⊎_elim}
use Rattle.call_fs.specs.Survival.{AllSurvive}
use Rattle.queue_clean.specs.declared.command.Command.{Command}
use Rattle.queue_clean.specs.declared.command.Command.TheVariants as command
use Rattle.queue_clean.specs.declared.row.Row.{Row}
use Rattle.queue_clean.specs.declared.row.Row.TheVariants as at
use Rattle.queue_clean.specs.Commands.{message_of}
use Rattle.queue_clean.specs.Table.{Place, pid_path}
use Rattle.queue_paths.specs.Names.{Name, Part, parse}
use Rattle.queue_paths.specs.Names.Name.{Pid, Of}
use Rattle.queue_paths.specs.Names.Part.{Mess, Info, Bounce}
use Rattle.queue_law.specs.Numbers.{Entry, Queue, look, NamesSuit, about, IsQueued}
use Rattle.queue_law.specs.Numbers.Role.{AsOld}
use Rattle.queue_law.specs.Routes.{lane_part}
use Rattle.queue_law.specs.Ready.{HasSynced, IsMade}
use Rattle.queue_law.specs.Ready.IsMade.{NotNeeded, IsThere}
use Rattle.queue_law.specs.Rests.{IsAccepted, IsClosed, IsOldName, IsJudged, Spares, SparesNames}
use Rattle.queue_law.specs.Steps.{Elsewhere, Foreign, after_halt}
use Rattle.queue_law.specs.Cleaners.{number_at, Needs, Rests, waiting, StandsAt, CleanerStands, IsBeside, RestIsKept}
use Rattle.queue_law.proofs.Frame.{about_same}
use Rattle.queue_law.proofs.Foreigners.{foreign_elsewhere}
use Rattle.queue_law.proofs.Halts.{after_file, after_moment, after_number, still_absent, still_there, still_synced, still_no_intd, still_no_todo, still_in_todo, still_todo_synced}
use Rattle.queue_law.proofs.Rests.{closed_later, closed_far, judged_far}
use Rattle.queue_law.proofs.Cleaners.{stands_frame}

rest_later : (now m : ℕ) → now ≤ m → (q : Queue) (p : Place) → CleanerStands now q p → CleanerStands m q p
rest_later now m later q p h =
    stands_frame now m q q p.row p (λ n _ c. (closed_later now m later q n c, refl)) (λ x moment j. j) h

rest_spared : (now : ℕ) (m : Option ℕ) (q r : Queue) → Spares now m q r → SparesNames q r → (p : Place) → IsBeside m p
    → CleanerStands now q p → CleanerStands now r p
rest_spared now m q r S names p beside h = stands_frame now now q r p.row p keep names h
  where
    far : (n : ℕ) → (number_at p.row ≡ Some n) ⊎ (number_at (waiting p) ≡ Some n) → m ≢ Some n
    far n at is = ⊎_elim (λ here. (beside n is).0 here) (λ there. (beside n is).1 there) at

    keep : (n : ℕ) → (number_at p.row ≡ Some n) ⊎ (number_at (waiting p) ≡ Some n) → IsClosed now q n → IsClosed now r n × (about r n ≡ about q n)
    keep n at c = (S.closed n (far n at) c, S.abouts n (far n at) c)

-- a step that concerns a closed number
spares_closed : (now : ℕ) (a : List ℕ) (m : Option ℕ) (q r : Queue) → Elsewhere now a m q r → NamesSuit q
    → ((n : ℕ) → m ≡ Some n → IsClosed now q n) → Spares now m q r × SparesNames q r
spares_closed now a m q r E S closed = (
  record { closed = λ n far c. closed_far now a m q r E S n far c; abouts = λ n far _. about_same now a m q r E n far },
  judged_far now a m q r E S not_old,
)
  where
    not_old : (n : ℕ) → m ≡ Some n → (x : Name) (y : Entry) → look q x ≡ Some y → q.role y.number ≡ AsOld → y.number ≢ n
    not_old n is x y there old same =
        let c = closed n is in
        let made = (S (Of Mess n) c.mess c.there).0 in
        let mine = made.1.2 in
        let number : y.number ≡ c.mess.number = same ∙ sym made.0 in
        let role = ap q.role number in
        absurd (cc)

spares_foreign : (now : ℕ) (a : List ℕ) (q r : Queue) → Foreign a q r → NamesSuit q → Spares now None q r × SparesNames q r
spares_foreign now a q r F S = spares_closed now a None q r (foreign_elsewhere a q r F now) S (λ n is. absurd (cc))

-- a machine stop
module _ (q : Queue) (contents : ℕ → List ℕ) (survives : AllSurvive q.disk contents) where
  closed_halt : (now n : ℕ) → IsClosed now q n → IsClosed now (after_halt contents q) n
  closed_halt now n c = record {
    mess = after_file q contents survives c.mess;
    there = still_there q contents survives (Of Mess n) c.mess c.there;
    shut = ⊎_elim
        (λ over. inl over)
        (λ (s : IsAccepted (about q n)). inr (record { injection = s.injection; lives = s.lives; accepted = s.accepted }))
        c.shut;
  }

  synced_halt : (n : ℕ) (part : Part) (text : List ℕ) → HasSynced (about q n) part text → HasSynced (about (after_halt contents q) n) part text
  synced_halt n part text h = record {
    file = after_file q contents survives h.file;
    there = still_there q contents survives (Of part n) h.file h.there;
    synced = still_synced q contents survives (Of part n) h.file text h.there h.synced;
  }

  made_halt : (n : ℕ) (part : Part) (text : List ℕ) → IsMade (about q n) part text → IsMade (about (after_halt contents q) n) part text
  made_halt n part text (NotNeeded none absent) = NotNeeded none (still_absent q contents survives (Of part n) absent)
  made_halt n part text (IsThere h) = IsThere (synced_halt n part text h)

  abbrev queued_halt : (n : ℕ) → IsQueued (about q n) → IsQueued (about (after_halt contents q) n)
  queued_halt n h = record {
    taken = record {
      injection = h.taken.injection;
      lives = h.taken.lives;
      accepted = h.taken.accepted;
      mess = after_file q contents survives h.taken.mess;
      mess_there = still_there q contents survives (Of Mess n) h.taken.mess h.taken.mess_there;
      message = still_synced q contents survives (Of Mess n) h.taken.mess _ h.taken.mess_there h.taken.message;
      valid = h.taken.valid;
      spots = h.taken.spots;
    };
    todo = after_file q contents survives h.todo;
    todo_there = still_in_todo q contents survives n h.todo h.todo_there;
    text = still_todo_synced q contents survives n h.todo _ h.todo_there h.text;
    no_bounce = still_absent q contents survives (Of Bounce n) h.no_bounce;
    fresh = h.fresh;
  }

  needs_halt : (it : Command) (n : ℕ) → Needs it (about q n) → Needs it (about (after_halt contents q) n)
  needs_halt (command.Foop k) n h = record {
    unsorted = λ part later. still_absent q contents survives (Of part n) (h.unsorted part later);
    no_todo = still_no_todo q contents survives n h.no_todo;
  }
  needs_halt (command.Todo k) n h = record {
    queued = queued_halt n h.queued;
    no_nul = h.no_nul;
    made = record { info = synced_halt n Info _ h.made.info; lanes = λ ch. made_halt n (lane_part ch) _ (h.made.lanes ch) };
  }

  rests_halt : (now : ℕ) (row : Row) → Rests now q row → Rests now (after_halt contents q) row
  rests_halt now (at.UnlinkIntd it) h =
      record { closed = closed_halt now (message_of it) h.closed; rest = needs_halt it (message_of it) h.rest }
  rests_halt now (at.UnlinkSecond it) h = record {
    closed = closed_halt now (message_of it) h.closed;
    rest = (needs_halt it (message_of it) h.rest.0, still_no_intd q contents survives (message_of it) h.rest.1);
  }
  rests_halt now row h = tt

  judged_halt : (x : Option Name) (moment : ℕ) → IsJudged q x moment → IsJudged (after_halt contents q) x moment
  judged_halt (Some (Pid p s k)) moment h = ⊎_elim
      (λ start. inl start)
      (λ (old : IsOldName q (Pid p s k) moment). inr (record {
        file = after_file q contents survives old.file;
        there = still_there q contents survives (Pid p s k) old.file old.there;
        made = ap q.role (after_number q contents survives old.file) ∙ old.made;
        written = after_moment q contents survives old.file ∙ old.written;
      }))
      h
  judged_halt (Some (Of part n)) moment h = absurd h
  judged_halt None moment h = h

  stands_halt : (now : ℕ) (row : Row) (p : Place) → StandsAt now q row p → StandsAt now (after_halt contents q) row p
  stands_halt now at.FindPid p h = rests_halt now (waiting p) h
  stands_halt now at.StatPid p h = (rests_halt now (waiting p) h.0, h.1)
  stands_halt now (at.JudgePid moment) p h = (rests_halt now (waiting p) h.0, judged_halt (parse (pid_path p.name)) moment h.1, h.2)
  stands_halt now at.TakeInput p h = tt
  stands_halt now (at.UnlinkIntd it) p h = rests_halt now (at.UnlinkIntd it) h
  stands_halt now (at.UnlinkSecond it) p h = rests_halt now (at.UnlinkSecond it) h
  stands_halt now (at.Answer reply) p h = tt
  stands_halt now (at.Ended status) p h = tt

pub rest_is_kept : RestIsKept
rest_is_kept = record {
  later = rest_later;
  spared = rest_spared;
  closed = spares_closed;
  foreign = spares_foreign;
  halts = λ now q contents survives p. stands_halt q contents survives now p.row p;
}
