-- One turn of a program with channels.
use Rattle.std.proofs.Common.{◌≡◌, ◌≢◌, ℕ, ◌≤◌, List, [], ◌∷◌, true, false, Option, Some, None, refl, sym, ap, ◌∙◌, subst, inl, inr, arith}
use Rattle.call_fs.specs.declared.calls.CallData.{CallData}
use Rattle.call_fs.specs.declared.past.ChildData.{ChildData}
use Rattle.call_fs.specs.declared.past.NeedData.{NeedData}
use Rattle.call_fs.specs.declared.past.NeedData.TheVariants as needs
use Rattle.call_fs.specs.declared.past.GotData.{GotData}
use Rattle.call_fs.specs.declared.past.Own.{Own}
use Rattle.call_fs.specs.declared.program.Ready.{Ready}
use Rattle.call_fs.specs.Disk.{Disk}
use Rattle.call_fs.specs.Past.{Table, IsRunBy, Makes, UsesHeld, held, kept_as}
use Rattle.call_fs.specs.Program.{IsKind, IsWithin, MayCome, due_of}
use Rattle.call_fs.specs.declared.calls.Call.{Call}
use Rattle.call_fs.specs.declared.program.Need.{Need}
use Rattle.call_fs.specs.declared.program.Need.TheVariants as lent
use Rattle.mail_bytes.specs.Moments.{IsMoment}
use Rattle.mail_bytes.specs.Told.{Meets, Records, Rose}
use Rattle.outside.specs.Children.{SpawnCall}
use Rattle.program_runner.specs.declared.served.Served.{Served}
use Rattle.program_runner.specs.Outside.{AreKept, Outside, Does, Looks}
use Rattle.program_runner.specs.Runs.{Change}
use Rattle.program_runner.specs.Lines.{LineState, HasToWait, Serves, ready_of}
use Rattle.program_runner.specs.Serving.{ByDone, IsGathered, IsPossible, IsServed, BringsSome, MayServe, PutsOut, Serving, SpawnerTold, Spawns, is_done}
use Rattle.program_runner.specs.Members.{Acts, Asks, Beside, Idles, IsCarried, IsNoEnd, LeadsToNone, Look, MayAct, Tends, Waits, uncounted}
use Rattle.program_runner.specs.Members.Step.{Acted, Looked}
use Rattle.program_runner.proofs.Deeds.{kept_none, kept_one}
use Rattle.program_runner.proofs.Serves.{asked_nothing}
use Rattle.program_runner.proofs.Turns.{due_at, stands_at, does_beside}

-- what is due uses what is held
pub uses_now : {A : Type 0} (next : A → Table) (before looked : A → List Own → Type 0) (disk : Option Disk) (present : ℕ) (found : Ready) (asked : NeedData)
    → (t : MayAct next before disk) → ((args : A) (past : List Own) → before args past → looked args past)
    → ((args : A) (past : List Own) → looked args past → asked ≡ next args past present found)
    → ((args : A) (past : List Own) (now : ℕ) (r : Ready) → IsRunBy (next args) past → UsesHeld (held past) (next args past now r))
    → UsesHeld (held t.past) asked
uses_now next before looked disk present found asked t looks says uses =
    subst (UsesHeld (held t.past)) (sym (says t.args t.past (looks t.args t.past t.is))) (uses t.args t.past present found t.run)

carried_now : {A : Type 0} (next : A → Table) (before looked : A → List Own → Type 0) (disk : Option Disk) (present : ℕ) (found : Ready) (asked : NeedData)
    → (t : MayAct next before disk) → ((args : A) (past : List Own) → before args past → looked args past)
    → ((args : A) (past : List Own) → looked args past → asked ≡ next args past present found) → IsCarried asked
carried_now next before looked disk present found asked t looks says = subst IsCarried (sym (says t.args t.past (looks t.args t.past t.is))) (t.carried present found)

may_serve : (n : Need) → IsCarried (due_of n) → ((c : Call) → n ≢ lent.File c) → ((s : ℕ) → n ≢ lent.Ended s) → MayServe (due_of n)
may_serve (lent.File c) carried file ended = absurd (file c refl)
may_serve (lent.Take p) carried file ended = tt
may_serve (lent.Give p bytes) carried file ended = tt
may_serve (lent.Start child) carried file ended = tt
may_serve (lent.Command bytes) carried file ended = absurd carried
may_serve lent.Wait carried file ended = tt
may_serve (lent.Ended status) carried file ended = absurd (ended status refl)

-- what is no end isn't
pub not_at_end : (n : Need) → ((s : ℕ) → n ≢ lent.Ended s) → IsNoEnd (due_of n)
not_at_end (lent.File c) other = tt
not_at_end (lent.Take p) other = tt
not_at_end (lent.Give p bytes) other = tt
not_at_end (lent.Start child) other = tt
not_at_end (lent.Command bytes) other = tt
not_at_end lent.Wait other = tt
not_at_end (lent.Ended status) other = absurd (other status refl)

-- what is due may be served
pub served_now_by : {A : Type 0} (next : A → Table) (before looked : A → List Own → Type 0) (disk : Option Disk) (present : ℕ) (found : Ready) (n : Need)
    → (t : MayAct next before disk) → ((args : A) (past : List Own) → before args past → looked args past)
    → ((args : A) (past : List Own) → looked args past → due_of n ≡ next args past present found)
    → ((c : Call) → n ≢ lent.File c) → ((s : ℕ) → n ≢ lent.Ended s) → MayServe (due_of n)
served_now_by next before looked disk present found n t looks says file ended =
    may_serve n (carried_now next before looked disk present found (due_of n) t looks says) file ended

pub kind_served : (due : NeedData) (came : GotData) → MayServe due → MayCome due came → IsKind due came
kind_served (needs.Take p) came may h = h
kind_served (needs.Give p bytes) came may h = h
kind_served (needs.Start child) came may h = h
kind_served needs.Wait came may h = h
kind_served (needs.File call) came may h = absurd may
kind_served (needs.Command bytes) came may h = absurd may
kind_served (needs.Ended status) came may h = absurd may

-- What it did outside

rests : (due : NeedData) (came : GotData) → MayServe due → (read : ℕ) → ((d : Disk) → Makes d read due came d) × (kept_as due came ≡ []) × ((c : CallData) → due ≢ needs.File c)
rests (needs.Take p) came may read = (λ d. refl, refl, λ c is. cc)
rests (needs.Give p bytes) came may read = (λ d. refl, refl, λ c is. cc)
rests (needs.Start child) came may read = (λ d. refl, refl, λ c is. cc)
rests needs.Wait came may read = (λ d. refl, refl, λ c is. cc)
rests (needs.File call) came may read = absurd may
rests (needs.Command bytes) came may read = absurd may
rests (needs.Ended status) came may read = absurd may

stays_uncounted : Rose uncounted uncounted
stays_uncounted = omega arith

pub does_served : (old new : Outside) (read : ℕ) (ready : Ready) → IsMoment read → old.last ≤ read → new.last ≡ read → old.moments ≡ None → new.moments ≡ None
    → (due : NeedData) (came : GotData) → MayServe due → new.disk ≡ old.disk → new.calls ≡ old.calls → new.disk_faults ≡ old.disk_faults
    → old.left ≡ None → new.left ≡ None → old.input_faults ≡ uncounted → new.input_faults ≡ uncounted → PutsOut due came old.taken new.taken old.output_faults new.output_faults
    → Does (record { read = read; ready = ready; due = due; came = came }) old new
does_served old new read ready moment later last old_moments moments due came may disk calls faults old_left left old_input input put =
    does_beside old new read ready moment later last (subst (λ m. Records m new.moments read) (sym old_moments) (subst (λ m. Records None m read) (sym moments) tt)) due came (rests due came may read) disk calls faults
    (record { read = read; ready = ready; due = due; came = came }) refl
    (both_none _ old.left new.left old_left left)
    (subst (λ n. n ≤ new.input_faults) (sym old_input) (subst (λ n. uncounted ≤ n) (sym input) (omega arith)))
    (λ h. subst (λ n. Rose n new.input_faults) (sym old_input) (subst (λ n. Rose uncounted n) (sym input) stays_uncounted))
    put.taken put.counts (λ h. put.cause h.bytes h.due h.came) where
      both_none : (P : List ℕ → List ℕ → Type 0) (a b : Option (List ℕ)) → a ≡ None → b ≡ None → Meets a b P
      both_none P None None is was = tt
      both_none P (Some x) b is was = absurd (cc)
      both_none P None (Some y) is was = absurd (cc)

-- It has to wait

leads_to_none : (due : NeedData) (l : LineState) → HasToWait due l → LeadsToNone due l
leads_to_none needs.Wait l h = tt
leads_to_none (needs.Take p) l h = h
leads_to_none (needs.File call) l h = absurd h
leads_to_none (needs.Give p bytes) l h = absurd h
leads_to_none (needs.Start child) l h = absurd h
leads_to_none (needs.Command bytes) l h = absurd h
leads_to_none (needs.Ended status) l h = absurd h

no_end : (due : NeedData) (l : LineState) → HasToWait due l → IsNoEnd due
no_end needs.Wait l h = tt
no_end (needs.Take p) l h = tt
no_end (needs.File call) l h = tt
no_end (needs.Give p bytes) l h = tt
no_end (needs.Start child) l h = tt
no_end (needs.Command bytes) l h = tt
no_end (needs.Ended status) l h = absurd h

-- What it did beside

module _ (words : ChildData → List (List ℕ)) (old new : Beside) (mid : LineState) (g : IsGathered old.lines mid true old.posts new.posts) where
  tends_act : (event : Own) (calls : List SpawnCall) → event.ready ≡ ready_of mid → Records old.moments new.moments event.read → Spawns calls old.spawner new.spawner
      → Serves words event.due event.came calls mid new.lines → Tends words (Acted g.asked event calls) old new
  tends_act event calls ready moments spawner serves = record {
    posts = g.answers;
    gathered = mid;
    gathers = g.kept refl;
    none = g.none refl;
    ready = ready;
    moments = moments;
    spawner = spawner;
    moves = serves;
  }

  tends_look : (read : ℕ) (ready : Ready) (due : NeedData) → ready ≡ ready_of mid → Records old.moments new.moments read → new.spawner ≡ old.spawner
      → LeadsToNone due mid → new.lines ≡ mid → Tends words (Looked g.asked read ready due) old new
  tends_look read ready due is moments spawner none lines = record {
    posts = g.answers;
    gathered = mid;
    gathers = g.kept refl;
    none = g.none refl;
    ready = is;
    moments = moments;
    spawner = subst (λ s. Spawns [] old.spawner s) (sym spawner) (asked_nothing old.spawner);
    moves = (none, lines);
  }

  -- a machine that looked
  module _ {A : Type 0} (next : A → Table) (before looked : A → List Own → Type 0) (present now : ℕ) (found ready : Ready) (held asked : NeedData)
      (looks : (args : A) (past : List Own) → before args past → looked args past) (present_is : present ≡ now) (found_is : found ≡ ready) (asked_is : asked ≡ held)
      (says : (args : A) (past : List Own) → looked args past → asked ≡ next args past present found)
      (is_ready : ready ≡ ready_of mid) (moments : Records old.moments new.moments now) where
    -- an event, after which it stands for this
    pub acts : (after : A → List Own → Type 0) (came : GotData) (done : (args : A) (past : List Own) → looked args past → after args (record { read = present; ready = found; due = held; came = came } ∷ past))
        (change : Change) (o n : Outside) (calls : List SpawnCall) (due : NeedData) → change now ready came → asked ≡ due → MayCome due came
        → Does (record { read = now; ready = ready; due = due; came = came }) o n → Spawns calls old.spawner new.spawner → Serves words due came calls mid new.lines
        → (room : ℕ) → BringsSome room came → Acts next words room before after change o n old new
    acts after came done change o n calls due changed is may does spawns serves room some = record {
      ready = ready;
      on = record {
        event = record { read = now; ready = ready; due = due; came = came };
        found = refl;
        due = λ args past b. due_at next before looked after present now found ready held asked came looks present_is found_is asked_is says done args past b ∙ is;
        stands = λ args past b. subst (λ (d : NeedData). after args (record { read = now; ready = ready; due = d; came = came } ∷ past)) is
            (stands_at next before looked after present now found ready held asked came looks present_is found_is asked_is says done args past b);
        came = may;
        changed = changed;
        does = does;
      };
      some = some;
      asked = g.asked;
      calls = calls;
      tends = tends_act (record { read = now; ready = ready; due = due; came = came }) calls is_ready moments spawns serves;
    }

    due_by : (args : A) (past : List Own) → looked args past → next args past now ready ≡ asked
    due_by args past l = sym (says args past l ∙ ap (λ (n : ℕ). next args past n found) present_is ∙ ap (λ (r : Ready). next args past now r) found_is)

    -- a look and nothing else
    pub idles : (due : NeedData) (o n : Outside) → asked ≡ due → Looks now o n → new.spawner ≡ old.spawner → LeadsToNone due mid → new.lines ≡ mid → Idles next words before due o n old new
    idles due o n is outside spawner none lines = record {
      asked = g.asked;
      read = now;
      ready = ready;
      says = λ args past b. due_by args past (looks args past b) ∙ is;
      looks = outside;
      tends = tends_look now ready due is_ready moments spawner none lines;
    }

    pub waits : (look : Look) → look now ready → (due : NeedData) (o n : Outside) → asked ≡ due → Looks now o n → new.spawner ≡ old.spawner → HasToWait due mid → new.lines ≡ mid
        → Waits next words before looked look o n old new
    unfolding idles
    waits look became due o n is outside spawner quiet lines =
        record { due = due; on = no_end due mid quiet; idles = idles due o n is outside spawner (leads_to_none due mid quiet) lines; stands = looks; became = became }

    -- it ran out of memory after its look
    pub asks_all : (due : NeedData) (o n : Outside) → asked ≡ due → IsNoEnd due → o.last ≤ now → n.last ≡ now
        → n ≡ record o { last = n.last; taken = n.taken; output_faults = n.output_faults } → n.taken ≡ o.taken → n.output_faults ≡ o.output_faults → new.spawner ≡ old.spawner → Asks next before o n old new
    asks_all due o n is on later last rest taken faults spawner = record {
      asked = g.asked;
      posts = g.answers;
      read = now ∷ [];
      moments = kept_one old.moments new.moments now moments;
      on = inr (
        now,
        refl,
        record {
          gathered = mid;
          gathers = g.kept refl;
          ready = ready;
          is_ready = is_ready;
          due = due;
          on = on;
          says = λ args past b. due_by args past (looks args past b) ∙ is;
        },
      );
      later = subst (λ k. o.last ≤ k) (sym last) later;
      rest = rest ∙ ap (λ (t : Option (List ℕ)). record o { last = n.last; taken = t; output_faults = n.output_faults }) taken
          ∙ ap (λ (f : ℕ). record o { last = n.last; output_faults = f }) faults;
      spawner = spawner;
    }

-- a look at the clock
pub looks_so : (old new : Outside) (read : ℕ) → IsMoment read → old.last ≤ read → Records old.moments new.moments read → new.last ≡ read
    → new ≡ record old { moments = new.moments; last = new.last } → Looks read old new
looks_so old new read moment later moments last same = record {
  moment = moment;
  later = later;
  moments = moments;
  rest = same ∙ ap (λ (n : ℕ). record old { moments = new.moments; last = n }) last;
}

-- a turn that ran out of memory at its posts
pub asks_posts : {A : Type 0} (next : A → Table) (before : A → List Own → Type 0) (o : Outside) (old new : Beside) (mid : LineState) → IsGathered old.lines mid false old.posts new.posts → new.moments ≡ old.moments → new.spawner ≡ old.spawner → Asks next before o o old new
asks_posts next before o old new mid g moments spawner = record {
  asked = g.asked;
  posts = g.answers;
  read = [];
  moments = subst (λ m. AreKept old.moments m []) (sym moments) (kept_none old.moments);
  on = inl refl;
  later = omega arith;
  rest = refl;
  spawner = spawner;
}

pub same_spawner : (a b : SpawnerTold) → a.children ≡ b.children → a.calls ≡ b.calls → a.faults ≡ b.faults → a ≡ b
same_spawner a b children calls faults =
    ap (λ (c : List ℕ). record a { children = c }) children ∙ ap (λ (c : Option (List SpawnCall)). record a { children = b.children; calls = c }) calls
    ∙ ap (λ (n : ℕ). record a { children = b.children; calls = b.calls; faults = n }) faults

-- a look and nothing given
pub looks_quiet : (old new : Outside) (read : ℕ) → IsMoment read → old.last ≤ read → Records old.moments new.moments read → new.last ≡ read
    → new ≡ record old { moments = new.moments; last = new.last; taken = new.taken; output_faults = new.output_faults } → new.taken ≡ old.taken → new.output_faults ≡ old.output_faults
    → Looks read old new
looks_quiet old new read moment later moments last rest taken faults =
    looks_so old new read moment later moments last
    (rest ∙ ap (λ (t : Option (List ℕ)). record old { moments = new.moments; last = new.last; taken = t; output_faults = new.output_faults }) taken
    ∙ ap (λ (f : ℕ). record old { moments = new.moments; last = new.last; output_faults = f }) faults)

-- What was served

module _ (words : ChildData → List (List ℕ)) (due : NeedData) (most : ℕ) (served : Served) (came : GotData) (l m : LineState) (old new : SpawnerTold) where
  pub served_now : is_done served ≡ true → IsServed (Serves words) due served came l m old new → Serving (λ calls. Serves words due came calls l m) old new
  served_now is s = subst (λ b. ByDone b (HasToWait due l × (m ≡ l) × (new ≡ old)) (Serving (λ calls. Serves words due came calls l m) old new)) is s

  pub possible_now : is_done served ≡ true → IsPossible due most served came → MayCome due came
  possible_now is p = (subst (λ b. ByDone b (Unit {0}) (MayCome due came × IsWithin most came × BringsSome most came)) is p).0

  pub some_now : is_done served ≡ true → IsPossible due most served came → (room : ℕ) → most ≡ room → BringsSome room came
  some_now is p room same = subst (λ (n : ℕ). BringsSome n came) same (subst (λ b. ByDone b (Unit {0}) (MayCome due came × IsWithin most came × BringsSome most came)) is p).2

  pub not_yet : is_done served ≡ false → IsServed (Serves words) due served came l m old new → HasToWait due l × (m ≡ l) × (new ≡ old)
  not_yet is s = subst (λ b. ByDone b (HasToWait due l × (m ≡ l) × (new ≡ old)) (Serving (λ calls. Serves words due came calls l m) old new)) is s
