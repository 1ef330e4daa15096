-- What one more delivery that was done, and one more request that was given, leave.
use Rattle.std.proofs.Common.{◌≡◌, ◌≢◌, ◌⊎◌, inl, inr, ℕ, ◌+◌, ◌≤◌, List, [], ◌∷◌, take, cond, Bool, true, false, Option, Some, None, refl, sym, ap, ◌∙◌, subst, arith}
use Rattle.call_fs.specs.declared.past.GotData.{GotData}
use Rattle.call_fs.specs.declared.past.NeedData.{NeedData}
use Rattle.call_fs.specs.Maps.{put}
use Rattle.call_fs.proofs.Maps.{put_other}
use Rattle.send_jobs.specs.declared.attempts.Attempt.{Attempt}
use Rattle.send_known.specs.declared.channel.Channel.{Channel}
use Rattle.send_known.specs.declared.channel.Channel.TheVariants as channel
use Rattle.spawn_protocol.specs.declared.report.Report.{Report}
use Rattle.spawn_protocol.specs.declared.request.Request.{Request}
use Rattle.spawn_protocol.specs.Report.{Reader}
use Rattle.spawner_parts.specs.declared.place.Place.{Place}
use Rattle.spawner_parts.specs.declared.row.Row.{Row}
use Rattle.spawner_parts.specs.declared.row.Row.TheVariants as at
use Rattle.spawner_parts.specs.Asked.{runs_in}
use Rattle.spawner_parts.specs.Counts.{asked, one, runs, times}
use Rattle.spawner_parts.specs.Table.{greeting}
use Rattle.program_law.specs.Post.Posts.{AllTell, AreLast, At, Done, IsAtWork, IsDue, IsTaskFor, IsToldSo, Post, RunFor, Spawner, Task, Tells, WasDoneFor, asked_by, done_by, most, owed_at, tasks_by, told_by, told_of}
use Rattle.program_law.proofs.Post.Sums.{own_one}

-- An event of a spawner that stands so afterwards
abbrev pub after : Spawner → NeedData → GotData → ℕ → List ℕ → Post → Post
after s due came wrote name x = record x {
  spawner = s;
  asked = asked_by due came x.asked;
  told = told_by due came wrote x.told;
  tasks = tasks_by due came name x.tasks;
  done = done_by due came x.tasks x.done;
}

-- a spawner that lives, and a sender that does and that has heard
abbrev pub serving : Post → Post
serving x = record x { serves = true }

abbrev pub living : Reader → Post → Post
living reader x = record x { lives = true; heard = Some reader }

pub most_few : (lives : Bool) (heard : Option Reader) (flies : Option Attempt) → most lives heard flies ≤ 1
most_few false heard flies = omega arith
most_few true None flies = omega arith
most_few true (Some reader) None = omega arith
most_few true (Some reader) (Some a) = omega arith

-- One more delivery that was done

was_more : (d : Done) (done : List Done) (slot : ℕ) (o : Option Request) → WasDoneFor done slot o → WasDoneFor (d ∷ done) slot o
was_more d done slot None h = absurd h
was_more d done slot (Some r) h = record { it = h.it; among = inr h.among; slot_is = h.slot_is; sender = h.sender; recipient = h.recipient }

pub tells_more : (d : Done) (c : Channel) (done : List Done) (last : ℕ → Option Request) (r : Report) → Tells c done last r → Tells c (d ∷ done) last r
tells_more d channel.Local done last r h = λ is. was_more d done r.slot (last r.slot) (h is)
tells_more d channel.Remote done last r h = tt

pub all_tell_more : (d : Done) (c : Channel) (done : List Done) (last : ℕ → Option Request) (rs : List Report) → AllTell c done last rs → AllTell c (d ∷ done) last rs
all_tell_more d c done last [] h = tt
all_tell_more d c done last (r ∷ rs) h = (tells_more d c done last r h.0, all_tell_more d c done last rs h.1)

-- One more request, for a slot of which nothing is in hand

none_first : (a b : ℕ) → a + b ≤ 0 → a ≤ 0
none_first a b low = omega (arith, low)

none_then : (a b : ℕ) → a + b ≤ 0 → b ≤ 0
none_then a b low = omega (arith, low)

pub is_apart : (k slot : ℕ) → one k slot ≤ 0 → slot ≢ k
is_apart k slot low e = let v : one k slot ≡ 1 = own_one k slot (sym e) in clash (one k slot) low v
  where
    clash : (n : ℕ) → n ≤ 0 → n ≡ 1 → ⊥
    clash n a b = omega (arith, a, b)

module _ (last : ℕ → Option Request) (k : ℕ) (r : Request) where
  abbrev pub later : ℕ → Option Request
  later = put last k (Some r)

  pub later_is : (slot : ℕ) → slot ≢ k → later slot ≡ last slot
  later_is slot apart = put_other last k (Some r) slot apart

  pub lasts_put : (waits : List Request) → asked k waits ≤ 0 → AreLast last waits → AreLast (put last k (Some r)) waits
  lasts_put [] low h = tt
  lasts_put (w ∷ waits) low h =
      (later_is w.slot (is_apart k w.slot (none_first (one k w.slot) (asked k waits) low)) ∙ h.0, h.1, lasts_put waits (none_then (one k w.slot) (asked k waits) low) h.2)

  tells_put : (c : Channel) (done : List Done) (x : Report) → x.slot ≢ k → Tells c done last x → Tells c done (put last k (Some r)) x
  tells_put channel.Local done x apart h = λ is. subst (WasDoneFor done x.slot) (sym (later_is x.slot apart)) (h is)
  tells_put channel.Remote done x apart h = tt

  pub all_tell_put : (c : Channel) (done : List Done) (rs : List Report) → told_of k rs ≤ 0 → AllTell c done last rs → AllTell c done (put last k (Some r)) rs
  all_tell_put c done [] low h = tt
  all_tell_put c done (x ∷ rs) low h =
      (tells_put c done x (is_apart k x.slot (none_first (one k x.slot) (told_of k rs) low)) h.0, all_tell_put c done rs (none_then (one k x.slot) (told_of k rs) low) h.1)

  work_put : (q : Request) → one k q.slot + 0 ≤ 0 → IsAtWork last q → IsAtWork (put last k (Some r)) q
  work_put q low h = record { last_is = later_is q.slot (is_apart k q.slot (none_first (one k q.slot) 0 low)) ∙ h.last_is; has_host = h.has_host }

  due_put : (c : Channel) (done : List Done) (bytes : List ℕ) → times k (take 1 bytes) ≤ 0 → IsDue c done last bytes → IsDue c done (put last k (Some r)) bytes
  due_put c done bytes low h =
      let own : one k h.it.slot + 0 ≤ 0 = subst (λ (t : List ℕ). times k (take 1 t) ≤ 0) h.text low in
      record { it = h.it; text = h.text; is = h.is; tells = tells_put c done h.it (is_apart k h.it.slot (none_first (one k h.it.slot) 0 own)) h.tells }

  pub at_put : (c : Channel) (done : List Done) (row : Row) (p : Place) → times k (owed_at row p) ≤ 0 → At c done last row p → At c done (put last k (Some r)) row p
  at_put c done at.Greet p low h = tt
  at_put c done at.Idle p low h = tt
  at_put c done at.TakeInput p low h = h
  at_put c done at.OpenMess p low h = work_put p.request low h
  at_put c done (at.ReadMess fd) p low h = work_put p.request low h
  at_put c done (at.CloseMess fd whole) p low h = work_put p.request low h
  at_put c done at.Start p low h = work_put p.request low h
  at_put c done at.Feed p low h = tt
  at_put c done (at.TakeOutput slot) p low h = h
  at_put c done (at.TakeStatus slot) p low h = h
  at_put c done at.Report p low h = due_put c done p.report low h
  at_put c done (at.Ended code) p low h = tt

  runs_apart : (running : List Bool) (slot : ℕ) → runs k running ≤ 0 → runs_in running slot ≡ true → slot ≢ k
  runs_apart running slot low is e =
      let v : runs k running ≡ 1 = ap (λ s. runs s running) (sym e) ∙ ap (λ b. cond b 1 0) is in clash (runs k running) low v
    where
      clash : (n : ℕ) → n ≤ 0 → n ≡ 1 → ⊥
      clash n a b = omega (arith, a, b)

  pub run_put : (c : Channel) (running : List Bool) (tasks : ℕ → Option Task) → runs k running ≤ 0 → RunFor c running tasks last → RunFor c running tasks (put last k (Some r))
  run_put channel.Local running tasks low h = λ slot is. subst (IsTaskFor (tasks slot)) (sym (later_is slot (runs_apart running slot low is))) (h slot is)
  run_put channel.Remote running tasks low h = tt

-- The pipe to the sender, at another row

any_told : (on : Bool) (row : Row) (told : List ℕ) → IsToldSo None on row told → (told ≡ []) ⊎ (told ≡ greeting)
any_told on at.Greet told h = inl h
any_told on row told h = h

pub told_then : (on : Bool) (row : Row) (told : List ℕ) → row ≢ at.Greet → (told ≡ []) ⊎ (told ≡ greeting) → IsToldSo None on row told
told_then on at.Greet told apart h = absurd (apart refl)
told_then on row told apart h = h

-- of a spawner that has given its first byte
pub told_on : (heard : Option Reader) (on now : Bool) (old new : Row) (told : List ℕ) → new ≢ at.Greet → (now ≡ true → on ≡ true) → IsToldSo heard on old told
    → IsToldSo heard now new told
told_on None on now old new told apart goes h = told_then now new told apart (any_told on old told h)
told_on (Some reader) on now old new told apart goes h = λ is. (apart, (h (goes is)).1)

-- or that goes no more
pub told_off : (heard : Option Reader) (on : Bool) (row : Row) (told : List ℕ) → IsToldSo heard on row told → IsToldSo heard false row told
told_off None on at.Greet told h = h
told_off None on row told h = h
told_off (Some reader) on row told h = λ is. absurd (cc)
