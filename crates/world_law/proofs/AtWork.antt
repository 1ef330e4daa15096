-- What a spawner has in hand is of the attempt in flight in its slot.
use Rattle.std.proofs.Common.{◌≡◌, ⊎_elim, ℕ, ◌+◌, ◌≤◌, List, [], ◌∷◌, ◌++◌, Bool, true, false, Option, Some, None, refl, sym, ap, ◌∙◌, subst, arith, cond}
use Rattle.std.specs.Prelude.{flat_map}
use Rattle.std.proofs.lemmas.List.{append-nil}
use Rattle.call_fs.specs.Disk.{Among}
use Rattle.program_law.specs.Post.Posts.{AreLast, At, Fares, HasPlainFields, IsAskedFor, Post, Waits, busy, goes_at, in_hand, most, owed_at, reports, told_of}
use Rattle.program_law.proofs.Post.Sums.{own_one}
use Rattle.send_jobs.specs.declared.attempts.Attempt.{Attempt}
use Rattle.send_known.specs.declared.channel.Channel.{Channel}
use Rattle.send_jobs.specs.Slots.{attempt_in}
use Rattle.spawn_protocol.specs.declared.inbox.Intake.{Intake}
use Rattle.spawn_protocol.specs.declared.inbox.Intake.TheVariants as intake
use Rattle.spawn_protocol.specs.declared.request.Request.{Request}
use Rattle.spawn_protocol.specs.Report.{Reader}
use Rattle.spawn_protocol.specs.Request.{request_text}
use Rattle.spawner_parts.specs.declared.place.Place.{Place}
use Rattle.spawner_parts.specs.declared.row.Row.{Row}
use Rattle.spawner_parts.specs.declared.row.Row.TheVariants as at
use Rattle.spawner_parts.specs.Asked.{runs_in}
use Rattle.spawner_parts.specs.Counts.{asked, one, runs, times}
use Rattle.world_law.specs.Standing.{is_at_work}

-- Counting

pub no_room : (heard : Option Reader) → most true heard None ≡ 0
no_room None = refl
no_room (Some reader) = refl

asked_sum : (a b t : ℕ) → 1 ≤ a → 1 ≤ a + (b + t)
asked_sum a b t low = omega (arith, low)

busy_sum : (a b t : ℕ) → 1 ≤ b → 1 ≤ a + (b + t)
busy_sum a b t low = omega (arith, low)

own_sum : (o n : ℕ) → o ≡ 1 → 1 ≤ (o + 0) + n
own_sum o n e = omega (arith, e)

run_sum : (t n : ℕ) → n ≡ 1 → 1 ≤ t + n
run_sum t n e = omega (arith, e)

none_held : (n m : ℕ) → 1 ≤ n → n ≤ m → m ≡ 0 → ⊥
none_held n m low high none = omega (arith, low, high, none)

-- Requests that wait

among_asked : (r : Request) (waits : List Request) → Among r waits → 1 ≤ asked r.slot waits
among_asked r [] among = absurd among
among_asked r (w ∷ waits) among = ⊎_elim
    (λ (same : r ≡ w). let here : one r.slot w.slot ≡ 1 = own_one r.slot w.slot (ap (λ (z : Request). z.slot) same) in first (one r.slot w.slot) (asked r.slot waits) here)
    (λ (later : Among r waits). second (one r.slot w.slot) (asked r.slot waits) (among_asked r waits later))
    among
  where
    first : (o n : ℕ) → o ≡ 1 → 1 ≤ o + n
    first o n e = omega (arith, e)

    second : (o n : ℕ) → 1 ≤ n → 1 ≤ o + n
    second o n low = omega (arith, low)

among_last : (last : ℕ → Option Request) (r : Request) (waits : List Request) → Among r waits → AreLast last waits → last r.slot ≡ Some r
among_last last r [] among h = absurd among
among_last last r (w ∷ waits) among h = ⊎_elim
    (λ (same : r ≡ w). ap (λ (z : Request). last z.slot) same ∙ h.0 ∙ ap Some (sym same))
    (λ (later : Among r waits). among_last last r waits later h.2)
    among

among_plain : (last : ℕ → Option Request) (r : Request) (waits : List Request) → Among r waits → AreLast last waits → HasPlainFields r
among_plain last r [] among h = absurd among
among_plain last r (w ∷ waits) among h = ⊎_elim
    (λ (same : r ≡ w). subst HasPlainFields (sym same) h.1)
    (λ (later : Among r waits). among_plain last r waits later h.2)
    among

text_by : (g : Bool) (i : Intake) (ahead given : List ℕ) (waits : List Request) → g ≡ true → i ≡ intake.Open → Waits g i true ahead given waits
    → ahead ++ given ≡ flat_map request_text waits
text_by true intake.Open ahead given waits on is h = h.text ∙ ap (λ (t : List ℕ). flat_map request_text waits ++ t) (h.whole refl) ∙ append-nil (flat_map request_text waits)
text_by true intake.Ended ahead given waits on is h = absurd (cc)
text_by true intake.TooLong ahead given waits on is h = absurd (cc)
text_by false i ahead given waits on is h = absurd (cc)

-- the attempt in flight in a slot is asked for by this request
pub record IsOfAttempt (x : Post) (slot : ℕ) (r : Request) : Type 0 where
  pub attempt : Attempt
  pub flies : attempt_in x.slots slot ≡ Some attempt
  pub asks : IsAskedFor (Some r) attempt

module _ {c : Channel} (p : Place) (x : Post) (lives : x.lives ≡ true) (goes : goes_at x.serves p.row ≡ true) (F : Fares c p x) where
  abbrev hand : ℕ → ℕ
  hand slot = in_hand F.waits p x slot

  within : (slot : ℕ) → hand slot ≤ most true x.heard (attempt_in x.slots slot)
  within slot = subst (λ (b : Bool). hand slot ≤ most b x.heard (attempt_in x.slots slot)) lives (F.once slot)

  -- a slot in which something is in hand isn't free
  not_free : (slot : ℕ) → 1 ≤ hand slot → attempt_in x.slots slot ≡ None → ⊥
  not_free slot some is = none_held (hand slot) (most true x.heard None) some (subst (λ (o : Option Attempt). hand slot ≤ most true x.heard o) is (within slot)) (no_room x.heard)

  flight_by : (slot : ℕ) (o : Option Attempt) → attempt_in x.slots slot ≡ o → 1 ≤ hand slot → (t : Attempt) × (attempt_in x.slots slot ≡ Some t)
  flight_by slot None is some = absurd (not_free slot some is)
  flight_by slot (Some t) is some = (t, is)

  flight : (slot : ℕ) → 1 ≤ hand slot → (t : Attempt) × (attempt_in x.slots slot ≡ Some t)
  flight slot some = flight_by slot (attempt_in x.slots slot) refl some

  -- what is in hand is of the attempt in flight in its slot
  pub held : (slot : ℕ) (r : Request) → 1 ≤ hand slot → x.last slot ≡ Some r → IsOfAttempt x slot r
  held slot r some last =
      let w = flight slot some in
      record { attempt = w.0; flies = w.1; asks = subst (λ (o : Option Request). IsAskedFor o w.0) last (F.flies lives slot w.0 w.1) }

  -- a request that the spawner hasn't taken up
  pub waiting : (r : Request) → Among r F.waits → IsOfAttempt x r.slot r
  waiting r among =
      held r.slot r (asked_sum (asked r.slot F.waits) (busy (goes_at x.serves p.row) p.row p r.slot) (told_of r.slot (reports x)) (among_asked r F.waits among))
      (among_last x.last r F.waits among F.lasts)

  pub waiting_plain : (r : Request) → Among r F.waits → HasPlainFields r
  waiting_plain r among = among_plain x.last r F.waits among F.lasts

  pub waiting_text : p.inbox.intake ≡ intake.Open → p.inbox.ahead ++ x.asked ≡ flat_map request_text F.waits
  waiting_text is = text_by (goes_at x.serves p.row) p.inbox.intake p.inbox.ahead x.asked F.waits goes is
      (subst (λ (b : Bool). Waits (goes_at x.serves p.row) p.inbox.intake b p.inbox.ahead x.asked F.waits) lives F.asks)

  is_busy : (slot : ℕ) → 1 ≤ busy true p.row p slot → 1 ≤ hand slot
  is_busy slot low =
      busy_sum (asked slot F.waits) (busy (goes_at x.serves p.row) p.row p slot) (told_of slot (reports x)) (subst (λ (b : Bool). 1 ≤ busy b p.row p slot) (sym goes) low)

  -- what runs in a slot is in hand
  pub runs_held : (slot : ℕ) → runs_in p.running slot ≡ true → 1 ≤ hand slot
  runs_held slot is = is_busy slot (run_sum (times slot (owed_at p.row p)) (runs slot p.running) (ap (λ (b : Bool). cond b 1 0) is))

  pub runs_not_free : (slot : ℕ) → runs_in p.running slot ≡ true → attempt_in x.slots slot ≡ None → ⊥
  runs_not_free slot is free = not_free slot (runs_held slot is) free

  pub runs_flying : (slot : ℕ) → runs_in p.running slot ≡ true → (t : Attempt) × (attempt_in x.slots slot ≡ Some t)
  runs_flying slot is = flight slot (runs_held slot is)

  -- the request at work
  works_at : (row : Row) → p.row ≡ row → 1 ≤ busy true row p p.request.slot → x.last p.request.slot ≡ Some p.request → IsOfAttempt x p.request.slot p.request
  works_at row e low last = held p.request.slot p.request (is_busy p.request.slot (subst (λ (z : Row). 1 ≤ busy true z p p.request.slot) (sym e) low)) last

  abbrev itself : ℕ
  itself = one p.request.slot p.request.slot

  owes_it : 1 ≤ (itself + 0) + runs p.request.slot p.running
  owes_it = own_sum itself (runs p.request.slot p.running) (own_one p.request.slot p.request.slot refl)

  pub works_by : (row : Row) → p.row ≡ row → is_at_work row ≡ true → At c x.done x.last row p → IsOfAttempt x p.request.slot p.request
  works_by at.OpenMess e is stands = works_at at.OpenMess e owes_it stands.last_is
  works_by (at.ReadMess fd) e is stands = works_at (at.ReadMess fd) e owes_it stands.last_is
  works_by (at.CloseMess fd whole) e is stands = works_at (at.CloseMess fd whole) e owes_it stands.last_is
  works_by at.Start e is stands = works_at at.Start e owes_it stands.last_is
  works_by row e is stands = absurd (cc)
