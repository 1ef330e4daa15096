-- What a list of turns makes of a world.
use Rattle.std.proofs.Common.{◌≡◌, ℕ, List, [], ◌∷◌, ◌++◌, Bool, true, false, ◌&&◌, ◌||◌, Option, Some, None, IsSome, Result, Ok, Err, inl, inr, refl, ap, ◌∙◌, sym, subst, reverse, map, append-nil, append_assoc}
use Rattle.std.specs.List.{list_any, list_all}
use Rattle.std.proofs.lemmas.Bool.{cases_Bool}
use Rattle.std.proofs.lemmas.List.{append_cancel_left, map-append}
use Rattle.std.proofs.lemmas.Grind.{flat_map-append}
use Rattle.std.proofs.lemmas.List.Folds.{list_any-append, list_all-append}
use Rattle.yard_lock.specs.Turns.{turn, Replay}
use Rattle.world_events.specs.declared.event.Event.{Event as Kept}
use Rattle.world_events.specs.declared.event.Event.TheVariants as kept
use Rattle.world_events.specs.declared.answers.Did.{Did}
use Rattle.world_events.specs.declared.answers.WorldError.{WorldError}
use Rattle.world_events.specs.declared.answers.WorldError.TheVariants as why
use Rattle.call_fs.specs.Disk.{Disk}
use Rattle.call_fs.specs.Plan.{Plan}
use Rattle.mail_world.specs.History.{Event}
use Rattle.mail_world.specs.World.{Seen, Happened, span_of}
use Rattle.mail_world.specs.World.Span.{Lasting, OverAt}
use Rattle.mail_world.specs.Moves.{HasMoved, moves}
use Rattle.actor_runner.specs.Turns.{Answer, Asking, stepped_by, steppers, IsLast, IsOver}
use Rattle.mail_world.specs.LivingMails.{mail_in, mails_in}
use Rattle.actor_runner.specs.Runs.{is_step, is_end, actor_of, Continues, GoesOnTo}
use Rattle.actor_runner.proofs.Steps.{adds_one, lasts, both_true}

continues_trans : (h xs mid ys later : List Event) → Continues h xs mid → Continues mid ys later → Continues h (xs ++ ys) later
continues_trans h [] mid ys later a b = subst (λ (m : List Event). Continues m ys later) a b
continues_trans h (x ∷ xs) mid ys later a b = (a.0, a.1, continues_trans (x ∷ a.0) xs mid ys later a.2 b)

module _ {D : Type 0} (plan : D → Option Plan) (tells : D → Option Disk) where
  -- What some turns add to a world, if these actors made the steps.
  pub record Adds (made_by : List (List ℕ)) (old new : Seen D) : Type 0 where
    pub added : List Kept
    pub events : new.events ≡ old.events ++ added
    pub steps : list_all is_step added ≡ true
    pub acted : map actor_of added ≡ made_by
    pub present : new.present ≡ old.present
    pub goes_on : GoesOnTo tells old new

  adds_none : (old new : Seen D) → new ≡ old → Adds [] old new
  adds_none old new e = record {
    added = [];
    events = ap (λ (w : Seen D). w.events) e ∙ sym (append-nil old.events);
    steps = refl;
    acted = refl;
    present = ap (λ (w : Seen D). w.present) e;
    goes_on = λ opening h happened. ([], h, refl, subst (λ (w : Seen D). Happened tells opening w h) (sym e) happened);
  }

  adds_more : (first next : List (List ℕ)) (old mid new : Seen D) → Adds first old mid → Adds next mid new → Adds (first ++ next) old new
  adds_more first next old mid new x y = record {
    added = x.added ++ y.added;
    events = y.events ∙ (ap (λ (l : List Kept). l ++ y.added) x.events ∙ append_assoc old.events x.added y.added);
    steps = list_all-append is_step x.added y.added ∙ (ap (λ (b : Bool). b && list_all is_step y.added) x.steps ∙ y.steps);
    acted = map-append actor_of x.added y.added ∙ (ap (λ (l : List (List ℕ)). l ++ map actor_of y.added) x.acted ∙ ap (λ (l : List (List ℕ)). first ++ l) y.acted);
    present = y.present ∙ x.present;
    goes_on = λ opening h happened.
        let a = x.goes_on opening h happened in
        let b = y.goes_on opening a.1 a.3 in
        (a.0 ++ b.0, b.1, continues_trans h a.0 a.1 b.0 b.1 a.2 b.2, b.3);
  }

  adds_step : (a : List ℕ) (did : Did) (old new : Seen D) → HasMoved plan tells a did old new → Adds (a ∷ []) old new
  adds_step a did old new m =
      let one = adds_one a did.ended old new m.event in record {
        added = one.event ∷ [];
        events = one.is;
        steps = ap (λ (b : Bool). b && true) one.of.0;
        acted = ap (λ (b : List ℕ). b ∷ []) one.of.1;
        present = m.present;
        goes_on = λ opening h happened. let g = m.goes_on opening h happened in (g.0 ∷ [], g.0 ∷ g.1, (g.1, g.2, refl), g.3);
      }

  adds_told : (a : List ℕ) (r : Answer) (old new : Seen D) → moves plan tells old a r new → Adds (stepped_by a r) old new
  adds_told a (Ok (Ok did)) old new m = adds_step a did old new m
  adds_told a (Ok (Err refused)) old new m = adds_none old new m.1
  adds_told a (Err memory) old new m = adds_none old new m

  pub adds_all : (old : Seen D) (turns : List Asking) (new : Seen D) → Replay (moves plan tells) old turns new → Adds (steppers turns) old new
  adds_all old [] new r = adds_none old new (sym r)
  adds_all old (t ∷ ts) new r = adds_more (stepped_by t.input t.answer) (steppers ts) old r.0 new (adds_told t.input t.answer old r.0 r.1.0) (adds_all r.0 ts new r.2)

  -- Some turns, one turn, and the rest.
  record Cut (old : Seen D) (xs : List Asking) (t : Asking) (ys : List Asking) (new : Seen D) : Type 0 where
    pub before : Seen D
    pub then : Seen D
    pub first : Replay (moves plan tells) old xs before
    pub one : moves plan tells before t.input t.answer then
    pub rest : Replay (moves plan tells) then ys new

  cut_at : (old : Seen D) (xs : List Asking) (t : Asking) (ys : List Asking) (new : Seen D) → Replay (moves plan tells) old (xs ++ t ∷ ys) new → Cut old xs t ys new
  cut_at old [] t ys new r = record { before = old; then = r.0; first = refl; one = r.1.0; rest = r.2 }
  cut_at old (x ∷ xs) t ys new r =
      let c = cut_at r.0 xs t ys new r.2 in
      record { before = c.before; then = c.then; first = (r.0, r.1, c.first); one = c.one; rest = c.rest }

  any_left : (p : Kept → Bool) (xs ys : List Kept) → list_any p xs ≡ true → list_any p (xs ++ ys) ≡ true
  any_left p xs ys h = list_any-append p xs ys ∙ ap (λ (b : Bool). b || list_any p ys) h

  or_true : (b : Bool) → (b || true) ≡ true
  or_true true = refl
  or_true false = refl

  any_right : (p : Kept → Bool) (xs ys : List Kept) → list_any p ys ≡ true → list_any p (xs ++ ys) ≡ true
  any_right p xs ys h = list_any-append p xs ys ∙ (ap (λ (b : Bool). list_any p xs || b) h ∙ or_true (list_any p xs))

  some_is : (n : Option ℕ) → IsSome n → (status : ℕ) × (n ≡ Some status)
  some_is None h = absurd (cc (h))
  some_is (Some status) h = (status, refl)

  -- its end is among what the turns up to this one added, with this one
  ended_then : (a : List ℕ) (told : Result Did WorldError) (old mid then : Seen D) → IsLast told → span_of a (reverse old.events) ≡ Lasting
      → (so_far : List (List ℕ)) (x : Adds so_far old mid) → (m : moves plan tells mid a (Ok told) then) → list_any (is_end a) (x.added ++ (adds_told a (Ok told) mid then m).added) ≡ true
  unfolding adds_told adds_step adds_none
  ended_then a (Ok did) old mid then last lived so_far x m =
      let status = some_is did.ended last in
      let one = adds_one a did.ended mid then m.event in
      any_right (is_end a) x.added (one.event ∷ []) (ap (λ (b : Bool). b || false) (one.end status.0 status.1))
  ended_then a (Err (why.Gone name at)) old mid then last lived so_far x m =
      any_left (is_end a) x.added [] (elim (cases_Bool (list_any (is_end a) x.added)) [
        | inl found ↦ found
        | inr none ↦
            let still : span_of a (reverse mid.events) ≡ Lasting = ap (λ (l : List Kept). span_of a (reverse l)) x.events ∙ lasts a old.events x.added lived x.steps none in
            let over : span_of a (reverse mid.events) ≡ OverAt at = m.0.1 in
            let clash : Lasting ≡ OverAt at = sym still ∙ over in
            absurd (cc (clash))
      ])
  ended_then a (Err (why.Alive name)) old mid then last lived so_far x m = absurd last
  ended_then a (Err (why.NotWaiting name)) old mid then last lived so_far x m = absurd last
  ended_then a (Err why.Unknown) old mid then last lived so_far x m = absurd last
  ended_then a (Err why.Taken) old mid then last lived so_far x m = absurd last
  ended_then a (Err (why.Past now)) old mid then last lived so_far x m = absurd last
  ended_then a (Err why.Memory) old mid then last lived so_far x m = absurd last

  -- an actor that lived, and of which a turn told that it is over, ended among these turns
  pub ended_among : (a : List ℕ) (old new : Seen D) (turns : List Asking) (all : Adds (steppers turns) old new) → Replay (moves plan tells) old turns new → IsOver a turns → span_of a (reverse old.events) ≡ Lasting
      → list_any (is_end a) all.added ≡ true
  unfolding adds_more
  ended_among a old new turns all replay over lived =
      let c = cut_at old over.before (turn over.by a (Ok over.told)) over.later new (subst (λ (ts : List Asking). Replay (moves plan tells) old ts new) over.among replay) in
      let x = adds_all old over.before c.before c.first in
      let y = adds_told a (Ok over.told) c.before c.then c.one in
      let z = adds_all c.then over.later new c.rest in
      let told : List (List ℕ) = stepped_by a (Ok over.told) in
      let xy = adds_more (steppers over.before) told old c.before c.then x y in
      let whole = adds_more (steppers over.before ++ told) (steppers over.later) old c.then new xy z in
      let same : all.added ≡ whole.added = append_cancel_left old.events all.added whole.added (sym all.events ∙ whole.events) in
      ap (list_any (is_end a)) same ∙ any_left (is_end a) (x.added ++ y.added) z.added (ended_then a over.told old c.before c.then over.last lived (steppers over.before) x c.one)

-- an event of a step starts no mail
no_mail : (e : Kept) → is_step e ≡ true → mail_in e ≡ []
no_mail (kept.Start a program) s = absurd (cc (s))
no_mail (kept.Act a own) s = refl
no_mail (kept.Child a own c program) s = refl
no_mail (kept.Feed a own c message envelope) s = refl
no_mail (kept.Generation start) s = refl
no_mail (kept.Report slot letter text) s = refl
no_mail (kept.End a read ready status) s = refl
no_mail (kept.Stop a) s = refl
no_mail (kept.Moment m) s = refl
no_mail (kept.Halt how) s = refl

no_mails : (added : List Kept) → list_all is_step added ≡ true → mails_in added ≡ []
no_mails [] s = refl
no_mails (e ∷ es) s =
    let both = both_true (is_step e) (list_all is_step es) s in
    ap (λ (l : List (List ℕ)). l ++ mails_in es) (no_mail e both.0) ∙ no_mails es both.1

-- steps leave the mails of a world as they are
pub mails_stay : (old added new : List Kept) → new ≡ old ++ added → list_all is_step added ≡ true → mails_in new ≡ mails_in old
mails_stay old added new is s =
    ap mails_in is ∙ (flat_map-append mail_in old added ∙ (ap (λ (l : List (List ℕ)). mails_in old ++ l) (no_mails added s) ∙ append-nil (mails_in old)))
