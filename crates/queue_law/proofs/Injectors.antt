-- How an injector fares: as it starts, calls, ends, is stopped, and as time goes on.
use Rattle.std.proofs.Common.{◌≡◌, ℕ, ◌+◌, ◌≤◌, List, [], Bool, true, false, refl, sym, ◌∙◌, subst, ⊎_elim, arith, nat_lt, ltb-false, le_refl, le_trans}
use Rattle.call_fs.specs.declared.past.NeedData.{NeedData}
use Rattle.call_fs.specs.declared.past.NeedData.TheVariants as needs
use Rattle.call_fs.specs.declared.past.Own.{Own}
use Rattle.call_fs.specs.declared.calls.CallData.{CallData}
use Rattle.call_fs.specs.declared.calls.Told.{Told}
use Rattle.call_fs.specs.declared.program.Ready.{Ready as Found}
use Rattle.call_fs.specs.Apply.{Fits}
use Rattle.queue_inject.specs.declared.injection.Arguments.{Arguments}
use Rattle.queue_inject.specs.declared.row.Row.{Row}
use Rattle.queue_inject.specs.declared.row.Row.TheVariants as at
use Rattle.queue_inject.specs.Table.{Next, place_after as inject_after, due_by as inject_due, in_time}
use Rattle.queue_law.specs.Books.{Books, booked, last_read}
use Rattle.queue_law.proofs.Tests.{off, tells_number}
use Rattle.queue_law.specs.Numbers.{Queue, about, IsSorted, Phase, Sound}
use Rattle.queue_law.specs.Injectors.{Settles, InTime, InjectorFares}
use Rattle.queue_law.specs.Steps.{InjectorCalls}
use Rattle.queue_law.proofs.Frame.{about_same}
use Rattle.queue_law.proofs.Deeds.{Outcome}
use Rattle.queue_law.proofs.Step.{step}
use Rattle.queue_law.proofs.Rests.{spares_by, spares_names}

-- what the table and the clock say of a call and of an end
call_due : (input late : Bool) (due : NeedData) (call : CallData) → in_time input late due ≡ needs.File call → (due ≡ needs.File call) × (late ≡ false)
call_due true true (needs.File own) call h = absurd (cc)
call_due true false (needs.File own) call h = (h, refl)
call_due false late (needs.File own) call h = absurd (cc)
call_due input late due call h = absurd (cc)

end_due : (input late : Bool) (due : NeedData) → in_time input late due ≡ needs.Ended 0 → due ≡ needs.Ended 0
end_due input late (needs.Ended status) h = h
end_due true true (needs.File own) h = absurd (cc)
end_due true false (needs.File own) h = absurd (cc)
end_due false late (needs.File own) h = absurd (cc)
end_due input late due h = absurd (cc)

-- a call that is due comes in time
in_time_call : (now start read : ℕ) → nat_lt (start + 86400) read ≡ false → now ≤ read + 43200 → now ≤ start + 129600
in_time_call now start read h stall = let w : read ≤ start + 86400 = ltb-false _ _ h in omega arith

-- an end with 0 comes only if the message was queued
ends_queued : (b : Books) (a : List ℕ) (args : Arguments) (row : Row) → inject_due args row ≡ needs.Ended 0 → Settles b a args row → row ≡ at.Queued
ends_queued b a args at.Queued h settles = refl
ends_queued b a args (at.Failed cause) h settles = absurd (settles (cc))
ends_queued b a args row h settles = absurd (cc)

pub injector_start : (now : ℕ) (q : Queue) (a : List ℕ) (args : Arguments) → InjectorFares now q a args [] true false
injector_start now q a args = record {
  stands = λ _. record { relies = λ _. tt; settles = tt };
  queued = λ h. absurd (cc);
  ends = λ h. absurd (off h);
  reads = le_refl args.start;
}

-- who isn't over its day at a later moment wasn't so before
pub injector_later : (now m : ℕ) → now ≤ m → (q : Queue) (a : List ℕ) (args : Arguments) (past : List Own) (lives ended : Bool)
    → InjectorFares now q a args past lives ended → InjectorFares m q a args past lives ended
injector_later now m later q a args past lives ended F = record {
  stands = λ alive. let S = F.stands alive in record { relies = λ soon. S.relies (omega (arith, later, soon)); settles = S.settles };
  queued = F.queued;
  ends = F.ends;
  reads = F.reads;
}

-- one that is over relies on nothing
pub injector_over : (now : ℕ) (q r : Queue) → r.books ≡ q.books → (a : List ℕ) (args : Arguments) (past : List Own) (lived was lives ended : Bool)
    → InjectorFares now q a args past lived was → (lives ≡ true → ⊥) → (ended ≡ true → inject_after args past ≡ at.Queued) → InjectorFares now r a args past lives ended
injector_over now q r same a args past lived was lives ended F dead ends = record {
  stands = λ h. absurd (dead h);
  queued = λ row. subst (λ (b : Books). Settles b a args at.Queued) (sym same) (F.queued row);
  ends = ends;
  reads = F.reads;
}

-- its end with 0 comes only once its message is queued
pub injector_done : (now : ℕ) (q : Queue) (a : List ℕ) (args : Arguments) (past : List Own) (lives ended : Bool) (read : ℕ) (ready : Found)
    → InjectorFares now q a args past lives ended → lives ≡ true → Next args past read ready ≡ needs.Ended 0 → inject_after args past ≡ at.Queued
injector_done now q a args past lives ended read ready F alive next =
    ends_queued q.books a args (inject_after args past) (end_due _ _ _ next) (F.stands alive).settles

sound_by : (now : ℕ) (q : Queue) → Sound q → (a : List ℕ) (args : Arguments) (r : Queue) (row : Row) → Outcome now q a args r row → Sound r
sound_by now q G a args r row O = record {
  suits = O.suits;
  fine = λ n. ⊎_elim
      (O.fine n)
      (λ far. subst Phase (sym (about_same now a O.number q r O.elsewhere n far)) (G.fine n))
      (tells_number O.number n);
  over = O.over;
}

-- a number that a call concerns isn't preprocessed, so that those that are stay as they were
sorted_by : (now : ℕ) (q : Queue) (a : List ℕ) (args : Arguments) (r : Queue) (row : Row) → Outcome now q a args r row → (n : ℕ) → IsSorted (about q n) → about r n ≡ about q n
sorted_by now q a args r row O n sorted = ⊎_elim
    (λ here. absurd (sorted.2 (O.unsorted n here sorted.0 sorted.1)))
    (λ far. about_same now a O.number q r O.elsewhere n far)
    (tells_number O.number n)

pub injector_calls : (now : ℕ) (q : Queue) (a : List ℕ) (args : Arguments) (past : List Own) (read : ℕ) (ready : Found) (call : CallData) (told : Told) (wrote : ℕ)
    → Sound q → InjectorFares now q a args past true false → last_read args.start past ≤ read → now ≤ read + 43200
    → Next args past read ready ≡ needs.File call → Fits q.disk call told.answer wrote
    → InjectorCalls now q a args past read ready call told wrote
injector_calls now q a args past read ready call told wrote G F no_earlier no_stall next fits =
    let S = F.stands refl in
    let due = call_due _ _ _ call next in
    let late : args.start ≤ read = le_trans F.reads no_earlier in
    let soon : InTime now args = in_time_call now args.start read due.1 no_stall in
    let w = step now q a args G read late wrote (inject_after args past) call due.0 (S.relies soon, S.settles) told.answer fits in
    let O = w.1 in
    record {
      role = w.0;
      number = O.number;
      elsewhere = O.elsewhere;
      sound = sound_by now q G a args _ _ O;
      fares = record {
        stands = λ _. record { relies = λ _. O.next.0; settles = O.next.1 };
        queued = λ row. subst (Settles (booked q.books a args call told.answer) a args) row O.next.1;
        ends = λ h. absurd (off h);
        reads = late;
      };
      outside = O.outside;
      old = O.old;
      spares = spares_by now a args soon q _ O.number O.elsewhere G.suits O.own;
      names = spares_names now a args soon q _ O.number O.elsewhere G.suits O.own;
      accepted = O.accepted;
      sorted = sorted_by now q a args _ _ O;
      unsorted = λ n none part later. O.later part n later ∙ none part later;
      early = λ e. record {
        unsorted = λ n part later. O.later part n later ∙ e.unsorted n part later;
        waits = O.waits e;
        none_over = O.none_over e;
      };
    }
