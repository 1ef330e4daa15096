-- The moments that a sender is told.
use Rattle.std.proofs.Common.{◌≡◌, ◌≤◌, ℕ, List, [], ◌∷◌, arith, true, Option, Some, refl, sym, ap, ◌∙◌, subst}
use Rattle.std.specs.List.{list_all}
use Rattle.std.specs.Prelude.{All}
use Rattle.std.proofs.lemmas.List.Elements.{All-cons, All-nil, All-weaker}
use Rattle.call_fs.specs.Apply.{Fits}
use Rattle.call_fs.specs.declared.calls.Answer.TheVariants as answer
use Rattle.call_fs.specs.declared.calls.Answer.{Answer}
use Rattle.call_fs.specs.declared.calls.CallData.TheVariants as call
use Rattle.call_fs.specs.declared.past.GotData.TheVariants as came
use Rattle.call_fs.specs.declared.past.GotData.{GotData}
use Rattle.call_fs.specs.declared.past.NeedData.TheVariants as needs
use Rattle.call_fs.specs.declared.past.NeedData.{NeedData}
use Rattle.call_fs.specs.declared.past.Own.{Own}
use Rattle.mail_bytes.specs.Moments.{IsMoment}
use Rattle.queue_law.specs.Books.{last_read}
use Rattle.queue_paths.specs.Names.Name.{Of}
use Rattle.queue_paths.specs.Names.Part.{Info}
use Rattle.queue_paths.proofs.Paths.{path-parse}
use Rattle.queue_paths.specs.Names.{Name, parse, path}
use Rattle.retry_law.specs.Moments.{IsMomentAt, IsMomentOf, TellsMoments}
use Rattle.world_events.specs.declared.event.Program.{Program}
use Rattle.mail_world.specs.History.{ComesOf, Event, State, latest}
use Rattle.settle_law.specs.inside.Moments.{PastsTellMoments, Rises}
use Rattle.settle_law.proofs.InfoMoments.{Bounded, infos_bounded}
use Rattle.settle_law.proofs.Pasts.{sender_pasts}

-- An event of which the moments are so

-- none of a past lies after one that isn't before its last
all_before : (start read : ℕ) (past : List Own) → Rises past → last_read start past ≤ read → All (λ (e : Own). e.read ≤ read) past
all_before start read [] rises le = All-nil (λ (e : Own). e.read ≤ read)
all_before start read (own ∷ past) rises le =
    All-cons (λ (e : Own). e.read ≤ read) own past le
    (All-weaker (λ (e : Own). e.read ≤ own.read) (λ (e : Own). e.read ≤ read) (λ e w. omega (arith, w, le)) past rises.1)

module _ (s : State) (now : IsMoment s.now) (bounded : Bounded s.disk s.now) where
  -- a look at an info file
  look_told : (name : List ℕ) (x : Option Name) (told : Answer) (wrote : ℕ) → parse name ≡ x → Fits s.disk (call.Stat name) told wrote → IsMomentAt x told
  look_told name (Some (Of Info n)) (answer.Stat stat) wrote is fits =
      let there : s.disk.names (path (Of Info n)) ≡ Some stat.number = ap (λ (text : List ℕ). s.disk.names text) (sym (path-parse name (Of Info n) is)) ∙ fits.number in
      let le = bounded n stat.number there in
      let same = fits.moment_is in
      omega (arith, now, le, same)
  look_told name x told wrote is fits = tt

  came_told : (a : List ℕ) (due : NeedData) (got : GotData) (wrote : ℕ) → ComesOf s a due got wrote → IsMomentOf due got
  came_told a (needs.File (call.Stat name)) (came.Answered told) wrote comes = look_told name (parse name) told.answer wrote refl comes.0
  came_told a due got wrote comes = tt

abbrev Tells : List Own → Type 0
Tells past = All TellsMoments past × Rises past

-- whatever an event is
all_true : (h : List Event) → list_all (λ (e : Event). true) h ≡ true
all_true [] = refl
all_true (e ∷ h) = all_true h

pub pasts_tell_moments : PastsTellMoments
pasts_tell_moments d h legal a x start is program = sender_pasts (λ (e : Event). true) (λ s. Bounded s.disk s.now) Tells (All-nil TellsMoments, tt)
    (λ s I w a own wrote may start is well ran held.
    let moment : IsMoment own.read = (let m = I.moment in let le = may.reads.no_later in omega (arith, m, le)) in (
      All-cons TellsMoments own may.actor.past (record { read = moment; came = came_told s I.moment w a own.due own.came wrote may.came }) held.0,
      (held.1, all_before start own.read may.actor.past held.1 (subst (λ (p : Program). latest p may.actor.past ≤ own.read) is may.reads.no_earlier)),
    ))
    (λ s I w a own b program may start is ran held.
    let moment : IsMoment own.read = (let m = I.moment in let le = may.reads.no_later in omega (arith, m, le)) in (
      All-cons TellsMoments own may.actor.past (record { read = moment; came = subst (λ (due : NeedData). IsMomentOf due own.came) (sym may.starts) tt }) held.0,
      (held.1, all_before start own.read may.actor.past held.1 (subst (λ (p : Program). latest p may.actor.past ≤ own.read) is may.reads.no_earlier)),
    ))
    d (λ h legal well. infos_bounded d h legal) h legal (all_true h) a x is start program
