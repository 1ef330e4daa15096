-- When messages are due that were tried, by the past alone.
use Rattle.std.proofs.Common.{◌≡◌, ℕ, ◌≤◌, List, [], ◌∷◌, arith, Bool, true, false, not, Option, Some, None, refl, sym, ap, ◌∙◌, subst, ⊎_elim}
use Rattle.std.proofs.lemmas.List.Elements.{All-head, All-tail}
use Rattle.std.specs.Prelude.{◌&&◌, All}
use Rattle.call_fs.specs.Past.{IsRunBy}
use Rattle.call_fs.specs.declared.past.NeedData.{NeedData}
use Rattle.call_fs.specs.declared.past.Own.{Own}
use Rattle.retry_law.proofs.Events.{birth_same, known_no, learns, unlink_done}
use Rattle.retry_law.specs.Passes.{EmptyPassesUnlink}
use Rattle.retry_law.specs.Retries.{ArePlain, IsPlain, IsRetried, TriedAreRetried}
use Rattle.retry_law.specs.Tried.{SearchesKeepTries, tried_by, tried_in}
use Rattle.retry_schedule.specs.Retry.{next_retry}
use Rattle.send_core.specs.Births.{births}
use Rattle.send_core.specs.Past.{account, work}
use Rattle.send_core.specs.Table.{Next}
use Rattle.send_jobs.specs.Channels.{skip_of}
use Rattle.send_jobs.specs.Tries.{moment_of}
use Rattle.send_known.specs.declared.channel.Channel.{Channel}
use Rattle.send_runs.specs.DueMoments.Shift.{Begins, Fails, Learns, Same}
use Rattle.send_runs.specs.DueMoments.{Shift, has_unlinked, is_unlink, shift, shift_by, trial}
use Rattle.send_runs.specs.Dues.{again, due_by, due_in, flies, over_at, pass_by, pass_in, retry_at, unless, unlinks}
use Rattle.send_runs.specs.Files.{drops, has_by, has_in, there_in}
use Rattle.send_runs.specs.Knowing.{known_by}

-- What an event leaves that is none of a message

ended : (over : Bool) (begun : ℕ) → unless over (Some begun) ≡ None → over ≡ true
ended true begun e = refl
ended false begun e = absurd (cc)

has_parts : (known drops there was : Bool) → known ≡ false → has_by known drops there was ≡ true → (drops ≡ false) × (was ≡ true)
has_parts true drops there was k e = absurd (cc)
has_parts false true there was k e = absurd (cc)
has_parts false false there was k e = (refl, e)

tried_over : (begun : ℕ) (after tried : Option ℕ) → after ≡ None → tried_by Same (Some begun) after tried ≡ Some begun
tried_over begun after tried e = ap (λ (q : Option ℕ). tried_by Same (Some begun) q tried) e

again_over : (over unlinks : Bool) (begun : ℕ) (retry : ℕ → ℕ) (was : ℕ) → over ≡ true → unlinks ≡ false → again (over && not unlinks) (Some begun) retry was ≡ retry begun
again_over true false begun retry was o u = refl
again_over true true begun retry was o u = absurd (cc)
again_over false unlinks begun retry was o u = absurd (cc)

again_none : (ends : Bool) (retry : ℕ → ℕ) (was : ℕ) → again ends None retry was ≡ was
again_none true retry was = refl
again_none false retry was = refl

same_some : (x y : ℕ) → ◌≡◌ {A = Option ℕ} (Some x) (Some y) → x ≡ y
same_some x y e = cc

module _ (empty : EmptyPassesUnlink) (turns : Option ℕ) (now : ℕ) (c : Channel) (n : ℕ) where
  abbrev Holds : List Own → Own → Type 0
  Holds past event = has_in c n past ≡ true → pass_in c n past ≡ None → unlinks c n (has_unlinked past) event.due ≡ false → IsRetried now past event c n

  module _ (event : Own) (before : List Own) (later : Own) (run : IsRunBy (Next turns) (later ∷ (event ∷ before))) (read : event.read ≤ now) (plain : IsPlain c n before event)
      (held : Holds before event) where
    abbrev past : List Own
    past = event ∷ before

    abbrev is : Shift
    is = shift c n before event

    abbrev flying : Bool
    flying = flies n (account c before)

    abbrev over : Bool
    over = over_at c n before event

    abbrev next : Bool
    next = unlinks c n (is_unlink event.due) later.due

    abbrev pass : Option ℕ
    pass = pass_in c n before

    abbrev was : ℕ
    was = due_in c n event.due before

    tried_is : (s : Shift) → is ≡ s → tried_in c n past ≡ tried_by s pass (pass_in c n past) (tried_in c n before)
    tried_is s e = ap (λ (x : Shift). tried_by x pass (pass_in c n past) (tried_in c n before)) e

    pass_is : (s : Shift) → is ≡ s → pass_in c n past ≡ pass_by s flying over pass
    pass_is s e = ap (λ (x : Shift). pass_by x flying over pass) e

    due_is : (s : Shift) → is ≡ s → due_in c n later.due past ≡ due_by s event.read flying (over && not next) pass (retry_at past c n) was
    due_is s e = ap (λ (x : Shift). due_by x event.read flying (over && not next) pass (retry_at past c n) was) e

    -- it is learnt
    learnt : (moment : ℕ) → is ≡ Learns moment → Holds past later
    learnt moment e has none own = record { tried = λ begun t. absurd (cc (sym (tried_is (Learns moment) e) ∙ t)); untried = λ t. subst (λ (x : ℕ). x ≤ now) (sym (due_is (Learns moment) e)) soon } where
      soon : moment ≤ now
      soon = ⊎_elim
          (λ (z : moment ≡ 0). omega (arith, z))
          (λ (z : moment ≡ event.read). omega (arith, z, read))
          (learns c n event.read (births before).command (has_unlinked before) (work before) (trial before) event.due event.came moment e)

    -- a pass begins
    begins : (begun : ℕ) → is ≡ Begins begun → Holds past later
    begins begun e has none own = absurd (cc (sym own ∙ empty turns before event later run c n begun e alone ends)) where
      alone : flying ≡ false
      alone = plain.alone begun e

      ends : over ≡ true
      ends = ended over begun (sym (ap (λ (f : Bool). pass_by (Begins begun) f over pass) alone) ∙ sym (pass_is (Begins begun) e) ∙ none)

    -- a pass that goes on may end
    goes : (begun : ℕ) → is ≡ Same → pass ≡ Some begun → Holds past later
    goes begun e p has none own = record {
      tried = λ x t. due ∙ ap (retry_at past c n) (same_some begun x (sym tried ∙ t));
      untried = λ t. absurd (cc (sym tried ∙ t));
    } where
      tried : tried_in c n past ≡ Some begun
      tried = tried_is Same e ∙ ap (λ (q : Option ℕ). tried_by Same q (pass_in c n past) (tried_in c n before)) p ∙ tried_over begun (pass_in c n past) (tried_in c n before) none

      ends : over ≡ true
      ends = ended over begun (sym (pass_is Same e ∙ ap (unless over) p) ∙ none)

      due : due_in c n later.due past ≡ retry_at past c n begun
      due = due_is Same e ∙ ap (λ (q : Option ℕ). again (over && not next) q (retry_at past c n) was) p ∙ again_over over next begun (retry_at past c n) was ends own

    -- no pass goes on
    stays : is ≡ Same → pass ≡ None → Holds past later
    stays e p has none own = record {
      tried = λ begun t. due ∙ it.tried begun (sym tried ∙ t) ∙ sym (retry begun);
      untried = λ t. subst (λ (x : ℕ). x ≤ now) (sym due) (it.untried (sym tried ∙ t));
    } where
      parts : (drops c n (has_unlinked before) event.due event.came ≡ false) × (has_in c n before ≡ true)
      parts = has_parts (known_by event.due event.came (births before).command n false) (drops c n (has_unlinked before) event.due event.came) (there_in c n past) (has_in c n before)
          (known_no c n event.read (births before).command (has_unlinked before) (work before) (trial before) event.due event.came e) has

      unlinked : (b : Bool) → unlinks c n (has_unlinked before) event.due ≡ b → b ≡ false
      unlinked true u = absurd (cc (sym parts.0 ∙ unlink_done c n event.read (births before).command (has_unlinked before) (work before) (trial before) event.due event.came run.0.1.1 u e))
      unlinked false u = refl

      it : IsRetried now before event c n
      it = held parts.1 p (unlinked (unlinks c n (has_unlinked before) event.due) refl)

      tried : tried_in c n past ≡ tried_in c n before
      tried = tried_is Same e ∙ ap (λ (q : Option ℕ). tried_by Same q (pass_in c n past) (tried_in c n before)) p

      due : due_in c n later.due past ≡ was
      due = due_is Same e ∙ ap (λ (q : Option ℕ). again (over && not next) q (retry_at past c n) was) p ∙ again_none (over && not next) (retry_at past c n) was

      retry : (begun : ℕ) → retry_at past c n begun ≡ retry_at before c n begun
      retry begun = ap (λ (birth : ℕ). next_retry (moment_of birth) (moment_of begun) (skip_of c))
          (birth_same n c event.read (births before) (has_unlinked before) (work before) (trial before) event.due event.came e)

    by_pass : is ≡ Same → (p : Option ℕ) → pass ≡ p → Holds past later
    by_pass e None p = stays e p
    by_pass e (Some begun) p = goes begun e p

    by_shift : (s : Shift) → is ≡ s → Holds past later
    by_shift Same e = by_pass e pass refl
    by_shift (Learns moment) e = learnt moment e
    by_shift (Begins begun) e = begins begun e
    by_shift Fails e = absurd (plain.done e)

  pub holds : (past : List Own) (event : Own) → IsRunBy (Next turns) (event ∷ past) → All (λ (e : Own). e.read ≤ now) past → ArePlain c n past → Holds past event
  holds [] event run reads plain has none own = absurd (cc)
  holds (last ∷ before) event run reads plain has none own =
      by_shift last before event run (All-head (λ (e : Own). e.read ≤ now) last before reads) plain.1
      (holds before last run.0 (All-tail (λ (e : Own). e.read ≤ now) last before reads) plain.0) (shift c n before last) refl has none own

pub retried : EmptyPassesUnlink → TriedAreRetried
retried empty turns now past event run reads c n plain = holds empty turns now c n past event run reads plain

-- Searches

unless_none : (over : Bool) → unless over None ≡ None
unless_none true = refl
unless_none false = refl

pub searches_keep : SearchesKeepTries
searches_keep c n past event dir after e none = (passes, tries) where
  same : shift c n past event ≡ Same
  same = ap (λ (due : NeedData). shift_by c n event.read (births past).command (has_unlinked past) (work past) (trial past) due event.came) e

  over : Bool
  over = over_at c n past event

  passes : pass_in c n (event ∷ past) ≡ None
  passes = ap (λ (s : Shift). pass_by s (flies n (account c past)) over (pass_in c n past)) same ∙ ap (unless over) none ∙ unless_none over

  tries : tried_in c n (event ∷ past) ≡ tried_in c n past
  tries = ap (λ (s : Shift). tried_by s (pass_in c n past) (pass_in c n (event ∷ past)) (tried_in c n past)) same
      ∙ ap (λ (q : Option ℕ). tried_by Same q (pass_in c n (event ∷ past)) (tried_in c n past)) none
