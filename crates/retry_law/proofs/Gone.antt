-- A known message that doesn't have its channel file has none.
use Rattle.std.proofs.Common.{◌≡◌, ℕ, List, [], ◌∷◌, Bool, true, false, not, if◌then◌else◌, Option, refl, sym, ap, ◌∙◌}
use Rattle.std.proofs.lemmas.List.Elements.{All-contains}
use Rattle.std.specs.Prelude.{Contains, ◌&&◌}
use Rattle.call_fs.specs.Past.{IsRunBy}
use Rattle.call_fs.specs.declared.calls.Answer.TheVariants as answer
use Rattle.call_fs.specs.declared.calls.Answer.{Answer}
use Rattle.call_fs.specs.declared.calls.CallData.TheVariants as call
use Rattle.call_fs.specs.declared.calls.FsError.TheVariants as why
use Rattle.call_fs.specs.declared.past.GotData.TheVariants as came
use Rattle.call_fs.specs.declared.past.GotData.{GotData}
use Rattle.call_fs.specs.declared.past.NeedData.TheVariants as needs
use Rattle.call_fs.specs.declared.past.NeedData.{NeedData}
use Rattle.call_fs.specs.declared.past.Own.{Own}
use Rattle.queue_paths.specs.Names.{parse}
use Rattle.retry_law.proofs.KnownNow.{known_now, was_known}
use Rattle.retry_law.specs.Gone.{KnownAreGone, MissingAreGone, is_made, is_there, shows}
use Rattle.retry_law.specs.Retries.{has_file}
use Rattle.send_core.specs.Births.{births}
use Rattle.send_core.specs.Table.{Next, place_after}
use Rattle.send_known.specs.declared.channel.Channel.TheVariants.{Local, Remote}
use Rattle.send_known.specs.declared.channel.Channel.{Channel}
use Rattle.send_known.specs.declared.known.Known.{Known}
use Rattle.send_runs.proofs.Files.{files_are_of_past}
use Rattle.send_runs.specs.DueMoments.{has_unlinked, is_file}
use Rattle.send_runs.specs.Files.{drops, gone, has_by, has_in, is_done, looked, made, there_by, there_in}
use Rattle.send_runs.specs.Knowing.{known_by, known_in}

-- The file

dropped_gone : (own is : Bool) (told : Answer) (was : Bool) → ((own && is) && is_done told) ≡ true → (if is then gone told was else was) ≡ false
dropped_gone true true answer.Done was e = refl
dropped_gone true true told was e = absurd (cc)
dropped_gone true false told was e = absurd (cc)
dropped_gone false is told was e = absurd (cc)

looked_still : (is : Bool) (told : Answer) → (is && is_there told) ≡ false → (if is then looked told false else false) ≡ false
looked_still true (answer.Stat stat) e = absurd (cc)
looked_still true (answer.Refused why.NotThere) e = refl
looked_still true told e = refl
looked_still false told e = refl

made_still : (is : Bool) (told : Answer) → (is && is_made told) ≡ false → (if is then made told false else false) ≡ false
made_still true (answer.Created fd number) e = absurd (cc)
made_still true told e = refl
made_still false told e = refl

gone_still : (is : Bool) (told : Answer) → (if is then gone told false else false) ≡ false
gone_still true answer.Done = refl
gone_still true (answer.Refused why.NotThere) = refl
gone_still true told = refl
gone_still false told = refl

module _ (c : Channel) (n : ℕ) where
  -- one that is dropped is gone
  drop_gone : (clears : Bool) (due : NeedData) (got : GotData) (was : Bool) → drops c n clears due got ≡ true → there_by c n due got was ≡ false
  drop_gone clears (needs.File (call.Unlink name)) (came.Answered told) was e = dropped_gone (not clears) (is_file c n (parse name)) told.answer was e
  drop_gone clears due got was e = absurd (cc)

  -- one that is gone stays so, if it isn't shown
  still_gone : (due : NeedData) (got : GotData) → shows c n due got ≡ false → there_by c n due got false ≡ false
  still_gone (needs.File (call.Stat name)) (came.Answered told) e = looked_still (is_file c n (parse name)) told.answer e
  still_gone (needs.File (call.CreateExcl name)) (came.Answered told) e = made_still (is_file c n (parse name)) told.answer e
  still_gone (needs.File (call.Unlink name)) (came.Answered told) e = gone_still (is_file c n (parse name)) told.answer
  still_gone due got e = refl

  module _ (event : Own) (before : List Own) (known : known_in (event ∷ before) n ≡ true) (first : shows c n event.due event.came ≡ true → known_in before n ≡ false)
      (held : known_in before n ≡ true → has_in c n before ≡ false → there_in c n before ≡ false) where
    -- it was known, and had none
    goes_on : known_in before n ≡ true → has_in c n before ≡ false → there_in c n (event ∷ before) ≡ false
    goes_on was none = by (shows c n event.due event.came) refl where
      by : (b : Bool) → shows c n event.due event.came ≡ b → there_in c n (event ∷ before) ≡ false
      by true e = absurd (cc (sym was ∙ first e))
      by false e = ap (there_by c n event.due event.came) (held was none) ∙ still_gone event.due event.came e

    by_event : (k d : Bool) → known_by event.due event.came (births before).command n false ≡ k → drops c n (has_unlinked before) event.due event.came ≡ d
        → has_by k d (there_in c n (event ∷ before)) (has_in c n before) ≡ false → there_in c n (event ∷ before) ≡ false
    by_event true d k_is d_is none = none
    by_event false true k_is d_is none = drop_gone (has_unlinked before) event.due event.came (there_in c n before) d_is
    by_event false false k_is d_is none = goes_on (was_known event before n known k_is) none

    step : has_in c n (event ∷ before) ≡ false → there_in c n (event ∷ before) ≡ false
    step none = by_event (known_by event.due event.came (births before).command n false) (drops c n (has_unlinked before) event.due event.came) refl refl none

pub missing_are_gone : MissingAreGone
missing_are_gone c n [] first known none = absurd (cc)
missing_are_gone c n (event ∷ before) first known none = step c n event before known first.1 (missing_are_gone c n before first.0) none

-- so it is by what the sender keeps
module _ (turns : Option ℕ) (past : List Own) (run : IsRunBy (Next turns) past) (k : Known) (there : Contains (place_after turns past).book.messages.known k) where
  files : (k.local ≡ has_in Local k.n past) × (k.remote ≡ has_in Remote k.n past)
  files = All-contains (λ (x : Known). (x.local ≡ has_in Local x.n past) × (x.remote ≡ has_in Remote x.n past)) (place_after turns past).book.messages.known k (files_are_of_past.files turns past run) there

  has_none : (c : Channel) → has_file c k ≡ false → has_in c k.n past ≡ false
  has_none Local e = sym files.0 ∙ e
  has_none Remote e = sym files.1 ∙ e

pub known_are_gone : KnownAreGone
known_are_gone turns past run c k there none first = missing_are_gone c k.n past first (known_now turns past run k there) (has_none turns past run k there c none)
