-- When known messages are due that were tried, by what the sender keeps.
use Rattle.std.proofs.Common.{◌≡◌, ℕ, zero, suc, ◌<◌, ◌≤◌, List, [], ◌∷◌, length, arith, true, false, Option, Some, sym, ap, ◌∙◌, subst, inl, inr}
use Rattle.std.proofs.lemmas.List.Elements.{All-contains}
use Rattle.std.specs.Prelude.{◌↔◌, All, Contains, slice_index_or}
use Rattle.call_fs.specs.Disk.{Among}
use Rattle.call_fs.specs.Past.{IsRunBy}
use Rattle.call_fs.specs.declared.past.Own.{Own}
use Rattle.retry_law.proofs.Retried.{holds}
use Rattle.retry_law.proofs.Told.{moments_are_told}
use Rattle.retry_law.specs.Moments.{TellsMoments}
use Rattle.retry_law.specs.Passes.{ClearChannelsRest, EmptyPassesUnlink, IsClear, lane_after}
use Rattle.retry_law.specs.Retries.{ArePlain, IsDueAgain, IsRetried, KnownAreDueAgain, has_file}
use Rattle.retry_law.specs.Tried.{tried_in}
use Rattle.retry_schedule.specs.Due.{HasEntry}
use Rattle.retry_schedule.specs.Retry.{next_retry}
use Rattle.send_core.specs.Births.{births}
use Rattle.send_core.specs.Table.{Next, place_after}
use Rattle.send_jobs.specs.Channels.{skip_of}
use Rattle.send_jobs.specs.Tries.{due_on, moment_of}
use Rattle.send_known.specs.declared.channel.Channel.TheVariants.{Local, Remote}
use Rattle.send_known.specs.declared.channel.Channel.{Channel}
use Rattle.send_known.specs.declared.known.Known.{Known}
use Rattle.send_known.specs.declared.messages.Messages.{Messages}
use Rattle.send_runs.proofs.Dues.{alive_at, due_exactly}
use Rattle.send_runs.proofs.Files.{files_are_of_past}
use Rattle.send_runs.proofs.Known.{known_are_of_past}
use Rattle.send_runs.specs.DueMoments.{has_unlinked}
use Rattle.send_runs.specs.Dues.{due_in, retry_at, unlinks}
use Rattle.send_runs.specs.Files.{has_in}

among_of : (xs : List (ℕ × ℕ)) (x : ℕ × ℕ) (k : ℕ) → k < length xs → slice_index_or xs k x ≡ x → Among x xs
among_of [] x k lt e = absurd (omega arith)
among_of (y ∷ xs) x zero lt e = inl (sym e)
among_of (y ∷ xs) x (suc k) lt e = inr (among_of xs x k (omega arith) e)

module _ (clear : ClearChannelsRest) (empty : EmptyPassesUnlink) (turns : Option ℕ) (now : ℕ) (past : List Own) (event : Own) (run : IsRunBy (Next turns) (event ∷ past)) (told : All TellsMoments past)
    (reads : All (λ (e : Own). e.read ≤ now) past) (c : Channel) (k : Known) (known : Contains (place_after turns past).book.messages.known k) where
  abbrev messages : Messages
  messages = (place_after turns past).book.messages

  has : has_file c k ≡ true → has_in c k.n past ≡ true
  has e = by c e where
    files : (k.local ≡ has_in Local k.n past) × (k.remote ≡ has_in Remote k.n past)
    files = All-contains (λ (x : Known). (x.local ≡ has_in Local x.n past) × (x.remote ≡ has_in Remote x.n past)) messages.known k (files_are_of_past.files turns past run.0) known

    by : (c : Channel) → has_file c k ≡ true → has_in c k.n past ≡ true
    by Local e = sym files.0 ∙ e
    by Remote e = sym files.1 ∙ e

  entry : has_in c k.n past ≡ true → HasEntry k.n (due_on c messages)
  entry e = (All-contains (λ (x : Known). (y : Channel) → (has_in y x.n past ≡ true) ↔ HasEntry x.n (due_on y messages)) messages.known k (files_are_of_past.due turns past run.0) known c).0 e

  born : k.birth ≡ (births past).of k.n
  born = All-contains (λ (x : Known). x.birth ≡ (births past).of x.n) messages.known k (known_are_of_past turns past run.0 (alive_at turns past event run)).born known

  retry_is : (begun : ℕ) → tried_in c k.n past ≡ Some begun → retry_at past c k.n begun ≡ next_retry k.birth begun (skip_of c)
  retry_is begun tried =
      ap (λ (birth : ℕ). next_retry birth (moment_of begun) (skip_of c)) (moments_are_told.same ((births past).of k.n) (moments_are_told.births past told k.n) ∙ sym born)
      ∙ ap (λ (moment : ℕ). next_retry k.birth moment (skip_of c)) (moments_are_told.same begun (moments_are_told.tries past told c k.n begun tried))

  due_again : has_file c k ≡ true → IsClear (lane_after turns past c) → ArePlain c k.n past → unlinks c k.n (has_unlinked past) event.due ≡ false → IsDueAgain turns now past c k
  due_again e bare plain own = record {
    due = there.0;
    entry = there.1;
    retried = λ begun t. exact ∙ it.tried begun t ∙ retry_is begun t;
    untried = λ t. subst (λ (x : ℕ). x ≤ now) (sym exact) (it.untried t);
  } where
    there : HasEntry k.n (due_on c messages)
    there = entry (has e)

    it : IsRetried now past event c k.n
    it = holds empty turns now c k.n past event run reads plain (has e) (clear turns past event run c bare k.n) own

    exact : there.0 ≡ due_in c k.n event.due past
    exact = due_exactly turns past event run c k.n there.0 (among_of (due_on c messages) (there.0, k.n) there.1.0 there.1.1 there.1.2)

pub due_again_known : ClearChannelsRest → EmptyPassesUnlink → KnownAreDueAgain
due_again_known clear empty turns now past event run told reads c k known e bare plain own = due_again clear empty turns now past event run told reads c k known e bare plain own
