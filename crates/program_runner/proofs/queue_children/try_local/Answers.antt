-- A local delivery is started by words that are as its command line has them.
use Rattle.std.proofs.Common.{◌≡◌, ℕ, List, ap, ◌∙◌, subst}
use Rattle.call_fs.specs.declared.past.DeliveryWordsData.{DeliveryWordsData}
use Rattle.call_fs.specs.Program.{words_data}
use Rattle.outside.specs.declared.spawner.Started.{Started}
use Rattle.program_runner.specs.ChildWords.{all_marked, local_words, marked, marked_words}
use Rattle.program_runner.specs.Serving.{IsBegun, SpawnerTold}
use Rattle.program_runner.proofs.queue_children.try_local.Goals as goal

begun_marked : (dir : List ℕ) (w v : DeliveryWordsData) (uid : ℕ) (told : Started) (old new : SpawnerTold)
    → v.user ≡ marked w.user
    → v.home ≡ marked w.home
    → v.local ≡ marked w.local
    → v.dash ≡ marked w.dash
    → v.ext ≡ marked w.ext
    → v.domain ≡ marked w.domain
    → v.sender ≡ marked w.sender
    → v.line ≡ marked w.line
    → IsBegun (marked_words dir v uid) told old new → IsBegun (local_words dir w uid) told old new
begun_marked dir w v uid told old new user_is home_is local_is dash_is ext_is domain_is sender_is line_is h = subst (λ x. IsBegun (marked_words dir x uid) told old new) same h where
  same : v ≡ all_marked w
  same =
      ap (λ x. record { user = x; home = v.home; local = v.local; dash = v.dash; ext = v.ext; domain = v.domain; sender = v.sender; line = v.line }) user_is
      ∙ ap (λ x. record { user = marked w.user; home = x; local = v.local; dash = v.dash; ext = v.ext; domain = v.domain; sender = v.sender; line = v.line }) home_is
      ∙ ap (λ x. record { user = marked w.user; home = marked w.home; local = x; dash = v.dash; ext = v.ext; domain = v.domain; sender = v.sender; line = v.line }) local_is
      ∙ ap (λ x. record { user = marked w.user; home = marked w.home; local = marked w.local; dash = x; ext = v.ext; domain = v.domain; sender = v.sender; line = v.line }) dash_is
      ∙ ap (λ x. record { user = marked w.user; home = marked w.home; local = marked w.local; dash = marked w.dash; ext = x; domain = v.domain; sender = v.sender; line = v.line }) ext_is
      ∙ ap (λ x. record { user = marked w.user; home = marked w.home; local = marked w.local; dash = marked w.dash; ext = marked w.ext; domain = x; sender = v.sender; line = v.line }) domain_is
      ∙ ap (λ x. record { user = marked w.user; home = marked w.home; local = marked w.local; dash = marked w.dash; ext = marked w.ext; domain = marked w.domain; sender = x; line = v.line }) sender_is
      ∙ ap (λ x. record { user = marked w.user; home = marked w.home; local = marked w.local; dash = marked w.dash; ext = marked w.ext; domain = marked w.domain; sender = marked w.sender; line = x }) line_is

pub returns-clause-ok : goal.returns-clause-ok
returns-clause-ok g c = begun_marked c.args.dir.now (words_data c.args.words.now)
    (record { user = c.as_slice.result.now; home = c.as_slice-2.result.now; local = c.as_slice-3.result.now; dash = c.as_slice-4.result.now; ext = c.as_slice-5.result.now; domain = c.as_slice-6.result.now; sender = c.as_slice-7.result.now; line = c.as_slice-8.result.now })
    c.args.uid _ _ _
    (c.as_slice.ensures.value ∙ c.in_ok-user.ensures)
    (c.as_slice-2.ensures.value ∙ c.in_ok-home.ensures)
    (c.as_slice-3.ensures.value ∙ c.in_ok-local.ensures)
    (c.as_slice-4.ensures.value ∙ c.in_ok-dash.ensures)
    (c.as_slice-5.ensures.value ∙ c.in_ok-ext.ensures)
    (c.as_slice-6.ensures.value ∙ c.in_ok-domain.ensures)
    (c.as_slice-7.ensures.value ∙ c.in_ok-sender.ensures)
    (c.as_slice-8.ensures.value ∙ c.in_ok-line.ensures)
    c.start_marked.ensures
