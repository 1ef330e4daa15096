-- When known messages are due at the end of an idle turn.
use Rattle.std.proofs.Common.{◌≡◌, ◌<◌, ◌≤◌, ℕ, List, [], ◌∷◌, ◌++◌, length, true, false, None, refl, sym, ap, ◌∙◌, subst}
use Rattle.std.specs.Prelude.{All, Contains}
use Rattle.call_fs.specs.Past.{IsRunBy}
use Rattle.call_fs.specs.declared.calls.CallData.TheVariants as call
use Rattle.call_fs.specs.declared.past.NeedData.{NeedData}
use Rattle.call_fs.specs.declared.past.NeedData.TheVariants as needs
use Rattle.call_fs.specs.declared.past.Own.{Own}
use Rattle.send_core.specs.declared.desk.Desk.{Desk}
use Rattle.send_parts.specs.declared.row.Row.{Row}
use Rattle.send_parts.specs.declared.row.Row.TheVariants as at
use Rattle.send_core.specs.Stands.{is_search}
use Rattle.send_core.specs.Table.{Next, due_at, row_now, search_words}
use Rattle.send_known.specs.declared.channel.Channel.{Channel}
use Rattle.send_jobs.specs.Sending.{lane}
use Rattle.send_jobs.specs.Slots.{attempt_in}
use Rattle.send_jobs.specs.Tries.{due_on}
use Rattle.send_known.specs.declared.known.Known.{Known}
use Rattle.send_known.specs.declared.messages.Messages.{Messages}
use Rattle.send_parts.specs.declared.dir.Dir.TheVariants as dir
use Rattle.send_parts.specs.declared.rows.Search.{Search}
use Rattle.send_parts.specs.Steps.{dir_text}
use Rattle.send_runs.specs.DueMoments.{has_unlinked}
use Rattle.send_runs.specs.Dues.{pass_in, unlinks}
use Rattle.retry_law.specs.Moments.{TellsMoments}
use Rattle.retry_law.specs.Passes.{IsClear}
use Rattle.retry_law.specs.Retries.{ArePlain, IsDueAgain, has_file}
use Rattle.retry_law.specs.Tried.{tried_in}
use Rattle.retry_law.proofs.Due.{due_again_known}
use Rattle.retry_law.proofs.Jobs.{clear, empty}
use Rattle.retry_law.proofs.Retried.{searches_keep}
use Rattle.scenario.specs.Chains.{EachFollows}
use Rattle.settle_law.specs.inside.Dues.{RestsAreDue}
use Rattle.settle_law.specs.inside.Rests.{IsWholeTurn, SearchesOn}
use Rattle.settle_law.specs.Rests.{IsAtRest}
use Rattle.settle_law.specs.Suffices.{IsDueSo, IsKnown, desk_of}
use Rattle.settle_law.proofs.FreeChannels.{rests_free}
use Rattle.settle_law.proofs.IdleTurns.{idle}
use Rattle.settle_law.proofs.Searching.{Keeps, turn_keeps}

-- the row of a search
search_at : (row : Row) → is_search row ≡ true → (s : Search) × (row ≡ at.FindTodo s)
search_at (at.FindTodo s) e = (s, refl)
search_at row e = absurd (cc)

-- One search

module _ (past : List Own) (event : Own) (run : IsRunBy (Next None) (event ∷ past)) (search : is_search (row_now (desk_of past) event.read event.ready) ≡ true) where
  pub searches : (after : List ℕ) × (event.due ≡ needs.File (call.NextName (dir_text dir.Todo) after))
  searches =
      let d = desk_of past in
      let found : (s : Search) × (row_now d event.read event.ready ≡ at.FindTodo s) = search_at (row_now d event.read event.ready) search in
      (search_words found.0 d, sym run.1.0 ∙ ap (λ (r : Row). due_at r d) found.1)

  pub unlinks_none : (c : Channel) (n : ℕ) → unlinks c n (has_unlinked past) event.due ≡ false
  unlinks_none c n = ap (λ (due : NeedData). unlinks c n (has_unlinked past) due) searches.1

-- All searches

pub run_before : (past later : List Own) → IsRunBy (Next None) (later ++ past) → IsRunBy (Next None) past
run_before past [] run = run
run_before past (event ∷ older) run = run_before past older run.0

tries_stay : (past : List Own) (now : ℕ) (later : List Own) → IsRunBy (Next None) (later ++ past) → EachFollows (SearchesOn past now) later → (c : Channel) (n : ℕ) → pass_in c n past ≡ None
    → (pass_in c n (later ++ past) ≡ None) × (tried_in c n (later ++ past) ≡ tried_in c n past)
tries_stay past now [] run all c n none = (none, refl)
tries_stay past now (event ∷ older) run all c n none =
    let was = tries_stay past now older run.0 all.0 c n none in
    let due = searches (older ++ past) event run all.1.0 in
    let more = searches_keep c n (older ++ past) event (dir_text dir.Todo) due.0 due.1 was.0 in
    (more.0, more.1 ∙ was.1)

module _ (past : List Own) (first : Own) (later : List Own) (run : IsRunBy (Next None) (later ++ first ∷ past)) (turn : IsWholeTurn past first later) where
  abbrev d : Desk
  d = desk_of past

  pub ran : IsRunBy (Next None) (first ∷ past)
  ran = run_before (first ∷ past) later run

  keeps : Keeps d (desk_of (later ++ first ∷ past))
  keeps = turn_keeps past first later turn

  module _ (slots : (c : Channel) → 0 < length (lane c d.slots).slots) (free : (c : Channel) (slot : ℕ) → attempt_in (lane c d.slots).slots slot ≡ None) where
    rests : IsAtRest d first.read first.ready
    rests = (idle past first later turn).rests

    pub clear_at : (c : Channel) → IsClear (lane c d.slots)
    clear_at c = record { given = (rests_free d first.read first.ready c rests (slots c) (free c)).0; flies = free c; marks = rests.marks c }

    due_so : All TellsMoments past → All (λ (e : Own). e.read ≤ first.read) past → (c : Channel) (k : Known) → IsKnown (later ++ first ∷ past) k → has_file c k ≡ true → ArePlain c k.n past
        → IsDueSo first.read (later ++ first ∷ past) c k
    due_so told reads c k known has plain = record {
      due = it.due;
      entry = subst (λ (m : Messages). Contains (due_on c m) (it.due, k.n)) (sym keeps.messages) it.entry;
      retried = λ begun t. it.retried begun (sym tried ∙ t);
      untried = λ t. it.untried (sym tried ∙ t);
    } where
      none : pass_in c k.n past ≡ None
      none = clear None past first ran c (clear_at c) k.n

      tried : tried_in c k.n (later ++ first ∷ past) ≡ tried_in c k.n past
      tried =
          let due = searches past first ran turn.searches in
          let one = searches_keep c k.n past first (dir_text dir.Todo) due.0 due.1 none in
          (tries_stay (first ∷ past) first.read later run turn.goes_on c k.n one.0).1 ∙ one.1

      it : IsDueAgain None first.read past c k
      it = due_again_known clear empty None first.read past first ran told reads c k (subst (λ (m : Messages). Contains m.known k) keeps.messages known) has (clear_at c) plain
          (unlinks_none past first ran turn.searches c k.n)

pub rests_are_due : RestsAreDue
rests_are_due past first later run turn slots free told reads c k known has plain = due_so past first later run turn slots free told reads c k known has plain
