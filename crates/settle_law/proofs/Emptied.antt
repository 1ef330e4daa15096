-- Where each report is of a success a rest has no message, if the facts hold of which a settled state comes.
use Rattle.std.proofs.Common.{◌≡◌, ⊎_elim, ℕ, List, ◌∷◌, ◌++◌, Bool, true, false, Option, Some, None, refl, sym, ap, ◌∙◌, subst, codes}
use Rattle.std.specs.Prelude.{IsSome, is_some}
use Rattle.std.proofs.lemmas.Bool.{and_from}
use Rattle.std.proofs.lemmas.List.Elements.{All-contains}
use Rattle.call_fs.specs.Disk.{Disk}
use Rattle.call_fs.specs.Past.{IsRunBy}
use Rattle.call_fs.specs.declared.calls.CallData.TheVariants as call
use Rattle.call_fs.specs.declared.past.NeedData.TheVariants as needs
use Rattle.call_fs.specs.declared.past.NeedData.{NeedData}
use Rattle.call_fs.specs.declared.past.Own.{Own}
use Rattle.call_fs.specs.declared.program.Ready.{Ready}
use Rattle.queue_law.specs.Routes.{lane_part}
use Rattle.queue_paths.specs.Names.Name.{Of}
use Rattle.queue_paths.specs.Names.{path}
use Rattle.queue_states.specs.States.{state_of}
use Rattle.queue_states.specs.declared.state.State.TheVariants.{S1}
use Rattle.retry_law.proofs.Jobs.{clear, jobs}
use Rattle.retry_law.specs.Passes.{IsClear}
use Rattle.retry_law.specs.Retries.{has_file}
use Rattle.retry_law.specs.Tried.{tried_in}
use Rattle.send_core.specs.Stands.{is_search}
use Rattle.send_core.specs.Table.{Next, row_now}
use Rattle.send_jobs.specs.Jobs.{job_of}
use Rattle.send_jobs.specs.Sending.{lane}
use Rattle.send_known.specs.declared.channel.Channel.TheVariants.{Local, Remote}
use Rattle.send_known.specs.declared.channel.Channel.{Channel}
use Rattle.send_jobs.specs.declared.jobs.Job.{Job}
use Rattle.send_jobs.specs.declared.slots.Slots.{Slots}
use Rattle.send_known.specs.declared.known.Known.{Known}
use Rattle.send_runs.proofs.Files.{files_are_of_past}
use Rattle.send_runs.specs.DueMoments.{has_unlinked}
use Rattle.send_runs.specs.Dues.{pass_in, unlinks}
use Rattle.send_runs.specs.Files.{has_in}
use Rattle.world_events.specs.declared.event.Program.{Program}
use Rattle.world_events.specs.declared.event.Program.TheVariants.{Sender}
use Rattle.mail_world.specs.History.{Actor, next_of}
use Rattle.scenario.specs.Deeds.{Deed, after, history_of}
use Rattle.scenario.specs.Turns.{is_search_call}
use Rattle.world_law.proofs.Ran.{have_run}
use Rattle.settle_law.specs.Ends.{deeds_of}
use Rattle.settle_law.specs.Promised.{RestsHold}
use Rattle.settle_law.proofs.SenderRests.{SendersRest, newest_rest}
use Rattle.settle_law.specs.inside.Rests.{IsWholeTurn}
use Rattle.settle_law.specs.inside.Steps.{RestsAreEmpty}
use Rattle.settle_law.specs.Settled.{AllGone, WaitsForRetry}
use Rattle.settle_law.specs.Suffices.{HasRest, IsKnown, desk_of}
use Rattle.settle_law.specs.inside.TriedStay.{tried_at}
use Rattle.settle_law.specs.Well.{AllSucceed}
use Rattle.settle_law.proofs.FreeChannels.{rests_free}
use Rattle.settle_law.proofs.DuesAtRest.{run_before}
use Rattle.settle_law.proofs.Searching.{Keeps, turn_keeps}
use Rattle.settle_law.proofs.Succeeding.{reports_succeed}
use Rattle.settle_law.proofs.Sufficing.{suffices}
use Rattle.settle_law.proofs.TurnPasts as turned
use Rattle.settle_law.proofs.TriedWork.{tried_are_at_work}

-- a search unlinks nothing
searches_keep : (c : Channel) (n : ℕ) (b : Bool) (due : NeedData) → is_search_call due ≡ true → unlinks c n b due ≡ false
searches_keep c n b (needs.File (call.Unlink name)) e = absurd (cc)
searches_keep c n b due e = refl

has_so : (c : Channel) (k : Known) (past : List Own) → (k.local ≡ has_in Local k.n past) × (k.remote ≡ has_in Remote k.n past) → has_file c k ≡ true → has_in c k.n past ≡ true
has_so Local k past both e = sym both.0 ∙ e
has_so Remote k past both e = sym both.1 ∙ e

none_some : {A : Type 0} (o : Option A) → o ≡ None → IsSome o → ⊥
none_some {A = A} o none some = absurd (cc (sym (ap (λ (p : Option A). is_some p) none) ∙ some))

module _ (d : Disk) (later : List Deed) (first : Deed) (before : List Deed) (rest : SendersRest d later first before) (all : AllSucceed (history_of (later ++ first ∷ before))) where
  abbrev x : Actor
  x = rest.turn.actor

  abbrev y : Actor
  y = turned.y d later first before rest.turn

  abbrev own : Own
  own = rest.turn.searches.own

  abbrev more : List Own
  more = turned.more d later first before rest.turn

  whole : IsWholeTurn x.past own more
  whole = turned.whole d later first before rest.turn

  sends : (start : ℕ) × (x.program ≡ Sender start) × (is_search (row_now (desk_of x.past) own.read own.ready) ≡ true)
  sends = turned.sends d later first before rest.turn

  is_now : (after d (later ++ first ∷ before)).actors (codes "sender") ≡ Some y
  is_now = turned.is_now d later first before rest.turn

  run : IsRunBy (Next None) (more ++ own ∷ x.past)
  run = subst (λ (p : Program). IsRunBy (next_of p) y.past) sends.1 (have_run d (history_of (later ++ first ∷ before)) rest.well.legal (codes "sender") y is_now)

  ran : IsRunBy (Next None) (own ∷ x.past)
  ran = run_before (own ∷ x.past) more run

  keeps : Keeps (desk_of x.past) (desk_of y.past)
  keeps = turn_keeps x.past own more whole

  module _ (ready : Ready) (h : HasRest (after d (later ++ first ∷ before)) y.past ready) where
    clear_then : (c : Channel) → IsClear (lane c (desk_of y.past).slots)
    clear_then c = record { given = (rests_free (desk_of y.past) (after d (later ++ first ∷ before)).now ready c h.rests (h.slots c) (h.free c)).0; flies = h.free c; marks = h.rests.marks c }

    clear_before : (c : Channel) → IsClear (lane c (desk_of x.past).slots)
    clear_before c = subst (λ (s : Slots). IsClear (lane c s)) keeps.slots (clear_then c)

    -- no job is there
    no_job : (c : Channel) (n : ℕ) → job_of n (lane c (desk_of y.past).slots).jobs ≡ None
    no_job c n = ap (λ (s : Slots). job_of n (lane c s).jobs) keeps.slots ∙ by (job_of n (lane c (desk_of x.past).slots).jobs) refl
      where
        by : (o : Option Job) → job_of n (lane c (desk_of x.past).slots).jobs ≡ o → job_of n (lane c (desk_of x.past).slots).jobs ≡ None
        by None e = e
        by (Some job) e =
            let goes = (jobs None x.past own ran c n).goes job (searches_keep c n (has_unlinked x.past) own.due rest.turn.searches.search) e in
            let none : pass_in c n x.past ≡ None = clear None x.past own ran c (clear_before c) n in
            absurd (cc (sym none ∙ goes.0))

    untried : (c : Channel) (n : ℕ) → tried_at y.past c n ≡ true → ⊥
    untried c n t =
        none_some (job_of n (lane c (desk_of y.past).slots).jobs) (no_job c n)
        (tried_are_at_work d (history_of (later ++ first ∷ before)) rest.well (codes "sender") y sends.0 is_now sends.1
        (reports_succeed d (history_of (later ++ first ∷ before)) rest.well all y sends.0 is_now sends.1) c n t)

    waits_not : (n : ℕ) → WaitsForRetry (after d (later ++ first ∷ before)) y.past n → ⊥
    waits_not n w = by (has_file w.channel know.0) refl
      where
        know : (k : Known) × IsKnown y.past k × (k.n ≡ n)
        know = h.known n w.state

        tried : (begun : ℕ) × (tried_in w.channel n y.past ≡ Some begun)
        tried = let it = w.later w.channel w.undone in (it.begun, it.tried)

        by : (b : Bool) → has_file w.channel know.0 ≡ b → ⊥
        by false e =
            let gone = h.gone know.0 w.channel know.1 e in
            let there = w.undone.there in
            absurd (cc (sym (subst (λ (m : ℕ). (after d (later ++ first ∷ before)).disk.names (path (Of (lane_part w.channel) m)) ≡ None) know.2 gone) ∙ there))
        by true e =
            let has : has_in w.channel know.0.n y.past ≡ true =
            has_so w.channel know.0 y.past (All-contains (λ (j : Known). (j.local ≡ has_in Local j.n y.past) × (j.remote ≡ has_in Remote j.n y.past)) (desk_of y.past).book.messages.known know.0
            (files_are_of_past.files None y.past run) know.1) e in
            untried w.channel n (and_from (is_some (tried_in w.channel n y.past)) (has_in w.channel n y.past) (ap (λ (o : Option ℕ). is_some o) tried.1)
            (subst (λ (m : ℕ). has_in w.channel m y.past ≡ true) know.2 has))

    all_gone : AllGone (after d (later ++ first ∷ before))
    all_gone n = ⊎_elim
        (λ (one : state_of (after d (later ++ first ∷ before)).disk n ≡ S1). one)
        (λ (w : WaitsForRetry (after d (later ++ first ∷ before)) y.past n). absurd (waits_not n w))
        (suffices (after d (later ++ first ∷ before)) y.past ready h n)

pub rests_are_empty_by : RestsHold → RestsAreEmpty
rests_are_empty_by hold d turns before rest all =
    let w = newest_rest d turns before rest in
    let y = turned.y d w.later w.first w.before w.rest.turn in
    let is : (after d (deeds_of turns ++ before)).actors (codes "sender") ≡ Some y = ap (λ (l : List Deed). (after d l).actors (codes "sender")) w.are ∙ turned.is_now d w.later w.first w.before w.rest.turn in
    let h = hold d turns before rest y is in
    subst (λ (l : List Deed). AllGone (after d l)) (sym w.are)
    (all_gone d w.later w.first w.before w.rest (subst (λ (l : List Deed). AllSucceed (history_of l)) w.are all) h.0 (subst (λ (l : List Deed). HasRest (after d l) y.past h.0) w.are h.1))
