-- Known messages that were tried, and have their file, still have a record that reads `T`, where nothing fails.
use Rattle.std.proofs.Common.{◌≡◌, ◌<◌, ℕ, List, [], ◌∷◌, ◌++◌, length, Bool, true, false, Option, Some, None, refl, sym, ap, ◌∙◌, subst}
use Rattle.std.specs.Prelude.{Contains, is_some}
use Rattle.std.proofs.lemmas.Bool.{and_from, and_parts}
use Rattle.std.proofs.lemmas.List.Elements.{All-contains}
use Rattle.call_fs.specs.Disk.{Disk}
use Rattle.call_fs.specs.Past.{IsRunBy}
use Rattle.call_fs.specs.declared.past.NeedData.TheVariants as needs
use Rattle.call_fs.specs.declared.past.Own.{Own}
use Rattle.envelope_records.specs.declared.channel.Record.{Record}
use Rattle.program_law.proofs.Sender.NoteDue.{note_starts}
use Rattle.program_law.specs.Channel.Tied.First.{Unwritten}
use Rattle.program_law.specs.Sender.Views.{first_at, records_at}
use Rattle.queue_law.proofs.Looks.{found}
use Rattle.queue_law.specs.Numbers.{Entry, find, is_later}
use Rattle.queue_law.specs.Routes.{lane_part}
use Rattle.queue_paths.specs.Names.Name.{Of}
use Rattle.retry_law.proofs.Jobs.{clear, jobs}
use Rattle.retry_law.proofs.KnownNow.{known_now}
use Rattle.retry_law.specs.Retries.{has_file}
use Rattle.retry_law.specs.Tried.{tried_in}
use Rattle.send_core.specs.Table.{Next, due_at, place_after, row_now}
use Rattle.send_core.specs.declared.desk.Desk.{Desk}
use Rattle.send_parts.specs.declared.row.MarkRow.TheVariants as mark
use Rattle.send_parts.specs.declared.row.MarkRow.{MarkRow}
use Rattle.send_parts.specs.declared.row.Marked.{Marked}
use Rattle.send_parts.specs.declared.row.Row.TheVariants as at
use Rattle.send_parts.specs.declared.row.Row.{Row}
use Rattle.send_jobs.specs.Jobs.{job_of}
use Rattle.send_jobs.specs.Sending.{lane}
use Rattle.send_jobs.specs.Slots.{attempt_in}
use Rattle.send_known.specs.declared.channel.Channel.TheVariants.{Local, Remote}
use Rattle.send_known.specs.declared.channel.Channel.{Channel}
use Rattle.send_jobs.specs.declared.jobs.Job.{Job}
use Rattle.send_jobs.specs.declared.slots.Slots.{Slots}
use Rattle.send_known.specs.declared.known.Known.{Known}
use Rattle.send_links.specs.Records.{records_of}
use Rattle.send_parts.specs.Replies.{said}
use Rattle.send_parts.specs.declared.reading.Reading.TheVariants.{Closing, Going, Opening, Shutting}
use Rattle.send_parts.specs.declared.rows.StartRow.TheVariants as start
use Rattle.send_parts.specs.declared.rows.StartRow.{StartRow}
use Rattle.send_runs.proofs.Files.{files_are_of_past}
use Rattle.send_runs.specs.Dues.{pass_in}
use Rattle.send_runs.specs.Files.{has_in}
use Rattle.send_runs.specs.Knowing.{known_in}
use Rattle.world_events.specs.declared.event.Program.TheVariants.{Sender}
use Rattle.world_events.specs.declared.event.Program.{Program}
use Rattle.mail_world.specs.History.{MayBear, State, after, next_of}
use Rattle.world_law.proofs.Ran.{have_run}
use Rattle.settle_law.proofs.DuesAtRest.{clear_at, run_before, unlinks_none}
use Rattle.settle_law.proofs.LaneTexts.{files_on}
use Rattle.settle_law.proofs.LeftSteps.{MarkNeeds, RowNeeds, StartNeeds, acts_hold, arrives_hold, fewer_tried, lane_keeps}
use Rattle.settle_law.proofs.Lefts.{lefts_keep}
use Rattle.settle_law.proofs.Concerns.Concerns.{HasJob, KnowsFile}
use Rattle.settle_law.proofs.Concerns.{LeavesItsOwn}
use Rattle.settle_law.proofs.LivingSenders.{all_held}
use Rattle.settle_law.proofs.Searching.{turn_keeps}
use Rattle.settle_law.proofs.TriedFiles.{event_tried}
use Rattle.settle_law.proofs.TriedKnown.{known_tried, known_tried_stay}
use Rattle.settle_law.specs.inside.Lefts.{HoldsTried, KeepsTried, StillReads}
use Rattle.settle_law.specs.inside.Rests.{IsWholeTurn}
use Rattle.settle_law.specs.Settled.{HasUndone}
use Rattle.settle_law.specs.Suffices.{IsKnown, desk_of}
use Rattle.settle_law.specs.inside.TriedStay.{tried_at}
use Rattle.settle_law.specs.inside.Undone.{KnownAreUndone}
use Rattle.settle_law.specs.Well.{goes_well}

-- by a sender's past, of the disk of now
abbrev Tried : Disk → List Own → Type 0
Tried e past = let d : Desk = place_after None past in HoldsTried (known_tried past) (files_on e) d.row d.slots

none_tried : (e : Disk) → Tried e []
none_tried e = (tt, keeps_none) where
  keeps_none : (ch : Channel) → KeepsTried (known_tried [] ch) (files_on e ch) Unwritten (lane ch (place_after None []).slots)
  keeps_none Local = (lefts_keep.starts (files_on e Local) 0, λ n t none. absurd (cc))
  keeps_none Remote = (lefts_keep.starts (files_on e Remote) 0, λ n t none. absurd (cc))

lane_later : (ch : Channel) → is_later (lane_part ch) ≡ true
lane_later Local = refl
lane_later Remote = refl

others_tried : (d e : Disk) (past : List Own) → LeavesItsOwn d e past → Tried d past → Tried e past
others_tried d e past left h =
    let desk : Desk = place_after None past in (
      h.0,
      λ ch. lane_keeps (known_tried past ch) (files_on d ch) (files_on e ch) (first_at desk.row ch) (lane ch desk.slots)
          (λ n job there spoilt records was. ap records_at (left (lane_part ch) n (lane_later ch) (HasJob ch job there)))
          (λ n none t records was.
          let both = and_parts (tried_at past ch n) (known_in past n) t in
          ap records_at (left (lane_part ch) n (lane_later ch) (KnowsFile ch both.1 (and_parts (is_some (tried_in ch n past)) (has_in ch n past) both.0).1)))
          (h.1 ch),
    )

-- The start of a child

module _ (s : State) (a : List ℕ) (own : Own) (b : List ℕ) (program : Program) (may : MayBear s a own b program) (began : ℕ) (is : may.actor.program ≡ Sender began) (run : IsRunBy (Next None) (own ∷ may.actor.past)) where
  abbrev d : Desk
  d = place_after None may.actor.past

  abbrev row : Row
  row = row_now d own.read own.ready

  abbrev later : Channel → ℕ → Bool
  later = known_tried (own ∷ may.actor.past)

  starts : due_at row d ≡ needs.Start may.asked
  starts = subst (λ (p : Program). next_of p may.actor.past own.read own.ready ≡ own.due) is may.due ∙ may.starts

  start_needs : (r : StartRow) → due_at (at.Start r) d ≡ needs.Start may.asked → StartNeeds r d.slots
  start_needs (start.GreetRemote limit) e = absurd (cc)
  start_needs r e = tt

  mark_needs : (r : MarkRow) (m : Marked) → due_at (at.Mark r m) d ≡ needs.Start may.asked → MarkNeeds (files_on s.disk) r m d.slots
  mark_needs mark.Note m e = absurd (cc)
  mark_needs mark.Noting m e = absurd (note_starts d.note.row d.note may.asked e)
  mark_needs mark.Open m e = absurd (cc)
  mark_needs (mark.Write fd) m e = absurd (cc)
  mark_needs (mark.Close fd done) m e = tt

  row_needs : (r : Row) → due_at r d ≡ needs.Start may.asked → RowNeeds later (files_on s.disk) r d.slots (said own.came).way
  row_needs (at.Start r) e = start_needs r e
  row_needs (at.Turn p) e = absurd (cc)
  row_needs (at.TakeLink c) e = absurd (cc)
  row_needs (at.Mark r m) e = mark_needs r m e
  row_needs (at.UnlinkFile c n p) e = absurd (cc)
  row_needs (at.ReadFile c n begun Opening) e = absurd (cc)
  row_needs (at.ReadFile c n begun (Going fd)) e = absurd (cc)
  row_needs (at.ReadFile c n begun (Closing fd)) e = absurd (cc)
  row_needs (at.ReadFile c n begun (Shutting fd)) e = absurd (cc)
  row_needs (at.Ended status) e = absurd (cc)
  row_needs r e = tt

  child_tried : Tried s.disk may.actor.past → Tried s.disk (own ∷ may.actor.past)
  child_tried h = acts_hold later (files_on s.disk) row own.read own.came d (row_needs row starts)
      (fewer_tried (known_tried may.actor.past) later (files_on s.disk) row d.slots (λ c n none t. known_tried_stay None may.actor.past own run c n none t)
      (arrives_hold (known_tried may.actor.past) (files_on s.disk) d.row d own.read own.ready h))

-- At the end of an idle turn

entry_of : (o : Option Entry) (records : List Record) → records_at o ≡ Some records → (y : Entry) × (o ≡ Some y)
entry_of None records e = absurd (cc)
entry_of (Some y) records e = (y, refl)

undone_of : (e : Disk) (c : Channel) (n : ℕ) → StillReads (files_on e c) n → HasUndone e c n
undone_of e c n it =
    let here : files_on e c n ≡ Some it.reads.records = ap (files_on e c) (sym it.of) ∙ it.reads.there in
    let w = entry_of (find e.names e.files (Of (lane_part c) n)) it.reads.records here in
    let at_name = found e.names e.files (Of (lane_part c) n) w.0 w.1 in
    record {
      file = w.0.number;
      there = at_name.0;
      records = it.reads.records;
      are = ap (λ (y : Entry). records_of y.file.bytes) (sym at_name.1) ∙ sym (ap records_at w.1) ∙ here;
      undone = record { done = false; place = it.spot.place; address = it.spot.address };
      among = it.reads.reads;
      reads = refl;
    }

no_job : (o : Option Job) → ((job : Job) → o ≡ Some job → ⊥) → o ≡ None
no_job None far = refl
no_job (Some job) far = absurd (far job refl)

no_pass : (p : Option ℕ) (begun : ℕ) → p ≡ None → p ≡ Some begun → ⊥
no_pass p begun none some = absurd (cc)

has_one : (turns : Option ℕ) (past : List Own) → IsRunBy (Next turns) past → (c : Channel) (k : Known) → Contains (place_after turns past).book.messages.known k → has_file c k ≡ true → has_in c k.n past ≡ true
has_one turns past run c k known has = by c has where
  files : (k.local ≡ has_in Local k.n past) × (k.remote ≡ has_in Remote k.n past)
  files = All-contains (λ (x : Known). (x.local ≡ has_in Local x.n past) × (x.remote ≡ has_in Remote x.n past)) (place_after turns past).book.messages.known k (files_are_of_past.files turns past run) known

  by : (ch : Channel) → has_file ch k ≡ true → has_in ch k.n past ≡ true
  by Local e = sym files.0 ∙ e
  by Remote e = sym files.1 ∙ e

-- no job is on a message before a whole idle turn
no_work : (past : List Own) (first : Own) (later : List Own) → IsRunBy (Next None) (later ++ first ∷ past) → IsWholeTurn past first later
    → ((c : Channel) → 0 < length (lane c (desk_of past).slots).slots) → ((c : Channel) (slot : ℕ) → attempt_in (lane c (desk_of past).slots).slots slot ≡ None)
    → (c : Channel) (k : Known) → job_of k.n (lane c (desk_of past).slots).jobs ≡ None
no_work past first later run turn slots free c k =
    let one : IsRunBy (Next None) (first ∷ past) = run_before (first ∷ past) later run in
    let none : pass_in c k.n past ≡ None = clear None past first one c (clear_at past first later run turn slots free c) k.n in
    no_job (job_of k.n (lane c (desk_of past).slots).jobs)
    (λ job there. no_pass (pass_in c k.n past) job.begun none ((jobs None past first one c k.n).goes job (unlinks_none past first one turn.searches c k.n) there).0)

-- one that was tried is told of
told : (past : List Own) → IsRunBy (Next None) past → (c : Channel) (k : Known) (begun : ℕ) → IsKnown past k → has_file c k ≡ true → tried_in c k.n past ≡ Some begun → known_tried past c k.n ≡ true
told past run c k begun known has tried =
    and_from (tried_at past c k.n) (known_in past k.n)
    (and_from (is_some (tried_in c k.n past)) (has_in c k.n past) (ap (λ (o : Option ℕ). is_some o) tried) (has_one None past run c k known has))
    (known_now None past run k known)

pub known_are_undone : KnownAreUndone
known_are_undone d h g a x began is alive program past first later same turn slots free c k begun known has tried =
    undone_of (after d h).disk c k.n ((held.1 c).1 k.n (told x.past run c k begun known has tried)
    (subst (λ (p : List Own). job_of k.n (lane c (desk_of p).slots).jobs ≡ None) (sym same)
    (subst (λ (s : Slots). job_of k.n (lane c s).jobs ≡ None) (sym (turn_keeps past first later turn).slots) (no_work past first later ran turn slots free c k))))
  where
    run : IsRunBy (Next None) x.past
    run = subst (λ (p : Program). IsRunBy (next_of p) x.past) program (have_run d h g.legal a x is)

    held : Tried (after d h).disk x.past
    held = all_held goes_well Tried none_tried
        (λ s I a own wrote may began is well run h. event_tried s I a own wrote may began is well run h)
        (λ s a own b program may began is run h. child_tried s a own b program may began is run h)
        others_tried d h g.legal g.well a x is began program alive run

    ran : IsRunBy (Next None) (later ++ first ∷ past)
    ran = subst (IsRunBy (Next None)) same run
