-- No pass is begun while one is open.
use Rattle.std.proofs.Common.{◌≡◌, ℕ, List, [], true, false, not, ◌&&◌, None, ap, ◌∙◌, subst}
use Rattle.std.specs.Prelude.{is_none, slice_get}
use Rattle.call_fs.specs.Past.{IsRunBy}
use Rattle.program_law.specs.Sender.Stands.{StandsAt}
use Rattle.program_law.specs.Sender.Views.{first_at}
use Rattle.send_core.proofs.Runs.{Was, keeps}
use Rattle.send_core.proofs.Standing.{FitAt}
use Rattle.send_core.specs.Past.{account, work}
use Rattle.send_core.specs.Table.{Next}
use Rattle.send_parts.specs.declared.row.Row.TheVariants as at
use Rattle.send_parts.specs.declared.row.Row.{Row}
use Rattle.send_jobs.specs.Lanes.{is_free_for, is_in_flight}
use Rattle.send_jobs.specs.Sending.{lane}
use Rattle.send_jobs.specs.Slots.{is_on}
use Rattle.send_jobs.specs.declared.attempts.Attempt.{Attempt}
use Rattle.send_known.specs.declared.channel.Channel.TheVariants.{Local, Remote}
use Rattle.send_jobs.specs.declared.lane.Lane.{Lane}
use Rattle.send_parts.specs.declared.reading.Reading.TheVariants.{Closing}
use Rattle.world_events.specs.declared.event.Program.{Program}
use Rattle.mail_world.specs.History.{State, after, next_of}
use Rattle.mail_world.specs.Untouched.{queue}
use Rattle.world_law.proofs.Histories.{always, sender_fares}
use Rattle.world_law.proofs.Ran.{have_run}
use Rattle.settle_law.specs.inside.Alone.{PassesBeginAlone}
use Rattle.settle_law.specs.Suffices.{desk_of}
use Rattle.settle_law.proofs.ServedPasts.{none_flies}

free : (n : ℕ) (l : Lane) → l.left ≡ [] → is_in_flight n l ≡ false → is_free_for n l ≡ true
free n l bare none = ap (λ (left : List Attempt). is_none (slice_get left 0) && (not (is_on n (slice_get left 0)) && not (is_in_flight n l))) bare ∙ ap not none

pub passes_begin_alone : PassesBeginAlone
passes_begin_alone d h legal a x start is alive program c n begun fd there =
    let s : State = after d h in
    let I = always d h legal in
    let q = queue s I.role in
    let row : Row = at.ReadFile c n begun (Closing fd) in
    let run : IsRunBy (Next None) x.past = subst (λ (p : Program). IsRunBy (next_of p) x.past) program (have_run d h legal a x is) in
    let fit : FitAt (Was x.past) (work x.past) (account Local x.past) (account Remote x.past) row (desk_of x.past) =
    subst (λ (r : Row). FitAt (Was x.past) (work x.past) (account Local x.past) (account Remote x.past) r (desk_of x.past)) there (keeps None x.past run).0 in
    let st : StandsAt s.now q a row (desk_of x.past) =
    subst (λ (r : Row). StandsAt s.now q a r (desk_of x.past)) there (sender_fares s.now q a x.program x.past x.life start program alive (I.fares a x is)).stands in
    free n (lane c (desk_of x.past).slots) fit.1 (none_flies q (first_at row c) c n (lane c (desk_of x.past).slots) (st.lanes c).tied st.rests.1.0)
