-- At a rest each channel has a slot.
use Rattle.std.proofs.Common.{◌≡◌, ℕ, ◌<◌, min, List, [], ◌∷◌, ◌++◌, true, Option, Some, None, refl, sym, ap, ◌∙◌, subst, arith, codes}
use Rattle.std.specs.Prelude.{is_some}
use Rattle.address_rules.specs.declared.controls.Controls.{Controls}
use Rattle.call_fs.specs.Past.{IsRunBy}
use Rattle.call_fs.specs.declared.past.Own.{Own}
use Rattle.send_core.specs.declared.desk.Desk.{Desk}
use Rattle.send_parts.specs.declared.row.Row.{Row}
use Rattle.send_parts.specs.declared.row.Row.TheVariants as at
use Rattle.send_core.specs.Papers.{Papers, controls_in, controls_told, papers, papers_by}
use Rattle.send_core.specs.Papers.Papers.{Told}
use Rattle.send_core.specs.Past.{account, work}
use Rattle.send_core.specs.Senders.{IsSaid}
use Rattle.send_core.specs.Table.{Next}
use Rattle.send_core.proofs.Asked.{KnowsAt}
use Rattle.send_core.proofs.Changes.{Heard}
use Rattle.send_core.proofs.Runs.{Was, all_kept, facts, keeps}
use Rattle.send_core.proofs.Standing.{FitAt}
use Rattle.send_known.specs.declared.channel.Channel.{Channel}
use Rattle.send_known.specs.declared.channel.Channel.TheVariants.{Local, Remote}
use Rattle.send_runs.specs.Status.{allowed}
use Rattle.world_events.specs.declared.event.Program.{Program}
use Rattle.mail_world.specs.History.{after, next_of}
use Rattle.world_law.proofs.Ran.{have_run}
use Rattle.settle_law.specs.Rests.{BeginsTurn}
use Rattle.settle_law.specs.inside.Slots.{RestsHaveSlots}
use Rattle.settle_law.specs.Suffices.{desk_of}
use Rattle.settle_law.proofs.Allowed.{slots_are_allowed}
use Rattle.settle_law.proofs.GreetedEvents.{GreetedIn, greeted_always}
use Rattle.settle_law.proofs.PipeEvents.{sends_by, sends_past}

-- Both spawners were heard when a turn begins, and the control files were read.

heard_at : (past : List Own) (row : Row) (d : Desk) → BeginsTurn row → FitAt (Was past) (work past) (account Local past) (account Remote past) row d
    → Heard (account Local past).heard × Heard (account Remote past).heard
heard_at past (at.Turn p) d begins h = (h.0.2, h.0.3)
heard_at past (at.Start row) d begins h = absurd begins
heard_at past (at.TakeLink c) d begins h = absurd begins
heard_at past (at.Mark row m) d begins h = absurd begins
heard_at past (at.UnlinkFile c n p) d begins h = absurd begins
heard_at past (at.ReadFile c n begun reading) d begins h = absurd begins
heard_at past (at.Request c) d begins h = absurd begins
heard_at past (at.FindTodo search) d begins h = absurd begins
heard_at past at.InTodo d begins h = absurd begins
heard_at past (at.Finish row n) d begins h = absurd begins
heard_at past (at.Sweep row) d begins h = absurd begins
heard_at past (at.Ended status) d begins h = absurd begins

told_at : (past : List Own) (row : Row) (d : Desk) → BeginsTurn row → KnowsAt (IsSaid past) (facts past) row d → papers past ≡ Told d.book.controls
told_at past (at.Turn p) d begins h = h.0.3
told_at past (at.Start row) d begins h = absurd begins
told_at past (at.TakeLink c) d begins h = absurd begins
told_at past (at.Mark row m) d begins h = absurd begins
told_at past (at.UnlinkFile c n p) d begins h = absurd begins
told_at past (at.ReadFile c n begun reading) d begins h = absurd begins
told_at past (at.Request c) d begins h = absurd begins
told_at past (at.FindTodo search) d begins h = absurd begins
told_at past at.InTodo d begins h = absurd begins
told_at past (at.Finish row n) d begins h = absurd begins
told_at past (at.Sweep row) d begins h = absurd begins
told_at past (at.Ended status) d begins h = absurd begins

some_heard : (o : Option (List ℕ)) → Heard o → is_some o ≡ true
some_heard None h = absurd h
some_heard (Some bytes) h = refl

heard_on : (past : List Own) → IsRunBy (Next None) past → BeginsTurn (desk_of past).row → (c : Channel) → is_some (account c past).heard ≡ true
heard_on past run begins c =
    let both = heard_at past (desk_of past).row (desk_of past) begins (keeps None past run).0 in
    by c both.0 both.1
  where
    by : (k : Channel) → Heard (account Local past).heard → Heard (account Remote past).heard → is_some (account k past).heard ≡ true
    by Local l r = some_heard (account Local past).heard l
    by Remote l r = some_heard (account Remote past).heard r

-- what they said stays
told_stays : (controls : Controls) (past : List Own) → papers past ≡ Told controls → (more : List Own) → papers (more ++ past) ≡ Told controls
told_stays controls past told [] = told
told_stays controls past told (event ∷ before) = ap (λ (p : Papers). papers_by p event.due event.came) (told_stays controls past told before)

pub told_same : (past : List Own) → IsRunBy (Next None) past → BeginsTurn (desk_of past).row → (own : Own) (more : List Own) → controls_told (more ++ own ∷ past) ≡ controls_told past
told_same past run begins own more =
    let d = desk_of past in
    let told = told_at past d.row d begins (all_kept None past run).1 in
    ap controls_in (told_stays d.book.controls (own ∷ past) (ap (λ (p : Papers). papers_by p own.due own.came) told) more) ∙ sym (ap controls_in told)

least : (limit allows : ℕ) → limit ≡ 120 → 0 < allows → 0 < min (min limit allows) 120
least limit allows is some = omega (arith, is, some)

pub rests_have_slots : RestsHaveSlots
rests_have_slots d h well x start is alive program begins c allows =
    let run : IsRunBy (Next None) x.past = subst (λ (p : Program). IsRunBy (next_of p) x.past) program (have_run d h well.legal (codes "sender") x is) in
    let G : GreetedIn c (after d h) = greeted_always d h well.legal well.well c in
    let sent : sends_past ((after d h).actors (codes "sender")) ≡ Some x.past = ap sends_past is ∙ ap (λ (p : Program). sends_by p x.past) program in
    let limit : (account c x.past).limit ≡ 120 = G.heard x.past sent (heard_on x.past run begins c) in
    subst (λ (n : ℕ). 0 < n) (sym (slots_are_allowed x.past run begins c)) (least (account c x.past).limit (allowed c (controls_told x.past)) limit allows)
