-- When known messages are due at the end of an idle turn, where nothing fails.
use Rattle.std.proofs.Common.{◌≤◌, ℕ, List, [], ◌∷◌, ◌++◌, None, sym, subst}
use Rattle.std.specs.Prelude.{All}
use Rattle.std.proofs.lemmas.List.Elements.{All-tail}
use Rattle.call_fs.specs.Past.{IsRunBy}
use Rattle.call_fs.specs.declared.past.Own.{Own}
use Rattle.retry_law.specs.Moments.{TellsMoments}
use Rattle.retry_law.specs.Retries.{ArePlain}
use Rattle.send_core.specs.Table.{Next}
use Rattle.send_known.specs.declared.channel.Channel.{Channel}
use Rattle.world_events.specs.declared.event.Program.{Program}
use Rattle.mail_world.specs.History.{next_of}
use Rattle.world_law.proofs.Ran.{have_run}
use Rattle.settle_law.specs.inside.Dues.{KnownAreDue}
use Rattle.settle_law.specs.inside.Moments.{Rises}
use Rattle.settle_law.specs.Suffices.{IsDueSo, IsKnown}
use Rattle.settle_law.proofs.DuesAtRest.{rests_are_due}
use Rattle.settle_law.proofs.ServedPasts.{pasts_are_served}
use Rattle.settle_law.proofs.ToldMoments.{pasts_tell_moments}

all_before : (P : Own → Type 0) (past later : List Own) → All P (later ++ past) → All P past
all_before P past [] all = all
all_before P past (event ∷ older) all = all_before P past older (All-tail P event (older ++ past) all)

rises_before : (past later : List Own) → Rises (later ++ past) → Rises past
rises_before past [] rises = rises
rises_before past (event ∷ older) rises = rises_before past older rises.0

plain_before : (c : Channel) (n : ℕ) (past later : List Own) → ArePlain c n (later ++ past) → ArePlain c n past
plain_before c n past [] plain = plain
plain_before c n past (event ∷ older) plain = plain_before c n past older plain.0

pub known_are_due : KnownAreDue
known_are_due d h g a x start is program past first later same turn slots none c k known has =
    subst (λ (p : List Own). IsDueSo first.read p c k) (sym same) (rests_are_due past first later run turn slots none told reads c k (subst (λ (p : List Own). IsKnown p k) same known) has plain)
  where
    run : IsRunBy (Next None) (later ++ first ∷ past)
    run = subst (λ (p : List Own). IsRunBy (Next None) p) same (subst (λ (p : Program). IsRunBy (next_of p) x.past) program (have_run d h g.legal a x is))

    told : All TellsMoments past
    told = All-tail TellsMoments first past
        (all_before TellsMoments (first ∷ past) later (subst (λ (p : List Own). All TellsMoments p) same (pasts_tell_moments d h g.legal a x start is program).0))

    reads : All (λ (e : Own). e.read ≤ first.read) past
    reads = (rises_before (first ∷ past) later (subst Rises same (pasts_tell_moments d h g.legal a x start is program).1)).1

    plain : ArePlain c k.n past
    plain = (plain_before c k.n (first ∷ past) later (subst (λ (p : List Own). ArePlain c k.n p) same (pasts_are_served.plain d h g a x start is program c k.n))).0
