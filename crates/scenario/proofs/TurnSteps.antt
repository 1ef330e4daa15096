-- The reports of a round and the rounds of `settle`, by what the calls of a world tell.
use Rattle.std.proofs.Common.{◌≡◌, ℕ, ◌+◌, ◌<◌, ◌≤◌, List, [], ◌∷◌, ◌++◌, Bool, false, ◌||◌, Option, Some, None, refl, sym, ap, ◌∙◌, arith}
use Rattle.std.specs.Prelude.{codes}
use Rattle.std.proofs.lemmas.List.{append-nil}
use Rattle.call_fs.specs.Disk.{Disk}
use Rattle.call_fs.specs.Plan.{Plan}
use Rattle.crash_fs.specs.Crash.{Crash}
use Rattle.mail_world.specs.Generations.{lowest_unreported, reported_world}
use Rattle.mail_world.specs.History.{State}
use Rattle.mail_world.specs.Known.{known}
use Rattle.mail_world.specs.World.{Seen, GoesOn}
use Rattle.script_words.specs.declared.letter.Letter.{Letter}
use Rattle.script_words.specs.Words.{letter_byte}
use Rattle.scenario.specs.Deeds.{Deed, history_of, after}
use Rattle.scenario.specs.Turns.{reports_of, has_bytes}
use Rattle.scenario.specs.Playing.{IsPlaying}
use Rattle.scenario.specs.inside.Playing.{HasReported}
use Rattle.scenario.proofs.Endings.{lowest}
use Rattle.scenario.proofs.GenerationLines.{reported}
use Rattle.scenario.proofs.Knowing.{actors_told, pipework_told, unreported_same}
use Rattle.scenario.proofs.Deeds.{tells}
use Rattle.scenario.proofs.TurnRuns.{HasReportedOn, one_report, all_reported}

-- What was printed

pub same_text : (before after_text own : List ℕ) → after_text ≡ before ++ own → own ≡ [] → after_text ≡ before
same_text before after_text own is none = is ∙ ap (λ t. before ++ t) none ∙ append-nil before

pub quiet_round : (t : List ℕ) (idle : Bool) → false ≡ (has_bytes t || idle) → t ≡ []
quiet_round [] idle e = refl
quiet_round (b ∷ t) idle e = absurd (let both = e in cc)

-- Reports

lowest_told : (d : Disk) (h : List Deed) (plan : Plan) (w : Seen Crash) (from : ℕ) (slot : Option ℕ) → IsPlaying d w plan h → slot ≡ lowest_unreported from (known w.events)
    → lowest_unreported from (after d h) ≡ slot
lowest_told d h plan w from slot playing is =
    unreported_same (after d h) (known w.events) (actors_told d w.events (history_of h) playing.is.told) (pipework_told d w.events (history_of h) playing.is.told playing.whole) from ∙ sym is

pub report_on : (d : Disk) (h : List Deed) (letter : Letter) (w v : Seen Crash) (plan : Plan) (from slot next : ℕ) → HasReportedOn d h letter w plan from
    → Some slot ≡ lowest_unreported from (known w.events) → v ≡ reported_world w slot (letter_byte letter) (codes "settled") → GoesOn tells w v → next ≡ slot + 1
    → HasReportedOn d h letter v plan next
report_on d h letter w v plan from slot next so is did goes after_it =
    let g = reports_of letter so.slots ++ h in
    one_report d h letter w v plan from slot next so (lowest_told d g plan w from (Some slot) so.playing is) after_it
    (reported d w v plan slot (letter_byte letter) (codes "settled") g so.playing did goes)

pub reports_over : (d : Disk) (h : List Deed) (letter : Letter) (w : Seen Crash) (plan : Plan) (from : ℕ) → HasReportedOn d h letter w plan from
    → None ≡ lowest_unreported from (known w.events) → HasReported d w letter plan h
reports_over d h letter w plan from so is =
    all_reported d h letter w plan from so (lowest_told d (reports_of letter so.slots ++ h) plan w from None so.playing is)

-- a slot is a byte
none_above : (s : State) → lowest_unreported 256 s ≡ None
none_above s = by (lowest_unreported 256 s) refl
  where
    by : (o : Option ℕ) → lowest_unreported 256 s ≡ o → lowest_unreported 256 s ≡ None
    by None is = is
    by (Some slot) is =
        let found = lowest 256 s slot is in
        let low = found.no_earlier in
        let high = found.small in
        absurd (omega arith)

pub reports_full : (d : Disk) (h : List Deed) (letter : Letter) (w : Seen Crash) (plan : Plan) → HasReportedOn d h letter w plan 256 → HasReported d w letter plan h
reports_full d h letter w plan so = all_reported d h letter w plan 256 so (none_above (after d (reports_of letter so.slots ++ h)))

-- slots ascend, and are bytes
pub no_earlier : (from slot : ℕ) (s : State) → Some slot ≡ lowest_unreported from s → from ≤ slot
no_earlier from slot s is = (lowest from s slot (sym is)).no_earlier

pub slot_small : (from slot : ℕ) (s : State) → Some slot ≡ lowest_unreported from s → slot < 256
slot_small from slot s is = (lowest from s slot (sym is)).small
