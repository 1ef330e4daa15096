-- What `work` plays before its threads, and after them.
use Rattle.std.proofs.Common.{◌≡◌, ℕ, List, [], ◌∷◌, ◌++◌, reverse, Bool, true, false, cond, refl, sym, ap, ◌∙◌, subst, append-nil}
use Rattle.std.specs.Prelude.{flat_map}
use Rattle.std.specs.List.{AllZip}
use Rattle.std.proofs.lemmas.List.Elements.{filter-append}
use Rattle.call_fs.specs.Disk.{Disk}
use Rattle.call_fs.specs.Plan.{Plan, no_plan}
use Rattle.crash_fs.specs.Crash.{Crash}
use Rattle.world_events.specs.declared.event.Event.{Event as Kept}
use Rattle.mail_world.specs.World.{Seen}
use Rattle.script_words.specs.declared.entry.Entry.{Entry}
use Rattle.script_words.specs.declared.letter.Letter.TheVariants.{Success}
use Rattle.script_lines.specs.declared.line.Line.{Line}
use Rattle.script_lines.specs.declared.line.Line.TheVariants as line
use Rattle.script_lines.specs.declared.keyword.OfLetter.TheVariants as of_letter
use Rattle.script_traces.specs.Events.{kept_line}
use Rattle.scenario.specs.Deeds.{Deed, TellsDeed, history_of}
use Rattle.script_disks.specs.FirstDisk.{IsFirstDisk}
use Rattle.scenario.specs.Played.{plan_after}
use Rattle.scenario.specs.Playing.{IsPlaying, HasPlayed}
use Rattle.scenario.specs.Shown.{IsShown}
use Rattle.scenario.specs.Traced.{traced_text, deed_line}
use Rattle.scenario.specs.Working.{is_mail_line, mail_lines, HasBegun, HasPlayedSilently, HasSettled}
use Rattle.scenario.proofs.ScriptLines.{traced_through, plays_push}
use Rattle.scenario.proofs.Tracings.{added_told, lines_told}

-- nothing was played yet
pub nothing_begun : (opening : List Entry) (d : Disk) (w : Seen Crash) → IsFirstDisk opening d → IsPlaying d w no_plan [] → HasBegun opening [] w
nothing_begun opening d w first playing = record { disk = d; is_first = first; deeds = []; left = no_plan; text = []; plays = (refl, refl, refl); playing = playing }

-- one line more
pub begun_with_line : (opening : List Entry) (lines : List Line) (one : Line) (w v : Seen Crash) (so : HasBegun opening lines w) → HasPlayedSilently so.disk v one so.left so.deeds → HasBegun opening (lines ++ one ∷ []) v
begun_with_line opening lines one w v so played =
    let p = played.1 in record {
      disk = so.disk;
      is_first = so.is_first;
      deeds = p.events ++ so.deeds;
      left = plan_after so.left one p.events p.own;
      text = so.text ++ (traced_text (traced_through false lines) p.events ++ p.own);
      plays = plays_push so.disk [] so.deeds no_plan so.left false lines one so.text p.own p.events so.plays p.plays;
      playing = p.playing;
    }

-- the mails among one line more
pub mail_more : (lines : List Line) (one : Line) → is_mail_line one ≡ true → mail_lines (lines ++ one ∷ []) ≡ mail_lines lines ++ one ∷ []
mail_more lines one is = filter-append is_mail_line lines (one ∷ []) ∙ ap (λ (b : Bool). mail_lines lines ++ cond b (one ∷ []) []) is

pub mail_same : (lines : List Line) (one : Line) → is_mail_line one ≡ false → mail_lines (lines ++ one ∷ []) ≡ mail_lines lines
mail_same lines one is = filter-append is_mail_line lines (one ∷ []) ∙ (ap (λ (b : Bool). mail_lines lines ++ cond b (one ∷ []) []) is ∙ append-nil (mail_lines lines))

-- the lines so far were begun with, and then one line of a script was met: it is played if it is a mail
pub met : (opening : List Entry) (lines : List Line) (one : Line) (w v : Seen Crash) (so : HasBegun opening (mail_lines lines) w) → (b : Bool) → is_mail_line one ≡ b
    → (is_mail_line one ≡ true → HasPlayedSilently so.disk v one so.left so.deeds) → (is_mail_line one ≡ false → v ≡ w) → HasBegun opening (mail_lines (lines ++ one ∷ [])) v
met opening lines one w v so true is plays same = subst (λ (l : List Line). HasBegun opening l v) (sym (mail_more lines one is)) (begun_with_line opening (mail_lines lines) one w v so (plays is))
met opening lines one w v so false is plays same =
    subst (λ (l : List Line). HasBegun opening l v) (sym (mail_same lines one is)) (subst (λ (x : Seen Crash). HasBegun opening (mail_lines lines) x) (sym (same is)) so)

-- the lines of all events are those of all deeds
pub all_lines : (events : List Kept) (deeds : List Deed) → AllZip TellsDeed (reverse events) deeds → flat_map kept_line events ≡ flat_map deed_line (reverse deeds)
all_lines events deeds told =
    lines_told events (reverse deeds) (added_told [] events [] deeds tt (subst (λ (l : List Deed). AllZip TellsDeed (reverse events) l) (sym (append-nil deeds)) told))

-- `settle K` was played, and its world is shown
pub settles : (d : Disk) (new : Seen Crash) (plan : Plan) (h : List Deed) (before after text shown : List ℕ) (played : HasPlayed d new (line.Letter of_letter.Settle Success) before after plan h)
    → IsShown d (history_of (played.events ++ h)) shown → text ≡ flat_map kept_line new.events ++ shown → HasSettled d h plan text
settles d new plan h before after text shown played shows is = record {
  settled = played.events;
  dropped = played.own;
  settles = played.plays;
  legal = played.playing.is.legal;
  shown = shown;
  shows = shows;
  text_is = is ∙ ap (λ (t : List ℕ). t ++ shown) (all_lines new.events (played.events ++ h) played.playing.told);
}
