use Rattle.std.proofs.Common.{◌≡◌, ◌∙◌, ◌++◌, ap}
use Rattle.std.proofs.lemmas.Result.{on_ok_weaker}
use Rattle.mem_fs.specs.MemDisk.{bytes_at}
use Rattle.crash_fs.specs.Crash.{Crash, crash_disk}
use Rattle.script_lines.specs.declared.line.Line.TheVariants as line
use Rattle.script_lines.specs.declared.keyword.OfWord.TheVariants as of_word
use Rattle.scenario.specs.Played.{cat_line}
use Rattle.scenario.proofs.ScriptLines.{cat_played, only_cat}
use Rattle.scenario.proofs.playing.play_line.Goals as goal

pub returns-in-Word-Cat-default : goal.returns-in-Word-Cat-default
returns-in-Word-Cat-default c =
    let path = c.in-Word-Cat-default.path in
    let is : c.args.line.now ≡ line.Word of_word.Cat path = c.in-Word-Cat-default.is ∙ ap (λ w. line.Word w path) (only_cat c.in-Word-Cat-default.field-0) in
    on_ok_weaker c.cat.result
    (λ told d plan h playing.
    let text = told
    ∙ ap (λ p. c.args.text.now.items ++ cat_line p (bytes_at (crash_disk c.disk.result.now) p)) c.as_slice.ensures
    ∙ ap (λ (m : Crash). c.args.text.now.items ++ cat_line path (bytes_at (crash_disk m) path)) c.disk.ensures in
    rw is (cat_played d c.args.world.now plan path c.args.text.now.items c.cat.new.text.items h playing text))
    c.cat.ensures
