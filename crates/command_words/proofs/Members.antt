-- Words of the members of a generation that aren't written out.
use Rattle.std.proofs.Common.{◌≡◌, ◌≢◌, ◌<◌, ◌≤◌, ◌&&◌, ℕ, true, List, [], ◌∷◌, Option, Some, None, cond, codes, fold, length, nat_lt, option_and_then, option_map, refl, ap, ◌∙◌, arith}
use Rattle.std.proofs.lemmas.Bool.{lt-ltb}
use Rattle.mail_bytes.specs.Decimal.{digits}
use Rattle.mail_bytes.proofs.Digits.{digits_only, number_of-digits}
use Rattle.clap.specs.Words.{App, first_of, is_simple_and_free, matches_of}
use Rattle.clap.specs.Walk.{Text, Walk, finished, is_empty, nothing_held, walked}
use Rattle.clap.specs.Walk.Waiting.{idle, option}
use Rattle.clap.specs.Simple.{Shape, built}
use Rattle.clap.specs.Faults.{fault_of, turn_fault, walk_fault}
use Rattle.clap.proofs.OnLiterals.{clap_on_literals}
use Rattle.command_words.specs.declared.command.Command.TheVariants.{Send, Clean, Lspawn, Rspawn}
use Rattle.command_words.specs.declared.command.RspawnWords.{RspawnWords}
use Rattle.command_words.specs.declared.command.SendWords.{SendWords}
use Rattle.command_words.specs.Lines.{clean_line, lspawn_line, rspawn_line, send_line, takes_words}
use Rattle.command_words.specs.Numbers.{as_turns, turns_of}
use Rattle.command_words.specs.Reads.{IsNoOption, Reads, command_of, dir_words, rspawn_words, send_words, sender_told, sender_told_by, spawner_told_by}
use Rattle.command_words.proofs.Steps.{Goes, IsPlain, at, ending, goes_nowhere, goes_on, goes_plain, holding, plain_from, row, start}
use Rattle.command_words.proofs.Walks.{no_hyphen}

-- a command as clap builds it
abbrev pub line_of : App → Shape
line_of app = (built app).top

-- the parse of the words after its name
abbrev pub parsed : App → List Text → Walk
parsed app words = fold (walked (line_of app).rules []) start words

-- clap takes the words, and found what a parse up to here holds
pub record Taken (app : App) (words : List Text) (to : Walk) : Type 0 where
  pub takes : takes_words app words ≡ true
  pub finds : matches_of app words ≡ finished (line_of app).rules to.held

-- so it is where a parse goes over the words after a name, and nothing fails
pub taken : (app : App) (name : Text) (words : List Text) (to : Walk) → is_simple_and_free app ≡ true
    → fault_of app (name ∷ words) ≡ ending app (walk_fault (line_of app) [] start words) (parsed app words)
    → matches_of app (name ∷ words) ≡ finished (line_of app).rules (parsed app words).held
    → Goes (line_of app) start words to → ending app [] to ≡ [] → Taken app (name ∷ words) to
taken app name words to simple fault found goes fine = record {
  takes =
      ap (λ b. b && is_empty (fault_of app (name ∷ words))) simple
      ∙ ap is_empty (fault ∙ ap (λ kinds. ending app kinds (parsed app words)) goes.fine ∙ ap (λ w. ending app [] w) goes.ends ∙ fine);
  finds = found ∙ ap (λ (w : Walk). finished (line_of app).rules w.held) goes.ends;
}

-- DIR alone

dir_taken : (app : App) (words : List Text) (to : Walk) (dir : Text) → Taken app words to → first_of (codes "dir") (finished (line_of app).rules to.held) ≡ Some dir → dir_words app words ≡ Some dir
unfolding dir_words
dir_taken app words to dir t is =
    let none : Option Text = None in
    ap (λ b. cond b (first_of (codes "dir") (matches_of app words)) none) t.takes ∙ ap (λ rows. first_of (codes "dir") rows) t.finds ∙ is

abbrev after_one : Text → Walk
after_one dir = at (holding [] (codes "dir") dir) idle 2

clean_taken : (words : List Text) (to : Walk) → Goes (line_of clean_line) start words to → ending clean_line [] to ≡ [] → Taken clean_line (codes "clean" ∷ words) to
clean_taken words to = taken clean_line (codes "clean") words to refl refl refl

clean_goes : (dir : Text) → IsNoOption dir → Goes (line_of clean_line) start (dir ∷ []) (after_one dir)
unfolding clap_on_literals
clean_goes dir off = goes_plain (line_of clean_line) nothing_held idle 1 _ _ dir [] refl (plain_from dir off) refl refl (goes_nowhere (line_of clean_line) _)

clean_ends : (dir : Text) → ending clean_line [] (after_one dir) ≡ []
unfolding clap_on_literals
clean_ends dir = refl

clean_finds : (dir : Text) → first_of (codes "dir") (finished (line_of clean_line).rules (after_one dir).held) ≡ Some dir
unfolding clap_on_literals
clean_finds dir = refl

pub clean_dir : (dir : Text) → IsNoOption dir → Reads (codes "clean" ∷ dir ∷ []) (Clean dir)
unfolding command_of
clean_dir dir off =
    ap (option_map Clean) (dir_taken clean_line (codes "clean" ∷ dir ∷ []) (after_one dir) dir (clean_taken (dir ∷ []) (after_one dir) (clean_goes dir off) (clean_ends dir)) (clean_finds dir))

lspawn_taken : (words : List Text) (to : Walk) → Goes (line_of lspawn_line) start words to → ending lspawn_line [] to ≡ [] → Taken lspawn_line (codes "lspawn" ∷ words) to
lspawn_taken words to = taken lspawn_line (codes "lspawn") words to refl refl refl

lspawn_goes : (dir : Text) → IsNoOption dir → Goes (line_of lspawn_line) start (dir ∷ []) (after_one dir)
unfolding clap_on_literals
lspawn_goes dir off = goes_plain (line_of lspawn_line) nothing_held idle 1 _ _ dir [] refl (plain_from dir off) refl refl (goes_nowhere (line_of lspawn_line) _)

lspawn_ends : (dir : Text) → ending lspawn_line [] (after_one dir) ≡ []
unfolding clap_on_literals
lspawn_ends dir = refl

lspawn_finds : (dir : Text) → first_of (codes "dir") (finished (line_of lspawn_line).rules (after_one dir).held) ≡ Some dir
unfolding clap_on_literals
lspawn_finds dir = refl

pub lspawn_dir : (dir : Text) → IsNoOption dir → Reads (codes "lspawn" ∷ dir ∷ []) (Lspawn dir)
unfolding command_of
lspawn_dir dir off =
    ap (option_map Lspawn) (dir_taken lspawn_line (codes "lspawn" ∷ dir ∷ []) (after_one dir) dir (lspawn_taken (dir ∷ []) (after_one dir) (lspawn_goes dir off) (lspawn_ends dir)) (lspawn_finds dir))

-- DIR and PROGRAM

abbrev after_two : Text → Text → Walk
after_two dir program = at (holding (row (codes "dir") dir ∷ []) (codes "program") program) idle 3

rspawn_told : (words : List Text) (to : Walk) (told : RspawnWords) → Taken rspawn_line words to → spawner_told_by (finished (line_of rspawn_line).rules to.held) ≡ Some told → rspawn_words words ≡ Some told
unfolding rspawn_words
rspawn_told words to told t is =
    let none : Option RspawnWords = None in
    ap (λ b. cond b (spawner_told_by (matches_of rspawn_line words)) none) t.takes ∙ ap spawner_told_by t.finds ∙ is

rspawn_taken : (words : List Text) (to : Walk) → Goes (line_of rspawn_line) start words to → ending rspawn_line [] to ≡ [] → Taken rspawn_line (codes "rspawn" ∷ words) to
rspawn_taken words to = taken rspawn_line (codes "rspawn") words to refl refl refl

rspawn_goes : (dir program : Text) → IsNoOption dir → IsNoOption program → Goes (line_of rspawn_line) start (dir ∷ program ∷ []) (after_two dir program)
unfolding clap_on_literals
rspawn_goes dir program off other =
    goes_plain (line_of rspawn_line) nothing_held idle 1 (after_one dir) _ dir (program ∷ []) refl (plain_from dir off) refl refl
    (goes_plain (line_of rspawn_line) (holding [] (codes "dir") dir) idle 2 _ _ program [] refl (plain_from program other) refl refl (goes_nowhere (line_of rspawn_line) _))

rspawn_ends : (dir program : Text) → 0 < length program → ending rspawn_line [] (after_two dir program) ≡ []
unfolding clap_on_literals
rspawn_ends dir program some = rw (lt-ltb 0 (length program) some)

rspawn_finds : (dir program : Text) → spawner_told_by (finished (line_of rspawn_line).rules (after_two dir program).held) ≡ Some (record { dir = dir; program = program })
unfolding clap_on_literals
rspawn_finds dir program = refl

is_some : (program : Text) → program ≢ [] → 0 < length program
is_some [] some = absurd (some refl)
is_some (b ∷ more) some = omega arith

pub rspawn_two : (dir program : Text) → IsNoOption dir → IsNoOption program → program ≢ [] → Reads (codes "rspawn" ∷ dir ∷ program ∷ []) (Rspawn (record { dir = dir; program = program }))
unfolding command_of
rspawn_two dir program off other some =
    let to = after_two dir program in
    ap (option_map Rspawn) (rspawn_told (codes "rspawn" ∷ dir ∷ program ∷ []) to _
    (rspawn_taken (dir ∷ program ∷ []) to (rspawn_goes dir program off other) (rspawn_ends dir program (is_some program some))) (rspawn_finds dir program))

-- the same, and the turns

abbrev before_turns : Text → Text → Walk
before_turns dir program =
    at (record { rows = row (codes "dir") dir ∷ row (codes "program") program ∷ []; pending = Some (codes "turns", []); skip = 0 }) (option (codes "turns")) 3

abbrev after_turns : Text → Text → Text → Walk
after_turns dir program number = at (holding (row (codes "dir") dir ∷ row (codes "program") program ∷ []) (codes "turns") number) idle 3

send_told : (words : List Text) (to : Walk) (told : SendWords) → Taken send_line words to → sender_told_by (finished (line_of send_line).rules to.held) ≡ Some told → send_words words ≡ Some told
unfolding send_words
send_told words to told t is =
    let none : Option SendWords = None in
    ap (λ b. cond b (sender_told_by (matches_of send_line words)) none) t.takes ∙ ap sender_told_by t.finds ∙ is

send_taken : (words : List Text) (to : Walk) → Goes (line_of send_line) start words to → ending send_line [] to ≡ [] → Taken send_line (codes "send" ∷ words) to
send_taken words to = taken send_line (codes "send") words to refl refl refl

-- the program is looked at as the option begins
option_fine : (dir program : Text) → 0 < length program → turn_fault (line_of send_line) [] (after_two dir program) (codes "--turns") ≡ []
unfolding clap_on_literals
option_fine dir program some = rw (lt-ltb 0 (length program) some)

send_goes : (dir program number : Text) → IsNoOption dir → IsNoOption program → 0 < length program → IsPlain number
    → Goes (line_of send_line) start (dir ∷ program ∷ codes "--turns" ∷ number ∷ []) (after_turns dir program number)
unfolding clap_on_literals
send_goes dir program number off other some plain =
    goes_plain (line_of send_line) nothing_held idle 1 (after_one dir) _ dir (program ∷ codes "--turns" ∷ number ∷ []) refl (plain_from dir off) refl refl
    (goes_plain (line_of send_line) (holding [] (codes "dir") dir) idle 2 (after_two dir program) _ program (codes "--turns" ∷ number ∷ []) refl (plain_from program other) refl refl
    (goes_on (line_of send_line) (after_two dir program) (before_turns dir program) (after_turns dir program number) (codes "--turns") (number ∷ []) refl (option_fine dir program some)
    (goes_plain (line_of send_line) _ (option (codes "turns")) 3 (after_turns dir program number) (after_turns dir program number) number [] refl plain refl refl (goes_nowhere (line_of send_line) (after_turns dir program number)))))

send_ends : (dir program number : Text) → ending send_line [] (after_turns dir program number) ≡ []
unfolding clap_on_literals
send_ends dir program number = refl

turns_back : (n : ℕ) → 0 < n → n ≤ 1000000 → turns_of (Some (digits n)) ≡ Some n
turns_back n some fits =
    let none : Option ℕ = None in
    ap (option_and_then as_turns) (number_of-digits n (omega (arith, fits)))
    ∙ ap (λ b. cond (b && nat_lt n 1000001) (Some n) none) (lt-ltb 0 n some)
    ∙ ap (λ b. cond b (Some n) none) (lt-ltb n 1000001 (omega (arith, fits)))

send_finds : (dir program : Text) (n : ℕ) → 0 < n → n ≤ 1000000
    → sender_told_by (finished (line_of send_line).rules (after_turns dir program (digits n)).held) ≡ Some (record { dir = dir; program = program; turns = n })
unfolding clap_on_literals
send_finds dir program n positive fits =
    let spawner : RspawnWords = record { dir = dir; program = program } in
    ap (λ o. sender_told (Some spawner) o) (turns_back n positive fits)

pub send_turns : (dir program : Text) (n : ℕ) → IsNoOption dir → IsNoOption program → program ≢ [] → 0 < n → n ≤ 1000000
    → Reads (codes "send" ∷ dir ∷ program ∷ codes "--turns" ∷ digits n ∷ []) (Send (record { dir = dir; program = program; turns = n }))
unfolding command_of
send_turns dir program n off other some positive fits =
    let words : List Text = dir ∷ program ∷ codes "--turns" ∷ digits n ∷ [] in
    let to = after_turns dir program (digits n) in
    let goes = send_goes dir program (digits n) off other (is_some program some) (plain_from (digits n) (no_hyphen (digits n) (digits_only n))) in
    ap (option_map Send) (send_told (codes "send" ∷ words) to _ (send_taken words to goes (send_ends dir program (digits n))) (send_finds dir program n positive fits))
