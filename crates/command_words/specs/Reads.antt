-- Which command words are.
use Rattle.std.specs.Prelude.{◌≡◌, ◌≢◌, ℕ, Bool, false, List, Option, Some, None, codes, if◌then◌else◌, slice_get, option_map}
use Rattle.std.specs.Option.{option_map_or}
use Rattle.std.specs.Str.{bytes_eq}
use Rattle.clap.specs.Words.{App, Row, Text, first_of, matches_of}
use Rattle.command_words.specs.declared.command.Command.{Command}
use Rattle.command_words.specs.declared.command.Command.TheVariants.{Play, Make, Queue, Qmqpd, Send, Audit, Clean, Lspawn, Rspawn, Local, Work}
use Rattle.command_words.specs.declared.command.MakeWords.{MakeWords}
use Rattle.command_words.specs.declared.command.QmqpdWords.{QmqpdWords}
use Rattle.command_words.specs.declared.command.QueueWords.{QueueWords}
use Rattle.command_words.specs.declared.command.RspawnWords.{RspawnWords}
use Rattle.command_words.specs.declared.command.SendWords.{SendWords}
use Rattle.command_words.specs.Delivery.{local_words}
use Rattle.command_words.specs.Numbers.{number_below, turns_of, uid_of, threads_of}
use Rattle.command_words.specs.Lines.{audit_line, clean_line, lspawn_line, make_line, play_line, qmqpd_line, queue_line, rspawn_line, send_line, takes_words, work_line}

-- the file of the envelope; `-` is none
abbrev pub env_of : Text → Option Text
env_of word = if bytes_eq word (codes "-") then None else Some word

-- a flag that stands has the value `true`
abbrev pub is_on : Option Text → Bool
is_on value = option_map_or (bytes_eq (codes "true")) value false

-- what `queue` is told, if both words stand and the user is a number
abbrev pub told : Option Text → Option Text → Option ℕ → Bool → Option QueueWords
told (Some env) (Some dir) (Some uid) bounce = Some (record { env = env_of env; dir = dir; uid = uid; bounce = bounce })
told _ _ _ bounce = None

-- the same, of what clap found
abbrev pub told_by : List Row → Option QueueWords
told_by rows =
    told (first_of (codes "env") rows) (first_of (codes "dir") rows) (uid_of (first_of (codes "uid") rows)) (is_on (first_of (codes "bounce") rows))

-- the words after the name `play`, whatever the first word is
unfoldable pub play_words : List Text → Option Command
play_words words = if takes_words play_line words then Some Play else None

-- the words after the name `queue`, whatever the first word is
unfoldable pub queue_words : List Text → Option Command
queue_words words = if takes_words queue_line words then option_map Queue (told_by (matches_of queue_line words)) else None

-- what `qmqpd` is told, if the directory stands and the user is a number
abbrev pub receiver_told : Option Text → Option ℕ → Option QmqpdWords
receiver_told (Some dir) (Some uid) = Some (record { dir = dir; uid = uid })
receiver_told _ _ = None

-- the same, of what clap found
abbrev pub receiver_told_by : List Row → Option QmqpdWords
receiver_told_by rows = receiver_told (first_of (codes "dir") rows) (uid_of (first_of (codes "uid") rows))

-- the words after the name `qmqpd`, whatever the first word is
unfoldable pub qmqpd_words : List Text → Option QmqpdWords
qmqpd_words words = if takes_words qmqpd_line words then receiver_told_by (matches_of qmqpd_line words) else None

-- the directory that the words after a name tell, by the simple command that has that name
unfoldable pub dir_words : App → List Text → Option Text
dir_words line words = if takes_words line words then first_of (codes "dir") (matches_of line words) else None

-- what `rspawn` is told, if both words stand
abbrev pub spawner_told : Option Text → Option Text → Option RspawnWords
spawner_told (Some dir) (Some program) = Some (record { dir = dir; program = program })
spawner_told _ _ = None

-- the same, of what clap found
abbrev pub spawner_told_by : List Row → Option RspawnWords
spawner_told_by rows = spawner_told (first_of (codes "dir") rows) (first_of (codes "program") rows)

-- the words after the name `rspawn`, whatever the first word is
unfoldable pub rspawn_words : List Text → Option RspawnWords
rspawn_words words = if takes_words rspawn_line words then spawner_told_by (matches_of rspawn_line words) else None

-- what `send` is told, if both words stand and the turns are a number in range
abbrev pub sender_told : Option RspawnWords → Option ℕ → Option SendWords
sender_told (Some told) (Some turns) = Some (record { dir = told.dir; program = told.program; turns = turns })
sender_told _ _ = None

-- the same, of what clap found
abbrev pub sender_told_by : List Row → Option SendWords
sender_told_by rows = sender_told (spawner_told_by rows) (turns_of (first_of (codes "turns") rows))

-- the words after the name `send`, whatever the first word is
unfoldable pub send_words : List Text → Option SendWords
send_words words = if takes_words send_line words then sender_told_by (matches_of send_line words) else None

-- what `make` is told, if both words are numbers in range: a seed up to 65,536, and a count up to 100,000
abbrev pub maker_told : Option ℕ → Option ℕ → Option MakeWords
maker_told (Some seed) (Some count) = Some (record { seed = seed; count = count })
maker_told _ _ = None

-- the same, of what clap found
abbrev pub maker_told_by : List Row → Option MakeWords
maker_told_by rows = maker_told (number_below 65537 (first_of (codes "seed") rows)) (number_below 100001 (first_of (codes "count") rows))

-- the words after the name `make`, whatever the first word is
unfoldable pub make_words : List Text → Option MakeWords
make_words words = if takes_words make_line words then maker_told_by (matches_of make_line words) else None

-- the words after the name `work`, whatever the first word is: how many threads run mails
unfoldable pub work_words : List Text → Option ℕ
work_words words = if takes_words work_line words then threads_of (first_of (codes "threads") (matches_of work_line words)) else None

-- the command that this name names, if it isn't `play`
abbrev pub others_named : Text → List Text → Option Command
others_named name words = if bytes_eq name (codes "queue") then queue_words words
    else (if bytes_eq name (codes "send") then option_map Send (send_words words)
    else (if bytes_eq name (codes "audit") then option_map Audit (dir_words audit_line words)
    else (if bytes_eq name (codes "clean") then option_map Clean (dir_words clean_line words)
    else (if bytes_eq name (codes "lspawn") then option_map Lspawn (dir_words lspawn_line words)
    else (if bytes_eq name (codes "rspawn") then option_map Rspawn (rspawn_words words)
    else (if bytes_eq name (codes "local") then option_map Local (local_words words)
    else (if bytes_eq name (codes "make") then option_map Make (make_words words)
    else (if bytes_eq name (codes "work") then option_map Work (work_words words)
    else (if bytes_eq name (codes "qmqpd") then option_map Qmqpd (qmqpd_words words) else None)))))))))

-- the command that the first word names
abbrev pub command_named : Option Text → List Text → Option Command
command_named None words = None
command_named (Some name) words = if bytes_eq name (codes "play") then play_words words else others_named name words

-- the command that the words are, if they are one
unfoldable pub command_of : List Text → Option Command
command_of words = command_named (slice_get words 0) words

-- the words are this command
abbrev pub Reads : List Text → Command → Type 0
Reads words command = command_of words ≡ Some command

-- the words are no command
abbrev pub IsNoCommand : List Text → Type 0
IsNoCommand words = command_of words ≡ None

-- a word that doesn't begin with `-` (45)
abbrev pub IsNoOption : Text → Type 0
IsNoOption word = slice_get word 0 ≢ Some 45
