-- The simple clap commands, by which the words of a command are read. Such a command drops the first word, which names it.
use Rattle.std.specs.Prelude.{◌&&◌, Bool, true, List, Some, codes}
use Rattle.clap.specs.Words.{App, Rule, Text, new_app, new_rule, with_rule, fault_of, is_simple_and_free}
use Rattle.clap.specs.Walk.{is_empty}
use Rattle.clap.specs.declared.builder.action.ArgAction.TheVariants.{SetTrue}
use Rattle.clap.specs.declared.builder.value_parser.ValueParser.TheVariants.{NonEmptyString}

-- a word that has to stand, in its place
abbrev pub word_rule : Text → Rule
word_rule id = record (new_rule id) { required = true }

-- `--ID WORD` or `--ID=WORD`
abbrev pub option_rule : Text → Rule
option_rule id = record (new_rule id) { long = Some id }

-- `--ID`
abbrev pub flag_rule : Text → Rule
flag_rule id = record (new_rule id) { long = Some id; action = Some SetTrue }

-- `play`
abbrev pub play_line : App
play_line = new_app (codes "play")

-- `queue ENV DIR --uid N --bounce`
abbrev pub queue_line : App
queue_line =
    with_rule (with_rule (with_rule (with_rule (new_app (codes "queue")) (word_rule (codes "env"))) (word_rule (codes "dir"))) (option_rule (codes "uid"))) (flag_rule (codes "bounce"))

-- `qmqpd DIR --uid N`
abbrev pub qmqpd_line : App
qmqpd_line = with_rule (with_rule (new_app (codes "qmqpd")) (word_rule (codes "dir"))) (option_rule (codes "uid"))

-- `audit DIR`
abbrev pub audit_line : App
audit_line = with_rule (new_app (codes "audit")) (word_rule (codes "dir"))

-- `clean DIR`
abbrev pub clean_line : App
clean_line = with_rule (new_app (codes "clean")) (word_rule (codes "dir"))

-- one more word that has to stand
abbrev pub with_word : App → Text → App
with_word line id = with_rule line (word_rule id)

-- `lspawn DIR`
abbrev pub lspawn_line : App
lspawn_line = with_word (new_app (codes "lspawn")) (codes "dir")

-- the word of a program; the empty one is none
abbrev pub with_program : App → App
with_program line = with_rule line (record (word_rule (codes "program")) { parser = Some NonEmptyString })

-- `rspawn DIR PROGRAM`
abbrev pub rspawn_line : App
rspawn_line = with_program (with_word (new_app (codes "rspawn")) (codes "dir"))

-- `send DIR PROGRAM --turns N`
abbrev pub send_line : App
send_line = with_rule (with_program (with_word (new_app (codes "send")) (codes "dir"))) (option_rule (codes "turns"))

-- `make SEED COUNT`
abbrev pub make_line : App
make_line = with_word (with_word (new_app (codes "make")) (codes "seed")) (codes "count")

-- `work --threads N`
abbrev pub work_line : App
work_line = with_rule (new_app (codes "work")) (option_rule (codes "threads"))

-- `local DIR =USER =HOME =LOCAL =DASH =EXT =DOMAIN =SENDER =LINE --uid N`
abbrev pub local_line : App
local_line =
    let user = with_word (with_word (new_app (codes "local")) (codes "dir")) (codes "user") in
    let dash = with_word (with_word (with_word user (codes "home")) (codes "local")) (codes "dash") in
    let sender = with_word (with_word (with_word dash (codes "ext")) (codes "domain")) (codes "sender") in
    with_rule (with_word sender (codes "line")) (option_rule (codes "uid"))

-- clap reads the words by this simple command, and no step of that fails
abbrev pub takes_words : App → List Text → Bool
takes_words line words = is_simple_and_free line && is_empty (fault_of line words)
