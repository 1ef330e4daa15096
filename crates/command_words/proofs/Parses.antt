-- A parse by a simple clap command, and what it says of the words.
use Rattle.std.proofs.Common.{◌≡◌, ◌≢◌, ◌&&◌, ℕ, Bool, true, false, List, [], ◌∷◌, Option, Some, None, Ok, Err, codes, cond, option_and_then, option_map, refl, sym, ap, ◌∙◌, ⊎_elim, rules}
use Rattle.clap.specs.Walk.{is_empty}
use Rattle.clap.specs.Words.{App, FailsBy, HasMatchesOf, IsAmong, Kinds, Row, Text, fault_of, first_of, first_value, found_of, is_simple, is_simple_and_free, kind_of, matches_of, rows_of}
use Rattle.clap.specs.declared.error.Error.{Error}
use Rattle.clap.specs.declared.error.kind.ErrorKind.{ErrorKind}
use Rattle.clap.specs.declared.error.kind.ErrorKind.TheVariants.{OutOfMemory}
use Rattle.clap.specs.declared.parser.matches.ArgMatches.{ArgMatches}
use Rattle.clap.specs.declared.parser.matches.Found.{Found}
use Rattle.clap.proofs.WalkLemmas.{first_value-rows}
use Rattle.call_fs.specs.declared.past.DeliveryWordsData.{DeliveryWordsData}
use Rattle.command_words.specs.Lines.{local_line, make_line, play_line, qmqpd_line, queue_line, rspawn_line, send_line, takes_words, work_line}
use Rattle.command_words.specs.declared.command.Command.TheVariants.{Play, Queue}
use Rattle.command_words.specs.declared.command.QmqpdWords.{QmqpdWords}
use Rattle.command_words.specs.declared.command.QueueWords.{QueueWords}
use Rattle.command_words.specs.declared.command.RspawnWords.{RspawnWords}
use Rattle.command_words.specs.Delivery.{delivery_told, local_told, local_told_by, local_words, marked, told_as}
use Rattle.command_words.specs.Numbers.{number_below, turns_of, uid_of, threads_of}
use Rattle.command_words.specs.Reads.{dir_words, env_of, is_on, make_words, maker_told, maker_told_by, play_words, qmqpd_words, queue_words, receiver_told, receiver_told_by, rspawn_words, send_words, sender_told, sender_told_by, spawner_told, spawner_told_by, told, told_by, work_words}

-- an `Ok` says that no step failed
pub taken : (a line : App) (words : List Text) (m : ArgMatches) → a ≡ line → is_simple_and_free line ≡ true → (is_simple_and_free a ≡ true → FailsBy (fault_of a words) (Ok m)) → takes_words line words ≡ true
taken a line words m is simple kinds =
    ap (λ b. b && is_empty (fault_of line words)) simple
    ∙ ap is_empty (ap (λ (x : App). fault_of x words) (sym is) ∙ kinds (ap is_simple_and_free is ∙ simple))

some_kind : (k : ErrorKind) (ks : Kinds) → IsAmong k ks → is_empty ks ≡ false
some_kind k [] among = absurd among
some_kind k (x ∷ ks) among = search rules

-- an `Err` for another reason than memory says that a step failed
pub refused : (a line : App) (words : List Text) (e : Error) → a ≡ line → is_simple_and_free line ≡ true → (is_simple_and_free a ≡ true → FailsBy {T = ArgMatches} (fault_of a words) (Err e))
    → kind_of e ≢ OutOfMemory → takes_words line words ≡ false
refused a line words e is simple kinds other =
    ap (λ b. b && is_empty (fault_of line words)) simple
    ∙ ap (λ (x : App). is_empty (fault_of x words)) (sym is)
    ∙ ⊎_elim (λ memory. absurd (other memory)) (some_kind (kind_of e) (fault_of a words)) (kinds (ap is_simple_and_free is ∙ simple))

-- what `queue` is told depends on four values alone
told-same : (a b c d x y z w : Option Text) → a ≡ x → b ≡ y → c ≡ z → d ≡ w → told a b (uid_of c) (is_on d) ≡ told x y (uid_of z) (is_on w)
told-same a b c d x y z w p q r s =
    ap (λ v. told v b (uid_of c) (is_on d)) p
    ∙ ap (λ v. told x v (uid_of c) (is_on d)) q
    ∙ ap (λ v. told x y (uid_of v) (is_on d)) r
    ∙ ap (λ v. told x y (uid_of z) (is_on v)) s

-- what `queue` is told, by what the getters of the matches read
pub told_by-found : (found : Found) (env dir uid bounce : Option Text) → env ≡ first_value found (codes "env") → dir ≡ first_value found (codes "dir") → uid ≡ first_value found (codes "uid")
    → bounce ≡ first_value found (codes "bounce") → told_by (rows_of found) ≡ told env dir (uid_of uid) (is_on bounce)
told_by-found found env dir uid bounce e d u b =
    told-same _ _ _ _ env dir uid bounce
    (sym (e ∙ first_value-rows found (codes "env")))
    (sym (d ∙ first_value-rows found (codes "dir")))
    (sym (u ∙ first_value-rows found (codes "uid")))
    (sym (b ∙ first_value-rows found (codes "bounce")))

-- the words of `play`, by whether clap takes them
pub play_read : (words : List Text) (takes : Bool) → takes_words play_line words ≡ takes → play_words words ≡ cond takes (Some Play) None
unfolding play_words
play_read words takes is = ap (λ t. cond t (Some Play) None) is

-- the words of `queue` that are taken tell it what clap found
pub queue_read : (words : List Text) (rows : List Row) (queue : Option QueueWords) → takes_words queue_line words ≡ true → rows ≡ matches_of queue_line words → queue ≡ told_by rows
    → queue_words words ≡ option_map Queue queue
unfolding queue_words
queue_read words rows queue takes is told =
    ap (λ t. cond t (option_map Queue (told_by (matches_of queue_line words))) None) takes ∙ ap (λ x. option_map Queue (told_by x)) (sym is) ∙ ap (option_map Queue) (sym told)

-- words that aren't taken are no command
pub queue_refused : (words : List Text) → takes_words queue_line words ≡ false → queue_words words ≡ None
unfolding queue_words
queue_refused words refuses = ap (λ t. cond t (option_map Queue (told_by (matches_of queue_line words))) None) refuses

-- the words that are taken tell the directory that clap found
pub dir_read : (line : App) (words : List Text) (found : Found) (dir : Option Text) → takes_words line words ≡ true → rows_of found ≡ matches_of line words → dir ≡ first_value found (codes "dir")
    → dir_words line words ≡ dir
unfolding dir_words
dir_read line words found dir takes is read =
    ap (λ t. cond t (first_of (codes "dir") (matches_of line words)) None) takes
    ∙ ap (λ rows. first_of (codes "dir") rows) (sym is)
    ∙ sym (read ∙ first_value-rows found (codes "dir"))

pub dir_refused : (line : App) (words : List Text) → takes_words line words ≡ false → dir_words line words ≡ None
unfolding dir_words
dir_refused line words refuses = ap (λ t. cond t (first_of (codes "dir") (matches_of line words)) None) refuses

-- the words of `rspawn` that are taken tell it what clap found; what it is told, by what the getters of the matches read
pub rspawn_read : (words : List Text) (rows : List Row) → takes_words rspawn_line words ≡ true → rows ≡ matches_of rspawn_line words → rspawn_words words ≡ spawner_told_by rows
unfolding rspawn_words
rspawn_read words rows takes is = ap (λ t. cond t (spawner_told_by (matches_of rspawn_line words)) None) takes ∙ ap spawner_told_by (sym is)

pub rspawn_refused : (words : List Text) → takes_words rspawn_line words ≡ false → rspawn_words words ≡ None
unfolding rspawn_words
rspawn_refused words refuses = ap (λ t. cond t (spawner_told_by (matches_of rspawn_line words)) None) refuses

pub spawner_found : (found : Found) (dir program : Option Text) → dir ≡ first_value found (codes "dir") → program ≡ first_value found (codes "program") → spawner_told_by (rows_of found) ≡ spawner_told dir program
spawner_found found dir program d p =
    ap (λ x. spawner_told x (first_of (codes "program") (rows_of found))) (sym (d ∙ first_value-rows found (codes "dir")))
    ∙ ap (λ x. spawner_told dir x) (sym (p ∙ first_value-rows found (codes "program")))

pub no_program : (dir : Option Text) → spawner_told dir None ≡ None
no_program None = refl
no_program (Some dir) = refl

-- the words of `send` that are taken tell it what clap found; what it is told, by what the getters of the matches read
pub send_read : (words : List Text) (rows : List Row) → takes_words send_line words ≡ true → rows ≡ matches_of send_line words → send_words words ≡ sender_told_by rows
unfolding send_words
send_read words rows takes is = ap (λ t. cond t (sender_told_by (matches_of send_line words)) None) takes ∙ ap sender_told_by (sym is)

pub send_refused : (words : List Text) → takes_words send_line words ≡ false → send_words words ≡ None
unfolding send_words
send_refused words refuses = ap (λ t. cond t (sender_told_by (matches_of send_line words)) None) refuses

sender_found : (found : Found) (turns : Option Text) → turns ≡ first_value found (codes "turns") → sender_told_by (rows_of found) ≡ sender_told (spawner_told_by (rows_of found)) (turns_of turns)
sender_found found turns t = ap (λ x. sender_told (spawner_told_by (rows_of found)) (turns_of x)) (sym (t ∙ first_value-rows found (codes "turns")))

no_turns : (told : Option RspawnWords) → sender_told told None ≡ None
no_turns None = refl
no_turns (Some told) = refl

-- without turns, or without one of the words, it is told nothing
pub turns_lacked : (found : Found) (turns : Option Text) (number : Option ℕ) → turns ≡ first_value found (codes "turns") → number ≡ turns_of turns → number ≡ None → sender_told_by (rows_of found) ≡ None
turns_lacked found turns number t is none =
    sender_found found turns t ∙ ap (sender_told (spawner_told_by (rows_of found))) (sym is ∙ none) ∙ no_turns (spawner_told_by (rows_of found))

pub words_lacked : (found : Found) (turns : Option Text) → turns ≡ first_value found (codes "turns") → spawner_told_by (rows_of found) ≡ None → sender_told_by (rows_of found) ≡ None
words_lacked found turns t none = sender_found found turns t ∙ ap (λ o. sender_told o (turns_of turns)) none

pub all_told : (found : Found) (turns : Option Text) (number : Option ℕ) (told : RspawnWords) (n : ℕ) → turns ≡ first_value found (codes "turns") → number ≡ turns_of turns → number ≡ Some n → spawner_told_by (rows_of found) ≡ Some told
    → sender_told_by (rows_of found) ≡ Some (record { dir = told.dir; program = told.program; turns = n })
all_told found turns number told n t is some both =
    sender_found found turns t ∙ ap (λ o. sender_told o (turns_of turns)) both ∙ ap (sender_told (Some told)) (sym is ∙ some)

-- the words of `make` that are taken tell it what clap found; what it is told, by what the getters of the matches read
pub make_read : (words : List Text) (rows : List Row) → takes_words make_line words ≡ true → rows ≡ matches_of make_line words → make_words words ≡ maker_told_by rows
unfolding make_words
make_read words rows takes is = ap (λ t. cond t (maker_told_by (matches_of make_line words)) None) takes ∙ ap maker_told_by (sym is)

pub make_refused : (words : List Text) → takes_words make_line words ≡ false → make_words words ≡ None
unfolding make_words
make_refused words refuses = ap (λ t. cond t (maker_told_by (matches_of make_line words)) None) refuses

-- a number that a getter of the matches reads
number_found : (found : Found) (id : Text) (limit : ℕ) (text : Option Text) (number : Option ℕ) → text ≡ first_value found id → number ≡ number_below limit text → number_below limit (first_of id (rows_of found)) ≡ number
number_found found id limit text number t is = ap (number_below limit) (sym (t ∙ first_value-rows found id)) ∙ sym is

no_count : (seed : Option ℕ) → maker_told seed None ≡ None
no_count None = refl
no_count (Some seed) = refl

no_seed : (count : Option ℕ) → maker_told None count ≡ None
no_seed None = refl
no_seed (Some count) = refl

-- without one of its numbers it is told nothing
pub seed_lacked : (found : Found) (text : Option Text) (number : Option ℕ) → text ≡ first_value found (codes "seed") → number ≡ number_below 65537 text → number ≡ None → maker_told_by (rows_of found) ≡ None
seed_lacked found text number t is none =
    let count = number_below 100001 (first_of (codes "count") (rows_of found)) in
    ap (λ o. maker_told o count) (number_found found (codes "seed") 65537 text number t is ∙ none) ∙ no_seed count

pub count_lacked : (found : Found) (text : Option Text) (number : Option ℕ) → text ≡ first_value found (codes "count") → number ≡ number_below 100001 text → number ≡ None → maker_told_by (rows_of found) ≡ None
count_lacked found text number t is none =
    let seed = number_below 65537 (first_of (codes "seed") (rows_of found)) in
    ap (maker_told seed) (number_found found (codes "count") 100001 text number t is ∙ none) ∙ no_count seed

pub both_told : (found : Found) (first second : Option Text) (seed count : Option ℕ) (s n : ℕ) → first ≡ first_value found (codes "seed") → seed ≡ number_below 65537 first → seed ≡ Some s
    → second ≡ first_value found (codes "count") → count ≡ number_below 100001 second → count ≡ Some n → maker_told_by (rows_of found) ≡ Some (record { seed = s; count = n })
both_told found first second seed count s n f of_seed has_seed g of_count has_count =
    ap (λ o. maker_told o (number_below 100001 (first_of (codes "count") (rows_of found)))) (number_found found (codes "seed") 65537 first seed f of_seed ∙ has_seed)
    ∙ ap (maker_told (Some s)) (number_found found (codes "count") 100001 second count g of_count ∙ has_count)

-- the words of `work` that are taken tell it what clap found
pub work_read : (words : List Text) (found : Found) (threads : Option Text) (number : Option ℕ) → takes_words work_line words ≡ true → rows_of found ≡ matches_of work_line words → threads ≡ first_value found (codes "threads") → number ≡ threads_of threads
    → work_words words ≡ number
unfolding work_words
work_read words found threads number takes is read told =
    ap (λ t. cond t (threads_of (first_of (codes "threads") (matches_of work_line words))) None) takes
    ∙ ap (λ rows. threads_of (first_of (codes "threads") rows)) (sym is)
    ∙ ap threads_of (sym (read ∙ first_value-rows found (codes "threads")))
    ∙ sym told

pub work_refused : (words : List Text) → takes_words work_line words ≡ false → work_words words ≡ None
unfolding work_words
work_refused words refuses = ap (λ t. cond t (threads_of (first_of (codes "threads") (matches_of work_line words))) None) refuses

-- the words of `qmqpd` that are taken tell it what clap found; what it is told, by what the getters of the matches read
pub qmqpd_read : (words : List Text) (rows : List Row) → takes_words qmqpd_line words ≡ true → rows ≡ matches_of qmqpd_line words → qmqpd_words words ≡ receiver_told_by rows
unfolding qmqpd_words
qmqpd_read words rows takes is = ap (λ t. cond t (receiver_told_by (matches_of qmqpd_line words)) None) takes ∙ ap receiver_told_by (sym is)

pub qmqpd_refused : (words : List Text) → takes_words qmqpd_line words ≡ false → qmqpd_words words ≡ None
unfolding qmqpd_words
qmqpd_refused words refuses = ap (λ t. cond t (receiver_told_by (matches_of qmqpd_line words)) None) refuses

pub receiver_found : (found : Found) (dir uid : Option Text) (number : Option ℕ) → dir ≡ first_value found (codes "dir") → uid ≡ first_value found (codes "uid") → number ≡ uid_of uid
    → receiver_told_by (rows_of found) ≡ receiver_told dir number
receiver_found found dir uid number d u n =
    ap (λ x. receiver_told x (uid_of (first_of (codes "uid") (rows_of found)))) (sym (d ∙ first_value-rows found (codes "dir")))
    ∙ ap (λ x. receiver_told dir (uid_of x)) (sym (u ∙ first_value-rows found (codes "uid")))
    ∙ ap (receiver_told dir) (sym n)

pub no_receiver : (dir : Option Text) → receiver_told dir None ≡ None
no_receiver None = refl
no_receiver (Some dir) = refl

-- the words of `local` that are taken tell it what clap found; what it is told, by what the getters of the matches read
pub local_read : (words : List Text) (rows : List Row) → takes_words local_line words ≡ true → rows ≡ matches_of local_line words → local_words words ≡ local_told_by rows
unfolding local_words
local_read words rows takes is = ap (λ t. cond t (local_told_by (matches_of local_line words)) None) takes ∙ ap local_told_by (sym is)

pub local_refused : (words : List Text) → takes_words local_line words ≡ false → local_words words ≡ None
unfolding local_words
local_refused words refuses = ap (λ t. cond t (local_told_by (matches_of local_line words)) None) refuses

pub local_found : (found : Found) (dir uid : Option Text) → dir ≡ first_value found (codes "dir") → uid ≡ first_value found (codes "uid") → local_told_by (rows_of found) ≡ local_told dir (delivery_told (rows_of found)) (uid_of uid)
local_found found dir uid d u =
    ap (λ x. local_told x (delivery_told (rows_of found)) (uid_of (first_of (codes "uid") (rows_of found)))) (sym (d ∙ first_value-rows found (codes "dir")))
    ∙ ap (λ x. local_told dir (delivery_told (rows_of found)) (uid_of x)) (sym (u ∙ first_value-rows found (codes "uid")))

pub no_user : (dir : Option Text) (words : Option DeliveryWordsData) → local_told dir words None ≡ None
no_user None words = refl
no_user (Some dir) None = refl
no_user (Some dir) (Some words) = refl

no_delivery : (dir : Option Text) (uid : Option ℕ) → local_told dir None uid ≡ None
no_delivery None uid = refl
no_delivery (Some dir) uid = refl

pub bad_delivery : (found : Found) (dir uid : Option Text) → dir ≡ first_value found (codes "dir") → uid ≡ first_value found (codes "uid") → delivery_told (rows_of found) ≡ None → local_told_by (rows_of found) ≡ None
bad_delivery found dir uid d u none = local_found found dir uid d u ∙ ap (λ w. local_told dir w (uid_of uid)) none ∙ no_delivery dir (uid_of uid)

-- what a word stands for that a getter of the matches reads
pub word_found : (found : Found) (id : Text) (word : Option Text) → word ≡ first_value found id → told_as id (rows_of found) ≡ option_and_then marked word
word_found found id word is = ap (option_and_then marked) (sym (is ∙ first_value-rows found id))

-- the matches of a command are those of its words
pub matched : (a line : App) (words : List Text) (m : ArgMatches) → a ≡ line → is_simple line ≡ true → HasMatchesOf a words m → rows_of (found_of m) ≡ matches_of line words
matched a line words m is simple has = (has (ap is_simple is ∙ simple)).0 ∙ ap (λ (x : App). matches_of x words) is

-- a word that is missing, or a user that is no number, tells nothing; else the four values are told
pub told_all : (env dir : Text) (uid : ℕ) (bounce : Bool) (e : Option Text) (d : Text) (b : Bool) (number : Option ℕ) → e ≡ env_of env → d ≡ dir → b ≡ bounce → number ≡ Some uid
    → told (Some env) (Some dir) number bounce ≡ Some (record { env = e; dir = d; uid = uid; bounce = b })
told_all env dir uid bounce e d b number p q r s =
    let queue : Option Text → Text → Bool → Option QueueWords = λ x y z. Some (record { env = x; dir = y; uid = uid; bounce = z }) in
    ap (λ n. told (Some env) (Some dir) n bounce) s
    ∙ ap (λ x. queue x dir bounce) (sym p)
    ∙ ap (λ y. queue e y bounce) (sym q)
    ∙ ap (λ z. queue e d z) (sym r)
