-- Numbers that words tell are in range.
use Rattle.std.proofs.Common.{◌≡◌, ◌<◌, ◌≤◌, ◌&&◌, ℕ, Bool, true, false, List, Option, Some, None, bytes_eq, cond, codes, nat_lt, option_and_then, option_map, refl, subst, slice_get, arith}
use Rattle.std.proofs.lemmas.Bool.{ltb-true}
use Rattle.mail_bytes.specs.Decimal.{number_of}
use Rattle.clap.specs.Words.{first_of, matches_of}
use Rattle.clap.specs.Walk.{Text}
use Rattle.command_words.specs.declared.command.Command.{Command}
use Rattle.command_words.specs.declared.command.Command.TheVariants.{Play, Make, Queue, Qmqpd, Send, Audit, Clean, Lspawn, Rspawn, Local, Work}
use Rattle.command_words.specs.declared.command.MakeWords.{MakeWords}
use Rattle.command_words.specs.Delivery.{local_words}
use Rattle.command_words.specs.Lines.{audit_line, clean_line, lspawn_line, make_line, play_line, queue_line, takes_words, work_line}
use Rattle.command_words.specs.Numbers.{as_below, as_threads, number_below, threads_of}
use Rattle.command_words.specs.Reads.{Reads, command_named, command_of, dir_words, make_words, maker_told, others_named, play_words, qmqpd_words, queue_words, rspawn_words, send_words, told_by, work_words}

abbrev InRange : Option Command → Type 0
InRange None = Unit {0}
InRange (Some Play) = Unit {0}
InRange (Some (Make told)) = (told.seed ≤ 65536) × (told.count ≤ 100000)
InRange (Some (Queue told)) = Unit {0}
InRange (Some (Qmqpd told)) = Unit {0}
InRange (Some (Send told)) = Unit {0}
InRange (Some (Audit dir)) = Unit {0}
InRange (Some (Clean dir)) = Unit {0}
InRange (Some (Lspawn dir)) = Unit {0}
InRange (Some (Rspawn told)) = Unit {0}
InRange (Some (Local told)) = Unit {0}
InRange (Some (Work threads)) = (1 ≤ threads) × (threads ≤ 16)

by_choice : (b : Bool) (here there : Option Command) → InRange here → InRange there → InRange (cond b here there)
by_choice true here there h k = h
by_choice false here there h k = k

mapped : {A : Type 0} (make : A → Command) (told : Option A) → ((x : A) → InRange (Some (make x))) → InRange (option_map make told)
mapped make None each = tt
mapped make (Some x) each = each x

below_by : (b : Bool) (m limit n : ℕ) → nat_lt m limit ≡ b → cond b (Some m) None ≡ Some n → n < limit
below_by true m limit n is e = let less = ltb-true m limit is in let same : m ≡ n = cc in omega (arith, less, same)
below_by false m limit n is e = absurd (cc)

below_read : (limit : ℕ) (read : Option ℕ) (n : ℕ) → option_and_then (as_below limit) read ≡ Some n → n < limit
below_read limit None n e = absurd (cc)
below_read limit (Some m) n e = below_by (nat_lt m limit) m limit n refl e

below : (limit : ℕ) (text : Option Text) (n : ℕ) → number_below limit text ≡ Some n → n < limit
below limit None n e = absurd (cc)
below limit (Some text) n e = below_read limit (number_of text) n e

both : (seed count : Option ℕ) → ((n : ℕ) → seed ≡ Some n → n < 65537) → ((n : ℕ) → count ≡ Some n → n < 100001) → InRange (option_map Make (maker_told seed count))
both None None few fits = tt
both None (Some count) few fits = tt
both (Some seed) None few fits = tt
both (Some seed) (Some count) few fits = let small = few seed refl in let less = fits count refl in (omega (arith, small), omega (arith, less))

-- whether clap takes the words
if_taken : (takes : Bool) (seed count : Option Text) → InRange (option_map Make (cond takes (maker_told (number_below 65537 seed) (number_below 100001 count)) None))
if_taken true seed count = both (number_below 65537 seed) (number_below 100001 count) (below 65537 seed) (below 100001 count)
if_taken false seed count = tt

make_in : (words : List Text) → InRange (option_map Make (make_words words))
unfolding make_words
make_in words = if_taken (takes_words make_line words) (first_of (codes "seed") (matches_of make_line words)) (first_of (codes "count") (matches_of make_line words))

-- how many threads a number is

between_by : (above fits : Bool) (m : ℕ) → nat_lt 0 m ≡ above → nat_lt m 17 ≡ fits → InRange (option_map Work (cond (above && fits) (Some m) None))
between_by true true m few is = let some = ltb-true 0 m few in let less = ltb-true m 17 is in (omega (arith, some), omega (arith, less))
between_by true false m few is = tt
between_by false fits m few is = tt

threads_read : (read : Option ℕ) → InRange (option_map Work (option_and_then as_threads read))
threads_read None = tt
threads_read (Some m) = between_by (nat_lt 0 m) (nat_lt m 17) m refl refl

threads_in : (text : Option Text) → InRange (option_map Work (threads_of text))
threads_in None = (omega arith, omega arith)
threads_in (Some text) = threads_read (number_of text)

work_taken : (takes : Bool) (text : Option Text) → InRange (option_map Work (cond takes (threads_of text) None))
work_taken true text = threads_in text
work_taken false text = tt

work_in : (words : List Text) → InRange (option_map Work (work_words words))
unfolding work_words
work_in words = work_taken (takes_words work_line words) (first_of (codes "threads") (matches_of work_line words))

play_in : (words : List Text) → InRange (play_words words)
unfolding play_words
play_in words = by_choice (takes_words play_line words) (Some Play) None tt tt

queue_in : (words : List Text) → InRange (queue_words words)
unfolding queue_words
queue_in words = by_choice (takes_words queue_line words) _ None (mapped Queue (told_by (matches_of queue_line words)) (λ x. tt)) tt

others_in : (name : Text) (words : List Text) → InRange (others_named name words)
others_in name words =
    by_choice (bytes_eq name (codes "queue")) _ _ (queue_in words)
    (by_choice (bytes_eq name (codes "send")) _ _ (mapped Send (send_words words) (λ x. tt))
    (by_choice (bytes_eq name (codes "audit")) _ _ (mapped Audit (dir_words audit_line words) (λ x. tt))
    (by_choice (bytes_eq name (codes "clean")) _ _ (mapped Clean (dir_words clean_line words) (λ x. tt))
    (by_choice (bytes_eq name (codes "lspawn")) _ _ (mapped Lspawn (dir_words lspawn_line words) (λ x. tt))
    (by_choice (bytes_eq name (codes "rspawn")) _ _ (mapped Rspawn (rspawn_words words) (λ x. tt))
    (by_choice (bytes_eq name (codes "local")) _ _ (mapped Local (local_words words) (λ x. tt))
    (by_choice (bytes_eq name (codes "make")) _ _ (make_in words)
    (by_choice (bytes_eq name (codes "work")) _ _ (work_in words)
    (by_choice (bytes_eq name (codes "qmqpd")) _ None (mapped Qmqpd (qmqpd_words words) (λ x. tt)) tt)))))))))

named_in : (first : Option Text) (words : List Text) → InRange (command_named first words)
named_in None words = tt
named_in (Some name) words = by_choice (bytes_eq name (codes "play")) _ _ (play_in words) (others_in name words)

pub make_range : (words : List Text) (told : MakeWords) → Reads words (Make told) → (told.seed ≤ 65536) × (told.count ≤ 100000)
unfolding command_of
make_range words told reads = subst InRange reads (named_in (slice_get words 0) words)

pub work_range : (words : List Text) (threads : ℕ) → Reads words (Work threads) → (1 ≤ threads) × (threads ≤ 16)
unfolding command_of
work_range words threads reads = subst InRange reads (named_in (slice_get words 0) words)
