use Rattle.std.proofs.Common.{◌≡◌, ℕ, List, [], Option, Some, None, true, false, codes, option_and_then, option_map, refl, ap, ap₂, arith, rules}
use Rattle.std.proofs.lemmas.List.Elements.{All-from_recursion}
use Rattle.mail_bytes.specs.Decimal.{IsDigit, digits, number_of, value}
use Rattle.mail_bytes.proofs.Digits.{number_of_text}
use Rattle.call_fs.specs.declared.past.DeliveryWordsData.{DeliveryWordsData}
use Rattle.clap.proofs.OnLiterals.{clap_on_literals}
use Rattle.command_words.specs.declared.command.Command.{Command}
use Rattle.command_words.specs.declared.command.Command.TheVariants.{Make, Queue, Qmqpd, Send, Local, Work}
use Rattle.command_words.specs.Delivery.{local_told, local_words}
use Rattle.command_words.specs.Numbers.{as_below, as_turns, as_u32, as_threads}
use Rattle.command_words.specs.Reads.{dir_words, command_of, make_words, maker_told, play_words, qmqpd_words, queue_words, receiver_told, rspawn_words, send_words, sender_told, told, work_words}
use Rattle.command_words.proofs.laws.words_by_row.Goals as goal

-- Numbers that are written out. The digits of a large one aren't computed.

zero_is : number_of (codes "0") ≡ Some 0
unfolding number_of value digits
zero_is = refl

five_is : number_of (codes "5") ≡ Some 5
unfolding number_of value digits
five_is = refl

seven_is : number_of (codes "7") ≡ Some 7
unfolding number_of value digits
seven_is = refl

thousand_is : number_of (codes "1000") ≡ Some 1000
unfolding number_of value digits
thousand_is = refl

none_is : number_of (codes "01") ≡ None
unfolding number_of value digits
none_is = refl

no_thread_is : number_of (codes "02") ≡ None
unfolding number_of value digits
no_thread_is = refl

sixteen_is : number_of (codes "16") ≡ Some 16
unfolding number_of value digits
sixteen_is = refl

seventeen_is : number_of (codes "17") ≡ Some 17
unfolding number_of value digits
seventeen_is = refl

most_is : number_of (codes "1000000") ≡ Some 1000000
unfolding value
most_is = number_of_text (codes "1000000") (record {
  some = omega arith;
  only = All-from_recursion IsDigit (codes "1000000") (search rules);
  no_zero = λ e. absurd (omega arith);
  fits = omega arith;
})

too_many_is : number_of (codes "1000001") ≡ Some 1000001
unfolding value
too_many_is = number_of_text (codes "1000001") (record {
  some = omega arith;
  only = All-from_recursion IsDigit (codes "1000001") (search rules);
  no_zero = λ e. absurd (omega arith);
  fits = omega arith;
})

past_seeds_is : number_of (codes "65537") ≡ Some 65537
unfolding value
past_seeds_is = number_of_text (codes "65537") (record {
  some = omega arith;
  only = All-from_recursion IsDigit (codes "65537") (search rules);
  no_zero = λ e. absurd (omega arith);
  fits = omega arith;
})

past_counts_is : number_of (codes "100001") ≡ Some 100001
unfolding value
past_counts_is = number_of_text (codes "100001") (record {
  some = omega arith;
  only = All-from_recursion IsDigit (codes "100001") (search rules);
  no_zero = λ e. absurd (omega arith);
  fits = omega arith;
})

pub returns : goal.returns
unfolding command_of play_words qmqpd_words queue_words dir_words rspawn_words send_words make_words local_words work_words clap_on_literals
returns c =
    let maker : Option ℕ → Option ℕ → Option Command = λ seed count. option_map Make (maker_told (option_and_then (as_below 65537) seed) (option_and_then (as_below 100001) count)) in
    let sender : List ℕ → Option ℕ → Option Command = λ program number. option_map Send (sender_told (Some (record { dir = codes "DIR"; program = program })) (option_and_then as_turns number)) in
    let queue : Option ℕ → Option Command = λ number. option_map Queue (told (Some (codes "-")) (Some (codes "DIR")) (option_and_then as_u32 number) false) in
    let bounce : Option ℕ → Option Command = λ number. option_map Queue (told (Some (codes "-")) (Some (codes "DIR")) (option_and_then as_u32 number) true) in
    let receiver : Option ℕ → Option Command = λ number. option_map Qmqpd (receiver_told (Some (codes "DIR")) (option_and_then as_u32 number)) in
    let work : Option ℕ → Option Command = λ number. option_map Work (option_and_then as_threads number) in
    let delivery : DeliveryWordsData = record {
      user = codes "j";
      home = codes "home/j";
      local = codes "j";
      dash = [];
      ext = [];
      domain = codes "x";
      sender = codes "a@x";
      line = codes "./Maildir/";
    } in
    let local : Option ℕ → Option Command = λ number. option_map Local (local_told (Some (codes "DIR")) (Some delivery) (option_and_then as_u32 number)) in
    record {
      play = refl;
      queue = refl;
      file = refl;
      options = ap bounce seven_is;
      qmqpd = refl;
      qmqpd_user = ap receiver thousand_is;
      qmqpd_no_directory = refl;
      qmqpd_zero = ap receiver none_is;
      send = ap (sender (codes "PROGRAM")) five_is;
      turns_first = ap (sender (codes "-p")) most_is;
      no_turns = refl;
      zero_turns = ap (sender (codes "PROGRAM")) zero_is;
      too_many_turns = ap (sender (codes "PROGRAM")) too_many_is;
      send_no_program = refl;
      make = ap₂ maker seven_is five_is;
      make_no_count = refl;
      make_extra = refl;
      seed_zero = ap₂ maker none_is five_is;
      seed_too_great = ap₂ maker past_seeds_is five_is;
      too_many_mails = ap₂ maker seven_is past_counts_is;
      audit = refl;
      audit_no_directory = refl;
      audit_extra = refl;
      clean = refl;
      clean_no_directory = refl;
      lspawn = refl;
      rspawn = refl;
      no_program = refl;
      empty_program = refl;
      local = ap local thousand_is;
      unmarked = refl;
      bad_escape = refl;
      work = refl;
      threads = ap work sixteen_is;
      no_threads = ap work zero_is;
      too_many_threads = ap work seventeen_is;
      thread_zero = ap work no_thread_is;
      work_extra = refl;
      help = refl;
      version = refl;
      no_directory = refl;
      extra = refl;
      zero = ap queue none_is;
      twice = refl;
      unknown = refl;
      nothing = refl;
    }
