-- What a sender knows of a message after its pass, and of the others.
use Rattle.std.proofs.Common.{◌≡◌, ◌≢◌, ◌⊎◌, ℕ, sym, subst, ⊎_elim}
use Rattle.queue_paths.specs.Names.{Name}
use Rattle.queue_paths.specs.Names.Name.{Of}
use Rattle.queue_paths.specs.Names.Part.{Intd, Todo}
use Rattle.send_known.specs.declared.channel.Channel.{Channel}
use Rattle.send_known.specs.declared.channel.Channel.TheVariants as channel
use Rattle.queue_law.specs.Numbers.{look}
use Rattle.queue_law.specs.Routes.{lane_part}
use Rattle.queue_law.proofs.Changes.{unlinks_one}
use Rattle.program_law.specs.Sender.Knows.{has_file, IsThereIf}
use Rattle.program_law.specs.Sender.Searches.{UnlinksLeaveLearned, DoneIsKnown}

pub done_is_known : DoneIsKnown
done_is_known now q n k R E =
    let P = R.rest in
    record {
      known = record {
        sorted = record { no_todo = P.no_todo; info = P.info; info_there = P.info_there; injection = E.injection; lives = E.lives };
        sender_is = E.sender_is;
        gone = λ ch none. subst (λ b. IsThereIf b (look q (Of (lane_part ch) n))) none (E.files ch);
      };
      due = λ ch some. let w = subst (λ b. IsThereIf b (look q (Of (lane_part ch) n))) some (E.files ch) in record {
        sorted = record { no_todo = P.no_todo; info = P.info; info_there = P.info_there; injection = E.injection; lives = E.lives };
        file = w.0;
        there = w.1;
      };
    }

lane_is_far : (ch : Channel) (n m : ℕ) (x : Name) → (x ≡ Of Intd m) ⊎ (x ≡ Of Todo m) → Of (lane_part ch) n ≢ x
lane_is_far channel.Local n m x is same = ⊎_elim (λ w. cc) (λ w. cc) is
lane_is_far channel.Remote n m x is same = ⊎_elim (λ w. cc) (λ w. cc) is

pub unlinks_leave_learned : UnlinksLeaveLearned
unlinks_leave_learned q a read n m told wrote x k is fits E = record {
  injection = E.injection;
  lives = E.lives;
  sender_is = E.sender_is;
  files = λ ch. subst (IsThereIf (has_file ch k)) (sym ((unlinks_one q a read x told wrote fits).others (Of (lane_part ch) n) (lane_is_far ch n m x is))) (E.files ch);
}
