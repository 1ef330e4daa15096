-- The number that an event of a sender concerns is one that no injector touches any more.
use Rattle.std.proofs.Common.{◌≡◌, inr, ℕ, Option, Some, None, subst}
use Rattle.send_known.specs.declared.channel.Channel.{Channel}
use Rattle.queue_law.specs.Numbers.{IsTaken, Queue, Sound, about}
use Rattle.queue_law.specs.Rests.{IsClosed}
use Rattle.queue_law.specs.Senders.{HasLane}
use Rattle.queue_law.proofs.Sends.{sorted_of_lane}

pub none_closed : (now : ℕ) (q : Queue) (n : ℕ) → ◌≡◌ {A = Option ℕ} None (Some n) → IsClosed now q n
none_closed now q n e = absurd (cc)

pub one_closed : (now : ℕ) (q : Queue) (m : ℕ) → IsClosed now q m → (n : ℕ) → ◌≡◌ {A = Option ℕ} (Some m) (Some n) → IsClosed now q n
one_closed now q m c n e = let same : m ≡ n = cc in subst (IsClosed now q) same c

-- a number whose message is accepted, while that is there
pub taken_closed : (now : ℕ) (q : Queue) (n : ℕ) → IsTaken (about q n) → IsClosed now q n
taken_closed now q n h = record {
  mess = h.mess;
  there = h.mess_there;
  shut = inr (record { injection = h.injection; lives = h.lives; accepted = h.accepted });
}

-- a preprocessed number, of which a channel file is there
pub lane_closed : (now : ℕ) (q : Queue) (n : ℕ) (ch : Channel) → Sound q → HasLane (about q n) ch → IsClosed now q n
lane_closed now q n ch G l = taken_closed now q n (sorted_of_lane (about q n) ch (G.fine n) l).taken
