-- When a number rests: what a program finds that makes it so.
use Rattle.std.specs.Prelude.{◌≡◌, ℕ, ◌+◌, ◌<◌, Some, None}
use Rattle.queue_paths.specs.Names.Name.{Of}
use Rattle.queue_paths.specs.Names.Part.{Mess, Info}
use Rattle.queue_paths.specs.Parts.{in_todo}
use Rattle.queue_law.specs.Numbers.{Queue, Entry, look, about, IsQueued, Sound}
use Rattle.queue_law.specs.Ready.{IsSpent}
use Rattle.queue_law.specs.Rests.{IsClosed, RestsAs}
use Rattle.queue_limits.specs.declared.times.TheConstants.{PID_NAME_AGE}

pub record RestsBegin : Type 0 where
  -- a number whose name is in todo is queued, and no injector touches it any more
  pub queued : (now : ℕ) (q : Queue) (n : ℕ) (y : Entry) → Sound q → in_todo (about q n).parts ≡ Some y
      → RestsAs now q n IsQueued
  -- no injector touches a message any more that was last written over 36 hours ago
  pub old : (now : ℕ) (q : Queue) (n : ℕ) (y : Entry) → Sound q → look q (Of Mess n) ≡ Some y
      → y.file.moment + PID_NAME_AGE < now → IsClosed now q n
  -- and nothing of it is wanted, if neither todo nor info is there
  pub spent : (now : ℕ) (q : Queue) (n : ℕ) → Sound q → IsClosed now q n → in_todo (about q n).parts ≡ None → look q (Of Info n) ≡ None
      → RestsAs now q n IsSpent
