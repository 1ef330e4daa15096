-- Numbers that no injector touches any more, and names in `pid` that none has any more.
use Rattle.std.specs.Prelude.{◌≡◌, ◌≢◌, ◌⊎◌, ℕ, ◌+◌, ◌<◌, ◌≤◌, true, Option, Some, None}
use Rattle.queue_paths.specs.Names.{Name}
use Rattle.queue_paths.specs.Names.Name.{Pid, Of}
use Rattle.queue_paths.specs.Names.Part.{Mess}
use Rattle.queue_law.specs.Books.{Injection}
use Rattle.queue_law.specs.Numbers.{Role, Queue, Entry, look, About, about}
use Rattle.queue_law.specs.Numbers.Role.{AsMessage, AsPart, AsDrop, AsOld}
use Rattle.queue_limits.specs.declared.times.TheConstants.{PID_NAME_AGE}

-- the file is the message of an injector that makes no call any more
abbrev pub IsOverdue : ℕ → Role → Type 0
IsOverdue now (AsMessage actor args) = args.start + PID_NAME_AGE < now
IsOverdue now (AsPart part n) = ⊥
IsOverdue now (AsDrop actor) = ⊥
IsOverdue now AsOld = ⊥

pub record IsAccepted (w : About) : Type 0 where
  pub injection : Injection
  pub lives : w.living ≡ Some injection
  pub accepted : injection.accepted ≡ true

-- A number is closed to injectors: its message is there, and its injector makes no call any more, or has queued it.
pub record IsClosed (now : ℕ) (q : Queue) (n : ℕ) : Type 0 where
  pub mess : Entry
  pub there : look q (Of Mess n) ≡ Some mess
  pub shut : IsOverdue now (q.role n) ⊎ IsAccepted (about q n)

-- A number rests: no injector touches it any more, and of it this holds.
pub record RestsAs (now : ℕ) (q : Queue) (n : ℕ) (P : About → Type 0) : Type 0 where
  pub closed : IsClosed now q n
  pub rest : P (about q n)

-- no injector that moves made the file of this name, and it was written last at this moment
pub record IsOldName (q : Queue) (x : Name) (moment : ℕ) : Type 0 where
  pub file : Entry
  pub there : look q x ≡ Some file
  pub made : q.role file.number ≡ AsOld
  pub written : file.file.moment ≡ moment

-- What a cleaner was told of a name in `pid`: it tells a start that is no later than this moment, or its file was there at
-- the beginning and was written last at this moment. So once 36 hours have gone since that moment, no injector that may still
-- call has it. Other names are none of the queue's.
abbrev pub IsJudged : Queue → Option Name → ℕ → Type 0
IsJudged q (Some (Pid pid start seq)) moment = (start ≤ moment) ⊎ IsOldName q (Pid pid start seq) moment
IsJudged q (Some (Of part n)) moment = ⊥
IsJudged q None moment = Unit {0}

-- what a step leaves to those who rest on closed numbers: each but the one in m stays closed, and all that concerns it is as it was
pub record Spares (now : ℕ) (m : Option ℕ) (q r : Queue) : Type 0 where
  pub closed : (n : ℕ) → m ≢ Some n → IsClosed now q n → IsClosed now r n
  pub abouts : (n : ℕ) → m ≢ Some n → IsClosed now q n → about r n ≡ about q n

-- what it leaves of names in `pid`: those that a cleaner may remove it may remove still
abbrev pub SparesNames : Queue → Queue → Type 0
SparesNames q r = (x : Option Name) (moment : ℕ) → IsJudged q x moment → IsJudged r x moment
