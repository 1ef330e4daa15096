-- What a cleaner can ask for: it creates, opens and writes no file.
use Rattle.std.specs.Prelude.{ℕ, List}
use Rattle.call_fs.specs.declared.calls.CallData.TheVariants.{NextName, Stat, Unlink}
use Rattle.call_fs.specs.declared.program.Port.TheVariants.{Input, Output}
use Rattle.call_fs.specs.declared.past.NeedData.{NeedData}
use Rattle.call_fs.specs.declared.past.NeedData.TheVariants.{File, Take, Give, Ended}

pub data IsAsked : NeedData → Type 0 where
  Searches : (dir after : List ℕ) → IsAsked (File (NextName dir after))
  Stats : (name : List ℕ) → IsAsked (File (Stat name))
  Unlinks : (name : List ℕ) → IsAsked (File (Unlink name))
  Takes : IsAsked (Take Input)
  Gives : (bytes : List ℕ) → IsAsked (Give Output bytes)
  Ends : (status : ℕ) → IsAsked (Ended status)
