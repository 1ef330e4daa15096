-- The commands that have children: the spawners, a local delivery and the sender.
use Rattle.std.specs.Prelude.{◌≡◌, ◌⊎◌, ℕ, List, [], map, Option, String, string_bytes}
use Rattle.std.specs.declared.alloc.Global.{Global}
use Rattle.command_words.specs.declared.command.Channels.TheVariants.{Nothing}
use Rattle.command_words.specs.declared.command.Command.TheVariants.{Lspawn, Rspawn, Local, Send}
use Rattle.command_words.specs.declared.command.LocalWords.{LocalWords}
use Rattle.command_words.specs.declared.command.RspawnWords.{RspawnWords}
use Rattle.command_words.specs.declared.command.SendWords.{SendWords}
use Rattle.command_words.specs.Places.{channels_of}
use Rattle.command_words.specs.Reads.{Reads, command_of}
use Rattle.local_command.specs.Delivered.{WasDelivered}
use Rattle.local_command.specs.Done.{Children}
use Rattle.local_parts.specs.Arguments.{local_args}
use Rattle.local_spawn.specs.Causes.{HasEnded}
use Rattle.local_spawn.specs.Table.{Next as LocalNext}
use Rattle.program_runner.specs.ChildWords.{dir_word, words_of}
use Rattle.program_runner.specs.Lines.{LineState}
use Rattle.program_runner.specs.Members.{Beside}
use Rattle.program_runner.specs.Outside.{Outside}
use Rattle.program_runner.specs.Serving.{PostsTold, SpawnerTold}
use Rattle.queue_limits.specs.declared.statuses.TheConstants.{MEMORY}
use Rattle.remote_spawn.specs.Table.{Next as RemoteNext}
use Rattle.send_command.specs.Sent.{Logged, WasSent, no_lines}
use Rattle.spawn_command.specs.Spawned.{WasSpawned, begun_lines}
use Rattle.spawner_parts.specs.Causes.{IsEnded}

-- the words are `lspawn` with this directory; `rspawn`, `local` or `send` with what it is told
abbrev pub IsLspawn : List (String Global) → List ℕ → Type 0
IsLspawn words dir = Reads (map string_bytes words) (Lspawn dir)

abbrev pub IsRspawn : List (String Global) → RspawnWords → Type 0
IsRspawn words told = Reads (map string_bytes words) (Rspawn told)

abbrev pub IsLocal : List (String Global) → LocalWords → Type 0
IsLocal words told = Reads (map string_bytes words) (Local told)

abbrev pub IsSend : List (String Global) → SendWords → Type 0
IsSend words told = Reads (map string_bytes words) (Send told)

-- one of the two spawners; a delivery; a sender; any of these
abbrev pub IsSpawner : List (String Global) → Type 0
IsSpawner words = ((dir : List ℕ) × IsLspawn words dir) ⊎ ((told : RspawnWords) × IsRspawn words told)

abbrev pub IsDelivery : List (String Global) → Type 0
IsDelivery words = (told : LocalWords) × IsLocal words told

abbrev pub IsSender : List (String Global) → Type 0
IsSender words = (told : SendWords) × IsSend words told

abbrev pub IsParent : List (String Global) → Type 0
IsParent words = IsSpawner words ⊎ (IsDelivery words ⊎ IsSender words)

-- a command without channels, or none
abbrev pub HasNoChannels : List (String Global) → Type 0
HasNoChannels words = channels_of (command_of (map string_bytes words)) ≡ Nothing

-- What stands around a spawner or a sender besides its disk, the last moment and its output.
pub record Family : Type 0 where
  pub moments : Option (List ℕ)
  pub posts : PostsTold
  pub spawner : SpawnerTold

-- the same, with what came of the channels
abbrev pub with_lines : Family → LineState → Beside
with_lines family lines = record { moments = family.moments; posts = family.posts; spawner = family.spawner; lines = lines }

-- There was no memory for the words, and nothing was done. 51 says that.
abbrev pub IsUntouched : {A B : Type 0} → ℕ → A → A → B → B → Type 0
IsUntouched status old new beside now = (status ≡ MEMORY) × (new ≡ old) × (now ≡ beside)

-- The local spawner was run, with deliveries by this same program over this directory.
abbrev pub WasLspawned : List ℕ → ℕ → Outside → Outside → Family → Family → Type 0
WasLspawned dir status old new family now =
    ((lines : LineState) × WasSpawned LocalNext (words_of (dir_word dir) []) HasEnded status old new (with_lines family begun_lines) (with_lines now lines))
    ⊎ IsUntouched status old new family now

-- The remote spawner was run, with deliveries by this program.
abbrev pub WasRspawned : RspawnWords → ℕ → Outside → Outside → Family → Family → Type 0
WasRspawned told status old new family now =
    ((lines : LineState) × WasSpawned RemoteNext (words_of [] told.program) IsEnded status old new (with_lines family begun_lines) (with_lines now lines))
    ⊎ IsUntouched status old new family now

-- A local delivery was made by this process, with forwards over this directory.
abbrev pub WasDelivery : LocalWords → ℕ → Outside → Outside → Children → Children → ℕ → Type 0
WasDelivery told pid old new children now status =
    WasDelivered (words_of (dir_word told.dir) []) (local_args told.words told.uid pid) old new children now status
    ⊎ IsUntouched status old new children now

-- It was the sender that the words tell, with its children over its directory.
abbrev pub HasSent : SendWords → ℕ → Outside → Outside → Family → Family → Logged → Logged → Type 0
HasSent told status old new family now log logged =
    ((lines : LineState) × WasSent (dir_word told.dir) told.program told.turns status old new (with_lines family no_lines) (with_lines now lines) log logged)
    ⊎ (IsUntouched status old new family now × (logged ≡ log))
