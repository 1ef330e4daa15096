-- What of a number is there before its last names go: nothing that is wanted, or all that preprocessing makes.
use Rattle.std.specs.Prelude.{◌≡◌, List, [], ℕ, Some, None}
use Rattle.address_rules.specs.declared.controls.Controls.{Controls}
use Rattle.address_rules.specs.Nuls.{HaveNoNul}
use Rattle.call_fs.specs.Disk.{IsSynced}
use Rattle.queue_inject.specs.declared.injection.Arguments.{Arguments}
use Rattle.queue_paths.specs.Names.{Part}
use Rattle.queue_paths.specs.Names.Part.{Info}
use Rattle.queue_paths.specs.Parts.{in_todo}
use Rattle.send_known.specs.declared.channel.Channel.{Channel}
use Rattle.queue_law.specs.Routes.{info_of, lane_text, lane_part}
use Rattle.queue_law.specs.Numbers.{Entry, About, IsUnsorted, IsQueued}

-- Nothing of the message is wanted: it doesn't wait in todo, and preprocessing left nothing.
pub record IsSpent (w : About) : Type 0 where
  pub unsorted : IsUnsorted w
  pub no_todo : in_todo w.parts ≡ None

-- the file of a part is there, with just this text, and all of it is on the disk
pub record HasSynced (w : About) (part : Part) (text : List ℕ) : Type 0 where
  pub file : Entry
  pub there : w.parts part ≡ Some file
  pub synced : IsSynced file.file text

-- The file of a channel is made; one that has no records isn't.
pub data IsMade (w : About) (part : Part) (text : List ℕ) : Type 0 where
  NotNeeded : text ≡ [] → w.parts part ≡ None → IsMade w part text
  IsThere : HasSynced w part text → IsMade w part text

-- info and the files of the channels are whole, and on the disk, as these controls route a message
pub record AreMade (routes : Controls) (args : Arguments) (w : About) : Type 0 where
  pub info : HasSynced w Info (info_of args)
  pub lanes : (ch : Channel) → IsMade w (lane_part ch) (lane_text routes args ch)

-- Preprocessing is done except that todo is still there: so they are, as the message is routed.
pub record IsReady (w : About) : Type 0 where
  pub queued : IsQueued w
  pub no_nul : HaveNoNul queued.taken.injection.ledger.routes
  pub made : AreMade queued.taken.injection.ledger.routes queued.taken.injection.args w
