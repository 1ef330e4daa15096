-- How the injector of the forwards of a local delivery gets its input (dot-qmail(5)).
use Rattle.std.specs.Prelude.{◌≡◌, ℕ, List, ◌++◌, Some}
use Rattle.call_fs.specs.declared.past.ChildData.{ChildData}
use Rattle.call_fs.specs.declared.past.GotData.TheVariants as came
use Rattle.call_fs.specs.declared.past.NeedData.TheVariants as needs
use Rattle.call_fs.specs.declared.past.Own.{Own}
use Rattle.call_fs.specs.declared.program.Port.TheVariants as port
use Rattle.dot_qmail.specs.declared.line.Line.{Line}
use Rattle.local_parts.specs.declared.arguments.LocalArgs.{LocalArgs}
use Rattle.local_parts.specs.Forwarding.{envelope, forward_sender, forwards, net_text}
use Rattle.local_parts.specs.Inputs.{message_in}
use Rattle.local_parts.specs.Texts.{forward_text}
use Rattle.local_deliver.specs.Carried.{Reaches, instructions}
use Rattle.local_deliver.specs.Causes.{LastIs}
use Rattle.local_deliver.specs.Deeds.{exits, told_names}
use Rattle.call_fs.specs.Past.{taken}

-- it started a program just now
abbrev pub HasStarted : List Own → Type 0
HasStarted past = (child : ChildData) × ((pid : ℕ) × LastIs (needs.Start child) (came.Started pid) past)

-- it gave this to that program just now
abbrev pub HasGiven : List ℕ → List Own → Type 0
HasGiven text past = LastIs (needs.Give (port.Program 0) text) came.Gave past

-- Two netstrings: the message with its Delivered-To line, and the envelope for the addresses to which the lines that were
-- reached forward it.
pub record IsForwardInput (args : LocalArgs) (past : List Own) (text : List ℕ) : Type 0 where
  pub message : List ℕ
  pub lines : List Line
  pub reached : List Line
  pub input : message_in (taken past) ≡ Some message
  pub told : instructions args past ≡ Some lines
  pub reaches : Reaches lines (exits past) reached
  pub is : text ≡ net_text (forward_text args message) ++ net_text (envelope (forward_sender args (told_names args.home past)) (forwards reached))
