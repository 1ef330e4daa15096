-- What the public call does without threads, to what it is lent: the clauses of `qmail_alone`, as one relation.
use Rattle.std.specs.Prelude.{◌≡◌, ◌≢◌, ◌⊎◌, ◌++◌, ◌∷◌, [], List, ℕ, true, Contains, None, length, ◌<◌, map, String, string_bytes}
use Rattle.std.specs.declared.alloc.Global.{Global}
use Rattle.mail_bytes.specs.Told.{Rose, Meets, OnTold}
use Rattle.command_words.specs.declared.command.LocalWords.{LocalWords}
use Rattle.command_words.specs.declared.command.MakeWords.{MakeWords}
use Rattle.command_words.specs.declared.command.QmqpdWords.{QmqpdWords}
use Rattle.command_words.specs.declared.command.QueueWords.{QueueWords}
use Rattle.command_words.specs.declared.command.RspawnWords.{RspawnWords}
use Rattle.command_words.specs.declared.command.SendWords.{SendWords}
use Rattle.command_words.specs.Reads.{IsNoCommand}
use Rattle.script_lines.specs.Contents.{Content}
use Rattle.script_lines.specs.Lines.{IsScript, IsRefused, most_bytes}
use Rattle.scenario.specs.Text.{HasFewDeeds, IsTakenText, PrintsBadLine}
use Rattle.audit_command.specs.Audited.{HasAudited, Output}
use Rattle.program_runner.specs.Members.{uncounted}
use Rattle.program_runner.specs.Outside.{Outside as Around}
use Rattle.queue_command.specs.Inputs.{Stream}
use Rattle.queue_command.specs.Runs.{Outside as Injecting}
use Rattle.qmqp_server.specs.Received.{Sunk}
use Rattle.local_command.specs.Done.{Children}
use Rattle.send_command.specs.Sent.{Logged}
use Rattle.queue_limits.specs.declared.statuses.TheConstants.{DONE, INPUT, MALFORMED, MEMORY, NO_START, OUTPUT, USAGE}
use Rattle.top_call.specs.Lent.{Lent, SourceLent}
use Rattle.qmail_top.specs.Families.{Family, HasNoChannels, HasSent, IsDelivery, IsLocal, IsLspawn, IsParent, IsRspawn, IsSend, IsSender, IsSpawner, WasDelivery, WasLspawned, WasRspawned}
use Rattle.qmail_top.specs.Making.{HasMade, IsMake, IsMaker}
use Rattle.qmail_top.specs.SafePlays.{IsSafePrefixAtMost, PrintsSafely}
use Rattle.qmail_top.specs.Works.{IsWork}
use Rattle.qmail_top.specs.Command.{IsPlay, IsPrintedAtEnd, IsQueue, IsAudit, IsClean, IsQmqpd, HasRunQmqpd, HasRunQueue, NoneFailed, WasCleaned, usage_line}

-- what each command sees of what is lent: the output, also as a sink; a source; the disk and the clock of an injection
abbrev pub printed : Lent → Lent → Output
printed old new = record { old = old.out.taken; new = new.out.taken; faults_old = old.out.faults; faults_new = new.out.faults }

abbrev pub sunk : Lent → Lent → Sunk
sunk old new = record { old = old.out.taken; new = new.out.taken; faults_old = old.out.faults; faults_new = new.out.faults }

abbrev pub streamed : SourceLent → SourceLent → Stream
streamed old new = record { old = old.left; new = new.left; faults_old = old.faults; faults_new = new.faults }

abbrev pub injecting : Lent → Injecting
injecting l = record { disk = l.disk; calls = l.calls; faults = l.disk_faults; moments = l.moments }

-- a program with an input; a spawner; a sender
abbrev pub around : Lent → Around
around l = record { disk = l.disk; calls = l.calls; disk_faults = l.disk_faults; moments = l.moments; last = l.last; left = l.message.left; input_faults = l.message.faults; taken = l.out.taken; output_faults = l.out.faults }

abbrev pub spawning : Lent → Around
spawning l = record { disk = l.disk; calls = l.calls; disk_faults = l.disk_faults; moments = None; last = l.last; left = None; input_faults = uncounted; taken = l.out.taken; output_faults = l.out.faults }

abbrev pub sending : Lent → Around
sending l = record { disk = l.disk; calls = l.calls; disk_faults = l.disk_faults; moments = None; last = l.last; left = None; input_faults = uncounted; taken = None; output_faults = 0 }

-- its posts and children, with the clock, and without; its log
abbrev pub children : Lent → Children
children l = record { posts = record { waiting = l.posts.waiting; asked = l.posts.asked; faults = l.posts.faults }; spawner = record { children = l.spawner.children; calls = l.spawner.calls; faults = l.spawner.faults } }

abbrev pub family : Lent → Family
family l = record { moments = l.moments; posts = (children l).posts; spawner = (children l).spawner }

abbrev pub logged : Lent → Logged
logged l = record { taken = l.log.taken; faults = l.log.faults }

-- the disk is as it was; the clock; both, and the envelope
abbrev pub IsDiskLeft : Lent → Lent → Type 0
IsDiskLeft old new = (new.disk ≡ old.disk) × (new.calls ≡ old.calls) × (new.disk_faults ≡ old.disk_faults)

abbrev pub IsClockLeft : Lent → Lent → Type 0
IsClockLeft old new = (new.moments ≡ old.moments) × (new.last ≡ old.last)

-- Each field is the clause of this name of `qmail_alone`; what stays untouched tells what it told.
pub record Called (words : List (String Global)) (old new : Lent) (status : ℕ) : Type 0 where
  pub usage : status ≡ USAGE → IsNoCommand (map string_bytes words) ⊎ IsDelivery words
  pub no_command : IsNoCommand (map string_bytes words) → (status ≡ USAGE) ⊎ (status ≡ MEMORY)
  pub usage_line : IsNoCommand (map string_bytes words) → status ≡ USAGE → Meets old.log.taken new.log.taken (λ before after. (text : List ℕ) × IsTakenText usage_line text (Rose old.log.faults new.log.faults) × (after ≡ before ++ text))
  pub make : (m : MakeWords) → IsMake words m → HasMade m (printed old new) status
  pub queue : (q : QueueWords) → IsQueue words q → HasRunQueue q old.pid (streamed old.message new.message) (streamed old.envelope new.envelope) (injecting old) (injecting new) status
  pub qmqpd : (w : QmqpdWords) → IsQmqpd words w → HasRunQmqpd w old.pid (streamed old.message new.message) (injecting old) (injecting new) (sunk old new) status
  pub qmqpd_beside : (w : QmqpdWords) → IsQmqpd words w → new.envelope ≡ old.envelope
  pub audit : IsAudit words → HasAudited (record { disk = old.disk; calls = old.calls; faults = old.disk_faults }) (record { disk = new.disk; calls = new.calls; faults = new.disk_faults }) (printed old new) status
  pub audit_unwritten : IsAudit words → (status ≡ MEMORY) ⊎ (status ≡ INPUT) → new.out ≡ old.out
  pub clean : IsClean words → WasCleaned (around old) (around new) status
  pub lspawn : (dir : List ℕ) → IsLspawn words dir → WasLspawned dir status (spawning old) (spawning new) (family old) (family new)
  pub rspawn : (w : RspawnWords) → IsRspawn words w → WasRspawned w status (spawning old) (spawning new) (family old) (family new)
  pub send : (w : SendWords) → IsSend words w → HasSent w status (sending old) (sending new) (family old) (family new) (logged old) (logged new)
  pub local : (d : LocalWords) → IsLocal words d → WasDelivery d old.pid (around old) (around new) (children old) (children new) status
  pub input : IsPlay words → status ≡ INPUT → Rose old.message.faults new.message.faults
  pub output : IsPlay words → status ≡ OUTPUT → Rose old.out.faults new.out.faults
  pub unfailed : IsPlay words → status ≡ MEMORY → NoneFailed (record { before = old.message.faults; after = new.message.faults }) (record { before = old.out.faults; after = new.out.faults })
  pub malformed : IsPlay words → OnTold old.message.left (λ script. status ≡ MALFORMED → IsRefused script)
  pub checked : IsPlay words → OnTold old.message.left (λ script. (status ≡ DONE) ⊎ (status ≡ OUTPUT) → ¬ (IsRefused script))
  pub known : IsPlay words → Contains (DONE ∷ MEMORY ∷ OUTPUT ∷ INPUT ∷ MALFORMED ∷ []) status
  pub complete : IsPlay words → OnTold old.message.left (λ script. (content : Content) → IsScript script content → ¬ (Rose old.message.faults new.message.faults) → ¬ (Rose old.out.faults new.out.faults) → (status ≡ DONE) ⊎ (status ≡ MEMORY))
  pub prints : IsPlay words → OnTold old.message.left (λ script. status ≡ DONE → Meets old.out.taken new.out.taken (λ before after. (text : List ℕ) × PrintsSafely script text × (after ≡ before ++ text)))
  pub few : IsPlay words → OnTold old.message.left (λ script. status ≡ DONE → HasFewDeeds script)
  pub begins : IsPlay words → OnTold old.message.left (λ script. status ≢ DONE → status ≢ MALFORMED → Meets old.out.taken new.out.taken (λ before after. (text : List ℕ) × IsSafePrefixAtMost script text × (after ≡ before ++ text)))
  pub refuses : IsPlay words → OnTold old.message.left (λ script. status ≡ MALFORMED → Meets old.out.taken new.out.taken (λ before after. (text : List ℕ) × PrintsBadLine script text (Rose old.out.faults new.out.faults) × (after ≡ before ++ text)))
  pub reached : IsPlay words → Meets old.message.left new.message.left (λ script rest. rest ≢ [] → (new.out ≡ old.out) ⊎ ((status ≡ MALFORMED) × (most_bytes < length script)))
  pub unended : IsPlay words → IsPrintedAtEnd new.message.ended (new.out ≡ old.out) (status ≡ MALFORMED) old.message.left
  pub ended : IsPlay words → Meets old.message.left new.message.left (λ script rest. status ≡ DONE → rest ≡ [])
  pub told_end : IsPlay words → status ≡ DONE → OnTold new.message.ended (λ is. is ≡ true)
  pub unread : IsNoCommand (map string_bytes words) ⊎ (IsMaker words ⊎ (IsAudit words ⊎ (IsSpawner words ⊎ IsSender words))) → new.message ≡ old.message
  pub unwritten : IsNoCommand (map string_bytes words) ⊎ (IsPlay words × (status ≡ INPUT)) → new.out ≡ old.out
  pub unprinted : (q : QueueWords) → IsQueue words q → new.out ≡ old.out
  pub unsaid : IsSender words → new.out ≡ old.out
  pub unlogged : ¬ (IsSender words) → (status ≢ USAGE) ⊎ IsDelivery words → new.log ≡ old.log
  pub disk : IsNoCommand (map string_bytes words) ⊎ (IsPlay words ⊎ IsMaker words) → IsDiskLeft old new
  pub envelope : IsNoCommand (map string_bytes words) ⊎ (IsPlay words ⊎ (IsMaker words ⊎ (IsAudit words ⊎ (IsClean words ⊎ IsParent words)))) → new.envelope ≡ old.envelope
  pub beside : (q : QueueWords) → IsQueue words q → q.env ≡ None → new.envelope ≡ old.envelope
  pub clock : IsNoCommand (map string_bytes words) ⊎ (IsPlay words ⊎ (IsMaker words ⊎ IsAudit words)) → IsClockLeft old new
  pub posts : HasNoChannels words → new.posts ≡ old.posts
  pub spawn : HasNoChannels words → new.spawner ≡ old.spawner
  pub unworked : IsWork words → ((status ≡ NO_START) ⊎ (status ≡ MEMORY)) × ((new.message ≡ old.message) × (new.out ≡ old.out)) × (IsDiskLeft old new × (new.envelope ≡ old.envelope) × IsClockLeft old new)
