-- A command that has children, by what it was told.
use Rattle.std.proofs.Common.{◌≡◌, ◌∙◌, ℕ, List, [], ap, subst, inl}
use Rattle.command_words.specs.declared.command.Command.TheVariants.{Lspawn, Rspawn, Local, Send}
use Rattle.command_words.specs.declared.command.LocalWords.{LocalWords}
use Rattle.command_words.specs.declared.command.RspawnWords.{RspawnWords}
use Rattle.command_words.specs.declared.command.SendWords.{SendWords}
use Rattle.command_words.specs.Reads.{Reads}
use Rattle.local_command.specs.Delivered.{WasDelivered}
use Rattle.local_command.specs.Done.{Children}
use Rattle.local_parts.specs.Arguments.{local_args}
use Rattle.local_parts.specs.declared.arguments.LocalArgs.{LocalArgs}
use Rattle.local_spawn.specs.Causes.{HasEnded}
use Rattle.local_spawn.specs.Table.{Next as LocalNext}
use Rattle.program_runner.specs.ChildWords.{dir_word, words_of}
use Rattle.program_runner.specs.Lines.{LineState}
use Rattle.program_runner.specs.Members.{Beside}
use Rattle.program_runner.specs.Outside.{Outside}
use Rattle.remote_spawn.specs.Table.{Next as RemoteNext}
use Rattle.send_command.specs.Sent.{Logged, WasSent, no_lines}
use Rattle.spawn_command.specs.Spawned.{WasSpawned, begun_lines}
use Rattle.spawner_parts.specs.Causes.{IsEnded}
use Rattle.qmail_top.specs.Families.{Family, HasSent, WasDelivery, WasLspawned, WasRspawned, with_lines}

-- words tell one thing
pub one_lspawn : (words : List (List ℕ)) (a b : List ℕ) → Reads words (Lspawn a) → Reads words (Lspawn b) → a ≡ b
one_lspawn words a b first second = cc

pub one_rspawn : (words : List (List ℕ)) (a b : RspawnWords) → Reads words (Rspawn a) → Reads words (Rspawn b) → a ≡ b
one_rspawn words a b first second = cc

pub one_local : (words : List (List ℕ)) (a b : LocalWords) → Reads words (Local a) → Reads words (Local b) → a ≡ b
one_local words a b first second = cc

pub one_send : (words : List (List ℕ)) (a b : SendWords) → Reads words (Send a) → Reads words (Send b) → a ≡ b
one_send words a b first second = cc

-- a spawner that was run with what was read
pub lspawned_from : (dir read word : List ℕ) (status : ℕ) (old new : Outside) (family now : Family) → word ≡ read → read ≡ dir
    → (lines : LineState) × WasSpawned LocalNext (words_of (dir_word word) []) HasEnded status old new (with_lines family begun_lines) (with_lines now lines)
    → WasLspawned dir status old new family now
lspawned_from dir read word status old new family now same is ran =
    inl (subst (λ d. (lines : LineState) × WasSpawned LocalNext (words_of (dir_word d) []) HasEnded status old new (with_lines family begun_lines) (with_lines now lines)) (same ∙ is) ran)

pub rspawned_from : (told read : RspawnWords) (word : List ℕ) (status : ℕ) (old new : Outside) (family now : Family) → word ≡ read.program → read ≡ told
    → (lines : LineState) × WasSpawned RemoteNext (words_of [] word) IsEnded status old new (with_lines family begun_lines) (with_lines now lines)
    → WasRspawned told status old new family now
rspawned_from told read word status old new family now same is ran =
    inl (subst (λ p. (lines : LineState) × WasSpawned RemoteNext (words_of [] p) IsEnded status old new (with_lines family begun_lines) (with_lines now lines)) (same ∙ ap (λ (r : RspawnWords). r.program) is) ran)

-- a delivery that was made with what was read
pub delivered_from : (dir word : List ℕ) (args : LocalArgs) (old new : Outside) (children now : Children) (status : ℕ) → word ≡ dir → WasDelivered (words_of (dir_word word) []) args old new children now status
    → WasDelivered (words_of (dir_word dir) []) args old new children now status
delivered_from dir word args old new children now status same h = subst (λ d. WasDelivered (words_of (dir_word d) []) args old new children now status) same h

pub delivery_from : (told read : LocalWords) (pid : ℕ) (old new : Outside) (children now : Children) (status : ℕ) → read ≡ told
    → WasDelivered (words_of (dir_word read.dir) []) (local_args read.words read.uid pid) old new children now status → WasDelivery told pid old new children now status
delivery_from told read pid old new children now status is h =
    inl (subst (λ (r : LocalWords). WasDelivered (words_of (dir_word r.dir) []) (local_args r.words r.uid pid) old new children now status) is h)

-- a sender that was run with what was read
pub was_sent_from : (told : SendWords) (dir program : List ℕ) (status : ℕ) (old new : Outside) (beside : Beside) (now : LineState → Beside) (log logged : Logged) → dir ≡ told.dir → program ≡ told.program
    → (lines : LineState) × WasSent (dir_word dir) program told.turns status old new beside (now lines) log logged
    → (lines : LineState) × WasSent (dir_word told.dir) told.program told.turns status old new beside (now lines) log logged
was_sent_from told dir program status old new beside now log logged d p h =
    let Goes : List ℕ → List ℕ → Type 0 = λ x y. (lines : LineState) × WasSent (dir_word x) y told.turns status old new beside (now lines) log logged in
    subst (λ x. Goes x told.program) d (subst (λ y. Goes dir y) p h)

pub sent_from : (told read : SendWords) (status : ℕ) (old new : Outside) (family now : Family) (log logged : Logged) → read ≡ told
    → (lines : LineState) × WasSent (dir_word read.dir) read.program read.turns status old new (with_lines family no_lines) (with_lines now lines) log logged
    → HasSent told status old new family now log logged
sent_from told read status old new family now log logged is h =
    inl (subst (λ (r : SendWords). (lines : LineState) × WasSent (dir_word r.dir) r.program r.turns status old new (with_lines family no_lines) (with_lines now lines) log logged) is h)
