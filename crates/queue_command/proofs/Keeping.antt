-- What an injector keeps of what was heard of its input.
use Rattle.std.proofs.Common.{◌≡◌, ◌≢◌, ℕ, ◌+◌, List, ◌++◌, length, drop, Bool, true, false, if◌then◌else◌, nat_lt, nat_le, Option, Some, None, refl, sym, ap, ◌∙◌, subst, arith, append_assoc, length-append}
use Rattle.std.proofs.Math.Seq.{drop-append_seam}
use Rattle.call_fs.specs.declared.calls.Answer.{Answer}
use Rattle.call_fs.specs.declared.calls.Answer.TheVariants as told
use Rattle.call_fs.specs.declared.calls.Fd.{Fd}
use Rattle.call_fs.specs.declared.calls.FsError.TheVariants.{NotThere, Exists}
use Rattle.envelope_records.specs.Envelope.{Reader}
use Rattle.queue_inject.specs.declared.injection.Arguments.{Arguments}
use Rattle.queue_inject.specs.declared.injection.InputEnd.{InputEnd}
use Rattle.queue_inject.specs.declared.injection.InputEnd.TheVariants as ends
use Rattle.queue_inject.specs.declared.injection.Part.{Part}
use Rattle.queue_inject.specs.declared.injection.Part.TheVariants.{Message, Envelope}
use Rattle.queue_inject.specs.declared.intake.Verdict.{Verdict}
use Rattle.queue_inject.specs.declared.intake.Verdict.TheVariants.{Open, Whole, Faulty}
use Rattle.queue_inject.specs.declared.row.Row.{Row}
use Rattle.queue_inject.specs.declared.row.Row.TheVariants as at
use Rattle.queue_inject.specs.Table.{goes_to, piece_size}
use Rattle.queue_inject.specs.Rows.{is_open, part_in, row_by, past_text}
use Rattle.queue_inject.specs.Machine.{Machine, asks, asks_by, heard_after}
use Rattle.queue_inject.specs.Machine.{Heard as Text}
use Rattle.queue_inject.proofs.Kept.{asked_by}
use Rattle.queue_command.specs.Inputs.{Portion, Heard, unread, BeginsBy, Begins}
use Rattle.queue_command.specs.Feeding.{TellsBy, IsFed}
use Rattle.queue_command.specs.Runs.{Who, IsPossible}
use Rattle.queue_command.proofs.Feeding.{begins_first}

-- As long as a text is open, what was fed is what was heard; a message is whole once its end was heard.

abbrev pub IsOpenTo : ℕ → Portion → Type 0
IsOpenTo fed portion = (portion.end ≡ None) × (fed ≡ length portion.bytes)

abbrev pub KeepsMessage : Verdict → ℕ → Portion → Type 0
KeepsMessage Open fed portion = IsOpenTo fed portion
KeepsMessage Whole fed portion = portion.end ≡ Some ends.Whole
KeepsMessage (Faulty status) fed portion = Unit {0}

abbrev pub KeepsTodo : Verdict → ℕ → Portion → Type 0
KeepsTodo Open fed portion = IsOpenTo fed portion
KeepsTodo Whole fed portion = Unit {0}
KeepsTodo (Faulty status) fed portion = Unit {0}

-- Nothing is heard of an envelope before its message's end was.
abbrev pub KeepsBy : Row → Verdict → ℕ → Heard → Type 0
KeepsBy (at.Create seq) v fed heard = (heard.envelope ≡ unread) × KeepsMessage v fed heard.message
KeepsBy (at.LinkMess seq n fd) v fed heard = (heard.envelope ≡ unread) × KeepsMessage v fed heard.message
KeepsBy (at.UnlinkPid seq n fd) v fed heard = (heard.envelope ≡ unread) × KeepsMessage v fed heard.message
KeepsBy (at.AppendMess n fd done) v fed heard = (heard.envelope ≡ unread) × KeepsMessage v fed heard.message
KeepsBy (at.SyncMess n fd) v fed heard = (heard.envelope ≡ unread) × (heard.message.end ≡ Some ends.Whole)
KeepsBy (at.CreateIntd n) v fed heard = (heard.envelope ≡ unread) × (heard.message.end ≡ Some ends.Whole)
KeepsBy (at.AppendTodo n fd done) v fed heard = (heard.message.end ≡ Some ends.Whole) × KeepsTodo v fed heard.envelope
KeepsBy row v fed heard = Unit {0}

abbrev pub KeepsIn : Row → Text → Heard → Type 0
KeepsIn row text heard = KeepsBy row text.verdict text.fed heard

abbrev pub Keeps : Machine → Heard → Type 0
Keeps m heard = KeepsIn m.row m.heard heard

-- After a call

module _ (piece : List ℕ) (fed : ℕ) (reader : Reader) (uid pid : ℕ) (heard : Heard) where
  abbrev text : Verdict → Text
  text v = record { piece = piece; fed = fed; verdict = v; reader = reader }

  abbrev KeepsAfter : Row → Answer → Verdict → Type 0
  KeepsAfter row answer v = KeepsIn (goes_to row answer) (heard_after row uid pid (text v)) heard

  append_mess : (v : Verdict) (n : ℕ) (fd : Fd) (done : ℕ) (answer : Answer) → KeepsBy (at.AppendMess n fd done) v fed heard → KeepsAfter (at.AppendMess n fd done) answer v
  append_mess v n fd done told.Done k = k
  append_mess v n fd done answer k = tt

  after_mess : (t : Bool) (v : Verdict) (n : ℕ) (fd : Fd) (done : ℕ) (answer : Answer) → v ≢ Open → KeepsBy (at.AppendMess n fd done) v fed heard
      → KeepsAfter (if t then at.AppendMess n fd done else past_text v (at.SyncMess n fd) (λ status. at.CleanMess n status)) answer v
  after_mess true v n fd done answer closed k = append_mess v n fd done answer k
  after_mess false Open n fd done answer closed k = absurd (closed refl)
  after_mess false Whole n fd done told.Done closed k = k
  after_mess false Whole n fd done answer closed k = tt
  after_mess false (Faulty status) n fd done answer closed k = tt

  append_todo : (v : Verdict) (n : ℕ) (fd : Fd) (done : ℕ) (answer : Answer) → KeepsBy (at.AppendTodo n fd done) v fed heard → KeepsAfter (at.AppendTodo n fd done) answer v
  append_todo v n fd done told.Done k = k
  append_todo v n fd done answer k = tt

  after_todo : (t : Bool) (v : Verdict) (n : ℕ) (fd : Fd) (done : ℕ) (answer : Answer) → v ≢ Open → KeepsBy (at.AppendTodo n fd done) v fed heard
      → KeepsAfter (if t then at.AppendTodo n fd done else past_text v (at.SyncTodo n fd) (λ status. at.CleanIntd n status)) answer v
  after_todo true v n fd done answer closed k = append_todo v n fd done answer k
  after_todo false Open n fd done answer closed k = absurd (closed refl)
  after_todo false Whole n fd done told.Done closed k = tt
  after_todo false Whole n fd done answer closed k = tt
  after_todo false (Faulty status) n fd done told.Done closed k = tt
  after_todo false (Faulty status) n fd done (told.Refused NotThere) closed k = tt
  after_todo false (Faulty status) n fd done answer closed k = tt

  pub keeps_after : (row : Row) (v : Verdict) (answer : Answer) → KeepsBy row v fed heard → KeepsAfter (row_by v (length piece) row) answer v
  keeps_after (at.Create seq) v (told.Created fd n) k = k
  keeps_after (at.Create seq) v (told.Refused Exists) k = tries (nat_lt seq 9) where
    tries : (t : Bool) → KeepsIn (if t then at.Create (seq + 1) else at.Failed 63) (text v) heard
    tries true = k
    tries false = tt
  keeps_after (at.Create seq) v answer k = tt
  keeps_after (at.LinkMess seq n fd) v told.Done k = k
  keeps_after (at.LinkMess seq n fd) v answer k = tt
  keeps_after (at.UnlinkPid seq n fd) v told.Done k = k
  keeps_after (at.UnlinkPid seq n fd) v answer k = tt
  keeps_after (at.AppendMess n fd done) Open answer k = append_mess Open n fd done answer k
  keeps_after (at.AppendMess n fd done) Whole answer k = after_mess (nat_lt 0 (length piece)) Whole n fd done answer (λ e. absurd (cc)) k
  keeps_after (at.AppendMess n fd done) (Faulty status) answer k = after_mess (nat_le piece_size (length piece)) (Faulty status) n fd done answer (λ e. absurd (cc)) k
  keeps_after (at.SyncMess n fd) v told.Done k = k
  keeps_after (at.SyncMess n fd) v answer k = tt
  keeps_after (at.CreateIntd n) v (told.Created fd i) (none, whole) = (whole, (ap (λ (p : Portion). p.end) none, sym (ap (λ (p : Portion). length p.bytes) none)))
  keeps_after (at.CreateIntd n) v answer k = tt
  keeps_after (at.AppendTodo n fd done) Open answer k = append_todo Open n fd done answer k
  keeps_after (at.AppendTodo n fd done) Whole answer k = after_todo (nat_lt 0 (length piece)) Whole n fd done answer (λ e. absurd (cc)) k
  keeps_after (at.AppendTodo n fd done) (Faulty status) answer k = after_todo (nat_le piece_size (length piece)) (Faulty status) n fd done answer (λ e. absurd (cc)) k
  keeps_after (at.SyncTodo n fd) v told.Done k = tt
  keeps_after (at.SyncTodo n fd) v answer k = tt
  keeps_after (at.LinkTodo n) v told.Done k = tt
  keeps_after (at.LinkTodo n) v answer k = tt
  keeps_after (at.CleanIntd n status) v told.Done k = tt
  keeps_after (at.CleanIntd n status) v (told.Refused NotThere) k = tt
  keeps_after (at.CleanIntd n status) v answer k = tt
  keeps_after (at.CleanMess n status) v answer k = tt
  keeps_after at.Queued v answer k = tt
  keeps_after (at.Failed status) v answer k = tt

-- After a feeding

abbrev pub joined : Portion → Portion → Portion
joined portion more = record { bytes = portion.bytes ++ more.bytes; end = more.end }

-- what was heard, and a portion more of this part
abbrev pub heard_on : Part → Heard → Portion → Heard
heard_on Message heard more = record heard { message = joined heard.message more }
heard_on Envelope heard more = record heard { envelope = joined heard.envelope more }

-- what was heard of a part
abbrev pub heard_of : Part → Heard → Portion
heard_of Message heard = heard.message
heard_of Envelope heard = heard.envelope

-- what is known of the other part while this one is read
abbrev pub IsInTurn : Part → Heard → Type 0
IsInTurn Message heard = heard.envelope ≡ unread
IsInTurn Envelope heard = heard.message.end ≡ Some ends.Whole

open_by : (row : Row) (fed : ℕ) (heard : Heard) (part : Part) → part_in row ≡ Some part → KeepsBy row Open fed heard → IsInTurn part heard × IsOpenTo fed (heard_of part heard)
open_by (at.Create seq) fed heard Message of k = k
open_by (at.Create seq) fed heard Envelope of k = absurd (cc)
open_by (at.LinkMess seq n fd) fed heard Message of k = k
open_by (at.LinkMess seq n fd) fed heard Envelope of k = absurd (cc)
open_by (at.UnlinkPid seq n fd) fed heard Message of k = k
open_by (at.UnlinkPid seq n fd) fed heard Envelope of k = absurd (cc)
open_by (at.AppendMess n fd done) fed heard Message of k = k
open_by (at.AppendMess n fd done) fed heard Envelope of k = absurd (cc)
open_by (at.AppendTodo n fd done) fed heard Message of k = absurd (cc)
open_by (at.AppendTodo n fd done) fed heard Envelope of k = k
open_by row fed heard part of k = absurd (cc)

-- of the part that is asked for no end was heard, and what was heard was fed
pub open_to : (m : Machine) (heard : Heard) (part : Part) → asks m ≡ Some part → Keeps m heard → IsInTurn part heard × IsOpenTo m.heard.fed (heard_of part heard)
open_to m heard part e k =
    let w = asked_by m.heard.verdict m.row part e in
    open_by m.row m.heard.fed heard part w.1 (subst (λ v. KeepsBy m.row v m.heard.fed heard) w.0 k)

message_kept : (v : Verdict) (fed : ℕ) (old more : Portion) → (v ≡ Open → more.end ≡ None) → (v ≡ Whole → more.end ≡ Some ends.Whole) → fed ≡ length (old.bytes ++ more.bytes)
    → KeepsMessage v fed (joined old more)
message_kept Open fed old more going whole size = (going refl, size)
message_kept Whole fed old more going whole size = whole refl
message_kept (Faulty status) fed old more going whole size = tt

todo_kept : (v : Verdict) (fed : ℕ) (old more : Portion) → (v ≡ Open → more.end ≡ None) → fed ≡ length (old.bytes ++ more.bytes) → KeepsTodo v fed (joined old more)
todo_kept Open fed old more going size = (going refl, size)
todo_kept Whole fed old more going size = tt
todo_kept (Faulty status) fed old more going size = tt

kept_by : (row : Row) (v : Verdict) (fed : ℕ) (heard : Heard) (more : Portion) (part : Part) → part_in row ≡ Some part → IsInTurn part heard
    → (v ≡ Open → more.end ≡ None) → (part ≡ Message → v ≡ Whole → more.end ≡ Some ends.Whole) → fed ≡ length ((heard_of part heard).bytes ++ more.bytes)
    → KeepsBy row v fed (heard_on part heard more)
kept_by (at.Create seq) v fed heard more Message of turn going whole size = (turn, message_kept v fed heard.message more going (whole refl) size)
kept_by (at.Create seq) v fed heard more Envelope of turn going whole size = absurd (cc)
kept_by (at.LinkMess seq n fd) v fed heard more Message of turn going whole size = (turn, message_kept v fed heard.message more going (whole refl) size)
kept_by (at.LinkMess seq n fd) v fed heard more Envelope of turn going whole size = absurd (cc)
kept_by (at.UnlinkPid seq n fd) v fed heard more Message of turn going whole size = (turn, message_kept v fed heard.message more going (whole refl) size)
kept_by (at.UnlinkPid seq n fd) v fed heard more Envelope of turn going whole size = absurd (cc)
kept_by (at.AppendMess n fd done) v fed heard more Message of turn going whole size = (turn, message_kept v fed heard.message more going (whole refl) size)
kept_by (at.AppendMess n fd done) v fed heard more Envelope of turn going whole size = absurd (cc)
kept_by (at.AppendTodo n fd done) v fed heard more Message of turn going whole size = absurd (cc)
kept_by (at.AppendTodo n fd done) v fed heard more Envelope of turn going whole size = (turn, todo_kept v fed heard.envelope more going size)
kept_by row v fed heard more part of turn going whole size = absurd (cc)

-- what was fed, with what was heard before
pub fed_size : (m n : Machine) (heard : Heard) (part : Part) (more : Portion) → asks m ≡ Some part → Keeps m heard → IsFed m n more.end more.bytes
    → n.heard.fed ≡ length ((heard_of part heard).bytes ++ more.bytes)
fed_size m n heard part more e k f =
    let before = (open_to m heard part e k).1.1 in
    let fed = f.fed in
    let size = length-append (heard_of part heard).bytes more.bytes in
    omega arith

pub keeps_fed : (m n : Machine) (heard : Heard) (part : Part) (more : Portion) → asks m ≡ Some part → Keeps m heard → IsFed m n more.end more.bytes → Keeps n (heard_on part heard more)
keeps_fed m n heard part more e k f =
    let w = asked_by m.heard.verdict m.row part e in
    let row : n.row ≡ m.row = ap (λ (x : Machine). x.row) f.rest in
    let of : part_in n.row ≡ Some part = ap part_in row ∙ w.1 in
    kept_by n.row n.heard.verdict n.heard.fed heard more part of (open_to m heard part e k).0
    (λ going. (f.still part (ap (λ v. asks_by (is_open v) n.row) going ∙ of)).1)
    (λ message whole. f.whole (e ∙ ap Some message) whole)
    (fed_size m n heard part more e k f)

-- Arguments that are still possible

fewer_by : (end : Option InputEnd) (whole : List ℕ) (over : InputEnd) (old : Portion) (more : List ℕ) → old.end ≡ None → BeginsBy end whole over (old.bytes ++ more) → Begins whole over old
fewer_by end whole over old more going b = subst (λ e. BeginsBy e whole over old.bytes) (sym going) (begins_first end whole over old.bytes more b)

pub fewer : (who : Who) (start : ℕ) (heard : Heard) (part : Part) (more : Portion) (args : Arguments) → (heard_of part heard).end ≡ None
    → IsPossible who start (heard_on part heard more) args → IsPossible who start heard args
fewer who start heard Message more args going is = record { started = is.started; message = fewer_by more.end args.message args.message_end heard.message more.bytes going is.message; envelope = is.envelope }
fewer who start heard Envelope more args going is = record { started = is.started; message = is.message; envelope = fewer_by more.end args.envelope args.envelope_end heard.envelope more.bytes going is.envelope }

begins_after : (end : Option InputEnd) (whole : List ℕ) (over : InputEnd) (fed : ℕ) (a b : List ℕ) → fed ≡ length a → BeginsBy end whole over (a ++ b) → BeginsBy end (drop fed whole) over b
begins_after None whole over fed a b size (rest, is) =
    (rest, ap (λ k. drop k whole) size ∙ ap (λ t. drop (length a) t) (is ∙ append_assoc a b rest) ∙ drop-append_seam a (b ++ rest))
begins_after (Some end) whole over fed a b size (is, same) = (ap (λ k. drop k whole) size ∙ ap (λ t. drop (length a) t) is ∙ drop-append_seam a b, same)

pub tells_more : (who : Who) (start fed : ℕ) (heard : Heard) (part : Part) (more : Portion) (args : Arguments) → fed ≡ length (heard_of part heard).bytes
    → IsPossible who start (heard_on part heard more) args → TellsBy (Some part) fed args more.end more.bytes
tells_more who start fed heard Message more args size is = begins_after more.end args.message args.message_end fed heard.message.bytes more.bytes size is.message
tells_more who start fed heard Envelope more args size is = begins_after more.end args.envelope args.envelope_end fed heard.envelope.bytes more.bytes size is.envelope
