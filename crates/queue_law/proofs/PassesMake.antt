-- What a todo pass has made when it gives its command, and what others leave alone.
use Rattle.std.proofs.Common.{◌≡◌, ◌≢◌, inr, ℕ, ◌≤◌, List, [], ◌∷◌, ◌++◌, take, slice_get, All, Option, Some, None, refl, sym, ap, ◌∙◌, subst}
use Rattle.std.specs.Option.{IfSome}
use Rattle.std.proofs.lemmas.List.Elements.{All-weaker}
use Rattle.call_fs.specs.Disk.{IsSynced, IsWhole}
use Rattle.call_fs.specs.declared.calls.Fd.{Fd}
use Rattle.envelope_records.specs.Envelope.{IsAddress, HasEnvelope, Reading, read_envelope, todo_head, todo_text}
use Rattle.envelope_records.specs.Envelope.Reading.{Whole, Open as OpenReading, Broken}
use Rattle.mail_bytes.specs.Texts.{HasNoNul}
use Rattle.envelope_records.proofs.Envelopes.{sound_as}
use Rattle.envelope_records.proofs.ChannelRecords.{same_todo}
use Rattle.queue_inject.specs.declared.injection.Arguments.{Arguments}
use Rattle.queue_inject.specs.declared.injection.InputEnd.{InputEnd}
use Rattle.queue_inject.specs.Texts.{limit, envelope_text, envelope_of, intd_text, recipients_read, recipients_of}
use Rattle.queue_paths.specs.Names.{Name, Part as FilePart, path}
use Rattle.queue_paths.specs.Names.Name.{Of}
use Rattle.queue_paths.specs.Names.Part.{Mess, Todo, Info, Local, Remote}
use Rattle.queue_paths.proofs.Parts.{todo_flat}
use Rattle.send_known.specs.declared.channel.Channel.{Channel}
use Rattle.send_known.specs.declared.channel.Channel.TheVariants as channel
use Rattle.todo_pass.specs.declared.part.Target.{Target}
use Rattle.todo_pass.specs.declared.part.Part.{Part}
use Rattle.todo_pass.specs.declared.part.Part.TheVariants as part
use Rattle.todo_pass.specs.declared.row.Row.{Row}
use Rattle.todo_pass.specs.declared.row.Row.TheVariants as at
use Rattle.todo_pass.specs.declared.sorted.Sorted.{Sorted as Texts}
use Rattle.todo_pass.specs.Disks.{SameAt, fd_in, HoldsTodo, LeaveAlone, IsMade as IsMadeOn}
use Rattle.todo_pass.specs.Laws.{IsMadeRow}
use Rattle.todo_pass.specs.Sorting.{info_text, channel_text, locals_of, remotes_of}
use Rattle.todo_pass.specs.Table.{place_after as pass_after}
use Rattle.todo_pass.specs.Todo.{Todo as TodoIn, IsTodo}
use Rattle.todo_pass.proofs.Ends.{files_are_made}
use Rattle.queue_law.specs.Routes.{sender_read, sender_of, info_of, lane_text, lane_part}
use Rattle.queue_law.specs.Numbers.{Entry, entry, Queue, look, About, about, IsQueued}
use Rattle.queue_law.specs.Injectors.{created}
use Rattle.queue_law.specs.Ready.{HasSynced, IsMade}
use Rattle.queue_law.specs.Ready.IsMade.{NotNeeded, IsThere}
use Rattle.queue_law.specs.Rests.{Spares}
use Rattle.queue_law.specs.Steps.{Elsewhere}
use Rattle.queue_law.specs.Passes.{file_part, HasOpen, Writes, HoldsAt, PassStands, PassesGive, PassesMake, PassIsLeftAlone}
use Rattle.queue_law.specs.Books.{with_line}
use Rattle.queue_law.specs.Ledgers.{IsFresh, Ledger, line_in}
use Rattle.queue_law.specs.Ledgers.Line.{Routes}
use Rattle.queue_law.specs.Senders.{MayEnter, entered_queue}
use Rattle.queue_law.proofs.Cleaners.{made_same, synced_same}
use Rattle.queue_law.proofs.Lines.{fresh_spots}
use Rattle.queue_law.proofs.Sends.{entered_living, entries_keep}
use Rattle.queue_law.proofs.Looks.{find_some, find_none, not_found, found}
use Rattle.queue_law.proofs.Rests.{closed_later}

both : (P : Channel → Type 0) → P channel.Local → P channel.Remote → (ch : Channel) → P ch
both P local remote channel.Local = local
both P local remote channel.Remote = remote

-- What todo says of a valid message

-- an envelope that was read whole
record IsRead (args : Arguments) : Type 0 where
  sender : List ℕ
  recipients : List (List ℕ)
  read : read_envelope (take limit args.envelope) ≡ Whole sender recipients

whole_read : (args : Arguments) (r : Reading) → read_envelope (take limit args.envelope) ≡ r → (end : InputEnd) (next : Option ℕ) → (envelope_text r end next).fault ≡ None → IsRead args
whole_read args (Whole sender recipients) is end next none = record { sender = sender; recipients = recipients; read = is }
whole_read args (OpenReading stage) is end next none = absurd (cc)
whole_read args (Broken before fault) is end next none = absurd (cc)

valid_read : (args : Arguments) → (intd_text args).fault ≡ None → IsRead args
unfolding intd_text envelope_of
valid_read args none = whole_read args (read_envelope (take limit args.envelope)) refl args.envelope_end (slice_get args.envelope limit) none

sender_is : (args : Arguments) (w : IsRead args) → sender_of args ≡ w.sender
unfolding sender_of
sender_is args w = ap sender_read w.read

recipients_are : (args : Arguments) (w : IsRead args) → recipients_of args ≡ w.recipients
unfolding recipients_of
recipients_are args w = ap recipients_read w.read

text_is : (args : Arguments) (w : IsRead args) → (intd_text args).bytes ≡ todo_text args.uid args.pid w.sender w.recipients
unfolding intd_text envelope_of todo_text
text_is args w =
    ap (λ (r : Reading). todo_head args.uid args.pid ++ (envelope_text r args.envelope_end (slice_get args.envelope limit)).bytes) w.read

plain_all : (rs : List (List ℕ)) → All IsAddress rs → All HasNoNul rs
plain_all rs h = All-weaker IsAddress HasNoNul (λ r (it : IsAddress r). it.plain) rs h

-- what is read of the todo of a valid message is its sender and its recipients
record SaysSo (args : Arguments) (it : TodoIn) : Type 0 where
  sender : it.sender ≡ sender_of args
  recipients : it.recipients ≡ recipients_of args

says_so : (args : Arguments) (it : TodoIn) → (intd_text args).fault ≡ None → IsTodo (intd_text args).bytes it → SaysSo args it
says_so args it none is =
    let w = valid_read args none in
    let whole : HasEnvelope (take limit args.envelope) w.sender w.recipients = sound_as (take limit args.envelope) (Whole w.sender w.recipients) w.read in
    let same = same_todo it.uid it.pid args.uid args.pid it.sender w.sender it.recipients w.recipients is.from.plain (plain_all it.recipients is.to) whole.whole.from.plain (plain_all w.recipients whole.whole.to)
    (sym is.text ∙ text_is args w) in
    record { sender = same.2 ∙ sym (sender_is args w); recipients = same.3 ∙ sym (recipients_are args w) }

-- What is there

there_part : (q : Queue) (x : FilePart) (n : ℕ) (text : List ℕ) → IsWhole q.disk (path (Of x n)) text → HasSynced (about q n) x text
there_part q x n text h = record { file = entry q.disk.files h.0; there = find_some q.disk.names q.disk.files (Of x n) h.0 h.1; synced = h.2 }

made_part : (q : Queue) (x : FilePart) (n : ℕ) (text : List ℕ) → IsMadeOn q.disk (path (Of x n)) text → IsMade (about q n) x text
made_part q x n [] h = NotNeeded refl (find_none q.disk.names q.disk.files (Of x n) h)
made_part q x n (b ∷ text) h = IsThere (there_part q x n (b ∷ text) h)

-- todo is the injection's, so what was read of it is
was_read : (q : Queue) (n : ℕ) (y : Entry) (text read : List ℕ) (k : ℕ) → look q (Of Todo n) ≡ Some y → IsSynced y.file text → q.disk.names (path (Of Todo n)) ≡ Some k
    → (q.disk.files k).bytes ≡ read → read ≡ text
was_read q n y text read k there synced named holds =
    let w = found q.disk.names q.disk.files (Of Todo n) y there in
    let number : k ≡ y.number = (let u = w.0 in cc) in
    sym holds ∙ ap (λ j. (q.disk.files j).bytes) number ∙ ap (λ (z : Entry). z.file.bytes) (sym w.1) ∙ synced.holds

pub passes_make : PassesMake
passes_make controls n past first q run leads at_give Q =
    let p = pass_after controls n past in
    let F = files_are_made controls n past first q.disk run leads (subst IsMadeRow (sym at_give) tt) in
    let args = Q.taken.injection.args in
    let held = F.todo at_give in
    let here = find_some q.disk.names q.disk.files (Of Todo n) held.0 held.1 in
    let there = here ∙ sym (todo_flat (about q n).parts (entry q.disk.files held.0) here) ∙ Q.todo_there in
    let read : p.todo ≡ (intd_text args).bytes = was_read q n Q.todo (intd_text args).bytes p.todo held.0 there Q.text held.1 held.2 in
    let so = says_so args F.sorted.0 Q.taken.valid.envelope (subst (λ t. IsTodo t F.sorted.0) read F.sorted.1) in
    let sorted = F.sorted.2 in
    let w = about q n in
    let info : p.sorted.info ≡ info_of args = ap (λ (s : Texts). s.info) sorted ∙ ap info_text so.sender in
    let local : p.sorted.local ≡ lane_text controls args channel.Local = ap (λ (s : Texts). s.local) sorted ∙ ap (λ rs. channel_text (locals_of controls rs)) so.recipients in
    let remote : p.sorted.remote ≡ lane_text controls args channel.Remote = ap (λ (s : Texts). s.remote) sorted ∙ ap (λ rs. channel_text (remotes_of controls rs)) so.recipients in
    record {
      info = subst (HasSynced w Info) info (there_part q Info n p.sorted.info F.complete.info);
      lanes = both (λ ch. IsMade w (lane_part ch) (lane_text controls args ch))
          (subst (IsMade w Local) local (made_part q Local n p.sorted.local F.complete.local))
          (subst (IsMade w Remote) remote (made_part q Remote n p.sorted.remote F.complete.remote));
    }

-- whatever comes of the giving
pub passes_give : PassesGive
passes_give routes now q a n plain G rests made =
    let Q = rests.rest in
    let i = Q.taken.injection in
    let w = about q n in
    let r = entered_queue q n (Routes routes) in
    let lives = entered_living now q a G n (Routes routes) i Q.taken.lives in
    let fresh : IsFresh (line_in (Routes routes) i.ledger) = ap (λ (l : Ledger). line_in (Routes routes) l) Q.fresh in
    let may : MayEnter w (Routes routes) = record {
      mess = Q.taken.mess;
      there = Q.taken.mess_there;
      injection = i;
      lives = Q.taken.lives;
      accepted = Q.taken.accepted;
      fits = λ none. let there = Q.todo_there in absurd (cc);
    } in
    record {
      leads = entries_keep now q a G n (Routes routes) may;
      ready = record {
        closed = record {
          mess = rests.closed.mess;
          there = rests.closed.there;
          shut = inr (record { injection = with_line (Routes routes) i; lives = lives; accepted = Q.taken.accepted });
        };
        rest = record {
          queued = record {
            taken = record {
              injection = with_line (Routes routes) i;
              lives = lives;
              accepted = Q.taken.accepted;
              mess = Q.taken.mess;
              mess_there = Q.taken.mess_there;
              message = Q.taken.message;
              valid = Q.taken.valid;
              spots = fresh_spots (with_line (Routes routes) i) fresh;
            };
            todo = Q.todo;
            todo_there = Q.todo_there;
            text = Q.text;
            no_bounce = Q.no_bounce;
            fresh = fresh;
          };
          no_nul = plain;
          made = record {
            info = synced_same w (about r n) Info (info_of i.args) refl made.info;
            lanes = λ ch. made_same w (about r n) (lane_part ch) (lane_text routes i.args ch) refl (made.lanes ch);
          };
        };
      };
    }

-- What others leave alone

-- a name that leads where it led, to the same file
module _ (q r : Queue) (x : Name) (same : look r x ≡ look q x) where
  same_file : (k : ℕ) → q.disk.names (path x) ≡ Some k → (r.disk.names (path x) ≡ Some k) × (r.disk.files k ≡ q.disk.files k)
  same_file k named =
      let w = found r.disk.names r.disk.files x (entry q.disk.files k) (same ∙ find_some q.disk.names q.disk.files x k named) in
      (w.0, sym (ap (λ (y : Entry). y.file) w.1))

  same_name : (o : Option ℕ) → q.disk.names (path x) ≡ o → r.disk.names (path x) ≡ o
  same_name None named = not_found r.disk.names r.disk.files x (same ∙ find_none q.disk.names q.disk.files x named)
  same_name (Some k) named = (same_file k named).0

part_alone : (q r : Queue) (n : ℕ) → about r n ≡ about q n → (x : FilePart) → look r (Of x n) ≡ look q (Of x n)
part_alone q r n same x = ap (λ (w : About). w.parts x) same

same_at : (q r : Queue) (n : ℕ) → about r n ≡ about q n → (it : Part) → SameAt n it q.disk r.disk
same_at q r n same part.Mess =
    let s = part_alone q r n same Mess in record { name = same_name q r (Of Mess n) s _ refl; file = λ k named. (same_file q r (Of Mess n) s k named).1 }
same_at q r n same part.Todo =
    let s = part_alone q r n same Todo in record { name = same_name q r (Of Todo n) s _ refl; file = λ k named. (same_file q r (Of Todo n) s k named).1 }
same_at q r n same part.Info =
    let s = part_alone q r n same Info in record { name = same_name q r (Of Info n) s _ refl; file = λ k named. (same_file q r (Of Info n) s k named).1 }
same_at q r n same part.Local =
    let s = part_alone q r n same Local in record { name = same_name q r (Of Local n) s _ refl; file = λ k named. (same_file q r (Of Local n) s k named).1 }
same_at q r n same part.Remote =
    let s = part_alone q r n same Remote in record { name = same_name q r (Of Remote n) s _ refl; file = λ k named. (same_file q r (Of Remote n) s k named).1 }

module _ (now : ℕ) (a o : List ℕ) (m : Option ℕ) (q r : Queue) (E : Elsewhere now o m q r) (other : a ≢ o) where
  open_same : (fd : ℕ) → HasOpen q a fd → r.disk.opens fd ≡ q.disk.opens fd
  open_same fd h = (E.opens a fd h.0 other h.1).opened ∙ sym h.1.opened

  descriptor_same : (n : ℕ) (row : Row) → HoldsAt q a n row → IfSome (fd_in row) (λ (fd : Fd). r.disk.opens fd.0 ≡ q.disk.opens fd.0)
  descriptor_same n (at.Clear t) h = tt
  descriptor_same n at.StatMess h = tt
  descriptor_same n at.OpenTodo h = tt
  descriptor_same n (at.ReadTodo fd) h = open_same fd.0 h
  descriptor_same n (at.CloseTodo fd) h = open_same fd.0 h
  descriptor_same n (at.Create t) h = tt
  descriptor_same n (at.Append t fd done) h = open_same fd.0 (created h.file.number, h.opened)
  descriptor_same n (at.Sync t fd) h = open_same fd.0 (created h.file.number, h.opened)
  descriptor_same n (at.Close t fd) h = open_same fd.0 h
  descriptor_same n (at.Shut fd why) h = open_same fd.0 h
  descriptor_same n at.Give h = tt
  descriptor_same n at.Answer h = tt
  descriptor_same n at.Done h = tt
  descriptor_same n (at.Left why) h = tt
  descriptor_same n at.Lost h = tt

  left_alone : (n : ℕ) (row : Row) → HoldsAt q a n row → about r n ≡ about q n → LeaveAlone n row q.disk r.disk
  left_alone n row h same = record { parts = λ it _. same_at q r n same it; descriptor = descriptor_same n row h }

  -- what a pass holds open it holds then too
  open_still : (fd : ℕ) → HasOpen q a fd → HasOpen r a fd
  open_still fd h = (h.0, E.opens a fd h.0 other h.1)

  writes_still : (n : ℕ) (t : Target) (fd : ℕ) → about r n ≡ about q n → Writes q a n t fd → Writes r a n t fd
  writes_still n t fd same h = record {
    file = h.file;
    there = part_alone q r n same (file_part t) ∙ h.there;
    opened = E.opens a fd (created h.file.number) other h.opened;
  }

  holds_still : (n : ℕ) (row : Row) → (HoldsTodo row → about r n ≡ about q n) → HoldsAt q a n row → HoldsAt r a n row
  holds_still n (at.ReadTodo fd) same h = open_still fd.0 h
  holds_still n (at.CloseTodo fd) same h = open_still fd.0 h
  holds_still n (at.Append t fd done) same h = writes_still n t fd.0 (same tt) h
  holds_still n (at.Sync t fd) same h = writes_still n t fd.0 (same tt) h
  holds_still n (at.Close t fd) same h = open_still fd.0 h
  holds_still n (at.Shut fd why) same h = open_still fd.0 h
  holds_still n row same h = tt

  pass_stands : (k : Option ℕ) → Spares now k q r → (n : ℕ) → k ≢ Some n → (row : Row) → PassStands now q a n row → PassStands now r a n row
  pass_stands k S n far row h = record {
    rests = λ holds. let w = h.rests holds in record {
      closed = S.closed n far w.closed;
      rest = subst IsQueued (sym (S.abouts n far w.closed)) w.rest;
    };
    holds = holds_still n row (λ holds. S.abouts n far (h.rests holds).closed) h.holds;
  }

pass_later : (now m : ℕ) → now ≤ m → (q : Queue) (a : List ℕ) (n : ℕ) (row : Row) → PassStands now q a n row → PassStands m q a n row
pass_later now m later q a n row h = record {
  rests = λ holds. let w = h.rests holds in record { closed = closed_later now m later q n w.closed; rest = w.rest };
  holds = h.holds;
}

pub pass_is_left_alone : PassIsLeftAlone
pass_is_left_alone = record {
  alone = λ now a o m q r E other n row h same. left_alone now a o m q r E other n row h same;
  stands = λ now a o m k q r E other S n far row h. pass_stands now a o m q r E other k S n far row h;
  later = pass_later;
}
