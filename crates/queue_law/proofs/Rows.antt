-- The rows of an injector's table at which a file is made or written.
use Rattle.std.proofs.Common.{◌≡◌, ◌≢◌, inl, inr, ℕ, zero, suc, ◌+◌, ◌≤◌, List, length, take, drop, Option, Some, None, refl, sym, ap, ◌∙◌, subst}
use Rattle.call_fs.specs.Disk.{File, IsSynced}
use Rattle.call_fs.specs.Apply.{empty_file, grown, grown_part, synced, IsNew}
use Rattle.queue_inject.specs.declared.injection.Arguments.{Arguments}
use Rattle.queue_inject.specs.declared.row.Row.{Row}
use Rattle.queue_inject.specs.declared.row.Row.TheVariants as at
use Rattle.queue_paths.specs.Names.{Name, path}
use Rattle.queue_paths.specs.Names.Name.{Pid, Of}
use Rattle.queue_paths.specs.Names.Part.{Mess, Intd, Todo}
use Rattle.queue_paths.proofs.Parts.{todo_apart, intd_out, todo_out, todo_same}
use Rattle.queue_inject.specs.Texts.{message_text, intd_text}
use Rattle.queue_inject.specs.Table.{piece_size, in_message, in_todo}
use Rattle.queue_law.specs.Books.{IsValid}
use Rattle.call_fs.proofs.Maps.{put_same, put_other}
use Rattle.queue_law.proofs.Texts.{not_zero, message_fails, intd_fails, piece_cases, grown_text, whole_text}
use Rattle.queue_law.specs.Numbers.{Entry, Queue, look, IsRecent, about, IsUnsorted, Phase, Sound}
use Rattle.queue_law.proofs.Looks.{find_far, find_absent, find_near, found}
use Rattle.queue_law.specs.Injectors.{IsBegun, IsBare, IsWhole, HasIntd, Holds, AtMess, AtTodo, Basis}
use Rattle.queue_law.specs.Numbers.Role.{AsMessage, AsPart}
use Rattle.queue_law.specs.Numbers.Phase.{Free, Queued, Sorted, Finished}
use Rattle.queue_law.proofs.Deeds.{made, written, IsNowhere, begun_phase, later_far, unnamed, made_for, made_same, made_other, own_apart, Leads, made_outcome, written_outcome}

-- a synced file holds what it held, on the disk
synced_with : (f : File) (bytes : List ℕ) → f.bytes ≡ bytes → IsSynced (synced f) bytes
synced_with f bytes holds = record { holds = holds; all = holds; none_given = refl; no_shorter = ap length holds; no_longer = ap length holds }

-- what can't be there isn't
none_of : {A : Type 0} (o : Option A) → ((y : A) → o ≡ Some y → ⊥) → o ≡ None
none_of None never = refl
none_of (Some y) never = absurd (never y refl)

-- what comes after so many bytes of a message, and of an envelope
pub message_next : (q : Queue) (a : List ℕ) (args : Arguments) (n fd done : ℕ) → AtMess q a args n fd (take done (message_text args).bytes)
    → Basis q a args (in_message (message_text args) n fd done)
message_next q a args n fd done h =
    let text = message_text args in
    let d = h.holds.rest in
    piece_cases (Basis q a args) text.bytes text.fault done (at.AppendMess n (record { 0 = fd }) done) (at.SyncMess n (record { 0 = fd })) (λ status. at.CleanMess n status)
    (message_fails args)
    (h, tt)
    (λ ended long. (
      record {
        holds = record { mine = h.holds.mine; rest = record { bare = d.bare; holds = d.holds ∙ whole_text text.bytes done long } };
        opened = h.opened;
      },
      ended,
    ))
    (λ status bad. (record { mine = h.holds.mine; rest = d.bare }, bad))

todo_next : (q : Queue) (a : List ℕ) (args : Arguments) (n fd done : ℕ) → (message_text args).fault ≡ None → AtTodo q a args n fd (take done (intd_text args).bytes)
    → Basis q a args (in_todo (intd_text args) n fd done)
todo_next q a args n fd done whole h =
    let text = intd_text args in
    let w = h.holds.rest in
    piece_cases (Basis q a args) text.bytes text.fault done (at.AppendTodo n (record { 0 = fd }) done) (at.SyncTodo n (record { 0 = fd })) (λ status. at.CleanIntd n status)
    (intd_fails args)
    (h, whole)
    (λ ended long. (
      record {
        number = h.number;
        holds = record {
          mine = h.holds.mine;
          rest = record { begins = w.begins; message = w.message; file = w.file; intd = w.intd; fulfils = w.fulfils ∙ whole_text text.bytes done long };
        };
        opened = h.opened;
      },
      record { message = whole; envelope = ended },
    ))
    (λ status bad. (record { mine = h.holds.mine; rest = w.begins }, bad))

module _ (now : ℕ) (q : Queue) (a : List ℕ) (args : Arguments) (G : Sound q) where
  abbrev To : Queue → Row → Type 0
  To = Leads now q a args G

  -- the number of a new file has no message yet
  unused_mess : (fd i : ℕ) (x : Name) → IsNew q.disk (path x) fd i → (y : Entry) → look q (Of Mess i) ≡ Some y → ⊥
  unused_mess fd i x new y h =
      let there = (found q.disk.names q.disk.files (Of Mess i) y h).0 in
      let number = (G.suits (Of Mess i) y h).0.0 in
      new.unused.unnamed (path (Of Mess i)) (there ∙ ap Some number)

  -- so it isn't preprocessed
  unused_unsorted : (fd i : ℕ) (x : Name) → IsNew q.disk (path x) fd i → Phase (about q i) → IsUnsorted (about q i)
  unused_unsorted fd i x new (Free h) = h.unsorted
  unused_unsorted fd i x new (Queued h) = absurd (unused_mess fd i x new h.taken.mess h.taken.mess_there)
  unused_unsorted fd i x new (Sorted h) = absurd (unused_mess fd i x new h.taken.mess h.taken.mess_there)
  unused_unsorted fd i x new (Finished h) = h.unsorted

  -- the file that an injector makes first
  pub create_row : (seq fd i read : ℕ) → args.start ≤ read → IsNew q.disk (path (Pid args.pid args.start seq)) fd i
      → To (made q a (Pid args.pid args.start seq) fd i read (AsMessage a args)) (at.LinkMess seq i (record { 0 = fd }))
  create_row seq fd i read late new =
      let x = Pid args.pid args.start seq in
      let role = AsMessage a args in
      let number = λ (y : Name) (z : Entry) (h : look q y ≡ Some z). (found q.disk.names q.disk.files y z h).0 in
      let other = made_other q x a fd i read role new in
      let nowhere : IsNowhere q i = unnamed q x a fd i read role new in
      let same : about (made q a x fd i read role) i ≡ about q i =
      λ j. record { parts = λ part. other (Of part i) (λ s. cc) j; living = q.books.living i } in
      made_outcome now q a args G x fd i read role i (at.LinkMess seq i (record { 0 = fd })) new refl (unused_unsorted fd i x new (G.fine i))
      (inl nowhere)
      (λ y h. let w = number x y h in let v = new.free in absurd (cc))
      (λ o args' apart soon y z h his touches s. new.unused.unnamed (path y) (number y z h ∙ sym s))
      (refl, late)
      (subst Phase (sym same) (G.fine i)) (
        record {
          mine = put_same q.role i role;
          file = empty_file read;
          no_mess = other (Of Mess i) (λ s. cc) ∙ none_of (look q (Of Mess i)) (unused_mess fd i x new);
          pid = made_same q x a fd i read role new;
          empty = refl;
          opened = record { opened = put_same q.disk.opens fd _; held = put_same q.holder fd (Some a) };
        },
        tt,
      )

  pub intd_row : (n fd i read : ℕ) → (message_text args).fault ≡ None → Holds q a args n (λ w. IsWhole w a args n) → IsNew q.disk (path (Of Intd n)) fd i
      → To (made q a (Of Intd n) fd i read (AsPart Todo n)) (in_todo (intd_text args) n fd 0)
  intd_row n fd i read whole h new =
      let x = Of Intd n in
      let role = AsPart Todo n in
      let r = made q a x fd i read role in
      let b = h.rest.bare.begins in
      let far : n ≢ i = λ s. new.unused.unnamed (path (Of Mess n)) ((found q.disk.names q.disk.files (Of Mess n) _ b.mess).0 ∙ ap Some s) in
      let other = made_other q x a fd i read role new in
      let begins : IsBegun (about r n) a args n = record {
        file = b.file;
        mess = other (Of Mess n) (λ s. cc) ∙ b.mess;
        unsorted = λ part later. other (Of part n) (later_far x part n refl later) ∙ b.unsorted part later;
        no_todo = todo_same (about q n).parts (about r n).parts (λ part is. other (Of part n) (todo_apart part n x is refl)) ∙ b.no_todo;
        lives = b.lives;
      } in
      made_outcome now q a args G x fd i read role n (in_todo (intd_text args) n fd 0) new refl b.unsorted (inr (h.mine, inr b.lives))
      refl
      (own_apart now q G.suits a args n h.mine)
      (refl, tt)
      (begun_phase r a args n begins)
      (todo_next r a args n fd 0 whole (record {
        number = i;
        holds = record {
          mine = put_other q.role i role n far ∙ h.mine;
          rest = record {
            begins = begins;
            message = h.rest.message;
            file = empty_file read;
            intd = made_same q x a fd i read role new;
            fulfils = refl;
          };
        };
        opened = record { opened = put_same q.disk.opens fd _; held = put_same q.holder fd (Some a) };
      }))

  -- a file is the one that its name leads to
  file_is : (x : Name) (n : ℕ) (f : File) → look q x ≡ Some (record { number = n; file = f }) → f ≡ q.disk.files n
  file_is x n f h = ap (λ (y : Entry). y.file) (found q.disk.names q.disk.files x (record { number = n; file = f }) h).1

  -- the message file is written
  abbrev bare_written : (n : ℕ) (f : File) → IsBare (about q n) a args n → IsBare (about (written q n f) n) a args n
  bare_written n f h =
      let b = h.begins in
      record {
        begins = record {
          file = f;
          mess = find_near q.disk.names q.disk.files (Of Mess n) _ f b.mess;
          unsorted = λ part later. find_absent q.disk.names q.disk.files (Of part n) n f (b.unsorted part later);
          no_todo = todo_out (about q n).parts (about (written q n f) n).parts (λ part is. find_absent q.disk.names q.disk.files (Of part n) n f) b.no_todo;
          lives = b.lives;
        };
        no_intd = intd_out (about q n).parts (about (written q n f) n).parts (λ part is. find_absent q.disk.names q.disk.files (Of part n) n f) h.no_intd;
      }

  mess_row : (n : ℕ) (f : File) (row : Row) → q.role n ≡ AsMessage a args → IsBare (about q n) a args n → args.start ≤ f.moment
      → Basis (written q n f) a args row → To (written q n f) row
  mess_row n f row mine bare late next =
      written_outcome now q a args G (Of Mess n) n f n row refl bare.begins.unsorted (found q.disk.names q.disk.files (Of Mess n) _ bare.begins.mess).0 mine (ap (made_for n) mine) (subst (IsRecent f) (sym mine) late) (bare_written n f bare).begins next

  draft_bytes : (n fd : ℕ) (bytes : List ℕ) → AtMess q a args n fd bytes → (q.disk.files n).bytes ≡ bytes
  draft_bytes n fd bytes h = let d = h.holds.rest in ap (λ (f : File). f.bytes) (sym (file_is (Of Mess n) n _ d.bare.begins.mess)) ∙ d.holds

  pub append_mess_row : (n fd done read : ℕ) → args.start ≤ read → AtMess q a args n fd (take done (message_text args).bytes)
      → To (written q n (grown read (take piece_size (drop done (message_text args).bytes)) (q.disk.files n)))
      (in_message (message_text args) n fd (done + piece_size))
  append_mess_row n fd done read late h =
      let text = (message_text args).bytes in
      let f = grown read (take piece_size (drop done text)) (q.disk.files n) in
      mess_row n f _ h.holds.mine h.holds.rest.bare late
      (message_next (written q n f) a args n fd (done + piece_size) (record {
        holds = record {
          mine = h.holds.mine;
          rest = record { bare = bare_written n f h.holds.rest.bare; holds = grown_text text _ done (draft_bytes n fd _ h) };
        };
        opened = h.opened;
      }))

  -- its moment, before and after a write that failed
  old_moment : (n : ℕ) → q.role n ≡ AsMessage a args → IsBegun (about q n) a args n → args.start ≤ (q.disk.files n).moment
  old_moment n mine b =
      let recent = subst (IsRecent b.file) mine (G.suits (Of Mess n) _ b.mess).1 in
      subst (λ (f : File). args.start ≤ f.moment) (file_is (Of Mess n) n _ b.mess) recent

  part_moment : (read wrote : ℕ) (more : List ℕ) (f : File) → args.start ≤ read → args.start ≤ f.moment
      → args.start ≤ (grown_part read more wrote f).moment
  part_moment read zero more f late old = old
  part_moment read (suc k) more f late old = late

  pub cut_mess_row : (n fd read wrote : ℕ) (bytes more : List ℕ) → args.start ≤ read → AtMess q a args n fd bytes
      → To (written q n (grown_part read more wrote (q.disk.files n))) (at.CleanMess n 53)
  cut_mess_row n fd read wrote bytes more late h =
      let f = grown_part read more wrote (q.disk.files n) in
      let bare = h.holds.rest.bare in
      mess_row n f _ h.holds.mine bare (part_moment read wrote more (q.disk.files n) late (old_moment n h.holds.mine bare.begins))
      (record { mine = h.holds.mine; rest = bare_written n f bare }, not_zero 52)

  pub sync_mess_row : (n fd : ℕ) → (message_text args).fault ≡ None → AtMess q a args n fd (message_text args).bytes → To (written q n (synced (q.disk.files n))) (at.CreateIntd n)
  sync_mess_row n fd whole h =
      let f = synced (q.disk.files n) in
      let bare = h.holds.rest.bare in
      mess_row n f _ h.holds.mine bare (old_moment n h.holds.mine bare.begins) (
        record {
          mine = h.holds.mine;
          rest = record { bare = bare_written n f bare; message = synced_with (q.disk.files n) _ (draft_bytes n fd _ h) };
        },
        whole,
      )

  -- the intd file is written, which isn't the message file
  intd_far : (n i : ℕ) (f : File) → q.role n ≡ AsMessage a args → look q (Of Intd n) ≡ Some (record { number = i; file = f }) → n ≢ i
  intd_far n i f mine h same = let w = (G.suits (Of Intd n) _ h).0 in let v = ap q.role same in cc

  intd_written : (n i : ℕ) (f : File) (P P' : File → Type 0) → q.role n ≡ AsMessage a args → HasIntd (about q n) a args n i P → P' f
      → HasIntd (about (written q i f) n) a args n i P'
  intd_written n i f P P' mine h fulfils =
      let b = h.begins in
      let far = intd_far n i h.file mine h.intd in
      record {
        begins = record {
          file = b.file;
          mess = find_far q.disk.names q.disk.files (Of Mess n) i f (λ y e s. far (cc (b.mess, e, s))) ∙ b.mess;
          unsorted = λ part later. find_absent q.disk.names q.disk.files (Of part n) i f (b.unsorted part later);
          no_todo = todo_out (about q n).parts (about (written q i f) n).parts (λ part is. find_absent q.disk.names q.disk.files (Of part n) i f) b.no_todo;
          lives = b.lives;
        };
        message = h.message;
        file = f;
        intd = find_near q.disk.names q.disk.files (Of Intd n) _ f h.intd;
        fulfils = fulfils;
      }

  todo_row : (n i : ℕ) (f : File) (row : Row) (P : File → Type 0) → Holds q a args n (λ w. HasIntd w a args n i P)
      → Basis (written q i f) a args row → To (written q i f) row
  todo_row n i f row P h next =
      let role = (G.suits (Of Intd n) _ h.rest.intd).0 in
      written_outcome now q a args G (Of Intd n) i f n row refl h.rest.begins.unsorted (found q.disk.names q.disk.files (Of Intd n) _ h.rest.intd).0 h.mine (ap (made_for i) role) (subst (IsRecent f) (sym role) tt)
      (intd_written n i f P (λ _. Unit {0}) h.mine h.rest tt).begins next

  todo_bytes : (n fd : ℕ) (bytes : List ℕ) (h : AtTodo q a args n fd bytes) → (q.disk.files h.number).bytes ≡ bytes
  todo_bytes n fd bytes h = let w = h.holds.rest in ap (λ (f : File). f.bytes) (sym (file_is (Of Intd n) h.number _ w.intd)) ∙ w.fulfils

  pub append_todo_row : (n fd done read : ℕ) → (message_text args).fault ≡ None → (h : AtTodo q a args n fd (take done (intd_text args).bytes))
      → To (written q h.number (grown read (take piece_size (drop done (intd_text args).bytes)) (q.disk.files h.number)))
      (in_todo (intd_text args) n fd (done + piece_size))
  append_todo_row n fd done read whole h =
      let text = (intd_text args).bytes in
      let f = grown read (take piece_size (drop done text)) (q.disk.files h.number) in
      todo_row n h.number f _ _ h.holds
      (todo_next (written q h.number f) a args n fd (done + piece_size) whole (record {
        number = h.number;
        holds = record {
          mine = h.holds.mine;
          rest = intd_written n h.number f _ _ h.holds.mine h.holds.rest (grown_text text _ done (todo_bytes n fd _ h));
        };
        opened = h.opened;
      }))

  pub cut_todo_row : (n fd : ℕ) (bytes : List ℕ) (h : AtTodo q a args n fd bytes) (f : File) → To (written q h.number f) (at.CleanIntd n 53)
  cut_todo_row n fd bytes h f =
      todo_row n h.number f _ _ h.holds
      (record { mine = h.holds.mine; rest = (intd_written n h.number f _ (λ _. Unit {0}) h.holds.mine h.holds.rest tt).begins }, not_zero 52)

  pub sync_todo_row : (n fd : ℕ) → IsValid args → (h : AtTodo q a args n fd (intd_text args).bytes)
      → To (written q h.number (synced (q.disk.files h.number))) (at.LinkTodo n)
  sync_todo_row n fd valid h =
      let f = synced (q.disk.files h.number) in
      todo_row n h.number f _ _ h.holds (
        record {
          number = h.number;
          holds = record {
            mine = h.holds.mine;
            rest = intd_written n h.number f _ _ h.holds.mine h.holds.rest (synced_with (q.disk.files h.number) _ (todo_bytes n fd _ h));
          };
        },
        valid,
      )
