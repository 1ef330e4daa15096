-- The rows of an injector's table at which a name comes or goes.
use Rattle.std.proofs.Common.{◌≡◌, ◌≢◌, ◌⊎◌, inl, inr, ℕ, List, ◌++◌, true, false, Option, Some, None, option_to_list, refl, sym, ap, ◌∙◌, subst, ⊎_elim}
use Rattle.call_fs.specs.Maps.{put}
use Rattle.call_fs.specs.Disk.{Among}
use Rattle.queue_inject.specs.declared.injection.Arguments.{Arguments}
use Rattle.queue_inject.specs.declared.row.Row.{Row}
use Rattle.queue_inject.specs.declared.row.Row.TheVariants as at
use Rattle.queue_paths.specs.Names.{Name, path}
use Rattle.queue_paths.specs.Names.Name.{Pid, Of}
use Rattle.queue_paths.specs.Names.Part.{Mess, Intd, Todo, Bounce, SplitIntd}
use Rattle.queue_paths.specs.Parts.{in_intd, in_todo}
use Rattle.queue_paths.proofs.Parts.{is_todo_name, intd_apart, todo_apart, intd_alone, todo_flat, intd_same, todo_same, todo_missing}
use Rattle.queue_inject.specs.Texts.{message_text}
use Rattle.queue_inject.specs.Table.{in_message}
use Rattle.queue_law.specs.Books.{Injection, Books, begun, accept, IsInjected, IsValid}
use Rattle.call_fs.proofs.Maps.{put_cases, put_same, put_other}
use Rattle.queue_law.specs.Ledgers.{no_ledger}
use Rattle.queue_law.specs.Injectors.{IsFailure, IsBegun, IsBare, Holds, AtLink, AtUnlink, AtLinkTodo, Basis}
use Rattle.queue_law.specs.Marks.{IsSettled}
use Rattle.queue_law.proofs.Tests.{off, same_text, tells_name}
use Rattle.queue_law.proofs.Waits.{no_split, todo_here}
use Rattle.queue_law.specs.Numbers.{Entry, entry, Queue, look, IsRight, NameSuits, About, about, is_later_name, IsUnsorted, Phase, Sound}
use Rattle.queue_law.proofs.Looks.{find_put, find_gone, find_none, found}
use Rattle.queue_law.specs.Numbers.Role.{AsMessage}
use Rattle.queue_law.specs.Numbers.Phase.{Free, Queued, Sorted, Finished}
use Rattle.queue_law.specs.Steps.{Concerns}
use Rattle.queue_law.proofs.Deeds.{named, begun_phase, later_far, named_other, Leads, named_outcome}
use Rattle.queue_law.proofs.Rows.{message_next}

-- a number without a message: nothing of it is there, and nothing is owed
record IsGone (w : About) : Type 0 where
  unsorted : IsUnsorted w
  no_todo : in_todo w.parts ≡ None
  no_intd : in_intd w.parts ≡ None
  settled : (i : Injection) → w.living ≡ Some i → i.accepted ≡ true → IsSettled i

gone_of : (w : About) → Phase w → w.parts Mess ≡ None → IsGone w
gone_of w (Free h) none = record {
  unsorted = h.unsorted;
  no_todo = h.no_todo;
  no_intd = h.intd_below none;
  settled = λ i lives t. absurd (h.not_accepted i lives t);
}
gone_of w (Queued h) none = let t = h.taken.mess_there in absurd (cc)
gone_of w (Sorted h) none = let t = h.taken.mess_there in absurd (cc)
gone_of w (Finished h) none = record {
  unsorted = h.unsorted;
  no_todo = h.no_todo;
  no_intd = h.no_intd;
  settled = λ i lives t. let l = h.lives in let same : h.injection ≡ i = cc in subst IsSettled same h.settled;
}

-- the books when an injection begins: the life of the one before is over
abbrev pub beginning : Books → List ℕ → Arguments → ℕ → Books
beginning b a args n = record { living = put b.living n (Some (begun a args n)); over = option_to_list (b.living n) ++ b.over }

among_old : {A : Type 0} (o : Option A) (rest : List A) (x : A) → (o ≡ Some x) ⊎ Among x rest → Among x (option_to_list o ++ rest)
among_old None rest x h = ⊎_elim (λ e. absurd (cc)) (λ w. w) h
among_old (Some y) rest x h = ⊎_elim (λ (e : Some y ≡ Some x). inl (cc)) (λ (w : Among x rest). inr w) h

old_among : {A : Type 0} (o : Option A) (rest : List A) (x : A) → Among x (option_to_list o ++ rest) → (o ≡ Some x) ⊎ Among x rest
old_among None rest x h = inr h
old_among (Some y) rest x h = ⊎_elim (λ (e : x ≡ y). inl (ap Some (sym e))) (λ (w : Among x rest). inr w) h

still_injected : (b : Books) (a : List ℕ) (args : Arguments) (n : ℕ) (i : Injection) → IsInjected b i → IsInjected (beginning b a args n) i
still_injected b a args n i h =
    let new = Some (begun a args n) in
    ⊎_elim
    (λ (lives : b.living i.number ≡ Some i). ⊎_elim
    (λ (c : (i.number ≡ n) × (put b.living n new i.number ≡ new)). inr (among_old (b.living n) b.over i (inl (ap b.living (sym c.0) ∙ lives))))
    (λ (c : (i.number ≢ n) × (put b.living n new i.number ≡ b.living i.number)). inl (c.1 ∙ lives))
    (put_cases b.living n new i.number))
    (λ (over : Among i b.over). inr (among_old (b.living n) b.over i (inr over)))
    h

-- the books when an injection is accepted
abbrev pub taken : List ℕ → Arguments → ℕ → Injection
taken a args n = record { number = n; actor = a; args = args; accepted = true; ledger = no_ledger }

abbrev pub accepting : Books → List ℕ → ℕ → Books
accepting b a n = record { living = put b.living n (accept a (b.living n)); over = b.over }

accept_own : (a : List ℕ) (args : Arguments) (n : ℕ) → accept a (Some (begun a args n)) ≡ Some (taken a args n)
accept_own a args n = rw (same_text a)

still_accepted : (b : Books) (a : List ℕ) (args : Arguments) (n : ℕ) → b.living n ≡ Some (begun a args n)
    → (i : Injection) → IsInjected b i → i.accepted ≡ true → IsInjected (accepting b a n) i
still_accepted b a args n own i h t = ⊎_elim
    (λ (lives : b.living i.number ≡ Some i). inl (put_other b.living n _ i.number (λ same.
    let w : b.living i.number ≡ b.living n = ap b.living same in
    let v : i.accepted ≡ false = cc in
    off (sym v ∙ t)) ∙ lives))
    (λ (over : Among i b.over). inr over)
    h

module _ (now : ℕ) (q : Queue) (a : List ℕ) (args : Arguments) (G : Sound q) where
  abbrev To : Queue → Row → Type 0
  To = Leads now q a args G

  -- where a name now leads
  put_right : (x : Name) (i : ℕ) (c : Books) (y : Entry) → IsRight x y (q.role y.number) → y ≡ entry q.disk.files i
      → NameSuits (named q x (Some i) c) x
  put_right x i c y right is z h =
      let w = find_put q.disk.names q.disk.files x i in
      let same : y ≡ z = cc in
      subst (λ (v : Entry). IsRight x v (q.role v.number)) same right

  -- the link to mess/n, which begins an injection
  pub link_row : (seq n fd : ℕ) → AtLink q a args seq n fd → q.disk.names (path (Of Mess n)) ≡ None
      → To (named q (Of Mess n) (Some n) (beginning q.books a args n)) (at.UnlinkPid seq n (record { 0 = fd }))
  link_row seq n fd h free =
      let x = Of Mess n in
      let c = beginning q.books a args n in
      let r = named q x (Some n) c in
      let none = find_none q.disk.names q.disk.files x free in
      let F = gone_of (about q n) (G.fine n) none in
      let pid = Pid args.pid args.start seq in
      let y : Entry = record { number = n; file = h.file } in
      let is = (found q.disk.names q.disk.files pid y h.pid).1 in
      let other = named_other q x (Some n) c in
      let begins : IsBegun (about r n) a args n = record {
        file = h.file;
        mess = find_put q.disk.names q.disk.files x n ∙ ap Some (sym is);
        unsorted = λ part later. other (Of part n) (later_far x part n refl later) ∙ F.unsorted part later;
        no_todo = todo_same (about q n).parts (about r n).parts (λ part is. other (Of part n) (todo_apart part n x is refl)) ∙ F.no_todo;
        lives = put_same q.books.living n _;
      } in
      named_outcome now q a args G x (Some n) c n (at.UnlinkPid seq n (record { 0 = fd })) refl F.unsorted h.mine (inl none)
      (λ k is. (pid, (found q.disk.names q.disk.files pid y h.pid).0 ∙ is))
      refl
      (put_right x n c y ((refl, (a, args, h.mine)), (G.suits pid y h.pid).1) is)
      (λ k far. put_other q.books.living n _ k far)
      (λ i w t. still_injected q.books a args n i w)
      (λ i w t. ⊎_elim (λ lives. F.settled i lives t) (λ over. G.over i over t) (old_among (q.books.living n) q.books.over i w))
      (λ e k i lives t none. ⊎_elim
      (λ (s : (k ≡ n) × (put q.books.living n (Some (begun a args n)) k ≡ Some (begun a args n))).
      let w = s.1 in let same : begun a args n ≡ i = cc in off (ap (λ (z : Injection). z.accepted) same ∙ t))
      (λ (s : (k ≢ n) × (put q.books.living n (Some (begun a args n)) k ≡ q.books.living k)).
      e.waits k i (sym s.1 ∙ lives) t (sym (todo_same (about q k).parts (about r k).parts (λ part is. other (Of part k) (todo_apart part k x is refl))) ∙ none))
      (put_cases q.books.living n (Some (begun a args n)) k))
      (λ e i w t. ⊎_elim (λ lives. e.waits n i lives t F.no_todo) (λ over. e.none_over i over t) (old_among (q.books.living n) q.books.over i w))
      (begun_phase r a args n begins) (
        record {
          mess = record {
            holds = record {
              mine = h.mine;
              rest = record { bare = record { begins = begins; no_intd = intd_same (about q n).parts (about r n).parts (λ part is. other (Of part n) (intd_apart part n x is refl)) ∙ F.no_intd }; holds = h.empty };
            };
            opened = h.opened;
          };
          file = h.file;
          pid = other pid (λ s. cc) ∙ h.pid;
        },
        tt,
      )

  -- a name of this injector's goes
  gone_row : (x : Name) (n : ℕ) (row : Row) → is_later_name x ≡ false → is_todo_name x ≡ false → IsUnsorted (about q n) → q.role n ≡ AsMessage a args
      → (about q n).living ≡ Some (begun a args n) → Concerns q x (Some n)
      → Phase (about (named q x None q.books) n) → Basis (named q x None q.books) a args row → To (named q x None q.books) row
  gone_row x n row early no_todo unsorted mine lives concerns fine next =
      named_outcome now q a args G x None q.books n row early unsorted mine (inr lives) (λ k is. absurd (cc)) concerns
      (λ z h. let w = find_gone q.disk.names q.disk.files x in absurd (cc)) (λ _ _. refl) (λ _ w _. w) G.over
      (λ e k i lives t none. e.waits k i lives t
      (sym (todo_same (about q k).parts (about (named q x None q.books) k).parts (λ part is. named_other q x None q.books (Of part k) (todo_apart part k x is no_todo))) ∙ none))
      (λ e. e.none_over)
      fine next

  -- another name went, and the injection goes on
  abbrev begun_still : (x : Name) (n : ℕ) → is_later_name x ≡ false → Of Mess n ≢ x → is_todo_name x ≡ false → IsBegun (about q n) a args n
      → IsBegun (about (named q x None q.books) n) a args n
  begun_still x n early mess todo b =
      let other = named_other q x None q.books in
      record {
        file = b.file;
        mess = other (Of Mess n) mess ∙ b.mess;
        unsorted = λ part later. other (Of part n) (later_far x part n early later) ∙ b.unsorted part later;
        no_todo = todo_same (about q n).parts (about (named q x None q.books) n).parts (λ part is. other (Of part n) (todo_apart part n x is todo)) ∙ b.no_todo;
        lives = b.lives;
      }

  pub unlink_row : (seq n fd : ℕ) → AtUnlink q a args seq n fd
      → To (named q (Pid args.pid args.start seq) None q.books) (in_message (message_text args) n fd 0)
  unlink_row seq n fd h =
      let x = Pid args.pid args.start seq in
      let r = named q x None q.books in
      let d = h.mess.holds.rest in
      let begins = begun_still x n refl (λ s. cc) refl d.bare.begins in
      let no_intd = intd_same (about q n).parts (about r n).parts (λ part is. named_other q x None q.books (Of part n) (intd_apart part n x is refl)) ∙ d.bare.no_intd in
      gone_row x n _ refl refl d.bare.begins.unsorted h.mess.holds.mine d.bare.begins.lives (λ y e. let w = h.pid in cc) (begun_phase r a args n begins)
      (message_next r a args n fd 0 (record {
        holds = record { mine = h.mess.holds.mine; rest = record { bare = record { begins = begins; no_intd = no_intd }; holds = d.holds } };
        opened = h.mess.opened;
      }))

  pub clean_intd_row : (n : ℕ) (cause : ℕ) → Holds q a args n (λ w. IsBegun w a args n) → IsFailure cause
      → To (named q (Of Intd n) None q.books) (at.CleanMess n cause)
  clean_intd_row n cause h bad =
      let x = Of Intd n in
      let r = named q x None q.books in
      let begins = begun_still x n refl (λ s. cc) refl h.rest in
      gone_row x n _ refl refl h.rest.unsorted h.mine h.rest.lives refl (begun_phase r a args n begins)
      (record { mine = h.mine; rest = record { begins = begins; no_intd = intd_alone (about r n).parts (named_other q x None q.books (Of SplitIntd n) (λ s. cc) ∙ no_split q G.suits SplitIntd refl n) ∙ find_gone q.disk.names q.disk.files x } }, bad)

  pub clean_mess_row : (n : ℕ) (cause : ℕ) → Holds q a args n (λ w. IsBare w a args n) → IsFailure cause
      → To (named q (Of Mess n) None q.books) (at.Failed cause)
  clean_mess_row n cause h bad =
      let x = Of Mess n in
      let r = named q x None q.books in
      let other = named_other q x None q.books in
      let b = h.rest.begins in
      gone_row x n _ refl refl b.unsorted h.mine b.lives refl
      (Free (record {
        not_accepted = λ i lives t. let w = b.lives in let v : i.accepted ≡ false = cc in off (sym v ∙ t);
        unsorted = λ part later. other (Of part n) (later_far x part n refl later) ∙ b.unsorted part later;
        no_todo = todo_same (about q n).parts (about r n).parts (λ part is. other (Of part n) (todo_apart part n x is refl)) ∙ b.no_todo;
        intd_below = λ _. intd_same (about q n).parts (about r n).parts (λ part is. other (Of part n) (intd_apart part n x is refl)) ∙ h.rest.no_intd;
      }))
      (tt, bad)

  -- the link of intd to todo, by which the injection is accepted
  pub link_todo_row : (n : ℕ) → IsValid args → (h : AtLinkTodo q a args n) → To (named q (Of Todo n) (Some h.number) (accepting q.books a n)) at.Queued
  link_todo_row n valid h =
      let x = Of Todo n in
      let c = accepting q.books a n in
      let w = h.holds.rest in
      let y : Entry = record { number = h.number; file = w.file } in
      let is = (found q.disk.names q.disk.files (Of Intd n) y w.intd).1 in
      let lives : c.living n ≡ Some (taken a args n) = put_same q.books.living n _ ∙ ap (accept a) w.begins.lives ∙ accept_own a args n in
      named_outcome now q a args G x (Some h.number) c n at.Queued refl w.begins.unsorted h.holds.mine (inr w.begins.lives)
      (λ k is. (Of Intd n, (found q.disk.names q.disk.files (Of Intd n) y w.intd).0 ∙ is))
      refl
      (put_right x h.number c y (G.suits (Of Intd n) y w.intd) is)
      (λ k far. put_other q.books.living n _ k far)
      (λ i. still_accepted q.books a args n w.begins.lives i)
      G.over
      (λ e k i living t none.
      let r = named q x (Some h.number) c in
      let bare : look r (Of Todo k) ≡ None = todo_missing (about r k).parts none Todo refl in
      ⊎_elim
      (λ (same : Of Todo k ≡ x). let v = find_put q.disk.names q.disk.files x h.number in let u = ap (look r) same in absurd (cc))
      (λ (far : Of Todo k ≢ x).
      e.waits k i (sym (put_other q.books.living n _ k (λ s. far (ap (Of Todo) s))) ∙ living) t
      (todo_here q G.suits k ∙ sym (named_other q x (Some h.number) c (Of Todo k) far) ∙ bare))
      (tells_name x (Of Todo k)))
      (λ e. e.none_over)
      (Queued (record {
        taken = record {
          injection = taken a args n;
          lives = lives;
          accepted = refl;
          mess = record { number = n; file = w.begins.file };
          mess_there = named_other q x (Some h.number) c (Of Mess n) (λ s. cc) ∙ w.begins.mess;
          message = w.message;
          valid = valid;
          spots = record {
            delivered = λ s none. absurd none;
            failed = λ s none. absurd none;
            noted = λ it none. absurd none;
            marked = λ it none. absurd none;
            bounced = λ b none. absurd none;
          };
        };
        todo = y;
        todo_there = todo_flat (about (named q x (Some h.number) c) n).parts y (find_put q.disk.names q.disk.files x h.number ∙ ap Some (sym is));
        text = w.fulfils;
        no_bounce = named_other q x (Some h.number) c (Of Bounce n) (λ s. cc) ∙ w.begins.unsorted Bounce refl;
        fresh = refl;
      }))
      (tt, (taken a args n, inl lives, refl, refl, refl))
