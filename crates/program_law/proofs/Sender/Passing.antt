-- A todo pass inside a sender.
use Rattle.std.proofs.Common.{◌≡◌, ◌≢◌, ℕ, List, [], ◌∷◌, ◌++◌, Bool, true, false, Option, Some, None, IsSome, refl, sym, ap, ◌∙◌, subst}
use Rattle.std.specs.Prelude.{if◌then◌else◌, nat_le}
use Rattle.std.specs.Option.{IfSome}
use Rattle.std.proofs.lemmas.List.{append_cancel_right}
use Rattle.address_rules.specs.declared.controls.Controls.{Controls}
use Rattle.call_fs.specs.declared.calls.CallData.{CallData}
use Rattle.call_fs.specs.declared.calls.Fd.{Fd}
use Rattle.call_fs.specs.declared.calls.Told.{Told}
use Rattle.call_fs.specs.declared.past.GotData.TheVariants as came
use Rattle.call_fs.specs.declared.past.NeedData.TheVariants as needs
use Rattle.call_fs.specs.declared.past.Own.{Own}
use Rattle.call_fs.specs.declared.program.Ready.{Ready}
use Rattle.call_fs.specs.Apply.{Fits, IsReadBy}
use Rattle.call_fs.specs.Disk.{Disk, IsWhole}
use Rattle.mail_bytes.specs.Decimal.{digits, number_of}
use Rattle.mail_bytes.proofs.Digits.{number_of_some}
use Rattle.queue_paths.specs.Names.{Part as FilePart, path}
use Rattle.queue_paths.specs.Names.Name.{Of}
use Rattle.queue_paths.specs.Names.Part.{Todo, Info, Local, Remote}
use Rattle.queue_paths.proofs.Parts.{todo_flat}
use Rattle.send_known.specs.declared.channel.Channel.{Channel}
use Rattle.send_known.specs.declared.channel.Channel.TheVariants as channel
use Rattle.send_parts.specs.declared.dir.Dir.TheVariants as dir
use Rattle.send_parts.specs.Files.{from_one}
use Rattle.send_parts.specs.Steps.{dir_text}
use Rattle.send_core.specs.Turn.{known_of}
use Rattle.todo_pass.specs.declared.part.Part.{Part}
use Rattle.todo_pass.specs.declared.row.Row.{Row}
use Rattle.todo_pass.specs.declared.row.Row.TheVariants as at
use Rattle.todo_pass.specs.declared.sorted.Sorted.{Sorted as Texts}
use Rattle.todo_pass.specs.Disks.{SameAt, fd_in, HoldsTodo, LeaveAlone, LeadsTo, IsMade as IsMadeOn, IsComplete}
use Rattle.todo_pass.specs.Laws.{IsMadeRow}
use Rattle.todo_pass.specs.Run.{IsRun}
use Rattle.todo_pass.specs.Sorting.{has, info_text}
use Rattle.todo_pass.specs.Table.{Pass, place_after as pass_after, moved, due_by as pass_due}
use Rattle.todo_pass.proofs.Ends.{files_are_made}
use Rattle.todo_pass.proofs.Made.{numbered}
use Rattle.queue_law.specs.Books.{own_call, with_line}
use Rattle.queue_law.specs.Ledgers.Line.{Routes}
use Rattle.queue_law.specs.Numbers.{Role, Entry, entry, Queue, look, about, Sound}
use Rattle.queue_law.specs.Passes.{PassStands}
use Rattle.queue_law.specs.Ready.{HasSynced}
use Rattle.queue_law.specs.Rests.{Spares}
use Rattle.queue_law.specs.Routes.{lane_part, info_of, sender_of}
use Rattle.queue_law.specs.Senders.{called_queue}
use Rattle.queue_law.specs.Steps.{Elsewhere}
use Rattle.queue_law.proofs.Begins.{rests_begin}
use Rattle.queue_law.proofs.Looks.{find_none, find_some, found}
use Rattle.queue_law.proofs.Passes.{passes_keep}
use Rattle.queue_law.proofs.PassesMake.{passes_make, pass_is_left_alone, passes_give as queue_gives}
use Rattle.queue_law.proofs.Sends.{entered_living}
use Rattle.program_law.specs.Sender.Knows.{has_file, IsThereIf}
use Rattle.program_law.specs.Sender.InTodo.{PassGoesOn}
use Rattle.program_law.specs.Sender.Searches.{SearchBegins, PassGoesTo, PassesGoOn, PassesGive}
use Rattle.call_fs.proofs.Coming.{fits_answer}

-- What is left alone

same_parts : (n : ℕ) (it : Part) (d : Disk) → SameAt n it d d
same_parts n it d = record { name = refl; file = λ k named. refl }

same_open : (o : Option Fd) (d : Disk) → IfSome o (λ (fd : Fd). d.opens fd.0 ≡ d.opens fd.0)
same_open None d = tt
same_open (Some fd) d = refl

pub nothing_else : (n : ℕ) (row : Row) (d : Disk) → LeaveAlone n row d d
nothing_else n row d = record { parts = λ it held. same_parts n it d; descriptor = same_open (fd_in row) d }

open_then : (o : Option Fd) (d e f : Disk) → IfSome o (λ (fd : Fd). e.opens fd.0 ≡ d.opens fd.0) → IfSome o (λ (fd : Fd). f.opens fd.0 ≡ e.opens fd.0)
    → IfSome o (λ (fd : Fd). f.opens fd.0 ≡ d.opens fd.0)
open_then None d e f one two = tt
open_then (Some fd) d e f one two = two ∙ one

parts_then : (n : ℕ) (it : Part) (d e f : Disk) → SameAt n it d e → SameAt n it e f → SameAt n it d f
parts_then n it d e f one two = record { name = two.name ∙ one.name; file = λ k named. two.file k (one.name ∙ named) ∙ one.file k named }

alone_then : (n : ℕ) (row : Row) (d e f : Disk) → LeaveAlone n row d e → LeaveAlone n row e f → LeaveAlone n row d f
alone_then n row d e f one two = record {
  parts = λ it held. parts_then n it d e f (one.parts it held) (two.parts it held);
  descriptor = open_then (fd_in row) d e f one.descriptor two.descriptor;
}

leads_more : (controls : Controls) (n : ℕ) (past : List Own) (first d e : Disk) → LeadsTo controls n first past d → LeaveAlone n (pass_after controls n past).row d e
    → LeadsTo controls n first past e
leads_more controls n [] first d e h more = alone_then n (pass_after controls n []).row first d e h more
leads_more controls n (event ∷ before) first d e h more =
    (h.0, h.1, h.2, h.3, alone_then n (pass_after controls n (event ∷ before)).row h.1 d e h.4 more)

-- A pass of a number, at its place

pub goes_at : (controls : Controls) (now : ℕ) (q : Queue) (a : List ℕ) (n : ℕ) (past : List Own) (p : Pass) (first : Disk) → p ≡ pass_after controls n past → IsRun controls n past
    → LeadsTo controls n first past q.disk → PassStands now q a n (pass_after controls n past).row → PassGoesOn controls now q a p
goes_at controls now q a n past p first is run leads stands =
    let number : n ≡ p.n = sym (ap (λ (z : Pass). z.n) is ∙ numbered controls n past) in
    record {
      past = past;
      is = is ∙ ap (λ m. pass_after controls m past) number;
      run = subst (λ m. IsRun controls m past) number run;
      first = first;
      leads = subst (λ m. LeadsTo controls m first past q.disk) number leads;
      stands = subst (λ m. PassStands now q a m p.row) number (subst (λ (z : Pass). PassStands now q a n z.row) (sym is) stands);
    }

-- The search

from_read : (low : Bool) (m n : ℕ) → ◌≡◌ {A = Option ℕ} (if low then Some m else None) (Some n) → m ≡ n
from_read true m n is = cc
from_read false m n is = absurd (cc)

pub number_read : (o : Option ℕ) (n : ℕ) → from_one o ≡ Some n → o ≡ Some n
number_read None n is = absurd (cc)
number_read (Some m) n is = ap Some (from_read (nat_le 1 m) m n is)

pub some_of : {A : Type 0} (o : Option A) → IsSome o → (x : A) × (o ≡ Some x)
some_of None h = absurd (cc)
some_of (Some x) h = (x, refl)

todo_path : (n : ℕ) → dir_text dir.Todo ++ 47 ∷ digits n ≡ path (Of Todo n)
unfolding path
todo_path n = refl

pub search_begins : SearchBegins
search_begins controls now q a read after text wrote n G fits number =
    let is : text ≡ digits n = (number_of_some text n (number_read (number_of text) n number)).0 in
    let named : IsSome (q.disk.names (path (Of Todo n))) =
    subst (λ (t : List ℕ). IsSome (q.disk.names t)) (ap (λ (t : List ℕ). dir_text dir.Todo ++ 47 ∷ t) is ∙ todo_path n) fits.1.stands.0 in
    let w = some_of (q.disk.names (path (Of Todo n))) named in
    record {
      past = [];
      is = refl;
      run = tt;
      first = q.disk;
      leads = nothing_else n (pass_after controls n []).row q.disk;
      stands = record {
        rests = λ holds. rests_begin.queued now q n (entry q.disk.files w.0) G (todo_flat (about q n).parts (entry q.disk.files w.0) (find_some q.disk.names q.disk.files (Of Todo n) w.0 w.1));
        holds = tt;
      };
    }

-- Its steps

nothing_ready : Ready
nothing_ready = record { links = []; child = None }

module _ (controls : Controls) (now : ℕ) (q : Queue) (a : List ℕ) (p : Pass) (h : PassGoesOn controls now q a p) where
  n : ℕ
  n = p.n

  at_place : PassStands now q a p.n (pass_after controls p.n h.past).row
  at_place = subst (λ (z : Pass). PassStands now q a p.n z.row) h.is h.stands

  calls : (read : ℕ) (call : CallData) (told : Told) (wrote : ℕ) → Sound q → pass_due p ≡ needs.File call → Fits q.disk call told.answer wrote
      → IsReadBy q.disk call told
      → (role : ℕ → Role) × PassGoesTo controls now a q (called_queue q a read call told.answer wrote role) p (moved controls p read (came.Answered told))
  calls read call told wrote G due fits told_is =
      let due_now : pass_due (pass_after controls p.n h.past) ≡ needs.File call = sym (ap pass_due h.is) ∙ due in
      let w = passes_keep controls now q a p.n h.past read nothing_ready call told wrote G at_place due_now fits in
      let own = own_call read nothing_ready call told in
      let r = called_queue q a read call told.answer wrote w.0 in (
        w.0,
        record {
          leads = w.1.leads;
          goes_on = goes_at controls now r a p.n (own ∷ h.past) (moved controls p read (came.Answered told)) h.first
              (ap (λ (z : Pass). moved controls z read (came.Answered told)) h.is)
              (h.run, (due_now, fits_answer q.disk call told.answer wrote fits))
              (q.disk, r.disk, h.leads, ((wrote, fits, refl), told_is), nothing_else p.n (pass_after controls p.n (own ∷ h.past)).row r.disk)
              w.1.stands;
        },
      )

  others : (o : List ℕ) (m k : Option ℕ) (r : Queue) → Elsewhere now o m q r → a ≢ o → Spares now k q r → k ≢ Some p.n → about r p.n ≡ about q p.n → PassGoesOn controls now r a p
  others o m k r E far S other same =
      let row = (pass_after controls p.n h.past).row in
      record {
        past = h.past;
        is = h.is;
        run = h.run;
        first = h.first;
        leads = leads_more controls p.n h.past h.first q.disk r.disk h.leads (pass_is_left_alone.alone now a o m q r E far p.n row at_place.holds same);
        stands = pass_is_left_alone.stands now a o m k q r E far S p.n other p.row h.stands;
      }

pub passes_go_on : PassesGoOn
passes_go_on = record {
  calls = λ controls now q a p read call told wrote G h due fits is. calls controls now q a p h read call told wrote G due fits is;
  others = λ controls now a o m k q r p E far S other same h. others controls now q a p h o m k r E far S other same;
  later = λ controls now m soon q a p h. record {
    past = h.past;
    is = h.is;
    run = h.run;
    first = h.first;
    leads = h.leads;
    stands = pass_is_left_alone.later now m soon q a p.n p.row h.stands;
  };
}

-- The command

there_if : (q : Queue) (part : FilePart) (n : ℕ) (text : List ℕ) → IsMadeOn q.disk (path (Of part n)) text → IsThereIf (has text) (look q (Of part n))
there_if q part n [] h = find_none q.disk.names q.disk.files (Of part n) h
there_if q part n (b ∷ text) h = (entry q.disk.files h.0, find_some q.disk.names q.disk.files (Of part n) h.0 h.1)

-- two texts that one file has
one_text : (q : Queue) (n : ℕ) (text other : List ℕ) → IsWhole q.disk (path (Of Info n)) text → HasSynced (about q n) Info other → text ≡ other
one_text q n text other h w =
    let f = found q.disk.names q.disk.files (Of Info n) w.file w.there in
    let number : h.0 ≡ w.file.number = (let v = h.1 in let u = f.0 in cc) in
    sym h.2.holds ∙ ap (λ k. (q.disk.files k).bytes) number ∙ ap (λ (y : Entry). y.file.bytes) (sym f.1) ∙ w.synced.holds

rest_of : List ℕ → List ℕ
rest_of [] = []
rest_of (b ∷ bs) = bs

abbrev tail : List ℕ → List ℕ
tail [] = []
tail (b ∷ bs) = bs

one_sender : (s t : List ℕ) → info_text s ≡ info_text t → s ≡ t
one_sender s t same = append_cancel_right s t (0 ∷ []) (ap tail same)

both : (P : Channel → Type 0) → P channel.Local → P channel.Remote → (ch : Channel) → P ch
both P local remote channel.Local = local
both P local remote channel.Remote = remote

pub passes_give : PassesGive
passes_give controls now q a p plain G h at_give =
    let place : (pass_after controls p.n h.past).row ≡ at.Give = sym (ap (λ (z : Pass). z.row) h.is) ∙ at_give in
    let R = h.stands.rests (subst HoldsTodo (sym at_give) tt) in
    let i = R.rest.taken.injection in
    let made = passes_make controls p.n h.past h.first q h.run h.leads place R.rest in
    let given = queue_gives controls now q a p.n plain G R made in
    let F = files_are_made controls p.n h.past h.first q.disk h.run h.leads (subst IsMadeRow (sym place) tt) in
    let C = subst (λ (z : Pass). IsComplete p.n z q.disk) (sym h.is) F.complete in
    let args = i.args in
    let sorted = ap (λ (z : Pass). z.sorted) h.is ∙ F.sorted.2 in
    let info : p.sorted.info ≡ info_text p.sorted.sender =
    ap (λ (s : Texts). s.info) sorted ∙ ap info_text (sym (ap (λ (s : Texts). s.sender) sorted)) in
    let same : info_text p.sorted.sender ≡ info_of args = sym info ∙ one_text q p.n p.sorted.info (info_of args) C.info made.info in
    record {
      given = given;
      learned = record {
        injection = with_line (Routes controls) i;
        lives = entered_living now q a G p.n (Routes controls) i R.rest.taken.lives;
        sender_is = one_sender p.sorted.sender (sender_of args) same;
        files = both (λ ch. IsThereIf (has_file ch (known_of p)) (look q (Of (lane_part ch) p.n)))
            (there_if q Local p.n p.sorted.local C.local) (there_if q Remote p.n p.sorted.remote C.remote);
      };
    }
