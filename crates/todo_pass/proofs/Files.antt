-- The files of a message on a disk: what a call leaves of those that it isn't made at.
use Rattle.std.proofs.Common.{◌≡◌, ◌≢◌, ℕ, ◌+◌, ◌≤◌, ◌<◌, min, List, [], ◌++◌, length, take, drop, Option, Some, refl, sym, ap, ◌∙◌, subst, arith, take-add, take_all, length-append, length-drop}
use Rattle.std.proofs.lemmas.List.{length-take-le}
use Rattle.call_fs.specs.declared.calls.Fd.{Fd}
use Rattle.call_fs.specs.Apply.{changed, grown, synced, with_new, with_name, without_open, with_open}
use Rattle.call_fs.specs.Disk.{File, Open as OpenFile, Disk, IsSynced, IsWhole}
use Rattle.call_fs.specs.declared.modes.Mode.{Mode}
use Rattle.call_fs.proofs.Maps.{put_same, put_other, put_at_same, put_at_other}
use Rattle.queue_paths.specs.Names.{Name}
use Rattle.queue_paths.specs.Names.Name.{Pid, Of}
use Rattle.queue_paths.specs.Names.Part.{Mess as MessFile, Intd as IntdFile, Todo as TodoFile, Info as InfoFile, Local as LocalFile, Remote as RemoteFile, Bounce as BounceFile}
use Rattle.queue_paths.proofs.Paths.{path_injective}
use Rattle.todo_pass.specs.declared.part.Part.{Part}
use Rattle.todo_pass.specs.declared.part.Part.TheVariants as part
use Rattle.todo_pass.specs.declared.part.Target.{Target}
use Rattle.todo_pass.specs.Parts.{part_of, name_in, path_in}
use Rattle.todo_pass.specs.Disks.{SameAt}

-- Two parts of a message have two names.

abbrev back : Name → Part
back (Of MessFile n) = part.Mess
back (Of TodoFile n) = part.Todo
back (Of InfoFile n) = part.Info
back (Of LocalFile n) = part.Local
back (Of RemoteFile n) = part.Remote
back x = part.Mess

back_is : (p : Part) (n : ℕ) → back (name_in p n) ≡ p
back_is part.Mess n = refl
back_is part.Todo n = refl
back_is part.Info n = refl
back_is part.Local n = refl
back_is part.Remote n = refl

pub paths_apart : (p q : Part) (n : ℕ) → p ≢ q → path_in p n ≢ path_in q n
paths_apart p q n apart e = apart (sym (back_is p n) ∙ ap back (path_injective (name_in p n) (name_in q n) e) ∙ back_is q n)

-- What a call leaves of a part that it isn't made at

pub same_all : (n : ℕ) (p : Part) (d : Disk) → SameAt n p d d
same_all n p d = record { name = refl; file = λ k named. refl }

pub same_unnamed : (n : ℕ) (p q : Part) (d : Disk) (number : Option ℕ) → q ≢ p → SameAt n q d (with_name d (path_in p n) number)
same_unnamed n p q d number apart = record {
  name = put_at_other d.names (path_in p n) number (path_in q n) (paths_apart q p n apart);
  file = λ k named. refl;
}

some_same : (a b : ℕ) → Some a ≡ Some b → a ≡ b
some_same a b e = cc

pub same_new : (n : ℕ) (p q : Part) (d : Disk) (now fd m : ℕ) → q ≢ p → ((name : List ℕ) → d.names name ≢ Some m) → SameAt n q d (with_new d now (path_in p n) fd m)
same_new n p q d now fd m apart unnamed = record {
  name = put_at_other d.names (path_in p n) (Some m) (path_in q n) (paths_apart q p n apart);
  file = λ k named. put_other d.files m (record { bytes = []; kept = []; given = []; least = 0; greatest = 0; moment = now }) k
      (λ e. unnamed (path_in q n) (named ∙ ap Some e));
}

pub same_changed : (n : ℕ) (q : Part) (d : Disk) (o : OpenFile) (f : File → File) → d.names (path_in q n) ≢ Some o.number → SameAt n q d (changed d (Some o) f)
same_changed n q d o f apart = record {
  name = refl;
  file = λ k named. put_other d.files o.number (f (d.files o.number)) k (λ e. apart (named ∙ ap Some e));
}

pub same_opened : (n : ℕ) (q : Part) (d : Disk) (name : List ℕ) (how : _) (fd : ℕ) → SameAt n q d (with_open d name how fd)
same_opened n q d name how fd = record { name = refl; file = λ k named. refl }

pub same_closed : (n : ℕ) (q : Part) (d : Disk) (fd : ℕ) → SameAt n q d (without_open d fd)
same_closed n q d fd = record { name = refl; file = λ k named. refl }

-- A file that is being written

-- the file of this name is open, newly made, and holds these bytes; no other part of the message is that file
pub record Writing (n : ℕ) (t : Target) (fd : Fd) (written : List ℕ) (d : Disk) : Type 0 where
  pub number : ℕ
  pub named : d.names (path_in (part_of t) n) ≡ Some number
  pub opened : d.opens fd.0 ≡ Some (record { number = number; mode = Mode.Created })
  pub holds : (d.files number).bytes ≡ written
  pub alone : (other : Part) → other ≢ part_of t → d.names (path_in other n) ≢ Some number

pub writing_kept : (n : ℕ) (t : Target) (fd : Fd) (written : List ℕ) (d e : Disk) → ((p : Part) → SameAt n p d e) → e.opens fd.0 ≡ d.opens fd.0
    → Writing n t fd written d → Writing n t fd written e
writing_kept n t fd written d e same opens w = record {
  number = w.number;
  named = (same (part_of t)).name ∙ w.named;
  opened = opens ∙ w.opened;
  holds = ap (λ (f : File). f.bytes) ((same (part_of t)).file w.number w.named) ∙ w.holds;
  alone = λ other apart named. w.alone other apart (sym (same other).name ∙ named);
}

pub writing_new : (n : ℕ) (t : Target) (fd : Fd) (d : Disk) (now m : ℕ) → ((name : List ℕ) → d.names name ≢ Some m)
    → Writing n t fd [] (with_new d now (path_in (part_of t) n) fd.0 m)
writing_new n t fd d now m unnamed = record {
  number = m;
  named = put_at_same d.names (path_in (part_of t) n) (Some m);
  opened = put_same d.opens fd.0 (Some (record { number = m; mode = Mode.Created }));
  holds = ap (λ (f : File). f.bytes) (put_same d.files m (record { bytes = []; kept = []; given = []; least = 0; greatest = 0; moment = now }));
  alone = λ other apart named. unnamed (path_in other n)
      (sym (put_at_other d.names (path_in (part_of t) n) (Some m) (path_in other n) (paths_apart other (part_of t) n apart)) ∙ named);
}

-- its open file, as the disk has it
abbrev pub open_of : ℕ → OpenFile
open_of number = record { number = number; mode = Mode.Created }

pub changed_at : (d : Disk) (fd : Fd) (number : ℕ) (f : File → File) → d.opens fd.0 ≡ Some (open_of number) → changed d (d.opens fd.0) f ≡ changed d (Some (open_of number)) f
changed_at d fd number f e = ap (λ o. changed d o f) e

pub writing_grown : (n : ℕ) (t : Target) (fd : Fd) (written more : List ℕ) (d : Disk) (now : ℕ) (w : Writing n t fd written d)
    → Writing n t fd (written ++ more) (changed d (Some (open_of w.number)) (grown now more))
writing_grown n t fd written more d now w = record {
  number = w.number;
  named = w.named;
  opened = w.opened;
  holds = ap (λ (f : File). f.bytes) (put_same d.files w.number (grown now more (d.files w.number))) ∙ ap (λ b. b ++ more) w.holds;
  alone = w.alone;
}

synced_is : (f : File) (text : List ℕ) → f.bytes ≡ text → IsSynced (synced f) text
synced_is f text e = subst (IsSynced (synced f)) e (record { holds = refl; all = refl; none_given = refl; no_shorter = refl; no_longer = refl })

pub there_synced : (n : ℕ) (t : Target) (fd : Fd) (text : List ℕ) (d : Disk) (w : Writing n t fd text d)
    → IsWhole (changed d (Some (open_of w.number)) synced) (path_in (part_of t) n) text
there_synced n t fd text d w =
    (w.number, w.named, subst (λ f. IsSynced f text) (sym (put_same d.files w.number (synced (d.files w.number)))) (synced_is (d.files w.number) text w.holds))

-- A file that is read piece by piece

pub read_more : (whole had bytes : List ℕ) (count : ℕ) → had ≡ take (length had) whole → count ≡ min 8192 (length (drop (length had) whole))
    → bytes ≡ take count (drop (length had) whole)
    → (had ++ bytes ≡ take (length (had ++ bytes)) whole) × (length bytes < 8192 → had ++ bytes ≡ whole)
read_more whole had bytes count e c b =
    let rest : List ℕ = drop (length had) whole in
    let dropped = length-drop (length had) whole in
    let within : count ≤ length rest = omega arith in
    let len : length bytes ≡ count = ap length b ∙ length-take-le count rest within in
    let joined : had ++ bytes ≡ take (length had + count) whole =
    ap (λ h. h ++ bytes) e ∙ ap (λ t. take (length had) whole ++ t) b ∙ sym (take-add (length had) count whole) in
    let all : length (had ++ bytes) ≡ length had + count = length-append had bytes ∙ ap (λ k. length had + k) len in
    (joined ∙ ap (λ k. take k whole) (sym all), λ short. joined ∙ take_all (length had + count) whole (omega arith))
