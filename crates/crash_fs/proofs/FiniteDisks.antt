-- A disk has finitely many names and open descriptors, and keeps that through each call.
use Rattle.std.proofs.Common.{◌≡◌, inl, inr, ⊎_elim, ℕ, zero, suc, ◌+◌, ◌<◌, List, [], ◌∷◌, length, get_or, bytes_eq, nat_eq, Option, Some, None, sym, ap, ◌∙◌, subst, arith}
use Rattle.std.specs.Option.{option_map}
use Rattle.std.proofs.lemmas.Bool.Decides.{Decides-eqb}
use Rattle.call_fs.specs.declared.calls.FsError.TheVariants.{Fault}
use Rattle.call_fs.specs.declared.calls.How.{How}
use Rattle.call_fs.specs.declared.calls.CallData.{CallData}
use Rattle.call_fs.specs.declared.calls.CallData.TheVariants as call
use Rattle.call_fs.specs.declared.calls.Answer.{Answer}
use Rattle.call_fs.specs.declared.calls.Answer.TheVariants as told
use Rattle.call_fs.specs.Disk.{Disk, File, Open, Among}
use Rattle.call_fs.specs.declared.modes.Mode.{Mode}
use Rattle.call_fs.specs.Apply.{Apply, effect, changed, with_open}
use Rattle.call_fs.specs.Survival.{halted}
use Rattle.call_fs.specs.Maps.{put, put_at}
use Rattle.call_fs.proofs.Maps.{put_cases, put_at_cases, bytes_eq-decides}
use Rattle.mem_fs.specs.MemDisk.{Held, disk_of}
use Rattle.mem_files.proofs.Tables.{place_of_found}
use Rattle.crash_fs.specs.Crash.{Crash, crash_disk}
use Rattle.crash_fs.specs.Answers.{IsFinite}

pub finite_empty : (d : Disk) → ((name : List ℕ) → d.names name ≡ None) → ((fd : ℕ) → d.opens fd ≡ None) → IsFinite d
finite_empty d no_names no_opens = record {
  texts = [];
  named = λ name n is. let none = sym (no_names name) ∙ is in absurd (cc);
  descriptors = 0;
  within = λ fd o is. let none = sym (no_opens fd) ∙ is in absurd (cc);
}

-- a name is of a number, or of none
named_too : (d : Disk) (files : ℕ → File) (opens : ℕ → Option Open) (new : List ℕ) (value : Option ℕ) → IsFinite d
    → (top : ℕ) → ((fd : ℕ) (o : Open) → opens fd ≡ Some o → fd < top)
    → IsFinite (record { dirs = d.dirs; names = put_at d.names new value; files = files; opens = opens })
named_too d files opens new value f top under = record {
  texts = new ∷ f.texts;
  named = λ name n is. ⊎_elim
      (λ h. inl h.0)
      (λ h. inr (f.named name n (sym h.1 ∙ is)))
      (put_at_cases d.names new value name);
  descriptors = top;
  within = under;
}

finite_changed : (d : Disk) (o : Option Open) (f : File → File) → IsFinite d → IsFinite (changed d o f)
finite_changed d None f finite = finite
finite_changed d (Some o) f finite = record {
  texts = finite.texts;
  named = finite.named;
  descriptors = finite.descriptors;
  within = finite.within;
}

-- fewer are open
pub fewer_open : (d : Disk) (opens : ℕ → Option Open) → ((fd : ℕ) (o : Open) → opens fd ≡ Some o → d.opens fd ≡ Some o)
    → IsFinite d
    → IsFinite (record { dirs = d.dirs; names = d.names; files = d.files; opens = opens })
fewer_open d opens was f = record {
  texts = f.texts;
  named = f.named;
  descriptors = f.descriptors;
  within = λ fd o is. f.within fd o (was fd o is);
}

-- one more is
one_more : (d : Disk) (fd : ℕ) (made : Option Open) (f : IsFinite d) (q : ℕ) (o : Open) → put d.opens fd made q ≡ Some o → q < suc fd + f.descriptors
one_more d fd made f q o is = ⊎_elim
    (λ h. let same = h.0 in omega arith)
    (λ h. let lower = f.within q o (sym h.1 ∙ is) in omega arith)
    (put_cases d.opens fd made q)

-- what is open of a new file
abbrev created : ℕ → Open
created n = record { number = n; mode = Mode.Created }

finite_made : (d : Disk) (files : ℕ → File) (name : List ℕ) (fd n : ℕ) → IsFinite d
    → IsFinite (record {
      dirs = d.dirs;
      names = put_at d.names name (Some n);
      files = files;
      opens = put d.opens fd (Some (created n));
    })
finite_made d files name fd n f =
    let made : Option Open = Some (created n) in
    named_too d files (put d.opens fd made) name (Some n) f (suc fd + f.descriptors) (one_more d fd made f)

-- and so does a file under a name
pub finite_placed : (d : Disk) (files : ℕ → File) (name : List ℕ) (n : ℕ) → IsFinite d
    → IsFinite (record { dirs = d.dirs; names = put_at d.names name (Some n); files = files; opens = d.opens })
finite_placed d files name n f = named_too d files d.opens name (Some n) f f.descriptors f.within

-- what is open of the file of a name
abbrev opened : How → ℕ → Open
opened how n = record { number = n; mode = Mode.Opened how }

finite_opened : (d : Disk) (name : List ℕ) (how : How) (fd : ℕ) → IsFinite d → IsFinite (with_open d name how fd)
finite_opened d name how fd f =
    let made : Option Open = option_map (opened how) (d.names name) in
    record {
      texts = f.texts;
      named = f.named;
      descriptors = suc fd + f.descriptors;
      within = one_more d fd made f;
    }

closed_was : (d : Disk) (fd q : ℕ) (o : Open) → put d.opens fd None q ≡ Some o → d.opens q ≡ Some o
closed_was d fd q o is = ⊎_elim
    (λ h. let none : ◌≡◌ {A = Option Open} None (Some o) = sym h.1 ∙ is in absurd (cc))
    (λ h. sym h.1 ∙ is)
    (put_cases d.opens fd None q)

-- each call keeps it
pub finite_after : (d : Disk) (now : ℕ) (c : CallData) (answer : Answer) (w : ℕ) → IsFinite d
    → IsFinite (effect d now c answer w)
finite_after d now (call.CreateExcl name) (told.Created fd n) w f = finite_made d _ name fd.0 n f
finite_after d now (call.Open name how) (told.Opened fd) w f = finite_opened d name how fd.0 f
finite_after d now (call.WriteAt fd place bytes) told.Done w f = finite_changed d (d.opens fd.0) _ f
finite_after d now (call.WriteAt fd place bytes) (told.Refused Fault) w f = finite_changed d (d.opens fd.0) _ f
finite_after d now (call.Truncate fd len) told.Done w f = finite_changed d (d.opens fd.0) _ f
finite_after d now (call.Append fd bytes) told.Done w f = finite_changed d (d.opens fd.0) _ f
finite_after d now (call.Append fd bytes) (told.Refused Fault) w f = finite_changed d (d.opens fd.0) _ f
finite_after d now (call.Sync fd) told.Done w f = finite_changed d (d.opens fd.0) _ f
finite_after d now (call.Close fd) told.Done w f = fewer_open d (put d.opens fd.0 None) (closed_was d fd.0) f
finite_after d now (call.Link old new) told.Done w f = named_too d d.files d.opens new (d.names old) f f.descriptors f.within
finite_after d now (call.Unlink name) told.Done w f = named_too d d.files d.opens name None f f.descriptors f.within
finite_after d now c answer w f = f

pub finite_applied : (before after : Disk) (now : ℕ) (c : CallData) (answer : Answer) → Apply before now c answer after → IsFinite before → IsFinite after
finite_applied before after now c answer (w, fits, is) f = subst IsFinite (sym is) (finite_after before now c answer w f)

-- and so does a machine stop
pub finite_halted : (contents : ℕ → List ℕ) (d : Disk) → IsFinite d → IsFinite (halted contents d)
finite_halted contents d f = record {
  texts = f.texts;
  named = f.named;
  descriptors = f.descriptors;
  within = λ fd o is. absurd (cc);
}

-- A disk in memory keeps lists

abbrev names_of : List (List ℕ × ℕ) → List (List ℕ)
names_of [] = []
names_of (e ∷ es) = e.0 ∷ names_of es

name_among : (es : List (List ℕ × ℕ)) (i : ℕ) (name : List ℕ) (n : ℕ) → i < length es → get_or es i (name, n) ≡ (name, n) → Among name (names_of es)
name_among [] i name n within is = absurd (omega arith)
name_among (e ∷ es) zero name n within is = inl (sym (ap (λ (x : List ℕ × ℕ). x.0) is))
name_among (e ∷ es) (suc i) name n within is = inr (name_among es i name n (omega arith) is)

-- more than each of these descriptors
abbrev above_all : List (ℕ × Open) → ℕ
above_all [] = 0
above_all (e ∷ es) = suc e.0 + above_all es

below_all : (es : List (ℕ × Open)) (i fd : ℕ) (o : Open) → i < length es → get_or es i (fd, o) ≡ (fd, o) → fd < above_all es
below_all [] i fd o within is = absurd (omega arith)
below_all (e ∷ es) zero fd o within is = let same : e.0 ≡ fd = ap (λ (x : ℕ × Open). x.0) is in omega arith
below_all (e ∷ es) (suc i) fd o within is = let rest = below_all es i fd o (omega arith) is in omega arith

pub finite_held : (h : Held) → IsFinite (disk_of h)
finite_held h = record {
  texts = names_of h.names;
  named = λ name n is.
      let place = place_of_found bytes_eq bytes_eq-decides h.names name n is in
      name_among h.names place.0 name n place.1 (place.2 (name, n));
  descriptors = above_all h.opens;
  within = λ fd o is.
      let place = place_of_found nat_eq Decides-eqb h.opens fd o is in
      below_all h.opens place.0 fd o place.1 (place.2 (fd, o));
}

pub finite_crash : (c : Crash) → IsFinite (crash_disk c)
finite_crash c = finite_held c.below.held
