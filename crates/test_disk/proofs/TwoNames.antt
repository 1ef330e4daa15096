-- A file that is made, written, synced, closed and linked, call by call.
use Rattle.std.proofs.Common.{◌≡◌, ◌≢◌, ⊎_elim, ℕ, List, Option, Some, None, IsSome, is_some, refl, sym, ap, ◌∙◌, subst}
use mathlib.Core.Path.{fun_ext}
use Rattle.call_fs.specs.declared.calls.Fd.{Fd}
use Rattle.call_fs.specs.declared.calls.CallData.TheVariants.{CreateExcl, Append, Sync, Close, Link}
use Rattle.call_fs.specs.declared.calls.Answer.TheVariants.{Created, Done}
use Rattle.call_fs.specs.Maps.{put, put_at}
use Rattle.call_fs.specs.Disk.{File, Open, Disk, MayUse, MayAppend, IsSynced}
use Rattle.call_fs.specs.declared.modes.Mode.{Mode}
use Rattle.call_fs.specs.Apply.{Apply, changed, empty_file, grown, synced}
use Rattle.mail_bytes.specs.Told.{Meets}
use Rattle.mem_fs.proofs.InTurn.{told_weaker, told_then}
use Rattle.call_fs.proofs.Maps.{put_cases, put_same, put_other, put_at_cases, put_at_same}

-- what a creation opens
abbrev pub made : ℕ → Open
made n = record { number = n; mode = Mode.Created }

-- ---- a change of one file leaves names and descriptors

changed-names : (d : Disk) (o : Option Open) (f : File → File) → (changed d o f).names ≡ d.names
changed-names d None f = refl
changed-names d (Some o) f = refl

changed-opens : (d : Disk) (o : Option Open) (f : File → File) → (changed d o f).opens ≡ d.opens
changed-opens d None f = refl
changed-opens d (Some o) f = refl

changed-files : (d : Disk) (o : Option Open) (n : ℕ) (f : File → File) → o ≡ Some (made n) → (changed d o f).files ≡ put d.files n (f (d.files n))
changed-files d o n f is = ap (λ (x : Option Open). (changed d x f).files) is

-- ---- the conditions of each call

pub may_append : (before after : Disk) (now : ℕ) (name : List ℕ) (fd : Fd) (n : ℕ) → Apply before now (CreateExcl name) (Created fd n) after → MayAppend after fd.0
may_append before after now name fd n a = (made n, ap (λ (d : Disk). d.opens fd.0) a.2 ∙ put_same before.opens fd.0 (Some (made n)), tt)

pub may_use : (before after : Disk) (now : ℕ) (fd : Fd) (bytes : List ℕ) → Apply before now (Append fd bytes) Done after → MayUse after fd.0
may_use before after now fd bytes a = subst IsSome (sym (ap (λ (d : Disk). d.opens fd.0) a.2 ∙ ap (λ (o : ℕ → Option Open). o fd.0) (changed-opens before (before.opens fd.0) (grown now bytes)))) (ap is_some a.1.1)

pub may_use_again : (before after : Disk) (fd : Fd) → Apply before 0 (Sync fd) Done after → MayUse after fd.0
may_use_again before after fd a = subst IsSome (sym (ap (λ (d : Disk). d.opens fd.0) a.2 ∙ ap (λ (o : ℕ → Option Open). o fd.0) (changed-opens before (before.opens fd.0) synced))) a.1

-- ---- all of them

-- The file has both names, its bytes are on the disk, and nothing else changed.
pub record HasBoth (before after : Disk) (first second : List ℕ) (n : ℕ) (bytes : List ℕ) : Type 0 where
  pub names : after.names ≡ put_at (put_at before.names first (Some n)) second (Some n)
  pub free : (before.names first ≡ None) × (before.names second ≡ None)
  pub is_synced : IsSynced (after.files n) bytes
  pub others : (other : ℕ) → other ≢ n → after.files other ≡ before.files other
  pub opens : after.opens ≡ before.opens

module _ (before d1 d2 d3 d4 after : Disk) (now n : ℕ) (fd : Fd) (first second bytes : List ℕ)
    (a1 : Apply before now (CreateExcl first) (Created fd n) d1) (a2 : Apply d1 now (Append fd bytes) Done d2) (a3 : Apply d2 0 (Sync fd) Done d3) (a4 : Apply d3 0 (Close fd) Done d4) (a5 : Apply d4 0 (Link first second) Done after) where
  names1 : d1.names ≡ put_at before.names first (Some n)
  names1 = ap (λ (d : Disk). d.names) a1.2

  names4 : d4.names ≡ d1.names
  names4 = ap (λ (d : Disk). d.names) a4.2 ∙ (ap (λ (d : Disk). d.names) a3.2 ∙ changed-names d2 (d2.opens fd.0) synced) ∙ (ap (λ (d : Disk). d.names) a2.2 ∙ changed-names d1 (d1.opens fd.0) (grown now bytes))

  opens2 : d2.opens ≡ d1.opens
  opens2 = ap (λ (d : Disk). d.opens) a2.2 ∙ changed-opens d1 (d1.opens fd.0) (grown now bytes)

  opens3 : d3.opens ≡ d2.opens
  opens3 = ap (λ (d : Disk). d.opens) a3.2 ∙ changed-opens d2 (d2.opens fd.0) synced

  open1 : d1.opens fd.0 ≡ Some (made n)
  open1 = ap (λ (d : Disk). d.opens fd.0) a1.2 ∙ put_same before.opens fd.0 (Some (made n))

  files1 : d1.files ≡ put before.files n (empty_file now)
  files1 = ap (λ (d : Disk). d.files) a1.2

  files2 : d2.files ≡ put d1.files n (grown now bytes (d1.files n))
  files2 = ap (λ (d : Disk). d.files) a2.2 ∙ changed-files d1 (d1.opens fd.0) n (grown now bytes) open1

  files3 : d3.files ≡ put d2.files n (synced (d2.files n))
  files3 = ap (λ (d : Disk). d.files) a3.2 ∙ changed-files d2 (d2.opens fd.0) n synced (ap (λ (o : ℕ → Option Open). o fd.0) opens2 ∙ open1)

  files_after : after.files ≡ d3.files
  files_after = ap (λ (d : Disk). d.files) a5.2 ∙ ap (λ (d : Disk). d.files) a4.2

  file_is : after.files n ≡ synced (grown now bytes (empty_file now))
  file_is =
      ap (λ (f : ℕ → File). f n) (files_after ∙ files3) ∙ put_same d2.files n (synced (d2.files n))
      ∙ ap synced (ap (λ (f : ℕ → File). f n) files2 ∙ put_same d1.files n (grown now bytes (d1.files n)) ∙ ap (grown now bytes) (ap (λ (f : ℕ → File). f n) files1 ∙ put_same before.files n (empty_file now)))

  other_is : (other : ℕ) → other ≢ n → after.files other ≡ before.files other
  other_is other apart =
      ap (λ (f : ℕ → File). f other) (files_after ∙ files3) ∙ put_other d2.files n (synced (d2.files n)) other apart
      ∙ ap (λ (f : ℕ → File). f other) files2 ∙ put_other d1.files n (grown now bytes (d1.files n)) other apart
      ∙ ap (λ (f : ℕ → File). f other) files1 ∙ put_other before.files n (empty_file now) other apart

  opens_after : after.opens ≡ before.opens
  opens_after =
      ap (λ (d : Disk). d.opens) a5.2 ∙ ap (λ (d : Disk). d.opens) a4.2 ∙ ap (λ (o : ℕ → Option Open). put o fd.0 None) (opens3 ∙ opens2 ∙ ap (λ (d : Disk). d.opens) a1.2)
      ∙ fun_ext (λ q. ⊎_elim
      (λ h. h.1 ∙ sym a1.1.not_open ∙ ap before.opens (sym h.0))
      (λ h. h.1 ∙ put_other before.opens fd.0 (Some (made n)) q h.0)
      (put_cases (put before.opens fd.0 (Some (made n))) fd.0 None q))

  second_free : before.names second ≡ None
  second_free =
      let free : put_at before.names first (Some n) second ≡ None = ap (λ (m : List ℕ → Option ℕ). m second) (sym (names4 ∙ names1)) ∙ a5.1.free in
      ⊎_elim (λ h. absurd cc) (λ h. sym h.1 ∙ free) (put_at_cases before.names first (Some n) second)

  pub has_both : HasBoth before after first second n bytes
  has_both = record {
    names =
        ap (λ (d : Disk). d.names) a5.2
        ∙ ap (put_at d4.names second) (ap (λ (m : List ℕ → Option ℕ). m first) (names4 ∙ names1) ∙ put_at_same before.names first (Some n))
        ∙ ap (λ (m : List ℕ → Option ℕ). put_at m second (Some n)) (names4 ∙ names1);
    free = (a1.1.free, second_free);
    is_synced = record {
      holds = ap (λ (f : File). f.bytes) file_is;
      all = ap (λ (f : File). f.kept) file_is;
      none_given = ap (λ (f : File). f.given) file_is;
      no_shorter = ap (λ (f : File). f.least) file_is;
      no_longer = ap (λ (f : File). f.greatest) file_is;
    };
    others = other_is;
    opens = opens_after;
  }

-- the same if a disk may tell what it holds
pub in_turn : (o0 o1 o2 o3 o4 o5 : Option Disk) (now n : ℕ) (fd : Fd) (first second bytes : List ℕ)
    → Meets o0 o1 (λ x y. Apply x now (CreateExcl first) (Created fd n) y) → Meets o1 o2 (λ x y. Apply x now (Append fd bytes) Done y) → Meets o2 o3 (λ x y. Apply x 0 (Sync fd) Done y)
    → Meets o3 o4 (λ x y. Apply x 0 (Close fd) Done y) → Meets o4 o5 (λ x y. Apply x 0 (Link first second) Done y)
    → Meets o0 o5 (λ x y. HasBoth x y first second n bytes)
in_turn o0 o1 o2 o3 o4 o5 now n fd first second bytes a1 a2 a3 a4 a5 =
    let P1 : Disk → Disk → Type 0 = λ x y. Apply x now (CreateExcl first) (Created fd n) y in
    let P2 : Disk → Disk → Type 0 = λ x y. Apply x now (Append fd bytes) Done y in
    let P3 : Disk → Disk → Type 0 = λ x y. Apply x 0 (Sync fd) Done y in
    let P4 : Disk → Disk → Type 0 = λ x y. Apply x 0 (Close fd) Done y in
    let P5 : Disk → Disk → Type 0 = λ x y. Apply x 0 (Link first second) Done y in
    let P12 : Disk → Disk → Type 0 = λ x z. (y : Disk) × P1 x y × P2 y z in
    let P34 : Disk → Disk → Type 0 = λ x z. (y : Disk) × P3 x y × P4 y z in
    let P345 : Disk → Disk → Type 0 = λ x z. (y : Disk) × P34 x y × P5 y z in
    told_weaker o0 o5
    (λ x z h. has_both x h.1.0 h.0 h.2.1.0 h.2.0 z now n fd first second bytes h.1.1 h.1.2 h.2.1.1 h.2.1.2 h.2.2)
    (told_then P12 P345 o0 o2 o5 (told_then P1 P2 o0 o1 o2 a1 a2) (told_then P34 P5 o2 o4 o5 (told_then P3 P4 o2 o3 o4 a3 a4) a5))
