-- Lists of descriptors, and what a call opens.
use Rattle.std.proofs.Common.{◌≡◌, ◌≢◌, ℕ, List, [], ◌∷◌, ◌++◌, Bool, true, false, ◌||◌, ◌&&◌, not, if◌then◌else◌, eqb, Option, Some, None, IsSome, Result, Ok, Err, refl, sym, ap, ◌∙◌, subst, ⊎_elim}
use Rattle.std.proofs.Math.Path.{fun_ext}
use Rattle.std.proofs.Math.Bool.{or-false, or-true, and-false}
use Rattle.std.proofs.lemmas.Bool.{eqb-false}
use Rattle.std.proofs.lemmas.Bool.Decides.{eqb_tells}
use Rattle.std.proofs.lemmas.List.Folds.{list_any-append}
use Rattle.std.proofs.lemmas.Map.Views.{any-filter_same}
use Rattle.call_fs.specs.declared.calls.Fd.{Fd}
use Rattle.call_fs.specs.declared.calls.FsError.{FsError}
use Rattle.call_fs.specs.declared.calls.CallData.TheVariants as call
use Rattle.call_fs.specs.declared.calls.Answer.TheVariants as told
use Rattle.call_fs.specs.Disk.{Disk, Open, MayUse}
use Rattle.call_fs.specs.Maps.{put}
use Rattle.call_fs.specs.Apply.{effect, Apply}
use Rattle.call_fs.specs.Calls.{done}
use Rattle.call_fs.specs.Columns.{IsAnswerTo}
use Rattle.mail_bytes.specs.Told.{OnTold, Meets}
use Rattle.call_fs.proofs.Maps.{put_other}
use Rattle.world_events.specs.Opened.{has, AreApart, AreOpen, shut, without}

-- a close is always Ok
pub close_told : (old new : Option Disk) (fd : Fd) (result : Result (Unit {0}) FsError) → IsAnswerTo (call.Close fd) (done result)
    → Meets old new (λ d e. Apply d 0 (call.Close fd) (done result) e) → Meets old new (λ d e. Apply d 0 (call.Close fd) told.Done e)
close_told old new fd (Ok x) kind h = h
close_told old new fd (Err why) kind h = absurd kind

pub eqb_flip : (a b : ℕ) → eqb a b ≡ eqb b a
eqb_flip a b = ⊎_elim
    (λ h. ⊎_elim (λ g. h.0 ∙ sym g.0) (λ g. absurd (g.1 (sym h.1))) (eqb_tells b a))
    (λ h. ⊎_elim (λ g. absurd (h.1 (sym g.1))) (λ g. h.0 ∙ sym g.0) (eqb_tells b a))
    (eqb_tells a b)

-- both tests fail
both_false : (a b : Bool) → (a || b) ≡ false → (a ≡ false) × (b ≡ false)
both_false true b h = absurd cc
both_false false b h = (refl, h)

either_false : (a b : Bool) → a ≡ false → b ≡ false → (a || b) ≡ false
either_false true b g h = absurd cc
either_false false b g h = h

pub has_push : (q : ℕ) (fds : List Fd) (fd : Fd) → has q (fds ++ fd ∷ []) ≡ (has q fds || eqb fd.0 q)
has_push q fds fd = list_any-append (λ (one : Fd). eqb one.0 q) fds (fd ∷ []) ∙ ap (λ b. has q fds || b) (or-false (eqb fd.0 q))

pub apart_push : (fds : List Fd) (fd : Fd) → AreApart fds → has fd.0 fds ≡ false → AreApart (fds ++ fd ∷ [])
apart_push [] fd each none = (refl, tt)
apart_push (x ∷ fds) fd each none =
    let both = both_false (eqb x.0 fd.0) (has fd.0 fds) none in
    (has_push x.0 fds fd ∙ either_false (has x.0 fds) (eqb fd.0 x.0) each.0 (eqb_flip fd.0 x.0 ∙ both.0), apart_push fds fd each.1 both.1)

-- without one of them
pub has_without : (q fd : ℕ) (fds : List Fd) → has q (without fd fds) ≡ (not (eqb q fd) && has q fds)
has_without q fd fds = any-filter_same (λ (one : Fd). eqb one.0 q) (λ (one : Fd). not (eqb one.0 fd)) (not (eqb q fd)) same fds where
  same : (one : Fd) → eqb one.0 q ≡ true → not (eqb one.0 fd) ≡ not (eqb q fd)
  same one at = ap (λ (n : ℕ). not (eqb n fd)) (⊎_elim (λ h. h.1) (λ h. absurd (cc (sym at ∙ h.0))) (eqb_tells one.0 q))

pub apart_without : (fd : ℕ) (fds : List Fd) → AreApart fds → AreApart (without fd fds)
apart_without fd [] each = tt
apart_without fd (x ∷ fds) each =
    elim (not (eqb x.0 fd)) as (λ t. AreApart (if t then x ∷ without fd fds else without fd fds)) [
      | true ↦ (has_without x.0 fd fds ∙ ap (λ b. not (eqb x.0 fd) && b) each.0 ∙ and-false (not (eqb x.0 fd)), apart_without fd fds each.1)
      | false ↦ apart_without fd fds each.1
    ]

-- the last of a list of open descriptors is open, and isn't one of the others
pub open_last : (d : Disk) (fds : List Fd) (fd : Fd) → AreOpen d (fds ++ fd ∷ []) → IsSome (d.opens fd.0) × (has fd.0 fds ≡ false)
open_last d [] fd each = (each.0, refl)
open_last d (x ∷ fds) fd each =
    let rest = open_last d fds fd each.2 in
    let both = both_false (has x.0 fds) (eqb fd.0 x.0) (sym (has_push x.0 fds fd) ∙ each.1) in
    (rest.0, either_false (eqb x.0 fd.0) (has fd.0 fds) (eqb_flip x.0 fd.0 ∙ both.1) rest.1)

-- and when it is closed, the others are open still
pub open_rest : (d : Disk) (fds : List Fd) (fd : Fd) → AreOpen d (fds ++ fd ∷ []) → AreOpen (effect d 0 (call.Close fd) told.Done 0) fds
open_rest d [] fd each = tt
open_rest d (x ∷ fds) fd each =
    let both = both_false (has x.0 fds) (eqb fd.0 x.0) (sym (has_push x.0 fds fd) ∙ each.1) in
    let other : x.0 ≢ fd.0 = λ e. eqb-false fd.0 x.0 both.1 (sym e) in
    (subst IsSome (sym (put_other d.opens fd.0 None x.0 other)) each.0, both.0, open_rest d fds fd each.2)

-- a disk with other open descriptors
abbrev pub with_opens : Disk → (ℕ → Option Open) → Disk
with_opens d opens = record { dirs = d.dirs; names = d.names; files = d.files; opens = opens }

shut_at : (opens : ℕ → Option Open) (fd q : ℕ) (b : Bool) → (if b || eqb fd q then None else opens q) ≡ (if b then None else put opens fd None q)
unfolding put
shut_at opens fd q true = refl
shut_at opens fd q false = ap (λ (b : Bool). if b then None else opens q) (eqb_flip fd q)

-- to close the last and then the others is to close them all
pub shut_last : (d : Disk) (fds : List Fd) (fd : Fd) → shut (fds ++ fd ∷ []) d ≡ shut fds (effect d 0 (call.Close fd) told.Done 0)
shut_last d fds fd = ap (with_opens d) (fun_ext (λ q. ap (λ (b : Bool). if b then None else d.opens q) (has_push q fds fd) ∙ shut_at d.opens fd.0 q (has q fds)))

-- what is on the list is open
pub all_open : (d : Disk) (fds : List Fd) → AreApart fds → ((fd : ℕ) → has fd fds ≡ true → IsSome (d.opens fd)) → AreOpen d fds
all_open d [] each opens = tt
all_open d (x ∷ fds) each opens =
    let here : eqb x.0 x.0 ≡ true = ⊎_elim (λ h. h.0) (λ h. absurd (h.1 refl)) (eqb_tells x.0 x.0) in
    (opens x.0 (ap (λ b. b || has x.0 fds) here), each.0, all_open d fds each.1 (λ fd on. opens fd (ap (λ b. eqb x.0 fd || b) on ∙ or-true (eqb x.0 fd))))

-- closing the last of a list of open descriptors, if the disk tells
pub may_close_last : (t : Option Disk) (all fds : List Fd) (fd : Fd) → all ≡ fds ++ fd ∷ [] → OnTold t (λ d. AreOpen d all) → OnTold t (λ d. MayUse d fd.0)
may_close_last None all fds fd is each = tt
may_close_last (Some d) all fds fd is each = (open_last d fds fd (subst (AreOpen d) is each)).0

pub rest_stays : (t u : Option Disk) (all fds : List Fd) (fd : Fd) → all ≡ fds ++ fd ∷ [] → OnTold t (λ d. AreOpen d all)
    → Meets t u (λ d e. Apply d 0 (call.Close fd) told.Done e) → OnTold u (λ d. AreOpen d fds)
rest_stays None None all fds fd is each met = tt
rest_stays None (Some e) all fds fd is each met = absurd met
rest_stays (Some d) None all fds fd is each met = absurd met
rest_stays (Some d) (Some e) all fds fd is each met = subst (λ (e : Disk). AreOpen e fds) (sym met.2) (open_rest d fds fd (subst (AreOpen d) is each))

pub closed_more : (s t u : Option Disk) (begun all fds : List Fd) (fd : Fd) → all ≡ fds ++ fd ∷ [] → Meets s t (λ d e. shut all e ≡ shut begun d)
    → Meets t u (λ d e. Apply d 0 (call.Close fd) told.Done e) → Meets s u (λ d e. shut fds e ≡ shut begun d)
closed_more None None None begun all fds fd is done met = tt
closed_more None None (Some f) begun all fds fd is done met = absurd met
closed_more None (Some e) u begun all fds fd is done met = absurd done
closed_more (Some d) None u begun all fds fd is done met = absurd done
closed_more (Some d) (Some e) None begun all fds fd is done met = absurd met
closed_more (Some d) (Some e) (Some f) begun all fds fd is done met =
    ap (shut fds) met.2 ∙ sym (shut_last e fds fd) ∙ ap (λ (l : List Fd). shut l e) (sym is) ∙ done

pub closed_all : (s t : Option Disk) (begun all : List Fd) → all ≡ [] → Meets s t (λ d e. shut all e ≡ shut begun d) → Meets s t (λ d e. e ≡ shut begun d)
closed_all None None begun all none done = tt
closed_all None (Some e) begun all none done = absurd done
closed_all (Some d) None begun all none done = absurd done
closed_all (Some d) (Some e) begun all none done = sym (ap (λ (l : List Fd). shut l e) none) ∙ done
