-- What stands on a disk at each row of a drop.
use Rattle.std.proofs.Common.{◌≡◌, ◌≢◌, ℕ, List, [], ◌∷◌, ◌++◌, length, take, drop, true, false, Some, None, refl, sym, ap, ◌∙◌, subst, ⊎_elim, codes, append_assoc, arith}
use Rattle.std.specs.Prelude.{if◌then◌else◌}
use Rattle.std.proofs.lemmas.List.{append-nil, append_cancel_left, take-append-drop}
use Rattle.call_fs.specs.declared.calls.Answer.{Answer}
use Rattle.call_fs.specs.declared.calls.Answer.TheVariants as answer
use Rattle.call_fs.specs.declared.calls.CallData.TheVariants as call
use Rattle.call_fs.specs.declared.calls.Fd.{Fd}
use Rattle.call_fs.specs.declared.calls.FsError.TheVariants as error
use Rattle.call_fs.specs.declared.modes.Mode.{Mode}
use Rattle.call_fs.specs.declared.past.GotData.{GotData}
use Rattle.call_fs.specs.declared.past.Own.{Own}
use Rattle.call_fs.specs.Apply.{Apply, changed, grown, synced, with_new, with_name, without_open, empty_file}
use Rattle.call_fs.specs.Columns.{IsAnswerTo}
use Rattle.call_fs.specs.Disk.{File, Open as OpenFile, Disk, IsSynced, IsWhole}
use Rattle.call_fs.specs.Past.{LeadsTo, Makes}
use Rattle.call_fs.specs.Program.{MayCome}
use Rattle.call_fs.proofs.Maps.{put_same, put_at_same, put_at_other}
use Rattle.maildir_drop.specs.declared.arguments.Arguments.{Arguments}
use Rattle.maildir_drop.specs.declared.names.DropNames.{DropNames}
use Rattle.maildir_drop.specs.declared.row.Attempt.{Attempt}
use Rattle.maildir_drop.specs.declared.row.Attempt.TheVariants.{First, Second, Third}
use Rattle.maildir_drop.specs.declared.row.Outcome.{Outcome}
use Rattle.maildir_drop.specs.declared.row.Outcome.TheVariants.{Dropped, Failed}
use Rattle.maildir_drop.specs.declared.row.Row.{Row}
use Rattle.maildir_drop.specs.declared.row.Row.TheVariants as at
use Rattle.maildir_drop.specs.declared.row.Why.TheVariants as why
use Rattle.maildir_drop.specs.Laws.{HasDropped}
use Rattle.maildir_drop.specs.Names.{names_of, pair_at, is_name, file_name}
use Rattle.maildir_drop.specs.Rests.{IsKept, IsKeptOpen, LeavesAlone, Rests, RestsOn, Writing, due_of}
use Rattle.maildir_drop.specs.Run.{IsRun}
use Rattle.maildir_drop.specs.Table.{Place, appended, begin_row, begun, create_row, due_at, failed, is_complete, link_row, moved, next_row, place_after, sync_row, taken_row}
use Rattle.call_fs.proofs.Coming.{by_fit}

-- The names in `tmp` and `new` differ.

abbrev head_of : List ℕ → ℕ
head_of [] = 0
head_of (b ∷ bytes) = b

abbrev pub Apart : DropNames → Type 0
Apart names = (a : Attempt) → (pair_at names a).new ≢ (pair_at names a).tmp

heads_apart : (f : List ℕ) → codes "new/" ++ f ≢ codes "tmp/" ++ f
heads_apart f e = let h = ap head_of e in absurd (omega (arith, h))

dirs_apart : (dir f : List ℕ) → dir ++ (codes "new/" ++ f) ≢ dir ++ (codes "tmp/" ++ f)
dirs_apart dir f e = heads_apart f (append_cancel_left dir (codes "new/" ++ f) (codes "tmp/" ++ f) e)

pub apart : (args : Arguments) → Apart (names_of args)
apart args First = dirs_apart args.dir (file_name args.moment args.pid args.host First)
apart args Second = dirs_apart args.dir (file_name args.moment args.pid args.host Second)
apart args Third = dirs_apart args.dir (file_name args.moment args.pid args.host Third)

-- What lies on the disk after a step of its own: what it rests on, and once its link is made its file in `new`.

abbrev pub Lies : DropNames → List ℕ → Row → List ℕ → Disk → Type 0
Lies names bytes (at.Create a) left d = left ≡ bytes
Lies names bytes (at.Append a fd) left d = Writing (pair_at names a).tmp bytes fd left d
Lies names bytes (at.Sync a fd) left d = Writing (pair_at names a).tmp bytes fd [] d
Lies names bytes (at.Close a fd) left d = IsWhole d (pair_at names a).tmp bytes
Lies names bytes (at.Link a) left d = IsWhole d (pair_at names a).tmp bytes
Lies names bytes (at.Shut a fd reason) left d = Unit {0}
Lies names bytes (at.Unlink a Dropped) left d = IsWhole d (pair_at names a).new bytes
Lies names bytes (at.Unlink a (Failed reason)) left d = Unit {0}
Lies names bytes (at.Ended a Dropped) left d = IsWhole d (pair_at names a).new bytes
Lies names bytes (at.Ended a (Failed reason)) left d = Unit {0}

module _ (names : DropNames) (bytes : List ℕ) where
  pub begins : (a : Attempt) (left : List ℕ) (d : Disk) → left ≡ bytes → Lies names bytes (begin_row names a) left d
  begins a left d e = elim (is_name (pair_at names a).tmp) as (λ t. Lies names bytes (if t then at.Create a else failed a why.Defer) left d) [ true ↦ e | false ↦ tt ]

  takes : (a : Attempt) (left : List ℕ) (d : Disk) → left ≡ bytes → Lies names bytes (taken_row names a) left d
  takes First left d e = begins Second left d e
  takes Second left d e = begins Third left d e
  takes Third left d e = tt

  goes_on : (a : Attempt) (fd : Fd) (left : List ℕ) (d : Disk) → Writing (pair_at names a).tmp bytes fd left d → Lies names bytes (next_row a fd (is_complete left)) left d
  goes_on a fd [] d w = w
  goes_on a fd (b ∷ left) d w = w

  module _ (left : List ℕ) (d : Disk) (now : ℕ) where
    creates : (a : Attempt) (told : Answer) (e : Disk) → Lies names bytes (at.Create a) left d → IsAnswerTo (call.CreateExcl (pair_at names a).tmp) told
        → Apply d now (call.CreateExcl (pair_at names a).tmp) told e → Lies names bytes (create_row names a (is_complete left) told) left e
    creates a (answer.Created fd n) e r fit applied =
        let name = (pair_at names a).tmp in
        let next : Disk = with_new d now name fd.0 n in
        let w : Writing name bytes fd left next = (
          n,
          put_at_same d.names name (Some n),
          put_same d.opens fd.0 (Some (record { number = n; mode = Mode.Created })),
          ap (λ (f : File). f.bytes ++ left) (put_same d.files n (empty_file now)) ∙ r,
        ) in
        goes_on a fd left e (subst (Writing name bytes fd left) (sym applied.2) w)
    creates a (answer.Refused error.Exists) e r fit applied = takes a left e r
    creates a (answer.Refused error.NotThere) e r fit applied = tt
    creates a (answer.Refused error.Fault) e r fit applied = tt
    creates a (answer.Refused error.Memory) e r fit applied = tt
    creates a told e r fit applied = absurd fit

    -- the file of an open descriptor after it changed
    changed_is : (name : List ℕ) (fd : Fd) (rest : List ℕ) (f : File → File) (w : Writing name bytes fd rest d)
        → changed d (d.opens fd.0) f ≡ changed d (Some (record { number = w.0; mode = Mode.Created })) f
    changed_is name fd rest f w = ap (λ o. changed d o f) w.2

    appends : (a : Attempt) (fd : Fd) (told : Answer) (e : Disk) → Lies names bytes (at.Append a fd) left d → IsAnswerTo (call.Append fd (take 8192 left)) told
        → Apply d now (call.Append fd (take 8192 left)) told e → Lies names bytes (appended a fd left told).row (appended a fd left told).left e
    appends a fd answer.Done e w fit applied =
        let name = (pair_at names a).tmp in
        let more : List ℕ = take 8192 left in
        let f : File → File = grown now more in
        let o : OpenFile = record { number = w.0; mode = Mode.Created } in
        let next : Disk = changed d (Some o) f in
        let is : e ≡ next = applied.2 ∙ changed_is name fd left f w in
        let after : Writing name bytes fd (drop 8192 left) next = (
          w.0,
          w.1,
          w.2,
          ap (λ (g : File). g.bytes ++ drop 8192 left) (put_same d.files w.0 (f (d.files w.0)))
              ∙ append_assoc (d.files w.0).bytes more (drop 8192 left) ∙ ap (λ t. (d.files w.0).bytes ++ t) (take-append-drop 8192 left) ∙ w.3,
        ) in
        goes_on a fd (drop 8192 left) e (subst (Writing name bytes fd (drop 8192 left)) (sym is) after)
    appends a fd (answer.Refused reason) e w fit applied = tt
    appends a fd told e w fit applied = absurd fit

    syncs : (a : Attempt) (fd : Fd) (told : Answer) (e : Disk) → Lies names bytes (at.Sync a fd) left d → IsAnswerTo (call.Sync fd) told
        → Apply d now (call.Sync fd) told e → Lies names bytes (sync_row a fd told) left e
    syncs a fd answer.Done e w fit applied =
        let name = (pair_at names a).tmp in
        let o : OpenFile = record { number = w.0; mode = Mode.Created } in
        let next : Disk = changed d (Some o) synced in
        let is : e ≡ next = applied.2 ∙ changed_is name fd [] synced w in
        let all : (d.files w.0).bytes ≡ bytes = sym (append-nil (d.files w.0).bytes) ∙ w.3 in
        let whole : IsSynced (synced (d.files w.0)) bytes = record { holds = all; all = all; none_given = refl; no_shorter = ap length all; no_longer = ap length all } in
        let after : IsWhole next name bytes = (w.0, w.1, subst (λ g. IsSynced g bytes) (sym (put_same d.files w.0 (synced (d.files w.0)))) whole) in
        subst (λ x. IsWhole x name bytes) (sym is) after
    syncs a fd (answer.Refused reason) e w fit applied = tt
    syncs a fd told e w fit applied = absurd fit

    closes : (name : List ℕ) (fd : Fd) (told : Answer) (e : Disk) → IsWhole d name bytes → IsAnswerTo (call.Close fd) told → Apply d now (call.Close fd) told e → IsWhole e name bytes
    closes name fd answer.Done e w fit applied =
        let next : Disk = without_open d fd.0 in
        let after : IsWhole next name bytes = (w.0, w.1, w.2) in
        subst (λ x. IsWhole x name bytes) (sym applied.2) after
    closes name fd told e w fit applied = absurd fit

    links : (a : Attempt) (told : Answer) (e : Disk) → Lies names bytes (at.Link a) left d → IsAnswerTo (call.Link (pair_at names a).tmp (pair_at names a).new) told
        → Apply d now (call.Link (pair_at names a).tmp (pair_at names a).new) told e → Lies names bytes (link_row a told) left e
    links a answer.Done e w fit applied =
        let tmp = (pair_at names a).tmp in
        let new = (pair_at names a).new in
        let next : Disk = with_name d new (d.names tmp) in
        let after : IsWhole next new bytes = (w.0, put_at_same d.names new (d.names tmp) ∙ w.1, w.2) in
        subst (λ x. IsWhole x new bytes) (sym applied.2) after
    links a (answer.Refused reason) e w fit applied = tt
    links a told e w fit applied = absurd fit

    unlinks : (a : Attempt) (o : Outcome) (told : Answer) (e : Disk) → (pair_at names a).new ≢ (pair_at names a).tmp → Lies names bytes (at.Unlink a o) left d
        → IsAnswerTo (call.Unlink (pair_at names a).tmp) told → Apply d now (call.Unlink (pair_at names a).tmp) told e → Lies names bytes (at.Ended a o) left e
    unlinks a Dropped answer.Done e differ w fit applied =
        let tmp = (pair_at names a).tmp in
        let new = (pair_at names a).new in
        let next : Disk = with_name d tmp None in
        let after : IsWhole next new bytes = (w.0, put_at_other d.names tmp None new differ ∙ w.1, w.2) in
        subst (λ x. IsWhole x new bytes) (sym applied.2) after
    unlinks a Dropped (answer.Refused error.NotThere) e differ w fit applied = subst (λ x. IsWhole x (pair_at names a).new bytes) (sym applied.2) w
    unlinks a Dropped (answer.Refused error.Fault) e differ w fit applied = subst (λ x. IsWhole x (pair_at names a).new bytes) (sym applied.2) w
    unlinks a Dropped told e differ w fit applied = absurd fit
    unlinks a (Failed reason) told e differ w fit applied = tt

    abbrev pub StepOf : Row → GotData → Type 0
    StepOf row got = (e : Disk) → Lies names bytes row left d → Makes d now (due_at names row left) got e
        → Lies names bytes (moved names (record { row = row; left = left }) got).row (moved names (record { row = row; left = left }) got).left e

    pub step : (row : Row) (got : GotData) → Apart names → MayCome (due_at names row left) got → StepOf row got
    step (at.Create a) got differ may = by_fit (call.CreateExcl (pair_at names a).tmp) (StepOf (at.Create a)) got may (λ told fit e r made. creates a told.answer e r fit made.0)
    step (at.Append a fd) got differ may = by_fit (call.Append fd (take 8192 left)) (StepOf (at.Append a fd)) got may (λ told fit e r made. appends a fd told.answer e r fit made.0)
    step (at.Sync a fd) got differ may = by_fit (call.Sync fd) (StepOf (at.Sync a fd)) got may (λ told fit e r made. syncs a fd told.answer e r fit made.0)
    step (at.Close a fd) got differ may = by_fit (call.Close fd) (StepOf (at.Close a fd)) got may (λ told fit e r made. closes (pair_at names a).tmp fd told.answer e r fit made.0)
    step (at.Link a) got differ may =
        by_fit (call.Link (pair_at names a).tmp (pair_at names a).new) (StepOf (at.Link a)) got may (λ told fit e r made. links a told.answer e r fit made.0)
    step (at.Shut a fd reason) got differ may = by_fit (call.Close fd) (StepOf (at.Shut a fd reason)) got may (λ told fit e r made. tt)
    step (at.Unlink a o) got differ may = by_fit (call.Unlink (pair_at names a).tmp) (StepOf (at.Unlink a o)) got may (λ told fit e r made. unlinks a o told.answer e (differ a) r fit made.0)
    step (at.Ended a o) got differ may = absurd may

-- It rests on what lies there, and steps of its own keep that.

rested : (names : DropNames) (bytes : List ℕ) (row : Row) (left : List ℕ) (d : Disk) → Lies names bytes row left d → Rests names bytes row left d
rested names bytes (at.Create a) left d l = l
rested names bytes (at.Append a fd) left d l = l
rested names bytes (at.Sync a fd) left d l = l
rested names bytes (at.Close a fd) left d l = l
rested names bytes (at.Link a) left d l = l
rested names bytes (at.Shut a fd reason) left d l = tt
rested names bytes (at.Unlink a o) left d l = tt
rested names bytes (at.Ended a o) left d l = tt

abbrev pub LiesOn : Arguments → Place → Disk → Type 0
LiesOn args p d = Lies (names_of args) args.bytes p.row p.left d

begun_lies : (args : Arguments) (d : Disk) → LiesOn args (begun args) d
begun_lies args d = begins (names_of args) args.bytes First args.bytes d refl

lies_on : (args : Arguments) (p : Place) (now : ℕ) (got : GotData) (before after : Disk) → LiesOn args p before → MayCome (due_of args p) got
    → Makes before now (due_of args p) got after → LiesOn args (moved (names_of args) p got) after
lies_on args p now got before after l may made = step (names_of args) args.bytes p.left before now p.row got (apart args) may after l made

pub begun_rests : (args : Arguments) (d : Disk) → RestsOn args (begun args) d
begun_rests args d = rested (names_of args) args.bytes (begun args).row args.bytes d (begun_lies args d)

-- where the link isn't made yet, what it rests on lies there
pub rests_on : (args : Arguments) (p : Place) (now : ℕ) (got : GotData) (before after : Disk) → RestsOn args p before → MayCome (due_of args p) got
    → Makes before now (due_of args p) got after → RestsOn args (moved (names_of args) p got) after
rests_on args p now got before after r may made = by p.row r may made
  where
    names : DropNames
    names = names_of args

    to : Row → Place
    to row = moved names (record { row = row; left = p.left }) got

    onward : (row : Row) → Lies names args.bytes row p.left before → MayCome (due_at names row p.left) got → Makes before now (due_at names row p.left) got after
        → Rests names args.bytes (to row).row (to row).left after
    onward row l may made = rested names args.bytes (to row).row (to row).left after (step names args.bytes p.left before now row got (apart args) may after l made)

    by : (row : Row) → Rests names args.bytes row p.left before → MayCome (due_at names row p.left) got → Makes before now (due_at names row p.left) got after
        → Rests names args.bytes (to row).row (to row).left after
    by (at.Create a) r may made = onward (at.Create a) r may made
    by (at.Append a fd) r may made = onward (at.Append a fd) r may made
    by (at.Sync a fd) r may made = onward (at.Sync a fd) r may made
    by (at.Close a fd) r may made = onward (at.Close a fd) r may made
    by (at.Link a) r may made = onward (at.Link a) r may made
    by (at.Shut a fd reason) r may made = onward (at.Shut a fd reason) tt may made
    by (at.Unlink a o) r may made =
        by_fit (call.Unlink (pair_at names a).tmp) (λ g. Rests names args.bytes (moved names (record { row = at.Unlink a o; left = p.left }) g).row (moved names (record { row = at.Unlink a o; left = p.left }) g).left after)
        got may (λ told fit. tt)
    by (at.Ended a o) r may made = absurd may

-- It rests on another disk too that has what it rests on.

kept_whole : (name bytes : List ℕ) (d e : Disk) → IsKept name d e → IsWhole d name bytes → IsWhole e name bytes
kept_whole name bytes d e kept w =
    let k = kept w.0 w.1 in
    (w.0, k.0, subst (λ (f : File). IsSynced f bytes) (sym k.1) w.2)

kept_writing : (name bytes : List ℕ) (fd : Fd) (left : List ℕ) (d e : Disk) → IsKeptOpen name fd d e → Writing name bytes fd left d → Writing name bytes fd left e
kept_writing name bytes fd left d e kept w =
    let k = kept.0 w.0 w.1 in
    (w.0, k.0, kept.1 (record { number = w.0; mode = Mode.Created }) w.2, ap (λ (f : File). f.bytes ++ left) k.1 ∙ w.3)

stays_at : (names : DropNames) (bytes : List ℕ) (row : Row) (left : List ℕ) (d e : Disk) → LeavesAlone names row d e → Rests names bytes row left d → Rests names bytes row left e
stays_at names bytes (at.Create a) left d e kept r = r
stays_at names bytes (at.Append a fd) left d e kept r = kept_writing (pair_at names a).tmp bytes fd left d e kept r
stays_at names bytes (at.Sync a fd) left d e kept r = kept_writing (pair_at names a).tmp bytes fd [] d e kept r
stays_at names bytes (at.Close a fd) left d e kept r = kept_whole (pair_at names a).tmp bytes d e kept r
stays_at names bytes (at.Link a) left d e kept r = kept_whole (pair_at names a).tmp bytes d e kept r
stays_at names bytes (at.Shut a fd reason) left d e kept r = tt
stays_at names bytes (at.Unlink a o) left d e kept r = tt
stays_at names bytes (at.Ended a o) left d e kept r = tt

pub rests_still : (args : Arguments) (p : Place) (d e : Disk) → LeavesAlone (names_of args) p.row d e → RestsOn args p d → RestsOn args p e
rests_still args p d e kept r = stays_at (names_of args) args.bytes p.row p.left d e kept r

-- The link is made of what it rests on, and puts that into `new`.

lying : (args : Arguments) (p : Place) (attempt : Attempt) (d : Disk) → HasDropped p.row attempt → LiesOn args p d → IsWhole d (pair_at (names_of args) attempt).new args.bytes
lying args p attempt d h l = ⊎_elim
    (λ e. subst (λ row. Lies (names_of args) args.bytes row p.left d) e l)
    (λ e. subst (λ row. Lies (names_of args) args.bytes row p.left d) e l)
    h

pub lands : (args : Arguments) (p : Place) (attempt : Attempt) (now : ℕ) (got : GotData) (before after : Disk) → RestsOn args p before → p.row ≡ at.Link attempt
    → MayCome (due_of args p) got → Makes before now (due_of args p) got after → HasDropped (moved (names_of args) p got).row attempt
    → IsWhole after (pair_at (names_of args) attempt).new args.bytes
lands args p attempt now got before after r e may made h =
    let same : RestsOn args p before ≡ LiesOn args p before = ap (λ row. Rests (names_of args) args.bytes row p.left before) e ∙ sym (ap (λ row. Lies (names_of args) args.bytes row p.left before) e) in
    lying args (moved (names_of args) p got) attempt after h (lies_on args p now got before after (subst (λ T. T) same r) may made)

-- after each run of its calls alone

lies : (args : Arguments) (past : List Own) (first last : Disk) → IsRun args past → LeadsTo first past last → LiesOn args (place_after args past) last
lies args [] first last run leads = begun_lies args last
lies args (event ∷ before) first last run leads =
    let p : Place = place_after args before in
    let may = subst (λ x. MayCome x event.came) (sym run.1.0) run.1.1 in
    let made = subst (λ x. Makes leads.0 event.read x event.came last) (sym run.1.0) leads.2 in
    lies_on args p event.read event.came leads.0 last (lies args before first leads.0 run.0 leads.1) may made

pub whole_before : (args : Arguments) (past : List Own) (attempt : Attempt) (first last : Disk) → IsRun args past → LeadsTo first past last
    → (place_after args past).row ≡ at.Link attempt → IsWhole last (pair_at (names_of args) attempt).tmp args.bytes
whole_before args past attempt first last run leads e =
    subst (λ row. Lies (names_of args) args.bytes row (place_after args past).left last) e (lies args past first last run leads)

pub whole_after : (args : Arguments) (past : List Own) (attempt : Attempt) (first last : Disk) → IsRun args past → LeadsTo first past last
    → HasDropped (place_after args past).row attempt → IsWhole last (pair_at (names_of args) attempt).new args.bytes
whole_after args past attempt first last run leads h = lying args (place_after args past) attempt last h (lies args past first last run leads)
